-- Steps of an association that keep what the rules keep: those that only queue a packet, those of resets, and those
-- that close it.
use Rattle.std.proofs.Common.{refl, ℕ, Bool, true, false, if◌then◌else◌, List}
use Rattle.sctp_wire_types.specs.declared.chunk.Chunk.{Chunk}
use Rattle.sctp_wire_types.specs.declared.param.ReconfigResult.{ReconfigResult}
use Rattle.sctp_streams.specs.declared.event.AssociationError.{AssociationError}
use Rattle.sctp_streams.specs.declared.event.AssociationError.TheVariants as reasons
use Rattle.sctp_streams.specs.declared.event.Event.{Event}
use Rattle.sctp_streams.specs.Streams.{StreamMap}
use Rattle.sctp_resets.specs.Resets.{Beside, Resetting}
use Rattle.sctp_resets.specs.Within.{ResetsOver}
use Rattle.sctp_resets.proofs.KeptOver.{closed_over}
use Rattle.sctp_assoc.specs.Calls.{eased, tells_window, told_if}
use Rattle.sctp_assoc.specs.Closing.{closed_by, closed_open, exhausted, is_closed_state, is_exhausted, out_of_resource}
use Rattle.sctp_assoc.specs.Closing.{relieved}
use Rattle.sctp_assoc.specs.Control.{asking, queued}
use Rattle.sctp_assoc.specs.Resets.{asking_if, responding, with_beside, with_resetting}
use Rattle.sctp_assoc.specs.Shown.{Shown}
use Rattle.sctp_closed.proofs.Rules.{IsUnended, Keeps, SideIs, stays, still_keeps, then_keeps}

module _ (over : ℕ → Bool) (P : Bool → StreamMap → List Event → Type 0) where
  -- one packet more waits to go out, or the place of a request

  pub queued_keeps : (a : Shown) (chunk : Chunk) → Keeps over P a (queued a chunk)
  queued_keeps a chunk = still_keeps over P a (queued a chunk) refl (λ h. h)

  pub asking_if_keeps : (asks_for : Bool) (a : Shown) → Keeps over P a (asking_if asks_for a)
  asking_if_keeps true a = still_keeps over P a (asking a) refl (λ h. h)
  asking_if_keeps false a = stays over P a

  pub responding_keeps : (a : Shown) (number : ℕ) (result : ReconfigResult)
      → Keeps over P a (responding a number result)
  responding_keeps a number result = queued_keeps a _

  -- what resets leave of resets, streams and events

  pub beside_keeps : (a : Shown) (x : Beside) → (ResetsOver over a.resets → ResetsOver over x.0)
      → (ResetsOver over a.resets → SideIs P a → P a.lost x.1 x.2) → Keeps over P a (with_beside a x)
  beside_keeps a (r, m, told) resets still = record { resets = resets; keeps = still }

  pub resetting_keeps : (a : Shown) (x : Resetting) → (ResetsOver over a.resets → ResetsOver over x.0)
      → (ResetsOver over a.resets → SideIs P a → P a.lost x.1.streams x.1.events)
      → Keeps over P a (with_resetting a x)
  resetting_keeps a (r, c) resets still = record { resets = resets; keeps = still }

-- Closes
module _ (over : ℕ → Bool) (P : Bool → StreamMap → List Event → Type 0) (law : IsUnended over P) where
  closed_if : (closed : Bool) (a : Shown) (reason : AssociationError)
      → Keeps over P a (if closed then a else closed_open a reason)
  closed_if true a reason = stays over P a
  closed_if false a reason = record {
    resets = λ r. closed_over over a.resets r;
    keeps = λ r h. law.closes a.lost a.streams a.events reason h;
  }

  pub closed_keeps : (a : Shown) (reason : AssociationError) → Keeps over P a (closed_by a reason)
  closed_keeps a reason = closed_if (is_closed_state a.state) a reason

  pub exhausted_keeps : (a : Shown) → Keeps over P a (exhausted a)
  exhausted_keeps a =
      then_keeps over P (closed_keeps a reasons.ReceiveBufferExhausted)
      (queued_keeps over P (closed_by a reasons.ReceiveBufferExhausted) out_of_resource)

  relieved_if : (e : Bool) (a : Shown) → Keeps over P a (if e then exhausted a else a)
  relieved_if true a = exhausted_keeps a
  relieved_if false a = stays over P a

  -- an exhausted receive buffer closes, or nothing changes
  relieved_keeps : (a : Shown) → Keeps over P a (relieved a)
  relieved_keeps a = relieved_if (is_exhausted a) a

  told_window_if : (tells : Bool) (a : Shown) → Keeps over P a (told_if tells a)
  told_window_if true a = still_keeps over P a (told_if true a) refl (λ h. h)
  told_window_if false a = stays over P a

  -- so it is behind a read or a stop, and then a window that opened may be told
  pub eased_keeps : (before : ℕ) (a : Shown) → Keeps over P a (eased before a)
  eased_keeps before a =
      then_keeps over P (relieved_keeps a) (told_window_if (tells_window before (relieved a)) (relieved a))
