-- Steps of an association behind which nothing waits to be read but what was made of DATA of which something is so, if
-- that was so before: those that leave what waits to be read, and those that drop it all.
use Rattle.std.proofs.Common.{◌≡◌, refl, sym, subst, ℕ, Bool, true, false, if◌then◌else◌}
use Rattle.std.specs.List.{AllByRecursion}
use Rattle.sctp_wire_types.specs.declared.chunk.Chunk.{Chunk}
use Rattle.sctp_wire_types.specs.declared.chunk.ChunkPayloadData.{ChunkPayloadData}
use Rattle.sctp_wire_types.specs.declared.param.ReconfigResult.{ReconfigResult}
use Rattle.sctp_streams.specs.declared.event.AssociationError.{AssociationError}
use Rattle.sctp_streams.specs.declared.event.AssociationError.TheVariants as reasons
use Rattle.sctp_resets.specs.Resets.{Beside, Resetting}
use Rattle.sctp_assoc.specs.Calls.{eased, tells_window, told_if}
use Rattle.sctp_assoc.specs.Closing.{closed_by, closed_open, exhausted, is_closed_state, is_exhausted, out_of_resource}
use Rattle.sctp_assoc.specs.Closing.{relieved}
use Rattle.sctp_assoc.specs.Control.{asking, queued}
use Rattle.sctp_assoc.specs.Resets.{asking_if, responding, with_beside, with_resetting}
use Rattle.sctp_assoc.specs.Shown.{Shown}
use Rattle.sctp_sides.specs.Brought.{SideHoldsOnly}
use Rattle.sctp_sides.specs.Held.{IsHeldOnly, StreamsHoldOnly}

-- Where the first association holds only DATA of which this is so, the second one does.
pub record KeepsHeld (P : ChunkPayloadData → Type 0) (a b : Shown) : Type 0 where
  pub holds : SideHoldsOnly P a → SideHoldsOnly P b

-- The DATA of which something is so.
module _ (P : ChunkPayloadData → Type 0) where
  -- no step, and two steps
  pub stays_held : (a : Shown) → KeepsHeld P a a
  stays_held a = record { holds = λ h. h }

  pub then_held : {a b c : Shown} → KeepsHeld P a b → KeepsHeld P b c → KeepsHeld P a c
  then_held first second = record { holds = λ h. second.holds (first.holds h) }

  -- to the same association
  pub same_side_held : (a b : Shown) → b ≡ a → KeepsHeld P a b
  same_side_held a b e = subst (KeepsHeld P a) (sym e) (stays_held a)

  -- only streams, and what is kept for generations that are not read yet, count
  pub same_held : (a b : Shown) → b.streams ≡ a.streams
      → b.resets.generations.deferred ≡ a.resets.generations.deferred → KeepsHeld P a b
  same_held a b streams kept = record {
    holds = λ h. record {
      streams = subst (StreamsHoldOnly P) (sym streams) h.streams;
      kept = subst (AllByRecursion P) (sym kept) h.kept;
    };
  }

  -- what is kept stays
  pub streams_held : (a b : Shown) → (SideHoldsOnly P a → StreamsHoldOnly P b.streams)
      → b.resets.generations.deferred ≡ a.resets.generations.deferred → KeepsHeld P a b
  streams_held a b streams kept = record {
    holds = λ h. record { streams = streams h; kept = subst (AllByRecursion P) (sym kept) h.kept };
  }

  -- one packet more waits to go out, or the place of a request

  pub queued_held : (a : Shown) (chunk : Chunk) → KeepsHeld P a (queued a chunk)
  queued_held a chunk = same_held a (queued a chunk) refl refl

  pub asking_if_held : (asks_for : Bool) (a : Shown) → KeepsHeld P a (asking_if asks_for a)
  asking_if_held true a = same_held a (asking a) refl refl
  asking_if_held false a = stays_held a

  pub responding_held : (a : Shown) (number : ℕ) (result : ReconfigResult)
      → KeepsHeld P a (responding a number result)
  responding_held a number result = queued_held a _

  -- what resets leave of resets and streams

  beside_holds : (a : Shown) (x : Beside) → IsHeldOnly P x.0 x.1 → SideHoldsOnly P (with_beside a x)
  beside_holds a (r, m, told) h = h

  pub beside_held : (a : Shown) (x : Beside) → (SideHoldsOnly P a → IsHeldOnly P x.0 x.1)
      → KeepsHeld P a (with_beside a x)
  beside_held a x still = record { holds = λ h. beside_holds a x (still h) }

  pub resetting_holds : (a : Shown) (x : Resetting) → IsHeldOnly P x.0 x.1.streams
      → SideHoldsOnly P (with_resetting a x)
  resetting_holds a (r, c) h = h

  pub resetting_held : (a : Shown) (x : Resetting) → (SideHoldsOnly P a → IsHeldOnly P x.0 x.1.streams)
      → KeepsHeld P a (with_resetting a x)
  resetting_held a x still = record { holds = λ h. resetting_holds a x (still h) }

  -- A close drops all that waits to be read

  closed_held_if : (closed : Bool) (a : Shown) (reason : AssociationError)
      → KeepsHeld P a (if closed then a else closed_open a reason)
  closed_held_if true a reason = stays_held a
  closed_held_if false a reason = record { holds = λ h. record { streams = tt; kept = tt } }

  pub closed_held : (a : Shown) (reason : AssociationError) → KeepsHeld P a (closed_by a reason)
  closed_held a reason = closed_held_if (is_closed_state a.state) a reason

  pub exhausted_held : (a : Shown) → KeepsHeld P a (exhausted a)
  exhausted_held a =
      then_held (closed_held a reasons.ReceiveBufferExhausted)
      (queued_held (closed_by a reasons.ReceiveBufferExhausted) out_of_resource)

  relieved_held_if : (e : Bool) (a : Shown) → KeepsHeld P a (if e then exhausted a else a)
  relieved_held_if true a = exhausted_held a
  relieved_held_if false a = stays_held a

  -- an exhausted receive buffer closes, or nothing changes
  pub relieved_held : (a : Shown) → KeepsHeld P a (relieved a)
  relieved_held a = relieved_held_if (is_exhausted a) a

  told_held : (c : Bool) (a : Shown) → KeepsHeld P a (told_if c a)
  told_held true a = same_held a (told_if true a) refl refl
  told_held false a = stays_held a

  -- so it is where a window that opened is told besides
  pub eased_held : (before : ℕ) (a : Shown) → KeepsHeld P a (eased before a)
  eased_held before a =
      let b : Shown = relieved a in then_held (relieved_held a) (told_held (tells_window before b) b)
