-- What is so of the live streams of a side stays so, where each change of streams keeps it: changes of streams that are
-- made of others, and steps of an association that leave the streams, or end them all.
use Rattle.std.proofs.Common.{◌≡◌, refl, sym, subst, ℕ, Bool, true, false, if◌then◌else◌, Option, Some, None}
use Rattle.sctp_wire_types.specs.declared.chunk.Chunk.{Chunk}
use Rattle.sctp_wire_types.specs.declared.chunk.ChunkPayloadData.{ChunkPayloadData}
use Rattle.sctp_wire_types.specs.declared.ids.PayloadProtocolIdentifier.{PayloadProtocolIdentifier}
use Rattle.sctp_wire_types.specs.declared.param.ReconfigResult.{ReconfigResult}
use Rattle.sctp_receive_queues.specs.Messages.{ReceivedMessage}
use Rattle.sctp_receive_queues.specs.Reassembly.{Reassembly, taken}
use Rattle.sctp_streams.specs.declared.event.AssociationError.{AssociationError}
use Rattle.sctp_streams.specs.declared.event.AssociationError.TheVariants as reasons
use Rattle.sctp_streams.specs.Stream.{StreamView, read_with, released_from, stream_pushed, stream_read}
use Rattle.sctp_streams.specs.Stream.{with_ssn_given_back}
use Rattle.sctp_streams.specs.Streams.{StreamMap, change_at, changed_stream, given_back_in, is_generation, made}
use Rattle.sctp_streams.specs.Streams.{passed_in, pushed_at, pushed_in, read_at, read_in, released_in, stream_at}
use Rattle.sctp_streams.specs.Streams.{without_stream, without_streams}
use Rattle.sctp_resets.specs.Resets.{Beside, Resetting}
use Rattle.sctp_resets.proofs.ListsOver.{of_chosen}
use Rattle.sctp_assoc.specs.Calls.{eased, tells_window, told_if}
use Rattle.sctp_assoc.specs.Closing.{closed_by, closed_open, exhausted, is_closed_state, is_exhausted, out_of_resource}
use Rattle.sctp_assoc.specs.Closing.{relieved}
use Rattle.sctp_assoc.specs.Control.{asking, queued}
use Rattle.sctp_assoc.specs.Resets.{asking_if, responding, with_beside, with_resetting}
use Rattle.sctp_assoc.specs.Shown.{Shown}

-- the identifier that the counters of a stream name
abbrev pub name_of : StreamView → ℕ
name_of s = s.stats.stream_identifier

-- Each change of streams keeps this: one is changed but for its name, one is made, one ends, a FORWARD TSN passes over
-- all, and all end.
pub record IsKept (P : StreamMap → Type 0) : Type 0 where
  pub change : (f : StreamView → StreamView) → ((s : StreamView) → name_of (f s) ≡ name_of s) → (m : StreamMap)
      (id : ℕ) → P m → P (changed_stream f m id)
  pub make : (m : StreamMap) (id first : ℕ) (kind : PayloadProtocolIdentifier) → P m → P (made m id first kind)
  pub end_one : (m : StreamMap) (id : ℕ) → P m → P (without_stream m id)
  pub pass : (m : StreamMap) (tsn : ℕ) → P m → P (passed_in m tsn)
  pub end_all : (m : StreamMap) → P m → P (without_streams m)

-- Where it is so of the streams of the first association, it is so of those of the second.
pub record Keeps (P : StreamMap → Type 0) (a b : Shown) : Type 0 where
  pub holds : P a.streams → P b.streams

-- Changes of streams that are made of others
module _ (P : StreamMap → Type 0) (law : IsKept P) where
  pushed_is_change : (o : Option StreamView) (m : StreamMap) (id : ℕ) (p : ChunkPayloadData)
      → change_at (λ s. (stream_pushed s p).0) o m id ≡ (pushed_at o m id p).0
  pushed_is_change None m id p = refl
  pushed_is_change (Some s) m id p = refl

  pub pushed_in_kept : (m : StreamMap) (id : ℕ) (p : ChunkPayloadData) → P m → P (pushed_in m id p).0
  pushed_in_kept m id p h =
      subst P (pushed_is_change (stream_at m id) m id p)
      (law.change (λ s. (stream_pushed s p).0) (λ s. refl) m id h)

  read_with_name : (s : StreamView) (q : Reassembly × Option ReceivedMessage)
      → name_of (read_with s q).0 ≡ name_of s
  read_with_name s (r, None) = refl
  read_with_name s (r, Some message) = refl

  read_is_change : (o : Option StreamView) (m : StreamMap) (id : ℕ)
      → change_at (λ s. (stream_read s).0) o m id ≡ (read_at o m id).0
  read_is_change None m id = refl
  read_is_change (Some s) m id = refl

  pub read_in_kept : (m : StreamMap) (id : ℕ) → P m → P (read_in m id).0
  read_in_kept m id h =
      subst P (read_is_change (stream_at m id) m id)
      (law.change (λ s. (stream_read s).0) (λ s. read_with_name s (taken s.reassembly)) m id h)

  pub released_in_kept : (m : StreamMap) (id generation bytes : ℕ) → P m → P (released_in m id generation bytes)
  released_in_kept m id generation bytes h =
      of_chosen P (is_generation (stream_at m id) generation) (changed_stream (λ s. released_from s bytes) m id) m
      (law.change (λ s. released_from s bytes) (λ s. refl) m id h) h

  given_back_name : (unordered : Bool) (bytes : ℕ) (s : StreamView)
      → name_of (released_from (if unordered then s else with_ssn_given_back s) bytes) ≡ name_of s
  given_back_name true bytes s = refl
  given_back_name false bytes s = refl

  pub given_back_in_kept : (m : StreamMap) (id generation : ℕ) (unordered : Bool) (bytes : ℕ) → P m
      → P (given_back_in m id generation unordered bytes)
  given_back_in_kept m id generation unordered bytes h =
      of_chosen P (is_generation (stream_at m id) generation)
      (changed_stream (λ s. released_from (if unordered then s else with_ssn_given_back s) bytes) m id) m
      (law.change (λ s. released_from (if unordered then s else with_ssn_given_back s) bytes)
      (given_back_name unordered bytes) m id h) h

-- Steps of an association
module _ (P : StreamMap → Type 0) where
  -- no step, and two steps
  pub stays_kept : (a : Shown) → Keeps P a a
  stays_kept a = record { holds = λ h. h }

  pub then_kept : {a b c : Shown} → Keeps P a b → Keeps P b c → Keeps P a c
  then_kept first second = record { holds = λ h. second.holds (first.holds h) }

  -- to the same association
  pub same_side_kept : (a b : Shown) → b ≡ a → Keeps P a b
  same_side_kept a b e = subst (Keeps P a) (sym e) (stays_kept a)

  -- only streams count
  pub same_kept : (a b : Shown) → b.streams ≡ a.streams → Keeps P a b
  same_kept a b streams = record { holds = λ h. subst P (sym streams) h }

  -- they are changed
  pub streams_kept : (a b : Shown) → (P a.streams → P b.streams) → Keeps P a b
  streams_kept a b still = record { holds = still }

  -- one packet more waits to go out, or the place of a request

  pub queued_kept : (a : Shown) (chunk : Chunk) → Keeps P a (queued a chunk)
  queued_kept a chunk = same_kept a (queued a chunk) refl

  pub asking_if_kept : (asks_for : Bool) (a : Shown) → Keeps P a (asking_if asks_for a)
  asking_if_kept true a = same_kept a (asking a) refl
  asking_if_kept false a = stays_kept a

  pub responding_kept : (a : Shown) (number : ℕ) (result : ReconfigResult) → Keeps P a (responding a number result)
  responding_kept a number result = queued_kept a _

  -- what resets leave of streams

  beside_holds : (a : Shown) (x : Beside) → P x.1 → P (with_beside a x).streams
  beside_holds a (r, m, told) h = h

  pub beside_kept : (a : Shown) (x : Beside) → (P a.streams → P x.1) → Keeps P a (with_beside a x)
  beside_kept a x still = record { holds = λ h. beside_holds a x (still h) }

  pub resetting_holds : (a : Shown) (x : Resetting) → P x.1.streams → P (with_resetting a x).streams
  resetting_holds a (r, c) h = h

  pub resetting_kept : (a : Shown) (x : Resetting) → (P a.streams → P x.1.streams) → Keeps P a (with_resetting a x)
  resetting_kept a x still = record { holds = λ h. resetting_holds a x (still h) }

-- A close ends all streams
module _ (P : StreamMap → Type 0) (law : IsKept P) where
  closed_kept_if : (closed : Bool) (a : Shown) (reason : AssociationError)
      → Keeps P a (if closed then a else closed_open a reason)
  closed_kept_if true a reason = stays_kept P a
  closed_kept_if false a reason = record { holds = λ h. law.end_all a.streams h }

  pub closed_kept : (a : Shown) (reason : AssociationError) → Keeps P a (closed_by a reason)
  closed_kept a reason = closed_kept_if (is_closed_state a.state) a reason

  pub exhausted_kept : (a : Shown) → Keeps P a (exhausted a)
  exhausted_kept a =
      then_kept P (closed_kept a reasons.ReceiveBufferExhausted)
      (queued_kept P (closed_by a reasons.ReceiveBufferExhausted) out_of_resource)

  relieved_kept_if : (e : Bool) (a : Shown) → Keeps P a (if e then exhausted a else a)
  relieved_kept_if true a = exhausted_kept a
  relieved_kept_if false a = stays_kept P a

  -- an exhausted receive buffer closes, or nothing changes
  pub relieved_kept : (a : Shown) → Keeps P a (relieved a)
  relieved_kept a = relieved_kept_if (is_exhausted a) a

  told_kept : (c : Bool) (a : Shown) → Keeps P a (told_if c a)
  told_kept true a = same_kept P a (told_if true a) refl
  told_kept false a = stays_kept P a

  -- so it is where a window that opened is told besides
  pub eased_kept : (before : ℕ) (a : Shown) → Keeps P a (eased before a)
  eased_kept before a =
      let b : Shown = relieved a in then_kept P (relieved_kept a) (told_kept (tells_window before b) b)
