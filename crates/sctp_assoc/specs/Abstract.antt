-- The abstract association: what one association may reply to a call, and where that leads it; and the runs that are
-- made of such steps.
use Rattle.std.specs.Prelude.{◌≡◌, ℕ, true, false, List, [], ◌∷◌, Some, None}
use Rattle.sctp_streams.specs.declared.setting.Setting.TheVariants as settings
use Rattle.sctp_streams.specs.Stream.{params_of}
use Rattle.sctp_directions.specs.Acts.{Act, History}
use Rattle.sctp_assoc.specs.declared.call.Call.{Call}
use Rattle.sctp_assoc.specs.declared.call.Call.TheVariants as calls
use Rattle.sctp_assoc.specs.declared.call.Reply.{Reply}
use Rattle.sctp_assoc.specs.declared.call.Reply.TheVariants as replies
use Rattle.sctp_assoc.specs.Calls.{first_filled}
use Rattle.sctp_assoc.specs.Happened.{acts_of_close, acts_of_close_stream, acts_of_packet, acts_of_poll, acts_of_read}
use Rattle.sctp_assoc.specs.Happened.{acts_of_stop, acts_of_timeouts}
use Rattle.sctp_assoc.specs.Leads.{Binds, Leads}
use Rattle.sctp_assoc.specs.Replies.{Replies, packet_in}
use Rattle.sctp_assoc.specs.Shown.{Shown}

-- An association as it shows itself, with what is past of its two directions, which it shows no more: the offsets of
-- DATA that was taken in and passed over, and how far its own DATA is acknowledged.
pub record AbstractAssociation : Type 0 where
  pub shown : Shown
  pub past : History

-- an association stands on what is past; of one that failed nothing is asked
abbrev pub StandsOn : Shown → History → Type 0
StandsOn a h = a.failed ≡ false → Binds a h

-- what a call that is carried out does to the two directions
abbrev pub acts_of : Call → Shown → List Act
acts_of (calls.OpenStream id kind) a = Act.Opened id a.sender.queue.next_message_id kind ∷ []
acts_of (calls.Write id bytes) a = Act.Wrote id None bytes ∷ []
acts_of (calls.WriteWithPpi id bytes kind) a = Act.Wrote id (Some kind) bytes ∷ []
acts_of (calls.WriteSctp id bytes kind) a = Act.Wrote id (Some kind) bytes ∷ []
acts_of (calls.WriteChunk id bytes) a = Act.Wrote id None bytes ∷ []
acts_of (calls.WriteChunks id chunks) a = Act.Wrote id None (first_filled chunks.items) ∷ []
acts_of (calls.Read id) a = acts_of_read a id
acts_of (calls.ReadSctp id) a = acts_of_read a id
acts_of (calls.Finish id) a = Act.Adjusted id settings.WriteHalfClosed ∷ []
acts_of (calls.Stop id) a = acts_of_stop a id
acts_of (calls.CloseStream id) a = acts_of_close_stream a id
acts_of (calls.SetReliabilityParams id unordered kind value) a =
    Act.Adjusted id (settings.Reliability (params_of unordered kind value)) ∷ []
acts_of (calls.SetDefaultPayloadType id kind) a = Act.Adjusted id (settings.DefaultPayloadType kind) ∷ []
acts_of (calls.SetBufferedAmountLowThreshold id bytes) a = Act.Adjusted id (settings.LowMark bytes) ∷ []
acts_of (calls.SetBufferedAmountHighThreshold id bytes) a = Act.Adjusted id (settings.HighMark bytes) ∷ []
acts_of calls.Close a = acts_of_close a
acts_of (calls.PollTransmit now) a = acts_of_poll a now
acts_of (calls.HandleTimeout now) a = acts_of_timeouts a now
acts_of (calls.HandleDatagram datagram remote now) a = acts_of_packet a (packet_in datagram) now
acts_of call a = []

-- a call that is refused does nothing
abbrev pub unless_refused : Reply → List Act → List Act
unless_refused (replies.Refused n) acts = []
unless_refused reply acts = acts

-- what a call does where this is replied; of a poll for packets that is refused its packets alone may have been lost,
-- for want of memory
abbrev pub acts_done : Call → Reply → Shown → List Act
acts_done (calls.PollTransmit now) reply a = acts_of_poll a now
acts_done call reply a = unless_refused reply (acts_of call a)

-- A step of the abstract association: a call leads from one to another, and from the packets that were given out so far
-- to more of them, with this reply. The call's acts add to what is past. An association that failed for want of memory
-- stays failed, and what is past stands still then.
pub record IsStep (call : Call) (from : AbstractAssociation) (packets : List (List ℕ)) (reply : Reply)
    (to : AbstractAssociation) (more : List (List ℕ)) : Type 0 where
  pub replied : Replies call from.shown packets reply to.shown more
  pub led : to.shown.failed ≡ false
      → Leads (acts_done call reply from.shown) from.shown from.past to.shown to.past
  pub stands_still : to.shown.failed ≡ true → to.past ≡ from.past
  pub stays_failed : from.shown.failed ≡ true → to.shown.failed ≡ true

-- a list of calls with their replies is a run of such steps
abbrev pub IsRun : List Call → AbstractAssociation → List (List ℕ) → List Reply → AbstractAssociation
    → List (List ℕ) → Type 0
IsRun [] from packets [] to more = (to ≡ from) × (more ≡ packets)
IsRun (call ∷ calls) from packets (reply ∷ replies) to more =
    (next : AbstractAssociation) × (given : List (List ℕ)) × IsStep call from packets reply next given
    × IsRun calls next given replies to more
IsRun [] from packets (reply ∷ replies) to more = ⊥
IsRun (call ∷ calls) from packets [] to more = ⊥

abbrev pub abstract : Shown → History → AbstractAssociation
abstract a h = record { shown = a; past = h }

-- From all that is past on which the association stands, the call is a step to some on which it stands then.
pub record StepsOn (call : Call) (a : Shown) (packets : List (List ℕ)) (reply : Reply) (b : Shown)
    (more : List (List ℕ)) : Type 0 where
  pub from : (h : History) → StandsOn a h
      → (k : History) × IsStep call (abstract a h) packets reply (abstract b k) more × StandsOn b k

-- And so are the calls a run.
pub record RunsOn (calls : List Call) (a : Shown) (packets : List (List ℕ)) (replies : List Reply) (b : Shown)
    (more : List (List ℕ)) : Type 0 where
  pub from : (h : History) → StandsOn a h
      → (k : History) × IsRun calls (abstract a h) packets replies (abstract b k) more × StandsOn b k
