-- What can be seen of a step at one side: the message that it read, and whether a reset of a stream ended.
use Rattle.std.specs.Prelude.{◌≡◌, ℕ, Bool, true, false, ◌&&◌, ◌==◌, if◌then◌else◌, Option, Some, None}
use Rattle.sctp_receive_queues.specs.Messages.{ReceivedMessage}
use Rattle.sctp_assoc.specs.Closing.{is_closed_state}
use Rattle.sctp_assoc.specs.declared.call.Reply.{Reply}
use Rattle.sctp_assoc.specs.declared.call.Reply.TheVariants as replies
use Rattle.sctp_assoc.specs.Shown.{Shown}
use Rattle.sctp_reset_requests.specs.Ids.{has_id}
use Rattle.sctp_sides.specs.Restarts.{is_being_reset}
use Rattle.sctp_steps.specs.declared.step.Side2.{Side2}
use Rattle.sctp_steps.specs.declared.step.Side2.TheVariants as sides
use Rattle.sctp_steps.specs.declared.step.Step.{Step}
use Rattle.sctp_steps.specs.Steps.{reading_of}

abbrev pub other_side : Side2 → Side2
other_side sides.A = sides.B
other_side sides.B = sides.A

abbrev pub is_side : Side2 → Side2 → Bool
is_side sides.A sides.A = true
is_side sides.A sides.B = false
is_side sides.B sides.A = false
is_side sides.B sides.B = true

abbrev pub message_answered : Option (Side2 × ℕ) → Reply → Side2 → ℕ → Option ReceivedMessage
message_answered (Some reading) (replies.Read message) x s =
    if is_side reading.0 x && (reading.1 == s) then message else None
message_answered reading reply x s = None

-- the message that a step's read answers at side x on stream s
abbrev pub message_read : Step → Reply → Side2 → ℕ → Option ReceivedMessage
message_read step reply x s = message_answered (reading_of step) reply x s

-- neither closed nor failed
abbrev pub IsOpen : Shown → Type 0
IsOpen a = (a.failed ≡ false) × (is_closed_state a.state ≡ false)

-- A request of a side to reset stream s ended in success between before and after: it was sent and not answered before,
-- and is over after; the reset of the stream did not fail, and the side is neither closed nor failed. A response of the
-- peer ends it (RFC 6525 section 5.2.7), or a request of the peer that confirms it (section 5.2.2). Of a request that
-- names all streams, which no side of a pair makes, the failure of each stream is not marked.
pub record EndsReset (before after : Shown) (s : ℕ) : Type 0 where
  pub active : is_being_reset before s ≡ true
  pub ended : is_being_reset after s ≡ false
  pub unfailed : has_id s after.resets.debts.failed ≡ false
  pub stays_open : IsOpen after
