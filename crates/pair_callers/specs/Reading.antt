-- What a side reads.
use Rattle.std.specs.Prelude.{◌≡◌, ◌<◌, ℕ, List, [], ◌∷◌, ◌++◌, length, map, filter, Option, Some, None}
use Rattle.std.specs.List.{AllByRecursion}
use Rattle.sctp_receive_queues.specs.Messages.{ReceivedMessage}
use Rattle.sctp_model.specs.Messages.{Plan, message_at}
use Rattle.sctp_model.specs.Machine.{Direction}
use Rattle.sctp_model.specs.Safe.{AreDistinct, AreRising, IsWhole, Letter, is_ordered, letter_read, letter_written}
use Rattle.sctp_reassembly.specs.Stands.{letter_received}
use Rattle.sctp_assoc.specs.declared.call.Reply.{Reply}
use Rattle.sctp_assoc.specs.declared.call.Reply.TheVariants as replies

-- the message that a reply tells, if it is that of a read
abbrev pub message_in : Reply → Option ReceivedMessage
message_in (replies.Read message) = message
message_in reply = None

abbrev pub letters_of : Option ReceivedMessage → List Letter
letters_of None = []
letters_of (Some m) = letter_received m ∷ []

abbrev pub letters_read : Direction → ℕ → List Letter
letters_read w s = map letter_read (w.reads s)

-- This message, if there is one, was read next on the stream, and nothing on any other, past their spans too.
pub record ReadsNext (id : ℕ) (message : Option ReceivedMessage) (before after : Direction) : Type 0 where
  pub next : letters_read after id ≡ letters_read before id ++ letters_of message
  pub others : (s : ℕ) → (s ≡ id → ⊥) → letters_read after s ≡ letters_read before s

-- The letter is that of a message that was accepted on stream s, and each piece of that was taken in.
pub record IsOfAccepted (w : Direction) (s : ℕ) (letter : Letter) : Type 0 where
  pub number : ℕ
  pub accepted : number < length (w.sender.plan.accepted s)
  pub tells : letter ≡ letter_written (message_at w.sender.plan s number)
  pub whole : IsWhole w.sender.plan w.receiver.taken s number

abbrev pub letter_at : Plan → ℕ → ℕ → Letter
letter_at p s i = letter_written (message_at p s i)

-- What was read on stream s are these messages, by their numbers: each was accepted, none comes twice, and the ordered
-- ones come in the order of their acceptance.
pub record AreNumbered (w : Direction) (s : ℕ) : Type 0 where
  pub numbers : List ℕ
  pub tell : letters_read w s ≡ map (letter_at w.sender.plan s) numbers
  pub accepted : AllByRecursion (λ (i : ℕ). i < length (w.sender.plan.accepted s)) numbers
  pub once : AreDistinct numbers
  pub rising : AreRising (filter (is_ordered w.sender.plan s) numbers)
