-- What waits to be read, and what stays buffered.
use Rattle.std.specs.Prelude.{◌≡◌, ◌<◌, ◌≤◌, ◌+◌, ℕ, true, false, List, ◌++◌, length, map, take, Option, Some, None}
use Rattle.sctp_model.specs.Messages.{accepted_bytes, bytes_below}
use Rattle.sctp_model.specs.Packets.{mem}
use Rattle.sctp_model.specs.Machine.{Direction}
use Rattle.sctp_model.specs.Safe.{IsKeptOrdered, IsKeptReliable, IsToBeHad, IsWhole, Letter, letter_written}
use Rattle.sctp_assoc.specs.Calls.{ready_messages}
use Rattle.sctp_assoc.specs.Shown.{Shown}
use Rattle.sctp_reassembly.specs.Stands.{letter_received}
use Rattle.sctp_assoc.specs.declared.call.Reply.{Reply}
use Rattle.sctp_assoc.specs.declared.call.Reply.TheVariants as replies
use Rattle.pair_callers.specs.Reading.{letter_at, letters_read}

-- the amount that a reply tells, if it is that of a question for buffered bytes
abbrev pub amount_in : Reply → Option ℕ
amount_in (replies.BufferedAmount n) = Some n
amount_in reply = None

-- the span of the stream is not over, and each message that was accepted on it so far is reliable
pub record IsReliable (w : Direction) (s : ℕ) : Type 0 where
  pub span : w.over s ≡ false
  pub reliable : IsKeptReliable w.sender.plan s

-- and ordered, too
pub record IsKept (w : Direction) (s : ℕ) : Type 0 where
  pub kept : IsReliable w s
  pub ordered : IsKeptOrdered w.sender.plan s

-- the first `count` messages of stream s are whole, and the next one is not
pub record IsLongest (w : Direction) (s count : ℕ) : Type 0 where
  pub within : count ≤ length (w.sender.plan.accepted s)
  pub whole : (i : ℕ) → i < count → IsWhole w.sender.plan w.receiver.taken s i
  pub longest : IsWhole w.sender.plan w.receiver.taken s count → ⊥

abbrev pub letters_accepted : Direction → ℕ → ℕ → List Letter
letters_accepted w s count = map letter_written (take count (w.sender.plan.accepted s))

-- what reads at this association would answer, one after another
abbrev pub letters_ready : Shown → ℕ → List Letter
letters_ready a s = map letter_received (ready_messages a s)

-- What was read and what can be read are together the longest front of the accepted messages that are whole.
pub record IsAllThatCame (a : Shown) (w : Direction) (s : ℕ) : Type 0 where
  pub count : ℕ
  pub front : IsLongest w s count
  pub letters : letters_read w s ++ letters_ready a s ≡ letters_accepted w s count

-- What was read is a front of the accepted messages that are whole.
pub record IsFrontOfWhatCame (w : Direction) (s : ℕ) : Type 0 where
  pub count : ℕ
  pub whole : (i : ℕ) → i < count → IsWhole w.sender.plan w.receiver.taken s i
  pub letters : letters_read w s ≡ letters_accepted w s count

-- What was read and what can be read are those messages that are to be had, by their numbers.
pub record IsAllToBeHad (a : Shown) (w : Direction) (s : ℕ) : Type 0 where
  pub numbers : List ℕ
  pub letters : letters_read w s ++ letters_ready a s ≡ map (letter_at w.sender.plan s) numbers
  pub sound : (i : ℕ) → mem i numbers ≡ true → IsToBeHad w.sender.plan w.receiver.taken s i
  pub complete : (i : ℕ) → IsToBeHad w.sender.plan w.receiver.taken s i → mem i numbers ≡ true

-- Of the bytes that were accepted on stream s, those that were not taken in are still buffered.
abbrev pub KeepsWhatDidNotCome : ℕ → Direction → ℕ → Type 0
KeepsWhatDidNotCome n w s =
    accepted_bytes w.sender.plan s ≤ n + bytes_below w.sender.plan (λ o. mem o w.receiver.taken) s
    (length w.sender.plan.places)
