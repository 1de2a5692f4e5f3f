-- What lasts from one world to the next.
use Rattle.std.specs.Prelude.{◌≡◌, ℕ, true, false}
use Rattle.sctp_model.specs.Messages.{is_reliable, message_at}
use Rattle.sctp_model.specs.Machine.{Direction}
use Rattle.sctp_assoc.specs.Shown.{Shown}
use Rattle.sctp_steps.specs.Seen.{IsOpen}

-- a stream whose span is over stays so, and one within its span stays within it
abbrev pub StaysOver : Direction → Direction → Type 0
StaysOver before after = (s : ℕ) → before.over s ≡ true → after.over s ≡ true

abbrev pub StaysInSpan : Direction → Direction → Type 0
StaysInSpan before after = (s : ℕ) → before.over s ≡ false → after.over s ≡ false

-- no reliable message is given up (RFC 3758 section 3.5)
abbrev pub KeepsReliable : Direction → Direction → Type 0
KeepsReliable before after =
    (s i : ℕ) → is_reliable (message_at after.sender.plan s i).policy ≡ true → before.sender.gone s i ≡ false
    → after.sender.gone s i ≡ false

-- the receiver goes on to receive where its association a is open, and one that stopped does not begin again
abbrev pub ReceivesOn : Shown → Direction → Direction → Type 0
ReceivesOn a before after = IsOpen a → before.receiver.is_open ≡ true → after.receiver.is_open ≡ true

abbrev pub StaysClosed : Direction → Direction → Type 0
StaysClosed before after = before.receiver.is_open ≡ false → after.receiver.is_open ≡ false

-- nothing is passed over
abbrev pub PassesNothing : Direction → Direction → Type 0
PassesNothing before after = after.receiver.passed ≡ before.receiver.passed
