-- What an observer is told.
use Rattle.std.specs.Prelude.{◌≡◌, ℕ, List, length, take, Result, Ok, Err}
use Rattle.sctp_wire_types.specs.declared.error.Error.{Error}
use Rattle.sctp_driver.specs.declared.sending.PollAnswer.{PollAnswer}
use Rattle.sctp_driver.specs.declared.sending.PollAnswer.TheVariants as sendings
use Rattle.sctp_driver.specs.declared.tags.DatagramAnswer.{DatagramAnswer}
use Rattle.sctp_driver.specs.declared.tags.DatagramAnswer.TheVariants as fates
use Rattle.sctp_watch.specs.declared.observer.Direction.{Direction}
use Rattle.sctp_watch.specs.declared.observer.Direction.TheVariants as directions

-- the observer is told of a datagram that was taken, and of no other
abbrev pub IsToldOfDatagram : {O : Type 0} → (Direction → ℕ → List ℕ → O → O → Type 0) → Result DatagramAnswer Error
    → ℕ → List ℕ → O → O → Type 0
IsToldOfDatagram Notes (Ok fates.Taken) now datagram before after = Notes directions.Received now datagram before after
IsToldOfDatagram Notes answer now datagram before after = after ≡ before

-- it is told of a datagram that was given out, which stands at the front of the buffer
abbrev pub IsToldOfPoll : {O : Type 0} → (Direction → ℕ → List ℕ → O → O → Type 0) → Result PollAnswer Error
    → ℕ → List ℕ → O → O → Type 0
IsToldOfPoll Notes (Ok (sendings.Datagram count)) now buffer before after =
    Notes directions.Sent now (take count buffer) before after
IsToldOfPoll Notes answer now buffer before after = after ≡ before
