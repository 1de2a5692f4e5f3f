-- Calls of a port, each with its answer.
use Rattle.std.specs.Prelude.{◌≡◌, ℕ, List, [], ◌∷◌, Option, Some, None, Result, Ok, Err}
use Rattle.sctp_wire_types.specs.declared.ids.PayloadProtocolIdentifier.{PayloadProtocolIdentifier}
use Rattle.sctp_receive_queues.specs.Messages.{ReceivedMessage}

-- A call of a port with its answer. Each fault is the number of a refusal. The first two calls answer nothing else:
-- theirs is the refusal's number, or None.
pub data Deed : Type 0 where
  Opened : Option ℕ → Deed
  Kept : Option ℕ → Deed
  Wrote : PayloadProtocolIdentifier → List ℕ → Result ℕ ℕ → Deed
  Read : Result (Option ReceivedMessage) ℕ → Deed

-- the fault of an answer
abbrev pub fault_in : {A : Type 0} → Result A ℕ → Option ℕ
fault_in (Ok answer) = None
fault_in (Err fault) = Some fault

-- these deeds, one after another, lead from one port to another
abbrev pub DoesAll : {P : Type 0} → (P → Deed → P → Type 0) → List Deed → P → P → Type 0
DoesAll does [] s t = t ≡ s
DoesAll does (d ∷ ds) s t = (u : _) × does s d u × DoesAll does ds u t
