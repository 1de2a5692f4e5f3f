-- What a side writes.
use Rattle.std.specs.Prelude.{◌≡◌, ℕ, List, [], ◌∷◌, ◌++◌, Option, Some, None}
use Rattle.sctp_model.specs.Messages.{Message}
use Rattle.sctp_model.specs.Machine.{Direction}
use Rattle.sctp_assoc.specs.declared.call.Reply.{Reply}
use Rattle.sctp_assoc.specs.declared.call.Reply.TheVariants as replies

-- One message with these bytes was accepted on the stream, behind those before, and none on any other.
pub record AcceptsOne (id : ℕ) (bytes : List ℕ) (before after : Direction) : Type 0 where
  pub message : Message
  pub same_bytes : message.bytes ≡ bytes
  pub last : after.sender.plan.accepted id ≡ before.sender.plan.accepted id ++ message ∷ []
  pub others : (s : ℕ) → (s ≡ id → ⊥) → after.sender.plan.accepted s ≡ before.sender.plan.accepted s

abbrev pub AcceptsNone : Direction → Direction → Type 0
AcceptsNone before after = (s : ℕ) → after.sender.plan.accepted s ≡ before.sender.plan.accepted s

-- the bytes that a reply tells, if it is that of a write
abbrev pub count_in : Reply → Option ℕ
count_in (replies.Wrote n) = Some n
count_in reply = None
