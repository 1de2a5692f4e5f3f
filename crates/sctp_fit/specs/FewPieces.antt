-- How many pieces were accepted in a direction, over all of its streams: those into which its messages are cut.
use Rattle.std.specs.Prelude.{◌≡◌, ℕ, ◌+◌, ◌-◌, ◌/◌, ◌<◌, ◌≤◌, false, List, [], length}
use Rattle.std.specs.List.{sum_by}
use Rattle.sctp_model.specs.Messages.{Message}
use Rattle.sctp_model.specs.Packets.{mem}
use Rattle.sctp_model.specs.Machine.{Direction}
use Rattle.sctp_model.specs.Invariants.{Invariant}
use Rattle.sctp_model.specs.Safe.{AreDistinct, IsWithin}

-- the pieces of a message: its bytes over the payload size, rounded up (RFC 4960 section 6.9)
abbrev pub pieces_in : ℕ → ℕ → ℕ
pieces_in size bytes = (bytes + size - 1) / size

-- the pieces of all these messages
abbrev pub all_pieces : ℕ → List Message → ℕ
all_pieces size ms = sum_by (λ (m : Message). pieces_in size (length m.bytes)) ms

-- At most n pieces were accepted: the messages of these streams have at most so many in all, and there is none on any
-- other.
pub record HasAccepted (n : ℕ) (w : Direction) : Type 0 where
  pub streams : List ℕ
  pub once : AreDistinct streams
  pub others : (s : ℕ) → mem s streams ≡ false → w.sender.plan.accepted s ≡ []
  pub total : sum_by (λ (s : ℕ). all_pieces w.sender.plan.size (w.sender.plan.accepted s)) streams ≤ n

-- Where fewer than 16,384 pieces were accepted in a direction that has the invariant, it is within the limits.
abbrev pub FewPiecesStayWithin : Type 0
FewPiecesStayWithin = (n : ℕ) (w : Direction) → n < 16384 → HasAccepted n w → Invariant w → IsWithin w
