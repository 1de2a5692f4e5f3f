-- The pieces of a message.
use Rattle.std.proofs.Common.{⊎_elim, ℕ, ◌+◌, ◌*◌, ◌<◌, ◌≤◌, arith}
use Rattle.std.proofs.Math.Nat.{mul-le-mul_left}
use Rattle.std.proofs.lemmas.Bool.{cases_lt}
use Rattle.sctp_fit.specs.FewPieces.{pieces_in}
use Rattle.sctp_fit.proofs.PlacesCounted.{piece_counted}
use Rattle.sctp_directions.specs.Laws.{PiecesAreCounted, ShortMessagesAreOnePiece}

below_all : (size bytes k : ℕ) → 0 < size → k < pieces_in size bytes → size * k < bytes
below_all size bytes k some l =
    let m = mul-le-mul_left size (let u : k + 1 ≤ pieces_in size bytes = omega arith in u) in omega (arith, m)

pub pieces_are_counted : PiecesAreCounted
pieces_are_counted size bytes k some = (λ l. below_all size bytes k some l, λ l. piece_counted size bytes k some l)

pub short_messages_are_one_piece : ShortMessagesAreOnePiece
short_messages_are_one_piece size bytes some one =
    let first = piece_counted size bytes 0 (omega arith) (omega arith) in
    ⊎_elim
    (λ (b : 1 < pieces_in size bytes). let second = below_all size bytes 1 (omega arith) b in absurd (omega arith))
    (λ (b : pieces_in size bytes ≤ 1). omega (arith, first))
    (cases_lt 1 (pieces_in size bytes))
