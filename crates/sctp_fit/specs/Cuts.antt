-- The law of cuts: the pieces into which a message is cut are those that the model gives it (RFC 4960 section 6.9).
use Rattle.std.specs.Prelude.{ℕ, ◌<◌, List, length}
use Rattle.sctp_outbound_queue.specs.Cut.{IsCut}
use Rattle.sctp_fit.specs.Outgoing.{ArePieces}

-- What cuts bytes into pieces of a size gives piece 0 of them, piece 1 and so on, up to the last.
abbrev pub CutsArePieces : Type 0
CutsArePieces = (size : ℕ) (bytes first : List ℕ) (rest : List (List ℕ)) → 0 < size → 0 < length bytes
    → IsCut size bytes first rest → ArePieces size bytes 0 first rest
