-- How far the pieces held of a message reach.
use Rattle.std.specs.Prelude.{ℕ, ◌≤◌, All, List}
use Rattle.sctp_serial.specs.Serial.{tsn_past}
use Rattle.sctp_wire_types.specs.declared.chunk.ChunkPayloadData.{ChunkPayloadData}

-- no piece is more than so far past a TSN
abbrev pub AreWithin : ℕ → List ChunkPayloadData → ℕ → Type 0
AreWithin base pieces reach = All (λ (p : ChunkPayloadData). tsn_past base p.tsn ≤ reach) pieces
