-- On which offsets what a stream holds stands (RFC 4960 sections 6.5, 6.6 and 6.9).
use Rattle.std.specs.Prelude.{◌≡◌, ◌≤◌, ◌+◌, ℕ, true, List, map, flat_map}
use Rattle.std.specs.List.{AllByRecursion}
use Rattle.sctp_wire_types.specs.declared.chunk.ChunkPayloadData.{ChunkPayloadData}
use Rattle.sctp_receive_queues.specs.Messages.{ReceivedMessage, message_of}
use Rattle.sctp_receive_queues.specs.Pieces.{is_complete}
use Rattle.sctp_receive_queues.specs.Reassembly.{Group, Reassembly}
use Rattle.sctp_courses.specs.Course.{times}
use Rattle.sctp_reset_fit.specs.Pieces.{ArePiecesOf, HoldsOnly, IsMadeOf, Order}
use Rattle.sctp_reset_fit.specs.Stands.{offset_of}

-- the offsets of these pieces
abbrev pub offsets_in : ℕ → List ChunkPayloadData → List ℕ
offsets_in initial pieces = map (λ (p : ChunkPayloadData). offset_of initial p.tsn) pieces

-- of pieces of several messages
abbrev pub offsets_in_all : ℕ → List (List ChunkPayloadData) → List ℕ
offsets_in_all initial runs = flat_map (offsets_in initial) runs

-- the pieces of each ordered message
abbrev pub pieces_of_groups : List Group → List (List ChunkPayloadData)
pieces_of_groups groups = map (λ (g : Group). g.pieces) groups

-- these are all pieces of one unordered message, of each of which P is so
abbrev pub AreAllOfOne : (ChunkPayloadData → Type 0) → ℕ → List ChunkPayloadData → Type 0
AreAllOfOne P id pieces = ArePiecesOf P id Order.OutOfOrder pieces × (is_complete pieces ≡ true)

-- What a stream holds are pieces of which P is so, and they stand on these offsets, none more often than it stands
-- there: the pieces of ordered messages, those of unordered ones, and those of which its complete messages were made.
pub record IsHeldOn (P : ChunkPayloadData → Type 0) (initial id : ℕ) (q : Reassembly) (os : List ℕ) : Type 0 where
  pub only : HoldsOnly P id q
  pub made : List (List ChunkPayloadData)
  pub whole : AllByRecursion (AreAllOfOne P id) made
  pub complete : q.complete ≡ map message_of made
  pub few : (o : ℕ)
      → times o (offsets_in_all initial (pieces_of_groups q.ordered)) + times o (offsets_in_all initial q.unordered)
      + times o (offsets_in_all initial made) ≤ times o os

-- A message was made of all pieces of one message, of each of which P is so; and they stand on these offsets.
pub record IsMadeOn (P : ChunkPayloadData → Type 0) (initial id : ℕ) (m : ReceivedMessage) (os : List ℕ)
    : Type 0 where
  pub made : IsMadeOf P id m
  pub offsets : os ≡ offsets_in initial made.pieces
