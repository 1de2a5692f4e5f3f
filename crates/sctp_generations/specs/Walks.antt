-- The walks over the ordered messages of a stream, one for each SSN.
use Rattle.std.specs.Prelude.{◌≡◌, ℕ, List}
use Rattle.std.specs.Option.{unwrap_or}
use Rattle.std.specs.Ordering.{nat_cmp}
use Rattle.std.specs.BTreeMap.{is_at}
use Rattle.std.specs.Map.{lookup}
use Rattle.sctp_wire_types.specs.declared.chunk.ChunkPayloadData.{ChunkPayloadData}
use Rattle.sctp_generations.specs.declared.span.Span.{Span}
use Rattle.sctp_generations.specs.declared.whole.Walk.{Walk}
use Rattle.sctp_generations.specs.declared.whole.Walk.TheVariants as walk
use Rattle.sctp_generations.specs.Whole.{gone_over_with, walked}

-- how far the walk over the pieces of the message with an SSN came
abbrev pub walk_at : List (ℕ × Walk) → ℕ → Walk
walk_at walks ssn = unwrap_or (lookup (is_at (nat_cmp ssn)) walks) walk.Begins

-- they tell of each message of a stream and a span how far a walk over all DATA comes
abbrev pub AreWalks : ℕ → Span → List ChunkPayloadData → List (ℕ × Walk) → Type 0
AreWalks id span ds walks =
    (of : ChunkPayloadData) → of.stream_identifier ≡ id → walk_at walks of.stream_sequence_number ≡ walked span ds of

-- each of them comes over one more piece
abbrev pub GoOver : ℕ → Span → ChunkPayloadData → List (ℕ × Walk) → List (ℕ × Walk) → Type 0
GoOver id span d walks over =
    (of : ChunkPayloadData) → of.stream_identifier ≡ id
    → walk_at over of.stream_sequence_number ≡ gone_over_with span of (walk_at walks of.stream_sequence_number) d
