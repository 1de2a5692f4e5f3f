-- Why DATA of one generation is refused: its pieces contradict one another, or a message gets too long (RFC 4960
-- section 6.9).
use Rattle.std.specs.Prelude.{ℕ, List, [], ◌∷◌, Option, Some, None}
use Rattle.std.specs.Option.{option_or}
use Rattle.sctp_wire_types.specs.declared.chunk.ChunkPayloadData.{ChunkPayloadData}
use Rattle.sctp_wire_types.specs.declared.error.Error.{Error}
use Rattle.sctp_receive_queues.specs.Reassembly.{Reassembly, empty_reassembly, pushed, refusal}
use Rattle.sctp_generations.specs.declared.span.Span.{Span}
use Rattle.sctp_generations.specs.declared.kept.Kept.TheVariants as kept
use Rattle.sctp_generations.specs.Deferred.{deferred_with}
use Rattle.sctp_generations.specs.Kept.{kept_of}

-- what a queue holds once a piece was pushed that it refuses or does not
abbrev pub held_of : Option Error → Reassembly → ChunkPayloadData → Reassembly
held_of None q p = (pushed q p).0
held_of (Some e) q p = q

-- the first refusal where these pieces are pushed one after another
abbrev pub first_refusal : Reassembly → List ChunkPayloadData → ℕ → Option Error
first_refusal q [] limit = None
first_refusal q (p ∷ ps) limit = option_or (refusal q p limit) (first_refusal (pushed q p).0 ps limit)

-- the DATA of a stream and a span, in the order of the TSNs, with a new piece at its place
abbrev pub with_piece : Span → List ChunkPayloadData → ChunkPayloadData → List ChunkPayloadData
with_piece span ds p = deferred_with (kept_of (kept.Of p.stream_identifier span) ds) p

-- why the DATA of a span, with a new piece, refuses where it is pushed into an empty queue
abbrev pub refusal_in : Span → List ChunkPayloadData → ChunkPayloadData → ℕ → Option Error
refusal_in span ds p limit = first_refusal empty_reassembly (with_piece span ds p) limit
