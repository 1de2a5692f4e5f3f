-- Messages of which all pieces wait: from the one that begins it to the one that ends it, TSN after TSN (RFC 4960
-- section 6.9). The lists are in the order of the TSNs.
use Rattle.std.specs.Prelude.{ℕ, Bool, true, false, ◌==◌, ◌&&◌, ◌||◌, not, if◌then◌else◌, List, fold}
use Rattle.sctp_serial.specs.Serial.{tsn_after}
use Rattle.sctp_wire_types.specs.declared.chunk.ChunkPayloadData.{ChunkPayloadData}
use Rattle.sctp_generations.specs.declared.span.Span.{Span}
use Rattle.sctp_generations.specs.declared.whole.Walk.{Walk}
use Rattle.sctp_generations.specs.declared.whole.Walk.TheVariants as walk
use Rattle.sctp_generations.specs.declared.whole.Run.{Run}
use Rattle.sctp_generations.specs.declared.whole.Run.TheVariants as run
use Rattle.sctp_generations.specs.Deferred.{is_of}
use Rattle.sctp_generations.specs.Spans.{is_in}

-- Ordered messages: the pieces of a generation with one SSN.

-- DATA of a span is of the ordered message that a piece is of
abbrev pub is_with : Span → ChunkPayloadData → ChunkPayloadData → Bool
is_with span of d =
    is_in of.stream_identifier span d && not d.unordered && d.stream_sequence_number == of.stream_sequence_number

-- where a piece follows those gone over, the message is whole with the last one, or the next TSN is to come
abbrev pub goes_on : Bool → ChunkPayloadData → Walk
goes_on follows d =
    if not follows then walk.Torn else if d.ending_fragment then walk.Whole else walk.Next (tsn_after d.tsn)

abbrev pub gone_over : Walk → ChunkPayloadData → Walk
gone_over walk.Begins d = goes_on d.beginning_fragment d
gone_over (walk.Next tsn) d = goes_on (d.tsn == tsn) d
gone_over walk.Whole d = walk.Whole
gone_over walk.Torn d = walk.Torn

abbrev pub gone_over_with : Span → ChunkPayloadData → Walk → ChunkPayloadData → Walk
gone_over_with span of w d = if is_with span of d then gone_over w d else w

-- the walk over all pieces of the message
abbrev pub walked : Span → List ChunkPayloadData → ChunkPayloadData → Walk
walked span ds of = fold (gone_over_with span of) walk.Begins ds

abbrev pub came_to_end : Walk → Bool
came_to_end walk.Begins = false
came_to_end (walk.Next tsn) = false
came_to_end walk.Whole = true
came_to_end walk.Torn = false

-- all pieces of the ordered message of a piece are among these of the span
abbrev pub is_whole : Span → List ChunkPayloadData → ChunkPayloadData → Bool
is_whole span ds of = came_to_end (walked span ds of)

-- Unordered messages: runs of pieces of a stream whose TSNs follow one another.

-- DATA is unordered and of the stream that a piece is of
abbrev pub is_beside : ChunkPayloadData → ChunkPayloadData → Bool
is_beside of d = is_of of.stream_identifier d && d.unordered

-- at a piece of a run that has the piece that is looked for, or does not yet
abbrev pub run_with : Bool → ChunkPayloadData → Run
run_with holds d = if d.ending_fragment && holds then run.Whole else run.Next (tsn_after d.tsn) holds

-- a run begins with a piece that begins a message
abbrev pub begun : ℕ → ChunkPayloadData → Run
begun tsn d = if d.beginning_fragment then run_with (d.tsn == tsn) d else run.Outside

abbrev pub run_goes_on : ℕ → ℕ → Bool → ChunkPayloadData → Run
run_goes_on tsn next holds d =
    if not d.beginning_fragment && d.tsn == next then run_with (holds || d.tsn == tsn) d else begun tsn d

abbrev pub run_over : ℕ → Run → ChunkPayloadData → Run
run_over tsn run.Outside d = begun tsn d
run_over tsn (run.Next next holds) d = run_goes_on tsn next holds d
run_over tsn run.Whole d = run.Whole

abbrev pub run_over_beside : ChunkPayloadData → Run → ChunkPayloadData → Run
run_over_beside of r d = if is_beside of d then run_over of.tsn r d else r

-- the walk over all pieces of unordered messages of the stream
abbrev pub run_walked : List ChunkPayloadData → ChunkPayloadData → Run
run_walked ds of = fold (run_over_beside of) run.Outside ds

abbrev pub has_run : Run → Bool
has_run run.Outside = false
has_run (run.Next next holds) = false
has_run run.Whole = true

-- some of these pieces begin, follow TSN by TSN and end the unordered message of a piece, and that is one of them
abbrev pub is_whole_unordered : List ChunkPayloadData → ChunkPayloadData → Bool
is_whole_unordered ds of = has_run (run_walked ds of)
