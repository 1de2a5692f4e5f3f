-- Some of the DATA that waits (RFC 3758 section 3.6).
use Rattle.std.specs.Prelude.{ℕ, Bool, ◌&&◌, not, List, filter}
use Rattle.sctp_serial.specs.Serial.{ssn_lte, tsn_lte}
use Rattle.sctp_wire_types.specs.declared.chunk.ChunkPayloadData.{ChunkPayloadData}
use Rattle.sctp_generations.specs.declared.span.Span.{Span}
use Rattle.sctp_generations.specs.declared.kept.Kept.{Kept}
use Rattle.sctp_generations.specs.declared.kept.Kept.TheVariants as kept
use Rattle.sctp_generations.specs.Spans.{is_in}
use Rattle.sctp_generations.specs.Whole.{is_whole, is_whole_unordered}

-- ordered DATA of a stream and a span at or below a TSN, of a message with an SSN up to this one
abbrev pub is_skipped : ℕ → Span → ℕ → ℕ → ChunkPayloadData → Bool
is_skipped id span ssn tsn d =
    is_in id span d && not d.unordered && ssn_lte d.stream_sequence_number ssn && tsn_lte d.tsn tsn

-- unordered DATA at or below a TSN
abbrev pub is_skipped_unordered : ℕ → ChunkPayloadData → Bool
is_skipped_unordered tsn d = d.unordered && tsn_lte d.tsn tsn

-- among this DATA a piece is kept: it is of a stream and a span; or a skip does not drop it, which drops pieces of
-- messages that are not whole
abbrev pub is_kept : Kept → List ChunkPayloadData → ChunkPayloadData → Bool
is_kept (kept.Of id span) ds d = is_in id span d
is_kept (kept.Unskipped id span ssn tsn) ds d = not (is_skipped id span ssn tsn d && not (is_whole span ds d))
is_kept (kept.UnskippedUnordered tsn) ds d = not (is_skipped_unordered tsn d && not (is_whole_unordered ds d))

abbrev pub kept_of : Kept → List ChunkPayloadData → List ChunkPayloadData
kept_of which ds = filter (is_kept which ds) ds
