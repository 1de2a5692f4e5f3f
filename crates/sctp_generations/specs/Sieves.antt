-- What tells of each piece whether it is kept, once all DATA was gone over.
use Rattle.std.specs.Prelude.{◌≡◌, Bool, true, ◌&&◌, not, List, filter}
use Rattle.sctp_wire_types.specs.declared.chunk.ChunkPayloadData.{ChunkPayloadData}
use Rattle.sctp_generations.specs.declared.kept.Kept.{Kept}
use Rattle.sctp_generations.specs.declared.kept.Sieve.{Sieve}
use Rattle.sctp_generations.specs.declared.kept.Sieve.TheVariants as sieve
use Rattle.sctp_generations.specs.Spans.{is_in}
use Rattle.sctp_generations.specs.Whole.{came_to_end, has_run}
use Rattle.sctp_generations.specs.Walks.{walk_at}
use Rattle.sctp_generations.specs.Runs.{run_in}
use Rattle.sctp_generations.specs.Kept.{is_skipped, is_skipped_unordered, kept_of}

abbrev pub keeps : Sieve → ChunkPayloadData → Bool
keeps sieve.All d = true
keeps (sieve.Of id span) d = is_in id span d
keeps (sieve.Unskipped id span ssn tsn walks) d =
    not (is_skipped id span ssn tsn d && not (came_to_end (walk_at walks.entries d.stream_sequence_number)))
keeps (sieve.UnskippedUnordered tsn runs) d =
    not (is_skipped_unordered tsn d && not (has_run (run_in runs.entries d)))

-- it keeps what is kept of this DATA
abbrev pub IsSieve : Kept → List ChunkPayloadData → Sieve → Type 0
IsSieve kept ds s = filter (keeps s) ds ≡ kept_of kept ds
