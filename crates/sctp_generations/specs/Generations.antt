-- What is kept of the generations of streams beside the live ones (RFC 6525 section 5.2.2, RFC 8831 section 6.7).
use Rattle.std.specs.Prelude.{ℕ, Bool, true, false, ◌==◌, ◌&&◌, ◌||◌, if◌then◌else◌, List, [], ◌∷◌, ◌++◌}
use Rattle.std.specs.Prelude.{Option, Some, None, not, length}
use Rattle.std.specs.List.{list_any}
use Rattle.sctp_wire_types.specs.declared.chunk.ChunkPayloadData.{ChunkPayloadData}
use Rattle.sctp_generations.specs.declared.skips.KeptSkip.{KeptSkip}
use Rattle.sctp_generations.specs.declared.deferred.Due.{Due}
use Rattle.sctp_generations.specs.declared.deferred.Due.TheVariants as dues
use Rattle.sctp_generations.specs.declared.retirement.Retirement.{Retirement}
use Rattle.sctp_generations.specs.declared.retirement.Retirement.TheVariants as retirements
use Rattle.sctp_wire_types.specs.declared.error.Error.{Error}
use Rattle.sctp_generations.specs.declared.span.Span.{Span}
use Rattle.sctp_generations.specs.declared.kept.Kept.TheVariants as kept
use Rattle.sctp_generations.specs.Spans.{span_of}
use Rattle.sctp_generations.specs.Kept.{kept_of}
use Rattle.sctp_generations.specs.Refusals.{refusal_in}
use Rattle.sctp_generations.specs.Retiring.{RetiringMap, is_retiring, newest_boundary, readable_boundary, retired_with}
use Rattle.sctp_generations.specs.Retiring.{passed, forgotten}
use Rattle.sctp_generations.specs.Deferred.{deferred_with, has_between, is_above, is_past, released, still_deferred}
use Rattle.sctp_generations.specs.Deferred.{without_stream}
use Rattle.sctp_generations.specs.Skips.{is_skip_of, skips_of, skips_of_others, skips_ended, skips_of_other_streams}
use Rattle.sctp_generations.specs.Skips.{skips_without_newest_of}

pub record GenerationsView : Type 0 where
  -- the streams whose ended generations are still read, and the boundaries of these
  pub retiring : RetiringMap
  -- DATA of generations that are not read yet, in the order of the TSNs over all streams
  pub deferred : List ChunkPayloadData
  -- skips of generations that are not read yet, in the order of their arrival
  pub skips : List KeptSkip

abbrev pub no_generations : GenerationsView
no_generations = record { retiring = []; deferred = []; skips = [] }

-- a stream retires
abbrev pub retires : GenerationsView → ℕ → Bool
retires g id = is_retiring g.retiring id

-- New DATA of a stream is not of the generation that is read: that one ended, or the DATA is above the last TSN of a
-- request in progress that names the stream.
abbrev pub is_hidden : GenerationsView → ℕ → ℕ → Option ℕ → Bool
is_hidden g id tsn in_progress = retires g id || is_above in_progress tsn

abbrev pub with_deferred : GenerationsView → ChunkPayloadData → GenerationsView
with_deferred g d = record g { deferred = deferred_with g.deferred d }

-- a skip of the newest generation of a stream
abbrev pub new_skip : ℕ → ℕ → ℕ → KeptSkip
new_skip id ssn tsn = record { id = id; boundary = None; ssn = ssn; tsn = tsn }

abbrev pub with_skip : GenerationsView → ℕ → ℕ → ℕ → GenerationsView
with_skip g id ssn tsn = record g { skips = g.skips ++ new_skip id ssn tsn ∷ [] }

abbrev pub with_kept_skip : GenerationsView → KeptSkip → GenerationsView
with_kept_skip g s = record g { skips = g.skips ++ s ∷ [] }

-- a skip of some stream is kept
abbrev pub has_skips : GenerationsView → Bool
has_skips g = not (length g.skips == 0)

-- a generation of some stream ended and is still read
abbrev pub has_retiring : GenerationsView → Bool
has_retiring g = not (length g.retiring == 0)

-- why the DATA that waits of the generation of a new piece refuses, taken in the order of the TSNs with that piece
abbrev pub refusal_of : GenerationsView → ChunkPayloadData → Option ℕ → ℕ → Option Error
refusal_of g d in_progress limit =
    refusal_in (span_of g.retiring d.stream_identifier d.tsn in_progress) g.deferred d limit

-- the DATA that waits of the newest generation of a stream: past the newest boundary, and up to the last TSN of a
-- request in progress that names the stream, if there is one
abbrev pub newest_span : GenerationsView → ℕ → Option ℕ → Span
newest_span g id in_progress = record { after = newest_boundary g.retiring id; upto = in_progress }

-- A FORWARD TSN passed over the ordered messages of the newest generation of a stream up to an SSN: the pieces at or
-- below its TSN of those that are not whole are dropped, and the skip is kept (RFC 3758 section 3.6).
abbrev pub skipped : GenerationsView → ℕ → ℕ → ℕ → Option ℕ → GenerationsView
skipped g id ssn tsn in_progress = record g {
  deferred = kept_of (kept.Unskipped id (newest_span g id in_progress) ssn tsn) g.deferred;
  skips = g.skips ++ new_skip id ssn tsn ∷ [];
}

-- it passed over all up to a TSN: pieces at or below that, of unordered messages that are not whole, are dropped
abbrev pub unordered_skipped : GenerationsView → ℕ → GenerationsView
unordered_skipped g tsn = record g { deferred = kept_of (kept.UnskippedUnordered tsn) g.deferred }

-- The peer's request was performed.

-- what becomes of a live stream that it names, whose readable generation is drained or is not
abbrev pub retirement_of : GenerationsView → ℕ → ℕ → Bool → Retirement
retirement_of g id boundary is_drained =
    if retires g id then (
    if has_between id (newest_boundary g.retiring id) boundary g.deferred then retirements.Retires
    else retirements.Unchanged
    )
    else if is_drained then retirements.Ended else retirements.Retires

-- the newest generation of a stream ended, and nothing of it is left
abbrev pub without_newest : GenerationsView → ℕ → GenerationsView
without_newest g id = record g { skips = skips_of_others id None g.skips }

-- the newest generations of these streams or, where the set is empty, of all ended: their skips are dropped
abbrev pub without_newest_of : GenerationsView → List ℕ → GenerationsView
without_newest_of g ids = record g { skips = skips_without_newest_of ids g.skips }

-- the newest generation of a stream ended with a boundary, and is still to be read
abbrev pub with_boundary : GenerationsView → ℕ → ℕ → GenerationsView
with_boundary g id boundary = record g {
  retiring = retired_with g.retiring id boundary;
  skips = skips_ended id boundary g.skips;
}

abbrev pub retired_by : Retirement → GenerationsView → ℕ → ℕ → GenerationsView
retired_by retirements.Ended g id boundary = without_newest g id
retired_by retirements.Retires g id boundary = with_boundary g id boundary
retired_by retirements.Unchanged g id boundary = without_newest g id

abbrev pub retired : GenerationsView → ℕ → ℕ → Bool → GenerationsView
retired g id boundary is_drained = retired_by (retirement_of g id boundary is_drained) g id boundary

-- Where the readable generation of a stream ended and nothing of it is left to read, it is over. The test says whether
-- it is.
abbrev pub drained : GenerationsView → ℕ → ℕ → GenerationsView × Bool
drained g id waiting =
    if retires g id && (waiting == 0) then (record g { retiring = passed g.retiring id }, true) else (g, false)

abbrev pub first_boundary : Option ℕ → Option ℕ → Option ℕ
first_boundary None in_progress = in_progress
first_boundary (Some boundary) in_progress = Some boundary

-- where the readable generation of a stream ends: with its boundary, else with the last TSN of a request in progress
-- that names the stream, if there is one
abbrev pub readable_end : GenerationsView → ℕ → Option ℕ → Option ℕ
readable_end g id in_progress = first_boundary (readable_boundary g.retiring id) in_progress

abbrev pub due_of : GenerationsView → ℕ → Option ℕ → Due
due_of g id in_progress = dues.Of id (readable_end g id in_progress)

-- the deferred DATA of the readable generation of a stream, in the order of its TSNs
abbrev pub given_to : GenerationsView → ℕ → Option ℕ → List ChunkPayloadData
given_to g id in_progress = released (due_of g id in_progress) g.retiring g.deferred

abbrev pub after_given_to : GenerationsView → ℕ → Option ℕ → GenerationsView
after_given_to g id in_progress =
    record g { deferred = still_deferred (due_of g id in_progress) g.retiring g.deferred }

-- the deferred DATA of all streams that do not retire, in the order of the TSNs
abbrev pub given_to_all : GenerationsView → List ChunkPayloadData
given_to_all g = released dues.NoneRetires g.retiring g.deferred

abbrev pub after_given_to_all : GenerationsView → GenerationsView
after_given_to_all g = record g { deferred = still_deferred dues.NoneRetires g.retiring g.deferred }

-- the skips of the readable generation of a stream, in the order of their arrival
abbrev pub skips_given_to : GenerationsView → ℕ → List KeptSkip
skips_given_to g id = skips_of id (readable_boundary g.retiring id) g.skips

abbrev pub after_skips_given_to : GenerationsView → ℕ → GenerationsView
after_skips_given_to g id = record g { skips = skips_of_others id (readable_boundary g.retiring id) g.skips }

-- something came for the generation of a stream that did not end: DATA past its newest boundary, or a skip
abbrev pub has_newest : GenerationsView → ℕ → Bool
has_newest g id =
    list_any (is_past id (newest_boundary g.retiring id)) g.deferred || list_any (is_skip_of id None) g.skips

-- nothing of a stream is left
abbrev pub discarded : GenerationsView → ℕ → GenerationsView
discarded g id = record g {
  retiring = forgotten g.retiring id;
  deferred = without_stream id g.deferred;
  skips = skips_of_other_streams id g.skips;
}
