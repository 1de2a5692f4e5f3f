-- The generations of a stream, by the boundaries between which their TSNs lie (RFC 6525 section 5.2.2).
use Rattle.std.specs.Prelude.{ℕ, Bool, true, ◌&&◌, if◌then◌else◌, List, fold, Option, Some, None, is_some}
use Rattle.sctp_serial.specs.Serial.{tsn_lt, tsn_lte}
use Rattle.sctp_wire_types.specs.declared.chunk.ChunkPayloadData.{ChunkPayloadData}
use Rattle.sctp_generations.specs.declared.span.Span.{Span}
use Rattle.sctp_generations.specs.Deferred.{is_of, is_up_to}
use Rattle.sctp_generations.specs.Retiring.{RetiringMap, boundaries_at}

-- past a boundary; everything is where there is none
abbrev pub is_past : Option ℕ → ℕ → Bool
is_past None tsn = true
is_past (Some boundary) tsn = tsn_lt boundary tsn

-- DATA of a stream that is past the one boundary of a span and at or below the other
abbrev pub is_in : ℕ → Span → ChunkPayloadData → Bool
is_in id span d = is_of id d && is_past span.after d.tsn && is_up_to span.upto d.tsn

-- all TSNs
abbrev pub everything : Span
everything = record { after = None; upto = None }

-- with a boundary that comes behind those gone over: the span of a TSN ends with the first one that it is at or below
abbrev pub narrowed : ℕ → Span → ℕ → Span
narrowed tsn span boundary =
    if is_some span.upto then span else
    if tsn_lte tsn boundary then record { after = span.after; upto = Some boundary } else
    record { after = Some boundary; upto = None }

-- the span of a TSN between these boundaries, which ascend
abbrev pub span_among : ℕ → List ℕ → Span
span_among tsn boundaries = fold (narrowed tsn) everything boundaries

abbrev pub span_at : ℕ → Option (List ℕ) → Span
span_at tsn None = everything
span_at tsn (Some boundaries) = span_among tsn boundaries

abbrev pub ended_by : ℕ → Span → Option ℕ → Span
ended_by tsn span None = span
ended_by tsn span (Some last) = narrowed tsn span last

-- the span of the generation that a TSN of a stream is of, between the boundaries of the generations that ended and,
-- behind these, the last TSN of a request in progress that names the stream, if there is one
abbrev pub span_of : RetiringMap → ℕ → ℕ → Option ℕ → Span
span_of m id tsn in_progress = ended_by tsn (span_at tsn (boundaries_at m id)) in_progress
