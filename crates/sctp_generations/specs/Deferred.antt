-- DATA that waits for the generation that it is of (RFC 6525 section 5.2.2).
use Rattle.std.specs.Prelude.{ℕ, Bool, true, ◌==◌, ◌&&◌, not, if◌then◌else◌, List, length}
use Rattle.std.specs.Prelude.{insert, filter, Option, Some, None}
use Rattle.std.specs.List.{list_any}
use Rattle.sctp_serial.specs.Serial.{tsn_lt, tsn_lte}
use Rattle.sctp_wire_types.specs.declared.chunk.ChunkPayloadData.{ChunkPayloadData}
use Rattle.sctp_receive_queues.specs.Pieces.{index_of, last_of}
use Rattle.sctp_generations.specs.declared.deferred.Due.{Due}
use Rattle.sctp_generations.specs.declared.deferred.Due.TheVariants as due
use Rattle.sctp_generations.specs.Retiring.{RetiringMap, is_retiring}

-- at or below a boundary; everything is where there is none
abbrev pub is_up_to : Option ℕ → ℕ → Bool
is_up_to None tsn = true
is_up_to (Some boundary) tsn = tsn_lte tsn boundary

-- above a boundary; nothing is where there is none
abbrev pub is_above : Option ℕ → ℕ → Bool
is_above boundary tsn = not (is_up_to boundary tsn)

abbrev pub is_of : ℕ → ChunkPayloadData → Bool
is_of id d = d.stream_identifier == id

abbrev pub is_before : Option ChunkPayloadData → ℕ → Bool
is_before None tsn = true
is_before (Some d) tsn = tsn_lt d.tsn tsn

-- behind all others where the last one is before this TSN, else in front of the first that is past it
abbrev pub place_of : ℕ → List ChunkPayloadData → ℕ
place_of tsn ds = if is_before (last_of ds) tsn then length ds else index_of tsn ds

-- DATA at its place by its TSN
abbrev pub deferred_with : List ChunkPayloadData → ChunkPayloadData → List ChunkPayloadData
deferred_with ds d = insert ds (place_of d.tsn ds) d

-- DATA of a stream that is past one boundary and at or below another
abbrev pub is_between : ℕ → Option ℕ → ℕ → ChunkPayloadData → Bool
is_between id after upto d = is_of id d && is_above after d.tsn && tsn_lte d.tsn upto

abbrev pub has_between : ℕ → Option ℕ → ℕ → List ChunkPayloadData → Bool
has_between id after upto ds = list_any (is_between id after upto) ds

-- DATA of a stream that is past a boundary
abbrev pub is_past : ℕ → Option ℕ → ChunkPayloadData → Bool
is_past id boundary d = is_of id d && is_above boundary d.tsn

-- DATA of the generation that is read now
abbrev pub is_due : Due → RetiringMap → ChunkPayloadData → Bool
is_due due.NoneRetires m d = not (is_retiring m d.stream_identifier)
is_due (due.Of id upto) m d = is_of id d && is_up_to upto d.tsn

-- the DATA that is given out, in the order of the TSNs
abbrev pub released : Due → RetiringMap → List ChunkPayloadData → List ChunkPayloadData
released which m ds = filter (is_due which m) ds

-- the DATA that waits on
abbrev pub still_deferred : Due → RetiringMap → List ChunkPayloadData → List ChunkPayloadData
still_deferred which m ds = filter (λ d. not (is_due which m d)) ds

-- the DATA of all other streams
abbrev pub without_stream : ℕ → List ChunkPayloadData → List ChunkPayloadData
without_stream id ds = filter (λ d. not (is_of id d)) ds
