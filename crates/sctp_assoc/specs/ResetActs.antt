-- What resets do to the directions: the spans of the streams end that they concern, and these streams may become
-- anything. Where a span has ended before, that is no more than a change of the stream.
use Rattle.std.specs.Prelude.{ℕ, Bool, true, false, List, [], ◌∷◌, ◌++◌, Option, Some, None}
use Rattle.sctp_wire_types.specs.declared.chunk.ChunkReconfig.{ChunkReconfig}
use Rattle.sctp_wire_types.specs.declared.chunk.SkippedStream.{SkippedStream}
use Rattle.sctp_wire_types.specs.declared.param.Param.{Param}
use Rattle.sctp_wire_types.specs.declared.param.Param.TheVariants as params
use Rattle.sctp_wire_types.specs.declared.param.ParamOutgoingResetRequest.{ParamOutgoingResetRequest}
use Rattle.sctp_wire_types.specs.declared.param.ParamReconfigResponse.{ParamReconfigResponse}
use Rattle.sctp_streams.specs.Streams.{StreamMap}
use Rattle.sctp_generations.specs.Generations.{has_retiring, has_skips}
use Rattle.sctp_resets.specs.Concerned.{active_ids, ids_of_request, in_reset, retiring_ids, skipped_ids}
use Rattle.sctp_resets.specs.Resets.{is_retiring}
use Rattle.sctp_directions.specs.Acts.{Act}
use Rattle.sctp_assoc.specs.Calls.{drained_behind}
use Rattle.sctp_assoc.specs.Resets.{after_param, on_request, on_response, settled, settling_takes_memory}
use Rattle.sctp_assoc.specs.Resets.{skips_applied_of}
use Rattle.sctp_assoc.specs.Shown.{Shown}
use Rattle.sctp_assoc.specs.Skipping.{with_passed, with_skips}

abbrev pub spans_end_if : Bool → List ℕ → StreamMap → List Act
spans_end_if true ids m = Act.SpansEnded ids m ∷ []
spans_end_if false ids m = []

-- the last TSN in order may have moved: a request of the peer that waited is performed, and kept skips are applied
abbrev pub acts_of_settling : Shown → List Act
acts_of_settling a = spans_end_if (settling_takes_memory a) (in_reset a.resets a.streams) (settled a).streams

-- the skips that were kept for the generation of a stream that is read now are applied
abbrev pub acts_of_kept_skips : ℕ → Shown → List Act
acts_of_kept_skips id a =
    spans_end_if (has_skips a.resets.generations) (skipped_ids a.resets.generations) (skips_applied_of id a).streams

-- behind a FORWARD TSN that skips ordered messages on all of these streams: where a generation of one ended and is
-- still read, its skip is kept in place of that
abbrev pub acts_of_keeping : ℕ → List SkippedStream → Shown → List Act
acts_of_keeping tsn skips a =
    spans_end_if (has_retiring a.resets.generations) (retiring_ids a.resets.generations)
    (with_passed (with_skips tsn skips a) tsn).streams

-- a request of the peer
abbrev pub acts_of_request : Shown → ParamOutgoingResetRequest → List Act
acts_of_request a request =
    Act.SpansEnded (ids_of_request request a.resets a.streams) (on_request a request).streams ∷ []

-- a response of the peer
abbrev pub acts_of_response : Shown → ParamReconfigResponse → List Act
acts_of_response a response = Act.SpansEnded (active_ids a.resets) (on_response a response).streams ∷ []

abbrev pub acts_of_param : Shown → Param → List Act
acts_of_param a (params.OutgoingResetRequest request) = acts_of_request a request
acts_of_param a (params.ReconfigResponse response) = acts_of_response a response
acts_of_param a param = []

abbrev pub acts_of_second : Shown × Bool → Option Param → List Act
acts_of_second (a, true) (Some param) = acts_of_param a param
acts_of_second (a, true) None = []
acts_of_second (a, false) param = []

-- RE-CONFIG: its parameters in order, up to one that is a fault
abbrev pub acts_of_reconfig : Shown → ChunkReconfig → List Act
acts_of_reconfig a reconfig =
    acts_of_param a reconfig.first ++ acts_of_second (after_param reconfig.first a) reconfig.second

-- a read that left these streams ends the generations of its stream that are read to their end
abbrev pub acts_of_draining : Shown → ℕ → StreamMap → List Act
acts_of_draining a id streams =
    spans_end_if (is_retiring a.resets id) (id ∷ []) (drained_behind a id streams).streams
