-- No chunk that comes assigns an offset: it acknowledges, at most, what is in flight, and marks it.
use Rattle.std.proofs.Common.{ℕ, Bool, true, false, not, if◌then◌else◌, List, [], ◌∷◌}
use Rattle.std.proofs.Common.{◌++◌, Option, Some, None, is_some, Result, Ok, Err}
use Rattle.std.specs.List.{AllByRecursion}
use Rattle.sctp_wire_types.specs.Checks.{checked_chunk}
use Rattle.sctp_wire_types.specs.declared.chunk.Chunk.{Chunk}
use Rattle.sctp_wire_types.specs.declared.chunk.Chunk.TheVariants as chunks
use Rattle.sctp_wire_types.specs.declared.chunk.ChunkPayloadData.{ChunkPayloadData}
use Rattle.sctp_wire_types.specs.declared.chunk.GapAckBlock.{GapAckBlock}
use Rattle.sctp_wire_types.specs.declared.chunk.SkippedStream.{SkippedStream}
use Rattle.sctp_wire_types.specs.declared.error.Error.{Error}
use Rattle.sctp_wire_types.specs.declared.packet.CommonHeader.{CommonHeader}
use Rattle.sctp_streams.specs.Streams.{generation_left, refusal_in, stream_at}
use Rattle.sctp_inbound.specs.Handshake.{comes_back}
use Rattle.sctp_inbound.specs.Receiver.{admits, is_new_to}
use Rattle.sctp_outbound_queue.specs.declared.message.Reports.{Reports}
use Rattle.sctp_outbound.specs.declared.sender.SackOutcome.{SackOutcome}
use Rattle.sctp_outbound.specs.declared.sender.SackOutcome.TheVariants as outcomes
use Rattle.sctp_generations.specs.Generations.{has_retiring, has_skips}
use Rattle.sctp_resets.specs.Concerned.{retiring_ids, skipped_ids}
use Rattle.sctp_resets.specs.Resets.{is_hidden, refusal_of}
use Rattle.sctp_model.proofs.Lists.{all_join, all_weaker}
use Rattle.sctp_directions.specs.Acts.{Act}
use Rattle.sctp_assoc.specs.Calls.{is_beginning, is_cookie_wait, sends_data}
use Rattle.sctp_assoc.specs.Chunks.{counted_data, deferred_where_admitted, goes_unread, stream_found, taken_in}
use Rattle.sctp_assoc.specs.Chunks.{taken_where_admitted}
use Rattle.sctp_assoc.specs.Handshake.{keeps_peer}
use Rattle.sctp_assoc.specs.Happened.{acts_if_left, acts_of_checked, acts_of_chunk, acts_of_data, acts_of_deferring}
use Rattle.sctp_assoc.specs.Happened.{acts_of_finding, acts_of_forward, acts_of_found, acts_of_hidden, acts_of_kind}
use Rattle.sctp_assoc.specs.Happened.{acts_of_outcome, acts_of_skips_behind, acts_of_stream, acts_of_taking}
use Rattle.sctp_assoc.specs.Happened.{acts_of_taking_where_admitted, acts_unless_faulty, acts_unless_refused}
use Rattle.sctp_assoc.specs.Happened.{known_unless}
use Rattle.sctp_assoc.specs.Probes.{is_probing, opens_window}
use Rattle.sctp_assoc.specs.ResetActs.{acts_of_keeping, acts_of_kept_skips, acts_of_reconfig, acts_of_settling}
use Rattle.sctp_assoc.specs.Resets.{skips_applied_of}
use Rattle.sctp_assoc.specs.Shown.{Shown, all_waiting}
use Rattle.sctp_assoc.specs.Skipping.{skips_of, with_passed, with_skips}
use Rattle.sctp_assoc.proofs.StreamsFound.{finding_opens}
use Rattle.sctp_sides.specs.Intake.{IsEndOfSpans}
use Rattle.sctp_sides.proofs.ActsOfChunks.{give_if}
use Rattle.sctp_sides.proofs.DataIntake.{settling_ends_spans, spans_end}
use Rattle.sctp_sides.proofs.ForwardKinds.{acts_are_one_of}
use Rattle.sctp_sides.proofs.NothingElseTaken.{reconfigs_end_spans}
use Rattle.sctp_course_sides.proofs.SenderParts.{IsHeard}

abbrev pub AreHeard : List Act → Type 0
AreHeard acts = AllByRecursion IsHeard acts

end_is_heard : (act : Act) → IsEndOfSpans act → IsHeard act
end_is_heard (Act.SpansEnded ids m) e = tt
end_is_heard act e = absurd e

ends_are_heard : (acts : List Act) → AllByRecursion IsEndOfSpans acts → AreHeard acts
ends_are_heard acts e = all_weaker IsEndOfSpans IsHeard acts end_is_heard e

-- DATA

unless_refused : (refusal : Option Error) (act : Act) → IsHeard act → AreHeard (acts_unless_refused refusal act)
unless_refused None act e = (e, tt)
unless_refused (Some fault) act e = tt

stream_is_heard : (there left : Bool) (act : Act) → IsHeard act
    → AreHeard (if there then [] else if left then act ∷ [] else [])
stream_is_heard true left act e = tt
stream_is_heard false true act e = (e, tt)
stream_is_heard false false act e = tt

taking_is_heard : (left : Bool) (a : Shown) (piece : ChunkPayloadData) → AreHeard (acts_if_left left a piece)
taking_is_heard true a piece = (tt, tt)
taking_is_heard false a piece =
    unless_refused (refusal_in a.streams piece.stream_identifier piece a.receiver.max_receive_message_size)
    (Act.Took piece) tt

-- what is behind it

settling_is_heard : (a : Shown) → AreHeard (acts_of_settling a)
settling_is_heard a = ends_are_heard (acts_of_settling a) (settling_ends_spans a)

skips_are_heard : (x : Shown × Option Error) (id : ℕ) → AreHeard (acts_of_skips_behind x id)
skips_are_heard (a, None) id =
    ends_are_heard (acts_of_kept_skips id a)
    (spans_end (has_skips a.resets.generations) (skipped_ids a.resets.generations) (skips_applied_of id a).streams)
skips_are_heard (a, Some fault) id = tt

behind_is_heard : (x : Shown × Option Error) → AreHeard (acts_unless_faulty x)
behind_is_heard (a, None) = settling_is_heard a
behind_is_heard (a, Some fault) = tt

-- of the generation that is read, of a later one, and any

found_is_heard : (x : Shown × Bool) (piece : ChunkPayloadData) → AreHeard (acts_of_found x piece)
found_is_heard (a, false) piece = tt
found_is_heard (a, true) piece =
    let skips = acts_of_skips_behind (taken_in a piece) piece.stream_identifier in
    all_join IsHeard (acts_of_taking_where_admitted a piece) (acts_unless_faulty (taken_where_admitted a piece))
    (give_if IsHeard (admits a.receiver piece.tsn (all_waiting a)) (acts_of_taking a piece ++ skips) []
    (all_join IsHeard (acts_of_taking a piece) skips (taking_is_heard (goes_unread a piece) a piece)
    (skips_are_heard (taken_in a piece) piece.stream_identifier)) tt)
    (behind_is_heard (taken_where_admitted a piece))

hidden_is_heard : (a : Shown) (piece : ChunkPayloadData) → AreHeard (acts_of_hidden a piece)
hidden_is_heard a piece =
    let refusal = refusal_of a.resets piece a.receiver.max_receive_message_size in
    all_join IsHeard (acts_of_deferring a piece) (acts_unless_faulty (deferred_where_admitted a piece))
    (give_if IsHeard (admits a.receiver piece.tsn (all_waiting a)) (acts_unless_refused refusal (Act.Deferred piece)) []
    (unless_refused refusal (Act.Deferred piece) tt) tt) (behind_is_heard (deferred_where_admitted a piece))

counted_is_heard : (next hidden : Bool) (a : Shown) (piece : ChunkPayloadData)
    → AreHeard
    (if not next then acts_of_settling a else if hidden then acts_of_hidden a piece else
    acts_of_stream a piece.stream_identifier ++ acts_of_found (stream_found a piece.stream_identifier) piece)
counted_is_heard false hidden a piece = settling_is_heard a
counted_is_heard true true a piece = hidden_is_heard a piece
counted_is_heard true false a piece =
    all_join IsHeard (acts_of_stream a piece.stream_identifier)
    (acts_of_found (stream_found a piece.stream_identifier) piece)
    (stream_is_heard (is_some (stream_at a.streams piece.stream_identifier)) (generation_left a.streams) _ tt)
    (found_is_heard (stream_found a piece.stream_identifier) piece)

data_is_heard : (a : Shown) (piece : ChunkPayloadData) → AreHeard (acts_of_data a piece)
data_is_heard a piece =
    let b : Shown = counted_data a in
    counted_is_heard (is_new_to b.receiver piece.tsn) (is_hidden b.resets piece.stream_identifier piece.tsn) b piece

-- Other chunks

outcome_is_heard : (outcome : SackOutcome) (n : ℕ) (blocks : List GapAckBlock) (missing : Reports) (opens : Bool)
    → AreHeard (acts_of_outcome outcome n blocks missing opens)
outcome_is_heard outcomes.Older n blocks missing opens = tt
outcome_is_heard outcomes.NotInFlight n blocks missing opens = tt
outcome_is_heard outcomes.NamesTheUnsent n blocks missing opens = tt
outcome_is_heard outcomes.Taken n blocks missing true = (tt, (tt, tt))
outcome_is_heard outcomes.Taken n blocks missing false = (tt, tt)

ahead_is_heard : (a : Shown) (t : ℕ) (skips : List SkippedStream)
    → AreHeard (acts_of_keeping t skips a ++ acts_of_settling (with_passed (with_skips t skips a) t))
ahead_is_heard a t skips =
    let b : Shown = with_passed (with_skips t skips a) t in
    all_join IsHeard (acts_of_keeping t skips a) (acts_of_settling b)
    (ends_are_heard (acts_of_keeping t skips a)
    (spans_end (has_retiring a.resets.generations) (retiring_ids a.resets.generations) b.streams))
    (settling_is_heard b)

forward_is_heard : (a : Shown) (t : ℕ) (skips : List SkippedStream) → AreHeard (acts_of_forward a t skips)
forward_is_heard a t skips =
    acts_are_one_of t skips (λ b acts. AreHeard acts) (λ b e. tt) (λ b e f. tt)
    (λ b e f. (tt, ahead_is_heard b t skips))
    (λ b acts heard.
    all_join IsHeard (acts_of_finding t skips b) acts (finding_opens IsHeard (λ id first. tt) t skips b) heard) a

known_is_heard : (keeps : Bool) (initial_tsn : ℕ) → AreHeard (known_unless keeps initial_tsn)
known_is_heard true initial_tsn = tt
known_is_heard false initial_tsn = (tt, tt)

kind_is_heard : (a : Shown) (header : CommonHeader) (chunk : Chunk) → AreHeard (acts_of_kind a header chunk)
kind_is_heard a header (chunks.Data piece) = data_is_heard a piece
kind_is_heard a header (chunks.SelectiveAck sack) =
    give_if IsHeard (sends_data a.state) _ []
    (outcome_is_heard _ _ sack.gap_ack_blocks _
    (opens_window (is_probing a.profile a.sender) sack.advertised_receiver_window_credit)) tt
kind_is_heard a header (chunks.Init init) =
    give_if IsHeard (is_beginning a.state) (known_unless (keeps_peer a init) init.initial_tsn) []
    (known_is_heard (keeps_peer a init) init.initial_tsn) tt
kind_is_heard a header (chunks.InitAck init) =
    give_if IsHeard (is_cookie_wait a.state) _ []
    (give_if IsHeard (comes_back a.handshake header) _ [] (tt, tt) tt) tt
kind_is_heard a header (chunks.ForwardTsn x) = forward_is_heard a x.new_cumulative_tsn x.streams
kind_is_heard a header (chunks.IForwardTsn x) = forward_is_heard a x.new_cumulative_tsn (skips_of x.entries)
kind_is_heard a header (chunks.Reconfig reconfig) =
    ends_are_heard (acts_of_reconfig a reconfig) (reconfigs_end_spans a reconfig)
kind_is_heard a header chunk = tt

checked_is_heard : (r : Result (Unit {0}) Error) (a : Shown) (header : CommonHeader) (chunk : Chunk)
    → AreHeard (acts_of_checked r a header chunk)
checked_is_heard (Err fault) a header chunk = tt
checked_is_heard (Ok done) a header chunk = kind_is_heard a header chunk

-- what a chunk that comes does to the directions is of what comes
pub chunk_is_heard : (a : Shown) (header : CommonHeader) (chunk : Chunk) → AreHeard (acts_of_chunk a header chunk)
chunk_is_heard a header chunk = checked_is_heard (checked_chunk chunk) a header chunk
