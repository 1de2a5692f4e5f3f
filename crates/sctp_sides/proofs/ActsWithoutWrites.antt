-- No act of any call but a write is a write.
use Rattle.std.proofs.Common.{◌≡◌, sym, subst, ⊎_elim, ℕ, Bool, true, false, if◌then◌else◌, not, List, [], ◌∷◌}
use Rattle.std.proofs.Common.{◌++◌, Option, Some, None, is_some, Result, Ok, Err}
use Rattle.std.specs.List.{AllByRecursion}
use Rattle.sctp_wire_types.specs.Checks.{checked_chunk}
use Rattle.sctp_wire_types.specs.declared.chunk.Chunk.{Chunk}
use Rattle.sctp_wire_types.specs.declared.chunk.Chunk.TheVariants as chunks
use Rattle.sctp_wire_types.specs.declared.chunk.ChunkPayloadData.{ChunkPayloadData}
use Rattle.sctp_wire_types.specs.declared.chunk.GapAckBlock.{GapAckBlock}
use Rattle.sctp_wire_types.specs.declared.chunk.SkippedStream.{SkippedStream}
use Rattle.sctp_wire_types.specs.declared.error.Error.{Error}
use Rattle.sctp_wire_types.specs.declared.packet.CommonHeader.{CommonHeader}
use Rattle.sctp_wire.specs.declared.packet.Packet.{Packet}
use Rattle.sctp_streams.specs.declared.setting.Setting.TheVariants as settings
use Rattle.sctp_streams.specs.Stream.{is_read_half_open}
use Rattle.sctp_streams.specs.Streams.{generation_left, read_in, refusal_in, stream_at}
use Rattle.sctp_inbound.specs.declared.receiver.AckTrigger.{AckTrigger}
use Rattle.sctp_inbound.specs.declared.receiver.AckTrigger.TheVariants as triggers
use Rattle.sctp_inbound.specs.Handshake.{comes_back}
use Rattle.sctp_inbound.specs.Receiver.{admits, is_new_to}
use Rattle.sctp_outbound_queue.specs.declared.message.Reports.{Reports}
use Rattle.sctp_outbound.specs.declared.sender.SackOutcome.{SackOutcome}
use Rattle.sctp_outbound.specs.declared.sender.SackOutcome.TheVariants as outcomes
use Rattle.sctp_generations.specs.Generations.{has_retiring, has_skips}
use Rattle.sctp_resets.specs.Concerned.{retiring_ids, skipped_ids}
use Rattle.sctp_resets.specs.Resets.{is_hidden, is_retiring}
use Rattle.sctp_resets.specs.Resets as resets
use Rattle.sctp_model.proofs.Lists.{all_join, all_weaker}
use Rattle.sctp_directions.specs.Acts.{Act}
use Rattle.sctp_assoc.specs.declared.inbound.Flow.{Flow}
use Rattle.sctp_assoc.specs.declared.inbound.Flow.TheVariants as flows
use Rattle.sctp_assoc.specs.Calls.{adjusted, drained_behind, exchanges_data, holds_of, is_beginning, is_cookie_wait}
use Rattle.sctp_assoc.specs.Calls.{read_exhausts, sends_data, stopped_open}
use Rattle.sctp_assoc.specs.Chunks.{counted_data, deferred_where_admitted, goes_unread, on_chunk, stream_found}
use Rattle.sctp_assoc.specs.Chunks.{taken_in, taken_where_admitted}
use Rattle.sctp_assoc.specs.Closing.{is_closed_state, is_exhausted}
use Rattle.sctp_assoc.specs.Gather.{fast_polled, is_due, late_dropped, open_polled}
use Rattle.sctp_assoc.specs.Happened.{acts_after, acts_if_left, acts_of_ack, acts_of_checked, acts_of_chunk}
use Rattle.sctp_assoc.specs.Happened.{acts_of_chunks}
use Rattle.sctp_assoc.specs.Happened.{acts_of_close, acts_of_close_stream, acts_of_counted_data, acts_of_data_poll}
use Rattle.sctp_assoc.specs.Happened.{acts_of_deferring, acts_of_ending, acts_of_exchange, acts_of_finding}
use Rattle.sctp_assoc.specs.Happened.{acts_of_forward}
use Rattle.sctp_assoc.specs.Happened.{acts_of_forwarding, acts_of_found, acts_of_hidden, acts_of_kind, acts_of_outcome}
use Rattle.sctp_assoc.specs.Happened.{acts_of_packet, acts_of_packet_of, acts_of_poll, acts_of_read}
use Rattle.sctp_assoc.specs.Happened.{acts_of_skips_behind, acts_of_stop, acts_of_stream, acts_of_taking}
use Rattle.sctp_assoc.specs.Handshake.{keeps_peer}
use Rattle.sctp_assoc.specs.Happened.{acts_of_timeouts, acts_unless_faulty, acts_unless_refused, forwards_of_poll}
use Rattle.sctp_assoc.specs.Probes.{is_probing, opens_window}
use Rattle.sctp_assoc.specs.ResetActs.{acts_of_draining, acts_of_keeping, acts_of_kept_skips, acts_of_reconfig}
use Rattle.sctp_assoc.specs.ResetActs.{acts_of_settling}
use Rattle.sctp_assoc.specs.Resets.{skips_applied_of}
use Rattle.sctp_assoc.specs.Shown.{Shown, all_waiting}
use Rattle.sctp_assoc.specs.Shutdown.{completes_shutdown}
use Rattle.sctp_assoc.specs.Skipping.{skips_of, with_passed, with_skips}
use Rattle.sctp_assoc.proofs.HandshakeFacts.{known_all}
use Rattle.sctp_assoc.proofs.StreamsFound.{finding_opens}
use Rattle.sctp_sides.specs.Intake.{IsEndOfSpans}
use Rattle.sctp_sides.specs.SideLaws.{GivesNew, GivesUpOrAgain}
use Rattle.sctp_sides.proofs.ActsOfChunks.{data_poll_acts, give_if, new_acts, new_gives, old_acts, old_acts_are_old}
use Rattle.sctp_sides.proofs.ActsOfChunks.{timeouts_mark_at_most}
use Rattle.sctp_sides.proofs.DataIntake.{settling_ends_spans, spans_end}
use Rattle.sctp_sides.proofs.ForwardKinds.{acts_are_one_of}
use Rattle.sctp_sides.proofs.NothingElseTaken.{marks_are, reconfigs_end_spans}
use Rattle.sctp_sides.proofs.QuietQueues.{IsNoWrite}

abbrev pub AreNoWrites : List Act → Type 0
AreNoWrites acts = AllByRecursion IsNoWrite acts

-- Ends of spans

end_is_no_write : (act : Act) → IsEndOfSpans act → IsNoWrite act
end_is_no_write (Act.SpansEnded ids m) e = tt
end_is_no_write act e = absurd e

ends_are_no_writes : (acts : List Act) → AllByRecursion IsEndOfSpans acts → AreNoWrites acts
ends_are_no_writes acts e = all_weaker IsEndOfSpans IsNoWrite acts end_is_no_write e

settling_writes_nothing : (a : Shown) → AreNoWrites (acts_of_settling a)
settling_writes_nothing a = ends_are_no_writes (acts_of_settling a) (settling_ends_spans a)

rest_writes_nothing : (x : Shown × Option Error) → AreNoWrites (acts_unless_faulty x)
rest_writes_nothing (a, None) = settling_writes_nothing a
rest_writes_nothing (a, Some fault) = tt

skips_write_nothing : (x : Shown × Option Error) (id : ℕ) → AreNoWrites (acts_of_skips_behind x id)
skips_write_nothing (a, None) id =
    ends_are_no_writes (acts_of_kept_skips id a)
    (spans_end (has_skips a.resets.generations) (skipped_ids a.resets.generations) (skips_applied_of id a).streams)
skips_write_nothing (a, Some fault) id = tt

-- DATA

taking_writes_nothing : (refusal : Option Error) (act : Act) → IsNoWrite act
    → AreNoWrites (acts_unless_refused refusal act)
taking_writes_nothing None act e = (e, tt)
taking_writes_nothing (Some fault) act e = tt

left_writes_nothing : (left : Bool) (a : Shown) (piece : ChunkPayloadData) → AreNoWrites (acts_if_left left a piece)
left_writes_nothing true a piece = (tt, tt)
left_writes_nothing false a piece =
    taking_writes_nothing (refusal_in a.streams piece.stream_identifier piece a.receiver.max_receive_message_size)
    (Act.Took piece) tt

found_writes_nothing : (x : Shown × Bool) (piece : ChunkPayloadData) → AreNoWrites (acts_of_found x piece)
found_writes_nothing (a, false) piece = tt
found_writes_nothing (a, true) piece =
    let id = piece.stream_identifier in
    let taking = acts_of_taking a piece ++ acts_of_skips_behind (taken_in a piece) id in
    all_join IsNoWrite (if admits a.receiver piece.tsn (all_waiting a) then taking else [])
    (acts_unless_faulty (taken_where_admitted a piece))
    (give_if IsNoWrite (admits a.receiver piece.tsn (all_waiting a)) taking []
    (all_join IsNoWrite (acts_of_taking a piece) (acts_of_skips_behind (taken_in a piece) id)
    (left_writes_nothing (goes_unread a piece) a piece) (skips_write_nothing (taken_in a piece) id)) tt)
    (rest_writes_nothing (taken_where_admitted a piece))

hidden_writes_nothing : (a : Shown) (piece : ChunkPayloadData) → AreNoWrites (acts_of_hidden a piece)
hidden_writes_nothing a piece =
    let refusal = resets.refusal_of a.resets piece a.receiver.max_receive_message_size in
    all_join IsNoWrite (acts_of_deferring a piece) (acts_unless_faulty (deferred_where_admitted a piece))
    (give_if IsNoWrite (admits a.receiver piece.tsn (all_waiting a))
    (acts_unless_refused refusal (Act.Deferred piece)) [] (taking_writes_nothing refusal (Act.Deferred piece) tt) tt)
    (rest_writes_nothing (deferred_where_admitted a piece))

stream_writes_nothing : (there left : Bool) (act : Act) → IsNoWrite act
    → AreNoWrites (if there then [] else if left then act ∷ [] else [])
stream_writes_nothing true left act e = tt
stream_writes_nothing false true act e = (e, tt)
stream_writes_nothing false false act e = tt

data_writes_nothing : (a : Shown) (piece : ChunkPayloadData) → AreNoWrites (acts_of_counted_data a piece)
data_writes_nothing a piece =
    let id = piece.stream_identifier in
    let found = stream_found a id in
    give_if IsNoWrite (not (is_new_to a.receiver piece.tsn)) (acts_of_settling a)
    (if is_hidden a.resets id piece.tsn then acts_of_hidden a piece else
    acts_of_stream a id ++ acts_of_found found piece)
    (settling_writes_nothing a)
    (give_if IsNoWrite (is_hidden a.resets id piece.tsn) (acts_of_hidden a piece)
    (acts_of_stream a id ++ acts_of_found found piece) (hidden_writes_nothing a piece)
    (all_join IsNoWrite (acts_of_stream a id) (acts_of_found found piece)
    (stream_writes_nothing (is_some (stream_at a.streams id)) (generation_left a.streams) _ tt)
    (found_writes_nothing found piece)))

-- Other chunks

outcomes_write_nothing : (outcome : SackOutcome) (n : ℕ) (blocks : List GapAckBlock) (missing : Reports) (opens : Bool)
    → AreNoWrites (acts_of_outcome outcome n blocks missing opens)
outcomes_write_nothing outcomes.Older n blocks missing opens = tt
outcomes_write_nothing outcomes.NotInFlight n blocks missing opens = tt
outcomes_write_nothing outcomes.NamesTheUnsent n blocks missing opens = tt
outcomes_write_nothing outcomes.Taken n blocks missing opens = (tt, marks_are IsNoWrite tt opens)

ahead_writes_nothing : (a : Shown) (tsn : ℕ) (skips : List SkippedStream)
    → AreNoWrites (acts_of_keeping tsn skips a ++ acts_of_settling (with_passed (with_skips tsn skips a) tsn))
ahead_writes_nothing a tsn skips =
    let b : Shown = with_passed (with_skips tsn skips a) tsn in
    all_join IsNoWrite (acts_of_keeping tsn skips a) (acts_of_settling b)
    (ends_are_no_writes (acts_of_keeping tsn skips a)
    (spans_end (has_retiring a.resets.generations) (retiring_ids a.resets.generations) b.streams))
    (settling_writes_nothing b)

forward_writes_nothing : (a : Shown) (tsn : ℕ) (skips : List SkippedStream)
    → AreNoWrites (acts_of_forward a tsn skips)
forward_writes_nothing a tsn skips =
    acts_are_one_of tsn skips (λ b acts. AreNoWrites acts) (λ b e. tt) (λ b e f. tt)
    (λ b e f. (tt, ahead_writes_nothing b tsn skips))
    (λ b acts all. all_join IsNoWrite (acts_of_finding tsn skips b) acts
    (finding_opens IsNoWrite (λ id first. tt) tsn skips b) all) a

kind_writes_nothing : (a : Shown) (header : CommonHeader) (chunk : Chunk) → AreNoWrites (acts_of_kind a header chunk)
kind_writes_nothing a header (chunks.Data piece) = data_writes_nothing (counted_data a) piece
kind_writes_nothing a header (chunks.SelectiveAck sack) =
    give_if IsNoWrite (sends_data a.state) _ []
    (outcomes_write_nothing _ _ sack.gap_ack_blocks _
    (opens_window (is_probing a.profile a.sender) sack.advertised_receiver_window_credit)) tt
kind_writes_nothing a header (chunks.Init init) =
    give_if IsNoWrite (is_beginning a.state) _ [] (known_all IsNoWrite (keeps_peer a init) init.initial_tsn tt) tt
kind_writes_nothing a header (chunks.InitAck init) =
    give_if IsNoWrite (is_cookie_wait a.state) _ []
    (give_if IsNoWrite (comes_back a.handshake header) _ [] (tt, tt) tt) tt
kind_writes_nothing a header (chunks.ForwardTsn x) = forward_writes_nothing a x.new_cumulative_tsn x.streams
kind_writes_nothing a header (chunks.IForwardTsn x) =
    forward_writes_nothing a x.new_cumulative_tsn (skips_of x.entries)
kind_writes_nothing a header (chunks.Reconfig reconfig) =
    ends_are_no_writes (acts_of_reconfig a reconfig) (reconfigs_end_spans a reconfig)
kind_writes_nothing a header chunk = tt

checked_writes_nothing : (r : Result (Unit {0}) Error) (a : Shown) (header : CommonHeader) (chunk : Chunk)
    → AreNoWrites (acts_of_checked r a header chunk)
checked_writes_nothing (Err fault) a header chunk = tt
checked_writes_nothing (Ok _) a header chunk = kind_writes_nothing a header chunk

pub chunk_writes_nothing : (a : Shown) (header : CommonHeader) (chunk : Chunk)
    → AreNoWrites (acts_of_chunk a header chunk)
chunk_writes_nothing a header chunk = checked_writes_nothing (checked_chunk chunk) a header chunk

-- Packets

pub close_writes_nothing : (a : Shown) → AreNoWrites (acts_of_close a)
close_writes_nothing a = give_if IsNoWrite (is_closed_state a.state) [] (Act.Ended ∷ []) tt (tt, tt)

after_writes_nothing : (x : Shown × Flow) (more : Shown → AckTrigger → List Act)
    → ((b : Shown) (trigger : AckTrigger) → AreNoWrites (more b trigger)) → AreNoWrites (acts_after x more)
after_writes_nothing (a, flows.Next trigger) more on = on a trigger
after_writes_nothing (a, flows.Fault fault) more on = close_writes_nothing a
after_writes_nothing (a, flows.Closed) more on = close_writes_nothing a
after_writes_nothing (a, flows.Exhausted) more on = close_writes_nothing a

chunks_write_nothing : (header : CommonHeader) (cs : List Chunk) (a : Shown) (trigger : AckTrigger) (now : ℕ)
    → AreNoWrites (acts_of_chunks header cs a trigger now)
chunks_write_nothing header [] a trigger now = tt
chunks_write_nothing header (c ∷ cs) a trigger now =
    let x = on_chunk a header c trigger now in
    all_join IsNoWrite (acts_of_chunk a header c) (acts_after x (λ b next. acts_of_chunks header cs b next now))
    (chunk_writes_nothing a header c)
    (after_writes_nothing x (λ b next. acts_of_chunks header cs b next now)
    (λ b next. chunks_write_nothing header cs b next now))

packet_of_writes_nothing : (packet : Option Packet) (a : Shown) (now : ℕ)
    → AreNoWrites (acts_of_packet_of a packet now)
packet_of_writes_nothing None a now = tt
packet_of_writes_nothing (Some packet) a now =
    chunks_write_nothing packet.common_header packet.chunks a triggers.None now

pub packet_writes_nothing : (packet : Option Packet) (a : Shown) (now : ℕ) → AreNoWrites (acts_of_packet a packet now)
packet_writes_nothing packet a now =
    give_if IsNoWrite a.lost [] (acts_of_packet_of a packet now) tt (packet_of_writes_nothing packet a now)

-- Calls of the application

pub read_writes_nothing : (a : Shown) (id : ℕ) → AreNoWrites (acts_of_read a id)
read_writes_nothing a id =
    let streams = (read_in a.streams id).0 in
    let close = if read_exhausts a id then acts_of_close a else [] in (
      tt,
      all_join IsNoWrite (acts_of_draining a id streams) close
          (ends_are_no_writes (acts_of_draining a id streams)
          (spans_end (is_retiring a.resets id) (id ∷ []) (drained_behind a id streams).streams))
          (give_if IsNoWrite (read_exhausts a id) (acts_of_close a) [] (close_writes_nothing a) tt),
    )

pub stop_writes_nothing : (a : Shown) (id : ℕ) → AreNoWrites (acts_of_stop a id)
stop_writes_nothing a id =
    let b = stopped_open a id in
    give_if IsNoWrite (holds_of (λ s. is_read_half_open s.halves) a id) _ []
    (tt, give_if IsNoWrite (is_exhausted b) (acts_of_close b) [] (close_writes_nothing b) tt) tt

pub close_stream_writes_nothing : (a : Shown) (id : ℕ) → AreNoWrites (acts_of_close_stream a id)
close_stream_writes_nothing a id = (tt, stop_writes_nothing (adjusted a id settings.WriteHalfClosed) id)

pub timeouts_write_nothing : (a : Shown) (now : ℕ) → AreNoWrites (acts_of_timeouts a now)
timeouts_write_nothing a now =
    ⊎_elim (λ (e : acts_of_timeouts a now ≡ []). subst AreNoWrites (sym e) tt)
    (λ (e : acts_of_timeouts a now ≡ Act.Marked ∷ []). subst AreNoWrites (sym e) (tt, tt))
    (timeouts_mark_at_most a now)

-- Polls

old_is_no_write : (act : Act) → GivesUpOrAgain act → IsNoWrite act
old_is_no_write (Act.Wrote id named bytes) e = absurd e
old_is_no_write act e = tt

new_is_no_write : (act : Act) → GivesNew act → IsNoWrite act
new_is_no_write (Act.Sent at_once now) e = tt
new_is_no_write act e = absurd e

data_poll_writes_nothing : (a : Shown) (now : ℕ) → AreNoWrites (acts_of_data_poll a now)
data_poll_writes_nothing a now =
    subst AreNoWrites (sym (data_poll_acts a now))
    (all_join IsNoWrite (old_acts a now) (new_acts a now)
    (all_weaker GivesUpOrAgain IsNoWrite (old_acts a now) old_is_no_write (old_acts_are_old a now))
    (all_weaker GivesNew IsNoWrite (new_acts a now) new_is_no_write
    (new_gives (late_dropped (fast_polled a now) now).sender now)))

exchange_writes_nothing : (a : Shown) (now : ℕ) → AreNoWrites (acts_of_exchange a now)
exchange_writes_nothing a now =
    let given = acts_of_data_poll a now ++ acts_of_ack a in
    let forward = acts_of_forwarding (forwards_of_poll a now) in
    give_if IsNoWrite (exchanges_data a.state) (given ++ forward) []
    (all_join IsNoWrite given forward
    (all_join IsNoWrite (acts_of_data_poll a now) (acts_of_ack a) (data_poll_writes_nothing a now)
    (give_if IsNoWrite (is_due a.receiver.ack_state) (Act.Reported ∷ []) [] (tt, tt) tt))
    (give_if IsNoWrite (forwards_of_poll a now) (Act.Forwarded ∷ []) [] (tt, tt) tt)) tt

pub poll_writes_nothing : (a : Shown) (now : ℕ) → AreNoWrites (acts_of_poll a now)
poll_writes_nothing a now =
    let m = (open_polled a now).0 in
    all_join IsNoWrite (acts_of_exchange a now) (acts_of_ending m) (exchange_writes_nothing a now)
    (give_if IsNoWrite (completes_shutdown m) (Act.Ended ∷ []) [] (tt, tt) tt)
