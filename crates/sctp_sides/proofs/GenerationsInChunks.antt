-- No packet, no read and no stop changes how often a generation is accounted for.
use Rattle.std.proofs.Common.{◌≡◌, refl, ◌∙◌, ℕ, Bool, true, false, ◌&&◌, if◌then◌else◌, List, [], ◌∷◌, ◌++◌}
use Rattle.std.proofs.Common.{Option, Some, None, Result, Ok, Err, is_some}
use Rattle.sctp_wire_types.specs.Config.{is_rfc}
use Rattle.sctp_wire_types.specs.declared.chunk.Chunk.{Chunk}
use Rattle.sctp_wire_types.specs.declared.chunk.Chunk.TheVariants as chunks
use Rattle.sctp_wire_types.specs.declared.chunk.ChunkHeartbeat.{ChunkHeartbeat}
use Rattle.sctp_wire_types.specs.declared.chunk.ChunkInit.{ChunkInit}
use Rattle.sctp_wire_types.specs.declared.chunk.ChunkPayloadData.{ChunkPayloadData}
use Rattle.sctp_wire_types.specs.declared.chunk.ChunkReconfig.{ChunkReconfig}
use Rattle.sctp_wire_types.specs.declared.chunk.GapAckBlock.{GapAckBlock}
use Rattle.sctp_wire_types.specs.declared.chunk.SkippedStream.{SkippedStream}
use Rattle.sctp_wire_types.specs.declared.error.Error.{Error}
use Rattle.sctp_wire_types.specs.declared.event.StreamEvent.TheVariants.{Opened, Readable}
use Rattle.sctp_wire_types.specs.declared.ids.PayloadProtocolIdentifier.TheVariants as kinds
use Rattle.sctp_wire_types.specs.declared.packet.CommonHeader.{CommonHeader}
use Rattle.sctp_wire_types.specs.declared.param.Param.{Param}
use Rattle.sctp_wire_types.specs.declared.param.Param.TheVariants as params
use Rattle.sctp_wire_types.specs.declared.param.ParamOutgoingResetRequest.{ParamOutgoingResetRequest}
use Rattle.sctp_wire_types.specs.declared.param.ParamReconfigResponse.{ParamReconfigResponse}
use Rattle.sctp_wire_types.specs.Checks.{checked_chunk}
use Rattle.sctp_wire.specs.declared.packet.Packet.{Packet}
use Rattle.sctp_parts.specs.Estimate.{Estimate}
use Rattle.sctp_receive_queues.specs.Messages.{ReceivedMessage}
use Rattle.sctp_streams.specs.declared.event.AssociationError.{AssociationError}
use Rattle.sctp_streams.specs.declared.event.AssociationError.TheVariants as reasons
use Rattle.sctp_streams.specs.declared.event.Event.{Event}
use Rattle.sctp_streams.specs.declared.event.Event.TheVariants.{Connected, DatagramReceived}
use Rattle.sctp_streams.specs.declared.event.Event.TheVariants as events
use Rattle.sctp_streams.specs.LowMarks.{fallen}
use Rattle.sctp_streams.specs.Stream.{StreamView, is_read_half_open, stream_skipped, with_halves, without_read_half}
use Rattle.sctp_streams.specs.Stream.{without_unread}
use Rattle.sctp_streams.specs.Streams.{StreamMap, becomes_ready_in, changed_stream, generation_left, is_readable_in}
use Rattle.sctp_streams.specs.Streams.{made, passed_in, pushed_in, read_in, refusal_in, stream_at}
use Rattle.sctp_inbound.specs.declared.receiver.AckTrigger.{AckTrigger}
use Rattle.sctp_inbound.specs.declared.receiver.AckTrigger.TheVariants as triggers
use Rattle.sctp_inbound.specs.Greeting.{first_cookie, information_of}
use Rattle.sctp_inbound.specs.Handshake.{comes_back, has_issued, learned_by_init}
use Rattle.sctp_inbound.specs.Receiver.{admits, asked, is_new_to, taken_to}
use Rattle.sctp_outbound.specs.declared.progress.Progress.{Progress}
use Rattle.sctp_outbound.specs.declared.sender.SackOutcome.{SackOutcome}
use Rattle.sctp_outbound.specs.declared.sender.SackOutcome.TheVariants as outcomes
use Rattle.sctp_outbound.specs.declared.sender.Sender.{Sender}
use Rattle.sctp_outbound.specs.Sacks.{progress_of, sack_taken}
use Rattle.sctp_outbound.specs.Sender.{sack_outcome}
use Rattle.sctp_resets.specs.declared.answers.TimerChange.{TimerChange}
use Rattle.sctp_resets.specs.declared.performing.Handled.{Handled}
use Rattle.sctp_resets.specs.declared.performing.Settled.{Settled}
use Rattle.sctp_resets.specs.Channels.{Channels, channels}
use Rattle.sctp_resets.specs.Resets.{Beside, Resetting, handled, is_hidden, is_retiring, refusal_of, responded}
use Rattle.sctp_resets.specs.Resets as resets
use Rattle.sctp_assoc.specs.declared.inbound.Flow.{Flow}
use Rattle.sctp_assoc.specs.declared.inbound.Flow.TheVariants as flows
use Rattle.sctp_assoc.specs.Calls.{after_read, credit_in, drained_behind, eased, holds_of, is_beginning}
use Rattle.sctp_assoc.specs.Calls.{is_cookie_echoed, is_cookie_wait, read_from_stream, sends_data}
use Rattle.sctp_assoc.specs.Calls.{stopped, stopped_open, tells_window, told_if, unread_dropped, without_read_half_of}
use Rattle.sctp_assoc.specs.Chunks.{after_chunks, after_packet, after_packet_of, after_sack, asks, asks_or_faults}
use Rattle.sctp_assoc.specs.Chunks.{checked_first, deferred_unless, deferred_where_admitted, dispatched, goes_on}
use Rattle.sctp_assoc.specs.Chunks.{goes_unread, left_or_handed_over, on_chunk}
use Rattle.sctp_assoc.specs.Chunks.{on_counted_data, on_counted_sack, on_data, on_new_data, on_sack, stream_found}
use Rattle.sctp_assoc.specs.Chunks.{taken_in, taken_unless, taken_where_admitted, then_skips, told, with_acknowledged}
use Rattle.sctp_assoc.specs.Chunks.{with_message}
use Rattle.sctp_assoc.specs.Closing.{closed_by, exhausted, is_closed_state, is_exhausted, relieved}
use Rattle.sctp_assoc.specs.Finding.{found_for}
use Rattle.sctp_assoc.specs.Handshake.{acknowledges_again, answered, connected, echoed, information_returned}
use Rattle.sctp_assoc.specs.Handshake.{keeps_peer, learned_unless, on_cookie_ack, on_cookie_echo}
use Rattle.sctp_assoc.specs.Handshake.{on_heartbeat, on_init, on_init_ack, sends_cookie}
use Rattle.sctp_assoc.specs.Probes.{is_probing}
use Rattle.sctp_assoc.specs.Resets.{after_param, asking_if, behind_first, behind_params, handled_with, on_reconfig}
use Rattle.sctp_assoc.specs.Resets.{on_request, on_response, responded_with, settled, settled_with, skips_applied}
use Rattle.sctp_assoc.specs.Resets.{skips_applied_of, stopped_if, with_answer, with_resetting}
use Rattle.sctp_assoc.specs.Shown.{Shown, all_waiting}
use Rattle.sctp_assoc.specs.Shutdown.{shutdown_continued}
use Rattle.sctp_assoc.specs.Skipping.{asks_behind, on_forward, readable_told, skips_of, with_passed, with_skip}
use Rattle.sctp_assoc.specs.Skipping.{with_skips}
use Rattle.sctp_assoc.proofs.Probes.{probes_keep}
use Rattle.sctp_assoc.proofs.StreamsFound.{found_for_keeps}
use Rattle.sctp_sides.specs.Generations.{finals}
use Rattle.sctp_sides.proofs.ForwardKinds.{forward_is_one_of}
use Rattle.sctp_sides.proofs.GenerationsInResets.{handled_keeps, none_live, read_out_keeps, responded_keeps}
use Rattle.sctp_sides.proofs.GenerationsInResets.{settled_keeps, skips_done_keep, skips_done_of_keep}
use Rattle.sctp_sides.proofs.GenerationsInResets.{stopped_reading_keeps}
use Rattle.sctp_sides.proofs.GenerationsInSending.{low_told, sack_same}
use Rattle.sctp_sides.proofs.GenerationsKept.{changed_same, closed_tally, made_tally, one_told, passed_same}
use Rattle.sctp_sides.proofs.GenerationsKept.{pushed_same, read_same, same_tally, silent_told, tally}

module _ (g : ℕ) where
  -- the tally of the streams and the events of an association
  abbrev pub tally_of : Shown → ℕ
  tally_of a = tally g a.streams a.events

  -- Resets of streams

  skips_kept_of : (id : ℕ) (a : Shown) → tally_of (skips_applied_of id a) ≡ tally_of a
  skips_kept_of id a = skips_done_of_keep g id a.resets a.streams a.events

  skips_kept : (a : Shown) → tally_of (skips_applied a) ≡ tally_of a
  skips_kept a = skips_done_keep g a.resets a.streams a.events

  asking_keeps : (asks : Bool) (a : Shown) → tally_of (asking_if asks a) ≡ tally_of a
  asking_keeps true a = refl
  asking_keeps false a = refl

  answer_keeps : (o : Option Settled) (a : Shown) → tally_of (with_answer o a) ≡ tally_of a
  answer_keeps None a = refl
  answer_keeps (Some q) a = asking_keeps q.asks a

  settled_with_keeps : (a : Shown) (x : Resetting × Option Settled) → tally g x.0.1.streams x.0.1.events ≡ tally_of a
      → tally_of (settled_with a x) ≡ tally_of a
  settled_with_keeps a (s, answer) e = answer_keeps answer (with_resetting a s) ∙ e

  pub settling_keeps : (a : Shown) → tally_of (settled a) ≡ tally_of a
  unfolding settled
  settling_keeps a =
      let last = a.receiver.peer_last_tsn in
      let limit = a.receiver.max_receive_message_size in
      let first = a.sender.queue.next_message_id in
      let x = resets.settled last first limit a.resets (channels a.streams a.events a.to_accept) in
      skips_kept (settled_with a x)
      ∙ settled_with_keeps a x (settled_keeps g last first limit a.resets (channels a.streams a.events a.to_accept))

  stopped_if_keeps : (confirms : Bool) (a : Shown) → tally_of (stopped_if confirms a) ≡ tally_of a
  stopped_if_keeps true a = refl
  stopped_if_keeps false a = refl

  handled_with_keeps : (a : Shown) (number : ℕ) (x : Resetting × Handled)
      → tally g x.0.1.streams x.0.1.events ≡ tally_of a → tally_of (handled_with a number x) ≡ tally_of a
  handled_with_keeps a number (s, h) e =
      asking_keeps h.asks (stopped_if h.confirms (with_resetting a s))
      ∙ stopped_if_keeps h.confirms (with_resetting a s) ∙ e

  request_keeps : (a : Shown) (param : ParamOutgoingResetRequest) → tally_of (on_request a param) ≡ tally_of a
  unfolding on_request
  request_keeps a param =
      let last = a.receiver.peer_last_tsn in
      let limit = a.receiver.max_receive_message_size in
      let first = a.sender.queue.next_message_id in
      let c : Channels = channels a.streams a.events a.to_accept in
      handled_with_keeps a param.reconfig_request_sequence_number (handled param last first limit a.resets c)
      (handled_keeps g param last first limit a.resets c)

  responded_with_keeps : (a : Shown) (x : Beside × TimerChange) → tally g x.0.1 x.0.2 ≡ tally_of a
      → tally_of (responded_with a x) ≡ tally_of a
  responded_with_keeps a ((r, m, queued), change) e = e

  response_keeps : (a : Shown) (response : ParamReconfigResponse) → tally_of (on_response a response) ≡ tally_of a
  unfolding on_response
  response_keeps a response =
      responded_with_keeps a (responded response a.resets a.streams a.events)
      (responded_keeps g response a.resets a.streams a.events)

  param_keeps : (param : Param) (a : Shown) → tally_of (after_param param a).0 ≡ tally_of a
  param_keeps (params.OutgoingResetRequest request) a = request_keeps a request
  param_keeps (params.ReconfigResponse response) a = response_keeps a response
  param_keeps param a = refl

  params_keep : (x : Shown × Bool) (trigger : AckTrigger) → tally_of (behind_params x trigger).0 ≡ tally_of x.0
  params_keep (a, true) trigger = refl
  params_keep (a, false) trigger = refl

  first_keeps : (x : Shown × Bool) (second : Option Param) (trigger : AckTrigger)
      → tally_of (behind_first x second trigger).0 ≡ tally_of x.0
  first_keeps (a, true) None trigger = refl
  first_keeps (a, true) (Some param) trigger = params_keep (after_param param a) trigger ∙ param_keeps param a
  first_keeps (a, false) second trigger = refl

  reconfig_keeps : (a : Shown) (reconfig : ChunkReconfig) (trigger : AckTrigger)
      → tally_of (on_reconfig a reconfig trigger).0 ≡ tally_of a
  unfolding on_reconfig
  reconfig_keeps a reconfig trigger =
      first_keeps (after_param reconfig.first a) reconfig.second trigger ∙ param_keeps reconfig.first a

  -- DATA

  told_keeps : (c : Bool) (b : Shown) (id : ℕ) (kept : Bool) → (kept && is_readable_in b.streams id) ≡ c
      → tally_of (told b id kept) ≡ tally_of b
  told_keeps true b id kept e =
      rw e (one_told g b.streams (b.events ++ DatagramReceived ∷ []) (events.Stream (Readable id)) refl
      ∙ one_told g b.streams b.events DatagramReceived refl)
  told_keeps false b id kept e = rw e (one_told g b.streams b.events DatagramReceived refl)

  message_keeps : (a : Shown) (piece : ChunkPayloadData) (x : StreamMap × Bool)
      → tally_of (with_message a piece x) ≡ tally g x.0 a.events
  message_keeps a piece (streams, kept) =
      told_keeps _ (record a { streams = streams; receiver = taken_to a.receiver piece.tsn }) piece.stream_identifier
      kept refl

  taking_keeps : (o : Option Error) (a : Shown) (piece : ChunkPayloadData)
      → tally_of (taken_unless o a piece).0 ≡ tally_of a
  taking_keeps (Some fault) a piece = refl
  taking_keeps None a piece =
      let id = piece.stream_identifier in
      message_keeps a piece (pushed_in a.streams id piece)
      ∙ same_tally g a.streams (pushed_in a.streams id piece).0 a.events (pushed_same a.streams id piece)

  -- what nobody reads is left, and other DATA goes to its stream
  leaving_keeps : (left : Bool) (a : Shown) (piece : ChunkPayloadData)
      → tally_of (left_or_handed_over left a piece).0 ≡ tally_of a
  leaving_keeps true a piece = one_told g a.streams a.events DatagramReceived refl
  leaving_keeps false a piece =
      taking_keeps (refusal_in a.streams piece.stream_identifier piece a.receiver.max_receive_message_size) a piece

  either_keeps : (c : Bool) (a : Shown) (f h : Flow)
      → tally_of (if◌then◌else◌ {A = Shown × Flow} c (a, f) (a, h)).0 ≡ tally_of a
  either_keeps true a f h = refl
  either_keeps false a f h = refl

  -- what asks to be acknowledged, behind what it settles
  asks_keep : (a : Shown) (immediate : Bool) (trigger : AckTrigger)
      → tally_of (asks (settled a) immediate trigger).0 ≡ tally_of a
  asks_keep a immediate trigger =
      let b : Shown = settled a in
      either_keeps (is_exhausted b) b flows.Exhausted (flows.Next (asked b.receiver trigger immediate))
      ∙ settling_keeps a

  asked_keeps : (x : Shown × Option Error) (immediate : Bool) (trigger : AckTrigger)
      → tally_of (asks_or_faults x immediate trigger).0 ≡ tally_of x.0
  asked_keeps (b, None) immediate trigger = asks_keep b immediate trigger
  asked_keeps (b, Some fault) immediate trigger = refl

  skips_behind_keep : (x : Shown × Option Error) (id : ℕ) → tally_of (then_skips x id).0 ≡ tally_of x.0
  skips_behind_keep (b, None) id = skips_kept_of id b
  skips_behind_keep (b, Some fault) id = refl

  admitted_keeps : (c : Bool) (b : Shown) (piece : ChunkPayloadData)
      → admits b.receiver piece.tsn (all_waiting b) ≡ c → tally_of (taken_where_admitted b piece).0 ≡ tally_of b
  unfolding taken_in
  admitted_keeps true b piece e =
      rw e (skips_behind_keep (taken_in b piece) piece.stream_identifier
      ∙ leaving_keeps (goes_unread b piece) b piece)
  admitted_keeps false b piece e = rw e refl

  deferring_keeps : (o : Option Error) (b : Shown) (piece : ChunkPayloadData)
      → tally_of (deferred_unless o b piece).0 ≡ tally_of b
  deferring_keeps (Some fault) b piece = refl
  deferring_keeps None b piece = refl

  deferred_keeps : (c : Bool) (b : Shown) (piece : ChunkPayloadData)
      → admits b.receiver piece.tsn (all_waiting b) ≡ c → tally_of (deferred_where_admitted b piece).0 ≡ tally_of b
  unfolding deferred_where_admitted
  deferred_keeps true b piece e =
      rw e (deferring_keeps (refusal_of b.resets piece b.receiver.max_receive_message_size) b piece)
  deferred_keeps false b piece e = rw e refl

  next_keeps : (x : Shown × Bool) (piece : ChunkPayloadData) (trigger : AckTrigger)
      → tally_of (on_new_data x piece trigger).0 ≡ tally_of x.0
  next_keeps (b, false) piece trigger = refl
  next_keeps (b, true) piece trigger =
      asked_keeps (taken_where_admitted b piece) piece.immediate_sack trigger ∙ admitted_keeps _ b piece refl

  found_keeps : (there left : Bool) (a : Shown) (id : ℕ) → is_some (stream_at a.streams id) ≡ there
      → generation_left a.streams ≡ left → tally_of (stream_found a id).0 ≡ tally_of a
  unfolding stream_found
  found_keeps true left a id e f = rw e refl
  found_keeps false true a id e f =
      let first = a.sender.queue.next_message_id in
      rw (e, f) (one_told g (made a.streams id first kinds.Unknown) a.events (events.Stream (Opened id)) refl
      ∙ made_tally g a.streams id first kinds.Unknown a.events (none_live (stream_at a.streams id) e))
  found_keeps false false a id e f = rw (e, f) refl

  counted_keeps : (new hidden : Bool) (b : Shown) (piece : ChunkPayloadData) (trigger : AckTrigger)
      → is_new_to b.receiver piece.tsn ≡ new → is_hidden b.resets piece.stream_identifier piece.tsn ≡ hidden
      → tally_of (on_counted_data b piece trigger).0 ≡ tally_of b
  counted_keeps false hidden b piece trigger e f = rw e (asks_keep b piece.immediate_sack trigger)
  counted_keeps true true b piece trigger e f =
      rw (e, f) (asked_keeps (deferred_where_admitted b piece) piece.immediate_sack trigger
      ∙ deferred_keeps _ b piece refl)
  counted_keeps true false b piece trigger e f =
      let id = piece.stream_identifier in
      rw (e, f) (next_keeps (stream_found b id) piece trigger ∙ found_keeps _ _ b id refl refl)

  data_keeps : (a : Shown) (piece : ChunkPayloadData) (trigger : AckTrigger)
      → tally_of (on_data a piece trigger).0 ≡ tally_of a
  unfolding on_data
  data_keeps a piece trigger = counted_keeps _ _ _ piece trigger refl refl

  -- SACK

  acknowledged_keeps : (a : Shown) (progress : Progress) (now : ℕ) (x : Sender × Estimate × StreamMap)
      → tally_of (with_acknowledged a progress now x) ≡ tally g x.2 a.events
  acknowledged_keeps a progress now (s, e, m) = low_told g m a.events (fallen a.streams m)

  outcome_keeps : (o : SackOutcome) (b : Shown) (cumulative_tsn_ack : ℕ) (blocks : List GapAckBlock) (window : ℕ)
      (trigger : AckTrigger) (now : ℕ)
      → tally_of (on_counted_sack o b cumulative_tsn_ack blocks window trigger now).0 ≡ tally_of b
  outcome_keeps outcomes.Older b cumulative_tsn_ack blocks window trigger now = refl
  outcome_keeps outcomes.NotInFlight b cumulative_tsn_ack blocks window trigger now = refl
  outcome_keeps outcomes.NamesTheUnsent b cumulative_tsn_ack blocks window trigger now = refl
  outcome_keeps outcomes.Taken b cumulative_tsn_ack blocks window trigger now =
      let x = sack_taken cumulative_tsn_ack blocks window now b.sender b.estimate b.streams in
      let c : Shown = after_sack b cumulative_tsn_ack blocks window now in
      let same : tally_of c ≡ tally_of b =
      acknowledged_keeps b (progress_of b.sender cumulative_tsn_ack blocks) now x
      ∙ same_tally g b.streams x.2 b.events
      (sack_same cumulative_tsn_ack blocks window now b.sender b.estimate b.streams) in
      probes_keep (λ (d : Shown). tally_of d ≡ tally_of b) (λ d e. e) (λ d e. e) (is_probing b.profile b.sender) window
      (shutdown_continued c) same

  sack_keeps : (c : Bool) (a : Shown) (cumulative_tsn_ack : ℕ) (blocks : List GapAckBlock) (window : ℕ)
      (trigger : AckTrigger) (now : ℕ) → sends_data a.state ≡ c
      → tally_of (on_sack a cumulative_tsn_ack blocks window trigger now).0 ≡ tally_of a
  unfolding on_sack
  sack_keeps true a cumulative_tsn_ack blocks window trigger now e =
      rw e (outcome_keeps (sack_outcome a.sender cumulative_tsn_ack blocks) _ cumulative_tsn_ack blocks window trigger
      now)
  sack_keeps false a cumulative_tsn_ack blocks window trigger now e = rw e refl

  -- FORWARD TSN

  readable_keeps : (ready : Bool) (m : StreamMap) (queued : List Event) (id : ℕ)
      → tally g m (queued ++ readable_told ready id) ≡ tally g m queued
  readable_keeps ready m queued id = silent_told g m queued (readable_told ready id) (by ready)
    where
      by : (ready : Bool) → finals (readable_told ready id) ≡ []
      by true = refl
      by false = refl

  skip_keeps : (c : Bool) (tsn id ssn : ℕ) (a : Shown) → is_retiring a.resets id ≡ c
      → tally_of (with_skip tsn id ssn a) ≡ tally_of a
  unfolding with_skip
  skip_keeps true tsn id ssn a e = rw e refl
  skip_keeps false tsn id ssn a e =
      let n : StreamMap = changed_stream (stream_skipped ssn) a.streams id in
      rw e (readable_keeps (becomes_ready_in a.streams id ssn) n a.events id
      ∙ same_tally g a.streams n a.events (changed_same (stream_skipped ssn) (λ u. refl) a.streams id))

  skips_keep : (tsn : ℕ) (es : List SkippedStream) (a : Shown) → tally_of (with_skips tsn es a) ≡ tally_of a
  skips_keep tsn [] a = refl
  skips_keep tsn (e ∷ es) a =
      skips_keep tsn es (with_skip tsn e.stream_identifier e.stream_sequence_number a)
      ∙ skip_keeps _ tsn e.stream_identifier e.stream_sequence_number a refl

  passed_keeps : (a : Shown) (tsn : ℕ) (es : List SkippedStream) (trigger : AckTrigger)
      → tally_of (asks_behind (settled (with_passed (with_skips tsn es a) tsn)) trigger).0 ≡ tally_of a
  passed_keeps a tsn es trigger =
      let b : Shown = with_skips tsn es a in
      let c : Shown = with_passed b tsn in
      let d : Shown = settled c in
      either_keeps (is_exhausted d) d flows.Exhausted (flows.Next (asked d.receiver trigger false))
      ∙ settling_keeps c
      ∙ same_tally g b.streams (passed_in b.streams tsn) b.events (passed_same b.streams tsn)
      ∙ skips_keep tsn es a

  -- the streams on which it skips are found or made before
  all_found_keep : (tsn : ℕ) (es : List SkippedStream) (a : Shown) → tally_of (found_for tsn es a) ≡ tally_of a
  all_found_keep tsn es a =
      found_for_keeps (λ (b : Shown). tally_of b ≡ tally_of a)
      (λ b id e. found_keeps (is_some (stream_at b.streams id)) (generation_left b.streams) b id refl refl ∙ e)
      tsn es a refl

  forward_keeps : (a : Shown) (tsn : ℕ) (es : List SkippedStream) (trigger : AckTrigger) (now : ℕ)
      → tally_of (on_forward a tsn es trigger now).0 ≡ tally_of a
  forward_keeps a tsn es trigger now =
      forward_is_one_of tsn es (λ b x. tally_of x.0 ≡ tally_of b) trigger now
      (λ b e. refl)
      (λ b e f. refl)
      (λ b e f. passed_keeps b tsn es trigger)
      (λ b x k. k ∙ all_found_keep tsn es b)
      a

  -- The handshake

  answered_keeps : (keeps : Bool) (a : Shown) (header : CommonHeader) (init : ChunkInit)
      → tally_of
      (answered (learned_unless keeps (record a { handshake = learned_by_init a.handshake header init }) init))
      ≡ tally_of a
  answered_keeps true a header init = refl
  answered_keeps false a header init = refl

  init_keeps : (c : Bool) (a : Shown) (header : CommonHeader) (init : ChunkInit) (trigger : AckTrigger)
      → is_beginning a.state ≡ c → tally_of (on_init a header init trigger).0 ≡ tally_of a
  unfolding on_init
  init_keeps true a header init trigger e = rw e (answered_keeps (keeps_peer a init) a header init)
  init_keeps false a header init trigger e = rw e refl

  echoed_keeps : (o : Option (List ℕ)) (a b : Shown) (trigger : AckTrigger) (now : ℕ) → tally_of b ≡ tally_of a
      → tally_of (echoed o b trigger now).0 ≡ tally_of a
  unfolding sends_cookie
  echoed_keeps None a b trigger now e = e
  echoed_keeps (Some cookie) a b trigger now e = e

  init_ack_keeps : (waits back : Bool) (a : Shown) (header : CommonHeader) (init : ChunkInit) (trigger : AckTrigger)
      (now : ℕ) → is_cookie_wait a.state ≡ waits → comes_back a.handshake header ≡ back
      → tally_of (on_init_ack a header init trigger now).0 ≡ tally_of a
  unfolding on_init_ack
  init_ack_keeps true true a header init trigger now e f =
      rw (e, f) (echoed_keeps (first_cookie init.params) a _ trigger now refl)
  init_ack_keeps true false a header init trigger now e f = rw (e, f) refl
  init_ack_keeps false back a header init trigger now e f = rw e refl

  connected_keeps : (a : Shown) → tally_of (connected a) ≡ tally_of a
  connected_keeps a = one_told g a.streams a.events Connected refl

  cookie_echo_keeps : (issued beginning again : Bool) (a : Shown) (cookie : List ℕ) (trigger : AckTrigger)
      → has_issued a.handshake cookie ≡ issued
      → is_beginning a.state ≡ beginning → acknowledges_again a ≡ again
      → tally_of (on_cookie_echo a cookie trigger).0 ≡ tally_of a
  unfolding on_cookie_echo
  cookie_echo_keeps false beginning again a cookie trigger e f h = rw e refl
  cookie_echo_keeps true true again a cookie trigger e f h = rw (e, f) (connected_keeps a)
  cookie_echo_keeps true false true a cookie trigger e f h = rw (e, f, h) refl
  cookie_echo_keeps true false false a cookie trigger e f h = rw (e, f, h) refl

  cookie_ack_keeps : (c : Bool) (a : Shown) (trigger : AckTrigger) → is_cookie_echoed a.state ≡ c
      → tally_of (on_cookie_ack a trigger).0 ≡ tally_of a
  unfolding on_cookie_ack
  cookie_ack_keeps true a trigger e = rw e (connected_keeps a)
  cookie_ack_keeps false a trigger e = rw e refl

  returned_keeps : (o : Option (List ℕ)) (a : Shown) → tally_of (information_returned o a) ≡ tally_of a
  returned_keeps None a = refl
  returned_keeps (Some information) a = refl

  heartbeat_keeps : (a : Shown) (heartbeat : ChunkHeartbeat) (trigger : AckTrigger)
      → tally_of (on_heartbeat a heartbeat trigger).0 ≡ tally_of a
  unfolding on_heartbeat
  heartbeat_keeps a heartbeat trigger = returned_keeps (information_of heartbeat.params) a

  -- Any chunk

  kind_keeps : (header : CommonHeader) (c : Chunk) (a : Shown) (trigger : AckTrigger) (now : ℕ)
      → tally_of (dispatched a header c trigger now).0 ≡ tally_of a
  kind_keeps header (chunks.Data piece) a trigger now = data_keeps a piece _
  kind_keeps header (chunks.SelectiveAck sack) a trigger now =
      sack_keeps _ a sack.cumulative_tsn_ack sack.gap_ack_blocks sack.advertised_receiver_window_credit trigger now refl
  kind_keeps header (chunks.Init x) a trigger now = init_keeps _ a header x trigger refl
  kind_keeps header (chunks.InitAck x) a trigger now = init_ack_keeps _ _ a header x trigger now refl refl
  kind_keeps header (chunks.Heartbeat x) a trigger now = heartbeat_keeps a x trigger
  kind_keeps header (chunks.HeartbeatAck x) a trigger now = refl
  kind_keeps header (chunks.Abort x) a trigger now = refl
  kind_keeps header (chunks.Shutdown x) a trigger now = refl
  kind_keeps header chunks.ShutdownAck a trigger now = refl
  kind_keeps header (chunks.Error x) a trigger now = refl
  kind_keeps header (chunks.CookieEcho x) a trigger now = cookie_echo_keeps _ _ _ a x trigger refl refl refl
  kind_keeps header chunks.CookieAck a trigger now = cookie_ack_keeps _ a trigger refl
  kind_keeps header chunks.ShutdownComplete a trigger now = refl
  kind_keeps header (chunks.Reconfig x) a trigger now = reconfig_keeps a x trigger
  kind_keeps header (chunks.ForwardTsn x) a trigger now = forward_keeps a x.new_cumulative_tsn x.streams trigger now
  kind_keeps header (chunks.IForwardTsn x) a trigger now =
      forward_keeps a x.new_cumulative_tsn (skips_of x.entries) trigger now
  kind_keeps header (chunks.Other kind flags value) a trigger now = refl

  checked_keeps : (r : Result (Unit {0}) Error) (header : CommonHeader) (c : Chunk) (a : Shown) (trigger : AckTrigger)
      (now : ℕ) → tally_of (checked_first r a header c trigger now).0 ≡ tally_of a
  checked_keeps (Err fault) header c a trigger now = refl
  checked_keeps (Ok done) header c a trigger now = kind_keeps header c a trigger now

  chunk_keeps : (header : CommonHeader) (c : Chunk) (a : Shown) (trigger : AckTrigger) (now : ℕ)
      → tally_of (on_chunk a header c trigger now).0 ≡ tally_of a
  unfolding on_chunk
  chunk_keeps header c a trigger now = checked_keeps (checked_chunk c) header c a trigger now

  -- A packet

  closed_keeps_if : (closed : Bool) (a : Shown) (reason : AssociationError) → is_closed_state a.state ≡ closed
      → tally_of (closed_by a reason) ≡ tally_of a
  closed_keeps_if true a reason e = rw e refl
  closed_keeps_if false a reason e = rw e (closed_tally g a.streams a.events reason)

  pub closed_keeps : (a : Shown) (reason : AssociationError) → tally_of (closed_by a reason) ≡ tally_of a
  closed_keeps a reason = closed_keeps_if (is_closed_state a.state) a reason refl

  exhausted_keeps : (a : Shown) → tally_of (exhausted a) ≡ tally_of a
  exhausted_keeps a = closed_keeps a reasons.ReceiveBufferExhausted

  flow_keeps : (x : Shown × Flow) (more : Shown → AckTrigger → Shown)
      → ((b : Shown) (trigger : AckTrigger) → tally_of (more b trigger) ≡ tally_of b)
      → tally_of (goes_on x more) ≡ tally_of x.0
  flow_keeps (b, flows.Next trigger) more on = on b trigger
  flow_keeps (b, flows.Fault fault) more on = closed_keeps b reasons.AssociationClosed
  flow_keeps (b, flows.Closed) more on = closed_keeps b reasons.AssociationClosed
  flow_keeps (b, flows.Exhausted) more on = exhausted_keeps b

  chunks_keep : (header : CommonHeader) (cs : List Chunk) (a : Shown) (trigger : AckTrigger) (now : ℕ)
      → tally_of (after_chunks header cs a trigger now) ≡ tally_of a
  chunks_keep header [] a trigger now = refl
  chunks_keep header (c ∷ cs) a trigger now =
      flow_keeps (on_chunk a header c trigger now) (λ b next. after_chunks header cs b next now)
      (λ b next. chunks_keep header cs b next now)
      ∙ chunk_keeps header c a trigger now

  packet_keeps : (packet : Option Packet) (a : Shown) (now : ℕ) → tally_of (after_packet_of a packet now) ≡ tally_of a
  packet_keeps None a now = refl
  packet_keeps (Some packet) a now = chunks_keep packet.common_header packet.chunks a triggers.None now

  packet_keeps_unless : (lost : Bool) (packet : Option Packet) (a : Shown) (now : ℕ)
      → tally_of (if lost then a else after_packet_of a packet now) ≡ tally_of a
  packet_keeps_unless true packet a now = refl
  packet_keeps_unless false packet a now = packet_keeps packet a now

  pub packets_keep : (a : Shown) (packet : Option Packet) (now : ℕ) → tally_of (after_packet a packet now) ≡ tally_of a
  packets_keep a packet now = packet_keeps_unless a.lost packet a now

  -- Reading and stopping

  relieved_keeps_if : (e : Bool) (a : Shown) → tally_of (if e then exhausted a else a) ≡ tally_of a
  relieved_keeps_if true a = exhausted_keeps a
  relieved_keeps_if false a = refl

  relieved_keeps : (a : Shown) → tally_of (relieved a) ≡ tally_of a
  relieved_keeps a = relieved_keeps_if (is_exhausted a) a

  -- a window that is told changes nothing of that
  told_window_keeps : (tells : Bool) (a : Shown) → tally_of (told_if tells a) ≡ tally_of a
  told_window_keeps true a = refl
  told_window_keeps false a = refl

  eased_keeps : (before : ℕ) (a : Shown) → tally_of (eased before a) ≡ tally_of a
  eased_keeps before a = told_window_keeps (tells_window before (relieved a)) (relieved a) ∙ relieved_keeps a

  drained_keeps : (a : Shown) (id : ℕ) (streams : StreamMap)
      → tally_of (drained_behind a id streams) ≡ tally g streams a.events
  drained_keeps a id streams =
      read_out_keeps g a.sender.queue.next_message_id a.receiver.max_receive_message_size id a.resets
      (channels streams a.events a.to_accept)

  after_read_keeps : (x : StreamMap × Option ReceivedMessage) (a : Shown) (id : ℕ)
      → tally_of (after_read a id x).0 ≡ tally g x.0 a.events
  after_read_keeps (streams, None) a id = drained_keeps a id streams
  after_read_keeps (streams, Some message) a id =
      eased_keeps (credit_in a) (drained_behind a id streams) ∙ drained_keeps a id streams

  pub reads_keep : (a : Shown) (id : ℕ) → tally_of (read_from_stream a id).0 ≡ tally_of a
  reads_keep a id =
      after_read_keeps (read_in a.streams id) a id
      ∙ same_tally g a.streams (read_in a.streams id).0 a.events (read_same a.streams id)

  half_keeps : (a : Shown) (id : ℕ) → tally_of (without_read_half_of a id) ≡ tally_of a
  half_keeps a id =
      let f : StreamView → StreamView = λ s. with_halves s (without_read_half s.halves) in
      same_tally g a.streams (changed_stream f a.streams id) a.events (changed_same f (λ u. refl) a.streams id)

  -- what waits of a stream is dropped or not, and no generation changes
  dropping_keeps : (drops : Bool) (m : StreamMap) (id : ℕ) (es : List Event)
      → tally g (unread_dropped drops m id) es ≡ tally g m es
  dropping_keeps true m id es =
      same_tally g m (changed_stream without_unread m id) es (changed_same without_unread (λ u. refl) m id)
  dropping_keeps false m id es = refl

  stopped_open_keeps : (retires : Bool) (a : Shown) (id : ℕ) → is_retiring a.resets id ≡ retires
      → tally_of (stopped_open a id) ≡ tally_of a
  stopped_open_keeps true a id e =
      let b : Shown = without_read_half_of a id in
      rw e (stopped_reading_keeps g id b.resets b.streams b.events ∙ half_keeps a id)
  stopped_open_keeps false a id e =
      let b : Shown = without_read_half_of a id in
      rw e (dropping_keeps (is_rfc a.profile) b.streams id b.events ∙ half_keeps a id)

  stop_keeps_if : (is_open : Bool) (before : ℕ) (a : Shown) (id : ℕ)
      → tally_of (if is_open then eased before (stopped_open a id) else a) ≡ tally_of a
  stop_keeps_if true before a id =
      eased_keeps before (stopped_open a id) ∙ stopped_open_keeps (is_retiring a.resets id) a id refl
  stop_keeps_if false before a id = refl

  pub stops_keep : (a : Shown) (id : ℕ) → tally_of (stopped a id) ≡ tally_of a
  stops_keep a id = stop_keeps_if (holds_of (λ s. is_read_half_open s.halves) a id) (credit_in a) a id
