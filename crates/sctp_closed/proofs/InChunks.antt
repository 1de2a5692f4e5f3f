-- What the rules keep stays so over the chunks of a packet whose requests to reset streams name some streams alone: a
-- SACK, a handshake, a FORWARD TSN and RE-CONFIG.
use Rattle.std.proofs.Common.{◌≡◌, refl, ℕ, Bool, true, false, if◌then◌else◌, List, [], ◌∷◌, ◌++◌, map, Option, Some}
use Rattle.std.proofs.Common.{None, Result, Ok, Err}
use Rattle.std.specs.Prelude.{⊤}
use Rattle.std.specs.List.{AllByRecursion}
use Rattle.sctp_wire_types.specs.declared.chunk.Chunk.{Chunk}
use Rattle.sctp_wire_types.specs.declared.chunk.Chunk.TheVariants as chunks
use Rattle.sctp_wire_types.specs.declared.chunk.ChunkHeartbeat.{ChunkHeartbeat}
use Rattle.sctp_wire_types.specs.declared.chunk.ChunkInit.{ChunkInit}
use Rattle.sctp_wire_types.specs.declared.chunk.ChunkReconfig.{ChunkReconfig}
use Rattle.sctp_wire_types.specs.declared.chunk.GapAckBlock.{GapAckBlock}
use Rattle.sctp_wire_types.specs.declared.chunk.SkippedStream.{SkippedStream}
use Rattle.sctp_wire_types.specs.declared.error.Error.{Error}
use Rattle.sctp_wire_types.specs.declared.packet.CommonHeader.{CommonHeader}
use Rattle.sctp_wire_types.specs.declared.param.Param.{Param}
use Rattle.sctp_wire_types.specs.declared.param.Param.TheVariants as params
use Rattle.sctp_wire_types.specs.declared.param.ParamOutgoingResetRequest.{ParamOutgoingResetRequest}
use Rattle.sctp_wire_types.specs.declared.param.ParamReconfigResponse.{ParamReconfigResponse}
use Rattle.sctp_wire_types.specs.Checks.{checked_chunk}
use Rattle.sctp_streams.specs.declared.event.Event.{Event}
use Rattle.sctp_streams.specs.declared.event.Event.TheVariants.{Connected}
use Rattle.sctp_streams.specs.LowMarks.{fallen, low_event}
use Rattle.sctp_streams.specs.Stream.{stream_skipped}
use Rattle.sctp_streams.specs.Streams.{StreamMap, becomes_ready_in, changed_stream}
use Rattle.sctp_parts.specs.Estimate.{Estimate}
use Rattle.sctp_inbound.specs.declared.receiver.AckTrigger.{AckTrigger}
use Rattle.sctp_inbound.specs.Greeting.{first_cookie, information_of}
use Rattle.sctp_inbound.specs.Handshake.{comes_back, has_issued, learned_by_init, learned_by_init_ack}
use Rattle.sctp_outbound.specs.declared.progress.Progress.{Progress}
use Rattle.sctp_outbound.specs.declared.sender.SackOutcome.{SackOutcome}
use Rattle.sctp_outbound.specs.declared.sender.SackOutcome.TheVariants as outcomes
use Rattle.sctp_outbound.specs.declared.sender.Sender.{Sender}
use Rattle.sctp_outbound.specs.Sacks.{progress_of, sack_taken}
use Rattle.sctp_outbound.specs.Sender.{sack_outcome}
use Rattle.sctp_resets.specs.declared.answers.TimerChange.{TimerChange}
use Rattle.sctp_resets.specs.declared.performing.Handled.{Handled}
use Rattle.sctp_resets.specs.Resets.{Beside, Resetting, handled, is_retiring, responded}
use Rattle.sctp_resets.specs.Within.{ParamOver}
use Rattle.sctp_resets.proofs.KeptOver.{handled_over, met_over, responded_over, retiring_is_over, skip_over}
use Rattle.sctp_resets.proofs.KeptOver.{unordered_over}
use Rattle.sctp_assoc.specs.declared.inbound.Flow.TheVariants as flows
use Rattle.sctp_assoc.specs.Calls.{is_beginning, is_cookie_echoed, is_cookie_wait, sends_data}
use Rattle.sctp_assoc.specs.Chunks.{after_sack, checked_first, counted_sack, dispatched, on_chunk, on_counted_sack}
use Rattle.sctp_assoc.specs.Chunks.{on_sack, with_acknowledged}
use Rattle.sctp_assoc.specs.Closing.{is_exhausted}
use Rattle.sctp_assoc.specs.Finding.{found_for}
use Rattle.sctp_assoc.specs.Handshake.{acknowledges_again, connected, cookie_queued, echoed, information_returned}
use Rattle.sctp_assoc.specs.Handshake.{keeps_peer, learned, learned_back, learned_unless, on_cookie_ack, on_cookie_echo}
use Rattle.sctp_assoc.specs.Handshake.{on_heartbeat, on_init, on_init_ack, sends_cookie}
use Rattle.sctp_assoc.specs.Probes.{is_probing, probes_answered}
use Rattle.sctp_assoc.specs.Resets.{after_param, asking_if, behind_first, behind_params, channels_of, handled_with}
use Rattle.sctp_assoc.specs.Resets.{on_reconfig, on_request, on_response, responded_with, settled, stopped_if}
use Rattle.sctp_assoc.specs.Resets.{with_beside, with_resetting}
use Rattle.sctp_assoc.specs.Shown.{Shown}
use Rattle.sctp_assoc.specs.Shutdown.{shutdown_again, shutdown_answered, shutdown_continued, shutdown_taken}
use Rattle.sctp_assoc.specs.Skipping.{acknowledged_at_once, asks_behind, on_forward, skips_of, with_passed, with_skip}
use Rattle.sctp_assoc.specs.Skipping.{with_skips}
use Rattle.sctp_assoc.proofs.Probes.{probes_keep}
use Rattle.sctp_assoc.proofs.StreamsFound.{found_for_keeps}
use Rattle.sctp_sides.proofs.ForwardKinds.{forward_is_one_of}
use Rattle.sctp_sides.proofs.PeerRequestsInChunks.{flow_same}
use Rattle.sctp_ended.proofs.Carried.{skipped_is_mild}
use Rattle.sctp_ended.proofs.CarriedInSending.{sack_taken_carries}
use Rattle.sctp_closed.specs.Closed.{EndsOnly}
use Rattle.sctp_closed.proofs.InData.{on_data_keeps, settling_keeps, stream_found_keeps}
use Rattle.sctp_closed.proofs.InDelivery.{readable_holds}
use Rattle.sctp_closed.proofs.InResets.{handled_holds, responded_holds}
use Rattle.sctp_closed.proofs.Rules.{IsUnended, Keeps, SideIs, same_side, stays, still_keeps, then_keeps}
use Rattle.sctp_closed.proofs.Steps.{asking_if_keeps, beside_keeps, queued_keeps, resetting_keeps, responding_keeps}

-- A parameter, if it is a request to reset outgoing streams, names some of these alone; so do those of a chunk.

abbrev pub ParamIsOver : (ℕ → Bool) → Param → Type 0
ParamIsOver over (params.OutgoingResetRequest request) = ParamOver over request
ParamIsOver over param = ⊤

abbrev pub ParamIsOverIf : (ℕ → Bool) → Option Param → Type 0
ParamIsOverIf over None = ⊤
ParamIsOverIf over (Some param) = ParamIsOver over param

abbrev pub ChunkIsOver : (ℕ → Bool) → Chunk → Type 0
ChunkIsOver over (chunks.Reconfig reconfig) = ParamIsOver over reconfig.first × ParamIsOverIf over reconfig.second
ChunkIsOver over chunk = ⊤

-- low marks tell of no end
low_marks_end_none : (over : ℕ → Bool) (ids : List ℕ) → AllByRecursion (EndsOnly over) (map low_event ids)
low_marks_end_none over [] = tt
low_marks_end_none over (id ∷ ids) = (tt, low_marks_end_none over ids)

module _ (over : ℕ → Bool) (P : Bool → StreamMap → List Event → Type 0) (law : IsUnended over P) where
  pub low_holds : (lost : Bool) (m : StreamMap) (es : List Event) (ids : List ℕ) → P lost m es
      → P lost m (es ++ map low_event ids)
  low_holds lost m es ids h = law.says lost m es (map low_event ids) (low_marks_end_none over ids) h

  -- SACK

  acknowledged_keeps : (a : Shown) (progress : Progress) (now : ℕ) (x : Sender × Estimate × StreamMap)
      → (SideIs P a → P a.lost x.2 a.events) → Keeps over P a (with_acknowledged a progress now x)
  acknowledged_keeps a progress now (sender, estimate, streams) still =
      still_keeps over P a _ refl (λ h. low_holds a.lost streams a.events (fallen a.streams streams) (still h))

  -- probes that it answers change timers and what is to be sent again alone
  probed_keeps : (probing : Bool) (window : ℕ) (a : Shown) → Keeps over P a (probes_answered probing window a)
  probed_keeps probing window a =
      probes_keep (Keeps over P a)
      (λ b k. then_keeps over P k (still_keeps over P b _ refl (λ h. h)))
      (λ b k. then_keeps over P k (still_keeps over P b _ refl (λ h. h)))
      probing window a (stays over P a)

  outcome_keeps : (o : SackOutcome) (a : Shown) (cumulative_tsn_ack : ℕ) (blocks : List GapAckBlock) (window : ℕ)
      (trigger : AckTrigger) (now : ℕ)
      → Keeps over P a (on_counted_sack o a cumulative_tsn_ack blocks window trigger now).0
  outcome_keeps outcomes.Older a cumulative_tsn_ack blocks window trigger now = stays over P a
  outcome_keeps outcomes.NotInFlight a cumulative_tsn_ack blocks window trigger now = stays over P a
  outcome_keeps outcomes.NamesTheUnsent a cumulative_tsn_ack blocks window trigger now = stays over P a
  outcome_keeps outcomes.Taken a cumulative_tsn_ack blocks window trigger now =
      let b : Shown = after_sack a cumulative_tsn_ack blocks window now in
      let c : Shown = shutdown_continued b in
      then_keeps over P
      (acknowledged_keeps a (progress_of a.sender cumulative_tsn_ack blocks) now
      (sack_taken cumulative_tsn_ack blocks window now a.sender a.estimate a.streams)
      (λ h. sack_taken_carries (λ (m : StreamMap). P a.lost m a.events)
      (λ m change id mild k. law.changes a.lost m a.events change id mild k)
      cumulative_tsn_ack blocks window now a.sender a.estimate a.streams h))
      (then_keeps over P (still_keeps over P b c refl (λ h. h)) (probed_keeps (is_probing a.profile a.sender) window c))

  sack_keeps : (sends : Bool) (a : Shown) (cumulative_tsn_ack : ℕ) (blocks : List GapAckBlock) (window : ℕ)
      (trigger : AckTrigger) (now : ℕ) → sends_data a.state ≡ sends
      → Keeps over P a (on_sack a cumulative_tsn_ack blocks window trigger now).0
  unfolding on_sack
  sack_keeps true a cumulative_tsn_ack blocks window trigger now e =
      rw e (then_keeps over P (still_keeps over P a (counted_sack a) refl (λ h. h))
      (outcome_keeps (sack_outcome a.sender cumulative_tsn_ack blocks) (counted_sack a) cumulative_tsn_ack blocks window
      trigger now))
  sack_keeps false a cumulative_tsn_ack blocks window trigger now e = rw e (stays over P a)

  -- The handshake, and HEARTBEAT

  learned_keeps : (kept : Bool) (a : Shown) (header : CommonHeader) (init : ChunkInit)
      → Keeps over P a (learned_unless kept (record a { handshake = learned_by_init a.handshake header init }) init)
  learned_keeps true a header init = still_keeps over P a _ refl (λ h. h)
  learned_keeps false a header init =
      record { resets = λ r. met_over over a.resets init.initial_tsn r; keeps = λ r h. h }

  learned_back_keeps : (a : Shown) (header : CommonHeader) (init : ChunkInit)
      → Keeps over P a (learned_back a header init)
  learned_back_keeps a header init =
      record { resets = λ r. met_over over a.resets init.initial_tsn r; keeps = λ r h. h }

  init_keeps : (begins : Bool) (a : Shown) (header : CommonHeader) (init : ChunkInit) (trigger : AckTrigger)
      → is_beginning a.state ≡ begins → Keeps over P a (on_init a header init trigger).0
  unfolding on_init
  init_keeps true a header init trigger e =
      rw e
      (then_keeps over P (learned_keeps (keeps_peer a init) a header init)
      (queued_keeps over P (learned a header init) _))
  init_keeps false a header init trigger e = rw e (stays over P a)

  cookie_keeps : (o : Option (List ℕ)) (a : Shown) → Keeps over P a (cookie_queued o a)
  cookie_keeps None a = stays over P a
  cookie_keeps (Some cookie) a = queued_keeps over P a _

  pub sends_cookie_keeps : (a : Shown) (now : ℕ) → Keeps over P a (sends_cookie a now)
  unfolding sends_cookie
  sends_cookie_keeps a now =
      then_keeps over P (cookie_keeps a.handshake.echo a)
      (still_keeps over P (cookie_queued a.handshake.echo a) (sends_cookie a now) refl (λ h. h))

  echoed_keeps : (o : Option (List ℕ)) (a : Shown) (trigger : AckTrigger) (now : ℕ)
      → Keeps over P a (echoed o a trigger now).0
  echoed_keeps None a trigger now = stays over P a
  echoed_keeps (Some cookie) a trigger now =
      then_keeps over P (still_keeps over P a _ refl (λ h. h)) (sends_cookie_keeps _ now)

  back_keeps : (back : Bool) (a : Shown) (header : CommonHeader) (init : ChunkInit) (trigger : AckTrigger) (now : ℕ)
      → Keeps over P a
      (if back then echoed (first_cookie init.params) (learned_back a header init) trigger now
      else (record a { handshake = learned_by_init_ack a.handshake header init }, flows.Next trigger)).0
  back_keeps true a header init trigger now =
      then_keeps over P (learned_back_keeps a header init)
      (echoed_keeps (first_cookie init.params) (learned_back a header init) trigger now)
  back_keeps false a header init trigger now = still_keeps over P a _ refl (λ h. h)

  init_ack_keeps : (waits : Bool) (a : Shown) (header : CommonHeader) (init : ChunkInit) (trigger : AckTrigger)
      (now : ℕ) → is_cookie_wait a.state ≡ waits → Keeps over P a (on_init_ack a header init trigger now).0
  unfolding on_init_ack
  init_ack_keeps true a header init trigger now e =
      rw e (back_keeps (comes_back a.handshake header) a header init trigger now)
  init_ack_keeps false a header init trigger now e = rw e (stays over P a)

  connected_keeps : (a : Shown) → Keeps over P a (connected a)
  connected_keeps a =
      still_keeps over P a (connected a) refl
      (λ h. law.says a.lost a.streams a.events (Connected ∷ []) (tt, tt) h)

  cookie_echo_keeps : (issued begins again : Bool) (a : Shown) (cookie : List ℕ) (trigger : AckTrigger)
      → has_issued a.handshake cookie ≡ issued → is_beginning a.state ≡ begins
      → acknowledges_again a ≡ again → Keeps over P a (on_cookie_echo a cookie trigger).0
  unfolding on_cookie_echo
  cookie_echo_keeps false begins again a cookie trigger e f g = rw e (stays over P a)
  cookie_echo_keeps true true again a cookie trigger e f g =
      rw (e, f) (then_keeps over P (connected_keeps a) (queued_keeps over P (connected a) _))
  cookie_echo_keeps true false true a cookie trigger e f g =
      rw (e, f, g) (then_keeps over P (still_keeps over P a (shutdown_again a) refl (λ h. h))
      (queued_keeps over P (shutdown_again a) _))
  cookie_echo_keeps true false false a cookie trigger e f g = rw (e, f, g) (stays over P a)

  cookie_ack_keeps : (waits : Bool) (a : Shown) (trigger : AckTrigger) → is_cookie_echoed a.state ≡ waits
      → Keeps over P a (on_cookie_ack a trigger).0
  unfolding on_cookie_ack
  cookie_ack_keeps true a trigger e = rw e (connected_keeps a)
  cookie_ack_keeps false a trigger e = rw e (stays over P a)

  returned_keeps : (o : Option (List ℕ)) (a : Shown) → Keeps over P a (information_returned o a)
  returned_keeps None a = stays over P a
  returned_keeps (Some information) a = queued_keeps over P a _

  heartbeat_keeps : (a : Shown) (heartbeat : ChunkHeartbeat) (trigger : AckTrigger)
      → Keeps over P a (on_heartbeat a heartbeat trigger).0
  unfolding on_heartbeat
  heartbeat_keeps a heartbeat trigger = returned_keeps (information_of heartbeat.params) a

  -- FORWARD TSN

  skip_keeps_if : (retires : Bool) (tsn id ssn : ℕ) (a : Shown) → is_retiring a.resets id ≡ retires
      → Keeps over P a (with_skip tsn id ssn a)
  unfolding with_skip
  skip_keeps_if true tsn id ssn a e =
      rw e (record {
        resets = λ r. skip_over over a.resets id ssn tsn (retiring_is_over over a.resets id r e) r;
        keeps = λ r h. h;
      })
  skip_keeps_if false tsn id ssn a e =
      rw e
      (still_keeps over P a _ refl
      (λ h. readable_holds over P law a.lost (becomes_ready_in a.streams id ssn)
      (changed_stream (stream_skipped ssn) a.streams id) a.events id
      (law.changes a.lost a.streams a.events (stream_skipped ssn) id (skipped_is_mild ssn) h)))

  skip_keeps : (tsn id ssn : ℕ) (a : Shown) → Keeps over P a (with_skip tsn id ssn a)
  skip_keeps tsn id ssn a = skip_keeps_if (is_retiring a.resets id) tsn id ssn a refl

  skips_keep : (tsn : ℕ) (es : List SkippedStream) (a : Shown) → Keeps over P a (with_skips tsn es a)
  skips_keep tsn [] a = stays over P a
  skips_keep tsn (e ∷ es) a =
      then_keeps over P (skip_keeps tsn e.stream_identifier e.stream_sequence_number a)
      (skips_keep tsn es (with_skip tsn e.stream_identifier e.stream_sequence_number a))

  passed_keeps : (a : Shown) (tsn : ℕ) → Keeps over P a (with_passed a tsn)
  passed_keeps a tsn = record {
    resets = λ r. unordered_over over a.resets tsn r;
    keeps = λ r h. law.passes a.lost a.streams a.events tsn h;
  }

  asks_behind_keeps : (a : Shown) (trigger : AckTrigger) → Keeps over P a (asks_behind a trigger).0
  asks_behind_keeps a trigger = same_side over P a _ (flow_same (is_exhausted a) a _ _)

  ahead_keeps : (a : Shown) (tsn : ℕ) (es : List SkippedStream) (trigger : AckTrigger)
      → Keeps over P a (asks_behind (settled (with_passed (with_skips tsn es a) tsn)) trigger).0
  ahead_keeps a tsn es trigger =
      let b : Shown = with_skips tsn es a in
      let c : Shown = with_passed b tsn in
      then_keeps over P (skips_keep tsn es a)
      (then_keeps over P (passed_keeps b tsn)
      (then_keeps over P (settling_keeps over P law c) (asks_behind_keeps (settled c) trigger)))

  -- the streams on which it skips are found or made before
  all_found_keep : (tsn : ℕ) (es : List SkippedStream) (a : Shown) → Keeps over P a (found_for tsn es a)
  all_found_keep tsn es a =
      found_for_keeps (Keeps over P a) (λ b id k. then_keeps over P k (stream_found_keeps over P law b id)) tsn es a
      (stays over P a)

  on_forward_keeps : (a : Shown) (tsn : ℕ) (es : List SkippedStream) (trigger : AckTrigger) (now : ℕ)
      → Keeps over P a (on_forward a tsn es trigger now).0
  on_forward_keeps a tsn es trigger now =
      forward_is_one_of tsn es (λ b x. Keeps over P b x.0) trigger now
      (λ b e. queued_keeps over P b _)
      (λ b e f. still_keeps over P b (acknowledged_at_once b now) refl (λ h. h))
      (λ b e f. ahead_keeps b tsn es trigger)
      (λ b x k. then_keeps over P (all_found_keep tsn es b) k)
      a

  -- RE-CONFIG

  stopped_keeps : (confirms : Bool) (a : Shown) → Keeps over P a (stopped_if confirms a)
  stopped_keeps true a = still_keeps over P a _ refl (λ h. h)
  stopped_keeps false a = stays over P a

  handled_with_keeps : (a : Shown) (number : ℕ) (x : Resetting × Handled) → Keeps over P a (with_resetting a x.0)
      → Keeps over P a (handled_with a number x)
  handled_with_keeps a number (s, done) first =
      let b : Shown = with_resetting a s in
      let c : Shown = stopped_if done.confirms b in
      then_keeps over P first
      (then_keeps over P (stopped_keeps done.confirms b)
      (then_keeps over P (asking_if_keeps over P done.asks c)
      (responding_keeps over P (asking_if done.asks c) number done.answer)))

  on_request_keeps : (a : Shown) (param : ParamOutgoingResetRequest) → ParamOver over param
      → Keeps over P a (on_request a param)
  unfolding on_request
  on_request_keeps a param past =
      let last = a.receiver.peer_last_tsn in
      let first = a.sender.queue.next_message_id in
      let limit = a.receiver.max_receive_message_size in
      let x : Resetting × Handled = handled param last first limit a.resets (channels_of a) in
      handled_with_keeps a param.reconfig_request_sequence_number x
      (resetting_keeps over P a x.0 (λ r. handled_over over param last first limit a.resets (channels_of a) r past)
      (λ r h. handled_holds over P law a.lost param last first limit a.resets (channels_of a) past r h))

  responded_with_keeps : (a : Shown) (x : Beside × TimerChange) → Keeps over P a (with_beside a x.0)
      → Keeps over P a (responded_with a x)
  responded_with_keeps a (b, change) first =
      then_keeps over P first (still_keeps over P (with_beside a b) (responded_with a (b, change)) refl (λ h. h))

  on_response_keeps : (a : Shown) (response : ParamReconfigResponse) → Keeps over P a (on_response a response)
  unfolding on_response
  on_response_keeps a response =
      let x : Beside × TimerChange = responded response a.resets a.streams a.events in
      responded_with_keeps a x
      (beside_keeps over P a x.0 (λ r. responded_over over response a.resets a.streams a.events r)
      (λ r h. responded_holds over P law a.lost response a.resets a.streams a.events r h))

  param_keeps : (param : Param) (a : Shown) → ParamIsOver over param → Keeps over P a (after_param param a).0
  param_keeps (params.OutgoingResetRequest request) a past = on_request_keeps a request past
  param_keeps (params.ReconfigResponse response) a past = on_response_keeps a response
  param_keeps (params.HeartbeatInfo information) a past = stays over P a
  param_keeps (params.StateCookie cookie) a past = stays over P a
  param_keeps (params.SupportedExtensions kinds) a past = stays over P a
  param_keeps (params.Other kind value) a past = stays over P a

  behind_params_keeps : (x : Shown × Bool) (trigger : AckTrigger) → Keeps over P x.0 (behind_params x trigger).0
  behind_params_keeps (a, true) trigger = stays over P a
  behind_params_keeps (a, false) trigger = stays over P a

  behind_first_keeps : (x : Shown × Bool) (second : Option Param) (trigger : AckTrigger) → ParamIsOverIf over second
      → Keeps over P x.0 (behind_first x second trigger).0
  behind_first_keeps (a, true) None trigger past = stays over P a
  behind_first_keeps (a, true) (Some second) trigger past =
      then_keeps over P (param_keeps second a past) (behind_params_keeps (after_param second a) trigger)
  behind_first_keeps (a, false) second trigger past = stays over P a

  on_reconfig_keeps : (a : Shown) (reconfig : ChunkReconfig) (trigger : AckTrigger)
      → ChunkIsOver over (chunks.Reconfig reconfig) → Keeps over P a (on_reconfig a reconfig trigger).0
  unfolding on_reconfig
  on_reconfig_keeps a reconfig trigger past =
      then_keeps over P (param_keeps reconfig.first a past.0)
      (behind_first_keeps (after_param reconfig.first a) reconfig.second trigger past.1)

  -- Any chunk

  dispatched_keeps : (a : Shown) (header : CommonHeader) (c : Chunk) (trigger : AckTrigger) (now : ℕ)
      → ChunkIsOver over c → Keeps over P a (dispatched a header c trigger now).0
  dispatched_keeps a header (chunks.Data piece) trigger now past = on_data_keeps over P law a piece _
  dispatched_keeps a header (chunks.SelectiveAck k) trigger now past =
      sack_keeps (sends_data a.state) a k.cumulative_tsn_ack k.gap_ack_blocks k.advertised_receiver_window_credit
      trigger now refl
  dispatched_keeps a header (chunks.Init x) trigger now past = init_keeps (is_beginning a.state) a header x trigger refl
  dispatched_keeps a header (chunks.InitAck x) trigger now past =
      init_ack_keeps (is_cookie_wait a.state) a header x trigger now refl
  dispatched_keeps a header (chunks.Heartbeat x) trigger now past = heartbeat_keeps a x trigger
  dispatched_keeps a header (chunks.HeartbeatAck x) trigger now past = stays over P a
  dispatched_keeps a header (chunks.Abort x) trigger now past = stays over P a
  dispatched_keeps a header (chunks.Shutdown x) trigger now past =
      still_keeps over P a (shutdown_taken a) refl (λ h. h)
  dispatched_keeps a header chunks.ShutdownAck trigger now past =
      still_keeps over P a (shutdown_answered a) refl (λ h. h)
  dispatched_keeps a header (chunks.Error x) trigger now past = stays over P a
  dispatched_keeps a header (chunks.CookieEcho cookie) trigger now past =
      cookie_echo_keeps (has_issued a.handshake cookie) (is_beginning a.state) (acknowledges_again a) a cookie trigger
      refl refl refl
  dispatched_keeps a header chunks.CookieAck trigger now past =
      cookie_ack_keeps (is_cookie_echoed a.state) a trigger refl
  dispatched_keeps a header chunks.ShutdownComplete trigger now past = stays over P a
  dispatched_keeps a header (chunks.Reconfig x) trigger now past = on_reconfig_keeps a x trigger past
  dispatched_keeps a header (chunks.ForwardTsn x) trigger now past =
      on_forward_keeps a x.new_cumulative_tsn x.streams trigger now
  dispatched_keeps a header (chunks.IForwardTsn x) trigger now past =
      on_forward_keeps a x.new_cumulative_tsn (skips_of x.entries) trigger now
  dispatched_keeps a header (chunks.Other kind flags value) trigger now past = stays over P a

  checked_keeps : (r : Result (Unit {0}) Error) (a : Shown) (header : CommonHeader) (c : Chunk) (trigger : AckTrigger)
      (now : ℕ) → ChunkIsOver over c → Keeps over P a (checked_first r a header c trigger now).0
  checked_keeps (Err fault) a header c trigger now past = stays over P a
  checked_keeps (Ok done) a header c trigger now past = dispatched_keeps a header c trigger now past

  pub chunk_keeps : (a : Shown) (header : CommonHeader) (c : Chunk) (trigger : AckTrigger) (now : ℕ)
      → ChunkIsOver over c → Keeps over P a (on_chunk a header c trigger now).0
  unfolding on_chunk
  chunk_keeps a header c trigger now past = checked_keeps (checked_chunk c) a header c trigger now past
