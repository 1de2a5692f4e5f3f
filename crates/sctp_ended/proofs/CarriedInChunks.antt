-- Each chunk of a packet, whatever the peer sends, carries what each of the rules carries.
use Rattle.std.proofs.Common.{◌≡◌, refl, ℕ, Bool, true, false, if◌then◌else◌, List, [], ◌∷◌, Option, Some, None, Result}
use Rattle.std.proofs.Common.{Ok, Err}
use Rattle.sctp_wire_types.specs.declared.chunk.Chunk.{Chunk}
use Rattle.sctp_wire_types.specs.declared.chunk.Chunk.TheVariants as chunks
use Rattle.sctp_wire_types.specs.declared.chunk.ChunkHeartbeat.{ChunkHeartbeat}
use Rattle.sctp_wire_types.specs.declared.chunk.ChunkInit.{ChunkInit}
use Rattle.sctp_wire_types.specs.declared.chunk.ChunkReconfig.{ChunkReconfig}
use Rattle.sctp_wire_types.specs.declared.chunk.GapAckBlock.{GapAckBlock}
use Rattle.sctp_wire_types.specs.declared.chunk.SkippedStream.{SkippedStream}
use Rattle.sctp_wire_types.specs.declared.error.Error.{Error}
use Rattle.sctp_wire_types.specs.declared.packet.CommonHeader.{CommonHeader}
use Rattle.sctp_wire_types.specs.declared.param.Param.{Param}
use Rattle.sctp_wire_types.specs.declared.param.Param.TheVariants as params
use Rattle.sctp_wire_types.specs.declared.param.ParamOutgoingResetRequest.{ParamOutgoingResetRequest}
use Rattle.sctp_wire_types.specs.declared.param.ParamReconfigResponse.{ParamReconfigResponse}
use Rattle.sctp_wire_types.specs.Checks.{checked_chunk}
use Rattle.sctp_wire.specs.declared.packet.Packet.{Packet}
use Rattle.sctp_streams.specs.declared.event.AssociationError.TheVariants as reasons
use Rattle.sctp_streams.specs.Stream.{stream_skipped}
use Rattle.sctp_streams.specs.Streams.{StreamMap, passed_in}
use Rattle.sctp_parts.specs.Estimate.{Estimate}
use Rattle.sctp_generations.specs.Generations as generations
use Rattle.sctp_generations.specs.Generations.{GenerationsView}
use Rattle.sctp_inbound.specs.declared.receiver.AckTrigger.{AckTrigger}
use Rattle.sctp_inbound.specs.declared.receiver.AckTrigger.TheVariants as triggers
use Rattle.sctp_inbound.specs.Greeting.{first_cookie, information_of}
use Rattle.sctp_inbound.specs.Handshake.{comes_back, has_issued, learned_by_init, learned_by_init_ack}
use Rattle.sctp_outbound.specs.declared.progress.Progress.{Progress}
use Rattle.sctp_outbound.specs.declared.sender.SackOutcome.{SackOutcome}
use Rattle.sctp_outbound.specs.declared.sender.SackOutcome.TheVariants as outcomes
use Rattle.sctp_outbound.specs.declared.sender.Sender.{Sender}
use Rattle.sctp_outbound.specs.Sacks.{progress_of, sack_taken}
use Rattle.sctp_outbound.specs.Sender.{sack_outcome}
use Rattle.sctp_reset_requests.specs.Peer.{PeerView, boundary_of, number_before}
use Rattle.sctp_resets.specs.declared.answers.TimerChange.{TimerChange}
use Rattle.sctp_resets.specs.declared.performing.Handled.{Handled}
use Rattle.sctp_resets.specs.Resets as resets
use Rattle.sctp_resets.specs.Resets.{Beside, Resetting, handled, is_retiring, responded}
use Rattle.sctp_assoc.specs.declared.inbound.Flow.{Flow}
use Rattle.sctp_assoc.specs.declared.inbound.Flow.TheVariants as flows
use Rattle.sctp_assoc.specs.Calls.{is_beginning, is_cookie_echoed, is_cookie_wait, sends_data}
use Rattle.sctp_assoc.specs.Chunks.{after_packet, after_packet_of, after_sack, checked_first, counted_sack, dispatched}
use Rattle.sctp_assoc.specs.Chunks.{after_chunks, ended, goes_on, on_chunk, on_counted_sack, on_sack, with_acknowledged}
use Rattle.sctp_assoc.specs.Closing.{is_exhausted}
use Rattle.sctp_assoc.specs.Finding.{found_for}
use Rattle.sctp_assoc.specs.Handshake.{acknowledges_again, connected, cookie_queued, echoed, information_returned}
use Rattle.sctp_assoc.specs.Handshake.{keeps_peer, learned, learned_back, learned_unless, on_cookie_ack}
use Rattle.sctp_assoc.specs.Handshake.{on_cookie_echo, on_heartbeat, on_init, on_init_ack, sends_cookie}
use Rattle.sctp_assoc.specs.Probes.{is_probing, probes_answered}
use Rattle.sctp_assoc.specs.Resets.{after_param, asking_if, behind_first, behind_params, channels_of, handled_with}
use Rattle.sctp_assoc.specs.Resets.{on_reconfig, on_request, on_response, responded_with, settled, stopped_if}
use Rattle.sctp_assoc.specs.Resets.{with_beside, with_resetting}
use Rattle.sctp_assoc.specs.Shown.{Shown}
use Rattle.sctp_assoc.specs.Shutdown.{shutdown_again, shutdown_answered, shutdown_continued, shutdown_taken}
use Rattle.sctp_assoc.specs.Skipping.{acknowledged_at_once, asks_behind, on_forward, skips_of, with_passed, with_skip}
use Rattle.sctp_assoc.specs.Skipping.{with_skips}
use Rattle.sctp_assoc.proofs.Probes.{probes_keep}
use Rattle.sctp_assoc.proofs.StreamsFound.{found_for_keeps}
use Rattle.sctp_sides.proofs.ForwardKinds.{forward_is_one_of}
use Rattle.sctp_sides.proofs.PeerRequestsInChunks.{flow_same}
use Rattle.sctp_ended.specs.Boundaries.{GoesOn, HoldsThroughChunks, HoldsThroughPacket, HoldsWhereThere}
use Rattle.sctp_ended.specs.Boundaries.{between_params}
use Rattle.sctp_ended.proofs.Carried.{Carries, IsCarried, SideIs, asking_if_carries, beside_carries, closed_carries}
use Rattle.sctp_ended.proofs.Carried.{exhausted_carries, nothing_carries, queued_carries, resetting_carries}
use Rattle.sctp_ended.proofs.Carried.{responding_carries, same_carries, same_side_carries, skipped_is_mild}
use Rattle.sctp_ended.proofs.Carried.{streams_carry, then_carries}
use Rattle.sctp_ended.proofs.CarriedInData.{on_data_carries, settling_carries, stream_found_carries}
use Rattle.sctp_ended.proofs.CarriedInResets.{handled_carries, responded_carries}
use Rattle.sctp_ended.proofs.CarriedInSending.{sack_taken_carries}

module _ {Open : GenerationsView → PeerView → Type 0} {T : GenerationsView → PeerView → StreamMap → Type 0}
    (rules : IsCarried Open T) where
  -- SACK

  acknowledged_carries : (a : Shown) (progress : Progress) (now : ℕ) (x : Sender × Estimate × StreamMap)
      → (SideIs T a → T a.resets.generations a.resets.peer x.2) → Carries T a (with_acknowledged a progress now x)
  acknowledged_carries a progress now (sender, estimate, streams) still =
      streams_carry a _ still refl refl

  -- probes that it answers change timers and what is to be sent again alone
  probed_carries : (probing : Bool) (window : ℕ) (a : Shown) → Carries T a (probes_answered probing window a)
  probed_carries probing window a =
      probes_keep (Carries T a)
      (λ b k. then_carries k (same_carries b _ refl refl refl))
      (λ b k. then_carries k (same_carries b _ refl refl refl))
      probing window a (nothing_carries a)

  outcome_carries : (o : SackOutcome) (a : Shown) (cumulative_tsn_ack : ℕ) (blocks : List GapAckBlock) (window : ℕ)
      (trigger : AckTrigger) (now : ℕ)
      → Carries T a (on_counted_sack o a cumulative_tsn_ack blocks window trigger now).0
  outcome_carries outcomes.Older a cumulative_tsn_ack blocks window trigger now = nothing_carries a
  outcome_carries outcomes.NotInFlight a cumulative_tsn_ack blocks window trigger now = nothing_carries a
  outcome_carries outcomes.NamesTheUnsent a cumulative_tsn_ack blocks window trigger now =
      nothing_carries a
  outcome_carries outcomes.Taken a cumulative_tsn_ack blocks window trigger now =
      let b : Shown = after_sack a cumulative_tsn_ack blocks window now in
      let c : Shown = shutdown_continued b in
      then_carries
      (acknowledged_carries a (progress_of a.sender cumulative_tsn_ack blocks) now
      (sack_taken cumulative_tsn_ack blocks window now a.sender a.estimate a.streams)
      (λ h. sack_taken_carries (T a.resets.generations a.resets.peer)
      (rules.streams.changes a.resets.generations a.resets.peer)
      cumulative_tsn_ack blocks window now a.sender a.estimate a.streams h))
      (then_carries (same_carries b c refl refl refl) (probed_carries (is_probing a.profile a.sender) window c))

  sack_carries : (sends : Bool) (a : Shown) (cumulative_tsn_ack : ℕ) (blocks : List GapAckBlock) (window : ℕ)
      (trigger : AckTrigger) (now : ℕ) → sends_data a.state ≡ sends
      → Carries T a (on_sack a cumulative_tsn_ack blocks window trigger now).0
  unfolding on_sack
  sack_carries true a cumulative_tsn_ack blocks window trigger now e =
      rw e (then_carries (same_carries a (counted_sack a) refl refl refl)
      (outcome_carries (sack_outcome a.sender cumulative_tsn_ack blocks) (counted_sack a) cumulative_tsn_ack blocks
      window trigger now))
  sack_carries false a cumulative_tsn_ack blocks window trigger now e = rw e (nothing_carries a)

  -- The handshake, and HEARTBEAT

  -- an INIT and an INIT ACK tell the number before that of the peer's first request, unless what is known is kept

  learned_carries : (keeps : Bool) (a : Shown) (header : CommonHeader) (init : ChunkInit)
      → Carries T a
      (learned_unless keeps (record a { handshake = learned_by_init a.handshake header init }) init)
  learned_carries true a header init = same_carries a _ refl refl refl
  learned_carries false a header init =
      record {
        carries = λ h.
            rules.meets a.resets.generations a.resets.peer a.streams (Some (number_before init.initial_tsn)) h;
      }

  learned_back_carries : (a : Shown) (header : CommonHeader) (init : ChunkInit)
      → Carries T a (learned_back a header init)
  learned_back_carries a header init =
      record {
        carries = λ h.
            rules.meets a.resets.generations a.resets.peer a.streams (Some (number_before init.initial_tsn)) h;
      }

  init_carries : (begins : Bool) (a : Shown) (header : CommonHeader) (init : ChunkInit) (trigger : AckTrigger)
      → is_beginning a.state ≡ begins → Carries T a (on_init a header init trigger).0
  unfolding on_init
  init_carries true a header init trigger e =
      rw e
      (then_carries (learned_carries (keeps_peer a init) a header init) (queued_carries (learned a header init) _))
  init_carries false a header init trigger e = rw e (nothing_carries a)

  cookie_carries : (o : Option (List ℕ)) (a : Shown) → Carries T a (cookie_queued o a)
  cookie_carries None a = nothing_carries a
  cookie_carries (Some cookie) a = queued_carries a _

  pub sends_cookie_carries : (a : Shown) (now : ℕ) → Carries T a (sends_cookie a now)
  unfolding sends_cookie
  sends_cookie_carries a now =
      then_carries (cookie_carries a.handshake.echo a)
      (same_carries (cookie_queued a.handshake.echo a) (sends_cookie a now) refl refl refl)

  echoed_carries : (o : Option (List ℕ)) (a : Shown) (trigger : AckTrigger) (now : ℕ)
      → Carries T a (echoed o a trigger now).0
  echoed_carries None a trigger now = nothing_carries a
  echoed_carries (Some cookie) a trigger now =
      then_carries (same_carries a _ refl refl refl) (sends_cookie_carries _ now)

  back_carries : (back : Bool) (a : Shown) (header : CommonHeader) (init : ChunkInit) (trigger : AckTrigger) (now : ℕ)
      → Carries T a
      (if back then echoed (first_cookie init.params) (learned_back a header init) trigger now
      else (record a { handshake = learned_by_init_ack a.handshake header init }, flows.Next trigger)).0
  back_carries true a header init trigger now =
      then_carries (learned_back_carries a header init)
      (echoed_carries (first_cookie init.params) (learned_back a header init) trigger now)
  back_carries false a header init trigger now = same_carries a _ refl refl refl

  init_ack_carries : (waits : Bool) (a : Shown) (header : CommonHeader) (init : ChunkInit) (trigger : AckTrigger)
      (now : ℕ) → is_cookie_wait a.state ≡ waits
      → Carries T a (on_init_ack a header init trigger now).0
  unfolding on_init_ack
  init_ack_carries true a header init trigger now e =
      rw e (back_carries (comes_back a.handshake header) a header init trigger now)
  init_ack_carries false a header init trigger now e = rw e (nothing_carries a)

  cookie_echo_carries : (issued begins again : Bool) (a : Shown) (cookie : List ℕ) (trigger : AckTrigger)
      → has_issued a.handshake cookie ≡ issued → is_beginning a.state ≡ begins
      → acknowledges_again a ≡ again → Carries T a (on_cookie_echo a cookie trigger).0
  unfolding on_cookie_echo
  cookie_echo_carries false begins again a cookie trigger e f g = rw e (nothing_carries a)
  cookie_echo_carries true true again a cookie trigger e f g =
      rw (e, f) (then_carries (same_carries a (connected a) refl refl refl)
      (queued_carries (connected a) _))
  cookie_echo_carries true false true a cookie trigger e f g =
      rw (e, f, g) (then_carries (same_carries a (shutdown_again a) refl refl refl)
      (queued_carries (shutdown_again a) _))
  cookie_echo_carries true false false a cookie trigger e f g = rw (e, f, g) (nothing_carries a)

  cookie_ack_carries : (waits : Bool) (a : Shown) (trigger : AckTrigger) → is_cookie_echoed a.state ≡ waits
      → Carries T a (on_cookie_ack a trigger).0
  unfolding on_cookie_ack
  cookie_ack_carries true a trigger e = rw e (same_carries a _ refl refl refl)
  cookie_ack_carries false a trigger e = rw e (nothing_carries a)

  returned_carries : (o : Option (List ℕ)) (a : Shown) → Carries T a (information_returned o a)
  returned_carries None a = nothing_carries a
  returned_carries (Some information) a = queued_carries a _

  heartbeat_carries : (a : Shown) (heartbeat : ChunkHeartbeat) (trigger : AckTrigger)
      → Carries T a (on_heartbeat a heartbeat trigger).0
  unfolding on_heartbeat
  heartbeat_carries a heartbeat trigger = returned_carries (information_of heartbeat.params) a

  -- FORWARD TSN

  -- a skip of a generation that is not read yet is kept, and pieces that are not whole are dropped
  kept_skip_carries : (tsn id ssn : ℕ) (a : Shown)
      → Carries T a (record a { resets = resets.with_skip a.resets id ssn tsn })
  kept_skip_carries tsn id ssn a = record {
    carries = λ h.
        (let g : GenerationsView = a.resets.generations in
        let after : GenerationsView = generations.skipped g id ssn tsn (boundary_of a.resets.peer id) in
        rules.streams.skips (record g { deferred = after.deferred }) a.resets.peer a.streams after.skips
        (rules.drops g a.resets.peer a.streams _ h));
  }

  skip_carries_if : (retiring : Bool) (tsn id ssn : ℕ) (a : Shown) → is_retiring a.resets id ≡ retiring
      → Carries T a (with_skip tsn id ssn a)
  unfolding with_skip
  skip_carries_if true tsn id ssn a e = rw e (kept_skip_carries tsn id ssn a)
  skip_carries_if false tsn id ssn a e =
      rw e (streams_carry a _
      (λ h. rules.streams.changes a.resets.generations a.resets.peer a.streams (stream_skipped ssn) id
      (skipped_is_mild ssn) h) refl refl)

  skip_carries : (tsn id ssn : ℕ) (a : Shown) → Carries T a (with_skip tsn id ssn a)
  skip_carries tsn id ssn a = skip_carries_if (is_retiring a.resets id) tsn id ssn a refl

  skips_carry : (tsn : ℕ) (es : List SkippedStream) (a : Shown) → Carries T a (with_skips tsn es a)
  skips_carry tsn [] a = nothing_carries a
  skips_carry tsn (e ∷ es) a =
      then_carries (skip_carries tsn e.stream_identifier e.stream_sequence_number a)
      (skips_carry tsn es (with_skip tsn e.stream_identifier e.stream_sequence_number a))

  passed_carries : (a : Shown) (tsn : ℕ) → Carries T a (with_passed a tsn)
  passed_carries a tsn = record {
    carries = λ h.
        rules.drops a.resets.generations a.resets.peer (passed_in a.streams tsn) _
        (rules.streams.passes a.resets.generations a.resets.peer a.streams tsn h);
  }

  asks_behind_carries : (a : Shown) (trigger : AckTrigger) → Carries T a (asks_behind a trigger).0
  asks_behind_carries a trigger = same_side_carries a _ (flow_same (is_exhausted a) a _ _)

  ahead_carries : (a : Shown) (tsn : ℕ) (es : List SkippedStream) (trigger : AckTrigger)
      → Carries T a (asks_behind (settled (with_passed (with_skips tsn es a) tsn)) trigger).0
  ahead_carries a tsn es trigger =
      let b : Shown = with_skips tsn es a in
      let c : Shown = with_passed b tsn in
      then_carries (skips_carry tsn es a)
      (then_carries (passed_carries b tsn)
      (then_carries (settling_carries rules c) (asks_behind_carries (settled c) trigger)))

  -- the streams on which it skips are found or made before
  all_found_carry : (tsn : ℕ) (es : List SkippedStream) (a : Shown) → Carries T a (found_for tsn es a)
  all_found_carry tsn es a =
      found_for_keeps (Carries T a) (λ b id k. then_carries k (stream_found_carries rules b id)) tsn es a
      (nothing_carries a)

  on_forward_carries : (a : Shown) (tsn : ℕ) (es : List SkippedStream) (trigger : AckTrigger) (now : ℕ)
      → Carries T a (on_forward a tsn es trigger now).0
  on_forward_carries a tsn es trigger now =
      forward_is_one_of tsn es (λ b x. Carries T b x.0) trigger now
      (λ b e. queued_carries b _)
      (λ b e f. same_carries b (acknowledged_at_once b now) refl refl refl)
      (λ b e f. ahead_carries b tsn es trigger)
      (λ b x k. then_carries (all_found_carry tsn es b) k)
      a

  -- RE-CONFIG

  stopped_carries : (confirms : Bool) (a : Shown) → Carries T a (stopped_if confirms a)
  stopped_carries true a = same_carries a _ refl refl refl
  stopped_carries false a = nothing_carries a

  handled_with_carries : (a : Shown) (number : ℕ) (x : Resetting × Handled)
      → Carries T a (with_resetting a x.0)
      → Carries T a (handled_with a number x)
  handled_with_carries a number (s, done) first =
      let b : Shown = with_resetting a s in
      let c : Shown = stopped_if done.confirms b in
      then_carries first
      (then_carries (stopped_carries done.confirms b)
      (then_carries (asking_if_carries done.asks c)
      (responding_carries (asking_if done.asks c) number done.answer)))

  -- the next request is taken up
  abbrev IsOpen : Shown → Type 0
  IsOpen a = Open a.resets.generations a.resets.peer

  on_request_carries : (a : Shown) (param : ParamOutgoingResetRequest) → IsOpen a → Carries T a (on_request a param)
  unfolding on_request
  on_request_carries a param opens =
      let last = a.receiver.peer_last_tsn in
      let first = a.sender.queue.next_message_id in
      let limit = a.receiver.max_receive_message_size in
      let x : Resetting × Handled = handled param last first limit a.resets (channels_of a) in
      handled_with_carries a param.reconfig_request_sequence_number x
      (resetting_carries a x.0
      (λ h. handled_carries rules param last first limit a.resets (channels_of a) opens h))

  responded_with_carries : (a : Shown) (x : Beside × TimerChange) → Carries T a (with_beside a x.0)
      → Carries T a (responded_with a x)
  responded_with_carries a (b, change) first =
      then_carries first
      (same_carries (with_beside a b) (responded_with a (b, change)) refl refl refl)

  on_response_carries : (a : Shown) (response : ParamReconfigResponse)
      → Carries T a (on_response a response)
  unfolding on_response
  on_response_carries a response =
      let x : Beside × TimerChange = responded response a.resets a.streams a.events in
      responded_with_carries a x
      (beside_carries a x.0
      (responded_carries rules.streams response a.resets a.streams a.events))

  param_carries : (param : Param) (a : Shown) → IsOpen a → Carries T a (after_param param a).0
  param_carries (params.OutgoingResetRequest request) a opens = on_request_carries a request opens
  param_carries (params.ReconfigResponse response) a opens = on_response_carries a response
  param_carries (params.HeartbeatInfo information) a opens = nothing_carries a
  param_carries (params.StateCookie cookie) a opens = nothing_carries a
  param_carries (params.SupportedExtensions kinds) a opens = nothing_carries a
  param_carries (params.Other kind value) a opens = nothing_carries a

  behind_params_carries : (x : Shown × Bool) (trigger : AckTrigger) → Carries T x.0 (behind_params x trigger).0
  behind_params_carries (a, true) trigger = nothing_carries a
  behind_params_carries (a, false) trigger = nothing_carries a

  behind_first_carries : (x : Shown × Bool) (second : Option Param) (trigger : AckTrigger) → IsOpen x.0
      → Carries T x.0 (behind_first x second trigger).0
  behind_first_carries (a, true) None trigger opens = nothing_carries a
  behind_first_carries (a, true) (Some second) trigger opens =
      then_carries (param_carries second a opens) (behind_params_carries (after_param second a) trigger)
  behind_first_carries (a, false) second trigger opens = nothing_carries a

  on_reconfig_carries : (a : Shown) (reconfig : ChunkReconfig) (trigger : AckTrigger) → IsOpen a
      → IsOpen (after_param reconfig.first a).0 → Carries T a (on_reconfig a reconfig trigger).0
  unfolding on_reconfig
  on_reconfig_carries a reconfig trigger first second =
      then_carries (param_carries reconfig.first a first)
      (behind_first_carries (after_param reconfig.first a) reconfig.second trigger second)

  -- Any chunk

  dispatched_carries : (a : Shown) (header : CommonHeader) (c : Chunk) (trigger : AckTrigger) (now : ℕ)
      → IsOpen a → HoldsWhereThere IsOpen (between_params c a) → Carries T a (dispatched a header c trigger now).0
  dispatched_carries a header (chunks.Data piece) trigger now opens inside = on_data_carries rules a piece _
  dispatched_carries a header (chunks.SelectiveAck k) trigger now opens inside =
      sack_carries (sends_data a.state) a k.cumulative_tsn_ack k.gap_ack_blocks k.advertised_receiver_window_credit
      trigger now refl
  dispatched_carries a header (chunks.Init x) trigger now opens inside =
      init_carries (is_beginning a.state) a header x trigger refl
  dispatched_carries a header (chunks.InitAck x) trigger now opens inside =
      init_ack_carries (is_cookie_wait a.state) a header x trigger now refl
  dispatched_carries a header (chunks.Heartbeat x) trigger now opens inside = heartbeat_carries a x trigger
  dispatched_carries a header (chunks.HeartbeatAck x) trigger now opens inside = nothing_carries a
  dispatched_carries a header (chunks.Abort x) trigger now opens inside = nothing_carries a
  dispatched_carries a header (chunks.Shutdown x) trigger now opens inside =
      same_carries a (shutdown_taken a) refl refl refl
  dispatched_carries a header chunks.ShutdownAck trigger now opens inside =
      same_carries a (shutdown_answered a) refl refl refl
  dispatched_carries a header (chunks.Error x) trigger now opens inside = nothing_carries a
  dispatched_carries a header (chunks.CookieEcho cookie) trigger now opens inside =
      cookie_echo_carries (has_issued a.handshake cookie) (is_beginning a.state) (acknowledges_again a) a cookie trigger
      refl refl refl
  dispatched_carries a header chunks.CookieAck trigger now opens inside =
      cookie_ack_carries (is_cookie_echoed a.state) a trigger refl
  dispatched_carries a header chunks.ShutdownComplete trigger now opens inside = nothing_carries a
  dispatched_carries a header (chunks.Reconfig x) trigger now opens inside =
      on_reconfig_carries a x trigger opens inside
  dispatched_carries a header (chunks.ForwardTsn x) trigger now opens inside =
      on_forward_carries a x.new_cumulative_tsn x.streams trigger now
  dispatched_carries a header (chunks.IForwardTsn x) trigger now opens inside =
      on_forward_carries a x.new_cumulative_tsn (skips_of x.entries) trigger now
  dispatched_carries a header (chunks.Other kind flags value) trigger now opens inside = nothing_carries a

  checked_carries : (r : Result (Unit {0}) Error) (a : Shown) (header : CommonHeader) (c : Chunk) (trigger : AckTrigger)
      (now : ℕ) → IsOpen a → HoldsWhereThere IsOpen (between_params c a)
      → Carries T a (checked_first r a header c trigger now).0
  checked_carries (Err fault) a header c trigger now opens inside = nothing_carries a
  checked_carries (Ok done) a header c trigger now opens inside = dispatched_carries a header c trigger now opens inside

  chunk_carries : (a : Shown) (header : CommonHeader) (c : Chunk) (trigger : AckTrigger) (now : ℕ) → IsOpen a
      → HoldsWhereThere IsOpen (between_params c a) → Carries T a (on_chunk a header c trigger now).0
  unfolding on_chunk
  chunk_carries a header c trigger now opens inside =
      checked_carries (checked_chunk c) a header c trigger now opens inside

  -- A packet

  goes_carry : (x : Shown × Flow) (more : Shown → AckTrigger → Shown) (More : Shown → AckTrigger → Type 0)
      → ((b : Shown) (next : AckTrigger) → More b next → SideIs T b → SideIs T (more b next)) → GoesOn x More
      → SideIs T x.0 → SideIs T (goes_on x more)
  goes_carry (b, flows.Next trigger) more More on so h = on b trigger so h
  goes_carry (b, flows.Fault fault) more More on so h =
      (closed_carries rules b reasons.AssociationClosed).carries h
  goes_carry (b, flows.Closed) more More on so h = (closed_carries rules b reasons.AssociationClosed).carries h
  goes_carry (b, flows.Exhausted) more More on so h = (exhausted_carries rules b).carries h

  chunks_carry : (header : CommonHeader) (cs : List Chunk) (a : Shown) (trigger : AckTrigger) (now : ℕ) → IsOpen a
      → HoldsThroughChunks IsOpen header cs a trigger now → SideIs T a
      → SideIs T (after_chunks header cs a trigger now)
  chunks_carry header [] a trigger now opens so h =
      (let last : Carries T a (ended a trigger now) = same_carries a (ended a trigger now) refl refl refl in
      last.carries h)
  chunks_carry header (c ∷ cs) a trigger now opens so h =
      goes_carry (on_chunk a header c trigger now) (λ b next. after_chunks header cs b next now)
      (λ b next. IsOpen b × HoldsThroughChunks IsOpen header cs b next now)
      (λ b next more k. chunks_carry header cs b next now more.0 more.1 k) so.1
      ((chunk_carries a header c trigger now opens so.0).carries h)

  packet_carries_unless : (lost : Bool) (packet : Option Packet) (a : Shown) (now : ℕ) → IsOpen a
      → HoldsThroughPacket IsOpen lost packet a now
      → Carries T a (if lost then a else after_packet_of a packet now)
  packet_carries_unless true packet a now opens so = nothing_carries a
  packet_carries_unless false None a now opens so = nothing_carries a
  packet_carries_unless false (Some packet) a now opens so = record {
    carries = λ h. chunks_carry packet.common_header packet.chunks a triggers.None now opens so h;
  }

  pub packet_carries : (a : Shown) (packet : Option Packet) (now : ℕ) → IsOpen a
      → HoldsThroughPacket IsOpen a.lost packet a now → Carries T a (after_packet a packet now)
  packet_carries a packet now opens so = packet_carries_unless a.lost packet a now opens so
