-- What the chunks of a packet leave to be read was held before, or came in a DATA chunk of them.
use Rattle.std.proofs.Common.{◌≡◌, refl, ℕ, Bool, true, false, if◌then◌else◌, List, [], ◌∷◌, Option, Some, None}
use Rattle.std.proofs.Common.{is_some, Result, Ok, Err}
use Rattle.sctp_wire_types.specs.declared.chunk.Chunk.{Chunk}
use Rattle.sctp_wire_types.specs.declared.chunk.Chunk.TheVariants as chunks
use Rattle.sctp_wire_types.specs.declared.chunk.ChunkHeartbeat.{ChunkHeartbeat}
use Rattle.sctp_wire_types.specs.declared.chunk.ChunkInit.{ChunkInit}
use Rattle.sctp_wire_types.specs.declared.chunk.ChunkPayloadData.{ChunkPayloadData}
use Rattle.sctp_wire_types.specs.declared.chunk.ChunkReconfig.{ChunkReconfig}
use Rattle.sctp_wire_types.specs.declared.chunk.GapAckBlock.{GapAckBlock}
use Rattle.sctp_wire_types.specs.declared.chunk.SkippedStream.{SkippedStream}
use Rattle.sctp_wire_types.specs.declared.error.Error.{Error}
use Rattle.sctp_wire_types.specs.declared.ids.PayloadProtocolIdentifier.TheVariants as kinds
use Rattle.sctp_wire_types.specs.declared.packet.CommonHeader.{CommonHeader}
use Rattle.sctp_wire_types.specs.declared.param.Param.{Param}
use Rattle.sctp_wire_types.specs.declared.param.Param.TheVariants as params
use Rattle.sctp_wire_types.specs.declared.param.ParamOutgoingResetRequest.{ParamOutgoingResetRequest}
use Rattle.sctp_wire_types.specs.declared.param.ParamReconfigResponse.{ParamReconfigResponse}
use Rattle.sctp_wire_types.specs.Checks.{checked_chunk}
use Rattle.sctp_wire.specs.declared.packet.Packet.{Packet}
use Rattle.sctp_parts.specs.Estimate.{Estimate}
use Rattle.sctp_streams.specs.declared.event.AssociationError.TheVariants as reasons
use Rattle.sctp_streams.specs.Stream.{stream_skipped}
use Rattle.sctp_streams.specs.Streams.{StreamMap, generation_left, is_readable_in, pushed_in, refusal_in, stream_at}
use Rattle.sctp_inbound.specs.declared.receiver.AckTrigger.{AckTrigger}
use Rattle.sctp_inbound.specs.declared.receiver.AckTrigger.TheVariants as triggers
use Rattle.sctp_inbound.specs.Greeting.{first_cookie, information_of}
use Rattle.sctp_inbound.specs.Handshake.{comes_back, has_issued, learned_by_init, learned_by_init_ack}
use Rattle.sctp_inbound.specs.Receiver.{admits, is_new_to, taken_to}
use Rattle.sctp_outbound.specs.declared.progress.Progress.{Progress}
use Rattle.sctp_outbound.specs.declared.sender.SackOutcome.{SackOutcome}
use Rattle.sctp_outbound.specs.declared.sender.SackOutcome.TheVariants as outcomes
use Rattle.sctp_outbound.specs.declared.sender.Sender.{Sender}
use Rattle.sctp_outbound.specs.Sacks.{progress_of, sack_taken}
use Rattle.sctp_outbound.specs.Sender.{sack_outcome}
use Rattle.sctp_resets.specs.declared.answers.TimerChange.{TimerChange}
use Rattle.sctp_resets.specs.declared.performing.Handled.{Handled}
use Rattle.sctp_resets.specs.declared.performing.Settled.{Settled}
use Rattle.sctp_resets.specs.Resets as resets
use Rattle.sctp_resets.specs.Resets.{Beside, Resetting, handled, is_hidden, is_retiring, refusal_of, responded}
use Rattle.sctp_resets.specs.Resets.{skips_done, skips_done_of}
use Rattle.sctp_assoc.specs.declared.inbound.Flow.TheVariants as flows
use Rattle.sctp_assoc.specs.Calls.{is_beginning, is_cookie_echoed, is_cookie_wait, sends_data}
use Rattle.sctp_assoc.specs.Chunks.{after_packet, after_packet_of, after_sack, asks, asks_or_faults, checked_first}
use Rattle.sctp_assoc.specs.Chunks.{counted_data, counted_sack, deferred, deferred_unless, deferred_where_admitted}
use Rattle.sctp_assoc.specs.Chunks.{dispatched, ended, on_chunk, on_counted_data, on_counted_sack, on_data}
use Rattle.sctp_assoc.specs.Chunks.{goes_unread, left_or_handed_over, on_new_data, on_sack}
use Rattle.sctp_assoc.specs.Chunks.{stream_found, taken_in, taken_unless, taken_where_admitted, then_skips, told}
use Rattle.sctp_assoc.specs.Chunks.{with_acknowledged, with_message, with_new_stream}
use Rattle.sctp_assoc.specs.Closing.{is_exhausted}
use Rattle.sctp_assoc.specs.Finding.{found_for}
use Rattle.sctp_assoc.specs.Handshake.{acknowledges_again, connected, cookie_queued, echoed, information_returned}
use Rattle.sctp_assoc.specs.Handshake.{keeps_peer, learned, learned_back, learned_unless, on_cookie_ack}
use Rattle.sctp_assoc.specs.Handshake.{on_cookie_echo, on_heartbeat, on_init, on_init_ack, sends_cookie}
use Rattle.sctp_assoc.specs.Probes.{is_probing}
use Rattle.sctp_assoc.specs.Resets.{after_param, asking_if, behind_first, behind_params, channels_of, handled_with}
use Rattle.sctp_assoc.specs.Resets.{on_reconfig, on_request, on_response, responded_with, settled, settled_with}
use Rattle.sctp_assoc.specs.Resets.{skips_applied, skips_applied_of, stopped_if, with_answer, with_beside}
use Rattle.sctp_assoc.specs.Resets.{with_resetting}
use Rattle.sctp_assoc.specs.Shown.{Shown, all_waiting}
use Rattle.sctp_assoc.specs.Shutdown.{shutdown_again, shutdown_answered, shutdown_continued, shutdown_taken}
use Rattle.sctp_assoc.specs.Skipping.{acknowledged_at_once, asks_behind, on_forward, skips_of, with_passed, with_skip}
use Rattle.sctp_assoc.specs.Skipping.{with_skips}
use Rattle.sctp_assoc.proofs.Probes.{probes_keep}
use Rattle.sctp_assoc.proofs.StreamsFound.{found_for_keeps}
use Rattle.sctp_sides.specs.Brought.{BringsOnly, IsOnly, SideHoldsOnly}
use Rattle.sctp_sides.specs.Held.{StreamsHoldOnly}
use Rattle.sctp_sides.proofs.ForwardKinds.{forward_is_one_of}
use Rattle.sctp_sides.proofs.HeldInResets.{handled_holds, responded_holds, settled_holds, skips_done_holds}
use Rattle.sctp_sides.proofs.HeldInResets.{skips_done_of_holds, with_deferred_holds, with_skip_holds}
use Rattle.sctp_sides.proofs.HeldInResets.{without_unordered_holds}
use Rattle.sctp_sides.proofs.HeldInSending.{sack_holds}
use Rattle.sctp_reset_fit.proofs.HeldPieces.{skipped_holds}
use Rattle.sctp_sides.proofs.HeldSteps.{KeepsHeld, asking_if_held, beside_held, closed_held, exhausted_held}
use Rattle.sctp_sides.proofs.HeldSteps.{queued_held, resetting_held, responding_held, same_held, same_side_held}
use Rattle.sctp_sides.proofs.HeldSteps.{stays_held, streams_held, then_held}
use Rattle.sctp_sides.proofs.HeldStreams.{changed_holds, made_holds, passed_in_holds, pushed_in_holds}
use Rattle.sctp_sides.proofs.PacketsByChunks.{chunks_carry}
use Rattle.sctp_sides.proofs.PeerRequestsInChunks.{flow_same}

-- The DATA of which something is so.
module _ (P : ChunkPayloadData → Type 0) where
  -- Skips that were kept are applied

  skips_applied_of_keep : (id : ℕ) (a : Shown) → KeepsHeld P a (skips_applied_of id a)
  skips_applied_of_keep id a =
      beside_held P a (skips_done_of id a.resets a.streams a.events)
      (skips_done_of_holds P id a.resets a.streams a.events)

  skips_applied_keep : (a : Shown) → KeepsHeld P a (skips_applied a)
  skips_applied_keep a =
      beside_held P a (skips_done a.resets a.streams a.events) (skips_done_holds P a.resets a.streams a.events)

  -- A request of the peer that waited is performed

  answer_keeps : (answer : Option Settled) (a : Shown) → KeepsHeld P a (with_answer answer a)
  answer_keeps None a = stays_held P a
  answer_keeps (Some q) a =
      then_held P (asking_if_held P q.asks a) (responding_held P (asking_if q.asks a) q.number _)

  settled_with_keeps : (a : Shown) (x : Resetting × Option Settled)
      → KeepsHeld P a (with_resetting a x.0) → KeepsHeld P a (settled_with a x)
  settled_with_keeps a (s, answer) first = then_held P first (answer_keeps answer (with_resetting a s))

  settled_keeps : (a : Shown) → KeepsHeld P a (settled a)
  unfolding settled
  settled_keeps a =
      let last = a.receiver.peer_last_tsn in
      let first = a.sender.queue.next_message_id in
      let limit = a.receiver.max_receive_message_size in
      let x : Resetting × Option Settled = resets.settled last first limit a.resets (channels_of a) in
      then_held P
      (settled_with_keeps a x
      (resetting_held P a x.0 (settled_holds P last first limit a.resets (channels_of a))))
      (skips_applied_keep (settled_with a x))

  -- DATA

  found_keeps_if : (there left : Bool) (a : Shown) (id : ℕ) → is_some (stream_at a.streams id) ≡ there
      → generation_left a.streams ≡ left → KeepsHeld P a (stream_found a id).0
  unfolding stream_found
  found_keeps_if true left a id e f = rw e (stays_held P a)
  found_keeps_if false true a id e f =
      rw (e, f)
      (streams_held P a (with_new_stream a id)
      (λ h. made_holds P a.streams id a.sender.queue.next_message_id kinds.Unknown h.streams) refl)
  found_keeps_if false false a id e f = rw (e, f) (stays_held P a)

  stream_found_keeps : (a : Shown) (id : ℕ) → KeepsHeld P a (stream_found a id).0
  stream_found_keeps a id =
      found_keeps_if (is_some (stream_at a.streams id)) (generation_left a.streams) a id refl refl

  told_keeps : (readable kept : Bool) (a : Shown) (id : ℕ) → is_readable_in a.streams id ≡ readable
      → KeepsHeld P a (told a id kept)
  told_keeps true true a id e = rw e (same_held P a _ refl refl)
  told_keeps false true a id e = rw e (same_held P a _ refl refl)
  told_keeps readable false a id e = same_held P a _ refl refl

  -- a piece that came is held
  message_keeps : (a : Shown) (piece : ChunkPayloadData) (x : StreamMap × Bool)
      → (SideHoldsOnly P a → StreamsHoldOnly P x.0) → KeepsHeld P a (with_message a piece x)
  message_keeps a piece (streams, kept) still =
      let b : Shown = record a { streams = streams; receiver = taken_to a.receiver piece.tsn } in
      then_held P (streams_held P a b still refl)
      (told_keeps (is_readable_in streams piece.stream_identifier) kept b piece.stream_identifier refl)

  taken_unless_keeps : (refusal : Option Error) (a : Shown) (piece : ChunkPayloadData) → P piece
      → refusal_in a.streams piece.stream_identifier piece a.receiver.max_receive_message_size ≡ refusal
      → KeepsHeld P a (taken_unless refusal a piece).0
  taken_unless_keeps (Some fault) a piece came refused = stays_held P a
  taken_unless_keeps None a piece came accepted =
      message_keeps a piece (pushed_in a.streams piece.stream_identifier piece)
      (λ h. pushed_in_holds P a.streams piece a.receiver.max_receive_message_size h.streams came accepted)

  -- and one that nobody reads is not
  left_keeps : (left : Bool) (a : Shown) (piece : ChunkPayloadData) → P piece
      → KeepsHeld P a (left_or_handed_over left a piece).0
  left_keeps true a piece came = same_held P a _ refl refl
  left_keeps false a piece came =
      taken_unless_keeps (refusal_in a.streams piece.stream_identifier piece a.receiver.max_receive_message_size) a
      piece came refl

  taken_in_keeps : (a : Shown) (piece : ChunkPayloadData) → P piece → KeepsHeld P a (taken_in a piece).0
  unfolding taken_in
  taken_in_keeps a piece came = left_keeps (goes_unread a piece) a piece came

  then_skips_keep : (x : Shown × Option Error) (id : ℕ) → KeepsHeld P x.0 (then_skips x id).0
  then_skips_keep (a, None) id = skips_applied_of_keep id a
  then_skips_keep (a, Some fault) id = stays_held P a

  admitted_keeps : (credit : Bool) (a : Shown) (piece : ChunkPayloadData) → P piece
      → KeepsHeld P a (if credit then then_skips (taken_in a piece) piece.stream_identifier else (a, None)).0
  admitted_keeps true a piece came =
      then_held P (taken_in_keeps a piece came) (then_skips_keep (taken_in a piece) piece.stream_identifier)
  admitted_keeps false a piece came = stays_held P a

  taken_where_admitted_keeps : (a : Shown) (piece : ChunkPayloadData) → P piece
      → KeepsHeld P a (taken_where_admitted a piece).0
  taken_where_admitted_keeps a piece came = admitted_keeps (admits a.receiver piece.tsn (all_waiting a)) a piece came

  -- so is one of a generation that is not read yet

  deferred_unless_keeps : (refusal : Option Error) (a : Shown) (piece : ChunkPayloadData) → P piece
      → KeepsHeld P a (deferred_unless refusal a piece).0
  deferred_unless_keeps (Some fault) a piece came = stays_held P a
  deferred_unless_keeps None a piece came =
      record { holds = λ h. with_deferred_holds P a.resets a.streams piece h came }

  deferred_keeps : (a : Shown) (piece : ChunkPayloadData) → P piece → KeepsHeld P a (deferred a piece).0
  deferred_keeps a piece came =
      deferred_unless_keeps (refusal_of a.resets piece a.receiver.max_receive_message_size) a piece came

  deferred_keeps_if : (credit : Bool) (a : Shown) (piece : ChunkPayloadData) → P piece
      → admits a.receiver piece.tsn (all_waiting a) ≡ credit → KeepsHeld P a (deferred_where_admitted a piece).0
  unfolding deferred_where_admitted
  deferred_keeps_if true a piece came e = rw e (deferred_keeps a piece came)
  deferred_keeps_if false a piece came e = rw e (stays_held P a)

  deferred_where_admitted_keeps : (a : Shown) (piece : ChunkPayloadData) → P piece
      → KeepsHeld P a (deferred_where_admitted a piece).0
  deferred_where_admitted_keeps a piece came =
      deferred_keeps_if (admits a.receiver piece.tsn (all_waiting a)) a piece came refl

  asks_keeps : (a : Shown) (immediate : Bool) (trigger : AckTrigger) → KeepsHeld P a (asks a immediate trigger).0
  asks_keeps a immediate trigger = same_side_held P a _ (flow_same (is_exhausted a) a _ _)

  settled_asks_keeps : (a : Shown) (immediate : Bool) (trigger : AckTrigger)
      → KeepsHeld P a (asks (settled a) immediate trigger).0
  settled_asks_keeps a immediate trigger = then_held P (settled_keeps a) (asks_keeps (settled a) immediate trigger)

  asks_or_faults_keeps : (x : Shown × Option Error) (immediate : Bool) (trigger : AckTrigger)
      → KeepsHeld P x.0 (asks_or_faults x immediate trigger).0
  asks_or_faults_keeps (a, None) immediate trigger = settled_asks_keeps a immediate trigger
  asks_or_faults_keeps (a, Some fault) immediate trigger = stays_held P a

  new_data_keeps : (x : Shown × Bool) (piece : ChunkPayloadData) (trigger : AckTrigger) → P piece
      → KeepsHeld P x.0 (on_new_data x piece trigger).0
  new_data_keeps (a, false) piece trigger came = stays_held P a
  new_data_keeps (a, true) piece trigger came =
      then_held P (taken_where_admitted_keeps a piece came)
      (asks_or_faults_keeps (taken_where_admitted a piece) piece.immediate_sack trigger)

  data_keeps_if : (next hidden : Bool) (a : Shown) (piece : ChunkPayloadData) (trigger : AckTrigger) → P piece
      → is_new_to a.receiver piece.tsn ≡ next → is_hidden a.resets piece.stream_identifier piece.tsn ≡ hidden
      → KeepsHeld P a (on_counted_data a piece trigger).0
  data_keeps_if false hidden a piece trigger came e f =
      rw e (settled_asks_keeps a piece.immediate_sack trigger)
  data_keeps_if true true a piece trigger came e f =
      rw (e, f)
      (then_held P (deferred_where_admitted_keeps a piece came)
      (asks_or_faults_keeps (deferred_where_admitted a piece) piece.immediate_sack trigger))
  data_keeps_if true false a piece trigger came e f =
      rw (e, f)
      (then_held P (stream_found_keeps a piece.stream_identifier)
      (new_data_keeps (stream_found a piece.stream_identifier) piece trigger came))

  on_data_keeps : (a : Shown) (piece : ChunkPayloadData) (trigger : AckTrigger) → P piece
      → KeepsHeld P a (on_data a piece trigger).0
  unfolding on_data
  on_data_keeps a piece trigger came =
      let b : Shown = counted_data a in
      then_held P (same_held P a b refl refl)
      (data_keeps_if (is_new_to b.receiver piece.tsn) (is_hidden b.resets piece.stream_identifier piece.tsn) b piece
      trigger came refl refl)

  -- SACK

  acknowledged_keeps : (a : Shown) (progress : Progress) (now : ℕ) (x : Sender × Estimate × StreamMap)
      → (SideHoldsOnly P a → StreamsHoldOnly P x.2) → KeepsHeld P a (with_acknowledged a progress now x)
  acknowledged_keeps a progress now (sender, estimate, streams) still = streams_held P a _ still refl

  outcome_keeps : (o : SackOutcome) (a : Shown) (cumulative_tsn_ack : ℕ) (blocks : List GapAckBlock) (window : ℕ)
      (trigger : AckTrigger) (now : ℕ)
      → KeepsHeld P a (on_counted_sack o a cumulative_tsn_ack blocks window trigger now).0
  outcome_keeps outcomes.Older a cumulative_tsn_ack blocks window trigger now = stays_held P a
  outcome_keeps outcomes.NotInFlight a cumulative_tsn_ack blocks window trigger now = stays_held P a
  outcome_keeps outcomes.NamesTheUnsent a cumulative_tsn_ack blocks window trigger now = stays_held P a
  outcome_keeps outcomes.Taken a cumulative_tsn_ack blocks window trigger now =
      let b : Shown = after_sack a cumulative_tsn_ack blocks window now in
      probes_keep (KeepsHeld P a) (λ c k. record { holds = k.holds }) (λ c k. record { holds = k.holds })
      (is_probing a.profile a.sender) window (shutdown_continued b)
      (then_held P
      (acknowledged_keeps a (progress_of a.sender cumulative_tsn_ack blocks) now
      (sack_taken cumulative_tsn_ack blocks window now a.sender a.estimate a.streams)
      (λ h. sack_holds P cumulative_tsn_ack blocks window now a.sender a.estimate a.streams h.streams))
      (same_held P b (shutdown_continued b) refl refl))

  sack_keeps : (sends : Bool) (a : Shown) (cumulative_tsn_ack : ℕ) (blocks : List GapAckBlock) (window : ℕ)
      (trigger : AckTrigger) (now : ℕ) → sends_data a.state ≡ sends
      → KeepsHeld P a (on_sack a cumulative_tsn_ack blocks window trigger now).0
  unfolding on_sack
  sack_keeps true a cumulative_tsn_ack blocks window trigger now e =
      rw e (then_held P (same_held P a (counted_sack a) refl refl)
      (outcome_keeps (sack_outcome a.sender cumulative_tsn_ack blocks) (counted_sack a) cumulative_tsn_ack blocks window
      trigger now))
  sack_keeps false a cumulative_tsn_ack blocks window trigger now e = rw e (stays_held P a)

  -- The handshake, and HEARTBEAT

  learned_keeps : (keeps : Bool) (a : Shown) (header : CommonHeader) (init : ChunkInit)
      → KeepsHeld P a
      (learned_unless keeps (record a { handshake = learned_by_init a.handshake header init }) init)
  learned_keeps true a header init = same_held P a _ refl refl
  learned_keeps false a header init = same_held P a _ refl refl

  init_keeps : (begins : Bool) (a : Shown) (header : CommonHeader) (init : ChunkInit) (trigger : AckTrigger)
      → is_beginning a.state ≡ begins → KeepsHeld P a (on_init a header init trigger).0
  unfolding on_init
  init_keeps true a header init trigger e =
      rw e
      (then_held P (learned_keeps (keeps_peer a init) a header init) (queued_held P (learned a header init) _))
  init_keeps false a header init trigger e = rw e (stays_held P a)

  cookie_keeps : (o : Option (List ℕ)) (a : Shown) → KeepsHeld P a (cookie_queued o a)
  cookie_keeps None a = stays_held P a
  cookie_keeps (Some cookie) a = queued_held P a _

  pub sends_cookie_keeps : (a : Shown) (now : ℕ) → KeepsHeld P a (sends_cookie a now)
  unfolding sends_cookie
  sends_cookie_keeps a now =
      then_held P (cookie_keeps a.handshake.echo a)
      (same_held P (cookie_queued a.handshake.echo a) (sends_cookie a now) refl refl)

  echoed_keeps : (o : Option (List ℕ)) (a : Shown) (trigger : AckTrigger) (now : ℕ)
      → KeepsHeld P a (echoed o a trigger now).0
  echoed_keeps None a trigger now = stays_held P a
  echoed_keeps (Some cookie) a trigger now =
      then_held P (same_held P a _ refl refl) (sends_cookie_keeps _ now)

  back_keeps : (back : Bool) (a : Shown) (header : CommonHeader) (init : ChunkInit) (trigger : AckTrigger) (now : ℕ)
      → KeepsHeld P a
      (if back then echoed (first_cookie init.params) (learned_back a header init) trigger now
      else (record a { handshake = learned_by_init_ack a.handshake header init }, flows.Next trigger)).0
  back_keeps true a header init trigger now =
      then_held P (same_held P a (learned_back a header init) refl refl)
      (echoed_keeps (first_cookie init.params) (learned_back a header init) trigger now)
  back_keeps false a header init trigger now = same_held P a _ refl refl

  init_ack_keeps : (waits : Bool) (a : Shown) (header : CommonHeader) (init : ChunkInit) (trigger : AckTrigger)
      (now : ℕ) → is_cookie_wait a.state ≡ waits → KeepsHeld P a (on_init_ack a header init trigger now).0
  unfolding on_init_ack
  init_ack_keeps true a header init trigger now e =
      rw e (back_keeps (comes_back a.handshake header) a header init trigger now)
  init_ack_keeps false a header init trigger now e = rw e (stays_held P a)

  cookie_echo_keeps : (issued begins again : Bool) (a : Shown) (cookie : List ℕ) (trigger : AckTrigger)
      → has_issued a.handshake cookie ≡ issued → is_beginning a.state ≡ begins
      → acknowledges_again a ≡ again → KeepsHeld P a (on_cookie_echo a cookie trigger).0
  unfolding on_cookie_echo
  cookie_echo_keeps false begins again a cookie trigger e f g = rw e (stays_held P a)
  cookie_echo_keeps true true again a cookie trigger e f g =
      rw (e, f) (then_held P (same_held P a (connected a) refl refl) (queued_held P (connected a) _))
  cookie_echo_keeps true false true a cookie trigger e f g =
      rw (e, f, g) (then_held P (same_held P a (shutdown_again a) refl refl) (queued_held P (shutdown_again a) _))
  cookie_echo_keeps true false false a cookie trigger e f g = rw (e, f, g) (stays_held P a)

  cookie_ack_keeps : (waits : Bool) (a : Shown) (trigger : AckTrigger) → is_cookie_echoed a.state ≡ waits
      → KeepsHeld P a (on_cookie_ack a trigger).0
  unfolding on_cookie_ack
  cookie_ack_keeps true a trigger e = rw e (same_held P a _ refl refl)
  cookie_ack_keeps false a trigger e = rw e (stays_held P a)

  returned_keeps : (o : Option (List ℕ)) (a : Shown) → KeepsHeld P a (information_returned o a)
  returned_keeps None a = stays_held P a
  returned_keeps (Some information) a = queued_held P a _

  heartbeat_keeps : (a : Shown) (heartbeat : ChunkHeartbeat) (trigger : AckTrigger)
      → KeepsHeld P a (on_heartbeat a heartbeat trigger).0
  unfolding on_heartbeat
  heartbeat_keeps a heartbeat trigger = returned_keeps (information_of heartbeat.params) a

  -- FORWARD TSN

  skip_keeps_if : (retires : Bool) (tsn id ssn : ℕ) (a : Shown) → is_retiring a.resets id ≡ retires
      → KeepsHeld P a (with_skip tsn id ssn a)
  unfolding with_skip
  skip_keeps_if true tsn id ssn a e =
      rw e (record { holds = λ h. with_skip_holds P a.resets a.streams id ssn tsn h })
  skip_keeps_if false tsn id ssn a e =
      rw e (streams_held P a _
      (λ h. changed_holds P (stream_skipped ssn) (λ k s held. skipped_holds P k s.reassembly ssn held) a.streams id
      h.streams)
      refl)

  skip_keeps : (tsn id ssn : ℕ) (a : Shown) → KeepsHeld P a (with_skip tsn id ssn a)
  skip_keeps tsn id ssn a = skip_keeps_if (is_retiring a.resets id) tsn id ssn a refl

  skips_keep : (tsn : ℕ) (es : List SkippedStream) (a : Shown) → KeepsHeld P a (with_skips tsn es a)
  skips_keep tsn [] a = stays_held P a
  skips_keep tsn (e ∷ es) a =
      then_held P (skip_keeps tsn e.stream_identifier e.stream_sequence_number a)
      (skips_keep tsn es (with_skip tsn e.stream_identifier e.stream_sequence_number a))

  passed_keeps : (a : Shown) (tsn : ℕ) → KeepsHeld P a (with_passed a tsn)
  passed_keeps a tsn = record {
    holds = λ h. record {
      streams = passed_in_holds P a.streams tsn h.streams;
      kept = (without_unordered_holds P a.resets a.streams tsn h).kept;
    };
  }

  asks_behind_keeps : (a : Shown) (trigger : AckTrigger) → KeepsHeld P a (asks_behind a trigger).0
  asks_behind_keeps a trigger = same_side_held P a _ (flow_same (is_exhausted a) a _ _)

  ahead_keeps : (a : Shown) (tsn : ℕ) (es : List SkippedStream) (trigger : AckTrigger)
      → KeepsHeld P a (asks_behind (settled (with_passed (with_skips tsn es a) tsn)) trigger).0
  ahead_keeps a tsn es trigger =
      let b : Shown = with_skips tsn es a in
      let c : Shown = with_passed b tsn in
      then_held P (skips_keep tsn es a)
      (then_held P (passed_keeps b tsn) (then_held P (settled_keeps c) (asks_behind_keeps (settled c) trigger)))

  -- the streams on which it skips are found or made before
  all_found_keep : (tsn : ℕ) (es : List SkippedStream) (a : Shown) → KeepsHeld P a (found_for tsn es a)
  all_found_keep tsn es a =
      found_for_keeps (KeepsHeld P a) (λ b id k. then_held P k (stream_found_keeps b id)) tsn es a (stays_held P a)

  on_forward_keeps : (a : Shown) (tsn : ℕ) (es : List SkippedStream) (trigger : AckTrigger) (now : ℕ)
      → KeepsHeld P a (on_forward a tsn es trigger now).0
  on_forward_keeps a tsn es trigger now =
      forward_is_one_of tsn es (λ b x. KeepsHeld P b x.0) trigger now
      (λ b e. queued_held P b _)
      (λ b e f. same_held P b (acknowledged_at_once b now) refl refl)
      (λ b e f. ahead_keeps b tsn es trigger)
      (λ b x k. then_held P (all_found_keep tsn es b) k)
      a

  -- RE-CONFIG

  stopped_keeps : (confirms : Bool) (a : Shown) → KeepsHeld P a (stopped_if confirms a)
  stopped_keeps true a = same_held P a _ refl refl
  stopped_keeps false a = stays_held P a

  handled_with_keeps : (a : Shown) (number : ℕ) (x : Resetting × Handled) → KeepsHeld P a (with_resetting a x.0)
      → KeepsHeld P a (handled_with a number x)
  handled_with_keeps a number (s, done) first =
      let b : Shown = with_resetting a s in
      let c : Shown = stopped_if done.confirms b in
      then_held P first
      (then_held P (stopped_keeps done.confirms b)
      (then_held P (asking_if_held P done.asks c) (responding_held P (asking_if done.asks c) number done.answer)))

  on_request_keeps : (a : Shown) (param : ParamOutgoingResetRequest) → KeepsHeld P a (on_request a param)
  unfolding on_request
  on_request_keeps a param =
      let last = a.receiver.peer_last_tsn in
      let first = a.sender.queue.next_message_id in
      let limit = a.receiver.max_receive_message_size in
      let x : Resetting × Handled = handled param last first limit a.resets (channels_of a) in
      handled_with_keeps a param.reconfig_request_sequence_number x
      (resetting_held P a x.0 (handled_holds P param last first limit a.resets (channels_of a)))

  responded_with_keeps : (a : Shown) (x : Beside × TimerChange) → KeepsHeld P a (with_beside a x.0)
      → KeepsHeld P a (responded_with a x)
  responded_with_keeps a (b, change) first =
      then_held P first (same_held P (with_beside a b) (responded_with a (b, change)) refl refl)

  on_response_keeps : (a : Shown) (response : ParamReconfigResponse) → KeepsHeld P a (on_response a response)
  unfolding on_response
  on_response_keeps a response =
      let x : Beside × TimerChange = responded response a.resets a.streams a.events in
      responded_with_keeps a x (beside_held P a x.0 (responded_holds P response a.resets a.streams a.events))

  param_keeps : (param : Param) (a : Shown) → KeepsHeld P a (after_param param a).0
  param_keeps (params.OutgoingResetRequest request) a = on_request_keeps a request
  param_keeps (params.ReconfigResponse response) a = on_response_keeps a response
  param_keeps (params.HeartbeatInfo information) a = stays_held P a
  param_keeps (params.StateCookie cookie) a = stays_held P a
  param_keeps (params.SupportedExtensions kinds) a = stays_held P a
  param_keeps (params.Other kind value) a = stays_held P a

  behind_params_keeps : (x : Shown × Bool) (trigger : AckTrigger) → KeepsHeld P x.0 (behind_params x trigger).0
  behind_params_keeps (a, true) trigger = stays_held P a
  behind_params_keeps (a, false) trigger = stays_held P a

  behind_first_keeps : (x : Shown × Bool) (second : Option Param) (trigger : AckTrigger)
      → KeepsHeld P x.0 (behind_first x second trigger).0
  behind_first_keeps (a, true) None trigger = stays_held P a
  behind_first_keeps (a, true) (Some second) trigger =
      then_held P (param_keeps second a) (behind_params_keeps (after_param second a) trigger)
  behind_first_keeps (a, false) second trigger = stays_held P a

  on_reconfig_keeps : (a : Shown) (reconfig : ChunkReconfig) (trigger : AckTrigger)
      → KeepsHeld P a (on_reconfig a reconfig trigger).0
  unfolding on_reconfig
  on_reconfig_keeps a reconfig trigger =
      then_held P (param_keeps reconfig.first a)
      (behind_first_keeps (after_param reconfig.first a) reconfig.second trigger)

  -- Any chunk

  dispatched_keeps : (a : Shown) (header : CommonHeader) (c : Chunk) (trigger : AckTrigger) (now : ℕ) → IsOnly P c
      → KeepsHeld P a (dispatched a header c trigger now).0
  dispatched_keeps a header (chunks.Data piece) trigger now came = on_data_keeps a piece _ came
  dispatched_keeps a header (chunks.SelectiveAck k) trigger now came =
      sack_keeps (sends_data a.state) a k.cumulative_tsn_ack k.gap_ack_blocks k.advertised_receiver_window_credit
      trigger now refl
  dispatched_keeps a header (chunks.Init x) trigger now came = init_keeps (is_beginning a.state) a header x trigger refl
  dispatched_keeps a header (chunks.InitAck x) trigger now came =
      init_ack_keeps (is_cookie_wait a.state) a header x trigger now refl
  dispatched_keeps a header (chunks.Heartbeat x) trigger now came = heartbeat_keeps a x trigger
  dispatched_keeps a header (chunks.HeartbeatAck x) trigger now came = stays_held P a
  dispatched_keeps a header (chunks.Abort x) trigger now came = stays_held P a
  dispatched_keeps a header (chunks.Shutdown x) trigger now came = same_held P a (shutdown_taken a) refl refl
  dispatched_keeps a header chunks.ShutdownAck trigger now came = same_held P a (shutdown_answered a) refl refl
  dispatched_keeps a header (chunks.Error x) trigger now came = stays_held P a
  dispatched_keeps a header (chunks.CookieEcho cookie) trigger now came =
      cookie_echo_keeps (has_issued a.handshake cookie) (is_beginning a.state) (acknowledges_again a) a cookie trigger
      refl refl refl
  dispatched_keeps a header chunks.CookieAck trigger now came =
      cookie_ack_keeps (is_cookie_echoed a.state) a trigger refl
  dispatched_keeps a header chunks.ShutdownComplete trigger now came = stays_held P a
  dispatched_keeps a header (chunks.Reconfig x) trigger now came = on_reconfig_keeps a x trigger
  dispatched_keeps a header (chunks.ForwardTsn x) trigger now came =
      on_forward_keeps a x.new_cumulative_tsn x.streams trigger now
  dispatched_keeps a header (chunks.IForwardTsn x) trigger now came =
      on_forward_keeps a x.new_cumulative_tsn (skips_of x.entries) trigger now
  dispatched_keeps a header (chunks.Other kind flags value) trigger now came = stays_held P a

  checked_keeps : (r : Result (Unit {0}) Error) (a : Shown) (header : CommonHeader) (c : Chunk) (trigger : AckTrigger)
      (now : ℕ) → IsOnly P c → KeepsHeld P a (checked_first r a header c trigger now).0
  checked_keeps (Err fault) a header c trigger now came = stays_held P a
  checked_keeps (Ok done) a header c trigger now came = dispatched_keeps a header c trigger now came

  chunk_keeps : (a : Shown) (header : CommonHeader) (c : Chunk) (trigger : AckTrigger) (now : ℕ) → IsOnly P c
      → KeepsHeld P a (on_chunk a header c trigger now).0
  unfolding on_chunk
  chunk_keeps a header c trigger now came = checked_keeps (checked_chunk c) a header c trigger now came

  -- A packet

  packet_holds : (packet : Option Packet) (a : Shown) (now : ℕ) → BringsOnly P packet → SideHoldsOnly P a
      → SideHoldsOnly P (after_packet_of a packet now)
  packet_holds None a now brings h = h
  packet_holds (Some packet) a now brings h =
      chunks_carry (SideHoldsOnly P) (SideHoldsOnly P) (IsOnly P)
      (λ header c b trigger at came held. (chunk_keeps b header c trigger at came).holds held)
      (λ b trigger at held. (same_held P b (ended b trigger at) refl refl).holds held)
      (λ b held. (closed_held P b reasons.AssociationClosed).holds held)
      (λ b held. (exhausted_held P b).holds held)
      packet.common_header packet.chunks a triggers.None now brings h

  packet_keeps_unless : (lost : Bool) (packet : Option Packet) (a : Shown) (now : ℕ) → BringsOnly P packet
      → KeepsHeld P a (if lost then a else after_packet_of a packet now)
  packet_keeps_unless true packet a now brings = stays_held P a
  packet_keeps_unless false packet a now brings = record { holds = packet_holds packet a now brings }

  pub packet_held : (a : Shown) (packet : Option Packet) (now : ℕ) → BringsOnly P packet
      → KeepsHeld P a (after_packet a packet now)
  packet_held a packet now brings = packet_keeps_unless a.lost packet a now brings
