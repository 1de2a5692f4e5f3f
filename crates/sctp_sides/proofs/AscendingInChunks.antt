-- What is so of the live streams, where each change of streams keeps it, stays so over the chunks of a packet.
use Rattle.std.proofs.Common.{◌≡◌, refl, ℕ, Bool, true, false, if◌then◌else◌, List, [], ◌∷◌, Option, Some, None}
use Rattle.std.proofs.Common.{is_some, Result, Ok, Err}
use Rattle.sctp_wire_types.specs.declared.chunk.Chunk.{Chunk}
use Rattle.sctp_wire_types.specs.declared.chunk.Chunk.TheVariants as chunks
use Rattle.sctp_wire_types.specs.declared.chunk.ChunkHeartbeat.{ChunkHeartbeat}
use Rattle.sctp_wire_types.specs.declared.chunk.ChunkInit.{ChunkInit}
use Rattle.sctp_wire_types.specs.declared.chunk.ChunkPayloadData.{ChunkPayloadData}
use Rattle.sctp_wire_types.specs.declared.chunk.ChunkReconfig.{ChunkReconfig}
use Rattle.sctp_wire_types.specs.declared.chunk.GapAckBlock.{GapAckBlock}
use Rattle.sctp_wire_types.specs.declared.chunk.SkippedStream.{SkippedStream}
use Rattle.sctp_wire_types.specs.declared.error.Error.{Error}
use Rattle.sctp_wire_types.specs.declared.ids.PayloadProtocolIdentifier.TheVariants as kinds
use Rattle.sctp_wire_types.specs.declared.packet.CommonHeader.{CommonHeader}
use Rattle.sctp_wire_types.specs.declared.param.Param.{Param}
use Rattle.sctp_wire_types.specs.declared.param.Param.TheVariants as params
use Rattle.sctp_wire_types.specs.declared.param.ParamOutgoingResetRequest.{ParamOutgoingResetRequest}
use Rattle.sctp_wire_types.specs.declared.param.ParamReconfigResponse.{ParamReconfigResponse}
use Rattle.sctp_wire_types.specs.Checks.{checked_chunk}
use Rattle.sctp_wire.specs.declared.packet.Packet.{Packet}
use Rattle.sctp_parts.specs.Estimate.{Estimate}
use Rattle.sctp_streams.specs.declared.event.AssociationError.TheVariants as reasons
use Rattle.sctp_streams.specs.Stream.{stream_skipped}
use Rattle.sctp_streams.specs.Streams.{StreamMap, generation_left, is_readable_in, pushed_in, refusal_in, stream_at}
use Rattle.sctp_inbound.specs.declared.receiver.AckTrigger.{AckTrigger}
use Rattle.sctp_inbound.specs.declared.receiver.AckTrigger.TheVariants as triggers
use Rattle.sctp_inbound.specs.Greeting.{first_cookie, information_of}
use Rattle.sctp_inbound.specs.Handshake.{comes_back, has_issued, learned_by_init, learned_by_init_ack}
use Rattle.sctp_inbound.specs.Receiver.{admits, is_new_to, taken_to}
use Rattle.sctp_outbound.specs.declared.progress.Progress.{Progress}
use Rattle.sctp_outbound.specs.declared.sender.SackOutcome.{SackOutcome}
use Rattle.sctp_outbound.specs.declared.sender.SackOutcome.TheVariants as outcomes
use Rattle.sctp_outbound.specs.declared.sender.Sender.{Sender}
use Rattle.sctp_outbound.specs.Sacks.{progress_of, sack_taken}
use Rattle.sctp_outbound.specs.Sender.{sack_outcome}
use Rattle.sctp_resets.specs.declared.answers.TimerChange.{TimerChange}
use Rattle.sctp_resets.specs.declared.performing.Handled.{Handled}
use Rattle.sctp_resets.specs.declared.performing.Settled.{Settled}
use Rattle.sctp_resets.specs.Resets as resets
use Rattle.sctp_resets.specs.Resets.{Beside, Resetting, handled, is_hidden, is_retiring, refusal_of, responded}
use Rattle.sctp_resets.specs.Resets.{skips_done, skips_done_of}
use Rattle.sctp_assoc.specs.declared.inbound.Flow.TheVariants as flows
use Rattle.sctp_assoc.specs.Calls.{is_beginning, is_cookie_echoed, is_cookie_wait, sends_data}
use Rattle.sctp_assoc.specs.Chunks.{after_packet, after_packet_of, after_sack, asks, asks_or_faults, checked_first}
use Rattle.sctp_assoc.specs.Chunks.{counted_data, counted_sack, deferred, deferred_unless, deferred_where_admitted}
use Rattle.sctp_assoc.specs.Chunks.{dispatched, ended, on_chunk, on_counted_data, on_counted_sack, on_data}
use Rattle.sctp_assoc.specs.Chunks.{goes_unread, left_or_handed_over, on_new_data, on_sack}
use Rattle.sctp_assoc.specs.Chunks.{stream_found, taken_in, taken_unless, taken_where_admitted, then_skips, told}
use Rattle.sctp_assoc.specs.Chunks.{with_acknowledged, with_message, with_new_stream}
use Rattle.sctp_assoc.specs.Closing.{is_exhausted}
use Rattle.sctp_assoc.specs.Finding.{found_for}
use Rattle.sctp_assoc.specs.Handshake.{acknowledges_again, connected, cookie_queued, echoed, information_returned}
use Rattle.sctp_assoc.specs.Handshake.{keeps_peer, learned, learned_back, learned_unless, on_cookie_ack}
use Rattle.sctp_assoc.specs.Handshake.{on_cookie_echo, on_heartbeat, on_init, on_init_ack, sends_cookie}
use Rattle.sctp_assoc.specs.Probes.{is_probing}
use Rattle.sctp_assoc.specs.Resets.{after_param, asking_if, behind_first, behind_params, channels_of, handled_with}
use Rattle.sctp_assoc.specs.Resets.{on_reconfig, on_request, on_response, responded_with, settled, settled_with}
use Rattle.sctp_assoc.specs.Resets.{skips_applied, skips_applied_of, stopped_if, with_answer, with_beside}
use Rattle.sctp_assoc.specs.Resets.{with_resetting}
use Rattle.sctp_assoc.specs.Shown.{Shown, all_waiting}
use Rattle.sctp_assoc.specs.Shutdown.{shutdown_again, shutdown_answered, shutdown_continued, shutdown_taken}
use Rattle.sctp_assoc.specs.Skipping.{acknowledged_at_once, asks_behind, on_forward, skips_of, with_passed, with_skip}
use Rattle.sctp_assoc.specs.Skipping.{with_skips}
use Rattle.sctp_assoc.proofs.Probes.{probes_keep}
use Rattle.sctp_assoc.proofs.StreamsFound.{found_for_keeps}
use Rattle.sctp_sides.proofs.ForwardKinds.{forward_is_one_of}
use Rattle.sctp_sides.proofs.PacketsByChunks.{chunks_carry}
use Rattle.sctp_sides.proofs.PeerRequestsInChunks.{flow_same}
use Rattle.std.specs.List.{AllByRecursion}
use Rattle.std.specs.Prelude.{⊤}
use Rattle.sctp_sides.proofs.AscendingInResets.{handled_holds, responded_holds, settled_holds, skips_done_holds}
use Rattle.sctp_sides.proofs.AscendingInResets.{skips_done_of_holds}
use Rattle.sctp_sides.proofs.AscendingInSending.{sack_holds}
use Rattle.sctp_sides.proofs.AscendingSteps.{IsKept, Keeps, asking_if_kept, beside_kept, closed_kept}
use Rattle.sctp_sides.proofs.AscendingSteps.{exhausted_kept, pushed_in_kept, queued_kept, resetting_kept}
use Rattle.sctp_sides.proofs.AscendingSteps.{responding_kept, same_kept, same_side_kept, stays_kept}
use Rattle.sctp_sides.proofs.AscendingSteps.{streams_kept, then_kept}

-- What is so of the live streams.
module _ (P : StreamMap → Type 0) (law : IsKept P) where
  -- Skips that were kept are applied

  skips_applied_of_keep : (id : ℕ) (a : Shown) → Keeps P a (skips_applied_of id a)
  skips_applied_of_keep id a =
      beside_kept P a (skips_done_of id a.resets a.streams a.events)
      (skips_done_of_holds P law id a.resets a.streams a.events)

  skips_applied_keep : (a : Shown) → Keeps P a (skips_applied a)
  skips_applied_keep a =
      beside_kept P a (skips_done a.resets a.streams a.events) (skips_done_holds P law a.resets a.streams a.events)

  -- A request of the peer that waited is performed

  answer_keeps : (answer : Option Settled) (a : Shown) → Keeps P a (with_answer answer a)
  answer_keeps None a = stays_kept P a
  answer_keeps (Some q) a =
      then_kept P (asking_if_kept P q.asks a) (responding_kept P (asking_if q.asks a) q.number _)

  settled_with_keeps : (a : Shown) (x : Resetting × Option Settled)
      → Keeps P a (with_resetting a x.0) → Keeps P a (settled_with a x)
  settled_with_keeps a (s, answer) first = then_kept P first (answer_keeps answer (with_resetting a s))

  settled_keeps : (a : Shown) → Keeps P a (settled a)
  unfolding settled
  settled_keeps a =
      let last = a.receiver.peer_last_tsn in
      let first = a.sender.queue.next_message_id in
      let limit = a.receiver.max_receive_message_size in
      let x : Resetting × Option Settled = resets.settled last first limit a.resets (channels_of a) in
      then_kept P
      (settled_with_keeps a x
      (resetting_kept P a x.0 (settled_holds P law last first limit a.resets (channels_of a))))
      (skips_applied_keep (settled_with a x))

  -- DATA

  found_keeps_if : (there left : Bool) (a : Shown) (id : ℕ) → is_some (stream_at a.streams id) ≡ there
      → generation_left a.streams ≡ left → Keeps P a (stream_found a id).0
  unfolding stream_found
  found_keeps_if true left a id e f = rw e (stays_kept P a)
  found_keeps_if false true a id e f =
      rw (e, f)
      (streams_kept P a (with_new_stream a id)
      (λ h. law.make a.streams id a.sender.queue.next_message_id kinds.Unknown h))
  found_keeps_if false false a id e f = rw (e, f) (stays_kept P a)

  stream_found_keeps : (a : Shown) (id : ℕ) → Keeps P a (stream_found a id).0
  stream_found_keeps a id =
      found_keeps_if (is_some (stream_at a.streams id)) (generation_left a.streams) a id refl refl

  told_keeps : (readable kept : Bool) (a : Shown) (id : ℕ) → is_readable_in a.streams id ≡ readable
      → Keeps P a (told a id kept)
  told_keeps true true a id e = rw e (same_kept P a _ refl)
  told_keeps false true a id e = rw e (same_kept P a _ refl)
  told_keeps readable false a id e = same_kept P a _ refl

  -- a piece came
  message_keeps : (a : Shown) (piece : ChunkPayloadData) (x : StreamMap × Bool)
      → (P a.streams → P x.0) → Keeps P a (with_message a piece x)
  message_keeps a piece (streams, kept) still =
      let b : Shown = record a { streams = streams; receiver = taken_to a.receiver piece.tsn } in
      then_kept P (streams_kept P a b still)
      (told_keeps (is_readable_in streams piece.stream_identifier) kept b piece.stream_identifier refl)

  taken_unless_keeps : (refusal : Option Error) (a : Shown) (piece : ChunkPayloadData)
      → refusal_in a.streams piece.stream_identifier piece a.receiver.max_receive_message_size ≡ refusal
      → Keeps P a (taken_unless refusal a piece).0
  taken_unless_keeps (Some fault) a piece refused = stays_kept P a
  taken_unless_keeps None a piece accepted =
      message_keeps a piece (pushed_in a.streams piece.stream_identifier piece)
      (λ h. pushed_in_kept P law a.streams piece.stream_identifier piece h)

  left_keeps : (left : Bool) (a : Shown) (piece : ChunkPayloadData) → Keeps P a (left_or_handed_over left a piece).0
  left_keeps true a piece = same_kept P a _ refl
  left_keeps false a piece =
      taken_unless_keeps (refusal_in a.streams piece.stream_identifier piece a.receiver.max_receive_message_size) a
      piece refl

  taken_in_keeps : (a : Shown) (piece : ChunkPayloadData) → Keeps P a (taken_in a piece).0
  unfolding taken_in
  taken_in_keeps a piece = left_keeps (goes_unread a piece) a piece

  then_skips_keep : (x : Shown × Option Error) (id : ℕ) → Keeps P x.0 (then_skips x id).0
  then_skips_keep (a, None) id = skips_applied_of_keep id a
  then_skips_keep (a, Some fault) id = stays_kept P a

  admitted_keeps : (credit : Bool) (a : Shown) (piece : ChunkPayloadData)
      → Keeps P a (if credit then then_skips (taken_in a piece) piece.stream_identifier else (a, None)).0
  admitted_keeps true a piece =
      then_kept P (taken_in_keeps a piece) (then_skips_keep (taken_in a piece) piece.stream_identifier)
  admitted_keeps false a piece = stays_kept P a

  taken_where_admitted_keeps : (a : Shown) (piece : ChunkPayloadData)
      → Keeps P a (taken_where_admitted a piece).0
  taken_where_admitted_keeps a piece = admitted_keeps (admits a.receiver piece.tsn (all_waiting a)) a piece

  -- one of a generation that is not read yet

  deferred_unless_keeps : (refusal : Option Error) (a : Shown) (piece : ChunkPayloadData)
      → Keeps P a (deferred_unless refusal a piece).0
  deferred_unless_keeps (Some fault) a piece = stays_kept P a
  deferred_unless_keeps None a piece =
      same_kept P a _ refl

  deferred_keeps : (a : Shown) (piece : ChunkPayloadData) → Keeps P a (deferred a piece).0
  deferred_keeps a piece =
      deferred_unless_keeps (refusal_of a.resets piece a.receiver.max_receive_message_size) a piece

  deferred_keeps_if : (credit : Bool) (a : Shown) (piece : ChunkPayloadData)
      → admits a.receiver piece.tsn (all_waiting a) ≡ credit → Keeps P a (deferred_where_admitted a piece).0
  unfolding deferred_where_admitted
  deferred_keeps_if true a piece e = rw e (deferred_keeps a piece)
  deferred_keeps_if false a piece e = rw e (stays_kept P a)

  deferred_where_admitted_keeps : (a : Shown) (piece : ChunkPayloadData)
      → Keeps P a (deferred_where_admitted a piece).0
  deferred_where_admitted_keeps a piece =
      deferred_keeps_if (admits a.receiver piece.tsn (all_waiting a)) a piece refl

  asks_keeps : (a : Shown) (immediate : Bool) (trigger : AckTrigger) → Keeps P a (asks a immediate trigger).0
  asks_keeps a immediate trigger = same_side_kept P a _ (flow_same (is_exhausted a) a _ _)

  settled_asks_keeps : (a : Shown) (immediate : Bool) (trigger : AckTrigger)
      → Keeps P a (asks (settled a) immediate trigger).0
  settled_asks_keeps a immediate trigger = then_kept P (settled_keeps a) (asks_keeps (settled a) immediate trigger)

  asks_or_faults_keeps : (x : Shown × Option Error) (immediate : Bool) (trigger : AckTrigger)
      → Keeps P x.0 (asks_or_faults x immediate trigger).0
  asks_or_faults_keeps (a, None) immediate trigger = settled_asks_keeps a immediate trigger
  asks_or_faults_keeps (a, Some fault) immediate trigger = stays_kept P a

  new_data_keeps : (x : Shown × Bool) (piece : ChunkPayloadData) (trigger : AckTrigger)
      → Keeps P x.0 (on_new_data x piece trigger).0
  new_data_keeps (a, false) piece trigger = stays_kept P a
  new_data_keeps (a, true) piece trigger =
      then_kept P (taken_where_admitted_keeps a piece)
      (asks_or_faults_keeps (taken_where_admitted a piece) piece.immediate_sack trigger)

  data_keeps_if : (next hidden : Bool) (a : Shown) (piece : ChunkPayloadData) (trigger : AckTrigger)
      → is_new_to a.receiver piece.tsn ≡ next → is_hidden a.resets piece.stream_identifier piece.tsn ≡ hidden
      → Keeps P a (on_counted_data a piece trigger).0
  data_keeps_if false hidden a piece trigger e f =
      rw e (settled_asks_keeps a piece.immediate_sack trigger)
  data_keeps_if true true a piece trigger e f =
      rw (e, f)
      (then_kept P (deferred_where_admitted_keeps a piece)
      (asks_or_faults_keeps (deferred_where_admitted a piece) piece.immediate_sack trigger))
  data_keeps_if true false a piece trigger e f =
      rw (e, f)
      (then_kept P (stream_found_keeps a piece.stream_identifier)
      (new_data_keeps (stream_found a piece.stream_identifier) piece trigger))

  on_data_keeps : (a : Shown) (piece : ChunkPayloadData) (trigger : AckTrigger)
      → Keeps P a (on_data a piece trigger).0
  unfolding on_data
  on_data_keeps a piece trigger =
      let b : Shown = counted_data a in
      then_kept P (same_kept P a b refl)
      (data_keeps_if (is_new_to b.receiver piece.tsn) (is_hidden b.resets piece.stream_identifier piece.tsn) b piece
      trigger refl refl)

  -- SACK

  acknowledged_keeps : (a : Shown) (progress : Progress) (now : ℕ) (x : Sender × Estimate × StreamMap)
      → (P a.streams → P x.2) → Keeps P a (with_acknowledged a progress now x)
  acknowledged_keeps a progress now (sender, estimate, streams) still = streams_kept P a _ still

  outcome_keeps : (o : SackOutcome) (a : Shown) (cumulative_tsn_ack : ℕ) (blocks : List GapAckBlock) (window : ℕ)
      (trigger : AckTrigger) (now : ℕ)
      → Keeps P a (on_counted_sack o a cumulative_tsn_ack blocks window trigger now).0
  outcome_keeps outcomes.Older a cumulative_tsn_ack blocks window trigger now = stays_kept P a
  outcome_keeps outcomes.NotInFlight a cumulative_tsn_ack blocks window trigger now = stays_kept P a
  outcome_keeps outcomes.NamesTheUnsent a cumulative_tsn_ack blocks window trigger now = stays_kept P a
  outcome_keeps outcomes.Taken a cumulative_tsn_ack blocks window trigger now =
      let b : Shown = after_sack a cumulative_tsn_ack blocks window now in
      probes_keep (Keeps P a) (λ c k. record { holds = k.holds }) (λ c k. record { holds = k.holds })
      (is_probing a.profile a.sender) window (shutdown_continued b)
      (then_kept P
      (acknowledged_keeps a (progress_of a.sender cumulative_tsn_ack blocks) now
      (sack_taken cumulative_tsn_ack blocks window now a.sender a.estimate a.streams)
      (λ h. sack_holds P law cumulative_tsn_ack blocks window now a.sender a.estimate a.streams h))
      (same_kept P b (shutdown_continued b) refl))

  sack_keeps : (sends : Bool) (a : Shown) (cumulative_tsn_ack : ℕ) (blocks : List GapAckBlock) (window : ℕ)
      (trigger : AckTrigger) (now : ℕ) → sends_data a.state ≡ sends
      → Keeps P a (on_sack a cumulative_tsn_ack blocks window trigger now).0
  unfolding on_sack
  sack_keeps true a cumulative_tsn_ack blocks window trigger now e =
      rw e (then_kept P (same_kept P a (counted_sack a) refl)
      (outcome_keeps (sack_outcome a.sender cumulative_tsn_ack blocks) (counted_sack a) cumulative_tsn_ack blocks window
      trigger now))
  sack_keeps false a cumulative_tsn_ack blocks window trigger now e = rw e (stays_kept P a)

  -- The handshake, and HEARTBEAT

  learned_keeps : (keeps : Bool) (a : Shown) (header : CommonHeader) (init : ChunkInit)
      → Keeps P a
      (learned_unless keeps (record a { handshake = learned_by_init a.handshake header init }) init)
  learned_keeps true a header init = same_kept P a _ refl
  learned_keeps false a header init = same_kept P a _ refl

  init_keeps : (begins : Bool) (a : Shown) (header : CommonHeader) (init : ChunkInit) (trigger : AckTrigger)
      → is_beginning a.state ≡ begins → Keeps P a (on_init a header init trigger).0
  unfolding on_init
  init_keeps true a header init trigger e =
      rw e
      (then_kept P (learned_keeps (keeps_peer a init) a header init) (queued_kept P (learned a header init) _))
  init_keeps false a header init trigger e = rw e (stays_kept P a)

  cookie_keeps : (o : Option (List ℕ)) (a : Shown) → Keeps P a (cookie_queued o a)
  cookie_keeps None a = stays_kept P a
  cookie_keeps (Some cookie) a = queued_kept P a _

  pub sends_cookie_keeps : (a : Shown) (now : ℕ) → Keeps P a (sends_cookie a now)
  unfolding sends_cookie
  sends_cookie_keeps a now =
      then_kept P (cookie_keeps a.handshake.echo a)
      (same_kept P (cookie_queued a.handshake.echo a) (sends_cookie a now) refl)

  echoed_keeps : (o : Option (List ℕ)) (a : Shown) (trigger : AckTrigger) (now : ℕ)
      → Keeps P a (echoed o a trigger now).0
  echoed_keeps None a trigger now = stays_kept P a
  echoed_keeps (Some cookie) a trigger now =
      then_kept P (same_kept P a _ refl) (sends_cookie_keeps _ now)

  back_keeps : (back : Bool) (a : Shown) (header : CommonHeader) (init : ChunkInit) (trigger : AckTrigger) (now : ℕ)
      → Keeps P a
      (if back then echoed (first_cookie init.params) (learned_back a header init) trigger now
      else (record a { handshake = learned_by_init_ack a.handshake header init }, flows.Next trigger)).0
  back_keeps true a header init trigger now =
      then_kept P (same_kept P a (learned_back a header init) refl)
      (echoed_keeps (first_cookie init.params) (learned_back a header init) trigger now)
  back_keeps false a header init trigger now = same_kept P a _ refl

  init_ack_keeps : (waits : Bool) (a : Shown) (header : CommonHeader) (init : ChunkInit) (trigger : AckTrigger)
      (now : ℕ) → is_cookie_wait a.state ≡ waits → Keeps P a (on_init_ack a header init trigger now).0
  unfolding on_init_ack
  init_ack_keeps true a header init trigger now e =
      rw e (back_keeps (comes_back a.handshake header) a header init trigger now)
  init_ack_keeps false a header init trigger now e = rw e (stays_kept P a)

  cookie_echo_keeps : (issued begins again : Bool) (a : Shown) (cookie : List ℕ) (trigger : AckTrigger)
      → has_issued a.handshake cookie ≡ issued → is_beginning a.state ≡ begins
      → acknowledges_again a ≡ again → Keeps P a (on_cookie_echo a cookie trigger).0
  unfolding on_cookie_echo
  cookie_echo_keeps false begins again a cookie trigger e f g = rw e (stays_kept P a)
  cookie_echo_keeps true true again a cookie trigger e f g =
      rw (e, f) (then_kept P (same_kept P a (connected a) refl) (queued_kept P (connected a) _))
  cookie_echo_keeps true false true a cookie trigger e f g =
      rw (e, f, g) (then_kept P (same_kept P a (shutdown_again a) refl) (queued_kept P (shutdown_again a) _))
  cookie_echo_keeps true false false a cookie trigger e f g = rw (e, f, g) (stays_kept P a)

  cookie_ack_keeps : (waits : Bool) (a : Shown) (trigger : AckTrigger) → is_cookie_echoed a.state ≡ waits
      → Keeps P a (on_cookie_ack a trigger).0
  unfolding on_cookie_ack
  cookie_ack_keeps true a trigger e = rw e (same_kept P a _ refl)
  cookie_ack_keeps false a trigger e = rw e (stays_kept P a)

  returned_keeps : (o : Option (List ℕ)) (a : Shown) → Keeps P a (information_returned o a)
  returned_keeps None a = stays_kept P a
  returned_keeps (Some information) a = queued_kept P a _

  heartbeat_keeps : (a : Shown) (heartbeat : ChunkHeartbeat) (trigger : AckTrigger)
      → Keeps P a (on_heartbeat a heartbeat trigger).0
  unfolding on_heartbeat
  heartbeat_keeps a heartbeat trigger = returned_keeps (information_of heartbeat.params) a

  -- FORWARD TSN

  skip_keeps_if : (retires : Bool) (tsn id ssn : ℕ) (a : Shown) → is_retiring a.resets id ≡ retires
      → Keeps P a (with_skip tsn id ssn a)
  unfolding with_skip
  skip_keeps_if true tsn id ssn a e =
      rw e (same_kept P a _ refl)
  skip_keeps_if false tsn id ssn a e =
      rw e (streams_kept P a _ (λ h. law.change (stream_skipped ssn) (λ u. refl) a.streams id h))

  skip_keeps : (tsn id ssn : ℕ) (a : Shown) → Keeps P a (with_skip tsn id ssn a)
  skip_keeps tsn id ssn a = skip_keeps_if (is_retiring a.resets id) tsn id ssn a refl

  skips_keep : (tsn : ℕ) (es : List SkippedStream) (a : Shown) → Keeps P a (with_skips tsn es a)
  skips_keep tsn [] a = stays_kept P a
  skips_keep tsn (e ∷ es) a =
      then_kept P (skip_keeps tsn e.stream_identifier e.stream_sequence_number a)
      (skips_keep tsn es (with_skip tsn e.stream_identifier e.stream_sequence_number a))

  passed_keeps : (a : Shown) (tsn : ℕ) → Keeps P a (with_passed a tsn)
  passed_keeps a tsn = record { holds = λ h. law.pass a.streams tsn h }

  asks_behind_keeps : (a : Shown) (trigger : AckTrigger) → Keeps P a (asks_behind a trigger).0
  asks_behind_keeps a trigger = same_side_kept P a _ (flow_same (is_exhausted a) a _ _)

  ahead_keeps : (a : Shown) (tsn : ℕ) (es : List SkippedStream) (trigger : AckTrigger)
      → Keeps P a (asks_behind (settled (with_passed (with_skips tsn es a) tsn)) trigger).0
  ahead_keeps a tsn es trigger =
      let b : Shown = with_skips tsn es a in
      let c : Shown = with_passed b tsn in
      then_kept P (skips_keep tsn es a)
      (then_kept P (passed_keeps b tsn) (then_kept P (settled_keeps c) (asks_behind_keeps (settled c) trigger)))

  -- the streams on which it skips are found or made before
  all_found_keep : (tsn : ℕ) (es : List SkippedStream) (a : Shown) → Keeps P a (found_for tsn es a)
  all_found_keep tsn es a =
      found_for_keeps (Keeps P a) (λ b id k. then_kept P k (stream_found_keeps b id)) tsn es a (stays_kept P a)

  on_forward_keeps : (a : Shown) (tsn : ℕ) (es : List SkippedStream) (trigger : AckTrigger) (now : ℕ)
      → Keeps P a (on_forward a tsn es trigger now).0
  on_forward_keeps a tsn es trigger now =
      forward_is_one_of tsn es (λ b x. Keeps P b x.0) trigger now
      (λ b e. queued_kept P b _)
      (λ b e f. same_kept P b (acknowledged_at_once b now) refl)
      (λ b e f. ahead_keeps b tsn es trigger)
      (λ b x k. then_kept P (all_found_keep tsn es b) k)
      a

  -- RE-CONFIG

  stopped_keeps : (confirms : Bool) (a : Shown) → Keeps P a (stopped_if confirms a)
  stopped_keeps true a = same_kept P a _ refl
  stopped_keeps false a = stays_kept P a

  handled_with_keeps : (a : Shown) (number : ℕ) (x : Resetting × Handled) → Keeps P a (with_resetting a x.0)
      → Keeps P a (handled_with a number x)
  handled_with_keeps a number (s, done) first =
      let b : Shown = with_resetting a s in
      let c : Shown = stopped_if done.confirms b in
      then_kept P first
      (then_kept P (stopped_keeps done.confirms b)
      (then_kept P (asking_if_kept P done.asks c) (responding_kept P (asking_if done.asks c) number done.answer)))

  on_request_keeps : (a : Shown) (param : ParamOutgoingResetRequest) → Keeps P a (on_request a param)
  unfolding on_request
  on_request_keeps a param =
      let last = a.receiver.peer_last_tsn in
      let first = a.sender.queue.next_message_id in
      let limit = a.receiver.max_receive_message_size in
      let x : Resetting × Handled = handled param last first limit a.resets (channels_of a) in
      handled_with_keeps a param.reconfig_request_sequence_number x
      (resetting_kept P a x.0 (handled_holds P law param last first limit a.resets (channels_of a)))

  responded_with_keeps : (a : Shown) (x : Beside × TimerChange) → Keeps P a (with_beside a x.0)
      → Keeps P a (responded_with a x)
  responded_with_keeps a (b, change) first =
      then_kept P first (same_kept P (with_beside a b) (responded_with a (b, change)) refl)

  on_response_keeps : (a : Shown) (response : ParamReconfigResponse) → Keeps P a (on_response a response)
  unfolding on_response
  on_response_keeps a response =
      let x : Beside × TimerChange = responded response a.resets a.streams a.events in
      responded_with_keeps a x (beside_kept P a x.0 (responded_holds P law response a.resets a.streams a.events))

  param_keeps : (param : Param) (a : Shown) → Keeps P a (after_param param a).0
  param_keeps (params.OutgoingResetRequest request) a = on_request_keeps a request
  param_keeps (params.ReconfigResponse response) a = on_response_keeps a response
  param_keeps (params.HeartbeatInfo information) a = stays_kept P a
  param_keeps (params.StateCookie cookie) a = stays_kept P a
  param_keeps (params.SupportedExtensions kinds) a = stays_kept P a
  param_keeps (params.Other kind value) a = stays_kept P a

  behind_params_keeps : (x : Shown × Bool) (trigger : AckTrigger) → Keeps P x.0 (behind_params x trigger).0
  behind_params_keeps (a, true) trigger = stays_kept P a
  behind_params_keeps (a, false) trigger = stays_kept P a

  behind_first_keeps : (x : Shown × Bool) (second : Option Param) (trigger : AckTrigger)
      → Keeps P x.0 (behind_first x second trigger).0
  behind_first_keeps (a, true) None trigger = stays_kept P a
  behind_first_keeps (a, true) (Some second) trigger =
      then_kept P (param_keeps second a) (behind_params_keeps (after_param second a) trigger)
  behind_first_keeps (a, false) second trigger = stays_kept P a

  on_reconfig_keeps : (a : Shown) (reconfig : ChunkReconfig) (trigger : AckTrigger)
      → Keeps P a (on_reconfig a reconfig trigger).0
  unfolding on_reconfig
  on_reconfig_keeps a reconfig trigger =
      then_kept P (param_keeps reconfig.first a)
      (behind_first_keeps (after_param reconfig.first a) reconfig.second trigger)

  -- Any chunk

  dispatched_keeps : (a : Shown) (header : CommonHeader) (c : Chunk) (trigger : AckTrigger) (now : ℕ)
      → Keeps P a (dispatched a header c trigger now).0
  dispatched_keeps a header (chunks.Data piece) trigger now = on_data_keeps a piece _
  dispatched_keeps a header (chunks.SelectiveAck k) trigger now =
      sack_keeps (sends_data a.state) a k.cumulative_tsn_ack k.gap_ack_blocks k.advertised_receiver_window_credit
      trigger now refl
  dispatched_keeps a header (chunks.Init x) trigger now = init_keeps (is_beginning a.state) a header x trigger refl
  dispatched_keeps a header (chunks.InitAck x) trigger now =
      init_ack_keeps (is_cookie_wait a.state) a header x trigger now refl
  dispatched_keeps a header (chunks.Heartbeat x) trigger now = heartbeat_keeps a x trigger
  dispatched_keeps a header (chunks.HeartbeatAck x) trigger now = stays_kept P a
  dispatched_keeps a header (chunks.Abort x) trigger now = stays_kept P a
  dispatched_keeps a header (chunks.Shutdown x) trigger now = same_kept P a (shutdown_taken a) refl
  dispatched_keeps a header chunks.ShutdownAck trigger now = same_kept P a (shutdown_answered a) refl
  dispatched_keeps a header (chunks.Error x) trigger now = stays_kept P a
  dispatched_keeps a header (chunks.CookieEcho cookie) trigger now =
      cookie_echo_keeps (has_issued a.handshake cookie) (is_beginning a.state) (acknowledges_again a) a cookie trigger
      refl refl refl
  dispatched_keeps a header chunks.CookieAck trigger now =
      cookie_ack_keeps (is_cookie_echoed a.state) a trigger refl
  dispatched_keeps a header chunks.ShutdownComplete trigger now = stays_kept P a
  dispatched_keeps a header (chunks.Reconfig x) trigger now = on_reconfig_keeps a x trigger
  dispatched_keeps a header (chunks.ForwardTsn x) trigger now =
      on_forward_keeps a x.new_cumulative_tsn x.streams trigger now
  dispatched_keeps a header (chunks.IForwardTsn x) trigger now =
      on_forward_keeps a x.new_cumulative_tsn (skips_of x.entries) trigger now
  dispatched_keeps a header (chunks.Other kind flags value) trigger now = stays_kept P a

  checked_keeps : (r : Result (Unit {0}) Error) (a : Shown) (header : CommonHeader) (c : Chunk) (trigger : AckTrigger)
      (now : ℕ) → Keeps P a (checked_first r a header c trigger now).0
  checked_keeps (Err fault) a header c trigger now = stays_kept P a
  checked_keeps (Ok done) a header c trigger now = dispatched_keeps a header c trigger now

  chunk_keeps : (a : Shown) (header : CommonHeader) (c : Chunk) (trigger : AckTrigger) (now : ℕ)
      → Keeps P a (on_chunk a header c trigger now).0
  unfolding on_chunk
  chunk_keeps a header c trigger now = checked_keeps (checked_chunk c) a header c trigger now

  -- A packet

  -- whatever a chunk is
  any_chunks : (cs : List Chunk) → AllByRecursion (λ (c : Chunk). ⊤) cs
  any_chunks [] = tt
  any_chunks (c ∷ cs) = (tt, any_chunks cs)

  packet_holds : (packet : Option Packet) (a : Shown) (now : ℕ) → P a.streams → P (after_packet_of a packet now).streams
  packet_holds None a now h = h
  packet_holds (Some packet) a now h =
      chunks_carry (λ (b : Shown). P b.streams) (λ (b : Shown). P b.streams) (λ (c : Chunk). ⊤)
      (λ header c b trigger at said held. (chunk_keeps b header c trigger at).holds held)
      (λ b trigger at held. (same_kept P b (ended b trigger at) refl).holds held)
      (λ b held. (closed_kept P law b reasons.AssociationClosed).holds held)
      (λ b held. (exhausted_kept P law b).holds held)
      packet.common_header packet.chunks a triggers.None now (any_chunks packet.chunks) h

  packet_keeps_unless : (lost : Bool) (packet : Option Packet) (a : Shown) (now : ℕ)
      → Keeps P a (if lost then a else after_packet_of a packet now)
  packet_keeps_unless true packet a now = stays_kept P a
  packet_keeps_unless false packet a now = record { holds = packet_holds packet a now }

  pub packet_kept : (a : Shown) (packet : Option Packet) (now : ℕ) → Keeps P a (after_packet a packet now)
  packet_kept a packet now = packet_keeps_unless a.lost packet a now
