-- Each chunk that comes leaves what a side sends of a stream its course, where what the chunk says of this side's
-- requests is true and its own requests name their streams.
use Rattle.std.proofs.Common.{◌≡◌, refl, sym, ap, ◌∙◌, subst, ℕ, ◌<◌, ◌≤◌, ◌^◌, Bool, true, false, if◌then◌else◌, not}
use Rattle.std.proofs.Common.{length, List, [], ◌∷◌, Option, Some, None, is_some, Result, Ok, Err}
use Rattle.sctp_wire_types.specs.declared.chunk.Chunk.{Chunk}
use Rattle.sctp_wire_types.specs.declared.chunk.Chunk.TheVariants as chunks
use Rattle.sctp_wire_types.specs.declared.chunk.ChunkHeartbeat.{ChunkHeartbeat}
use Rattle.sctp_wire_types.specs.declared.chunk.ChunkInit.{ChunkInit}
use Rattle.sctp_wire_types.specs.declared.chunk.ChunkPayloadData.{ChunkPayloadData}
use Rattle.sctp_wire_types.specs.declared.chunk.ChunkReconfig.{ChunkReconfig}
use Rattle.sctp_wire_types.specs.declared.chunk.GapAckBlock.{GapAckBlock}
use Rattle.sctp_wire_types.specs.declared.chunk.SkippedStream.{SkippedStream}
use Rattle.sctp_wire_types.specs.declared.error.Error.{Error}
use Rattle.sctp_wire_types.specs.declared.packet.CommonHeader.{CommonHeader}
use Rattle.sctp_wire_types.specs.declared.param.Param.{Param}
use Rattle.sctp_wire_types.specs.declared.param.Param.TheVariants as params
use Rattle.sctp_wire_types.specs.declared.param.ParamOutgoingResetRequest.{ParamOutgoingResetRequest}
use Rattle.sctp_wire_types.specs.declared.param.ParamReconfigResponse.{ParamReconfigResponse}
use Rattle.sctp_wire_types.specs.Checks.{checked_chunk}
use Rattle.sctp_parts.specs.declared.state.AssociationState.TheVariants as states
use Rattle.sctp_streams.specs.Streams.{StreamMap, generation_left, is_readable_in, pushed_in, refusal_in, stream_at}
use Rattle.sctp_inbound.specs.declared.receiver.AckTrigger.{AckTrigger}
use Rattle.sctp_inbound.specs.Greeting.{first_cookie, information_of}
use Rattle.sctp_inbound.specs.Handshake.{comes_back, has_issued, learned_by_init_ack}
use Rattle.sctp_inbound.specs.Receiver.{admits, is_new_to, taken_to}
use Rattle.sctp_outbound.specs.declared.sender.SackOutcome.{SackOutcome}
use Rattle.sctp_outbound.specs.declared.sender.SackOutcome.TheVariants as outcomes
use Rattle.sctp_outbound.specs.Sender.{sack_outcome}
use Rattle.sctp_outbound_queue.specs.Outbound.{has_stream}
use Rattle.sctp_reset_requests.specs.Own.{outcome_of}
use Rattle.sctp_resets.specs.declared.answers.TimerChange.{TimerChange}
use Rattle.sctp_resets.specs.declared.performing.Handled.{Handled}
use Rattle.sctp_resets.specs.declared.performing.Settled.{Settled}
use Rattle.sctp_resets.specs.Resets.{Beside, Resetting, handled, responded, skips_done, skips_done_of}
use Rattle.sctp_resets.specs.Resets as resets
use Rattle.sctp_resets.specs.Skips as skips
use Rattle.sctp_directions.specs.Acts.{Act, History, Parts}
use Rattle.sctp_courses.specs.Course.{Course}
use Rattle.sctp_courses.specs.Invariants.{Invariant}
use Rattle.sctp_assoc.specs.declared.inbound.Flow.{Flow}
use Rattle.sctp_assoc.specs.declared.inbound.Flow.TheVariants as flows
use Rattle.sctp_assoc.specs.Calls.{is_beginning, is_cookie_echoed, is_cookie_wait, sends_data}
use Rattle.sctp_assoc.specs.Chunks.{after_sack, asks, asks_or_faults, checked_first, counted_data, counted_sack}
use Rattle.sctp_assoc.specs.Chunks.{deferred_unless, deferred_where_admitted, dispatched, goes_unread}
use Rattle.sctp_assoc.specs.Chunks.{left_or_handed_over, on_chunk, on_counted_sack, on_data, on_new_data, on_sack}
use Rattle.sctp_assoc.specs.Chunks.{stream_found, taken_in, taken_unless, taken_where_admitted, then_skips, told}
use Rattle.sctp_assoc.specs.Chunks.{with_message}
use Rattle.sctp_assoc.specs.Closing.{is_exhausted}
use Rattle.sctp_assoc.specs.Finding.{found_for}
use Rattle.sctp_assoc.specs.Handshake.{acknowledges_again, cookie_queued, echoed, information_returned, keeps_peer}
use Rattle.sctp_assoc.specs.Handshake.{learned_back, on_cookie_ack, on_cookie_echo, on_heartbeat, on_init, on_init_ack}
use Rattle.sctp_assoc.specs.Handshake.{sends_cookie}
use Rattle.sctp_assoc.specs.Happened.{acts_of_chunk}
use Rattle.sctp_assoc.specs.Leads.{Leads, parts}
use Rattle.sctp_assoc.specs.Probes.{is_probing}
use Rattle.sctp_assoc.specs.Resets.{after_param, asking_if, behind_first, behind_params, channels_of, handled_with}
use Rattle.sctp_assoc.specs.Resets.{on_reconfig, on_request, on_response, responded_with, settled, settled_with}
use Rattle.sctp_assoc.specs.Resets.{skips_applied_of, stopped_if, with_answer, with_beside, with_resetting}
use Rattle.sctp_assoc.specs.Shown.{Shown, all_waiting}
use Rattle.sctp_assoc.specs.Shutdown.{shutdown_continued}
use Rattle.sctp_assoc.specs.Skipping.{asks_behind, on_forward, skips_of, with_passed, with_skip}
use Rattle.sctp_assoc.specs.Skipping.{with_skips}
use Rattle.sctp_assoc.proofs.Probes.{probes_keep}
use Rattle.sctp_assoc.proofs.StreamsFound.{found_for_keeps}
use Rattle.sctp_sides.proofs.ActsWithoutWrites.{chunk_writes_nothing}
use Rattle.sctp_sides.proofs.ForwardKinds.{forward_is_one_of}
use Rattle.sctp_sides.proofs.QuietQueues.{acts_add_none}
use Rattle.sctp_course_sides.specs.Answers.{ChunkIsTrue, IsOfPerformed, ParamIsTrue, ParamIsTrueIf}
use Rattle.sctp_course_sides.specs.Honest.{ChunkNames, ParamNames, ParamNamesIf}
use Rattle.sctp_course_sides.specs.Sends.{AreIdentifiers, Sends}
use Rattle.sctp_course_sides.proofs.HeardActs.{chunk_is_heard}
use Rattle.sctp_course_sides.proofs.SenderParts.{AsksOf, asks_of, flown_of, heard_flown, heard_own, quiet_of}
use Rattle.sctp_course_sides.proofs.SenderParts.{sends_from}
use Rattle.sctp_course_sides.proofs.SenderPerforming.{handled_asks, settled_asks, skipping_asks}
use Rattle.sctp_course_sides.proofs.SenderRequests.{responded_asks}

flow_same : (none : Bool) (a : Shown) (f g : Flow) → (if◌then◌else◌ {A = Shown × Flow} none (a, f) (a, g)).0 ≡ a
flow_same true a f g = refl
flow_same false a f g = refl

module _ (initial id : ℕ) (c : Course) where
  -- the requests of a side stay those of the course
  abbrev Keeps : Shown → Shown → Type 0
  Keeps a b = AsksOf initial id c a.resets → AsksOf initial id c b.resets

  then_on : (a b d : Shown) → Keeps a b → Keeps b d → Keeps a d
  then_on a b d f g x = g (f x)

  -- where an association is another one as it is
  same_keeps : (a b : Shown) → b ≡ a → Keeps a b
  same_keeps a b e x = subst (λ (z : Shown). AsksOf initial id c z.resets) (sym e) x

  beside_keeps : (a : Shown) (x : Beside) → (AsksOf initial id c a.resets → AsksOf initial id c x.0)
      → Keeps a (with_beside a x)
  beside_keeps a (r, m, told) f = f

  resetting_keeps : (a : Shown) (x : Resetting) → (AsksOf initial id c a.resets → AsksOf initial id c x.0)
      → Keeps a (with_resetting a x)
  resetting_keeps a (r, ch) f = f

  skipping_keeps : (stream : ℕ) (a : Shown) → Keeps a (skips_applied_of stream a)
  skipping_keeps stream a =
      beside_keeps a (skips_done_of stream a.resets a.streams a.events)
      (skipping_asks initial id c a.resets (skips.skips_applied_of (a.resets.generations, a.streams, a.events) stream))

  asking_keeps : (asking : Bool) (a : Shown) → Keeps a (asking_if asking a)
  asking_keeps true a = λ x. x
  asking_keeps false a = λ x. x

  stopping_keeps : (stops : Bool) (a : Shown) → Keeps a (stopped_if stops a)
  stopping_keeps true a = λ x. x
  stopping_keeps false a = λ x. x

  answer_keeps : (answer : Option Settled) (a : Shown) → Keeps a (with_answer answer a)
  answer_keeps None a = λ x. x
  answer_keeps (Some q) a = asking_keeps q.asks a

  -- A request of the peer is performed where it is due

  settled_with_keeps : (a : Shown) (x : Resetting × Option Settled)
      → (AsksOf initial id c a.resets → AsksOf initial id c x.0.0) → Keeps a (settled_with a x)
  settled_with_keeps a ((r, ch), answer) f =
      let b : Shown = with_resetting a (r, ch) in
      then_on a b (with_answer answer b) f (answer_keeps answer b)

  settled_keeps : (a : Shown) → Keeps a (settled a)
  unfolding settled
  settled_keeps a =
      let t = a.receiver.peer_last_tsn in
      let first = a.sender.queue.next_message_id in
      let limit = a.receiver.max_receive_message_size in
      let x = resets.settled t first limit a.resets (channels_of a) in
      let b : Shown = settled_with a x in
      then_on a b (with_beside b (skips_done b.resets b.streams b.events))
      (settled_with_keeps a x (settled_asks initial id c t first limit a.resets (channels_of a)))
      (beside_keeps b (skips_done b.resets b.streams b.events)
      (skipping_asks initial id c b.resets (skips.skips_applied (b.resets.generations, b.streams, b.events))))

  -- DATA

  found_keeps : (there left : Bool) (a : Shown) (stream : ℕ) → is_some (stream_at a.streams stream) ≡ there
      → generation_left a.streams ≡ left → Keeps a (stream_found a stream).0
  unfolding stream_found
  found_keeps true left a stream e f = rw e (λ x. x)
  found_keeps false true a stream e f = rw (e, f) (λ x. x)
  found_keeps false false a stream e f = rw (e, f) (λ x. x)

  told_keeps : (readable taken : Bool) (a : Shown) (stream : ℕ) → is_readable_in a.streams stream ≡ readable
      → Keeps a (told a stream taken)
  told_keeps true true a stream e = rw e (λ x. x)
  told_keeps false true a stream e = rw e (λ x. x)
  told_keeps readable false a stream e = λ x. x

  message_keeps : (a : Shown) (piece : ChunkPayloadData) (x : StreamMap × Bool) → Keeps a (with_message a piece x)
  message_keeps a piece (streams, taken) =
      let b : Shown = record a { streams = streams; receiver = taken_to a.receiver piece.tsn } in
      told_keeps (is_readable_in streams piece.stream_identifier) taken b piece.stream_identifier refl

  taken_unless_keeps : (refusal : Option Error) (a : Shown) (piece : ChunkPayloadData)
      → Keeps a (taken_unless refusal a piece).0
  taken_unless_keeps (Some fault) a piece = λ x. x
  taken_unless_keeps None a piece = message_keeps a piece (pushed_in a.streams piece.stream_identifier piece)

  left_keeps : (left : Bool) (a : Shown) (piece : ChunkPayloadData) → Keeps a (left_or_handed_over left a piece).0
  left_keeps true a piece = λ x. x
  left_keeps false a piece =
      taken_unless_keeps (refusal_in a.streams piece.stream_identifier piece a.receiver.max_receive_message_size) a
      piece

  taken_keeps : (a : Shown) (piece : ChunkPayloadData) → Keeps a (taken_in a piece).0
  unfolding taken_in
  taken_keeps a piece = left_keeps (goes_unread a piece) a piece

  then_skips_keeps : (x : Shown × Option Error) (stream : ℕ) → Keeps x.0 (then_skips x stream).0
  then_skips_keeps (a, None) stream = skipping_keeps stream a
  then_skips_keeps (a, Some fault) stream = λ x. x

  admitted_keeps : (credit : Bool) (a : Shown) (piece : ChunkPayloadData)
      → Keeps a
      (if◌then◌else◌ {A = Shown × Option Error} credit (then_skips (taken_in a piece) piece.stream_identifier)
      (a, None)).0
  admitted_keeps true a piece =
      then_on a (taken_in a piece).0 (then_skips (taken_in a piece) piece.stream_identifier).0 (taken_keeps a piece)
      (then_skips_keeps (taken_in a piece) piece.stream_identifier)
  admitted_keeps false a piece = λ x. x

  deferred_unless_keeps : (refusal : Option Error) (a : Shown) (piece : ChunkPayloadData)
      → Keeps a (deferred_unless refusal a piece).0
  deferred_unless_keeps (Some fault) a piece = λ x. x
  deferred_unless_keeps None a piece = λ x. x

  deferred_if_keeps : (credit : Bool) (refusal : Option Error) (a : Shown) (piece : ChunkPayloadData)
      → Keeps a (if◌then◌else◌ {A = Shown × Option Error} credit (deferred_unless refusal a piece) (a, None)).0
  deferred_if_keeps true refusal a piece = deferred_unless_keeps refusal a piece
  deferred_if_keeps false refusal a piece = λ x. x

  deferred_keeps : (a : Shown) (piece : ChunkPayloadData) → Keeps a (deferred_where_admitted a piece).0
  unfolding deferred_where_admitted
  deferred_keeps a piece =
      deferred_if_keeps (admits a.receiver piece.tsn (all_waiting a))
      (resets.refusal_of a.resets piece a.receiver.max_receive_message_size) a piece

  asks_keeps : (a : Shown) (immediate : Bool) (trigger : AckTrigger) → Keeps a (asks a immediate trigger).0
  asks_keeps a immediate trigger = same_keeps a _ (flow_same (is_exhausted a) a _ _)

  settled_asks_keeps : (a : Shown) (immediate : Bool) (trigger : AckTrigger)
      → Keeps a (asks (settled a) immediate trigger).0
  settled_asks_keeps a immediate trigger =
      then_on a (settled a) (asks (settled a) immediate trigger).0 (settled_keeps a)
      (asks_keeps (settled a) immediate trigger)

  faults_keep : (x : Shown × Option Error) (immediate : Bool) (trigger : AckTrigger)
      → Keeps x.0 (asks_or_faults x immediate trigger).0
  faults_keep (a, None) immediate trigger = settled_asks_keeps a immediate trigger
  faults_keep (a, Some fault) immediate trigger = λ x. x

  new_data_keeps : (x : Shown × Bool) (piece : ChunkPayloadData) (trigger : AckTrigger)
      → Keeps x.0 (on_new_data x piece trigger).0
  new_data_keeps (a, false) piece trigger = λ x. x
  new_data_keeps (a, true) piece trigger =
      then_on a (taken_where_admitted a piece).0
      (asks_or_faults (taken_where_admitted a piece) piece.immediate_sack trigger).0
      (admitted_keeps (admits a.receiver piece.tsn (all_waiting a)) a piece)
      (faults_keep (taken_where_admitted a piece) piece.immediate_sack trigger)

  counted_data_keeps : (next hidden : Bool) (a : Shown) (piece : ChunkPayloadData) (trigger : AckTrigger)
      → Keeps a
      (if not next then asks (settled a) piece.immediate_sack trigger else
      if hidden then asks_or_faults (deferred_where_admitted a piece) piece.immediate_sack trigger else
      on_new_data (stream_found a piece.stream_identifier) piece trigger).0
  counted_data_keeps false hidden a piece trigger = settled_asks_keeps a piece.immediate_sack trigger
  counted_data_keeps true true a piece trigger =
      then_on a (deferred_where_admitted a piece).0
      (asks_or_faults (deferred_where_admitted a piece) piece.immediate_sack trigger).0 (deferred_keeps a piece)
      (faults_keep (deferred_where_admitted a piece) piece.immediate_sack trigger)
  counted_data_keeps true false a piece trigger =
      let x = stream_found a piece.stream_identifier in
      then_on a x.0 (on_new_data x piece trigger).0
      (found_keeps (is_some (stream_at a.streams piece.stream_identifier)) (generation_left a.streams) a
      piece.stream_identifier refl refl)
      (new_data_keeps x piece trigger)

  data_keeps : (a : Shown) (piece : ChunkPayloadData) (trigger : AckTrigger) → Keeps a (on_data a piece trigger).0
  unfolding on_data
  data_keeps a piece trigger =
      let b : Shown = counted_data a in
      counted_data_keeps (is_new_to b.receiver piece.tsn)
      (resets.is_hidden b.resets piece.stream_identifier piece.tsn) b piece trigger

  -- SACK

  outcome_keeps : (o : SackOutcome) (a : Shown) (cumulative_tsn_ack : ℕ) (blocks : List GapAckBlock) (window : ℕ)
      (trigger : AckTrigger) (now : ℕ)
      → Keeps a (on_counted_sack o a cumulative_tsn_ack blocks window trigger now).0
  outcome_keeps outcomes.Older a cumulative_tsn_ack blocks window trigger now = λ x. x
  outcome_keeps outcomes.NotInFlight a cumulative_tsn_ack blocks window trigger now = λ x. x
  outcome_keeps outcomes.NamesTheUnsent a cumulative_tsn_ack blocks window trigger now = λ x. x
  outcome_keeps outcomes.Taken a cumulative_tsn_ack blocks window trigger now =
      probes_keep (λ (b : Shown). Keeps a b) (λ b f. f) (λ b f. f) (is_probing a.profile a.sender) window
      (shutdown_continued (after_sack a cumulative_tsn_ack blocks window now)) (λ x. x)

  sack_keeps : (sends : Bool) (a : Shown) (cumulative_tsn_ack : ℕ) (blocks : List GapAckBlock) (window : ℕ)
      (trigger : AckTrigger) (now : ℕ) → sends_data a.state ≡ sends
      → Keeps a (on_sack a cumulative_tsn_ack blocks window trigger now).0
  unfolding on_sack
  sack_keeps true a cumulative_tsn_ack blocks window trigger now e =
      rw e (outcome_keeps (sack_outcome a.sender cumulative_tsn_ack blocks) (counted_sack a) cumulative_tsn_ack blocks
      window trigger now)
  sack_keeps false a cumulative_tsn_ack blocks window trigger now e = rw e (λ x. x)

  -- FORWARD TSN

  -- the streams on which it skips are found or made
  founds_keep : (t : ℕ) (es : List SkippedStream) (a : Shown) → Keeps a (found_for t es a)
  founds_keep t es a =
      found_for_keeps (λ (b : Shown). AsksOf initial id c b.resets)
      (λ (b : Shown) (stream : ℕ).
      found_keeps (is_some (stream_at b.streams stream)) (generation_left b.streams) b stream refl refl) t es a

  skip_keeps : (retires : Bool) (t stream ssn : ℕ) (a : Shown) → resets.is_retiring a.resets stream ≡ retires
      → Keeps a (with_skip t stream ssn a)
  unfolding with_skip
  skip_keeps true t stream ssn a e = rw e (λ x. x)
  skip_keeps false t stream ssn a e = rw e (λ x. x)

  skips_keep : (t : ℕ) (es : List SkippedStream) (a : Shown) → Keeps a (with_skips t es a)
  skips_keep t [] a = λ x. x
  skips_keep t (e ∷ es) a =
      let b : Shown = with_skip t e.stream_identifier e.stream_sequence_number a in
      then_on a b (with_skips t es b)
      (skip_keeps (resets.is_retiring a.resets e.stream_identifier) t e.stream_identifier e.stream_sequence_number a
      refl)
      (skips_keep t es b)

  ahead_keeps : (a : Shown) (t : ℕ) (es : List SkippedStream) (trigger : AckTrigger)
      → Keeps a (asks_behind (settled (with_passed (with_skips t es a) t)) trigger).0
  ahead_keeps a t es trigger =
      let b : Shown = with_skips t es a in
      let d : Shown = with_passed b t in
      let settles : Keeps b (settled d) = settled_keeps d in
      then_on a (settled d) (asks_behind (settled d) trigger).0
      (then_on a b (settled d) (skips_keep t es a) settles)
      (same_keeps (settled d) _ (flow_same (is_exhausted (settled d)) (settled d) _ _))

  forward_keeps : (a : Shown) (t : ℕ) (es : List SkippedStream) (trigger : AckTrigger) (now : ℕ)
      → Keeps a (on_forward a t es trigger now).0
  forward_keeps a t es trigger now =
      forward_is_one_of t es (λ b x. Keeps b x.0) trigger now (λ b e x. x) (λ b e f x. x)
      (λ b e f. ahead_keeps b t es trigger) (λ b x f. then_on b (found_for t es b) x.0 (founds_keep t es b) f) a

  -- The handshake

  init_keeps : (begins keeps : Bool) (a : Shown) (header : CommonHeader) (init : ChunkInit) (trigger : AckTrigger)
      → is_beginning a.state ≡ begins → keeps_peer a init ≡ keeps → Keeps a (on_init a header init trigger).0
  unfolding on_init
  init_keeps true true a header init trigger e k = rw (e, k) (λ x. x)
  init_keeps true false a header init trigger e k = rw (e, k) (λ x. x)
  init_keeps false keeps a header init trigger e k = rw e (λ x. x)

  queued_keeps : (o : Option (List ℕ)) (a : Shown) → Keeps a (cookie_queued o a)
  queued_keeps None a = λ x. x
  queued_keeps (Some cookie) a = λ x. x

  cookie_keeps : (a : Shown) (now : ℕ) → Keeps a (sends_cookie a now)
  unfolding sends_cookie
  cookie_keeps a now = queued_keeps a.handshake.echo a

  echoed_keeps : (cookie : Option (List ℕ)) (a : Shown) (trigger : AckTrigger) (now : ℕ)
      → Keeps a (echoed cookie a trigger now).0
  echoed_keeps None a trigger now = λ x. x
  echoed_keeps (Some cookie) a trigger now =
      let b : Shown = record a {
        handshake = (let h = a.handshake in record h { echo = Some cookie });
        state = states.CookieEchoed;
      } in
      cookie_keeps b now

  init_ack_if : (waits back : Bool) (a : Shown) (header : CommonHeader) (init : ChunkInit) (trigger : AckTrigger)
      (now : ℕ)
      → Keeps a
      (if waits then
      (if back then echoed (first_cookie init.params) (learned_back a header init) trigger now
      else (record a { handshake = learned_by_init_ack a.handshake header init }, flows.Next trigger))
      else (a, flows.Next trigger)).0
  init_ack_if false back a header init trigger now = λ x. x
  init_ack_if true false a header init trigger now = λ x. x
  init_ack_if true true a header init trigger now =
      echoed_keeps (first_cookie init.params) (learned_back a header init) trigger now

  init_ack_keeps : (a : Shown) (header : CommonHeader) (init : ChunkInit) (trigger : AckTrigger) (now : ℕ)
      → Keeps a (on_init_ack a header init trigger now).0
  unfolding on_init_ack
  init_ack_keeps a header init trigger now =
      init_ack_if (is_cookie_wait a.state) (comes_back a.handshake header) a header init trigger now

  cookie_echo_keeps : (issued begins again : Bool) (a : Shown) (cookie : List ℕ) (trigger : AckTrigger)
      → has_issued a.handshake cookie ≡ issued → is_beginning a.state ≡ begins → acknowledges_again a ≡ again
      → Keeps a (on_cookie_echo a cookie trigger).0
  unfolding on_cookie_echo
  cookie_echo_keeps false begins again a cookie trigger e f g = rw e (λ x. x)
  cookie_echo_keeps true true again a cookie trigger e f g = rw (e, f) (λ x. x)
  cookie_echo_keeps true false true a cookie trigger e f g = rw (e, f, g) (λ x. x)
  cookie_echo_keeps true false false a cookie trigger e f g = rw (e, f, g) (λ x. x)

  cookie_ack_keeps : (echoes : Bool) (a : Shown) (trigger : AckTrigger) → is_cookie_echoed a.state ≡ echoes
      → Keeps a (on_cookie_ack a trigger).0
  unfolding on_cookie_ack
  cookie_ack_keeps true a trigger e = rw e (λ x. x)
  cookie_ack_keeps false a trigger e = rw e (λ x. x)

  information_keeps : (o : Option (List ℕ)) (a : Shown) → Keeps a (information_returned o a)
  information_keeps None a = λ x. x
  information_keeps (Some information) a = λ x. x

  heartbeat_keeps : (a : Shown) (heartbeat : ChunkHeartbeat) (trigger : AckTrigger)
      → Keeps a (on_heartbeat a heartbeat trigger).0
  unfolding on_heartbeat
  heartbeat_keeps a heartbeat trigger = information_keeps (information_of heartbeat.params) a

  -- RE-CONFIG

  handled_keeps : (a : Shown) (number : ℕ) (x : Resetting × Handled)
      → (AsksOf initial id c a.resets → AsksOf initial id c x.0.0) → Keeps a (handled_with a number x)
  handled_keeps a number ((r, ch), h) f =
      let b : Shown = with_resetting a (r, ch) in
      let stopped : Shown = stopped_if h.confirms b in
      then_on a b (asking_if h.asks stopped) f
      (then_on b stopped (asking_if h.asks stopped) (stopping_keeps h.confirms b) (asking_keeps h.asks stopped))

  responded_keeps : (a : Shown) (x : Beside × TimerChange)
      → (AsksOf initial id c a.resets → AsksOf initial id c x.0.0) → Keeps a (responded_with a x)
  responded_keeps a ((r, m, told), change) f = f

  module _ (known : c.performed ≤ length c.asked) (few : length c.asked < 2 ^ 31) where
    request_keeps : (a : Shown) (param : ParamOutgoingResetRequest)
        → (0 < length param.stream_identifiers) × AreIdentifiers param.stream_identifiers
        → IsOfPerformed initial c param.reconfig_response_sequence_number → Keeps a (on_request a param)
    unfolding on_request
    request_keeps a param some p =
        let t = a.receiver.peer_last_tsn in
        let first = a.sender.queue.next_message_id in
        let limit = a.receiver.max_receive_message_size in
        handled_keeps a param.reconfig_request_sequence_number
        (handled param t first limit a.resets (channels_of a))
        (handled_asks initial id c known few param t first limit a.resets (channels_of a) some.0 some.1 p)

    response_keeps : (a : Shown) (response : ParamReconfigResponse)
        → (outcome_of response.result ≡ Some (Ok tt)
        → IsOfPerformed initial c response.reconfig_response_sequence_number)
        → Keeps a (on_response a response)
    unfolding on_response
    response_keeps a response says =
        responded_keeps a (responded response a.resets a.streams a.events)
        (responded_asks initial id c known few response a.resets a.streams a.events says)

    param_keeps : (param : Param) (a : Shown) → ParamNames param → ParamIsTrue initial c param
        → Keeps a (after_param param a).0
    param_keeps (params.OutgoingResetRequest request) a some p = request_keeps a request some p
    param_keeps (params.ReconfigResponse response) a some p = response_keeps a response p
    param_keeps (params.HeartbeatInfo value) a some p = λ x. x
    param_keeps (params.StateCookie value) a some p = λ x. x
    param_keeps (params.SupportedExtensions value) a some p = λ x. x
    param_keeps (params.Other kind value) a some p = λ x. x

    second_keeps : (x : Shown × Bool) (trigger : AckTrigger) → Keeps x.0 (behind_params x trigger).0
    second_keeps (a, true) trigger = λ x. x
    second_keeps (a, false) trigger = λ x. x

    first_keeps : (y : Shown × Bool) (second : Option Param) (trigger : AckTrigger) → ParamNamesIf second
        → ParamIsTrueIf initial c second → Keeps y.0 (behind_first y second trigger).0
    first_keeps (a, true) None trigger some p = λ x. x
    first_keeps (a, true) (Some second) trigger some p =
        then_on a (after_param second a).0 (behind_params (after_param second a) trigger).0
        (param_keeps second a some p) (second_keeps (after_param second a) trigger)
    first_keeps (a, false) second trigger some p = λ x. x

    reconfig_keeps : (a : Shown) (reconfig : ChunkReconfig) (trigger : AckTrigger)
        → ParamNames reconfig.first × ParamNamesIf reconfig.second
        → ParamIsTrue initial c reconfig.first × ParamIsTrueIf initial c reconfig.second
        → Keeps a (on_reconfig a reconfig trigger).0
    unfolding on_reconfig
    reconfig_keeps a reconfig trigger some p =
        let y = after_param reconfig.first a in
        then_on a y.0 (behind_first y reconfig.second trigger).0 (param_keeps reconfig.first a some.0 p.0)
        (first_keeps y reconfig.second trigger some.1 p.1)

    -- Any chunk

    kind_keeps : (header : CommonHeader) (chunk : Chunk) (a : Shown) (trigger : AckTrigger) (now : ℕ)
        → ChunkNames chunk → ChunkIsTrue initial c chunk → Keeps a (dispatched a header chunk trigger now).0
    kind_keeps header (chunks.Data piece) a trigger now some p = data_keeps a piece _
    kind_keeps header (chunks.SelectiveAck k) a trigger now some p =
        sack_keeps (sends_data a.state) a k.cumulative_tsn_ack k.gap_ack_blocks k.advertised_receiver_window_credit
        trigger now refl
    kind_keeps header (chunks.Init y) a trigger now some p =
        init_keeps (is_beginning a.state) (keeps_peer a y) a header y trigger refl refl
    kind_keeps header (chunks.InitAck y) a trigger now some p = init_ack_keeps a header y trigger now
    kind_keeps header (chunks.Heartbeat y) a trigger now some p = heartbeat_keeps a y trigger
    kind_keeps header (chunks.HeartbeatAck y) a trigger now some p = λ x. x
    kind_keeps header (chunks.Abort y) a trigger now some p = λ x. x
    kind_keeps header (chunks.Shutdown y) a trigger now some p = λ x. x
    kind_keeps header chunks.ShutdownAck a trigger now some p = λ x. x
    kind_keeps header (chunks.Error y) a trigger now some p = λ x. x
    kind_keeps header (chunks.CookieEcho y) a trigger now some p =
        cookie_echo_keeps (has_issued a.handshake y) (is_beginning a.state) (acknowledges_again a) a y trigger refl
        refl refl
    kind_keeps header chunks.CookieAck a trigger now some p =
        cookie_ack_keeps (is_cookie_echoed a.state) a trigger refl
    kind_keeps header chunks.ShutdownComplete a trigger now some p = λ x. x
    kind_keeps header (chunks.Reconfig y) a trigger now some p = reconfig_keeps a y trigger some p
    kind_keeps header (chunks.ForwardTsn y) a trigger now some p =
        forward_keeps a y.new_cumulative_tsn y.streams trigger now
    kind_keeps header (chunks.IForwardTsn y) a trigger now some p =
        forward_keeps a y.new_cumulative_tsn (skips_of y.entries) trigger now
    kind_keeps header (chunks.Other kind flags value) a trigger now some p = λ x. x

    checked_keeps : (r : Result (Unit {0}) Error) (header : CommonHeader) (chunk : Chunk) (a : Shown)
        (trigger : AckTrigger) (now : ℕ) → ChunkNames chunk → ChunkIsTrue initial c chunk
        → Keeps a (checked_first r a header chunk trigger now).0
    checked_keeps (Err fault) header chunk a trigger now some p = λ x. x
    checked_keeps (Ok done) header chunk a trigger now some p = kind_keeps header chunk a trigger now some p

    chunk_asks : (header : CommonHeader) (chunk : Chunk) (a : Shown) (trigger : AckTrigger) (now : ℕ)
        → ChunkNames chunk → ChunkIsTrue initial c chunk → Keeps a (on_chunk a header chunk trigger now).0
    unfolding on_chunk
    chunk_asks header chunk a trigger now some p =
        checked_keeps (checked_chunk chunk) header chunk a trigger now some p

-- What a side sends of a stream stays its course over each chunk that comes, on the history to which that leads.
pub chunk_keeps_sending : (initial id : ℕ) (a : Shown) (header : CommonHeader) (chunk : Chunk) (trigger : AckTrigger)
    (now : ℕ) (h k : History) (c : Course)
    → Invariant c → length c.asked < 2 ^ 31 → ChunkIsTrue initial c chunk → ChunkNames chunk
    → Leads (acts_of_chunk a header chunk) a h (on_chunk a header chunk trigger now).0 k
    → Sends initial id a h c → Sends initial id (on_chunk a header chunk trigger now).0 k c
chunk_keeps_sending initial id a header chunk trigger now h k c kept few says some leads s =
    let acts : List Act = acts_of_chunk a header chunk in
    let b : Shown = (on_chunk a header chunk trigger now).0 in
    let heard = chunk_is_heard a header chunk in
    sends_from initial id b k c s.small
    (heard_own acts (parts a h) (parts b k) heard leads.can leads.there ∙ s.own)
    (heard_flown acts (parts a h) (parts b k) heard leads.can leads.there id c (flown_of initial id a h c s))
    (λ reset.
    ap (λ (p : Parts). has_stream p.queue id) leads.there
    ∙ acts_add_none acts (parts a h) id (chunk_writes_nothing a header chunk) (quiet_of initial id a h c s reset))
    (chunk_asks initial id c kept.asks.known few header chunk a trigger now some says (asks_of initial id a h c s))
