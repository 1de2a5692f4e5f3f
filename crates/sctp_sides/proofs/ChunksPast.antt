-- Whatever chunk comes, resets go on to concern streams past their span alone, if a RE-CONFIG names no other stream.
use Rattle.std.proofs.Common.{◌≡◌, refl, sym, ap, subst, ℕ, Bool, true, false, if◌then◌else◌, not, List, [], ◌∷◌}
use Rattle.std.proofs.Common.{Option, Some, None, is_some, Result, Ok, Err}
use Rattle.std.specs.List.{AllByRecursion}
use Rattle.sctp_wire_types.specs.declared.chunk.Chunk.{Chunk}
use Rattle.sctp_wire_types.specs.declared.chunk.Chunk.TheVariants as chunks
use Rattle.sctp_wire_types.specs.declared.chunk.ChunkHeartbeat.{ChunkHeartbeat}
use Rattle.sctp_wire_types.specs.declared.chunk.ChunkInit.{ChunkInit}
use Rattle.sctp_wire_types.specs.declared.chunk.ChunkPayloadData.{ChunkPayloadData}
use Rattle.sctp_wire_types.specs.declared.chunk.ChunkReconfig.{ChunkReconfig}
use Rattle.sctp_wire_types.specs.declared.chunk.GapAckBlock.{GapAckBlock}
use Rattle.sctp_wire_types.specs.declared.chunk.SkippedStream.{SkippedStream}
use Rattle.sctp_wire_types.specs.declared.error.Error.{Error}
use Rattle.sctp_wire_types.specs.declared.packet.CommonHeader.{CommonHeader}
use Rattle.sctp_wire_types.specs.declared.param.Param.{Param}
use Rattle.sctp_wire_types.specs.declared.param.Param.TheVariants as params
use Rattle.sctp_wire_types.specs.declared.param.ParamOutgoingResetRequest.{ParamOutgoingResetRequest}
use Rattle.sctp_wire_types.specs.declared.param.ParamReconfigResponse.{ParamReconfigResponse}
use Rattle.sctp_wire_types.specs.declared.param.ReconfigResult.{ReconfigResult}
use Rattle.sctp_wire_types.specs.Checks.{checked_chunk}
use Rattle.sctp_parts.specs.Estimate.{Estimate}
use Rattle.sctp_streams.specs.Streams.{StreamMap, generation_left, is_readable_in, pushed_in, refusal_in, stream_at}
use Rattle.sctp_inbound.specs.declared.receiver.AckTrigger.{AckTrigger}
use Rattle.sctp_inbound.specs.Greeting.{first_cookie, information_of}
use Rattle.sctp_inbound.specs.Handshake.{comes_back, has_issued, learned_by_init, learned_by_init_ack}
use Rattle.sctp_inbound.specs.Receiver.{admits, is_new_to, taken_to}
use Rattle.sctp_outbound.specs.declared.progress.Progress.{Progress}
use Rattle.sctp_outbound.specs.declared.sender.SackOutcome.{SackOutcome}
use Rattle.sctp_outbound.specs.declared.sender.SackOutcome.TheVariants as outcomes
use Rattle.sctp_outbound.specs.declared.sender.Sender.{Sender}
use Rattle.sctp_outbound.specs.Sacks.{progress_of, sack_taken}
use Rattle.sctp_outbound.specs.Sender.{sack_outcome}
use Rattle.sctp_resets.specs.declared.answers.TimerChange.{TimerChange}
use Rattle.sctp_resets.specs.declared.performing.Handled.{Handled}
use Rattle.sctp_resets.specs.declared.performing.Settled.{Settled}
use Rattle.sctp_resets.specs.Resets as resets
use Rattle.sctp_resets.specs.Resets.{Beside, Resetting, handled, is_hidden, is_retiring, refusal_of, responded}
use Rattle.sctp_resets.specs.Resets.{skips_done, skips_done_of}
use Rattle.sctp_resets.specs.Within.{ParamOver, ResetsOver}
use Rattle.sctp_resets.proofs.KeptOver.{deferred_over, handled_over, hidden_is_over, met_over, responded_over}
use Rattle.sctp_resets.proofs.KeptOver.{retiring_is_over, settled_over, skip_over, skips_done_of_over, skips_done_over}
use Rattle.sctp_resets.proofs.KeptOver.{unordered_over}
use Rattle.sctp_assoc.specs.declared.inbound.Flow.{Flow}
use Rattle.sctp_assoc.specs.declared.inbound.Flow.TheVariants as flows
use Rattle.sctp_assoc.specs.Calls.{is_beginning, is_cookie_echoed, is_cookie_wait, sends_data}
use Rattle.sctp_assoc.specs.Shutdown.{shutdown_again, shutdown_answered, shutdown_continued, shutdown_taken}
use Rattle.sctp_assoc.specs.Chunks.{after_sack, asks, asks_or_faults, checked_first, counted_data, counted_sack}
use Rattle.sctp_assoc.specs.Chunks.{deferred, goes_unread, left_or_handed_over}
use Rattle.sctp_assoc.specs.Chunks.{deferred_unless, deferred_where_admitted, dispatched, on_chunk, on_counted_sack}
use Rattle.sctp_assoc.specs.Chunks.{on_data, on_new_data, on_sack, taken_in, taken_unless}
use Rattle.sctp_assoc.specs.Chunks.{taken_where_admitted, then_skips, told, with_acknowledged, with_message}
use Rattle.sctp_assoc.specs.Closing.{is_exhausted}
use Rattle.sctp_assoc.specs.Control.{asking, queued}
use Rattle.sctp_assoc.specs.Finding.{found_for, stream_found}
use Rattle.sctp_assoc.specs.Handshake.{acknowledges_again, connected, cookie_queued, echoed, information_returned}
use Rattle.sctp_assoc.specs.Handshake.{keeps_peer, learned, learned_back, learned_unless, on_cookie_ack}
use Rattle.sctp_assoc.specs.Handshake.{on_cookie_echo, on_heartbeat, on_init, on_init_ack, sends_cookie}
use Rattle.sctp_assoc.specs.Probes.{is_probing}
use Rattle.sctp_assoc.specs.Resets.{after_param, asking_if, behind_first, behind_params, channels_of, handled_with}
use Rattle.sctp_assoc.specs.Resets.{on_reconfig, on_request, on_response, responded_with, responding, settled}
use Rattle.sctp_assoc.specs.Resets.{settled_with, skips_applied, skips_applied_of, stopped_if, with_answer, with_beside}
use Rattle.sctp_assoc.specs.Resets.{with_resetting}
use Rattle.sctp_assoc.specs.Shown.{Shown, all_waiting}
use Rattle.sctp_assoc.specs.Skipping.{acknowledged_at_once, asks_behind, on_forward, skips_of, with_passed, with_skip}
use Rattle.sctp_assoc.specs.Skipping.{with_skips}
use Rattle.sctp_assoc.proofs.Probes.{probes_keep}
use Rattle.sctp_assoc.proofs.StreamsFound.{found_for_is}
use Rattle.sctp_sides.specs.PastSpan.{ChunksResetNoMore, ParamIsPast, ParamIsPastIf, ResetsPastIfAny, WaitsPast}
use Rattle.sctp_sides.proofs.ForwardKinds.{forward_is_one_of}
use Rattle.sctp_sides.proofs.PastOnly.{one_more_is_past}

-- A step that leads from one association to another has resets, and what waits to go out, concern no more streams than
-- are past their span.
pub record KeepsPast (over : ℕ → Bool) (a b : Shown) : Type 0 where
  pub resets : ResetsOver over a.resets → ResetsOver over b.resets
  pub control : AllByRecursion (WaitsPast over) a.control → AllByRecursion (WaitsPast over) b.control

-- what asks to be acknowledged leaves the association as it is
flow_same : (e : Bool) (a : Shown) (f g : Flow) → (if◌then◌else◌ {A = Shown × Flow} e (a, f) (a, g)).0 ≡ a
flow_same true a f g = refl
flow_same false a f g = refl

-- DATA that is new or not, and of a generation that is not read yet or not
abbrev data_if : Bool → Bool → Shown → ChunkPayloadData → AckTrigger → Shown × Flow
data_if next hidden a piece trigger =
    if not next then asks (settled a) piece.immediate_sack trigger else
    if hidden then asks_or_faults (deferred_where_admitted a piece) piece.immediate_sack trigger else
    on_new_data (stream_found a piece.stream_identifier) piece trigger

-- The streams that are past their span.
module _ (over : ℕ → Bool) where
  -- Steps in general

  -- no step, and two steps
  stays : (a : Shown) → KeepsPast over a a
  stays a = record { resets = λ h. h; control = λ w. w }

  then_keeps : {a b c : Shown} → KeepsPast over a b → KeepsPast over b c → KeepsPast over a c
  then_keeps first second = record {
    resets = λ h. second.resets (first.resets h);
    control = λ w. second.control (first.control w);
  }

  -- to the same association
  same_side : (a b : Shown) → b ≡ a → KeepsPast over a b
  same_side a b e = subst (KeepsPast over a) (sym e) (stays a)

  -- only resets and what waits to go out count
  keeps_same : (a b : Shown) → b.resets ≡ a.resets → b.control ≡ a.control → KeepsPast over a b
  keeps_same a b same_resets same_control = record {
    resets = λ h. subst (ResetsOver over) (sym same_resets) h;
    control = λ w. subst (AllByRecursion (WaitsPast over)) (sym same_control) w;
  }

  -- resets that concern no more streams
  keeps_resets : (a b : Shown) → (ResetsOver over a.resets → ResetsOver over b.resets) → b.control ≡ a.control
      → KeepsPast over a b
  keeps_resets a b still same_control = record {
    resets = still;
    control = λ w. subst (AllByRecursion (WaitsPast over)) (sym same_control) w;
  }

  -- one packet more waits, or the place of a request
  keeps_queued : (a : Shown) (chunk : Chunk) → ResetsPastIfAny over chunk → KeepsPast over a (queued a chunk)
  keeps_queued a chunk past = record {
    resets = λ h. h;
    control = λ w. one_more_is_past over a.control _ past w;
  }

  keeps_asking : (a : Shown) → KeepsPast over a (asking a)
  keeps_asking a = record { resets = λ h. h; control = λ w. one_more_is_past over a.control _ tt w }

  asking_if_keeps : (asks_for : Bool) (a : Shown) → KeepsPast over a (asking_if asks_for a)
  asking_if_keeps true a = keeps_asking a
  asking_if_keeps false a = stays a

  responding_keeps : (a : Shown) (number : ℕ) (result : ReconfigResult)
      → KeepsPast over a (responding a number result)
  responding_keeps a number result = keeps_queued a _ (tt, tt)

  -- Skips that were kept are applied

  beside_keeps : (a : Shown) (x : Beside) → (ResetsOver over a.resets → ResetsOver over x.0)
      → KeepsPast over a (with_beside a x)
  beside_keeps a (r, m, list) still = keeps_resets a (with_beside a (r, m, list)) still refl

  pub skips_applied_of_keep : (id : ℕ) (a : Shown) → KeepsPast over a (skips_applied_of id a)
  skips_applied_of_keep id a =
      beside_keeps a (skips_done_of id a.resets a.streams a.events)
      (skips_done_of_over over id a.resets a.streams a.events)

  pub skips_applied_keep : (a : Shown) → KeepsPast over a (skips_applied a)
  skips_applied_keep a =
      beside_keeps a (skips_done a.resets a.streams a.events) (skips_done_over over a.resets a.streams a.events)

  -- A request of the peer that waited is performed

  resetting_keeps : (a : Shown) (s : Resetting) → (ResetsOver over a.resets → ResetsOver over s.0)
      → KeepsPast over a (with_resetting a s)
  resetting_keeps a (r, c) still = keeps_resets a (with_resetting a (r, c)) still refl

  answer_keeps : (answer : Option Settled) (a : Shown) → KeepsPast over a (with_answer answer a)
  answer_keeps None a = stays a
  answer_keeps (Some q) a = then_keeps (asking_if_keeps q.asks a) (responding_keeps (asking_if q.asks a) q.number _)

  settled_with_keeps : (a : Shown) (x : Resetting × Option Settled) → (ResetsOver over a.resets → ResetsOver over x.0.0)
      → KeepsPast over a (settled_with a x)
  settled_with_keeps a (s, answer) still =
      then_keeps (resetting_keeps a s still) (answer_keeps answer (with_resetting a s))

  pub settled_keeps : (a : Shown) → KeepsPast over a (settled a)
  unfolding settled
  settled_keeps a =
      let x : Resetting × Option Settled =
      resets.settled a.receiver.peer_last_tsn a.sender.queue.next_message_id a.receiver.max_receive_message_size
      a.resets (channels_of a) in
      then_keeps
      (settled_with_keeps a x
      (settled_over over a.receiver.peer_last_tsn a.sender.queue.next_message_id a.receiver.max_receive_message_size
      a.resets (channels_of a)))
      (skips_applied_keep (settled_with a x))

  -- DATA

  found_keeps_if : (there left : Bool) (a : Shown) (id : ℕ) → is_some (stream_at a.streams id) ≡ there
      → generation_left a.streams ≡ left → KeepsPast over a (stream_found a id).0
  unfolding stream_found
  found_keeps_if true left a id e f = rw e (stays a)
  found_keeps_if false true a id e f = rw (e, f) (keeps_same a _ refl refl)
  found_keeps_if false false a id e f = rw (e, f) (stays a)

  pub stream_found_keeps : (a : Shown) (id : ℕ) → KeepsPast over a (stream_found a id).0
  stream_found_keeps a id =
      found_keeps_if (is_some (stream_at a.streams id)) (generation_left a.streams) a id refl refl

  told_keeps : (readable kept : Bool) (a : Shown) (id : ℕ) → is_readable_in a.streams id ≡ readable
      → KeepsPast over a (told a id kept)
  told_keeps true true a id e = rw e (keeps_same a _ refl refl)
  told_keeps false true a id e = rw e (keeps_same a _ refl refl)
  told_keeps readable false a id e = keeps_same a _ refl refl

  message_keeps : (a : Shown) (piece : ChunkPayloadData) (x : StreamMap × Bool)
      → KeepsPast over a (with_message a piece x)
  message_keeps a piece (streams, kept) =
      let b : Shown = record a { streams = streams; receiver = taken_to a.receiver piece.tsn } in
      then_keeps (keeps_same a b refl refl)
      (told_keeps (is_readable_in streams piece.stream_identifier) kept b piece.stream_identifier refl)

  taken_unless_keeps : (refusal : Option Error) (a : Shown) (piece : ChunkPayloadData)
      → KeepsPast over a (taken_unless refusal a piece).0
  taken_unless_keeps (Some fault) a piece = stays a
  taken_unless_keeps None a piece = message_keeps a piece (pushed_in a.streams piece.stream_identifier piece)

  left_keeps : (left : Bool) (a : Shown) (piece : ChunkPayloadData)
      → KeepsPast over a (left_or_handed_over left a piece).0
  left_keeps true a piece = keeps_same a _ refl refl
  left_keeps false a piece =
      taken_unless_keeps (refusal_in a.streams piece.stream_identifier piece a.receiver.max_receive_message_size) a
      piece

  pub taken_in_keeps : (a : Shown) (piece : ChunkPayloadData) → KeepsPast over a (taken_in a piece).0
  unfolding taken_in
  taken_in_keeps a piece = left_keeps (goes_unread a piece) a piece

  then_skips_keep : (x : Shown × Option Error) (id : ℕ) → KeepsPast over x.0 (then_skips x id).0
  then_skips_keep (a, None) id = skips_applied_of_keep id a
  then_skips_keep (a, Some fault) id = stays a

  admitted_keeps : (credit : Bool) (a : Shown) (piece : ChunkPayloadData)
      → KeepsPast over a (if credit then then_skips (taken_in a piece) piece.stream_identifier else (a, None)).0
  admitted_keeps true a piece =
      then_keeps (taken_in_keeps a piece) (then_skips_keep (taken_in a piece) piece.stream_identifier)
  admitted_keeps false a piece = stays a

  pub taken_where_admitted_keeps : (a : Shown) (piece : ChunkPayloadData)
      → KeepsPast over a (taken_where_admitted a piece).0
  taken_where_admitted_keeps a piece = admitted_keeps (admits a.receiver piece.tsn (all_waiting a)) a piece

  -- DATA of a stream past its span is kept for a generation that is not read yet

  deferred_unless_keeps : (refusal : Option Error) (a : Shown) (piece : ChunkPayloadData)
      → (ResetsOver over a.resets → over piece.stream_identifier ≡ true)
      → KeepsPast over a (deferred_unless refusal a piece).0
  deferred_unless_keeps (Some fault) a piece past = stays a
  deferred_unless_keeps None a piece past =
      keeps_resets a _ (λ h. deferred_over over a.resets piece (past h) h) refl

  pub deferred_keeps : (a : Shown) (piece : ChunkPayloadData)
      → (ResetsOver over a.resets → over piece.stream_identifier ≡ true) → KeepsPast over a (deferred a piece).0
  deferred_keeps a piece past =
      deferred_unless_keeps (refusal_of a.resets piece a.receiver.max_receive_message_size) a piece past

  deferred_keeps_if : (credit : Bool) (a : Shown) (piece : ChunkPayloadData)
      → (ResetsOver over a.resets → over piece.stream_identifier ≡ true)
      → admits a.receiver piece.tsn (all_waiting a) ≡ credit → KeepsPast over a (deferred_where_admitted a piece).0
  unfolding deferred_where_admitted
  deferred_keeps_if true a piece past e = rw e (deferred_keeps a piece past)
  deferred_keeps_if false a piece past e = rw e (stays a)

  pub deferred_where_admitted_keeps : (a : Shown) (piece : ChunkPayloadData)
      → (ResetsOver over a.resets → over piece.stream_identifier ≡ true)
      → KeepsPast over a (deferred_where_admitted a piece).0
  deferred_where_admitted_keeps a piece past =
      deferred_keeps_if (admits a.receiver piece.tsn (all_waiting a)) a piece past refl

  asks_keeps : (a : Shown) (immediate : Bool) (trigger : AckTrigger) → KeepsPast over a (asks a immediate trigger).0
  asks_keeps a immediate trigger = same_side a _ (flow_same (is_exhausted a) a _ _)

  settled_asks_keeps : (a : Shown) (immediate : Bool) (trigger : AckTrigger)
      → KeepsPast over a (asks (settled a) immediate trigger).0
  settled_asks_keeps a immediate trigger = then_keeps (settled_keeps a) (asks_keeps (settled a) immediate trigger)

  asks_or_faults_keeps : (x : Shown × Option Error) (immediate : Bool) (trigger : AckTrigger)
      → KeepsPast over x.0 (asks_or_faults x immediate trigger).0
  asks_or_faults_keeps (a, None) immediate trigger = settled_asks_keeps a immediate trigger
  asks_or_faults_keeps (a, Some fault) immediate trigger = stays a

  new_data_keeps : (x : Shown × Bool) (piece : ChunkPayloadData) (trigger : AckTrigger)
      → KeepsPast over x.0 (on_new_data x piece trigger).0
  new_data_keeps (a, false) piece trigger = stays a
  new_data_keeps (a, true) piece trigger =
      then_keeps (taken_where_admitted_keeps a piece)
      (asks_or_faults_keeps (taken_where_admitted a piece) piece.immediate_sack trigger)

  data_keeps_if : (next hidden : Bool) (a : Shown) (piece : ChunkPayloadData) (trigger : AckTrigger)
      → is_hidden a.resets piece.stream_identifier piece.tsn ≡ hidden
      → KeepsPast over a (data_if next hidden a piece trigger).0
  data_keeps_if false hidden a piece trigger e = settled_asks_keeps a piece.immediate_sack trigger
  data_keeps_if true true a piece trigger e =
      then_keeps
      (deferred_where_admitted_keeps a piece
      (λ h. hidden_is_over over a.resets piece.stream_identifier piece.tsn h e))
      (asks_or_faults_keeps (deferred_where_admitted a piece) piece.immediate_sack trigger)
  data_keeps_if true false a piece trigger e =
      then_keeps (stream_found_keeps a piece.stream_identifier)
      (new_data_keeps (stream_found a piece.stream_identifier) piece trigger)

  on_data_keeps : (a : Shown) (piece : ChunkPayloadData) (trigger : AckTrigger)
      → KeepsPast over a (on_data a piece trigger).0
  unfolding on_data
  on_data_keeps a piece trigger =
      let b : Shown = counted_data a in
      then_keeps (keeps_same a b refl refl)
      (data_keeps_if (is_new_to b.receiver piece.tsn) (is_hidden b.resets piece.stream_identifier piece.tsn) b piece
      trigger refl)

  -- SACK

  acknowledged_keeps : (a : Shown) (progress : Progress) (now : ℕ) (x : Sender × Estimate × StreamMap)
      → KeepsPast over a (with_acknowledged a progress now x)
  acknowledged_keeps a progress now (sender, estimate, streams) = keeps_same a _ refl refl

  outcome_keeps : (o : SackOutcome) (a : Shown) (cumulative_tsn_ack : ℕ) (blocks : List GapAckBlock) (window : ℕ)
      (trigger : AckTrigger) (now : ℕ)
      → KeepsPast over a (on_counted_sack o a cumulative_tsn_ack blocks window trigger now).0
  outcome_keeps outcomes.Older a cumulative_tsn_ack blocks window trigger now = stays a
  outcome_keeps outcomes.NotInFlight a cumulative_tsn_ack blocks window trigger now = stays a
  outcome_keeps outcomes.NamesTheUnsent a cumulative_tsn_ack blocks window trigger now = stays a
  outcome_keeps outcomes.Taken a cumulative_tsn_ack blocks window trigger now =
      let b : Shown = after_sack a cumulative_tsn_ack blocks window now in
      probes_keep (KeepsPast over a) (λ c k. then_keeps k (keeps_same c _ refl refl))
      (λ c k. then_keeps k (keeps_same c _ refl refl)) (is_probing a.profile a.sender) window (shutdown_continued b)
      (then_keeps
      (acknowledged_keeps a (progress_of a.sender cumulative_tsn_ack blocks) now
      (sack_taken cumulative_tsn_ack blocks window now a.sender a.estimate a.streams))
      (keeps_same b (shutdown_continued b) refl refl))

  sack_keeps : (sends : Bool) (a : Shown) (cumulative_tsn_ack : ℕ) (blocks : List GapAckBlock) (window : ℕ)
      (trigger : AckTrigger) (now : ℕ) → sends_data a.state ≡ sends
      → KeepsPast over a (on_sack a cumulative_tsn_ack blocks window trigger now).0
  unfolding on_sack
  sack_keeps true a cumulative_tsn_ack blocks window trigger now e =
      rw e (then_keeps (keeps_same a (counted_sack a) refl refl)
      (outcome_keeps (sack_outcome a.sender cumulative_tsn_ack blocks) (counted_sack a) cumulative_tsn_ack blocks window
      trigger now))
  sack_keeps false a cumulative_tsn_ack blocks window trigger now e = rw e (stays a)

  -- The handshake, and HEARTBEAT

  learned_unless_keeps : (kept : Bool) (a : Shown) (header : CommonHeader) (init : ChunkInit)
      → KeepsPast over a
      (learned_unless kept (record a { handshake = learned_by_init a.handshake header init }) init)
  learned_unless_keeps true a header init = keeps_same a _ refl refl
  learned_unless_keeps false a header init =
      keeps_resets a _ (λ h. met_over over a.resets init.initial_tsn h) refl

  learned_keeps : (a : Shown) (header : CommonHeader) (init : ChunkInit) → KeepsPast over a (learned a header init)
  learned_keeps a header init = learned_unless_keeps (keeps_peer a init) a header init

  learned_back_keeps : (a : Shown) (header : CommonHeader) (init : ChunkInit)
      → KeepsPast over a (learned_back a header init)
  learned_back_keeps a header init =
      keeps_resets a (learned_back a header init) (λ h. met_over over a.resets init.initial_tsn h) refl

  init_keeps : (begins : Bool) (a : Shown) (header : CommonHeader) (init : ChunkInit) (trigger : AckTrigger)
      → is_beginning a.state ≡ begins → KeepsPast over a (on_init a header init trigger).0
  unfolding on_init
  init_keeps true a header init trigger e =
      rw e (then_keeps (learned_keeps a header init) (keeps_queued (learned a header init) _ tt))
  init_keeps false a header init trigger e = rw e (stays a)

  cookie_keeps : (o : Option (List ℕ)) (a : Shown) → KeepsPast over a (cookie_queued o a)
  cookie_keeps None a = stays a
  cookie_keeps (Some cookie) a = keeps_queued a _ tt

  sends_cookie_keeps : (a : Shown) (now : ℕ) → KeepsPast over a (sends_cookie a now)
  unfolding sends_cookie
  sends_cookie_keeps a now =
      then_keeps (cookie_keeps a.handshake.echo a)
      (keeps_same (cookie_queued a.handshake.echo a) (sends_cookie a now) refl refl)

  echoed_keeps : (o : Option (List ℕ)) (a : Shown) (trigger : AckTrigger) (now : ℕ)
      → KeepsPast over a (echoed o a trigger now).0
  echoed_keeps None a trigger now = stays a
  echoed_keeps (Some cookie) a trigger now =
      then_keeps (keeps_same a _ refl refl) (sends_cookie_keeps _ now)

  back_keeps : (back : Bool) (a : Shown) (header : CommonHeader) (init : ChunkInit) (trigger : AckTrigger) (now : ℕ)
      → KeepsPast over a
      (if back then echoed (first_cookie init.params) (learned_back a header init) trigger now
      else (record a { handshake = learned_by_init_ack a.handshake header init }, flows.Next trigger)).0
  back_keeps true a header init trigger now =
      then_keeps (learned_back_keeps a header init)
      (echoed_keeps (first_cookie init.params) (learned_back a header init) trigger now)
  back_keeps false a header init trigger now = keeps_same a _ refl refl

  init_ack_keeps : (waits : Bool) (a : Shown) (header : CommonHeader) (init : ChunkInit) (trigger : AckTrigger)
      (now : ℕ) → is_cookie_wait a.state ≡ waits → KeepsPast over a (on_init_ack a header init trigger now).0
  unfolding on_init_ack
  init_ack_keeps true a header init trigger now e =
      rw e (back_keeps (comes_back a.handshake header) a header init trigger now)
  init_ack_keeps false a header init trigger now e = rw e (stays a)

  cookie_echo_keeps : (issued begins again : Bool) (a : Shown) (cookie : List ℕ) (trigger : AckTrigger)
      → has_issued a.handshake cookie ≡ issued → is_beginning a.state ≡ begins
      → acknowledges_again a ≡ again → KeepsPast over a (on_cookie_echo a cookie trigger).0
  unfolding on_cookie_echo
  cookie_echo_keeps false begins again a cookie trigger e f g = rw e (stays a)
  cookie_echo_keeps true true again a cookie trigger e f g =
      rw (e, f) (then_keeps (keeps_same a (connected a) refl refl) (keeps_queued (connected a) _ tt))
  cookie_echo_keeps true false true a cookie trigger e f g =
      rw (e, f, g) (then_keeps (keeps_same a (shutdown_again a) refl refl) (keeps_queued (shutdown_again a) _ tt))
  cookie_echo_keeps true false false a cookie trigger e f g = rw (e, f, g) (stays a)

  cookie_ack_keeps : (waits : Bool) (a : Shown) (trigger : AckTrigger) → is_cookie_echoed a.state ≡ waits
      → KeepsPast over a (on_cookie_ack a trigger).0
  unfolding on_cookie_ack
  cookie_ack_keeps true a trigger e = rw e (keeps_same a _ refl refl)
  cookie_ack_keeps false a trigger e = rw e (stays a)

  returned_keeps : (o : Option (List ℕ)) (a : Shown) → KeepsPast over a (information_returned o a)
  returned_keeps None a = stays a
  returned_keeps (Some information) a = keeps_queued a _ tt

  heartbeat_keeps : (a : Shown) (heartbeat : ChunkHeartbeat) (trigger : AckTrigger)
      → KeepsPast over a (on_heartbeat a heartbeat trigger).0
  unfolding on_heartbeat
  heartbeat_keeps a heartbeat trigger = returned_keeps (information_of heartbeat.params) a

  -- FORWARD TSN

  skip_keeps_if : (retires : Bool) (tsn id ssn : ℕ) (a : Shown) → is_retiring a.resets id ≡ retires
      → KeepsPast over a (with_skip tsn id ssn a)
  unfolding with_skip
  skip_keeps_if true tsn id ssn a e =
      rw e (keeps_resets a _ (λ h. skip_over over a.resets id ssn tsn (retiring_is_over over a.resets id h e) h) refl)
  skip_keeps_if false tsn id ssn a e = rw e (keeps_same a _ refl refl)

  pub skip_keeps : (tsn id ssn : ℕ) (a : Shown) → KeepsPast over a (with_skip tsn id ssn a)
  skip_keeps tsn id ssn a = skip_keeps_if (is_retiring a.resets id) tsn id ssn a refl

  pub skips_keep : (tsn : ℕ) (es : List SkippedStream) (a : Shown) → KeepsPast over a (with_skips tsn es a)
  skips_keep tsn [] a = stays a
  skips_keep tsn (e ∷ es) a =
      then_keeps (skip_keeps tsn e.stream_identifier e.stream_sequence_number a)
      (skips_keep tsn es (with_skip tsn e.stream_identifier e.stream_sequence_number a))

  pub passed_keeps : (a : Shown) (tsn : ℕ) → KeepsPast over a (with_passed a tsn)
  passed_keeps a tsn = keeps_resets a (with_passed a tsn) (λ h. unordered_over over a.resets tsn h) refl

  asks_behind_keeps : (a : Shown) (trigger : AckTrigger) → KeepsPast over a (asks_behind a trigger).0
  asks_behind_keeps a trigger = same_side a _ (flow_same (is_exhausted a) a _ _)

  ahead_keeps : (a : Shown) (tsn : ℕ) (es : List SkippedStream) (trigger : AckTrigger)
      → KeepsPast over a (asks_behind (settled (with_passed (with_skips tsn es a) tsn)) trigger).0
  ahead_keeps a tsn es trigger =
      let b : Shown = with_skips tsn es a in
      let c : Shown = with_passed b tsn in
      then_keeps (skips_keep tsn es a)
      (then_keeps (passed_keeps b tsn) (then_keeps (settled_keeps c) (asks_behind_keeps (settled c) trigger)))

  -- the streams on which it skips are found or made before
  all_found_keep : (tsn : ℕ) (es : List SkippedStream) (a : Shown) → KeepsPast over a (found_for tsn es a)
  all_found_keep tsn es a =
      keeps_same a (found_for tsn es a) (ap (λ (z : Shown). z.resets) (found_for_is tsn es a))
      (ap (λ (z : Shown). z.control) (found_for_is tsn es a))

  on_forward_keeps : (a : Shown) (tsn : ℕ) (es : List SkippedStream) (trigger : AckTrigger) (now : ℕ)
      → KeepsPast over a (on_forward a tsn es trigger now).0
  on_forward_keeps a tsn es trigger now =
      forward_is_one_of tsn es (λ b x. KeepsPast over b x.0) trigger now
      (λ b e. keeps_queued b _ tt)
      (λ b e f. keeps_same b (acknowledged_at_once b now) refl refl)
      (λ b e f. ahead_keeps b tsn es trigger)
      (λ b x k. then_keeps (all_found_keep tsn es b) k)
      a

  -- RE-CONFIG

  stopped_keeps : (confirms : Bool) (a : Shown) → KeepsPast over a (stopped_if confirms a)
  stopped_keeps true a = keeps_same a _ refl refl
  stopped_keeps false a = stays a

  handled_with_keeps : (a : Shown) (number : ℕ) (x : Resetting × Handled)
      → (ResetsOver over a.resets → ResetsOver over x.0.0) → KeepsPast over a (handled_with a number x)
  handled_with_keeps a number (s, done) still =
      let b : Shown = with_resetting a s in
      let c : Shown = stopped_if done.confirms b in
      then_keeps (resetting_keeps a s still)
      (then_keeps (stopped_keeps done.confirms b)
      (then_keeps (asking_if_keeps done.asks c) (responding_keeps (asking_if done.asks c) number done.answer)))

  pub on_request_keeps : (a : Shown) (param : ParamOutgoingResetRequest) → ParamOver over param
      → KeepsPast over a (on_request a param)
  unfolding on_request
  on_request_keeps a param past =
      handled_with_keeps a param.reconfig_request_sequence_number
      (handled param a.receiver.peer_last_tsn a.sender.queue.next_message_id a.receiver.max_receive_message_size
      a.resets (channels_of a))
      (λ h. handled_over over param a.receiver.peer_last_tsn a.sender.queue.next_message_id
      a.receiver.max_receive_message_size a.resets (channels_of a) h past)

  responded_with_keeps : (a : Shown) (x : Beside × TimerChange) → (ResetsOver over a.resets → ResetsOver over x.0.0)
      → KeepsPast over a (responded_with a x)
  responded_with_keeps a (b, change) still =
      then_keeps (beside_keeps a b still) (keeps_same (with_beside a b) (responded_with a (b, change)) refl refl)

  pub on_response_keeps : (a : Shown) (response : ParamReconfigResponse) → KeepsPast over a (on_response a response)
  unfolding on_response
  on_response_keeps a response =
      responded_with_keeps a (responded response a.resets a.streams a.events)
      (responded_over over response a.resets a.streams a.events)

  param_keeps : (param : Param) (a : Shown) → ParamIsPast over param → KeepsPast over a (after_param param a).0
  param_keeps (params.OutgoingResetRequest request) a past = on_request_keeps a request past
  param_keeps (params.ReconfigResponse response) a past = on_response_keeps a response
  param_keeps (params.HeartbeatInfo information) a past = stays a
  param_keeps (params.StateCookie cookie) a past = stays a
  param_keeps (params.SupportedExtensions kinds) a past = stays a
  param_keeps (params.Other kind value) a past = stays a

  behind_params_keeps : (x : Shown × Bool) (trigger : AckTrigger) → KeepsPast over x.0 (behind_params x trigger).0
  behind_params_keeps (a, true) trigger = stays a
  behind_params_keeps (a, false) trigger = stays a

  behind_first_keeps : (x : Shown × Bool) (second : Option Param) (trigger : AckTrigger)
      → ParamIsPastIf over second → KeepsPast over x.0 (behind_first x second trigger).0
  behind_first_keeps (a, true) None trigger past = stays a
  behind_first_keeps (a, true) (Some second) trigger past =
      then_keeps (param_keeps second a past) (behind_params_keeps (after_param second a) trigger)
  behind_first_keeps (a, false) second trigger past = stays a

  on_reconfig_keeps : (a : Shown) (reconfig : ChunkReconfig) (trigger : AckTrigger)
      → ResetsPastIfAny over (chunks.Reconfig reconfig) → KeepsPast over a (on_reconfig a reconfig trigger).0
  unfolding on_reconfig
  on_reconfig_keeps a reconfig trigger past =
      then_keeps (param_keeps reconfig.first a past.0)
      (behind_first_keeps (after_param reconfig.first a) reconfig.second trigger past.1)

  -- Any chunk

  dispatched_keeps : (a : Shown) (header : CommonHeader) (c : Chunk) (trigger : AckTrigger) (now : ℕ)
      → ResetsPastIfAny over c → KeepsPast over a (dispatched a header c trigger now).0
  dispatched_keeps a header (chunks.Data piece) trigger now past = on_data_keeps a piece _
  dispatched_keeps a header (chunks.SelectiveAck k) trigger now past =
      sack_keeps (sends_data a.state) a k.cumulative_tsn_ack k.gap_ack_blocks k.advertised_receiver_window_credit
      trigger now refl
  dispatched_keeps a header (chunks.Init x) trigger now past = init_keeps (is_beginning a.state) a header x trigger refl
  dispatched_keeps a header (chunks.InitAck x) trigger now past =
      init_ack_keeps (is_cookie_wait a.state) a header x trigger now refl
  dispatched_keeps a header (chunks.Heartbeat x) trigger now past = heartbeat_keeps a x trigger
  dispatched_keeps a header (chunks.HeartbeatAck x) trigger now past = stays a
  dispatched_keeps a header (chunks.Abort x) trigger now past = stays a
  dispatched_keeps a header (chunks.Shutdown x) trigger now past = keeps_same a (shutdown_taken a) refl refl
  dispatched_keeps a header chunks.ShutdownAck trigger now past = keeps_same a (shutdown_answered a) refl refl
  dispatched_keeps a header (chunks.Error x) trigger now past = stays a
  dispatched_keeps a header (chunks.CookieEcho cookie) trigger now past =
      cookie_echo_keeps (has_issued a.handshake cookie) (is_beginning a.state) (acknowledges_again a) a cookie trigger
      refl refl refl
  dispatched_keeps a header chunks.CookieAck trigger now past =
      cookie_ack_keeps (is_cookie_echoed a.state) a trigger refl
  dispatched_keeps a header chunks.ShutdownComplete trigger now past = stays a
  dispatched_keeps a header (chunks.Reconfig x) trigger now past = on_reconfig_keeps a x trigger past
  dispatched_keeps a header (chunks.ForwardTsn x) trigger now past =
      on_forward_keeps a x.new_cumulative_tsn x.streams trigger now
  dispatched_keeps a header (chunks.IForwardTsn x) trigger now past =
      on_forward_keeps a x.new_cumulative_tsn (skips_of x.entries) trigger now
  dispatched_keeps a header (chunks.Other kind flags value) trigger now past = stays a

  checked_keeps : (r : Result (Unit {0}) Error) (a : Shown) (header : CommonHeader) (c : Chunk) (trigger : AckTrigger)
      (now : ℕ) → ResetsPastIfAny over c → KeepsPast over a (checked_first r a header c trigger now).0
  checked_keeps (Err fault) a header c trigger now past = stays a
  checked_keeps (Ok done) a header c trigger now past = dispatched_keeps a header c trigger now past

  pub chunk_keeps : (a : Shown) (header : CommonHeader) (c : Chunk) (trigger : AckTrigger) (now : ℕ)
      → ResetsPastIfAny over c → KeepsPast over a (on_chunk a header c trigger now).0
  unfolding on_chunk
  chunk_keeps a header c trigger now past = checked_keeps (checked_chunk c) a header c trigger now past

pub chunks_reset_no_more : ChunksResetNoMore
chunks_reset_no_more over a header chunk trigger now past only =
    let kept : KeepsPast over a (on_chunk a header chunk trigger now).0 =
    chunk_keeps over a header chunk trigger now past in
    record { resets = kept.resets only.resets; control = kept.control only.control }
