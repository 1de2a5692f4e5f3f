-- What holds of the peer's requests to reset streams, and stays so whatever becomes of them by their numbers, stays so
-- over each chunk that comes once the handshake is over.
use Rattle.std.proofs.Common.{◌≡◌, refl, sym, ap, ◌∙◌, subst, ℕ, Bool, true, false, if◌then◌else◌, not, List, [], ◌∷◌}
use Rattle.std.proofs.Common.{Option, Some, None, is_some, Result, Ok, Err}
use Rattle.sctp_wire_types.specs.declared.chunk.Chunk.{Chunk}
use Rattle.sctp_wire_types.specs.declared.chunk.Chunk.TheVariants as chunks
use Rattle.sctp_wire_types.specs.declared.chunk.ChunkHeartbeat.{ChunkHeartbeat}
use Rattle.sctp_wire_types.specs.declared.chunk.ChunkInit.{ChunkInit}
use Rattle.sctp_wire_types.specs.declared.chunk.ChunkPayloadData.{ChunkPayloadData}
use Rattle.sctp_wire_types.specs.declared.chunk.ChunkReconfig.{ChunkReconfig}
use Rattle.sctp_wire_types.specs.declared.chunk.GapAckBlock.{GapAckBlock}
use Rattle.sctp_wire_types.specs.declared.chunk.SkippedStream.{SkippedStream}
use Rattle.sctp_wire_types.specs.declared.error.Error.{Error}
use Rattle.sctp_wire_types.specs.declared.packet.CommonHeader.{CommonHeader}
use Rattle.sctp_wire_types.specs.declared.param.Param.{Param}
use Rattle.sctp_wire_types.specs.declared.param.Param.TheVariants as params
use Rattle.sctp_wire_types.specs.declared.param.ParamOutgoingResetRequest.{ParamOutgoingResetRequest}
use Rattle.sctp_wire_types.specs.declared.param.ParamReconfigResponse.{ParamReconfigResponse}
use Rattle.sctp_wire_types.specs.Checks.{checked_chunk}
use Rattle.sctp_streams.specs.declared.event.Event.{Event}
use Rattle.sctp_streams.specs.Streams.{StreamMap, generation_left, is_readable_in, pushed_in, refusal_in, stream_at}
use Rattle.sctp_inbound.specs.declared.receiver.AckTrigger.{AckTrigger}
use Rattle.sctp_inbound.specs.Greeting.{information_of}
use Rattle.sctp_inbound.specs.Handshake.{has_issued}
use Rattle.sctp_inbound.specs.Receiver.{admits, is_new_to, taken_to}
use Rattle.sctp_outbound.specs.declared.sender.SackOutcome.{SackOutcome}
use Rattle.sctp_outbound.specs.declared.sender.SackOutcome.TheVariants as outcomes
use Rattle.sctp_outbound.specs.Sender.{sack_outcome}
use Rattle.sctp_reset_requests.specs.declared.answer.Arrival.{Arrival}
use Rattle.sctp_reset_requests.specs.declared.answer.Arrival.TheVariants as arrivals
use Rattle.sctp_reset_requests.specs.declared.outcome.Answered.{Answered}
use Rattle.sctp_reset_requests.specs.declared.outcome.Answered.TheVariants as answers
use Rattle.sctp_reset_requests.specs.Own.{OwnView}
use Rattle.sctp_reset_requests.specs.Own as own
use Rattle.sctp_reset_requests.specs.Peer.{PeerView, advanced, arrived, peer_closed}
use Rattle.sctp_reset_requests.specs.Request.{PeerRequestView, request_of}
use Rattle.sctp_resets.specs.declared.answers.TimerChange.{TimerChange}
use Rattle.sctp_resets.specs.declared.performing.Handled.{Handled}
use Rattle.sctp_resets.specs.declared.performing.Settled.{Settled}
use Rattle.sctp_resets.specs.Channels.{Channels}
use Rattle.sctp_resets.specs.Performing.{Performing, answered_in, named_in, performing, retired_each}
use Rattle.sctp_resets.specs.Resets.{Beside, ResetsView, Resetting, arrived_with, confirmed_by}
use Rattle.sctp_resets.specs.Resets.{ended_as_answered, handled, handled_behind, performed, performed_with, responded}
use Rattle.sctp_resets.specs.Resets.{settled_by, settled_where, skips_done, skips_done_of, with_channels}
use Rattle.sctp_resets.specs.Resets.{with_skips_done}
use Rattle.sctp_resets.specs.Resets as resets
use Rattle.sctp_resets.specs.Skips.{Skipping}
use Rattle.sctp_resets.specs.Skips as skips
use Rattle.sctp_assoc.specs.declared.inbound.Flow.{Flow}
use Rattle.sctp_assoc.specs.Calls.{is_beginning, is_cookie_echoed, is_cookie_wait, sends_data}
use Rattle.sctp_assoc.specs.Chunks.{asks, asks_or_faults, checked_first, counted_data, counted_sack, deferred_unless}
use Rattle.sctp_assoc.specs.Chunks.{deferred_where_admitted, dispatched, on_chunk, on_counted_sack, on_data}
use Rattle.sctp_assoc.specs.Chunks.{after_sack, goes_unread, left_or_handed_over, on_new_data}
use Rattle.sctp_assoc.specs.Chunks.{on_sack, stream_found, taken_in, taken_unless, taken_where_admitted, then_skips}
use Rattle.sctp_assoc.specs.Chunks.{told, with_message}
use Rattle.sctp_assoc.specs.Closing.{is_exhausted}
use Rattle.sctp_assoc.specs.Finding.{found_for}
use Rattle.sctp_assoc.specs.Handshake.{acknowledges_again, information_returned, on_cookie_ack, on_cookie_echo}
use Rattle.sctp_assoc.specs.Handshake.{on_heartbeat, on_init, on_init_ack}
use Rattle.sctp_assoc.specs.Probes.{is_probing}
use Rattle.sctp_assoc.specs.Resets.{after_param, asking_if, behind_first, behind_params, channels_of, handled_with}
use Rattle.sctp_assoc.specs.Resets.{on_reconfig, on_request, on_response, responded_with, settled, settled_with}
use Rattle.sctp_assoc.specs.Resets.{skips_applied_of, stopped_if, with_answer, with_beside, with_resetting}
use Rattle.sctp_assoc.specs.Shown.{Shown, all_waiting}
use Rattle.sctp_assoc.specs.Shutdown.{all_acknowledged, shutdown_continued, shutdown_taken}
use Rattle.sctp_sides.proofs.TimersRun.{begun_shakes_no_hands, continued_onward, taken_onward}
use Rattle.sctp_assoc.specs.Skipping.{acknowledged_at_once, asks_behind, on_forward, skips_of, with_passed, with_skip}
use Rattle.sctp_assoc.specs.Skipping.{with_skips}
use Rattle.sctp_assoc.proofs.Probes.{probes_keep}
use Rattle.sctp_assoc.proofs.StreamsFound.{found_for_is}
use Rattle.sctp_sides.proofs.ForwardKinds.{forward_is_one_of}
use Rattle.sctp_sides.proofs.RepeatsKnown.{confirmed_peer}

-- What stays so of the peer's requests whatever becomes of them: a request comes, the last TSN in order moves, and the
-- association closes.
pub record IsKept (P : PeerView → Type 0) : Type 0 where
  pub arrives : (p : PeerView) (r : PeerRequestView) (cumulative_tsn : ℕ) → P p → P (arrived p r cumulative_tsn).0
  pub advances : (p : PeerView) (cumulative_tsn : ℕ) → P p → P (advanced p cumulative_tsn).0
  pub closes : (p : PeerView) → P p → P (peer_closed p)

-- The state, whether it was lost, and the peer's requests are as they were.
pub record KeepsRequests (a b : Shown) : Type 0 where
  pub state : b.state ≡ a.state
  pub lost : b.lost ≡ a.lost
  pub peer : b.resets.peer ≡ a.resets.peer

pub requests_kept : (a b : Shown) → b.state ≡ a.state → b.lost ≡ a.lost → b.resets.peer ≡ a.resets.peer
    → KeepsRequests a b
requests_kept a b state lost peer = record { state = state; lost = lost; peer = peer }

pub requests_same : (a : Shown) → KeepsRequests a a
requests_same a = requests_kept a a refl refl refl

pub requests_then : (a b c : Shown) → KeepsRequests a b → KeepsRequests b c → KeepsRequests a c
requests_then a b c x y = requests_kept a c (y.state ∙ x.state) (y.lost ∙ x.lost) (y.peer ∙ x.peer)

-- What a performed request leaves of the peer's requests

released_peer : (q : PeerRequestView) (first limit : ℕ) (r : ResetsView) (to_accept named : List ℕ)
    (x : Performing × List ℕ) → (performed_with q first limit r to_accept named x).0.0.peer ≡ r.peer
released_peer q first limit r to_accept named (p, ids) = refl

performed_peer : (q : PeerRequestView) (first limit : ℕ) (r : ResetsView) (c : Channels)
    → (performed q first limit r c).0.0.peer ≡ r.peer
unfolding performed
performed_peer q first limit r c =
    let named = named_in r.own c.streams q in
    released_peer q first limit r c.to_accept named
    (answered_in r.own named (retired_each q (performing r.generations r.debts c.streams c.events)))

settled_by_peer : (q : PeerRequestView) (x : Resetting × Bool) → (settled_by q x).0.0.peer ≡ x.0.0.peer
settled_by_peer q (s, asks) = refl

settled_where_peer : (x : PeerView × Option PeerRequestView) (first limit : ℕ) (r : ResetsView) (c : Channels)
    → (settled_where x first limit r c).0.0.peer ≡ x.0
settled_where_peer (p, None) first limit r c = refl
settled_where_peer (p, Some q) first limit r c =
    let s : ResetsView = record r { peer = p } in
    settled_by_peer q (performed q first limit s c) ∙ performed_peer q first limit s c

skips_peer : (r : ResetsView) (x : Skipping) → (with_skips_done r x).0.peer ≡ r.peer
skips_peer r (g, m, told) = refl

channels_peer : (c : Channels) (x : Beside) → (with_channels c x).0.peer ≡ x.0.peer
channels_peer c (r, m, told) = refl

answer_peer : (confirms : Bool) (arrival : Arrival) (x : Resetting × Bool)
    → (resets.with_answer confirms arrival x).0.0.peer ≡ x.0.0.peer
answer_peer confirms arrival ((r, c), asks) =
    channels_peer c (skips_done r c.streams c.events)
    ∙ skips_peer r (skips.skips_applied (r.generations, c.streams, c.events))

arrived_peer : (confirms : Bool) (first limit : ℕ) (x : PeerView × Arrival) (r : ResetsView) (c : Channels)
    → (arrived_with confirms first limit x r c).0.0.peer ≡ x.0
arrived_peer confirms first limit (p, arrivals.Answered answer) r c = refl
arrived_peer confirms first limit (p, arrivals.Performed q) r c =
    let s : ResetsView = record r { peer = p } in
    answer_peer confirms (arrivals.Performed q) (performed q first limit s c) ∙ performed_peer q first limit s c

handled_peer : (param : ParamOutgoingResetRequest) (cumulative_tsn first limit : ℕ) (c : Channels) (x : Beside × Bool)
    → (handled_behind param cumulative_tsn first limit c x).0.0.peer
    ≡ (arrived x.0.0.peer (request_of param) cumulative_tsn).0
handled_peer param cumulative_tsn first limit c ((r, m, told), confirms) =
    arrived_peer confirms first limit (arrived r.peer (request_of param) cumulative_tsn) r
    (record c { streams = m; events = told })

responded_peer : (x : OwnView × Answered) (r : ResetsView) (m : StreamMap) (told : List Event)
    → (ended_as_answered x r m told).0.0.peer ≡ r.peer
responded_peer (o, answers.Ignored) r m told = refl
responded_peer (o, answers.InProgress) r m told = refl
responded_peer (o, answers.Ended q (Ok done)) r m told = refl
responded_peer (o, answers.Ended q (Err reason)) r m told = refl

-- and of the association

pub beside_keeps : (a : Shown) (x : Beside) → x.0.peer ≡ a.resets.peer → KeepsRequests a (with_beside a x)
beside_keeps a (r, m, told) e = requests_kept a _ refl refl e

pub resetting_keeps : (a : Shown) (x : Resetting) → x.0.peer ≡ a.resets.peer → KeepsRequests a (with_resetting a x)
resetting_keeps a (r, c) e = requests_kept a _ refl refl e

pub skipping_keeps : (id : ℕ) (a : Shown) → KeepsRequests a (skips_applied_of id a)
skipping_keeps id a =
    beside_keeps a (skips_done_of id a.resets a.streams a.events)
    (skips_peer a.resets (skips.skips_applied_of (a.resets.generations, a.streams, a.events) id))

asking_keeps : (asks : Bool) (a : Shown) → KeepsRequests a (asking_if asks a)
asking_keeps true a = requests_kept a _ refl refl refl
asking_keeps false a = requests_same a

stopping_keeps : (stops : Bool) (a : Shown) → KeepsRequests a (stopped_if stops a)
stopping_keeps true a = requests_kept a _ refl refl refl
stopping_keeps false a = requests_same a

answer_keeps : (answer : Option Settled) (a : Shown) → KeepsRequests a (with_answer answer a)
answer_keeps None a = requests_same a
answer_keeps (Some q) a =
    let k = asking_keeps q.asks a in requests_kept a (with_answer (Some q) a) k.state k.lost k.peer

responded_keeps : (a : Shown) (x : Beside × TimerChange) → x.0.0.peer ≡ a.resets.peer
    → KeepsRequests a (responded_with a x)
responded_keeps a ((r, m, told), change) e = requests_kept a _ refl refl e

pub flow_same : (e : Bool) (a : Shown) (f g : Flow) → (if◌then◌else◌ {A = Shown × Flow} e (a, f) (a, g)).0 ≡ a
flow_same true a f g = refl
flow_same false a f g = refl

module _ (P : PeerView → Type 0) (kept : IsKept P) where
  -- The handshake is over where it was, and what held of the peer's requests holds still.
  pub record GoesOn (a b : Shown) : Type 0 where
    pub begins : is_beginning b.state ≡ is_beginning a.state
    pub holds : P a.resets.peer → P b.resets.peer

  keeping : (a b : Shown) → KeepsRequests a b → GoesOn a b
  keeping a b k = record { begins = ap is_beginning k.state; holds = λ h. subst P (sym k.peer) h }

  by_parts : (a b : Shown) → b.state ≡ a.state → b.resets.peer ≡ a.resets.peer → GoesOn a b
  by_parts a b state peer = record { begins = ap is_beginning state; holds = λ h. subst P (sym peer) h }

  -- a shutdown may go on, too
  by_stage : (a b : Shown) → is_beginning b.state ≡ is_beginning a.state → b.resets.peer ≡ a.resets.peer → GoesOn a b
  by_stage a b begins peer = record { begins = begins; holds = λ h. subst P (sym peer) h }

  same : (a : Shown) → GoesOn a a
  same a = record { begins = refl; holds = λ h. h }

  then_on : (a b c : Shown) → GoesOn a b → GoesOn b c → GoesOn a c
  then_on a b c x y = record { begins = y.begins ∙ x.begins; holds = λ h. y.holds (x.holds h) }

  -- A request of the peer is performed where it is due

  settled_with_goes : (a : Shown) (x : Resetting × Option Settled) → (P a.resets.peer → P x.0.0.peer)
      → GoesOn a (settled_with a x)
  settled_with_goes a ((r, c), answer) holds =
      let b : Shown = with_resetting a (r, c) in
      then_on a b (with_answer answer b) (record { begins = refl; holds = holds })
      (keeping b (with_answer answer b) (answer_keeps answer b))

  settled_goes : (a : Shown) → GoesOn a (settled a)
  unfolding settled
  settled_goes a =
      let t = a.receiver.peer_last_tsn in
      let first = a.sender.queue.next_message_id in
      let limit = a.receiver.max_receive_message_size in
      let x = resets.settled t first limit a.resets (channels_of a) in
      let b : Shown = settled_with a x in
      then_on a b _
      (settled_with_goes a x
      (λ h. subst P (sym (settled_where_peer (advanced a.resets.peer t) first limit a.resets (channels_of a)))
      (kept.advances a.resets.peer t h)))
      (keeping b _ (beside_keeps b (skips_done b.resets b.streams b.events)
      (skips_peer b.resets (skips.skips_applied (b.resets.generations, b.streams, b.events)))))

  -- RE-CONFIG

  handled_goes : (a : Shown) (number : ℕ) (x : Resetting × Handled) → (P a.resets.peer → P x.0.0.peer)
      → GoesOn a (handled_with a number x)
  handled_goes a number ((r, c), h) holds =
      let b : Shown = with_resetting a (r, c) in
      let stopped : Shown = stopped_if h.confirms b in
      let asked : Shown = asking_if h.asks stopped in
      then_on a b (handled_with a number ((r, c), h)) (record { begins = refl; holds = holds })
      (then_on b stopped (handled_with a number ((r, c), h)) (keeping b stopped (stopping_keeps h.confirms b))
      (then_on stopped asked (handled_with a number ((r, c), h))
      (keeping stopped asked (asking_keeps h.asks stopped))
      (by_parts asked (handled_with a number ((r, c), h)) refl refl)))

  request_goes : (a : Shown) (param : ParamOutgoingResetRequest) → GoesOn a (on_request a param)
  unfolding on_request
  request_goes a param =
      let t = a.receiver.peer_last_tsn in
      let first = a.sender.queue.next_message_id in
      let limit = a.receiver.max_receive_message_size in
      let x = confirmed_by param.reconfig_response_sequence_number a.resets a.streams a.events in
      let before : x.0.0.peer ≡ a.resets.peer =
      confirmed_peer (own.confirmed a.resets.own param.reconfig_response_sequence_number) a.resets a.streams a.events in
      handled_goes a param.reconfig_request_sequence_number
      (handled param t first limit a.resets (channels_of a))
      (λ h. subst P (sym (handled_peer param t first limit (channels_of a) x))
      (kept.arrives x.0.0.peer (request_of param) t (subst P (sym before) h)))

  response_goes : (a : Shown) (response : ParamReconfigResponse) → GoesOn a (on_response a response)
  unfolding on_response
  response_goes a response =
      keeping a _ (responded_keeps a (responded response a.resets a.streams a.events)
      (responded_peer (own.answered a.resets.own response) a.resets a.streams a.events))

  param_goes : (param : Param) (a : Shown) → GoesOn a (after_param param a).0
  param_goes (params.OutgoingResetRequest request) a = request_goes a request
  param_goes (params.ReconfigResponse response) a = response_goes a response
  param_goes (params.HeartbeatInfo value) a = same a
  param_goes (params.StateCookie value) a = same a
  param_goes (params.SupportedExtensions value) a = same a
  param_goes (params.Other kind value) a = same a

  second_goes : (x : Shown × Bool) (trigger : AckTrigger) → GoesOn x.0 (behind_params x trigger).0
  second_goes (a, true) trigger = same a
  second_goes (a, false) trigger = same a

  first_goes : (x : Shown × Bool) (second : Option Param) (trigger : AckTrigger)
      → GoesOn x.0 (behind_first x second trigger).0
  first_goes (a, true) None trigger = same a
  first_goes (a, true) (Some second) trigger =
      then_on a (after_param second a).0 _ (param_goes second a) (second_goes (after_param second a) trigger)
  first_goes (a, false) second trigger = same a

  reconfig_goes : (a : Shown) (reconfig : ChunkReconfig) (trigger : AckTrigger)
      → GoesOn a (on_reconfig a reconfig trigger).0
  unfolding on_reconfig
  reconfig_goes a reconfig trigger =
      let x = after_param reconfig.first a in
      then_on a x.0 _ (param_goes reconfig.first a) (first_goes x reconfig.second trigger)

  -- DATA

  found_goes : (there left : Bool) (a : Shown) (id : ℕ) → is_some (stream_at a.streams id) ≡ there
      → generation_left a.streams ≡ left → GoesOn a (stream_found a id).0
  unfolding stream_found
  found_goes true left a id e f = rw e (same a)
  found_goes false true a id e f = rw (e, f) (by_parts a _ refl refl)
  found_goes false false a id e f = rw (e, f) (same a)

  told_goes : (readable taken : Bool) (a : Shown) (id : ℕ) → is_readable_in a.streams id ≡ readable
      → GoesOn a (told a id taken)
  told_goes true true a id e = rw e (by_parts a _ refl refl)
  told_goes false true a id e = rw e (by_parts a _ refl refl)
  told_goes readable false a id e = by_parts a _ refl refl

  message_goes : (a : Shown) (piece : ChunkPayloadData) (x : StreamMap × Bool) → GoesOn a (with_message a piece x)
  message_goes a piece (streams, taken) =
      let b : Shown = record a { streams = streams; receiver = taken_to a.receiver piece.tsn } in
      then_on a b _ (by_parts a b refl refl)
      (told_goes (is_readable_in streams piece.stream_identifier) taken b piece.stream_identifier refl)

  taken_unless_goes : (refusal : Option Error) (a : Shown) (piece : ChunkPayloadData)
      → GoesOn a (taken_unless refusal a piece).0
  taken_unless_goes (Some fault) a piece = same a
  taken_unless_goes None a piece = message_goes a piece (pushed_in a.streams piece.stream_identifier piece)

  left_goes : (left : Bool) (a : Shown) (piece : ChunkPayloadData) → GoesOn a (left_or_handed_over left a piece).0
  left_goes true a piece = by_parts a _ refl refl
  left_goes false a piece =
      taken_unless_goes (refusal_in a.streams piece.stream_identifier piece a.receiver.max_receive_message_size) a piece

  taken_goes : (a : Shown) (piece : ChunkPayloadData) → GoesOn a (taken_in a piece).0
  unfolding taken_in
  taken_goes a piece = left_goes (goes_unread a piece) a piece

  then_skips_goes : (x : Shown × Option Error) (id : ℕ) → GoesOn x.0 (then_skips x id).0
  then_skips_goes (a, None) id = keeping a _ (skipping_keeps id a)
  then_skips_goes (a, Some fault) id = same a

  admitted_goes : (credit : Bool) (a : Shown) (piece : ChunkPayloadData)
      → GoesOn a (if credit then then_skips (taken_in a piece) piece.stream_identifier else (a, None)).0
  admitted_goes true a piece =
      then_on a (taken_in a piece).0 _ (taken_goes a piece)
      (then_skips_goes (taken_in a piece) piece.stream_identifier)
  admitted_goes false a piece = same a

  deferred_unless_goes : (refusal : Option Error) (a : Shown) (piece : ChunkPayloadData)
      → GoesOn a (deferred_unless refusal a piece).0
  deferred_unless_goes (Some fault) a piece = same a
  deferred_unless_goes None a piece = by_parts a _ refl refl

  deferred_if_goes : (credit : Bool) (refusal : Option Error) (a : Shown) (piece : ChunkPayloadData)
      → GoesOn a (if credit then deferred_unless refusal a piece else (a, None)).0
  deferred_if_goes true refusal a piece = deferred_unless_goes refusal a piece
  deferred_if_goes false refusal a piece = same a

  deferred_goes : (a : Shown) (piece : ChunkPayloadData) → GoesOn a (deferred_where_admitted a piece).0
  unfolding deferred_where_admitted
  deferred_goes a piece =
      deferred_if_goes (admits a.receiver piece.tsn (all_waiting a))
      (resets.refusal_of a.resets piece a.receiver.max_receive_message_size) a piece

  asks_goes : (a : Shown) (immediate : Bool) (trigger : AckTrigger) → GoesOn a (asks a immediate trigger).0
  asks_goes a immediate trigger = subst (GoesOn a) (sym (flow_same (is_exhausted a) a _ _)) (same a)

  settled_asks_goes : (a : Shown) (immediate : Bool) (trigger : AckTrigger)
      → GoesOn a (asks (settled a) immediate trigger).0
  settled_asks_goes a immediate trigger =
      then_on a (settled a) _ (settled_goes a) (asks_goes (settled a) immediate trigger)

  faults_goes : (x : Shown × Option Error) (immediate : Bool) (trigger : AckTrigger)
      → GoesOn x.0 (asks_or_faults x immediate trigger).0
  faults_goes (a, None) immediate trigger = settled_asks_goes a immediate trigger
  faults_goes (a, Some fault) immediate trigger = same a

  new_data_goes : (x : Shown × Bool) (piece : ChunkPayloadData) (trigger : AckTrigger)
      → GoesOn x.0 (on_new_data x piece trigger).0
  new_data_goes (a, false) piece trigger = same a
  new_data_goes (a, true) piece trigger =
      then_on a (taken_where_admitted a piece).0 _
      (admitted_goes (admits a.receiver piece.tsn (all_waiting a)) a piece)
      (faults_goes (taken_where_admitted a piece) piece.immediate_sack trigger)

  counted_data_goes : (next hidden : Bool) (a : Shown) (piece : ChunkPayloadData) (trigger : AckTrigger)
      → GoesOn a
      (if not next then asks (settled a) piece.immediate_sack trigger else
      if hidden then asks_or_faults (deferred_where_admitted a piece) piece.immediate_sack trigger else
      on_new_data (stream_found a piece.stream_identifier) piece trigger).0
  counted_data_goes false hidden a piece trigger = settled_asks_goes a piece.immediate_sack trigger
  counted_data_goes true true a piece trigger =
      then_on a (deferred_where_admitted a piece).0 _ (deferred_goes a piece)
      (faults_goes (deferred_where_admitted a piece) piece.immediate_sack trigger)
  counted_data_goes true false a piece trigger =
      then_on a (stream_found a piece.stream_identifier).0 _
      (found_goes (is_some (stream_at a.streams piece.stream_identifier)) (generation_left a.streams) a
      piece.stream_identifier refl refl)
      (new_data_goes (stream_found a piece.stream_identifier) piece trigger)

  data_goes : (a : Shown) (piece : ChunkPayloadData) (trigger : AckTrigger) → GoesOn a (on_data a piece trigger).0
  unfolding on_data
  data_goes a piece trigger =
      let b : Shown = counted_data a in
      then_on a b _ (by_parts a b refl refl)
      (counted_data_goes (is_new_to b.receiver piece.tsn) (resets.is_hidden b.resets piece.stream_identifier piece.tsn)
      b piece trigger)

  -- SACK

  outcome_goes : (o : SackOutcome) (a : Shown) (cumulative_tsn_ack : ℕ) (blocks : List GapAckBlock) (window : ℕ)
      (trigger : AckTrigger) (now : ℕ)
      → GoesOn a (on_counted_sack o a cumulative_tsn_ack blocks window trigger now).0
  outcome_goes outcomes.Older a cumulative_tsn_ack blocks window trigger now = same a
  outcome_goes outcomes.NotInFlight a cumulative_tsn_ack blocks window trigger now = same a
  outcome_goes outcomes.NamesTheUnsent a cumulative_tsn_ack blocks window trigger now = same a
  outcome_goes outcomes.Taken a cumulative_tsn_ack blocks window trigger now =
      let b : Shown = after_sack a cumulative_tsn_ack blocks window now in
      probes_keep (GoesOn a) (λ c k. record { begins = k.begins; holds = k.holds })
      (λ c k. record { begins = k.begins; holds = k.holds }) (is_probing a.profile a.sender) window
      (shutdown_continued b)
      (by_stage a (shutdown_continued b) (continued_onward (all_acknowledged b) a.state).begins refl)

  sack_goes : (sends : Bool) (a : Shown) (cumulative_tsn_ack : ℕ) (blocks : List GapAckBlock) (window : ℕ)
      (trigger : AckTrigger) (now : ℕ) → sends_data a.state ≡ sends
      → GoesOn a (on_sack a cumulative_tsn_ack blocks window trigger now).0
  unfolding on_sack
  sack_goes true a cumulative_tsn_ack blocks window trigger now e =
      rw e (then_on a (counted_sack a) _ (by_parts a (counted_sack a) refl refl)
      (outcome_goes (sack_outcome a.sender cumulative_tsn_ack blocks) (counted_sack a) cumulative_tsn_ack blocks window
      trigger now))
  sack_goes false a cumulative_tsn_ack blocks window trigger now e = rw e (same a)

  -- FORWARD TSN

  skip_goes : (retires : Bool) (tsn id ssn : ℕ) (a : Shown) → resets.is_retiring a.resets id ≡ retires
      → GoesOn a (with_skip tsn id ssn a)
  unfolding with_skip
  skip_goes true tsn id ssn a e = rw e (by_parts a _ refl refl)
  skip_goes false tsn id ssn a e = rw e (by_parts a _ refl refl)

  skips_goes : (tsn : ℕ) (es : List SkippedStream) (a : Shown) → GoesOn a (with_skips tsn es a)
  skips_goes tsn [] a = same a
  skips_goes tsn (e ∷ es) a =
      let b : Shown = with_skip tsn e.stream_identifier e.stream_sequence_number a in
      then_on a b _
      (skip_goes (resets.is_retiring a.resets e.stream_identifier) tsn e.stream_identifier e.stream_sequence_number a
      refl)
      (skips_goes tsn es b)

  ahead_goes : (a : Shown) (tsn : ℕ) (es : List SkippedStream) (trigger : AckTrigger)
      → GoesOn a (asks_behind (settled (with_passed (with_skips tsn es a) tsn)) trigger).0
  ahead_goes a tsn es trigger =
      let b : Shown = with_skips tsn es a in
      let c : Shown = with_passed b tsn in
      subst (GoesOn a) (sym (flow_same (is_exhausted (settled c)) (settled c) _ _))
      (then_on a b (settled c) (skips_goes tsn es a)
      (then_on b c (settled c) (by_parts b c refl refl) (settled_goes c)))

  -- the streams on which it skips are found or made before
  all_found_goes : (tsn : ℕ) (es : List SkippedStream) (a : Shown) → GoesOn a (found_for tsn es a)
  all_found_goes tsn es a =
      by_parts a (found_for tsn es a) (ap (λ (z : Shown). z.state) (found_for_is tsn es a))
      (ap (λ (z : Shown). z.resets.peer) (found_for_is tsn es a))

  forward_goes : (a : Shown) (tsn : ℕ) (es : List SkippedStream) (trigger : AckTrigger) (now : ℕ)
      → GoesOn a (on_forward a tsn es trigger now).0
  forward_goes a tsn es trigger now =
      forward_is_one_of tsn es (λ b x. GoesOn b x.0) trigger now
      (λ b e. by_parts b _ refl refl)
      (λ b e f. by_parts b (acknowledged_at_once b now) refl refl)
      (λ b e f. ahead_goes b tsn es trigger)
      (λ b x k. then_on b (found_for tsn es b) x.0 (all_found_goes tsn es b) k)
      a

  -- Chunks of a handshake that is over

  init_goes : (a : Shown) (header : CommonHeader) (init : ChunkInit) (trigger : AckTrigger)
      → is_beginning a.state ≡ false → GoesOn a (on_init a header init trigger).0
  unfolding on_init
  init_goes a header init trigger e = rw e (same a)

  init_ack_goes : (a : Shown) (header : CommonHeader) (init : ChunkInit) (trigger : AckTrigger) (now : ℕ)
      → is_cookie_wait a.state ≡ false → GoesOn a (on_init_ack a header init trigger now).0
  unfolding on_init_ack
  init_ack_goes a header init trigger now e = rw e (same a)

  cookie_echo_goes : (issued again : Bool) (a : Shown) (cookie : List ℕ) (trigger : AckTrigger)
      → has_issued a.handshake cookie ≡ issued → is_beginning a.state ≡ false → acknowledges_again a ≡ again
      → GoesOn a (on_cookie_echo a cookie trigger).0
  unfolding on_cookie_echo
  cookie_echo_goes false again a cookie trigger e f g = rw e (same a)
  cookie_echo_goes true true a cookie trigger e f g = rw (e, f, g) (by_parts a _ refl refl)
  cookie_echo_goes true false a cookie trigger e f g = rw (e, f, g) (same a)

  cookie_ack_goes : (a : Shown) (trigger : AckTrigger) → is_cookie_echoed a.state ≡ false
      → GoesOn a (on_cookie_ack a trigger).0
  unfolding on_cookie_ack
  cookie_ack_goes a trigger e = rw e (same a)

  information_goes : (o : Option (List ℕ)) (a : Shown) → GoesOn a (information_returned o a)
  information_goes None a = same a
  information_goes (Some information) a = by_parts a _ refl refl

  heartbeat_goes : (a : Shown) (heartbeat : ChunkHeartbeat) (trigger : AckTrigger)
      → GoesOn a (on_heartbeat a heartbeat trigger).0
  unfolding on_heartbeat
  heartbeat_goes a heartbeat trigger = information_goes (information_of heartbeat.params) a

  -- Any chunk

  kind_goes : (header : CommonHeader) (c : Chunk) (a : Shown) (trigger : AckTrigger) (now : ℕ)
      → is_beginning a.state ≡ false → GoesOn a (dispatched a header c trigger now).0
  kind_goes header (chunks.Data piece) a trigger now e = data_goes a piece _
  kind_goes header (chunks.SelectiveAck k) a trigger now e =
      sack_goes (sends_data a.state) a k.cumulative_tsn_ack k.gap_ack_blocks k.advertised_receiver_window_credit
      trigger now refl
  kind_goes header (chunks.Init x) a trigger now e = init_goes a header x trigger e
  kind_goes header (chunks.InitAck x) a trigger now e =
      init_ack_goes a header x trigger now (begun_shakes_no_hands a.state e).0
  kind_goes header (chunks.Heartbeat x) a trigger now e = heartbeat_goes a x trigger
  kind_goes header (chunks.HeartbeatAck x) a trigger now e = same a
  kind_goes header (chunks.Abort x) a trigger now e = same a
  kind_goes header (chunks.Shutdown x) a trigger now e =
      by_stage a (shutdown_taken a) (taken_onward (all_acknowledged a) a.state).begins refl
  kind_goes header chunks.ShutdownAck a trigger now e = by_parts a _ refl refl
  kind_goes header (chunks.Error x) a trigger now e = same a
  kind_goes header (chunks.CookieEcho x) a trigger now e =
      cookie_echo_goes (has_issued a.handshake x) (acknowledges_again a) a x trigger refl e refl
  kind_goes header chunks.CookieAck a trigger now e = cookie_ack_goes a trigger (begun_shakes_no_hands a.state e).1
  kind_goes header chunks.ShutdownComplete a trigger now e = same a
  kind_goes header (chunks.Reconfig x) a trigger now e = reconfig_goes a x trigger
  kind_goes header (chunks.ForwardTsn x) a trigger now e = forward_goes a x.new_cumulative_tsn x.streams trigger now
  kind_goes header (chunks.IForwardTsn x) a trigger now e =
      forward_goes a x.new_cumulative_tsn (skips_of x.entries) trigger now
  kind_goes header (chunks.Other kind flags value) a trigger now e = same a

  checked_goes : (r : Result (Unit {0}) Error) (header : CommonHeader) (c : Chunk) (a : Shown) (trigger : AckTrigger)
      (now : ℕ) → is_beginning a.state ≡ false → GoesOn a (checked_first r a header c trigger now).0
  checked_goes (Err fault) header c a trigger now e = same a
  checked_goes (Ok done) header c a trigger now e = kind_goes header c a trigger now e

  pub chunk_goes : (header : CommonHeader) (c : Chunk) (a : Shown) (trigger : AckTrigger) (now : ℕ)
      → is_beginning a.state ≡ false → GoesOn a (on_chunk a header c trigger now).0
  unfolding on_chunk
  chunk_goes header c a trigger now e = checked_goes (checked_chunk c) header c a trigger now e
