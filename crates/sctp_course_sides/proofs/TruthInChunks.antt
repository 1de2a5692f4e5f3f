-- Whatever chunk comes that is no greeting, what a side says stays true of the course of a stream of its peer.
use Rattle.std.proofs.Common.{◌≡◌, refl, sym, subst, ◌≤◌, ℕ, Bool, true, false, List, Option, Some, None, ◌∙◌, ◌+◌}
use Rattle.std.proofs.Common.{◌^◌, ◌<◌, arith, length, Result, Ok, Err}
use Rattle.sctp_wire_types.specs.declared.chunk.Chunk.{Chunk}
use Rattle.sctp_wire_types.specs.declared.chunk.Chunk.TheVariants as chunks
use Rattle.sctp_wire_types.specs.declared.param.Param.{Param}
use Rattle.sctp_wire_types.specs.declared.param.Param.TheVariants as params
use Rattle.sctp_reset_requests.specs.declared.own_request.OwnRequest.{OwnRequest}
use Rattle.sctp_reset_requests.specs.Own.{OwnView}
use Rattle.sctp_resets.specs.Resets.{Beside, Resetting, ResetsView, arrived_with, confirmed_by, handled_behind}
use Rattle.sctp_resets.specs.Resets.{performed, responded}
use Rattle.sctp_courses.specs.Course.{Course, Request}
use Rattle.sctp_assoc.specs.Resets.{asking_if, with_resetting, channels_of, handled_with, on_request, on_response}
use Rattle.sctp_assoc.specs.Resets.{responded_with, stopped_if, after_param, behind_first, behind_params, on_reconfig}
use Rattle.sctp_assoc.specs.Shown.{Shown}
use Rattle.sctp_course_sides.specs.Answers.{AnswersTruly, IsOfPerformed}
use Rattle.sctp_course_sides.proofs.TruthOfRequests.{IsSuccess, ArrivesTruly, answered_truly, arrives_truly}
use Rattle.sctp_course_sides.proofs.TruthOfRequests.{completed_is_true, confirmed_truly, performed_is_true}
use Rattle.sctp_course_sides.proofs.TruthOfRequests.{completed_once}
use Rattle.sctp_serial.specs.Serial.{tsn}
use Rattle.sctp_wire_types.specs.declared.param.ParamOutgoingResetRequest.{ParamOutgoingResetRequest}
use Rattle.sctp_wire_types.specs.declared.param.ParamReconfigResponse.{ParamReconfigResponse}
use Rattle.sctp_reset_requests.specs.declared.answer.Arrival.{Arrival}
use Rattle.sctp_reset_requests.specs.declared.answer.Arrival.TheVariants as arrivals
use Rattle.sctp_reset_requests.specs.declared.outcome.Answered.{Answered}
use Rattle.sctp_reset_requests.specs.Laws.{IsCompletedUpTo}
use Rattle.sctp_reset_requests.specs.Own as requests
use Rattle.sctp_reset_requests.specs.Peer.{PeerView, arrived}
use Rattle.sctp_reset_requests.specs.Request.{request_of}
use Rattle.sctp_resets.specs.declared.answers.TimerChange.{TimerChange}
use Rattle.sctp_resets.specs.declared.performing.Handled.{Handled}
use Rattle.sctp_resets.specs.Channels.{Channels}
use Rattle.sctp_resets.specs.Resets as resets
use Rattle.sctp_sides.proofs.RepeatsKnown.{confirmed_peer}
use Rattle.sctp_course_sides.specs.Follows.{IsAskedIn, ChunkComes, ParamComes, ParamComesIf}
use Rattle.sctp_course_sides.proofs.TruthBeside.{asking_if_truly, resetting_truly, responding_truly, same_answers}
use Rattle.sctp_course_sides.proofs.TruthBeside.{answers_grow}
use Rattle.sctp_course_sides.proofs.TruthOfResets.{performed_peer, answer_peer, answer_own, confirmed_own}
use Rattle.sctp_course_sides.proofs.TruthOfResets.{responded_peer, responded_own, handled_is_peer}
use Rattle.sctp_course_sides.proofs.TruthInSteps.{Own, Stays, Stepped, Steps, performed_own, stays_by, same, still}
use Rattle.sctp_course_sides.proofs.TruthInSteps.{ahead, two, at_least_two, data_steps, sack_stays, forward_steps}
use Rattle.sctp_course_sides.proofs.TruthInSteps.{cookie_echo_stays, cookie_ack_stays, heartbeat_stays}
use Rattle.sctp_wire_types.specs.declared.error.Error.{Error}
use Rattle.sctp_inbound.specs.declared.receiver.AckTrigger.{AckTrigger}
use Rattle.sctp_inbound.specs.Handshake.{has_issued}
use Rattle.sctp_assoc.specs.Calls.{is_beginning, is_cookie_echoed, sends_data}
use Rattle.sctp_wire_types.specs.declared.chunk.ChunkReconfig.{ChunkReconfig}
use Rattle.sctp_wire_types.specs.declared.packet.CommonHeader.{CommonHeader}
use Rattle.sctp_wire_types.specs.Checks.{checked_chunk}
use Rattle.sctp_assoc.specs.Chunks.{checked_first, dispatched, on_chunk}
use Rattle.sctp_assoc.specs.Handshake.{acknowledges_again}
use Rattle.sctp_assoc.specs.Shutdown.{shutdown_taken, shutdown_answered}
use Rattle.sctp_assoc.specs.Skipping.{skips_of}
use Rattle.sctp_course_sides.specs.Following.{IsNoGreeting}

-- Numbers

few_of : (n m k : ℕ) → n ≤ m → m < k → n < k
few_of n m k e f = omega (arith, e, f)

few_below : (n m k : ℕ) → n < m → m < k → n < k
few_below n m k e f = omega (arith, e, f)

few_counts : (n m k : ℕ) → n ≤ m → m < 2 ^ 31 → k ≤ n + 2 → k < 2 ^ 32
few_counts n m k e f g = omega (arith, e, f, g)

few_more : (m : ℕ) → m < 2 ^ 31 → m < 2 ^ 32
few_more m e = omega (arith, e)

same_at_most : (m k : ℕ) → m ≡ k → m ≤ k
same_at_most m k e = omega (arith, e)

-- What is performed by the end of the chunk:
module _ (initial : ℕ) (d : Course) where
  -- A response to a request of this side

  responded_stays : (a : Shown) (x : Beside × TimerChange) → x.0.0.peer ≡ a.resets.peer
      → (Own initial d a.resets.own → Own initial d x.0.0.own) → Stays initial d a (responded_with a x)
  responded_stays a ((r, m, told), change) peer own =
      record { peer = peer; truth = λ w. record { own = own w.own; control = w.control } }

  response_stays : (a : Shown) (response : ParamReconfigResponse) → Stays initial d a (on_response a response)
  unfolding on_response
  response_stays a response =
      let x : OwnView × Answered = requests.answered a.resets.own response in
      responded_stays a (responded response a.resets a.streams a.events)
      (responded_peer x a.resets a.streams a.events)
      (λ h. subst (Own initial d) (sym (responded_own x a.resets a.streams a.events))
      (answered_truly (IsOfPerformed initial d) a.resets.own response h))

  -- A request of the peer

  stopped_truly : (stops : Bool) (a : Shown) → AnswersTruly initial a d → AnswersTruly initial (stopped_if stops a) d
  stopped_truly true a w = same_answers initial d a _ refl refl w
  stopped_truly false a w = w

  handled_truly : (a : Shown) (number : ℕ) (x : Resetting × Handled) → Own initial d x.0.0.own
      → (IsSuccess x.1.answer → IsOfPerformed initial d number) → AnswersTruly initial a d
      → AnswersTruly initial (handled_with a number x) d
  handled_truly a number ((r, e), h) own says w =
      let b : Shown = with_resetting a (r, e) in
      responding_truly initial d (asking_if h.asks (stopped_if h.confirms b)) number h.answer says
      (asking_if_truly initial d h.asks (stopped_if h.confirms b)
      (stopped_truly h.confirms b (resetting_truly initial d a (r, e) own w)))

-- The course behind and before the chunk, and numbers that tell its requests apart:
module _ (initial id : ℕ) (c d : Course) (few : length c.asked < 2 ^ 31) (small : d.performed < 2 ^ 31) where
  -- a number is that of one of the first requests
  abbrev IsEarly : ℕ → Type 0
  IsEarly number = (index : ℕ) × (index < 2 ^ 31) × (number ≡ tsn initial index)

  arrived_stepped : (n number first limit : ℕ) (confirms : Bool) (a : Shown) (y : PeerView × Arrival) (r : ResetsView)
      (e : Channels) → IsEarly number → ArrivesTruly initial n number y
      → (AnswersTruly initial a d → Own initial d r.own)
      → Stepped initial d n 1 a (handled_with a number (arrived_with confirms first limit y r e))
  arrived_stepped n number first limit confirms a (p, arrivals.Answered result) r e early t own =
      let z : Resetting × Handled = arrived_with confirms first limit (p, arrivals.Answered result) r e in
      record {
        count = n;
        least = omega arith;
        most = omega arith;
        completed = subst (IsCompletedUpTo initial n) (sym (handled_is_peer a number z)) t.0;
        truth = λ known w.
            handled_truly initial d a number z (own w)
            (λ (s : IsSuccess result). completed_is_true initial d n early.0 number early.1
            (few_of n d.performed (2 ^ 31) known small) known early.2 (t.1 s))
            w;
      }
  arrived_stepped n number first limit confirms a (p, arrivals.Performed q) r e early t own =
      let s : ResetsView = record r { peer = p } in
      let y : Resetting × Bool = performed q first limit s e in
      let z : Resetting × Handled = resets.with_answer confirms (arrivals.Performed q) y in
      record {
        count = n + 1;
        least = omega arith;
        most = omega arith;
        completed =
            subst (IsCompletedUpTo initial (n + 1))
            (sym (handled_is_peer a number z ∙ answer_peer confirms (arrivals.Performed q) y
            ∙ performed_peer q first limit s e))
            t.0;
        truth = λ known w.
            (let one : IsOfPerformed initial d q.number = performed_is_true initial d n q.number known t.1 in
            handled_truly initial d a number z
            (subst (Own initial d) (sym (answer_own confirms (arrivals.Performed q) y))
            (performed_own initial d q first limit s e one (own w)))
            (λ success. performed_is_true initial d n number known t.2)
            w);
      }

  handled_stepped : (n : ℕ) (a : Shown) (param : ParamOutgoingResetRequest) (t first limit : ℕ) (x : Beside × Bool)
      → IsEarly param.reconfig_request_sequence_number → IsCompletedUpTo initial n x.0.0.peer
      → (AnswersTruly initial a d → Own initial d x.0.0.own)
      → Stepped initial d n 1 a
      (handled_with a param.reconfig_request_sequence_number
      (handled_behind param t first limit (channels_of a) x))
  handled_stepped n a param t first limit ((r, m, told), confirms) early h own =
      let e : Channels = channels_of a in
      arrived_stepped n param.reconfig_request_sequence_number first limit confirms a
      (arrived r.peer (request_of param) t) r (record e { streams = m; events = told }) early
      (arrives_truly initial n r.peer (request_of param) t h) own

  request_steps : (a : Shown) (param : ParamOutgoingResetRequest) → IsAskedIn initial id c param
      → Steps initial d 1 a (on_request a param)
  unfolding on_request
  request_steps a param asked n h =
      let number = param.reconfig_response_sequence_number in
      let o : OwnView × Option OwnRequest = requests.confirmed a.resets.own number in
      handled_stepped n a param a.receiver.peer_last_tsn a.sender.queue.next_message_id
      a.receiver.max_receive_message_size (confirmed_by number a.resets a.streams a.events)
      (asked.index, few_below asked.index (length c.asked) (2 ^ 31) asked.asked few, asked.number)
      (subst (IsCompletedUpTo initial n) (sym (confirmed_peer o a.resets a.streams a.events)) h)
      (λ w. subst (Own initial d) (sym (confirmed_own o a.resets a.streams a.events))
      (confirmed_truly (IsOfPerformed initial d) a.resets.own number w.own))

  -- what a parameter of a RE-CONFIG leads to
  pub param_answers : (param : Param) (a : Shown) → ParamComes initial id c param
      → Steps initial d 1 a (after_param param a).0
  param_answers (params.OutgoingResetRequest request) a comes = request_steps a request comes
  param_answers (params.ReconfigResponse response) a comes =
      still initial d 1 a (on_response a response) (response_stays initial d a response)
  param_answers (params.HeartbeatInfo value) a comes = still initial d 1 a a (same initial d a)
  param_answers (params.StateCookie value) a comes = still initial d 1 a a (same initial d a)
  param_answers (params.SupportedExtensions value) a comes = still initial d 1 a a (same initial d a)
  param_answers (params.Other kind value) a comes = still initial d 1 a a (same initial d a)

  second_stays : (x : Shown × Bool) (trigger : AckTrigger) → Stays initial d x.0 (behind_params x trigger).0
  second_stays (a, true) trigger = same initial d a
  second_stays (a, false) trigger = same initial d a

  first_steps : (x : Shown × Bool) (second : Option Param) (trigger : AckTrigger) → ParamComesIf initial id c second
      → Steps initial d 1 x.0 (behind_first x second trigger).0
  first_steps (a, true) None trigger comes = still initial d 1 a a (same initial d a)
  first_steps (a, true) (Some second) trigger comes =
      ahead initial d 1 a (after_param second a).0 _ (param_answers second a comes)
      (second_stays (after_param second a) trigger)
  first_steps (a, false) second trigger comes = still initial d 1 a a (same initial d a)

  reconfig_steps : (a : Shown) (reconfig : ChunkReconfig) (trigger : AckTrigger)
      → ChunkComes initial id c (chunks.Reconfig reconfig) → Steps initial d 2 a (on_reconfig a reconfig trigger).0
  unfolding on_reconfig
  reconfig_steps a reconfig trigger comes =
      let x : Shown × Bool = after_param reconfig.first a in
      two initial d a x.0 _ (param_answers reconfig.first a comes.0) (first_steps x reconfig.second trigger comes.1)

  -- Any chunk

  kind_steps : (header : CommonHeader) (k : Chunk) (a : Shown) (trigger : AckTrigger) (now : ℕ) → IsNoGreeting k
      → ChunkComes initial id c k → Steps initial d 2 a (dispatched a header k trigger now).0
  kind_steps header (chunks.Data piece) a trigger now plain comes =
      at_least_two initial d a _ (data_steps initial d a piece _)
  kind_steps header (chunks.SelectiveAck k) a trigger now plain comes =
      still initial d 2 a _
      (sack_stays initial d (sends_data a.state) a k.cumulative_tsn_ack k.gap_ack_blocks
      k.advertised_receiver_window_credit trigger now refl)
  kind_steps header (chunks.Init x) a trigger now plain comes = absurd plain
  kind_steps header (chunks.InitAck x) a trigger now plain comes = absurd plain
  kind_steps header (chunks.Heartbeat x) a trigger now plain comes =
      still initial d 2 a _ (heartbeat_stays initial d a x trigger)
  kind_steps header (chunks.HeartbeatAck x) a trigger now plain comes = still initial d 2 a a (same initial d a)
  kind_steps header (chunks.Abort x) a trigger now plain comes = still initial d 2 a a (same initial d a)
  kind_steps header (chunks.Shutdown x) a trigger now plain comes =
      still initial d 2 a (shutdown_taken a) (stays_by initial d a (shutdown_taken a) refl refl refl)
  kind_steps header chunks.ShutdownAck a trigger now plain comes =
      still initial d 2 a (shutdown_answered a) (stays_by initial d a (shutdown_answered a) refl refl refl)
  kind_steps header (chunks.Error x) a trigger now plain comes = still initial d 2 a a (same initial d a)
  kind_steps header (chunks.CookieEcho x) a trigger now plain comes =
      still initial d 2 a _
      (cookie_echo_stays initial d (has_issued a.handshake x) (is_beginning a.state) (acknowledges_again a) a x
      trigger refl refl refl)
  kind_steps header chunks.CookieAck a trigger now plain comes =
      still initial d 2 a _ (cookie_ack_stays initial d (is_cookie_echoed a.state) a trigger refl)
  kind_steps header chunks.ShutdownComplete a trigger now plain comes = still initial d 2 a a (same initial d a)
  kind_steps header (chunks.Reconfig x) a trigger now plain comes = reconfig_steps a x trigger comes
  kind_steps header (chunks.ForwardTsn x) a trigger now plain comes =
      at_least_two initial d a _ (forward_steps initial d a x.new_cumulative_tsn x.streams trigger now)
  kind_steps header (chunks.IForwardTsn x) a trigger now plain comes =
      at_least_two initial d a _ (forward_steps initial d a x.new_cumulative_tsn (skips_of x.entries) trigger now)
  kind_steps header (chunks.Other kind flags value) a trigger now plain comes = still initial d 2 a a (same initial d a)

  checked_steps : (r : Result (Unit {0}) Error) (header : CommonHeader) (k : Chunk) (a : Shown) (trigger : AckTrigger)
      (now : ℕ) → IsNoGreeting k → ChunkComes initial id c k
      → Steps initial d 2 a (checked_first r a header k trigger now).0
  checked_steps (Err fault) header k a trigger now plain comes = still initial d 2 a a (same initial d a)
  checked_steps (Ok done) header k a trigger now plain comes = kind_steps header k a trigger now plain comes

  pub chunk_steps : (header : CommonHeader) (k : Chunk) (a : Shown) (trigger : AckTrigger) (now : ℕ)
      → IsNoGreeting k → ChunkComes initial id c k → Steps initial d 2 a (on_chunk a header k trigger now).0
  unfolding on_chunk
  chunk_steps header k a trigger now plain comes =
      checked_steps (checked_chunk k) header k a trigger now plain comes

-- Whatever chunk comes, what is said stays true, where the course performs as many requests as the side completes.
pub chunk_answers : (initial id : ℕ) (a : Shown) (header : CommonHeader) (chunk : Chunk) (trigger : AckTrigger)
    (now : ℕ) (c d : Course) → length d.asked < 2 ^ 31 → d.performed ≤ length d.asked → d.asked ≡ c.asked
    → c.performed ≤ d.performed → IsCompletedUpTo initial c.performed a.resets.peer
    → IsCompletedUpTo initial d.performed (on_chunk a header chunk trigger now).0.resets.peer → IsNoGreeting chunk
    → ChunkComes initial id c chunk → AnswersTruly initial a c
    → AnswersTruly initial (on_chunk a header chunk trigger now).0 d
chunk_answers initial id a header chunk trigger now c d few performed asked grows before after plain comes w =
    let b : Shown = (on_chunk a header chunk trigger now).0 in
    let few_before : length c.asked < 2 ^ 31 = subst (λ (rs : List Request). length rs < 2 ^ 31) asked few in
    let small : d.performed < 2 ^ 31 = few_of d.performed (length d.asked) (2 ^ 31) performed few in
    let s : Stepped initial d c.performed 2 a b =
    chunk_steps initial id c d few_before small header chunk a trigger now plain comes c.performed before in
    let same_count : s.count ≡ d.performed =
    completed_once initial s.count d.performed b.resets.peer
    (few_counts c.performed d.performed s.count grows small s.most) (few_more d.performed small) s.completed after in
    s.truth (same_at_most s.count d.performed same_count) (answers_grow initial c d grows a w)
