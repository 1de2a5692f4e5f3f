-- A step of a side keeps what it says true of the course of a stream of its peer, or performs one more request: DATA,
-- SACK, FORWARD TSN, and what of the handshake is no greeting.
use Rattle.std.proofs.Common.{◌≡◌, refl, sym, ◌∙◌, subst, ℕ, ◌+◌, ◌≤◌, Bool, true, false, if◌then◌else◌, arith, not}
use Rattle.std.proofs.Common.{List, [], ◌∷◌, Option, Some, None, is_some}
use Rattle.sctp_wire_types.specs.declared.chunk.Chunk.{Chunk}
use Rattle.sctp_wire_types.specs.declared.chunk.Chunk.TheVariants as chunks
use Rattle.sctp_wire_types.specs.declared.chunk.ChunkHeartbeat.{ChunkHeartbeat}
use Rattle.sctp_wire_types.specs.declared.chunk.ChunkPayloadData.{ChunkPayloadData}
use Rattle.sctp_wire_types.specs.declared.chunk.GapAckBlock.{GapAckBlock}
use Rattle.sctp_wire_types.specs.declared.chunk.SkippedStream.{SkippedStream}
use Rattle.sctp_wire_types.specs.declared.error.Error.{Error}
use Rattle.sctp_streams.specs.Streams.{StreamMap, generation_left, is_readable_in, pushed_in, refusal_in, stream_at}
use Rattle.sctp_inbound.specs.declared.receiver.AckTrigger.{AckTrigger}
use Rattle.sctp_inbound.specs.Greeting.{information_of}
use Rattle.sctp_inbound.specs.Handshake.{has_issued}
use Rattle.sctp_inbound.specs.Receiver.{admits, is_new_to, taken_to}
use Rattle.sctp_outbound.specs.declared.sender.SackOutcome.{SackOutcome}
use Rattle.sctp_outbound.specs.declared.sender.SackOutcome.TheVariants as outcomes
use Rattle.sctp_outbound.specs.Sender.{sack_outcome}
use Rattle.sctp_reset_requests.specs.Laws.{IsCompletedUpTo}
use Rattle.sctp_reset_requests.specs.Own.{OwnView}
use Rattle.sctp_reset_requests.specs.Peer.{PeerView, advanced}
use Rattle.sctp_reset_requests.specs.Request.{PeerRequestView}
use Rattle.sctp_resets.specs.Channels.{Channels}
use Rattle.sctp_resets.specs.Performing.{Performing, answered_in, named_in, performing, retired_each}
use Rattle.sctp_resets.specs.Resets.{Beside, ResetsView, Resetting, performed, performed_with, settled_by}
use Rattle.sctp_resets.specs.Resets.{settled_where, skips_done, skips_done_of}
use Rattle.sctp_resets.specs.Resets as resets
use Rattle.sctp_resets.specs.Skips as skips
use Rattle.sctp_courses.specs.Course.{Course}
use Rattle.sctp_assoc.specs.Calls.{is_beginning, is_cookie_echoed, sends_data}
use Rattle.sctp_assoc.specs.Chunks.{after_sack, asks, asks_or_faults, counted_data, counted_sack, deferred_unless}
use Rattle.sctp_assoc.specs.Chunks.{deferred_where_admitted, goes_unread, left_or_handed_over, on_counted_sack}
use Rattle.sctp_assoc.specs.Chunks.{on_data, on_new_data, on_sack, stream_found, taken_in, taken_unless}
use Rattle.sctp_assoc.specs.Chunks.{taken_where_admitted, then_skips, told, with_message}
use Rattle.sctp_assoc.specs.Closing.{is_exhausted}
use Rattle.sctp_assoc.specs.Control.{queued}
use Rattle.sctp_assoc.specs.Finding.{found_for}
use Rattle.sctp_assoc.specs.Handshake.{acknowledges_again, connected, information_returned, on_cookie_ack}
use Rattle.sctp_assoc.specs.Handshake.{on_cookie_echo, on_heartbeat}
use Rattle.sctp_assoc.specs.Probes.{forgiven_if, is_probing, marked_if, probes_answered}
use Rattle.sctp_assoc.specs.Resets.{asking_if, channels_of, settled, settled_with, skips_applied_of, with_beside}
use Rattle.sctp_assoc.specs.Resets.{with_resetting}
use Rattle.sctp_assoc.specs.Shown.{Shown, all_waiting}
use Rattle.sctp_assoc.specs.Shutdown.{shutdown_again, shutdown_continued}
use Rattle.sctp_assoc.specs.Skipping.{acknowledged_at_once, asks_behind, on_forward, unrecognized_chunk, with_passed}
use Rattle.sctp_assoc.specs.Skipping.{with_skip, with_skips}
use Rattle.sctp_assoc.proofs.Probes.{probes_keep}
use Rattle.sctp_assoc.proofs.StreamsFound.{found_for_keeps}
use Rattle.sctp_sides.proofs.ForwardKinds.{forward_is_one_of}
use Rattle.sctp_sides.proofs.PeerRequestsInChunks.{flow_same}
use Rattle.sctp_course_sides.specs.Answers.{AnswersTruly, ChunkIsTrue, IsOfPerformed}
use Rattle.sctp_course_sides.proofs.TruthBeside.{asking_if_truly, queued_truly, resetting_truly, responding_truly}
use Rattle.sctp_course_sides.proofs.TruthBeside.{same_answers}
use Rattle.sctp_course_sides.proofs.TruthOfRequests.{AdvancesTruly, OwnIsTrue, advances_truly, at_most}
use Rattle.sctp_course_sides.proofs.TruthOfRequests.{performed_is_true, reciprocated_truly}
use Rattle.sctp_course_sides.proofs.TruthOfResets.{performed_peer, skips_peer, skips_own, settled_one_peer}

-- Numbers

one_more : (n m k : ℕ) → m ≤ n + 1 → k ≤ m + 1 → k ≤ n + 2
one_more n m k e f = omega (arith, e, f)

up_to_two : (n m : ℕ) → m ≤ n + 1 → m ≤ n + 2
up_to_two n m e = omega (arith, e)

-- What is performed by the end of the chunk:
module _ (initial : ℕ) (d : Course) where
  abbrev pub Own : OwnView → Type 0
  Own o = OwnIsTrue (IsOfPerformed initial d) o

  -- A step leaves the peer's requests, and what is said stays true.
  pub record Stays (a b : Shown) : Type 0 where
    pub peer : b.resets.peer ≡ a.resets.peer
    pub truth : AnswersTruly initial a d → AnswersTruly initial b d

  -- Behind a step so many of the peer's requests are completed, some more than before; where these were performed, what
  -- is said stays true.
  pub record Stepped (n k : ℕ) (a b : Shown) : Type 0 where
    pub count : ℕ
    pub least : n ≤ count
    pub most : count ≤ n + k
    pub completed : IsCompletedUpTo initial count b.resets.peer
    pub truth : count ≤ d.performed → AnswersTruly initial a d → AnswersTruly initial b d

  abbrev pub Steps : ℕ → Shown → Shown → Type 0
  Steps k a b = (n : ℕ) → IsCompletedUpTo initial n a.resets.peer → Stepped n k a b

  -- Steps in general

  pub stays_by : (a b : Shown) → b.resets.own ≡ a.resets.own → b.resets.peer ≡ a.resets.peer → b.control ≡ a.control
      → Stays a b
  stays_by a b own peer control = record { peer = peer; truth = same_answers initial d a b own control }

  pub same : (a : Shown) → Stays a a
  same a = stays_by a a refl refl refl

  pub then_stays : (a b c : Shown) → Stays a b → Stays b c → Stays a c
  then_stays a b c x y = record { peer = y.peer ∙ x.peer; truth = λ w. y.truth (x.truth w) }

  pub queued_stays : (a : Shown) (chunk : Chunk) → ChunkIsTrue initial d chunk → Stays a (queued a chunk)
  queued_stays a chunk h = record { peer = refl; truth = queued_truly initial d a chunk h }

  pub still : (k : ℕ) (a b : Shown) → Stays a b → Steps k a b
  still k a b s n h = record {
    count = n;
    least = omega arith;
    most = omega arith;
    completed = subst (IsCompletedUpTo initial n) (sym s.peer) h;
    truth = λ known w. s.truth w;
  }

  pub behind : (k : ℕ) (a b c : Shown) → Stays a b → Steps k b c → Steps k a c
  behind k a b c s t n h =
      let u : Stepped n k b c = t n (subst (IsCompletedUpTo initial n) (sym s.peer) h) in
      record {
        count = u.count;
        least = u.least;
        most = u.most;
        completed = u.completed;
        truth = λ known w. u.truth known (s.truth w);
      }

  pub ahead : (k : ℕ) (a b c : Shown) → Steps k a b → Stays b c → Steps k a c
  ahead k a b c t s n h =
      let u : Stepped n k a b = t n h in
      record {
        count = u.count;
        least = u.least;
        most = u.most;
        completed = subst (IsCompletedUpTo initial u.count) (sym s.peer) u.completed;
        truth = λ known w. s.truth (u.truth known w);
      }

  pub two : (a b c : Shown) → Steps 1 a b → Steps 1 b c → Steps 2 a c
  two a b c s t n h =
      let u : Stepped n 1 a b = s n h in
      let v : Stepped u.count 1 b c = t u.count u.completed in
      record {
        count = v.count;
        least = at_most n u.count v.count u.least v.least;
        most = one_more n u.count v.count u.most v.most;
        completed = v.completed;
        truth = λ known w. v.truth known (u.truth (at_most u.count v.count d.performed v.least known) w);
      }

  pub at_least_two : (a b : Shown) → Steps 1 a b → Steps 2 a b
  at_least_two a b s n h =
      let u : Stepped n 1 a b = s n h in
      record {
        count = u.count;
        least = u.least;
        most = up_to_two n u.count u.most;
        completed = u.completed;
        truth = u.truth;
      }

  -- A request of the peer is performed where it is due

  pub released_own : (q : PeerRequestView) (first limit : ℕ) (r : ResetsView) (to_accept named : List ℕ)
      (x : Performing × List ℕ) → IsOfPerformed initial d q.number → Own r.own
      → Own (performed_with q first limit r to_accept named x).0.0.own
  released_own q first limit r to_accept named (p, ids) one h =
      reciprocated_truly (IsOfPerformed initial d) r.own q ids one h

  pub performed_own : (q : PeerRequestView) (first limit : ℕ) (r : ResetsView) (e : Channels)
      → IsOfPerformed initial d q.number → Own r.own → Own (performed q first limit r e).0.0.own
  unfolding performed
  performed_own q first limit r e one h =
      let named : List ℕ = named_in r.own e.streams q in
      released_own q first limit r e.to_accept named
      (answered_in r.own named (retired_each q (performing r.generations r.debts e.streams e.events))) one h

  pub settled_one_truly : (a : Shown) (q : PeerRequestView) (y : Resetting × Bool) → IsOfPerformed initial d q.number
      → Own y.0.0.own → AnswersTruly initial a d → AnswersTruly initial (settled_with a (settled_by q y)) d
  settled_one_truly a q ((r, e), asks_for) one own w =
      let b : Shown = with_resetting a (r, e) in
      responding_truly initial d (asking_if asks_for b) q.number _ (λ s. one)
      (asking_if_truly initial d asks_for b (resetting_truly initial d a (r, e) own w))

  pub settled_where_stepped : (n : ℕ) (a : Shown) (x : PeerView × Option PeerRequestView) (first limit : ℕ)
      → AdvancesTruly initial n x
      → Stepped n 1 a (settled_with a (settled_where x first limit a.resets (channels_of a)))
  settled_where_stepped n a (p, None) first limit t = record {
    count = n;
    least = omega arith;
    most = omega arith;
    completed = t;
    truth = λ known w. record { own = w.own; control = w.control };
  }
  settled_where_stepped n a (p, Some q) first limit t =
      let r : ResetsView = a.resets in
      let s : ResetsView = record r { peer = p } in
      let e : Channels = channels_of a in
      let y : Resetting × Bool = performed q first limit s e in
      record {
        count = n + 1;
        least = omega arith;
        most = omega arith;
        completed =
            subst (IsCompletedUpTo initial (n + 1)) (sym (settled_one_peer a q y ∙ performed_peer q first limit s e))
            t.0;
        truth = λ known w.
            (let one : IsOfPerformed initial d q.number = performed_is_true initial d n q.number known t.1 in
            settled_one_truly a q y one (performed_own q first limit s e one w.own) w);
      }

  pub beside_stays : (a : Shown) (x : Beside) → x.0.own ≡ a.resets.own → x.0.peer ≡ a.resets.peer
      → Stays a (with_beside a x)
  beside_stays a (r, m, told) own peer = stays_by a (with_beside a (r, m, told)) own peer refl

  pub settled_steps : (a : Shown) → Steps 1 a (settled a)
  unfolding settled
  settled_steps a =
      let t = a.receiver.peer_last_tsn in
      let first = a.sender.queue.next_message_id in
      let limit = a.receiver.max_receive_message_size in
      let b : Shown = settled_with a (resets.settled t first limit a.resets (channels_of a)) in
      let kept = skips.skips_applied (b.resets.generations, b.streams, b.events) in
      ahead 1 a b _
      (λ n h. settled_where_stepped n a (advanced a.resets.peer t) first limit
      (advances_truly initial n a.resets.peer t h))
      (beside_stays b (skips_done b.resets b.streams b.events) (skips_own b.resets kept) (skips_peer b.resets kept))

  pub skipping_stays : (id : ℕ) (a : Shown) → Stays a (skips_applied_of id a)
  skipping_stays id a =
      let kept = skips.skips_applied_of (a.resets.generations, a.streams, a.events) id in
      beside_stays a (skips_done_of id a.resets a.streams a.events) (skips_own a.resets kept) (skips_peer a.resets kept)

  -- DATA

  pub found_stays : (there left : Bool) (a : Shown) (id : ℕ) → is_some (stream_at a.streams id) ≡ there
      → generation_left a.streams ≡ left → Stays a (stream_found a id).0
  unfolding stream_found
  found_stays true left a id e f = rw e (same a)
  found_stays false true a id e f = rw (e, f) (stays_by a _ refl refl refl)
  found_stays false false a id e f = rw (e, f) (same a)

  pub told_stays : (readable taken : Bool) (a : Shown) (id : ℕ) → is_readable_in a.streams id ≡ readable
      → Stays a (told a id taken)
  told_stays true true a id e = rw e (stays_by a _ refl refl refl)
  told_stays false true a id e = rw e (stays_by a _ refl refl refl)
  told_stays readable false a id e = stays_by a _ refl refl refl

  pub message_stays : (a : Shown) (piece : ChunkPayloadData) (x : StreamMap × Bool) → Stays a (with_message a piece x)
  message_stays a piece (streams, taken) =
      let b : Shown = record a { streams = streams; receiver = taken_to a.receiver piece.tsn } in
      then_stays a b _ (stays_by a b refl refl refl)
      (told_stays (is_readable_in streams piece.stream_identifier) taken b piece.stream_identifier refl)

  pub taken_unless_stays : (refusal : Option Error) (a : Shown) (piece : ChunkPayloadData)
      → Stays a (taken_unless refusal a piece).0
  taken_unless_stays (Some fault) a piece = same a
  taken_unless_stays None a piece = message_stays a piece (pushed_in a.streams piece.stream_identifier piece)

  pub left_stays : (left : Bool) (a : Shown) (piece : ChunkPayloadData)
      → Stays a (left_or_handed_over left a piece).0
  left_stays true a piece = stays_by a _ refl refl refl
  left_stays false a piece =
      taken_unless_stays (refusal_in a.streams piece.stream_identifier piece a.receiver.max_receive_message_size) a
      piece

  pub taken_stays : (a : Shown) (piece : ChunkPayloadData) → Stays a (taken_in a piece).0
  unfolding taken_in
  taken_stays a piece = left_stays (goes_unread a piece) a piece

  pub then_skips_stays : (x : Shown × Option Error) (id : ℕ) → Stays x.0 (then_skips x id).0
  then_skips_stays (a, None) id = skipping_stays id a
  then_skips_stays (a, Some fault) id = same a

  pub admitted_stays : (credit : Bool) (a : Shown) (piece : ChunkPayloadData)
      → Stays a (if credit then then_skips (taken_in a piece) piece.stream_identifier else (a, None)).0
  admitted_stays true a piece =
      then_stays a (taken_in a piece).0 _ (taken_stays a piece)
      (then_skips_stays (taken_in a piece) piece.stream_identifier)
  admitted_stays false a piece = same a

  pub deferred_unless_stays : (refusal : Option Error) (a : Shown) (piece : ChunkPayloadData)
      → Stays a (deferred_unless refusal a piece).0
  deferred_unless_stays (Some fault) a piece = same a
  deferred_unless_stays None a piece = stays_by a _ refl refl refl

  pub deferred_if_stays : (credit : Bool) (refusal : Option Error) (a : Shown) (piece : ChunkPayloadData)
      → Stays a (if credit then deferred_unless refusal a piece else (a, None)).0
  deferred_if_stays true refusal a piece = deferred_unless_stays refusal a piece
  deferred_if_stays false refusal a piece = same a

  pub deferred_stays : (a : Shown) (piece : ChunkPayloadData) → Stays a (deferred_where_admitted a piece).0
  unfolding deferred_where_admitted
  deferred_stays a piece =
      deferred_if_stays (admits a.receiver piece.tsn (all_waiting a))
      (resets.refusal_of a.resets piece a.receiver.max_receive_message_size) a piece

  pub settled_asks_steps : (a : Shown) (immediate : Bool) (trigger : AckTrigger)
      → Steps 1 a (asks (settled a) immediate trigger).0
  settled_asks_steps a immediate trigger =
      subst (λ (z : Shown). Steps 1 a z) (sym (flow_same (is_exhausted (settled a)) (settled a) _ _)) (settled_steps a)

  pub faults_steps : (x : Shown × Option Error) (immediate : Bool) (trigger : AckTrigger)
      → Steps 1 x.0 (asks_or_faults x immediate trigger).0
  faults_steps (a, None) immediate trigger = settled_asks_steps a immediate trigger
  faults_steps (a, Some fault) immediate trigger = still 1 a a (same a)

  pub new_data_steps : (x : Shown × Bool) (piece : ChunkPayloadData) (trigger : AckTrigger)
      → Steps 1 x.0 (on_new_data x piece trigger).0
  new_data_steps (a, false) piece trigger = still 1 a a (same a)
  new_data_steps (a, true) piece trigger =
      behind 1 a (taken_where_admitted a piece).0 _
      (admitted_stays (admits a.receiver piece.tsn (all_waiting a)) a piece)
      (faults_steps (taken_where_admitted a piece) piece.immediate_sack trigger)

  pub counted_data_steps : (next hidden : Bool) (a : Shown) (piece : ChunkPayloadData) (trigger : AckTrigger)
      → Steps 1 a
      (if not next then asks (settled a) piece.immediate_sack trigger else
      if hidden then asks_or_faults (deferred_where_admitted a piece) piece.immediate_sack trigger else
      on_new_data (stream_found a piece.stream_identifier) piece trigger).0
  counted_data_steps false hidden a piece trigger = settled_asks_steps a piece.immediate_sack trigger
  counted_data_steps true true a piece trigger =
      behind 1 a (deferred_where_admitted a piece).0 _ (deferred_stays a piece)
      (faults_steps (deferred_where_admitted a piece) piece.immediate_sack trigger)
  counted_data_steps true false a piece trigger =
      behind 1 a (stream_found a piece.stream_identifier).0 _
      (found_stays (is_some (stream_at a.streams piece.stream_identifier)) (generation_left a.streams) a
      piece.stream_identifier refl refl)
      (new_data_steps (stream_found a piece.stream_identifier) piece trigger)

  pub data_steps : (a : Shown) (piece : ChunkPayloadData) (trigger : AckTrigger) → Steps 1 a (on_data a piece trigger).0
  unfolding on_data
  data_steps a piece trigger =
      let b : Shown = counted_data a in
      behind 1 a b _ (stays_by a b refl refl refl)
      (counted_data_steps (is_new_to b.receiver piece.tsn)
      (resets.is_hidden b.resets piece.stream_identifier piece.tsn) b piece trigger)

  -- SACK

  -- probes of a closed window are answered
  pub probes_stay : (probing : Bool) (window : ℕ) (a : Shown) → Stays a (probes_answered probing window a)
  probes_stay probing window a =
      probes_keep (λ (b : Shown). Stays a b)
      (λ (b : Shown) (s : Stays a b).
      then_stays a b (forgiven_if true b) s (stays_by b (forgiven_if true b) refl refl refl))
      (λ (b : Shown) (s : Stays a b).
      then_stays a b (marked_if true b) s (stays_by b (marked_if true b) refl refl refl)) probing window a (same a)

  pub outcome_stays : (o : SackOutcome) (a : Shown) (cumulative_tsn_ack : ℕ) (blocks : List GapAckBlock) (window : ℕ)
      (trigger : AckTrigger) (now : ℕ)
      → Stays a (on_counted_sack o a cumulative_tsn_ack blocks window trigger now).0
  outcome_stays outcomes.Older a cumulative_tsn_ack blocks window trigger now = same a
  outcome_stays outcomes.NotInFlight a cumulative_tsn_ack blocks window trigger now = same a
  outcome_stays outcomes.NamesTheUnsent a cumulative_tsn_ack blocks window trigger now = same a
  outcome_stays outcomes.Taken a cumulative_tsn_ack blocks window trigger now =
      let b : Shown = shutdown_continued (after_sack a cumulative_tsn_ack blocks window now) in
      then_stays a b (probes_answered (is_probing a.profile a.sender) window b) (stays_by a b refl refl refl)
      (probes_stay (is_probing a.profile a.sender) window b)

  pub sack_stays : (sends : Bool) (a : Shown) (cumulative_tsn_ack : ℕ) (blocks : List GapAckBlock) (window : ℕ)
      (trigger : AckTrigger) (now : ℕ) → sends_data a.state ≡ sends
      → Stays a (on_sack a cumulative_tsn_ack blocks window trigger now).0
  unfolding on_sack
  sack_stays true a cumulative_tsn_ack blocks window trigger now e =
      rw e (then_stays a (counted_sack a) _ (stays_by a (counted_sack a) refl refl refl)
      (outcome_stays (sack_outcome a.sender cumulative_tsn_ack blocks) (counted_sack a) cumulative_tsn_ack blocks window
      trigger now))
  sack_stays false a cumulative_tsn_ack blocks window trigger now e = rw e (same a)

  -- FORWARD TSN

  -- the streams on which it skips are found or made
  pub founds_stay : (tsn : ℕ) (es : List SkippedStream) (a : Shown) → Stays a (found_for tsn es a)
  founds_stay tsn es a =
      found_for_keeps (λ (b : Shown). Stays a b)
      (λ (b : Shown) (id : ℕ) (s : Stays a b).
      then_stays a b (stream_found b id).0 s
      (found_stays (is_some (stream_at b.streams id)) (generation_left b.streams) b id refl refl)) tsn es a (same a)

  pub skip_stays : (retires : Bool) (tsn id ssn : ℕ) (a : Shown) → resets.is_retiring a.resets id ≡ retires
      → Stays a (with_skip tsn id ssn a)
  unfolding with_skip
  skip_stays true tsn id ssn a e = rw e (stays_by a _ refl refl refl)
  skip_stays false tsn id ssn a e = rw e (stays_by a _ refl refl refl)

  pub skips_stay : (tsn : ℕ) (es : List SkippedStream) (a : Shown) → Stays a (with_skips tsn es a)
  skips_stay tsn [] a = same a
  skips_stay tsn (e ∷ es) a =
      let b : Shown = with_skip tsn e.stream_identifier e.stream_sequence_number a in
      then_stays a b _
      (skip_stays (resets.is_retiring a.resets e.stream_identifier) tsn e.stream_identifier e.stream_sequence_number a
      refl)
      (skips_stay tsn es b)

  pub passed_steps : (a : Shown) (tsn : ℕ) (es : List SkippedStream) (trigger : AckTrigger)
      → Steps 1 a (asks_behind (settled (with_passed (with_skips tsn es a) tsn)) trigger).0
  passed_steps a tsn es trigger =
      let b : Shown = with_skips tsn es a in
      let e : Shown = with_passed b tsn in
      subst (λ (z : Shown). Steps 1 a z) (sym (flow_same (is_exhausted (settled e)) (settled e) _ _))
      (behind 1 a b (settled e) (skips_stay tsn es a)
      (behind 1 b e (settled e) (stays_by b e refl refl refl) (settled_steps e)))

  pub forward_steps : (a : Shown) (tsn : ℕ) (es : List SkippedStream) (trigger : AckTrigger) (now : ℕ)
      → Steps 1 a (on_forward a tsn es trigger now).0
  forward_steps a tsn es trigger now =
      forward_is_one_of tsn es (λ b x. Steps 1 b x.0) trigger now
      (λ b e. still 1 b _ (queued_stays b unrecognized_chunk tt))
      (λ b e f. still 1 b (acknowledged_at_once b now) (stays_by b (acknowledged_at_once b now) refl refl refl))
      (λ b e f. passed_steps b tsn es trigger)
      (λ b x s. behind 1 b (found_for tsn es b) x.0 (founds_stay tsn es b) s)
      a

  -- Chunks of the handshake that are no greeting, and beside it

  pub cookie_echo_stays : (issued begins again : Bool) (a : Shown) (cookie : List ℕ) (trigger : AckTrigger)
      → has_issued a.handshake cookie ≡ issued → is_beginning a.state ≡ begins → acknowledges_again a ≡ again
      → Stays a (on_cookie_echo a cookie trigger).0
  unfolding on_cookie_echo
  cookie_echo_stays false begins again a cookie trigger e f g = rw e (same a)
  cookie_echo_stays true true again a cookie trigger e f g =
      rw (e, f) (then_stays a (connected a) _ (stays_by a (connected a) refl refl refl)
      (queued_stays (connected a) chunks.CookieAck tt))
  cookie_echo_stays true false true a cookie trigger e f g =
      rw (e, f, g) (then_stays a (shutdown_again a) _ (stays_by a (shutdown_again a) refl refl refl)
      (queued_stays (shutdown_again a) chunks.CookieAck tt))
  cookie_echo_stays true false false a cookie trigger e f g = rw (e, f, g) (same a)

  pub cookie_ack_stays : (echoed : Bool) (a : Shown) (trigger : AckTrigger) → is_cookie_echoed a.state ≡ echoed
      → Stays a (on_cookie_ack a trigger).0
  unfolding on_cookie_ack
  cookie_ack_stays true a trigger e = rw e (stays_by a (connected a) refl refl refl)
  cookie_ack_stays false a trigger e = rw e (same a)

  pub information_stays : (o : Option (List ℕ)) (a : Shown) → Stays a (information_returned o a)
  information_stays None a = same a
  information_stays (Some information) a = queued_stays a _ tt

  pub heartbeat_stays : (a : Shown) (heartbeat : ChunkHeartbeat) (trigger : AckTrigger)
      → Stays a (on_heartbeat a heartbeat trigger).0
  unfolding on_heartbeat
  heartbeat_stays a heartbeat trigger = information_stays (information_of heartbeat.params) a
