-- A FORWARD TSN that comes keeps a side on the course of a stream.
use Rattle.std.proofs.Common.{◌≡◌, refl, sym, ap, ◌∙◌, subst, ℕ, suc, ◌+◌, ◌^◌, ◌<◌, ◌≤◌, Bool, true, false, not}
use Rattle.std.proofs.Common.{◌&&◌, if◌then◌else◌, is_some, nat_lt, List, [], ◌∷◌, ◌++◌, arith}
use Rattle.sctp_serial.specs.Serial.{tsn, tsn_past}
use Rattle.sctp_wire_types.specs.declared.chunk.ChunkPayloadData.{ChunkPayloadData}
use Rattle.sctp_wire_types.specs.declared.chunk.SkippedStream.{SkippedStream}
use Rattle.sctp_model.specs.Packets.{mem}
use Rattle.sctp_streams.specs.Stream.{stream_skipped}
use Rattle.sctp_streams.specs.Streams.{StreamMap, becomes_ready_in, changed_stream, generation_left, passed_in}
use Rattle.sctp_streams.specs.Streams.{stream_at}
use Rattle.sctp_inbound.specs.declared.receiver.AckTrigger.{AckTrigger}
use Rattle.sctp_inbound.specs.declared.receiver.Receiver.{Receiver}
use Rattle.sctp_inbound.specs.Receiver.{is_behind}
use Rattle.sctp_resets.specs.Resets as resets
use Rattle.sctp_resets.specs.Resets.{is_retiring, without_unordered}
use Rattle.sctp_fit.specs.HeldSet.{HoldsPast}
use Rattle.sctp_outbound.specs.declared.sender.Sender.{Sender}
use Rattle.sctp_courses.specs.Course.{Course}
use Rattle.sctp_reset_fit.specs.Keeping.{GoesOn, GoesOnBeside, KeepsCourse}
use Rattle.sctp_reset_fit.specs.Stands.{last_below}
use Rattle.sctp_reset_fit.proofs.Keeping.{beside_keeps, goes_leaves, keeps_same, keeps_then}
use Rattle.sctp_reset_fit.proofs.Skipping.{passed_keeps, skip_alone, skip_keeps, stream_skip_keeps, unordered_alone}
use Rattle.sctp_reset_fit.proofs.Skipping.{unordered_keeps}
use Rattle.sctp_directions.specs.Acts.{History, IsAhead, offset_in, reach_in}
use Rattle.sctp_directions.specs.Acts as acts
use Rattle.sctp_assoc.specs.declared.inbound.Flow.{Flow}
use Rattle.sctp_assoc.specs.Closing.{is_exhausted}
use Rattle.sctp_assoc.specs.Finding.{found_for, stream_found, with_new_stream}
use Rattle.sctp_assoc.specs.Leads.{Binds}
use Rattle.sctp_assoc.specs.Resets.{settled}
use Rattle.sctp_assoc.specs.Shown.{Shown}
use Rattle.sctp_assoc.specs.Skipping.{acknowledged_at_once, asks_behind, is_ahead, on_forward, readable_told, refused}
use Rattle.sctp_assoc.specs.Skipping.{with_passed, with_skip, with_skips}
use Rattle.sctp_assoc.proofs.ForwardCame.{held_passes, last_tsn_passes, lies_ahead}
use Rattle.sctp_assoc.proofs.Leading.{past_itself}
use Rattle.sctp_assoc.proofs.MarksOutstanding.{AreMarkedRight}
use Rattle.sctp_assoc.proofs.StreamsFound.{found_for_keeps}
use Rattle.sctp_assoc.proofs.WhatCame.{came_on, passed_reach, same_held}
use Rattle.sctp_sides.proofs.ForwardKinds.{forward_is_one_of}
use Rattle.sctp_sides.proofs.PeerRequestsInChunks.{flow_same}
use Rattle.sctp_course_sides.specs.Following.{LeadsFollowing}
use Rattle.sctp_course_sides.specs.Follows.{Follows, IsSentUpTo}
use Rattle.sctp_course_sides.proofs.DataComes.{made_following}
use Rattle.sctp_course_sides.proofs.Reaching.{keeps_following, reach_grown, reach_small, reaches, same_following}
use Rattle.sctp_course_sides.proofs.Reaching.{settled_following, stays_following, then_following}

-- A TSN up to which all was sent

-- one that is ahead of the reach is the last one below a greater reach
ahead_place : (initial reach upto : ℕ) → reach < 2 ^ 31 → upto < 2 ^ 31 → 0 < upto
    → reach + tsn_past (tsn initial reach) (last_below initial upto) < reach + 2 ^ 31
    → (reach < upto) × (suc (reach + tsn_past (tsn initial reach) (last_below initial upto)) ≡ upto)
ahead_place initial reach upto small near some ahead = (omega arith, omega arith)

at_place : (peer initial reach t upto : ℕ) → peer ≡ initial → t ≡ last_below initial upto → reach < 2 ^ 31
    → upto < 2 ^ 31 → 0 < upto → reach + tsn_past (tsn peer reach) t < reach + 2 ^ 31
    → (reach < upto) × (suc (reach + tsn_past (tsn peer reach) t) ≡ upto)
at_place peer initial reach t upto same is small near some ahead =
    rw (same, is) (ahead_place initial reach upto small near some (rw (same, is) at ahead))

pub sent_still : (initial : ℕ) (c d : Course) (t : ℕ) → GoesOn c d → IsSentUpTo initial c t → IsSentUpTo initial d t
sent_still initial c d t goes sent = record {
  reach = sent.reach;
  some = sent.some;
  assigned = subst (λ n. sent.reach ≤ n) (sym (goes_leaves c d goes).1) sent.assigned;
  is = sent.is;
}

-- The streams on which it skips

module _ (P : ChunkPayloadData → Type 0) (initial id : ℕ) where
  found_one_if : (there left : Bool) (k : ℕ) (a : Shown) (h : History) (c : Course) → Follows P initial id a h c
      → is_some (stream_at a.streams k) ≡ there
      → LeadsFollowing P initial id
      (if◌then◌else◌ {A = Shown × Bool} there (a, true)
      (if◌then◌else◌ {A = Shown × Bool} (not left) (a, false) (with_new_stream a k, true))).0 c
  found_one_if true left k a h c f e = same_following P initial id a h c f
  found_one_if false false k a h c f e = same_following P initial id a h c f
  found_one_if false true k a h c f e = made_following P initial id k a h c f e

  -- one of them is found, or made where it is not live
  found_one : (k : ℕ) (a : Shown) (h : History) (c : Course) → Follows P initial id a h c
      → LeadsFollowing P initial id (stream_found a k).0 c
  unfolding stream_found
  found_one k a h c f = found_one_if (is_some (stream_at a.streams k)) (generation_left a.streams) k a h c f refl

  -- so are all of them
  found_following : (tsn : ℕ) (es : List SkippedStream) (a : Shown) (h : History) (c : Course)
      → Follows P initial id a h c
      → LeadsFollowing P initial id (found_for tsn es a) c
  found_following tsn es a h c f =
      found_for_keeps (λ (b : Shown). LeadsFollowing P initial id b c)
      (λ (b : Shown) (k : ℕ) (l : LeadsFollowing P initial id b c).
      then_following P initial id b (stream_found b k).0 c l (found_one k b l.past l.after l.follows))
      tsn es a (same_following P initial id a h c f)

-- Skips of ordered messages

-- What keeps to courses, and leaves the peer's requests, the sender and the receiver.
record KeepsAll (P : ChunkPayloadData → Type 0) (initial id : ℕ) (a b : Shown) : Type 0 where
  keeps : KeepsCourse P initial id a.resets a.streams b.resets b.streams
  peer : b.resets.peer ≡ a.resets.peer
  sender : b.sender ≡ a.sender
  receiver : b.receiver ≡ a.receiver

module _ (P : ChunkPayloadData → Type 0) (initial id tsn : ℕ) where
  skip_keeps_if : (c : Bool) (k ssn : ℕ) (a : Shown)
      → KeepsAll P initial id a
      (if◌then◌else◌ {A = Shown} c (record a { resets = resets.with_skip a.resets k ssn tsn })
      (record a {
        streams = changed_stream (stream_skipped ssn) a.streams k;
        events = a.events ++ readable_told (becomes_ready_in a.streams k ssn) k;
      }))
  skip_keeps_if true k ssn a = record {
    keeps = skip_keeps P initial id a.resets a.streams k ssn tsn;
    peer = (skip_alone a.resets k ssn tsn).peer;
    sender = refl;
    receiver = refl;
  }
  skip_keeps_if false k ssn a = record {
    keeps = stream_skip_keeps P initial id a.resets a.streams k ssn;
    peer = refl;
    sender = refl;
    receiver = refl;
  }

  skip_keeps_all : (k ssn : ℕ) (a : Shown) → KeepsAll P initial id a (with_skip tsn k ssn a)
  unfolding with_skip
  skip_keeps_all k ssn a = skip_keeps_if (is_retiring a.resets k) k ssn a

  skips_keep_all : (es : List SkippedStream) (a : Shown) → KeepsAll P initial id a (with_skips tsn es a)
  skips_keep_all [] a = record {
    keeps = keeps_same P initial id a.resets a.streams;
    peer = refl;
    sender = refl;
    receiver = refl;
  }
  skips_keep_all (e ∷ es) a =
      let b : Shown = with_skip tsn e.stream_identifier e.stream_sequence_number a in
      let d : Shown = with_skips tsn es b in
      let one : KeepsAll P initial id a (with_skip tsn e.stream_identifier e.stream_sequence_number a) =
      skip_keeps_all e.stream_identifier e.stream_sequence_number a in
      let rest :
      KeepsAll P initial id (with_skip tsn e.stream_identifier e.stream_sequence_number a) (with_skips tsn (e ∷ es) a) =
      skips_keep_all es (with_skip tsn e.stream_identifier e.stream_sequence_number a) in
      record {
        keeps =
            keeps_then P initial id a.resets b.resets d.resets a.streams b.streams d.streams one.keeps rest.keeps;
        peer = rest.peer ∙ one.peer;
        sender = rest.sender ∙ one.sender;
        receiver = rest.receiver ∙ one.receiver;
      }

kept_binds : (P : ChunkPayloadData → Type 0) (initial id : ℕ) (a b : Shown) (h : History) → KeepsAll P initial id a b
    → Binds a h → Binds b h
kept_binds P initial id a b h k binds = record {
  first = ap (λ (s : Sender). s.queue.first_tsn) k.sender ∙ binds.first;
  peer_last_tsn = ap (λ (r : Receiver). r.peer_last_tsn) k.receiver ∙ binds.peer_last_tsn;
  held = same_held h h a.streams b.streams (past_itself h) (held_by a.receiver b.receiver k.receiver binds.held);
  marked = marked_by a.sender b.sender k.sender binds.marked;
}
  where
    held_by : (r s : Receiver) → s ≡ r → HoldsPast (came_on h a.streams) r.held → HoldsPast (came_on h a.streams) s.held
    held_by r s e l = subst (λ (x : Receiver). HoldsPast (came_on h a.streams) x.held) (sym e) l

    marked_by : (r s : Sender) → s ≡ r → AreMarkedRight r.queue.in_flight → AreMarkedRight s.queue.in_flight
    marked_by r s e l = subst (λ (x : Sender). AreMarkedRight x.queue.in_flight) (sym e) l

-- A side that follows the course passes over all up to a TSN.
module _ (P : ChunkPayloadData → Type 0) (initial id tsn : ℕ) (a : Shown) (h : History) (c : Course)
    (f : Follows P initial id a h c)
    (sent : IsSentUpTo initial c tsn) (ahead : is_ahead a tsn ≡ true) where
  lies : IsAhead h tsn
  lies = lies_ahead h a.streams a.receiver tsn f.binds.peer_last_tsn f.binds.held ahead

  upto_near : sent.reach < 2 ^ 31
  upto_near =
      let l : sent.reach ≤ c.assigned = sent.assigned in
      let near : c.assigned < 2 ^ 31 = f.stands.stands.near in omega (arith, l, near)

  placed : (reach_in h < sent.reach) × (suc (offset_in h tsn) ≡ sent.reach)
  placed =
      at_place h.peer initial (reach_in h) tsn sent.reach f.reached.peer sent.is (reach_small P initial id a h c f)
      upto_near sent.some lies.near

  passed_following : LeadsFollowing P initial id (with_passed a tsn) c
  passed_following =
      let b : Shown = with_passed a tsn in
      let k : History = acts.with_passed h (offset_in h tsn) in
      let n : StreamMap = passed_in a.streams tsn in
      let keeps : KeepsCourse P initial id a.resets a.streams (without_unordered a.resets tsn)
      (passed_in a.streams tsn) =
      keeps_then P initial id a.resets a.resets (without_unordered a.resets tsn) a.streams n n
      (passed_keeps P initial id a.resets a.streams tsn) (unordered_keeps P initial id a.resets n tsn) in
      let g : GoesOnBeside P initial id (without_unordered a.resets tsn) (passed_in a.streams tsn) c =
      (beside_keeps P initial id a.resets (without_unordered a.resets tsn) a.streams n c keeps
      (unordered_alone a.resets tsn).peer f.stands).0 in
      let binds : Binds b k = record {
        first = f.binds.first;
        peer_last_tsn =
            last_tsn_passes h a.streams a.receiver tsn f.binds.peer_last_tsn f.binds.held ahead n;
        held = held_passes h a.streams a.receiver tsn f.binds.peer_last_tsn f.binds.held ahead n;
        marked = f.binds.marked;
      } in
      let is : k.passed ≡ sent.reach = placed.1 in
      let before : h.passed ≤ reach_in h = passed_reach h in
      let less : reach_in h < sent.reach = placed.0 in
      let grown : reach_in h ≤ reach_in k =
      reach_grown h k (λ o m. m)
      (subst (λ p. h.passed ≤ p) (sym is) (passes h.passed (reach_in h) sent.reach before less)) in
      let at : g.after.point ≡ reach_in h = g.point ∙ f.reached.point in
      reaches P initial id a b h k c g.after f binds refl g.goes g.told g.stands
      (subst (λ p. p ≤ reach_in k) (sym at) grown)
      (λ o m. f.reached.taken o (subst (λ xs. mem o xs ≡ true) g.taken m)) f.reached.assigned
      (subst (λ p. p ≤ c.assigned) (sym is) sent.assigned)
    where
      passes : (passed reach upto : ℕ) → passed ≤ reach → reach < upto → passed ≤ upto
      passes passed reach upto l m = omega (arith, l, m)

module _ (P : ChunkPayloadData → Type 0) (initial id tsn : ℕ) (es : List SkippedStream) (trigger : AckTrigger)
    (now : ℕ) where
  ahead_following : (a : Shown) (h : History) (c : Course) → Follows P initial id a h c → IsSentUpTo initial c tsn
      → is_ahead a tsn ≡ true
      → LeadsFollowing P initial id (asks_behind (settled (with_passed (with_skips tsn es a) tsn)) trigger).0 c
  ahead_following a h c f sent ahead =
      let k : KeepsAll P initial id a (with_skips tsn es a) = skips_keep_all P initial id tsn es a in
      let skipped : LeadsFollowing P initial id (with_skips tsn es a) c =
      keeps_following P initial id a (with_skips tsn es a) h h c f
      (kept_binds P initial id a (with_skips tsn es a) h k f.binds) (past_itself h) k.keeps k.peer in
      let still : is_ahead (with_skips tsn es a) tsn ≡ true =
      ap (λ (r : Receiver). nat_lt tsn (2 ^ 32) && not (is_behind r tsn)) k.receiver ∙ ahead in
      let passed : LeadsFollowing P initial id (with_passed (with_skips tsn es a) tsn) skipped.after =
      passed_following P initial id tsn (with_skips tsn es a) skipped.past skipped.after skipped.follows
      (sent_still initial c skipped.after tsn skipped.goes sent) still in
      let both : LeadsFollowing P initial id (with_passed (with_skips tsn es a) tsn) c =
      then_following P initial id (with_skips tsn es a) (with_passed (with_skips tsn es a) tsn) c skipped passed in
      let all : LeadsFollowing P initial id (settled (with_passed (with_skips tsn es a) tsn)) c =
      then_following P initial id (with_passed (with_skips tsn es a) tsn)
      (settled (with_passed (with_skips tsn es a) tsn)) c both
      (settled_following P initial id (with_passed (with_skips tsn es a) tsn) both.past both.after both.follows) in
      subst (λ (z : Shown). LeadsFollowing P initial id z c)
      (sym (flow_same (is_exhausted (settled (with_passed (with_skips tsn es a) tsn)))
      (settled (with_passed (with_skips tsn es a) tsn)) _ _)) all

  -- What keeps to the course once the streams on which it skips are found or made keeps to it from before that.
  behind_found : (a : Shown) (x : Shown × Flow)
      → ((h : History) (c : Course) → IsSentUpTo initial c tsn → Follows P initial id (found_for tsn es a) h c
      → LeadsFollowing P initial id x.0 c)
      → (h : History) (c : Course) → IsSentUpTo initial c tsn → Follows P initial id a h c
      → LeadsFollowing P initial id x.0 c
  behind_found a x more h c sent f =
      let l : LeadsFollowing P initial id (found_for tsn es a) c = found_following P initial id tsn es a h c f in
      then_following P initial id (found_for tsn es a) x.0 c l
      (more l.past l.after (sent_still initial c l.after tsn l.goes sent) l.follows)

  -- A FORWARD TSN that passes over no more than was sent keeps to the course.
  pub forward_follows : (a : Shown) (h : History) (c : Course) → IsSentUpTo initial c tsn → Follows P initial id a h c
      → LeadsFollowing P initial id (on_forward a tsn es trigger now).0 c
  forward_follows a h c sent f =
      forward_is_one_of tsn es
      (λ (b : Shown) (x : Shown × Flow).
      (k : History) (d : Course) → IsSentUpTo initial d tsn → Follows P initial id b k d
      → LeadsFollowing P initial id x.0 d) trigger now
      (λ b e k d up g. stays_following P initial id b (refused b trigger).0 k d refl refl refl g)
      (λ b e i k d up g. stays_following P initial id b (acknowledged_at_once b now) k d refl refl refl g)
      (λ b e i k d up g. ahead_following b k d g up i)
      behind_found a h c sent f
