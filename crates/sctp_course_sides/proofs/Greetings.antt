-- An INIT or INIT ACK that comes to a side to which nothing was sent yet: the side goes on to follow the course of each
-- stream of its peer, or to await it; and what it answers stays true (RFC 4960 section 5.1).
use Rattle.std.proofs.Common.{◌≡◌, refl, sym, ap, ◌∙◌, subst, subst₂, ◌⊎◌, inl, inr, ℕ, ◌+◌, ◌-◌, ◌%◌, ◌^◌, ◌<◌, arith}
use Rattle.std.proofs.Common.{Bool, true, false, not, ◌&&◌, List, [], ◌∷◌, ◌++◌, length, Option, Some, None}
use Rattle.std.specs.List.{AllByRecursion}
use Rattle.std.proofs.lemmas.Bool.{false≢true}
use Rattle.sctp_serial.specs.Serial.{tsn}
use Rattle.sctp_wire_types.specs.declared.chunk.ChunkPayloadData.{ChunkPayloadData}
use Rattle.sctp_wire_types.specs.declared.chunk.Chunk.TheVariants as chunks
use Rattle.sctp_wire_types.specs.declared.chunk.ChunkInit.{ChunkInit}
use Rattle.sctp_wire_types.specs.declared.packet.CommonHeader.{CommonHeader}
use Rattle.sctp_outbound_queue.specs.declared.message.InFlight.{InFlight}
use Rattle.sctp_outbound_queue.specs.Message.{is_outstanding}
use Rattle.sctp_outbound_queue.specs.Outbound.{Outbound}
use Rattle.sctp_model.specs.Packets.{mem}
use Rattle.sctp_model.proofs.Lists.{all_join}
use Rattle.sctp_streams.specs.Streams.{StreamMap}
use Rattle.sctp_inbound.specs.declared.receiver.AckTrigger.{AckTrigger}
use Rattle.sctp_inbound.specs.Greeting.{first_cookie}
use Rattle.sctp_inbound.specs.Handshake.{comes_back, header_of, learned_by_init}
use Rattle.sctp_inbound.specs.Receiver.{past_of}
use Rattle.sctp_reset_requests.specs.declared.own_request.OwnRequest.{OwnRequest}
use Rattle.sctp_reset_requests.specs.Laws.{HasNumber}
use Rattle.sctp_reset_requests.specs.Own.{OwnView, open_with}
use Rattle.sctp_reset_requests.specs.Peer.{number_before}
use Rattle.sctp_reset_requests.specs.Request.{PeerRequestView}
use Rattle.sctp_resets.specs.Resets.{ResetsView, met_peer}
use Rattle.sctp_courses.specs.Course.{Course, Request}
use Rattle.sctp_courses.specs.Invariants.{Invariant}
use Rattle.sctp_fit.specs.HeldSet.{HoldsPast}
use Rattle.sctp_fit.proofs.HeldTsns.{nothing_is_held_at_first}
use Rattle.sctp_reset_fit.specs.Keeping.{StandsBeside}
use Rattle.sctp_reset_fit.specs.Laws.{Stands}
use Rattle.sctp_reset_fit.specs.Stands.{IsReadOn, WaitsAs}
use Rattle.sctp_directions.specs.Acts.{History, with_peer}
use Rattle.sctp_assoc.specs.declared.control.Control.{Control}
use Rattle.sctp_assoc.specs.declared.control.Control.TheVariants as controls
use Rattle.sctp_assoc.specs.Calls.{is_beginning, is_cookie_wait}
use Rattle.sctp_assoc.specs.Handshake.{answered, echoed, keeps_peer, learns_peer, on_init, on_init_ack, sends_cookie}
use Rattle.sctp_assoc.specs.Handshake.{with_echo}
use Rattle.sctp_assoc.specs.Leads.{Binds}
use Rattle.sctp_assoc.specs.Shown.{Shown}
use Rattle.sctp_assoc.proofs.WhatCame.{came_on}
use Rattle.sctp_course_sides.specs.Answers.{AnswersTruly, ControlIsTrue, IsOfPerformed}
use Rattle.sctp_course_sides.specs.Follows.{AwaitsIts, Follows, HasReached, IsUntouched}

-- where a greeting counts, nothing of what comes is past
abbrev pub greeted : Bool → ℕ → History → History
greeted true t h = with_peer h t
greeted false t h = h

-- What is so of a side that follows a course and of one that awaits its peer.
pub record IsBefore (P : ChunkPayloadData → Type 0) (initial id : ℕ) (a : Shown) (c : Course) : Type 0 where
  pub kept : Invariant c
  pub stands : Stands P initial id a.resets.generations a.streams a.resets.peer.in_progress c
  pub read_on : IsReadOn c

before : (P : ChunkPayloadData → Type 0) (initial id : ℕ) (a : Shown) (h : History) (c : Course)
    → (Follows P initial id a h c ⊎ AwaitsIts P initial id a c) → IsBefore P initial id a c
before P initial id a h c (inl f) =
    record { kept = f.stands.kept; stands = f.stands.stands; read_on = f.stands.read_on }
before P initial id a h c (inr w) = record { kept = w.kept; stands = w.stands; read_on = w.read_on }

none_asked : (performed : ℕ) (asked : List Request) → asked ≡ [] → performed < length asked → ⊥
none_asked performed [] none l = omega (arith, l)
none_asked performed (q ∷ qs) none l = cc

-- where nothing was asked no request waits
none_waits : (initial id number : ℕ) (o : Option PeerRequestView) (c : Course) → c.asked ≡ []
    → WaitsAs initial id o c → HasNumber o number
none_waits initial id number None c none w = tt
none_waits initial id number (Some q) c none (waits, last, named, l) = absurd (none_asked c.performed c.asked none l)

-- the first number, and the next one where none was performed
first_number : (t initial performed : ℕ) → t ≡ initial → initial < 2 ^ 32 → performed ≡ 0 → t ≡ tsn initial performed
first_number t initial performed same small none = omega (arith, same, small, none)

few_asked : (asked : List Request) → asked ≡ [] → length asked < 2 ^ 31
few_asked [] none = omega arith
few_asked (q ∷ qs) none = absurd (cc)

-- nothing came, as in a course of which nothing was taken in
nothing_reached : (initial t : ℕ) (h : History) (c : Course) → t ≡ initial → IsUntouched c
    → HasReached initial (with_peer h t) c
nothing_reached initial t h c same u = record {
  peer = same;
  point = u.point;
  taken = λ o m. absurd (false≢true (sym (ap (mem o) u.taken) ∙ m));
  assigned = λ o m. absurd (false≢true m);
  passed = omega arith;
}

-- the peer's numbers begin with its initial TSN
pub met_stands : (P : ChunkPayloadData → Type 0) (initial id t : ℕ) (a : Shown) (c : Course) → t ≡ initial
    → initial < 2 ^ 32 → IsUntouched c
    → IsBefore P initial id a c → StandsBeside P initial id (met_peer a.resets t) a.streams c
met_stands P initial id t a c same small u x = record {
  kept = x.kept;
  stands = x.stands;
  read_on = x.read_on;
  numbered = record {
    last = ap (λ (n : ℕ). Some (number_before n)) (first_number t initial c.performed same small u.performed);
    current = none_waits initial id (tsn initial c.performed) a.resets.peer.in_progress c u.asked x.stands.waits;
  };
}

-- what is to go out again is neither acknowledged nor abandoned
abbrev AreMarkedRight : List InFlight → Type 0
AreMarkedRight pieces = AllByRecursion (λ (x : InFlight). x.retransmit ≡ true → is_outstanding x ≡ true) pieces

-- what the side met stands where nothing came
met_binds : (a b : Shown) (t : ℕ) (h : History) → Binds a h → b.sender.queue ≡ a.sender.queue
    → past_of b.receiver ≡ ((t + 2 ^ 32 - 1) % 2 ^ 32, []) → Binds b (with_peer h t)
met_binds a b t h binds queue past = record {
  first = ap (λ (q : Outbound). q.first_tsn) queue ∙ binds.first;
  peer_last_tsn = ap (λ (z : ℕ × List ℕ). z.0) past ∙ omega arith;
  held =
      subst (HoldsPast (came_on (with_peer h t) b.streams)) (sym (ap (λ (z : ℕ × List ℕ). z.1) past))
      (nothing_is_held_at_first _ refl);
  marked = subst (λ (q : Outbound). AreMarkedRight q.in_flight) (sym queue) binds.marked;
}

-- A side that met its peer follows the course of each stream of it, of which nothing was sent.
met_follows : (P : ChunkPayloadData → Type 0) (initial id t : ℕ) (a b : Shown) (h : History) (c : Course) → t ≡ initial
    → initial < 2 ^ 32
    → IsUntouched c → Binds a h → IsBefore P initial id a c → b.resets ≡ met_peer a.resets t → b.streams ≡ a.streams
    → b.sender.queue ≡ a.sender.queue → past_of b.receiver ≡ ((t + 2 ^ 32 - 1) % 2 ^ 32, [])
    → Follows P initial id b (with_peer h t) c
met_follows P initial id t a b h c same small u binds x resets streams queue past = record {
  small = small;
  few = few_asked c.asked u.asked;
  binds = met_binds a b t h binds queue past;
  stands =
      subst₂ (λ (r : ResetsView) (m : StreamMap). StandsBeside P initial id r m c) (sym resets) (sym streams)
      (met_stands P initial id t a c same small u x);
  reached = nothing_reached initial t h c same u;
}

-- Of a side nothing changed that the courses of streams are seen by: resets and streams, what is in flight, and what
-- came.
pub record IsSeenAlike (a b : Shown) : Type 0 where
  pub resets : b.resets ≡ a.resets
  pub streams : b.streams ≡ a.streams
  pub queue : b.sender.queue ≡ a.sender.queue
  pub past : past_of b.receiver ≡ past_of a.receiver

-- It stands where it stood,
pub alike_binds : (a b : Shown) (h : History) → IsSeenAlike a b → Binds a h → Binds b h
alike_binds a b h alike binds = record {
  first = ap (λ (q : Outbound). q.first_tsn) alike.queue ∙ binds.first;
  peer_last_tsn = ap (λ (z : ℕ × List ℕ). z.0) alike.past ∙ binds.peer_last_tsn;
  held =
      subst₂ (λ (m : StreamMap) (z : ℕ × List ℕ). HoldsPast (came_on h m) z.1) (sym alike.streams) (sym alike.past)
      binds.held;
  marked = subst (λ (q : Outbound). AreMarkedRight q.in_flight) (sym alike.queue) binds.marked;
}

-- follows the course as before,
pub alike_follows : (P : ChunkPayloadData → Type 0) (initial id : ℕ) (a b : Shown) (h : History) (c : Course)
    → IsSeenAlike a b → Follows P initial id a h c → Follows P initial id b h c
alike_follows P initial id a b h c alike f = record {
  small = f.small;
  few = f.few;
  binds = alike_binds a b h alike f.binds;
  stands =
      subst₂ (λ (r : ResetsView) (m : StreamMap). StandsBeside P initial id r m c) (sym alike.resets)
      (sym alike.streams) f.stands;
  reached = f.reached;
}

-- or awaits its peer as before.
pub alike_awaits : (P : ChunkPayloadData → Type 0) (initial id : ℕ) (a b : Shown) (c : Course) → IsSeenAlike a b
    → AwaitsIts P initial id a c → AwaitsIts P initial id b c
alike_awaits P initial id a b c alike w = record {
  kept = w.kept;
  stands =
      subst₂ (λ (r : ResetsView) (m : StreamMap). Stands P initial id r.generations m r.peer.in_progress c)
      (sym alike.resets) (sym alike.streams) w.stands;
  read_on = w.read_on;
  unknown = ap (λ (r : ResetsView). r.peer.last_completed) alike.resets ∙ w.unknown;
  untouched = w.untouched;
}

still_before : (P : ChunkPayloadData → Type 0) (initial id : ℕ) (a b : Shown) (h : History) (c : Course)
    → IsSeenAlike a b → (Follows P initial id a h c ⊎ AwaitsIts P initial id a c)
    → Follows P initial id b h c ⊎ AwaitsIts P initial id b c
still_before P initial id a b h c alike (inl f) = inl (alike_follows P initial id a b h c alike f)
still_before P initial id a b h c alike (inr w) = inr (alike_awaits P initial id a b c alike w)

-- Where a greeting comes to a side that stands on this history, its peer's initial TSN being this one.
module _ (P : ChunkPayloadData → Type 0) (initial id : ℕ) (a : Shown) (h : History) (c : Course)
    (small : initial < 2 ^ 32) (binds : Binds a h)
    (was : Follows P initial id a h c ⊎ AwaitsIts P initial id a c) where
  init_at : (counts keeps : Bool) (header : CommonHeader) (init : ChunkInit) (trigger : AckTrigger)
      → is_beginning a.state ≡ counts → keeps_peer a init ≡ keeps → init.initial_tsn ≡ initial
      → ((counts && not keeps) ≡ true → IsUntouched c)
      → Follows P initial id (on_init a header init trigger).0 (greeted (counts && not keeps) init.initial_tsn h) c
      ⊎ AwaitsIts P initial id (on_init a header init trigger).0 c
  unfolding on_init
  init_at true true header init trigger e k same u =
      let b : Shown = answered (record a { handshake = learned_by_init a.handshake header init }) in
      rw (e, k) (still_before P initial id a b h c (record {
        resets = refl;
        streams = refl;
        queue = refl;
        past = refl;
      }) was)
  init_at true false header init trigger e k same u =
      let b : Shown =
      learns_peer (record a { handshake = learned_by_init a.handshake header init }) init.initial_tsn
      init.advertised_receiver_window_credit in
      rw (e, k) (inl (met_follows P initial id init.initial_tsn a (answered b) h c same small (u refl)
      binds (before P initial id a h c was) refl refl refl refl))
  init_at false keeps header init trigger e k same u = rw e was

  echoed_at : (o : Option (List ℕ)) (b : Shown) (t : ℕ) (trigger : AckTrigger) (now : ℕ) → t ≡ initial
      → IsUntouched c → b.resets ≡ met_peer a.resets t → b.streams ≡ a.streams → b.sender.queue ≡ a.sender.queue
      → past_of b.receiver ≡ ((t + 2 ^ 32 - 1) % 2 ^ 32, [])
      → Follows P initial id (echoed o b trigger now).0 (with_peer h t) c
  unfolding sends_cookie
  echoed_at None b t trigger now same u resets streams queue past =
      met_follows P initial id t a b h c same small u binds (before P initial id a h c was) resets streams queue past
  echoed_at (Some cookie) b t trigger now same u resets streams queue past =
      met_follows P initial id t a (with_echo b cookie now) h c same small u binds
      (before P initial id a h c was) resets
      streams queue past

  init_ack_at : (waits back : Bool) (header : CommonHeader) (init : ChunkInit) (trigger : AckTrigger) (now : ℕ)
      → is_cookie_wait a.state ≡ waits → comes_back a.handshake header ≡ back → init.initial_tsn ≡ initial
      → ((waits && back) ≡ true → IsUntouched c)
      → Follows P initial id (on_init_ack a header init trigger now).0 (greeted (waits && back) init.initial_tsn h) c
      ⊎ AwaitsIts P initial id (on_init_ack a header init trigger now).0 c
  unfolding on_init_ack
  init_ack_at true true header init trigger now e f same u =
      rw (e, f) (inl (echoed_at (first_cookie init.params) _ init.initial_tsn trigger now same (u refl) refl refl refl
      refl))
  init_ack_at true false header init trigger now e f same u =
      rw (e, f) (still_before P initial id a _ h c (record {
        resets = refl;
        streams = refl;
        queue = refl;
        past = refl;
      }) was)
  init_ack_at false back header init trigger now e f same u = rw e was

-- the history is one on which the side stands
on_some : (P : ChunkPayloadData → Type 0) (initial id : ℕ) (b : Shown) (k : History) (c : Course)
    → (Follows P initial id b k c ⊎ AwaitsIts P initial id b c)
    → ((j : History) × Follows P initial id b j c) ⊎ AwaitsIts P initial id b c
on_some P initial id b k c (inl f) = inl (k, f)
on_some P initial id b k c (inr w) = inr w

module _ (P : ChunkPayloadData → Type 0) (initial id : ℕ) (a : Shown) (h : History) (c : Course) (header : CommonHeader)
    (init : ChunkInit)
    (trigger : AckTrigger) where
  -- An INIT of its peer comes to a side; where it counts nothing was sent to the side yet. It counts before the
  -- association is established, unless it leaves what is known of the peer.
  pub init_follows_on : init.initial_tsn ≡ initial → initial < 2 ^ 32
      → ((is_beginning a.state && not (keeps_peer a init)) ≡ true → IsUntouched c) → Binds a h
      → (Follows P initial id a h c ⊎ AwaitsIts P initial id a c)
      → Follows P initial id (on_init a header init trigger).0
      (greeted (is_beginning a.state && not (keeps_peer a init)) init.initial_tsn h) c
      ⊎ AwaitsIts P initial id (on_init a header init trigger).0 c
  init_follows_on same small u binds was =
      init_at P initial id a h c small binds was (is_beginning a.state) (keeps_peer a init) header init trigger refl
      refl same u

  pub init_follows : init.initial_tsn ≡ initial → initial < 2 ^ 32
      → ((is_beginning a.state && not (keeps_peer a init)) ≡ true → IsUntouched c)
      → Binds a h → (Follows P initial id a h c ⊎ AwaitsIts P initial id a c)
      → ((k : History) × Follows P initial id (on_init a header init trigger).0 k c)
      ⊎ AwaitsIts P initial id (on_init a header init trigger).0 c
  init_follows same small u binds was =
      on_some P initial id (on_init a header init trigger).0
      (greeted (is_beginning a.state && not (keeps_peer a init)) init.initial_tsn h) c
      (init_follows_on same small u binds was)

  -- So it is with an INIT ACK: it counts where the side waits for one, and it comes back between the ports of its INIT.
  pub init_ack_follows_on : (now : ℕ) → init.initial_tsn ≡ initial → initial < 2 ^ 32
      → ((is_cookie_wait a.state && comes_back a.handshake header) ≡ true → IsUntouched c) → Binds a h
      → (Follows P initial id a h c ⊎ AwaitsIts P initial id a c)
      → Follows P initial id (on_init_ack a header init trigger now).0
      (greeted (is_cookie_wait a.state && comes_back a.handshake header) init.initial_tsn h) c
      ⊎ AwaitsIts P initial id (on_init_ack a header init trigger now).0 c
  init_ack_follows_on now same small u binds was =
      init_ack_at P initial id a h c small binds was (is_cookie_wait a.state)
      (comes_back a.handshake header) header init
      trigger now refl refl same u

  pub init_ack_follows : (now : ℕ) → init.initial_tsn ≡ initial → initial < 2 ^ 32
      → ((is_cookie_wait a.state && comes_back a.handshake header) ≡ true → IsUntouched c) → Binds a h
      → (Follows P initial id a h c ⊎ AwaitsIts P initial id a c)
      → ((k : History) × Follows P initial id (on_init_ack a header init trigger now).0 k c)
      ⊎ AwaitsIts P initial id (on_init_ack a header init trigger now).0 c
  init_ack_follows now same small u binds was =
      on_some P initial id (on_init_ack a header init trigger now).0
      (greeted (is_cookie_wait a.state && comes_back a.handshake header) init.initial_tsn h) c
      (init_ack_follows_on now same small u binds was)

-- What is answered

-- the requests are those from before
own_still : (initial : ℕ) (a b : Shown) (c : Course) → b.resets.own ≡ a.resets.own → AnswersTruly initial a c
    → AllByRecursion (λ (r : OwnRequest). IsOfPerformed initial c r.response_number)
    (open_with b.resets.own.active b.resets.own.queued)
own_still initial a b c own h =
    subst
    (λ (o : OwnView). AllByRecursion (λ (r : OwnRequest). IsOfPerformed initial c r.response_number)
    (open_with o.active o.queued)) (sym own) h.own

-- nothing more waits
answers_still : (initial : ℕ) (a b : Shown) (c : Course) → b.resets.own ≡ a.resets.own → b.control ≡ a.control
    → AnswersTruly initial a c → AnswersTruly initial b c
answers_still initial a b c own control h = record {
  own = own_still initial a b c own h;
  control = subst (AllByRecursion (ControlIsTrue initial c)) (sym control) h.control;
}

-- something more waits
answers_with : (initial : ℕ) (a b : Shown) (c : Course) (x : Control) → b.resets.own ≡ a.resets.own
    → b.control ≡ a.control ++ x ∷ [] → ControlIsTrue initial c x → AnswersTruly initial a c
    → AnswersTruly initial b c
answers_with initial a b c x own control said h = record {
  own = own_still initial a b c own h;
  control =
      subst (AllByRecursion (ControlIsTrue initial c)) (sym control)
      (all_join (ControlIsTrue initial c) a.control (x ∷ []) h.control (said, tt));
}

-- What a side answers stays true by the greetings of its peer, of whatever course.
module _ (initial : ℕ) (a : Shown) (c : Course) (h : AnswersTruly initial a c) where
  init_answers_at : (counts keeps : Bool) (header : CommonHeader) (init : ChunkInit) (trigger : AckTrigger)
      → is_beginning a.state ≡ counts → keeps_peer a init ≡ keeps
      → AnswersTruly initial (on_init a header init trigger).0 c
  unfolding on_init
  init_answers_at true true header init trigger e k =
      let b : Shown = record a { handshake = learned_by_init a.handshake header init } in
      rw (e, k) (answers_with initial a (answered b) c _ refl refl tt h)
  init_answers_at true false header init trigger e k =
      let b : Shown =
      learns_peer (record a { handshake = learned_by_init a.handshake header init }) init.initial_tsn
      init.advertised_receiver_window_credit in
      rw (e, k) (answers_with initial a (answered b) c _ refl refl tt h)
  init_answers_at false keeps header init trigger e k = rw e h

  echoed_answers : (o : Option (List ℕ)) (b : Shown) (trigger : AckTrigger) (now : ℕ)
      → b.resets.own ≡ a.resets.own → b.control ≡ a.control
      → AnswersTruly initial (echoed o b trigger now).0 c
  unfolding sends_cookie
  echoed_answers None b trigger now own control = answers_still initial a b c own control h
  echoed_answers (Some cookie) b trigger now own control =
      let x : Control = controls.Packet (record { header = header_of b.handshake; chunk = chunks.CookieEcho cookie }) in
      answers_with initial a (with_echo b cookie now) c x own (ap (λ (z : List Control). z ++ x ∷ []) control) tt h

  init_ack_answers_at : (waits back : Bool) (header : CommonHeader) (init : ChunkInit) (trigger : AckTrigger) (now : ℕ)
      → is_cookie_wait a.state ≡ waits → comes_back a.handshake header ≡ back
      → AnswersTruly initial (on_init_ack a header init trigger now).0 c
  unfolding on_init_ack
  init_ack_answers_at true true header init trigger now e f =
      rw (e, f) (echoed_answers (first_cookie init.params) _ trigger now refl refl)
  init_ack_answers_at true false header init trigger now e f =
      rw (e, f) (answers_still initial a _ c refl refl h)
  init_ack_answers_at false back header init trigger now e f = rw e h

  pub greeting_answers : (header : CommonHeader) (init : ChunkInit) (trigger : AckTrigger)
      → AnswersTruly initial (on_init a header init trigger).0 c
  greeting_answers header init trigger =
      init_answers_at (is_beginning a.state) (keeps_peer a init) header init trigger refl refl

  pub greeting_back_answers : (header : CommonHeader) (init : ChunkInit) (trigger : AckTrigger) (now : ℕ)
      → AnswersTruly initial (on_init_ack a header init trigger now).0 c
  greeting_back_answers header init trigger now =
      init_ack_answers_at (is_cookie_wait a.state) (comes_back a.handshake header) header init trigger now refl refl
