-- The requests that a poll gives, before its DATA and behind it, are of the course that it leads on.
use Rattle.std.proofs.Common.{◌≡◌, refl, sym, ap, ◌∙◌, subst, ℕ, ◌+◌, ◌-◌, ◌%◌, ◌^◌, ◌≤◌, arith, Bool}
use Rattle.std.proofs.Common.{true, false, ◌==◌, ◌⊎◌, if◌then◌else◌, fold, length, List, [], ◌∷◌, ◌++◌, slice_get}
use Rattle.std.proofs.Common.{Option, Some, None}
use Rattle.std.specs.List.{AllByRecursion}
use Rattle.sctp_serial.specs.Serial.{tsn}
use Rattle.sctp_wire_types.specs.declared.param.ParamOutgoingResetRequest.{ParamOutgoingResetRequest}
use Rattle.sctp_model.specs.Packets.{mem}
use Rattle.sctp_model.proofs.Lists.{all_join, all_weaker}
use Rattle.sctp_outbound_queue.specs.Outbound.{has_stream}
use Rattle.sctp_outbound.specs.declared.sender.Sender.{Sender}
use Rattle.sctp_reset_requests.specs.Debts.{DebtsView}
use Rattle.sctp_reset_requests.specs.Ids.{has_id}
use Rattle.sctp_reset_requests.specs.Laws.{DataHoldsBack, NamesAreThoseListed}
use Rattle.sctp_reset_requests.specs.Own.{OwnView, asked, last_tsn_of, repeated, sent_first}
use Rattle.sctp_reset_requests.specs.Peer.{PeerView}
use Rattle.sctp_reset_requests.specs.declared.own_request.SentRequest.{SentRequest}
use Rattle.sctp_resets.specs.Resets.{ResetsView, with_asked, with_own}
use Rattle.sctp_courses.specs.Course.{Course}
use Rattle.sctp_reset_fit.specs.Stands.{last_below}
use Rattle.sctp_directions.specs.Acts.{History}
use Rattle.sctp_assoc.specs.declared.control.Control.{Control}
use Rattle.sctp_assoc.specs.declared.control.Control.TheVariants as controls
use Rattle.sctp_assoc.specs.Calls.{is_established}
use Rattle.sctp_assoc.specs.Gather.{control_polled, first_listed, first_request_behind, first_request_polled, listed}
use Rattle.sctp_assoc.specs.Gather.{repeat_polled, request_made, requests_of, requests_polled, with_control_given}
use Rattle.sctp_assoc.specs.Gather.{with_request_again, with_request_asked, with_request_placed, with_request_sent}
use Rattle.sctp_assoc.specs.Gather.{without_control}
use Rattle.sctp_assoc.specs.Shown.{Shown}
use Rattle.sctp_assoc.proofs.PartsOfPolls.{both_first, first_request_if}
use Rattle.sctp_assoc.proofs.RequestsGiven.{requests_sent}
use Rattle.sctp_sides.specs.Restarts.{is_reset_by}
use Rattle.sctp_course_sides.specs.Sends.{PeerNamesStreams, Sends, SendsOn}
use Rattle.sctp_course_sides.specs.Spelled.{control_requests, request_in, requests_in}
use Rattle.sctp_course_sides.proofs.SentOn.{sends_grow, sends_nothing, sends_then}
use Rattle.sctp_course_sides.specs.Sends.{AreSmall}
use Rattle.sctp_course_sides.proofs.SentRequests.{IsAskedByNames, OwnLeads, OwnSends, again_sends, first_sends}
use Rattle.sctp_course_sides.proofs.SentRequests.{made_leaves_active, made_sends, room_for_first, still_by_names}

-- A side sends a course, stands where its history says, and its requests have numbers of 32 bits.
pub record SendsNow (initial id : ℕ) (a : Shown) (h : History) (c : Course) : Type 0 where
  pub sends : Sends initial id a h c
  pub small : AreSmall a.resets.own.active a.resets.own.queued
  pub first : a.sender.queue.first_tsn ≡ tsn h.own h.base

-- So many requests of a side may go out for the first time now.
abbrev pub room_of : Shown → ℕ
room_of a = room_for_first a.resets.own.active

-- Requests that go out led the course on, and are of it; nothing was assigned. Those that were asked for, and the room
-- for one more, are no more than before, when there was so much room.
pub record AsksOn (initial id : ℕ) (h : History) (c : Course) (before : ℕ) (b : Shown)
    (given : List ParamOutgoingResetRequest) : Type 0 where
  pub after : Course
  pub on : SendsOn c after
  pub count : length after.asked + room_of b ≤ length c.asked + before
  pub sends : SendsNow initial id b h after
  pub are_asked : AllByRecursion (IsAskedByNames initial id after) given

-- Numbers

as_many : (n m : ℕ) → n ≡ m → n ≤ m
as_many n m e = omega arith

at_most_then : (n m k : ℕ) → n ≤ m → m ≤ k → n ≤ k
at_most_then n m k l j = omega arith

-- The requests that go out before DATA.

pub last_tsns : (initial base n first : ℕ) → first ≡ tsn initial base
    → ((first + n) % 2 ^ 32 + 2 ^ 32 - 1) % 2 ^ 32 ≡ last_below initial (base + n)
last_tsns initial base n first e = omega arith

module _ (initial id : ℕ) (h : History) where
  -- the last TSN is that of the last offset
  last_now : (a : Shown) (c : Course) → SendsNow initial id a h c
      → last_tsn_of a.sender.queue ≡ last_below initial c.assigned
  last_now a c s =
      last_tsns initial h.base (length a.sender.queue.in_flight) a.sender.queue.first_tsn
      (s.first ∙ ap (λ (own : ℕ). tsn own h.base) s.sends.own)
      ∙ ap (last_below initial) (sym s.sends.assigned)

  own_sends : (a : Shown) (c : Course) → SendsNow initial id a h c
      → OwnSends initial id a.resets.debts.failed a.sender.queue a.resets.own c
  own_sends a c s = record {
    numbers = s.sends.numbers;
    in_order = s.sends.in_order;
    small = s.small;
    active = s.sends.active;
    by_ids = s.sends.by_ids;
    waiting = s.sends.waiting;
    held_back = λ e. (let b = s.sends.held_back e in (b.quiet, b.barred));
  }

  -- only its own requests changed, and what waits beside DATA
  own_changed : (a b : Shown) (c d : Course) → SendsNow initial id a h c → b.sender ≡ a.sender
      → b.resets ≡ (let r = a.resets in record r { own = b.resets.own }) → d.assigned ≡ c.assigned → d.mine ≡ c.mine
      → OwnSends initial id a.resets.debts.failed a.sender.queue b.resets.own d → SendsNow initial id b h d
  own_changed a b c d s sender resets assigned mine o = record {
    sends = record {
      small = s.sends.small;
      own = s.sends.own;
      assigned =
          assigned ∙ s.sends.assigned ∙ ap (λ (z : Sender). h.base + length z.queue.in_flight) (sym sender);
      mine = λ index x there e.
          subst (λ (os : List ℕ). mem (h.base + index) os ≡ true) (sym mine)
          (s.sends.mine index x
          (sym (ap (λ (z : Sender). slice_get z.queue.in_flight index) sender) ∙ there) e);
      numbers = o.numbers;
      in_order = o.in_order;
      active = o.active;
      by_ids = o.by_ids;
      peer_by_ids =
          subst (λ (p : PeerView). PeerNamesStreams p.in_progress) (sym (ap (λ (r : ResetsView). r.peer) resets))
          s.sends.peer_by_ids;
      waiting = o.waiting;
      held_back = λ e.
          (let held = o.held_back e in
          record {
            quiet = ap (λ (z : Sender). has_stream z.queue id) sender ∙ held.0;
            barred =
                subst (λ (d : DebtsView). (is_reset_by b.resets.own.active id ≡ true) ⊎ (has_id id d.failed ≡ true))
                (sym (ap (λ (r : ResetsView). r.debts) resets)) held.1;
          });
    };
    small = o.small;
    first = ap (λ (z : Sender). z.queue.first_tsn) sender ∙ s.first;
  }

  module _ (held : DataHoldsBack) (those_listed : NamesAreThoseListed) where
    -- what its requests led on, it leads on
    asks_by : (a b : Shown) (c : Course) (given : List ParamOutgoingResetRequest) → SendsNow initial id a h c
        → b.sender ≡ a.sender → b.resets ≡ (let r = a.resets in record r { own = b.resets.own })
        → OwnLeads initial id a.resets.debts.failed a.sender.queue c (room_of a) b.resets.own given
        → AsksOn initial id h c (room_of a) b given
    asks_by a b c given s sender resets o = record {
      after = o.after;
      on = o.on;
      count =
          as_many (length o.after.asked + room_of b) (length c.asked + room_of a) o.count;
      sends = own_changed a b c o.after s sender resets o.assigned o.mine o.sends;
      are_asked = o.are_asked;
    }

    -- none goes out
    asks_nothing : (a : Shown) (c : Course) → SendsNow initial id a h c
        → AsksOn initial id h c (room_of a) a []
    asks_nothing a c s = record {
      after = c;
      on = sends_nothing c;
      count = as_many (length c.asked + room_of a) _ refl;
      sends = s;
      are_asked = tt;
    }

    first_led : (a : Shown) (c : Course) → SendsNow initial id a h c
        → OwnLeads initial id a.resets.debts.failed a.sender.queue c (room_of a)
        (sent_first a.resets.own a.sender.queue).0 (listed (sent_first a.resets.own a.sender.queue).1)
    first_led a c s =
        first_sends those_listed initial id a.resets.debts.failed a.sender.queue a.resets.own c (own_sends a c s) held
        (last_now a c s)

    -- Before DATA

    placed_asks : (a : Shown) (packets : List (List ℕ)) (c : Course)
        (x : OwnView × Option ParamOutgoingResetRequest) → SendsNow initial id a h c
        → OwnLeads initial id a.resets.debts.failed a.sender.queue c (room_of a) x.0 (listed x.1)
        → AsksOn initial id h c (room_of a)
        (with_request_placed (a, packets) (with_own a.resets x)).0 (listed x.1)
    placed_asks a packets c (o, None) s l =
        asks_by a (with_request_placed (a, packets) (with_own a.resets (o, None))).0 c [] s refl refl l
    placed_asks a packets c (o, Some param) s l =
        asks_by a (with_request_placed (a, packets) (with_own a.resets (o, Some param))).0 c (param ∷ []) s refl refl l

    given_asks : (x : Shown × List (List ℕ)) (k : Control) (c : Course) → SendsNow initial id x.0 h c
        → AsksOn initial id h c (room_of x.0) (with_control_given x k).0 (request_in x.0 k)
    given_asks (a, packets) (controls.Packet k) c s = asks_nothing a c s
    given_asks (a, packets) controls.OwnRequest c s =
        placed_asks a packets c (sent_first a.resets.own a.sender.queue) s (first_led a c s)

    -- requests behind others, which leave room for so many more
    asks_then : (a b : Shown) (c : Course) (before later total : ℕ) (given more : List ParamOutgoingResetRequest)
        → (s : AsksOn initial id h c before a given) → length s.after.asked + later ≤ length c.asked + total
        → AsksOn initial id h s.after later b more → AsksOn initial id h c total b (given ++ more)
    asks_then a b c before later total given more s room t = record {
      after = t.after;
      on = sends_then c s.after t.after s.on t.on;
      count =
          at_most_then (length t.after.asked + room_of b) (length s.after.asked + later)
          (length c.asked + total) t.count room;
      sends = t.sends;
      are_asked =
          all_join (IsAskedByNames initial id t.after) given more
          (all_weaker (IsAskedByNames initial id s.after) (IsAskedByNames initial id t.after) given
          (still_by_names initial id s.after t.after (sends_grow s.after t.after t.on)) s.are_asked) t.are_asked;
    }

    all_ask : (ks : List Control) (x : Shown × List (List ℕ)) (c : Course) → SendsNow initial id x.0 h c
        → AsksOn initial id h c (room_of x.0) (fold with_control_given x ks).0 (requests_in ks x)
    all_ask [] x c s = asks_nothing x.0 c s
    all_ask (k ∷ ks) x c s =
        let y = with_control_given x k in
        let first = given_asks x k c s in
        asks_then y.0 (fold with_control_given y ks).0 c (room_of x.0) (room_of y.0) (room_of x.0) (request_in x.0 k)
        (requests_in ks y) first first.count (all_ask ks y first.after first.sends)

    pub control_asks : (a : Shown) (c : Course) → SendsNow initial id a h c
        → AsksOn initial id h c (room_of a) (control_polled a).0 (control_requests a)
    control_asks a c s =
        all_ask a.control (without_control a, []) c
        (own_changed a (without_control a) c c s refl refl refl refl (own_sends a c s))

    -- Behind DATA

    again_asks : (a : Shown) (c : Course) (x : OwnView × Option ParamOutgoingResetRequest) → SendsNow initial id a h c
        → OwnLeads initial id a.resets.debts.failed a.sender.queue c (room_of a) x.0 (listed x.1)
        → AsksOn initial id h c (room_of a) (with_request_again a (with_own a.resets x)).0 (listed x.1)
    again_asks a c (o, None) s l =
        asks_by a (with_request_again a (with_own a.resets (o, None))).0 c [] s refl refl l
    again_asks a c (o, Some param) s l =
        asks_by a (with_request_again a (with_own a.resets (o, Some param))).0 c (param ∷ []) s refl refl l

    made_asks : (a : Shown) (c : Course) (x : OwnView × Bool) → SendsNow initial id a h c
        → OwnSends initial id a.resets.debts.failed a.sender.queue x.0 c
        → SendsNow initial id (with_request_asked a (with_asked a.resets x)) h c
    made_asks a c (o, true) s l =
        own_changed a (with_request_asked a (with_asked a.resets (o, true))) c c s refl refl refl refl l
    made_asks a c (o, false) s l =
        own_changed a (with_request_asked a (with_asked a.resets (o, false))) c c s refl refl refl refl l

    sent_asks : (a : Shown) (c : Course) (x : OwnView × Option ParamOutgoingResetRequest) → SendsNow initial id a h c
        → OwnLeads initial id a.resets.debts.failed a.sender.queue c (room_of a) x.0 (listed x.1)
        → AsksOn initial id h c (room_of a) (with_request_sent a (with_own a.resets x)).0 (listed x.1)
    sent_asks a c (o, None) s l =
        asks_by a (with_request_sent a (with_own a.resets (o, None))).0 c [] s refl refl l
    sent_asks a c (o, Some param) s l =
        asks_by a (with_request_sent a (with_own a.resets (o, Some param))).0 c (param ∷ []) s refl refl l

    first_asks : (none : Bool) (a : Shown) (c : Course) → SendsNow initial id a h c
        → AsksOn initial id h c (room_of a) (first_request_if none a).0 (first_listed none a)
    first_asks true a c s = asks_nothing a c s
    first_asks false a c s = sent_asks a c (sent_first a.resets.own a.sender.queue) s (first_led a c s)

    made_active : (a : Shown) (x : OwnView × Bool)
        → (with_request_asked a (with_asked a.resets x)).resets.own.active ≡ x.0.active
    made_active a (o, true) = refl
    made_active a (o, false) = refl

    behind_asks : (y : Shown × List (List ℕ)) (c : Course) → SendsNow initial id y.0 h c
        → AsksOn initial id h c (room_of y.0) (first_request_behind y).0
        (first_listed (length (request_made y.0).control == 0) (request_made y.0))
    behind_asks (b, packets) c s =
        let d = request_made b in
        let none = length d.control == 0 in
        let made : SendsNow initial id d h c =
        made_asks b c (asked b.resets.own b.sender.queue b.resets.peer) s
        (made_sends those_listed initial id b.resets.debts.failed b.sender.queue b.resets.own c (own_sends b c s)
        b.resets.peer) in
        let active : d.resets.own.active ≡ b.resets.own.active =
        made_active b (asked b.resets.own b.sender.queue b.resets.peer)
        ∙ made_leaves_active b.resets.own b.sender.queue b.resets.peer in
        subst (λ (z : Shown). AsksOn initial id h c (room_of b) z (first_listed none d))
        (sym (both_first packets (first_request_polled d)))
        (subst
        (λ (o : Option SentRequest).
        AsksOn initial id h c (room_for_first o) (first_request_polled d).0 (first_listed none d)) active
        (first_asks none d c made))

    asks_if : (established : Bool) (a : Shown) (c : Course) → SendsNow initial id a h c
        → AsksOn initial id h c (room_of a)
        (if established then first_request_behind (repeat_polled a) else (a, [])).0
        (if established then requests_of a else [])
    asks_if true a c s =
        let again : AsksOn initial id h c (room_of a) (repeat_polled a).0 (listed (repeated a.resets.own).1) =
        again_asks a c (repeated a.resets.own) s
        (again_sends those_listed initial id a.resets.debts.failed a.sender.queue a.resets.own c (own_sends a c s)) in
        let y : Shown = (repeat_polled a).0 in
        let b = request_made y in
        asks_then y (first_request_behind (repeat_polled a)).0 c (room_of a) (room_of y) (room_of a)
        (listed (repeated a.resets.own).1) (first_listed (length b.control == 0) b) again again.count
        (behind_asks (repeat_polled a) again.after again.sends)
    asks_if false a c s = asks_nothing a c s

    pub requests_ask : (a : Shown) (c : Course) → SendsNow initial id a h c
        → AsksOn initial id h c (room_of a) (requests_polled a).0 (requests_sent a)
    unfolding requests_polled
    requests_ask a c s = asks_if (is_established a.state) a c s
