-- A poll for packets leads the course of each stream of a side on: by the requests that go out before DATA, by the
-- offsets that its DATA gets, and by the requests behind that. What it gives out is of the course that it led to.
use Rattle.std.proofs.Common.{◌≡◌, refl, sym, ap, ◌∙◌, subst, ℕ, ◌+◌, ◌<◌, ◌≤◌, arith, ⊎_elim}
use Rattle.std.proofs.Common.{Bool, true, false, not, if◌then◌else◌, length, List, [], ◌∷◌, ◌++◌, slice_get}
use Rattle.std.specs.List.{AllByRecursion, position_or_len}
use Rattle.std.proofs.lemmas.Bool.{and_parts, cases_Bool, cond-false, false≢true, true≢false}
use Rattle.std.proofs.lemmas.List.{append-nil}
use Rattle.sctp_serial.specs.Serial.{tsn}
use Rattle.sctp_wire_types.specs.declared.chunk.ChunkPayloadData.{ChunkPayloadData}
use Rattle.sctp_parts.specs.declared.timer.Timer.TheVariants as names
use Rattle.sctp_parts.specs.Timers.{started}
use Rattle.sctp_model.proofs.Lists.{all_join, all_weaker}
use Rattle.sctp_outbound_queue.specs.declared.message.InFlight.{InFlight}
use Rattle.sctp_outbound_queue.specs.Outbound.{Outbound, abandoned_in_front_of, is_abandoned_piece}
use Rattle.sctp_outbound.specs.declared.sender.Sender.{Sender}
use Rattle.sctp_outbound.specs.Forward.{forward_of, gives_forward, is_front_abandoned}
use Rattle.sctp_reset_requests.specs.Laws.{DataHoldsBack, NamesAreThoseListed}
use Rattle.sctp_resets.specs.Resets.{ResetsView}
use Rattle.sctp_courses.specs.Course.{Course}
use Rattle.sctp_directions.specs.Acts.{Act, History, Parts, all_data_given, done_all}
use Rattle.sctp_assoc.specs.Calls.{exchanges_data}
use Rattle.sctp_assoc.specs.Gather.{ack_after, control_polled, data_after, data_polled, exchange_polled, forward_after}
use Rattle.sctp_assoc.specs.Gather.{open_polled, polled, requests_after, requests_polled}
use Rattle.sctp_assoc.specs.Happened.{acts_of_ending, acts_of_exchange, acts_of_poll, forwards_of_poll}
use Rattle.sctp_assoc.specs.Leads.{Binds, Leads, parts}
use Rattle.sctp_assoc.specs.Resets.{with_reconfig_run}
use Rattle.sctp_assoc.specs.Shown.{Shown}
use Rattle.sctp_assoc.specs.Shutdown.{completes_shutdown}
use Rattle.sctp_assoc.proofs.ActsKeepOffsets.{given_append}
use Rattle.sctp_assoc.proofs.GivenApart.{control_changes, with_own_control}
use Rattle.sctp_assoc.proofs.PollsLeadOn.{acts_apart, exchange_leads}
use Rattle.sctp_assoc.proofs.RequestsGiven.{requests_sent}
use Rattle.sctp_sides.specs.SideLaws.{GivesNew, GivesUpOrAgain, reports}
use Rattle.sctp_sides.proofs.ActsOfChunks.{give_if, polls_give_and_report}
use Rattle.sctp_sides.proofs.ActsOfPolls.{other_polls_do_nothing_in_front}
use Rattle.sctp_sides.proofs.EndedPolls.{by_poll_end, ended_sender, with_answer_timed}
use Rattle.sctp_sides.proofs.PollsLeave.{after_requests, control_leaves, exchange_leaves, front_leaves, polled_sender}
use Rattle.sctp_sides.proofs.PollsLeave.{requests_change, run_sender}
use Rattle.sctp_course_sides.specs.Follows.{IsAskedIn, IsOfCourse, IsSentUpTo}
use Rattle.sctp_course_sides.specs.Honest.{RequestNames}
use Rattle.sctp_course_sides.specs.Sends.{Sends, SendsOn}
use Rattle.sctp_course_sides.specs.Spelled.{control_requests}
use Rattle.sctp_course_sides.proofs.AskedInPolls.{AsksOn, SendsNow, control_asks, last_tsns}
use Rattle.sctp_course_sides.proofs.AskedInPolls.{requests_ask, room_of}
use Rattle.sctp_course_sides.proofs.SendsBeside.{leads_data, sends_as, sends_behind}
use Rattle.sctp_course_sides.proofs.SentData.{IsOfPoll, SendsActs, acts_send}
use Rattle.sctp_course_sides.proofs.SentOn.{Grows, sends_grow, sends_nothing, sends_then}
use Rattle.sctp_course_sides.proofs.SentOn.{still_of_course}
use Rattle.sctp_course_sides.proofs.SentRequests.{IsAskedByNames, room_for_first, still_by_names}
use Rattle.sctp_wire_types.specs.declared.param.ParamOutgoingResetRequest.{ParamOutgoingResetRequest}
use Rattle.sctp_course_sides.specs.Sends.{AreSmall}

-- The acts of a poll

old_is : (act : Act) → GivesUpOrAgain act → IsOfPoll act
old_is (Act.Started now) g = tt
old_is (Act.Abandoned index) g = tt
old_is Act.TailAbandoned g = tt
old_is (Act.Dropped k) g = tt
old_is (Act.SentAgain at_once by index) g = tt
old_is act g = absurd g

new_is : (act : Act) → GivesNew act → IsOfPoll act
new_is (Act.Sent at_once now) g = tt
new_is act g = absurd g

are_of_poll_if : (exchanges : Bool) (a : Shown) (now : ℕ) → exchanges_data a.state ≡ exchanges
    → AllByRecursion IsOfPoll (acts_of_exchange a now)
are_of_poll_if true a now e =
    let p = polls_give_and_report a now e in
    let said : List Act = if reports a then Act.Reported ∷ [] else [] in
    let forward : List Act = if forwards_of_poll a now then Act.Forwarded ∷ [] else [] in
    subst (AllByRecursion IsOfPoll) (sym p.are)
    (all_join IsOfPoll (p.old ++ p.new ++ said) forward
    (all_join IsOfPoll (p.old ++ p.new) said
    (all_join IsOfPoll p.old p.new (all_weaker GivesUpOrAgain IsOfPoll p.old old_is p.old_are)
    (all_weaker GivesNew IsOfPoll p.new new_is p.new_are))
    (give_if IsOfPoll (reports a) (Act.Reported ∷ []) [] (tt, tt) tt))
    (give_if IsOfPoll (forwards_of_poll a now) (Act.Forwarded ∷ []) [] (tt, tt) tt))
are_of_poll_if false a now e =
    subst (AllByRecursion IsOfPoll) (sym (other_polls_do_nothing_in_front a now e)) tt

pub are_of_poll : (a : Shown) (now : ℕ) → AllByRecursion IsOfPoll (acts_of_exchange a now)
are_of_poll a now = are_of_poll_if (exchanges_data a.state) a now refl

ending_is_silent : (closes : Bool) (p : Parts) → all_data_given (if closes then Act.Ended ∷ [] else []) p ≡ []
ending_is_silent true p = refl
ending_is_silent false p = refl

-- the end gives no DATA out
given_in_front : (a : Shown) (now : ℕ) (p : Parts)
    → all_data_given (acts_of_poll a now) p ≡ all_data_given (acts_of_exchange a now) p
given_in_front a now p =
    let front = acts_of_exchange a now in
    let m : Shown = (open_polled a now).0 in
    given_append front (acts_of_ending m) p
    ∙ ap (λ (z : List ChunkPayloadData). all_data_given front p ++ z)
    (ending_is_silent (completes_shutdown m) (done_all front p))
    ∙ append-nil (all_data_given front p)

-- FORWARD TSN

position_within : (test : InFlight → Bool) (xs : List InFlight) → position_or_len test xs ≤ length xs
position_within test [] = omega arith
position_within test (x ∷ xs) =
    let l = position_within test xs in
    ⊎_elim (λ (t : test x ≡ true). rw t (omega arith)) (λ (f : test x ≡ false). rw f (omega arith))
    (cases_Bool (test x))

front_is_some : (xs : List InFlight) → is_abandoned_piece (slice_get xs 0) ≡ true → 0 < abandoned_in_front_of xs
front_is_some [] e = absurd (false≢true e)
front_is_some (x ∷ xs) e = some e
  where
    some : x.abandoned ≡ true → 0 < abandoned_in_front_of (x ∷ xs)
    some f = rw f (omega arith)

some_reach : (base n : ℕ) → 0 < n → 0 < base + n
some_reach base n l = omega arith

below_assigned : (base n k m : ℕ) → n ≤ k → base + k ≤ m → base + n ≤ m
below_assigned base n k m l j = omega arith

-- Some of the abandoned pieces stand in front, so that the FORWARD TSN says a TSN that was sent.
forward_is_sent : (initial base : ℕ) (s : Sender) (c : Course) → s.queue.first_tsn ≡ tsn initial base
    → base + length s.queue.in_flight ≤ c.assigned → is_front_abandoned s ≡ true
    → IsSentUpTo initial c (forward_of s).new_cumulative_tsn
forward_is_sent initial base s c first assigned front =
    let n = abandoned_in_front_of s.queue.in_flight in
    let within : n ≤ length s.queue.in_flight = position_within (λ p. not p.abandoned) s.queue.in_flight in
    let some : 0 < n = front_is_some s.queue.in_flight front in
    record {
      reach = base + n;
      some = some_reach base n some;
      assigned = below_assigned base n (length s.queue.in_flight) c.assigned within assigned;
      is = last_tsns initial base n s.queue.first_tsn first;
    }

-- DATA leaves its resets.
data_resets : (a : Shown) (now : ℕ) → (data_after a now).0.resets ≡ a.resets
unfolding data_polled
data_resets a now = refl

run_if : (runs : Bool) (initial id : ℕ) (a : Shown) (h : History) (c : Course) (now : ℕ) → SendsNow initial id a h c
    → SendsNow initial id
    (if runs then record a { timers = started names.Reconfig now a.estimate.rto a.timers } else a) h c
run_if true initial id a h c now s =
    sends_as initial id a (record a { timers = started names.Reconfig now a.estimate.rto a.timers }) h c refl refl s
run_if false initial id a h c now s = s

run_sends : (initial id : ℕ) (a : Shown) (h : History) (c : Course) (now : ℕ) → SendsNow initial id a h c
    → SendsNow initial id (with_reconfig_run a now) h c
run_sends initial id a h c now s = run_if _ initial id a h c now s

-- Numbers of requests

-- behind those that went out
asks_at_most : (after left n m k l : ℕ) → after + left ≤ m + l → m ≡ n → l ≡ k → after ≤ n + k
asks_at_most after left n m k l j e f = omega arith

asks_none : (n k : ℕ) → n ≤ n + k
asks_none n k = omega arith

-- before DATA and behind it
asks_in_all : (after middle left n k : ℕ) → middle + left ≤ n + k → after ≤ middle + left → after ≤ n + k
asks_in_all after middle left n k l j = omega arith

-- The exchange of a poll led the course on.
pub record ExchangeSends (initial id : ℕ) (b : Shown) (now : ℕ) (h : History) (c : Course) : Type 0 where
  pub after : Course
  pub on : SendsOn c after
  pub asks : length after.asked ≤ length c.asked + room_of b
  pub sends : SendsNow initial id (exchange_polled b now).0 h after
  pub of_course : AllByRecursion (IsOfCourse initial id after) (all_data_given (acts_of_exchange b now) (parts b h))
  pub are_asked : AllByRecursion (IsAskedByNames initial id after)
      (if exchanges_data b.state then requests_sent (data_after b now).0 else [])

module _ (held : DataHoldsBack) (those_listed : NamesAreThoseListed) (initial id : ℕ) where
  module _ (b : Shown) (now : ℕ) (h : History) (c : Course) (binds : Binds b h) (s : SendsNow initial id b h c) where
    acted : SendsActs initial id c (done_all (acts_of_exchange b now) (parts b h))
        (all_data_given (acts_of_exchange b now) (parts b h))
    acted =
        acts_send initial id (acts_of_exchange b now) (parts b h) c (are_of_poll b now)
        (leads_data initial id b h c s.sends)

    led : Leads (acts_of_exchange b now) b h (exchange_polled b now).0 h
    led = exchange_leads b now h binds

    exchange_sends : exchanges_data b.state ≡ true → ExchangeSends initial id b now h c
    exchange_sends e =
        let x : Shown = (data_after b now).0 in
        let y : Shown = (requests_polled x).0 in
        let z : Shown = (exchange_polled b now).0 in
        let there : z ≡ after_requests y = exchange_leaves b now e in
        let asks : y ≡ with_own_control x y.resets.own y.control = requests_change x in
        let q = done_all (acts_of_exchange b now) (parts b h) in
        let behind : x.sender.queue ≡ z.sender.queue =
        sym (ap (λ (w : Shown). w.sender.queue) asks) ∙ sym (ap (λ (w : Shown). w.sender.queue) there) in
        let queue : x.sender.queue ≡ q.queue = behind ∙ ap (λ (p : Parts). p.queue) led.there in
        let history : q.history ≡ h = sym (ap (λ (p : Parts). p.history) led.there) in
        let first : x.sender.queue.first_tsn ≡ tsn h.own h.base =
        ap (λ (w : Outbound). w.first_tsn) behind ∙ led.binds.first in
        let d = acted.after in
        let sent : SendsNow initial id x h d =
        sends_behind initial id b x h c d q (data_resets b now) queue history acted.asked acted.performed acted.leads s
        first in
        let asked : AsksOn initial id h d (room_of x) y (requests_sent x) =
        requests_ask initial id h held those_listed x d sent in
        let grows : Grows d asked.after = sends_grow d asked.after asked.on in
        record {
          after = asked.after;
          on = sends_then c d asked.after acted.on asked.on;
          asks =
              asks_at_most (length asked.after.asked) (room_of y) (length c.asked) (length d.asked) (room_of b)
              (room_of x) asked.count (ap length acted.asked)
              (ap (λ (r : ResetsView). room_for_first r.own.active) (data_resets b now));
          sends =
              subst (λ (w : Shown). SendsNow initial id w h asked.after) (sym there)
              (sends_as initial id y (after_requests y) h asked.after refl refl asked.sends);
          of_course =
              all_weaker (IsOfCourse initial id d) (IsOfCourse initial id asked.after)
              (all_data_given (acts_of_exchange b now) (parts b h))
              (still_of_course initial id d asked.after grows) acted.of_course;
          are_asked =
              subst (λ (exchanges : Bool). AllByRecursion (IsAskedByNames initial id asked.after)
              (if exchanges then requests_sent x else [])) (sym e) asked.are_asked;
        }

    silence_sends : exchanges_data b.state ≡ false → ExchangeSends initial id b now h c
    unfolding exchange_polled
    silence_sends e = record {
      after = c;
      on = sends_nothing c;
      asks = asks_none (length c.asked) (room_of b);
      sends =
          subst (λ (w : Shown × List (List ℕ)). SendsNow initial id w.0 h c)
          (sym (cond-false (exchanges_data b.state) (forward_after (ack_after (requests_after (data_after b now))))
          (b, []) e)) s;
      of_course =
          subst (λ (acts : List Act). AllByRecursion (IsOfCourse initial id c) (all_data_given acts (parts b h)))
          (sym (other_polls_do_nothing_in_front b now e)) tt;
      are_asked =
          subst (λ (exchanges : Bool). AllByRecursion (IsAskedByNames initial id c)
          (if exchanges then requests_sent (data_after b now).0 else [])) (sym e) tt;
    }

    pub any_exchange_sends : ExchangeSends initial id b now h c
    any_exchange_sends = ⊎_elim exchange_sends silence_sends (cases_Bool (exchanges_data b.state))

-- A poll led the course on; the side is lost where the poll closed the association. What is assigned now was assigned
-- before or is in flight, and no more was asked for than one request, where none was active.
pub record PollSends (initial id now : ℕ) (a : Shown) (h : History) (c : Course) : Type 0 where
  pub after : Course
  pub on : SendsOn c after
  pub assigned : after.assigned ≡ h.base + length (polled a now).0.sender.queue.in_flight
  pub asks : length after.asked ≤ length c.asked + room_of a
  pub sends : (polled a now).0.lost ≡ false → Sends initial id (polled a now).0 h after
  pub small : (polled a now).0.lost ≡ false
      → AreSmall (polled a now).0.resets.own.active (polled a now).0.resets.own.queued
  -- its DATA, by all its acts and by those of its front
  pub data_is : AllByRecursion (IsOfCourse initial id after) (all_data_given (acts_of_poll a now) (parts a h))
  pub front_is : AllByRecursion (IsOfCourse initial id after) (all_data_given (acts_of_exchange a now) (parts a h))
  -- the requests before DATA, and those behind it
  pub first_asked : AllByRecursion (IsAskedIn initial id after) (control_requests a)
  pub then_asked : AllByRecursion (IsAskedIn initial id after)
      (if exchanges_data a.state then requests_sent (data_after (control_polled a).0 now).0 else [])
  -- each of these lists its streams
  pub first_named : AllByRecursion RequestNames (control_requests a)
  pub then_named : AllByRecursion RequestNames
      (if exchanges_data a.state then requests_sent (data_after (control_polled a).0 now).0 else [])
  pub forward_is : forwards_of_poll a now ≡ true
      → IsSentUpTo initial after (forward_of (polled a now).0.sender).new_cumulative_tsn

at_most : (n m : ℕ) → n ≡ m → m ≤ n
at_most n m e = omega arith

module _ (held : DataHoldsBack) (those_listed : NamesAreThoseListed) (initial id now : ℕ) (a : Shown) (h : History)
    (c : Course) (binds : Binds a h) (small : AreSmall a.resets.own.active a.resets.own.queued)
    (s : Sends initial id a h c)
  where
    abbrev b : Shown
    b = (control_polled a).0

    behind_control : Binds b h
    behind_control =
        subst (λ (z : Shown). Binds z h) (sym (control_changes a))
        (record {
          first = binds.first;
          peer_last_tsn = binds.peer_last_tsn;
          held = binds.held;
          marked = binds.marked;
        })

    asked : AsksOn initial id h c (room_of a) b (control_requests a)
    asked =
        control_asks initial id h held those_listed a c (record { sends = s; small = small; first = binds.first })

    exchanged : ExchangeSends initial id b now h asked.after
    exchanged = any_exchange_sends held those_listed initial id b now h asked.after behind_control asked.sends

    abbrev last : Course
    last = exchanged.after

    acts_are : acts_of_exchange b now ≡ acts_of_exchange a now
    acts_are =
        ap (λ (z : Shown). acts_of_exchange z now) (control_changes a)
        ∙ acts_apart a b.resets.own b.control now

    parts_are : parts b h ≡ parts a h
    parts_are = ap (λ (z : Shown). parts z h) (control_changes a)

    of_front : AllByRecursion (IsOfCourse initial id last) (all_data_given (acts_of_exchange a now) (parts a h))
    of_front =
        subst (λ (acts : List Act). AllByRecursion (IsOfCourse initial id last) (all_data_given acts (parts a h)))
        acts_are
        (subst (λ (p : Parts). AllByRecursion (IsOfCourse initial id last) (all_data_given (acts_of_exchange b now) p))
        parts_are exchanged.of_course)

    open_sends : SendsNow initial id (open_polled a now).0 h last
    open_sends =
        subst (λ (z : Shown). SendsNow initial id z h last) (sym (front_leaves a now))
        (run_sends initial id (exchange_polled b now).0 h last now exchanged.sends)

    all_sends : (polled a now).0.lost ≡ false → SendsNow initial id (polled a now).0 h last
    all_sends =
        by_poll_end (λ (z : Shown). z.lost ≡ false → SendsNow initial id z h last) a now
        (λ e due timer stands.
        sends_as initial id (open_polled a now).0 (with_answer_timed (open_polled a now).0 due timer) h last refl refl
        open_sends)
        (λ e open_still stands. absurd (true≢false stands))

    sender_is : (polled a now).0.sender ≡ (exchange_polled b now).0.sender
    sender_is =
        ended_sender a now ∙ ap (λ (z : Shown). z.sender) (front_leaves a now)
        ∙ run_sender (exchange_polled b now).0 now

    assigned_now : last.assigned ≡ h.base + length (polled a now).0.sender.queue.in_flight
    assigned_now =
        exchanged.sends.sends.assigned
        ∙ ap (λ (z : Sender). h.base + length z.queue.in_flight) (sym sender_is)

    forward_sent : forwards_of_poll a now ≡ true
        → IsSentUpTo initial last (forward_of (polled a now).0.sender).new_cumulative_tsn
    forward_sent e =
        let gives = and_parts (exchanges_data a.state) (gives_forward (data_polled a now).0.sender) e in
        let sent : Sender = (data_polled a now).0.sender in
        let there : Sender = (polled a now).0.sender in
        forward_is_sent initial h.base there last
        (ap (λ (z : Sender). z.queue.first_tsn) sender_is ∙ exchanged.sends.first
        ∙ ap (λ (own : ℕ). tsn own h.base) s.own)
        (at_most last.assigned (h.base + length there.queue.in_flight) assigned_now)
        (ap is_front_abandoned (polled_sender a now gives.0)
        ∙ (and_parts sent.is_forward_due (is_front_abandoned sent) gives.1).1)

    first_both : AllByRecursion (IsAskedByNames initial id last) (control_requests a)
    first_both =
        all_weaker (IsAskedByNames initial id asked.after) (IsAskedByNames initial id last) (control_requests a)
        (still_by_names initial id asked.after last (sends_grow asked.after last exchanged.on)) asked.are_asked

    then_both : AllByRecursion (IsAskedByNames initial id last)
        (if exchanges_data a.state then requests_sent (data_after b now).0 else [])
    then_both =
        subst (λ (exchanges : Bool). AllByRecursion (IsAskedByNames initial id last)
        (if exchanges then requests_sent (data_after b now).0 else []))
        (ap (λ (z : Shown). exchanges_data z.state) (control_leaves a)) exchanged.are_asked

    all_asked : (given : List ParamOutgoingResetRequest) → AllByRecursion (IsAskedByNames initial id last) given
        → AllByRecursion (IsAskedIn initial id last) given
    all_asked given x =
        all_weaker (IsAskedByNames initial id last) (IsAskedIn initial id last) given (λ p both. both.0) x

    all_named : (given : List ParamOutgoingResetRequest) → AllByRecursion (IsAskedByNames initial id last) given
        → AllByRecursion RequestNames given
    all_named given x = all_weaker (IsAskedByNames initial id last) RequestNames given (λ p both. both.1) x

    pub poll_sends : PollSends initial id now a h c
    poll_sends = record {
      after = last;
      on = sends_then c asked.after last asked.on exchanged.on;
      assigned = assigned_now;
      asks =
          asks_in_all (length last.asked) (length asked.after.asked) (room_of b) (length c.asked) (room_of a)
          asked.count exchanged.asks;
      sends = λ stands. (all_sends stands).sends;
      small = λ stands. (all_sends stands).small;
      data_is =
          subst (AllByRecursion (IsOfCourse initial id last)) (sym (given_in_front a now (parts a h))) of_front;
      front_is = of_front;
      first_asked = all_asked (control_requests a) first_both;
      then_asked = all_asked _ then_both;
      first_named = all_named (control_requests a) first_both;
      then_named = all_named _ then_both;
      forward_is = forward_sent;
    }
