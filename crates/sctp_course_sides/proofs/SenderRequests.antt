-- What becomes of a side's open requests leaves them those of the course: the active one ends or goes again, and one is
-- made where a request of the peer is performed.
use Rattle.std.proofs.Common.{◌≡◌, refl, sym, ap, ◌∙◌, subst, ◌⊎◌, inl, inr, ℕ, suc, ◌<◌, ◌≤◌, ◌+◌, ◌^◌, ◌||◌}
use Rattle.std.proofs.Common.{◌==◌, arith, Bool, true, false, not, if◌then◌else◌, List, [], ◌∷◌, ◌++◌, length}
use Rattle.std.proofs.Common.{is_eq, nat_cmp, Ordering, Less, Equal, Greater, Option, Some, None, Result, Ok, Err}
use Rattle.std.specs.BTreeMap.{is_at}
use Rattle.std.specs.BTreeSet.{insert_key}
use Rattle.std.specs.List.{AllByRecursion, list_any}
use Rattle.std.specs.Map.{remove_entry, set_value}
use Rattle.std.specs.Ordering.{match_ordering}
use Rattle.std.proofs.lemmas.Bool.{and_parts, eqb-true, false≢true}
use Rattle.std.proofs.lemmas.Bool.Decides.{nat_tests}
use Rattle.std.proofs.lemmas.List.{drop_all, length_push}
use Rattle.sctp_serial.specs.Serial.{tsn, tsn_after}
use Rattle.sctp_wire_types.specs.Config.{is_rfc}
use Rattle.sctp_wire_types.specs.declared.event.StreamResetError.{StreamResetError}
use Rattle.sctp_wire_types.specs.declared.event.StreamResetError.TheVariants as reasons
use Rattle.sctp_wire_types.specs.declared.param.ParamReconfigResponse.{ParamReconfigResponse}
use Rattle.sctp_streams.specs.declared.event.Event.{Event}
use Rattle.sctp_streams.specs.Streams.{StreamMap}
use Rattle.sctp_reset_requests.specs.declared.debts.Debt.{Debt}
use Rattle.sctp_reset_requests.specs.declared.outcome.Answered.{Answered}
use Rattle.sctp_reset_requests.specs.declared.outcome.Answered.TheVariants as answers
use Rattle.sctp_reset_requests.specs.declared.own_request.OwnRequest.{OwnRequest}
use Rattle.sctp_reset_requests.specs.declared.own_request.SentRequest.{SentRequest}
use Rattle.sctp_reset_requests.specs.Debts.{DebtsView, changed_from, entry_at, is_nothing, marked_failed, one_end_less}
use Rattle.sctp_reset_requests.specs.Ids.{has_id}
use Rattle.sctp_reset_requests.specs.Own.{AreNumbered, OwnView, answered_with, ended_as, has_number, is_confirmed_by}
use Rattle.sctp_reset_requests.specs.Own.{open_with, outcome_of, put_off, request_sent, with_active, with_given_up}
use Rattle.sctp_reset_requests.specs.Own.{with_repeat, with_request}
use Rattle.sctp_reset_requests.specs.Peer.{number_before}
use Rattle.sctp_reset_requests.specs.Request.{PeerRequestView}
use Rattle.sctp_resets.specs.Answers.{Answering, answering, failed_each, failed_one, with_told}
use Rattle.sctp_resets.specs.Resets.{Beside, ResetsView, confirmed_by, confirmed_where, ended_as_answered, given_up}
use Rattle.sctp_resets.specs.Resets.{given_up_for_now, given_up_where, responded}
use Rattle.sctp_model.proofs.Lists.{all_push}
use Rattle.sctp_courses.specs.Course.{Course, Request}
use Rattle.sctp_courses.specs.Events.{is_to_be_reset}
use Rattle.sctp_sides.specs.Restarts.{is_reset_by}
use Rattle.sctp_course_sides.specs.Answers.{IsOfPerformed}
use Rattle.sctp_course_sides.specs.Sends.{AreIdentifiers, IsLastAsked, NamesStreams, PeerNamesStreams}
use Rattle.sctp_course_sides.proofs.Identifiers.{without_small}
use Rattle.sctp_course_sides.proofs.SenderParts.{ActiveIsLast, Asks, AsksOf}

-- Requests in order

numbered_behind : (active : Option SentRequest) (queued : List OwnRequest) (next : ℕ)
    → AreNumbered (open_with active queued) next → AreNumbered queued next
numbered_behind None queued next e = e
numbered_behind (Some s) [] next e = tt
numbered_behind (Some s) (r ∷ rs) next e = e.1

listed_behind : (active : Option SentRequest) (queued : List OwnRequest)
    → AllByRecursion NamesStreams (open_with active queued) → AllByRecursion NamesStreams queued
listed_behind None queued a = a
listed_behind (Some s) queued a = a.1

same_end : (active : Option SentRequest) (queued : List OwnRequest) (r : OwnRequest)
    → open_with active queued ++ r ∷ [] ≡ open_with active (queued ++ r ∷ [])
same_end None queued r = refl
same_end (Some s) queued r = refl

numbered_more : (rs : List OwnRequest) (r : OwnRequest) (next : ℕ) → AreNumbered rs next → r.number ≡ next
    → AreNumbered (rs ++ r ∷ []) (tsn_after next)
numbered_more [] r next h e = ap tsn_after e
numbered_more (a ∷ []) r next h e = (h ∙ sym e, ap tsn_after e)
numbered_more (a ∷ b ∷ rs) r next (h, more) e = (h, numbered_more (b ∷ rs) r next more e)

next_tsn : (initial n k : ℕ) → tsn_after (tsn initial (n + k)) ≡ tsn initial (n + (k + 1))
next_tsn initial n k = omega arith

tsn_is_small : (initial o n : ℕ) → n ≡ tsn initial o → n < 2 ^ 32
tsn_is_small initial o n e = omega arith

-- What failed

swapped : (a b c : Bool) → (b || (a || c)) ≡ (a || (b || c))
swapped true true c = refl
swapped true false c = refl
swapped false true c = refl
swapped false false c = refl

regrouped : (a b c : Bool) → (a || (b || c)) ≡ ((b || a) || c)
regrouped true true c = refl
regrouped true false c = refl
regrouped false true c = refl
regrouped false false c = refl

twice : (a c : Bool) → (a || c) ≡ (a || (a || c))
twice true c = refl
twice false c = refl

found_same : (n k : ℕ) → is_eq (nat_cmp n k) ≡ true → n ≡ k
found_same n k e = grind (arith, nat_tests, e)

has_inserted : (x k : ℕ) (ks : List ℕ) → has_id x (insert_key nat_cmp ks k) ≡ (is_eq (nat_cmp x k) || has_id x ks)
has_inserted x k [] = refl
has_inserted x k (y ∷ ys) = by (nat_cmp k y) refl (has_inserted x k ys)
  where
    by : (o : Ordering) → nat_cmp k y ≡ o
        → has_id x (insert_key nat_cmp ys k) ≡ (is_eq (nat_cmp x k) || has_id x ys)
        → has_id x (match_ordering o (k ∷ y ∷ ys) (y ∷ ys) (y ∷ insert_key nat_cmp ys k))
        ≡ (is_eq (nat_cmp x k) || (is_eq (nat_cmp x y) || has_id x ys))
    by Less e more = refl
    by Equal e more =
        twice (is_eq (nat_cmp x y)) (has_id x ys)
        ∙ ap (λ z. is_eq (nat_cmp x z) || (is_eq (nat_cmp x y) || has_id x ys)) (sym (found_same k y (ap is_eq e)))
    by Greater e more =
        ap (λ b. is_eq (nat_cmp x y) || b) more
        ∙ swapped (is_eq (nat_cmp x k)) (is_eq (nat_cmp x y)) (has_id x ys)

written_failed : (none : Bool) (d : DebtsView) (gone there : List (ℕ × Debt))
    → (if none then record d { by_id = gone } else record d { by_id = there }).failed ≡ d.failed
written_failed true d gone there = refl
written_failed false d gone there = refl

-- what is open of a stream changes, and what failed does not
pub changed_failed : (o : Option Debt) (d : DebtsView) (i : ℕ) (change : Debt → Debt)
    → (changed_from o d i change).failed ≡ d.failed
changed_failed None d i change = refl
changed_failed (Some t) d i change =
    written_failed (is_nothing (change t)) d (remove_entry (is_at (nat_cmp i)) d.by_id)
    (set_value (is_at (nat_cmp i)) d.by_id (change t))

one_failed : (reason : StreamResetError) (t : DebtsView × List Event) (i x : ℕ)
    → has_id x (failed_one reason t i).0.failed ≡ (is_eq (nat_cmp x i) || has_id x t.0.failed)
one_failed reason (d, told) i x =
    let m : DebtsView = marked_failed d i in
    ap (λ (fs : List ℕ). has_id x fs) (changed_failed (entry_at m i) m i one_end_less) ∙ has_inserted x i d.failed

each_failed : (reason : StreamResetError) (ids : List ℕ) (t : DebtsView × List Event) (x : ℕ)
    → has_id x (failed_each reason ids t).0.failed ≡ (has_id x ids || has_id x t.0.failed)
each_failed reason [] t x = refl
each_failed reason (i ∷ is) t x =
    each_failed reason is (failed_one reason t i) x
    ∙ ap (λ (b : Bool). has_id x is || b) (one_failed reason t i x)
    ∙ regrouped (has_id x is) (is_eq (nat_cmp x i)) (has_id x t.0.failed)

told_debts : (a : Answering) (x : DebtsView × List Event) → (with_told a x).debts ≡ x.0
told_debts a (d, told) = refl

either_has : (a b : Bool) → (a ≡ true) ⊎ (b ≡ true) → (a || b) ≡ true
either_has true b e = refl
either_has false b (inl e) = absurd (false≢true e)
either_has false b (inr e) = e

named_by_id : (all found : Bool) → all ≡ false → (all || found) ≡ true → found ≡ true
named_by_id true found e named = absurd (false≢true (sym e))
named_by_id false found e named = named

-- The last request

-- numbers of the last request and of a performed one are the same only where all were performed
all_performed : (initial index asked performed count : ℕ) → asked ≡ suc index → count ≤ performed → performed ≤ asked
    → asked < 2 ^ 31 → tsn initial index ≡ number_before (tsn initial count) → asked ≤ performed
all_performed initial index asked performed count e f g few same = omega (arith, e, f, g, few, same)

module _ (initial id : ℕ) (c : Course) where
  -- the active request is over
  over_asks : (next : ℕ) (waiting : List ℕ) (queued : List OwnRequest) (active : Option SentRequest)
      (current : Option PeerRequestView) (failed left : List ℕ) → (is_to_be_reset c ≡ true → has_id id left ≡ true)
      → Asks initial id c next waiting queued active current failed
      → Asks initial id c next waiting queued None current left
  over_asks next waiting queued active current failed left f x = record {
    numbers = x.numbers;
    in_order = numbered_behind active queued next x.in_order;
    latest = tt;
    by_ids = listed_behind active queued x.by_ids;
    peer_by_ids = x.peer_by_ids;
    small = x.small;
    barred = λ reset. inr (f reset);
  }

  -- it stays, and something else is noted of it
  noted_asks : (due off given : Bool) (next : ℕ) (waiting : List ℕ) (queued : List OwnRequest) (s : SentRequest)
      (current : Option PeerRequestView) (failed : List ℕ)
      → Asks initial id c next waiting queued (Some s) current failed
      → Asks initial id c next waiting queued
      (Some (record s { repeat_due = due; is_put_off = off; is_given_up = given })) current failed
  noted_asks due off given next waiting queued s current failed x =
      let l : IsLastAsked initial id c s = x.latest in
      record {
        numbers = x.numbers;
        in_order = x.in_order;
        latest =
            record { index = l.index; last = l.last; number = l.number; boundary = l.boundary; named = l.named };
        by_ids = x.by_ids;
        peer_by_ids = x.peer_by_ids;
        small = x.small;
        barred = x.barred;
      }

  -- it is to go out again, or went out again
  pub repeated_asks : (due : Bool) (next : ℕ) (waiting : List ℕ) (queued : List OwnRequest)
      (active : Option SentRequest) (current : Option PeerRequestView) (failed : List ℕ)
      → Asks initial id c next waiting queued active current failed
      → Asks initial id c next waiting queued (with_repeat due active) current failed
  repeated_asks due next waiting queued None current failed x = x
  repeated_asks due next waiting queued (Some s) current failed x =
      noted_asks due s.is_put_off s.is_given_up next waiting queued s current failed x

  -- it is in progress
  put_off_asks : (marks : Bool) (next : ℕ) (waiting : List ℕ) (queued : List OwnRequest)
      (active : Option SentRequest) (current : Option PeerRequestView) (failed : List ℕ)
      → Asks initial id c next waiting queued active current failed
      → Asks initial id c next waiting queued (put_off marks active) current failed
  put_off_asks marks next waiting queued None current failed x = x
  put_off_asks marks next waiting queued (Some s) current failed x =
      noted_asks false (s.is_put_off || marks) s.is_given_up next waiting queued s current failed x

  -- it is given up and goes on
  marked_asks : (next : ℕ) (waiting : List ℕ) (queued : List OwnRequest) (active : Option SentRequest)
      (current : Option PeerRequestView) (failed : List ℕ)
      → Asks initial id c next waiting queued active current failed
      → Asks initial id c next waiting queued (with_given_up active) current failed
  marked_asks next waiting queued None current failed x = x
  marked_asks next waiting queued (Some s) current failed x =
      noted_asks s.repeat_due s.is_put_off true next waiting queued s current failed x

  -- what waits of the peer is another request
  pub current_asks : (next : ℕ) (waiting : List ℕ) (queued : List OwnRequest) (active : Option SentRequest)
      (before after : Option PeerRequestView) (failed : List ℕ) → PeerNamesStreams after
      → Asks initial id c next waiting queued active before failed
      → Asks initial id c next waiting queued active after failed
  current_asks next waiting queued active before after failed n x = record {
    numbers = x.numbers;
    in_order = x.in_order;
    latest = x.latest;
    by_ids = x.by_ids;
    peer_by_ids = n;
    small = x.small;
    barred = x.barred;
  }

  abbrev AsksOwn : OwnView → Option PeerRequestView → List ℕ → Type 0
  AsksOwn o current failed = Asks initial id c o.next_number o.waiting o.queued o.active current failed

  -- a request is made
  pub made_asks : (none all : Bool) (o : OwnView) (number : ℕ) (ids : List ℕ) (current : Option PeerRequestView)
      (failed : List ℕ) → all ≡ false → (none ≡ false → 0 < length ids) → AreIdentifiers ids
      → AsksOwn o current failed → AsksOwn (if none then o else with_request o number all ids) current failed
  made_asks true all o number ids current failed e some small x = x
  made_asks false all o number ids current failed e some small x =
      let r : OwnRequest =
      record { number = o.next_number; response_number = number; names_all = all; ids = ids } in
      let rs : List OwnRequest = open_with o.active o.queued in
      record {
        numbers =
            ap tsn_after x.numbers ∙ next_tsn initial (length c.asked) (length o.queued)
            ∙ ap (λ (n : ℕ). tsn initial (length c.asked + n)) (sym (length_push o.queued r));
        in_order =
            subst (λ (zs : List OwnRequest). AreNumbered zs (tsn_after o.next_number)) (same_end o.active o.queued r)
            (numbered_more rs r o.next_number x.in_order refl);
        latest = x.latest;
        by_ids =
            subst (λ (zs : List OwnRequest). AllByRecursion NamesStreams zs) (same_end o.active o.queued r)
            (all_push NamesStreams rs r x.by_ids
            (record {
              listed = e;
              some = some refl;
              small = small;
              numbered = tsn_is_small initial (length c.asked + length o.queued) o.next_number x.numbers;
            }));
        peer_by_ids = x.peer_by_ids;
        small = without_small o.waiting ids x.small;
        barred = x.barred;
      }

  -- The active request fails

  fails_asks : (reason : StreamResetError) (s : SentRequest) (r : ResetsView) (m : StreamMap) (told : List Event)
      → r.own.active ≡ Some s → AsksOf initial id c r
      → Asks initial id c r.own.next_number r.own.waiting r.own.queued None r.peer.in_progress
      (with_told (answering r.debts m told) (failed_each reason s.request.ids (r.debts, told))).debts.failed
  fails_asks reason s r m told e x =
      let y : Asks initial id c r.own.next_number r.own.waiting r.own.queued (Some s) r.peer.in_progress
      r.debts.failed =
      subst
      (λ (o : Option SentRequest).
      Asks initial id c r.own.next_number r.own.waiting r.own.queued o r.peer.in_progress r.debts.failed)
      e x in
      over_asks r.own.next_number r.own.waiting r.own.queued (Some s) r.peer.in_progress r.debts.failed
      (with_told (answering r.debts m told) (failed_each reason s.request.ids (r.debts, told))).debts.failed
      (λ reset.
      ap (λ (d : DebtsView). has_id id d.failed)
      (told_debts (answering r.debts m told) (failed_each reason s.request.ids (r.debts, told)))
      ∙ each_failed reason s.request.ids (r.debts, told) id
      ∙ either_has (has_id id s.request.ids) (has_id id r.debts.failed)
      (by_either s r.debts.failed y.by_ids.0.listed (y.barred reset)))
      y
    where
      by_either : (s : SentRequest) (failed : List ℕ) → s.request.names_all ≡ false
          → (is_reset_by (Some s) id ≡ true) ⊎ (has_id id failed ≡ true)
          → (has_id id s.request.ids ≡ true) ⊎ (has_id id failed ≡ true)
      by_either s failed listed (inl named) =
          inl (named_by_id s.request.names_all (has_id id s.request.ids) listed named)
      by_either s failed listed (inr one) = inr one

  none_asks : (r : ResetsView) → r.own.active ≡ None → AsksOf initial id c r
      → Asks initial id c r.own.next_number r.own.waiting r.own.queued None r.peer.in_progress r.debts.failed
  none_asks r e x =
      subst
      (λ (o : Option SentRequest).
      Asks initial id c r.own.next_number r.own.waiting r.own.queued o r.peer.in_progress r.debts.failed)
      e x

  given_asks : (active : Option SentRequest) (r : ResetsView) (m : StreamMap) (told : List Event)
      → r.own.active ≡ active → AsksOf initial id c r
      → AsksOf initial id c (given_up_where (with_active r.own None, request_sent active) r m told).0
  given_asks None r m told e x = none_asks r e x
  given_asks (Some s) r m told e x = fails_asks reasons.Failed s r m told e x

  given_up_by : (by_rfcs : Bool) (r : ResetsView) (m : StreamMap) (told : List Event) → AsksOf initial id c r
      → AsksOf initial id c
      (if◌then◌else◌ {A = Beside} by_rfcs (given_up_for_now r m told)
      (given_up_where (with_active r.own None, request_sent r.own.active) r m told)).0
  given_up_by true r m told x =
      marked_asks r.own.next_number r.own.waiting r.own.queued r.own.active r.peer.in_progress r.debts.failed x
  given_up_by false r m told x = given_asks r.own.active r m told refl x

  -- it is given up
  pub given_up_asks : (r : ResetsView) (m : StreamMap) (told : List Event) → AsksOf initial id c r
      → AsksOf initial id c (given_up r m told).0
  given_up_asks r m told x = given_up_by (is_rfc r.own.profile) r m told x

  -- It is answered

  failed_asks : (active : Option SentRequest) (reason : StreamResetError) (r : ResetsView) (m : StreamMap)
      (told : List Event) → r.own.active ≡ active → AsksOf initial id c r
      → AsksOf initial id c
      (ended_as_answered (ended_as (with_active r.own None, request_sent active) (Err reason)) r m told).0.0
  failed_asks None reason r m told e x = none_asks r e x
  failed_asks (Some s) reason r m told e x = fails_asks reason s r m told e x

  not_to_be : (left : List ℕ) → is_to_be_reset c ≡ false → is_to_be_reset c ≡ true → has_id id left ≡ true
  not_to_be left free reset = absurd (false≢true (sym free ∙ reset))

  done_asks : (active : Option SentRequest) (done : Unit {0}) (r : ResetsView) (m : StreamMap) (told : List Event)
      → is_to_be_reset c ≡ false → AsksOf initial id c r
      → AsksOf initial id c
      (ended_as_answered (ended_as (with_active r.own None, request_sent active) (Ok done)) r m told).0.0
  done_asks None done r m told free x =
      over_asks r.own.next_number r.own.waiting r.own.queued r.own.active r.peer.in_progress r.debts.failed _
      (not_to_be _ free) x
  done_asks (Some s) done r m told free x =
      over_asks r.own.next_number r.own.waiting r.own.queued r.own.active r.peer.in_progress r.debts.failed _
      (not_to_be _ free) x

  answered_asks : (names_it : Bool) (outcome : Option (Result (Unit {0}) StreamResetError)) (r : ResetsView)
      (m : StreamMap) (told : List Event)
      → (names_it ≡ true → outcome ≡ Some (Ok tt) → is_to_be_reset c ≡ false) → AsksOf initial id c r
      → AsksOf initial id c
      (ended_as_answered (if◌then◌else◌ {A = OwnView × Answered} names_it (answered_with outcome r.own)
      (r.own, answers.Ignored)) r m told).0.0
  answered_asks false outcome r m told free x = x
  answered_asks true None r m told free x =
      put_off_asks (is_rfc r.own.profile) r.own.next_number r.own.waiting r.own.queued r.own.active r.peer.in_progress
      r.debts.failed x
  answered_asks true (Some (Ok done)) r m told free x = done_asks r.own.active done r m told (free refl refl) x
  answered_asks true (Some (Err reason)) r m told free x = failed_asks r.own.active reason r m told refl x

  confirmed_if : (names_it : Bool) (active : Option SentRequest) (r : ResetsView) (m : StreamMap) (told : List Event)
      → (names_it ≡ true → is_to_be_reset c ≡ false) → AsksOf initial id c r
      → AsksOf initial id c
      (confirmed_where (if◌then◌else◌ {A = OwnView × Option OwnRequest} names_it
      (with_active r.own None, request_sent active) (r.own, None)) r m told).0.0
  confirmed_if false active r m told free x = x
  confirmed_if true None r m told free x =
      over_asks r.own.next_number r.own.waiting r.own.queued r.own.active r.peer.in_progress r.debts.failed _
      (not_to_be _ (free refl)) x
  confirmed_if true (Some s) r m told free x =
      over_asks r.own.next_number r.own.waiting r.own.queued r.own.active r.peer.in_progress r.debts.failed _
      (not_to_be _ (free refl)) x

-- What says success is true of the course, of which not all numbers were used.
module _ (initial id : ℕ) (c : Course) (known : c.performed ≤ length c.asked) (few : length c.asked < 2 ^ 31) where
  last_performed : (s : SentRequest) → IsLastAsked initial id c s → IsOfPerformed initial c s.request.number
      → is_to_be_reset c ≡ false
  last_performed s l p =
      ap (λ (rs : List Request). list_any (λ (q : Request). q.named) rs)
      (drop_all c.performed c.asked
      (all_performed initial l.index (length c.asked) c.performed p.count l.last p.performed known few
      (sym l.number ∙ p.is)))

  -- where the active request is named as performed, none is left to be performed
  none_left : (active : Option SentRequest) (number : ℕ) → ActiveIsLast initial id c active
      → has_number active number ≡ true → IsOfPerformed initial c number → is_to_be_reset c ≡ false
  none_left None number l e p = absurd (false≢true e)
  none_left (Some s) number l e p =
      last_performed s l
      (subst (λ (n : ℕ). IsOfPerformed initial c n) (sym (eqb-true s.request.number number e)) p)

  -- a response of the peer came
  pub responded_asks : (response : ParamReconfigResponse) (r : ResetsView) (m : StreamMap) (told : List Event)
      → (outcome_of response.result ≡ Some (Ok tt)
      → IsOfPerformed initial c response.reconfig_response_sequence_number)
      → AsksOf initial id c r → AsksOf initial id c (responded response r m told).0.0
  responded_asks response r m told says x =
      let number = response.reconfig_response_sequence_number in
      answered_asks initial id c (has_number r.own.active number) (outcome_of response.result) r m told
      (λ named success. none_left r.own.active number x.latest named (says success)) x

  -- what a number of the peer confirms has that number
  confirms_number : (active : Option SentRequest) (number : ℕ) → is_confirmed_by active number ≡ true
      → has_number active number ≡ true
  confirms_number None number e = e
  confirms_number (Some s) number e = (and_parts (s.request.number == number) (not s.is_put_off) e).0

  -- a request of the peer names a number
  pub confirmed_asks : (number : ℕ) (r : ResetsView) (m : StreamMap) (told : List Event)
      → IsOfPerformed initial c number → AsksOf initial id c r → AsksOf initial id c (confirmed_by number r m told).0.0
  confirmed_asks number r m told p x =
      confirmed_if initial id c (is_confirmed_by r.own.active number) r.own.active r m told
      (λ named. none_left r.own.active number x.latest (confirms_number r.own.active number named) p) x
