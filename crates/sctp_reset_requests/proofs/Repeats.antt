-- Requests of the peer that were completed stay so, and are known.
use Rattle.std.proofs.Common.{◌≡◌, refl, sym, ap, ◌∙◌, subst, ℕ, suc, ◌+◌, ◌^◌, ◌<◌, ◌≤◌, ◌==◌}
use Rattle.std.proofs.Common.{Bool, true, false, cond, if◌then◌else◌, ◌||◌, not, List, [], ◌∷◌, length, Option, Some, None}
use Rattle.std.proofs.Common.{is_some, arith}
use Rattle.std.proofs.Common.{eqb-true}
use Rattle.std.proofs.lemmas.Bool.{false≢true}
use Rattle.std.proofs.lemmas.Bool.Decides.{nat_tests}
use Rattle.sctp_serial.specs.Serial.{tsn, tsn_after, tsn_lte}
use Rattle.sctp_reset_requests.specs.Request.{PeerRequestView, is_due}
use Rattle.sctp_reset_requests.specs.Peer.{PeerView, advanced, advanced_with, arrived, arrived_as, completed}
use Rattle.sctp_reset_requests.specs.Peer.{is_completed, is_current, is_next, number_before, standing_of, taken_up}
use Rattle.sctp_reset_requests.specs.Laws.{PeerEvent, Comes, Moves, after, after_all, HasNumber, IsCompletedUpTo}
use Rattle.sctp_outbound_queue.specs.Outbound.{Outbound}
use Rattle.sctp_reset_requests.specs.Own.{OwnView, asked, asked_for, put_ahead, quiet_ids, with_request}
use Rattle.sctp_reset_requests.specs.Laws.{CompletedStayCompleted, CompletedAreKnown, AskedEndsNone, NamesTheCompleted}
use Rattle.sctp_reset_requests.specs.declared.answer.Standing.{Standing}
use Rattle.sctp_reset_requests.specs.declared.answer.Standing.TheVariants as standings
use Rattle.sctp_wire_types.specs.declared.param.ReconfigResult.TheVariants as results
use Rattle.sctp_reset_requests.specs.declared.answer.Arrival.TheVariants as arrivals

-- Numbers

completed_before : (first n : ℕ) → tsn first n ≡ number_before (tsn first (n + 1))
completed_before first n = omega arith

next_of_last : (first n number : ℕ) → (number == tsn_after (number_before (tsn first n))) ≡ true
    → number ≡ tsn first n
next_of_last first n number e =
    let same : number ≡ tsn_after (number_before (tsn first n)) = eqb-true number _ e in
    same ∙ omega arith

apart : (first n k : ℕ) → k < n → n < k + 2 ^ 31 → (tsn first n == tsn first k) ≡ false
apart first n k below near = grind (arith, nat_tests, below, near)

at_or_below : (first n k : ℕ) → k < n → n < k + 2 ^ 31
    → tsn_lte (tsn first k) (number_before (tsn first n)) ≡ true
at_or_below first n k below near = grind (arith, nat_tests, below, near)

before_is_apart : (first n : ℕ) → (tsn first n == number_before (tsn first n)) ≡ false
before_is_apart first n = grind (arith, nat_tests)

-- One thing happens

module _ (first : ℕ) where
  -- so many, or one more
  abbrev Grows : ℕ → PeerView → Type 0
  Grows n p = (m : ℕ) × (n ≤ m) × (m ≤ n + 1) × IsCompletedUpTo first m p

  stays : (n : ℕ) (p : PeerView) → IsCompletedUpTo first n p → Grows n p
  stays n p h = (n, omega arith, omega arith, h)

  completes : (n : ℕ) (r : PeerRequestView) → r.number ≡ tsn first n → Grows n (completed r)
  completes n r e = (
    n + 1,
    omega arith,
    omega arith,
    record { last = ap Some (e ∙ completed_before first n); current = tt },
  )

  advances_with : (o : Option PeerRequestView) (n : ℕ) (p : PeerView) (t : ℕ) → IsCompletedUpTo first n p
      → HasNumber o (tsn first n) → Grows n (advanced_with o p t).0
  advances_with None n p t h e = stays n p h
  advances_with (Some r) n p t h e = by (is_due r t)
    where
      by : (due : Bool)
          → Grows n (cond {A = PeerView × Option PeerRequestView} due (completed r, Some r) (p, None)).0
      by true = completes n r e
      by false = stays n p h

  advances : (n : ℕ) (p : PeerView) (t : ℕ) → IsCompletedUpTo first n p → Grows n (advanced p t).0
  advances n p t h = advances_with p.in_progress n p t h h.current

  taken : (n : ℕ) (a : PeerView × Option PeerRequestView) → Grows n a.0 → Grows n (taken_up a).0
  taken n (p, None) g = g
  taken n (p, Some r) g = g

-- only the next number is taken up
is_next_one : Standing → Bool
is_next_one standings.Next = true
is_next_one _ = false

abbrev standing_by : Bool → Bool → Bool → Bool → Standing
standing_by current done busy next =
    cond current standings.InProgress
    (cond done standings.Completed
    (cond busy standings.AnotherInProgress (cond next standings.Next standings.OutOfOrder)))

next_is_next : (current done busy next : Bool) → standing_by current done busy next ≡ standings.Next → next ≡ true
unfolding is_next_one
next_is_next true done busy next e = absurd (false≢true (ap is_next_one e))
next_is_next false true busy next e = absurd (false≢true (ap is_next_one e))
next_is_next false false true next e = absurd (false≢true (ap is_next_one e))
next_is_next false false false false e = absurd (false≢true (ap is_next_one e))
next_is_next false false false true e = refl

next_number : (first n : ℕ) (p : PeerView) (number : ℕ) → IsCompletedUpTo first n p
    → standing_of p number ≡ standings.Next → number ≡ tsn first n
next_number first n p number h e =
    let next : is_next p.last_completed number ≡ true =
    next_is_next (is_current p.in_progress number) (is_completed p.last_completed number) (is_some p.in_progress)
    (is_next p.last_completed number) e in
    next_of_last first n number (subst (λ last. is_next last number ≡ true) h.last next)

arrives_as : (s : Standing) (first n : ℕ) (p : PeerView) (r : PeerRequestView) (t : ℕ) → IsCompletedUpTo first n p
    → standing_of p r.number ≡ s → Grows first n (arrived_as s p r t).0
arrives_as standings.Completed first n p r t h e = stays first n p h
arrives_as standings.AnotherInProgress first n p r t h e = stays first n p h
arrives_as standings.OutOfOrder first n p r t h e = stays first n p h
arrives_as standings.InProgress first n p r t h e = taken first n (advanced p t) (advances first n p t h)
arrives_as standings.Next first n p r t h e =
    let q : PeerView = record p { in_progress = Some r } in
    let up : IsCompletedUpTo first n q = record { last = h.last; current = next_number first n p r.number h e } in
    taken first n (advanced q t) (advances first n q t up)

one : (first n : ℕ) (p : PeerView) (e : PeerEvent) → IsCompletedUpTo first n p → Grows first n (after p e)
one first n p (Comes r t) h = arrives_as (standing_of p r.number) first n p r t h refl
one first n p (Moves t) h = advances first n p t h

-- All that happens

bounds_below : (n m k : ℕ) → n ≤ m → m ≤ k → n ≤ k
bounds_below n m k a b = omega (arith, a, b)

bounds_above : (n m k l : ℕ) → m ≤ n + 1 → k ≤ m + l → k ≤ n + suc l
bounds_above n m k l a b = omega (arith, a, b)

pub stay_completed : CompletedStayCompleted
stay_completed first n p [] h = (n, omega arith, omega arith, h)
stay_completed first n p (e ∷ es) h =
    let a : Grows first n (after p e) = one first n p e h in
    let b : (m : ℕ) × (a.0 ≤ m) × (m ≤ a.0 + length es) × IsCompletedUpTo first m (after_all (after p e) es) =
    stay_completed first a.0 (after p e) es a.3 in
    (b.0, bounds_below n a.0 b.0 a.1 b.1, bounds_above n a.0 b.0 (length es) a.2 b.2, b.3)

-- Repeats

not_current : (o : Option PeerRequestView) (first n k number : ℕ) → HasNumber o (tsn first n) → number ≡ tsn first k
    → k < n → n < k + 2 ^ 31 → is_current o number ≡ false
not_current None first n k number h e below near = refl
not_current (Some r) first n k number h e below near = rw (h, e) (apart first n k below near)

module _ (first n k : ℕ) (p : PeerView) (r : PeerRequestView) (cumulative_tsn : ℕ) where
  is_known : IsCompletedUpTo first n p → k < n → n < k + 2 ^ 31 → r.number ≡ tsn first k
      → arrived p r cumulative_tsn ≡ (p, arrivals.Answered results.SuccessPerformed)
  is_known h below near e =
      let current : is_current p.in_progress r.number ≡ false =
      not_current p.in_progress first n k r.number h.current e below near in
      let done : is_completed p.last_completed r.number ≡ true =
      subst (λ last. is_completed last r.number ≡ true) (sym h.last)
      (subst (λ number. tsn_lte number (number_before (tsn first n)) ≡ true) (sym e)
      (at_or_below first n k below near)) in
      ap (λ s. arrived_as s p r cumulative_tsn) (standing current done)
    where
      standing : is_current p.in_progress r.number ≡ false → is_completed p.last_completed r.number ≡ true
          → standing_of p r.number ≡ standings.Completed
      standing c d = rw (c, d) refl

pub are_known : CompletedAreKnown
are_known first n k p r cumulative_tsn = is_known first n k p r cumulative_tsn

not_last : (o : Option PeerRequestView) (first n last : ℕ) → HasNumber o (tsn first n)
    → last ≡ number_before (tsn first n) → is_current o last ≡ false
not_last None first n last h e = refl
not_last (Some r) first n last h e = rw (h, e) (before_is_apart first n)

some_same : (x y : ℕ) → Some x ≡ Some y → x ≡ y
some_same x y e = cc

-- what answers true where a test that fails answers false is what follows the test
follows_the_test : (test : Bool) (o : OwnView) (x : OwnView × Bool) → (if test then (o, false) else x).1 ≡ true
    → ((if test then (o, false) else x) ≡ x) × (x.1 ≡ true)
follows_the_test true o x answered = absurd (false≢true answered)
follows_the_test false o x answered = (refl, answered)

names_the_completed : (first n : ℕ) (p : PeerView) → IsCompletedUpTo first n p → (ids : List ℕ) (last : Option ℕ)
    (o : OwnView) → p.last_completed ≡ last → (asked_for ids last o).1 ≡ true
    → NamesTheCompleted p o (asked_for ids last o).0
names_the_completed first n p h ids None o e answered = absurd (false≢true answered)
names_the_completed first n p h ids (Some last) o e answered =
    let follows = follows_the_test (length ids == 0) o (with_request (put_ahead o ids) last false ids, true) answered in
    let named : number_before (tsn first n) ≡ last = some_same _ _ (sym h.last ∙ e) in
    subst (λ (x : OwnView × Bool). NamesTheCompleted p o x.0) (sym follows.0) (
      record { number = o.next_number; response_number = last; names_all = false; ids = ids },
      refl,
      e,
      not_last p.in_progress first n last h.current (sym named),
    )

pub asked_ends_none : AskedEndsNone
asked_ends_none first n o q p h answered =
    let follows = follows_the_test (is_some o.active || not (length o.queued == 0)) o
    (asked_for (quiet_ids o q) p.last_completed o) answered in
    subst (λ (x : OwnView × Bool). NamesTheCompleted p o x.0) (sym follows.0)
    (names_the_completed first n p h (quiet_ids o q) p.last_completed o refl follows.1)
