-- What comes is taken in or waits, and a new generation is live.
use Rattle.std.proofs.Common.{◌≡◌, refl, sym, ap, ◌∙◌, subst, ℕ, suc, ◌≤◌, ◌<◌, Bool, true, false, not}
use Rattle.std.proofs.Common.{◌&&◌, if◌then◌else◌, List, [], ◌∷◌, length, arith, ⊎_elim, inl}
use Rattle.std.proofs.Common.{inr, Option, Some, None, is_some, nat_lt, nat_le, eqb}
use Rattle.std.proofs.lemmas.Bool.{cases_Bool, true≢false, false≢true, not-true, and_parts, or_parts, or_cases}
use Rattle.std.specs.List.{AllByRecursion}
use Rattle.sctp_model.specs.Packets.{mem}
use Rattle.sctp_model.proofs.Lists.{all_weaker}
use Rattle.sctp_courses.specs.Course.{Course, Live, Told, boundary_at, held_on, is_marked, is_named}
use Rattle.sctp_courses.specs.Course.{offsets_told}
use Rattle.sctp_courses.specs.Events.{becomes_past}
use Rattle.sctp_courses.specs.Events.{is_behind, is_hidden, is_idle}
use Rattle.sctp_courses.specs.Events.{is_new, kept, opened}
use Rattle.sctp_courses.specs.Events.{taken_in, with_held}
use Rattle.sctp_courses.specs.Invariants.{AreBelow, AreFrom}
use Rattle.sctp_courses.specs.Invariants.{Around, Invariant, IsAtItsPlace, IsBehindARequest}
use Rattle.sctp_courses.specs.Invariants.{IsPerformed, IsToEnd, around}
use Rattle.sctp_courses.proofs.Counts.{counted_moved, more_held, one_more}
use Rattle.sctp_courses.proofs.Firsts.{first_all, first_both, first_of_all, first_of_none}
use Rattle.sctp_courses.proofs.Places.{as_live}
use Rattle.sctp_courses.proofs.Places.{held_stays, kept_stays}
use Rattle.sctp_courses.proofs.Places.{opened_before, opened_marked, opened_now}
use Rattle.sctp_courses.proofs.Steps.{idle_parts, idle_retires, le_true, lt_true}
use Rattle.sctp_courses.proofs.Steps.{none_of_none}

-- What is so of a state, of which the invariant is.
module _ (c : Course) (h : Invariant c) where
  -- What comes

  -- what is new lies at or past the boundary of each request that was performed
  past_reached : (o k : ℕ) → c.point ≤ o → k < c.performed → boundary_at c.asked k ≤ o
  past_reached o k l d = let r = h.marks.reached k d in omega arith

  pub takes_kept : (o : ℕ) → is_idle c ≡ true → is_new c o ≡ true → is_hidden c o ≡ false → Invariant (taken_in c o)
  takes_kept o idle new shown = record {
    asks = h.asks;
    counts = one_more o c.hand c.deferred (held_on (with_held c.live o)) (offsets_told c.told) (and_parts _ _ fresh.1).0
        (not-true _ (and_parts (mem o c.mine) _ fresh.1).1) (λ p. let m = more_held c.live o p in omega arith) h.counts;
    steps = h.steps;
    marks = h.marks;
    apart = record {
      held = λ e. first_of_none (λ b. AreBelow b (held_on (with_held c.live o))) c.marks unmarked;
      comes = h.apart.comes;
      later = h.apart.later;
      unmarked = h.apart.unmarked;
      retiring = λ e. absurd (idle_retires c h idle e);
    };
    places = λ k d n.
        held_stays (boundary_at c.asked k) (IsToEnd c.retires c.performed k) (around c) o
        (past_reached o k (le_true _ _ fresh.0) d) (c.past k) (h.places k d n);
    past_is = h.past_is;
    live_is = λ l e. let was = as_live c.live o l e in subst (λ g. g < c.next) was.2 (h.live_is was.0 was.1);
    told_is = h.told_is;
  }
    where
      fresh : (nat_le c.point o ≡ true) × ((mem o c.mine && not (mem o c.taken)) ≡ true)
      fresh = and_parts _ _ new

      unmarked : c.marks ≡ []
      unmarked = none_of_none c.marks (not_not _ (or_parts _ _ shown).0)
        where
          not_not : (b : Bool) → not b ≡ false → b ≡ true
          not_not true e = refl
          not_not false e = absurd (true≢false e)

  pub keeps_kept : (o : ℕ) → is_idle c ≡ true → is_new c o ≡ true → is_hidden c o ≡ true → Invariant (kept c o)
  keeps_kept o idle new hidden = record {
    asks = h.asks;
    counts = one_more o c.hand (o ∷ c.deferred) (held_on c.live) (offsets_told c.told) (and_parts _ _ fresh.1).0
        (not-true _ (and_parts (mem o c.mine) _ fresh.1).1) (λ p. omega arith) h.counts;
    steps = h.steps;
    marks = h.marks;
    apart = record {
      held = h.apart.held;
      comes = h.apart.comes;
      later = first_both (λ b. b ≤ o) (λ b. AreFrom b c.deferred) (λ b. AreFrom b (o ∷ c.deferred)) c.marks
          (λ b l f. (l, f)) (first_of_all (λ b. b ≤ o) c.marks reached) h.apart.later;
      unmarked = λ e. (inl (behind e), h.apart.unmarked e);
      retiring = h.apart.retiring;
    };
    places = λ k d n.
        kept_stays (boundary_at c.asked k) (IsToEnd c.retires c.performed k) (around c) o
        (past_reached o k (le_true _ _ fresh.0) d) (c.past k) (h.places k d n);
    past_is = h.past_is;
    live_is = h.live_is;
    told_is = h.told_is;
  }
    where
      fresh : (nat_le c.point o ≡ true) × ((mem o c.mine && not (mem o c.taken)) ≡ true)
      fresh = and_parts _ _ new

      reached : AllByRecursion (λ (b : ℕ). b ≤ o) c.marks
      reached =
          all_weaker (IsPerformed c.asked c.performed) (λ (b : ℕ). b ≤ o) c.marks
          (λ b p. subst (λ z. z ≤ o) p.2 (past_reached o p.0 (le_true _ _ fresh.0) p.1)) h.marks.each

      behind : c.marks ≡ [] → is_behind c.asked c.performed c.waits o ≡ true
      behind none =
          ⊎_elim (λ (m : not (eqb (length c.marks) 0) ≡ true). absurd (marked m))
          (λ (b : is_behind c.asked c.performed c.waits o ≡ true). b) (or_cases _ _ hidden)
        where
          marked : not (eqb (length c.marks) 0) ≡ true → ⊥
          marked m =
              false≢true (sym (not-true _ m) ∙ subst (λ (ms : List ℕ). eqb (length ms) 0 ≡ true) (sym none) refl)

  pub comes_kept : is_idle c ≡ true → c.performed < length c.asked → Invariant (record c { waits = true })
  comes_kept idle l = record {
    asks = h.asks;
    counts = h.counts;
    steps = record {
      waits_for = λ e. (l, (idle_parts c h idle).0);
      some = h.steps.some;
      first = h.steps.first;
    };
    marks = h.marks;
    apart = record {
      held = h.apart.held;
      comes = h.apart.comes;
      later = h.apart.later;
      unmarked = λ e.
          all_weaker (IsBehindARequest c.asked c.performed c.waits c.releases)
          (IsBehindARequest c.asked c.performed true c.releases) c.deferred more (h.apart.unmarked e);
      retiring = h.apart.retiring;
    };
    places = h.places;
    past_is = h.past_is;
    live_is = h.live_is;
    told_is = h.told_is;
  }
    where
      more : (o : ℕ) → IsBehindARequest c.asked c.performed c.waits c.releases o
          → IsBehindARequest c.asked c.performed true c.releases o
      more o (inl b) = inl (and_parts c.waits _ b).1
      more o (inr b) = inr b

  pub advances_kept : (point : ℕ) → c.point ≤ point → Invariant (record c { point = point })
  advances_kept point l = record {
    asks = h.asks;
    counts = h.counts;
    steps = h.steps;
    marks = record {
      reached = λ k d. let r = h.marks.reached k d in omega arith;
      ascend = h.marks.ascend;
      each = h.marks.each;
    };
    apart = h.apart;
    places = h.places;
    past_is = h.past_is;
    live_is = h.live_is;
    told_is = h.told_is;
  }

  -- A new generation

  pub opens_kept : (generation : ℕ) → c.retires ≡ false → is_some c.live ≡ false → c.next ≤ generation
      → Invariant (opened c generation)
  opens_kept generation still gone later = record {
    asks = h.asks;
    counts = counted_moved c.hand c.deferred (held_on c.live) (offsets_told c.told) c.hand c.deferred []
        (offsets_told c.told) (λ o. omega arith) h.counts;
    steps = h.steps;
    marks = h.marks;
    apart = record {
      held = λ e. first_all (λ b. AreBelow b []) c.marks (λ b. tt);
      comes = h.apart.comes;
      later = h.apart.later;
      unmarked = h.apart.unmarked;
      retiring = λ e. absurd (true≢false (sym e ∙ still));
    };
    places = λ k d n. at_place k d n (becomes_past c k) refl;
    past_is = λ k from e. past_of k from (becomes_past c k) refl e;
    live_is = λ l e. of_live l e;
    told_is = all_weaker (λ (t : Told). t.generation < c.next) (λ (t : Told). t.generation < suc generation) c.told
        (λ t l. omega arith) h.told_is;
  }
    where
      never : {k : ℕ} → IsToEnd c.retires c.performed k → ⊥
      never {k} now = true≢false (sym now.0 ∙ still)

      of_live : (l : Live) → Some (record { generation = generation; is_open = true; held = [] }) ≡ Some l
          → l.generation < suc generation
      of_live l e =
          let f : record { generation = generation; is_open = true; held = [] } ≡ l = cc in
          let g : generation ≡ l.generation = ap (λ (y : Live). y.generation) f in omega arith

      past_of : (k from : ℕ) (new : Bool) → becomes_past c k ≡ new
          → (if becomes_past c k then Some generation else c.past k) ≡ Some from
          → (k < c.performed) × (is_named c.asked k ≡ true)
      past_of k from true e f =
          let p = and_parts _ _ (and_parts _ _ e).0 in (lt_true k c.performed p.0, p.1)
      past_of k from false e f =
          h.past_is k from (subst (λ b. (if b then Some generation else c.past k) ≡ Some from) e f)

      With : Around
      With = record {
        next = suc generation;
        live = Some (record { generation = generation; is_open = true; held = [] });
        marks = c.marks;
        deferred = c.deferred;
        hand = c.hand;
        told = c.told;
      }

      at_place : (k : ℕ) → k < c.performed → is_named c.asked k ≡ true → (new : Bool) → becomes_past c k ≡ new
          → IsAtItsPlace (boundary_at c.asked k) (IsToEnd c.retires c.performed k) With
          (if becomes_past c k then Some generation else c.past k)
      at_place k d n true e =
          let p = and_parts _ _ (and_parts _ _ e).1 in
          rw e (opened_now (boundary_at c.asked k) (IsToEnd c.retires c.performed k) (around c) generation
          (λ now. true≢false (sym now.0 ∙ still)) later h.told_is (not-true _ p.1)
          (pending (c.past k) (not-true _ p.0) (h.places k d n)))
        where
          pending : (past : Option ℕ) → is_some past ≡ false
              → IsAtItsPlace (boundary_at c.asked k) (IsToEnd c.retires c.performed k) (around c) past
              → IsAtItsPlace (boundary_at c.asked k) (IsToEnd c.retires c.performed k) (around c) None
          pending None e a = a
          pending (Some from) e a = absurd (true≢false e)
      at_place k d n false e = rw e (by (c.past k) refl (h.places k d n))
        where
          marked : c.past k ≡ None → is_marked c.marks c.deferred (boundary_at c.asked k) ≡ true
          marked none =
              ⊎_elim (λ (m : is_marked c.marks c.deferred (boundary_at c.asked k) ≡ true). m)
              (λ (m : is_marked c.marks c.deferred (boundary_at c.asked k) ≡ false).
              absurd (false≢true (sym e ∙ all_four m)))
              (cases_Bool (is_marked c.marks c.deferred (boundary_at c.asked k)))
            where
              less : nat_lt k c.performed ≡ true
              less = grind arith

              all_four : is_marked c.marks c.deferred (boundary_at c.asked k) ≡ false → becomes_past c k ≡ true
              all_four m = rw (less, n, none, m) refl

          by : (past : Option ℕ) → c.past k ≡ past
              → IsAtItsPlace (boundary_at c.asked k) (IsToEnd c.retires c.performed k) (around c) past
              → IsAtItsPlace (boundary_at c.asked k) (IsToEnd c.retires c.performed k) With past
          by None is a =
              opened_marked (boundary_at c.asked k) (IsToEnd c.retires c.performed k) (around c) generation (marked is) a
          by (Some from) is a =
              opened_before (boundary_at c.asked k) (IsToEnd c.retires c.performed k) (around c) generation from later a
