-- A request is performed, step by step.
use Rattle.std.proofs.Common.{◌≡◌, refl, sym, ap, ◌∙◌, subst, ℕ, suc, ◌-◌, ◌≤◌, ◌<◌, true, false}
use Rattle.std.proofs.Common.{List, [], ◌∷◌, ◌++◌, length, arith, ⊎_elim, ◌⊎◌, inl}
use Rattle.std.proofs.Common.{inr, Option, Some, None, nat_lt, eqb}
use Rattle.std.proofs.lemmas.Bool.{cases_Bool, true≢false, false≢true, and_parts}
use Rattle.std.specs.List.{AllByRecursion}
use Rattle.sctp_model.proofs.Lists.{all_push, all_weaker, all_front, all_back}
use Rattle.sctp_courses.specs.Course.{Course, Told, boundary_at, held_on, is_marked, is_named}
use Rattle.sctp_courses.specs.Course.{offsets_told}
use Rattle.sctp_courses.specs.Events.{finished, is_due, is_idle}
use Rattle.sctp_courses.specs.Events.{last_boundary, left}
use Rattle.sctp_courses.specs.Events.{performed_next, released, retired}
use Rattle.sctp_courses.specs.Invariants.{AreBelow, AreFrom, AreInStep, AreNotFalling}
use Rattle.sctp_courses.specs.Invariants.{Invariant, IsAtItsPlace, IsBehindARequest, IsOver}
use Rattle.sctp_courses.specs.Invariants.{IsPerformed, IsToEnd, around}
use Rattle.sctp_courses.proofs.Counts.{counted_moved, held_mine}
use Rattle.sctp_courses.proofs.Counts.{told_mine}
use Rattle.sctp_courses.proofs.Firsts.{first_all, first_of_none, first_push}
use Rattle.sctp_courses.proofs.Places.{ended_stays}
use Rattle.sctp_courses.proofs.Places.{released_stays, retired_stays}
use Rattle.sctp_courses.proofs.Steps.{idle_parts, idle_retires, last_is, le_true, lt_false, lt_true, vanishes_kept}
use Rattle.sctp_courses.proofs.Steps.{none_of_none}

-- What is so of a state, of which the invariant is.
module _ (c : Course) (h : Invariant c) where
  -- the request ends the newest generation no longer
  pub ended_kept : ((k : ℕ) → c.retires ≡ true → suc k ≡ c.performed
      → (is_marked c.marks c.deferred (boundary_at c.asked k) ≡ true) ⊎ IsOver (boundary_at c.asked k) (around c))
      → Invariant (record c { retires = false })
  ended_kept ends = record {
    asks = h.asks;
    counts = h.counts;
    steps = record {
      waits_for = h.steps.waits_for;
      some = h.steps.some;
      first = λ e. absurd (false≢true e);
    };
    marks = h.marks;
    apart = record {
      held = h.apart.held;
      comes = h.apart.comes;
      later = h.apart.later;
      unmarked = h.apart.unmarked;
      retiring = λ e. absurd (false≢true e);
    };
    places = λ k d n.
        ended_stays (boundary_at c.asked k) (IsToEnd c.retires c.performed k) (around c)
        (IsToEnd false c.performed k) (λ now. by k (ends k now.0 now.1)) (c.past k) (h.places k d n);
    past_is = h.past_is;
    live_is = h.live_is;
    told_is = h.told_is;
  }
    where
      by : (k : ℕ)
          → (is_marked c.marks c.deferred (boundary_at c.asked k) ≡ true) ⊎ IsOver (boundary_at c.asked k) (around c)
          → (is_marked c.marks c.deferred (boundary_at c.asked k) ≡ true)
          ⊎ (IsOver (boundary_at c.asked k) (around c) ⊎ IsToEnd false c.performed k)
      by k (inl m) = inl m
      by k (inr v) = inr (inl v)

-- The same of the state in which a request is performed.
module _ (c : Course) (h : Invariant c) where
  -- the last request that was performed
  abbrev last : ℕ
  last = c.performed - 1

  -- what was deferred while nothing retired lies at or past the boundary of the request that is being performed
  behind_last : c.releases ≡ true → c.marks ≡ [] → AreFrom (boundary_at c.asked last) c.deferred
  behind_last r none =
      all_weaker (IsBehindARequest c.asked c.performed c.waits c.releases)
      (λ (o : ℕ). boundary_at c.asked last ≤ o) c.deferred by (h.apart.unmarked none)
    where
      by : (o : ℕ) → IsBehindARequest c.asked c.performed c.waits c.releases o → boundary_at c.asked last ≤ o
      by o (inl b) =
          absurd (true≢false (sym r ∙ (h.steps.waits_for (and_parts _ _ b).0).1))
      by o (inr b) = b.2

  -- nothing of the generation can be read, and what is deferred is of later ones
  pub finishes_kept : c.retires ≡ true → c.marks ≡ [] → Invariant (finished c)
  finishes_kept r none =
      ended_kept (record c { live = None }) (vanishes_kept c h)
      (λ k now e. inr (record {
        unread = refl;
        later = subst (λ z. AreFrom (boundary_at c.asked z) c.deferred) (sym (last_is c.performed k e))
            (behind_last (h.steps.first r).0 none);
        comes = subst (AreFrom (boundary_at c.asked k)) (sym (h.steps.some (h.steps.first r).0).1) tt;
      }))

  pub leaves_kept : is_marked c.marks c.deferred (last_boundary c) ≡ true → Invariant (left c)
  leaves_kept m =
      ended_kept c h (λ k r e.
      inl (subst (λ z. is_marked c.marks c.deferred (boundary_at c.asked z) ≡ true) (sym (last_is c.performed k e)) m))

  pub retires_kept : c.retires ≡ true → Invariant (retired c)
  retires_kept r = record {
    asks = h.asks;
    counts = h.counts;
    steps = record {
      waits_for = h.steps.waits_for;
      some = h.steps.some;
      first = λ e. absurd (false≢true e);
    };
    marks = record {
      reached = h.marks.reached;
      ascend = rising c.marks h.marks.ascend
          (all_weaker (IsPerformed c.asked c.performed) (λ (b : ℕ). b ≤ last_boundary c) c.marks
          (λ b p. subst (λ z. z ≤ last_boundary c) p.2 (up_to p.0 p.1)) h.marks.each);
      each = all_push (IsPerformed c.asked c.performed) c.marks (last_boundary c) h.marks.each
          (last, let s = some.0 in omega arith, refl);
    };
    apart = record {
      held = λ e.
          first_push (λ b. AreBelow b (held_on c.live)) c.marks (last_boundary c) (λ none. h.apart.retiring r)
          (h.apart.held e);
      comes = first_push (λ b. AreBelow b c.hand) c.marks (last_boundary c)
          (λ none. subst (AreBelow (last_boundary c)) (sym some.1) tt) h.apart.comes;
      later = first_push (λ b. AreFrom b c.deferred) c.marks (last_boundary c) (λ none. behind_last performing none)
          h.apart.later;
      unmarked = λ e. absurd (never c.marks e);
      retiring = λ e. absurd (false≢true e);
    };
    places = λ k d n.
        retired_stays (boundary_at c.asked k) (IsToEnd c.retires c.performed k) (around c) (last_boundary c)
        (IsToEnd false c.performed k) (up_to k d)
        (λ now. ap (boundary_at c.asked) (last_is c.performed k now.1)) (c.past k) (h.places k d n);
    past_is = h.past_is;
    live_is = h.live_is;
    told_is = h.told_is;
  }
    where
      performing : c.releases ≡ true
      performing = (h.steps.first r).0

      some : (0 < c.performed) × (c.hand ≡ [])
      some = h.steps.some performing

      up_to : (k : ℕ) → k < c.performed → boundary_at c.asked k ≤ last_boundary c
      up_to k d = let l = h.asks.known in let s = some.0 in h.asks.ascend k last (omega arith) (omega arith)

      rising : (bs : List ℕ) → AreNotFalling bs → AllByRecursion (λ (b : ℕ). b ≤ last_boundary c) bs
          → AreNotFalling (bs ++ last_boundary c ∷ [])
      rising [] a l = (tt, tt)
      rising (b ∷ bs) a l = (all_push (λ (x : ℕ). b ≤ x) bs (last_boundary c) a.0 l.0, rising bs a.1 l.1)

      never : (bs : List ℕ) → bs ++ last_boundary c ∷ [] ≡ [] → ⊥
      never [] e = cc
      never (b ∷ bs) e = cc

  pub released_kept : c.releases ≡ true → c.retires ≡ false → Invariant (released c)
  released_kept r still =
      ⊎_elim (λ (e : eqb (length c.marks) 0 ≡ true). rw e (given (none_of_none c.marks e)))
      (λ (e : eqb (length c.marks) 0 ≡ false). rw e (waits (λ n. some_marks c.marks e n)))
      (cases_Bool (eqb (length c.marks) 0))
    where
      some_marks : (bs : List ℕ) → eqb (length bs) 0 ≡ false → bs ≡ [] → ⊥
      some_marks [] e n = cc
      some_marks (b ∷ bs) e n = cc

      none : c.hand ≡ []
      none = (h.steps.some r).1

      steps : (hand : List ℕ) → AreInStep c.asked c.performed c.waits c.retires false hand
      steps hand = record {
        waits_for = λ e. ((h.steps.waits_for e).0, refl);
        some = λ e. absurd (false≢true e);
        first = λ e. absurd (true≢false (sym e ∙ still));
      }

      never : {k : ℕ} → IsToEnd c.retires c.performed k → ⊥
      never {k} now = true≢false (sym now.0 ∙ still)

      given : c.marks ≡ [] → Invariant (record c { hand = c.deferred; deferred = []; releases = false })
      given empty = record {
        asks = h.asks;
        counts = counted_moved c.hand c.deferred (held_on c.live) (offsets_told c.told) c.deferred [] (held_on c.live)
            (offsets_told c.told) (λ o. omega arith) h.counts;
        steps = steps c.deferred;
        marks = h.marks;
        apart = record {
          held = h.apart.held;
          comes = first_of_none (λ b. AreBelow b c.deferred) c.marks empty;
          later = first_all (λ b. AreFrom b []) c.marks (λ b. tt);
          unmarked = λ e. tt;
          retiring = h.apart.retiring;
        };
        places = λ k d n.
            released_stays (boundary_at c.asked k) (IsToEnd c.retires c.performed k) (around c)
            (IsToEnd c.retires c.performed k) empty (λ now. true≢false (sym now.0 ∙ still)) (c.past k) (h.places k d n);
        past_is = h.past_is;
        live_is = h.live_is;
        told_is = h.told_is;
      }

      waits : (c.marks ≡ [] → ⊥) → Invariant (record c { releases = false })
      waits marked = record {
        asks = h.asks;
        counts = h.counts;
        steps = steps c.hand;
        marks = h.marks;
        apart = record {
          held = h.apart.held;
          comes = h.apart.comes;
          later = h.apart.later;
          unmarked = λ e. absurd (marked e);
          retiring = h.apart.retiring;
        };
        places = h.places;
        past_is = h.past_is;
        live_is = h.live_is;
        told_is = h.told_is;
      }

  pub performs_kept : is_idle c ≡ true → is_due c ≡ true → Invariant (performed_next c)
  performs_kept idle due = record {
    asks = record {
      ascend = h.asks.ascend;
      below = h.asks.below;
      known = known;
      quiet = λ k l n. h.asks.quiet k (omega arith) n;
      assigned_below = h.asks.assigned_below;
    };
    counts = h.counts;
    steps = record {
      waits_for = λ e. absurd (false≢true e);
      some = λ e. (omega arith, (idle_parts c h idle).1);
      first = λ e. (refl, subst (λ z. is_named c.asked z ≡ true) (sym before) e);
    };
    marks = record {
      reached = λ k l. by_last k l (λ (z : ℕ). boundary_at c.asked z ≤ c.point) (h.marks.reached k) reached;
      ascend = h.marks.ascend;
      each = all_weaker (IsPerformed c.asked c.performed) (IsPerformed c.asked (suc c.performed)) c.marks
          (λ b p. (p.0, let l = p.1 in omega arith, p.2)) h.marks.each;
    };
    apart = record {
      held = h.apart.held;
      comes = h.apart.comes;
      later = h.apart.later;
      unmarked = λ e.
          all_weaker (IsBehindARequest c.asked c.performed c.waits c.releases)
          (IsBehindARequest c.asked (suc c.performed) false true) c.deferred behind (h.apart.unmarked e);
      retiring = λ e. subst (λ z. AreBelow (boundary_at c.asked z) (held_on c.live)) (sym before) (quiet_held e);
    };
    places = λ k l n. at_place k l n;
    past_is = λ k from e. let p = h.past_is k from e in (let l = p.0 in omega arith, p.1);
    live_is = h.live_is;
    told_is = h.told_is;
  }
    where
      before : suc c.performed - 1 ≡ c.performed
      before = omega arith

      there : (c.performed < length c.asked) × (c.releases ≡ false)
      there = h.steps.waits_for (and_parts _ _ due).0

      reached : boundary_at c.asked c.performed ≤ c.point
      reached = le_true _ _ (and_parts c.waits _ due).1

      known : suc c.performed ≤ length c.asked
      known = let l = there.0 in omega arith

      by_last : (k : ℕ) → k < suc c.performed → (P : ℕ → Type 0) → (k < c.performed → P k) → P c.performed → P k
      by_last k l P f g =
          ⊎_elim (λ (e : nat_lt k c.performed ≡ true). f (lt_true k c.performed e))
          (λ (e : nat_lt k c.performed ≡ false).
          let m = lt_false k c.performed e in
          let same : c.performed ≡ k = omega arith in subst P same g) (cases_Bool (nat_lt k c.performed))

      quiet_mine : is_named c.asked c.performed ≡ true → AreBelow (boundary_at c.asked c.performed) c.mine
      quiet_mine n = h.asks.quiet c.performed (omega arith) there.0 n

      quiet_held : is_named c.asked c.performed ≡ true → AreBelow (boundary_at c.asked c.performed) (held_on c.live)
      quiet_held n = held_mine h.counts (λ (o : ℕ). o < boundary_at c.asked c.performed) (quiet_mine n)

      behind : (o : ℕ) → IsBehindARequest c.asked c.performed c.waits c.releases o
          → IsBehindARequest c.asked (suc c.performed) false true o
      behind o (inl b) =
          let p = and_parts (is_named c.asked c.performed) _ (and_parts c.waits _ b).1 in
          inr (
            refl,
            subst (λ z. is_named c.asked z ≡ true) (sym before) p.0,
            subst (λ z. boundary_at c.asked z ≤ o) (sym before) (le_true _ _ p.1),
          )
      behind o (inr b) = absurd (true≢false (sym b.0 ∙ there.1))

      each_told : (b : ℕ) (ts : List Told) → AreBelow b (offsets_told ts)
          → AllByRecursion (λ (t : Told). AreBelow b t.offsets) ts
      each_told b [] a = tt
      each_told b (t ∷ ts) a = (
        all_front (λ (o : ℕ). o < b) t.offsets (offsets_told ts) a,
        each_told b ts (all_back (λ (o : ℕ). o < b) t.offsets (offsets_told ts) a),
      )

      at_last : (past : Option ℕ) → c.past c.performed ≡ past → is_named c.asked c.performed ≡ true
          → IsAtItsPlace (boundary_at c.asked c.performed)
          (IsToEnd (is_named c.asked c.performed) (suc c.performed) c.performed) (around c) past
      at_last None e n = record {
        below = each_told (boundary_at c.asked c.performed) c.told
            (told_mine h.counts (λ (o : ℕ). o < boundary_at c.asked c.performed) (quiet_mine n));
        ends = inr (inr (n, refl));
      }
      at_last (Some from) e n = absurd (let p = (h.past_is c.performed from e).0 in omega arith)

      at_place : (k : ℕ) → k < suc c.performed → is_named c.asked k ≡ true
          → IsAtItsPlace (boundary_at c.asked k) (IsToEnd (is_named c.asked c.performed) (suc c.performed) k) (around c)
          (c.past k)
      at_place k l n =
          by_last k l
          (λ (z : ℕ). is_named c.asked z ≡ true
          → IsAtItsPlace (boundary_at c.asked z) (IsToEnd (is_named c.asked c.performed) (suc c.performed) z) (around c)
          (c.past z))
          (λ d m.
          ended_stays (boundary_at c.asked k) (IsToEnd c.retires c.performed k) (around c)
          (IsToEnd (is_named c.asked c.performed) (suc c.performed) k) (λ now. absurd (idle_retires c h idle now.0))
          (c.past k) (h.places k d m)) (λ m. at_last (c.past c.performed) refl m) n
