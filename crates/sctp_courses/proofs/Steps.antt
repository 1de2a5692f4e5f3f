-- What is live may hold less, and what the invariant says of a state in which no request is being performed.
use Rattle.std.proofs.Common.{◌≡◌, refl, sym, ◌∙◌, subst, ℕ, suc, ◌-◌, ◌≤◌, ◌<◌, Bool, true, false}
use Rattle.std.proofs.Common.{List, [], ◌∷◌, length, arith}
use Rattle.std.proofs.Common.{Option, None, nat_lt, nat_le, eqb}
use Rattle.std.proofs.lemmas.Bool.{true≢false, not-true, and_parts, eqb-true}
use Rattle.sctp_courses.specs.Course.{Course, Live, boundary_at, held_on}
use Rattle.sctp_courses.specs.Course.{offsets_told, times}
use Rattle.sctp_courses.specs.Events.{closed_to_reads}
use Rattle.sctp_courses.specs.Events.{held_where, is_idle}
use Rattle.sctp_courses.specs.Invariants.{AreBelow}
use Rattle.sctp_courses.specs.Invariants.{Invariant}
use Rattle.sctp_courses.specs.Invariants.{IsToEnd, around}
use Rattle.sctp_courses.proofs.Counts.{as_held, counted_moved, fewer_held}
use Rattle.sctp_courses.proofs.Firsts.{first_weaker}
use Rattle.sctp_courses.proofs.Places.{IsLess, closed_less}
use Rattle.sctp_courses.proofs.Places.{filtered_less, less_stays}
use Rattle.sctp_courses.proofs.Places.{none_less}

-- Numbers that tests compare

pub le_true : (a b : ℕ) → nat_le a b ≡ true → a ≤ b
le_true a b e = grind arith

pub lt_true : (a b : ℕ) → nat_lt a b ≡ true → a < b
lt_true a b e = grind arith

pub lt_false : (a b : ℕ) → nat_lt a b ≡ false → b ≤ a
lt_false a b e = grind arith

pub none_of_none : (xs : List ℕ) → eqb (length xs) 0 ≡ true → xs ≡ []
none_of_none [] e = refl
none_of_none (x ∷ xs) e = absurd (let z = eqb-true (length (x ∷ xs)) 0 e in omega arith)

pub last_is : (p k : ℕ) → suc k ≡ p → k ≡ p - 1
last_is p k e = omega arith

-- What is so of a state, of which the invariant is.
module _ (c : Course) (h : Invariant c) where
  pub idle_parts : is_idle c ≡ true → (c.releases ≡ false) × (c.hand ≡ [])
  idle_parts e = let p = and_parts _ _ e in (not-true _ p.0, none_of_none c.hand p.1)

  pub idle_retires : is_idle c ≡ true → c.retires ≡ true → ⊥
  idle_retires e r = true≢false (sym (h.steps.first r).0 ∙ (idle_parts e).0)

  -- What is live holds less

  pub less_kept : (less : Option Live) → IsLess less c.live
      → ((o : ℕ) → times o (held_on less) ≤ times o (held_on c.live)) → Invariant (record c { live = less })
  less_kept less l few = record {
    asks = h.asks;
    counts = counted_moved c.hand c.deferred (held_on c.live) (offsets_told c.told) c.hand c.deferred (held_on less)
        (offsets_told c.told) (λ o. let f = few o in omega arith) h.counts;
    steps = h.steps;
    marks = h.marks;
    apart = record {
      held = λ e.
          first_weaker (λ b. AreBelow b (held_on c.live)) (λ b. AreBelow b (held_on less)) c.marks (λ b f. l.below b f)
          (h.apart.held (l.readable e));
      comes = h.apart.comes;
      later = h.apart.later;
      unmarked = h.apart.unmarked;
      retiring = λ e. l.below _ (h.apart.retiring e);
    };
    places = λ k d n. less_stays (boundary_at c.asked k) (IsToEnd c.retires c.performed k) (around c) less l (c.past k)
        (h.places k d n);
    past_is = h.past_is;
    live_is = λ k e. let was = l.since k e in subst (λ g. g < c.next) was.2 (h.live_is was.0 was.1);
    told_is = h.told_is;
  }

  pub holds_kept : (test : ℕ → Bool) → Invariant (record c { live = held_where test c.live })
  holds_kept test = less_kept (held_where test c.live) (filtered_less test c.live) (fewer_held test c.live)

  pub closes_kept : Invariant (record c { live = closed_to_reads c.live })
  closes_kept = less_kept (closed_to_reads c.live) (closed_less c.live) (as_held c.live)

  pub vanishes_kept : Invariant (record c { live = None })
  vanishes_kept = less_kept None (none_less c.live) (λ o. omega arith)
