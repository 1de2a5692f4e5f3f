-- A generation is read to its end, messages are read, and what waits is dropped.
use Rattle.std.proofs.Common.{◌≡◌, refl, sym, ap, ◌∙◌, subst, ℕ, ◌+◌, ◌-◌, ◌≤◌, ◌<◌, Bool, true, false, not}
use Rattle.std.proofs.Common.{if◌then◌else◌, List, [], ◌∷◌, ◌++◌, filter, arith, inl}
use Rattle.std.proofs.Common.{Option, Some, None, nat_lt, eqb}
use Rattle.std.proofs.lemmas.Bool.{true≢false, false≢true, not-true}
use Rattle.std.specs.List.{AllByRecursion}
use Rattle.sctp_model.specs.Packets.{mem}
use Rattle.sctp_model.proofs.Lists.{all_filter, all_push, all_weaker, all_passed}
use Rattle.sctp_courses.specs.Course.{Course, Live, Told, boundary_at, held_on, is_readable}
use Rattle.sctp_courses.specs.Course.{offsets_told, times}
use Rattle.sctp_courses.specs.Events.{are_held}
use Rattle.sctp_courses.specs.Events.{discarded, is_behind, is_idle}
use Rattle.sctp_courses.specs.Events.{is_of_next}
use Rattle.sctp_courses.specs.Events.{with_held}
use Rattle.sctp_courses.specs.Events.{without_held}
use Rattle.sctp_courses.specs.Invariants.{AreBelow, AreFrom, AreNotFalling}
use Rattle.sctp_courses.specs.Invariants.{Invariant, IsBehindARequest}
use Rattle.sctp_courses.specs.Invariants.{IsPerformed, IsToEnd, OfFirst, around}
use Rattle.sctp_courses.proofs.Counts.{counted_moved, everywhere, more_held}
use Rattle.sctp_courses.proofs.Counts.{times_told}
use Rattle.sctp_courses.proofs.Firsts.{first_both, first_weaker}
use Rattle.sctp_courses.proofs.Places.{as_live, discarded_stays, dropped_stays}
use Rattle.sctp_courses.proofs.Places.{given_stays}
use Rattle.sctp_courses.proofs.Places.{passed_stays, read_stays}
use Rattle.sctp_courses.proofs.Times.{times_filtered, times_parted, times_taken}
use Rattle.sctp_courses.proofs.Steps.{idle_parts, idle_retires, last_is, lt_false, lt_true}
use Rattle.sctp_courses.proofs.Places.{as_readable}

-- What is so of a state, of which the invariant is.
module _ (c : Course) (h : Invariant c) where
  -- What is given comes to the stream

  pub gives_kept : (o : ℕ) (os : List ℕ) → c.hand ≡ o ∷ os
      → Invariant (record c { live = with_held c.live o; hand = os })
  gives_kept o os is = record {
    asks = h.asks;
    counts = counted_moved c.hand c.deferred (held_on c.live) (offsets_told c.told) os c.deferred
        (held_on (with_held c.live o)) (offsets_told c.told) moved h.counts;
    steps = record {
      waits_for = h.steps.waits_for;
      some = λ e. absurd (some e);
      first = h.steps.first;
    };
    marks = h.marks;
    apart = record {
      held = λ e.
          first_both (λ b. AreBelow b (o ∷ os)) (λ b. AreBelow b (held_on c.live))
          (λ b. AreBelow b (held_on (with_held c.live o))) c.marks (λ b f g. below c.live b f.0 g)
          (subst (λ (xs : List ℕ). OfFirst (λ b. AreBelow b xs) c.marks) is h.apart.comes)
          (h.apart.held (sym (as_readable c.live o) ∙ e));
      comes = first_weaker (λ b. AreBelow b (o ∷ os)) (λ b. AreBelow b os) c.marks (λ b f. f.1)
          (subst (λ (xs : List ℕ). OfFirst (λ b. AreBelow b xs) c.marks) is h.apart.comes);
      later = h.apart.later;
      unmarked = h.apart.unmarked;
      retiring = λ e. absurd (some (h.steps.first e).0);
    };
    places = λ k d n.
        given_stays (boundary_at c.asked k) (IsToEnd c.retires c.performed k) (around c) o os is (c.past k)
        (h.places k d n);
    past_is = h.past_is;
    live_is = λ l e. let was = as_live c.live o l e in subst (λ g. g < c.next) was.2 (h.live_is was.0 was.1);
    told_is = h.told_is;
  }
    where
      some : c.releases ≡ true → ⊥
      some e = let f : o ∷ os ≡ [] = sym is ∙ (h.steps.some e).1 in cc

      below : (live : Option Live) (b : ℕ) → o < b → AreBelow b (held_on live) → AreBelow b (held_on (with_held live o))
      below None b l f = f
      below (Some x) b l f = (l, f)

      moved : (p : ℕ) → everywhere p os c.deferred (held_on (with_held c.live o)) (offsets_told c.told)
          ≤ everywhere p c.hand c.deferred (held_on c.live) (offsets_told c.told)
      moved p =
          let a = more_held c.live o p in
          let e : times p c.hand ≡ times p (o ∷ os) = ap (times p) is in
          let f : times p (o ∷ os) ≡ (if eqb o p then 1 else 0) + times p os = refl in omega arith

  -- A generation is read to its end

  pub passes_kept : (mark : ℕ) (marks : List ℕ) → is_idle c ≡ true → c.marks ≡ mark ∷ marks
      → Invariant (record c {
        live = None;
        marks = marks;
        hand = filter (is_of_next marks c) c.deferred;
        deferred = filter (λ o. not (is_of_next marks c o)) c.deferred;
      })
  passes_kept mark marks idle is = record {
    asks = h.asks;
    counts = counted_moved c.hand c.deferred (held_on c.live) (offsets_told c.told)
        (filter (is_of_next marks c) c.deferred) (filter (λ o. not (is_of_next marks c o)) c.deferred) []
        (offsets_told c.told) (λ o. let e = times_parted (is_of_next marks c) o c.deferred in omega arith) h.counts;
    steps = record {
      waits_for = h.steps.waits_for;
      some = λ e. absurd (true≢false (sym e ∙ (idle_parts c h idle).0));
      first = h.steps.first;
    };
    marks = record {
      reached = h.marks.reached;
      ascend = (subst AreNotFalling is h.marks.ascend).1;
      each = (subst (AllByRecursion (IsPerformed c.asked c.performed)) is h.marks.each).1;
    };
    apart = record {
      held = λ e. absurd (false≢true e);
      comes = by_next marks;
      later = past_next marks;
      unmarked = λ none. behind marks none;
      retiring = λ e. absurd (idle_retires c h idle e);
    };
    places = λ k d n.
        passed_stays (boundary_at c.asked k) (IsToEnd c.retires c.performed k) (around c) mark marks
        (is_of_next marks c) is (subst (OfFirst (λ b. AreFrom b c.deferred)) is h.apart.later) (c.past k)
        (h.places k d n);
    past_is = h.past_is;
    live_is = λ l e. absurd (cc);
    told_is = h.told_is;
  }
    where
      by_next : (ms : List ℕ) → OfFirst (λ b. AreBelow b (filter (is_of_next ms c) c.deferred)) ms
      by_next [] = tt
      by_next (b ∷ ms) =
          all_weaker (λ (o : ℕ). nat_lt o b ≡ true) (λ (o : ℕ). o < b) (filter (λ o. nat_lt o b) c.deferred)
          (λ o e. lt_true o b e) (all_passed (λ o. nat_lt o b) c.deferred)

      past_next : (ms : List ℕ) → OfFirst (λ b. AreFrom b (filter (λ o. not (is_of_next ms c o)) c.deferred)) ms
      past_next [] = tt
      past_next (b ∷ ms) =
          all_weaker (λ (o : ℕ). not (nat_lt o b) ≡ true) (λ (o : ℕ). b ≤ o)
          (filter (λ o. not (nat_lt o b)) c.deferred) (λ o e. lt_false o b (not-true _ e))
          (all_passed (λ o. not (nat_lt o b)) c.deferred)

      behind : (ms : List ℕ) → ms ≡ []
          → AllByRecursion (IsBehindARequest c.asked c.performed c.waits c.releases)
          (filter (λ o. not (is_of_next ms c o)) c.deferred)
      behind [] none =
          all_weaker (λ (o : ℕ). not (not (is_behind c.asked c.performed c.waits o)) ≡ true)
          (IsBehindARequest c.asked c.performed c.waits c.releases)
          (filter (λ o. not (not (is_behind c.asked c.performed c.waits o))) c.deferred) (λ o e. inl (twice _ e))
          (all_passed (λ o. not (not (is_behind c.asked c.performed c.waits o))) c.deferred)
        where
          twice : (b : Bool) → not (not b) ≡ true → b ≡ true
          twice true e = refl
          twice false e = absurd (false≢true e)
      behind (b ∷ ms) none = absurd (cc)

  -- The application

  pub reads_kept : (os : List ℕ) (l : Live) → c.live ≡ Some l → l.is_open ≡ true → are_held os l.held ≡ true
      → Invariant (record c {
        live = Some (without_held os l);
        told = c.told ++ record { generation = l.generation; offsets = os } ∷ [];
      })
  reads_kept os l is can held = record {
    asks = h.asks;
    counts = counted_moved c.hand c.deferred (held_on c.live) (offsets_told c.told) c.hand c.deferred
        (filter (λ o. not (mem o os)) l.held)
        (offsets_told (c.told ++ record { generation = l.generation; offsets = os } ∷ [])) moved h.counts;
    steps = h.steps;
    marks = h.marks;
    apart = record {
      held = λ e.
          first_weaker (λ b. AreBelow b l.held) (λ b. AreBelow b (filter (λ o. not (mem o os)) l.held)) c.marks
          (λ b f. all_filter (λ (o : ℕ). o < b) (λ o. not (mem o os)) l.held f) first;
      comes = h.apart.comes;
      later = h.apart.later;
      unmarked = h.apart.unmarked;
      retiring = λ e.
          all_filter (λ (o : ℕ). o < boundary_at c.asked (c.performed - 1)) (λ o. not (mem o os)) l.held (retiring e);
    };
    places = λ k d n.
        read_stays (boundary_at c.asked k) (IsToEnd c.retires c.performed k) (around c) l os is can held
        h.marks.ascend first (λ now. subst (λ z. AreBelow (boundary_at c.asked z) l.held)
        (sym (last_is c.performed k now.1)) (retiring now.0)) (c.past k) (h.places k d n);
    past_is = h.past_is;
    live_is = λ k e. same k e;
    told_is = all_push (λ (t : Told). t.generation < c.next) c.told _ h.told_is (h.live_is l is);
  }
    where
      first : OfFirst (λ b. AreBelow b l.held) c.marks
      first =
          subst (λ (x : Option Live). is_readable x ≡ true → OfFirst (λ b. AreBelow b (held_on x)) c.marks) is
          h.apart.held can

      retiring : c.retires ≡ true → AreBelow (boundary_at c.asked (c.performed - 1)) l.held
      retiring e =
          subst (λ (x : Option Live). AreBelow (boundary_at c.asked (c.performed - 1)) (held_on x)) is
          (h.apart.retiring e)

      moved : (p : ℕ)
          → everywhere p c.hand c.deferred (filter (λ o. not (mem o os)) l.held)
          (offsets_told (c.told ++ record { generation = l.generation; offsets = os } ∷ []))
          ≤ everywhere p c.hand c.deferred (held_on c.live) (offsets_told c.told)
      moved p =
          let a = times_taken p os l.held held in
          let b = times_told p c.told (record { generation = l.generation; offsets = os }) in
          let e : times p (held_on c.live) ≡ times p l.held = ap (λ (x : Option Live). times p (held_on x)) is in
          omega arith

      same : (k : Live) → Some (without_held os l) ≡ Some k → k.generation < c.next
      same k e =
          let f : without_held os l ≡ k = cc in
          subst (λ n. n < c.next) (ap (λ (y : Live). y.generation) f) (h.live_is l is)

  pub defers_kept : (test : ℕ → Bool) → Invariant (record c { deferred = filter test c.deferred })
  defers_kept test = record {
    asks = h.asks;
    counts = counted_moved c.hand c.deferred (held_on c.live) (offsets_told c.told) c.hand (filter test c.deferred)
        (held_on c.live) (offsets_told c.told) (λ o. let e = times_filtered test o c.deferred in omega arith) h.counts;
    steps = h.steps;
    marks = h.marks;
    apart = record {
      held = h.apart.held;
      comes = h.apart.comes;
      later = first_weaker (λ b. AreFrom b c.deferred) (λ b. AreFrom b (filter test c.deferred)) c.marks
          (λ b f. all_filter (λ (o : ℕ). b ≤ o) test c.deferred f) h.apart.later;
      unmarked = λ e.
          all_filter (IsBehindARequest c.asked c.performed c.waits c.releases) test c.deferred (h.apart.unmarked e);
      retiring = h.apart.retiring;
    };
    places = λ k d n.
        dropped_stays (boundary_at c.asked k) (IsToEnd c.retires c.performed k) (around c) test (c.past k)
        (h.places k d n);
    past_is = h.past_is;
    live_is = h.live_is;
    told_is = h.told_is;
  }

  pub discards_kept : is_idle c ≡ true → is_readable c.live ≡ false → Invariant (discarded c)
  discards_kept idle unread = record {
    asks = h.asks;
    counts = counted_moved c.hand c.deferred (held_on c.live) (offsets_told c.told) c.hand [] (held_on c.live)
        (offsets_told c.told) (λ o. omega arith) h.counts;
    steps = h.steps;
    marks = record { reached = h.marks.reached; ascend = tt; each = tt };
    apart = record {
      held = λ e. tt;
      comes = tt;
      later = tt;
      unmarked = λ e. tt;
      retiring = h.apart.retiring;
    };
    places = λ k d n.
        discarded_stays (boundary_at c.asked k) (IsToEnd c.retires c.performed k) (around c) unread
        (idle_parts c h idle).1 (c.past k) (h.places k d n);
    past_is = h.past_is;
    live_is = h.live_is;
    told_is = h.told_is;
  }
