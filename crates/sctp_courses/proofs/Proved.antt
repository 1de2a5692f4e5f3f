-- The laws of this crate.
use Rattle.std.proofs.Common.{◌≡◌, refl, sym, ◌∙◌, subst, ℕ, ◌+◌, ◌≤◌, ◌<◌, Bool, true, false, not}
use Rattle.std.proofs.Common.{◌&&◌, if◌then◌else◌, List, [], ◌∷◌, length, arith, ◌⊎◌, inl, inr}
use Rattle.std.proofs.Common.{Option, Some, None, is_some, nat_lt, nat_le, eqb}
use Rattle.std.proofs.lemmas.Bool.{true≢false, false≢true, not-true, and_parts}
use Rattle.std.specs.List.{AllByRecursion}
use Rattle.sctp_model.specs.Packets.{mem}
use Rattle.sctp_courses.specs.Course.{Course, Live, boundary_at, fresh_course, held_on, is_marked}
use Rattle.sctp_courses.specs.Course.{is_readable}
use Rattle.sctp_courses.specs.Course.{offsets_told, times}
use Rattle.sctp_courses.specs.Events.{Event, are_held, given_next, happens, is_due, is_hidden, is_idle, is_new}
use Rattle.sctp_courses.specs.Events.{is_to_be_reset, last_boundary, passed_first, read_from, run}
use Rattle.sctp_courses.specs.Invariants.{Invariant, IsAtItsPlace, IsOver, IsToEnd, around}
use Rattle.sctp_courses.specs.Laws.{BoundariesAreKept, EachEventKeepsTheInvariant, IsDivided}
use Rattle.sctp_courses.specs.Laws.{TheInvariantIsEnough}
use Rattle.sctp_courses.proofs.Asking.{asks_kept, mine_kept, other_kept}
use Rattle.sctp_courses.proofs.Coming.{advances_kept, comes_kept, keeps_kept, opens_kept, takes_kept}
use Rattle.sctp_courses.proofs.Performing.{finishes_kept, leaves_kept, performs_kept, released_kept}
use Rattle.sctp_courses.proofs.Performing.{retires_kept}
use Rattle.sctp_courses.proofs.Reading.{defers_kept, discards_kept, gives_kept, passes_kept, reads_kept}
use Rattle.sctp_courses.proofs.Steps.{closes_kept, holds_kept, idle_retires, le_true, lt_true, none_of_none}
use Rattle.sctp_courses.proofs.Steps.{vanishes_kept}

-- what an event does where its rule allows it
kept_if : (g : Bool) (c d : Course) → Invariant c → (g ≡ true → Invariant d) → Invariant (if g then d else c)
kept_if true c d h f = f refl
kept_if false c d h f = h

-- what it does where a test forbids it
kept_unless : (g : Bool) (c d : Course) → Invariant c → (g ≡ false → Invariant d) → Invariant (if g then c else d)
kept_unless true c d h f = h
kept_unless false c d h f = f refl

gives : (c : Course) (hand : List ℕ) → c.hand ≡ hand → Invariant c → Invariant (given_next hand c)
gives c [] is h = h
gives c (o ∷ os) is h = gives_kept c h o os is

passes : (c : Course) (marks : List ℕ) → c.marks ≡ marks → is_idle c ≡ true → Invariant c
    → Invariant (passed_first marks c)
passes c [] is idle h = h
passes c (mark ∷ marks) is idle h = passes_kept c h mark marks idle is

reads : (c : Course) (os : List ℕ) (live : Option Live) → c.live ≡ live → Invariant c → Invariant (read_from os live c)
reads c os None is h = h
reads c os (Some l) is h =
    kept_if (l.is_open && are_held os l.held) c _ h
    (λ e. let p = and_parts _ _ e in reads_kept c h os l is p.0 p.1)

pub each_event_keeps_the_invariant : EachEventKeepsTheInvariant
each_event_keeps_the_invariant c Event.AssignsMine h = kept_unless (is_to_be_reset c) c _ h (mine_kept c h)
each_event_keeps_the_invariant c Event.AssignsOther h = other_kept c h
each_event_keeps_the_invariant c (Event.Asks named) h = asks_kept c h named
each_event_keeps_the_invariant c (Event.Advances point) h =
    kept_if (nat_le c.point point) c _ h (λ e. advances_kept c h point (le_true _ _ e))
each_event_keeps_the_invariant c (Event.Takes o) h =
    kept_if (is_idle c && (is_new c o && (is_some c.live && not (is_hidden c o)))) c _ h
    (λ e.
    let p = and_parts (is_idle c) _ e in
    let q = and_parts (is_new c o) _ p.1 in takes_kept c h o p.0 q.0 (not-true _ (and_parts (is_some c.live) _ q.1).1))
each_event_keeps_the_invariant c (Event.Keeps o) h =
    kept_if (is_idle c && (is_new c o && is_hidden c o)) c _ h
    (λ e.
    let p = and_parts (is_idle c) _ e in let q = and_parts (is_new c o) _ p.1 in keeps_kept c h o p.0 q.0 q.1)
each_event_keeps_the_invariant c (Event.Opens generation) h =
    kept_if (not c.retires && (not (is_some c.live) && nat_le c.next generation)) c _ h
    (λ e.
    let p = and_parts (not c.retires) _ e in
    let q = and_parts (not (is_some c.live)) _ p.1 in
    opens_kept c h generation (not-true _ p.0) (not-true _ q.0) (le_true _ _ q.1))
each_event_keeps_the_invariant c Event.Comes h =
    kept_if (is_idle c && nat_lt c.performed (length c.asked)) c _ h
    (λ e. let p = and_parts (is_idle c) _ e in comes_kept c h p.0 (lt_true _ _ p.1))
each_event_keeps_the_invariant c Event.Performs h =
    kept_if (is_idle c && is_due c) c _ h (λ e. let p = and_parts (is_idle c) _ e in performs_kept c h p.0 p.1)
each_event_keeps_the_invariant c Event.Retires h = kept_if c.retires c _ h (retires_kept c h)
each_event_keeps_the_invariant c Event.Leaves h =
    kept_if (c.retires && is_marked c.marks c.deferred (last_boundary c)) c _ h
    (λ e. leaves_kept c h (and_parts c.retires _ e).1)
each_event_keeps_the_invariant c Event.Finishes h =
    kept_if (c.retires && eqb (length c.marks) 0) c _ h
    (λ e. let p = and_parts c.retires _ e in finishes_kept c h p.0 (none_of_none c.marks p.1))
each_event_keeps_the_invariant c Event.Releases h =
    kept_if (c.releases && not c.retires) c _ h
    (λ e. let p = and_parts c.releases _ e in released_kept c h p.0 (not-true _ p.1))
each_event_keeps_the_invariant c Event.Gives h = gives c c.hand refl h
each_event_keeps_the_invariant c Event.Passes h =
    kept_if (is_idle c) c _ h (λ e. passes c c.marks refl e h)
each_event_keeps_the_invariant c (Event.Reads os) h = reads c os c.live refl h
each_event_keeps_the_invariant c (Event.Holds test) h = holds_kept c h test
each_event_keeps_the_invariant c (Event.Defers test) h = defers_kept c h test
each_event_keeps_the_invariant c Event.Closes h = closes_kept c h
each_event_keeps_the_invariant c Event.Discards h =
    kept_if (is_idle c && not (is_readable c.live)) c _ h
    (λ e. let p = and_parts (is_idle c) _ e in discards_kept c h p.0 (not-true _ p.1))
each_event_keeps_the_invariant c Event.Vanishes h =
    kept_unless (is_readable c.live) c _ h (λ e. vanishes_kept c h)

pub the_invariant_is_enough : TheInvariantIsEnough
the_invariant_is_enough c h = record {
  divides = λ k d n. divides k (c.past k) (h.places k d n);
  once = λ o.
      let e = h.counts.once o in
      one_at_most (mem o c.taken) (times o (offsets_told c.told))
      (times o c.hand + times o c.deferred + times o (held_on c.live)) e;
  begins = λ k from e. let p = h.past_is k from e in (p.0, p.1, given k from e (h.places k p.0 p.1));
  settled = λ l is can none idle k d n. settled l is can none idle k (c.past k) refl (h.places k d n);
}
  where
    divides : (k : ℕ) (past : Option ℕ)
        → IsAtItsPlace (boundary_at c.asked k) (IsToEnd c.retires c.performed k) (around c) past
        → AllByRecursion (IsDivided (boundary_at c.asked k) past) c.told
    divides k None a = a.below
    divides k (Some from) a = a.divided

    one_at_most : (m : Bool) (n others : ℕ) → others + n ≤ (if m then 1 else 0) → n ≤ 1
    one_at_most true n others l = omega arith
    one_at_most false n others l = omega arith

    given : (k from : ℕ) → c.past k ≡ Some from
        → IsAtItsPlace (boundary_at c.asked k) (IsToEnd c.retires c.performed k) (around c) (c.past k)
        → from < c.next
    given k from e a =
        (subst (IsAtItsPlace (boundary_at c.asked k) (IsToEnd c.retires c.performed k) (around c)) e a).given

    settled : (l : Live) → c.live ≡ Some l → l.is_open ≡ true → c.marks ≡ [] → is_idle c ≡ true → (k : ℕ)
        (past : Option ℕ) → c.past k ≡ past
        → IsAtItsPlace (boundary_at c.asked k) (IsToEnd c.retires c.performed k) (around c) past
        → (from : ℕ) × (c.past k ≡ Some from) × (from ≤ l.generation)
    settled l is can none idle k (Some from) e a = (from, e, a.since l is)
    settled l is can none idle k None e a = absurd (never a.ends)
      where
        never : (is_marked c.marks c.deferred (boundary_at c.asked k) ≡ true)
            ⊎ (IsOver (boundary_at c.asked k) (around c) ⊎ IsToEnd c.retires c.performed k) → ⊥
        never (inl m) =
            false≢true (subst (λ (ms : List ℕ). is_marked ms c.deferred (boundary_at c.asked k) ≡ true) none m)
        never (inr (inl v)) =
            true≢false (sym can ∙ subst (λ (x : Option Live). is_readable x ≡ false) is v.unread)
        never (inr (inr now)) = idle_retires c h idle now.0

-- at first
fresh_is : Invariant fresh_course
fresh_is = record {
  asks = record {
    ascend = λ j k le l. absurd (omega arith);
    below = λ k l. absurd (omega arith);
    known = omega arith;
    quiet = λ k from l n. absurd (omega arith);
    assigned_below = tt;
  };
  counts = record { are_mine = tt; once = λ o. omega arith };
  steps = record {
    waits_for = λ e. absurd (false≢true e);
    some = λ e. absurd (false≢true e);
    first = λ e. absurd (false≢true e);
  };
  marks = record { reached = λ k l. absurd (omega arith); ascend = tt; each = tt };
  apart = record {
    held = λ e. tt;
    comes = tt;
    later = tt;
    unmarked = λ e. tt;
    retiring = λ e. absurd (false≢true e);
  };
  places = λ k l n. absurd (omega arith);
  past_is = λ k from e. absurd (cc);
  live_is = λ l e. absurd (cc);
  told_is = tt;
}

runs_keep : (events : List Event) (c : Course) → Invariant c → Invariant (run events c)
runs_keep [] c h = h
runs_keep (e ∷ es) c h = runs_keep es (happens c e) (each_event_keeps_the_invariant c e h)

pub boundaries_are_kept : BoundariesAreKept
boundaries_are_kept events =
    the_invariant_is_enough (run events fresh_course) (runs_keep events fresh_course fresh_is)
