-- A course leads on by events that its rules allow.
use Rattle.std.proofs.Common.{◌≡◌, refl, sym, ap, ◌∙◌, subst, ℕ, ◌+◌, ◌≤◌, true, false}
use Rattle.std.proofs.Common.{List, [], ◌∷◌, ◌++◌, Option, Some, None, nat_le, arith}
use Rattle.sctp_model.proofs.Lists.{all_join}
use Rattle.sctp_courses.specs.Course.{Course, Live, times}
use Rattle.sctp_courses.specs.Events.{Event, given_next, happens, opened}
use Rattle.sctp_courses.specs.Events.{run, with_held}
use Rattle.sctp_reset_fit.specs.Laws.{LeadsTo, is_quiet}

pub run-join : (es fs : List Event) (c : Course) → run (es ++ fs) c ≡ run fs (run es c)
run-join [] fs c = refl
run-join (e ∷ es) fs c = run-join es fs (happens c e)

pub leads_nowhere : (c : Course) → LeadsTo c c
leads_nowhere c = record { events = []; quiet = tt; is = refl }

-- from a state to one that is the same
pub leads_same : (c d : Course) → c ≡ d → LeadsTo c d
leads_same c d is = record { events = []; quiet = tt; is = sym is }

pub leads_by : (c d : Course) (e : Event) → is_quiet e ≡ true → happens c e ≡ d → LeadsTo c d
leads_by c d e quiet is = record { events = e ∷ []; quiet = (quiet, tt); is = sym is }

pub leads_on : (b c d : Course) → LeadsTo b c → LeadsTo c d → LeadsTo b d
leads_on b c d first later = record {
  events = first.events ++ later.events;
  quiet = all_join _ first.events later.events first.quiet later.quiet;
  is = later.is ∙ ap (run later.events) first.is ∙ sym (run-join first.events later.events b);
}

-- a new generation is live
pub leads_to_open : (c : Course) (generation : ℕ) → c.retires ≡ false → c.live ≡ None → c.next ≤ generation
    → LeadsTo c (opened c generation)
leads_to_open c generation still gone later =
    leads_by c (opened c generation) (Event.Opens generation) refl (by (is_there later))
  where
    is_there : c.next ≤ generation → nat_le c.next generation ≡ true
    is_there l = grind arith

    by : nat_le c.next generation ≡ true → happens c (Event.Opens generation) ≡ opened c generation
    by l = rw (still, gone, l) refl

-- what is live holds all of these, too
abbrev pub with_all_held : Option Live → List ℕ → Option Live
with_all_held live [] = live
with_all_held live (o ∷ os) = with_all_held (with_held live o) os

-- all that is being given comes to the stream
pub leads_to_given : (hand : List ℕ) (c : Course) → c.hand ≡ hand
    → LeadsTo c (record c { live = with_all_held c.live hand; hand = [] })
leads_to_given [] c is = record { events = []; quiet = tt; is = same is }
  where
    same : c.hand ≡ [] → record c { live = c.live; hand = [] } ≡ c
    same e = subst (λ (h : List ℕ). record c { live = c.live; hand = h } ≡ c) e refl
leads_to_given (o ∷ os) c is =
    leads_on c (record c { live = with_held c.live o; hand = os })
    (record c { live = with_all_held (with_held c.live o) os; hand = [] })
    (leads_by c (record c { live = with_held c.live o; hand = os }) Event.Gives refl (ap (λ h. given_next h c) is))
    (leads_to_given os (record c { live = with_held c.live o; hand = os }) refl)

-- What is live then holds them.
pub record HoldsThem (live : Option Live) (l : Live) (os : List ℕ) : Type 0 where
  pub more : Live
  pub is : with_all_held live os ≡ Some more
  pub generation : more.generation ≡ l.generation
  pub is_open : more.is_open ≡ l.is_open
  pub held : (o : ℕ) → times o more.held ≡ times o os + times o l.held

pub holds_them : (live : Option Live) (os : List ℕ) (l : Live) → live ≡ Some l → HoldsThem live l os
holds_them live [] l is =
    record { more = l; is = is; generation = refl; is_open = refl; held = λ o. omega arith }
holds_them live (x ∷ os) l is =
    let rest = holds_them (with_held live x) os (record l { held = x ∷ l.held })
    (ap (λ (y : Option Live). with_held y x) is) in
    record {
      more = rest.more;
      is = rest.is;
      generation = rest.generation;
      is_open = rest.is_open;
      held = λ o. let e = rest.held o in omega arith;
    }

pub none_holds_them : (live : Option Live) (os : List ℕ) → live ≡ None → with_all_held live os ≡ None
none_holds_them live [] is = is
none_holds_them live (x ∷ os) is =
    none_holds_them (with_held live x) os (ap (λ (y : Option Live). with_held y x) is)
