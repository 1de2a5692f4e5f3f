-- Boundaries of generations, and what lies between them.
use Rattle.std.proofs.Common.{◌≡◌, refl, sym, ap, ◌∙◌, subst, ℕ, ◌≤◌, ◌<◌, Bool, true, false, not}
use Rattle.std.proofs.Common.{◌&&◌, ◌||◌, List, [], ◌∷◌, ◌++◌, filter, nat_lt, nat_le, arith, ⊎_elim, ◌⊎◌, inl, inr}
use Rattle.std.proofs.lemmas.Bool.{cases_Bool, or_cases, or_left, or_right, or_parts, and_parts, true≢false, false≢true, not-true}
use Rattle.sctp_model.proofs.Lists.{all_weaker}
use Rattle.sctp_courses.specs.Course.{has_between, is_between, is_marked, stands_for}
use Rattle.sctp_courses.specs.Invariants.{AreBelow, AreFrom, AreNotFalling}

pub from_less : (a b : ℕ) (os : List ℕ) → a ≤ b → AreFrom b os → AreFrom a os
from_less a b os l h = all_weaker (λ (o : ℕ). b ≤ o) (λ (o : ℕ). a ≤ o) os (λ o f. omega arith) h

pub below_more : (a b : ℕ) (os : List ℕ) → a ≤ b → AreBelow a os → AreBelow b os
below_more a b os l h = all_weaker (λ (o : ℕ). o < a) (λ (o : ℕ). o < b) os (λ o f. omega arith) h

-- past both nothing lies between them
pub none_between : (after upto : ℕ) (os : List ℕ) → AreFrom upto os → has_between after upto os ≡ false
none_between after upto [] h = refl
none_between after upto (o ∷ os) h =
    let rest = none_between after upto os h.1 in
    let not_here : nat_lt o upto ≡ false = let l = h.0 in ltb_from o upto l in
    by (nat_le after o) (nat_lt o upto) not_here rest
  where
    ltb_from : (a b : ℕ) → b ≤ a → nat_lt a b ≡ false
    ltb_from a b l = grind arith

    by : (p q : Bool) → q ≡ false → has_between after upto os ≡ false → ((p && q) || has_between after upto os) ≡ false
    by true q e r = rw (e, r) refl
    by false q e r = r

-- what lies past the one and not between both lies past the other
pub from_not_between : (after upto : ℕ) (os : List ℕ) → AreFrom after os → has_between after upto os ≡ false
    → AreFrom upto os
from_not_between after upto [] h e = tt
from_not_between after upto (o ∷ os) h e =
    let parts = or_parts _ _ e in (by o h.0 parts.0, from_not_between after upto os h.1 parts.1)
  where
    by : (o : ℕ) → after ≤ o → is_between after upto o ≡ false → upto ≤ o
    by o l f = grind arith

pub between_filtered : (test : ℕ → Bool) (after upto : ℕ) (os : List ℕ) → has_between after upto os ≡ false
    → has_between after upto (filter test os) ≡ false
between_filtered test after upto [] e = refl
between_filtered test after upto (o ∷ os) e =
    let parts = or_parts (is_between after upto o) (has_between after upto os) e in
    let rest = between_filtered test after upto os parts.1 in
    ⊎_elim (λ (b : test o ≡ true). rw b (rw (parts.0, rest) refl)) (λ (b : test o ≡ false). rw b rest)
    (cases_Bool (test o))

pub between_more : (after upto o : ℕ) (os : List ℕ) → upto ≤ o → has_between after upto os ≡ false
    → has_between after upto (o ∷ os) ≡ false
between_more after upto o os l e = by (nat_le after o) (nat_lt o upto) (ltb_from o upto l)
  where
    ltb_from : (a b : ℕ) → b ≤ a → nat_lt a b ≡ false
    ltb_from a b l = grind arith

    by : (p q : Bool) → q ≡ false → ((p && q) || has_between after upto os) ≡ false
    by true q f = rw (f, e) refl
    by false q f = e

-- What stands for a boundary stands for it while less is deferred, or more of what lies past it.

pub marked_if : (marks ds es : List ℕ) (boundary : ℕ)
    → ((mark : ℕ) → has_between mark boundary ds ≡ false → has_between mark boundary es ≡ false)
    → is_marked marks ds boundary ≡ true → is_marked marks es boundary ≡ true
marked_if [] ds es boundary keeps h = h
marked_if (m ∷ marks) ds es boundary keeps h =
    ⊎_elim (λ (s : stands_for ds boundary m ≡ true). or_left _ _ (stays s))
    (λ (r : is_marked marks ds boundary ≡ true). or_right _ _ (marked_if marks ds es boundary keeps r))
    (or_cases _ _ h)
  where
    stays : stands_for ds boundary m ≡ true → stands_for es boundary m ≡ true
    stays s =
        let parts = and_parts (nat_le m boundary) (not (has_between m boundary ds)) s in
        let none = keeps m (not-true _ parts.1) in rw (parts.0, none) refl

pub marked_filtered : (test : ℕ → Bool) (marks ds : List ℕ) (boundary : ℕ) → is_marked marks ds boundary ≡ true
    → is_marked marks (filter test ds) boundary ≡ true
marked_filtered test marks ds boundary =
    marked_if marks ds (filter test ds) boundary (λ m e. between_filtered test m boundary ds e)

pub marked_behind : (marks ds : List ℕ) (o boundary : ℕ) → boundary ≤ o → is_marked marks ds boundary ≡ true
    → is_marked marks (o ∷ ds) boundary ≡ true
marked_behind marks ds o boundary l = marked_if marks ds (o ∷ ds) boundary (λ m e. between_more m boundary o ds l e)

pub marked_push : (marks ds : List ℕ) (m boundary : ℕ) → is_marked marks ds boundary ≡ true
    → is_marked (marks ++ m ∷ []) ds boundary ≡ true
marked_push [] ds m boundary h = absurd (false≢true h)
marked_push (x ∷ marks) ds m boundary h =
    ⊎_elim (λ (s : stands_for ds boundary x ≡ true). or_left _ _ s)
    (λ (r : is_marked marks ds boundary ≡ true). or_right _ _ (marked_push marks ds m boundary r)) (or_cases _ _ h)

-- a boundary stands for itself
pub marked_last : (marks ds : List ℕ) (boundary : ℕ) → is_marked (marks ++ boundary ∷ []) ds boundary ≡ true
marked_last [] ds boundary = or_left _ _ itself
  where
    le_self : (b : ℕ) → nat_le b b ≡ true
    le_self b = grind arith

    none_self : (os : List ℕ) → has_between boundary boundary os ≡ false
    none_self [] = refl
    none_self (o ∷ os) = rw (never o, none_self os) refl
      where
        never : (o : ℕ) → is_between boundary boundary o ≡ false
        never o = grind arith

    itself : stands_for ds boundary boundary ≡ true
    itself = rw (le_self boundary, none_self ds) refl
marked_last (m ∷ marks) ds boundary = or_right _ _ (marked_last marks ds boundary)

-- The first of some marks that do not fall, where one of them stands for a boundary.
pub record HasFirst (marks : List ℕ) (boundary : ℕ) : Type 0 where
  pub first : ℕ
  pub rest : List ℕ
  pub is : marks ≡ first ∷ rest
  pub below : first ≤ boundary

pub first_of_marked : (marks ds : List ℕ) (boundary : ℕ) → AreNotFalling marks → is_marked marks ds boundary ≡ true
    → HasFirst marks boundary
first_of_marked [] ds boundary a h = absurd (false≢true h)
first_of_marked (m ∷ marks) ds boundary a h =
    ⊎_elim
    (λ (s : stands_for ds boundary m ≡ true).
    record { first = m; rest = marks; is = refl; below = le_true m boundary (and_parts _ _ s).0 })
    (λ (r : is_marked marks ds boundary ≡ true).
    let f = first_of_marked marks ds boundary a.1 r in
    let l = (subst (λ z. AreFrom m z) f.is a.0).0 in
    let b = f.below in
    record { first = m; rest = marks; is = refl; below = omega arith }) (or_cases _ _ h)
  where
    le_true : (a b : ℕ) → nat_le a b ≡ true → a ≤ b
    le_true a b e = grind arith

-- the first one stands for it, or one of the others does
pub marked_cases : (m : ℕ) (marks ds : List ℕ) (boundary : ℕ) → AreFrom m ds
    → is_marked (m ∷ marks) ds boundary ≡ true → (is_marked marks ds boundary ≡ true) ⊎ AreFrom boundary ds
marked_cases m marks ds boundary h e =
    ⊎_elim
    (λ (s : stands_for ds boundary m ≡ true).
    inr (from_not_between m boundary ds h (not-true _ (and_parts _ _ s).1)))
    (λ (r : is_marked marks ds boundary ≡ true). inl r) (or_cases _ _ e)

-- no mark stands for a boundary in front of all that is deferred: it lies in front of all marks
pub unmarked_from : (marks ds : List ℕ) (boundary : ℕ) → AreFrom boundary ds → is_marked marks ds boundary ≡ false
    → AreFrom boundary marks
unmarked_from [] ds boundary h e = tt
unmarked_from (m ∷ marks) ds boundary h e =
    let parts = or_parts _ _ e in
    (by (nat_le m boundary) refl parts.0, unmarked_from marks ds boundary h parts.1)
  where
    le_false : (a b : ℕ) → nat_le a b ≡ false → b ≤ a
    le_false a b e = grind arith

    by : (p : Bool) → nat_le m boundary ≡ p → (p && not (has_between m boundary ds)) ≡ false → boundary ≤ m
    by true is f = absurd (true≢false (sym (ap not (none_between m boundary ds h)) ∙ f))
    by false is f = le_false m boundary is
