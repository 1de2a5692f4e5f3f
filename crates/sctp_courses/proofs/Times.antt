-- How often lists have a number.
use Rattle.std.proofs.Common.{◌≡◌, refl, sym, ap, ◌∙◌, subst, ℕ, ◌+◌, ◌≤◌, ◌<◌, Bool, true, false, eqb, not}
use Rattle.std.proofs.Common.{if◌then◌else◌, List, [], ◌∷◌, ◌++◌, filter, nat_lt, arith, ⊎_elim}
use Rattle.std.proofs.lemmas.Bool.{cases_Bool, or_cases, eq-eqb, eqb-true, true≢false, false≢true, not-true, or_parts}
use Rattle.std.specs.List.{AllByRecursion, list_any}
use Rattle.sctp_model.specs.Packets.{mem}
use Rattle.sctp_courses.specs.Course.{times}
use Rattle.sctp_courses.specs.Events.{are_held}

-- one of a number, or none
abbrev one_if : Bool → ℕ
one_if b = if b then 1 else 0

pub times-join : (o : ℕ) (xs ys : List ℕ) → times o (xs ++ ys) ≡ times o xs + times o ys
times-join o [] ys = omega arith
times-join o (x ∷ xs) ys = let e = times-join o xs ys in omega arith

-- what passes a test and what does not are all
pub times_parted : (test : ℕ → Bool) (o : ℕ) (xs : List ℕ)
    → times o (filter test xs) + times o (filter (λ x. not (test x)) xs) ≡ times o xs
times_parted test o [] = refl
times_parted test o (x ∷ xs) =
    let e = times_parted test o xs in
    ⊎_elim (λ (b : test x ≡ true). rw b (omega arith)) (λ (b : test x ≡ false). rw b (omega arith))
    (cases_Bool (test x))

pub times_filtered : (test : ℕ → Bool) (o : ℕ) (xs : List ℕ) → times o (filter test xs) ≤ times o xs
times_filtered test o xs = let e = times_parted test o xs in omega arith

-- a number that passes is there as often
pub times_passed : (test : ℕ → Bool) (o : ℕ) (xs : List ℕ) → test o ≡ false → times o (filter test xs) ≡ 0
times_passed test o [] e = refl
times_passed test o (x ∷ xs) e =
    let rest = times_passed test o xs e in
    ⊎_elim
    (λ (b : test x ≡ true).
    let other : eqb x o ≡ false =
    ⊎_elim (λ (s : eqb x o ≡ true). absurd (true≢false (sym b ∙ ap test (eqb-true x o s) ∙ e)))
    (λ (s : eqb x o ≡ false). s) (cases_Bool (eqb x o))
    in
    rw (b, other) (omega arith)) (λ (b : test x ≡ false). rw b rest) (cases_Bool (test x))

pub mem_times : (o : ℕ) (xs : List ℕ) → mem o xs ≡ true → 0 < times o xs
mem_times o [] m = absurd (false≢true m)
mem_times o (x ∷ xs) m =
    ⊎_elim (λ (s : eqb x o ≡ true). rw s (omega arith))
    (λ (r : mem o xs ≡ true). let t = mem_times o xs r in omega arith) (or_cases _ _ m)

pub none_times : (o : ℕ) (xs : List ℕ) → mem o xs ≡ false → times o xs ≡ 0
none_times o [] m = refl
none_times o (x ∷ xs) m =
    let parts = or_parts (eqb x o) (mem o xs) m in let rest = none_times o xs parts.1 in rw parts.0 (omega arith)

-- all of a list are in another one that has each of them
pub all_among : (xs taken : List ℕ) → ((o : ℕ) → times o xs ≤ (if mem o taken then 1 else 0))
    → AllByRecursion (λ (o : ℕ). mem o taken ≡ true) xs
all_among [] taken h = tt
all_among (x ∷ xs) taken h = (
  ⊎_elim (λ (m : mem x taken ≡ true). m)
      (λ (m : mem x taken ≡ false).
      absurd (let e = h x in
      let f : times x (x ∷ xs) ≤ 0 = subst (λ b. times x (x ∷ xs) ≤ (if b then 1 else 0)) m e in
      let g : eqb x x ≡ true = eq-eqb x x refl in
      let k : (if eqb x x then 1 else 0) + times x xs ≤ 0 = f in
      let l : 1 + times x xs ≤ 0 = subst (λ b. (if b then 1 else 0) + times x xs ≤ 0) g k in omega arith))
      (cases_Bool (mem x taken)),
  all_among xs taken (λ o. let e = h o in omega arith),
)

-- what passes a test that a number fails is not that number; a list whose members are held as often takes no more
pub times_taken : (o : ℕ) (os held : List ℕ) → are_held os held ≡ true
    → times o (filter (λ x. not (mem x os)) held) + times o os ≤ times o held
times_taken o os held h =
    ⊎_elim
    (λ (m : mem o os ≡ true).
    let gone = times_passed (λ x. not (mem x os)) o held (rw m refl) in
    let few : times o os ≤ times o held = at_most os m (not-true _ h) in omega arith)
    (λ (m : mem o os ≡ false).
    let some = times_filtered (λ x. not (mem x os)) o held in let none = none_times o os m in omega arith)
    (cases_Bool (mem o os))
  where
    at_most : (xs : List ℕ) → mem o xs ≡ true → list_any (λ x. nat_lt (times x held) (times x os)) xs ≡ false
        → times o os ≤ times o held
    at_most [] m e = absurd (false≢true m)
    at_most (x ∷ xs) m e =
        let parts = or_parts _ _ e in
        ⊎_elim
        (λ (s : eqb x o ≡ true). subst (λ z. times z os ≤ times z held) (eqb-true x o s) (ltb_not _ _ parts.0))
        (λ (r : mem o xs ≡ true). at_most xs r parts.1) (or_cases _ _ m)
      where
        ltb_not : (a b : ℕ) → nat_lt a b ≡ false → b ≤ a
        ltb_not a b f = grind arith
