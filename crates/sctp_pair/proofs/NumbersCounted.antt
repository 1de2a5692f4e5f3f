-- Distinct numbers below a bound that pass a test are no more than all numbers there that pass it; and of messages,
-- those whose numbers pass a test that no ordered one from a number on passes.
use Rattle.std.proofs.Common.{◌≡◌, refl, sym, ap, ◌∙◌, subst, ⊎_elim, ℕ, zero, suc, ◌+◌, ◌<◌, ◌≤◌, arith, Bool, true}
use Rattle.std.proofs.Common.{false, not, eqb, ◌&&◌, cond, List, [], ◌∷◌, drop, get_or, length}
use Rattle.std.specs.List.{AllByRecursion}
use Rattle.std.proofs.lemmas.Bool.{and_parts, cases_lt, eq-eqb, or_parts}
use Rattle.sctp_model.specs.Messages.{Message, count_ordered, no_message}
use Rattle.sctp_model.specs.Packets.{mem}
use Rattle.sctp_model.specs.Safe.{AreDistinct}
use Rattle.sctp_fit.proofs.CountsBelow.{count_of}

-- Tests

one_weaker : (a b : Bool) → (a ≡ true → b ≡ true) → cond a 1 0 ≤ cond b 1 0
one_weaker true b h = subst (λ (z : Bool). cond true 1 0 ≤ cond z 1 0) (sym (h refl)) (omega arith)
one_weaker false b h = omega arith

at_most_one : (a : Bool) → cond a 1 0 ≤ 1
at_most_one true = omega arith
at_most_one false = omega arith

-- where the one passes, the other one doesn't
one_of_two : (a b : Bool) → (a ≡ true → b ≡ false) → cond a 1 0 + cond b 1 0 ≤ 1
one_of_two true b h = subst (λ (z : Bool). cond true 1 0 + cond z 1 0 ≤ 1) (sym (h refl)) (omega arith)
one_of_two false b h = let e = at_most_one b in omega (arith, e)

count_weaker : (f g : ℕ → Bool) (n : ℕ) → ((i : ℕ) → f i ≡ true → g i ≡ true) → count_of f n ≤ count_of g n
count_weaker f g zero h = omega arith
count_weaker f g (suc n) h =
    let here = one_weaker (f n) (g n) (h n) in
    let rest = count_weaker f g n h in
    omega (arith, here, rest)

-- how many pass among the first numbers, counted from 0 on
count_shifted : (test : ℕ → Bool) (n : ℕ)
    → count_of test (suc n) ≡ cond (test 0) 1 0 + count_of (λ (i : ℕ). test (suc i)) n
count_shifted test zero = refl
count_shifted test (suc n) = let rest = count_shifted test n in omega (arith, rest)

-- Distinct numbers

-- the test with one number left out
abbrev without : (ℕ → Bool) → ℕ → ℕ → Bool
without test x i = test i && not (eqb i x)

without_passes : (test : ℕ → Bool) (x i : ℕ) → without test x i ≡ true → test i ≡ true
without_passes test x i e = (and_parts (test i) (not (eqb i x)) e).0

and_false : (a : Bool) → (a && false) ≡ false
and_false true = refl
and_false false = refl

without_itself : (test : ℕ → Bool) (x i : ℕ) → i ≡ x → without test x i ≡ false
without_itself test x i e = ap (λ (c : Bool). test i && not c) (eq-eqb i x e) ∙ and_false (test i)

-- where it passes, one less passes the test without it
count_without : (test : ℕ → Bool) (x n : ℕ) → x < n → test x ≡ true
    → suc (count_of (without test x) n) ≤ count_of test n
count_without test x zero l t = absurd (omega arith)
count_without test x (suc n) l t = ⊎_elim
    (λ (b : x < n).
    let here = one_weaker (without test x n) (test n) (without_passes test x n) in
    let rest = count_without test x n b t in
    omega (arith, here, rest))
    (λ (b : n ≤ x).
    let e : n ≡ x = omega arith in
    let none = ap (λ (c : Bool). cond c 1 0 + count_of (without test x) n) (without_itself test x n e) in
    let here : test n ≡ true = subst (λ (z : ℕ). test z ≡ true) (sym e) t in
    let one = ap (λ (c : Bool). cond c 1 0 + count_of test n) here in
    let rest = count_weaker (without test x) test n (λ i w. without_passes test x i w) in
    omega (arith, none, one, rest))
    (cases_lt x n)

-- a number below n that passes the test
pub record PassesBelow (test : ℕ → Bool) (n i : ℕ) : Type 0 where
  pub below : i < n
  pub pass : test i ≡ true

still_passes : (test : ℕ → Bool) (n x i : ℕ) → PassesBelow test n i → eqb i x ≡ false → PassesBelow (without test x) n i
still_passes test n x i h e = record {
  below = h.below;
  pass = ap (λ (c : Bool). c && not (eqb i x)) h.pass ∙ ap (λ (c : Bool). not c) e;
}

all_still_pass : (test : ℕ → Bool) (n x : ℕ) (is : List ℕ) → mem x is ≡ false → AllByRecursion (PassesBelow test n) is
    → AllByRecursion (PassesBelow (without test x) n) is
all_still_pass test n x [] m a = tt
all_still_pass test n x (i ∷ is) m a =
    let parts = or_parts (eqb i x) (mem x is) m in
    (still_passes test n x i a.0 parts.0, all_still_pass test n x is parts.1 a.1)

-- Distinct numbers below n that pass a test are no more than all that pass it there.
pub distinct_counted : (test : ℕ → Bool) (n : ℕ) (is : List ℕ) → AreDistinct is → AllByRecursion (PassesBelow test n) is
    → length is ≤ count_of test n
distinct_counted test n [] once a = omega arith
distinct_counted test n (i ∷ is) once a =
    let less = count_without test i n a.0.below a.0.pass in
    let rest = distinct_counted (without test i) n is once.1 (all_still_pass test n i is once.0 a.1) in
    omega (arith, less, rest)

-- Messages by their numbers

-- Where the test passes no ordered message from number e on, the ordered ones from there on and those that pass it are
-- together no more than all.
pub ordered_apart : (ms : List Message) (e : ℕ) (test : ℕ → Bool)
    → ((i : ℕ) → i < length ms → e ≤ i → (get_or ms i no_message).ordered ≡ true → test i ≡ false)
    → count_ordered (drop e ms) + count_of test (length ms) ≤ length ms
ordered_apart [] zero test h = omega arith
ordered_apart [] (suc e) test h = omega arith
ordered_apart (m ∷ ms) zero test h =
    let first = one_of_two m.ordered (test 0) (λ (o : m.ordered ≡ true). h 0 (omega arith) (omega arith) o) in
    let rest =
    ordered_apart ms zero (λ (i : ℕ). test (suc i)) (λ i l b o. h (suc i) (omega arith) (omega arith) o) in
    let all = count_shifted test (length ms) in
    omega (arith, first, rest, all)
ordered_apart (m ∷ ms) (suc e) test h =
    let first = at_most_one (test 0) in
    let rest = ordered_apart ms e (λ (i : ℕ). test (suc i)) (λ i l b o. h (suc i) (omega arith) (omega arith) o) in
    let all = count_shifted test (length ms) in
    omega (arith, first, rest, all)
