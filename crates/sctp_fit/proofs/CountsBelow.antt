-- How many numbers below a bound pass a test: counted by the values of a function, and at most one where the test tells
-- a number from all others.
use Rattle.std.proofs.Common.{◌≡◌, refl, sym, ap, ◌∙◌, subst, ⊎_elim, ℕ, zero, suc, ◌+◌, ◌<◌, ◌≤◌, arith, Bool, true}
use Rattle.std.proofs.Common.{false, eqb, ◌&&◌, ◌||◌, cond, List, [], ◌∷◌}
use Rattle.std.specs.List.{sum_by}
use Rattle.std.proofs.lemmas.Bool.{cases_Bool, cases_lt, eq-eqb, eqb-true, false≢true}
use Rattle.std.proofs.lemmas.List.Sums.{sum_by-cons}
use Rattle.sctp_model.specs.Messages.{sum_below}
use Rattle.sctp_model.specs.Packets.{mem}

-- how many numbers below n pass the test
abbrev pub count_of : (ℕ → Bool) → ℕ → ℕ
count_of test zero = 0
count_of test (suc n) = cond (test n) 1 0 + count_of test n

count_step : (test : ℕ → Bool) (n : ℕ) → count_of test n ≤ count_of test (suc n)
count_step test n = ⊎_elim
    (λ (e : test n ≡ true). let a = ap (λ (c : Bool). cond c 1 0 + count_of test n) e in omega (arith, a))
    (λ (e : test n ≡ false). let a = ap (λ (c : Bool). cond c 1 0 + count_of test n) e in omega (arith, a))
    (cases_Bool (test n))

count_here : (test : ℕ → Bool) (n : ℕ) → test n ≡ true → suc (count_of test n) ≤ count_of test (suc n)
count_here test n e = let a = ap (λ (c : Bool). cond c 1 0 + count_of test n) e in omega (arith, a)

count_none : (test : ℕ → Bool) (n : ℕ) → ((o : ℕ) → o < n → test o ≡ true → ⊥) → count_of test n ≡ 0
count_none test zero none = refl
count_none test (suc n) none = ⊎_elim
    (λ (e : test n ≡ true). absurd (none n (omega arith) e))
    (λ (e : test n ≡ false).
    let a = ap (λ (c : Bool). cond c 1 0 + count_of test n) e in
    let b = count_none test n (λ o l t. none o (omega arith) t) in
    omega (arith, a))
    (cases_Bool (test n))

-- where no two numbers pass the test, at most one does
pub count_one : (test : ℕ → Bool) (n : ℕ)
    → ((o q : ℕ) → o < n → q < n → test o ≡ true → test q ≡ true → o ≡ q)
    → count_of test n ≤ 1
count_one test zero one = omega arith
count_one test (suc n) one = ⊎_elim
    (λ (e : test n ≡ true).
    let a = ap (λ (c : Bool). cond c 1 0 + count_of test n) e in
    let b =
    count_none test n (λ o l t. let same = one o n (omega arith) (omega arith) t e in absurd (omega (arith, same))) in
    omega (arith, a))
    (λ (e : test n ≡ false).
    let a = ap (λ (c : Bool). cond c 1 0 + count_of test n) e in
    let b = count_one test n (λ o q l k t u. one o q (omega arith) (omega arith) t u) in
    omega (arith, a))
    (cases_Bool (test n))

-- Sums over the numbers below a bound

pub sums_below : (f g : ℕ → ℕ) (k : ℕ) → ((i : ℕ) → i < k → f i ≤ g i) → sum_below f k ≤ sum_below g k
sums_below f g zero le = omega arith
sums_below f g (suc k) le =
    let a = le k (omega arith) in
    let b = sums_below f g k (λ i l. le i (omega arith)) in
    omega arith

-- one of them adds 1 at least
one_more_below : (f g : ℕ → ℕ) (k i : ℕ) → i < k → ((j : ℕ) → f j ≤ g j) → suc (f i) ≤ g i
    → suc (sum_below f k) ≤ sum_below g k
one_more_below f g zero i l le here = absurd (omega arith)
one_more_below f g (suc k) i l le here = ⊎_elim
    (λ (b : i < k).
    let a = le k in
    let rest = one_more_below f g k i b le here in
    omega arith)
    (λ (b : k ≤ i).
    let e : i ≡ k = omega arith in
    let same : suc (f k) ≤ g k = subst (λ z. suc (f z) ≤ g z) e here in
    let rest = sums_below f g k (λ j m. le j) in
    omega (arith, same))
    (cases_lt i k)

pub sum_of_ones : (f : ℕ → ℕ) (k : ℕ) → ((i : ℕ) → i < k → f i ≤ 1) → sum_below f k ≤ k
sum_of_ones f zero le = omega arith
sum_of_ones f (suc k) le =
    let a = le k (omega arith) in
    let b = sum_of_ones f k (λ i l. le i (omega arith)) in
    omega arith

pub sum_shifted : (f : ℕ → ℕ) (k : ℕ) → sum_below f (suc k) ≡ f 0 + sum_below (λ (i : ℕ). f (suc i)) k
sum_shifted f zero = refl
sum_shifted f (suc k) = let a = sum_shifted f k in omega arith

-- those that pass the test and have the value i
abbrev pub has_value : (ℕ → Bool) → (ℕ → ℕ) → ℕ → ℕ → Bool
has_value test f i o = test o && eqb (f o) i

value_here : (test : ℕ → Bool) (f : ℕ → ℕ) (n : ℕ) → test n ≡ true → has_value test f (f n) n ≡ true
value_here test f n e = ap (λ (c : Bool). c && eqb (f n) (f n)) e ∙ eq-eqb (f n) (f n) refl

-- Where the function's values of what passes are below k, what passes is at most all that has one of these values.
pub counted_by_value : (test : ℕ → Bool) (f : ℕ → ℕ) (k n : ℕ) → ((o : ℕ) → o < n → test o ≡ true → f o < k)
    → count_of test n ≤ sum_below (λ (i : ℕ). count_of (has_value test f i) n) k
counted_by_value test f k zero below = omega arith
counted_by_value test f k (suc n) below = ⊎_elim
    (λ (e : test n ≡ true).
    let a = ap (λ (c : Bool). cond c 1 0 + count_of test n) e in
    let before = counted_by_value test f k n (λ o l t. below o (omega arith) t) in
    let more =
    one_more_below (λ (i : ℕ). count_of (has_value test f i) n) (λ (i : ℕ). count_of (has_value test f i) (suc n))
    k (f n) (below n (omega arith) e) (λ i. count_step (has_value test f i) n)
    (count_here (has_value test f (f n)) n (value_here test f n e)) in
    omega (arith, a))
    (λ (e : test n ≡ false).
    let a = ap (λ (c : Bool). cond c 1 0 + count_of test n) e in
    let before = counted_by_value test f k n (λ o l t. below o (omega arith) t) in
    let more =
    sums_below (λ (i : ℕ). count_of (has_value test f i) n) (λ (i : ℕ). count_of (has_value test f i) (suc n)) k
    (λ i l. count_step (has_value test f i) n) in
    omega (arith, a))
    (cases_Bool (test n))

-- Sums over a list of numbers

pub sums_over : (f g : ℕ → ℕ) (xs : List ℕ) → ((s : ℕ) → f s ≤ g s) → sum_by f xs ≤ sum_by g xs
sums_over f g [] le = omega arith
sums_over f g (x ∷ xs) le =
    let a = sum_by-cons f x xs in
    let b = sum_by-cons g x xs in
    let c = le x in
    let d = sums_over f g xs le in
    omega arith

-- one of them adds 1 at least
one_more_over : (f g : ℕ → ℕ) (xs : List ℕ) (t : ℕ) → mem t xs ≡ true → ((s : ℕ) → f s ≤ g s) → suc (f t) ≤ g t
    → suc (sum_by f xs) ≤ sum_by g xs
one_more_over f g [] t m le here = absurd (false≢true m)
one_more_over f g (x ∷ xs) t m le here = ⊎_elim
    (λ (e : eqb x t ≡ true).
    let same : suc (f x) ≤ g x = subst (λ z. suc (f z) ≤ g z) (sym (eqb-true x t e)) here in
    let a = sum_by-cons f x xs in
    let b = sum_by-cons g x xs in
    let d = sums_over f g xs le in
    omega (arith, same))
    (λ (e : eqb x t ≡ false).
    let a = sum_by-cons f x xs in
    let b = sum_by-cons g x xs in
    let c = le x in
    let d = one_more_over f g xs t (subst (λ z. (z || mem t xs) ≡ true) e m) le here in
    omega arith)
    (cases_Bool (eqb x t))

-- each of them is at most the sum
pub one_below : (f : ℕ → ℕ) (xs : List ℕ) (t : ℕ) → mem t xs ≡ true → f t ≤ sum_by f xs
one_below f [] t m = absurd (false≢true m)
one_below f (x ∷ xs) t m = ⊎_elim
    (λ (e : eqb x t ≡ true).
    let same = ap f (eqb-true x t e) in
    let a = sum_by-cons f x xs in
    omega (arith, same))
    (λ (e : eqb x t ≡ false).
    let a = sum_by-cons f x xs in
    let d = one_below f xs t (subst (λ z. (z || mem t xs) ≡ true) e m) in
    omega arith)
    (cases_Bool (eqb x t))

-- the numbers below n, by the member of a list that each has as its value
pub counted_by_member : (f : ℕ → ℕ) (xs : List ℕ) (n : ℕ) → ((o : ℕ) → o < n → mem (f o) xs ≡ true)
    → n ≤ sum_by (λ (s : ℕ). count_of (λ (o : ℕ). eqb (f o) s) n) xs
counted_by_member f xs zero known = omega arith
counted_by_member f xs (suc n) known =
    let before = counted_by_member f xs n (λ o l. known o (omega arith)) in
    let more =
    one_more_over (λ (s : ℕ). count_of (λ (o : ℕ). eqb (f o) s) n)
    (λ (s : ℕ). count_of (λ (o : ℕ). eqb (f o) s) (suc n))
    xs (f n) (known n (omega arith)) (λ s. count_step (λ (o : ℕ). eqb (f o) s) n)
    (count_here (λ (o : ℕ). eqb (f o) (f n)) n (eq-eqb (f n) (f n) refl)) in
    omega arith
