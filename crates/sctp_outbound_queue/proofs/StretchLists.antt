-- Lists of stretches: one that moves within them, one that gets shorter, and how many messages they have.
use Rattle.std.proofs.Common.{◌≡◌, ℕ, zero, suc, ◌+◌, ◌-◌, ◌<◌, ◌≤◌, true, false, nat_lt, List, [], ◌∷◌, ◌++◌, length}
use Rattle.std.proofs.Common.{take, drop, min, insert, remove, slice_index_or, slice_set, refl, ap, arith, ⊎_elim}
use Rattle.std.specs.Prelude.{get_or}
use Rattle.std.proofs.lemmas.Bool.{cases_Bool}
use Rattle.std.proofs.lemmas.Bool.Decides.{nat_tests}
use Rattle.sctp_outbound_queue.specs.declared.stretches.Stretch.{Stretch}
use Rattle.sctp_outbound_queue.specs.Stretches.{shortened_at, stretch, total}

-- One that moves up within a list

insert_up : {X : Type 0} (p : ℕ) (xs : List X) (x d : X) → p < length xs
    → slice_set (slice_set (insert xs p x) p (slice_index_or (insert xs p x) (suc p) d)) (suc p)
    (slice_index_or (insert xs p x) p d)
    ≡ insert xs (suc p) x
insert_up p [] x d l = absurd (omega (arith, l))
insert_up zero (a ∷ xs) x d l = refl
insert_up (suc p) (a ∷ xs) x d l = ap (λ ys. a ∷ ys) (insert_up p xs x d (omega (arith, l)))

-- it changes places with the one behind it
pub moved_up : {X : Type 0} (at : ℕ) (xs ys us : List X) (x d : X) → at < length xs → ys ≡ insert xs at x
    → us ≡ slice_set (slice_set ys at (slice_index_or ys (at + 1) d)) (at + 1) (slice_index_or ys at d)
    → us ≡ insert xs (at + 1) x
moved_up at xs ys us x d l e f =
    let after : at + 1 ≡ suc at = omega arith in
    rw (f, e, after) (insert_up at xs x d l)

-- One that gets shorter

-- the message lies in the stretch at this place
pub shorter_here : (place left : ℕ) (ss : List Stretch) (s : Stretch) → place < length ss → s ≡ get_or ss place s
    → nat_lt left s.len ≡ true
    → take place ss ++ shortened_at left (drop place ss) ≡ slice_set ss place (stretch (s.len - 1) s.next)
shorter_here place left [] s lt here e = absurd (omega arith)
shorter_here zero left (x ∷ ss) s lt here e = rw (← here, e) refl
shorter_here (suc place) left (x ∷ ss) s lt here e = ap (λ z. x ∷ z) (shorter_here place left ss s (omega arith) here e)

pub total_shorter : (index : ℕ) (ss : List Stretch) → total (shortened_at index ss) ≤ total ss
total_shorter index [] = omega arith
total_shorter index (s ∷ ss) =
    let rest = total_shorter (index - s.len) ss in
    ⊎_elim (λ (e : nat_lt index s.len ≡ true). rw e (omega arith))
    (λ (e : nat_lt index s.len ≡ false). rw e (omega (arith, rest)))
    (cases_Bool (nat_lt index s.len))

-- one less than before, where it lies in one
pub total_shorter_by : (index : ℕ) (ss : List Stretch) → index < total ss
    → total (shortened_at index ss) + 1 ≡ total ss
total_shorter_by index [] lt = absurd (omega arith)
total_shorter_by index (s ∷ ss) lt =
    ⊎_elim (λ (e : nat_lt index s.len ≡ true).
    let l : index < s.len = grind (arith, nat_tests, e) in
    rw e (omega (arith, l)))
    (λ (e : nat_lt index s.len ≡ false).
    let l : s.len ≤ index = grind (arith, nat_tests, e) in
    let rest = total_shorter_by (index - s.len) ss (omega (arith, l, lt)) in
    rw e (omega (arith, rest)))
    (cases_Bool (nat_lt index s.len))

-- the same where it lies behind them
pub total_past : (index : ℕ) (ss : List Stretch) → total ss ≤ index → total (shortened_at index ss) ≡ total ss
total_past index [] le = refl
total_past index (s ∷ ss) le =
    let e : nat_lt index s.len ≡ false = grind (arith, nat_tests, le) in
    let rest = total_past (index - s.len) ss (omega (arith, le)) in
    rw e (omega (arith, rest))

-- How many messages they have

pub total_first : (n : ℕ) (ss : List Stretch) → total (take n ss) ≤ total ss
total_first zero ss = omega arith
total_first (suc n) [] = omega arith
total_first (suc n) (s ∷ ss) = let rest = total_first n ss in omega (arith, rest)

pub total_more : (n : ℕ) (ss : List Stretch) (s : Stretch) → n < length ss → s ≡ get_or ss n s
    → total (take (n + 1) ss) ≡ total (take n ss) + s.len
total_more n [] s lt here = absurd (omega arith)
total_more zero (x ∷ ss) s lt here = rw (← here) (omega arith)
total_more (suc n) (x ∷ ss) s lt here =
    let after : suc n + 1 ≡ suc (n + 1) = omega arith in
    let rest = total_more n ss s (omega arith) here in
    rw after (omega (arith, rest))

pub total_within : (n : ℕ) (ss : List Stretch) (s : Stretch) → n < length ss → s ≡ get_or ss n s
    → total (take n ss) + s.len ≤ total ss
total_within n ss s lt here =
    let first = total_first (n + 1) ss in
    let more = total_more n ss s lt here in
    omega (arith, first, more)

pub total_all : (n : ℕ) (ss : List Stretch) → length ss ≤ n → total (take n ss) ≡ total ss
total_all zero [] le = refl
total_all (suc n) [] le = refl
total_all zero (s ∷ ss) le = absurd (omega arith)
total_all (suc n) (s ∷ ss) le = ap (λ z. s.len + z) (total_all n ss (omega arith))

pub total_push : (ss : List Stretch) (s : Stretch) → total (ss ++ s ∷ []) ≡ total ss + s.len
total_push [] s = omega arith
total_push (x ∷ ss) s = let rest = total_push ss s in omega (arith, rest)

-- another moment changes no number
pub total_set : (p n : ℕ) (ss : List Stretch) (s : Stretch) (next : ℕ) → s ≡ get_or ss p s
    → total (take n (slice_set ss p (stretch s.len next))) ≡ total (take n ss)
total_set p n [] s next here = refl
total_set p zero (x ∷ ss) s next here = refl
total_set zero (suc n) (x ∷ ss) s next here = rw (← here) refl
total_set (suc p) (suc n) (x ∷ ss) s next here = ap (λ z. x.len + z) (total_set p n ss s next here)

-- Two neighbours become one

abbrev pub joined : ℕ → ℕ → Stretch → Stretch → List Stretch → List Stretch
joined p q a b ss = remove (slice_set ss p (stretch (a.len + b.len) (min a.next b.next))) q

pub total_joined : (p q : ℕ) (a b : Stretch) (ss : List Stretch) → q ≡ p + 1 → q < length ss → a ≡ get_or ss p a
    → b ≡ get_or ss q b → total (joined p q a b ss) ≡ total ss
total_joined p q a b [] is lt first second = absurd (omega arith)
total_joined p zero a b (x ∷ ss) is lt first second = absurd (omega arith)
total_joined zero (suc q) a b (x ∷ []) is lt first second = absurd (omega arith)
total_joined zero (suc zero) a b (x ∷ y ∷ ss) is lt first second = rw (← first, ← second) (omega arith)
total_joined zero (suc (suc q)) a b (x ∷ y ∷ ss) is lt first second = absurd (omega arith)
total_joined (suc p) (suc q) a b (x ∷ ss) is lt first second =
    ap (λ z. x.len + z) (total_joined p q a b ss (omega arith) (omega arith) first second)

pub total_pair : (p : ℕ) (a b : Stretch) (ss : List Stretch) → p + 1 < length ss → a ≡ get_or ss p a
    → b ≡ get_or ss (p + 1) b → a.len + b.len ≤ total ss
total_pair p a b ss lt first second =
    let one = total_more p ss a (omega arith) first in
    let two = total_within (p + 1) ss b lt second in
    omega (arith, one, two)
