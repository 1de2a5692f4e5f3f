-- Sums of bytes.
use Rattle.std.proofs.Common.{◌≡◌, ℕ, ◌+◌, ◌-◌, ◌^◌, ◌≤◌, ◌<◌, min, not, Bool, List, [], ◌∷◌, refl, ◌∙◌, arith}
use Rattle.std.specs.List.{sum_by, fold, filter}
use Rattle.std.proofs.lemmas.List.Sums.{sum_by-cons}
use Rattle.std.proofs.lemmas.List.Filters.{sum_by-filter_both}

-- a sum that stays at the greatest number of 64 bits
pub saturated : {X : Type 0} (f : X → ℕ) (s : ℕ) (xs : List X) → s ≤ 2 ^ 64 - 1
    → fold (λ sum x. min (sum + f x) (2 ^ 64 - 1)) s xs ≡ min (s + sum_by f xs) (2 ^ 64 - 1)
saturated f s [] le = grind (arith, le)
saturated f s (x ∷ xs) le =
    let more = saturated f (min (s + f x) (2 ^ 64 - 1)) xs (grind arith) in
    more ∙ rw (sum_by-cons f x xs) (capped s (f x) (sum_by f xs))
  where
    capped : (s a b : ℕ) → min (min (s + a) (2 ^ 64 - 1) + b) (2 ^ 64 - 1) ≡ min (s + (a + b)) (2 ^ 64 - 1)
    capped s a b = grind arith

pub saturated_sum : {X : Type 0} (f : X → ℕ) (xs : List X) → sum_by f xs < 2 ^ 64
    → fold (λ sum x. min (sum + f x) (2 ^ 64 - 1)) 0 xs ≡ sum_by f xs
saturated_sum f xs small = saturated f 0 xs (omega arith) ∙ min_left (sum_by f xs) small
  where
    min_left : (n : ℕ) → n < 2 ^ 64 → min (0 + n) (2 ^ 64 - 1) ≡ n
    min_left n small = grind (arith, small)

pub filter_sum : {X : Type 0} (f : X → ℕ) (p : X → Bool) (xs : List X) → sum_by f (filter p xs) ≤ sum_by f xs
filter_sum f p xs = omega (arith, sum_by-filter_both p (λ x. not (p x)) (λ x. refl) f xs)
