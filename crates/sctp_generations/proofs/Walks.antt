-- A walk over a list, one item after another.
use Rattle.std.proofs.Common.{◌≡◌, refl, ℕ, ◌+◌, ◌<◌, List, length, drop, fold, get_or, drop-cons, add-one}

-- what is gone over from an item on is gone over from the next one on, once the item is
pub fold_step : {A B : Type 0} (h : B → A → B) (n : B) (xs : List A) (i : ℕ) (d : A) → i < length xs
    → fold h (h n (get_or xs i d)) (drop (i + 1) xs) ≡ fold h n (drop i xs)
fold_step h n xs i d below = rw (add-one, drop-cons xs i d below) refl
