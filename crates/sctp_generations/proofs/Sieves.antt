-- Lists of which items are dropped.
use Rattle.std.proofs.Common.{◌≡◌, refl, ap, Bool, true, false, not, ◌&&◌, List, [], ◌∷◌, filter}
use Rattle.std.proofs.lemmas.Bool.{or_parts}
use Rattle.std.specs.List.{list_any}

-- all items stay where none passes the test of those that may be dropped
pub filter_all : {A : Type 0} (skipped whole : A → Bool) (xs : List A) → list_any skipped xs ≡ false
    → filter (λ _. true) xs ≡ filter (λ x. not (skipped x && not (whole x))) xs
filter_all skipped whole [] none = refl
filter_all skipped whole (x ∷ xs) none =
    let parts = or_parts (skipped x) (list_any skipped xs) none in
    rw parts.0 (ap (λ rest. x ∷ rest) (filter_all skipped whole xs parts.1))
