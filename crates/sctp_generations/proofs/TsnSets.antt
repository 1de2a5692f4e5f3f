-- Sets of TSNs.
use Rattle.std.proofs.Common.{◌≡◌, refl, ℕ, suc, ◌+◌, ◌<◌, Bool, true, false, cond, ◌||◌}
use Rattle.std.proofs.Common.{List, length, drop, get_or, drop-cons, add-one, arith}
use Rattle.std.proofs.lemmas.Bool.Decides.{nat_tests}
use Rattle.std.specs.Ordering.{nat_cmp}
use Rattle.std.specs.BTreeMap.{is_at}
use Rattle.sctp_generations.specs.Runs.{has_tsn}

is_at_swapped : (a b : ℕ) → is_at (nat_cmp a) b ≡ is_at (nat_cmp b) a
is_at_swapped a b = grind (arith, nat_tests)

moved : (is more rest : Bool) → (cond is true more || rest) ≡ (more || (is || rest))
moved true true rest = refl
moved true false rest = refl
moved false more rest = refl

-- the first of the TSNs that are left comes into a set
pub has_next : (tsn : ℕ) (set grown tsns : List ℕ) (i d : ℕ) → i < length tsns
    → has_tsn tsn grown ≡ cond (is_at (nat_cmp (get_or tsns i d)) tsn) true (has_tsn tsn set)
    → (has_tsn tsn grown || has_tsn tsn (drop (i + 1) tsns)) ≡ (has_tsn tsn set || has_tsn tsn (drop i tsns))
has_next tsn set grown tsns i d below put =
    let first = get_or tsns i d in
    rw (add-one, drop-cons tsns i d below, put, is_at_swapped first tsn)
    (moved (is_at (nat_cmp tsn) first) (has_tsn tsn set) (has_tsn tsn (drop (suc i) tsns)))
