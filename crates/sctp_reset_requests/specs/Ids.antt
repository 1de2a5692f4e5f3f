-- Sets of stream identifiers, as lists that ascend.
use Rattle.std.specs.Prelude.{ℕ, Bool, List, [], filter, fold, not}
use Rattle.std.specs.List.{list_any}
use Rattle.std.specs.Ordering.{nat_cmp}
use Rattle.std.specs.BTreeMap.{is_at}
use Rattle.std.specs.BTreeSet.{insert_key}

-- the set of what a list names
abbrev pub set_of : List ℕ → List ℕ
set_of ids = fold (insert_key nat_cmp) [] ids

abbrev pub has_id : ℕ → List ℕ → Bool
has_id id ids = list_any (is_at (nat_cmp id)) ids

-- a set without these identifiers
abbrev pub without : List ℕ → List ℕ → List ℕ
without set ids = filter (λ id. not (has_id id ids)) set
