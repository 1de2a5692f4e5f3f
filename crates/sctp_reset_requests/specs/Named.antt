-- How many requests that are not answered yet name each stream.
use Rattle.std.specs.Prelude.{ℕ, Bool, ◌||◌, nat_lt, List, []}
use Rattle.std.specs.Option.{unwrap_or}
use Rattle.std.specs.Map.{lookup}
use Rattle.std.specs.Ordering.{nat_cmp}
use Rattle.std.specs.BTreeMap.{is_at}

pub record NamedView : Type 0 where
  -- for each stream that a request names, how many do
  pub by_id : List (ℕ × ℕ)
  -- how many requests are for all streams
  pub all : ℕ

abbrev pub none_named : NamedView
none_named = record { by_id = []; all = 0 }

-- how many requests name a stream by itself
abbrev pub count_at : NamedView → ℕ → ℕ
count_at n id = unwrap_or (lookup (is_at (nat_cmp id)) n.by_id) 0

-- two requests at least are for all streams, or name one by itself; one that is for all may name it, too
abbrev pub is_twice : ℕ → ℕ → Bool
is_twice all named = nat_lt 1 all || nat_lt 1 named

abbrev pub is_named : NamedView → ℕ → Bool
is_named n id = nat_lt 0 n.all || nat_lt 0 (count_at n id)
