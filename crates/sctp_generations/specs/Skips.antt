-- Skips of FORWARD TSN that wait for the generation that they are of (RFC 3758 section 3.6).
use Rattle.std.specs.Prelude.{ℕ, Bool, true, false, ◌==◌, ◌&&◌, ◌||◌, not, if◌then◌else◌, List, [], length}
use Rattle.std.specs.Prelude.{filter, map, fold, Option, Some, None, is_some}
use Rattle.std.specs.List.{list_any}
use Rattle.std.specs.Ordering.{nat_cmp}
use Rattle.std.specs.BTreeMap.{is_at}
use Rattle.std.specs.BTreeSet.{insert_key}
use Rattle.sctp_generations.specs.declared.skips.KeptSkip.{KeptSkip}

abbrev pub is_same : Option ℕ → Option ℕ → Bool
is_same None None = true
is_same None (Some b) = false
is_same (Some a) None = false
is_same (Some a) (Some b) = a == b

-- a skip of the generation of a stream that ends with this boundary, or of the one that did not end
abbrev pub is_skip_of : ℕ → Option ℕ → KeptSkip → Bool
is_skip_of id boundary s = s.id == id && is_same s.boundary boundary

abbrev pub skips_of : ℕ → Option ℕ → List KeptSkip → List KeptSkip
skips_of id boundary ss = filter (is_skip_of id boundary) ss

abbrev pub skips_of_others : ℕ → Option ℕ → List KeptSkip → List KeptSkip
skips_of_others id boundary ss = filter (λ s. not (is_skip_of id boundary s)) ss

-- a skip of a generation that did not end, of these streams or, where the set is empty, of any
abbrev pub is_newest_of : List ℕ → KeptSkip → Bool
is_newest_of ids s = not (is_some s.boundary) && (length ids == 0 || list_any (is_at (nat_cmp s.id)) ids)

abbrev pub skips_without_newest_of : List ℕ → List KeptSkip → List KeptSkip
skips_without_newest_of ids ss = filter (λ s. not (is_newest_of ids s)) ss

abbrev pub with_id : List ℕ → KeptSkip → List ℕ
with_id ids s = insert_key nat_cmp ids s.id

-- the streams that have skips: a set, ascending
abbrev pub skip_ids : List KeptSkip → List ℕ
skip_ids ss = fold with_id [] ss

abbrev pub with_boundary : ℕ → ℕ → KeptSkip → KeptSkip
with_boundary id boundary s = if is_skip_of id None s then record s { boundary = Some boundary } else s

-- the generation of a stream that did not end before ends with this boundary
abbrev pub skips_ended : ℕ → ℕ → List KeptSkip → List KeptSkip
skips_ended id boundary ss = map (with_boundary id boundary) ss

abbrev pub skips_of_other_streams : ℕ → List KeptSkip → List KeptSkip
skips_of_other_streams id ss = filter (λ s. not (s.id == id)) ss
