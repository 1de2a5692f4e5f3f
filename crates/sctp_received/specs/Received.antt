-- The TSNs that came past the last one in order, the cumulative TSN (RFC 4960 sections 3.3.4 and 6.2).
use Rattle.std.specs.Prelude.{◌≡◌, ℕ, zero, suc, ◌≤◌, ◌+◌, ◌==◌, ◌&&◌, not, nat_lt, nat_le}
use Rattle.std.specs.Prelude.{if◌then◌else◌, Bool, true, false, List, [], ◌∷◌, ◌++◌, Option, Some, None, fold}
use Rattle.std.specs.List.{list_any, AllByRecursion}
use Rattle.std.specs.Ordering.{nat_cmp}
use Rattle.std.specs.BTreeMap.{is_at}
use Rattle.std.specs.BTreeSet.{insert_key}
use Rattle.std.specs.Set.{remove_key}
use Rattle.sctp_serial.specs.Serial.{tsn_past, tsn_after}
use Rattle.sctp_wire_types.specs.declared.chunk.GapAckBlock.{GapAckBlock}

abbrev pub is_held : ℕ → List ℕ → Bool
is_held tsn tsns = list_any (is_at (nat_cmp tsn)) tsns

-- a TSN that is this far past the cumulative TSN can be told by a gap ack block
abbrev pub has_offset : ℕ → Bool
has_offset distance = nat_lt 0 distance && nat_le distance 65535

-- DATA with this TSN did not come yet
abbrev pub is_new : List ℕ → ℕ → ℕ → Bool
is_new tsns tsn cumulative_tsn = has_offset (tsn_past cumulative_tsn tsn) && not (is_held tsn tsns)

-- a TSN is held where it is new
abbrev pub with_tsn : List ℕ → ℕ → ℕ → List ℕ × Bool
with_tsn tsns tsn cumulative_tsn =
    if is_new tsns tsn cumulative_tsn then (insert_key nat_cmp tsns tsn, true) else (tsns, false)

-- the cumulative TSN moves over the TSNs that follow it, at most n of them, and they are held no more
abbrev pub advanced : ℕ → ℕ → List ℕ → ℕ × List ℕ
advanced zero cumulative_tsn tsns = (cumulative_tsn, tsns)
advanced (suc n) cumulative_tsn tsns =
    if is_held (tsn_after cumulative_tsn) tsns then
    advanced n (tsn_after cumulative_tsn) (remove_key (is_at (nat_cmp (tsn_after cumulative_tsn))) tsns)
    else (cumulative_tsn, tsns)

-- the one of two TSNs that is farther past the cumulative TSN
abbrev pub later_of : ℕ → Option ℕ → ℕ → ℕ
later_of cumulative_tsn None t = t
later_of cumulative_tsn (Some last) t =
    if nat_lt (tsn_past cumulative_tsn last) (tsn_past cumulative_tsn t) then t else last

-- the TSN that is farthest past the cumulative TSN
abbrev pub last_received : ℕ → List ℕ → Option ℕ
last_received cumulative_tsn tsns = fold (λ last t. Some (later_of cumulative_tsn last t)) None tsns

-- no TSN is farther past the cumulative TSN; there is none only where there are no TSNs
abbrev pub IsFarthest : ℕ → List ℕ → Option ℕ → Type 0
IsFarthest cumulative_tsn tsns None = tsns ≡ []
IsFarthest cumulative_tsn tsns (Some t) =
    AllByRecursion (λ u. tsn_past cumulative_tsn u ≤ tsn_past cumulative_tsn t) tsns

-- a TSN is greater than the cumulative TSN as a number, or it is not
abbrev pub is_greater : Bool → ℕ → ℕ → Bool
is_greater greater cumulative_tsn tsn = if nat_lt cumulative_tsn tsn then greater else not greater

-- how far the TSNs that are greater than the cumulative TSN as numbers, or those that are not, are past it
abbrev pub offsets_in : Bool → ℕ → List ℕ → List ℕ
offsets_in greater cumulative_tsn [] = []
offsets_in greater cumulative_tsn (t ∷ ts) =
    if is_greater greater cumulative_tsn t && has_offset (tsn_past cumulative_tsn t) then
    tsn_past cumulative_tsn t ∷ offsets_in greater cumulative_tsn ts
    else offsets_in greater cumulative_tsn ts

-- how far the TSNs are past the cumulative TSN: the numbers of TSNs go round, so those behind the cumulative TSN as
-- numbers are farther
abbrev pub offsets_of : ℕ → List ℕ → List ℕ
offsets_of cumulative_tsn tsns = offsets_in true cumulative_tsn tsns ++ offsets_in false cumulative_tsn tsns

abbrev pub block : ℕ → ℕ → GapAckBlock
block start end = record { start = start; end = end }

-- the runs of a run that has begun and of the offsets that follow
abbrev pub runs_from : GapAckBlock → List ℕ → List GapAckBlock
runs_from b [] = b ∷ []
runs_from b (o ∷ os) = if b.end + 1 == o then runs_from (block b.start o) os else b ∷ runs_from (block o o) os

-- the runs of offsets that follow one after another
abbrev pub runs_of : List ℕ → List GapAckBlock
runs_of [] = []
runs_of (o ∷ os) = runs_from (block o o) os

-- the gap ack blocks of a SACK with this cumulative TSN
abbrev pub gap_ack_blocks : ℕ → List ℕ → List GapAckBlock
gap_ack_blocks cumulative_tsn tsns = runs_of (offsets_of cumulative_tsn tsns)

-- an offset lies within one of the blocks
abbrev pub is_named : ℕ → List GapAckBlock → Bool
is_named o blocks = list_any (λ (b : GapAckBlock). nat_le b.start o && nat_le o b.end) blocks

-- a TSN that is this far past the cumulative TSN is held
abbrev pub is_held_at : ℕ → ℕ → List ℕ → Bool
is_held_at cumulative_tsn offset tsns = list_any (λ t. tsn_past cumulative_tsn t == offset) tsns

-- the blocks ascend, and between two of them an offset is missing; the first one begins at `least` or later
abbrev pub AreRuns : ℕ → List GapAckBlock → Type 0
AreRuns least [] = Unit {0}
AreRuns least (b ∷ bs) = (least ≤ b.start) × (b.start ≤ b.end) × AreRuns (b.end + 2) bs
