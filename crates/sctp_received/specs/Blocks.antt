-- What gap ack blocks tell of ranges.
use Rattle.std.specs.Prelude.{ℕ, ◌+◌, ◌-◌, ◌^◌, ◌==◌, ◌&&◌, min, max, nat_lt, nat_le}
use Rattle.std.specs.Prelude.{if◌then◌else◌, List, [], ◌∷◌, ◌++◌, Option, Some, None}
use Rattle.std.specs.Option.{option_to_list}
use Rattle.sctp_ranges.specs.declared.run.Run.{Run}
use Rattle.sctp_wire_types.specs.declared.chunk.GapAckBlock.{GapAckBlock}
use Rattle.sctp_received.specs.Received.{block}

-- of a range the offsets that are 1 to 65,535 past a point, counted from there
abbrev pub near : ℕ → Run → Option GapAckBlock
near point r =
    if nat_lt point r.last && nat_le r.first (point + 65535) then
    Some (block (max r.first (point + 1) - point) (min r.last (point + 65535) - point)) else None

-- of a range the offsets that are so far past a point where the numbers have wrapped
abbrev pub wrapped : ℕ → Run → Option GapAckBlock
wrapped point r =
    if nat_le (r.first + 2 ^ 32) (point + 65535) then
    Some (block (r.first + 2 ^ 32 - point) (min (r.last + 2 ^ 32 - point) 65535)) else None

abbrev pub all_near : ℕ → List Run → List GapAckBlock
all_near point [] = []
all_near point (r ∷ rs) = option_to_list (near point r) ++ all_near point rs

abbrev pub all_wrapped : ℕ → List Run → List GapAckBlock
all_wrapped point [] = []
all_wrapped point (r ∷ rs) = option_to_list (wrapped point r) ++ all_wrapped point rs

-- blocks and one behind them, which is one with the last of them where they touch
abbrev pub with_block : List GapAckBlock → GapAckBlock → List GapAckBlock
with_block [] b = b ∷ []
with_block (x ∷ []) b = if x.end + 1 == b.start then block x.start b.end ∷ [] else x ∷ b ∷ []
with_block (x ∷ y ∷ xs) b = x ∷ with_block (y ∷ xs) b

-- blocks and those behind them, of which the first may touch the last of the others
abbrev pub with_blocks : List GapAckBlock → List GapAckBlock → List GapAckBlock
with_blocks xs [] = xs
with_blocks xs (b ∷ bs) = with_block xs b ++ bs
