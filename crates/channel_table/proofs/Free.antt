-- The search for the least free identifier.
use Rattle.std.proofs.Common.{◌≡◌, ◌<◌, ◌≤◌, ◌+◌, ◌*◌, ◌-◌, ℕ, List, Some, None, true, false, subst, arith}
use Rattle.std.proofs.Common.{⊎_elim}
use Rattle.std.proofs.lemmas.Bool.{cases_lt}
use Rattle.channel_table.specs.Channels.{ChannelView}
use Rattle.channel_table.specs.Tables.{AreTakenBelow, IsLeastFreeOf, is_taken}

pub none_below : (t : List (ℕ × ChannelView)) (p : ℕ) → p < 2 → AreTakenBelow t p (2 * 0 + p)
none_below t p small other less parity = absurd (omega arith)

pub one_more : (t : List (ℕ × ChannelView)) (p index id : ℕ) → p < 2 → id ≡ 2 * index + p
    → AreTakenBelow t p (2 * index + p) → is_taken t id ≡ true → AreTakenBelow t p (2 * (index + 1) + p)
one_more t p index id small is below taken other less parity =
    ⊎_elim (λ (l : other < 2 * index + p). below other l parity)
    (λ (g : 2 * index + p ≤ other).
    let same : id ≡ other = omega arith in subst (λ (n : ℕ). is_taken t n ≡ true) same taken)
    (cases_lt other (2 * index + p))

pub none_left : (t : List (ℕ × ChannelView)) (p streams end : ℕ) → p < 2 → streams < 65536 → 32768 - p ≤ end
    → AreTakenBelow t p (2 * end + p) → IsLeastFreeOf t p streams None
none_left t p streams end small few all below other less parity = below other (omega arith) parity

pub none_below_streams : (t : List (ℕ × ChannelView)) (p streams index id : ℕ) → id ≡ 2 * index + p → streams ≤ id
    → AreTakenBelow t p (2 * index + p) → IsLeastFreeOf t p streams None
none_below_streams t p streams index id is past below other less parity = below other (omega arith) parity

pub is_least : (t : List (ℕ × ChannelView)) (p streams index id : ℕ) → p < 2 → id ≡ 2 * index + p → id < streams
    → AreTakenBelow t p (2 * index + p) → is_taken t id ≡ false → IsLeastFreeOf t p streams (Some id)
is_least t p streams index id small is few below free =
    (omega arith, few, free, λ other less parity. below other (omega arith) parity)
