-- What a SACK acknowledges that was not acknowledged before (RFC 4960 sections 6.2.1, 6.3.2 and 7.2.4).
use Rattle.std.specs.Prelude.{ℕ, zero, suc, ◌+◌, ◌-◌, ◌&&◌, ◌||◌, not, Bool, false, List, [], ◌∷◌, max}
use Rattle.std.specs.Prelude.{if◌then◌else◌, nat_lt, Option, Some, None}
use Rattle.sctp_wire_types.specs.declared.chunk.GapAckBlock.{GapAckBlock}
use Rattle.sctp_received.specs.Received.{is_named}
use Rattle.sctp_outbound_queue.specs.declared.message.InFlight.{InFlight}

-- a piece that was sent, and that no SACK acknowledged
abbrev pub is_new : InFlight → Bool
is_new p = not p.acked && nat_lt 0 p.sent_count

abbrev pub is_new_piece : Option InFlight → Bool
is_new_piece None = false
is_new_piece (Some p) = is_new p

-- one of the first n pieces is new
abbrev pub any_new_up_to : ℕ → List InFlight → Bool
any_new_up_to zero xs = false
any_new_up_to (suc n) [] = false
any_new_up_to (suc n) (x ∷ xs) = is_new x || any_new_up_to n xs

abbrev pub greatest_of : Option ℕ → Option ℕ → Option ℕ
greatest_of None b = b
greatest_of (Some i) None = Some i
greatest_of (Some i) (Some j) = Some (max i j)

abbrev pub if_new : Bool → ℕ → InFlight → Option ℕ
if_new named j x = if named && is_new x then Some j else None

-- of these pieces, numbered from j on, the last one that is named and new
abbrev pub last_new : (ℕ → Bool) → ℕ → List InFlight → Option ℕ
last_new named j [] = None
last_new named j (x ∷ xs) = greatest_of (last_new named (suc j) xs) (if_new (named j) j x)

abbrev pub acknowledges_at : ℕ → List GapAckBlock → Option ℕ → Bool
acknowledges_at count blocks None = false
acknowledges_at count blocks (Some i) = nat_lt i count || is_named (i - count + 1) blocks
