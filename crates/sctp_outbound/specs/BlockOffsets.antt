-- Which offsets gap ack blocks may name (RFC 4960 sections 3.3.4 and 6.2.1).
use Rattle.std.specs.Prelude.{◌≡◌, ℕ, ◌+◌, ◌&&◌, ◌||◌, not, Bool, true, false, List, nat_le, nat_lt}
use Rattle.std.specs.List.{list_any}
use Rattle.sctp_wire_types.specs.declared.chunk.GapAckBlock.{GapAckBlock}
use Rattle.sctp_received.specs.Received.{is_named}

-- With n TSNs up to the cumulative TSN ack of a SACK that are in flight, of so many in all, the TSN at an offset past
-- that cumulative TSN ack is in flight, too: it is at or past the first one of them, and not past the last one.
abbrev pub is_in_flight_at : ℕ → ℕ → ℕ → Bool
is_in_flight_at n count offset = nat_lt 0 (n + offset) && nat_le (n + offset) count

-- A block names a TSN that is not in flight; its first offset or its last one is such a TSN's. One that ends before it
-- starts names nothing.
abbrev pub is_unsent_in : ℕ → ℕ → GapAckBlock → Bool
is_unsent_in n count block =
    nat_le block.start block.end && (nat_lt count (n + block.end) || not (nat_lt 0 (n + block.start)))

abbrev pub name_unsent : ℕ → ℕ → List GapAckBlock → Bool
name_unsent n count blocks = list_any (is_unsent_in n count) blocks

-- Blocks name an offset whose TSN is not in flight.
pub record NameUnsent (n count : ℕ) (blocks : List GapAckBlock) : Type 0 where
  pub offset : ℕ
  pub named : is_named offset blocks ≡ true
  pub unsent : is_in_flight_at n count offset ≡ false
