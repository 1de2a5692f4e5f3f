-- The TSNs held past the receiver's last TSN in order (RFC 4960 sections 3.3.4 and 6.2).
use Rattle.std.specs.Prelude.{ℕ, Bool, List, ◌==◌, ◌||◌, not, length, nat_lt}
use Rattle.std.specs.List.{filter, list_any}
use Rattle.sctp_serial.specs.Serial.{tsn_lte, tsn_past}
use Rattle.sctp_received.specs.Received.{advanced, with_tsn}

-- a new TSN is held, and then the last TSN in order moves over all that follow it one after another: the new last TSN
-- in order, and what is held past that
abbrev pub held_after : List ℕ → ℕ → ℕ → ℕ × List ℕ
held_after held peer_last_tsn tsn =
    advanced (length (with_tsn held tsn peer_last_tsn).0) peer_last_tsn (with_tsn held tsn peer_last_tsn).0

-- a TSN that is held is farther past the last TSN in order
abbrev pub is_passed : List ℕ → ℕ → ℕ → Bool
is_passed held peer_last_tsn tsn = list_any (λ t. nat_lt (tsn_past peer_last_tsn tsn) (tsn_past peer_last_tsn t)) held

-- DATA is taken in while bytes may come, and without that where it fills a gap below a TSN that is held
abbrev pub is_admitted : List ℕ → ℕ → ℕ → ℕ → Bool
is_admitted held peer_last_tsn tsn credit = nat_lt 0 credit || is_passed held peer_last_tsn tsn

-- a TSN before one that is held did not come
abbrev pub has_gap : List ℕ → Bool
has_gap held = not (length held == 0)

-- a FORWARD TSN passed over all up to a TSN (RFC 3758 section 3.6): the last TSN in order is that TSN, and moves over
-- all that are held behind it one after another; the new last TSN in order, and what is held past that
abbrev pub held_past : List ℕ → ℕ → ℕ × List ℕ
held_past held tsn = let left = filter (λ t. not (tsn_lte t tsn)) held in advanced (length left) tsn left
