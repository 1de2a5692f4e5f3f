-- The offsets that TSNs spell near a receiver's reach (RFC 4960 section 1.6).
use Rattle.std.specs.Prelude.{ℕ, ◌+◌, ◌-◌, ◌^◌, nat_lt, if◌then◌else◌, Option, Some, None}
use Rattle.sctp_serial.specs.Serial.{tsn, tsn_past}

-- the offset nearest to `reach` that the TSN t spells; a TSN of exactly half the range away is read as the one behind
abbrev pub offset_near : ℕ → ℕ → ℕ → ℕ
offset_near initial reach t =
    if nat_lt (tsn_past (tsn initial reach) t) (2 ^ 31) then reach + tsn_past (tsn initial reach) t else
    reach + tsn_past (tsn initial reach) t - 2 ^ 32

-- the offset that the TSN t spells, where it lies at or ahead of `reach`
abbrev pub offset_ahead : ℕ → ℕ → ℕ → Option ℕ
offset_ahead initial reach t =
    if nat_lt (tsn_past (tsn initial reach) t) (2 ^ 31) then Some (reach + tsn_past (tsn initial reach) t) else None

-- the offset nearest to `reach` that the TSN t spells, none where that lies before offset 0
abbrev pub offset_spelt : ℕ → ℕ → ℕ → Option ℕ
offset_spelt initial reach t =
    if nat_lt (tsn_past (tsn initial reach) t) (2 ^ 31) then Some (reach + tsn_past (tsn initial reach) t)
    else if nat_lt (reach + tsn_past (tsn initial reach) t) (2 ^ 32) then None else
    Some (reach + tsn_past (tsn initial reach) t - 2 ^ 32)
