-- Serial numbers (RFC 4960 section 1.6, RFC 1982 section 3.2): SSNs of 16 bits, TSNs of 32 bits.
use Rattle.std.specs.Prelude.{ℕ, Bool, ◌<◌, ◌+◌, ◌-◌, ◌%◌, ◌^◌, ◌==◌, ◌&&◌, ◌||◌, not, nat_lt}

-- how far b is past a
abbrev pub ssn_past : ℕ → ℕ → ℕ
ssn_past a b = (b + 2 ^ 16 - a) % 2 ^ 16

abbrev pub tsn_past : ℕ → ℕ → ℕ
tsn_past a b = (b + 2 ^ 32 - a) % 2 ^ 32

-- the TSN that follows
abbrev pub tsn_after : ℕ → ℕ
tsn_after tsn = (tsn + 1) % 2 ^ 32

-- a comes before b: b is 1 to half the range less 1 past a
abbrev pub ssn_lt : ℕ → ℕ → Bool
ssn_lt a b = nat_lt 0 (ssn_past a b) && nat_lt (ssn_past a b) (2 ^ 15)

abbrev pub ssn_lte : ℕ → ℕ → Bool
ssn_lte a b = a == b || ssn_lt a b

abbrev pub ssn_gt : ℕ → ℕ → Bool
ssn_gt a b = not (a == b) && not (ssn_lt a b)

abbrev pub ssn_gte : ℕ → ℕ → Bool
ssn_gte a b = a == b || ssn_gt a b

abbrev pub tsn_lt : ℕ → ℕ → Bool
tsn_lt a b = nat_lt 0 (tsn_past a b) && nat_lt (tsn_past a b) (2 ^ 31)

abbrev pub tsn_lte : ℕ → ℕ → Bool
tsn_lte a b = a == b || tsn_lt a b

abbrev pub tsn_gt : ℕ → ℕ → Bool
tsn_gt a b = not (a == b) && not (tsn_lt a b)

abbrev pub tsn_gte : ℕ → ℕ → Bool
tsn_gte a b = a == b || tsn_gt a b

-- the SSN that stands this far from the first one
abbrev pub ssn_from : ℕ → ℕ → ℕ
ssn_from first offset = (first + offset) % 2 ^ 16

-- the TSN of an offset: offset 0 is the initial TSN of its direction (RFC 4960 section 3.3.2)
abbrev pub tsn : ℕ → ℕ → ℕ
tsn initial offset = (initial + offset) % 2 ^ 32

-- two offsets are less than half the range apart
abbrev pub AreNear16 : ℕ → ℕ → Type 0
AreNear16 a b = (a < b + 2 ^ 15) × (b < a + 2 ^ 15)

abbrev pub AreNear32 : ℕ → ℕ → Type 0
AreNear32 a b = (a < b + 2 ^ 31) × (b < a + 2 ^ 31)
