-- Ordered messages whose SSNs ascend: what their ends say of all of them.
use Rattle.std.specs.Prelude.{◌≡◌, ℕ, ◌-◌, ◌<◌, ◌^◌, List, length, AllPairs, HoldsAt, true}
use Rattle.sctp_serial.specs.Serial.{ssn_lt}
use Rattle.sctp_receive_queues.specs.Reassembly.{Group}

-- an SSN is past the one of a message
abbrev pub IsBefore : ℕ → Group → Type 0
IsBefore ssn g = (g.ssn < 2 ^ 16) × (ssn_lt g.ssn ssn ≡ true)

-- an SSN is before the one of a message
abbrev pub IsBehind : ℕ → Group → Type 0
IsBehind ssn g = (g.ssn < 2 ^ 16) × (ssn_lt ssn g.ssn ≡ true)

-- each SSN is before all behind it
abbrev pub Ascend : List Group → Type 0
Ascend groups = AllPairs (λ (g h : Group). IsBefore h.ssn g) groups

-- the first message and the one in front of an index have SSNs before this one, where there are any
abbrev pub AreEndsBefore : List Group → ℕ → ℕ → Type 0
AreEndsBefore groups index ssn =
    0 < index → HoldsAt (IsBefore ssn) groups 0 × HoldsAt (IsBefore ssn) groups (index - 1)

-- the message at an index and the last one have SSNs past this one, where there are any
abbrev pub AreEndsBehind : List Group → ℕ → ℕ → Type 0
AreEndsBehind groups index ssn =
    index < length groups → HoldsAt (IsBehind ssn) groups index × HoldsAt (IsBehind ssn) groups (length groups - 1)
