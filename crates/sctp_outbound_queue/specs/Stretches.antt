-- Stretches of messages that wait, one behind another.
use Rattle.std.specs.Prelude.{ℕ, List, [], ◌∷◌, ◌+◌, ◌-◌, ◌^◌, if◌then◌else◌, nat_lt, Option, None, Some}
use Rattle.sctp_outbound_queue.specs.declared.stretches.Stretch.{Stretch}

abbrev pub stretch : ℕ → ℕ → Stretch
stretch len next = record { len = len; next = next }

-- a moment before which no deadline lies where this one is the least: the greatest moment where there is none
abbrev pub moment_of : Option ℕ → ℕ
moment_of None = 2 ^ 64 - 1
moment_of (Some deadline) = deadline

-- how many messages they have
abbrev pub total : List Stretch → ℕ
total [] = 0
total (s ∷ ss) = s.len + total ss

-- the stretch in which the message at an index lies has one less
abbrev pub shortened_at : ℕ → List Stretch → List Stretch
shortened_at index [] = []
shortened_at index (s ∷ ss) =
    if nat_lt index s.len then stretch (s.len - 1) s.next ∷ ss else s ∷ shortened_at (index - s.len) ss
