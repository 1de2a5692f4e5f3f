-- What the call that lists streams writes.
use Rattle.std.specs.Prelude.{◌≡◌, ◌⊎◌, ℕ, List, if◌then◌else◌, length, nat_lt, Option, Some, None}
use Rattle.sctp_wire_types.specs.declared.error.Error.{Error}
use Rattle.sctp_driver.specs.Messages.{put_front}
use Rattle.sctp_slots.specs.Codes.{refusal_code}

-- the identifiers stand at the front of the buffer where it has room for them all; how many there are is written too
abbrev pub Lists : List ℕ → ℕ → List ℕ → List ℕ → ℕ → Type 0
Lists ids code before after count =
    (code ≡ (if nat_lt (length before) (length ids) then 4 else 0))
    × (after ≡ put_front ids before) × (count ≡ length ids)

-- the call answers this code, and wrote nothing
abbrev pub ListsNothing : ℕ → ℕ → List ℕ → List ℕ → ℕ → ℕ → Type 0
ListsNothing awaited code before after count_before count_after =
    (code ≡ awaited) × (after ≡ before) × (count_after ≡ count_before)

-- the call is refused exactly with this refusal, if there is one, and where memory is refused
abbrev pub ListsUnless : Option Error → List ℕ → ℕ → List ℕ → List ℕ → ℕ → ℕ → Type 0
ListsUnless None ids code before after count_before count_after =
    Lists ids code before after count_after ⊎ ListsNothing 2 code before after count_before count_after
ListsUnless (Some e) ids code before after count_before count_after =
    ListsNothing (refusal_code e) code before after count_before count_after
