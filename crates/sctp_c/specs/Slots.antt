-- What a call does to the driver that a slot holds.
use Rattle.std.specs.Prelude.{◌≡◌, ◌⊎◌, ℕ, Option, Some, None, Result, Ok, Err}
use Rattle.sctp_wire_types.specs.declared.error.Error.{Error}
use Rattle.sctp_driver.specs.Driving.{Driving}
use Rattle.sctp_slots.specs.Codes.{refusal_code}

-- the slot holds a driver before and after, and between them this is so
abbrev pub OnHeld : Option Driving → Option Driving → (Driving → Driving → Type 0) → Type 0
OnHeld (Some d) (Some e) R = R d e
OnHeld (Some d) None R = ⊥
OnHeld None after R = ⊥

-- 0, or the code of this refusal, if there is one
abbrev pub IsCode : Option Error → ℕ → Type 0
IsCode None code = code ≡ 0
IsCode (Some e) code = code ≡ refusal_code e

-- the code is 1 where the slot is empty; else the call is refused exactly with this refusal, if there is one
abbrev pub RefusesBy : (Driving → Option Error) → Option Driving → ℕ → Type 0
RefusesBy refusal None code = code ≡ 1
RefusesBy refusal (Some d) code = IsCode (refusal d) code

-- the same of a call that is also refused where memory is
abbrev pub IsCodeOrLacksMemory : Option Error → ℕ → Type 0
IsCodeOrLacksMemory None code = (code ≡ 0) ⊎ (code ≡ 2)
IsCodeOrLacksMemory (Some e) code = code ≡ refusal_code e

abbrev pub RefusesOrLacksMemoryBy : (Driving → Option Error) → Option Driving → ℕ → Type 0
RefusesOrLacksMemoryBy refusal None code = code ≡ 1
RefusesOrLacksMemoryBy refusal (Some d) code = IsCodeOrLacksMemory (refusal d) code

-- an empty slot stays so; else the slot holds a driver before and after, and between them this is so
abbrev pub OnAny : Option Driving → Option Driving → (Driving → Driving → Type 0) → Type 0
OnAny None after R = after ≡ None
OnAny (Some d) None R = ⊥
OnAny (Some d) (Some e) R = R d e

-- what was made was put into a slot, or memory was refused for it; or it was refused
abbrev pub IsPlaced : Result Driving Error → ℕ → Type 0
IsPlaced (Ok d) code = (code ≡ 0) ⊎ (code ≡ 2)
IsPlaced (Err e) code = code ≡ refusal_code e
