-- What a call answers to C, as a number.
use Rattle.std.specs.Prelude.{ℕ, ◌+◌, Result, Ok, Err}
use Rattle.sctp_wire_types.specs.declared.error.Error.{Error}
use Rattle.sctp_wire_types.specs.declared.error.Error.TheVariants as errors
use Rattle.sctp_wire_types.specs.Errors.{refusal_number}

-- 2 for want of memory, 62 for a timeout of 0, and else 5 and the number of the refusal
abbrev pub refusal_code : Error → ℕ
refusal_code errors.ErrNoMemory = 2
refusal_code errors.ErrBadTimeout = 62
refusal_code e = 5 + refusal_number e

-- 0 where the call was done
abbrev pub code_of : {T : Type 0} → Result T Error → ℕ
code_of (Ok answer) = 0
code_of (Err e) = refusal_code e
