-- What holds of a value that was answered.
use Rattle.std.proofs.Common.{◌≡◌, sym, ap, ◌⊎◌, inl, inr, Option, Some, None}
use Rattle.std.specs.Prelude.{IfOk, Result, Ok, Err}
use Rattle.sctp_wire_types.specs.declared.error.Error.{Error}
use Rattle.sctp_wire_types.specs.declared.error.Error.TheVariants as errors
use Rattle.sctp_assoc.specs.Calls.{RefusesOrLacksMemory}
use Rattle.sctp_steps.specs.Ends.{JoinRefuses}

pub if_ok : {A E : Type 0} (r : Result A E) (P Q : A → Type 0) → IfOk r P → ((a : A) → P a → Q a) → IfOk r Q
if_ok (Ok a) P Q h f = f a h
if_ok (Err e) P Q h f = h

-- what a call with this refusal answers is want of memory or the refusal
refused_by : (S : Type 0) (e : Error) (refusal : Option Error) → RefusesOrLacksMemory {T = S} (Err e) refusal
    → (e ≡ errors.ErrNoMemory) ⊎ (refusal ≡ Some e)
refused_by S e None h = inl h
refused_by S e (Some fault) h = inr (ap Some (sym h))

-- A refused call answers y; `first` is what refuses A, `second` what refuses B.
module _ {T : Type 0} (S : Type 0) (r : Result T Error) (y e : Error) (first second : Option Error) where
  -- where A is not refused, what B is refused with is answered
  pub second_refuses : r ≡ Err y → y ≡ e → first ≡ None → RefusesOrLacksMemory {T = S} (Err e) second
      → JoinRefuses r first second
  second_refuses answered same none h = rw (answered, same, none) (refused_by S e second h)
