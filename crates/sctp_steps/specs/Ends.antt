-- Two associations that face each other, and what either gave out.
use Rattle.std.specs.Prelude.{◌≡◌, ℕ, List, ◌⊎◌, Result, Ok, Err, Option, Some, None}
use Rattle.sctp_wire_types.specs.declared.error.Error.{Error}
use Rattle.sctp_wire_types.specs.declared.error.Error.TheVariants as errors
use Rattle.sctp_assoc.specs.Shown.{Shown}
use Rattle.sctp_steps.specs.declared.step.Side2.{Side2}
use Rattle.sctp_steps.specs.declared.step.Side2.TheVariants as sides

pub record Ends : Type 0 where
  pub a : Shown
  pub b : Shown
  -- every packet that A gave out, and that B did, in order
  pub packets_a : List (List ℕ)
  pub packets_b : List (List ℕ)

abbrev pub end_of : Side2 → Ends → Shown
end_of sides.A p = p.a
end_of sides.B p = p.b

-- this is the side's association now
abbrev pub with_end : Side2 → Ends → Shown → Ends
with_end sides.A p x = record p { a = x }
with_end sides.B p x = record p { b = x }

abbrev pub packets_of : Side2 → Ends → List (List ℕ)
packets_of sides.A p = p.packets_a
packets_of sides.B p = p.packets_b

-- A's refusal is answered first; without one, want of memory at either side, or B's refusal
abbrev pub JoinRefuses : {T : Type 0} → Result T Error → Option Error → Option Error → Type 0
JoinRefuses (Ok pair) first second = (first ≡ None) × (second ≡ None)
JoinRefuses (Err e) (Some refusal) second = e ≡ refusal
JoinRefuses (Err e) None second = (e ≡ errors.ErrNoMemory) ⊎ (second ≡ Some e)
