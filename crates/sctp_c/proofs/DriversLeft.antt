-- What a call leaves of the driver that lies in a box.
use Rattle.std.proofs.Common.{◌≡◌, ◌≢◌, sym, ap, ◌∙◌, subst, ℕ, Option, Some, Result, IfSome, OnOk}
use Rattle.sctp_wire_types.specs.declared.error.Error.{Error}
use Rattle.sctp_assoc.specs.Calls.{RefusesOrLacksMemory}
use Rattle.sctp_driver.specs.Driving.{Driving}
use Rattle.sctp_slots.specs.Codes.{code_of}
use Rattle.sctp_c.specs.Slots.{OnHeld}
use Rattle.sctp_c.proofs.Refusals.{when_done, when_unchanged}

-- `d` and `e` are what the box holds before and after, and `o` and `n` what the call was lent and what it left
module _ {before after : Option Driving} {d o e n : Driving} (is_d : before ≡ Some d) (is_e : after ≡ Some e)
    (lent : o ≡ d) (left : e ≡ n) (answer : Result Unit Error) {code : ℕ} (same : code ≡ code_of answer)
  where
    -- one that was done left what it makes of what it was lent
    pub when_changed : (change : Driving → Driving) → OnOk answer (n ≡ change o) → code ≡ 0
        → OnHeld before after (λ d e. e ≡ change d)
    when_changed change holds done =
        subst (λ (b : Option Driving). OnHeld b after (λ d e. e ≡ change d)) (sym is_d)
        (subst (λ (a : Option Driving). OnHeld (Some d) a (λ d e. e ≡ change d)) (sym is_e)
        (left ∙ (when_done answer (n ≡ change o) holds (sym same ∙ done) ∙ ap change lent)))

    -- one that a rule refused left all as it was
    pub when_left : (refusal : Option Error) → RefusesOrLacksMemory answer refusal → IfSome refusal (λ e. n ≡ o)
        → code ≢ 0 → code ≢ 2 → after ≡ before
    when_left refusal refused holds undone lacks =
        is_e
        ∙ (ap Some (left ∙ (when_unchanged answer refusal (n ≡ o) refused holds (λ z. undone (same ∙ z))
        (λ z. lacks (same ∙ z)) ∙ lent)) ∙ sym is_d)
