-- The number under which a refusal is reported is that of the refusal, or of want of memory.
use Rattle.std.proofs.Common.{◌≡◌, sym, ap, ◌∙◌, subst, ℕ, Option, Some, None, Err}
use Rattle.sctp_wire_types.specs.declared.error.Error.{Error}
use Rattle.sctp_wire_types.specs.Errors.{refusal_number}
use Rattle.sctp_assoc.specs.Calls.{RefusesOrLacksMemory, first_refusal}
use Rattle.sctp_assoc.specs.Replies.{IsNumberOf, IsNumberOrMemory}

pub number_reported : (refusal : Option Error) (e : Error) (n : ℕ)
    → RefusesOrLacksMemory {T = Unit {0}} (Err e) refusal → n ≡ refusal_number e → IsNumberOrMemory refusal n
number_reported None e n h is = is ∙ ap refusal_number h
number_reported (Some refused) e n h is = is ∙ ap refusal_number h

-- of a stream that is not found, before the call's own refusals
pub unfound_reported : (unfound own : Option Error) (e : Error) (n : ℕ) → unfound ≡ Some e → n ≡ refusal_number e
    → IsNumberOf (first_refusal unfound own) n
unfound_reported unfound own e n h is =
    subst (λ (u : Option Error). IsNumberOf (first_refusal u own) n) (sym h) is
