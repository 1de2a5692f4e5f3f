-- The number under which a refused write is reported.
use Rattle.std.proofs.Common.{◌≡◌, ap, ◌∙◌, ℕ, Option, Some, None, Err}
use Rattle.sctp_wire_types.specs.declared.error.Error.{Error}
use Rattle.sctp_wire_types.specs.Errors.{refusal_number}
use Rattle.sctp_assoc.specs.Calls.{RefusesOrLacksMemory}
use Rattle.sctp_assoc.specs.Replies.{IsNumberOrMemory}

-- it is that of the refusal, or of want of memory
pub number_reported : (refusal : Option Error) (e : Error) (n : ℕ)
    → RefusesOrLacksMemory {T = ℕ} (Err e) refusal → n ≡ refusal_number e → IsNumberOrMemory refusal n
number_reported None e n h is = is ∙ ap refusal_number h
number_reported (Some refused) e n h is = is ∙ ap refusal_number h
