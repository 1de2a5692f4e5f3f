-- What was written of the list of streams.
use Rattle.std.specs.Prelude.{◌≡◌, ℕ, List, Option, Some, None, Result, Ok, Err, IfErr, IfOk}
use Rattle.std.proofs.Common.{sym, subst, inl, inr}
use Rattle.std.proofs.lemmas.Option.{none-some}
use Rattle.std.specs.Global.{Vec}
use Rattle.sctp_wire_types.specs.declared.error.Error.{Error}
use Rattle.sctp_assoc.specs.Calls.{RefusesOrLacksMemory}
use Rattle.sctp_slots.specs.Codes.{refusal_code}
use Rattle.sctp_c.specs.Lists.{Lists, ListsNothing, ListsUnless}

pub when_listed : (answer : Result (Vec ℕ) Error) (refusal : Option Error) (ids : List ℕ) (code : ℕ)
    (before after : List ℕ) (count_before count_after : ℕ)
    → RefusesOrLacksMemory answer refusal → IfOk answer (λ listed. listed.items ≡ ids)
    → IfOk answer (λ listed. Lists listed.items code before after count_after)
    → IfErr answer (λ error. ListsNothing (refusal_code error) code before after count_before count_after)
    → ListsUnless refusal ids code before after count_before count_after
when_listed (Ok listed) None ids code before after count_before count_after same are told left =
    inl (subst (λ (is : List ℕ). Lists is code before after count_after) are told)
when_listed (Ok listed) (Some refusal) ids code before after count_before count_after same are told left =
    absurd (none-some refusal (sym same))
when_listed (Err e) None ids code before after count_before count_after same are told left =
    inr (subst (λ (error : Error). ListsNothing (refusal_code error) code before after count_before count_after)
    same left)
when_listed (Err e) (Some refusal) ids code before after count_before count_after same are told left =
    subst (λ (error : Error). ListsNothing (refusal_code error) code before after count_before count_after) same left
