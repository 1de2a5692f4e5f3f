-- A channel that was opened, or refused, in one statement.
use Rattle.std.specs.Prelude.{is_ok, is_some}
use Rattle.std.proofs.Common.{◌≡◌, refl, ap, ℕ, Bool, true, false, true≢false, List, Result, Ok, Err, IfOk, IfErr, OnErr}
use Rattle.std.proofs.Common.{Option, Some, None, IfSome}
use Rattle.sctp_driver.specs.Driving.{Driving}
use Rattle.dcep_messages.specs.Codec.{is_too_long}
use Rattle.channel_table.specs.declared.error.ChannelError.{ChannelError}
use Rattle.channel_table.specs.declared.error.ChannelError.TheVariants as faults
use Rattle.channel_table.specs.declared.kind.ChannelKind.{ChannelKind}
use Rattle.channel_table.specs.Tables.{Chooses}
use Rattle.sctp_channels.specs.Channels.{ChannelsView}
use Rattle.sctp_channels.specs.Opening.{RefusesOpen, end_refusal, established, open_of, outbound, with_opened}
use Rattle.sctp_channels_c.specs.Polls.{Opens}

not_so : (b : Bool) → (b ≡ true → ⊥) → b ≡ false
not_so true never = absurd (never refl)
not_so false never = refl

fault_in : Result ℕ ChannelError → ChannelError
fault_in (Ok id) = faults.NoChannel
fault_in (Err fault) = fault

same_fault : (e f : ChannelError) → (let given : Result ℕ ChannelError = Err e in given) ≡ Err f → e ≡ f
unfolding fault_in
same_fault e f same = ap fault_in same

ended_so : (end : Option ChannelError) (long : Bool) (fault : ChannelError)
    → IfSome end (λ e. long ≡ false → (let given : Result ℕ ChannelError = Err fault in given) ≡ Err e)
    → IfSome end (λ e. long ≡ false → fault ≡ e)
ended_so None long fault so = so
ended_so (Some e) long fault so = λ short. same_fault fault e (so short)

pub opens : (kind : ChannelKind) (label protocol : List ℕ) (c : ChannelsView) (d : Driving)
    (answer : Result ℕ ChannelError) (f : ChannelsView)
    → (is_too_long label protocol ≡ true → answer ≡ Err faults.LabelTooLong)
    → IfOk answer (λ id. end_refusal d ≡ None)
    → IfSome (end_refusal d) (λ e. is_too_long label protocol ≡ false → answer ≡ Err e)
    → IfOk answer (λ id. Chooses c.table c.role (outbound d) kind.negotiated (Ok id))
    → IfOk answer (λ id. f ≡ with_opened (established d) c id (open_of kind label protocol) (is_some kind.negotiated))
    → IfErr answer (λ fault. RefusesOpen c d kind label protocol fault) → OnErr answer (f ≡ c)
    → Opens kind label protocol c d answer f
opens kind label protocol c d (Ok id) f long lives ended chosen made refused left =
    (not_so (is_too_long label protocol) (λ so. true≢false (ap is_ok (long so))), lives, chosen, made)
opens kind label protocol c d (Err fault) f long lives ended chosen made refused left = (
  λ so. same_fault fault faults.LabelTooLong (long so),
  ended_so (end_refusal d) (is_too_long label protocol) fault ended,
  refused,
  left,
)
