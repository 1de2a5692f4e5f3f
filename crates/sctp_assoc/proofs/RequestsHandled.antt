-- What a request of the peer leaves, from its parts.
use Rattle.std.proofs.Common.{◌≡◌, ◌∙◌, ap, sym, subst, ℕ, Result}
use Rattle.std.specs.Prelude.{OnOk}
use Rattle.std.proofs.lemmas.Result.{on_ok_weaker}
use Rattle.sctp_wire_types.specs.declared.param.ParamOutgoingResetRequest.{ParamOutgoingResetRequest}
use Rattle.sctp_resets.specs.declared.performing.Handled.{Handled}
use Rattle.sctp_resets.specs.Resets.{Resetting, handled}
use Rattle.sctp_assoc.specs.Resets.{channels_of, handled_with, on_request}
use Rattle.sctp_assoc.specs.Shown.{Shown}

-- what a request leads to, where the next message gets this first identifier
abbrev pub led_from : Shown → ParamOutgoingResetRequest → ℕ → Resetting × Handled
led_from a param first =
    handled param a.receiver.peer_last_tsn first a.receiver.max_receive_message_size a.resets (channels_of a)

-- where the request led to x, and what is left is what x is answered by
request_handled : (a : Shown) (param : ParamOutgoingResetRequest) (x : Resetting × Handled) (b : Shown)
    → led_from a param a.sender.queue.next_message_id ≡ x
    → b ≡ handled_with a param.reconfig_request_sequence_number x → b ≡ on_request a param
unfolding on_request
request_handled a param x b led left =
    left ∙ ap (handled_with a param.reconfig_request_sequence_number) (sym led)

-- v is seen of what is a before the call, and b behind it
pub request_on : {T E : Type 0} (result : Result T E) (v a b : Shown) (param : ParamOutgoingResetRequest)
    (x : Resetting × Handled) (first : ℕ) → v ≡ a → first ≡ v.sender.queue.next_message_id
    → led_from v param first ≡ x
    → OnOk result (b ≡ handled_with v param.reconfig_request_sequence_number x)
    → OnOk result (b ≡ on_request a param)
request_on result v a b param x first same next led left =
    rw (← same)
    (on_ok_weaker result
    (request_handled v param x b (subst (λ (n : ℕ). led_from v param n ≡ x) next led)) left)
