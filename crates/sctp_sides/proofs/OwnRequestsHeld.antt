-- A request of this side that goes out for the first time waited until no DATA of its streams waits or is in flight.
use Rattle.std.proofs.Common.{◌≡◌, refl, sym, ap, ◌∙◌, ⊎_elim, Bool, true, false, cond}
use Rattle.std.proofs.Common.{List, [], ◌∷◌, Option, Some, None, is_some}
use Rattle.std.proofs.lemmas.Bool.{cases_Bool, false≢true}
use Rattle.sctp_wire_types.specs.declared.param.ParamOutgoingResetRequest.{ParamOutgoingResetRequest}
use Rattle.sctp_outbound_queue.specs.Outbound.{Outbound, has_stream}
use Rattle.sctp_reset_requests.specs.declared.own_request.OwnRequest.{OwnRequest}
use Rattle.sctp_reset_requests.specs.declared.own_request.SentRequest.{SentRequest}
use Rattle.sctp_reset_requests.specs.Laws.{DataHoldsBack}
use Rattle.sctp_reset_requests.specs.Own.{OwnView, last_tsn_of, may_go, param_of, sent_first, sent_from, sent_of}
use Rattle.sctp_reset_requests.specs.Own.{sent_param}
use Rattle.sctp_resets.specs.Resets.{ResetsView, with_own}
use Rattle.sctp_sides.specs.Repeats.{OwnRequestsWait}

something_is_not_nothing : (x : Option ParamOutgoingResetRequest) (param : ParamOutgoingResetRequest)
    → x ≡ None → x ≡ Some param → false ≡ true
something_is_not_nothing x param none some =
    sym (ap (λ (o : Option ParamOutgoingResetRequest). is_some o) none)
    ∙ ap (λ (o : Option ParamOutgoingResetRequest). is_some o) some

-- The oldest request that was made is the one that goes out.
record IsOldest (queued : List OwnRequest) (q : Outbound) (param : ParamOutgoingResetRequest) : Type 0 where
  request : OwnRequest
  later : List OwnRequest
  oldest : queued ≡ request ∷ later
  said : param ≡ param_of request (last_tsn_of q)

some_same : (x y : ParamOutgoingResetRequest) → Some x ≡ Some y → y ≡ x
some_same x y e = cc

oldest_if : (goes : Bool) (r : OwnRequest) (rs : List OwnRequest) (o : OwnView) (q : Outbound)
    (param : ParamOutgoingResetRequest)
    → (cond {A = OwnView × Option ParamOutgoingResetRequest} goes
    (record o { queued = rs; active = Some (sent_of r q) }, Some (sent_param (sent_of r q))) (o, None)).1 ≡ Some param
    → IsOldest (r ∷ rs) q param
oldest_if true r rs o q param e = record {
  request = r;
  later = rs;
  oldest = refl;
  said = some_same (sent_param (sent_of r q)) param e;
}
oldest_if false r rs o q param e = absurd (false≢true (something_is_not_nothing None param refl e))

oldest_goes : (queued : List OwnRequest) (o : OwnView) (q : Outbound) (param : ParamOutgoingResetRequest)
    → (sent_from queued o q).1 ≡ Some param → IsOldest queued q param
oldest_goes [] o q param e = absurd (false≢true (something_is_not_nothing None param refl e))
oldest_goes (r ∷ rs) o q param e = oldest_if (may_go r q) r rs o q param e

-- none is active
none_active : (active : Option SentRequest) (o : OwnView) (q : Outbound) (param : ParamOutgoingResetRequest)
    → (cond {A = OwnView × Option ParamOutgoingResetRequest} (is_some active) (o, None) (sent_from o.queued o q)).1
    ≡ Some param
    → (active ≡ None) × ((sent_from o.queued o q).1 ≡ Some param)
none_active None o q param e = (refl, e)
none_active (Some s) o q param e = absurd (false≢true (something_is_not_nothing None param refl e))

own_said : (r : ResetsView) (x : OwnView × Option ParamOutgoingResetRequest) → (with_own r x).1 ≡ x.1
own_said r (o, param) = refl

pub own_requests_wait : DataHoldsBack → OwnRequestsWait
own_requests_wait held a param e =
    let o : OwnView = a.resets.own in
    let q : Outbound = a.sender.queue in
    let sent : (sent_first o q).1 ≡ Some param = sym (own_said a.resets (sent_first o q)) ∙ e in
    let goes : (o.active ≡ None) × ((sent_from o.queued o q).1 ≡ Some param) = none_active o.active o q param sent in
    let is : IsOldest o.queued q param = oldest_goes o.queued o q param goes.1 in
    record {
      request = is.request;
      later = is.later;
      oldest = is.oldest;
      said = is.said;
      alone = goes.0;
      quiet = λ id names.
          ⊎_elim
          (λ (waits : has_stream q id ≡ true).
          absurd (false≢true (something_is_not_nothing (sent_first o q).1 param
          (ap (λ (x : OwnView × Option ParamOutgoingResetRequest). x.1)
          (held o q is.request is.later id is.oldest names waits)) sent)))
          (λ (none : has_stream q id ≡ false). none)
          (cases_Bool (has_stream q id));
    }
