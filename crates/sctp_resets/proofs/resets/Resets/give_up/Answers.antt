use Rattle.std.proofs.Common.{◌≡◌, refl, sym, ap, ◌∙◌, subst, Bool, true, false, ◌&&◌, not, cond, nat_lt, arith}
use Rattle.std.proofs.Common.{[], length, Option, Some, None, is_some}
use Rattle.std.proofs.lemmas.Bool.{false≢true, ltb-true}
use Rattle.std.proofs.lemmas.Result.{on_err_weaker}
use Rattle.sctp_wire_types.specs.Config.{is_rfc}
use Rattle.sctp_outbound_queue.proofs.TrueSsns.{on_err}
use Rattle.sctp_reset_requests.specs.declared.own_request.OwnRequest.{OwnRequest}
use Rattle.sctp_reset_requests.specs.declared.own_request.SentRequest.{SentRequest}
use Rattle.sctp_reset_requests.specs.Own.{OwnView, failing_ids, is_given_up_anew, request_sent, was_given_up}
use Rattle.sctp_resets.specs.Resets.{ResetsView}
use Rattle.sctp_resets.proofs.resets.Resets.give_up.Goals as goal

-- where it is to be told of a stream, the active request was not given up before
told_anew : (s : Option SentRequest) (by_rfcs : Bool) → nat_lt 0 (length (failing_ids s)) ≡ true
    → (is_some s && not (by_rfcs && was_given_up s)) ≡ true
told_anew None by_rfcs some = absurd (omega (arith, ltb-true 0 0 some))
told_anew (Some s) by_rfcs some = by s.is_given_up by_rfcs some
  where
    by : (before rfcs : Bool) → nat_lt 0 (length (cond before [] s.request.ids)) ≡ true
        → (true && not (rfcs && before)) ≡ true
    by true rfcs some = absurd (omega (arith, ltb-true 0 0 some))
    by false true some = refl
    by false false some = refl

-- by the rules of the port each one is given up once
ended_anew : (s : Option SentRequest) (by_rfcs : Bool) → is_some (request_sent s) ≡ true → by_rfcs ≡ false
    → (is_some s && not (by_rfcs && was_given_up s)) ≡ true
ended_anew None by_rfcs some port = absurd (false≢true some)
ended_anew (Some s) true some port = absurd (false≢true (sym port))
ended_anew (Some s) false some port = refl

pub returns-then-is_by_rfcs-clause-grows : goal.returns-then-is_by_rfcs-clause-grows
returns-then-is_by_rfcs-clause-grows c =
    let own = c.args.self.now.own in
    on_err_weaker c.give_up_for_now.result (told_anew own.active (is_rfc own.profile)) c.give_up_for_now.ensures.grows

pub returns-clause-grows : goal.returns-clause-grows
returns-clause-grows c =
    let own = c.self.inside.own in
    on_err c.end_request.result
    (subst (λ (r : ResetsView). is_given_up_anew r.own ≡ true) c.self.view_is
    (ended_anew own.active (is_rfc own.profile)
    (ap (λ (p : OwnView × Option OwnRequest). is_some p.1) c.end.ensures.ended ∙ ap is_some c.in-Some.is)
    (sym c.is_by_rfcs.ensures ∙ c.if-is_by_rfcs.false)))
