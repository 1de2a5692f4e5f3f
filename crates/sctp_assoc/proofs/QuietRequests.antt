-- Where no stream is to be reset and no request of this side is open, a poll gives none.
use Rattle.std.proofs.Common.{◌≡◌, refl, sym, ap, ◌∙◌, ℕ, Bool, true, false, ◌==◌, ◌||◌, not, if◌then◌else◌}
use Rattle.std.proofs.Common.{List, [], ◌∷◌, ◌++◌, filter, fold, length, take, Option, Some, None, is_some}
use Rattle.sctp_wire_types.specs.declared.param.ParamOutgoingResetRequest.{ParamOutgoingResetRequest}
use Rattle.sctp_outbound_queue.specs.Outbound.{Outbound, has_stream}
use Rattle.sctp_reset_requests.specs.declared.own_request.OwnRequest.{OwnRequest}
use Rattle.sctp_reset_requests.specs.declared.own_request.SentRequest.{SentRequest}
use Rattle.sctp_reset_requests.specs.Own.{OwnView, asked_for, most_ids, param_again, quiet_ids, sent_first, sent_from}
use Rattle.sctp_reset_requests.specs.Own.{with_active, with_repeat}
use Rattle.sctp_resets.specs.Resets.{ResetsView, request_again, request_asked, request_sent, with_asked, with_own}
use Rattle.sctp_assoc.specs.declared.control.Control.{Control}
use Rattle.sctp_assoc.specs.declared.control.Control.TheVariants as controls
use Rattle.sctp_assoc.specs.Calls.{is_established}
use Rattle.sctp_assoc.specs.Gather.{after_both, control_polled, data_polled, first_request_behind, first_request_polled}
use Rattle.sctp_assoc.specs.Gather.{listed, packet_bytes, repeat_polled, request_made, requests_of, requests_polled}
use Rattle.sctp_assoc.specs.Gather.{with_control_given}
use Rattle.sctp_assoc.specs.Gather.{with_request_again, with_request_asked, with_request_placed, with_request_sent}
use Rattle.sctp_assoc.specs.Gather.{without_control}
use Rattle.sctp_assoc.specs.Happened.{AsksForNothing}
use Rattle.sctp_assoc.specs.Shown.{Shown}
use Rattle.sctp_assoc.proofs.PartsOfPolls.{requests_if}

nothing_asked_for : (ids : List ℕ) (last : Option ℕ) (o : OwnView) → ids ≡ [] → asked_for ids last o ≡ (o, false)
nothing_asked_for ids None o e = refl
nothing_asked_for ids (Some last) o e = rw e refl

asked_if : (busy : Bool) (ids : List ℕ) (last : Option ℕ) (o : OwnView) → ids ≡ []
    → (if busy then (o, false) else asked_for ids last o) ≡ (o, false)
asked_if true ids last o e = refl
asked_if false ids last o e = nothing_asked_for ids last o e

-- none is made
pub no_request_is_asked : (r : ResetsView) (q : Outbound) → r.own.waiting ≡ [] → request_asked r q ≡ (r, false)
no_request_is_asked r q waiting =
    ap (with_asked r)
    (asked_if (is_some r.own.active || not (length r.own.queued == 0)) (quiet_ids r.own q) r.peer.last_completed r.own
    (ap (λ (w : List ℕ). take most_ids (filter (λ id. not (has_stream q id)) w)) waiting))

none_sent_from : (os : List OwnRequest) (o : OwnView) (q : Outbound) → os ≡ [] → sent_from os o q ≡ (o, None)
none_sent_from [] o q e = refl
none_sent_from (r ∷ rs) o q e = absurd (cc)

sent_if : (busy : Bool) (os : List OwnRequest) (o : OwnView) (q : Outbound) → os ≡ []
    → (if busy then (o, None) else sent_from os o q) ≡ (o, None)
sent_if true os o q e = refl
sent_if false os o q e = none_sent_from os o q e

-- none goes out for the first time
pub no_request_is_sent : (r : ResetsView) (q : Outbound) → r.own.queued ≡ [] → request_sent r q ≡ (r, None)
no_request_is_sent r q queued = ap (with_own r) (sent_if (is_some r.own.active) r.own.queued r.own q queued)

-- nor again
pub no_request_goes_again : (r : ResetsView) → r.own.active ≡ None → request_again r ≡ (r, None)
no_request_goes_again r active =
    ap (λ (o : Option SentRequest). with_own r (with_active r.own (with_repeat false o), param_again o)) active
    ∙ ap (λ (o : Option SentRequest). with_own r (with_active r.own o, None)) (sym active)

first_polled_if : (none : Bool) (a : Shown) → request_sent a.resets a.sender.queue ≡ (a.resets, None)
    → (if none then (a, []) else with_request_sent a (request_sent a.resets a.sender.queue)) ≡ (a, [])
first_polled_if true a e = refl
first_polled_if false a e = ap (with_request_sent a) e

quiet_if : (established : Bool) (a : Shown) → a.resets.own.waiting ≡ [] → a.resets.own.queued ≡ []
    → a.resets.own.active ≡ None → requests_if established a ≡ (a, [])
quiet_if false a waiting queued active = refl
quiet_if true a waiting queued active =
    ap (λ (x : ResetsView × Option ParamOutgoingResetRequest). first_request_behind (with_request_again a x))
    (no_request_goes_again a.resets active)
    ∙ ap (λ (x : ResetsView × Bool). after_both [] (first_request_polled (with_request_asked a x)))
    (no_request_is_asked a.resets a.sender.queue waiting)
    ∙ ap (after_both [])
    (first_polled_if (length a.control == 0) a (no_request_is_sent a.resets a.sender.queue queued))

pub no_request_is_polled : (a : Shown) → a.resets.own.waiting ≡ [] → a.resets.own.queued ≡ []
    → a.resets.own.active ≡ None → requests_polled a ≡ (a, [])
unfolding requests_polled
no_request_is_polled a waiting queued active = quiet_if (is_established a.state) a waiting queued active

-- none is listed

made_is_same : (a : Shown) → AsksForNothing a.resets.own → request_made (repeat_polled a).0 ≡ a
made_is_same a (waiting, queued, active) =
    ap (λ (x : ResetsView × Option ParamOutgoingResetRequest). request_made (with_request_again a x).0)
    (no_request_goes_again a.resets active)
    ∙ ap (with_request_asked a) (no_request_is_asked a.resets a.sender.queue waiting)

first_none : (none : Bool) (o : OwnView) (q : Outbound) → o.queued ≡ []
    → (if none then [] else listed (sent_first o q).1) ≡ []
first_none true o q queued = refl
first_none false o q queued =
    ap (λ (x : OwnView × Option ParamOutgoingResetRequest). listed x.1)
    (sent_if (is_some o.active) o.queued o q queued)

none_listed : (a : Shown) → AsksForNothing a.resets.own → requests_of a ≡ []
none_listed a quiet =
    let b = request_made (repeat_polled a).0 in
    ap (λ (o : Option SentRequest). listed (param_again o)
    ++ (if length b.control == 0 then [] else listed (sent_first b.resets.own b.sender.queue).1)) quiet.2
    ∙ ap (λ (z : Shown). if length z.control == 0 then [] else listed (sent_first z.resets.own z.sender.queue).1)
    (made_is_same a quiet)
    ∙ first_none (length a.control == 0) a.resets.own a.sender.queue quiet.1

data_asks : (a : Shown) (now : ℕ) → AsksForNothing a.resets.own → AsksForNothing (data_polled a now).0.resets.own
unfolding data_polled
data_asks a now quiet = quiet

-- so in a poll of an association with these requests
pub none_requested : (c : Bool) (b : Shown) (now : ℕ) → AsksForNothing b.resets.own
    → (if c then requests_of (data_polled b now).0 else []) ≡ []
none_requested true b now quiet = none_listed (data_polled b now).0 (data_asks b now quiet)
none_requested false b now quiet = refl

-- what waits changes the requests of this side only where one waits to be sent

placed_resets : (b : Shown) (packets : List (List ℕ)) → b.resets.own.queued ≡ []
    → (with_request_placed (b, packets) (request_sent b.resets b.sender.queue)).0.resets ≡ b.resets
placed_resets b packets queued =
    ap (λ (x : ResetsView × Option ParamOutgoingResetRequest). (with_request_placed (b, packets) x).0.resets)
    (no_request_is_sent b.resets b.sender.queue queued)

given_resets : (cs : List Control) (x : Shown × List (List ℕ)) → x.0.resets.own.queued ≡ []
    → (fold with_control_given x cs).0.resets ≡ x.0.resets
given_resets [] x queued = refl
given_resets (controls.Packet c ∷ cs) (b, packets) queued =
    given_resets cs (b, packets ++ packet_bytes c.header c.chunk) queued
given_resets (controls.OwnRequest ∷ cs) (b, packets) queued =
    let y = with_request_placed (b, packets) (request_sent b.resets b.sender.queue) in
    let same = placed_resets b packets queued in
    given_resets cs y (ap (λ (r : ResetsView). r.own.queued) same ∙ queued) ∙ same

pub own_stays : (a : Shown) → a.resets.own.queued ≡ [] → (control_polled a).0.resets.own ≡ a.resets.own
own_stays a queued =
    ap (λ (r : ResetsView). r.own) (given_resets a.control (without_control a, []) queued)
