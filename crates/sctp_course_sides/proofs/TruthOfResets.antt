-- What requests to reset streams, those of the peer and the ends of those of this side, leave of the peer's requests by
-- their numbers, and of those of this side.
use Rattle.std.proofs.Common.{◌≡◌, refl, ◌∙◌, ℕ, Bool, true, false, List, Option, Some, None, Ok, Err}
use Rattle.sctp_streams.specs.declared.event.Event.{Event}
use Rattle.sctp_streams.specs.Streams.{StreamMap}
use Rattle.sctp_reset_requests.specs.declared.answer.Arrival.{Arrival}
use Rattle.sctp_reset_requests.specs.declared.outcome.Answered.{Answered}
use Rattle.sctp_reset_requests.specs.declared.outcome.Answered.TheVariants as answers
use Rattle.sctp_reset_requests.specs.declared.own_request.OwnRequest.{OwnRequest}
use Rattle.sctp_reset_requests.specs.Own.{OwnView}
use Rattle.sctp_reset_requests.specs.Request.{PeerRequestView}
use Rattle.sctp_resets.specs.declared.performing.Handled.{Handled}
use Rattle.sctp_resets.specs.Channels.{Channels}
use Rattle.sctp_resets.specs.Performing.{Performing, answered_in, named_in, performing, retired_each}
use Rattle.sctp_resets.specs.Resets.{Beside, ResetsView, Resetting, confirmed_where, ended_as_answered, performed}
use Rattle.sctp_resets.specs.Resets.{performed_with, settled_by, skips_done, with_channels, with_skips_done}
use Rattle.sctp_resets.specs.Resets as resets
use Rattle.sctp_resets.specs.Skips.{Skipping}
use Rattle.sctp_resets.specs.Skips as skips
use Rattle.sctp_assoc.specs.Resets.{asking_if, handled_with, settled_with, stopped_if, with_resetting}
use Rattle.sctp_assoc.specs.Shown.{Shown}

-- What becomes of the resets

pub released_peer : (q : PeerRequestView) (first limit : ℕ) (r : ResetsView) (to_accept named : List ℕ)
    (x : Performing × List ℕ) → (performed_with q first limit r to_accept named x).0.0.peer ≡ r.peer
released_peer q first limit r to_accept named (p, ids) = refl

pub performed_peer : (q : PeerRequestView) (first limit : ℕ) (r : ResetsView) (e : Channels)
    → (performed q first limit r e).0.0.peer ≡ r.peer
unfolding performed
performed_peer q first limit r e =
    let named : List ℕ = named_in r.own e.streams q in
    released_peer q first limit r e.to_accept named
    (answered_in r.own named (retired_each q (performing r.generations r.debts e.streams e.events)))

pub skips_peer : (r : ResetsView) (x : Skipping) → (with_skips_done r x).0.peer ≡ r.peer
skips_peer r (g, m, told) = refl

pub skips_own : (r : ResetsView) (x : Skipping) → (with_skips_done r x).0.own ≡ r.own
skips_own r (g, m, told) = refl

pub channels_peer : (e : Channels) (x : Beside) → (with_channels e x).0.peer ≡ x.0.peer
channels_peer e (r, m, told) = refl

pub channels_own : (e : Channels) (x : Beside) → (with_channels e x).0.own ≡ x.0.own
channels_own e (r, m, told) = refl

pub answer_peer : (confirms : Bool) (arrival : Arrival) (x : Resetting × Bool)
    → (resets.with_answer confirms arrival x).0.0.peer ≡ x.0.0.peer
answer_peer confirms arrival ((r, e), asks) =
    channels_peer e (skips_done r e.streams e.events)
    ∙ skips_peer r (skips.skips_applied (r.generations, e.streams, e.events))

pub answer_own : (confirms : Bool) (arrival : Arrival) (x : Resetting × Bool)
    → (resets.with_answer confirms arrival x).0.0.own ≡ x.0.0.own
answer_own confirms arrival ((r, e), asks) =
    channels_own e (skips_done r e.streams e.events)
    ∙ skips_own r (skips.skips_applied (r.generations, e.streams, e.events))

pub confirmed_own : (x : OwnView × Option OwnRequest) (r : ResetsView) (m : StreamMap) (told : List Event)
    → (confirmed_where x r m told).0.0.own ≡ x.0
confirmed_own (o, None) r m told = refl
confirmed_own (o, Some q) r m told = refl

pub responded_peer : (x : OwnView × Answered) (r : ResetsView) (m : StreamMap) (told : List Event)
    → (ended_as_answered x r m told).0.0.peer ≡ r.peer
responded_peer (o, answers.Ignored) r m told = refl
responded_peer (o, answers.InProgress) r m told = refl
responded_peer (o, answers.Ended q (Ok done)) r m told = refl
responded_peer (o, answers.Ended q (Err reason)) r m told = refl

pub responded_own : (x : OwnView × Answered) (r : ResetsView) (m : StreamMap) (told : List Event)
    → (ended_as_answered x r m told).0.0.own ≡ x.0
responded_own (o, answers.Ignored) r m told = refl
responded_own (o, answers.InProgress) r m told = refl
responded_own (o, answers.Ended q (Ok done)) r m told = refl
responded_own (o, answers.Ended q (Err reason)) r m told = refl

pub settled_one_peer : (a : Shown) (q : PeerRequestView) (y : Resetting × Bool)
    → (settled_with a (settled_by q y)).resets.peer ≡ y.0.0.peer
settled_one_peer a q ((r, e), true) = refl
settled_one_peer a q ((r, e), false) = refl

pub asked_peer : (asks stops : Bool) (a : Shown) → (asking_if asks (stopped_if stops a)).resets.peer ≡ a.resets.peer
asked_peer true true a = refl
asked_peer true false a = refl
asked_peer false true a = refl
asked_peer false false a = refl

pub handled_is_peer : (a : Shown) (number : ℕ) (x : Resetting × Handled)
    → (handled_with a number x).resets.peer ≡ x.0.0.peer
handled_is_peer a number ((r, e), h) = asked_peer h.asks h.confirms (with_resetting a (r, e))
