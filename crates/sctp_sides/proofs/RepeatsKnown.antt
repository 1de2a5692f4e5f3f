-- A repeat of a request of the peer that was completed is answered as performed, and retires nothing.
use Rattle.std.proofs.Common.{◌≡◌, refl, sym, ap, ◌∙◌, subst, ℕ, ◌==◌, Bool, true, false, ◌&&◌, not, cond, fold}
use Rattle.std.proofs.Common.{List, [], ◌∷◌, ◌++◌, Option, Some, None, is_some}
use Rattle.std.proofs.lemmas.Bool.{true≢false}
use Rattle.std.proofs.lemmas.List.{append-nil, append_assoc}
use Rattle.std.specs.List.{AllByRecursion}
use Rattle.sctp_wire_types.specs.Config.{is_rfc}
use Rattle.sctp_wire_types.specs.declared.param.ParamOutgoingResetRequest.{ParamOutgoingResetRequest}
use Rattle.sctp_wire_types.specs.declared.param.ReconfigResult.TheVariants as results
use Rattle.sctp_wire_types.specs.declared.event.StreamEvent.TheVariants.{ResetComplete}
use Rattle.sctp_streams.specs.declared.event.Event.{Event}
use Rattle.sctp_streams.specs.declared.event.Event.TheVariants as events
use Rattle.sctp_streams.specs.Stream.{StreamView, with_restarted_ssn}
use Rattle.sctp_streams.specs.Streams.{StreamMap, changed_stream, stream_at, without_stream}
use Rattle.sctp_reset_requests.specs.declared.answer.Arrival.{Arrival}
use Rattle.sctp_reset_requests.specs.declared.answer.Arrival.TheVariants as arrivals
use Rattle.sctp_reset_requests.specs.declared.answer.Standing.{Standing}
use Rattle.sctp_reset_requests.specs.declared.own_request.OwnRequest.{OwnRequest}
use Rattle.sctp_reset_requests.specs.declared.own_request.SentRequest.{SentRequest}
use Rattle.sctp_reset_requests.specs.Debts.{DebtsView, settled}
use Rattle.sctp_reset_requests.specs.Own.{OwnView, is_confirmed_by, request_sent, with_active}
use Rattle.sctp_reset_requests.specs.Own as own
use Rattle.sctp_reset_requests.specs.Peer.{PeerView, arrived, arrived_as}
use Rattle.sctp_reset_requests.specs.Request.{request_of}
use Rattle.sctp_resets.specs.Answers.{Answering, answering, complete_told, completed_one, completed_with}
use Rattle.sctp_resets.specs.Answers.{ended_or_restarted, is_read_half_closed}
use Rattle.sctp_resets.specs.Channels.{final_told, final_told_at}
use Rattle.sctp_resets.specs.Resets.{Beside, ResetsView, arrived_with, confirmed_where, handled_behind}
use Rattle.sctp_resets.proofs.ListsOver.{all_appended}
use Rattle.sctp_assoc.specs.Resets.{channels_of, handled_with, on_request, stopped_if, with_beside}
use Rattle.sctp_assoc.specs.Shown.{Shown}
use Rattle.sctp_sides.specs.Repeats.{CompletedNumbersAreRepeats, IsAnsweredAlone, RepeatsAreOnlyAnswered}
use Rattle.sctp_sides.specs.Repeats.{RepeatsEndNoGeneration, RepeatsRetireNothing, RetiresNothing, TellsNoEnd, answered}
use Rattle.sctp_sides.specs.Repeats.{IsRepeat, confirming}

pub completed_numbers_are_repeats : CompletedNumbersAreRepeats
completed_numbers_are_repeats a param done current = rw (current, done) refl

-- What a request of the peer does to this side's requests leaves the peer's.

pub confirmed_peer : (x : OwnView × Option OwnRequest) (r : ResetsView) (m : StreamMap) (told : List Event)
    → (confirmed_where x r m told).0.0.peer ≡ r.peer
confirmed_peer (o, None) r m told = refl
confirmed_peer (o, Some q) r m told = refl

-- the peer's request changes nothing of these requests, and is answered as performed
abbrev pub IsPassedBy : PeerView → ParamOutgoingResetRequest → ℕ → Type 0
IsPassedBy p param cumulative_tsn =
    arrived p (request_of param) cumulative_tsn ≡ (p, arrivals.Answered results.SuccessPerformed)

answered_behind : (a : Shown) (param : ParamOutgoingResetRequest) (x : Beside × Bool)
    → IsPassedBy x.0.0.peer param a.receiver.peer_last_tsn
    → handled_with a param.reconfig_request_sequence_number
    (handled_behind param a.receiver.peer_last_tsn a.sender.queue.next_message_id a.receiver.max_receive_message_size
    (channels_of a) x)
    ≡ answered (stopped_if x.1 (with_beside a x.0)) param
answered_behind a param ((r, m, told), confirms) passed =
    ap (λ (z : PeerView × Arrival).
    handled_with a param.reconfig_request_sequence_number
    (arrived_with confirms a.sender.queue.next_message_id a.receiver.max_receive_message_size z r
    (let c = channels_of a in record c { streams = m; events = told }))) passed

-- what is passed by so is answered alone
pub passed_is_answered : (a : Shown) (param : ParamOutgoingResetRequest)
    → IsPassedBy a.resets.peer param a.receiver.peer_last_tsn → IsAnsweredAlone a param
unfolding on_request
passed_is_answered a param passed =
    answered_behind a param (confirming a param)
    (subst (λ (p : PeerView). IsPassedBy p param a.receiver.peer_last_tsn)
    (sym (confirmed_peer (own.confirmed a.resets.own param.reconfig_response_sequence_number) a.resets a.streams
    a.events)) passed)

repeat_is_passed : (a : Shown) (param : ParamOutgoingResetRequest) → IsRepeat a param
    → IsPassedBy a.resets.peer param a.receiver.peer_last_tsn
repeat_is_passed a param repeat =
    ap (λ (s : Standing). arrived_as s a.resets.peer (request_of param) a.receiver.peer_last_tsn) repeat

pub repeats_retire_nothing : RepeatsRetireNothing
repeats_retire_nothing a param repeat = passed_is_answered a param (repeat_is_passed a param repeat)

-- Where no request of this side ends, its requests stay.

ends_some : (s : SentRequest) (o : OwnView) (same : Bool)
    → (cond {A = OwnView × Option OwnRequest} same (with_active o None, Some s.request) (o, None)).1 ≡ None
    → cond {A = OwnView × Option OwnRequest} same (with_active o None, Some s.request) (o, None) ≡ (o, None)
ends_some s o true e = absurd (true≢false (ap (λ (z : Option OwnRequest). is_some z) e))
ends_some s o false e = refl

none_ends : (active : Option SentRequest) (o : OwnView) (number : ℕ)
    → (cond {A = OwnView × Option OwnRequest} (is_confirmed_by active number) (with_active o None, request_sent active)
    (o, None)).1 ≡ None
    → cond {A = OwnView × Option OwnRequest} (is_confirmed_by active number) (with_active o None, request_sent active)
    (o, None) ≡ (o, None)
none_ends None o number e = refl
none_ends (Some s) o number e = ends_some s o (s.request.number == number && not s.is_put_off) e

pub repeats_are_only_answered : RepeatsAreOnlyAnswered
repeats_are_only_answered a param repeat none =
    repeats_retire_nothing a param repeat
    ∙ ap (λ (x : OwnView × Option OwnRequest).
    (let y = confirmed_where x a.resets a.streams a.events in answered (stopped_if y.1 (with_beside a y.0)) param))
    (none_ends a.resets.own.active a.resets.own param.reconfig_response_sequence_number none)

-- What the end of a request of this side tells

-- Events came behind, none of which tells Finished.
record AddsNoEnd (before after : List Event) : Type 0 where
  more : List Event
  told : after ≡ before ++ more
  endless : AllByRecursion TellsNoEnd more

adds_nothing : (told : List Event) → AddsNoEnd told told
adds_nothing told = record { more = []; told = sym (append-nil told); endless = tt }

adds_one : (told : List Event) (event : Event) → TellsNoEnd event → AddsNoEnd told (told ++ event ∷ [])
adds_one told event one = record { more = event ∷ []; told = refl; endless = (one, tt) }

adds_on : (first next last : List Event) → AddsNoEnd first next → AddsNoEnd next last → AddsNoEnd first last
adds_on first next last x y = record {
  more = x.more ++ y.more;
  told = y.told ∙ ap (λ (z : List Event). z ++ y.more) x.told ∙ append_assoc first x.more y.more;
  endless = all_appended TellsNoEnd x.more y.more x.endless y.endless;
}

final_adds : (o : Option StreamView) (told : List Event) → AddsNoEnd told (final_told_at o told)
final_adds None told = adds_nothing told
final_adds (Some s) told = adds_one told _ (λ id. refl)

ended_adds : (ends : Bool) (a : Answering) (id : ℕ)
    → AddsNoEnd a.events
    (cond {A = Answering} ends
    (record a { streams = without_stream a.streams id; events = final_told a.streams id a.events })
    (record a { streams = changed_stream with_restarted_ssn a.streams id })).events
ended_adds true a id = final_adds (stream_at a.streams id) a.events
ended_adds false a id = adds_nothing a.events

complete_adds : (owed : Bool) (a : Answering) (id : ℕ) → AddsNoEnd a.events (complete_told owed a id).events
complete_adds true a id = adds_one a.events (events.Stream (ResetComplete id)) (λ stream. refl)
complete_adds false a id = adds_nothing a.events

one_adds : (by_rfcs : Bool) (x : DebtsView × Bool) (a : Answering) (id : ℕ)
    → AddsNoEnd a.events (completed_with by_rfcs x a id).events
one_adds by_rfcs (d, owed) a id =
    let b : Answering = record a { debts = d } in
    let ends : Bool = owed && not by_rfcs in
    let c : Answering = ended_or_restarted ends b id in
    adds_on a.events c.events (complete_told owed c id).events
    (ended_adds (ends && is_read_half_closed b.streams id) b id) (complete_adds owed c id)

all_add : (by_rfcs : Bool) (ids : List ℕ) (a : Answering)
    → AddsNoEnd a.events (fold (completed_one by_rfcs) a ids).events
all_add by_rfcs [] a = adds_nothing a.events
all_add by_rfcs (id ∷ ids) a =
    let b : Answering = completed_one by_rfcs a id in
    adds_on a.events b.events (fold (completed_one by_rfcs) b ids).events (one_adds by_rfcs (settled a.debts id) a id)
    (all_add by_rfcs ids b)

stopped_retires : (stops : Bool) (a b : Shown) (param : ParamOutgoingResetRequest)
    → b.resets.generations ≡ a.resets.generations → b.resets.peer ≡ a.resets.peer → AddsNoEnd a.events b.events
    → RetiresNothing a (answered (stopped_if stops b) param)
stopped_retires true a b param generations requests adds = record {
  generations = generations;
  requests = requests;
  more = adds.more;
  told = adds.told;
  endless = adds.endless;
}
stopped_retires false a b param generations requests adds = record {
  generations = generations;
  requests = requests;
  more = adds.more;
  told = adds.told;
  endless = adds.endless;
}

confirmed_retires : (x : OwnView × Option OwnRequest) (a : Shown) (param : ParamOutgoingResetRequest)
    → RetiresNothing a
    (let y = confirmed_where x a.resets a.streams a.events in answered (stopped_if y.1 (with_beside a y.0)) param)
confirmed_retires (o, None) a param =
    stopped_retires false a (with_beside a (confirmed_where (o, None) a.resets a.streams a.events).0) param refl refl
    (adds_nothing a.events)
confirmed_retires (o, Some q) a param =
    stopped_retires true a (with_beside a (confirmed_where (o, Some q) a.resets a.streams a.events).0) param refl refl
    (all_add (is_rfc o.profile) q.ids (answering a.resets.debts a.streams a.events))

-- what is answered alone retires nothing
pub answered_retires : (a : Shown) (param : ParamOutgoingResetRequest) → IsAnsweredAlone a param
    → RetiresNothing a (on_request a param)
answered_retires a param alone =
    subst (RetiresNothing a) (sym alone)
    (confirmed_retires (own.confirmed a.resets.own param.reconfig_response_sequence_number) a param)

pub repeats_end_no_generation : RepeatsEndNoGeneration
repeats_end_no_generation a param repeat = answered_retires a param (repeats_retire_nothing a param repeat)
