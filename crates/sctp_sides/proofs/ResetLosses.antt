-- No reset of streams closes an association, and none tells of a loss.
use Rattle.std.proofs.Common.{◌≡◌, refl, sym, ap, ◌∙◌, ℕ, zero, suc, ◌+◌, arith, Bool, true, false, not, ◌&&◌, ◌||◌}
use Rattle.std.proofs.Common.{if◌then◌else◌, List, [], ◌∷◌, ◌++◌, fold, filter, length, Option, Some, None, Result, Ok}
use Rattle.std.proofs.Common.{Err, is_some}
use Rattle.std.specs.Prelude.{remove, slice_get}
use Rattle.std.proofs.lemmas.Bool.{false≢true}
use Rattle.std.proofs.lemmas.List.{append-nil}
use Rattle.std.proofs.lemmas.List.Sums.{sum_by-append, sum_by-cons}
use Rattle.sctp_wire_types.specs.Config.{is_rfc}
use Rattle.sctp_wire_types.specs.declared.chunk.ChunkPayloadData.{ChunkPayloadData}
use Rattle.sctp_wire_types.specs.declared.error.Error.{Error}
use Rattle.sctp_wire_types.specs.declared.event.StreamEvent.TheVariants.{Finished, Opened, Readable, ResetComplete}
use Rattle.sctp_wire_types.specs.declared.event.StreamEvent.TheVariants.{ResetFailed}
use Rattle.sctp_wire_types.specs.declared.event.StreamResetError.{StreamResetError}
use Rattle.sctp_wire_types.specs.declared.event.StreamResetError.TheVariants as reasons
use Rattle.sctp_wire_types.specs.declared.param.ParamOutgoingResetRequest.{ParamOutgoingResetRequest}
use Rattle.sctp_wire_types.specs.declared.param.ParamReconfigResponse.{ParamReconfigResponse}
use Rattle.sctp_streams.specs.declared.event.Event.{Event}
use Rattle.sctp_streams.specs.declared.event.Event.TheVariants.{DatagramReceived, DataChannelStatsFinal}
use Rattle.sctp_streams.specs.declared.event.Event.TheVariants as events
use Rattle.sctp_streams.specs.Events.{is_told_of}
use Rattle.sctp_streams.specs.Stream.{StreamView, without_unread}
use Rattle.sctp_streams.specs.Streams.{StreamMap, becomes_ready_in, generation_left, is_readable_in, pushed_in}
use Rattle.sctp_streams.specs.Streams.{refusal_in}
use Rattle.sctp_streams.specs.Streams.{changed_stream, stream_at, waiting_of}
use Rattle.sctp_generations.specs.declared.retirement.Retirement.{Retirement}
use Rattle.sctp_generations.specs.declared.retirement.Retirement.TheVariants as retirements
use Rattle.sctp_generations.specs.declared.skips.KeptSkip.{KeptSkip}
use Rattle.sctp_generations.specs.Generations.{GenerationsView, after_given_to, after_skips_given_to, drained, given_to}
use Rattle.sctp_generations.specs.Generations.{discarded, given_to_all, has_newest, has_skips, retired, retirement_of}
use Rattle.sctp_generations.specs.Generations.{skips_given_to, without_newest_of}
use Rattle.sctp_generations.specs.Retiring.{count_at}
use Rattle.sctp_generations.specs.Skips.{skip_ids}
use Rattle.sctp_reset_requests.specs.declared.answer.Arrival.{Arrival}
use Rattle.sctp_reset_requests.specs.declared.answer.Arrival.TheVariants as arrivals
use Rattle.sctp_reset_requests.specs.declared.outcome.Answered.{Answered}
use Rattle.sctp_reset_requests.specs.declared.outcome.Answered.TheVariants as answers
use Rattle.sctp_reset_requests.specs.declared.own_request.OwnRequest.{OwnRequest}
use Rattle.sctp_reset_requests.specs.Debts.{DebtsView, is_owed}
use Rattle.sctp_reset_requests.specs.Debts as debts
use Rattle.sctp_reset_requests.specs.Own.{OwnView, ends_here}
use Rattle.sctp_reset_requests.specs.Own as own
use Rattle.sctp_reset_requests.specs.Peer.{PeerView, boundary_of}
use Rattle.sctp_reset_requests.specs.Peer as peer
use Rattle.sctp_reset_requests.specs.Request.{PeerRequestView, request_of}
use Rattle.sctp_resets.specs.Answers.{Answering, answering, complete_told, completed_one, completed_with}
use Rattle.sctp_resets.specs.Answers.{ended_or_restarted}
use Rattle.sctp_resets.specs.Answers.{failed_each, failed_one, failure_told, failures_told, is_read_half_closed}
use Rattle.sctp_resets.specs.Answers.{request_ended}
use Rattle.sctp_resets.specs.Channels.{Channels, channels, delivered, final_told, final_told_at, given_unless}
use Rattle.sctp_resets.specs.Channels.{given_where}
use Rattle.sctp_resets.specs.Channels.{is_write_half_closed, opened, told}
use Rattle.sctp_resets.specs.Draining.{Reading, drained_out, ended, next_generation_read, passed_once, passed_times}
use Rattle.sctp_resets.specs.Draining.{passed_where, write_half_kept}
use Rattle.sctp_resets.specs.Performing.{Performing, answered_in, end_told, ends_told, finished, is_drained, named_in}
use Rattle.sctp_resets.specs.Performing.{named_live, performing, retired_as, retired_each, retired_next, retired_one}
use Rattle.sctp_resets.specs.Performing.{paid_told, stream_ended, with_retired}
use Rattle.sctp_resets.specs.Resets.{Beside, ResetsView, confirmed_by, confirmed_where, ended_as_answered}
use Rattle.sctp_resets.specs.Resets.{dropped, ended_unless, given_up, given_up_for_now, given_up_where, handled}
use Rattle.sctp_resets.specs.Resets.{arrived_with, handled_behind, is_blocked, performed, performed_with, read_out}
use Rattle.sctp_resets.specs.Resets.{request_over, reset_or_ended, responded}
use Rattle.sctp_resets.specs.Resets.{settled_where, skips_done, skips_done_of, stopped_reading, with_generations}
use Rattle.sctp_resets.specs.Resets as resets
use Rattle.sctp_resets.specs.Skips.{Skipping, end_of_skip, readable_told, skip_tried, skips_applied, skips_applied_of}
use Rattle.sctp_sides.specs.Laws.{loss_of, losses}

-- One event more that is no loss.

pub one_more_told : (queued : List Event) (event : Event)
    → losses (queued ++ event ∷ []) ≡ losses queued + loss_of event
one_more_told queued event =
    sum_by-append loss_of queued (event ∷ [])
    ∙ ap (λ (n : ℕ). losses queued + n) (sum_by-cons loss_of event [] ∙ omega arith)

pub tells : (queued : List Event) (event : Event) → loss_of event ≡ 0 → losses (queued ++ event ∷ []) ≡ losses queued
tells queued event e = one_more_told queued event ∙ ap (λ (n : ℕ). losses queued + n) e ∙ omega arith

-- what each step keeps, all of them do
pub fold_keeps : {S T : Type 0} (count : S → ℕ) (f : S → T → S) → ((s : S) (t : T) → count (f s t) ≡ count s)
    → (s : S) (ts : List T) → count (fold f s ts) ≡ count s
fold_keeps count f keeps s [] = refl
fold_keeps count f keeps s (t ∷ ts) = fold_keeps count f keeps (f s t) ts ∙ keeps s t

-- The last counters of a stream

final_tells_at : (o : Option StreamView) (queued : List Event) → losses (final_told_at o queued) ≡ losses queued
final_tells_at None queued = refl
final_tells_at (Some s) queued = tells queued (DataChannelStatsFinal s.stats) refl

final_tells : (m : StreamMap) (id : ℕ) (queued : List Event) → losses (final_told m id queued) ≡ losses queued
final_tells m id queued = final_tells_at (stream_at m id) queued

-- DATA that waited

told_tells : (c : Bool) (x : Channels) (id : ℕ) (kept : Bool) → (kept && is_readable_in x.streams id) ≡ c
    → losses (told x id kept).events ≡ losses x.events
told_tells true x id kept e =
    rw e (tells (x.events ++ DatagramReceived ∷ []) (events.Stream (Readable id)) refl
    ∙ tells x.events DatagramReceived refl)
told_tells false x id kept e = rw e (tells x.events DatagramReceived refl)

given_tells : (o : Option Error) (c : Channels) (d : ChunkPayloadData)
    → losses (given_unless o c d).events ≡ losses c.events
given_tells (Some fault) c d = refl
given_tells None c d =
    let put = pushed_in c.streams d.stream_identifier d in
    told_tells _ (record c { streams = put.0 }) d.stream_identifier put.1 refl

opened_tells : (there left : Bool) (first : ℕ) (c : Channels) (id : ℕ) → is_some (stream_at c.streams id) ≡ there
    → generation_left c.streams ≡ left → losses (opened first c id).0.events ≡ losses c.events
unfolding opened
opened_tells true left first c id e f = rw e refl
opened_tells false true first c id e f = rw (e, f) (tells c.events (events.Stream (Opened id)) refl)
opened_tells false false first c id e f = rw (e, f) refl

where_tells : (limit : ℕ) (x : Channels × Bool) (d : ChunkPayloadData)
    → losses (given_where limit x d).events ≡ losses x.0.events
where_tells limit (c, false) d = refl
where_tells limit (c, true) d = given_tells (refusal_in c.streams d.stream_identifier d limit) c d

delivered_tells : (first limit : ℕ) (c : Channels) (d : ChunkPayloadData)
    → losses (delivered first limit c d).events ≡ losses c.events
unfolding delivered
delivered_tells first limit c d =
    where_tells limit (opened first c d.stream_identifier) d
    ∙ opened_tells _ _ first c d.stream_identifier refl refl

all_delivered_tell : (first limit : ℕ) (c : Channels) (ds : List ChunkPayloadData)
    → losses (fold (delivered first limit) c ds).events ≡ losses c.events
all_delivered_tell first limit c ds =
    fold_keeps (λ (x : Channels). losses x.events) (delivered first limit) (delivered_tells first limit) c ds

-- Skips that were kept

readable_tells : (ready : Bool) (queued : List Event) (id : ℕ)
    → losses (queued ++ readable_told ready id) ≡ losses queued
readable_tells true queued id = tells queued (events.Stream (Readable id)) refl
readable_tells false queued id = ap losses (append-nil queued)

skip_tells : (x : Skipping) (s : KeptSkip) → losses (skip_tried x s).2 ≡ losses x.2
skip_tells (g, m, queued) s = readable_tells (becomes_ready_in m s.id (end_of_skip s m)) queued s.id

skips_of_tell : (c : Bool) (x : Skipping) (id : ℕ) → (has_skips x.0 && is_some (stream_at x.1 id)) ≡ c
    → losses (skips_applied_of x id).2 ≡ losses x.2
skips_of_tell true (g, m, queued) id e =
    rw e (fold_keeps (λ (x : Skipping). losses x.2) skip_tried skip_tells (after_skips_given_to g id, m, queued)
    (skips_given_to g id))
skips_of_tell false (g, m, queued) id e = rw e refl

skips_tell : (c : Bool) (x : Skipping) → has_skips x.0 ≡ c → losses (skips_applied x).2 ≡ losses x.2
skips_tell true (g, m, queued) e =
    rw e (fold_keeps (λ (x : Skipping). losses x.2) skips_applied_of (λ x id. skips_of_tell _ x id refl)
    (g, m, queued) (skip_ids g.skips))
skips_tell false (g, m, queued) e = rw e refl

pub skips_done_of_tell : (id : ℕ) (r : ResetsView) (m : StreamMap) (queued : List Event)
    → losses (skips_done_of id r m queued).2 ≡ losses queued
skips_done_of_tell id r m queued = skips_of_tell _ (r.generations, m, queued) id refl

pub skips_done_tell : (r : ResetsView) (m : StreamMap) (queued : List Event)
    → losses (skips_done r m queued).2 ≡ losses queued
skips_done_tell r m queued = skips_tell _ (r.generations, m, queued) refl

-- A request of the peer that is performed

retired_as_tells : (r : Retirement) (p : Performing) (id : ℕ) → losses (retired_as r p id).0.events ≡ losses p.events
retired_as_tells retirements.Ended p id =
    tells (stream_ended p id).events (events.Stream (Finished id)) refl ∙ final_tells p.streams id p.events
retired_as_tells retirements.Retires p id = tells p.events (events.Stream (Finished id)) refl
retired_as_tells retirements.Unchanged p id = refl

retired_one_tells : (boundary : ℕ) (p : Performing) (id : ℕ)
    → losses (retired_one boundary p id).0.events ≡ losses p.events
unfolding retired_one
retired_one_tells boundary p id =
    retired_as_tells (retirement_of p.generations id boundary (is_drained p.streams id))
    (record p { generations = retired p.generations id boundary (is_drained p.streams id) }) id

with_retired_tells : (x : Performing × Bool) (ids : List ℕ) (id : ℕ)
    → losses (with_retired x ids id).0.events ≡ losses x.0.events
with_retired_tells (p, true) ids id = refl
with_retired_tells (p, false) ids id = refl

retired_next_tells : (boundary : ℕ) (x : Performing × List ℕ) (id : ℕ)
    → losses (retired_next boundary x id).0.events ≡ losses x.0.events
retired_next_tells boundary (p, ids) id =
    with_retired_tells (retired_one boundary p id) ids id ∙ retired_one_tells boundary p id

retired_each_tells : (q : PeerRequestView) (p : Performing) → losses (retired_each q p).0.events ≡ losses p.events
retired_each_tells q p =
    fold_keeps (λ (x : Performing × List ℕ). losses x.0.events) (retired_next q.last_tsn)
    (retired_next_tells q.last_tsn) (p, []) (named_live p.streams q)

-- the ends that it brings

end_owed_tells : (x : DebtsView × Bool) (queued : List Event) (id : ℕ)
    → losses (paid_told x queued id).1 ≡ losses queued
end_owed_tells (d, true) queued id = tells queued (events.Stream (ResetComplete id)) refl
end_owed_tells (d, false) queued id = refl

end_tells_if : (ends : Bool) (d : DebtsView) (queued : List Event) (id : ℕ)
    → losses (if◌then◌else◌ {A = DebtsView × List Event} ends (paid_told (debts.paid d id, debts.is_owed d id) queued id)
    (d, queued)).1
    ≡ losses queued
end_tells_if true d queued id = end_owed_tells (debts.paid d id, debts.is_owed d id) queued id
end_tells_if false d queued id = refl

end_tells : (o : OwnView) (x : DebtsView × List Event) (id : ℕ) → losses (end_told o x id).1 ≡ losses x.1
end_tells o (d, queued) id = end_tells_if (ends_here o id) d queued id

ends_tell : (o : OwnView) (named : List ℕ) (p : Performing) → losses (ends_told o named p).events ≡ losses p.events
ends_tell o named p =
    fold_keeps (λ (x : DebtsView × List Event). losses x.1) (end_told o) (end_tells o) (p.debts, p.events) named

answered_in_tells : (o : OwnView) (named : List ℕ) (x : Performing × List ℕ)
    → losses (answered_in o named x).0.events ≡ losses x.0.events
answered_in_tells o named (p, retired) = ends_tell o named p

performed_with_tells : (q : PeerRequestView) (first limit : ℕ) (r : ResetsView) (to_accept named : List ℕ)
    (x : Performing × List ℕ) → losses (performed_with q first limit r to_accept named x).0.1.events ≡ losses x.0.events
performed_with_tells q first limit r to_accept named (p, ids) =
    all_delivered_tell first limit (channels p.streams p.events to_accept)
    (given_to_all (without_newest_of p.generations q.ids))

performed_tells : (q : PeerRequestView) (first limit : ℕ) (r : ResetsView) (c : Channels)
    → losses (performed q first limit r c).0.1.events ≡ losses c.events
unfolding performed
performed_tells q first limit r c =
    let named : List ℕ = named_in r.own c.streams q in
    let x : Performing × List ℕ = retired_each q (performing r.generations r.debts c.streams c.events) in
    performed_with_tells q first limit r c.to_accept named (answered_in r.own named x)
    ∙ answered_in_tells r.own named x
    ∙ retired_each_tells q (performing r.generations r.debts c.streams c.events)

settled_where_tells : (x : PeerView × Option PeerRequestView) (first limit : ℕ) (r : ResetsView) (c : Channels)
    → losses (settled_where x first limit r c).0.1.events ≡ losses c.events
settled_where_tells (p, None) first limit r c = refl
settled_where_tells (p, Some q) first limit r c = performed_tells q first limit (record r { peer = p }) c

pub settled_tells : (last first limit : ℕ) (r : ResetsView) (c : Channels)
    → losses (resets.settled last first limit r c).0.1.events ≡ losses c.events
settled_tells last first limit r c = settled_where_tells (peer.advanced r.peer last) first limit r c

-- The end of a request of this side

ended_or_restarted_tells : (c ends : Bool) (a : Answering) (id : ℕ) → (ends && is_read_half_closed a.streams id) ≡ c
    → losses (ended_or_restarted ends a id).events ≡ losses a.events
ended_or_restarted_tells true ends a id e = rw e (final_tells a.streams id a.events)
ended_or_restarted_tells false ends a id e = rw e refl

complete_tells : (owed : Bool) (a : Answering) (id : ℕ) → losses (complete_told owed a id).events ≡ losses a.events
complete_tells true a id = tells a.events (events.Stream (ResetComplete id)) refl
complete_tells false a id = refl

completed_with_tells : (by_rfcs : Bool) (x : DebtsView × Bool) (a : Answering) (id : ℕ)
    → losses (completed_with by_rfcs x a id).events ≡ losses a.events
completed_with_tells by_rfcs (d, owed) a id =
    let ends : Bool = owed && not by_rfcs in
    complete_tells owed (ended_or_restarted ends (record a { debts = d }) id) id
    ∙ ended_or_restarted_tells _ ends (record a { debts = d }) id refl

completed_one_tells : (by_rfcs : Bool) (a : Answering) (id : ℕ)
    → losses (completed_one by_rfcs a id).events ≡ losses a.events
completed_one_tells by_rfcs a id = completed_with_tells by_rfcs (debts.settled a.debts id) a id

failed_one_tells : (reason : StreamResetError) (x : DebtsView × List Event) (id : ℕ)
    → losses (failed_one reason x id).1 ≡ losses x.1
failed_one_tells reason (d, queued) id = tells queued (events.Stream (ResetFailed id reason)) refl

request_ended_tells : (by_rfcs : Bool) (outcome : Result (Unit {0}) StreamResetError) (ids : List ℕ) (a : Answering)
    → losses (request_ended by_rfcs outcome ids a).events ≡ losses a.events
request_ended_tells by_rfcs (Ok done) ids a =
    fold_keeps (λ (x : Answering). losses x.events) (completed_one by_rfcs) (completed_one_tells by_rfcs) a ids
request_ended_tells by_rfcs (Err reason) ids a =
    fold_keeps (λ (x : DebtsView × List Event). losses x.1) (failed_one reason) (failed_one_tells reason)
    (a.debts, a.events) ids

request_over_tells : (outcome : Result (Unit {0}) StreamResetError) (q : OwnRequest) (r : ResetsView) (m : StreamMap)
    (queued : List Event) → losses (request_over outcome q r m queued).2 ≡ losses queued
request_over_tells outcome q r m queued =
    request_ended_tells (is_rfc r.own.profile) outcome q.ids (answering r.debts m queued)

confirmed_tells : (x : OwnView × Option OwnRequest) (r : ResetsView) (m : StreamMap) (queued : List Event)
    → losses (confirmed_where x r m queued).0.2 ≡ losses queued
confirmed_tells (o, None) r m queued = refl
confirmed_tells (o, Some q) r m queued = request_over_tells (Ok tt) q (record r { own = o }) m queued

answered_tells : (x : OwnView × Answered) (r : ResetsView) (m : StreamMap) (queued : List Event)
    → losses (ended_as_answered x r m queued).0.2 ≡ losses queued
answered_tells (o, answers.Ignored) r m queued = refl
answered_tells (o, answers.InProgress) r m queued = refl
answered_tells (o, answers.Ended q outcome) r m queued =
    request_over_tells outcome q (record r { own = o }) m queued

pub responded_tells : (response : ParamReconfigResponse) (r : ResetsView) (m : StreamMap) (queued : List Event)
    → losses (responded response r m queued).0.2 ≡ losses queued
responded_tells response r m queued = answered_tells (own.answered r.own response) r m queued

given_up_tells_where : (x : OwnView × Option OwnRequest) (r : ResetsView) (m : StreamMap) (queued : List Event)
    → losses (given_up_where x r m queued).2 ≡ losses queued
given_up_tells_where (o, None) r m queued = refl
given_up_tells_where (o, Some q) r m queued =
    request_over_tells (Err reasons.Failed) q (record r { own = o }) m queued

-- a request that is given up and goes on

failure_tells_if : (fails : Bool) (queued : List Event) (id : ℕ)
    → losses (if fails then queued ++ events.Stream (ResetFailed id reasons.Failed) ∷ [] else queued) ≡ losses queued
failure_tells_if true queued id = tells queued (events.Stream (ResetFailed id reasons.Failed)) refl
failure_tells_if false queued id = refl

failure_tells : (d : DebtsView) (m : StreamMap) (queued : List Event) (id : ℕ)
    → losses (failure_told d m queued id) ≡ losses queued
failure_tells d m queued id = failure_tells_if (is_some (stream_at m id) || is_owed d id) queued id

failures_tell : (d : DebtsView) (m : StreamMap) (ids : List ℕ) (queued : List Event)
    → losses (failures_told d m ids queued) ≡ losses queued
failures_tell d m ids queued =
    fold_keeps (λ (es : List Event). losses es) (failure_told d m) (failure_tells d m) queued ids

given_up_tells_if : (by_rfcs : Bool) (r : ResetsView) (m : StreamMap) (queued : List Event)
    → losses (if◌then◌else◌ {A = Beside} by_rfcs (given_up_for_now r m queued)
    (given_up_where (own.ended r.own) r m queued)).2
    ≡ losses queued
given_up_tells_if true r m queued = failures_tell r.debts m (own.failing_ids r.own.active) queued
given_up_tells_if false r m queued = given_up_tells_where (own.ended r.own) r m queued

pub given_up_tells : (r : ResetsView) (m : StreamMap) (queued : List Event)
    → losses (given_up r m queued).2 ≡ losses queued
given_up_tells r m queued = given_up_tells_if (is_rfc r.own.profile) r m queued

-- A request of the peer that comes

arrived_tells : (confirms : Bool) (first limit : ℕ) (x : PeerView × Arrival) (r : ResetsView) (c : Channels)
    → losses (arrived_with confirms first limit x r c).0.1.events ≡ losses c.events
arrived_tells confirms first limit (p, arrivals.Answered answer) r c = refl
arrived_tells confirms first limit (p, arrivals.Performed q) r c =
    let s = (performed q first limit (record r { peer = p }) c).0 in
    skips_done_tell s.0 s.1.streams s.1.events ∙ performed_tells q first limit (record r { peer = p }) c

handled_behind_tells : (param : ParamOutgoingResetRequest) (last first limit : ℕ) (c : Channels) (x : Beside × Bool)
    → losses (handled_behind param last first limit c x).0.1.events ≡ losses x.0.2
handled_behind_tells param last first limit c ((r, m, queued), confirms) =
    arrived_tells confirms first limit (peer.arrived r.peer (request_of param) last) r
    (record c { streams = m; events = queued })

pub handled_tells : (param : ParamOutgoingResetRequest) (last first limit : ℕ) (r : ResetsView) (c : Channels)
    → losses (handled param last first limit r c).0.1.events ≡ losses c.events
handled_tells param last first limit r c =
    handled_behind_tells param last first limit c
    (confirmed_by param.reconfig_response_sequence_number r c.streams c.events)
    ∙ confirmed_tells (own.confirmed r.own param.reconfig_response_sequence_number) r c.streams c.events

-- Reading

next_generation_tells : (first limit id : ℕ) (in_progress : Option ℕ) (x : Reading)
    → losses (next_generation_read first limit id in_progress x).1.events ≡ losses x.1.events
unfolding next_generation_read
next_generation_tells first limit id in_progress (g, c) =
    let d : Channels =
    write_half_kept (is_write_half_closed c.streams id)
    (fold (delivered first limit) (ended c id) (given_to g id in_progress)) id in
    skips_of_tell _ (after_given_to g id in_progress, d.streams, d.events) id refl
    ∙ all_delivered_tell first limit (ended c id) (given_to g id in_progress)
    ∙ final_tells c.streams id c.events

passed_where_tells : (first limit id : ℕ) (in_progress : Option ℕ) (c : Channels) (x : GenerationsView × Bool)
    → losses (passed_where first limit id in_progress c x).0.1.events ≡ losses c.events
passed_where_tells first limit id in_progress c (g, false) = refl
passed_where_tells first limit id in_progress c (g, true) =
    next_generation_tells first limit id in_progress (g, c)

passed_once_tells : (first limit id : ℕ) (in_progress : Option ℕ) (x : Reading)
    → losses (passed_once first limit id in_progress x).0.1.events ≡ losses x.1.events
passed_once_tells first limit id in_progress (g, c) =
    passed_where_tells first limit id in_progress c (drained g id (waiting_of c.streams id))

module _ (first limit id : ℕ) (in_progress : Option ℕ) where
  passed_next_tell : (c : Bool) (n : ℕ) (x : Reading) → (passed_once first limit id in_progress x).1 ≡ c
      → losses (passed_times n first limit id in_progress (passed_once first limit id in_progress x).0).1.events
      ≡ losses x.1.events
      → losses (passed_times (suc n) first limit id in_progress x).1.events ≡ losses x.1.events
  passed_next_tell true n x e on = rw e on
  passed_next_tell false n x e on = rw e (passed_once_tells first limit id in_progress x)

  passed_times_tell : (n : ℕ) (x : Reading)
      → losses (passed_times n first limit id in_progress x).1.events ≡ losses x.1.events
  passed_times_tell zero x = refl
  passed_times_tell (suc n) x =
      passed_next_tell _ n x refl
      (passed_times_tell n (passed_once first limit id in_progress x).0
      ∙ passed_once_tells first limit id in_progress x)

pub read_out_tells : (first limit id : ℕ) (r : ResetsView) (c : Channels)
    → losses (read_out first limit id r c).1.events ≡ losses c.events
read_out_tells first limit id r c =
    passed_times_tell first limit id (boundary_of r.peer id) (count_at r.generations.retiring id) (r.generations, c)

-- Stopping: of what was told of the stream no event is a loss.

no_loss_of : (id : ℕ) (e : Event) → is_told_of id e ≡ true → loss_of e ≡ 0
no_loss_of id events.Connected h = refl
no_loss_of id (events.HandshakeFailed reason) h = refl
no_loss_of id (events.AssociationLost reason) h = absurd (false≢true h)
no_loss_of id (events.Stream e) h = refl
no_loss_of id (events.DataChannelStatsFinal stats) h = refl
no_loss_of id events.DatagramReceived h = refl

left_of : (c : Bool) (id : ℕ) (e : Event) (es : List Event) → is_told_of id e ≡ c
    → losses (filter (λ (x : Event). not (is_told_of id x)) es) ≡ losses es
    → losses (filter (λ (x : Event). not (is_told_of id x)) (e ∷ es)) ≡ losses (e ∷ es)
left_of true id e es h on =
    rw h (on ∙ sym (sum_by-cons loss_of e es ∙ ap (λ (n : ℕ). n + losses es) (no_loss_of id e h) ∙ omega arith))
left_of false id e es h on =
    rw h (sum_by-cons loss_of e (filter (λ (x : Event). not (is_told_of id x)) es)
    ∙ ap (λ (n : ℕ). loss_of e + n) on ∙ sym (sum_by-cons loss_of e es))

left_tells : (id : ℕ) (es : List Event) → losses (filter (λ (x : Event). not (is_told_of id x)) es) ≡ losses es
left_tells id [] = refl
left_tells id (e ∷ es) = left_of (is_told_of id e) id e es refl (left_tells id es)

unless_tells : (blocked : Bool) (r : ResetsView) (id : ℕ) (m : StreamMap) (queued : List Event)
    → losses (ended_unless blocked r id m queued).2 ≡ losses queued
unless_tells true r id m queued = refl
unless_tells false r id m queued = final_tells m id queued

reset_or_ended_tells : (resets_it : Bool) (r : ResetsView) (id : ℕ) (m : StreamMap) (queued : List Event)
    → losses (reset_or_ended resets_it r id m queued).2 ≡ losses queued
reset_or_ended_tells true r id m queued = refl
reset_or_ended_tells false r id m queued = final_tells m id queued

dropped_tells_if : (by_rfcs more : Bool) (r : ResetsView) (id : ℕ) (m : StreamMap) (queued : List Event)
    → losses (if◌then◌else◌ {A = Beside} by_rfcs (reset_or_ended more r id m queued)
    (ended_unless (is_blocked r id) r id m queued)).2
    ≡ losses queued
dropped_tells_if true more r id m queued = reset_or_ended_tells more r id m queued
dropped_tells_if false more r id m queued = unless_tells (is_blocked r id) r id m queued

dropped_tells : (more : Bool) (r : ResetsView) (id : ℕ) (m : StreamMap) (queued : List Event)
    → losses (dropped more r id m queued).2 ≡ losses queued
dropped_tells more r id m queued = dropped_tells_if (is_rfc r.own.profile) more r id m queued

pub stopped_reading_tells : (id : ℕ) (r : ResetsView) (m : StreamMap) (queued : List Event)
    → losses (stopped_reading id r m queued).2 ≡ losses queued
stopped_reading_tells id r m queued =
    let s : ResetsView = with_generations r (discarded r.generations id) in
    dropped_tells (has_newest r.generations id) s id (changed_stream without_unread m id)
    (filter (λ (x : Event). not (is_told_of id x)) queued)
    ∙ left_tells id queued
