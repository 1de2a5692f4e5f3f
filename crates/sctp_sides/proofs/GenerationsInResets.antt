-- No reset of streams changes how often a generation is accounted for.
use Rattle.std.proofs.Common.{◌≡◌, refl, ◌∙◌, ℕ, zero, suc, Bool, true, false, not, ◌&&◌, ◌||◌, if◌then◌else◌}
use Rattle.std.proofs.Common.{List, [], ◌∷◌, ◌++◌, fold, filter, Option, Some, None, Result, Ok, Err, is_some}
use Rattle.std.proofs.lemmas.Bool.{true≢false}
use Rattle.sctp_wire_types.specs.Config.{is_rfc}
use Rattle.sctp_wire_types.specs.declared.chunk.ChunkPayloadData.{ChunkPayloadData}
use Rattle.sctp_wire_types.specs.declared.error.Error.{Error}
use Rattle.sctp_wire_types.specs.declared.event.StreamEvent.TheVariants.{Finished, Opened, Readable, ResetComplete}
use Rattle.sctp_wire_types.specs.declared.event.StreamEvent.TheVariants.{ResetFailed}
use Rattle.sctp_wire_types.specs.declared.event.StreamResetError.{StreamResetError}
use Rattle.sctp_wire_types.specs.declared.event.StreamResetError.TheVariants as reasons
use Rattle.sctp_wire_types.specs.declared.ids.PayloadProtocolIdentifier.TheVariants as kinds
use Rattle.sctp_wire_types.specs.declared.param.ParamOutgoingResetRequest.{ParamOutgoingResetRequest}
use Rattle.sctp_wire_types.specs.declared.param.ParamReconfigResponse.{ParamReconfigResponse}
use Rattle.sctp_streams.specs.declared.event.Event.{Event}
use Rattle.sctp_streams.specs.declared.event.Event.TheVariants.{DatagramReceived}
use Rattle.sctp_streams.specs.declared.event.Event.TheVariants as events
use Rattle.sctp_streams.specs.declared.setting.Setting.TheVariants as settings
use Rattle.sctp_streams.specs.Events.{is_told_of}
use Rattle.sctp_streams.specs.Stream.{StreamView, stream_skipped, with_restarted_ssn, with_setting, without_unread}
use Rattle.sctp_streams.specs.Streams.{StreamMap, becomes_ready_in, changed_stream, generation_left, is_readable_in}
use Rattle.sctp_streams.specs.Streams.{made, pushed_in, refusal_in, stream_at, waiting_of, without_stream}
use Rattle.sctp_generations.specs.declared.retirement.Retirement.{Retirement}
use Rattle.sctp_generations.specs.declared.retirement.Retirement.TheVariants as retirements
use Rattle.sctp_generations.specs.declared.skips.KeptSkip.{KeptSkip}
use Rattle.sctp_generations.specs.Generations.{GenerationsView, after_given_to, after_skips_given_to, discarded}
use Rattle.sctp_generations.specs.Generations.{drained, given_to, given_to_all, has_newest, has_skips, retired}
use Rattle.sctp_generations.specs.Generations.{retirement_of, skips_given_to, without_newest_of}
use Rattle.sctp_generations.specs.Retiring.{count_at}
use Rattle.sctp_generations.specs.Skips.{skip_ids}
use Rattle.sctp_reset_requests.specs.declared.answer.Arrival.{Arrival}
use Rattle.sctp_reset_requests.specs.declared.answer.Arrival.TheVariants as arrivals
use Rattle.sctp_reset_requests.specs.declared.outcome.Answered.{Answered}
use Rattle.sctp_reset_requests.specs.declared.outcome.Answered.TheVariants as answers
use Rattle.sctp_reset_requests.specs.declared.own_request.OwnRequest.{OwnRequest}
use Rattle.sctp_reset_requests.specs.Debts.{DebtsView, is_owed}
use Rattle.sctp_reset_requests.specs.Debts as debts
use Rattle.sctp_reset_requests.specs.Own.{OwnView, ends_here}
use Rattle.sctp_reset_requests.specs.Own as own
use Rattle.sctp_reset_requests.specs.Peer.{PeerView, boundary_of}
use Rattle.sctp_reset_requests.specs.Peer as peer
use Rattle.sctp_reset_requests.specs.Request.{PeerRequestView, request_of}
use Rattle.sctp_resets.specs.Answers.{Answering, answering, complete_told, completed_one, completed_with}
use Rattle.sctp_resets.specs.Answers.{ended_or_restarted, failed_one, failure_told, failures_told}
use Rattle.sctp_resets.specs.Answers.{is_read_half_closed, request_ended}
use Rattle.sctp_resets.specs.Channels.{Channels, channels, delivered, given_unless, given_where}
use Rattle.sctp_resets.specs.Channels.{is_write_half_closed, opened, told}
use Rattle.sctp_resets.specs.Draining.{Reading, ended, next_generation_read, passed_once, passed_times}
use Rattle.sctp_resets.specs.Draining.{passed_where, write_half_kept}
use Rattle.sctp_resets.specs.Performing.{Performing, answered_in, end_told, ends_told, is_drained, named_in, named_live}
use Rattle.sctp_resets.specs.Performing.{performing, retired_as, retired_each, retired_next, retired_one, paid_told}
use Rattle.sctp_resets.specs.Performing.{stream_ended, with_retired}
use Rattle.sctp_resets.specs.Resets.{Beside, ResetsView, arrived_with, confirmed_by, confirmed_where, ended_as_answered}
use Rattle.sctp_resets.specs.Resets.{dropped, ended_unless, given_up, given_up_for_now, given_up_where, handled}
use Rattle.sctp_resets.specs.Resets.{handled_behind, is_blocked, performed, performed_with, read_out, request_over}
use Rattle.sctp_resets.specs.Resets.{reset_or_ended, responded, settled_where}
use Rattle.sctp_resets.specs.Resets.{skips_done, skips_done_of, stopped_reading, with_generations}
use Rattle.sctp_resets.specs.Resets as resets
use Rattle.sctp_resets.specs.Skips.{Skipping, end_of_skip, readable_told, skip_tried, skips_applied, skips_applied_of}
use Rattle.sctp_sides.specs.Generations.{finals}
use Rattle.sctp_sides.proofs.GenerationsKept.{changed_same, ended_tally, made_tally, one_told, pushed_same, same_tally}
use Rattle.sctp_sides.proofs.GenerationsKept.{silent_told, tally, unread_told}
use Rattle.sctp_sides.proofs.ResetLosses.{fold_keeps}

-- where no stream is live there is none
pub none_live : (o : Option StreamView) → is_some o ≡ false → o ≡ None
none_live None e = refl
none_live (Some s) e = absurd (true≢false e)

module _ (g : ℕ) where
  -- the tally of the streams and the events of channels
  abbrev of_channels : Channels → ℕ
  of_channels c = tally g c.streams c.events

  -- DATA that waited

  told_keeps : (c : Bool) (x : Channels) (id : ℕ) (kept : Bool) → (kept && is_readable_in x.streams id) ≡ c
      → of_channels (told x id kept) ≡ of_channels x
  told_keeps true x id kept e =
      rw e (one_told g x.streams (x.events ++ DatagramReceived ∷ []) (events.Stream (Readable id)) refl
      ∙ one_told g x.streams x.events DatagramReceived refl)
  told_keeps false x id kept e = rw e (one_told g x.streams x.events DatagramReceived refl)

  given_keeps : (o : Option Error) (c : Channels) (d : ChunkPayloadData)
      → of_channels (given_unless o c d) ≡ of_channels c
  given_keeps (Some fault) c d = refl
  given_keeps None c d =
      let put = pushed_in c.streams d.stream_identifier d in
      told_keeps _ (record c { streams = put.0 }) d.stream_identifier put.1 refl
      ∙ same_tally g c.streams put.0 c.events (pushed_same c.streams d.stream_identifier d)

  opened_keeps : (there left : Bool) (first : ℕ) (c : Channels) (id : ℕ) → is_some (stream_at c.streams id) ≡ there
      → generation_left c.streams ≡ left → of_channels (opened first c id).0 ≡ of_channels c
  unfolding opened
  opened_keeps true left first c id e f = rw e refl
  opened_keeps false true first c id e f =
      rw (e, f) (one_told g (made c.streams id first kinds.Unknown) c.events (events.Stream (Opened id)) refl
      ∙ made_tally g c.streams id first kinds.Unknown c.events (none_live (stream_at c.streams id) e))
  opened_keeps false false first c id e f = rw (e, f) refl

  where_keeps : (limit : ℕ) (x : Channels × Bool) (d : ChunkPayloadData)
      → of_channels (given_where limit x d) ≡ of_channels x.0
  where_keeps limit (c, false) d = refl
  where_keeps limit (c, true) d = given_keeps (refusal_in c.streams d.stream_identifier d limit) c d

  delivered_keeps : (first limit : ℕ) (c : Channels) (d : ChunkPayloadData)
      → of_channels (delivered first limit c d) ≡ of_channels c
  unfolding delivered
  delivered_keeps first limit c d =
      where_keeps limit (opened first c d.stream_identifier) d
      ∙ opened_keeps _ _ first c d.stream_identifier refl refl

  all_delivered_keep : (first limit : ℕ) (c : Channels) (ds : List ChunkPayloadData)
      → of_channels (fold (delivered first limit) c ds) ≡ of_channels c
  all_delivered_keep first limit c ds =
      fold_keeps (λ (x : Channels). of_channels x) (delivered first limit) (delivered_keeps first limit) c ds

  -- Skips that were kept

  readable_keeps : (ready : Bool) (m : StreamMap) (queued : List Event) (id : ℕ)
      → tally g m (queued ++ readable_told ready id) ≡ tally g m queued
  readable_keeps ready m queued id = silent_told g m queued (readable_told ready id) (by ready)
    where
      by : (ready : Bool) → finals (readable_told ready id) ≡ []
      by true = refl
      by false = refl

  skip_keeps : (x : Skipping) (s : KeptSkip) → tally g (skip_tried x s).1 (skip_tried x s).2 ≡ tally g x.1 x.2
  skip_keeps (kept, m, queued) s =
      let far : ℕ = end_of_skip s m in
      let n : StreamMap = changed_stream (stream_skipped far) m s.id in
      readable_keeps (becomes_ready_in m s.id far) n queued s.id
      ∙ same_tally g m n queued (changed_same (stream_skipped far) (λ u. refl) m s.id)

  skips_of_keep : (c : Bool) (x : Skipping) (id : ℕ) → (has_skips x.0 && is_some (stream_at x.1 id)) ≡ c
      → tally g (skips_applied_of x id).1 (skips_applied_of x id).2 ≡ tally g x.1 x.2
  skips_of_keep true (kept, m, queued) id e =
      rw e (fold_keeps (λ (x : Skipping). tally g x.1 x.2) skip_tried skip_keeps
      (after_skips_given_to kept id, m, queued) (skips_given_to kept id))
  skips_of_keep false (kept, m, queued) id e = rw e refl

  skips_keep : (c : Bool) (x : Skipping) → has_skips x.0 ≡ c
      → tally g (skips_applied x).1 (skips_applied x).2 ≡ tally g x.1 x.2
  skips_keep true (kept, m, queued) e =
      rw e (fold_keeps (λ (x : Skipping). tally g x.1 x.2) skips_applied_of (λ x id. skips_of_keep _ x id refl)
      (kept, m, queued) (skip_ids kept.skips))
  skips_keep false (kept, m, queued) e = rw e refl

  pub skips_done_of_keep : (id : ℕ) (r : ResetsView) (m : StreamMap) (queued : List Event)
      → tally g (skips_done_of id r m queued).1 (skips_done_of id r m queued).2 ≡ tally g m queued
  skips_done_of_keep id r m queued = skips_of_keep _ (r.generations, m, queued) id refl

  pub skips_done_keep : (r : ResetsView) (m : StreamMap) (queued : List Event)
      → tally g (skips_done r m queued).1 (skips_done r m queued).2 ≡ tally g m queued
  skips_done_keep r m queued = skips_keep _ (r.generations, m, queued) refl

  -- A request of the peer that is performed

  abbrev of_performing : Performing → ℕ
  of_performing p = tally g p.streams p.events

  retired_as_keeps : (r : Retirement) (p : Performing) (id : ℕ) → of_performing (retired_as r p id).0 ≡ of_performing p
  retired_as_keeps retirements.Ended p id =
      one_told g (without_stream p.streams id) (stream_ended p id).events (events.Stream (Finished id)) refl
      ∙ ended_tally g p.streams id p.events
  retired_as_keeps retirements.Retires p id = one_told g p.streams p.events (events.Stream (Finished id)) refl
  retired_as_keeps retirements.Unchanged p id = refl

  retired_one_keeps : (boundary : ℕ) (p : Performing) (id : ℕ)
      → of_performing (retired_one boundary p id).0 ≡ of_performing p
  unfolding retired_one
  retired_one_keeps boundary p id =
      retired_as_keeps (retirement_of p.generations id boundary (is_drained p.streams id))
      (record p { generations = retired p.generations id boundary (is_drained p.streams id) }) id

  with_retired_keeps : (x : Performing × Bool) (ids : List ℕ) (id : ℕ)
      → of_performing (with_retired x ids id).0 ≡ of_performing x.0
  with_retired_keeps (p, true) ids id = refl
  with_retired_keeps (p, false) ids id = refl

  retired_next_keeps : (boundary : ℕ) (x : Performing × List ℕ) (id : ℕ)
      → of_performing (retired_next boundary x id).0 ≡ of_performing x.0
  retired_next_keeps boundary (p, ids) id =
      with_retired_keeps (retired_one boundary p id) ids id ∙ retired_one_keeps boundary p id

  retired_each_keeps : (q : PeerRequestView) (p : Performing) → of_performing (retired_each q p).0 ≡ of_performing p
  retired_each_keeps q p =
      fold_keeps (λ (x : Performing × List ℕ). of_performing x.0) (retired_next q.last_tsn)
      (retired_next_keeps q.last_tsn) (p, []) (named_live p.streams q)

  -- the ends that it brings

  end_owed_keeps : (m : StreamMap) (x : DebtsView × Bool) (queued : List Event) (id : ℕ)
      → tally g m (paid_told x queued id).1 ≡ tally g m queued
  end_owed_keeps m (d, true) queued id = one_told g m queued (events.Stream (ResetComplete id)) refl
  end_owed_keeps m (d, false) queued id = refl

  end_keeps_if : (ends : Bool) (m : StreamMap) (d : DebtsView) (queued : List Event) (id : ℕ)
      → tally g m (if◌then◌else◌ {A = DebtsView × List Event} ends (paid_told (debts.paid d id, debts.is_owed d id) queued id)
      (d, queued)).1
      ≡ tally g m queued
  end_keeps_if true m d queued id = end_owed_keeps m (debts.paid d id, debts.is_owed d id) queued id
  end_keeps_if false m d queued id = refl

  end_keeps : (m : StreamMap) (o : OwnView) (x : DebtsView × List Event) (id : ℕ)
      → tally g m (end_told o x id).1 ≡ tally g m x.1
  end_keeps m o (d, queued) id = end_keeps_if (ends_here o id) m d queued id

  ends_keep : (o : OwnView) (named : List ℕ) (p : Performing) → of_performing (ends_told o named p) ≡ of_performing p
  ends_keep o named p =
      fold_keeps (λ (x : DebtsView × List Event). tally g p.streams x.1) (end_told o) (end_keeps p.streams o)
      (p.debts, p.events) named

  answered_in_keeps : (o : OwnView) (named : List ℕ) (x : Performing × List ℕ)
      → of_performing (answered_in o named x).0 ≡ of_performing x.0
  answered_in_keeps o named (p, retired) = ends_keep o named p

  performed_with_keeps : (q : PeerRequestView) (first limit : ℕ) (r : ResetsView) (to_accept named : List ℕ)
      (x : Performing × List ℕ) → of_channels (performed_with q first limit r to_accept named x).0.1 ≡ of_performing x.0
  performed_with_keeps q first limit r to_accept named (p, ids) =
      all_delivered_keep first limit (channels p.streams p.events to_accept)
      (given_to_all (without_newest_of p.generations q.ids))

  performed_keeps : (q : PeerRequestView) (first limit : ℕ) (r : ResetsView) (c : Channels)
      → of_channels (performed q first limit r c).0.1 ≡ of_channels c
  unfolding performed
  performed_keeps q first limit r c =
      let named : List ℕ = named_in r.own c.streams q in
      let x : Performing × List ℕ = retired_each q (performing r.generations r.debts c.streams c.events) in
      performed_with_keeps q first limit r c.to_accept named (answered_in r.own named x)
      ∙ answered_in_keeps r.own named x
      ∙ retired_each_keeps q (performing r.generations r.debts c.streams c.events)

  settled_where_keeps : (x : PeerView × Option PeerRequestView) (first limit : ℕ) (r : ResetsView) (c : Channels)
      → of_channels (settled_where x first limit r c).0.1 ≡ of_channels c
  settled_where_keeps (p, None) first limit r c = refl
  settled_where_keeps (p, Some q) first limit r c = performed_keeps q first limit (record r { peer = p }) c

  pub settled_keeps : (last first limit : ℕ) (r : ResetsView) (c : Channels)
      → of_channels (resets.settled last first limit r c).0.1 ≡ of_channels c
  settled_keeps last first limit r c = settled_where_keeps (peer.advanced r.peer last) first limit r c

  -- The end of a request of this side

  abbrev of_answering : Answering → ℕ
  of_answering a = tally g a.streams a.events

  ended_or_restarted_keeps : (c ends : Bool) (a : Answering) (id : ℕ) → (ends && is_read_half_closed a.streams id) ≡ c
      → of_answering (ended_or_restarted ends a id) ≡ of_answering a
  ended_or_restarted_keeps true ends a id e = rw e (ended_tally g a.streams id a.events)
  ended_or_restarted_keeps false ends a id e =
      rw e (same_tally g a.streams (changed_stream with_restarted_ssn a.streams id) a.events
      (changed_same with_restarted_ssn (λ u. refl) a.streams id))

  complete_keeps : (owed : Bool) (a : Answering) (id : ℕ) → of_answering (complete_told owed a id) ≡ of_answering a
  complete_keeps true a id = one_told g a.streams a.events (events.Stream (ResetComplete id)) refl
  complete_keeps false a id = refl

  completed_with_keeps : (by_rfcs : Bool) (x : DebtsView × Bool) (a : Answering) (id : ℕ)
      → of_answering (completed_with by_rfcs x a id) ≡ of_answering a
  completed_with_keeps by_rfcs (d, owed) a id =
      let ends : Bool = owed && not by_rfcs in
      complete_keeps owed (ended_or_restarted ends (record a { debts = d }) id) id
      ∙ ended_or_restarted_keeps _ ends (record a { debts = d }) id refl

  completed_one_keeps : (by_rfcs : Bool) (a : Answering) (id : ℕ)
      → of_answering (completed_one by_rfcs a id) ≡ of_answering a
  completed_one_keeps by_rfcs a id = completed_with_keeps by_rfcs (debts.settled a.debts id) a id

  failed_one_keeps : (m : StreamMap) (reason : StreamResetError) (x : DebtsView × List Event) (id : ℕ)
      → tally g m (failed_one reason x id).1 ≡ tally g m x.1
  failed_one_keeps m reason (d, queued) id = one_told g m queued (events.Stream (ResetFailed id reason)) refl

  request_ended_keeps : (by_rfcs : Bool) (outcome : Result (Unit {0}) StreamResetError) (ids : List ℕ) (a : Answering)
      → of_answering (request_ended by_rfcs outcome ids a) ≡ of_answering a
  request_ended_keeps by_rfcs (Ok done) ids a =
      fold_keeps (λ (x : Answering). of_answering x) (completed_one by_rfcs) (completed_one_keeps by_rfcs) a ids
  request_ended_keeps by_rfcs (Err reason) ids a =
      fold_keeps (λ (x : DebtsView × List Event). tally g a.streams x.1) (failed_one reason)
      (failed_one_keeps a.streams reason) (a.debts, a.events) ids

  -- the tally of streams and events beside resets
  abbrev of_beside : Beside → ℕ
  of_beside x = tally g x.1 x.2

  request_over_keeps : (outcome : Result (Unit {0}) StreamResetError) (q : OwnRequest) (r : ResetsView) (m : StreamMap)
      (queued : List Event) → of_beside (request_over outcome q r m queued) ≡ tally g m queued
  request_over_keeps outcome q r m queued =
      request_ended_keeps (is_rfc r.own.profile) outcome q.ids (answering r.debts m queued)

  confirmed_keeps : (x : OwnView × Option OwnRequest) (r : ResetsView) (m : StreamMap) (queued : List Event)
      → of_beside (confirmed_where x r m queued).0 ≡ tally g m queued
  confirmed_keeps (o, None) r m queued = refl
  confirmed_keeps (o, Some q) r m queued = request_over_keeps (Ok tt) q (record r { own = o }) m queued

  answered_keeps : (x : OwnView × Answered) (r : ResetsView) (m : StreamMap) (queued : List Event)
      → of_beside (ended_as_answered x r m queued).0 ≡ tally g m queued
  answered_keeps (o, answers.Ignored) r m queued = refl
  answered_keeps (o, answers.InProgress) r m queued = refl
  answered_keeps (o, answers.Ended q outcome) r m queued =
      request_over_keeps outcome q (record r { own = o }) m queued

  pub responded_keeps : (response : ParamReconfigResponse) (r : ResetsView) (m : StreamMap) (queued : List Event)
      → of_beside (responded response r m queued).0 ≡ tally g m queued
  responded_keeps response r m queued = answered_keeps (own.answered r.own response) r m queued

  given_up_keeps_where : (x : OwnView × Option OwnRequest) (r : ResetsView) (m : StreamMap) (queued : List Event)
      → of_beside (given_up_where x r m queued) ≡ tally g m queued
  given_up_keeps_where (o, None) r m queued = refl
  given_up_keeps_where (o, Some q) r m queued =
      request_over_keeps (Err reasons.Failed) q (record r { own = o }) m queued

  -- a request that is given up and goes on

  failure_keeps_if : (fails : Bool) (m : StreamMap) (queued : List Event) (id : ℕ)
      → tally g m (if fails then queued ++ events.Stream (ResetFailed id reasons.Failed) ∷ [] else queued)
      ≡ tally g m queued
  failure_keeps_if true m queued id = one_told g m queued (events.Stream (ResetFailed id reasons.Failed)) refl
  failure_keeps_if false m queued id = refl

  failure_keeps : (d : DebtsView) (m : StreamMap) (queued : List Event) (id : ℕ)
      → tally g m (failure_told d m queued id) ≡ tally g m queued
  failure_keeps d m queued id = failure_keeps_if (is_some (stream_at m id) || is_owed d id) m queued id

  failures_keep : (d : DebtsView) (m : StreamMap) (ids : List ℕ) (queued : List Event)
      → tally g m (failures_told d m ids queued) ≡ tally g m queued
  failures_keep d m ids queued =
      fold_keeps (λ (es : List Event). tally g m es) (failure_told d m) (failure_keeps d m) queued ids

  given_up_keeps_if : (by_rfcs : Bool) (r : ResetsView) (m : StreamMap) (queued : List Event)
      → of_beside (if by_rfcs then given_up_for_now r m queued else given_up_where (own.ended r.own) r m queued)
      ≡ tally g m queued
  given_up_keeps_if true r m queued = failures_keep r.debts m (own.failing_ids r.own.active) queued
  given_up_keeps_if false r m queued = given_up_keeps_where (own.ended r.own) r m queued

  pub given_up_keeps : (r : ResetsView) (m : StreamMap) (queued : List Event)
      → of_beside (given_up r m queued) ≡ tally g m queued
  given_up_keeps r m queued = given_up_keeps_if (is_rfc r.own.profile) r m queued

  -- A request of the peer that comes

  arrived_keeps : (confirms : Bool) (first limit : ℕ) (x : PeerView × Arrival) (r : ResetsView) (c : Channels)
      → of_channels (arrived_with confirms first limit x r c).0.1 ≡ of_channels c
  arrived_keeps confirms first limit (p, arrivals.Answered answer) r c = refl
  arrived_keeps confirms first limit (p, arrivals.Performed q) r c =
      let s = (performed q first limit (record r { peer = p }) c).0 in
      skips_done_keep s.0 s.1.streams s.1.events ∙ performed_keeps q first limit (record r { peer = p }) c

  handled_behind_keeps : (param : ParamOutgoingResetRequest) (last first limit : ℕ) (c : Channels) (x : Beside × Bool)
      → of_channels (handled_behind param last first limit c x).0.1 ≡ of_beside x.0
  handled_behind_keeps param last first limit c ((r, m, queued), confirms) =
      arrived_keeps confirms first limit (peer.arrived r.peer (request_of param) last) r
      (record c { streams = m; events = queued })

  pub handled_keeps : (param : ParamOutgoingResetRequest) (last first limit : ℕ) (r : ResetsView) (c : Channels)
      → of_channels (handled param last first limit r c).0.1 ≡ of_channels c
  handled_keeps param last first limit r c =
      handled_behind_keeps param last first limit c
      (confirmed_by param.reconfig_response_sequence_number r c.streams c.events)
      ∙ confirmed_keeps (own.confirmed r.own param.reconfig_response_sequence_number) r c.streams c.events

  -- Reading

  write_half_keeps : (closed : Bool) (c : Channels) (id : ℕ) → of_channels (write_half_kept closed c id) ≡ of_channels c
  write_half_keeps true c id =
      let f : StreamView → StreamView = λ s. with_setting s settings.WriteHalfClosed in
      same_tally g c.streams (changed_stream f c.streams id) c.events (changed_same f (λ u. refl) c.streams id)
  write_half_keeps false c id = refl

  next_generation_keeps : (first limit id : ℕ) (in_progress : Option ℕ) (x : Reading)
      → of_channels (next_generation_read first limit id in_progress x).1 ≡ of_channels x.1
  unfolding next_generation_read
  next_generation_keeps first limit id in_progress (kept, c) =
      let closed : Bool = is_write_half_closed c.streams id in
      let b : Channels = fold (delivered first limit) (ended c id) (given_to kept id in_progress) in
      let d : Channels = write_half_kept closed b id in
      skips_of_keep _ (after_given_to kept id in_progress, d.streams, d.events) id refl
      ∙ write_half_keeps closed b id
      ∙ all_delivered_keep first limit (ended c id) (given_to kept id in_progress)
      ∙ ended_tally g c.streams id c.events

  passed_where_keeps : (first limit id : ℕ) (in_progress : Option ℕ) (c : Channels) (x : GenerationsView × Bool)
      → of_channels (passed_where first limit id in_progress c x).0.1 ≡ of_channels c
  passed_where_keeps first limit id in_progress c (kept, false) = refl
  passed_where_keeps first limit id in_progress c (kept, true) =
      next_generation_keeps first limit id in_progress (kept, c)

  passed_once_keeps : (first limit id : ℕ) (in_progress : Option ℕ) (x : Reading)
      → of_channels (passed_once first limit id in_progress x).0.1 ≡ of_channels x.1
  passed_once_keeps first limit id in_progress (kept, c) =
      passed_where_keeps first limit id in_progress c (drained kept id (waiting_of c.streams id))

  module _ (first limit id : ℕ) (in_progress : Option ℕ) where
    passed_next_keep : (c : Bool) (n : ℕ) (x : Reading) → (passed_once first limit id in_progress x).1 ≡ c
        → of_channels (passed_times n first limit id in_progress (passed_once first limit id in_progress x).0).1
        ≡ of_channels x.1
        → of_channels (passed_times (suc n) first limit id in_progress x).1 ≡ of_channels x.1
    passed_next_keep true n x e on = rw e on
    passed_next_keep false n x e on = rw e (passed_once_keeps first limit id in_progress x)

    passed_times_keep : (n : ℕ) (x : Reading)
        → of_channels (passed_times n first limit id in_progress x).1 ≡ of_channels x.1
    passed_times_keep zero x = refl
    passed_times_keep (suc n) x =
        passed_next_keep _ n x refl
        (passed_times_keep n (passed_once first limit id in_progress x).0
        ∙ passed_once_keeps first limit id in_progress x)

  pub read_out_keeps : (first limit id : ℕ) (r : ResetsView) (c : Channels)
      → of_channels (read_out first limit id r c).1 ≡ of_channels c
  read_out_keeps first limit id r c =
      passed_times_keep first limit id (boundary_of r.peer id) (count_at r.generations.retiring id) (r.generations, c)

  -- Stopping

  unless_keeps : (blocked : Bool) (r : ResetsView) (id : ℕ) (m : StreamMap) (queued : List Event)
      → of_beside (ended_unless blocked r id m queued) ≡ tally g m queued
  unless_keeps true r id m queued = refl
  unless_keeps false r id m queued = ended_tally g m id queued

  reset_or_ended_keeps : (resets_it : Bool) (r : ResetsView) (id : ℕ) (m : StreamMap) (queued : List Event)
      → of_beside (reset_or_ended resets_it r id m queued) ≡ tally g m queued
  reset_or_ended_keeps true r id m queued = refl
  reset_or_ended_keeps false r id m queued = ended_tally g m id queued

  dropped_keeps_if : (by_rfcs more : Bool) (r : ResetsView) (id : ℕ) (m : StreamMap) (queued : List Event)
      → of_beside (if by_rfcs then reset_or_ended more r id m queued else
      ended_unless (is_blocked r id) r id m queued)
      ≡ tally g m queued
  dropped_keeps_if true more r id m queued = reset_or_ended_keeps more r id m queued
  dropped_keeps_if false more r id m queued = unless_keeps (is_blocked r id) r id m queued

  dropped_keeps : (more : Bool) (r : ResetsView) (id : ℕ) (m : StreamMap) (queued : List Event)
      → of_beside (dropped more r id m queued) ≡ tally g m queued
  dropped_keeps more r id m queued = dropped_keeps_if (is_rfc r.own.profile) more r id m queued

  pub stopped_reading_keeps : (id : ℕ) (r : ResetsView) (m : StreamMap) (queued : List Event)
      → of_beside (stopped_reading id r m queued) ≡ tally g m queued
  stopped_reading_keeps id r m queued =
      let s : ResetsView = with_generations r (discarded r.generations id) in
      let n : StreamMap = changed_stream without_unread m id in
      dropped_keeps (has_newest r.generations id) s id n (filter (λ (x : Event). not (is_told_of id x)) queued)
      ∙ unread_told g n id queued
      ∙ same_tally g m n queued (changed_same without_unread (λ u. refl) m id)
