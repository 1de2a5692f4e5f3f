-- What is so of the live streams, where each change of streams keeps it, stays so whatever happens to resets.
use Rattle.std.proofs.Common.{refl, ℕ, zero, suc, ◌&&◌, Bool, true, false, not, cond}
use Rattle.std.proofs.Common.{List, [], ◌∷◌, fold, filter, Option, Some, None, is_some}
use Rattle.std.proofs.Common.{Result, Ok, Err}
use Rattle.sctp_wire_types.specs.Config.{is_rfc}
use Rattle.sctp_wire_types.specs.declared.chunk.ChunkPayloadData.{ChunkPayloadData}
use Rattle.sctp_wire_types.specs.declared.error.Error.{Error}
use Rattle.sctp_wire_types.specs.declared.event.StreamResetError.{StreamResetError}
use Rattle.sctp_wire_types.specs.declared.event.StreamResetError.TheVariants as reasons
use Rattle.sctp_wire_types.specs.declared.ids.PayloadProtocolIdentifier.TheVariants as kinds
use Rattle.sctp_wire_types.specs.declared.param.ParamOutgoingResetRequest.{ParamOutgoingResetRequest}
use Rattle.sctp_wire_types.specs.declared.param.ParamReconfigResponse.{ParamReconfigResponse}
use Rattle.sctp_streams.specs.declared.event.Event.{Event}
use Rattle.sctp_streams.specs.declared.setting.Setting.TheVariants as settings
use Rattle.sctp_streams.specs.Events.{is_told_of}
use Rattle.sctp_streams.specs.Stream.{stream_skipped, with_restarted_ssn, with_setting, without_unread}
use Rattle.sctp_streams.specs.Streams.{StreamMap, changed_stream, generation_left, is_readable_in, pushed_in}
use Rattle.sctp_streams.specs.Streams.{refusal_in, stream_at, waiting_of}
use Rattle.sctp_generations.specs.declared.retirement.Retirement.{Retirement}
use Rattle.sctp_generations.specs.declared.retirement.Retirement.TheVariants as retirements
use Rattle.sctp_generations.specs.declared.skips.KeptSkip.{KeptSkip}
use Rattle.sctp_generations.specs.Generations.{GenerationsView, after_given_to, after_skips_given_to, discarded}
use Rattle.sctp_generations.specs.Generations.{drained, given_to, given_to_all, has_newest, has_skips, retired}
use Rattle.sctp_generations.specs.Generations.{retirement_of, skips_given_to, without_newest_of}
use Rattle.sctp_generations.specs.Retiring.{count_at}
use Rattle.sctp_generations.specs.Skips.{skip_ids}
use Rattle.sctp_reset_requests.specs.declared.answer.Standing.{Standing}
use Rattle.sctp_reset_requests.specs.declared.answer.Standing.TheVariants as standings
use Rattle.sctp_reset_requests.specs.declared.own_request.OwnRequest.{OwnRequest}
use Rattle.sctp_reset_requests.specs.declared.outcome.Answered.{Answered}
use Rattle.sctp_reset_requests.specs.declared.outcome.Answered.TheVariants as answers
use Rattle.sctp_reset_requests.specs.Debts as debts
use Rattle.sctp_reset_requests.specs.Debts.{DebtsView}
use Rattle.sctp_reset_requests.specs.Own as own
use Rattle.sctp_reset_requests.specs.Own.{OwnView}
use Rattle.sctp_reset_requests.specs.Peer as peer
use Rattle.sctp_reset_requests.specs.Peer.{PeerView, advanced_with, arrived_as, boundary_of, standing_of, taken_up}
use Rattle.sctp_reset_requests.specs.Request.{PeerRequestView, is_due, request_of}
use Rattle.sctp_resets.specs.Answers.{Answering, answering, complete_told, completed_one, completed_with}
use Rattle.sctp_resets.specs.Answers.{ended_or_restarted, is_read_half_closed}
use Rattle.sctp_resets.specs.Channels.{Channels, channels, delivered, given_unless, given_where, opened}
use Rattle.sctp_resets.specs.Channels.{is_write_half_closed, with_new_stream}
use Rattle.sctp_resets.specs.Draining.{Reading, ended, next_generation_read, passed_once, passed_times, passed_where}
use Rattle.sctp_resets.specs.Draining.{skipped_over, with_write_half, write_half_kept}
use Rattle.sctp_resets.specs.Performing.{Performing, answered_in, is_drained, named_in, named_live, performing}
use Rattle.sctp_resets.specs.Performing.{retired_as, retired_each, retired_next, retired_one, with_retired}
use Rattle.sctp_resets.specs.Resets.{Beside, ResetsView, Resetting, all_released, arrived_with, confirmed_by}
use Rattle.sctp_resets.specs.Resets.{confirmed_where, dropped, ended_as_answered, ended_unless, given_up}
use Rattle.sctp_resets.specs.Resets.{given_up_for_now, given_up_where, handled, handled_after, is_blocked}
use Rattle.sctp_resets.specs.Resets.{own_answered, performed, performed_with, read_out, request_over, reset_or_ended}
use Rattle.sctp_resets.specs.Resets.{responded, settled, settled_where}
use Rattle.sctp_resets.specs.Resets.{skips_done, skips_done_in, skips_done_of, stopped_reading, with_channels}
use Rattle.sctp_resets.specs.Resets.{with_generations}
use Rattle.sctp_resets.specs.Skips.{Skipping, end_of_skip, skip_tried, skips_applied, skips_applied_of}
use Rattle.sctp_resets.proofs.ListsOver.{of_chosen}
use Rattle.sctp_sides.proofs.AscendingSteps.{IsKept, pushed_in_kept}

-- What is so of the live streams.
module _ (P : StreamMap → Type 0) (law : IsKept P) where
  -- it is so of the streams of each of these

  abbrev InChannels : Channels → Type 0
  InChannels c = P c.streams

  abbrev InResetting : Resetting → Type 0
  InResetting s = P s.1.streams

  abbrev InBeside : Beside → Type 0
  InBeside b = P b.1

  abbrev InSkipping : Skipping → Type 0
  InSkipping g = P g.1

  abbrev InPerforming : Performing → Type 0
  InPerforming p = P p.streams

  abbrev InReading : Reading → Type 0
  InReading s = P s.1.streams

  -- DATA goes to its streams

  opened_holds : (first : ℕ) (c : Channels) (id : ℕ) → InChannels c → InChannels (opened first c id).0
  unfolding opened
  opened_holds first c id h = by (is_some (stream_at c.streams id)) (generation_left c.streams)
    where
      by : (live left : Bool)
          → InChannels
          (cond {A = Channels × Bool} live (c, true)
          (cond {A = Channels × Bool} (not left) (c, false) (with_new_stream first c id, true))).0
      by true left = h
      by false false = h
      by false true = law.make c.streams id first kinds.Unknown h

  given_holds : (limit : ℕ) (c : Channels) (there : Bool) (d : ChunkPayloadData) → InChannels c
      → InChannels (given_where limit (c, there) d)
  given_holds limit c false d h = h
  given_holds limit c true d h = by (refusal_in c.streams d.stream_identifier d limit)
    where
      by : (o : Option Error) → InChannels (given_unless o c d)
      by (Some fault) = h
      by None =
          let pushed = pushed_in_kept P law c.streams d.stream_identifier d h in
          of_chosen InChannels
          ((pushed_in c.streams d.stream_identifier d).1
          && is_readable_in (pushed_in c.streams d.stream_identifier d).0 d.stream_identifier) _ _ pushed pushed

  delivered_holds : (first limit : ℕ) (c : Channels) (d : ChunkPayloadData) → InChannels c
      → InChannels (delivered first limit c d)
  unfolding delivered
  delivered_holds first limit c d h =
      given_holds limit (opened first c d.stream_identifier).0 (opened first c d.stream_identifier).1 d
      (opened_holds first c d.stream_identifier h)

  all_delivered_hold : (first limit : ℕ) (ds : List ChunkPayloadData) (c : Channels) → InChannels c
      → InChannels (fold (delivered first limit) c ds)
  all_delivered_hold first limit [] c h = h
  all_delivered_hold first limit (d ∷ ds) c h =
      all_delivered_hold first limit ds (delivered first limit c d) (delivered_holds first limit c d h)

  -- Skips that were kept are applied

  tried_holds : (g : Skipping) (s : KeptSkip) → InSkipping g → InSkipping (skip_tried g s)
  tried_holds (g, m, told) s h = law.change (stream_skipped (end_of_skip s m)) (λ u. refl) m s.id h

  all_tried_hold : (ss : List KeptSkip) (g : Skipping) → InSkipping g → InSkipping (fold skip_tried g ss)
  all_tried_hold [] g h = h
  all_tried_hold (s ∷ ss) g h = all_tried_hold ss (skip_tried g s) (tried_holds g s h)

  applied_of_holds : (g : Skipping) (id : ℕ) → InSkipping g → InSkipping (skips_applied_of g id)
  applied_of_holds (g, m, told) id h =
      of_chosen InSkipping (has_skips g && is_some (stream_at m id)) _ (g, m, told)
      (all_tried_hold (skips_given_to g id) (after_skips_given_to g id, m, told) h) h

  each_applied_holds : (ids : List ℕ) (g : Skipping) → InSkipping g → InSkipping (fold skips_applied_of g ids)
  each_applied_holds [] g h = h
  each_applied_holds (id ∷ ids) g h = each_applied_holds ids (skips_applied_of g id) (applied_of_holds g id h)

  applied_holds : (g : Skipping) → InSkipping g → InSkipping (skips_applied g)
  applied_holds (g, m, told) h =
      of_chosen InSkipping (has_skips g) _ (g, m, told) (each_applied_holds (skip_ids g.skips) (g, m, told) h) h

  pub skips_done_of_holds : (id : ℕ) (r : ResetsView) (m : StreamMap) (told : List Event) → P m
      → P (skips_done_of id r m told).1
  skips_done_of_holds id r m told h = applied_of_holds (r.generations, m, told) id h

  pub skips_done_holds : (r : ResetsView) (m : StreamMap) (told : List Event) → P m → P (skips_done r m told).1
  skips_done_holds r m told h = applied_holds (r.generations, m, told) h

  -- A request of the peer is performed

  retired_as_holds : (r : Retirement) (p : Performing) (id : ℕ) → InPerforming p → InPerforming (retired_as r p id).0
  retired_as_holds retirements.Ended p id h = law.end_one p.streams id h
  retired_as_holds retirements.Retires p id h = h
  retired_as_holds retirements.Unchanged p id h = h

  retired_one_holds : (boundary : ℕ) (p : Performing) (id : ℕ) → InPerforming p
      → InPerforming (retired_one boundary p id).0
  unfolding retired_one
  retired_one_holds boundary p id h =
      retired_as_holds (retirement_of p.generations id boundary (is_drained p.streams id))
      (record p { generations = retired p.generations id boundary (is_drained p.streams id) }) id h

  with_retired_holds : (x : Performing × Bool) (ids : List ℕ) (id : ℕ) → InPerforming x.0
      → InPerforming (with_retired x ids id).0
  with_retired_holds (p, true) ids id h = h
  with_retired_holds (p, false) ids id h = h

  retired_next_holds : (boundary : ℕ) (x : Performing × List ℕ) (id : ℕ) → InPerforming x.0
      → InPerforming (retired_next boundary x id).0
  retired_next_holds boundary (p, ids) id h =
      with_retired_holds (retired_one boundary p id) ids id (retired_one_holds boundary p id h)

  all_retired_hold : (boundary : ℕ) (ids : List ℕ) (x : Performing × List ℕ) → InPerforming x.0
      → InPerforming (fold (retired_next boundary) x ids).0
  all_retired_hold boundary [] x h = h
  all_retired_hold boundary (id ∷ ids) x h =
      all_retired_hold boundary ids (retired_next boundary x id) (retired_next_holds boundary x id h)

  all_released_hold : (first limit : ℕ) (r : ResetsView) (c : Channels) → InChannels c
      → InResetting (all_released first limit r c)
  all_released_hold first limit r c h = all_delivered_hold first limit (given_to_all r.generations) c h

  -- the ends that a request brings are told, and no stream changes
  answered_holds : (o : OwnView) (named : List ℕ) (x : Performing × List ℕ) → InPerforming x.0
      → InPerforming (answered_in o named x).0
  answered_holds o named (p, ids) h = h

  performed_with_holds : (q : PeerRequestView) (first limit : ℕ) (r : ResetsView) (to_accept named : List ℕ)
      (p : Performing × List ℕ) → InPerforming p.0
      → InResetting (performed_with q first limit r to_accept named p).0
  performed_with_holds q first limit r to_accept named (p, ids) h =
      all_released_hold first limit (record r {
        own = own_answered q named ids r.own;
        debts = p.debts;
        generations = without_newest_of p.generations q.ids;
      }) (channels p.streams p.events to_accept) h

  performed_holds : (q : PeerRequestView) (first limit : ℕ) (r : ResetsView) (c : Channels) → InChannels c
      → InResetting (performed q first limit r c).0
  unfolding performed
  performed_holds q first limit r c h =
      let named = named_in r.own c.streams q in
      let x = retired_each q (performing r.generations r.debts c.streams c.events) in
      performed_with_holds q first limit r c.to_accept named (answered_in r.own named x)
      (answered_holds r.own named x
      (all_retired_hold q.last_tsn (named_live c.streams q)
      (performing r.generations r.debts c.streams c.events, []) h))

  pub settled_holds : (t first limit : ℕ) (r : ResetsView) (c : Channels) → P c.streams
      → P (settled t first limit r c).0.1.streams
  settled_holds t first limit r c h = by r.peer.in_progress
    where
      taken : (q : PeerRequestView) (due : Bool)
          → InResetting (settled_where (cond due (peer.completed q, Some q) (r.peer, None)) first limit r c).0
      taken q true = performed_holds q first limit (record r { peer = peer.completed q }) c h
      taken q false = h

      by : (o : Option PeerRequestView)
          → InResetting (settled_where (advanced_with o r.peer t) first limit r c).0
      by None = h
      by (Some q) = taken q (is_due q t)

  -- A request of this side ends

  completed_holds : (by_rfcs owed : Bool) (d : DebtsView) (a : Answering) (id : ℕ) → P a.streams
      → P (completed_with by_rfcs (d, owed) a id).streams
  completed_holds by_rfcs owed d a id h = by owed
    where
      changed : (b : Bool) → P (ended_or_restarted b (record a { debts = d }) id).streams
      changed b =
          of_chosen (λ (n : Answering). P n.streams) (b && is_read_half_closed a.streams id) _ _
          (law.end_one a.streams id h) (law.change with_restarted_ssn (λ u. refl) a.streams id h)

      by : (b : Bool)
          → P (complete_told b (ended_or_restarted (b && not by_rfcs) (record a { debts = d }) id) id).streams
      by true = changed (not by_rfcs)
      by false = changed false

  all_completed_hold : (by_rfcs : Bool) (ids : List ℕ) (a : Answering) → P a.streams
      → P (fold (completed_one by_rfcs) a ids).streams
  all_completed_hold by_rfcs [] a h = h
  all_completed_hold by_rfcs (id ∷ ids) a h =
      all_completed_hold by_rfcs ids (completed_one by_rfcs a id)
      (completed_holds by_rfcs (debts.settled a.debts id).1 (debts.settled a.debts id).0 a id h)

  over_holds : (outcome : Result (Unit {0}) StreamResetError) (q : OwnRequest) (r : ResetsView) (m : StreamMap)
      (told : List Event) → P m → InBeside (request_over outcome q r m told)
  over_holds (Ok done) q r m told h =
      all_completed_hold (is_rfc r.own.profile) q.ids (answering r.debts m told) h
  over_holds (Err reason) q r m told h = h

  as_answered_holds : (o : OwnView) (a : Answered) (r : ResetsView) (m : StreamMap) (told : List Event) → P m
      → InBeside (ended_as_answered (o, a) r m told).0
  as_answered_holds o answers.Ignored r m told h = h
  as_answered_holds o answers.InProgress r m told h = h
  as_answered_holds o (answers.Ended q outcome) r m told h =
      over_holds outcome q (record r { own = o }) m told h

  pub responded_holds : (response : ParamReconfigResponse) (r : ResetsView) (m : StreamMap) (told : List Event) → P m
      → P (responded response r m told).0.1
  responded_holds response r m told h =
      as_answered_holds (own.answered r.own response).0 (own.answered r.own response).1 r m told h

  pub given_up_holds : (r : ResetsView) (m : StreamMap) (told : List Event) → P m → P (given_up r m told).1
  given_up_holds r m told h =
      of_chosen InBeside (is_rfc r.own.profile) (given_up_for_now r m told)
      (given_up_where (own.ended r.own) r m told) h (by (own.ended r.own).1)
    where
      by : (q : Option OwnRequest) → InBeside (given_up_where ((own.ended r.own).0, q) r m told)
      by None = h
      by (Some q) = over_holds (Err reasons.Failed) q (record r { own = (own.ended r.own).0 }) m told h

  confirmed_where_holds : (o : OwnView) (q : Option OwnRequest) (r : ResetsView) (m : StreamMap) (told : List Event)
      → P m → InBeside (confirmed_where (o, q) r m told).0
  confirmed_where_holds o None r m told h = h
  confirmed_where_holds o (Some q) r m told h = over_holds (Ok tt) q (record r { own = o }) m told h

  -- A request of the peer comes

  skips_done_in_holds : (s : Resetting) → InResetting s → InResetting (skips_done_in s)
  skips_done_in_holds (r, c) h = skips_done_holds r c.streams c.events h

  module _ (confirms : Bool) (t first limit : ℕ) (r : ResetsView) (c : Channels) (h : P c.streams) where
    advanced_holds : (p : PeerView) (o : Option PeerRequestView)
        → InResetting (arrived_with confirms first limit (taken_up (advanced_with o p t)) r c).0
    advanced_holds p None = h
    advanced_holds p (Some q) = by (is_due q t)
      where
        by : (due : Bool)
            → InResetting
            (arrived_with confirms first limit (taken_up (cond due (peer.completed q, Some q) (p, None))) r c).0
        by true =
            skips_done_in_holds (performed q first limit (record r { peer = peer.completed q }) c).0
            (performed_holds q first limit (record r { peer = peer.completed q }) c h)
        by false = h

    arrived_holds : (q : PeerRequestView) (w : Standing)
        → InResetting (arrived_with confirms first limit (arrived_as w r.peer q t) r c).0
    arrived_holds q standings.Completed = h
    arrived_holds q standings.AnotherInProgress = h
    arrived_holds q standings.OutOfOrder = h
    arrived_holds q standings.InProgress = advanced_holds r.peer r.peer.in_progress
    arrived_holds q standings.Next = advanced_holds (record r.peer { in_progress = Some q }) (Some q)

  handled_after_holds : (param : ParamOutgoingResetRequest) (t first limit : ℕ) (confirms : Bool) (s : Resetting)
      → InResetting s → InResetting (handled_after param t first limit confirms s).0
  handled_after_holds param t first limit confirms (r, c) h =
      arrived_holds confirms t first limit r c h (request_of param) (standing_of r.peer (request_of param).number)

  pub handled_holds : (param : ParamOutgoingResetRequest) (t first limit : ℕ) (r : ResetsView) (c : Channels)
      → P c.streams → P (handled param t first limit r c).0.1.streams
  handled_holds param t first limit r c h =
      handled_after_holds param t first limit
      (confirmed_by param.reconfig_response_sequence_number r c.streams c.events).1
      (with_channels c (confirmed_by param.reconfig_response_sequence_number r c.streams c.events).0)
      (confirmed_where_holds (own.confirmed r.own param.reconfig_response_sequence_number).0
      (own.confirmed r.own param.reconfig_response_sequence_number).1 r c.streams c.events h)

  -- The application reads and stops

  module _ (first limit id : ℕ) (in_progress : Option ℕ) where
    write_half_holds : (closed : Bool) (m : StreamMap) → P m → P (with_write_half closed m id)
    write_half_holds true m h =
        law.change (λ s. with_setting s settings.WriteHalfClosed) (λ u. refl) m id h
    write_half_holds false m h = h

    skipped_over_holds : (s : Reading) → InReading s → InReading (skipped_over id s)
    skipped_over_holds (g, c) h = applied_of_holds (g, c.streams, c.events) id h

    next_holds : (g : GenerationsView) (c : Channels) → InReading (g, c)
        → InReading (next_generation_read first limit id in_progress (g, c))
    unfolding next_generation_read
    next_holds g c h =
        skipped_over_holds
        (after_given_to g id in_progress, write_half_kept (is_write_half_closed c.streams id) filled id)
        (write_half_holds (is_write_half_closed c.streams id) filled.streams
        (all_delivered_hold first limit (given_to g id in_progress) (ended c id) (law.end_one c.streams id h)))
      where
        filled : Channels
        filled = fold (delivered first limit) (ended c id) (given_to g id in_progress)

    passed_holds : (s : Reading) → InReading s → InReading (passed_once first limit id in_progress s).0
    passed_holds (g, c) h =
        by (drained g id (waiting_of c.streams id)).0 (drained g id (waiting_of c.streams id)).1
      where
        by : (d : GenerationsView) (is_over : Bool)
            → InReading (passed_where first limit id in_progress c (d, is_over)).0
        by d true = next_holds d c h
        by d false = h

    all_passed_hold : (n : ℕ) (s : Reading) → InReading s
        → InReading (passed_times n first limit id in_progress s)
    all_passed_hold zero s h = h
    all_passed_hold (suc n) s h =
        of_chosen InReading (passed_once first limit id in_progress s).1
        (passed_times n first limit id in_progress (passed_once first limit id in_progress s).0)
        (passed_once first limit id in_progress s).0
        (all_passed_hold n (passed_once first limit id in_progress s).0 (passed_holds s h)) (passed_holds s h)

  pub read_out_holds : (first limit id : ℕ) (r : ResetsView) (c : Channels) → P c.streams
      → P (read_out first limit id r c).1.streams
  read_out_holds first limit id r c h =
      all_passed_hold first limit id (boundary_of r.peer id) (count_at r.generations.retiring id) (r.generations, c) h

  -- the stream stays or ends, by the rules of the RFCs and by those of the port
  dropped_holds : (more : Bool) (r : ResetsView) (id : ℕ) (m : StreamMap) (told : List Event) → P m
      → InBeside (dropped more r id m told)
  dropped_holds more r id m told h =
      of_chosen InBeside (is_rfc r.own.profile) (reset_or_ended more r id m told)
      (ended_unless (is_blocked r id) r id m told) (by_rfcs more) (by_port (is_blocked r id))
    where
      by_rfcs : (resets : Bool) → InBeside (reset_or_ended resets r id m told)
      by_rfcs true = h
      by_rfcs false = law.end_one m id h

      by_port : (blocked : Bool) → InBeside (ended_unless blocked r id m told)
      by_port true = h
      by_port false = law.end_one m id h

  pub stopped_reading_holds : (id : ℕ) (r : ResetsView) (m : StreamMap) (told : List Event) → P m
      → P (stopped_reading id r m told).1
  stopped_reading_holds id r m told h =
      dropped_holds (has_newest r.generations id) (with_generations r (discarded r.generations id)) id
      (changed_stream without_unread m id) (filter (λ e. not (is_told_of id e)) told)
      (law.change without_unread (λ u. refl) m id h)
