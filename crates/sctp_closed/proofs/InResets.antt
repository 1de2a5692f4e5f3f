-- What the rules keep stays so where requests to reset streams come and end, which concern some streams alone.
use Rattle.std.proofs.Common.{◌≡◌, ℕ, ◌&&◌, ◌||◌, Bool, true, false, not, cond, List, [], ◌∷◌, ◌++◌, fold, Option, Some}
use Rattle.std.proofs.Common.{None, is_some, Result, Ok, Err}
use Rattle.sctp_wire_types.specs.Config.{is_rfc}
use Rattle.sctp_wire_types.specs.declared.event.StreamEvent.TheVariants.{Finished, ResetComplete, ResetFailed}
use Rattle.sctp_wire_types.specs.declared.event.StreamResetError.{StreamResetError}
use Rattle.sctp_wire_types.specs.declared.event.StreamResetError.TheVariants as reasons
use Rattle.sctp_wire_types.specs.declared.param.ParamOutgoingResetRequest.{ParamOutgoingResetRequest}
use Rattle.sctp_wire_types.specs.declared.param.ParamReconfigResponse.{ParamReconfigResponse}
use Rattle.sctp_streams.specs.declared.event.Event.{Event}
use Rattle.sctp_streams.specs.declared.event.Event.TheVariants as events
use Rattle.sctp_streams.specs.Stream.{with_restarted_ssn}
use Rattle.sctp_streams.specs.Streams.{StreamMap, stream_at, without_stream}
use Rattle.sctp_generations.specs.declared.retirement.Retirement.{Retirement}
use Rattle.sctp_generations.specs.declared.retirement.Retirement.TheVariants as retirements
use Rattle.sctp_generations.specs.Generations.{given_to_all, retired, retirement_of, without_newest_of}
use Rattle.sctp_reset_requests.specs.declared.answer.Standing.{Standing}
use Rattle.sctp_reset_requests.specs.declared.answer.Standing.TheVariants as standings
use Rattle.sctp_reset_requests.specs.declared.own_request.OwnRequest.{OwnRequest}
use Rattle.sctp_reset_requests.specs.declared.outcome.Answered.{Answered}
use Rattle.sctp_reset_requests.specs.declared.outcome.Answered.TheVariants as answers
use Rattle.sctp_reset_requests.specs.Debts as debts
use Rattle.sctp_reset_requests.specs.Debts.{DebtsView}
use Rattle.sctp_reset_requests.specs.Own as own
use Rattle.sctp_reset_requests.specs.Own.{OwnView, ends_here}
use Rattle.sctp_reset_requests.specs.Peer as peer
use Rattle.sctp_reset_requests.specs.Peer.{PeerView, advanced_with, arrived_as, standing_of, taken_up}
use Rattle.sctp_reset_requests.specs.Request.{PeerRequestView, is_due, request_of}
use Rattle.sctp_resets.specs.Answers.{Answering, answering, complete_told, completed_one, completed_with}
use Rattle.sctp_resets.specs.Answers.{ended_or_restarted, failed_each, failed_one, failure_told, failures_told}
use Rattle.sctp_resets.specs.Answers.{is_read_half_closed}
use Rattle.sctp_resets.specs.Channels.{Channels, channels, final_told}
use Rattle.sctp_resets.specs.Performing.{Performing, answered_in, each_end_told, end_told, is_drained, named_in}
use Rattle.sctp_resets.specs.Performing.{named_live, paid_told, performing, retired_as, retired_each, retired_next}
use Rattle.sctp_resets.specs.Performing.{retired_one, with_retired}
use Rattle.sctp_resets.specs.Resets.{Beside, ResetsView, Resetting, all_released, arrived_with, confirmed_by}
use Rattle.sctp_resets.specs.Resets.{confirmed_where, ended_as_answered, given_up, given_up_for_now, given_up_where}
use Rattle.sctp_resets.specs.Resets.{handled, handled_after, own_answered, performed, performed_with, request_over}
use Rattle.sctp_resets.specs.Resets.{responded, settled, settled_where, skips_done_in, with_channels}
use Rattle.sctp_resets.specs.Within.{AreOver, InProgressOver, NamesOver, ParamOver, ResetsOver}
use Rattle.sctp_resets.proofs.ListsOver.{of_chosen}
use Rattle.sctp_ended.proofs.Carried.{restarted_is_mild}
use Rattle.sctp_closed.proofs.Rules.{IsUnended, ended_keeps}
use Rattle.sctp_closed.proofs.InDelivery.{all_delivered_hold, skips_done_holds}
use Rattle.sctp_closed.proofs.Named.{AnsweredOver, EndedOver, answered_over, confirmed_ends, failing_over}
use Rattle.sctp_closed.proofs.Named.{named_in_over, named_live_over, request_names_over, sent_ends_over}

-- What the rules keep, of an association that was lost or was not.
module _ (over : ℕ → Bool) (P : Bool → StreamMap → List Event → Type 0) (law : IsUnended over P) (lost : Bool) where
  -- it is so of the streams and events of each of these

  abbrev InChannels : Channels → Type 0
  InChannels c = P lost c.streams c.events

  abbrev InResetting : Resetting → Type 0
  InResetting s = P lost s.1.streams s.1.events

  abbrev InBeside : Beside → Type 0
  InBeside b = P lost b.1 b.2

  abbrev InPerforming : Performing → Type 0
  InPerforming p = P lost p.streams p.events

  abbrev InAnswering : Answering → Type 0
  InAnswering a = P lost a.streams a.events

  -- the last counters of a stream are told, and it ends
  ended_holds : (m : StreamMap) (es : List Event) (id : ℕ) → over id ≡ true → P lost m es
      → P lost (without_stream m id) (final_told m id es)
  ended_holds m es id one h = ended_keeps over P law lost m es id one h

  -- A request of the peer is performed

  retired_as_holds : (w : Retirement) (p : Performing) (id : ℕ) → over id ≡ true → InPerforming p
      → InPerforming (retired_as w p id).0
  retired_as_holds retirements.Ended p id one h =
      law.says lost (without_stream p.streams id) (final_told p.streams id p.events)
      (events.Stream (Finished id) ∷ []) (one, tt) (ended_holds p.streams p.events id one h)
  retired_as_holds retirements.Retires p id one h =
      law.says lost p.streams p.events (events.Stream (Finished id) ∷ []) (one, tt) h
  retired_as_holds retirements.Unchanged p id one h = h

  retired_one_holds : (boundary : ℕ) (p : Performing) (id : ℕ) → over id ≡ true → InPerforming p
      → InPerforming (retired_one boundary p id).0
  unfolding retired_one
  retired_one_holds boundary p id one h =
      retired_as_holds (retirement_of p.generations id boundary (is_drained p.streams id))
      (record p { generations = retired p.generations id boundary (is_drained p.streams id) }) id one h

  with_retired_holds : (x : Performing × Bool) (ids : List ℕ) (id : ℕ) → InPerforming x.0
      → InPerforming (with_retired x ids id).0
  with_retired_holds (p, true) ids id h = h
  with_retired_holds (p, false) ids id h = h

  retired_next_holds : (boundary : ℕ) (x : Performing × List ℕ) (id : ℕ) → over id ≡ true → InPerforming x.0
      → InPerforming (retired_next boundary x id).0
  retired_next_holds boundary (p, ids) id one h =
      with_retired_holds (retired_one boundary p id) ids id (retired_one_holds boundary p id one h)

  all_retired_hold : (boundary : ℕ) (ids : List ℕ) (x : Performing × List ℕ) → AreOver over ids → InPerforming x.0
      → InPerforming (fold (retired_next boundary) x ids).0
  all_retired_hold boundary [] x each h = h
  all_retired_hold boundary (id ∷ ids) x each h =
      all_retired_hold boundary ids (retired_next boundary x id) each.1
      (retired_next_holds boundary x id each.0 h)

  all_released_hold : (first limit : ℕ) (r : ResetsView) (c : Channels) → InChannels c
      → InResetting (all_released first limit r c)
  all_released_hold first limit r c h = all_delivered_hold over P law lost first limit (given_to_all r.generations) c h

  -- the ends that it brings

  paid_holds : (m : StreamMap) (x : DebtsView × Bool) (es : List Event) (id : ℕ) → over id ≡ true → P lost m es
      → P lost m (paid_told x es id).1
  paid_holds m (d, true) es id one h = law.says lost m es (events.Stream (ResetComplete id) ∷ []) (one, tt) h
  paid_holds m (d, false) es id one h = h

  end_holds : (m : StreamMap) (o : OwnView) (t : DebtsView × List Event) (id : ℕ) → over id ≡ true → P lost m t.1
      → P lost m (end_told o t id).1
  end_holds m o (d, es) id one h =
      of_chosen (λ (t : DebtsView × List Event). P lost m t.1) (ends_here o id)
      (paid_told (debts.paid d id, debts.is_owed d id) es id) (d, es)
      (paid_holds m (debts.paid d id, debts.is_owed d id) es id one h) h

  each_end_holds : (m : StreamMap) (o : OwnView) (named : List ℕ) (t : DebtsView × List Event) → AreOver over named
      → P lost m t.1 → P lost m (each_end_told o named t).1
  each_end_holds m o [] t each h = h
  each_end_holds m o (id ∷ ids) t each h =
      each_end_holds m o ids (end_told o t id) each.1 (end_holds m o t id each.0 h)

  answered_holds : (o : OwnView) (named : List ℕ) (x : Performing × List ℕ) → AreOver over named → InPerforming x.0
      → InPerforming (answered_in o named x).0
  answered_holds o named (p, ids) each h = each_end_holds p.streams o named (p.debts, p.events) each h

  performed_with_holds : (q : PeerRequestView) (first limit : ℕ) (r : ResetsView) (to_accept named : List ℕ)
      (p : Performing × List ℕ) → InPerforming p.0
      → InResetting (performed_with q first limit r to_accept named p).0
  performed_with_holds q first limit r to_accept named (p, ids) h =
      all_released_hold first limit (record r {
        own = own_answered q named ids r.own;
        debts = p.debts;
        generations = without_newest_of p.generations q.ids;
      }) (channels p.streams p.events to_accept) h

  performed_holds : (q : PeerRequestView) (first limit : ℕ) (r : ResetsView) (c : Channels) → NamesOver over q.ids
      → InChannels c → InResetting (performed q first limit r c).0
  unfolding performed
  performed_holds q first limit r c n h =
      let named = named_in r.own c.streams q in
      let x = retired_each q (performing r.generations r.debts c.streams c.events) in
      performed_with_holds q first limit r c.to_accept named (answered_in r.own named x)
      (answered_holds r.own named x (named_in_over over r.own c.streams q n)
      (all_retired_hold q.last_tsn (named_live c.streams q)
      (performing r.generations r.debts c.streams c.events, []) (named_live_over over c.streams q n) h))

  pub settled_holds : (t first limit : ℕ) (r : ResetsView) (c : Channels) → ResetsOver over r → InChannels c
      → InResetting (settled t first limit r c).0
  settled_holds t first limit r c past h = by r.peer.in_progress past.in_progress
    where
      taken : (q : PeerRequestView) (due : Bool) → NamesOver over q.ids
          → InResetting (settled_where (cond due (peer.completed q, Some q) (r.peer, None)) first limit r c).0
      taken q true n = performed_holds q first limit (record r { peer = peer.completed q }) c n h
      taken q false n = h

      by : (o : Option PeerRequestView) → InProgressOver over o
          → InResetting (settled_where (advanced_with o r.peer t) first limit r c).0
      by None n = h
      by (Some q) n = taken q (is_due q t) n

  -- A request of this side ends

  completed_holds : (by_rfcs owed : Bool) (d : DebtsView) (a : Answering) (id : ℕ) → over id ≡ true → InAnswering a
      → InAnswering (completed_with by_rfcs (d, owed) a id)
  completed_holds by_rfcs owed d a id one h = by owed
    where
      after : Bool → Answering
      after ends = ended_or_restarted ends (record a { debts = d }) id

      changed : (ends : Bool) → InAnswering (ended_or_restarted ends (record a { debts = d }) id)
      changed ends =
          of_chosen InAnswering (ends && is_read_half_closed a.streams id) _ _
          (ended_holds a.streams a.events id one h)
          (law.changes lost a.streams a.events with_restarted_ssn id restarted_is_mild h)

      by : (b : Bool)
          → InAnswering (complete_told b (ended_or_restarted (b && not by_rfcs) (record a { debts = d }) id) id)
      by true =
          law.says lost (after (not by_rfcs)).streams (after (not by_rfcs)).events
          (events.Stream (ResetComplete id) ∷ []) (one, tt) (changed (not by_rfcs))
      by false = changed false

  all_completed_hold : (by_rfcs : Bool) (ids : List ℕ) (a : Answering) → AreOver over ids → InAnswering a
      → InAnswering (fold (completed_one by_rfcs) a ids)
  all_completed_hold by_rfcs [] a each h = h
  all_completed_hold by_rfcs (id ∷ ids) a each h =
      all_completed_hold by_rfcs ids (completed_one by_rfcs a id) each.1
      (completed_holds by_rfcs (debts.settled a.debts id).1 (debts.settled a.debts id).0 a id each.0 h)

  failed_holds : (m : StreamMap) (reason : StreamResetError) (t : DebtsView × List Event) (id : ℕ) → over id ≡ true
      → P lost m t.1 → P lost m (failed_one reason t id).1
  failed_holds m reason (d, es) id one h =
      law.says lost m es (events.Stream (ResetFailed id reason) ∷ []) (one, tt) h

  all_failed_hold : (m : StreamMap) (reason : StreamResetError) (ids : List ℕ) (t : DebtsView × List Event)
      → AreOver over ids → P lost m t.1 → P lost m (failed_each reason ids t).1
  all_failed_hold m reason [] t each h = h
  all_failed_hold m reason (id ∷ ids) t each h =
      all_failed_hold m reason ids (failed_one reason t id) each.1 (failed_holds m reason t id each.0 h)

  over_holds : (outcome : Result (Unit {0}) StreamResetError) (q : OwnRequest) (r : ResetsView) (m : StreamMap)
      (told : List Event) → AreOver over q.ids → P lost m told → InBeside (request_over outcome q r m told)
  over_holds (Ok done) q r m told each h =
      all_completed_hold (is_rfc r.own.profile) q.ids (answering r.debts m told) each h
  over_holds (Err reason) q r m told each h = all_failed_hold m reason q.ids (r.debts, told) each h

  as_answered_holds : (o : OwnView) (a : Answered) (r : ResetsView) (m : StreamMap) (told : List Event)
      → AnsweredOver over a → P lost m told → InBeside (ended_as_answered (o, a) r m told).0
  as_answered_holds o answers.Ignored r m told each h = h
  as_answered_holds o answers.InProgress r m told each h = h
  as_answered_holds o (answers.Ended q outcome) r m told each h =
      over_holds outcome q (record r { own = o }) m told each h

  pub responded_holds : (response : ParamReconfigResponse) (r : ResetsView) (m : StreamMap) (told : List Event)
      → ResetsOver over r → P lost m told → InBeside (responded response r m told).0
  responded_holds response r m told past h =
      as_answered_holds (own.answered r.own response).0 (own.answered r.own response).1 r m told
      (answered_over over r.own response past.own) h

  -- one that is given up and goes on

  failure_holds : (d : DebtsView) (m : StreamMap) (es : List Event) (id : ℕ) → over id ≡ true → P lost m es
      → P lost m (failure_told d m es id)
  failure_holds d m es id one h =
      of_chosen (λ (told : List Event). P lost m told) (is_some (stream_at m id) || debts.is_owed d id)
      (es ++ events.Stream (ResetFailed id reasons.Failed) ∷ []) es
      (law.says lost m es (events.Stream (ResetFailed id reasons.Failed) ∷ []) (one, tt) h) h

  failures_hold : (d : DebtsView) (m : StreamMap) (ids : List ℕ) (es : List Event) → AreOver over ids → P lost m es
      → P lost m (failures_told d m ids es)
  failures_hold d m [] es each h = h
  failures_hold d m (id ∷ ids) es each h =
      failures_hold d m ids (failure_told d m es id) each.1 (failure_holds d m es id each.0 h)

  pub given_up_holds : (r : ResetsView) (m : StreamMap) (told : List Event) → ResetsOver over r → P lost m told
      → InBeside (given_up r m told)
  given_up_holds r m told past h =
      of_chosen InBeside (is_rfc r.own.profile) (given_up_for_now r m told)
      (given_up_where (own.ended r.own) r m told)
      (failures_hold r.debts m (own.failing_ids r.own.active) told (failing_over over r.own.active past.own.active) h)
      (by (own.ended r.own).1 (sent_ends_over over r.own.active past.own.active))
    where
      by : (q : Option OwnRequest) → EndedOver over q
          → InBeside (given_up_where ((own.ended r.own).0, q) r m told)
      by None each = h
      by (Some q) each = over_holds (Err reasons.Failed) q (record r { own = (own.ended r.own).0 }) m told each h

  confirmed_where_holds : (o : OwnView) (q : Option OwnRequest) (r : ResetsView) (m : StreamMap) (told : List Event)
      → EndedOver over q → P lost m told → InBeside (confirmed_where (o, q) r m told).0
  confirmed_where_holds o None r m told each h = h
  confirmed_where_holds o (Some q) r m told each h = over_holds (Ok tt) q (record r { own = o }) m told each h

  -- it leaves the requests of the peer
  confirmed_leaves : (o : OwnView) (q : Option OwnRequest) (r : ResetsView) (m : StreamMap) (told : List Event)
      → InProgressOver over r.peer.in_progress
      → InProgressOver over (confirmed_where (o, q) r m told).0.0.peer.in_progress
  confirmed_leaves o None r m told named = named
  confirmed_leaves o (Some q) r m told named = named

  -- A request of the peer comes

  skips_done_in_holds : (s : Resetting) → InResetting s → InResetting (skips_done_in s)
  skips_done_in_holds (r, c) h = skips_done_holds over P law lost r c.streams c.events h

  module _ (confirms : Bool) (t first limit : ℕ) (r : ResetsView) (c : Channels) (h : P lost c.streams c.events) where
    advanced_holds : (p : PeerView) (o : Option PeerRequestView) → InProgressOver over o
        → InResetting (arrived_with confirms first limit (taken_up (advanced_with o p t)) r c).0
    advanced_holds p None n = h
    advanced_holds p (Some q) n = by (is_due q t)
      where
        by : (due : Bool)
            → InResetting
            (arrived_with confirms first limit (taken_up (cond due (peer.completed q, Some q) (p, None))) r c).0
        by true =
            skips_done_in_holds (performed q first limit (record r { peer = peer.completed q }) c).0
            (performed_holds q first limit (record r { peer = peer.completed q }) c n h)
        by false = h

    arrived_holds : (q : PeerRequestView) (w : Standing) → InProgressOver over r.peer.in_progress
        → NamesOver over q.ids → InResetting (arrived_with confirms first limit (arrived_as w r.peer q t) r c).0
    arrived_holds q standings.Completed waits n = h
    arrived_holds q standings.AnotherInProgress waits n = h
    arrived_holds q standings.OutOfOrder waits n = h
    arrived_holds q standings.InProgress waits n = advanced_holds r.peer r.peer.in_progress waits
    arrived_holds q standings.Next waits n = advanced_holds (record r.peer { in_progress = Some q }) (Some q) n

  handled_after_holds : (param : ParamOutgoingResetRequest) (t first limit : ℕ) (confirms : Bool) (s : Resetting)
      → ParamOver over param → InProgressOver over s.0.peer.in_progress → InResetting s
      → InResetting (handled_after param t first limit confirms s).0
  handled_after_holds param t first limit confirms (r, c) n waits h =
      arrived_holds confirms t first limit r c h (request_of param) (standing_of r.peer (request_of param).number) waits
      (request_names_over over param n)

  pub handled_holds : (param : ParamOutgoingResetRequest) (t first limit : ℕ) (r : ResetsView) (c : Channels)
      → ParamOver over param → ResetsOver over r → InChannels c
      → InResetting (handled param t first limit r c).0
  handled_holds param t first limit r c n past h =
      let number = param.reconfig_response_sequence_number in
      let ended_one = own.confirmed r.own number in
      handled_after_holds param t first limit (confirmed_by number r c.streams c.events).1
      (with_channels c (confirmed_by number r c.streams c.events).0) n
      (confirmed_leaves ended_one.0 ended_one.1 r c.streams c.events past.in_progress)
      (confirmed_where_holds ended_one.0 ended_one.1 r c.streams c.events (confirmed_ends over r.own number past.own) h)
