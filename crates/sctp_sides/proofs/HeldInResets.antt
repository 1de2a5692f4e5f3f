-- What is so of each piece that waits to be read, on a live stream or for a generation that is not read yet, stays so
-- whatever happens to resets.
use Rattle.std.proofs.Common.{◌≡◌, refl, ℕ, zero, suc, ◌==◌, ◌&&◌, Bool, true, false, not, cond}
use Rattle.std.proofs.Common.{List, [], ◌∷◌, fold, filter, Option, Some, None, is_some, remove, slice_get}
use Rattle.std.proofs.Common.{Result, Ok, Err}
use Rattle.std.specs.List.{AllByRecursion}
use Rattle.sctp_wire_types.specs.Config.{is_rfc}
use Rattle.sctp_wire_types.specs.declared.chunk.ChunkPayloadData.{ChunkPayloadData}
use Rattle.sctp_wire_types.specs.declared.error.Error.{Error}
use Rattle.sctp_wire_types.specs.declared.event.StreamResetError.{StreamResetError}
use Rattle.sctp_wire_types.specs.declared.event.StreamResetError.TheVariants as reasons
use Rattle.sctp_wire_types.specs.declared.ids.PayloadProtocolIdentifier.TheVariants as kinds
use Rattle.sctp_wire_types.specs.declared.param.ParamOutgoingResetRequest.{ParamOutgoingResetRequest}
use Rattle.sctp_wire_types.specs.declared.param.ParamReconfigResponse.{ParamReconfigResponse}
use Rattle.sctp_streams.specs.declared.event.Event.{Event}
use Rattle.sctp_streams.specs.declared.setting.Setting.TheVariants as settings
use Rattle.sctp_streams.specs.Events.{is_told_of}
use Rattle.sctp_streams.specs.Stream.{stream_skipped, with_restarted_ssn, with_setting, without_unread}
use Rattle.sctp_streams.specs.Streams.{StreamMap, changed_stream, generation_left, is_readable_in, pushed_in}
use Rattle.sctp_streams.specs.Streams.{refusal_in, stream_at, waiting_of, without_stream}
use Rattle.sctp_generations.specs.declared.retirement.Retirement.{Retirement}
use Rattle.sctp_generations.specs.declared.retirement.Retirement.TheVariants as retirements
use Rattle.sctp_generations.specs.declared.skips.KeptSkip.{KeptSkip}
use Rattle.sctp_generations.specs.Deferred.{place_of}
use Rattle.sctp_generations.specs.Generations.{GenerationsView, after_given_to, after_skips_given_to, discarded}
use Rattle.sctp_generations.specs.Generations.{drained, given_to, given_to_all, has_newest, has_skips, retired_by}
use Rattle.sctp_generations.specs.Generations.{retirement_of, retires, skips_given_to, with_kept_skip}
use Rattle.sctp_generations.specs.Generations.{without_newest_of}
use Rattle.sctp_generations.specs.Retiring.{count_at}
use Rattle.sctp_generations.specs.Skips.{skip_ids}
use Rattle.sctp_reset_requests.specs.declared.answer.Standing.{Standing}
use Rattle.sctp_reset_requests.specs.declared.answer.Standing.TheVariants as standings
use Rattle.sctp_reset_requests.specs.declared.own_request.OwnRequest.{OwnRequest}
use Rattle.sctp_reset_requests.specs.declared.outcome.Answered.{Answered}
use Rattle.sctp_reset_requests.specs.declared.outcome.Answered.TheVariants as answers
use Rattle.sctp_reset_requests.specs.Debts as debts
use Rattle.sctp_reset_requests.specs.Debts.{DebtsView}
use Rattle.sctp_reset_requests.specs.Own as own
use Rattle.sctp_reset_requests.specs.Own.{OwnView}
use Rattle.sctp_reset_requests.specs.Peer as peer
use Rattle.sctp_reset_requests.specs.Peer.{PeerView, advanced_with, arrived_as, boundary_of, standing_of, taken_up}
use Rattle.sctp_reset_requests.specs.Request.{PeerRequestView, is_due, request_of}
use Rattle.sctp_resets.specs.Answers.{Answering, answering, complete_told, completed_one, completed_with}
use Rattle.sctp_resets.specs.Answers.{ended_or_restarted, is_read_half_closed}
use Rattle.sctp_resets.specs.Channels.{Channels, channels, delivered, given_unless, given_where, opened}
use Rattle.sctp_resets.specs.Channels.{is_write_half_closed, with_new_stream}
use Rattle.sctp_resets.specs.Draining.{Reading, ended, next_generation_read, passed_once, passed_times, passed_where}
use Rattle.sctp_resets.specs.Draining.{skipped_over, with_write_half, write_half_kept}
use Rattle.sctp_resets.specs.Performing.{Performing, answered_in, is_drained, named_in, named_live, performing}
use Rattle.sctp_resets.specs.Performing.{retired_as, retired_each, retired_next, retired_one, with_retired}
use Rattle.sctp_resets.specs.Resets.{Beside, ResetsView, Resetting, all_released, arrived_with, confirmed_by}
use Rattle.sctp_resets.specs.Resets.{confirmed_where, dropped, ended_as_answered, ended_unless, event_told}
use Rattle.sctp_resets.specs.Resets.{event_told_at, given_up, given_up_for_now, given_up_where, handled, handled_after}
use Rattle.sctp_resets.specs.Resets.{is_blocked, own_answered, performed, performed_with, read_out, request_over}
use Rattle.sctp_resets.specs.Resets.{reset_or_ended, responded, settled, settled_where}
use Rattle.sctp_resets.specs.Resets.{skips_done, skips_done_in, skips_done_of, stopped_reading, with_channels}
use Rattle.sctp_resets.specs.Resets.{with_deferred, with_event, with_generations, with_skip, without_unordered}
use Rattle.sctp_resets.specs.Skips.{Skipping, end_of_skip, reaches_its_ssn, skip_tried, skips_applied, skips_applied_of}
use Rattle.sctp_resets.specs.Telling.{next_told}
use Rattle.sctp_resets.proofs.ListsOver.{all_filtered, all_inserted, of_chosen}
use Rattle.sctp_sides.specs.Held.{IsHeldOnly, StreamsHoldOnly}
use Rattle.sctp_reset_fit.proofs.HeldPieces.{empty_holds, skipped_holds}
use Rattle.sctp_sides.proofs.HeldStreams.{changed_holds, made_holds, pushed_in_holds, without_stream_holds}

-- The pieces of which something is so.
module _ (P : ChunkPayloadData → Type 0) where
  -- it is so of each piece that is kept for a generation that is not read yet
  abbrev KeepsOnly : GenerationsView → Type 0
  KeepsOnly g = AllByRecursion P g.deferred

  -- and of each that a live stream holds
  abbrev ChannelsHoldOnly : Channels → Type 0
  ChannelsHoldOnly c = StreamsHoldOnly P c.streams

  abbrev IsResettingOnly : Resetting → Type 0
  IsResettingOnly s = IsHeldOnly P s.0 s.1.streams

  abbrev IsBesideOnly : Beside → Type 0
  IsBesideOnly b = IsHeldOnly P b.0 b.1

  -- DATA goes to its streams

  opened_holds : (first : ℕ) (c : Channels) (id : ℕ) → ChannelsHoldOnly c → ChannelsHoldOnly (opened first c id).0
  unfolding opened
  opened_holds first c id h = by (is_some (stream_at c.streams id)) (generation_left c.streams)
    where
      by : (live left : Bool)
          → ChannelsHoldOnly
          (cond {A = Channels × Bool} live (c, true)
          (cond {A = Channels × Bool} (not left) (c, false) (with_new_stream first c id, true))).0
      by true left = h
      by false false = h
      by false true = made_holds P c.streams id first kinds.Unknown h

  given_holds : (limit : ℕ) (c : Channels) (there : Bool) (d : ChunkPayloadData) → ChannelsHoldOnly c → P d
      → ChannelsHoldOnly (given_where limit (c, there) d)
  given_holds limit c false d h one = h
  given_holds limit c true d h one = by (refusal_in c.streams d.stream_identifier d limit) refl
    where
      by : (o : Option Error) → refusal_in c.streams d.stream_identifier d limit ≡ o
          → ChannelsHoldOnly (given_unless o c d)
      by (Some fault) refused = h
      by None accepted =
          let pushed = pushed_in_holds P c.streams d limit h one accepted in
          of_chosen ChannelsHoldOnly
          ((pushed_in c.streams d.stream_identifier d).1
          && is_readable_in (pushed_in c.streams d.stream_identifier d).0 d.stream_identifier) _ _ pushed pushed

  delivered_holds : (first limit : ℕ) (c : Channels) (d : ChunkPayloadData) → StreamsHoldOnly P c.streams → P d
      → StreamsHoldOnly P (delivered first limit c d).streams
  unfolding delivered
  delivered_holds first limit c d h one =
      given_holds limit (opened first c d.stream_identifier).0 (opened first c d.stream_identifier).1 d
      (opened_holds first c d.stream_identifier h) one

  all_delivered_hold : (first limit : ℕ) (ds : List ChunkPayloadData) (c : Channels)
      → StreamsHoldOnly P c.streams → AllByRecursion P ds
      → StreamsHoldOnly P (fold (delivered first limit) c ds).streams
  all_delivered_hold first limit [] c h each = h
  all_delivered_hold first limit (d ∷ ds) c h each =
      all_delivered_hold first limit ds (delivered first limit c d) (delivered_holds first limit c d h each.0) each.1

  -- Skips that were kept are applied

  -- what is kept of generations, and the live streams
  abbrev IsSkippingOnly : Skipping → Type 0
  IsSkippingOnly g = StreamsHoldOnly P g.1 × KeepsOnly g.0

  tried_holds : (g : Skipping) (s : KeptSkip) → IsSkippingOnly g → IsSkippingOnly (skip_tried g s)
  tried_holds (g, m, told) s h = (
    changed_holds P (stream_skipped (end_of_skip s m))
        (λ k t held. skipped_holds P k t.reassembly (end_of_skip s m) held) m s.id h.0,
    of_chosen KeepsOnly (reaches_its_ssn s m) g (with_kept_skip g s) h.1 h.1,
  )

  all_tried_hold : (ss : List KeptSkip) (g : Skipping) → IsSkippingOnly g → IsSkippingOnly (fold skip_tried g ss)
  all_tried_hold [] g h = h
  all_tried_hold (s ∷ ss) g h = all_tried_hold ss (skip_tried g s) (tried_holds g s h)

  applied_of_holds : (g : Skipping) (id : ℕ) → IsSkippingOnly g → IsSkippingOnly (skips_applied_of g id)
  applied_of_holds (g, m, told) id h =
      of_chosen IsSkippingOnly (has_skips g && is_some (stream_at m id)) _ (g, m, told)
      (all_tried_hold (skips_given_to g id) (after_skips_given_to g id, m, told) h) h

  each_applied_holds : (ids : List ℕ) (g : Skipping) → IsSkippingOnly g
      → IsSkippingOnly (fold skips_applied_of g ids)
  each_applied_holds [] g h = h
  each_applied_holds (id ∷ ids) g h = each_applied_holds ids (skips_applied_of g id) (applied_of_holds g id h)

  applied_holds : (g : Skipping) → IsSkippingOnly g → IsSkippingOnly (skips_applied g)
  applied_holds (g, m, told) h =
      of_chosen IsSkippingOnly (has_skips g) _ (g, m, told)
      (each_applied_holds (skip_ids g.skips) (g, m, told) h) h

  pub skips_done_holds : (r : ResetsView) (m : StreamMap) (told : List Event) → IsHeldOnly P r m
      → IsHeldOnly P (skips_done r m told).0 (skips_done r m told).1
  skips_done_holds r m told h =
      let a = applied_holds (r.generations, m, told) (h.streams, h.kept) in record { streams = a.0; kept = a.1 }

  pub skips_done_of_holds : (id : ℕ) (r : ResetsView) (m : StreamMap) (told : List Event) → IsHeldOnly P r m
      → IsHeldOnly P (skips_done_of id r m told).0 (skips_done_of id r m told).1
  skips_done_of_holds id r m told h =
      let a = applied_of_holds (r.generations, m, told) id (h.streams, h.kept) in record { streams = a.0; kept = a.1 }

  -- A request of the peer is performed

  -- what is kept of generations, and the live streams
  abbrev IsPerformingOnly : Performing → Type 0
  IsPerformingOnly p = StreamsHoldOnly P p.streams × KeepsOnly p.generations

  retired_one_holds : (boundary : ℕ) (p : Performing) (id : ℕ) → IsPerformingOnly p
      → IsPerformingOnly (retired_one boundary p id).0
  unfolding retired_one
  retired_one_holds boundary p id h = by (retirement_of p.generations id boundary (is_drained p.streams id))
    where
      by : (w : Retirement)
          → IsPerformingOnly (retired_as w (record p { generations = retired_by w p.generations id boundary }) id).0
      by retirements.Ended = (without_stream_holds P p.streams id h.0, h.1)
      by retirements.Retires = h
      by retirements.Unchanged = h

  listed_holds : (p : Performing) (made : Bool) (ids : List ℕ) (id : ℕ) → IsPerformingOnly p
      → IsPerformingOnly (with_retired (p, made) ids id).0
  listed_holds p true ids id h = h
  listed_holds p false ids id h = h

  all_retired_hold : (boundary : ℕ) (ids : List ℕ) (p : Performing × List ℕ) → IsPerformingOnly p.0
      → IsPerformingOnly (fold (retired_next boundary) p ids).0
  all_retired_hold boundary [] p h = h
  all_retired_hold boundary (id ∷ ids) p h =
      all_retired_hold boundary ids (retired_next boundary p id)
      (listed_holds (retired_one boundary p.0 id).0 (retired_one boundary p.0 id).1 p.1 id
      (retired_one_holds boundary p.0 id h))

  all_released_hold : (first limit : ℕ) (r : ResetsView) (c : Channels) → IsHeldOnly P r c.streams
      → IsResettingOnly (all_released first limit r c)
  all_released_hold first limit r c h = record {
    streams =
        all_delivered_hold first limit (given_to_all r.generations) c h.streams
        (all_filtered P _ r.generations.deferred h.kept);
    kept = all_filtered P _ r.generations.deferred h.kept;
  }

  -- the ends that a request brings are told, and nothing that waits to be read changes
  answered_holds : (o : OwnView) (named : List ℕ) (x : Performing × List ℕ) → IsPerformingOnly x.0
      → IsPerformingOnly (answered_in o named x).0
  answered_holds o named (p, ids) h = h

  performed_with_holds : (q : PeerRequestView) (first limit : ℕ) (r : ResetsView) (to_accept named : List ℕ)
      (p : Performing × List ℕ) → IsPerformingOnly p.0
      → IsResettingOnly (performed_with q first limit r to_accept named p).0
  performed_with_holds q first limit r to_accept named (p, ids) h =
      all_released_hold first limit (record r {
        own = own_answered q named ids r.own;
        debts = p.debts;
        generations = without_newest_of p.generations q.ids;
      }) (channels p.streams p.events to_accept) (record { streams = h.0; kept = h.1 })

  performed_holds : (q : PeerRequestView) (first limit : ℕ) (r : ResetsView) (c : Channels)
      → IsHeldOnly P r c.streams → IsResettingOnly (performed q first limit r c).0
  unfolding performed
  performed_holds q first limit r c h =
      let named = named_in r.own c.streams q in
      let x = retired_each q (performing r.generations r.debts c.streams c.events) in
      performed_with_holds q first limit r c.to_accept named (answered_in r.own named x)
      (answered_holds r.own named x
      (all_retired_hold q.last_tsn (named_live c.streams q)
      (performing r.generations r.debts c.streams c.events, []) (h.streams, h.kept)))

  with_peer_holds : (r : ResetsView) (p : PeerView) (m : StreamMap) → IsHeldOnly P r m
      → IsHeldOnly P (record r { peer = p }) m
  with_peer_holds r p m h = record { streams = h.streams; kept = h.kept }

  pub settled_holds : (t first limit : ℕ) (r : ResetsView) (c : Channels) → IsHeldOnly P r c.streams
      → IsHeldOnly P (settled t first limit r c).0.0 (settled t first limit r c).0.1.streams
  settled_holds t first limit r c h = by r.peer.in_progress
    where
      taken : (q : PeerRequestView) (due : Bool)
          → IsResettingOnly (settled_where (cond due (peer.completed q, Some q) (r.peer, None)) first limit r c).0
      taken q true =
          performed_holds q first limit (record r { peer = peer.completed q }) c
          (with_peer_holds r (peer.completed q) c.streams h)
      taken q false = with_peer_holds r r.peer c.streams h

      by : (o : Option PeerRequestView)
          → IsResettingOnly (settled_where (advanced_with o r.peer t) first limit r c).0
      by None = with_peer_holds r r.peer c.streams h
      by (Some q) = taken q (is_due q t)

  -- A request of this side ends

  completed_holds : (by_rfcs owed : Bool) (d : DebtsView) (a : Answering) (id : ℕ) → StreamsHoldOnly P a.streams
      → StreamsHoldOnly P (completed_with by_rfcs (d, owed) a id).streams
  completed_holds by_rfcs owed d a id h = by owed
    where
      changed : (b : Bool) → StreamsHoldOnly P (ended_or_restarted b (record a { debts = d }) id).streams
      changed b =
          of_chosen (λ (n : Answering). StreamsHoldOnly P n.streams) (b && is_read_half_closed a.streams id) _ _
          (without_stream_holds P a.streams id h)
          (changed_holds P with_restarted_ssn (λ k s held. held) a.streams id h)

      by : (b : Bool)
          → StreamsHoldOnly P
          (complete_told b (ended_or_restarted (b && not by_rfcs) (record a { debts = d }) id) id).streams
      by true = changed (not by_rfcs)
      by false = changed false

  all_completed_hold : (by_rfcs : Bool) (ids : List ℕ) (a : Answering) → StreamsHoldOnly P a.streams
      → StreamsHoldOnly P (fold (completed_one by_rfcs) a ids).streams
  all_completed_hold by_rfcs [] a h = h
  all_completed_hold by_rfcs (id ∷ ids) a h =
      all_completed_hold by_rfcs ids (completed_one by_rfcs a id)
      (completed_holds by_rfcs (debts.settled a.debts id).1 (debts.settled a.debts id).0 a id h)

  over_holds : (outcome : Result (Unit {0}) StreamResetError) (q : OwnRequest) (r : ResetsView) (m : StreamMap)
      (told : List Event) → IsHeldOnly P r m → IsBesideOnly (request_over outcome q r m told)
  over_holds (Ok done) q r m told h = record {
    streams = all_completed_hold (is_rfc r.own.profile) q.ids (answering r.debts m told) h.streams;
    kept = h.kept;
  }
  over_holds (Err reason) q r m told h = record { streams = h.streams; kept = h.kept }

  with_own_holds : (r : ResetsView) (o : OwnView) (m : StreamMap) → IsHeldOnly P r m
      → IsHeldOnly P (record r { own = o }) m
  with_own_holds r o m h = record { streams = h.streams; kept = h.kept }

  as_answered_holds : (o : OwnView) (a : Answered) (r : ResetsView) (m : StreamMap) (told : List Event)
      → IsHeldOnly P r m → IsBesideOnly (ended_as_answered (o, a) r m told).0
  as_answered_holds o answers.Ignored r m told h = with_own_holds r o m h
  as_answered_holds o answers.InProgress r m told h = with_own_holds r o m h
  as_answered_holds o (answers.Ended q outcome) r m told h =
      over_holds outcome q (record r { own = o }) m told (with_own_holds r o m h)

  pub responded_holds : (response : ParamReconfigResponse) (r : ResetsView) (m : StreamMap) (told : List Event)
      → IsHeldOnly P r m → IsHeldOnly P (responded response r m told).0.0 (responded response r m told).0.1
  responded_holds response r m told h =
      as_answered_holds (own.answered r.own response).0 (own.answered r.own response).1 r m told h

  pub given_up_holds : (r : ResetsView) (m : StreamMap) (told : List Event) → IsHeldOnly P r m
      → IsHeldOnly P (given_up r m told).0 (given_up r m told).1
  given_up_holds r m told h =
      of_chosen IsBesideOnly (is_rfc r.own.profile) (given_up_for_now r m told)
      (given_up_where (own.ended r.own) r m told) (with_own_holds r (own.marked_given_up r.own) m h)
      (by (own.ended r.own).1)
    where
      by : (q : Option OwnRequest) → IsBesideOnly (given_up_where ((own.ended r.own).0, q) r m told)
      by None = with_own_holds r (own.ended r.own).0 m h
      by (Some q) =
          over_holds (Err reasons.Failed) q (record r { own = (own.ended r.own).0 }) m told
          (with_own_holds r (own.ended r.own).0 m h)

  confirmed_where_holds : (o : OwnView) (q : Option OwnRequest) (r : ResetsView) (m : StreamMap) (told : List Event)
      → IsHeldOnly P r m → IsBesideOnly (confirmed_where (o, q) r m told).0
  confirmed_where_holds o None r m told h = with_own_holds r o m h
  confirmed_where_holds o (Some q) r m told h =
      over_holds (Ok tt) q (record r { own = o }) m told (with_own_holds r o m h)

  -- A request of the peer comes

  skips_done_in_holds : (s : Resetting) → IsResettingOnly s → IsResettingOnly (skips_done_in s)
  skips_done_in_holds (r, c) h = skips_done_holds r c.streams c.events h

  module _ (confirms : Bool) (t first limit : ℕ) (r : ResetsView) (c : Channels) (h : IsHeldOnly P r c.streams) where
    advanced_holds : (p : PeerView) (o : Option PeerRequestView)
        → IsResettingOnly (arrived_with confirms first limit (taken_up (advanced_with o p t)) r c).0
    advanced_holds p None = with_peer_holds r p c.streams h
    advanced_holds p (Some q) = by (is_due q t)
      where
        by : (due : Bool)
            → IsResettingOnly
            (arrived_with confirms first limit (taken_up (cond due (peer.completed q, Some q) (p, None))) r c).0
        by true =
            skips_done_in_holds (performed q first limit (record r { peer = peer.completed q }) c).0
            (performed_holds q first limit (record r { peer = peer.completed q }) c
            (with_peer_holds r (peer.completed q) c.streams h))
        by false = with_peer_holds r p c.streams h

    arrived_holds : (q : PeerRequestView) (w : Standing)
        → IsResettingOnly (arrived_with confirms first limit (arrived_as w r.peer q t) r c).0
    arrived_holds q standings.Completed = with_peer_holds r r.peer c.streams h
    arrived_holds q standings.AnotherInProgress = with_peer_holds r r.peer c.streams h
    arrived_holds q standings.OutOfOrder = with_peer_holds r r.peer c.streams h
    arrived_holds q standings.InProgress = advanced_holds r.peer r.peer.in_progress
    arrived_holds q standings.Next = advanced_holds (record r.peer { in_progress = Some q }) (Some q)

  handled_after_holds : (param : ParamOutgoingResetRequest) (t first limit : ℕ) (confirms : Bool) (s : Resetting)
      → IsResettingOnly s → IsResettingOnly (handled_after param t first limit confirms s).0
  handled_after_holds param t first limit confirms (r, c) h =
      arrived_holds confirms t first limit r c h (request_of param) (standing_of r.peer (request_of param).number)

  pub handled_holds : (param : ParamOutgoingResetRequest) (t first limit : ℕ) (r : ResetsView) (c : Channels)
      → IsHeldOnly P r c.streams
      → IsHeldOnly P (handled param t first limit r c).0.0 (handled param t first limit r c).0.1.streams
  handled_holds param t first limit r c h =
      handled_after_holds param t first limit
      (confirmed_by param.reconfig_response_sequence_number r c.streams c.events).1
      (with_channels c (confirmed_by param.reconfig_response_sequence_number r c.streams c.events).0)
      (confirmed_where_holds (own.confirmed r.own param.reconfig_response_sequence_number).0
      (own.confirmed r.own param.reconfig_response_sequence_number).1 r c.streams c.events h)

  -- The application reads, stops and asks for events

  -- what is kept of generations, and the live streams
  abbrev IsReadingOnly : Reading → Type 0
  IsReadingOnly s = ChannelsHoldOnly s.1 × KeepsOnly s.0

  module _ (first limit id : ℕ) (in_progress : Option ℕ) where
    write_half_holds : (closed : Bool) (m : StreamMap) → StreamsHoldOnly P m
        → StreamsHoldOnly P (with_write_half closed m id)
    write_half_holds true m h =
        changed_holds P (λ s. with_setting s settings.WriteHalfClosed) (λ k s held. held) m id h
    write_half_holds false m h = h

    skipped_over_holds : (s : Reading) → IsReadingOnly s → IsReadingOnly (skipped_over id s)
    skipped_over_holds (g, c) h = applied_of_holds (g, c.streams, c.events) id h

    next_holds : (g : GenerationsView) (c : Channels) → IsReadingOnly (g, c)
        → IsReadingOnly (next_generation_read first limit id in_progress (g, c))
    unfolding next_generation_read
    next_holds g c h =
        skipped_over_holds
        (after_given_to g id in_progress, write_half_kept (is_write_half_closed c.streams id) filled id) (
          write_half_holds (is_write_half_closed c.streams id) filled.streams
              (all_delivered_hold first limit (given_to g id in_progress) (ended c id)
              (without_stream_holds P c.streams id h.0) (all_filtered P _ g.deferred h.1)),
          all_filtered P _ g.deferred h.1,
        )
      where
        filled : Channels
        filled = fold (delivered first limit) (ended c id) (given_to g id in_progress)

    passed_holds : (s : Reading) → IsReadingOnly s → IsReadingOnly (passed_once first limit id in_progress s).0
    passed_holds (g, c) h =
        by (drained g id (waiting_of c.streams id)).0 (drained g id (waiting_of c.streams id)).1
        (of_chosen (λ (d : GenerationsView × Bool). KeepsOnly d.0) (retires g id && (waiting_of c.streams id == 0)) _
        (g, false) h.1 h.1)
      where
        by : (d : GenerationsView) (is_over : Bool) → KeepsOnly d
            → IsReadingOnly (passed_where first limit id in_progress c (d, is_over)).0
        by d true left = next_holds d c (h.0, left)
        by d false left = (h.0, left)

    all_passed_hold : (n : ℕ) (s : Reading) → IsReadingOnly s
        → IsReadingOnly (passed_times n first limit id in_progress s)
    all_passed_hold zero s h = h
    all_passed_hold (suc n) s h =
        of_chosen IsReadingOnly (passed_once first limit id in_progress s).1
        (passed_times n first limit id in_progress (passed_once first limit id in_progress s).0)
        (passed_once first limit id in_progress s).0
        (all_passed_hold n (passed_once first limit id in_progress s).0 (passed_holds s h)) (passed_holds s h)

  pub read_out_holds : (first limit id : ℕ) (r : ResetsView) (c : Channels) → IsHeldOnly P r c.streams
      → IsHeldOnly P (read_out first limit id r c).0 (read_out first limit id r c).1.streams
  read_out_holds first limit id r c h =
      let a = all_passed_hold first limit id (boundary_of r.peer id) (count_at r.generations.retiring id)
      (r.generations, c) (h.streams, h.kept) in
      record { streams = a.0; kept = a.1 }

  -- the stream stays or ends, by the rules of the RFCs and by those of the port
  dropped_holds : (more : Bool) (r : ResetsView) (id : ℕ) (m : StreamMap) (told : List Event) → IsHeldOnly P r m
      → IsBesideOnly (dropped more r id m told)
  dropped_holds more r id m told h =
      of_chosen IsBesideOnly (is_rfc r.own.profile) (reset_or_ended more r id m told)
      (ended_unless (is_blocked r id) r id m told) (by_rfcs more) (by_port (is_blocked r id))
    where
      without_it : IsHeldOnly P r (without_stream m id)
      without_it = record { streams = without_stream_holds P m id h.streams; kept = h.kept }

      by_rfcs : (resets : Bool) → IsBesideOnly (reset_or_ended resets r id m told)
      by_rfcs true = with_own_holds r (own.with_waiting r.own id) m h
      by_rfcs false = without_it

      by_port : (blocked : Bool) → IsBesideOnly (ended_unless blocked r id m told)
      by_port true = h
      by_port false = without_it

  pub stopped_reading_holds : (id : ℕ) (r : ResetsView) (m : StreamMap) (told : List Event) → IsHeldOnly P r m
      → IsHeldOnly P (stopped_reading id r m told).0 (stopped_reading id r m told).1
  stopped_reading_holds id r m told h =
      dropped_holds (has_newest r.generations id) (with_generations r (discarded r.generations id)) id
      (changed_stream without_unread m id) (filter (λ e. not (is_told_of id e)) told)
      (record { streams = emptied; kept = kept_left })
    where
      emptied : StreamsHoldOnly P (changed_stream without_unread m id)
      emptied = changed_holds P without_unread (λ k s held. empty_holds P k) m id h.streams

      kept_left : KeepsOnly (discarded r.generations id)
      kept_left = all_filtered P _ r.generations.deferred h.kept

  pub event_told_holds : (r : ResetsView) (m : StreamMap) (told : List Event) → IsHeldOnly P r m
      → IsHeldOnly P (event_told r told).0 m
  event_told_holds r m told h = by (next_told r.generations r.debts told)
    where
      given : (o : Option Event) (rest : List Event) → IsHeldOnly P (with_event o r rest).0 m
      given None rest = h
      given (Some e) rest = record { streams = h.streams; kept = h.kept }

      by : (o : Option ℕ) → IsHeldOnly P (event_told_at o r told).0 m
      by None = h
      by (Some index) = given (slice_get told index) (remove told index)

  -- The streams stay as they are

  pub with_deferred_holds : (r : ResetsView) (m : StreamMap) (d : ChunkPayloadData) → IsHeldOnly P r m → P d
      → IsHeldOnly P (with_deferred r d) m
  with_deferred_holds r m d h one = record {
    streams = h.streams;
    kept = all_inserted P r.generations.deferred (place_of d.tsn r.generations.deferred) d h.kept one;
  }

  pub with_skip_holds : (r : ResetsView) (m : StreamMap) (id ssn tsn : ℕ) → IsHeldOnly P r m
      → IsHeldOnly P (with_skip r id ssn tsn) m
  with_skip_holds r m id ssn tsn h = record {
    streams = h.streams;
    kept = all_filtered P _ r.generations.deferred h.kept;
  }

  pub without_unordered_holds : (r : ResetsView) (m : StreamMap) (tsn : ℕ) → IsHeldOnly P r m
      → IsHeldOnly P (without_unordered r tsn) m
  without_unordered_holds r m tsn h = record {
    streams = h.streams;
    kept = all_filtered P _ r.generations.deferred h.kept;
  }
