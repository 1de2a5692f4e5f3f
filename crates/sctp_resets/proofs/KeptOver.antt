-- Whatever happens to resets, they concern only streams past their span.
use Rattle.std.proofs.Common.{◌≡◌, refl, sym, ℕ, zero, suc, ◌||◌, Bool, true, false, not, cond}
use Rattle.std.proofs.Common.{List, [], ◌∷◌, fold, filter, Option, Some, None, is_some, remove, slice_get}
use Rattle.std.proofs.lemmas.Bool.{false≢true}
use Rattle.sctp_wire_types.specs.Config.{is_rfc}
use Rattle.sctp_wire_types.specs.declared.chunk.ChunkPayloadData.{ChunkPayloadData}
use Rattle.sctp_wire_types.specs.declared.config.Profile.{Profile}
use Rattle.sctp_wire_types.specs.declared.param.ParamOutgoingResetRequest.{ParamOutgoingResetRequest}
use Rattle.sctp_wire_types.specs.declared.param.ParamReconfigResponse.{ParamReconfigResponse}
use Rattle.sctp_outbound_queue.specs.Outbound.{Outbound}
use Rattle.sctp_streams.specs.declared.event.Event.{Event}
use Rattle.sctp_streams.specs.Events.{is_told_of}
use Rattle.sctp_streams.specs.Stream.{without_unread}
use Rattle.sctp_streams.specs.Streams.{StreamMap, changed_stream, live_ids, stream_at, waiting_of}
use Rattle.sctp_generations.specs.declared.retirement.Retirement.{Retirement}
use Rattle.sctp_generations.specs.declared.retirement.Retirement.TheVariants as retirements
use Rattle.sctp_generations.specs.Deferred.{is_above}
use Rattle.sctp_generations.specs.Generations.{GenerationsView, after_given_to, discarded, drained, given_to}
use Rattle.sctp_generations.specs.Generations.{has_newest, retired_by, retirement_of, retires, without_newest_of}
use Rattle.sctp_generations.specs.Retiring.{count_at}
use Rattle.sctp_reset_requests.specs.declared.answer.Standing.{Standing}
use Rattle.sctp_reset_requests.specs.declared.answer.Standing.TheVariants as standings
use Rattle.sctp_reset_requests.specs.declared.own_request.OwnRequest.{OwnRequest}
use Rattle.sctp_reset_requests.specs.declared.outcome.Answered.{Answered}
use Rattle.sctp_reset_requests.specs.declared.outcome.Answered.TheVariants as answers
use Rattle.sctp_reset_requests.specs.Debts.{DebtsView}
use Rattle.sctp_reset_requests.specs.Own as own
use Rattle.sctp_reset_requests.specs.Own.{OwnView}
use Rattle.sctp_reset_requests.specs.Peer as peer
use Rattle.sctp_reset_requests.specs.Peer.{PeerView, advanced_with, arrived_as, boundary_for, boundary_of, standing_of}
use Rattle.sctp_reset_requests.specs.Peer.{taken_up}
use Rattle.sctp_reset_requests.specs.Request.{PeerRequestView, is_due, names, names_all, request_of}
use Rattle.sctp_resets.specs.Channels.{Channels, delivered, is_write_half_closed}
use Rattle.sctp_resets.specs.Concerned.{active_ids, deferred_ids, ids_of_request, in_reset, named_in_progress}
use Rattle.sctp_resets.specs.Concerned.{retiring_ids, skipped_ids}
use Rattle.sctp_resets.specs.Draining.{Reading, ended, next_generation_read, passed_once, passed_times, passed_where}
use Rattle.sctp_resets.specs.Draining.{skipped_over, write_half_kept}
use Rattle.sctp_resets.specs.Performing.{Performing, answered_in, is_drained, named_in, named_live, performing}
use Rattle.sctp_resets.specs.Performing.{retired_as, retired_each, retired_next, retired_one, with_retired}
use Rattle.sctp_resets.specs.Resets.{Beside, ResetsView, Resetting, all_closed, arrived_with, confirmed_by}
use Rattle.sctp_resets.specs.Resets.{confirmed_where, ended_as_answered, ended_unless, event_told, event_told_at}
use Rattle.sctp_resets.specs.Resets.{given_up, given_up_for_now, given_up_where, handled, handled_after, is_blocked}
use Rattle.sctp_resets.specs.Resets.{is_hidden, is_retiring, met_peer, no_resets, own_answered, performed}
use Rattle.sctp_resets.specs.Resets.{performed_with, read_out, request_again, request_asked, request_sent}
use Rattle.sctp_resets.specs.Resets.{reset_or_ended, responded, settled, settled_where, skips_done, skips_done_in}
use Rattle.sctp_resets.specs.Resets.{skips_done_of, stopped_reading, timer_expired, waiting_for, with_channels}
use Rattle.sctp_resets.specs.Resets.{with_deferred, with_event, with_generations, with_skip, without_unordered}
use Rattle.sctp_resets.specs.Telling.{next_told}
use Rattle.sctp_resets.specs.Within.{AreOver, InProgressOver, NamesOver, OwnOver, ParamOver, ParamOverIf, ResetsOver}
use Rattle.sctp_resets.proofs.EndsTold.{each_to_reset}
use Rattle.sctp_resets.proofs.GenerationsOver.{EachOver, all_given_each, applied_each, applied_of_each, discarded_each}
use Rattle.sctp_resets.proofs.GenerationsOver.{drained_each, each_of_kept, given_to_each, kept_of_each, newest_over}
use Rattle.sctp_resets.proofs.GenerationsOver.{one_more_deferred, retired_each_over, retires_over, skipped_each}
use Rattle.sctp_resets.proofs.GenerationsOver.{unordered_skipped_each, without_newest_each}
use Rattle.sctp_resets.proofs.ListsOver.{IsPast, all_appended, all_filtered, of_chosen}
use Rattle.sctp_resets.proofs.OwnOver.{answered_over, confirmed_over, named_is_over, not_for_all, own_asked_over}
use Rattle.sctp_resets.proofs.OwnOver.{own_expired_over, own_given_up_over, own_marked_over, own_performed_over}
use Rattle.sctp_resets.proofs.OwnOver.{own_waiting_over, reciprocated_over, repeated_over, sent_first_over}
use Rattle.sctp_resets.proofs.OwnOver.{sent_ids_over, set_over}

-- The streams that are past their span.
module _ (over : ℕ → Bool) where
  -- One part of the resets becomes another one

  with_own_over : (r : ResetsView) (o : OwnView) → OwnOver over o → ResetsOver over r
      → ResetsOver over (record r { own = o })
  with_own_over r o w h = record { own = w; in_progress = h.in_progress; kept = h.kept }

  with_peer_over : (r : ResetsView) (p : PeerView) → InProgressOver over p.in_progress → ResetsOver over r
      → ResetsOver over (record r { peer = p })
  with_peer_over r p i h = record { own = h.own; in_progress = i; kept = h.kept }

  with_debts_over : (r : ResetsView) (d : DebtsView) → ResetsOver over r → ResetsOver over (record r { debts = d })
  with_debts_over r d h = record { own = h.own; in_progress = h.in_progress; kept = h.kept }

  with_generations_over : (r : ResetsView) (g : GenerationsView) → EachOver over g → ResetsOver over r
      → ResetsOver over (with_generations r g)
  with_generations_over r g e h = record {
    own = h.own;
    in_progress = h.in_progress;
    kept = kept_of_each over g e;
  }

  each_of : (r : ResetsView) → ResetsOver over r → EachOver over r.generations
  each_of r h = each_of_kept over r.generations h.kept

  -- The simple changes

  pub nothing_over : (profile : Profile) (first_number : ℕ) → ResetsOver over (no_resets profile first_number)
  nothing_over profile first_number = record {
    own = record { waiting = tt; queued = tt; active = tt };
    in_progress = tt;
    kept = record { retiring = tt; deferred = tt; skipped = tt };
  }

  pub met_over : (r : ResetsView) (initial_tsn : ℕ) → ResetsOver over r → ResetsOver over (met_peer r initial_tsn)
  met_over r initial_tsn h = record { own = h.own; in_progress = h.in_progress; kept = h.kept }

  pub closed_over : (r : ResetsView) → ResetsOver over r → ResetsOver over (all_closed r)
  closed_over r h = record {
    own = record { waiting = tt; queued = tt; active = tt };
    in_progress = tt;
    kept = record { retiring = tt; deferred = tt; skipped = tt };
  }

  pub expired_over : (r : ResetsView) → ResetsOver over r → ResetsOver over (timer_expired r)
  expired_over r h = with_own_over r (own.expired r.own) (own_expired_over over r.own h.own) h

  pub waiting_over : (r : ResetsView) (id : ℕ) → over id ≡ true → ResetsOver over r
      → ResetsOver over (waiting_for r id)
  waiting_over r id one h = with_own_over r (own.with_waiting r.own id) (own_waiting_over over r.own id one h.own) h

  pub deferred_over : (r : ResetsView) (d : ChunkPayloadData) → over d.stream_identifier ≡ true → ResetsOver over r
      → ResetsOver over (with_deferred r d)
  deferred_over r d one h = with_generations_over r _ (one_more_deferred over r.generations d one (each_of r h)) h

  pub skip_over : (r : ResetsView) (id ssn tsn : ℕ) → over id ≡ true → ResetsOver over r
      → ResetsOver over (with_skip r id ssn tsn)
  skip_over r id ssn tsn one h =
      with_generations_over r _ (skipped_each over r.generations id ssn tsn (boundary_of r.peer id) one (each_of r h)) h

  pub unordered_over : (r : ResetsView) (tsn : ℕ) → ResetsOver over r → ResetsOver over (without_unordered r tsn)
  unordered_over r tsn h =
      with_generations_over r _ (unordered_skipped_each over r.generations tsn (each_of r h)) h

  pub skips_done_over : (r : ResetsView) (m : StreamMap) (told : List Event) → ResetsOver over r
      → ResetsOver over (skips_done r m told).0
  skips_done_over r m told h =
      with_generations_over r _ (applied_each over (r.generations, m, told) (each_of r h)) h

  pub skips_done_of_over : (id : ℕ) (r : ResetsView) (m : StreamMap) (told : List Event) → ResetsOver over r
      → ResetsOver over (skips_done_of id r m told).0
  skips_done_of_over id r m told h =
      with_generations_over r _ (applied_of_each over id (r.generations, m, told) (each_of r h)) h

  -- Which streams are concerned

  pub retiring_is_over : (r : ResetsView) (id : ℕ) → ResetsOver over r → is_retiring r id ≡ true → over id ≡ true
  retiring_is_over r id h is = retires_over over r.generations id (each_of r h) is

  -- a stream of which a request in progress bounds the DATA
  bounded_over : (o : Option PeerRequestView) (id tsn : ℕ) → InProgressOver over o
      → is_above (boundary_for o id) tsn ≡ true → over id ≡ true
  bounded_over None id tsn i is = absurd (false≢true is)
  bounded_over (Some q) id tsn i is = by (names q id) refl is
    where
      by : (named : Bool) → names q id ≡ named → is_above (cond named (Some q.last_tsn) None) tsn ≡ true
          → over id ≡ true
      by true e above = named_is_over over q id i e
      by false e above = absurd (false≢true above)

  pub hidden_is_over : (r : ResetsView) (id tsn : ℕ) → ResetsOver over r → is_hidden r id tsn ≡ true → over id ≡ true
  hidden_is_over r id tsn h is = by (retires r.generations id) refl is
    where
      by : (b : Bool) → retires r.generations id ≡ b → (b || is_above (boundary_of r.peer id) tsn) ≡ true
          → over id ≡ true
      by true e hidden = retires_over over r.generations id (each_of r h) e
      by false e hidden = bounded_over r.peer.in_progress id tsn h.in_progress hidden

  named_live_over : (m : StreamMap) (q : PeerRequestView) → NamesOver over q.ids → AreOver over (named_live m q)
  named_live_over m q n = by (names_all q) (not_for_all over q n)
    where
      by : (all : Bool) → all ≡ false
          → AreOver over (cond all (live_ids m) (filter (λ id. is_some (stream_at m id)) q.ids))
      by true none = absurd (false≢true (sym none))
      by false none = all_filtered (IsPast over) (λ id. is_some (stream_at m id)) q.ids n.each

  -- the streams that a request resets by the rules of the RFCs
  named_in_over : (o : OwnView) (m : StreamMap) (q : PeerRequestView) → NamesOver over q.ids
      → AreOver over (named_in o m q)
  named_in_over o m q n = by (is_rfc o.profile) (names_all q) (not_for_all over q n)
    where
      by : (by_rfcs all : Bool) → all ≡ false → AreOver over (cond by_rfcs (cond all (live_ids m) q.ids) [])
      by true true none = absurd (false≢true (sym none))
      by true false none = n.each
      by false all none = tt

  in_progress_over : (m : StreamMap) (o : Option PeerRequestView) → InProgressOver over o
      → AreOver over (named_in_progress m o)
  in_progress_over m None i = tt
  in_progress_over m (Some q) i = named_live_over m q i

  pub concerned_over : (r : ResetsView) (m : StreamMap) → ResetsOver over r → AreOver over (in_reset r m)
  concerned_over r m h =
      all_appended (IsPast over) (named_in_progress m r.peer.in_progress) _
      (in_progress_over m r.peer.in_progress h.in_progress)
      (all_appended (IsPast over) (retiring_ids r.generations) _ h.kept.retiring
      (all_appended (IsPast over) (deferred_ids r.generations) (skipped_ids r.generations) h.kept.deferred
      h.kept.skipped))

  pub active_over : (r : ResetsView) → ResetsOver over r → AreOver over (active_ids r)
  active_over r h = sent_ids_over over r.own.active h.own.active

  -- a request of the peer names a set of what it lists
  request_names_over : (p : ParamOutgoingResetRequest) → ParamOver over p → NamesOver over (request_of p).ids
  request_names_over p n = set_over over p.stream_identifiers n

  pub request_ids_over : (p : ParamOutgoingResetRequest) (r : ResetsView) (m : StreamMap) → ResetsOver over r
      → ParamOver over p → AreOver over (ids_of_request p r m)
  request_ids_over p r m h n =
      all_appended (IsPast over) (active_ids r) _ (active_over r h)
      (all_appended (IsPast over) (named_live m (request_of p)) (in_reset r m)
      (named_live_over m (request_of p) (request_names_over p n)) (concerned_over r m h))

  -- A request of the peer is performed

  -- what is kept of generations, and the streams that were retired
  abbrev PerformingOver : Performing × List ℕ → Type 0
  PerformingOver p = EachOver over p.0.generations × AreOver over p.1

  retired_one_over : (boundary : ℕ) (p : Performing) (id : ℕ) → over id ≡ true → EachOver over p.generations
      → EachOver over (retired_one boundary p id).0.generations
  unfolding retired_one
  retired_one_over boundary p id one e = by (retirement_of p.generations id boundary (is_drained p.streams id))
    where
      by : (w : Retirement)
          → EachOver over
          (retired_as w (record p { generations = retired_by w p.generations id boundary }) id).0.generations
      by retirements.Ended = retired_each_over over retirements.Ended p.generations id boundary one e
      by retirements.Retires = retired_each_over over retirements.Retires p.generations id boundary one e
      by retirements.Unchanged = retired_each_over over retirements.Unchanged p.generations id boundary one e

  listed_over : (p : Performing) (made : Bool) (ids : List ℕ) (id : ℕ) → over id ≡ true → EachOver over p.generations
      → AreOver over ids → PerformingOver (with_retired (p, made) ids id)
  listed_over p true ids id one e each = (e, all_appended (IsPast over) ids (id ∷ []) each (one, tt))
  listed_over p false ids id one e each = (e, each)

  all_retired_over : (boundary : ℕ) (ids : List ℕ) (p : Performing × List ℕ) → AreOver over ids → PerformingOver p
      → PerformingOver (fold (retired_next boundary) p ids)
  all_retired_over boundary [] p each h = h
  all_retired_over boundary (id ∷ ids) p each h =
      all_retired_over boundary ids (retired_next boundary p id) each.1
      (listed_over (retired_one boundary p.0 id).0 (retired_one boundary p.0 id).1 p.1 id each.0
      (retired_one_over boundary p.0 id each.0 h.0) h.1)

  -- the ends that a request brings are told, and this side resets streams in answer
  answered_in_over : (o : OwnView) (named : List ℕ) (p : Performing × List ℕ) → AreOver over named → PerformingOver p
      → PerformingOver (answered_in o named p)
  answered_in_over o named (p, retired) each e = (e.0, each_to_reset (IsPast over) o named retired each e.1)

  own_answered_over : (q : PeerRequestView) (named ids : List ℕ) (o : OwnView) → NamesOver over q.ids
      → AreOver over ids → OwnOver over o → OwnOver over (own_answered q named ids o)
  own_answered_over q named ids o n each w =
      own_performed_over over (own.reciprocated o q ids) named (reciprocated_over over o q ids n each w)

  performed_with_over : (q : PeerRequestView) (first limit : ℕ) (r : ResetsView) (to_accept named : List ℕ)
      (p : Performing × List ℕ) → NamesOver over q.ids → PerformingOver p → ResetsOver over r
      → ResetsOver over (performed_with q first limit r to_accept named p).0.0
  performed_with_over q first limit r to_accept named (p, ids) n e h = record {
    own = own_answered_over q named ids r.own n e.1 h.own;
    in_progress = h.in_progress;
    kept =
        kept_of_each over _
        (all_given_each over (without_newest_of p.generations q.ids)
        (without_newest_each over p.generations q.ids e.0));
  }

  performed_over : (q : PeerRequestView) (first limit : ℕ) (r : ResetsView) (c : Channels) → NamesOver over q.ids
      → ResetsOver over r → ResetsOver over (performed q first limit r c).0.0
  unfolding performed
  performed_over q first limit r c n h =
      let named = named_in r.own c.streams q in
      let retired = retired_each q (performing r.generations r.debts c.streams c.events) in
      performed_with_over q first limit r c.to_accept named (answered_in r.own named retired) n
      (answered_in_over r.own named retired (named_in_over r.own c.streams q n)
      (all_retired_over q.last_tsn (named_live c.streams q)
      (performing r.generations r.debts c.streams c.events, []) (named_live_over c.streams q n) (each_of r h, tt))) h

  pub settled_over : (cumulative_tsn first limit : ℕ) (r : ResetsView) (c : Channels) → ResetsOver over r
      → ResetsOver over (settled cumulative_tsn first limit r c).0.0
  settled_over cumulative_tsn first limit r c h = by r.peer.in_progress h.in_progress
    where
      taken : (q : PeerRequestView) (due : Bool) → NamesOver over q.ids
          → ResetsOver over
          (settled_where (cond due (peer.completed q, Some q) (r.peer, None)) first limit r c).0.0
      taken q true named =
          performed_over q first limit (record r { peer = peer.completed q }) c named
          (with_peer_over r (peer.completed q) tt h)
      taken q false named = with_peer_over r r.peer h.in_progress h

      by : (o : Option PeerRequestView) → InProgressOver over o
          → ResetsOver over (settled_where (advanced_with o r.peer cumulative_tsn) first limit r c).0.0
      by None i = with_peer_over r r.peer h.in_progress h
      by (Some q) i = taken q (is_due q cumulative_tsn) i

  -- A request of this side ends

  confirmed_where_over : (o : OwnView) (q : Option OwnRequest) (r : ResetsView) (m : StreamMap) (told : List Event)
      → OwnOver over o → ResetsOver over r → ResetsOver over (confirmed_where (o, q) r m told).0.0
  confirmed_where_over o None r m told w h = with_own_over r o w h
  confirmed_where_over o (Some q) r m told w h = with_debts_over (record r { own = o }) _ (with_own_over r o w h)

  -- a request of the peer confirms the active one of this side, or does not
  confirmed_by_over : (number : ℕ) (r : ResetsView) (m : StreamMap) (told : List Event) → ResetsOver over r
      → ResetsOver over (confirmed_by number r m told).0.0
  confirmed_by_over number r m told h =
      confirmed_where_over (own.confirmed r.own number).0 (own.confirmed r.own number).1 r m told
      (confirmed_over over r.own number h.own) h

  as_answered_over : (o : OwnView) (a : Answered) (r : ResetsView) (m : StreamMap) (told : List Event)
      → OwnOver over o → ResetsOver over r → ResetsOver over (ended_as_answered (o, a) r m told).0.0
  as_answered_over o answers.Ignored r m told w h = with_own_over r o w h
  as_answered_over o answers.InProgress r m told w h = with_own_over r o w h
  as_answered_over o (answers.Ended q outcome) r m told w h =
      with_debts_over (record r { own = o }) _ (with_own_over r o w h)

  pub responded_over : (response : ParamReconfigResponse) (r : ResetsView) (m : StreamMap) (told : List Event)
      → ResetsOver over r → ResetsOver over (responded response r m told).0.0
  responded_over response r m told h =
      as_answered_over (own.answered r.own response).0 (own.answered r.own response).1 r m told
      (answered_over over r.own response h.own) h

  pub given_up_over : (r : ResetsView) (m : StreamMap) (told : List Event) → ResetsOver over r
      → ResetsOver over (given_up r m told).0
  given_up_over r m told h =
      of_chosen (λ (b : Beside). ResetsOver over b.0) (is_rfc r.own.profile) (given_up_for_now r m told)
      (given_up_where (own.ended r.own) r m told)
      (with_own_over r (own.marked_given_up r.own) (own_marked_over over r.own h.own) h) (by (own.ended r.own).1)
    where
      w : OwnOver over (own.ended r.own).0
      w = own_given_up_over over r.own h.own

      by : (q : Option OwnRequest) → ResetsOver over (given_up_where ((own.ended r.own).0, q) r m told).0
      by None = with_own_over r (own.ended r.own).0 w h
      by (Some q) =
          with_debts_over (record r { own = (own.ended r.own).0 }) _ (with_own_over r (own.ended r.own).0 w h)

  -- A request of the peer comes

  skips_done_in_over : (s : Resetting) → ResetsOver over s.0 → ResetsOver over (skips_done_in s).0
  skips_done_in_over (r, c) h = skips_done_over r c.streams c.events h

  module _ (confirms : Bool) (cumulative_tsn first limit : ℕ) (r : ResetsView) (c : Channels)
      (h : ResetsOver over r) where
    advanced_over : (p : PeerView) (o : Option PeerRequestView) → InProgressOver over o
        → InProgressOver over p.in_progress
        → ResetsOver over
        (arrived_with confirms first limit (taken_up (advanced_with o p cumulative_tsn)) r c).0.0
    advanced_over p None named i = with_peer_over r p i h
    advanced_over p (Some q) named i = by (is_due q cumulative_tsn)
      where
        by : (due : Bool)
            → ResetsOver over
            (arrived_with confirms first limit (taken_up (cond due (peer.completed q, Some q) (p, None))) r c).0.0
        by true =
            skips_done_in_over (performed q first limit (record r { peer = peer.completed q }) c).0
            (performed_over q first limit (record r { peer = peer.completed q }) c named
            (with_peer_over r (peer.completed q) tt h))
        by false = with_peer_over r p i h

    arrived_over : (q : PeerRequestView) (w : Standing) → NamesOver over q.ids
        → ResetsOver over (arrived_with confirms first limit (arrived_as w r.peer q cumulative_tsn) r c).0.0
    arrived_over q standings.Completed named = with_peer_over r r.peer h.in_progress h
    arrived_over q standings.AnotherInProgress named = with_peer_over r r.peer h.in_progress h
    arrived_over q standings.OutOfOrder named = with_peer_over r r.peer h.in_progress h
    arrived_over q standings.InProgress named = advanced_over r.peer r.peer.in_progress h.in_progress h.in_progress
    arrived_over q standings.Next named = advanced_over (record r.peer { in_progress = Some q }) (Some q) named named

  handled_after_over : (param : ParamOutgoingResetRequest) (cumulative_tsn first limit : ℕ) (confirms : Bool)
      (s : Resetting) → ParamOver over param → ResetsOver over s.0
      → ResetsOver over (handled_after param cumulative_tsn first limit confirms s).0.0
  handled_after_over param cumulative_tsn first limit confirms (r, c) n h =
      arrived_over confirms cumulative_tsn first limit r c h (request_of param)
      (standing_of r.peer (request_of param).number) (request_names_over param n)

  pub handled_over : (p : ParamOutgoingResetRequest) (cumulative_tsn first limit : ℕ) (r : ResetsView) (c : Channels)
      → ResetsOver over r → ParamOver over p → ResetsOver over (handled p cumulative_tsn first limit r c).0.0
  handled_over p cumulative_tsn first limit r c h n =
      handled_after_over p cumulative_tsn first limit
      (confirmed_by p.reconfig_response_sequence_number r c.streams c.events).1
      (with_channels c (confirmed_by p.reconfig_response_sequence_number r c.streams c.events).0) n
      (confirmed_by_over p.reconfig_response_sequence_number r c.streams c.events h)

  -- This side's requests go out

  pub again_over : (r : ResetsView) → ResetsOver over r
      → ResetsOver over (request_again r).0 × ParamOverIf over (request_again r).1
  again_over r h =
      let s = repeated_over over r.own h.own in
      (with_own_over r (own.repeated r.own).0 s.0 h, s.1)

  pub sent_over : (r : ResetsView) (q : Outbound) → ResetsOver over r
      → ResetsOver over (request_sent r q).0 × ParamOverIf over (request_sent r q).1
  sent_over r q h =
      let s = sent_first_over over r.own q h.own in
      (with_own_over r (own.sent_first r.own q).0 s.0 h, s.1)

  pub asked_over : (r : ResetsView) (q : Outbound) → ResetsOver over r → ResetsOver over (request_asked r q).0
  asked_over r q h = with_own_over r (own.asked r.own q r.peer).0 (own_asked_over over r.own q r.peer h.own) h

  -- The application reads, stops and asks for events

  module _ (first limit id : ℕ) (in_progress : Option ℕ) where
    skipped_over_each : (s : Reading) → EachOver over s.0 → EachOver over (skipped_over id s).0
    skipped_over_each (g, c) e = applied_of_each over id (g, c.streams, c.events) e

    next_each : (g : GenerationsView) (c : Channels) → EachOver over g
        → EachOver over (next_generation_read first limit id in_progress (g, c)).0
    unfolding next_generation_read
    next_each g c e =
        skipped_over_each
        (after_given_to g id in_progress, write_half_kept (is_write_half_closed c.streams id) filled id)
        (given_to_each over g id in_progress e)
      where
        filled : Channels
        filled = fold (delivered first limit) (ended c id) (given_to g id in_progress)

    passed_each : (s : Reading) → EachOver over s.0 → EachOver over (passed_once first limit id in_progress s).0.0
    passed_each (g, c) e =
        by (drained g id (waiting_of c.streams id)).0 (drained g id (waiting_of c.streams id)).1
        (drained_each over g id (waiting_of c.streams id) e)
      where
        by : (d : GenerationsView) (is_over : Bool) → EachOver over d
            → EachOver over (passed_where first limit id in_progress c (d, is_over)).0.0
        by d true left = next_each d c left
        by d false left = left

    all_passed_each : (n : ℕ) (s : Reading) → EachOver over s.0
        → EachOver over (passed_times n first limit id in_progress s).0
    all_passed_each zero s e = e
    all_passed_each (suc n) s e =
        of_chosen (λ (t : Reading). EachOver over t.0) (passed_once first limit id in_progress s).1
        (passed_times n first limit id in_progress (passed_once first limit id in_progress s).0)
        (passed_once first limit id in_progress s).0
        (all_passed_each n (passed_once first limit id in_progress s).0 (passed_each s e)) (passed_each s e)

  pub read_out_over : (first limit id : ℕ) (r : ResetsView) (c : Channels) → ResetsOver over r
      → ResetsOver over (read_out first limit id r c).0
  read_out_over first limit id r c h =
      with_generations_over r _
      (all_passed_each first limit id (boundary_of r.peer id) (count_at r.generations.retiring id) (r.generations, c)
      (each_of r h)) h

  pub stopped_reading_over : (id : ℕ) (r : ResetsView) (m : StreamMap) (told : List Event) → ResetsOver over r
      → ResetsOver over (stopped_reading id r m told).0
  stopped_reading_over id r m told h =
      of_chosen (λ (b : Beside). ResetsOver over b.0) (is_rfc r.own.profile) _ _
      (reset (has_newest r.generations id) (newest_over over r.generations id (each_of r h)))
      (by (is_blocked (with_generations r (discarded r.generations id)) id))
    where
      left : ResetsView
      left = with_generations r (discarded r.generations id)

      is_left : ResetsOver over left
      is_left = with_generations_over r _ (discarded_each over r.generations id (each_of r h)) h

      -- the stream is reset where something of it was kept
      reset : (more : Bool) → (more ≡ true → over id ≡ true)
          → ResetsOver over
          (reset_or_ended more left id (changed_stream without_unread m id)
          (filter (λ e. not (is_told_of id e)) told)).0
      reset true is_over = waiting_over left id (is_over refl) is_left
      reset false is_over = is_left

      by : (blocked : Bool)
          → ResetsOver over
          (ended_unless blocked left id (changed_stream without_unread m id)
          (filter (λ e. not (is_told_of id e)) told)).0
      by true = is_left
      by false = is_left

  pub told_over : (r : ResetsView) (told : List Event) → ResetsOver over r → ResetsOver over (event_told r told).0
  told_over r told h = by (next_told r.generations r.debts told)
    where
      given : (o : Option Event) (rest : List Event) → ResetsOver over (with_event o r rest).0
      given None rest = h
      given (Some e) rest = with_debts_over r _ h

      by : (o : Option ℕ) → ResetsOver over (event_told_at o r told).0
      by None = h
      by (Some index) = given (slice_get told index) (remove told index)
