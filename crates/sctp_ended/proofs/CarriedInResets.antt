-- What happens to resets carries what each of the rules carries: kept skips are applied, requests of this side end, and
-- requests of the peer come and are performed.
use Rattle.std.proofs.Common.{◌≡◌, ◌++◌, refl, ap, ℕ, ◌&&◌, Bool, true, false, if◌then◌else◌, cond, not}
use Rattle.std.proofs.Common.{List, [], ◌∷◌, fold, Option, Some, None, is_some, Result, Ok, Err}
use Rattle.std.proofs.lemmas.Bool.{false≢true}
use Rattle.sctp_wire_types.specs.Config.{is_rfc}
use Rattle.sctp_wire_types.specs.declared.event.StreamResetError.{StreamResetError}
use Rattle.sctp_wire_types.specs.declared.event.StreamResetError.TheVariants as reasons
use Rattle.sctp_wire_types.specs.declared.param.ParamOutgoingResetRequest.{ParamOutgoingResetRequest}
use Rattle.sctp_wire_types.specs.declared.param.ParamReconfigResponse.{ParamReconfigResponse}
use Rattle.sctp_streams.specs.declared.event.Event.{Event}
use Rattle.sctp_streams.specs.Stream.{stream_skipped, with_restarted_ssn}
use Rattle.sctp_streams.specs.Streams.{StreamMap, changed_stream, stream_at}
use Rattle.sctp_generations.specs.declared.skips.KeptSkip.{KeptSkip}
use Rattle.sctp_generations.specs.Generations.{GenerationsView, after_skips_given_to, has_skips, skips_given_to}
use Rattle.sctp_generations.specs.Generations.{with_kept_skip}
use Rattle.sctp_generations.specs.Skips.{skip_ids}
use Rattle.sctp_reset_requests.specs.declared.answer.Standing.{Standing}
use Rattle.sctp_reset_requests.specs.declared.answer.Standing.TheVariants as standings
use Rattle.sctp_reset_requests.specs.declared.own_request.OwnRequest.{OwnRequest}
use Rattle.sctp_reset_requests.specs.declared.outcome.Answered.{Answered}
use Rattle.sctp_reset_requests.specs.declared.outcome.Answered.TheVariants as answers
use Rattle.sctp_reset_requests.specs.Debts as debts
use Rattle.sctp_reset_requests.specs.Debts.{DebtsView}
use Rattle.sctp_reset_requests.specs.Own as own
use Rattle.sctp_reset_requests.specs.Own.{OwnView}
use Rattle.sctp_reset_requests.specs.Peer as peer
use Rattle.sctp_reset_requests.specs.Peer.{PeerView, advanced_with, arrived_as, is_completed, is_current, is_next}
use Rattle.sctp_reset_requests.specs.Peer.{standing_of, taken_up}
use Rattle.sctp_reset_requests.specs.Request.{PeerRequestView, is_due as is_due_request, request_of}
use Rattle.sctp_resets.specs.Answers.{Answering, answering, complete_told, completed_one, completed_with}
use Rattle.sctp_resets.specs.Answers.{ended_or_restarted, is_read_half_closed}
use Rattle.sctp_resets.specs.Channels.{Channels}
use Rattle.sctp_resets.specs.Resets.{Beside, ResetsView, Resetting, arrived_with, confirmed_by, confirmed_where}
use Rattle.sctp_resets.specs.Resets.{ended_as_answered, given_up, given_up_for_now, given_up_where, handled}
use Rattle.sctp_resets.specs.Resets.{handled_after, performed, request_over, responded, settled, settled_where}
use Rattle.sctp_resets.specs.Resets.{skips_done, skips_done_in, skips_done_of, with_channels}
use Rattle.sctp_resets.specs.Skips.{Skipping, end_of_skip, reaches_its_ssn, skip_tried, skips_applied, skips_applied_of}
use Rattle.sctp_resets.proofs.ListsOver.{of_chosen}
use Rattle.sctp_ended.proofs.Carried.{IsCarried, IsCarriedByStreams, ResettingIs, restarted_is_mild, skipped_is_mild}

module _ {T : GenerationsView → PeerView → StreamMap → Type 0} (rules : IsCarriedByStreams T) where
  -- Skips that were kept are applied

  module _ (p : PeerView) where
    abbrev IsOfSkipping : Skipping → Type 0
    IsOfSkipping x = T x.0 p x.1

    tried_carries : (x : Skipping) (s : KeptSkip) → IsOfSkipping x → IsOfSkipping (skip_tried x s)
    tried_carries (g, m, told) s h =
        let changed =
        rules.changes g p m (stream_skipped (end_of_skip s m)) s.id (skipped_is_mild (end_of_skip s m)) h in
        of_chosen (λ (f : GenerationsView). T f p (changed_stream (stream_skipped (end_of_skip s m)) m s.id))
        (reaches_its_ssn s m) g (with_kept_skip g s) changed
        (rules.skips g p (changed_stream (stream_skipped (end_of_skip s m)) m s.id) (g.skips ++ s ∷ []) changed)

    all_tried_carry : (ss : List KeptSkip) (x : Skipping) → IsOfSkipping x → IsOfSkipping (fold skip_tried x ss)
    all_tried_carry [] x h = h
    all_tried_carry (s ∷ ss) x h = all_tried_carry ss (skip_tried x s) (tried_carries x s h)

    pub applied_of_carries : (x : Skipping) (k : ℕ) → IsOfSkipping x → IsOfSkipping (skips_applied_of x k)
    applied_of_carries (g, m, told) k h =
        of_chosen IsOfSkipping (has_skips g && is_some (stream_at m k)) _ (g, m, told)
        (all_tried_carry (skips_given_to g k) (after_skips_given_to g k, m, told)
        (rules.skips g p m (after_skips_given_to g k).skips h)) h

    each_applied_carries : (ks : List ℕ) (x : Skipping) → IsOfSkipping x → IsOfSkipping (fold skips_applied_of x ks)
    each_applied_carries [] x h = h
    each_applied_carries (k ∷ ks) x h = each_applied_carries ks (skips_applied_of x k) (applied_of_carries x k h)

    applied_carries : (x : Skipping) → IsOfSkipping x → IsOfSkipping (skips_applied x)
    applied_carries (g, m, told) h =
        of_chosen IsOfSkipping (has_skips g) _ (g, m, told)
        (each_applied_carries (skip_ids g.skips) (g, m, told) h) h

  -- what is so of resets and streams
  abbrev BesideIs : Beside → Type 0
  BesideIs b = T b.0.generations b.0.peer b.1

  pub skips_done_carry : (r : ResetsView) (m : StreamMap) (told : List Event) → T r.generations r.peer m
      → BesideIs (skips_done r m told)
  skips_done_carry r m told h = applied_carries r.peer (r.generations, m, told) h

  pub skips_done_of_carry : (k : ℕ) (r : ResetsView) (m : StreamMap) (told : List Event) → T r.generations r.peer m
      → BesideIs (skips_done_of k r m told)
  skips_done_of_carry k r m told h = applied_of_carries r.peer (r.generations, m, told) k h

  -- A request of this side ends

  module _ (g : GenerationsView) (p : PeerView) where
    completed_carries : (by_rfcs owed : Bool) (d : DebtsView) (a : Answering) (k : ℕ) → T g p a.streams
        → T g p (completed_with by_rfcs (d, owed) a k).streams
    completed_carries by_rfcs owed d a k h = by owed
      where
        changed : (b : Bool) → T g p (ended_or_restarted b (record a { debts = d }) k).streams
        changed b =
            of_chosen (λ (n : Answering). T g p n.streams) (b && is_read_half_closed a.streams k) _ _
            (rules.ends g p a.streams k h) (rules.changes g p a.streams with_restarted_ssn k restarted_is_mild h)

        by : (b : Bool)
            → T g p (complete_told b (ended_or_restarted (b && not by_rfcs) (record a { debts = d }) k) k).streams
        by true = changed (true && not by_rfcs)
        by false = changed (false && not by_rfcs)

    all_completed_carry : (by_rfcs : Bool) (ids : List ℕ) (a : Answering) → T g p a.streams
        → T g p (fold (completed_one by_rfcs) a ids).streams
    all_completed_carry by_rfcs [] a h = h
    all_completed_carry by_rfcs (k ∷ ids) a h =
        all_completed_carry by_rfcs ids (completed_one by_rfcs a k)
        (completed_carries by_rfcs (debts.settled a.debts k).1 (debts.settled a.debts k).0 a k h)

  over_carries : (outcome : Result (Unit {0}) StreamResetError) (q : OwnRequest) (r : ResetsView) (m : StreamMap)
      (told : List Event) → T r.generations r.peer m → BesideIs (request_over outcome q r m told)
  over_carries (Ok done) q r m told h =
      all_completed_carry r.generations r.peer (is_rfc r.own.profile) q.ids (answering r.debts m told) h
  over_carries (Err reason) q r m told h = h

  as_answered_carries : (o : OwnView) (a : Answered) (r : ResetsView) (m : StreamMap) (told : List Event)
      → T r.generations r.peer m → BesideIs (ended_as_answered (o, a) r m told).0
  as_answered_carries o answers.Ignored r m told h = h
  as_answered_carries o answers.InProgress r m told h = h
  as_answered_carries o (answers.Ended q outcome) r m told h =
      over_carries outcome q (record r { own = o }) m told h

  pub responded_carries : (response : ParamReconfigResponse) (r : ResetsView) (m : StreamMap) (told : List Event)
      → T r.generations r.peer m → BesideIs (responded response r m told).0
  responded_carries response r m told h =
      as_answered_carries (own.answered r.own response).0 (own.answered r.own response).1 r m told h

  pub given_up_carries : (r : ResetsView) (m : StreamMap) (told : List Event) → T r.generations r.peer m
      → BesideIs (given_up r m told)
  given_up_carries r m told h =
      of_chosen BesideIs (is_rfc r.own.profile) (given_up_for_now r m told)
      (given_up_where (own.ended r.own) r m told) h (by (own.ended r.own).1)
    where
      by : (q : Option OwnRequest) → BesideIs (given_up_where ((own.ended r.own).0, q) r m told)
      by None = h
      by (Some q) = over_carries (Err reasons.Failed) q (record r { own = (own.ended r.own).0 }) m told h

  confirmed_carries : (o : OwnView) (q : Option OwnRequest) (r : ResetsView) (m : StreamMap) (told : List Event)
      → T r.generations r.peer m → BesideIs (confirmed_where (o, q) r m told).0
  confirmed_carries o None r m told h = h
  confirmed_carries o (Some q) r m told h = over_carries (Ok tt) q (record r { own = o }) m told h

abbrev is_next_one : Standing → Bool
is_next_one standings.InProgress = false
is_next_one standings.Completed = false
is_next_one standings.AnotherInProgress = false
is_next_one standings.Next = true
is_next_one standings.OutOfOrder = false

-- only the next request is taken up, and only where none is in progress
next_follows_none : (p : PeerView) (number : ℕ) → standing_of p number ≡ standings.Next → p.in_progress ≡ None
next_follows_none p number next =
    none (is_current p.in_progress number) (is_completed p.last_completed number) (is_next p.last_completed number)
    p.in_progress next
  where
    none : (current completed following : Bool) (o : Option PeerRequestView)
        → (if current then standings.InProgress else
        if completed then standings.Completed else
        if is_some o then standings.AnotherInProgress else
        if following then standings.Next else standings.OutOfOrder)
        ≡ standings.Next
        → o ≡ None
    none current completed following None e = refl
    none true completed following (Some q) e = absurd (false≢true (ap is_next_one e))
    none false true following (Some q) e = absurd (false≢true (ap is_next_one e))
    none false false following (Some q) e = absurd (false≢true (ap is_next_one e))

-- Requests of the peer
module _ {Open : GenerationsView → PeerView → Type 0} {T : GenerationsView → PeerView → StreamMap → Type 0}
    (rules : IsCarried Open T) where
  pub settled_carries : (t first limit : ℕ) (r : ResetsView) (c : Channels) → T r.generations r.peer c.streams
      → ResettingIs T (settled t first limit r c).0
  settled_carries t first limit r c h = by r.peer.in_progress refl
    where
      taken : (q : PeerRequestView) (due : Bool) → r.peer.in_progress ≡ Some q
          → ResettingIs T (settled_where (cond due (peer.completed q, Some q) (r.peer, None)) first limit r c).0
      taken q true e = rules.performs q first limit r c e h
      taken q false e = h

      by : (o : Option PeerRequestView) → r.peer.in_progress ≡ o
          → ResettingIs T (settled_where (advanced_with o r.peer t) first limit r c).0
      by None e = h
      by (Some q) e = taken q (is_due_request q t) e

  skips_done_in_carry : (s : Resetting) → ResettingIs T s → ResettingIs T (skips_done_in s)
  skips_done_in_carry (r, c) h = skips_done_carry rules.streams r c.streams c.events h

  module _ (confirms : Bool) (t first limit : ℕ) (r : ResetsView) (c : Channels) where
    advanced_carries : (p : PeerView) (o : Option PeerRequestView) → p.in_progress ≡ o
        → T r.generations p c.streams
        → ResettingIs T (arrived_with confirms first limit (taken_up (advanced_with o p t)) r c).0
    advanced_carries p None e h = h
    advanced_carries p (Some q) e h = by (is_due_request q t)
      where
        by : (due : Bool)
            → ResettingIs T
            (arrived_with confirms first limit (taken_up (cond due (peer.completed q, Some q) (p, None))) r c).0
        by true =
            skips_done_in_carry (performed q first limit (record r { peer = peer.completed q }) c).0
            (rules.performs q first limit (record r { peer = p }) c e h)
        by false = h

    arrived_carries : (q : PeerRequestView) (w : Standing) → standing_of r.peer q.number ≡ w
        → Open r.generations r.peer → T r.generations r.peer c.streams
        → ResettingIs T (arrived_with confirms first limit (arrived_as w r.peer q t) r c).0
    arrived_carries q standings.Completed e o h = h
    arrived_carries q standings.AnotherInProgress e o h = h
    arrived_carries q standings.OutOfOrder e o h = h
    arrived_carries q standings.InProgress e o h = advanced_carries r.peer r.peer.in_progress refl h
    arrived_carries q standings.Next e o h =
        advanced_carries (record r.peer { in_progress = Some q }) (Some q) refl
        (rules.takes_up r.generations r.peer c.streams q (next_follows_none r.peer q.number e) o h)

  handled_after_carries : (param : ParamOutgoingResetRequest) (t first limit : ℕ) (confirms : Bool) (s : Resetting)
      → Open s.0.generations s.0.peer → ResettingIs T s
      → ResettingIs T (handled_after param t first limit confirms s).0
  handled_after_carries param t first limit confirms (r, c) o h =
      arrived_carries confirms t first limit r c (request_of param) (standing_of r.peer (request_of param).number) refl
      o h

  -- where a request of this side ends, what is kept of generations and of the peer's requests stays
  confirmed_opens : (o : OwnView) (q : Option OwnRequest) (r : ResetsView) (m : StreamMap) (told : List Event)
      → Open r.generations r.peer
      → Open (confirmed_where (o, q) r m told).0.0.generations (confirmed_where (o, q) r m told).0.0.peer
  confirmed_opens o None r m told opens = opens
  confirmed_opens o (Some q) r m told opens = opens

  pub handled_carries : (param : ParamOutgoingResetRequest) (t first limit : ℕ) (r : ResetsView) (c : Channels)
      → Open r.generations r.peer → T r.generations r.peer c.streams
      → ResettingIs T (handled param t first limit r c).0
  handled_carries param t first limit r c opens h =
      handled_after_carries param t first limit
      (confirmed_by param.reconfig_response_sequence_number r c.streams c.events).1
      (with_channels c (confirmed_by param.reconfig_response_sequence_number r c.streams c.events).0)
      (confirmed_opens (own.confirmed r.own param.reconfig_response_sequence_number).0
      (own.confirmed r.own param.reconfig_response_sequence_number).1 r c.streams c.events opens)
      (confirmed_carries rules.streams (own.confirmed r.own param.reconfig_response_sequence_number).0
      (own.confirmed r.own param.reconfig_response_sequence_number).1 r c.streams c.events h)
