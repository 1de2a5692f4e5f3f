-- The end of a request of this side, and a request of the peer, change only the streams that they are for.
use Rattle.std.proofs.Common.{◌≡◌, refl, sym, ap, ◌∙◌, subst, ℕ, Bool, true, false, ◌||◌, ◌&&◌, not, cond}
use Rattle.std.proofs.Common.{List, [], ◌∷◌, ◌++◌, fold, filter, Option, Some, None, is_some, is_eq, nat_cmp}
use Rattle.std.proofs.Common.{Result, Ok, Err}
use Rattle.std.proofs.lemmas.Bool.{or_parts}
use Rattle.std.proofs.lemmas.Map.Made.{is_some-lookup}
use Rattle.std.specs.BTreeMap.{is_at}
use Rattle.sctp_wire_types.specs.Config.{is_rfc}
use Rattle.sctp_wire_types.specs.declared.event.StreamResetError.{StreamResetError}
use Rattle.sctp_wire_types.specs.declared.param.ParamOutgoingResetRequest.{ParamOutgoingResetRequest}
use Rattle.sctp_wire_types.specs.declared.param.ParamReconfigResponse.{ParamReconfigResponse}
use Rattle.sctp_streams.specs.declared.event.Event.{Event}
use Rattle.sctp_streams.specs.Stream.{with_restarted_ssn}
use Rattle.sctp_streams.specs.Streams.{StreamMap, changed_stream, live_ids, stream_at, without_stream}
use Rattle.sctp_generations.specs.Generations.{GenerationsView}
use Rattle.sctp_reset_requests.specs.declared.answer.Standing.{Standing}
use Rattle.sctp_reset_requests.specs.declared.answer.Standing.TheVariants as standings
use Rattle.sctp_reset_requests.specs.declared.own_request.OwnRequest.{OwnRequest}
use Rattle.sctp_reset_requests.specs.declared.own_request.SentRequest.{SentRequest}
use Rattle.sctp_reset_requests.specs.Debts.{DebtsView}
use Rattle.sctp_reset_requests.specs.Debts as debts
use Rattle.sctp_reset_requests.specs.Ids.{has_id}
use Rattle.sctp_reset_requests.specs.Own.{OwnView, answered_with, behind_after, ended_as, has_number, is_confirmed_by}
use Rattle.sctp_reset_requests.specs.Own.{outcome_of, request_sent, with_active}
use Rattle.sctp_reset_requests.specs.declared.outcome.Answered.TheVariants as answers
use Rattle.sctp_reset_requests.specs.Peer.{PeerView, advanced_with, arrived_as, standing_of, taken_up}
use Rattle.sctp_reset_requests.specs.Peer as peer
use Rattle.sctp_reset_requests.specs.Request.{PeerRequestView, is_due, names_all, request_of}
use Rattle.sctp_resets.specs.Answers.{Answering, answering, complete_told, completed_one, completed_with}
use Rattle.sctp_resets.specs.Answers.{ended_or_restarted, is_read_half_closed}
use Rattle.sctp_resets.specs.Channels.{Channels}
use Rattle.sctp_resets.specs.Concerned.{StayBeside, active_ids, deferred_ids, ids_of_request, in_reset}
use Rattle.sctp_resets.specs.Concerned.{named_in_progress, sent_ids, skipped_ids}
use Rattle.sctp_resets.specs.Performing.{named_live}
use Rattle.sctp_resets.specs.Resets.{Beside, ResetsView, Resetting, arrived_with, confirmed_by, confirmed_where}
use Rattle.sctp_resets.specs.Resets.{ended_as_answered, handled, handled_after, performed, request_over, responded}
use Rattle.sctp_resets.specs.Resets.{skips_done_in, with_channels}
use Rattle.sctp_resets.proofs.PerformedBeside.{kept_parts, performed_beside}
use Rattle.sctp_resets.proofs.SkipsBeside.{skips_stay}
use Rattle.sctp_resets.proofs.StreamsBeside.{changed_apart, ended_apart, named_by_neither, same_identifier}

module _ (t : ℕ) where
  -- The end of a request of this side

  completed_apart : (by_rfcs owed : Bool) (d : DebtsView) (a : Answering) (id : ℕ) → is_eq (nat_cmp t id) ≡ false
      → stream_at (completed_with by_rfcs (d, owed) a id).streams t ≡ stream_at a.streams t
  completed_apart by_rfcs owed d a id apart = by owed
    where
      ends : (b : Bool)
          → stream_at (cond b (without_stream a.streams id) (changed_stream with_restarted_ssn a.streams id)) t
          ≡ stream_at a.streams t
      ends true = ended_apart t id apart a.streams
      ends false = changed_apart t id apart with_restarted_ssn a.streams

      either : (b : Bool) (x y : Answering) → stream_at x.streams t ≡ stream_at a.streams t
          → stream_at y.streams t ≡ stream_at a.streams t → stream_at (cond b x y).streams t ≡ stream_at a.streams t
      either true x y first second = first
      either false x y first second = second

      changed : (b : Bool)
          → stream_at (ended_or_restarted b (record a { debts = d }) id).streams t ≡ stream_at a.streams t
      changed b = either (b && is_read_half_closed a.streams id) _ _ (ends true) (ends false)

      by : (b : Bool)
          → stream_at
          (complete_told b (ended_or_restarted (owed && not by_rfcs) (record a { debts = d }) id) id).streams t
          ≡ stream_at a.streams t
      by true = changed (owed && not by_rfcs)
      by false = changed (owed && not by_rfcs)

  all_completed_apart : (by_rfcs : Bool) (ids : List ℕ) (a : Answering) → has_id t ids ≡ false
      → stream_at (fold (completed_one by_rfcs) a ids).streams t ≡ stream_at a.streams t
  all_completed_apart by_rfcs [] a e = refl
  all_completed_apart by_rfcs (id ∷ ids) a e =
      let parts = or_parts (is_eq (nat_cmp t id)) (has_id t ids) e in
      all_completed_apart by_rfcs ids (completed_one by_rfcs a id) parts.1
      ∙ completed_apart by_rfcs (debts.settled a.debts id).1 (debts.settled a.debts id).0 a id parts.0

  over_apart : (outcome : Result (Unit {0}) StreamResetError) (q : OwnRequest) (r : ResetsView) (m : StreamMap)
      (told : List Event) → has_id t q.ids ≡ false → stream_at (request_over outcome q r m told).1 t ≡ stream_at m t
  over_apart (Ok done) q r m told e =
      all_completed_apart (is_rfc r.own.profile) q.ids (answering r.debts m told) e
  over_apart (Err reason) q r m told e = refl

  module _ (r : ResetsView) (m : StreamMap) (told : List Event) where
    ended_beside : (o : OwnView) (s : Option SentRequest) (outcome : Result (Unit {0}) StreamResetError)
        → has_id t (sent_ids s) ≡ false
        → stream_at (ended_as_answered (ended_as (o, request_sent s) outcome) r m told).0.1 t ≡ stream_at m t
    ended_beside o None outcome e = refl
    ended_beside o (Some s) outcome e =
        over_apart outcome s.request (record r { own = behind_after outcome o s.request.ids }) m told e

    answered_beside : (names_it : Bool) (outcome : Option (Result (Unit {0}) StreamResetError))
        → has_id t (active_ids r) ≡ false
        → stream_at
        (ended_as_answered (cond names_it (answered_with outcome r.own) (r.own, answers.Ignored)) r m told).0.1 t
        ≡ stream_at m t
    answered_beside true (Some outcome) e = ended_beside (with_active r.own None) r.own.active outcome e
    answered_beside true None e = refl
    answered_beside false outcome e = refl

    -- the stream stays, and what is kept of the peer's requests and of generations
    abbrev IsConfirmedBeside : Beside → Type 0
    IsConfirmedBeside b = (stream_at b.1 t ≡ stream_at m t) × (b.0.generations ≡ r.generations) × (b.0.peer ≡ r.peer)

    -- so it is where a request of the peer confirms the active one
    confirmed_beside : (s : Option SentRequest) (names_it : Bool) → has_id t (sent_ids s) ≡ false
        → IsConfirmedBeside
        (confirmed_where (cond names_it (with_active r.own None, request_sent s) (r.own, None)) r m told).0
    confirmed_beside None true e = (refl, refl, refl)
    confirmed_beside (Some s) true e =
        (over_apart (Ok tt) s.request (record r { own = with_active r.own None }) m told e, refl, refl)
    confirmed_beside s false e = (refl, refl, refl)

  -- Which live streams a request names

  found_where : (test : ℕ → Bool) (ids : List ℕ) → has_id t (filter test ids) ≡ (has_id t ids && test t)
  found_where test [] = refl
  found_where test (x ∷ xs) = by (is_eq (nat_cmp t x)) (test x) refl refl (found_where test xs)
    where
      by : (same passes : Bool) → is_eq (nat_cmp t x) ≡ same → test x ≡ passes
          → has_id t (filter test xs) ≡ (has_id t xs && test t)
          → has_id t (cond passes (x ∷ filter test xs) (filter test xs))
          ≡ ((same || has_id t xs) && test t)
      by true true same passes more =
          rw same (sym (ap test (same_identifier t x same) ∙ passes))
      by true false same passes more =
          more ∙ alike (has_id t xs) (test t) (ap test (same_identifier t x same) ∙ passes)
        where
          alike : (c b : Bool) → b ≡ false → (c && b) ≡ b
          alike true b e = refl
          alike false b e = sym e
      by false true same passes more = rw same more
      by false false same passes more = more

  -- Whether a request names a live stream rests on that stream alone.
  named_alike : (m n : StreamMap) (q : PeerRequestView) → stream_at n t ≡ stream_at m t
      → has_id t (named_live n q) ≡ has_id t (named_live m q)
  named_alike m n q same = by (names_all q)
    where
      listed : (k : StreamMap) → has_id t (live_ids k) ≡ is_some (stream_at k t)
      listed k = sym (is_some-lookup (is_at (nat_cmp t)) k.by_id)

      live : has_id t (live_ids n) ≡ has_id t (live_ids m)
      live = listed n ∙ ap is_some same ∙ sym (listed m)

      among : has_id t (filter (λ id. is_some (stream_at n id)) q.ids)
          ≡ has_id t (filter (λ id. is_some (stream_at m id)) q.ids)
      among =
          found_where (λ id. is_some (stream_at n id)) q.ids
          ∙ ap (λ o. has_id t q.ids && is_some o) same
          ∙ sym (found_where (λ id. is_some (stream_at m id)) q.ids)

      by : (all : Bool)
          → has_id t (cond all (live_ids n) (filter (λ id. is_some (stream_at n id)) q.ids))
          ≡ has_id t (cond all (live_ids m) (filter (λ id. is_some (stream_at m id)) q.ids))
      by true = live
      by false = among

  -- A request of the peer

  skips_done_beside : (s : Resetting) → has_id t (skipped_ids s.0.generations) ≡ false
      → stream_at (skips_done_in s).1.streams t ≡ stream_at s.1.streams t
  skips_done_beside (r, c) none = skips_stay r c.streams c.events t none

  -- where neither a request that came nor the one in progress names the stream, and nothing is kept of it
  module _ (confirms : Bool) (cumulative_tsn first limit : ℕ) (q : PeerRequestView) (r : ResetsView) (c : Channels)
      (named : has_id t (named_live c.streams q) ≡ false) (waits : has_id t (deferred_ids r.generations) ≡ false)
      (none : has_id t (skipped_ids r.generations) ≡ false) where
    taken_beside : (p : PeerView) (o : Option PeerRequestView)
        → has_id t (named_in_progress c.streams o) ≡ false
        → stream_at (arrived_with confirms first limit (taken_up (p, o)) r c).0.1.streams t ≡ stream_at c.streams t
    taken_beside p None e = refl
    taken_beside p (Some k) e =
        let done = performed_beside t k first limit (record r { peer = p }) c e waits none in
        skips_done_beside (performed k first limit (record r { peer = p }) c).0 done.1 ∙ done.0

    advanced_beside : (p : PeerView) (o : Option PeerRequestView)
        → has_id t (named_in_progress c.streams o) ≡ false
        → stream_at
        (arrived_with confirms first limit (taken_up (advanced_with o p cumulative_tsn)) r c).0.1.streams t
        ≡ stream_at c.streams t
    advanced_beside p None e = refl
    advanced_beside p (Some k) e = by (is_due k cumulative_tsn)
      where
        by : (b : Bool)
            → stream_at
            (arrived_with confirms first limit (taken_up (cond b (peer.completed k, Some k) (p, None)))
            r c).0.1.streams t
            ≡ stream_at c.streams t
        by true = taken_beside (peer.completed k) (Some k) e
        by false = refl

    arrived_beside : (w : Standing) → has_id t (named_in_progress c.streams r.peer.in_progress) ≡ false
        → stream_at (arrived_with confirms first limit (arrived_as w r.peer q cumulative_tsn) r c).0.1.streams t
        ≡ stream_at c.streams t
    arrived_beside standings.Completed e = refl
    arrived_beside standings.AnotherInProgress e = refl
    arrived_beside standings.OutOfOrder e = refl
    arrived_beside standings.InProgress e = advanced_beside r.peer r.peer.in_progress e
    arrived_beside standings.Next e = advanced_beside (record r.peer { in_progress = Some q }) (Some q) named

  in_progress_alike : (m n : StreamMap) (o : Option PeerRequestView) → stream_at n t ≡ stream_at m t
      → has_id t (named_in_progress n o) ≡ has_id t (named_in_progress m o)
  in_progress_alike m n None same = refl
  in_progress_alike m n (Some q) same = named_alike m n q same

-- a response changes only the streams of the active request
pub responded_stays : (response : ParamReconfigResponse) (r : ResetsView) (m : StreamMap) (told : List Event)
    → StayBeside (active_ids r) m (responded response r m told).0.1
responded_stays response r m told t beside =
    answered_beside t r m told (has_number r.own.active response.reconfig_response_sequence_number)
    (outcome_of response.result) beside

-- What comes behind the confirmation of the active request, which left the stream what it was: neither the request
-- that came nor the one in progress names the stream, and nothing is kept of it.
module _ (param : ParamOutgoingResetRequest) (cumulative_tsn first limit : ℕ) (r : ResetsView) (c : Channels) (t : ℕ)
    (named : has_id t (named_live c.streams (request_of param)) ≡ false)
    (progress : has_id t (named_in_progress c.streams r.peer.in_progress) ≡ false)
    (waits : has_id t (deferred_ids r.generations) ≡ false) (none : has_id t (skipped_ids r.generations) ≡ false) where
  handled_beside : (confirms : Bool) (now : Resetting) → stream_at now.1.streams t ≡ stream_at c.streams t
      → now.0.generations ≡ r.generations → now.0.peer ≡ r.peer
      → stream_at (handled_after param cumulative_tsn first limit confirms now).0.1.streams t ≡ stream_at c.streams t
  handled_beside confirms (q, d) same generations peers =
      arrived_beside t confirms cumulative_tsn first limit (request_of param) q d
      (named_alike t c.streams d.streams (request_of param) same ∙ named)
      (subst (λ (g : GenerationsView). has_id t (deferred_ids g) ≡ false) (sym generations) waits)
      (subst (λ (g : GenerationsView). has_id t (skipped_ids g) ≡ false) (sym generations) none)
      (standing_of q.peer (request_of param).number)
      (subst (λ (p : PeerView). has_id t (named_in_progress d.streams p.in_progress) ≡ false) (sym peers)
      (in_progress_alike t c.streams d.streams r.peer.in_progress same ∙ progress))
      ∙ same

-- a request of the peer changes only the streams of the active request, those that it names, and those that were in a
-- reset before
pub handled_stays : (param : ParamOutgoingResetRequest) (cumulative_tsn first limit : ℕ) (r : ResetsView) (c : Channels)
    → StayBeside (ids_of_request param r c.streams) c.streams
    (handled param cumulative_tsn first limit r c).0.1.streams
handled_stays param cumulative_tsn first limit r c t beside =
    let active = named_by_neither t (active_ids r) (named_live c.streams (request_of param) ++ in_reset r c.streams)
    beside in
    let request = named_by_neither t (named_live c.streams (request_of param)) (in_reset r c.streams) active.1 in
    let kept = kept_parts r c t request.1 in
    let left = confirmed_beside t r c.streams c.events r.own.active
    (is_confirmed_by r.own.active param.reconfig_response_sequence_number) active.0 in
    handled_beside param cumulative_tsn first limit r c t request.0 kept.0 kept.1 kept.2
    (confirmed_by param.reconfig_response_sequence_number r c.streams c.events).1
    (with_channels c (confirmed_by param.reconfig_response_sequence_number r c.streams c.events).0) left.0 left.1 left.2
