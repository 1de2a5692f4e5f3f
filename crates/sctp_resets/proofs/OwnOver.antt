-- This side's requests stay for streams past their span.
use Rattle.std.proofs.Common.{◌≡◌, refl, sym, ◌∙◌, ap, arith, ℕ, ◌==◌, ◌<◌, ◌||◌, Bool, true, false, not, cond}
use Rattle.std.proofs.Common.{◌&&◌, List, [], ◌∷◌, length, filter, fold, Option, Some, None, is_some, Result, Ok, Err}
use Rattle.std.proofs.Common.{is_eq, nat_cmp, nat_le}
use Rattle.std.proofs.lemmas.Bool.{false≢true}
use Rattle.std.specs.BTreeSet.{insert_key}
use Rattle.std.specs.List.{AllByRecursion}
use Rattle.sctp_wire_types.specs.Config.{is_rfc}
use Rattle.sctp_wire_types.specs.declared.event.StreamResetError.{StreamResetError}
use Rattle.sctp_wire_types.specs.declared.param.ParamOutgoingResetRequest.{ParamOutgoingResetRequest}
use Rattle.sctp_wire_types.specs.declared.param.ParamReconfigResponse.{ParamReconfigResponse}
use Rattle.sctp_outbound_queue.specs.Outbound.{Outbound, has_stream}
use Rattle.sctp_reset_requests.specs.declared.own_request.OwnRequest.{OwnRequest}
use Rattle.sctp_reset_requests.specs.declared.own_request.SentRequest.{SentRequest}
use Rattle.sctp_reset_requests.specs.declared.outcome.Answered.{Answered}
use Rattle.sctp_reset_requests.specs.declared.outcome.Answered.TheVariants as answers
use Rattle.sctp_reset_requests.specs.Ids.{has_id, set_of}
use Rattle.sctp_reset_requests.specs.Own.{OwnView, answered, answered_with, answers_all, asked, asked_for, confirmed}
use Rattle.sctp_reset_requests.specs.Own.{ended, ended_as, expired, has_number, is_confirmed_by, marked_given_up}
use Rattle.sctp_reset_requests.specs.Own.{may_go, most_ids, outcome_of, param_again, put_ahead, put_off, quiet_ids}
use Rattle.sctp_reset_requests.specs.Own.{reciprocated, repeated, request_sent, sent_first, sent_from, sent_of}
use Rattle.sctp_reset_requests.specs.Own.{sent_param, with_active, with_given_up, with_performed, with_repeat}
use Rattle.sctp_reset_requests.specs.Own.{with_request, with_waiting}
use Rattle.sctp_reset_requests.specs.Peer.{PeerView}
use Rattle.sctp_reset_requests.specs.Request.{PeerRequestView, names, names_all}
use Rattle.sctp_resets.specs.Concerned.{sent_ids}
use Rattle.sctp_resets.specs.Within.{AreOver, AsksOver, NamesOver, OwnOver, ParamOverIf, SentOver}
use Rattle.sctp_resets.proofs.ListsOver.{IsPast, all_appended, all_filtered, all_taken, all_with_key, all_with_keys}
use Rattle.sctp_resets.proofs.ListsOver.{not_none_where, of_chosen, some_where, some_with_keys}
use Rattle.sctp_resets.proofs.StreamsBeside.{same_identifier}

-- The streams that are past their span.
module _ (over : ℕ → Bool) where
  -- Which streams are named

  -- a stream of a list of such streams
  pub has_over : (id : ℕ) (ids : List ℕ) → AreOver over ids → has_id id ids ≡ true → over id ≡ true
  has_over id [] each has = absurd (false≢true has)
  has_over id (x ∷ xs) each has = by (is_eq (nat_cmp id x)) refl has (has_over id xs each.1)
    where
      by : (b : Bool) → is_eq (nat_cmp id x) ≡ b → (b || has_id id xs) ≡ true
          → (has_id id xs ≡ true → over id ≡ true) → over id ≡ true
      by true same is others = ap over (same_identifier id x same) ∙ each.0
      by false apart is others = others is

  -- a request that names some streams is not for all
  pub not_for_all : (q : PeerRequestView) → NamesOver over q.ids → names_all q ≡ false
  not_for_all q n = not_none_where (length q.ids) n.some

  pub named_is_over : (q : PeerRequestView) (id : ℕ) → NamesOver over q.ids → names q id ≡ true → over id ≡ true
  named_is_over q id n is = by (names_all q) (not_for_all q n) is
    where
      by : (all : Bool) → all ≡ false → (all || has_id id q.ids) ≡ true → over id ≡ true
      by true none is = absurd (false≢true (sym none))
      by false none is = has_over id q.ids n.each is

  -- its answer is not for all either
  not_all_answered : (o : OwnView) (q : PeerRequestView) (ids : List ℕ) → NamesOver over q.ids
      → answers_all o q ids ≡ false
  not_all_answered o q ids n =
      by (names_all q) (length o.ahead == 0 || not (nat_le (length ids) most_ids)) (not_for_all q n)
    where
      by : (all more : Bool) → all ≡ false → (all && more) ≡ false
      by true more none = absurd (false≢true (sym none))
      by false more none = refl

  -- the set of what is listed
  pub set_over : (ids : List ℕ) → NamesOver over ids → NamesOver over (set_of ids)
  set_over [] n = n
  set_over (x ∷ xs) n = record {
    some = some_with_keys (x ∷ []) xs one;
    each = all_with_keys (IsPast over) [] (x ∷ xs) tt n.each;
  }
    where
      one : 0 < length (x ∷ [])
      one = omega arith

  -- The active request

  pub repeat_over : (due : Bool) (s : Option SentRequest) → SentOver over s → SentOver over (with_repeat due s)
  repeat_over due None sent = tt
  repeat_over due (Some s) sent = sent

  put_off_over : (marks : Bool) (s : Option SentRequest) → SentOver over s → SentOver over (put_off marks s)
  put_off_over marks None sent = tt
  put_off_over marks (Some s) sent = sent

  given_up_sent_over : (s : Option SentRequest) → SentOver over s → SentOver over (with_given_up s)
  given_up_sent_over None sent = tt
  given_up_sent_over (Some s) sent = sent

  pub sent_ids_over : (s : Option SentRequest) → SentOver over s → AreOver over (sent_ids s)
  sent_ids_over None sent = tt
  sent_ids_over (Some s) sent = sent.names.each

  with_active_over : (o : OwnView) (s : Option SentRequest) → OwnOver over o → SentOver over s
      → OwnOver over (with_active o s)
  with_active_over o s w sent = record { waiting = w.waiting; queued = w.queued; active = sent }

  pub own_expired_over : (o : OwnView) → OwnOver over o → OwnOver over (expired o)
  own_expired_over o w = with_active_over o _ w (repeat_over true o.active w.active)

  pub own_marked_over : (o : OwnView) → OwnOver over o → OwnOver over (marked_given_up o)
  own_marked_over o w = with_active_over o _ w (given_up_sent_over o.active w.active)

  -- the request as it goes over the wire
  param_over : (s : SentRequest) → AsksOver over s.request → NamesOver over (sent_param s).stream_identifiers
  param_over s a = by s.request.names_all a.not_all
    where
      by : (all : Bool) → all ≡ false → NamesOver over (cond all [] s.request.ids)
      by true none = absurd (false≢true (sym none))
      by false none = a.names

  again_param_over : (s : Option SentRequest) → SentOver over s → ParamOverIf over (param_again s)
  again_param_over None sent = tt
  again_param_over (Some s) sent =
      of_chosen (ParamOverIf over) s.repeat_due (Some (sent_param s)) None (param_over s sent) tt

  pub repeated_over : (o : OwnView) → OwnOver over o
      → OwnOver over (repeated o).0 × ParamOverIf over (repeated o).1
  repeated_over o w =
      (with_active_over o _ w (repeat_over false o.active w.active), again_param_over o.active w.active)

  -- Requests end

  own_ended_over : (o : OwnView) → OwnOver over o → OwnOver over (with_active o None)
  own_ended_over o w = with_active_over o None w tt

  pub own_given_up_over : (o : OwnView) → OwnOver over o → OwnOver over (ended o).0
  own_given_up_over o w = own_ended_over o w

  pub confirmed_over : (o : OwnView) (number : ℕ) → OwnOver over o → OwnOver over (confirmed o number).0
  confirmed_over o number w =
      of_chosen (λ (c : OwnView × Option OwnRequest). OwnOver over c.0) (is_confirmed_by o.active number) (ended o)
      (o, None) (own_ended_over o w) w

  -- this side is ahead of fewer streams
  pub own_performed_over : (o : OwnView) (named : List ℕ) → OwnOver over o → OwnOver over (with_performed o named)
  own_performed_over o named w = record { waiting = w.waiting; queued = w.queued; active = w.active }

  ended_as_over : (o : OwnView) (r : Option OwnRequest) (outcome : Result (Unit {0}) StreamResetError)
      → OwnOver over o → OwnOver over (ended_as (o, r) outcome).0
  ended_as_over o None outcome w = w
  ended_as_over o (Some r) (Ok done) w = w
  ended_as_over o (Some r) (Err reason) w = own_performed_over o r.ids w

  answered_with_over : (outcome : Option (Result (Unit {0}) StreamResetError)) (o : OwnView) → OwnOver over o
      → OwnOver over (answered_with outcome o).0
  answered_with_over None o w = with_active_over o _ w (put_off_over (is_rfc o.profile) o.active w.active)
  answered_with_over (Some outcome) o w =
      ended_as_over (with_active o None) (request_sent o.active) outcome (own_ended_over o w)

  pub answered_over : (o : OwnView) (response : ParamReconfigResponse) → OwnOver over o
      → OwnOver over (answered o response).0
  answered_over o response w =
      of_chosen (λ (a : OwnView × Answered). OwnOver over a.0)
      (has_number o.active response.reconfig_response_sequence_number) (answered_with (outcome_of response.result) o)
      (o, answers.Ignored) (answered_with_over (outcome_of response.result) o w) w

  -- Requests are made, and go out

  pub own_waiting_over : (o : OwnView) (id : ℕ) → over id ≡ true → OwnOver over o → OwnOver over (with_waiting o id)
  own_waiting_over o id one w = record {
    waiting = all_with_key (IsPast over) o.waiting id w.waiting one;
    queued = w.queued;
    active = w.active;
  }

  with_request_over : (o : OwnView) (response_number : ℕ) (all : Bool) (ids : List ℕ) → all ≡ false
      → NamesOver over ids → OwnOver over o → OwnOver over (with_request o response_number all ids)
  with_request_over o response_number all ids not_all n w = record {
    waiting = all_filtered (IsPast over) (λ id. not (has_id id ids)) o.waiting w.waiting;
    queued =
        all_appended (AsksOver over) o.queued
        (record { number = o.next_number; response_number = response_number; names_all = all; ids = ids } ∷ [])
        w.queued (record { not_all = not_all; names = n }, tt);
    active = w.active;
  }

  pub reciprocated_over : (o : OwnView) (q : PeerRequestView) (ids : List ℕ) → NamesOver over q.ids
      → AreOver over ids → OwnOver over o → OwnOver over (reciprocated o q ids)
  reciprocated_over o q ids named each w = by (length ids == 0) refl
    where
      by : (none : Bool) → (length ids == 0) ≡ none
          → OwnOver over (cond none o (with_request o q.number (answers_all o q ids) ids))
      by true e = w
      by false e =
          with_request_over o q.number (answers_all o q ids) ids (not_all_answered o q ids named)
          (record { some = some_where (length ids) e; each = each }) w

  put_ahead_over : (o : OwnView) (ids : List ℕ) → OwnOver over o → OwnOver over (put_ahead o ids)
  put_ahead_over o ids w = record { waiting = w.waiting; queued = w.queued; active = w.active }

  asked_for_over : (o : OwnView) (ids : List ℕ) (last : Option ℕ) → AreOver over ids → OwnOver over o
      → OwnOver over (asked_for ids last o).0
  asked_for_over o ids None each w = w
  asked_for_over o ids (Some last) each w = by (length ids == 0) refl
    where
      by : (none : Bool) → (length ids == 0) ≡ none
          → OwnOver over
          (cond {A = OwnView × Bool} none (o, false) (with_request (put_ahead o ids) last false ids, true)).0
      by true e = w
      by false e =
          with_request_over (put_ahead o ids) last false ids refl
          (record { some = some_where (length ids) e; each = each }) (put_ahead_over o ids w)

  pub own_asked_over : (o : OwnView) (q : Outbound) (p : PeerView) → OwnOver over o → OwnOver over (asked o q p).0
  own_asked_over o q p w =
      of_chosen (λ (a : OwnView × Bool). OwnOver over a.0) (is_some o.active || not (length o.queued == 0)) (o, false)
      (asked_for (quiet_ids o q) p.last_completed o) w
      (asked_for_over o (quiet_ids o q) p.last_completed
      (all_taken (IsPast over) most_ids (filter (λ id. not (has_stream q id)) o.waiting)
      (all_filtered (IsPast over) (λ id. not (has_stream q id)) o.waiting w.waiting)) w)

  -- requests of this side as they are then, and the one that goes out
  abbrev GoesOut : OwnView × Option ParamOutgoingResetRequest → Type 0
  GoesOut s = OwnOver over s.0 × ParamOverIf over s.1

  sent_from_over : (o : OwnView) (q : Outbound) (rs : List OwnRequest) → AllByRecursion (AsksOver over) rs
      → OwnOver over o → GoesOut (sent_from rs o q)
  sent_from_over o q [] each w = (w, tt)
  sent_from_over o q (r ∷ rs) each w =
      of_chosen GoesOut (may_go r q) _ (o, None)
      (record { waiting = w.waiting; queued = each.1; active = each.0 }, param_over (sent_of r q) each.0) (w, tt)

  pub sent_first_over : (o : OwnView) (q : Outbound) → OwnOver over o
      → OwnOver over (sent_first o q).0 × ParamOverIf over (sent_first o q).1
  sent_first_over o q w =
      of_chosen GoesOut (is_some o.active) (o, None) (sent_from o.queued o q) (w, tt)
      (sent_from_over o q o.queued w.queued w)
