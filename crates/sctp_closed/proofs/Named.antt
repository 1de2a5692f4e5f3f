-- The streams that a request names are of those that resets concern.
use Rattle.std.proofs.Common.{◌≡◌, sym, ℕ, Bool, true, false, cond, [], filter, Option, Some, None, is_some, Result}
use Rattle.std.specs.Prelude.{⊤}
use Rattle.std.proofs.lemmas.Bool.{false≢true}
use Rattle.sctp_wire_types.specs.Config.{is_rfc}
use Rattle.sctp_wire_types.specs.declared.event.StreamResetError.{StreamResetError}
use Rattle.sctp_wire_types.specs.declared.param.ParamOutgoingResetRequest.{ParamOutgoingResetRequest}
use Rattle.sctp_wire_types.specs.declared.param.ParamReconfigResponse.{ParamReconfigResponse}
use Rattle.sctp_streams.specs.Streams.{StreamMap, live_ids, stream_at}
use Rattle.sctp_reset_requests.specs.declared.own_request.OwnRequest.{OwnRequest}
use Rattle.sctp_reset_requests.specs.declared.own_request.SentRequest.{SentRequest}
use Rattle.sctp_reset_requests.specs.declared.outcome.Answered.{Answered}
use Rattle.sctp_reset_requests.specs.declared.outcome.Answered.TheVariants as answers
use Rattle.sctp_reset_requests.specs.Own as own
use Rattle.sctp_reset_requests.specs.Own.{OwnView, answered_with, ended_as, has_number, is_confirmed_by, outcome_of}
use Rattle.sctp_reset_requests.specs.Own.{request_sent, with_active}
use Rattle.sctp_reset_requests.specs.Request.{PeerRequestView, names_all, request_of}
use Rattle.sctp_resets.specs.Performing.{named_in, named_live}
use Rattle.sctp_resets.specs.Within.{AreOver, NamesOver, OwnOver, ParamOver, SentOver}
use Rattle.sctp_resets.proofs.ListsOver.{IsPast, all_filtered, of_chosen}
use Rattle.sctp_resets.proofs.OwnOver.{not_for_all, set_over}

-- The streams that a request names

module _ (over : ℕ → Bool) where
  -- a request of the peer names a set of what it lists
  pub request_names_over : (param : ParamOutgoingResetRequest) → ParamOver over param
      → NamesOver over (request_of param).ids
  request_names_over param n = set_over over param.stream_identifiers n

  pub named_live_over : (m : StreamMap) (q : PeerRequestView) → NamesOver over q.ids → AreOver over (named_live m q)
  named_live_over m q n = by (names_all q) (not_for_all over q n)
    where
      by : (all : Bool) → all ≡ false
          → AreOver over (cond all (live_ids m) (filter (λ id. is_some (stream_at m id)) q.ids))
      by true none = absurd (false≢true (sym none))
      by false none = all_filtered (IsPast over) (λ id. is_some (stream_at m id)) q.ids n.each

  pub named_in_over : (o : OwnView) (m : StreamMap) (q : PeerRequestView) → NamesOver over q.ids
      → AreOver over (named_in o m q)
  named_in_over o m q n = by (is_rfc o.profile) (names_all q) (not_for_all over q n)
    where
      by : (by_rfcs all : Bool) → all ≡ false → AreOver over (cond by_rfcs (cond all (live_ids m) q.ids) [])
      by true true none = absurd (false≢true (sym none))
      by true false none = n.each
      by false all none = tt

  -- The request of this side that ends, if one does

  abbrev pub EndedOver : Option OwnRequest → Type 0
  EndedOver None = ⊤
  EndedOver (Some q) = AreOver over q.ids

  pub sent_ends_over : (s : Option SentRequest) → SentOver over s → EndedOver (request_sent s)
  sent_ends_over None sent = tt
  sent_ends_over (Some s) sent = sent.names.each

  pub confirmed_ends : (o : OwnView) (number : ℕ) → OwnOver over o → EndedOver (own.confirmed o number).1
  confirmed_ends o number w =
      of_chosen (λ (c : OwnView × Option OwnRequest). EndedOver c.1) (is_confirmed_by o.active number) (own.ended o)
      (o, None) (sent_ends_over o.active w.active) tt

  abbrev pub AnsweredOver : Answered → Type 0
  AnsweredOver answers.Ignored = ⊤
  AnsweredOver answers.InProgress = ⊤
  AnsweredOver (answers.Ended q outcome) = AreOver over q.ids

  ended_as_over : (o : OwnView) (s : Option SentRequest) (outcome : Result (Unit {0}) StreamResetError)
      → SentOver over s → AnsweredOver (ended_as (o, request_sent s) outcome).1
  ended_as_over o None outcome sent = tt
  ended_as_over o (Some s) outcome sent = sent.names.each

  answered_with_over : (outcome : Option (Result (Unit {0}) StreamResetError)) (o : OwnView) → OwnOver over o
      → AnsweredOver (answered_with outcome o).1
  answered_with_over None o w = tt
  answered_with_over (Some outcome) o w = ended_as_over (with_active o None) o.active outcome w.active

  pub answered_over : (o : OwnView) (response : ParamReconfigResponse) → OwnOver over o
      → AnsweredOver (own.answered o response).1
  answered_over o response w =
      of_chosen (λ (a : OwnView × Answered). AnsweredOver a.1)
      (has_number o.active response.reconfig_response_sequence_number) (answered_with (outcome_of response.result) o)
      (o, answers.Ignored) (answered_with_over (outcome_of response.result) o w) tt

  -- those of which it is told that they failed where it is given up and goes on
  pub failing_over : (s : Option SentRequest) → SentOver over s → AreOver over (own.failing_ids s)
  failing_over None sent = tt
  failing_over (Some s) sent = of_chosen (AreOver over) s.is_given_up [] s.request.ids tt sent.names.each
