-- Numbers of requests of the peer that were performed, what becomes of a request that comes by its number, and this
-- side's requests, whose response numbers are such numbers.
use Rattle.std.proofs.Common.{◌≡◌, refl, sym, ap, ◌∙◌, subst, ℕ, ◌+◌, ◌^◌, ◌<◌, ◌≤◌, ◌==◌, ◌||◌, Bool, true, false}
use Rattle.std.proofs.Common.{cond, not, List, [], ◌∷◌, ◌++◌, length, Option, Some, None, is_some, Result, Ok, Err}
use Rattle.std.proofs.Common.{arith}
use Rattle.std.proofs.lemmas.Bool.{eqb-true, false≢true, ltb-true}
use Rattle.std.specs.Prelude.{⊤}
use Rattle.std.specs.List.{AllByRecursion}
use Rattle.sctp_serial.specs.Serial.{tsn, tsn_after, tsn_lte}
use Rattle.sctp_model.proofs.Lists.{all_push}
use Rattle.sctp_wire_types.specs.Config.{is_rfc}
use Rattle.sctp_wire_types.specs.declared.event.StreamResetError.{StreamResetError}
use Rattle.sctp_wire_types.specs.declared.param.ParamOutgoingResetRequest.{ParamOutgoingResetRequest}
use Rattle.sctp_wire_types.specs.declared.param.ParamReconfigResponse.{ParamReconfigResponse}
use Rattle.sctp_wire_types.specs.declared.param.ReconfigResult.{ReconfigResult}
use Rattle.sctp_wire_types.specs.declared.param.ReconfigResult.TheVariants as results
use Rattle.sctp_outbound_queue.specs.Outbound.{Outbound}
use Rattle.sctp_reset_requests.specs.declared.answer.Arrival.{Arrival}
use Rattle.sctp_reset_requests.specs.declared.answer.Arrival.TheVariants as arrivals
use Rattle.sctp_reset_requests.specs.declared.answer.Standing.{Standing}
use Rattle.sctp_reset_requests.specs.declared.answer.Standing.TheVariants as standings
use Rattle.sctp_reset_requests.specs.declared.outcome.Answered.{Answered}
use Rattle.sctp_reset_requests.specs.declared.outcome.Answered.TheVariants as answers
use Rattle.sctp_reset_requests.specs.declared.own_request.OwnRequest.{OwnRequest}
use Rattle.sctp_reset_requests.specs.declared.own_request.SentRequest.{SentRequest}
use Rattle.sctp_reset_requests.specs.Laws.{HasNumber, IsCompletedUpTo}
use Rattle.sctp_reset_requests.specs.Own.{OwnView, answered, answered_with, answers_all, asked, asked_for, confirmed}
use Rattle.sctp_reset_requests.specs.Own.{ended, ended_as, has_number, is_confirmed_by, marked_given_up, may_go}
use Rattle.sctp_reset_requests.specs.Own.{open_with, outcome_of, param_again, put_ahead, put_off, quiet_ids}
use Rattle.sctp_reset_requests.specs.Own.{reciprocated, repeated, request_sent, sent_first, sent_from, sent_of}
use Rattle.sctp_reset_requests.specs.Own.{sent_param, with_active, with_given_up, with_repeat, with_request}
use Rattle.sctp_reset_requests.specs.Peer.{PeerView, advanced, advanced_with, arrived, arrived_as, completed}
use Rattle.sctp_reset_requests.specs.Peer.{is_completed, is_current, is_next, number_before, taken_up}
use Rattle.sctp_reset_requests.specs.Request.{PeerRequestView, is_due}
use Rattle.sctp_resets.proofs.ListsOver.{of_chosen}
use Rattle.sctp_courses.specs.Course.{Course}
use Rattle.sctp_reset_fit.specs.Stands.{last_below}
use Rattle.sctp_reset_fit.proofs.Numbers.{lte_below}
use Rattle.sctp_course_sides.specs.Answers.{IsOfPerformed}

-- Numbers

completed_before : (initial n : ℕ) → tsn initial n ≡ number_before (tsn initial (n + 1))
completed_before initial n = omega arith

next_of_last : (initial n number : ℕ) → (number == tsn_after (number_before (tsn initial n))) ≡ true
    → number ≡ tsn initial n
next_of_last initial n number e =
    let same : number ≡ tsn_after (number_before (tsn initial n)) = eqb-true number _ e in
    same ∙ omega arith

pub at_most : (n m k : ℕ) → n ≤ m → m ≤ k → n ≤ k
at_most n m k e f = omega (arith, e, f)

one_past : (index n k : ℕ) → index < n → n ≤ k → index + 1 ≤ k
one_past index n k e f = omega (arith, e, f)

pub some_same : (x y : ℕ) → Some x ≡ Some y → x ≡ y
some_same x y e = cc

counts_alike : (initial m n : ℕ) → m < 2 ^ 32 → n < 2 ^ 32
    → number_before (tsn initial m) ≡ number_before (tsn initial n) → m ≡ n
counts_alike initial m n few less e = omega (arith, few, less, e)

-- so many requests are completed in one way only
pub completed_once : (initial m n : ℕ) (p : PeerView) → m < 2 ^ 32 → n < 2 ^ 32 → IsCompletedUpTo initial m p
    → IsCompletedUpTo initial n p → m ≡ n
completed_once initial m n p few less g h = counts_alike initial m n few less (some_same _ _ (sym g.last ∙ h.last))

-- what was performed stays so
pub true_of : (initial : ℕ) (c d : Course) (number : ℕ) → IsOfPerformed initial c number → c.performed ≤ d.performed
    → IsOfPerformed initial d number
true_of initial c d number t grows = record {
  count = t.count;
  performed = at_most t.count c.performed d.performed t.performed grows;
  is = t.is;
}

-- a request at or below the last one that was completed was performed
pub completed_is_true : (initial : ℕ) (d : Course) (n index number : ℕ) → index < 2 ^ 31 → n < 2 ^ 31
    → n ≤ d.performed → number ≡ tsn initial index → tsn_lte number (number_before (tsn initial n)) ≡ true
    → IsOfPerformed initial d number
completed_is_true initial d n index number few less known is below =
    let there : tsn_lte (tsn initial index) (last_below initial n) ≡ true =
    subst (λ (k : ℕ). tsn_lte k (number_before (tsn initial n)) ≡ true) is below in
    let before : index < n = ltb-true index n (sym (lte_below initial index n few less) ∙ there) in
    record {
      count = index + 1;
      performed = one_past index n d.performed before known;
      is = is ∙ completed_before initial index;
    }

-- the next one, where one more was performed
pub performed_is_true : (initial : ℕ) (d : Course) (n number : ℕ) → n + 1 ≤ d.performed → number ≡ tsn initial n
    → IsOfPerformed initial d number
performed_is_true initial d n number known is =
    record { count = n + 1; performed = known; is = is ∙ completed_before initial n }

-- and the last one that was completed, or the one before the first
pub last_is_true : (initial : ℕ) (d : Course) (n : ℕ) (p : PeerView) → n ≤ d.performed → IsCompletedUpTo initial n p
    → (number : ℕ) → p.last_completed ≡ Some number → IsOfPerformed initial d number
last_is_true initial d n p known h number e =
    record { count = n; performed = known; is = some_same _ _ (sym e ∙ h.last) }

-- A request of the peer that comes

-- so many are completed where the last TSN in order moves, and one more where one is performed, which is the next one
abbrev pub AdvancesTruly : ℕ → ℕ → PeerView × Option PeerRequestView → Type 0
AdvancesTruly initial n (p, None) = IsCompletedUpTo initial n p
AdvancesTruly initial n (p, Some q) = IsCompletedUpTo initial (n + 1) p × (q.number ≡ tsn initial n)

abbrev pub IsSuccess : ReconfigResult → Type 0
IsSuccess result = outcome_of result ≡ Some (Ok tt)

-- and where a request of this number comes: it is answered as performed only at or below the last one that was
-- completed
abbrev pub ArrivesTruly : ℕ → ℕ → ℕ → PeerView × Arrival → Type 0
ArrivesTruly initial n number (p, arrivals.Answered result) =
    IsCompletedUpTo initial n p × (IsSuccess result → tsn_lte number (number_before (tsn initial n)) ≡ true)
ArrivesTruly initial n number (p, arrivals.Performed q) =
    IsCompletedUpTo initial (n + 1) p × (q.number ≡ tsn initial n) × (number ≡ tsn initial n)

abbrev succeeds : Option (Result (Unit {0}) StreamResetError) → Bool
succeeds None = false
succeeds (Some (Ok done)) = true
succeeds (Some (Err reason)) = false

no_success : (result : ReconfigResult) → succeeds (outcome_of result) ≡ false → IsSuccess result → ⊥
no_success result none is = false≢true (sym none ∙ ap succeeds is)

abbrev standing_by : Bool → Bool → Bool → Bool → Standing
standing_by current done busy next =
    cond current standings.InProgress
    (cond done standings.Completed
    (cond busy standings.AnotherInProgress (cond next standings.Next standings.OutOfOrder)))

module _ (initial n : ℕ) where
  advances_with : (o : Option PeerRequestView) (p : PeerView) (t : ℕ) → IsCompletedUpTo initial n p
      → HasNumber o (tsn initial n) → AdvancesTruly initial n (advanced_with o p t)
  advances_with None p t h e = h
  advances_with (Some r) p t h e =
      of_chosen (AdvancesTruly initial n) (is_due r t) (completed r, Some r) (p, None)
      (record { last = ap Some (e ∙ completed_before initial n); current = tt }, e) h

  pub advances_truly : (p : PeerView) (t : ℕ) → IsCompletedUpTo initial n p → AdvancesTruly initial n (advanced p t)
  advances_truly p t h = advances_with p.in_progress p t h h.current

  taken_truly : (number : ℕ) (x : PeerView × Option PeerRequestView) → number ≡ tsn initial n
      → AdvancesTruly initial n x → ArrivesTruly initial n number (taken_up x)
  taken_truly number (p, None) is h =
      (h, λ (s : IsSuccess results.InProgress). absurd (no_success results.InProgress refl s))
  taken_truly number (p, Some q) is h = (h.0, h.1, is)

  current_number : (o : Option PeerRequestView) (number : ℕ) → HasNumber o (tsn initial n)
      → is_current o number ≡ true → number ≡ tsn initial n
  current_number None number h e = absurd (false≢true e)
  current_number (Some r) number h e = sym (eqb-true r.number number e) ∙ h

  arrives_as : (current done busy next : Bool) (p : PeerView) (r : PeerRequestView) (t : ℕ)
      → IsCompletedUpTo initial n p → is_current p.in_progress r.number ≡ current
      → is_completed p.last_completed r.number ≡ done → is_next p.last_completed r.number ≡ next
      → ArrivesTruly initial n r.number (arrived_as (standing_by current done busy next) p r t)
  arrives_as true done busy next p r t h c d e =
      taken_truly r.number (advanced p t) (current_number p.in_progress r.number h.current c) (advances_truly p t h)
  arrives_as false true busy next p r t h c d e =
      (h, λ (s : IsSuccess results.SuccessPerformed). subst (λ (o : Option ℕ). is_completed o r.number ≡ true) h.last d)
  arrives_as false false true next p r t h c d e = (
    h,
    λ (s : IsSuccess results.ErrorRequestAlreadyInProgress).
        absurd (no_success results.ErrorRequestAlreadyInProgress refl s),
  )
  arrives_as false false false true p r t h c d e =
      let is : r.number ≡ tsn initial n =
      next_of_last initial n r.number (subst (λ (o : Option ℕ). is_next o r.number ≡ true) h.last e) in
      let q : PeerView = record p { in_progress = Some r } in
      let up : IsCompletedUpTo initial n q = record { last = h.last; current = is } in
      taken_truly r.number (advanced q t) is (advances_truly q t up)
  arrives_as false false false false p r t h c d e = (
    h,
    λ (s : IsSuccess results.ErrorBadSequenceNumber). absurd (no_success results.ErrorBadSequenceNumber refl s),
  )

  pub arrives_truly : (p : PeerView) (r : PeerRequestView) (t : ℕ) → IsCompletedUpTo initial n p
      → ArrivesTruly initial n r.number (arrived p r t)
  arrives_truly p r t h =
      arrives_as (is_current p.in_progress r.number) (is_completed p.last_completed r.number) (is_some p.in_progress)
      (is_next p.last_completed r.number) p r t h refl refl refl

-- This side's requests. What holds of numbers:
module _ (N : ℕ → Type 0) where
  -- it holds of the response numbers of those that are not answered
  abbrev pub OwnIsTrue : OwnView → Type 0
  OwnIsTrue o = AllByRecursion (λ (r : OwnRequest). N r.response_number) (open_with o.active o.queued)

  -- and of that of one that goes out, if one does
  abbrev pub SaysTruly : Option ParamOutgoingResetRequest → Type 0
  SaysTruly None = ⊤
  SaysTruly (Some param) = N param.reconfig_response_sequence_number

  abbrev pub GoesTruly : OwnView × Option ParamOutgoingResetRequest → Type 0
  GoesTruly x = OwnIsTrue x.0 × SaysTruly x.1

  open_ended : (active : Option SentRequest) (queued : List OwnRequest)
      → AllByRecursion (λ (r : OwnRequest). N r.response_number) (open_with active queued)
      → AllByRecursion (λ (r : OwnRequest). N r.response_number) queued
  open_ended None queued h = h
  open_ended (Some s) queued h = h.1

  open_more : (active : Option SentRequest) (queued : List OwnRequest) (r : OwnRequest)
      → AllByRecursion (λ (r : OwnRequest). N r.response_number) (open_with active queued) → N r.response_number
      → AllByRecursion (λ (r : OwnRequest). N r.response_number) (open_with active (queued ++ r ∷ []))
  open_more None queued r h one = all_push (λ (r : OwnRequest). N r.response_number) queued r h one
  open_more (Some s) queued r h one = (h.0, all_push (λ (r : OwnRequest). N r.response_number) queued r h.1 one)

  open_again : (due : Bool) (active : Option SentRequest) (queued : List OwnRequest)
      → AllByRecursion (λ (r : OwnRequest). N r.response_number) (open_with active queued)
      → AllByRecursion (λ (r : OwnRequest). N r.response_number) (open_with (with_repeat due active) queued)
  open_again due None queued h = h
  open_again due (Some s) queued h = h

  open_put_off : (marks : Bool) (active : Option SentRequest) (queued : List OwnRequest)
      → AllByRecursion (λ (r : OwnRequest). N r.response_number) (open_with active queued)
      → AllByRecursion (λ (r : OwnRequest). N r.response_number) (open_with (put_off marks active) queued)
  open_put_off marks None queued h = h
  open_put_off marks (Some s) queued h = h

  open_given_up : (active : Option SentRequest) (queued : List OwnRequest)
      → AllByRecursion (λ (r : OwnRequest). N r.response_number) (open_with active queued)
      → AllByRecursion (λ (r : OwnRequest). N r.response_number) (open_with (with_given_up active) queued)
  open_given_up None queued h = h
  open_given_up (Some s) queued h = h

  -- the active one ends, is to go out again, or is given up and goes on

  pub ended_truly : (o : OwnView) → OwnIsTrue o → OwnIsTrue (with_active o None)
  ended_truly o h = open_ended o.active o.queued h

  pub again_truly : (due : Bool) (o : OwnView) → OwnIsTrue o → OwnIsTrue (with_active o (with_repeat due o.active))
  again_truly due o h = open_again due o.active o.queued h

  pub given_up_truly : (o : OwnView) → OwnIsTrue o → OwnIsTrue (marked_given_up o)
  given_up_truly o h = open_given_up o.active o.queued h

  pub confirmed_truly : (o : OwnView) (number : ℕ) → OwnIsTrue o → OwnIsTrue (confirmed o number).0
  confirmed_truly o number h =
      of_chosen (λ (x : OwnView × Option OwnRequest). OwnIsTrue x.0) (is_confirmed_by o.active number) (ended o)
      (o, None) (ended_truly o h) h

  ended_as_truly : (o : OwnView) (r : Option OwnRequest) (outcome : Result (Unit {0}) StreamResetError)
      → OwnIsTrue o → OwnIsTrue (ended_as (o, r) outcome).0
  ended_as_truly o None outcome h = h
  ended_as_truly o (Some r) outcome h = h

  answered_with_truly : (outcome : Option (Result (Unit {0}) StreamResetError)) (o : OwnView) → OwnIsTrue o
      → OwnIsTrue (answered_with outcome o).0
  answered_with_truly None o h = open_put_off (is_rfc o.profile) o.active o.queued h
  answered_with_truly (Some outcome) o h =
      ended_as_truly (with_active o None) (request_sent o.active) outcome (ended_truly o h)

  pub answered_truly : (o : OwnView) (response : ParamReconfigResponse) → OwnIsTrue o
      → OwnIsTrue (answered o response).0
  answered_truly o response h =
      of_chosen (λ (x : OwnView × Answered). OwnIsTrue x.0)
      (has_number o.active response.reconfig_response_sequence_number) (answered_with (outcome_of response.result) o)
      (o, answers.Ignored) (answered_with_truly (outcome_of response.result) o h) h

  -- one is made

  with_request_truly : (o : OwnView) (number : ℕ) (all : Bool) (ids : List ℕ) → N number → OwnIsTrue o
      → OwnIsTrue (with_request o number all ids)
  with_request_truly o number all ids one h =
      open_more o.active o.queued
      (record { number = o.next_number; response_number = number; names_all = all; ids = ids }) h one

  pub reciprocated_truly : (o : OwnView) (q : PeerRequestView) (ids : List ℕ) → N q.number → OwnIsTrue o
      → OwnIsTrue (reciprocated o q ids)
  reciprocated_truly o q ids one h =
      of_chosen OwnIsTrue (length ids == 0) o (with_request o q.number (answers_all o q ids) ids) h
      (with_request_truly o q.number (answers_all o q ids) ids one h)

  asked_for_truly : (ids : List ℕ) (last : Option ℕ) (o : OwnView) → ((number : ℕ) → last ≡ Some number → N number)
      → OwnIsTrue o → OwnIsTrue (asked_for ids last o).0
  asked_for_truly ids None o says h = h
  asked_for_truly ids (Some last) o says h =
      of_chosen (λ (x : OwnView × Bool). OwnIsTrue x.0) (length ids == 0) (o, false)
      (with_request (put_ahead o ids) last false ids, true) h
      (with_request_truly (put_ahead o ids) last false ids (says last refl) h)

  pub asked_truly : (o : OwnView) (q : Outbound) (p : PeerView)
      → ((number : ℕ) → p.last_completed ≡ Some number → N number) → OwnIsTrue o → OwnIsTrue (asked o q p).0
  asked_truly o q p says h =
      of_chosen (λ (x : OwnView × Bool). OwnIsTrue x.0) (is_some o.active || not (length o.queued == 0)) (o, false)
      (asked_for (quiet_ids o q) p.last_completed o) h
      (asked_for_truly (quiet_ids o q) p.last_completed o says h)

  -- one goes out

  sent_from_truly : (rs : List OwnRequest) (o : OwnView) (q : Outbound)
      → AllByRecursion (λ (r : OwnRequest). N r.response_number) rs → OwnIsTrue o → GoesTruly (sent_from rs o q)
  sent_from_truly [] o q each h = (h, tt)
  sent_from_truly (r ∷ rs) o q each h =
      of_chosen GoesTruly (may_go r q)
      (record o { queued = rs; active = Some (sent_of r q) }, Some (sent_param (sent_of r q))) (o, None) (each, each.0)
      (h, tt)

  pub sent_first_truly : (o : OwnView) (q : Outbound) → OwnIsTrue o → GoesTruly (sent_first o q)
  sent_first_truly o q h =
      of_chosen GoesTruly (is_some o.active) (o, None) (sent_from o.queued o q) (h, tt)
      (sent_from_truly o.queued o q (open_ended o.active o.queued h) h)

  again_said_truly : (active : Option SentRequest) (queued : List OwnRequest)
      → AllByRecursion (λ (r : OwnRequest). N r.response_number) (open_with active queued)
      → SaysTruly (param_again active)
  again_said_truly None queued h = tt
  again_said_truly (Some s) queued h = of_chosen SaysTruly s.repeat_due (Some (sent_param s)) None h.0 tt

  pub repeated_truly : (o : OwnView) → OwnIsTrue o → GoesTruly (repeated o)
  repeated_truly o h = (again_truly false o h, again_said_truly o.active o.queued h)
