-- A request is held back while DATA of its streams waits or is unacknowledged, or while another one is active.
use Rattle.std.proofs.Common.{◌≡◌, refl, sym, ap, ◌∙◌, ℕ, suc, ◌==◌, Bool, true, false, ◌&&◌, ◌||◌, not, cond}
use Rattle.std.proofs.Common.{List, [], ◌∷◌, length, None, is_some, is_eq, nat_cmp, arith}
use Rattle.std.proofs.lemmas.Bool.{false≢true}
use Rattle.std.proofs.lemmas.Bool.Decides.{nat_tests}
use Rattle.std.specs.List.{list_any}
use Rattle.sctp_outbound_queue.specs.Message.{is_of_stream, is_waiting_of_stream}
use Rattle.sctp_outbound_queue.specs.Outbound.{Outbound, has_stream}
use Rattle.sctp_reset_requests.proofs.Sets.{found_same}
use Rattle.sctp_reset_requests.specs.Ids.{has_id}
use Rattle.sctp_reset_requests.specs.Own.{is_quiet, resets, sent_from}
use Rattle.sctp_reset_requests.specs.Laws.{OneIsActive, OneIsOpen, DataHoldsBack}
use Rattle.sctp_reset_requests.specs.declared.own_request.OwnRequest.{OwnRequest}

pub one_is_active : OneIsActive
one_is_active o q active = rw active refl

pub one_is_open : OneIsOpen
one_is_open o q p active = rw active refl

-- what holds of an identifier of a list holds of one of them
any_of_found : (test : ℕ → Bool) (id : ℕ) (ids : List ℕ) → has_id id ids ≡ true → test id ≡ true
    → list_any test ids ≡ true
any_of_found test id [] found holds = absurd (false≢true found)
any_of_found test id (x ∷ xs) found holds =
    by (is_eq (nat_cmp id x)) refl found (λ f. any_of_found test id xs f holds)
  where
    either : (b : Bool) → list_any test xs ≡ true → (b || list_any test xs) ≡ true
    either true m = refl
    either false m = m

    by : (b : Bool) → is_eq (nat_cmp id x) ≡ b → (b || has_id id xs) ≡ true
        → (has_id id xs ≡ true → list_any test xs ≡ true) → (test x || list_any test xs) ≡ true
    by true e f more = rw (sym (ap test (found_same id x e)) ∙ holds) refl
    by false e f more = either (test x) (more f)

some_left : {X : Type 0} (test : X → Bool) (xs : List X) → list_any test xs ≡ true → (length xs == 0) ≡ false
some_left test [] e = absurd (false≢true e)
some_left test (x ∷ xs) e = none (length xs)
  where
    none : (n : ℕ) → (suc n == 0) ≡ false
    none n = grind (arith, nat_tests)

not_empty : (q : Outbound) (id : ℕ) → has_stream q id ≡ true
    → ((length q.pending == 0) && (length q.in_flight == 0)) ≡ false
not_empty q id e = by (list_any (is_waiting_of_stream id) q.pending) refl e
  where
    neither : (b : Bool) → (b && false) ≡ false
    neither true = refl
    neither false = refl

    by : (b : Bool) → list_any (is_waiting_of_stream id) q.pending ≡ b
        → (b || list_any (is_of_stream id) q.in_flight) ≡ true
        → ((length q.pending == 0) && (length q.in_flight == 0)) ≡ false
    by true f g = rw (some_left (is_waiting_of_stream id) q.pending f) refl
    by false f g = rw (some_left (is_of_stream id) q.in_flight g) (neither (length q.pending == 0))

not_quiet : (r : OwnRequest) (q : Outbound) (id : ℕ) → resets id r ≡ true → has_stream q id ≡ true
    → is_quiet r q ≡ false
not_quiet r q id e f = by r.names_all e
  where
    by : (all : Bool) → (all || has_id id r.ids) ≡ true
        → cond all ((length q.pending == 0) && (length q.in_flight == 0)) (not (list_any (has_stream q) r.ids)) ≡ false
    by true g = not_empty q id f
    by false g = ap not (any_of_found (has_stream q) id r.ids g f)

pub data_holds_back : DataHoldsBack
data_holds_back o q r rs id first e f = by (is_some o.active)
  where
    held : sent_from o.queued o q ≡ (o, None)
    held = rw (first, not_quiet r q id e f) refl

    by : (active : Bool) → cond active (o, None) (sent_from o.queued o q) ≡ (o, None)
    by true = refl
    by false = held
