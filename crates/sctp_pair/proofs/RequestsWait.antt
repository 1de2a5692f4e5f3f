-- A request of a side to reset streams does not go out for the first time while DATA of one of them waits or is in
-- flight.
use Rattle.std.proofs.Common.{◌≡◌, refl, sym, ap, ◌∙◌, ⊎_elim, ℕ, suc, ◌==◌, Bool, true, false, ◌&&◌, ◌||◌, not, cond}
use Rattle.std.proofs.Common.{List, [], ◌∷◌, length, None, is_some, arith}
use Rattle.std.proofs.lemmas.Bool.{cases_Bool, false≢true, or_parts, true≢false}
use Rattle.std.proofs.lemmas.Bool.Decides.{nat_tests}
use Rattle.std.specs.List.{AllByRecursion, list_any}
use Rattle.sctp_outbound_queue.specs.Message.{is_of_stream, is_waiting_of_stream}
use Rattle.sctp_outbound_queue.specs.Outbound.{Outbound, has_stream}
use Rattle.sctp_reset_requests.specs.declared.own_request.OwnRequest.{OwnRequest}
use Rattle.sctp_reset_requests.specs.Ids.{has_id}
use Rattle.sctp_reset_requests.specs.Laws.{DataHoldsBack}
use Rattle.sctp_reset_requests.specs.Own.{is_quiet, resets, sent_from}
use Rattle.sctp_resets.proofs.OwnOver.{has_over}

some_left : {X : Type 0} (test : X → Bool) (xs : List X) → list_any test xs ≡ true → (length xs == 0) ≡ false
some_left test [] e = absurd (false≢true e)
some_left test (x ∷ xs) e = more (length xs)
  where
    more : (n : ℕ) → (suc n == 0) ≡ false
    more n = grind (arith, nat_tests)

-- what holds of none of a list fails of each of it
none_each : (test : ℕ → Bool) (ids : List ℕ) → list_any test ids ≡ false
    → AllByRecursion (λ (id : ℕ). not (test id) ≡ true) ids
none_each test [] e = tt
none_each test (id ∷ ids) e =
    let parts = or_parts (test id) (list_any test ids) e in (ap not parts.0, none_each test ids parts.1)

-- DATA of stream id waits or is in flight.
module _ (q : Outbound) (id : ℕ) (held : has_stream q id ≡ true) where
  not_empty : ((length q.pending == 0) && (length q.in_flight == 0)) ≡ false
  not_empty = by (list_any (is_waiting_of_stream id) q.pending) refl held
    where
      neither : (b : Bool) → (b && false) ≡ false
      neither true = refl
      neither false = refl

      by : (b : Bool) → list_any (is_waiting_of_stream id) q.pending ≡ b
          → (b || list_any (is_of_stream id) q.in_flight) ≡ true
          → ((length q.pending == 0) && (length q.in_flight == 0)) ≡ false
      by true f g = rw (some_left (is_waiting_of_stream id) q.pending f) refl
      by false f g = rw (some_left (is_of_stream id) q.in_flight g) (neither (length q.pending == 0))

  one_held : (ids : List ℕ) → has_id id ids ≡ true → not (list_any (has_stream q) ids) ≡ false
  one_held ids named =
      ⊎_elim
      (λ (some : list_any (has_stream q) ids ≡ true). ap not some)
      (λ (none : list_any (has_stream q) ids ≡ false).
      absurd (true≢false (sym (has_over (λ (z : ℕ). not (has_stream q z)) id ids (none_each (has_stream q) ids none)
      named) ∙ ap not held)))
      (cases_Bool (list_any (has_stream q) ids))

  -- so a request for it is not quiet
  not_quiet : (r : OwnRequest) → resets id r ≡ true → is_quiet r q ≡ false
  not_quiet r named = by r.names_all named
    where
      by : (all : Bool) → (all || has_id id r.ids) ≡ true
          → cond all ((length q.pending == 0) && (length q.in_flight == 0)) (not (list_any (has_stream q) r.ids))
          ≡ false
      by true is = not_empty
      by false is = one_held r.ids is

pub requests_wait : DataHoldsBack
requests_wait o q r rs id first named held = by (is_some o.active)
  where
    waits : sent_from o.queued o q ≡ (o, None)
    waits = rw (first, not_quiet q id held r named) refl

    by : (active : Bool) → cond active (o, None) (sent_from o.queued o q) ≡ (o, None)
    by true = refl
    by false = waits
