-- The span of a stream ends: nothing is said of it from then on, and of each other one the same.
use Rattle.std.proofs.Common.{◌≡◌, refl, sym, ◌∙◌, subst, ⊎_elim, ℕ, Bool, true, false, not, eqb}
use Rattle.std.proofs.lemmas.Bool.{cases_Bool, cond-false, cond-true, false≢true, true≢false}
use Rattle.sctp_model.specs.Messages.{Plan}
use Rattle.sctp_model.specs.Machine.{happens, is_unsent, put}
use Rattle.sctp_fit.specs.Incoming.{IsQueueAt}
use Rattle.sctp_fit.specs.Outgoing.{IsOwnAt, Names}
use Rattle.sctp_fit.specs.Spans.{SpansEnd, SpansEndWhereItComes, StreamsPastTheirSpanChange}
use Rattle.sctp_fit.specs.Spans.{StreamsPastTheirSpanChangeWhereItComes}
use Rattle.sctp_fit.proofs.NamesKept.{KeepsMessages, all_waiting_kept, flight_kept}

-- where the test still fails, it failed before, and of another stream
module _ (over : ℕ → Bool) (s t : ℕ) (e : put over s true t ≡ false) where
  pub another : eqb t s ≡ false
  another = ⊎_elim
      (λ (b : eqb t s ≡ true). absurd (true≢false (sym (cond-true (eqb t s) true (over t) b) ∙ e)))
      (λ (b : eqb t s ≡ false). b)
      (cases_Bool (eqb t s))

  pub before : over t ≡ false
  before = sym (cond-false (eqb t s) true (over t) another) ∙ e

-- What is sent

-- the names, with the span of the stream s ended
abbrev ended : Names → ℕ → Names
ended n s = record n { within = put n.within s false }

module _ (n : Names) (p : Plan) (s : ℕ) where
  -- they name the same messages
  keeps_ended : KeepsMessages n (ended n s) p p
  keeps_ended = record {
    size = refl;
    known = λ t i l. l;
    ids = λ t i l. refl;
    generations = λ t i l. refl;
    within = λ t v. ⊎_elim
        (λ (b : eqb t s ≡ true). absurd (false≢true (sym (cond-true (eqb t s) false (n.within t) b) ∙ v)))
        (λ (b : eqb t s ≡ false). sym (cond-false (eqb t s) false (n.within t) b) ∙ v)
        (cases_Bool (eqb t s));
    messages = λ t i l. refl;
  }

-- and tell of the same streams that they are within their span as the direction does
within_ended : (within over : ℕ → Bool) (s t : ℕ) → within t ≡ not (over t)
    → put within s false t ≡ not (put over s true t)
within_ended within over s t e = ⊎_elim
    (λ (b : eqb t s ≡ true). rw b refl)
    (λ (b : eqb t s ≡ false). rw b e)
    (cases_Bool (eqb t s))

pub spans_end : SpansEnd
unfolding happens
spans_end a w s m same f = record {
  named = ended f.named s;
  within = λ t. within_ended f.named.within w.over s t (f.within t);
  names = record { below = f.names.below; one = f.names.one };
  size = f.size;
  base = f.base;
  flight =
      flight_kept (keeps_ended f.named w.sender.plan s) w.sender.acknowledged w.sender.gone w.sender.reach
      a.queue.in_flight refl f.flight;
  waiting =
      all_waiting_kept (keeps_ended f.named w.sender.plan s) (is_unsent w.sender) w.sender.ssn w.sender.current
      a.queue.pending f.waiting;
  live = λ t u v there.
      let r = f.live t u (before w.over s t v) (sym (same t (another w.over s t v)) ∙ there) in
      record { generation = r.generation; ssn = r.ssn };
  own_streams = λ t v.
      subst (IsOwnAt w.sender.plan (w.sender.released t) t) (sym (same t (another w.over s t v)))
      (f.own_streams t (before w.over s t v));
}

-- streams past their span are not spoken of
pub streams_past_their_span_change : StreamsPastTheirSpanChange
streams_past_their_span_change a w m same f = record {
  named = f.named;
  within = f.within;
  names = record { below = f.names.below; one = f.names.one };
  size = f.size;
  base = f.base;
  flight = f.flight;
  waiting = f.waiting;
  live = λ t u v there.
      let r = f.live t u v (sym (same t v) ∙ there) in
      record { generation = r.generation; ssn = r.ssn };
  own_streams = λ t v.
      subst (IsOwnAt w.sender.plan (w.sender.released t) t) (sym (same t v)) (f.own_streams t v);
}

-- What comes

pub spans_end_where_it_comes : SpansEndWhereItComes
unfolding happens
spans_end_where_it_comes a w s m same f = record {
  is_open = f.is_open;
  taken = f.taken;
  passed = f.passed;
  queues = λ t v.
      subst (λ o. IsQueueAt a.peer w.sender.plan t o (w.receiver.queues t)) (sym (same t (another w.over s t v)))
      (f.queues t (before w.over s t v));
}

pub streams_past_their_span_change_where_it_comes : StreamsPastTheirSpanChangeWhereItComes
streams_past_their_span_change_where_it_comes a w m same f = record {
  is_open = f.is_open;
  taken = f.taken;
  passed = f.passed;
  queues = λ t v.
      subst (λ o. IsQueueAt a.peer w.sender.plan t o (w.receiver.queues t)) (sym (same t v)) (f.queues t v);
}
