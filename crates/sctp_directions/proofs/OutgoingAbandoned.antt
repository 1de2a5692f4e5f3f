-- A message that an association abandons or drops is abandoned or dropped in the direction too, and of its deadline the
-- direction knows nothing.
use Rattle.std.proofs.Common.{◌≡◌, refl, ap, ℕ, true, not, ◌&&◌, List, [], ◌∷◌, Option, Some, None, is_some, slice_get}
use Rattle.std.specs.List.{list_any}
use Rattle.std.proofs.lemmas.Bool.{and_parts, false≢true, not-true}
use Rattle.sctp_outbound_queue.specs.declared.message.InFlight.{InFlight}
use Rattle.sctp_outbound_queue.specs.Message.{is_of}
use Rattle.sctp_outbound_queue.specs.Waiting.{Waiting}
use Rattle.sctp_model.specs.Messages.{is_reliable}
use Rattle.sctp_model.specs.Invariants.{Invariant}
use Rattle.sctp_model.specs.Machine.{Direction, Event, happens}
use Rattle.sctp_fit.specs.Outgoing.{CountsBegun, FitsOutgoing, policy_of}
use Rattle.sctp_fit.proofs.MessageDropped as dropped
use Rattle.sctp_fit.proofs.TailMarked as abandoned
use Rattle.sctp_fit.proofs.TimesStarted as times
use Rattle.sctp_directions.specs.Acts.{Parts, can_abandon, can_abandon_tail, can_drop, sending, with_abandoned}
use Rattle.sctp_directions.specs.Acts.{with_dropped, with_tail_abandoned}
use Rattle.sctp_directions.specs.Laws.{ItsAbandonmentsAreAlike, ItsDropsAreAlike, ItsStartsAreNoEvents}
use Rattle.sctp_directions.specs.Laws.{ItsTailsAreAbandonedAlike}

-- what stands first in a list, and what stands behind it
first_of : (xs : List Waiting) (x : Waiting) → slice_get xs 0 ≡ Some x → (rest : List Waiting) × (xs ≡ x ∷ rest)
first_of [] x e = absurd (false≢true (ap is_some e))
first_of (y ∷ ys) x e = (ys, ap (λ z. z ∷ ys) (let same : y ≡ x = cc in same))

module _ (p : Parts) (w : Direction) (inv : Invariant w) (counts : CountsBegun w.sender)
    (f : FitsOutgoing (sending p) w) where
  -- the message of a piece that is there is abandoned whole
  abandoned_at : (index : ℕ) (o : Option InFlight) → can_abandon o ≡ true → slice_get p.queue.in_flight index ≡ o
      → (s : ℕ) × (i : ℕ) × FitsOutgoing (sending (with_abandoned o p)) (happens w (Event.Abandon s i))
  abandoned_at index None can e = absurd (false≢true can)
  abandoned_at index (Some x) can e =
      let may = and_parts (not x.abandoned) (not (is_reliable (policy_of x.message.policy))) can in
      let r =
      abandoned.abandonments_are_alike (sending p) index x w e (not-true _ may.0) (not-true _ may.1) inv counts f in
      (x.message.stream_identifier, r.0, r.1)

  -- the rest of a message that is there is abandoned, of which nothing is in flight
  tail_abandoned_at : (o : Option Waiting) → can_abandon_tail o p.queue.in_flight ≡ true
      → slice_get p.queue.pending 0 ≡ o
      → (s : ℕ) × (i : ℕ) × FitsOutgoing (sending (with_tail_abandoned o p)) (happens w (Event.Abandon s i))
  tail_abandoned_at None can e = absurd (false≢true can)
  tail_abandoned_at (Some x) can e =
      let may =
      and_parts x.begun
      (not (is_reliable (policy_of x.message.policy))
      && not (list_any (is_of x.message.message_id) p.queue.in_flight)) can in
      let more =
      and_parts (not (is_reliable (policy_of x.message.policy)))
      (not (list_any (is_of x.message.message_id) p.queue.in_flight)) may.1 in
      let first = first_of p.queue.pending x e in
      let r =
      abandoned.tails_are_abandoned_alike (sending p) x first.0 w first.1 may.0 (not-true _ more.0)
      (not-true _ more.1) inv counts f in
      (x.message.stream_identifier, r.0, r.1)

  -- a message that is there is dropped, of which nothing was sent
  dropped_at : (k : ℕ) (o : Option Waiting) → can_drop o ≡ true → slice_get p.queue.pending k ≡ o
      → (s : ℕ) × (i : ℕ) × FitsOutgoing (sending (with_dropped k o p)) (happens w (Event.Drop s i))
  dropped_at k None can e = absurd (false≢true can)
  dropped_at k (Some x) can e =
      let may = and_parts (not x.begun) (not (is_reliable (policy_of x.message.policy))) can in
      let r = dropped.drops_are_alike (sending p) k x w e (not-true _ may.0) (not-true _ may.1) inv counts f in
      (x.message.stream_identifier, r.0, r.1)

pub its_abandonments_are_alike : ItsAbandonmentsAreAlike
its_abandonments_are_alike p index w can inv counts f =
    abandoned_at p w inv counts f index (slice_get p.queue.in_flight index) can refl

pub its_tails_are_abandoned_alike : ItsTailsAreAbandonedAlike
its_tails_are_abandoned_alike p w can inv counts f =
    tail_abandoned_at p w inv counts f (slice_get p.queue.pending 0) can refl

pub its_drops_are_alike : ItsDropsAreAlike
its_drops_are_alike p k w can inv counts f = dropped_at p w inv counts f k (slice_get p.queue.pending k) can refl

pub its_starts_are_no_events : ItsStartsAreNoEvents
its_starts_are_no_events p now w f = times.starts_are_no_events (sending p) now w f
