-- Where both associations stand in a direction, what is promised of it holds.
use Rattle.std.proofs.Common.{◌≡◌, refl, sym, ap, ◌∙◌, subst, ◌⊎◌, ⊎_elim, inl, inr, ℕ, ◌+◌, Bool, true, false, []}
use Rattle.std.proofs.Common.{if◌then◌else◌, map, Option, Some, None}
use Rattle.std.specs.Prelude.{Ok, Err, is_ok}
use Rattle.std.proofs.lemmas.Bool.{true≢false}
use Rattle.sctp_wire_types.specs.declared.error.Error.TheVariants as errors
use Rattle.sctp_streams.specs.Stream.{StreamView}
use Rattle.sctp_streams.specs.Streams.{stream_at}
use Rattle.sctp_model.specs.Messages.{Plan, accepted_bytes}
use Rattle.sctp_model.specs.Reassembly as queue
use Rattle.sctp_model.specs.Reassembly.{Queue}
use Rattle.sctp_model.specs.Machine.{Direction, live}
use Rattle.sctp_model.specs.Invariants.{Invariant}
use Rattle.sctp_model.specs.Safe.{IsWithin, letter_read}
use Rattle.sctp_model.proofs.Proved.{the_invariant_is_enough}
use Rattle.sctp_reassembly.specs.Stands.{letter_received}
use Rattle.sctp_fit.specs.Incoming.{FitsIncoming, IsQueueAt, Receiving}
use Rattle.sctp_fit.specs.Outgoing.{FitsOutgoing, Sending}
use Rattle.sctp_fit.proofs.SendersPinned.{what_is_released_is_not_buffered}
use Rattle.sctp_fit.proofs.ReadsAnswered.{the_same_streams_are_ready}
use Rattle.sctp_directions.specs.Acts.{receiving, sending}
use Rattle.sctp_directions.specs.Between.{IsSound}
use Rattle.sctp_assoc.specs.Leads.{parts}
use Rattle.sctp_assoc.specs.Calls.{ready_of, value_at}
use Rattle.sctp_assoc.specs.Shown.{Shown}
use Rattle.sctp_steps.specs.Ends.{Ends}
use Rattle.sctp_steps.specs.Seen.{IsOpen}
use Rattle.sctp_pair.specs.World.{IsPromised, IsSafeWorld, World}
use Rattle.sctp_pair.specs.Fits.{Fits, Stands, StandsClosed, StandsFailed, StandsOpen}

-- an open association stands open
pub stands_open : {loose : ℕ → Bool} (own peer : ℕ) (a : Shown) (out coming : Direction) → IsOpen a
    → Stands loose own peer a out coming
    → StandsOpen loose own peer a out coming
stands_open {loose} own peer a out coming o h =
    ⊎_elim
    (λ (s : StandsOpen loose own peer a out coming). s)
    (λ (r : StandsClosed own a coming ⊎ StandsFailed a coming). ⊎_elim
    (λ (s : StandsClosed own a coming). absurd (true≢false (sym s.closed ∙ o.1)))
    (λ (s : StandsFailed a coming). absurd (true≢false (sym s.failed ∙ o.0)))
    r)
    h

-- the receiver of what comes to an association is open, or the association is closed or failed
pub receives_or_stopped : {loose : ℕ → Bool} (own peer : ℕ) (a : Shown) (out coming : Direction)
    → Stands loose own peer a out coming
    → (coming.receiver.is_open ≡ true) ⊎ (IsOpen a → ⊥)
receives_or_stopped {loose} own peer a out coming h =
    ⊎_elim
    (λ (s : StandsOpen loose own peer a out coming). inl s.between.incoming.is_open)
    (λ (r : StandsClosed own a coming ⊎ StandsFailed a coming). ⊎_elim
    (λ (s : StandsClosed own a coming). inr (λ (o : IsOpen a). true≢false (sym s.closed ∙ o.1)))
    (λ (s : StandsFailed a coming). inr (λ (o : IsOpen a). true≢false (sym s.failed ∙ o.0)))
    r)
    h

-- on a stream that is live on neither side nothing is ready
none_ready : (peer : ℕ) (p : Plan) (s : ℕ) (q : Option Queue) → IsQueueAt peer p s None q
    → map letter_read (queue.ready (live q)) ≡ []
none_ready peer p s None h = refl
none_ready peer p s (Some q) h = absurd h

-- what is ready is the same on both sides
ready_at : (o : Option StreamView) (a : Receiving) (s : ℕ) (w : Direction) → stream_at a.streams s ≡ o
    → w.over s ≡ false → IsWithin w → Invariant w → FitsIncoming a w
    → map letter_read (queue.ready (live (w.receiver.queues s))) ≡ map letter_received (ready_of o)
ready_at None a s w there span within invariant fits =
    none_ready a.peer w.sender.plan s (w.receiver.queues s)
    (subst (λ (o : Option StreamView). IsQueueAt a.peer w.sender.plan s o (w.receiver.queues s)) there
    (fits.queues s span))
ready_at (Some t) a s w there span within invariant fits =
    the_same_streams_are_ready a s t w there span within invariant fits

-- A direction fits what its sender has; stream s is within its span.
module _ (a : Sending) (s n : ℕ) (w : Direction) (span : w.over s ≡ false) (fits : FitsOutgoing a w) where
  -- what is released of a stream is what was accepted and isn't buffered, where the association can be asked for that
  released_if : (failed : Bool) (o : Option StreamView) → stream_at a.streams s ≡ o
      → (if failed then Err errors.ErrAssociationFailed else value_at (λ t. t.buffered) o) ≡ Ok n
      → n + w.sender.released s ≡ accepted_bytes w.sender.plan s
  released_if true o there e = absurd (true≢false (sym (ap is_ok e)))
  released_if false None there e = absurd (true≢false (sym (ap is_ok e)))
  released_if false (Some t) there e =
      let same : t.buffered ≡ n = cc in
      ap (λ z. z + w.sender.released s) (sym same) ∙ what_is_released_is_not_buffered a s t w there span fits

-- Where the sender and the receiver of a direction stand in it, and it is within the limits, the promise of it holds.
module _ {loose loose_there : ℕ → Bool} {own peer : ℕ} {sender receiver : Shown} {w back : Direction}
    (giving : Stands loose own peer sender w back) (taking : Stands loose_there peer own receiver back w)
    (within : IsWithin w) (sound : IsSound w) where
  promised : IsPromised sender receiver w
  promised = record {
    safe = λ s span. the_invariant_is_enough w within sound.invariant s span;
    opens = λ o. (stands_open peer own receiver back w o taking).between.incoming.is_open;
    ready_is = λ o s span.
        let h = stands_open peer own receiver back w o taking in
        ready_at (stream_at receiver.streams s) (receiving (parts receiver h.past)) s w refl span within sound.invariant
        h.between.incoming;
    released_is = λ o s n span e.
        let h = stands_open own peer sender w back o giving in
        released_if (sending (parts sender h.past)) s n w span h.between.outgoing sender.failed
        (stream_at sender.streams s) refl e;
  }

-- A world in which a pair stands is safe.
pub safe_world : (p : Ends) (w : World) → Fits p w → IsSafeWorld w
safe_world p w f = record {
  ab_safe = promised f.stand.side_a f.stand.side_b f.within.0 f.stand.sound_ab;
  ba_safe = promised f.stand.side_b f.stand.side_a f.within.1 f.stand.sound_ba;
}
