-- What a SACK acknowledges at an association, by its cumulative TSN ack and by gap ack blocks, it acknowledges at the
-- direction's sender (RFC 4960 section 6.2.1).
use Rattle.std.proofs.Common.{ℕ, zero, suc, ◌+◌, ◌<◌, ◌≤◌, ◌≡◌, Bool, true, false, not, cond, ◌&&◌, ◌||◌, List, [], ◌∷◌}
use Rattle.std.proofs.Common.{length, drop, Some, refl, sym, ap, ◌∙◌, subst, arith}
use Rattle.std.specs.Prelude.{slice_get}
use Rattle.std.proofs.lemmas.Bool.{cond-false, false≢true, le-ltb}
use Rattle.sctp_outbound_queue.specs.declared.message.InFlight.{InFlight}
use Rattle.sctp_outbound_queue.specs.Message.{acked}
use Rattle.sctp_streams.specs.Streams.{stream_at}
use Rattle.sctp_outbound.specs.GapAcks.{acked_among, released_among}
use Rattle.sctp_outbound.proofs.MissingPieces.{acked_length}
use Rattle.sctp_model.specs.Messages.{Plan, accepted_bytes, bytes_below}
use Rattle.sctp_model.specs.Packets.{Sack, names}
use Rattle.sctp_model.specs.Machine.{Direction, Event, acknowledged_by, happens, newly, reach, sack_comes}
use Rattle.sctp_model.specs.Invariants.{Invariant, IsHonest, gone_at}
use Rattle.sctp_model.proofs.ReceiverEvents.{keeps_sack_comes}
use Rattle.sctp_model.proofs.Lists.{all_get}
use Rattle.sctp_model.proofs.ReleasedBytes.{bytes_none, released_within}
use Rattle.sctp_fit.specs.Outgoing.{AreInFlight, FitsOutgoing, IsInFlight, IsOwnAt, Names}
use Rattle.sctp_fit.specs.Outgoing.{Sending, numbers_after}
use Rattle.sctp_fit.specs.Acknowledgements.{AcknowledgementsAreAlike, acknowledged}
use Rattle.sctp_fit.proofs.BytesReleased.{bytes_of_flight, freed, less, numbered_less, own_less, released_all}
use Rattle.sctp_fit.proofs.SpansNamed.{named_within}

-- What is in flight

or_true : (b : Bool) → (b || true) ≡ true
or_true true = refl
or_true false = refl

or_false : (b : Bool) → (b || false) ≡ b
or_false true = refl
or_false false = refl

module _ (n : Names) (p : Plan) (before : ℕ → Bool) (gone : ℕ → ℕ → Bool) (said : ℕ → Bool) where
  -- a piece is acknowledged where the SACK names its offset
  piece_acked : (o : ℕ) (x : InFlight) (named : Bool) → said o ≡ named → IsInFlight n p before gone o x
      → IsInFlight n p (λ q. before q || said q) gone o (cond named (acked x) x)
  piece_acked o x true e h = record {
    known = h.known;
    stream = h.stream;
    message = h.message;
    piece = λ m. (let q = h.piece m in record { first = q.first; last = q.last; bytes = q.bytes });
    acked = sym (ap (λ z. before o || z) e ∙ or_true (before o));
    abandoned = h.abandoned;
  }
  piece_acked o x false e h = record {
    known = h.known;
    stream = h.stream;
    message = h.message;
    piece = h.piece;
    acked = h.acked ∙ sym (ap (λ z. before o || z) e ∙ or_false (before o));
    abandoned = h.abandoned;
  }

  -- so are all pieces in flight
  flight_acked : (named : ℕ → Bool) (o j : ℕ) (xs : List InFlight)
      → ((i : ℕ) → i < length xs → said (o + i) ≡ named (j + i))
      → AreInFlight n p before gone o xs → AreInFlight n p (λ q. before q || said q) gone o (acked_among named j xs)
  flight_acked named o j [] e h = h
  flight_acked named o j (x ∷ xs) e (h, hs) = (
    piece_acked o x (named j)
        (ap said (let r : o ≡ o + 0 = omega arith in r) ∙ e 0 (omega arith)
        ∙ ap named (let r : j + 0 ≡ j = omega arith in r)) h,
    flight_acked named (suc o) (suc j) xs
        (λ i l. ap said (let r : suc o + i ≡ o + suc i = omega arith in r) ∙ e (suc i) (omega (arith, l))
        ∙ ap named (let r : j + suc i ≡ suc j + i = omega arith in r)) hs,
  )

-- the pieces past the first ones are those of the offsets past theirs
module _ (n : Names) (p : Plan) (acknowledged : ℕ → Bool) (gone : ℕ → ℕ → Bool) where
  flight_dropped : (o k : ℕ) (xs : List InFlight) → k ≤ length xs → AreInFlight n p acknowledged gone o xs
      → AreInFlight n p acknowledged gone (o + k) (drop k xs)
  flight_dropped o zero xs l h =
      subst (λ z. AreInFlight n p acknowledged gone z xs) (let r : o ≡ o + 0 = omega arith in r) h
  flight_dropped o (suc k) [] l h = absurd (omega (arith, l))
  flight_dropped o (suc k) (x ∷ xs) l (h, hs) =
      subst (λ z. AreInFlight n p acknowledged gone z (drop k xs)) (let r : suc o + k ≡ o + suc k = omega arith in r)
      (flight_dropped (suc o) k xs (omega (arith, l)) hs)

-- A SACK comes

-- a SACK at or past the acknowledged reach is taken
happens_sack_comes : (w : Direction) (k : ℕ) (x : Sack) → slice_get w.sacks k ≡ Some x → w.sender.reach ≤ x.reach
    → happens w (Event.SackComes k) ≡ record w { sender = acknowledged_by w.sender x }
unfolding happens
happens_sack_comes w k x e l =
    ap (sack_comes w) e ∙ cond-false _ w (record w { sender = acknowledged_by w.sender x }) (le-ltb _ _ l)

module _ (a : Sending) (n k : ℕ) (named : ℕ → Bool) (x : Sack) (w : Direction) (e : slice_get w.sacks k ≡ Some x)
    (far : x.reach ≡ w.sender.reach + n) (within : n ≤ length a.queue.in_flight)
    (said : (j : ℕ) → j < length a.queue.in_flight → names x (w.sender.reach + j) ≡ named j)
    (inv : Invariant w) (f : FitsOutgoing a w) where
  -- it lies at or past the acknowledged reach
  ahead : w.sender.reach ≤ x.reach
  ahead = omega arith

  -- so the invariant holds once it came
  after : Invariant (record w { sender = acknowledged_by w.sender x })
  after =
      keeps_sack_comes w x ahead
      (all_get (IsHonest w.receiver.taken w.receiver.passed (reach w.receiver)) w.sacks k x e inv.sacks) inv

  -- the SACK names the pieces by their numbers from 0
  said_from : (j : ℕ) → j < length a.queue.in_flight → names x (w.sender.reach + j) ≡ named (0 + j)
  said_from j l = said j l ∙ ap named (let r : j ≡ 0 + j = omega arith in r)

  -- the newly acknowledged bytes of a stream are those released of it
  same_freed : (s : ℕ)
      → bytes_below w.sender.plan (newly w.sender x) s (length w.sender.plan.places)
      ≡ freed named s 0 a.queue.in_flight
  same_freed s =
      let none =
      bytes_none w.sender.plan (newly w.sender x) s w.sender.reach (λ o l st. acknowledged_before o l) in
      let all =
      bytes_of_flight f.named w.sender.plan w.sender.acknowledged w.sender.gone (names x) named s inv.tails
      w.sender.reach 0 a.queue.in_flight f.flight said_from in
      all ∙ ap (λ z. z + freed named s 0 a.queue.in_flight) none
      ∙ (let r : 0 + freed named s 0 a.queue.in_flight ≡ freed named s 0 a.queue.in_flight = omega arith in r)
    where
      no : (b c d : Bool) → c ≡ true → (b && (not c && d)) ≡ false
      no true true d e = refl
      no false true d e = refl
      no b false d e = absurd (false≢true e)

      acknowledged_before : (o : ℕ) → o < w.sender.reach → newly w.sender x o ≡ false
      acknowledged_before o l =
          no (names x o) (w.sender.acknowledged o) (not (gone_at w.sender.plan w.sender.gone o)) (inv.cumulative o l)

  -- no more are released than were accepted
  most : (s : ℕ) → w.sender.released s + freed named s 0 a.queue.in_flight ≤ accepted_bytes w.sender.plan s
  most s =
      let all =
      released_within w.sender.plan w.over (λ o. w.sender.acknowledged o || names x o) w.sender.gone s after.planned in
      let released = after.released s in
      let same = same_freed s in
      omega arith

  -- each live stream within its span has what was released of it less
  streams_now : (s : ℕ) → w.over s ≡ false
      → stream_at (released_among named 0 a.queue.in_flight a.streams) s
      ≡ less (freed named s 0 a.queue.in_flight) (stream_at a.streams s)
  streams_now s v =
      released_all f.named w.sender.plan w.sender.acknowledged w.sender.gone named s (named_within a w f s v)
      w.sender.reach 0 a.queue.in_flight a.streams (λ u e. (f.live s u v e).generation) f.flight

  -- what the association is then fits what the sender is then
  fits_now : FitsOutgoing (acknowledged n named a) (record w { sender = acknowledged_by w.sender x })
  fits_now = record {
    named = f.named;
    within = f.within;
    names = f.names;
    size = f.size;
    base = (let b = f.base in omega arith);
    flight =
        subst (λ z. AreInFlight f.named w.sender.plan (λ q. w.sender.acknowledged q || names x q) w.sender.gone z
        (drop n (acked_among named 0 a.queue.in_flight))) (sym far)
        (flight_dropped f.named w.sender.plan (λ q. w.sender.acknowledged q || names x q) w.sender.gone
        w.sender.reach n (acked_among named 0 a.queue.in_flight)
        (let l = acked_length named 0 a.queue.in_flight in omega arith)
        (flight_acked f.named w.sender.plan w.sender.acknowledged w.sender.gone (names x) named w.sender.reach 0
        a.queue.in_flight said_from f.flight));
    waiting = f.waiting;
    live = λ s t v e.
        numbered_less f.named (numbers_after w.sender.ssn a.queue.pending s) s (freed named s 0 a.queue.in_flight)
        (stream_at a.streams s) (λ u there. f.live s u v there) t (sym (streams_now s v) ∙ e);
    own_streams = λ s v.
        subst (λ z. IsOwnAt w.sender.plan z s (stream_at (released_among named 0 a.queue.in_flight a.streams) s))
        (ap (λ z. w.sender.released s + z) (sym (same_freed s)))
        (subst (IsOwnAt w.sender.plan (w.sender.released s + freed named s 0 a.queue.in_flight) s)
        (sym (streams_now s v))
        (own_less w.sender.plan (w.sender.released s) s (freed named s 0 a.queue.in_flight) (stream_at a.streams s)
        (most s) (f.own_streams s v)));
  }

  acknowledged_alike : FitsOutgoing (acknowledged n named a) (happens w (Event.SackComes k))
  acknowledged_alike =
      subst (FitsOutgoing (acknowledged n named a)) (sym (happens_sack_comes w k x e ahead)) fits_now

-- What a SACK acknowledges at the association, it acknowledges at the direction's sender.
pub acknowledgements_are_alike : AcknowledgementsAreAlike
acknowledgements_are_alike = acknowledged_alike
