-- A piece in flight carries what its offset says, so one that goes out again is DATA that the direction gives out
-- again.
use Rattle.std.proofs.Common.{ℕ, zero, suc, ◌+◌, ◌<◌, ◌≡◌, Bool, true, false, not, List, [], ◌∷◌, ◌++◌, length, Some}
use Rattle.std.proofs.Common.{refl, sym, ap, ◌∙◌, subst, arith}
use Rattle.std.specs.Prelude.{slice_get, slice_set}
use Rattle.std.proofs.lemmas.Bool.{and_parts, cond-true, false_from_ne_true, lt-ltb, not-true, true≢false}
use Rattle.sctp_outbound_queue.specs.declared.message.InFlight.{InFlight}
use Rattle.sctp_outbound_queue.specs.declared.message.Retransmission.{Retransmission}
use Rattle.sctp_outbound_queue.specs.declared.message.Retransmission.TheVariants as causes
use Rattle.sctp_outbound_queue.specs.Message.{counted_again, is_outstanding, one_sending_more}
use Rattle.sctp_outbound_queue.specs.Outbound.{changed_at, changed_from}
use Rattle.sctp_outbound.specs.Sender.{chunk_of}
use Rattle.sctp_serial.specs.Serial.{tsn}
use Rattle.sctp_model.specs.Messages.{Place, Plan, message_at, place_at}
use Rattle.sctp_model.specs.Packets.{data_at, data_of}
use Rattle.sctp_model.specs.Machine.{Direction, Event, happens}
use Rattle.sctp_fit.specs.Incoming.{IsSaid}
use Rattle.sctp_fit.specs.Outgoing.{AreInFlight, FitsOutgoing, IsInFlight, IsMessage, IsPieceOf, Names, Sending}
use Rattle.sctp_fit.specs.Sendings.{IsGiven, IsSamePiece, PiecesAreGiven}
use Rattle.sctp_fit.proofs.MarksSayNothing.{in_flight_same}
use Rattle.sctp_fit.proofs.SpansNamed.{named_within}
use Rattle.sctp_model.specs.Invariants.{Invariant}

-- the last of a list
pub got_last : {X : Type 0} (xs : List X) (x : X) → slice_get (xs ++ x ∷ []) (length xs) ≡ Some x
got_last [] x = refl
got_last (y ∷ ys) x = got_last ys x

module _ (over : ℕ → Bool) (initial : ℕ) (n : Names) (within : (s : ℕ) → over s ≡ false → n.within s ≡ true)
    (p : Plan) (o : ℕ) (y : Place) (x : InFlight) where
  -- a piece that carries what its place says is said to be DATA of the place's offset
  pub said_at : IsMessage n p y.message y.ssn x.message → x.message.stream_identifier ≡ y.stream → IsPieceOf p y x
      → (at_once : Bool) → IsSaid over initial (chunk_of at_once x (tsn initial o)) (data_of p o y)
  said_at m e k at_once = record {
    stream = e;
    tsn = refl;
    carries = λ v. record {
      tsn = refl;
      ssn = m.ssn (ap n.within e ∙ within y.stream v);
      ordered = m.ordered ∙ ap (λ s. not (message_at p s y.message).ordered) e;
      first = k.first;
      last = k.last;
      payload_type = m.payload_type ∙ ap (λ s. (message_at p s y.message).payload_type) e;
      bytes = k.bytes;
    };
  }

-- a piece is the same one, marked or not, however often it was sent and however often it was reported missing
pub same_but_counts : (x : InFlight) (retransmit : Bool) (sent_count misses : ℕ) (resent : Bool)
    → IsSamePiece x (record x { retransmit = retransmit; sent_count = sent_count; misses = misses; resent = resent })
same_but_counts x retransmit sent_count misses resent = record {
  message = record {
    id = refl;
    stream = refl;
    generation = refl;
    unordered = refl;
    ssn = refl;
    payload_type = refl;
    policy = refl;
  };
  first = refl;
  last = refl;
  bytes = refl;
  acked = refl;
  abandoned = refl;
}

again_same : (by : Retransmission) (x : InFlight) → IsSamePiece x (counted_again by x)
again_same causes.Timer x = same_but_counts x false (one_sending_more x.sent_count) x.misses true
again_same causes.Fast x = same_but_counts x x.retransmit (one_sending_more x.sent_count) x.misses true

module _ (n : Names) (p : Plan) (acknowledged : ℕ → Bool) (gone : ℕ → ℕ → Bool) where
  -- the piece at a place of the flight stands on its offset
  pub flight_at : (o : ℕ) (xs : List InFlight) (k : ℕ) (x : InFlight) → slice_get xs k ≡ Some x
      → AreInFlight n p acknowledged gone o xs → IsInFlight n p acknowledged gone (o + k) x
  flight_at o [] k x e h = absurd (cc)
  flight_at o (y ∷ ys) zero x e (h, hs) =
      subst (λ z. IsInFlight n p acknowledged gone z x) (let l : o ≡ o + 0 = omega arith in l)
      (subst (IsInFlight n p acknowledged gone o) (let s : y ≡ x = cc in s) h)
  flight_at o (y ∷ ys) (suc k) x e (h, hs) =
      subst (λ z. IsInFlight n p acknowledged gone z x) (let l : suc o + k ≡ o + suc k = omega arith in l)
      (flight_at (suc o) ys k x e hs)

  -- as many offsets are in flight as lie past the first
  pub flight_length : (o : ℕ) (xs : List InFlight) → AreInFlight n p acknowledged gone o xs
      → o + length xs ≡ length p.places
  flight_length o [] h = omega (arith, h)
  flight_length o (x ∷ xs) (h, hs) = let r = flight_length (suc o) xs hs in omega arith

  -- nor of its flight
  pub flight_again : (by : Retransmission) (o : ℕ) (xs : List InFlight) (k : ℕ) (x : InFlight) → slice_get xs k ≡ Some x
      → AreInFlight n p acknowledged gone o xs
      → AreInFlight n p acknowledged gone o (slice_set xs k (counted_again by x))
  flight_again by o [] k x e h = absurd (cc)
  flight_again by o (y ∷ ys) zero x e (h, hs) = (
    in_flight_same n p acknowledged gone o x (counted_again by x) (again_same by x)
        (subst (IsInFlight n p acknowledged gone o) (let s : y ≡ x = cc in s) h),
    hs,
  )
  flight_again by o (y ∷ ys) (suc k) x e (h, hs) = (h, flight_again by (suc o) ys k x e hs)

-- the direction, with the DATA of the offset o given out again
abbrev resent : Direction → ℕ → Direction
resent w o = record w { datas = w.datas ++ data_at w.sender.plan o ∷ [] }

happens_resend : (w : Direction) (o : ℕ) → o < length w.sender.plan.places
    → (place_at w.sender.plan o).marker ≡ false → happens w (Event.Resend o) ≡ resent w o
unfolding happens
happens_resend w o l m = cond-true _ (resent w o) w (rw (lt-ltb _ _ l, m) refl)

module _ (own : ℕ) (a : Sending) (at_once : Bool) (by : Retransmission) (index : ℕ) (x : InFlight) (w : Direction)
    (e : slice_get a.queue.in_flight index ≡ Some x) (out : is_outstanding x ≡ true) (inv : Invariant w)
    (f : FitsOutgoing a w) where
  -- An outstanding piece that goes out again is that of its offset, and is DATA of the direction.
  piece_given : FitsOutgoing (record a { queue = changed_at (counted_again by) a.queue index })
      (happens w (Event.Resend (w.sender.reach + index)))
      × IsGiven own (happens w (Event.Resend (w.sender.reach + index))) (chunk_of at_once x (tsn own (a.base + index)))
  piece_given = (
    subst (FitsOutgoing (record a { queue = changed_at (counted_again by) a.queue index })) (sym event)
        (subst (λ found. FitsOutgoing (record a { queue = changed_from (counted_again by) found a.queue index })
        (resent w (w.sender.reach + index))) (sym e)
        (record {
          named = f.named;
          within = f.within;
          names = f.names;
          size = f.size;
          base = f.base;
          flight =
              flight_again f.named w.sender.plan w.sender.acknowledged w.sender.gone by
              w.sender.reach a.queue.in_flight index x e f.flight;
          waiting = f.waiting;
          live = f.live;
          own_streams = f.own_streams;
        })),
    subst (λ v. IsGiven own v (chunk_of at_once x (tsn own (a.base + index)))) (sym event) (
      length w.datas,
      data_at w.sender.plan (w.sender.reach + index),
      got_last w.datas _,
      subst (λ b. IsSaid w.over own (chunk_of at_once x (tsn own (b + index))) (data_at w.sender.plan (w.sender.reach + index)))
          (sym f.base)
          (said_at w.over own f.named (named_within a w f) w.sender.plan (w.sender.reach + index) _ x here.message
          here.stream (here.piece sent) at_once),
    ),
  )
    where
      here : IsInFlight f.named w.sender.plan w.sender.acknowledged w.sender.gone (w.sender.reach + index) x
      here =
          flight_at f.named w.sender.plan w.sender.acknowledged w.sender.gone w.sender.reach a.queue.in_flight index x
          e f.flight

      -- it stays, so its place is no marker
      stays : x.abandoned ≡ false
      stays = not-true _ (and_parts (not x.acked) (not x.abandoned) out).1

      sent : (place_at w.sender.plan (w.sender.reach + index)).marker ≡ false
      sent =
          false_from_ne_true _ (λ (m : (place_at w.sender.plan (w.sender.reach + index)).marker ≡ true).
          true≢false (sym (inv.tails (w.sender.reach + index) here.known m) ∙ sym here.abandoned ∙ stays))

      event : happens w (Event.Resend (w.sender.reach + index)) ≡ resent w (w.sender.reach + index)
      event = happens_resend w (w.sender.reach + index) here.known sent

pub pieces_are_given : PiecesAreGiven
pieces_are_given = piece_given
