-- The times of messages run, in flight and waiting: the direction knows nothing of deadlines.
use Rattle.std.proofs.Common.{◌≡◌, refl, sym, subst, ℕ, suc, Bool, cond, List, [], ◌∷◌, Option, Some, None, map}
use Rattle.sctp_outbound_queue.specs.declared.message.Attributes.{Attributes}
use Rattle.sctp_outbound_queue.specs.declared.message.InFlight.{InFlight}
use Rattle.sctp_outbound_queue.specs.Waiting.{Waiting}
use Rattle.sctp_outbound_queue.specs.Message.{sent_started, started, waiting_started}
use Rattle.sctp_model.specs.Messages.{Place, Plan}
use Rattle.sctp_model.specs.Machine.{is_unsent, put}
use Rattle.sctp_fit.specs.Outgoing.{AreUnsent, AreWaiting, IsNumbered, IsWaiting, Names, numbers_after}
use Rattle.sctp_fit.specs.Outgoing.{numbers_past}
use Rattle.sctp_fit.specs.Sendings.{AreSamePieces, IsSameMessage, StartsAreNoEvents}
use Rattle.sctp_fit.proofs.MarksSayNothing.{flight_same, message_same}

same_started : (now : ℕ) (a : Attributes) → IsSameMessage a (started now a)
same_started now a = record {
  id = refl;
  stream = refl;
  generation = refl;
  unordered = refl;
  ssn = refl;
  payload_type = refl;
  policy = refl;
}

-- the same is in flight
pieces_started : (now : ℕ) (xs : List InFlight) → AreSamePieces xs (map (sent_started now) xs)
pieces_started now [] = tt
pieces_started now (x ∷ xs) = (
  record {
    message = same_started now x.message;
    first = refl;
    last = refl;
    bytes = refl;
    acked = refl;
    abandoned = refl;
  },
  pieces_started now xs,
)

module _ (now : ℕ) (n : Names) (p : Plan) where
  -- and the same waits
  waits_started : (i number k : ℕ) (x : Waiting) → IsWaiting n p i number k x
      → IsWaiting n p i number k (waiting_started now x)
  waits_started i number k x h = record {
    message = message_same n p i number x.message (started now x.message) (same_started now x.message) h.message;
    pieces = h.pieces;
  }

  unsent_started : (unsent : ℕ → ℕ → Bool) (from numbers : ℕ → ℕ) (xs : List Waiting)
      → AreUnsent n p unsent from numbers xs → AreUnsent n p unsent from numbers (map (waiting_started now) xs)
  unsent_started unsent from numbers [] h = h
  unsent_started unsent from numbers (x ∷ xs) (i, u, hs) = (
    i,
    record {
      waits = waits_started i _ 0 x u.waits;
      begun = u.begun;
      is = u.is;
      past = u.past;
      next = u.next;
    },
    unsent_started unsent (put from x.message.stream_identifier (suc i)) (numbers_past numbers x.message) xs hs,
  )

  waiting_fits : (unsent : ℕ → ℕ → Bool) (numbers : ℕ → ℕ) (o : Option Place) (xs : List Waiting)
      → AreWaiting n p unsent numbers o xs → AreWaiting n p unsent numbers o (map (waiting_started now) xs)
  waiting_fits unsent numbers None xs h = unsent_started unsent (λ s. 0) numbers xs h
  waiting_fits unsent numbers (Some y) [] h = absurd h
  waiting_fits unsent numbers (Some y) (x ∷ xs) (g, hs) = (
    record { begun = g.begun; stream = g.stream; waits = waits_started y.message y.ssn y.piece x g.waits },
    unsent_started unsent (λ s. 0) numbers xs hs,
  )

-- the next numbers behind what waits are the same
numbers_same : (now : ℕ) (numbers : ℕ → ℕ) (xs : List Waiting)
    → numbers_after numbers (map (waiting_started now) xs) ≡ numbers_after numbers xs
numbers_same now numbers [] = refl
numbers_same now numbers (x ∷ xs) = numbers_same now (cond x.begun numbers (numbers_past numbers x.message)) xs

-- Nor does it know of deadlines, also of what waits.
pub starts_are_no_events : StartsAreNoEvents
starts_are_no_events a now w f = record {
  named = f.named;
  within = f.within;
  names = f.names;
  size = f.size;
  base = f.base;
  flight =
      flight_same f.named w.sender.plan w.sender.acknowledged w.sender.gone w.sender.reach a.queue.in_flight
      (map (sent_started now) a.queue.in_flight) (pieces_started now a.queue.in_flight) f.flight;
  waiting =
      waiting_fits now f.named w.sender.plan (is_unsent w.sender) w.sender.ssn w.sender.current a.queue.pending
      f.waiting;
  live = λ s t v e.
      subst (λ (z : ℕ → ℕ). IsNumbered f.named (z s) s t) (sym (numbers_same now w.sender.ssn a.queue.pending))
      (f.live s t v e);
  own_streams = f.own_streams;
}
