-- Marks, counts of sendings and misses, and deadlines of pieces in flight say nothing to the direction.
use Rattle.std.proofs.Common.{ℕ, suc, ◌<◌, Bool, not, List, [], ◌∷◌, length, sym, ap, ◌∙◌, subst}
use Rattle.sctp_wire_types.specs.Ids.{number_of}
use Rattle.sctp_outbound_queue.specs.declared.message.Attributes.{Attributes}
use Rattle.sctp_outbound_queue.specs.declared.message.InFlight.{InFlight}
use Rattle.sctp_model.specs.Messages.{Plan, message_at}
use Rattle.sctp_fit.specs.Outgoing.{AreInFlight, IsInFlight, IsMessage, Names, policy_of}
use Rattle.sctp_fit.specs.Sendings.{AreSamePieces, IsSameMessage, IsSamePiece, MarksAreNoEvents}

-- attributes of a message stay so where no more than the deadline changes
pub message_same : (n : Names) (p : Plan) (i number : ℕ) (a b : Attributes) → IsSameMessage a b
    → IsMessage n p i number a → IsMessage n p i number b
message_same n p i number a b e h = record {
  known = subst (λ s. i < length (p.accepted s)) (sym e.stream) h.known;
  id = e.id ∙ h.id ∙ ap (λ s. n.ids s i) (sym e.stream);
  generation = λ v. e.generation ∙ h.generation (sym (ap n.within e.stream) ∙ v) ∙ ap n.generations (sym e.stream);
  ordered = e.unordered ∙ h.ordered ∙ ap (λ s. not (message_at p s i).ordered) (sym e.stream);
  ssn = λ v. e.ssn ∙ h.ssn (sym (ap n.within e.stream) ∙ v);
  payload_type =
      ap number_of e.payload_type ∙ h.payload_type ∙ ap (λ s. (message_at p s i).payload_type) (sym e.stream);
  policy = ap policy_of e.policy ∙ h.policy ∙ ap (λ s. (message_at p s i).policy) (sym e.stream);
}

module _ (n : Names) (p : Plan) (acknowledged : ℕ → Bool) (gone : ℕ → ℕ → Bool) where
  -- the same piece stands on the same offset
  pub in_flight_same : (o : ℕ) (x y : InFlight) → IsSamePiece x y → IsInFlight n p acknowledged gone o x
      → IsInFlight n p acknowledged gone o y
  in_flight_same o x y e h = record {
    known = h.known;
    stream = e.message.stream ∙ h.stream;
    message = message_same n p _ _ x.message y.message e.message h.message;
    piece = λ m.
        let k = h.piece m in
        record { first = e.first ∙ k.first; last = e.last ∙ k.last; bytes = e.bytes ∙ k.bytes };
    acked = e.acked ∙ h.acked;
    abandoned = e.abandoned ∙ h.abandoned;
  }

  pub flight_same : (o : ℕ) (xs ys : List InFlight) → AreSamePieces xs ys → AreInFlight n p acknowledged gone o xs
      → AreInFlight n p acknowledged gone o ys
  flight_same o [] [] e h = h
  flight_same o [] (y ∷ ys) e h = absurd e
  flight_same o (x ∷ xs) [] e h = absurd e
  flight_same o (x ∷ xs) (y ∷ ys) (e, es) (h, hs) = (in_flight_same o x y e h, flight_same (suc o) xs ys es hs)

-- Of marks, counts of sendings and misses, and deadlines the direction knows nothing.
pub marks_are_no_events : MarksAreNoEvents
marks_are_no_events a pieces w same f = record {
  named = f.named;
  within = f.within;
  names = f.names;
  size = f.size;
  base = f.base;
  flight =
      flight_same f.named w.sender.plan w.sender.acknowledged w.sender.gone w.sender.reach a.queue.in_flight pieces same
      f.flight;
  waiting = f.waiting;
  live = f.live;
  own_streams = f.own_streams;
}
