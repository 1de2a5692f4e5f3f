-- How messages that wait and pieces in flight stand to a plan stays so when more is accepted and named.
use Rattle.std.proofs.Common.{ℕ, suc, ◌*◌, ◌<◌, ◌≡◌, Bool, true, not, leb, List, [], ◌∷◌, length, Option, Some, None}
use Rattle.std.proofs.Common.{get_or, sym, ap, ◌∙◌, subst}
use Rattle.sctp_outbound_queue.specs.declared.message.Attributes.{Attributes}
use Rattle.sctp_outbound_queue.specs.declared.message.InFlight.{InFlight}
use Rattle.sctp_outbound_queue.specs.Waiting.{Waiting}
use Rattle.sctp_model.specs.Messages.{Place, Plan, message_at, message_of, no_place, piece_of, place_at}
use Rattle.sctp_model.specs.Machine.{put}
use Rattle.sctp_fit.specs.Outgoing.{AreInFlight, ArePieces, AreUnsent, AreWaiting, IsGoingOn, IsInFlight, IsMessage}
use Rattle.sctp_fit.specs.Outgoing.{IsPieceOf, IsWaiting, Names, numbers_past}

-- The plan q has the messages of p, and the names m say of these what n says. A stream that is within its span by m is
-- so by n.
pub record KeepsMessages (n m : Names) (p q : Plan) : Type 0 where
  pub size : q.size ≡ p.size
  pub known : (s i : ℕ) → i < length (p.accepted s) → i < length (q.accepted s)
  pub ids : (s i : ℕ) → i < length (p.accepted s) → m.ids s i ≡ n.ids s i
  pub generations : (s i : ℕ) → i < length (p.accepted s) → m.generations s ≡ n.generations s
  pub within : (s : ℕ) → m.within s ≡ true → n.within s ≡ true
  pub messages : (s i : ℕ) → i < length (p.accepted s) → message_at q s i ≡ message_at p s i

module _ {n m : Names} {p q : Plan} (k : KeepsMessages n m p q) where
  -- the attributes of a message stay its own
  pub message_kept : (i number : ℕ) (a : Attributes) → IsMessage n p i number a → IsMessage m q i number a
  message_kept i number a h =
      let e = sym (k.messages a.stream_identifier i h.known) in
      record {
        known = k.known a.stream_identifier i h.known;
        id = h.id ∙ sym (k.ids a.stream_identifier i h.known);
        generation = λ v.
            h.generation (k.within a.stream_identifier v) ∙ sym (k.generations a.stream_identifier i h.known);
        ordered = h.ordered ∙ ap (λ z. not z.ordered) e;
        ssn = λ v. h.ssn (k.within a.stream_identifier v);
        payload_type = h.payload_type ∙ ap (λ z. z.payload_type) e;
        policy = h.policy ∙ ap (λ z. z.policy) e;
      }

  -- What waits

  -- so does what waits of it
  pub waiting_kept : (i number piece : ℕ) (x : Waiting) → IsWaiting n p i number piece x
      → IsWaiting m q i number piece x
  waiting_kept i number piece x h = record {
    message = message_kept i number x.message h.message;
    pieces =
        subst (λ z. ArePieces z (message_at q x.message.stream_identifier i).bytes piece x.user_data x.rest)
        (sym k.size)
        (subst (λ z. ArePieces p.size z.bytes piece x.user_data x.rest)
        (sym (k.messages x.message.stream_identifier i h.message.known)) h.pieces);
  }

  -- and all that is unsent
  pub unsent_kept : (unsent : ℕ → ℕ → Bool) (from numbers : ℕ → ℕ) (xs : List Waiting)
      → AreUnsent n p unsent from numbers xs → AreUnsent m q unsent from numbers xs
  unsent_kept unsent from numbers [] h = h
  unsent_kept unsent from numbers (x ∷ xs) (i, u, us) = (
    i,
    record {
      waits = waiting_kept i _ 0 x u.waits;
      begun = u.begun;
      is = u.is;
      past = u.past;
      next = u.next;
    },
    unsent_kept unsent (put from x.message.stream_identifier (suc i)) (numbers_past numbers x.message) xs us,
  )

  -- and the message that goes on
  pub going_on_kept : (y : Place) (x : Waiting) → IsGoingOn n p y x → IsGoingOn m q y x
  going_on_kept y x h =
      record { begun = h.begun; stream = h.stream; waits = waiting_kept y.message y.ssn y.piece x h.waits }

  -- and all that waits
  pub all_waiting_kept : (unsent : ℕ → ℕ → Bool) (numbers : ℕ → ℕ) (current : Option Place) (xs : List Waiting)
      → AreWaiting n p unsent numbers current xs → AreWaiting m q unsent numbers current xs
  all_waiting_kept unsent numbers None xs h = unsent_kept unsent (λ s. 0) numbers xs h
  all_waiting_kept unsent numbers (Some y) [] h = h
  all_waiting_kept unsent numbers (Some y) (x ∷ xs) (g, h) =
      (going_on_kept y x g, unsent_kept unsent (λ s. 0) numbers xs h)

  -- What is in flight

  -- a piece stays that of its place
  pub piece_kept : (y : Place) (x : InFlight) → y.message < length (p.accepted y.stream) → IsPieceOf p y x
      → IsPieceOf q y x
  piece_kept y x known h =
      let e = sym (k.messages y.stream y.message known) in
      record {
        first = h.first;
        last =
            h.last ∙ ap (λ z. leb (length (message_of p y).bytes) (z * suc y.piece)) (sym k.size)
            ∙ ap (λ z. leb (length z.bytes) (q.size * suc y.piece)) e;
        bytes =
            h.bytes ∙ ap (λ z. piece_of z (message_of p y).bytes y.piece) (sym k.size)
            ∙ ap (λ z. piece_of q.size z.bytes y.piece) e;
      }

  -- and stands on its offset
  pub in_flight_kept : (acknowledged : ℕ → Bool) (gone : ℕ → ℕ → Bool) (o : ℕ) (x : InFlight) → q.places ≡ p.places
      → IsInFlight n p acknowledged gone o x → IsInFlight m q acknowledged gone o x
  in_flight_kept acknowledged gone o x e h = record {
    known = subst (λ z. o < length z) (sym e) h.known;
    stream = h.stream ∙ ap (λ z. z.stream) at;
    message = subst (λ z. IsMessage m q z.message z.ssn x.message) at
        (message_kept (place_at p o).message (place_at p o).ssn x.message h.message);
    piece = λ sent. subst (λ z. IsPieceOf q z x) at
        (piece_kept (place_at p o) x
        (subst (λ z. (place_at p o).message < length (p.accepted z)) h.stream h.message.known)
        (h.piece (ap (λ z. z.marker) at ∙ sent)));
    acked = h.acked;
    abandoned = h.abandoned ∙ ap (λ z. gone z.stream z.message) at;
  }
    where
      at : place_at p o ≡ place_at q o
      at = ap (λ z. get_or z o no_place) (sym e)

  -- and all of them, where no offset is assigned
  pub flight_kept : (acknowledged : ℕ → Bool) (gone : ℕ → ℕ → Bool) (o : ℕ) (xs : List InFlight)
      → q.places ≡ p.places
      → AreInFlight n p acknowledged gone o xs → AreInFlight m q acknowledged gone o xs
  flight_kept acknowledged gone o [] e h = h ∙ ap length (sym e)
  flight_kept acknowledged gone o (x ∷ xs) e (h, hs) =
      (in_flight_kept acknowledged gone o x e h, flight_kept acknowledged gone (suc o) xs e hs)
