-- Where few pieces were accepted, the numbers of a direction stay within their limits: each offset is another piece.
use Rattle.std.proofs.Common.{◌≡◌, sym, ap, ◌∙◌, subst, ⊎_elim, ℕ, suc, ◌+◌, ◌*◌, ◌<◌, ◌≤◌, arith, Bool, true, false}
use Rattle.std.proofs.Common.{eqb, cond, List, [], ◌∷◌, drop, get_or, length}
use Rattle.std.specs.List.{sum_by}
use Rattle.std.proofs.Math.Nat.{mul-le-mul_left}
use Rattle.std.proofs.lemmas.Bool.{and_parts, cases_Bool, cases_lt, eqb-true}
use Rattle.std.proofs.lemmas.List.{length-drop}
use Rattle.std.proofs.lemmas.List.Sums.{sum_by-cons}
use Rattle.sctp_model.specs.Messages.{Message, Plan, count_ordered, message_at, no_message, place_at}
use Rattle.sctp_model.specs.Messages.{sum_below}
use Rattle.sctp_model.specs.Packets.{mem}
use Rattle.sctp_model.specs.Machine.{Direction}
use Rattle.sctp_model.specs.Invariants.{Invariant, IsPlanned}
use Rattle.sctp_model.specs.Safe.{read_end}
use Rattle.sctp_fit.specs.FewPieces.{FewPiecesStayWithin, HasAccepted, all_pieces, pieces_in}
use Rattle.sctp_fit.proofs.CountsBelow.{count_of, count_one, counted_by_member, counted_by_value, has_value, one_below}
use Rattle.sctp_fit.proofs.CountsBelow.{sum_of_ones, sum_shifted, sums_below, sums_over}

-- Pieces

-- a piece whose first byte lies within the message is one of its pieces
pub piece_counted : (size bytes k : ℕ) → 0 < size → size * k < bytes → k < pieces_in size bytes
piece_counted size bytes k some l = ⊎_elim
    (λ (b : k < pieces_in size bytes). b)
    (λ (b : pieces_in size bytes ≤ k). let m = mul-le-mul_left size b in absurd (omega (arith, m)))
    (cases_lt k (pieces_in size bytes))

-- messages of which none is empty have a piece each, at least
messages_have_pieces : (size : ℕ) (ms : List Message) → 0 < size
    → ((i : ℕ) → i < length ms → 0 < length (get_or ms i no_message).bytes)
    → length ms ≤ all_pieces size ms
messages_have_pieces size [] some filled = omega arith
messages_have_pieces size (m ∷ ms) some filled =
    let here : 0 < length m.bytes = filled 0 (omega arith) in
    let first = piece_counted size (length m.bytes) 0 some (omega arith) in
    let rest = messages_have_pieces size ms some (λ i l. filled (suc i) (omega arith)) in
    let both = sum_by-cons (λ (x : Message). pieces_in size (length x.bytes)) m ms in
    omega (arith, first, rest, both)

-- a sum over messages by their numbers is one over the messages
sum_by_number : (f : Message → ℕ) (ms : List Message)
    → sum_below (λ (i : ℕ). f (get_or ms i no_message)) (length ms) ≤ sum_by f ms
sum_by_number f [] = omega arith
sum_by_number f (m ∷ ms) =
    let first = sum_shifted (λ (i : ℕ). f (get_or (m ∷ ms) i no_message)) (length ms) in
    let rest = sum_by_number f ms in
    let both = sum_by-cons f m ms in
    omega (arith, first, rest, both)

-- Places

-- the offset o stands for a piece of stream s
abbrev is_of_stream : Plan → ℕ → ℕ → Bool
is_of_stream p s o = eqb (place_at p o).stream s

-- and for one of its message i
abbrev is_of_message : Plan → ℕ → ℕ → ℕ → Bool
is_of_message p s i = has_value (is_of_stream p s) (λ (o : ℕ). (place_at p o).message) i

-- and for the piece k of that
abbrev is_piece : Plan → ℕ → ℕ → ℕ → ℕ → Bool
is_piece p s i k = has_value (is_of_message p s i) (λ (o : ℕ). (place_at p o).piece) k

module _ (p : Plan) (over : ℕ → Bool) (h : IsPlanned p over) where
  stream_is : (s o : ℕ) → is_of_stream p s o ≡ true → (place_at p o).stream ≡ s
  stream_is s o t = eqb-true (place_at p o).stream s t

  message_is : (s i o : ℕ) → is_of_message p s i o ≡ true → (place_at p o).message ≡ i
  message_is s i o t =
      eqb-true (place_at p o).message i (and_parts (is_of_stream p s o) (eqb (place_at p o).message i) t).1

  stream_of_message : (s i o : ℕ) → is_of_message p s i o ≡ true → (place_at p o).stream ≡ s
  stream_of_message s i o t =
      stream_is s o (and_parts (is_of_stream p s o) (eqb (place_at p o).message i) t).0

  piece_parts : (s i k o : ℕ) → is_piece p s i k o ≡ true
      → (is_of_message p s i o ≡ true) × (eqb (place_at p o).piece k ≡ true)
  piece_parts s i k o t = and_parts (is_of_message p s i o) (eqb (place_at p o).piece k) t

  -- each piece stands on one offset, at most
  one_offset : (s i k : ℕ) → count_of (is_piece p s i k) (length p.places) ≤ 1
  one_offset s i k = count_one (is_piece p s i k) (length p.places) (λ o q l m t u.
      let a = piece_parts s i k o t in
      let b = piece_parts s i k q u in
      h.one o q l m
      (stream_of_message s i o a.0 ∙ sym (stream_of_message s i q b.0))
      (message_is s i o a.0 ∙ sym (message_is s i q b.0))
      (eqb-true (place_at p o).piece k a.1 ∙ sym (eqb-true (place_at p q).piece k b.1)))

  -- an offset of a message is one of its pieces
  piece_within : (s i o : ℕ) → o < length p.places → is_of_message p s i o ≡ true
      → (place_at p o).piece < pieces_in p.size (length (message_at p s i).bytes)
  piece_within s i o l t =
      let first = h.piece o l in
      let streams : p.size * (place_at p o).piece < length (message_at p s (place_at p o).message).bytes =
      subst (λ (z : ℕ). p.size * (place_at p o).piece < length (message_at p z (place_at p o).message).bytes)
      (stream_of_message s i o t) first in
      let messages : p.size * (place_at p o).piece < length (message_at p s i).bytes =
      subst (λ (z : ℕ). p.size * (place_at p o).piece < length (message_at p s z).bytes)
      (message_is s i o t) streams in
      piece_counted p.size (length (message_at p s i).bytes) (place_at p o).piece h.size messages

  -- a message has no more offsets than pieces
  message_counted : (s i : ℕ)
      → count_of (is_of_message p s i) (length p.places) ≤ pieces_in p.size (length (message_at p s i).bytes)
  message_counted s i =
      let split =
      counted_by_value (is_of_message p s i) (λ (o : ℕ). (place_at p o).piece)
      (pieces_in p.size (length (message_at p s i).bytes)) (length p.places) (λ o l t. piece_within s i o l t) in
      let ones =
      sum_of_ones (λ (k : ℕ). count_of (is_piece p s i k) (length p.places))
      (pieces_in p.size (length (message_at p s i).bytes)) (λ k l. one_offset s i k) in
      omega (arith, split, ones)

  -- a stream has no more offsets than pieces were accepted on it
  stream_counted : (s : ℕ) → count_of (is_of_stream p s) (length p.places) ≤ all_pieces p.size (p.accepted s)
  stream_counted s =
      let split =
      counted_by_value (is_of_stream p s) (λ (o : ℕ). (place_at p o).message) (length (p.accepted s))
      (length p.places)
      (λ o l t. subst (λ (z : ℕ). (place_at p o).message < length (p.accepted z)) (stream_is s o t) (h.known o l)) in
      let messages =
      sums_below (λ (i : ℕ). count_of (is_of_message p s i) (length p.places))
      (λ (i : ℕ). pieces_in p.size (length (message_at p s i).bytes)) (length (p.accepted s))
      (λ i l. message_counted s i) in
      let listed = sum_by_number (λ (m : Message). pieces_in p.size (length m.bytes)) (p.accepted s) in
      omega (arith, split, messages, listed)

  -- no more offsets are assigned than pieces were accepted
  places_counted : (xs : List ℕ) → ((o : ℕ) → o < length p.places → mem (place_at p o).stream xs ≡ true)
      → length p.places ≤ sum_by (λ (s : ℕ). all_pieces p.size (p.accepted s)) xs
  places_counted xs known =
      let split = counted_by_member (λ (o : ℕ). (place_at p o).stream) xs (length p.places) known in
      let streams =
      sums_over (λ (s : ℕ). count_of (is_of_stream p s) (length p.places))
      (λ (s : ℕ). all_pieces p.size (p.accepted s)) xs (λ s. stream_counted s) in
      omega (arith, split, streams)

-- what is accepted on some stream, that is one of these
some_is_there : (f : ℕ → List Message) (xs : List ℕ) (s n : ℕ) → ((t : ℕ) → mem t xs ≡ false → f t ≡ [])
    → n < length (f s) → mem s xs ≡ true
some_is_there f xs s n others l = ⊎_elim
    (λ (m : mem s xs ≡ true). m)
    (λ (m : mem s xs ≡ false). let e = ap (λ (ms : List Message). length ms) (others s m) in
    absurd (let z : n < 0 = subst (λ k. n < k) e l in omega arith))
    (cases_Bool (mem s xs))

-- No more offsets are assigned than pieces were accepted.
pub offsets_counted : (n : ℕ) (w : Direction) → HasAccepted n w → Invariant w → length w.sender.plan.places ≤ n
offsets_counted n w a inv =
    let known = λ (o : ℕ) (l : o < length w.sender.plan.places).
    some_is_there w.sender.plan.accepted a.streams (place_at w.sender.plan o).stream (place_at w.sender.plan o).message
    a.others (inv.planned.known o l) in
    let places = places_counted w.sender.plan w.over inv.planned a.streams known in
    let total = a.total in
    omega arith

-- Messages that wait to be read

ordered_below : (ms : List Message) → count_ordered ms ≤ length ms
ordered_below [] = omega arith
ordered_below (m ∷ ms) = ⊎_elim
    (λ (e : m.ordered ≡ true). let a = ap (λ (c : Bool). cond c 1 0 + count_ordered ms) e in
    let b = ordered_below ms in
    omega (arith, a))
    (λ (e : m.ordered ≡ false). let a = ap (λ (c : Bool). cond c 1 0 + count_ordered ms) e in
    let b = ordered_below ms in omega (arith, a))
    (cases_Bool m.ordered)

-- no more messages were accepted on a stream than pieces in all
messages_counted : (n : ℕ) (w : Direction) (s : ℕ) → HasAccepted n w → Invariant w
    → length (w.sender.plan.accepted s) ≤ n
messages_counted n w s a inv = ⊎_elim
    (λ (m : mem s a.streams ≡ true).
    let one = one_below (λ (t : ℕ). all_pieces w.sender.plan.size (w.sender.plan.accepted t)) a.streams s m in
    let pieces =
    messages_have_pieces w.sender.plan.size (w.sender.plan.accepted s) inv.planned.size (inv.planned.filled s) in
    let total = a.total in
    omega arith)
    (λ (m : mem s a.streams ≡ false). let e = ap (λ (ms : List Message). length ms) (a.others s m) in omega (arith, e))
    (cases_Bool (mem s a.streams))

pub few_pieces_stay_within : FewPiecesStayWithin
few_pieces_stay_within n w few a inv =
    let places = offsets_counted n w a inv in
    record {
      offsets = omega arith;
      flight = omega arith;
      unread = λ s v.
          let all = messages_counted n w s a inv in
          let rest = ordered_below (drop (read_end w.sender.plan 0 (w.reads s)) (w.sender.plan.accepted s)) in
          let short = length-drop (read_end w.sender.plan 0 (w.reads s)) (w.sender.plan.accepted s) in
          omega arith;
    }
