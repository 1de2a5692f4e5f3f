-- All pieces in flight of a message are abandoned, and no others, and what was outstanding of them is what was not
-- acknowledged of the message's pieces on offsets (RFC 3758 section 3.5).
use Rattle.std.proofs.Common.{ℕ, suc, ◌+◌, ◌<◌, ◌≡◌, Bool, true, false, not, cond, eqb, ◌&&◌, ◌||◌, List, [], ◌∷◌, ◌++◌}
use Rattle.std.proofs.Common.{length, map, refl, sym, ap, ◌∙◌, subst, ⊎_elim, arith}
use Rattle.std.specs.List.{list_any}
use Rattle.std.proofs.lemmas.List.Sums.{sum_by-cons}
use Rattle.std.proofs.lemmas.Bool.{and_from, and_parts, cases_Bool, cond_both, cond-false, eq-eqb, eqb-true}
use Rattle.std.proofs.lemmas.Bool.{false_from_ne_true, true≢false}
use Rattle.sctp_outbound_queue.specs.declared.message.Attributes.{Attributes}
use Rattle.sctp_outbound_queue.specs.declared.message.InFlight.{InFlight}
use Rattle.sctp_outbound_queue.specs.Message.{flagged, is_of, marker_of, outstanding_bytes_of}
use Rattle.sctp_outbound_queue.specs.Outbound.{outstanding_of_message}
use Rattle.sctp_model.specs.Messages.{Plan, bytes_at, bytes_below, message_of, piece_of, place_at}
use Rattle.sctp_model.specs.Machine.{put_2}
use Rattle.sctp_model.specs.Invariants.{gone_at}
use Rattle.sctp_fit.specs.Outgoing.{AreInFlight, AreNames, IsInFlight, Names}

-- a marker stays as it is
flagged_marker : (id : ℕ) (a : Attributes) → flagged id (marker_of a) ≡ marker_of a
flagged_marker id a =
    cond_both (eqb a.message_id id) (marker_of a) (marker_of a) (λ z. z ≡ marker_of a) (λ b. refl) (λ b. refl)

pub flagged_before : (id : ℕ) (xs : List InFlight) (a : Attributes)
    → map (flagged id) (xs ++ marker_of a ∷ []) ≡ map (flagged id) xs ++ marker_of a ∷ []
flagged_before id [] a = ap (λ (z : InFlight). z ∷ []) (flagged_marker id a)
flagged_before id (x ∷ xs) a = ap (λ (z : List InFlight). flagged id x ∷ z) (flagged_before id xs a)

none_of : (a b : Bool) → (a || b) ≡ false → (a ≡ false) × (b ≡ false)
none_of true b e = absurd (true≢false e)
none_of false b e = (refl, e)

-- where no piece of the message is in flight, all stay as they are, and none of its bytes are outstanding
pub none_flagged : (id : ℕ) (xs : List InFlight) → list_any (is_of id) xs ≡ false → map (flagged id) xs ≡ xs
none_flagged id [] e = refl
none_flagged id (x ∷ xs) e =
    let n = none_of (is_of id x) (list_any (is_of id) xs) e in
    ap (λ (z : List InFlight). flagged id x ∷ z) (none_flagged id xs n.1)
    ∙ ap (λ (z : InFlight). z ∷ xs)
    (cond-false (is_of id x) (record x { abandoned = true; retransmit = false }) x n.0)

pub none_outstanding : (id : ℕ) (xs : List InFlight) → list_any (is_of id) xs ≡ false
    → outstanding_of_message id xs ≡ 0
none_outstanding id [] e = refl
none_outstanding id (x ∷ xs) e =
    let n = none_of (is_of id x) (list_any (is_of id) xs) e in
    let r = none_outstanding id xs n.1 in
    let c = sum_by-cons (outstanding_bytes_of id) x xs in
    let z =
    cond-false (is_of id x) (cond (not x.acked && not x.abandoned) (length x.user_data) 0) 0 n.0 in
    omega arith

-- what counts of a piece on both sides
either_way : (b c a g : Bool) (y z : ℕ) → (b ≡ true → c ≡ true → (g ≡ false) × (y ≡ z))
    → cond b (cond (not a && c) y 0) 0 ≡ cond (b && c) (cond (not a && not g) z 0) 0
either_way true true true g y z h = refl
either_way true true false true y z h = absurd (true≢false (h refl refl).0)
either_way true true false false y z h = (h refl refl).1
either_way true false true g y z h = refl
either_way true false false g y z h = refl
either_way false c a g y z h = refl

-- Message i of stream s has this identifier.
module _ (n : Names) (p : Plan) (next : ℕ) (names : AreNames n p next) (s i id : ℕ) (known : i < length (p.accepted s))
    (is : id ≡ n.ids s i) where
  -- an identifier is the message's exactly where it is that of the same number of the same stream
  named_as : (t j m : ℕ) → j < length (p.accepted t) → m ≡ n.ids t j → eqb m id ≡ (eqb t s && eqb j i)
  named_as t j m l e = ⊎_elim
      (λ (b : eqb m id ≡ true).
      let same : n.ids t j ≡ n.ids s i = sym e ∙ eqb-true m id b ∙ is in
      let r = names.one t j s i l known same in
      b ∙ sym (and_from (eqb t s) (eqb j i) (eq-eqb t s r.0) (eq-eqb j i r.1)))
      (λ (b : eqb m id ≡ false).
      b ∙ sym (false_from_ne_true _ (λ (c : (eqb t s && eqb j i) ≡ true).
      let r = and_parts (eqb t s) (eqb j i) c in
      let same : m ≡ id =
      e ∙ ap (λ z. n.ids z j) (eqb-true t s r.0) ∙ ap (n.ids s) (eqb-true j i r.1) ∙ sym is in
      true≢false (sym (eq-eqb m id same) ∙ b))))
      (cases_Bool (eqb m id))

  module _ (acked : ℕ → Bool) (gone : ℕ → ℕ → Bool) where
    -- so a piece in flight is one of it
    piece_named : (o : ℕ) (x : InFlight) → IsInFlight n p acked gone o x
        → is_of id x ≡ (eqb (place_at p o).stream s && eqb (place_at p o).message i)
    piece_named o x h =
        named_as (place_at p o).stream (place_at p o).message x.message.message_id
        (subst (λ z. (place_at p o).message < length (p.accepted z)) h.stream h.message.known)
        (h.message.id ∙ ap (λ z. n.ids z (place_at p o).message) h.stream)

    -- a piece is abandoned where it is one of it, and in the direction too
    piece_flagged : (o : ℕ) (x : InFlight) (b : Bool) → is_of id x ≡ b → IsInFlight n p acked gone o x
        → IsInFlight n p acked (put_2 gone s i) o (cond b (record x { abandoned = true; retransmit = false }) x)
    piece_flagged o x true e h = record {
      known = h.known;
      stream = h.stream;
      message = h.message;
      piece = λ m. (let k = h.piece m in record { first = k.first; last = k.last; bytes = k.bytes });
      acked = h.acked;
      abandoned = sym (ap (λ z. cond z true (gone_at p gone o)) (sym (piece_named o x h) ∙ e));
    }
    piece_flagged o x false e h = record {
      known = h.known;
      stream = h.stream;
      message = h.message;
      piece = h.piece;
      acked = h.acked;
      abandoned = h.abandoned ∙ sym (ap (λ z. cond z true (gone_at p gone o)) (sym (piece_named o x h) ∙ e));
    }

    pub flight_flagged : (o : ℕ) (xs : List InFlight) → AreInFlight n p acked gone o xs
        → AreInFlight n p acked (put_2 gone s i) o (map (flagged id) xs)
    flight_flagged o [] h = h
    flight_flagged o (x ∷ xs) (h, hs) = (piece_flagged o x (is_of id x) refl h, flight_flagged (suc o) xs hs)

    module _ (stays : gone s i ≡ false)
        (tails : (o : ℕ) → o < length p.places → (place_at p o).marker ≡ true → gone_at p gone o ≡ true) where
      -- the offset is of the message and wasn't acknowledged
      abbrev pub left_on : ℕ → Bool
      left_on o = not (acked o) && eqb (place_at p o).message i

      -- a piece of the message stays, and has the bytes of its offset
      same_bytes : (o : ℕ) (x : InFlight) → IsInFlight n p acked gone o x → (place_at p o).stream ≡ s
          → (place_at p o).message ≡ i → (x.abandoned ≡ false) × (bytes_at p (place_at p o) ≡ length x.user_data)
      same_bytes o x h st m =
          let here : gone_at p gone o ≡ false = ap (λ z. gone z (place_at p o).message) st ∙ ap (gone s) m ∙ stays in
          let sent : (place_at p o).marker ≡ false =
          false_from_ne_true _ (λ (b : (place_at p o).marker ≡ true). true≢false (sym (tails o h.known b) ∙ here)) in (
            h.abandoned ∙ here,
            cond-false (place_at p o).marker 0
                (length (piece_of p.size (message_of p (place_at p o)).bytes (place_at p o).piece)) sent
                ∙ ap length (sym (h.piece sent).bytes),
          )

      -- what a piece adds on both sides
      bytes_of_piece : (o : ℕ) (x : InFlight) → IsInFlight n p acked gone o x
          → cond (eqb (place_at p o).stream s) (cond (left_on o) (bytes_at p (place_at p o)) 0) 0
          ≡ outstanding_bytes_of id x
      bytes_of_piece o x h =
          ap (λ z. cond (eqb (place_at p o).stream s)
          (cond (not z && eqb (place_at p o).message i) (bytes_at p (place_at p o)) 0) 0) (sym h.acked)
          ∙ either_way (eqb (place_at p o).stream s) (eqb (place_at p o).message i) x.acked x.abandoned
          (bytes_at p (place_at p o)) (length x.user_data)
          (λ a b. same_bytes o x h (eqb-true _ _ a) (eqb-true _ _ b))
          ∙ ap (λ z. cond z (cond (not x.acked && not x.abandoned) (length x.user_data) 0) 0)
          (sym (piece_named o x h))

      -- what all pieces add
      pub flight_bytes : (o : ℕ) (xs : List InFlight) → AreInFlight n p acked gone o xs
          → bytes_below p left_on s (length p.places) ≡ bytes_below p left_on s o + outstanding_of_message id xs
      flight_bytes o [] h = let e = ap (bytes_below p left_on s) h in omega arith
      flight_bytes o (x ∷ xs) (h, hs) =
          let first = bytes_of_piece o x h in
          let rest = flight_bytes (suc o) xs hs in
          let c = sum_by-cons (outstanding_bytes_of id) x xs in
          omega arith
