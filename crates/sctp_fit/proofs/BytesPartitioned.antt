-- The bytes of a message of which something was sent, on its offsets and in its rest that waits, are all its bytes
-- (RFC 4960 section 6.9).
use Rattle.std.proofs.Common.{ℕ, zero, suc, ◌+◌, ◌-◌, ◌*◌, ◌<◌, ◌≤◌, ◌≡◌, ◌⊎◌, min, Bool, true, false, not, cond, eqb}
use Rattle.std.proofs.Common.{◌&&◌, List, [], ◌∷◌, length, drop, Option, Some, None, refl, sym, ap, ◌∙◌, arith}
use Rattle.std.proofs.Common.{inl, inr, ⊎_elim, sum_by}
use Rattle.std.proofs.lemmas.List.{length-take, length-drop}
use Rattle.std.proofs.lemmas.List.Sums.{sum_by-cons}
use Rattle.std.proofs.lemmas.Bool.{cases_Bool, eq-eqb, eqb-true, false_from_ne_true, leb-false, leb-true}
use Rattle.std.proofs.lemmas.Bool.{true≢false}
use Rattle.sctp_model.specs.Messages.{Place, Plan, bytes_at, bytes_below, is_last, message_at, message_of, piece_of}
use Rattle.sctp_model.specs.Messages.{place_at}
use Rattle.sctp_model.specs.Machine.{Direction}
use Rattle.sctp_model.specs.Invariants.{Invariant, IsPlanned}
use Rattle.sctp_model.proofs.ForwardTsns.{back}
use Rattle.sctp_model.proofs.ReleasedBytes.{bytes_none, message_fits}
use Rattle.sctp_fit.specs.Outgoing.{ArePieces}

-- Sums over offsets

-- further offsets take nothing away
pub bytes_more : (p : Plan) (test : ℕ → Bool) (s n d : ℕ) → bytes_below p test s n ≤ bytes_below p test s (d + n)
bytes_more p test s n zero = ap_below (let e : n ≡ 0 + n = omega arith in e)
  where
    ap_below : n ≡ 0 + n → bytes_below p test s n ≤ bytes_below p test s (0 + n)
    ap_below e = let r = ap (bytes_below p test s) e in omega arith
bytes_more p test s n (suc d) =
    let r = bytes_more p test s n d in
    let e = ap (bytes_below p test s) (let k : suc d + n ≡ suc (d + n) = omega arith in k) in
    omega arith

-- offsets that pass one test pass another one too, or fail it
pub bytes_split : (p : Plan) (a test : ℕ → Bool) (s n : ℕ)
    → bytes_below p test s n
    ≡ bytes_below p (λ o. a o && test o) s n + bytes_below p (λ o. not (a o) && test o) s n
bytes_split p a test s zero = refl
bytes_split p a test s (suc o) =
    let r = bytes_split p a test s o in
    let e = part (eqb (place_at p o).stream s) (a o) (test o) (bytes_at p (place_at p o)) in
    omega arith
  where
    part : (b c d : Bool) (x : ℕ)
        → cond b (cond d x 0) 0 ≡ cond b (cond (c && d) x 0) 0 + cond b (cond (not c && d) x 0) 0
    part true true true x = omega arith
    part true true false x = refl
    part true false true x = omega arith
    part true false false x = refl
    part false c d x = refl

-- Pieces

-- the bytes of a piece, by the length of all
piece_length : (size : ℕ) (bytes : List ℕ) (k : ℕ) → length (piece_of size bytes k) ≡ min size (length bytes - size * k)
piece_length size bytes k =
    let a = length-take size (drop (size * k) bytes) in let b = length-drop (size * k) bytes in omega arith

-- the pieces from number k on hold what the ones before it leave
pub pieces_bytes : (size : ℕ) (bytes : List ℕ) (k : ℕ) (first : List ℕ) (rest : List (List ℕ)) → size * k ≤ length bytes
    → ArePieces size bytes k first rest → length first + sum_by length rest + size * k ≡ length bytes
pieces_bytes size bytes k first [] l (e, last) =
    let a = ap length e in
    let b = piece_length size bytes k in
    let c = leb-true _ _ last in
    omega arith
pieces_bytes size bytes k first (r ∷ rs) l (e, more, hs) =
    let a = ap length e in
    let b = piece_length size bytes k in
    let c = leb-false _ _ more in
    let d = pieces_bytes size bytes (suc k) r rs (omega arith) hs in
    let s = sum_by-cons length r rs in
    omega arith

-- Message i of stream s, of which the offset o has a piece.
pub record IsOn (p : Plan) (s i o : ℕ) : Type 0 where
  pub known : o < length p.places
  pub stream : (place_at p o).stream ≡ s
  pub message : (place_at p o).message ≡ i

-- Message i of stream s goes on with the place y.
pub record GoesOnWith (current : Option Place) (s i : ℕ) (y : Place) : Type 0 where
  pub is : current ≡ Some y
  pub stream : y.stream ≡ s
  pub message : y.message ≡ i

module _ (p : Plan) (over : ℕ → Bool) (planned : IsPlanned p over) (s i : ℕ)
    (sent : (o : ℕ) → IsOn p s i o → (place_at p o).marker ≡ false) where
  -- the offset has a piece of the message
  abbrev pub of_message : ℕ → Bool
  of_message o = eqb (place_at p o).message i

  -- the bytes that an offset of the message has
  bytes_on : (o : ℕ) → IsOn p s i o
      → cond (eqb (place_at p o).stream s) (cond (of_message o) (bytes_at p (place_at p o)) 0) 0
      ≡ min p.size (length (message_at p s i).bytes - p.size * (place_at p o).piece)
  bytes_on o a =
      rw (eq-eqb (place_at p o).stream s a.stream, eq-eqb (place_at p o).message i a.message, sent o a)
      (piece_length p.size (message_of p (place_at p o)).bytes (place_at p o).piece
      ∙ ap (λ z. min p.size (length z.bytes - p.size * (place_at p o).piece))
      (ap (λ z. message_at p z (place_at p o).message) a.stream ∙ ap (message_at p s) a.message))

  -- no offset before that of the first piece has a piece of it
  none_earlier : (q o : ℕ) → IsOn p s i o → (place_at p o).piece ≡ 0 → q < o → (place_at p q).stream ≡ s
      → (place_at p q).message ≡ i → ⊥
  none_earlier q o a e l st m =
      let known = a.known in
      let b = back p over (place_at p q).piece q 0 planned (omega arith) (omega arith) in
      let f = b.1 in
      let is = f.is in
      let same : b.0 ≡ o =
      planned.one b.0 o (omega arith) known (f.stream ∙ st ∙ sym a.stream) (f.message ∙ m ∙ sym a.message)
      (f.piece ∙ sym e) in
      omega arith

  -- up to an offset of the message lie the bytes up to the end of its piece
  bytes_until : (k o : ℕ) → IsOn p s i o → (place_at p o).piece ≡ k
      → bytes_below p of_message s (suc o) ≡ min (length (message_at p s i).bytes) (p.size * suc k)
  bytes_until zero o a e =
      let here = bytes_on o a in
      let first = ap (λ z. p.size * z) e in
      let none =
      bytes_none p of_message s o (λ q l st. false_from_ne_true _ (λ (b : of_message q ≡ true).
      none_earlier q o a e l st (eqb-true _ _ b))) in
      omega arith
  bytes_until (suc k) o a e =
      let b = planned.before o k a.known e in
      let q = b.0 in
      let f = b.1.follows in
      let n = b.1.next in
      let here = bytes_on o a in
      let piece = ap (λ z. p.size * z) e in
      let before =
      bytes_until k q (record {
        known = let l = a.known in omega arith;
        stream = sym f.stream ∙ a.stream;
        message = sym f.message ∙ a.message;
      }) (let g = f.piece in omega arith) in
      let same = ap (bytes_below p of_message s) n in
      omega arith

  -- all bytes of the message lie on offsets, where its last piece does
  all_bytes : (o : ℕ) → IsOn p s i o → is_last p (place_at p o) ≡ true
      → bytes_below p of_message s (length p.places) ≡ length (message_at p s i).bytes
  all_bytes o a last =
      let until = bytes_until (place_at p o).piece o a refl in
      let text =
      ap (λ z. length z.bytes)
      (ap (λ z. message_at p z (place_at p o).message) a.stream ∙ ap (message_at p s) a.message) in
      let end = leb-true _ _ last in
      let most = message_fits p over (λ q. true) s i planned in
      let known = a.known in
      let more = bytes_more p of_message s (suc o) (length p.places - suc o) in
      let same =
      ap (bytes_below p of_message s)
      (let e : length p.places - suc o + suc o ≡ length p.places = omega arith in e) in
      omega arith

module _ (w : Direction) (inv : Invariant w) (s i : ℕ) (stays : w.sender.gone s i ≡ false) where
  -- no offset of the message is a marker
  pub sent_on : (o : ℕ) → IsOn w.sender.plan s i o → (place_at w.sender.plan o).marker ≡ false
  sent_on o a = false_from_ne_true _ (λ (m : (place_at w.sender.plan o).marker ≡ true).
      true≢false (sym (inv.tails o a.known m)
      ∙ ap (λ z. w.sender.gone z (place_at w.sender.plan o).message) a.stream ∙ ap (w.sender.gone s) a.message
      ∙ stays))

  -- the bytes of the message on its offsets
  abbrev pub bytes_sent : ℕ
  bytes_sent = bytes_below w.sender.plan (λ o. eqb (place_at w.sender.plan o).message i) s (length w.sender.plan.places)

  -- the last offset is one of the message, and its piece isn't the last one
  ends : (o : ℕ) → IsOn w.sender.plan s i o → (c : Option Place) → w.sender.current ≡ c
      → length w.sender.plan.places ≡ suc o
      → is_last w.sender.plan (place_at w.sender.plan o) ≡ false → (y : Place) × GoesOnWith w.sender.current s i y
  ends o a None c n b = absurd (⊎_elim
      (λ (l : is_last w.sender.plan (place_at w.sender.plan o) ≡ true). true≢false (sym l ∙ b))
      (λ (m : (place_at w.sender.plan o).marker ≡ true). true≢false (sym m ∙ sent_on o a))
      (inv.sending.closed c o n))
  ends o a (Some y) c n b =
      let g = inv.sending.going y c in
      let k = g.is in
      let same : g.last ≡ o = omega arith in (
        y,
        record {
          is = c;
          stream = g.follows.stream ∙ ap (λ z. (place_at w.sender.plan z).stream) same ∙ a.stream;
          message = g.follows.message ∙ ap (λ z. (place_at w.sender.plan z).message) same ∙ a.message;
        },
      )

  -- From an offset of the message on, it goes on past the last offset, or all its bytes lie on offsets.
  pub goes_on_or_ends : (d o : ℕ) → o + suc d ≡ length w.sender.plan.places → IsOn w.sender.plan s i o
      → ((y : Place) × GoesOnWith w.sender.current s i y) ⊎ (bytes_sent ≡ length (message_at w.sender.plan s i).bytes)
  goes_on_or_ends zero o e a = ⊎_elim
      (λ (b : is_last w.sender.plan (place_at w.sender.plan o) ≡ true).
      inr (all_bytes w.sender.plan w.over inv.planned s i sent_on o a b))
      (λ (b : is_last w.sender.plan (place_at w.sender.plan o) ≡ false).
      inl (ends o a w.sender.current refl (omega arith) b))
      (cases_Bool (is_last w.sender.plan (place_at w.sender.plan o)))
  goes_on_or_ends (suc d) o e a = ⊎_elim
      (λ (b : is_last w.sender.plan (place_at w.sender.plan o) ≡ true).
      inr (all_bytes w.sender.plan w.over inv.planned s i sent_on o a b))
      (λ (b : is_last w.sender.plan (place_at w.sender.plan o) ≡ false).
      let f = inv.planned.after o (omega arith) b (sent_on o a) in
      goes_on_or_ends d (suc o) (omega arith)
      (record { known = omega arith; stream = f.stream ∙ a.stream; message = f.message ∙ a.message }))
      (cases_Bool (is_last w.sender.plan (place_at w.sender.plan o)))

  -- Where it goes on, the bytes of the pieces before the next one lie on offsets.
  pub bytes_before : (y : Place) → GoesOnWith w.sender.current s i y
      → (bytes_sent ≡ w.sender.plan.size * y.piece)
      × (w.sender.plan.size * y.piece < length (message_at w.sender.plan s i).bytes)
  bytes_before y h =
      let g = inv.sending.going y h.is in
      let f = g.follows in
      let n = g.is in
      let a : IsOn w.sender.plan s i g.last =
      record { known = omega arith; stream = sym f.stream ∙ h.stream; message = sym f.message ∙ h.message } in
      let until =
      bytes_until w.sender.plan w.over inv.planned s i sent_on (place_at w.sender.plan g.last).piece g.last a refl in
      let more = leb-false _ _ g.more in
      let text =
      ap (λ z. length z.bytes)
      (ap (λ z. message_at w.sender.plan z (place_at w.sender.plan g.last).message) a.stream
      ∙ ap (message_at w.sender.plan s) a.message) in
      let next = ap (λ z. w.sender.plan.size * z) f.piece in
      let same =
      ap (bytes_below w.sender.plan (λ o. eqb (place_at w.sender.plan o).message i) s) n in
      (let r : bytes_sent ≡ w.sender.plan.size * y.piece = omega arith in r, omega arith)
