-- The pieces of one message stand on offsets that follow one another.
use Rattle.std.proofs.Common.{ℕ, zero, suc, ◌+◌, ◌*◌, ◌<◌, ◌≤◌, ◌≡◌, Bool, true, false, length, refl, sym, ap, ◌∙◌}
use Rattle.std.proofs.Common.{subst, ⊎_elim, arith}
use Rattle.std.proofs.Math.Nat.{mul-le-mul_left}
use Rattle.std.proofs.lemmas.Bool.{cases_lt, lt-leb}
use Rattle.sctp_model.specs.Messages.{Plan, IsAt, place_at, message_at, message_of, is_last}
use Rattle.sctp_model.specs.Invariants.{IsPlanned}

-- where the message of the offset o begins
record Start (p : Plan) (o : ℕ) : Type 0 where
  pub offset : ℕ
  pub from : offset + (place_at p o).piece ≡ o
  pub stream : (place_at p offset).stream ≡ (place_at p o).stream
  pub message : (place_at p offset).message ≡ (place_at p o).message
  pub piece : (place_at p offset).piece ≡ 0

start_of : (p : Plan) (over : ℕ → Bool) (n o : ℕ) → IsPlanned p over → o < length p.places → (place_at p o).piece ≡ n
    → Start p o
start_of p over zero o h l e = record { offset = o; from = omega arith; stream = refl; message = refl; piece = e }
start_of p over (suc n) o h l e =
    let b = h.before o n l e in
    let c = b.1 in
    let f = c.follows in
    let next = c.next in
    let fp = f.piece in
    let r = start_of p over n b.0 h (omega arith) (let u : (place_at p b.0).piece ≡ n = omega arith in u) in
    let rf = r.from in
    record {
      offset = r.offset;
      from = omega arith;
      stream = r.stream ∙ sym f.stream;
      message = r.message ∙ sym f.message;
      piece = r.piece;
    }

pub same_text : (p : Plan) (o q : ℕ) → (place_at p o).stream ≡ (place_at p q).stream
    → (place_at p o).message ≡ (place_at p q).message
    → message_of p (place_at p o) ≡ message_of p (place_at p q)
same_text p o q st m = ap (λ z. message_at p z (place_at p o).message) st ∙ ap (message_at p (place_at p q).stream) m

module _ {p : Plan} {over : ℕ → Bool} (h : IsPlanned p over) where
  -- two offsets of one message are as far apart as their pieces
  pub apart : (o q : ℕ) → o < length p.places → q < length p.places → (place_at p o).stream ≡ (place_at p q).stream
      → (place_at p o).message ≡ (place_at p q).message → o + (place_at p q).piece ≡ q + (place_at p o).piece
  apart o q lo lq st m =
      let a = start_of p over (place_at p o).piece o h lo refl in
      let b = start_of p over (place_at p q).piece q h lq refl in
      let fa = a.from in
      let fb = b.from in
      let e : a.offset ≡ b.offset =
      h.one a.offset b.offset (omega arith) (omega arith) (a.stream ∙ st ∙ sym b.stream) (a.message ∙ m ∙ sym b.message)
      (a.piece ∙ sym b.piece) in
      omega arith

  -- a piece with a later one of its message is not the last
  pub not_last : (o q : ℕ) → o < q → q < length p.places → (place_at p o).stream ≡ (place_at p q).stream
      → (place_at p o).message ≡ (place_at p q).message → is_last p (place_at p o) ≡ false
  not_last o q l lq st m =
      let d = apart o q (omega arith) lq st m in
      let sizes : p.size * suc (place_at p o).piece ≤ p.size * (place_at p q).piece =
      mul-le-mul_left p.size (let u : suc (place_at p o).piece ≤ (place_at p q).piece = omega arith in u) in
      let text = h.piece q lq in
      lt-leb _ _ (subst (λ z. p.size * suc (place_at p o).piece < length z.bytes) (sym (same_text p o q st m))
      (omega arith))

  -- ordered messages of a stream within its span that have one number are one
  pub one_message : {s o q : ℕ} → over s ≡ false → IsAt p s true o → IsAt p s true q
      → (place_at p o).ssn ≡ (place_at p q).ssn → (place_at p o).message ≡ (place_at p q).message
  one_message {s = s} {o = o} {q = q} v a b e =
      ⊎_elim
      (λ (l : o < q). let pair = h.pairs s v o q (omega arith) a b in pair.together e)
      (λ (g : q ≤ o). let pair = h.pairs s v q o g b a in sym (pair.together (sym e)))
      (cases_lt o q)
