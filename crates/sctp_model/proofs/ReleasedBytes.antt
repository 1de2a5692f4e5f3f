-- How many bytes are released: acknowledged ones of messages that stay, and all of those given up, so never more than
-- were accepted.
use Rattle.std.proofs.Common.{ℕ, zero, suc, ◌+◌, ◌-◌, ◌*◌, ◌<◌, ◌≤◌, ◌≡◌, min, Bool, true, false, not, cond, eqb, ◌&&◌}
use Rattle.std.proofs.Common.{length, drop, refl, sym, ap, ◌∙◌, subst, ⊎_elim, arith}
use Rattle.std.proofs.Math.Nat.{mul-le-mul_left}
use Rattle.std.proofs.lemmas.List.{length-take, length-drop}
use Rattle.std.proofs.lemmas.Bool.{cases_Bool, cases_eq, and_parts, and_from, eqb-true, eq-eqb, ne_eqb, true≢false}
use Rattle.std.proofs.lemmas.Bool.{false_from_ne_true, cond-true, cond-false}
use Rattle.sctp_model.specs.Messages.{Place, Plan, place_at, message_at, message_of, bytes_at, bytes_below, bytes_among}
use Rattle.sctp_model.specs.Messages.{accepted_bytes, sum_below, piece_of}
use Rattle.sctp_model.specs.Machine.{put_2}
use Rattle.sctp_model.specs.Invariants.{IsPlanned, gone_at, released_bytes}
use Rattle.sctp_model.proofs.PlansGrow.{IsExtended, bytes_kept}
use Rattle.sctp_model.proofs.ForwardTsns.{back}

-- Sums

sum_same : (f g : ℕ → ℕ) (n : ℕ) → ((i : ℕ) → i < n → f i ≡ g i) → sum_below f n ≡ sum_below g n
sum_same f g zero h = refl
sum_same f g (suc n) h = let a = h n (omega arith) in let b = sum_same f g n (λ i l. h i (omega arith)) in omega arith

sum_both : (f g : ℕ → ℕ) (n : ℕ) → sum_below (λ i. f i + g i) n ≡ sum_below f n + sum_below g n
sum_both f g zero = refl
sum_both f g (suc n) = let a = sum_both f g n in omega arith

sum_less : (f g : ℕ → ℕ) (n : ℕ) → ((i : ℕ) → i < n → f i ≤ g i) → sum_below f n ≤ sum_below g n
sum_less f g zero h = omega arith
sum_less f g (suc n) h = let a = h n (omega arith) in let b = sum_less f g n (λ i l. h i (omega arith)) in omega arith

sum_tail : (f : ℕ → ℕ) (n k : ℕ) → n ≤ k → ((i : ℕ) → n ≤ i → f i ≡ 0) → sum_below f k ≡ sum_below f n
sum_tail f n zero l h = ap (sum_below f) (let e : 0 ≡ n = omega arith in e)
sum_tail f n (suc k) l h = ⊎_elim
    (λ (e : suc k ≡ n). ap (sum_below f) e)
    (λ (ne : suc k ≡ n → ⊥). let a = h k (omega (arith, ne)) in
    let r = sum_tail f n k (omega (arith, ne)) h in
    omega arith)
    (cases_eq (suc k) n)

sum_one : (m x n : ℕ) → m < n → x ≤ sum_below (λ i. cond (eqb m i) x 0) n
sum_one m x zero l = absurd (omega arith)
sum_one m x (suc n) l = ⊎_elim
    (λ (e : m ≡ n). let a = cond-true (eqb m n) x 0 (eq-eqb m n e) in omega arith)
    (λ (ne : m ≡ n → ⊥). let r = sum_one m x n (omega (arith, ne)) in omega arith)
    (cases_eq m n)

sum_plus : (f g : ℕ → ℕ) (i x n : ℕ) → i < n → g i ≡ f i + x → ((j : ℕ) → (j ≡ i → ⊥) → g j ≡ f j)
    → sum_below g n ≡ sum_below f n + x
sum_plus f g i x zero l e h = absurd (omega arith)
sum_plus f g i x (suc n) l e h = ⊎_elim
    (λ (s : n ≡ i).
    let a : g n ≡ f n + x = ap g s ∙ e ∙ ap (λ z. f z + x) (sym s) in
    let b = sum_same g f n (λ j k. h j (λ (m : j ≡ i). absurd (omega arith))) in
    omega arith)
    (λ (ne : n ≡ i → ⊥). let a = h n ne in let b = sum_plus f g i x n (omega (arith, ne)) e h in omega arith)
    (cases_eq n i)

-- Bytes on offsets

pub bytes_same : (p : Plan) (a b : ℕ → Bool) (s n : ℕ) → ((o : ℕ) → o < n → (place_at p o).stream ≡ s → a o ≡ b o)
    → bytes_below p a s n ≡ bytes_below p b s n
bytes_same p a b s zero h = refl
bytes_same p a b s (suc o) h =
    let r = bytes_same p a b s o (λ q l. h q (omega arith)) in
    let part : cond (eqb (place_at p o).stream s) (cond (a o) (bytes_at p (place_at p o)) 0) 0
    ≡ cond (eqb (place_at p o).stream s) (cond (b o) (bytes_at p (place_at p o)) 0) 0
    = ⊎_elim
    (λ (e : eqb (place_at p o).stream s ≡ true).
    ap (λ z. cond (eqb (place_at p o).stream s) (cond z (bytes_at p (place_at p o)) 0) 0)
    (h o (omega arith) (eqb-true _ _ e)))
    (λ (e : eqb (place_at p o).stream s ≡ false). rw e refl)
    (cases_Bool (eqb (place_at p o).stream s)) in
    omega arith

-- offsets past the end that no test knows carry no bytes
pub bytes_tail : (r : Plan) (test : ℕ → Bool) (s n k : ℕ) → n ≤ k → ((o : ℕ) → n ≤ o → test o ≡ false)
    → bytes_below r test s k ≡ bytes_below r test s n
bytes_tail r test s n zero l h = ap (bytes_below r test s) (let e : 0 ≡ n = omega arith in e)
bytes_tail r test s n (suc k) l h =
    ⊎_elim
    (λ (e : suc k ≡ n). ap (bytes_below r test s) e)
    (λ (ne : suc k ≡ n → ⊥).
    let t = h k (omega (arith, ne)) in
    ap (λ z. cond (eqb (place_at r k).stream s) (cond z (bytes_at r (place_at r k)) 0) 0 + bytes_below r test s k) t
    ∙ nothing (eqb (place_at r k).stream s) (bytes_below r test s k)
    ∙ bytes_tail r test s n k (omega (arith, ne)) h)
    (cases_eq (suc k) n)
  where
    nothing : (b : Bool) (x : ℕ) → cond b 0 0 + x ≡ x
    nothing true x = omega arith
    nothing false x = omega arith

pub bytes_none : (p : Plan) (test : ℕ → Bool) (s n : ℕ) → ((o : ℕ) → o < n → (place_at p o).stream ≡ s → test o ≡ false)
    → bytes_below p test s n ≡ 0
bytes_none p test s n h =
    bytes_same p test (λ o. false) s n h ∙ bytes_tail p (λ o. false) s 0 n (omega arith) (λ o l. refl)

-- The pieces of a message on offsets are no more than its bytes.

piece_below : (p : Plan) (over : ℕ → Bool) (q o : ℕ) → IsPlanned p over → q < o → o < length p.places
    → (place_at p q).stream ≡ (place_at p o).stream → (place_at p q).message ≡ (place_at p o).message
    → (place_at p q).piece < (place_at p o).piece
piece_below p over q o h l known st m =
    let fq = back p over (place_at p q).piece q 0 h (omega arith) (omega arith) in
    let fo = back p over (place_at p o).piece o 0 h known (omega arith) in
    let kq = fq.1 in
    let ko = fo.1 in
    let iq = kq.is in
    let io = ko.is in
    let same : fq.0 ≡ fo.0 =
    h.one fq.0 fo.0 (omega arith) (omega arith) (kq.stream ∙ st ∙ sym ko.stream) (kq.message ∙ m ∙ sym ko.message)
    (kq.piece ∙ sym ko.piece) in
    omega arith

short : (p : Plan) (x : Place) → bytes_at p x ≤ min p.size (length (message_of p x).bytes - p.size * x.piece)
short p x = split x.marker
  where
    split : (b : Bool)
        → cond b 0 (length (piece_of p.size (message_of p x).bytes x.piece))
        ≤ min p.size (length (message_of p x).bytes - p.size * x.piece)
    split true = omega arith
    split false =
        let a = length-take p.size (drop (p.size * x.piece) (message_of p x).bytes) in
        let b = length-drop (p.size * x.piece) (message_of p x).bytes in
        omega arith

module _ {p : Plan} {over : ℕ → Bool} (test : ℕ → Bool) (s i : ℕ) (h : IsPlanned p over) where
  pub fits : (n m : ℕ) → n ≤ length p.places
      → ((o : ℕ) → o < n → (place_at p o).stream ≡ s → (place_at p o).message ≡ i → min (length (message_at p s
      i).bytes) (p.size * suc (place_at p o).piece) ≤ m)
      → bytes_below p (λ o. test o && eqb (place_at p o).message i) s n ≤ m
  fits zero m l b = omega arith
  fits (suc o) m l b =
      ⊎_elim
      (λ (t : (eqb (place_at p o).stream s && (test o && eqb (place_at p o).message i)) ≡ true).
      let parts = and_parts (eqb (place_at p o).stream s) (test o && eqb (place_at p o).message i) t in
      let st = eqb-true _ _ parts.0 in
      let mg = eqb-true _ _ (and_parts (test o) (eqb (place_at p o).message i) parts.1).1 in
      let text : message_of p (place_at p o) ≡ message_at p s i =
      ap (λ z. message_at p z (place_at p o).message) st ∙ ap (message_at p s) mg in
      let x = short p (place_at p o) in
      let lengths = ap (λ z. length z.bytes) text in
      let here = h.piece o (omega arith) in
      let top = b o (omega arith) st mg in
      let r = fits o (p.size * (place_at p o).piece) (omega arith) (λ q lq sq mq.
      let less =
      mul-le-mul_left p.size (let u : suc (place_at p q).piece ≤ (place_at p o).piece =
      piece_below p over q o h lq (omega arith) (sq ∙ sym st) (mq ∙ sym mg) in u) in
      omega arith) in
      let one =
      part (eqb (place_at p o).stream s) (test o && eqb (place_at p o).message i) (bytes_at p (place_at p o))
      ∙ cond-true _ (bytes_at p (place_at p o)) 0 t in
      omega arith)
      (λ (t : (eqb (place_at p o).stream s && (test o && eqb (place_at p o).message i)) ≡ false).
      let r = fits o m (omega arith) (λ q lq. b q (omega arith)) in
      let one =
      part (eqb (place_at p o).stream s) (test o && eqb (place_at p o).message i) (bytes_at p (place_at p o))
      ∙ cond-false _ (bytes_at p (place_at p o)) 0 t in
      omega arith)
      (cases_Bool (eqb (place_at p o).stream s && (test o && eqb (place_at p o).message i)))
    where
      part : (a t : Bool) (x : ℕ) → cond a (cond t x 0) 0 ≡ cond (a && t) x 0
      part true t x = refl
      part false t x = refl

pub message_fits : (p : Plan) (over : ℕ → Bool) (test : ℕ → Bool) (s i : ℕ) → IsPlanned p over
    → bytes_below p (λ o. test o && eqb (place_at p o).message i) s (length p.places) ≤ length (message_at p s i).bytes
message_fits p over test s i h =
    fits test s i h (length p.places) (length (message_at p s i).bytes) (omega arith) (λ o l st m. omega arith)

-- More is accepted or gets an offset

pub released_grown : (p r : Plan) (e : IsExtended p r) (acked : ℕ → Bool) (gone : ℕ → ℕ → Bool) (s : ℕ)
    → ((o : ℕ) → length p.places ≤ o → acked o ≡ false) → ((i : ℕ) → gone s i ≡ true → i < length (p.accepted s))
    → released_bytes r acked gone s ≡ released_bytes p acked gone s
released_grown p r e acked gone s unknown known =
    let a : bytes_below r (λ o. acked o && not (gone_at r gone o)) s (length r.places)
    ≡ bytes_below p (λ o. acked o && not (gone_at p gone o)) s (length p.places)
    =
    bytes_tail r (λ o. acked o && not (gone_at r gone o)) s (length p.places) (length r.places) e.more
    (λ o l. ap (λ z. z && not (gone_at r gone o)) (unknown o l))
    ∙ bytes_kept p r e (λ o. acked o && not (gone_at r gone o)) s (length p.places) (omega arith)
    ∙ bytes_same p (λ o. acked o && not (gone_at r gone o)) (λ o. acked o && not (gone_at p gone o)) s (length p.places)
    (λ o l st. ap (λ z. acked o && not (gone z.stream z.message)) (e.places o l)) in
    let b : bytes_among r (gone s) s ≡ bytes_among p (gone s) s
    =
    sum_tail (λ i. cond (gone s i) (length (message_at r s i).bytes) 0) (length (p.accepted s))
    (length (r.accepted s)) (e.longer s)
    (λ i l. cond-false (gone s i) (length (message_at r s i).bytes) 0
    (false_from_ne_true _ (λ (g : gone s i ≡ true). let k = known i g in absurd (omega arith))))
    ∙ sum_same (λ i. cond (gone s i) (length (message_at r s i).bytes) 0)
    (λ i. cond (gone s i) (length (message_at p s i).bytes) 0) (length (p.accepted s))
    (λ i l. ap (λ z. cond (gone s i) (length z.bytes) 0) (e.messages s i l)) in
    ap (λ z. z + bytes_among r (gone s) s) a
    ∙ ap (λ z. bytes_below p (λ o. acked o && not (gone_at p gone o)) s (length p.places) + z) b

-- A message is given up

pub gone_now : (gone : ℕ → ℕ → Bool) (s i : ℕ) → put_2 gone s i s i ≡ true
gone_now gone s i = cond-true _ true (gone s i) (and_from _ _ (eq-eqb s s refl) (eq-eqb i i refl))

gone_aside : (gone : ℕ → ℕ → Bool) (s i t j : ℕ) → (t ≡ s → ⊥) → put_2 gone s i t j ≡ gone t j
gone_aside gone s i t j ne = cond-false _ true (gone t j) (ap (λ z. z && eqb j i) (ne_eqb t s ne))

gone_beside : (gone : ℕ → ℕ → Bool) (s i j : ℕ) → (j ≡ i → ⊥) → put_2 gone s i s j ≡ gone s j
gone_beside gone s i j ne = cond-false _ true (gone s j) (no (eqb s s) (ne_eqb j i ne))
  where
    no : (a : Bool) → eqb j i ≡ false → (a && eqb j i) ≡ false
    no true e = e
    no false e = refl

-- what was acknowledged of it was counted, and counts no more
given_bytes : (p : Plan) (acked : ℕ → Bool) (gone : ℕ → ℕ → Bool) (s i n : ℕ) → gone s i ≡ false
    → bytes_below p (λ o. acked o && not (gone_at p (put_2 gone s i) o)) s n
    + bytes_below p (λ o. acked o && eqb (place_at p o).message i) s n
    ≡ bytes_below p (λ o. acked o && not (gone_at p gone o)) s n
given_bytes p acked gone s i zero stays = refl
given_bytes p acked gone s i (suc o) stays =
    let r = given_bytes p acked gone s i o stays in
    let one =
    part (eqb (place_at p o).stream s) (acked o) (eqb (place_at p o).message i) (gone_at p gone o)
    (bytes_at p (place_at p o))
    (λ e m. ap (λ z. gone z (place_at p o).message) (eqb-true _ _ e) ∙ ap (gone s) (eqb-true _ _ m) ∙ stays) in
    omega arith
  where
    part : (b a e g : Bool) (x : ℕ) → (b ≡ true → e ≡ true → g ≡ false)
        → cond b (cond (a && not (cond (b && e) true g)) x 0) 0 + cond b (cond (a && e) x 0) 0
        ≡ cond b (cond (a && not g) x 0) 0
    part false a e g x f = refl
    part true false e g x f = refl
    part true true true true x f = absurd (true≢false (f refl refl))
    part true true true false x f = omega arith
    part true true false true x f = refl
    part true true false false x f = omega arith

module _ {p : Plan} {over : ℕ → Bool} (acked : ℕ → Bool) (gone : ℕ → ℕ → Bool) (s i released : ℕ)
    (h : IsPlanned p over) where
  -- its other bytes are released now
  pub released_given : gone s i ≡ false → i < length (p.accepted s) → released ≡ released_bytes p acked gone s
      → released
      + (length (message_at p s i).bytes - bytes_below p (λ o. acked o && eqb (place_at p o).message i) s (length
      p.places)) ≡ released_bytes p acked (put_2 gone s i) s
  released_given stays known e =
      let a = given_bytes p acked gone s i (length p.places) stays in
      let b : bytes_among p (put_2 gone s i s) s ≡ bytes_among p (gone s) s + length (message_at p s i).bytes
      =
      sum_plus (λ j. cond (gone s j) (length (message_at p s j).bytes) 0)
      (λ j. cond (put_2 gone s i s j) (length (message_at p s j).bytes) 0)
      i (length (message_at p s i).bytes) (length (p.accepted s)) known
      (let x = cond-true (put_2 gone s i s i) (length (message_at p s i).bytes) 0 (gone_now gone s i) in
      let y = cond-false (gone s i) (length (message_at p s i).bytes) 0 stays in
      omega arith)
      (λ j ne. ap (λ z. cond z (length (message_at p s j).bytes) 0) (gone_beside gone s i j ne)) in
      let c = message_fits p over acked s i h in
      omega arith

pub released_aside : (p : Plan) (acked : ℕ → Bool) (gone : ℕ → ℕ → Bool) (s i t : ℕ) → (t ≡ s → ⊥)
    → released_bytes p acked (put_2 gone s i) t ≡ released_bytes p acked gone t
released_aside p acked gone s i t ne =
    let a : bytes_below p (λ o. acked o && not (gone_at p (put_2 gone s i) o)) t (length p.places)
    ≡ bytes_below p (λ o. acked o && not (gone_at p gone o)) t (length p.places)
    =
    bytes_same p (λ o. acked o && not (gone_at p (put_2 gone s i) o)) (λ o. acked o && not (gone_at p gone o)) t
    (length p.places)
    (λ o l st.
    ap (λ z. acked o && not z) (gone_aside gone s i (place_at p o).stream (place_at p o).message
    (λ (e : (place_at p o).stream ≡ s). ne (sym st ∙ e)))) in
    let b : bytes_among p (put_2 gone s i t) t ≡ bytes_among p (gone t) t
    =
    sum_same (λ j. cond (put_2 gone s i t j) (length (message_at p t j).bytes) 0)
    (λ j. cond (gone t j) (length (message_at p t j).bytes) 0) (length (p.accepted t))
    (λ j l. ap (λ z. cond z (length (message_at p t j).bytes) 0) (gone_aside gone s i t j ne)) in
    omega arith

-- where nothing is given up
pub released_none : (p : Plan) (gone : ℕ → ℕ → Bool) (s : ℕ) → ((i : ℕ) → gone s i ≡ false)
    → bytes_among p (gone s) s ≡ 0
released_none p gone s none =
    sum_tail (λ i. cond (gone s i) (length (message_at p s i).bytes) 0) 0 (length (p.accepted s)) (omega arith)
    (λ i l. cond-false (gone s i) (length (message_at p s i).bytes) 0 (none i))

-- No more than was accepted

by_message : (p : Plan) (over : ℕ → Bool) (acked : ℕ → Bool) (gone : ℕ → ℕ → Bool) (s n : ℕ) → IsPlanned p over
    → n ≤ length p.places
    → bytes_below p (λ o. acked o && not (gone_at p gone o)) s n
    ≤ sum_below (λ i. cond (gone s i) 0 (bytes_below p (λ o. eqb (place_at p o).message i) s n)) (length (p.accepted s))
by_message p over acked gone s zero h l = omega arith
by_message p over acked gone s (suc o) h l =
    let r = by_message p over acked gone s o h (omega arith) in
    let d =
    sum_both (λ i. cond (gone s i) 0 (bytes_below p (λ q. eqb (place_at p q).message i) s o))
    (λ i. cond (eqb (place_at p o).message i) new 0) (length (p.accepted s)) in
    let e =
    sum_less (λ i. cond (gone s i) 0 (bytes_below p (λ q. eqb (place_at p q).message i) s o)
    + cond (eqb (place_at p o).message i) new 0)
    (λ i. cond (gone s i) 0 (bytes_below p (λ q. eqb (place_at p q).message i) s (suc o))) (length (p.accepted s))
    (λ i li. each i) in
    let f = here in
    omega arith
  where
    new : ℕ
    new = cond (eqb (place_at p o).stream s) (cond (acked o && not (gone_at p gone o)) (bytes_at p (place_at p o)) 0) 0

    here : new ≤ sum_below (λ i. cond (eqb (place_at p o).message i) new 0) (length (p.accepted s))
    here = ⊎_elim
        (λ (t : eqb (place_at p o).stream s ≡ true). sum_one (place_at p o).message new (length (p.accepted s))
        (subst (λ z. (place_at p o).message < length (p.accepted z)) (eqb-true _ _ t) (h.known o (omega arith))))
        (λ (t : eqb (place_at p o).stream s ≡ false). let z =
        cond-false _ (cond (acked o && not (gone_at p gone o)) (bytes_at p (place_at p o)) 0) 0 t in omega arith)
        (cases_Bool (eqb (place_at p o).stream s))

    part : (b a e g g' : Bool) (x y : ℕ) → (b ≡ true → e ≡ true → g ≡ g')
        → cond g' 0 y + cond e (cond b (cond (a && not g) x 0) 0) 0 ≤ cond g' 0 (cond b (cond e x 0) 0 + y)
    part b a false g true x y f = omega arith
    part true a false g false x y f = omega arith
    part false a false g false x y f = omega arith
    part false a true g true x y f = omega arith
    part false a true g false x y f = omega arith
    part true true true true true x y f = omega arith
    part true false true g true x y f = omega arith
    part true true true false true x y f = absurd (true≢false (sym (f refl refl)))
    part true true true false false x y f = omega arith
    part true true true true false x y f = omega arith
    part true false true g false x y f = omega arith

    each : (i : ℕ)
        → cond (gone s i) 0 (bytes_below p (λ q. eqb (place_at p q).message i) s o)
        + cond (eqb (place_at p o).message i) new 0
        ≤ cond (gone s i) 0 (bytes_below p (λ q. eqb (place_at p q).message i) s (suc o))
    each i =
        part (eqb (place_at p o).stream s) (acked o) (eqb (place_at p o).message i) (gone_at p gone o) (gone s i)
        (bytes_at p (place_at p o))
        (bytes_below p (λ q. eqb (place_at p q).message i) s o)
        (λ e m. ap (λ z. gone z (place_at p o).message) (eqb-true _ _ e) ∙ ap (gone s) (eqb-true _ _ m))

pub released_within : (p : Plan) (over : ℕ → Bool) (acked : ℕ → Bool) (gone : ℕ → ℕ → Bool) (s : ℕ) → IsPlanned p over
    → released_bytes p acked gone s ≤ accepted_bytes p s
released_within p over acked gone s h =
    let a = by_message p over acked gone s (length p.places) h (omega arith) in
    let b =
    sum_both (λ i. cond (gone s i) 0 (bytes_below p (λ o. eqb (place_at p o).message i) s (length p.places)))
    (λ i. cond (gone s i) (length (message_at p s i).bytes) 0) (length (p.accepted s)) in
    let c =
    sum_less (λ i. cond (gone s i) 0 (bytes_below p (λ o. eqb (place_at p o).message i) s (length p.places))
    + cond (gone s i) (length (message_at p s i).bytes) 0)
    (λ i. length (message_at p s i).bytes) (length (p.accepted s))
    (λ i l. each (gone s i) _ _ (message_fits p over (λ o. true) s i h)) in
    omega arith
  where
    each : (g : Bool) (x y : ℕ) → x ≤ y → cond g 0 x + cond g y 0 ≤ y
    each true x y l = omega arith
    each false x y l = omega arith
