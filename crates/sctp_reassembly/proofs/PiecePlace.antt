-- A piece at its place among those held of its message.
use Rattle.std.proofs.Common.{ℕ, suc, ◌^◌, ◌<◌, ◌≡◌, Bool, true, false, cond, not, eqb, ltb, ◌||◌, List, [], ◌∷◌}
use Rattle.std.proofs.Common.{length, position, unwrap_or, Option, Some, None, refl, sym, ap, ◌∙◌, ⊎_elim, arith}
use Rattle.std.specs.List.{AllByRecursion}
use Rattle.std.proofs.lemmas.Bool.{cases_Bool, cases_eq, eqb-false, eq-eqb, ne_eqb, ltb-true, ltb-false, or_parts}
use Rattle.std.proofs.lemmas.Bool.{cond-false}
use Rattle.sctp_wire_types.specs.Ids.{number_of}
use Rattle.sctp_serial.specs.Serial.{tsn_lt, tsn}
use Rattle.sctp_wire_types.specs.declared.chunk.ChunkPayloadData.{ChunkPayloadData}
use Rattle.sctp_receive_queues.specs.Pieces.{begins, breaks_ends, contradicts, ends, has_other_type, has_tsn}
use Rattle.sctp_receive_queues.specs.Pieces.{is_last as is_last_piece, index_of}
use Rattle.sctp_model.specs.Messages.{Plan, place_at, is_last}
use Rattle.sctp_model.specs.Packets.{mem, data_at}
use Rattle.sctp_model.specs.Safe.{AreRising}
use Rattle.sctp_model.specs.Invariants.{IsPlanned}
use Rattle.sctp_model.proofs.Lists.{all_weaker}
use Rattle.sctp_reassembly.specs.Stands.{CarryDataOf, CarriesData, IsOf}
use Rattle.sctp_reassembly.proofs.PieceChains.{apart, not_last, one_message, same_text}
use Rattle.sctp_reassembly.proofs.IndexRecursion.{position_here, position_later, put_before, up_one}
use Rattle.sctp_reassembly.proofs.TsnOrder.{tsns_go_as_offsets, tsn_same}
use Rattle.sctp_reassembly.proofs.WholeMessages.{last_later}

-- an offset at its place among ascending ones
abbrev pub put_offset : ℕ → List ℕ → List ℕ
put_offset o os = put_before (λ (x : ℕ). ltb o x) o os

pub all_put : {X : Type 0} (P : X → Type 0) (f : X → Bool) (y : X) (xs : List X) → AllByRecursion P xs → P y
    → AllByRecursion P (put_before f y xs)
all_put P f y [] a h = (h, a)
all_put P f y (x ∷ xs) a h =
    ⊎_elim (λ (b : f x ≡ true). rw b (h, a)) (λ (b : f x ≡ false). rw b (a.0, all_put P f y xs a.1 h))
    (cases_Bool (f x))

pub some_put : {X : Type 0} (f : X → Bool) (y : X) (xs : List X) → 0 < length (put_before f y xs)
some_put f y [] = omega arith
some_put f y (x ∷ xs) =
    ⊎_elim (λ (b : f x ≡ true). rw b (omega arith)) (λ (b : f x ≡ false). rw b (omega arith)) (cases_Bool (f x))

pub swap_or : (a b c : Bool) → (a || (b || c)) ≡ (b || (a || c))
swap_or true true c = refl
swap_or true false c = refl
swap_or false b c = refl

pub mem_put : (f : ℕ → Bool) (o x : ℕ) (os : List ℕ) → mem x (put_before f o os) ≡ (eqb o x || mem x os)
mem_put f o x [] = refl
mem_put f o x (y ∷ ys) =
    ⊎_elim (λ (b : f y ≡ true). rw b refl)
    (λ (b : f y ≡ false). rw b (ap (λ z. eqb y x || z) (mem_put f o x ys) ∙ swap_or (eqb y x) (eqb o x) (mem x ys)))
    (cases_Bool (f y))

pub rising_put : (o : ℕ) (os : List ℕ) → AreRising os → mem o os ≡ false → AreRising (put_offset o os)
rising_put o [] r m = (tt, tt)
rising_put o (x ∷ xs) r m =
    let parts = or_parts (eqb x o) (mem o xs) m in
    ⊎_elim
    (λ (b : ltb o x ≡ true).
    rw b (let l = ltb-true o x b in ((l, all_weaker _ _ xs (λ j (g : x < j). omega arith) r.0), r)))
    (λ (b : ltb o x ≡ false).
    rw b (
      all_put (λ (j : ℕ). x < j) (λ (j : ℕ). ltb o j) o xs r.0
          (let g = ltb-false o x b in let n = eqb-false x o parts.0 in omega (arith, n)),
      rising_put o xs r.1 parts.1,
    ))
    (cases_Bool (ltb o x))

module _ {initial : ℕ} {c : ChunkPayloadData} (p : Plan) (o : ℕ) (i : CarriesData initial c (data_at p o))
    (l : o < 2 ^ 31) where
  -- the chunks are those of the offsets again
  pub said_put : (cs : List ChunkPayloadData) (os : List ℕ) → CarryDataOf initial p cs os
      → AllByRecursion (λ (x : ℕ). x < 2 ^ 31) os
      → CarryDataOf initial p (put_before (λ (x : ChunkPayloadData). tsn_lt c.tsn x.tsn) c cs) (put_offset o os)
  said_put [] [] a s = (i, tt)
  said_put [] (x ∷ xs) a s = absurd a
  said_put (d ∷ ds) [] a s = absurd a
  said_put (d ∷ ds) (x ∷ xs) a s =
      let e : tsn_lt c.tsn d.tsn ≡ ltb o x =
      ap (λ z. tsn_lt z d.tsn) i.tsn ∙ ap (tsn_lt (tsn initial o)) a.0.tsn ∙ tsns_go_as_offsets initial o x l s.0 in
      ⊎_elim
      (λ (b : ltb o x ≡ true). rw (e, b) (i, a))
      (λ (b : ltb o x ≡ false). rw (e, b) (a.0, said_put ds xs a.1 s.1))
      (cases_Bool (ltb o x))

  -- An honest piece that is new contradicts nothing.

  has_none : (cs : List ChunkPayloadData) (os : List ℕ) → CarryDataOf initial p cs os
      → AllByRecursion (λ (x : ℕ). x < 2 ^ 31) os → has_tsn c.tsn cs ≡ mem o os
  has_none [] [] a s = refl
  has_none [] (x ∷ xs) a s = absurd a
  has_none (d ∷ ds) [] a s = absurd a
  has_none (d ∷ ds) (x ∷ xs) a s =
      let e : eqb d.tsn c.tsn ≡ eqb x o =
      ap (λ z. eqb z c.tsn) a.0.tsn ∙ ap (eqb (tsn initial x)) i.tsn ∙ tsn_same initial x o s.0 l in
      ap (λ z. z || has_tsn c.tsn ds) e ∙ ap (λ z. eqb x o || z) (has_none ds xs a.1 s.1)

pub unwrap_up : (k : Option ℕ) (n : ℕ) → unwrap_or (up_one k) (suc n) ≡ suc (unwrap_or k n)
unwrap_up None n = refl
unwrap_up (Some k) n = refl

eqb_up : (a b : ℕ) → eqb (suc a) (suc b) ≡ eqb a b
eqb_up a b =
    ⊎_elim
    (λ (e : a ≡ b). eq-eqb (suc a) (suc b) (ap suc e) ∙ sym (eq-eqb a b e))
    (λ (n : a ≡ b → ⊥). ne_eqb (suc a) (suc b) (λ (e : suc a ≡ suc b). n (omega arith)) ∙ sym (ne_eqb a b n))
    (cases_eq a b)

abbrev past : ChunkPayloadData → ChunkPayloadData → Bool
past c x = tsn_lt c.tsn x.tsn

place_here : (c d : ChunkPayloadData) (ds : List ChunkPayloadData) → tsn_lt c.tsn d.tsn ≡ true
    → index_of c.tsn (d ∷ ds) ≡ 0
place_here c d ds e = ap (λ z. unwrap_or z (suc (length ds))) (position_here (past c) d ds e)

place_later : (c d : ChunkPayloadData) (ds : List ChunkPayloadData) → tsn_lt c.tsn d.tsn ≡ false
    → index_of c.tsn (d ∷ ds) ≡ suc (index_of c.tsn ds)
place_later c d ds e =
    ap (λ z. unwrap_or z (suc (length ds))) (position_later (past c) d ds e)
    ∙ unwrap_up (position (past c) ds) (length ds)

neither_of : (a b c : Bool) → a ≡ false → b ≡ false → c ≡ false → ((a || b) || c) ≡ false
neither_of a b c x y z = rw (x, y, z) refl

module _ {p : Plan} {over : ℕ → Bool} {s n : ℕ} (h : IsPlanned p over) (v : over s ≡ false) where
  -- of two pieces of one message the later one doesn't begin it, and the earlier one doesn't end it
  pub between : (a b : ℕ) → IsOf p s n a → IsOf p s n b → a < b
      → (eqb (place_at p b).piece 0 ≡ false) × (is_last p (place_at p a) ≡ false)
  between a b x y l =
      let st = x.at.stream ∙ sym y.at.stream in
      let m = one_message h v x.at y.at (x.is ∙ sym y.is) in
      let d = apart h a b x.at.known y.at.known st m in (
        ne_eqb (place_at p b).piece 0 (λ (e : (place_at p b).piece ≡ 0). omega arith),
        not_last h a b l y.at.known st m,
      )

module _ {initial : ℕ} {p : Plan} {over : ℕ → Bool} {s n : ℕ} {c : ChunkPayloadData} {o : ℕ}
    (h : IsPlanned p over) (v : over s ≡ false) (i : CarriesData initial c (data_at p o)) (l : o < 2 ^ 31)
    (x : IsOf p s n o) where
  same_type : (cs : List ChunkPayloadData) (os : List ℕ) → CarryDataOf initial p cs os → AllByRecursion (IsOf p s n) os
      → has_other_type cs c ≡ false
  same_type [] os a m = refl
  same_type (d ∷ ds) [] a m = absurd a
  same_type (d ∷ ds) (y ∷ ys) a m =
      let z = m.0 in
      let text =
      same_text p y o (z.at.stream ∙ sym x.at.stream) (one_message h v z.at x.at (z.is ∙ sym x.is)) in
      ap not (eq-eqb (number_of d.payload_type) (number_of c.payload_type)
      (a.0.payload_type ∙ ap (λ t. t.payload_type) text ∙ sym i.payload_type))

  front_fits : (cs : List ChunkPayloadData) (os : List ℕ) → CarryDataOf initial p cs os → AllByRecursion (IsOf p s n) os
      → AllByRecursion (λ (x : ℕ). x < 2 ^ 31) os → mem o os ≡ false
      → cond (eqb (index_of c.tsn cs) 0) (begins cs) c.beginning_fragment ≡ false
  front_fits [] os a m t out = refl
  front_fits (d ∷ ds) [] a m t out = absurd a
  front_fits (d ∷ ds) (y ∷ ys) a m t out =
      let e : tsn_lt c.tsn d.tsn ≡ ltb o y =
      ap (λ z. tsn_lt z d.tsn) i.tsn ∙ ap (tsn_lt (tsn initial o)) a.0.tsn ∙ tsns_go_as_offsets initial o y l t.0 in
      let apart_from = eqb-false y o (or_parts (eqb y o) (mem o ys) out).0 in
      ⊎_elim
      (λ (b : ltb o y ≡ true).
      ap (λ z. cond (eqb z 0) d.beginning_fragment c.beginning_fragment) (place_here c d ds (e ∙ b))
      ∙ a.0.first ∙ (between h v o y x m.0 (ltb-true o y b)).0)
      (λ (b : ltb o y ≡ false).
      ap (λ z. cond (eqb z 0) d.beginning_fragment c.beginning_fragment) (place_later c d ds (e ∙ b))
      ∙ cond-false (eqb (suc (index_of c.tsn ds)) 0) d.beginning_fragment c.beginning_fragment
      (ne_eqb (suc (index_of c.tsn ds)) 0 (λ (k : suc (index_of c.tsn ds) ≡ 0). omega arith))
      ∙ i.first ∙ (between h v y o m.0 x (let g = ltb-false o y b in omega (arith, apart_from))).0)
      (cases_Bool (ltb o y))

  back_fits : (cs : List ChunkPayloadData) (os : List ℕ) → CarryDataOf initial p cs os → AllByRecursion (IsOf p s n) os
      → AllByRecursion (λ (x : ℕ). x < 2 ^ 31) os → mem o os ≡ false
      → cond (eqb (index_of c.tsn cs) (length cs)) (ends cs) c.ending_fragment ≡ false
  back_fits [] os a m t out = refl
  back_fits (d ∷ ds) [] a m t out = absurd a
  back_fits (d ∷ ds) (y ∷ ys) a m t out =
      let e : tsn_lt c.tsn d.tsn ≡ ltb o y =
      ap (λ z. tsn_lt z d.tsn) i.tsn ∙ ap (tsn_lt (tsn initial o)) a.0.tsn ∙ tsns_go_as_offsets initial o y l t.0 in
      let parts = or_parts (eqb y o) (mem o ys) out in
      let apart_from = eqb-false y o parts.0 in
      ⊎_elim
      (λ (b : ltb o y ≡ true).
      ap (λ z. cond (eqb z (suc (length ds))) (ends (d ∷ ds)) c.ending_fragment) (place_here c d ds (e ∙ b))
      ∙ cond-false (eqb 0 (suc (length ds))) (ends (d ∷ ds)) c.ending_fragment
      (ne_eqb 0 (suc (length ds)) (λ (k : 0 ≡ suc (length ds)). omega arith))
      ∙ i.last ∙ (between h v o y x m.0 (ltb-true o y b)).1)
      (λ (b : ltb o y ≡ false).
      ap (λ z. cond (eqb z (suc (length ds))) (ends (d ∷ ds)) c.ending_fragment) (place_later c d ds (e ∙ b))
      ∙ ap (λ z. cond z (ends (d ∷ ds)) c.ending_fragment) (eqb_up (index_of c.tsn ds) (length ds))
      ∙ rest ds ys a.1 (between h v y o m.0 x (let g = ltb-false o y b in omega (arith, apart_from))).1
      (back_fits ds ys a.1 m.1 t.1 parts.1))
      (cases_Bool (ltb o y))
    where
      rest : (ds : List ChunkPayloadData) (ys : List ℕ) → CarryDataOf initial p ds ys → is_last p (place_at p y) ≡ false
          → cond (eqb (index_of c.tsn ds) (length ds)) (ends ds) c.ending_fragment ≡ false
          → cond (eqb (index_of c.tsn ds) (length ds)) (ends (d ∷ ds)) c.ending_fragment ≡ false
      rest [] zs b f g = a.0.last ∙ f
      rest (k ∷ ks) zs b f g =
          ap (λ z. cond (eqb (index_of c.tsn (k ∷ ks)) (length (k ∷ ks))) (is_last_piece z) c.ending_fragment)
          (last_later d k ks) ∙ g

  pub piece_fits : (cs : List ChunkPayloadData) (os : List ℕ) → CarryDataOf initial p cs os
      → AllByRecursion (IsOf p s n) os → AllByRecursion (λ (x : ℕ). x < 2 ^ 31) os → mem o os ≡ false
      → contradicts cs c ≡ false
  piece_fits cs os a m t out =
      neither_of (has_tsn c.tsn cs) (has_other_type cs c) (breaks_ends (index_of c.tsn cs) cs c)
      (has_none p o i l cs os a t ∙ out)
      (same_type cs os a m)
      (rw (front_fits cs os a m t out)
      (back_fits cs os a m t out))
