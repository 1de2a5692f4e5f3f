-- A piece of an ordered message that came: one side stands for the other with it.
use Rattle.std.proofs.Common.{ℕ, ◌+◌, ◌%◌, ◌^◌, ◌<◌, ◌≡◌, Bool, true, false, cond, eqb, ltb, ◌||◌, List, [], ◌∷◌}
use Rattle.std.proofs.Common.{length, Option, Some, None, refl, sym, ap, ◌∙◌, subst, ⊎_elim, arith}
use Rattle.std.specs.List.{AllByRecursion}
use Rattle.std.proofs.Math.Bool.{or_assoc}
use Rattle.std.proofs.lemmas.Bool.{cases_Bool, eqb-true, eqb-false, ne_eqb, ltb-true, ltb-false}
use Rattle.sctp_serial.specs.Serial.{ssn_lt}
use Rattle.sctp_wire_types.specs.declared.chunk.ChunkPayloadData.{ChunkPayloadData}
use Rattle.sctp_receive_queues.specs.Pieces.{contradicts}
use Rattle.sctp_receive_queues.specs.Reassembly.{Group, group_of, grown, pieces_at, index_of_ssn}
use Rattle.sctp_model.specs.Messages.{Plan}
use Rattle.sctp_model.specs.Packets.{mem, data_at}
use Rattle.sctp_model.specs.Safe.{AreRising}
use Rattle.sctp_model.specs.Invariants.{IsPlanned}
use Rattle.sctp_model.proofs.Lists.{all_weaker, mem_neither, mem-join}
use Rattle.sctp_model.proofs.NumberWindows.{before_is, same_is}
use Rattle.sctp_reassembly.specs.Stands.{HeldMessage, CarriesData, CarryDataOf, IsOf, IsGroup, AreGroups, offsets_in}
use Rattle.sctp_reassembly.specs.Stands.{numbers_in}
use Rattle.sctp_reassembly.proofs.IndexRecursion.{AreOthers, AreSplit, entered, grown_is, position_here, position_later}
use Rattle.sctp_reassembly.proofs.IndexRecursion.{up_one}
use Rattle.sctp_reassembly.proofs.PiecePlace.{all_put, mem_put, piece_fits, put_offset, rising_put, said_put, some_put}
use Rattle.sctp_reassembly.proofs.PiecePlace.{swap_or}

-- the offset o of the message with number n among those held
abbrev pub put_in : ℕ → ℕ → List HeldMessage → List HeldMessage
put_in n o [] = record { number = n; offsets = o ∷ [] } ∷ []
put_in n o (h ∷ hs) =
    cond (eqb h.number n) (record { number = n; offsets = put_offset o h.offsets } ∷ hs)
    (cond (ltb n h.number) (record { number = n; offsets = o ∷ [] } ∷ h ∷ hs) (h ∷ put_in n o hs))

-- two numbers whose order shows where they wrap
abbrev pub AreNear : ℕ → HeldMessage → Type 0
AreNear n h = (h.number < n + 32768) × (n < h.number + 32768)

pub mem_put_in : (n o x : ℕ) (hs : List HeldMessage)
    → mem x (offsets_in (put_in n o hs)) ≡ (eqb o x || mem x (offsets_in hs))
mem_put_in n o x [] = refl
mem_put_in n o x (h ∷ hs) =
    ⊎_elim
    (λ (b : eqb h.number n ≡ true). rw b (
    mem-join x (put_offset o h.offsets) (offsets_in hs)
    ∙ ap (λ z. z || mem x (offsets_in hs)) (mem_put (λ (y : ℕ). ltb o y) o x h.offsets)
    ∙ or_assoc (eqb o x) (mem x h.offsets) (mem x (offsets_in hs))
    ∙ ap (λ z. eqb o x || z) (sym (mem-join x h.offsets (offsets_in hs)))))
    (λ (b : eqb h.number n ≡ false). rw b (⊎_elim
    (λ (l : ltb n h.number ≡ true). rw l refl)
    (λ (l : ltb n h.number ≡ false). rw l (
    mem-join x h.offsets (offsets_in (put_in n o hs)) ∙ ap (λ z. mem x h.offsets || z) (mem_put_in n o x hs)
    ∙ swap_or (mem x h.offsets) (eqb o x) (mem x (offsets_in hs))
    ∙ ap (λ z. eqb o x || z) (sym (mem-join x h.offsets (offsets_in hs)))))
    (cases_Bool (ltb n h.number))))
    (cases_Bool (eqb h.number n))

all_numbers : (P : ℕ → Type 0) (n o : ℕ) (hs : List HeldMessage) → P n → AllByRecursion P (numbers_in hs)
    → AllByRecursion P (numbers_in (put_in n o hs))
all_numbers P n o [] x a = (x, tt)
all_numbers P n o (h ∷ hs) x a =
    ⊎_elim
    (λ (b : eqb h.number n ≡ true). rw b (x, a.1))
    (λ (b : eqb h.number n ≡ false). rw b (⊎_elim
    (λ (l : ltb n h.number ≡ true). rw l (x, a))
    (λ (l : ltb n h.number ≡ false). rw l (a.0, all_numbers P n o hs x a.1))
    (cases_Bool (ltb n h.number))))
    (cases_Bool (eqb h.number n))

pub rising_in : (n o : ℕ) (hs : List HeldMessage) → AreRising (numbers_in hs) → AreRising (numbers_in (put_in n o hs))
rising_in n o [] r = (tt, tt)
rising_in n o (h ∷ hs) r =
    ⊎_elim
    (λ (b : eqb h.number n ≡ true). rw b (let e =
    eqb-true h.number n b in (all_weaker _ _ (numbers_in hs) (λ j (l : h.number < j). omega arith) r.0, r.1)))
    (λ (b : eqb h.number n ≡ false). rw b (⊎_elim
    (λ (l : ltb n h.number ≡ true). rw l (let g =
    ltb-true n h.number l in ((g, all_weaker _ _ (numbers_in hs) (λ j (k : h.number < j). omega arith) r.0), r)))
    (λ (l : ltb n h.number ≡ false). rw l (
    let g = ltb-false n h.number l in
    let d = eqb-false h.number n b in
    (all_numbers (λ (j : ℕ). h.number < j) n o hs (omega (arith, d)) r.0, rising_in n o hs r.1)))
    (cases_Bool (ltb n h.number))))
    (cases_Bool (eqb h.number n))

offsets_small : (p : Plan) (s n : ℕ) (os : List ℕ) → length p.places < 2 ^ 31 → AllByRecursion (IsOf p s n) os
    → AllByRecursion (λ (x : ℕ). x < 2 ^ 31) os
offsets_small p s n os small a = all_weaker _ _ os (λ x m. let k = m.at.known in omega arith) a

-- the chunk brings the piece at this offset, of the ordered message with the number n on a stream within its span
pub record BringsPiece (initial : ℕ) (p : Plan) (over : ℕ → Bool) (s n o : ℕ) (c : ChunkPayloadData) : Type 0 where
  pub planned : IsPlanned p over
  pub spans : over s ≡ false
  pub small : length p.places < 2 ^ 31
  pub carried : CarriesData initial c (data_at p o)
  pub mine : IsOf p s n o
  pub number : c.stream_sequence_number ≡ n % 65536

module _ {initial : ℕ} {p : Plan} {over : ℕ → Bool} {s n o : ℕ} {c : ChunkPayloadData}
    (brings : BringsPiece initial p over s n o c) where
  -- the tests on wrapped numbers are those on the numbers themselves
  same_number : (g : Group) (h : HeldMessage) → IsGroup initial p s g h → AreNear n h
      → eqb g.ssn c.stream_sequence_number ≡ eqb h.number n
  same_number g h i w =
      let w0 = w.0 in
      let w1 = w.1 in
      ap (λ z. eqb z c.stream_sequence_number) i.ssn ∙ ap (eqb (h.number % 65536)) brings.number
      ∙ same_is h.number n (omega arith) (omega arith)

  before_number : (g : Group) (h : HeldMessage) → IsGroup initial p s g h → AreNear n h
      → ssn_lt c.stream_sequence_number g.ssn ≡ ltb n h.number
  before_number g h i w =
      let w0 = w.0 in
      let w1 = w.1 in
      ap (λ z. ssn_lt z g.ssn) brings.number ∙ ap (ssn_lt (n % 65536)) i.ssn
      ∙ before_is n h.number (omega arith) (omega arith)

  others : (gs : List Group) (hs : List HeldMessage) → AreGroups initial p s gs hs → AllByRecursion (AreNear n) hs
      → AllByRecursion (λ (j : ℕ). n < j) (numbers_in hs) → AreOthers c.stream_sequence_number gs
  others [] hs a w l = tt
  others (g ∷ gs) [] a w l = absurd a
  others (g ∷ gs) (h ∷ hs) a w l = (
    same_number g h a.0 w.0 ∙ ne_eqb h.number n (λ (k : h.number ≡ n). let m = l.0 in omega arith),
    others gs hs a.1 w.1 l.1,
  )

  pub split : (gs : List Group) (hs : List HeldMessage) → AreGroups initial p s gs hs → AllByRecursion (AreNear n) hs
      → AreRising (numbers_in hs) → AreSplit c.stream_sequence_number gs
  split [] hs a w r = tt
  split (g ∷ gs) [] a w r = absurd a
  split (g ∷ gs) (h ∷ hs) a w r = (
    λ (b : ssn_lt c.stream_sequence_number g.ssn ≡ true).
        let l = ltb-true n h.number (sym (before_number g h a.0 w.0) ∙ b) in
        others gs hs a.1 w.1 (all_weaker _ _ (numbers_in hs) (λ j (k : h.number < j). omega arith) r.0),
    split gs hs a.1 w.1 r.1,
  )

  -- a group of one piece
  new_group : IsGroup initial p s (group_of c) (record { number = n; offsets = o ∷ [] })
  new_group =
      record {
        ssn = brings.number;
        pieces = (brings.carried, tt);
        some = omega arith;
        rising = (tt, tt);
        mine =
            (brings.mine, tt);
      }

  grown_group : (g : Group) (h : HeldMessage) → IsGroup initial p s g h → h.number ≡ n → mem o h.offsets ≡ false
      → IsGroup initial p s (grown g c) (record { number = n; offsets = put_offset o h.offsets })
  grown_group g h a e out = record {
    ssn = a.ssn ∙ ap (λ z. z % 65536) e;
    pieces = subst (λ z. AreSaidAt z) (sym (grown_is g c))
        (said_put p o brings.carried (let k = brings.mine.at.known in omega arith) g.pieces h.offsets a.pieces
        (offsets_small p s h.number h.offsets brings.small a.mine));
    some = some_put (λ (y : ℕ). ltb o y) o h.offsets;
    rising = rising_put o h.offsets a.rising out;
    mine =
        all_put (IsOf p s n) (λ (y : ℕ). ltb o y) o h.offsets
        (subst (λ z. AllByRecursion (IsOf p s z) h.offsets) e a.mine) brings.mine;
  }
    where
      AreSaidAt : List ChunkPayloadData → Type 0
      AreSaidAt z = CarryDataOf initial p z (put_offset o h.offsets)

  pub groups_in : (gs : List Group) (hs : List HeldMessage) → AreGroups initial p s gs hs
      → AllByRecursion (AreNear n) hs
      → mem o (offsets_in hs) ≡ false → AreGroups initial p s (entered gs c) (put_in n o hs)
  groups_in [] [] a w out = (new_group, tt)
  groups_in [] (h ∷ hs) a w out = absurd a
  groups_in (g ∷ gs) [] a w out = absurd a
  groups_in (g ∷ gs) (h ∷ hs) a w out =
      let parts = mem_neither o h.offsets (offsets_in hs) out in
      ⊎_elim
      (λ (b : eqb h.number n ≡ true).
      rw (same_number g h a.0 w.0 ∙ b, b)
      (grown_group g h a.0 (eqb-true h.number n b) parts.0, a.1))
      (λ (b : eqb h.number n ≡ false).
      rw (same_number g h a.0 w.0 ∙ b, b) (⊎_elim
      (λ (l : ltb n h.number ≡ true).
      rw (before_number g h a.0 w.0 ∙ l, l) (new_group, a))
      (λ (l : ltb n h.number ≡ false).
      rw (before_number g h a.0 w.0 ∙ l, l)
      (a.0, groups_in gs hs a.1 w.1 parts.1))
      (cases_Bool (ltb n h.number))))
      (cases_Bool (eqb h.number n))

  -- and the pieces of its message don't contradict it
  pub fits_there : (gs : List Group) (hs : List HeldMessage) → AreGroups initial p s gs hs
      → AllByRecursion (AreNear n) hs
      → mem o (offsets_in hs) ≡ false → contradicts (pieces_at (index_of_ssn c.stream_sequence_number gs) gs) c ≡ false
  fits_there [] hs a w out = refl
  fits_there (g ∷ gs) [] a w out = absurd a
  fits_there (g ∷ gs) (k ∷ ks) a w out =
      let parts = mem_neither o k.offsets (offsets_in ks) out in
      ⊎_elim
      (λ (b : eqb k.number n ≡ true).
      let same = eqb-true k.number n b in
      ap (λ z. contradicts (pieces_at z (g ∷ gs)) c)
      (position_here (λ (y : Group). eqb y.ssn c.stream_sequence_number) g gs
      (same_number g k a.0 w.0 ∙ b))
      ∙ piece_fits brings.planned brings.spans brings.carried
      (let l = brings.mine.at.known in omega arith) brings.mine g.pieces k.offsets a.0.pieces
      (subst (λ z. AllByRecursion (IsOf p s z) k.offsets) same a.0.mine)
      (offsets_small p s k.number k.offsets brings.small a.0.mine) parts.0)
      (λ (b : eqb k.number n ≡ false).
      ap (λ z. contradicts (pieces_at z (g ∷ gs)) c)
      (position_later (λ (y : Group). eqb y.ssn c.stream_sequence_number) g gs
      (same_number g k a.0 w.0 ∙ b))
      ∙ ap (λ z. contradicts z c) (further (index_of_ssn c.stream_sequence_number gs))
      ∙ fits_there gs ks a.1 w.1 parts.1)
      (cases_Bool (eqb k.number n))
    where
      further : (z : Option ℕ) → pieces_at (up_one z) (g ∷ gs) ≡ pieces_at z gs
      further None = refl
      further (Some m) = refl
