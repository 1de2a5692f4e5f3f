-- Pieces that are cut off one after another, from the front of what is left.
use Rattle.std.proofs.Common.{ℕ, zero, suc, ◌<◌, ◌≤◌, ◌≡◌, ⊎_elim, true, false, List, [], ◌∷◌, ◌++◌}
use Rattle.std.proofs.Common.{length, take, drop, min, refl, sym, ap, ◌∙◌, arith}
use Rattle.std.proofs.Common.{eq-eqb}
use Rattle.std.specs.Prelude.{◌==◌}
use Rattle.std.proofs.Math.Seq.{drop-append_seam, take-append_seam}
use Rattle.std.proofs.lemmas.Bool.{cases_Bool, eqb-false, eqb-true, ne_eqb}
use Rattle.std.specs.List.{AllByRecursion, concat}
use Rattle.std.proofs.lemmas.List.{append-nil, append_assoc, drop_all, drop_min, length-append, length-drop}
use Rattle.std.proofs.lemmas.List.{length-take, length-take-le, nil_from_length, take-append-drop, take_all, take_min}
use Rattle.sctp_outbound_queue.specs.Cut.{AreFull, IsCut, MayFollow, cut_up, first_piece, other_pieces}

-- all these pieces have `size` bytes
abbrev pub HaveAll : ℕ → List (List ℕ) → Type 0
HaveAll size pieces = AllByRecursion (λ (x : List ℕ). length x ≡ size) pieces

module _ (size : ℕ) (some : 0 < size) (p : List ℕ) where
  -- behind full ones one more may come, which may be shorter
  full_more : (first : List ℕ) (rs : List (List ℕ)) → length first ≡ size → HaveAll size rs → 0 < length p
      → length p ≤ size → AreFull size first (rs ++ p ∷ [])
  full_more first [] e a l u = (e, l, u)
  full_more first (r ∷ rs) e a l u =
      let f = a.0 in
      (e, omega (arith, f), full_more r rs f a.1 l u)

  follow_more : (rs : List (List ℕ)) → HaveAll size rs → 0 < length p → length p ≤ size
      → MayFollow size (rs ++ p ∷ [])
  follow_more [] a l u = (l, u)
  follow_more (r ∷ rs) a l u =
      let f = a.0 in
      (omega (arith, f), full_more r rs f a.1 l u)

  all_more : (rs : List (List ℕ)) → HaveAll size rs → length p ≡ size → HaveAll size (rs ++ p ∷ [])
  all_more [] a e = (e, tt)
  all_more (r ∷ rs) a e = (a.0, all_more rs a.1 e)

-- what was cut off and what is left, once one more was cut off
joined_more : (rs : List (List ℕ)) (p left : List ℕ) → concat (rs ++ p ∷ []) ++ left ≡ concat rs ++ (p ++ left)
joined_more [] p left = ap (λ z. z ++ left) (append-nil p)
joined_more (r ∷ rs) p left =
    append_assoc r (concat (rs ++ p ∷ [])) left ∙ ap (λ z. r ++ z) (joined_more rs p left)
    ∙ sym (append_assoc r (concat rs) (p ++ left))

-- What was cut off so far of what follows a piece, and what is left of it.
pub record IsCutSoFar (size : ℕ) (bytes : List ℕ) (rest : List (List ℕ)) (left : List ℕ) : Type 0 where
  pub whole : concat rest ++ left ≡ bytes
  pub follow : MayFollow size rest
  pub all : 0 < length left → HaveAll size rest

pub one_more : (size : ℕ) (bytes : List ℕ) (rest : List (List ℕ)) (left : List ℕ) → 0 < size → 0 < length left
    → IsCutSoFar size bytes rest left
    → IsCutSoFar size bytes (rest ++ take (min size (length left)) left ∷ []) (drop (min size (length left)) left)
one_more size bytes rest left some l h = record {
  whole =
      joined_more rest (take n left) (drop n left)
      ∙ ap (λ z. concat rest ++ z) (take-append-drop n left)
      ∙ h.whole;
  follow = follow_more size some (take n left) rest (h.all l) (omega (arith, long)) (omega (arith, long));
  all = λ u. all_more size some (take n left) rest (h.all l) (omega (arith, long, length-drop n left));
}
  where
    n : ℕ
    n = min size (length left)

    long : length (take n left) ≡ min size (length left)
    long = length-take-le n left (omega arith)

-- The pieces are known by what they make together.

-- a piece of at most `size` bytes behind which nothing is left, or of all of them, is the first `size` bytes
first_is : (size : ℕ) (r : List ℕ) (rs : List (List ℕ)) → AreFull size r rs
    → (take size (r ++ concat rs) ≡ r) × (drop size (r ++ concat rs) ≡ concat rs)
first_is size r [] f =
    let e = append-nil r in
    let l : length (r ++ []) ≤ size = rw e f in
    (take_all size (r ++ []) l ∙ e, drop_all size (r ++ []) l)
first_is size r (q ∷ qs) f = (
  ap (λ n. take n (r ++ concat (q ∷ qs))) (sym f.0) ∙ take-append_seam r (concat (q ∷ qs)),
  ap (λ n. drop n (r ++ concat (q ∷ qs))) (sym f.0) ∙ drop-append_seam r (concat (q ∷ qs)),
)

-- what may follow one of `size` bytes may follow the next one
follow_on : (size : ℕ) (r : List ℕ) (rs : List (List ℕ)) → AreFull size r rs → MayFollow size rs
follow_on size r [] f = tt
follow_on size r (q ∷ qs) f = (f.1, f.2)

cut_up_is : (n size : ℕ) (rest : List (List ℕ)) (left : List ℕ) → length left ≤ n → concat rest ≡ left
    → MayFollow size rest → rest ≡ cut_up n size left
cut_up_is zero size [] left l e f = refl
cut_up_is (suc n) size [] left l e f = rw (← e) refl
cut_up_is zero size (r ∷ rs) left l e f =
    let j = length-append r (concat rs) in
    let m = ap length e in
    let s = f.0 in
    absurd (omega (arith, j, m, s))
cut_up_is (suc n) size (r ∷ rs) left l e f =
    let j = length-append r (concat rs) in
    let m = ap length e in
    let s = f.0 in
    let some : (length left == 0) ≡ false = ne_eqb (length left) 0 (λ (z : length left ≡ 0). omega (arith, j, m, s)) in
    let first = first_is size r rs f.1 in
    let behind : concat rs ≡ drop size left = sym first.1 ∙ ap (drop size) e in
    let less : length (drop size left) ≤ n =
    (let k = ap length (sym behind) in omega (arith, j, m, s, k)) in
    rw some
    (ap (λ z. z ∷ rs) (sym first.0 ∙ ap (take size) e)
    ∙ ap (λ zs. take size left ∷ zs) (cut_up_is n size rs (drop size left) less behind (follow_on size r rs f.1)))

-- a piece from the front, and what was cut of those behind it
pub first_cut : (size : ℕ) (bytes : List ℕ) → 0 < size → take (min size (length bytes)) bytes ≡ first_piece size bytes
unfolding first_piece
first_cut size bytes some =
    let apart : (size == 0) ≡ false = ne_eqb size 0 (λ (z : size ≡ 0). omega arith) in
    rw apart (take_min size bytes)

pub others_cut : (size : ℕ) (bytes : List ℕ) (rest : List (List ℕ)) → 0 < size
    → concat rest ≡ drop (min size (length bytes)) bytes
    → MayFollow size rest → rest ≡ other_pieces size bytes
unfolding other_pieces
others_cut size bytes rest some e f =
    let apart : (size == 0) ≡ false = ne_eqb size 0 (λ (z : size ≡ 0). omega arith) in
    let short = length-drop size bytes in
    rw apart
    (cut_up_is (length bytes) size rest (drop size bytes) (omega (arith, short)) (e ∙ drop_min size bytes) f)

-- of size 0 the whole is one piece
pub whole_first : (size : ℕ) (bytes : List ℕ) → size ≡ 0 → bytes ≡ first_piece size bytes
unfolding first_piece
whole_first size bytes none = rw (eq-eqb size 0 none) refl

pub none_behind : (size : ℕ) (bytes : List ℕ) → size ≡ 0 → [] ≡ other_pieces size bytes
unfolding other_pieces
none_behind size bytes none = rw (eq-eqb size 0 none) refl

-- bytes that one piece has room for are that piece
pub short_first : (size : ℕ) (bytes : List ℕ) → 0 < size → length bytes ≤ size → bytes ≡ first_piece size bytes
unfolding first_piece
short_first size bytes some short =
    let apart : (size == 0) ≡ false = ne_eqb size 0 (λ (z : size ≡ 0). omega arith) in
    rw apart (sym (take_all size bytes short))

pub none_behind_short : (size : ℕ) (bytes : List ℕ) → 0 < size → length bytes ≤ size → [] ≡ other_pieces size bytes
none_behind_short size bytes some short =
    others_cut size bytes [] some
    (sym (drop_all (min size (length bytes)) bytes (omega (arith, short)))) tt

-- What is cut so is the bytes in their order, in full pieces.

-- the front of the bytes is full, if something is left behind it
full_front : (size : ℕ) (bytes : List ℕ) (rest : List (List ℕ)) → concat rest ≡ drop size bytes → MayFollow size rest
    → AreFull size (take size bytes) rest
full_front size bytes [] e f = let l = length-take size bytes in omega (arith, l)
full_front size bytes (r ∷ rs) e f =
    let l = length-take size bytes in
    let j = length-append r (concat rs) in
    let m = ap length e ∙ length-drop size bytes in
    let s = f.0 in
    (omega (arith, l, j, m, s), f.0, f.1)

cut_up_whole : (n size : ℕ) (left : List ℕ) → 0 < size → length left ≤ n
    → (concat (cut_up n size left) ≡ left) × MayFollow size (cut_up n size left)
cut_up_whole zero size left some l = (sym (nil_from_length left (omega arith)), tt)
cut_up_whole (suc n) size left some l = ⊎_elim
    (λ (none : (length left == 0) ≡ true).
    rw none (sym (nil_from_length left (eqb-true (length left) 0 none)), tt))
    (λ (more : (length left == 0) ≡ false).
    let apart = eqb-false (length left) 0 more in
    let short = length-drop size left in
    let front = length-take size left in
    let behind = cut_up_whole n size (drop size left) some (omega (arith, apart, short)) in
    rw more (
      ap (λ z. take size left ++ z) behind.0 ∙ take-append-drop size left,
      (
        omega (arith, apart, front),
        full_front size left (cut_up n size (drop size left)) behind.0 behind.1,
      ),
    ))
    (cases_Bool (length left == 0))

-- the first piece and the others are the bytes, cut
pub is_cut : (size : ℕ) (bytes : List ℕ) → 0 < size
    → IsCut size bytes (first_piece size bytes) (other_pieces size bytes)
unfolding first_piece other_pieces
is_cut size bytes some =
    let apart : (size == 0) ≡ false = ne_eqb size 0 (λ (z : size ≡ 0). omega arith) in
    let short = length-drop size bytes in
    let rest = cut_up_whole (length bytes) size (drop size bytes) some (omega (arith, short)) in
    rw apart record {
      whole = ap (λ z. take size bytes ++ z) rest.0 ∙ take-append-drop size bytes;
      full = full_front size bytes (cut_up (length bytes) size (drop size bytes)) rest.0 rest.1;
    }
