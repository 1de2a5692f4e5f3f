-- What the vectors hold, lane by lane.
use Rattle.std.proofs.Common.{◌≡◌, ℕ, zero, suc, ◌+◌, ◌-◌, ◌*◌, ◌/◌, ◌%◌, ◌^◌, ◌<◌, ◌≤◌, Bool, true, false, cond}
use Rattle.std.proofs.Common.{nat_lt, List, [], ◌∷◌, ◌++◌, length, get_or, map, replicate, take, drop, refl, sym, ap}
use Rattle.std.proofs.Common.{◌∙◌, arith, append_assoc, append-nil}
use Rattle.std.specs.List.{range_with_len}
use Rattle.std.specs.Int.Bits.{bit_xor, xor_zero_l, xor_zero_r}
use Rattle.std.proofs.lemmas.Nat.{xor_comm, xor_mod}
use Rattle.std.proofs.lemmas.Simd.{length-zip2}
use Rattle.std.proofs.lemmas.List.FromFn.{get_or-map-range_with_len}
use Rattle.std.proofs.lemmas.List.{take-take, take-append-drop, take_all, length-take-le, length-drop}
use lib.Lanes.{zip2, chunk}
use Rattle.sctp_crc.specs.Crc.{crc_bits, crc_byte, crc_run}
use Rattle.sctp_crc.specs.declared.fold.Kept.{Kept}
use Rattle.sctp_crc.specs.Fold.{taken_in, due, dues, all_due, back, taken, moved, IsKept, nothing_kept, state_bytes}
use Rattle.sctp_crc.proofs.LinearBits.{crc_bits-byte}
use Rattle.sctp_crc.proofs.BlockRuns.{cells_are, run-xor}
use Rattle.sctp_crc.proofs.FoldedRuns.{pushes, passes, fold_many, pass_many, all_due_same, taken_same}

abbrev kept : List ℕ → List ℕ → List ℕ → List ℕ → List ℕ → List ℕ → List ℕ → Kept
kept a b c d e f g = record { first = a; second = b; third = c; fourth = d; fifth = e; sixth = f; seventh = g }

abbrev row : (ℕ → ℕ) → List ℕ
row x =
    x 0 ∷ x 1 ∷ x 2 ∷ x 3 ∷ x 4 ∷ x 5 ∷ x 6 ∷ x 7 ∷ x 8 ∷ x 9 ∷ x 10 ∷ x 11 ∷ x 12 ∷ x 13 ∷ x 14 ∷ x 15 ∷ []

abbrev pub lanes : List ℕ → List ℕ → List ℕ → List ℕ → List ℕ → List ℕ → List ℕ → List ℕ → List ℕ
lanes x a b c d e f g =
    zip2 bit_xor x
    (row (λ i.
    bit_xor (get_or (b ++ a) (11 + i) 0)
    (bit_xor (get_or (c ++ b) (1 + i) 0)
    (bit_xor (get_or (d ++ c) (4 + i) 0)
    (bit_xor (get_or (e ++ d) (15 + i) 0)
    (bit_xor (get_or (e ++ d) (10 + i) 0) (bit_xor (get_or (f ++ e) (2 + i) 0) (get_or (g ++ f) (14 + i) 0))))))))

lanes_computed : (x a b c d e f g : ℕ → ℕ)
    → lanes (row x) (row a) (row b) (row c) (row d) (row e) (row f) (row g)
    ≡ taken (kept (row a) (row b) (row c) (row d) (row e) (row f) (row g)) (row x)
unfolding taken taken_in all_due dues due back
lanes_computed x a b c d e f g = refl

abbrev pushed_back : Kept → List ℕ → ℕ → ℕ
pushed_back k x i = pushes (back k) x (1 + i)

abbrev moved_back : Kept → List ℕ → ℕ → ℕ
moved_back k x i = back (moved x k) (1 + i)

pushes_computed : (x a b c d e f g : ℕ → ℕ)
    → map (pushed_back (kept (row a) (row b) (row c) (row d) (row e) (row f) (row g)) (row x)) (range_with_len 0 98)
    ≡ map (moved_back (kept (row a) (row b) (row c) (row d) (row e) (row f) (row g))
    (taken (kept (row a) (row b) (row c) (row d) (row e) (row f) (row g)) (row x))) (range_with_len 0 98)
unfolding taken taken_in all_due dues due back
pushes_computed x a b c d e f g = refl

passes_computed : (x a b c d e f g : ℕ → ℕ)
    → map (λ i. passes (back (kept (row a) (row b) (row c) (row d) (row e) (row f) (row g))) (row x) (1 + i))
    (range_with_len 0 98)
    ≡ map (moved_back (kept (row a) (row b) (row c) (row d) (row e) (row f) (row g)) (replicate 16 0))
    (range_with_len 0 98)
unfolding back
passes_computed x a b c d e f g = refl

nothing_computed : map (λ i. back nothing_kept (1 + i)) (range_with_len 0 98) ≡ map (λ _. 0) (range_with_len 0 98)
unfolding back
nothing_computed = refl

-- ---- the same of lists of sixteen

abbrev at : List ℕ → ℕ → ℕ
at xs i = get_or xs i 0

abbrev AreLong : (x a b c d e f g : List ℕ) → Type 0
AreLong x a b c d e f g = (length x ≡ 16) × IsKept (kept a b c d e f g)

-- what is so of eight rows of cells is so of eight lists of sixteen
by_cells : (So : (x a b c d e f g : List ℕ) → Type 0) (x a b c d e f g : List ℕ) → AreLong x a b c d e f g
    → So (row (at x)) (row (at a)) (row (at b)) (row (at c)) (row (at d)) (row (at e)) (row (at f)) (row (at g))
    → So x a b c d e f g
by_cells So x a b c d e f g long so =
    rw (
      cells_are x long.0,
      cells_are a long.1.0,
      cells_are b long.1.1,
      cells_are c long.1.2,
      cells_are d long.1.3,
      cells_are e long.1.4,
      cells_are f long.1.5,
      cells_are g long.1.6,
    ) so

lanes_listed : (x a b c d e f g : List ℕ) → AreLong x a b c d e f g
    → lanes x a b c d e f g ≡ taken (kept a b c d e f g) x
lanes_listed x a b c d e f g long =
    by_cells (λ x a b c d e f g. lanes x a b c d e f g ≡ taken (kept a b c d e f g) x) x a b c d e f g long
    (lanes_computed (at x) (at a) (at b) (at c) (at d) (at e) (at f) (at g))

pushes_listed : (x a b c d e f g : List ℕ) → AreLong x a b c d e f g
    → map (pushed_back (kept a b c d e f g) x) (range_with_len 0 98)
    ≡ map (moved_back (kept a b c d e f g) (taken (kept a b c d e f g) x)) (range_with_len 0 98)
pushes_listed x a b c d e f g long =
    by_cells (λ x a b c d e f g. map (pushed_back (kept a b c d e f g) x) (range_with_len 0 98)
    ≡ map (moved_back (kept a b c d e f g) (taken (kept a b c d e f g) x)) (range_with_len 0 98))
    x a b c d e f g long (pushes_computed (at x) (at a) (at b) (at c) (at d) (at e) (at f) (at g))

passes_listed : (x a b c d e f g : List ℕ) → AreLong x a b c d e f g
    → map (λ i. passes (back (kept a b c d e f g)) x (1 + i)) (range_with_len 0 98)
    ≡ map (moved_back (kept a b c d e f g) (replicate 16 0)) (range_with_len 0 98)
passes_listed x a b c d e f g long =
    by_cells (λ x a b c d e f g. map (λ i. passes (back (kept a b c d e f g)) x (1 + i)) (range_with_len 0 98)
    ≡ map (moved_back (kept a b c d e f g) (replicate 16 0)) (range_with_len 0 98))
    x a b c d e f g long (passes_computed (at x) (at a) (at b) (at c) (at d) (at e) (at f) (at g))

pub lanes_are : (k : Kept) (x : List ℕ) → IsKept k → length x ≡ 16
    → lanes x k.first k.second k.third k.fourth k.fifth k.sixth k.seventh ≡ taken k x
lanes_are k x ok long = lanes_listed x k.first k.second k.third k.fourth k.fifth k.sixth k.seventh (long, ok)

-- ---- and place by place

same_place : (g h : ℕ → ℕ)
    → map (λ i. g (1 + i)) (range_with_len 0 98) ≡ map (λ i. h (1 + i)) (range_with_len 0 98)
    → (m : ℕ) → 0 < m → m ≤ 98 → g m ≡ h m
same_place g h same m positive le =
    let i = m - 1 in
    let place : 1 + i ≡ m = omega (arith, positive) in
    sym (ap g place)
    ∙ sym (get_or-map-range_with_len (λ i. g (1 + i)) 0 98 i i 0 (omega (arith, le, positive)) (omega arith))
    ∙ ap (λ t. get_or t i 0) same
    ∙ get_or-map-range_with_len (λ i. h (1 + i)) 0 98 i i 0 (omega (arith, le, positive)) (omega arith)
    ∙ ap h place

same_taken : (g h : ℕ → ℕ)
    → map (λ i. g (1 + i)) (range_with_len 0 98) ≡ map (λ i. h (1 + i)) (range_with_len 0 98)
    → (xs : List ℕ) → taken_in (all_due g) 0 xs ≡ taken_in (all_due h) 0 xs
same_taken g h same xs = taken_same (all_due g) (all_due h) (all_due_same g h (same_place g h same)) 0 xs

-- a block is folded, and kept in the form in which it was folded
pub fold_block : (k : Kept) (x ys : List ℕ) → IsKept k → length x ≡ 16 → 98 ≤ length ys
    → crc_run 0 (taken k (x ++ ys)) ≡ crc_run 0 (taken (moved (taken k x) k) ys)
unfolding taken
fold_block k x ys ok long le =
    fold_many (back k) x ys le
    ∙ ap (crc_run 0) (same_taken (pushes (back k) x) (back (moved (taken k x) k))
    (pushes_listed x k.first k.second k.third k.fourth k.fifth k.sixth k.seventh (long, ok)) ys)

-- a block is passed with what it takes in, and is not folded
pass_block : (k : Kept) (x ys : List ℕ) → IsKept k → length x ≡ 16
    → taken k (x ++ ys) ≡ taken k x ++ taken (moved (replicate 16 0) k) ys
unfolding taken
pass_block k x ys ok long =
    pass_many (back k) x ys
    ∙ ap (λ z. taken k x ++ z) (same_taken (passes (back k) x) (back (moved (replicate 16 0) k))
    (passes_listed x k.first k.second k.third k.fourth k.fifth k.sixth k.seventh (long, ok)) ys)

pub taken-length : (k : Kept) (xs : List ℕ) → length (taken k xs) ≡ length xs
unfolding taken taken_in
taken-length k xs = walk 0 xs
  where
    walk : (j : ℕ) (xs : List ℕ) → length (taken_in (all_due (back k)) j xs) ≡ length xs
    walk j [] = refl
    walk j (x ∷ xs) = ap suc (walk (j + 1) xs)

-- ---- where nothing is kept

either_zero : (b : Bool) → cond b zero zero ≡ zero
either_zero true = refl
either_zero false = refl

none_due_at : (j d : ℕ) → due (λ _. 0) d j ≡ 0
unfolding due
none_due_at j d = either_zero (nat_lt j d)

none_due : (j d : ℕ) (es : List ℕ) → dues (λ _. 0) d es j ≡ 0
unfolding dues
none_due j d [] = none_due_at j d
none_due j d (e ∷ es) = rw (none_due_at j d, none_due j e es) refl

none_taken : (j : ℕ) (xs : List ℕ) → taken_in (all_due (λ _. 0)) j xs ≡ xs
unfolding taken_in all_due
none_taken j [] = refl
none_taken j (x ∷ xs) =
    rw (none_due j 21 (47 ∷ 60 ∷ 65 ∷ 70 ∷ 94 ∷ 98 ∷ []), xor_zero_r x, none_taken (j + 1) xs) refl

pub nothing_taken : (xs : List ℕ) → taken nothing_kept xs ≡ xs
unfolding taken
nothing_taken xs = same_taken (back nothing_kept) (λ _. 0) nothing_computed xs ∙ none_taken 0 xs

-- ---- the state that a run begins with, as part of its first bytes

state_step : (s x : ℕ) (xs ys : List ℕ) → length xs ≡ length ys → crc_run (s / 256) xs ≡ crc_run 0 ys
    → crc_run s (x ∷ xs) ≡ crc_run 0 (bit_xor x (s % 256) ∷ ys)
unfolding crc_run crc_byte
state_step s x xs ys long same =
    let c = crc_bits 8 (bit_xor (s % 256) (x % 256)) in
    let low : s % 256 % 256 ≡ s % 256 = omega arith in
    let own : crc_bits 8 (bit_xor 0 (bit_xor x (s % 256) % 256)) ≡ c =
    ap (crc_bits 8) (xor_zero_l (bit_xor x (s % 256) % 256) ∙ xor_mod x (s % 256) 8 ∙ ap (bit_xor (x % 256)) low
    ∙ xor_comm (x % 256) (s % 256)) in
    ap (λ z. crc_run z xs) (crc_bits-byte s (x % 256))
    ∙ run-xor xs c (s / 256)
    ∙ ap (bit_xor (crc_bits (8 * length xs) c)) same
    ∙ ap (λ z. bit_xor (crc_bits (8 * z) c) (crc_run 0 ys)) long
    ∙ sym (run-xor ys c 0)
    ∙ ap (λ z. crc_run z ys) (xor_zero_r c ∙ sym own)

state_cells : (s : ℕ) (x : ℕ → ℕ) (ys : List ℕ) → s < 2 ^ 32
    → crc_run s (row x ++ ys) ≡ crc_run 0 (zip2 bit_xor (row x) (state_bytes s) ++ ys)
state_cells s x ys lt =
    let gone : s / 256 / 256 / 256 / 256 ≡ 0 = omega arith in
    let fourth : s / 16777216 ≡ s / 256 / 256 / 256 % 256 = omega arith in
    let third : s / 65536 % 256 ≡ s / 256 / 256 % 256 = omega arith in
    let rest =
    x 4 ∷ x 5 ∷ x 6 ∷ x 7 ∷ x 8 ∷ x 9 ∷ x 10 ∷ x 11 ∷ x 12 ∷ x 13 ∷ x 14 ∷ x 15 ∷ ys in
    rw (fourth, third) (simp xor_zero_r
    (state_step s (x 0) (x 1 ∷ x 2 ∷ x 3 ∷ rest) _ refl
    (state_step (s / 256) (x 1) (x 2 ∷ x 3 ∷ rest) _ refl
    (state_step (s / 256 / 256) (x 2) (x 3 ∷ rest) _ refl
    (state_step (s / 256 / 256 / 256) (x 3) rest rest refl (ap (λ z. crc_run z rest) gone))))))

state_taken : (s : ℕ) (x ys : List ℕ) → s < 2 ^ 32 → length x ≡ 16
    → crc_run s (x ++ ys) ≡ crc_run 0 (zip2 bit_xor x (state_bytes s) ++ ys)
state_taken s x ys lt long = rw (cells_are x long) (state_cells s (at x) ys lt)

-- the first block
pub begin_block : (s : ℕ) (x ys : List ℕ) → s < 2 ^ 32 → length x ≡ 16 → 98 ≤ length ys
    → crc_run s (x ++ ys) ≡ crc_run 0 (taken (moved (zip2 bit_xor x (state_bytes s)) nothing_kept) ys)
begin_block s x ys lt long le =
    let y = zip2 bit_xor x (state_bytes s) in
    let sixteen : length y ≡ 16 = length-zip2 bit_xor x (state_bytes s) long ∙ long in
    state_taken s x ys lt long
    ∙ ap (crc_run 0) (sym (nothing_taken (y ++ ys)))
    ∙ fold_block nothing_kept y ys (refl, refl, refl, refl, refl, refl, refl) sixteen le
    ∙ ap (λ z. crc_run 0 (taken (moved z nothing_kept) ys)) (nothing_taken y)

-- ---- the steps of the loops, over the bytes before and after

pub moved-long : (k : Kept) (x : List ℕ) → IsKept k → length x ≡ 16 → IsKept (moved x k)
moved-long k x ok long = (long, ok.0, ok.1, ok.2, ok.3, ok.4, ok.5)

-- a block that is split off, as a vector
block : (bs : List ℕ) → 16 ≤ length bs → (chunk 0 16 (take 16 bs) ≡ take 16 bs) × (length (take 16 bs) ≡ 16)
block bs le = (take-take 16 16 bs (omega arith), length-take-le 16 bs le)

pub begin-long : (s : ℕ) (bs : List ℕ) → 16 ≤ length bs
    → IsKept (moved (zip2 bit_xor (chunk 0 16 (take 16 bs)) (state_bytes s)) nothing_kept)
begin-long s bs le =
    let b = block bs le in
    let long = ap length b.0 ∙ b.1 in
    moved-long nothing_kept (zip2 bit_xor (chunk 0 16 (take 16 bs)) (state_bytes s))
    (refl, refl, refl, refl, refl, refl, refl)
    (length-zip2 bit_xor (chunk 0 16 (take 16 bs)) (state_bytes s) long ∙ long)

pub begin_parts : (s : ℕ) (bs : List ℕ) → s < 2 ^ 32 → 114 ≤ length bs
    → crc_run 0 (taken (moved (zip2 bit_xor (chunk 0 16 (take 16 bs)) (state_bytes s)) nothing_kept) (drop 16 bs))
    ≡ crc_run s bs
begin_parts s bs lt le =
    let b = block bs (omega (arith, le)) in
    ap (λ z. crc_run 0 (taken (moved (zip2 bit_xor z (state_bytes s)) nothing_kept) (drop 16 bs))) b.0
    ∙ sym (begin_block s (take 16 bs) (drop 16 bs) lt b.1 (omega (arith, le, length-drop 16 bs)))
    ∙ ap (crc_run s) (take-append-drop 16 bs)

pub fold_parts : (k : Kept) (bs : List ℕ) → IsKept k → 114 ≤ length bs
    → crc_run 0 (taken (moved (taken k (chunk 0 16 (take 16 bs))) k) (drop 16 bs)) ≡ crc_run 0 (taken k bs)
fold_parts k bs ok le =
    let b = block bs (omega (arith, le)) in
    ap (λ z. crc_run 0 (taken (moved (taken k z) k) (drop 16 bs))) b.0
    ∙ sym (fold_block k (take 16 bs) (drop 16 bs) ok b.1 (omega (arith, le, length-drop 16 bs)))
    ∙ ap (λ z. crc_run 0 (taken k z)) (take-append-drop 16 bs)

-- the bytes of a block are written behind those before it
pub pass_parts : (k : Kept) (bs before after all : List ℕ) (i : ℕ) → IsKept k → 16 ≤ length bs
    → take (i + 16) after ≡ take i before ++ taken k (chunk 0 16 (take 16 bs))
    → take i before ++ taken k bs ≡ all
    → take (i + 16) after ++ taken (moved (replicate 16 0) k) (drop 16 bs) ≡ all
pass_parts k bs before after all i ok le written so_far =
    let b = block bs le in
    let x = take 16 bs in
    let later = taken (moved (replicate 16 0) k) (drop 16 bs) in
    ap (λ z. z ++ later) (written ∙ ap (λ z. take i before ++ taken k z) b.0)
    ∙ append_assoc (take i before) (taken k x) later
    ∙ ap (λ z. take i before ++ z) (sym (pass_block k x (drop 16 bs) ok b.1) ∙ ap (taken k) (take-append-drop 16 bs))
    ∙ so_far

pub nothing_left : (k : Kept) (bs last all : List ℕ) (i : ℕ) → length bs ≡ 0 → length last ≤ i
    → take i last ++ taken k bs ≡ all → last ≡ all
unfolding taken taken_in
nothing_left k [] last all i none le is = sym (append-nil (take i last) ∙ take_all i last le) ∙ is
nothing_left k (b ∷ bs) last all i none le is = absurd (omega (arith, none))
