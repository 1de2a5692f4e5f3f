-- A run over bytes that take in others, and why a byte may count as zero once others take it in.
use Rattle.std.proofs.Common.{◌≡◌, ℕ, zero, suc, ◌+◌, ◌-◌, ◌*◌, ◌%◌, ◌<◌, ◌≤◌, false, cond, eqb, List, [], ◌∷◌, ◌++◌}
use Rattle.std.proofs.Common.{length, get_or, map, refl, sym, ap, ◌∙◌, arith, inl, inr}
use Rattle.std.specs.List.{range_with_len}
use Rattle.std.specs.Int.Bits.{bit_xor, xor_assoc, xor_zero_l, xor_zero_r}
use Rattle.std.proofs.lemmas.Nat.{xor_comm, xor_mod}
use Rattle.std.proofs.lemmas.Bool.{cases_lt, lt-ltb, le-ltb}
use Rattle.std.proofs.lemmas.Bool.Decides.{nat_tests}
use Rattle.std.proofs.lemmas.List.{length-append}
use Rattle.std.proofs.lemmas.List.FromFn.{get_or-map-range_with_len}
use Rattle.sctp_crc.specs.Crc.{crc_bit, crc_bits, crc_byte, crc_run}
use Rattle.sctp_crc.specs.Fold.{taken_in, due, dues, all_due}
use Rattle.sctp_crc.proofs.LinearBits.{crc_bits-xor, crc_bits-add}
use Rattle.sctp_crc.proofs.BlockRuns.{run-xor, more_bits}

-- ---- xors in another order

swapped : (a b c : ℕ) → bit_xor a (bit_xor b c) ≡ bit_xor b (bit_xor a c)
swapped a b c = sym (xor_assoc a b c) ∙ ap (λ z. bit_xor z c) (xor_comm a b) ∙ xor_assoc b a c

crossed : (a b c d : ℕ) → bit_xor (bit_xor a b) (bit_xor c d) ≡ bit_xor (bit_xor a c) (bit_xor b d)
crossed a b c d = xor_assoc a b (bit_xor c d) ∙ ap (bit_xor a) (swapped b c d) ∙ sym (xor_assoc a c (bit_xor b d))

bits_of_zero : (n : ℕ) → crc_bits n 0 ≡ 0
unfolding crc_bits crc_bit
bits_of_zero zero = refl
bits_of_zero (suc n) = bits_of_zero n

-- ---- what is taken in adds its own part to a run

abbrev part : ℕ → ℕ → ℕ
part n c = crc_bits (8 * n) (c % 256)

-- what n bytes take in, the first of them at place j
abbrev weight : (ℕ → ℕ) → ℕ → ℕ → ℕ
weight f j zero = 0
weight f j (suc n) = bit_xor (part (suc n) (f j)) (weight f (j + 1) n)

byte_taken : (s x c : ℕ) → crc_byte s (bit_xor x c) ≡ bit_xor (crc_bits 8 (c % 256)) (crc_byte s x)
unfolding crc_byte
byte_taken s x c =
    ap (λ z. crc_bits 8 (bit_xor s z)) (xor_mod x c 8 ∙ xor_comm (x % 256) (c % 256))
    ∙ ap (crc_bits 8) (swapped s (c % 256) (x % 256))
    ∙ crc_bits-xor 8 (c % 256) (bit_xor s (x % 256))

pub run_taken : (f : ℕ → ℕ) (j : ℕ) (xs : List ℕ) (s : ℕ)
    → crc_run s (taken_in f j xs) ≡ bit_xor (weight f j (length xs)) (crc_run s xs)
unfolding crc_run taken_in
run_taken f j [] s = sym (xor_zero_l s)
run_taken f j (x ∷ xs) s =
    let c = f j in
    let w = weight f (j + 1) (length xs) in
    let rest = crc_run (crc_byte s x) xs in
    run_taken f (j + 1) xs (crc_byte s (bit_xor x c))
    ∙ ap (λ z. bit_xor w (crc_run z xs)) (byte_taken s x c)
    ∙ ap (bit_xor w) (run-xor xs (crc_bits 8 (c % 256)) (crc_byte s x))
    ∙ ap (λ z. bit_xor w (bit_xor z rest)) (more_bits xs x (c % 256))
    ∙ swapped w (part (suc (length xs)) c) rest
    ∙ sym (xor_assoc (part (suc (length xs)) c) w rest)

weight-xor : (f g : ℕ → ℕ) (j n : ℕ) → weight (λ i. bit_xor (f i) (g i)) j n ≡ bit_xor (weight f j n) (weight g j n)
weight-xor f g j zero = refl
weight-xor f g j (suc n) =
    let a = part (suc n) (f j) in
    let b = part (suc n) (g j) in
    let both = weight (λ i. bit_xor (f i) (g i)) (j + 1) n in
    ap (λ z. bit_xor (crc_bits (8 * suc n) z) both) (xor_mod (f j) (g j) 8)
    ∙ ap (λ z. bit_xor z both) (crc_bits-xor (8 * suc n) (f j % 256) (g j % 256))
    ∙ ap (bit_xor (bit_xor a b)) (weight-xor f g (j + 1) n)
    ∙ crossed a b (weight f (j + 1) n) (weight g (j + 1) n)

-- ---- one byte more is folded

-- the bytes that were folded, with c as the last of them
abbrev pub pushed : ℕ → (ℕ → ℕ) → ℕ → ℕ
pushed c h m = cond (eqb m 1) c (h (m - 1))

due_within : (h : ℕ → ℕ) (d j : ℕ) → j < d → due h d j ≡ h (d - j)
unfolding due
due_within h d j lt = rw (lt-ltb j d lt) refl

due_past : (h : ℕ → ℕ) (d j : ℕ) → d ≤ j → due h d j ≡ 0
unfolding due
due_past h d j le = rw (le-ltb j d le) refl

due_last : (c : ℕ) (h : ℕ → ℕ) (d j : ℕ) → j + 1 ≡ d → due (pushed c h) d j ≡ c
due_last c h d j e =
    let one : d - j ≡ 1 = omega (arith, e) in
    due_within (pushed c h) d j (omega (arith, e)) ∙ rw one refl

due_before : (c : ℕ) (h : ℕ → ℕ) (d j : ℕ) → j + 1 < d → due (pushed c h) d j ≡ due h d (j + 1)
due_before c h d j lt =
    let many : eqb (d - j) 1 ≡ false = grind (arith, nat_tests, lt) in
    let less : d - j - 1 ≡ d - (j + 1) = omega arith in
    due_within (pushed c h) d j (omega (arith, lt)) ∙ rw (many, less) (sym (due_within h d (j + 1) lt))

weight_past : (h : ℕ → ℕ) (d j n : ℕ) → d ≤ j → weight (due h d) j n ≡ 0
weight_past h d j zero le = refl
weight_past h d j (suc n) le =
    rw (due_past h d j le, bits_of_zero (8 * suc n), weight_past h d (j + 1) n (omega (arith, le))) refl

weight_due : (c : ℕ) (h : ℕ → ℕ) (d j n : ℕ) → j < d → d ≤ j + n
    → weight (due (pushed c h) d) j n ≡ bit_xor (part (n + j + 1 - d) c) (weight (due h d) (j + 1) n)
weight_due c h d j zero lt le = absurd (omega (arith, lt, le))
weight_due c h d j (suc n) lt le =
    elim (cases_lt (j + 1) d) [
      | inl more ↦
          (let left : n + (j + 1) + 1 - d ≡ suc n + j + 1 - d = omega arith in
          let first = part (suc n) (due h d (j + 1)) in
          let last = part (suc n + j + 1 - d) c in
          ap (λ z. bit_xor (part (suc n) z) (weight (due (pushed c h) d) (j + 1) n)) (due_before c h d j more)
          ∙ ap (bit_xor first) (weight_due c h d (j + 1) n more (omega (arith, le)))
          ∙ ap (λ z. bit_xor first (bit_xor (part z c) (weight (due h d) (j + 1 + 1) n))) left
          ∙ swapped first last (weight (due h d) (j + 1 + 1) n))
      | inr last ↦
          (let here : j + 1 ≡ d = omega (arith, lt, last) in
          let left : suc n + j + 1 - d ≡ suc n = omega (arith, here) in
          rw (
            due_last c h d j here,
            weight_past (pushed c h) d (j + 1) n last,
            weight_past h d (j + 1) (suc n) last,
            left,
          ) refl)
    ]

-- the parts of c, where it stands before n bytes and is taken in at each distance
abbrev parts : ℕ → List ℕ → ℕ → ℕ → ℕ
parts d [] n c = part (n + 0 + 1 - d) c
parts d (e ∷ es) n c = bit_xor (part (n + 0 + 1 - d) c) (parts e es n c)

abbrev AreWithin : ℕ → List ℕ → ℕ → Type 0
AreWithin d [] n = (0 < d) × (d ≤ n)
AreWithin d (e ∷ es) n = (0 < d) × (d ≤ n) × AreWithin e es n

weight_dues : (c : ℕ) (h : ℕ → ℕ) (n d : ℕ) (es : List ℕ) → AreWithin d es n
    → weight (dues (pushed c h) d es) 0 n ≡ bit_xor (parts d es n c) (weight (dues h d es) 1 n)
unfolding dues
weight_dues c h n d [] ok = weight_due c h d 0 n ok.0 (omega (arith, ok.1))
weight_dues c h n d (e ∷ es) ok =
    weight-xor (due (pushed c h) d) (dues (pushed c h) e es) 0 n
    ∙ ap (λ z. bit_xor z (weight (dues (pushed c h) e es) 0 n)) (weight_due c h d 0 n ok.0 (omega (arith, ok.1)))
    ∙ ap (bit_xor (bit_xor (part (n + 0 + 1 - d) c) (weight (due h d) 1 n))) (weight_dues c h n e es ok.2)
    ∙ crossed (part (n + 0 + 1 - d) c) (weight (due h d) 1 n) (parts e es n c) (weight (dues h e es) 1 n)
    ∙ ap (bit_xor (bit_xor (part (n + 0 + 1 - d) c) (parts e es n c))) (sym (weight-xor (due h d) (dues h e es) 1 n))

-- ---- the polynomial's multiple

abbrev spread : ℕ → ℕ
spread b =
    bit_xor (crc_bits 616 b)
    (bit_xor (crc_bits 408 b)
    (bit_xor (crc_bits 304 b)
    (bit_xor (crc_bits 264 b) (bit_xor (crc_bits 224 b) (bit_xor (crc_bits 32 b) (crc_bits 0 b))))))

spread_computed : map (crc_bits 784) (range_with_len 0 256) ≡ map spread (range_with_len 0 256)
unfolding crc_bits crc_bit
spread_computed = refl

spread_is : (b : ℕ) → b < 256 → crc_bits 784 b ≡ spread b
spread_is b lt =
    sym (get_or-map-range_with_len (crc_bits 784) 0 256 b b 0 lt (omega arith))
    ∙ ap (λ t. get_or t b 0) spread_computed
    ∙ get_or-map-range_with_len spread 0 256 b b 0 lt (omega arith)

parts_are : (c n : ℕ) → 98 ≤ n → parts 21 (47 ∷ 60 ∷ 65 ∷ 70 ∷ 94 ∷ 98 ∷ []) n c ≡ part (suc n) c
parts_are c n le =
    let m = 8 * (n + 1 - 98) in
    let b = c % 256 in
    let at : (k e : ℕ) → k + m ≡ e → crc_bits e b ≡ crc_bits m (crc_bits k b) =
    λ k e same. sym (crc_bits-add k m b ∙ ap (λ z. crc_bits z b) same) in
    rw (
      at 616 (8 * (n + 0 + 1 - 21)) (omega (arith, le)),
      at 408 (8 * (n + 0 + 1 - 47)) (omega (arith, le)),
      at 304 (8 * (n + 0 + 1 - 60)) (omega (arith, le)),
      at 264 (8 * (n + 0 + 1 - 65)) (omega (arith, le)),
      at 224 (8 * (n + 0 + 1 - 70)) (omega (arith, le)),
      at 32 (8 * (n + 0 + 1 - 94)) (omega (arith, le)),
      at 0 (8 * (n + 0 + 1 - 98)) (omega (arith, le)),
      at 784 (8 * suc n) (omega (arith, le)),
      spread_is b (omega arith),
    ) (simp crc_bits-xor refl)

within : (n : ℕ) → 98 ≤ n → AreWithin 21 (47 ∷ 60 ∷ 65 ∷ 70 ∷ 94 ∷ 98 ∷ []) n
within n le =
    let near : (d : ℕ) → d ≤ 98 → d ≤ n = λ d small. omega (arith, le, small) in (
      omega arith,
      near 21 (omega arith),
      (
        omega arith,
        near 47 (omega arith),
        (
          omega arith,
          near 60 (omega arith),
          (
            omega arith,
            near 65 (omega arith),
            (
              omega arith,
              near 70 (omega arith),
              (
                omega arith,
                near 94 (omega arith),
                (
                  omega arith,
                  le,
                ),
              ),
            ),
          ),
        ),
      ),
    )

-- a byte is folded: it counts as zero, and others take it in
pub fold_one : (h : ℕ → ℕ) (x : ℕ) (xs : List ℕ) → 98 ≤ length xs
    → crc_run 0 (taken_in (all_due h) 0 (x ∷ xs))
    ≡ crc_run 0 (taken_in (all_due (pushed (bit_xor x (all_due h 0)) h)) 0 xs)
unfolding crc_run taken_in crc_byte all_due
fold_one h x xs le =
    let n = length xs in
    let c = bit_xor x (all_due h 0) in
    let before = weight (all_due h) 1 n in
    let rest = crc_run 0 xs in
    let own : crc_run (crc_bits 8 (bit_xor 0 (c % 256))) xs ≡ bit_xor (part (suc n) c) rest =
    ap (λ z. crc_run (crc_bits 8 z) xs) (xor_zero_l (c % 256))
    ∙ ap (λ z. crc_run z xs) (sym (xor_zero_r (crc_bits 8 (c % 256))))
    ∙ run-xor xs (crc_bits 8 (c % 256)) 0
    ∙ ap (λ z. bit_xor z rest) (more_bits xs x (c % 256)) in
    let after : weight (all_due (pushed c h)) 0 n ≡ bit_xor (part (suc n) c) before =
    weight_dues c h n 21 (47 ∷ 60 ∷ 65 ∷ 70 ∷ 94 ∷ 98 ∷ []) (within n le)
    ∙ ap (λ z. bit_xor z before) (parts_are c n le) in
    run_taken (all_due h) 1 xs (crc_bits 8 (bit_xor 0 (c % 256)))
    ∙ ap (bit_xor before) own
    ∙ swapped before (part (suc n) c) rest
    ∙ sym (xor_assoc (part (suc n) c) before rest)
    ∙ ap (λ z. bit_xor z rest) (sym after)
    ∙ sym (run_taken (all_due (pushed c h)) 0 xs 0)

-- the bytes that were folded, with those of a list as the last of them
abbrev pub pushes : (ℕ → ℕ) → List ℕ → ℕ → ℕ
pushes h [] = h
pushes h (x ∷ xs) = pushes (pushed (bit_xor x (all_due h 0)) h) xs

pub fold_many : (h : ℕ → ℕ) (xs ys : List ℕ) → 98 ≤ length ys
    → crc_run 0 (taken_in (all_due h) 0 (xs ++ ys)) ≡ crc_run 0 (taken_in (all_due (pushes h xs)) 0 ys)
fold_many h [] ys le = refl
fold_many h (x ∷ xs) ys le =
    fold_one h x (xs ++ ys) (omega (arith, le, length-append xs ys))
    ∙ fold_many (pushed (bit_xor x (all_due h 0)) h) xs ys le

-- ---- bytes that are not folded

abbrev pub passes : (ℕ → ℕ) → List ℕ → ℕ → ℕ
passes h [] = h
passes h (x ∷ xs) = passes (pushed 0 h) xs

due_passed : (h : ℕ → ℕ) (d j : ℕ) → due h d (j + 1) ≡ due (pushed 0 h) d j
due_passed h d j =
    elim (cases_lt (j + 1) d) [
      | inl more ↦ sym (due_before 0 h d j more)
      | inr last ↦
          elim (cases_lt j d) [
            | inl here ↦ due_past h d (j + 1) last ∙ sym (due_last 0 h d j (omega (arith, here, last)))
            | inr past ↦ due_past h d (j + 1) last ∙ sym (due_past (pushed 0 h) d j past)
          ]
    ]

dues_passed : (h : ℕ → ℕ) (d : ℕ) (es : List ℕ) (j : ℕ) → dues h d es (j + 1) ≡ dues (pushed 0 h) d es j
unfolding dues
dues_passed h d [] j = due_passed h d j
dues_passed h d (e ∷ es) j =
    ap (λ z. bit_xor z (dues h e es (j + 1))) (due_passed h d j)
    ∙ ap (bit_xor (due (pushed 0 h) d j)) (dues_passed h e es j)

taken_passed : (h : ℕ → ℕ) (j : ℕ) (xs : List ℕ)
    → taken_in (all_due h) (j + 1) xs ≡ taken_in (all_due (pushed 0 h)) j xs
unfolding taken_in all_due
taken_passed h j [] = refl
taken_passed h j (x ∷ xs) =
    ap (λ z. bit_xor x z ∷ taken_in (all_due h) (j + 1 + 1) xs)
    (dues_passed h 21 (47 ∷ 60 ∷ 65 ∷ 70 ∷ 94 ∷ 98 ∷ []) j)
    ∙ ap (λ z. bit_xor x (all_due (pushed 0 h) j) ∷ z) (taken_passed h (j + 1) xs)

pub pass_many : (h : ℕ → ℕ) (xs ys : List ℕ)
    → taken_in (all_due h) 0 (xs ++ ys) ≡ taken_in (all_due h) 0 xs ++ taken_in (all_due (passes h xs)) 0 ys
unfolding taken_in
pass_many h [] ys = refl
pass_many h (x ∷ xs) ys =
    ap (λ z. bit_xor x (all_due h 0) ∷ z) (taken_passed h 0 (xs ++ ys)
    ∙ pass_many (pushed 0 h) xs ys
    ∙ ap (λ z. z ++ taken_in (all_due (passes (pushed 0 h) xs)) 0 ys) (sym (taken_passed h 0 xs)))

-- ---- no more than 98 bytes count

due_same : (g h : ℕ → ℕ) → ((m : ℕ) → 0 < m → m ≤ 98 → g m ≡ h m) → (d j : ℕ) → d ≤ 98 → due g d j ≡ due h d j
due_same g h same d j le =
    elim (cases_lt j d) [
      | inl here ↦
          due_within g d j here ∙ same (d - j) (omega (arith, here)) (omega (arith, le)) ∙ sym (due_within h d j here)
      | inr past ↦ due_past g d j past ∙ sym (due_past h d j past)
    ]

pub all_due_same : (g h : ℕ → ℕ) → ((m : ℕ) → 0 < m → m ≤ 98 → g m ≡ h m) → (j : ℕ) → all_due g j ≡ all_due h j
unfolding all_due dues
all_due_same g h same j =
    rw (
      due_same g h same 21 j (omega arith),
      due_same g h same 47 j (omega arith),
      due_same g h same 60 j (omega arith),
      due_same g h same 65 j (omega arith),
      due_same g h same 70 j (omega arith),
      due_same g h same 94 j (omega arith),
      due_same g h same 98 j (omega arith),
    ) refl

pub taken_same : (f g : ℕ → ℕ) → ((i : ℕ) → f i ≡ g i) → (j : ℕ) (xs : List ℕ) → taken_in f j xs ≡ taken_in g j xs
unfolding taken_in
taken_same f g same j [] = refl
taken_same f g same j (x ∷ xs) =
    ap (λ z. bit_xor x z ∷ taken_in f (j + 1) xs) (same j)
    ∙ ap (λ z. bit_xor x (g j) ∷ z) (taken_same f g same (j + 1) xs)
