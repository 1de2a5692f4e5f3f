-- A run over a block, as lookups that can be made side by side.
use Rattle.std.proofs.Common.{◌≡◌, ℕ, suc, ◌+◌, ◌*◌, ◌/◌, ◌%◌, ◌^◌, ◌<◌, ◌≤◌, List, [], ◌∷◌, ◌++◌, length, get_or}
use Rattle.std.proofs.Common.{take, drop, refl, sym, ap, ◌∙◌, arith}
use Rattle.std.specs.Int.Bits.{bit_xor, xor_assoc, xor_zero_r}
use Rattle.std.proofs.lemmas.List.{take-append-drop, drop-drop, at_drop_more, at_drop_all}
use Rattle.sctp_crc.specs.Crc.{crc_bits, crc_byte, crc_run}
use Rattle.sctp_crc.proofs.LinearBits.{crc_bits-xor, crc_bits-add, crc_bits-byte}

pub run-append : (xs ys : List ℕ) (s : ℕ) → crc_run s (xs ++ ys) ≡ crc_run (crc_run s xs) ys
unfolding crc_run
run-append [] ys s = refl
run-append (x ∷ xs) ys s = run-append xs ys (crc_byte s x)

-- a run over the first n bytes and then over the rest
pub run-parts : (n : ℕ) (xs : List ℕ) (s : ℕ) → crc_run (crc_run s (take n xs)) (drop n xs) ≡ crc_run s xs
run-parts n xs s = sym (run-append (take n xs) (drop n xs) s) ∙ ap (crc_run s) (take-append-drop n xs)

pub more_bits : (bs : List ℕ) (b x : ℕ) → crc_bits (8 * length bs) (crc_bits 8 x) ≡ crc_bits (8 * length (b ∷ bs)) x
more_bits bs b x =
    let e : 8 * length (b ∷ bs) ≡ 8 + 8 * length bs = omega arith in
    rw e (crc_bits-add 8 (8 * length bs) x)

pub run-xor : (bs : List ℕ) (x y : ℕ) → crc_run (bit_xor x y) bs ≡ bit_xor (crc_bits (8 * length bs) x) (crc_run y bs)
unfolding crc_run crc_bits crc_byte
run-xor [] x y = refl
run-xor (b ∷ bs) x y =
    let first : crc_bits 8 (bit_xor (bit_xor x y) (b % 256)) ≡ bit_xor (crc_bits 8 x)
    (crc_bits 8 (bit_xor y (b % 256))) =
    ap (crc_bits 8) (xor_assoc x y (b % 256)) ∙ crc_bits-xor 8 x (bit_xor y (b % 256)) in
    ap (λ (z : ℕ). crc_run z bs) first ∙ run-xor bs (crc_bits 8 x) (crc_bits 8 (bit_xor y (b % 256)))
    ∙ ap (λ (z : ℕ). bit_xor z (crc_run (crc_bits 8 (bit_xor y (b % 256))) bs)) (more_bits bs b x)

-- what is looked up for each byte, taken together
abbrev mixed : ℕ → List ℕ → ℕ
mixed s [] = s
mixed s (b ∷ bs) = bit_xor (crc_bits (8 * length (b ∷ bs)) (bit_xor (s % 256) b)) (mixed (s / 256) bs)

abbrev AreBytes : List ℕ → Type 0
AreBytes bs = (i : ℕ) → get_or bs i 0 < 256

run_mixed : (bs : List ℕ) (s : ℕ) → AreBytes bs → crc_run s bs ≡ mixed s bs
unfolding crc_run crc_byte
run_mixed [] s fits = refl
run_mixed (b ∷ bs) s fits =
    let byte : b % 256 ≡ b = omega (arith, fits 0) in
    let first : crc_bits 8 (bit_xor s (b % 256)) ≡ bit_xor (crc_bits 8 (bit_xor (s % 256) b)) (s / 256) =
    ap (λ (z : ℕ). crc_bits 8 (bit_xor s z)) byte ∙ crc_bits-byte s b in
    let rest : crc_run (s / 256) bs ≡ mixed (s / 256) bs = run_mixed bs (s / 256) (λ i. fits (suc i)) in
    ap (λ (z : ℕ). crc_run z bs) first ∙ run-xor bs (crc_bits 8 (bit_xor (s % 256) b)) (s / 256)
    ∙ ap (λ (z : ℕ). bit_xor z (crc_run (s / 256) bs)) (more_bits bs b (bit_xor (s % 256) b))
    ∙ ap (bit_xor (crc_bits (8 * length (b ∷ bs)) (bit_xor (s % 256) b))) rest

-- a block's bytes, one by one
abbrev pub cells : List ℕ → List ℕ
cells xs =
    get_or xs 0 0 ∷ get_or xs 1 0 ∷ get_or xs 2 0 ∷ get_or xs 3 0 ∷ get_or xs 4 0 ∷ get_or xs 5 0 ∷ get_or xs 6 0
    ∷ get_or xs 7 0 ∷ get_or xs 8 0 ∷ get_or xs 9 0 ∷ get_or xs 10 0 ∷ get_or xs 11 0 ∷ get_or xs 12 0 ∷ get_or xs 13 0
    ∷ get_or xs 14 0 ∷ get_or xs 15 0 ∷ []

pub cells_are : (xs : List ℕ) → length xs ≡ 16 → xs ≡ cells xs
cells_are (x0 ∷ x1 ∷ x2 ∷ x3 ∷ x4 ∷ x5 ∷ x6 ∷ x7 ∷ x8 ∷ x9 ∷ x10 ∷ x11 ∷ x12 ∷ x13 ∷ x14 ∷ x15 ∷ []) len = refl
cells_are _ len = absurd (omega arith)

-- what is looked up for each byte of a block, taken together
abbrev looked_up : ℕ → List ℕ → ℕ
looked_up s xs =
    bit_xor (crc_bits 128 (bit_xor (s % 256) (get_or xs 0 0)))
    (bit_xor (crc_bits 120 (bit_xor (s / 256 % 256) (get_or xs 1 0)))
    (bit_xor (crc_bits 112 (bit_xor (s / 65536 % 256) (get_or xs 2 0)))
    (bit_xor (crc_bits 104 (bit_xor (s / 16777216) (get_or xs 3 0)))
    (bit_xor (crc_bits 96 (get_or xs 4 0)) (bit_xor (crc_bits 88 (get_or xs 5 0))
    (bit_xor (crc_bits 80 (get_or xs 6 0)) (bit_xor (crc_bits 72 (get_or xs 7 0))
    (bit_xor (crc_bits 64 (get_or xs 8 0)) (bit_xor (crc_bits 56 (get_or xs 9 0))
    (bit_xor (crc_bits 48 (get_or xs 10 0)) (bit_xor (crc_bits 40 (get_or xs 11 0))
    (bit_xor (crc_bits 32 (get_or xs 12 0)) (bit_xor (crc_bits 24 (get_or xs 13 0))
    (bit_xor (crc_bits 16 (get_or xs 14 0)) (crc_bits 8 (get_or xs 15 0))))))))))))))))

sixteen_mixed : (s : ℕ) (xs : List ℕ) → s < 2 ^ 32 → mixed s (cells xs) ≡ looked_up s xs
sixteen_mixed s xs lt =
    let gone : s / 256 / 256 / 256 / 256 ≡ 0 = omega arith in
    let fourth : s / 256 / 256 / 256 % 256 ≡ s / 16777216 = omega arith in
    let third : s / 256 / 256 ≡ s / 65536 = omega arith in
    rw (gone, fourth, third, xor_zero_r) refl

pub sixteen_run : (s : ℕ) (xs : List ℕ) → s < 2 ^ 32 → length xs ≡ 16 → AreBytes xs → looked_up s xs ≡ crc_run s xs
sixteen_run s xs lt len fits =
    sym (run_mixed xs s fits ∙ ap (mixed s) (cells_are xs len) ∙ sixteen_mixed s xs lt)

four_mixed : (s a b c d : ℕ) → s < 2 ^ 32
    → mixed s (a ∷ b ∷ c ∷ d ∷ [])
    ≡ bit_xor (crc_bits 32 (bit_xor (s % 256) a))
    (bit_xor (crc_bits 24 (bit_xor (s / 256 % 256) b))
    (bit_xor (crc_bits 16 (bit_xor (s / 65536 % 256) c)) (crc_bits 8 (bit_xor (s / 16777216) d))))
four_mixed s a b c d lt =
    let gone : s / 256 / 256 / 256 / 256 ≡ 0 = omega arith in
    let fourth : s / 256 / 256 / 256 % 256 ≡ s / 16777216 = omega arith in
    let third : s / 256 / 256 ≡ s / 65536 = omega arith in
    rw (gone, fourth, third, xor_zero_r) refl

pub four_run : (s : ℕ) (xs : List ℕ) → s < 2 ^ 32 → length xs ≡ 4 → AreBytes xs
    → bit_xor (crc_bits 32 (bit_xor (s % 256) (get_or xs 0 0)))
    (bit_xor (crc_bits 24 (bit_xor (s / 256 % 256) (get_or xs 1 0)))
    (bit_xor (crc_bits 16 (bit_xor (s / 65536 % 256) (get_or xs 2 0)))
    (crc_bits 8 (bit_xor (s / 16777216) (get_or xs 3 0)))))
    ≡ crc_run s xs
four_run s (a ∷ b ∷ c ∷ d ∷ []) lt len fits =
    sym (run_mixed (a ∷ b ∷ c ∷ d ∷ []) s fits ∙ four_mixed s a b c d lt)
four_run s _ lt len fits = absurd (omega arith)

pub byte_run : (s b x : ℕ) → b < 256 → x ≡ crc_bits 8 (bit_xor (s % 256) b) → bit_xor x (s / 256) ≡ crc_run s (b ∷ [])
unfolding crc_run crc_byte
byte_run s b x lt e =
    let byte : b % 256 ≡ b = omega arith in
    rw (e, byte) (sym (crc_bits-byte s b))

-- a packet's parts, with zeros in place of its sum
pub packet_run : (s : ℕ) (xs : List ℕ)
    → crc_run (crc_run (crc_run s (take 8 xs)) (0 ∷ 0 ∷ 0 ∷ 0 ∷ [])) (drop 4 (drop 8 xs))
    ≡ crc_run s (take 8 xs ++ (0 ∷ 0 ∷ 0 ∷ 0 ∷ []) ++ drop 12 xs)
packet_run s xs =
    let rest : drop 4 (drop 8 xs) ≡ drop 12 xs = drop-drop 4 8 xs in
    rw rest
    (sym (run-append (take 8 xs ++ (0 ∷ 0 ∷ 0 ∷ 0 ∷ [])) (drop 12 xs) s
    ∙ ap (λ (z : ℕ). crc_run z (drop 12 xs)) (run-append (take 8 xs) (0 ∷ 0 ∷ 0 ∷ 0 ∷ []) s)))

pub run_next : (xs : List ℕ) (i s : ℕ) → i < length xs
    → crc_run (crc_run s (get_or xs i 0 ∷ [])) (drop (i + 1) xs) ≡ crc_run s (drop i xs)
unfolding crc_run
run_next xs i s lt = sym (at_drop_more (crc_run s) xs i 0 lt)

pub run_end : (xs : List ℕ) (i s : ℕ) → length xs ≤ i → crc_run s (drop i xs) ≡ s
unfolding crc_run
run_end xs i s le = at_drop_all (crc_run s) xs i le
