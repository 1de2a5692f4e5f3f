-- An OPEN that is read is spelled by what it says.
use Rattle.std.proofs.Common.{◌≡◌, refl, sym, ap, ◌∙◌, ℕ, zero, suc, ◌+◌, ◌<◌, List, [], ◌∷◌, ◌++◌, length}
use Rattle.std.proofs.Common.{arith, take, drop, get_or}
use Rattle.std.specs.Int.{w16, w32, to_be_bytes, from_be_bytes}
use Rattle.std.proofs.lemmas.List.{length-drop, length-take-le, take-append-drop}
use Rattle.std.proofs.lemmas.Nat.{be_bytes_2}
use Rattle.std.proofs.Math.Seq.{take-length}
use Rattle.std.proofs.Common.{◌%◌, nat_lt}
use Rattle.std.proofs.lemmas.Bool.Decides.{nat_tests}
use Rattle.dcep_messages.specs.Codec.{IsOpenMessage, IsSpelled, channel_type, persistence_at}

are_small : (x y : ℕ) → x < 256 → y < 256 → (i : ℕ) → get_or (x ∷ y ∷ []) i 0 < 256
are_small x y hx hy zero = hx
are_small x y hx hy (suc zero) = hy
are_small x y hx hy (suc (suc i)) = omega arith

two_back : (x y : ℕ) → x < 256 → y < 256 → to_be_bytes w16 (from_be_bytes w16 (x ∷ y ∷ [])) ≡ x ∷ y ∷ []
two_back x y hx hy = be_bytes_2 (x ∷ y ∷ []) _ refl (are_small x y hx hy) refl

-- a list of two parts of known lengths is these parts
parts_of : (n m : ℕ) (xs : List ℕ) → length xs ≡ n + m → take n xs ++ take m (drop n xs) ≡ xs
parts_of n m xs h =
    let all : take m (drop n xs) ≡ drop n xs =
    ap (λ (k : ℕ). take k (drop n xs)) (omega (arith, length-drop n xs)) ∙ take-length (drop n xs) in
    ap (λ (ys : List ℕ). take n xs ++ ys) all ∙ take-append-drop n xs

-- the same with two bytes for each length in front
lengths_and_parts : (l0 l1 q0 q1 n m : ℕ) (xs : List ℕ) → l0 < 256 → l1 < 256 → q0 < 256 → q1 < 256
    → n ≡ from_be_bytes w16 (l0 ∷ l1 ∷ []) → m ≡ from_be_bytes w16 (q0 ∷ q1 ∷ []) → length xs ≡ n + m
    → to_be_bytes w16 (length (take n xs)) ++ to_be_bytes w16 (length (take m (drop n xs)))
    ++ take n xs ++ take m (drop n xs) ≡ l0 ∷ l1 ∷ q0 ∷ q1 ∷ xs
lengths_and_parts l0 l1 q0 q1 n m xs hl0 hl1 hq0 hq1 is_n is_m h =
    let first : to_be_bytes w16 (length (take n xs)) ≡ l0 ∷ l1 ∷ [] =
    ap (λ (x : ℕ). to_be_bytes w16 x) (length-take-le n xs (omega (arith, h)) ∙ is_n) ∙ two_back l0 l1 hl0 hl1 in
    let second : to_be_bytes w16 (length (take m (drop n xs))) ≡ q0 ∷ q1 ∷ [] =
    ap (λ (x : ℕ). to_be_bytes w16 x)
    (length-take-le m (drop n xs) (omega (arith, h, length-drop n xs)) ∙ is_m) ∙ two_back q0 q1 hq0 hq1 in
    ap (λ (ys : List ℕ). ys ++ to_be_bytes w16 (length (take m (drop n xs))) ++ take n xs ++ take m (drop n xs)) first
    ∙ ap (λ (ys : List ℕ). l0 ∷ l1 ∷ (ys ++ take n xs ++ take m (drop n xs))) second
    ∙ ap (λ (ys : List ℕ). l0 ∷ l1 ∷ q0 ∷ q1 ∷ ys) (parts_of n m xs h)

-- the channel type is that of what it says
type_back : (k parameter : ℕ) → k < 256 → k % 128 < 3 → channel_type (nat_lt k 128) (persistence_at k parameter) ≡ k
type_back k parameter small known = grind (arith, nat_tests)

cells_spelled : (t k p0 p1 r0 r1 r2 r3 l0 l1 q0 q1 : ℕ) (xs : List ℕ) → k < 256 → p0 < 256 → p1 < 256 → l0 < 256
    → l1 < 256 → q0 < 256 → q1 < 256 → t ≡ 3 → k % 128 < 3
    → length xs ≡ from_be_bytes w16 (l0 ∷ l1 ∷ []) + from_be_bytes w16 (q0 ∷ q1 ∷ [])
    → IsSpelled (t ∷ k ∷ p0 ∷ p1 ∷ r0 ∷ r1 ∷ r2 ∷ r3 ∷ l0 ∷ l1 ∷ q0 ∷ q1 ∷ xs)
cells_spelled t k p0 p1 r0 r1 r2 r3 l0 l1 q0 q1 xs hk hp0 hp1 hl0 hl1 hq0 hq1 is_t known h =
    ap (λ (x : ℕ). x ∷ k ∷ p0 ∷ p1 ∷ r0 ∷ r1 ∷ r2 ∷ r3 ∷ l0 ∷ l1 ∷ q0 ∷ q1 ∷ xs) is_t
    ∙ ap (λ (x : ℕ). 3 ∷ x ∷ p0 ∷ p1 ∷ r0 ∷ r1 ∷ r2 ∷ r3 ∷ l0 ∷ l1 ∷ q0 ∷ q1 ∷ xs)
    (sym (type_back k (from_be_bytes w32 (r0 ∷ r1 ∷ r2 ∷ r3 ∷ [])) hk known))
    ∙ ap (λ (ys : List ℕ). 3 ∷ channel_type (nat_lt k 128)
    (persistence_at k (from_be_bytes w32 (r0 ∷ r1 ∷ r2 ∷ r3 ∷ [])))
    ∷ (ys ++ r0 ∷ r1 ∷ r2 ∷ r3 ∷ l0 ∷ l1 ∷ q0 ∷ q1 ∷ xs))
    (sym (two_back p0 p1 hp0 hp1))
    ∙ ap (λ (ys : List ℕ). 3 ∷ channel_type (nat_lt k 128)
    (persistence_at k (from_be_bytes w32 (r0 ∷ r1 ∷ r2 ∷ r3 ∷ [])))
    ∷ (to_be_bytes w16 (from_be_bytes w16 (p0 ∷ p1 ∷ [])) ++ r0 ∷ r1 ∷ r2 ∷ r3 ∷ ys))
    (sym (lengths_and_parts l0 l1 q0 q1 _ _ xs hl0 hl1 hq0 hq1 refl refl h))

-- an OPEN that is read is spelled by what it says
pub spelled : (bytes : List ℕ) → ((i : ℕ) → get_or bytes i 0 < 256) → IsOpenMessage bytes → IsSpelled bytes
spelled [] small h = absurd (omega (arith, h.0))
spelled (t ∷ []) small h = absurd (omega (arith, h.0))
spelled (t ∷ k ∷ []) small h = absurd (omega (arith, h.0))
spelled (t ∷ k ∷ p0 ∷ []) small h = absurd (omega (arith, h.0))
spelled (t ∷ k ∷ p0 ∷ p1 ∷ []) small h = absurd (omega (arith, h.0))
spelled (t ∷ k ∷ p0 ∷ p1 ∷ r0 ∷ []) small h = absurd (omega (arith, h.0))
spelled (t ∷ k ∷ p0 ∷ p1 ∷ r0 ∷ r1 ∷ []) small h = absurd (omega (arith, h.0))
spelled (t ∷ k ∷ p0 ∷ p1 ∷ r0 ∷ r1 ∷ r2 ∷ []) small h = absurd (omega (arith, h.0))
spelled (t ∷ k ∷ p0 ∷ p1 ∷ r0 ∷ r1 ∷ r2 ∷ r3 ∷ []) small h = absurd (omega (arith, h.0))
spelled (t ∷ k ∷ p0 ∷ p1 ∷ r0 ∷ r1 ∷ r2 ∷ r3 ∷ l0 ∷ []) small h = absurd (omega (arith, h.0))
spelled (t ∷ k ∷ p0 ∷ p1 ∷ r0 ∷ r1 ∷ r2 ∷ r3 ∷ l0 ∷ l1 ∷ []) small h = absurd (omega (arith, h.0))
spelled (t ∷ k ∷ p0 ∷ p1 ∷ r0 ∷ r1 ∷ r2 ∷ r3 ∷ l0 ∷ l1 ∷ q0 ∷ []) small h = absurd (omega (arith, h.0))
spelled (t ∷ k ∷ p0 ∷ p1 ∷ r0 ∷ r1 ∷ r2 ∷ r3 ∷ l0 ∷ l1 ∷ q0 ∷ q1 ∷ xs) small h =
    cells_spelled t k p0 p1 r0 r1 r2 r3 l0 l1 q0 q1 xs (small 1) (small 2) (small 3) (small 8) (small 9) (small 10)
    (small 11) h.1 h.2 (omega (arith, h.3))
