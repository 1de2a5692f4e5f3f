-- A run of bits is linear in its state.
use Rattle.std.proofs.Common.{◌≡◌, ℕ, zero, suc, ◌+◌, ◌*◌, ◌/◌, ◌%◌, ◌^◌, ◌⊎◌, cond, eqb, refl}
use Rattle.std.proofs.Common.{sym, ap, ◌∙◌, arith, inl, inr}
use Rattle.std.proofs.Math.Logic.{⊎_elim}
use Rattle.std.proofs.Math.Nat.{mul_assoc, pow-suc}
use Rattle.std.specs.Int.Bits.{bit_xor, xor_assoc, xor_self, xor_zero_l, xor_zero_r}
use Rattle.std.proofs.lemmas.Nat.{xor_comm, xor_shr, xor_mod, xor_block}
use Rattle.std.proofs.lemmas.Bool.{cases_eq}
use Rattle.sctp_crc.specs.Crc.{crc_bit, crc_bits}

abbrev poly : ℕ
poly = 0x82F63B78

parity : (a : ℕ) → (a % 2 ≡ 1) ⊎ (a % 2 ≡ 0)
parity a = ⊎_elim (λ (e : a % 2 ≡ 1). inl e) (λ (n : a % 2 ≡ 1 → ⊥). inr (omega arith)) (cases_eq (a % 2) 1)

xor_low : (a b : ℕ) → bit_xor a b % 2 ≡ bit_xor (a % 2) (b % 2)
xor_low a b = xor_mod a b 1

xor_half : (a b : ℕ) → bit_xor a b / 2 ≡ bit_xor (a / 2) (b / 2)
xor_half a b = xor_shr a b 1

pub turned : (x y p : ℕ) → bit_xor (bit_xor x y) p ≡ bit_xor (bit_xor x p) y
turned x y p = xor_assoc x y p ∙ ap (bit_xor x) (xor_comm y p) ∙ sym (xor_assoc x p y)

cancelled : (x y p : ℕ) → bit_xor x y ≡ bit_xor (bit_xor x p) (bit_xor y p)
cancelled x y p =
    let again : bit_xor p (bit_xor y p) ≡ y =
    ap (bit_xor p) (xor_comm y p) ∙ sym (xor_assoc p p y) ∙ ap (λ (z : ℕ). bit_xor z y) (xor_self p) ∙ xor_zero_l y in
    sym (xor_assoc x p (bit_xor y p) ∙ ap (bit_xor x) again)

abbrev stepped : ℕ → ℕ → ℕ
stepped half low = cond (eqb low 1) (bit_xor half poly) half

stepped-xor : (x y p q : ℕ) → (p ≡ 1) ⊎ (p ≡ 0) → (q ≡ 1) ⊎ (q ≡ 0)
    → stepped (bit_xor x y) (bit_xor p q) ≡ bit_xor (stepped x p) (stepped y q)
stepped-xor x y p q (inl e) (inl f) = rw (e, f) (cancelled x y poly)
stepped-xor x y p q (inl e) (inr f) = rw (e, f) (turned x y poly)
stepped-xor x y p q (inr e) (inl f) = rw (e, f) (xor_assoc x y poly)
stepped-xor x y p q (inr e) (inr f) = rw (e, f) refl

pub crc_bit-xor : (a b : ℕ) → crc_bit (bit_xor a b) ≡ bit_xor (crc_bit a) (crc_bit b)
unfolding crc_bit
crc_bit-xor a b = rw (xor_low a b, xor_half a b) (stepped-xor (a / 2) (b / 2) (a % 2) (b % 2) (parity a) (parity b))

pub crc_bits-xor : (n a b : ℕ) → crc_bits n (bit_xor a b) ≡ bit_xor (crc_bits n a) (crc_bits n b)
unfolding crc_bits
crc_bits-xor zero a b = refl
crc_bits-xor (suc n) a b = ap (crc_bits n) (crc_bit-xor a b) ∙ crc_bits-xor n (crc_bit a) (crc_bit b)

pub crc_bits-add : (m n x : ℕ) → crc_bits n (crc_bits m x) ≡ crc_bits (m + n) x
unfolding crc_bits
crc_bits-add zero n x = let e : 0 + n ≡ n = omega arith in rw e refl
crc_bits-add (suc m) n x = let e : suc m + n ≡ suc (m + n) = omega arith in rw e (crc_bits-add m n (crc_bit x))

crc_bit-even : (k : ℕ) → crc_bit (k * 2) ≡ k
unfolding crc_bit
crc_bit-even k =
    let low : k * 2 % 2 ≡ 0 = omega arith in
    let half : k * 2 / 2 ≡ k = omega arith in
    rw (low, half) refl

pub crc_bits-shifted : (n m : ℕ) → crc_bits n (m * 2 ^ n) ≡ m
unfolding crc_bits
crc_bits-shifted zero m = omega arith
crc_bits-shifted (suc n) m =
    let e : m * 2 ^ suc n ≡ (m * 2 ^ n) * 2 = ap (λ (z : ℕ). m * z) (pow-suc 2 n) ∙ sym (mul_assoc m (2 ^ n) 2) in
    ap (λ (z : ℕ). crc_bits n (crc_bit z)) e ∙ ap (crc_bits n) (crc_bit-even (m * 2 ^ n)) ∙ crc_bits-shifted n m

split : (x : ℕ) → x ≡ bit_xor (x % 256) (x / 256 * 256)
split x =
    let low : 0 * 256 + x % 256 ≡ x % 256 = omega arith in
    let high : x / 256 * 256 + 0 ≡ x / 256 * 256 = omega arith in
    let block : bit_xor (0 * 256 + x % 256) (x / 256 * 256 + 0) ≡ bit_xor 0 (x / 256) * 256 + bit_xor (x % 256) 0 =
    xor_block 8 0 (x / 256) (x % 256) 0 (omega arith) (omega arith) in
    let sum : x ≡ x / 256 * 256 + x % 256 = omega arith in
    sum ∙ sym (ap (λ (z : ℕ). x / 256 * 256 + z) (xor_zero_r (x % 256))) ∙ sym block
    ∙ ap (λ (z : ℕ). bit_xor z (x / 256 * 256 + 0)) low ∙ ap (bit_xor (x % 256)) high

-- a byte acts on the low byte of the state alone
pub crc_bits-byte : (s b : ℕ) → crc_bits 8 (bit_xor s b) ≡ bit_xor (crc_bits 8 (bit_xor (s % 256) b)) (s / 256)
crc_bits-byte s b =
    let parts : bit_xor s b ≡ bit_xor (bit_xor (s % 256) b) (s / 256 * 256) =
    ap (λ (z : ℕ). bit_xor z b) (split s) ∙ turned (s % 256) (s / 256 * 256) b in
    ap (crc_bits 8) parts ∙ crc_bits-xor 8 (bit_xor (s % 256) b) (s / 256 * 256)
    ∙ ap (bit_xor (crc_bits 8 (bit_xor (s % 256) b))) (crc_bits-shifted 8 (s / 256))
