-- An OPEN that is written has the form of one, and is read as what it was written of.
use Rattle.std.proofs.Common.{◌≡◌, refl, sym, ap, ◌∙◌, ℕ, ◌+◌, ◌<◌, ◌≤◌, ◌^◌, List, ◌++◌, length, take, drop}
use Rattle.std.proofs.Common.{arith, subst, Bool, true, false, None, Ok, Err}
use Rattle.std.proofs.lemmas.Bool.Decides.{nat_tests}
use Rattle.std.proofs.lemmas.List.{length-append}
use Rattle.std.proofs.lemmas.Nat.{from_be_bytes-to_be_bytes_2}
use Rattle.std.proofs.Math.Seq.{take-append_seam, drop-append_seam, take-length}
use Rattle.dcep_channel.specs.declared.error.ChannelError.TheVariants as faults
use Rattle.dcep_channel.specs.Faults.{Spells}
use Rattle.dcep_channel.specs.Codec.{IsOpenMessage, IsOpenOf, label_in, label_length_in, open_bytes, open_refusal}
use Rattle.dcep_channel.specs.Codec.{priority_in, protocol_in, protocol_length_in}

label_length_back : (p : ℕ) (l q : List ℕ) → length l ≤ 65535 → label_length_in (open_bytes p l q) ≡ length l
label_length_back p l q h = from_be_bytes-to_be_bytes_2 (length l) (omega (arith, h))

protocol_length_back : (p : ℕ) (l q : List ℕ) → length q ≤ 65535 → protocol_length_in (open_bytes p l q) ≡ length q
protocol_length_back p l q h = from_be_bytes-to_be_bytes_2 (length q) (omega (arith, h))

whole_length : (p : ℕ) (l q : List ℕ) → length (open_bytes p l q) ≡ 12 + length l + length q
whole_length p l q = omega (arith, length-append l q)

pub is_open_message : (p : ℕ) (l q : List ℕ) → length l ≤ 65535 → length q ≤ 65535
    → IsOpenMessage (open_bytes p l q)
is_open_message p l q label protocol = (
  omega (arith, whole_length p l q),
  refl,
  refl,
  omega (arith, whole_length p l q, label_length_back p l q label, protocol_length_back p l q protocol),
)

pub priority_back : (p : ℕ) (l q : List ℕ) → p < 2 ^ 16 → priority_in (open_bytes p l q) ≡ p
priority_back p l q h = from_be_bytes-to_be_bytes_2 p h

pub label_back : (p : ℕ) (l q : List ℕ) → length l ≤ 65535 → label_in (open_bytes p l q) ≡ l
label_back p l q h =
    ap (λ (n : ℕ). take n (l ++ q)) (label_length_back p l q h) ∙ take-append_seam l q

pub protocol_back : (p : ℕ) (l q : List ℕ) → length l ≤ 65535 → length q ≤ 65535
    → protocol_in (open_bytes p l q) ≡ q
protocol_back p l q label protocol =
    ap (λ (n : ℕ). take n (drop (label_length_in (open_bytes p l q)) (l ++ q))) (protocol_length_back p l q protocol)
    ∙ ap (λ (n : ℕ). take (length q) (drop n (l ++ q))) (label_length_back p l q label)
    ∙ ap (λ (xs : List ℕ). take (length q) xs) (drop-append_seam l q) ∙ take-length q

-- an OPEN is read
pub is_read : (bytes : List ℕ) → IsOpenMessage bytes → open_refusal bytes ≡ None
is_read bytes h = grind (arith, nat_tests)

pub is_open_of : (p : ℕ) (l q : List ℕ) → p < 2 ^ 16 → length l ≤ 65535 → length q ≤ 65535
    → IsOpenOf p l q (open_bytes p l q)
is_open_of p l q priority label protocol = (
  is_read (open_bytes p l q) (is_open_message p l q label protocol),
  priority_back p l q priority,
  label_back p l q label,
  protocol_back p l q label protocol,
)

-- how an OPEN is made, by whether label or protocol is too long

pub spells_nothing : (long : Bool) (bytes : List ℕ) → long ≡ true → Spells long bytes (Err faults.ErrLabelTooLong)
spells_nothing long bytes h =
    subst (λ (b : Bool). Spells b bytes (Err faults.ErrLabelTooLong)) (sym h) refl

pub spells_all : (long : Bool) (bytes made : List ℕ) → long ≡ false → made ≡ bytes → Spells long bytes (Ok made)
spells_all long bytes made h same = subst (λ (b : Bool). Spells b bytes (Ok made)) (sym h) same

pub lacks_memory : (long : Bool) (bytes : List ℕ) → long ≡ false → Spells long bytes (Err (faults.Beneath 4))
lacks_memory long bytes h = subst (λ (b : Bool). Spells b bytes (Err (faults.Beneath 4))) (sym h) refl
