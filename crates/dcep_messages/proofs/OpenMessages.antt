-- An OPEN that is written has the form of one, and is read as what it was written of.
use Rattle.std.proofs.Common.{◌≡◌, refl, sym, ap, ◌∙◌, ℕ, ◌+◌, ◌%◌, ◌<◌, ◌≤◌, ◌^◌, List, ◌++◌, length, take, drop}
use Rattle.std.proofs.Common.{arith, subst, Bool, true, false, None, Ok, Err}
use Rattle.std.proofs.lemmas.Bool.Decides.{nat_tests}
use Rattle.std.proofs.lemmas.List.{length-append}
use Rattle.std.proofs.lemmas.Nat.{from_be_bytes-to_be_bytes_2, from_be_bytes-to_be_bytes_4}
use Rattle.std.proofs.Math.Seq.{take-append_seam, drop-append_seam, take-length}
use Rattle.dcep_messages.specs.declared.error.OpenError.TheVariants as faults
use Rattle.dcep_messages.specs.declared.persistence.Persistence.{Persistence}
use Rattle.dcep_messages.specs.declared.persistence.Persistence.TheVariants as persistences
use Rattle.dcep_messages.specs.Codec.{IsOpenMessage, IsOpenOf, Spells, channel_type, label_in, label_length_in}
use Rattle.dcep_messages.specs.Codec.{open_bytes, open_refusal, ordered_in, parameter_of, persistence_in, priority_in}
use Rattle.dcep_messages.specs.Codec.{protocol_in, protocol_length_in}

label_length_back : (o : Bool) (k : Persistence) (p : ℕ) (l q : List ℕ) → length l ≤ 65535
    → label_length_in (open_bytes o k p l q) ≡ length l
label_length_back o k p l q h = from_be_bytes-to_be_bytes_2 (length l) (omega (arith, h))

protocol_length_back : (o : Bool) (k : Persistence) (p : ℕ) (l q : List ℕ) → length q ≤ 65535
    → protocol_length_in (open_bytes o k p l q) ≡ length q
protocol_length_back o k p l q h = from_be_bytes-to_be_bytes_2 (length q) (omega (arith, h))

whole_length : (o : Bool) (k : Persistence) (p : ℕ) (l q : List ℕ)
    → length (open_bytes o k p l q) ≡ 12 + length l + length q
whole_length o k p l q = omega (arith, length-append l q)

-- the channel type is a known one
is_known : (o : Bool) (k : Persistence) → channel_type o k % 128 < 3
is_known true persistences.Reliable = omega arith
is_known true (persistences.Retransmits n) = omega arith
is_known true (persistences.LifeTime ms) = omega arith
is_known false persistences.Reliable = omega arith
is_known false (persistences.Retransmits n) = omega arith
is_known false (persistences.LifeTime ms) = omega arith

pub is_open_message : (o : Bool) (k : Persistence) (p : ℕ) (l q : List ℕ) → length l ≤ 65535 → length q ≤ 65535
    → IsOpenMessage (open_bytes o k p l q)
is_open_message o k p l q label protocol = (
  omega (arith, whole_length o k p l q),
  refl,
  is_known o k,
  omega (arith, whole_length o k p l q, label_length_back o k p l q label, protocol_length_back o k p l q protocol),
)

ordered_back : (o : Bool) (k : Persistence) (p : ℕ) (l q : List ℕ) → ordered_in (open_bytes o k p l q) ≡ o
ordered_back true persistences.Reliable p l q = refl
ordered_back true (persistences.Retransmits n) p l q = refl
ordered_back true (persistences.LifeTime ms) p l q = refl
ordered_back false persistences.Reliable p l q = refl
ordered_back false (persistences.Retransmits n) p l q = refl
ordered_back false (persistences.LifeTime ms) p l q = refl

persistence_back : (o : Bool) (k : Persistence) (p : ℕ) (l q : List ℕ) → parameter_of k < 2 ^ 32
    → persistence_in (open_bytes o k p l q) ≡ k
persistence_back true persistences.Reliable p l q h = refl
persistence_back true (persistences.Retransmits n) p l q h =
    ap (λ (x : ℕ). persistences.Retransmits x) (from_be_bytes-to_be_bytes_4 n h)
persistence_back true (persistences.LifeTime ms) p l q h =
    ap (λ (x : ℕ). persistences.LifeTime x) (from_be_bytes-to_be_bytes_4 ms h)
persistence_back false persistences.Reliable p l q h = refl
persistence_back false (persistences.Retransmits n) p l q h =
    ap (λ (x : ℕ). persistences.Retransmits x) (from_be_bytes-to_be_bytes_4 n h)
persistence_back false (persistences.LifeTime ms) p l q h =
    ap (λ (x : ℕ). persistences.LifeTime x) (from_be_bytes-to_be_bytes_4 ms h)

priority_back : (o : Bool) (k : Persistence) (p : ℕ) (l q : List ℕ) → p < 2 ^ 16
    → priority_in (open_bytes o k p l q) ≡ p
priority_back o k p l q h = from_be_bytes-to_be_bytes_2 p h

label_back : (o : Bool) (k : Persistence) (p : ℕ) (l q : List ℕ) → length l ≤ 65535
    → label_in (open_bytes o k p l q) ≡ l
label_back o k p l q h =
    ap (λ (n : ℕ). take n (l ++ q)) (label_length_back o k p l q h) ∙ take-append_seam l q

protocol_back : (o : Bool) (k : Persistence) (p : ℕ) (l q : List ℕ) → length l ≤ 65535 → length q ≤ 65535
    → protocol_in (open_bytes o k p l q) ≡ q
protocol_back o k p l q label protocol =
    ap (λ (n : ℕ). take n (drop (label_length_in (open_bytes o k p l q)) (l ++ q)))
    (protocol_length_back o k p l q protocol)
    ∙ ap (λ (n : ℕ). take (length q) (drop n (l ++ q))) (label_length_back o k p l q label)
    ∙ ap (λ (xs : List ℕ). take (length q) xs) (drop-append_seam l q) ∙ take-length q

-- an OPEN is read
is_read : (bytes : List ℕ) → IsOpenMessage bytes → open_refusal bytes ≡ None
is_read bytes h = grind (arith, nat_tests)

pub is_open_of : (o : Bool) (k : Persistence) (p : ℕ) (l q : List ℕ) → parameter_of k < 2 ^ 32 → p < 2 ^ 16
    → length l ≤ 65535 → length q ≤ 65535 → IsOpenOf o k p l q (open_bytes o k p l q)
is_open_of o k p l q parameter priority label protocol = (
  is_read (open_bytes o k p l q) (is_open_message o k p l q label protocol),
  ordered_back o k p l q,
  persistence_back o k p l q parameter,
  priority_back o k p l q priority,
  label_back o k p l q label,
  protocol_back o k p l q label protocol,
)

-- how an OPEN is made, by whether label or protocol is too long

pub spells_nothing : (long : Bool) (bytes : List ℕ) → long ≡ true → Spells long bytes (Err faults.LabelTooLong)
spells_nothing long bytes h =
    subst (λ (b : Bool). Spells b bytes (Err faults.LabelTooLong)) (sym h) refl

pub spells_all : (long : Bool) (bytes made : List ℕ) → long ≡ false → made ≡ bytes → Spells long bytes (Ok made)
spells_all long bytes made h same = subst (λ (b : Bool). Spells b bytes (Ok made)) (sym h) same

pub lacks_memory : (long : Bool) (bytes : List ℕ) → long ≡ false → Spells long bytes (Err faults.NoMemory)
lacks_memory long bytes h = subst (λ (b : Bool). Spells b bytes (Err faults.NoMemory)) (sym h) refl
