-- Lists that are written item by item.
use Rattle.std.proofs.Common.{◌≡◌, ℕ, suc, ◌+◌, ◌*◌, ◌<◌, ◌≤◌, Bool, true, false, ◌&&◌}
use Rattle.std.proofs.Common.{List, [], ◌∷◌, ◌++◌, length, get_or, take, drop, refl, sym, ap, ◌∙◌}
use Rattle.std.proofs.Common.{append_assoc, arith, mul-suc}
use Rattle.std.specs.List.{flat_map, list_all, AllByRecursion}
use Rattle.std.proofs.lemmas.List.{append-nil, at_drop_more, at_drop_all, take_more, take_all, flat_map_more}
use Rattle.std.proofs.lemmas.List.{length-append}
use Rattle.std.proofs.lemmas.Bool.{lt-ltb, le-ltb}
use Rattle.std.proofs.lemmas.List.Concat.{flat_map-cons}
use Rattle.std.specs.Int.{w16, to_be_bytes}
use Rattle.sctp_wire.specs.declared.frame.Frame.{Frame}
use Rattle.sctp_wire_types.specs.declared.chunk.ChunkSelectiveAck.{ChunkSelectiveAck}
use Rattle.sctp_wire.specs.Frames.{pad_len, zeros, framed, bare, padded, frame_fits, joined}
use Rattle.sctp_wire.specs.SelectiveAck.{block_bytes, tsn_bytes, selective_ack_value}

-- ---- whether all items fit, as far as the loop has come

-- the rest of a list from an item on that was read
from_item : {A : Type 0} {B : Type 0} (f : List A → B) (xs : List A) (i : ℕ) (x : A) → i < length xs → x ≡ get_or xs i x
    → f (drop i xs) ≡ f (x ∷ drop (i + 1) xs)
from_item f xs i x lt is = at_drop_more f xs i x lt ∙ ap (λ y. f (y ∷ drop (i + 1) xs)) (sym is)

pub all_more : {A : Type 0} (p : A → Bool) (xs : List A) (i : ℕ) (x : A) → i < length xs → x ≡ get_or xs i x
    → p x ≡ true → list_all p (drop i xs) ≡ list_all p xs → list_all p (drop (i + 1) xs) ≡ list_all p xs
all_more p xs i x lt is h so_far =
    let step : list_all p (drop i xs) ≡ (p x && list_all p (drop (i + 1) xs)) = from_item (list_all p) xs i x lt is in
    let rest : (p x && list_all p (drop (i + 1) xs)) ≡ list_all p (drop (i + 1) xs) = rw h refl in
    sym (step ∙ rest) ∙ so_far

pub all_done : {A : Type 0} (p : A → Bool) (xs : List A) (i : ℕ) → length xs ≤ i
    → list_all p (drop i xs) ≡ list_all p xs → list_all p xs ≡ true
all_done p xs i le so_far = sym so_far ∙ at_drop_all (list_all p) xs i le

-- ---- bytes, all items with their padding

module _ {A : Type 0} (f : A → List ℕ) (old out new : List ℕ) (xs : List A) (i : ℕ) (x : A) where
  pub flat_map_next : i < length xs → x ≡ get_or xs i x → new ≡ out ++ f x → out ≡ old ++ flat_map f (take i xs)
      → new ≡ old ++ flat_map f (take (i + 1) xs)
  flat_map_next lt is made so_far =
      made ∙ ap (λ (r : List ℕ). r ++ f x) so_far ∙ flat_map_more f old (take i xs) x
      ∙ ap (λ y. old ++ flat_map f (take i xs ++ y ∷ [])) is
      ∙ ap (λ ys. old ++ flat_map f ys) (sym (take_more xs i x lt))

-- ---- bytes, all items but the last with their padding

-- what is still to be written after a value whose padding is owed
unfoldable pub owed : {A : Type 0} → (A → Frame) → ℕ → List A → List ℕ
owed frame_of last [] = []
owed frame_of last (x ∷ xs) =
    zeros (pad_len last) ++ (bare (frame_of x) ++ owed frame_of (length (frame_of x).value) xs)

pub owed_joined : {A : Type 0} (frame_of : A → Frame) (last : ℕ) (x : A) (xs : List A)
    → owed frame_of last (x ∷ xs) ≡ zeros (pad_len last) ++ joined frame_of (x ∷ xs)
unfolding owed joined
owed_joined frame_of last x [] = ap (λ (r : List ℕ). zeros (pad_len last) ++ r) (append-nil (bare (frame_of x)))
owed_joined frame_of last x (y ∷ xs) =
    let rest = owed_joined frame_of (length (frame_of x).value) y xs in
    ap (λ (r : List ℕ). zeros (pad_len last) ++ (bare (frame_of x) ++ r)) rest
    ∙ ap (λ (r : List ℕ). zeros (pad_len last) ++ r)
    (sym (append_assoc (bare (frame_of x)) (zeros (pad_len (length (frame_of x).value))) (joined frame_of (y ∷ xs))))

pub owed_all : {A : Type 0} (frame_of : A → Frame) (xs : List A) → owed frame_of 0 xs ≡ joined frame_of xs
unfolding owed joined
owed_all frame_of [] = refl
owed_all frame_of (x ∷ xs) = owed_joined frame_of 0 x xs

module _ {A : Type 0} (frame_of : A → Frame) (last : ℕ) (out new : List ℕ) (xs : List A) (i : ℕ) (x : A) (n : ℕ)
    (total : List ℕ) where
  pub owed_next : i < length xs → x ≡ get_or xs i x → new ≡ (out ++ zeros (pad_len last)) ++ bare (frame_of x)
      → n ≡ length (frame_of x).value → out ++ owed frame_of last (drop i xs) ≡ total
      → new ++ owed frame_of n (drop (i + 1) xs) ≡ total
  unfolding owed
  owed_next lt is made len so_far =
      let step = from_item (owed frame_of last) xs i x lt is in
      let flat : ((out ++ zeros (pad_len last)) ++ bare (frame_of x))
      ++ owed frame_of (length (frame_of x).value) (drop (i + 1) xs)
      ≡ out
      ++ (zeros (pad_len last) ++ (bare (frame_of x) ++ owed frame_of (length (frame_of x).value) (drop (i + 1) xs))) =
      simp append_assoc in
      rw (made, len) (flat ∙ sym (ap (λ (r : List ℕ). out ++ r) step) ∙ so_far)

pub owed_end : {A : Type 0} (frame_of : A → Frame) (last : ℕ) (out : List ℕ) (xs : List A) (i : ℕ) (total : List ℕ)
    → length xs ≤ i → out ++ owed frame_of last (drop i xs) ≡ total → out ≡ total
unfolding owed
owed_end frame_of last out xs i total le so_far =
    sym (append-nil out) ∙ sym (ap (λ (r : List ℕ). out ++ r) (at_drop_all (owed frame_of last) xs i le)) ∙ so_far

-- ---- a frame whose value is written in place

module _ (old one two three : List ℕ) (h head l : ℕ) (value : List ℕ) where
  pub frame_written : h ≡ head → l ≡ length value → l < 65532
      → one ≡ old ++ to_be_bytes w16 h ++ to_be_bytes w16 (4 + l)
      → two ≡ one ++ value → three ≡ two ++ zeros (pad_len l)
      → (frame_fits (framed head value) ≡ true) × (three ≡ old ++ padded (framed head value))
  frame_written e len lt first second third =
      (rw (← len) (lt-ltb _ _ lt), rw (third, second, first, e, len) (simp append_assoc))

-- ---- a frame of which the head and the first part of the value are written at once

module _ (old one two three : List ℕ) (h l : ℕ) (value first rest : List ℕ) where
  pub parts_written : value ≡ first ++ rest → l ≡ length value → l < 65532
      → one ≡ old ++ (to_be_bytes w16 h ++ to_be_bytes w16 (4 + l) ++ first)
      → two ≡ one ++ rest → three ≡ two ++ zeros (pad_len l)
      → (frame_fits (framed h value) ≡ true) × (three ≡ old ++ padded (framed h value))
  parts_written parts len lt made more padding =
      (rw (← len) (lt-ltb _ _ lt), rw (padding, more, made, len, parts) (simp append_assoc))

-- ---- lengths of entries

pub flat_length : {A : Type 0} (f : A → List ℕ) (width : ℕ) → ((x : A) → length (f x) ≡ width) → (xs : List A)
    → length (flat_map f xs) ≡ width * length xs
flat_length f width each [] = omega arith
flat_length f width each (x ∷ xs) =
    let rest = flat_length f width each xs in
    let split : width * suc (length xs) ≡ width * length xs + width = mul-suc width (length xs) in
    rw (flat_map-cons, length-append, each x, rest) (omega arith)

pub sack_length : (c : ChunkSelectiveAck)
    → length (selective_ack_value c) ≡ 12 + 4 * length c.gap_ack_blocks + 4 * length c.duplicate_tsn
sack_length c =
    let blocks = flat_length block_bytes 4 (λ b. refl) c.gap_ack_blocks in
    let duplicates = flat_length tsn_bytes 4 (λ n. refl) c.duplicate_tsn in
    omega (
      arith,
      blocks,
      duplicates,
      length-append (flat_map block_bytes c.gap_ack_blocks) (flat_map tsn_bytes c.duplicate_tsn),
    )

pub sack_long : (c : ChunkSelectiveAck) → 65532 ≤ 12 + 4 * length c.gap_ack_blocks + 4 * length c.duplicate_tsn
    → frame_fits (framed 768 (selective_ack_value c)) ≡ false
sack_long c le = rw sack_length (le-ltb _ _ le)

-- ---- what holds of each item, as far as the loop has come

all_push : {A : Type 0} (P : A → Type 0) (xs : List A) (x : A) → AllByRecursion P xs → P x
    → AllByRecursion P (xs ++ x ∷ [])
all_push P [] x all here = (here, tt)
all_push P (y ∷ ys) x all here = (all.0, all_push P ys x all.1 here)

pub all_taken : {A : Type 0} (P : A → Type 0) (xs : List A) (i : ℕ) (x : A) → i < length xs → x ≡ get_or xs i x → P x
    → AllByRecursion P (take i xs) → AllByRecursion P (take (i + 1) xs)
all_taken P xs i x lt is here so_far =
    let more : take (i + 1) xs ≡ take i xs ++ x ∷ [] = take_more xs i x lt ∙ ap (λ y. take i xs ++ y ∷ []) (sym is) in
    rw more (all_push P (take i xs) x so_far here)

pub all_whole : {A : Type 0} (P : A → Type 0) (xs : List A) (i : ℕ) → length xs ≤ i → AllByRecursion P (take i xs)
    → AllByRecursion P xs
all_whole P xs i le so_far = let whole : take i xs ≡ xs = take_all i xs le in rw whole at so_far
