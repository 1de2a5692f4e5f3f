-- What is spelled is read again: frames, lists of frames and entries.
use Rattle.std.proofs.Common.{◌≡◌, ℕ, zero, suc, ◌+◌, ◌-◌, ◌^◌, ◌<◌, ◌≤◌, true, false, ltb}
use Rattle.std.proofs.Common.{List, [], ◌∷◌, ◌++◌, length, take, drop, Result, Ok, refl, sym, ap, ◌∙◌}
use Rattle.std.proofs.Common.{append_assoc, arith}
use Rattle.std.specs.List.{flat_map, AllByRecursion}
use Rattle.std.proofs.lemmas.Bool.{ltb-true, le-ltb}
use Rattle.std.proofs.lemmas.List.{append-nil, length-append, drop-drop, drop_at, drop_all, take_at}
use Rattle.std.proofs.lemmas.List.Concat.{flat_map-cons}
use Rattle.std.proofs.lemmas.Nat.{from_be_bytes-to_be_bytes_2}
use Rattle.sctp_wire_types.specs.declared.error.Fault.{Fault}
use Rattle.sctp_wire.specs.declared.frame.Frame.{Frame}
use Rattle.sctp_wire.specs.Numbers.{u16_at}
use Rattle.sctp_wire.specs.Frames.{pad_len, padded_len, frame_at, items_at, entries_at, zeros, bare, padded, frame_fits}
use Rattle.sctp_wire.specs.Frames.{joined}
use Rattle.sctp_wire.proofs.FrameLoop.{items_end, items_step}

pub length-zeros : (n : ℕ) → length (zeros n) ≡ n
length-zeros zero = refl
length-zeros (suc n) = ap suc (length-zeros n)

module _ (bytes : List ℕ) (head l : ℕ) (value rest : List ℕ) where
  -- a frame, from what stands at its places
  frame_made : 4 + l ≤ length bytes → u16_at bytes 0 ≡ head → u16_at bytes 2 ≡ 4 + l → take l (drop 4 bytes) ≡ value
      → drop (padded_len (4 + l)) bytes ≡ rest → frame_at bytes ≡ Ok (record { head = head; value = value }, rest)
  unfolding frame_at
  frame_made long e0 e2 v r =
      let t0 : ltb (length bytes) 4 ≡ false = le-ltb _ _ (omega arith) in
      let t1 : ltb (4 + l) 4 ≡ false = le-ltb _ _ (omega arith) in
      let t2 : ltb (length bytes) (4 + l) ≡ false = le-ltb _ _ long in
      let less : 4 + l - 4 ≡ l = omega arith in
      rw (t0, e2, t1, t2, less, e0, v, r) refl

pub frame_bare : (f : Frame) (tail : List ℕ) → frame_fits f ≡ true → f.head < 2 ^ 16
    → frame_at (bare f ++ tail) ≡ Ok (f, drop (pad_len (length f.value)) tail)
frame_bare f tail fits lt =
    let l : ℕ = length f.value in
    let short : length f.value < 65532 = ltb-true _ _ fits in
    let after : drop (padded_len (4 + length f.value)) (bare f ++ tail) ≡ drop (pad_len (length f.value)) tail =
    let steps : padded_len (4 + length f.value) ≡ 4 + (length f.value + pad_len (length f.value)) = omega arith in
    ap (λ (n : ℕ). drop n (bare f ++ tail)) steps
    ∙ sym (drop-drop (length f.value + pad_len (length f.value)) 4 (bare f ++ tail))
    ∙ sym (drop-drop (pad_len (length f.value)) (length f.value) (f.value ++ tail))
    ∙ ap (λ (xs : List ℕ). drop (pad_len (length f.value)) xs) (drop_at f.value tail (length f.value) refl) in
    frame_made (bare f ++ tail) f.head (length f.value) f.value (drop (pad_len (length f.value)) tail)
    (omega (arith, length-append f.value tail))
    (from_be_bytes-to_be_bytes_2 f.head lt) (from_be_bytes-to_be_bytes_2 (4 + length f.value) (omega arith))
    (take_at f.value tail (length f.value) refl) after

pub frame_padded : (f : Frame) (rest : List ℕ) → frame_fits f ≡ true → f.head < 2 ^ 16
    → frame_at (padded f ++ rest) ≡ Ok (f, rest)
frame_padded f rest fits lt =
    let p : ℕ = pad_len (length f.value) in
    ap frame_at (append_assoc (bare f) (zeros (pad_len (length f.value))) rest)
    ∙ frame_bare f (zeros (pad_len (length f.value)) ++ rest) fits lt
    ∙ rw (drop_at (zeros (pad_len (length f.value))) rest (pad_len (length f.value))
    (length-zeros (pad_len (length f.value)))) refl

pub frame_last : (f : Frame) → frame_fits f ≡ true → f.head < 2 ^ 16 → frame_at (bare f) ≡ Ok (f, [])
frame_last f fits lt =
    ap frame_at (sym (append-nil (bare f))) ∙ frame_bare f [] fits lt
    ∙ rw (drop_all {X = ℕ} (pad_len (length f.value)) [] (omega arith)) refl

-- an item whose frame is read as this item
pub record IsAgain {A : Type 0} (item_of : Frame → Result A Fault) (frame_of : A → Frame) (x : A) : Type 0 where
  pub fits : frame_fits (frame_of x) ≡ true
  pub head : (frame_of x).head < 2 ^ 16
  pub read : item_of (frame_of x) ≡ Ok x

pub items_again : {A : Type 0} (item_of : Frame → Result A Fault) (frame_of : A → Frame) (xs : List A)
    → AllByRecursion (IsAgain item_of frame_of) xs → items_at item_of 1 (flat_map (λ x. padded (frame_of x)) xs) ≡ Ok xs
items_again item_of frame_of [] all = items_end item_of 1 [] (omega arith)
items_again item_of frame_of (x ∷ xs) all =
    let f : Frame = frame_of x in
    let rest : List ℕ = flat_map (λ y. padded (frame_of y)) xs in
    ap (items_at item_of 1) (flat_map-cons (λ y. padded (frame_of y)) x xs)
    ∙ items_step item_of 1 (padded (frame_of x) ++ rest) (frame_of x) rest (omega arith)
    (frame_padded (frame_of x) rest all.0.fits all.0.head)
    ∙ rw (all.0.read, items_again item_of frame_of xs all.1) refl

pub joined_again : {A : Type 0} (item_of : Frame → Result A Fault) (frame_of : A → Frame) (xs : List A)
    → AllByRecursion (IsAgain item_of frame_of) xs → items_at item_of 4 (joined frame_of xs) ≡ Ok xs
unfolding joined
joined_again item_of frame_of [] all = items_end item_of 4 [] (omega arith)
joined_again item_of frame_of (x ∷ []) all =
    items_step item_of 4 (bare (frame_of x)) (frame_of x) [] (omega arith)
    (frame_last (frame_of x) all.0.fits all.0.head)
    ∙ rw (all.0.read, items_end item_of 4 [] (omega arith)) refl
joined_again item_of frame_of (x ∷ y ∷ xs) all =
    items_step item_of 4 (padded (frame_of x) ++ joined frame_of (y ∷ xs)) (frame_of x) (joined frame_of (y ∷ xs))
    (omega arith) (frame_padded (frame_of x) (joined frame_of (y ∷ xs)) all.0.fits all.0.head)
    ∙ rw (all.0.read, joined_again item_of frame_of (y ∷ xs) all.1) refl

pub entries_again : {A : Type 0} (P : A → Type 0) (entry_at : List ℕ → A) (entry_bytes : A → List ℕ) (width : ℕ)
    → ((x : A) (rest : List ℕ) → P x → entry_at (entry_bytes x ++ rest) ≡ x)
    → ((x : A) → length (entry_bytes x) ≡ width)
    → (xs : List A) (rest : List ℕ) → AllByRecursion P xs
    → entries_at entry_at width (length xs) (flat_map entry_bytes xs ++ rest) ≡ xs
unfolding entries_at
entries_again P entry_at entry_bytes width read len [] rest all = refl
entries_again P entry_at entry_bytes width read len (x ∷ xs) rest all =
    let tail : List ℕ = flat_map entry_bytes xs ++ rest in
    let bytes : flat_map entry_bytes (x ∷ xs) ++ rest ≡ entry_bytes x ++ (flat_map entry_bytes xs ++ rest) =
    ap (λ (r : List ℕ). r ++ rest) (flat_map-cons entry_bytes x xs)
    ∙ append_assoc (entry_bytes x) (flat_map entry_bytes xs) rest in
    rw (
      bytes,
      read x (flat_map entry_bytes xs ++ rest) all.0,
      drop_at (entry_bytes x) (flat_map entry_bytes xs ++ rest) width (len x),
      entries_again P entry_at entry_bytes width read len xs rest all.1,
    ) refl
