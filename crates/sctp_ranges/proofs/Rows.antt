-- A row whose ranges have a gap among them.
use Rattle.std.proofs.Common.{◌≡◌, ℕ, ◌+◌, ◌-◌, ◌≤◌, ◌<◌, List, [], ◌∷◌, ◌++◌, length, take, drop, insert, ◌∙◌, ap, ap₂, sym, arith}
use Rattle.std.specs.List.{copy_within, slice_set}
use Rattle.std.proofs.lemmas.List.{take-append-drop, take-take, take-append-le, drop-drop, length-take-le, length-drop, length-append, set-append_left, set-append_right, take-set-le, drop-set-lt, append_assoc, append-nil, drop_all, take_at, drop_at, take_more_set}
use Rattle.std.proofs.Math.Seq.{take-set-lt, take-add, drop-append-add, drop-append_seam}
use Rattle.std.proofs.lemmas.List.Edits.{take-paste, drop-paste}
use Rattle.sctp_ranges.specs.Stored.{closed}

-- a part of a list from one place up to another, and then the rest
pub in_two : {X : Type 0} (xs : List X) (from to : ℕ) → from ≤ to → take (to - from) (drop from xs) ++ drop to xs ≡ drop from xs
in_two xs from to le =
    let on : from + (to - from) ≡ to = omega (arith, le) in
    ap (λ k. take (to - from) (drop from xs) ++ drop k xs) (sym on)
    ∙ ap (λ ys. take (to - from) (drop from xs) ++ ys) (sym (drop-drop (to - from) from xs))
    ∙ take-append-drop (to - from) (drop from xs)

-- the first elements, as two parts
pub first_two : {X : Type 0} (xs : List X) (from to : ℕ) → from ≤ to → take from xs ++ take (to - from) (drop from xs) ≡ take to xs
first_two xs from to le = sym (take-add from (to - from) xs) ∙ ap (λ k. take k xs) (omega (arith, le))

module _ {X : Type 0} (f g : ℕ) (xs : List X) where
  pub length_closed : f + g ≤ length xs → length (closed f g xs) ≡ length xs - g
  length_closed l =
      length-append (take f xs) (drop (f + g) xs)
      ∙ omega (arith, l, length-take-le f xs (omega (arith, l)), length-drop (f + g) xs)

  -- an element in front of the gap, or behind it, is written
  pub set_in_front : (i : ℕ) (y : X) → i < f → f + g ≤ length xs
      → closed f g (slice_set xs i y) ≡ slice_set (closed f g xs) i y
  set_in_front i y lt l =
      let long = length-take-le f xs (omega (arith, l)) in
      ap₂ (λ a b. a ++ b) (take-set-lt f xs i y lt) (drop-set-lt (f + g) xs i y (omega (arith, lt)))
      ∙ sym (set-append_left (take f xs) (drop (f + g) xs) i y (omega (arith, long, lt)))

  pub set_behind : (i : ℕ) (y : X) → f ≤ i → i + g < length xs
      → closed f g (slice_set xs (i + g) y) ≡ slice_set (closed f g xs) i y
  set_behind i y le lt =
      let long = length-take-le f xs (omega (arith, le, lt)) in
      let short = length-take-le (f + g) xs (omega (arith, le, lt)) in
      let on : i + g - (f + g) ≡ i - f = omega (arith, le) in
      let whole = ap (λ ys. slice_set ys (i + g) y) (sym (take-append-drop (f + g) xs))
      ∙ set-append_right (take (f + g) xs) (drop (f + g) xs) (f + g) (i + g) y short (omega (arith, le)) in
      let back : drop (f + g) (slice_set xs (i + g) y) ≡ slice_set (drop (f + g) xs) (i - f) y =
      ap (drop (f + g)) whole
      ∙ ap (λ k. drop k (take (f + g) xs ++ slice_set (drop (f + g) xs) (i + g - (f + g)) y)) (sym short)
      ∙ drop-append_seam (take (f + g) xs) (slice_set (drop (f + g) xs) (i + g - (f + g)) y)
      ∙ ap (λ k. slice_set (drop (f + g) xs) k y) on in
      ap₂ (λ a b. a ++ b) (take-set-le f xs (i + g) y (omega (arith, le))) back
      ∙ sym (set-append_right (take f xs) (drop (f + g) xs) f i y long le)

  -- the gap moves down, or up
  pub moved_down : (to : ℕ) → to < f → f + g ≤ length xs → closed to g (copy_within xs to f (to + g)) ≡ closed f g xs
  moved_down to lt l =
      let ys = copy_within xs to f (to + g) in
      let count : to + g + (f - to) ≡ f + g = omega (arith, lt) in
      let rest = length-drop to xs in
      let short = length-take-le (to + g) xs (omega (arith, lt, l)) in
      let all : take (f + g) ys ≡ take (to + g) xs ++ take (f - to) (drop to xs) =
      ap (λ k. take k ys) (sym count)
      ∙ take-paste xs (to + g) (drop to xs) (f - to) (omega (arith, lt, l)) (omega (arith, rest, l)) in
      let past : drop (f + g) ys ≡ drop (f + g) xs =
      ap (λ k. drop k ys) (sym count)
      ∙ drop-paste xs (to + g) (drop to xs) (f - to) (omega (arith, lt, l)) (omega (arith, rest, l))
      ∙ ap (λ k. drop k xs) count in
      let whole : ys ≡ (take (to + g) xs ++ take (f - to) (drop to xs)) ++ drop (f + g) xs =
      sym (take-append-drop (f + g) ys) ∙ ap₂ (λ a b. a ++ b) all past in
      let parts : ys ≡ take (to + g) xs ++ (take (f - to) (drop to xs) ++ drop (f + g) xs) =
      whole ∙ append_assoc (take (to + g) xs) (take (f - to) (drop to xs)) (drop (f + g) xs) in
      let front : take to ys ≡ take to xs =
      ap (take to) parts
      ∙ take-append-le to (take (to + g) xs) (take (f - to) (drop to xs) ++ drop (f + g) xs) (omega (arith, short))
      ∙ take-take to (to + g) xs (omega arith) in
      let back : drop (to + g) ys ≡ take (f - to) (drop to xs) ++ drop (f + g) xs =
      ap (drop (to + g)) parts
      ∙ ap (λ k. drop k (take (to + g) xs ++ (take (f - to) (drop to xs) ++ drop (f + g) xs))) (sym short)
      ∙ drop-append_seam (take (to + g) xs) (take (f - to) (drop to xs) ++ drop (f + g) xs) in
      ap₂ (λ a b. a ++ b) front back
      ∙ sym (append_assoc (take to xs) (take (f - to) (drop to xs)) (drop (f + g) xs))
      ∙ ap (λ a. a ++ drop (f + g) xs) (first_two xs to f (omega (arith, lt)))

  pub moved_up : (to : ℕ) → f ≤ to → to + g ≤ length xs
      → closed to g (copy_within xs (f + g) (to + g) f) ≡ closed f g xs
  moved_up to le l =
      let s = drop (f + g) xs in
      let n = to + g - (f + g) in
      let ys = copy_within xs (f + g) (to + g) f in
      let count : f + n ≡ to = omega (arith, le) in
      let rest = length-drop (f + g) xs in
      let front : take to ys ≡ take f xs ++ take n s =
      ap (λ k. take k ys) (sym count)
      ∙ take-paste xs f s n (omega (arith, le, l)) (omega (arith, rest, l)) in
      let past : drop to ys ≡ drop to xs =
      ap (λ k. drop k ys) (sym count)
      ∙ drop-paste xs f s n (omega (arith, le, l)) (omega (arith, rest, l))
      ∙ ap (λ k. drop k xs) count in
      let back : drop (to + g) ys ≡ drop (to + g) xs =
      sym (drop-drop g to ys) ∙ ap (drop g) past ∙ drop-drop g to xs in
      ap₂ (λ a b. a ++ b) front back
      ∙ append_assoc (take f xs) (take n s) (drop (to + g) xs)
      ∙ ap (λ a. take f xs ++ a) (in_two xs (f + g) (to + g) (omega (arith, le)))

  -- an element comes to the front of the gap
  pub inserted : (y : X) → 0 < g → f + g ≤ length xs
      → closed (f + 1) (g - 1) (slice_set xs f y) ≡ insert (closed f g xs) f y
  inserted y some l =
      let long = length-take-le f xs (omega (arith, l)) in
      let on : f + 1 + (g - 1) ≡ f + g = omega (arith, some) in
      let ys = slice_set xs f y in
      let front : take (f + 1) ys ≡ take f xs ++ y ∷ [] = take_more_set xs f y (omega (arith, some, l)) in
      let back : drop (f + 1 + (g - 1)) ys ≡ drop (f + g) xs =
      ap (λ k. drop k ys) on ∙ drop-set-lt (f + g) xs f y (omega (arith, some)) in
      ap₂ (λ a b. a ++ b) front back
      ∙ append_assoc (take f xs) (y ∷ []) (drop (f + g) xs)
      ∙ ap₂ (λ a b. a ++ y ∷ b)
      (sym (take_at (take f xs) (drop (f + g) xs) f long))
      (sym (drop_at (take f xs) (drop (f + g) xs) f long))

  -- the elements on both sides of the gap leave
  pub removed : (start end : ℕ) → start ≤ f → f ≤ end → end + g ≤ length xs
      → closed start (g + (end - start)) xs ≡ take start (closed f g xs) ++ drop end (closed f g xs)
  removed start end a b l =
      let long = length-take-le f xs (omega (arith, b, l)) in
      let on : start + (g + (end - start)) ≡ f + g + (end - f) = omega (arith, a, b) in
      let at : end ≡ length (take f xs) + (end - f) = omega (arith, b, long) in
      ap₂ (λ a b. a ++ b)
      (sym (take-append-le start (take f xs) (drop (f + g) xs) (omega (arith, a, long)) ∙ take-take start f xs a))
      (ap (λ k. drop k xs) on ∙ sym (drop-drop (end - f) (f + g) xs)
      ∙ sym (drop-append-add (take f xs) (drop (f + g) xs) (end - f)) ∙ ap (λ k. drop k (closed f g xs)) (sym at))

-- places behind all elements are a gap
pub opened : {X : Type 0} (f : ℕ) (xs ys : List X) → take (length xs) ys ≡ xs
    → closed (length xs) (length ys - length xs) ys ≡ closed f 0 xs
opened f xs ys e =
    let same : f + 0 ≡ f = omega arith in
    ap₂ (λ a b. a ++ b) e (drop_all _ ys (omega arith)) ∙ append-nil xs ∙ sym (take-append-drop f xs)
    ∙ ap (λ k. take f xs ++ drop k xs) (sym same)
