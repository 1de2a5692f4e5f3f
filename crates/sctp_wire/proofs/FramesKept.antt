-- What is read is in range, and no longer when it is spelled than it was: frames, entries and lists of frames.
use Rattle.std.proofs.Common.{◌≡◌, ℕ, zero, suc, ◌+◌, ◌-◌, ◌^◌, ◌<◌, ◌≤◌, Bool, true, false, cond, ltb}
use Rattle.std.proofs.Common.{List, [], ◌∷◌, ◌++◌, length, get_or, take, drop, Result, Ok, Err, refl, ap, subst}
use Rattle.std.proofs.Common.{◌∙◌, arith, inl, inr}
use Rattle.std.specs.List.{AllByRecursion}
use Rattle.std.proofs.lemmas.Bool.{cases_lt}
use Rattle.std.proofs.lemmas.List.{length-append, length-take, length-drop, get_or-drop, get_or-take, get_or_past}
use Rattle.sctp_wire_types.specs.declared.error.Fault.{Fault}
use Rattle.sctp_wire.specs.declared.frame.Frame.{Frame}
use Rattle.sctp_wire.specs.Results.{◌>>=◌}
use Rattle.sctp_wire.specs.Numbers.{u16_at, u32_at}
use Rattle.sctp_wire.specs.Frames.{pad_len, frame_at, items_within, items_at, entries_at, zeros}
use Rattle.sctp_wire.specs.Frames.{joined}
use Rattle.sctp_wire.proofs.FrameLoop.{frame_found, frame_read, ok_is}
use Rattle.sctp_wire.proofs.FramesAgain.{length-zeros}

abbrev pub AreBytes : List ℕ → Type 0
AreBytes bytes = (i : ℕ) → get_or bytes i 0 < 256

pub AreBytes-drop : (n : ℕ) (bytes : List ℕ) → AreBytes bytes → AreBytes (drop n bytes)
AreBytes-drop n bytes h i = rw get_or-drop (h (n + i))

pub AreBytes-take : (n : ℕ) (bytes : List ℕ) → AreBytes bytes → AreBytes (take n bytes)
AreBytes-take n bytes h i =
    elim (cases_lt i n) [
      | inl lt ↦ rw (get_or-take n bytes i 0 lt) (h i)
      | inr le ↦ rw (get_or_past (take n bytes) i 0 (omega (arith, length-take n bytes))) (omega arith)
    ]

pub u16_below : (bytes : List ℕ) (at : ℕ) → AreBytes bytes → u16_at bytes at < 2 ^ 16
u16_below bytes at h =
    let part : AreBytes (take 2 (drop at bytes)) = AreBytes-take 2 (drop at bytes) (AreBytes-drop at bytes h) in
    omega (arith, part 0, part 1)

pub u32_below : (bytes : List ℕ) (at : ℕ) → AreBytes bytes → u32_at bytes at < 2 ^ 32
u32_below bytes at h =
    let part : AreBytes (take 4 (drop at bytes)) = AreBytes-take 4 (drop at bytes) (AreBytes-drop at bytes h) in
    omega (arith, part 0, part 1, part 2, part 3)

-- the value of a step that did not fail
pub bind_ok : {A B : Type 0} (r : Result A Fault) (f : A → Result B Fault) (y : B) → (r >>= f) ≡ Ok y
    → (x : A) × (r ≡ Ok x) × (f x ≡ Ok y)
bind_ok (Ok x) f y e = (x, refl, e)
bind_ok (Err d) f y e = absurd cc

-- which way a test went
pub choose : {A Z : Type 0} (b : Bool) (x y z : A) → cond b x y ≡ z → (b ≡ true → x ≡ z → Z) → (b ≡ false → y ≡ z → Z)
    → Z
choose true x y z e f g = f refl e
choose false x y z e f g = g refl e

pub record FrameKept (bytes : List ℕ) (f : Frame) (rest : List ℕ) : Type 0 where
  pub head : f.head < 2 ^ 16
  pub short : length f.value < 65532
  pub value : AreBytes f.value
  pub others : AreBytes rest
  pub within : 4 + length f.value ≤ length bytes
  pub after : 0 < length rest → 4 + length f.value + pad_len (length f.value) + length rest ≤ length bytes

pad_same : (n : ℕ) → 4 ≤ n → pad_len n ≡ pad_len (n - 4)
pad_same n le = omega arith

pub frame_kept : (bytes : List ℕ) (f : Frame) (rest : List ℕ) → AreBytes bytes → frame_at bytes ≡ Ok (f, rest)
    → FrameKept bytes f rest
frame_kept bytes f rest h e =
    let read = frame_read bytes f rest e in
    let least : 4 ≤ u16_at bytes 2 = read.least in
    let room : u16_at bytes 2 ≤ length bytes = read.room in
    let below : u16_at bytes 2 < 2 ^ 16 = u16_below bytes 2 h in
    let len : length (take (u16_at bytes 2 - 4) (drop 4 bytes)) ≡ u16_at bytes 2 - 4 =
    omega (arith, length-take (u16_at bytes 2 - 4) (drop 4 bytes), length-drop 4 bytes) in
    let pad : pad_len (u16_at bytes 2) ≡ pad_len (u16_at bytes 2 - 4) = pad_same (u16_at bytes 2) least in
    let left : length (drop (u16_at bytes 2 + pad_len (u16_at bytes 2)) bytes)
    ≡ length bytes - (u16_at bytes 2 + pad_len (u16_at bytes 2)) =
    length-drop (u16_at bytes 2 + pad_len (u16_at bytes 2)) bytes in
    let kept : FrameKept bytes (frame_found bytes).0 (frame_found bytes).1 = record {
      head = u16_below bytes 0 h;
      short = omega arith;
      value = AreBytes-take (u16_at bytes 2 - 4) (drop 4 bytes) (AreBytes-drop 4 bytes h);
      others = AreBytes-drop (u16_at bytes 2 + pad_len (u16_at bytes 2)) bytes h;
      within = omega arith;
      after = λ (more : 0 < length (drop (u16_at bytes 2 + pad_len (u16_at bytes 2)) bytes)). rw len (omega arith);
    } in
    subst (λ (p : Frame × List ℕ). FrameKept bytes p.0 p.1) read.found kept

-- ---- entries

pub entries_kept : {A : Type 0} (P : A → Type 0) (entry_at : List ℕ → A) (width : ℕ)
    → ((bytes : List ℕ) → AreBytes bytes → P (entry_at bytes))
    → (n : ℕ) (bytes : List ℕ) → AreBytes bytes → AllByRecursion P (entries_at entry_at width n bytes)
unfolding entries_at
entries_kept P entry_at width each zero bytes h = tt
entries_kept P entry_at width each (suc n) bytes h =
    (each bytes h, entries_kept P entry_at width each n (drop width bytes) (AreBytes-drop width bytes h))

pub entries_count : {A : Type 0} (entry_at : List ℕ → A) (width n : ℕ) (bytes : List ℕ)
    → length (entries_at entry_at width n bytes) ≡ n
unfolding entries_at
entries_count entry_at width zero bytes = refl
entries_count entry_at width (suc n) bytes = ap suc (entries_count entry_at width n (drop width bytes))

-- ---- lists of frames

pub joined_positive : {A : Type 0} (frame_of : A → Frame) (x : A) (xs : List A) → 4 ≤ length (joined frame_of (x ∷ xs))
unfolding joined
joined_positive frame_of x [] = omega arith
joined_positive frame_of x (y ∷ ys) = omega arith

pad_grows : (a b : ℕ) → a ≤ b → a + pad_len a ≤ b + pad_len b
pad_grows a b le = omega arith

pub joined_length : {A : Type 0} (frame_of : A → Frame) (x : A) (xs : List A) (bytes : List ℕ) (f : Frame)
    (rest : List ℕ) → FrameKept bytes f rest
    → length (frame_of x).value ≤ length f.value → length (joined frame_of xs) ≤ length rest
    → length (joined frame_of (x ∷ xs)) ≤ length bytes
unfolding joined
joined_length frame_of x [] bytes f rest k le others = let within = k.within in omega arith
joined_length frame_of x (y ∷ ys) bytes f rest k le others =
    let more : 4 ≤ length (joined frame_of (y ∷ ys)) = joined_positive frame_of y ys in
    let after : 4 + length f.value + pad_len (length f.value) + length rest ≤ length bytes = k.after (omega arith) in
    let grows : length (frame_of x).value + pad_len (length (frame_of x).value)
    ≤ length f.value + pad_len (length f.value) = pad_grows (length (frame_of x).value) (length f.value) le in
    let parts : length (((frame_of x).value ++ zeros (pad_len (length (frame_of x).value))) ++ joined frame_of (y ∷ ys))
    ≡ length (frame_of x).value + pad_len (length (frame_of x).value) + length (joined frame_of (y ∷ ys)) =
    length-append ((frame_of x).value ++ zeros (pad_len (length (frame_of x).value))) (joined frame_of (y ∷ ys))
    ∙ ap (λ (n : ℕ). n + length (joined frame_of (y ∷ ys)))
    (length-append (frame_of x).value (zeros (pad_len (length (frame_of x).value)))
    ∙ ap (λ (n : ℕ). length (frame_of x).value + n) (length-zeros (pad_len (length (frame_of x).value)))) in
    omega arith

abbrev pub Keeps : {A : Type 0} → (A → Type 0) → (Frame → Result A Fault) → (A → Frame) → Type 0
Keeps {A = A} P item_of frame_of =
    (f : Frame) (x : A) → item_of f ≡ Ok x → f.head < 2 ^ 16 → length f.value < 65532 → AreBytes f.value
    → P x × (length (frame_of x).value ≤ length f.value)

module _ {A : Type 0} (P : A → Type 0) (item_of : Frame → Result A Fault) (frame_of : A → Frame) (least : ℕ)
    (each : Keeps P item_of frame_of) where
  within_kept : (n : ℕ) (bytes : List ℕ) (xs : List A) → AreBytes bytes → items_within n item_of least bytes ≡ Ok xs
      → AllByRecursion P xs × (length (joined frame_of xs) ≤ length bytes)
  unfolding items_within joined
  within_kept zero bytes xs h e =
      subst (λ (ys : List A). AllByRecursion P ys × (length (joined frame_of ys) ≤ length bytes)) (ok_is [] xs e)
      (tt, omega arith)
  within_kept (suc n) bytes xs h e =
      choose (ltb (length bytes) least) _ _ _ e
      (λ t k. subst (λ (ys : List A). AllByRecursion P ys × (length (joined frame_of ys) ≤ length bytes))
      (ok_is [] xs k)
      (tt, omega arith))
      (λ t k.
      let a =
      bind_ok (frame_at bytes) (λ frame. item_of frame.0 >>= λ item. items_within n item_of least frame.1 >>= λ items.
      Ok (item ∷ items)) xs k in
      let b =
      bind_ok (item_of a.0.0) (λ item. items_within n item_of least a.0.1 >>= λ items. Ok (item ∷ items)) xs a.2 in
      let c = bind_ok (items_within n item_of least a.0.1) (λ items. Ok (b.0 ∷ items)) xs b.2 in
      let f = frame_kept bytes a.0.0 a.0.1 h a.1 in
      let here = each a.0.0 b.0 b.1 f.head f.short f.value in
      let others = within_kept n a.0.1 c.0 f.others c.1 in
      subst (λ (ys : List A). AllByRecursion P ys × (length (joined frame_of ys) ≤ length bytes))
      (ok_is (b.0 ∷ c.0) xs c.2)
      ((here.0, others.0), joined_length frame_of b.0 c.0 bytes a.0.0 a.0.1 f here.1 others.1))

  pub items_kept : (bytes : List ℕ) (xs : List A) → AreBytes bytes → items_at item_of least bytes ≡ Ok xs
      → AllByRecursion P xs × (length (joined frame_of xs) ≤ length bytes)
  unfolding items_at
  items_kept bytes xs h e =
      within_kept (suc (length bytes)) bytes xs h e
