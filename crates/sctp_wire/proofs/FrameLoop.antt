-- Lists of frames, one frame at a time.
use Rattle.std.proofs.Common.{◌≡◌, ℕ, zero, suc, ◌+◌, ◌-◌, ◌*◌, ◌<◌, ◌≤◌, Bool, true, false, cond, ltb, List}
use Rattle.std.proofs.Common.{[], ◌∷◌, ◌++◌, length, get_or, take, drop, Result, Ok, Err, refl, sym, ap, ◌∙◌}
use Rattle.std.proofs.Common.{append_assoc, arith, suc-mul}
use Rattle.std.proofs.lemmas.Bool.{ltb-false, lt-ltb, le-ltb}
use Rattle.std.proofs.lemmas.List.{append-nil, length-drop, drop_more}
use Rattle.sctp_wire_types.specs.declared.error.Fault.{Fault}
use Rattle.sctp_wire_types.specs.declared.error.Fault.TheVariants.{Short, Length}
use Rattle.sctp_wire.specs.declared.error.WireError.{WireError}
use Rattle.sctp_wire.specs.declared.error.WireError.TheVariants as wire
use Rattle.sctp_wire.specs.declared.frame.Frame.{Frame}
use Rattle.sctp_wire.specs.Results.{◌>>=◌, IsFaultOrNoMemory}
use Rattle.sctp_wire.specs.Numbers.{u16_at}
use Rattle.sctp_wire.specs.Frames.{padded_len, frame_at, items_within, items_at, entries_at, with_front}

-- a test that did not fail
pub guard_ok : {A : Type 0} (b : Bool) (d : Fault) (read : Result A Fault) (y : A) → cond b (Err d) read ≡ Ok y
    → (b ≡ false) × (read ≡ Ok y)
guard_ok true d read y e = absurd cc
guard_ok false d read y e = (refl, e)

abbrev done : {A : Type 0} → A → Result A Fault
done x = Ok x

pub ok_is : {A : Type 0} (x y : A) → done x ≡ done y → x ≡ y
ok_is x y e = cc

-- the frame that these bytes begin with, and what follows it
abbrev pub frame_found : List ℕ → Frame × List ℕ
frame_found bytes = (
  record { head = u16_at bytes 0; value = take (u16_at bytes 2 - 4) (drop 4 bytes) },
  drop (padded_len (u16_at bytes 2)) bytes,
)

-- what holds where a frame was read: its length was long enough, and not past the end
pub record FrameRead (bytes : List ℕ) (f : Frame) (rest : List ℕ) : Type 0 where
  pub least : 4 ≤ u16_at bytes 2
  pub room : u16_at bytes 2 ≤ length bytes
  pub found : frame_found bytes ≡ (f, rest)

pub frame_read : (bytes : List ℕ) (f : Frame) (rest : List ℕ) → frame_at bytes ≡ Ok (f, rest)
    → FrameRead bytes f rest
unfolding frame_at
frame_read bytes f rest e =
    let a =
    guard_ok (ltb (length bytes) 4) Short (cond (ltb (u16_at bytes 2) 4) (Err Length)
    (cond (ltb (length bytes) (u16_at bytes 2)) (Err Short) (Ok (frame_found bytes)))) (f, rest) e in
    let b =
    guard_ok (ltb (u16_at bytes 2) 4) Length
    (cond (ltb (length bytes) (u16_at bytes 2)) (Err Short) (Ok (frame_found bytes))) (f, rest) a.1 in
    let c = guard_ok (ltb (length bytes) (u16_at bytes 2)) Short (Ok (frame_found bytes)) (f, rest) b.1 in
    record {
      least = ltb-false _ _ b.0;
      room = ltb-false _ _ c.0;
      found = ok_is (frame_found bytes) (f, rest) c.1;
    }

-- what follows a frame is shorter
pub frame_shorter : (bytes : List ℕ) (f : Frame) (rest : List ℕ) → frame_at bytes ≡ Ok (f, rest)
    → length rest < length bytes
frame_shorter bytes f rest e =
    let r = frame_read bytes f rest e in
    let least : 4 ≤ u16_at bytes 2 = r.least in
    let room : u16_at bytes 2 ≤ length bytes = r.room in
    let rest-is : drop (padded_len (u16_at bytes 2)) bytes ≡ rest = ap (λ (p : Frame × List ℕ). p.1) r.found in
    rw (← rest-is, length-drop) (omega arith)

step_same : {A : Type 0} (f : Result (Frame × List ℕ) Fault) (item_of : Frame → Result A Fault)
    (g h : List ℕ → Result (List A) Fault)
    → ((p : Frame) (rest : List ℕ) → f ≡ Ok (p, rest) → g rest ≡ h rest)
    → (f >>= λ frame. item_of frame.0 >>= λ item. g frame.1 >>= λ items. Ok (item ∷ items))
    ≡ (f >>= λ frame. item_of frame.0 >>= λ item. h frame.1 >>= λ items. Ok (item ∷ items))
step_same (Ok x) item_of g h same = rw (same x.0 x.1 refl) refl
step_same (Err d) item_of g h same = refl

-- two bounds above the length give the same
enough : {A : Type 0} (n m : ℕ) (item_of : Frame → Result A Fault) (least : ℕ) (bytes : List ℕ) → length bytes < n
    → length bytes < m → items_within n item_of least bytes ≡ items_within m item_of least bytes
unfolding items_within
enough zero m item_of least bytes l k = absurd (omega arith)
enough (suc n) zero item_of least bytes l k = absurd (omega arith)
enough {A = A} (suc n) (suc m) item_of least bytes l k =
    let g : List ℕ → Result (List A) Fault = λ rest. items_within n item_of least rest in
    let h : List ℕ → Result (List A) Fault = λ rest. items_within m item_of least rest in
    let same =
    step_same (frame_at bytes) item_of g h (λ p rest e. enough n m item_of least rest
    (omega (arith, frame_shorter bytes p rest e)) (omega (arith, frame_shorter bytes p rest e))) in
    ap (λ (r : Result (List A) Fault). cond (ltb (length bytes) least) (Ok []) r) same

pub items_end : {A : Type 0} (item_of : Frame → Result A Fault) (least : ℕ) (bytes : List ℕ) → length bytes < least
    → items_at item_of least bytes ≡ Ok []
unfolding items_at items_within
items_end item_of least bytes lt = let t : ltb (length bytes) least ≡ true = lt-ltb _ _ lt in rw t refl

pub items_step : {A : Type 0} (item_of : Frame → Result A Fault) (least : ℕ) (bytes : List ℕ) (f : Frame)
    (rest : List ℕ) → least ≤ length bytes → frame_at bytes ≡ Ok (f, rest)
    → items_at item_of least bytes ≡ (item_of f >>= λ item. items_at item_of least rest >>= λ items. Ok (item ∷ items))
unfolding items_at items_within
items_step item_of least bytes f rest le e =
    let t : ltb (length bytes) least ≡ false = le-ltb _ _ le in
    let same : items_within (length bytes) item_of least rest ≡ items_within (suc (length rest)) item_of least rest =
    enough (length bytes) (suc (length rest)) item_of least rest (frame_shorter bytes f rest e) (omega arith) in
    rw (t, e, same) refl

pub items_fault : {A : Type 0} (item_of : Frame → Result A Fault) (least : ℕ) (bytes : List ℕ) (d : Fault)
    → least ≤ length bytes → frame_at bytes ≡ Err d → items_at item_of least bytes ≡ Err d
unfolding items_at items_within
items_fault item_of least bytes d le e =
    let t : ltb (length bytes) least ≡ false = le-ltb _ _ le in
    rw (t, e) refl

-- ---- the loop that collects the items

regroup : {A : Type 0} (front : List A) (x : A) (r : Result (List A) Fault)
    → with_front front (r >>= λ items. Ok (x ∷ items)) ≡ with_front (front ++ x ∷ []) r
regroup front x (Ok xs) = ap done (simp append_assoc)
regroup front x (Err d) = refl

module _ {A : Type 0} (item_of : Frame → Result A Fault) (least : ℕ) (front : List A) (bytes : List ℕ)
    (f : Frame) (rest : List ℕ) (x : A) (total : Result (List A) Fault) where
  pub goes_on : least ≤ length bytes → frame_at bytes ≡ Ok (f, rest) → item_of f ≡ Ok x
      → with_front front (items_at item_of least bytes) ≡ total
      → with_front (front ++ x ∷ []) (items_at item_of least rest) ≡ total
  goes_on le e i so_far =
      sym (regroup front x (items_at item_of least rest))
      ∙ sym (ap (with_front front) (items_step item_of least bytes f rest le e ∙ rw i refl)) ∙ so_far

pub frame_fails : {A : Type 0} (item_of : Frame → Result A Fault) (least : ℕ) (front : List A) (bytes : List ℕ)
    (e : WireError) (total : Result (List A) Fault)
    → least ≤ length bytes → IsFaultOrNoMemory e (frame_at bytes)
    → with_front front (items_at item_of least bytes) ≡ total
    → IsFaultOrNoMemory e total
frame_fails item_of least front bytes wire.NoMemory total le h so_far = tt
frame_fails item_of least front bytes (wire.Malformed d) total le h so_far =
    sym so_far ∙ ap (with_front front) (items_fault item_of least bytes d le h)

module _ {A : Type 0} (item_of : Frame → Result A Fault) (least : ℕ) (front : List A) (bytes : List ℕ)
    (f : Frame) (rest : List ℕ) where
  pub item_fails : (e : WireError) (total : Result (List A) Fault) → least ≤ length bytes
      → frame_at bytes ≡ Ok (f, rest)
      → IsFaultOrNoMemory e (item_of f) → with_front front (items_at item_of least bytes) ≡ total
      → IsFaultOrNoMemory e total
  item_fails wire.NoMemory total le i h so_far = tt
  item_fails (wire.Malformed d) total le i h so_far =
      let step : items_at item_of least bytes ≡ Err d = items_step item_of least bytes f rest le i ∙ rw h refl in
      sym so_far ∙ ap (with_front front) step

pub is_done : {A : Type 0} (item_of : Frame → Result A Fault) (least : ℕ) (front : List A) (bytes : List ℕ)
    (total : Result (List A) Fault)
    → length bytes < least → with_front front (items_at item_of least bytes) ≡ total → total ≡ Ok front
is_done item_of least front bytes total lt so_far =
    sym so_far ∙ ap (with_front front) (items_end item_of least bytes lt) ∙ ap done (append-nil front)

-- nothing stands in front
pub none_in_front : {A : Type 0} (read : Result (List A) Fault) → with_front [] read ≡ read
none_in_front (Ok xs) = refl
none_in_front (Err d) = refl

-- ---- entries of one width

pub entries_goes_on : {A : Type 0} (entry_at : List ℕ → A) (width count i : ℕ) (front : List A) (bytes : List ℕ)
    (total : List A)
    → i < count → front ++ entries_at entry_at width (count - i) bytes ≡ total
    → (front ++ entry_at bytes ∷ []) ++ entries_at entry_at width (count - (i + 1)) (drop width bytes) ≡ total
unfolding entries_at
entries_goes_on entry_at width count i front bytes total lt so_far =
    let k : count - i ≡ suc (count - (i + 1)) = omega arith in
    simp append_assoc (sym (rw k refl) ∙ so_far)

pub entries_done : {A : Type 0} (entry_at : List ℕ → A) (width count i : ℕ) (front : List A) (bytes : List ℕ)
    (total : List A)
    → count ≤ i → front ++ entries_at entry_at width (count - i) bytes ≡ total → front ≡ total
unfolding entries_at
entries_done entry_at width count i front bytes total le so_far =
    let k : count - i ≡ 0 = omega arith in
    let none : front ++ entries_at entry_at width (count - i) bytes ≡ front = rw k (append-nil front) in
    sym none ∙ so_far

-- ---- numbers at a place

pub two_at : (bytes : List ℕ) (at : ℕ) → at + 2 ≤ length bytes
    → get_or bytes at 0 ∷ get_or bytes (at + 1) 0 ∷ [] ≡ take 2 (drop at bytes)
two_at bytes at le =
    let first : drop at bytes ≡ get_or bytes at 0 ∷ drop (at + 1) bytes = drop_more bytes at 0 (omega arith) in
    let second : drop (at + 1) bytes ≡ get_or bytes (at + 1) 0 ∷ drop (at + 1 + 1) bytes =
    drop_more bytes (at + 1) 0 (omega arith) in
    rw (first, second) refl

pub four_at : (bytes : List ℕ) (at : ℕ) → at + 4 ≤ length bytes
    → get_or bytes at 0 ∷ get_or bytes (at + 1) 0 ∷ get_or bytes (at + 2) 0 ∷ get_or bytes (at + 3) 0 ∷ []
    ≡ take 4 (drop at bytes)
four_at bytes at le =
    let first : drop at bytes ≡ get_or bytes at 0 ∷ drop (at + 1) bytes = drop_more bytes at 0 (omega arith) in
    let second : drop (at + 1) bytes ≡ get_or bytes (at + 1) 0 ∷ drop (at + 2) bytes =
    drop_more bytes (at + 1) 0 (omega arith) ∙ ap (λ (n : ℕ). get_or bytes (at + 1) 0 ∷ drop n bytes) (omega arith) in
    let third : drop (at + 2) bytes ≡ get_or bytes (at + 2) 0 ∷ drop (at + 3) bytes =
    drop_more bytes (at + 2) 0 (omega arith) ∙ ap (λ (n : ℕ). get_or bytes (at + 2) 0 ∷ drop n bytes) (omega arith) in
    let fourth : drop (at + 3) bytes ≡ get_or bytes (at + 3) 0 ∷ drop (at + 3 + 1) bytes =
    drop_more bytes (at + 3) 0 (omega arith) in
    rw (first, second, third, fourth) refl

pub room_left : (width count i : ℕ) (bytes : List ℕ) → i < count → (count - i) * width ≤ length bytes
    → (count - (i + 1)) * width ≤ length (drop width bytes)
room_left width count i bytes lt room =
    let k : count - i ≡ suc (count - (i + 1)) = omega arith in
    let more : suc (count - (i + 1)) * width ≤ length bytes = rw k at room in
    let split : suc (count - (i + 1)) * width ≡ (count - (i + 1)) * width + width = suc-mul (count - (i + 1)) width in
    rw length-drop (omega arith)
