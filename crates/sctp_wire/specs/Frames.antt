-- Chunks, parameters and error causes as frames: a head, a length, a value and padding (RFC 4960 sections 3.2 and
-- 3.2.1).
use Rattle.std.specs.Prelude.{◌≡◌, ℕ, zero, suc, ◌+◌, ◌-◌, ◌%◌, if◌then◌else◌, nat_lt, Bool, true, false, List, [], ◌∷◌}
use Rattle.std.specs.Prelude.{◌++◌, length, take, drop, Result, Ok, Err}
use Rattle.std.specs.Int.{w16, to_be_bytes}
use Rattle.sctp_wire_types.specs.declared.error.Fault.{Fault}
use Rattle.sctp_wire_types.specs.declared.error.Fault.TheVariants.{Short, Length, Long}
use Rattle.sctp_wire.specs.declared.error.WireError.{WireError}
use Rattle.sctp_wire.specs.declared.error.WireError.TheVariants as wire
use Rattle.sctp_wire.specs.declared.frame.Frame.{Frame}
use Rattle.sctp_wire.specs.Results.{◌>>=◌}
use Rattle.sctp_wire.specs.Numbers.{u16_at}

-- how many zeros follow a value of this length: up to a multiple of 4
abbrev pub pad_len : ℕ → ℕ
pad_len len = (4 - len % 4) % 4

-- a length with its padding
abbrev pub padded_len : ℕ → ℕ
padded_len len = len + pad_len len

-- the first frame, and the bytes after it and its padding; padding that is cut off at the end is not missed
unfoldable pub frame_at : List ℕ → Result (Frame × List ℕ) Fault
frame_at bytes =
    if nat_lt (length bytes) 4 then Err Short else
    if nat_lt (u16_at bytes 2) 4 then Err Length else
    if nat_lt (length bytes) (u16_at bytes 2) then Err Short else
    Ok (
      record { head = u16_at bytes 0; value = take (u16_at bytes 2 - 4) (drop 4 bytes) },
      drop (padded_len (u16_at bytes 2)) bytes,
    )

-- the values of the frames, until fewer than `least` bytes are left; the first number bounds the steps
unfoldable pub items_within : {A : Type 0} → ℕ → (Frame → Result A Fault) → ℕ → List ℕ → Result (List A) Fault
items_within zero item_of least bytes = Ok []
items_within (suc n) item_of least bytes =
    if nat_lt (length bytes) least then Ok [] else
    (frame_at bytes >>= λ frame. item_of frame.0 >>= λ item. items_within n item_of least frame.1 >>= λ items.
    Ok (item ∷ items))

unfoldable pub items_at : {A : Type 0} → (Frame → Result A Fault) → ℕ → List ℕ → Result (List A) Fault
items_at item_of least bytes = items_within (suc (length bytes)) item_of least bytes

-- what was read, behind what stands in front of it
abbrev pub with_front : {A : Type 0} → List A → Result (List A) Fault → Result (List A) Fault
with_front front read = read >>= λ items. Ok (front ++ items)

-- a number of entries of one width
unfoldable pub entries_at : {A : Type 0} → (List ℕ → A) → ℕ → ℕ → List ℕ → List A
entries_at entry_at width zero bytes = []
entries_at entry_at width (suc n) bytes = entry_at bytes ∷ entries_at entry_at width n (drop width bytes)

abbrev pub zeros : ℕ → List ℕ
zeros zero = []
zeros (suc n) = 0 ∷ zeros n

abbrev pub framed : ℕ → List ℕ → Frame
framed head value = record { head = head; value = value }

-- a frame's spelling without its padding, and with it
abbrev pub bare : Frame → List ℕ
bare frame = to_be_bytes w16 frame.head ++ to_be_bytes w16 (4 + length frame.value) ++ frame.value

abbrev pub padded : Frame → List ℕ
padded frame = bare frame ++ zeros (pad_len (length frame.value))

-- whether its length can say how long a frame is
abbrev pub frame_fits : Frame → Bool
frame_fits frame = nat_lt (length frame.value) 65532

-- the parameters or causes of a chunk: all but the last with their padding
unfoldable pub joined : {A : Type 0} → (A → Frame) → List A → List ℕ
joined frame_of [] = []
joined frame_of (x ∷ []) = bare (frame_of x)
joined frame_of (x ∷ y ∷ xs) = padded (frame_of x) ++ joined frame_of (y ∷ xs)

-- a frame was written without its padding, and the answer is the length of its value
abbrev pub WritesBare : Result ℕ WireError → Frame → List ℕ → List ℕ → Type 0
WritesBare (Ok len) frame old new = (frame_fits frame ≡ true) × (new ≡ old ++ bare frame) × (len ≡ length frame.value)
WritesBare (Err wire.NoMemory) frame old new = Unit {0}
WritesBare (Err (wire.Malformed f)) frame old new = (frame_fits frame ≡ false) × (f ≡ Long)
