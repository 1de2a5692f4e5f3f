-- What an application hands to a direction, and on which offsets its pieces stand. An offset is the distance of a TSN
-- from its direction's initial TSN; it never wraps. A stream, a message of it and a piece of that are numbered from 0.
use Rattle.std.specs.Prelude.{ℕ, zero, suc, ◌+◌, ◌*◌, ◌<◌, ◌≡◌, Bool, true, false, List, [], ◌∷◌, length, get_or, take}
use Rattle.std.specs.Prelude.{drop, ◌==◌, nat_le, if◌then◌else◌}

-- How long a message is tried (RFC 3758 section 3.5 and 4.1): for ever, for so many retries, or for so many
-- milliseconds.
pub data Policy : Type 0 where
  Reliable : Policy
  Rexmit : ℕ → Policy
  Timed : ℕ → Policy

abbrev pub is_reliable : Policy → Bool
is_reliable Reliable = true
is_reliable (Rexmit retries) = false
is_reliable (Timed milliseconds) = false

-- A message as its write left it: order flag and policy stay as they were then.
pub record Message : Type 0 where
  pub payload_type : ℕ
  pub bytes : List ℕ
  pub ordered : Bool
  pub policy : Policy

-- what is kept of a written message: one of the data channel establishment protocol (payload type 50) is ordered and
-- reliable (RFC 8832 section 6)
abbrev pub as_kept : Message → Message
as_kept m = if m.payload_type == 50 then record m { ordered = true; policy = Policy.Reliable } else m

abbrev pub no_message : Message
no_message = record { payload_type = 0; bytes = []; ordered = true; policy = Policy.Reliable }

-- Piece k of some bytes: `size` of them, of the last piece what is left (RFC 4960 section 6.9).
abbrev pub piece_of : ℕ → List ℕ → ℕ → List ℕ
piece_of size bytes k = take size (drop (size * k) bytes)

-- piece k reaches the end of the bytes
abbrev pub is_last_piece : ℕ → List ℕ → ℕ → Bool
is_last_piece size bytes k = nat_le (length bytes) (size * suc k)

-- What an offset stands for: a piece of a message. `ssn` is the stream sequence number before it wraps: of an ordered
-- message how many ordered ones of the stream got an offset before it (within the stream's span), of an unordered one
-- any number. A `marker` stands for the whole tail from its piece on that was still unsent when its message was
-- abandoned; it is never sent.
pub record Place : Type 0 where
  pub stream : ℕ
  pub message : ℕ
  pub piece : ℕ
  pub ssn : ℕ
  pub marker : Bool

abbrev pub no_place : Place
no_place = record { stream = 0; message = 0; piece = 0; ssn = 0; marker = false }

-- All that was accepted, by stream and in the order of the writes, and the places of the offsets 0, 1, 2 and so on.
pub record Plan : Type 0 where
  pub size : ℕ
  pub accepted : ℕ → List Message
  pub places : List Place

abbrev pub place_at : Plan → ℕ → Place
place_at p o = get_or p.places o no_place

abbrev pub message_at : Plan → ℕ → ℕ → Message
message_at p s i = get_or (p.accepted s) i no_message

abbrev pub message_of : Plan → Place → Message
message_of p x = message_at p x.stream x.message

-- the place is its message's last piece
abbrev pub is_last : Plan → Place → Bool
is_last p x = is_last_piece p.size (message_of p x).bytes x.piece

-- the offset o is assigned, to an ordered (or unordered) message of stream s
pub record IsAt (p : Plan) (s : ℕ) (ordered : Bool) (o : ℕ) : Type 0 where
  pub known : o < length p.places
  pub stream : (place_at p o).stream ≡ s
  pub kind : (message_of p (place_at p o)).ordered ≡ ordered

-- how many of some messages are ordered
abbrev pub count_ordered : List Message → ℕ
count_ordered [] = 0
count_ordered (m ∷ ms) = (if m.ordered then 1 else 0) + count_ordered ms

-- how many of the first i messages are ordered
abbrev pub rank : List Message → ℕ → ℕ
rank ms i = count_ordered (take i ms)

-- the bytes that an offset carries; a marker carries none
abbrev pub bytes_at : Plan → Place → ℕ
bytes_at p x = if x.marker then 0 else length (piece_of p.size (message_of p x).bytes x.piece)

-- the bytes of the stream's pieces on those offsets below n that pass the test
abbrev pub bytes_below : Plan → (ℕ → Bool) → ℕ → ℕ → ℕ
bytes_below p test s zero = 0
bytes_below p test s (suc o) =
    (if (place_at p o).stream == s then (if test o then bytes_at p (place_at p o) else 0) else 0)
    + bytes_below p test s o

-- f 0 + f 1 + .. + f (n - 1)
abbrev pub sum_below : (ℕ → ℕ) → ℕ → ℕ
sum_below f zero = 0
sum_below f (suc i) = f i + sum_below f i

-- the bytes of those messages of stream s that pass the test
abbrev pub bytes_among : Plan → (ℕ → Bool) → ℕ → ℕ
bytes_among p test s = sum_below (λ i. if test i then length (message_at p s i).bytes else 0) (length (p.accepted s))

-- all bytes accepted on stream s
abbrev pub accepted_bytes : Plan → ℕ → ℕ
accepted_bytes p s = bytes_among p (λ i. true) s
