-- What a packet says to the other side, in offsets. A reach is a number of offsets: one past the last offset meant.
use Rattle.std.specs.Prelude.{ℕ, ◌%◌, Bool, false, List, [], ◌∷◌, ◌==◌, ◌||◌, nat_lt, Option, Some, None}
use Rattle.sctp_model.specs.Messages.{Plan, Place, place_at, message_of, piece_of, is_last}

-- DATA (RFC 4960 section 3.3.1): `first` and `last` are the B and E bits, `ordered` is the U bit turned round. The
-- stream sequence number of an unordered piece may be any and says nothing.
pub record Data : Type 0 where
  pub offset : ℕ
  pub stream : ℕ
  pub ssn : ℕ
  pub ordered : Bool
  pub first : Bool
  pub last : Bool
  pub payload_type : ℕ
  pub bytes : List ℕ

-- SACK (RFC 4960 section 3.3.4): every offset below the reach, and the set of its gap ack blocks above.
pub record Sack : Type 0 where
  pub reach : ℕ
  pub above : List ℕ

-- FORWARD TSN (RFC 3758 section 3.2): the new reach, and by stream the sequence number up to which ordered messages are
-- skipped. The packet has `reach` and `skips`, which is all that a receiver goes by. Not in it are `numbers`, the
-- sequence numbers before they wrap, and of the moment when it was made its sender's acknowledged reach (`start`) and
-- the streams past their span (`past`).
pub record Forward : Type 0 where
  pub reach : ℕ
  pub numbers : ℕ → Option ℕ
  pub start : ℕ
  pub past : ℕ → Bool

abbrev pub wrapped : Option ℕ → Option ℕ
wrapped None = None
wrapped (Some n) = Some (n % 65536)

abbrev pub skips : Forward → ℕ → Option ℕ
skips f s = wrapped (f.numbers s)

-- o is a member of the set that the list spells
abbrev pub mem : ℕ → List ℕ → Bool
mem o [] = false
mem o (x ∷ xs) = (x == o) || mem o xs

abbrev pub names : Sack → ℕ → Bool
names k o = nat_lt o k.reach || mem o k.above

-- the DATA chunk of an offset, at its first sending and at each later one
abbrev pub data_of : Plan → ℕ → Place → Data
data_of p o x = record {
  offset = o;
  stream = x.stream;
  ssn = x.ssn % 65536;
  ordered = (message_of p x).ordered;
  first = x.piece == 0;
  last = is_last p x;
  payload_type = (message_of p x).payload_type;
  bytes = piece_of p.size (message_of p x).bytes x.piece;
}

abbrev pub data_at : Plan → ℕ → Data
data_at p o = data_of p o (place_at p o)
