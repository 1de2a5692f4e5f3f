-- What the chunks of a packet say, in offsets of the two directions (RFC 4960 sections 3.3.1 and 3.3.4, RFC 3758
-- section 3.2).
use Rattle.std.specs.Prelude.{◌≡◌, ℕ, slice_get, Some}
use Rattle.sctp_wire_types.specs.declared.chunk.Chunk.{Chunk}
use Rattle.sctp_wire_types.specs.declared.chunk.Chunk.TheVariants as chunks
use Rattle.sctp_wire_types.specs.declared.chunk.ChunkForwardTsn.{ChunkForwardTsn}
use Rattle.sctp_wire_types.specs.declared.chunk.ChunkSelectiveAck.{ChunkSelectiveAck}
use Rattle.sctp_model.specs.Packets.{Forward, Sack}
use Rattle.sctp_model.specs.Machine.{Direction}
use Rattle.sctp_fit.specs.Forwards.{IsForwardSaid}
use Rattle.sctp_fit.specs.Sendings.{IsGiven}
use Rattle.sctp_directions.specs.Reports.{SaysWhatWasTaken}

-- A SACK is one that the direction's receiver ever made: it names that one's reach, and its gap ack blocks name what
-- that one has above it.
abbrev pub IsMade : ℕ → Direction → ChunkSelectiveAck → Type 0
IsMade initial w c = (k : ℕ) × (x : Sack) × (slice_get w.sacks k ≡ Some x) × SaysWhatWasTaken initial x.reach x.above c

-- A FORWARD TSN is one that the direction's sender ever made.
abbrev pub IsForwardMade : ℕ → Direction → ChunkForwardTsn → Type 0
IsForwardMade initial w c =
    (k : ℕ) × (f : Forward) × (slice_get w.forwards k ≡ Some f) × IsForwardSaid w.over initial c f

-- a chunk that a side gives out: DATA or a FORWARD TSN of its own direction, or a SACK for the one that comes to it;
-- own and peer are their initial TSNs
abbrev pub Says : ℕ → ℕ → Direction → Direction → Chunk → Type 0
Says own peer out coming (chunks.Data c) = IsGiven own out c
Says own peer out coming (chunks.SelectiveAck c) = IsMade peer coming c
Says own peer out coming (chunks.ForwardTsn c) = IsForwardMade own out c
Says own peer out coming chunk = ⊥
