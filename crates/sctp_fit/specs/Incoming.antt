-- How what an association took in and holds for its readers stands to the receiver of a direction: DATA in any order,
-- ordered or not, of messages of several pieces (RFC 4960 sections 6.2, 6.5, 6.6 and 6.9).
use Rattle.std.specs.Prelude.{◌≡◌, ℕ, ◌+◌, ◌-◌, ◌%◌, ◌^◌, Bool, true, false, List, Option, Some, None, ⊤}
use Rattle.sctp_wire_types.specs.declared.chunk.ChunkPayloadData.{ChunkPayloadData}
use Rattle.sctp_streams.specs.Stream.{StreamView}
use Rattle.sctp_streams.specs.Streams.{StreamMap, stream_at}
use Rattle.sctp_model.specs.Messages.{Plan}
use Rattle.sctp_model.specs.Packets.{Data}
use Rattle.sctp_model.specs.Reassembly.{Queue}
use Rattle.sctp_serial.specs.Serial.{tsn_past, tsn}
use Rattle.sctp_model.specs.Machine.{Direction, climb, past_all}
use Rattle.sctp_reassembly.specs.Stands.{CarriesData, StandsFor}

-- What the receiver of a direction has: its streams, the initial TSN of what comes, the offsets that were taken in, and
-- one past the greatest one that a FORWARD TSN passed over, 0 before the first.
pub record Receiving : Type 0 where
  pub streams : StreamMap
  pub peer : ℕ
  pub taken : List ℕ
  pub passed : ℕ

-- the first offset that neither came nor was passed over
abbrev pub reach_of : Receiving → ℕ
reach_of a = climb a.taken (past_all a.taken) a.passed

-- the TSN before this one
abbrev pub tsn_before : ℕ → ℕ
tsn_before t = (t + 2 ^ 32 - 1) % 2 ^ 32

-- the offset that a TSN of DATA at or past the reach spells
abbrev pub offset_of : Receiving → ℕ → ℕ
offset_of a t = reach_of a + tsn_past (tsn a.peer (reach_of a)) t

-- a stream is live on both sides or on neither, and the reassembly of a live one stands for the queue
abbrev pub IsQueueAt : ℕ → Plan → ℕ → Option StreamView → Option Queue → Type 0
IsQueueAt peer p s None None = ⊤
IsQueueAt peer p s None (Some q) = ⊥
IsQueueAt peer p s (Some t) None = ⊥
IsQueueAt peer p s (Some t) (Some q) = StandsFor peer p s t.reassembly q

-- The association took in what the direction's receiver has, and holds it for its readers in the same queues. What is
-- said of a stream's queue is of streams within their span.
pub record FitsIncoming (a : Receiving) (w : Direction) : Type 0 where
  pub is_open : w.receiver.is_open ≡ true
  pub taken : a.taken ≡ w.receiver.taken
  pub passed : a.passed ≡ w.receiver.passed
  pub queues : (s : ℕ) → w.over s ≡ false
      → IsQueueAt a.peer w.sender.plan s (stream_at a.streams s) (w.receiver.queues s)

-- A DATA chunk is this DATA of a direction with this initial TSN, on its stream. Where that one is past its span (its
-- test is `over`), no more is said than its TSN.
pub record IsSaid (over : ℕ → Bool) (initial : ℕ) (c : ChunkPayloadData) (d : Data) : Type 0 where
  pub stream : c.stream_identifier ≡ d.stream
  pub tsn : c.tsn ≡ tsn initial d.offset
  pub carries : over d.stream ≡ false → CarriesData initial c d
