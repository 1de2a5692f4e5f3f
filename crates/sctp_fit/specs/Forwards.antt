-- The laws of FORWARD TSN (RFC 3758 sections 3.2, 3.5 and 3.6): the one that an association makes says what its
-- direction's does, and one that comes skips the same on both sides.
use Rattle.std.specs.Prelude.{◌≡◌, ℕ, suc, ◌+◌, ◌<◌, true, not, ◌&&◌, ◌==◌, List, [], ◌∷◌, ◌++◌, map, take, slice_get}
use Rattle.std.specs.Prelude.{Bool, false, nat_lt}
use Rattle.std.specs.Prelude.{if◌then◌else◌, Option, Some, None}
use Rattle.std.specs.Option.{option_map, option_to_list}
use Rattle.sctp_wire_types.specs.declared.chunk.ChunkForwardTsn.{ChunkForwardTsn}
use Rattle.sctp_wire_types.specs.declared.chunk.SkippedStream.{SkippedStream}
use Rattle.sctp_receive_queues.specs.Reassembly.{unordered_skipped}
use Rattle.sctp_outbound_queue.specs.declared.message.InFlight.{InFlight}
use Rattle.sctp_outbound_queue.specs.Outbound.{abandoned_in_front_of}
use Rattle.sctp_outbound.specs.Forward.{skipped_numbers, skipped_stream}
use Rattle.sctp_streams.specs.Stream.{StreamView}
use Rattle.sctp_streams.specs.Streams.{StreamMap, stream_at}
use Rattle.sctp_model.specs.Packets.{Forward, skips}
use Rattle.sctp_serial.specs.Serial.{tsn}
use Rattle.sctp_model.specs.Machine.{Direction, Event, happens, reach}
use Rattle.sctp_model.specs.Invariants.{Invariant}
use Rattle.sctp_model.specs.Safe.{IsWithin}
use Rattle.sctp_reassembly.specs.Stands.{skipped_if}
use Rattle.sctp_fit.specs.Outgoing.{FitsOutgoing, Sending}
use Rattle.sctp_fit.specs.Incoming.{FitsIncoming, Receiving, tsn_before}

-- the stream sequence number of the last ordered piece of stream s among these
abbrev pub last_ordered : ℕ → List InFlight → Option ℕ → Option ℕ
last_ordered s [] found = found
last_ordered s (x ∷ xs) found =
    last_ordered s xs (
    if (x.message.stream_identifier == s) && not x.message.unordered then Some x.message.stream_sequence_number
    else found)

-- the abandoned pieces in front of all others in flight
abbrev pub abandoned_front : Sending → List InFlight
abandoned_front a = take (abandoned_in_front_of a.queue.in_flight) a.queue.in_flight

-- The direction makes this FORWARD TSN, and of an association it says: the abandoned pieces in front of all others in
-- flight are passed over, and each stream with an ordered one among them is skipped up to the last one's number, where
-- it is within its span.
pub record IsForwardOf (a : Sending) (w : Direction) (f : Forward) : Type 0 where
  pub made : (happens w Event.ForwardMade).forwards ≡ w.forwards ++ f ∷ []
  pub reach : f.reach ≡ a.base + abandoned_in_front_of a.queue.in_flight
  pub streams : (s : ℕ) → w.over s ≡ false → skips f s ≡ last_ordered s (abandoned_front a) None

-- Where abandoned pieces stand in front of all others in flight, the direction makes the FORWARD TSN that says so.
abbrev pub ForwardsSayTheSame : Type 0
ForwardsSayTheSame = (a : Sending) (w : Direction) → 0 < abandoned_in_front_of a.queue.in_flight → FitsOutgoing a w
    → FitsOutgoing a (happens w Event.ForwardMade) × ((f : Forward) × IsForwardOf a w f)

-- the numbers that these pairs tell for stream s
abbrev pub numbers_told : ℕ → List SkippedStream → List ℕ
numbers_told s [] = []
numbers_told s (e ∷ es) =
    if e.stream_identifier == s then e.stream_sequence_number ∷ numbers_told s es else numbers_told s es

-- The pairs that are made of pieces tell of each stream with an ordered one among them the last one's number, once, and
-- of no other stream.
abbrev pub PairsTellTheLast : Type 0
PairsTellTheLast = (s : ℕ) (pieces : List InFlight)
    → numbers_told s (map skipped_stream (skipped_numbers pieces)) ≡ option_to_list (last_ordered s pieces None)

-- A FORWARD TSN chunk is this one of a direction with this initial TSN: its new cumulative TSN is the one before that
-- of the reach. Of the streams within their span (their test is `over`) its pairs tell of each that is skipped, once,
-- the number up to which it is; they tell of no other one.
pub record IsForwardSaid (over : ℕ → Bool) (initial : ℕ) (c : ChunkForwardTsn) (f : Forward) : Type 0 where
  pub reach : c.new_cumulative_tsn ≡ tsn_before (tsn initial f.reach)
  pub streams : (s : ℕ) → over s ≡ false → numbers_told s c.streams ≡ option_to_list (skips f s)

-- a stream once a FORWARD TSN passed over everything up to the offset o: ordered messages up to the number that is told
-- are skipped, and unordered pieces up to o are dropped
abbrev pub passed_stream : ℕ → ℕ → Option ℕ → StreamView → StreamView
passed_stream peer o number t =
    record t { reassembly = unordered_skipped (skipped_if t.reassembly number) (tsn peer o) }

-- A FORWARD TSN that lies ahead is taken on both sides, with its skips in every live stream within its span. Streams
-- past it may become anything.
abbrev pub ForwardsThatComeAreTaken : Type 0
ForwardsThatComeAreTaken = (a : Receiving) (k o : ℕ) (f : Forward) (m : StreamMap) (w : Direction)
    → slice_get w.forwards k ≡ Some f → nat_lt (reach w.receiver) f.reach ≡ true → f.reach ≡ suc o
    → ((s : ℕ) → w.over s ≡ false
    → stream_at m s ≡ option_map (passed_stream a.peer o (skips f s)) (stream_at a.streams s))
    → IsWithin w → Invariant w → FitsIncoming a w
    → FitsIncoming (record a { streams = m; passed = f.reach }) (happens w (Event.ForwardComes k))
