-- The laws of DATA that comes and of reads: what an association takes in comes to the direction's receiver, in whatever
-- order, and its readers get what that one's readers get (RFC 4960 sections 6.2, 6.5 and 6.6).
use Rattle.std.specs.Prelude.{◌≡◌, ℕ, ◌<◌, ◌==◌, ◌^◌, true, false, ◌∷◌, length, map, slice_get, Some, None}
use Rattle.sctp_wire_types.specs.declared.chunk.ChunkPayloadData.{ChunkPayloadData}
use Rattle.sctp_wire_types.specs.declared.ids.PayloadProtocolIdentifier.{PayloadProtocolIdentifier}
use Rattle.sctp_receive_queues.specs.Reassembly.{Reassembly, ready, refusal}
use Rattle.sctp_streams.specs.Stream.{StreamView}
use Rattle.sctp_streams.specs.Streams.{StreamMap, made, pushed_in, read_in, stream_at}
use Rattle.sctp_model.specs.Messages.{Plan}
use Rattle.sctp_model.specs.Packets.{Data}
use Rattle.sctp_model.specs.Reassembly as queue
use Rattle.sctp_model.specs.Reassembly.{Queue, at}
use Rattle.sctp_model.specs.Machine.{Direction, Event, happens, is_new, live}
use Rattle.sctp_model.specs.Invariants.{Invariant}
use Rattle.sctp_model.specs.Safe.{IsWithin, letter_read}
use Rattle.sctp_reassembly.specs.Stands.{IsForBytesAlone, IsReadAs, StandsFor, letter_received}
use Rattle.sctp_fit.specs.Incoming.{FitsIncoming, IsSaid, Receiving, offset_of}

-- a piece was taken in on the offset o
abbrev pub took : Receiving → ChunkPayloadData → ℕ → Receiving
took a piece o = record a {
  streams = (pushed_in a.streams piece.stream_identifier piece).0;
  taken = o ∷ a.taken;
}

-- DATA of the direction that its receiver didn't have has the offset that its TSN spells at or past the association's
-- reach,
abbrev pub NewTsnsSpellTheirOffsets : Type 0
NewTsnsSpellTheirOffsets = (a : Receiving) (piece : ChunkPayloadData) (k : ℕ) (d : Data) (w : Direction)
    → slice_get w.datas k ≡ Some d → IsSaid w.over a.peer piece d → is_new w.receiver d.offset ≡ true
    → IsWithin w → Invariant w → FitsIncoming a w
    → offset_of a piece.tsn ≡ d.offset

-- and where its stream is live it comes to that receiver, and is refused for the bytes of its message alone.
abbrev pub WhatIsTakenInComes : Type 0
WhatIsTakenInComes = (a : Receiving) (piece : ChunkPayloadData) (k : ℕ) (d : Data) (t : StreamView) (limit : ℕ)
    (w : Direction)
    → slice_get w.datas k ≡ Some d → IsSaid w.over a.peer piece d → is_new w.receiver d.offset ≡ true
    → stream_at a.streams piece.stream_identifier ≡ Some t → w.over piece.stream_identifier ≡ false
    → IsWithin w → Invariant w → FitsIncoming a w
    → FitsIncoming (took a piece d.offset) (happens w (Event.DataComes k))
    × IsForBytesAlone (refusal t.reassembly piece limit)

-- New DATA of a stream past its span comes to the receiver too, and that stream alone becomes anything: the DATA may be
-- kept apart, or taken in there.
abbrev pub DataPastItsSpanComes : Type 0
DataPastItsSpanComes = (a : Receiving) (k : ℕ) (d : Data) (m : StreamMap) (w : Direction)
    → slice_get w.datas k ≡ Some d → is_new w.receiver d.offset ≡ true → w.over d.stream ≡ true
    → ((s : ℕ) → (s == d.stream) ≡ false → stream_at m s ≡ stream_at a.streams s) → FitsIncoming a w
    → FitsIncoming (record a { streams = m; taken = d.offset ∷ a.taken }) (happens w (Event.DataComes k))

-- A stream that is made is opened at the receiver.
abbrev pub OpenedStreamsAreAlike : Type 0
OpenedStreamsAreAlike = (a : Receiving) (id first : ℕ) (kind : PayloadProtocolIdentifier) (w : Direction)
    → stream_at a.streams id ≡ None → FitsIncoming a w
    → FitsIncoming (record a { streams = made a.streams id first kind }) (happens w (Event.Open id))

-- A read answers what the direction's reader gets, and changes no other stream's reads.
abbrev pub ReadsAreAlike : Type 0
ReadsAreAlike = (a : Receiving) (id : ℕ) (t : StreamView) (w : Direction) → stream_at a.streams id ≡ Some t
    → w.over id ≡ false → IsWithin w → Invariant w → FitsIncoming a w
    → FitsIncoming (record a { streams = (read_in a.streams id).0 }) (happens w (Event.Read id))
    × IsReadAs (read_in a.streams id).1 (w.reads id) ((happens w (Event.Read id)).reads id)
    × ((s : ℕ) → (s == id) ≡ false → (happens w (Event.Read id)).reads s ≡ w.reads s)

-- What is ready is the same on both sides.
abbrev pub TheSameStreamsAreReady : Type 0
TheSameStreamsAreReady = (a : Receiving) (id : ℕ) (t : StreamView) (w : Direction) → stream_at a.streams id ≡ Some t
    → w.over id ≡ false → IsWithin w → Invariant w → FitsIncoming a w
    → map letter_read (queue.ready (live (w.receiver.queues id))) ≡ map letter_received (ready t.reassembly)

-- A SACK that is made changes nothing for the receiver.
abbrev pub ReportsChangeNothing : Type 0
ReportsChangeNothing = (a : Receiving) (w : Direction) → FitsIncoming a w → FitsIncoming a (happens w Event.SackMade)

-- Two queues of the model are alike: the same stream sequence number is next, they hold the same DATA at each offset,
-- and the same unordered messages are complete, as readers see them.
pub record AreAlike (q r : Queue) : Type 0 where
  pub cursor : q.cursor ≡ r.cursor
  pub ordered : (o : ℕ) → at o q.ordered ≡ at o r.ordered
  pub unordered : (o : ℕ) → at o q.unordered ≡ at o r.unordered
  pub complete : map letter_read q.complete ≡ map letter_read r.complete

-- All queues of the model for which one reassembly stands are alike.
abbrev pub ReadersArePinned : Type 0
ReadersArePinned = (initial : ℕ) (p : Plan) (s : ℕ) (r : Reassembly) (q u : Queue) → length p.places < 2 ^ 31
    → StandsFor initial p s r q → StandsFor initial p s r u → AreAlike q u
