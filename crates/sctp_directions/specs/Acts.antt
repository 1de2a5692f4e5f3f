-- What an association does to the two directions between which it stands: to its own DATA, and to the DATA that comes.
use Rattle.std.specs.Prelude.{◌≡◌, ◌<◌, ◌≤◌, ℕ, true, List, [], ◌∷◌, ◌++◌, ◌+◌, is_some, length, slice_get, Option}
use Rattle.std.specs.Prelude.{Some, None, false, Bool, ◌||◌, ◌&&◌, ◌-◌, ◌^◌, ◌==◌, suc, not, nat_lt}
use Rattle.std.specs.List.{list_any}
use Rattle.sctp_serial.specs.Serial.{tsn, tsn_past}
use Rattle.sctp_wire_types.specs.declared.chunk.ChunkPayloadData.{ChunkPayloadData}
use Rattle.sctp_wire_types.specs.declared.chunk.GapAckBlock.{GapAckBlock}
use Rattle.sctp_wire_types.specs.declared.chunk.SkippedStream.{SkippedStream}
use Rattle.sctp_wire_types.specs.declared.ids.PayloadProtocolIdentifier.{PayloadProtocolIdentifier}
use Rattle.sctp_outbound_queue.specs.declared.message.InFlight.{InFlight}
use Rattle.sctp_outbound_queue.specs.declared.message.Reports.{Reports}
use Rattle.sctp_outbound_queue.specs.declared.message.Retransmission.{Retransmission}
use Rattle.sctp_outbound_queue.specs.Cut.{first_piece, other_pieces}
use Rattle.sctp_outbound_queue.specs.Waiting.{Waiting}
use Rattle.sctp_outbound_queue.specs.Expiry.{all_started}
use Rattle.sctp_outbound_queue.specs.Message.{counted_again, is_of, is_outstanding}
use Rattle.sctp_received.specs.Received.{is_named}
use Rattle.sctp_outbound_queue.specs.Outbound.{Outbound, abandoned_in_front_of, all_marked, changed_at, sent_next}
use Rattle.sctp_outbound_queue.specs.Outbound.{with_missing}
use Rattle.sctp_streams.specs.declared.setting.Setting.{Setting}
use Rattle.sctp_streams.specs.declared.setting.Setting.TheVariants as settings
use Rattle.sctp_streams.specs.Stream.{StreamView, is_read_half_open, ordered_and_reliable, params_for, stream_skipped}
use Rattle.sctp_streams.specs.Stream.{with_setting}
use Rattle.sctp_streams.specs.Streams.{StreamMap, changed_stream, made, passed_in, pushed_in, read_in, stream_at}
use Rattle.sctp_streams.specs.Streams.{without_streams}
use Rattle.sctp_outbound.specs.Sender.{chunk_of}
use Rattle.sctp_model.specs.Messages.{is_reliable}
use Rattle.sctp_model.specs.Packets.{mem}
use Rattle.sctp_model.specs.Machine.{climb, past_all}
use Rattle.sctp_fit.specs.Incoming.{Receiving}
use Rattle.sctp_fit.specs.Outgoing.{Sending, policy_of}
use Rattle.sctp_fit.specs.Abandonments.{abandoned, tail_abandoned}
use Rattle.sctp_fit.specs.Acknowledgements.{acknowledged}
use Rattle.sctp_fit.specs.Drops.{dropped}
use Rattle.sctp_fit.specs.Sendings.{next_chunks}
use Rattle.sctp_fit.specs.Writes as fit

-- What is past of an association, in offsets. An offset is the distance of a TSN from the initial TSN of its direction,
-- and never wraps. A reach is a number of offsets: one past the last offset meant.
pub record History : Type 0 where
  -- the initial TSN of its own DATA, and of the DATA that comes
  pub own : ℕ
  pub peer : ℕ
  -- the offsets of its own DATA below this one are acknowledged; the first piece in flight stands on it
  pub base : ℕ
  -- the offsets of DATA that was taken in; and one past the greatest one that a FORWARD TSN passed over, 0 before the
  -- first
  pub taken : List ℕ
  pub passed : ℕ

-- the reach of what came: the first offset that neither was taken in nor passed over
abbrev pub reach_in : History → ℕ
reach_in h = climb h.taken (past_all h.taken) h.passed

-- the offset that a TSN at or past the reach spells
abbrev pub offset_in : History → ℕ → ℕ
offset_in h t = reach_in h + tsn_past (tsn h.peer (reach_in h)) t

-- Nothing came and nothing is acknowledged: the history on which an association begins. Until the peer's initial TSN is
-- known it is taken to be 1.
abbrev pub begun : ℕ → ℕ → History
begun own peer = record { own = own; peer = peer; base = 0; taken = []; passed = 0 }

-- What the two directions see of an association; the size is that of a payload.
pub record Parts : Type 0 where
  pub queue : Outbound
  pub streams : StreamMap
  pub size : ℕ
  pub history : History

-- what its own direction's sender has of it
abbrev pub sending : Parts → Sending
sending p = record { queue = p.queue; streams = p.streams; base = p.history.base; size = p.size }

-- what the receiver of the direction that comes has of it
abbrev pub receiving : Parts → Receiving
receiving p =
    record { streams = p.streams; peer = p.history.peer; taken = p.history.taken; passed = p.history.passed }

-- One thing that an association does to its directions.
pub data Act : Type 0 where
  -- the peer's initial TSN became known; what came before is forgotten
  PeerKnown : ℕ → Act
  -- the application, or DATA or a FORWARD TSN of the peer, made a stream; its own messages have an identifier from this
  -- one on and this payload type
  Opened : ℕ → ℕ → PayloadProtocolIdentifier → Act
  -- a write of these bytes was accepted on a stream, under the payload type that it names, or else the stream's
  Wrote : ℕ → Option PayloadProtocolIdentifier → List ℕ → Act
  -- the application set this on a stream
  Adjusted : ℕ → Setting → Act
  -- the spans of these streams ended, and the live streams are these
  SpansEnded : List ℕ → StreamMap → Act
  -- the next piece that waits got the next offset and went out, at this moment; it may have asked for its SACK at once
  Sent : Bool → ℕ → Act
  -- the piece in flight that is so many offsets past the first one went out again, for a reason; it may have asked for
  -- its SACK at once
  SentAgain : Bool → Retransmission → ℕ → Act
  -- all that is outstanding is to go out again
  Marked : Act
  -- a SACK acknowledged so many of the first pieces in flight, and of those behind them the ones that its gap ack
  -- blocks name; then it reported some of those left in flight missing
  Acknowledged : ℕ → List GapAckBlock → Reports → Act
  -- the message of the piece in flight that is so many offsets past the first one was abandoned whole: each of its
  -- pieces, and what of it waits
  Abandoned : ℕ → Act
  -- the rest of the first message that waits was abandoned, of which something was sent and nothing is in flight
  TailAbandoned : Act
  -- the message that waits at this index, of which nothing was sent, was dropped
  Dropped : ℕ → Act
  -- the times of all messages that have one ran from this moment on, where they did not run yet
  Started : ℕ → Act
  -- a FORWARD TSN went out
  Forwarded : Act
  -- this DATA was taken in
  Took : ChunkPayloadData → Act
  -- this DATA was taken in and did not go to its stream: it is kept apart, or nobody reads that stream any more
  Deferred : ChunkPayloadData → Act
  -- a FORWARD TSN passed over all up to this TSN, and on these streams skipped the ordered messages up to these SSNs
  PassedOver : ℕ → List SkippedStream → Act
  -- a SACK went out
  Reported : Act
  -- a read on a stream
  WasRead : ℕ → Act
  -- the association was closed
  Ended : Act

-- DATA on this offset came
abbrev pub with_taken : History → ℕ → History
with_taken h o = record h { taken = o ∷ h.taken }

-- a FORWARD TSN passed over all up to this offset
abbrev pub with_passed : History → ℕ → History
with_passed h o = record h { passed = suc o }

-- the peer's DATA begins with this TSN, and nothing of it came
abbrev pub with_peer : History → ℕ → History
with_peer h t = record h { peer = t; taken = []; passed = 0 }

-- the payload type of a message that is written on a stream: the one that is named, or else the stream's
abbrev pub type_on : StreamView → Option PayloadProtocolIdentifier → PayloadProtocolIdentifier
type_on s None = s.default_payload_type
type_on s (Some kind) = kind

-- what is queued of bytes that a stream accepts under a payload type: pieces of `size` bytes
abbrev pub message_of : StreamView → PayloadProtocolIdentifier → ℕ → ℕ → List ℕ → Waiting
message_of s kind size id bytes = record {
  message = record {
    message_id = 0;
    stream_identifier = id;
    generation = s.stats.generation;
    unordered = (params_for s kind).unordered;
    stream_sequence_number = s.next_ssn;
    payload_type = kind;
    policy = (params_for s kind).policy;
    deadline = None;
  };
  begun = false;
  user_data = first_piece size bytes;
  rest = other_pieces size bytes;
}

-- the bytes are queued on the stream, where it is live
abbrev pub with_written : Option StreamView → Parts → ℕ → Option PayloadProtocolIdentifier → List ℕ → Parts
with_written None p id named bytes = p
with_written (Some s) p id named bytes =
    (let kind = type_on s named in
    let a = fit.written (sending p) id kind (length bytes) (message_of s kind p.size id bytes) in
    record p { queue = a.queue; streams = a.streams })

-- A SACK that acknowledges the first n pieces in flight cumulatively acknowledges the piece at an index: it is one of
-- those, or one of the gap ack blocks names it. Blocks count from the cumulative TSN ack, so the piece at n is their 1
-- (RFC 4960 section 3.3.4).
abbrev pub is_acknowledged_by : ℕ → List GapAckBlock → ℕ → Bool
is_acknowledged_by n blocks index = nat_lt index n || is_named (index + 1 - n) blocks

-- what such a SACK acknowledges is acknowledged, and the bytes are released that were outstanding of it
abbrev pub with_acknowledged : ℕ → List GapAckBlock → Parts → Parts
with_acknowledged n blocks p = record p {
  queue = (acknowledged n (is_acknowledged_by n blocks) (sending p)).queue;
  streams = (acknowledged n (is_acknowledged_by n blocks) (sending p)).streams;
  history = (let h = p.history in record h { base = h.base + n });
}

-- pieces in flight are reported missing
abbrev pub with_reports : Reports → Parts → Parts
with_reports missing p = record p { queue = with_missing missing p.queue }

-- the parts with what its own direction's sender has of them now
abbrev pub with_sending : Parts → Sending → Parts
with_sending p a = record p { queue = a.queue; streams = a.streams }

-- the message of this piece, if there is one, is abandoned whole
abbrev pub with_abandoned : Option InFlight → Parts → Parts
with_abandoned None p = p
with_abandoned (Some x) p = with_sending p (abandoned x (sending p))

-- the rest of this message, if there is one, is abandoned
abbrev pub with_tail_abandoned : Option Waiting → Parts → Parts
with_tail_abandoned None p = p
with_tail_abandoned (Some x) p = with_sending p (tail_abandoned x (sending p))

-- this message, if there is one, which waits at an index, is dropped
abbrev pub with_dropped : ℕ → Option Waiting → Parts → Parts
with_dropped k None p = p
with_dropped k (Some x) p = with_sending p (dropped k x (sending p))

-- on the live ones of these streams the ordered messages up to these SSNs are skipped
abbrev pub skipped_each : List SkippedStream → StreamMap → StreamMap
skipped_each [] m = m
skipped_each (e ∷ es) m =
    skipped_each es (changed_stream (stream_skipped e.stream_sequence_number) m e.stream_identifier)

-- a FORWARD TSN passed over all up to a TSN: ordered messages are skipped as it says, and on each live stream the
-- pieces of incomplete unordered messages up to the TSN are dropped (RFC 3758 section 3.6)
abbrev pub passed_over : ℕ → List SkippedStream → StreamMap → StreamMap
passed_over tsn es m = passed_in (skipped_each es m) tsn

-- what an act makes of the parts
abbrev pub done : Act → Parts → Parts
done (PeerKnown t) p = record p { history = with_peer p.history t }
done (Opened id first kind) p = record p { streams = made p.streams id first kind }
done (Wrote id named bytes) p = with_written (stream_at p.streams id) p id named bytes
done (Adjusted id setting) p = record p { streams = changed_stream (λ s. with_setting s setting) p.streams id }
done (SpansEnded ids m) p = record p { streams = m }
done (Sent at_once now) p = record p { queue = sent_next p.queue now }
done (SentAgain at_once by index) p = record p { queue = changed_at (counted_again by) p.queue index }
done Marked p = record p { queue = all_marked p.queue }
done (Acknowledged n blocks missing) p = with_reports missing (with_acknowledged n blocks p)
done (Abandoned index) p = with_abandoned (slice_get p.queue.in_flight index) p
done TailAbandoned p = with_tail_abandoned (slice_get p.queue.pending 0) p
done (Dropped k) p = with_dropped k (slice_get p.queue.pending k) p
done (Started now) p = record p { queue = all_started now p.queue }
done Forwarded p = p
done (Took piece) p = record p {
  streams = (pushed_in p.streams piece.stream_identifier piece).0;
  history = with_taken p.history (offset_in p.history piece.tsn);
}
done (Deferred piece) p = record p { history = with_taken p.history (offset_in p.history piece.tsn) }
done (PassedOver tsn skipped) p = record p {
  streams = passed_over tsn skipped p.streams;
  history = with_passed p.history (offset_in p.history tsn);
}
done Reported p = p
done (WasRead id) p = record p { streams = (read_in p.streams id).0 }
done Ended p = record p { streams = without_streams p.streams }

abbrev pub done_all : List Act → Parts → Parts
done_all [] p = p
done_all (x ∷ xs) p = done_all xs (done x p)

-- a piece is there, and is neither acknowledged nor abandoned
abbrev pub can_go_again : Option InFlight → Bool
can_go_again None = false
can_go_again (Some x) = is_outstanding x

-- DATA with this TSN is new: it is 1 to 65,535 past the last TSN in order, and did not come
pub record IsNewTsn (h : History) (t : ℕ) : Type 0 where
  pub small : t < 2 ^ 32
  pub near : offset_in h t < reach_in h + 65535
  pub missing : mem (offset_in h t) h.taken ≡ false

-- a piece is there, its message isn't abandoned, and isn't reliable
abbrev pub can_abandon : Option InFlight → Bool
can_abandon None = false
can_abandon (Some x) = not x.abandoned && not (is_reliable (policy_of x.message.policy))

-- a message is there of which something was sent, and that isn't reliable; none of these pieces is of it
abbrev pub can_abandon_tail : Option Waiting → List InFlight → Bool
can_abandon_tail None pieces = false
can_abandon_tail (Some x) pieces =
    x.begun && (not (is_reliable (policy_of x.message.policy)) && not (list_any (is_of x.message.message_id) pieces))

-- a message is there of which nothing was sent, and that isn't reliable
abbrev pub can_drop : Option Waiting → Bool
can_drop None = false
can_drop (Some x) = not x.begun && not (is_reliable (policy_of x.message.policy))

-- A TSN lies ahead: it is 1 to half the range past the last TSN in order.
pub record IsAhead (h : History) (t : ℕ) : Type 0 where
  pub small : t < 2 ^ 32
  pub near : offset_in h t < reach_in h + 2 ^ 31

-- an act can be done where the parts stand so
abbrev pub Can : Act → Parts → Type 0
Can (SpansEnded ids m) p = (t : ℕ) → mem t ids ≡ false → stream_at m t ≡ stream_at p.streams t
Can (Sent at_once now) p = is_some (slice_get p.queue.pending 0) ≡ true
Can (SentAgain at_once by index) p = can_go_again (slice_get p.queue.in_flight index) ≡ true
Can (Acknowledged n blocks missing) p = n ≤ length p.queue.in_flight
Can (Abandoned index) p = can_abandon (slice_get p.queue.in_flight index) ≡ true
Can TailAbandoned p = can_abandon_tail (slice_get p.queue.pending 0) p.queue.in_flight ≡ true
Can (Dropped k) p = can_drop (slice_get p.queue.pending k) ≡ true
Can Forwarded p = 0 < abandoned_in_front_of p.queue.in_flight
Can (Took piece) p = IsNewTsn p.history piece.tsn
Can (Deferred piece) p = IsNewTsn p.history piece.tsn
Can (PassedOver tsn skipped) p = IsAhead p.history tsn
Can act p = Unit {0}

abbrev pub CanAll : List Act → Parts → Type 0
CanAll [] p = Unit {0}
CanAll (x ∷ xs) p = Can x p × CanAll xs (done x p)

-- this piece, if there is one, as DATA
abbrev pub chunk_said : Bool → Option InFlight → ℕ → List ChunkPayloadData
chunk_said at_once None t = []
chunk_said at_once (Some p) t = chunk_of at_once p t ∷ []

-- the DATA that an act gives out
abbrev pub data_given : Act → Parts → List ChunkPayloadData
data_given (Sent at_once now) p =
    next_chunks at_once p.queue.pending (tsn p.history.own (p.history.base + length p.queue.in_flight))
data_given (SentAgain at_once by index) p =
    chunk_said at_once (slice_get p.queue.in_flight index) (tsn p.history.own (p.history.base + index))
data_given act p = []

-- the DATA that acts give out, in order
abbrev pub all_data_given : List Act → Parts → List ChunkPayloadData
all_data_given [] p = []
all_data_given (x ∷ xs) p = data_given x p ++ all_data_given xs (done x p)

-- it isn't that the peer's initial TSN became known
abbrev pub IsNotPeerKnown : Act → Type 0
IsNotPeerKnown (PeerKnown t) = ⊥
IsNotPeerKnown act = Unit {0}

-- acts of the association's own DATA
abbrev pub IsOfItsOwn : Act → Type 0
IsOfItsOwn (Wrote id named bytes) = Unit {0}
IsOfItsOwn (Adjusted id setting) = Unit {0}
IsOfItsOwn (Sent at_once now) = Unit {0}
IsOfItsOwn (SentAgain at_once by index) = Unit {0}
IsOfItsOwn Marked = Unit {0}
IsOfItsOwn (Acknowledged n blocks missing) = Unit {0}
IsOfItsOwn (Abandoned index) = Unit {0}
IsOfItsOwn TailAbandoned = Unit {0}
IsOfItsOwn (Dropped k) = Unit {0}
IsOfItsOwn (Started now) = Unit {0}
IsOfItsOwn Forwarded = Unit {0}
IsOfItsOwn act = ⊥

-- acts of the DATA that comes
abbrev pub IsOfWhatComes : Act → Type 0
IsOfWhatComes (Took piece) = Unit {0}
IsOfWhatComes (Deferred piece) = Unit {0}
IsOfWhatComes (PassedOver tsn skipped) = Unit {0}
IsOfWhatComes Reported = Unit {0}
IsOfWhatComes (WasRead id) = Unit {0}
IsOfWhatComes act = ⊥

-- the stream of this identifier, if it is live, sends ordered, reliable messages
abbrev pub IsKeptInOrder : StreamMap → ℕ → Type 0
IsKeptInOrder m s = (t : StreamView) → stream_at m s ≡ Some t → t.params ≡ ordered_and_reliable

-- this act sets order or reliability of the stream s: the application did, or a span ended and of the live streams of
-- that moment this one sends other messages than ordered, reliable ones
abbrev pub SetsReliability : Act → ℕ → Type 0
SetsReliability (Adjusted id (settings.Reliability params)) s = id ≡ s
SetsReliability (SpansEnded ids m) s = IsKeptInOrder m s → ⊥
SetsReliability act s = ⊥

-- the stream of this identifier, if it is live, can be read
abbrev pub HasReadOpen : StreamMap → ℕ → Type 0
HasReadOpen m s = (t : StreamView) → stream_at m s ≡ Some t → is_read_half_open t.halves ≡ true

-- this act ends the span of the stream s
abbrev pub EndsSpanOf : Act → ℕ → Type 0
EndsSpanOf (SpansEnded ids m) s = mem s ids ≡ true
EndsSpanOf act s = ⊥
