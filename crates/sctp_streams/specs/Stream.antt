-- One live stream of an association (RFC 4960 section 1.3, "Stream").
use Rattle.std.specs.Prelude.{ℕ, Bool, true, false, ◌&&◌, ◌==◌, ◌+◌, ◌-◌, ◌%◌, ◌^◌, if◌then◌else◌, nat_lt, nat_le}
use Rattle.std.specs.Prelude.{length, Option, Some, None}
use Rattle.sctp_wire_types.specs.declared.ids.PayloadProtocolIdentifier.TheVariants as kinds
use Rattle.sctp_wire_types.specs.declared.reliability.Policy.{Policy}
use Rattle.sctp_wire_types.specs.declared.reliability.Policy.TheVariants.{Reliable, Rexmit, Timed}
use Rattle.sctp_wire_types.specs.declared.reliability.ReliabilityType.{ReliabilityType}
use Rattle.sctp_wire_types.specs.declared.reliability.ReliabilityType.TheVariants as types
use Rattle.sctp_streams.specs.declared.halves.RecvSendState.{RecvSendState}
use Rattle.sctp_streams.specs.declared.halves.RecvSendState.TheVariants as open_halves
use Rattle.sctp_streams.specs.declared.halves.ReliabilityParams.{ReliabilityParams}
use Rattle.sctp_wire_types.specs.declared.ids.PayloadProtocolIdentifier.{PayloadProtocolIdentifier}
use Rattle.sctp_streams.specs.declared.setting.Setting.{Setting}
use Rattle.sctp_streams.specs.declared.setting.Setting.TheVariants as settings
use Rattle.sctp_streams.specs.declared.stats.DataChannelStats.{DataChannelStats}
use Rattle.sctp_wire_types.specs.declared.chunk.ChunkPayloadData.{ChunkPayloadData}
use Rattle.sctp_receive_queues.specs.Messages.{ReceivedMessage, bytes_left}
use Rattle.sctp_receive_queues.specs.Reassembly.{Reassembly, empty_reassembly, is_ready, pushed, skipped, taken}
use Rattle.sctp_receive_queues.specs.Reassembly.{unordered_skipped}
use Rattle.sctp_streams.specs.Stats.{fresh_stats, with_sent, with_received}

-- The halves of a stream.

abbrev pub halves_of : ℕ → RecvSendState
halves_of number =
    if number == 1 then open_halves.Readable else
    if number == 2 then open_halves.Writable else
    if number == 3 then open_halves.ReadWritable else open_halves.Closed

abbrev pub is_read_half_open : RecvSendState → Bool
is_read_half_open open_halves.Closed = false
is_read_half_open open_halves.Readable = true
is_read_half_open open_halves.Writable = false
is_read_half_open open_halves.ReadWritable = true

abbrev pub is_write_half_open : RecvSendState → Bool
is_write_half_open open_halves.Closed = false
is_write_half_open open_halves.Readable = false
is_write_half_open open_halves.Writable = true
is_write_half_open open_halves.ReadWritable = true

abbrev pub without_read_half : RecvSendState → RecvSendState
without_read_half open_halves.Closed = open_halves.Closed
without_read_half open_halves.Readable = open_halves.Closed
without_read_half open_halves.Writable = open_halves.Writable
without_read_half open_halves.ReadWritable = open_halves.Writable

abbrev pub without_write_half : RecvSendState → RecvSendState
without_write_half open_halves.Closed = open_halves.Closed
without_write_half open_halves.Readable = open_halves.Readable
without_write_half open_halves.Writable = open_halves.Closed
without_write_half open_halves.ReadWritable = open_halves.Readable

-- the policy of a kind: a number of retransmissions, or a time in ms (RFC 3758 sections 3.5 and 4.1)
abbrev pub policy_for : ReliabilityType → ℕ → Policy
policy_for types.Reliable value = Reliable
policy_for types.Rexmit value = Rexmit value
policy_for types.Timed value = Timed value

abbrev pub params_of : Bool → ReliabilityType → ℕ → ReliabilityParams
params_of unordered kind value = record { unordered = unordered; policy = policy_for kind value }

abbrev pub ordered_and_reliable : ReliabilityParams
ordered_and_reliable = record { unordered = false; policy = Reliable }

pub record StreamView : Type 0 where
  pub stats : DataChannelStats
  -- messages of this generation have this identifier or a greater one
  pub first_message_id : ℕ
  pub default_payload_type : PayloadProtocolIdentifier
  pub halves : RecvSendState
  -- order and reliability of later writes
  pub params : ReliabilityParams
  -- the SSN that the next ordered message gets
  pub next_ssn : ℕ
  -- the bytes that were accepted and are not released
  pub buffered : ℕ
  pub low_mark : ℕ
  pub high_mark : ℕ
  pub reassembly : Reassembly

abbrev pub fresh_stream : ℕ → ℕ → ℕ → PayloadProtocolIdentifier → StreamView
fresh_stream id generation first kind = record {
  stats = fresh_stats id generation;
  first_message_id = first;
  default_payload_type = kind;
  halves = open_halves.ReadWritable;
  params = ordered_and_reliable;
  next_ssn = 0;
  buffered = 0;
  low_mark = 0;
  high_mark = 2 ^ 64 - 1;
  reassembly = empty_reassembly;
}

abbrev pub with_halves : StreamView → RecvSendState → StreamView
with_halves s h = record s { halves = h }

abbrev pub with_params : StreamView → ReliabilityParams → StreamView
with_params s params = record s { params = params }

-- an application sets one thing of a stream, and all else stays as it is
abbrev pub with_setting : StreamView → Setting → StreamView
with_setting s (settings.DefaultPayloadType kind) = record s { default_payload_type = kind }
with_setting s (settings.Reliability params) = with_params s params
with_setting s (settings.LowMark bytes) = record s { low_mark = bytes }
with_setting s (settings.HighMark bytes) = record s { high_mark = bytes }
with_setting s settings.WriteHalfClosed = with_halves s (without_write_half s.halves)

-- order and reliability of a message that is written now; one of the data channel establishment protocol is ordered and
-- reliable (RFC 8832 section 6)
abbrev pub params_for : StreamView → PayloadProtocolIdentifier → ReliabilityParams
params_for s kinds.Dcep = ordered_and_reliable
params_for s kinds.String = s.params
params_for s kinds.Binary = s.params
params_for s kinds.StringEmpty = s.params
params_for s kinds.BinaryEmpty = s.params
params_for s kinds.Unknown = s.params

-- a message was accepted for sending; an ordered one has the SSN that was next (RFC 4960 section 6.6)
abbrev pub accepted_by : StreamView → PayloadProtocolIdentifier → ℕ → StreamView
accepted_by s kind bytes = record s {
  next_ssn = (if (params_for s kind).unordered then s.next_ssn else (s.next_ssn + 1) % 2 ^ 16);
  buffered = s.buffered + bytes;
  stats = with_sent s.stats kind bytes;
}

-- so many bytes more take the buffered amount from below the high mark to it or above
abbrev pub reaches_high_mark : StreamView → ℕ → Bool
reaches_high_mark s bytes = nat_lt s.buffered s.high_mark && nat_le s.high_mark (s.buffered + bytes)

-- bytes that the peer acknowledged, or that were given up, were released
abbrev pub released_from : StreamView → ℕ → StreamView
released_from s bytes = record s { buffered = s.buffered - bytes }

-- their release takes the buffered amount from above the low mark to it or below
abbrev pub falls_to_low_mark : StreamView → ℕ → Bool
falls_to_low_mark s bytes = nat_lt s.low_mark s.buffered && nat_le (s.buffered - bytes) s.low_mark

-- an ordered message was dropped before any of it was sent
abbrev pub with_ssn_given_back : StreamView → StreamView
with_ssn_given_back s = record s { next_ssn = (s.next_ssn + 2 ^ 16 - 1) % 2 ^ 16 }

abbrev pub with_restarted_ssn : StreamView → StreamView
with_restarted_ssn s = record s { next_ssn = 0 }

-- a FORWARD TSN passed over the ordered messages up to an SSN (RFC 3758 section 3.6)
abbrev pub stream_skipped : ℕ → StreamView → StreamView
stream_skipped ssn s = record s { reassembly = skipped s.reassembly ssn }

-- it passed over the unordered pieces up to a TSN
abbrev pub stream_passed : ℕ → StreamView → StreamView
stream_passed tsn s = record s { reassembly = unordered_skipped s.reassembly tsn }

-- all that waited to be read was dropped, and the message of SSN 0 is read next
abbrev pub without_unread : StreamView → StreamView
without_unread s = record s { reassembly = empty_reassembly }

abbrev pub stream_pushed : StreamView → ChunkPayloadData → StreamView × Bool
stream_pushed s p = (record s { reassembly = (pushed s.reassembly p).0 }, (pushed s.reassembly p).1)

abbrev pub read_with : StreamView → Reassembly × Option ReceivedMessage → StreamView × Option ReceivedMessage
read_with s (r, None) = (record s { reassembly = r }, None)
read_with s (r, Some m) =
    (record s { reassembly = r; stats = with_received s.stats m.payload_type (length (bytes_left m)) }, Some m)

-- what is left of a stream after a read, and what the read gives
abbrev pub stream_read : StreamView → StreamView × Option ReceivedMessage
stream_read s = read_with s (taken s.reassembly)

-- a read gives a message: the read half is open and a message is ready
abbrev pub gives_messages : StreamView → Bool
gives_messages s = is_read_half_open s.halves && is_ready s.reassembly
