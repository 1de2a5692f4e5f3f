-- Counters of a stream generation, after the identifiers of a WebRTC data channel (RFC 8831 sections 6.6 and 8).
use Rattle.std.specs.Prelude.{ℕ, ◌+◌, ◌-◌, ◌^◌, min}
use Rattle.sctp_wire_types.specs.declared.ids.PayloadProtocolIdentifier.{PayloadProtocolIdentifier}
use Rattle.sctp_wire_types.specs.declared.ids.PayloadProtocolIdentifier.TheVariants as kinds
use Rattle.sctp_streams.specs.declared.stats.DataChannelStats.{DataChannelStats}

-- whether a message of this payload type is application data: 1 or 0
abbrev pub messages_of : PayloadProtocolIdentifier → ℕ
messages_of kinds.Dcep = 0
messages_of kinds.String = 1
messages_of kinds.Binary = 1
messages_of kinds.StringEmpty = 1
messages_of kinds.BinaryEmpty = 1
messages_of kinds.Unknown = 0

-- how many of a message's bytes are the application's
abbrev pub bytes_of : PayloadProtocolIdentifier → ℕ → ℕ
bytes_of kinds.Dcep bytes = 0
bytes_of kinds.String bytes = bytes
bytes_of kinds.Binary bytes = bytes
bytes_of kinds.StringEmpty bytes = 0
bytes_of kinds.BinaryEmpty bytes = 0
bytes_of kinds.Unknown bytes = 0

abbrev pub fresh_stats : ℕ → ℕ → DataChannelStats
fresh_stats id generation = record {
  stream_identifier = id;
  generation = generation;
  messages_sent = 0;
  bytes_sent = 0;
  messages_received = 0;
  bytes_received = 0;
}

-- a counter that stays at the greatest number of 64 bits
abbrev pub counted_up : ℕ → ℕ → ℕ
counted_up n more = min (n + more) (2 ^ 64 - 1)

abbrev pub with_sent : DataChannelStats → PayloadProtocolIdentifier → ℕ → DataChannelStats
with_sent s kind bytes = record s {
  messages_sent = counted_up s.messages_sent (messages_of kind);
  bytes_sent = counted_up s.bytes_sent (bytes_of kind bytes);
}

abbrev pub with_received : DataChannelStats → PayloadProtocolIdentifier → ℕ → DataChannelStats
with_received s kind bytes = record s {
  messages_received = counted_up s.messages_received (messages_of kind);
  bytes_received = counted_up s.bytes_received (bytes_of kind bytes);
}
