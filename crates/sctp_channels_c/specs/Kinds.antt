-- What the structs of C say of a channel.
use Rattle.std.specs.Prelude.{◌≡◌, ℕ, ◌==◌, Bool, true, false, nat_lt, not, if◌then◌else◌, List, length}
use Rattle.std.specs.Prelude.{Option, Some, None}
use Rattle.sctp_wire_types.specs.declared.ids.PayloadProtocolIdentifier.{PayloadProtocolIdentifier}
use Rattle.dcep_messages.specs.declared.persistence.Persistence.{Persistence}
use Rattle.dcep_messages.specs.declared.persistence.Persistence.TheVariants as persistences
use Rattle.dcep_messages.specs.Codec.{label_in, ordered_in, persistence_in, priority_in, protocol_in}
use Rattle.channel_table.specs.declared.channel.ChannelState.{ChannelState}
use Rattle.channel_table.specs.declared.channel.ChannelState.TheVariants as states
use Rattle.channel_table.specs.declared.kind.ChannelKind.{ChannelKind}
use Rattle.channel_table.specs.declared.kind.Role.{Role}
use Rattle.channel_table.specs.declared.kind.Role.TheVariants as roles
use Rattle.channel_table.specs.Channels.{ChannelView, state_of}
use Rattle.channel_table.specs.Payloads.{binary_type, is_empty, text_type}
use Rattle.sctp_channels_c.specs.declared.opening.Options.{Options}
use Rattle.sctp_channels_c.specs.declared.questions.Info.{Info}

-- a client's or a server's
abbrev pub names_role : ℕ → Bool
names_role number = nat_lt number 2

abbrev pub role_by : ℕ → Role
role_by number = if number == 0 then roles.Client else roles.Server

-- how long each message is tried
abbrev pub persistence_by : ℕ → ℕ → Persistence
persistence_by reliability value =
    if reliability == 1 then persistences.Retransmits value else
    if reliability == 2 then persistences.LifeTime value else persistences.Reliable

abbrev pub negotiated_by : Bool → ℕ → Option ℕ
negotiated_by negotiated id = if negotiated then Some id else None

-- what a channel is asked to be
abbrev pub kind_by : Options → ChannelKind
kind_by o = record {
  ordered = not o.unordered;
  persistence = persistence_by o.reliability o.value;
  priority = o.priority;
  negotiated = negotiated_by o.negotiated o.id;
}

-- the payload type of a message
abbrev pub message_type : Bool → List ℕ → PayloadProtocolIdentifier
message_type true message = text_type (is_empty message)
message_type false message = binary_type (is_empty message)

abbrev pub reliability_number : Persistence → ℕ
reliability_number persistences.Reliable = 0
reliability_number (persistences.Retransmits n) = 1
reliability_number (persistences.LifeTime ms) = 2

abbrev pub value_number : Persistence → ℕ
value_number persistences.Reliable = 0
value_number (persistences.Retransmits n) = n
value_number (persistences.LifeTime ms) = ms

abbrev pub state_number : ChannelState → ℕ
state_number states.Connecting = 0
state_number states.Open = 1
state_number states.Closing = 2

-- what a channel is, as C is told
abbrev pub info_of : ChannelView → Info
info_of c = record {
  reliability = reliability_number (persistence_in c.open_message);
  value = value_number (persistence_in c.open_message);
  state = state_number (state_of c.stage);
  priority = priority_in c.open_message;
  label_length = length (label_in c.open_message);
  protocol_length = length (protocol_in c.open_message);
  unordered = not (ordered_in c.open_message);
  negotiated = c.negotiated;
}

-- what a channel is was written, where there is one
abbrev pub TellsInfo : Option ChannelView → ℕ → Info → Info → Type 0
TellsInfo None code before after = (code ≡ 43) × (after ≡ before)
TellsInfo (Some c) code before after = (code ≡ 0) × (after ≡ info_of c)

abbrev pub label_at : Option ChannelView → Option (List ℕ)
label_at None = None
label_at (Some c) = Some (label_in c.open_message)

abbrev pub protocol_at : Option ChannelView → Option (List ℕ)
protocol_at None = None
protocol_at (Some c) = Some (protocol_in c.open_message)
