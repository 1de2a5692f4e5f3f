-- What the structs that C hands over stand for.
use Rattle.std.specs.Prelude.{ℕ, Bool, true, false, not, ◌==◌, ◌||◌, if◌then◌else◌, nat_lt, [], Option, Some, None}
use Rattle.sctp_wire_types.specs.declared.config.Profile.{Profile}
use Rattle.sctp_wire_types.specs.declared.config.Profile.TheVariants as profiles
use Rattle.sctp_wire_types.specs.declared.chunk.ChunkInit.{ChunkInit}
use Rattle.sctp_wire_types.specs.Config.{Settings, default_config}
use Rattle.sctp_assoc.specs.Created.{token_of}
use Rattle.sctp_c.specs.declared.config.Config.{Config}
use Rattle.sctp_c.specs.declared.config.Token.{Token}

-- how often something is sent again; the greatest number of 64 bits is no limit
abbrev pub limit_of : ℕ → Option ℕ
limit_of retransmits = if retransmits == 18446744073709551615 then None else Some retransmits

-- the rules of the RFCs have the number 0, and those of the port 1
abbrev pub profile_by : ℕ → Profile
profile_by number = if number == 0 then profiles.Rfc else profiles.Port

-- no other number names a profile
abbrev pub names_profile : Config → Bool
names_profile c = nat_lt c.profile 2

-- Why no side can be made with a configuration, as a code: its profile has no name, a port is 0, no streams are offered,
-- or a peer refuses the window (RFC 4960 section 3.3.2). 0 is no reason.
abbrev pub config_refusal : Config → ℕ
config_refusal c =
    if not (names_profile c) then 63 else
    if c.local_port == 0 || c.remote_port == 0 then 64 else
    if c.max_num_outbound_streams == 0 || c.max_num_inbound_streams == 0 then 65 else
    if nat_lt c.max_receive_buffer_size 1500 then 66 else 0

-- why none can be made that begins a handshake or waits for one: the verification tag is 0, too
abbrev pub side_refusal : Config → ℕ → ℕ
side_refusal c tag = if config_refusal c == 0 then (if tag == 0 then 67 else 0) else config_refusal c

abbrev pub settings_of : Config → Settings
settings_of c = record {
  max_receive_buffer_size = c.max_receive_buffer_size;
  max_send_message_size = c.max_send_message_size;
  max_receive_message_size = c.max_receive_message_size;
  max_num_outbound_streams = c.max_num_outbound_streams;
  max_num_inbound_streams = c.max_num_inbound_streams;
  local_port = c.local_port;
  remote_port = c.remote_port;
  rto_initial_ms = c.rto_initial_ms;
  rto_min_ms = c.rto_min_ms;
  rto_max_ms = c.rto_max_ms;
  max_init_retransmits = limit_of c.max_init_retransmits;
  max_data_retransmits = limit_of c.max_data_retransmits;
  profile = Some (profile_by c.profile);
}

-- the configuration whose token has these values
abbrev pub token_settings : Token → Settings
token_settings t = record default_config {
  max_receive_buffer_size = t.window;
  max_num_outbound_streams = t.num_outbound_streams;
  max_num_inbound_streams = t.num_inbound_streams;
}

-- the INIT chunk with these values; without FORWARD TSN it lists no extension
abbrev pub token_chunk : Token → ChunkInit
token_chunk t =
    if t.forward_tsn then token_of (token_settings t) t.tag t.initial_tsn
    else record (token_of (token_settings t) t.tag t.initial_tsn) { params = [] }
