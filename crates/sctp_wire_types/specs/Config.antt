use Rattle.std.specs.Prelude.{ℕ, Bool, true, false, Option, Some, None}
use Rattle.sctp_wire_types.specs.declared.config.Profile.{Profile}
use Rattle.sctp_wire_types.specs.declared.config.Profile.TheVariants as profiles

-- what an association is configured with
pub record Settings : Type 0 where
  pub max_receive_buffer_size : ℕ
  pub max_send_message_size : ℕ
  pub max_receive_message_size : ℕ
  pub max_num_outbound_streams : ℕ
  pub max_num_inbound_streams : ℕ
  pub local_port : ℕ
  pub remote_port : ℕ
  pub rto_initial_ms : ℕ
  pub rto_min_ms : ℕ
  pub rto_max_ms : ℕ
  pub max_init_retransmits : Option ℕ
  pub max_data_retransmits : Option ℕ
  -- the rules that the association keeps; with None its maker chooses
  pub profile : Option Profile

-- the values of a configuration that nobody changed
abbrev pub default_config : Settings
default_config = record {
  max_receive_buffer_size = 1048576;
  max_send_message_size = 65536;
  max_receive_message_size = 65536;
  max_num_outbound_streams = 65535;
  max_num_inbound_streams = 65535;
  local_port = 5000;
  remote_port = 5000;
  rto_initial_ms = 3000;
  rto_min_ms = 1000;
  rto_max_ms = 60000;
  max_init_retransmits = Some 8;
  max_data_retransmits = None;
  profile = None;
}

-- the rules are those of the RFCs
abbrev pub is_rfc : Profile → Bool
is_rfc profiles.Port = false
is_rfc profiles.Rfc = true
