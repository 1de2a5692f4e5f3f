-- What two sides agree on before DATA flows (RFC 4960 section 5.1).
use Rattle.std.specs.Prelude.{ℕ, Bool, true, false, ◌==◌, ◌&&◌, ◌||◌, if◌then◌else◌, min, nat_le, List, [], Option}
use Rattle.std.specs.Prelude.{Some, None}
use Rattle.std.specs.List.{list_any}
use Rattle.std.specs.Str.{bytes_eq}
use Rattle.sctp_wire_types.specs.declared.ids.Side.{Side}
use Rattle.sctp_wire_types.specs.declared.ids.Side.TheVariants as sides
use Rattle.sctp_wire_types.specs.declared.param.Param.{Param}
use Rattle.sctp_wire_types.specs.declared.param.Param.TheVariants as params
use Rattle.sctp_wire_types.specs.declared.chunk.ChunkInit.{ChunkInit}
use Rattle.sctp_wire_types.specs.declared.packet.CommonHeader.{CommonHeader}
use Rattle.sctp_wire_types.specs.Config.{Settings}
use Rattle.sctp_inbound.specs.declared.handshake.Handshake.{Handshake}
use Rattle.sctp_inbound.specs.declared.handshake.Offer.{Offer}

-- a Supported Extensions parameter that lists FORWARD TSN, chunk type 192 (RFC 5061 section 4.2.7, RFC 3758 section
-- 3.1)
abbrev pub is_extensions_with_forward_tsn : Param → Bool
is_extensions_with_forward_tsn (params.HeartbeatInfo bytes) = false
is_extensions_with_forward_tsn (params.StateCookie bytes) = false
is_extensions_with_forward_tsn (params.OutgoingResetRequest request) = false
is_extensions_with_forward_tsn (params.ReconfigResponse response) = false
is_extensions_with_forward_tsn (params.SupportedExtensions types) = list_any (λ t. t == 192) types
is_extensions_with_forward_tsn (params.Other kind bytes) = false

abbrev pub lists_forward_tsn : ChunkInit → Bool
lists_forward_tsn init = list_any is_extensions_with_forward_tsn init.params

-- the values that two tokens fix: each side sends on no more streams than the other takes
abbrev pub by_tokens_of : Settings → ChunkInit → ChunkInit → Handshake
by_tokens_of config own peer = record {
  my_verification_tag = own.initiate_tag;
  my_initial_tsn = own.initial_tsn;
  peer_verification_tag = peer.initiate_tag;
  peer_initial_tsn = Some peer.initial_tsn;
  source_port = config.local_port;
  destination_port = config.remote_port;
  num_outbound_streams = min config.max_num_outbound_streams peer.num_inbound_streams;
  num_inbound_streams = min config.max_num_inbound_streams peer.num_outbound_streams;
  use_forward_tsn = lists_forward_tsn peer;
  completed = true;
  cookie = [];
  cookie_issued = false;
  offer = None;
  echo = None;
}

-- what the INIT of a configuration offers (RFC 4960 section 3.3.2)
abbrev pub offer_of : Settings → Offer
offer_of config = record {
  window = config.max_receive_buffer_size;
  num_outbound_streams = config.max_num_outbound_streams;
  num_inbound_streams = config.max_num_inbound_streams;
}

-- nothing is known of the peer
abbrev pub fresh_of : Settings → ℕ → ℕ → List ℕ → Option Offer → Handshake
fresh_of config tag initial_tsn cookie offer = record {
  my_verification_tag = tag;
  my_initial_tsn = initial_tsn;
  peer_verification_tag = 0;
  peer_initial_tsn = None;
  source_port = config.local_port;
  destination_port = config.remote_port;
  num_outbound_streams = config.max_num_outbound_streams;
  num_inbound_streams = config.max_num_inbound_streams;
  use_forward_tsn = false;
  completed = false;
  cookie = cookie;
  cookie_issued = false;
  offer = offer;
  echo = None;
}

-- the tag and the numbers of streams that an INIT or INIT ACK says: each side sends on no more streams than the other
-- takes
abbrev pub with_answer : Handshake → ChunkInit → Handshake
with_answer h init = record h {
  num_inbound_streams = min h.num_inbound_streams init.num_outbound_streams;
  num_outbound_streams = min h.num_outbound_streams init.num_inbound_streams;
  peer_verification_tag = init.initiate_tag;
}

-- the peer's initial TSN and its extensions
abbrev pub with_parameters : Handshake → ChunkInit → Handshake
with_parameters h init = record h {
  peer_initial_tsn = Some init.initial_tsn;
  use_forward_tsn = h.use_forward_tsn || lists_forward_tsn init;
}

-- the peer is at the port from which a packet came, and this side at the one to which it went
abbrev pub with_ports : Handshake → CommonHeader → Handshake
with_ports h header = record h { source_port = header.destination_port; destination_port = header.source_port }

-- an INIT came, and this side's cookie is given out in answer
abbrev pub learned_by_init : Handshake → CommonHeader → ChunkInit → Handshake
learned_by_init h header init =
    (let met = with_parameters (with_ports (with_answer h init) header) init in record met { cookie_issued = true })

-- a packet goes the way back between the ports of this side's own
abbrev pub comes_back : Handshake → CommonHeader → Bool
comes_back h header = header.destination_port == h.source_port && header.source_port == h.destination_port

-- an INIT ACK came; with other ports its tag and its numbers of streams count alone
abbrev pub learned_by_init_ack : Handshake → CommonHeader → ChunkInit → Handshake
learned_by_init_ack h header init =
    if comes_back h header then
    (let met = with_parameters (with_answer h init) init in record met { offer = None }) else with_answer h init

-- this is the cookie that was given out
abbrev pub has_issued : Handshake → List ℕ → Bool
has_issued h cookie = h.cookie_issued && bytes_eq h.cookie cookie

-- the handshake is over, and nothing of it is sent again
abbrev pub established : Handshake → Handshake
established h = record h { completed = true; offer = None; echo = None }

-- the header of the packets that a side gives out (RFC 4960 section 8.5)
abbrev pub header_of : Handshake → CommonHeader
header_of h = record {
  source_port = h.source_port;
  destination_port = h.destination_port;
  verification_tag = h.peer_verification_tag;
}

abbrev pub side_of : Handshake → Side
side_of h = if nat_le h.my_verification_tag h.peer_verification_tag then sides.Server else sides.Client
