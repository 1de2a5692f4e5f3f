-- An association as it begins: two tokens establish it, or it is to be established by a handshake (RFC 4960 section
-- 5.1). It keeps the rules of the port where its configuration names none.
use Rattle.std.specs.Prelude.{ℕ, false, List, [], ◌∷◌, ◌+◌, ◌-◌, ◌%◌, ◌^◌, ◌==◌, ◌||◌, if◌then◌else◌, nat_lt, is_err}
use Rattle.std.specs.Prelude.{Option, Some, None}
use Rattle.std.specs.Option.{unwrap_or}
use Rattle.std.specs.declared.net.ip_addr.IpAddr.{IpAddr}
use Rattle.std.specs.declared.net.socket_addr.SocketAddr.{SocketAddr}
use Rattle.sctp_wire_types.specs.declared.error.Error.{Error}
use Rattle.sctp_wire_types.specs.declared.error.Error.TheVariants as errors
use Rattle.sctp_wire_types.specs.declared.chunk.ChunkInit.{ChunkInit}
use Rattle.sctp_wire_types.specs.declared.ids.Side.{Side}
use Rattle.sctp_wire_types.specs.declared.ids.Side.TheVariants as sides
use Rattle.sctp_wire_types.specs.declared.config.Profile.TheVariants as profiles
use Rattle.sctp_wire_types.specs.Config.{Settings}
use Rattle.sctp_wire_types.specs.Checks.{checked_init}
use Rattle.sctp_parts.specs.declared.state.AssociationState.{AssociationState}
use Rattle.sctp_parts.specs.declared.state.AssociationState.TheVariants as states
use Rattle.sctp_parts.specs.Timers.{stopped_timers}
use Rattle.sctp_parts.specs.Estimate.{initial_estimate}
use Rattle.sctp_parts.specs.Stats.{no_counts}
use Rattle.sctp_streams.specs.declared.event.Event.TheVariants.{Connected}
use Rattle.sctp_streams.specs.Streams.{no_stream}
use Rattle.sctp_inbound.specs.declared.handshake.Handshake.{Handshake}
use Rattle.sctp_inbound.specs.Greeting.{init_of}
use Rattle.sctp_inbound.specs.Handshake.{by_tokens_of, fresh_of, offer_of, side_of}
use Rattle.sctp_inbound.specs.Receiver.{fresh_receiver}
use Rattle.sctp_outbound.specs.Sender.{fresh_sender}
use Rattle.sctp_resets.specs.Resets.{met_peer, no_resets}
use Rattle.sctp_wire_types.specs.declared.config.ServerConfig.{ServerConfig}
use Rattle.sctp_assoc.specs.Handshake.{sends_init}
use Rattle.sctp_assoc.specs.Shown.{Shown}
use Rattle.sctp_assoc.specs.Shutdown.{nothing_due}

-- the token of a side with this configuration: the INIT that it would send
abbrev pub token_of : Settings → ℕ → ℕ → ChunkInit
token_of config tag initial_tsn = init_of (fresh_of config tag initial_tsn [] None) (offer_of config)

-- why two tokens do not establish an association, want of memory aside
abbrev pub join_refusal : ℕ → ChunkInit → ChunkInit → Option Error
join_refusal size own peer =
    if (size == 0) || nat_lt 65519 size then Some errors.ErrBadPayloadSize else
    if is_err (checked_init own) || is_err (checked_init peer) then Some errors.ErrBadToken else None

-- an association of which nothing was sent and to which nothing came, in this state and with this handshake; the peer's
-- DATA is to begin behind `peer_last_tsn`, and its window is this
abbrev pub fresh_association : Settings → ℕ → SocketAddr → Option IpAddr → Side → AssociationState → Handshake → ℕ → ℕ
    → Shown
fresh_association config size remote_addr local_ip side state handshake peer_last_tsn window = record {
  side = side;
  remote_addr = remote_addr;
  local_ip = local_ip;
  state = state;
  lost = false;
  failed = false;
  max_send_message_size = config.max_send_message_size;
  profile = unwrap_or config.profile profiles.Port;
  handshake = handshake;
  receiver = fresh_receiver config.max_receive_buffer_size config.max_receive_message_size peer_last_tsn;
  sender = fresh_sender (unwrap_or config.profile profiles.Port) size handshake.my_initial_tsn window;
  streams = no_stream;
  to_accept = [];
  events = [];
  handshake_fault = None;
  endpoint_event = None;
  control = [];
  shutdown_due = nothing_due;
  timers = stopped_timers config.max_init_retransmits config.max_data_retransmits config.rto_max_ms;
  estimate = initial_estimate config.rto_initial_ms config.rto_min_ms config.rto_max_ms;
  counts = no_counts;
  resets = no_resets (unwrap_or config.profile profiles.Port) handshake.my_initial_tsn;
}

abbrev pub joined_quietly : Settings → ℕ → SocketAddr → Option IpAddr → ChunkInit → ChunkInit → Shown
joined_quietly config size remote_addr local_ip own peer =
    fresh_association config size remote_addr local_ip (side_of (by_tokens_of config own peer)) states.Established
    (by_tokens_of config own peer)
    ((peer.initial_tsn + 2 ^ 32 - 1) % 2 ^ 32) peer.advertised_receiver_window_credit

-- the association that two tokens establish: nothing was sent, nothing came, and it is connected
abbrev pub joined : Settings → ℕ → SocketAddr → Option IpAddr → ChunkInit → ChunkInit → Shown
joined config size remote_addr local_ip own peer =
    (let a = joined_quietly config size remote_addr local_ip own peer in
    record a { resets = met_peer a.resets peer.initial_tsn; events = Connected ∷ [] })

-- why an association isn't made for a handshake, want of memory aside
abbrev pub create_refusal : ℕ → ℕ → Option Error
create_refusal size initial_tsn =
    if (size == 0) || nat_lt 65519 size then Some errors.ErrBadPayloadSize else
    if initial_tsn == 0 then Some errors.ErrBadInitialTsn else None

-- a server before its handshake, which waits for an INIT
abbrev pub server : Settings → ℕ → ℕ → ℕ → List ℕ → SocketAddr → Option IpAddr → Shown
server config size tag initial_tsn cookie remote_addr local_ip =
    fresh_association config size remote_addr local_ip sides.Server states.Closed
    (fresh_of config tag initial_tsn cookie None) 0 0

abbrev pub silent_client : Settings → ℕ → ℕ → ℕ → List ℕ → SocketAddr → Option IpAddr → Shown
silent_client config size tag initial_tsn cookie remote_addr local_ip =
    fresh_association config size remote_addr local_ip sides.Client states.CookieWait
    (fresh_of config tag initial_tsn cookie (Some (offer_of config))) 0 0

-- a client whose INIT waits to go out, and the timer of that runs
abbrev pub client : Settings → ℕ → ℕ → ℕ → List ℕ → SocketAddr → Option IpAddr → ℕ → Shown
client config size tag initial_tsn cookie remote_addr local_ip now =
    sends_init (silent_client config size tag initial_tsn cookie remote_addr local_ip) now

-- a server where there is a server's configuration, else a client
abbrev pub created : Option ServerConfig → Settings → ℕ → ℕ → ℕ → List ℕ → SocketAddr → Option IpAddr → ℕ → Shown
created None config size tag initial_tsn cookie remote_addr local_ip now =
    client config size tag initial_tsn cookie remote_addr local_ip now
created (Some of_server) config size tag initial_tsn cookie remote_addr local_ip now =
    server config size tag initial_tsn cookie remote_addr local_ip
