-- Associations in which no reset of a stream is under way, and that calls begin none.
use Rattle.std.specs.Prelude.{◌≡◌, ℕ, List, [], ◌∷◌, ◌++◌, None, Option, ⊤}
use Rattle.std.specs.List.{AllByRecursion}
use Rattle.std.specs.declared.net.ip_addr.IpAddr.{IpAddr}
use Rattle.std.specs.declared.net.socket_addr.SocketAddr.{SocketAddr}
use Rattle.sctp_wire_types.specs.declared.chunk.Chunk.{Chunk}
use Rattle.sctp_wire_types.specs.declared.chunk.Chunk.TheVariants as chunks
use Rattle.sctp_wire_types.specs.declared.chunk.ChunkInit.{ChunkInit}
use Rattle.sctp_wire_types.specs.declared.config.ServerConfig.{ServerConfig}
use Rattle.sctp_wire_types.specs.declared.ids.PayloadProtocolIdentifier.{PayloadProtocolIdentifier}
use Rattle.sctp_wire_types.specs.declared.packet.CommonHeader.{CommonHeader}
use Rattle.sctp_wire_types.specs.Config.{Settings}
use Rattle.sctp_streams.specs.declared.event.AssociationError.{AssociationError}
use Rattle.sctp_streams.specs.declared.setting.Setting.{Setting}
use Rattle.sctp_inbound.specs.declared.receiver.AckTrigger.{AckTrigger}
use Rattle.sctp_generations.specs.Generations.{no_generations}
use Rattle.sctp_reset_requests.specs.Debts.{no_debt}
use Rattle.sctp_assoc.specs.declared.control.Control.{Control}
use Rattle.sctp_assoc.specs.declared.control.Control.TheVariants as controls
use Rattle.sctp_assoc.specs.Calls.{accepted_stream, adjusted, event_polled, opened, read_from_stream}
use Rattle.sctp_assoc.specs.Calls.{with_max_send_message_size, written}
use Rattle.sctp_assoc.specs.Chunks.{ended, on_chunk}
use Rattle.sctp_assoc.specs.Closing.{closed_by, exhausted}
use Rattle.sctp_assoc.specs.Created.{created, joined}
use Rattle.sctp_assoc.specs.Gather.{packet_bytes, polled}
use Rattle.sctp_assoc.specs.Shown.{Shown}
use Rattle.sctp_assoc.specs.Shutdown.{endpoint_event_polled, shutdown_begun}
use Rattle.sctp_assoc.specs.Timeouts.{after_timeouts}

-- any chunk but RE-CONFIG (RFC 6525 section 3.1)
abbrev pub IsNoReconfig : Chunk → Type 0
IsNoReconfig (chunks.Reconfig reconfig) = ⊥
IsNoReconfig chunk = ⊤

-- what waits to go out is of no reset
abbrev pub IsOfNoReset : Control → Type 0
IsOfNoReset (controls.Packet p) = IsNoReconfig p.chunk
IsOfNoReset controls.OwnRequest = ⊥

-- No reset is under way: of this side no stream waits to be reset, no request is open, and the peer reset its half of
-- each stream that this side reset first; no request of the peer waits; the application is owed the end of none, and
-- none failed; no generation of a stream that ended is still read, and nothing is kept for one that is not read yet;
-- and nothing that waits to go out is of a reset.
pub record HasNoReset (a : Shown) : Type 0 where
  pub waiting : a.resets.own.waiting ≡ []
  pub queued : a.resets.own.queued ≡ []
  pub active : a.resets.own.active ≡ None
  pub ahead : a.resets.own.ahead ≡ []
  pub in_progress : a.resets.peer.in_progress ≡ None
  pub owed : a.resets.debts ≡ no_debt
  pub kept : a.resets.generations ≡ no_generations
  pub control : AllByRecursion IsOfNoReset a.control

-- A call that leads from one association to another begins no reset.
abbrev pub BeginsNoReset : Shown → Shown → Type 0
BeginsNoReset a b = HasNoReset a → HasNoReset b

-- A constructor begins none.
abbrev pub CreatedSidesResetNothing : Type 0
CreatedSidesResetNothing =
    (of_server : Option ServerConfig) (config : Settings) (size tag initial_tsn : ℕ) (cookie : List ℕ)
    (remote_addr : SocketAddr) (local_ip : Option IpAddr) (now : ℕ)
    → HasNoReset (created of_server config size tag initial_tsn cookie remote_addr local_ip now)

abbrev pub JoinedSidesResetNothing : Type 0
JoinedSidesResetNothing =
    (config : Settings) (size : ℕ) (remote_addr : SocketAddr) (local_ip : Option IpAddr) (own peer : ChunkInit)
    → HasNoReset (joined config size remote_addr local_ip own peer)

-- Nor does a call of the application; that which stops a stream is none of these.
abbrev pub OpenedStreamsBeginNoReset : Type 0
OpenedStreamsBeginNoReset =
    (a : Shown) (id : ℕ) (kind : PayloadProtocolIdentifier) → BeginsNoReset a (opened a id kind)

abbrev pub WritesBeginNoReset : Type 0
WritesBeginNoReset = (a : Shown) (id : ℕ) (named : Option PayloadProtocolIdentifier) (bytes : List ℕ)
    → BeginsNoReset a (written a id named bytes)

abbrev pub SettingsBeginNoReset : Type 0
SettingsBeginNoReset = (a : Shown) (id : ℕ) (setting : Setting) → BeginsNoReset a (adjusted a id setting)

abbrev pub LimitsBeginNoReset : Type 0
LimitsBeginNoReset = (a : Shown) (size : ℕ) → BeginsNoReset a (with_max_send_message_size a size)

abbrev pub AcceptedStreamsBeginNoReset : Type 0
AcceptedStreamsBeginNoReset = (a : Shown) → BeginsNoReset a (accepted_stream a).0

abbrev pub ReadsBeginNoReset : Type 0
ReadsBeginNoReset = (a : Shown) (id : ℕ) → BeginsNoReset a (read_from_stream a id).0

abbrev pub ToldEventsBeginNoReset : Type 0
ToldEventsBeginNoReset = (a : Shown) → BeginsNoReset a (event_polled a).0

abbrev pub ShutdownsBeginNoReset : Type 0
ShutdownsBeginNoReset = (a : Shown) → BeginsNoReset a (shutdown_begun a)

abbrev pub EndpointEventsBeginNoReset : Type 0
EndpointEventsBeginNoReset = (a : Shown) → BeginsNoReset a (endpoint_event_polled a).0

abbrev pub ClosesBeginNoReset : Type 0
ClosesBeginNoReset = (a : Shown) (reason : AssociationError) → BeginsNoReset a (closed_by a reason)

abbrev pub ExhaustionBeginsNoReset : Type 0
ExhaustionBeginsNoReset = (a : Shown) → BeginsNoReset a (exhausted a)

-- Nor do timers and polls.
abbrev pub TimersBeginNoReset : Type 0
TimersBeginNoReset = (a : Shown) (now : ℕ) → BeginsNoReset a (after_timeouts a now)

abbrev pub PollsBeginNoReset : Type 0
PollsBeginNoReset = (a : Shown) (now : ℕ) → BeginsNoReset a (polled a now).0

-- Nor does a chunk that is no RE-CONFIG, or the end of a packet.
abbrev pub OtherChunksBeginNoReset : Type 0
OtherChunksBeginNoReset = (a : Shown) (header : CommonHeader) (chunk : Chunk) (trigger : AckTrigger) (now : ℕ)
    → IsNoReconfig chunk → BeginsNoReset a (on_chunk a header chunk trigger now).0

abbrev pub PacketEndsBeginNoReset : Type 0
PacketEndsBeginNoReset = (a : Shown) (trigger : AckTrigger) (now : ℕ) → BeginsNoReset a (ended a trigger now)

-- the packets of what waits to go out; a place of a request gives none by itself
abbrev pub packets_of_control : Control → List (List ℕ)
packets_of_control (controls.Packet p) = packet_bytes p.header p.chunk
packets_of_control controls.OwnRequest = []

abbrev pub control_packets : List Control → List (List ℕ)
control_packets [] = []
control_packets (c ∷ cs) = packets_of_control c ++ control_packets cs
