-- What ends was closed: no stream is reset, and none ends, that neither the application of this side closed nor the
-- peer (RFC 6525 section 5, RFC 8831 section 6.7).
use Rattle.std.specs.Prelude.{◌≡◌, ◌⊎◌, ℕ, Bool, true, false, ◌==◌, ◌||◌, List, [], ◌∷◌, ◌++◌, length, Option, Some}
use Rattle.std.specs.Prelude.{None, Ok, ⊤}
use Rattle.std.specs.List.{AllByRecursion, list_any}
use Rattle.std.specs.declared.net.ip_addr.IpAddr.{IpAddr}
use Rattle.std.specs.declared.net.socket_addr.SocketAddr.{SocketAddr}
use Rattle.sctp_wire_types.specs.declared.chunk.Chunk.{Chunk}
use Rattle.sctp_wire_types.specs.declared.chunk.Chunk.TheVariants as chunks
use Rattle.sctp_wire_types.specs.declared.chunk.ChunkInit.{ChunkInit}
use Rattle.sctp_wire_types.specs.declared.chunk.ChunkReconfig.{ChunkReconfig}
use Rattle.sctp_wire_types.specs.declared.config.ServerConfig.{ServerConfig}
use Rattle.sctp_wire_types.specs.declared.event.StreamEvent.{StreamEvent}
use Rattle.sctp_wire_types.specs.declared.event.StreamEvent.TheVariants as said
use Rattle.sctp_wire_types.specs.declared.packet.CommonHeader.{CommonHeader}
use Rattle.sctp_wire_types.specs.declared.param.Param.{Param}
use Rattle.sctp_wire_types.specs.declared.param.Param.TheVariants as params
use Rattle.sctp_wire_types.specs.declared.param.ParamOutgoingResetRequest.{ParamOutgoingResetRequest}
use Rattle.sctp_wire_types.specs.Config.{Settings}
use Rattle.sctp_wire.specs.declared.packet.Packet.{Packet}
use Rattle.sctp_wire.specs.Packets.{packet_at}
use Rattle.sctp_streams.specs.declared.event.Event.{Event}
use Rattle.sctp_streams.specs.declared.event.Event.TheVariants as events
use Rattle.sctp_streams.specs.Stream.{StreamView}
use Rattle.sctp_streams.specs.Streams.{StreamMap, stream_at}
use Rattle.sctp_reset_requests.specs.Ids.{has_id}
use Rattle.sctp_assoc.specs.Created.{created, joined}
use Rattle.sctp_assoc.specs.Gather.{packet_bytes, polled}
use Rattle.sctp_assoc.specs.Shown.{Shown}
use Rattle.sctp_sides.specs.NoReset.{HasNoReset}
use Rattle.sctp_sides.specs.OneSide.{Call, IsRun}

-- Which streams were closed

-- a call of the application closes a stream: no more is to be read of it, and it is to be reset
abbrev pub application_closes : ℕ → Call → Bool
application_closes id (Call.Stop stopped) = stopped == id
application_closes id (Call.CloseStream closed) = closed == id
application_closes id call = false

-- a request to reset outgoing streams names a stream: it lists that, or none, which is all (RFC 6525 section 4.1)
abbrev pub names_stream : ℕ → ParamOutgoingResetRequest → Bool
names_stream id request = (length request.stream_identifiers == 0) || has_id id request.stream_identifiers

abbrev pub param_names : ℕ → Param → Bool
param_names id (params.OutgoingResetRequest request) = names_stream id request
param_names id param = false

abbrev pub param_names_if : ℕ → Option Param → Bool
param_names_if id None = false
param_names_if id (Some param) = param_names id param

-- a chunk is a RE-CONFIG with such a request
abbrev pub chunk_names : ℕ → Chunk → Bool
chunk_names id (chunks.Reconfig reconfig) = param_names id reconfig.first || param_names_if id reconfig.second
chunk_names id chunk = false

abbrev pub packet_names : ℕ → Option Packet → Bool
packet_names id None = false
packet_names id (Some packet) = list_any (chunk_names id) packet.chunks

-- the peer closed a stream: a packet that a call hands over has a request of the peer to reset it
abbrev pub peer_closes : ℕ → Call → Bool
peer_closes id (Call.HandleEvent packet now) = packet_names id packet
peer_closes id call = false

-- one of these calls closes a stream, or hands over that the peer closed it
abbrev pub is_closed_by : List Call → ℕ → Bool
is_closed_by calls id = list_any (λ call. application_closes id call || peer_closes id call) calls

-- What goes out

-- a request of this side names none but these streams
abbrev pub AsksOnly : (ℕ → Bool) → ParamOutgoingResetRequest → Type 0
AsksOnly closed request = (id : ℕ) → names_stream id request ≡ true → closed id ≡ true

abbrev pub ParamAsksOnly : (ℕ → Bool) → Param → Type 0
ParamAsksOnly closed (params.OutgoingResetRequest request) = AsksOnly closed request
ParamAsksOnly closed param = ⊤

abbrev pub ParamAsksOnlyIf : (ℕ → Bool) → Option Param → Type 0
ParamAsksOnlyIf closed None = ⊤
ParamAsksOnlyIf closed (Some param) = ParamAsksOnly closed param

-- so does each request of a chunk, if it is a RE-CONFIG
abbrev pub ChunkAsksOnly : (ℕ → Bool) → Chunk → Type 0
ChunkAsksOnly closed (chunks.Reconfig reconfig) =
    ParamAsksOnly closed reconfig.first × ParamAsksOnlyIf closed reconfig.second
ChunkAsksOnly closed chunk = ⊤

-- a datagram is the spelling of one such chunk
abbrev pub SpellsOnly : (ℕ → Bool) → List ℕ → Type 0
SpellsOnly closed bytes =
    (header : CommonHeader) × (chunk : Chunk) × (packet_bytes header chunk ≡ bytes ∷ []) × ChunkAsksOnly closed chunk

-- a datagram is not read as one RE-CONFIG alone, which is what each request goes out in
abbrev pub IsReadAsNoReset : List ℕ → Type 0
IsReadAsNoReset bytes =
    (packet : Packet) (reconfig : ChunkReconfig) → packet_at bytes ≡ Ok packet
    → packet.chunks ≡ chunks.Reconfig reconfig ∷ [] → ⊥

-- a datagram asks to reset none but these streams
abbrev pub ResetsOnly : (ℕ → Bool) → List ℕ → Type 0
ResetsOnly closed bytes = SpellsOnly closed bytes ⊎ IsReadAsNoReset bytes

-- What is told

abbrev pub SaysEndsOnly : (ℕ → Bool) → StreamEvent → Type 0
SaysEndsOnly closed (said.Opened id) = ⊤
SaysEndsOnly closed (said.Readable id) = ⊤
SaysEndsOnly closed (said.Writable id) = ⊤
SaysEndsOnly closed (said.Finished id) = closed id ≡ true
SaysEndsOnly closed (said.ResetComplete id) = closed id ≡ true
SaysEndsOnly closed (said.ResetFailed id reason) = closed id ≡ true
SaysEndsOnly closed (said.Stopped id code) = ⊤
SaysEndsOnly closed (said.BufferedAmountLow id) = ⊤
SaysEndsOnly closed (said.BufferedAmountHigh id) = ⊤
SaysEndsOnly closed said.Available = ⊤

-- An event tells that the peer ended a stream, or how a reset of it ended, of none but these streams. (Last counters
-- are told of each stream where the association is lost.)
abbrev pub EndsOnly : (ℕ → Bool) → Event → Type 0
EndsOnly closed events.Connected = ⊤
EndsOnly closed (events.HandshakeFailed reason) = ⊤
EndsOnly closed (events.AssociationLost reason) = ⊤
EndsOnly closed (events.Stream e) = SaysEndsOnly closed e
EndsOnly closed (events.DataChannelStatsFinal stats) = ⊤
EndsOnly closed events.DatagramReceived = ⊤

-- no event that waits tells of such an end
abbrev pub TellsNoEnd : Shown → Type 0
TellsNoEnd a = AllByRecursion (EndsOnly (λ (id : ℕ). false)) a.events

-- What stays

abbrev pub generation_of : Option StreamView → Option ℕ
generation_of None = None
generation_of (Some s) = Some s.stats.generation

-- the generation of the live stream of an identifier, if there is one
abbrev pub generation_at : StreamMap → ℕ → Option ℕ
generation_at m id = generation_of (stream_at m id)

-- The laws

-- Over every list of calls of an association in which no reset was under way, and whatever the peer sends, what the
-- next poll gives out asks to reset none but streams that these calls closed or hand over as closed by the peer, unless
-- the association failed,
abbrev pub OnlyClosedStreamsAreReset : Type 0
OnlyClosedStreamsAreReset =
    (calls : List Call) (told : List Event) (a b : Shown) (now : ℕ) → HasNoReset a → IsRun calls told a b
    → b.failed ≡ false → AllByRecursion (ResetsOnly (is_closed_by calls)) (polled b now).1

-- and the events that were told and that wait tell of an end of none but these,
abbrev pub OnlyClosedStreamsEnd : Type 0
OnlyClosedStreamsEnd =
    (calls : List Call) (told : List Event) (a b : Shown) → HasNoReset a → TellsNoEnd a → IsRun calls told a b
    → b.failed ≡ false → AllByRecursion (EndsOnly (is_closed_by calls)) (told ++ b.events)

-- and each other stream that was live is live under the same generation, unless the association was lost.
abbrev pub OtherStreamsStayLive : Type 0
OtherStreamsStayLive =
    (id generation : ℕ) (before calls : List Call) (first later : List Event) (start a b : Shown) → HasNoReset start
    → IsRun before first start a → a.failed ≡ false → generation_at a.streams id ≡ Some generation
    → IsRun calls later a b → b.failed ≡ false → b.lost ≡ false → is_closed_by (before ++ calls) id ≡ false
    → generation_at b.streams id ≡ Some generation

-- Both constructors leave an association of which no event tells of an end (and in which no reset is under way).

abbrev pub CreatedSidesTellNoEnd : Type 0
CreatedSidesTellNoEnd = (of_server : Option ServerConfig) (config : Settings) (size tag initial_tsn : ℕ)
    (cookie : List ℕ) (remote_addr : SocketAddr) (local_ip : Option IpAddr) (now : ℕ)
    → TellsNoEnd (created of_server config size tag initial_tsn cookie remote_addr local_ip now)

abbrev pub JoinedSidesTellNoEnd : Type 0
JoinedSidesTellNoEnd = (config : Settings) (size : ℕ) (remote_addr : SocketAddr) (local_ip : Option IpAddr)
    (own peer : ChunkInit)
    → TellsNoEnd (joined config size remote_addr local_ip own peer)
