-- What a caller reads of the identifiers of streams ascends: those of the live streams, those of last counters where an
-- association closes, and those that a FORWARD TSN names.
use Rattle.std.specs.Prelude.{◌≡◌, ◌<◌, ℕ, false, List, [], ◌∷◌, ◌++◌, map, Option, ⊤}
use Rattle.std.specs.List.{AllByRecursion}
use Rattle.std.specs.declared.net.ip_addr.IpAddr.{IpAddr}
use Rattle.std.specs.declared.net.socket_addr.SocketAddr.{SocketAddr}
use Rattle.sctp_wire_types.specs.declared.chunk.ChunkInit.{ChunkInit}
use Rattle.sctp_wire_types.specs.declared.chunk.SkippedStream.{SkippedStream}
use Rattle.sctp_wire_types.specs.declared.config.ServerConfig.{ServerConfig}
use Rattle.sctp_wire_types.specs.Config.{Settings}
use Rattle.sctp_streams.specs.declared.event.AssociationError.{AssociationError}
use Rattle.sctp_streams.specs.declared.event.Event.{Event}
use Rattle.sctp_streams.specs.declared.event.Event.TheVariants as events
use Rattle.sctp_streams.specs.Stream.{StreamView}
use Rattle.sctp_streams.specs.Streams.{StreamMap, live_ids}
use Rattle.sctp_outbound.specs.declared.sender.Sender.{Sender}
use Rattle.sctp_outbound.specs.Forward.{forward_of}
use Rattle.sctp_assoc.specs.Closing.{closed_open}
use Rattle.sctp_assoc.specs.Created.{created, joined}
use Rattle.sctp_assoc.specs.Shown.{Shown}
use Rattle.sctp_sides.specs.OneSide.{Call, IsRun}

-- each number is less than the next
abbrev pub IsAscending : List ℕ → Type 0
IsAscending [] = ⊤
IsAscending (n ∷ []) = ⊤
IsAscending (n ∷ m ∷ ns) = (n < m) × IsAscending (m ∷ ns)

-- the counters of a live stream name it
abbrev pub IsNamed : ℕ × StreamView → Type 0
IsNamed e = e.1.stats.stream_identifier ≡ e.0

-- The identifiers of the live streams ascend, and the counters of each stream name it.
pub record StreamsAscend (m : StreamMap) : Type 0 where
  pub ascending : IsAscending (live_ids m)
  pub named : AllByRecursion IsNamed m.by_id

-- Streams ascend in an association as a constructor leaves it.

abbrev pub CreatedStreamsAscend : Type 0
CreatedStreamsAscend = (of_server : Option ServerConfig) (config : Settings) (size tag initial_tsn : ℕ)
    (cookie : List ℕ) (remote_addr : SocketAddr) (local_ip : Option IpAddr) (now : ℕ)
    → StreamsAscend (created of_server config size tag initial_tsn cookie remote_addr local_ip now).streams

abbrev pub JoinedStreamsAscend : Type 0
JoinedStreamsAscend = (config : Settings) (size : ℕ) (remote_addr : SocketAddr) (local_ip : Option IpAddr)
    (own peer : ChunkInit) → StreamsAscend (joined config size remote_addr local_ip own peer).streams

-- They do so after every list of calls, whatever the peer sends, unless the association failed.
abbrev pub RunsKeepStreamsAscending : Type 0
RunsKeepStreamsAscending = (calls : List Call) (told : List Event) (a b : Shown) → StreamsAscend a.streams
    → IsRun calls told a b → b.failed ≡ false → StreamsAscend b.streams

-- the stream whose last counters an event tells, if it tells any
abbrev pub final_id_of : Event → List ℕ
final_id_of events.Connected = []
final_id_of (events.HandshakeFailed reason) = []
final_id_of (events.AssociationLost reason) = []
final_id_of (events.Stream e) = []
final_id_of (events.DataChannelStatsFinal stats) = stats.stream_identifier ∷ []
final_id_of events.DatagramReceived = []

-- the streams whose last counters these events tell, in order
abbrev pub final_ids : List Event → List ℕ
final_ids [] = []
final_ids (e ∷ es) = final_id_of e ++ final_ids es

-- Events were told behind those that waited, and they tell the last counters of these streams.
pub record TellsLastOf (ids : List ℕ) (before after : List Event) : Type 0 where
  pub told : List Event
  pub behind : after ≡ before ++ told
  pub finals : final_ids told ≡ ids

-- Where streams ascend, a close tells the last counters of the live streams, identifiers ascending.
abbrev pub ClosesTellAscending : Type 0
ClosesTellAscending = (a : Shown) (reason : AssociationError) → StreamsAscend a.streams
    → TellsLastOf (live_ids a.streams) a.events (closed_open a reason).events × IsAscending (live_ids a.streams)

-- the streams of which a FORWARD TSN skips messages (RFC 3758 section 3.2)
abbrev pub skipped_ids : List SkippedStream → List ℕ
skipped_ids skips = map (λ s. s.stream_identifier) skips

-- A FORWARD TSN names the streams whose ordered messages it skips by ascending identifiers, each once.
abbrev pub ForwardsAscend : Type 0
ForwardsAscend = (s : Sender) → IsAscending (skipped_ids (forward_of s).streams)
