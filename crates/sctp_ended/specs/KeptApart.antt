-- DATA of other streams than those that are reset is never kept apart (RFC 6525 section 5.2.2).
use Rattle.std.specs.Prelude.{◌≡◌, ◌⊎◌, ℕ, true, false, List, [], Option}
use Rattle.std.specs.List.{AllByRecursion}
use Rattle.std.specs.declared.net.ip_addr.IpAddr.{IpAddr}
use Rattle.std.specs.declared.net.socket_addr.SocketAddr.{SocketAddr}
use Rattle.sctp_wire_types.specs.declared.chunk.ChunkInit.{ChunkInit}
use Rattle.sctp_wire_types.specs.declared.chunk.ChunkPayloadData.{ChunkPayloadData}
use Rattle.sctp_wire_types.specs.declared.config.ServerConfig.{ServerConfig}
use Rattle.sctp_wire_types.specs.Config.{Settings}
use Rattle.sctp_streams.specs.declared.event.Event.{Event}
use Rattle.sctp_reset_requests.specs.Peer.{is_deferred}
use Rattle.sctp_assoc.specs.Created.{created, joined}
use Rattle.sctp_assoc.specs.Shown.{Shown}
use Rattle.sctp_sides.specs.OneSide.{Call, IsRun}
use Rattle.sctp_sides.specs.Repeats.{IsReadOfOld}

-- Each piece that is kept apart is of a stream of which a generation that ended is still read, or lies above the last
-- TSN of the request of the peer in progress, which names its stream.
abbrev pub KeepsOnlyLaterDataApart : Shown → Type 0
KeepsOnlyLaterDataApart a =
    AllByRecursion
    (λ (piece : ChunkPayloadData).
    IsReadOfOld a piece.stream_identifier ⊎ (is_deferred a.resets.peer piece.stream_identifier piece.tsn ≡ true))
    a.resets.generations.deferred

-- So it stays over every list of calls, whatever the peer sends, unless the association failed.
abbrev pub OtherDataIsNeverKeptApart : Type 0
OtherDataIsNeverKeptApart =
    (calls : List Call) (told : List Event) (a b : Shown) → KeepsOnlyLaterDataApart a → IsRun calls told a b
    → b.failed ≡ false → KeepsOnlyLaterDataApart b

-- Both constructors leave an association that keeps nothing apart.

abbrev pub CreatedSidesKeepNothingApart : Type 0
CreatedSidesKeepNothingApart = (of_server : Option ServerConfig) (config : Settings) (size tag initial_tsn : ℕ)
    (cookie : List ℕ) (remote_addr : SocketAddr) (local_ip : Option IpAddr) (now : ℕ)
    → (created of_server config size tag initial_tsn cookie remote_addr local_ip now).resets.generations.deferred ≡ []

abbrev pub JoinedSidesKeepNothingApart : Type 0
JoinedSidesKeepNothingApart = (config : Settings) (size : ℕ) (remote_addr : SocketAddr) (local_ip : Option IpAddr)
    (own peer : ChunkInit)
    → (joined config size remote_addr local_ip own peer).resets.generations.deferred ≡ []
