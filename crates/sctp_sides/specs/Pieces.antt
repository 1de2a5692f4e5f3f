-- The pieces into which messages are cut that wait to be sent (RFC 4960 section 6.9), over every list of calls: one
-- DATA chunk has room for each.
use Rattle.std.specs.Prelude.{◌≡◌, ◌<◌, ◌≤◌, ◌∷◌, ℕ, true, false, List, length, slice_get, Option, Some, None}
use Rattle.std.specs.List.{AllByRecursion}
use Rattle.std.specs.declared.net.ip_addr.IpAddr.{IpAddr}
use Rattle.std.specs.declared.net.socket_addr.SocketAddr.{SocketAddr}
use Rattle.sctp_wire_types.specs.declared.chunk.ChunkInit.{ChunkInit}
use Rattle.sctp_wire_types.specs.declared.chunk.ChunkPayloadData.{ChunkPayloadData}
use Rattle.sctp_wire_types.specs.declared.config.ServerConfig.{ServerConfig}
use Rattle.sctp_wire_types.specs.Config.{Settings}
use Rattle.sctp_wire.specs.DataPackets.{data_packet}
use Rattle.sctp_wire.specs.Packets.{spelling}
use Rattle.sctp_outbound_queue.specs.Outbound.{next_tsn_of}
use Rattle.sctp_outbound_queue.specs.Waiting.{Waiting}
use Rattle.sctp_inbound.specs.Handshake.{header_of}
use Rattle.sctp_outbound.specs.Sender.{asks_at_once, next_chunk_of}
use Rattle.sctp_directions.specs.Acts.{Act, History}
use Rattle.sctp_assoc.specs.Calls.{exchanges_data}
use Rattle.sctp_assoc.specs.Created.{create_refusal, created, join_refusal, joined}
use Rattle.sctp_assoc.specs.Gather.{control_polled, polled}
use Rattle.sctp_assoc.specs.Shown.{Shown}
use Rattle.sctp_sides.specs.Laws.{IsNextWithNothingInFlight, IsNotLate}
use Rattle.sctp_sides.specs.Lifetimes.{DoInOrder, HasNothingToSend}
use Rattle.sctp_sides.specs.OneSide.{Call}

-- A payload has this size at most: one byte has room, and one DATA chunk has room for all of them.
pub record IsPayloadSize (size : ℕ) : Type 0 where
  pub some : 0 < size
  pub small : size ≤ 65519

-- An association is to send nothing yet, and its payload size is such a size.
pub record BeginsToSend (a : Shown) : Type 0 where
  pub size : IsPayloadSize a.sender.max_payload_size
  pub nothing : HasNothingToSend a

-- Each piece of a message that waits has at most so many bytes: the next one, and those behind it.
pub record HasPiecesUpTo (size : ℕ) (m : Waiting) : Type 0 where
  pub next : length m.user_data ≤ size
  pub others : AllByRecursion (λ (piece : List ℕ). length piece ≤ size) m.rest

-- The payload size is what it was, and each piece that waits has at most so many bytes.
pub record PiecesFit (size : ℕ) (b : Shown) : Type 0 where
  pub same : b.sender.max_payload_size ≡ size
  pub fit : AllByRecursion (HasPiecesUpTo size) b.sender.queue.pending

-- Over every list of calls of an association that begins with nothing to send, and whatever the peer sends, each piece
-- that waits fits the payload size, unless the association failed.
abbrev pub PendingPiecesFit : Type 0
PendingPiecesFit = (calls : List Call) (a b : Shown) (h k : History) (acts : List Act) → BeginsToSend a
    → DoInOrder calls a h acts b k → b.failed ≡ false → PiecesFit a.sender.max_payload_size b

-- So the DATA of a poll begins with the next piece of the first message that waits, where nothing is in flight and the
-- message is not given up: that piece is the first chunk of the first packet behind those that wait already.
abbrev pub PollsBeginWithNextPieces : Type 0
PollsBeginWithNextPieces = (calls : List Call) (a b : Shown) (h k : History) (acts : List Act) (now : ℕ) (m : Waiting)
    → BeginsToSend a → DoInOrder calls a h acts b k → b.failed ≡ false → exchanges_data b.state ≡ true
    → IsNextWithNothingInFlight b m → IsNotLate b now m
    → (bundled : List ChunkPayloadData)
    × (slice_get (polled b now).1 (length (control_polled b).1) ≡ Some
    (spelling (data_packet (header_of b.handshake) (next_chunk_of (asks_at_once b.sender) m (next_tsn_of b.sender.queue) ∷ bundled))))

-- Both constructors, where nothing refuses them, leave an association that begins so.
abbrev pub CreatedSidesBeginToSend : Type 0
CreatedSidesBeginToSend = (of_server : Option ServerConfig) (config : Settings) (size tag initial_tsn : ℕ)
    (cookie : List ℕ) (remote_addr : SocketAddr) (local_ip : Option IpAddr) (now : ℕ)
    → create_refusal size initial_tsn ≡ None
    → BeginsToSend (created of_server config size tag initial_tsn cookie remote_addr local_ip now)

abbrev pub JoinedSidesBeginToSend : Type 0
JoinedSidesBeginToSend = (config : Settings) (size : ℕ) (remote_addr : SocketAddr) (local_ip : Option IpAddr)
    (own peer : ChunkInit) → join_refusal size own peer ≡ None
    → BeginsToSend (joined config size remote_addr local_ip own peer)
