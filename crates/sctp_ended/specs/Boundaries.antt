-- DATA above a boundary stays out of its stream (RFC 6525 section 5.2.2).
use Rattle.std.specs.Prelude.{◌≡◌, ⊤, ℕ, Bool, true, false, List, [], ◌∷◌, Option, Some, None, is_some}
use Rattle.sctp_wire_types.specs.declared.chunk.Chunk.{Chunk}
use Rattle.sctp_wire_types.specs.declared.chunk.Chunk.TheVariants as chunks
use Rattle.sctp_wire_types.specs.declared.chunk.ChunkPayloadData.{ChunkPayloadData}
use Rattle.sctp_wire_types.specs.declared.packet.CommonHeader.{CommonHeader}
use Rattle.sctp_wire.specs.declared.packet.Packet.{Packet}
use Rattle.sctp_streams.specs.declared.event.Event.{Event}
use Rattle.sctp_streams.specs.Stream.{StreamView}
use Rattle.sctp_streams.specs.Streams.{stream_at}
use Rattle.sctp_generations.specs.Deferred.{is_up_to}
use Rattle.sctp_generations.specs.Generations.{readable_end}
use Rattle.sctp_inbound.specs.declared.receiver.AckTrigger.{AckTrigger}
use Rattle.sctp_inbound.specs.declared.receiver.AckTrigger.TheVariants as triggers
use Rattle.sctp_reset_requests.specs.Peer.{boundary_of, is_current}
use Rattle.sctp_reset_requests.specs.Request.{PeerRequestView}
use Rattle.sctp_reset_fit.specs.Laws.{Passes}
use Rattle.sctp_reset_fit.specs.Pieces.{HoldsOnly}
use Rattle.sctp_assoc.specs.declared.inbound.Flow.{Flow}
use Rattle.sctp_assoc.specs.declared.inbound.Flow.TheVariants as flows
use Rattle.sctp_assoc.specs.Chunks.{on_chunk}
use Rattle.sctp_assoc.specs.Resets.{after_param}
use Rattle.sctp_assoc.specs.Shown.{Shown}
use Rattle.sctp_sides.specs.Ascending.{StreamsAscend}
use Rattle.sctp_sides.specs.Generations.{HasNoGeneration}
use Rattle.sctp_sides.specs.OneSide.{Call, IsRun, IsUnchanged, RunsOn, carried_out}

-- Boundaries

-- Where the generation of a stream ends that is read: at the boundary with which it ended; if it did not end, at the
-- last TSN of the request of the peer in progress, if there is one that names the stream.
abbrev pub end_of : Shown → ℕ → Option ℕ
end_of a id = readable_end a.resets.generations id (boundary_of a.resets.peer id)

-- it ends somewhere: DATA above that is of a generation that is not read yet
abbrev pub HasEnd : ℕ → Shown → Type 0
HasEnd id a = is_some (end_of a id) ≡ true

-- all DATA passes the test that lies not above where it ends
abbrev pub AllUpToTheEndPass : (ChunkPayloadData → Bool) → ℕ → Shown → Type 0
AllUpToTheEndPass test id a = (piece : ChunkPayloadData) → is_up_to (end_of a id) piece.tsn ≡ true → test piece ≡ true

-- what the live stream holds, if there is one, are pieces that pass the test
abbrev pub StreamPasses : (ChunkPayloadData → Bool) → ℕ → Shown → Type 0
StreamPasses test id a = (s : StreamView) → stream_at a.streams id ≡ Some s → HoldsOnly (Passes test) id s.reassembly

-- Each association on the way: what each call leaves and, inside a packet that comes, each chunk and the first
-- parameter of each RE-CONFIG. One packet can complete a request of the peer and begin another one.

-- what the first parameter of a RE-CONFIG leaves
abbrev pub between_params : Chunk → Shown → Option Shown
between_params (chunks.Reconfig reconfig) a = Some (after_param reconfig.first a).0
between_params chunk a = None

abbrev pub HoldsWhereThere : (Shown → Type 0) → Option Shown → Type 0
HoldsWhereThere Holds None = ⊤
HoldsWhereThere Holds (Some a) = Holds a

-- where a packet goes on behind a chunk
abbrev pub GoesOn : Shown × Flow → (Shown → AckTrigger → Type 0) → Type 0
GoesOn (a, flows.Next trigger) More = More a trigger
GoesOn (a, flows.Fault fault) More = ⊤
GoesOn (a, flows.Closed) More = ⊤
GoesOn (a, flows.Exhausted) More = ⊤

abbrev pub HoldsThroughChunks : (Shown → Type 0) → CommonHeader → List Chunk → Shown → AckTrigger → ℕ → Type 0
HoldsThroughChunks Holds header [] a trigger now = ⊤
HoldsThroughChunks Holds header (c ∷ cs) a trigger now =
    HoldsWhereThere Holds (between_params c a)
    × GoesOn (on_chunk a header c trigger now)
    (λ b next. Holds b × HoldsThroughChunks Holds header cs b next now)

abbrev pub HoldsThroughPacket : (Shown → Type 0) → Bool → Option Packet → Shown → ℕ → Type 0
HoldsThroughPacket Holds true packet a now = ⊤
HoldsThroughPacket Holds false None a now = ⊤
HoldsThroughPacket Holds false (Some packet) a now =
    HoldsThroughChunks Holds packet.common_header packet.chunks a triggers.None now

-- what a call hands over that came, if it does, and when
abbrev pub came_with : Call → Option (Option Packet × ℕ)
came_with (Call.HandleEvent packet now) = Some (packet, now)
came_with call = None

-- a packet counts unless the association was lost before
abbrev pub HoldsThroughWhatCame : (Shown → Type 0) → Option (Option Packet × ℕ) → Shown → Type 0
HoldsThroughWhatCame Holds None a = ⊤
HoldsThroughWhatCame Holds (Some (packet, now)) a = HoldsThroughPacket Holds a.lost packet a now

abbrev pub HoldsThroughCall : (Shown → Type 0) → Call → Shown → Type 0
HoldsThroughCall Holds call a = HoldsThroughWhatCame Holds (came_with call) a

-- These calls, in order, led from a to b, and told these events; and this is so of each association that they led to on
-- the way.
abbrev pub IsRunThrough : (Shown → Type 0) → List Call → List Event → Shown → Shown → Type 0
IsRunThrough Holds [] told a b = IsUnchanged told a b
IsRunThrough Holds (call ∷ calls) told a b =
    RunsOn call (λ later c.
    ((carried_out call a).0 ≡ c → HoldsThroughCall Holds call a) × Holds c × IsRunThrough Holds calls later c b) told a

-- The laws

-- Whatever the peer sends, DATA above where the generation of its stream ends that is read stays out of the stream, as
-- long as that generation ends somewhere: whatever test all pieces pass that the stream held, and all DATA that lies
-- not above the end now, all pieces pass that it holds now, after every list of calls, unless the association failed.
-- So DATA above the last TSN of a request in progress that names its stream stays out until the request is performed
-- and what came before it is read out, and DATA above the boundary of an ended generation until that is read out, or
-- until it is dropped.
abbrev pub DataAboveTheEndStaysOut : Type 0
DataAboveTheEndStaysOut =
    (id : ℕ) (test : ChunkPayloadData → Bool) (calls : List Call) (told : List Event) (a b : Shown)
    → StreamsAscend a.streams → StreamPasses test id a → HasEnd id a → IsRunThrough (HasEnd id) calls told a b
    → b.failed ≡ false → AllUpToTheEndPass test id b → StreamPasses test id b

-- So it is, with nothing asked of the streams, from whatever a list of calls leaves of an association that began with
-- no stream.
abbrev pub DataAboveTheEndStaysOutOfReachedSides : Type 0
DataAboveTheEndStaysOutOfReachedSides =
    (id : ℕ) (test : ChunkPayloadData → Bool) (before calls : List Call) (first later : List Event)
    (start a b : Shown) → HasNoGeneration start → IsRun before first start a → a.failed ≡ false
    → StreamPasses test id a → HasEnd id a → IsRunThrough (HasEnd id) calls later a b → b.failed ≡ false
    → AllUpToTheEndPass test id b → StreamPasses test id b

-- a request of the peer with this number is in progress
abbrev pub IsInProgress : ℕ → Shown → Type 0
IsInProgress number a = is_current a.resets.peer.in_progress number ≡ true

-- As long as a request of the peer with this number is in progress, it is this one, and no DATA above its last TSN
-- comes into a stream that it names: the same is so of what the stream holds.
pub record StaysBehind (q : PeerRequestView) (test : ChunkPayloadData → Bool) (id : ℕ) (b : Shown) : Type 0 where
  pub same : b.resets.peer.in_progress ≡ Some q
  pub out : AllUpToTheEndPass test id b → StreamPasses test id b

abbrev pub DataBehindARequestStaysOut : Type 0
DataBehindARequestStaysOut =
    (q : PeerRequestView) (id : ℕ) (test : ChunkPayloadData → Bool) (calls : List Call) (told : List Event)
    (a b : Shown) → StreamsAscend a.streams → StreamPasses test id a → a.resets.peer.in_progress ≡ Some q
    → IsRunThrough (IsInProgress q.number) calls told a b → b.failed ≡ false → StaysBehind q test id b
