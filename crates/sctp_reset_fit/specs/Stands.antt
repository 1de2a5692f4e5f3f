-- What an association keeps of one stream that it receives, and of the peer's requests to reset it, stands for the
-- course of that stream (RFC 6525 section 5.2.2): the live stream, the boundaries of the generations that ended, what
-- came for later ones, and the request that waits.
use Rattle.std.specs.Prelude.{◌≡◌, ◌<◌, ◌≤◌, ◌+◌, ◌^◌, ⊤, ℕ, Bool, true, false, List, [], ◌∷◌, length, map, filter}
use Rattle.std.specs.Prelude.{Option, Some, None}
use Rattle.std.specs.List.{AllByRecursion}
use Rattle.std.specs.Map.{keys_of}
use Rattle.sctp_serial.specs.Serial.{tsn, tsn_past}
use Rattle.sctp_wire_types.specs.declared.chunk.ChunkPayloadData.{ChunkPayloadData}
use Rattle.sctp_receive_queues.specs.Messages.{ReceivedMessage}
use Rattle.sctp_receive_queues.specs.Reassembly.{Reassembly, empty_reassembly, pushed, refusal, skipped, taken}
use Rattle.sctp_receive_queues.specs.Reassembly.{unordered_skipped}
use Rattle.sctp_streams.specs.Stream.{StreamView, is_read_half_open}
use Rattle.sctp_streams.specs.Streams.{StreamMap, stream_at}
use Rattle.sctp_generations.specs.Deferred.{is_of}
use Rattle.sctp_generations.specs.Generations.{GenerationsView}
use Rattle.sctp_generations.specs.Retiring.{boundaries_at}
use Rattle.sctp_reset_requests.specs.Peer.{number_before}
use Rattle.sctp_reset_requests.specs.Request.{PeerRequestView, names}
use Rattle.sctp_courses.specs.Course.{Course, Live, Request, boundary_at, is_named, is_readable, times}

-- the offset on which a TSN stands
abbrev pub offset_of : ℕ → ℕ → ℕ
offset_of initial t = tsn_past initial t

-- the last TSN below a boundary
abbrev pub last_below : ℕ → ℕ → ℕ
last_below initial boundary = number_before (tsn initial boundary)

-- the offsets of those pieces that are of a stream
abbrev pub offsets_of : ℕ → ℕ → List ChunkPayloadData → List ℕ
offsets_of initial id pieces = map (λ (p : ChunkPayloadData). offset_of initial p.tsn) (filter (is_of id) pieces)

-- a TSN stands on an offset that is less than half the range past the initial TSN
pub record IsNear (initial t : ℕ) : Type 0 where
  pub is : t ≡ tsn initial (offset_of initial t)
  pub near : offset_of initial t < 2 ^ 31

-- an identifier stands at most once among these
abbrev pub IsOnce : {V : Type 0} → ℕ → List (ℕ × V) → Type 0
IsOnce id entries = times id (keys_of entries) ≤ 1

-- How the pieces that a stream holds are told from their offsets, where something is so of each: whatever is done to
-- the stream, it holds none but those that came, each as often as it came at most.
pub record TellsHeld (initial id : ℕ) (P : ChunkPayloadData → Type 0) (IsHeld : Reassembly → List ℕ → Type 0)
    : Type 0 where
  pub empty : IsHeld empty_reassembly []
  pub more : (q : Reassembly) (os more : List ℕ) → ((o : ℕ) → times o os ≤ times o more) → IsHeld q os → IsHeld q more
  pub pushes : (q : Reassembly) (os : List ℕ) (p : ChunkPayloadData) (limit : ℕ) → P p → p.stream_identifier ≡ id
      → refusal q p limit ≡ None → IsHeld q os → IsHeld (pushed q p).0 (offset_of initial p.tsn ∷ os)
  pub skips : (q : Reassembly) (os : List ℕ) (ssn : ℕ) → IsHeld q os → IsHeld (skipped q ssn) os
  pub passes : (q : Reassembly) (os : List ℕ) (t : ℕ) → IsHeld q os → IsHeld (unordered_skipped q t) os

-- A message that was read is made of pieces that were held: where it is one of these offsets, what is left is held on
-- the others.
pub record IsTakenOut (Makes : ReceivedMessage → List ℕ → Type 0) (IsHeld : Reassembly → List ℕ → Type 0)
    (q : Reassembly)
    (os : List ℕ) (m : ReceivedMessage) : Type 0 where
  pub out : List ℕ
  pub left : List ℕ
  pub makes : Makes m out
  pub held : IsHeld q left
  pub parted : (o : ℕ) → times o out + times o left ≤ times o os

-- How the offsets of a message that is read are told.
abbrev pub TellsRead : (ReceivedMessage → List ℕ → Type 0) → (Reassembly → List ℕ → Type 0) → Type 0
TellsRead Makes IsHeld = (q : Reassembly) (os : List ℕ) (m : ReceivedMessage) → IsHeld q os → (taken q).1 ≡ Some m
    → IsTakenOut Makes IsHeld (taken q).0 os m

-- A live stream is that of the course.
pub record IsLiveAs (IsHeld : Reassembly → List ℕ → Type 0) (t : StreamView) (l : Live) : Type 0 where
  pub generation : l.generation ≡ t.stats.generation
  pub is_open : l.is_open ≡ is_read_half_open t.halves
  pub held : IsHeld t.reassembly l.held

abbrev pub LiveAs : (Reassembly → List ℕ → Type 0) → Option StreamView → Option Live → Type 0
LiveAs IsHeld None None = ⊤
LiveAs IsHeld None (Some l) = ⊥
LiveAs IsHeld (Some t) None = ⊥
LiveAs IsHeld (Some t) (Some l) = IsLiveAs IsHeld t l

-- the boundaries that are kept of a stream are the marks of the course
abbrev pub MarksAs : ℕ → Option (List ℕ) → List ℕ → Type 0
MarksAs initial None marks = marks ≡ []
MarksAs initial (Some boundaries) marks = (boundaries ≡ map (last_below initial) marks) × (0 < length marks)

-- the request that waits is the next one of the course
abbrev pub WaitsFor : ℕ → ℕ → Option PeerRequestView → List Request → ℕ → Bool → Type 0
WaitsFor initial id None asked performed waits = waits ≡ false
WaitsFor initial id (Some q) asked performed waits =
    (waits ≡ true) × (q.last_tsn ≡ last_below initial (boundary_at asked performed))
    × (names q id ≡ is_named asked performed) × (performed < length asked)

abbrev pub WaitsAs : ℕ → ℕ → Option PeerRequestView → Course → Type 0
WaitsAs initial id in_progress c = WaitsFor initial id in_progress c.asked c.performed c.waits

-- a request names an identifier at most once, if there is one
abbrev pub NamesOnce : ℕ → Option PeerRequestView → Type 0
NamesOnce id None = ⊤
NamesOnce id (Some q) = times id q.ids ≤ 1

-- of each piece that waits this is so, and it stands near the initial TSN
abbrev pub AreKept : ℕ → (ChunkPayloadData → Type 0) → List ChunkPayloadData → Type 0
AreKept initial P pieces = AllByRecursion (λ (p : ChunkPayloadData). P p × IsNear initial p.tsn) pieces

-- What is kept of a stream stands for its course, while no request is being performed. A stream that is live while
-- boundaries of it are kept can be read.
pub record StandsFor (initial id : ℕ) (P : ChunkPayloadData → Type 0) (IsHeld : Reassembly → List ℕ → Type 0)
    (g : GenerationsView) (m : StreamMap) (in_progress : Option PeerRequestView) (c : Course) : Type 0 where
  pub live : LiveAs IsHeld (stream_at m id) c.live
  pub next : c.next ≤ m.next_generation
  pub marks : MarksAs initial (boundaries_at g.retiring id) c.marks
  pub kept : AreKept initial P g.deferred
  pub deferred : (o : ℕ) → times o (offsets_of initial id g.deferred) ≤ times o c.deferred
  pub waits : WaitsAs initial id in_progress c
  pub once_named : NamesOnce id in_progress
  pub once_live : IsOnce id m.by_id
  pub once_marked : IsOnce id g.retiring
  pub open_where_marked : (c.marks ≡ [] → ⊥) → (l : Live) → c.live ≡ Some l → l.is_open ≡ true
  pub near : c.assigned < 2 ^ 31
  pub still : (c.retires ≡ false) × (c.releases ≡ false) × (c.hand ≡ [])

-- And where boundaries of it are kept it is live: what ended and has nothing to read was passed.
abbrev pub IsReadOn : Course → Type 0
IsReadOn c = (c.marks ≡ [] → ⊥) → is_readable c.live ≡ true
