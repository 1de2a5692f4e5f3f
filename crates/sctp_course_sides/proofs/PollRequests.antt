-- As what a request to reset streams is read that was written, and which bytes are read as no such request.
use Rattle.std.proofs.Common.{◌≡◌, refl, sym, ap, ◌∙◌, ℕ, ◌/◌, ◌%◌, ◌^◌, ◌<◌, ◌≤◌, arith, Bool, true, false}
use Rattle.std.proofs.Common.{if◌then◌else◌, ltb, map, ◌&&◌}
use Rattle.std.proofs.Common.{List, [], ◌∷◌, ◌++◌, length, drop, Result, Ok, Err}
use Rattle.std.specs.Int.{w16, w32, to_be_bytes}
use Rattle.std.specs.List.{AllByRecursion, flat_map, list_all}
use Rattle.std.proofs.lemmas.Bool.{true≢false}
use Rattle.std.proofs.lemmas.Nat.{from_be_bytes-to_be_bytes_2}
use Rattle.sctp_wire_types.specs.declared.error.Fault.{Fault}
use Rattle.sctp_wire_types.specs.declared.error.Fault.TheVariants.{Checksum, Long, Short}
use Rattle.sctp_wire_types.specs.declared.chunk.Chunk.{Chunk}
use Rattle.sctp_wire_types.specs.declared.chunk.Chunk.TheVariants as chunks
use Rattle.sctp_wire_types.specs.declared.chunk.ChunkForwardTsn.{ChunkForwardTsn}
use Rattle.sctp_wire_types.specs.declared.chunk.ChunkPayloadData.{ChunkPayloadData}
use Rattle.sctp_wire_types.specs.declared.chunk.ChunkReconfig.{ChunkReconfig}
use Rattle.sctp_wire_types.specs.declared.chunk.ChunkSelectiveAck.{ChunkSelectiveAck}
use Rattle.sctp_wire_types.specs.declared.packet.CommonHeader.{CommonHeader}
use Rattle.sctp_wire_types.specs.declared.param.Param.TheVariants as params
use Rattle.sctp_wire_types.specs.declared.param.ParamOutgoingResetRequest.{ParamOutgoingResetRequest}
use Rattle.sctp_wire.specs.declared.packet.Packet.{Packet}
use Rattle.sctp_wire.specs.declared.partial.PartialDecode.{PartialDecode}
use Rattle.sctp_wire.specs.Chunks.{chunk_bytes, chunk_fits, chunk_frame, chunk_of, chunks_at}
use Rattle.sctp_wire.specs.DataPackets.{data_packet, datagrams_of}
use Rattle.sctp_wire.specs.Frames.{bare, frame_at, frame_fits, framed, items_at, items_within, joined, padded}
use Rattle.sctp_wire.specs.Numbers.{IsU16, bit}
use Rattle.sctp_wire.specs.Packets.{finished, header_at, packet_at, packet_fits, partial_at, spelling, written}
use Rattle.sctp_wire.specs.Params.{IsResetRequest, identifier_bytes, reset_request_value}
use Rattle.sctp_wire.specs.PayloadData.{payload_data_flags}
use Rattle.sctp_wire.specs.Results.{◌>>=◌}
use Rattle.sctp_wire.proofs.ChunksAgain.{chunks_again}
use Rattle.sctp_wire.proofs.FrameLoop.{frame_read, items_end}
use Rattle.sctp_assoc.specs.Gather.{packet_bytes, single_chunk_packet, spelled}
use Rattle.sctp_assoc.specs.Resets.{reconfig_of}
use Rattle.sctp_course_sides.specs.Spelled.{carried}

-- Packets

-- what was read of a packet is what its chunks were read as
finished_chunks : (read : Result (List Chunk) Fault) (header : CommonHeader) (packet : Packet)
    → (read >>= λ chunks. Ok (record { common_header = header; chunks = chunks })) ≡ Ok packet
    → read ≡ Ok packet.chunks
finished_chunks (Ok cs) header packet e = cc
finished_chunks (Err fault) header packet e = absurd cc

remaining_chunks : (d : PartialDecode) (packet : Packet) → finished d ≡ Ok packet
    → chunks_at d.remaining ≡ Ok packet.chunks
unfolding finished
remaining_chunks d packet e = finished_chunks (chunks_at d.remaining) d.common_header packet e

past_tests : (short wrong : Bool) (d : PartialDecode) (packet : Packet)
    → ((if short then Err Short else if wrong then Err Checksum else Ok d) >>= finished) ≡ Ok packet
    → finished d ≡ Ok packet
past_tests true wrong d packet e = absurd cc
past_tests false true d packet e = absurd cc
past_tests false false d packet e = e

pub chunks_of_packet : (bytes : List ℕ) (packet : Packet) → packet_at bytes ≡ Ok packet
    → chunks_at (drop 12 bytes) ≡ Ok packet.chunks
unfolding partial_at
chunks_of_packet bytes packet e =
    let d : PartialDecode = record { common_header = header_at bytes; remaining = drop 12 bytes } in
    remaining_chunks d packet (past_tests _ _ d packet e)

pub spelled_chunks : (packet : Packet) → drop 12 (spelling packet) ≡ flat_map chunk_bytes packet.chunks
unfolding spelling
spelled_chunks packet = refl

spelled_if : (fits : Bool) (given bytes : List ℕ) → spelled (if fits then Ok given else Err Long) ≡ bytes ∷ []
    → (fits ≡ true) × (bytes ≡ given)
spelled_if true given bytes e = (refl, cc)
spelled_if false given bytes e = absurd cc

-- the bytes of a packet of one chunk are its spelling, and the chunk fits
pub bytes_are : (header : CommonHeader) (chunk : Chunk) (bytes : List ℕ) → packet_bytes header chunk ≡ bytes ∷ []
    → (packet_fits (single_chunk_packet header chunk) ≡ true)
    × (bytes ≡ spelling (single_chunk_packet header chunk))
unfolding packet_bytes written
bytes_are header chunk bytes e =
    let packet = single_chunk_packet header chunk in
    spelled_if (packet_fits packet) (spelling packet) bytes e

all_spelled : (P : List ℕ → Type 0) (r : Result (List ℕ) Fault)
    → ((bytes : List ℕ) → spelled r ≡ bytes ∷ [] → P bytes) → AllByRecursion P (spelled r)
all_spelled P (Ok bytes) one = (one bytes refl, tt)
all_spelled P (Err fault) one = tt

-- what is so of the bytes of a packet of one chunk, if it has some
pub packet_said : (P : List ℕ → Type 0) (header : CommonHeader) (chunk : Chunk)
    → ((bytes : List ℕ) → packet_bytes header chunk ≡ bytes ∷ [] → P bytes)
    → AllByRecursion P (packet_bytes header chunk)
unfolding packet_bytes
packet_said P header chunk one = all_spelled P (written (single_chunk_packet header chunk)) one

-- Requests

four_same : {a b c d w x y z : ℕ} → a ≡ w → b ≡ x → c ≡ y → d ≡ z
    → a ∷ b ∷ c ∷ d ∷ [] ≡ w ∷ x ∷ y ∷ z ∷ []
four_same e f g h = cc

two_same : {a b y z : ℕ} → a ≡ y → b ≡ z → a ∷ b ∷ [] ≡ y ∷ z ∷ []
two_same e f = cc

four_bytes : (n : ℕ) → to_be_bytes w32 (n % 2 ^ 32) ≡ to_be_bytes w32 n
four_bytes n = four_same (omega arith) (omega arith) (omega arith) (omega arith)

two_bytes : (n : ℕ) → to_be_bytes w16 (n % 2 ^ 16) ≡ to_be_bytes w16 n
two_bytes n = two_same (omega arith) (omega arith)

identifiers_same : (ids : List ℕ)
    → flat_map identifier_bytes (map (λ (id : ℕ). id % 2 ^ 16) ids) ≡ flat_map identifier_bytes ids
identifiers_same [] = refl
identifiers_same (id ∷ ids) =
    ap (λ (bs : List ℕ). bs ++ flat_map identifier_bytes (map (λ (i : ℕ). i % 2 ^ 16) ids)) (two_bytes id)
    ∙ ap (λ (bs : List ℕ). identifier_bytes id ++ bs) (identifiers_same ids)

joined_same : {a b c d w x y z : List ℕ} → a ≡ w → b ≡ x → c ≡ y → d ≡ z → a ++ b ++ c ++ d ≡ w ++ x ++ y ++ z
joined_same e f g h = cc

-- a request is spelled as it is carried
value_same : (p : ParamOutgoingResetRequest) → reset_request_value (carried p) ≡ reset_request_value p
value_same p =
    joined_same (four_bytes p.reconfig_request_sequence_number) (four_bytes p.reconfig_response_sequence_number)
    (four_bytes p.sender_last_tsn) (identifiers_same p.stream_identifiers)

identifiers_fit : (ids : List ℕ) → AllByRecursion IsU16 (map (λ (id : ℕ). id % 2 ^ 16) ids)
identifiers_fit [] = tt
identifiers_fit (id ∷ ids) = (omega arith, identifiers_fit ids)

below_32 : (n : ℕ) → n % 2 ^ 32 < 2 ^ 32
below_32 n = omega arith

carried_fits : (p : ParamOutgoingResetRequest) → IsResetRequest (carried p)
carried_fits p = (
  below_32 p.reconfig_request_sequence_number,
  below_32 p.reconfig_response_sequence_number,
  below_32 p.sender_last_tsn,
  identifiers_fit p.stream_identifiers,
)

-- its chunk, and as it is carried
abbrev pub request_chunk : ParamOutgoingResetRequest → Chunk
request_chunk p = reconfig_of (params.OutgoingResetRequest p)

bytes_same : (p : ParamOutgoingResetRequest) → chunk_bytes (request_chunk (carried p)) ≡ chunk_bytes (request_chunk p)
unfolding joined
bytes_same p = ap (λ (value : List ℕ). padded (framed 33280 (bare (framed 13 value)))) (value_same p)

fits_same : (p : ParamOutgoingResetRequest) → chunk_fits (request_chunk (carried p)) ≡ chunk_fits (request_chunk p)
unfolding joined
fits_same p =
    ap (λ (value : List ℕ). list_all frame_fits (framed 13 value ∷ [])
    && frame_fits (framed 33280 (bare (framed 13 value)))) (value_same p)

-- a request that fits is read as it is carried
request_read : (p : ParamOutgoingResetRequest) → chunk_fits (request_chunk p) ≡ true
    → chunks_at (flat_map chunk_bytes (request_chunk p ∷ [])) ≡ Ok (request_chunk (carried p) ∷ [])
request_read p fits =
    let c : Chunk = request_chunk (carried p) in
    let fits_too : list_all chunk_fits (c ∷ []) ≡ true =
    ap (λ (b : Bool). b && true) (fits_same p ∙ fits) in
    ap (λ (bs : List ℕ). chunks_at (bs ++ [])) (sym (bytes_same p))
    ∙ chunks_again (c ∷ []) ((carried_fits p, tt), tt) fits_too refl

same_chunks : (read : Result (List Chunk) Fault) (cs ds : List Chunk) → read ≡ Ok cs → read ≡ Ok ds → cs ≡ ds
same_chunks (Ok xs) cs ds e f = cc
same_chunks (Err fault) cs ds e f = absurd cc

and_left : (b : Bool) → (b && true) ≡ true → b ≡ true
and_left true e = refl
and_left false e = e

-- so is what was read of its packet
pub request_said : (header : CommonHeader) (p : ParamOutgoingResetRequest) (bytes : List ℕ) (packet : Packet)
    → packet_bytes header (request_chunk p) ≡ bytes ∷ [] → packet_at bytes ≡ Ok packet
    → packet.chunks ≡ request_chunk (carried p) ∷ []
request_said header p bytes packet e read =
    let made = bytes_are header (request_chunk p) bytes e in
    let whole = single_chunk_packet header (request_chunk p) in
    let there : chunks_at (drop 12 bytes) ≡ Ok (request_chunk (carried p) ∷ []) =
    ap (λ (bs : List ℕ). chunks_at (drop 12 bs)) made.1 ∙ ap chunks_at (spelled_chunks whole)
    ∙ request_read p (and_left (chunk_fits (request_chunk p)) made.0) in
    same_chunks (chunks_at (drop 12 bytes)) packet.chunks (request_chunk (carried p) ∷ [])
    (chunks_of_packet bytes packet read) there

-- What is no request

-- RE-CONFIG was read
abbrev pub is_reset : Result Chunk Fault → Bool
is_reset (Ok (chunks.Reconfig c)) = true
is_reset read = false

-- these bytes are not read as one RE-CONFIG alone
abbrev pub IsNoReset : List ℕ → Type 0
IsNoReset bytes = (c : ChunkReconfig) → chunks_at (drop 12 bytes) ≡ Ok (chunks.Reconfig c ∷ []) → ⊥

-- The first frame was read, and as this chunk.
record ReadFirst {F : Type 0} (read : Result (F × List ℕ) Fault) (chunk_in : F → Result Chunk Fault)
    (c : Chunk) : Type 0 where
  frame : F
  rest : List ℕ
  at : read ≡ Ok (frame, rest)
  is : chunk_in frame ≡ Ok c

one_and_more : (read : Result Chunk Fault) (items : Result (List Chunk) Fault) (c : Chunk) (cs : List Chunk)
    → (read >>= λ item. items >>= λ more. Ok (item ∷ more)) ≡ Ok (c ∷ cs) → read ≡ Ok c
one_and_more (Ok x) (Ok xs) c cs e = cc
one_and_more (Ok x) (Err fault) c cs e = absurd cc
one_and_more (Err fault) items c cs e = absurd cc

frame_and_more : {F : Type 0} (read : Result (F × List ℕ) Fault) (chunk_in : F → Result Chunk Fault)
    (more : List ℕ → Result (List Chunk) Fault) (c : Chunk) (cs : List Chunk)
    → (read >>= λ frame. chunk_in frame.0 >>= λ item. more frame.1 >>= λ items. Ok (item ∷ items)) ≡ Ok (c ∷ cs)
    → ReadFirst read chunk_in c
frame_and_more (Ok x) chunk_in more c cs e =
    record { frame = x.0; rest = x.1; at = refl; is = one_and_more (chunk_in x.0) (more x.1) c cs e }
frame_and_more (Err fault) chunk_in more c cs e = absurd cc

unless_none : (none : Bool) (read : Result (List Chunk) Fault) (c : Chunk) (cs : List Chunk)
    → (if none then Ok [] else read) ≡ Ok (c ∷ cs) → read ≡ Ok (c ∷ cs)
unless_none true read c cs e = absurd cc
unless_none false read c cs e = e

-- the first chunk that was read is that of the first frame
first_read : (bytes : List ℕ) (c : Chunk) (cs : List Chunk) → chunks_at bytes ≡ Ok (c ∷ cs)
    → ReadFirst (frame_at bytes) chunk_of c
unfolding items_at items_within
first_read bytes c cs e =
    frame_and_more (frame_at bytes) chunk_of (items_within (length bytes) chunk_of 1) c cs
    (unless_none (ltb (length bytes) 1) _ c cs e)

other_read : {A : Type 0} (read : Result A Fault) (make : A → Chunk) → ((x : A) → is_reset (Ok (make x)) ≡ false)
    → is_reset (read >>= λ x. Ok (make x)) ≡ false
other_read (Ok x) make other = other x
other_read (Err fault) make other = refl

-- frames of DATA, SACK, FORWARD TSN and of a shutdown are not read as RE-CONFIG

data_frame : (head : ℕ) (value : List ℕ) → head / 256 ≡ 0 → is_reset (chunk_of (framed head value)) ≡ false
unfolding chunk_of
data_frame head value e = rw e (other_read _ (λ chunk. chunks.Data chunk) (λ x. refl))

sack_frame : (head : ℕ) (value : List ℕ) → head / 256 ≡ 3 → is_reset (chunk_of (framed head value)) ≡ false
unfolding chunk_of
sack_frame head value e = rw e (other_read _ (λ chunk. chunks.SelectiveAck chunk) (λ x. refl))

shutdown_frame : (head : ℕ) (value : List ℕ) → head / 256 ≡ 7 → is_reset (chunk_of (framed head value)) ≡ false
unfolding chunk_of
shutdown_frame head value e = rw e (other_read _ (λ tsn. chunks.Shutdown tsn) (λ x. refl))

shutdown_ack_frame : (head : ℕ) (value : List ℕ) → head / 256 ≡ 8 → is_reset (chunk_of (framed head value)) ≡ false
unfolding chunk_of
shutdown_ack_frame head value e = rw e refl

complete_frame : (head : ℕ) (value : List ℕ) → head / 256 ≡ 14 → is_reset (chunk_of (framed head value)) ≡ false
unfolding chunk_of
complete_frame head value e = rw e refl

forward_frame : (head : ℕ) (value : List ℕ) → head / 256 ≡ 192 → is_reset (chunk_of (framed head value)) ≡ false
unfolding chunk_of
forward_frame head value e = rw e (other_read _ (λ chunk. chunks.ForwardTsn chunk) (λ x. refl))

-- a chunk whose frames are not
abbrev pub NotAsReset : Chunk → Type 0
NotAsReset c =
    (head : ℕ) (value : List ℕ) → head ≡ (chunk_frame c).head → is_reset (chunk_of (framed head value)) ≡ false

no_reset_first : (c : Chunk) (cs : List Chunk) (r : ChunkReconfig) → (chunk_frame c).head < 2 ^ 16 → NotAsReset c
    → chunks_at (flat_map chunk_bytes (c ∷ cs)) ≡ Ok (chunks.Reconfig r ∷ []) → ⊥
no_reset_first c cs r small other e =
    let bytes : List ℕ = chunk_bytes c ++ flat_map chunk_bytes cs in
    let first = first_read bytes (chunks.Reconfig r) [] e in
    let found = (frame_read bytes first.frame first.rest first.at).found in
    let head : first.frame.head ≡ (chunk_frame c).head =
    ap (λ x. x.0.head) (sym found) ∙ from_be_bytes-to_be_bytes_2 (chunk_frame c).head small in
    true≢false (sym (ap is_reset first.is) ∙ other first.frame.head first.frame.value head)

-- no packet of such a chunk is
pub no_reset : (c : Chunk) → (chunk_frame c).head < 2 ^ 16 → NotAsReset c → (header : CommonHeader)
    → AllByRecursion IsNoReset (packet_bytes header c)
no_reset c small other header =
    packet_said IsNoReset header c
    (λ bytes e r read.
    no_reset_first c [] r small other
    (sym (ap (λ (bs : List ℕ). chunks_at (drop 12 bs)) (bytes_are header c bytes e).1
    ∙ ap chunks_at (spelled_chunks (single_chunk_packet header c))) ∙ read))

pub no_sack : (header : CommonHeader) (sack : ChunkSelectiveAck)
    → AllByRecursion IsNoReset (packet_bytes header (chunks.SelectiveAck sack))
no_sack header sack =
    no_reset (chunks.SelectiveAck sack) (omega arith)
    (λ head value e. sack_frame head value (ap (λ (n : ℕ). n / 256) e)) header

pub no_forward : (header : CommonHeader) (forward : ChunkForwardTsn)
    → AllByRecursion IsNoReset (packet_bytes header (chunks.ForwardTsn forward))
no_forward header forward =
    no_reset (chunks.ForwardTsn forward) (omega arith)
    (λ head value e. forward_frame head value (ap (λ (n : ℕ). n / 256) e)) header

pub no_shutdown : (header : CommonHeader) (tsn : ℕ)
    → AllByRecursion IsNoReset (packet_bytes header (chunks.Shutdown tsn))
no_shutdown header tsn =
    no_reset (chunks.Shutdown tsn) (omega arith)
    (λ head value e. shutdown_frame head value (ap (λ (n : ℕ). n / 256) e)) header

pub no_shutdown_ack : (header : CommonHeader) → AllByRecursion IsNoReset (packet_bytes header chunks.ShutdownAck)
no_shutdown_ack header =
    no_reset chunks.ShutdownAck (omega arith)
    (λ head value e. shutdown_ack_frame head value (ap (λ (n : ℕ). n / 256) e)) header

pub no_complete : (header : CommonHeader) → AllByRecursion IsNoReset (packet_bytes header chunks.ShutdownComplete)
no_complete header =
    no_reset chunks.ShutdownComplete (omega arith)
    (λ head value e. complete_frame head value (ap (λ (n : ℕ). n / 256) e)) header

-- DATA

bit_within : (b : Bool) (weight : ℕ) → bit b weight ≤ weight
bit_within true weight = omega arith
bit_within false weight = omega arith

flags_small : (c : ChunkPayloadData) → payload_data_flags c < 256
flags_small c =
    let e = bit_within c.ending_fragment 1 in
    let b = bit_within c.beginning_fragment 2 in
    let u = bit_within c.unordered 4 in
    let i = bit_within c.immediate_sack 8 in
    omega (arith, e, b, u, i)

none_of_head : (n m : ℕ) → m < 256 → n ≡ m → n / 256 ≡ 0
none_of_head n m l e = omega arith

head_within : (n : ℕ) → n < 256 → n < 2 ^ 16
head_within n l = omega arith

abbrev chunks_read : List Chunk → Result (List Chunk) Fault
chunks_read cs = Ok cs

one_is_not_none : (r : ChunkReconfig) → chunks_read [] ≡ Ok (chunks.Reconfig r ∷ []) → ⊥
one_is_not_none r e = absurd cc

bundle_no_reset : (header : CommonHeader) (cs : List ChunkPayloadData) → IsNoReset (spelling (data_packet header cs))
bundle_no_reset header [] r read =
    absurd (one_is_not_none r
    (sym (ap chunks_at (spelled_chunks (data_packet header [])) ∙ items_end chunk_of 1 [] (omega arith)) ∙ read))
bundle_no_reset header (c ∷ cs) r read =
    let small : payload_data_flags c < 256 = flags_small c in
    no_reset_first (chunks.Data c) (map (λ (d : ChunkPayloadData). chunks.Data d) cs) r
    (head_within (payload_data_flags c) small)
    (λ head value e. data_frame head value (none_of_head head (payload_data_flags c) small e))
    (sym (ap chunks_at (spelled_chunks (data_packet header (c ∷ cs)))) ∙ read)

pub no_data : (header : CommonHeader) (bundles : List (List ChunkPayloadData))
    → AllByRecursion IsNoReset (datagrams_of header bundles)
no_data header [] = tt
no_data header (cs ∷ bundles) = (bundle_no_reset header cs, no_data header bundles)
