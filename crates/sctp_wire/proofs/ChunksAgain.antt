-- Chunks that are spelled are read again.
use Rattle.std.proofs.Common.{◌≡◌, ℕ, ◌+◌, ◌-◌, ◌*◌, ◌/◌, ◌%◌, ◌^◌, ◌<◌, ◌≤◌, Bool, true, false, not, ◌||◌}
use Rattle.std.proofs.Common.{eqb, ltb, List, [], ◌∷◌, ◌++◌, length, drop, Option, Some, None}
use Rattle.std.proofs.Common.{Ok, refl, sym, ap, ◌∙◌, arith}
use Rattle.std.specs.Int.{w32, to_be_bytes}
use Rattle.std.specs.List.{flat_map, list_all, AllByRecursion}
use Rattle.std.proofs.lemmas.Bool.{le-ltb, ltb-true, not-true, or_parts, and_parts}
use Rattle.std.proofs.lemmas.List.{append-nil, drop-drop, drop_at}
use Rattle.std.proofs.lemmas.Nat.{from_be_bytes-to_be_bytes_2, from_be_bytes-to_be_bytes_4}
use Rattle.sctp_wire_types.specs.declared.chunk.Chunk.{Chunk}
use Rattle.sctp_wire_types.specs.declared.chunk.Chunk.TheVariants as chunks
use Rattle.sctp_wire_types.specs.declared.chunk.ChunkPayloadData.{ChunkPayloadData}
use Rattle.sctp_wire_types.specs.declared.chunk.ChunkInit.{ChunkInit}
use Rattle.sctp_wire_types.specs.declared.chunk.ChunkSelectiveAck.{ChunkSelectiveAck}
use Rattle.sctp_wire_types.specs.declared.chunk.GapAckBlock.{GapAckBlock}
use Rattle.sctp_wire_types.specs.declared.chunk.ChunkForwardTsn.{ChunkForwardTsn}
use Rattle.sctp_wire_types.specs.declared.chunk.SkippedStream.{SkippedStream}
use Rattle.sctp_wire_types.specs.declared.chunk.ChunkIForwardTsn.{ChunkIForwardTsn}
use Rattle.sctp_wire_types.specs.declared.chunk.IForwardTsnEntry.{IForwardTsnEntry}
use Rattle.sctp_wire_types.specs.declared.param.Param.{Param}
use Rattle.sctp_wire_types.specs.declared.ids.PayloadProtocolIdentifier.{PayloadProtocolIdentifier}
use Rattle.sctp_wire_types.specs.declared.ids.PayloadProtocolIdentifier.TheVariants as kinds
use Rattle.sctp_wire_types.specs.Ids.{identifier_of, number_of}
use Rattle.sctp_wire.specs.declared.frame.Frame.{Frame}
use Rattle.sctp_wire.specs.Results.{◌>>=◌}
use Rattle.sctp_wire.specs.Numbers.{u16_at, u32_at, IsU32, bit}
use Rattle.sctp_wire.specs.Frames.{frame_at, entries_at, framed, bare, padded, frame_fits, joined}
use Rattle.sctp_wire.specs.Params.{param_of, param_frame, param_fits, param_is_plain, params_at}
use Rattle.sctp_wire.specs.PayloadData.{payload_data_of, payload_data_flags, payload_data_value, IsPayloadData}
use Rattle.sctp_wire.specs.Init.{init_of, init_value, IsInit}
use Rattle.sctp_wire.specs.SelectiveAck.{block_at, block_bytes, IsBlock, tsn_at, tsn_bytes, selective_ack_of}
use Rattle.sctp_wire.specs.SelectiveAck.{selective_ack_value, IsSack}
use Rattle.sctp_wire.specs.ForwardTsn.{skipped_at, skipped_bytes, IsSkipped, forward_tsn_of, forward_tsn_value}
use Rattle.sctp_wire.specs.ForwardTsn.{IsForwardTsn, message_skip_at, message_skip_bytes, IsMessageSkip}
use Rattle.sctp_wire.specs.ForwardTsn.{i_forward_tsn_of, i_forward_tsn_value, IsIForwardTsn}
use Rattle.sctp_wire.specs.Reconfig.{reconfig_of, reconfig_list}
use Rattle.sctp_wire.specs.Chunks.{cumulative_tsn_ack_of, chunk_of, chunks_at, chunk_frame, chunk_fits, chunk_bytes}
use Rattle.sctp_wire.specs.Chunks.{IsChunk, chunk_is_plain}
use Rattle.sctp_wire.proofs.ListsWritten.{flat_length, sack_length}
use Rattle.sctp_wire.proofs.FramesAgain.{IsAgain, frame_last, frame_padded, entries_again, items_again}
use Rattle.sctp_wire.proofs.ParamsAgain.{params_again, causes_again, params_are_again}

-- ---- DATA

abbrev flag_sum : Bool → Bool → Bool → Bool → ℕ
flag_sum e b u i = bit e 1 + bit b 2 + bit u 4 + bit i 8

record Flags (sum : ℕ) (e b u i : Bool) : Type 0 where
  kind : sum / 256 ≡ 0
  unordered : eqb (sum % 256 / 4 % 2) 1 ≡ u
  beginning : eqb (sum % 256 / 2 % 2) 1 ≡ b
  ending : eqb (sum % 256 % 2) 1 ≡ e
  immediate : eqb (sum % 256 / 8 % 2) 1 ≡ i
  below : sum < 2 ^ 16

flags_again : (e b u i : Bool) → Flags (flag_sum e b u i) e b u i
flags_again true true true true =
    record { kind = refl; unordered = refl; beginning = refl; ending = refl; immediate = refl; below = omega arith }
flags_again true true true false =
    record { kind = refl; unordered = refl; beginning = refl; ending = refl; immediate = refl; below = omega arith }
flags_again true true false true =
    record { kind = refl; unordered = refl; beginning = refl; ending = refl; immediate = refl; below = omega arith }
flags_again true true false false =
    record { kind = refl; unordered = refl; beginning = refl; ending = refl; immediate = refl; below = omega arith }
flags_again true false true true =
    record { kind = refl; unordered = refl; beginning = refl; ending = refl; immediate = refl; below = omega arith }
flags_again true false true false =
    record { kind = refl; unordered = refl; beginning = refl; ending = refl; immediate = refl; below = omega arith }
flags_again true false false true =
    record { kind = refl; unordered = refl; beginning = refl; ending = refl; immediate = refl; below = omega arith }
flags_again true false false false =
    record { kind = refl; unordered = refl; beginning = refl; ending = refl; immediate = refl; below = omega arith }
flags_again false true true true =
    record { kind = refl; unordered = refl; beginning = refl; ending = refl; immediate = refl; below = omega arith }
flags_again false true true false =
    record { kind = refl; unordered = refl; beginning = refl; ending = refl; immediate = refl; below = omega arith }
flags_again false true false true =
    record { kind = refl; unordered = refl; beginning = refl; ending = refl; immediate = refl; below = omega arith }
flags_again false true false false =
    record { kind = refl; unordered = refl; beginning = refl; ending = refl; immediate = refl; below = omega arith }
flags_again false false true true =
    record { kind = refl; unordered = refl; beginning = refl; ending = refl; immediate = refl; below = omega arith }
flags_again false false true false =
    record { kind = refl; unordered = refl; beginning = refl; ending = refl; immediate = refl; below = omega arith }
flags_again false false false true =
    record { kind = refl; unordered = refl; beginning = refl; ending = refl; immediate = refl; below = omega arith }
flags_again false false false false =
    record { kind = refl; unordered = refl; beginning = refl; ending = refl; immediate = refl; below = omega arith }

flags_of : (c : ChunkPayloadData)
    → Flags (payload_data_flags c) c.ending_fragment c.beginning_fragment c.unordered c.immediate_sack
flags_of c = flags_again c.ending_fragment c.beginning_fragment c.unordered c.immediate_sack

identifier_below : (k : PayloadProtocolIdentifier) → number_of k < 2 ^ 32
identifier_below kinds.Dcep = omega arith
identifier_below kinds.String = omega arith
identifier_below kinds.Binary = omega arith
identifier_below kinds.StringEmpty = omega arith
identifier_below kinds.BinaryEmpty = omega arith
identifier_below kinds.Unknown = omega arith

identifier_again : (k : PayloadProtocolIdentifier) → identifier_of (number_of k) ≡ k
identifier_again kinds.Dcep = refl
identifier_again kinds.String = refl
identifier_again kinds.Binary = refl
identifier_again kinds.StringEmpty = refl
identifier_again kinds.BinaryEmpty = refl
identifier_again kinds.Unknown = refl

module _ (flags : ℕ) (bytes : List ℕ) (c : ChunkPayloadData) (long : 12 ≤ length bytes) where
  payload_made : eqb (flags / 4 % 2) 1 ≡ c.unordered → eqb (flags / 2 % 2) 1 ≡ c.beginning_fragment
      → eqb (flags % 2) 1 ≡ c.ending_fragment → eqb (flags / 8 % 2) 1 ≡ c.immediate_sack → u32_at bytes 0 ≡ c.tsn
      → u16_at bytes 4 ≡ c.stream_identifier → u16_at bytes 6 ≡ c.stream_sequence_number
      → identifier_of (u32_at bytes 8) ≡ c.payload_type → drop 12 bytes ≡ c.user_data
      → payload_data_of flags bytes ≡ Ok c
  unfolding payload_data_of
  payload_made u b e i e0 e4 e6 e8 rest =
      let t : ltb (length bytes) 12 ≡ false = le-ltb _ _ long in rw (t, u, b, e, i, e0, e4, e6, e8, rest) refl

payload_again : (c : ChunkPayloadData) → IsPayloadData c
    → payload_data_of (payload_data_flags c % 256) (payload_data_value c) ≡ Ok c
payload_again c h =
    let f = flags_of c in
    payload_made (payload_data_flags c % 256) (payload_data_value c) c (omega arith) f.unordered f.beginning
    f.ending f.immediate
    (from_be_bytes-to_be_bytes_4 c.tsn h.0) (from_be_bytes-to_be_bytes_2 c.stream_identifier h.1)
    (from_be_bytes-to_be_bytes_2 c.stream_sequence_number h.2)
    (ap identifier_of (from_be_bytes-to_be_bytes_4 (number_of c.payload_type) (identifier_below c.payload_type))
    ∙ identifier_again c.payload_type) refl

-- ---- INIT and INIT ACK

init_made : (bytes : List ℕ) (c : ChunkInit) → 16 ≤ length bytes → u32_at bytes 0 ≡ c.initiate_tag
    → u32_at bytes 4 ≡ c.advertised_receiver_window_credit → u16_at bytes 8 ≡ c.num_outbound_streams
    → u16_at bytes 10 ≡ c.num_inbound_streams
    → u32_at bytes 12 ≡ c.initial_tsn → params_at (drop 16 bytes) ≡ Ok c.params → init_of bytes ≡ Ok c
unfolding init_of
init_made bytes c long e0 e4 e8 e10 e12 ps =
    let t : ltb (length bytes) 16 ≡ false = le-ltb _ _ long in rw (t, ps, e0, e4, e8, e10, e12) refl

init_again : (c : ChunkInit) → IsInit c → list_all param_fits c.params ≡ true → list_all param_is_plain c.params ≡ true
    → init_of (init_value c) ≡ Ok c
init_again c h fits plain =
    init_made (init_value c) c (omega arith) (from_be_bytes-to_be_bytes_4 c.initiate_tag h.0)
    (from_be_bytes-to_be_bytes_4 c.advertised_receiver_window_credit h.1)
    (from_be_bytes-to_be_bytes_2 c.num_outbound_streams h.2) (from_be_bytes-to_be_bytes_2 c.num_inbound_streams h.3)
    (from_be_bytes-to_be_bytes_4 c.initial_tsn h.4)
    (params_again c.params h.5 fits plain)

-- ---- SACK

block_made : (x : GapAckBlock) (a b : ℕ) → a ≡ x.start → b ≡ x.end → record { start = a; end = b } ≡ x
block_made x a b e f = rw (e, f) refl

block_again : (x : GapAckBlock) (rest : List ℕ) → IsBlock x → block_at (block_bytes x ++ rest) ≡ x
block_again x rest h =
    block_made x _ _ (from_be_bytes-to_be_bytes_2 x.start h.0) (from_be_bytes-to_be_bytes_2 x.end h.1)

module _ (bytes : List ℕ) (b d : ℕ) (c : ChunkSelectiveAck) where
  sack_made : 12 + 4 * b + 4 * d ≤ length bytes → u32_at bytes 0 ≡ c.cumulative_tsn_ack
      → u32_at bytes 4 ≡ c.advertised_receiver_window_credit → u16_at bytes 8 ≡ b → u16_at bytes 10 ≡ d
      → entries_at block_at 4 b (drop 12 bytes) ≡ c.gap_ack_blocks
      → entries_at tsn_at 4 d (drop (12 + 4 * b) bytes) ≡ c.duplicate_tsn → selective_ack_of bytes ≡ Ok c
  unfolding selective_ack_of
  sack_made long e0 e4 e8 e10 blocks duplicates =
      let t : ltb (length bytes) 12 ≡ false = le-ltb _ _ (omega arith) in
      let s : ltb (length bytes) (12 + 4 * b + 4 * d) ≡ false = le-ltb _ _ long in
      rw (t, e8, e10, s, e0, e4, blocks, duplicates) refl

sack_again : (c : ChunkSelectiveAck) → IsSack c → frame_fits (framed 768 (selective_ack_value c)) ≡ true
    → selective_ack_of (selective_ack_value c) ≡ Ok c
sack_again c h fits =
    let short : length (selective_ack_value c) < 65532 = ltb-true _ _ fits in
    let len : length (selective_ack_value c) ≡ 12 + 4 * length c.gap_ack_blocks + 4 * length c.duplicate_tsn =
    sack_length c in
    let after : drop (12 + 4 * length c.gap_ack_blocks) (selective_ack_value c) ≡ flat_map tsn_bytes c.duplicate_tsn =
    sym (drop-drop (4 * length c.gap_ack_blocks) 12 (selective_ack_value c))
    ∙ drop_at (flat_map block_bytes c.gap_ack_blocks) (flat_map tsn_bytes c.duplicate_tsn) (4 * length c.gap_ack_blocks)
    (flat_length block_bytes 4 (λ x. refl) c.gap_ack_blocks) in
    let blocks =
    entries_again IsBlock block_at block_bytes 4 block_again (λ x. refl) c.gap_ack_blocks
    (flat_map tsn_bytes c.duplicate_tsn) h.2 in
    let duplicates : entries_at tsn_at 4 (length c.duplicate_tsn)
    (drop (12 + 4 * length c.gap_ack_blocks) (selective_ack_value c)) ≡ c.duplicate_tsn =
    ap (λ (bs : List ℕ). entries_at tsn_at 4 (length c.duplicate_tsn) bs)
    (after ∙ sym (append-nil (flat_map tsn_bytes c.duplicate_tsn)))
    ∙ entries_again IsU32 tsn_at tsn_bytes 4 (λ x rest lt. from_be_bytes-to_be_bytes_4 x lt) (λ x. refl)
    c.duplicate_tsn [] h.3 in
    sack_made (selective_ack_value c) (length c.gap_ack_blocks) (length c.duplicate_tsn) c (omega arith)
    (from_be_bytes-to_be_bytes_4 c.cumulative_tsn_ack h.0)
    (from_be_bytes-to_be_bytes_4 c.advertised_receiver_window_credit h.1)
    (from_be_bytes-to_be_bytes_2 (length c.gap_ack_blocks) (omega arith))
    (from_be_bytes-to_be_bytes_2 (length c.duplicate_tsn) (omega arith)) blocks duplicates

-- ---- RE-CONFIG

reconfig_one : (bytes : List ℕ) (f : Frame) (one : Param) → frame_at bytes ≡ Ok (f, []) → param_of f ≡ Ok one
    → reconfig_of bytes ≡ Ok (record { first = one; second = None })
unfolding reconfig_of
reconfig_one bytes f one e p = rw (e, p) refl

module _ (bytes : List ℕ) (f g : Frame) (rest : List ℕ) (one two : Param) where
  reconfig_two : frame_at bytes ≡ Ok (f, rest) → param_of f ≡ Ok one → 4 ≤ length rest → frame_at rest ≡ Ok (g, [])
      → param_of g ≡ Ok two → reconfig_of bytes ≡ Ok (record { first = one; second = Some two })
  unfolding reconfig_of
  reconfig_two e p long e2 q =
      let t : ltb (length rest) 4 ≡ false = le-ltb _ _ long in rw (e, p, t, e2, q) refl

reconfig_again : (one : Param) (o : Option Param) → AllByRecursion (IsAgain param_of param_frame) (reconfig_list one o)
    → reconfig_of (joined param_frame (reconfig_list one o)) ≡ Ok (record { first = one; second = o })
unfolding joined
reconfig_again one None h =
    reconfig_one (bare (param_frame one)) (param_frame one) one
    (frame_last (param_frame one) h.0.fits h.0.head) h.0.read
reconfig_again one (Some two) h =
    reconfig_two (padded (param_frame one) ++ bare (param_frame two)) (param_frame one) (param_frame two)
    (bare (param_frame two)) one two
    (frame_padded (param_frame one) (bare (param_frame two)) h.0.fits h.0.head) h.0.read (omega arith)
    (frame_last (param_frame two) h.1.0.fits h.1.0.head) h.1.0.read

-- ---- FORWARD TSN and I-FORWARD-TSN

skipped_made : (x : SkippedStream) (a b : ℕ) → a ≡ x.stream_identifier → b ≡ x.stream_sequence_number
    → record { stream_identifier = a; stream_sequence_number = b } ≡ x
skipped_made x a b e f = rw (e, f) refl

skipped_again : (x : SkippedStream) (rest : List ℕ) → IsSkipped x → skipped_at (skipped_bytes x ++ rest) ≡ x
skipped_again x rest h =
    skipped_made x _ _ (from_be_bytes-to_be_bytes_2 x.stream_identifier h.0)
    (from_be_bytes-to_be_bytes_2 x.stream_sequence_number h.1)

forward_made : (bytes : List ℕ) (n : ℕ) (c : ChunkForwardTsn) → 4 ≤ length bytes → (length bytes - 4) / 4 ≡ n
    → u32_at bytes 0 ≡ c.new_cumulative_tsn → entries_at skipped_at 4 n (drop 4 bytes) ≡ c.streams
    → forward_tsn_of bytes ≡ Ok c
unfolding forward_tsn_of
forward_made bytes n c long count e0 streams =
    let t : ltb (length bytes) 4 ≡ false = le-ltb _ _ long in rw (t, count, e0, streams) refl

forward_again : (c : ChunkForwardTsn) → IsForwardTsn c → forward_tsn_of (forward_tsn_value c) ≡ Ok c
forward_again c h =
    let streams =
    ap (λ (bs : List ℕ). entries_at skipped_at 4 (length c.streams) bs)
    (sym (append-nil (flat_map skipped_bytes c.streams)))
    ∙ entries_again IsSkipped skipped_at skipped_bytes 4 skipped_again (λ x. refl) c.streams [] h.1 in
    forward_made (forward_tsn_value c) (length c.streams) c (omega arith)
    (omega (arith, flat_length skipped_bytes 4 (λ x. refl) c.streams))
    (from_be_bytes-to_be_bytes_4 c.new_cumulative_tsn h.0) streams

bit_again : (b : Bool) → eqb (bit b 1 % 2) 1 ≡ b
bit_again true = refl
bit_again false = refl

bit_below : (b : Bool) → bit b 1 < 2 ^ 16
bit_below true = omega arith
bit_below false = omega arith

message_skip_made : (x : IForwardTsnEntry) (a : ℕ) (b : Bool) (m : ℕ) → a ≡ x.stream_identifier → b ≡ x.unordered
    → m ≡ x.message_identifier → record { stream_identifier = a; unordered = b; message_identifier = m } ≡ x
message_skip_made x a b m e f g = rw (e, f, g) refl

message_skip_again : (x : IForwardTsnEntry) (rest : List ℕ) → IsMessageSkip x
    → message_skip_at (message_skip_bytes x ++ rest) ≡ x
message_skip_again x rest h =
    message_skip_made x _ _ _ (from_be_bytes-to_be_bytes_2 x.stream_identifier h.0)
    (ap (λ (n : ℕ). eqb (n % 2) 1) (from_be_bytes-to_be_bytes_2 (bit x.unordered 1) (bit_below x.unordered))
    ∙ bit_again x.unordered)
    (from_be_bytes-to_be_bytes_4 x.message_identifier h.1)

i_forward_made : (bytes : List ℕ) (n : ℕ) (c : ChunkIForwardTsn) → 4 ≤ length bytes → (length bytes - 4) / 8 ≡ n
    → u32_at bytes 0 ≡ c.new_cumulative_tsn → entries_at message_skip_at 8 n (drop 4 bytes) ≡ c.entries
    → i_forward_tsn_of bytes ≡ Ok c
unfolding i_forward_tsn_of
i_forward_made bytes n c long count e0 entries =
    let t : ltb (length bytes) 4 ≡ false = le-ltb _ _ long in rw (t, count, e0, entries) refl

i_forward_again : (c : ChunkIForwardTsn) → IsIForwardTsn c → i_forward_tsn_of (i_forward_tsn_value c) ≡ Ok c
i_forward_again c h =
    let entries =
    ap (λ (bs : List ℕ). entries_at message_skip_at 8 (length c.entries) bs)
    (sym (append-nil (flat_map message_skip_bytes c.entries))) ∙ entries_again IsMessageSkip message_skip_at
    message_skip_bytes 8 message_skip_again (λ x. refl) c.entries [] h.1 in
    i_forward_made (i_forward_tsn_value c) (length c.entries) c (omega arith)
    (omega (arith, flat_length message_skip_bytes 8 (λ x. refl) c.entries))
    (from_be_bytes-to_be_bytes_4 c.new_cumulative_tsn h.0) entries

-- ---- any chunk

cumulative_tsn_ack_again : (n : ℕ) → n < 2 ^ 32 → cumulative_tsn_ack_of (to_be_bytes w32 n) ≡ Ok n
unfolding cumulative_tsn_ack_of
cumulative_tsn_ack_again n lt = ap (λ (m : ℕ). Ok m) (from_be_bytes-to_be_bytes_4 n lt)

data_chunk : (f : Frame) (c : ChunkPayloadData) → f.head / 256 ≡ 0 → payload_data_of (f.head % 256) f.value ≡ Ok c
    → chunk_of f ≡ Ok (chunks.Data c)
unfolding chunk_of
data_chunk f c kind e = rw (kind, e) refl

-- one of the tests holds
abbrev any_of : Bool → List Bool → Bool
any_of a [] = a
any_of a (b ∷ bs) = any_of (a || b) bs

none_of : (a : Bool) (bs : List Bool) → any_of a bs ≡ false
    → (a ≡ false) × AllByRecursion (λ (b : Bool). b ≡ false) bs
none_of a [] e = (e, tt)
none_of a (b ∷ bs) e =
    let r = none_of (a || b) bs e in
    let parts = or_parts a b r.0 in
    (parts.0, (parts.1, r.1))

other_chunk : (f : Frame) (kind flags : ℕ) → f.head / 256 ≡ kind → f.head % 256 ≡ flags
    → not (eqb kind 0 || eqb kind 1 || eqb kind 2 || eqb kind 3 || eqb kind 4 || eqb kind 5 || eqb kind 6 || eqb kind 7
    || eqb kind 8 || eqb kind 9 || eqb kind 10 || eqb kind 11 || eqb kind 14 || eqb kind 130 || eqb kind 192
    || eqb kind 194) ≡ true
    → chunk_of f ≡ Ok (chunks.Other kind flags f.value)
unfolding chunk_of
other_chunk f kind flags row column plain =
    let p =
    none_of (eqb kind 0) (eqb kind 1 ∷ eqb kind 2 ∷ eqb kind 3 ∷ eqb kind 4 ∷ eqb kind 5 ∷ eqb kind 6 ∷ eqb kind 7
    ∷ eqb kind 8 ∷ eqb kind 9 ∷ eqb kind 10 ∷ eqb kind 11 ∷ eqb kind 14 ∷ eqb kind 130 ∷ eqb kind 192 ∷ eqb kind 194
    ∷ []) (not-true _ plain) in
    let q = p.1.1.1.1 in
    let r = q.1.1.1.1 in
    let t = r.1.1.1.1 in
    rw (
      row,
      column,
      p.0,
      p.1.0,
      p.1.1.0,
      p.1.1.1.0,
      q.0,
      q.1.0,
      q.1.1.0,
      q.1.1.1.0,
      r.0,
      r.1.0,
      r.1.1.0,
      r.1.1.1.0,
      t.0,
      t.1.0,
      t.1.1.0,
      t.1.1.1.0,
    ) refl

pub chunk_again : (c : Chunk) → IsChunk c → chunk_fits c ≡ true → chunk_is_plain c ≡ true
    → chunk_of (chunk_frame c) ≡ Ok c
unfolding chunk_of
chunk_again (chunks.Data c) h fits plain =
    data_chunk (chunk_frame (chunks.Data c)) c (flags_of c).kind (payload_again c h)
chunk_again (chunks.Init c) h fits plain =
    ap (λ r. r >>= λ chunk. Ok (chunks.Init chunk)) (init_again c h (and_parts _ _ fits).0 plain)
chunk_again (chunks.InitAck c) h fits plain =
    ap (λ r. r >>= λ chunk. Ok (chunks.InitAck chunk)) (init_again c h (and_parts _ _ fits).0 plain)
chunk_again (chunks.SelectiveAck c) h fits plain =
    ap (λ r. r >>= λ chunk. Ok (chunks.SelectiveAck chunk)) (sack_again c h fits)
chunk_again (chunks.Heartbeat c) h fits plain =
    ap (λ r. r >>= λ params. Ok (chunks.Heartbeat (record { params = params })))
    (params_again c.params h (and_parts _ _ fits).0 plain)
chunk_again (chunks.HeartbeatAck c) h fits plain =
    ap (λ r. r >>= λ params. Ok (chunks.HeartbeatAck (record { params = params })))
    (params_again c.params h (and_parts _ _ fits).0 plain)
chunk_again (chunks.Abort c) h fits plain =
    ap (λ r. r >>= λ causes. Ok (chunks.Abort (record { error_causes = causes })))
    (causes_again c.error_causes h (and_parts _ _ fits).0)
chunk_again (chunks.Shutdown cumulative_tsn_ack) h fits plain =
    ap (λ r. r >>= λ cumulative_tsn_ack. Ok (chunks.Shutdown cumulative_tsn_ack))
    (cumulative_tsn_ack_again cumulative_tsn_ack h)
chunk_again chunks.ShutdownAck h fits plain = refl
chunk_again (chunks.Error c) h fits plain =
    ap (λ r. r >>= λ causes. Ok (chunks.Error (record { error_causes = causes })))
    (causes_again c.error_causes h (and_parts _ _ fits).0)
chunk_again (chunks.CookieEcho cookie) h fits plain = refl
chunk_again chunks.CookieAck h fits plain = refl
chunk_again chunks.ShutdownComplete h fits plain = refl
chunk_again (chunks.Reconfig c) h fits plain =
    ap (λ r. r >>= λ chunk. Ok (chunks.Reconfig chunk))
    (reconfig_again c.first c.second (params_are_again (reconfig_list c.first c.second) h (and_parts _ _ fits).0 plain))
chunk_again (chunks.ForwardTsn c) h fits plain =
    ap (λ r. r >>= λ chunk. Ok (chunks.ForwardTsn chunk)) (forward_again c h)
chunk_again (chunks.IForwardTsn c) h fits plain =
    ap (λ r. r >>= λ chunk. Ok (chunks.IForwardTsn chunk)) (i_forward_again c h)
chunk_again (chunks.Other kind flags value) h fits plain =
    other_chunk (chunk_frame (chunks.Other kind flags value)) kind flags (let lt : flags < 256 = h.1 in omega arith)
    (let lt : flags < 256 = h.1 in omega arith) plain

pub chunk_head : (c : Chunk) → IsChunk c → (chunk_frame c).head < 2 ^ 16
chunk_head (chunks.Data c) h = (flags_of c).below
chunk_head (chunks.Init c) h = omega arith
chunk_head (chunks.InitAck c) h = omega arith
chunk_head (chunks.SelectiveAck c) h = omega arith
chunk_head (chunks.Heartbeat c) h = omega arith
chunk_head (chunks.HeartbeatAck c) h = omega arith
chunk_head (chunks.Abort c) h = omega arith
chunk_head (chunks.Shutdown cumulative_tsn_ack) h = omega arith
chunk_head chunks.ShutdownAck h = omega arith
chunk_head (chunks.Error c) h = omega arith
chunk_head (chunks.CookieEcho cookie) h = omega arith
chunk_head chunks.CookieAck h = omega arith
chunk_head chunks.ShutdownComplete h = omega arith
chunk_head (chunks.Reconfig c) h = omega arith
chunk_head (chunks.ForwardTsn c) h = omega arith
chunk_head (chunks.IForwardTsn c) h = omega arith
chunk_head (chunks.Other kind flags value) h = let k : kind < 256 = h.0 in let f : flags < 256 = h.1 in omega arith

chunks_are_again : (cs : List Chunk) → AllByRecursion IsChunk cs → list_all chunk_fits cs ≡ true
    → list_all chunk_is_plain cs ≡ true → AllByRecursion (IsAgain chunk_of chunk_frame) cs
chunks_are_again [] h fits plain = tt
chunks_are_again (c ∷ cs) h fits plain =
    let f = and_parts _ _ fits in
    let q = and_parts _ _ plain in (
      record { fits = (and_parts _ _ f.0).1; head = chunk_head c h.0; read = chunk_again c h.0 f.0 q.0 },
      chunks_are_again cs h.1 f.1 q.1,
    )

pub chunks_again : (cs : List Chunk) → AllByRecursion IsChunk cs → list_all chunk_fits cs ≡ true
    → list_all chunk_is_plain cs ≡ true → chunks_at (flat_map chunk_bytes cs) ≡ Ok cs
chunks_again cs h fits plain = items_again chunk_of chunk_frame cs (chunks_are_again cs h fits plain)
