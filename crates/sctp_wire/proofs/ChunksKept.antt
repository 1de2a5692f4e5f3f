-- Chunks that are read are in range, stand for themselves and fit.
use Rattle.std.proofs.Common.{◌≡◌, ℕ, ◌+◌, ◌-◌, ◌*◌, ◌/◌, ◌%◌, ◌^◌, ◌<◌, ◌≤◌, Bool, true, false, not, ◌||◌}
use Rattle.std.proofs.Common.{eqb, cond, ltb, List, [], ◌∷◌, length, drop, Some, None, Result}
use Rattle.std.proofs.Common.{Ok, refl, ap, subst, ◌∙◌, arith}
use Rattle.std.specs.List.{flat_map, list_all, AllByRecursion}
use Rattle.std.proofs.lemmas.Bool.{ltb-false, lt-ltb, and_from}
use Rattle.std.proofs.lemmas.List.{length-drop}
use Rattle.sctp_wire_types.specs.declared.error.Fault.{Fault}
use Rattle.sctp_wire_types.specs.declared.chunk.Chunk.{Chunk}
use Rattle.sctp_wire_types.specs.declared.chunk.Chunk.TheVariants as chunks
use Rattle.sctp_wire_types.specs.declared.chunk.ChunkPayloadData.{ChunkPayloadData}
use Rattle.sctp_wire_types.specs.declared.chunk.ChunkInit.{ChunkInit}
use Rattle.sctp_wire_types.specs.declared.chunk.ChunkSelectiveAck.{ChunkSelectiveAck}
use Rattle.sctp_wire_types.specs.declared.chunk.ChunkReconfig.{ChunkReconfig}
use Rattle.sctp_wire_types.specs.declared.chunk.ChunkForwardTsn.{ChunkForwardTsn}
use Rattle.sctp_wire_types.specs.declared.chunk.ChunkIForwardTsn.{ChunkIForwardTsn}
use Rattle.sctp_wire.specs.declared.frame.Frame.{Frame}
use Rattle.sctp_wire.specs.Results.{◌>>=◌}
use Rattle.sctp_wire.specs.Numbers.{u16_at, u32_at, IsU32}
use Rattle.sctp_wire.specs.Frames.{frame_at, entries_at, joined}
use Rattle.sctp_wire.specs.Params.{param_of, param_frame, param_fits, param_is_plain, params_at}
use Rattle.sctp_wire.specs.Params.{causes_at}
use Rattle.sctp_wire.specs.PayloadData.{payload_data_of, payload_data_value, IsPayloadData}
use Rattle.sctp_wire.specs.Init.{init_of, init_value, IsInit}
use Rattle.sctp_wire.specs.SelectiveAck.{block_at, IsBlock, tsn_at, selective_ack_of, selective_ack_value, IsSack}
use Rattle.sctp_wire.specs.ForwardTsn.{skipped_at, skipped_bytes, IsSkipped, forward_tsn_of, forward_tsn_value}
use Rattle.sctp_wire.specs.ForwardTsn.{IsForwardTsn, message_skip_at, message_skip_bytes, IsMessageSkip}
use Rattle.sctp_wire.specs.ForwardTsn.{i_forward_tsn_of, i_forward_tsn_value, IsIForwardTsn}
use Rattle.sctp_wire.specs.Reconfig.{reconfig_of, reconfig_params}
use Rattle.sctp_wire.specs.Chunks.{cumulative_tsn_ack_of, chunk_of, chunks_at, chunk_frame, chunk_fits, IsChunk}
use Rattle.sctp_wire.specs.Chunks.{chunk_is_plain}
use Rattle.sctp_wire.proofs.FrameLoop.{ok_is}
use Rattle.sctp_wire.proofs.ListsWritten.{flat_length, sack_length}
use Rattle.sctp_wire.proofs.FramesKept.{AreBytes, AreBytes-drop, u16_below, u32_below, bind_ok, choose, frame_kept}
use Rattle.sctp_wire.proofs.FramesKept.{entries_kept, entries_count, joined_length, items_kept}
use Rattle.sctp_wire.proofs.ParamsKept.{AreWhole, all_whole_params, fits_below, param_kept, params_kept}
use Rattle.sctp_wire.proofs.ParamsKept.{causes_kept}

abbrev PayloadKept : ℕ → ChunkPayloadData → Type 0
PayloadKept len c = IsPayloadData c × (length (payload_data_value c) ≤ len)

payload_kept : (flags : ℕ) (value : List ℕ) (c : ChunkPayloadData) → AreBytes value → payload_data_of flags value ≡ Ok c
    → PayloadKept (length value) c
unfolding payload_data_of
payload_kept flags value c h e =
    choose (ltb (length value) 12) _ _ _ e (λ t k. absurd cc)
    (λ t k.
    let long : 12 ≤ length value = ltb-false _ _ t in
    subst (PayloadKept (length value)) (ok_is _ c k)
    ((u32_below value 0 h, u16_below value 4 h, u16_below value 6 h), omega (arith, length-drop 12 value)))

abbrev InitKept : ℕ → ChunkInit → Type 0
InitKept len c =
    (IsInit c × (list_all param_is_plain c.params ≡ true) × (list_all param_fits c.params ≡ true))
    × (length (init_value c) ≤ len)

init_kept : (value : List ℕ) (c : ChunkInit) → AreBytes value → init_of value ≡ Ok c → InitKept (length value) c
unfolding init_of
init_kept value c h e =
    choose (ltb (length value) 16) _ _ _ e (λ t k. absurd cc)
    (λ t k.
    let long : 16 ≤ length value = ltb-false _ _ t in
    let a =
    bind_ok (params_at (drop 16 value)) (λ params.
    Ok
    (record {
      initiate_tag = u32_at value 0;
      advertised_receiver_window_credit = u32_at value 4;
      num_outbound_streams = u16_at value 8;
      num_inbound_streams = u16_at value 10;
      initial_tsn = u32_at value 12;
      params = params;
    })) c k in
    let ps = params_kept (drop 16 value) a.0 (AreBytes-drop 16 value h) a.1 in
    let len : length (joined param_frame a.0) ≤ length (drop 16 value) = ps.1 in
    subst (InitKept (length value)) (ok_is _ c a.2) (
      (
        (
          u32_below value 0 h,
          u32_below value 4 h,
          u16_below value 8 h,
          u16_below value 10 h,
          u32_below value 12 h,
          ps.0.ranges,
        ),
        ps.0.plain,
        ps.0.fits,
      ),
      omega (arith, length-drop 16 value),
    ))

abbrev SackKept : ℕ → ChunkSelectiveAck → Type 0
SackKept len c = IsSack c × (length (selective_ack_value c) ≤ len)

abbrev sack_at : List ℕ → ChunkSelectiveAck
sack_at value = record {
  cumulative_tsn_ack = u32_at value 0;
  advertised_receiver_window_credit = u32_at value 4;
  gap_ack_blocks = entries_at block_at 4 (u16_at value 8) (drop 12 value);
  duplicate_tsn = entries_at tsn_at 4 (u16_at value 10) (drop (12 + 4 * u16_at value 8) value);
}

sack_kept : (value : List ℕ) (c : ChunkSelectiveAck) → AreBytes value → selective_ack_of value ≡ Ok c
    → SackKept (length value) c
unfolding selective_ack_of
sack_kept value c h e =
    choose (ltb (length value) 12) _ _ _ e (λ t k. absurd cc)
    (λ t k.
    choose (ltb (length value) (12 + 4 * u16_at value 8 + 4 * u16_at value 10)) _ _ _ k (λ s l. absurd cc)
    (λ s l.
    let long : 12 + 4 * u16_at value 8 + 4 * u16_at value 10 ≤ length value = ltb-false _ _ s in
    let blocks : length (entries_at block_at 4 (u16_at value 8) (drop 12 value)) ≡ u16_at value 8 =
    entries_count block_at 4 (u16_at value 8) (drop 12 value) in
    let duplicates : length (entries_at tsn_at 4 (u16_at value 10) (drop (12 + 4 * u16_at value 8) value))
    ≡ u16_at value 10 = entries_count tsn_at 4 (u16_at value 10) (drop (12 + 4 * u16_at value 8) value) in
    let spelled : length (selective_ack_value (sack_at value)) ≡ 12 + 4 * u16_at value 8 + 4 * u16_at value 10 =
    sack_length (sack_at value) ∙ rw (blocks, duplicates) refl in
    let kept : SackKept (length value) (sack_at value) = (
      (
        u32_below value 0 h,
        u32_below value 4 h,
        entries_kept IsBlock block_at 4 (λ bytes fits. (u16_below bytes 0 fits, u16_below bytes 2 fits))
            (u16_at value 8) (drop 12 value) (AreBytes-drop 12 value h),
        entries_kept IsU32 tsn_at 4 (λ bytes fits. u32_below bytes 0 fits) (u16_at value 10)
            (drop (12 + 4 * u16_at value 8) value) (AreBytes-drop (12 + 4 * u16_at value 8) value h),
      ),
      rw spelled long,
    ) in
    subst (SackKept (length value)) (ok_is (sack_at value) c l) kept))

abbrev ReconfigKept : ℕ → ChunkReconfig → Type 0
ReconfigKept len c = AreWhole (reconfig_params c) × (length (joined param_frame (reconfig_params c)) ≤ len)

reconfig_kept : (value : List ℕ) (c : ChunkReconfig) → AreBytes value → reconfig_of value ≡ Ok c
    → ReconfigKept (length value) c
unfolding reconfig_of joined
reconfig_kept value c h e =
    let a =
    bind_ok (frame_at value) (λ first. param_of first.0 >>= λ one.
    cond (ltb (length first.1) 4) (Ok (record { first = one; second = None }))
    (frame_at first.1 >>= λ second. param_of second.0 >>= λ two. Ok (record { first = one; second = Some two }))) c e in
    let b =
    bind_ok (param_of a.0.0) (λ one. cond (ltb (length a.0.1) 4) (Ok (record { first = one; second = None }))
    (frame_at a.0.1 >>= λ second. param_of second.0 >>= λ two. Ok (record { first = one; second = Some two }))) c a.2 in
    let f = frame_kept value a.0.0 a.0.1 h a.1 in
    let one = param_kept a.0.0 b.0 b.1 f.head f.short f.value in
    choose (ltb (length a.0.1) 4) _ _ _ b.2
    (λ t k. subst (ReconfigKept (length value)) (ok_is (record { first = b.0; second = None }) c k)
    (all_whole_params (b.0 ∷ []) (one.0, tt), joined_length param_frame b.0 [] value a.0.0 a.0.1 f one.1 (omega arith)))
    (λ t k.
    let d =
    bind_ok (frame_at a.0.1) (λ second. param_of second.0 >>= λ two. Ok (record { first = b.0; second = Some two })) c
    k in
    let g = bind_ok (param_of d.0.0) (λ two. Ok (record { first = b.0; second = Some two })) c d.2 in
    let f2 = frame_kept a.0.1 d.0.0 d.0.1 f.others d.1 in
    let two = param_kept d.0.0 g.0 g.1 f2.head f2.short f2.value in
    let inner = joined_length param_frame g.0 [] a.0.1 d.0.0 d.0.1 f2 two.1 (omega arith) in
    subst (ReconfigKept (length value)) (ok_is (record { first = b.0; second = Some g.0 }) c g.2) (
      all_whole_params (b.0 ∷ g.0 ∷ []) (one.0, (two.0, tt)),
      joined_length param_frame b.0 (g.0 ∷ []) value a.0.0 a.0.1 f one.1 inner,
    ))

abbrev ForwardKept : ℕ → ChunkForwardTsn → Type 0
ForwardKept len c = IsForwardTsn c × (length (forward_tsn_value c) ≤ len)

abbrev forward_at : List ℕ → ChunkForwardTsn
forward_at value = record {
  new_cumulative_tsn = u32_at value 0;
  streams = entries_at skipped_at 4 ((length value - 4) / 4) (drop 4 value);
}

forward_kept : (value : List ℕ) (c : ChunkForwardTsn) → AreBytes value → forward_tsn_of value ≡ Ok c
    → ForwardKept (length value) c
unfolding forward_tsn_of
forward_kept value c h e =
    choose (ltb (length value) 4) _ _ _ e (λ t k. absurd cc)
    (λ t k.
    let long : 4 ≤ length value = ltb-false _ _ t in
    let count : length (entries_at skipped_at 4 ((length value - 4) / 4) (drop 4 value)) ≡ (length value - 4) / 4 =
    entries_count skipped_at 4 ((length value - 4) / 4) (drop 4 value) in
    let wide : length (flat_map skipped_bytes (forward_at value).streams) ≡ 4 * length (forward_at value).streams =
    flat_length skipped_bytes 4 (λ x. refl) (forward_at value).streams in
    let kept : ForwardKept (length value) (forward_at value) = (
      (
        u32_below value 0 h,
        entries_kept IsSkipped skipped_at 4 (λ bytes fits. (u16_below bytes 0 fits, u16_below bytes 2 fits))
            ((length value - 4) / 4) (drop 4 value) (AreBytes-drop 4 value h),
      ),
      omega arith,
    ) in
    subst (ForwardKept (length value)) (ok_is (forward_at value) c k) kept)

abbrev IForwardKept : ℕ → ChunkIForwardTsn → Type 0
IForwardKept len c = IsIForwardTsn c × (length (i_forward_tsn_value c) ≤ len)

abbrev i_forward_at : List ℕ → ChunkIForwardTsn
i_forward_at value = record {
  new_cumulative_tsn = u32_at value 0;
  entries = entries_at message_skip_at 8 ((length value - 4) / 8) (drop 4 value);
}

i_forward_kept : (value : List ℕ) (c : ChunkIForwardTsn) → AreBytes value → i_forward_tsn_of value ≡ Ok c
    → IForwardKept (length value) c
unfolding i_forward_tsn_of
i_forward_kept value c h e =
    choose (ltb (length value) 4) _ _ _ e (λ t k. absurd cc)
    (λ t k.
    let long : 4 ≤ length value = ltb-false _ _ t in
    let count : length (entries_at message_skip_at 8 ((length value - 4) / 8) (drop 4 value)) ≡ (length value - 4) / 8 =
    entries_count message_skip_at 8 ((length value - 4) / 8) (drop 4 value) in
    let wide : length (flat_map message_skip_bytes (i_forward_at value).entries)
    ≡ 8 * length (i_forward_at value).entries =
    flat_length message_skip_bytes 8 (λ x. refl) (i_forward_at value).entries in
    let kept : IForwardKept (length value) (i_forward_at value) = (
      (
        u32_below value 0 h,
        entries_kept IsMessageSkip message_skip_at 8 (λ bytes fits. (u16_below bytes 0 fits, u32_below bytes 4 fits))
            ((length value - 4) / 8) (drop 4 value) (AreBytes-drop 4 value h),
      ),
      omega arith,
    ) in
    subst (IForwardKept (length value)) (ok_is (i_forward_at value) c k) kept)

-- ---- any chunk

abbrev pub IsWholeChunk : Chunk → Type 0
IsWholeChunk c = IsChunk c × (chunk_is_plain c ≡ true) × (chunk_fits c ≡ true)

abbrev ChunkKept : ℕ → Chunk → Type 0
ChunkKept len c = IsWholeChunk c × (length (chunk_frame c).value ≤ len)

-- of two tests that fail, neither holds
neither : {a b : Bool} → a ≡ false → b ≡ false → (a || b) ≡ false
neither x y = rw (x, y) refl

abbrev done : Chunk → Result Chunk Fault
done c = Ok c

-- each kind of chunk
record Case (f : Frame) (c : Chunk) : Type 0 where
  head : f.head < 2 ^ 16
  short : length f.value < 65532
  bytes : AreBytes f.value

data_case : (f : Frame) (c : Chunk) → Case f c
    → (payload_data_of (f.head % 256) f.value >>= λ chunk. Ok (chunks.Data chunk)) ≡ Ok c → ChunkKept (length f.value) c
data_case f c h e =
    let a = bind_ok (payload_data_of (f.head % 256) f.value) (λ chunk. Ok (chunks.Data chunk)) c e in
    let k = payload_kept (f.head % 256) f.value a.0 h.bytes a.1 in
    subst (ChunkKept (length f.value)) (ok_is (chunks.Data a.0) c a.2) ((k.0, refl, fits_below _ _ k.1 h.short), k.1)

init_case : (f : Frame) (c : Chunk) → Case f c → (init_of f.value >>= λ chunk. Ok (chunks.Init chunk)) ≡ Ok c
    → ChunkKept (length f.value) c
init_case f c h e =
    let a = bind_ok (init_of f.value) (λ chunk. Ok (chunks.Init chunk)) c e in
    let k = init_kept f.value a.0 h.bytes a.1 in
    subst (ChunkKept (length f.value)) (ok_is (chunks.Init a.0) c a.2)
    ((k.0.0, k.0.1, and_from _ _ k.0.2 (fits_below _ _ k.1 h.short)), k.1)

init_ack_case : (f : Frame) (c : Chunk) → Case f c → (init_of f.value >>= λ chunk. Ok (chunks.InitAck chunk)) ≡ Ok c
    → ChunkKept (length f.value) c
init_ack_case f c h e =
    let a = bind_ok (init_of f.value) (λ chunk. Ok (chunks.InitAck chunk)) c e in
    let k = init_kept f.value a.0 h.bytes a.1 in
    subst (ChunkKept (length f.value)) (ok_is (chunks.InitAck a.0) c a.2)
    ((k.0.0, k.0.1, and_from _ _ k.0.2 (fits_below _ _ k.1 h.short)), k.1)

sack_case : (f : Frame) (c : Chunk) → Case f c
    → (selective_ack_of f.value >>= λ chunk. Ok (chunks.SelectiveAck chunk)) ≡ Ok c → ChunkKept (length f.value) c
sack_case f c h e =
    let a = bind_ok (selective_ack_of f.value) (λ chunk. Ok (chunks.SelectiveAck chunk)) c e in
    let k = sack_kept f.value a.0 h.bytes a.1 in
    subst (ChunkKept (length f.value)) (ok_is (chunks.SelectiveAck a.0) c a.2)
    ((k.0, refl, fits_below _ _ k.1 h.short), k.1)

heartbeat_case : (f : Frame) (c : Chunk) → Case f c
    → (params_at f.value >>= λ params. Ok (chunks.Heartbeat (record { params = params }))) ≡ Ok c
    → ChunkKept (length f.value) c
heartbeat_case f c h e =
    let a = bind_ok (params_at f.value) (λ params. Ok (chunks.Heartbeat (record { params = params }))) c e in
    let k = params_kept f.value a.0 h.bytes a.1 in
    subst (ChunkKept (length f.value)) (ok_is (chunks.Heartbeat (record { params = a.0 })) c a.2)
    ((k.0.ranges, k.0.plain, and_from _ _ k.0.fits (fits_below _ _ k.1 h.short)), k.1)

heartbeat_ack_case : (f : Frame) (c : Chunk) → Case f c
    → (params_at f.value >>= λ params. Ok (chunks.HeartbeatAck (record { params = params }))) ≡ Ok c
    → ChunkKept (length f.value) c
heartbeat_ack_case f c h e =
    let a = bind_ok (params_at f.value) (λ params. Ok (chunks.HeartbeatAck (record { params = params }))) c e in
    let k = params_kept f.value a.0 h.bytes a.1 in
    subst (ChunkKept (length f.value)) (ok_is (chunks.HeartbeatAck (record { params = a.0 })) c a.2)
    ((k.0.ranges, k.0.plain, and_from _ _ k.0.fits (fits_below _ _ k.1 h.short)), k.1)

abort_case : (f : Frame) (c : Chunk) → Case f c
    → (causes_at f.value >>= λ causes. Ok (chunks.Abort (record { error_causes = causes }))) ≡ Ok c
    → ChunkKept (length f.value) c
abort_case f c h e =
    let a = bind_ok (causes_at f.value) (λ causes. Ok (chunks.Abort (record { error_causes = causes }))) c e in
    let k = causes_kept f.value a.0 h.bytes a.1 in
    subst (ChunkKept (length f.value)) (ok_is (chunks.Abort (record { error_causes = a.0 })) c a.2)
    ((k.0.ranges, refl, and_from _ _ k.0.fits (fits_below _ _ k.1 h.short)), k.1)

error_case : (f : Frame) (c : Chunk) → Case f c
    → (causes_at f.value >>= λ causes. Ok (chunks.Error (record { error_causes = causes }))) ≡ Ok c
    → ChunkKept (length f.value) c
error_case f c h e =
    let a = bind_ok (causes_at f.value) (λ causes. Ok (chunks.Error (record { error_causes = causes }))) c e in
    let k = causes_kept f.value a.0 h.bytes a.1 in
    subst (ChunkKept (length f.value)) (ok_is (chunks.Error (record { error_causes = a.0 })) c a.2)
    ((k.0.ranges, refl, and_from _ _ k.0.fits (fits_below _ _ k.1 h.short)), k.1)

cumulative_tsn_ack_kept : (value : List ℕ) (n : ℕ) → AreBytes value → cumulative_tsn_ack_of value ≡ Ok n
    → IsU32 n × (4 ≤ length value)
unfolding cumulative_tsn_ack_of
cumulative_tsn_ack_kept value n h e =
    choose (ltb (length value) 4) _ _ _ e (λ t k. absurd cc)
    (λ t k. let long : 4 ≤ length value = ltb-false _ _ t in
    subst (λ (m : ℕ). IsU32 m × (4 ≤ length value)) (ok_is (u32_at value 0) n k) (u32_below value 0 h, long))

shutdown_case : (f : Frame) (c : Chunk) → Case f c
    → (cumulative_tsn_ack_of f.value >>= λ cumulative_tsn_ack. Ok (chunks.Shutdown cumulative_tsn_ack)) ≡ Ok c
    → ChunkKept (length f.value) c
shutdown_case f c h e =
    let a = bind_ok (cumulative_tsn_ack_of f.value)
    (λ cumulative_tsn_ack. Ok (chunks.Shutdown cumulative_tsn_ack)) c e in
    let k = cumulative_tsn_ack_kept f.value a.0 h.bytes a.1 in
    subst (ChunkKept (length f.value)) (ok_is (chunks.Shutdown a.0) c a.2) ((k.0, refl, refl), k.1)

cookie_case : (f : Frame) (c : Chunk) → Case f c → done (chunks.CookieEcho f.value) ≡ Ok c
    → ChunkKept (length f.value) c
cookie_case f c h e =
    subst (ChunkKept (length f.value)) (ok_is (chunks.CookieEcho f.value) c e)
    ((tt, refl, lt-ltb _ _ h.short), omega arith)

shutdown_ack_case : (f : Frame) (c : Chunk) → Case f c → done chunks.ShutdownAck ≡ Ok c → ChunkKept (length f.value) c
shutdown_ack_case f c h e =
    subst (ChunkKept (length f.value)) (ok_is chunks.ShutdownAck c e) ((tt, refl, refl), omega arith)

cookie_ack_case : (f : Frame) (c : Chunk) → Case f c → done chunks.CookieAck ≡ Ok c → ChunkKept (length f.value) c
cookie_ack_case f c h e =
    subst (ChunkKept (length f.value)) (ok_is chunks.CookieAck c e) ((tt, refl, refl), omega arith)

shutdown_complete_case : (f : Frame) (c : Chunk) → Case f c → done chunks.ShutdownComplete ≡ Ok c
    → ChunkKept (length f.value) c
shutdown_complete_case f c h e =
    subst (ChunkKept (length f.value)) (ok_is chunks.ShutdownComplete c e) ((tt, refl, refl), omega arith)

reconfig_case : (f : Frame) (c : Chunk) → Case f c
    → (reconfig_of f.value >>= λ chunk. Ok (chunks.Reconfig chunk)) ≡ Ok c → ChunkKept (length f.value) c
reconfig_case f c h e =
    let a = bind_ok (reconfig_of f.value) (λ chunk. Ok (chunks.Reconfig chunk)) c e in
    let k = reconfig_kept f.value a.0 h.bytes a.1 in
    subst (ChunkKept (length f.value)) (ok_is (chunks.Reconfig a.0) c a.2)
    ((k.0.ranges, k.0.plain, and_from _ _ k.0.fits (fits_below _ _ k.1 h.short)), k.1)

forward_case : (f : Frame) (c : Chunk) → Case f c
    → (forward_tsn_of f.value >>= λ chunk. Ok (chunks.ForwardTsn chunk)) ≡ Ok c → ChunkKept (length f.value) c
forward_case f c h e =
    let a = bind_ok (forward_tsn_of f.value) (λ chunk. Ok (chunks.ForwardTsn chunk)) c e in
    let k = forward_kept f.value a.0 h.bytes a.1 in
    subst (ChunkKept (length f.value)) (ok_is (chunks.ForwardTsn a.0) c a.2)
    ((k.0, refl, fits_below _ _ k.1 h.short), k.1)

i_forward_case : (f : Frame) (c : Chunk) → Case f c
    → (i_forward_tsn_of f.value >>= λ chunk. Ok (chunks.IForwardTsn chunk)) ≡ Ok c → ChunkKept (length f.value) c
i_forward_case f c h e =
    let a = bind_ok (i_forward_tsn_of f.value) (λ chunk. Ok (chunks.IForwardTsn chunk)) c e in
    let k = i_forward_kept f.value a.0 h.bytes a.1 in
    subst (ChunkKept (length f.value)) (ok_is (chunks.IForwardTsn a.0) c a.2)
    ((k.0, refl, fits_below _ _ k.1 h.short), k.1)

other_case : (f : Frame) (c : Chunk) → Case f c → done (chunks.Other (f.head / 256) (f.head % 256) f.value) ≡ Ok c
    → not (eqb (f.head / 256) 0 || eqb (f.head / 256) 1 || eqb (f.head / 256) 2 || eqb (f.head / 256) 3
    || eqb (f.head / 256) 4 || eqb (f.head / 256) 5 || eqb (f.head / 256) 6 || eqb (f.head / 256) 7
    || eqb (f.head / 256) 8 || eqb (f.head / 256) 9 || eqb (f.head / 256) 10 || eqb (f.head / 256) 11
    || eqb (f.head / 256) 14 || eqb (f.head / 256) 130 || eqb (f.head / 256) 192 || eqb (f.head / 256) 194) ≡ true
    → ChunkKept (length f.value) c
other_case f c h e plain =
    let head = h.head in
    let kind : f.head / 256 < 256 = omega arith in
    let flags : f.head % 256 < 256 = omega arith in
    subst (ChunkKept (length f.value)) (ok_is (chunks.Other (f.head / 256) (f.head % 256) f.value) c e)
    (((kind, flags), plain, lt-ltb _ _ h.short), omega arith)

chunk_case : (f : Frame) (c : Chunk) → chunk_of f ≡ Ok c → Case f c → ChunkKept (length f.value) c
unfolding chunk_of
chunk_case f c e h =
    choose (eqb (f.head / 256) 0) _ _ _ e (λ t k. data_case f c h k) (λ n0 e0.
    choose (eqb (f.head / 256) 1) _ _ _ e0 (λ t k. init_case f c h k) (λ n1 e1.
    choose (eqb (f.head / 256) 2) _ _ _ e1 (λ t k. init_ack_case f c h k) (λ n2 e2.
    choose (eqb (f.head / 256) 3) _ _ _ e2 (λ t k. sack_case f c h k) (λ n3 e3.
    choose (eqb (f.head / 256) 4) _ _ _ e3 (λ t k. heartbeat_case f c h k) (λ n4 e4.
    choose (eqb (f.head / 256) 5) _ _ _ e4 (λ t k. heartbeat_ack_case f c h k) (λ n5 e5.
    choose (eqb (f.head / 256) 6) _ _ _ e5 (λ t k. abort_case f c h k) (λ n6 e6.
    choose (eqb (f.head / 256) 7) _ _ _ e6 (λ t k. shutdown_case f c h k) (λ n7 e7.
    choose (eqb (f.head / 256) 8) _ _ _ e7 (λ t k. shutdown_ack_case f c h k) (λ n8 e8.
    choose (eqb (f.head / 256) 9) _ _ _ e8 (λ t k. error_case f c h k) (λ n9 e9.
    choose (eqb (f.head / 256) 10) _ _ _ e9 (λ t k. cookie_case f c h k) (λ n10 e10.
    choose (eqb (f.head / 256) 11) _ _ _ e10 (λ t k. cookie_ack_case f c h k) (λ n11 e11.
    choose (eqb (f.head / 256) 14) _ _ _ e11 (λ t k. shutdown_complete_case f c h k) (λ n12 e12.
    choose (eqb (f.head / 256) 130) _ _ _ e12 (λ t k. reconfig_case f c h k) (λ n13 e13.
    choose (eqb (f.head / 256) 192) _ _ _ e13 (λ t k. forward_case f c h k) (λ n14 e14.
    choose (eqb (f.head / 256) 194) _ _ _ e14 (λ t k. i_forward_case f c h k) (λ n15 e15.
    let low = neither (neither (neither n0 n1) n2) n3 in
    let more = neither (neither (neither (neither low n4) n5) n6) n7 in
    let further = neither (neither (neither (neither more n8) n9) n10) n11 in
    let all = neither (neither (neither (neither further n12) n13) n14) n15 in
    other_case f c h e15 (ap not all)))))))))))))))))

pub record AreWholeChunks (cs : List Chunk) : Type 0 where
  pub ranges : AllByRecursion IsChunk cs
  pub plain : list_all chunk_is_plain cs ≡ true
  pub fits : list_all chunk_fits cs ≡ true

all_whole_chunks : (cs : List Chunk) → AllByRecursion IsWholeChunk cs → AreWholeChunks cs
all_whole_chunks [] h = record { ranges = tt; plain = refl; fits = refl }
all_whole_chunks (c ∷ cs) h =
    let others = all_whole_chunks cs h.1 in
    record {
      ranges = (h.0.0, others.ranges);
      plain = and_from _ _ h.0.1 others.plain;
      fits = and_from _ _ h.0.2 others.fits;
    }

pub chunks_kept : (bytes : List ℕ) (cs : List Chunk) → AreBytes bytes → chunks_at bytes ≡ Ok cs → AreWholeChunks cs
chunks_kept bytes cs h e =
    all_whole_chunks cs (items_kept IsWholeChunk chunk_of chunk_frame 1
    (λ f c e head short fits. chunk_case f c e (record { head = head; short = short; bytes = fits })) bytes cs h e).0
