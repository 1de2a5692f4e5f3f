-- Chunks of every kind: what bytes are read as, what they are spelled as, the ranges of their numbers, and which stand
-- for themselves: one kept under `Other` has no type that another variant has.
use Rattle.std.specs.Prelude.{ℕ, ◌+◌, ◌*◌, ◌/◌, ◌%◌, ◌<◌, ◌==◌, if◌then◌else◌, nat_lt, Bool, true, ◌&&◌, List, []}
use Rattle.std.specs.Prelude.{length, Result, Ok, Err, ◌||◌, not}
use Rattle.std.specs.Int.{w32, to_be_bytes}
use Rattle.std.specs.List.{list_all, AllByRecursion}
use Rattle.sctp_wire_types.specs.declared.error.Fault.{Fault}
use Rattle.sctp_wire_types.specs.declared.error.Fault.TheVariants.{Short}
use Rattle.sctp_wire_types.specs.declared.chunk.Chunk.{Chunk}
use Rattle.sctp_wire_types.specs.declared.chunk.Chunk.TheVariants as chunks
use Rattle.sctp_wire.specs.declared.frame.Frame.{Frame}
use Rattle.sctp_wire.specs.Results.{◌>>=◌}
use Rattle.sctp_wire.specs.Numbers.{u32_at, IsU32}
use Rattle.sctp_wire.specs.Frames.{items_at, framed, padded, frame_fits, joined}
use Rattle.sctp_wire.specs.Params.{param_frame, param_fits, IsParam, param_is_plain, params_at, cause_frame, cause_fits}
use Rattle.sctp_wire.specs.Params.{IsCause, causes_at}
use Rattle.sctp_wire.specs.PayloadData.{payload_data_of, payload_data_flags, payload_data_value, IsPayloadData}
use Rattle.sctp_wire.specs.Init.{init_of, init_value, IsInit}
use Rattle.sctp_wire.specs.SelectiveAck.{selective_ack_of, selective_ack_value, IsSack}
use Rattle.sctp_wire.specs.ForwardTsn.{forward_tsn_of, forward_tsn_value, IsForwardTsn, i_forward_tsn_of}
use Rattle.sctp_wire.specs.ForwardTsn.{i_forward_tsn_value, IsIForwardTsn}
use Rattle.sctp_wire.specs.Reconfig.{reconfig_of, reconfig_params}

-- the cumulative TSN ack of a SHUTDOWN (RFC 4960 section 3.3.8)
unfoldable pub cumulative_tsn_ack_of : List ℕ → Result ℕ Fault
cumulative_tsn_ack_of value = if nat_lt (length value) 4 then Err Short else Ok (u32_at value 0)

-- the chunk that a frame spells, by the type in its head
unfoldable pub chunk_of : Frame → Result Chunk Fault
chunk_of frame =
    if frame.head / 256 == 0 then
    (payload_data_of (frame.head % 256) frame.value >>= λ chunk. Ok (chunks.Data chunk)) else
    if frame.head / 256 == 1 then (init_of frame.value >>= λ chunk. Ok (chunks.Init chunk)) else
    if frame.head / 256 == 2 then (init_of frame.value >>= λ chunk. Ok (chunks.InitAck chunk)) else
    if frame.head / 256 == 3 then (selective_ack_of frame.value >>= λ chunk. Ok (chunks.SelectiveAck chunk)) else
    if frame.head / 256 == 4 then
    (params_at frame.value >>= λ params. Ok (chunks.Heartbeat (record { params = params }))) else
    if frame.head / 256 == 5 then
    (params_at frame.value >>= λ params. Ok (chunks.HeartbeatAck (record { params = params }))) else
    if frame.head / 256 == 6 then
    (causes_at frame.value >>= λ causes. Ok (chunks.Abort (record { error_causes = causes }))) else
    if frame.head / 256 == 7
    then (cumulative_tsn_ack_of frame.value >>= λ cumulative_tsn_ack. Ok (chunks.Shutdown cumulative_tsn_ack)) else
    if frame.head / 256 == 8 then Ok chunks.ShutdownAck else
    if frame.head / 256 == 9 then
    (causes_at frame.value >>= λ causes. Ok (chunks.Error (record { error_causes = causes }))) else
    if frame.head / 256 == 10 then Ok (chunks.CookieEcho frame.value) else
    if frame.head / 256 == 11 then Ok chunks.CookieAck else
    if frame.head / 256 == 14 then Ok chunks.ShutdownComplete else
    if frame.head / 256 == 130 then (reconfig_of frame.value >>= λ chunk. Ok (chunks.Reconfig chunk)) else
    if frame.head / 256 == 192 then (forward_tsn_of frame.value >>= λ chunk. Ok (chunks.ForwardTsn chunk)) else
    if frame.head / 256 == 194 then (i_forward_tsn_of frame.value >>= λ chunk. Ok (chunks.IForwardTsn chunk)) else
    Ok (chunks.Other (frame.head / 256) (frame.head % 256) frame.value)

abbrev pub chunks_at : List ℕ → Result (List Chunk) Fault
chunks_at bytes = items_at chunk_of 1 bytes

-- type and flags as one head, and the value
abbrev pub chunk_frame : Chunk → Frame
chunk_frame (chunks.Data c) = framed (payload_data_flags c) (payload_data_value c)
chunk_frame (chunks.Init c) = framed 256 (init_value c)
chunk_frame (chunks.InitAck c) = framed 512 (init_value c)
chunk_frame (chunks.SelectiveAck c) = framed 768 (selective_ack_value c)
chunk_frame (chunks.Heartbeat c) = framed 1024 (joined param_frame c.params)
chunk_frame (chunks.HeartbeatAck c) = framed 1280 (joined param_frame c.params)
chunk_frame (chunks.Abort c) = framed 1536 (joined cause_frame c.error_causes)
chunk_frame (chunks.Shutdown cumulative_tsn_ack) = framed 1792 (to_be_bytes w32 cumulative_tsn_ack)
chunk_frame chunks.ShutdownAck = framed 2048 []
chunk_frame (chunks.Error c) = framed 2304 (joined cause_frame c.error_causes)
chunk_frame (chunks.CookieEcho cookie) = framed 2560 cookie
chunk_frame chunks.CookieAck = framed 2816 []
chunk_frame chunks.ShutdownComplete = framed 3584 []
chunk_frame (chunks.Reconfig c) = framed 33280 (joined param_frame (reconfig_params c))
chunk_frame (chunks.ForwardTsn c) = framed 49152 (forward_tsn_value c)
chunk_frame (chunks.IForwardTsn c) = framed 49664 (i_forward_tsn_value c)
chunk_frame (chunks.Other kind flags value) = framed (kind * 256 + flags) value

-- whether all that stands inside a chunk fits
abbrev pub parts_fit : Chunk → Bool
parts_fit (chunks.Init c) = list_all param_fits c.params
parts_fit (chunks.InitAck c) = list_all param_fits c.params
parts_fit (chunks.Heartbeat c) = list_all param_fits c.params
parts_fit (chunks.HeartbeatAck c) = list_all param_fits c.params
parts_fit (chunks.Abort c) = list_all cause_fits c.error_causes
parts_fit (chunks.Error c) = list_all cause_fits c.error_causes
parts_fit (chunks.Reconfig c) = list_all param_fits (reconfig_params c)
parts_fit _ = true

abbrev pub chunk_fits : Chunk → Bool
chunk_fits chunk = parts_fit chunk && frame_fits (chunk_frame chunk)

abbrev pub chunk_bytes : Chunk → List ℕ
chunk_bytes chunk = padded (chunk_frame chunk)

abbrev pub IsChunk : Chunk → Type 0
IsChunk (chunks.Data c) = IsPayloadData c
IsChunk (chunks.Init c) = IsInit c
IsChunk (chunks.InitAck c) = IsInit c
IsChunk (chunks.SelectiveAck c) = IsSack c
IsChunk (chunks.Heartbeat c) = AllByRecursion IsParam c.params
IsChunk (chunks.HeartbeatAck c) = AllByRecursion IsParam c.params
IsChunk (chunks.Abort c) = AllByRecursion IsCause c.error_causes
IsChunk (chunks.Shutdown cumulative_tsn_ack) = IsU32 cumulative_tsn_ack
IsChunk (chunks.Error c) = AllByRecursion IsCause c.error_causes
IsChunk (chunks.Reconfig c) = AllByRecursion IsParam (reconfig_params c)
IsChunk (chunks.ForwardTsn c) = IsForwardTsn c
IsChunk (chunks.IForwardTsn c) = IsIForwardTsn c
IsChunk (chunks.Other kind flags value) = (kind < 256) × (flags < 256)
IsChunk _ = Unit {0}

abbrev pub names_chunk : ℕ → Bool
names_chunk kind =
    kind == 0 || kind == 1 || kind == 2 || kind == 3 || kind == 4 || kind == 5 || kind == 6 || kind == 7
    || kind == 8 || kind == 9
    || kind == 10 || kind == 11 || kind == 14 || kind == 130 || kind == 192 || kind == 194

abbrev pub chunk_is_plain : Chunk → Bool
chunk_is_plain (chunks.Init c) = list_all param_is_plain c.params
chunk_is_plain (chunks.InitAck c) = list_all param_is_plain c.params
chunk_is_plain (chunks.Heartbeat c) = list_all param_is_plain c.params
chunk_is_plain (chunks.HeartbeatAck c) = list_all param_is_plain c.params
chunk_is_plain (chunks.Reconfig c) = list_all param_is_plain (reconfig_params c)
chunk_is_plain (chunks.Other kind flags value) = not (names_chunk kind)
chunk_is_plain _ = true
