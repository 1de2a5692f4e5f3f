-- Why an association ended, by the chunks of the packet that ended it (RFC 4960 sections 3.3.7 and 3.3.13).
use Rattle.std.specs.Prelude.{◌≡◌, ◌≤◌, ◌-◌, ◌++◌, ℕ, false, List, [], ◌∷◌, drop, length, min, replicate, take}
use Rattle.std.specs.Prelude.{Option, Some, None, Ok, is_ok}
use Rattle.sctp_wire_types.specs.declared.chunk.Chunk.{Chunk}
use Rattle.sctp_wire_types.specs.declared.chunk.Chunk.TheVariants as chunks
use Rattle.sctp_wire_types.specs.declared.chunk.ErrorCause.{ErrorCause}
use Rattle.sctp_wire.specs.declared.packet.Packet.{Packet}
use Rattle.sctp_wire.specs.Frames.{frame_at, framed, padded_len}
use Rattle.sctp_watch.specs.declared.ends.Cause.{Cause}
use Rattle.sctp_watch.specs.declared.ends.End.{End}
use Rattle.sctp_watch.specs.declared.ends.End.TheVariants as ends

-- so many of the first bytes, and zeros up to 128
abbrev pub filled : ℕ → List ℕ → List ℕ
filled count bytes = take count bytes ++ drop count (replicate 128 0)

-- a cause of this code, with the first 128 bytes of its value as the reason
abbrev pub cause_with : ℕ → List ℕ → Cause
cause_with code value =
    (let count = min (length value) 128 in
    record { code = code; reason = filled count value; length = count })

-- what is told of an ABORT with these causes: the first one, or the code 0 and no reason
abbrev pub first_cause : List ErrorCause → Cause
first_cause [] = cause_with 0 []
first_cause (cause ∷ causes) = cause_with cause.code cause.value

-- The end that these chunks bring: the first ABORT is told with its cause, and without one SHUTDOWN COMPLETE is the end
-- of a shutdown. It is `otherwise` with neither of them.
abbrev pub end_among : End → List Chunk → End
end_among otherwise [] = otherwise
end_among otherwise (chunks.Abort abort ∷ cs) = ends.AbortCame (first_cause abort.error_causes)
end_among otherwise (chunks.ShutdownComplete ∷ cs) = end_among ends.ShutDown cs
end_among otherwise (c ∷ cs) = end_among otherwise cs

-- the end that a packet brings to the association that it closes: with neither of those chunks it is a fault
abbrev pub ended_by : Option Packet → End
ended_by (Some packet) = end_among ends.Fault packet.chunks
ended_by None = ends.Fault

-- the bytes that the cause keeps as the reason
abbrev pub reason_of : Cause → List ℕ
reason_of cause = take (min cause.length 128) cause.reason

-- how many bytes these are, and the same with zeros behind them up to 128
abbrev pub reason_length : Cause → ℕ
reason_length cause = cause.length

abbrev pub padded_reason : Cause → List ℕ
padded_reason cause = cause.reason

-- the first frame of these bytes, a chunk or a cause, has this head, and is so long with it and without its padding; or
-- they begin with no frame
abbrev pub IsFirstFrame : List ℕ → Option (ℕ × ℕ) → Type 0
IsFirstFrame bytes None = is_ok (frame_at bytes) ≡ false
IsFirstFrame bytes (Some (head, len)) =
    (4 ≤ len) × (len ≤ length bytes)
    × (frame_at bytes ≡ Ok (framed head (take (len - 4) (drop 4 bytes)), drop (padded_len len) bytes))
