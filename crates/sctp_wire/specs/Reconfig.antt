-- RE-CONFIG: what bytes are read as, and which parameters it is spelled as.
use Rattle.std.specs.Prelude.{ℕ, if◌then◌else◌, nat_lt, List, [], ◌∷◌, length, Result, Ok, Option, Some, None}
use Rattle.sctp_wire_types.specs.declared.error.Fault.{Fault}
use Rattle.sctp_wire_types.specs.declared.chunk.ChunkReconfig.{ChunkReconfig}
use Rattle.sctp_wire_types.specs.declared.param.Param.{Param}
use Rattle.sctp_wire.specs.Results.{◌>>=◌}
use Rattle.sctp_wire.specs.Frames.{frame_at}
use Rattle.sctp_wire.specs.Params.{param_of}

-- RE-CONFIG (RFC 6525 section 3.1): a first parameter, and a second where there is one; more is not read
unfoldable pub reconfig_of : List ℕ → Result ChunkReconfig Fault
reconfig_of value =
    (frame_at value >>= λ first. param_of first.0 >>= λ one.
    if nat_lt (length first.1) 4 then Ok (record { first = one; second = None }) else
    (frame_at first.1 >>= λ second. param_of second.0 >>= λ two. Ok (record { first = one; second = Some two })))

abbrev pub reconfig_list : Param → Option Param → List Param
reconfig_list one None = one ∷ []
reconfig_list one (Some two) = one ∷ two ∷ []

abbrev pub reconfig_params : ChunkReconfig → List Param
reconfig_params c = reconfig_list c.first c.second
