-- A handle crosses threads as a box with its channels does.
use mir.Raw.{raw}
use base.Fraction.{full_share}
use base.Shift.{Keyless}
use denote.Exit.{Exit, unchanged, leaves, hidden, under}
use denote.Memory.{lone}
use denote.RattleType.{RattleType}
use denote.RawPtr.{Ptr, block_ptr, null_ptr, lies_at}
use denote.Struct.Struct.{exits_of}
use denote.Struct.Owning.{shape, fields, to}
use denote.Param.Send.{IsSend, Quiet, AllSend, part_keyless, owning_send, struct_send, sendable}
use Rattle.std.specs.Prelude.{Option, Some, None}
use Rattle.std.specs.Global.{Global}
use Rattle.std.proofs.Crossing as heap
use Rattle.std.proofs.alloc.Global.TheSendSync as allocator
use Rattle.sctp_channels.specs.contracts.channels.Channels as Channels
use Rattle.sctp_channels.proofs.channels.Channels.TheSendSync.{the_send as channels}
use Rattle.sctp_channels_c.specs.Handles.{handle_owns}
use Rattle.sctp_channels_c.specs.contracts.handle.Handle.{the_row, the_type}

quiet : {D X : Type 0} (onto : D → X) (e : Exit X) → Quiet e → Quiet (hidden (under onto e))
quiet onto unchanged q = λ x w. tt
quiet onto (leaves L l S s r₀) q = λ d. q (onto d)

lies : (R : RattleType) → IsSend R → (p : Ptr) (x : R.Denot) → Keyless (lies_at R full_share p x)
lies R s (block_ptr b o) x = part_keyless R s full_share x b o
lies R s null_ptr x = tt

owned : (a : Global) (at : Ptr) (o : Option (Channels.the_row.Denot)) → Keyless (handle_owns a at o)
owned a at None = tt
owned a at (Some d) = (lies Channels.the_row channels at d, heap.frees.frees a (raw (lone Channels.the_row.mir)) at)

pub send : IsSend the_row
send =
    let all : AllSend (fields the_type) = (search sendable, (allocator.the_field_send, tt)) in
    owning_send the_type all (λ h. owned h.alloc h.at h.channels)
    (λ k. quiet (to the_type) (exits_of k (fields the_type)) ((struct_send (shape the_type) all).leaving k))
