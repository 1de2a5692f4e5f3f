-- What a handle owns: nothing, or what a box with channels owns.
use base.Fml.{Fml, ftrue}
use base.Stored.{Coded}
use denote.RawPtr.{Ptr}
use Rattle.std.specs.Prelude.{Option, Some, None}
use Rattle.std.specs.Coded.{coded_option}
use Rattle.std.specs.Box.Ownership.{box_owns}
use Rattle.std.specs.Global.{Global}
use Rattle.std.specs.contracts.impls.GlobalAllocator.TheImpl.{ghosts}
use Rattle.sctp_channels.specs.contracts.channels.Channels.{the_row}

abbrev pub handle_owns : Global → Ptr → Option the_row.Denot → Fml
handle_owns alloc at None = ftrue
handle_owns alloc at (Some d) = box_owns (ghosts.dealloc_token alloc) the_row at d

abbrev pub channels_coded : Coded (Option the_row.Denot)
channels_coded = coded_option the_row.coded
