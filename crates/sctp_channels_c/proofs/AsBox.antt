-- A handle with channels, and the parts of a box, own what a box with channels owns.
use mir.Syntax.{impl, tnil, dnil}
use mathlib.Core.List.{[]}
use denote.Signature.{Slot, plain}
use Rattle.std.proofs.BoxSteps.Form.{Bx}
use Rattle.std.specs.contracts.alloc.Global as Heap
use Rattle.std.specs.contracts.impls.GlobalAllocator.TheImpl.{ghosts, dict}
use Rattle.std.proofs.alloc.Global.TheLaws as heap
use Rattle.sctp_channels.specs.contracts.channels.Channels as Engine
use Rattle.sctp_channels.proofs.channels.Channels.TheLaws as engine
use Rattle.box_parts.specs.contracts.Parts as Parts
use Rattle.sctp_channels_c.specs.contracts.handle.Handle as Handle

abbrev pub E : Bx
E = record {
  row = Engine.the_row;
  laws = engine.the_row_laws;
  al =
      record { row = Heap.the_row; laws = heap.the_row_laws; g = ghosts; d = dict; drops = impl [] tnil dnil };
}

abbrev pub FromParts : Slot 0
FromParts = plain (λ _. Parts.the_row Engine.the_row Heap.the_row ghosts)

abbrev pub FromHandle : Slot 0
FromHandle = plain (λ _. Handle.the_row)
