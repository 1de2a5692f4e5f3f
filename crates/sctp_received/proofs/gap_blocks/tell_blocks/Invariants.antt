use Rattle.std.proofs.Common.{◌≡◌, take}
use Rattle.sctp_looks.specs.Looks.{ticked_by}
use Rattle.sctp_received.specs.Blocks.{all_near, all_wrapped}
use Rattle.sctp_received.proofs.gap_blocks.tell_blocks.Given as goal

abbrev pub invariant-loop-index : goal.invariant-loop-index
invariant-loop-index l = record {
  blocks : l.blocks.items ≡ all_near l.point (take l.index l.row.list);
  behind : l.behind.items ≡ all_wrapped l.point (take l.index l.row.list);
  looks : l.looks ≡ ticked_by l.fn.looks l.index;
}
