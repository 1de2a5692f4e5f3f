use Rattle.std.proofs.Common.{◌≡◌, ◌++◌, take}
use Rattle.sctp_received.proofs.gap_blocks.join.Given as goal

abbrev pub invariant-loop-block : goal.invariant-loop-block
invariant-loop-block l = l.all.items ≡ l.initial.all.items ++ take l.block-index l.rest
