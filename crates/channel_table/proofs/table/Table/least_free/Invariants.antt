use Rattle.std.proofs.Common.{◌+◌, ◌*◌}
use Rattle.channel_table.specs.Tables.{AreTakenBelow}
use Rattle.channel_table.proofs.table.Table.least_free.Given as goal

abbrev pub invariant-loop-index : goal.invariant-loop-index
invariant-loop-index l = AreTakenBelow l.self l.parity (2 * l.index + l.parity)
