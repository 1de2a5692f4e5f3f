use Rattle.std.proofs.Common.{◌≡◌, [], take}
use Rattle.sctp_streams.specs.Table.{entries_of}
use Rattle.sctp_streams.proofs.table.Page.first.Given as goal

abbrev pub invariant-loop-place : goal.invariant-loop-place
invariant-loop-place l = entries_of l.base (take l.place l.self) ≡ []
