use Rattle.std.proofs.Common.{◌≡◌, ◌++◌, map, take, drop}
use Rattle.sctp_candidates.specs.Candidates.{lowered}
use Rattle.sctp_candidates.proofs.lowered.lower_all.Given as goal

abbrev pub invariant-loop-index : goal.invariant-loop-index
invariant-loop-index l = record {
  list : l.row.list ≡ map (lowered l.by) (take l.index l.fn.row.list) ++ drop l.index l.fn.row.list;
  room : l.row.room ≡ l.fn.row.room;
}
