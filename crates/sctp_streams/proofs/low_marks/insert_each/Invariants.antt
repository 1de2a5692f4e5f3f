use Rattle.std.proofs.Common.{◌≡◌}
use Rattle.sctp_streams.specs.LowMarks.{ascending_with}
use Rattle.sctp_streams.proofs.low_marks.insert_each.Given as goal

abbrev pub invariant-loop-id : goal.invariant-loop-id
invariant-loop-id l = l.set.keys ≡ ascending_with l.fn.set.keys l.yielded
