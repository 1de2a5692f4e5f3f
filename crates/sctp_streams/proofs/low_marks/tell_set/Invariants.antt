use Rattle.std.proofs.Common.{◌≡◌, ◌++◌, map}
use Rattle.sctp_streams.specs.LowMarks.{low_event}
use Rattle.sctp_streams.proofs.low_marks.tell_set.Given as goal

abbrev pub invariant-loop-id : goal.invariant-loop-id
invariant-loop-id l = l.events ≡ l.fn.events ++ map low_event l.yielded
