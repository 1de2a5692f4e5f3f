use Rattle.std.proofs.Common.{◌≡◌}
use Rattle.std.specs.VecDeque.Iter.{deque_iter_rest}
use Rattle.sctp_receive_queues.specs.Reassembly.{bounded}
use Rattle.sctp_receive_queues.proofs.groups.bound_in.Given as goal

abbrev pub invariant-loop-group : goal.invariant-loop-group
invariant-loop-group l = bounded (deque_iter_rest l.group-iterator) l.ssn l.tsn ≡ bounded l.groups.items l.ssn l.tsn
