use Rattle.std.proofs.Common.{◌≤◌, take, drop}
use Rattle.std.specs.List.{position_or_len}
use Rattle.sctp_outbound_queue.specs.Clocks.{AllFrom}
use Rattle.sctp_outbound_queue.specs.Message.{is_expired_unsent}
use Rattle.sctp_outbound_queue.proofs.over_waiting.pass_across.Given as goal

abbrev pub invariant-loop-passed : goal.invariant-loop-passed
invariant-loop-passed l = record {
  none : l.passed ≤ position_or_len (is_expired_unsent l.now) (drop l.from l.messages.items);
  known : AllFrom l.least (take l.passed (drop l.from l.messages.items));
}
