use Rattle.std.proofs.Common.{◌≤◌, take}
use Rattle.std.specs.List.{position_or_len}
use Rattle.sctp_outbound_queue.specs.Clocks.{AllFrom}
use Rattle.sctp_outbound_queue.specs.Message.{is_expired_unsent}
use Rattle.sctp_outbound_queue.proofs.over_waiting.pass_each.Given as goal

abbrev pub invariant-loop-index : goal.invariant-loop-index
invariant-loop-index l = record {
  none : l.index ≤ position_or_len (is_expired_unsent l.now) l.messages;
  known : AllFrom l.least (take l.index l.messages);
}
