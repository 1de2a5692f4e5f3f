use Rattle.std.proofs.Common.{◌≡◌, ◌<◌, true}
use Rattle.sctp_generations.specs.Generations.{retires}
use Rattle.sctp_resets.specs.Channels.{channels}
use Rattle.sctp_resets.specs.Draining.{drained_out, passed_times}
use Rattle.sctp_resets.proofs.draining.drain.Given as goal

abbrev pub decreases-loop-left : goal.decreases-loop-left
decreases-loop-left l = l.left

abbrev pub invariant-loop-left : goal.invariant-loop-left
invariant-loop-left l = record {
  same : passed_times l.left l.first_message_id l.limit l.id l.in_progress
      (l.generations, channels l.streams l.events l.to_accept.items)
      ≡ drained_out l.fn.first_message_id l.fn.limit l.fn.id l.fn.in_progress
      (l.fn.generations, channels l.fn.streams l.fn.events l.fn.to_accept.items);
  grows : 0 < l.left → retires l.fn.generations l.fn.id ≡ true;
}
