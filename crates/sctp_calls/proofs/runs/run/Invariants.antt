use Rattle.std.proofs.Common.{◌≡◌, length, take, vec_len, vec_capacity}
use Rattle.sctp_assoc.specs.Abstract.{RunsOn}
use Rattle.sctp_calls.proofs.runs.run.Given as goal

abbrev pub invariant-loop-call : goal.invariant-loop-call
invariant-loop-call l = record {
  room : vec_capacity l.replies ≡ length l.calls;
  count : vec_len l.replies ≡ l.call-index;
  run : RunsOn (take l.call-index l.calls) l.fn.association l.fn.packets.items l.replies.items l.association
      l.packets.items;
}
