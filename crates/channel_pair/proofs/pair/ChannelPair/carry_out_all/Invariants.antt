use Rattle.std.proofs.Common.{◌≡◌, length, take, vec_len, vec_capacity}
use Rattle.channel_pair.specs.Steps.{RunsAll}
use Rattle.channel_pair.proofs.pair.ChannelPair.carry_out_all.Given as goal

abbrev pub invariant-loop-step : goal.invariant-loop-step
invariant-loop-step l = record {
  room : vec_capacity l.replies ≡ length l.steps;
  count : vec_len l.replies ≡ l.step-index;
  run : RunsAll (take l.step-index l.steps) l.replies.items l.fn.self l.self;
}
