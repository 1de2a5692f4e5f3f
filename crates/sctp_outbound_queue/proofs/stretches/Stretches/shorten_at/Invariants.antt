use Rattle.std.proofs.Common.{◌≡◌, ◌++◌, take, drop}
use Rattle.sctp_outbound_queue.specs.Stretches.{shortened_at}
use Rattle.sctp_outbound_queue.proofs.stretches.Stretches.shorten_at.Given as goal

abbrev pub invariant-loop-place : goal.invariant-loop-place
invariant-loop-place l = record {
  kept : l.self ≡ l.fn.self;
  same : take l.place l.fn.self ++ shortened_at l.left (drop l.place l.fn.self) ≡ shortened_at l.index l.fn.self;
}
