use Rattle.std.proofs.Common.{◌≡◌, ◌++◌, map, take, drop}
use Rattle.sctp_generations.specs.Skips.{with_boundary}
use Rattle.sctp_generations.proofs.skips.end_each.Given as goal

abbrev pub invariant-loop-kept : goal.invariant-loop-kept
invariant-loop-kept l =
    l.skips ≡ map (with_boundary l.fn.id l.fn.boundary) (take l.kept-index l.fn.skips) ++ drop l.kept-index l.fn.skips
