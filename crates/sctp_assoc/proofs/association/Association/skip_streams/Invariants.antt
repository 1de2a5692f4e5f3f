use Rattle.std.proofs.Common.{◌≡◌, true, drop}
use Rattle.sctp_assoc.specs.Skipping.{some_takes_memory, with_skips}
use Rattle.sctp_assoc.proofs.association.Association.skip_streams.Given as goal

abbrev pub invariant-loop-skip : goal.invariant-loop-skip
invariant-loop-skip l = record {
  same : with_skips l.tsn (drop l.skip-index l.skipped) l.self ≡ with_skips l.fn.tsn l.fn.skipped l.fn.self;
  grows : some_takes_memory l.tsn (drop l.skip-index l.skipped) l.self ≡ true
      → some_takes_memory l.fn.tsn l.fn.skipped l.fn.self ≡ true;
}
