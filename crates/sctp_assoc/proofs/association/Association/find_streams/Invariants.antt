use Rattle.std.proofs.Common.{◌≡◌, true, drop}
use Rattle.sctp_assoc.specs.Finding.{finding_takes_memory, found_for}
use Rattle.sctp_assoc.proofs.association.Association.find_streams.Given as goal

abbrev pub invariant-loop-skip : goal.invariant-loop-skip
invariant-loop-skip l = record {
  same : found_for l.tsn (drop l.skip-index l.skipped) l.self ≡ found_for l.fn.tsn l.fn.skipped l.fn.self;
  grows : finding_takes_memory l.tsn (drop l.skip-index l.skipped) l.self ≡ true
      → finding_takes_memory l.fn.tsn l.fn.skipped l.fn.self ≡ true;
}
