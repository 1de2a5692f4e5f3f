use Rattle.std.proofs.Common.{◌≡◌, true, drop}
use Rattle.sctp_assoc.specs.Finding.{finding_takes_memory, found_for}
use Rattle.sctp_assoc.specs.Skipping.{skips_of}
use Rattle.sctp_assoc.proofs.association.Association.find_streams_of.Given as goal

abbrev pub invariant-loop-entry : goal.invariant-loop-entry
invariant-loop-entry l = record {
  same : found_for l.tsn (skips_of (drop l.entry-index l.entries)) l.self
      ≡ found_for l.fn.tsn (skips_of l.fn.entries) l.fn.self;
  grows : finding_takes_memory l.tsn (skips_of (drop l.entry-index l.entries)) l.self ≡ true
      → finding_takes_memory l.fn.tsn (skips_of l.fn.entries) l.fn.self ≡ true;
}
