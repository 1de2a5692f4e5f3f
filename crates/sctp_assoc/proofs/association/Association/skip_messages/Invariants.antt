use Rattle.std.proofs.Common.{◌≡◌, true, drop}
use Rattle.sctp_assoc.specs.Skipping.{skips_of, some_takes_memory, with_skips}
use Rattle.sctp_assoc.proofs.association.Association.skip_messages.Given as goal

abbrev pub invariant-loop-entry : goal.invariant-loop-entry
invariant-loop-entry l = record {
  same : with_skips l.tsn (skips_of (drop l.entry-index l.entries)) l.self
      ≡ with_skips l.fn.tsn (skips_of l.fn.entries) l.fn.self;
  grows : some_takes_memory l.tsn (skips_of (drop l.entry-index l.entries)) l.self ≡ true
      → some_takes_memory l.fn.tsn (skips_of l.fn.entries) l.fn.self ≡ true;
}
