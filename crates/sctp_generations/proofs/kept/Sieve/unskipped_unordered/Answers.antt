use Rattle.std.proofs.Common.{rules}
use Rattle.sctp_generations.specs.Kept.{is_skipped_unordered}
use Rattle.sctp_generations.specs.Whole.{is_whole_unordered}
use Rattle.sctp_generations.proofs.Sieves.{filter_all}
use Rattle.sctp_generations.proofs.kept.Sieve.unskipped_unordered.Goals as goal

pub returns-then-not-any_skipped_unordered : goal.returns-then-not-any_skipped_unordered
returns-then-not-any_skipped_unordered c =
    let ds = c.args.chunks.now.items in
    filter_all (is_skipped_unordered c.args.tsn) (is_whole_unordered ds) ds (search rules)
