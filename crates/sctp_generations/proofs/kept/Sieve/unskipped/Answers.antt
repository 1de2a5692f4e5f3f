use Rattle.std.proofs.Common.{rules}
use Rattle.sctp_generations.specs.Kept.{is_skipped}
use Rattle.sctp_generations.specs.Whole.{is_whole}
use Rattle.sctp_generations.proofs.Sieves.{filter_all}
use Rattle.sctp_generations.proofs.kept.Sieve.unskipped.Goals as goal

pub returns-then-not-any_skipped : goal.returns-then-not-any_skipped
returns-then-not-any_skipped c =
    let a = c.args in
    let ds = a.chunks.now.items in
    filter_all (is_skipped a.id a.span a.ssn a.tsn) (is_whole a.span ds) ds (search rules)
