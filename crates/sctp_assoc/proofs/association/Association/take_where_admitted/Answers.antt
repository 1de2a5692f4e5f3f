use Rattle.std.proofs.Common.{◌≡◌, subst, true}
use Rattle.std.proofs.lemmas.Bool.{or_right}
use Rattle.sctp_generations.specs.Generations.{has_skips}
use Rattle.sctp_outbound.proofs.SenderSteps.{on_err}
use Rattle.sctp_resets.specs.Resets.{ResetsView}
use Rattle.sctp_assoc.specs.Memory.{is_taken_in}
use Rattle.sctp_assoc.proofs.TakingSettles.{took_resets}
use Rattle.sctp_assoc.proofs.association.Association.take_where_admitted.Goals as goal

pub returns-in_err-apply_skips_of-clause-grows : goal.returns-in_err-apply_skips_of-clause-grows
returns-in_err-apply_skips_of-clause-grows c =
    on_err c.from_residual-in_err-apply_skips_of.result
    (or_right (is_taken_in c.args.self.now c.args.piece) (has_skips c.args.self.now.resets.generations)
    (subst (λ (r : ResetsView). has_skips r.generations ≡ true)
    (took_resets c.args.self.now c.take_in.new.self c.args.piece c.in_ok-fault.fault c.in_ok-fault.ensures.exact)
    c.in_err-apply_skips_of.ensures.grows))
