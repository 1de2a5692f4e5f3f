use Rattle.std.proofs.Common.{not, ◌==◌, rules}
use Rattle.std.proofs.lemmas.Fn.{filter_same}
use Rattle.sctp_generations.specs.declared.skips.KeptSkip.{KeptSkip}
use Rattle.sctp_generations.proofs.skips.discard_each.Goals as goal

pub returns : goal.returns
returns c =
    filter_same _ (λ (s : KeptSkip). not (s.id == c.args.id)) _ (λ x b f' k. search rules) _ _
    c.retain.ensures.filtered
