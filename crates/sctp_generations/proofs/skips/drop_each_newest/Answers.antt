use Rattle.std.proofs.Common.{not, rules}
use Rattle.std.proofs.lemmas.Fn.{filter_same}
use Rattle.sctp_generations.specs.declared.skips.KeptSkip.{KeptSkip}
use Rattle.sctp_generations.specs.Skips.{is_newest_of}
use Rattle.sctp_generations.proofs.skips.drop_each_newest.Goals as goal

pub returns : goal.returns
returns c =
    filter_same _ (λ (s : KeptSkip). not (is_newest_of c.args.ids.now.keys s)) _ (λ x b f' k. search rules) _ _
    c.retain.ensures.filtered
