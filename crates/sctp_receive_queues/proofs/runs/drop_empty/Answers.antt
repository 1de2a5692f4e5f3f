use Rattle.std.proofs.Common.{rules, not, length, eqb}
use Rattle.std.proofs.lemmas.Fn.{filter_same}
use Rattle.sctp_receive_queues.proofs.runs.drop_empty.Goals as goal

pub returns : goal.returns
returns c = filter_same _ (λ r. not (eqb (length r) 0)) _ (λ x b f' k. search rules) _ _ c.retain.ensures.filtered
