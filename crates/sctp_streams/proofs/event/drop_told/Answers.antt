use Rattle.std.proofs.Common.{not, rules}
use Rattle.std.proofs.lemmas.Fn.{filter_same}
use Rattle.sctp_streams.specs.declared.event.Event.{Event}
use Rattle.sctp_streams.specs.Events.{is_told_of}
use Rattle.sctp_streams.proofs.event.drop_told.Goals as goal

pub returns : goal.returns
returns c =
    filter_same _ (λ (e : Event). not (is_told_of c.args.id e)) _ (λ x b f' k. search rules) _ _
    c.retain.ensures.filtered
