use Rattle.std.proofs.Common.{◌∙◌, ◌++◌, ◌∷◌, [], ap}
use Rattle.sctp_outbound_queue.proofs.EmptyPlaces.{all_there}
use Rattle.sctp_outbound_queue.proofs.TrueSsns.{on_err}
use Rattle.sctp_outbound_queue.proofs.messages.Messages.push_back.Goals as goal

pub returns-in_err-push_back-clause-err : goal.returns-in_err-push_back-clause-err
returns-in_err-push_back-clause-err c =
    on_err c.from_residual.result
    (all_there c.self.inside.settled c.settle.new.dead c.settle.new.owed.counts.entries c.push_back.new.self.items
    c.settle.ensures.none c.settle.ensures.closed
    ∙ c.in_err-push_back.ensures.items ∙ c.settle.ensures.items ∙ c.self.view_is)

pub returns-clause-ok : goal.returns-clause-ok
returns-clause-ok c =
    all_there c.self.inside.settled c.settle.new.dead c.settle.new.owed.counts.entries c.push_back.new.self.items
    c.settle.ensures.none c.settle.ensures.closed
    ∙ c.in_ok-push_back.ensures.items ∙ ap (λ z. z ++ c.args.message ∷ []) (c.settle.ensures.items ∙ c.self.view_is)
