use Rattle.sctp_outbound.proofs.SenderSteps.{on_err}
use Rattle.sctp_assoc.proofs.EndsOfPolls.{ending_again_as, gives_before, polled_as}
use Rattle.sctp_assoc.proofs.GivenApart.{again_behind, ends_behind, gives_behind}
use Rattle.sctp_assoc.proofs.RequestsReadAgain.{requests_behind}
use Rattle.sctp_assoc.proofs.association.Association.gather.Goals as goal

pub returns-in_err-gather_exchange-clause-grows : goal.returns-in_err-gather_exchange-clause-grows
returns-in_err-gather_exchange-clause-grows c =
    on_err c.from_residual-in_err-gather_exchange.result
    (gives_behind c.args.self.now c.gather_control.new.self c.args.now c.gather_control.new.packets.items
    c.in_ok-gather_control.ensures.exact c.in_err-gather_exchange.ensures.grows)

pub returns-clause-again : goal.returns-clause-again
returns-clause-again c =
    again_behind c.args.self.now c.gather_control.new.self c.args.now c.gather_control.new.packets.items
    c.in_ok-gather_control.ensures.exact c.in_ok-gather_exchange.ensures.again

pub returns-clause-requests : goal.returns-clause-requests
returns-clause-requests c =
    requests_behind c.args.self.now c.gather_control.new.self c.args.now c.gather_control.new.packets.items
    c.in_ok-gather_control.ensures.exact c.in_ok-gather_exchange.ensures.requests

pub returns-clause-exact : goal.returns-clause-exact
returns-clause-exact c =
    polled_as c.args.self.now c.args.now c.in_ok-gather_control.ensures.exact c.in_ok-gather_exchange.ensures.exact
    c.run_reconfig.ensures c.in_ok-gather_shutdown.ensures.exact

pub returns-clause-ending_again : goal.returns-clause-ending_again
returns-clause-ending_again c =
    ending_again_as c.args.self.now c.args.now c.in_ok-gather_control.ensures.exact
    c.in_ok-gather_exchange.ensures.exact c.run_reconfig.ensures c.in_ok-gather_shutdown.ensures.again

pub returns-in_err-gather_shutdown-clause-grows : goal.returns-in_err-gather_shutdown-clause-grows
returns-in_err-gather_shutdown-clause-grows c =
    on_err c.from_residual-in_err-gather_shutdown.result
    (ends_behind c.args.self.now c.gather_control.new.self c.args.now c.gather_control.new.packets.items
    c.in_ok-gather_control.ensures.exact
    (gives_before c.args.self.now c.args.now c.in_ok-gather_control.ensures.exact
    c.in_ok-gather_exchange.ensures.exact c.run_reconfig.ensures c.in_err-gather_shutdown.ensures.grows))
