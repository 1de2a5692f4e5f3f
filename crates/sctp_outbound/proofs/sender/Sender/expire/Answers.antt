use Rattle.sctp_outbound.proofs.Falling.{expired_all, expired_none}
use Rattle.sctp_outbound.proofs.sender.Sender.expire.Goals as goal

pub returns-then-not-forward-clause-falls : goal.returns-then-not-forward-clause-falls
returns-then-not-forward-clause-falls c =
    expired_none c.args.forward c.args.now (c.args.self.now, c.args.streams.now) c.args.fallen.now
    c.if-not-forward.true

pub returns-clause-falls : goal.returns-clause-falls
returns-clause-falls c =
    expired_all c.args.now c.args.self.now c.args.streams.now c.if-not-forward.false c.start_timed.ensures
    c.in_ok-any_sent.ensures.exact c.in_ok-any_sent.ensures.falls c.in_ok-tail.ensures.falls
