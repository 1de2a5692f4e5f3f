use Rattle.std.proofs.Common.{◌∙◌, ap, drop, min, take}
use Rattle.sctp_outbound_queue.specs.Owed.{as_they_are, standing}
use Rattle.sctp_outbound_queue.proofs.TrueSsns.{alike, drop_alike, expired_alike, from_alike, take_alike}
use Rattle.sctp_outbound_queue.proofs.messages.Messages.pass.Goals as goal

pub returns-clause-passed : goal.returns-clause-passed
returns-clause-passed c =
    let all = standing c.self.inside.settled c.self.inside.dead c.self.inside.items.items in
    let true_ones = as_they_are c.self.inside.settled c.self.inside.owed.counts.entries all in
    let same = alike c.self.inside.settled c.self.inside.owed.counts.entries all in
    rw (← c.self.view_is)
    (c.pass_beside.ensures.passed
    ∙ ap (min c.args.count) (expired_alike c.args.now (drop c.args.from all) (drop c.args.from true_ones)
    (drop_alike c.args.from all true_ones same)))

pub returns-clause-least : goal.returns-clause-least
returns-clause-least c =
    let all = standing c.self.inside.settled c.self.inside.dead c.self.inside.items.items in
    let true_ones = as_they_are c.self.inside.settled c.self.inside.owed.counts.entries all in
    let same = alike c.self.inside.settled c.self.inside.owed.counts.entries all in
    rw (← c.self.view_is)
    (from_alike c.pass_beside.result.1 (take c.pass_beside.result.0 (drop c.args.from all))
    (take c.pass_beside.result.0 (drop c.args.from true_ones))
    (take_alike c.pass_beside.result.0 (drop c.args.from all) (drop c.args.from true_ones)
    (drop_alike c.args.from all true_ones same))
    c.pass_beside.ensures.least)
