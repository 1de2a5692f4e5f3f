use Rattle.std.proofs.Common.{◌≡◌, ◌∙◌, subst}
use Rattle.sctp_reset_requests.specs.Own.{OwnView, are_to_reset_twice, open_requests, open_with}
use Rattle.sctp_reset_requests.proofs.Counted.{counted_twice}
use Rattle.sctp_reset_requests.proofs.own.OwnRequests.is_open_twice.Goals as goal

pub returns : goal.returns
returns c =
    subst (λ (o : OwnView). c.contains_twice.result ≡ are_to_reset_twice (open_requests o) c.args.id) c.self.view_is
    (c.contains_twice.ensures
    ∙ counted_twice c.self.inside.named (open_with c.self.inside.active c.self.inside.queued.items) c.args.id
    c.self.invariant.counted)
