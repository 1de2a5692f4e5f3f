use Rattle.std.proofs.Common.{◌≡◌, ◌∙◌, subst}
use Rattle.std.specs.List.{list_any}
use Rattle.sctp_reset_requests.specs.Own.{OwnView, open_requests, open_with, resets}
use Rattle.sctp_reset_requests.proofs.Counted.{named_exactly}
use Rattle.sctp_reset_requests.proofs.own.OwnRequests.is_open.Goals as goal

pub returns : goal.returns
returns c =
    subst (λ (o : OwnView). c.contains.result ≡ list_any (resets c.args.id) (open_requests o)) c.self.view_is
    (c.contains.ensures
    ∙ named_exactly c.self.inside.named (open_with c.self.inside.active c.self.inside.queued.items) c.args.id
    c.self.invariant.counted)
