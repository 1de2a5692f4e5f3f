use Rattle.std.proofs.Common.{◌++◌, ◌∙◌, sym, ap, inl, inr}
use Rattle.std.specs.List.{concat}
use Rattle.sctp_receive_queues.specs.Messages.{ReceivedMessage, bytes_left, filled}
use Rattle.sctp_receive_queues.proofs.Cuts.{cut_and_rest, no_cut, none_filled}
use Rattle.sctp_receive_queues.proofs.chunks.Chunks.next.Goals as goal
use Rattle.sctp_receive_queues.proofs.chunks.Chunks.next.Goals.{then-max-eq0-via-then-max-eq0}
use Rattle.sctp_receive_queues.proofs.chunks.Chunks.next.Goals.{then-max-eq0-via-else-max-eq0+then-self-eq0}

pub returns-then-max-eq0-clause-cut : goal.returns-then-max-eq0-clause-cut
returns-then-max-eq0-clause-cut c =
    elim c.then-max-eq0.branch [
      | then-max-eq0-via-then-max-eq0 w ↦ no_cut c.args.max c.args.self.now (inl w.if-max-eq0.true)
      | then-max-eq0-via-else-max-eq0+then-self-eq0 w ↦
          no_cut c.args.max c.args.self.now (inr (
          sym (ap (λ (m : ReceivedMessage). m.pieces) c.self.view_is)
          ∙ none_filled c.self.inside.pieces (sym c.self.invariant ∙ w.if-self-eq0.true)
          ))
    ]

pub returns-clause-in_order : goal.returns-clause-in_order
returns-clause-in_order c =
    let said = c.in_ok-cut.ensures in
    ap (λ (m : ReceivedMessage). bytes_left m) (sym c.self.view_is)
    ∙ cut_and_rest _ (filled c.self.inside.pieces) c.in_ok-cut.cut said.cut
    ∙ ap (λ z. c.in_ok-cut.cut ++ concat z) (sym said.left)
