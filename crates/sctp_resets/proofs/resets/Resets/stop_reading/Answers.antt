use Rattle.std.proofs.Common.{◌≡◌, subst, OnOk}
use Rattle.sctp_resets.specs.Resets.{Beside, ResetsView, stopped_reading}
use Rattle.sctp_resets.proofs.Stopped.{stopped_so}
use Rattle.sctp_resets.proofs.resets.Resets.stop_reading.Goals as goal

pub returns : goal.returns
returns c =
    let left : Beside = (c.drop_stream.new.self, c.drop_stream.new.streams, c.drop_stream.new.events) in
    let r : ResetsView = record {
      own = c.self.inside.own;
      peer = c.self.inside.peer;
      debts = c.self.inside.debts;
      generations = c.self.inside.generations;
    } in
    subst
    (λ (s : ResetsView).
    OnOk c.drop_stream.result (left ≡ stopped_reading c.args.id s c.args.streams.now c.args.events.now))
    c.self.view_is
    (subst (λ (b : Beside). OnOk c.drop_stream.result (left ≡ b))
    (stopped_so c.has_newest-more.result c.args.id r c.discard.new.self c.args.streams.now c.drop_unread.new.self
    c.args.events.now c.untell.new.self c.has_newest-more.ensures c.discard.ensures c.drop_unread.ensures
    c.untell.ensures)
    c.drop_stream.ensures)
