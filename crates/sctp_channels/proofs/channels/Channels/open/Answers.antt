use Rattle.sctp_channels.proofs.Placed.{placed_as}
use Rattle.sctp_channels.proofs.channels.Channels.open.Goals as goal

pub returns-clause-opened : goal.returns-clause-opened
returns-clause-opened c =
    placed_as c.place.new.self c.args.self.now c.in_ok-id.id _ _ _ _ _ _ _ c.in_ok-place.ensures.ok
    c.is_established.ensures c.opened-channel.ensures c.in_ok-open_message.ensures.ok c.is_some.ensures
