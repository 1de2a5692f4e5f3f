use Rattle.std.proofs.Common.{◌∙◌, sym}
use Rattle.sctp_channels.proofs.Turned.{fails_behind_open}
use Rattle.sctp_channels.proofs.looking.begin_on.Goals as goal

pub returns-clause-err : goal.returns-clause-err
returns-clause-err c =
    fails_behind_open c.set_in_order.result c.args.channel.now.negotiated c.args.id c.args.channel.now
    c.as_slice.result.now c.args.driver.now c.write_dcep.new.driver c.set_in_order.new.driver
    (sym c.is_negotiated.ensures ∙ c.if-is_negotiated.false) (c.as_slice.ensures ∙ c.open_message.ensures)
    c.in_ok-write_dcep.ensures.ok c.set_in_order.ensures.refused c.set_in_order.ensures.err
