use Rattle.std.proofs.Common.{sym, ◌∙◌, ap}
use Rattle.dcep_channel.specs.Channels.{is_dcep}
use Rattle.dcep_channel.proofs.Reading.{accepts_no_other}
use Rattle.dcep_channel.proofs.channel.accept_message.Goals as goal

pub returns : goal.returns
returns c =
    accepts_no_other c.args.message.now
    (sym (c.is_dcep.ensures ∙ ap is_dcep c.payload_type.ensures) ∙ c.if-is_dcep.false)
