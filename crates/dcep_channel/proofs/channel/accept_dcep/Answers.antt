use Rattle.std.proofs.Common.{refl, inr}
use Rattle.dcep_channel.proofs.Reading.{accepts_dcep}
use Rattle.dcep_channel.proofs.channel.accept_dcep.Goals as goal

pub returns-in-Ok : goal.returns-in-Ok
returns-in-Ok c =
    accepts_dcep c.args.message.now c.in-Ok.bytes.items c.accept_bytes.result c.requires c.in-Ok.ensures
    c.accept_bytes.ensures

pub returns-in-Err : goal.returns-in-Err
returns-in-Err c = inr (c.requires, refl)
