use Rattle.dcep_channel.proofs.ChannelCalls.{begun, begun_not}
use Rattle.dcep_channel.proofs.channel.begin.Goals as goal

pub returns-in-Ok : goal.returns-in-Ok
returns-in-Ok g c =
    let w = c.in-Ok.ensures in
    (w.0, w.1, (c.of_opener.ensures, begun c.args.open_message c.as_slice.result.now w.0 c.as_slice.ensures w.2))

pub returns-in-Err : goal.returns-in-Err
returns-in-Err g c =
    let w = c.in-Err.ensures in
    (w.0, w.1, begun_not c.args.open_message c.as_slice.result.now w.0 c.in-Err.error c.as_slice.ensures w.2)
