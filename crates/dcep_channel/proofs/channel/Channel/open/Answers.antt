use Rattle.std.proofs.Common.{refl, []}
use Rattle.dcep_channel.specs.Codec.{is_too_long, open_bytes}
use Rattle.dcep_channel.proofs.ChannelCalls.{begins, begins_refused}
use Rattle.dcep_channel.proofs.channel.Channel.open.Goals as goal

pub returns-in-Ok : goal.returns-in-Ok
returns-in-Ok g c =
    let w = c.begin.ensures in (
      w.0,
      w.1,
      begins (is_too_long c.args.label.now c.args.protocol.now)
          (open_bytes c.args.priority c.args.label.now c.args.protocol.now) c.in-Ok.open_message w.0 c.begin.result
          c.in-Ok.ensures.bytes w.2,
    )

pub returns-in-Err : goal.returns-in-Err
returns-in-Err g c = (
  [],
  refl,
  begins_refused (is_too_long c.args.label.now c.args.protocol.now)
      (open_bytes c.args.priority c.args.label.now c.args.protocol.now) c.in-Err.error c.in-Err.ensures.bytes,
)
