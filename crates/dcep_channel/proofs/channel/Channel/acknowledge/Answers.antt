use Rattle.std.proofs.Common.{refl, sym, ◌∙◌, []}
use Rattle.dcep_channel.proofs.ChannelCalls.{acknowledged_before, acknowledges_failed, acknowledges_not}
use Rattle.dcep_channel.proofs.ChannelCalls.{acknowledges_now}
use Rattle.dcep_channel.proofs.channel.Channel.acknowledge.Goals as goal

pub returns-then-is_failed : goal.returns-then-is_failed
returns-then-is_failed g c =
    ([], refl, acknowledges_failed c.args.self.now (sym c.is_failed.ensures ∙ c.if-is_failed.true))

pub returns-then-may_send : goal.returns-then-may_send
returns-then-may_send g c = (
  [],
  refl,
  acknowledged_before c.args.self.now (sym c.is_failed.ensures ∙ c.if-is_failed.false)
      (sym c.may_send.ensures ∙ c.if-may_send.true),
)

pub returns-in-Ok : goal.returns-in-Ok
returns-in-Ok g c =
    let w = c.in-Ok.ensures in (
      w.0,
      w.1,
      acknowledges_now c.args.self.now c.mark_acknowledged.new.self w.0
          (sym c.is_failed.ensures ∙ c.if-is_failed.false) (sym c.may_send.ensures ∙ c.if-may_send.false) w.2
          c.mark_acknowledged.ensures,
    )

pub returns-in-Err : goal.returns-in-Err
returns-in-Err g c =
    let w = c.in-Err.ensures in (
      w.0,
      w.1,
      acknowledges_not c.args.self.now w.0 c.in-Err.error (sym c.is_failed.ensures ∙ c.if-is_failed.false)
          (sym c.may_send.ensures ∙ c.if-may_send.false) w.2,
    )
