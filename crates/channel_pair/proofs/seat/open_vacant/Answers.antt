use Rattle.std.proofs.Common.{refl, ap, []}
use Rattle.dcep_channel.specs.declared.error.ChannelError.{ChannelError}
use Rattle.channel_pair.specs.declared.step.ChannelReply.TheVariants as replies
use Rattle.channel_pair.proofs.seat.open_vacant.Goals as goal

pub returns-then-spoiled : goal.returns-then-spoiled
returns-then-spoiled c =
    rw (c.requires, c.if-spoiled.true)
    ([], refl, (refl, ap (λ (e : ChannelError). replies.Refused e) c.refusal_at_spoiled.ensures, refl))
