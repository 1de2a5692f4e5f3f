use Rattle.std.proofs.Common.{refl, inl}
use Rattle.sctp_assoc.specs.declared.call.Reply.TheVariants as replies
use Rattle.channel_pair.proofs.PortDeeds.{wrote_copy}
use Rattle.channel_pair.proofs.port.PairPortPort.write.Goals as goal

pub returns-in-Wrote : goal.returns-in-Wrote
returns-in-Wrote c = (
  refl,
  refl,
  refl,
  inl (wrote_copy c.args.self.now.side c.args.self.now.id c.args.ppi c.in-Ok.bytes c.args.bytes.now
      (replies.Wrote c.in-Wrote.count) c.args.self.now.pair.now c.step.new.self c.in-Ok.ensures
      c.in-Wrote.ensures.exact c.in-Wrote.ensures.headline),
)

pub returns-in-Refused : goal.returns-in-Refused
returns-in-Refused c = (
  refl,
  refl,
  refl,
  inl (wrote_copy c.args.self.now.side c.args.self.now.id c.args.ppi c.in-Ok.bytes c.args.bytes.now
      (replies.Refused c.in-Refused.number) c.args.self.now.pair.now c.step.new.self c.in-Ok.ensures
      c.in-Refused.ensures.exact c.in-Refused.ensures.headline),
)
