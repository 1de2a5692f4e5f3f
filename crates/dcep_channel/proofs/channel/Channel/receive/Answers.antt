use Rattle.std.proofs.Common.{refl, sym, ◌∙◌, [], ◌∷◌}
use Rattle.dcep_channel.specs.Deeds.{Deed}
use Rattle.dcep_channel.proofs.ChannelCalls.{receives_failed, receives_once, receives_twice}
use Rattle.dcep_channel.proofs.channel.Channel.receive.Goals as goal

pub returns-then-is_failed : goal.returns-then-is_failed
returns-then-is_failed g c =
    ([], refl, receives_failed c.args.self.now (sym c.is_failed.ensures ∙ c.if-is_failed.true))

pub returns-then-awaits : goal.returns-then-awaits
returns-then-awaits g c = (
  Deed.Read c.read-first.result ∷ Deed.Read c.read-second.result ∷ [],
  (
    c.read-first.new.self,
    c.read-first.ensures,
    (c.read-second.new.self, c.read-second.ensures, refl),
  ),
  receives_twice c.args.self.now c.mark_acknowledged.new.self c.answer_for.new.self c.read-first.result
      c.read-second.result c.answer_for.result (sym c.is_failed.ensures ∙ c.if-is_failed.false)
      (sym c.awaits.ensures ∙ c.if-awaits.true) c.mark_acknowledged.ensures c.answer_for.ensures,
)

pub returns : goal.returns
returns g c = (
  Deed.Read c.read-first.result ∷ [],
  (c.read-first.new.self, c.read-first.ensures, refl),
  receives_once c.args.self.now c.answer_for-2.new.self c.read-first.result c.answer_for-2.result
      (sym c.is_failed.ensures ∙ c.if-is_failed.false) (sym c.awaits.ensures ∙ c.if-awaits.false) c.answer_for-2.ensures,
)
