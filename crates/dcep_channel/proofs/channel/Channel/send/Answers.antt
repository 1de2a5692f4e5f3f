use Rattle.std.proofs.Common.{refl, sym, [], ◌∷◌}
use Rattle.sctp_wire_types.specs.declared.ids.PayloadProtocolIdentifier.TheVariants as kinds
use Rattle.dcep_channel.specs.Deeds.{Deed}
use Rattle.dcep_channel.proofs.ChannelCalls.{sends, sends_not}
use Rattle.dcep_channel.proofs.channel.Channel.send.Goals as goal

pub returns-in-Some : goal.returns-in-Some
returns-in-Some g c =
    ([], refl, sends_not c.args.self.now c.args.bytes.now c.in-Some.error (sym c.in-Some.ensures))

pub returns-in-None : goal.returns-in-None
returns-in-None g c = (
  Deed.Wrote kinds.Binary c.args.bytes.now c.write.result ∷ [],
  (c.write.new.self, c.write.ensures, refl),
  sends c.args.self.now c.args.bytes.now c.write.result c.from_beneath.result (sym c.in-None.ensures)
      c.from_beneath.ensures,
)
