use Rattle.std.proofs.Common.{refl, [], ◌∷◌}
use Rattle.sctp_wire_types.specs.declared.ids.PayloadProtocolIdentifier.TheVariants as kinds
use Rattle.dcep_channel.specs.Deeds.{Deed}
use Rattle.dcep_channel.proofs.channel.write_dcep.Goals as goal

pub returns : goal.returns
returns g c = (
  Deed.Wrote kinds.Dcep c.args.message.now c.write.result ∷ [],
  (c.write.new.self, c.write.ensures, refl),
  (refl, refl, refl, c.without_length.ensures),
)
