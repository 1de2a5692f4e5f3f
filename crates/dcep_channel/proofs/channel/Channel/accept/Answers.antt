use Rattle.std.proofs.Common.{refl, [], ◌∷◌}
use Rattle.dcep_channel.specs.Deeds.{Deed}
use Rattle.dcep_channel.proofs.channel.Channel.accept.Goals as goal

pub returns : goal.returns
returns g c =
    (Deed.Read c.read.result ∷ [], (c.read.new.self, c.read.ensures, refl), (refl, c.accept_from.ensures))
