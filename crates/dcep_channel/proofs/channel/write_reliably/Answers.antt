use Rattle.std.proofs.Common.{refl, [], ◌∷◌, Some, None}
use Rattle.dcep_channel.specs.Deeds.{Deed}
use Rattle.dcep_channel.proofs.channel.write_reliably.Goals as goal

pub returns-in-Ok : goal.returns-in-Ok
returns-in-Ok g c =
    let w = c.write_dcep.ensures in
    (Deed.Kept None ∷ w.0, (c.keep_reliable.new.self, c.in-Ok.ensures, w.1), w.2)

pub returns-in-Err : goal.returns-in-Err
returns-in-Err g c =
    (Deed.Kept (Some c.in-Err.number) ∷ [], (c.keep_reliable.new.self, c.in-Err.ensures, refl), (refl, refl))
