use Rattle.std.proofs.Common.{refl, [], ◌∷◌, Some, None}
use Rattle.dcep_channel.specs.Deeds.{Deed}
use Rattle.dcep_channel.proofs.channel.open_and_write.Goals as goal

pub returns-in-Ok : goal.returns-in-Ok
returns-in-Ok g c =
    let w = c.write_reliably.ensures in
    (Deed.Opened None ∷ w.0, (c.«open».new.self, c.in-Ok.ensures, w.1), w.2)

pub returns-in-Err : goal.returns-in-Err
returns-in-Err g c =
    (Deed.Opened (Some c.in-Err.number) ∷ [], (c.«open».new.self, c.in-Err.ensures, refl), (refl, refl))
