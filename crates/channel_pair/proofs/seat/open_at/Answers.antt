use Rattle.std.proofs.Common.{refl, []}
use Rattle.channel_pair.proofs.seat.open_at.Goals as goal

pub returns-in-Taken : goal.returns-in-Taken
returns-in-Taken c = rw c.in-Taken.is ([], refl, (refl, refl, refl))
