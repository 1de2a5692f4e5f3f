use Rattle.std.proofs.Common.{refl, []}
use Rattle.channel_pair.proofs.seat.acknowledge_at.Goals as goal

pub returns-in-Vacant : goal.returns-in-Vacant
returns-in-Vacant c = rw c.in-Vacant.is ([], refl, (refl, refl, refl))
