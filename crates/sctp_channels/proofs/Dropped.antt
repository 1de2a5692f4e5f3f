-- One more message is dropped.
use Rattle.std.proofs.Common.{◌≡◌, ℕ, ◌+◌, List, subst, add-one}
use Rattle.sctp_driver.specs.Driving.{Driving}
use Rattle.sctp_channels.specs.declared.receiving.Next.{Next}
use Rattle.sctp_channels.specs.declared.receiving.Next.TheVariants as nexts
use Rattle.sctp_channels.specs.Receiving.{Drops, ReadsNext}

pub one_more : (count id : ℕ) (d : Driving) (buffer : List ℕ) (x : Driving) (y : List ℕ) (next : Next) (e : Driving)
    (filled : List ℕ) → Drops count id d buffer x y → ReadsNext id x y next e filled → next ≡ nexts.Dropped
    → Drops (count + 1) id d buffer e filled
one_more count id d buffer x y next e filled before last is_dropped =
    rw add-one (x, y, before, subst (λ (z : Next). ReadsNext id x y z e filled) is_dropped last)
