-- What a call leaves of a driver where it leaves its association.
use Rattle.std.proofs.Common.{◌≡◌, ap, IfSome, Option, Some, None}
use Rattle.sctp_wire_types.specs.declared.error.Error.{Error}
use Rattle.sctp_assoc.specs.Shown.{Shown}
use Rattle.sctp_driver.specs.Driving.{Driving, with_association}

pub unchanged_beside : (refusal : Option Error) (d : Driving) (b : Shown) → IfSome refusal (λ e. b ≡ d.association)
    → IfSome refusal (λ e. with_association d b ≡ d)
unchanged_beside None d b h = tt
unchanged_beside (Some e) d b h = ap (with_association d) h
