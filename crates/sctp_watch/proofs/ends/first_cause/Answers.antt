use Rattle.std.proofs.Common.{arith}
use Rattle.sctp_watch.proofs.FirstEnds.{cause_found, none_found}
use Rattle.sctp_watch.proofs.ends.first_cause.Goals as goal

pub returns-in-Some : goal.returns-in-Some
returns-in-Some c =
    cause_found c.args.causes.now _ _ c.in-Some.code c.cause_with.result
    (omega (arith, c.in-Some.ensures.0, c.in-Some.ensures.1)) c.in-Some.ensures.2 c.cause_with.ensures

pub returns-in-None : goal.returns-in-None
returns-in-None c =
    none_found c.args.causes.now c.cause_with-in-None.result c.in-None.ensures c.cause_with-in-None.ensures
