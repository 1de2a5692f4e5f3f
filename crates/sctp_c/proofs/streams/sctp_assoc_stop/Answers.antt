use Rattle.std.proofs.Common.{refl}
use Rattle.sctp_assoc.specs.Calls.{stopped}
use Rattle.sctp_driver.specs.Driving.{Driving}
use Rattle.sctp_driver.specs.Streams.{with_stopped}
use Rattle.sctp_c.proofs.DriversLeft.{when_changed, when_left}
use Rattle.sctp_c.proofs.streams.sctp_assoc_stop.Goals as goal

pub returns-clause-done : goal.returns-clause-done
returns-clause-done c =
    when_changed c.in-Some.ensures.some c.put.ensures c.deref_mut.ensures.value refl c.stop-answer.result
    c.code_of.ensures (λ (d : Driving). with_stopped d c.args.stream (stopped d.association c.args.stream))
    c.stop-answer.ensures.ok

pub returns-clause-left : goal.returns-clause-left
returns-clause-left c =
    when_left c.in-Some.ensures.some c.put.ensures c.deref_mut.ensures.value refl c.stop-answer.result
    c.code_of.ensures _ c.stop-answer.ensures.refused c.stop-answer.ensures.unchanged
