use Rattle.std.proofs.Common.{refl}
use Rattle.sctp_driver.specs.Driving.{Driving}
use Rattle.sctp_driver.specs.Streams.{stream_closed, with_stopped}
use Rattle.sctp_c.proofs.DriversLeft.{when_changed, when_left}
use Rattle.sctp_c.proofs.streams.sctp_assoc_close_stream.Goals as goal

pub returns-clause-done : goal.returns-clause-done
returns-clause-done c =
    when_changed c.in-Some.ensures.some c.put.ensures c.deref_mut.ensures.value refl c.close_stream-answer.result
    c.code_of.ensures (λ (d : Driving). with_stopped d c.args.stream (stream_closed d.association c.args.stream))
    c.close_stream-answer.ensures.ok

pub returns-clause-left : goal.returns-clause-left
returns-clause-left c =
    when_left c.in-Some.ensures.some c.put.ensures c.deref_mut.ensures.value refl c.close_stream-answer.result
    c.code_of.ensures _ c.close_stream-answer.ensures.refused c.close_stream-answer.ensures.unchanged
