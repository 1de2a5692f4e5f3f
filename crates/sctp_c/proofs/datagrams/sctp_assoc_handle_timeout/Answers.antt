use Rattle.std.proofs.Common.{refl}
use Rattle.sctp_c.proofs.Refusals.{when_timed}
use Rattle.sctp_c.proofs.datagrams.sctp_assoc_handle_timeout.Goals as goal

pub returns-clause-done : goal.returns-clause-done
returns-clause-done c =
    when_timed c.args.now c.in-Some.ensures.some c.put.ensures c.deref_mut.ensures.value refl
    c.handle_timeout-answer.result c.handle_timeout-answer.ensures.ok c.code_of.ensures
