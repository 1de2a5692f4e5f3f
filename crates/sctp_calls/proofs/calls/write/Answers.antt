use Rattle.std.proofs.Common.{length}
use Rattle.sctp_assoc.specs.Calls.{refusal_to_write}
use Rattle.sctp_calls.proofs.RefusalNumbers.{number_reported}
use Rattle.sctp_calls.proofs.calls.write.Goals as goal

pub returns-in-Err : goal.returns-in-Err
returns-in-Err c = (
  number_reported (refusal_to_write c.args.association.now c.args.id (length c.args.bytes.now)) c.in-Err.error
      c.number.result c.in-Err.ensures.refused c.number.ensures,
  c.in-Err.ensures.err,
)
