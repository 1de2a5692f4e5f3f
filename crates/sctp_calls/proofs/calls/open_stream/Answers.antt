use Rattle.sctp_assoc.specs.Calls.{open_refusal}
use Rattle.sctp_calls.proofs.RefusalNumbers.{number_reported}
use Rattle.sctp_calls.proofs.calls.open_stream.Goals as goal

pub returns-in-Err : goal.returns-in-Err
returns-in-Err c = (
  number_reported (open_refusal c.args.association.now c.args.id) c.in-Err.error c.number.result
      c.in-Err.ensures.refused c.number.ensures,
  c.in-Err.ensures.err,
)
