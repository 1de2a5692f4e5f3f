-- What stands at the index found, and what is left where it is emptied.
use Rattle.sctp_assoc.proofs.FilledBuffers.{empties_the_first, is_the_first, none_has_bytes}
use Rattle.sctp_assoc.proofs.stream.first_filled.Goals as goal

pub returns-clause-some : goal.returns-clause-some
returns-clause-some c = is_the_first c.args.buffers.now c.first_with_bytes.result c.first_with_bytes.ensures

pub returns-clause-emptied : goal.returns-clause-emptied
returns-clause-emptied c = empties_the_first c.args.buffers.now c.first_with_bytes.result c.first_with_bytes.ensures

pub returns-clause-none : goal.returns-clause-none
returns-clause-none c = none_has_bytes c.args.buffers.now c.first_with_bytes.result c.first_with_bytes.ensures
