use Rattle.sctp_outbound_queue.proofs.BytesLeft.{abandoned_whole}
use Rattle.sctp_outbound_queue.proofs.laws.abandonment_is_whole.Goals as goal

pub returns : goal.returns
returns c = abandoned_whole
