use Rattle.sctp_outbound_queue.proofs.BytesLeft.{sent_bytes, popped_bytes, acked_bytes, abandoned_bytes, expired_bytes}
use Rattle.sctp_outbound_queue.proofs.BytesLeft.{tail_expired_bytes}
use Rattle.sctp_outbound_queue.proofs.laws.released_bytes_are_exact.Goals as goal

pub returns : goal.returns
returns c = record {
  sent = sent_bytes;
  popped = popped_bytes;
  acknowledged = acked_bytes;
  abandoned = abandoned_bytes;
  expired = expired_bytes;
  tail = tail_expired_bytes;
}
