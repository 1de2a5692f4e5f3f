use Rattle.sctp_outbound_queue.proofs.EmptyPlaces.{put_first}
use Rattle.sctp_outbound_queue.proofs.settling.put_before.Goals as goal

pub returns : goal.returns
returns c = record {
  before = put_first c.args.from c.args.dead c.args.messages.now c.rotate_left.new.self c.rotate_left.ensures.after;
}
