use Rattle.sctp_outbound_queue.proofs.EmptyPlaces.{put_over}
use Rattle.sctp_outbound_queue.proofs.settling.move_all_over.Goals as goal

pub returns-clause-over : goal.returns-clause-over
returns-clause-over c =
    put_over c.args.from c.args.to c.args.dead c.args.messages.now c.put_behind.new.messages c.requires.from
    c.requires.to c.put_behind.ensures.behind
