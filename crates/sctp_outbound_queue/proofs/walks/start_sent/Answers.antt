use Rattle.sctp_outbound_queue.proofs.Timely.{sent_run_already, sent_runs, sent_still}
use Rattle.sctp_outbound_queue.proofs.walks.start_sent.Goals as goal

pub returns-then-clocks : goal.returns-then-clocks
returns-then-clocks c = record {
  started = sent_run_already c.args.now c.args.clocks.now c.args.pieces.now.items c.if-clocks.true c.requires;
  timely = sent_still c.args.clocks.now c.args.pieces.now.items c.if-clocks.true c.requires;
}

pub returns : goal.returns
returns c = record {
  started = c.start_all_sent.ensures;
  timely = rw (c.next_sent.ensures, c.start_all_sent.ensures)
      (sent_runs c.args.now c.args.clocks.now c.args.pieces.now.items);
}
