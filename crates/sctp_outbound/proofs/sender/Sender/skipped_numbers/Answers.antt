use Rattle.std.proofs.Common.{refl, slice_get}
use Rattle.sctp_outbound.proofs.ForwardMade.{skipped_more}
use Rattle.sctp_outbound.proofs.sender.Sender.skipped_numbers.Goals as goal

pub loop-index-preserved : goal.loop-index-preserved
loop-index-preserved c =
    skipped_more c.args.self.now.queue.in_flight c.loop-index.index
    (slice_get c.args.self.now.queue.in_flight c.loop-index.index) c.loop-index.numbers.entries
    c.skip_at.new.numbers.entries refl c.loop-index.invariant c.in_ok-skip_at.ensures
