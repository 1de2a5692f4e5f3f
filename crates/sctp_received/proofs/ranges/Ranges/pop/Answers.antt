use Rattle.sctp_received.specs.TsnRanges.{tsns_of}
use Rattle.sctp_received.proofs.Taken.{fewer_by}
use Rattle.sctp_received.proofs.ranges.Ranges.pop.Goals as goal

pub returns-clause-fewer : goal.returns-clause-fewer
returns-clause-fewer c =
    fewer_by c.args.tsn c.take.result (tsns_of c.args.self.now) (tsns_of c.take.new.self) c.take.ensures.held
    c.take.ensures.removed
