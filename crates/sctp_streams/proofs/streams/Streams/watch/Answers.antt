use Rattle.std.proofs.Common.{nat_cmp, subst}
use Rattle.std.specs.List.Sorted.{IsStrictlySortedBy}
use Rattle.sctp_streams.specs.Streams.{live_ids}
use Rattle.sctp_streams.proofs.LowMarks.{nothing_gathered}
use Rattle.sctp_streams.proofs.streams.Streams.watch.Goals as goal

pub returns : goal.returns
returns c =
    nothing_gathered c.args.self.now c.new.result
    (subst (λ z. IsStrictlySortedBy nat_cmp (live_ids z)) c.self.view_is c.len-count.ensures.ordered) c.new.ensures
