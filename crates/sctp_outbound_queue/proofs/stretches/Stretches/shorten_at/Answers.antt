use Rattle.std.proofs.Common.{arith, sym, ◌∙◌}
use Rattle.std.proofs.lemmas.Bool.Decides.{nat_tests}
use Rattle.sctp_outbound_queue.proofs.StretchLists.{shorter_here}
use Rattle.sctp_outbound_queue.proofs.stretches.Stretches.shorten_at.Goals as goal

pub returns-then-left-stretch : goal.returns-then-left-stretch
returns-then-left-stretch c =
    rw (c.set.ensures, c.loop-place.invariant.kept)
    (sym (shorter_here c.loop-place.place c.loop-place.left c.args.self.now c.index-as_slice-place.result (omega arith)
    (rw (c.as_slice.ensures, c.loop-place.invariant.kept) at c.index-as_slice-place.is)
    (grind (arith, nat_tests, c.if-left-stretch.true)))
    ∙ c.loop-place.invariant.same)
