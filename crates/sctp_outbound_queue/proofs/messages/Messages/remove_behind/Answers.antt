use Rattle.std.proofs.Common.{◌≡◌, ◌∙◌, ◌++◌, ap, arith, drop, map, take}
use Rattle.std.specs.Prelude.{remove}
use Rattle.sctp_outbound_queue.specs.Message.{moved_down}
use Rattle.sctp_outbound_queue.specs.Owed.{standing}
use Rattle.sctp_outbound_queue.specs.Waiting.{Waiting}
use Rattle.sctp_outbound_queue.proofs.EmptyPlaces.{many_standing, one_more_empty, taken_out}
use Rattle.sctp_outbound_queue.proofs.TrueSsns.{long_as}
use Rattle.sctp_outbound_queue.proofs.messages.Messages.remove_behind.Goals as goal

pub returns-clause-left : goal.returns-clause-left
returns-clause-left c =
    let at = c.args.index in
    let dead = c.reach.new.dead in
    let counts = c.reach.new.owed.counts.entries in
    let items = c.reach.new.items.items in
    let dropped = c.take_out-dropped.result in
    let kept = c.reach.ensures.same ∙ c.self.view_is in
    let many = long_as at counts (standing at dead items) kept in
    let there = many_standing at dead items c.reach.ensures.hole in
    let same : c.dropped.inside.message ≡ dropped.message = ap (λ (m : Waiting). m.message) c.dropped.view_is in
    let left = one_more_empty at dead items c.take_out-dropped.new.items.items
    (omega (arith, many, there, c.requires.within)) c.take_out-dropped.ensures.before
    c.take_out-dropped.ensures.behind in
    c.close_if_dear.ensures ∙ c.owe.ensures.moved
    ∙ rw (left, same) (taken_out at counts dropped.message (standing at dead items)
    (omega (arith, many, c.requires.within)))
    ∙ ap (λ z. take at (remove z at) ++ map (moved_down dropped.message) (drop at (remove z at))) kept
