use Rattle.std.proofs.Common.{sym, ◌∙◌, arith}
use Rattle.sctp_outbound.proofs.Dropped.{drop_ends_early, drop_ends_late, drops_from, drops_more}
use Rattle.sctp_outbound.proofs.Falling as falling
use Rattle.sctp_outbound.proofs.sender.Sender.drop_all.Goals as goal

pub loop-done-init : goal.loop-done-init
loop-done-init c = (
  drops_from c.pending_messages-count.result c.args.now (c.args.self.now, c.args.streams.now),
  falling.drops_from c.args.now c.pending_messages-count.result (c.args.self.now, c.args.streams.now)
      c.args.fallen.now,
)

pub returns-then-not-drop_first-clause-exact : goal.returns-then-not-drop_first-clause-exact
returns-then-not-drop_first-clause-exact c =
    drop_ends_early c.pending_messages-count.result c.loop-done.done c.args.now (c.args.self.now, c.args.streams.now)
    (c.loop-done.self, c.loop-done.streams) c.loop-done.invariant.0 c.pending_messages-count.ensures
    (sym c.drop_first.ensures.any ∙ c.if-not-drop_first.true) c.drop_first.ensures.exact

pub returns-then-not-drop_first-clause-falls : goal.returns-then-not-drop_first-clause-falls
returns-then-not-drop_first-clause-falls c =
    falling.drops_early c.args.now c.pending_messages-count.result (c.args.self.now, c.args.streams.now)
    c.args.fallen.now c.loop-done.done (c.loop-done.self, c.loop-done.streams) c.pending_messages-count.ensures
    (sym c.drop_first.ensures.any ∙ c.if-not-drop_first.true) c.loop-done.invariant.1 c.drop_first.ensures.falls

pub loop-done-preserved : goal.loop-done-preserved
loop-done-preserved c = (
  drops_more c.pending_messages-count.result c.loop-done.done c.args.now (c.args.self.now, c.args.streams.now)
      (c.loop-done.self, c.loop-done.streams) c.loop-done.invariant.0 c.loop-done-test.true
      c.drop_first.ensures.exact,
  falling.drops_more c.args.now c.pending_messages-count.result (c.args.self.now, c.args.streams.now)
      c.args.fallen.now c.loop-done.done (c.loop-done.self, c.loop-done.streams)
      (c.drop_first.new.self, c.drop_first.new.streams) c.loop-done-test.true c.drop_first.ensures.exact
      c.loop-done.invariant.1 c.drop_first.ensures.falls,
)

pub returns-clause-exact : goal.returns-clause-exact
returns-clause-exact c =
    drop_ends_late c.pending_messages-count.result c.loop-done.done c.args.now (c.args.self.now, c.args.streams.now)
    (c.loop-done.self, c.loop-done.streams) c.loop-done.invariant.0 c.pending_messages-count.ensures
    (omega (arith, c.loop-done-test.false))

pub returns-clause-falls : goal.returns-clause-falls
returns-clause-falls c =
    falling.drops_late c.args.now c.pending_messages-count.result (c.args.self.now, c.args.streams.now)
    c.args.fallen.now c.loop-done.done (c.loop-done.self, c.loop-done.streams) c.pending_messages-count.ensures
    (omega (arith, c.loop-done-test.false)) c.loop-done.invariant.1
