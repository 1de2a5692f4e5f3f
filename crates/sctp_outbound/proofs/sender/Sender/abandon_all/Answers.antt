use Rattle.std.proofs.Common.{sym, ◌∙◌, arith, refl}
use Rattle.sctp_outbound.proofs.Passes.{looked_once}
use Rattle.sctp_outbound.proofs.SenderSteps.{on_err}
use Rattle.sctp_outbound.proofs.GivenUp.{any_early, any_late, ends_early, ends_late, gives_up_from, gives_up_more}
use Rattle.sctp_outbound.proofs.GivenUp.{some_more}
use Rattle.sctp_outbound.proofs.Falling.{first_early, first_from, first_late, first_more}
use Rattle.sctp_outbound.proofs.sender.Sender.abandon_all.Goals as goal

pub loop-done-init : goal.loop-done-init
loop-done-init c = (
  gives_up_from c.args.why.now c.inflight_len-count.result (c.args.self.now, c.args.streams.now),
  first_from c.args.why.now c.inflight_len-count.result (c.args.self.now, c.args.streams.now) c.args.fallen.now,
  λ none. refl,
)

pub returns-then-not-branch-clause-exact : goal.returns-then-not-branch-clause-exact
returns-then-not-branch-clause-exact c =
    ends_early c.loop-done.invariant.0 c.inflight_len-count.ensures
    (sym c.in_ok-abandon_next.ensures.any ∙ c.if-not-branch.true) c.in_ok-abandon_next.ensures.exact

pub returns-then-not-branch-clause-any : goal.returns-then-not-branch-clause-any
returns-then-not-branch-clause-any c =
    any_early c.args.why.now c.inflight_len-count.result c.loop-done.done (c.args.self.now, c.args.streams.now)
    (c.loop-done.self, c.loop-done.streams) c.loop-done.invariant.0
    (sym c.in_ok-abandon_next.ensures.any ∙ c.if-not-branch.true)

pub returns-then-not-branch-clause-falls : goal.returns-then-not-branch-clause-falls
returns-then-not-branch-clause-falls c =
    first_early c.args.why.now c.inflight_len-count.result (c.args.self.now, c.args.streams.now) c.args.fallen.now
    c.loop-done.done (c.loop-done.self, c.loop-done.streams) c.inflight_len-count.ensures
    (sym c.in_ok-abandon_next.ensures.any ∙ c.if-not-branch.true) c.loop-done.invariant.1
    c.in_ok-abandon_next.ensures.falls

pub returns-in_err-abandon_next-clause-grows : goal.returns-in_err-abandon_next-clause-grows
returns-in_err-abandon_next-clause-grows c =
    on_err c.from_residual.result
    (some_more c.args.why.now c.inflight_len-count.result c.loop-done.done (c.args.self.now, c.args.streams.now)
    (c.loop-done.self, c.loop-done.streams) c.loop-done.invariant.0 c.in_err-abandon_next.ensures.grows)

pub loop-done-preserved : goal.loop-done-preserved
loop-done-preserved c = (
  gives_up_more c.loop-done.invariant.0 c.loop-done-test.true
      (sym c.in_ok-abandon_next.ensures.any ∙ c.if-not-branch.false) c.in_ok-abandon_next.ensures.exact,
  first_more c.args.why.now c.inflight_len-count.result (c.args.self.now, c.args.streams.now) c.args.fallen.now
      c.loop-done.done (c.loop-done.self, c.loop-done.streams) (c.abandon_next.new.self, c.abandon_next.new.streams)
      c.loop-done-test.true c.in_ok-abandon_next.ensures.exact c.loop-done.invariant.1
      c.in_ok-abandon_next.ensures.falls,
  λ none. absurd (omega (arith, none)),
)

pub returns-clause-exact : goal.returns-clause-exact
returns-clause-exact c =
    ends_late c.loop-done.invariant.0 c.inflight_len-count.ensures (omega (arith, c.loop-done-test.false))

pub returns-clause-any : goal.returns-clause-any
returns-clause-any c =
    any_late c.args.why.now c.inflight_len-count.result c.loop-done.done (c.args.self.now, c.args.streams.now)
    (c.loop-done.self, c.loop-done.streams) c.loop-done.invariant.0 c.inflight_len-count.ensures
    (omega (arith, c.loop-done-test.false))

pub returns-clause-falls : goal.returns-clause-falls
returns-clause-falls c =
    first_late c.args.why.now c.inflight_len-count.result (c.args.self.now, c.args.streams.now) c.args.fallen.now
    c.loop-done.done (c.loop-done.self, c.loop-done.streams) c.inflight_len-count.ensures
    (omega (arith, c.loop-done-test.false)) c.loop-done.invariant.1

pub returns-then-not-branch-clause-looks : goal.returns-then-not-branch-clause-looks
returns-then-not-branch-clause-looks c = λ nothing.
    looked_once c.args.why.now c.inflight_len-count.result c.loop-done.done (c.args.self.now, c.args.streams.now)
    (c.loop-done.self, c.loop-done.streams) c.loop-done.invariant.0 c.args.looks.now c.loop-done.looks
    c.abandon_next.new.looks c.loop-done.invariant.2 c.in_ok-abandon_next.ensures.looks nothing

pub returns-clause-looks : goal.returns-clause-looks
returns-clause-looks c = λ nothing.
    looked_once c.args.why.now c.inflight_len-count.result c.loop-done.done (c.args.self.now, c.args.streams.now)
    (c.loop-done.self, c.loop-done.streams) c.loop-done.invariant.0 c.args.looks.now c.loop-done.looks
    c.loop-done.looks c.loop-done.invariant.2 (omega arith) nothing
