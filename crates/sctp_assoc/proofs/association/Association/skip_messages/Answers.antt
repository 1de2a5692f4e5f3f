use Rattle.std.proofs.Common.{◌≡◌, ◌∙◌, ap, subst, sym, true}
use Rattle.sctp_outbound.proofs.SenderSteps.{on_err}
use Rattle.sctp_assoc.specs.Skipping.{some_takes_memory, with_skips}
use Rattle.sctp_assoc.proofs.SkipsTold.{entry_more, entry_passed, entry_told}
use Rattle.sctp_assoc.proofs.association.Association.skip_messages.Goals.{then-not-entry+in_ok-skip_stream}
use Rattle.sctp_assoc.proofs.association.Association.skip_messages.Goals.{else-not-entry}
use Rattle.sctp_assoc.proofs.association.Association.skip_messages.Goals as goal

pub returns-in_err-skip_stream-clause-grows : goal.returns-in_err-skip_stream-clause-grows
returns-in_err-skip_stream-clause-grows c =
    on_err c.from_residual.result
    (c.loop-entry.invariant.grows
    (entry_told c.args.tsn c.args.entries.now c.loop-entry.entry-index _ c.loop-entry.self c.loop-entry-test.true
    c.if-not-entry.true c.in_err-skip_stream.ensures.grows))

pub loop-entry-preserved : goal.loop-entry-preserved
loop-entry-preserved c = elim c.if-not-entry.branch [
  | then-not-entry+in_ok-skip_stream w ↦ (
      let more =
      entry_more c.args.tsn c.args.entries.now c.loop-entry.entry-index _ c.loop-entry.self c.loop-entry-test.true
      w.if-not-entry.true w.skip_stream.new.self w.in_ok-skip_stream.ensures.exact in
      rw w.self-is (record {
        same = sym more.0 ∙ c.loop-entry.invariant.same;
        grows = λ takes. c.loop-entry.invariant.grows (more.1 takes);
      }))
  | else-not-entry w ↦ (
      let passed =
      entry_passed c.args.entries.now c.loop-entry.entry-index _ c.loop-entry-test.true w.if-not-entry.false in
      rw w.self-is (record {
        same = ap (λ z. with_skips c.args.tsn z c.loop-entry.self) (sym passed) ∙ c.loop-entry.invariant.same;
        grows =
            λ takes. c.loop-entry.invariant.grows
            (subst (λ z. some_takes_memory c.args.tsn z c.loop-entry.self ≡ true) (sym passed) takes);
      }))
]
