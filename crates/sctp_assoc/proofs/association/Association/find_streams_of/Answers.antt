use Rattle.std.proofs.Common.{◌≡◌, ◌∙◌, ap, subst, sym, true}
use Rattle.sctp_outbound.proofs.SenderSteps.{on_err}
use Rattle.sctp_assoc.specs.Finding.{finding_takes_memory, found_for}
use Rattle.sctp_assoc.proofs.FindsTold.{entry_find_more, entry_find_told}
use Rattle.sctp_assoc.proofs.SkipsTold.{entry_passed}
use Rattle.sctp_assoc.proofs.association.Association.find_streams_of.Goals.{then-not-entry+in_ok-find_skipped}
use Rattle.sctp_assoc.proofs.association.Association.find_streams_of.Goals.{else-not-entry}
use Rattle.sctp_assoc.proofs.association.Association.find_streams_of.Goals as goal

pub returns-in_err-find_skipped-clause-grows : goal.returns-in_err-find_skipped-clause-grows
returns-in_err-find_skipped-clause-grows c =
    on_err c.from_residual.result
    (c.loop-entry.invariant.grows
    (entry_find_told c.args.tsn c.args.entries.now c.loop-entry.entry-index _ c.loop-entry.self c.loop-entry-test.true
    c.if-not-entry.true c.in_err-find_skipped.ensures.grows))

pub loop-entry-preserved : goal.loop-entry-preserved
loop-entry-preserved c = elim c.if-not-entry.branch [
  | then-not-entry+in_ok-find_skipped w ↦ (
      let more =
      entry_find_more c.args.tsn c.args.entries.now c.loop-entry.entry-index _ c.loop-entry.self c.loop-entry-test.true
      w.if-not-entry.true w.find_skipped.new.self w.in_ok-find_skipped.ensures.exact in
      rw w.self-is (record {
        same = sym more.0 ∙ c.loop-entry.invariant.same;
        grows = λ takes. c.loop-entry.invariant.grows (more.1 takes);
      }))
  | else-not-entry w ↦ (
      let passed =
      entry_passed c.args.entries.now c.loop-entry.entry-index _ c.loop-entry-test.true w.if-not-entry.false in
      rw w.self-is (record {
        same = ap (λ z. found_for c.args.tsn z c.loop-entry.self) (sym passed) ∙ c.loop-entry.invariant.same;
        grows =
            λ takes. c.loop-entry.invariant.grows
            (subst (λ z. finding_takes_memory c.args.tsn z c.loop-entry.self ≡ true) (sym passed) takes);
      }))
]
