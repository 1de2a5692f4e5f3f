use Rattle.std.proofs.Common.{refl, sym, ◌∙◌}
use Rattle.std.proofs.lemmas.Bool.{false≢true, true≢false}
use Rattle.sctp_streams.proofs.LowMarks.{release_gathered}
use Rattle.sctp_outbound.proofs.abandonment.release_bytes.Goals as goal

pub returns-then-release-clause-falls : goal.returns-then-release-clause-falls
returns-then-release-clause-falls c =
    let low = sym c.release.ensures.low ∙ c.if-release.true in
    release_gathered c.args.streams.now c.args.id c.args.generation c.args.bytes c.args.fallen.now
    c.add.new.self (λ e r. c.add.ensures.added r) (λ e r. c.add.ensures.kept r)
    (λ e. absurd (true≢false (sym low ∙ e)))

pub returns-else-release-clause-falls : goal.returns-else-release-clause-falls
returns-else-release-clause-falls c =
    let low = sym c.release.ensures.low ∙ c.if-release.false in
    release_gathered c.args.streams.now c.args.id c.args.generation c.args.bytes c.args.fallen.now
    c.args.fallen.now (λ e r. absurd (false≢true (sym low ∙ e))) (λ e r. r)
    (λ e. refl)
