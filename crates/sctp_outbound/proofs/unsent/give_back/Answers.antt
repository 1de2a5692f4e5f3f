use Rattle.std.proofs.Common.{refl, sym, ◌∙◌}
use Rattle.std.proofs.lemmas.Bool.{false≢true, true≢false}
use Rattle.sctp_streams.proofs.LowMarks.{release_gathered}
use Rattle.sctp_outbound.proofs.unsent.give_back.Goals as goal

pub returns-then-give_back-clause-falls : goal.returns-then-give_back-clause-falls
returns-then-give_back-clause-falls c =
    let low = sym c.give_back.ensures.low ∙ c.if-give_back.true in
    release_gathered c.args.streams.now c.args.dropped.now.message.stream_identifier
    c.args.dropped.now.message.generation c.args.dropped.now.bytes
    c.args.fallen.now c.add.new.self (λ e r. c.add.ensures.added r) (λ e r. c.add.ensures.kept r)
    (λ e. absurd (true≢false (sym low ∙ e)))

pub returns-else-give_back-clause-falls : goal.returns-else-give_back-clause-falls
returns-else-give_back-clause-falls c =
    let low = sym c.give_back.ensures.low ∙ c.if-give_back.false in
    release_gathered c.args.streams.now c.args.dropped.now.message.stream_identifier
    c.args.dropped.now.message.generation c.args.dropped.now.bytes
    c.args.fallen.now c.args.fallen.now (λ e r. absurd (false≢true (sym low ∙ e))) (λ e r. r)
    (λ e. refl)
