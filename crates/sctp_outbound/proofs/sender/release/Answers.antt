use Rattle.std.proofs.Common.{refl, sym, ◌∙◌}
use Rattle.std.proofs.lemmas.Bool.{false≢true, true≢false}
use Rattle.sctp_streams.proofs.LowMarks.{gathers_release}
use Rattle.sctp_outbound_queue.specs.Message.{outstanding_bytes}
use Rattle.sctp_outbound.proofs.sender.release.Goals as goal

pub returns-then-release-clause-gathers : goal.returns-then-release-clause-gathers
returns-then-release-clause-gathers c =
    let id = c.args.piece.now.message.stream_identifier in
    let generation = c.args.piece.now.message.generation in
    let low = sym c.release.ensures.low ∙ c.if-release.true in
    rw (c.release.ensures.released, c.outstanding_bytes.ensures)
    (gathers_release c.args.streams.now id generation (outstanding_bytes c.args.piece.now) c.args.fallen.now
    c.add.new.self (λ e r. c.add.ensures.added r) (λ e r. c.add.ensures.kept r)
    (λ e. absurd (true≢false (sym low ∙ (rw c.outstanding_bytes.ensures e)))))

pub returns-else-release-clause-gathers : goal.returns-else-release-clause-gathers
returns-else-release-clause-gathers c =
    let id = c.args.piece.now.message.stream_identifier in
    let generation = c.args.piece.now.message.generation in
    let low = sym c.release.ensures.low ∙ c.if-release.false in
    rw (c.release.ensures.released, c.outstanding_bytes.ensures)
    (gathers_release c.args.streams.now id generation (outstanding_bytes c.args.piece.now) c.args.fallen.now
    c.args.fallen.now (λ e r. absurd (false≢true (sym low ∙ (rw c.outstanding_bytes.ensures e)))) (λ e r. r)
    (λ e. refl))
