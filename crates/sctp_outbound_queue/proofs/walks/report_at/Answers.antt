use Rattle.std.proofs.Common.{ap, arith, ◌∙◌, refl, sym}
use Rattle.sctp_outbound_queue.specs.Message.{picks, was_acknowledged}
use Rattle.sctp_outbound_queue.specs.declared.message.Retransmission.TheVariants as causes
use Rattle.sctp_outbound_queue.proofs.FirstOutstanding.{item_there, none_past}
use Rattle.sctp_outbound_queue.proofs.StandingPieces.{reported_as_acked, reported_as_marked, reported_as_missing}
use Rattle.sctp_outbound_queue.proofs.StandingPieces.{standing_kept}
use Rattle.sctp_outbound_queue.proofs.walks.report_at.Goals as goal

pub returns-then-is_last-clause-sets : goal.returns-then-is_last-clause-sets
returns-then-is_last-clause-sets c =
    let item = c.in-Some.ensures.item in
    let there = item_there c.args.pieces.now.items c.args.index c.in-Some.piece.now item.3.0 item.1 in
    c.settle_missing.ensures c.args.pieces.now.items c.in-Some.piece.now there
    (ap (picks causes.Timer) c.report_missing.ensures ∙ reported_as_marked c.args.reports.now c.in-Some.piece.now)
    (ap was_acknowledged c.report_missing.ensures ∙ reported_as_acked c.args.reports.now c.in-Some.piece.now) c.requires

pub returns-else-is_last-clause-last : goal.returns-else-is_last-clause-last
returns-else-is_last-clause-last c =
    let item = c.in-Some.ensures.item in
    let there = item_there c.args.pieces.now.items c.args.index c.in-Some.piece.now item.3.0 item.1 in
    rw there c.is_last_report-is_last.ensures

pub returns-else-is_last-clause-counted : goal.returns-else-is_last-clause-counted
returns-else-is_last-clause-counted c =
    let item = c.in-Some.ensures.item in
    let there = item_there c.args.pieces.now.items c.args.index c.in-Some.piece.now item.3.0 item.1 in
    rw (there, c.report_missing.ensures) refl

pub returns-else-is_last-clause-sets : goal.returns-else-is_last-clause-sets
returns-else-is_last-clause-sets c =
    let item = c.in-Some.ensures.item in
    let there = item_there c.args.pieces.now.items c.args.index c.in-Some.piece.now item.3.0 item.1 in
    standing_kept c.args.sets.now c.args.pieces.now.items c.args.index c.in-Some.piece.now c.report_missing.new.self
    there (ap (picks causes.Timer) c.report_missing.ensures ∙ reported_as_marked c.args.reports.now c.in-Some.piece.now)
    (ap (picks causes.Fast) c.report_missing.ensures
    ∙ reported_as_missing c.args.reports.now c.in-Some.piece.now
    (sym c.is_last_report-is_last.ensures ∙ c.if-is_last.false))
    (ap was_acknowledged c.report_missing.ensures ∙ reported_as_acked c.args.reports.now c.in-Some.piece.now) c.requires

pub returns-in-None-clause-last : goal.returns-in-None-clause-last
returns-in-None-clause-last c =
    rw (none_past c.args.pieces.now.items c.args.index
    (λ l. c.in-None.ensures.variant.1 (omega (arith, l, c.args.pieces.now.ok.0)))) refl
