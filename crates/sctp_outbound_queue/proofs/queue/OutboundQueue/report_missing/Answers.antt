use Rattle.std.proofs.Common.{◌∙◌, ap, arith, sym}
use Rattle.sctp_outbound_queue.specs.Outbound.{flying_of, marked_of, outstanding_of}
use Rattle.sctp_outbound_queue.specs.Message.{reported_missing}
use Rattle.sctp_outbound_queue.proofs.FirstOutstanding.{after_reports, reported}
use Rattle.sctp_outbound_queue.proofs.ReportedMissing.{as_many_flying, as_many_marked, as_many_outstanding}
use Rattle.sctp_outbound_queue.proofs.Timely.{reported_keeps, timely_first}
use Rattle.sctp_outbound_queue.proofs.Fronts.{alike_first, front_alike, order_alike, outline_reported}
use Rattle.sctp_outbound_queue.proofs.queue.OutboundQueue.report_missing.Goals as goal

pub invariant_of-self : goal.invariant_of-self
invariant_of-self c = (
  (
    c.self.invariant.0.0,
    c.self.invariant.0.1
        ∙ sym (ap outstanding_of c.report_missing.ensures.counted
        ∙ as_many_outstanding c.args.reports.now c.args.reports.now.count c.self.inside.in_flight.items),
    c.self.invariant.0.2,
    c.self.invariant.0.3
        ∙ sym (ap marked_of c.report_missing.ensures.counted
        ∙ as_many_marked c.args.reports.now c.args.reports.now.count c.self.inside.in_flight.items),
    rw c.report_missing.ensures.counted
        (omega (
          arith,
          after_reports (reported_missing c.args.reports.now) (reported c.args.reports.now)
              c.args.reports.now.count c.self.inside.in_flight.items,
          c.self.invariant.0.4,
        )),
    rw c.report_missing.ensures.counted
        (timely_first _ (reported_missing c.args.reports.now)
        (reported_keeps c.args.reports.now _ _) c.args.reports.now.count _ c.self.inside.in_flight.items c.self.invariant.0.5),
  ),
  c.report_missing.ensures.sets,
  rw c.report_missing.ensures.counted
      (front_alike c.self.inside.front c.self.inside.in_flight.items _
      (alike_first (reported_missing c.args.reports.now)
      (outline_reported c.args.reports.now) c.args.reports.now.count c.self.inside.in_flight.items) c.self.invariant.2),
  rw c.report_missing.ensures.counted
      (order_alike c.self.inside.in_flight.items _ c.self.inside.pending c.self.inside.next_message_id
      (alike_first (reported_missing c.args.reports.now)
      (outline_reported c.args.reports.now) c.args.reports.now.count c.self.inside.in_flight.items)
      c.self.invariant.3),
  c.self.invariant.4
      ∙ sym (ap flying_of c.report_missing.ensures.counted
      ∙ as_many_flying c.args.reports.now c.args.reports.now.count c.self.inside.in_flight.items),
)
