use Rattle.std.proofs.Common.{◌+◌, arith}
use Rattle.sctp_outbound_queue.proofs.ReportedMissing.{all_reported, passed_first, passed_on, reported_on}
use Rattle.sctp_outbound_queue.proofs.walks.report_missing.Goals as goal

pub pieces-init : goal.pieces-init
pieces-init c =
    let past =
    passed_first c.args.reports.now c.args.pieces.now.items c.min-end.result c.skip_acknowledged-index.result
    (c.skip_acknowledged-index.ensures c.args.pieces.now.items c.requires) in
    record { counted = past.0; last = past.1; sets = c.requires; within = past.3 }

pub pieces-preserved : goal.pieces-preserved
pieces-preserved c =
    let on =
    reported_on c.args.reports.now c.args.pieces.now.items c.pieces.pieces.items c.pieces.index
    (omega (arith, c.pieces-test.true, c.min-end.ensures, c.len.ensures, c.args.pieces.now.ok.0))
    c.pieces.invariant.counted c.pieces.invariant.last c.report_at-any_last.ensures.counted
    c.report_at-any_last.ensures.last in
    let past =
    passed_on c.args.reports.now c.args.pieces.now.items c.report_at-any_last.new.pieces.items (c.pieces.index + 1)
    c.min-end.result c.skip_acknowledged-index-in-pieces.result on.0 on.1
    (c.skip_acknowledged-index-in-pieces.ensures c.report_at-any_last.new.pieces.items
    c.report_at-any_last.ensures.sets) (omega (arith, c.pieces-test.true)) in
    record { counted = past.0; last = past.1; sets = c.report_at-any_last.ensures.sets; within = past.3 }

pub pieces-smaller : goal.pieces-smaller
pieces-smaller c =
    let on =
    reported_on c.args.reports.now c.args.pieces.now.items c.pieces.pieces.items c.pieces.index
    (omega (arith, c.pieces-test.true, c.min-end.ensures, c.len.ensures, c.args.pieces.now.ok.0))
    c.pieces.invariant.counted c.pieces.invariant.last c.report_at-any_last.ensures.counted
    c.report_at-any_last.ensures.last in
    let past =
    passed_on c.args.reports.now c.args.pieces.now.items c.report_at-any_last.new.pieces.items (c.pieces.index + 1)
    c.min-end.result c.skip_acknowledged-index-in-pieces.result on.0 on.1
    (c.skip_acknowledged-index-in-pieces.ensures c.report_at-any_last.new.pieces.items
    c.report_at-any_last.ensures.sets) (omega (arith, c.pieces-test.true)) in
    omega (arith, past.2, c.pieces-test.true)

pub returns-clause-last : goal.returns-clause-last
returns-clause-last c =
    (all_reported c.args.reports.now c.args.pieces.now.items c.pieces.pieces.items c.args.reports.now.count
    c.pieces.index
    (omega (
      arith,
      c.pieces-test.false,
      c.pieces.invariant.within,
      c.min-end.ensures,
      c.len.ensures,
      c.args.pieces.now.ok.0,
    ))
    c.pieces.invariant.counted c.pieces.invariant.last).1

pub returns-clause-counted : goal.returns-clause-counted
returns-clause-counted c =
    (all_reported c.args.reports.now c.args.pieces.now.items c.pieces.pieces.items c.args.reports.now.count
    c.pieces.index
    (omega (
      arith,
      c.pieces-test.false,
      c.pieces.invariant.within,
      c.min-end.ensures,
      c.len.ensures,
      c.args.pieces.now.ok.0,
    ))
    c.pieces.invariant.counted c.pieces.invariant.last).0
