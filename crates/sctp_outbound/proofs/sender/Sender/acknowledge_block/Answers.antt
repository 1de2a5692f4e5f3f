use Rattle.std.proofs.Common.{rules, ◌+◌, ◌-◌, ◌∙◌, ap, arith, eqb, subst, sym}
use Rattle.sctp_outbound.specs.GapAcks.{acked_among, is_named_by, timed, trips_from}
use Rattle.sctp_outbound.specs.declared.sender.Sender.{Sender}
use Rattle.sctp_streams.proofs.LowMarks.{gathers_both, gathers_nothing}
use Rattle.sctp_outbound.proofs.GapAcks.{AcknowledgesNamed, acknowledges_none, acknowledges_both, acknowledges_same}
use Rattle.sctp_outbound.proofs.AckedBefore.{comes_to, passed_named, passed_trips}
use Rattle.sctp_outbound.proofs.GapAcks.{passed}
use Rattle.sctp_outbound.proofs.GapAcks.{passed_none, passed_more, passed_all, trips_done, trips_step}
use Rattle.sctp_outbound.proofs.sender.Sender.acknowledge_block.Goals as goal

pub pieces-init : goal.pieces-init
pieces-init c =
    let walk = c.skip_acknowledged-index.ensures in (
      passed_named c.saturating_sub-first.result c.min-count.result c.saturating_sub-first.result
          c.skip_acknowledged-index.result walk (omega arith)
          (acknowledges_none (passed c.saturating_sub-first.result c.min-count.result c.saturating_sub-first.result)
          c.args.self.now c.args.streams.now
          (λ j l. passed_none c.saturating_sub-first.result c.min-count.result j)),
      ap (λ z. timed c.args.next_tsn z (c.args.self.now.min_tsn2measure_rtt, c.args.rto.now))
          (sym (passed_trips c.args.now c.min-count.result c.saturating_sub-first.result
          c.skip_acknowledged-index.result c.args.self.now.queue.in_flight walk)),
      gathers_nothing c.args.streams.now c.args.fallen.now,
      (comes_to c.min-count.result c.saturating_sub-first.result c.skip_acknowledged-index.result
          c.args.self.now.queue.in_flight walk).0,
    )

pub pieces-preserved : goal.pieces-preserved
pieces-preserved c =
    let walk = c.skip_acknowledged-index-in-pieces.ensures in
    let to =
    (comes_to c.min-count.result (c.pieces.index + 1) c.skip_acknowledged-index-in-pieces.result
    c.acknowledge_at-other.new.self.queue.in_flight walk).0 in
    let from = c.pieces.invariant.3 in (
      passed_named c.saturating_sub-first.result c.min-count.result (c.pieces.index + 1)
          c.skip_acknowledged-index-in-pieces.result walk (omega (arith, from))
          (subst (AcknowledgesNamed (passed c.saturating_sub-first.result c.min-count.result (c.pieces.index + 1))
          c.args.self.now c.acknowledge_at-other.new.self c.args.streams.now c.acknowledge_at-other.new.streams)
          (sym c.greatest_of-newest.ensures)
          (acknowledges_both (passed c.saturating_sub-first.result c.min-count.result (c.pieces.index + 1))
          c.pieces.invariant.0
          (record {
            pieces = c.acknowledge_at-other.ensures.pieces;
            released = c.acknowledge_at-other.ensures.released;
            newest = c.acknowledge_at-other.ensures.newest;
          })
          (λ j l. passed_more c.saturating_sub-first.result c.min-count.result c.pieces.index j from
          c.pieces-test.true))),
      ap (λ z. timed c.args.next_tsn z
          (c.acknowledge_at-other.new.self.min_tsn2measure_rtt, c.acknowledge_at-other.new.rto))
          (sym (passed_trips c.args.now c.min-count.result (c.pieces.index + 1)
          c.skip_acknowledged-index-in-pieces.result c.acknowledge_at-other.new.self.queue.in_flight walk))
          ∙ ap (λ z. timed c.args.next_tsn (trips_from c.args.now (c.pieces.index + 1)
          (c.min-count.result - (c.pieces.index + 1)) z) (
            c.acknowledge_at-other.new.self.min_tsn2measure_rtt,
            c.acknowledge_at-other.new.rto,
          )) (ap (λ (z : Sender). z.queue.in_flight) c.acknowledge_at-other.ensures.pieces)
          ∙ ap (λ z. timed c.args.next_tsn (trips_from c.args.now (c.pieces.index + 1)
          (c.min-count.result - (c.pieces.index + 1))
          (acked_among (λ j. eqb j c.pieces.index) 0 c.pieces.self.queue.in_flight)) z)
          c.acknowledge_at-other.ensures.measures
          ∙ sym (trips_step c.args.next_tsn c.args.now c.pieces.index c.min-count.result
          c.pieces.self.queue.in_flight (c.pieces.self.min_tsn2measure_rtt, c.pieces.rto)
          c.pieces-test.true)
          ∙ c.pieces.invariant.1,
      gathers_both _ _ _ _ _ _ c.pieces.invariant.2 c.acknowledge_at-other.ensures.gathers,
      omega (arith, from, to),
    )

pub returns-clause-pieces : goal.returns-clause-pieces
returns-clause-pieces c =
    (acknowledges_same (is_named_by c.args.block.now) c.pieces.invariant.0
    (λ j l. passed_all c.saturating_sub-first.result c.min-count.result c.args.block.now c.pieces.index _ j
    (omega arith) (omega arith) c.pieces-test.false l)).pieces

pub returns-clause-measures : goal.returns-clause-measures
returns-clause-measures c =
    sym (trips_done c.args.next_tsn c.args.now c.pieces.index c.min-count.result
    c.pieces.self.queue.in_flight (c.pieces.self.min_tsn2measure_rtt, c.pieces.rto)
    (omega (arith, c.pieces-test.false)))
    ∙ c.pieces.invariant.1
    ∙ search rules

pub returns-clause-released : goal.returns-clause-released
returns-clause-released c =
    (acknowledges_same (is_named_by c.args.block.now) c.pieces.invariant.0
    (λ j l. passed_all c.saturating_sub-first.result c.min-count.result c.args.block.now c.pieces.index _ j
    (omega arith) (omega arith) c.pieces-test.false l)).released

pub returns-clause-newest : goal.returns-clause-newest
returns-clause-newest c =
    (acknowledges_same (is_named_by c.args.block.now) c.pieces.invariant.0
    (λ j l. passed_all c.saturating_sub-first.result c.min-count.result c.args.block.now c.pieces.index _ j
    (omega arith) (omega arith) c.pieces-test.false l)).newest
