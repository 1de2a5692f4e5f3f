use Rattle.std.proofs.Common.{◌+◌, ◌∙◌, ap, arith, drop, get_or, subst, sym, take, refl}
use Rattle.sctp_outbound.specs.GapAcks.{acked_among, is_named_by, round_trips, timed}
use Rattle.sctp_outbound.specs.declared.sender.Sender.{Sender}
use Rattle.sctp_received.specs.Received.{is_named}
use Rattle.sctp_streams.proofs.LowMarks.{gathers_both, gathers_nothing}
use Rattle.sctp_outbound.proofs.GapAcks.{AcknowledgesNamed, acknowledges_none, acknowledges_both, acknowledges_same}
use Rattle.sctp_outbound.proofs.GapAcks.{named_more, named_all}
use Rattle.sctp_outbound.proofs.GapAcks.{all_taken, blocks_done, blocks_step, no_block}
use Rattle.sctp_outbound.proofs.sender.Sender.acknowledge_blocks.Goals as goal

pub loop-block-init : goal.loop-block-init
loop-block-init c = (
  acknowledges_none (λ j. is_named (j + 1) (take 0 c.args.blocks.now)) c.args.self.now c.args.streams.now
      (λ j l. refl),
  refl,
  gathers_nothing c.args.streams.now c.args.fallen.now,
)

pub loop-block-preserved : goal.loop-block-preserved
loop-block-preserved c = (
  subst (AcknowledgesNamed (λ j. is_named (j + 1) (take (c.loop-block.block-index + 1) c.args.blocks.now))
      c.args.self.now c.acknowledge_block-other.new.self c.args.streams.now c.acknowledge_block-other.new.streams)
      (sym c.greatest_of-newest.ensures)
      (acknowledges_both (λ j. is_named (j + 1) (take (c.loop-block.block-index + 1) c.args.blocks.now))
      c.loop-block.invariant.0
      (record {
        pieces = c.acknowledge_block-other.ensures.pieces;
        released = c.acknowledge_block-other.ensures.released;
        newest = c.acknowledge_block-other.ensures.newest;
      })
      (λ j l. named_more c.args.blocks.now c.as_slice-block-items.result.now c.loop-block.block-index j
      c.as_slice-block-items.ensures c.loop-block-test.true)),
  ap (λ z. timed c.next_tsn-next_tsn.result
      (round_trips c.args.now (drop (c.loop-block.block-index + 1) c.args.blocks.now) z)
      (c.acknowledge_block-other.new.self.min_tsn2measure_rtt, c.acknowledge_block-other.new.rto))
      (ap (λ (z : Sender). z.queue.in_flight) c.acknowledge_block-other.ensures.pieces)
      ∙ ap (λ z. timed c.next_tsn-next_tsn.result (round_trips c.args.now
      (drop (c.loop-block.block-index + 1) c.args.blocks.now)
      (acked_among (is_named_by (get_or c.as_slice-block-items.result.now c.loop-block.block-index no_block)) 0
      c.loop-block.self.queue.in_flight)) z)
      c.acknowledge_block-other.ensures.measures
      ∙ sym (blocks_step c.next_tsn-next_tsn.result c.args.now c.loop-block.block-index c.args.blocks.now
      c.as_slice-block-items.result.now c.loop-block.self.queue.in_flight
      (c.loop-block.self.min_tsn2measure_rtt, c.loop-block.rto)
      c.as_slice-block-items.ensures c.loop-block-test.true)
      ∙ c.loop-block.invariant.1,
  gathers_both _ _ _ _ _ _ c.loop-block.invariant.2 c.acknowledge_block-other.ensures.gathers,
)

pub returns-clause-exact : goal.returns-clause-exact
returns-clause-exact c =
    let measures =
    sym (blocks_done c.next_tsn-next_tsn.result c.args.now c.loop-block.block-index c.args.blocks.now
    c.as_slice-block-items.result.now c.loop-block.self.queue.in_flight
    (c.loop-block.self.min_tsn2measure_rtt, c.loop-block.rto)
    c.as_slice-block-items.ensures (omega (arith, c.loop-block-test.false)))
    ∙ c.loop-block.invariant.1
    ∙ ap (λ n. timed n (round_trips c.args.now c.args.blocks.now c.args.self.now.queue.in_flight)
    (c.args.self.now.min_tsn2measure_rtt, c.args.rto.now)) c.next_tsn-next_tsn.ensures in
    all_taken c.args.now c.args.blocks.now c.args.rto.now c.loop-block.rto
    (acknowledges_same (λ j. is_named (j + 1) c.args.blocks.now) c.loop-block.invariant.0
    (λ j l. named_all c.args.blocks.now c.as_slice-block-items.result.now c.loop-block.block-index j
    c.as_slice-block-items.ensures c.loop-block-test.false))
    measures

pub returns-clause-newest : goal.returns-clause-newest
returns-clause-newest c =
    (acknowledges_same (λ j. is_named (j + 1) c.args.blocks.now) c.loop-block.invariant.0
    (λ j l. named_all c.args.blocks.now c.as_slice-block-items.result.now c.loop-block.block-index j
    c.as_slice-block-items.ensures c.loop-block-test.false)).newest
