use Rattle.std.proofs.Common.{◌≡◌, ◌+◌, ◌-◌, ◌||◌, ◌∙◌, ap, arith, slice_get, sym}
use Rattle.sctp_streams.proofs.LowMarks.{gathers_both, gathers_nothing}
use Rattle.sctp_outbound.specs.Progress.{any_new_up_to, is_new_piece}
use Rattle.sctp_outbound.specs.Sender.{acknowledged, after_first}
use Rattle.sctp_parts.specs.Estimate.{Estimate}
use Rattle.sctp_streams.specs.Streams.{StreamMap}
use Rattle.sctp_outbound.specs.declared.sender.Sender.{Sender}
use Rattle.sctp_outbound.proofs.NewPieces.{new_more}
use Rattle.sctp_outbound.proofs.SenderSteps.{acknowledge_more}
use Rattle.sctp_outbound.proofs.sender.Sender.acknowledge.Goals as goal

pub loop-done-init : goal.loop-done-init
loop-done-init c = (
  let all : c.args.count - 0 ≡ c.args.count = omega arith in
      ap (λ n. acknowledged n c.args.now (c.args.self.now, c.args.rto.now, c.args.streams.now)) all,
  let all : c.args.count - 0 ≡ c.args.count = omega arith in
      ap (λ n. any_new_up_to n c.args.self.now.queue.in_flight) all,
  gathers_nothing c.args.streams.now c.args.fallen.now,
)

pub loop-done-preserved : goal.loop-done-preserved
unfolding after_first
loop-done-preserved c =
    let more =
    acknowledge_more c.args.count c.loop-done.done c.args.now (c.loop-done.self, c.loop-done.rto, c.loop-done.streams)
    (omega arith) in (
      cc,
      ap (λ z. (c.loop-done.any_new || z) || any_new_up_to (c.args.count - (c.loop-done.done + 1))
          c.acknowledge_first-is_new.new.self.queue.in_flight) c.acknowledge_first-is_new.ensures.new
          ∙ ap (λ (z : Sender × Estimate × StreamMap).
          (c.loop-done.any_new || is_new_piece (slice_get c.loop-done.self.queue.in_flight 0))
          || any_new_up_to (c.args.count - (c.loop-done.done + 1)) z.0.queue.in_flight)
          (sym c.acknowledge_first-is_new.ensures.exact)
          ∙ new_more c.loop-done.any_new c.args.count c.loop-done.done c.loop-done.self c.loop-done-test.true
          ∙ c.loop-done.invariant.1,
      gathers_both _ _ _ _ _ _ c.loop-done.invariant.2 c.acknowledge_first-is_new.ensures.gathers,
    )
