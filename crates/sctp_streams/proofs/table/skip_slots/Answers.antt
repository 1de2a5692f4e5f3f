use Rattle.std.proofs.Common.{ap, sym, ◌∙◌}
use Rattle.std.specs.Option.{option_map}
use Rattle.sctp_streams.specs.Stream.{stream_passed}
use Rattle.sctp_streams.specs.Table.{stream_of}
use Rattle.sctp_streams.specs.declared.table.Slot.{Slot}
use Rattle.sctp_streams.proofs.TableWalks.{skipped_more}
use Rattle.sctp_streams.proofs.table.skip_slots.Goals as goal

pub loop-slot-preserved : goal.loop-slot-preserved
loop-slot-preserved c =
    skipped_more c.args.tsn c.loop-slot.slot-index c.args.slots.now c.loop-slot.slots c.slot-item.result
    c.skip_unordered.new.self c.loop-slot.auto.slots c.loop-slot-test.true c.loop-slot.invariant c.slot-item.is
    (c.skip_unordered.ensures
    ∙ ap (λ (x : Slot). option_map (stream_passed c.args.tsn) (stream_of x)) (sym c.slot-item.is))
