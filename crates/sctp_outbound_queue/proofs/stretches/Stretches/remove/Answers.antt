use Rattle.std.proofs.Common.{arith, remove, slice_index_or}
use Rattle.std.proofs.lemmas.List.Edits.{length-remove}
use Rattle.sctp_outbound_queue.proofs.StretchLists.{moved_up}
use Rattle.sctp_outbound_queue.proofs.stretches.Stretches.remove.Goals as goal

pub loop-at-preserved : goal.loop-at-preserved
loop-at-preserved c =
    let len = length-remove c.args.self.now c.args.place c.requires in
    record {
      below = omega arith;
      moved = moved_up c.loop-at.at (remove c.args.self.now c.args.place) c.loop-at.self c.swap_up.new.self
          (slice_index_or c.args.self.now c.args.place record { len = 0; next = 0 }) record { len = 0; next = 0 }
          (omega (arith, len)) c.loop-at.invariant.moved (c.swap_up.ensures record { len = 0; next = 0 });
    }
