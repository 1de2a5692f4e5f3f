use Rattle.std.proofs.Common.{◌-◌, ◌≡◌, ◌≤◌, insert, remove, slice_index_or}
use Rattle.sctp_outbound_queue.proofs.stretches.Stretches.remove.Given as goal

abbrev pub invariant-loop-at : goal.invariant-loop-at
invariant-loop-at l = record {
  below : l.at ≤ l.last;
  moved : l.self
      ≡ insert (remove l.fn.self l.place) l.at (slice_index_or l.fn.self l.place record { len = 0; next = 0 });
}

abbrev pub decreases-loop-at : goal.decreases-loop-at
decreases-loop-at l = l.last - l.at
