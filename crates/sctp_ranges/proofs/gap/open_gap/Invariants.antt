use Rattle.std.proofs.Common.{◌≡◌, ◌≤◌, length, take, vec_capacity}
use Rattle.sctp_ranges.proofs.gap.open_gap.Given as goal

abbrev pub invariant-loop-index : goal.invariant-loop-index
invariant-loop-index l = record {
  front : take (length l.fn.runs.items) l.runs.items ≡ l.fn.runs.items;
  len : length l.runs.items ≡ l.index;
  end : l.index-end ≤ vec_capacity l.fn.runs;
  past : length l.fn.runs.items ≤ l.index;
  capacity : vec_capacity l.runs ≡ vec_capacity l.fn.runs;
}
