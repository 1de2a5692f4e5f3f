use Rattle.std.proofs.Common.{◌≡◌, ℕ, ◌+◌, ◌-◌, ◌^◌, ◌<◌, ◌≤◌, length}
use Rattle.std.specs.List.{slice_get}
use Rattle.sctp_ranges.specs.Runs.{ended_before}
use Rattle.sctp_ranges.proofs.row.Row.halve.Given as goal

abbrev pub invariant-loop-low : goal.invariant-loop-low
invariant-loop-low l = record {
  high : l.high ≤ length l.self.list;
  above : l.above ≡ slice_get l.self.list l.high;
  from : l.low ≤ ended_before l.offset l.self.list;
  to : ended_before l.offset l.self.list ≤ l.high;
  spent : (k : ℕ) → l.fn.high - l.fn.low < 2 ^ k
      → (l.high - l.low < 2 ^ (l.fn.looks + k - l.looks)) × (l.looks ≤ l.fn.looks + k);
}

abbrev pub decreases-loop-low : goal.decreases-loop-low
decreases-loop-low l = l.high - l.low
