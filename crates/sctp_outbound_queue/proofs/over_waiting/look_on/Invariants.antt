use Rattle.std.proofs.Common.{◌≡◌, ◌≤◌, ℕ, length, take}
use Rattle.std.specs.List.{position_or_len}
use Rattle.sctp_outbound_queue.specs.Clocks.{AllFrom, Cover}
use Rattle.sctp_outbound_queue.specs.Message.{is_expired_unsent}
use Rattle.sctp_outbound_queue.specs.Stretches.{total}
use Rattle.sctp_outbound_queue.proofs.over_waiting.look_on.Given as goal

abbrev pub invariant-loop-place : goal.invariant-loop-place
invariant-loop-place l = record {
  end : l.end ≡ total (take l.place l.fn.stretches);
  passed : l.end ≤ l.look.index;
  index : l.look.index ≤ position_or_len (is_expired_unsent l.now) l.messages;
  known : AllFrom l.look.next (take l.look.index l.messages);
  cover : Cover l.stretches l.messages;
  len : length l.stretches ≡ length l.fn.stretches;
  same : (n : ℕ) → total (take n l.stretches) ≡ total (take n l.fn.stretches);
}
