use Rattle.std.proofs.Common.{◌≡◌, ◌+◌, ℕ, nat_cmp, take}
use Rattle.std.specs.BTreeMap.{is_at}
use Rattle.std.specs.List.{count_by}
use Rattle.sctp_reset_requests.specs.Named.{count_at}
use Rattle.sctp_reset_requests.proofs.named.NamedIds.add_each.Given as goal

abbrev pub invariant-loop-index : goal.invariant-loop-index
invariant-loop-index l = record {
  counts : (id : ℕ)
      → count_at l.self id ≡ count_at l.fn.self id + count_by (is_at (nat_cmp id)) (take l.index l.ids);
  same : l.self.all ≡ l.fn.self.all;
}
