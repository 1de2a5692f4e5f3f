use Rattle.std.proofs.Common.{◌≡◌, drop, nat_cmp}
use Rattle.std.specs.List.Sorted.{IsStrictlySortedBy}
use Rattle.sctp_reset_requests.specs.Ids.{without}
use Rattle.sctp_reset_requests.proofs.own.remove_each.Given as goal

abbrev pub invariant-loop-id : goal.invariant-loop-id
invariant-loop-id l = record {
  left : without l.waiting.keys (drop l.id-index l.ids) ≡ without l.fn.waiting.keys l.ids;
  ascending : IsStrictlySortedBy nat_cmp l.waiting.keys;
}
