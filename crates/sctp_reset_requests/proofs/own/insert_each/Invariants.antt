use Rattle.std.proofs.Common.{◌≡◌, drop, fold, nat_cmp}
use Rattle.std.specs.BTreeSet.{insert_key}
use Rattle.sctp_reset_requests.proofs.own.insert_each.Given as goal

abbrev pub invariant-loop-id : goal.invariant-loop-id
invariant-loop-id l =
    fold (insert_key nat_cmp) l.ahead.keys (drop l.id-index l.ids) ≡ fold (insert_key nat_cmp) l.fn.ahead.keys l.ids
