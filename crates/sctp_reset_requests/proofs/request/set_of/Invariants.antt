use Rattle.std.proofs.Common.{◌≡◌, drop, fold, nat_cmp}
use Rattle.std.specs.BTreeSet.{insert_key}
use Rattle.sctp_reset_requests.specs.Ids.{set_of}
use Rattle.sctp_reset_requests.proofs.request.set_of.Given as goal

abbrev pub invariant-loop-id : goal.invariant-loop-id
invariant-loop-id l = fold (insert_key nat_cmp) l.set.keys (drop l.id-index l.ids) ≡ set_of l.ids
