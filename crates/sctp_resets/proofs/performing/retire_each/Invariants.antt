use Rattle.std.proofs.Common.{◌≡◌, fold}
use Rattle.std.specs.Vec.Iter.{into_iter_items}
use Rattle.sctp_resets.specs.Later.{AreRight}
use Rattle.sctp_resets.specs.Performing.{performing, retired_each, retired_next}
use Rattle.sctp_resets.proofs.performing.retire_each.Given as goal

abbrev pub invariant-loop-id : goal.invariant-loop-id
invariant-loop-id l = record {
  ends : fold (retired_next l.request.last_tsn)
      (performing l.generations l.debts l.streams l.events, l.retired.items) (into_iter_items l.id-iterator)
      ≡ retired_each l.request (performing l.fn.generations l.fn.debts l.fn.streams l.fn.events);
  right : AreRight l.generations l.request.last_tsn l.later;
}
