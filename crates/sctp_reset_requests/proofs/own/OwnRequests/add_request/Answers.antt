use Rattle.std.proofs.Common.{◌∙◌, ◌+◌, ap, refl, nat_cmp, List, ℕ}
use Rattle.std.specs.BTreeMap.{is_at}
use Rattle.std.specs.List.{count_by}
use Rattle.sctp_reset_requests.specs.Named.{count_at}
use Rattle.sctp_reset_requests.proofs.Counted.{kept_more}
use Rattle.sctp_reset_requests.proofs.own.OwnRequests.add_request.Goals as goal

pub invariant_of-self-2 : goal.invariant_of-self-2
invariant_of-self-2 c =
    rw (c.push_back_reserved.ensures.items, c.in_ok-reserve.ensures.items)
    (kept_more c.self.inside.named c.add.new.self c.self.inside.queued.items c.self.inside.active
    c.self.inside.next_number c.self.invariant _ refl
    (λ id.
    c.in_ok-add.ensures.counts id
    ∙ ap (λ (xs : List ℕ). count_at c.self.inside.named id + count_by (is_at (nat_cmp id)) xs) c.as_slice.ensures)
    c.in_ok-add.ensures.all)
