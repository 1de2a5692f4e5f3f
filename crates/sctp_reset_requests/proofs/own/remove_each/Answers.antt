use Rattle.std.proofs.Common.{◌∙◌, ◌+◌, ap, sym, drop, drop_of_length-le}
use Rattle.sctp_reset_requests.specs.Ids.{without}
use Rattle.sctp_reset_requests.proofs.Sets.{without_next, without_none}
use Rattle.sctp_reset_requests.proofs.Walks.{next_of}
use Rattle.sctp_reset_requests.proofs.own.remove_each.Goals as goal

pub loop-id-preserved : goal.loop-id-preserved
loop-id-preserved c =
    let next = next_of c.args.ids.now c.loop-id.id-index 0 c.loop-id-test.true in
    record {
      left =
          rw c.remove.ensures.keys
          (without_next _ (drop (c.loop-id.id-index + 1) c.args.ids.now) c.loop-id.waiting.keys
          c.loop-id.invariant.ascending
          ∙ ap (without c.loop-id.waiting.keys) (sym next) ∙ c.loop-id.invariant.left);
      ascending = c.remove.ensures.ordered;
    }

pub returns : goal.returns
returns c =
    sym (without_none c.loop-id.waiting.keys)
    ∙ ap (without c.loop-id.waiting.keys)
    (sym (drop_of_length-le c.args.ids.now c.loop-id-test.false))
    ∙ c.loop-id.invariant.left
