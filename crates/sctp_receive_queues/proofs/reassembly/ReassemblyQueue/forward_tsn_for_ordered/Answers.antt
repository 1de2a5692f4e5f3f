use Rattle.std.proofs.Common.{◌≡◌, ◌+◌, ◌<◌, ◌^◌, ◌∙◌, filter, arith, rules}
use Rattle.sctp_receive_queues.specs.Reassembly.{bytes_in_groups, bytes_in_runs, bytes_in_messages, stays}
use Rattle.sctp_receive_queues.proofs.BytesWaiting.{stays_bytes, held_exactly}
use Rattle.sctp_receive_queues.proofs.reassembly.ReassemblyQueue.forward_tsn_for_ordered.Goals as goal

pub invariant_of-self : goal.invariant_of-self
invariant_of-self c =
    let q = c.self.inside in
    let e : c.skip.new.self ≡ filter (stays c.args.ssn) q.ordered = search rules in
    let fewer = stays_bytes c.args.ssn q.ordered in
    let small : bytes_in_groups c.skip.new.self + bytes_in_runs q.unordered.items
    + bytes_in_messages q.complete.items < 2 ^ 64 = rw e (omega (arith, fewer, c.self.invariant.0)) in (
      c.bytes_held-self-inside.ensures ∙ held_exactly c.skip.new.self q.unordered.items q.complete.items small,
      c.is_any_due-self-inside.ensures,
    )
