use Rattle.std.proofs.Common.{◌≡◌, ◌+◌, ◌<◌, ◌^◌, ◌∙◌, arith, rules}
use Rattle.sctp_receive_queues.specs.Reassembly.{bytes_in_groups, bytes_in_runs, bytes_in_messages, trimmed}
use Rattle.sctp_receive_queues.proofs.BytesWaiting.{trimmed_bytes, held_exactly}
use Rattle.sctp_receive_queues.proofs.reassembly.ReassemblyQueue.forward_tsn_for_unordered.Goals as goal

pub invariant_of-self : goal.invariant_of-self
invariant_of-self c =
    let q = c.self.inside in
    let e : c.skip.new.runs.items ≡ trimmed c.args.tsn q.unordered.items = search rules in
    let fewer = trimmed_bytes c.args.tsn q.unordered.items in
    let small : bytes_in_groups q.ordered + bytes_in_runs c.skip.new.runs.items
    + bytes_in_messages q.complete.items < 2 ^ 64 = rw e (omega (arith, fewer, c.self.invariant.0)) in (
      c.bytes_held-self-inside.ensures ∙ held_exactly q.ordered c.skip.new.runs.items q.complete.items small,
      c.self.invariant.1,
    )
