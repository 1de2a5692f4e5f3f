use Rattle.std.proofs.Common.{◌≡◌, ◌+◌, length, refl, arith, rules}
use Rattle.sctp_receive_queues.specs.Reassembly.{unordered_put}
use Rattle.sctp_receive_queues.proofs.BytesWaiting.{unordered_bytes}
use Rattle.sctp_receive_queues.proofs.reassembly.ReassemblyQueue.push_unordered.Goals as goal

pub invariant_of-self-2 : goal.invariant_of-self-2
invariant_of-self-2 c =
    let e : unordered_put c.self.inside.unordered.items c.self.inside.complete.items c.args.piece
    ≡ (c.put.new.runs.items, c.put.new.complete.items) = c.in_ok-put.ensures.put in
    let w : c.in-Some.waiting ≡ c.self.inside.waiting + length c.args.piece.user_data = search rules in
    let bytes = unordered_bytes c.self.inside.unordered.items c.self.inside.complete.items c.args.piece in
    (omega (arith, w, rw e at bytes, c.self.invariant.0), c.is_any_due-self-inside.ensures)

pub returns-clause-pushed : goal.returns-clause-pushed
returns-clause-pushed c =
    let e : unordered_put c.self.inside.unordered.items c.self.inside.complete.items c.args.piece
    ≡ (c.put.new.runs.items, c.put.new.complete.items) = c.in_ok-put.ensures.put in
    rw (← c.self.view_is, e) refl
