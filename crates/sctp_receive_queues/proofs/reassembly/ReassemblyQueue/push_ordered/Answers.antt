use Rattle.std.proofs.Common.{◌≡◌, ◌+◌, ◌∙◌, ap, sym, not, eqb, ◌||◌, Option, length, slice_get, arith, rules}
use Rattle.sctp_receive_queues.specs.Reassembly.{Group, is_due, with_ordered}
use Rattle.sctp_receive_queues.proofs.BytesWaiting.{ordered_bytes}
use Rattle.sctp_receive_queues.proofs.reassembly.ReassemblyQueue.push_ordered.Goals as goal

pub invariant_of-self-then-is_first_other : goal.invariant_of-self-then-is_first_other
invariant_of-self-then-is_first_other c =
    let e : c.put.new.self ≡ with_ordered c.self.inside.ordered c.args.piece = search rules in
    let w : c.in-Some.waiting ≡ c.self.inside.waiting + length c.args.piece.user_data = search rules in (
      rw e (omega (arith, w, ordered_bytes c.self.inside.ordered c.args.piece, c.self.invariant.0)),
      c.is_any_due-self-inside.ensures,
    )

pub invariant_of-self-else-is_first_other : goal.invariant_of-self-else-is_first_other
invariant_of-self-else-is_first_other c =
    let e : c.put.new.self ≡ with_ordered c.self.inside.ordered c.args.piece = search rules in
    let w : c.in-Some.waiting ≡ c.self.inside.waiting + length c.args.piece.user_data = search rules in
    let first : slice_get c.put.new.self 0 ≡ slice_get c.self.inside.ordered 0 = search rules in (
      rw e (omega (arith, w, ordered_bytes c.self.inside.ordered c.args.piece, c.self.invariant.0)),
      c.self.invariant.1 ∙ ap
          (λ (o : Option Group). not (eqb (length c.self.inside.complete.items) 0) || is_due c.self.inside.next_ssn o)
          (sym first),
    )
