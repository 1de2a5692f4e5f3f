use Rattle.std.proofs.Common.{◌≡◌, ◌-◌, ap, ◌∙◌, sym, None, false, if◌then◌else◌, arith, rules, Bool}
use Rattle.sctp_streams.specs.Stream.{StreamView, gives_messages}
use Rattle.sctp_receive_queues.specs.Reassembly.{empty_reassembly}
use Rattle.sctp_streams.proofs.ReadableStreams.{added_count, replaced_count}
use Rattle.sctp_streams.proofs.WaitingBytes.{added_bytes, replaced_bytes}
use Rattle.sctp_streams.proofs.streams.Streams.make.Goals as goal
use Rattle.sctp_streams.proofs.streams.Streams.make.Goals.{in-Some, in_default}

empty : (c : goal.After-self-2-1) → c.new-stream.result.reassembly ≡ empty_reassembly
empty c = ap (λ (t : StreamView). t.reassembly) c.new-stream.ensures

silent : (c : goal.After-self-2-1) → gives_messages c.new-stream.result ≡ false
silent c = ap gives_messages c.new-stream.ensures

pub invariant_of-self-2 : goal.invariant_of-self-2
invariant_of-self-2 c = elim c.match-branch-2.branch [
  | in-Some w ↦ (
      let there = sym c.in_ok-replaced.ensures.old ∙ w.in-Some.is in
      let sum = replaced_bytes c.self.inside.by_id c.insert.new.self c.args.id c.new-stream.result
      w.in-Some.replaced c.insert.ensures.was_ordered c.in_ok-replaced.ensures.entries (empty c) there in
      let count = replaced_count c.self.inside.by_id c.insert.new.self c.args.id c.new-stream.result
      w.in-Some.replaced c.insert.ensures.was_ordered c.in_ok-replaced.ensures.entries (silent c) there in
      let bytes = w.waiting_bytes.ensures in
      let less : w.saturating_sub-self-inside.result ≡ c.self.inside.waiting - w.waiting_bytes.result = search rules in
      let gave = w.one_if-gave.ensures ∙ ap (λ (g : Bool). if g then 1 else 0) w.gives_messages.ensures in
      rw w.self-inside-is (omega (arith, sum, bytes, less, c.self.invariant.0, count, gave, c.self.invariant.1)))
  | in_default w ↦ (
      let none : c.in_ok-replaced.field-0 ≡ None = search rules in
      let there = sym c.in_ok-replaced.ensures.old ∙ none in
      let sum = added_bytes c.self.inside.by_id c.insert.new.self c.args.id c.new-stream.result
      c.insert.ensures.was_ordered c.in_ok-replaced.ensures.entries (empty c) there in
      let count = added_count c.self.inside.by_id c.insert.new.self c.args.id c.new-stream.result
      c.insert.ensures.was_ordered c.in_ok-replaced.ensures.entries (silent c) there in
      rw w.self-inside-is (omega (arith, sum, c.self.invariant.0, count, c.self.invariant.1)))
]
