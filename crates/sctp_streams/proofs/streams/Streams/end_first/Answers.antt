use Rattle.std.proofs.Common.{◌≡◌, ◌-◌, ap, ◌∙◌, if◌then◌else◌, arith, rules, Bool, Some, map, option_to_list, take}
use Rattle.sctp_streams.proofs.StreamChanges.{first_bytes, first_count}
use Rattle.sctp_streams.proofs.streams.Streams.end_first.Goals as goal

pub invariant_of-self-2 : goal.invariant_of-self-2
invariant_of-self-2 c =
    let old = c.self.inside.by_id in
    let new = c.pop_first.new.self in
    let first : option_to_list (Some c.in_ok-stream.stream) ≡ map (λ e. e.1) (take 1 old) = c.in_ok-stream.ensures.first in
    let sum = first_bytes old new c.in_ok-stream.stream first c.pop_first.ensures.entries in
    let count = first_count old new c.in_ok-stream.stream first c.pop_first.ensures.entries in
    let bytes = c.waiting_bytes.ensures in
    let gave = c.one_if-gave.ensures ∙ ap (λ (g : Bool). if g then 1 else 0) c.gives_messages.ensures in
    let less : c.saturating_sub-self-inside.result ≡ c.self.inside.waiting - c.waiting_bytes.result = search rules in
    let fewer : c.saturating_sub-self-inside-2.result ≡ c.self.inside.readable - c.one_if-gave.result =
    search rules in (
      omega (arith, sum, bytes, less, c.self.invariant.0),
      omega (arith, count, gave, fewer, c.self.invariant.1),
    )
