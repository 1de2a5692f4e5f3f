use Rattle.std.proofs.Common.{◌≡◌, ◌-◌, ap, ◌∙◌, sym, if◌then◌else◌, arith, rules, Bool, false, is_some}
use Rattle.std.specs.BTreeMap.{is_at}
use Rattle.std.specs.Map.{lookup}
use Rattle.std.specs.Ordering.{nat_cmp}
use Rattle.sctp_streams.proofs.TableIsMap.{none_removed}
use Rattle.sctp_streams.proofs.StreamChanges.{ended_bytes, ended_count}
use Rattle.sctp_streams.proofs.streams.Streams.end.Goals as goal

pub invariant_of-self : goal.invariant_of-self
invariant_of-self c =
    let none : is_some (lookup (is_at (nat_cmp c.args.id)) c.self.inside.by_id) ≡ false =
    ap is_some (sym c.remove.ensures.value ∙ c.in_err-ended.was) in
    let same : c.remove.new.self ≡ c.self.inside.by_id =
    c.remove.ensures.entries ∙ sym (none_removed (is_at (nat_cmp c.args.id)) c.self.inside.by_id none) in
    rw same c.self.invariant

pub invariant_of-self-2 : goal.invariant_of-self-2
invariant_of-self-2 c =
    let there = sym c.remove.ensures.value ∙ c.in_ok-ended.was in
    let old = c.self.inside.by_id in
    let new = c.remove.new.self in
    let sum = ended_bytes c.args.id old new c.in_ok-ended.ended there c.remove.ensures.entries in
    let count = ended_count c.args.id old new c.in_ok-ended.ended there c.remove.ensures.entries in
    let bytes = c.waiting_bytes.ensures in
    let gave = c.one_if-gave.ensures ∙ ap (λ (g : Bool). if g then 1 else 0) c.gives_messages.ensures in
    let less : c.saturating_sub-self-inside.result ≡ c.self.inside.waiting - c.waiting_bytes.result = search rules in
    let fewer : c.saturating_sub-self-inside-2.result ≡ c.self.inside.readable - c.one_if-gave.result =
    search rules in (
      omega (arith, sum, bytes, less, c.self.invariant.0),
      omega (arith, count, gave, fewer, c.self.invariant.1),
    )
