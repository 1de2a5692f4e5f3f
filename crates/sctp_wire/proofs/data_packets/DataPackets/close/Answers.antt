use Rattle.std.proofs.Common.{◌≡◌, ◌∙◌, ap, [], length, refl, arith}
use Rattle.std.proofs.lemmas.Bool.Decides.{nat_tests}
use Rattle.sctp_wire.specs.DataPackets.{data_in, summed}
use Rattle.sctp_wire.proofs.DataWritten.{closes, nothing_in, nothing_yet}
use Rattle.sctp_wire.proofs.data_packets.DataPackets.close.Goals as goal

pub invariant_of-self : goal.invariant_of-self
invariant_of-self c = (
  nothing_yet c.self.inside.header c.replace-current.new.dest.items
      (ap (λ v. v.items) c.replace-current.ensures.after ∙ c.new.ensures.items),
  c.self.invariant.1,
)

pub invariant_of-self-in_err-push : goal.invariant_of-self-in_err-push
invariant_of-self-in_err-push c = (
  nothing_yet c.self.inside.header c.replace-current.new.dest.items
      (ap (λ v. v.items) c.replace-current.ensures.after ∙ c.new.ensures.items),
  rw c.in_err-push.ensures.items c.self.invariant.1,
)

pub invariant_of-self-2 : goal.invariant_of-self-2
invariant_of-self-2 c =
    let put : c.in_ok-datagram.field-0 ≡ summed c.self.inside.current.items =
    c.in_ok-datagram.ensures ∙ ap (λ v. summed v.items) c.replace-current.ensures.value in
    let some : c.self.inside.current.items ≡ [] → ⊥ = λ e.
    let none : length c.self.inside.current.items ≡ 0 = ap length e in
    grind (arith, nat_tests, none, c.is_empty.ensures, c.if-is_empty.false, c.self.inside.current.ok) in (
      nothing_yet c.self.inside.header c.replace-current.new.dest.items
          (ap (λ v. v.items) c.replace-current.ensures.after ∙ c.new.ensures.items),
      rw c.in_ok-push.ensures.items
          (closes c.self.inside.header c.self.inside.current.items c.in_ok-datagram.field-0 c.self.inside.done.items
          c.self.invariant.0 some put c.self.invariant.1).0,
    )

pub returns-clause-exact : goal.returns-clause-exact
returns-clause-exact c =
    let put : c.in_ok-datagram.field-0 ≡ summed c.self.inside.current.items =
    c.in_ok-datagram.ensures ∙ ap (λ v. summed v.items) c.replace-current.ensures.value in
    let some : c.self.inside.current.items ≡ [] → ⊥ = λ e.
    let none : length c.self.inside.current.items ≡ 0 = ap length e in
    grind (arith, nat_tests, none, c.is_empty.ensures, c.if-is_empty.false, c.self.inside.current.ok) in
    let all =
    closes c.self.inside.header c.self.inside.current.items c.in_ok-datagram.field-0 c.self.inside.done.items
    c.self.invariant.0 some put c.self.invariant.1 in
    let gone : data_in c.replace-current.new.dest.items ≡ [] =
    ap data_in (ap (λ v. v.items) c.replace-current.ensures.after ∙ c.new.ensures.items) ∙ nothing_in in
    rw (← c.self.view_is, c.in_ok-push.ensures.items, all.1, gone) refl
