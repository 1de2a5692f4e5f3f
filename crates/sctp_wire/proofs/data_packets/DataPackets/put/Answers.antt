use Rattle.std.proofs.Common.{◌∙◌, ap, refl}
use Rattle.sctp_wire.proofs.DataWritten.{more_on, nothing_yet}
use Rattle.sctp_wire.proofs.data_packets.DataPackets.put.Goals as goal

pub invariant_of-self : goal.invariant_of-self
invariant_of-self c = (
  nothing_yet c.self.inside.header c.replace-written.new.dest.items
      (ap (λ v. v.items) c.replace-written.ensures.after ∙ c.new.ensures.items),
  c.self.invariant.1,
)

pub invariant_of-self-in_err-put_data : goal.invariant_of-self-in_err-put_data
invariant_of-self-in_err-put_data c = (
  nothing_yet c.self.inside.header c.replace-written.new.dest.items
      (ap (λ v. v.items) c.replace-written.ensures.after ∙ c.new.ensures.items),
  c.self.invariant.1,
)

pub invariant_of-self-2 : goal.invariant_of-self-2
invariant_of-self-2 c =
    let more =
    more_on c.self.inside.header c.args.piece.now c.in_ok-put_data.ensures.range c.requires c.self.invariant.0
    (ap (λ v. v.items) c.replace-written.ensures.value) c.in_ok-current.ensures.range c.in_ok-current.ensures.bytes
    c.in_ok-put_data.ensures.bytes in
    (more.1, c.self.invariant.1)

pub returns : goal.returns
returns c =
    let more =
    more_on c.self.inside.header c.args.piece.now c.in_ok-put_data.ensures.range c.requires c.self.invariant.0
    (ap (λ v. v.items) c.replace-written.ensures.value) c.in_ok-current.ensures.range c.in_ok-current.ensures.bytes
    c.in_ok-put_data.ensures.bytes in
    rw (← c.self.view_is, more.0) refl
