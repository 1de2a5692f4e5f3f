use Rattle.std.proofs.Common.{◌∙◌, ap, subst}
use Rattle.std.specs.List.{AllByRecursion}
use Rattle.sctp_wire.specs.DataPackets.{DataWritten, IsReadBack, datagrams_of}
use Rattle.sctp_wire.proofs.DataWritten.{are_datagrams, are_read_back}
use Rattle.sctp_wire.proofs.data_packets.DataPackets.finish.Goals as goal

pub returns-clause-packets : goal.returns-clause-packets
returns-clause-packets c =
    let same = c.self.view_is ∙ c.in_ok-close.ensures.exact in
    ap (λ v. v.items) c.replace.ensures.value
    ∙ are_datagrams c.self.inside.header c.self.inside.done.items c.self.invariant.1
    ∙ ap (λ (w : DataWritten). datagrams_of w.header w.done) same

pub returns-clause-again : goal.returns-clause-again
returns-clause-again c =
    let same = c.self.view_is ∙ c.in_ok-close.ensures.exact in
    subst (λ (w : DataWritten). AllByRecursion (IsReadBack w.header) w.done) same
    (are_read_back c.self.inside.header c.self.inside.done.items c.self.invariant.1)
