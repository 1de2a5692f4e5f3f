use Rattle.std.proofs.Common.{◌≡◌, ◌∙◌, refl, ◌+◌, ◌*◌, ◌/◌, ap, sym, max, length, nat_le, arith}
use Rattle.sctp_wire.specs.DataPackets.{data_in}
use Rattle.sctp_wire.proofs.DataWritten.{packet_length}
use Rattle.sctp_wire.proofs.data_packets.DataPackets.has_room.Goals as goal

pub overflow_add-result : goal.overflow_add-result
overflow_add-result c =
    omega (arith, c.requires, c.payload_len.ensures.value, c.self.inside.current.small, c.len.ensures, c.max.ensures)

pub returns : goal.returns
returns c =
    let long : c.len.result ≡ length c.self.inside.current.items =
    omega (arith, c.len.ensures, c.self.inside.current.ok) in
    rw (← c.self.view_is)
    (ap (λ z. nat_le z c.self.inside.mtu)
    (ap (λ z. z + (c.payload_len.result + 19) / 4 * 4) (c.max.ensures ∙ ap (λ z. max z 12) long)
    ∙ ap (λ z. max (length c.self.inside.current.items) 12 + (z + 19) / 4 * 4) c.payload_len.ensures.value
    ∙ sym (packet_length c.self.inside.header c.self.inside.current.items (data_in c.self.inside.current.items)
    c.args.piece.now refl c.self.invariant.0)))
