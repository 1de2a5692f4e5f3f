use Rattle.std.proofs.Common.{rules, ◌≡◌, IfOk, subst}
use Rattle.sctp_wire_types.specs.declared.chunk.Chunk.{Chunk}
use Rattle.sctp_driver.specs.Late.{datagram_of}
use Rattle.sctp_driver.proofs.heartbeats.heartbeat_of.Goals as goal

pub returns-clause-ok : goal.returns-clause-ok
returns-clause-ok c = subst
    (λ (chunk : Chunk). IfOk c.datagram_of.result (λ datagram. datagram ≡ datagram_of c.args.association.now chunk))
    c.in_ok-chunk.ensures c.datagram_of.ensures.ok
