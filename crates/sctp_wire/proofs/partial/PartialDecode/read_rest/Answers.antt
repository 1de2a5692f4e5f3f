use Rattle.sctp_wire.proofs.PacketsKept.{packet_kept}
use Rattle.sctp_wire.proofs.partial.PartialDecode.read_rest.Goals as goal

pub returns-clause-content : goal.returns-clause-content
returns-clause-content c =
    packet_kept c.args.self.common_header c.args.self.remaining c.in_ok-chunks.chunks
    (c.note_ranges.ensures.source, c.note_ranges.ensures.destination, c.note_ranges.ensures.tag)
    (rw c.as_slice.ensures at c.note_ranges.ensures.bytes) c.in_ok-chunks.ensures
