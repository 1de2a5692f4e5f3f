use Rattle.std.proofs.Common.{refl, arith}
use Rattle.sctp_wire.specs.PayloadData.{data_fields, payload_data_flags, payload_data_value}
use Rattle.sctp_wire.proofs.ListsWritten.{parts_written}
use Rattle.sctp_wire.proofs.chunk.payload_data.put_payload_data.Goals as goal

pub returns-clause-bytes : goal.returns-clause-bytes
returns-clause-bytes c =
    parts_written _ _ _ _ (payload_data_flags c.args.piece.now) _ (payload_data_value c.args.piece.now)
    (data_fields c.args.piece.now) _ refl (omega (arith, c.payload_len-len.ensures.value)) (omega arith)
    (rw c.header_of.ensures.bytes at c.in_ok-extend_from_slice.ensures.items)
    (rw c.payload.ensures at c.in_ok-extend_from_slice-2.ensures.items) c.in_ok-put_padding.ensures
