use Rattle.std.proofs.Common.{refl, arith}
use Rattle.sctp_wire.specs.SelectiveAck.{selective_ack_value}
use Rattle.sctp_wire.proofs.ListsWritten.{frame_written, sack_length, sack_long}
use Rattle.sctp_wire.proofs.chunk.selective_ack.put_selective_ack.Goals as goal

pub returns-then-blocks-gt-MAX_VALUE-clause-bytes : goal.returns-then-blocks-gt-MAX_VALUE-clause-bytes
returns-then-blocks-gt-MAX_VALUE-clause-bytes c =
    (sack_long c.args.sack.now (omega (arith, c.len-blocks.ensures)), refl)

pub returns-then-duplicates-gt-MAX_VALUE-clause-bytes : goal.returns-then-duplicates-gt-MAX_VALUE-clause-bytes
returns-then-duplicates-gt-MAX_VALUE-clause-bytes c =
    (sack_long c.args.sack.now (omega (arith, c.len-duplicates.ensures)), refl)

pub returns-then-len-gt-MAX_VALUE-clause-bytes : goal.returns-then-len-gt-MAX_VALUE-clause-bytes
returns-then-len-gt-MAX_VALUE-clause-bytes c =
    (sack_long c.args.sack.now (omega (arith, c.len-blocks.ensures, c.len-duplicates.ensures)), refl)

pub returns-clause-bytes : goal.returns-clause-bytes
returns-clause-bytes c =
    frame_written _ _ _ _ _ 768 _ (selective_ack_value c.args.sack.now) refl
    (omega (arith, sack_length c.args.sack.now, c.len-blocks.ensures, c.len-duplicates.ensures)) (omega arith)
    c.in_ok-put_head.ensures c.in_ok-put_sack_fields.ensures.bytes c.in_ok-put_padding.ensures
