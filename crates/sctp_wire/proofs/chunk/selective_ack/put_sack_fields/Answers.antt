use Rattle.std.proofs.Common.{append_assoc}
use Rattle.sctp_wire.proofs.chunk.selective_ack.put_sack_fields.Goals as goal

pub returns-clause-bytes : goal.returns-clause-bytes
returns-clause-bytes c =
    rw (
      c.in_ok-put_entries-2.ensures.bytes,
      c.as_slice-2.ensures,
      c.in_ok-put_entries.ensures.bytes,
      c.as_slice.ensures,
      c.in_ok-put_u16-2.ensures.bytes,
      c.len-2.ensures,
      c.in_ok-put_u16.ensures.bytes,
      c.len.ensures,
      c.in_ok-put_u32-2.ensures.bytes,
      c.in_ok-put_u32.ensures.bytes,
    ) (simp append_assoc)
