use Rattle.std.proofs.Common.{◌≡◌, ℕ, List, IfOk, subst}
use Rattle.sctp_wire.specs.Chunks.{chunks_at}
use Rattle.sctp_watch.specs.declared.ends.End.TheVariants as ends
use Rattle.sctp_watch.specs.Ends.{end_among}
use Rattle.sctp_watch.proofs.Drained.{whole_read}
use Rattle.sctp_watch.proofs.ends.end_by.Goals as goal

pub returns : goal.returns
returns c =
    whole_read c.args.datagram.now c.end_among.result
    (subst (λ (bytes : List ℕ). IfOk (chunks_at bytes) (λ cs. c.end_among.result ≡ end_among ends.Fault cs))
    c.chunks_in.ensures c.end_among.ensures)
