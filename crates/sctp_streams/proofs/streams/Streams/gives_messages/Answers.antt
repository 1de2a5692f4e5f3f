use Rattle.std.proofs.Common.{map, nat_lt, ap, ◌∙◌, sym}
use Rattle.sctp_streams.proofs.ReadableStreams.{some_counted}
use Rattle.sctp_streams.proofs.streams.Streams.gives_messages.Goals as goal

pub returns : goal.returns
returns c =
    let es = c.self.inside.by_id in
    rw (← c.self.view_is) (ap (nat_lt 0) c.self.invariant.1 ∙ sym (some_counted (map (λ e. e.1) es)))
