use Rattle.std.proofs.Common.{◌≡◌, Some, rules}
use Rattle.sctp_received.specs.Received.{last_received}
use Rattle.sctp_inbound.proofs.NewTsnsHeld.{passed_by_last, wrapped_past}
use Rattle.sctp_inbound.proofs.held.Held.passes.Goals as goal

pub returns-in-Some : goal.returns-in-Some
returns-in-Some c =
    let small = c.ranges.peer_last_tsn.fits in
    let last : last_received c.args.peer_last_tsn c.args.self.now ≡ Some c.in-Some.last = search rules in
    rw (wrapped_past c.args.peer_last_tsn c.args.tsn small, wrapped_past c.args.peer_last_tsn c.in-Some.last small)
    (passed_by_last c.args.peer_last_tsn c.args.tsn c.in-Some.last c.args.self.now last)
