use Rattle.std.proofs.Common.{◌≡◌}
use Rattle.std.specs.Vec.Iter.{into_iter_items}
use Rattle.sctp_inbound.specs.Greeting.{first_cookie}
use Rattle.sctp_inbound.proofs.greeting.state_cookie.Given as goal

abbrev pub invariant-loop-param : goal.invariant-loop-param
invariant-loop-param l =
    record { first : first_cookie (into_iter_items l.param-iterator) ≡ first_cookie l.fn.init_ack.params }
