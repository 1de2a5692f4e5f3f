use Rattle.std.proofs.Common.{◌≡◌, ◌++◌, filter, not}
use Rattle.sctp_outbound_queue.specs.Outbound.{has_stream}
use Rattle.sctp_reset_requests.proofs.own.quiet_among.Given as goal

abbrev pub invariant-loop-id : goal.invariant-loop-id
invariant-loop-id l =
    l.ids.items ++ filter (λ id. not (has_stream l.queue id)) l.id-iterator
    ≡ filter (λ id. not (has_stream l.queue id)) l.waiting.keys
