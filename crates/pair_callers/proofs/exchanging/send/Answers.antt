use Rattle.pair_callers.proofs.SentIsHeld.{sent_is_held}
use Rattle.pair_callers.proofs.exchanging.send.Goals as goal

pub returns-clause-held : goal.returns-clause-held
returns-clause-held c =
    sent_is_held c.writes_and_polls_lose_nothing.ensures.written c.writes_and_polls_lose_nothing.ensures.polled
    c.args.association.now _
    c.poll_transmit.new.self c.args.id c.args.now c.args.message.now c.poll_transmit.result c.in_ok-write.ensures.live
    c.in_ok-write.ensures.accepted c.poll_transmit.ensures.ok
