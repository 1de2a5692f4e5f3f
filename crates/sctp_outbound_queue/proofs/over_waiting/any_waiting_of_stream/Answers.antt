use Rattle.std.proofs.Common.{◌∙◌, ap, arith, sym}
use Rattle.std.specs.List.{list_any}
use Rattle.sctp_outbound_queue.specs.Message.{is_waiting_of_stream}
use Rattle.sctp_outbound_queue.proofs.EmptyPlaces.{all_closed}
use Rattle.sctp_outbound_queue.proofs.over_waiting.any_waiting_of_stream.Goals as goal

pub returns-then-dead-eq0 : goal.returns-then-dead-eq0
returns-then-dead-eq0 c =
    c.any_of_all.ensures
    ∙ ap (list_any (is_waiting_of_stream c.args.id))
    (sym (all_closed c.args.settled c.args.dead c.args.messages.now.items (omega (arith, c.if-dead-eq0.true))))
