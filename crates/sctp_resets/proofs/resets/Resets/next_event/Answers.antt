use Rattle.std.proofs.Common.{sym, ◌∙◌}
use Rattle.sctp_resets.proofs.FrontWaits.{left_waiting, none_missing}
use Rattle.sctp_resets.proofs.resets.Resets.next_event.Goals as goal

pub returns-in_err-event-clause-waits : goal.returns-in_err-event-clause-waits
returns-in_err-event-clause-waits c =
    none_missing c.self.inside.generations c.self.inside.debts c.args.events.now c.in-Some.index
    c.as_queue-queue.result.now.items c.as_queue-queue.ensures (sym c.next_told.ensures ∙ c.in-Some.is)
    (sym c.take.ensures.taken ∙ c.in_err-event.was)

pub returns-clause-waits : goal.returns-clause-waits
returns-clause-waits c =
    left_waiting c.self.inside.generations c.self.inside.debts c.args.events.now c.in-Some.index c.in_ok-event.event
    c.as_queue-queue.result.now.items c.take.new.self c.note_told.new.debts c.as_queue-queue.ensures
    (sym c.next_told.ensures ∙ c.in-Some.is) (sym c.take.ensures.taken ∙ c.in_ok-event.was) c.take.ensures.rest
    c.note_told.ensures
