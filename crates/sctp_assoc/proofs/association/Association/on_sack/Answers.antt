use Rattle.std.proofs.Common.{rules, ◌≡◌, ◌∙◌, ap, sym, true}
use Rattle.sctp_streams.specs.LowMarks.{IsGathered, ascending}
use Rattle.sctp_streams.proofs.LowMarks.{gathered_since}
use Rattle.sctp_outbound.specs.declared.sender.SackOutcome.TheVariants as outcomes
use Rattle.sctp_outbound.specs.Sacks.{sack_taken}
use Rattle.sctp_outbound.specs.Sender.{sack_outcome}
use Rattle.sctp_outbound.proofs.SenderSteps.{on_err}
use Rattle.sctp_resets.proofs.FrontWaits.{waits_before_told}
use Rattle.sctp_assoc.specs.declared.inbound.Flow.TheVariants as flows
use Rattle.sctp_assoc.specs.Calls.{sends_data}
use Rattle.sctp_assoc.specs.Chunks.{counted_sack}
use Rattle.sctp_assoc.specs.Probes.{is_probing, probes_answered}
use Rattle.sctp_assoc.specs.Shutdown.{shutdown_continued}
use Rattle.sctp_assoc.proofs.SacksTell.{some_fell, taken_leaves, taken_takes}
use Rattle.sctp_assoc.proofs.association.Association.on_sack.Goals.{In-Taken}
use Rattle.sctp_assoc.proofs.association.Association.on_sack.Goals as goal

-- what is known where the SACK is taken
was_sending : (c : In-Taken) → sends_data c.args.self.now.state ≡ true
was_sending c = search rules

was_taken : (c : In-Taken)
    → sack_outcome c.args.self.now.sender c.args.cumulative_tsn_ack c.args.blocks.now ≡ outcomes.Taken
was_taken c = rw (← c.self.view_is) (sym c.on_sack-outcome.ensures.outcome ∙ c.in-Taken.is)

took : (c : In-Taken) → let sacked = c.on_sack-outcome.new in
    sack_taken c.args.cumulative_tsn_ack c.args.blocks.now c.args.window c.args.now c.args.self.now.sender
    c.args.self.now.estimate c.args.self.now.streams
    ≡ (sacked.self, sacked.rto, sacked.streams)
took c = rw (← c.self.view_is) (c.on_sack-outcome.ensures.taken c.in-Taken.is)

those_gathered : (c : In-Taken)
    → IsGathered c.args.self.now.streams c.on_sack-outcome.new.streams c.on_sack-outcome.new.fallen
those_gathered c =
    rw (← c.self.view_is)
    (gathered_since c.self.inside.streams c.on_sack-outcome.new.streams c.watch-fallen.result
    c.on_sack-outcome.new.fallen c.watch-fallen.ensures c.on_sack-outcome.ensures.gathers)

pub returns-in_err-tell_ascending-in-Taken-clause-grows : goal.returns-in_err-tell_ascending-in-Taken-clause-grows
returns-in_err-tell_ascending-in-Taken-clause-grows c =
    let sacked = c.on_sack-outcome.new in
    let arm = (goal.at.returns-in_err-tell_ascending-in-Taken-clause-grows c).In-Taken in
    on_err c.from_residual.result
    (taken_takes c.args.self.now c.args.cumulative_tsn_ack c.args.blocks.now c.args.window c.args.now sacked.self
    sacked.rto sacked.streams (was_sending arm) (was_taken arm) (took arm)
    (some_fell c.args.self.now.streams sacked.streams sacked.fallen (those_gathered arm)
    c.in_err-tell_ascending-in-Taken.ensures.grows))

pub returns-in_ok-tell_ascending-in-Taken-clause-exact : goal.returns-in_ok-tell_ascending-in-Taken-clause-exact
returns-in_ok-tell_ascending-in-Taken-clause-exact c =
    let sacked = c.on_sack-outcome.new in
    let arm = (goal.at.returns-in_ok-tell_ascending-in-Taken-clause-exact c).In-Taken in
    rw (c.answer_probes.ensures, c.continue_shutdown.ensures, c.is_probing-probing.ensures, c.inc_sacks.ensures)
    (taken_leaves c.args.self.now c.args.cumulative_tsn_ack c.args.blocks.now c.args.window c.args.now sacked.self
    sacked.rto sacked.streams (was_sending arm) (was_taken arm) (took arm) c.args.trigger
    c.ask_for_forward_tsn.new.self sacked.timers c.tell_ascending.new.events (ascending sacked.fallen.ids)
    (rw (← c.self.view_is) c.ask_for_forward_tsn.ensures)
    (rw (← c.self.view_is) (c.on_sack-outcome.ensures.timer c.in-Taken.is))
    (rw (← c.self.view_is) c.in_ok-tell_ascending-in-Taken.ensures.told)
    ((those_gathered arm).whole c.in_ok-tell_ascending-in-Taken.ensures.whole)
    ∙ ap (λ z. (
      probes_answered (is_probing z.profile z.sender) c.args.window
          (shutdown_continued (record (counted_sack z) {
            sender = c.ask_for_forward_tsn.new.self;
            estimate = sacked.rto;
            streams = sacked.streams;
            events = c.tell_ascending.new.events;
            timers = sacked.timers;
          })),
      flows.Next c.args.trigger,
    )) (sym c.self.view_is))

pub invariant_of-self-in-Taken : goal.invariant_of-self-in-Taken
invariant_of-self-in-Taken c =
    let r = c.self.inside.resets in
    waits_before_told (ascending c.on_sack-outcome.new.fallen.ids) r.generations.retiring r.debts c.self.inside.events
    c.self.inside.waiting_in_front c.tell_ascending.new.events c.replace-waiting.result
    c.in_ok-tell_ascending-in-Taken.ensures.told c.replace-waiting.ensures.value c.self.invariant
