use Rattle.std.proofs.Common.{◌%◌, ◌≤◌, ap, sym, subst, ◌∙◌}
use Rattle.sctp_model.specs.Messages.{accepted_bytes}
use Rattle.sctp_model.proofs.ReleasedBytes.{released_within}
use Rattle.sctp_model.proofs.Proved.{each_event_keeps_the_invariant, the_invariant_is_enough}
use Rattle.sctp_model.proofs.the_invariant_carries.Goals as goal

pub returns-clause-kept : goal.returns-clause-kept
returns-clause-kept c = each_event_keeps_the_invariant

pub returns-clause-enough : goal.returns-clause-enough
returns-clause-enough c = the_invariant_is_enough

pub returns-clause-cursor : goal.returns-clause-cursor
returns-clause-cursor c w h s v = let o = (h.streams s v).ordered in o.is ∙ ap (λ z. z % 65536) o.latest

pub returns-clause-released : goal.returns-clause-released
returns-clause-released c w h s = subst (λ z. z ≤ accepted_bytes w.sender.plan s) (sym (h.released s))
    (released_within w.sender.plan w.over w.sender.acknowledged w.sender.gone s h.planned)
