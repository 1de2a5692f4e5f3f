use Rattle.std.proofs.Common.{◌≡◌, ◌∙◌, ap, deque_len, subst, sym, true}
use Rattle.std.proofs.lemmas.Result.{err_from_is_err_and}
use Rattle.sctp_wire_types.specs.declared.error.Error.TheVariants as errors
use Rattle.sctp_assoc.specs.Gather.{has_something_to_give}
use Rattle.sctp_driver.specs.Driving.{Driving}
use Rattle.sctp_driver.specs.Sending.{asked}
use Rattle.sctp_driver.proofs.PollsAsked.{failing_given, lacking_given, nothing_waits, polled_then}
use Rattle.sctp_driver.proofs.driver.Driver.ask.Goals as goal

pub returns-in_err-given-clause-given : goal.returns-in_err-given-clause-given
returns-in_err-given-clause-given c lacks =
    let p = err_from_is_err_and c.from_residual.result c.from_residual.ensures.1 in
    subst (λ (d : Driving). has_something_to_give d.association c.args.now ≡ true) c.self.view_is
    (lacking_given c.self.inside.association c.from_nanos.ensures c.in_err-given.ensures.given p.2 p.1 lacks)

pub returns-in_err-given-clause-failed : goal.returns-in_err-given-clause-failed
returns-in_err-given-clause-failed c =
    let p = err_from_is_err_and c.from_residual.result c.from_residual.ensures.1 in
    let none =
    nothing_waits (deque_len c.self.inside.waiting) c.self.inside.waiting.items c.is_empty.result
    (sym c.self.inside.waiting.ok.0) c.is_empty.ensures c.if-not-is_empty.false in
    failing_given (record {
      association = c.self.inside.association;
      own_tag = c.self.inside.own_tag;
      shutdown_limit = c.self.inside.shutdown_limit;
      waiting = c.self.inside.waiting.items;
      kept = c.self.inside.kept.items;
    }) c.args.self.now errors.ErrAssociationFailed c.self.view_is none c.in_err-given.ensures.failed.0
    c.in_err-given.ensures.failed.1 p.2 p.1

pub returns-clause-ok : goal.returns-clause-ok
returns-clause-ok c =
    let d : Driving = record {
      association = c.self.inside.association;
      own_tag = c.self.inside.own_tag;
      shutdown_limit = c.self.inside.shutdown_limit;
      waiting = c.self.inside.waiting.items;
      kept = c.self.inside.kept.items;
    } in
    let none =
    nothing_waits (deque_len c.self.inside.waiting) c.self.inside.waiting.items c.is_empty.result
    (sym c.self.inside.waiting.ok.0) c.is_empty.ensures c.if-not-is_empty.false in
    polled_then d c.poll_transmit.new.self c.from_nanos.result c.args.now c.packets_in.result.items
    c.from_nanos.ensures none
    (c.in_ok-given.ensures.ok
    ∙ ap (λ packets. (c.poll_transmit.new.self, packets)) (sym c.packets_in.ensures))
    ∙ ap (λ (z : Driving). asked z c.args.now) c.self.view_is
