use Rattle.std.proofs.Common.{arith, rules, ◌≡◌, ◌∙◌, ap, subst, sym, ℕ, List, [], ◌∷◌, fold}
use Rattle.std.proofs.lemmas.Grind.{common_steps}
use Rattle.std.proofs.lemmas.List.{nil_from_length}
use Rattle.std.specs.Vec.Iter.{into_iter_items}
use Rattle.sctp_assoc.specs.declared.control.Control.{Control}
use Rattle.sctp_assoc.specs.Gather.{GivenRequestsReadAgain, with_control_given}
use Rattle.sctp_assoc.specs.Shown.{Shown}
use Rattle.sctp_assoc.proofs.PacketsReadAgain.{more_control_again}
use Rattle.sctp_assoc.proofs.association.Association.gather_control.Goals as goal

pub loop-control-preserved : goal.loop-control-preserved
loop-control-preserved c =
    let rest = into_iter_items c.next.new.self in
    let items : into_iter_items c.loop-control.control-iterator ≡ c.in-Some.control ∷ rest = search rules in
    record {
      given =
          sym (ap (λ (z : Shown × List (List ℕ)). fold with_control_given z rest) c.in_ok-give_control.ensures.exact)
          ∙ ap (fold with_control_given (c.loop-control.self, c.loop-control.packets.items)) (sym items)
          ∙ c.loop-control.invariant.given;
      all = grind (arith, common_steps);
      again =
          more_control_again c.loop-control.yielded c.in-Some.control c.loop-control.invariant.again
          c.in_ok-give_control.ensures.again;
      requests = λ (more : GivenRequestsReadAgain rest (c.give_control.new.self, c.give_control.new.packets.items)).
          c.loop-control.invariant.requests
          (subst (λ (cs : List Control). GivenRequestsReadAgain cs
          (c.loop-control.self, c.loop-control.packets.items)) (sym items) (
            c.in_ok-give_control.ensures.requests,
            subst (GivenRequestsReadAgain rest) (sym c.in_ok-give_control.ensures.exact) more,
          ));
    }

pub returns-clause-requests : goal.returns-clause-requests
returns-clause-requests c =
    let left = c.loop-control.control-iterator in
    let none : into_iter_items left ≡ [] =
    nil_from_length (into_iter_items left) (sym left.rest.ok.0 ∙ c.in-None.ensures.steps.0) in
    c.loop-control.invariant.requests
    (subst (λ (cs : List Control). GivenRequestsReadAgain cs (c.loop-control.self, c.loop-control.packets.items))
    (sym none) tt)
