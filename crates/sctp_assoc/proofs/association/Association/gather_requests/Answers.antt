use Rattle.std.proofs.Common.{◌≡◌, ◌∙◌, ◌==◌, length, rules, true}
use Rattle.std.proofs.lemmas.Result.{on_ok_weaker}
use Rattle.sctp_inbound.specs.Handshake.{header_of}
use Rattle.sctp_assoc.specs.Calls.{is_established}
use Rattle.sctp_assoc.specs.Gather.{AreRequestsReadAgain, after_both, first_listed, first_request_polled}
use Rattle.sctp_assoc.proofs.PartsOfPolls.{requests_are}
use Rattle.sctp_assoc.proofs.RequestsReadAgain.{both_again}
use Rattle.sctp_assoc.proofs.association.Association.gather_requests.Goals as goal

pub returns-clause-exact : goal.returns-clause-exact
returns-clause-exact c =
    let established : is_established c.args.self.now.state ≡ true = search rules in
    let are =
    requests_are c.args.self.now c.gather_repeat.new.self c.make_request.new.self c.args.packets.now.items
    c.gather_repeat.new.packets.items established c.in_ok-gather_repeat.ensures.exact
    c.in_ok-make_request.ensures.exact in
    on_ok_weaker c.gather_first_request.result
    (λ (first : after_both c.gather_repeat.new.packets.items (first_request_polled c.make_request.new.self)
    ≡ (c.gather_first_request.new.self, c.gather_first_request.new.packets.items)). are ∙ first)
    c.gather_first_request.ensures.exact

pub returns-clause-again : goal.returns-clause-again
returns-clause-again c =
    let made = c.make_request.new.self in
    on_ok_weaker c.gather_first_request.result
    (λ (first : AreRequestsReadAgain (header_of made.handshake) (first_listed (length made.control == 0) made))
    (established : is_established c.args.self.now.state ≡ true).
    both_again c.args.self.now c.gather_repeat.new.self made c.args.packets.now.items c.gather_repeat.new.packets.items
    c.in_ok-gather_repeat.ensures.exact c.in_ok-make_request.ensures.exact c.in_ok-gather_repeat.ensures.again first)
    c.gather_first_request.ensures.again
