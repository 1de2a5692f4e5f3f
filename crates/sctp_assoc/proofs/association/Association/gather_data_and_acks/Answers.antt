use Rattle.std.proofs.Common.{◌≡◌, ◌∙◌, ◌&&◌, ap, length, nat_lt, subst, sym, true}
use Rattle.sctp_inbound.specs.Handshake.{header_of}
use Rattle.sctp_outbound.specs.Forward.{gives_forward}
use Rattle.sctp_outbound.proofs.SenderSteps.{on_err}
use Rattle.sctp_assoc.specs.Calls.{is_established}
use Rattle.sctp_assoc.specs.Gather.{after_both, data_after, is_due, requests_give, requests_polled}
use Rattle.sctp_assoc.specs.Shown.{Shown}
use Rattle.sctp_assoc.proofs.MemoryTaken.{ack_is_given, data_is_given, forward_is_given, packets_are_given}
use Rattle.sctp_assoc.proofs.MemoryTaken.{requests_are_given}
use Rattle.sctp_assoc.proofs.PacketsReadAgain.{acked_as, asked_as, continued_as, exact_of, poll_again}
use Rattle.sctp_assoc.proofs.PolledSteps.{data_after_stays}
use Rattle.sctp_assoc.proofs.RequestsReadAgain.{data_requests_again}
use Rattle.sctp_assoc.proofs.association.Association.gather_data_and_acks.Goals as goal

pub returns-clause-exact : goal.returns-clause-exact
returns-clause-exact c =
    exact_of c.args.packets.now.items (data_after c.args.self.now c.args.now)
    (ap header_of (data_after_stays c.args.self.now c.args.now).handshake) c.in_ok-data.ensures.packets
    c.in_ok-put_all.ensures.exact
    (ap (λ (b : Shown). after_both c.put_all.new.packets.items (requests_polled b))
    (continued_as c.args.self.now c.args.now c.in_ok-data.ensures.exact c.continue_shutdown.ensures)
    ∙ c.in_ok-gather_requests.ensures.exact)
    c.in_ok-gather_ack.ensures.exact c.in_ok-gather_forward.ensures.exact

pub returns-clause-again : goal.returns-clause-again
returns-clause-again c =
    poll_again c.args.self.now c.args.now c.put_all.new.packets.items c.gather_requests.new.packets.items
    (continued_as c.args.self.now c.args.now c.in_ok-data.ensures.exact c.continue_shutdown.ensures)
    c.in_ok-gather_requests.ensures.exact c.in_ok-gather_ack.ensures.exact c.in_ok-data.ensures.again
    c.in_ok-gather_ack.ensures.again c.in_ok-gather_forward.ensures.again

pub returns-clause-requests : goal.returns-clause-requests
returns-clause-requests c =
    data_requests_again c.args.self.now c.continue_shutdown.new.self c.args.now
    (continued_as c.args.self.now c.args.now c.in_ok-data.ensures.exact c.continue_shutdown.ensures)
    c.in_ok-gather_requests.ensures.again

pub returns-in_err-data-clause-grows : goal.returns-in_err-data-clause-grows
returns-in_err-data-clause-grows c =
    on_err c.from_residual.result
    (data_is_given c.args.self.now c.args.now c.in_err-data.ensures.grows)

pub returns-in_err-put_all-clause-grows : goal.returns-in_err-put_all-clause-grows
returns-in_err-put_all-clause-grows c =
    on_err c.from_residual-in_err-put_all.result
    (packets_are_given c.args.self.now c.args.now
    (subst (λ d. nat_lt 0 (length d) ≡ true) c.in_ok-data.ensures.packets c.in_err-put_all.ensures.grows))

pub returns-in_err-gather_requests-clause-grows : goal.returns-in_err-gather_requests-clause-grows
returns-in_err-gather_requests-clause-grows c =
    on_err c.from_residual-in_err-gather_requests.result
    (requests_are_given c.args.self.now c.args.now
    (subst (λ (b : Shown). (is_established b.state && requests_give b) ≡ true)
    (sym (continued_as c.args.self.now c.args.now c.in_ok-data.ensures.exact c.continue_shutdown.ensures))
    c.in_err-gather_requests.ensures.grows))

pub returns-in_err-gather_ack-clause-grows : goal.returns-in_err-gather_ack-clause-grows
returns-in_err-gather_ack-clause-grows c =
    on_err c.from_residual-in_err-gather_ack.result
    (ack_is_given c.args.self.now c.args.now
    (subst (λ (b : Shown). is_due b.receiver.ack_state ≡ true)
    (sym (asked_as c.put_all.new.packets.items
    (continued_as c.args.self.now c.args.now c.in_ok-data.ensures.exact c.continue_shutdown.ensures)
    c.in_ok-gather_requests.ensures.exact))
    c.in_err-gather_ack.ensures.grows))

pub returns-in_err-gather_forward-clause-grows : goal.returns-in_err-gather_forward-clause-grows
returns-in_err-gather_forward-clause-grows c =
    on_err c.from_residual-in_err-gather_forward.result
    (forward_is_given c.args.self.now c.args.now
    (subst (λ (b : Shown). gives_forward b.sender ≡ true)
    (sym (acked_as c.gather_requests.new.packets.items
    (asked_as c.put_all.new.packets.items
    (continued_as c.args.self.now c.args.now c.in_ok-data.ensures.exact c.continue_shutdown.ensures)
    c.in_ok-gather_requests.ensures.exact)
    c.in_ok-gather_ack.ensures.exact))
    c.in_err-gather_forward.ensures.grows))
