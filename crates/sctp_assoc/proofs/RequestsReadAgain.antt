-- The requests to reset streams that a poll gives are read as what they were made of.
use Rattle.std.proofs.Common.{◌≡◌, refl, sym, ap, ◌∙◌, subst, ℕ, ◌==◌, length, List, []}
use Rattle.std.proofs.Common.{Bool, true, false, if◌then◌else◌}
use Rattle.std.proofs.lemmas.Bool.{false≢true}
use Rattle.sctp_inbound.specs.declared.handshake.Handshake.{Handshake}
use Rattle.sctp_inbound.specs.Handshake.{header_of}
use Rattle.sctp_reset_requests.specs.Own.{repeated}
use Rattle.sctp_resets.proofs.ListsOver.{all_appended}
use Rattle.sctp_assoc.specs.Calls.{exchanges_data, is_established}
use Rattle.sctp_assoc.specs.Gather.{AreRequestsReadAgain, IsRequestReadAgain, PollRequestsReadAgain, after_both}
use Rattle.sctp_assoc.specs.Gather.{control_polled, data_after, data_polled, first_listed, listed, repeat_polled}
use Rattle.sctp_assoc.specs.Gather.{request_made}
use Rattle.sctp_assoc.specs.Gather.{requests_of}
use Rattle.sctp_assoc.specs.Shown.{Shown}
use Rattle.sctp_assoc.proofs.ContinuedShutdown.{continued_in_established, established_exchanges}
use Rattle.sctp_assoc.proofs.PartsOfPolls.{both_first, requests_made_leave}
use Rattle.sctp_assoc.proofs.PolledSteps.{data_poll_state, data_poll_stays}

-- the active one again, and behind it the oldest that was never sent
pub both_again : (a b c : Shown) (before packets : List (List ℕ)) → after_both before (repeat_polled a) ≡ (b, packets)
    → c ≡ request_made b → AreRequestsReadAgain (header_of a.handshake) (listed (repeated a.resets.own).1)
    → AreRequestsReadAgain (header_of c.handshake) (first_listed (length c.control == 0) c)
    → AreRequestsReadAgain (header_of a.handshake) (requests_of a)
both_again a b c before packets repeats made again first =
    let there : c ≡ request_made (repeat_polled a).0 =
    made ∙ ap request_made (sym (ap (λ (z : Shown × List (List ℕ)). z.0) repeats) ∙ both_first before
    (repeat_polled a)) in
    let d = request_made (repeat_polled a).0 in
    let here : AreRequestsReadAgain (header_of d.handshake) (first_listed (length d.control == 0) d) =
    subst (λ (z : Shown). AreRequestsReadAgain (header_of z.handshake) (first_listed (length z.control == 0) z)) there
    first in
    all_appended (IsRequestReadAgain (header_of a.handshake)) (listed (repeated a.resets.own).1)
    (first_listed (length d.control == 0) d) again
    (subst (λ (k : Handshake). AreRequestsReadAgain (header_of k) (first_listed (length d.control == 0) d))
    (requests_made_leave a).handshake here)

-- those behind DATA, as the state behind it says them
pub data_requests_again : (a b : Shown) (now : ℕ) → (data_after a now).0 ≡ b
    → (is_established b.state ≡ true → AreRequestsReadAgain (header_of b.handshake) (requests_of b))
    → PollRequestsReadAgain a now
data_requests_again a b now left again e =
    let x = (data_polled a now).0 in
    let established : is_established x.state ≡ true = ap is_established (data_poll_state a now) ∙ e in
    let same : b ≡ x = sym left ∙ continued_in_established x established in
    let here : is_established x.state ≡ true → AreRequestsReadAgain (header_of x.handshake) (requests_of x) =
    subst (λ (z : Shown). is_established z.state ≡ true
    → AreRequestsReadAgain (header_of z.handshake) (requests_of z)) same again in
    subst (λ (k : Handshake). AreRequestsReadAgain (header_of k) (requests_of x)) (data_poll_stays a now).handshake
    (here established)

-- none goes out where no DATA is exchanged
pub no_requests_again : (a : Shown) (now : ℕ) → exchanges_data a.state ≡ false → PollRequestsReadAgain a now
no_requests_again a now e established = absurd (false≢true (sym e ∙ established_exchanges a.state established))

-- and behind what waited in front of it
pub requests_behind : (a b : Shown) (now : ℕ) (packets : List (List ℕ)) → control_polled a ≡ (b, packets)
    → PollRequestsReadAgain b now → PollRequestsReadAgain (control_polled a).0 now
requests_behind a b now packets e again =
    subst (λ (z : Shown). PollRequestsReadAgain z now) (sym (ap (λ (x : Shown × List (List ℕ)). x.0) e)) again

-- in a state that is Established or not
pub requests_again_if : (c : Bool) (a : Shown) (now : ℕ)
    → (c ≡ true → AreRequestsReadAgain (header_of a.handshake) (requests_of (data_polled a now).0))
    → AreRequestsReadAgain (header_of a.handshake) (if c then requests_of (data_polled a now).0 else [])
requests_again_if true a now again = again refl
requests_again_if false a now again = tt
