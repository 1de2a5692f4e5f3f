-- The requests to reset streams that a poll gives, and what they leave for the rest of it.
use Rattle.std.proofs.Common.{◌≡◌, refl, sym, ap, ◌∙◌, ℕ, Bool, true, false, ◌==◌, if◌then◌else◌, length}
use Rattle.std.proofs.Common.{List, [], ◌∷◌, ◌++◌, Option, Some, None}
use Rattle.std.proofs.lemmas.List.{append-nil, append_assoc}
use Rattle.sctp_wire_types.specs.declared.packet.CommonHeader.{CommonHeader}
use Rattle.sctp_wire_types.specs.declared.param.Param.TheVariants as params
use Rattle.sctp_wire_types.specs.declared.param.ParamOutgoingResetRequest.{ParamOutgoingResetRequest}
use Rattle.sctp_parts.specs.declared.state.AssociationState.{AssociationState}
use Rattle.sctp_inbound.specs.Handshake.{header_of}
use Rattle.sctp_reset_requests.specs.Own.{OwnView, repeated, sent_first}
use Rattle.sctp_resets.specs.Resets.{with_own}
use Rattle.sctp_directions.specs.Acts.{History}
use Rattle.sctp_assoc.specs.Calls.{is_established}
use Rattle.sctp_assoc.specs.Gather.{data_after, data_polled}
use Rattle.sctp_assoc.specs.Gather.{first_request_behind, first_request_polled, packet_bytes, repeat_polled}
use Rattle.sctp_assoc.specs.Gather.{first_listed, listed, request_made, request_packet, requests_polled}
pub use Rattle.sctp_assoc.specs.Gather.{requests_of}
use Rattle.sctp_assoc.specs.Gather.{with_request_again}
use Rattle.sctp_assoc.specs.Gather.{with_request_sent}
use Rattle.sctp_assoc.specs.Happened.{acks_given, acts_of_ack, requests_given}
use Rattle.sctp_assoc.specs.Leads.{parts}
use Rattle.sctp_assoc.specs.Resets.{reconfig_of}
use Rattle.sctp_assoc.specs.Shown.{Shown}
use Rattle.sctp_assoc.specs.Shutdown.{shutdown_continued}
use Rattle.sctp_assoc.proofs.ContinuedShutdown.{continued_in_established, continued_is_established}
use Rattle.sctp_assoc.proofs.PacketsReadAgain.{ack_again_before}
use Rattle.sctp_assoc.proofs.PartsOfPolls.{LeavesTheRest, both_second, first_request_if, requests_if}
use Rattle.sctp_assoc.proofs.PartsOfPolls.{requests_made_leave}
use Rattle.sctp_assoc.proofs.PolledSteps.{IsSentBeside, data_poll_state}

given_join : (header : CommonHeader) (xs ys : List ParamOutgoingResetRequest)
    → requests_given header xs ++ requests_given header ys ≡ requests_given header (xs ++ ys)
given_join header [] ys = refl
given_join header (x ∷ xs) ys =
    append_assoc (packet_bytes header (reconfig_of (params.OutgoingResetRequest x))) (requests_given header xs)
    (requests_given header ys)
    ∙ ap (λ (z : List (List ℕ)). packet_bytes header (reconfig_of (params.OutgoingResetRequest x)) ++ z)
    (given_join header xs ys)

again_said : (a : Shown) (own : OwnView) (request : Option ParamOutgoingResetRequest)
    → (with_request_again a (with_own a.resets (own, request))).1
    ≡ requests_given (header_of a.handshake) (listed request)
again_said a own None = refl
again_said a own (Some request) = sym (append-nil (request_packet a request))

sent_said : (a : Shown) (own : OwnView) (request : Option ParamOutgoingResetRequest)
    → (with_request_sent a (with_own a.resets (own, request))).1
    ≡ requests_given (header_of a.handshake) (listed request)
sent_said a own None = refl
sent_said a own (Some request) = sym (append-nil (request_packet a request))

first_said : (none : Bool) (a : Shown)
    → (first_request_if none a).1 ≡ requests_given (header_of a.handshake) (first_listed none a)
first_said true a = refl
first_said false a =
    let sent = sent_first a.resets.own a.sender.queue in
    sent_said a sent.0 sent.1

behind_said : (y : Shown × List (List ℕ)) (header : CommonHeader) (xs : List ParamOutgoingResetRequest)
    → header_of (request_made y.0).handshake ≡ header → y.1 ≡ requests_given header xs
    → (first_request_behind y).1
    ≡ requests_given header
    (xs ++ first_listed (length (request_made y.0).control == 0) (request_made y.0))
behind_said (b, packets) header xs same said =
    let c = request_made b in
    let none = length c.control == 0 in
    both_second packets (first_request_polled c)
    ∙ ap (λ (z : List (List ℕ)). packets ++ z)
    (first_said none c ∙ ap (λ (k : CommonHeader). requests_given k (first_listed none c)) same)
    ∙ ap (λ (z : List (List ℕ)). z ++ requests_given header (first_listed none c)) said
    ∙ given_join header xs (first_listed none c)

said_if : (established : Bool) (a : Shown)
    → (requests_if established a).1
    ≡ requests_given (header_of a.handshake) (if established then requests_of a else [])
said_if true a =
    let again = repeated a.resets.own in
    behind_said (repeat_polled a) (header_of a.handshake) (listed again.1)
    (ap header_of (requests_made_leave a).handshake) (again_said a again.0 again.1)
said_if false a = refl

-- what goes out, in Established alone
abbrev pub requests_sent : Shown → List ParamOutgoingResetRequest
requests_sent a = if is_established a.state then requests_of a else []

pub requests_said : (a : Shown) → (requests_polled a).1 ≡ requests_given (header_of a.handshake) (requests_sent a)
unfolding requests_polled
requests_said a = said_if (is_established a.state) a

-- that a shutdown went on behind DATA changes nothing of it
behind_if : (established : Bool) (a : Shown) → is_established a.state ≡ established
    → (if established then requests_of (shutdown_continued a) else []) ≡ (if established then requests_of a else [])
behind_if true a e = ap requests_of (continued_in_established a e)
behind_if false a e = refl

sent_behind : (a : Shown) → requests_sent (shutdown_continued a) ≡ requests_sent a
sent_behind a =
    ap (λ (e : Bool). if e then requests_of (shutdown_continued a) else []) (continued_is_established a)
    ∙ behind_if (is_established a.state) a refl

pub sent_behind_data : (a : Shown) (now : ℕ)
    → requests_sent (data_after a now).0
    ≡ (if is_established a.state then requests_of (data_polled a now).0 else [])
sent_behind_data a now =
    let b = (data_polled a now).0 in
    sent_behind b ∙ ap (λ (state : AssociationState). if is_established state then requests_of b else [])
    (data_poll_state a now)

-- what the directions see stays
pub parts_left : (b c : Shown) (h : History) → LeavesTheRest b c → parts c h ≡ parts b h
parts_left b c h rest = rw (rest.sender, rest.streams) refl

acks_left : (b c : Shown) → LeavesTheRest b c → acks_given c ≡ acks_given b
acks_left b c rest = rw (rest.receiver, rest.handshake, rest.streams, rest.generations) refl

acts_left : (b c : Shown) → LeavesTheRest b c → acts_of_ack c ≡ acts_of_ack b
acts_left b c rest = rw rest.receiver refl

-- and so does the acknowledgement
pub beside_requests : (a b c : Shown) → IsSentBeside a b → LeavesTheRest b c → IsSentBeside a c
beside_requests a b c same rest = record {
  receiver = rest.receiver ∙ same.receiver;
  handshake = rest.handshake ∙ same.handshake;
  acts = acts_left b c rest ∙ same.acts;
  acks = acks_left b c rest ∙ same.acks;
  again = λ again. same.again (ack_again_before b c rest again);
}
