-- What the parts of a poll for packets leave of an association: requests to reset streams change those of this side and
-- what waits beside DATA, the acknowledgement the receiver, and FORWARD TSN is due no more.
use Rattle.std.proofs.Common.{◌≡◌, refl, sym, ap, ◌∙◌, subst, ℕ, ◌==◌, Bool, true, false, ◌&&◌, not, is_some, length}
use Rattle.std.proofs.Common.{if◌then◌else◌, List, ◌∷◌, ◌++◌, [], Option, Some, None}
use Rattle.std.proofs.lemmas.Bool.{cond-false, cond-true}
use Rattle.sctp_wire_types.specs.declared.param.ParamOutgoingResetRequest.{ParamOutgoingResetRequest}
use Rattle.sctp_outbound.specs.Forward.{forward_given, gives_forward}
use Rattle.sctp_inbound.specs.Handshake.{header_of}
use Rattle.sctp_wire.specs.DataPackets.{datagrams_of}
use Rattle.sctp_reset_requests.specs.Own.{OwnView, asked, repeated, sent_first}
use Rattle.sctp_resets.specs.Resets.{with_asked, with_own}
use Rattle.sctp_assoc.specs.declared.control.Control.{Control}
use Rattle.sctp_parts.specs.State.{is_closing}
use Rattle.sctp_assoc.specs.Calls.{exchanges_data, is_established}
use Rattle.sctp_assoc.specs.Gather.{ack_after, ack_polled, control_polled, data_after, data_polled, exchange_polled}
use Rattle.sctp_assoc.specs.Gather.{first_request_behind, first_request_polled, forward_after, forward_polled, is_due}
use Rattle.sctp_assoc.specs.Gather.{open_polled, polled, repeat_polled, request_made, requests_after, requests_polled}
use Rattle.sctp_assoc.specs.Gather.{shutdown_polled}
use Rattle.sctp_assoc.specs.Gather.{with_request_again, with_request_asked, with_request_sent, forward_chunk}
use Rattle.sctp_assoc.specs.Gather.{packet_bytes}
use Rattle.sctp_assoc.specs.Happened.{acks_given, requests_given}
use Rattle.sctp_assoc.specs.Resets.{with_reconfig_run}
use Rattle.sctp_assoc.specs.Shown.{Shown}
use Rattle.sctp_assoc.proofs.GivenApart.{ChangesControl, control_changes, with_own_control}
use Rattle.sctp_assoc.proofs.PartsOfPolls.{both_first, both_second, first_request_if}
use Rattle.sctp_assoc.proofs.PolledSteps.{data_after_stays}
use Rattle.sctp_assoc.proofs.PollsLeadOn.{after_is, packets_said}
use Rattle.sctp_assoc.proofs.RequestsGiven.{requests_sent}
use Rattle.sctp_sides.proofs.EndedPolls.{ended_sender, polled_ends, quiet_end}

pub changes_on : (a b c : Shown) → ChangesControl a b → ChangesControl b c → ChangesControl a c
changes_on a b c first next = next ∙ ap (λ (z : Shown). with_own_control z c.resets.own c.control) first

again_changes : (a : Shown) (own : OwnView) (param : Option ParamOutgoingResetRequest)
    → ChangesControl a (with_request_again a (with_own a.resets (own, param))).0
again_changes a own None = refl
again_changes a own (Some param) = refl

made_changes : (a : Shown) (own : OwnView) (made : Bool)
    → ChangesControl a (with_request_asked a (with_asked a.resets (own, made)))
made_changes a own true = refl
made_changes a own false = refl

sent_changes : (a : Shown) (own : OwnView) (param : Option ParamOutgoingResetRequest)
    → ChangesControl a (with_request_sent a (with_own a.resets (own, param))).0
sent_changes a own None = refl
sent_changes a own (Some param) = refl

first_changes : (none : Bool) (a : Shown) → ChangesControl a (first_request_if none a).0
first_changes true a = refl
first_changes false a =
    let sent = sent_first a.resets.own a.sender.queue in
    sent_changes a sent.0 sent.1

behind_changes : (a : Shown) (y : Shown × List (List ℕ)) → ChangesControl a y.0
    → ChangesControl a (first_request_behind y).0
behind_changes a (b, packets) first =
    let made = asked b.resets.own b.sender.queue b.resets.peer in
    let c = request_made b in
    subst (ChangesControl a) (sym (both_first packets (first_request_polled c)))
    (changes_on a c (first_request_polled c).0
    (changes_on a b c first (made_changes b made.0 made.1)) (first_changes (length c.control == 0) c))

-- in Established alone
requests_change_if : (established : Bool) (a : Shown)
    → ChangesControl a (if established then first_request_behind (repeat_polled a) else (a, [])).0
requests_change_if true a =
    let again = repeated a.resets.own in
    behind_changes a (repeat_polled a) (again_changes a again.0 again.1)
requests_change_if false a = refl

-- requests to reset streams change those of this side, and what waits beside DATA
pub requests_change : (a : Shown) → ChangesControl a (requests_polled a).0
unfolding requests_polled
requests_change a = requests_change_if (is_established a.state) a

-- What follows DATA

-- the acknowledgement, where it is due, and FORWARD TSN, where it is
abbrev pub after_requests : Shown → Shown
after_requests y = record y { receiver = (ack_polled y).0.receiver; sender = forward_given y.sender }

acknowledged_if : (due : Bool) (b : Shown) → is_due b.receiver.ack_state ≡ due
    → (ack_polled b).0 ≡ record b { receiver = (ack_polled b).0.receiver }
unfolding ack_polled
acknowledged_if true b e = rw e refl
acknowledged_if false b e = rw e refl

pub acknowledged_is : (b : Shown) → (ack_polled b).0 ≡ record b { receiver = (ack_polled b).0.receiver }
acknowledged_is b = acknowledged_if (is_due b.receiver.ack_state) b refl

forward_is : (b : Shown) → (forward_polled b).0 ≡ record b { sender = forward_given b.sender }
unfolding forward_polled
forward_is b = refl

-- what the exchange of a poll leaves
pub exchange_leaves : (a : Shown) (now : ℕ) → exchanges_data a.state ≡ true
    → (exchange_polled a now).0 ≡ after_requests (requests_polled (data_after a now).0).0
unfolding exchange_polled
exchange_leaves a now e =
    let x = data_after a now in
    let y = (requests_polled x.0).0 in
    ap (λ (w : Shown × List (List ℕ)). w.0)
    (cond-true (exchanges_data a.state) (forward_after (ack_after (requests_after x))) (a, []) e)
    ∙ after_is x ∙ forward_is (ack_polled y).0
    ∙ ap (λ (w : Shown). record w { sender = forward_given w.sender }) (acknowledged_is y)

-- the packets of a poll behind those that wait, while DATA is exchanged: DATA, requests to reset streams, the
-- acknowledgement where it is due, and FORWARD TSN where it is given
pub exchange_said : (b : Shown) (now : ℕ) → exchanges_data b.state ≡ true
    → (exchange_polled b now).1
    ≡ datagrams_of (header_of b.handshake) (data_polled b now).1
    ++ requests_given (header_of b.handshake) (requests_sent (data_after b now).0) ++ acks_given b
    ++ (if gives_forward (data_polled b now).0.sender then
    packet_bytes (header_of b.handshake) (forward_chunk (data_polled b now).0) else [])
unfolding exchange_polled
exchange_said b now e =
    ap (λ (x : Shown × List (List ℕ)). x.1)
    (cond-true (exchanges_data b.state) (forward_after (ack_after (requests_after (data_after b now)))) (b, []) e)
    ∙ packets_said (data_after b now) b (data_after_stays b now)

-- What goes before it

-- DATA does not look at requests of this side, nor at what waits beside it
pub data_apart : (a : Shown) (own : OwnView) (control : List Control) (now : ℕ)
    → (data_after (with_own_control a own control) now).0 ≡ with_own_control (data_after a now).0 own control
unfolding data_polled
data_apart a own control now = refl

pub data_apart_packets : (a : Shown) (own : OwnView) (control : List Control) (now : ℕ)
    → (data_polled (with_own_control a own control) now).1 ≡ (data_polled a now).1
unfolding data_polled
data_apart_packets a own control now = refl

-- what waited, given out, changes requests of this side and itself
pub control_leaves : (a : Shown)
    → (control_polled a).0 ≡ with_own_control a (control_polled a).0.resets.own (control_polled a).0.control
control_leaves a = control_changes a

-- The front of a poll: what waits, while DATA is exchanged what follows, and the timer of the active request.
pub front_leaves : (a : Shown) (now : ℕ)
    → (open_polled a now).0 ≡ with_reconfig_run (exchange_polled (control_polled a).0 now).0 now
front_leaves a now =
    ap (λ (z : Shown). with_reconfig_run z now)
    (both_first (control_polled a).1 (exchange_polled (control_polled a).0 now))

pub front_gives : (a : Shown) (now : ℕ)
    → (open_polled a now).1 ≡ (control_polled a).1 ++ (exchange_polled (control_polled a).0 now).1
front_gives a now = both_second (control_polled a).1 (exchange_polled (control_polled a).0 now)

-- the timer of the active request leaves all but the timers
run_sender_if : (runs : Bool) (a b : Shown) → b.sender ≡ a.sender → (if runs then b else a).sender ≡ a.sender
run_sender_if true a b e = e
run_sender_if false a b e = refl

pub run_sender : (a : Shown) (now : ℕ) → (with_reconfig_run a now).sender ≡ a.sender
run_sender a now = run_sender_if _ a _ refl

-- What the front of a poll leaves while DATA is exchanged: behind its DATA, and a shutdown that went on there, requests
-- of this side and what waits beside DATA changed, then the acknowledgement and FORWARD TSN were given, and the timer
-- of the active request runs.
pub record PolledFrom (a : Shown) (now : ℕ) : Type 0 where
  pub asked : Shown
  pub requests : ChangesControl (data_after a now).0 asked
  pub there : (open_polled a now).0 ≡ with_reconfig_run (after_requests asked) now

pub polled_from : (a : Shown) (now : ℕ) → exchanges_data a.state ≡ true → PolledFrom a now
polled_from a now e =
    let b = (control_polled a).0 in
    let same = control_leaves a in
    let there : exchanges_data b.state ≡ true = ap (λ (z : Shown). exchanges_data z.state) same ∙ e in
    let x = (data_after b now).0 in
    let y = (requests_polled x).0 in
    let data_is : x ≡ with_own_control (data_after a now).0 b.resets.own b.control =
    ap (λ (z : Shown). (data_after z now).0) same ∙ data_apart a b.resets.own b.control now in
    record {
      asked = y;
      requests =
          requests_change x ∙ ap (λ (z : Shown). with_own_control z y.resets.own y.control) data_is;
      there =
          front_leaves a now
          ∙ ap (λ (z : Shown). with_reconfig_run z now) (exchange_leaves b now there);
    }

-- a whole poll leaves the sender that its DATA left, with FORWARD TSN given
pub polled_sender : (a : Shown) (now : ℕ) → exchanges_data a.state ≡ true
    → (polled a now).0.sender ≡ forward_given (data_polled a now).0.sender
polled_sender a now e =
    let p = polled_from a now e in
    ended_sender a now
    ∙ ap (λ (z : Shown). z.sender) p.there
    ∙ run_sender (after_requests p.asked) now
    ∙ ap (λ (z : Shown). forward_given z.sender) p.requests

-- in another state the front gives what waits alone
pub silent_is : (a : Shown) (now : ℕ) → exchanges_data a.state ≡ false
    → (open_polled a now).0 ≡ with_reconfig_run (control_polled a).0 now
unfolding exchange_polled
silent_is a now e =
    let b = (control_polled a).0 in
    let there : exchanges_data b.state ≡ false = ap (λ (z : Shown). exchanges_data z.state) (control_leaves a) ∙ e in
    front_leaves a now
    ∙ ap (λ (x : Shown × List (List ℕ)). with_reconfig_run x.0 now)
    (cond-false (exchanges_data b.state) (forward_after (ack_after (requests_after (data_after b now)))) (b, []) there)

-- and the sender stays
pub silent_sender : (a : Shown) (now : ℕ) → exchanges_data a.state ≡ false → (polled a now).0.sender ≡ a.sender
silent_sender a now e =
    ended_sender a now
    ∙ ap (λ (z : Shown). z.sender) (silent_is a now e)
    ∙ run_sender (control_polled a).0 now
    ∙ ap (λ (z : Shown). z.sender) (control_leaves a)

run_closing_if : (runs : Bool) (a b : Shown) → b.state ≡ a.state
    → is_closing (if runs then b else a).state ≡ is_closing a.state
run_closing_if true a b e = ap is_closing e
run_closing_if false a b e = refl

-- where no shutdown goes on either, that is all
pub silent_poll : (a : Shown) (now : ℕ) → exchanges_data a.state ≡ false → is_closing a.state ≡ false
    → (polled a now).0 ≡ with_reconfig_run (control_polled a).0 now
silent_poll a now e f =
    let b = (control_polled a).0 in
    let c = with_reconfig_run b now in
    let still : is_closing c.state ≡ false =
    run_closing_if _ b _ refl ∙ ap (λ (z : Shown). is_closing z.state) (control_leaves a) ∙ f in
    polled_ends a now
    ∙ ap (λ (z : Shown). (shutdown_polled z now).0) (silent_is a now e)
    ∙ ap (λ (x : Shown × List (List ℕ)). x.0) (quiet_end c now still)
