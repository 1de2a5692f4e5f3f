-- What waits to go out stays beside streams as an association is polled for packets: requests have places alone there.
use Rattle.std.proofs.Common.{◌≡◌, refl, ℕ, Bool, true, false, List, [], ◌∷◌, Option, Some, None, length, fold, ◌==◌}
use Rattle.std.proofs.Common.{◌-◌, if◌then◌else◌}
use Rattle.sctp_wire_types.specs.declared.chunk.ChunkPayloadData.{ChunkPayloadData}
use Rattle.sctp_wire_types.specs.declared.param.ParamOutgoingResetRequest.{ParamOutgoingResetRequest}
use Rattle.sctp_wire.specs.DataPackets.{datagrams_of}
use Rattle.sctp_parts.specs.declared.timer.Timer.TheVariants as names
use Rattle.sctp_parts.specs.Timers.{started}
use Rattle.sctp_streams.specs.declared.event.AssociationError.TheVariants as reasons
use Rattle.sctp_inbound.specs.Handshake.{header_of}
use Rattle.sctp_reset_requests.specs.Own.{OwnView, asked, repeated, sent_first}
use Rattle.sctp_resets.specs.Resets.{request_sent, with_asked, with_own}
use Rattle.sctp_resets.proofs.ListsOver.{all_taken}
use Rattle.sctp_assoc.specs.declared.control.Control.{Control}
use Rattle.sctp_assoc.specs.declared.control.Control.TheVariants as controls
use Rattle.sctp_assoc.specs.Calls.{exchanges_data, is_established}
use Rattle.sctp_assoc.specs.Gather.{ack_after, ack_polled, after_both, control_polled, data_after, data_polled}
use Rattle.sctp_assoc.specs.Gather.{exchange_after, exchange_polled, first_request_behind, first_request_polled}
use Rattle.sctp_assoc.specs.Gather.{forward_after, forward_polled, is_due, open_polled, polled, reconfig_run_after}
use Rattle.sctp_assoc.specs.Gather.{repeat_polled, request_made, requests_after, requests_polled, with_control_given}
use Rattle.sctp_assoc.specs.Gather.{with_request_again, with_request_asked, with_request_placed, with_request_sent}
use Rattle.sctp_assoc.specs.Gather.{without_control}
use Rattle.sctp_assoc.specs.Resets.{with_reconfig_run}
use Rattle.sctp_assoc.specs.Shown.{Shown}
use Rattle.sctp_sides.proofs.EndedPolls.{by_poll_end, complete_given}
use Rattle.sctp_course_sides.specs.Spelled.{ControlIsBeside, WaitsBeside}
use Rattle.sctp_course_sides.proofs.BesideInChunks.{Keeps, asking_keeps, closed_keeps}

-- this side's requests are these
abbrev with_own_requests : Shown → OwnView → Shown
with_own_requests a o = record a { resets = (let r = a.resets in record r { own = o }) }

-- What waits goes out

placed_keeps : (a : Shown) (packets : List (List ℕ)) (x : OwnView × Option ParamOutgoingResetRequest)
    → Keeps a (with_request_placed (a, packets) (with_own a.resets x)).0
placed_keeps a packets (o, None) x = asking_keeps true (with_own_requests a o) x
placed_keeps a packets (o, Some param) x = x

given_keeps : (x : Shown × List (List ℕ)) (k : Control) → Keeps x.0 (with_control_given x k).0
given_keeps (a, packets) (controls.Packet p) x = x
given_keeps (a, packets) controls.OwnRequest x = placed_keeps a packets (sent_first a.resets.own a.sender.queue) x

all_given_keep : (ks : List Control) (x : Shown × List (List ℕ)) → Keeps x.0 (fold with_control_given x ks).0
all_given_keep [] x h = h
all_given_keep (k ∷ ks) x h = all_given_keep ks (with_control_given x k) (given_keeps x k h)

control_keeps : (a : Shown) → Keeps a (control_polled a).0
control_keeps a x = all_given_keep a.control (without_control a, []) tt

-- Requests go out behind DATA

again_keeps : (a : Shown) (x : OwnView × Option ParamOutgoingResetRequest)
    → Keeps a (with_request_again a (with_own a.resets x)).0
again_keeps a (o, None) x = x
again_keeps a (o, Some param) x = x

made_keeps : (a : Shown) (x : OwnView × Bool) → Keeps a (with_request_asked a (with_asked a.resets x))
made_keeps a (o, made) x = asking_keeps made (with_own_requests a o) x

sent_keeps : (a : Shown) (x : OwnView × Option ParamOutgoingResetRequest)
    → Keeps a (with_request_sent a (with_own a.resets x)).0
sent_keeps a (o, None) x = x
sent_keeps a (o, Some param) x = all_taken ControlIsBeside (length a.control - 1) a.control x

first_if : (none : Bool) (a : Shown)
    → Keeps a (if none then (a, []) else with_request_sent a (request_sent a.resets a.sender.queue)).0
first_if true a x = x
first_if false a x = sent_keeps a (sent_first a.resets.own a.sender.queue) x

-- what a step leaves and gives
abbrev Given : Shown × List (List ℕ) → Type 0
Given x = WaitsBeside x.0

both_keep : (packets : List (List ℕ)) (x : Shown × List (List ℕ)) → Given x → Given (after_both packets x)
both_keep packets (a, more) h = h

behind_keeps : (x : Shown × List (List ℕ)) → Given x → Given (first_request_behind x)
behind_keeps (a, packets) h =
    let b : Shown = request_made a in
    both_keep packets (first_request_polled b)
    (first_if (length b.control == 0) b (made_keeps a (asked a.resets.own a.sender.queue a.resets.peer) h))

requests_if : (established : Bool) (a : Shown) → WaitsBeside a
    → Given (if established then first_request_behind (repeat_polled a) else (a, []))
requests_if true a h = behind_keeps (repeat_polled a) (again_keeps a (repeated a.resets.own) h)
requests_if false a h = h

requests_keep : (a : Shown) → WaitsBeside a → Given (requests_polled a)
unfolding requests_polled
requests_keep a h = requests_if (is_established a.state) a h

requests_after_keep : (x : Shown × List (List ChunkPayloadData)) → WaitsBeside x.0 → Given (requests_after x)
requests_after_keep (a, bundles) h =
    both_keep (datagrams_of (header_of a.handshake) bundles) (requests_polled a) (requests_keep a h)

-- DATA, acknowledgements and FORWARD TSN

data_keeps : (a : Shown) (now : ℕ) → Keeps a (data_after a now).0
unfolding data_polled
data_keeps a now h = h

ack_if : (due : Bool) (a : Shown) → is_due a.receiver.ack_state ≡ due → WaitsBeside a → Given (ack_polled a)
unfolding ack_polled
ack_if true a e = rw e (λ h. h)
ack_if false a e = rw e (λ h. h)

ack_after_keeps : (x : Shown × List (List ℕ)) → Given x → Given (ack_after x)
ack_after_keeps (a, packets) h = both_keep packets (ack_polled a) (ack_if (is_due a.receiver.ack_state) a refl h)

forward_keeps : (a : Shown) → WaitsBeside a → Given (forward_polled a)
unfolding forward_polled
forward_keeps a h = h

forward_after_keeps : (x : Shown × List (List ℕ)) → Given x → Given (forward_after x)
forward_after_keeps (a, packets) h = both_keep packets (forward_polled a) (forward_keeps a h)

-- All of that while DATA is exchanged, and then the timer of a request

exchange_keeps : (exchanges : Bool) (a : Shown) (now : ℕ) → exchanges_data a.state ≡ exchanges → WaitsBeside a
    → Given (exchange_polled a now)
unfolding exchange_polled
exchange_keeps true a now e =
    rw e (λ h. forward_after_keeps (ack_after (requests_after (data_after a now)))
    (ack_after_keeps (requests_after (data_after a now)) (requests_after_keep (data_after a now) (data_keeps a now h))))
exchange_keeps false a now e = rw e (λ h. h)

exchange_after_keeps : (x : Shown × List (List ℕ)) (now : ℕ) → Given x → Given (exchange_after x now)
exchange_after_keeps (a, packets) now h =
    both_keep packets (exchange_polled a now) (exchange_keeps (exchanges_data a.state) a now refl h)

run_if : (starts : Bool) (a : Shown) (now : ℕ)
    → Keeps a (if starts then record a { timers = started names.Reconfig now a.estimate.rto a.timers } else a)
run_if true a now h = h
run_if false a now h = h

run_keeps : (a : Shown) (now : ℕ) → Keeps a (with_reconfig_run a now)
run_keeps a now h = run_if _ a now h

run_after_keeps : (x : Shown × List (List ℕ)) (now : ℕ) → Given x → Given (reconfig_run_after x now)
run_after_keeps (a, packets) now h = run_keeps a now h

front_keeps : (a : Shown) (now : ℕ) → Keeps a (open_polled a now).0
front_keeps a now h =
    run_after_keeps (exchange_after (control_polled a) now) now
    (exchange_after_keeps (control_polled a) now (control_keeps a h))

-- the end of a poll leaves what waits, or closes
pub poll_stays_beside : (a : Shown) (now : ℕ) → WaitsBeside a → WaitsBeside (polled a now).0
poll_stays_beside a now h =
    let m : Shown = (open_polled a now).0 in
    let front : WaitsBeside m = front_keeps a now h in
    by_poll_end WaitsBeside a now (λ e due timer. front)
    (λ e open_still. closed_keeps false (complete_given m) reasons.AssociationClosed front)
