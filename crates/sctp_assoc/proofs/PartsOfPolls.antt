-- The parts of a poll, one behind another: what each leaves as it was.
use Rattle.std.proofs.Common.{◌≡◌, refl, sym, ap, ◌∙◌, ℕ, Bool, true, false, if◌then◌else◌, List, [], ◌++◌}
use Rattle.std.proofs.lemmas.List.{append_assoc}
use Rattle.std.specs.Prelude.{OnOk}
use Rattle.std.proofs.Common.{Result, Ok, Err, ◌==◌, ◌&&◌, not, is_some, subst, length, Option, Some, None}
use Rattle.sctp_wire_types.specs.declared.param.ParamOutgoingResetRequest.{ParamOutgoingResetRequest}
use Rattle.sctp_parts.specs.declared.timer.Timer.TheVariants as names
use Rattle.sctp_parts.specs.Timers.{Timers, moment_of, started}
use Rattle.sctp_inbound.specs.Receiver.{acknowledged}
use Rattle.sctp_reset_requests.specs.Own.{OwnView, asked, repeated, sent_first}
use Rattle.sctp_resets.specs.Resets.{ResetsView, request_asked, request_sent, with_asked, with_own}
use Rattle.sctp_assoc.specs.Calls.{is_established}
use Rattle.sctp_assoc.specs.Gather.{ack_after, ack_polled, after_both, first_request_behind, first_request_polled}
use Rattle.sctp_assoc.specs.Gather.{forward_after, forward_polled, is_due, repeat_polled, request_made, requests_polled}
use Rattle.sctp_assoc.specs.Gather.{sack_packet, with_request_again, with_request_asked, with_request_sent}
use Rattle.sctp_assoc.specs.Resets.{asking_if, with_reconfig_run}
use Rattle.sctp_assoc.specs.Shown.{Shown}

pub both_first : (packets : List (List ℕ)) (x : Shown × List (List ℕ)) → (after_both packets x).0 ≡ x.0
both_first packets (a, more) = refl

pub both_second : (packets : List (List ℕ)) (x : Shown × List (List ℕ)) → (after_both packets x).1 ≡ packets ++ x.1
both_second packets (a, more) = refl

pub behind_both : (xs ys : List (List ℕ)) (x : Shown × List (List ℕ))
    → after_both xs (after_both ys x) ≡ after_both (xs ++ ys) x
behind_both xs ys (a, more) = ap (λ (z : List (List ℕ)). (a, z)) (sym (append_assoc xs ys more))

-- FORWARD TSN behind other packets
pub after_forward : (first : List (List ℕ)) (y : Shown × List (List ℕ))
    → forward_after (after_both first y) ≡ after_both (first ++ y.1) (forward_polled y.0)
after_forward first (c, more) = refl

-- the acknowledgement behind other packets
pub after_ack : (first : List (List ℕ)) (y : Shown × List (List ℕ))
    → ack_after (after_both first y) ≡ after_both (first ++ y.1) (ack_polled y.0)
after_ack first (c, more) = refl

-- an acknowledgement leaves what was sent and the handshake
abbrev pub acked_if : Bool → Shown → Shown × List (List ℕ)
acked_if due b = if due then (record b { receiver = acknowledged b.receiver }, sack_packet b) else (b, [])

ack_sender_if : (due : Bool) (b : Shown)
    → ((acked_if due b).0.sender ≡ b.sender) × ((acked_if due b).0.handshake ≡ b.handshake)
ack_sender_if true b = (refl, refl)
ack_sender_if false b = (refl, refl)

pub ack_sender : (b : Shown)
    → ((ack_polled b).0.sender ≡ b.sender) × ((ack_polled b).0.handshake ≡ b.handshake)
unfolding ack_polled
ack_sender b = ack_sender_if (is_due b.receiver.ack_state) b

-- Requests to reset streams leave what was sent, what came and the handshake; of the resets they change the requests of
-- this side alone
pub record LeavesTheRest (a b : Shown) : Type 0 where
  pub sender : b.sender ≡ a.sender
  pub receiver : b.receiver ≡ a.receiver
  pub handshake : b.handshake ≡ a.handshake
  pub streams : b.streams ≡ a.streams
  pub events : b.events ≡ a.events
  pub generations : b.resets.generations ≡ a.resets.generations

left_itself : (a : Shown) → LeavesTheRest a a
left_itself a = record {
  sender = refl;
  receiver = refl;
  handshake = refl;
  streams = refl;
  events = refl;
  generations = refl;
}

pub left_back : (a b : Shown) → LeavesTheRest a b → LeavesTheRest b a
left_back a b rest = record {
  sender = sym rest.sender;
  receiver = sym rest.receiver;
  handshake = sym rest.handshake;
  streams = sym rest.streams;
  events = sym rest.events;
  generations = sym rest.generations;
}

pub left_on : (a b c : Shown) → LeavesTheRest a b → LeavesTheRest b c → LeavesTheRest a c
left_on a b c first next = record {
  sender = next.sender ∙ first.sender;
  receiver = next.receiver ∙ first.receiver;
  handshake = next.handshake ∙ first.handshake;
  streams = next.streams ∙ first.streams;
  events = next.events ∙ first.events;
  generations = next.generations ∙ first.generations;
}

repeat_leaves : (a : Shown) (o : OwnView) (param : Option ParamOutgoingResetRequest)
    → LeavesTheRest a (with_request_again a (with_own a.resets (o, param))).0
repeat_leaves a o None = record {
  sender = refl;
  receiver = refl;
  handshake = refl;
  streams = refl;
  events = refl;
  generations = refl;
}
repeat_leaves a o (Some param) = record {
  sender = refl;
  receiver = refl;
  handshake = refl;
  streams = refl;
  events = refl;
  generations = refl;
}

made_leaves : (a : Shown) (o : OwnView) (made : Bool)
    → LeavesTheRest a (with_request_asked a (with_asked a.resets (o, made)))
made_leaves a o true = record {
  sender = refl;
  receiver = refl;
  handshake = refl;
  streams = refl;
  events = refl;
  generations = refl;
}
made_leaves a o false = record {
  sender = refl;
  receiver = refl;
  handshake = refl;
  streams = refl;
  events = refl;
  generations = refl;
}

sent_leaves : (a : Shown) (o : OwnView) (param : Option ParamOutgoingResetRequest)
    → LeavesTheRest a (with_request_sent a (with_own a.resets (o, param))).0
sent_leaves a o None = record {
  sender = refl;
  receiver = refl;
  handshake = refl;
  streams = refl;
  events = refl;
  generations = refl;
}
sent_leaves a o (Some param) = record {
  sender = refl;
  receiver = refl;
  handshake = refl;
  streams = refl;
  events = refl;
  generations = refl;
}

abbrev pub first_request_if : Bool → Shown → Shown × List (List ℕ)
first_request_if none a = if none then (a, []) else with_request_sent a (request_sent a.resets a.sender.queue)

first_leaves : (none : Bool) (a : Shown) → LeavesTheRest a (first_request_if none a).0
first_leaves true a = left_itself a
first_leaves false a =
    let sent = sent_first a.resets.own a.sender.queue in
    sent_leaves a sent.0 sent.1

behind_leaves : (a : Shown) (y : Shown × List (List ℕ)) → LeavesTheRest a y.0
    → LeavesTheRest a (first_request_behind y).0
behind_leaves a (b, packets) first =
    let made = asked b.resets.own b.sender.queue b.resets.peer in
    let c = request_made b in
    let rest = first_leaves (length c.control == 0) c in
    let whole = left_on a c (first_request_polled c).0 (left_on a b c first (made_leaves b made.0 made.1)) rest in
    subst (LeavesTheRest a) (sym (both_first packets (first_request_polled c))) whole

-- what the parts of the code leave, one behind another
made_as : (v a : Shown) (r : ResetsView) (made : Bool) → v ≡ a
    → request_asked v.resets v.sender.queue ≡ (r, made)
    → asking_if made (record v { resets = r }) ≡ request_made a
made_as v a r made e asked =
    subst (λ (z : Shown). asking_if made (record v { resets = r }) ≡ request_made z) e
    (sym (ap (with_request_asked v) asked))

pub made_on : {T E : Type 0} (result : Result T E) (v a b : Shown) (r : ResetsView) (made : Bool) → v ≡ a
    → request_asked v.resets v.sender.queue ≡ (r, made)
    → OnOk result (b ≡ asking_if made (record v { resets = r })) → OnOk result (b ≡ request_made a)
made_on (Ok value) v a b r made e asked is = is ∙ made_as v a r made e asked
made_on (Err error) v a b r made e asked is = tt

behind_repeat : (before : List (List ℕ)) (y : Shown × List (List ℕ)) (b c : Shown) (packets : List (List ℕ))
    → after_both before y ≡ (b, packets) → c ≡ request_made b
    → after_both before (first_request_behind y) ≡ after_both packets (first_request_polled c)
behind_repeat before (a, more) b c packets again made =
    behind_both before more (first_request_polled (request_made a))
    ∙ ap (λ (z : Shown × List (List ℕ)). after_both z.1 (first_request_polled (request_made z.0))) again
    ∙ ap (λ (z : Shown). after_both packets (first_request_polled z)) (sym made)

-- in Established alone
abbrev pub requests_if : Bool → Shown → Shown × List (List ℕ)
requests_if established a = if established then first_request_behind (repeat_polled a) else (a, [])

pub requests_are : (a b c : Shown) (before packets : List (List ℕ)) → is_established a.state ≡ true
    → after_both before (repeat_polled a) ≡ (b, packets) → c ≡ request_made b
    → after_both before (requests_polled a) ≡ after_both packets (first_request_polled c)
unfolding requests_polled
requests_are a b c before packets established again made =
    ap (λ (e : Bool). after_both before (requests_if e a)) established
    ∙ behind_repeat before (repeat_polled a) b c packets again made

-- the active request again, and then the one that is made
pub requests_made_leave : (a : Shown) → LeavesTheRest a (request_made (repeat_polled a).0)
requests_made_leave a =
    let again = repeated a.resets.own in
    let b = (repeat_polled a).0 in
    let made = asked b.resets.own b.sender.queue b.resets.peer in
    left_on a b (request_made b) (repeat_leaves a again.0 again.1) (made_leaves b made.0 made.1)

leave_if : (established : Bool) (a : Shown) → LeavesTheRest a (requests_if established a).0
leave_if true a =
    let again = repeated a.resets.own in
    behind_leaves a (repeat_polled a) (repeat_leaves a again.0 again.1)
leave_if false a = left_itself a

pub requests_leave : (a : Shown) → LeavesTheRest a (requests_polled a).0
unfolding requests_polled
requests_leave a = leave_if (is_established a.state) a

run_leaves : (runs : Bool) (a : Shown) (timers : Timers)
    → LeavesTheRest a (if runs then record a { timers = timers } else a)
run_leaves true a timers = record {
  sender = refl;
  receiver = refl;
  handshake = refl;
  streams = refl;
  events = refl;
  generations = refl;
}
run_leaves false a timers = left_itself a

-- so does the timer of the active request
pub reconfig_run_leaves : (a : Shown) (now : ℕ) → LeavesTheRest a (with_reconfig_run a now)
reconfig_run_leaves a now =
    run_leaves (is_some a.resets.own.active && not (is_some (moment_of names.Reconfig a.timers))) a
    (started names.Reconfig now a.estimate.rto a.timers)
