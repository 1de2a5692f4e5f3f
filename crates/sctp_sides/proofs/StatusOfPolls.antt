-- A poll for packets leaves an association's stage as it is, up to the chunk of a shutdown that goes out last; SHUTDOWN
-- COMPLETE closes.
use Rattle.std.proofs.Common.{◌++◌, ◌≡◌, refl, sym, ◌∙◌, ℕ, zero, suc, Bool, true, false, ◌&&◌, if◌then◌else◌, not, eqb}
use Rattle.std.proofs.Common.{List, [], ◌∷◌, fold, length, take, Option, Some, None, subst}
use Rattle.std.proofs.lemmas.Bool.{false≢true}
use Rattle.std.specs.List.{AllByRecursion}
use Rattle.sctp_wire_types.specs.declared.chunk.ChunkPayloadData.{ChunkPayloadData}
use Rattle.sctp_parts.specs.declared.timer.Timer.TheVariants as names
use Rattle.sctp_parts.specs.Timers.{started}
use Rattle.sctp_wire_types.specs.declared.param.ParamOutgoingResetRequest.{ParamOutgoingResetRequest}
use Rattle.sctp_wire.specs.DataPackets.{datagrams_of}
use Rattle.sctp_resets.specs.Resets.{ResetsView, request_again, request_asked, request_sent}
use Rattle.sctp_assoc.specs.declared.control.Control.{Control}
use Rattle.sctp_assoc.specs.declared.control.Control.TheVariants as controls
use Rattle.sctp_assoc.specs.Gather.{ack_after, ack_polled, control_polled, data_after, data_polled, exchange_after}
use Rattle.sctp_assoc.specs.Gather.{exchange_polled, open_polled, polled}
use Rattle.sctp_assoc.specs.Gather.{first_request_behind, first_request_polled, forward_after, forward_polled, is_due}
use Rattle.sctp_assoc.specs.Gather.{reconfig_run_after, repeat_polled, request_made, requests_after, requests_polled}
use Rattle.sctp_assoc.specs.Gather.{with_control_given, with_request_again, with_request_asked, with_request_placed}
use Rattle.sctp_assoc.specs.Gather.{with_request_sent, without_control, without_last}
use Rattle.sctp_outbound_queue.specs.Waiting.{Waiting}
use Rattle.sctp_outbound_queue.specs.Outbound.{pieces_waiting}
use Rattle.sctp_streams.specs.Streams.{StreamMap}
use Rattle.sctp_inbound.specs.Handshake.{header_of}
use Rattle.sctp_outbound.specs.declared.sender.Sender.{Sender}
use Rattle.sctp_outbound.specs.Sender.{can_send_next, sent_new, sent_one, sent_within}
use Rattle.sctp_parts.specs.Timers.{TimerState}
use Rattle.sctp_streams.specs.declared.event.AssociationError.TheVariants as reasons
use Rattle.sctp_assoc.specs.declared.shutdown.ShutdownDue.{ShutdownDue}
use Rattle.sctp_assoc.specs.Calls.{exchanges_data, is_established}
use Rattle.sctp_assoc.specs.Closing.{is_closed_state}
use Rattle.sctp_assoc.specs.Shutdown.{completes_shutdown, shutdown_continued}
use Rattle.sctp_outbound.specs.Abandonment.{abandoned_of, first_dropped, tail_given_up}
use Rattle.sctp_sides.proofs.GivingUpKeeps.{KeptByPolls, data_poll_kept}
use Rattle.sctp_sides.specs.NoReset.{HasNoReset}
use Rattle.sctp_sides.specs.SideLaws.{Closes, IsSameStatus, KeepsTheStage, PollsKeepTheStage}
use Rattle.sctp_sides.specs.SideLaws.{TheSameStatusIsTheSameStage}
use Rattle.sctp_assoc.specs.Shown.{Shown, uses_forward_tsn}
use Rattle.sctp_assoc.proofs.PartsOfPolls.{both_first}
use Rattle.sctp_sides.proofs.HandshakeTruth.{keeps_saying, truthful_silent, truthful_still_by}
use Rattle.sctp_sides.proofs.EndedPolls.{by_poll_end, complete_given, ended_is_closed, ended_shutdown}
use Rattle.sctp_sides.proofs.EndedPolls.{with_answer_timed}
use Rattle.sctp_sides.proofs.PacketLaws.{faults_close}
use Rattle.sctp_sides.proofs.ResetsNoMore.{closes_end_resets}
use Rattle.sctp_sides.proofs.Status.{asking_status, continued_stage, more_waits, stage_by_status, stage_on, status_by}
use Rattle.sctp_sides.proofs.Status.{status_behind, status_on, status_same}

-- Stages

pub the_same_status_is_the_same_stage : TheSameStatusIsTheSameStage
the_same_status_is_the_same_stage = stage_by_status

-- DATA

sent_one_size : (ms : List Waiting) (s : Sender) (now : ℕ)
    → (sent_one ms s now).0.max_payload_size ≡ s.max_payload_size
unfolding sent_one
sent_one_size [] s now = refl
sent_one_size (m ∷ ms) s now = refl

sent_within_if : (c : Bool) (x y : Sender × List ChunkPayloadData) (size : ℕ) → x.0.max_payload_size ≡ size
    → y.0.max_payload_size ≡ size
    → (if c then x else y).0.max_payload_size ≡ size
sent_within_if true x y size e f = e
sent_within_if false x y size e f = f

sent_within_size : (n : ℕ) (s : Sender) (now : ℕ) → (sent_within n s now).0.max_payload_size ≡ s.max_payload_size
sent_within_size zero s now = refl
sent_within_size (suc n) s now =
    let one = sent_one s.queue.pending s now in
    let rest = sent_within n one.0 now in
    sent_within_if (can_send_next s) (rest.0, one.1 ++ rest.1) (s, []) s.max_payload_size
    (sent_within_size n one.0 now ∙ sent_one_size s.queue.pending s now) refl

sent_new_size : (s : Sender) (now : ℕ) → (sent_new s now).0.max_payload_size ≡ s.max_payload_size
sent_new_size s now =
    sent_within_if (eqb (length s.queue.in_flight) 0 && not (can_send_next s)) (sent_one s.queue.pending s now)
    (sent_within (pieces_waiting s.queue.pending) s now) s.max_payload_size
    (sent_one_size s.queue.pending s now) (sent_within_size (pieces_waiting s.queue.pending) s now)

-- what a poll sends and gives up are pieces of the same size
abbrev HasSize : ℕ → Sender × StreamMap → Type 0
HasSize n x = x.0.max_payload_size ≡ n

abandoned_size : (n t : ℕ) (x : Sender × StreamMap) → HasSize n x → HasSize n (abandoned_of t x)
unfolding abandoned_of
abandoned_size n t (s, m) e = e

tail_size : (n now : ℕ) (x : Sender × StreamMap) → HasSize n x → HasSize n (tail_given_up now x)
unfolding tail_given_up
tail_size n now (s, m) e = e

dropped_size : (n now : ℕ) (x : Sender × StreamMap) → HasSize n x → HasSize n (first_dropped now x)
unfolding first_dropped
dropped_size n now (s, m) e = e

polls_keep_the_size : (n : ℕ) (uses : Bool) (now : ℕ) → KeptByPolls (HasSize n) uses now
polls_keep_the_size n uses now = record {
  given_up = λ used. record {
    started = λ x e. e;
    abandoned = abandoned_size n;
    tail = tail_size n now;
    dropped = dropped_size n now;
  };
  marked = λ x e. e;
  missing = λ x e. e;
  new = λ x e. sent_new_size x.0 now ∙ e;
}

data_polled_status : (a : Shown) (now : ℕ) → IsSameStatus a (data_polled a now).0
unfolding data_polled
data_polled_status a now =
    let size = a.sender.max_payload_size in
    status_by a _ refl refl refl
    (data_poll_kept (HasSize size) now a (polls_keep_the_size size (uses_forward_tsn a) now) refl) refl refl refl

-- a shutdown may go on behind it
data_after_stage : (a : Shown) (now : ℕ) → KeepsTheStage a (data_after a now).0
data_after_stage a now =
    let b : Shown = (data_polled a now).0 in
    stage_on a b (shutdown_continued b) (data_polled_status a now) (continued_stage b)

-- requests to reset streams, and what they leave waiting

fewer_waits : (P : Control → Type 0) (n : ℕ) (cs : List Control) → AllByRecursion P cs → AllByRecursion P (take n cs)
fewer_waits P zero cs all = tt
fewer_waits P (suc n) [] all = tt
fewer_waits P (suc n) (c ∷ cs) (one, rest) = (one, fewer_waits P n cs rest)

again_status : (a : Shown) (x : ResetsView × Option ParamOutgoingResetRequest)
    → IsSameStatus a (with_request_again a x).0
again_status a (r, None) = status_by a _ refl refl refl refl refl refl refl
again_status a (r, Some param) = status_by a _ refl refl refl refl refl refl refl

made_status : (a : Shown) (x : ResetsView × Bool) → IsSameStatus a (with_request_asked a x)
made_status a (r, made) =
    status_on a (record a { resets = r }) _ (status_by a (record a { resets = r }) refl refl refl refl refl refl refl)
    (asking_status made (record a { resets = r }))

sent_status : (a : Shown) (x : ResetsView × Option ParamOutgoingResetRequest) → IsSameStatus a (with_request_sent a x).0
sent_status a (r, None) = status_by a _ refl refl refl refl refl refl refl
sent_status a (r, Some param) = record {
  failed = refl;
  state = refl;
  lost = refl;
  size = refl;
  side = refl;
  handshake = refl;
  truthful = λ own t.
      truthful_still_by own a (record a { resets = r; control = without_last a.control }) t
      (keeps_saying a (record a { resets = r; control = without_last a.control }) refl refl)
      (λ P all. fewer_waits P _ a.control all);
}

first_request_status : (none : Bool) (a : Shown)
    → IsSameStatus a (if none then (a, []) else with_request_sent a (request_sent a.resets a.sender.queue)).0
first_request_status true a = status_same a
first_request_status false a = sent_status a (request_sent a.resets a.sender.queue)

behind_first_status : (x : Shown × List (List ℕ)) → IsSameStatus x.0 (first_request_behind x).0
behind_first_status (a, packets) =
    let b : Shown = request_made a in
    subst (IsSameStatus a) (sym (both_first packets (first_request_polled b)))
    (status_on a b _ (made_status a (request_asked a.resets a.sender.queue))
    (first_request_status (eqb (length b.control) 0) b))

requests_status_if : (established : Bool) (a : Shown)
    → IsSameStatus a (if established then first_request_behind (repeat_polled a) else (a, [])).0
requests_status_if true a =
    status_on a (repeat_polled a).0 _ (again_status a (request_again a.resets)) (behind_first_status (repeat_polled a))
requests_status_if false a = status_same a

requests_status : (a : Shown) → IsSameStatus a (requests_polled a).0
unfolding requests_polled
requests_status a = requests_status_if (is_established a.state) a

requests_after_status : (x : Shown × List (List ChunkPayloadData)) → IsSameStatus x.0 (requests_after x).0
requests_after_status (a, bundles) =
    subst (IsSameStatus a) (sym (both_first (datagrams_of (header_of a.handshake) bundles) (requests_polled a)))
    (requests_status a)

-- the acknowledgement and FORWARD TSN

ack_status : (due : Bool) (a : Shown) → is_due a.receiver.ack_state ≡ due → IsSameStatus a (ack_polled a).0
unfolding ack_polled
ack_status true a e = rw e (status_by a _ refl refl refl refl refl refl refl)
ack_status false a e = rw e (status_same a)

ack_after_status : (x : Shown × List (List ℕ)) → IsSameStatus x.0 (ack_after x).0
ack_after_status (a, packets) =
    subst (IsSameStatus a) (sym (both_first packets (ack_polled a)))
    (ack_status (is_due a.receiver.ack_state) a refl)

forward_after_status : (x : Shown × List (List ℕ)) → IsSameStatus x.0 (forward_after x).0
unfolding forward_polled
forward_after_status (a, packets) = status_by a _ refl refl refl refl refl refl refl

exchanged_if : (exchanges : Bool) (a : Shown) (now : ℕ) → exchanges_data a.state ≡ exchanges
    → KeepsTheStage a (exchange_polled a now).0
unfolding exchange_polled
exchanged_if true a now e =
    let x = data_after a now in
    let y = requests_after x in
    let z = ack_after y in
    rw e (status_behind a x.0 _ (data_after_stage a now)
    (status_on x.0 y.0 _ (requests_after_status x)
    (status_on y.0 z.0 _ (ack_after_status y) (forward_after_status z))))
exchanged_if false a now e = rw e (stage_by_status a a (status_same a))

without_status : (a : Shown) → IsSameStatus a (without_control a)
without_status a = record {
  failed = refl;
  state = refl;
  lost = refl;
  size = refl;
  side = refl;
  handshake = refl;
  truthful = λ own t. truthful_silent own a (without_control a) t (keeps_saying a (without_control a) refl refl) refl;
}

-- what waits, one after another

placed_status : (x : Shown × List (List ℕ)) (y : ResetsView × Option ParamOutgoingResetRequest)
    → IsSameStatus x.0 (with_request_placed x y).0
placed_status (a, packets) (r, None) =
    status_on a (record a { resets = r }) _ (status_by a (record a { resets = r }) refl refl refl refl refl refl refl)
    (more_waits (record a { resets = r }) controls.OwnRequest (λ own t. tt) tt)
placed_status (a, packets) (r, Some param) = status_by a _ refl refl refl refl refl refl refl

given_status : (x : Shown × List (List ℕ)) (c : Control) → IsSameStatus x.0 (with_control_given x c).0
given_status (a, packets) (controls.Packet c) = status_same a
given_status (a, packets) controls.OwnRequest =
    placed_status (a, packets) (request_sent a.resets a.sender.queue)

all_given_status : (cs : List Control) (x : Shown × List (List ℕ)) → IsSameStatus x.0 (fold with_control_given x cs).0
all_given_status [] x = status_same x.0
all_given_status (c ∷ cs) x =
    status_on x.0 (with_control_given x c).0 _ (given_status x c) (all_given_status cs (with_control_given x c))

control_status : (a : Shown) → IsSameStatus a (control_polled a).0
control_status a =
    status_on a (without_control a) _ (without_status a) (all_given_status a.control (without_control a, []))

exchange_after_stage : (x : Shown × List (List ℕ)) (now : ℕ) → KeepsTheStage x.0 (exchange_after x now).0
exchange_after_stage (a, packets) now =
    subst (KeepsTheStage a) (sym (both_first packets (exchange_polled a now)))
    (exchanged_if (exchanges_data a.state) a now refl)

run_status : (runs : Bool) (a b : Shown) → IsSameStatus a b → IsSameStatus a (if runs then b else a)
run_status true a b same = same
run_status false a b same = status_same a

run_after_status : (x : Shown × List (List ℕ)) (now : ℕ) → IsSameStatus x.0 (reconfig_run_after x now).0
run_after_status (a, packets) now =
    run_status _ a (record a { timers = started names.Reconfig now a.estimate.rto a.timers })
    (status_by a _ refl refl refl refl refl refl refl)

front_stage : (a : Shown) (now : ℕ) → KeepsTheStage a (open_polled a now).0
front_stage a now =
    let x = control_polled a in
    let y = exchange_after x now in
    stage_on a x.0 _ (control_status a)
    (status_behind x.0 y.0 _ (exchange_after_stage x now) (run_after_status y now))

-- The end of a poll

-- SHUTDOWN COMPLETE closes as a fault does
ended_closes : (m : Shown) → is_closed_state m.state ≡ false → Closes m (ended_shutdown m)
ended_closes m e =
    let b : Shown = complete_given m in
    let c : Closes b (ended_shutdown m) =
    subst (Closes b) (ended_is_closed m e) (faults_close b reasons.AssociationClosed) in
    let given = status_by m b refl refl refl refl refl refl refl in
    record {
      failed = c.failed;
      side = c.side;
      handshake = c.handshake;
      truthful = λ own t. c.truthful own (given.truthful own t);
      ends = c.ends;
      stays = λ closed. absurd (false≢true (sym e ∙ closed));
    }

ended_has_no_reset : (m : Shown) → is_closed_state m.state ≡ false → HasNoReset (ended_shutdown m)
ended_has_no_reset m e =
    subst HasNoReset (ended_is_closed m e) (closes_end_resets (complete_given m) reasons.AssociationClosed e)

-- what the end of a poll leaves, where it completes a shutdown or not
record EndsOnward (completes : Bool) (a m b : Shown) : Type 0 where
  same : completes ≡ false → KeepsTheStage a b
  closes : completes ≡ true → Closes m b
  was_open : completes ≡ true → is_closed_state m.state ≡ false
  no_reset : completes ≡ true → HasNoReset b

timed_onward : (completes : Bool) (a m : Shown) (due : ShutdownDue) (timer : TimerState) → completes ≡ false
    → KeepsTheStage a m → EndsOnward completes a m (with_answer_timed m due timer)
timed_onward completes a m due timer e front = record {
  same = λ _.
      status_behind a m (with_answer_timed m due timer) front (status_by m _ refl refl refl refl refl refl refl);
  closes = λ f. absurd (false≢true (sym e ∙ f));
  was_open = λ f. absurd (false≢true (sym e ∙ f));
  no_reset = λ f. absurd (false≢true (sym e ∙ f));
}

ended_onward : (completes : Bool) (a m : Shown) → completes ≡ true → is_closed_state m.state ≡ false
    → EndsOnward completes a m (ended_shutdown m)
ended_onward completes a m e open_still = record {
  same = λ f. absurd (false≢true (sym f ∙ e));
  closes = λ _. ended_closes m open_still;
  was_open = λ _. open_still;
  no_reset = λ _. ended_has_no_reset m open_still;
}

pub polls_keep_the_stage : PollsKeepTheStage
polls_keep_the_stage a now =
    let m : Shown = (open_polled a now).0 in
    let front = front_stage a now in
    let on : EndsOnward (completes_shutdown m) a m (polled a now).0 =
    by_poll_end (EndsOnward (completes_shutdown m) a m) a now
    (λ e due timer. timed_onward (completes_shutdown m) a m due timer e front)
    (λ e open_still. ended_onward (completes_shutdown m) a m e open_still) in
    record {
      front = front;
      same = on.same;
      closes = on.closes;
      was_open = on.was_open;
      no_reset = on.no_reset;
    }
