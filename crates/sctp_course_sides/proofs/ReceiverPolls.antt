-- What the timers of a side that receives do, and its polls for packets, keeps to the course of each stream. Nothing
-- comes by them, and nothing is read.
use Rattle.std.proofs.Common.{◌≡◌, refl, sym, ap, ◌∙◌, subst, ℕ, Bool, true, false, if◌then◌else◌, List, [], ◌∷◌}
use Rattle.std.proofs.Common.{Option, Some, None, is_some}
use Rattle.std.proofs.lemmas.Bool.{true≢false}
use Rattle.sctp_wire_types.specs.declared.chunk.ChunkPayloadData.{ChunkPayloadData}
use Rattle.sctp_wire_types.specs.declared.chunk.Chunk.{Chunk}
use Rattle.sctp_wire_types.specs.declared.error.Error.TheVariants as errors
use Rattle.sctp_parts.specs.declared.timer.Timer.TheVariants as names
use Rattle.sctp_parts.specs.Timers.{expiry_of, started, with_stopped}
use Rattle.sctp_streams.specs.Streams.{StreamMap}
use Rattle.sctp_outbound_queue.specs.declared.message.InFlight.{InFlight}
use Rattle.sctp_outbound_queue.specs.declared.queue.Released.{Released}
use Rattle.sctp_outbound_queue.specs.Expiry.{after_expiry, after_tail_expiry}
use Rattle.sctp_outbound_queue.specs.Outbound.{abandoned_at}
use Rattle.sctp_outbound.specs.declared.sender.Sender.{Sender}
use Rattle.sctp_outbound.specs.Abandonment.{abandoned_of, first_dropped, given_back_of, released_at, tail_given_up}
use Rattle.sctp_inbound.specs.declared.handshake.Offer.{Offer}
use Rattle.sctp_reset_requests.specs.Peer.{PeerView}
use Rattle.sctp_resets.specs.Resets.{Beside, ResetsView, given_up}
use Rattle.sctp_fit.specs.HeldSet.{HoldsPast}
use Rattle.sctp_directions.specs.Acts.{Act, History}
use Rattle.sctp_reset_fit.specs.Keeping.{KeepsCourse}
use Rattle.sctp_reset_fit.proofs.Answering.{given_up_keeps, given_up_peer}
use Rattle.sctp_reset_fit.proofs.Keeping.{keeps_same, keeps_then}
use Rattle.sctp_reset_fit.proofs.Stopping.{own_alone_keeps}
use Rattle.sctp_reset_fit.proofs.Streams.{given_back_keeps, released_keeps}
use Rattle.sctp_assoc.specs.Calls.{after_ack_delay, after_t3, exchanges_data, retransmits, t3_expired}
use Rattle.sctp_assoc.specs.Control.{queued}
use Rattle.sctp_assoc.specs.Gather.{control_polled, data_after, data_polled, exchange_polled, open_polled, polled}
use Rattle.sctp_assoc.specs.Gather.{without_control}
use Rattle.sctp_assoc.specs.Handshake.{after_t1_cookie, after_t1_init, cookie_queued, init_queued, sends_cookie}
use Rattle.sctp_assoc.specs.Handshake.{sends_init, t1_cookie_expired, t1_init_expired}
use Rattle.sctp_assoc.specs.Happened.{acts_of_exchange}
use Rattle.sctp_assoc.specs.Leads.{Binds, Leads}
use Rattle.sctp_assoc.specs.Resets.{after_reconfig_timer, asks_again, gives_up, reconfig_expired, with_beside}
use Rattle.sctp_assoc.specs.Resets.{with_reconfig_run}
use Rattle.sctp_assoc.specs.Shown.{Shown, uses_forward_tsn}
use Rattle.sctp_assoc.specs.Shutdown.{after_t2_shutdown}
use Rattle.sctp_assoc.specs.Timeouts.{after_timeouts}
use Rattle.sctp_assoc.proofs.GivenApart.{ChangesControl, control_changes, with_own_control}
use Rattle.sctp_assoc.proofs.Leading.{leads_by, past_itself}
use Rattle.sctp_assoc.proofs.MarksOutstanding.{AreMarkedRight}
use Rattle.sctp_assoc.proofs.PollsLeadOn.{beside_control, beside_timer, exchange_leads}
use Rattle.sctp_assoc.proofs.WhatCame.{came_on, same_held, same_last_tsn}
use Rattle.sctp_sides.proofs.EndedPolls.{by_poll_end, with_answer_timed}
use Rattle.sctp_sides.proofs.GivingUpKeeps.{KeptByPolls, data_poll_kept}
use Rattle.sctp_sides.proofs.PollsLeave.{PolledFrom, after_requests, control_leaves, front_leaves, polled_from}
use Rattle.sctp_sides.proofs.PollsLeave.{silent_is}

-- The streams of a side, and what it keeps of resets, keep to the course of a stream; the peer's requests stay.
pub record KeepsTo (P : ChunkPayloadData → Type 0) (initial id : ℕ) (a b : Shown) : Type 0 where
  pub course : KeepsCourse P initial id a.resets a.streams b.resets b.streams
  pub peer : b.resets.peer ≡ a.resets.peer

-- And the side stands on what came before.
pub record KeepsOn (P : ChunkPayloadData → Type 0) (initial id : ℕ) (a b : Shown) : Type 0 where
  pub keeps : KeepsTo P initial id a b
  pub past : (h : History) → Binds a h → Binds b h

-- the peer's requests, what is in flight, and what came
abbrev pub RestOf : Type 0
RestOf = PeerView × ℕ × List InFlight × ℕ × List ℕ

abbrev pub with_peer_of : Shown → PeerView → RestOf
with_peer_of a p =
    (p, a.sender.queue.first_tsn, a.sender.queue.in_flight, a.receiver.peer_last_tsn, a.receiver.held)

abbrev pub rest_of : Shown → RestOf
rest_of a = with_peer_of a a.resets.peer

-- where that is the same the side stands on the same
pub stands_on : (a b : Shown) → rest_of b ≡ rest_of a → (h : History) → Binds a h → Binds b h
stands_on a b same h binds = record {
  first = ap (λ (x : RestOf). x.1) same ∙ binds.first;
  peer_last_tsn =
      ap (λ (x : RestOf). x.3) same ∙ binds.peer_last_tsn
      ∙ same_last_tsn h h a.streams b.streams (past_itself h);
  held =
      subst (HoldsPast (came_on h b.streams)) (sym (ap (λ (x : RestOf). x.4) same))
      (same_held h h a.streams b.streams (past_itself h) binds.held);
  marked = subst AreMarkedRight (sym (ap (λ (x : RestOf). x.2) same)) binds.marked;
}

-- The front of a poll leaves a side on what came.
front_binds : (a : Shown) (now : ℕ) (h : History) → Binds a h → Binds (open_polled a now).0 h
front_binds a now h binds =
    let b : Shown = (control_polled a).0 in
    let own = b.resets.own in
    let control = b.control in
    let e = control_changes a in
    let bound : Binds (with_own_control (without_control a) own control) h = record {
      first = binds.first;
      peer_last_tsn = binds.peer_last_tsn;
      held = binds.held;
      marked = binds.marked;
    } in
    let stands : Binds b h = subst (λ (z : Shown). Binds z h) (sym e) bound in
    let after : Shown = (exchange_polled b now).0 in
    let last : Shown = with_reconfig_run after now in
    let leads : Leads (acts_of_exchange b now) a h last h =
    beside_control (acts_of_exchange b now) a last b h h own control e
    (beside_timer (acts_of_exchange b now) b after now h h (exchange_leads b now h stands)) in
    subst (λ (z : Shown). Binds z h) (sym (front_leaves a now)) leads.binds

-- What a poll does to live streams

module _ (P : ChunkPayloadData → Type 0) (initial id : ℕ) (r : ResetsView) (m : StreamMap) where
  -- the streams beside a sender keep to the course
  abbrev KeepBeside : Sender × StreamMap → Type 0
  KeepBeside x = KeepsCourse P initial id r m r x.1

  released_course : (o : Option Released) (n : StreamMap) → KeepsCourse P initial id r m r n
      → KeepsCourse P initial id r m r (released_at o n)
  released_course None n h = h
  released_course (Some x) n h =
      keeps_then P initial id r r r m n (released_at (Some x) n) h
      (released_keeps P initial id r n x.message.stream_identifier x.message.generation x.bytes)

  given_back_course : (o : Option Released) (n : StreamMap) → KeepsCourse P initial id r m r n
      → KeepsCourse P initial id r m r (given_back_of o n)
  given_back_course None n h = h
  given_back_course (Some x) n h =
      keeps_then P initial id r r r m n (given_back_of (Some x) n) h
      (given_back_keeps P initial id r n x.message.stream_identifier x.message.generation x.message.unordered x.bytes)

  abandoned_course : (index : ℕ) (x : Sender × StreamMap) → KeepBeside x → KeepBeside (abandoned_of index x)
  unfolding abandoned_of
  abandoned_course index (s, n) h = released_course (abandoned_at s.queue index).1 n h

  tail_course : (now : ℕ) (x : Sender × StreamMap) → KeepBeside x → KeepBeside (tail_given_up now x)
  unfolding tail_given_up
  tail_course now (s, n) h = released_course (after_tail_expiry now s.queue).1 n h

  dropped_course : (now : ℕ) (x : Sender × StreamMap) → KeepBeside x → KeepBeside (first_dropped now x)
  unfolding first_dropped
  dropped_course now (s, n) h = given_back_course (after_expiry now s.queue).1 n h

  kept_by_polls : (uses : Bool) (now : ℕ) → KeptByPolls KeepBeside uses now
  kept_by_polls uses now = record {
    given_up = λ used. record {
      started = λ x h. h;
      abandoned = abandoned_course;
      tail = tail_course now;
      dropped = dropped_course now;
    };
    marked = λ x h. h;
    missing = λ x h. h;
    new = λ x h. h;
  }

-- a poll of DATA keeps to the course
data_course : (P : ChunkPayloadData → Type 0) (initial id : ℕ) (a : Shown) (now : ℕ)
    → KeepsCourse P initial id a.resets a.streams a.resets (data_polled a now).0.streams
data_course P initial id a now =
    data_poll_kept (λ (x : Sender × StreamMap). KeepsCourse P initial id a.resets a.streams a.resets x.1) now a
    (kept_by_polls P initial id a.resets a.streams (uses_forward_tsn a) now)
    (keeps_same P initial id a.resets a.streams)

-- The stream of a course, and the initial TSN.
module _ (P : ChunkPayloadData → Type 0) (initial id : ℕ) where
  -- no step, and two steps

  same_to : (a b : Shown) → b.streams ≡ a.streams → b.resets.generations ≡ a.resets.generations
      → b.resets.peer ≡ a.resets.peer → KeepsTo P initial id a b
  same_to a b streams kept peer = record {
    course = subst (λ (n : StreamMap). KeepsCourse P initial id a.resets a.streams b.resets n) (sym streams)
        (own_alone_keeps P initial id a.resets a.streams b.resets kept (ap (λ (p : PeerView). p.in_progress) peer));
    peer = peer;
  }

  then_to : {a b c : Shown} → KeepsTo P initial id a b → KeepsTo P initial id b c → KeepsTo P initial id a c
  then_to {a} {b} {c} first later = record {
    course = keeps_then P initial id a.resets b.resets c.resets a.streams b.streams c.streams first.course later.course;
    peer = later.peer ∙ first.peer;
  }

  pub same_on : (a b : Shown) → b.streams ≡ a.streams → b.resets.generations ≡ a.resets.generations
      → rest_of b ≡ rest_of a → KeepsOn P initial id a b
  same_on a b streams kept rest = record {
    keeps = same_to a b streams kept (ap (λ (x : RestOf). x.0) rest);
    past = stands_on a b rest;
  }

  pub stays_on : (a : Shown) → KeepsOn P initial id a a
  stays_on a = same_on a a refl refl refl

  pub then_on : {a b c : Shown} → KeepsOn P initial id a b → KeepsOn P initial id b c → KeepsOn P initial id a c
  then_on {a} {b} {c} first later = record {
    keeps = then_to first.keeps later.keeps;
    past = λ h binds. later.past h (first.past h binds);
  }

  -- where streams or generations change
  pub course_on : (a b : Shown) → KeepsCourse P initial id a.resets a.streams b.resets b.streams
      → rest_of b ≡ rest_of a → KeepsOn P initial id a b
  course_on a b course rest = record {
    keeps = record { course = course; peer = ap (λ (x : RestOf). x.0) rest };
    past = stands_on a b rest;
  }

  -- what resets leave of them
  pub beside_on : (a : Shown) (x : Beside) → KeepsCourse P initial id a.resets a.streams x.0 x.1
      → x.0.peer ≡ a.resets.peer → KeepsOn P initial id a (with_beside a x)
  beside_on a (r, m, told) course peer =
      course_on a (with_beside a (r, m, told)) course (ap (with_peer_of a) peer)

  -- Polls

  -- requests of this side, and what waits to go out, are of no stream that it receives
  control_to : (a b : Shown) → ChangesControl a b → KeepsTo P initial id a b
  control_to a b e =
      subst (KeepsTo P initial id a) (sym e) (same_to a (with_own_control a b.resets.own b.control) refl refl refl)

  data_to : (a : Shown) (now : ℕ) → KeepsTo P initial id a (data_after a now).0
  unfolding data_polled
  data_to a now = record { course = data_course P initial id a now; peer = refl }

  run_to_if : (starts : Bool) (a : Shown) (now : ℕ)
      → KeepsTo P initial id a
      (if starts then record a { timers = started names.Reconfig now a.estimate.rto a.timers } else a)
  run_to_if true a now = same_to a _ refl refl refl
  run_to_if false a now = same_to a a refl refl refl

  run_to : (a : Shown) (now : ℕ) → KeepsTo P initial id a (with_reconfig_run a now)
  run_to a now = run_to_if _ a now

  front_to_if : (exchanges : Bool) (a : Shown) (now : ℕ) → exchanges_data a.state ≡ exchanges
      → KeepsTo P initial id a (open_polled a now).0
  front_to_if true a now e =
      let p : PolledFrom a now = polled_from a now e in
      let b : Shown = after_requests p.asked in
      subst (KeepsTo P initial id a) (sym p.there)
      (then_to (data_to a now)
      (then_to (control_to (data_after a now).0 p.asked p.requests)
      (then_to (same_to p.asked b refl refl refl) (run_to b now))))
  front_to_if false a now e =
      let b : Shown = (control_polled a).0 in
      subst (KeepsTo P initial id a) (sym (silent_is a now e))
      (then_to (control_to a b (control_leaves a)) (run_to b now))

  front_on : (a : Shown) (now : ℕ) → KeepsOn P initial id a (open_polled a now).0
  front_on a now = record {
    keeps = front_to_if (exchanges_data a.state) a now refl;
    past = front_binds a now;
  }

  -- its end changes nothing of this, or closes
  pub polled_on : (a : Shown) (now : ℕ) → (polled a now).0.lost ≡ false → KeepsOn P initial id a (polled a now).0
  polled_on a now =
      let m : Shown = (open_polled a now).0 in
      by_poll_end (λ (z : Shown). z.lost ≡ false → KeepsOn P initial id a z) a now
      (λ e due timer lost. then_on (front_on a now) (same_on m (with_answer_timed m due timer) refl refl refl))
      (λ e open_still lost. absurd (true≢false lost))

  -- Timers

  queued_on : (a : Shown) (chunk : Chunk) → KeepsOn P initial id a (queued a chunk)
  queued_on a chunk = same_on a (queued a chunk) refl refl refl

  offered_on : (o : Option Offer) (a : Shown) → KeepsOn P initial id a (init_queued o a)
  offered_on None a = stays_on a
  offered_on (Some offer) a = same_on a (init_queued (Some offer) a) refl refl refl

  sends_init_on : (a : Shown) (now : ℕ) → KeepsOn P initial id a (sends_init a now)
  unfolding sends_init
  sends_init_on a now =
      then_on (offered_on a.handshake.offer a)
      (same_on (init_queued a.handshake.offer a) (sends_init a now) refl refl refl)

  echoed_on : (o : Option (List ℕ)) (a : Shown) → KeepsOn P initial id a (cookie_queued o a)
  echoed_on None a = stays_on a
  echoed_on (Some cookie) a = queued_on a _

  sends_cookie_on : (a : Shown) (now : ℕ) → KeepsOn P initial id a (sends_cookie a now)
  unfolding sends_cookie
  sends_cookie_on a now =
      then_on (echoed_on a.handshake.echo a)
      (same_on (cookie_queued a.handshake.echo a) (sends_cookie a now) refl refl refl)

  t1_init_on : (expired failure : Bool) (a : Shown) (now : ℕ)
      → KeepsOn P initial id a
      (if expired then
      (if failure then (let b = t1_init_expired a now in record b { handshake_fault = Some errors.ErrHandshakeInitAck })
      else sends_init (t1_init_expired a now) now) else a)
  t1_init_on false failure a now = stays_on a
  t1_init_on true true a now = same_on a _ refl refl refl
  t1_init_on true false a now =
      let b : Shown = t1_init_expired a now in then_on (same_on a b refl refl refl) (sends_init_on b now)

  t1_cookie_on : (expired failure : Bool) (a : Shown) (now : ℕ)
      → KeepsOn P initial id a
      (if expired then
      (if failure then (let b =
      t1_cookie_expired a now in record b { handshake_fault = Some errors.ErrHandshakeCookieEcho }) else
      sends_cookie (t1_cookie_expired a now) now) else a)
  t1_cookie_on false failure a now = stays_on a
  t1_cookie_on true true a now = same_on a _ refl refl refl
  t1_cookie_on true false a now =
      let b : Shown = t1_cookie_expired a now in then_on (same_on a b refl refl refl) (sends_cookie_on b now)

  -- all that is in flight is marked, which changes nothing that comes
  retransmits_on : (a : Shown) (now : ℕ) → KeepsOn P initial id a (retransmits (t3_expired a now) now)
  retransmits_on a now = record {
    keeps = same_to a (retransmits (t3_expired a now) now) refl refl refl;
    past = λ h binds.
        (leads_by (Act.Marked ∷ []) a (retransmits (t3_expired a now) now) h binds (tt, tt) refl refl
        (past_itself h)).binds;
  }

  t3_on : (expired failure : Bool) (a : Shown) (now : ℕ)
      → KeepsOn P initial id a
      (if expired then (if failure then t3_expired a now else retransmits (t3_expired a now) now) else a)
  t3_on false failure a now = stays_on a
  t3_on true true a now = same_on a _ refl refl refl
  t3_on true false a now = retransmits_on a now

  -- a request goes out again, or none is active
  going_on : (active : Bool) (a : Shown) (now : ℕ)
      → KeepsOn P initial id a
      (if active then asks_again a now else record a { timers = with_stopped names.Reconfig a.timers })
  going_on true a now = same_on a _ refl refl refl
  going_on false a now = same_on a _ refl refl refl

  gives_up_on : (a : Shown) (now : ℕ) → KeepsOn P initial id a (gives_up a now)
  gives_up_on a now =
      let x : Beside = given_up a.resets a.streams a.events in
      let b : Shown = with_beside a x in
      then_on
      (beside_on a x (given_up_keeps P initial id a.resets a.streams a.events)
      (given_up_peer a.resets a.streams a.events))
      (going_on (is_some b.resets.own.active) b now)

  reconfig_on : (expired failure : Bool) (a : Shown) (now : ℕ)
      → KeepsOn P initial id a
      (if expired then
      (if failure then gives_up (reconfig_expired a now) now else asks_again (reconfig_expired a now) now)
      else a)
  reconfig_on false failure a now = stays_on a
  reconfig_on true true a now =
      let b : Shown = reconfig_expired a now in then_on (same_on a b refl refl refl) (gives_up_on b now)
  reconfig_on true false a now = same_on a _ refl refl refl

  delay_on : (expired : Bool) (a : Shown) (now : ℕ) → (expiry_of names.Ack now a.timers).expired ≡ expired
      → KeepsOn P initial id a (after_ack_delay a now)
  delay_on false a now e = rw e (stays_on a)
  delay_on true a now e = rw e (same_on a _ refl refl refl)

  pub timeouts_on : (a : Shown) (now : ℕ) → KeepsOn P initial id a (after_timeouts a now)
  timeouts_on a now =
      let b : Shown = after_t1_init a now in
      let c : Shown = after_t1_cookie b now in
      let f : Shown = after_t2_shutdown c now in
      let d : Shown = after_t3 f now in
      let e : Shown = after_reconfig_timer d now in
      then_on
      (t1_init_on (expiry_of names.T1Init now a.timers).expired (expiry_of names.T1Init now a.timers).failed a now)
      (then_on
      (t1_cookie_on (expiry_of names.T1Cookie now b.timers).expired (expiry_of names.T1Cookie now b.timers).failed b
      now)
      (then_on (same_on c f refl refl refl)
      (then_on (t3_on (expiry_of names.T3RTX now f.timers).expired (expiry_of names.T3RTX now f.timers).failed f now)
      (then_on
      (reconfig_on (expiry_of names.Reconfig now d.timers).expired (expiry_of names.Reconfig now d.timers).failed d now)
      (delay_on (expiry_of names.Ack now e.timers).expired e now refl)))))
