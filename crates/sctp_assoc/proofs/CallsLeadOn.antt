-- What each call does to the two directions is what its acts say.
use Rattle.std.proofs.Common.{◌≡◌, refl, sym, ap, ◌∙◌, subst, ℕ, ◌<◌, ◌≤◌, ◌+◌, ◌-◌, ◌%◌, ◌^◌, arith}
use Rattle.std.proofs.Common.{Bool, true, false, List, [], ◌∷◌, length, if◌then◌else◌, is_some, nat_lt}
use Rattle.std.proofs.Common.{Option, Some, None, Result, Ok, Err}
use Rattle.std.proofs.lemmas.Bool.{false≢true, ltb-false}
use Rattle.std.proofs.lemmas.List.{append-nil}
use Rattle.sctp_serial.specs.Serial.{tsn_gt, tsn}
use Rattle.sctp_wire_types.specs.declared.chunk.Chunk.{Chunk}
use Rattle.sctp_wire_types.specs.declared.chunk.Chunk.TheVariants as chunks
use Rattle.sctp_wire_types.specs.declared.chunk.ChunkHeartbeat.{ChunkHeartbeat}
use Rattle.sctp_wire_types.specs.declared.chunk.ChunkInit.{ChunkInit}
use Rattle.sctp_wire_types.specs.declared.packet.CommonHeader.{CommonHeader}
use Rattle.sctp_wire_types.specs.declared.error.Error.{Error}
use Rattle.sctp_wire_types.specs.declared.error.Error.TheVariants as errors
use Rattle.sctp_wire_types.specs.Checks.{checked_chunk}
use Rattle.sctp_wire_types.specs.Config.{is_rfc}
use Rattle.sctp_wire.specs.declared.packet.Packet.{Packet}
use Rattle.sctp_parts.specs.declared.timer.Timer.TheVariants as names
use Rattle.sctp_parts.specs.Estimate.{Estimate}
use Rattle.sctp_parts.specs.Timers.{expiry_of, with_stopped}
use Rattle.sctp_wire_types.specs.declared.ids.PayloadProtocolIdentifier.{PayloadProtocolIdentifier}
use Rattle.sctp_streams.specs.declared.event.Event.{Event}
use Rattle.sctp_streams.specs.declared.setting.Setting.{Setting}
use Rattle.sctp_streams.specs.Stream.{StreamView}
use Rattle.sctp_streams.specs.declared.event.AssociationError.TheVariants as reasons
use Rattle.sctp_streams.specs.Streams.{StreamMap}
use Rattle.sctp_streams.specs.Streams.{stream_at}
use Rattle.sctp_inbound.specs.declared.receiver.AckTrigger.{AckTrigger}
use Rattle.sctp_inbound.specs.declared.receiver.AckTrigger.TheVariants as triggers
use Rattle.sctp_inbound.specs.declared.receiver.Receiver.{Receiver}
use Rattle.sctp_inbound.specs.declared.handshake.Offer.{Offer}
use Rattle.sctp_inbound.specs.Greeting.{first_cookie, information_of}
use Rattle.sctp_inbound.specs.Handshake.{comes_back, has_issued}
use Rattle.sctp_inbound.specs.Receiver.{past_of}
use Rattle.sctp_outbound_queue.specs.Outbound.{Outbound}
use Rattle.sctp_wire_types.specs.declared.chunk.GapAckBlock.{GapAckBlock}
use Rattle.sctp_outbound.specs.Sacks.{all_acknowledged, before_acknowledging, brought_by, progress_of, reports_of}
use Rattle.sctp_outbound.specs.Sacks.{sack_taken}
use Rattle.sctp_outbound.proofs.MissingPieces.{reports_are}
use Rattle.sctp_outbound.specs.declared.sender.Sender.{Sender}
use Rattle.sctp_outbound.specs.declared.progress.Progress.{Progress}
use Rattle.sctp_outbound.specs.declared.sender.SackOutcome.{SackOutcome}
use Rattle.sctp_outbound.specs.declared.sender.SackOutcome.TheVariants as outcomes
use Rattle.sctp_outbound.specs.Sender.{cumulative_tsn_ack_point_of, tsns_up_to, sack_outcome}
use Rattle.sctp_assoc.specs.declared.inbound.Flow.{Flow}
use Rattle.sctp_assoc.specs.declared.inbound.Flow.TheVariants as flows
use Rattle.sctp_directions.specs.Acts.{Act, History, Parts, done}
use Rattle.sctp_assoc.specs.Leads.{Binds, Leads, LeadsOn, parts}
use Rattle.sctp_assoc.specs.Memory.{is_taken}
use Rattle.sctp_directions.specs.Acts.{with_acknowledged as with_all}
use Rattle.sctp_directions.specs.Acts.{with_reports, with_peer, with_written}
use Rattle.sctp_wire_types.specs.declared.event.StreamResetError.TheVariants as failures
use Rattle.sctp_reset_requests.specs.declared.own_request.OwnRequest.{OwnRequest}
use Rattle.sctp_reset_requests.specs.Debts.{DebtsView}
use Rattle.sctp_reset_requests.specs.Own as own_requests
use Rattle.sctp_reset_requests.specs.Own.{OwnView}
use Rattle.sctp_resets.specs.Answers.{Answering, answering, failed_each, with_told}
use Rattle.sctp_resets.specs.Resets.{Beside, ResetsView, event_told, given_up, given_up_for_now, given_up_where}
use Rattle.sctp_resets.proofs.ListsOver.{of_chosen}
use Rattle.sctp_assoc.specs.Probes.{is_probing, opens_window, probes_answered}
use Rattle.sctp_assoc.specs.Resets.{after_reconfig_timer, asks_again, gives_up, reconfig_expired, with_beside}
use Rattle.sctp_assoc.specs.Calls.{accepted_from, accepted_stream, adjusted, after_ack_delay, after_t3, event_from}
use Rattle.sctp_assoc.specs.Calls.{event_polled, opened}
use Rattle.sctp_assoc.specs.Calls.{with_max_send_message_size}
use Rattle.sctp_assoc.specs.Closing.{closed_by}
use Rattle.sctp_assoc.specs.Calls.{retransmits, t3_expired, written, written_at, is_beginning}
use Rattle.sctp_assoc.specs.Calls.{is_cookie_echoed, is_cookie_wait, sends_data}
use Rattle.sctp_assoc.specs.Closing.{is_closed_state}
use Rattle.sctp_assoc.specs.Chunks.{after_chunks, after_packet, after_packet_of, after_sack}
use Rattle.sctp_assoc.specs.Chunks.{checked_first, counted_sack, dispatched, ended, goes_on}
use Rattle.sctp_assoc.specs.Chunks.{on_chunk, on_counted_sack, on_sack}
use Rattle.sctp_assoc.specs.Chunks.{told, with_acknowledged}
use Rattle.sctp_assoc.specs.Happened.{acts_after, acts_of_checked, acts_of_chunk, acts_of_chunks, acts_of_close}
use Rattle.sctp_assoc.specs.Happened.{acts_of_kind, acts_of_packet, acts_of_packet_of}
use Rattle.sctp_assoc.specs.Happened.{acts_of_outcome, acts_of_sack, acts_of_init, acts_of_init_ack}
use Rattle.sctp_assoc.specs.Happened.{acts_of_t3, acts_of_timeouts, marks_if}
use Rattle.sctp_assoc.specs.Handshake.{acknowledged_cookie, acknowledges_again, after_t1_init, connected, keeps_peer}
use Rattle.sctp_assoc.specs.Handshake.{cookie_queued, echoed, information_returned, init_queued, on_cookie_ack}
use Rattle.sctp_assoc.specs.Handshake.{on_cookie_echo, on_heartbeat, on_init, on_init_ack, sends_cookie, sends_init}
use Rattle.sctp_assoc.specs.Handshake.{t1_cookie_expired, t1_init_expired, with_echo}
use Rattle.sctp_assoc.specs.Timeouts.{after_handshake_timers, after_shutdown_timer, after_timeouts}
use Rattle.sctp_assoc.specs.Shown.{Shown}
use Rattle.sctp_assoc.specs.Shutdown.{after_t2_shutdown, shutdown_again, shutdown_answered, shutdown_continued}
use Rattle.sctp_assoc.specs.Shutdown.{shutdown_taken}
use Rattle.sctp_assoc.specs.Skipping.{skips_of}
pub use Rattle.sctp_assoc.proofs.DataLeadsOn.{asks_keeps, asks_same, data_leads, next_leads}
pub use Rattle.sctp_assoc.proofs.ClosesLeadOn.{close_leads, exhausted_leads}
pub use Rattle.sctp_assoc.proofs.Leading.{leads_beside, leads_by, leads_nowhere, leads_on, past_itself}
use Rattle.sctp_assoc.proofs.MarksOutstanding.{AreMarkedRight, act_marked}
use Rattle.sctp_assoc.proofs.PassesOver.{forward_leads}
use Rattle.sctp_assoc.proofs.Probes.{probes_lead}
use Rattle.sctp_assoc.proofs.ResetsLeadOn.{reconfig_leads as chunk_reconfig_leads}
use Rattle.sctp_assoc.proofs.ActsKeepOffsets.{acts_tied}
use Rattle.sctp_assoc.proofs.ActsKeepOffsets.{pieces_acknowledged}
use Rattle.sctp_fit.specs.HeldSet.{HoldsPast}
use Rattle.sctp_fit.proofs.HeldTsns.{nothing_is_held_at_first}
use Rattle.sctp_assoc.proofs.WhatCame.{came_on, same_held}

-- the chunks of a packet

-- SACK

-- a SACK that is taken is not behind, and its cumulative TSN ack is within what is in flight
taken_within : (older beyond : Bool) (s : Sender) (cumulative_tsn_ack : ℕ) (blocks : List GapAckBlock)
    → tsn_gt (cumulative_tsn_ack_point_of s) cumulative_tsn_ack ≡ older
    → nat_lt (length s.queue.in_flight) (tsns_up_to s cumulative_tsn_ack) ≡ beyond
    → sack_outcome s cumulative_tsn_ack blocks ≡ outcomes.Taken
    → tsns_up_to s cumulative_tsn_ack ≤ length s.queue.in_flight
taken_within true beyond s cumulative_tsn_ack blocks e f t =
    let u : is_taken (sack_outcome s cumulative_tsn_ack blocks) ≡ true = ap is_taken t in
    let v = rw e at u in absurd (false≢true v)
taken_within false false s cumulative_tsn_ack blocks e f t =
    ltb-false (length s.queue.in_flight) (tsns_up_to s cumulative_tsn_ack) f
taken_within false true s cumulative_tsn_ack blocks e f t =
    let u : is_taken (sack_outcome s cumulative_tsn_ack blocks) ≡ true = ap is_taken t in
    let v = rw (e, f) at u in absurd (false≢true v)

acknowledged_parts : (a : Shown) (progress : Progress) (now : ℕ) (x : Sender × Estimate × StreamMap) (k : History)
    → parts (with_acknowledged a progress now x) k
    ≡ record { queue = x.0.queue; streams = x.2; size = x.0.max_payload_size; history = k }
acknowledged_parts a progress now (s, e, m) k = refl

acknowledged_receiver : (a : Shown) (progress : Progress) (now : ℕ) (x : Sender × Estimate × StreamMap)
    → (with_acknowledged a progress now x).receiver ≡ a.receiver
acknowledged_receiver a progress now (s, e, m) = refl

-- what a SACK acknowledges and reports missing of the pieces in flight
reported_parts : (a : Shown) (cumulative_tsn_ack : ℕ) (blocks : List GapAckBlock) (window now : ℕ) (h : History)
    → tsns_up_to a.sender cumulative_tsn_ack ≤ length a.sender.queue.in_flight → a.sender.queue.first_tsn < 2 ^ 32
    → let n = tsns_up_to a.sender cumulative_tsn_ack in
    let x = sack_taken cumulative_tsn_ack blocks window now a.sender a.estimate a.streams in
    with_reports (reports_of a.sender cumulative_tsn_ack blocks) (with_all n blocks (parts a h))
    ≡ record {
      queue = x.0.queue;
      streams = x.2;
      size = x.0.max_payload_size;
      history = record h { base = h.base + n };
    }
reported_parts a cumulative_tsn_ack blocks window now h within small =
    let n = tsns_up_to a.sender cumulative_tsn_ack in
    ap (with_reports (reports_of a.sender cumulative_tsn_ack blocks))
    (pieces_acknowledged n now blocks (before_acknowledging n window a.sender) a.estimate a.streams h within small)
    ∙ ap (λ k. with_reports k (record {
      queue = (all_acknowledged n blocks window now a.sender a.estimate a.streams).0.queue;
      streams = (all_acknowledged n blocks window now a.sender a.estimate a.streams).2;
      size = (all_acknowledged n blocks window now a.sender a.estimate a.streams).0.max_payload_size;
      history = record h { base = h.base + n };
    }))
    (sym (reports_are a.sender cumulative_tsn_ack blocks window now a.estimate a.streams n
    (brought_by a.sender cumulative_tsn_ack blocks) refl))

-- where a SACK leads
module _ (a : Shown) (cumulative_tsn_ack : ℕ) (blocks : List GapAckBlock) (window : ℕ) (trigger : AckTrigger)
    (now : ℕ) (h : History) (binds : Binds a h)
  where
    sack_taken_leads : tsns_up_to a.sender cumulative_tsn_ack ≤ length a.sender.queue.in_flight
        → Leads (Act.Acknowledged (tsns_up_to a.sender cumulative_tsn_ack) blocks
        (reports_of a.sender cumulative_tsn_ack blocks) ∷ []) a h
        (shutdown_continued (after_sack (counted_sack a) cumulative_tsn_ack blocks window now))
        (record h { base = h.base + tsns_up_to a.sender cumulative_tsn_ack })
    sack_taken_leads within =
        let n = tsns_up_to a.sender cumulative_tsn_ack in
        let x = sack_taken cumulative_tsn_ack blocks window now a.sender a.estimate a.streams in
        let k : History = record h { base = h.base + n } in
        let small : a.sender.queue.first_tsn < 2 ^ 32 = rw binds.first (tsn_small h.own h.base) in
        let same = acknowledged_parts (counted_sack a) (progress_of a.sender cumulative_tsn_ack blocks) now x k in
        let all = reported_parts a cumulative_tsn_ack blocks window now h within small in
        leads_by (Act.Acknowledged n blocks (reports_of a.sender cumulative_tsn_ack blocks) ∷ []) a
        (shutdown_continued (after_sack (counted_sack a) cumulative_tsn_ack blocks window now)) h binds
        (within, tt) (same ∙ sym all)
        (ap past_of (acknowledged_receiver (counted_sack a) (progress_of a.sender cumulative_tsn_ack blocks) now x))
        (record { peer = refl; taken = refl; passed = refl })
      where
        tsn_small : (own base : ℕ) → tsn own base < 2 ^ 32
        tsn_small own base = omega arith

    -- behind it probes are answered
    probed_leads : tsns_up_to a.sender cumulative_tsn_ack ≤ length a.sender.queue.in_flight
        → Leads (Act.Acknowledged (tsns_up_to a.sender cumulative_tsn_ack) blocks
        (reports_of a.sender cumulative_tsn_ack blocks)
        ∷ marks_if (opens_window (is_probing a.profile a.sender) window)) a h
        (probes_answered (is_probing a.profile a.sender) window
        (shutdown_continued (after_sack (counted_sack a) cumulative_tsn_ack blocks window now)))
        (record h { base = h.base + tsns_up_to a.sender cumulative_tsn_ack })
    probed_leads within =
        let n = tsns_up_to a.sender cumulative_tsn_ack in
        let taken = sack_taken_leads within in
        leads_on (Act.Acknowledged n blocks (reports_of a.sender cumulative_tsn_ack blocks) ∷ [])
        (marks_if (opens_window (is_probing a.profile a.sender) window)) taken
        (probes_lead (is_probing a.profile a.sender) window
        (shutdown_continued (after_sack (counted_sack a) cumulative_tsn_ack blocks window now))
        (record h { base = h.base + n }) taken.binds)

    outcome_leads : (o : SackOutcome) → sack_outcome a.sender cumulative_tsn_ack blocks ≡ o
        → (k : History)
        × Leads (acts_of_outcome o (tsns_up_to a.sender cumulative_tsn_ack) blocks
        (reports_of a.sender cumulative_tsn_ack blocks)
        (opens_window (is_probing a.profile a.sender) window)) a h
        (on_counted_sack o (counted_sack a) cumulative_tsn_ack blocks window trigger now).0 k
    outcome_leads outcomes.Older e = (h, leads_nowhere a (counted_sack a) h binds refl refl)
    outcome_leads outcomes.NotInFlight e = (h, leads_nowhere a (counted_sack a) h binds refl refl)
    outcome_leads outcomes.NamesTheUnsent e = (h, leads_nowhere a (counted_sack a) h binds refl refl)
    outcome_leads outcomes.Taken e = (
      _,
      probed_leads
          (taken_within (tsn_gt (cumulative_tsn_ack_point_of a.sender) cumulative_tsn_ack)
          (nat_lt (length a.sender.queue.in_flight) (tsns_up_to a.sender cumulative_tsn_ack)) a.sender
          cumulative_tsn_ack blocks refl refl e),
    )

    sack_leads : (c : Bool) → sends_data a.state ≡ c
        → (k : History) × Leads (acts_of_sack a cumulative_tsn_ack blocks window) a h
        (on_sack a cumulative_tsn_ack blocks window trigger now).0 k
    unfolding on_sack
    sack_leads false e = rw e (h, leads_nowhere a a h binds refl refl)
    sack_leads true e = rw e (outcome_leads (sack_outcome a.sender cumulative_tsn_ack blocks) refl)

-- the handshake

-- the peer's initial TSN became known
peer_known_leads : (a b : Shown) (t : ℕ) (h : History) → Binds a h → b.sender.queue ≡ a.sender.queue
    → b.streams ≡ a.streams
    → b.sender.max_payload_size ≡ a.sender.max_payload_size
    → past_of b.receiver ≡ ((t + 2 ^ 32 - 1) % 2 ^ 32, [])
    → (k : History) × Leads (Act.PeerKnown t ∷ []) a h b k
peer_known_leads a b t h binds queue streams size peer_last_tsn = (
  with_peer h t,
  record {
    can = (tt, tt);
    there = rw (queue, streams, size) refl;
    binds = record {
      first = ap (λ (q : Outbound). q.first_tsn) queue ∙ binds.first;
      peer_last_tsn = ap (λ (z : ℕ × List ℕ). z.0) peer_last_tsn ∙ omega arith;
      held =
          subst (HoldsPast (came_on (with_peer h t) b.streams)) (sym (ap (λ (z : ℕ × List ℕ). z.1) peer_last_tsn))
          (nothing_is_held_at_first _ refl);
      marked = subst (λ (q : Outbound). AreMarkedRight q.in_flight) (sym queue) binds.marked;
    };
  },
)

returned_leads : (o : Option (List ℕ)) (a : Shown) (h : History) → Binds a h
    → (k : History) × Leads [] a h (information_returned o a) k
returned_leads None a h binds = (h, leads_nowhere a a h binds refl refl)
returned_leads (Some information) a h binds =
    (h, leads_nowhere a (information_returned (Some information) a) h binds refl refl)

-- Where each chunk leads an association that stands on this history.
module _ (a : Shown) (trigger : AckTrigger) (h : History) (binds : Binds a h) where
  init_leads : (c keeps : Bool) (header : CommonHeader) (init : ChunkInit) → is_beginning a.state ≡ c
      → keeps_peer a init ≡ keeps
      → (k : History) × Leads (acts_of_init a init) a h (on_init a header init trigger).0 k
  unfolding on_init
  init_leads true true header init e f = rw (e, f) (h, leads_nowhere a _ h binds refl refl)
  init_leads true false header init e f =
      rw (e, f) (peer_known_leads a _ init.initial_tsn h binds refl refl refl refl)
  init_leads false keeps header init e f = rw e (h, leads_nowhere a a h binds refl refl)

  echoed_leads : (o : Option (List ℕ)) (b : Shown) (t now : ℕ)
      → b.sender.queue ≡ a.sender.queue → b.streams ≡ a.streams
      → b.sender.max_payload_size ≡ a.sender.max_payload_size
      → past_of b.receiver ≡ ((t + 2 ^ 32 - 1) % 2 ^ 32, [])
      → (k : History) × Leads (Act.PeerKnown t ∷ []) a h (echoed o b trigger now).0 k
  unfolding sends_cookie
  echoed_leads None b t now queue streams size peer_last_tsn =
      peer_known_leads a b t h binds queue streams size peer_last_tsn
  echoed_leads (Some cookie) b t now queue streams size peer_last_tsn =
      peer_known_leads a (with_echo b cookie now) t h binds queue streams size peer_last_tsn

  init_ack_leads : (waits back : Bool) (header : CommonHeader) (init : ChunkInit) (now : ℕ)
      → is_cookie_wait a.state ≡ waits
      → comes_back a.handshake header ≡ back
      → (k : History) × Leads (acts_of_init_ack a header init) a h (on_init_ack a header init trigger now).0 k
  unfolding on_init_ack
  init_ack_leads true true header init now e f =
      rw (e, f) (echoed_leads (first_cookie init.params) _ init.initial_tsn now refl refl refl refl)
  init_ack_leads true false header init now e f = rw (e, f) (h, leads_nowhere a _ h binds refl refl)
  init_ack_leads false back header init now e f = rw e (h, leads_nowhere a a h binds refl refl)

  cookie_echo_leads : (issued beginning again : Bool) (cookie : List ℕ)
      → has_issued a.handshake cookie ≡ issued
      → is_beginning a.state ≡ beginning → acknowledges_again a ≡ again
      → (k : History) × Leads [] a h (on_cookie_echo a cookie trigger).0 k
  unfolding on_cookie_echo
  cookie_echo_leads false beginning again cookie e f g = rw e (h, leads_nowhere a a h binds refl refl)
  cookie_echo_leads true true again cookie e f g =
      rw (e, f) (h, leads_nowhere a (acknowledged_cookie (connected a)) h binds refl refl)
  cookie_echo_leads true false true cookie e f g =
      rw (e, f, g) (h, leads_nowhere a (acknowledged_cookie (shutdown_again a)) h binds refl refl)
  cookie_echo_leads true false false cookie e f g = rw (e, f, g) (h, leads_nowhere a a h binds refl refl)

  cookie_ack_leads : (c : Bool) → is_cookie_echoed a.state ≡ c
      → (k : History) × Leads [] a h (on_cookie_ack a trigger).0 k
  unfolding on_cookie_ack
  cookie_ack_leads true e = rw e (h, leads_nowhere a (connected a) h binds refl refl)
  cookie_ack_leads false e = rw e (h, leads_nowhere a a h binds refl refl)

  heartbeat_leads : (heartbeat : ChunkHeartbeat)
      → (k : History) × Leads [] a h (on_heartbeat a heartbeat trigger).0 k
  unfolding on_heartbeat
  heartbeat_leads heartbeat = returned_leads (information_of heartbeat.params) a h binds

  -- any chunk
  kind_leads : (header : CommonHeader) (c : Chunk) (now : ℕ)
      → (k : History) × Leads (acts_of_kind a header c) a h (dispatched a header c trigger now).0 k
  kind_leads header (chunks.Data piece) now =
      data_leads a piece _ h binds
  kind_leads header (chunks.SelectiveAck sack) now =
      sack_leads a sack.cumulative_tsn_ack sack.gap_ack_blocks sack.advertised_receiver_window_credit trigger now h
      binds (sends_data a.state) refl
  kind_leads header (chunks.Init init) now =
      init_leads (is_beginning a.state) (keeps_peer a init) header init refl refl
  kind_leads header (chunks.InitAck init) now =
      init_ack_leads (is_cookie_wait a.state) (comes_back a.handshake header) header init now refl refl
  kind_leads header (chunks.Heartbeat x) now = heartbeat_leads x
  kind_leads header (chunks.HeartbeatAck x) now = (h, leads_nowhere a a h binds refl refl)
  kind_leads header (chunks.Abort x) now = (h, leads_nowhere a a h binds refl refl)
  kind_leads header (chunks.Shutdown x) now = (h, leads_nowhere a (shutdown_taken a) h binds refl refl)
  kind_leads header chunks.ShutdownAck now = (h, leads_nowhere a (shutdown_answered a) h binds refl refl)
  kind_leads header (chunks.Error x) now = (h, leads_nowhere a a h binds refl refl)
  kind_leads header (chunks.CookieEcho x) now =
      cookie_echo_leads (has_issued a.handshake x) (is_beginning a.state) (acknowledges_again a) x refl refl refl
  kind_leads header chunks.CookieAck now = cookie_ack_leads (is_cookie_echoed a.state) refl
  kind_leads header chunks.ShutdownComplete now = (h, leads_nowhere a a h binds refl refl)
  kind_leads header (chunks.Reconfig x) now = (h, chunk_reconfig_leads a x trigger h binds)
  kind_leads header (chunks.ForwardTsn x) now =
      forward_leads a x.new_cumulative_tsn x.streams trigger now h binds
  kind_leads header (chunks.IForwardTsn x) now =
      forward_leads a x.new_cumulative_tsn (skips_of x.entries) trigger now h binds
  kind_leads header (chunks.Other kind flags value) now = (h, leads_nowhere a a h binds refl refl)

  checked_leads : (r : Result (Unit {0}) Error) (header : CommonHeader) (c : Chunk) (now : ℕ)
      → (k : History) × Leads (acts_of_checked r a header c) a h (checked_first r a header c trigger now).0 k
  checked_leads (Err fault) header c now = (h, leads_nowhere a a h binds refl refl)
  checked_leads (Ok done) header c now = kind_leads header c now

-- a packet

pub chunk_leads : (header : CommonHeader) (c : Chunk) (a : Shown) (trigger : AckTrigger) (now : ℕ) (h : History)
    → Binds a h
    → (k : History) × Leads (acts_of_chunk a header c) a h (on_chunk a header c trigger now).0 k
unfolding on_chunk
chunk_leads header c a trigger now h binds = checked_leads a trigger h binds (checked_chunk c) header c now

ended_last_tsn : (a : Shown) (trigger : AckTrigger) (now : ℕ)
    → past_of (ended a trigger now).receiver ≡ past_of a.receiver
ended_last_tsn a triggers.None now = refl
ended_last_tsn a triggers.Delayed now = refl
ended_last_tsn a triggers.Immediate now = refl

-- what follows a chunk leads on, where the rest of the packet does
goes_leads : (x : Shown × Flow) (h : History) (more : Shown → AckTrigger → Shown) (acts : Shown → AckTrigger → List Act)
    → ((b : Shown) (trigger : AckTrigger) → Binds b h → (k : History) × Leads (acts b trigger) b h (more b trigger) k)
    → Binds x.0 h → (k : History) × Leads (acts_after x acts) x.0 h (goes_on x more) k
goes_leads (b, flows.Next trigger) h more acts on binds = on b trigger binds
goes_leads (b, flows.Fault fault) h more acts on binds =
    (h, close_leads (is_closed_state b.state) b reasons.AssociationClosed h refl binds)
goes_leads (b, flows.Closed) h more acts on binds =
    (h, close_leads (is_closed_state b.state) b reasons.AssociationClosed h refl binds)
goes_leads (b, flows.Exhausted) h more acts on binds = (h, exhausted_leads b h binds)

pub chunks_lead : (header : CommonHeader) (cs : List Chunk) (a : Shown) (trigger : AckTrigger) (now : ℕ) (h : History)
    → Binds a h
    → (k : History) × Leads (acts_of_chunks header cs a trigger now) a h (after_chunks header cs a trigger now) k
chunks_lead header [] a trigger now h binds =
    (h, leads_nowhere a (ended a trigger now) h binds refl (ended_last_tsn a trigger now))
chunks_lead header (c ∷ cs) a trigger now h binds =
    let one = chunk_leads header c a trigger now h binds in
    let rest =
    goes_leads (on_chunk a header c trigger now) one.0 (λ b next. after_chunks header cs b next now)
    (λ b next. acts_of_chunks header cs b next now)
    (λ b next bound.
    chunks_lead header cs b next now one.0 bound) one.1.binds in (
      rest.0,
      leads_on (acts_of_chunk a header c) _ one.1 rest.1,
    )

packet_of_leads : (packet : Option Packet) (a : Shown) (now : ℕ) (h : History) → Binds a h
    → (k : History) × Leads (acts_of_packet_of a packet now) a h (after_packet_of a packet now) k
packet_of_leads None a now h binds = (h, leads_nowhere a a h binds refl refl)
packet_of_leads (Some packet) a now h binds = chunks_lead packet.common_header packet.chunks a triggers.None now h binds

packet_leads_unless : (lost : Bool) (packet : Option Packet) (a : Shown) (now : ℕ) (h : History) → Binds a h
    → (k : History) × Leads (if lost then [] else acts_of_packet_of a packet now) a h
    (if lost then a else after_packet_of a packet now) k
packet_leads_unless true packet a now h binds = (h, leads_nowhere a a h binds refl refl)
packet_leads_unless false packet a now h binds = packet_of_leads packet a now h binds

-- a packet that comes
pub packet_leads : (packet : Option Packet) (a : Shown) (now : ℕ) (h : History) → Binds a h
    → (k : History) × Leads (acts_of_packet a packet now) a h (after_packet a packet now) k
packet_leads packet a now h binds = packet_leads_unless a.lost packet a now h binds

pub packet_leads_on : (a b : Shown) (packet : Option Packet) (now : ℕ) → b ≡ after_packet a packet now
    → LeadsOn (acts_of_packet a packet now) a b
packet_leads_on a b packet now e h binds = rw e (packet_leads packet a now h binds)

-- the calls of an application

written_parts : (o : Option StreamView) (a : Shown) (id : ℕ)
    (named : Option PayloadProtocolIdentifier) (bytes : List ℕ) (h : History)
    → parts (written_at o a id named bytes) h ≡ with_written o (parts a h) id named bytes
written_parts None a id named bytes h = refl
written_parts (Some s) a id named bytes h = refl

written_receiver : (o : Option StreamView) (a : Shown) (id : ℕ)
    (named : Option PayloadProtocolIdentifier) (bytes : List ℕ)
    → (written_at o a id named bytes).receiver ≡ a.receiver
written_receiver None a id named bytes = refl
written_receiver (Some s) a id named bytes = refl

written_history : (o : Option StreamView) (a : Shown) (id : ℕ)
    (named : Option PayloadProtocolIdentifier) (bytes : List ℕ) (h : History)
    → (with_written o (parts a h) id named bytes).history ≡ h
written_history None a id named bytes h = refl
written_history (Some s) a id named bytes h = refl

written_leads : (a : Shown) (id : ℕ)
    (named : Option PayloadProtocolIdentifier) (bytes : List ℕ) (h : History) → Binds a h
    → Leads (Act.Wrote id named bytes ∷ []) a h (written a id named bytes) h
written_leads a id named bytes h binds =
    let o = stream_at a.streams id in
    let there = written_parts o a id named bytes h in
    record {
      can = (tt, tt);
      there = there;
      binds = record {
        first =
            ap (λ (p : Parts). p.queue.first_tsn) there
            ∙ acts_tied (Act.Wrote id named bytes ∷ []) (parts a h) (tt, tt) binds.first
            ∙ ap (λ (k : History). tsn k.own k.base) (written_history o a id named bytes h);
        peer_last_tsn = ap (λ (r : Receiver). r.peer_last_tsn) (written_receiver o a id named bytes)
            ∙ binds.peer_last_tsn;
        held =
            subst (λ (r : Receiver). HoldsPast (came_on h (written a id named bytes).streams) r.held)
            (sym (written_receiver o a id named bytes))
            (same_held h h a.streams (written a id named bytes).streams (past_itself h) binds.held);
        marked =
            subst (λ (p : Parts). AreMarkedRight p.queue.in_flight) (sym there)
            (act_marked (Act.Wrote id named bytes) (parts a h) binds.marked);
      };
    }

pub write_leads_on : (a b : Shown) (id : ℕ)
    (named : Option PayloadProtocolIdentifier) (bytes : List ℕ) → b ≡ written a id named bytes
    → LeadsOn (Act.Wrote id named bytes ∷ []) a b
write_leads_on a b id named bytes e h binds = rw e (h, written_leads a id named bytes h binds)

pub setting_leads_on : (a b : Shown) (id : ℕ) (setting : Setting) → b ≡ adjusted a id setting
    → LeadsOn (Act.Adjusted id setting ∷ []) a b
setting_leads_on a b id setting e h binds = (
  h,
  rw e (leads_by (Act.Adjusted id setting ∷ []) a (adjusted a id setting) h binds (tt, tt) refl refl (past_itself h)),
)

pub close_leads_on : (a b : Shown) → b ≡ closed_by a reasons.AssociationClosed → LeadsOn (acts_of_close a) a b
close_leads_on a b e h binds =
    (h, rw e (close_leads (is_closed_state a.state) a reasons.AssociationClosed h refl binds))

-- a stream that is accepted changes nothing that the directions see
accepted_leads : (ids : List ℕ) (a : Shown) (h : History) → Binds a h → Leads [] a h (accepted_from ids a).0 h
accepted_leads [] a h binds = leads_nowhere a a h binds refl refl
accepted_leads (id ∷ ids) a h binds = leads_nowhere a (accepted_from (id ∷ ids) a).0 h binds refl refl

pub accept_leads_on : (a b : Shown) (id : Option ℕ) → accepted_stream a ≡ (b, id) → LeadsOn [] a b
accept_leads_on a b id e h binds =
    (h, subst (λ z. Leads [] a h z h) (ap (λ (z : Shown × Option ℕ). z.0) e) (accept_if a.failed))
  where
    accept_if : (failed : Bool) → Leads [] a h (if failed then (a, None) else accepted_from a.to_accept a).0 h
    accept_if true = leads_nowhere a a h binds refl refl
    accept_if false = accepted_leads a.to_accept a h binds

pub limit_leads_on : (a b : Shown) (size : ℕ) → b ≡ with_max_send_message_size a size → LeadsOn [] a b
limit_leads_on a b size e h binds = (h, rw e (limit_if a.failed))
  where
    limit_if : (failed : Bool) → Leads [] a h (if failed then a else record a { max_send_message_size = size }) h
    limit_if true = leads_nowhere a a h binds refl refl
    limit_if false = leads_nowhere a (record a { max_send_message_size = size }) h binds refl refl

pub open_leads_on : (a b : Shown) (id : ℕ) (kind : PayloadProtocolIdentifier) → b ≡ opened a id kind
    → LeadsOn (Act.Opened id a.sender.queue.next_message_id kind ∷ []) a b
open_leads_on a b id kind e h binds = (
  h,
  rw e (leads_by (Act.Opened id a.sender.queue.next_message_id kind ∷ []) a (opened a id kind) h binds (tt, tt) refl
      refl (past_itself h)),
)

polled_leads : (x : ResetsView × List Event × Option Event) (a : Shown) (h : History) → Binds a h
    → Leads [] a h (event_from x a).0 h
polled_leads (r, left, None) a h binds = leads_nowhere a (event_from (r, left, None) a).0 h binds refl refl
polled_leads (r, left, Some e) a h binds = leads_nowhere a (event_from (r, left, Some e) a).0 h binds refl refl

pub poll_leads_on : (a b : Shown) (event : Option Event) → event_polled a ≡ (b, event) → LeadsOn [] a b
poll_leads_on a b event e h binds =
    let told = event_told a.resets a.events in
    let is : b ≡ (event_from told a).0 = sym (ap (λ (x : Shown × Option Event). x.0) e) in
    (h, rw is (polled_leads told a h binds))

t3_leads : (expired failure : Bool) (a : Shown) (now : ℕ) (h : History) → Binds a h
    → Leads (if expired then (if failure then [] else Act.Marked ∷ []) else []) a h
    (if expired then (if failure then t3_expired a now else retransmits (t3_expired a now) now) else a) h
t3_leads false failure a now h binds = leads_nowhere a a h binds refl refl
t3_leads true true a now h binds = leads_nowhere a (t3_expired a now) h binds refl refl
t3_leads true false a now h binds =
    leads_by (Act.Marked ∷ []) a (retransmits (t3_expired a now) now) h binds (tt, tt) refl refl (past_itself h)

-- requests to reset streams that are given up leave the streams
told_streams : (a : Answering) (x : DebtsView × List Event) → (with_told a x).streams ≡ a.streams
told_streams a (debts, told) = refl

given_up_streams : (x : OwnView × Option OwnRequest) (r : ResetsView) (m : StreamMap) (told : List Event)
    → (given_up_where x r m told).1 ≡ m
given_up_streams (own, None) r m told = refl
given_up_streams (own, Some q) r m told =
    told_streams (answering r.debts m told) (failed_each failures.Failed q.ids (r.debts, told))

given_up_leaves : (r : ResetsView) (m : StreamMap) (told : List Event) → (given_up r m told).1 ≡ m
given_up_leaves r m told =
    of_chosen (λ (b : Beside). b.1 ≡ m) (is_rfc r.own.profile) (given_up_for_now r m told)
    (given_up_where (own_requests.ended r.own) r m told) refl
    (given_up_streams (own_requests.ended r.own) r m told)

beside_leads : (b : Beside) (a : Shown) (h : History) → b.1 ≡ a.streams → Binds a h
    → Leads [] a h (with_beside a b) h
beside_leads (r, m, told) a h same binds =
    leads_nowhere a (with_beside a (r, m, told)) h binds
    (ap (λ (z : StreamMap). (let p = parts a h in record p { streams = z })) same) refl

-- whether the active request goes out again behind that or not
repeating_leads : (on : Bool) (a : Shown) (now : ℕ) (h : History) → Binds a h
    → Leads [] a h (if on then asks_again a now else record a { timers = with_stopped names.Reconfig a.timers }) h
repeating_leads true a now h binds = leads_nowhere a (asks_again a now) h binds refl refl
repeating_leads false a now h binds =
    leads_nowhere a (record a { timers = with_stopped names.Reconfig a.timers }) h binds refl refl

giving_up_leads : (a : Shown) (now : ℕ) (h : History) → Binds a h → Leads [] a h (gives_up a now) h
giving_up_leads a now h binds =
    let left : Beside = given_up a.resets a.streams a.events in
    let b : Shown = with_beside a left in
    let one : Leads [] a h b h =
    beside_leads left a h (given_up_leaves a.resets a.streams a.events) binds in
    leads_on [] [] one (repeating_leads (is_some b.resets.own.active) b now h one.binds)

reconfig_leads : (expired failure : Bool) (a : Shown) (now : ℕ) (h : History) → Binds a h
    → Leads [] a h
    (if expired then
    (if failure then gives_up (reconfig_expired a now) now else asks_again (reconfig_expired a now) now)
    else a) h
reconfig_leads false failure a now h binds = leads_nowhere a a h binds refl refl
reconfig_leads true false a now h binds = leads_nowhere a (asks_again (reconfig_expired a now) now) h binds refl refl
reconfig_leads true true a now h binds =
    let c : Shown = reconfig_expired a now in
    let one : Leads [] a h c h = leads_nowhere a c h binds refl refl in
    leads_on [] [] one (giving_up_leads c now h one.binds)

ack_delay_leads : (expired : Bool) (xs : List Act) (a b : Shown) (now : ℕ) (h : History)
    → (expiry_of names.Ack now b.timers).expired ≡ expired → Leads xs a h b h
    → Leads xs a h (after_ack_delay b now) h
ack_delay_leads false xs a b now h e m = rw e m
ack_delay_leads true xs a b now h e m =
    leads_beside xs a b (after_ack_delay b now) h h (rw e refl) (rw e refl) m

-- the timers of the handshake change nothing that the directions see
init_queued_leads : (o : Option Offer) (a : Shown) (h : History) → Binds a h → Leads [] a h (init_queued o a) h
init_queued_leads None a h binds = leads_nowhere a a h binds refl refl
init_queued_leads (Some offer) a h binds = leads_nowhere a (init_queued (Some offer) a) h binds refl refl

cookie_queued_leads : (o : Option (List ℕ)) (a : Shown) (h : History) → Binds a h → Leads [] a h (cookie_queued o a) h
cookie_queued_leads None a h binds = leads_nowhere a a h binds refl refl
cookie_queued_leads (Some cookie) a h binds = leads_nowhere a (cookie_queued (Some cookie) a) h binds refl refl

pub sends_init_leads : (a : Shown) (now : ℕ) (h : History) → Binds a h → Leads [] a h (sends_init a now) h
unfolding sends_init
sends_init_leads a now h binds =
    let b : Shown = init_queued a.handshake.offer a in
    leads_beside [] a b (sends_init a now) h h refl refl (init_queued_leads a.handshake.offer a h binds)

sends_cookie_leads : (a : Shown) (now : ℕ) (h : History) → Binds a h → Leads [] a h (sends_cookie a now) h
unfolding sends_cookie
sends_cookie_leads a now h binds =
    let b : Shown = cookie_queued a.handshake.echo a in
    leads_beside [] a b (sends_cookie a now) h h refl refl (cookie_queued_leads a.handshake.echo a h binds)

t1_init_leads : (expired failure : Bool) (a : Shown) (now : ℕ) (h : History) → Binds a h
    → Leads [] a h
    (if expired then
    (if failure then (let b = t1_init_expired a now in record b { handshake_fault = Some errors.ErrHandshakeInitAck })
    else sends_init (t1_init_expired a now) now) else a) h
t1_init_leads false failure a now h binds = leads_nowhere a a h binds refl refl
t1_init_leads true true a now h binds = leads_nowhere a _ h binds refl refl
t1_init_leads true false a now h binds =
    leads_on [] [] (leads_nowhere a (t1_init_expired a now) h binds refl refl)
    (sends_init_leads (t1_init_expired a now) now h
    (record { first = binds.first; peer_last_tsn = binds.peer_last_tsn; held = binds.held; marked = binds.marked }))

t1_cookie_leads : (expired failure : Bool) (a : Shown) (now : ℕ) (h : History) → Binds a h
    → Leads [] a h
    (if expired then
    (if failure then (let b =
    t1_cookie_expired a now in record b { handshake_fault = Some errors.ErrHandshakeCookieEcho }) else
    sends_cookie (t1_cookie_expired a now) now) else a) h
t1_cookie_leads false failure a now h binds = leads_nowhere a a h binds refl refl
t1_cookie_leads true true a now h binds = leads_nowhere a _ h binds refl refl
t1_cookie_leads true false a now h binds =
    leads_on [] [] (leads_nowhere a (t1_cookie_expired a now) h binds refl refl)
    (sends_cookie_leads (t1_cookie_expired a now) now h
    (record { first = binds.first; peer_last_tsn = binds.peer_last_tsn; held = binds.held; marked = binds.marked }))

pub handshake_timers_lead : (a : Shown) (now : ℕ) (h : History) → Binds a h
    → Leads [] a h (after_handshake_timers a now) h
handshake_timers_lead a now h binds =
    let one =
    t1_init_leads (expiry_of names.T1Init now a.timers).expired (expiry_of names.T1Init now a.timers).failed a
    now h binds in
    let b : Shown = after_t1_init a now in
    leads_on [] [] one
    (t1_cookie_leads (expiry_of names.T1Cookie now b.timers).expired (expiry_of names.T1Cookie now b.timers).failed b
    now h one.binds)

-- nor does the timer of the answer to SHUTDOWN or SHUTDOWN ACK
shutdown_timer_leads : (a : Shown) (now : ℕ) (h : History) → Binds a h → Leads [] a h (after_shutdown_timer a now) h
shutdown_timer_leads a now h binds =
    let one = handshake_timers_lead a now h binds in
    let b : Shown = after_handshake_timers a now in
    leads_on [] [] one (leads_nowhere b (after_t2_shutdown b now) h one.binds refl refl)

pub timeouts_lead_on : (a b : Shown) (now : ℕ) → b ≡ after_timeouts a now → LeadsOn (acts_of_timeouts a now) a b
timeouts_lead_on a b now e h binds =
    let first = shutdown_timer_leads a now h binds in
    let c : Shown = after_shutdown_timer a now in
    let t3 =
    t3_leads (expiry_of names.T3RTX now c.timers).expired (expiry_of names.T3RTX now c.timers).failed c now h
    first.binds in
    let d : Shown = after_t3 c now in
    let reconfig =
    reconfig_leads (expiry_of names.Reconfig now d.timers).expired (expiry_of names.Reconfig now d.timers).failed d now
    h t3.binds in
    let f : Shown = after_reconfig_timer d now in
    let both : Leads (acts_of_t3 c now) c h f h =
    subst (λ (xs : List Act). Leads xs c h f h) (append-nil (acts_of_t3 c now))
    (leads_on (acts_of_t3 c now) [] t3 reconfig) in (
      h,
      rw e (leads_on [] (acts_of_t3 c now) first
          (ack_delay_leads (expiry_of names.Ack now f.timers).expired (acts_of_t3 c now) c f now h refl both)),
    )
