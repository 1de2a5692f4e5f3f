-- The end of a poll for packets: a chunk of a graceful end goes out behind all others, and the last of them closes.
use Rattle.std.proofs.Common.{◌≡◌, refl, sym, ap, ◌∙◌, subst, ℕ, Bool, true, false, ◌&&◌, not, if◌then◌else◌}
use Rattle.std.proofs.Common.{List, [], ◌∷◌, ◌++◌, is_some}
use Rattle.std.specs.Prelude.{flat_map}
use Rattle.std.specs.List.{AllByRecursion, filter}
use Rattle.std.proofs.lemmas.Bool.{false≢true}
use Rattle.std.proofs.lemmas.Grind.{flat_map-append}
use Rattle.std.proofs.lemmas.List.{append-nil, append_assoc}
use Rattle.sctp_wire_types.specs.declared.chunk.Chunk.{Chunk}
use Rattle.sctp_wire_types.specs.declared.chunk.Chunk.TheVariants as chunks
use Rattle.sctp_wire_types.specs.declared.chunk.ChunkPayloadData.{ChunkPayloadData}
use Rattle.sctp_wire_types.specs.declared.param.ParamOutgoingResetRequest.{ParamOutgoingResetRequest}
use Rattle.sctp_wire.specs.DataPackets.{data_fits}
use Rattle.sctp_parts.specs.declared.state.AssociationState.{AssociationState}
use Rattle.sctp_parts.specs.declared.state.AssociationState.TheVariants as states
use Rattle.sctp_parts.specs.declared.timer.Timer.TheVariants as names
use Rattle.sctp_parts.specs.State.{is_closing}
use Rattle.sctp_parts.specs.Timers.{Timers, moment_of, started}
use Rattle.sctp_streams.specs.declared.event.AssociationError.TheVariants as reasons
use Rattle.sctp_inbound.specs.declared.handshake.Handshake.{Handshake}
use Rattle.sctp_inbound.specs.Handshake.{header_of}
use Rattle.sctp_outbound.specs.declared.sender.Sender.{Sender}
use Rattle.sctp_outbound.specs.Forward.{forward_of}
use Rattle.sctp_resets.proofs.ListsOver.{all_appended}
use Rattle.sctp_directions.specs.Acts.{Act, History, Parts, all_data_given, done_all}
use Rattle.sctp_assoc.specs.Closing.{closed_by, closed_open, is_closed_state}
use Rattle.sctp_assoc.specs.Gather.{IsReadAgain, ShutdownIsReadAgain, after_both, control_polled, exchange_after}
use Rattle.sctp_assoc.specs.Gather.{exchange_polled, open_polled, packet_bytes, polled, reconfig_run_after}
use Rattle.sctp_assoc.specs.Gather.{shutdown_after, shutdown_chunks, shutdown_packet, shutdown_polled}
use Rattle.sctp_assoc.specs.Gather.{with_complete_given}
use Rattle.sctp_assoc.specs.Happened.{IsOfShutdown, Polls, acts_of_close, acts_of_ending, exchange_given}
use Rattle.sctp_assoc.specs.Leads.{Binds, Leads, parts}
use Rattle.sctp_assoc.specs.Resets.{with_reconfig_run}
use Rattle.sctp_assoc.specs.Shown.{Shown}
use Rattle.sctp_assoc.specs.Shutdown.{completes_shutdown, gives_shutdown, shutdown_ack_sent, shutdown_sent}
use Rattle.sctp_assoc.proofs.ActsKeepOffsets.{given_append}
use Rattle.sctp_assoc.proofs.ClosesLeadOn.{close_leads}
use Rattle.sctp_assoc.proofs.Leading.{leads_nowhere, leads_on}
use Rattle.sctp_assoc.proofs.PartsOfPolls.{both_first}

run_ends : (runs : Bool) (a : Shown) (timers : Timers)
    → gives_shutdown (if runs then record a { timers = timers } else a) ≡ gives_shutdown a
run_ends true a timers = refl
run_ends false a timers = refl

-- the timer of a request to reset streams changes nothing of what is due
run_gives : (a : Shown) (now : ℕ) → gives_shutdown (with_reconfig_run a now) ≡ gives_shutdown a
run_gives a now =
    run_ends (is_some a.resets.own.active && not (is_some (moment_of names.Reconfig a.timers))) a
    (started names.Reconfig now a.estimate.rto a.timers)

-- What a poll leaves, one part behind another.
module _ (a : Shown) (now : ℕ) {b c d : Shown} {first second : List (List ℕ)}
    (control : control_polled a ≡ (b, first)) (exchange : after_both first (exchange_polled b now) ≡ (c, second))
    (runs : d ≡ with_reconfig_run c now)
  where
    open_as : open_polled a now ≡ (d, second)
    open_as =
        ap (λ (x : Shown × List (List ℕ)). reconfig_run_after (exchange_after x now) now) control
        ∙ ap (λ (x : Shown × List (List ℕ)). reconfig_run_after x now) exchange
        ∙ ap (λ (z : Shown). (z, second)) (sym runs)

    pub polled_as : {e : Shown} {last : List (List ℕ)} → after_both second (shutdown_polled d now) ≡ (e, last)
        → polled a now ≡ (e, last)
    polled_as ending = ap (λ (x : Shown × List (List ℕ)). shutdown_after x now) open_as ∙ ending

    pub ending_again_as : ShutdownIsReadAgain d → ShutdownIsReadAgain (open_polled a now).0
    ending_again_as again =
        subst ShutdownIsReadAgain (sym (ap (λ (x : Shown × List (List ℕ)). x.0) open_as)) again

    -- what is due then was due in front of the timer
    pub gives_before : gives_shutdown d ≡ true → gives_shutdown (exchange_polled b now).0 ≡ true
    gives_before gives =
        ap gives_shutdown (sym (both_first first (exchange_polled b now))
        ∙ ap (λ (x : Shown × List (List ℕ)). x.0) exchange)
        ∙ sym (run_gives c now) ∙ ap gives_shutdown (sym runs) ∙ gives

-- The chunk that goes out, in a shutdown where this is due.

module _ (closing shutdown shutdown_ack complete : Bool) where
  abbrev chunks_if : Shown → List Chunk
  chunks_if a =
      if not closing then [] else
      if shutdown then chunks.Shutdown a.receiver.peer_last_tsn ∷ [] else
      if shutdown_ack then chunks.ShutdownAck ∷ [] else
      if complete then chunks.ShutdownComplete ∷ [] else []

  abbrev given_if : Shown → ℕ → Shown × List (List ℕ)
  given_if a now =
      if not closing then (a, []) else
      if shutdown then (shutdown_sent a now, shutdown_packet a (chunks.Shutdown a.receiver.peer_last_tsn)) else
      if shutdown_ack then (shutdown_ack_sent a now, shutdown_packet a chunks.ShutdownAck) else
      if complete then with_complete_given a else (a, [])

  abbrev completes_if : Bool
  completes_if = closing && not shutdown && not shutdown_ack && complete

one_said : (a : Shown) (chunk : Chunk) → shutdown_packet a chunk ≡ flat_map (shutdown_packet a) (chunk ∷ [])
one_said a chunk = sym (append-nil (shutdown_packet a chunk))

said_if : (closing shutdown shutdown_ack complete : Bool) (a : Shown) (now : ℕ)
    → (given_if closing shutdown shutdown_ack complete a now).1
    ≡ flat_map (shutdown_packet a) (chunks_if closing shutdown shutdown_ack complete a)
said_if false shutdown shutdown_ack complete a now = refl
said_if true true shutdown_ack complete a now = one_said a (chunks.Shutdown a.receiver.peer_last_tsn)
said_if true false true complete a now = one_said a chunks.ShutdownAck
said_if true false false true a now = one_said a chunks.ShutdownComplete
said_if true false false false a now = refl

of_shutdown_if : (closing shutdown shutdown_ack complete : Bool) (a : Shown)
    → AllByRecursion IsOfShutdown (chunks_if closing shutdown shutdown_ack complete a)
of_shutdown_if false shutdown shutdown_ack complete a = tt
of_shutdown_if true true shutdown_ack complete a = (tt, tt)
of_shutdown_if true false true complete a = (tt, tt)
of_shutdown_if true false false true a = (tt, tt)
of_shutdown_if true false false false a = tt

closed_sender : (closed : Bool) (a : Shown)
    → (if closed then a else closed_open a reasons.AssociationClosed).sender ≡ a.sender
closed_sender true a = refl
closed_sender false a = refl

sender_if : (closing shutdown shutdown_ack complete : Bool) (a : Shown) (now : ℕ)
    → (given_if closing shutdown shutdown_ack complete a now).0.sender ≡ a.sender
sender_if false shutdown shutdown_ack complete a now = refl
sender_if true true shutdown_ack complete a now = refl
sender_if true false true complete a now = refl
sender_if true false false true a now =
    closed_sender (is_closed_state a.state)
    (record a { shutdown_due = (let due = a.shutdown_due in record due { shutdown_complete = false }) })
sender_if true false false false a now = refl

closing_is_open : (state : AssociationState) → is_closing state ≡ true → is_closed_state state ≡ false
closing_is_open states.Closed e = absurd (false≢true e)
closing_is_open states.CookieWait e = refl
closing_is_open states.CookieEchoed e = refl
closing_is_open states.Established e = refl
closing_is_open states.ShutdownAckSent e = refl
closing_is_open states.ShutdownPending e = refl
closing_is_open states.ShutdownReceived e = refl
closing_is_open states.ShutdownSent e = refl

complete_leads : (a : Shown) (h : History) → is_closing a.state ≡ true → Binds a h
    → Leads (Act.Ended ∷ []) a h (with_complete_given a).0 h
complete_leads a h closing binds =
    let b : Shown =
    record a { shutdown_due = (let due = a.shutdown_due in record due { shutdown_complete = false }) } in
    let stands : Binds b h = record {
      first = binds.first;
      peer_last_tsn = binds.peer_last_tsn;
      held = binds.held;
      marked = binds.marked;
    } in
    let closes : Leads (acts_of_close b) b h (closed_by b reasons.AssociationClosed) h =
    close_leads (is_closed_state b.state) b reasons.AssociationClosed h refl stands in
    let ends : Leads (Act.Ended ∷ []) b h (closed_by b reasons.AssociationClosed) h =
    subst (λ (closed : Bool). Leads (if closed then [] else Act.Ended ∷ []) b h
    (closed_by b reasons.AssociationClosed) h) (closing_is_open a.state closing) closes in
    record { can = ends.can; there = ends.there; binds = ends.binds }

leads_if : (closing shutdown shutdown_ack complete : Bool) (a : Shown) (now : ℕ) (h : History)
    → is_closing a.state ≡ closing → Binds a h
    → Leads (if completes_if closing shutdown shutdown_ack complete then Act.Ended ∷ [] else []) a h
    (given_if closing shutdown shutdown_ack complete a now).0 h
leads_if false shutdown shutdown_ack complete a now h e binds = leads_nowhere a a h binds refl refl
leads_if true true shutdown_ack complete a now h e binds = leads_nowhere a (shutdown_sent a now) h binds refl refl
leads_if true false true complete a now h e binds = leads_nowhere a (shutdown_ack_sent a now) h binds refl refl
leads_if true false false true a now h e binds = complete_leads a h e binds
leads_if true false false false a now h e binds = leads_nowhere a a h binds refl refl

module _ (a : Shown) where
  chunks_of_shutdown : AllByRecursion IsOfShutdown (shutdown_chunks a)
  chunks_of_shutdown =
      let due = a.shutdown_due in
      of_shutdown_if (is_closing a.state) due.shutdown due.shutdown_ack due.shutdown_complete a

  ending_said : (now : ℕ) → (shutdown_polled a now).1 ≡ flat_map (shutdown_packet a) (shutdown_chunks a)
  unfolding shutdown_polled
  ending_said now =
      let due = a.shutdown_due in
      said_if (is_closing a.state) due.shutdown due.shutdown_ack due.shutdown_complete a now

  pub ending_sender : (now : ℕ) → (shutdown_polled a now).0.sender ≡ a.sender
  unfolding shutdown_polled
  ending_sender now =
      let due = a.shutdown_due in
      sender_if (is_closing a.state) due.shutdown due.shutdown_ack due.shutdown_complete a now

  ending_leads : (now : ℕ) (h : History) → Binds a h → Leads (acts_of_ending a) a h (shutdown_polled a now).0 h
  unfolding shutdown_polled
  ending_leads now h binds =
      let due = a.shutdown_due in
      leads_if (is_closing a.state) due.shutdown due.shutdown_ack due.shutdown_complete a now h refl binds

-- a close gives no DATA out
pub endings_are_silent : (ends : Bool) (p : Parts) → all_data_given (if ends then Act.Ended ∷ [] else []) p ≡ []
endings_are_silent true p = refl
endings_are_silent false p = refl

-- A poll does and gives what it does in front of the chunk of a graceful end, and then that of the chunk.
module _ {xs : List Act} {forwards : Bool} {a b : Shown} {h : History} {packets : List (List ℕ)}
    (m : Polls xs forwards a h b packets) (now : ℕ) (handshake : b.handshake ≡ a.handshake)
    (again : ShutdownIsReadAgain b)
  where
    silent_on : all_data_given (xs ++ acts_of_ending b) (parts a h) ≡ all_data_given xs (parts a h)
    silent_on =
        given_append xs (acts_of_ending b) (parts a h)
        ∙ ap (λ (z : List ChunkPayloadData). all_data_given xs (parts a h) ++ z)
        (endings_are_silent (completes_shutdown b) (done_all xs (parts a h)))
        ∙ append-nil (all_data_given xs (parts a h))

    -- its packets have the common header of the association
    header_said : (shutdown_polled b now).1 ≡ flat_map (shutdown_packet a) (shutdown_chunks b)
    header_said =
        ending_said b now
        ∙ ap (λ (k : Handshake). flat_map (λ (chunk : Chunk). packet_bytes (header_of k) chunk) (shutdown_chunks b))
        handshake

    -- the FORWARD TSN is that of what is in flight still
    given_still : (bundles : List (List ChunkPayloadData)) (requests : List ParamOutgoingResetRequest)
        → exchange_given a bundles requests forwards b
        ≡ exchange_given a bundles requests forwards (shutdown_polled b now).0
    given_still bundles requests =
        ap (λ (s : Sender). exchange_given a bundles requests forwards (record b { sender = s }))
        (sym (ending_sender b now))

    pub polls_ending : Polls (xs ++ acts_of_ending b) forwards a h (shutdown_polled b now).0
        (packets ++ (shutdown_polled b now).1)
    polls_ending =
        let given = (control_polled a).1 ++ exchange_given a m.bundles m.requests forwards b in
        let before = flat_map (shutdown_packet a) m.ending in
        let last = flat_map (shutdown_packet a) (shutdown_chunks b) in
        record {
          leads = leads_on xs (acts_of_ending b) m.leads (ending_leads b now h m.leads.binds);
          bundles = m.bundles;
          joined = m.joined ∙ ap (filter data_fits) (sym silent_on);
          requests = m.requests;
          quiet = m.quiet;
          asked = m.asked;
          requests_again = m.requests_again;
          ending = m.ending ++ shutdown_chunks b;
          ending_is =
              all_appended IsOfShutdown m.ending (shutdown_chunks b) m.ending_is (chunks_of_shutdown b);
          said =
              ap (λ (z : List (List ℕ)). z ++ (shutdown_polled b now).1) m.said
              ∙ ap (λ (z : List (List ℕ)). given ++ before ++ z) header_said
              ∙ append_assoc given before last
              ∙ ap (λ (z : List (List ℕ)). given ++ z)
              (sym (flat_map-append (shutdown_packet a) m.ending (shutdown_chunks b)))
              ∙ ap (λ (z : List (List ℕ)). (control_polled a).1 ++ z
              ++ flat_map (shutdown_packet a) (m.ending ++ shutdown_chunks b)) (given_still m.bundles m.requests);
          data_again = m.data_again;
          ack_again = m.ack_again;
          forward_again = λ c.
              subst (λ (s : Sender). IsReadAgain (header_of a.handshake) (chunks.ForwardTsn (forward_of s)))
              (sym (ending_sender b now)) (m.forward_again c);
          ending_again =
              all_appended (IsReadAgain (header_of a.handshake)) m.ending (shutdown_chunks b) m.ending_again
              (subst (λ (k : Handshake). AllByRecursion (IsReadAgain (header_of k)) (shutdown_chunks b)) handshake
              again);
        }
