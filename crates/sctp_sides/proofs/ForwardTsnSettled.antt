-- Once an association was established, whether FORWARD TSN is in use changes no more, in a shutdown neither.
use Rattle.std.proofs.Common.{◌≡◌, refl, sym, ap, ◌∙◌, subst, ◌⊎◌, ⊎_elim, inl, inr, ℕ, Bool, true, false}
use Rattle.std.proofs.Common.{if◌then◌else◌}
use Rattle.std.proofs.Common.{List, [], ◌∷◌, Option, Some, None, Result, Ok, Err}
use Rattle.std.proofs.lemmas.Bool.{cond-false, false≢true}
use Rattle.std.specs.Prelude.{⊤}
use Rattle.std.specs.List.{AllByRecursion}
use Rattle.sctp_wire_types.specs.declared.chunk.Chunk.{Chunk}
use Rattle.sctp_wire_types.specs.declared.chunk.Chunk.TheVariants as chunks
use Rattle.sctp_wire_types.specs.declared.chunk.ChunkHeartbeat.{ChunkHeartbeat}
use Rattle.sctp_wire_types.specs.declared.chunk.ChunkInit.{ChunkInit}
use Rattle.sctp_wire_types.specs.declared.error.Error.{Error}
use Rattle.sctp_wire_types.specs.declared.packet.CommonHeader.{CommonHeader}
use Rattle.sctp_wire_types.specs.Checks.{checked_chunk}
use Rattle.sctp_wire.specs.declared.packet.Packet.{Packet}
use Rattle.sctp_streams.specs.declared.event.AssociationError.{AssociationError}
use Rattle.sctp_streams.specs.declared.event.AssociationError.TheVariants as reasons
use Rattle.sctp_streams.specs.declared.event.Event.{Event}
use Rattle.sctp_streams.specs.declared.setting.Setting.TheVariants as settings
use Rattle.sctp_inbound.specs.declared.handshake.Handshake.{Handshake}
use Rattle.sctp_inbound.specs.declared.receiver.AckTrigger.{AckTrigger}
use Rattle.sctp_inbound.specs.declared.receiver.AckTrigger.TheVariants as triggers
use Rattle.sctp_inbound.specs.Greeting.{information_of}
use Rattle.sctp_inbound.specs.Handshake.{has_issued}
use Rattle.sctp_receive_queues.specs.Messages.{ReceivedMessage}
use Rattle.sctp_streams.specs.Stream.{is_read_half_open}
use Rattle.sctp_streams.specs.Streams.{StreamMap, read_in}
use Rattle.sctp_wire_types.specs.declared.chunk.GapAckBlock.{GapAckBlock}
use Rattle.sctp_parts.specs.declared.state.AssociationState.{AssociationState}
use Rattle.sctp_parts.specs.declared.state.AssociationState.TheVariants as states
use Rattle.sctp_outbound.specs.declared.sender.SackOutcome.{SackOutcome}
use Rattle.sctp_outbound.specs.declared.sender.SackOutcome.TheVariants as outcomes
use Rattle.sctp_outbound.specs.Sender.{sack_outcome}
use Rattle.sctp_assoc.specs.Calls.{adjusted, after_read, credit_in, drained_behind, eased, event_polled, holds_of}
use Rattle.sctp_assoc.specs.Calls.{is_beginning, sends_data, stopped_open, tells_window, told_if}
use Rattle.sctp_assoc.specs.Chunks.{after_chunks, after_packet, after_packet_of, checked_first, dispatched, ended}
use Rattle.sctp_assoc.specs.Chunks.{after_sack, counted_sack, on_chunk, on_counted_sack, on_sack}
use Rattle.sctp_assoc.specs.Closing.{closed_by, exhausted, is_closed_state, is_exhausted, relieved}
use Rattle.sctp_assoc.specs.Handshake.{acknowledges_again, information_returned, on_cookie_ack, on_cookie_echo}
use Rattle.sctp_assoc.specs.Handshake.{on_heartbeat, on_init, on_init_ack}
use Rattle.sctp_assoc.specs.Gather.{open_polled, polled}
use Rattle.sctp_assoc.specs.Probes.{is_probing}
use Rattle.sctp_assoc.specs.Shown.{Shown, uses_forward_tsn}
use Rattle.sctp_assoc.specs.Shutdown.{all_acknowledged, completes_shutdown, shutdown_continued}
use Rattle.sctp_assoc.specs.Shutdown.{shutdown_taken, state_at_shutdown, state_behind_data}
use Rattle.sctp_sides.specs.OneSide.{Call, carried_out, with_told}
use Rattle.sctp_sides.specs.Meeting.{IsAsFarOn}
use Rattle.sctp_sides.specs.SideLaws.{Closes, Exhausts, IsSameStatus, KeepsTheStage}
use Rattle.sctp_assoc.specs.Skipping.{skips_of}
use Rattle.sctp_assoc.proofs.Probes.{probes_keep}
use Rattle.sctp_sides.proofs.ClosingPackets.{Remains, drained_goes_on, forward_goes_on, on_data_goes_on}
use Rattle.sctp_sides.proofs.ClosingPackets.{reconfig_goes_on, stopped_goes_on}
use Rattle.sctp_sides.proofs.PacketLaws.{exhaustion_closes, faults_close, lost_associations_take_nothing}
use Rattle.sctp_sides.proofs.PacketsByChunks.{chunks_carry}
use Rattle.sctp_sides.proofs.Status.{accepted_streams_keep_the_status, limits_keep_the_status}
use Rattle.sctp_sides.proofs.Status.{opened_streams_keep_the_status}
use Rattle.sctp_sides.proofs.Status.{continued_stage}
use Rattle.sctp_sides.proofs.StatusOfPolls.{polls_keep_the_stage}
use Rattle.sctp_sides.proofs.TimersRun.{begun_shakes_no_hands}
use Rattle.sctp_sides.proofs.Status.{settings_keep_the_status, timers_keep_the_status, told_events_keep_the_status}
use Rattle.sctp_sides.proofs.Status.{writes_keep_the_status}

-- It is past the handshake, in Established or in a shutdown, and FORWARD TSN is in use or not.
pub record IsTalking (used : Bool) (a : Shown) : Type 0 where
  pub state : is_beginning a.state ≡ false
  pub uses : uses_forward_tsn a ≡ used

-- It is past the handshake or was lost.
pub record IsSettled (used : Bool) (a : Shown) : Type 0 where
  pub over : (is_beginning a.state ≡ false) ⊎ (a.lost ≡ true)
  pub uses : uses_forward_tsn a ≡ used

talks_by : (used : Bool) (a b : Shown) → b.state ≡ a.state → b.handshake.use_forward_tsn ≡ a.handshake.use_forward_tsn
    → IsTalking used a → IsTalking used b
talks_by used a b state forward h = record { state = ap is_beginning state ∙ h.state; uses = forward ∙ h.uses }

same_settles : (used : Bool) (a b : Shown) → IsSameStatus a b → IsSettled used a → IsSettled used b
same_settles used a b s h = record {
  over =
      ⊎_elim (λ (e : is_beginning a.state ≡ false). inl (ap is_beginning s.state ∙ e))
      (λ (e : a.lost ≡ true). inr (s.lost ∙ e)) h.over;
  uses = ap (λ (k : Handshake). k.use_forward_tsn) s.handshake ∙ h.uses;
}

-- a state as far on is past the handshake, too
as_far_begins_no_more : (s t : AssociationState) → IsAsFarOn s t → is_beginning s ≡ false → is_beginning t ≡ false
as_far_begins_no_more s t (inl same) e = ap is_beginning same ∙ e
as_far_begins_no_more s t (inr past) e = past.1

staged_settles : (used : Bool) (a b : Shown) → KeepsTheStage a b → IsSettled used a → IsSettled used b
staged_settles used a b s h = record {
  over =
      ⊎_elim (λ (e : is_beginning a.state ≡ false). inl (as_far_begins_no_more a.state b.state s.state e))
      (λ (e : a.lost ≡ true). inr (s.lost ∙ e)) h.over;
  uses = ap (λ (k : Handshake). k.use_forward_tsn) s.handshake ∙ h.uses;
}

remaining_talks : (used : Bool) (a b : Shown) → Remains a b → IsTalking used a → IsTalking used b
remaining_talks used a b m h = talks_by used a b m.state (ap (λ (k : Handshake). k.use_forward_tsn) m.handshake) h

remaining_settles : (used : Bool) (a b : Shown) → Remains a b → IsSettled used a → IsSettled used b
remaining_settles used a b m h = record {
  over =
      ⊎_elim (λ (e : is_beginning a.state ≡ false). inl (ap is_beginning m.state ∙ e))
      (λ (e : a.lost ≡ true). inr (m.lost ∙ e)) h.over;
  uses = ap (λ (k : Handshake). k.use_forward_tsn) m.handshake ∙ h.uses;
}

talking_settles : (used : Bool) (a : Shown) → IsTalking used a → IsSettled used a
talking_settles used a h = record { over = inl h.state; uses = h.uses }

-- The chunks of a packet that comes past the handshake

init_talks : (used : Bool) (a : Shown) (header : CommonHeader) (init : ChunkInit) (trigger : AckTrigger)
    → IsTalking used a → IsTalking used (on_init a header init trigger).0
unfolding on_init
init_talks used a header init trigger h = rw h.state h

init_ack_talks : (used : Bool) (a : Shown) (header : CommonHeader) (init : ChunkInit) (trigger : AckTrigger) (now : ℕ)
    → IsTalking used a → IsTalking used (on_init_ack a header init trigger now).0
unfolding on_init_ack
init_ack_talks used a header init trigger now h = rw (begun_shakes_no_hands a.state h.state).0 h

cookie_echo_talks : (issued again used : Bool) (a : Shown) (cookie : List ℕ) (trigger : AckTrigger)
    → has_issued a.handshake cookie ≡ issued → acknowledges_again a ≡ again → IsTalking used a
    → IsTalking used (on_cookie_echo a cookie trigger).0
unfolding on_cookie_echo
cookie_echo_talks false again used a cookie trigger e f h = rw e h
cookie_echo_talks true true used a cookie trigger e f h = rw (e, h.state, f) (talks_by used a _ refl refl h)
cookie_echo_talks true false used a cookie trigger e f h = rw (e, h.state, f) h

cookie_ack_talks : (used : Bool) (a : Shown) (trigger : AckTrigger) → IsTalking used a
    → IsTalking used (on_cookie_ack a trigger).0
unfolding on_cookie_ack
cookie_ack_talks used a trigger h = rw (begun_shakes_no_hands a.state h.state).1 h

-- a shutdown that goes on stays past it
continued_talks : (used : Bool) (a : Shown) → IsTalking used a → IsTalking used (shutdown_continued a)
continued_talks used a h = record {
  state = as_far_begins_no_more a.state (shutdown_continued a).state (continued_stage a).state h.state;
  uses = h.uses;
}

outcome_talks : (o : SackOutcome) (used : Bool) (a : Shown) (cumulative_tsn_ack : ℕ) (blocks : List GapAckBlock)
    (window : ℕ) (trigger : AckTrigger) (now : ℕ) → IsTalking used a
    → IsTalking used (on_counted_sack o a cumulative_tsn_ack blocks window trigger now).0
outcome_talks outcomes.Older used a cumulative_tsn_ack blocks window trigger now h = h
outcome_talks outcomes.NotInFlight used a cumulative_tsn_ack blocks window trigger now h = h
outcome_talks outcomes.NamesTheUnsent used a cumulative_tsn_ack blocks window trigger now h = h
outcome_talks outcomes.Taken used a cumulative_tsn_ack blocks window trigger now h =
    let b : Shown = after_sack a cumulative_tsn_ack blocks window now in
    probes_keep (IsTalking used) (λ c k. record { state = k.state; uses = k.uses })
    (λ c k. record { state = k.state; uses = k.uses }) (is_probing a.profile a.sender) window (shutdown_continued b)
    (continued_talks used b (talks_by used a b refl refl h))

sack_talks : (counts used : Bool) (a : Shown) (cumulative_tsn_ack : ℕ) (blocks : List GapAckBlock) (window : ℕ)
    (trigger : AckTrigger) (now : ℕ) → sends_data a.state ≡ counts → IsTalking used a
    → IsTalking used (on_sack a cumulative_tsn_ack blocks window trigger now).0
unfolding on_sack
sack_talks true used a cumulative_tsn_ack blocks window trigger now e h =
    rw e (outcome_talks (sack_outcome a.sender cumulative_tsn_ack blocks) used (counted_sack a) cumulative_tsn_ack
    blocks window trigger now (talks_by used a (counted_sack a) refl refl h))
sack_talks false used a cumulative_tsn_ack blocks window trigger now e h = rw e h

at_shutdown : (acknowledged : Bool) (s : AssociationState) → is_beginning s ≡ false
    → is_beginning (state_at_shutdown acknowledged s) ≡ false
at_shutdown acknowledged states.Closed e = e
at_shutdown acknowledged states.CookieWait e = e
at_shutdown acknowledged states.CookieEchoed e = e
at_shutdown true states.Established e = refl
at_shutdown false states.Established e = refl
at_shutdown acknowledged states.ShutdownAckSent e = refl
at_shutdown acknowledged states.ShutdownPending e = refl
at_shutdown acknowledged states.ShutdownReceived e = refl
at_shutdown acknowledged states.ShutdownSent e = refl

shutdown_talks : (used : Bool) (a : Shown) → IsTalking used a → IsTalking used (shutdown_taken a)
shutdown_talks used a h = record { state = at_shutdown (all_acknowledged a) a.state h.state; uses = h.uses }

information_talks : (o : Option (List ℕ)) (used : Bool) (a : Shown) → IsTalking used a
    → IsTalking used (information_returned o a)
information_talks None used a h = h
information_talks (Some information) used a h = talks_by used a _ refl refl h

heartbeat_talks : (used : Bool) (a : Shown) (heartbeat : ChunkHeartbeat) (trigger : AckTrigger) → IsTalking used a
    → IsTalking used (on_heartbeat a heartbeat trigger).0
unfolding on_heartbeat
heartbeat_talks used a heartbeat trigger h = information_talks (information_of heartbeat.params) used a h

checked_talks : (r : Result (Unit {0}) Error) (used : Bool) (a : Shown) (header : CommonHeader) (c : Chunk)
    (trigger : AckTrigger) (now : ℕ) → IsTalking used a → IsTalking used (dispatched a header c trigger now).0
    → IsTalking used (checked_first r a header c trigger now).0
checked_talks (Err fault) used a header c trigger now h k = h
checked_talks (Ok done) used a header c trigger now h k = k

greeting_talks : (used : Bool) (a : Shown) (header : CommonHeader) (c : Chunk) (trigger : AckTrigger) (now : ℕ)
    → IsTalking used a → IsTalking used (dispatched a header c trigger now).0
    → IsTalking used (on_chunk a header c trigger now).0
unfolding on_chunk
greeting_talks used a header c trigger now h k = checked_talks (checked_chunk c) used a header c trigger now h k

chunk_talks : (used : Bool) (header : CommonHeader) (c : Chunk) (a : Shown) (trigger : AckTrigger) (now : ℕ)
    → IsTalking used a → IsTalking used (on_chunk a header c trigger now).0
chunk_talks used header (chunks.Data piece) a trigger now h =
    greeting_talks used a header (chunks.Data piece) trigger now h
    (remaining_talks used a _ (on_data_goes_on a piece _) h)
chunk_talks used header (chunks.SelectiveAck sack) a trigger now h =
    greeting_talks used a header (chunks.SelectiveAck sack) trigger now h
    (sack_talks (sends_data a.state) used a sack.cumulative_tsn_ack sack.gap_ack_blocks
    sack.advertised_receiver_window_credit trigger now refl h)
chunk_talks used header (chunks.ForwardTsn forward) a trigger now h =
    greeting_talks used a header (chunks.ForwardTsn forward) trigger now h
    (remaining_talks used a _ (forward_goes_on a forward.new_cumulative_tsn forward.streams trigger now) h)
chunk_talks used header (chunks.IForwardTsn forward) a trigger now h =
    greeting_talks used a header (chunks.IForwardTsn forward) trigger now h
    (remaining_talks used a _
    (forward_goes_on a forward.new_cumulative_tsn (skips_of forward.entries) trigger now) h)
chunk_talks used header (chunks.Reconfig reconfig) a trigger now h =
    greeting_talks used a header (chunks.Reconfig reconfig) trigger now h
    (remaining_talks used a _ (reconfig_goes_on a reconfig trigger) h)
chunk_talks used header (chunks.Init init) a trigger now h =
    greeting_talks used a header (chunks.Init init) trigger now h (init_talks used a header init trigger h)
chunk_talks used header (chunks.InitAck init) a trigger now h =
    greeting_talks used a header (chunks.InitAck init) trigger now h (init_ack_talks used a header init trigger now h)
chunk_talks used header (chunks.CookieEcho cookie) a trigger now h =
    greeting_talks used a header (chunks.CookieEcho cookie) trigger now h
    (cookie_echo_talks (has_issued a.handshake cookie) (acknowledges_again a) used a cookie trigger refl refl h)
chunk_talks used header chunks.CookieAck a trigger now h =
    greeting_talks used a header chunks.CookieAck trigger now h (cookie_ack_talks used a trigger h)
chunk_talks used header (chunks.Heartbeat heartbeat) a trigger now h =
    greeting_talks used a header (chunks.Heartbeat heartbeat) trigger now h
    (heartbeat_talks used a heartbeat trigger h)
chunk_talks used header (chunks.Shutdown cumulative_tsn_ack) a trigger now h =
    greeting_talks used a header (chunks.Shutdown cumulative_tsn_ack) trigger now h (shutdown_talks used a h)
chunk_talks used header chunks.ShutdownAck a trigger now h =
    greeting_talks used a header chunks.ShutdownAck trigger now h (talks_by used a _ refl refl h)
chunk_talks used header c a trigger now h = greeting_talks used a header c trigger now h h

-- A close

closes_settle : (closed used : Bool) (a b : Shown) → is_closed_state a.state ≡ closed → Closes a b
    → IsSettled used a → IsSettled used b
closes_settle true used a b e c h = subst (IsSettled used) (sym (c.stays e)) h
closes_settle false used a b e c h =
    record { over = inr (c.ends e).lost; uses = ap (λ (k : Handshake). k.use_forward_tsn) c.handshake ∙ h.uses }

closed_settles : (used : Bool) (a : Shown) (reason : AssociationError) → IsSettled used a
    → IsSettled used (closed_by a reason)
closed_settles used a reason h =
    closes_settle (is_closed_state a.state) used a (closed_by a reason) refl (faults_close a reason) h

exhausts_settle : (closed used : Bool) (a b : Shown) → is_closed_state a.state ≡ closed → Exhausts a b
    → IsSettled used a → IsSettled used b
exhausts_settle true used a b e c h = same_settles used a b (c.stays e).1 h
exhausts_settle false used a b e c h =
    record { over = inr (c.ends e).lost; uses = ap (λ (k : Handshake). k.use_forward_tsn) c.handshake ∙ h.uses }

exhausted_settles : (used : Bool) (a : Shown) → IsSettled used a → IsSettled used (exhausted a)
exhausted_settles used a h =
    exhausts_settle (is_closed_state a.state) used a (exhausted a) refl (exhaustion_closes a) h

-- A packet

all_of_them : (cs : List Chunk) → AllByRecursion (λ (c : Chunk). ⊤) cs
all_of_them [] = tt
all_of_them (c ∷ cs) = (tt, all_of_them cs)

chunks_settle : (used : Bool) (header : CommonHeader) (cs : List Chunk) (a : Shown) (now : ℕ) → IsTalking used a
    → IsSettled used (after_chunks header cs a triggers.None now)
chunks_settle used header cs a now h =
    chunks_carry (IsTalking used) (IsSettled used) (λ (c : Chunk). ⊤)
    (λ header c b trigger at said k. chunk_talks used header c b trigger at k)
    (λ b trigger at k. talking_settles used (ended b trigger at) (talks_by used b (ended b trigger at) refl refl k))
    (λ b k. closed_settles used b reasons.AssociationClosed (talking_settles used b k))
    (λ b k. exhausted_settles used b (talking_settles used b k))
    header cs a triggers.None now (all_of_them cs) h

packet_of_settles : (packet : Option Packet) (used : Bool) (a : Shown) (now : ℕ) → IsTalking used a
    → IsSettled used (after_packet_of a packet now)
packet_of_settles None used a now h = talking_settles used a h
packet_of_settles (Some packet) used a now h =
    chunks_settle used packet.common_header packet.chunks a now h

packet_settles : (lost used : Bool) (a : Shown) (packet : Option Packet) (now : ℕ) → a.lost ≡ lost → IsSettled used a
    → IsSettled used (after_packet a packet now)
packet_settles true used a packet now e h =
    subst (IsSettled used) (sym (lost_associations_take_nothing a packet now e)) h
packet_settles false used a packet now e h =
    let past : is_beginning a.state ≡ false =
    ⊎_elim (λ (s : is_beginning a.state ≡ false). s) (λ (l : a.lost ≡ true). absurd (false≢true (sym e ∙ l))) h.over in
    subst (IsSettled used) (sym (cond-false a.lost a (after_packet_of a packet now) e))
    (packet_of_settles packet used a now (record { state = past; uses = h.uses }))

-- Any call that is carried out

relieved_settles : (exhausts used : Bool) (b : Shown) → IsSettled used b
    → IsSettled used (if exhausts then exhausted b else b)
relieved_settles true used b h = exhausted_settles used b h
relieved_settles false used b h = h

-- a window that is told changes nothing of that
told_window_settles : (tells used : Bool) (b : Shown) → IsSettled used b → IsSettled used (told_if tells b)
told_window_settles true used b h = record { over = h.over; uses = h.uses }
told_window_settles false used b h = h

eased_settles : (before : ℕ) (used : Bool) (b : Shown) → IsSettled used b → IsSettled used (eased before b)
eased_settles before used b h =
    told_window_settles (tells_window before (relieved b)) used (relieved b)
    (relieved_settles (is_exhausted b) used b h)

read_settles : (x : StreamMap × Option ReceivedMessage) (used : Bool) (a : Shown) (id : ℕ) → IsSettled used a
    → IsSettled used (after_read a id x).0
read_settles (streams, None) used a id h =
    remaining_settles used a (drained_behind a id streams) (drained_goes_on a id streams) h
read_settles (streams, Some message) used a id h =
    let b : Shown = drained_behind a id streams in
    eased_settles (credit_in a) used b (remaining_settles used a b (drained_goes_on a id streams) h)

-- a stop of a stream, where its read half is open
stop_settles : (opened used : Bool) (before : ℕ) (a : Shown) (id : ℕ) → IsSettled used a
    → IsSettled used (if opened then eased before (stopped_open a id) else a)
stop_settles true used before a id h =
    let b : Shown = stopped_open a id in
    eased_settles before used b (remaining_settles used a b (stopped_goes_on a id) h)
stop_settles false used before a id h = h

told_settles : (x : Shown × Option Event) (used : Bool) (a : Shown) → event_polled a ≡ x → IsSettled used a
    → IsSettled used (with_told x).0
told_settles (b, event) used a e h = same_settles used a b (told_events_keep_the_status a b event e).0 h

-- a poll leaves the stage, or closes
poll_settles : (completes used : Bool) (a : Shown) (now : ℕ) → completes_shutdown (open_polled a now).0 ≡ completes
    → IsSettled used a → IsSettled used (polled a now).0
poll_settles true used a now e h =
    let m = polls_keep_the_stage a now in
    closes_settle false used (open_polled a now).0 (polled a now).0 (m.was_open e) (m.closes e)
    (staged_settles used a (open_polled a now).0 m.front h)
poll_settles false used a now e h = staged_settles used a (polled a now).0 ((polls_keep_the_stage a now).same e) h

begun_past_the_handshake : (acknowledged : Bool)
    → is_beginning (if acknowledged then state_behind_data states.ShutdownPending else states.ShutdownPending) ≡ false
begun_past_the_handshake true = refl
begun_past_the_handshake false = refl

pub carried_settles : (call : Call) (used : Bool) (a : Shown) → IsSettled used a
    → IsSettled used (carried_out call a).0
carried_settles (Call.OpenStream id kind) used a h =
    same_settles used a _ (opened_streams_keep_the_status a id kind) h
carried_settles (Call.Write id named bytes) used a h =
    same_settles used a _ (writes_keep_the_status a id named bytes) h
carried_settles (Call.Set id setting) used a h = same_settles used a _ (settings_keep_the_status a id setting) h
carried_settles Call.AcceptStream used a h = same_settles used a _ (accepted_streams_keep_the_status a).0 h
carried_settles (Call.SetMaxSendMessageSize size) used a h =
    same_settles used a _ (limits_keep_the_status a size).0 h
carried_settles Call.Shutdown used a h =
    record { over = inl (begun_past_the_handshake (all_acknowledged a)); uses = h.uses }
carried_settles Call.PollEndpointEvent used a h = record { over = h.over; uses = h.uses }
carried_settles Call.Close used a h = closed_settles used a reasons.AssociationClosed h
carried_settles (Call.Read id) used a h = read_settles (read_in a.streams id) used a id h
carried_settles Call.Poll used a h = told_settles (event_polled a) used a refl h
carried_settles (Call.PollTransmit now) used a h =
    poll_settles (completes_shutdown (open_polled a now).0) used a now refl h
carried_settles (Call.HandleTimeout now) used a h = same_settles used a _ (timers_keep_the_status a now).0 h
carried_settles (Call.HandleEvent packet now) used a h = packet_settles a.lost used a packet now refl h
carried_settles (Call.Stop id) used a h =
    stop_settles (holds_of (λ s. is_read_half_open s.halves) a id) used (credit_in a) a id h
carried_settles (Call.CloseStream id) used a h =
    let b : Shown = adjusted a id settings.WriteHalfClosed in
    stop_settles (holds_of (λ s. is_read_half_open s.halves) b id) used (credit_in b) b id
    (same_settles used a b (settings_keep_the_status a id settings.WriteHalfClosed) h)
