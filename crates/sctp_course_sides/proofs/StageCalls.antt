-- A call that brings no packet leaves the stage of a side's handshake, or nothing is left of the side.
use Rattle.std.proofs.Common.{◌≡◌, refl, sym, ap, ◌∙◌, subst, ◌⊎◌, ⊎_elim, inl, inr, ℕ, Bool, true, false, ◌||◌, Option}
use Rattle.std.proofs.Common.{if◌then◌else◌, Some, None}
use Rattle.std.proofs.lemmas.Bool.{cases_Bool, true≢false}
use Rattle.sctp_wire.specs.declared.packet.Packet.{Packet}
use Rattle.sctp_parts.specs.declared.state.AssociationState.{AssociationState}
use Rattle.sctp_receive_queues.specs.Messages.{ReceivedMessage}
use Rattle.sctp_streams.specs.declared.event.AssociationError.{AssociationError}
use Rattle.sctp_streams.specs.declared.event.AssociationError.TheVariants as reasons
use Rattle.sctp_streams.specs.declared.setting.Setting.TheVariants as settings
use Rattle.sctp_streams.specs.Stream.{is_read_half_open}
use Rattle.sctp_streams.specs.Streams.{StreamMap, read_in}
use Rattle.sctp_assoc.specs.Calls.{adjusted, after_read, credit_in, drained_behind, eased, event_polled, holds_of}
use Rattle.sctp_assoc.specs.Calls.{read_from_stream, stopped, stopped_open, tells_window, told_if}
use Rattle.sctp_assoc.specs.Chunks.{after_packet}
use Rattle.sctp_assoc.specs.Closing.{closed_by, exhausted, is_closed_state, is_exhausted}
use Rattle.sctp_assoc.specs.Gather.{open_polled, polled}
use Rattle.sctp_assoc.specs.Shown.{Shown}
use Rattle.sctp_assoc.specs.Shutdown.{completes_shutdown}
use Rattle.sctp_sides.specs.Laws.{closes}
use Rattle.sctp_sides.specs.Meeting.{IsAsFarOn, Stage}
use Rattle.sctp_sides.specs.OneSide.{Call, call_refusal, carried_out}
use Rattle.sctp_sides.specs.SideLaws.{IsSameStatus, KeepsTheStage}
use Rattle.sctp_sides.proofs.ClosingPackets.{faults_alone_close}
use Rattle.sctp_sides.proofs.EndedPolls.{by_poll_end}
use Rattle.sctp_sides.proofs.Proved.{accepted_streams_keep_the_status, endpoint_events_keep_the_status}
use Rattle.sctp_sides.proofs.Proved.{exhaustion_closes, faults_close, limits_keep_the_status}
use Rattle.sctp_sides.proofs.Proved.{opened_streams_keep_the_status, polls_keep_the_stage, reads_keep_the_status}
use Rattle.sctp_sides.proofs.Proved.{settings_keep_the_status, shutdowns_keep_the_stage, stops_keep_the_status}
use Rattle.sctp_sides.proofs.Proved.{the_same_handshake_is_the_same_stage, the_same_status_is_the_same_stage}
use Rattle.sctp_sides.proofs.Proved.{timers_keep_the_status, told_events_keep_the_status, writes_keep_the_status}
use Rattle.sctp_sides.proofs.Status.{status_by}
use Rattle.sctp_course_sides.specs.Meets.{IsAtStage}
use Rattle.sctp_course_sides.specs.Over.{IsOver}
use Rattle.sctp_course_sides.proofs.BecomesOver.{closed_over, ended_over, exhausted_over, packet_over}
use Rattle.sctp_course_sides.proofs.OverSides.{closed_tells_nothing, told_left}
use Rattle.sctp_course_sides.proofs.TruthInCalls.{BringsNoPacket}

-- nothing is left, or the stage is
abbrev EndsOrKeeps : Shown → Shown → Type 0
EndsOrKeeps a b = IsOver b ⊎ KeepsTheStage a b

same_status : (a : Shown) → IsSameStatus a a
same_status a = record {
  failed = refl;
  state = refl;
  lost = refl;
  size = refl;
  side = refl;
  handshake = refl;
  truthful = λ own t. t;
}

status_then : (a b d : Shown) → IsSameStatus a b → IsSameStatus b d → IsSameStatus a d
status_then a b d f g = record {
  failed = g.failed ∙ f.failed;
  state = g.state ∙ f.state;
  lost = g.lost ∙ f.lost;
  size = g.size ∙ f.size;
  side = g.side ∙ f.side;
  handshake = g.handshake ∙ f.handshake;
  truthful = λ own t. g.truthful own (f.truthful own t);
}

keeps : (a b : Shown) → IsSameStatus a b → EndsOrKeeps a b
keeps a b same = inr (the_same_status_is_the_same_stage a b same)

ends_behind : (a c b : Shown) → IsSameStatus a c → EndsOrKeeps c b → EndsOrKeeps a b
ends_behind a c b same (inl over) = inl over
ends_behind a c b same (inr k) = inr record {
  failed = k.failed ∙ same.failed;
  state = subst (λ (z : AssociationState). IsAsFarOn z b.state) same.state k.state;
  lost = k.lost ∙ same.lost;
  size = k.size ∙ same.size;
  side = k.side ∙ same.side;
  handshake = k.handshake ∙ same.handshake;
  truthful = λ own t. k.truthful own (same.truthful own t);
}

-- a close of a closed side, as of a server that listens, changes nothing
close_ends : (closed : Bool) (a : Shown) (reason : AssociationError) → is_closed_state a.state ≡ closed
    → EndsOrKeeps a (closed_by a reason)
close_ends true a reason e = subst (EndsOrKeeps a) (sym ((faults_close a reason).stays e)) (keeps a a (same_status a))
close_ends false a reason e = inl (closed_over a reason e)

-- an exhausted receive buffer closes an open side, and no window is told then
exhausted_ends : (closed : Bool) (before : ℕ) (a b : Shown) → is_closed_state b.state ≡ closed → IsSameStatus a b
    → EndsOrKeeps a (told_if (tells_window before (exhausted b)) (exhausted b))
exhausted_ends true before a b e same =
    let stays : IsSameStatus b (exhausted b) = ((exhaustion_closes b).stays e).1 in
    subst (EndsOrKeeps a) (sym (closed_tells_nothing before (exhausted b) (ap is_closed_state stays.state ∙ e)))
    (keeps a (exhausted b) (status_then a b (exhausted b) same stays))
exhausted_ends false before a b e same =
    let over : IsOver (exhausted b) = exhausted_over b e in
    inl (subst IsOver (sym (closed_tells_nothing before (exhausted b) over.closed)) over)

-- a window that opened may be told
window_status : (tells : Bool) (a b : Shown) → IsSameStatus a b → IsSameStatus a (told_if tells b)
window_status true a b same =
    let c : Shown = told_if true b in
    status_then a b c same (status_by b c refl refl refl refl refl refl refl)
window_status false a b same = same

eased_ends_if : (exhausts : Bool) (before : ℕ) (a b : Shown) → IsSameStatus a b
    → EndsOrKeeps a
    (told_if (tells_window before (if exhausts then exhausted b else b)) (if exhausts then exhausted b else b))
eased_ends_if true before a b same = exhausted_ends (is_closed_state b.state) before a b refl same
eased_ends_if false before a b same =
    keeps a (told_if (tells_window before b) b) (window_status (tells_window before b) a b same)

eased_ends : (before : ℕ) (a b : Shown) → IsSameStatus a b → EndsOrKeeps a (eased before b)
eased_ends before a b same = eased_ends_if (is_exhausted b) before a b same

after_read_ends : (x : StreamMap × Option ReceivedMessage) (a : Shown) (id : ℕ)
    → IsSameStatus a (drained_behind a id x.0) → EndsOrKeeps a (after_read a id x).0
after_read_ends (streams, None) a id same = keeps a (drained_behind a id streams) same
after_read_ends (streams, Some message) a id same = eased_ends (credit_in a) a (drained_behind a id streams) same

read_ends : (a : Shown) (id : ℕ) → EndsOrKeeps a (read_from_stream a id).0
read_ends a id = after_read_ends (read_in a.streams id) a id (reads_keep_the_status a id).same

stop_ends_if : (reads : Bool) (before : ℕ) (a b : Shown) → IsSameStatus a b
    → EndsOrKeeps a (if reads then eased before b else a)
stop_ends_if true before a b same = eased_ends before a b same
stop_ends_if false before a b same = keeps a a (same_status a)

stop_ends : (a : Shown) (id : ℕ) → EndsOrKeeps a (stopped a id)
stop_ends a id =
    stop_ends_if (holds_of (λ s. is_read_half_open s.halves) a id) (credit_in a) a (stopped_open a id)
    (stops_keep_the_status a id).same

poll_ends : (a : Shown) (now : ℕ) → EndsOrKeeps a (polled a now).0
poll_ends a now = ⊎_elim
    (λ (t : completes_shutdown (open_polled a now).0 ≡ true).
    inl (by_poll_end IsOver a now (λ f due timer. absurd (true≢false (sym t ∙ f)))
    (λ f open_still. ended_over (open_polled a now).0 open_still)))
    (λ (f : completes_shutdown (open_polled a now).0 ≡ false). inr ((polls_keep_the_stage a now).same f))
    (cases_Bool (completes_shutdown (open_polled a now).0))

both_parts : {A B : Type 0} (x : A × B) → x ≡ (x.0, x.1)
both_parts (a, b) = refl

call_ends : (call : Call) (a : Shown) → BringsNoPacket call → call_refusal call a ≡ None
    → EndsOrKeeps a (carried_out call a).0
call_ends (Call.OpenStream id kind) a none e =
    keeps a (carried_out (Call.OpenStream id kind) a).0 (opened_streams_keep_the_status a id kind)
call_ends (Call.Write id named bytes) a none e =
    keeps a (carried_out (Call.Write id named bytes) a).0 (writes_keep_the_status a id named bytes)
call_ends (Call.Set id setting) a none e =
    keeps a (carried_out (Call.Set id setting) a).0 (settings_keep_the_status a id setting)
call_ends Call.AcceptStream a none e =
    keeps a (carried_out Call.AcceptStream a).0 (accepted_streams_keep_the_status a).0
call_ends (Call.SetMaxSendMessageSize size) a none e =
    keeps a (carried_out (Call.SetMaxSendMessageSize size) a).0 (limits_keep_the_status a size).0
call_ends Call.Shutdown a none e = inr (shutdowns_keep_the_stage a e).0
call_ends Call.Close a none e = close_ends (is_closed_state a.state) a reasons.AssociationClosed refl
call_ends (Call.Read id) a none e = read_ends a id
call_ends Call.Poll a none e =
    let b : Shown = (event_polled a).0 in
    subst (EndsOrKeeps a) (sym (told_left (event_polled a)))
    (keeps a b (told_events_keep_the_status a b (event_polled a).1 (both_parts (event_polled a))).0)
call_ends Call.PollEndpointEvent a none e =
    keeps a (carried_out Call.PollEndpointEvent a).0 (endpoint_events_keep_the_status a).0
call_ends (Call.PollTransmit now) a none e = poll_ends a now
call_ends (Call.HandleTimeout now) a none e =
    keeps a (carried_out (Call.HandleTimeout now) a).0 (timers_keep_the_status a now).0
call_ends (Call.HandleEvent packet now) a none e = absurd none
call_ends (Call.Stop id) a none e = stop_ends a id
call_ends (Call.CloseStream id) a none e =
    let c : Shown = adjusted a id settings.WriteHalfClosed in
    ends_behind a c (stopped c id) (settings_keep_the_status a id settings.WriteHalfClosed) (stop_ends c id)

-- Where the stage is kept a side is at it still.
pub stays_at : (own : ℕ) (s : Stage) (a b : Shown) → KeepsTheStage a b → IsAtStage own s a → IsAtStage own s b
stays_at own s a b k at =
    let same = the_same_handshake_is_the_same_stage a b k.side k.handshake in
    record {
      stage = same.0 ∙ at.stage;
      come = same.1 k.state at.come;
      truthful = k.truthful own at.truthful;
    }

-- The stage is kept unless the side was lost.
pub call_keeps_the_stage : (call : Call) (a : Shown) → BringsNoPacket call → call_refusal call a ≡ None
    → (carried_out call a).0.lost ≡ false → KeepsTheStage a (carried_out call a).0
call_keeps_the_stage call a none e lost =
    ⊎_elim
    (λ (over : IsOver (carried_out call a).0). absurd (true≢false (sym over.lost ∙ lost)))
    (λ (k : KeepsTheStage a (carried_out call a).0). k)
    (call_ends call a none e)

pub call_stays_at : (own : ℕ) (s : Stage) (call : Call) (a : Shown) → BringsNoPacket call
    → call_refusal call a ≡ None → (carried_out call a).0.lost ≡ false → IsAtStage own s a
    → IsAtStage own s (carried_out call a).0
call_stays_at own s call a none e lost at =
    stays_at own s a (carried_out call a).0 (call_keeps_the_stage call a none e lost) at

-- Of a side that is lost then nothing is left, whether it listened or not.
call_over : (call : Call) (a : Shown) → BringsNoPacket call → call_refusal call a ≡ None → a.lost ≡ false
    → (carried_out call a).0.lost ≡ true → IsOver (carried_out call a).0
call_over call a none e unlost lost =
    ⊎_elim (λ (over : IsOver (carried_out call a).0). over)
    (λ (k : KeepsTheStage a (carried_out call a).0). absurd (true≢false (sym lost ∙ k.lost ∙ unlost)))
    (call_ends call a none e)

packet_is_over : (packet : Option Packet) (a : Shown) (now : ℕ) → a.lost ≡ false
    → (after_packet a packet now).lost ≡ true → IsOver (after_packet a packet now)
packet_is_over packet a now unlost lost = by (closes a packet now) refl
  where
    by : (closing : Bool) → closes a packet now ≡ closing → IsOver (after_packet a packet now)
    by true e = packet_over a.lost packet a now e
    by false e =
        absurd (true≢false (sym lost ∙ (faults_alone_close a packet now).lost
        ∙ subst (λ (z : Bool). (z || a.lost) ≡ false) (sym e) unlost))

pub lost_is_over : (call : Call) (a : Shown) → call_refusal call a ≡ None → a.lost ≡ false
    → (carried_out call a).0.lost ≡ true → IsOver (carried_out call a).0
lost_is_over (Call.HandleEvent packet now) a e unlost lost = packet_is_over packet a now unlost lost
lost_is_over (Call.OpenStream id kind) a e unlost lost = call_over (Call.OpenStream id kind) a tt e unlost lost
lost_is_over (Call.Write id named bytes) a e unlost lost = call_over (Call.Write id named bytes) a tt e unlost lost
lost_is_over (Call.Set id setting) a e unlost lost = call_over (Call.Set id setting) a tt e unlost lost
lost_is_over Call.AcceptStream a e unlost lost = call_over Call.AcceptStream a tt e unlost lost
lost_is_over (Call.SetMaxSendMessageSize size) a e unlost lost =
    call_over (Call.SetMaxSendMessageSize size) a tt e unlost lost
lost_is_over Call.Shutdown a e unlost lost = call_over Call.Shutdown a tt e unlost lost
lost_is_over Call.Close a e unlost lost = call_over Call.Close a tt e unlost lost
lost_is_over (Call.Read id) a e unlost lost = call_over (Call.Read id) a tt e unlost lost
lost_is_over Call.Poll a e unlost lost = call_over Call.Poll a tt e unlost lost
lost_is_over Call.PollEndpointEvent a e unlost lost = call_over Call.PollEndpointEvent a tt e unlost lost
lost_is_over (Call.PollTransmit now) a e unlost lost = call_over (Call.PollTransmit now) a tt e unlost lost
lost_is_over (Call.HandleTimeout now) a e unlost lost = call_over (Call.HandleTimeout now) a tt e unlost lost
lost_is_over (Call.Stop id) a e unlost lost = call_over (Call.Stop id) a tt e unlost lost
lost_is_over (Call.CloseStream id) a e unlost lost = call_over (Call.CloseStream id) a tt e unlost lost
