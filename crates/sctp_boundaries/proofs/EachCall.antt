-- Each call of a present side goes on as its parts do.
use Rattle.std.proofs.Common.{◌≡◌, refl, sym, ap, ◌∙◌, subst, ◌⊎◌, inl, inr, ℕ, Bool, true, false, eqb}
use Rattle.std.proofs.Common.{if◌then◌else◌, List, [], ◌∷◌, take, Option, Some, None}
use Rattle.std.proofs.lemmas.Bool.{true≢false}
use Rattle.std.proofs.lemmas.List.{append-nil}
use Rattle.sctp_wire.specs.declared.packet.Packet.{Packet}
use Rattle.sctp_receive_queues.specs.Messages.{ReceivedMessage}
use Rattle.sctp_streams.specs.declared.event.Event.{Event}
use Rattle.sctp_streams.specs.declared.setting.Setting.TheVariants as settings
use Rattle.sctp_streams.specs.Stream.{params_of}
use Rattle.sctp_assoc.specs.declared.call.Call.{Call}
use Rattle.sctp_assoc.specs.declared.call.Call.TheVariants as calls
use Rattle.sctp_assoc.specs.declared.call.Reply.{Reply}
use Rattle.sctp_assoc.specs.declared.call.Reply.TheVariants as replies
use Rattle.sctp_assoc.specs.Calls.{first_filled}
use Rattle.sctp_assoc.specs.Gather.{polled}
use Rattle.sctp_assoc.specs.Happened.{PollsOn, acts_of_poll, forwards_of_poll}
use Rattle.sctp_assoc.specs.Replies.{GivesOut, Reads, Replies, TakesPacket, packet_in}
use Rattle.sctp_assoc.specs.Shown.{Shown}
use Rattle.sctp_sides.specs.OneSide as side
use Rattle.sctp_sides.specs.OneSide.{Calls}
use Rattle.sctp_sides.specs.Runs.{told_in}
use Rattle.sctp_sides.proofs.RunsListed.{listed, own_unrefused}
use Rattle.sctp_course_sides.specs.Turns.{IsPresent}
use Rattle.sctp_course_sides.proofs.ReceiverCalls.{BringsAndReadsNothing}
use Rattle.sctp_course_sides.proofs.TruthInCalls.{BringsNoPacket}
use Rattle.sctp_boundaries.proofs.Calling.{CallGoes, GoesByCalls, IsBrought, IsOfApplication, is_poll, message_given}

module _ (id : ℕ) (x : Shown) (Brings : Option Packet → Type 0)
    (On : Bool → Option ReceivedMessage → Shown → List (List ℕ) → Type 0) (by : GoesByCalls id x Brings On)
    (present : IsPresent x) (y : Shown) (packets more : List (List ℕ))
  where
    abbrev Leads : Call → Reply → Type 0
    Leads call r = CallGoes On id call r y packets more

    -- nothing was given out
    silent : (call : Call) (r : Reply) → more ≡ packets → On (is_poll call) (message_given call r id) y []
        → Leads call r
    silent call r e l = record { given = []; extends = e ∙ sym (append-nil packets); goes = l }

    same_leads : (polls : Bool) (z : Shown) → z ≡ x → On polls None z []
    same_leads polls z e = subst (λ (v : Shown). On polls None v []) (sym e) (by.same polls)

    -- a call of which nothing is read, if it is carried out
    called_leads : (c : side.Call) (z : Shown) (told : List Event) → IsOfApplication c → BringsNoPacket c
        → BringsAndReadsNothing c → Calls c told x z → On false None z []
    called_leads c z told plain apart quiet (inl carried) =
        subst (λ (v : Shown × List Event). On false None v.0 []) carried.there
        (by.quiet c plain apart quiet carried.accepted)
    called_leads c z told plain apart quiet (inr (inl same)) = same_leads false z same.same
    called_leads c z told plain apart quiet (inr (inr fails)) = by.failed false z fails.failed.marked

    one_leads : (c : side.Call) → IsOfApplication c → BringsNoPacket c → BringsAndReadsNothing c
        → (told : List Event) → side.IsRun (c ∷ []) told x y → On false None y []
    one_leads c plain apart quiet told run =
        subst (λ (z : Shown). On false None z []) (sym run.others.same)
        (called_leads c run.middle run.first plain apart quiet run.called)

    -- a question
    none_leads : (told : List Event) → side.IsRun [] told x y → On false None y []
    none_leads told run = same_leads false y run.same

    -- a read
    reads_lead : (k : ℕ) (r : Reply) → Reads x k r y → (m : Option ReceivedMessage)
        → ((message : Option ReceivedMessage) → r ≡ replies.Read message
        → m ≡ (if eqb k id then message else None))
        → (((n : ℕ) → r ≡ replies.Refused n → m ≡ None))
        → On false m y []
    reads_lead k (replies.Read message) h m read none =
        subst (λ (z : Option ReceivedMessage). On false z y []) (sym (read message refl))
        (subst (λ (v : Shown × Option ReceivedMessage). On false (if eqb k id then v.1 else None) v.0 []) h.1
        (by.read k (own_unrefused _ _ h.0)))
    reads_lead k (replies.Refused n) (inl h) m read none =
        subst (λ (z : Option ReceivedMessage). On false z y []) (sym (none n refl)) (same_leads false y h.1)
    reads_lead k (replies.Refused n) (inr h) m read none =
        subst (λ (z : Option ReceivedMessage). On false z y []) (sym (none n refl)) (by.failed false y h.1.2.marked)
    reads_lead k r h m read none = absurd h

    read_given : (k : ℕ) (r : Reply) → Reads x k r y
        → On false (message_given (calls.Read k) r id) y []
    read_given k (replies.Read message) h =
        reads_lead k (replies.Read message) h (if eqb k id then message else None)
        (λ (n : Option ReceivedMessage) (e : replies.Read message ≡ replies.Read n).
        ap (λ (z : Option ReceivedMessage). if eqb k id then z else None) (let f : message ≡ n = cc in f))
        (λ n e. absurd cc)
    read_given k (replies.Refused n) h =
        reads_lead k (replies.Refused n) h None (λ message e. absurd cc) (λ l e. refl)
    read_given k r h = absurd h

    sctp_read_given : (k : ℕ) (r : Reply) → Reads x k r y
        → On false (message_given (calls.ReadSctp k) r id) y []
    sctp_read_given k (replies.Read message) h = read_given k (replies.Read message) h
    sctp_read_given k (replies.Refused n) h = read_given k (replies.Refused n) h
    sctp_read_given k r h = absurd h

    -- a datagram
    takes_lead : (packet : Option Packet) (now : ℕ) (r : Reply) → TakesPacket x packet now r y → Brings packet
        → On false None y []
    takes_lead packet now replies.Done h brings =
        subst (λ (z : Shown). On false None z []) (sym h.1) (by.packet packet now brings)
    takes_lead packet now (replies.Refused n) (inl had) brings = same_leads false y had.2
    takes_lead packet now (replies.Refused n) (inr (inl h)) brings = by.failed false y h.1.2.marked
    takes_lead packet now (replies.Refused n) (inr (inr lacks)) brings = same_leads false y lacks.2
    takes_lead packet now r h brings = absurd h

    -- a poll for packets
    poll_leads : (now : ℕ) → (polled x now).0 ≡ y
        → PollsOn (acts_of_poll x now) (forwards_of_poll x now) x y (polled x now).1
        → On true None y (polled x now).1
    poll_leads now e on =
        subst
        (λ (z : Shown). PollsOn (acts_of_poll x now) (forwards_of_poll x now) x z (polled x now).1
        → On true None z (polled x now).1) e (by.poll now) on

    gives_lead : (now : ℕ) (r : Reply) → GivesOut x packets now r y more → Leads (calls.PollTransmit now) r
    gives_lead now replies.NothingSent h =
        silent (calls.PollTransmit now) replies.NothingSent h.3
        (subst (λ (g : List (List ℕ)). On true None y g) (ap (λ (v : Shown × List (List ℕ)). v.1) h.1)
        (poll_leads now (ap (λ (v : Shown × List (List ℕ)). v.0) h.1)
        (subst (λ (g : List (List ℕ)). PollsOn (acts_of_poll x now) (forwards_of_poll x now) x y g)
        (sym (ap (λ (v : Shown × List (List ℕ)). v.1) h.1)) h.2)))
    gives_lead now (replies.Sent first count) h =
        record { given = (polled x now).1; extends = h.6; goes = poll_leads now h.4 h.5 }
    gives_lead now (replies.Refused n) (inl had) =
        absurd (true≢false (sym had.0.0 ∙ present.working))
    gives_lead now (replies.Refused n) (inr (inl h)) =
        silent (calls.PollTransmit now) (replies.Refused n) h.2 (by.failed true y h.1.2.marked)
    gives_lead now (replies.Refused n) (inr (inr loses)) = record {
      given = take loses.4.0 (polled x now).1;
      extends = loses.4.2;
      goes = by.front y loses.4.0 (polled x now).1 (poll_leads now loses.2 loses.3);
    }
    gives_lead now r h = absurd h

    -- Any call

    pub call_leads : (call : Call) (r : Reply) → Replies call x packets r y more → IsBrought Brings call
        → Leads call r
    call_leads (calls.OpenStream k kind) r h brought =
        silent (calls.OpenStream k kind) r h.1
        (one_leads (side.Call.OpenStream k kind) tt tt tt (told_in r)
        (listed x y (calls.OpenStream k kind) packets more r h))
    call_leads calls.AcceptStream r h brought =
        silent calls.AcceptStream r h.1
        (one_leads side.Call.AcceptStream tt tt tt (told_in r) (listed x y calls.AcceptStream packets more r h))
    call_leads (calls.SetMaxSendMessageSize size) r h brought =
        silent (calls.SetMaxSendMessageSize size) r h.1
        (one_leads (side.Call.SetMaxSendMessageSize size) tt tt tt (told_in r)
        (listed x y (calls.SetMaxSendMessageSize size) packets more r h))
    call_leads (calls.Write k bytes) r h brought =
        silent (calls.Write k bytes) r h.1
        (one_leads (side.Call.Write k None bytes) tt tt tt (told_in r)
        (listed x y (calls.Write k bytes) packets more r h))
    call_leads (calls.WriteWithPpi k bytes kind) r h brought =
        silent (calls.WriteWithPpi k bytes kind) r h.1
        (one_leads (side.Call.Write k (Some kind) bytes) tt tt tt (told_in r)
        (listed x y (calls.WriteWithPpi k bytes kind) packets more r h))
    call_leads (calls.WriteSctp k bytes kind) r h brought =
        silent (calls.WriteSctp k bytes kind) r h.1
        (one_leads (side.Call.Write k (Some kind) bytes) tt tt tt (told_in r)
        (listed x y (calls.WriteSctp k bytes kind) packets more r h))
    call_leads (calls.WriteChunk k bytes) r h brought =
        silent (calls.WriteChunk k bytes) r h.1
        (one_leads (side.Call.Write k None bytes) tt tt tt (told_in r)
        (listed x y (calls.WriteChunk k bytes) packets more r h))
    call_leads (calls.WriteChunks k buffers) r h brought =
        silent (calls.WriteChunks k buffers) r h.1
        (one_leads (side.Call.Write k None (first_filled buffers.items)) tt tt tt (told_in r)
        (listed x y (calls.WriteChunks k buffers) packets more r h))
    call_leads (calls.Finish k) r h brought =
        silent (calls.Finish k) r h.1
        (one_leads (side.Call.Set k settings.WriteHalfClosed) tt tt tt (told_in r)
        (listed x y (calls.Finish k) packets more r h))
    call_leads (calls.Stop k) r h brought =
        silent (calls.Stop k) r h.1
        (one_leads (side.Call.Stop k) brought tt tt (told_in r) (listed x y (calls.Stop k) packets more r h))
    call_leads (calls.CloseStream k) r h brought =
        silent (calls.CloseStream k) r h.1
        (one_leads (side.Call.CloseStream k) brought tt tt (told_in r)
        (listed x y (calls.CloseStream k) packets more r h))
    call_leads (calls.SetReliabilityParams k unordered kind value) r h brought =
        silent (calls.SetReliabilityParams k unordered kind value) r h.1
        (one_leads (side.Call.Set k (settings.Reliability (params_of unordered kind value))) tt tt tt (told_in r)
        (listed x y (calls.SetReliabilityParams k unordered kind value) packets more r h))
    call_leads (calls.SetDefaultPayloadType k kind) r h brought =
        silent (calls.SetDefaultPayloadType k kind) r h.1
        (one_leads (side.Call.Set k (settings.DefaultPayloadType kind)) tt tt tt (told_in r)
        (listed x y (calls.SetDefaultPayloadType k kind) packets more r h))
    call_leads (calls.SetBufferedAmountLowThreshold k bytes) r h brought =
        silent (calls.SetBufferedAmountLowThreshold k bytes) r h.1
        (one_leads (side.Call.Set k (settings.LowMark bytes)) tt tt tt (told_in r)
        (listed x y (calls.SetBufferedAmountLowThreshold k bytes) packets more r h))
    call_leads (calls.SetBufferedAmountHighThreshold k bytes) r h brought =
        silent (calls.SetBufferedAmountHighThreshold k bytes) r h.1
        (one_leads (side.Call.Set k (settings.HighMark bytes)) tt tt tt (told_in r)
        (listed x y (calls.SetBufferedAmountHighThreshold k bytes) packets more r h))
    call_leads calls.Shutdown r h brought =
        silent calls.Shutdown r h.1
        (one_leads side.Call.Shutdown tt tt tt (told_in r) (listed x y calls.Shutdown packets more r h))
    call_leads calls.Close r h brought =
        silent calls.Close r h.1
        (one_leads side.Call.Close tt tt tt (told_in r) (listed x y calls.Close packets more r h))
    call_leads calls.Poll r h brought =
        silent calls.Poll r h.1 (one_leads side.Call.Poll tt tt tt (told_in r) (listed x y calls.Poll packets more r h))
    call_leads calls.PollEndpointEvent r h brought =
        silent calls.PollEndpointEvent r h.1
        (one_leads side.Call.PollEndpointEvent tt tt tt (told_in r)
        (listed x y calls.PollEndpointEvent packets more r h))
    call_leads (calls.HandleTimeout now) r h brought =
        silent (calls.HandleTimeout now) r h.1
        (one_leads (side.Call.HandleTimeout now) tt tt tt (told_in r)
        (listed x y (calls.HandleTimeout now) packets more r h))
    call_leads (calls.Stream k) r h brought =
        silent (calls.Stream k) r h.1 (none_leads (told_in r) (listed x y (calls.Stream k) packets more r h))
    call_leads calls.StreamIds r h brought =
        silent calls.StreamIds r h.1 (none_leads (told_in r) (listed x y calls.StreamIds packets more r h))
    call_leads (calls.StreamStats k) r h brought =
        silent (calls.StreamStats k) r h.1 (none_leads (told_in r) (listed x y (calls.StreamStats k) packets more r h))
    call_leads (calls.IsReadable k) r h brought =
        silent (calls.IsReadable k) r h.1 (none_leads (told_in r) (listed x y (calls.IsReadable k) packets more r h))
    call_leads (calls.IsWritable k) r h brought =
        silent (calls.IsWritable k) r h.1 (none_leads (told_in r) (listed x y (calls.IsWritable k) packets more r h))
    call_leads (calls.StreamIdentifier k) r h brought =
        silent (calls.StreamIdentifier k) r h.1
        (none_leads (told_in r) (listed x y (calls.StreamIdentifier k) packets more r h))
    call_leads (calls.GetDefaultPayloadType k) r h brought =
        silent (calls.GetDefaultPayloadType k) r h.1
        (none_leads (told_in r) (listed x y (calls.GetDefaultPayloadType k) packets more r h))
    call_leads (calls.BufferedAmountLowThreshold k) r h brought =
        silent (calls.BufferedAmountLowThreshold k) r h.1
        (none_leads (told_in r) (listed x y (calls.BufferedAmountLowThreshold k) packets more r h))
    call_leads (calls.BufferedAmountHighThreshold k) r h brought =
        silent (calls.BufferedAmountHighThreshold k) r h.1
        (none_leads (told_in r) (listed x y (calls.BufferedAmountHighThreshold k) packets more r h))
    call_leads (calls.BufferedAmount k) r h brought =
        silent (calls.BufferedAmount k) r h.1
        (none_leads (told_in r) (listed x y (calls.BufferedAmount k) packets more r h))
    call_leads calls.PollTimeout r h brought =
        silent calls.PollTimeout r h.1 (none_leads (told_in r) (listed x y calls.PollTimeout packets more r h))
    call_leads calls.IsHandshaking r h brought =
        silent calls.IsHandshaking r h.1 (none_leads (told_in r) (listed x y calls.IsHandshaking packets more r h))
    call_leads calls.IsClosed r h brought =
        silent calls.IsClosed r h.1 (none_leads (told_in r) (listed x y calls.IsClosed packets more r h))
    call_leads calls.IsClosing r h brought =
        silent calls.IsClosing r h.1 (none_leads (told_in r) (listed x y calls.IsClosing packets more r h))
    call_leads calls.IsDrained r h brought =
        silent calls.IsDrained r h.1 (none_leads (told_in r) (listed x y calls.IsDrained packets more r h))
    call_leads calls.IsFailed r h brought =
        silent calls.IsFailed r h.1 (none_leads (told_in r) (listed x y calls.IsFailed packets more r h))
    call_leads calls.Rtt r h brought =
        silent calls.Rtt r h.1 (none_leads (told_in r) (listed x y calls.Rtt packets more r h))
    call_leads calls.Stats r h brought =
        silent calls.Stats r h.1 (none_leads (told_in r) (listed x y calls.Stats packets more r h))
    call_leads calls.Side r h brought =
        silent calls.Side r h.1 (none_leads (told_in r) (listed x y calls.Side packets more r h))
    call_leads calls.RemoteAddr r h brought =
        silent calls.RemoteAddr r h.1 (none_leads (told_in r) (listed x y calls.RemoteAddr packets more r h))
    call_leads calls.LocalIp r h brought =
        silent calls.LocalIp r h.1 (none_leads (told_in r) (listed x y calls.LocalIp packets more r h))
    call_leads (calls.Read k) r h brought = silent (calls.Read k) r h.1 (read_given k r h.0)
    call_leads (calls.ReadSctp k) r h brought = silent (calls.ReadSctp k) r h.1 (sctp_read_given k r h.0)
    call_leads (calls.PollTransmit now) r h brought = gives_lead now r h
    call_leads (calls.HandleDatagram bytes remote now) r h brought =
        silent (calls.HandleDatagram bytes remote now) r h.1
        (takes_lead (packet_in bytes) now r h.0 brought)
