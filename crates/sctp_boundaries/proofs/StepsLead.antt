-- Each step of a pair is a call of one side, and so keeps the boundaries of a stream where each call of a side does.
use Rattle.std.proofs.Common.{◌≡◌, refl, sym, ap, ◌∙◌, subst, ℕ, List}
use Rattle.std.proofs.Common.{Bool, Option, Some, None, ◌⊎◌, ⊎_elim, inl, inr}
use Rattle.std.specs.Prelude.{slice_get}
use Rattle.std.specs.declared.net.socket_addr.SocketAddr.{SocketAddr}
use Rattle.sctp_wire_types.specs.declared.chunk.ChunkPayloadData.{ChunkPayloadData}
use Rattle.sctp_receive_queues.specs.Messages.{ReceivedMessage}
use Rattle.sctp_reset_requests.specs.Laws.{DataHoldsBack, NamesAreThoseListed}
use Rattle.sctp_courses.specs.Course.{Course}
use Rattle.sctp_assoc.specs.declared.call.Call.{Call}
use Rattle.sctp_assoc.specs.declared.call.Call.TheVariants as calls
use Rattle.sctp_assoc.specs.declared.call.Reply.{Reply}
use Rattle.sctp_assoc.specs.declared.call.Reply.TheVariants as replies
use Rattle.sctp_assoc.specs.Replies.{Replies, RepliesAlone, TakesIn, packet_in}
use Rattle.sctp_assoc.specs.Shown.{Shown}
use Rattle.sctp_course_sides.specs.Turns.{IsPresent}
use Rattle.sctp_steps.specs.declared.step.Side2.{Side2}
use Rattle.sctp_steps.specs.declared.step.Side2.TheVariants as sides
use Rattle.sctp_steps.specs.declared.step.Step.{Step}
use Rattle.sctp_steps.specs.declared.step.Step.TheVariants as steps
use Rattle.sctp_steps.specs.Ends.{Ends}
use Rattle.sctp_steps.specs.Steps.{AtSide, ComesTo, Delivers, SendsAt, Steps}
use Rattle.sctp_steps.specs.Seen.{message_read, other_side}
use Rattle.sctp_boundaries.specs.Between.{Courses, IsGivenOut, Stand, StandBetween}
use Rattle.sctp_boundaries.specs.Laws.{LeadsBoth, NamesIdentifiers, StepsKeepBoundaries, polls_side}
use Rattle.sctp_boundaries.proofs.Acting.{FollowsBesideSending}
use Rattle.sctp_boundaries.proofs.Calling.{is_poll, message_given}
use Rattle.sctp_boundaries.proofs.Gone.{present_before}
use Rattle.sctp_boundaries.proofs.Led.{SideActs, a_leads, b_leads, flip, moves_nothing}
use Rattle.sctp_boundaries.proofs.SideActing.{IsOfOther, side_acts}

-- a step reads what its call reads, and asks for packets where that does
message_is_read : (id : ℕ) (side : Side2) (k : ℕ) (r : Reply)
    → (message_read (steps.Read side k) r side id ≡ message_given (calls.Read k) r id)
    × (message_read (steps.Read side k) r (other_side side) id ≡ None)
    × (polls_side side (steps.Read side k) ≡ is_poll (calls.Read k))
message_is_read id sides.A k (replies.Read message) = (refl, refl, refl)
message_is_read id sides.B k (replies.Read message) = (refl, refl, refl)
message_is_read id sides.A k r = (refl, refl, refl)
message_is_read id sides.B k r = (refl, refl, refl)

sctp_message_is_read : (id : ℕ) (side : Side2) (k : ℕ) (r : Reply)
    → (message_read (steps.ReadSctp side k) r side id ≡ message_given (calls.ReadSctp k) r id)
    × (message_read (steps.ReadSctp side k) r (other_side side) id ≡ None)
    × (polls_side side (steps.ReadSctp side k) ≡ is_poll (calls.ReadSctp k))
sctp_message_is_read id sides.A k (replies.Read message) = (refl, refl, refl)
sctp_message_is_read id sides.B k (replies.Read message) = (refl, refl, refl)
sctp_message_is_read id sides.A k r = (refl, refl, refl)
sctp_message_is_read id sides.B k r = (refl, refl, refl)

-- a side that stays as it is
rests : (own peer id : ℕ) (polls : Bool) (x y : Shown) (of_x of_y : List (List ℕ)) (out coming : Course)
    → Stand own peer id x y of_x of_y out coming → SideActs own peer id polls x y None x of_y of_x out coming
rests own peer id polls x y of_x of_y out coming st = record {
  moves = moves_nothing (IsGivenOut of_y) own peer id polls x None x out coming refl;
  stand = λ few less. st;
}

module _ (sent_beside : (P : ChunkPayloadData → Type 0) → FollowsBesideSending P) (held : DataHoldsBack)
    (those_listed : NamesAreThoseListed) (own_a own_b id : ℕ) (r : Reply)
    (p q : Ends) (w : Courses) (s : StandBetween own_a own_b id p w)
  where
    -- what a step reads is what its call reads, at its side alone
    abbrev ReadsAs : Step → Side2 → Call → Type 0
    ReadsAs step side call =
        (message_read step r side id ≡ message_given call r id) × (message_read step r (other_side side) id ≡ None)
        × (polls_side side step ≡ is_poll call)

    acts_at_a : (step : Step) (call : Call) → IsOfOther p.packets_b call
        → ReadsAs step sides.A call → Replies call p.a p.packets_a r q.a q.packets_a → q.b ≡ p.b
        → q.packets_b ≡ p.packets_b → LeadsBoth own_a own_b id step p r q w
    acts_at_a step call brought reads h same silent =
        let l = side_acts sent_beside held those_listed own_a own_b id p.a p.b q.a p.packets_a p.packets_b q.packets_a
        w.ab w.ba s call r brought h in
        a_leads own_a own_b id step p r q w s
        (subst
        (λ (m : Option ReceivedMessage). SideActs own_a own_b id (polls_side sides.A step) p.a p.b m q.a p.packets_b
        q.packets_a w.ab w.ba)
        (sym reads.0)
        (subst
        (λ (polls : Bool). SideActs own_a own_b id polls p.a p.b (message_given call r id) q.a p.packets_b q.packets_a
        w.ab w.ba)
        (sym reads.2) l))
        (present_before call r p.a q.a p.packets_a q.packets_a h s.here_x) reads.1 same silent

    acts_at_b : (step : Step) (call : Call) → IsOfOther p.packets_a call
        → ReadsAs step sides.B call → Replies call p.b p.packets_b r q.b q.packets_b → q.a ≡ p.a
        → q.packets_a ≡ p.packets_a → LeadsBoth own_a own_b id step p r q w
    acts_at_b step call brought reads h same silent =
        let l = side_acts sent_beside held those_listed own_b own_a id p.b p.a q.b p.packets_b p.packets_a q.packets_b
        w.ba w.ab (flip own_a own_b id p.a p.b p.packets_a p.packets_b w.ab w.ba s) call r brought h in
        b_leads own_a own_b id step p r q w s
        (subst
        (λ (m : Option ReceivedMessage). SideActs own_b own_a id (polls_side sides.B step) p.b p.a m q.b p.packets_a
        q.packets_b w.ba w.ab)
        (sym reads.0)
        (subst
        (λ (polls : Bool). SideActs own_b own_a id polls p.b p.a (message_given call r id) q.b p.packets_a q.packets_b
        w.ba w.ab)
        (sym reads.2) l))
        (present_before call r p.b q.b p.packets_b q.packets_b h s.here_y) reads.1 same silent

    -- a step that calls a side, and gives out nothing
    called : {step : Step} (side : Side2) (call : Call)
        → ((a b : Shown) (packets : List (List ℕ)) → RepliesAlone call a r b → Replies call a packets r b packets)
        → IsOfOther p.packets_b call → IsOfOther p.packets_a call
        → ReadsAs step side call
        → AtSide side p (λ a b. RepliesAlone call a r b) q → LeadsBoth own_a own_b id step p r q w
    called {step} sides.A call replied brought_a brought_b reads h =
        acts_at_a step call brought_a reads
        (subst (λ (n : List (List ℕ)). Replies call p.a p.packets_a r q.a n)
        (sym (ap (λ (z : Ends). z.packets_a) h.1)) (replied p.a q.a p.packets_a h.0))
        (ap (λ (z : Ends). z.b) h.1) (ap (λ (z : Ends). z.packets_b) h.1)
    called {step} sides.B call replied brought_a brought_b reads h =
        acts_at_b step call brought_b reads
        (subst (λ (n : List (List ℕ)). Replies call p.b p.packets_b r q.b n)
        (sym (ap (λ (z : Ends). z.packets_b) h.1)) (replied p.b q.b p.packets_b h.0))
        (ap (λ (z : Ends). z.a) h.1) (ap (λ (z : Ends). z.packets_a) h.1)

    -- a poll for packets
    polls_at : (side : Side2) (now : ℕ) → SendsAt side p now r q
        → LeadsBoth own_a own_b id (steps.PollTransmit side now) p r q w
    polls_at sides.A now h =
        acts_at_a (steps.PollTransmit sides.A now) (calls.PollTransmit now) tt (refl, refl, refl) h.0
        (ap (λ (z : Ends). z.b) h.1) (ap (λ (z : Ends). z.packets_b) h.1)
    polls_at sides.B now h =
        acts_at_b (steps.PollTransmit sides.B now) (calls.PollTransmit now) tt (refl, refl, refl) h.0
        (ap (λ (z : Ends). z.a) h.1) (ap (λ (z : Ends). z.packets_a) h.1)

    -- an address, of which a delivery takes no note
    module _ (remote : SocketAddr) where
      takes_a : (number now : ℕ) (bytes : List ℕ) → slice_get p.packets_b number ≡ Some bytes
          → TakesIn p.a bytes now r q.a → q ≡ record p { a = q.a }
          → LeadsBoth own_a own_b id (steps.Deliver sides.A number now) p r q w
      takes_a number now bytes e h same =
          acts_at_a (steps.Deliver sides.A number now) (calls.HandleDatagram bytes remote now) (number, e)
          (refl, refl, refl)
          (h, ap (λ (z : Ends). z.packets_a) same) (ap (λ (z : Ends). z.b) same) (ap (λ (z : Ends). z.packets_b) same)

      takes_b : (number now : ℕ) (bytes : List ℕ) → slice_get p.packets_a number ≡ Some bytes
          → TakesIn p.b bytes now r q.b → q ≡ record p { b = q.b }
          → LeadsBoth own_a own_b id (steps.Deliver sides.B number now) p r q w
      takes_b number now bytes e h same =
          acts_at_b (steps.Deliver sides.B number now) (calls.HandleDatagram bytes remote now) (number, e)
          (refl, refl, refl)
          (h, ap (λ (z : Ends). z.packets_b) same) (ap (λ (z : Ends). z.a) same) (ap (λ (z : Ends). z.packets_a) same)

    -- there is no such packet
    rests_a : (step : Step) → q.a ≡ p.a → q ≡ record p { a = q.a } → message_read step r sides.A id ≡ None
        → message_read step r sides.B id ≡ None → LeadsBoth own_a own_b id step p r q w
    rests_a step same only none others =
        a_leads own_a own_b id step p r q w s
        (subst
        (λ (m : Option ReceivedMessage). SideActs own_a own_b id (polls_side sides.A step) p.a p.b m q.a p.packets_b
        q.packets_a w.ab w.ba) (sym none)
        (subst (λ (ps : List (List ℕ)). SideActs own_a own_b id (polls_side sides.A step) p.a p.b None q.a p.packets_b
        ps w.ab w.ba) (sym (ap (λ (z : Ends). z.packets_a) only))
        (subst (λ (z : Shown). SideActs own_a own_b id (polls_side sides.A step) p.a p.b None z p.packets_b p.packets_a
        w.ab w.ba) (sym same)
        (rests own_a own_b id (polls_side sides.A step) p.a p.b p.packets_a p.packets_b w.ab w.ba s))))
        (subst IsPresent same) others (ap (λ (z : Ends). z.b) only) (ap (λ (z : Ends). z.packets_b) only)

    rests_b : (step : Step) → q.b ≡ p.b → q ≡ record p { b = q.b } → message_read step r sides.B id ≡ None
        → message_read step r sides.A id ≡ None → LeadsBoth own_a own_b id step p r q w
    rests_b step same only none others =
        b_leads own_a own_b id step p r q w s
        (subst
        (λ (m : Option ReceivedMessage). SideActs own_b own_a id (polls_side sides.B step) p.b p.a m q.b p.packets_a
        q.packets_b w.ba w.ab) (sym none)
        (subst (λ (ps : List (List ℕ)). SideActs own_b own_a id (polls_side sides.B step) p.b p.a None q.b p.packets_a
        ps w.ba w.ab) (sym (ap (λ (z : Ends). z.packets_b) only))
        (subst (λ (z : Shown). SideActs own_b own_a id (polls_side sides.B step) p.b p.a None z p.packets_a p.packets_b
        w.ba w.ab) (sym same)
        (rests own_b own_a id (polls_side sides.B step) p.b p.a p.packets_b p.packets_a w.ba w.ab
        (flip own_a own_b id p.a p.b p.packets_a p.packets_b w.ab w.ba s)))))
        (subst IsPresent same) others (ap (λ (z : Ends). z.a) only) (ap (λ (z : Ends). z.packets_a) only)

    none_or_some : (a b : Shown) (found : Option (List ℕ)) (now : ℕ) (reply : Reply)
        → Delivers a found now reply b
        → ((found ≡ None) × (b ≡ a)) ⊎ ((bytes : List ℕ) × (found ≡ Some bytes) × TakesIn a bytes now reply b)
    none_or_some a b None now replies.NoSuchPacket h = inl (refl, h)
    none_or_some a b None now reply h = absurd h
    none_or_some a b (Some bytes) now reply h = inr (bytes, refl, h)

    comes_at : (remote : SocketAddr) (side : Side2) (number now : ℕ) → ComesTo side p number now r q
        → LeadsBoth own_a own_b id (steps.Deliver side number now) p r q w
    comes_at remote sides.A number now h =
        ⊎_elim
        (λ (none : (slice_get p.packets_b number ≡ None) × (q.a ≡ p.a)).
        rests_a (steps.Deliver sides.A number now) none.1 h.1 refl refl)
        (λ (some : (bytes : List ℕ) × (slice_get p.packets_b number ≡ Some bytes) × TakesIn p.a bytes now r q.a).
        takes_a remote number now some.0 some.1 some.2 h.1)
        (none_or_some p.a q.a (slice_get p.packets_b number) now r h.0)
    comes_at remote sides.B number now h =
        ⊎_elim
        (λ (none : (slice_get p.packets_a number ≡ None) × (q.b ≡ p.b)).
        rests_b (steps.Deliver sides.B number now) none.1 h.1 refl refl)
        (λ (some : (bytes : List ℕ) × (slice_get p.packets_a number ≡ Some bytes) × TakesIn p.b bytes now r q.b).
        takes_b remote number now some.0 some.1 some.2 h.1)
        (none_or_some p.b q.b (slice_get p.packets_a number) now r h.0)

    step_acts : (step : Step) → NamesIdentifiers step → Steps step p r q → LeadsBoth own_a own_b id step p r q w
    step_acts (steps.OpenStream side k kind) named h =
        called side (calls.OpenStream k kind) (λ a b n c. (c, refl)) tt tt (refl, refl, refl) h
    step_acts (steps.Stream side k) named h =
        called side (calls.Stream k) (λ a b n c. (c, refl)) tt tt (refl, refl, refl) h
    step_acts (steps.AcceptStream side) named h =
        called side calls.AcceptStream (λ a b n c. (c, refl)) tt tt (refl, refl, refl) h
    step_acts (steps.StreamIds side) named h =
        called side calls.StreamIds (λ a b n c. (c, refl)) tt tt (refl, refl, refl) h
    step_acts (steps.SetMaxSendMessageSize side size) named h =
        called side (calls.SetMaxSendMessageSize size) (λ a b n c. (c, refl)) tt tt (refl, refl, refl) h
    step_acts (steps.Write side k bytes) named h =
        called side (calls.Write k bytes) (λ a b n c. (c, refl)) tt tt (refl, refl, refl) h
    step_acts (steps.WriteWithPpi side k bytes kind) named h =
        called side (calls.WriteWithPpi k bytes kind) (λ a b n c. (c, refl)) tt tt (refl, refl, refl) h
    step_acts (steps.WriteSctp side k bytes kind) named h =
        called side (calls.WriteSctp k bytes kind) (λ a b n c. (c, refl)) tt tt (refl, refl, refl) h
    step_acts (steps.WriteChunk side k bytes) named h =
        called side (calls.WriteChunk k bytes) (λ a b n c. (c, refl)) tt tt (refl, refl, refl) h
    step_acts (steps.WriteChunks side k chunks) named h =
        called side (calls.WriteChunks k chunks) (λ a b n c. (c, refl)) tt tt (refl, refl, refl) h
    step_acts (steps.Read side k) named h =
        called side (calls.Read k) (λ a b n c. (c, refl)) tt tt (message_is_read id side k r) h
    step_acts (steps.ReadSctp side k) named h =
        called side (calls.ReadSctp k) (λ a b n c. (c, refl)) tt tt (sctp_message_is_read id side k r) h
    step_acts (steps.Finish side k) named h =
        called side (calls.Finish k) (λ a b n c. (c, refl)) tt tt (refl, refl, refl) h
    step_acts (steps.Stop side k) named h =
        called side (calls.Stop k) (λ a b n c. (c, refl)) named named (refl, refl, refl) h
    step_acts (steps.CloseStream side k) named h =
        called side (calls.CloseStream k) (λ a b n c. (c, refl)) named named (refl, refl, refl) h
    step_acts (steps.SetReliabilityParams side k unordered kind value) named h =
        called side (calls.SetReliabilityParams k unordered kind value) (λ a b n c. (c, refl)) tt tt (refl, refl, refl)
        h
    step_acts (steps.SetDefaultPayloadType side k kind) named h =
        called side (calls.SetDefaultPayloadType k kind) (λ a b n c. (c, refl)) tt tt (refl, refl, refl) h
    step_acts (steps.SetBufferedAmountLowThreshold side k bytes) named h =
        called side (calls.SetBufferedAmountLowThreshold k bytes) (λ a b n c. (c, refl)) tt tt (refl, refl, refl) h
    step_acts (steps.SetBufferedAmountHighThreshold side k bytes) named h =
        called side (calls.SetBufferedAmountHighThreshold k bytes) (λ a b n c. (c, refl)) tt tt (refl, refl, refl) h
    step_acts (steps.StreamStats side k) named h =
        called side (calls.StreamStats k) (λ a b n c. (c, refl)) tt tt (refl, refl, refl) h
    step_acts (steps.IsReadable side k) named h =
        called side (calls.IsReadable k) (λ a b n c. (c, refl)) tt tt (refl, refl, refl) h
    step_acts (steps.IsWritable side k) named h =
        called side (calls.IsWritable k) (λ a b n c. (c, refl)) tt tt (refl, refl, refl) h
    step_acts (steps.StreamIdentifier side k) named h =
        called side (calls.StreamIdentifier k) (λ a b n c. (c, refl)) tt tt (refl, refl, refl) h
    step_acts (steps.GetDefaultPayloadType side k) named h =
        called side (calls.GetDefaultPayloadType k) (λ a b n c. (c, refl)) tt tt (refl, refl, refl) h
    step_acts (steps.BufferedAmountLowThreshold side k) named h =
        called side (calls.BufferedAmountLowThreshold k) (λ a b n c. (c, refl)) tt tt (refl, refl, refl) h
    step_acts (steps.BufferedAmountHighThreshold side k) named h =
        called side (calls.BufferedAmountHighThreshold k) (λ a b n c. (c, refl)) tt tt (refl, refl, refl) h
    step_acts (steps.Shutdown side) named h =
        called side calls.Shutdown (λ a b n c. (c, refl)) tt tt (refl, refl, refl) h
    step_acts (steps.Close side) named h = called side calls.Close (λ a b n c. (c, refl)) tt tt (refl, refl, refl) h
    step_acts (steps.BufferedAmount side k) named h =
        called side (calls.BufferedAmount k) (λ a b n c. (c, refl)) tt tt (refl, refl, refl) h
    step_acts (steps.Poll side) named h = called side calls.Poll (λ a b n c. (c, refl)) tt tt (refl, refl, refl) h
    step_acts (steps.PollEndpointEvent side) named h =
        called side calls.PollEndpointEvent (λ a b n c. (c, refl)) tt tt (refl, refl, refl) h
    step_acts (steps.PollTimeout side) named h =
        called side calls.PollTimeout (λ a b n c. (c, refl)) tt tt (refl, refl, refl) h
    step_acts (steps.PollTransmit side now) named h = polls_at side now h
    step_acts (steps.HandleTimeout side now) named h =
        called side (calls.HandleTimeout now) (λ a b n c. (c, refl)) tt tt (refl, refl, refl) h
    step_acts (steps.Deliver side number now) named h = comes_at p.a.remote_addr side number now h
    step_acts (steps.IsHandshaking side) named h =
        called side calls.IsHandshaking (λ a b n c. (c, refl)) tt tt (refl, refl, refl) h
    step_acts (steps.IsClosed side) named h =
        called side calls.IsClosed (λ a b n c. (c, refl)) tt tt (refl, refl, refl) h
    step_acts (steps.IsClosing side) named h =
        called side calls.IsClosing (λ a b n c. (c, refl)) tt tt (refl, refl, refl) h
    step_acts (steps.IsDrained side) named h =
        called side calls.IsDrained (λ a b n c. (c, refl)) tt tt (refl, refl, refl) h
    step_acts (steps.IsFailed side) named h =
        called side calls.IsFailed (λ a b n c. (c, refl)) tt tt (refl, refl, refl) h
    step_acts (steps.Rtt side) named h = called side calls.Rtt (λ a b n c. (c, refl)) tt tt (refl, refl, refl) h
    step_acts (steps.Stats side) named h = called side calls.Stats (λ a b n c. (c, refl)) tt tt (refl, refl, refl) h
    step_acts (steps.Side side) named h = called side calls.Side (λ a b n c. (c, refl)) tt tt (refl, refl, refl) h
    step_acts (steps.RemoteAddr side) named h =
        called side calls.RemoteAddr (λ a b n c. (c, refl)) tt tt (refl, refl, refl) h
    step_acts (steps.LocalIp side) named h = called side calls.LocalIp (λ a b n c. (c, refl)) tt tt (refl, refl, refl) h

pub steps_lead_by : ((P : ChunkPayloadData → Type 0) → FollowsBesideSending P) → DataHoldsBack → NamesAreThoseListed
    → StepsKeepBoundaries
steps_lead_by sent_beside held those_listed step p r q h own_a own_b id w named s =
    step_acts sent_beside held those_listed own_a own_b id r p q w s step named h
