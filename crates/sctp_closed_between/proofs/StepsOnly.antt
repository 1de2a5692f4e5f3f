-- Each step of a pair that closes one of these streams, if it closes one, leaves resets to concern these alone, at both
-- sides and in all that they gave out, and replies of no end but of these.
use Rattle.std.proofs.Common.{◌≡◌, refl, sym, ap, subst, ◌⊎◌, ⊎_elim, inl, inr, ℕ, ◌<◌, ◌^◌, Bool, true, List, []}
use Rattle.std.proofs.Common.{Option, Some, None, slice_get}
use Rattle.std.specs.Prelude.{⊤}
use Rattle.std.specs.List.{AllByRecursion}
use Rattle.std.specs.declared.net.socket_addr.SocketAddr.{SocketAddr}
use Rattle.sctp_model.proofs.Lists.{all_get}
use Rattle.sctp_courses.specs.Course.{Course}
use Rattle.sctp_assoc.specs.declared.call.Call.{Call}
use Rattle.sctp_assoc.specs.declared.call.Call.TheVariants as calls
use Rattle.sctp_assoc.specs.declared.call.Reply.{Reply}
use Rattle.sctp_assoc.specs.declared.call.Reply.TheVariants as replies
use Rattle.sctp_assoc.specs.Replies.{Replies, RepliesAlone}
use Rattle.sctp_assoc.specs.Shown.{Shown}
use Rattle.sctp_sides.specs.Runs.{side_calls_of, told_in}
use Rattle.sctp_course_sides.specs.Turns.{IsPresent}
use Rattle.sctp_steps.specs.declared.step.Side2.{Side2}
use Rattle.sctp_steps.specs.declared.step.Side2.TheVariants as sides
use Rattle.sctp_steps.specs.declared.step.Step.{Step}
use Rattle.sctp_steps.specs.declared.step.Step.TheVariants as steps
use Rattle.sctp_steps.specs.Ends.{Ends}
use Rattle.sctp_steps.specs.Steps.{AtSide, ComesTo, Delivers, SendsAt, Steps}
use Rattle.sctp_boundaries.specs.Between.{AreMeeting, AreTalking, Courses, IsGone, Stand, StandBetween}
use Rattle.sctp_closed.specs.Closed.{EndsOnly}
use Rattle.sctp_closed.proofs.OverCalls.{CallIsOver}
use Rattle.sctp_closed_between.proofs.Given.{DatagramIsOver, IsReady, gives_over}
use Rattle.sctp_closed_between.proofs.SideCalls.{SideIsOnly, side_goes, working_only}

-- a step closes one of these streams, if it closes one
abbrev pub StepIsOver : (ℕ → Bool) → Step → Type 0
StepIsOver over (steps.Stop side id) = over id ≡ true
StepIsOver over (steps.CloseStream side id) = over id ≡ true
StepIsOver over step = ⊤

-- Resets concern these streams alone, at both sides that work and in all that they gave out.
pub record BothOnly (over : ℕ → Bool) (p : Ends) : Type 0 where
  pub side_a : SideIsOnly over p.a
  pub side_b : SideIsOnly over p.b
  pub packets_a : AllByRecursion (DatagramIsOver over) p.packets_a
  pub packets_b : AllByRecursion (DatagramIsOver over) p.packets_b

-- What is known of sides that stand between the courses of a stream

module _ (own peer id : ℕ) (x y : Shown) (of_x of_y : List (List ℕ)) (out coming : Course)
    (s : Stand own peer id x y of_x of_y out coming)
  where
    gone_ready : (z : Shown) → IsGone z → IsReady z
    gone_ready z (inl failed) = inl failed
    gone_ready z (inr lost) = inr (inl lost)

    present_x : IsPresent x → AreMeeting own peer id s.stage_x s.stage_y x y of_x of_y out coming
        ⊎ AreTalking own peer id s.stage_x s.stage_y x y of_x of_y out coming → IsReady x
    present_x here (inl meeting) =
        let m = meeting.at_x here in
        inr (inr (m.sent, m.sent_binds, m.at.truthful.plain))
    present_x here (inr talking) =
        let t = talking.at_x here in
        inr (inr (t.sent, t.sent_binds, t.at.truthful.plain))

    present_y : IsPresent y → AreMeeting own peer id s.stage_x s.stage_y x y of_x of_y out coming
        ⊎ AreTalking own peer id s.stage_x s.stage_y x y of_x of_y out coming → IsReady y
    present_y here (inl meeting) =
        let m = meeting.at_y here in
        inr (inr (m.sent, m.sent_binds, m.at.truthful.plain))
    present_y here (inr talking) =
        let t = talking.at_y here in
        inr (inr (t.sent, t.sent_binds, t.at.truthful.plain))

    ready_x : IsReady x
    ready_x =
        ⊎_elim (λ (here : IsPresent x). present_x here s.between) (λ (gone : IsGone x). gone_ready x gone) s.here_x

    ready_y : IsReady y
    ready_y =
        ⊎_elim (λ (here : IsPresent y). present_y here s.between) (λ (gone : IsGone y). gone_ready y gone) s.here_y

module _ (over : ℕ → Bool) (small : (id : ℕ) → over id ≡ true → id < 2 ^ 16) (own_a own_b id : ℕ) (r : Reply)
    (p q : Ends) (w : Courses) (s : StandBetween own_a own_b id p w) (both : BothOnly over p)
  where
    abbrev StepGoes : Type 0
    StepGoes = BothOnly over q × AllByRecursion (EndsOnly over) (told_in r)

    abbrev SideGoes : Shown → Type 0
    SideGoes b = SideIsOnly over b × AllByRecursion (EndsOnly over) (told_in r)

    a_goes : SideGoes q.a → AllByRecursion (DatagramIsOver over) q.packets_a → q.b ≡ p.b → q.packets_b ≡ p.packets_b
        → StepGoes
    a_goes goes given same silent = (
      record {
        side_a = goes.0;
        side_b = subst (SideIsOnly over) (sym same) both.side_b;
        packets_a = given;
        packets_b = subst (AllByRecursion (DatagramIsOver over)) (sym silent) both.packets_b;
      },
      goes.1,
    )

    b_goes : SideGoes q.b → AllByRecursion (DatagramIsOver over) q.packets_b → q.a ≡ p.a → q.packets_a ≡ p.packets_a
        → StepGoes
    b_goes goes given same silent = (
      record {
        side_a = subst (SideIsOnly over) (sym same) both.side_a;
        side_b = goes.0;
        packets_a = subst (AllByRecursion (DatagramIsOver over)) (sym silent) both.packets_a;
        packets_b = given;
      },
      goes.1,
    )

    -- only this side changes
    a_changes : SideGoes q.a → q ≡ record p { a = q.a } → StepGoes
    a_changes goes same =
        a_goes goes
        (subst (AllByRecursion (DatagramIsOver over)) (sym (ap (λ (z : Ends). z.packets_a) same)) both.packets_a)
        (ap (λ (z : Ends). z.b) same) (ap (λ (z : Ends). z.packets_b) same)

    b_changes : SideGoes q.b → q ≡ record p { b = q.b } → StepGoes
    b_changes goes same =
        b_goes goes
        (subst (AllByRecursion (DatagramIsOver over)) (sym (ap (λ (z : Ends). z.packets_b) same)) both.packets_b)
        (ap (λ (z : Ends). z.a) same) (ap (λ (z : Ends). z.packets_a) same)

    -- a step that calls a side, and gives out nothing
    called : (side : Side2) (call : Call)
        → ((a b : Shown) (packets : List (List ℕ)) → RepliesAlone call a r b → Replies call a packets r b packets)
        → AllByRecursion (CallIsOver over) (side_calls_of call) → AtSide side p (λ a b. RepliesAlone call a r b) q
        → StepGoes
    called sides.A call replied said h =
        a_changes
        (side_goes over call r p.a q.a p.packets_a p.packets_a (replied p.a q.a p.packets_a h.0) said both.side_a) h.1
    called sides.B call replied said h =
        b_changes
        (side_goes over call r p.b q.b p.packets_b p.packets_b (replied p.b q.b p.packets_b h.0) said both.side_b) h.1

    -- a poll for packets
    polls_at : (side : Side2) (now : ℕ) → SendsAt side p now r q → StepGoes
    polls_at sides.A now h =
        a_goes (side_goes over (calls.PollTransmit now) r p.a q.a p.packets_a q.packets_a h.0 (tt, tt) both.side_a)
        (gives_over over small p.a q.a p.packets_a q.packets_a now r h.0
        (ready_x own_a own_b id p.a p.b p.packets_a p.packets_b w.ab w.ba s)
        (λ works. (working_only over p.a works both.side_a).past) both.packets_a)
        (ap (λ (z : Ends). z.b) h.1) (ap (λ (z : Ends). z.packets_b) h.1)
    polls_at sides.B now h =
        b_goes (side_goes over (calls.PollTransmit now) r p.b q.b p.packets_b q.packets_b h.0 (tt, tt) both.side_b)
        (gives_over over small p.b q.b p.packets_b q.packets_b now r h.0
        (ready_y own_a own_b id p.a p.b p.packets_a p.packets_b w.ab w.ba s)
        (λ works. (working_only over p.b works both.side_b).past) both.packets_b)
        (ap (λ (z : Ends). z.a) h.1) (ap (λ (z : Ends). z.packets_a) h.1)

    -- a packet of the other side, if there is one; of the address a delivery takes no note
    comes : (remote : SocketAddr) (a b : Shown) (packets : List (List ℕ)) (number now : ℕ) (found : Option (List ℕ))
        (reply : Reply)
        → slice_get packets number ≡ found → AllByRecursion (DatagramIsOver over) packets
        → Delivers a found now reply b → SideIsOnly over a
        → SideIsOnly over b × AllByRecursion (EndsOnly over) (told_in reply)
    comes remote a b packets number now None replies.NoSuchPacket there each h side =
        (subst (SideIsOnly over) (sym h) side, tt)
    comes remote a b packets number now None reply there each h side = absurd h
    comes remote a b packets number now (Some bytes) reply there each h side =
        side_goes over (calls.HandleDatagram bytes remote now) reply a b [] [] (h, refl)
        (all_get (DatagramIsOver over) packets number bytes there each, tt) side

    comes_at : (side : Side2) (number now : ℕ) → ComesTo side p number now r q → StepGoes
    comes_at sides.A number now h =
        a_changes
        (comes p.a.remote_addr p.a q.a p.packets_b number now (slice_get p.packets_b number) r refl both.packets_b h.0
        both.side_a) h.1
    comes_at sides.B number now h =
        b_changes
        (comes p.b.remote_addr p.b q.b p.packets_a number now (slice_get p.packets_a number) r refl both.packets_a h.0
        both.side_b) h.1

    pub step_goes : (step : Step) → StepIsOver over step → Steps step p r q → StepGoes
    step_goes (steps.OpenStream side k kind) said h =
        called side (calls.OpenStream k kind) (λ a b n c. (c, refl)) (tt, tt) h
    step_goes (steps.Stream side k) said h = called side (calls.Stream k) (λ a b n c. (c, refl)) tt h
    step_goes (steps.AcceptStream side) said h = called side calls.AcceptStream (λ a b n c. (c, refl)) (tt, tt) h
    step_goes (steps.StreamIds side) said h = called side calls.StreamIds (λ a b n c. (c, refl)) tt h
    step_goes (steps.SetMaxSendMessageSize side size) said h =
        called side (calls.SetMaxSendMessageSize size) (λ a b n c. (c, refl)) (tt, tt) h
    step_goes (steps.Write side k bytes) said h = called side (calls.Write k bytes) (λ a b n c. (c, refl)) (tt, tt) h
    step_goes (steps.WriteWithPpi side k bytes kind) said h =
        called side (calls.WriteWithPpi k bytes kind) (λ a b n c. (c, refl)) (tt, tt) h
    step_goes (steps.WriteSctp side k bytes kind) said h =
        called side (calls.WriteSctp k bytes kind) (λ a b n c. (c, refl)) (tt, tt) h
    step_goes (steps.WriteChunk side k bytes) said h =
        called side (calls.WriteChunk k bytes) (λ a b n c. (c, refl)) (tt, tt) h
    step_goes (steps.WriteChunks side k chunks) said h =
        called side (calls.WriteChunks k chunks) (λ a b n c. (c, refl)) (tt, tt) h
    step_goes (steps.Read side k) said h = called side (calls.Read k) (λ a b n c. (c, refl)) (tt, tt) h
    step_goes (steps.ReadSctp side k) said h = called side (calls.ReadSctp k) (λ a b n c. (c, refl)) (tt, tt) h
    step_goes (steps.Finish side k) said h = called side (calls.Finish k) (λ a b n c. (c, refl)) (tt, tt) h
    step_goes (steps.Stop side k) said h = called side (calls.Stop k) (λ a b n c. (c, refl)) (said, tt) h
    step_goes (steps.CloseStream side k) said h = called side (calls.CloseStream k) (λ a b n c. (c, refl)) (said, tt) h
    step_goes (steps.SetReliabilityParams side k unordered kind value) said h =
        called side (calls.SetReliabilityParams k unordered kind value) (λ a b n c. (c, refl)) (tt, tt) h
    step_goes (steps.SetDefaultPayloadType side k kind) said h =
        called side (calls.SetDefaultPayloadType k kind) (λ a b n c. (c, refl)) (tt, tt) h
    step_goes (steps.SetBufferedAmountLowThreshold side k bytes) said h =
        called side (calls.SetBufferedAmountLowThreshold k bytes) (λ a b n c. (c, refl)) (tt, tt) h
    step_goes (steps.SetBufferedAmountHighThreshold side k bytes) said h =
        called side (calls.SetBufferedAmountHighThreshold k bytes) (λ a b n c. (c, refl)) (tt, tt) h
    step_goes (steps.StreamStats side k) said h = called side (calls.StreamStats k) (λ a b n c. (c, refl)) tt h
    step_goes (steps.IsReadable side k) said h = called side (calls.IsReadable k) (λ a b n c. (c, refl)) tt h
    step_goes (steps.IsWritable side k) said h = called side (calls.IsWritable k) (λ a b n c. (c, refl)) tt h
    step_goes (steps.StreamIdentifier side k) said h = called side (calls.StreamIdentifier k) (λ a b n c. (c, refl)) tt h
    step_goes (steps.GetDefaultPayloadType side k) said h =
        called side (calls.GetDefaultPayloadType k) (λ a b n c. (c, refl)) tt h
    step_goes (steps.BufferedAmountLowThreshold side k) said h =
        called side (calls.BufferedAmountLowThreshold k) (λ a b n c. (c, refl)) tt h
    step_goes (steps.BufferedAmountHighThreshold side k) said h =
        called side (calls.BufferedAmountHighThreshold k) (λ a b n c. (c, refl)) tt h
    step_goes (steps.Shutdown side) said h = called side calls.Shutdown (λ a b n c. (c, refl)) (tt, tt) h
    step_goes (steps.Close side) said h = called side calls.Close (λ a b n c. (c, refl)) (tt, tt) h
    step_goes (steps.BufferedAmount side k) said h = called side (calls.BufferedAmount k) (λ a b n c. (c, refl)) tt h
    step_goes (steps.Poll side) said h = called side calls.Poll (λ a b n c. (c, refl)) (tt, tt) h
    step_goes (steps.PollEndpointEvent side) said h =
        called side calls.PollEndpointEvent (λ a b n c. (c, refl)) (tt, tt) h
    step_goes (steps.PollTimeout side) said h = called side calls.PollTimeout (λ a b n c. (c, refl)) tt h
    step_goes (steps.PollTransmit side now) said h = polls_at side now h
    step_goes (steps.HandleTimeout side now) said h =
        called side (calls.HandleTimeout now) (λ a b n c. (c, refl)) (tt, tt) h
    step_goes (steps.Deliver side number now) said h = comes_at side number now h
    step_goes (steps.IsHandshaking side) said h = called side calls.IsHandshaking (λ a b n c. (c, refl)) tt h
    step_goes (steps.IsClosed side) said h = called side calls.IsClosed (λ a b n c. (c, refl)) tt h
    step_goes (steps.IsClosing side) said h = called side calls.IsClosing (λ a b n c. (c, refl)) tt h
    step_goes (steps.IsDrained side) said h = called side calls.IsDrained (λ a b n c. (c, refl)) tt h
    step_goes (steps.IsFailed side) said h = called side calls.IsFailed (λ a b n c. (c, refl)) tt h
    step_goes (steps.Rtt side) said h = called side calls.Rtt (λ a b n c. (c, refl)) tt h
    step_goes (steps.Stats side) said h = called side calls.Stats (λ a b n c. (c, refl)) tt h
    step_goes (steps.Side side) said h = called side calls.Side (λ a b n c. (c, refl)) tt h
    step_goes (steps.RemoteAddr side) said h = called side calls.RemoteAddr (λ a b n c. (c, refl)) tt h
    step_goes (steps.LocalIp side) said h = called side calls.LocalIp (λ a b n c. (c, refl)) tt h
