-- What a step takes in, acknowledges and assigns.
use Rattle.std.proofs.Common.{◌≡◌, refl, subst, ◌⊎◌, ⊎_elim, inl, inr, ℕ, true, Option, None}
use Rattle.sctp_wire.specs.declared.packet.Packet.{Packet}
use Rattle.sctp_model.specs.Packets.{mem}
use Rattle.sctp_serial.specs.Serial.{tsn}
use Rattle.sctp_model.specs.Machine.{Direction}
use Rattle.sctp_fit.specs.Incoming.{tsn_before}
use Rattle.sctp_assoc.specs.declared.call.Reply.{Reply}
use Rattle.sctp_assoc.specs.declared.call.Reply.TheVariants as replies
use Rattle.sctp_steps.specs.declared.step.Side2.{Side2}
use Rattle.sctp_steps.specs.declared.step.Side2.TheVariants as sides
use Rattle.sctp_steps.specs.declared.step.Step.{Step}
use Rattle.sctp_steps.specs.declared.step.Step.TheVariants as steps
use Rattle.sctp_steps.specs.Ends.{Ends}
use Rattle.sctp_steps.specs.Seen.{other_side}
use Rattle.sctp_pair.specs.World.{HasData, HasForward, IsWorldStep, World, packet_brought}
use Rattle.pair_callers.specs.BetweenWorlds.{AssignsWhileOpen, GoesOn, IsAcknowledgedOn, from_side, initial_of, to_side}
use Rattle.pair_callers.specs.Delivering.{HasNoData, PassesBy, TakesNothing, TakesOf, packet_for}
use Rattle.pair_callers.proofs.StepsByDirection.{Leads, goes_on, step_from, step_to}

-- what holds of the packet that a step brings to a side, and not of none, holds of the one that was asked for
brought : (P : Option Packet → Type 0) → (P None → ⊥) → (side : Side2) (number now : ℕ) (r : Reply) (w : World)
    → P (packet_brought (steps.Deliver side number now) r side w) → P (packet_for side number w.ends)
brought P none sides.A number now replies.Done w h = h
brought P none sides.B number now replies.Done w h = h
brought P none side number now r w h = absurd (none h)

-- a delivery that is not answered `Done` brings nothing
brought_none : (side : Side2) (number now : ℕ) (r : Reply) (w : World) → (r ≡ replies.Done → ⊥)
    → packet_brought (steps.Deliver side number now) r side w ≡ None
brought_none side number now replies.Done w refused = absurd (refused refl)
brought_none side number now r w refused = refl

-- and any delivery nothing to the other side
brought_elsewhere : (side : Side2) (number now : ℕ) (r : Reply) (w : World)
    → packet_brought (steps.Deliver side number now) r (other_side side) w ≡ None
brought_elsewhere sides.A number now replies.Done w = refl
brought_elsewhere sides.B number now replies.Done w = refl
brought_elsewhere side number now r w = refl

-- where nothing is brought nothing is taken in
takes_none : (k : Option Packet) (before after : Direction) (initial : ℕ) → k ≡ None
    → ((o : ℕ) → mem o after.receiver.taken ≡ true → (mem o before.receiver.taken ≡ true) ⊎ HasData k (tsn initial o))
    → TakesNothing before after
takes_none k before after initial none taken o m =
    ⊎_elim
    (λ (x : mem o before.receiver.taken ≡ true). x)
    (λ (x : HasData k (tsn initial o)). absurd (subst (λ (z : Option Packet). HasData z (tsn initial o)) none x))
    (taken o m)

-- A packet of this number is delivered to a side at a moment, and this is the reply.
module _ (side : Side2) (number now : ℕ) (r : Reply) where
  takes_of : (w v : World) → IsWorldStep (steps.Deliver side number now) w r v
      → TakesOf (packet_for side number w.ends) side w v
  takes_of w v h o m =
      let t : ℕ = tsn (initial_of (other_side side) w) o in
      ⊎_elim
      (λ (x : mem o (to_side side w).receiver.taken ≡ true). inl x)
      (λ (x : HasData (packet_brought (steps.Deliver side number now) r side w) t).
      inr (brought (λ (k : Option Packet). HasData k t) (λ n. n) side number now r w x))
      ((step_to side (steps.Deliver side number now) r w v h).taken o m)

  passes_of : (w v : World) → IsWorldStep (steps.Deliver side number now) w r v
      → PassesBy (packet_for side number w.ends) side w v
  passes_of w v h =
      let t : ℕ = tsn_before (tsn (initial_of (other_side side) w) (to_side side v).receiver.passed) in
      ⊎_elim
      (λ (x : (to_side side v).receiver.passed ≡ (to_side side w).receiver.passed). inl x)
      (λ (x : HasForward (packet_brought (steps.Deliver side number now) r side w) t).
      inr (brought (λ (k : Option Packet). HasForward k t) (λ n. n) side number now r w x))
      (step_to side (steps.Deliver side number now) r w v h).passed

  other_takes_none : (w v : World) → IsWorldStep (steps.Deliver side number now) w r v
      → TakesNothing (from_side side w) (from_side side v)
  other_takes_none w v h =
      takes_none (packet_brought (steps.Deliver side number now) r (other_side side) w) (from_side side w)
      (from_side side v) (initial_of side w) (brought_elsewhere side number now r w)
      (step_from side (steps.Deliver side number now) r w v h).taken

  -- The delivery leads from p to q.
  module _ (p q : Ends) (leads : Leads (steps.Deliver side number now) r p q) where
    pub takes_on : GoesOn p q (λ w v. TakesOf (packet_for side number p) side w v)
    takes_on =
        goes_on (steps.Deliver side number now) r p q (λ w v. TakesOf (packet_for side number p) side w v)
        (λ w v before after h. subst (λ (x : Ends). TakesOf (packet_for side number x) side w v) before
        (takes_of w v h)) leads

    pub passes_on : GoesOn p q (λ w v. PassesBy (packet_for side number p) side w v)
    passes_on =
        goes_on (steps.Deliver side number now) r p q (λ w v. PassesBy (packet_for side number p) side w v)
        (λ w v before after h. subst (λ (x : Ends). PassesBy (packet_for side number x) side w v) before
        (passes_of w v h)) leads

    pub takes_none_without : HasNoData (packet_for side number p)
        → GoesOn p q (λ w v. TakesNothing (to_side side w) (to_side side v))
    takes_none_without none =
        goes_on (steps.Deliver side number now) r p q (λ w v. TakesNothing (to_side side w) (to_side side v))
        (λ w v before after h o m. ⊎_elim
        (λ (x : mem o (to_side side w).receiver.taken ≡ true). x)
        (λ (x : HasData (packet_for side number w.ends) (tsn (initial_of (other_side side) w) o)). absurd
        (none (tsn (initial_of (other_side side) w) o)
        (subst (λ (z : Ends). HasData (packet_for side number z) (tsn (initial_of (other_side side) w) o)) before x)))
        (takes_of w v h o m)) leads

    pub takes_none_refused : (r ≡ replies.Done → ⊥)
        → GoesOn p q (λ w v. TakesNothing (to_side side w) (to_side side v))
    takes_none_refused refused =
        goes_on (steps.Deliver side number now) r p q (λ w v. TakesNothing (to_side side w) (to_side side v))
        (λ w v before after h.
        takes_none (packet_brought (steps.Deliver side number now) r side w) (to_side side w) (to_side side v)
        (initial_of (other_side side) w) (brought_none side number now r w refused)
        (step_to side (steps.Deliver side number now) r w v h).taken) leads

    pub other_takes_none_on : GoesOn p q (λ w v. TakesNothing (from_side side w) (from_side side v))
    other_takes_none_on =
        goes_on (steps.Deliver side number now) r p q (λ w v. TakesNothing (from_side side w) (from_side side v))
        (λ w v before after h. other_takes_none w v h) leads

pub timers_take_none : (side : Side2) (now : ℕ) (r : Reply) (p q : Ends) → Leads (steps.HandleTimeout side now) r p q
    → (x : Side2) → GoesOn p q (λ w v. TakesNothing (to_side x w) (to_side x v))
timers_take_none side now r p q leads x =
    goes_on (steps.HandleTimeout side now) r p q (λ w v. TakesNothing (to_side x w) (to_side x v))
    (λ w v before after h o m. ⊎_elim (λ (y : mem o (to_side x w).receiver.taken ≡ true). y) (λ (y : ⊥). absurd y)
    ((step_to x (steps.HandleTimeout side now) r w v h).taken o m)) leads

pub acknowledged_on : (step : Step) (r : Reply) (p q : Ends) → Leads step r p q
    → (side : Side2) → GoesOn p q (λ w v. IsAcknowledgedOn (from_side side w) (from_side side v))
acknowledged_on step r p q leads side =
    goes_on step r p q (λ w v. IsAcknowledgedOn (from_side side w) (from_side side v))
    (λ w v before after h. (step_from side step r w v h).reach_on) leads

pub assigned_on : (step : Step) (r : Reply) (p q : Ends) → Leads step r p q
    → (side : Side2) → GoesOn p q (λ w v. AssignsWhileOpen side q w v)
assigned_on step r p q leads side =
    goes_on step r p q (λ w v. AssignsWhileOpen side q w v)
    (λ w v before after h. subst (λ (x : Ends). AssignsWhileOpen side x w v) after
    (step_from side step r w v h).no_more) leads
