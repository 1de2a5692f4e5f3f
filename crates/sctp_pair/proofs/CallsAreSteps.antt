-- A call of one association, between its directions, is a step of the world of both.
use Rattle.std.proofs.Common.{◌≡◌, refl, sym, ap, ◌∙◌, subst, ◌⊎◌, ⊎_elim, inl, inr, ℕ, true, false, List, [], ◌++◌}
use Rattle.std.proofs.Common.{Option, None, Bool}
use Rattle.std.specs.Prelude.{◌||◌}
use Rattle.std.specs.List.{AllByRecursion}
use Rattle.std.proofs.lemmas.Bool.{cases_Bool, true≢false}
use Rattle.sctp_receive_queues.specs.Messages as letters
use Rattle.sctp_model.specs.Messages.{Message}
use Rattle.sctp_parts.specs.declared.state.AssociationState.{AssociationState}
use Rattle.sctp_model.specs.Packets.{mem}
use Rattle.sctp_serial.specs.Serial.{tsn}
use Rattle.sctp_model.specs.Machine.{Direction, Sender}
use Rattle.sctp_model.proofs.Lists.{all_join}
use Rattle.sctp_assoc.specs.Calls.{is_beginning}
use Rattle.sctp_assoc.specs.Closing.{is_closed_state}
use Rattle.sctp_sides.specs.Meeting.{Stage}
use Rattle.sctp_sides.specs.SideLaws.{OfEachChunk}
use Rattle.sctp_assoc.specs.Shown.{Shown}
use Rattle.sctp_sides.proofs.Proved.{established_sides_talk}
use Rattle.sctp_reassembly.specs.Stands.{IsReadAs}
use Rattle.sctp_directions.specs.Between.{IsSound}
use Rattle.sctp_assoc.specs.declared.call.Reply.{Reply}
use Rattle.sctp_steps.specs.declared.step.Side2.{Side2}
use Rattle.sctp_steps.specs.declared.step.Side2.TheVariants as sides
use Rattle.sctp_steps.specs.declared.step.Step.{Step}
use Rattle.sctp_steps.specs.Ends.{Ends, end_of}
use Rattle.sctp_assoc.specs.Replies.{packet_in}
use Rattle.sctp_steps.specs.Steps.{Steps}
use Rattle.sctp_fit.specs.Incoming.{tsn_before}
use Rattle.sctp_steps.specs.Seen.{EndsReset, IsOpen}
use Rattle.sctp_pair.specs.World.{EndsSpan, HasData, HasForward, HasRestarted, IsDirectionStep}
use Rattle.sctp_pair.specs.World.{World, accepted_at}
use Rattle.sctp_steps.specs.Seen.{message_read}
use Rattle.sctp_steps.specs.Seen.{other_side}
use Rattle.sctp_pair.specs.World.{IsOrderedAndReliable, loose_after, loose_of, loosens, packet_brought}
use Rattle.sctp_pair.specs.Fits.{AreSaid, Fits, IsAt, IsSaidBy, IsSilent, LeadsSafely, ResetsQuietly, Stands, StandsIn}
use Rattle.sctp_pair.proofs.BetweenDirections.{By, DoesEnding, Faces, None_ended, OpenAt, SettlesEnding, Surroundings}
use Rattle.sctp_pair.proofs.BetweenDirections.{moved, spans_stay_put, stands_between}
use Rattle.sctp_pair.proofs.AcceptedInOrder.{accepted_in_order}
use Rattle.sctp_pair.proofs.NeverTakenBack.{runs_are_onward}
use Rattle.sctp_pair.proofs.Promised.{receives_or_stopped, safe_world}
use Rattle.sctp_pair.proofs.SaidStaysSaid.{StageGoesOn, said_grows}
use Rattle.sctp_pair.proofs.GrowingPlans.{plan_grew}
use Rattle.sctp_pair.proofs.HandshakeStages.{stays_put, turned}
use Rattle.sctp_pair.proofs.QuietCalls.{closed_is_beginning}
use Rattle.sctp_pair.proofs.QuietSteps.{steps_stay_quiet}
use Rattle.sctp_pair.proofs.Restarts.{ended_can_restart, has_restarted, none_ended, reset_between, resets_quietly}
use Rattle.sctp_pair.proofs.Restarts.{restarting, said_still}
use Rattle.sctp_pair.proofs.ShutdownSteps.{shutdowns_end_in_order}

-- an association stands there still where more streams may be loose
loosened : {loose more : ℕ → Bool} {own peer : ℕ} {a : Shown} {out coming : Direction}
    → ((s : ℕ) → more s ≡ false → loose s ≡ false) → Stands loose own peer a out coming
    → Stands more own peer a out coming
loosened {out = out} {coming = coming} fewer (inl s) =
    inl (stands_between s fewer refl (spans_stay_put out) (spans_stay_put coming) s.between)
loosened fewer (inr r) = inr r

-- no step makes a stream send ordered, reliable messages again
loose_before : (step : Step) (reply : Reply) (x : Side2) (w : World) (s : ℕ) → loose_after step reply x w s ≡ false
    → loose_of x w s ≡ false
loose_before step reply x w s tight =
    ⊎_elim
    (λ (b : loose_of x w s ≡ true). absurd (true≢false (sym (ap (λ z. z || loosens step reply x s) b) ∙ tight)))
    (λ (b : loose_of x w s ≡ false). b)
    (cases_Bool (loose_of x w s))

-- what A has around it in the world, and what is loose after the step
abbrev pub around_a : (step : Step) (reply : Reply) (w : World) → Fits w.ends w → Surroundings
around_a step reply w f = record {
  own = w.initial_a;
  peer = w.initial_b;
  other = w.ends.b;
  out = w.ab;
  coming = w.ba;
  here = f.stand.stage_a;
  there = f.stand.stage_b;
  loose = loose_after step reply sides.A w;
  loose_there = loose_after step reply sides.B w;
}

-- and what B has
abbrev pub around_b : (step : Step) (reply : Reply) (w : World) → Fits w.ends w → Surroundings
around_b step reply w f = record {
  own = w.initial_b;
  peer = w.initial_a;
  other = w.ends.a;
  out = w.ba;
  coming = w.ab;
  here = f.stand.stage_b;
  there = f.stand.stage_a;
  loose = loose_after step reply sides.B w;
  loose_there = loose_after step reply sides.A w;
}

-- the associations face each other between the directions of the world, seen from A
pub faces_a : (step : Step) (reply : Reply) (w : World) (f : Fits w.ends w)
    → Faces (around_a step reply w f) w.ends.a
faces_a step reply w f = record {
  within_out = f.within.0;
  within_coming = f.within.1;
  sound_out = f.stand.sound_ab;
  sound_coming = f.stand.sound_ba;
  both = f.stand.spans;
  stands = loosened (loose_before step reply sides.A w) f.stand.side_a;
  other = loosened (loose_before step reply sides.B w) f.stand.side_b;
  at = f.stand.at_a;
  meets = f.stand.meets;
  silent = f.stand.silent_b;
  ends = f.stand.ends_a;
}

-- and seen from B
pub faces_b : (step : Step) (reply : Reply) (w : World) (f : Fits w.ends w)
    → Faces (around_b step reply w f) w.ends.b
faces_b step reply w f = record {
  within_out = f.within.1;
  within_coming = f.within.0;
  sound_out = f.stand.sound_ba;
  sound_coming = f.stand.sound_ab;
  both = λ s. sym (f.stand.spans s);
  stands = loosened (loose_before step reply sides.B w) f.stand.side_b;
  other = loosened (loose_before step reply sides.A w) f.stand.side_a;
  at = f.stand.at_b;
  meets = turned f.stand.stage_a f.stand.stage_b f.stand.meets;
  silent = f.stand.silent_a;
  ends = f.stand.ends_b;
}

-- What a step and its reply add, read and bring is at this side this alone, and at the other side nothing; the DATA
-- that comes to this side has this initial TSN. The spans that the step may end are these.
pub record IsCallEnding (Ended : ℕ → Type 0) (step : Step) (reply : Reply) (side : Side2) (w : World) (initial : ℕ)
    (Added : ℕ → List Message)
    (Read : ℕ → Option letters.ReceivedMessage) (Brought : By → ℕ → Type 0) : Type 0 where
  pub adds : (s : ℕ) → Added s ≡ accepted_at step reply side s w
  pub reads : (s : ℕ) → Read s ≡ message_read step reply side s
  pub brings : (o : ℕ) → Brought By.ByData o → HasData (packet_brought step reply side w) (tsn initial o)
  pub passes : (n : ℕ) → Brought By.ByForward n
      → HasForward (packet_brought step reply side w) (tsn_before (tsn initial n))
  pub adds_alone : (s : ℕ) → [] ≡ accepted_at step reply (other_side side) s w
  pub reads_alone : (s : ℕ) → None ≡ message_read step reply (other_side side) s
  pub ends : (s : ℕ) → Ended s → EndsSpan step reply s

-- the same of a step that ends no span
abbrev pub IsCallAt : Step → Reply → Side2 → World → ℕ → (ℕ → List Message) → (ℕ → Option letters.ReceivedMessage)
    → (By → ℕ → Type 0) → Type 0
IsCallAt step reply side w initial Added Read Brought =
    IsCallEnding None_ended step reply side w initial Added Read Brought

-- a state past the handshake is not Closed
open_past_the_handshake : (s : AssociationState) → is_beginning s ≡ false → is_closed_state s ≡ false
open_past_the_handshake s past = ⊎_elim
    (λ (closed : is_closed_state s ≡ true). absurd (true≢false (sym (closed_is_beginning s closed) ∙ past)))
    (λ (opened : is_closed_state s ≡ false). opened)
    (cases_Bool (is_closed_state s))

-- What a call that settles leaves behind.
module _ {Ended : ℕ → Type 0} {x : Surroundings} {b : Shown} {Added : ℕ → List Message}
    {Read : ℕ → Option letters.ReceivedMessage} {Brought : By → ℕ → Type 0}
    (s : SettlesEnding Ended x b Added Read Brought) where
  -- an association that is past the handshake is open
  is_open : IsOpen b ⊎ (s.out2.sender.plan.places ≡ x.out.sender.plan.places)
  is_open =
      ⊎_elim
      (λ (e : (is_beginning b.state ≡ false) × OpenAt (moved x s.out2 s.coming2) b).
      inl (e.1.working, open_past_the_handshake b.state e.0))
      (λ (same : s.out2.sender.plan.places ≡ x.out.sender.plan.places). inr same)
      s.no_more

  -- Who was never established goes on to be silent.
  silent_on : IsSilent x.here x.out → IsSilent s.here2 s.out2
  silent_on silent never =
      ⊎_elim
      (λ (e : (is_beginning b.state ≡ false) × OpenAt (moved x s.out2 s.coming2) b). absurd
      (true≢false (sym (established_sides_talk b e.0 e.1.come).completed
      ∙ ap (λ (z : Stage). z.completed) (s.at e.1.working) ∙ never)))
      (λ (same : s.out2.sender.plan.places ≡ x.out.sender.plan.places). same ∙ silent (⊎_elim
      (λ (done : x.here.completed ≡ true). absurd (true≢false (sym (s.goes.completed done) ∙ never)))
      (λ (begun : x.here.completed ≡ false). begun)
      (cases_Bool x.here.completed)))
      s.no_more

  -- its side goes on, and so does the other one
  own_goes_on : StageGoesOn x.here s.here2 x.out x.coming s.out2 s.coming2
  own_goes_on = record {
    goes = s.goes;
    datas = s.does_out.datas;
    forwards = s.does_out.forwards;
    sacks = s.does_coming.sacks;
    spans = s.does_out.spans;
    plan = plan_grew s.does_out.events x.out s.out2 s.does_out.is;
  }

  other_goes_on : StageGoesOn x.there x.there x.coming x.out s.coming2 s.out2
  other_goes_on = record {
    goes = stays_put x.there;
    datas = s.does_coming.datas;
    forwards = s.does_coming.forwards;
    sacks = s.does_out.sacks;
    spans = s.does_coming.spans;
    plan = plan_grew s.does_coming.events x.coming s.coming2 s.does_coming.is;
  }

-- a receiver that is closed before a call is closed after it
stays_closed_after : {Ended : ℕ → Type 0} {Added : ℕ → List Message} {Read : ℕ → Option letters.ReceivedMessage}
    {Brought : By → ℕ → Type 0} {before after : Direction} → DoesEnding Ended Added Read Brought before after
    → before.receiver.is_open ≡ false → after.receiver.is_open ≡ false
stays_closed_after {before = before} d closed =
    ap (λ (z : Direction). z.receiver.is_open) d.is ∙ (runs_are_onward d.events before).closed closed

-- This step of the world's pair has this reply and leads to q.
module _ (step : Step) (reply : Reply) (w : World) (q : Ends) where
  -- what a call does to a direction is what a step does there, where it adds, reads and brings the same
  module _ (sender receiver : Side2) (initial : ℕ) where
    direction_step : {before after : Direction} {Ended : ℕ → Type 0} {Added : ℕ → List Message}
        {Read : ℕ → Option letters.ReceivedMessage} {Brought : By → ℕ → Type 0}
        → DoesEnding Ended Added Read Brought before after → ((s : ℕ) → Ended s → EndsSpan step reply s)
        → ((s : ℕ) → Added s ≡ accepted_at step reply sender s w)
        → ((s : ℕ) → Read s ≡ message_read step reply receiver s)
        → ((o : ℕ) → Brought By.ByData o → HasData (packet_brought step reply receiver w) (tsn initial o))
        → ((n : ℕ) → Brought By.ByForward n
        → HasForward (packet_brought step reply receiver w) (tsn_before (tsn initial n)))
        → ((s : ℕ) → before.over s ≡ false → loose_of sender w s ≡ false
        → AllByRecursion IsOrderedAndReliable (accepted_at step reply sender s w))
        → IsOpen (end_of sender q) ⊎ (after.sender.plan.places ≡ before.sender.plan.places)
        → IsSound after
        → (after.receiver.is_open ≡ true) ⊎ (IsOpen (end_of receiver q) → ⊥)
        → ((s : ℕ) → EndsReset (end_of sender w.ends) (end_of sender q) s → HasRestarted after s)
        → IsDirectionStep step reply sender receiver w q initial before after
    direction_step {before} {after} {Ended} {Brought = Brought} d ends adds reads brings passes kept no_more is
        receives restarted = record {
          events = d.events;
          happened = d.is;
          accepted = λ s. d.accepted s ∙ ap (λ (z : List Message). before.sender.plan.accepted s ++ z) (adds s);
          in_order = kept;
          read =
              λ s. subst (λ (z : Option letters.ReceivedMessage). IsReadAs z (before.reads s) (after.reads s))
              (reads s) (d.reads s);
          taken = λ o m. ⊎_elim
              (λ (n : mem o before.receiver.taken ≡ true). inl n)
              (λ (b : Brought By.ByData o). inr (brings o b))
              (d.taken o m);
          reach_on = d.reach_on;
          no_more = no_more;
          size = d.size;
          span = λ s o. ⊎_elim
              (λ (b : before.over s ≡ true). inl b)
              (λ (e : Ended s). inr (ends s e))
              (d.ends s o);
          span_over = λ s o. ap (λ (z : Direction). z.over s) d.is ∙ (runs_are_onward d.events before).over s o;
          passed = ⊎_elim
              (λ (e : after.receiver.passed ≡ before.receiver.passed). inl e)
              (λ (b : Brought By.ByForward after.receiver.passed). inr (passes after.receiver.passed b))
              d.passed;
          given_up = λ s i g. inr (is.invariant.sending.given_up s i g).1;
          closes =
              ⊎_elim (λ (o : after.receiver.is_open ≡ true). inl o)
              (λ (n : IsOpen (end_of receiver q) → ⊥). inr (inr n)) receives;
          stays_closed = stays_closed_after d;
          restarted = restarted;
        }

  -- A call of A that settles leads from the world to one in which the pair stands: the packets that it gave out are A's
  -- next ones. It settles where the sequence numbers of those streams began again whose reset ended in success.
  led_a : {Ended : ℕ → Type 0} {Added : ℕ → List Message} {Read : ℕ → Option letters.ReceivedMessage}
      {Brought : By → ℕ → Type 0} (given : List (List ℕ)) (fits : Fits w.ends w) → q.b ≡ w.ends.b
      → q.packets_a ≡ w.ends.packets_a ++ given
      → q.packets_b ≡ w.ends.packets_b → Steps step w.ends reply q
      → (s : SettlesEnding Ended (around_a step reply w fits) q.a Added Read Brought)
      → AreSaid w.initial_a w.initial_b s.here2 s.out2 s.coming2 given
      → ((t : ℕ) → EndsReset w.ends.a q.a t → HasRestarted s.out2 t)
      → IsCallEnding Ended step reply sides.A w w.initial_b Added Read Brought → LeadsSafely step reply w q
  led_a given fits same_b more same_packets ends s said restarted call = (
    v,
    record {
      ends_step = ends;
      same_a = refl;
      same_b = refl;
      loose_a_is = λ s. refl;
      loose_b_is = λ s. refl;
      ab_step =
          direction_step sides.A sides.B w.initial_a s.does_out call.ends call.adds call.reads_alone (λ o n. absurd n)
          (λ o n. absurd n) (accepted_in_order step reply w q fits ends sides.A) (is_open s) s.sound_out
          (receives_or_stopped w.initial_b w.initial_a q.b s.coming2 s.out2 stands.side_b) restarted;
      ba_step =
          direction_step sides.B sides.A w.initial_b s.does_coming call.ends call.adds_alone call.reads call.brings
          call.passes
          (accepted_in_order step reply w q fits ends sides.B)
          (inr (ap (λ (z : Sender). z.plan.places) s.coming_still)) s.sound_coming
          (receives_or_stopped w.initial_a w.initial_b q.a s.out2 s.coming2 stands.side_a)
          (λ t e. absurd (none_ended t same_b e));
    },
    stands,
    λ within. safe_world q v (record { within = within; stand = stands }),
  )
    where
      v : World
      v = record {
        ends = q;
        initial_a = w.initial_a;
        initial_b = w.initial_b;
        ab = s.out2;
        ba = s.coming2;
        loose_a = loose_after step reply sides.A w;
        loose_b = loose_after step reply sides.B w;
      }

      stands : StandsIn q v
      stands = record {
        is = refl;
        sound_ab = s.sound_out;
        sound_ba = s.sound_coming;
        spans = s.both;
        side_a = s.stands;
        side_b =
            subst (λ (z : Shown). Stands (loose_after step reply sides.B w) w.initial_b w.initial_a z s.coming2 s.out2)
            (sym same_b) s.other;
        stage_a = s.here2;
        stage_b = fits.stand.stage_b;
        at_a = s.at;
        at_b = subst (λ (z : Shown). IsAt z fits.stand.stage_b) (sym same_b) fits.stand.at_b;
        meets = s.meets;
        silent_a = silent_on s fits.stand.silent_a;
        silent_b = λ never. ap (λ (z : Sender). z.plan.places) s.coming_still ∙ fits.stand.silent_b never;
        said_a = subst (λ (z : List (List ℕ)). AreSaid w.initial_a w.initial_b s.here2 s.out2 s.coming2 z) (sym more)
            (all_join (λ (bytes : List ℕ). OfEachChunk (IsSaidBy w.initial_a w.initial_b s.here2 s.out2 s.coming2)
            (packet_in bytes)) w.ends.packets_a given
            (said_grows w.initial_a w.initial_b (own_goes_on s) w.ends.packets_a fits.stand.said_a) said);
        said_b =
            subst (λ (z : List (List ℕ)). AreSaid w.initial_b w.initial_a fits.stand.stage_b s.coming2 s.out2 z)
            (sym same_packets)
            (said_grows w.initial_b w.initial_a (other_goes_on s) w.ends.packets_b fits.stand.said_b);
        ends_a = shutdowns_end_in_order step reply w.ends q sides.A ends fits.stand.ends_a;
        ends_b = shutdowns_end_in_order step reply w.ends q sides.B ends fits.stand.ends_b;
        quiet_a =
            resets_quietly fits.stand.side_a s.stands (stays_closed_after s.does_coming)
            (steps_stay_quiet step reply w.ends q sides.A ends) fits.stand.quiet_a;
        quiet_b = subst ResetsQuietly (sym same_b) fits.stand.quiet_b;
      }

  -- Where it settles without that, they begin again behind it, and so it leads there.
  pub settled_a : {Ended : ℕ → Type 0} {Added : ℕ → List Message} {Read : ℕ → Option letters.ReceivedMessage}
      {Brought : By → ℕ → Type 0} (given : List (List ℕ)) (fits : Fits w.ends w) → q.b ≡ w.ends.b
      → q.packets_a ≡ w.ends.packets_a ++ given
      → q.packets_b ≡ w.ends.packets_b → Steps step w.ends reply q
      → (s : SettlesEnding Ended (around_a step reply w fits) q.a Added Read Brought)
      → AreSaid w.initial_a w.initial_b s.here2 s.out2 s.coming2 given
      → IsCallEnding Ended step reply sides.A w w.initial_b Added Read Brought → LeadsSafely step reply w q
  settled_a given fits same_b more same_packets ends s said call =
      let ids = reset_between w.ends.a q.a in
      led_a given fits same_b more same_packets ends (restarting ids s) (said_still ids s given said)
      (λ t e.
      let can =
      ended_can_restart fits.stand.side_a s.stands (stays_closed_after s.does_coming)
      (steps_stay_quiet step reply w.ends q sides.A ends) fits.stand.quiet_a t e
      (λ over. s.does_out.spans.over t (fits.stand.spans t ∙ over)) in
      has_restarted ids s t can.0 can.1 can.2)
      call

  -- The same of a call of B.
  led_b : {Ended : ℕ → Type 0} {Added : ℕ → List Message} {Read : ℕ → Option letters.ReceivedMessage}
      {Brought : By → ℕ → Type 0} (given : List (List ℕ)) (fits : Fits w.ends w) → q.a ≡ w.ends.a
      → q.packets_b ≡ w.ends.packets_b ++ given
      → q.packets_a ≡ w.ends.packets_a → Steps step w.ends reply q
      → (s : SettlesEnding Ended (around_b step reply w fits) q.b Added Read Brought)
      → AreSaid w.initial_b w.initial_a s.here2 s.out2 s.coming2 given
      → ((t : ℕ) → EndsReset w.ends.b q.b t → HasRestarted s.out2 t)
      → IsCallEnding Ended step reply sides.B w w.initial_a Added Read Brought → LeadsSafely step reply w q
  led_b given fits same_a more same_packets ends s said restarted call = (
    v,
    record {
      ends_step = ends;
      same_a = refl;
      same_b = refl;
      loose_a_is = λ s. refl;
      loose_b_is = λ s. refl;
      ab_step =
          direction_step sides.A sides.B w.initial_a s.does_coming call.ends call.adds_alone call.reads call.brings
          call.passes
          (accepted_in_order step reply w q fits ends sides.A)
          (inr (ap (λ (z : Sender). z.plan.places) s.coming_still)) s.sound_coming
          (receives_or_stopped w.initial_b w.initial_a q.b s.out2 s.coming2 stands.side_b)
          (λ t e. absurd (none_ended t same_a e));
      ba_step =
          direction_step sides.B sides.A w.initial_b s.does_out call.ends call.adds call.reads_alone (λ o n. absurd n)
          (λ o n. absurd n) (accepted_in_order step reply w q fits ends sides.B) (is_open s) s.sound_out
          (receives_or_stopped w.initial_a w.initial_b q.a s.coming2 s.out2 stands.side_a) restarted;
    },
    stands,
    λ within. safe_world q v (record { within = within; stand = stands }),
  )
    where
      v : World
      v = record {
        ends = q;
        initial_a = w.initial_a;
        initial_b = w.initial_b;
        ab = s.coming2;
        ba = s.out2;
        loose_a = loose_after step reply sides.A w;
        loose_b = loose_after step reply sides.B w;
      }

      stands : StandsIn q v
      stands = record {
        is = refl;
        sound_ab = s.sound_coming;
        sound_ba = s.sound_out;
        spans = λ t. sym (s.both t);
        side_a =
            subst (λ (z : Shown). Stands (loose_after step reply sides.A w) w.initial_a w.initial_b z s.coming2 s.out2)
            (sym same_a) s.other;
        side_b = s.stands;
        stage_a = fits.stand.stage_a;
        stage_b = s.here2;
        at_a = subst (λ (z : Shown). IsAt z fits.stand.stage_a) (sym same_a) fits.stand.at_a;
        at_b = s.at;
        meets = turned s.here2 fits.stand.stage_a s.meets;
        silent_a = λ never. ap (λ (z : Sender). z.plan.places) s.coming_still ∙ fits.stand.silent_a never;
        silent_b = silent_on s fits.stand.silent_b;
        said_a =
            subst (λ (z : List (List ℕ)). AreSaid w.initial_a w.initial_b fits.stand.stage_a s.coming2 s.out2 z)
            (sym same_packets)
            (said_grows w.initial_a w.initial_b (other_goes_on s) w.ends.packets_a fits.stand.said_a);
        said_b = subst (λ (z : List (List ℕ)). AreSaid w.initial_b w.initial_a s.here2 s.out2 s.coming2 z) (sym more)
            (all_join (λ (bytes : List ℕ). OfEachChunk (IsSaidBy w.initial_b w.initial_a s.here2 s.out2 s.coming2)
            (packet_in bytes)) w.ends.packets_b given
            (said_grows w.initial_b w.initial_a (own_goes_on s) w.ends.packets_b fits.stand.said_b) said);
        ends_a = shutdowns_end_in_order step reply w.ends q sides.A ends fits.stand.ends_a;
        ends_b = shutdowns_end_in_order step reply w.ends q sides.B ends fits.stand.ends_b;
        quiet_a = subst ResetsQuietly (sym same_a) fits.stand.quiet_a;
        quiet_b =
            resets_quietly fits.stand.side_b s.stands (stays_closed_after s.does_coming)
            (steps_stay_quiet step reply w.ends q sides.B ends) fits.stand.quiet_b;
      }

  pub settled_b : {Ended : ℕ → Type 0} {Added : ℕ → List Message} {Read : ℕ → Option letters.ReceivedMessage}
      {Brought : By → ℕ → Type 0} (given : List (List ℕ)) (fits : Fits w.ends w) → q.a ≡ w.ends.a
      → q.packets_b ≡ w.ends.packets_b ++ given
      → q.packets_a ≡ w.ends.packets_a → Steps step w.ends reply q
      → (s : SettlesEnding Ended (around_b step reply w fits) q.b Added Read Brought)
      → AreSaid w.initial_b w.initial_a s.here2 s.out2 s.coming2 given
      → IsCallEnding Ended step reply sides.B w w.initial_a Added Read Brought → LeadsSafely step reply w q
  settled_b given fits same_a more same_packets ends s said call =
      let ids = reset_between w.ends.b q.b in
      led_b given fits same_a more same_packets ends (restarting ids s) (said_still ids s given said)
      (λ t e.
      let can =
      ended_can_restart fits.stand.side_b s.stands (stays_closed_after s.does_coming)
      (steps_stay_quiet step reply w.ends q sides.B ends) fits.stand.quiet_b t e
      (λ over. s.does_out.spans.over t (sym (fits.stand.spans t) ∙ over)) in
      has_restarted ids s t can.0 can.1 can.2)
      call
