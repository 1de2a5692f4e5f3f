-- What one association gives up and gives out, while what comes to it stands still: DATA of its direction, sent for the
-- first time or again, and FORWARD TSN.
use Rattle.std.proofs.Common.{◌≡◌, ◌∙◌, refl, sym, ap, subst, List, [], ◌∷◌, ◌++◌, map, ℕ, ◌+◌, ◌≤◌, arith, Bool}
use Rattle.std.proofs.Common.{true, false, Option, Some, None, is_some}
use Rattle.std.specs.Prelude.{slice_get}
use Rattle.std.specs.List.{AllByRecursion}
use Rattle.std.proofs.lemmas.Bool.{false≢true}
use Rattle.sctp_wire_types.specs.declared.chunk.ChunkPayloadData.{ChunkPayloadData}
use Rattle.sctp_wire_types.specs.declared.chunk.ChunkSelectiveAck.{ChunkSelectiveAck}
use Rattle.sctp_serial.specs.Serial.{tsn}
use Rattle.sctp_outbound_queue.specs.declared.message.InFlight.{InFlight}
use Rattle.sctp_outbound_queue.specs.declared.message.Reports.{Reports}
use Rattle.sctp_outbound_queue.specs.Message.{sent_started, waiting_started}
use Rattle.sctp_outbound_queue.specs.Waiting.{Waiting}
use Rattle.sctp_outbound.specs.declared.sender.Sender.{Sender}
use Rattle.sctp_outbound.specs.Forward.{forward_of}
use Rattle.sctp_model.specs.Packets.{Sack}
use Rattle.sctp_model.specs.Machine.{Direction, Event, happens, run}
use Rattle.sctp_model.specs.Safe.{IsWithin}
use Rattle.sctp_model.proofs.Lists.{all_join, all_weaker}
use Rattle.sctp_fit.specs.Outgoing.{FitsOutgoing}
use Rattle.sctp_fit.specs.Sendings.{SendsNext}
use Rattle.sctp_fit.proofs.NextPiece.{sent_pieces_are_events}
use Rattle.sctp_directions.specs.Acts.{Act, Can, CanAll, IsOfItsOwn, IsNotPeerKnown, Parts, all_data_given, can_abandon}
use Rattle.sctp_directions.specs.Acts.{can_abandon_tail, can_drop, can_go_again, data_given, done, done_all, sending}
use Rattle.sctp_directions.specs.Between.{IsSound}
use Rattle.sctp_directions.specs.Events.{AcceptsAMessage, IsForwardWithin, IsOfSending}
use Rattle.sctp_directions.specs.Said.{IsForwardMade}
use Rattle.sctp_directions.specs.Reports.{SaysWhatWasTaken}
use Rattle.sctp_directions.proofs.Proved.{its_abandonments_are_alike, its_acknowledgements_are_alike}
use Rattle.sctp_directions.proofs.Proved.{acts_keep_the_initial_tsns, its_drops_are_alike, its_forwards_say_the_same}
use Rattle.sctp_directions.proofs.Proved.{its_marks_are_no_events, its_pieces_are_given, its_starts_are_no_events}
use Rattle.sctp_directions.proofs.Proved.{events_keep_the_limits, only_beginnings_assign, own_acts_leave_what_comes}
use Rattle.sctp_directions.proofs.Proved.{only_ends_close_reads, only_settings_loosen, own_acts_end_no_span}
use Rattle.sctp_directions.proofs.Proved.{its_tails_are_abandoned_alike, senders_events_keep_the_invariant}
use Rattle.sctp_sides.specs.SideLaws.{GivesNew, GivesUpOrAgain}
use Rattle.sctp_pair.proofs.BetweenDirections.{Goes, Holds, IsOrderly, None_brought, OtherStands, Surroundings}
use Rattle.sctp_pair.proofs.BetweenDirections.{goes_by_sender, goes_nowhere, goes_on, other_by_sender, sound_after}
use Rattle.sctp_pair.proofs.BetweenDirections.{spans_of}
use Rattle.sctp_plans.proofs.GrownPlans.{accepted_pieces_stay}
use Rattle.sctp_pair.proofs.SaidStaysSaid.{data_stays_said}
use Rattle.sctp_pair.proofs.GrowingPlans.{plan_grew}
use Rattle.sctp_pair.proofs.PiecesGiven.{IsGivenPiece, next_pieces_given, pieces_given_again}
use Rattle.sctp_pair.proofs.ForwardsMade.{abandonments_take_no_room, drops_take_no_room, resends_take_no_room, room}

-- What was done at the sender of the own direction, and the DATA that it gave out.
pub record AfterOut (x : Surroundings) (p : Parts) (given : List ChunkPayloadData) : Type 0 where
  pub out2 : Direction
  pub goes : Goes None_brought x.out out2
  pub holds : Holds (record x { out = out2 }) p
  pub said : AllByRecursion (IsGivenPiece x.own out2) given

-- All that was accepted was sent, and is acknowledged.
pub record IsAllSent (p : Parts) : Type 0 where
  pub nothing_waits : p.queue.pending ≡ []
  pub nothing_in_flight : p.queue.in_flight ≡ []

-- What is given up besides, takes at most the one offset of a rest that waits. Where all was sent before, the direction
-- stays as it was.
pub record AfterOld (x : Surroundings) (before p : Parts) (given : List ChunkPayloadData) : Type 0 where
  pub after : AfterOut x p given
  pub room_is : room after.out2 ≤ room x.out
  pub still : IsAllSent before → after.out2 ≡ x.out

-- FORWARD TSN went out, and is what this sender says.
record AfterForward (x : Surroundings) (p : Parts) (s : Sender) : Type 0 where
  out2 : Direction
  goes : Goes None_brought x.out out2
  holds : Holds (record x { out = out2 }) p
  said : IsForwardMade x.own out2 (forward_of s)

-- so it is where it went out
pub record AfterForwardIf (forwards : Bool) (x : Surroundings) (p : Parts) (s : Sender) : Type 0 where
  pub out2 : Direction
  pub goes : Goes None_brought x.out out2
  pub holds : Holds (record x { out = out2 }) p
  pub said : forwards ≡ true → IsForwardMade x.own out2 (forward_of s)
  pub still : forwards ≡ false → out2 ≡ x.out

-- To this direction the own one went by events of its sender that are no writes, and the other association still stands
-- between both.
record IsAfterEvents (x : Surroundings) (out2 : Direction) : Type 0 where
  goes : Goes None_brought x.out out2
  sound : IsSound out2
  other : OtherStands (record x { out = out2 })

after_event : (x : Surroundings) (e : Event) → IsOfSending e → (AcceptsAMessage e → ⊥) → IsForwardWithin x.out e
    → IsSound x.out → OtherStands x → IsAfterEvents x (happens x.out e)
after_event x e at none few sound other = record {
  goes = goes_by_sender None_brought x.out e at none;
  sound = sound_after e (senders_events_keep_the_invariant x.out e at few sound.invariant) sound;
  other = other_by_sender x e at sound.invariant other;
}

after_nothing : (x : Surroundings) → IsSound x.out → OtherStands x → IsAfterEvents x x.out
after_nothing x sound other = record { goes = goes_nowhere None_brought x.out; sound = sound; other = other }

-- an event by which a piece goes out for the first time
after_sending : (x : Surroundings) (e : Event) → SendsNext e → IsSound x.out → OtherStands x
    → IsAfterEvents x (happens x.out e)
after_sending x (Event.PassOver s) t sound other = after_event x (Event.PassOver s) tt (λ n. n) tt sound other
after_sending x (Event.Begin s i any) t sound other = after_event x (Event.Begin s i any) tt (λ n. n) tt sound other
after_sending x Event.GoOn t sound other = after_event x Event.GoOn tt (λ n. n) tt sound other
after_sending x e t sound other = absurd t

-- a row of such events
after_sendings : (es : List Event) (x : Surroundings) → AllByRecursion SendsNext es → IsSound x.out → OtherStands x
    → IsAfterEvents x (run es x.out)
after_sendings [] x t sound other =
    record { goes = goes_nowhere None_brought x.out; sound = sound; other = other }
after_sendings (e ∷ es) x (t, ts) sound other =
    let one = after_sending x e t sound other in
    let out2 : Direction = happens x.out e in
    let more = after_sendings es (record x { out = out2 }) ts one.sound one.other in
    record {
      goes = goes_on None_brought x.out out2 (run es out2) one.goes more.goes;
      sound = more.sound;
      other = more.other;
    }

-- Where all was sent, no piece is in flight, and no message waits.

no_piece : (test : Option InFlight → Bool) → test None ≡ false → (p : Parts) (index : ℕ) → IsAllSent p
    → test (slice_get p.queue.in_flight index) ≡ true → ⊥
no_piece test none p index d can =
    false≢true
    (sym none ∙ sym (ap (λ (ps : List InFlight). test (slice_get ps index)) d.nothing_in_flight) ∙ can)

pub no_message : (test : Option Waiting → Bool) → test None ≡ false → (p : Parts) (index : ℕ) → IsAllSent p
    → test (slice_get p.queue.pending index) ≡ true → ⊥
no_message test none p index d can =
    false≢true (sym none ∙ sym (ap (λ (ms : List Waiting). test (slice_get ms index)) d.nothing_waits) ∙ can)

-- The directions hold the association.
module _ (x : Surroundings) (p : Parts) (h : Holds x p) where
  -- the act is what these events are at the sender of its own direction
  act_at_sender : (act : Act) (out2 : Direction) (given : List ChunkPayloadData) → Can act p → IsOfItsOwn act
      → IsNotPeerKnown act → IsOrderly act → IsAfterEvents x out2 → FitsOutgoing (sending (done act p)) out2
      → AllByRecursion (IsGivenPiece p.history.own out2) given → AfterOut x (done act p) given
  act_at_sender act out2 given can its_own nobody orderly after fits said = record {
    out2 = out2;
    goes = after.goes;
    holds = record {
      own_is = (acts_keep_the_initial_tsns (act ∷ []) p (nobody, tt)).0 ∙ h.own_is;
      sound_out = after.sound;
      sound_coming = h.sound_coming;
      between = record {
        outgoing = fits;
        incoming = own_acts_leave_what_comes act p x.coming its_own h.between.incoming;
      };
      in_order =
          λ s within tight. only_settings_loosen act p s (orderly s)
          (h.in_order s (spans_of after.goes s within) tight);
      reads_open =
          λ s within. only_ends_close_reads act p s can (own_acts_end_no_span act s its_own) (h.reads_open s within);
      other = after.other;
    };
    said = subst (λ o. AllByRecursion (IsGivenPiece o out2) given) h.own_is said;
  }

  act_sent : (at_once : Bool) (now : ℕ) → Can (Act.Sent at_once now) p
      → AfterOut x (done (Act.Sent at_once now) p) (data_given (Act.Sent at_once now) p)
  act_sent at_once now can =
      let sent =
      sent_pieces_are_events p.history.own (sending p) at_once now x.out can h.sound_out.invariant h.sound_out.counts
      h.between.outgoing in
      let after = after_sendings sent.0 x sent.1.sends h.sound_out h.other in
      act_at_sender (Act.Sent at_once now) (run sent.0 x.out) (data_given (Act.Sent at_once now) p) can tt tt
      (λ s n. n) after sent.1.fits
      (next_pieces_given p.history.own (sending p) at_once now (run sent.0 x.out) after.sound.invariant sent.1.fits
      sent.1.given)

  -- an act by which a message is given up, or a piece goes out again
  one_old : (act : Act) → GivesUpOrAgain act → Can act p → AfterOld x p (done act p) (data_given act p)
  unfolding act_at_sender
  one_old (Act.Started now) g can = record {
    after =
        act_at_sender (Act.Started now) x.out [] can tt tt (λ s n. n) (after_nothing x h.sound_out h.other)
        (its_starts_are_no_events p now x.out h.between.outgoing) tt;
    room_is = omega arith;
    still = λ d. refl;
  }
  one_old (Act.Abandoned index) g can =
      let gone =
      its_abandonments_are_alike p index x.out can h.sound_out.invariant h.sound_out.counts h.between.outgoing in
      let e : Event = Event.Abandon gone.0 gone.1 in record {
        after =
            act_at_sender (Act.Abandoned index) (happens x.out e) [] can tt tt (λ s n. n)
            (after_event x e tt (λ n. n) tt h.sound_out h.other) gone.2 tt;
        room_is = abandonments_take_no_room x.out gone.0 gone.1;
        still = λ d. absurd (no_piece can_abandon refl p index d can);
      }
  one_old Act.TailAbandoned g can =
      let gone =
      its_tails_are_abandoned_alike p x.out can h.sound_out.invariant h.sound_out.counts h.between.outgoing in
      let e : Event = Event.Abandon gone.0 gone.1 in record {
        after =
            act_at_sender Act.TailAbandoned (happens x.out e) [] can tt tt (λ s n. n)
            (after_event x e tt (λ n. n) tt h.sound_out h.other) gone.2 tt;
        room_is = abandonments_take_no_room x.out gone.0 gone.1;
        still = λ d. absurd
            (no_message (λ (m : Option Waiting). can_abandon_tail m p.queue.in_flight) refl p 0 d can);
      }
  one_old (Act.Dropped k) g can =
      let gone = its_drops_are_alike p k x.out can h.sound_out.invariant h.sound_out.counts h.between.outgoing in
      let e : Event = Event.Drop gone.0 gone.1 in record {
        after =
            act_at_sender (Act.Dropped k) (happens x.out e) [] can tt tt (λ s n. n)
            (after_event x e tt (λ n. n) tt h.sound_out h.other) gone.2 tt;
        room_is = drops_take_no_room x.out gone.0 gone.1;
        still = λ d. absurd (no_message can_drop refl p k d can);
      }
  one_old (Act.SentAgain at_once by index) g can =
      let resent = its_pieces_are_given p at_once by index x.out can h.sound_out.invariant h.between.outgoing in
      let o = x.out.sender.reach + index in
      let e : Event = Event.Resend o in record {
        after =
            act_at_sender (Act.SentAgain at_once by index) (happens x.out e) (data_given (Act.SentAgain at_once by index) p) can tt tt
            (λ s n. n)
            (after_event x e tt (λ n. n) tt h.sound_out h.other) resent.0
            (pieces_given_again p.history.own (sending p) at_once index x.out (happens x.out e) h.sound_out.invariant
            h.between.outgoing (plan_grew (e ∷ []) x.out (happens x.out e) refl) can resent.1);
        room_is = resends_take_no_room x.out o;
        still = λ d. absurd (no_piece can_go_again refl p index d can);
      }
  one_old act g can = absurd g

  -- FORWARD TSN goes out, and is the direction's
  act_forwarded : (s : Sender) → Can Act.Forwarded p → s.queue ≡ p.queue
      → p.queue.first_tsn ≡ tsn p.history.own p.history.base → IsForwardWithin x.out Event.ForwardMade
      → AfterForward x p s
  unfolding act_at_sender
  act_forwarded s can same first few =
      let made = its_forwards_say_the_same p s x.out can same first h.between.outgoing in
      let e : Event = Event.ForwardMade in
      let after =
      act_at_sender Act.Forwarded (happens x.out e) [] can tt tt (λ t n. n)
      (after_event x e tt (λ n. n) few h.sound_out h.other) made.0 tt in
      record {
        out2 = after.out2;
        goes = after.goes;
        holds = after.holds;
        said = subst (λ (o : ℕ). IsForwardMade o after.out2 (forward_of s)) h.own_is made.1;
      }

-- a SACK that acknowledges the first n pieces in flight and those that its gap ack blocks name, and reports some
-- missing
pub act_acknowledged : {x : Surroundings} {p : Parts} (n k : ℕ) (missing : Reports) (c : ChunkSelectiveAck)
    (sack : Sack) → Holds x p
    → slice_get x.out.sacks k ≡ Some sack → SaysWhatWasTaken p.history.own sack.reach sack.above c
    → sack.reach ≡ x.out.sender.reach + n → Can (Act.Acknowledged n c.gap_ack_blocks missing) p
    → (after : AfterOut x (done (Act.Acknowledged n c.gap_ack_blocks missing) p) [])
    × (IsWithin x.out → IsWithin after.out2)
    × (after.out2.sender.plan.places ≡ x.out.sender.plan.places)
unfolding act_at_sender
act_acknowledged {x} {p} n k missing c sack h e says at can = (
  act_at_sender x p h (Act.Acknowledged n c.gap_ack_blocks missing) (happens x.out (Event.SackComes k)) [] can tt tt
      (λ s n. n)
      (after_event x (Event.SackComes k) tt (λ n. n) tt h.sound_out h.other)
      (its_acknowledgements_are_alike p n k missing c sack x.out e says at can h.sound_out.invariant h.between.outgoing)
      tt,
  λ within. events_keep_the_limits x.out (Event.SackComes k) tt within,
  only_beginnings_assign x.out (Event.SackComes k) tt (λ n. n),
)

-- all that is outstanding is marked to go out again: the directions hold the association still, as they are
pub marks_hold : (x : Surroundings) (p : Parts) → Holds x p → Holds x (done Act.Marked p)
marks_hold x p h = record {
  own_is = h.own_is;
  sound_out = h.sound_out;
  sound_coming = h.sound_coming;
  between = record {
    outgoing = its_marks_are_no_events p x.out h.between.outgoing;
    incoming = own_acts_leave_what_comes Act.Marked p x.coming tt h.between.incoming;
  };
  in_order = h.in_order;
  reads_open = h.reads_open;
  other = h.other;
}

-- what is given out, and a piece of what was accepted, stays so
given_piece_grows : (own : ℕ) (w v : Direction) (c : ChunkPayloadData) → Goes None_brought w v → IsGivenPiece own w c
    → IsGivenPiece own v c
given_piece_grows own w v c g ((k, d, there, said), piece) = (
  (k, d, g.datas k d there, data_stays_said own c d (spans_of g) said),
  accepted_pieces_stay own w.sender.plan v.sender.plan c (plan_grew g.events w v g.is) piece,
)

pub given_grows : (own : ℕ) (w v : Direction) (ds : List ChunkPayloadData) → Goes None_brought w v
    → AllByRecursion (IsGivenPiece own w) ds → AllByRecursion (IsGivenPiece own v) ds
given_grows own w v ds g h =
    all_weaker (IsGivenPiece own w) (IsGivenPiece own v) ds (λ c given. given_piece_grows own w v c g given) h

-- what was given out first, and then more
after_both : (x : Surroundings) (p : Parts) (mid : Direction) (first second : List ChunkPayloadData)
    → Goes None_brought x.out mid → AllByRecursion (IsGivenPiece x.own mid) first
    → AfterOut (record x { out = mid }) p second → AfterOut x p (first ++ second)
after_both x p mid first second goes said more = record {
  out2 = more.out2;
  goes = goes_on None_brought x.out mid more.out2 goes more.goes;
  holds = more.holds;
  said = all_join (IsGivenPiece x.own more.out2) first second
      (given_grows x.own mid more.out2 first more.goes said) more.said;
}

-- where all was sent before such an act, it is sent behind it
pub old_leaves_all_sent : (act : Act) (p : Parts) → GivesUpOrAgain act → Can act p → IsAllSent p
    → IsAllSent (done act p)
old_leaves_all_sent (Act.Started now) p g can d = record {
  nothing_waits = ap (λ (ms : List Waiting). map (waiting_started now) ms) d.nothing_waits;
  nothing_in_flight = ap (λ (ps : List InFlight). map (sent_started now) ps) d.nothing_in_flight;
}
old_leaves_all_sent (Act.Abandoned index) p g can d = absurd (no_piece can_abandon refl p index d can)
old_leaves_all_sent Act.TailAbandoned p g can d =
    absurd (no_message (λ (m : Option Waiting). can_abandon_tail m p.queue.in_flight) refl p 0 d can)
old_leaves_all_sent (Act.Dropped k) p g can d = absurd (no_message can_drop refl p k d can)
old_leaves_all_sent (Act.SentAgain at_once by index) p g can d = absurd (no_piece can_go_again refl p index d can)
old_leaves_all_sent act p g can d = absurd g

pub all_old_leaves_all_sent : (xs : List Act) (p : Parts) → AllByRecursion GivesUpOrAgain xs → CanAll xs p
    → IsAllSent p → IsAllSent (done_all xs p)
all_old_leaves_all_sent [] p g can d = d
all_old_leaves_all_sent (act ∷ acts) p (g, gs) (can, cans) d =
    all_old_leaves_all_sent acts (done act p) gs cans (old_leaves_all_sent act p g can d)

-- such acts, one after another
pub all_old : (xs : List Act) (x : Surroundings) (p : Parts) → AllByRecursion GivesUpOrAgain xs → CanAll xs p
    → Holds x p → AfterOld x p (done_all xs p) (all_data_given xs p)
unfolding after_both
all_old [] x p g can h = record {
  after = record { out2 = x.out; goes = goes_nowhere None_brought x.out; holds = h; said = tt };
  room_is = omega arith;
  still = λ d. refl;
}
all_old (act ∷ acts) x p (g, gs) (can, cans) h =
    let one = one_old x p h act g can in
    let mid : Surroundings = record x { out = one.after.out2 } in
    let more = all_old acts mid (done act p) gs cans one.after.holds in
    let a = one.room_is in
    let b = more.room_is in
    record {
      after = after_both x (done_all (act ∷ acts) p) one.after.out2 (data_given act p)
          (all_data_given acts (done act p)) one.after.goes one.after.said more.after;
      room_is = omega (arith, a, b);
      still = λ d. more.still (old_leaves_all_sent act p g can d) ∙ one.still d;
    }

-- acts that give out new DATA, one after another
pub all_new : (xs : List Act) (x : Surroundings) (p : Parts) → AllByRecursion GivesNew xs → CanAll xs p → Holds x p
    → AfterOut x (done_all xs p) (all_data_given xs p)
all_new [] x p g can h = record { out2 = x.out; goes = goes_nowhere None_brought x.out; holds = h; said = tt }
all_new (Act.Sent at_once now ∷ acts) x p (g, gs) (can, cans) h =
    let one = act_sent x p h at_once now can in
    let q : Parts = done (Act.Sent at_once now) p in
    after_both x (done_all acts q) one.out2 (data_given (Act.Sent at_once now) p) (all_data_given acts q) one.goes one.said
    (all_new acts (record x { out = one.out2 }) q gs cans one.holds)
all_new (act ∷ acts) x p (g, gs) (can, cans) h = absurd g

-- where all was sent before, none of them is there
pub all_new_stays : (xs : List Act) (x : Surroundings) (p : Parts) (g : AllByRecursion GivesNew xs) (can : CanAll xs p)
    (h : Holds x p) → IsAllSent p → (all_new xs x p g can h).out2 ≡ x.out
unfolding all_new
all_new_stays [] x p g can h d = refl
all_new_stays (Act.Sent at_once now ∷ acts) x p (g, gs) (can, cans) h d =
    absurd (no_message (λ (m : Option Waiting). is_some m) refl p 0 d can)
all_new_stays (act ∷ acts) x p (g, gs) can h d = absurd g

-- FORWARD TSN, where it goes out
pub forward_if : (forwards : Bool) (x : Surroundings) (p : Parts) (s : Sender) → (forwards ≡ true → Can Act.Forwarded p)
    → s.queue ≡ p.queue → p.queue.first_tsn ≡ tsn p.history.own p.history.base
    → IsForwardWithin x.out Event.ForwardMade → Holds x p → AfterForwardIf forwards x p s
forward_if false x p s can same first few h = record {
  out2 = x.out;
  goes = goes_nowhere None_brought x.out;
  holds = h;
  said = λ e. absurd (false≢true e);
  still = λ e. refl;
}
forward_if true x p s can same first few h =
    let made = act_forwarded x p h s (can refl) same first few in
    record {
      out2 = made.out2;
      goes = made.goes;
      holds = made.holds;
      said = λ e. made.said;
      still = λ e. absurd (false≢true (sym e));
    }
