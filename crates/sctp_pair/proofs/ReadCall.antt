-- A read of an association: what it gives is what the direction's reader gets.
use Rattle.std.proofs.Common.{◌≡◌, refl, sym, ap, ◌∙◌, subst, ⊎_elim, inl, inr, ℕ, Bool, true, false, eqb}
use Rattle.std.proofs.Common.{if◌then◌else◌, List, [], ◌∷◌, ◌++◌, Option, Some, None, arith}
use Rattle.std.specs.Prelude.{◌==◌, slice_get}
use Rattle.sctp_streams.specs.Streams.{read_in}
use Rattle.std.proofs.lemmas.Bool.{cases_Bool, cases_eq, cond-false, cond-true, eq-eqb, eqb-false, ne_eqb}
use Rattle.std.proofs.lemmas.List.{append-nil}
use Rattle.sctp_wire_types.specs.declared.error.Error.{Error}
use Rattle.sctp_receive_queues.specs.Messages.{ReceivedMessage}
use Rattle.sctp_model.specs.Packets.{Data, Forward, mem}
use Rattle.sctp_model.specs.Reassembly.{Got}
use Rattle.sctp_model.specs.Machine.{Direction, Event, happens, run}
use Rattle.sctp_model.proofs.Proved.{each_event_keeps_the_invariant}
use Rattle.sctp_model.proofs.ReceiverEvents.{keeps_close}
use Rattle.sctp_reassembly.specs.Stands.{IsReadAs}
use Rattle.sctp_fit.proofs.ReadsAnswered.{reads_are_alike}
use Rattle.sctp_fit.specs.Incoming.{FitsIncoming}
use Rattle.sctp_directions.specs.Acts.{Act, Parts, done, done_all, receiving}
use Rattle.sctp_directions.specs.Between.{IsSound}
use Rattle.sctp_directions.proofs.Proved.{only_ends_close_reads, only_forwards_pass_over}
use Rattle.sctp_directions.proofs.Proved.{closed_receivers_are_not_open}
use Rattle.sctp_directions.proofs.Proved.{only_what_is_brought_is_taken_in, receivers_events_are_received}
use Rattle.sctp_directions.proofs.Proved.{what_comes_leaves_its_own}
use Rattle.sctp_assoc.specs.Leads.{parts}
use Rattle.sctp_assoc.specs.ResetActs.{acts_of_draining}
use Rattle.sctp_assoc.specs.Calls.{first_refusal, read_from_stream}
use Rattle.sctp_assoc.specs.Closing.{exhausted, is_closed_state}
use Rattle.sctp_assoc.specs.Shown.{Shown}
use Rattle.sctp_sides.specs.Meeting.{IsTruthful, Stage}
use Rattle.sctp_sides.specs.NoReset.{HasNoReset}
use Rattle.sctp_sides.specs.SideLaws.{Exhausts, HoldsNothing, IsLive, IsOver, IsSameStatus, KeepsTheStage, with_read}
use Rattle.sctp_sides.proofs.Proved.{exhaustion_closes, exhaustion_ends_resets, exhaustion_resets_no_more}
use Rattle.sctp_sides.proofs.Proved.{found_streams_are_live, more_are_past, reads_end_past, reads_keep_the_status}
use Rattle.sctp_sides.proofs.Proved.{reads_lead_on}
use Rattle.sctp_sides.proofs.Proved.{the_same_handshake_is_the_same_stage, the_same_status_is_the_same_stage}
use Rattle.sctp_sides.proofs.Proved.{what_holds_nothing_gives_nothing}
use Rattle.sctp_assoc.specs.declared.call.Reply.{Reply}
use Rattle.sctp_assoc.specs.declared.call.Reply.TheVariants as replies
use Rattle.sctp_pair.specs.Fits.{IsAt, StandsClosed}
use Rattle.sctp_assoc.specs.Replies.{Reads}
use Rattle.sctp_pair.proofs.BetweenDirections.{orderly_acts_keep_order, passes_on}
use Rattle.sctp_pair.proofs.BetweenDirections.{ClosedAt, Does, DoesEnding, Faces, Goes, None_brought, OpenAt}
use Rattle.sctp_pair.proofs.BetweenDirections.{OtherStands}
use Rattle.sctp_pair.proofs.BetweenDirections.{Settles, SettlesQuietly, StandsAt, goes_by_receiver, run_append}
use Rattle.sctp_pair.proofs.BetweenDirections.{Surroundings, does_by_goes, goes_nowhere, nothing_added}
use Rattle.sctp_pair.proofs.BetweenDirections.{none_ends, nothing_read, other_by_receiver, same_spans_go_on}
use Rattle.sctp_pair.proofs.BetweenDirections.{sound_after, spans_of}
use Rattle.sctp_pair.proofs.PastReads.{given_does, given_is_read, given_is_sound, given_leaves_the_other}
use Rattle.sctp_pair.proofs.PastReads.{given_leaves_what_comes, given_past, others_are_not_read}
use Rattle.sctp_pair.proofs.PastSpans.{ChangesPast, changes_as, ends_are_not_peer_known, ends_change_past, past_coming}
use Rattle.sctp_pair.proofs.PastSpans.{past_in_order, past_out, past_reads_open, reading_changes_past}
use Rattle.sctp_pair.proofs.QuietCalls.{by_working, closed_on, fails_settle, open_on, same_settles, still}
use Rattle.sctp_pair.proofs.HandshakeStages.{at_same, stays_put}
use Rattle.sctp_pair.proofs.NoReset.{read_plainly, reads_plainly}
use Rattle.sctp_pair.proofs.WindowTold.{read_so, telling_settles}

-- what a read with this reply gives on stream s
abbrev pub read_by : Reply → ℕ → ℕ → Option ReceivedMessage
read_by (replies.Read message) id s = if id == s then message else None
read_by r id s = None

-- where a call of a stream isn't refused, the stream is found
pub found_none : (x y : Option Error) → first_refusal x y ≡ None → x ≡ None
found_none None y e = refl
found_none (Some fault) y e = e

-- An open association reads

-- what was read on stream id, seen from stream s
read_alone : (f g : ℕ → List Got) (id : ℕ) (message : Option ReceivedMessage) → IsReadAs message (f id) (g id)
    → ((s : ℕ) → eqb s id ≡ false → g s ≡ f s)
    → (s : ℕ) → IsReadAs (if id == s then message else None) (f s) (g s)
read_alone f g id message here others s = ⊎_elim
    (λ (e : id ≡ s). subst (λ (z : Option ReceivedMessage). IsReadAs z (f s) (g s))
    (sym (cond-true (eqb id s) message None (eq-eqb id s e)))
    (subst (λ z. IsReadAs message (f z) (g z)) e here))
    (λ (ne : id ≡ s → ⊥). subst (λ (z : Option ReceivedMessage). IsReadAs z (f s) (g s))
    (sym (cond-false (eqb id s) message None (ne_eqb id s ne)))
    (others s (ne_eqb s id (λ c. ne (sym c)))))
    (cases_eq id s)

read_does : (w : Direction) (id : ℕ) (message : Option ReceivedMessage)
    → IsReadAs message (w.reads id) ((happens w (Event.Read id)).reads id)
    → ((s : ℕ) → eqb s id ≡ false → (happens w (Event.Read id)).reads s ≡ w.reads s)
    → Does nothing_added (read_by (replies.Read message) id) None_brought w (happens w (Event.Read id))
read_does w id message here others =
    let event = receivers_events_are_received w (Event.Read id) tt in
    record {
      events = Event.Read id ∷ [];
      is = refl;
      accepted = λ s. ap (λ x. x.plan.accepted s) event.sender ∙ sym (append-nil (w.sender.plan.accepted s));
      size = ap (λ x. x.plan.size) event.sender;
      reads = λ s. read_alone w.reads (happens w (Event.Read id)).reads id message here others s;
      taken = λ o m. only_what_is_brought_is_taken_in w (Event.Read id) o tt m;
      passed = only_forwards_pass_over w (Event.Read id) tt;
      datas = λ k d e. subst (λ (ds : List Data). slice_get ds k ≡ Some d) (sym event.datas) e;
      forwards = λ k f e. subst (λ (fs : List Forward). slice_get fs k ≡ Some f) (sym event.forwards) e;
      sacks = event.sacks;
      spans = same_spans_go_on w (happens w (Event.Read id)) event.over;
      ends = none_ends w (happens w (Event.Read id)) (λ s. ap (λ (f : ℕ → Bool). f s) event.over);
      reach_on = (let e = ap (λ x. x.reach) event.sender in omega arith);
    }

-- no message is none, whoever looks
none_either : (b : Bool) (message : Option ReceivedMessage) → message ≡ None → (if b then message else None) ≡ None
none_either true message e = e
none_either false message e = refl

-- what reads nothing is a read that gave nothing, too
none_does : (w v : Direction) (id : ℕ) (message : Option ReceivedMessage) → message ≡ None
    → Does nothing_added nothing_read None_brought w v
    → Does nothing_added (read_by (replies.Read message) id) None_brought w v
none_does w v id message e d = record {
  events = d.events;
  is = d.is;
  accepted = d.accepted;
  size = d.size;
  reads = λ s. subst (λ (z : Option ReceivedMessage). IsReadAs z (w.reads s) (v.reads s))
      (sym (none_either (id == s) message e)) (d.reads s);
  taken = d.taken;
  passed = d.passed;
  datas = d.datas;
  forwards = d.forwards;
  sacks = d.sacks;
  spans = d.spans;
  ends = d.ends;
  reach_on = d.reach_on;
}

-- the direction that comes to an association, after a read of one of its streams
abbrev after_one : Surroundings → ℕ → Direction
after_one x id = happens x.coming (Event.Read id)

-- what gives nothing more leaves what was read
pub does_on : {Ended : ℕ → Type 0} (R : ℕ → Option ReceivedMessage) (w v u : Direction)
    → DoesEnding Ended nothing_added R None_brought w v → Goes None_brought v u
    → DoesEnding Ended nothing_added R None_brought w u
does_on R w v u d g = record {
  events = d.events ++ g.events;
  is = g.is ∙ ap (run g.events) d.is ∙ sym (run_append d.events g.events w);
  accepted = λ s. g.accepted s ∙ d.accepted s;
  size = g.size ∙ d.size;
  reads = λ s. subst (IsReadAs (R s) (w.reads s)) (sym (g.reads s)) (d.reads s);
  taken =
      λ o m. ⊎_elim (λ (n : mem o v.receiver.taken ≡ true). d.taken o n) (λ (n : ⊥). absurd n) (g.taken o m);
  passed = passes_on None_brought w.receiver.passed v.receiver.passed u.receiver.passed d.passed g.passed;
  datas = λ k x e. g.datas k x (d.datas k x e);
  forwards = λ k x e. g.forwards k x (d.forwards k x e);
  sacks = λ k x e. g.sacks k x (d.sacks k x e);
  spans = record {
    over = λ s o. g.same_spans s ∙ d.spans.over s o;
    within = λ s n. d.spans.within s (spans_of g s n);
  };
  ends = λ s o. d.ends s (sym (g.same_spans s) ∙ o);
  reach_on = (let a = d.reach_on in let b = g.reach_on in omega arith);
}

-- what an exhausted receive buffer leaves is at the same stage of the handshake
pub at_exhausted : {here : Stage} (a : Shown) → Exhausts a (exhausted a) → IsAt a here → IsAt (exhausted a) here
at_exhausted a closes at working =
    (the_same_handshake_is_the_same_stage a (exhausted a) closes.side closes.handshake).0
    ∙ at (sym closes.failed ∙ working)

-- A read of a stream of an open association, before it is seen whether it leaves the receive buffer exhausted: the
-- direction that comes went on to this one, and the association stands open there.
record HasRead (x : Surroundings) (a : Shown) (id : ℕ) (message : Option ReceivedMessage) : Type 0 where
  pub coming2 : Direction
  pub does : Does nothing_added (read_by (replies.Read message) id) None_brought x.coming coming2
  pub sound : IsSound coming2
  pub same_spans : (s : ℕ) → coming2.over s ≡ x.coming.over s
  pub sender : coming2.sender ≡ x.coming.sender
  pub other : OtherStands (record x { coming = coming2 })
  pub stands : OpenAt (record x { coming = coming2 }) (with_read a id)

module _ {x : Surroundings} {a b : Shown} (id : ℕ) (message : Option ReceivedMessage) (live : IsLive a id)
    (e : read_from_stream a id ≡ (b, message)) (f : Faces x a) (s : OpenAt x a) where
  -- behind the read generations of the stream may end, which is past its span then
  abbrev drained : List Act
  drained = acts_of_draining a id (read_in a.streams id).0

  abbrev was_read : Parts
  was_read = done (Act.WasRead id) (parts a s.past)

  drains : ChangesPast x.coming.over was_read (done_all drained was_read)
  drains =
      let leads = reads_lead_on a id s.past s.binds in
      ends_change_past x.coming.over drained was_read (reads_end_past x.coming.over a id s.resets).0 leads.1.can.1

  -- It leads to a direction that fits what the read left, and in which the spans are the same.
  read_stands : (coming2 : Direction) → ((t : ℕ) → coming2.over t ≡ x.coming.over t)
      → FitsIncoming (receiving was_read) coming2 → OpenAt (record x { coming = coming2 }) (with_read a id)
  read_stands coming2 same fits =
      let leads = reads_lead_on a id s.past s.binds in
      let out = changes_as (λ t within. sym (f.both t) ∙ within) drains in
      let come = changes_as (λ t within. sym (same t) ∙ within) drains in
      open_on x (Act.WasRead id ∷ drained) s record {
        past2 = leads.0;
        leads = leads.1;
        nobody = (
          tt,
          ends_are_not_peer_known x.coming.over drained (reads_end_past x.coming.over a id s.resets).0,
        );
        in_order =
            λ t within tight. past_in_order out t within
            (orderly_acts_keep_order x.loose (Act.WasRead id) (λ z n. n) (parts a s.past) t tight
            (s.in_order t within tight));
        reads_open =
            λ t within. past_reads_open come t within
            (only_ends_close_reads (Act.WasRead id) (parts a s.past) t leads.1.can.0 (λ n. n)
            (s.reads_open t (sym (same t) ∙ within)));
        same = the_same_status_is_the_same_stage a (with_read a id) (reads_keep_the_status a id).same;
        resets =
            more_are_past x.coming.over coming2.over (with_read a id) (λ t o. same t ∙ o)
            (reads_end_past x.coming.over a id s.resets).1;
        size = refl;
        outgoing =
            past_out x.out out
            (what_comes_leaves_its_own (Act.WasRead id) (parts a s.past) x.out tt s.between.outgoing);
        incoming = past_coming coming2 come fits;
      }

  given : (read_in a.streams id).1 ≡ message
  given =
      sym (reads_keep_the_status a id).given ∙ ap (λ (z : Shown × Option ReceivedMessage). z.1) e

  read_within : x.coming.over id ≡ false → HasRead x a id message
  read_within within =
      let fits =
      reads_are_alike (receiving (parts a s.past)) id live.stream x.coming live.there within f.within_coming
      f.sound_coming.invariant s.between.incoming in
      let event = receivers_events_are_received x.coming (Event.Read id) tt in
      let same = λ (t : ℕ). ap (λ (g : ℕ → Bool). g t) event.over in
      record {
        coming2 = after_one x id;
        does = read_does x.coming id message
            (subst (λ (z : Option ReceivedMessage). IsReadAs z (x.coming.reads id) ((after_one x id).reads id)) given
            fits.1) fits.2;
        sound =
            sound_after (Event.Read id)
            (each_event_keeps_the_invariant x.coming (Event.Read id) f.within_coming f.sound_coming.invariant)
            f.sound_coming;
        same_spans = same;
        sender = event.sender;
        other = other_by_receiver x (Event.Read id) tt f.other;
        stands = read_stands (after_one x id) same fits.0;
      }

  -- after a read of a stream past its span the association still fits what comes
  past_stays : x.coming.over id ≡ true → FitsIncoming (receiving was_read) x.coming
  past_stays past =
      past_coming x.coming (reading_changes_past x.coming.over (parts a s.past) id past) s.between.incoming

  -- such a read may give any message
  read_past : (answer : Option ReceivedMessage) → x.coming.over id ≡ true → HasRead x a id answer
  read_past None past = record {
    coming2 = x.coming;
    does = none_does x.coming x.coming id None refl
        (does_by_goes None_brought x.coming x.coming (goes_nowhere None_brought x.coming));
    sound = f.sound_coming;
    same_spans = λ t. refl;
    sender = refl;
    other = f.other;
    stands = read_stands x.coming (λ t. refl) (past_stays past);
  }
  read_past (Some m) past =
      let coming2 : Direction = given_past x.coming id m in
      let is_open = s.between.incoming.is_open in
      record {
        coming2 = coming2;
        does = given_does x.coming id m past is_open (read_by (replies.Read (Some m)) id)
            (read_alone x.coming.reads coming2.reads id (Some m) (given_is_read x.coming id m)
            (λ t apart. others_are_not_read x.coming id m t (eqb-false t id apart)));
        sound = given_is_sound x.coming id m past is_open f.within_coming f.sound_coming;
        same_spans = λ t. refl;
        sender = refl;
        other = given_leaves_the_other x id m f.other;
        stands =
            read_stands coming2 (λ t. refl)
            (given_leaves_what_comes x.coming id m past (receiving was_read) (past_stays past));
      }

  has_read : HasRead x a id message
  has_read = ⊎_elim
      (λ (past : x.coming.over id ≡ true). read_past message past)
      (λ (within : x.coming.over id ≡ false). read_within within)
      (cases_Bool (x.coming.over id))

-- Events of the receiver were such a read, and more that gives nothing.
settled_read : {x : Surroundings} {a : Shown} (b : Shown) (id : ℕ) (message : Option ReceivedMessage)
    (coming2 : Direction) → Faces x a
    → Does nothing_added (read_by (replies.Read message) id) None_brought x.coming coming2
    → IsSound coming2 → ((s : ℕ) → coming2.over s ≡ x.coming.over s) → StandsAt (record x { coming = coming2 }) b
    → OtherStands (record x { coming = coming2 }) → IsAt b x.here → coming2.sender ≡ x.coming.sender
    → Settles x b nothing_added (read_by (replies.Read message) id) None_brought
settled_read {x} b id message coming2 f does sound spans stands other at same = record {
  out2 = x.out;
  coming2 = coming2;
  here2 = x.here;
  does_out = does_by_goes None_brought x.out x.out (goes_nowhere None_brought x.out);
  does_coming = does;
  sound_out = f.sound_out;
  sound_coming = sound;
  both = λ t. f.both t ∙ sym (spans t);
  stands = stands;
  other = other;
  goes = stays_put x.here;
  at = at;
  meets = f.meets;
  no_more = inr refl;
  coming_still = same;
}

module _ {x : Surroundings} {a : Shown} (id : ℕ) (message : Option ReceivedMessage) (f : Faces x a)
    (h : HasRead x a id message) where
  -- the read does no more, or an ABORT waits besides
  read_stays : (b : Shown) → IsAt b x.here → OpenAt (record x { coming = h.coming2 }) b
      → Settles x b nothing_added (read_by (replies.Read message) id) None_brought
  read_stays b at stands =
      settled_read b id message h.coming2 f h.does h.sound h.same_spans (inl stands) h.other at h.sender

  -- the read leaves the receive buffer exhausted, and that closes
  read_closes : (b : Shown) → IsAt b x.here → IsOver b → HasNoReset b → ((own : ℕ) → IsTruthful own (with_read a id)
      → IsTruthful own b) → Settles x b nothing_added (read_by (replies.Read message) id) None_brought
  unfolding happens
  read_closes b at over none truthful =
      let coming2 = h.coming2 in
      let received = receivers_events_are_received coming2 Event.Close tt in
      let closes = goes_by_receiver None_brought coming2 Event.Close tt (λ n. n) (λ o n. n) (λ o n. n) in
      let stands : ClosedAt (record x { coming = happens coming2 Event.Close }) b = record {
        closed = over.closed;
        unestablished = over.unestablished;
        lost = over.lost;
        stopped = closed_receivers_are_not_open coming2;
        nothing_left = over.holds_nothing;
        truthful = truthful x.own h.stands.truthful;
        no_reset = none;
      } in
      settled_read b id message (happens coming2 Event.Close) f
      (does_on (read_by (replies.Read message) id) x.coming coming2 (happens coming2 Event.Close) h.does closes)
      (sound_after Event.Close (keeps_close coming2 h.sound.invariant) h.sound)
      (λ t. ap (λ (g : ℕ → Bool). g t) received.over ∙ h.same_spans t)
      (inr (inl stands))
      (other_by_receiver (record x { coming = coming2 }) Event.Close tt h.other)
      at
      (received.sender ∙ h.sender)

  -- a server that listens stays as it is, but for the ABORT
  read_exhausted : (closed : Bool) → is_closed_state (with_read a id).state ≡ closed → IsAt (with_read a id) x.here
      → Settles x (exhausted (with_read a id)) nothing_added (read_by (replies.Read message) id) None_brought
  read_exhausted false e at =
      let c = with_read a id in
      let closes = exhaustion_closes c in
      read_closes (exhausted c) (at_exhausted c closes at) (closes.ends e) (exhaustion_ends_resets c e) closes.truthful
  read_exhausted true e at =
      let c = with_read a id in
      let closes = exhaustion_closes c in
      let stays = closes.stays e in
      let on = stays.0 h.stands.past h.stands.binds in
      read_stays (exhausted c) (at_exhausted c closes at)
      (open_on (record x { coming = h.coming2 }) [] h.stands record {
        past2 = on.0;
        leads = on.1;
        nobody = tt;
        in_order = h.stands.in_order;
        reads_open = h.stands.reads_open;
        same = the_same_status_is_the_same_stage c (exhausted c) stays.1;
        resets = exhaustion_resets_no_more c h.coming2.over h.stands.resets;
        size = refl;
        outgoing = h.stands.between.outgoing;
        incoming = h.stands.between.incoming;
      })

read_open : {x : Surroundings} {a b : Shown} (id : ℕ) (message : Option ReceivedMessage) → IsLive a id
    → read_from_stream a id ≡ (b, message) → Faces x a → OpenAt x a
    → Settles x b nothing_added (read_by (replies.Read message) id) None_brought
read_open {x} {a} {b} id message live e f s =
    let h = has_read id message live e f s in
    let reads = reads_keep_the_status a id in
    let at : IsAt (with_read a id) x.here =
    at_same a (with_read a id) x.here (the_same_status_is_the_same_stage a (with_read a id) reads.same) f.at in
    let left : (read_from_stream a id).0 ≡ b = ap (λ (z : Shown × Option ReceivedMessage). z.0) e in
    let Settled : Shown → Type 0 = λ (z : Shown).
    Settles x z nothing_added (read_by (replies.Read message) id) None_brought in
    subst Settled left
    (read_so Settled (λ tells z k. telling_settles tells z k) a id (read_in a.streams id)
    (read_stays id message f h (with_read a id) at h.stands)
    (read_exhausted id message f h (is_closed_state (with_read a id).state) refl at))

-- A closed association reads nothing

read_closed : {own : ℕ} {coming : Direction} (a b : Shown) (id : ℕ) (message : Option ReceivedMessage) → IsLive a id
    → read_from_stream a id ≡ (b, message) → StandsClosed own a coming
    → (message ≡ None) × KeepsTheStage a b × StandsClosed own b coming
read_closed a b id message live e s =
    let nothing = what_holds_nothing_gives_nothing a id s.no_reset live s.nothing_left in
    let reads = reads_plainly a id s.no_reset in
    let left : (read_from_stream a id).0 ≡ b = ap (λ (x : Shown × Option ReceivedMessage). x.0) e in
    let plain = reads.plainly (sym reads.given ∙ nothing.0) in
    let same : KeepsTheStage a b =
    the_same_status_is_the_same_stage a b (subst (IsSameStatus a) (sym plain ∙ left) reads.same) in (
      sym (ap (λ (x : Shown × Option ReceivedMessage). x.1) e) ∙ nothing.0,
      same,
      closed_on same (subst HasNoReset (sym plain ∙ left) reads.no_reset)
          (subst HoldsNothing left nothing.1) s,
    )

-- a read that gave nothing
none_read : {x : Surroundings} {b : Shown} (id : ℕ) (message : Option ReceivedMessage) → message ≡ None
    → SettlesQuietly x b → Settles x b nothing_added (read_by (replies.Read message) id) None_brought
none_read {x} id message e h =
    record {
      out2 = h.out2;
      coming2 = h.coming2;
      here2 = h.here2;
      does_out = h.does_out;
      does_coming = none_does x.coming h.coming2 id message e h.does_coming;
      sound_out = h.sound_out;
      sound_coming = h.sound_coming;
      both = h.both;
      stands = h.stands;
      other = h.other;
      goes = h.goes;
      at = h.at;
      meets = h.meets;
      no_more = h.no_more;
      coming_still = h.coming_still;
    }

-- A read gives the next message of its stream, if there is one; a closed association has none.
pub reads_settle : {x : Surroundings} {a b : Shown} (id : ℕ) (r : Reply) → Reads a id r b → Faces x a
    → Settles x b nothing_added (read_by r id) None_brought
reads_settle {x} {a} {b} id (replies.Read message) h f =
    let live = found_streams_are_live a id (found_none _ _ h.0) in
    by_working (Settles x b nothing_added (read_by (replies.Read message) id) None_brought) live.working f
    (λ s. read_open id message live h.1 f s)
    (λ s.
    let c = read_closed a b id message live h.1 s in
    none_read id message c.0 (still f (at_same a b x.here c.1 f.at) (inr (inl c.2))))
reads_settle id (replies.Refused n) (inl refused) f = same_settles refused.1 f
reads_settle id (replies.Refused n) (inr fails) f = fails_settle fails.1.2.marked f
reads_settle id r h f = absurd h
