-- Each simple call of an association that faces another one leads to directions between which both of them stand.
use Rattle.std.proofs.Common.{◌≡◌, refl, sym, ap, ◌∙◌, subst, ◌⊎◌, ⊎_elim, inl, inr, ℕ, Bool, true, false, List, []}
use Rattle.std.proofs.Common.{◌∷◌}
use Rattle.std.proofs.Common.{None}
use Rattle.std.proofs.lemmas.Bool.{false≢true, true≢false}
use Rattle.std.specs.List.{AllByRecursion}
use Rattle.sctp_wire_types.specs.declared.ids.PayloadProtocolIdentifier.{PayloadProtocolIdentifier}
use Rattle.sctp_parts.specs.declared.state.AssociationState.{AssociationState}
use Rattle.sctp_parts.specs.declared.state.AssociationState.TheVariants as states
use Rattle.sctp_model.specs.Machine.{Direction, Event, happens}
use Rattle.sctp_model.proofs.Lists.{all_weaker}
use Rattle.sctp_model.proofs.Proved.{each_event_keeps_the_invariant}
use Rattle.sctp_fit.specs.Incoming.{FitsIncoming}
use Rattle.sctp_fit.specs.Outgoing.{FitsOutgoing}
use Rattle.sctp_fit.proofs.DataTaken.{opened_streams_are_alike}
use Rattle.sctp_directions.specs.Acts.{Act, CanAll, EndsSpanOf, HasReadOpen, History, IsKeptInOrder, IsNotPeerKnown}
use Rattle.sctp_directions.specs.Acts.{Parts, done, done_all, receiving, sending}
use Rattle.sctp_directions.specs.Events.{Brings, BringsForward, GivesAMessage, IsOfReceiving}
use Rattle.sctp_directions.proofs.Proved.{acts_keep_reads, acts_keep_the_initial_tsns, closed_receivers_are_not_open}
use Rattle.sctp_directions.proofs.Proved.{receivers_events_are_received}
use Rattle.sctp_assoc.specs.Leads as assoc
use Rattle.sctp_assoc.specs.Leads.{Leads, parts}
use Rattle.sctp_assoc.specs.Calls.{is_beginning, is_established, open_refusal, opened}
use Rattle.sctp_assoc.specs.Closing.{is_closed_state}
use Rattle.sctp_assoc.specs.Shown.{Shown}
use Rattle.sctp_sides.specs.NoReset.{HasNoReset}
use Rattle.sctp_sides.specs.PastSpan.{ResetsNoMore, ResetsPastOnly}
use Rattle.sctp_sides.specs.Meeting.{IsAsFarOn}
use Rattle.sctp_sides.specs.SideLaws.{HoldsNothing, IsNotLive, IsSameStatus, KeepsTheStage}
use Rattle.sctp_sides.proofs.Proved.{open_leads_on, opened_streams_hold_nothing, opened_streams_keep_the_status}
use Rattle.sctp_sides.proofs.Proved.{opened_streams_begin_no_reset, opened_streams_reset_no_more}
use Rattle.sctp_sides.proofs.Proved.{opened_streams_were_not_live, the_same_status_is_the_same_stage}
use Rattle.sctp_assoc.specs.declared.call.Reply.{Reply}
use Rattle.sctp_assoc.specs.declared.call.Reply.TheVariants as replies
use Rattle.sctp_pair.specs.Fits.{IsAt, StandsClosed, StandsFailed}
use Rattle.sctp_assoc.specs.Replies.{Fails, HadFailed, Opens}
use Rattle.sctp_pair.proofs.BetweenDirections.{ClosedAt, EndsNoSpan, Faces, KeepsOrder, None_brought, OpenAt}
use Rattle.sctp_pair.proofs.BetweenDirections.{SettlesQuietly, StandsAt, orderly_acts_keep_order}
use Rattle.sctp_pair.proofs.BetweenDirections.{Surroundings, does_by_goes, goes_by_receiver, goes_nowhere, moved}
use Rattle.sctp_pair.proofs.BetweenDirections.{other_by_receiver, sound_after}
use Rattle.sctp_pair.proofs.HandshakeStages.{at_same, come_on, known_before, stays_put}
use Rattle.sctp_pair.proofs.PastSpans.{opened_out, past_by_receiver}

-- Nothing happened to the directions, and the association stands between them still.
unfoldable pub still : {x : Surroundings} {a b : Shown} → Faces x a → IsAt b x.here → StandsAt x b → SettlesQuietly x b
still {x} f at s = record {
  out2 = x.out;
  coming2 = x.coming;
  here2 = x.here;
  does_out = does_by_goes None_brought x.out x.out (goes_nowhere None_brought x.out);
  does_coming = does_by_goes None_brought x.coming x.coming (goes_nowhere None_brought x.coming);
  sound_out = f.sound_out;
  sound_coming = f.sound_coming;
  both = f.both;
  stands = s;
  other = f.other;
  goes = stays_put x.here;
  at = at;
  meets = f.meets;
  no_more = inr refl;
  coming_still = refl;
}

-- a call that does nothing
pub nothing_settles : {x : Surroundings} {a : Shown} → Faces x a → SettlesQuietly x a
nothing_settles f = still f f.at f.stands

-- a call that leaves the association as it is
pub same_settles : {x : Surroundings} {a b : Shown} → b ≡ a → Faces x a → SettlesQuietly x b
same_settles {x} e f = subst (SettlesQuietly x) (sym e) (nothing_settles f)

-- One event of the receiver

-- an event of the receiver that is no read and brings nothing happened to the direction that comes, and the association
-- stands between its directions then
pub settles_by_receiver : {x : Surroundings} {a b : Shown} (e : Event) → Faces x a → IsOfReceiving e
    → (GivesAMessage e → ⊥) → ((o : ℕ) → Brings x.coming e o → ⊥) → ((n : ℕ) → BringsForward x.coming e n → ⊥)
    → IsAt b x.here → StandsAt (record x { coming = happens x.coming e }) b → SettlesQuietly x b
settles_by_receiver {x} e f at none brings passes now s =
    let received = receivers_events_are_received x.coming e at in
    let goes = goes_by_receiver None_brought x.coming e at none brings passes in
    record {
      out2 = x.out;
      coming2 = happens x.coming e;
      here2 = x.here;
      does_out = does_by_goes None_brought x.out x.out (goes_nowhere None_brought x.out);
      does_coming = does_by_goes None_brought x.coming (happens x.coming e) goes;
      sound_out = f.sound_out;
      sound_coming =
          sound_after e (each_event_keeps_the_invariant x.coming e f.within_coming f.sound_coming.invariant)
          f.sound_coming;
      both = λ t. f.both t ∙ sym (goes.same_spans t);
      stands = s;
      other = other_by_receiver x e at f.other;
      goes = stays_put x.here;
      at = now;
      meets = f.meets;
      no_more = inr refl;
      coming_still = received.sender;
    }

-- The association failed

-- An association that failed, or fails in this call, stops receiving: that is an event of the direction that comes to
-- it.
pub fails_settle : {x : Surroundings} {a b : Shown} → b.failed ≡ true → Faces x a → SettlesQuietly x b
fails_settle {x} failed f =
    settles_by_receiver Event.Close f tt (λ n. n) (λ o n. n) (λ o n. n)
    (λ working. absurd (true≢false (sym failed ∙ working)))
    (inr (inr record { failed = failed; stopped = closed_receivers_are_not_open x.coming }))

-- a refused call: the association had failed before, or fails in it
pub refused_call_settles : {x : Surroundings} {a b : Shown} {n : ℕ} {Due : Type 0}
    → HadFailed a n b ⊎ (Due × Fails a n b) → Faces x a → SettlesQuietly x b
refused_call_settles (inl had) f = same_settles had.2 f
refused_call_settles (inr (due, fails)) f = fails_settle fails.2.marked f

-- An open association goes on

-- Acts that are not `PeerKnown` and leave the streams in order that are within their span and not loose, and those open
-- to be read that are within it, lead from a with this past to b, whose stage is kept and whose resets concern streams
-- past their span alone, and to directions that fit what the acts did.
pub record LeadsOn (x : Surroundings) (a : Shown) (past : History) (acts : List Act) (b : Shown)
    (out2 coming2 : Direction) : Type 0 where
  pub past2 : History
  pub leads : Leads acts a past b past2
  pub nobody : AllByRecursion IsNotPeerKnown acts
  pub in_order : (t : ℕ) → out2.over t ≡ false → x.loose t ≡ false
      → IsKeptInOrder (done_all acts (parts a past)).streams t
  pub reads_open : (t : ℕ) → coming2.over t ≡ false → HasReadOpen (done_all acts (parts a past)).streams t
  pub same : KeepsTheStage a b
  pub resets : ResetsPastOnly coming2.over b
  pub size : out2.sender.plan.size ≡ x.out.sender.plan.size
  pub outgoing : FitsOutgoing (sending (done_all acts (parts a past))) out2
  pub incoming : FitsIncoming (receiving (done_all acts (parts a past))) coming2

-- a stream stays in order whatever such acts do
order_stays : (loose : ℕ → Bool) (acts : List Act) (p : Parts) (s : ℕ) → loose s ≡ false
    → AllByRecursion (KeepsOrder loose) acts → IsKeptInOrder p.streams s → IsKeptInOrder (done_all acts p).streams s
order_stays loose [] p s tight orderly h = h
order_stays loose (act ∷ acts) p s tight (this, others) h =
    order_stays loose acts (done act p) s tight others (this p s tight h)

-- and where the spans stay, those that were in order are
pub still_in_order : (x : Surroundings) (acts : List Act) {a : Shown} (s : OpenAt x a)
    → AllByRecursion (KeepsOrder x.loose) acts → (t : ℕ) → x.out.over t ≡ false → x.loose t ≡ false
    → IsKeptInOrder (done_all acts (parts a s.past)).streams t
still_in_order x acts {a} s orderly t within tight =
    order_stays x.loose acts (parts a s.past) t tight orderly (s.in_order t within tight)

-- and those that could be read can be, where the acts end no span
pub still_readable : (x : Surroundings) (acts : List Act) {a : Shown} (s : OpenAt x a) → CanAll acts (parts a s.past)
    → AllByRecursion EndsNoSpan acts → (t : ℕ) → x.coming.over t ≡ false
    → HasReadOpen (done_all acts (parts a s.past)).streams t
still_readable x acts {a} s can none t within =
    acts_keep_reads acts (parts a s.past) t can
    (all_weaker EndsNoSpan (λ (act : Act). EndsSpanOf act t → ⊥) acts (λ act ends_none. ends_none t) none)
    (s.reads_open t within)

-- An open association whose stage is kept stands open where acts lead, between directions that fit what they did.
pub open_on : (x : Surroundings) (acts : List Act) {a b : Shown} {out2 coming2 : Direction} (s : OpenAt x a)
    → LeadsOn x a s.past acts b out2 coming2 → OpenAt (moved x out2 coming2) b
open_on x acts {a} {b} {out2} {coming2} s m =
    let status : KeepsTheStage a b = m.same in
    let there : parts b m.past2 ≡ done_all acts (parts a s.past) = m.leads.there in
    let kept = acts_keep_the_initial_tsns acts (parts a s.past) m.nobody in
    record {
      past = m.past2;
      own_is = ap (λ (p : Parts). p.history.own) there ∙ kept.0 ∙ s.own_is;
      peer_is =
          λ known. ap (λ (p : Parts). p.history.peer) there ∙ kept.1 ∙ s.peer_is (known_before a b status known);
      binds = m.leads.binds;
      working = status.failed ∙ s.working;
      come = come_on a b status s.come;
      present = status.lost ∙ s.present;
      truthful = status.truthful x.own s.truthful;
      size = m.size ∙ s.size ∙ sym status.size;
      between = record {
        outgoing = subst (λ (p : Parts). FitsOutgoing (sending p) out2) (sym there) m.outgoing;
        incoming = subst (λ (p : Parts). FitsIncoming (receiving p) coming2) (sym there) m.incoming;
      };
      in_order =
          λ t within tight. subst (λ (p : Parts). IsKeptInOrder p.streams t) (sym there) (m.in_order t within tight);
      reads_open =
          λ t within. subst (λ (p : Parts). HasReadOpen p.streams t) (sym there) (m.reads_open t within);
      resets = m.resets;
    }

-- A closed association stays closed

-- Closed is a state in front of Established, and so no state of a shutdown is as far on as it.
pub closed_is_beginning : (s : AssociationState) → is_closed_state s ≡ true → is_beginning s ≡ true
closed_is_beginning states.Closed e = refl
closed_is_beginning states.CookieWait e = refl
closed_is_beginning states.CookieEchoed e = refl
closed_is_beginning states.Established e = absurd (false≢true e)
closed_is_beginning states.ShutdownAckSent e = absurd (false≢true e)
closed_is_beginning states.ShutdownPending e = absurd (false≢true e)
closed_is_beginning states.ShutdownReceived e = absurd (false≢true e)
closed_is_beginning states.ShutdownSent e = absurd (false≢true e)

pub closed_stays : (s t : AssociationState) → IsAsFarOn s t → is_closed_state s ≡ true → t ≡ s
closed_stays s t (inl same) e = same
closed_stays s t (inr (past, later)) e = absurd (false≢true (sym past ∙ closed_is_beginning s e))

-- A closed association whose stage is kept, whose streams hold nothing, and in which no reset is under way, stands
-- closed.
pub closed_on : {own : ℕ} {a b : Shown} {coming : Direction} → KeepsTheStage a b → HasNoReset b → HoldsNothing b
    → StandsClosed own a coming → StandsClosed own b coming
closed_on {own} {a} {b} status none empty s = record {
  closed = ap is_closed_state (closed_stays a.state b.state status.state s.closed) ∙ s.closed;
  unestablished = ap is_established (closed_stays a.state b.state status.state s.closed) ∙ s.unestablished;
  lost = status.lost ∙ s.lost;
  stopped = s.stopped;
  nothing_left = empty;
  truthful = status.truthful own s.truthful;
  no_reset = none;
}

-- a failed association does nothing that one that works does
pub by_working : {x : Surroundings} {a : Shown} (T : Type 0) → a.failed ≡ false → Faces x a → (OpenAt x a → T)
    → (ClosedAt x a → T) → T
by_working {x} {a} T working f opens closes = ⊎_elim
    opens
    (λ (r : ClosedAt x a ⊎ StandsFailed a x.coming). ⊎_elim
    closes
    (λ (s : StandsFailed a x.coming). absurd (true≢false (sym s.failed ∙ working)))
    r)
    f.stands

-- Calls that the directions do not see

-- where the streams are the same they hold nothing still
pub empty_still : (a b : Shown) → b.streams ≡ a.streams → HoldsNothing a → HoldsNothing b
empty_still a b e empty = subst (λ z. HoldsNothing (record b { streams = z })) (sym e) empty

-- Acts lead from a to b, whose stage is kept, and the directions fit what they did as they are.
pub record IsUnseen (x : Surroundings) (a : Shown) (acts : List Act) (b : Shown) : Type 0 where
  pub same : KeepsTheStage a b
  pub none : HasNoReset a → HasNoReset b
  pub past : ResetsNoMore a b
  pub empty : HoldsNothing a → HoldsNothing b
  pub leads : assoc.LeadsOn acts a b
  pub nobody : AllByRecursion IsNotPeerKnown acts
  pub orderly : AllByRecursion (KeepsOrder x.loose) acts
  pub ends_none : AllByRecursion EndsNoSpan acts
  pub outgoing : (h : History) → FitsOutgoing (sending (parts a h)) x.out
      → FitsOutgoing (sending (done_all acts (parts a h))) x.out
  pub incoming : (h : History) → FitsIncoming (receiving (parts a h)) x.coming
      → FitsIncoming (receiving (done_all acts (parts a h))) x.coming

-- it stands between the same directions then
pub unseen_stands : {x : Surroundings} {a b : Shown} (acts : List Act) → IsUnseen x a acts b → a.failed ≡ false
    → Faces x a → StandsAt x b
unseen_stands {x} {a} {b} acts u working f =
    by_working (StandsAt x b) working f
    (λ s. let m = u.leads s.past s.binds in
    inl (open_on x acts s record {
      past2 = m.0;
      leads = m.1;
      nobody = u.nobody;
      in_order = still_in_order x acts s u.orderly;
      reads_open = still_readable x acts s m.1.can u.ends_none;
      same = u.same;
      resets = u.past x.coming.over s.resets;
      size = refl;
      outgoing = u.outgoing s.past s.between.outgoing;
      incoming = u.incoming s.past s.between.incoming;
    }))
    (λ s. inr (inl (closed_on u.same (u.none s.no_reset) (u.empty s.nothing_left) s)))

pub unseen_settles : {x : Surroundings} {a b : Shown} (acts : List Act) → IsUnseen x a acts b → a.failed ≡ false
    → Faces x a → SettlesQuietly x b
unseen_settles {x} {a} {b} acts u working f =
    still f (at_same a b x.here u.same f.at) (unseen_stands acts u working f)

-- the same of a call without acts that leaves the streams as they are
pub stage_settles : {x : Surroundings} {a b : Shown} → KeepsTheStage a b × (b.streams ≡ a.streams)
    → (HasNoReset a → HasNoReset b) → ResetsNoMore a b → assoc.LeadsOn [] a b → a.failed ≡ false → Faces x a
    → SettlesQuietly x b
stage_settles {x} {a} {b} stays none past leads working f = unseen_settles [] record {
  same = stays.0;
  none = none;
  past = past;
  empty = empty_still a b stays.1;
  leads = leads;
  nobody = tt;
  orderly = tt;
  ends_none = tt;
  outgoing = λ h fits. fits;
  incoming = λ h fits. fits;
} working f

-- and of one that leaves the status, too
pub idle_settles : {x : Surroundings} {a b : Shown} → IsSameStatus a b × (b.streams ≡ a.streams)
    → (HasNoReset a → HasNoReset b) → ResetsNoMore a b → assoc.LeadsOn [] a b → a.failed ≡ false → Faces x a
    → SettlesQuietly x b
idle_settles {x} {a} {b} stays none past leads working f =
    stage_settles (the_same_status_is_the_same_stage a b stays.0, stays.1) none past leads working f

-- A stream is opened

module _ (x : Surroundings) (a : Shown) (id : ℕ) (kind : PayloadProtocolIdentifier) (f : Faces x a) where
  keeps_the_stage : KeepsTheStage a (opened a id kind)
  keeps_the_stage =
      the_same_status_is_the_same_stage a (opened a id kind) (opened_streams_keep_the_status a id kind)

  opened_open : IsNotLive a id → OpenAt x a → SettlesQuietly x (opened a id kind)
  opened_open none s =
      let first : ℕ = a.sender.queue.next_message_id in
      let m = open_leads_on a (opened a id kind) id kind refl s.past s.binds in
      let same = keeps_the_stage in
      let p : Parts = parts a s.past in
      let stands : OpenAt (record x { coming = happens x.coming (Event.Open id) }) (opened a id kind) =
      open_on x (Act.Opened id first kind ∷ []) s record {
        past2 = m.0;
        leads = m.1;
        nobody = (tt, tt);
        in_order =
            still_in_order x (Act.Opened id first kind ∷ []) s
            (orderly_acts_keep_order x.loose (Act.Opened id first kind) (λ t n. n), tt);
        reads_open =
            λ t within. still_readable x (Act.Opened id first kind ∷ []) s m.1.can ((λ z n. n), tt) t
            (sym (ap (λ (g : ℕ → Bool). g t) (receivers_events_are_received x.coming (Event.Open id) tt).over)
            ∙ within);
        same = same;
        resets =
            past_by_receiver x.coming (Event.Open id) tt
            (opened_streams_reset_no_more a id kind x.coming.over s.resets);
        size = refl;
        outgoing =
            opened_out p id first kind x.out none f.sound_out.invariant f.sound_out.counts s.between.outgoing;
        incoming = opened_streams_are_alike (receiving p) id first kind x.coming none s.between.incoming;
      } in
      settles_by_receiver (Event.Open id) f tt (λ n. n) (λ o n. n) (λ o n. n)
      (at_same a (opened a id kind) x.here same f.at)
      (inl stands)

  opened_settles : open_refusal a id ≡ None → SettlesQuietly x (opened a id kind)
  opened_settles e =
      let free = opened_streams_were_not_live a id e in
      let same = keeps_the_stage in
      by_working (SettlesQuietly x (opened a id kind)) free.0 f
      (λ s. opened_open free.1 s)
      (λ s. still f (at_same a (opened a id kind) x.here same f.at)
      (inr (inl (closed_on same (opened_streams_begin_no_reset a id kind s.no_reset)
      (opened_streams_hold_nothing a id kind free.1 s.nothing_left) s))))

-- A stream is opened at the application's trigger: where the association is closed, it stays empty.
pub opens_settle : {x : Surroundings} {a b : Shown} (id : ℕ) (kind : PayloadProtocolIdentifier) (r : Reply)
    → Opens a id kind r b → Faces x a → SettlesQuietly x b
opens_settle {x} {a} id kind replies.Done h f =
    subst (SettlesQuietly x) (sym h.1) (opened_settles x a id kind f h.0)
opens_settle id kind (replies.Refused n) h f = same_settles h.1 f
opens_settle id kind r h f = absurd h
