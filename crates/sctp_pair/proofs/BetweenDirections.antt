-- One association between its two directions, while the other one stands still: what each of its acts makes of them.
use Rattle.std.proofs.Common.{◌≡◌, refl, sym, ap, ◌∙◌, subst, ◌⊎◌, ⊎_elim, inl, inr, ℕ, Bool, true, false, List, []}
use Rattle.std.proofs.Common.{◌∷◌, ◌++◌}
use Rattle.std.proofs.Common.{Option, Some, None, arith, ◌≤◌}
use Rattle.std.specs.Prelude.{slice_get}
use Rattle.std.proofs.lemmas.List.{append-nil}
use Rattle.sctp_receive_queues.specs.Messages as letters
use Rattle.sctp_model.specs.Messages.{Message}
use Rattle.sctp_model.specs.Packets.{Data, Forward, Sack, mem}
use Rattle.sctp_model.specs.Machine.{Direction, Event, Receiver, Sender, happens, run}
use Rattle.sctp_model.specs.Invariants.{Invariant}
use Rattle.sctp_model.specs.Safe.{IsWithin}
use Rattle.sctp_fit.specs.Growth.{IsAtReceiver, IsAtSender}
use Rattle.sctp_fit.proofs.BegunCounts.{events_keep_the_count}
use Rattle.sctp_fit.proofs.OtherEnd.{receivers_events_leave_what_is_sent, senders_events_leave_what_comes}
use Rattle.sctp_directions.specs.Acts.{Act, CanAll, EndsSpanOf, HasReadOpen, IsKeptInOrder, Parts, SetsReliability}
use Rattle.sctp_directions.specs.Acts.{done, done_all, receiving, sending}
use Rattle.sctp_assoc.specs.Leads.{parts}
use Rattle.sctp_assoc.specs.Calls.{is_beginning}
use Rattle.sctp_sides.specs.Meeting.{IsNoEarlier, Stage}
use Rattle.sctp_sides.specs.PastSpan.{ResetsPastOnly}
use Rattle.sctp_sides.proofs.Proved.{more_are_past}
use Rattle.sctp_assoc.specs.Shown.{Shown}
use Rattle.sctp_directions.specs.Events.{AcceptsAMessage, Brings, BringsForward, GivesAMessage, IsOfReceiving}
use Rattle.sctp_directions.specs.Events.{IsOfSending}
use Rattle.sctp_reassembly.specs.Stands.{IsReadAs}
use Rattle.sctp_directions.specs.Between.{FitsBetween, IsSound}
use Rattle.sctp_directions.proofs.Proved.{only_forwards_pass_over, only_reads_give_messages}
use Rattle.sctp_directions.proofs.Proved.{only_what_is_brought_is_taken_in}
use Rattle.sctp_directions.proofs.Proved.{only_settings_loosen, only_writes_accept}
use Rattle.sctp_directions.proofs.Proved.{receivers_events_are_received, senders_events_are_sent}
use Rattle.sctp_pair.specs.Fits.{EndsInOrder, IsAt, IsSilent, StagesAgree, Stands, StandsClosed, StandsFailed}
use Rattle.sctp_pair.specs.Fits.{StandsOpen}

-- By what the reach of what came may go on: DATA on an offset, or a FORWARD TSN up to a reach.
pub data By : Type 0 where
  ByData : By
  ByForward : By

-- What stays and what grows of a direction by events that neither accept nor read: what they take in or pass over was
-- there, or was brought, and the spans stay.
pub record Goes (Brought : By → ℕ → Type 0) (w v : Direction) : Type 0 where
  pub events : List Event
  pub is : v ≡ run events w
  pub accepted : (s : ℕ) → v.sender.plan.accepted s ≡ w.sender.plan.accepted s
  pub size : v.sender.plan.size ≡ w.sender.plan.size
  pub reads : (s : ℕ) → v.reads s ≡ w.reads s
  pub taken : (o : ℕ) → mem o v.receiver.taken ≡ true → (mem o w.receiver.taken ≡ true) ⊎ Brought By.ByData o
  pub passed : (v.receiver.passed ≡ w.receiver.passed) ⊎ Brought By.ByForward v.receiver.passed
  pub datas : (k : ℕ) (d : Data) → slice_get w.datas k ≡ Some d → slice_get v.datas k ≡ Some d
  pub forwards : (k : ℕ) (f : Forward) → slice_get w.forwards k ≡ Some f → slice_get v.forwards k ≡ Some f
  pub sacks : (k : ℕ) (x : Sack) → slice_get w.sacks k ≡ Some x → slice_get v.sacks k ≡ Some x
  -- the same spans are over
  pub same_spans : (s : ℕ) → v.over s ≡ w.over s
  pub reach_on : w.sender.reach ≤ v.sender.reach

-- then no span begins anew
pub spans_of : {B : By → ℕ → Type 0} {w v : Direction} → Goes B w v → (s : ℕ) → v.over s ≡ false → w.over s ≡ false
spans_of g s within = sym (g.same_spans s) ∙ within

pub run_append : (es fs : List Event) (w : Direction) → run (es ++ fs) w ≡ run fs (run es w)
run_append [] fs w = refl
run_append (e ∷ es) fs w = run_append es fs (happens w e)

pub goes_nowhere : (B : By → ℕ → Type 0) (w : Direction) → Goes B w w
goes_nowhere B w = record {
  events = [];
  is = refl;
  accepted = λ s. refl;
  size = refl;
  reads = λ s. refl;
  taken = λ o m. inl m;
  passed = inl refl;
  datas = λ k d e. e;
  forwards = λ k f e. e;
  sacks = λ k x e. e;
  same_spans = λ s. refl;
  reach_on = omega arith;
}

-- what is passed over goes on
pub passes_on : (B : By → ℕ → Type 0) (p q r : ℕ) → (q ≡ p) ⊎ B By.ByForward q → (r ≡ q) ⊎ B By.ByForward r
    → (r ≡ p) ⊎ B By.ByForward r
passes_on B p q r before (inr b) = inr b
passes_on B p q r (inl e) (inl f) = inl (f ∙ e)
passes_on B p q r (inr b) (inl f) = inr (subst (B By.ByForward) (sym f) b)

pub goes_on : (B : By → ℕ → Type 0) (w v u : Direction) → Goes B w v → Goes B v u → Goes B w u
goes_on B w v u g h = record {
  events = g.events ++ h.events;
  is = h.is ∙ ap (run h.events) g.is ∙ sym (run_append g.events h.events w);
  accepted = λ s. h.accepted s ∙ g.accepted s;
  size = h.size ∙ g.size;
  reads = λ s. h.reads s ∙ g.reads s;
  taken =
      λ o m. ⊎_elim (λ (n : mem o v.receiver.taken ≡ true). g.taken o n) (λ (b : B By.ByData o). inr b) (h.taken o m);
  passed = passes_on B w.receiver.passed v.receiver.passed u.receiver.passed g.passed h.passed;
  datas = λ k d e. h.datas k d (g.datas k d e);
  forwards = λ k f e. h.forwards k f (g.forwards k f e);
  sacks = λ k x e. h.sacks k x (g.sacks k x e);
  same_spans = λ s. h.same_spans s ∙ g.same_spans s;
  reach_on = (let a = g.reach_on in let b = h.reach_on in omega arith);
}

-- one event at the sender that is no write
pub goes_by_sender : (B : By → ℕ → Type 0) (w : Direction) (e : Event) → IsOfSending e → (AcceptsAMessage e → ⊥)
    → Goes B w (happens w e)
goes_by_sender B w e at none =
    let sent = senders_events_are_sent w e at in
    record {
      events = e ∷ [];
      is = refl;
      accepted = λ s. ap (λ (f : ℕ → List Message). f s) (only_writes_accept w e at none);
      size = sent.0.size;
      reads = λ s. ap (λ f. f s) sent.0.reads;
      taken = λ o m. inl (subst (λ (r : Receiver). mem o r.taken ≡ true) sent.0.receiver m);
      passed = inl (ap (λ (r : Receiver). r.passed) sent.0.receiver);
      datas = sent.0.datas;
      forwards = sent.0.forwards;
      sacks = λ k x g. subst (λ (ks : List Sack). slice_get ks k ≡ Some x) (sym sent.0.sacks) g;
      same_spans = λ s. ap (λ (f : ℕ → Bool). f s) sent.0.over;
      reach_on = sent.1;
    }

-- one event at the receiver that is no read
pub goes_by_receiver : (B : By → ℕ → Type 0) (w : Direction) (e : Event) → IsOfReceiving e → (GivesAMessage e → ⊥)
    → ((o : ℕ) → Brings w e o → B By.ByData o) → ((n : ℕ) → BringsForward w e n → B By.ByForward n)
    → Goes B w (happens w e)
goes_by_receiver B w e at none brings passes =
    let received = receivers_events_are_received w e at in
    record {
      events = e ∷ [];
      is = refl;
      accepted = λ s. ap (λ (x : Sender). x.plan.accepted s) received.sender;
      size = ap (λ (x : Sender). x.plan.size) received.sender;
      reads = λ s. only_reads_give_messages w e s at none;
      taken =
          λ o m. ⊎_elim (λ (n : mem o w.receiver.taken ≡ true). inl n) (λ (b : Brings w e o). inr (brings o b))
          (only_what_is_brought_is_taken_in w e o at m);
      passed = ⊎_elim
          (λ (e : (happens w e).receiver.passed ≡ w.receiver.passed). inl e)
          (λ (b : BringsForward w e (happens w e).receiver.passed). inr (passes (happens w e).receiver.passed b))
          (only_forwards_pass_over w e at);
      datas = λ k d g. subst (λ (ds : List Data). slice_get ds k ≡ Some d) (sym received.datas) g;
      forwards = λ k f g. subst (λ (fs : List Forward). slice_get fs k ≡ Some f) (sym received.forwards) g;
      sacks = received.sacks;
      same_spans = λ s. ap (λ (f : ℕ → Bool). f s) received.over;
      reach_on = (let f = ap (λ (x : Sender). x.reach) received.sender in omega arith);
    }

-- What an association has around it: its own initial TSN and its peer's, the association that it faces, its own
-- direction and the one that comes to it, its own stage and the other one's, and the streams that are loose at either.
pub record Surroundings : Type 0 where
  pub own : ℕ
  pub peer : ℕ
  pub other : Shown
  pub out : Direction
  pub coming : Direction
  pub here : Stage
  pub there : Stage
  pub loose : ℕ → Bool
  pub loose_there : ℕ → Bool

-- the same where the directions moved on
abbrev pub moved : Surroundings → Direction → Direction → Surroundings
moved x out coming = record x { out = out; coming = coming }

-- an association stands there
abbrev pub StandsAt : Surroundings → Shown → Type 0
StandsAt x a = Stands x.loose x.own x.peer a x.out x.coming

-- it stands open there
abbrev pub OpenAt : Surroundings → Shown → Type 0
OpenAt x a = StandsOpen x.loose x.own x.peer a x.out x.coming

-- it stands closed there
abbrev pub ClosedAt : Surroundings → Shown → Type 0
ClosedAt x a = StandsClosed x.own a x.coming

-- the association that it faces stands between the same directions
abbrev pub OtherStands : Surroundings → Type 0
OtherStands x = Stands x.loose_there x.peer x.own x.other x.coming x.out

-- p is what the association's directions see of it
pub record Holds (x : Surroundings) (p : Parts) : Type 0 where
  pub own_is : p.history.own ≡ x.own
  pub sound_out : IsSound x.out
  pub sound_coming : IsSound x.coming
  pub between : FitsBetween p x.out x.coming
  pub in_order : (s : ℕ) → x.out.over s ≡ false → x.loose s ≡ false → IsKeptInOrder p.streams s
  pub reads_open : (s : ℕ) → x.coming.over s ≡ false → HasReadOpen p.streams s
  pub other : OtherStands x

-- an act sets the order or the reliability of no stream
abbrev pub IsOrderly : Act → Type 0
IsOrderly act = (s : ℕ) → SetsReliability act s → ⊥

-- an act leaves each stream that is not loose in order
abbrev pub KeepsOrder : (ℕ → Bool) → Act → Type 0
KeepsOrder loose act =
    (p : Parts) (s : ℕ) → loose s ≡ false → IsKeptInOrder p.streams s → IsKeptInOrder (done act p).streams s

pub orderly_acts_keep_order : (loose : ℕ → Bool) (act : Act) → IsOrderly act → KeepsOrder loose act
orderly_acts_keep_order loose act orderly p s tight h = only_settings_loosen act p s (orderly s) h

-- an act ends the span of no stream
abbrev pub EndsNoSpan : Act → Type 0
EndsNoSpan act = (s : ℕ) → EndsSpanOf act s → ⊥

-- of acts that can be done one after another the first ones can, and then those behind them
pub can_front : (xs ys : List Act) (p : Parts) → CanAll (xs ++ ys) p → CanAll xs p
can_front [] ys p c = tt
can_front (x ∷ xs) ys p (c, cs) = (c, can_front xs ys _ cs)

pub can_back : (xs ys : List Act) (p : Parts) → CanAll (xs ++ ys) p → CanAll ys (done_all xs p)
can_back [] ys p c = c
can_back (x ∷ xs) ys p (c, cs) = can_back xs ys _ cs

-- Nothing is brought.
abbrev pub None_brought : By → ℕ → Type 0
None_brought by o = ⊥

-- events by which associations send and receive so far are events at the sender and at the receiver
at_sender : (e : Event) → IsOfSending e → IsAtSender e
at_sender (Event.Write s m) at = tt
at_sender (Event.PassOver s) at = tt
at_sender (Event.Drop s i) at = tt
at_sender (Event.Begin s i any) at = tt
at_sender Event.GoOn at = tt
at_sender (Event.Resend o) at = tt
at_sender (Event.Abandon s i) at = tt
at_sender (Event.SackComes k) at = tt
at_sender Event.ForwardMade at = tt
at_sender e at = absurd at

at_receiver : (e : Event) → IsOfReceiving e → IsAtReceiver e
at_receiver (Event.DataComes k) at = tt
at_receiver Event.SackMade at = tt
at_receiver (Event.ForwardComes k) at = tt
at_receiver (Event.Open s) at = tt
at_receiver (Event.Read s) at = tt
at_receiver Event.Close at = tt
at_receiver e at = absurd at

-- a direction is sound after an event that keeps its invariant
pub sound_after : {w : Direction} (e : Event) → Invariant (happens w e) → IsSound w → IsSound (happens w e)
sound_after {w} e invariant sound = record {
  invariant = invariant;
  counts = events_keep_the_count w e sound.invariant sound.counts;
}

-- Spans may end on the way from one direction to the other, and none begins anew.
pub record SpansGoOn (w v : Direction) : Type 0 where
  pub over : (s : ℕ) → w.over s ≡ true → v.over s ≡ true
  pub within : (s : ℕ) → v.over s ≡ false → w.over s ≡ false

pub same_spans_go_on : (w v : Direction) → v.over ≡ w.over → SpansGoOn w v
same_spans_go_on w v e = record {
  over = λ s o. ap (λ (f : ℕ → Bool). f s) e ∙ o;
  within = λ s n. ap (λ (f : ℕ → Bool). f s) (sym e) ∙ n;
}

pub spans_stay_put : (w : Direction) → SpansGoOn w w
spans_stay_put w = same_spans_go_on w w refl

-- An open association stands so between other directions, too, that fit what it has, and where more streams may be
-- loose.
pub stands_between : {loose more : ℕ → Bool} {own peer : ℕ} {a : Shown} {out coming out2 coming2 : Direction}
    (s : StandsOpen loose own peer a out coming) → ((t : ℕ) → more t ≡ false → loose t ≡ false)
    → out2.sender.plan.size ≡ out.sender.plan.size → SpansGoOn out out2 → SpansGoOn coming coming2
    → FitsBetween (parts a s.past) out2 coming2 → StandsOpen more own peer a out2 coming2
stands_between {a = a} {coming = coming} {coming2 = coming2} s fewer size gone came between = record {
  past = s.past;
  own_is = s.own_is;
  peer_is = s.peer_is;
  binds = s.binds;
  working = s.working;
  come = s.come;
  present = s.present;
  truthful = s.truthful;
  size = size ∙ s.size;
  between = between;
  in_order = λ t within tight. s.in_order t (gone.within t within) (fewer t tight);
  reads_open = λ t within. s.reads_open t (came.within t within);
  resets = more_are_past coming.over coming2.over a came.over s.resets;
}

-- how the other association stands, where an event happened at this one's sender
pub other_by_sender : (x : Surroundings) (e : Event) → IsOfSending e → Invariant x.out → OtherStands x
    → OtherStands (record x { out = happens x.out e })
other_by_sender x e at invariant h =
    ⊎_elim
    (λ (s : StandsOpen x.loose_there x.peer x.own x.other x.coming x.out).
    inl (stands_between s (λ t tight. tight) refl (spans_stay_put x.coming)
    (same_spans_go_on x.out (happens x.out e) (senders_events_are_sent x.out e at).0.over) record {
      outgoing = s.between.outgoing;
      incoming =
          senders_events_leave_what_comes (receiving (parts x.other s.past)) x.out e (at_sender e at) invariant
          s.between.incoming;
    }))
    (λ (r : StandsClosed x.peer x.other x.out ⊎ StandsFailed x.other x.out).
    ⊎_elim
    (λ (s : StandsClosed x.peer x.other x.out). inr (inl record {
      closed = s.closed;
      unestablished = s.unestablished;
      lost = s.lost;
      stopped = same ∙ s.stopped;
      nothing_left = s.nothing_left;
      truthful = s.truthful;
      no_reset = s.no_reset;
    }))
    (λ (s : StandsFailed x.other x.out). inr (inr record { failed = s.failed; stopped = same ∙ s.stopped }))
    r)
    h
  where
    same : (happens x.out e).receiver.is_open ≡ x.out.receiver.is_open
    same = ap (λ (r : Receiver). r.is_open) (senders_events_are_sent x.out e at).0.receiver

-- and where one happened at this one's receiver
pub other_by_receiver : (x : Surroundings) (e : Event) → IsOfReceiving e → OtherStands x
    → OtherStands (record x { coming = happens x.coming e })
other_by_receiver x e at h =
    ⊎_elim
    (λ (s : StandsOpen x.loose_there x.peer x.own x.other x.coming x.out).
    inl (stands_between s (λ t tight. tight)
    (ap (λ (z : Sender). z.plan.size) (receivers_events_are_received x.coming e at).sender)
    (same_spans_go_on x.coming (happens x.coming e) (receivers_events_are_received x.coming e at).over)
    (spans_stay_put x.out) record {
      outgoing =
          receivers_events_leave_what_is_sent (sending (parts x.other s.past)) x.coming e (at_receiver e at)
          s.between.outgoing;
      incoming = s.between.incoming;
    }))
    (λ (r : StandsClosed x.peer x.other x.out ⊎ StandsFailed x.other x.out). inr r)
    h

-- What a call does to a direction: which spans it may end, what it accepts there, what it reads, and what may be taken
-- in.
pub record DoesEnding (Ended : ℕ → Type 0) (Added : ℕ → List Message) (Read : ℕ → Option letters.ReceivedMessage)
    (Brought : By → ℕ → Type 0) (w v : Direction) : Type 0 where
  pub events : List Event
  pub is : v ≡ run events w
  pub accepted : (s : ℕ) → v.sender.plan.accepted s ≡ w.sender.plan.accepted s ++ Added s
  pub size : v.sender.plan.size ≡ w.sender.plan.size
  pub reads : (s : ℕ) → IsReadAs (Read s) (w.reads s) (v.reads s)
  pub taken : (o : ℕ) → mem o v.receiver.taken ≡ true → (mem o w.receiver.taken ≡ true) ⊎ Brought By.ByData o
  pub passed : (v.receiver.passed ≡ w.receiver.passed) ⊎ Brought By.ByForward v.receiver.passed
  pub datas : (k : ℕ) (d : Data) → slice_get w.datas k ≡ Some d → slice_get v.datas k ≡ Some d
  pub forwards : (k : ℕ) (f : Forward) → slice_get w.forwards k ≡ Some f → slice_get v.forwards k ≡ Some f
  pub sacks : (k : ℕ) (x : Sack) → slice_get w.sacks k ≡ Some x → slice_get v.sacks k ≡ Some x
  pub spans : SpansGoOn w v
  pub ends : (s : ℕ) → v.over s ≡ true → (w.over s ≡ true) ⊎ Ended s
  pub reach_on : w.sender.reach ≤ v.sender.reach

-- none ends
abbrev pub None_ended : ℕ → Type 0
None_ended s = ⊥

abbrev pub Does : (ℕ → List Message) → (ℕ → Option letters.ReceivedMessage) → (By → ℕ → Type 0) → Direction → Direction
    → Type 0
Does Added Read Brought w v = DoesEnding None_ended Added Read Brought w v

-- where the spans are the same none ends
pub none_ends : (w v : Direction) → ((s : ℕ) → v.over s ≡ w.over s) → (s : ℕ) → v.over s ≡ true
    → (w.over s ≡ true) ⊎ None_ended s
none_ends w v same s o = inl (sym (same s) ∙ o)

abbrev pub nothing_added : ℕ → List Message
nothing_added s = []

abbrev pub nothing_read : ℕ → Option letters.ReceivedMessage
nothing_read s = None

pub does_by_goes : (B : By → ℕ → Type 0) (w v : Direction) → Goes B w v → Does nothing_added nothing_read B w v
does_by_goes B w v g = record {
  events = g.events;
  is = g.is;
  accepted = λ s. g.accepted s ∙ sym (append-nil (w.sender.plan.accepted s));
  size = g.size;
  reads = g.reads;
  taken = g.taken;
  passed = g.passed;
  datas = g.datas;
  forwards = g.forwards;
  sacks = g.sacks;
  spans = record { over = λ s o. g.same_spans s ∙ o; within = spans_of g };
  ends = none_ends w v g.same_spans;
  reach_on = g.reach_on;
}

-- One association's call leads from its surroundings to other directions and another stage, between which it stands
-- then; the other association stands there too. The same streams are past their span in both directions.
pub record SettlesEnding (Ended : ℕ → Type 0) (x : Surroundings) (b : Shown) (Added : ℕ → List Message)
    (Read : ℕ → Option letters.ReceivedMessage) (Brought : By → ℕ → Type 0) : Type 0 where
  pub out2 : Direction
  pub coming2 : Direction
  pub here2 : Stage
  pub does_out : DoesEnding Ended Added nothing_read None_brought x.out out2
  pub does_coming : DoesEnding Ended nothing_added Read Brought x.coming coming2
  pub both : (s : ℕ) → out2.over s ≡ coming2.over s
  pub sound_out : IsSound out2
  pub sound_coming : IsSound coming2
  pub stands : StandsAt (moved x out2 coming2) b
  pub other : OtherStands (moved x out2 coming2)
  pub goes : IsNoEarlier x.here here2
  pub at : IsAt b here2
  pub meets : StagesAgree here2 x.there
  -- no offset is assigned where the association is not past the handshake and open afterwards, and none of the other
  -- side's ever
  pub no_more : ((is_beginning b.state ≡ false) × OpenAt (moved x out2 coming2) b)
      ⊎ (out2.sender.plan.places ≡ x.out.sender.plan.places)
  pub coming_still : coming2.sender ≡ x.coming.sender

-- the same of a call that ends no span
abbrev pub Settles : Surroundings → Shown → (ℕ → List Message) → (ℕ → Option letters.ReceivedMessage)
    → (By → ℕ → Type 0) → Type 0
Settles x b Added Read Brought = SettlesEnding None_ended x b Added Read Brought

-- and of one that accepts nothing, reads nothing and brings nothing
abbrev pub SettlesQuietly : Surroundings → Shown → Type 0
SettlesQuietly x b = Settles x b nothing_added nothing_read None_brought

-- Two associations between the same two directions, before a call of the first one.
pub record Faces (x : Surroundings) (a : Shown) : Type 0 where
  pub within_out : IsWithin x.out
  pub within_coming : IsWithin x.coming
  pub sound_out : IsSound x.out
  pub sound_coming : IsSound x.coming
  pub both : (s : ℕ) → x.out.over s ≡ x.coming.over s
  pub stands : StandsAt x a
  pub other : OtherStands x
  pub at : IsAt a x.here
  pub meets : StagesAgree x.here x.there
  pub silent : IsSilent x.there x.coming
  pub ends : EndsInOrder a
