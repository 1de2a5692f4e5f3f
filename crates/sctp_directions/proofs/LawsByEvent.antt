-- What each event of a direction between associations leaves, and what it keeps.
use Rattle.std.proofs.Common.{◌≡◌, ◌⊎◌, refl, sym, ap, ◌∙◌, subst, ⊎_elim, inl, inr, ℕ, zero, suc, ◌≤◌}
use Rattle.std.proofs.Common.{arith, Bool, true, false, eqb, if◌then◌else◌, length, List, [], ◌∷◌, ◌++◌, Option, Some}
use Rattle.std.proofs.Common.{None}
use Rattle.std.specs.Prelude.{◌==◌, slice_get}
use Rattle.std.proofs.lemmas.Bool.{cases_eq, cond-false, cond-true, eq-eqb, ne_eqb, true≢false}
use Rattle.std.proofs.lemmas.List.{append-nil, length-append}
use Rattle.sctp_model.specs.Messages.{Message}
use Rattle.sctp_model.specs.Packets.{Data, Forward, mem}
use Rattle.sctp_model.specs.Machine.{Direction, Event, Sender, acknowledged_by, forward_of, happens, put}
use Rattle.sctp_model.specs.Invariants.{Invariant}
use Rattle.sctp_model.specs.Safe.{IsWithin}
use Rattle.sctp_model.proofs.PlansGrow.{at_put, off_put}
use Rattle.sctp_model.proofs.SenderEvents.{keeps_drop, keeps_pass_over}
use Rattle.sctp_model.proofs.OffsetsAssigned.{keeps_go_on}
use Rattle.sctp_model.proofs.EventsKeepInvariant.{abandon_event_keeps, begin_event_keeps, forward_made_event_keeps}
use Rattle.sctp_model.proofs.EventsKeepInvariant.{resend_event_keeps, sack_event_keeps, write_event_keeps}
use Rattle.sctp_fit.specs.Writes.{message_on}
use Rattle.sctp_fit.proofs.MessagesAccepted.{happens_write, kept_as_written}
use Rattle.sctp_directions.specs.Events.{AcceptsAMessage, Assigns, Brings, BringsForward, GivesAMessage}
use Rattle.sctp_directions.specs.Events.{IsForwardWithin, IsOfReceiving, IsOfSending, IsReceived, IsSentOn}
use Rattle.sctp_directions.specs.Events.{MakesAForward}
use Rattle.sctp_directions.specs.Laws.{AbandonmentsAssignOneOffset, ClosedReceiversAreNotOpen, EventsKeepTheLimits}
use Rattle.sctp_directions.specs.Laws.{FreshDirectionsAreWithin, OnlyBeginningsAssign, OnlyForwardMadeGivesForwards}
use Rattle.sctp_directions.specs.Laws.{OnlyForwardsPassOver, OnlyReadsGiveMessages, OnlyWhatIsBroughtIsTakenIn}
use Rattle.sctp_directions.specs.Laws.{OnlyWritesAccept, ReceiversEventsAreReceived}
use Rattle.sctp_directions.specs.Laws.{SendersEventsAreSent, SendersEventsKeepTheInvariant, WritesAreAcceptedLast}
use Rattle.sctp_directions.proofs.ReceiverCases.{close_passes, close_received, close_takes, closed, data_cases}
use Rattle.sctp_directions.proofs.ReceiverCases.{data_passes, data_received, data_takes, forward_cases, forward_passes}
use Rattle.sctp_directions.proofs.ReceiverCases.{forward_received, forward_takes, open_passes, open_received}
use Rattle.sctp_directions.proofs.ReceiverCases.{open_takes, read_passes, read_received, read_takes, sack_passes}
use Rattle.sctp_directions.proofs.ReceiverCases.{sack_received, sack_takes, within_close, within_data, within_drop}
use Rattle.sctp_directions.proofs.ReceiverCases.{within_forward, within_forward_made, within_open, within_sack}
use Rattle.sctp_directions.proofs.ReceiverCases.{within_sack_comes}
use Rattle.sctp_directions.proofs.SenderCases.{abandon_cases, begin_cases, drop_cases, forward_made_cases, go_on_cases}
use Rattle.sctp_directions.proofs.SenderCases.{pass_over_cases, resend_cases, sack_cases, write_cases}

-- Which events there are

-- a proof for each event of the sender
record BySender (P : Event → Type 0) : Type 0 where
  writes : (s : ℕ) (m : Message) → P (Event.Write s m)
  passes : (s : ℕ) → P (Event.PassOver s)
  drops : (s i : ℕ) → P (Event.Drop s i)
  begins : (s i any : ℕ) → P (Event.Begin s i any)
  goes_on : P Event.GoOn
  resends : (o : ℕ) → P (Event.Resend o)
  abandons : (s i : ℕ) → P (Event.Abandon s i)
  sacks : (k : ℕ) → P (Event.SackComes k)
  forwards : P Event.ForwardMade

by_sender : (P : Event → Type 0) → BySender P → (e : Event) → IsOfSending e → P e
by_sender P each (Event.Write s m) h = each.writes s m
by_sender P each (Event.PassOver s) h = each.passes s
by_sender P each (Event.Drop s i) h = each.drops s i
by_sender P each (Event.Begin s i any) h = each.begins s i any
by_sender P each Event.GoOn h = each.goes_on
by_sender P each (Event.Resend o) h = each.resends o
by_sender P each (Event.Abandon s i) h = each.abandons s i
by_sender P each (Event.SackComes k) h = each.sacks k
by_sender P each Event.ForwardMade h = each.forwards
by_sender P each (Event.DataComes k) h = absurd h
by_sender P each Event.SackMade h = absurd h
by_sender P each (Event.ForwardComes k) h = absurd h
by_sender P each (Event.Open s) h = absurd h
by_sender P each (Event.Read s) h = absurd h
by_sender P each Event.Close h = absurd h
by_sender P each (Event.End s) h = absurd h
by_sender P each (Event.Restart s) h = absurd h
by_sender P each (Event.Replace s q) h = absurd h

-- a proof for each event of the receiver
record ByReceiver (P : Event → Type 0) : Type 0 where
  comes : (k : ℕ) → P (Event.DataComes k)
  made : P Event.SackMade
  forwards : (k : ℕ) → P (Event.ForwardComes k)
  opens : (s : ℕ) → P (Event.Open s)
  reads : (s : ℕ) → P (Event.Read s)
  closes : P Event.Close

by_receiver : (P : Event → Type 0) → ByReceiver P → (e : Event) → IsOfReceiving e → P e
by_receiver P each (Event.Write s m) h = absurd h
by_receiver P each (Event.PassOver s) h = absurd h
by_receiver P each (Event.Drop s i) h = absurd h
by_receiver P each (Event.Begin s i any) h = absurd h
by_receiver P each Event.GoOn h = absurd h
by_receiver P each (Event.Resend o) h = absurd h
by_receiver P each (Event.Abandon s i) h = absurd h
by_receiver P each (Event.SackComes k) h = absurd h
by_receiver P each Event.ForwardMade h = absurd h
by_receiver P each (Event.DataComes k) h = each.comes k
by_receiver P each Event.SackMade h = each.made
by_receiver P each (Event.ForwardComes k) h = each.forwards k
by_receiver P each (Event.Open s) h = each.opens s
by_receiver P each (Event.Read s) h = each.reads s
by_receiver P each Event.Close h = each.closes
by_receiver P each (Event.End s) h = absurd h
by_receiver P each (Event.Restart s) h = absurd h
by_receiver P each (Event.Replace s q) h = absurd h

-- The sender's events

-- what an event of the sender leaves, and that the acknowledged reach never moves back
abbrev IsSentFrom : Direction → Direction → Type 0
IsSentFrom w v = IsSentOn w v × (w.sender.reach ≤ v.sender.reach)

-- an event that changes the sender, and after which the DATA given out before stands where it stood
sent_on : (w : Direction) (x : Sender) (datas : List Data) → x.plan.size ≡ w.sender.plan.size
    → w.sender.reach ≤ x.reach
    → ((k : ℕ) (d : Data) → slice_get w.datas k ≡ Some d → slice_get datas k ≡ Some d)
    → IsSentFrom w (record w { sender = x; datas = datas })
sent_on w x datas size on kept = (
  record {
    datas = kept;
    forwards = λ k f e. e;
    sacks = refl;
    receiver = refl;
    reads = refl;
    over = refl;
    size = size;
  },
  on,
)

-- an event that gives out no DATA
sent_same : (w : Direction) (x : Sender) → x.plan.size ≡ w.sender.plan.size → w.sender.reach ≤ x.reach
    → IsSentFrom w (record w { sender = x })
sent_same w x size on = sent_on w x w.datas size on (λ k d e. e)

-- what stands in a list stays where it is, where one more stands behind it
got_before : {X : Type 0} (xs : List X) (y : X) (k : ℕ) (x : X) → slice_get xs k ≡ Some x
    → slice_get (xs ++ y ∷ []) k ≡ Some x
got_before [] y k x e = absurd (cc)
got_before (z ∷ xs) y zero x e = e
got_before (z ∷ xs) y (suc k) x e = got_before xs y k x e

-- an event that gives out DATA, behind all that was given out
sent_more : (w : Direction) (x : Sender) (d : Data) → x.plan.size ≡ w.sender.plan.size → w.sender.reach ≤ x.reach
    → IsSentFrom w (record w { sender = x; datas = w.datas ++ d ∷ [] })
sent_more w x d size on = sent_on w x (w.datas ++ d ∷ []) size on (λ k c e. got_before w.datas d k c e)

-- an event that makes a FORWARD TSN, behind all that were made
sent_forward : (w : Direction) (f : Forward) → IsSentFrom w (record w { forwards = w.forwards ++ f ∷ [] })
sent_forward w f = (
  record {
    datas = λ k d e. e;
    forwards = λ k g e. got_before w.forwards f k g e;
    sacks = refl;
    receiver = refl;
    reads = refl;
    over = refl;
    size = refl;
  },
  omega arith,
)

-- an event that can't happen where it stands
sent_nothing : (w : Direction) → IsSentFrom w w
sent_nothing w = sent_same w w.sender refl (omega arith)

pub senders_events_are_sent : SendersEventsAreSent
senders_events_are_sent w e at =
    by_sender (λ (x : Event). IsSentFrom w (happens w x))
    (record {
      writes = λ s m. write_cases (IsSentFrom w) w s m (sent_nothing w) (sent_same w _ refl (omega arith));
      passes = λ s. pass_over_cases (IsSentFrom w) w s (sent_nothing w) (λ b. sent_same w _ refl (omega arith));
      drops = λ s i. drop_cases (IsSentFrom w) w s i (sent_nothing w) (λ b. sent_same w _ refl (omega arith));
      begins = λ s i any. begin_cases (IsSentFrom w) w s i any (sent_nothing w)
          (λ n f g. sent_more w _ _ refl (omega arith));
      goes_on = go_on_cases (IsSentFrom w) w (sent_nothing w) (λ y b. sent_more w _ _ refl (omega arith));
      resends = λ o. resend_cases (IsSentFrom w) w o (sent_nothing w) (sent_more w w.sender _ refl (omega arith));
      abandons = λ s i. abandon_cases (IsSentFrom w) w s i (sent_nothing w) (sent_same w _ refl (omega arith))
          (λ y. sent_same w _ refl (omega arith));
      sacks = λ k. sack_cases (IsSentFrom w) w k (sent_nothing w)
          (λ x b l. sent_same w (acknowledged_by w.sender x) refl l);
      forwards = forward_made_cases (IsSentFrom w) w (sent_nothing w) (sent_forward w (forward_of w.sender w.over));
    }) e at

pub only_writes_accept : OnlyWritesAccept
only_writes_accept w e at none =
    by_sender (λ (x : Event). (AcceptsAMessage x → ⊥) → P (happens w x))
    (record {
      writes = λ s m n. absurd (n tt);
      passes = λ s n. pass_over_cases P w s refl (λ b. refl);
      drops = λ s i n. drop_cases P w s i refl (λ b. refl);
      begins = λ s i any n. begin_cases P w s i any refl (λ m f g. refl);
      goes_on = λ n. go_on_cases P w refl (λ y b. refl);
      resends = λ o n. resend_cases P w o refl refl;
      abandons = λ s i n. abandon_cases P w s i refl refl (λ y. refl);
      sacks = λ k n. sack_cases P w k refl (λ x b l. refl);
      forwards = λ n. forward_made_cases P w refl refl;
    }) e at none
  where
    P : Direction → Type 0
    P v = v.sender.plan.accepted ≡ w.sender.plan.accepted

pub only_beginnings_assign : OnlyBeginningsAssign
only_beginnings_assign w e at none =
    by_sender (λ (x : Event). (Assigns x → ⊥) → P (happens w x))
    (record {
      writes = λ s m n. write_cases P w s m refl refl;
      passes = λ s n. pass_over_cases P w s refl (λ b. refl);
      drops = λ s i n. drop_cases P w s i refl (λ b. refl);
      begins = λ s i any n. absurd (n tt);
      goes_on = λ n. absurd (n tt);
      resends = λ o n. resend_cases P w o refl refl;
      abandons = λ s i n. absurd (n tt);
      sacks = λ k n. sack_cases P w k refl (λ x b l. refl);
      forwards = λ n. forward_made_cases P w refl refl;
    }) e at none
  where
    P : Direction → Type 0
    P v = v.sender.plan.places ≡ w.sender.plan.places

-- the rest of an abandoned message gets one offset
pub abandonments_assign_one_offset : AbandonmentsAssignOneOffset
abandonments_assign_one_offset w s i =
    abandon_cases (λ (v : Direction). length v.sender.plan.places ≤ suc (length w.sender.plan.places)) w s i
    (omega arith) (omega arith)
    (λ y. let more = length-append w.sender.plan.places (record y { marker = true } ∷ []) in omega (arith, more))

pub only_forward_made_gives_forwards : OnlyForwardMadeGivesForwards
only_forward_made_gives_forwards w e at none =
    by_sender (λ (x : Event). (MakesAForward x → ⊥) → P (happens w x))
    (record {
      writes = λ s m n. write_cases P w s m refl refl;
      passes = λ s n. pass_over_cases P w s refl (λ b. refl);
      drops = λ s i n. drop_cases P w s i refl (λ b. refl);
      begins = λ s i any n. begin_cases P w s i any refl (λ m f g. refl);
      goes_on = λ n. go_on_cases P w refl (λ y b. refl);
      resends = λ o n. resend_cases P w o refl refl;
      abandons = λ s i n. abandon_cases P w s i refl refl (λ y. refl);
      sacks = λ k n. sack_cases P w k refl (λ x b l. refl);
      forwards = λ n. absurd (n tt);
    }) e at none
  where
    P : Direction → Type 0
    P v = v.forwards ≡ w.forwards

pub senders_events_keep_the_invariant : SendersEventsKeepTheInvariant
senders_events_keep_the_invariant w e at few h =
    by_sender (λ (x : Event). IsForwardWithin w x → Invariant (happens w x))
    (record {
      writes = λ s m f. write_event_keeps w s m h;
      passes = λ s f. pass_over_cases Invariant w s h (λ b. keeps_pass_over w s b h);
      drops = λ s i f. drop_cases Invariant w s i h (λ b. keeps_drop w s i b h);
      begins = λ s i any f. begin_event_keeps w s i any h;
      goes_on = λ f. go_on_cases Invariant w h (λ y b. keeps_go_on w y b h);
      resends = λ o f. resend_event_keeps w o h;
      abandons = λ s i f. abandon_event_keeps w s i h;
      sacks = λ k f. sack_event_keeps w k h;
      forwards = λ f. forward_made_event_keeps w f h;
    }) e at few

-- Writes

-- one message more on stream s, seen from stream t
accepted_more : (f : ℕ → List Message) (s t : ℕ) (m : Message)
    → put f s (f s ++ m ∷ []) t ≡ f t ++ (if s == t then m ∷ [] else [])
accepted_more f s t m = ⊎_elim
    (λ (b : s ≡ t). at_put f s t (f s ++ m ∷ []) (sym b) ∙ ap (λ z. f z ++ m ∷ []) b
    ∙ ap (λ z. f t ++ z) (sym (cond-true (eqb s t) (m ∷ []) [] (eq-eqb s t b))))
    (λ (ne : s ≡ t → ⊥). off_put f s t (f s ++ m ∷ []) (λ c. ne (sym c)) ∙ sym (append-nil (f t))
    ∙ ap (λ z. f t ++ z) (sym (cond-false (eqb s t) (m ∷ []) [] (ne_eqb s t ne))))
    (cases_eq s t)

pub writes_are_accepted_last : WritesAreAcceptedLast
writes_are_accepted_last w s u t kind bytes some =
    ap (λ (v : Direction). v.sender.plan.accepted u)
    (happens_write w s (message_on t kind bytes) some (kept_as_written t kind bytes))
    ∙ accepted_more w.sender.plan.accepted s u (message_on t kind bytes)

-- The receiver's events

pub receivers_events_are_received : ReceiversEventsAreReceived
receivers_events_are_received w e at =
    by_receiver (λ (x : Event). IsReceived w (happens w x))
    (record {
      comes = data_received w;
      made = sack_received w;
      forwards = forward_received w;
      opens = open_received w;
      reads = read_received w;
      closes = close_received w;
    }) e at

data_brings : (w : Direction) (k o : ℕ) → mem o (happens w (Event.DataComes k)).receiver.taken ≡ true
    → (mem o w.receiver.taken ≡ true) ⊎ Brings w (Event.DataComes k) o
data_brings w k o = go (slice_get w.datas k) refl
  where
    go : (x : Option Data) → slice_get w.datas k ≡ x → mem o (happens w (Event.DataComes k)).receiver.taken ≡ true
        → (mem o w.receiver.taken ≡ true) ⊎ Brings w (Event.DataComes k) o
    go None e m =
        inl (data_cases (λ v. mem o v.receiver.taken ≡ true → mem o w.receiver.taken ≡ true) w k (λ n. n)
        (λ d f. absurd (none_some d (sym e ∙ f))) m)
      where
        none_some : (d : Data) → None ≡ Some d → ⊥
        none_some d f = cc
    go (Some d) e m =
        ⊎_elim (λ (a : mem o w.receiver.taken ≡ true). inl a) (λ (a : o ≡ d.offset). inr (d, e, a))
        (data_takes w k d o e m)

pub only_what_is_brought_is_taken_in : OnlyWhatIsBroughtIsTakenIn
only_what_is_brought_is_taken_in w e o at =
    by_receiver (λ (x : Event). mem o (happens w x).receiver.taken ≡ true
    → (mem o w.receiver.taken ≡ true) ⊎ Brings w x o)
    (record {
      comes = λ k m. data_brings w k o m;
      made = λ m. inl (subst (λ z. mem o z ≡ true) (sack_takes w) m);
      forwards = λ k m. inl (subst (λ z. mem o z ≡ true) (forward_takes w k) m);
      opens = λ s m. inl (subst (λ z. mem o z ≡ true) (open_takes w s) m);
      reads = λ s m. inl (subst (λ z. mem o z ≡ true) (read_takes w s) m);
      closes = λ m. inl (subst (λ z. mem o z ≡ true) (close_takes w) m);
    }) e at

pub only_forwards_pass_over : OnlyForwardsPassOver
only_forwards_pass_over w e at =
    by_receiver (λ (x : Event). ((happens w x).receiver.passed ≡ w.receiver.passed)
    ⊎ BringsForward w x (happens w x).receiver.passed)
    (record {
      comes = λ k. inl (data_passes w k);
      made = inl (sack_passes w);
      forwards = forward_passes w;
      opens = λ s. inl (open_passes w s);
      reads = λ s. inl (read_passes w s);
      closes = inl (close_passes w);
    }) e at

reads_made : (w : Direction) (s : ℕ) → (happens w Event.SackMade).reads s ≡ w.reads s
unfolding happens
reads_made w s = refl

reads_opened : (w : Direction) (id s : ℕ) → (happens w (Event.Open id)).reads s ≡ w.reads s
unfolding happens
reads_opened w id s = refl

reads_closed : (w : Direction) (s : ℕ) → (happens w Event.Close).reads s ≡ w.reads s
unfolding happens
reads_closed w s = refl

pub only_reads_give_messages : OnlyReadsGiveMessages
only_reads_give_messages w e s at none =
    by_receiver (λ (x : Event). (GivesAMessage x → ⊥) → (happens w x).reads s ≡ w.reads s)
    (record {
      comes = λ k n. data_cases (λ v. v.reads s ≡ w.reads s) w k refl (λ d f. refl);
      made = λ n. reads_made w s;
      forwards = λ k n. forward_cases (λ v. v.reads s ≡ w.reads s) w k refl (λ f g. refl);
      opens = λ id n. reads_opened w id s;
      reads = λ id n. absurd (n tt);
      closes = λ n. reads_closed w s;
    }) e at none

pub closed_receivers_are_not_open : ClosedReceiversAreNotOpen
closed_receivers_are_not_open = closed

-- What is kept

-- the limits are those of streams within their span, and the end of a span leaves all else
within_end : (w : Direction) (s : ℕ) → IsWithin w → IsWithin (happens w (Event.End s))
unfolding happens
within_end w s h = record {
  offsets = h.offsets;
  flight = h.flight;
  unread = λ t v. h.unread t (not_ended (t == s) (w.over t) v);
}
  where
    not_ended : (ends before : Bool) → (if ends then true else before) ≡ false → before ≡ false
    not_ended true before e = absurd (true≢false e)
    not_ended false before e = e

pub events_keep_the_limits : EventsKeepTheLimits
events_keep_the_limits w (Event.Write s m) e h = absurd e
events_keep_the_limits w (Event.PassOver s) e h = absurd e
events_keep_the_limits w (Event.Drop s i) e h = within_drop w s i h
events_keep_the_limits w (Event.Begin s i any) e h = absurd e
events_keep_the_limits w Event.GoOn e h = absurd e
events_keep_the_limits w (Event.Resend o) e h = absurd e
events_keep_the_limits w (Event.Abandon s i) e h = absurd e
events_keep_the_limits w (Event.SackComes k) e h = within_sack_comes w k h
events_keep_the_limits w Event.ForwardMade e h = within_forward_made w h
events_keep_the_limits w (Event.DataComes k) e h = within_data w k h
events_keep_the_limits w Event.SackMade e h = within_sack w h
events_keep_the_limits w (Event.ForwardComes k) e h = within_forward w k h
events_keep_the_limits w (Event.Open s) e h = within_open w s h
events_keep_the_limits w (Event.Read s) e h = absurd e
events_keep_the_limits w Event.Close e h = within_close w h
events_keep_the_limits w (Event.End s) e h = within_end w s h
events_keep_the_limits w (Event.Restart s) e h = absurd e
events_keep_the_limits w (Event.Replace s q) e h = absurd e

-- Nothing happened yet.
pub fresh_directions_are_within : FreshDirectionsAreWithin
fresh_directions_are_within size =
    record { offsets = omega arith; flight = omega arith; unread = λ s v. omega arith }
