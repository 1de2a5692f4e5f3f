-- A stop of a stream: its span ends in both directions, and both associations stand between these.
use Rattle.std.proofs.Common.{◌≡◌, refl, sym, ap, ◌∙◌, subst, ◌⊎◌, ⊎_elim, inl, inr, ℕ, Bool, true, false, eqb, ◌==◌}
use Rattle.std.proofs.Common.{if◌then◌else◌, List, [], ◌∷◌, ◌++◌, Option, Some, None, is_some, arith}
use Rattle.std.proofs.lemmas.Bool.{cases_Bool, eq-eqb, eqb-true, false≢true, true≢false}
use Rattle.std.proofs.lemmas.List.{append-nil}
use Rattle.sctp_wire_types.specs.declared.error.Error.{Error}
use Rattle.sctp_wire_types.specs.declared.error.Error.TheVariants as errors
use Rattle.sctp_model.specs.Machine.{Direction, Event, Receiver, happens}
use Rattle.sctp_model.proofs.Proved.{each_event_keeps_the_invariant}
use Rattle.sctp_model.proofs.ReceiverEvents.{keeps_close}
use Rattle.sctp_directions.specs.Acts.{Act, IsKeptInOrder, Parts, done_all}
use Rattle.sctp_directions.specs.Between.{IsSound}
use Rattle.sctp_directions.proofs.Proved.{closed_receivers_are_not_open, its_spans_end, receivers_events_are_received}
use Rattle.sctp_directions.proofs.Proved.{spans_of_what_comes_end}
use Rattle.sctp_assoc.specs.Leads.{parts}
use Rattle.sctp_assoc.specs.Calls.{credit_in, holds_of, is_established, stop_refusal, stop_refusal_at, stopped}
use Rattle.sctp_assoc.specs.Calls.{stopped_open, stream_refusal}
use Rattle.sctp_assoc.specs.Closing.{exhausted, is_closed_state}
use Rattle.sctp_assoc.specs.Shown.{Shown}
use Rattle.sctp_streams.specs.Stream.{is_read_half_open}
use Rattle.sctp_streams.specs.Streams.{stream_at}
use Rattle.sctp_sides.specs.Meeting.{IsTruthful}
use Rattle.sctp_sides.specs.NoReset.{HasNoReset}
use Rattle.sctp_sides.specs.SideLaws.{IsOver}
use Rattle.sctp_sides.proofs.Proved.{exhaustion_closes, exhaustion_ends_resets, exhaustion_resets_no_more}
use Rattle.sctp_sides.proofs.Proved.{more_are_past}
use Rattle.sctp_sides.proofs.Proved.{open_stops_reset_that_stream, stops_are_in_established, stops_keep_the_status}
use Rattle.sctp_sides.proofs.Proved.{the_same_status_is_the_same_stage}
use Rattle.sctp_assoc.specs.declared.call.Reply.{Reply}
use Rattle.sctp_assoc.specs.declared.call.Reply.TheVariants as replies
use Rattle.sctp_pair.specs.Fits.{IsAt, StandsClosed, StandsFailed, StandsOpen}
use Rattle.sctp_assoc.specs.Replies.{Stops}
use Rattle.sctp_pair.proofs.BetweenDirections.{By, ClosedAt, DoesEnding, Faces, Goes, None_brought, None_ended, OpenAt}
use Rattle.sctp_pair.proofs.BetweenDirections.{OtherStands, SettlesEnding, SettlesQuietly, SpansGoOn, StandsAt}
use Rattle.sctp_pair.proofs.BetweenDirections.{Surroundings, goes_by_receiver, moved, nothing_added, nothing_read}
use Rattle.sctp_pair.proofs.BetweenDirections.{other_by_receiver, sound_after, stands_between}
use Rattle.sctp_pair.proofs.QuietCalls.{by_working, fails_settle, nothing_settles, open_on, same_settles}
use Rattle.sctp_pair.proofs.ReadCall.{at_exhausted, does_on}
use Rattle.sctp_pair.proofs.WindowTold.{stopped_so, telling_settles}
use Rattle.sctp_pair.proofs.WriteCall.{first_none}
use Rattle.sctp_pair.proofs.HandshakeStages.{at_same, stays_put}

-- A call that ends no span is one that may end some.
pub quietly : {Ended : ℕ → Type 0} {x : Surroundings} {b : Shown} → SettlesQuietly x b
    → SettlesEnding Ended x b nothing_added nothing_read None_brought
quietly {Ended} {x} s = record {
  out2 = s.out2;
  coming2 = s.coming2;
  here2 = s.here2;
  does_out = does_quietly s.does_out;
  does_coming = does_quietly s.does_coming;
  both = s.both;
  sound_out = s.sound_out;
  sound_coming = s.sound_coming;
  stands = s.stands;
  other = s.other;
  goes = s.goes;
  at = s.at;
  meets = s.meets;
  no_more = s.no_more;
  coming_still = s.coming_still;
}
  where
    does_quietly : {w v : Direction} → DoesEnding None_ended nothing_added nothing_read None_brought w v
        → DoesEnding Ended nothing_added nothing_read None_brought w v
    does_quietly {w} {v} d = record {
      events = d.events;
      is = d.is;
      accepted = d.accepted;
      size = d.size;
      reads = d.reads;
      taken = d.taken;
      passed = d.passed;
      datas = d.datas;
      forwards = d.forwards;
      sacks = d.sacks;
      spans = d.spans;
      ends = λ s o. ⊎_elim (λ (before : w.over s ≡ true). inl before) (λ (n : None_ended s). absurd n) (d.ends s o);
      reach_on = d.reach_on;
    }

-- The span of one stream ends

-- this stream
abbrev pub That : ℕ → ℕ → Type 0
That id s = (id == s) ≡ true

-- a stream is past its span then where it was, or is that one
over_then : (b before : Bool) → before ≡ true → (if b then true else before) ≡ true
over_then true before o = refl
over_then false before o = o

within_before : (b before : Bool) → (if b then true else before) ≡ false → before ≡ false
within_before true before n = absurd (true≢false n)
within_before false before n = n

over_before : (b before : Bool) → (if b then true else before) ≡ true → (before ≡ true) ⊎ (b ≡ true)
over_before true before o = inr refl
over_before false before o = inl o

turned_about : (s id : ℕ) → (s == id) ≡ true → (id == s) ≡ true
turned_about s id e = eq-eqb id s (sym (eqb-true s id e))

abbrev ended : Direction → ℕ → Direction
ended w id = happens w (Event.End id)

spans_then : (w : Direction) (id : ℕ) → SpansGoOn w (ended w id)
unfolding happens
spans_then w id = record {
  over = λ s o. over_then (s == id) (w.over s) o;
  within = λ s n. within_before (s == id) (w.over s) n;
}

over_itself : (w : Direction) (id : ℕ) → (ended w id).over id ≡ true
unfolding happens
over_itself w id = ap (λ (b : Bool). if b then true else w.over id) (eq-eqb id id refl)

-- within its span a stream is another one then
another_then : (w : Direction) (id s : ℕ) → (ended w id).over s ≡ false → (s == id) ≡ false
unfolding happens
another_then w id s n = by (s == id) n
  where
    by : (b : Bool) → (if b then true else w.over s) ≡ false → b ≡ false
    by true n = absurd (true≢false n)
    by false n = refl

same_ends : (w v : Direction) (id : ℕ) → ((s : ℕ) → w.over s ≡ v.over s) → (s : ℕ)
    → (ended w id).over s ≡ (ended v id).over s
unfolding happens
same_ends w v id same s = ap (λ (o : Bool). if s == id then true else o) (same s)

does_end : (w : Direction) (id : ℕ) → DoesEnding (That id) nothing_added nothing_read None_brought w (ended w id)
unfolding happens
does_end w id = record {
  events = Event.End id ∷ [];
  is = refl;
  accepted = λ s. sym (append-nil (w.sender.plan.accepted s));
  size = refl;
  reads = λ s. refl;
  taken = λ o m. inl m;
  passed = inl refl;
  datas = λ k d e. e;
  forwards = λ k f e. e;
  sacks = λ k k2 e. e;
  spans = spans_then w id;
  ends = λ s o. ⊎_elim
      (λ (before : w.over s ≡ true). inl before)
      (λ (that : (s == id) ≡ true). inr (turned_about s id that))
      (over_before (s == id) (w.over s) o);
  reach_on = omega arith;
}

-- the other association stands between these directions, too
other_by_end : (x : Surroundings) (id : ℕ) → OtherStands x
    → OtherStands (moved x (ended x.out id) (ended x.coming id))
unfolding happens
other_by_end x id h = ⊎_elim
    (λ (s : StandsOpen x.loose_there x.peer x.own x.other x.coming x.out).
    let p = parts x.other s.past in
    inl (stands_between s (λ t tight. tight) refl (spans_then x.coming id) (spans_then x.out id) record {
      outgoing = its_spans_end p (id ∷ []) p.streams x.coming (λ t m. refl) s.between.outgoing;
      incoming = spans_of_what_comes_end p (id ∷ []) p.streams x.out (λ t m. refl) s.between.incoming;
    }))
    (λ (r : StandsClosed x.peer x.other x.out ⊎ StandsFailed x.other x.out).
    ⊎_elim
    (λ (s : StandsClosed x.peer x.other x.out). inr (inl record {
      closed = s.closed;
      unestablished = s.unestablished;
      lost = s.lost;
      stopped = s.stopped;
      nothing_left = s.nothing_left;
      truthful = s.truthful;
      no_reset = s.no_reset;
    }))
    (λ (s : StandsFailed x.other x.out). inr (inr record { failed = s.failed; stopped = s.stopped }))
    r)
    h

module _ {x : Surroundings} {a : Shown} (id : ℕ) (f : Faces x a) where
  abbrev out_end : Direction
  out_end = ended x.out id

  abbrev coming_end : Direction
  coming_end = ended x.coming id

  sound_out_end : IsSound out_end
  sound_out_end =
      sound_after (Event.End id)
      (each_event_keeps_the_invariant x.out (Event.End id) f.within_out f.sound_out.invariant) f.sound_out

  sound_coming_end : IsSound coming_end
  sound_coming_end =
      sound_after (Event.End id)
      (each_event_keeps_the_invariant x.coming (Event.End id) f.within_coming f.sound_coming.invariant) f.sound_coming

  -- An open association stands between these, before it is seen whether its receive buffer is exhausted.
  stopped_stands : OpenAt x a → OpenAt (moved x out_end coming_end) (stopped_open a id)
  unfolding happens
  stopped_stands s =
      let stops = stops_keep_the_status a id in
      let leads = stops.leads s.past s.binds in
      let p : Parts = parts a s.past in
      let act : Act = Act.SpansEnded (id ∷ []) (stopped_open a id).streams in
      open_on x (act ∷ []) s record {
        past2 = leads.0;
        leads = leads.1;
        nobody = (tt, tt);
        in_order = λ t within tight.
            λ v there. s.in_order t ((spans_then x.out id).within t within) tight v
            (sym (stops.others t (another_then x.out id t within)) ∙ there);
        reads_open = λ t within.
            λ v there. s.reads_open t ((spans_then x.coming id).within t within) v
            (sym (stops.others t (another_then x.coming id t within)) ∙ there);
        same = the_same_status_is_the_same_stage a (stopped_open a id) stops.same;
        resets =
            open_stops_reset_that_stream coming_end.over a id (over_itself x.coming id)
            (more_are_past x.coming.over coming_end.over a (spans_then x.coming id).over s.resets);
        size = refl;
        outgoing = its_spans_end p (id ∷ []) (stopped_open a id).streams x.out leads.1.can.0 s.between.outgoing;
        incoming =
            spans_of_what_comes_end p (id ∷ []) (stopped_open a id).streams x.coming leads.1.can.0 s.between.incoming;
      }

  -- What a stop leaves, in directions in which the span ended, and where more may have happened to what comes.
  settled_stop : (b : Shown) (coming2 : Direction)
      → DoesEnding (That id) nothing_added nothing_read None_brought x.coming coming2 → IsSound coming2
      → ((s : ℕ) → coming_end.over s ≡ coming2.over s) → StandsAt (moved x out_end coming2) b
      → OtherStands (moved x out_end coming2) → IsAt b x.here → coming2.sender ≡ x.coming.sender
      → SettlesEnding (That id) x b nothing_added nothing_read None_brought
  unfolding happens
  settled_stop b coming2 does sound spans stands other at same = record {
    out2 = out_end;
    coming2 = coming2;
    here2 = x.here;
    does_out = does_end x.out id;
    does_coming = does;
    both = λ t. same_ends x.out x.coming id f.both t ∙ spans t;
    sound_out = sound_out_end;
    sound_coming = sound;
    stands = stands;
    other = other;
    goes = stays_put x.here;
    at = at;
    meets = f.meets;
    no_more = inr refl;
    coming_still = same;
  }

  stop_stays : (b : Shown) → IsAt b x.here → OpenAt (moved x out_end coming_end) b
      → SettlesEnding (That id) x b nothing_added nothing_read None_brought
  unfolding happens
  stop_stays b at stands =
      settled_stop b coming_end (does_end x.coming id) sound_coming_end (λ t. refl) (inl stands)
      (other_by_end x id f.other) at refl

  -- it leaves the receive buffer exhausted, and that closes
  stop_closes : (b : Shown) → IsAt b x.here → IsOver b → HasNoReset b → IsTruthful x.own b
      → SettlesEnding (That id) x b nothing_added nothing_read None_brought
  unfolding happens
  stop_closes b at over none truthful =
      let closing = happens coming_end Event.Close in
      let received = receivers_events_are_received coming_end Event.Close tt in
      let closes = goes_by_receiver None_brought coming_end Event.Close tt (λ n. n) (λ o n. n) (λ o n. n) in
      let stands : ClosedAt (moved x out_end closing) b = record {
        closed = over.closed;
        unestablished = over.unestablished;
        lost = over.lost;
        stopped = closed_receivers_are_not_open coming_end;
        nothing_left = over.holds_nothing;
        truthful = truthful;
        no_reset = none;
      } in
      settled_stop b closing (does_on nothing_read x.coming coming_end closing (does_end x.coming id) closes)
      (sound_after Event.Close (keeps_close coming_end sound_coming_end.invariant) sound_coming_end)
      (λ t. sym (ap (λ (g : ℕ → Bool). g t) received.over))
      (inr (inl stands))
      (other_by_receiver (moved x out_end coming_end) Event.Close tt (other_by_end x id f.other))
      at
      received.sender

  -- a server that listens stays as it is, but for the ABORT
  stop_exhausted : OpenAt x a → (closed : Bool) → is_closed_state (stopped_open a id).state ≡ closed
      → IsAt (stopped_open a id) x.here
      → SettlesEnding (That id) x (exhausted (stopped_open a id)) nothing_added nothing_read None_brought
  stop_exhausted s false e at =
      let c = stopped_open a id in
      let stands = stopped_stands s in
      let closes = exhaustion_closes c in
      stop_closes (exhausted c) (at_exhausted c closes at) (closes.ends e) (exhaustion_ends_resets c e)
      (closes.truthful x.own stands.truthful)
  stop_exhausted s true e at =
      let c = stopped_open a id in
      let stands = stopped_stands s in
      let closes = exhaustion_closes c in
      let stays = closes.stays e in
      let on = stays.0 stands.past stands.binds in
      stop_stays (exhausted c) (at_exhausted c closes at)
      (open_on (moved x out_end coming_end) [] stands record {
        past2 = on.0;
        leads = on.1;
        nobody = tt;
        in_order = stands.in_order;
        reads_open = stands.reads_open;
        same = the_same_status_is_the_same_stage c (exhausted c) stays.1;
        resets = exhaustion_resets_no_more c coming_end.over stands.resets;
        size = refl;
        outgoing = stands.between.outgoing;
        incoming = stands.between.incoming;
      })

  stop_open : OpenAt x a → SettlesEnding (That id) x (stopped a id) nothing_added nothing_read None_brought
  stop_open s =
      let c = stopped_open a id in
      let stops = stops_keep_the_status a id in
      let at : IsAt c x.here = at_same a c x.here (the_same_status_is_the_same_stage a c stops.same) f.at in
      let Settled : Shown → Type 0 =
      λ (z : Shown). SettlesEnding (That id) x z nothing_added nothing_read None_brought in
      stopped_so Settled (λ tells z k. telling_settles tells z k)
      (holds_of (λ t. is_read_half_open t.halves) a id) (credit_in a) a c
      (quietly (nothing_settles f))
      (stop_stays c at (stopped_stands s))
      (stop_exhausted s (is_closed_state c.state) refl at)

-- a stop that is not refused is of an association that works
works_where_unrefused : (failed : Bool) (rest : Option Error)
    → (if failed then Some errors.ErrAssociationFailed else rest) ≡ None → failed ≡ false
works_where_unrefused true rest e = absurd (true≢false (ap is_some e))
works_where_unrefused false rest e = refl

-- the span that a stop with this reply may end
abbrev pub Ended_by : Reply → ℕ → ℕ → Type 0
Ended_by replies.Done id s = That id s
Ended_by r id s = ⊥

-- A stop that is not refused ends the span of its stream, if it ends one. A closed association stops nothing.
pub stopped_settles : {x : Surroundings} {a : Shown} (id : ℕ) → stop_refusal a id ≡ None → Faces x a
    → SettlesEnding (That id) x (stopped a id) nothing_added nothing_read None_brought
stopped_settles {x} {a} id unrefused f =
    let working = works_where_unrefused a.failed (stop_refusal_at a id (stream_at a.streams id)) unrefused in
    let Settled : Shown → Type 0 = λ (z : Shown). SettlesEnding (That id) x z nothing_added nothing_read None_brought in
    by_working (Settled (stopped a id)) working f
    (λ s. stop_open id f s)
    (λ s. ⊎_elim
    (λ (same : stopped a id ≡ a). quietly (same_settles same f))
    (λ (e : is_established a.state ≡ true). absurd (true≢false (sym e ∙ s.unestablished)))
    (stops_are_in_established a id s.no_reset unrefused))

-- A stop settles so, or is refused.
pub stops_settle : {x : Surroundings} {a b : Shown} (id : ℕ) (r : Reply) → Stops a id r b → Faces x a
    → SettlesEnding (Ended_by r id) x b nothing_added nothing_read None_brought
stops_settle {x} {a} id replies.Done h f =
    subst (λ (z : Shown). SettlesEnding (That id) x z nothing_added nothing_read None_brought) (sym h.1)
    (stopped_settles id (first_none (stream_refusal a id) (stop_refusal a id) h.0) f)
stops_settle id (replies.Refused n) (inl refused) f = quietly (same_settles refused.1 f)
stops_settle id (replies.Refused n) (inr fails) f = quietly (fails_settle fails.2.2.marked f)
stops_settle id r h f = absurd h
