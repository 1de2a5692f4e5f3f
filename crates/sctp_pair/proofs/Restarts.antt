-- Where a request of an association to reset streams ended in success by a call, their sequence numbers begin again
-- behind the call (RFC 6525 section 5.2.7).
use Rattle.std.proofs.Common.{◌≡◌, refl, sym, ap, ◌∙◌, subst, ◌⊎◌, ⊎_elim, inl, inr, ℕ, Bool, true, false, not, ◌&&◌}
use Rattle.std.proofs.Common.{◌||◌, filter, List, ◌++◌, Option, Some, None}
use Rattle.std.proofs.lemmas.Bool.{and_from, false≢true, true≢false}
use Rattle.sctp_receive_queues.specs.Messages as letters
use Rattle.sctp_reset_requests.specs.declared.own_request.SentRequest.{SentRequest}
use Rattle.sctp_reset_requests.specs.Ids.{has_id}
use Rattle.sctp_resets.specs.Concerned.{active_ids, sent_ids}
use Rattle.sctp_resets.specs.Within.{SentOver}
use Rattle.sctp_resets.proofs.OwnOver.{has_over}
use Rattle.sctp_model.specs.Messages.{Message}
use Rattle.sctp_model.specs.Machine.{Direction, can_restart, is_unsent, run}
use Rattle.sctp_directions.specs.Acts.{receiving, sending}
use Rattle.sctp_directions.specs.Between.{IsSound}
use Rattle.sctp_assoc.specs.Calls.{is_beginning}
use Rattle.sctp_assoc.specs.Closing.{is_closed_state}
use Rattle.sctp_assoc.specs.Leads.{parts}
use Rattle.sctp_assoc.specs.Shown.{Shown}
use Rattle.sctp_sides.specs.Restarts.{is_being_reset, is_reset_by}
use Rattle.sctp_steps.specs.Seen.{EndsReset}
use Rattle.sctp_pair.specs.World.{HasRestarted}
use Rattle.sctp_pair.specs.Fits.{AreSaid, ResetsQuietly, Stands, StandsClosed, StandsFailed, StandsOpen}
use Rattle.sctp_pair.proofs.BetweenDirections.{By, DoesEnding, None_brought, OpenAt, OtherStands, SettlesEnding}
use Rattle.sctp_pair.proofs.BetweenDirections.{StandsAt, Surroundings, moved, nothing_read, run_append}
use Rattle.sctp_pair.proofs.BetweenDirections.{same_spans_go_on, spans_stay_put, stands_between}
use Rattle.sctp_pair.proofs.HandshakeStages.{stays_put}
use Rattle.sctp_pair.proofs.NumbersAnew.{anew, begins_anew, has_filtered, numbered, numbered_coming, numbered_out}
use Rattle.sctp_pair.proofs.NumbersAnew.{quiet_can_restart, quiet_has_none_unsent, restarts_are, restarts_are_sound}
use Rattle.sctp_pair.proofs.NumbersAnew.{restarts_of, within_stay}
use Rattle.sctp_pair.proofs.Promised.{stands_open}
use Rattle.sctp_pair.proofs.QuietSteps.{StaysQuiet}
use Rattle.sctp_pair.proofs.SaidStaysSaid.{StageGoesOn, said_grows}
use Rattle.sctp_pair.proofs.GrowingPlans.{same_plan}

-- Which streams

-- a stream that was being reset is reset where b is left, in success
abbrev pub is_reset_in : Shown → ℕ → Bool
is_reset_in b t =
    not (is_being_reset b t)
    && (not (has_id t b.resets.debts.failed) && (not b.failed && not (is_closed_state b.state)))

-- the streams of the request that was active in a, if that ended in success where b is left
abbrev pub reset_between : Shown → Shown → List ℕ
reset_between a b = filter (is_reset_in b) (active_ids a.resets)

-- a request that is not for all streams resets those that it names
named_if : (all has : Bool) → all ≡ false → (all || has) ≡ true → has ≡ true
named_if true has none is = absurd (true≢false none)
named_if false has none is = is

reset_is_named : (over : ℕ → Bool) (o : Option SentRequest) (t : ℕ) → SentOver over o → is_reset_by o t ≡ true
    → has_id t (sent_ids o) ≡ true
reset_is_named over None t asks is = absurd (false≢true is)
reset_is_named over (Some s) t asks is =
    named_if s.request.names_all (has_id t s.request.ids) asks.not_all is

-- and these are past their span
reset_is_over : (over : ℕ → Bool) (o : Option SentRequest) (t : ℕ) → SentOver over o → is_reset_by o t ≡ true
    → over t ≡ true
reset_is_over over None t asks is = absurd (false≢true is)
reset_is_over over (Some s) t asks is =
    has_over over t s.request.ids asks.names.each
    (named_if s.request.names_all (has_id t s.request.ids) asks.not_all is)

-- so each stream whose reset ended in success is one of those
pub ended_is_between : (over : ℕ → Bool) (a b : Shown) (t : ℕ) → SentOver over a.resets.own.active → EndsReset a b t
    → has_id t (reset_between a b) ≡ true
ended_is_between over a b t asks e =
    has_filtered (is_reset_in b) t (active_ids a.resets) (reset_is_named over a.resets.own.active t asks e.active)
    (and_from (not (is_being_reset b t)) _ (ap not e.ended)
    (and_from (not (has_id t b.resets.debts.failed)) _ (ap not e.unfailed)
    (and_from (not b.failed) (not (is_closed_state b.state)) (ap not e.stays_open.0) (ap not e.stays_open.1))))

-- where nothing changed no request ended
pub none_ended : {a b : Shown} (t : ℕ) → b ≡ a → EndsReset a b t → ⊥
none_ended t same e =
    true≢false (sym e.active ∙ ap (λ (z : Shown). is_being_reset z t) (sym same) ∙ e.ended)

-- One association before and after a step

-- a receiver that closed stays closed, so an association that stands open stood open before
module _ {loose more : ℕ → Bool} {own peer : ℕ} {a b : Shown} {out coming out2 coming2 : Direction}
    (before : Stands loose own peer a out coming) (after : Stands more own peer b out2 coming2)
    (closed : coming.receiver.is_open ≡ false → coming2.receiver.is_open ≡ false) where
  stood_open : StandsOpen more own peer b out2 coming2 → StandsOpen loose own peer a out coming
  stood_open o =
      ⊎_elim
      (λ (s : StandsOpen loose own peer a out coming). s)
      (λ (r : StandsClosed own a coming ⊎ StandsFailed a coming).
      absurd (true≢false (sym o.between.incoming.is_open ∙ closed (⊎_elim
      (λ (s : StandsClosed own a coming). s.stopped) (λ (s : StandsFailed a coming). s.stopped) r))))
      before

  module _ (stays : StaysQuiet a b) (quiet : ResetsQuietly a) where
    -- what it resets is quiet still
    pub resets_quietly : ResetsQuietly b
    resets_quietly working =
        ⊎_elim
        (λ (o : StandsOpen more own peer b out2 coming2).
        let s = stood_open o in stays.active s.past s.binds (quiet s.working) working)
        (λ (r : StandsClosed own b coming2 ⊎ StandsFailed b coming2). ⊎_elim
        (λ (s : StandsClosed own b coming2).
        (λ (t : ℕ) (is : is_being_reset b t ≡ true).
        absurd (false≢true (sym (ap (λ (o : Option SentRequest). is_reset_by o t) s.no_reset.active) ∙ is))))
        (λ (s : StandsFailed b coming2). absurd (true≢false (sym s.failed ∙ working)))
        r)
        after

    -- Of a stream whose reset ended in success nothing is outstanding or unsent, and it is past its span, so that its
    -- numbers can begin again.
    pub ended_can_restart : (t : ℕ) → EndsReset a b t → (coming.over t ≡ true → out2.over t ≡ true)
        → (has_id t (reset_between a b) ≡ true) × (can_restart out2 t ≡ true)
        × ((i : ℕ) → is_unsent out2.sender t i ≡ false)
    ended_can_restart t e over =
        let o = stands_open own peer b out2 coming2 e.stays_open after in
        let s = stood_open o in
        let asks = s.resets.resets.own.active in
        let none_left = stays.ended s.past s.binds (quiet s.working) e.stays_open.0 t e.active e.ended in (
          ended_is_between coming.over a b t asks e,
          quiet_can_restart (sending (parts b o.past)) out2 t o.between.outgoing none_left
              (over (reset_is_over coming.over a.resets.own.active t asks e.active)),
          quiet_has_none_unsent (sending (parts b o.past)) out2 t o.between.outgoing none_left,
        )

-- A call that settles

-- Behind a call that settles the numbers of these streams begin again, where they can.
module _ {Ended : ℕ → Type 0} {x : Surroundings} {b : Shown} {Added : ℕ → List Message}
    {Read : ℕ → Option letters.ReceivedMessage} {Brought : By → ℕ → Type 0} (ids : List ℕ)
    (s : SettlesEnding Ended x b Added Read Brought) where
  abbrev pub numbers : ℕ → ℕ
  numbers = anew ids s.out2 s.out2.sender.ssn

  -- its own direction behind that
  abbrev pub out3 : Direction
  out3 = numbered s.out2 (anew ids s.out2 s.out2.sender.ssn)

  -- both associations stand there as before
  stays_open : OpenAt (moved x s.out2 s.coming2) b → OpenAt (moved x out3 s.coming2) b
  stays_open o =
      stands_between o (λ t tight. tight) refl (same_spans_go_on s.out2 out3 refl) (spans_stay_put s.coming2) record {
        outgoing =
            numbered_out (sending (parts b o.past)) s.out2 numbers
            (λ t within. within_stay ids s.out2 s.out2.sender.ssn t within) o.between.outgoing;
        incoming = o.between.incoming;
      }

  stands_still : StandsAt (moved x s.out2 s.coming2) b → StandsAt (moved x out3 s.coming2) b
  stands_still (inl o) = inl (stays_open o)
  stands_still (inr r) = inr r

  other_still : OtherStands (moved x s.out2 s.coming2) → OtherStands (moved x out3 s.coming2)
  other_still (inl o) =
      inl (stands_between o (λ t tight. tight) refl (spans_stay_put s.coming2) (same_spans_go_on s.out2 out3 refl)
      record {
        outgoing = o.between.outgoing;
        incoming = numbered_coming (receiving (parts x.other o.past)) s.out2 numbers o.between.incoming;
      })
  other_still (inr (inl c)) = inr (inl record {
    closed = c.closed;
    unestablished = c.unestablished;
    lost = c.lost;
    stopped = c.stopped;
    nothing_left = c.nothing_left;
    truthful = c.truthful;
    no_reset = c.no_reset;
  })
  other_still (inr (inr f)) = inr (inr record { failed = f.failed; stopped = f.stopped })

  -- and what the call does to the direction is the same, but for these events behind it
  does_still : DoesEnding Ended Added nothing_read None_brought x.out out3
  does_still =
      let d = s.does_out in
      record {
        events = d.events ++ restarts_of ids;
        is =
            sym (restarts_are ids s.out2 s.out2.sender.ssn) ∙ ap (run (restarts_of ids)) d.is
            ∙ sym (run_append d.events (restarts_of ids) x.out);
        accepted = d.accepted;
        size = d.size;
        reads = d.reads;
        taken = d.taken;
        passed = d.passed;
        datas = d.datas;
        forwards = d.forwards;
        sacks = d.sacks;
        spans = record { over = d.spans.over; within = d.spans.within };
        ends = d.ends;
        reach_on = d.reach_on;
      }

  -- the call settles behind it, too
  pub restarting : SettlesEnding Ended x b Added Read Brought
  restarting = record {
    out2 = out3;
    coming2 = s.coming2;
    here2 = s.here2;
    does_out = does_still;
    does_coming = s.does_coming;
    both = s.both;
    sound_out =
        subst IsSound (restarts_are ids s.out2 s.out2.sender.ssn) (restarts_are_sound ids s.out2 s.sound_out);
    sound_coming = s.sound_coming;
    stands = stands_still s.stands;
    other = other_still s.other;
    goes = s.goes;
    at = s.at;
    meets = s.meets;
    no_more =
        ⊎_elim
        (λ (e : (is_beginning b.state ≡ false) × OpenAt (moved x s.out2 s.coming2) b). inl (e.0, stays_open e.1))
        (λ (same : s.out2.sender.plan.places ≡ x.out.sender.plan.places). inr same)
        s.no_more;
    coming_still = s.coming_still;
  }

  -- a stream of these whose numbers can begin again, and of which no message is unsent, did begin again
  pub has_restarted : (t : ℕ) → has_id t ids ≡ true → can_restart s.out2 t ≡ true
      → ((i : ℕ) → is_unsent s.out2.sender t i ≡ false) → HasRestarted restarting.out2 t
  unfolding restarting
  has_restarted t named can none =
      record { quiet = can; none_waits = none; anew = begins_anew ids s.out2 s.out2.sender.ssn t named can }

  -- what was said stays said
  pub said_still : (given : List (List ℕ)) → AreSaid x.own x.peer s.here2 s.out2 s.coming2 given
      → AreSaid x.own x.peer restarting.here2 restarting.out2 restarting.coming2 given
  unfolding restarting
  said_still given said =
      let g : StageGoesOn s.here2 s.here2 s.out2 s.coming2 out3 s.coming2 = record {
        goes = stays_put s.here2;
        datas = λ k d e. e;
        forwards = λ k f e. e;
        sacks = λ k z e. e;
        spans = same_spans_go_on s.out2 out3 refl;
        plan = same_plan s.out2.sender.plan;
      } in
      said_grows x.own x.peer g given said
