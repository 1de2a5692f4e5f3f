-- Over every list of calls, no poll gives out DATA of a message at or past its deadline, where FORWARD TSN is in use.
use Rattle.std.proofs.Common.{◌≡◌, refl, sym, subst, ℕ, Bool, true, false, if◌then◌else◌, List, [], ◌∷◌, ◌++◌}
use Rattle.std.specs.List.{AllByRecursion}
use Rattle.sctp_outbound_queue.specs.Outbound.{Outbound}
use Rattle.sctp_directions.specs.Acts.{Act, History, Parts, done_all}
use Rattle.sctp_assoc.specs.Calls.{exchanges_data}
use Rattle.sctp_wire_types.specs.declared.chunk.ChunkPayloadData.{ChunkPayloadData}
use Rattle.sctp_assoc.specs.Gather.{both_of, fast_polled, fast_sent, is_due, late_abandoned, late_dropped}
use Rattle.sctp_assoc.specs.Gather.{marks_polled, marks_sent, open_polled}
use Rattle.sctp_assoc.specs.Happened.{acts_of_ack, acts_of_data_poll, acts_of_ending, acts_of_exchange}
use Rattle.sctp_assoc.specs.Happened.{acts_of_fast_poll, acts_of_forwarding}
use Rattle.sctp_assoc.specs.Happened.{acts_of_late, acts_of_marks_poll, acts_of_new, acts_of_poll, acts_of_unsent}
use Rattle.sctp_assoc.specs.Happened.{forwards_of_poll}
use Rattle.sctp_assoc.specs.Leads.{Binds, parts}
use Rattle.sctp_assoc.specs.Shown.{Shown, uses_forward_tsn}
use Rattle.sctp_assoc.specs.Shutdown.{completes_shutdown}
use Rattle.sctp_assoc.proofs.ActsKeepOffsets.{done_append}
use Rattle.sctp_assoc.proofs.Giving.{Gives}
use Rattle.sctp_assoc.proofs.PolledSteps.{drops_gives, fast, late, marks}
use Rattle.sctp_sides.specs.Lifetimes.{GiveNothingLate, NothingLateGoesOut}
use Rattle.sctp_sides.proofs.ActsOfChunks.{fast_give, give_if, marks_give, new_gives, unsent_gives}
use Rattle.sctp_sides.proofs.FirstBegun.{IsOrderly}
use Rattle.sctp_sides.proofs.FirstBegunRuns.{calls_keep_the_order}
use Rattle.sctp_sides.proofs.LateGivenUp.{nothing_late_is_left}
use Rattle.sctp_sides.proofs.NothingLate.{GivesUpOrOut, IsOldInTime, IsQuiet, late_is_quiet, late_join, old_acts}
use Rattle.sctp_sides.proofs.NothingLate.{quiet_acts}
use Rattle.sctp_sides.proofs.WaitingInTime.{AreWaitingInTime, drops_leave_none, new_acts_in_time, waiting_in_time}

-- Acts lead from some parts to others, and give out nothing late.
record LeadsInTime (now : ℕ) (xs : List Act) (p q : Parts) : Type 0 where
  there : q ≡ done_all xs p
  nothing : GiveNothingLate now xs p

in_time_on : (now : ℕ) (xs ys : List Act) (p q r : Parts) → LeadsInTime now xs p q → LeadsInTime now ys q r
    → LeadsInTime now (xs ++ ys) p r
in_time_on now xs ys p q r m n = record {
  there = rw (done_append xs ys p, ← m.there) n.there;
  nothing = late_join now xs ys p m.nothing (subst (GiveNothingLate now ys) m.there n.nothing);
}

-- Acts behind which what is in flight is in time still.
record StaysInTime (now : ℕ) (xs : List Act) (p q : Parts) : Type 0 where
  leads : LeadsInTime now xs p q
  stays : IsOldInTime now q.queue

old_on : (now : ℕ) (xs : List Act) (p q : Parts) (given : List ChunkPayloadData) → AllByRecursion GivesUpOrOut xs
    → Gives xs p q given → IsOldInTime now p.queue → StaysInTime now xs p q
old_on now xs p q given only gives h =
    let done = old_acts now xs p only gives.can h in
    record {
      leads = record { there = gives.there; nothing = done.0 };
      stays = subst (λ (r : Parts). IsOldInTime now r.queue) (sym gives.there) done.1;
    }

-- A poll of DATA of an association that stands on a history, where FORWARD TSN is in use.
module _ (a : Shown) (now : ℕ) (h : History) (binds : Binds a h) (uses : uses_forward_tsn a ≡ true)
    (orderly : IsOrderly a.sender.queue) where
  first_step : LeadsInTime now (acts_of_late a now) (parts a h) (parts (late_abandoned a now) h)
  first_step = record {
    there = (late a now h binds.first binds.marked).there;
    nothing = quiet_acts now (acts_of_late a now) (parts a h) (late_is_quiet a now);
  }

  marks_step : StaysInTime now (acts_of_marks_poll (late_abandoned a now)) (parts (late_abandoned a now) h)
      (parts (marks_polled a now) h)
  marks_step =
      old_on now (acts_of_marks_poll (late_abandoned a now)) (parts (late_abandoned a now) h)
      (parts (marks_polled a now) h) (marks_sent (late_abandoned a now))
      (marks_give GivesUpOrOut (λ i. tt) (λ k. tt) (λ asks by i. tt) (late_abandoned a now))
      (marks a now h binds.first binds.marked) (nothing_late_is_left a now h binds uses orderly)

  fast_step : StaysInTime now (acts_of_fast_poll (marks_polled a now)) (parts (marks_polled a now) h)
      (parts (fast_polled a now) h)
  fast_step =
      old_on now (acts_of_fast_poll (marks_polled a now)) (parts (marks_polled a now) h) (parts (fast_polled a now) h)
      (fast_sent (marks_polled a now))
      (fast_give GivesUpOrOut (λ i. tt) (λ k. tt) (λ asks by i. tt) (marks_polled a now))
      (fast a now h binds.first binds.marked) marks_step.stays

  drops_step : StaysInTime now (acts_of_unsent (fast_polled a now) now) (parts (fast_polled a now) h)
      (parts (late_dropped (fast_polled a now) now) h)
  drops_step =
      let c : Shown = fast_polled a now in
      old_on now (acts_of_unsent c now) (parts c h) (parts (late_dropped c now) h) []
      (unsent_gives GivesUpOrOut (λ i. tt) (λ k. tt) (λ asks by i. tt) c now)
      (drops_gives (uses_forward_tsn a) now (both_of c) h) fast_step.stays

  nothing_late_waits : AreWaitingInTime now (late_dropped (fast_polled a now) now).sender.queue.pending
  nothing_late_waits =
      let q : Outbound = (late_dropped (fast_polled a now) now).sender.queue in
      waiting_in_time now q.pending q.in_flight q.next_message_id drops_step.stays.orderly drops_step.stays.first
      (drops_leave_none (uses_forward_tsn a) now (both_of (fast_polled a now)) uses)

  new_step : LeadsInTime now (acts_of_new (late_dropped (fast_polled a now) now).sender now)
      (parts (late_dropped (fast_polled a now) now) h)
      (done_all (acts_of_new (late_dropped (fast_polled a now) now).sender now)
      (parts (late_dropped (fast_polled a now) now) h))
  new_step =
      let b : Shown = late_dropped (fast_polled a now) now in
      record {
        there = refl;
        nothing =
            new_acts_in_time now (acts_of_new b.sender now) (parts b h) (new_gives b.sender now)
            nothing_late_waits;
      }

  data_in_time : GiveNothingLate now (acts_of_data_poll a now) (parts a h)
  data_in_time =
      let c : Shown = late_abandoned a now in
      let d : Shown = marks_polled a now in
      let e : Shown = fast_polled a now in
      let b : Shown = late_dropped e now in
      let new : List Act = acts_of_new b.sender now in
      let last : Parts = done_all new (parts b h) in
      (in_time_on now (acts_of_late a now ++ acts_of_marks_poll c ++ acts_of_fast_poll d) (acts_of_unsent e now ++ new)
      (parts a h) (parts e h) last
      (in_time_on now (acts_of_late a now ++ acts_of_marks_poll c) (acts_of_fast_poll d) (parts a h) (parts d h)
      (parts e h)
      (in_time_on now (acts_of_late a now) (acts_of_marks_poll c) (parts a h) (parts c h) (parts d h) first_step
      marks_step.leads)
      fast_step.leads)
      (in_time_on now (acts_of_unsent e now) new (parts e h) (parts b h) last drops_step.leads new_step)).nothing

ack_is_quiet : (a : Shown) → AllByRecursion IsQuiet (acts_of_ack a)
ack_is_quiet a = give_if IsQuiet (is_due a.receiver.ack_state) (Act.Reported ∷ []) [] (λ q. refl, tt) tt

forwarding_is_quiet : (forwards : Bool) → AllByRecursion IsQuiet (acts_of_forwarding forwards)
forwarding_is_quiet forwards = give_if IsQuiet forwards (Act.Forwarded ∷ []) [] (λ q. refl, tt) tt

-- nor is the end of a poll
ending_is_quiet : (a : Shown) → AllByRecursion IsQuiet (acts_of_ending a)
ending_is_quiet a = give_if IsQuiet (completes_shutdown a) (Act.Ended ∷ []) [] (λ q. refl, tt) tt

exchange_if : (exchanges : Bool) (now : ℕ) (pieces acks forward : List Act) (p : Parts) → GiveNothingLate now pieces p
    → AllByRecursion IsQuiet acks → AllByRecursion IsQuiet forward
    → GiveNothingLate now (if exchanges then pieces ++ acks ++ forward else []) p
exchange_if true now pieces acks forward p given quiet last =
    late_join now (pieces ++ acks) forward p
    (late_join now pieces acks p given (quiet_acts now acks (done_all pieces p) quiet))
    (quiet_acts now forward (done_all (pieces ++ acks) p) last)
exchange_if false now pieces acks forward p given quiet last = tt

-- where its queue is in order
module _ (b : Shown) (k : History) (now : ℕ) (binds : Binds b k) (uses : uses_forward_tsn b ≡ true)
    (orderly : IsOrderly b.sender.queue)
  where
    pub polls_are_in_time : GiveNothingLate now (acts_of_poll b now) (parts b k)
    polls_are_in_time =
        let front = acts_of_exchange b now in
        let ending = acts_of_ending (open_polled b now).0 in
        late_join now front ending (parts b k)
        (exchange_if (exchanges_data b.state) now (acts_of_data_poll b now) (acts_of_ack b)
        (acts_of_forwarding (forwards_of_poll b now)) (parts b k) (data_in_time b now k binds uses orderly)
        (ack_is_quiet b) (forwarding_is_quiet (forwards_of_poll b now)))
        (quiet_acts now ending (done_all front (parts b k)) (ending_is_quiet (open_polled b now).0))

pub nothing_late_goes_out : NothingLateGoesOut
nothing_late_goes_out calls a b h k acts now nothing binds run works uses =
    let s = calls_keep_the_order calls a b h k acts nothing binds run works in
    polls_are_in_time b k now s.binds uses s.orderly
