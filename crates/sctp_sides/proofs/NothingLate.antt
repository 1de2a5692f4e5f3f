-- Acts that give out no DATA, or DATA again, give out nothing late: those by which messages are given up, and those
-- behind them by which pieces in flight go out again.
use Rattle.std.proofs.Common.{◌≡◌, refl, ap, ℕ, zero, suc, Bool, true, false, if◌then◌else◌, List, [], ◌∷◌, ◌++◌}
use Rattle.std.proofs.Common.{length, map, slice_set, Option, Some, None, not, ◌&&◌, ◌==◌}
use Rattle.std.proofs.lemmas.Bool.{false≢true}
use Rattle.std.specs.Prelude.{slice_get, ⊤}
use Rattle.std.specs.Option.{option_map}
use Rattle.std.specs.List.{AllByRecursion}
use Rattle.sctp_outbound_queue.specs.declared.message.InFlight.{InFlight}
use Rattle.sctp_outbound_queue.specs.declared.message.Retransmission.{Retransmission}
use Rattle.sctp_outbound_queue.specs.declared.message.Retransmission.TheVariants as causes
use Rattle.sctp_outbound_queue.specs.Message.{counted_again, flagged, is_expired, is_expired_piece}
use Rattle.sctp_outbound_queue.specs.Message.{is_of, marker_of}
use Rattle.sctp_outbound_queue.specs.Outbound.{Outbound, changed_from, tail_dropped_from}
use Rattle.sctp_outbound_queue.specs.Waiting.{Waiting}
use Rattle.sctp_streams.specs.Streams.{StreamMap}
use Rattle.sctp_outbound.specs.declared.abandonment.Reason.{Reason}
use Rattle.sctp_outbound.specs.declared.abandonment.Reason.TheVariants as reasons
use Rattle.sctp_outbound.specs.declared.sender.Sender.{Sender}
use Rattle.sctp_outbound.specs.Abandonment.{abandoned_if, has_late_tail, late_given_up, next_given_up}
use Rattle.sctp_outbound.specs.Abandonment.{with_started}
use Rattle.sctp_model.proofs.Lists.{all_get, all_join}
use Rattle.sctp_directions.specs.Acts.{Act, CanAll, Parts, can_go_again, done, done_all, with_abandoned}
use Rattle.sctp_directions.specs.Acts.{with_dropped}
use Rattle.sctp_assoc.specs.Gather.{both_of}
use Rattle.sctp_assoc.specs.Happened.{acts_of_abandoning, acts_of_expiry}
use Rattle.sctp_assoc.specs.Happened.{acts_of_giving_all_up, acts_of_giving_up, acts_of_late, acts_of_tail}
use Rattle.sctp_assoc.specs.Shown.{Shown, uses_forward_tsn}
use Rattle.sctp_sides.specs.Lifetimes.{GiveNothingLate, is_late, message_given}
use Rattle.sctp_sides.proofs.FirstBegun.{IsOrderly, act_orderly}
use Rattle.sctp_sides.proofs.WaitingInTime.{IsFirstInTime, again_first, first_behind_drop, given_up_first}

-- one list of acts behind another
pub late_join : (now : ℕ) (xs ys : List Act) (p : Parts) → GiveNothingLate now xs p
    → GiveNothingLate now ys (done_all xs p) → GiveNothingLate now (xs ++ ys) p
late_join now [] ys p first more = more
late_join now (x ∷ xs) ys p (one, rest) more = (one, late_join now xs ys (done x p) rest more)

-- an act gives no DATA out, whatever is in flight and waits
abbrev pub IsQuiet : Act → Type 0
IsQuiet act = (q : Outbound) → message_given act q ≡ None

-- such acts give out nothing late
pub quiet_acts : (now : ℕ) (acts : List Act) (p : Parts) → AllByRecursion IsQuiet acts → GiveNothingLate now acts p
quiet_acts now [] p quiet = tt
quiet_acts now (act ∷ acts) p (one, more) = (ap (is_late now) (one p.queue), quiet_acts now acts (done act p) more)

abandoning_is_quiet : (o : Option ℕ) → AllByRecursion IsQuiet (acts_of_abandoning o)
abandoning_is_quiet None = tt
abandoning_is_quiet (Some index) = (λ q. refl, tt)

giving_up_is_quiet : (n : ℕ) (why : Reason) (all : Sender × StreamMap)
    → AllByRecursion IsQuiet (acts_of_giving_up n why all)
giving_up_is_quiet zero why all = tt
giving_up_is_quiet (suc n) why all =
    all_join IsQuiet (acts_of_abandoning (next_given_up why all.0))
    (acts_of_giving_up n why (abandoned_if (next_given_up why all.0) all))
    (abandoning_is_quiet (next_given_up why all.0))
    (giving_up_is_quiet n why (abandoned_if (next_given_up why all.0) all))

tail_if : (late : Bool) → AllByRecursion IsQuiet (if late then Act.TailAbandoned ∷ [] else [])
tail_if true = (λ q. refl, tt)
tail_if false = tt

expiry_is_quiet : (now : ℕ) (all : Sender × StreamMap) → AllByRecursion IsQuiet (acts_of_expiry now all)
expiry_is_quiet now all =
    let b : Sender × StreamMap = (with_started now all.0, all.1) in (
      λ q. refl,
      all_join IsQuiet (acts_of_giving_all_up (reasons.Expired now) b) (acts_of_tail now (late_given_up now all).0)
          (giving_up_is_quiet (length b.0.queue.in_flight) (reasons.Expired now) b)
          (tail_if (has_late_tail now (late_given_up now all).0)),
    )

late_if : (uses : Bool) (now : ℕ) (all : Sender × StreamMap)
    → AllByRecursion IsQuiet (if uses then acts_of_expiry now all else [])
late_if true now all = expiry_is_quiet now all
late_if false now all = tt

-- what is given up before DATA goes out
pub late_is_quiet : (a : Shown) (now : ℕ) → AllByRecursion IsQuiet (acts_of_late a now)
late_is_quiet a now = late_if (uses_forward_tsn a) now (both_of a)

-- What goes again

-- no piece of a message that is not abandoned is expired
abbrev pub IsInTime : ℕ → InFlight → Type 0
IsInTime now x = is_expired_piece now x ≡ false

abbrev pub AreInTime : ℕ → List InFlight → Type 0
AreInTime now pieces = AllByRecursion (IsInTime now) pieces

outstanding_in_time : (acked abandoned expired : Bool) → (not acked && not abandoned) ≡ true
    → (not abandoned && expired) ≡ false → expired ≡ false
outstanding_in_time false false e can none = none
outstanding_in_time true b e can none = absurd (false≢true can)
outstanding_in_time false true e can none = absurd (false≢true can)

-- so what goes again is not late
again_if : (now : ℕ) (xs : List InFlight) (o : Option InFlight) (index : ℕ) → slice_get xs index ≡ o
    → can_go_again o ≡ true → AreInTime now xs → is_late now (option_map (λ (p : InFlight). p.message) o) ≡ false
again_if now xs None index e can none = absurd (false≢true can)
again_if now xs (Some x) index e can none =
    outstanding_in_time x.acked x.abandoned (is_expired now x.message) can (all_get (IsInTime now) xs index x e none)

set_in_time : (now : ℕ) (xs : List InFlight) (index : ℕ) (x : InFlight) → IsInTime now x → AreInTime now xs
    → AreInTime now (slice_set xs index x)
set_in_time now [] index x r m = tt
set_in_time now (y ∷ ys) zero x r (m, ms) = (r, ms)
set_in_time now (y ∷ ys) (suc index) x r (m, ms) = (m, set_in_time now ys index x r ms)

counted_in_time : (now : ℕ) (by : Retransmission) (x : InFlight) → IsInTime now x → IsInTime now (counted_again by x)
counted_in_time now causes.Timer x e = e
counted_in_time now causes.Fast x e = e

again_stays : (now : ℕ) (by : Retransmission) (q : Outbound) (o : Option InFlight) (index : ℕ)
    → slice_get q.in_flight index ≡ o → AreInTime now q.in_flight
    → AreInTime now (changed_from (counted_again by) o q index).in_flight
again_stays now by q None index e m = m
again_stays now by q (Some x) index e m =
    set_in_time now q.in_flight index (counted_again by x)
    (counted_in_time now by x (all_get (IsInTime now) q.in_flight index x e m)) m

flagged_if : (now : ℕ) (c : Bool) (x : InFlight) → IsInTime now x
    → IsInTime now (if c then record x { abandoned = true; retransmit = false } else x)
flagged_if now true x e = refl
flagged_if now false x e = e

flagged_in_time : (now id : ℕ) (xs : List InFlight) → AreInTime now xs → AreInTime now (map (flagged id) xs)
flagged_in_time now id [] m = tt
flagged_in_time now id (x ∷ xs) (m, ms) = (flagged_if now (is_of id x) x m, flagged_in_time now id xs ms)

pub tail_in_time : (now : ℕ) (ms : List Waiting) (q : Outbound) (id : ℕ) → AreInTime now q.in_flight
    → AreInTime now (tail_dropped_from ms q id).0.in_flight
tail_in_time now [] q id e = e
tail_in_time now (w ∷ ws) q id e =
    tail_if (w.message.message_id == id) _ q _ _
    (all_join (IsInTime now) q.in_flight (marker_of w.message ∷ []) e (refl, tt)) e
  where
    tail_if : (c : Bool) (p q : Outbound) (n k : ℕ) → AreInTime now p.in_flight → AreInTime now q.in_flight
        → AreInTime now (if◌then◌else◌ {A = Outbound × ℕ} c (p, n) (q, k)).0.in_flight
    tail_if true p q n k a b = a
    tail_if false p q n k a b = b

abandoned_in_time : (now : ℕ) (o : Option InFlight) (p : Parts) → AreInTime now p.queue.in_flight
    → AreInTime now (with_abandoned o p).queue.in_flight
abandoned_in_time now None p e = e
abandoned_in_time now (Some x) p e =
    flagged_in_time now x.message.message_id _ (tail_in_time now p.queue.pending p.queue x.message.message_id e)

-- an act gives up what is in flight, or drops what waits, or gives out again
abbrev pub GivesUpOrOut : Act → Type 0
GivesUpOrOut (Act.Abandoned index) = ⊤
GivesUpOrOut (Act.Dropped k) = ⊤
GivesUpOrOut (Act.SentAgain at_once by index) = ⊤
GivesUpOrOut act = ⊥

-- What waits and what is in flight is in order; nothing in flight is late, nor is a message that waits and of which
-- something was sent.
pub record IsOldInTime (now : ℕ) (q : Outbound) : Type 0 where
  pub orderly : IsOrderly q
  pub flight : AreInTime now q.in_flight
  pub first : IsFirstInTime now q.pending

dropped_in_time : (now k : ℕ) (o : Option Waiting) (p : Parts) → AreInTime now p.queue.in_flight
    → AreInTime now (with_dropped k o p).queue.in_flight
dropped_in_time now k None p e = e
dropped_in_time now k (Some x) p e = e

-- such acts give out nothing late where all is so, and leave it so
pub old_acts : (now : ℕ) (acts : List Act) (p : Parts) → AllByRecursion GivesUpOrOut acts → CanAll acts p
    → IsOldInTime now p.queue → GiveNothingLate now acts p × IsOldInTime now (done_all acts p).queue
old_acts now [] p only can e = (tt, e)
old_acts now (Act.Abandoned index ∷ acts) p (one, only) (can, cans) e =
    let o = slice_get p.queue.in_flight index in
    let more =
    old_acts now acts (done (Act.Abandoned index) p) only cans (record {
      orderly = act_orderly (Act.Abandoned index) p e.orderly;
      flight = abandoned_in_time now o p e.flight;
      first = given_up_first now o p e.orderly e.first;
    }) in
    ((refl, more.0), more.1)
old_acts now (Act.Dropped k ∷ acts) p (one, only) (can, cans) e =
    let o = slice_get p.queue.pending k in
    let more =
    old_acts now acts (done (Act.Dropped k) p) only cans (record {
      orderly = act_orderly (Act.Dropped k) p e.orderly;
      flight = dropped_in_time now k o p e.flight;
      first = first_behind_drop now k o p e.orderly e.first;
    }) in
    ((refl, more.0), more.1)
old_acts now (Act.SentAgain at_once by index ∷ acts) p (one, only) (can, cans) e =
    let o = slice_get p.queue.in_flight index in
    let more =
    old_acts now acts (done (Act.SentAgain at_once by index) p) only cans (record {
      orderly = act_orderly (Act.SentAgain at_once by index) p e.orderly;
      flight = again_stays now by p.queue o index refl e.flight;
      first = again_first now by o p.queue index e.first;
    }) in
    ((again_if now p.queue.in_flight o index refl can e.flight, more.0), more.1)
old_acts now (act ∷ acts) p (one, only) cans e = absurd one
