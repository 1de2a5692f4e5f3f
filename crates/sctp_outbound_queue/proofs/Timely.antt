-- What is known of deadlines: whether the times of all messages run, and a moment before which none is over.
use Rattle.std.proofs.Common.{◌≡◌, ℕ, zero, suc, Bool, true, false, ◌&&◌, ◌==◌, not, nat_le, nat_lt, List, [], ◌∷◌}
use Rattle.std.proofs.Common.{◌++◌, Option, Some, None, length, map, take, drop, slice_get, refl, ap, sym, ◌∙◌, arith}
use Rattle.std.proofs.Common.{⊎_elim, true≢false, ◌+◌, ◌-◌, ◌^◌, ◌<◌, ◌≤◌, min}
use Rattle.std.specs.Prelude.{slice_set, find, position, if◌then◌else◌}
use Rattle.std.specs.List.{fold, position_or_len}
use Rattle.std.specs.Option.{option_map}
use Rattle.std.proofs.lemmas.Bool.{cases_Bool}
use Rattle.std.proofs.lemmas.Bool.Decides.{nat_tests}
use Rattle.sctp_wire_types.specs.declared.reliability.Policy.{Policy}
use Rattle.sctp_wire_types.specs.declared.reliability.Policy.TheVariants.{Reliable, Rexmit, Timed}
use Rattle.sctp_outbound_queue.specs.declared.message.Attributes.{Attributes}
use Rattle.sctp_outbound_queue.specs.declared.message.InFlight.{InFlight}
use Rattle.sctp_outbound_queue.specs.declared.message.Reports.{Reports}
use Rattle.sctp_outbound_queue.specs.declared.message.Retransmission.{Retransmission}
use Rattle.sctp_outbound_queue.specs.declared.message.Retransmission.TheVariants as causes
use Rattle.sctp_outbound_queue.specs.Waiting.{Waiting}
use Rattle.sctp_outbound_queue.specs.Message.{acked, counted_again, flagged, is_due, is_expired_piece}
use Rattle.sctp_outbound_queue.specs.Message.{is_expired_unsent, is_of, is_outstanding, is_past, is_timed, is_timely}
use Rattle.sctp_outbound_queue.specs.Message.{is_reported, is_timely_piece, keeps_time, marked_again, reported_missing}
use Rattle.sctp_outbound_queue.specs.Message.{sent_started, sooner, sooner_piece, sent_once, without_piece}
use Rattle.sctp_outbound_queue.specs.Message.{waiting_started, soonest}
use Rattle.sctp_outbound_queue.specs.Outbound.{Outbound, after_piece}
use Rattle.sctp_outbound_queue.specs.declared.clocks.Clocks.{Clocks}
use Rattle.sctp_outbound_queue.specs.declared.clocks.Look.{Look}
use Rattle.sctp_outbound_queue.specs.Clocks.{AllFrom, AllRun, AreSentTimely, AreTimely, AreWaitingTimely, accepted_by}
use Rattle.sctp_outbound_queue.specs.Clocks.{dropped_by, passed_by, runs, sent_by, started_with, Cover}
use Rattle.std.proofs.lemmas.List.{length-append, length-map, take-map}
use Rattle.std.proofs.lemmas.List.Sums.{prefix_len-le-length}
use Rattle.sctp_outbound_queue.specs.Expiry.{after_expiry, all_started, without_expired}
use Rattle.sctp_outbound_queue.proofs.ExpiredUnsent.{without_none}
use Rattle.sctp_outbound_queue.specs.declared.stretches.Stretch.{Stretch}
use Rattle.sctp_outbound_queue.specs.Stretches.{shortened_at, total}
use Rattle.sctp_outbound_queue.proofs.StretchLists.{total_shorter, total_shorter_by}
use Rattle.sctp_outbound_queue.proofs.Deadlines.{All, IsSooner, Keeps, accepted_under, all_behind, all_changed}
use Rattle.sctp_outbound_queue.proofs.Deadlines.{all_more, all_of, all_take, all_weaker, and_false, first_behind}
use Rattle.sctp_outbound_queue.proofs.Deadlines.{first_changed, first_more, from_all, from_zero, is_from_next}
use Rattle.sctp_outbound_queue.proofs.Deadlines.{is_running, late_under, not_over, one_changed, rebound_under}
use Rattle.sctp_outbound_queue.proofs.Deadlines.{runs_under, sooner_still, sooner_under_too, started_under}
use Rattle.sctp_outbound_queue.proofs.Deadlines.{unsaid_under, waiting_run}
use Rattle.sctp_outbound_queue.proofs.Covered.{all_first, all_parts, before_same, cover_begun, cover_left, cover_more}
use Rattle.sctp_outbound_queue.proofs.Covered.{cover_started, cover_without, first_without, from_either, from_other}
use Rattle.sctp_outbound_queue.proofs.Covered.{nothing_behind, passed_without, rest_begun, rest_left, rest_more}
use Rattle.sctp_outbound_queue.proofs.Covered.{rest_without, shorter, without_keeps}

-- The next deadline of all

piece_still : (next : Option ℕ) (p : InFlight) → IsSooner (sooner_piece next p) next
piece_still next p d e =
    ⊎_elim (λ (a : p.abandoned ≡ true). rw a e)
    (λ (a : p.abandoned ≡ false). rw a (sooner_still next p.message.policy p.message.deadline d e))
    (cases_Bool p.abandoned)

flight_bound : (next : Option ℕ) (ps : List InFlight) → IsSooner (fold sooner_piece next ps) next
flight_bound next [] d e = e
flight_bound next (p ∷ ps) d e = flight_bound (sooner_piece next p) ps d (piece_still next p d e)

piece_rebound : (run : Bool) (old next : Option ℕ) (p : InFlight) → is_timely_piece run old p ≡ true
    → is_timely_piece run (sooner_piece next p) p ≡ true
piece_rebound run old next p e =
    ⊎_elim (λ (a : p.abandoned ≡ true). let h = rw a at e in rw a h)
    (λ (a : p.abandoned ≡ false). let h = rw a at e in
    rw a (rebound_under run old next p.message.policy p.message.deadline h))
    (cases_Bool p.abandoned)

piece_sooner : (run : Bool) (next other : Option ℕ) (p : InFlight) → IsSooner next other
    → is_timely_piece run other p ≡ true → is_timely_piece run next p ≡ true
piece_sooner run next other p sooner e =
    ⊎_elim (λ (a : p.abandoned ≡ true). let h = rw a at e in rw a h)
    (λ (a : p.abandoned ≡ false). let h = rw a at e in
    rw a (sooner_under_too run next other p.message.policy p.message.deadline sooner h))
    (cases_Bool p.abandoned)

flight_rebound : (run : Bool) (old next : Option ℕ) (ps : List InFlight) → All (is_timely_piece run old) ps
    → All (is_timely_piece run (fold sooner_piece next ps)) ps
flight_rebound run old next [] a = a
flight_rebound run old next (p ∷ ps) (h, a) = (
  piece_sooner run _ (sooner_piece next p) p (flight_bound (sooner_piece next p) ps) (piece_rebound run old next p h),
  flight_rebound run old (sooner_piece next p) ps a,
)

-- Starting

piece_runs : (now : ℕ) (p : InFlight) → is_timely_piece true (Some 0) (sent_started now p) ≡ true
piece_runs now p =
    ⊎_elim (λ (a : p.abandoned ≡ true). rw a (started_under now p.message.policy p.message.deadline))
    (λ (a : p.abandoned ≡ false). rw a (started_under now p.message.policy p.message.deadline))
    (cases_Bool p.abandoned)

flight_runs : (now : ℕ) (ps : List InFlight) → All (is_timely_piece true (Some 0)) (map (sent_started now) ps)
flight_runs now [] = tt
flight_runs now (p ∷ ps) = (piece_runs now p, flight_runs now ps)

piece_run : (now : ℕ) (next : Option ℕ) (p : InFlight) → is_timely_piece true next p ≡ true → sent_started now p ≡ p
piece_run now next p e =
    ap (λ d. record p { message = (let n = p.message in record n { deadline = d }) }) (
    ⊎_elim (λ (a : p.abandoned ≡ true). let h =
    rw a at e in runs_under now (Some 0) p.message.policy p.message.deadline h)
    (λ (a : p.abandoned ≡ false). let h = rw a at e in runs_under now next p.message.policy p.message.deadline h)
    (cases_Bool p.abandoned))

pub flight_run : (now : ℕ) (next : Option ℕ) (ps : List InFlight) → All (is_timely_piece true next) ps
    → map (sent_started now) ps ≡ ps
flight_run now next [] a = refl
flight_run now next (p ∷ ps) (h, a) =
    ap (λ z. z ∷ map (sent_started now) ps) (piece_run now next p h) ∙ ap (λ z. p ∷ z) (flight_run now next ps a)

-- Nothing is over before the next deadline

pub none_unsent : (now : ℕ) (run : Bool) (next : Option ℕ) (ms : List Waiting)
    → All (λ (m : Waiting). is_timely run next m.message) ms → is_due next now ≡ false
    → find (is_expired_unsent now) ms ≡ None
none_unsent now run next [] a due = refl
none_unsent now run next (m ∷ ms) (h, a) due =
    let late = ap (λ z. not m.begun && z) (not_over now run next m.message.policy m.message.deadline h due)
    ∙ and_false (not m.begun) in
    rw late (none_unsent now run next ms a due)

piece_waits : (now : ℕ) (run : Bool) (next : Option ℕ) (p : InFlight) → is_timely_piece run next p ≡ true
    → is_due next now ≡ false → is_expired_piece now p ≡ false
piece_waits now run next p e due =
    ⊎_elim (λ (a : p.abandoned ≡ true). rw a refl)
    (λ (a : p.abandoned ≡ false). let h = rw a at e in
    rw a (not_over now run next p.message.policy p.message.deadline h due))
    (cases_Bool p.abandoned)

all_wait : (now : ℕ) (run : Bool) (next : Option ℕ) (ps : List InFlight) → All (is_timely_piece run next) ps
    → is_due next now ≡ false → position_or_len (is_expired_piece now) ps ≡ length ps
all_wait now run next [] a due = refl
all_wait now run next (p ∷ ps) (h, a) due =
    let rest = all_wait now run next ps a due in
    rw (piece_waits now run next p h due) (omega (arith, rest))

not_less : (n : ℕ) → (nat_le (suc n) n) ≡ false
not_less n = grind (arith, nat_tests)

pub none_in_flight : (now : ℕ) (run : Bool) (next : Option ℕ) (ps : List InFlight) → All (is_timely_piece run next) ps
    → is_due next now ≡ false → position (is_expired_piece now) ps ≡ None
none_in_flight now run next ps a due = rw (all_wait now run next ps a due, not_less (length ps)) refl

-- What a look passes

pub expired_later : (now at : ℕ) (policy : Policy) (deadline : Option ℕ) → now ≤ at → is_past policy deadline now ≡ true
    → is_past policy deadline at ≡ true
expired_later now at Reliable deadline le e = e
expired_later now at (Rexmit n) deadline le e = e
expired_later now at (Timed ms) None le e = e
expired_later now at (Timed ms) (Some d) le e = grind (arith, nat_tests, le, e)

unsent_later : (now at : ℕ) (m : Waiting) → now ≤ at → is_expired_unsent now m ≡ true → is_expired_unsent at m ≡ true
unsent_later now at m le e =
    ⊎_elim (λ (b : m.begun ≡ true). let none = rw b at e in absurd (true≢false (sym none)))
    (λ (b : m.begun ≡ false). let late = rw b at e in
    rw b (expired_later now at m.message.policy m.message.deadline le late))
    (cases_Bool m.begun)

earlier_passed : (now at : ℕ) (ms : List Waiting) → now ≤ at
    → position_or_len (is_expired_unsent at) ms ≤ position_or_len (is_expired_unsent now) ms
earlier_passed now at [] le = omega arith
earlier_passed now at (m ∷ ms) le =
    let rest = earlier_passed now at ms le in
    ⊎_elim (λ (a : is_expired_unsent now m ≡ true). rw (a, unsent_later now at m le a) (omega arith))
    (λ (a : is_expired_unsent now m ≡ false).
    ⊎_elim (λ (b : is_expired_unsent at m ≡ true). rw (a, b) (omega arith))
    (λ (b : is_expired_unsent at m ≡ false). rw (a, b) (omega (arith, rest)))
    (cases_Bool (is_expired_unsent at m)))
    (cases_Bool (is_expired_unsent now m))

pub record Begins (now : ℕ) (look : Look) (ms : List Waiting) : Type 0 where
  pub index : look.index ≤ position_or_len (is_expired_unsent now) ms
  pub known : AllFrom look.next (take look.index ms)

-- a look may begin where an earlier one at the same moment, or a later one, ended
pub look_begins : (now : ℕ) (c : Clocks) (ms : List Waiting) → AreWaitingTimely c ms → Begins now (passed_by now c) ms
look_begins now c ms timely =
    ⊎_elim (λ (a : nat_le now c.passed_at ≡ true).
    let le : now ≤ c.passed_at = grind (arith, nat_tests, a) in
    let earlier = earlier_passed now c.passed_at ms le in
    rw a (record { index = omega (arith, earlier, timely.3); known = timely.4 }))
    (λ (a : nat_le now c.passed_at ≡ false). rw a (record { index = omega arith; known = tt }))
    (cases_Bool (nat_le now c.passed_at))

-- The changes of what waits

passed_more : (now : ℕ) (ms : List Waiting) (m : Waiting)
    → position_or_len (is_expired_unsent now) ms ≤ position_or_len (is_expired_unsent now) (ms ++ m ∷ [])
passed_more now [] m = omega arith
passed_more now (x ∷ xs) m =
    let rest = passed_more now xs m in
    ⊎_elim (λ (a : is_expired_unsent now x ≡ true). rw a (omega arith))
    (λ (a : is_expired_unsent now x ≡ false). rw a (omega (arith, rest)))
    (cases_Bool (is_expired_unsent now x))

run_more : (c : Clocks) (ms : List Waiting) (m : Waiting) → m.message.deadline ≡ None → AreWaitingTimely c ms
    → AllRun (take (accepted_by (is_timed m.message.policy) (length ms) c).running (ms ++ m ∷ []))
    × ((accepted_by (is_timed m.message.policy) (length ms) c).running ≤ length (ms ++ m ∷ []))
run_more c ms m none timely =
    let longer = length-append ms (m ∷ []) in
    ⊎_elim (λ (a : (c.running == length ms && not (is_timed m.message.policy)) ≡ true).
    let all : c.running ≡ length ms = grind (arith, nat_tests, a) in
    let own : is_running m ≡ true = by m.message.policy refl (grind (arith, nat_tests, a)) in
    let more = all_more is_running ms m (all_of is_running c.running ms (omega (arith, all)) timely.1) own in
    rw a (all_take is_running (min (length ms + 1) (2 ^ 64 - 1)) (ms ++ m ∷ []) more, omega (arith, longer)))
    (λ (a : (c.running == length ms && not (is_timed m.message.policy)) ≡ false).
    rw a (first_more is_running c.running ms m timely.2 timely.1, omega (arith, longer, timely.2)))
    (cases_Bool (c.running == length ms && not (is_timed m.message.policy)))
  where
    by : (policy : Policy) → policy ≡ m.message.policy → is_timed m.message.policy ≡ false → is_running m ≡ true
    by Reliable e untimed = rw (← e) refl
    by (Rexmit n) e untimed = rw (← e) refl
    by (Timed ms) e untimed = absurd (true≢false (rw (← e) at untimed))

-- a message more waits
pub timely_more : (c : Clocks) (ms : List Waiting) (ps : List InFlight) (m : Waiting) → m.message.deadline ≡ None
    → length ms < 2 ^ 64 → AreTimely c ms ps
    → AreTimely (accepted_by (is_timed m.message.policy) (length ms) c) (ms ++ m ∷ []) ps
timely_more c ms ps m none short (waiting, sent) =
    let within = prefix_len-le-length (λ (m : Waiting). not (is_expired_unsent c.passed_at m)) ms in
    let more = run_more c ms m none waiting in
    let passed = passed_more c.passed_at ms m in
    let from = all_more (is_from_next c.next_waiting) ms m waiting.0
    (rw none (accepted_under false c.next_waiting m.message.policy)) in
    let before = first_more (is_from_next c.passed_next) c.passed ms m (omega (arith, within, waiting.3)) waiting.4 in
    let cover = cover_more c.stretches ms m waiting.5 in
    let rest = rest_more (total c.stretches) ms m (omega (arith, waiting.2, waiting.6)) none waiting.7 in
    ⊎_elim (λ (a : (c.running == length ms && not (is_timed m.message.policy)) ≡ true).
    let runs = rw a at more in
    let all : c.running ≡ length ms = grind (arith, nat_tests, a) in
    rw a (
      (
        from,
        runs.0,
        runs.1,
        omega (arith, passed, waiting.3),
        before,
        cover,
        omega (arith, all, short, waiting.6),
        rest,
      ),
      sent,
    ))
    (λ (a : (c.running == length ms && not (is_timed m.message.policy)) ≡ false).
    let runs = rw a at more in
    rw a ((from, runs.0, runs.1, omega (arith, passed, waiting.3), before, cover, waiting.6, rest), sent))
    (cases_Bool (c.running == length ms && not (is_timed m.message.policy)))

total_left : (c : Clocks) → total c.stretches ≤ c.running → total (shortened_at 0 c.stretches) ≤ c.running - 1
total_left c le =
    let most = total_shorter 0 c.stretches in
    cases_lt_total (total c.stretches) refl
  where
    cases_lt_total : (n : ℕ) → n ≡ total c.stretches → total (shortened_at 0 c.stretches) ≤ c.running - 1
    cases_lt_total zero e = omega (arith, e, total_shorter 0 c.stretches)
    cases_lt_total (suc n) e = omega (arith, e, le, total_shorter_by 0 c.stretches (omega (arith, e)))

-- the next piece of the first message goes out
waiting_sent : (c : Clocks) (last : Bool) (m : Waiting) (ms : List Waiting) → last ≡ (length m.rest == 0)
    → AreWaitingTimely c (m ∷ ms) → AreWaitingTimely (sent_by m.message last c) (after_piece (m ∷ ms))
waiting_sent c last m ms is timely =
    ⊎_elim (λ (e : (length m.rest == 0) ≡ true).
    rw (is, e) (
      timely.0.1,
      first_behind is_running c.running (m ∷ ms) timely.1,
      omega (arith, timely.2),
      omega arith,
      tt,
      cover_left c.stretches m ms timely.5,
      total_left c timely.6,
      rest_left c.stretches m ms timely.7,
    ))
    (λ (e : (length m.rest == 0) ≡ false).
    rw (is, e) (
      timely.0,
      same_front c.running timely.1,
      timely.2,
      omega arith,
      tt,
      cover_begun c.stretches m ms timely.5,
      timely.6,
      rest_begun (total c.stretches) m ms timely.7,
    ))
    (cases_Bool (length m.rest == 0))
  where
    same_front : (n : ℕ) → AllRun (take n (m ∷ ms)) → AllRun (take n (without_piece m ∷ ms))
    same_front zero a = tt
    same_front (suc n) (h, a) = (h, a)

-- the first message waits no more
waiting_left : (c : Clocks) (m : Waiting) (ms : List Waiting) → AreWaitingTimely c (m ∷ ms)
    → AreWaitingTimely (sent_by m.message true c) ms
waiting_left c m ms timely = (
  timely.0.1,
  first_behind is_running c.running (m ∷ ms) timely.1,
  omega (arith, timely.2),
  omega arith,
  tt,
  cover_left c.stretches m ms timely.5,
  total_left c timely.6,
  rest_left c.stretches m ms timely.7,
)

run_first : (n : ℕ) (m : Waiting) (ms : List Waiting) → (n == 0) ≡ false → AllRun (take n (m ∷ ms))
    → is_running m ≡ true
run_first zero m ms e a = absurd (true≢false e)
run_first (suc n) m ms e (h, a) = h

-- the message of a piece that goes in flight now
front_timely : (c : Clocks) (last : Bool) (m : Waiting) (ms : List Waiting) → AreWaitingTimely c (m ∷ ms)
    → is_timely (sent_by m.message last c).sent_run (sent_by m.message last c).next_sent m.message ≡ true
front_timely c last m ms timely =
    ⊎_elim (λ (z : (c.running == 0) ≡ true).
    let own = rebound_under false (Some 0) c.next_sent m.message.policy m.message.deadline
    (from_zero m.message.policy m.message.deadline) in
    rw z (unstarted c.sent_run (sooner c.next_sent m.message) m.message.policy m.message.deadline own))
    (λ (z : (c.running == 0) ≡ false).
    let own = rebound_under true (Some 0) c.next_sent m.message.policy m.message.deadline
    (run_first c.running m ms z timely.1) in
    rw z (whether c.sent_run (sooner c.next_sent m.message) m.message.policy m.message.deadline own))
    (cases_Bool (c.running == 0))
  where
    unstarted : (run : Bool) (next : Option ℕ) (policy : Policy) (deadline : Option ℕ)
        → keeps_time false next policy deadline ≡ true
        → keeps_time (if is_timed policy then false else run) next policy deadline ≡ true
    unstarted run next Reliable deadline e = refl
    unstarted run next (Rexmit n) deadline e = refl
    unstarted run next (Timed ms) deadline e = e

    whether : (run : Bool) (next : Option ℕ) (policy : Policy) (deadline : Option ℕ)
        → keeps_time true next policy deadline ≡ true → keeps_time run next policy deadline ≡ true
    whether true next policy deadline e = e
    whether false next policy deadline e = unsaid_under true next policy deadline e

piece_unsaid : (run : Bool) (next : Option ℕ) (p : InFlight) → is_timely_piece run next p ≡ true
    → is_timely_piece false next p ≡ true
piece_unsaid run next p e =
    unsaid_under run (if p.abandoned then Some 0 else next) p.message.policy p.message.deadline e

-- the other pieces, beside it
beside_timely : (c : Clocks) (last : Bool) (a : Attributes) (ps : List InFlight) → AreSentTimely c ps
    → AreSentTimely (sent_by a last c) ps
beside_timely c last a ps sent =
    ⊎_elim (λ (z : (c.running == 0 && is_timed a.policy) ≡ true).
    rw z (all_weaker (is_timely_piece c.sent_run c.next_sent) (is_timely_piece false (sooner c.next_sent a))
    (λ p h. piece_sooner false (sooner c.next_sent a) c.next_sent p (sooner_still c.next_sent a.policy a.deadline)
    (piece_unsaid c.sent_run c.next_sent p h)) ps sent))
    (λ (z : (c.running == 0 && is_timed a.policy) ≡ false).
    rw z (all_weaker (is_timely_piece c.sent_run c.next_sent) (is_timely_piece c.sent_run (sooner c.next_sent a))
    (λ p h. piece_sooner c.sent_run (sooner c.next_sent a) c.next_sent p
    (sooner_still c.next_sent a.policy a.deadline) h)
    ps sent))
    (cases_Bool (c.running == 0 && is_timed a.policy))

-- the next piece goes out
pub timely_sent : (now : ℕ) (c : Clocks) (ms : List Waiting) (ps : List InFlight) (p : InFlight)
    → option_map (sent_once now) (slice_get ms 0) ≡ Some p → AreTimely c ms ps
    → AreTimely (sent_by p.message p.ending_fragment c) (after_piece ms) (ps ++ p ∷ [])
timely_sent now c [] ps p first timely = absurd (cc)
timely_sent now c (m ∷ ms) ps p first (waiting, sent) =
    let same : sent_once now m ≡ p = cc in
    let last = length m.rest == 0 in
    rw (← same) (
      waiting_sent c last m ms refl waiting,
      all_more (is_timely_piece (sent_by m.message last c).sent_run (sent_by m.message last c).next_sent) ps
          (sent_once now m) (beside_timely c last m.message ps sent) (front_timely c last m ms waiting),
    )

marker_timely : (c : Clocks) (m : Waiting) (ms : List Waiting) (ps : List InFlight) (p : InFlight)
    → p.message ≡ m.message → p.abandoned ≡ true → AreTimely c (m ∷ ms) ps
    → AreTimely (sent_by m.message true c) ms (ps ++ p ∷ [])
marker_timely c m ms ps p same gone (waiting, sent) =
    let front = front_timely c true m ms waiting in
    let run = (sent_by m.message true c).sent_run in
    let next = (sent_by m.message true c).next_sent in (
      waiting_left c m ms waiting,
      all_more (is_timely_piece run next) ps p (beside_timely c true m.message ps sent)
          (rw (gone, same) (late_under run next m.message.policy m.message.deadline front)),
    )

-- the rest of the first message is dropped, and a marker stands for it
pub timely_marker : (c : Clocks) (ms : List Waiting) (ps : List InFlight) (m : Waiting) (p : InFlight)
    → slice_get ms 0 ≡ Some m → p.message ≡ m.message → p.abandoned ≡ true → AreTimely c ms ps
    → AreTimely (sent_by m.message true c) (drop 1 ms) (ps ++ p ∷ [])
timely_marker c [] ps m p first same gone timely = absurd (cc)
timely_marker c (x ∷ ms) ps m p first same gone timely =
    let is : x ≡ m = cc in
    let own : p.message ≡ x.message = rw is same in
    rw is at (marker_timely c x ms ps p own gone timely)

-- The changes of what is in flight

pub timely_behind : (c : Clocks) (ms : List Waiting) (ps : List InFlight) → AreTimely c ms ps
    → AreTimely c ms (drop 1 ps)
timely_behind c ms ps (waiting, sent) = (waiting, all_behind (is_timely_piece c.sent_run c.next_sent) ps sent)

pub timely_changed : (c : Clocks) (f : InFlight → InFlight) → Keeps (is_timely_piece c.sent_run c.next_sent) f
    → (ms : List Waiting) (ps : List InFlight) → AreTimely c ms ps → AreTimely c ms (map f ps)
timely_changed c f keeps ms ps (waiting, sent) =
    (waiting, all_changed (is_timely_piece c.sent_run c.next_sent) f keeps ps sent)

pub timely_first : (c : Clocks) (f : InFlight → InFlight) → Keeps (is_timely_piece c.sent_run c.next_sent) f → (n : ℕ)
    (ms : List Waiting) (ps : List InFlight) → AreTimely c ms ps → AreTimely c ms (map f (take n ps) ++ drop n ps)
timely_first c f keeps n ms ps (waiting, sent) =
    (waiting, first_changed (is_timely_piece c.sent_run c.next_sent) f keeps n ps sent)

pub timely_at : (c : Clocks) (f : InFlight → InFlight) → Keeps (is_timely_piece c.sent_run c.next_sent) f
    → (ms : List Waiting) (ps : List InFlight) (i : ℕ) (x : InFlight) → slice_get ps i ≡ Some x → AreTimely c ms ps
    → AreTimely c ms (slice_set ps i (f x))
timely_at c f keeps ms ps i x there (waiting, sent) =
    (waiting, one_changed (is_timely_piece c.sent_run c.next_sent) f keeps ps i x there sent)

pub acked_keeps : (run : Bool) (next : Option ℕ) (p : InFlight) → is_timely_piece run next p ≡ true
    → is_timely_piece run next (acked p) ≡ true
acked_keeps run next p e = e

pub marked_keeps : (run : Bool) (next : Option ℕ) (p : InFlight) → is_timely_piece run next p ≡ true
    → is_timely_piece run next (marked_again p) ≡ true
marked_keeps run next p e =
    ⊎_elim (λ (a : is_outstanding p ≡ true). rw a e) (λ (a : is_outstanding p ≡ false). rw a e)
    (cases_Bool (is_outstanding p))

pub resent_keeps : (by : Retransmission) (run : Bool) (next : Option ℕ) (p : InFlight)
    → is_timely_piece run next p ≡ true → is_timely_piece run next (counted_again by p) ≡ true
resent_keeps causes.Timer run next p e = e
resent_keeps causes.Fast run next p e = e

pub timely_resent : (by : Retransmission) (c : Clocks) (ms : List Waiting) (ps : List InFlight) (i : ℕ) (x : InFlight)
    → slice_get ps i ≡ Some x → AreTimely c ms ps → AreTimely c ms (slice_set ps i (counted_again by x))
timely_resent by c ms ps i x there timely =
    timely_at c (counted_again by) (resent_keeps by c.sent_run c.next_sent) ms ps i x there timely

pub reported_keeps : (r : Reports) (run : Bool) (next : Option ℕ) (p : InFlight)
    → is_timely_piece run next p ≡ true → is_timely_piece run next (reported_missing r p) ≡ true
reported_keeps r run next p e =
    ⊎_elim (λ (a : is_reported r p ≡ true). rw a e) (λ (a : is_reported r p ≡ false). rw a e)
    (cases_Bool (is_reported r p))

pub flagged_keeps : (id : ℕ) (run : Bool) (next : Option ℕ) (p : InFlight) → is_timely_piece run next p ≡ true
    → is_timely_piece run next (flagged id p) ≡ true
flagged_keeps id run next p e =
    ⊎_elim (λ (a : is_of id p ≡ true).
    rw a (late_under run (if p.abandoned then Some 0 else next) p.message.policy p.message.deadline e))
    (λ (a : is_of id p ≡ false). rw a e)
    (cases_Bool (is_of id p))

-- of the first so many each still runs
run_dropped : (now n : ℕ) (ms : List Waiting) → AllRun (take n ms)
    → AllRun (take (if nat_lt (position_or_len (is_expired_unsent now) ms) n then n - 1 else n)
    (without_expired now ms))
run_dropped now n ms run =
    ⊎_elim (λ (e : nat_lt (position_or_len (is_expired_unsent now) ms) n ≡ true).
    rw e (first_without true (Some 0) now n ms run))
    (λ (e : nat_lt (position_or_len (is_expired_unsent now) ms) n ≡ false).
    let le : n ≤ position_or_len (is_expired_unsent now) ms = grind (arith, nat_tests, e) in
    rw (e, before_same now n ms le) run)
    (cases_Bool (nat_lt (position_or_len (is_expired_unsent now) ms) n))

within_dropped : (at n : ℕ) (ss : List Stretch) (ms ns : List Waiting) → n ≤ length ms → length ms ≤ length ns + 1
    → at ≤ length ns → total ss ≤ n
    → ((if nat_lt at n then n - 1 else n) ≤ length ns)
    × (total (shortened_at at ss) ≤ (if nat_lt at n then n - 1 else n))
within_dropped at n ss ms ns le short within covered =
    let most = total_shorter at ss in
    ⊎_elim (λ (e : nat_lt at n ≡ true).
    let lt : at < n = grind (arith, nat_tests, e) in
    rw e (
      omega (arith, le, short, lt),
      ⊎_elim (λ (b : nat_lt at (total ss) ≡ true).
          let less = total_shorter_by at ss (grind (arith, nat_tests, b)) in
          omega (arith, less, covered, lt))
          (λ (b : nat_lt at (total ss) ≡ false).
          let over : total ss ≤ at = grind (arith, nat_tests, b) in
          omega (arith, over, most, lt))
          (cases_Bool (nat_lt at (total ss))),
    ))
    (λ (e : nat_lt at n ≡ false).
    let over : n ≤ at = grind (arith, nat_tests, e) in
    rw e (omega (arith, over, within), omega (arith, most, covered)))
    (cases_Bool (nat_lt at n))

-- an expired message to which a look came is dropped
pub timely_dropped : (now : ℕ) (look : Look) (c : Clocks) (ms : List Waiting) (ps : List InFlight)
    → look.index ≡ position_or_len (is_expired_unsent now) ms → AllFrom look.next (take look.index ms)
    → AreTimely c ms ps → AreTimely (dropped_by look now c) (without_expired now ms) ps
timely_dropped now look c ms ps at known (waiting, sent) =
    let less = shorter now ms in
    let passed = passed_without now ms in
    let before = rw at at known in
    let ends = prefix_len-le-length (λ (m : Waiting). not (is_expired_unsent now m)) (without_expired now ms) in
    let within = within_dropped (position_or_len (is_expired_unsent now) ms) c.running c.stretches ms
    (without_expired now ms) waiting.2 less (omega (arith, passed, ends)) waiting.6 in
    let first = before_same now (position_or_len (is_expired_unsent now) ms) ms (omega arith) in
    rw at (
      (
        without_keeps now false c.next_waiting ms waiting.0,
        run_dropped now c.running ms waiting.1,
        within.0,
        omega (arith, passed),
        rw first before,
        cover_without now c.stretches ms waiting.5,
        within.1,
        rest_without now c.stretches ms (omega (arith, waiting.2, waiting.6)) waiting.7,
      ),
      sent,
    )

-- a look that found none goes over all
pub timely_looked : (now : ℕ) (look : Look) (c : Clocks) (ms : List Waiting) (ps : List InFlight)
    → look.index ≡ position_or_len (is_expired_unsent now) ms → None ≡ find (is_expired_unsent now) ms
    → AllFrom look.next (take look.index ms) → AreTimely c ms ps
    → AreTimely (record c { next_waiting = look.next }) (without_expired now ms) ps
timely_looked now look c ms ps at none known (waiting, sent) =
    let whole = none_before now ms (sym none) in
    let same = without_none now ms (sym none) in
    rw same (
      (
        from_all look.next look.index ms (omega (arith, at, whole)) known,
        waiting.1,
        waiting.2,
        waiting.3,
        waiting.4,
        waiting.5,
        waiting.6,
        waiting.7,
      ),
      sent,
    )
  where
    none_before : (now : ℕ) (ms : List Waiting) → find (is_expired_unsent now) ms ≡ None
        → length ms ≤ position_or_len (is_expired_unsent now) ms
    none_before now [] e = omega arith
    none_before now (m ∷ ms) e =
        ⊎_elim (λ (a : is_expired_unsent now m ≡ true). let some = rw a at e in absurd (cc))
        (λ (a : is_expired_unsent now m ≡ false). let rest = none_before now ms (rw a at e) in
        rw a (omega (arith, rest)))
        (cases_Bool (is_expired_unsent now m))

-- stretches got other moments
pub timely_raised : (c : Clocks) (ss : List Stretch) (ms : List Waiting) (ps : List InFlight) → Cover ss ms
    → total ss ≡ total c.stretches → AreTimely c ms ps → AreTimely (record c { stretches = ss }) ms ps
timely_raised c ss ms ps cover same (waiting, sent) = (
  (
    waiting.0,
    waiting.1,
    waiting.2,
    waiting.3,
    waiting.4,
    cover,
    omega (arith, same, waiting.6),
    rw same waiting.7,
  ),
  sent,
)

-- what is in flight was looked at anew
pub timely_sent_anew : (c : Clocks) (ms : List Waiting) (ps : List InFlight) → AreTimely c ms ps
    → AreTimely (record c { next_sent = fold sooner_piece None ps }) ms ps
timely_sent_anew c ms ps (waiting, sent) = (waiting, flight_rebound c.sent_run c.next_sent None ps sent)

-- Starting

pub sent_runs : (now : ℕ) (c : Clocks) (ps : List InFlight)
    → AreSentTimely (record c { sent_run = true; next_sent = fold sooner_piece None (map (sent_started now) ps) })
    (map (sent_started now) ps)
sent_runs now c ps = flight_rebound true (Some 0) None (map (sent_started now) ps) (flight_runs now ps)

pub sent_run_already : (now : ℕ) (c : Clocks) (ps : List InFlight) → c.sent_run ≡ true → AreSentTimely c ps
    → ps ≡ map (sent_started now) ps
sent_run_already now c ps runs sent = sym (flight_run now c.next_sent ps (rw runs at sent))

pub sent_still : (c : Clocks) (ps : List InFlight) → c.sent_run ≡ true → AreSentTimely c ps
    → AreSentTimely (record c { sent_run = true; next_sent = c.next_sent }) ps
sent_still c ps runs sent = rw runs at sent

-- once all times are started, and what was in no stretch is in one
pub timely_started : (c : Clocks) (now covered : ℕ) (next next_sent : Option ℕ) (ss : List Stretch)
    (ms : List Waiting) (ps qs : List InFlight) → AreTimely c ms ps → covered ≡ total c.stretches
    → AllFrom next (drop covered (map (waiting_started now) ms)) → AllRun (map (waiting_started now) ms)
    → AreSentTimely (record c { sent_run = true; next_sent = next_sent }) qs → total ss ≡ length ms
    → ((ns : List Waiting) → length ns ≡ length ms → Cover c.stretches ns → AllFrom next (drop covered ns)
    → Cover ss ns)
    → AreTimely (started_with (length ms) (soonest c.next_waiting next) next_sent ss)
    (map (waiting_started now) ms) qs
timely_started c now covered next next_sent ss ms ps qs (waiting, old) is from run sent all covers =
    let len = length-map ms (waiting_started now) in
    let first = all_first is_running covered c.running ms (omega (arith, is, waiting.6)) waiting.1 in
    let same = take-map (waiting_started now) covered ms ∙ waiting_run now (Some 0) (take covered ms) first in
    let old_from = all_take (is_from_next c.next_waiting) covered ms waiting.0 in
    let next_waiting = soonest c.next_waiting next in (
      (
        all_parts (is_from_next next_waiting) covered (map (waiting_started now) ms)
            (rw same (from_either c.next_waiting next (take covered ms) old_from))
            (from_other c.next_waiting next (drop covered (map (waiting_started now) ms)) from),
        all_take is_running (length ms) (map (waiting_started now) ms) run,
        omega (arith, len),
        omega arith,
        tt,
        covers (map (waiting_started now) ms) len
            (cover_started now c.running c.stretches ms waiting.6 waiting.1 waiting.5) from,
        omega (arith, all),
        rw all (nothing_behind (is_from_next None) (length ms) (map (waiting_started now) ms) (omega (arith, len))),
      ),
      sent,
    )

-- the calls that ask for what is over

pub no_expiry : (now : ℕ) (c : Clocks) (q : Outbound) → AreTimely c q.pending q.in_flight
    → is_due c.next_waiting now ≡ false → after_expiry now q ≡ (q, None)
no_expiry now c q (waiting, sent) due =
    let none = none_unsent now false c.next_waiting q.pending waiting.0 due in
    let same = without_none now q.pending none in
    rw (none, same) refl

pub none_over : (now : ℕ) (c : Clocks) (q : Outbound) → AreTimely c q.pending q.in_flight
    → is_due c.next_sent now ≡ false → None ≡ position (is_expired_piece now) q.in_flight
none_over now c q (waiting, sent) due = sym (none_in_flight now c.sent_run c.next_sent q.in_flight sent due)

pub all_started_already : (now : ℕ) (c : Clocks) (q : Outbound) → c.running ≡ length q.pending → c.sent_run ≡ true
    → AreTimely c q.pending q.in_flight → q ≡ all_started now q
all_started_already now c q all runs (waiting, sent) =
    let run = all_of is_running c.running q.pending (omega (arith, all)) waiting.1 in
    let a = waiting_run now (Some 0) q.pending run in
    let b = sym (sent_run_already now c q.in_flight runs sent) in
    rw (a, b) refl
