-- Of what waits nothing is at or past its deadline, once what is so was given up or dropped; so nothing late goes out
-- for the first time.
use Rattle.std.proofs.Common.{◌≡◌, refl, sym, ap, ◌∙◌, subst, ⊎_elim, ℕ, zero, suc, ◌≤◌, arith, Bool, true, false}
use Rattle.std.proofs.Common.{cond, if◌then◌else◌, not, ◌&&◌, ◌==◌, List, [], ◌∷◌, ◌++◌, length, map, slice_get, Option}
use Rattle.std.proofs.Common.{Some, None}
use Rattle.std.proofs.lemmas.Bool.{cases_Bool, false≢true}
use Rattle.std.proofs.lemmas.List.Sums.{count_by-le-length, sum_by-cons}
use Rattle.std.specs.Prelude.{⊤}
use Rattle.std.specs.List.{AllByRecursion, count_by}
use Rattle.std.specs.Option.{option_map}
use Rattle.sctp_outbound_queue.specs.declared.message.Attributes.{Attributes}
use Rattle.sctp_outbound_queue.specs.declared.message.InFlight.{InFlight}
use Rattle.sctp_outbound_queue.specs.declared.message.Retransmission.{Retransmission}
use Rattle.sctp_outbound_queue.specs.Expiry.{without_expired}
use Rattle.sctp_outbound_queue.specs.Message.{counted_again, is_expired, is_expired_unsent, marker_of, moved_down}
use Rattle.sctp_outbound_queue.specs.Message.{share_ssns, without_piece}
use Rattle.sctp_outbound_queue.specs.Outbound.{Outbound, changed_from, sent_from, tail_dropped_from}
use Rattle.sctp_outbound_queue.specs.Waiting.{Waiting}
use Rattle.sctp_streams.specs.Streams.{StreamMap}
use Rattle.sctp_outbound.specs.declared.sender.Sender.{Sender}
use Rattle.sctp_outbound.specs.Abandonment.{dropped_by, dropped_first, first_dropped}
use Rattle.sctp_fit.specs.Drops.{without_at}
use Rattle.sctp_directions.specs.Acts.{Act, Parts, done, with_abandoned, with_dropped}
use Rattle.sctp_sides.specs.Lifetimes.{GiveNothingLate, is_late}
use Rattle.sctp_sides.specs.SideLaws.{GivesNew}
use Rattle.sctp_sides.proofs.FirstBegun.{AreBehind, IsFirstBegun, IsOrderly, moved_behind}

-- The first message

-- where something was sent of the first message, it is not late
abbrev pub IsFirstInTime : ℕ → List Waiting → Type 0
IsFirstInTime now [] = ⊤
IsFirstInTime now (m ∷ ms) = m.begun ≡ true → is_expired now m.message ≡ false

-- of messages behind the first one nothing was sent
pub unbegun_in_time : (now from : ℕ) (ms : List Waiting) (next : ℕ) → AreBehind from ms next → IsFirstInTime now ms
unbegun_in_time now from [] next h = tt
unbegun_in_time now from (m ∷ ms) next (less, begun, rest) =
    λ (e : m.begun ≡ true). absurd (false≢true (sym begun ∙ e))

pub again_first : (now : ℕ) (by : Retransmission) (o : Option InFlight) (q : Outbound) (index : ℕ)
    → IsFirstInTime now q.pending → IsFirstInTime now (changed_from (counted_again by) o q index).pending
again_first now by None q index h = h
again_first now by (Some x) q index h = h

tail_first : (now : ℕ) (ms : List Waiting) (q : Outbound) (id : ℕ) → IsFirstBegun ms q.in_flight q.next_message_id
    → IsFirstInTime now q.pending → IsFirstInTime now (tail_dropped_from ms q id).0.pending
tail_first now [] q id orderly h = h
tail_first now (m ∷ ms) q id (before, rest) h =
    tail_if (m.message.message_id == id)
    (record q { pending = ms; in_flight = q.in_flight ++ marker_of m.message ∷ [] }) q _ _
    (unbegun_in_time now (suc m.message.message_id) ms q.next_message_id rest) h
  where
    tail_if : (c : Bool) (p q : Outbound) (n k : ℕ) → IsFirstInTime now p.pending → IsFirstInTime now q.pending
        → IsFirstInTime now (if◌then◌else◌ {A = Outbound × ℕ} c (p, n) (q, k)).0.pending
    tail_if true p q n k a b = a
    tail_if false p q n k a b = b

pub given_up_first : (now : ℕ) (o : Option InFlight) (p : Parts) → IsOrderly p.queue
    → IsFirstInTime now p.queue.pending → IsFirstInTime now (with_abandoned o p).queue.pending
given_up_first now None p orderly h = h
given_up_first now (Some x) p orderly h =
    tail_first now p.queue.pending p.queue x.message.message_id orderly h

without_first : (now k : ℕ) (ms : List Waiting) (pieces : List InFlight) (next : ℕ) → IsFirstBegun ms pieces next
    → IsFirstInTime now ms → IsFirstInTime now (without_at k ms)
without_first now k [] pieces next orderly h = h
without_first now zero (m ∷ ms) pieces next (before, rest) h =
    unbegun_in_time now (suc m.message.message_id) (map (moved_down m.message) ms) next
    (moved_behind m.message (suc m.message.message_id) ms next rest)
without_first now (suc k) (m ∷ ms) pieces next orderly h = h

pub first_behind_drop : (now k : ℕ) (o : Option Waiting) (p : Parts) → IsOrderly p.queue
    → IsFirstInTime now p.queue.pending → IsFirstInTime now (with_dropped k o p).queue.pending
first_behind_drop now k None p orderly h = h
first_behind_drop now k (Some x) p orderly h =
    without_first now k p.queue.pending p.queue.in_flight p.queue.next_message_id orderly h

-- Messages of which nothing was sent

abbrev late_count : ℕ → List Waiting → ℕ
late_count now ms = count_by (is_expired_unsent now) ms

abbrev one_if : ℕ → Waiting → ℕ
one_if now m = cond (is_expired_unsent now m) 1 0

moved_is : (now : ℕ) (a : Attributes) (m : Waiting) → one_if now (moved_down a m) ≡ one_if now m
moved_is now a m =
    ⊎_elim (λ (s : share_ssns a m.message ≡ true). rw s refl) (λ (s : share_ssns a m.message ≡ false). rw s refl)
    (cases_Bool (share_ssns a m.message))

all_moved : (now : ℕ) (a : Attributes) (ms : List Waiting) → late_count now (map (moved_down a) ms) ≡ late_count now ms
all_moved now a [] = refl
all_moved now a (m ∷ ms) =
    let one = moved_is now a m in
    let more = all_moved now a ms in
    let before = sum_by-cons (one_if now) m ms in
    let after = sum_by-cons (one_if now) (moved_down a m) (map (moved_down a) ms) in
    omega (arith, one, more, before, after)

-- one fewer with each drop
one_fewer : (now n : ℕ) (ms : List Waiting) → late_count now ms ≤ suc n → late_count now (without_expired now ms) ≤ n
one_fewer now n [] less = omega arith
one_fewer now n (m ∷ ms) less =
    let all = sum_by-cons (one_if now) m ms in
    ⊎_elim
    (λ (late : is_expired_unsent now m ≡ true).
    let one : one_if now m ≡ 1 = ap (λ z. cond z 1 0) late in
    let moved = all_moved now m.message ms in
    rw late (omega (arith, all, one, moved, less)))
    (λ (late : is_expired_unsent now m ≡ false).
    let one : one_if now m ≡ 0 = ap (λ z. cond z 1 0) late in
    let rest = one_fewer now n ms (omega (arith, all, one, less)) in
    let left = sum_by-cons (one_if now) m (without_expired now ms) in
    rw late (omega (arith, left, one, rest)))
    (cases_Bool (is_expired_unsent now m))

-- none of them is late
abbrev AreUnsentInTime : ℕ → List Waiting → Type 0
AreUnsentInTime now ms = AllByRecursion (λ (m : Waiting). is_expired_unsent now m ≡ false) ms

none_counted : (now : ℕ) (ms : List Waiting) → late_count now ms ≤ 0 → AreUnsentInTime now ms
none_counted now [] less = tt
none_counted now (m ∷ ms) less =
    let all = sum_by-cons (one_if now) m ms in
    ⊎_elim
    (λ (late : is_expired_unsent now m ≡ true).
    let one : one_if now m ≡ 1 = ap (λ z. cond z 1 0) late in absurd (omega (arith, all, one, less)))
    (λ (late : is_expired_unsent now m ≡ false). (late, none_counted now ms (omega (arith, all, less))))
    (cases_Bool (is_expired_unsent now m))

queue_behind : (now : ℕ) (all : Sender × StreamMap)
    → (first_dropped now all).0.queue.pending ≡ without_expired now all.0.queue.pending
unfolding first_dropped
queue_behind now (s, m) = refl

none_after : (n now : ℕ) (all : Sender × StreamMap) → late_count now all.0.queue.pending ≤ n
    → AreUnsentInTime now (dropped_first n now all).0.queue.pending
none_after zero now all less = none_counted now all.0.queue.pending less
none_after (suc n) now all less =
    none_after n now (first_dropped now all)
    (subst (λ (ms : List Waiting). late_count now ms ≤ n) (sym (queue_behind now all))
    (one_fewer now n all.0.queue.pending less))

-- nor is any, where FORWARD TSN is in use, once those that are were dropped
pub drops_leave_none : (uses : Bool) (now : ℕ) (all : Sender × StreamMap) → uses ≡ true
    → AreUnsentInTime now (dropped_by uses now all).0.queue.pending
drops_leave_none true now all e =
    none_after (length all.0.queue.pending) now all
    (count_by-le-length (is_expired_unsent now) all.0.queue.pending)
drops_leave_none false now all e = absurd (false≢true e)

-- All that waits

abbrev pub AreWaitingInTime : ℕ → List Waiting → Type 0
AreWaitingInTime now ms = AllByRecursion (λ (m : Waiting). is_expired now m.message ≡ false) ms

unsent_is : (begun expired : Bool) → begun ≡ false → (not begun && expired) ≡ false → expired ≡ false
unsent_is true expired e late = absurd (false≢true (sym e))
unsent_is false expired e late = late

behind_in_time : (now from : ℕ) (ms : List Waiting) (next : ℕ) → AreBehind from ms next → AreUnsentInTime now ms
    → AreWaitingInTime now ms
behind_in_time now from [] next h late = tt
behind_in_time now from (m ∷ ms) next (less, begun, rest) (one, more) = (
  unsent_is m.begun (is_expired now m.message) begun one,
  behind_in_time now (suc m.message.message_id) ms next rest more,
)

pub waiting_in_time : (now : ℕ) (ms : List Waiting) (pieces : List InFlight) (next : ℕ) → IsFirstBegun ms pieces next
    → IsFirstInTime now ms → AreUnsentInTime now ms → AreWaitingInTime now ms
waiting_in_time now [] pieces next orderly first late = tt
waiting_in_time now (m ∷ ms) pieces next (before, rest) first (one, more) = (
  ⊎_elim (λ (begun : m.begun ≡ true). first begun)
      (λ (begun : m.begun ≡ false). unsent_is m.begun (is_expired now m.message) begun one) (cases_Bool m.begun),
  behind_in_time now (suc m.message.message_id) ms next rest more,
)

-- New DATA

first_is_not_late : (now : ℕ) (ms : List Waiting) → AreWaitingInTime now ms
    → is_late now (option_map (λ (m : Waiting). m.message) (slice_get ms 0)) ≡ false
first_is_not_late now [] h = refl
first_is_not_late now (m ∷ ms) (one, more) = one

left_if : (now : ℕ) (last : Bool) (m : Waiting) (ms : List Waiting) → AreWaitingInTime now (m ∷ ms)
    → AreWaitingInTime now (if last then ms else without_piece m ∷ ms)
left_if now true m ms (one, more) = more
left_if now false m ms (one, more) = (one, more)

sent_in_time : (now moment : ℕ) (ms : List Waiting) (q : Outbound) → AreWaitingInTime now ms
    → AreWaitingInTime now q.pending → AreWaitingInTime now (sent_from ms q moment).pending
sent_in_time now moment [] q h all = all
sent_in_time now moment (m ∷ ms) q h all = left_if now (length m.rest == 0) m ms h

-- where nothing that waits is late, nothing late goes out for the first time
pub new_acts_in_time : (now : ℕ) (acts : List Act) (p : Parts) → AllByRecursion GivesNew acts
    → AreWaitingInTime now p.queue.pending → GiveNothingLate now acts p
new_acts_in_time now [] p only h = tt
new_acts_in_time now (Act.Sent at_once moment ∷ acts) p (one, only) h = (
  first_is_not_late now p.queue.pending h,
  new_acts_in_time now acts (done (Act.Sent at_once moment) p) only (sent_in_time now moment p.queue.pending p.queue h h),
)
new_acts_in_time now (act ∷ acts) p (one, only) h = absurd one
