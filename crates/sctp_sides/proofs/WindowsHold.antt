-- New DATA stays within the congestion window, or is alone in flight.
use Rattle.std.proofs.Common.{◌≡◌, refl, sym, ap, ◌∙◌, subst, ◌⊎◌, ⊎_elim, inl, inr, ℕ, zero, suc, ◌<◌, ◌≤◌, ◌+◌, ◌-◌}
use Rattle.std.proofs.Common.{◌^◌, arith, min, Bool, true, false, eqb, ◌&&◌, ◌||◌, not, if◌then◌else◌, List, [], ◌∷◌}
use Rattle.std.proofs.Common.{◌++◌}
use Rattle.std.proofs.Common.{length, nat_le, slice_get, Some}
use Rattle.std.specs.List.{AllByRecursion, list_any}
use Rattle.std.proofs.lemmas.Bool.{and_parts, cases_Bool, eqb-true, false≢true, leb-true, or_left, or_right}
use Rattle.std.proofs.lemmas.Bool.{true≢false}
use Rattle.std.proofs.lemmas.List.{length-append}
use Rattle.std.proofs.lemmas.List.Folds.{list_any-append}
use Rattle.std.proofs.lemmas.List.Sums.{sum_by_push}
use Rattle.sctp_wire_types.specs.declared.chunk.ChunkPayloadData.{ChunkPayloadData}
use Rattle.sctp_outbound_queue.specs.declared.message.InFlight.{InFlight}
use Rattle.sctp_outbound_queue.specs.Message.{outstanding_bytes, sent_once}
use Rattle.sctp_outbound_queue.specs.Waiting.{Waiting}
use Rattle.sctp_outbound_queue.specs.Outbound.{outstanding_of, pieces_waiting}
use Rattle.sctp_outbound.specs.declared.sender.Sender.{Sender}
use Rattle.sctp_streams.specs.Streams.{StreamMap}
use Rattle.sctp_outbound.specs.Abandonment.{abandoned_of, first_dropped, tail_given_up}
use Rattle.sctp_outbound.specs.Forward.{forward_given}
use Rattle.sctp_outbound.specs.Sender.{asks_at_once, can_send_next, fits_windows, sent_new, sent_one, sent_within, window_left}
use Rattle.sctp_directions.specs.Acts.{Act}
use Rattle.sctp_assoc.specs.Calls.{exchanges_data}
use Rattle.sctp_assoc.specs.Gather.{data_polled, fast_polled, is_due, late_dropped, open_polled, polled}
use Rattle.sctp_assoc.specs.Happened.{acts_of_ack, acts_of_data_poll, acts_of_ending, acts_of_exchange}
use Rattle.sctp_assoc.specs.Happened.{acts_of_forwarding, acts_of_new, acts_of_poll, acts_of_sending, first_sent}
use Rattle.sctp_assoc.specs.Happened.{forwards_of_poll}
use Rattle.sctp_assoc.specs.Shutdown.{completes_shutdown}
use Rattle.sctp_assoc.specs.Shown.{Shown, uses_forward_tsn}
use Rattle.sctp_sides.specs.Laws.{NewDataStaysInTheCongestionWindow}
use Rattle.sctp_sides.specs.SideLaws.{GivesUpOrAgain}
use Rattle.sctp_sides.proofs.ActsOfChunks.{data_poll_acts, new_acts, old_acts, old_acts_are_old}
use Rattle.sctp_sides.proofs.GivingUpKeeps.{KeptByPolls, drops_poll_kept}
use Rattle.sctp_sides.proofs.PollsLeave.{polled_sender as sender_left}

-- Of a sender.

-- what is outstanding is within the congestion window
abbrev IsWithinWindow : Sender → Type 0
IsWithinWindow s = outstanding_of s.queue.in_flight ≤ s.congestion.cwnd

-- the next piece goes out, where it fits
one_fits : (ms : List Waiting) (s : Sender) (now : ℕ) → s.queue.pending ≡ ms → s.congestion.cwnd < 2 ^ 32
    → fits_windows s (slice_get ms 0) ≡ true → IsWithinWindow (sent_one ms s now).0
unfolding sent_one
one_fits [] s now e bound fits = absurd (false≢true fits)
one_fits (m ∷ ms) s now e bound fits =
    let windows =
    and_parts (nat_le (min (outstanding_of s.queue.in_flight + length m.user_data) (2 ^ 64 - 1)) s.congestion.cwnd
    && nat_le (length m.user_data) (window_left s)) _ fits in
    let parts =
    and_parts (nat_le (min (outstanding_of s.queue.in_flight + length m.user_data) (2 ^ 64 - 1)) s.congestion.cwnd) _
    windows.0 in
    let within = leb-true _ _ parts.0 in
    let push = sum_by_push outstanding_bytes s.queue.in_flight (sent_once now m) in
    rw e (omega (arith, within, push, bound))

one_window : (ms : List Waiting) (s : Sender) (now : ℕ) → (sent_one ms s now).0.congestion.cwnd ≡ s.congestion.cwnd
unfolding sent_one
one_window [] s now = refl
one_window (m ∷ ms) s now = refl

-- nothing more is in flight, or what is outstanding is within the window
abbrev GrowsWithin : Sender → Sender → Type 0
GrowsWithin s t = (t.queue.in_flight ≡ s.queue.in_flight) ⊎ IsWithinWindow t

within_on : (s t u : Sender) → IsWithinWindow t → u.congestion.cwnd ≡ t.congestion.cwnd → GrowsWithin t u
    → GrowsWithin s u
within_on s t u within same (inl e) =
    let flown = ap (λ (z : List InFlight). outstanding_of z) e in inr (omega (arith, within, same, flown))
within_on s t u within same (inr h) = inr h

window_if : (c : Bool) (x y : Sender × List ChunkPayloadData) (window : ℕ) → x.0.congestion.cwnd ≡ window
    → y.0.congestion.cwnd ≡ window → (if c then x else y).0.congestion.cwnd ≡ window
window_if true x y window e f = e
window_if false x y window e f = f

within_window : (n : ℕ) (s : Sender) (now : ℕ) → (sent_within n s now).0.congestion.cwnd ≡ s.congestion.cwnd
within_window zero s now = refl
within_window (suc n) s now =
    let one = sent_one s.queue.pending s now in
    let rest = sent_within n one.0 now in
    window_if (can_send_next s) (rest.0, one.1 ++ rest.1) (s, []) s.congestion.cwnd
    (within_window n one.0 now ∙ one_window s.queue.pending s now) refl

within_fits : (n : ℕ) (s : Sender) (now : ℕ) → s.congestion.cwnd < 2 ^ 32 → GrowsWithin s (sent_within n s now).0
within_fits zero s now bound = inl refl
within_fits (suc n) s now bound = ⊎_elim
    (λ (fits : can_send_next s ≡ true).
    let one = sent_one s.queue.pending s now in
    let same = one_window s.queue.pending s now in
    rw fits (within_on s one.0 (sent_within n one.0 now).0 (one_fits s.queue.pending s now refl bound fits)
    (within_window n one.0 now) (within_fits n one.0 now (omega (arith, same, bound)))))
    (λ (full : can_send_next s ≡ false). rw full (inl refl))
    (cases_Bool (can_send_next s))

one_alone : (ms : List Waiting) (s : Sender) (now : ℕ) → s.queue.pending ≡ ms → length s.queue.in_flight ≡ 0
    → (length (sent_one ms s now).0.queue.in_flight ≡ 0) ⊎ (length (sent_one ms s now).0.queue.in_flight ≡ 1)
unfolding sent_one
one_alone [] s now e none = inl none
one_alone (m ∷ ms) s now e none =
    let more = length-append s.queue.in_flight (sent_once now m ∷ []) in rw e (inr (omega (arith, more, none)))

-- as many pieces are in flight as before, or they are within the window, or there is one
abbrev Stays : Sender → Sender → Type 0
Stays s t =
    (length t.queue.in_flight ≤ length s.queue.in_flight)
    ⊎ (IsWithinWindow t ⊎ (length t.queue.in_flight ≡ 1))

new_if : (c : Bool) (s : Sender) (now : ℕ) → s.congestion.cwnd < 2 ^ 32
    → (eqb (length s.queue.in_flight) 0 && not (can_send_next s)) ≡ c
    → Stays s (if c then sent_one s.queue.pending s now else sent_within (pieces_waiting s.queue.pending) s now).0
new_if true s now bound e =
    let none = eqb-true (length s.queue.in_flight) 0 (and_parts (eqb (length s.queue.in_flight) 0) _ e).0 in
    ⊎_elim
    (λ (empty : length (sent_one s.queue.pending s now).0.queue.in_flight ≡ 0). inl (omega (arith, empty)))
    (λ (one : length (sent_one s.queue.pending s now).0.queue.in_flight ≡ 1). inr (inr one))
    (one_alone s.queue.pending s now refl none)
new_if false s now bound e = ⊎_elim
    (λ (same : (sent_within (pieces_waiting s.queue.pending) s now).0.queue.in_flight ≡ s.queue.in_flight).
    let flown = ap (λ (z : List InFlight). length z) same in inl (omega (arith, flown)))
    (λ (within : IsWithinWindow (sent_within (pieces_waiting s.queue.pending) s now).0). inr (inl within))
    (within_fits (pieces_waiting s.queue.pending) s now bound)

new_stays : (s : Sender) (now : ℕ) → s.congestion.cwnd < 2 ^ 32 → Stays s (sent_new s now).0
new_stays s now bound = new_if (eqb (length s.queue.in_flight) 0 && not (can_send_next s)) s now bound refl

-- as many pieces more are in flight as acts say

one_counts : (ms : List Waiting) (s : Sender) (now : ℕ) → s.queue.pending ≡ ms → fits_windows s (slice_get ms 0) ≡ true
    → length (sent_one ms s now).0.queue.in_flight ≡ length s.queue.in_flight + 1
unfolding sent_one
one_counts [] s now e fits = absurd (false≢true fits)
one_counts (m ∷ ms) s now e fits =
    let more = length-append s.queue.in_flight (sent_once now m ∷ []) in rw e (omega (arith, more))

first_counts : (ms : List Waiting) (s : Sender) (now : ℕ) → s.queue.pending ≡ ms
    → length (sent_one ms s now).0.queue.in_flight ≡ length s.queue.in_flight + length (first_sent (asks_at_once s) ms now)
unfolding sent_one
first_counts [] s now e = omega arith
first_counts (m ∷ ms) s now e =
    let more = length-append s.queue.in_flight (sent_once now m ∷ []) in rw e (omega (arith, more))

within_counts : (n : ℕ) (s : Sender) (now : ℕ)
    → length (sent_within n s now).0.queue.in_flight
    ≡ length s.queue.in_flight + length (acts_of_sending n s now)
within_counts zero s now = omega arith
within_counts (suc n) s now = ⊎_elim
    (λ (fits : can_send_next s ≡ true).
    let one = sent_one s.queue.pending s now in
    let more = one_counts s.queue.pending s now refl fits in
    let rest = within_counts n one.0 now in
    rw fits (omega (arith, more, rest)))
    (λ (full : can_send_next s ≡ false). rw full (omega arith))
    (cases_Bool (can_send_next s))

new_counts_if : (c : Bool) (s : Sender) (now : ℕ)
    → length (if c then sent_one s.queue.pending s now else
    sent_within (pieces_waiting s.queue.pending) s now).0.queue.in_flight
    ≡ length s.queue.in_flight + length (if c then first_sent (asks_at_once s) s.queue.pending now else
    acts_of_sending (pieces_waiting s.queue.pending) s now)
new_counts_if true s now = first_counts s.queue.pending s now refl
new_counts_if false s now = within_counts (pieces_waiting s.queue.pending) s now

new_counts : (s : Sender) (now : ℕ)
    → length (sent_new s now).0.queue.in_flight ≡ length s.queue.in_flight + length (acts_of_new s now)
new_counts s now = new_counts_if (eqb (length s.queue.in_flight) 0 && not (can_send_next s)) s now

new_window : (s : Sender) (now : ℕ) → (sent_new s now).0.congestion.cwnd ≡ s.congestion.cwnd
new_window s now =
    window_if (eqb (length s.queue.in_flight) 0 && not (can_send_next s)) (sent_one s.queue.pending s now)
    (sent_within (pieces_waiting s.queue.pending) s now) s.congestion.cwnd (one_window s.queue.pending s now)
    (within_window (pieces_waiting s.queue.pending) s now)

-- a first sending leaves what is outstanding within the window, or one piece
sent_stays : (s : Sender) (now : ℕ) → s.congestion.cwnd < 2 ^ 32 → 0 < length (acts_of_new s now)
    → IsWithinWindow (sent_new s now).0 ⊎ (length (sent_new s now).0.queue.in_flight ≡ 1)
sent_stays s now bound some = ⊎_elim
    (λ (few : length (sent_new s now).0.queue.in_flight ≤ length s.queue.in_flight).
    let many = new_counts s now in absurd (omega (arith, few, many, some)))
    (λ (h : IsWithinWindow (sent_new s now).0 ⊎ (length (sent_new s now).0.queue.in_flight ≡ 1)). h)
    (new_stays s now bound)

-- Which acts are first sendings.

abbrev is_sent : Act → Bool
is_sent (Act.Sent at_once now) = true
is_sent act = false

old_is_not_sent : (act : Act) → GivesUpOrAgain act → is_sent act ≡ false
old_is_not_sent (Act.Sent at_once now) g = absurd g
old_is_not_sent act g = refl

neither : (a b : Bool) → a ≡ false → b ≡ false → (a || b) ≡ false
neither a b e f = rw (e, f) refl

none_sent : (acts : List Act) → AllByRecursion GivesUpOrAgain acts → list_any is_sent acts ≡ false
none_sent [] g = refl
none_sent (x ∷ xs) (g, gs) = neither (is_sent x) (list_any is_sent xs) (old_is_not_sent x g) (none_sent xs gs)

any_at : (acts : List Act) (index : ℕ) (at_once : Bool) (at : ℕ) → slice_get acts index ≡ Some (Act.Sent at_once at)
    → list_any is_sent acts ≡ true
any_at [] index at_once at e = absurd cc
any_at (x ∷ xs) zero at_once at e =
    let same : x ≡ Act.Sent at_once at = cc in or_left (is_sent x) (list_any is_sent xs) (ap is_sent same)
any_at (x ∷ xs) (suc index) at_once at e =
    or_right (is_sent x) (list_any is_sent xs) (any_at xs index at_once at e)

some_there : (acts : List Act) → list_any is_sent acts ≡ true → 0 < length acts
some_there [] e = absurd (false≢true e)
some_there (x ∷ xs) e = omega arith

last_if : (due : Bool) (act : Act) → is_sent act ≡ false → list_any is_sent (if due then act ∷ [] else []) ≡ false
last_if true act e = neither (is_sent act) false e refl
last_if false act e = refl

second_of : (a b : Bool) → (a || b) ≡ true → a ≡ false → b ≡ true
second_of true b e f = absurd (true≢false f)
second_of false b e f = e

first_of : (a b : Bool) → (a || b) ≡ true → b ≡ false → a ≡ true
first_of true b e f = refl
first_of false b e f = absurd (false≢true (sym f ∙ e))

-- a first sending among the acts of a poll is one of those by which new DATA goes out
sent_is_new : (a : Shown) (now : ℕ)
    → list_any is_sent (acts_of_data_poll a now ++ acts_of_ack a ++ acts_of_forwarding (forwards_of_poll a now)) ≡ true
    → 0 < length (new_acts a now)
sent_is_new a now e =
    let ack = acts_of_ack a in
    let forward = acts_of_forwarding (forwards_of_poll a now) in
    let two = sym (list_any-append is_sent (acts_of_data_poll a now ++ ack) forward) ∙ e in
    let one : list_any is_sent (acts_of_data_poll a now ++ ack) ≡ true =
    first_of (list_any is_sent (acts_of_data_poll a now ++ ack)) (list_any is_sent forward) two
    (last_if (forwards_of_poll a now) Act.Forwarded refl) in
    let none : list_any is_sent (acts_of_data_poll a now) ≡ true =
    first_of (list_any is_sent (acts_of_data_poll a now)) (list_any is_sent ack)
    (sym (list_any-append is_sent (acts_of_data_poll a now) ack) ∙ one)
    (last_if (is_due a.receiver.ack_state) Act.Reported refl) in
    some_there (new_acts a now)
    (second_of (list_any is_sent (old_acts a now)) (list_any is_sent (new_acts a now))
    (sym (list_any-append is_sent (old_acts a now) (new_acts a now))
    ∙ sym (ap (list_any is_sent) (data_poll_acts a now)) ∙ none)
    (none_sent (old_acts a now) (old_acts_are_old a now)))

-- Of an association.

-- what is given up leaves the congestion window
abbrev HasWindow : ℕ → Sender × StreamMap → Type 0
HasWindow n x = x.0.congestion.cwnd ≡ n

abandoned_window : (n index : ℕ) (x : Sender × StreamMap) → HasWindow n x → HasWindow n (abandoned_of index x)
unfolding abandoned_of
abandoned_window n index (s, m) e = e

tail_window : (n now : ℕ) (x : Sender × StreamMap) → HasWindow n x → HasWindow n (tail_given_up now x)
unfolding tail_given_up
tail_window n now (s, m) e = e

dropped_window : (n now : ℕ) (x : Sender × StreamMap) → HasWindow n x → HasWindow n (first_dropped now x)
unfolding first_dropped
dropped_window n now (s, m) e = e

polls_keep_the_window : (n : ℕ) (uses : Bool) (now : ℕ) → KeptByPolls (HasWindow n) uses now
polls_keep_the_window n uses now = record {
  given_up = λ used. record {
    started = λ x e. e;
    abandoned = abandoned_window n;
    tail = tail_window n now;
    dropped = dropped_window n now;
  };
  marked = λ x e. e;
  missing = λ x e. e;
  new = λ x e. new_window x.0 now ∙ e;
}

data_sender : (a : Shown) (now : ℕ)
    → (data_polled a now).0.sender ≡ (sent_new (late_dropped (fast_polled a now) now).sender now).0
unfolding data_polled
data_sender a now = refl

polled_sender : (a : Shown) (now : ℕ) → exchanges_data a.state ≡ true
    → (polled a now).0.sender
    ≡ forward_given (sent_new (late_dropped (fast_polled a now) now).sender now).0
polled_sender a now e = sender_left a now e ∙ ap (λ (z : Sender). forward_given z) (data_sender a now)

window_in : (exchanges : Bool) (a : Shown) (now : ℕ) → exchanges_data a.state ≡ exchanges
    → a.sender.congestion.cwnd < 2 ^ 32
    → list_any is_sent (if exchanges then
    acts_of_data_poll a now ++ acts_of_ack a ++ acts_of_forwarding (forwards_of_poll a now) else []) ≡ true
    → IsWithinWindow (polled a now).0.sender ⊎ (length (polled a now).0.sender.queue.in_flight ≡ 1)
window_in false a now e bound sent = absurd (false≢true sent)
window_in true a now e bound sent =
    let d : Sender = (late_dropped (fast_polled a now) now).sender in
    let same : d.congestion.cwnd ≡ a.sender.congestion.cwnd =
    drops_poll_kept (HasWindow a.sender.congestion.cwnd) now a
    (polls_keep_the_window a.sender.congestion.cwnd (uses_forward_tsn a) now) refl in
    subst (λ (z : Sender). IsWithinWindow z ⊎ (length z.queue.in_flight ≡ 1)) (sym (polled_sender a now e))
    (sent_stays d now (omega (arith, bound, same)) (sent_is_new a now sent))

-- no DATA goes out by the end of a poll
sent_in_front : (a : Shown) (now : ℕ) → list_any is_sent (acts_of_poll a now) ≡ true
    → list_any is_sent (acts_of_exchange a now) ≡ true
sent_in_front a now e =
    let front = acts_of_exchange a now in
    let ending = acts_of_ending (open_polled a now).0 in
    first_of (list_any is_sent front) (list_any is_sent ending) (sym (list_any-append is_sent front ending) ∙ e)
    (last_if (completes_shutdown (open_polled a now).0) Act.Ended refl)

pub new_data_stays_in_the_congestion_window : NewDataStaysInTheCongestionWindow
new_data_stays_in_the_congestion_window a at_once now index at bound sent =
    window_in (exchanges_data a.state) a now refl bound
    (sent_in_front a now (any_at (acts_of_poll a now) index at_once at sent))
