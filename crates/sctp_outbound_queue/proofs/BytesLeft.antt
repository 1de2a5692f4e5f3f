-- What leaves the sums of bytes that wait and that are outstanding.
use Rattle.std.proofs.Common.{◌≡◌, ℕ, zero, suc, ◌+◌, true, false, not, ◌||◌, ◌==◌, List, [], ◌∷◌, Option, Some, None}
use Rattle.std.proofs.Common.{map, length, set, slice_get, refl, ap, ◌∙◌, ⊎_elim, arith}
use Rattle.std.specs.Prelude.{sum_by, find}
use Rattle.std.specs.List.{list_all}
use Rattle.std.proofs.lemmas.List.Sums.{sum_by-cons, sum_by_push}
use Rattle.std.proofs.lemmas.Bool.{cases_Bool}
use Rattle.sctp_serial.specs.Serial.{tsn_past}
use Rattle.sctp_outbound_queue.specs.declared.message.InFlight.{InFlight}
use Rattle.sctp_outbound_queue.specs.declared.queue.Released.{Released}
use Rattle.sctp_outbound_queue.specs.Waiting.{Waiting}
use Rattle.sctp_outbound_queue.specs.Message.{message_bytes, sent_once, marker_of, is_of, outstanding_bytes}
use Rattle.sctp_outbound_queue.specs.Message.{acked, flagged, is_expired_unsent}
use Rattle.sctp_outbound_queue.specs.Outbound.{Outbound, sent_next, sent_from, without_first, without_first_of}
use Rattle.sctp_outbound_queue.specs.Outbound.{waiting_of, outstanding_of, changed_from}
use Rattle.sctp_outbound_queue.specs.Outbound.{bytes_of_piece, piece_at, acked_at, tail_dropped, tail_dropped_from}
use Rattle.sctp_outbound_queue.specs.Outbound.{abandoned_at, abandoned_from}
use Rattle.sctp_outbound_queue.specs.Expiry.{without_expired, expired_in, after_expiry, is_expired_tail}
use Rattle.sctp_outbound_queue.specs.Expiry.{after_tail_expiry, after_tail_expiry_of}
use Rattle.sctp_outbound_queue.specs.Laws.{bytes_in, released_bytes, IsReleased, is_whole}
use Rattle.sctp_outbound_queue.proofs.QueuedBytes.{flagged_sum, left_behind_bytes, tail_of_message}
use Rattle.sctp_outbound_queue.proofs.ExpiredUnsent.{without_none, without_bytes}

none_or_some : {X : Type 0} (x : X) → None ≡ Some x → ⊥
none_or_some x e = cc

same_some : {X : Type 0} (x y : X) → Some x ≡ Some y → x ≡ y
same_some x y e = cc

-- one item was replaced
pub sum_set : {X : Type 0} (f : X → ℕ) (xs : List X) (i : ℕ) (p r : X) → slice_get xs i ≡ Some p
    → sum_by f (set xs i r) + f p ≡ sum_by f xs + f r
sum_set f [] i p r e = absurd (none_or_some p e)
sum_set f (x ∷ xs) zero p r e =
    let same = ap f (same_some x p e) in
    let a = sum_by-cons f r xs in
    let b = sum_by-cons f x xs in
    omega (arith, same, a, b)
sum_set f (x ∷ xs) (suc i) p r e =
    let more = sum_set f xs i p r e in
    let a = sum_by-cons f x (set xs i r) in
    let b = sum_by-cons f x xs in
    omega (arith, more, a, b)

sent_from_bytes : (ms : List Waiting) (q : Outbound) (now : ℕ) → q.pending ≡ ms
    → bytes_in (sent_from ms q now) ≡ bytes_in q
sent_from_bytes [] q now e = refl
sent_from_bytes (m ∷ ms) q now e =
    let left = left_behind_bytes m ms in
    let one : outstanding_bytes (sent_once now m) ≡ length m.user_data = refl in
    let push = sum_by_push outstanding_bytes q.in_flight (sent_once now m) in
    let all = ap waiting_of e in
    omega (arith, left, one, push, all)

pub sent_bytes : (q : Outbound) (now : ℕ) → bytes_in (sent_next q now) ≡ bytes_in q
sent_bytes q now = sent_from_bytes q.pending q now refl

popped_from : (ps : List InFlight) (q : Outbound) → q.in_flight ≡ ps
    → bytes_in (without_first_of ps q) + bytes_of_piece (slice_get ps 0) ≡ bytes_in q
popped_from [] q e = omega arith
popped_from (p ∷ ps) q e =
    let cons = ap outstanding_of e ∙ sum_by-cons outstanding_bytes p ps in
    omega (arith, cons)

pub popped_bytes : (q : Outbound) → bytes_in (without_first q) + bytes_of_piece (slice_get q.in_flight 0) ≡ bytes_in q
popped_bytes q = popped_from q.in_flight q refl

acked_from : (o : Option InFlight) (q : Outbound) (index : ℕ) → slice_get q.in_flight index ≡ o
    → outstanding_of (changed_from acked o q index).in_flight + bytes_of_piece o ≡ outstanding_of q.in_flight
acked_from None q index e = omega arith
acked_from (Some p) q index e =
    let none : outstanding_bytes (acked p) ≡ 0 = refl in
    let sum = sum_set outstanding_bytes q.in_flight index p (acked p) e in
    omega (arith, none, sum)

pending_stays : (o : Option InFlight) (q : Outbound) (index : ℕ) → (changed_from acked o q index).pending ≡ q.pending
pending_stays None q index = refl
pending_stays (Some p) q index = refl

pub acked_bytes : (q : Outbound) (tsn : ℕ) → bytes_in (acked_at q tsn).0 + (acked_at q tsn).1 ≡ bytes_in q
acked_bytes q tsn =
    let sum = acked_from (piece_at q tsn) q (tsn_past q.first_tsn tsn) refl in
    let stays = ap waiting_of (pending_stays (piece_at q tsn) q (tsn_past q.first_tsn tsn)) in
    omega (arith, sum, stays)

-- the unsent pieces of the first message

tail_from : (ms : List Waiting) (q : Outbound) (id : ℕ) → q.pending ≡ ms
    → bytes_in (tail_dropped_from ms q id).0 + (tail_dropped_from ms q id).1 ≡ bytes_in q
tail_from [] q id e = omega arith
tail_from (m ∷ ms) q id e =
    let all = ap waiting_of e ∙ sum_by-cons message_bytes m ms in
    let none : outstanding_bytes (marker_of m.message) ≡ 0 = refl in
    let push = sum_by_push outstanding_bytes q.in_flight (marker_of m.message) in
    ⊎_elim (λ (b : (m.message.message_id == id) ≡ true). rw b (omega (arith, all, none, push))) (
    λ (b : (m.message.message_id == id) ≡ false). rw b (omega arith)
    ) (cases_Bool (m.message.message_id == id))

pub tail_bytes : (q : Outbound) (id : ℕ) → bytes_in (tail_dropped q id).0 + (tail_dropped q id).1 ≡ bytes_in q
tail_bytes q id = tail_from q.pending q id refl

-- the calls

abandoned_from_bytes : (o : Option InFlight) (q : Outbound) → IsReleased q (abandoned_from o q)
abandoned_from_bytes None q = omega arith
abandoned_from_bytes (Some p) q =
    let id = p.message.message_id in
    let tail = tail_bytes q p.message.message_id in
    let ours = tail_of_message q p.message.message_id in
    let flags = flagged_sum p.message.message_id (tail_dropped q p.message.message_id).0.in_flight in
    omega (arith, tail, ours, flags)

pub abandoned_bytes : (q : Outbound) (index : ℕ) → IsReleased q (abandoned_at q index)
abandoned_bytes q index = abandoned_from_bytes (slice_get q.in_flight index) q

expired_from : (now : ℕ) (o : Option Waiting) (ms : List Waiting) → find (is_expired_unsent now) ms ≡ o
    → waiting_of (without_expired now ms) + released_bytes (expired_in now ms) ≡ waiting_of ms
expired_from now None ms e = rw (e, without_none now ms e) (omega arith)
expired_from now (Some d) ms e = rw e (without_bytes now ms d e)

pub expired_bytes : (q : Outbound) (now : ℕ) → IsReleased q (after_expiry now q)
expired_bytes q now =
    let sum = expired_from now (find (is_expired_unsent now) q.pending) q.pending refl in
    omega (arith, sum)

tail_expired_from : (ms : List Waiting) (q : Outbound) (now : ℕ) → IsReleased q (after_tail_expiry_of ms q now)
tail_expired_from [] q now = omega arith
tail_expired_from (m ∷ ms) q now =
    let tail = tail_bytes q m.message.message_id in
    ⊎_elim (λ (b : is_expired_tail now m q.in_flight ≡ true). rw b tail) (
    λ (b : is_expired_tail now m q.in_flight ≡ false). rw b (omega arith)
    ) (cases_Bool (is_expired_tail now m q.in_flight))

pub tail_expired_bytes : (q : Outbound) (now : ℕ) → IsReleased q (after_tail_expiry now q)
tail_expired_bytes q now = tail_expired_from q.pending q now

-- whole messages

flagged_is_whole : (id : ℕ) (p : InFlight) → (not (is_of id (flagged id p)) || (flagged id p).abandoned) ≡ true
flagged_is_whole id p =
    ⊎_elim (λ (a : is_of id p ≡ true). rw (a, a)) (λ (a : is_of id p ≡ false). rw (a, a)) (cases_Bool (is_of id p))

all_flagged_are_whole : (id : ℕ) (ps : List InFlight)
    → list_all (λ p. not (is_of id p) || p.abandoned) (map (flagged id) ps) ≡ true
all_flagged_are_whole id [] = refl
all_flagged_are_whole id (p ∷ ps) = rw (flagged_is_whole id p) (all_flagged_are_whole id ps)

whole_from : (o : Option InFlight) (q r : Outbound) (a : Released) → abandoned_from o q ≡ (r, Some a)
    → is_whole a.message.message_id r ≡ true
whole_from None q r a e =
    absurd (none_or_some a (ap (λ (z : Outbound × Option Released). z.1) e))
whole_from (Some p) q r a e =
    let left = ap (λ (z : Outbound × Option Released). z.0) e in
    let answer = same_some _ a (ap (λ (z : Outbound × Option Released). z.1) e) in
    rw (← left, ← answer) (all_flagged_are_whole p.message.message_id (tail_dropped q p.message.message_id).0.in_flight)

pub abandoned_whole : (q r : Outbound) (index : ℕ) (a : Released) → abandoned_at q index ≡ (r, Some a)
    → is_whole a.message.message_id r ≡ true
abandoned_whole q r index a e = whole_from (slice_get q.in_flight index) q r a e
