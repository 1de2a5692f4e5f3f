-- Sums over what waits and what is in flight.
use Rattle.std.proofs.Common.{◌≡◌, ℕ, zero, suc, ◌+◌, ◌-◌, ◌^◌, ◌<◌, ◌≤◌, ◌==◌, true, false, List, [], ◌∷◌, ◌++◌}
use Rattle.std.proofs.Common.{Option, Some, None, length, map, min, fold, drop, slice_get, slice_index_or, refl, ap}
use Rattle.std.proofs.Common.{sym, ◌∙◌, ⊎_elim, arith, take}
use Rattle.std.proofs.Math.Bool.{cond}
use Rattle.std.specs.Prelude.{sum_by, find, slice_set}
use Rattle.sctp_outbound_queue.proofs.ExpiredUnsent.{without_none, without_bytes}
use Rattle.std.specs.Option.{option_map}
use Rattle.std.proofs.lemmas.List.Sums.{sum_by-cons, sum_by_push}
use Rattle.std.proofs.lemmas.Bool.{cases_Bool}
use Rattle.std.proofs.lemmas.Bool.Decides.{nat_tests}
use Rattle.sctp_outbound_queue.specs.declared.message.Attributes.{Attributes}
use Rattle.sctp_outbound_queue.specs.declared.message.InFlight.{InFlight}
use Rattle.sctp_outbound_queue.specs.Waiting.{Waiting}
use Rattle.sctp_outbound_queue.specs.Message.{accepted, acked, is_timed, message_bytes, is_expired_unsent}
use Rattle.sctp_outbound_queue.specs.Message.{without_piece, sent_once, is_of, is_outstanding, marked_again}
use Rattle.sctp_outbound_queue.specs.Message.{outstanding_bytes, outstanding_bytes_of, flagged, marker_of, soonest}
use Rattle.sctp_outbound_queue.specs.Message.{counted_again, sent_started, waiting_started}
use Rattle.sctp_outbound_queue.specs.declared.message.Retransmission.{Retransmission}
use Rattle.sctp_outbound_queue.specs.declared.message.Retransmission.TheVariants as causes
use Rattle.sctp_outbound_queue.specs.Expiry.{without_expired, after_expiry}
use Rattle.sctp_outbound_queue.specs.Outbound.{abandoned_at, all_flagged, released, Outbound, AreKept, waiting_of}
use Rattle.sctp_outbound_queue.specs.Outbound.{outstanding_of, outstanding_of_message, left_behind, after_piece}
use Rattle.sctp_outbound_queue.specs.Outbound.{marked_of, tail_dropped, tail_dropped_from}
use Rattle.sctp_outbound_queue.proofs.FirstOutstanding.{abandoned, acknowledged, after_change, after_change_at}
use Rattle.sctp_outbound_queue.proofs.FirstOutstanding.{after_more, popped_there, resent_there, started_too}
use Rattle.sctp_outbound_queue.proofs.Timely.{acked_keeps, flagged_keeps, timely_at, timely_changed, timely_dropped}
use Rattle.sctp_outbound_queue.proofs.Timely.{timely_looked, timely_marker, timely_more, timely_raised, timely_sent}
use Rattle.sctp_outbound_queue.proofs.Timely.{timely_behind, timely_resent, timely_started}
use Rattle.sctp_outbound_queue.specs.declared.clocks.Clocks.{Clocks}
use Rattle.sctp_outbound_queue.specs.declared.clocks.Look.{Look}
use Rattle.sctp_outbound_queue.specs.Clocks.{AllFrom, AllRun, AreSentTimely, accepted_by, dropped_by, sent_by, Cover}
use Rattle.sctp_outbound_queue.specs.Clocks.{started_with}
use Rattle.sctp_outbound_queue.specs.declared.stretches.Stretch.{Stretch}
use Rattle.sctp_outbound_queue.specs.Stretches.{total}
use Rattle.std.specs.List.{position_or_len}

-- a sum that stops at a greatest number
pub fold_saturates : {X : Type 0} (f : X → ℕ) (most a : ℕ) (xs : List X) → a ≤ most
    → fold (λ s x. min (s + f x) most) a xs ≡ min (a + sum_by f xs) most
fold_saturates f most a [] within = omega arith
fold_saturates f most a (x ∷ xs) within =
    let rest = fold_saturates f most (min (a + f x) most) xs (omega arith) in
    let cons = sum_by-cons f x xs in
    rest ∙ omega (arith, cons)

pub fold_saturates_twice : {X : Type 0} (f : X → ℕ) (most a : ℕ) (xs : List X) → a ≤ most
    → fold (λ s x. min (s + min (f x) most) most) a xs ≡ min (a + sum_by f xs) most
fold_saturates_twice f most a [] within = omega arith
fold_saturates_twice f most a (x ∷ xs) within =
    let rest = fold_saturates_twice f most (min (a + min (f x) most) most) xs (omega arith) in
    let cons = sum_by-cons f x xs in
    rest ∙ omega (arith, cons)

-- what is left of a message once a piece of it was sent

false_from_true : true ≡ false → ⊥
false_from_true e = cc

no_zero : (n : ℕ) → (suc n == 0) ≡ true → ⊥
no_zero n e = grind (arith, nat_tests, e)

rest_bytes : (rest : List (List ℕ)) → (length rest == 0) ≡ false
    → length (slice_index_or rest 0 []) + sum_by length (drop 1 rest) ≡ sum_by length rest
rest_bytes [] more = absurd (false_from_true more)
rest_bytes (piece ∷ rest) more = sym (sum_by-cons length piece rest)

no_rest_bytes : (rest : List (List ℕ)) → (length rest == 0) ≡ true → sum_by length rest ≡ 0
no_rest_bytes [] none = refl
no_rest_bytes (piece ∷ rest) none = absurd (no_zero (length rest) none)

pub left_behind_bytes : (m : Waiting) (ms : List Waiting)
    → waiting_of (left_behind m ms) + length m.user_data ≡ waiting_of (m ∷ ms)
left_behind_bytes m ms =
    let all = sum_by-cons message_bytes m ms in
    ⊎_elim (
    λ (none : (length m.rest == 0) ≡ true).
    let empty = no_rest_bytes m.rest none in
    rw none (omega (arith, all, empty))
    ) (
    λ (more : (length m.rest == 0) ≡ false).
    let rest = rest_bytes m.rest more in
    let left = sum_by-cons message_bytes (without_piece m) ms in
    rw more (omega (arith, all, rest, left))
    ) (cases_Bool (length m.rest == 0))

pub after_piece_bytes : (now : ℕ) (ms : List Waiting) (p : InFlight)
    → option_map (sent_once now) (slice_get ms 0) ≡ Some p
    → waiting_of (after_piece ms) + outstanding_bytes p ≡ waiting_of ms
after_piece_bytes now [] p e = absurd (cc)
after_piece_bytes now (m ∷ ms) p e =
    let same : sent_once now m ≡ p = cc in
    rw (← same) (left_behind_bytes m ms)

-- a piece that is sent for the first time isn't marked to be sent again
sent_unmarked : (now : ℕ) (ms : List Waiting) (p : InFlight) → option_map (sent_once now) (slice_get ms 0) ≡ Some p
    → p.retransmit ≡ false
sent_unmarked now [] p e = absurd (cc)
sent_unmarked now (m ∷ ms) p e =
    let same : sent_once now m ≡ p = cc in
    rw (← same)

unmarked_more : (ps : List InFlight) (p : InFlight) → p.retransmit ≡ false → marked_of (ps ++ p ∷ []) ≡ marked_of ps
unmarked_more ps p unmarked =
    sum_by_push (λ (q : InFlight). cond q.retransmit 1 0) ps p
    ∙ ap (λ b. marked_of ps + cond b 1 0) unmarked ∙ omega arith

-- pieces that are marked to be sent again

marked_one : (p : InFlight) → outstanding_bytes (marked_again p) ≡ outstanding_bytes p
marked_one p =
    ⊎_elim (λ (a : is_outstanding p ≡ true). rw (a, a)) (λ (a : is_outstanding p ≡ false). rw (a, a))
    (cases_Bool (is_outstanding p))

pub marked_sum : (ps : List InFlight) → outstanding_of (map marked_again ps) ≡ outstanding_of ps
marked_sum [] = refl
marked_sum (p ∷ ps) =
    let one = marked_one p in
    let more = marked_sum ps in
    let a = sum_by-cons outstanding_bytes (marked_again p) (map marked_again ps) in
    let b = sum_by-cons outstanding_bytes p ps in
    omega (arith, one, more, a, b)

-- an abandoned message

flagged_yes : (id : ℕ) (p : InFlight) → is_of id p ≡ true
    → outstanding_bytes (flagged id p) + outstanding_bytes_of id p ≡ outstanding_bytes p
flagged_yes id p ours =
    ⊎_elim (λ (a : p.acked ≡ true). rw (ours, a)) (λ (a : p.acked ≡ false). rw (ours, a) (omega arith))
    (cases_Bool p.acked)

flagged_no : (id : ℕ) (p : InFlight) → is_of id p ≡ false
    → outstanding_bytes (flagged id p) + outstanding_bytes_of id p ≡ outstanding_bytes p
flagged_no id p other = rw other (omega arith)

flagged_one : (id : ℕ) (p : InFlight)
    → outstanding_bytes (flagged id p) + outstanding_bytes_of id p ≡ outstanding_bytes p
flagged_one id p = ⊎_elim (flagged_yes id p) (flagged_no id p) (cases_Bool (is_of id p))

pub flagged_sum : (id : ℕ) (ps : List InFlight)
    → outstanding_of (map (flagged id) ps) + outstanding_of_message id ps ≡ outstanding_of ps
flagged_sum id [] = refl
flagged_sum id (p ∷ ps) =
    let one = flagged_one id p in
    let more = flagged_sum id ps in
    let a = sum_by-cons outstanding_bytes (flagged id p) (map (flagged id) ps) in
    let b = sum_by-cons (outstanding_bytes_of id) p ps in
    let c = sum_by-cons outstanding_bytes p ps in
    omega (arith, one, more, a, b, c)

left_of_own : (id : ℕ) (p : InFlight) → is_of id p ≡ true → outstanding_bytes_of id (flagged id p) ≡ 0
left_of_own id p ours =
    ⊎_elim (λ (a : p.acked ≡ true). rw (ours, ours, a)) (λ (a : p.acked ≡ false). rw (ours, ours, a))
    (cases_Bool p.acked)

pub left_of_one : (id : ℕ) (p : InFlight) → outstanding_bytes_of id (flagged id p) ≡ 0
left_of_one id p = ⊎_elim (left_of_own id p) (λ (a : is_of id p ≡ false). rw (a, a)) (cases_Bool (is_of id p))

-- once a walk went over all none of its bytes are outstanding
pub left_of_message : (id i : ℕ) (ps : List InFlight) → length ps ≤ i
    → outstanding_of_message id (map (flagged id) (take i ps) ++ drop i ps) ≡ 0
left_of_message id zero [] all = refl
left_of_message id zero (p ∷ ps) all = absurd (omega (arith, all))
left_of_message id (suc i) [] all = refl
left_of_message id (suc i) (p ∷ ps) all =
    let one = left_of_one id p in
    let more = left_of_message id i ps (omega (arith, all)) in
    let a = sum_by-cons (outstanding_bytes_of id) (flagged id p) (map (flagged id) (take i ps) ++ drop i ps) in
    omega (arith, one, more, a)

pub none_of_message : (id : ℕ) (ps : List InFlight) → outstanding_of_message id (map (flagged id) ps) ≡ 0
none_of_message id [] = refl
none_of_message id (p ∷ ps) =
    let one = left_of_one id p in
    let more = none_of_message id ps in
    let a = sum_by-cons (outstanding_bytes_of id) (flagged id p) (map (flagged id) ps) in
    omega (arith, one, more, a)

-- the unsent pieces of the first message

tail_from : (ms : List Waiting) (q : Outbound) (id : ℕ) → (tail_dropped_from ms q id).1 ≤ waiting_of ms
tail_from [] q id = omega arith
tail_from (m ∷ ms) q id =
    let all = sum_by-cons message_bytes m ms in
    ⊎_elim (λ (a : (m.message.message_id == id) ≡ true). rw a (omega (arith, all))) (
    λ (a : (m.message.message_id == id) ≡ false). rw a (omega arith)
    ) (cases_Bool (m.message.message_id == id))

marker_of_message : (id : ℕ) (a : Attributes) → outstanding_bytes_of id (marker_of a) ≡ 0
marker_of_message id a =
    ⊎_elim (λ (b : is_of id (marker_of a) ≡ true). rw b) (λ (b : is_of id (marker_of a) ≡ false). rw b)
    (cases_Bool (is_of id (marker_of a)))

message_from : (ms : List Waiting) (q : Outbound) (id : ℕ)
    → outstanding_of_message id (tail_dropped_from ms q id).0.in_flight ≡ outstanding_of_message id q.in_flight
message_from [] q id = refl
message_from (m ∷ ms) q id =
    let none = marker_of_message id m.message in
    let push = sum_by_push (outstanding_bytes_of id) q.in_flight (marker_of m.message) in
    ⊎_elim (λ (b : (m.message.message_id == id) ≡ true). rw b (omega (arith, none, push))) (
    λ (b : (m.message.message_id == id) ≡ false). rw b
    ) (cases_Bool (m.message.message_id == id))

-- the marker has no bytes
pub tail_of_message : (q : Outbound) (id : ℕ)
    → outstanding_of_message id (tail_dropped q id).0.in_flight ≡ outstanding_of_message id q.in_flight
tail_of_message q id = message_from q.pending q id

pub released_bound : (c : Clocks) (q : Outbound) (id waiting outstanding marked settled : ℕ)
    → AreKept q.pending q.in_flight waiting outstanding marked settled c
    → outstanding_of_message id (tail_dropped q id).0.in_flight + (tail_dropped q id).1 < 2 ^ 64
released_bound c q id waiting outstanding marked settled kept =
    let tail = tail_from q.pending q id in
    let same = tail_of_message q id in
    let sent = flagged_sum id q.in_flight in
    omega (arith, tail, same, sent, kept.0, kept.1, kept.2)

-- the kept sums after a change

-- a message more waits, under a number that is its own
module _ (clocks : Clocks) (id : ℕ) (ms : List Waiting) (ps : List InFlight) (m : Waiting) where
  pub kept_more : {ms2 : List Waiting} {w w2 o b all k s n : ℕ} → n ≡ length ms → n < 2 ^ 64
      → AreKept ms ps w o k s clocks
      → b ≡ min (message_bytes m) (2 ^ 64 - 1) → w2 ≡ min (w + b) (2 ^ 64 - 1) → all ≡ min (w2 + o) (2 ^ 64 - 1)
      → (all ≡ 2 ^ 64 - 1 → ⊥) → ms2 ≡ ms ++ accepted id m ∷ []
      → AreKept ms2 ps w2 o k s (accepted_by (is_timed m.message.policy) n clocks)
  kept_more others short kept bytes waiting total below more =
      let push = sum_by_push message_bytes ms (accepted id m) in
      rw (more, others) (
        omega (arith, push, kept.0, bytes, waiting, total, below, kept.2),
        kept.1,
        omega (arith, push, kept.0, bytes, waiting, total, below, kept.2),
        kept.3,
        kept.4,
        timely_more clocks ms ps (accepted id m) refl (omega (arith, others, short)) kept.5,
      )

pub kept_sent : {ms2 : List Waiting} {ps1 ps2 : List InFlight} {w o k b s : ℕ} {p : InFlight} (clocks : Clocks)
    (now : ℕ)
    (ms : List Waiting) (ps : List InFlight) → AreKept ms ps w o k s clocks
    → Some p ≡ option_map (sent_once now) (slice_get ms 0) → ms2 ≡ after_piece ms → ps1 ≡ ps → ps2 ≡ ps1 ++ p ∷ []
    → b ≡ outstanding_bytes p → AreKept ms2 ps2 (w - b) (o + b) k s (sent_by p.message p.ending_fragment clocks)
kept_sent {p} clocks now ms ps kept first left same more bytes =
    let a = after_piece_bytes now ms p (sym first) in
    let push = sum_by_push outstanding_bytes ps p in
    let unmarked = unmarked_more ps p (sent_unmarked now ms p (sym first)) in
    let c = kept.0 in
    let d = kept.1 in
    let e = kept.2 in
    let f = kept.3 in
    let places = after_more ps p in
    let timely = timely_sent now clocks ms ps p (sym first) kept.5 in
    rw (left, more, same, bytes) (
      omega (arith, a, c),
      omega (arith, push, d),
      omega (arith, a, c, e),
      f
          ∙ sym unmarked,
      omega (arith, places, kept.4),
      timely,
    )

-- the rest of the first message is dropped, and a marker stands for it
pub kept_marker : {ms2 : List Waiting} {ps2 : List InFlight} {w o k b s : ℕ} (clocks : Clocks) (m : Waiting)
    (ms : List Waiting) (ps : List InFlight) → AreKept ms ps w o k s clocks → Some m ≡ slice_get ms 0
    → ms2 ≡ drop 1 ms → ps2 ≡ ps ++ marker_of m.message ∷ [] → b ≡ min (message_bytes m) (2 ^ 64 - 1)
    → AreKept ms2 ps2 (w - b) o k s (sent_by m.message true clocks)
kept_marker clocks m [] ps kept first left more bytes = absurd (cc)
kept_marker clocks m (x ∷ ms) ps kept first left more bytes =
    let same : x ≡ m = cc in
    let all = sum_by-cons message_bytes x ms in
    let push = sum_by_push outstanding_bytes ps (marker_of m.message) in
    let unmarked = unmarked_more ps (marker_of m.message) refl in
    let places = after_more ps (marker_of m.message) in
    let own : message_bytes x ≡ message_bytes m = ap message_bytes same in
    rw (left, more) (
      omega (arith, all, own, bytes, kept.0, kept.2),
      kept.1 ∙ sym (push ∙ omega arith),
      omega (arith, kept.2),
      kept.3 ∙ sym unmarked,
      omega (arith, places, kept.4),
      timely_marker clocks (x ∷ ms) ps m (marker_of m.message) (ap Some same) refl refl kept.5,
    )

-- a sum once one piece changed
pub set_sum : (f : InFlight → ℕ) (ps : List InFlight) (i : ℕ) (x y : InFlight) → slice_get ps i ≡ Some x
    → sum_by f (slice_set ps i y) + f x ≡ sum_by f ps + f y
set_sum f [] i x y e = absurd (cc)
set_sum f (p ∷ ps) zero x y e =
    let same : p ≡ x = cc in
    let a = sum_by-cons f y ps in
    let b = sum_by-cons f p ps in
    rw (← same) (omega (arith, a, b))
set_sum f (p ∷ ps) (suc i) x y e =
    let more = set_sum f ps i x y e in
    let a = sum_by-cons f p (slice_set ps i y) in
    let b = sum_by-cons f p ps in
    omega (arith, a, b, more)

pub kept_acked : {w o k b m s : ℕ} {x y : InFlight} (clocks : Clocks) (ms : List Waiting)
    (ps : List InFlight) (i : ℕ)
    → AreKept ms ps w o k s clocks → slice_get ps i ≡ Some x → b ≡ outstanding_bytes x → m ≡ cond x.retransmit 1 0
    → y ≡ acked x → AreKept ms (slice_set ps i y) w (o - b) (k - m) s clocks
kept_acked {x} clocks ms ps i kept there bytes mark now_acked =
    let sum = set_sum outstanding_bytes ps i x (acked x) there in
    let marks = set_sum (λ (q : InFlight). cond q.retransmit 1 0) ps i x (acked x) there in
    let first = after_change_at acked acknowledged ps i x there in
    let c = kept.1 in
    let d = kept.2 in
    let e = kept.3 in
    rw (now_acked, bytes, mark) (
      kept.0,
      omega (arith, sum, c),
      omega (arith, d),
      omega (arith, marks, e),
      omega (arith, first, kept.4),
      timely_at _ acked (acked_keeps _ _) ms ps i x there kept.5,
    )

-- the first piece left
pub kept_popped : {ps2 : List InFlight} {w o k b m s s2 : ℕ} {p : InFlight} (clocks : Clocks) (ms : List Waiting)
    (ps : List InFlight) → AreKept ms ps w o k s clocks → slice_get ps 0 ≡ Some p → ps2 ≡ drop 1 ps
    → b ≡ outstanding_bytes p → m ≡ cond p.retransmit 1 0 → s2 ≡ s - 1
    → AreKept ms ps2 w (o - b) (k - m) s2 clocks
kept_popped clocks ms [] kept there left bytes mark begin = absurd (cc)
kept_popped {s} {p} clocks ms (x ∷ ps) kept there left bytes mark begin =
    let same : x ≡ p = cc in
    let own = ap outstanding_bytes same in
    let marked : cond x.retransmit 1 0 ≡ cond p.retransmit 1 0 = ap (λ (q : InFlight). cond {A = ℕ} q.retransmit 1 0) same in
    let all = sum_by-cons outstanding_bytes x ps in
    let marks = sum_by-cons (λ (q : InFlight). cond q.retransmit 1 0) x ps in
    rw (left, begin) (
      kept.0,
      omega (arith, all, own, bytes, kept.1),
      omega (arith, kept.2),
      omega (arith, marks, marked, mark, kept.3),
      popped_there (x ∷ ps) p s there kept.4,
      timely_behind clocks ms (x ∷ ps) kept.5,
    )

resent_bytes : (by : Retransmission) (p : InFlight) → outstanding_bytes (counted_again by p) ≡ outstanding_bytes p
resent_bytes causes.Timer p = refl
resent_bytes causes.Fast p = refl

-- a piece was sent again
pub kept_resent : {w o k m n s : ℕ} {x y : InFlight} (by : Retransmission) (clocks : Clocks) (ms : List Waiting)
    (ps : List InFlight) (i : ℕ) → AreKept ms ps w o k s clocks → slice_get ps i ≡ Some x → y ≡ counted_again by x
    → m ≡ cond x.retransmit 1 0 → n ≡ cond y.retransmit 1 0 → AreKept ms (slice_set ps i y) w o (k - m + n) s clocks
kept_resent {s} {x} by clocks ms ps i kept there again before after =
    let sum = set_sum outstanding_bytes ps i x (counted_again by x) there in
    let same = resent_bytes by x in
    let marks = set_sum (λ (q : InFlight). cond q.retransmit 1 0) ps i x (counted_again by x) there in
    let within = set_sum (λ (q : InFlight). cond q.retransmit 1 0) ps i x (acked x) there in
    let left = after ∙ ap (λ (q : InFlight). cond {A = ℕ} q.retransmit 1 0) again in
    rw again (
      kept.0,
      omega (arith, sum, same, kept.1),
      kept.2,
      omega (arith, marks, within, before, left, kept.3),
      resent_there by ps i s x there kept.4,
      timely_resent by clocks ms ps i x there kept.5,
    )

-- a sum over what a change leaves as it is
pub same_sum : {X : Type 0} (f : X → ℕ) (g : X → X) → ((x : X) → f (g x) ≡ f x) → (xs : List X)
    → sum_by f (map g xs) ≡ sum_by f xs
same_sum f g same [] = refl
same_sum f g same (x ∷ xs) =
    let a = sum_by-cons f (g x) (map g xs) in
    let b = sum_by-cons f x xs in
    let more = same_sum f g same xs in
    let one = same x in
    omega (arith, a, b, more, one)

pub kept_started : {ms2 : List Waiting} {ps2 : List InFlight} {w o k s n : ℕ} (covered : ℕ) (next next_sent : Option ℕ)
    (ss : List Stretch) (clocks : Clocks) (now : ℕ) (ms : List Waiting) (ps : List InFlight)
    → AreKept ms ps w o k s clocks → ms2 ≡ map (waiting_started now) ms → ps2 ≡ map (sent_started now) ps
    → n ≡ length ms → covered ≡ total clocks.stretches → AllFrom next (drop covered ms2) → AllRun ms2
    → AreSentTimely (record clocks { sent_run = true; next_sent = next_sent }) ps2 → total ss ≡ n
    → ((ns : List Waiting) → length ns ≡ n → Cover clocks.stretches ns → AllFrom next (drop covered ns)
    → Cover ss ns)
    → AreKept ms2 ps2 w o k s (started_with n (soonest clocks.next_waiting next) next_sent ss)
kept_started covered next next_sent ss clocks now ms ps kept waiting sent all is from run timely whole covers =
    let a = same_sum message_bytes (waiting_started now) (λ m. refl) ms in
    let b = same_sum outstanding_bytes (sent_started now) (λ p. refl) ps in
    let c = same_sum (λ (p : InFlight). cond p.retransmit 1 0) (sent_started now) (λ p. refl) ps in
    let first = after_change (sent_started now) (started_too now) ps in
    rw (waiting, sent, all) (
      kept.0 ∙ sym a,
      kept.1 ∙ sym b,
      kept.2,
      kept.3 ∙ sym c,
      omega (arith, first, kept.4),
      timely_started clocks now covered next next_sent ss ms ps (map (sent_started now) ps) kept.5 is
          (rw waiting at from) (rw waiting at run) (rw sent at timely) (whole ∙ all)
          (λ ns len. covers ns (len ∙ sym all)),
    )

pub kept_flagged : {ps2 : List InFlight} {w o k b s : ℕ} (clocks : Clocks) (id m : ℕ)
    (ms : List Waiting) (ps : List InFlight)
    → AreKept ms ps w o k s clocks → b ≡ min (outstanding_of_message id ps) (2 ^ 64 - 1)
    → ps2 ≡ map (flagged id) ps → m + marked_of ps2 ≡ marked_of ps → AreKept ms ps2 w (o - b) (k - m) s clocks
kept_flagged clocks id m ms ps kept bytes flags marks =
    let a = flagged_sum id ps in
    let c = kept.0 in
    let d = kept.1 in
    let e = kept.2 in
    let first = after_change (flagged id) (abandoned id) ps in (
      c,
      rw flags (omega (arith, a, bytes, d, e)),
      omega (arith, e),
      omega (arith, marks, kept.3),
      rw flags (omega (arith, first, kept.4)),
      rw flags (timely_changed _ (flagged id) (flagged_keeps id _ _) ms ps kept.5),
    )

-- stretches got other moments
pub kept_raised : {w o k s : ℕ} (clocks : Clocks) (ss : List Stretch) (ms : List Waiting) (ps : List InFlight)
    → AreKept ms ps w o k s clocks → Cover ss ms → total ss ≡ total clocks.stretches
    → AreKept ms ps w o k s (record clocks { stretches = ss })
kept_raised clocks ss ms ps kept cover same =
    (kept.0, kept.1, kept.2, kept.3, kept.4, timely_raised clocks ss ms ps cover same kept.5)

-- a look found none
pub kept_same : {ms2 : List Waiting} {w o k s : ℕ} (clocks : Clocks) (look : Look) (now : ℕ) (ms : List Waiting)
    (ps : List InFlight) → AreKept ms ps w o k s clocks → None ≡ find (is_expired_unsent now) ms
    → ms2 ≡ without_expired now ms → look.index ≡ position_or_len (is_expired_unsent now) ms
    → AllFrom look.next (take look.index ms) → AreKept ms2 ps w o k s (record clocks { next_waiting = look.next })
kept_same clocks look now ms ps kept none left at known =
    let bytes : waiting_of (without_expired now ms) ≡ waiting_of ms = ap waiting_of (without_none now ms (sym none)) in
    rw left (
      kept.0 ∙ sym bytes,
      kept.1,
      kept.2,
      kept.3,
      kept.4,
      timely_looked now look clocks ms ps at none known kept.5,
    )

pub kept_dropped : {ms2 : List Waiting} {w o k b s : ℕ} {d : Waiting} (clocks : Clocks) (look : Look) (now : ℕ)
    (ms : List Waiting) (ps : List InFlight) → AreKept ms ps w o k s clocks
    → Some d ≡ find (is_expired_unsent now) ms → ms2 ≡ without_expired now ms → b ≡ min (message_bytes d) (2 ^ 64 - 1)
    → look.index ≡ position_or_len (is_expired_unsent now) ms → AllFrom look.next (take look.index ms)
    → AreKept ms2 ps (w - b) o k s (dropped_by look now clocks)
kept_dropped clocks look now ms ps kept found left bytes at known =
    let a = without_bytes now ms _ (sym found) in
    let c = kept.0 in
    let e = kept.2 in
    rw left (
      omega (arith, a, bytes, c, e),
      kept.1,
      omega (arith, e),
      kept.3,
      kept.4,
      timely_dropped now look clocks ms ps at known kept.5,
    )

pub dropped_bytes : {w o k b s : ℕ} {d : Waiting} (clocks : Clocks) (now : ℕ) (ms : List Waiting) (ps : List InFlight)
    → AreKept ms ps w o k s clocks
    → Some d ≡ find (is_expired_unsent now) ms
    → b ≡ min (message_bytes d) (2 ^ 64 - 1) → (b ≡ message_bytes d) × (b ≤ w)
dropped_bytes clocks now ms ps kept found bytes =
    let a = without_bytes now ms _ (sym found) in
    let c = kept.0 in
    let e = kept.2 in
    (omega (arith, a, bytes, c, e), omega (arith, a, bytes, c, e))

pub expiry_is : {ms : List Waiting} {d : Waiting} {b w o k s : ℕ} (clocks : Clocks) (now : ℕ) (q : Outbound)
    → AreKept q.pending q.in_flight w o k s clocks → Some d ≡ find (is_expired_unsent now) q.pending
    → ms ≡ without_expired now q.pending → b ≡ min (message_bytes d) (2 ^ 64 - 1)
    → after_expiry now q ≡ (record q { pending = ms }, Some (released d.message b))
expiry_is clocks now q kept found left bytes =
    let same = (dropped_bytes clocks now q.pending q.in_flight kept found bytes).0 in
    rw (left, same, ← found)

pub abandoned_is : {q1 q2 : Outbound} {p : InFlight} {sent tail : ℕ} (q : Outbound) (index : ℕ)
    → Some p ≡ slice_get q.in_flight index → tail_dropped q p.message.message_id ≡ (q1, tail)
    → q2 ≡ all_flagged p.message.message_id q1
    → sent ≡ outstanding_of_message p.message.message_id q1.in_flight
    → abandoned_at q index ≡ (q2, Some (released p.message (sent + tail)))
abandoned_is {q1} {p} q index here dropped flags bytes =
    let a : (tail_dropped q p.message.message_id).0 ≡ q1 = ap (λ (z : Outbound × ℕ). z.0) dropped in
    let b : (tail_dropped q p.message.message_id).1 ≡ _ = ap (λ (z : Outbound × ℕ). z.1) dropped in
    rw (← here, flags, bytes, ← a, ← b, tail_of_message q p.message.message_id)
