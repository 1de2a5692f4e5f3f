-- The bytes that fly: those of outstanding pieces that the retransmission timer did not mark.
use Rattle.std.proofs.Common.{◌≡◌, ℕ, zero, suc, ◌+◌, ◌-◌, ◌<◌, ◌≤◌, ◌^◌, true, false, List, [], ◌∷◌, ◌++◌}
use Rattle.std.proofs.Common.{Option, Some, map, drop, take, slice_get, refl, ap, sym, ◌∙◌, ⊎_elim, arith}
use Rattle.std.specs.Prelude.{sum_by, slice_set}
use Rattle.std.specs.Option.{option_map}
use Rattle.std.proofs.lemmas.List.Sums.{sum_by-cons, sum_by_push}
use Rattle.std.proofs.lemmas.Bool.{cases_Bool}
use Rattle.sctp_outbound_queue.specs.declared.message.InFlight.{InFlight}
use Rattle.sctp_outbound_queue.specs.declared.message.Retransmission.{Retransmission}
use Rattle.sctp_outbound_queue.specs.declared.message.Retransmission.TheVariants as causes
use Rattle.sctp_outbound_queue.specs.Waiting.{Waiting}
use Rattle.sctp_outbound_queue.specs.Message.{acked, counted_again, flying_bytes, is_outstanding, marked_again}
use Rattle.sctp_outbound_queue.specs.Message.{outstanding_bytes, sent_once, sent_started}
use Rattle.sctp_outbound_queue.specs.Outbound.{flying_of, outstanding_of}
use Rattle.sctp_outbound_queue.proofs.QueuedBytes.{same_sum, set_sum}

-- they are outstanding

one_within : (p : InFlight) → flying_bytes p ≤ outstanding_bytes p
one_within p =
    ⊎_elim (λ (a : p.retransmit ≡ true). rw a (omega arith)) (λ (a : p.retransmit ≡ false). rw a (omega arith))
    (cases_Bool p.retransmit)

pub flying_within : (ps : List InFlight) → flying_of ps ≤ outstanding_of ps
flying_within [] = omega arith
flying_within (p ∷ ps) =
    let one = one_within p in
    let more = flying_within ps in
    let a = sum_by-cons flying_bytes p ps in
    let b = sum_by-cons outstanding_bytes p ps in
    omega (arith, one, more, a, b)

-- those of one piece are among them
pub flying_one : (ps : List InFlight) (i : ℕ) (x : InFlight) → slice_get ps i ≡ Some x → flying_bytes x ≤ flying_of ps
flying_one ps i x there =
    let sum = set_sum flying_bytes ps i x (acked x) there in
    let none : flying_bytes (acked x) ≡ 0 = refl in
    omega (arith, sum, none)

-- what is marked does not fly

marked_one : (p : InFlight) → flying_bytes (marked_again p) ≡ 0
marked_one p =
    ⊎_elim (λ (a : is_outstanding p ≡ true). rw a refl) (λ (a : is_outstanding p ≡ false).
    ⊎_elim (λ (b : p.retransmit ≡ true). rw (a, b) refl) (λ (b : p.retransmit ≡ false). rw (a, b, a) refl)
    (cases_Bool p.retransmit))
    (cases_Bool (is_outstanding p))

pub flying_marked : (ps : List InFlight) → flying_of (map marked_again ps) ≡ 0
flying_marked [] = refl
flying_marked (p ∷ ps) =
    let one = marked_one p in
    let more = flying_marked ps in
    let a = sum_by-cons flying_bytes (marked_again p) (map marked_again ps) in
    omega (arith, one, more, a)

-- the first piece left
pub flying_popped : {ps2 : List InFlight} {f b : ℕ} {p : InFlight} (ps : List InFlight) → f ≡ flying_of ps
    → slice_get ps 0 ≡ Some p → ps2 ≡ drop 1 ps → b ≡ flying_bytes p → f - b ≡ flying_of ps2
flying_popped [] kept there left bytes = absurd (cc)
flying_popped {p = p} (x ∷ ps) kept there left bytes =
    let same : x ≡ p = cc in
    let own = ap flying_bytes same in
    let all = sum_by-cons flying_bytes x ps in
    rw left (omega (arith, all, own, bytes, kept))

-- a gap ack block named one
pub flying_acked : {f b : ℕ} {x y : InFlight} (ps : List InFlight) (i : ℕ) → f ≡ flying_of ps
    → slice_get ps i ≡ Some x → b ≡ flying_bytes x → y ≡ acked x → f - b ≡ flying_of (slice_set ps i y)
flying_acked {x = x} ps i kept there bytes now_acked =
    let sum = set_sum flying_bytes ps i x (acked x) there in
    let none : flying_bytes (acked x) ≡ 0 = refl in
    rw now_acked (omega (arith, sum, none, kept, bytes))

-- one was sent again
pub flying_resent : {f b c : ℕ} {x : InFlight} (ps : List InFlight) (i : ℕ) (y : InFlight) → f ≡ flying_of ps
    → slice_get ps i ≡ Some x → b ≡ flying_bytes x → c ≡ flying_bytes y → f - b + c ≡ flying_of (slice_set ps i y)
flying_resent {x = x} ps i y kept there before after =
    let sum = set_sum flying_bytes ps i x y there in
    let within = flying_one ps i x there in
    omega (arith, sum, within, kept, before, after)

resent_within : (by : Retransmission) (x : InFlight) → flying_bytes (counted_again by x) ≤ outstanding_bytes x
resent_within causes.Timer x = omega arith
resent_within causes.Fast x = one_within x

-- there is room for its bytes
pub flying_room : {f b c o : ℕ} {x y : InFlight} (by : Retransmission) (ps : List InFlight) (i : ℕ)
    → f ≡ flying_of ps → o ≡ outstanding_of ps → o < 2 ^ 64 → slice_get ps i ≡ Some x → y ≡ counted_again by x
    → b ≡ flying_bytes x → c ≡ flying_bytes y → f - b + c < 2 ^ 64
flying_room {x = x} by ps i kept outstanding small there again before after =
    let one = resent_within by x in
    let own = ap flying_bytes again in
    let sum = set_sum flying_bytes ps i x (acked x) there in
    let none : flying_bytes (acked x) ≡ 0 = refl in
    let others = flying_within (slice_set ps i (acked x)) in
    let all = set_sum outstanding_bytes ps i x (acked x) there in
    let gone : outstanding_bytes (acked x) ≡ 0 = refl in
    omega (arith, one, own, sum, none, others, all, gone, kept, outstanding, small, before, after)

-- one more was sent for the first time

sent_flies : (now : ℕ) (ms : List Waiting) (p : InFlight) → option_map (sent_once now) (slice_get ms 0) ≡ Some p
    → flying_bytes p ≡ outstanding_bytes p
sent_flies now [] p e = absurd (cc)
sent_flies now (m ∷ ms) p e =
    let same : sent_once now m ≡ p = cc in
    rw (← same) refl

pub flying_sent : {ps1 ps2 : List InFlight} {f b : ℕ} {p : InFlight} (now : ℕ) (ms : List Waiting)
    (ps : List InFlight) → f ≡ flying_of ps → Some p ≡ option_map (sent_once now) (slice_get ms 0) → ps1 ≡ ps
    → ps2 ≡ ps1 ++ p ∷ [] → b ≡ outstanding_bytes p → f + b ≡ flying_of ps2
flying_sent {p = p} now ms ps kept first same more bytes =
    let push = sum_by_push flying_bytes ps p in
    let flies = sent_flies now ms p (sym first) in
    rw (more, same) (omega (arith, push, flies, kept, bytes))

-- a marker does not fly
pub flying_marker : {f : ℕ} (ps : List InFlight) (p : InFlight) → flying_bytes p ≡ 0 → f ≡ flying_of ps
    → f ≡ flying_of (ps ++ p ∷ [])
flying_marker ps p none kept =
    let push = sum_by_push flying_bytes ps p in
    omega (arith, push, none, kept)

-- times and reports change nothing of them

pub flying_started : {ps2 : List InFlight} {f : ℕ} (now : ℕ) (ps : List InFlight) → f ≡ flying_of ps
    → ps2 ≡ map (sent_started now) ps → f ≡ flying_of ps2
flying_started now ps kept started =
    rw started (kept ∙ sym (same_sum flying_bytes (sent_started now) (λ p. refl) ps))
