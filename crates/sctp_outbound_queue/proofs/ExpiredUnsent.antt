-- The first expired message of which nothing was sent.
use Rattle.std.proofs.Common.{◌≡◌, ℕ, zero, suc, ◌+◌, ◌<◌, ◌≤◌, Bool, true, false, not, nat_lt, List, [], ◌∷◌, ◌++◌}
use Rattle.std.proofs.Common.{Some, None, length, map, take, drop, slice_index_or, refl, ap, sym, ◌∙◌, ⊎_elim, arith}
use Rattle.std.specs.Prelude.{find, get_or, position, remove}
use Rattle.std.specs.List.{position_or_len}
use Rattle.std.proofs.lemmas.List.Sums.{sum_by-cons, prefix_len-le-length}
use Rattle.std.proofs.lemmas.Bool.{cases_Bool}
use Rattle.std.proofs.lemmas.Bool.Decides.{nat_tests}
use Rattle.sctp_outbound_queue.specs.declared.message.Attributes.{Attributes}
use Rattle.sctp_outbound_queue.specs.Waiting.{Waiting}
use Rattle.sctp_outbound_queue.specs.Message.{message_bytes, is_expired_unsent, moved_down, share_ssns}
use Rattle.sctp_outbound_queue.specs.Outbound.{waiting_of}
use Rattle.sctp_outbound_queue.specs.Expiry.{without_expired}

-- places

pub not_found : {X : Type 0} (p : X → Bool) (xs : List X) → position p xs ≡ None → position_or_len p xs ≡ length xs
not_found p xs e =
    let within = prefix_len-le-length (λ x. not (p x)) xs in
    ⊎_elim (
    λ (a : nat_lt (position_or_len p xs) (length xs) ≡ true). let f = rw a at e in absurd (cc)
    ) (
    λ (a : nat_lt (position_or_len p xs) (length xs) ≡ false). grind (arith, nat_tests, a, within)
    ) (cases_Bool (nat_lt (position_or_len p xs) (length xs)))

-- without the dropped message

some_same : (m d : Waiting) → Some m ≡ Some d → m ≡ d
some_same m d e = cc

not_zero : (n : ℕ) → 1 + n ≡ 0 → ⊥
not_zero n e = omega arith

zero_suc : (n : ℕ) → 0 ≡ suc n → ⊥
zero_suc n e = omega arith

moved_bytes : (dropped : Attributes) (m : Waiting) → message_bytes (moved_down dropped m) ≡ message_bytes m
moved_bytes dropped m =
    ⊎_elim (λ (a : share_ssns dropped m.message ≡ true). rw a) (λ (a : share_ssns dropped m.message ≡ false). rw a)
    (cases_Bool (share_ssns dropped m.message))

all_moved_bytes : (dropped : Attributes) (ms : List Waiting) → waiting_of (map (moved_down dropped) ms) ≡ waiting_of ms
all_moved_bytes dropped [] = refl
all_moved_bytes dropped (m ∷ ms) =
    let one = moved_bytes dropped m in
    let more = all_moved_bytes dropped ms in
    let a = sum_by-cons message_bytes (moved_down dropped m) (map (moved_down dropped) ms) in
    let b = sum_by-cons message_bytes m ms in
    omega (arith, one, more, a, b)

some_or_none : (m : Waiting) → Some m ≡ None → ⊥
some_or_none m e = cc

none_or_some : (m : Waiting) → None ≡ Some m → ⊥
none_or_some m e = cc

pub without_none : (now : ℕ) (ms : List Waiting) → find (is_expired_unsent now) ms ≡ None → without_expired now ms ≡ ms
without_none now [] e = refl
without_none now (m ∷ ms) e =
    ⊎_elim (λ (a : is_expired_unsent now m ≡ true). absurd (some_or_none m (rw a at e))) (
    λ (a : is_expired_unsent now m ≡ false). rw a (ap (λ z. m ∷ z) (without_none now ms (rw a at e)))
    ) (cases_Bool (is_expired_unsent now m))

pub without_bytes : (now : ℕ) (ms : List Waiting) (d : Waiting) → find (is_expired_unsent now) ms ≡ Some d
    → waiting_of (without_expired now ms) + message_bytes d ≡ waiting_of ms
without_bytes now [] d e = absurd (none_or_some d e)
without_bytes now (m ∷ ms) d e =
    let all = sum_by-cons message_bytes m ms in
    ⊎_elim (
    λ (a : is_expired_unsent now m ≡ true).
    let same : m ≡ d = some_same m d (rw a at e) in
    let moved = all_moved_bytes m.message ms in
    rw (a, ← same) (omega (arith, all, moved))
    ) (
    λ (a : is_expired_unsent now m ≡ false).
    let rest = without_bytes now ms d (rw a at e) in
    let left = sum_by-cons message_bytes m (without_expired now ms) in
    rw a (omega (arith, all, rest, left))
    ) (cases_Bool (is_expired_unsent now m))

-- the code's way to it

one_more_same : (n k : ℕ) → 1 + n ≡ suc k → n ≡ k
one_more_same n k e = omega arith

pub dropped_at : (now : ℕ) (ms : List Waiting) (k : ℕ) (d : Waiting) → position_or_len (is_expired_unsent now) ms ≡ k
    → k < length ms → d ≡ slice_index_or ms k d
    → take k (remove ms k) ++ map (moved_down d.message) (drop k (remove ms k)) ≡ without_expired now ms
dropped_at now [] k d e below at = absurd (omega arith)
dropped_at now (m ∷ ms) zero d e below at =
    ⊎_elim (λ (a : is_expired_unsent now m ≡ true). rw (a, at)) (
    λ (a : is_expired_unsent now m ≡ false). absurd (not_zero _ (rw a at e))
    ) (cases_Bool (is_expired_unsent now m))
dropped_at now (m ∷ ms) (suc k) d e below at =
    ⊎_elim (λ (a : is_expired_unsent now m ≡ true). absurd (zero_suc k (rw a at e))) (
    λ (a : is_expired_unsent now m ≡ false).
    rw a (ap (λ z. m ∷ z) (dropped_at now ms k d (one_more_same _ k (rw a at e)) (omega arith) at))
    ) (cases_Bool (is_expired_unsent now m))

pub found_there : (now : ℕ) (ms : List Waiting) (k : ℕ) (d : Waiting) → position_or_len (is_expired_unsent now) ms ≡ k
    → k < length ms → d ≡ slice_index_or ms k d → find (is_expired_unsent now) ms ≡ Some d
found_there now [] k d e below at = absurd (omega arith)
found_there now (m ∷ ms) zero d e below at =
    ⊎_elim (λ (a : is_expired_unsent now m ≡ true). rw a (ap Some (sym at))) (
    λ (a : is_expired_unsent now m ≡ false). absurd (not_zero _ (rw a at e))
    ) (cases_Bool (is_expired_unsent now m))
found_there now (m ∷ ms) (suc k) d e below at =
    ⊎_elim (λ (a : is_expired_unsent now m ≡ true). absurd (zero_suc k (rw a at e))) (
    λ (a : is_expired_unsent now m ≡ false).
    rw a (found_there now ms k d (one_more_same _ k (rw a at e)) (omega arith) at)
    ) (cases_Bool (is_expired_unsent now m))

pub none_there : (now : ℕ) (ms : List Waiting) → position_or_len (is_expired_unsent now) ms ≡ length ms
    → find (is_expired_unsent now) ms ≡ None
none_there now [] e = refl
none_there now (m ∷ ms) e =
    ⊎_elim (λ (a : is_expired_unsent now m ≡ true). absurd (zero_suc _ (rw a at e))) (
    λ (a : is_expired_unsent now m ≡ false). rw a (none_there now ms (one_more_same _ _ (rw a at e)))
    ) (cases_Bool (is_expired_unsent now m))

-- a look goes on

pub found_first : (now : ℕ) (ms : List Waiting) (i : ℕ) (m : Waiting) → i < length ms → m ≡ get_or ms i m
    → is_expired_unsent now m ≡ true → i ≤ position_or_len (is_expired_unsent now) ms
    → i ≡ position_or_len (is_expired_unsent now) ms
found_first now [] i m lt here e le = absurd (omega arith)
found_first now (x ∷ xs) zero m lt here e le =
    let own : is_expired_unsent now x ≡ true = ap (is_expired_unsent now) (sym here) ∙ e in
    rw own refl
found_first now (x ∷ xs) (suc i) m lt here e le =
    ⊎_elim (λ (a : is_expired_unsent now x ≡ true). let none = rw a at le in absurd (omega (arith, none)))
    (λ (a : is_expired_unsent now x ≡ false).
    let behind = rw a at le in
    let more = found_first now xs i m (omega arith) here e (omega (arith, behind)) in
    rw a (omega (arith, more)))
    (cases_Bool (is_expired_unsent now x))

pub passed_on : (now : ℕ) (ms : List Waiting) (i : ℕ) (m : Waiting) → i < length ms → m ≡ get_or ms i m
    → is_expired_unsent now m ≡ false → i ≤ position_or_len (is_expired_unsent now) ms
    → i + 1 ≤ position_or_len (is_expired_unsent now) ms
passed_on now [] i m lt here e le = absurd (omega arith)
passed_on now (x ∷ xs) zero m lt here e le =
    let own : is_expired_unsent now x ≡ false = ap (is_expired_unsent now) (sym here) ∙ e in
    rw own (omega arith)
passed_on now (x ∷ xs) (suc i) m lt here e le =
    ⊎_elim (λ (a : is_expired_unsent now x ≡ true). let none = rw a at le in absurd (omega (arith, none)))
    (λ (a : is_expired_unsent now x ≡ false).
    let behind = rw a at le in
    let more = passed_on now xs i m (omega arith) here e (omega (arith, behind)) in
    rw a (omega (arith, more)))
    (cases_Bool (is_expired_unsent now x))

pub all_passed : (now : ℕ) (ms : List Waiting) (i : ℕ) → length ms ≤ i → i ≤ position_or_len (is_expired_unsent now) ms
    → length ms ≡ position_or_len (is_expired_unsent now) ms
all_passed now ms i all le =
    let within = prefix_len-le-length (λ (m : Waiting). not (is_expired_unsent now m)) ms in
    omega (arith, within, all, le)

-- an unordered message gives no number back
pub unordered_stays : (d : Attributes) (ms : List Waiting) → d.unordered ≡ true → map (moved_down d) ms ≡ ms
unordered_stays d [] e = refl
unordered_stays d (m ∷ ms) e =
    let none : share_ssns d m.message ≡ false = rw e refl in
    rw none (ap (λ z. m ∷ z) (unordered_stays d ms e))

pub none_behind : (now : ℕ) (ms : List Waiting) → length ms ≤ position_or_len (is_expired_unsent now) ms
    → find (is_expired_unsent now) ms ≡ None
none_behind now ms le =
    let within = prefix_len-le-length (λ (m : Waiting). not (is_expired_unsent now m)) ms in
    none_there now ms (omega (arith, within, le))
