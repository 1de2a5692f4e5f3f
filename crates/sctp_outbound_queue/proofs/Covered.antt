-- Stretches of messages that wait, of which no deadline lies before the moment of each.
use Rattle.std.proofs.Common.{◌≡◌, ℕ, zero, suc, Bool, true, false, ◌&&◌, not, nat_lt, List, [], ◌∷◌, ◌++◌, Option}
use Rattle.std.proofs.Common.{Some, None, length, map, take, drop, refl, ap, sym, ◌∙◌, arith, ⊎_elim, true≢false, ◌+◌}
use Rattle.std.proofs.Common.{◌-◌, ◌<◌, ◌≤◌, min}
use Rattle.std.specs.Prelude.{slice_set, get_or}
use Rattle.std.specs.List.{position_or_len}
use Rattle.std.proofs.lemmas.Bool.{cases_Bool}
use Rattle.std.proofs.lemmas.Bool.Decides.{nat_tests}
use Rattle.sctp_outbound_queue.specs.declared.message.Attributes.{Attributes}
use Rattle.sctp_outbound_queue.specs.Waiting.{Waiting}
use Rattle.sctp_outbound_queue.specs.Message.{is_due, is_expired_unsent, is_timely, moved_down, share_ssns, sooner}
use Rattle.sctp_outbound_queue.specs.Message.{without_piece, waiting_started, looked_at, soonest}
use Rattle.sctp_outbound_queue.specs.Clocks.{AllFrom, AllRun, Cover}
use Rattle.std.proofs.lemmas.List.{length-append, length-map, take-map, drop-append-le, drop-drop, drop-map}
use Rattle.std.proofs.lemmas.List.{get_or-drop, length-drop, take-append-le}
use Rattle.std.proofs.Math.Seq.{drop-append-add}
use Rattle.std.proofs.lemmas.List.Sums.{prefix_len-le-length}
use Rattle.sctp_outbound_queue.specs.Expiry.{without_expired}
use Rattle.sctp_outbound_queue.proofs.ExpiredUnsent.{found_first, passed_on}
use Rattle.sctp_outbound_queue.proofs.Deadlines.{accepted_under, from_further, All, IsSooner, all_behind, all_changed}
use Rattle.sctp_outbound_queue.proofs.Deadlines.{all_more, all_take, all_weaker, and_false}
use Rattle.sctp_outbound_queue.proofs.Deadlines.{first_more, is_from_next, is_running, none_first, not_over}
use Rattle.sctp_outbound_queue.proofs.Deadlines.{sooner_under_too, waiting_run}
use Rattle.sctp_outbound_queue.specs.declared.stretches.Stretch.{Stretch}
use Rattle.sctp_outbound_queue.specs.Stretches.{moment_of, shortened_at, stretch, total}
use Rattle.sctp_outbound_queue.proofs.StretchLists.{joined, total_past, total_shorter, total_shorter_by}

-- Lesser moments

lesser : (a b : ℕ) → b ≤ a → IsSooner (Some b) (Some a)
lesser a b le d e = grind (arith, nat_tests, e, le)

from_weaker : (next other : Option ℕ) (ms : List Waiting) → IsSooner next other → AllFrom other ms → AllFrom next ms
from_weaker next other ms sooner a =
    all_weaker (is_from_next other) (is_from_next next)
    (λ m h. sooner_under_too false next other m.message.policy m.message.deadline sooner h) ms a

from_lesser : (a b : ℕ) (ms : List Waiting) → b ≤ a → AllFrom (Some a) ms → AllFrom (Some b) ms
from_lesser a b ms le all = from_weaker (Some b) (Some a) ms (lesser a b le) all

-- where there is none, none lies before any moment
from_none : (next : Option ℕ) (ms : List Waiting) → AllFrom None ms → AllFrom next ms
from_none next ms a = from_weaker next None ms (λ d e. absurd (true≢false (sym e))) a

-- where another deadline counts too
pub from_either : (next other : Option ℕ) (ms : List Waiting) → AllFrom next ms → AllFrom (soonest next other) ms
from_either next None ms a = a
from_either None (Some other) ms a = from_none (Some other) ms a
from_either (Some next) (Some other) ms a = from_lesser next (min next other) ms (omega arith) a

pub from_other : (next other : Option ℕ) (ms : List Waiting) → AllFrom other ms → AllFrom (soonest next other) ms
from_other next None ms a = from_none next ms a
from_other None (Some other) ms a = a
from_other (Some next) (Some other) ms a = from_lesser other (min next other) ms (omega arith) a

-- the moment of a stretch
pub from_moment : (least : Option ℕ) (ms : List Waiting) → AllFrom least ms → AllFrom (Some (moment_of least)) ms
from_moment None ms a = from_none (Some (moment_of None)) ms a
from_moment (Some deadline) ms a = a

-- Parts of a list

pub all_first : {X : Type 0} (test : X → Bool) (k n : ℕ) (xs : List X) → k ≤ n → All test (take n xs)
    → All test (take k xs)
all_first test zero n xs le a = tt
all_first test (suc k) n [] le a = tt
all_first test (suc k) zero (x ∷ xs) le a = absurd (omega arith)
all_first test (suc k) (suc n) (x ∷ xs) le (h, a) = (h, all_first test k n xs (omega arith) a)

all_later : {X : Type 0} (test : X → Bool) (k n : ℕ) (xs : List X) → All test (take n xs)
    → All test (take (n - k) (drop k xs))
all_later test zero n xs a = let e : n - zero ≡ n = omega arith in rw e a
all_later test (suc k) n [] a = none_first test (n - suc k)
all_later test (suc k) zero (x ∷ xs) a = let e : zero - suc k ≡ 0 = omega arith in rw e tt
all_later test (suc k) (suc n) (x ∷ xs) (h, a) =
    let e : suc n - suc k ≡ n - k = omega arith in
    rw e (all_later test k n xs a)

-- what passes up to an index, and behind it
pub all_between : {X : Type 0} (test : X → Bool) (b i n : ℕ) (xs : List X) → b ≤ i → All test (take i xs)
    → All test (take n (drop b xs)) → All test (take (b + n) xs)
all_between test zero i n xs le a c = let e : zero + n ≡ n = omega arith in rw e c
all_between test (suc b) zero n xs le a c = absurd (omega arith)
all_between test (suc b) (suc i) n [] le a c = none_first test (suc b + n)
all_between test (suc b) (suc i) n (x ∷ xs) le (h, a) c =
    let e : suc b + n ≡ suc (b + n) = omega arith in
    rw e (h, all_between test b i n xs (omega arith) a c)

pub all_parts : {X : Type 0} (test : X → Bool) (n : ℕ) (xs : List X) → All test (take n xs) → All test (drop n xs)
    → All test xs
all_parts test zero xs a c = c
all_parts test (suc n) [] a c = tt
all_parts test (suc n) (x ∷ xs) (h, a) c = (h, all_parts test n xs a c)

-- What is covered

pub cover_at : (p : ℕ) (ss : List Stretch) (s : Stretch) (ms : List Waiting) → p < length ss → s ≡ get_or ss p s
    → Cover ss ms
    → (total (take p ss) + s.len ≤ length ms) × AllFrom (Some s.next) (take s.len (drop (total (take p ss)) ms))
cover_at p [] s ms lt here c = absurd (omega arith)
cover_at zero (x ∷ ss) s ms lt here c = rw here (omega (arith, c.0), c.1)
cover_at (suc p) (x ∷ ss) s ms lt here c =
    let rest = cover_at p ss s (drop x.len ms) (omega arith) here c.2 in
    let left = length-drop x.len ms in
    let behind = drop-drop (total (take p ss)) x.len ms in
    (omega (arith, rest.0, left, c.0), rw behind at rest.1)

-- another moment
pub cover_set : (p : ℕ) (ss : List Stretch) (s : Stretch) (next : ℕ) (ms : List Waiting) → s ≡ get_or ss p s
    → Cover ss ms → AllFrom (Some next) (take s.len (drop (total (take p ss)) ms))
    → Cover (slice_set ss p (stretch s.len next)) ms
cover_set p [] s next ms here c from = tt
cover_set zero (x ∷ ss) s next ms here c from =
    let same : s.len ≡ x.len = ap (λ (z : Stretch). z.len) here in
    rw same (c.0, rw same at from, c.2)
cover_set (suc p) (x ∷ ss) s next ms here c from =
    let behind = drop-drop (total (take p ss)) x.len ms in
    (c.0, c.1, cover_set p ss s next (drop x.len ms) here c.2 (rw (← behind) at from))

two_covered : (x y : Stretch) (ss : List Stretch) (ms : List Waiting) → Cover (x ∷ y ∷ ss) ms
    → Cover (stretch (x.len + y.len) (min x.next y.next) ∷ ss) ms
two_covered x y ss ms c =
    let left = length-drop x.len ms in
    let behind = drop-drop y.len x.len ms in
    let next = min x.next y.next in (
      omega (arith, c.0, c.2.0, left),
      all_between (is_from_next (Some next)) x.len x.len y.len ms (omega arith)
          (from_lesser x.next next (take x.len ms) (omega arith) c.1)
          (from_lesser y.next next (take y.len (drop x.len ms)) (omega arith) c.2.1),
      rw behind at c.2.2,
    )

pub cover_joined : (p q : ℕ) (a b : Stretch) (ss : List Stretch) (ms : List Waiting) → q ≡ p + 1 → q < length ss
    → a ≡ get_or ss p a → b ≡ get_or ss q b → Cover ss ms → Cover (joined p q a b ss) ms
cover_joined p q a b [] ms is lt first second c = absurd (omega arith)
cover_joined p zero a b (x ∷ ss) ms is lt first second c = absurd (omega arith)
cover_joined zero (suc q) a b (x ∷ []) ms is lt first second c = absurd (omega arith)
cover_joined zero (suc zero) a b (x ∷ y ∷ ss) ms is lt first second c = rw (first, second) (two_covered x y ss ms c)
cover_joined zero (suc (suc q)) a b (x ∷ y ∷ ss) ms is lt first second c = absurd (omega arith)
cover_joined (suc p) (suc q) a b (x ∷ ss) ms is lt first second c =
    (c.0, c.1, cover_joined p q a b ss (drop x.len ms) (omega arith) (omega arith) first second c.2)

pub cover_push : (ss : List Stretch) (s : Stretch) (ms : List Waiting) → Cover ss ms → total ss + s.len ≤ length ms
    → AllFrom (Some s.next) (take s.len (drop (total ss) ms)) → Cover (ss ++ s ∷ []) ms
cover_push [] s ms c le from = (omega (arith, le), from, tt)
cover_push (x ∷ ss) s ms c le from =
    let left = length-drop x.len ms in
    let behind = drop-drop (total ss) x.len ms in
    (c.0, c.1, cover_push ss s (drop x.len ms) c.2 (omega (arith, left, le)) (rw (← behind) at from))

-- The changes of what waits

pub cover_more : (ss : List Stretch) (ms : List Waiting) (m : Waiting) → Cover ss ms → Cover ss (ms ++ m ∷ [])
cover_more [] ms m c = tt
cover_more (s ∷ ss) ms m c =
    let longer = length-append ms (m ∷ []) in (
      omega (arith, longer, c.0),
      first_more (is_from_next (Some s.next)) s.len ms m c.0 c.1,
      rw (drop-append-le s.len ms (m ∷ []) c.0) (cover_more ss (drop s.len ms) m c.2),
    )

-- the first message waits no more
pub cover_left : (ss : List Stretch) (m : Waiting) (ms : List Waiting) → Cover ss (m ∷ ms)
    → Cover (shortened_at 0 ss) ms
cover_left [] m ms c = tt
cover_left (s ∷ ss) m ms c =
    ⊎_elim (λ (e : nat_lt 0 s.len ≡ true). rw e (one_less s.len s.next (grind (arith, nat_tests, e)) c.0 c.1 c.2))
    (λ (e : nat_lt 0 s.len ≡ false).
    let none : s.len ≡ 0 = grind (arith, nat_tests, e) in
    let rest = cover_left ss m ms (rw none at c.2) in
    rw e (rw none (omega arith, tt, rest)))
    (cases_Bool (nat_lt 0 s.len))
  where
    one_less : (n next : ℕ) → 0 < n → n ≤ length (m ∷ ms) → AllFrom (Some next) (take n (m ∷ ms))
        → Cover ss (drop n (m ∷ ms)) → Cover (stretch (n - 1) next ∷ ss) ms
    one_less zero next lt le a c = absurd (omega arith)
    one_less (suc n) next lt le (h, a) c = let e : suc n - 1 ≡ n = omega arith in rw e (omega arith, a, c)

-- a piece of it went out
pub cover_begun : (ss : List Stretch) (m : Waiting) (ms : List Waiting) → Cover ss (m ∷ ms)
    → Cover ss (without_piece m ∷ ms)
cover_begun [] m ms c = tt
cover_begun (s ∷ ss) m ms c = part s.len s.next (cover_begun ss m ms) c.0 c.1 c.2
  where
    part : (n next : ℕ) → (Cover ss (m ∷ ms) → Cover ss (without_piece m ∷ ms)) → n ≤ length (m ∷ ms)
        → AllFrom (Some next) (take n (m ∷ ms)) → Cover ss (drop n (m ∷ ms))
        → (n ≤ length (without_piece m ∷ ms)) × AllFrom (Some next) (take n (without_piece m ∷ ms))
        × Cover ss (drop n (without_piece m ∷ ms))
    part zero next rest le a c = (omega arith, tt, rest c)
    part (suc n) next rest le (h, a) c = (omega arith, (h, a), c)

-- those behind them are started
pub cover_started : (now n : ℕ) (ss : List Stretch) (ms : List Waiting) → total ss ≤ n → AllRun (take n ms)
    → Cover ss ms → Cover ss (map (waiting_started now) ms)
cover_started now n [] ms le run c = tt
cover_started now n (s ∷ ss) ms le run c =
    let same = take-map (waiting_started now) s.len ms
    ∙ waiting_run now (Some 0) (take s.len ms) (all_first is_running s.len n ms (omega arith) run) in
    let behind = drop-map (waiting_started now) s.len ms in
    let len = length-map ms (waiting_started now) in (
      omega (arith, len, c.0),
      rw same c.1,
      rw behind
          (cover_started now (n - s.len) ss (drop s.len ms) (omega arith) (all_later is_running s.len n ms run) c.2),
    )

pub moved_keeps : (run : Bool) (next : Option ℕ) (d : Attributes) (m : Waiting) → is_timely run next m.message ≡ true
    → is_timely run next (moved_down d m).message ≡ true
moved_keeps run next d m e =
    ⊎_elim (λ (a : share_ssns d m.message ≡ true). rw a e) (λ (a : share_ssns d m.message ≡ false). rw a e)
    (cases_Bool (share_ssns d m.message))

cover_moved : (d : Attributes) (ss : List Stretch) (ms : List Waiting) → Cover ss ms
    → Cover ss (map (moved_down d) ms)
cover_moved d [] ms c = tt
cover_moved d (s ∷ ss) ms c =
    let same = take-map (moved_down d) s.len ms in
    let behind = drop-map (moved_down d) s.len ms in
    let len = length-map ms (moved_down d) in (
      omega (arith, len, c.0),
      rw same (all_changed (is_from_next (Some s.next)) (moved_down d) (moved_keeps false (Some s.next) d)
          (take s.len ms) c.1),
      rw behind (cover_moved d ss (drop s.len ms) c.2),
    )

pub shorter : (now : ℕ) (ms : List Waiting) → length ms ≤ length (without_expired now ms) + 1
shorter now [] = omega arith
shorter now (m ∷ ms) =
    let rest = shorter now ms in
    ⊎_elim (λ (e : is_expired_unsent now m ≡ true). rw e (omega (arith, length-map ms (moved_down m.message))))
    (λ (e : is_expired_unsent now m ≡ false). rw e (omega (arith, rest)))
    (cases_Bool (is_expired_unsent now m))

pub passed_without : (now : ℕ) (ms : List Waiting)
    → position_or_len (is_expired_unsent now) ms ≤ position_or_len (is_expired_unsent now) (without_expired now ms)
passed_without now [] = omega arith
passed_without now (m ∷ ms) =
    let rest = passed_without now ms in
    ⊎_elim (λ (e : is_expired_unsent now m ≡ true). rw e (omega arith))
    (λ (e : is_expired_unsent now m ≡ false). rw (e, e) (omega (arith, rest)))
    (cases_Bool (is_expired_unsent now m))

with_front : {X : Type 0} (test : X → Bool) (k : ℕ) (x : X) (xs : List X) → test x ≡ true
    → All test (take (k - 1) xs) → All test (take k (x ∷ xs))
with_front test zero x xs h a = tt
with_front test (suc k) x xs h a = let e : suc k - 1 ≡ k = omega arith in (h, rw e at a)

-- a test of the message alone, of the first so many but one
pub first_without : (run : Bool) (next : Option ℕ) (now n : ℕ) (ms : List Waiting)
    → All (λ (m : Waiting). is_timely run next m.message) (take n ms)
    → All (λ (m : Waiting). is_timely run next m.message) (take (n - 1) (without_expired now ms))
first_without run next now zero ms a = tt
first_without run next now (suc n) [] a = none_first (λ (m : Waiting). is_timely run next m.message) (suc n - 1)
first_without run next now (suc n) (m ∷ ms) (h, a) =
    ⊎_elim (λ (e : is_expired_unsent now m ≡ true).
    let less : suc n - 1 ≡ n = omega arith in
    let same : take n (map (moved_down m.message) ms) ≡ map (moved_down m.message) (take n ms) =
    take-map (moved_down m.message) n ms in
    rw (e, less, same) (all_changed (λ (m : Waiting). is_timely run next m.message) (moved_down m.message)
    (moved_keeps run next m.message) (take n ms) a))
    (λ (e : is_expired_unsent now m ≡ false). let less : suc n - 1 ≡ n = omega arith in
    rw (e, less) (with_front (λ (m : Waiting). is_timely run next m.message) n m (without_expired now ms) h
    (first_without run next now n ms a)))
    (cases_Bool (is_expired_unsent now m))

pub without_keeps : (now : ℕ) (run : Bool) (next : Option ℕ) (ms : List Waiting)
    → All (λ (m : Waiting). is_timely run next m.message) ms
    → All (λ (m : Waiting). is_timely run next m.message) (without_expired now ms)
without_keeps now run next [] a = a
without_keeps now run next (m ∷ ms) (h, a) =
    ⊎_elim (λ (e : is_expired_unsent now m ≡ true).
    rw e (all_changed (λ (m : Waiting). is_timely run next m.message) (moved_down m.message)
    (moved_keeps run next m.message) ms a))
    (λ (e : is_expired_unsent now m ≡ false). rw e (h, without_keeps now run next ms a))
    (cases_Bool (is_expired_unsent now m))

-- nothing changes before the dropped message
pub before_same : (now n : ℕ) (ms : List Waiting) → n ≤ position_or_len (is_expired_unsent now) ms
    → take n (without_expired now ms) ≡ take n ms
before_same now zero ms le = refl
before_same now (suc n) [] le = refl
before_same now (suc n) (m ∷ ms) le =
    ⊎_elim (λ (e : is_expired_unsent now m ≡ true). let none = rw e at le in absurd (omega (arith, none)))
    (λ (e : is_expired_unsent now m ≡ false).
    let rest = rw e at le in
    rw e (ap (λ z. m ∷ z) (before_same now n ms (omega (arith, rest)))))
    (cases_Bool (is_expired_unsent now m))

behind_without : (now n : ℕ) (ms : List Waiting) → n ≤ position_or_len (is_expired_unsent now) ms
    → drop n (without_expired now ms) ≡ without_expired now (drop n ms)
behind_without now zero ms le = refl
behind_without now (suc n) [] le = refl
behind_without now (suc n) (m ∷ ms) le =
    ⊎_elim (λ (e : is_expired_unsent now m ≡ true). let none = rw e at le in absurd (omega (arith, none)))
    (λ (e : is_expired_unsent now m ≡ false).
    let rest = rw e at le in
    rw e (behind_without now n ms (omega (arith, rest))))
    (cases_Bool (is_expired_unsent now m))

pub position_behind : (now n : ℕ) (ms : List Waiting) → n ≤ position_or_len (is_expired_unsent now) ms
    → position_or_len (is_expired_unsent now) ms ≡ n + position_or_len (is_expired_unsent now) (drop n ms)
position_behind now zero ms le = omega arith
position_behind now (suc n) [] le = absurd (omega arith)
position_behind now (suc n) (m ∷ ms) le =
    ⊎_elim (λ (e : is_expired_unsent now m ≡ true). let none = rw e at le in absurd (omega (arith, none)))
    (λ (e : is_expired_unsent now m ≡ false).
    let rest = rw e at le in
    let more = position_behind now n ms (omega (arith, rest)) in
    rw e (omega (arith, more)))
    (cases_Bool (is_expired_unsent now m))

cover_behind : (now n : ℕ) (ss : List Stretch) (ms : List Waiting)
    → position_or_len (is_expired_unsent now) ms < n → n ≤ length ms → Cover ss (drop n ms)
    → Cover ss (drop (n - 1) (without_expired now ms))
cover_behind now n ss [] lt le c = absurd (omega (arith, lt, le))
cover_behind now zero ss (m ∷ ms) lt le c = absurd (omega (arith, lt))
cover_behind now (suc n) ss (m ∷ ms) lt le c =
    let less : suc n - 1 ≡ n = omega arith in
    ⊎_elim (λ (e : is_expired_unsent now m ≡ true).
    rw (e, less, drop-map (moved_down m.message) n ms) (cover_moved m.message ss (drop n ms) c))
    (λ (e : is_expired_unsent now m ≡ false).
    let later = rw e at lt in
    rw (e, less) (behind_front n (omega (arith, later))
    (cover_behind now n ss ms (omega (arith, later)) (omega arith) c)))
    (cases_Bool (is_expired_unsent now m))
  where
    behind_front : (k : ℕ) → 0 < k → Cover ss (drop (k - 1) (without_expired now ms))
        → Cover ss (drop k (m ∷ without_expired now ms))
    behind_front zero lt c = absurd (omega arith)
    behind_front (suc k) lt c = let e : suc k - 1 ≡ k = omega arith in rw e at c

-- an expired message is dropped
pub cover_without : (now : ℕ) (ss : List Stretch) (ms : List Waiting) → Cover ss ms
    → Cover (shortened_at (position_or_len (is_expired_unsent now) ms) ss) (without_expired now ms)
cover_without now [] ms c = tt
cover_without now (s ∷ ss) ms c =
    let at = position_or_len (is_expired_unsent now) ms in
    let short = shorter now ms in
    ⊎_elim (λ (e : nat_lt (position_or_len (is_expired_unsent now) ms) s.len ≡ true).
    let lt : position_or_len (is_expired_unsent now) ms < s.len = grind (arith, nat_tests, e) in
    rw e (
      omega (arith, short, c.0),
      first_without false (Some s.next) now s.len ms c.1,
      cover_behind now s.len ss ms lt c.0 c.2,
    ))
    (λ (e : nat_lt (position_or_len (is_expired_unsent now) ms) s.len ≡ false).
    let le : s.len ≤ position_or_len (is_expired_unsent now) ms = grind (arith, nat_tests, e) in
    let passed = passed_without now ms in
    let within = prefix_len-le-length (λ (m : Waiting). not (is_expired_unsent now m)) (without_expired now ms) in
    let apart = position_behind now s.len ms le in
    let less : position_or_len (is_expired_unsent now) ms - s.len
    ≡ position_or_len (is_expired_unsent now) (drop s.len ms) = omega (arith, apart) in
    rw e (
      omega (arith, le, passed, within),
      rw (before_same now s.len ms le) c.1,
      rw (behind_without now s.len ms le, less) (cover_without now ss (drop s.len ms) c.2),
    ))
    (cases_Bool (nat_lt (position_or_len (is_expired_unsent now) ms) s.len))

-- What is behind the stretches has no deadline

all_drop : {X : Type 0} (test : X → Bool) (k n : ℕ) (xs : List X) → k ≤ n → All test (drop k xs)
    → All test (drop n xs)
all_drop test zero zero xs le a = a
all_drop test zero (suc n) [] le a = tt
all_drop test zero (suc n) (x ∷ xs) le (h, a) = all_drop test zero n xs (omega arith) a
all_drop test (suc k) zero xs le a = absurd (omega arith)
all_drop test (suc k) (suc n) [] le a = tt
all_drop test (suc k) (suc n) (x ∷ xs) le a = all_drop test k n xs (omega arith) a

pub nothing_behind : {X : Type 0} (test : X → Bool) (n : ℕ) (xs : List X) → length xs ≤ n → All test (drop n xs)
nothing_behind test zero [] le = tt
nothing_behind test zero (x ∷ xs) le = absurd (omega arith)
nothing_behind test (suc n) [] le = tt
nothing_behind test (suc n) (x ∷ xs) le = nothing_behind test n xs (omega arith)

pub rest_more : (n : ℕ) (ms : List Waiting) (m : Waiting) → n ≤ length ms → m.message.deadline ≡ None
    → AllFrom None (drop n ms) → AllFrom None (drop n (ms ++ m ∷ []))
rest_more n ms m le none a =
    rw (drop-append-le n ms (m ∷ []) le)
    (all_more (is_from_next None) (drop n ms) m a (rw none (accepted_under false None m.message.policy)))

-- the first message waits no more
pub rest_left : (ss : List Stretch) (m : Waiting) (ms : List Waiting) → AllFrom None (drop (total ss) (m ∷ ms))
    → AllFrom None (drop (total (shortened_at 0 ss)) ms)
rest_left ss m ms a = by (total ss) refl where
  by : (n : ℕ) → n ≡ total ss → AllFrom None (drop (total (shortened_at 0 ss)) ms)
  by zero e =
      let none : total (shortened_at 0 ss) ≡ 0 = omega (arith, e, total_shorter 0 ss) in
      rw none (all_behind (is_from_next None) (m ∷ ms) (rw (← e) at a))
  by (suc n) e =
      let less : total (shortened_at 0 ss) ≡ n = omega (arith, e, total_shorter_by 0 ss (omega (arith, e))) in
      rw less (rw (← e) at a)

-- a piece of it went out
pub rest_begun : (n : ℕ) (m : Waiting) (ms : List Waiting) → AllFrom None (drop n (m ∷ ms))
    → AllFrom None (drop n (without_piece m ∷ ms))
rest_begun zero m ms (h, a) = (h, a)
rest_begun (suc n) m ms a = a

rest_behind : (now n : ℕ) (ms : List Waiting) → position_or_len (is_expired_unsent now) ms < n → n ≤ length ms
    → AllFrom None (drop n ms) → AllFrom None (drop (n - 1) (without_expired now ms))
rest_behind now n [] lt le a = absurd (omega (arith, lt, le))
rest_behind now zero (m ∷ ms) lt le a = absurd (omega (arith, lt))
rest_behind now (suc n) (m ∷ ms) lt le a =
    let less : suc n - 1 ≡ n = omega arith in
    ⊎_elim (λ (e : is_expired_unsent now m ≡ true).
    rw (e, less, drop-map (moved_down m.message) n ms)
    (all_changed (is_from_next None) (moved_down m.message) (moved_keeps false None m.message) (drop n ms) a))
    (λ (e : is_expired_unsent now m ≡ false).
    let later = rw e at lt in
    rw (e, less) (behind_front n (omega (arith, later))
    (rest_behind now n ms (omega (arith, later)) (omega arith) a)))
    (cases_Bool (is_expired_unsent now m))
  where
    behind_front : (k : ℕ) → 0 < k → AllFrom None (drop (k - 1) (without_expired now ms))
        → AllFrom None (drop k (m ∷ without_expired now ms))
    behind_front zero lt a = absurd (omega arith)
    behind_front (suc k) lt a = let e : suc k - 1 ≡ k = omega arith in rw e at a

-- an expired message is dropped
pub rest_without : (now : ℕ) (ss : List Stretch) (ms : List Waiting) → total ss ≤ length ms
    → AllFrom None (drop (total ss) ms)
    → AllFrom None (drop (total (shortened_at (position_or_len (is_expired_unsent now) ms) ss))
    (without_expired now ms))
rest_without now ss ms le a =
    ⊎_elim (λ (b : nat_lt (position_or_len (is_expired_unsent now) ms) (total ss) ≡ true).
    let lt : position_or_len (is_expired_unsent now) ms < total ss = grind (arith, nat_tests, b) in
    let less = total_shorter_by (position_or_len (is_expired_unsent now) ms) ss lt in
    let is : total (shortened_at (position_or_len (is_expired_unsent now) ms) ss) ≡ total ss - 1 =
    omega (arith, less) in
    rw is (rest_behind now (total ss) ms lt le a))
    (λ (b : nat_lt (position_or_len (is_expired_unsent now) ms) (total ss) ≡ false).
    let over : total ss ≤ position_or_len (is_expired_unsent now) ms = grind (arith, nat_tests, b) in
    let same = total_past (position_or_len (is_expired_unsent now) ms) ss over in
    rw (same, behind_without now (total ss) ms over) (without_keeps now false None (drop (total ss) ms) a))
    (cases_Bool (nat_lt (position_or_len (is_expired_unsent now) ms) (total ss)))

-- times are started: of what runs already none gets a deadline
pub rest_started : (now c r : ℕ) (least : Option ℕ) (ms : List Waiting) → c ≤ r → AllRun (take r ms)
    → AllFrom None (drop c ms) → AllFrom least (drop r (map (waiting_started now) ms))
    → AllFrom least (drop c (map (waiting_started now) ms))
rest_started now c r least ms le run none from =
    let front = take-map (waiting_started now) (r - c) (drop c ms)
    ∙ waiting_run now (Some 0) (take (r - c) (drop c ms)) (all_later is_running c r ms run) in
    let behind = drop-map (waiting_started now) c ms in
    let again = drop-drop (r - c) c (map (waiting_started now) ms) in
    let whole : c + (r - c) ≡ r = omega (arith, le) in
    let later : AllFrom least (drop (r - c) (drop c (map (waiting_started now) ms))) = rw (again, whole) from in
    rw behind (all_parts (is_from_next least) (r - c) (map (waiting_started now) (drop c ms))
    (rw front (from_none least (take (r - c) (drop c ms)) (all_take (is_from_next None) (r - c) (drop c ms) none)))
    (rw behind at later))

none_due : (now : ℕ) (ms : List Waiting) → AllFrom None ms → length ms ≤ position_or_len (is_expired_unsent now) ms
none_due now [] a = omega arith
none_due now (m ∷ ms) (h, a) =
    let late = ap (λ z. not m.begun && z) (not_over now false None m.message.policy m.message.deadline h refl)
    ∙ and_false (not m.begun) in
    let rest = none_due now ms a in
    rw late (omega (arith, rest))

-- a look that passed the stretches passed all
pub rest_waits : (now n : ℕ) (ms : List Waiting) → n ≤ position_or_len (is_expired_unsent now) ms
    → AllFrom None (drop n ms) → position_or_len (is_expired_unsent now) ms ≡ length ms
rest_waits now n ms le a =
    let at = position_behind now n ms le in
    let left = length-drop n ms in
    let within = prefix_len-le-length (λ (m : Waiting). not (is_expired_unsent now m)) ms in
    let none = none_due now (drop n ms) a in
    omega (arith, at, left, within, none)

pub rest_known : (next : Option ℕ) (n i k : ℕ) (ms : List Waiting) → n ≤ i → AllFrom next (take i ms)
    → AllFrom None (drop n ms) → AllFrom next (take k ms)
rest_known next n i k ms le known none =
    all_take (is_from_next next) k ms (all_parts (is_from_next next) i ms known
    (from_none next (drop i ms) (all_drop (is_from_next None) n i ms le none)))

-- What a look passes

-- no deadline of these is over
waits : (now next n : ℕ) (ms : List Waiting) → AllFrom (Some next) (take n ms) → now < next → n ≤ length ms
    → n ≤ position_or_len (is_expired_unsent now) ms
waits now next zero ms a early le = omega arith
waits now next (suc n) [] a early le = absurd (omega arith)
waits now next (suc n) (m ∷ ms) (h, a) early le =
    let due : is_due (Some next) now ≡ false = grind (arith, nat_tests, early) in
    let late = ap (λ z. not m.begun && z) (not_over now false (Some next) m.message.policy m.message.deadline h due)
    ∙ and_false (not m.begun) in
    let rest = waits now next n ms a early (omega arith) in
    rw late (omega (arith, rest))

pub waits_behind : (now next b n : ℕ) (ms : List Waiting) → b ≤ position_or_len (is_expired_unsent now) ms
    → AllFrom (Some next) (take n (drop b ms)) → now < next → b + n ≤ length ms
    → b + n ≤ position_or_len (is_expired_unsent now) ms
waits_behind now next b n ms le from early within =
    let left = length-drop b ms in
    let at = position_behind now b ms le in
    let rest = waits now next n (drop b ms) from early (omega (arith, left, within)) in
    omega (arith, at, rest)

-- a look that came so far goes on over a stretch
pub known_further : (next other : Option ℕ) (b i n : ℕ) (ms : List Waiting) → b ≤ i → AllFrom next (take i ms)
    → AllFrom other (take n (drop b ms)) → AllFrom (soonest next other) (take (b + n) ms)
known_further next other b i n ms le known from =
    all_between (is_from_next (soonest next other)) b i n ms le
    (from_either next other (take i ms) known) (from_other next other (take n (drop b ms)) from)

looked_none : (now : ℕ) (least : Option ℕ) (m : Waiting) → None ≡ looked_at now least m → is_expired_unsent now m ≡ true
looked_none now least m none =
    ⊎_elim (λ (e : is_expired_unsent now m ≡ true). e)
    (λ (e : is_expired_unsent now m ≡ false). let some = rw e at none in absurd (cc))
    (cases_Bool (is_expired_unsent now m))

looked_some : (now : ℕ) (least next : Option ℕ) (m : Waiting) → Some next ≡ looked_at now least m
    → (is_expired_unsent now m ≡ false) × (next ≡ sooner least m.message)
looked_some now least next m some =
    ⊎_elim (λ (e : is_expired_unsent now m ≡ true). let none = rw e at some in absurd (cc))
    (λ (e : is_expired_unsent now m ≡ false).
    let same : Some next ≡ Some (sooner least m.message) = rw e at some in
    let is : next ≡ sooner least m.message = cc in
    (e, is))
    (cases_Bool (is_expired_unsent now m))

-- the first that is to be dropped comes behind so many
pub each_here : (now : ℕ) (least : Option ℕ) (i : ℕ) (ms : List Waiting) (m : Waiting) → i < length ms
    → m ≡ get_or ms i m
    → None ≡ looked_at now least m → i ≤ position_or_len (is_expired_unsent now) ms
    → i ≡ position_or_len (is_expired_unsent now) ms
each_here now least i ms m lt here none le = found_first now ms i m lt here (looked_none now least m none) le

-- so many and one more come before it
pub each_on : (now : ℕ) (least next : Option ℕ) (i : ℕ) (ms : List Waiting) (m : Waiting) → i < length ms
    → m ≡ get_or ms i m → Some next ≡ looked_at now least m → i ≤ position_or_len (is_expired_unsent now) ms
    → AllFrom least (take i ms)
    → (i + 1 ≤ position_or_len (is_expired_unsent now) ms) × AllFrom next (take (i + 1) ms)
each_on now least next i ms m lt here some le known =
    let looked = looked_some now least next m some in (
      passed_on now ms i m lt here looked.0 le,
      rw looked.1 (from_further least i ms m lt known here),
    )

-- so it is behind an index
pub pass_here : (now : ℕ) (least : Option ℕ) (from passed : ℕ) (ms : List Waiting) (m : Waiting)
    → from + passed < length ms → m ≡ get_or ms (from + passed) m → None ≡ looked_at now least m
    → passed ≤ position_or_len (is_expired_unsent now) (drop from ms)
    → passed ≡ position_or_len (is_expired_unsent now) (drop from ms)
pass_here now least from passed ms m lt here none le =
    let left = length-drop from ms in
    each_here now least passed (drop from ms) m (omega (arith, left, lt)) (here ∙ sym (get_or-drop from ms passed m))
    none le

pub pass_on : (now : ℕ) (least next : Option ℕ) (from passed : ℕ) (ms : List Waiting) (m : Waiting)
    → from + passed < length ms → m ≡ get_or ms (from + passed) m → Some next ≡ looked_at now least m
    → passed ≤ position_or_len (is_expired_unsent now) (drop from ms)
    → AllFrom least (take passed (drop from ms))
    → (passed + 1 ≤ position_or_len (is_expired_unsent now) (drop from ms))
    × AllFrom next (take (passed + 1) (drop from ms))
pass_on now least next from passed ms m lt here some le known =
    let left = length-drop from ms in
    each_on now least next passed (drop from ms) m (omega (arith, left, lt))
    (here ∙ sym (get_or-drop from ms passed m)) some le known

pub first_position : (now n : ℕ) (ms : List Waiting) → n ≤ length ms
    → position_or_len (is_expired_unsent now) (take n ms) ≡ min n (position_or_len (is_expired_unsent now) ms)
first_position now zero ms le = omega arith
first_position now (suc n) [] le = absurd (omega arith)
first_position now (suc n) (m ∷ ms) le =
    let rest = first_position now n ms (omega arith) in
    ⊎_elim (λ (e : is_expired_unsent now m ≡ true). rw e (omega arith))
    (λ (e : is_expired_unsent now m ≡ false). rw e (omega (arith, rest)))
    (cases_Bool (is_expired_unsent now m))

-- those of the first so many that come before the first that is to be dropped
pub pass_part : (now count k : ℕ) (least : Option ℕ) (ms part : List Waiting) → count ≤ length ms
    → part ≡ take count ms → k ≡ position_or_len (is_expired_unsent now) part → AllFrom least (take k part)
    → (k ≡ min count (position_or_len (is_expired_unsent now) ms)) × AllFrom least (take k ms)
pass_part now count k least ms part le is at known =
    let at_first = ap (position_or_len (is_expired_unsent now)) is ∙ first_position now count ms le in
    let few = at ∙ at_first in
    (few, same_first k count ms (omega (arith, few)) (rw is at known))
  where
    same_first : (k n : ℕ) (ms : List Waiting) → k ≤ n → AllFrom least (take k (take n ms))
        → AllFrom least (take k ms)
    same_first zero n ms le a = tt
    same_first (suc k) zero ms le a = absurd (omega arith)
    same_first (suc k) (suc n) [] le a = tt
    same_first (suc k) (suc n) (m ∷ ms) le (h, a) = (h, same_first k n ms (omega arith) a)

-- they lie in the first part of the ring, or in the second
pub in_first : (from count n : ℕ) (first second ms : List Waiting) → first ++ second ≡ ms
    → from + count ≤ length first → n ≡ count → take n (drop from first) ≡ take count (drop from ms)
in_first from count n first second ms whole within same =
    let left = length-drop from first in
    sym (ap (λ z. take count (drop from z)) (sym whole)
    ∙ ap (take count) (drop-append-le from first second (omega (arith, within)))
    ∙ take-append-le count (drop from first) second (omega (arith, left, within))
    ∙ ap (λ k. take k (drop from first)) (sym same))

pub in_second : (from count n b : ℕ) (first second ms : List Waiting) → first ++ second ≡ ms → length first ≤ from
    → n ≡ count → b ≡ from - length first → take n (drop b second) ≡ take count (drop from ms)
in_second from count n b first second ms whole behind same at =
    let apart : from ≡ length first + b = omega (arith, behind, at) in
    sym (ap (λ z. take count (drop from z)) (sym whole)
    ∙ ap (λ n. take count (drop n (first ++ second))) apart
    ∙ ap (take count) (drop-append-add first second b)
    ∙ ap (λ k. take k (drop b second)) (sym same))
