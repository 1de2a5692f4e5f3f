-- Lists of which all pass a test, and deadlines of messages before which no moment is over.
use Rattle.std.proofs.Common.{◌≡◌, ℕ, zero, suc, Bool, true, false, ◌&&◌, not, List, [], ◌∷◌, ◌++◌, Option, Some}
use Rattle.std.proofs.Common.{None, length, map, take, drop, slice_get, refl, ap, sym, ◌∙◌, arith, true≢false, ◌+◌}
use Rattle.std.proofs.Common.{◌-◌, ◌<◌, ◌≤◌}
use Rattle.std.specs.Prelude.{slice_set, get_or}
use Rattle.std.specs.List.{AllByRecursion}
use Rattle.std.proofs.lemmas.Bool.Decides.{nat_tests}
use Rattle.sctp_wire_types.specs.declared.reliability.Policy.{Policy}
use Rattle.sctp_wire_types.specs.declared.reliability.Policy.TheVariants.{Reliable, Rexmit, Timed}
use Rattle.sctp_outbound_queue.specs.Waiting.{Waiting}
use Rattle.sctp_outbound_queue.specs.Message.{is_due, is_from, is_past, is_timed, is_timely, keeps_time, sooner}
use Rattle.sctp_outbound_queue.specs.Message.{sooner_under, deadline_under, waiting_started, with_start}
use Rattle.std.proofs.lemmas.List.{take-append-drop}
use Rattle.sctp_outbound_queue.specs.Clocks.{AllFrom, AllRun, runs}

-- Lists of which all pass a test

abbrev pub All : {X : Type 0} → (X → Bool) → List X → Type 0
All test xs = AllByRecursion (λ x. test x ≡ true) xs

-- what passes the test still does after the change
abbrev pub Keeps : {X : Type 0} → (X → Bool) → (X → X) → Type 0
Keeps {X} test f = (x : X) → test x ≡ true → test (f x) ≡ true

pub all_changed : {X : Type 0} (test : X → Bool) (f : X → X) → Keeps test f → (xs : List X) → All test xs
    → All test (map f xs)
all_changed test f keeps [] a = a
all_changed test f keeps (x ∷ xs) (h, a) = (keeps x h, all_changed test f keeps xs a)

pub first_changed : {X : Type 0} (test : X → Bool) (f : X → X) → Keeps test f → (n : ℕ) (xs : List X) → All test xs
    → All test (map f (take n xs) ++ drop n xs)
first_changed test f keeps zero xs a = a
first_changed test f keeps (suc n) [] a = a
first_changed test f keeps (suc n) (x ∷ xs) (h, a) = (keeps x h, first_changed test f keeps n xs a)

pub one_changed : {X : Type 0} (test : X → Bool) (f : X → X) → Keeps test f → (xs : List X) (i : ℕ) (x : X)
    → slice_get xs i ≡ Some x → All test xs → All test (slice_set xs i (f x))
one_changed test f keeps [] i x e a = a
one_changed test f keeps (y ∷ ys) zero x e (h, a) =
    let same : y ≡ x = cc in
    rw (← same) (keeps y h, a)
one_changed test f keeps (y ∷ ys) (suc i) x e (h, a) = (h, one_changed test f keeps ys i x e a)

pub all_more : {X : Type 0} (test : X → Bool) (xs : List X) (y : X) → All test xs → test y ≡ true
    → All test (xs ++ y ∷ [])
all_more test [] y a h = (h, a)
all_more test (x ∷ xs) y (k, a) h = (k, all_more test xs y a h)

pub all_behind : {X : Type 0} (test : X → Bool) (xs : List X) → All test xs → All test (drop 1 xs)
all_behind test [] a = a
all_behind test (x ∷ xs) (h, a) = a

pub all_weaker : {X : Type 0} (test other : X → Bool) → ((x : X) → test x ≡ true → other x ≡ true) → (xs : List X)
    → All test xs → All other xs
all_weaker test other weaker [] a = a
all_weaker test other weaker (x ∷ xs) (h, a) = (weaker x h, all_weaker test other weaker xs a)

-- One message

-- whatever the next deadline is, an abandoned piece does not wait for it
pub late_under : (run : Bool) (next : Option ℕ) (policy : Policy) (deadline : Option ℕ)
    → keeps_time run next policy deadline ≡ true → keeps_time run (Some 0) policy deadline ≡ true
late_under run next Reliable deadline e = refl
late_under run next (Rexmit n) deadline e = refl
late_under run next (Timed ms) None e = e
late_under run next (Timed ms) (Some d) e = grind (arith, nat_tests)

-- where it isn't said that all times run less is said
pub unsaid_under : (run : Bool) (next : Option ℕ) (policy : Policy) (deadline : Option ℕ)
    → keeps_time run next policy deadline ≡ true → keeps_time false next policy deadline ≡ true
unsaid_under run next Reliable deadline e = refl
unsaid_under run next (Rexmit n) deadline e = refl
unsaid_under run next (Timed ms) None e = refl
unsaid_under run next (Timed ms) (Some d) e = e

-- a message that is accepted runs, unless it has a lifetime
pub accepted_under : (run : Bool) (next : Option ℕ) (policy : Policy)
    → keeps_time (run && not (is_timed policy)) next policy None ≡ true
accepted_under run next Reliable = refl
accepted_under run next (Rexmit n) = refl
accepted_under true next (Timed ms) = refl
accepted_under false next (Timed ms) = refl

-- once the times of all messages run that of this one does
pub started_under : (now : ℕ) (policy : Policy) (deadline : Option ℕ)
    → keeps_time true (Some 0) policy (deadline_under policy now deadline) ≡ true
started_under now Reliable deadline = refl
started_under now (Rexmit n) deadline = refl
started_under now (Timed ms) None = grind (arith, nat_tests)
started_under now (Timed ms) (Some d) = grind (arith, nat_tests)

-- where it runs nothing is left to be started
pub runs_under : (now : ℕ) (next : Option ℕ) (policy : Policy) (deadline : Option ℕ)
    → keeps_time true next policy deadline ≡ true → deadline_under policy now deadline ≡ deadline
runs_under now next Reliable deadline e = refl
runs_under now next (Rexmit n) deadline e = refl
runs_under now next (Timed ms) None e = absurd (true≢false (sym e))
runs_under now next (Timed ms) (Some d) e = refl

-- before the next deadline nothing is over
pub not_over : (now : ℕ) (run : Bool) (next : Option ℕ) (policy : Policy) (deadline : Option ℕ)
    → keeps_time run next policy deadline ≡ true → is_due next now ≡ false → is_past policy deadline now ≡ false
not_over now run next Reliable deadline e due = refl
not_over now run next (Rexmit n) deadline e due = refl
not_over now run next (Timed ms) None e due = refl
not_over now run None (Timed ms) (Some d) e due = absurd (true≢false (sym e))
not_over now run (Some t) (Timed ms) (Some d) e due = grind (arith, nat_tests, e, due)

-- the next deadline is at or before another
abbrev pub IsSooner : Option ℕ → Option ℕ → Type 0
IsSooner next other = (d : ℕ) → is_from other d ≡ true → is_from next d ≡ true

pub sooner_still : (next : Option ℕ) (policy : Policy) (deadline : Option ℕ)
    → IsSooner (sooner_under policy deadline next) next
sooner_still next Reliable deadline d e = e
sooner_still next (Rexmit n) deadline d e = e
sooner_still next (Timed ms) None d e = e
sooner_still None (Timed ms) (Some t) d e = absurd (true≢false (sym e))
sooner_still (Some s) (Timed ms) (Some t) d e = grind (arith, nat_tests, e)

-- one that counts this message's lies at or before it
pub rebound_under : (run : Bool) (old next : Option ℕ) (policy : Policy) (deadline : Option ℕ)
    → keeps_time run old policy deadline ≡ true
    → keeps_time run (sooner_under policy deadline next) policy deadline ≡ true
rebound_under run old next Reliable deadline e = refl
rebound_under run old next (Rexmit n) deadline e = refl
rebound_under run old next (Timed ms) None e = e
rebound_under run old None (Timed ms) (Some t) e = grind (arith, nat_tests)
rebound_under run old (Some s) (Timed ms) (Some t) e = grind (arith, nat_tests)

pub sooner_under_too : (run : Bool) (next other : Option ℕ) (policy : Policy) (deadline : Option ℕ)
    → IsSooner next other → keeps_time run other policy deadline ≡ true → keeps_time run next policy deadline ≡ true
sooner_under_too run next other Reliable deadline sooner e = refl
sooner_under_too run next other (Rexmit n) deadline sooner e = refl
sooner_under_too run next other (Timed ms) None sooner e = e
sooner_under_too run next other (Timed ms) (Some d) sooner e = sooner d e

-- The first messages of a list

pub all_take : {X : Type 0} (test : X → Bool) (n : ℕ) (xs : List X) → All test xs → All test (take n xs)
all_take test zero xs a = tt
all_take test (suc n) [] a = tt
all_take test (suc n) (x ∷ xs) (h, a) = (h, all_take test n xs a)

pub first_more : {X : Type 0} (test : X → Bool) (n : ℕ) (xs : List X) (y : X) → n ≤ length xs → All test (take n xs)
    → All test (take n (xs ++ y ∷ []))
first_more test zero xs y le a = tt
first_more test (suc n) [] y le a = absurd (omega arith)
first_more test (suc n) (x ∷ xs) y le (h, a) = (h, first_more test n xs y (omega arith) a)

pub none_first : {X : Type 0} (test : X → Bool) (n : ℕ) → All test (take n [])
none_first test zero = tt
none_first test (suc n) = tt

pub first_behind : {X : Type 0} (test : X → Bool) (n : ℕ) (xs : List X) → All test (take n xs)
    → All test (take (n - 1) (drop 1 xs))
first_behind test zero [] a = tt
first_behind test zero (x ∷ xs) a = tt
first_behind test (suc n) [] a = none_first test (suc n - 1)
first_behind test (suc n) (x ∷ xs) (h, a) = let e : suc n - 1 ≡ n = omega arith in rw e a

pub all_of : {X : Type 0} (test : X → Bool) (n : ℕ) (xs : List X) → length xs ≤ n → All test (take n xs) → All test xs
all_of test n [] le a = tt
all_of test zero (x ∷ xs) le a = absurd (omega arith)
all_of test (suc n) (x ∷ xs) le (h, a) = (h, all_of test n xs (omega arith) a)

-- one more of the first
pub one_further : {X : Type 0} (test : X → Bool) (n : ℕ) (xs : List X) (d : X) → n < length xs → All test (take n xs)
    → test (get_or xs n d) ≡ true → All test (take (n + 1) xs)
one_further test n [] d lt a h = absurd (omega arith)
one_further test zero (x ∷ xs) d lt a h = (h, none_first test 0)
one_further test (suc n) (x ∷ xs) d lt (k, a) h =
    let e : suc n + 1 ≡ suc (n + 1) = omega arith in
    rw e (k, one_further test n xs d (omega arith) a h)

-- No deadline lies before a moment

pub from_zero : (policy : Policy) (deadline : Option ℕ) → keeps_time false (Some 0) policy deadline ≡ true
from_zero Reliable deadline = refl
from_zero (Rexmit n) deadline = refl
from_zero (Timed ms) None = refl
from_zero (Timed ms) (Some d) = grind (arith, nat_tests)

abbrev pub is_from_next : Option ℕ → Waiting → Bool
is_from_next next m = is_timely false next m.message

abbrev pub is_running : Waiting → Bool
is_running m = runs m.message

pub all_sooner : (next : Option ℕ) (policy : Policy) (deadline : Option ℕ) (ms : List Waiting) → AllFrom next ms
    → AllFrom (sooner_under policy deadline next) ms
all_sooner next policy deadline ms a =
    all_weaker (is_from_next next) (is_from_next (sooner_under policy deadline next))
    (λ m h. sooner_under_too false (sooner_under policy deadline next) next m.message.policy m.message.deadline
    (sooner_still next policy deadline) h) ms a

-- with one message more that was looked at
pub from_further : (next : Option ℕ) (n : ℕ) (ms : List Waiting) (m : Waiting) → n < length ms
    → AllFrom next (take n ms) → m ≡ get_or ms n m → AllFrom (sooner next m.message) (take (n + 1) ms)
from_further next n ms m lt a here =
    let later = all_sooner next m.message.policy m.message.deadline (take n ms) a in
    let own = rebound_under false (Some 0) next m.message.policy m.message.deadline
    (from_zero m.message.policy m.message.deadline) in
    one_further (is_from_next (sooner next m.message)) n ms m lt later
    (ap (is_from_next (sooner next m.message)) (sym here) ∙ own)

pub from_all : (next : Option ℕ) (n : ℕ) (ms : List Waiting) → length ms ≤ n → AllFrom next (take n ms)
    → AllFrom next ms
from_all next n ms le a = all_of (is_from_next next) n ms le a

-- Starting

-- where they run already nothing changes
pub waiting_run : (now : ℕ) (next : Option ℕ) (ms : List Waiting)
    → All (λ (m : Waiting). is_timely true next m.message) ms → map (waiting_started now) ms ≡ ms
waiting_run now next [] a = refl
waiting_run now next (m ∷ ms) (h, a) =
    ap (λ d. record m { message = (let n = m.message in record n { deadline = d }) } ∷ map (waiting_started now) ms)
    (runs_under now next m.message.policy m.message.deadline h)
    ∙ ap (λ z. m ∷ z) (waiting_run now next ms a)

pub waiting_runs : (now : ℕ) (ms : List Waiting)
    → All (λ (m : Waiting). is_timely true (Some 0) m.message) (map (waiting_started now) ms)
waiting_runs now [] = tt
waiting_runs now (m ∷ ms) = (started_under now m.message.policy m.message.deadline, waiting_runs now ms)

-- the first so many were started
abbrev started_up_to : ℕ → ℕ → List Waiting → List Waiting
started_up_to now i xs = map (waiting_started now) (take i xs) ++ drop i xs

not_yet_started : (now : ℕ) (xs : List Waiting) (i : ℕ) → slice_get (started_up_to now i xs) i ≡ slice_get xs i
not_yet_started now [] zero = refl
not_yet_started now [] (suc i) = refl
not_yet_started now (x ∷ xs) zero = refl
not_yet_started now (x ∷ xs) (suc i) = not_yet_started now xs i

one_more_started : (now : ℕ) (xs : List Waiting) (i : ℕ) (x : Waiting) → slice_get xs i ≡ Some x
    → slice_set (started_up_to now i xs) i (waiting_started now x) ≡ started_up_to now (suc i) xs
one_more_started now [] i x e = absurd (cc)
one_more_started now (y ∷ ys) zero x e =
    let same : y ≡ x = cc in
    rw (← same)
one_more_started now (y ∷ ys) (suc i) x e = ap (λ z. waiting_started now y ∷ z) (one_more_started now ys i x e)

is_there : (xs : List Waiting) (i : ℕ) → i < length xs → slice_get xs i ≡ None → ⊥
is_there [] i lt e = omega (arith, lt)
is_there (x ∷ xs) zero lt e = cc
is_there (x ∷ xs) (suc i) lt e = is_there xs i (omega (arith, lt)) e

pub started_on : (now : ℕ) (xs ys zs : List Waiting) (i : ℕ) → i < length xs
    → ys ≡ map (waiting_started now) (take i xs) ++ drop i xs → zs ≡ with_start now (slice_get ys i) i ys
    → zs ≡ map (waiting_started now) (take (i + 1) xs) ++ drop (i + 1) xs
started_on now xs ys zs i lt so_far made = at (slice_get xs i) refl where
  at : (m : Option Waiting) → slice_get xs i ≡ m → zs ≡ started_up_to now (i + 1) xs
  at None e = absurd (is_there xs i lt e)
  at (Some x) e =
      let here : slice_get ys i ≡ Some x = ap (λ z. slice_get z i) so_far ∙ not_yet_started now xs i ∙ e in
      let next : i + 1 ≡ suc i = omega arith in
      made ∙ ap (λ m. with_start now m i ys) here ∙ ap (λ z. slice_set z i (waiting_started now x)) so_far
      ∙ one_more_started now xs i x e ∙ ap (λ k. started_up_to now k xs) (sym next)

-- those of which the time runs are as if they were started
pub started_first : (now n : ℕ) (ms : List Waiting) → AllRun (take n ms)
    → ms ≡ map (waiting_started now) (take n ms) ++ drop n ms
started_first now n ms run =
    sym (ap (λ z. z ++ drop n ms) (waiting_run now (Some 0) (take n ms) run) ∙ take-append-drop n ms)

-- Nothing is over before the next deadline

pub and_false : (b : Bool) → (b && false) ≡ false
and_false true = refl
and_false false = refl
