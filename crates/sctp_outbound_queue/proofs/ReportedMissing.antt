-- Reports of a SACK that pieces in flight are missing: they leave as many bytes outstanding and as many pieces marked.
use Rattle.std.proofs.Common.{◌≡◌, ℕ, zero, suc, ◌+◌, ◌-◌, ◌<◌, ◌≤◌, Bool, true, false, ◌&&◌, ◌||◌, not, cond}
use Rattle.std.proofs.Common.{List, [], ◌∷◌, ◌++◌, length, map, take, drop, slice_get, Option, Some, None, min}
use Rattle.std.proofs.Common.{refl, ap, sym, ◌∙◌, arith, ⊎_elim, nat_lt}
use Rattle.std.proofs.lemmas.Bool.{cases_Bool}
use Rattle.std.proofs.lemmas.List.{drop_all, drop_min, length-take, take_all, take_min}
use Rattle.std.proofs.lemmas.List.Sums.{prefix_len-le-length, sum_by-cons}
use Rattle.std.specs.Prelude.{if◌then◌else◌, slice_set, sum_by}
use Rattle.std.specs.List.{list_any, prefix_len}
use Rattle.sctp_outbound_queue.specs.declared.message.Among.{Among}
use Rattle.sctp_outbound_queue.specs.declared.message.Among.TheVariants as amongs
use Rattle.sctp_outbound_queue.specs.declared.message.InFlight.{InFlight}
use Rattle.sctp_outbound_queue.specs.declared.message.Reports.{Reports}
use Rattle.sctp_outbound_queue.specs.Message.{flying_bytes, is_among, is_last_report, is_reported, misses_before}
use Rattle.sctp_outbound_queue.specs.Message.{outstanding_bytes, reported_missing, was_acknowledged}
use Rattle.sctp_outbound_queue.specs.Outbound.{flying_of, is_last_report_of, marked_of, outstanding_of}
use Rattle.sctp_outbound_queue.specs.Outbound.{past_acknowledged, with_report}
use Rattle.sctp_outbound_queue.proofs.FirstOutstanding.{no_gap}

-- the first so many were reported
abbrev reported_up_to : Reports → ℕ → List InFlight → List InFlight
reported_up_to r i xs = map (reported_missing r) (take i xs) ++ drop i xs

-- a piece that was not reported yet is as it was
not_yet_written : (r : Reports) (xs : List InFlight) (i : ℕ) → slice_get (reported_up_to r i xs) i ≡ slice_get xs i
not_yet_written r [] zero = refl
not_yet_written r [] (suc i) = refl
not_yet_written r (x ∷ xs) zero = refl
not_yet_written r (x ∷ xs) (suc i) = not_yet_written r xs i

one_more : (r : Reports) (xs : List InFlight) (i : ℕ) (x : InFlight) → slice_get xs i ≡ Some x
    → slice_set (reported_up_to r i xs) i (reported_missing r x) ≡ reported_up_to r (suc i) xs
one_more r [] i x e = absurd (cc)
one_more r (y ∷ ys) zero x e =
    let same : y ≡ x = cc in
    rw (← same)
one_more r (y ∷ ys) (suc i) x e = ap (λ z. reported_missing r y ∷ z) (one_more r ys i x e)

or_none : (b : Bool) → (b || false) ≡ b
or_none true = refl
or_none false = refl

any_more : (test : InFlight → Bool) (xs : List InFlight) (i : ℕ) (x : InFlight) → slice_get xs i ≡ Some x
    → list_any test (take (suc i) xs) ≡ (list_any test (take i xs) || test x)
any_more test [] i x e = absurd (cc)
any_more test (y ∷ ys) zero x e =
    let same : y ≡ x = cc in
    rw (← same) (or_none (test y))
any_more test (y ∷ ys) (suc i) x e =
    ⊎_elim (λ (t : test y ≡ true). rw t) (λ (f : test y ≡ false). rw f (any_more test ys i x e))
    (cases_Bool (test y))

pub reported_on : (r : Reports) (xs ys : List InFlight) {zs : List InFlight} (i : ℕ) {any last : Bool}
    → i < length xs → ys ≡ reported_up_to r i xs → any ≡ list_any (is_last_report r) (take i xs)
    → zs ≡ with_report r (slice_get ys i) i ys → last ≡ is_last_report_of r (slice_get ys i)
    → (zs ≡ reported_up_to r (i + 1) xs) × ((any || last) ≡ list_any (is_last_report r) (take (i + 1) xs))
reported_on r xs ys {zs} i {any} {last} lt so_far any_is made last_is = at (slice_get xs i) refl where
  there : slice_get ys i ≡ slice_get xs i
  there = ap (λ z. slice_get z i) so_far ∙ not_yet_written r xs i

  at : (p : Option InFlight) → slice_get xs i ≡ p
      → (zs ≡ reported_up_to r (i + 1) xs) × ((any || last) ≡ list_any (is_last_report r) (take (i + 1) xs))
  at None e = absurd (no_gap xs i lt e)
  at (Some x) e =
      let here : slice_get ys i ≡ Some x = there ∙ e in
      let next : i + 1 ≡ suc i = omega arith in (
        made ∙ ap (λ p. with_report r p i ys) here ∙ ap (λ z. slice_set z i (reported_missing r x)) so_far
            ∙ one_more r xs i x e ∙ ap (λ k. reported_up_to r k xs) (sym next),
        ap (λ b. b || last) any_is
            ∙ ap (λ b. list_any (is_last_report r) (take i xs) || b) (last_is ∙ ap (is_last_report_of r) here)
            ∙ sym (any_more (is_last_report r) xs i x e)
            ∙ ap (λ k. list_any (is_last_report r) (take k xs)) (sym next),
      )

-- What was acknowledged is passed over: no report counts for it

acked_of : (a t : Bool) → (a && not t) ≡ true → a ≡ true
acked_of true t e = refl
acked_of false t e = absurd (cc)

not_among : (among : Among) (p : InFlight) → p.acked ≡ true
    → (is_among among p && nat_lt (misses_before among p) 3) ≡ false
not_among amongs.Outstanding p e = rw e refl
not_among amongs.NotResent p e = rw e refl
not_among amongs.Flying p e = rw e refl

not_reported : (r : Reports) (p : InFlight) → was_acknowledged p ≡ true → is_reported r p ≡ false
not_reported r p was = not_among r.among p (acked_of p.acked p.retransmit was)

acked_stays : (r : Reports) (p : InFlight) → was_acknowledged p ≡ true → reported_missing r p ≡ p
acked_stays r p was = let none = not_reported r p was in rw none refl

not_last : (r : Reports) (p : InFlight) → was_acknowledged p ≡ true → is_last_report r p ≡ false
not_last r p was = let none = not_reported r p was in rw none refl

one_acked : (r : Reports) (xs : List InFlight) (i : ℕ) (x : InFlight) → slice_get xs i ≡ Some x
    → was_acknowledged x ≡ true → reported_up_to r i xs ≡ reported_up_to r (suc i) xs
one_acked r [] i x e was = absurd (cc)
one_acked r (y ∷ ys) zero x e was =
    let same : y ≡ x = cc in
    let own : was_acknowledged y ≡ true = rw same was in
    sym (ap (λ z. z ∷ ys) (acked_stays r y own))
one_acked r (y ∷ ys) (suc i) x e was = ap (λ z. reported_missing r y ∷ z) (one_acked r ys i x e was)

any_acked : (r : Reports) (xs : List InFlight) (i : ℕ) (x : InFlight) → slice_get xs i ≡ Some x
    → was_acknowledged x ≡ true
    → list_any (is_last_report r) (take i xs) ≡ list_any (is_last_report r) (take (suc i) xs)
any_acked r xs i x e was =
    sym (any_more (is_last_report r) xs i x e
    ∙ ap (λ b. list_any (is_last_report r) (take i xs) || b) (not_last r x was)
    ∙ or_none (list_any (is_last_report r) (take i xs)))

-- how many of the first so many pieces from an index on were acknowledged
abbrev acked_run : ℕ → ℕ → List InFlight → ℕ
acked_run i n xs = prefix_len was_acknowledged (take n (drop i xs))

none_there : (i n : ℕ) → acked_run i n [] ≡ 0
none_there i n =
    let none : drop {A = InFlight} i [] ≡ [] = drop_all i [] (omega arith) in
    let few : take {A = InFlight} n [] ≡ [] = take_all n [] (omega arith) in
    rw (none, few) refl

-- the first of them, and the run behind it
record IsFirst (i n c : ℕ) (xs : List InFlight) : Type 0 where
  pub piece : InFlight
  pub here : slice_get xs i ≡ Some piece
  pub was : was_acknowledged piece ≡ true
  pub rest : c ≡ acked_run (suc i) (n - 1) xs

first_of : (i n c : ℕ) (xs : List InFlight) → suc c ≡ acked_run i n xs → IsFirst i n c xs
first_of i n c [] e = let none = none_there i n in absurd (omega (arith, e, none))
first_of zero zero c (x ∷ xs) e = absurd (omega (arith, e))
first_of zero (suc n) c (x ∷ xs) e = at (was_acknowledged x) refl e where
  at : (b : Bool) → was_acknowledged x ≡ b → suc c ≡ cond b (1 + prefix_len was_acknowledged (take n xs)) 0
      → IsFirst zero (suc n) c (x ∷ xs)
  at true a f =
      let less : suc n - 1 ≡ n = omega arith in
      record { piece = x; here = refl; was = a; rest = rw less (omega (arith, f)) }
  at false a f = absurd (omega (arith, f))
first_of (suc i) n c (x ∷ xs) e =
    let first = first_of i n c xs e in
    record { piece = first.piece; here = first.here; was = first.was; rest = first.rest }

run_passed : (r : Reports) (n c i : ℕ) (xs : List InFlight) → c ≡ acked_run i (n - i) xs
    → (reported_up_to r i xs ≡ reported_up_to r (i + c) xs)
    × (list_any (is_last_report r) (take i xs) ≡ list_any (is_last_report r) (take (i + c) xs))
run_passed r n zero i xs e =
    let same : i ≡ i + 0 = omega arith in
    (ap (λ k. reported_up_to r k xs) same, ap (λ k. list_any (is_last_report r) (take k xs)) same)
run_passed r n (suc c) i xs e =
    let first = first_of i (n - i) c xs e in
    let less : n - i - 1 ≡ n - suc i = omega arith in
    let end : suc i + c ≡ i + suc c = omega arith in
    let on = run_passed r n c (suc i) xs (first.rest ∙ ap (λ k. acked_run (suc i) k xs) less) in (
      one_acked r xs i first.piece first.here first.was ∙ on.0 ∙ ap (λ k. reported_up_to r k xs) end,
      any_acked r xs i first.piece first.here first.was ∙ on.1
          ∙ ap (λ k. list_any (is_last_report r) (take k xs)) end,
    )

-- behind those that were reported all is as it was
not_yet_reported : (r : Reports) (xs : List InFlight) (i : ℕ) → drop i (reported_up_to r i xs) ≡ drop i xs
not_yet_reported r [] zero = refl
not_yet_reported r [] (suc i) = refl
not_yet_reported r (x ∷ xs) zero = refl
not_yet_reported r (x ∷ xs) (suc i) = not_yet_reported r xs i

-- the walk goes past what was acknowledged
pub passed_on : (r : Reports) (xs ys : List InFlight) {any : Bool} (i n k : ℕ) → ys ≡ reported_up_to r i xs
    → any ≡ list_any (is_last_report r) (take i xs) → k ≡ past_acknowledged i n ys → i ≤ n
    → (ys ≡ reported_up_to r k xs) × (any ≡ list_any (is_last_report r) (take k xs)) × (i ≤ k) × (k ≤ n)
passed_on r xs ys i n k so_far any_is walk within =
    let behind : drop i ys ≡ drop i xs = ap (λ z. drop i z) so_far ∙ not_yet_reported r xs i in
    let run : k ≡ i + acked_run i (n - i) xs =
    walk ∙ ap (λ z. i + prefix_len was_acknowledged (take (n - i) z)) behind in
    let on = run_passed r n (acked_run i (n - i) xs) i xs refl in
    let most = prefix_len-le-length was_acknowledged (take (n - i) (drop i xs)) in
    let few = length-take (n - i) (drop i xs) in (
      so_far ∙ on.0 ∙ ap (λ z. reported_up_to r z xs) (sym run),
      any_is ∙ on.1 ∙ ap (λ z. list_any (is_last_report r) (take z xs)) (sym run),
      omega (arith, run),
      omega (arith, run, most, few, within),
    )

-- it begins
pub passed_first : (r : Reports) (xs : List InFlight) (n k : ℕ) → k ≡ past_acknowledged 0 n xs
    → (xs ≡ reported_up_to r k xs) × (false ≡ list_any (is_last_report r) (take k xs)) × (0 ≤ k) × (k ≤ n)
passed_first r xs n k walk =
    let same : xs ≡ reported_up_to r 0 xs = refl in
    let none : false ≡ list_any (is_last_report r) (take 0 xs) = refl in
    passed_on r xs xs 0 n k same none walk (omega arith)

-- and ends
pub all_reported : (r : Reports) (xs ys : List InFlight) {any : Bool} (n i : ℕ) → i ≡ min n (length xs)
    → ys ≡ reported_up_to r i xs → any ≡ list_any (is_last_report r) (take i xs)
    → (ys ≡ reported_up_to r n xs) × (any ≡ list_any (is_last_report r) (take n xs))
all_reported r xs ys n i is so_far any_is =
    let taken : take i xs ≡ take n xs = ap (λ k. take k xs) is ∙ take_min n xs in
    let left : drop i xs ≡ drop n xs = ap (λ k. drop k xs) is ∙ drop_min n xs in (
      so_far ∙ ap (λ z. map (reported_missing r) z ++ drop i xs) taken
          ∙ ap (λ z. map (reported_missing r) (take n xs) ++ z) left,
      any_is ∙ ap (λ z. list_any (is_last_report r) z) taken,
    )

-- What a report leaves as it is

same_bytes : (r : Reports) (x : InFlight) → outstanding_bytes (reported_missing r x) ≡ outstanding_bytes x
same_bytes r x = ⊎_elim (λ (t : is_reported r x ≡ true). rw t refl) (λ (f : is_reported r x ≡ false). rw f refl)
    (cases_Bool (is_reported r x))

same_mark : (r : Reports) (x : InFlight) → (reported_missing r x).retransmit ≡ x.retransmit
same_mark r x = ⊎_elim (λ (t : is_reported r x ≡ true). rw t refl) (λ (f : is_reported r x ≡ false). rw f refl)
    (cases_Bool (is_reported r x))

-- a sum over the pieces of what a report leaves as it is
same_sum : (g : InFlight → InFlight) (f : InFlight → ℕ) → ((x : InFlight) → f (g x) ≡ f x) → (n : ℕ)
    (xs : List InFlight) → sum_by f (map g (take n xs) ++ drop n xs) ≡ sum_by f xs
same_sum g f same zero xs = refl
same_sum g f same (suc n) [] = refl
same_sum g f same (suc n) (x ∷ xs) =
    sum_by-cons f (g x) (map g (take n xs) ++ drop n xs)
    ∙ ap (λ z. z + sum_by f (map g (take n xs) ++ drop n xs)) (same x)
    ∙ ap (λ z. f x + z) (same_sum g f same n xs)
    ∙ sym (sum_by-cons f x xs)

pub as_many_outstanding : (r : Reports) (n : ℕ) (xs : List InFlight)
    → outstanding_of (map (reported_missing r) (take n xs) ++ drop n xs) ≡ outstanding_of xs
as_many_outstanding r n xs = same_sum (reported_missing r) outstanding_bytes (same_bytes r) n xs

pub as_many_marked : (r : Reports) (n : ℕ) (xs : List InFlight)
    → marked_of (map (reported_missing r) (take n xs) ++ drop n xs) ≡ marked_of xs
as_many_marked r n xs =
    same_sum (reported_missing r) (λ x. if x.retransmit then 1 else 0)
    (λ x. ap (λ b. if b then 1 else 0) (same_mark r x)) n xs

same_flight : (r : Reports) (x : InFlight) → flying_bytes (reported_missing r x) ≡ flying_bytes x
same_flight r x = ⊎_elim (λ (t : is_reported r x ≡ true). rw t refl) (λ (f : is_reported r x ≡ false). rw f refl)
    (cases_Bool (is_reported r x))

pub as_many_flying : (r : Reports) (n : ℕ) (xs : List InFlight)
    → flying_of (map (reported_missing r) (take n xs) ++ drop n xs) ≡ flying_of xs
as_many_flying r n xs = same_sum (reported_missing r) flying_bytes (same_flight r) n xs
