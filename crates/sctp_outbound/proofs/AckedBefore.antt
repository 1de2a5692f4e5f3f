-- Pieces that were acknowledged before and stand one behind another: a walk that passes over them leaves nothing out.
use Rattle.std.proofs.Common.{◌≡◌, ℕ, zero, suc, ◌+◌, ◌-◌, ◌<◌, ◌≤◌, ◌∙◌, Bool, true, false, ◌&&◌, ◌||◌, eqb, leb}
use Rattle.std.proofs.Common.{ltb, cond, max, List, [], ◌∷◌, ◌++◌, Some, None, Option, drop, slice_get, take}
use Rattle.std.proofs.Common.{refl, ap, subst, sym, arith}
use Rattle.std.specs.List.{prefix_len}
use Rattle.std.proofs.lemmas.Bool.Decides.{nat_tests}
use Rattle.std.proofs.lemmas.List.{drop_all, length-take, take_all}
use Rattle.std.proofs.lemmas.List.Sums.{prefix_len-le-length}
use Rattle.sctp_outbound_queue.specs.declared.message.InFlight.{InFlight}
use Rattle.sctp_outbound_queue.specs.Message.{was_acknowledged}
use Rattle.sctp_outbound_queue.specs.Outbound.{past_acknowledged}
use Rattle.sctp_streams.specs.Streams.{StreamMap}
use Rattle.sctp_outbound.specs.declared.sender.Sender.{Sender}
use Rattle.sctp_outbound.specs.GapAcks.{acked_among, trip_of, trips_from}
use Rattle.sctp_outbound.proofs.GapAcks.{AcknowledgesNamed, acked_before, acknowledges_again, acknowledges_both}
use Rattle.sctp_outbound.proofs.GapAcks.{acknowledges_none, both_of, greatest_none, passed}

-- how many of the first so many pieces from an index on were acknowledged
abbrev pub acked_run : ℕ → ℕ → List InFlight → ℕ
acked_run i n xs = prefix_len was_acknowledged (take n (drop i xs))

none_there : (i n : ℕ) → acked_run i n [] ≡ 0
none_there i n =
    let none : drop {A = InFlight} i [] ≡ [] = drop_all i [] (omega arith) in
    let few : take {A = InFlight} n [] ≡ [] = take_all n [] (omega arith) in
    rw (none, few) refl

-- the first of them, and the run behind it
record IsFirst (i n r : ℕ) (xs : List InFlight) : Type 0 where
  pub piece : InFlight
  pub here : slice_get xs i ≡ Some piece
  pub was : was_acknowledged piece ≡ true
  pub some : 0 < n
  pub rest : r ≡ acked_run (suc i) (n - 1) xs

first_of : (i n r : ℕ) (xs : List InFlight) → suc r ≡ acked_run i n xs → IsFirst i n r xs
first_of i n r [] e = let none = none_there i n in absurd (omega (arith, e, none))
first_of zero zero r (x ∷ xs) e = absurd (omega (arith, e))
first_of zero (suc n) r (x ∷ xs) e = at (was_acknowledged x) refl e where
  at : (b : Bool) → was_acknowledged x ≡ b → suc r ≡ cond b (1 + prefix_len was_acknowledged (take n xs)) 0
      → IsFirst zero (suc n) r (x ∷ xs)
  at true a f =
      let less : suc n - 1 ≡ n = omega arith in
      record { piece = x; here = refl; was = a; some = omega arith; rest = rw less (omega (arith, f)) }
  at false a f = absurd (omega (arith, f))
first_of (suc i) n r (x ∷ xs) e =
    let first = first_of i n r xs e in
    record { piece = first.piece; here = first.here; was = first.was; some = first.some; rest = first.rest }

-- They measure nothing

no_trip : (now : ℕ) (p : InFlight) → was_acknowledged p ≡ true → trip_of now (Some p) ≡ []
no_trip now p was = let acked = (both_of p.acked p.retransmit was).0 in rw acked refl

-- what the pieces measure behind them is what all measure
run_trips : (now n r i : ℕ) (xs : List InFlight) → r ≡ acked_run i (n - i) xs
    → trips_from now i (n - i) xs ≡ trips_from now (i + r) (n - (i + r)) xs
run_trips now n zero i xs e = let same : i + 0 ≡ i = omega arith in rw same refl
run_trips now n (suc r) i xs e =
    let first = first_of i (n - i) r xs e in
    let some = first.some in
    let more : n - i ≡ suc (n - suc i) = omega (arith, some) in
    let less : n - i - 1 ≡ n - suc i = omega arith in
    let on : i + 1 ≡ suc i = omega arith in
    let end : suc i + r ≡ i + suc r = omega arith in
    ap (λ c. trips_from now i c xs) more
    ∙ ap (λ o. trip_of now o ++ trips_from now (i + 1) (n - suc i) (acked_among (λ j. eqb j i) 0 xs)) first.here
    ∙ ap (λ z. z ++ trips_from now (i + 1) (n - suc i) (acked_among (λ j. eqb j i) 0 xs))
    (no_trip now first.piece first.was)
    ∙ ap (trips_from now (i + 1) (n - suc i)) (acked_before xs i first.piece first.here first.was)
    ∙ ap (λ k. trips_from now k (n - suc i) xs) on
    ∙ run_trips now n r (suc i) xs (first.rest ∙ ap (λ c. acked_run (suc i) c xs) less)
    ∙ ap (λ k. trips_from now k (n - k) xs) end

pub passed_trips : (now n i k : ℕ) (xs : List InFlight) → k ≡ past_acknowledged i n xs
    → trips_from now i (n - i) xs ≡ trips_from now k (n - k) xs
passed_trips now n i k xs walk =
    run_trips now n (acked_run i (n - i) xs) i xs refl ∙ ap (λ z. trips_from now z (n - z) xs) (sym walk)

-- To acknowledge them again changes nothing

abbrev pub between : ℕ → ℕ → ℕ → Bool
between i k j = leb i j && ltb j k

between_none : (i j : ℕ) → between i (i + 0) j ≡ false
between_none i j = grind (arith, nat_tests)

between_more : (i r j : ℕ) → (eqb j i || between (suc i) (suc i + r) j) ≡ between i (i + suc r) j
between_more i r j = grind (arith, nat_tests)

run_again : (s : Sender) (m : StreamMap) (n r i : ℕ) → r ≡ acked_run i (n - i) s.queue.in_flight
    → AcknowledgesNamed (between i (i + r)) s s m m None
run_again s m n zero i e = acknowledges_none (between i (i + 0)) s m (λ j l. between_none i j)
run_again s m n (suc r) i e =
    let xs = s.queue.in_flight in
    let first = first_of i (n - i) r xs e in
    let less : n - i - 1 ≡ n - suc i = omega arith in
    acknowledges_both (between i (i + suc r)) (acknowledges_again s m i first.piece first.here first.was)
    (run_again s m n r (suc i) (first.rest ∙ ap (λ c. acked_run (suc i) c xs) less))
    (λ j l. between_more i r j)

passed_over : (first n i k j : ℕ) → first ≤ i → i ≤ k → k ≤ max i n
    → (passed first n i j || between i k j) ≡ passed first n k j
passed_over first n i k j l u v = grind (arith, nat_tests, l, u, v)

-- the walk comes to an index between the one from which it goes and its end
pub comes_to : (n i k : ℕ) (xs : List InFlight) → k ≡ past_acknowledged i n xs → (i ≤ k) × (k ≤ max i n)
comes_to n i k xs walk =
    let most = prefix_len-le-length was_acknowledged (take (n - i) (drop i xs)) in
    let few = length-take (n - i) (drop i xs) in
    (omega (arith, walk), omega (arith, walk, most, few))

-- where all before them were acknowledged that are named, all behind them were too
pub passed_named : {s s2 : Sender} {m m2 : StreamMap} {last : Option ℕ} (first n i k : ℕ)
    → k ≡ past_acknowledged i n s2.queue.in_flight → first ≤ i
    → AcknowledgesNamed (passed first n i) s s2 m m2 last → AcknowledgesNamed (passed first n k) s s2 m m2 last
passed_named {s = s} {s2 = s2} {m = m} {m2 = m2} {last = last} first n i k walk from before =
    let xs = s2.queue.in_flight in
    let to = comes_to n i k xs walk in
    let again : AcknowledgesNamed (between i k) s2 s2 m2 m2 None =
    subst (λ z. AcknowledgesNamed (between i z) s2 s2 m2 m2 None) (sym walk)
    (run_again s2 m2 n (acked_run i (n - i) xs) i refl) in
    subst (AcknowledgesNamed (passed first n k) s s2 m m2) (greatest_none last)
    (acknowledges_both (passed first n k) before again
    (λ j l. passed_over first n i k j from to.0 to.1))
