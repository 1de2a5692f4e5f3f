-- A search that halves.
use Rattle.std.proofs.Common.{◌≡◌, ℕ, zero, suc, ◌+◌, ◌-◌, ◌^◌, ◌<◌, ◌≤◌, Bool, true, false, ◌&&◌, ◌||◌, ltb, leb, List, []}
use Rattle.std.proofs.Common.{◌∷◌, length, refl, sym, ◌∙◌, ⊎_elim, arith, Some}
use Rattle.std.specs.List.{slice_get}
use Rattle.std.proofs.Math.Pow.{pow_mono}
use Rattle.std.proofs.lemmas.Bool.{cases_Bool, ltb-true, ltb-false, lt-ltb, le-ltb, lt-leb, le-leb}
use Rattle.sctp_ranges.specs.declared.run.Run.{Run}
use Rattle.sctp_ranges.specs.Runs.{AreApart, is_in, ended_before, is_begun}

-- The bound.

-- half of what k digits are enough for needs one digit less
halves : (w v j : ℕ) → 0 < w → w < 2 ^ j → v + v ≤ w → (0 < j) × (v < 2 ^ (j - 1))
halves w v zero a b h = absurd (omega (arith, a, b))
halves w v (suc j) a b h =
    let e : suc j - 1 ≡ j = omega arith in
    rw e (omega arith, omega (arith, b, h))

-- a look leaves half of what there was, which needs a digit less
pub spent_more : (old k looks next w v : ℕ) → w < 2 ^ (old + k - looks) → looks ≤ old + k → 0 < w → v + v ≤ w
    → next ≤ looks + 1 → (v < 2 ^ (old + k - next)) × (next ≤ old + k)
spent_more old k looks next w v b l a h n =
    let half = halves w v (old + k - looks) a b h in
    let more : 2 ^ (old + k - looks - 1) ≤ 2 ^ (old + k - next) = pow_mono (omega (arith, half.0, n)) in
    (omega (arith, half.1, more), omega (arith, half.0, n))

-- Where a range ends.

pub ended_within : (o : ℕ) (rs : List Run) → ended_before o rs ≤ length rs
ended_within o [] = omega arith
ended_within o (r ∷ rs) =
    ⊎_elim
    (λ (e : ltb r.last o ≡ true). rw e (omega (arith, ended_within o rs)))
    (λ (e : ltb r.last o ≡ false). rw e (omega arith))
    (cases_Bool (ltb r.last o))

-- a range that ends before an offset is one of those that do, since the ranges ascend
pub ended_here : (least o i : ℕ) (r : Run) (rs : List Run) → AreApart least rs → slice_get rs i ≡ Some r → r.last < o
    → i < ended_before o rs
ended_here least o i r [] a e l = absurd (cc)
ended_here least o zero r (x ∷ rs) a e l =
    let same : x ≡ r = cc in
    let ends : ltb x.last o ≡ true = lt-ltb x.last o (rw same l) in
    rw ends (omega arith)
ended_here least o (suc i) r (x ∷ rs) a e l =
    let more = ended_here (x.last + 2) o i r rs a.3 e l in
    let begins = begins_past (x.last + 2) i r rs a.3 e in
    let ends : ltb x.last o ≡ true = lt-ltb x.last o (omega (arith, begins.0, begins.1, l)) in
    rw ends (omega (arith, more))
  where
    begins_past : (least i : ℕ) (r : Run) (rs : List Run) → AreApart least rs → slice_get rs i ≡ Some r
        → (least ≤ r.first) × (r.first ≤ r.last)
    begins_past least i r [] a e = absurd (cc)
    begins_past least zero r (x ∷ rs) a e = let same : x ≡ r = cc in rw (← same) (a.0, a.1)
    begins_past least (suc i) r (x ∷ rs) a e =
        let more = begins_past (x.last + 2) i r rs a.3 e in
        (omega (arith, more.0, a.0, a.1), more.1)

-- one that does not end before it is none of them
pub not_ended_here : (o i : ℕ) (r : Run) (rs : List Run) → slice_get rs i ≡ Some r → o ≤ r.last
    → ended_before o rs ≤ i
not_ended_here o i r [] e l = absurd (cc)
not_ended_here o zero r (x ∷ rs) e l =
    let same : x ≡ r = cc in
    let stays : ltb x.last o ≡ false = le-ltb x.last o (rw same l) in
    rw stays (omega arith)
not_ended_here o (suc i) r (x ∷ rs) e l =
    let more = not_ended_here o i r rs e l in
    ⊎_elim
    (λ (f : ltb x.last o ≡ true). rw f (omega (arith, more)))
    (λ (f : ltb x.last o ≡ false). rw f (omega arith))
    (cases_Bool (ltb x.last o))

-- What the place that was found tells.

-- no range that begins past an offset has it
pub none_in : (least o : ℕ) (rs : List Run) → AreApart least rs → o < least → is_in o rs ≡ false
none_in least o [] a l = refl
none_in least o (r ∷ rs) a l =
    let off : leb r.first o ≡ false = lt-leb r.first o (omega (arith, a.0, l)) in
    rw off (none_in (r.last + 2) o rs a.3 (omega (arith, a.0, a.1, l)))

-- an offset is one of the ranges' where the range at its place begins at it or before it
pub in_place : (least o : ℕ) (rs : List Run) → AreApart least rs
    → is_begun o (slice_get rs (ended_before o rs)) ≡ is_in o rs
in_place least o [] a = refl
in_place least o (r ∷ rs) a =
    ⊎_elim
    (λ (e : ltb r.last o ≡ true).
    let ends : r.last < o = ltb-true r.last o e in
    let off : leb o r.last ≡ false = lt-leb o r.last ends in
    rw (e, off) (in_place (r.last + 2) o rs a.3 ∙ sym (nothing (leb r.first o) (is_in o rs))))
    (λ (e : ltb r.last o ≡ false).
    let stays : o ≤ r.last = ltb-false r.last o e in
    let on : leb o r.last ≡ true = le-leb o r.last stays in
    rw (e, on, none_in (r.last + 2) o rs a.3 (omega (arith, stays))) (sym (alone (leb r.first o))))
    (cases_Bool (ltb r.last o))
  where
    nothing : (b c : Bool) → ((b && false) || c) ≡ c
    nothing true c = refl
    nothing false c = refl

    alone : (b : Bool) → ((b && true) || false) ≡ b
    alone true = refl
    alone false = refl
