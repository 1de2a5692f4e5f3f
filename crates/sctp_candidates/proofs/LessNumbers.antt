-- Numbers that become less.
use Rattle.std.proofs.Common.{◌≡◌, ℕ, zero, suc, ◌+◌, ◌-◌, ◌<◌, ◌≤◌, ◌&&◌, ◌||◌, leb}
use Rattle.std.proofs.Common.{List, [], ◌∷◌, ◌++◌, length, map, take, drop, slice_get, slice_set, Some, refl, ap, sym, ◌∙◌, arith}
use Rattle.std.proofs.lemmas.Bool.Decides.{nat_tests}
use Rattle.sctp_ranges.specs.declared.run.Run.{Run}
use Rattle.sctp_ranges.specs.Runs.{AreApart, is_in}
use Rattle.sctp_candidates.specs.Candidates.{lowered, BeginFrom, AreWithin}
use Rattle.sctp_candidates.proofs.Members.{in_first, in_rest}

-- ranges within numbers from one on begin there
pub begin_within : (b e l : ℕ) (rs : List Run) → AreApart l rs → AreWithin b e rs → BeginFrom b rs
begin_within b e l [] apart within = tt
begin_within b e l (r ∷ rs) apart within =
    let first = within r.first (in_first r rs r.first (omega arith) apart.1) in (
      (first.0, omega (arith, first.0, apart.1)),
      begin_within b e (r.last + 2) rs apart.3 (λ n is. within n (in_rest r rs n is)),
    )

pub lowered_apart : (b l : ℕ) (rs : List Run) → AreApart l rs → BeginFrom b rs → AreApart (l - b) (map (lowered b) rs)
lowered_apart b l [] apart from = tt
lowered_apart b l (r ∷ rs) apart from = (
  omega (arith, apart.0),
  omega (arith, apart.1),
  omega (arith, apart.2),
  again (r.last + 2 - b) (r.last - b + 2) (map (lowered b) rs) (omega (arith, from.0.1)) (
      lowered_apart b (r.last + 2) rs apart.3 from.1
      ),
)
  where
    again : (m n : ℕ) (xs : List Run) → m ≡ n → AreApart m xs → AreApart n xs
    again m n xs e a = rw (← e) a

pub lowered_in : (b n : ℕ) (rs : List Run) → BeginFrom b rs → is_in n (map (lowered b) rs) ≡ is_in (b + n) rs
lowered_in b n [] from = refl
lowered_in b n (r ∷ rs) from =
    rw (lowered_in b n rs from.1) (ap (λ z. z || is_in (b + n) rs) (one r.first r.last from.0.0 from.0.1))
  where
    one : (f l : ℕ) → b ≤ f → b ≤ l → (leb (f - b) n && leb n (l - b)) ≡ (leb f (b + n) && leb (b + n) l)
    one f l v w = grind (arith, nat_tests, v, w)

pub lowered_within : (b e : ℕ) (rs : List Run) → BeginFrom b rs → AreWithin b e rs
    → AreWithin 0 (e - b) (map (lowered b) rs)
lowered_within b e rs from within n is =
    let both = within (b + n) (sym (lowered_in b n rs from) ∙ is) in
    (omega arith, omega (arith, both.1))

-- one range more is lowered
pub lowered_more : (b i : ℕ) (r : Run) (old now : List Run) → now ≡ map (lowered b) (take i old) ++ drop i old
    → slice_get now i ≡ Some r → i < length old
    → slice_set now i (lowered b r) ≡ map (lowered b) (take (i + 1) old) ++ drop (i + 1) old
lowered_more b i r old now is e l =
    ap (λ zs. slice_set zs i (lowered b r)) is ∙
    there i old (ap (λ zs. slice_get zs i) (sym is) ∙ e) l ∙
    ap (λ k. map (lowered b) (take k old) ++ drop k old) (sym (next i))
  where
    next : (i : ℕ) → i + 1 ≡ suc i
    next i = omega arith

    there : (i : ℕ) (old : List Run) → slice_get (map (lowered b) (take i old) ++ drop i old) i ≡ Some r
        → i < length old
        → slice_set (map (lowered b) (take i old) ++ drop i old) i (lowered b r)
        ≡ map (lowered b) (take (suc i) old) ++ drop (suc i) old
    there i [] e l = absurd (omega (arith, l))
    there zero (x ∷ xs) e l = let same : x ≡ r = cc in rw same refl
    there (suc i) (x ∷ xs) e l = ap (λ ys. lowered b x ∷ ys) (there i xs e (omega (arith, l)))
