-- What is known of the members.
use Rattle.std.proofs.Common.{◌≡◌, ℕ, zero, suc, ◌+◌, ◌-◌, ◌*◌, ◌<◌, ◌≤◌, max, Bool, true, false, ◌&&◌, ◌||◌, not}
use Rattle.std.proofs.Common.{leb, eqb, List, [], ◌∷◌, length, slice_get, Option, Some, None, refl, ap, sym, ◌∙◌}
use Rattle.std.proofs.Common.{⊎_elim, arith}
use Rattle.std.proofs.lemmas.Bool.{cases_eq, le-leb, lt-leb, ne_eqb, leb-true}
use Rattle.std.proofs.lemmas.Option.{slice_get_past}
use Rattle.sctp_ranges.specs.declared.run.Run.{Run}
use Rattle.sctp_ranges.specs.Runs.{AreApart, is_in, is_begun, ended_before}
use Rattle.sctp_ranges.proofs.Halving.{in_place, none_in, not_ended_here}
use Rattle.sctp_ranges.proofs.Parts.{range_is, begins_more, reaches_here}
use Rattle.sctp_ranges.proofs.Removals.{ended_more, in_range}
use Rattle.sctp_candidates.specs.Candidates.{Members, is_member, IsNext, IsNextOther, AreWithin}

-- The next member.

-- a number up to the end of the range that was found has the same place
same_place : (n m : ℕ) (r : Run) (rs : List Run) → n ≤ m → m ≤ r.last → slice_get rs (ended_before n rs) ≡ Some r
    → ended_before m rs ≡ ended_before n rs
same_place n m r rs from to e =
    omega (arith, ended_more n m rs from, not_ended_here m (ended_before n rs) r rs e to)

first_past : (n m : ℕ) (r : Run) (rs : List Run) → AreApart 0 rs → n ≤ m → m < r.first → m ≤ r.last
    → slice_get rs (ended_before n rs) ≡ Some r → is_in m rs ≡ false
first_past n m r rs apart from less to e =
    sym (in_place 0 m rs apart) ∙
    ap (λ i. is_begun m (slice_get rs i)) (same_place n m r rs from to e) ∙ ap (is_begun m) e ∙
    lt-leb r.first m less

inside : (f l x : ℕ) → f ≤ x → x ≤ l → (leb f x && leb x l) ≡ true
inside f l x a b = rw (le-leb f x a, le-leb x l b) refl

pub next_found : (from number x b : ℕ) (r : Run) (s : Members) → AreApart 0 s.list → number ≡ s.begun + from
    → slice_get s.list (ended_before number s.list) ≡ Some r → x ≡ max r.first number → b ≡ s.begun
    → IsNext from (Some (x - b)) s
next_found from number x b r s apart is e top same =
    let order = range_is 0 (ended_before number s.list) r s.list apart e in
    let reach : number ≤ r.last = reaches_here number r s.list e in
    let back : s.begun + (x - b) ≡ x = omega (arith, top, is, same) in (
      omega (arith, top, is, same),
      ap (λ z. is_in z s.list) back ∙ in_range (ended_before number s.list) x r s.list e (
          inside r.first r.last x (omega (arith, top)) (omega (arith, top, reach, order.1))
          ),
      λ i f l. first_past number (s.begun + i) r s.list apart (omega (arith, is, f)) (omega (arith, top, is, same, f, l))
          (omega (arith, order.1, top, is, same, f, l)) e,
    )

none_there : (i : ℕ) (rs : List Run) → slice_get rs i ≡ None → length rs ≤ i
none_there i [] e = omega arith
none_there zero (r ∷ rs) e = absurd (cc)
none_there (suc i) (r ∷ rs) e = omega (arith, none_there i rs e)

pub none_next : (from number : ℕ) (s : Members) → AreApart 0 s.list → number ≡ s.begun + from
    → slice_get s.list (ended_before number s.list) ≡ None → IsNext from None s
none_next from number s apart is e =
    λ i f.
    let more : number ≤ s.begun + i = omega (arith, is, f) in
    let past : length s.list ≤ ended_before (s.begun + i) s.list =
    omega (arith, none_there (ended_before number s.list) s.list e, ended_more number (s.begun + i) s.list more) in
    sym (in_place 0 (s.begun + i) s.list apart) ∙
    ap (is_begun (s.begun + i)) (slice_get_past s.list (ended_before (s.begun + i) s.list) past)

-- The next place that is no member.

neither : (b : Bool) → ((b && false) || false) ≡ false
neither true = refl
neither false = refl

-- the number behind a range is in none
behind_range : (l i : ℕ) (r : Run) (rs : List Run) → AreApart l rs → slice_get rs i ≡ Some r
    → is_in (r.last + 1) rs ≡ false
behind_range l i r [] apart e = absurd (cc)
behind_range l zero r (x ∷ rs) apart e =
    let same : x ≡ r = cc in
    rw (
      same,
      lt-leb (r.last + 1) r.last (omega arith),
      none_in (x.last + 2) (r.last + 1) rs apart.3 (omega (arith, ap (λ (z : Run). z.last) same)),
    ) (neither (leb r.first (r.last + 1)))
behind_range l (suc i) r (x ∷ rs) apart e =
    let order = range_is (x.last + 2) i r rs apart.3 e in
    let first = begins_more (x.last + 2) i rs apart.3 r e in
    rw (
      lt-leb (r.last + 1) x.last (omega (arith, order.1, first)),
      behind_range (x.last + 2) i r rs apart.3 e,
    ) (neither (leb x.first (r.last + 1)))

pub other_found : (from number b : ℕ) (r : Run) (s : Members) → AreApart 0 s.list → number ≡ s.begun + from
    → slice_get s.list (ended_before number s.list) ≡ Some r → is_begun number (Some r) ≡ true → b ≡ s.begun
    → IsNextOther from (r.last - b + 1) s
other_found from number b r s apart is e begun same =
    let first : r.first ≤ number = leb-true r.first number begun in
    let reach : number ≤ r.last = reaches_here number r s.list e in
    let back : s.begun + (r.last - b + 1) ≡ r.last + 1 = omega (arith, reach, is, same) in (
      omega (arith, reach, is, same),
      ap (λ z. is_in z s.list) back ∙ behind_range 0 (ended_before number s.list) r s.list apart e,
      λ i f l.
          in_range (ended_before number s.list) (s.begun + i) r s.list e (
          inside r.first r.last (s.begun + i) (omega (arith, first, is, f)) (omega (arith, back, l))
          ),
    )

pub other_here : (from : ℕ) (s : Members) → is_member from s ≡ false → IsNextOther from from s
other_here from s off = (omega arith, off, λ i f l. absurd (omega (arith, f, l)))

-- a place is a member where the range at its number's place begins at the number or before it
pub member_told : (index number : ℕ) (found : Option Run) (s : Members) → AreApart 0 s.list → number ≡ s.begun + index
    → found ≡ slice_get s.list (ended_before number s.list) → is_begun number found ≡ is_member index s
member_told index number found s apart is e =
    ap (is_begun number) e ∙ in_place 0 number s.list apart ∙ ap (λ z. is_in z s.list) is

-- One more, and one less, where that changes nothing.

pub already : (index : ℕ) (s : Members) → is_member index s ≡ true
    → (i : ℕ) → is_member i s ≡ (eqb i index || is_member i s)
already index s is i =
    ⊎_elim (λ (e : i ≡ index). rw (e, is) (sym (whole (eqb index index))))
    (λ (e : i ≡ index → ⊥). rw (ne_eqb i index e) refl)
    (cases_eq i index)
  where
    whole : (b : Bool) → (b || true) ≡ true
    whole true = refl
    whole false = refl

pub absent : (index : ℕ) (s : Members) → is_member index s ≡ false
    → (i : ℕ) → is_member i s ≡ (not (eqb i index) && is_member i s)
absent index s is i =
    ⊎_elim (λ (e : i ≡ index). rw (e, is) (sym (nothing (not (eqb index index)))))
    (λ (e : i ≡ index → ⊥). rw (ne_eqb i index e) refl)
    (cases_eq i index)
  where
    nothing : (b : Bool) → (b && false) ≡ false
    nothing true = refl
    nothing false = refl

-- Room.

pub in_first : (r : Run) (rs : List Run) (n : ℕ) → r.first ≤ n → n ≤ r.last → is_in n (r ∷ rs) ≡ true
in_first r rs n from to = rw (le-leb r.first n from, le-leb n r.last to) refl

pub in_rest : (r : Run) (rs : List Run) (n : ℕ) → is_in n rs ≡ true → is_in n (r ∷ rs) ≡ true
in_rest r rs n e = rw e (whole (leb r.first n && leb n r.last))
  where
    whole : (b : Bool) → (b || true) ≡ true
    whole true = refl
    whole false = refl

-- ranges that are apart take two numbers each, but for the last one
fit : (l b e : ℕ) (rs : List Run) → AreApart l rs → AreWithin b e rs → l ≤ e + 1 → 2 * length rs ≤ e + 1 - l
fit l b e [] apart within le = omega arith
fit l b e (r ∷ rs) apart within le =
    let last = within r.last (in_first r rs r.last apart.1 (omega arith)) in
    let rest = fit (r.last + 2) b e rs apart.3 (λ n is. within n (in_rest r rs n is)) (omega (arith, last.1)) in
    omega (arith, rest, last.1, apart.0, apart.1)

fit_from : (b e : ℕ) (rs : List Run) → AreApart 0 rs → AreWithin b e rs → b ≤ e + 1 → 2 * length rs ≤ e + 1 - b
fit_from b e [] apart within le = omega arith
fit_from b e (r ∷ rs) apart within le =
    let first = within r.first (in_first r rs r.first (omega arith) apart.1) in
    fit b b e (r ∷ rs) (first.0, apart.1, apart.2, apart.3) within le

pub room_left : (b e bound room : ℕ) (rs : List Run) → AreApart 0 rs → AreWithin b e rs → e ≤ bound
    → bound ≤ b + (2 * room - 3) → b < e → length rs < room
room_left b e bound room rs apart within below fits some =
    omega (arith, fit_from b e rs apart within (omega (arith, some)), below, fits, some)

-- The first place leaves.

pub within_rest : (b e : ℕ) (rs : List Run) → AreWithin b e rs → is_in b rs ≡ false → AreWithin (b + 1) e rs
within_rest b e rs within off n is =
    let both = within n is in
    (other n both.0 is, both.1)
  where
    other : (n : ℕ) → b ≤ n → is_in n rs ≡ true → b + 1 ≤ n
    other n le is =
        ⊎_elim (λ (e : n ≡ b). absurd (differ (ap (λ z. is_in z rs) (sym e) ∙ is)))
        (λ (e : n ≡ b → ⊥). omega (arith, le, e))
        (cases_eq n b)
      where
        differ : is_in b rs ≡ true → ⊥
        differ f = absurd (cc (f, off))
