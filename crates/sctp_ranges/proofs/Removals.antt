-- Numbers from one up to another are removed: what of the first range comes before them stays, and what of the last one
-- comes after them.
use Rattle.std.proofs.Common.{◌≡◌, ℕ, zero, suc, ◌+◌, ◌-◌, ◌^◌, ◌<◌, ◌≤◌, Bool, true, false, ◌&&◌, ◌||◌, not, ltb, leb}
use Rattle.std.proofs.Common.{cond, List, [], ◌∷◌, ◌++◌, length, take, drop, refl, ap, sym, ◌∙◌, ⊎_elim, inl, inr}
use Rattle.std.proofs.Common.{arith, subst, Option, Some, None, length-append, length-drop}
use Rattle.std.specs.List.{slice_get}
use Rattle.std.specs.Option.{IfSome, option_to_list}
use Rattle.std.proofs.lemmas.Bool.{cases_Bool, cases_lt, and_parts, ltb-true, ltb-false, lt-ltb, lt-leb, le-leb}
use Rattle.std.proofs.lemmas.Bool.{leb-true, leb-false}
use Rattle.std.proofs.lemmas.List.Folds.{list_any-append}
use Rattle.std.proofs.lemmas.List.{length-take-le}
use Rattle.std.proofs.lemmas.Option.{slice_get_within}
use Rattle.sctp_ranges.specs.declared.run.Run.{Run}
use Rattle.sctp_ranges.specs.Runs.{AreApart, has, is_in, ended_before, is_begun, begins_from, before, after}
use Rattle.sctp_ranges.specs.Runs.{IsRemoved, reaches_over, AreShort, HaveRoom}
use Rattle.sctp_ranges.proofs.Halving.{none_in, ended_within}
use Rattle.sctp_ranges.proofs.Parts.{apart_from, apart_behind, apart_again, rest_is, no_rest, range_is}
use Rattle.sctp_ranges.proofs.Parts.{reaches_here, in_parts, begins_by}

pub ended_more : (a b : ℕ) (rs : List Run) → a ≤ b → ended_before a rs ≤ ended_before b rs
ended_more a b [] l = omega arith
ended_more a b (r ∷ rs) l =
    ⊎_elim
    (λ (e : ltb r.last a ≡ true).
    let f : ltb r.last b ≡ true = lt-ltb r.last b (omega (arith, ltb-true r.last a e, l)) in
    rw (e, f) (omega (arith, ended_more a b rs l)))
    (λ (e : ltb r.last a ≡ false). rw e (omega arith))
    (cases_Bool (ltb r.last a))

pub begun_within : (o i : ℕ) (found : Option Run) (rs : List Run) → found ≡ slice_get rs i → is_begun o found ≡ true
    → i < length rs
begun_within o i None rs e b = absurd (cc)
begun_within o i (Some r) rs e b = slice_get_within rs i r (sym e)

different : {q : Bool} → q ≡ true → q ≡ false → ⊥
different f g = absurd (cc (f, g))

-- Both places.

pub record ArePlaces (a b i j e : ℕ) (lower upper : Option Run) (rs : List Run) : Type 0 where
  pub order : a ≤ b
  pub apart : AreApart 0 rs
  pub first : i ≡ ended_before a rs
  pub lower_is : lower ≡ slice_get rs i
  pub last : j ≡ ended_before b rs
  pub upper_is : upper ≡ slice_get rs j
  pub end : e ≡ j + cond (is_begun b upper) 1 0

pub start_by : (a b i j e : ℕ) (lower upper : Option Run) (rs : List Run) → ArePlaces a b i j e lower upper rs → i ≤ e
start_by a b i j e lower upper rs p = omega (arith, p.first, p.last, p.end, ended_more a b rs p.order)

pub end_within : (a b i j e : ℕ) (lower upper : Option Run) (rs : List Run) → ArePlaces a b i j e lower upper rs
    → e ≤ length rs
end_within a b i j e lower upper rs p =
    ⊎_elim
    (λ (f : is_begun b upper ≡ true).
    let more = begun_within b j upper rs p.upper_is f in
    let end : e ≡ j + 1 = rw f at p.end in
    omega (arith, more, end))
    (λ (f : is_begun b upper ≡ false).
    let end : e ≡ j + 0 = rw f at p.end in
    omega (arith, end, p.last, ended_within b rs))
    (cases_Bool (is_begun b upper))

-- what comes after is put in the place of a range
pub after_begun : (b : ℕ) (r : Run) (upper : Option Run) → after b upper ≡ Some r → is_begun b upper ≡ true
after_begun b r None e = absurd (cc)
after_begun b r (Some u) e =
    ⊎_elim (λ (f : leb u.first b ≡ true). f) (λ (f : leb u.first b ≡ false). absurd (cc (rw f at e)))
    (cases_Bool (leb u.first b))

pub first_put : (a b i j e : ℕ) (r : Run) (lower upper : Option Run) (rs : List Run)
    → ArePlaces a b i j e lower upper rs → after b upper ≡ Some r → i < e
first_put a b i j e r lower upper rs p is =
    let end : e ≡ j + 1 = rw (after_begun b r upper is) at p.end in
    omega (arith, p.first, p.last, end, ended_more a b rs p.order)

-- what comes before the numbers, of the first of their ranges
abbrev pub room_taken : Option Run → ℕ
room_taken None = 0
room_taken (Some r) = 1

begins_before : (a : ℕ) (r : Run) (lower : Option Run) → before a lower ≡ Some r
    → (l : Run) × (lower ≡ Some l) × (l.first < a)
begins_before a r None e = absurd (cc)
begins_before a r (Some l) e =
    ⊎_elim
    (λ (f : ltb l.first a ≡ true). (l, refl, ltb-true l.first a f))
    (λ (f : ltb l.first a ≡ false). absurd (cc (rw f at e)))
    (cases_Bool (ltb l.first a))

ends_after : (b : ℕ) (r : Run) (upper : Option Run) → after b upper ≡ Some r
    → (u : Run) × (upper ≡ Some u) × (b < u.last)
ends_after b r None e = absurd (cc)
ends_after b r (Some u) e =
    ⊎_elim
    (λ (f : (leb u.first b && ltb b u.last) ≡ true).
    (u, refl, ltb-true b u.last (and_parts (leb u.first b) (ltb b u.last) f).1))
    (λ (f : (leb u.first b && ltb b u.last) ≡ false). absurd (cc (rw f at e)))
    (cases_Bool (leb u.first b && ltb b u.last))

-- where there is no place left for what comes before, a range reaches over all of the numbers
pub second_put : (a b i j e e1 : ℕ) (f : Run) (lower upper : Option Run) (rs : List Run)
    → ArePlaces a b i j e lower upper rs → before a lower ≡ Some f → e1 + room_taken (after b upper) ≡ e → i ≡ e1
    → reaches_over a b lower ≡ true
second_put a b i j e e1 f lower upper rs p is put full =
    let l = begins_before a f lower is in
    let more : i ≤ j = omega (arith, p.first, p.last, ended_more a b rs p.order) in
    cases l (after b upper) refl more
  where
    cases : ((l : Run) × (lower ≡ Some l) × (l.first < a)) → (back : Option Run) → after b upper ≡ back → i ≤ j
        → reaches_over a b lower ≡ true
    cases l None g more = ⊎_elim
        (λ (h : is_begun b upper ≡ true).
        let end : e ≡ j + 1 = rw h at p.end in
        let none : e1 + 0 ≡ e = rw g at put in
        absurd (omega (arith, end, none, full, more)))
        (λ (h : is_begun b upper ≡ false).
        let end : e ≡ j + 0 = rw h at p.end in
        let none : e1 + 0 ≡ e = rw g at put in
        let same : j ≡ i = omega (arith, end, none, full) in
        let there : upper ≡ Some l.0 = p.upper_is ∙ ap (slice_get rs) same ∙ sym p.lower_is ∙ l.1 in
        let off : leb l.0.first b ≡ false = rw there at h in
        absurd (omega (arith, leb-false l.0.first b off, l.2, p.order)))
        (cases_Bool (is_begun b upper))
    cases l (Some r) g more =
        let end : e ≡ j + 1 = rw (after_begun b r upper g) at p.end in
        let one : e1 + 1 ≡ e = rw g at put in
        let same : j ≡ i = omega (arith, end, one, full) in
        let u = ends_after b r upper g in
        let there : Some u.0 ≡ Some l.0 = sym u.1 ∙ p.upper_is ∙ ap (slice_get rs) same ∙ sym p.lower_is ∙ l.1 in
        let is_one : u.0 ≡ l.0 = cc in
        let ends : b < l.0.last = subst (λ (r : Run). b < r.last) is_one u.2 in
        rw (l.1, lt-ltb l.0.first a l.2, lt-ltb b l.0.last ends) refl

-- The ranges that are left.

-- what is left has the numbers that are not removed
abbrev pub left : ℕ → ℕ → ℕ → ℕ → Option Run → Option Run → List Run → List Run
left a b i e lower upper rs = take i rs ++ (option_to_list (before a lower) ++ (option_to_list (after b upper) ++ drop e rs))

before_apart : (a : ℕ) (l m : ℕ) (lower : Option Run) (ys : List Run) → a < 2 ^ 32
    → ((r : Run) → lower ≡ Some r → l ≤ r.first) → AreApart (a + 1) ys → l ≤ a + 1
    → AreApart l (option_to_list (before a lower) ++ ys)
before_apart a l m None ys w h apart le = apart_from l (a + 1) ys le apart
before_apart a l m (Some r) ys w h apart le =
    ⊎_elim
    (λ (f : ltb r.first a ≡ true).
    let less : r.first < a = ltb-true r.first a f in
    rw f (h r refl, omega (arith, less), omega (arith, w), apart_from (a - 1 + 2) (a + 1) ys (omega (arith, less)) apart))
    (λ (f : ltb r.first a ≡ false). rw f (apart_from l (a + 1) ys le apart))
    (cases_Bool (ltb r.first a))

-- behind the last of the numbers
after_apart : (b j e : ℕ) (upper : Option Run) (rs : List Run) → AreApart 0 rs → j ≡ ended_before b rs
    → upper ≡ slice_get rs j → e ≡ j + cond (is_begun b upper) 1 0
    → AreApart (b + 1) (option_to_list (after b upper) ++ drop e rs)
after_apart b j e None rs apart at is end =
    let same : e ≡ j = omega (arith, end) in
    rw (same, no_rest j rs (sym is)) tt
after_apart b j e (Some r) rs apart at is end =
    let there = sym is in
    let range = range_is 0 j r rs apart there in
    let rest = subst (AreApart (begins_from 0 rs j)) (rest_is j r rs there) (apart_behind 0 j rs apart) in
    let reaches : b ≤ r.last = reaches_here b r rs (subst (λ k. slice_get rs k ≡ Some r) at there) in
    ⊎_elim
    (λ (f : leb r.first b ≡ true).
    let next : e ≡ suc j = omega (arith, rw f at end) in
    ⊎_elim
    (λ (g : ltb b r.last ≡ true).
    let more : b < r.last = ltb-true b r.last g in
    rw (f, g, next) (omega arith, omega (arith, more), range.2, rest.3))
    (λ (g : ltb b r.last ≡ false).
    let same : r.last ≡ b = omega (arith, ltb-false b r.last g, reaches) in
    rw (f, g, next) (apart_from (b + 1) (r.last + 2) (drop (suc j) rs) (omega (arith, same)) rest.3))
    (cases_Bool (ltb b r.last)))
    (λ (f : leb r.first b ≡ false).
    let next : e ≡ j = omega (arith, rw f at end) in
    let off : b < r.first = leb-false r.first b f in
    rw (f, next, rest_is j r rs there) (omega (arith, off), range.1, range.2, rest.3))
    (cases_Bool (leb r.first b))

front_ended : (a x : ℕ) (rs : List Run) → a ≤ x → is_in x (take (ended_before a rs) rs) ≡ false
front_ended a x [] l = refl
front_ended a x (r ∷ rs) l =
    ⊎_elim
    (λ (e : ltb r.last a ≡ true).
    let off : leb x r.last ≡ false = lt-leb x r.last (omega (arith, ltb-true r.last a e, l)) in
    rw (e, off, front_ended a x rs l) (nothing (leb r.first x)))
    (λ (e : ltb r.last a ≡ false). rw e refl)
    (cases_Bool (ltb r.last a))
  where
    nothing : (c : Bool) → ((c && false) || false) ≡ false
    nothing true = refl
    nothing false = refl

before_in : (a x : ℕ) (lower : Option Run) → x < a → is_in x (option_to_list (before a lower)) ≡ is_begun x lower
before_in a x None l = refl
before_in a x (Some r) l =
    ⊎_elim
    (λ (e : ltb r.first a ≡ true).
    let on : leb x (a - 1) ≡ true = le-leb x (a - 1) (omega (arith, l)) in
    rw (e, on) (alone (leb r.first x)))
    (λ (e : ltb r.first a ≡ false).
    let off : leb r.first x ≡ false = lt-leb r.first x (omega (arith, ltb-false r.first a e, l)) in
    rw (e, off) refl)
    (cases_Bool (ltb r.first a))
  where
    alone : (c : Bool) → ((c && true) || false) ≡ c
    alone true = refl
    alone false = refl

before_out : (a x : ℕ) (lower : Option Run) → a ≤ x → is_in x (option_to_list (before a lower)) ≡ false
before_out a x None l = refl
before_out a x (Some r) l =
    ⊎_elim
    (λ (e : ltb r.first a ≡ true).
    let off : leb x (a - 1) ≡ false = lt-leb x (a - 1) (omega (arith, ltb-true r.first a e, l)) in
    rw (e, off) (nothing (leb r.first x)))
    (λ (e : ltb r.first a ≡ false). rw e refl)
    (cases_Bool (ltb r.first a))
  where
    nothing : (c : Bool) → ((c && false) || false) ≡ false
    nothing true = refl
    nothing false = refl

-- of the ranges from a place on, the first one alone may have a number before the place
pub rest_in : (a i x : ℕ) (lower : Option Run) (rs : List Run) → AreApart 0 rs → i ≡ ended_before a rs
    → lower ≡ slice_get rs i → x < a → is_in x (drop i rs) ≡ is_begun x lower
rest_in a i x None rs apart at is l = rw (no_rest i rs (sym is)) refl
rest_in a i x (Some r) rs apart at is l =
    let there = sym is in
    let rest = subst (AreApart (begins_from 0 rs i)) (rest_is i r rs there) (apart_behind 0 i rs apart) in
    let reaches : a ≤ r.last = reaches_here a r rs (subst (λ k. slice_get rs k ≡ Some r) at there) in
    let on : leb x r.last ≡ true = le-leb x r.last (omega (arith, reaches, l)) in
    let off : is_in x (drop (suc i) rs) ≡ false =
    none_in (r.last + 2) x (drop (suc i) rs) rest.3 (omega (arith, reaches, l)) in
    rw (rest_is i r rs there, on, off) (alone (leb r.first x))
  where
    alone : (c : Bool) → ((c && true) || false) ≡ c
    alone true = refl
    alone false = refl

-- past the last of the numbers all stays
after_in : (b j e x : ℕ) (upper : Option Run) (rs : List Run) → AreApart 0 rs → upper ≡ slice_get rs j
    → e ≡ j + cond (is_begun b upper) 1 0 → b < x
    → is_in x (option_to_list (after b upper) ++ drop e rs) ≡ is_in x (drop j rs)
after_in b j e x None rs apart is end l = let same : e ≡ j = omega (arith, end) in rw same refl
after_in b j e x (Some r) rs apart is end l =
    let there = sym is in
    ⊎_elim
    (λ (f : leb r.first b ≡ true).
    let next : e ≡ suc j = omega (arith, rw f at end) in
    let begun : leb r.first x ≡ true = le-leb r.first x (omega (arith, leb-true r.first b f, l)) in
    ⊎_elim
    (λ (g : ltb b r.last ≡ true).
    let on : leb (b + 1) x ≡ true = le-leb (b + 1) x (omega (arith, l)) in
    rw (f, g, next, rest_is j r rs there, begun, on) refl)
    (λ (g : ltb b r.last ≡ false).
    let off : leb x r.last ≡ false = lt-leb x r.last (omega (arith, ltb-false b r.last g, l)) in
    rw (f, g, next, rest_is j r rs there, begun, off) refl)
    (cases_Bool (ltb b r.last)))
    (λ (f : leb r.first b ≡ false).
    let next : e ≡ j = omega (arith, rw f at end) in
    rw (f, next) refl)
    (cases_Bool (leb r.first b))

left_in : (a b i j e x : ℕ) (lower upper : Option Run) (rs : List Run) → ArePlaces a b i j e lower upper rs
    → is_in x (left a b i e lower upper rs) ≡ (not (leb a x && leb x b) && is_in x rs)
left_in a b i j e x lower upper rs p =
    list_any-append (λ r. has r x) (take i rs) (option_to_list (before a lower) ++ (option_to_list (after b upper) ++ drop e rs)) ∙
    ap (λ z. is_in x (take i rs) || z)
    (list_any-append (λ r. has r x) (option_to_list (before a lower)) (option_to_list (after b upper) ++ drop e rs)) ∙
    ⊎_elim early late (cases_lt x a)
  where
    behind : AreApart (b + 1) (option_to_list (after b upper) ++ drop e rs)
    behind = after_apart b j e upper rs p.apart p.last p.upper_is p.end

    or_none : (c : Bool) → (c || false) ≡ c
    or_none true = refl
    or_none false = refl

    early : x < a
        → (is_in x (take i rs)
        || (is_in x (option_to_list (before a lower)) || is_in x (option_to_list (after b upper) ++ drop e rs)))
        ≡ (not (leb a x && leb x b) && is_in x rs)
    early l =
        let off : leb a x ≡ false = lt-leb a x l in
        let none = none_in (b + 1) x (option_to_list (after b upper) ++ drop e rs) behind (omega (arith, l, p.order)) in
        rw (off, none, before_in a x lower l) (
        ap (λ z. is_in x (take i rs) || z)
        (or_none (is_begun x lower) ∙ sym (rest_in a i x lower rs p.apart p.first p.lower_is l)) ∙
        sym (in_parts x i rs)
        )

    late : a ≤ x
        → (is_in x (take i rs)
        || (is_in x (option_to_list (before a lower)) || is_in x (option_to_list (after b upper) ++ drop e rs)))
        ≡ (not (leb a x && leb x b) && is_in x rs)
    late m =
        let front : is_in x (take i rs) ≡ false =
        ap (λ k. is_in x (take k rs)) p.first ∙ front_ended a x rs m in
        rw (front, before_out a x lower m, le-leb a x m) (⊎_elim
        (λ (l : b < x).
        let off : leb x b ≡ false = lt-leb x b l in
        let none : is_in x (take j rs) ≡ false =
        ap (λ k. is_in x (take k rs)) p.last ∙ front_ended b x rs (omega (arith, l)) in
        rw off (
        after_in b j e x upper rs p.apart p.upper_is p.end l ∙ ap (λ z. z || is_in x (drop j rs)) (sym none) ∙
        sym (in_parts x j rs)
        ))
        (λ (w : x ≤ b).
        rw (le-leb x b w) (none_in (b + 1) x (option_to_list (after b upper) ++ drop e rs) behind (omega (arith, w))))
        (cases_lt b x))

pub left_is : (a b i j e : ℕ) (lower upper : Option Run) (rs new : List Run) → ArePlaces a b i j e lower upper rs
    → b < 2 ^ 32 → new ≡ left a b i e lower upper rs → IsRemoved a b rs new
left_is a b i j e lower upper rs new p w is =
    let behind = after_apart b j e upper rs p.apart p.last p.upper_is p.end in
    let begins : begins_from 0 rs i ≤ a + 1 = rw p.first (begins_by 0 a rs (omega arith)) in
    let first = λ (r : Run) (f : lower ≡ Some r). (range_is 0 i r rs p.apart (sym p.lower_is ∙ f)).0 in
    let apart =
    before_apart a (begins_from 0 rs i) (b + 1) lower (option_to_list (after b upper) ++ drop e rs) (omega (arith, w, p.order))
    first (apart_from (a + 1) (b + 1) (option_to_list (after b upper) ++ drop e rs) (omega (arith, p.order)) behind) begins in
    rw is (
      apart_again 0 i rs (option_to_list (before a lower) ++ (option_to_list (after b upper) ++ drop e rs)) p.apart apart,
      λ x. left_in a b i j e x lower upper rs p,
    )

taken : (o : Option Run) → length (option_to_list o) ≡ room_taken o
taken None = refl
taken (Some r) = refl

-- no range more is left where none reached over all of the numbers
pub left_fewer : (a b i j e : ℕ) (lower upper : Option Run) (rs new : List Run) → ArePlaces a b i j e lower upper rs
    → new ≡ left a b i e lower upper rs → reaches_over a b lower ≡ false → length new ≤ length rs
left_fewer a b i j e lower upper rs new p is over =
    let start = start_by a b i j e lower upper rs p in
    let end = end_within a b i j e lower upper rs p in
    let back : i + room_taken (after b upper) ≤ e = after_fits (after b upper) refl start in
    let both : i + room_taken (before a lower) + room_taken (after b upper) ≤ e =
    before_fits (before a lower) refl back in
    rw is (omega (
      arith,
      length-append (take i rs) (option_to_list (before a lower) ++ (option_to_list (after b upper) ++ drop e rs)),
      length-append (option_to_list (before a lower)) (option_to_list (after b upper) ++ drop e rs),
      length-append (option_to_list (after b upper)) (drop e rs),
      length-take-le i rs (omega (arith, start, end)),
      length-drop e rs,
      taken (before a lower),
      taken (after b upper),
      both,
      end,
    ))
  where
    after_fits : (back : Option Run) → after b upper ≡ back → i ≤ e → i + room_taken back ≤ e
    after_fits None f start = omega (arith, start)
    after_fits (Some r) f start = omega (arith, first_put a b i j e r lower upper rs p f)

    before_fits : (front : Option Run) → before a lower ≡ front → i + room_taken (after b upper) ≤ e
        → i + room_taken front + room_taken (after b upper) ≤ e
    before_fits None f back = omega (arith, back)
    before_fits (Some r) f back =
        ⊎_elim
        (λ (l : i + room_taken (after b upper) < e). omega (arith, l))
        (λ (g : e ≤ i + room_taken (after b upper)).
        let full : i + room_taken (after b upper) ≡ e = omega (arith, g, back) in
        absurd (different (second_put a b i j e i r lower upper rs p f full refl) over))
        (cases_lt (i + room_taken (after b upper)) e)

-- Room.

pub in_below : (l x : ℕ) (rs : List Run) → AreApart l rs → is_in x rs ≡ true → x < 2 ^ 32
in_below l x [] apart e = absurd (cc)
in_below l x (r ∷ rs) apart e =
    ⊎_elim
    (λ (f : has r x ≡ true).
    let both = and_parts (leb r.first x) (leb x r.last) f in
    omega (arith, leb-true x r.last both.1, apart.2))
    (λ (f : has r x ≡ false). in_below (r.last + 2) x rs apart.3 (rw f at e))
    (cases_Bool (has r x))

pub in_range : (i x : ℕ) (r : Run) (rs : List Run) → slice_get rs i ≡ Some r → has r x ≡ true → is_in x rs ≡ true
in_range i x r [] e h = absurd (cc)
in_range zero x r (y ∷ rs) e h = let same : y ≡ r = cc in rw (same, h) refl
in_range (suc i) x r (y ∷ rs) e h = rw (in_range i x r rs e h) (any (has y x))
  where
    any : (c : Bool) → (c || true) ≡ true
    any true = refl
    any false = refl

pub room_kept : (room : ℕ) (old new : List Run) → HaveRoom old room
    → ((x : ℕ) → is_in x new ≡ true → is_in x old ≡ true) → length new ≤ length old → HaveRoom new room
room_kept room old new (inl less) within fewer = inl (omega (arith, less, fewer))
room_kept room old new (inr short) within fewer = inr (λ n f. short n (λ m l w. within m (f m l w)))

pub still_in : (a b : ℕ) (old new : List Run) → IsRemoved a b old new → (x : ℕ) → is_in x new ≡ true
    → is_in x old ≡ true
still_in a b old new is x e =
    (and_parts (not (leb a x && leb x b)) (is_in x old) (sym (is.1 x) ∙ e)).1

-- where half of all numbers are not in the ranges, no more than half of them follow one after another
pub short_left : (a b : ℕ) (rs : List Run) → AreApart 0 rs → b + 1 ≡ a + 2 ^ 31 → a ≤ 2 ^ 31
    → ((x : ℕ) → a ≤ x → x ≤ b → is_in x rs ≡ false) → AreShort rs
short_left a b rs apart half low none n all =
    ⊎_elim
    (λ (l : b < n).
    let top : n + 2 ^ 31 < 2 ^ 32 = in_below 0 (n + 2 ^ 31) rs apart (all (n + 2 ^ 31) (omega arith) (omega arith)) in
    omega (arith, top, l, half))
    (λ (w : n ≤ b). ⊎_elim
    (λ (m : a < n). different (all n (omega arith) (omega arith)) (none n (omega (arith, m)) w))
    (λ (m : n ≤ a). different (all a m (omega (arith, low))) (none a (omega arith) (omega (arith, half))))
    (cases_lt a n))
    (cases_lt b n)

-- and so no range reaches over half of them
pub none_over : (a b i : ℕ) (lower : Option Run) (rs : List Run) → AreShort rs → lower ≡ slice_get rs i
    → b + 1 ≡ a + 2 ^ 31 → reaches_over a b lower ≡ true → ⊥
none_over a b i None rs short is half over = absurd (cc)
none_over a b i (Some r) rs short is half over =
    let both = and_parts (ltb r.first a) (ltb b r.last) over in
    let begins : r.first < a = ltb-true r.first a both.0 in
    let ends : b < r.last = ltb-true b r.last both.1 in
    short (a - 1) (λ m l w.
    in_range i m r rs (sym is)
    (rw (le-leb r.first m (omega (arith, l, begins)), le-leb m r.last (omega (arith, w, half, ends, begins))) refl))

-- Room for what is put in their place.

pub no_back : (a b i j e : ℕ) (back lower upper : Option Run) (rs : List Run) → ArePlaces a b i j e lower upper rs
    → back ≡ after b upper → i ≡ e → back ≡ None
no_back a b i j e None lower upper rs p is same = refl
no_back a b i j e (Some r) lower upper rs p is same =
    absurd (omega (arith, same, first_put a b i j e r lower upper rs p (sym is)))

pub first_room : (a b i j e room : ℕ) (back lower upper : Option Run) (rs : List Run)
    → ArePlaces a b i j e lower upper rs → back ≡ after b upper → IfSome back (λ r. i ≡ e → length rs < room)
first_room a b i j e room None lower upper rs p is = tt
first_room a b i j e room (Some r) lower upper rs p is = λ same.
    absurd (omega (arith, same, first_put a b i j e r lower upper rs p (sym is)))

pub second_room : (a b i j e e1 room n : ℕ) (back front lower upper : Option Run) (rs : List Run)
    → ArePlaces a b i j e lower upper rs → back ≡ after b upper → front ≡ before a lower
    → ((i ≡ e → back ≡ None) → e1 + length (option_to_list back) ≡ e) → ((i ≡ e → back ≡ None) → n ≡ length rs)
    → (reaches_over a b lower ≡ true → length rs < room) → IfSome front (λ r. i ≡ e1 → n < room)
second_room a b i j e e1 room n back None lower upper rs p is is2 put len room_over = tt
second_room a b i j e e1 room n back (Some f) lower upper rs p is is2 put len room_over = λ full.
    let none = no_back a b i j e back lower upper rs p is in
    let end : e1 + room_taken (after b upper) ≡ e =
    ap (λ z. e1 + z) (sym (taken (after b upper)) ∙ ap (λ o. length (option_to_list o)) (sym is)) ∙ put none in
    omega (arith, len none, room_over (second_put a b i j e e1 f lower upper rs p (sym is2) end full))

-- the two puts and the removal leave this
pub put_back : (a b i e e1 e2 : ℕ) (back front lower upper : Option Run) (xs ys zs new : List Run)
    → new ≡ take i zs ++ drop e2 zs → take i zs ≡ take i ys → take i ys ≡ take i xs
    → drop e2 zs ≡ option_to_list front ++ drop e1 ys → drop e1 ys ≡ option_to_list back ++ drop e xs → front ≡ before a lower
    → back ≡ after b upper → new ≡ left a b i e lower upper xs
put_back a b i e e1 e2 back front lower upper xs ys zs new is f g h k m n =
    is ∙ rw (f, g, h, k, m, n) refl
