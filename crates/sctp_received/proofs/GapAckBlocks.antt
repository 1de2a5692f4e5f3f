-- Gap ack blocks say exactly the offsets of the TSNs held, by maximal runs.
use Rattle.std.proofs.Common.{◌≡◌, ℕ, ◌+◌, ◌-◌, ◌^◌, ◌<◌, ◌≤◌, Bool, true, false, ◌&&◌, ◌||◌, ltb, leb, eqb, List}
use Rattle.std.proofs.Common.{[], ◌∷◌, ◌++◌, refl, ap, sym, ◌∙◌, ◌⊎◌, inl, inr, ⊎_elim, cond, arith}
use Rattle.std.specs.List.{list_any}
use Rattle.std.proofs.Math.Bool.{or_assoc}
use Rattle.std.proofs.lemmas.Bool.{cases_Bool, cases_lt, and_parts, le-leb, lt-leb}
use Rattle.std.proofs.lemmas.Bool.Decides.{nat_tests}
use Rattle.std.proofs.lemmas.List.Folds.{list_any-append}
use Rattle.sctp_serial.specs.Serial.{tsn_past}
use Rattle.sctp_wire_types.specs.declared.chunk.GapAckBlock.{GapAckBlock}
use Rattle.sctp_received.specs.Received.{has_offset, is_greater, offsets_in, offsets_of, runs_from, runs_of}
use Rattle.sctp_received.specs.Received.{gap_ack_blocks, block, is_named, is_held_at, AreRuns}
use Rattle.sctp_received.proofs.Keys.{Ascend}

-- What the blocks name.

or_swap : (a b c d : Bool) → (((a || b) || (c || d))) ≡ ((a || c) || (b || d))
or_swap true b c d = refl
or_swap false true true d = refl
or_swap false true false d = refl
or_swap false false c d = refl

longer : (x s e o : ℕ) → s ≤ e → e + 1 ≡ o → (leb s x && leb x o) ≡ ((leb s x && leb x e) || eqb o x)
longer x s e o w n = grind (arith, nat_tests, w, n)

single : (x o : ℕ) → (leb o x && leb x o) ≡ eqb o x
single x o = grind (arith, nat_tests)

named_from : (x : ℕ) (b : GapAckBlock) (os : List ℕ) → b.start ≤ b.end
    → is_named x (runs_from b os) ≡ ((leb b.start x && leb x b.end) || list_any (λ o. eqb o x) os)
named_from x b [] w = refl
named_from x b (o ∷ os) w =
    ⊎_elim
    (λ (e : eqb (b.end + 1) o ≡ true).
    rw e (
    named_from x (block b.start o) os (omega (arith, w, eqb_eq (b.end + 1) o e)) ∙
    ap (λ z. z || list_any (λ o. eqb o x) os) (longer x b.start b.end o w (eqb_eq (b.end + 1) o e)) ∙
    or_assoc (leb b.start x && leb x b.end) (eqb o x) (list_any (λ o. eqb o x) os)
    ))
    (λ (e : eqb (b.end + 1) o ≡ false).
    rw e (ap (λ z. (leb b.start x && leb x b.end) || z) (
    named_from x (block o o) os (omega arith) ∙ ap (λ z. z || list_any (λ o. eqb o x) os) (single x o)
    )))
    (cases_Bool (eqb (b.end + 1) o))
  where
    eqb_eq : (m n : ℕ) → eqb m n ≡ true → m ≡ n
    eqb_eq m n e = grind (arith, nat_tests, e)

pub named : (x : ℕ) (os : List ℕ) → is_named x (runs_of os) ≡ list_any (λ o. eqb o x) os
named x [] = refl
named x (o ∷ os) =
    named_from x (block o o) os (omega arith) ∙ ap (λ z. z || list_any (λ o. eqb o x) os) (single x o)

-- What the offsets are.

kept : (g : Bool) (p x : ℕ) → (g && has_offset p) ≡ true → (g && eqb p x) ≡ eqb p x
kept true p x e = refl
kept false p x e = absurd (cc)

dropped : (g : Bool) (p x : ℕ) → has_offset x ≡ true → (g && has_offset p) ≡ false → (g && eqb p x) ≡ false
dropped true p x h e = grind (arith, nat_tests, h, e)
dropped false p x h e = refl

in_offsets : (g : Bool) (cumulative_tsn x : ℕ) (ts : List ℕ) → has_offset x ≡ true
    → list_any (λ o. eqb o x) (offsets_in g cumulative_tsn ts)
    ≡ list_any (λ t. is_greater g cumulative_tsn t && eqb (tsn_past cumulative_tsn t) x) ts
in_offsets g cumulative_tsn x [] h = refl
in_offsets g cumulative_tsn x (t ∷ ts) h =
    ⊎_elim
    (λ (e : (is_greater g cumulative_tsn t && has_offset (tsn_past cumulative_tsn t)) ≡ true).
    rw (e, kept (is_greater g cumulative_tsn t) (tsn_past cumulative_tsn t) x e)
    (ap (λ z. eqb (tsn_past cumulative_tsn t) x || z) (in_offsets g cumulative_tsn x ts h)))
    (λ (e : (is_greater g cumulative_tsn t && has_offset (tsn_past cumulative_tsn t)) ≡ false).
    rw (e, dropped (is_greater g cumulative_tsn t) (tsn_past cumulative_tsn t) x h e)
    (in_offsets g cumulative_tsn x ts h))
    (cases_Bool (is_greater g cumulative_tsn t && has_offset (tsn_past cumulative_tsn t)))

either : (b q : Bool) → ((cond b true false && q) || (cond b false true && q)) ≡ q
either true true = refl
either true false = refl
either false q = refl

both_sides : (cumulative_tsn x : ℕ) (ts : List ℕ)
    → (list_any (λ t. is_greater true cumulative_tsn t && eqb (tsn_past cumulative_tsn t) x) ts
    || list_any (λ t. is_greater false cumulative_tsn t && eqb (tsn_past cumulative_tsn t) x) ts)
    ≡ is_held_at cumulative_tsn x ts
both_sides cumulative_tsn x [] = refl
both_sides cumulative_tsn x (t ∷ ts) =
    or_swap (is_greater true cumulative_tsn t && eqb (tsn_past cumulative_tsn t) x)
    (list_any (λ t. is_greater true cumulative_tsn t && eqb (tsn_past cumulative_tsn t) x) ts)
    (is_greater false cumulative_tsn t && eqb (tsn_past cumulative_tsn t) x)
    (list_any (λ t. is_greater false cumulative_tsn t && eqb (tsn_past cumulative_tsn t) x) ts) ∙
    ap
    (λ z. z || (list_any (λ t. is_greater true cumulative_tsn t && eqb (tsn_past cumulative_tsn t) x) ts
    || list_any (λ t. is_greater false cumulative_tsn t && eqb (tsn_past cumulative_tsn t) x) ts))
    (either (ltb cumulative_tsn t) (eqb (tsn_past cumulative_tsn t) x)) ∙
    ap (λ z. eqb (tsn_past cumulative_tsn t) x || z) (both_sides cumulative_tsn x ts)

pub named_exactly : (cumulative_tsn x : ℕ) (ts : List ℕ) → 0 < x → x < 2 ^ 16
    → is_named x (gap_ack_blocks cumulative_tsn ts) ≡ is_held_at cumulative_tsn x ts
named_exactly cumulative_tsn x ts above below =
    let h : has_offset x ≡ true = grind (arith, nat_tests, above, below) in
    named x (offsets_of cumulative_tsn ts) ∙
    list_any-append (λ o. eqb o x) (offsets_in true cumulative_tsn ts) (offsets_in false cumulative_tsn ts) ∙
    rw (in_offsets true cumulative_tsn x ts h, in_offsets false cumulative_tsn x ts h) (both_sides cumulative_tsn x ts)

-- The offsets ascend, and so the runs are maximal.

abbrev Rise : ℕ → List ℕ → Type 0
Rise least [] = Unit {0}
Rise least (o ∷ os) = (least ≤ o) × Rise (o + 1) os

ascends_from : (l m : ℕ) (os : List ℕ) → m ≤ l → Rise l os → Rise m os
ascends_from l m [] le a = tt
ascends_from l m (o ∷ os) le a = (omega (arith, le, a.0), a.1)

apart_from : (least : ℕ) (b : GapAckBlock) (os : List ℕ) → least ≤ b.start → b.start ≤ b.end → Rise (b.end + 1) os
    → AreRuns least (runs_from b os)
apart_from least b [] l w a = (l, w, tt)
apart_from least b (o ∷ os) l w a =
    ⊎_elim
    (λ (e : eqb (b.end + 1) o ≡ true). rw e (apart_from least (block b.start o) os l (omega (arith, w, a.0)) a.1))
    (λ (e : eqb (b.end + 1) o ≡ false).
    rw e (l, w, apart_from (b.end + 2) (block o o) os (past_gap (b.end) o a.0 e) (omega arith) a.1))
    (cases_Bool (eqb (b.end + 1) o))
  where
    past_gap : (m n : ℕ) → m + 1 ≤ n → eqb (m + 1) n ≡ false → m + 2 ≤ n
    past_gap m n le e = grind (arith, nat_tests, le, e)

apart : (os : List ℕ) → Rise 1 os → AreRuns 1 (runs_of os)
apart [] a = tt
apart (o ∷ os) a = apart_from 1 (block o o) os a.0 (omega arith) a.1

greater_past : (cumulative_tsn t : ℕ) → ltb cumulative_tsn t ≡ true → t < 2 ^ 32
    → tsn_past cumulative_tsn t + cumulative_tsn ≡ t
greater_past cumulative_tsn t e b = let h : cumulative_tsn < t = grind (arith, nat_tests, e) in omega (arith, h, b)

greater_ascend : (cumulative_tsn l m : ℕ) (ts rest : List ℕ) → cumulative_tsn < 2 ^ 32 → Ascend l ts
    → m + cumulative_tsn ≤ l ⊎ m ≤ 1 → m ≤ 2 ^ 32 - cumulative_tsn → Rise (2 ^ 32 - cumulative_tsn) rest
    → Rise m (offsets_in true cumulative_tsn ts ++ rest)
greater_ascend cumulative_tsn l m [] rest p a w u r = ascends_from _ m rest u r
greater_ascend cumulative_tsn l m (t ∷ ts) rest p a w u r =
    ⊎_elim
    (λ (e : (is_greater true cumulative_tsn t && has_offset (tsn_past cumulative_tsn t)) ≡ true).
    rw e (
    let g = is_past cumulative_tsn t (and_parts (is_greater true cumulative_tsn t) _ e).0 in
    let same : tsn_past cumulative_tsn t + cumulative_tsn ≡ t = greater_past cumulative_tsn t g a.1 in (
      least m cumulative_tsn l t (tsn_past cumulative_tsn t) same
          (and_parts (is_greater true cumulative_tsn t) _ e).1 a.0 w,
      greater_ascend cumulative_tsn (t + 1) (tsn_past cumulative_tsn t + 1) ts rest p a.2 (inl (omega (arith, same)))
          (omega (arith, same, a.1, p)) r,
    )
    ))
    (λ (e : (is_greater true cumulative_tsn t && has_offset (tsn_past cumulative_tsn t)) ≡ false).
    rw e (greater_ascend cumulative_tsn (t + 1) m ts rest p a.2 (later_least m cumulative_tsn l t a.0 w) u r))
    (cases_Bool (is_greater true cumulative_tsn t && has_offset (tsn_past cumulative_tsn t)))
  where
    is_past : (cumulative_tsn t : ℕ) → is_greater true cumulative_tsn t ≡ true → ltb cumulative_tsn t ≡ true
    is_past cumulative_tsn t e = grind (arith, nat_tests, e)

    least : (m cumulative_tsn l t d : ℕ) → d + cumulative_tsn ≡ t → has_offset d ≡ true → l ≤ t
        → (m + cumulative_tsn ≤ l) ⊎ (m ≤ 1) → m ≤ d
    least m cumulative_tsn l t d same h a w =
        let positive : 0 < d = grind (arith, nat_tests, h) in
        ⊎_elim (λ (c : m + cumulative_tsn ≤ l). omega (arith, same, a, c)) (λ (c : m ≤ 1). omega (arith, positive, c)) w

    later_least : (m cumulative_tsn l t : ℕ) → l ≤ t → (m + cumulative_tsn ≤ l) ⊎ (m ≤ 1)
        → (m + cumulative_tsn ≤ t + 1) ⊎ (m ≤ 1)
    later_least m cumulative_tsn l t a w =
        ⊎_elim (λ (c : m + cumulative_tsn ≤ l). inl (omega (arith, a, c))) (λ (c : m ≤ 1). inr c) w

behind_past : (cumulative_tsn t : ℕ) → ltb cumulative_tsn t ≡ false → has_offset (tsn_past cumulative_tsn t) ≡ true
    → cumulative_tsn < 2 ^ 32 → tsn_past cumulative_tsn t ≡ t + 2 ^ 32 - cumulative_tsn
behind_past cumulative_tsn t e h p =
    let le : t ≤ cumulative_tsn = grind (arith, nat_tests, e) in
    let positive : 0 < tsn_past cumulative_tsn t = grind (arith, nat_tests, h) in
    omega (arith, le, positive, p)

behind_ascend : (cumulative_tsn l m : ℕ) (ts : List ℕ) → cumulative_tsn < 2 ^ 32 → Ascend l ts
    → m ≤ l + 2 ^ 32 - cumulative_tsn → Rise m (offsets_in false cumulative_tsn ts)
behind_ascend cumulative_tsn l m [] p a w = tt
behind_ascend cumulative_tsn l m (t ∷ ts) p a w =
    ⊎_elim
    (λ (e : (is_greater false cumulative_tsn t && has_offset (tsn_past cumulative_tsn t)) ≡ true).
    rw e (
    let same =
    behind_past cumulative_tsn t (is_behind cumulative_tsn t (and_parts (is_greater false cumulative_tsn t) _ e).0)
    (and_parts (is_greater false cumulative_tsn t) _ e).1 p in (
      omega (arith, same, a.0, w, p),
      behind_ascend cumulative_tsn (t + 1) (tsn_past cumulative_tsn t + 1) ts p a.2 (omega (arith, same, p)),
    )
    ))
    (λ (e : (is_greater false cumulative_tsn t && has_offset (tsn_past cumulative_tsn t)) ≡ false).
    rw e (behind_ascend cumulative_tsn (t + 1) m ts p a.2 (omega (arith, a.0, w, p))))
    (cases_Bool (is_greater false cumulative_tsn t && has_offset (tsn_past cumulative_tsn t)))
  where
    is_behind : (cumulative_tsn t : ℕ) → is_greater false cumulative_tsn t ≡ true → ltb cumulative_tsn t ≡ false
    is_behind cumulative_tsn t e = grind (arith, nat_tests, e)

pub maximal_blocks : (cumulative_tsn : ℕ) (ts : List ℕ) → cumulative_tsn < 2 ^ 32 → Ascend 0 ts
    → AreRuns 1 (gap_ack_blocks cumulative_tsn ts)
maximal_blocks cumulative_tsn ts p a =
    apart (offsets_of cumulative_tsn ts) (
    greater_ascend cumulative_tsn 0 1 ts (offsets_in false cumulative_tsn ts) p a (inr (omega arith)) (omega (arith, p))
    (behind_ascend cumulative_tsn 0 (2 ^ 32 - cumulative_tsn) ts p a (omega (arith, p)))
    )

-- What blocks are, from which offsets they name.

none_block : (l o : ℕ) (bs : List GapAckBlock) → AreRuns l bs → o < l → is_named o bs ≡ false
none_block l o [] a w = refl
none_block l o (b ∷ bs) a w =
    let off : leb b.start o ≡ false = lt-leb b.start o (omega (arith, a.0, w)) in
    rw off (none_block (b.end + 2) o bs a.2 (omega (arith, a.0, a.1, w)))

different : {q r : Bool} → q ≡ true → r ≡ false → q ≡ r → ⊥
different f g e = absurd (cc (f, g, e))

first_in : (b : GapAckBlock) (bs : List GapAckBlock) → b.start ≤ b.end → is_named b.start (b ∷ bs) ≡ true
first_in b bs w = rw (le-leb b.start b.start (omega arith), le-leb b.start b.end w) refl

-- where one of two first blocks ends earlier, the number after it is in the other one alone
ends_first : (l m : ℕ) (x y : GapAckBlock) (xs ys : List GapAckBlock) → AreRuns l (x ∷ xs) → AreRuns m (y ∷ ys)
    → x.start ≡ y.start → x.end < y.end → is_named (x.end + 1) (x ∷ xs) ≡ is_named (x.end + 1) (y ∷ ys) → ⊥
ends_first l m x y xs ys a b same less h =
    let off : leb (x.end + 1) x.end ≡ false = lt-leb (x.end + 1) x.end (omega arith) in
    let rest : is_named (x.end + 1) xs ≡ false = none_block (x.end + 2) (x.end + 1) xs a.2 (omega arith) in
    let out : is_named (x.end + 1) (x ∷ xs) ≡ false = rw (off, rest) (nothing (leb x.start (x.end + 1))) in
    let begun : leb y.start (x.end + 1) ≡ true = le-leb y.start (x.end + 1) (omega (arith, same, a.1)) in
    let on : leb (x.end + 1) y.end ≡ true = le-leb (x.end + 1) y.end (omega (arith, less)) in
    let there : is_named (x.end + 1) (y ∷ ys) ≡ true = rw (begun, on) refl in
    different there out (sym h)
  where
    nothing : (c : Bool) → ((c && false) || false) ≡ false
    nothing true = refl
    nothing false = refl

pub same_blocks : (l m : ℕ) (xs ys : List GapAckBlock) → AreRuns l xs → AreRuns m ys
    → ((o : ℕ) → is_named o xs ≡ is_named o ys) → xs ≡ ys
same_blocks l m [] [] a b h = refl
same_blocks l m [] (y ∷ ys) a b h = absurd (different (first_in y ys b.1) refl (sym (h y.start)))
same_blocks l m (x ∷ xs) [] a b h = absurd (different (first_in x xs a.1) refl (h x.start))
same_blocks l m (x ∷ xs) (y ∷ ys) a b h =
    let first : x.start ≡ y.start = begins (cases_lt x.start y.start) (cases_lt y.start x.start) in
    let last : x.end ≡ y.end = ends first (cases_lt x.end y.end) (cases_lt y.end x.end) in
    let tails : xs ≡ ys = same_blocks (x.end + 2) (y.end + 2) xs ys a.2 b.2 (λ o. tail o first last) in
    whole first last tails
  where
    begins : (x.start < y.start ⊎ y.start ≤ x.start) → (y.start < x.start ⊎ x.start ≤ y.start) → x.start ≡ y.start
    begins (inl less) c =
        absurd (different (first_in x xs a.1)
        (none_block y.start x.start (y ∷ ys) (omega arith, b.1, b.2) less) (h x.start))
    begins (inr w) (inl less) =
        absurd (different (first_in y ys b.1)
        (none_block x.start y.start (x ∷ xs) (omega arith, a.1, a.2) less) (sym (h y.start)))
    begins (inr w) (inr v) = omega (arith, w, v)

    ends : x.start ≡ y.start → (x.end < y.end ⊎ y.end ≤ x.end) → (y.end < x.end ⊎ x.end ≤ y.end)
        → x.end ≡ y.end
    ends first (inl less) c = absurd (ends_first l m x y xs ys a b first less (h (x.end + 1)))
    ends first (inr w) (inl less) = absurd (ends_first m l y x ys xs b a (sym first) less (sym (h (y.end + 1))))
    ends first (inr w) (inr v) = omega (arith, w, v)

    past : {u v : Bool} (c d : Bool) → ((c && false) || u) ≡ ((d && false) || v) → u ≡ v
    past true true e = e
    past true false e = e
    past false true e = e
    past false false e = e

    tail : (o : ℕ) → x.start ≡ y.start → x.end ≡ y.end → is_named o xs ≡ is_named o ys
    tail o first last =
        ⊎_elim
        (λ (w : o < x.end + 2).
        none_block (x.end + 2) o xs a.2 w ∙ sym (none_block (y.end + 2) o ys b.2 (omega (arith, w, last))))
        (λ (g : x.end + 2 ≤ o).
        let offx : leb o x.end ≡ false = lt-leb o x.end (omega (arith, g)) in
        let offy : leb o y.end ≡ false = lt-leb o y.end (omega (arith, g, last)) in
        let all : ((leb x.start o && leb o x.end) || is_named o xs) ≡ ((leb y.start o && leb o y.end) || is_named o ys) =
        h o in
        past (leb x.start o) (leb y.start o) (rw (offx, offy) at all))
        (cases_lt o (x.end + 2))

    whole : x.start ≡ y.start → x.end ≡ y.end → xs ≡ ys → x ∷ xs ≡ y ∷ ys
    whole first last tails =
        ap (λ f. block f x.end ∷ xs) first ∙ ap (λ e. block y.start e ∷ xs) last ∙ ap (λ zs. y ∷ zs) tails
