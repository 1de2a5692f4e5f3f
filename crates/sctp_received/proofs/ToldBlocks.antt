-- The blocks that ranges tell are the gap ack blocks of their TSNs.
use Rattle.std.proofs.Common.{◌≡◌, ℕ, zero, suc, ◌+◌, ◌-◌, ◌^◌, ◌<◌, ◌≤◌, min, max, Bool, true, false, ◌&&◌, ◌||◌}
use Rattle.std.proofs.Common.{ltb, leb, eqb, List, [], ◌∷◌, ◌++◌, take, slice_get, refl, ap, sym, ◌∙◌}
use Rattle.std.proofs.Common.{◌⊎◌, inl, inr, ⊎_elim, arith, Some, append_assoc, append-nil}
use Rattle.std.specs.List.{list_any, AllByRecursion}
use Rattle.std.specs.Option.{option_to_list}
use Rattle.std.specs.Ordering.{nat_cmp}
use Rattle.std.specs.BTreeMap.{is_at}
use Rattle.std.proofs.Math.Bool.{or_assoc}
use Rattle.std.proofs.lemmas.Bool.{cases_Bool, cases_lt, cases_eq, and_parts, ltb-true, leb-true}
use Rattle.std.proofs.lemmas.Bool.{lt-leb, le-leb, eq-eqb, ne_eqb}
use Rattle.std.proofs.lemmas.Bool.Decides.{nat_tests}
use Rattle.std.proofs.lemmas.List.Folds.{list_any-append}
use Rattle.sctp_serial.specs.Serial.{tsn, tsn_past}
use Rattle.sctp_ranges.specs.declared.run.Run.{Run}
use Rattle.sctp_ranges.specs.Runs.{spelled, AreApart, has, is_in}
use Rattle.sctp_wire_types.specs.declared.chunk.GapAckBlock.{GapAckBlock}
use Rattle.sctp_received.specs.Blocks.{near, wrapped, all_near, all_wrapped, with_block, with_blocks}
use Rattle.sctp_received.specs.Received.{is_held, has_offset, offsets_in, offsets_of, gap_ack_blocks, is_held_at, block}
use Rattle.sctp_received.specs.Received.{is_named, AreRuns, is_greater}
use Rattle.sctp_received.specs.TsnRanges.{turned}
use Rattle.sctp_received.proofs.Keys.{Ascend, at_is}
use Rattle.sctp_ranges.proofs.Removals.{in_below}
use Rattle.sctp_received.proofs.Turned.{stands_for, tsns_ascend, tsns_held}
use Rattle.sctp_received.proofs.GapAckBlocks.{named, named_exactly, maximal_blocks, same_blocks}

-- A block behind others.

pub behind_touching : (xs ys : List GapAckBlock) (x b : GapAckBlock) → ys ≡ xs ++ x ∷ [] → x.end + 1 ≡ b.start
    → with_block ys b ≡ xs ++ block x.start b.end ∷ []
behind_touching xs ys x b is touch = ap (λ zs. with_block zs b) is ∙ last xs
  where
    last : (zs : List GapAckBlock) → with_block (zs ++ x ∷ []) b ≡ zs ++ block x.start b.end ∷ []
    last [] = rw (eq-eqb (x.end + 1) b.start touch) refl
    last (z ∷ []) = ap (λ ws. z ∷ ws) (last [])
    last (z ∷ y ∷ zs) = ap (λ ws. z ∷ ws) (last (y ∷ zs))

pub behind_apart : (xs ys : List GapAckBlock) (x b : GapAckBlock) → ys ≡ xs ++ x ∷ [] → (x.end + 1 ≡ b.start → ⊥)
    → with_block ys b ≡ (xs ++ x ∷ []) ++ b ∷ []
behind_apart xs ys x b is off = ap (λ zs. with_block zs b) is ∙ last xs
  where
    last : (zs : List GapAckBlock) → with_block (zs ++ x ∷ []) b ≡ (zs ++ x ∷ []) ++ b ∷ []
    last [] = rw (ne_eqb (x.end + 1) b.start off) refl
    last (z ∷ []) = ap (λ ws. z ∷ ws) (last [])
    last (z ∷ y ∷ zs) = ap (λ ws. z ∷ ws) (last (y ∷ zs))

-- a block names an offset
abbrev names : GapAckBlock → ℕ → Bool
names b o = leb b.start o && leb o b.end

abbrev EndBy : ℕ → List GapAckBlock → Type 0
EndBy n rs = AllByRecursion (λ r. r.end ≤ n) rs

with_block_in : (l o : ℕ) (xs : List GapAckBlock) (b : GapAckBlock) → AreRuns l xs → b.start ≤ b.end
    → is_named o (with_block xs b) ≡ (is_named o xs || names b o)
with_block_in l o [] b a w = alone (names b o)
  where
    alone : (c : Bool) → (c || false) ≡ c
    alone true = refl
    alone false = refl
with_block_in l o (x ∷ []) b a w =
    ⊎_elim
    (λ (e : eqb (x.end + 1) b.start ≡ true).
    rw e (one x.start x.end b.start b.end o a.1 w e))
    (λ (e : eqb (x.end + 1) b.start ≡ false). rw e (two (names x o) (names b o)))
    (cases_Bool (eqb (x.end + 1) b.start))
  where
    one : (c d e f o : ℕ) → c ≤ d → e ≤ f → eqb (d + 1) e ≡ true
        → ((leb c o && leb o f) || false) ≡ (((leb c o && leb o d) || false) || (leb e o && leb o f))
    one c d e f o w v t = grind (arith, nat_tests, w, v, t)

    two : (c d : Bool) → (c || (d || false)) ≡ ((c || false) || d)
    two true d = refl
    two false true = refl
    two false false = refl
with_block_in l o (x ∷ y ∷ xs) b a w =
    ap (λ z. names x o || z) (with_block_in (x.end + 2) o (y ∷ xs) b a.2 w) ∙
    sym (or_assoc (names x o) (is_named o (y ∷ xs)) (names b o))

with_block_apart : (l n : ℕ) (xs : List GapAckBlock) (b : GapAckBlock) (bs : List GapAckBlock) → AreRuns l xs → EndBy n xs → n < b.start
    → b.start ≤ b.end → l ≤ b.start → AreRuns (b.end + 2) bs → AreRuns l (with_block xs b ++ bs)
with_block_apart l n [] b bs a e past w le rest = (le, w, rest)
with_block_apart l n (x ∷ []) b bs a e past w le rest =
    ⊎_elim
    (λ (t : x.end + 1 ≡ b.start).
    rw (eq-eqb (x.end + 1) b.start t) (a.0, omega (arith, a.1, t, w), rest))
    (λ (t : x.end + 1 ≡ b.start → ⊥).
    rw (ne_eqb (x.end + 1) b.start t) (a.0, a.1, (omega (arith, e.0, past, t), w, rest)))
    (cases_eq (x.end + 1) b.start)
with_block_apart l n (x ∷ y ∷ xs) b bs a e past w le rest = (
  a.0,
  a.1,
  with_block_apart (x.end + 2) n (y ∷ xs) b bs a.2 e.1 past w (omega (arith, a.2, e.1, past)) rest,
)

-- The blocks near a point.

near_has : (p f l o : ℕ) → p < l → f ≤ p + 65535 → f ≤ l
    → (leb (max f (p + 1) - p) o && leb o (min l (p + 65535) - p))
    ≡ ((ltb 0 o && leb o 65535) && (leb f (p + o) && leb (p + o) l))
near_has p f l o a b c = grind (arith, nat_tests, a, b, c)

near_off : (p f l o : ℕ) → (ltb p l && leb f (p + 65535)) ≡ false
    → ((ltb 0 o && leb o 65535) && (leb f (p + o) && leb (p + o) l)) ≡ false
near_off p f l o e = grind (arith, nat_tests, e)

or_none : (c : Bool) → (c || false) ≡ c
or_none true = refl
or_none false = refl

near_in : (p o : ℕ) (r : Run) → r.first ≤ r.last
    → is_named o (option_to_list (near p r)) ≡ (has_offset o && has r (p + o))
near_in p o r w =
    ⊎_elim
    (λ (e : (ltb p r.last && leb r.first (p + 65535)) ≡ true).
    let both = and_parts (ltb p r.last) (leb r.first (p + 65535)) e in
    rw e (or_none _ ∙ near_has p r.first r.last o (ltb-true p r.last both.0) (leb-true r.first (p + 65535) both.1) w))
    (λ (e : (ltb p r.last && leb r.first (p + 65535)) ≡ false). rw e (sym (near_off p r.first r.last o e)))
    (cases_Bool (ltb p r.last && leb r.first (p + 65535)))

both_parts : (h a b : Bool) → ((h && a) || (h && b)) ≡ (h && (a || b))
both_parts true a b = refl
both_parts false a b = refl

all_near_in : (l p o : ℕ) (rs : List Run) → AreApart l rs
    → is_named o (all_near p rs) ≡ (has_offset o && is_in (p + o) rs)
all_near_in l p o [] a = sym (none (has_offset o))
  where
    none : (h : Bool) → (h && false) ≡ false
    none true = refl
    none false = refl
all_near_in l p o (r ∷ rs) a =
    list_any-append (λ b. names b o) (option_to_list (near p r)) (all_near p rs) ∙
    rw (near_in p o r a.1, all_near_in (r.last + 2) p o rs a.3)
    (both_parts (has_offset o) (has r (p + o)) (is_in (p + o) rs))

all_near_apart : (m l p : ℕ) (rs : List Run) → AreApart l rs → (m ≤ 1 ⊎ m + p ≤ l) → AreRuns m (all_near p rs)
all_near_apart m l p [] a w = tt
all_near_apart m l p (r ∷ rs) a w =
    ⊎_elim
    (λ (e : (ltb p r.last && leb r.first (p + 65535)) ≡ true).
    let both = and_parts (ltb p r.last) (leb r.first (p + 65535)) e in
    let past : p < r.last = ltb-true p r.last both.0 in
    let by : r.first ≤ p + 65535 = leb-true r.first (p + 65535) both.1 in
    rw e (
      least w,
      omega (arith, past, by, a.1),
      all_near_apart (min r.last (p + 65535) - p + 2) (r.last + 2) p rs a.3 (inr (omega (arith, past))),
    ))
    (λ (e : (ltb p r.last && leb r.first (p + 65535)) ≡ false).
    rw e (all_near_apart m (r.last + 2) p rs a.3 (later w)))
    (cases_Bool (ltb p r.last && leb r.first (p + 65535)))
  where
    least : (m ≤ 1 ⊎ m + p ≤ l) → m ≤ max r.first (p + 1) - p
    least (inl c) = omega (arith, c)
    least (inr c) = omega (arith, c, a.0)

    later : (m ≤ 1 ⊎ m + p ≤ l) → (m ≤ 1 ⊎ m + p ≤ r.last + 2)
    later (inl c) = inl c
    later (inr c) = inr (omega (arith, c, a.0, a.1))

all_near_end : (l p : ℕ) (rs : List Run) → AreApart l rs → EndBy (2 ^ 32 - 1 - p) (all_near p rs)
all_near_end l p [] a = tt
all_near_end l p (r ∷ rs) a =
    ⊎_elim
    (λ (e : (ltb p r.last && leb r.first (p + 65535)) ≡ true).
    rw e (omega (arith, a.2), all_near_end (r.last + 2) p rs a.3))
    (λ (e : (ltb p r.last && leb r.first (p + 65535)) ≡ false). rw e (all_near_end (r.last + 2) p rs a.3))
    (cases_Bool (ltb p r.last && leb r.first (p + 65535)))

-- The blocks where the numbers wrapped.

wrapped_has : (p f l o : ℕ) → p < 2 ^ 32 → f + 2 ^ 32 ≤ p + 65535 → f ≤ l
    → (leb (f + 2 ^ 32 - p) o && leb o (min (l + 2 ^ 32 - p) 65535))
    ≡ ((ltb 0 o && leb o 65535) && (leb (2 ^ 32) (p + o) && (leb f (p + o - 2 ^ 32) && leb (p + o - 2 ^ 32) l)))
wrapped_has p f l o a b c = grind (arith, nat_tests, a, b, c)

wrapped_off : (p f l o : ℕ) → leb (f + 2 ^ 32) (p + 65535) ≡ false
    → ((ltb 0 o && leb o 65535) && (leb (2 ^ 32) (p + o) && (leb f (p + o - 2 ^ 32) && leb (p + o - 2 ^ 32) l)))
    ≡ false
wrapped_off p f l o e = grind (arith, nat_tests, e)

wrapped_in : (p o : ℕ) (r : Run) → p < 2 ^ 32 → r.first ≤ r.last
    → is_named o (option_to_list (wrapped p r))
    ≡ (has_offset o && (leb (2 ^ 32) (p + o) && has r (p + o - 2 ^ 32)))
wrapped_in p o r pb w =
    ⊎_elim
    (λ (e : leb (r.first + 2 ^ 32) (p + 65535) ≡ true).
    rw e (or_none _ ∙ wrapped_has p r.first r.last o pb (leb-true (r.first + 2 ^ 32) (p + 65535) e) w))
    (λ (e : leb (r.first + 2 ^ 32) (p + 65535) ≡ false). rw e (sym (wrapped_off p r.first r.last o e)))
    (cases_Bool (leb (r.first + 2 ^ 32) (p + 65535)))

three_parts : (h v a b : Bool) → ((h && (v && a)) || (h && (v && b))) ≡ (h && (v && (a || b)))
three_parts true true a b = refl
three_parts true false a b = refl
three_parts false v a b = refl

all_wrapped_in : (l p o : ℕ) (rs : List Run) → p < 2 ^ 32 → AreApart l rs
    → is_named o (all_wrapped p rs) ≡ (has_offset o && (leb (2 ^ 32) (p + o) && is_in (p + o - 2 ^ 32) rs))
all_wrapped_in l p o [] pb a = sym (none (has_offset o) (leb (2 ^ 32) (p + o)))
  where
    none : (h v : Bool) → (h && (v && false)) ≡ false
    none true true = refl
    none true false = refl
    none false v = refl
all_wrapped_in l p o (r ∷ rs) pb a =
    list_any-append (λ b. names b o) (option_to_list (wrapped p r)) (all_wrapped p rs) ∙
    rw (wrapped_in p o r pb a.1, all_wrapped_in (r.last + 2) p o rs pb a.3)
    (three_parts (has_offset o) (leb (2 ^ 32) (p + o)) (has r (p + o - 2 ^ 32)) (is_in (p + o - 2 ^ 32) rs))

all_wrapped_apart : (m l p : ℕ) (rs : List Run) → p < 2 ^ 32 → AreApart l rs → m + p ≤ l + 2 ^ 32
    → AreRuns m (all_wrapped p rs)
all_wrapped_apart m l p [] pb a w = tt
all_wrapped_apart m l p (r ∷ rs) pb a w =
    ⊎_elim
    (λ (e : leb (r.first + 2 ^ 32) (p + 65535) ≡ true).
    let by : r.first + 2 ^ 32 ≤ p + 65535 = leb-true (r.first + 2 ^ 32) (p + 65535) e in
    rw e (
      omega (arith, w, a.0),
      omega (arith, by, a.1),
      all_wrapped_apart (min (r.last + 2 ^ 32 - p) 65535 + 2) (r.last + 2) p rs pb a.3 (omega (arith, pb)),
    ))
    (λ (e : leb (r.first + 2 ^ 32) (p + 65535) ≡ false).
    rw e (all_wrapped_apart m (r.last + 2) p rs pb a.3 (omega (arith, w, a.0, a.1))))
    (cases_Bool (leb (r.first + 2 ^ 32) (p + 65535)))

-- One range more.

pub near_more : (p i : ℕ) (r : Run) (rs : List Run) → slice_get rs i ≡ Some r
    → all_near p (take (i + 1) rs) ≡ all_near p (take i rs) ++ option_to_list (near p r)
near_more p i r rs e = ap (λ k. all_near p (take k rs)) (next i) ∙ more i rs e
  where
    next : (i : ℕ) → i + 1 ≡ suc i
    next i = omega arith

    more : (i : ℕ) (rs : List Run) → slice_get rs i ≡ Some r
        → all_near p (take (suc i) rs) ≡ all_near p (take i rs) ++ option_to_list (near p r)
    more i [] e = absurd (cc)
    more zero (x ∷ rs) e = let same : x ≡ r = cc in rw same (append-nil (option_to_list (near p r)))
    more (suc i) (x ∷ rs) e =
        ap (λ ys. option_to_list (near p x) ++ ys) (more i rs e) ∙
        sym (append_assoc (option_to_list (near p x)) (all_near p (take i rs)) (option_to_list (near p r)))

pub wrapped_more : (p i : ℕ) (r : Run) (rs : List Run) → slice_get rs i ≡ Some r
    → all_wrapped p (take (i + 1) rs) ≡ all_wrapped p (take i rs) ++ option_to_list (wrapped p r)
wrapped_more p i r rs e = ap (λ k. all_wrapped p (take k rs)) (next i) ∙ more i rs e
  where
    next : (i : ℕ) → i + 1 ≡ suc i
    next i = omega arith

    more : (i : ℕ) (rs : List Run) → slice_get rs i ≡ Some r
        → all_wrapped p (take (suc i) rs) ≡ all_wrapped p (take i rs) ++ option_to_list (wrapped p r)
    more i [] e = absurd (cc)
    more zero (x ∷ rs) e = let same : x ≡ r = cc in rw same (append-nil (option_to_list (wrapped p r)))
    more (suc i) (x ∷ rs) e =
        ap (λ ys. option_to_list (wrapped p x) ++ ys) (more i rs e) ∙
        sym (append_assoc (option_to_list (wrapped p x)) (all_wrapped p (take i rs)) (option_to_list (wrapped p r)))

-- The gap ack blocks of the TSNs name the same offsets.

not_named : (p o : ℕ) (ts : List ℕ) → has_offset o ≡ false → is_named o (gap_ack_blocks p ts) ≡ false
not_named p o ts h =
    named o (offsets_of p ts) ∙
    list_any-append (λ q. eqb q o) (offsets_in true p ts) (offsets_in false p ts) ∙
    rw (none true ts, none false ts) refl
  where
    other : (q : ℕ) → has_offset q ≡ true → has_offset o ≡ false → eqb q o ≡ false
    other q e f = grind (arith, nat_tests, e, f)

    none : (g : Bool) (ts : List ℕ) → list_any (λ q. eqb q o) (offsets_in g p ts) ≡ false
    none g [] = refl
    none g (t ∷ ts) =
        ⊎_elim
        (λ (e : (is_greater g p t && has_offset (tsn_past p t)) ≡ true).
        let both = and_parts (is_greater g p t) (has_offset (tsn_past p t)) e in
        rw (e, other (tsn_past p t) both.1 h) (none g ts))
        (λ (e : (is_greater g p t && has_offset (tsn_past p t)) ≡ false). rw e (none g ts))
        (cases_Bool (is_greater g p t && has_offset (tsn_past p t)))

-- a TSN is held at an offset where it is held
held_at : (p o l : ℕ) (ts : List ℕ) → p < 2 ^ 32 → o < 2 ^ 32 → Ascend l ts
    → is_held_at p o ts ≡ is_held (tsn p o) ts
held_at p o l [] pb ob a = refl
held_at p o l (t ∷ ts) pb ob a =
    ap (λ z. z || is_held_at p o ts)
    (sym (stands_for p t o pb a.1 ob) ∙ turn t (tsn p o) ∙ sym (at_is (tsn p o) t)) ∙
    ap (λ z. is_at (nat_cmp (tsn p o)) t || z) (held_at p o (t + 1) ts pb ob a.2)
  where
    turn : (c d : ℕ) → eqb c d ≡ eqb d c
    turn c d = grind (arith, nat_tests)

-- what the ranges have at an offset from the point
in_turn : (b p o point : ℕ) (rs : List Run) → b < 2 ^ 32 → p < 2 ^ 32 → o < 2 ^ 32 → point ≡ tsn_past b p
    → AreApart 0 rs
    → is_in (tsn_past b (tsn p o)) rs ≡ (is_in (point + o) rs || (leb (2 ^ 32) (point + o) && is_in (point + o - 2 ^ 32) rs))
in_turn b p o point rs bb pb ob at apart =
    ⊎_elim
    (λ (l : point + o < 2 ^ 32).
    let same : tsn_past b (tsn p o) ≡ point + o = omega (arith, l, at, bb, pb, ob) in
    rw (same, lt-leb (2 ^ 32) (point + o) l) (sym (or_none (is_in (point + o) rs))))
    (λ (g : 2 ^ 32 ≤ point + o).
    let same : tsn_past b (tsn p o) ≡ point + o - 2 ^ 32 = omega (arith, g, at, bb, pb, ob) in
    let off : is_in (point + o) rs ≡ false = none (point + o) g in
    rw (same, off, le-leb (2 ^ 32) (point + o) g) refl)
    (cases_lt (point + o) (2 ^ 32))
  where
    none : (x : ℕ) → 2 ^ 32 ≤ x → is_in x rs ≡ false
    none x g =
        ⊎_elim
        (λ (e : is_in x rs ≡ true). absurd (omega (arith, g, in_below 0 x rs apart e)))
        (λ (e : is_in x rs ≡ false). e)
        (cases_Bool (is_in x rs))

told_in : (b p o point : ℕ) (rs : List Run) → b < 2 ^ 32 → p < 2 ^ 32 → point ≡ tsn_past b p → AreApart 0 rs
    → is_named o (gap_ack_blocks p (turned b (spelled rs)))
    ≡ (has_offset o && (is_in (point + o) rs || (leb (2 ^ 32) (point + o) && is_in (point + o - 2 ^ 32) rs)))
told_in b p o point rs bb pb at apart =
    ⊎_elim
    (λ (h : has_offset o ≡ true).
    let both = and_parts (ltb 0 o) (leb o 65535) h in
    let above : 0 < o = ltb-true 0 o both.0 in
    let below : o ≤ 65535 = leb-true o 65535 both.1 in
    let fits : tsn p o < 2 ^ 32 = omega arith in
    rw h (
    named_exactly p o (turned b (spelled rs)) above (omega (arith, below)) ∙
    held_at p o 0 (turned b (spelled rs)) pb (omega (arith, below)) (tsns_ascend b rs bb apart) ∙
    tsns_held b (tsn p o) rs bb fits apart ∙
    in_turn b p o point rs bb pb (omega (arith, below)) at apart
    ))
    (λ (h : has_offset o ≡ false). rw h (not_named p o (turned b (spelled rs)) h))
    (cases_Bool (has_offset o))

with_blocks_in : (l m o : ℕ) (xs ys : List GapAckBlock) → AreRuns l xs → AreRuns m ys
    → is_named o (with_blocks xs ys) ≡ (is_named o xs || is_named o ys)
with_blocks_in l m o xs [] a c = sym (or_none (is_named o xs))
with_blocks_in l m o xs (b ∷ bs) a c =
    list_any-append (λ r. names r o) (with_block xs b) bs ∙
    ap (λ z. z || is_named o bs) (with_block_in l o xs b a c.1) ∙
    or_assoc (is_named o xs) (names b o) (is_named o bs)

with_blocks_apart : (n : ℕ) (xs ys : List GapAckBlock) → AreRuns 1 xs → EndBy n xs → AreRuns (n + 1) ys
    → AreRuns 1 (with_blocks xs ys)
with_blocks_apart n xs [] a e c = a
with_blocks_apart n xs (b ∷ bs) a e c =
    with_block_apart 1 n xs b bs a e (omega (arith, c.0)) c.1 (omega (arith, c.0)) c.2

pub told_blocks : (b p point : ℕ) (rs : List Run) → b < 2 ^ 32 → p < 2 ^ 32 → point ≡ tsn_past b p → AreApart 0 rs
    → with_blocks (all_near point rs) (all_wrapped point rs) ≡ gap_ack_blocks p (turned b (spelled rs))
told_blocks b p point rs bb pb at apart =
    let fits : point < 2 ^ 32 = omega (arith, at) in
    let first = all_near_apart 1 0 point rs apart (inl (omega arith)) in
    let second = all_wrapped_apart (2 ^ 32 - 1 - point + 1) 0 point rs fits apart (omega (arith, fits)) in
    same_blocks 1 1 (with_blocks (all_near point rs) (all_wrapped point rs)) (gap_ack_blocks p (turned b (spelled rs)))
    (with_blocks_apart (2 ^ 32 - 1 - point) (all_near point rs) (all_wrapped point rs) first
    (all_near_end 0 point rs apart) second)
    (maximal_blocks p (turned b (spelled rs)) pb (tsns_ascend b rs bb apart))
    (λ o.
    with_blocks_in 1 (2 ^ 32 - 1 - point + 1) o (all_near point rs) (all_wrapped point rs) first second ∙
    rw (all_near_in 0 point o rs apart, all_wrapped_in 0 point o rs fits apart)
    (both_parts (has_offset o) (is_in (point + o) rs)
    (leb (2 ^ 32) (point + o) && is_in (point + o - 2 ^ 32) rs)) ∙
    sym (told_in b p o point rs bb pb at apart))
