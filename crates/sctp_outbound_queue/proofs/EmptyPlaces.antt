-- Messages of which behind the first so many some places are empty.
use Rattle.std.proofs.Common.{◌≡◌, ℕ, zero, suc, ◌+◌, ◌-◌, ◌<◌, ◌≤◌, List, [], ◌∷◌, ◌++◌, Option}
use Rattle.std.proofs.Common.{length, map, take, drop, slice_index_or, refl, ap, sym, ◌∙◌, arith, min}
use Rattle.std.proofs.Math.Seq.{drop-nil, drop-cons}
use Rattle.std.specs.Prelude.{get_or, remove, slice_set, slice_range}
use Rattle.std.specs.List.{position_or_len, swap}
use Rattle.std.proofs.lemmas.List.{length-append, length-drop, length-take, drop-drop, drop-set-lt, drop-take, take-append-drop}
use Rattle.std.proofs.lemmas.List.{append_assoc, take-take, take_all}
use Rattle.sctp_outbound_queue.specs.declared.message.Attributes.{Attributes}
use Rattle.sctp_outbound_queue.specs.Clocks.{AllFrom}
use Rattle.sctp_outbound_queue.specs.Waiting.{Waiting}
use Rattle.sctp_outbound_queue.specs.Message.{is_expired_unsent, moved_down, soonest}
use Rattle.sctp_outbound_queue.specs.Owed.{Counts, as_they_are, lowered, standing}
use Rattle.sctp_outbound_queue.proofs.Covered.{first_position, known_further, pass_part, position_behind}
use Rattle.sctp_outbound_queue.proofs.TrueSsns.{nothing_owed}

-- none is empty
pub none_empty : (settled : ℕ) (ms : List Waiting) → standing settled 0 ms ≡ ms
none_empty settled ms =
    let e : settled + 0 ≡ settled = omega arith in
    rw e (take-append-drop settled ms)

pub all_closed : (settled dead : ℕ) (ms : List Waiting) → dead ≡ 0 → standing settled dead ms ≡ ms
all_closed settled dead ms none = ap (λ z. standing settled z ms) none ∙ none_empty settled ms

-- nothing is owed, and none is empty
pub all_there : (settled dead : ℕ) (counts : Counts) (ms : List Waiting) → counts ≡ [] → dead ≡ 0
    → as_they_are settled counts (standing settled dead ms) ≡ ms
all_there settled dead counts ms none closed =
    ap (λ z. as_they_are settled z (standing settled dead ms)) none
    ∙ nothing_owed settled (standing settled dead ms) ∙ all_closed settled dead ms closed

pub many_standing : (settled dead : ℕ) (ms : List Waiting) → dead ≤ length ms - settled
    → length (standing settled dead ms) + dead ≡ length ms
many_standing settled dead ms le =
    let both = length-append (take settled ms) (drop (settled + dead) ms) in
    let before = length-take settled ms in
    let behind = length-drop (settled + dead) ms in
    omega (arith, both, before, behind, le)

-- the empty places are put before the others

pub put_first : (from dead : ℕ) (ms ns : List Waiting)
    → ns ≡ drop from (take (from + dead) ms) ++ take from (take (from + dead) ms)
    → ns ++ drop (from + dead) ms ≡ take dead (drop from ms) ++ standing from dead ms
put_first from dead ms ns is =
    let empty = drop-take from dead ms in
    let before = take-take from (from + dead) ms (omega arith) in
    ap (λ z. z ++ drop (from + dead) ms)
    (is ∙ ap (λ z. z ++ take from (take (from + dead) ms)) empty ∙ ap (λ z. take dead (drop from ms) ++ z) before)
    ∙ append_assoc (take dead (drop from ms)) (take from ms) (drop (from + dead) ms)

-- the empty places are put behind some of the others

behind_all : (bs ts : List Waiting) (j : ℕ) → j ≡ length bs → drop j (bs ++ ts) ≡ ts
behind_all [] ts zero is = refl
behind_all [] ts (suc j) is = absurd (omega (arith, is))
behind_all (b ∷ bs) ts zero is = absurd (omega (arith, is))
behind_all (b ∷ bs) ts (suc j) is = behind_all bs ts j (omega (arith, is))

between : (xs bs ts : List Waiting) (i j : ℕ) → i ≡ length xs → j ≡ length xs + length bs
    → take i (xs ++ bs ++ ts) ++ drop j (xs ++ bs ++ ts) ≡ xs ++ ts
between [] bs ts zero j first is = behind_all bs ts j (omega (arith, is))
between [] bs ts (suc i) j first is = absurd (omega (arith, first))
between (x ∷ xs) bs ts zero j first is = absurd (omega (arith, first))
between (x ∷ xs) bs ts (suc i) zero first is = absurd (omega (arith, is))
between (x ∷ xs) bs ts (suc i) (suc j) first is =
    ap (λ z. x ∷ z) (between xs bs ts i j (omega (arith, first)) (omega (arith, is)))

left_of : (j n : ℕ) (ms : List Waiting) → j ≤ n → drop j (take n ms) ++ drop n ms ≡ drop j ms
left_of zero n ms le = take-append-drop n ms
left_of (suc j) zero ms le = absurd (omega arith)
left_of (suc j) (suc n) [] le = refl
left_of (suc j) (suc n) (m ∷ ms) le = left_of j n ms (omega arith)

joined : (i j n : ℕ) (ms : List Waiting) → i ≤ j → j ≤ n
    → take i (take n ms) ++ drop j (take n ms) ++ drop n ms ≡ take i ms ++ drop j ms
joined zero j n ms le within = left_of j n ms within
joined (suc i) zero n ms le within = absurd (omega arith)
joined (suc i) (suc j) zero ms le within = absurd (omega arith)
joined (suc i) (suc j) (suc n) [] le within = refl
joined (suc i) (suc j) (suc n) (m ∷ ms) le within =
    ap (λ z. m ∷ z) (joined i j n ms (omega arith) (omega arith))

pub put_over : (from to dead : ℕ) (ms ns : List Waiting) → from ≤ to → to + dead ≤ length ms
    → ns ≡ standing from dead (take (to + dead) ms) ++ take dead (drop from (take (to + dead) ms))
    → standing to dead (ns ++ drop (to + dead) ms) ≡ standing from dead ms
put_over from to dead ms ns le within is =
    let part = take (to + dead) ms in
    let many = length-take (to + dead) ms in
    let kept = many_standing from dead part (omega (arith, le, within, many)) in
    let rest = length-drop from part in
    let empty = length-take dead (drop from part) in
    ap (λ z. standing to dead (z ++ drop (to + dead) ms)) is
    ∙ between (standing from dead part) (take dead (drop from part)) (drop (to + dead) ms) to (to + dead)
    (omega (arith, kept, many, within)) (omega (arith, kept, many, within, rest, empty, le))
    ∙ joined from (from + dead) (to + dead) ms (omega arith) (omega (arith, le))

-- parts of what is left

take_left : (n s j : ℕ) (ms : List Waiting) → n ≤ s → s ≤ j → take n (take s ms ++ drop j ms) ≡ take n ms
take_left zero s j ms le behind = refl
take_left (suc n) zero j ms le behind = absurd (omega arith)
take_left (suc n) (suc s) zero ms le behind = absurd (omega arith)
take_left (suc n) (suc s) (suc j) [] le behind = refl
take_left (suc n) (suc s) (suc j) (m ∷ ms) le behind =
    ap (λ z. m ∷ z) (take_left n s j ms (omega arith) (omega arith))

drop_left : (s j f g : ℕ) (ms : List Waiting) → s ≤ j → s ≤ f → g + s ≡ f + j
    → drop f (take s ms ++ drop j ms) ≡ drop g ms
drop_left zero j f g ms below behind is =
    let e : f + j ≡ g = omega (arith, is) in
    drop-drop f j ms ∙ rw (← e) (ap (λ k. drop k ms) (omega arith))
drop_left (suc s) zero f g ms below behind is = absurd (omega arith)
drop_left (suc s) (suc j) zero g ms below behind is = absurd (omega arith)
drop_left (suc s) (suc j) (suc f) zero ms below behind is = absurd (omega (arith, below, behind, is))
drop_left (suc s) (suc j) (suc f) (suc g) [] below behind is = refl
drop_left (suc s) (suc j) (suc f) (suc g) (m ∷ ms) below behind is =
    drop_left s j f g ms (omega arith) (omega arith) (omega (arith, is))

pub part_before : (settled dead from count : ℕ) (ms : List Waiting) → from + count ≤ settled
    → take count (drop from (standing settled dead ms)) ≡ take count (drop from ms)
part_before settled dead from count ms le =
    sym (drop-take from count (standing settled dead ms))
    ∙ ap (drop from) (take_left (from + count) settled (settled + dead) ms le (omega arith))
    ∙ drop-take from count ms

pub part_behind : (settled dead from : ℕ) (ms : List Waiting) → settled ≤ from
    → drop from (standing settled dead ms) ≡ drop (from + dead) ms
part_behind settled dead from ms le =
    drop_left settled (settled + dead) from (from + dead) ms (omega arith) le (omega arith)

-- ranges
pub range_before : (settled end : ℕ) (ms : List Waiting) → end ≡ min settled (length ms)
    → slice_range ms 0 end ≡ take settled ms
range_before zero end ms is = let e : end - 0 ≡ 0 = omega (arith, is) in rw e refl
range_before (suc settled) end [] is = let e : end - 0 ≡ 0 = omega (arith, is) in rw e refl
range_before (suc settled) zero (m ∷ ms) is = absurd (omega (arith, is))
range_before (suc settled) (suc end) (m ∷ ms) is =
    let e : suc end - 0 ≡ suc end = omega arith in
    let less : end - 0 ≡ end = omega arith in
    let rest = range_before settled end ms (omega (arith, is)) in
    rw e (ap (λ z. m ∷ z) (rw less at rest))

pub range_behind : (settled dead end : ℕ) (ms : List Waiting) → dead ≤ length ms - settled
    → end ≡ min settled (length ms) → slice_range ms (end + dead) (length ms) ≡ drop (settled + dead) ms
range_behind settled dead end ms le is =
    let left = length-drop (end + dead) ms in
    take_all (length ms - (end + dead)) (drop (end + dead) ms) (omega (arith, left))
    ∙ same_behind (end + dead) (settled + dead) ms (omega (arith, le, is)) (omega (arith, le, is))
  where
    same_behind : (a b : ℕ) (xs : List Waiting) → a ≤ b → min b (length xs) ≤ a → drop a xs ≡ drop b xs
    same_behind a b [] le past = drop-nil a ∙ sym (drop-nil b)
    same_behind zero zero (x ∷ xs) le past = refl
    same_behind zero (suc b) (x ∷ xs) le past = absurd (omega (arith, past))
    same_behind (suc a) zero (x ∷ xs) le past = absurd (omega arith)
    same_behind (suc a) (suc b) (x ∷ xs) le past = same_behind a b xs (omega arith) (omega (arith, past))

-- a look passes

pub pass_alike : (now count k : ℕ) (least : Option ℕ) (ms ns : List Waiting) → count ≤ length ms → count ≤ length ns
    → take count ms ≡ take count ns → k ≡ min count (position_or_len (is_expired_unsent now) ns)
    → AllFrom least (take k ns)
    → (k ≡ min count (position_or_len (is_expired_unsent now) ms)) × AllFrom least (take k ms)
pass_alike now count k least ms ns within also same at known =
    pass_part now count k least ms (take count ns) within (sym same)
    (at ∙ sym (first_position now count ns also))
    (rw (take-take k count ns (omega (arith, at))) known)

pub pass_short : (now count before k : ℕ) (ms : List Waiting) → before ≤ count → k < before
    → k ≡ min before (position_or_len (is_expired_unsent now) ms)
    → k ≡ min count (position_or_len (is_expired_unsent now) ms)
pass_short now count before k ms le lt at = omega (arith, le, lt, at)

pub pass_further : (now count before k more : ℕ) (least next : Option ℕ) (ms rest : List Waiting) → before ≤ count
    → before ≤ k → k ≡ min before (position_or_len (is_expired_unsent now) ms) → AllFrom least (take k ms)
    → drop before ms ≡ rest → more ≡ min (count - before) (position_or_len (is_expired_unsent now) rest)
    → AllFrom next (take more rest)
    → (before + more ≡ min count (position_or_len (is_expired_unsent now) ms))
    × AllFrom (soonest least next) (take (before + more) ms)
pass_further now count before k more least next ms rest le all at known behind further from =
    let same : k ≡ before = omega (arith, all, at) in
    let apart = position_behind now before ms (omega (arith, all, at)) in
    let there = rw (← behind) at further in (
      omega (arith, le, apart, there),
      known_further least next before before more ms (omega arith) (rw same at known) (rw (← behind) at from),
    )

-- before the empty places, or behind them, or on both sides

abbrev pub Passes : ℕ → ℕ → ℕ → Option ℕ → List Waiting → Type 0
Passes now count k least ms =
    (k ≡ min count (position_or_len (is_expired_unsent now) ms)) × AllFrom least (take k ms)

pub passed_before : (now settled dead from count k : ℕ) (least : Option ℕ) (ms : List Waiting)
    → dead ≤ length ms - settled → from + count ≤ settled → from + count + dead ≤ length ms
    → Passes now count k least (drop from ms) → Passes now count k least (drop from (standing settled dead ms))
passed_before now settled dead from count k least ms hole le within passes =
    let many = many_standing settled dead ms hole in
    let left = length-drop from (standing settled dead ms) in
    let right = length-drop from ms in
    pass_alike now count k least (drop from (standing settled dead ms)) (drop from ms)
    (omega (arith, many, left, within)) (omega (arith, right, within)) (part_before settled dead from count ms le)
    passes.0 passes.1

pub passed_behind : (now settled dead from count k : ℕ) (least : Option ℕ) (ms : List Waiting) → settled ≤ from
    → Passes now count k least (drop (from + dead) ms) → Passes now count k least (drop from (standing settled dead ms))
passed_behind now settled dead from count k least ms le passes = rw (part_behind settled dead from ms le) passes

pub passed_short : (now settled dead from count k : ℕ) (least : Option ℕ) (ms : List Waiting)
    → from < settled → settled < from + count → from + count + dead ≤ length ms → k < settled - from
    → Passes now (settled - from) k least (drop from ms)
    → Passes now count k least (drop from (standing settled dead ms))
passed_short now settled dead from count k least ms before behind within lt passes =
    let first = passed_before now settled dead from (settled - from) k least ms (omega (arith, before, behind, within))
    (omega (arith, before)) (omega (arith, before, behind, within)) passes in (
      pass_short now count (settled - from) k (drop from (standing settled dead ms)) (omega (arith, before, behind)) lt
          first.0,
      first.1,
    )

pub passed_both : (now settled dead from count k more : ℕ) (least next : Option ℕ) (ms : List Waiting)
    → from < settled → settled < from + count → from + count + dead ≤ length ms → settled - from ≤ k
    → Passes now (settled - from) k least (drop from ms)
    → Passes now (count - (settled - from)) more next (drop (settled + dead) ms)
    → Passes now count (settled - from + more) (soonest least next) (drop from (standing settled dead ms))
passed_both now settled dead from count k more least next ms before behind within all passes further =
    let first = passed_before now settled dead from (settled - from) k least ms (omega (arith, before, behind, within))
    (omega (arith, before)) (omega (arith, before, behind, within)) passes in
    let there : from + (settled - from) ≡ settled = omega (arith, before) in
    let rest = drop-drop (settled - from) from (standing settled dead ms)
    ∙ ap (λ n. drop n (standing settled dead ms)) there ∙ part_behind settled dead settled ms (omega arith) in
    pass_further now count (settled - from) k more least next (drop from (standing settled dead ms))
    (drop (settled + dead) ms) (omega (arith, before, behind)) all first.0 first.1 rest further.0 further.1

-- what is owed is settled, beside the empty places

nothing_there : (k : ℕ) (counts : Counts) → as_they_are k counts [] ≡ []
nothing_there zero counts = refl
nothing_there (suc k) counts = refl

settled_past : (k j l : ℕ) (counts : Counts) (ms : List Waiting) → l ≡ j + k
    → as_they_are k counts (drop j ms) ≡ drop j (as_they_are l counts ms)
settled_past k zero l counts ms is = let e : l ≡ k = omega (arith, is) in rw e refl
settled_past k (suc j) l counts [] is =
    nothing_there k counts ∙ sym (ap (drop (suc j)) (nothing_there l counts))
settled_past k (suc j) zero counts (m ∷ ms) is = absurd (omega (arith, is))
settled_past k (suc j) (suc l) counts (m ∷ ms) is = settled_past k j l counts ms (omega (arith, is))

settled_left : (s k j l : ℕ) (counts : Counts) (ms : List Waiting) → s ≤ k → s ≤ j → l + s ≡ j + k
    → as_they_are k counts (take s ms ++ drop j ms)
    ≡ take s (as_they_are l counts ms) ++ drop j (as_they_are l counts ms)
settled_left zero k j l counts ms below behind is = settled_past k j l counts ms (omega (arith, is))
settled_left (suc s) zero j l counts ms below behind is = absurd (omega arith)
settled_left (suc s) (suc k) zero l counts ms below behind is = absurd (omega arith)
settled_left (suc s) (suc k) (suc j) zero counts ms below behind is = absurd (omega (arith, below, behind, is))
settled_left (suc s) (suc k) (suc j) (suc l) counts [] below behind is = refl
settled_left (suc s) (suc k) (suc j) (suc l) counts (m ∷ ms) below behind is =
    ap (λ z. m ∷ z) (settled_left s k j l counts ms (omega arith) (omega arith) (omega (arith, is)))

pub settled_beside : (from to dead : ℕ) (counts : Counts) (ms : List Waiting) → from ≤ to
    → as_they_are to counts (standing from dead ms) ≡ standing from dead (as_they_are (to + dead) counts ms)
settled_beside from to dead counts ms le =
    settled_left from to (from + dead) (to + dead) counts ms le (omega arith) (omega arith)

-- a message moves over the empty places

moved_set : (i j : ℕ) (ms : List Waiting) (a d : Waiting) → i < j → j < length ms
    → take (suc i) (slice_set (slice_set ms i (get_or ms j d)) j a)
    ++ drop (suc j) (slice_set (slice_set ms i (get_or ms j d)) j a)
    ≡ take i ms ++ drop j ms
moved_set i j [] a d lt within = absurd (omega arith)
moved_set i zero (m ∷ ms) a d lt within = absurd (omega arith)
moved_set zero (suc j) (m ∷ ms) a d lt within =
    ap (λ z. get_or ms j d ∷ z) (drop-set-lt (suc j) ms j a (omega arith)) ∙ sym (drop-cons ms j d (omega arith))
moved_set (suc i) (suc j) (m ∷ ms) a d lt within =
    ap (λ z. m ∷ z) (moved_set i j ms a d (omega arith) (omega arith))

pub moved_over : (index dead : ℕ) (ms : List Waiting) → 0 < dead → index + dead < length ms
    → standing (index + 1) dead (swap ms index (index + dead)) ≡ standing index dead ms
moved_over index dead [] some within = absurd (omega arith)
moved_over index dead (m ∷ ms) some within =
    let one : index + 1 ≡ suc index = omega arith in
    let both : index + 1 + dead ≡ suc (index + dead) = omega arith in
    rw (both, one)
    (moved_set index (index + dead) (m ∷ ms) (slice_index_or (m ∷ ms) index m) m (omega arith) within)

-- a message is taken out

without_one : (k j : ℕ) (ms : List Waiting) → k ≤ j → j < length ms
    → take k ms ++ drop (suc j) ms ≡ remove (take k ms ++ drop j ms) k
without_one k j [] le within = absurd (omega arith)
without_one zero zero (m ∷ ms) le within = refl
without_one zero (suc j) (m ∷ ms) le within = without_one zero j ms (omega arith) (omega arith)
without_one (suc k) zero (m ∷ ms) le within = absurd (omega arith)
without_one (suc k) (suc j) (m ∷ ms) le within = ap (λ z. m ∷ z) (without_one k j ms (omega arith) (omega arith))

pub one_more_empty : (k dead : ℕ) (ms ns : List Waiting) → k + dead < length ms
    → take (k + dead) ns ≡ take (k + dead) ms → drop (k + dead + 1) ns ≡ drop (k + dead + 1) ms
    → standing k (dead + 1) ns ≡ remove (standing k dead ms) k
one_more_empty k dead ms ns within before behind =
    let first : take k ns ≡ take k ms =
    sym (take-take k (k + dead) ns (omega arith)) ∙ ap (take k) before ∙ take-take k (k + dead) ms (omega arith) in
    let e : k + (dead + 1) ≡ k + dead + 1 = omega arith in
    let next : k + dead + 1 ≡ suc (k + dead) = omega arith in
    rw (e, behind, first, next) (without_one k (k + dead) ms (omega arith) within)

pub taken_out : (k : ℕ) (counts : Counts) (d : Attributes) (ms : List Waiting) → k < length ms
    → take k (remove ms k) ++ map (moved_down d) (map (lowered counts) (drop k (remove ms k)))
    ≡ take k (remove (as_they_are k counts ms) k)
    ++ map (moved_down d) (drop k (remove (as_they_are k counts ms) k))
taken_out k counts d [] lt = absurd (omega arith)
taken_out zero counts d (m ∷ ms) lt = refl
taken_out (suc k) counts d (m ∷ ms) lt = ap (λ z. m ∷ z) (taken_out k counts d ms (omega arith))
