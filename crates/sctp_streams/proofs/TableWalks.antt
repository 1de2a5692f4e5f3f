-- What goes over all places of a table.
use Rattle.std.proofs.Common.{◌≡◌, ℕ, zero, suc, ◌+◌, ◌*◌, ◌<◌, true, false, List, [], ◌∷◌, ◌++◌}
use Rattle.std.proofs.Common.{length, Option, Some, None, refl, sym, ap, ◌∙◌, arith, is_some, true≢false, map, slice_get}
use Rattle.std.proofs.Common.{slice_index_or, slice_set, take, drop, option_to_list, fold, min, ◌-◌, ◌^◌}
use Rattle.std.proofs.lemmas.List.{length-map, map-set}
use Rattle.std.proofs.lemmas.List.Edits.{map_over_more}
use Rattle.std.specs.Option.{option_map, unwrap_or}
use Rattle.std.specs.BTreeMap.{is_at}
use Rattle.std.specs.Map.{keys_of, lookup, remove_entry}
use Rattle.std.specs.Ordering.{nat_cmp}
use Rattle.sctp_receive_queues.specs.Reassembly.{bytes_waiting, saturated_bytes}
use Rattle.sctp_streams.specs.Stream.{StreamView, stream_passed}
use Rattle.sctp_streams.specs.Streams.{passed_each}
use Rattle.sctp_streams.specs.Table.{AreSmall, IsTable, added_waiting, entries_from, entries_in}
use Rattle.sctp_streams.specs.Table.{entries_of, entry, page_at}
use Rattle.sctp_streams.specs.Table.{slot_at, stream_of}
use Rattle.sctp_streams.specs.declared.table.Slot.{Slot}
use Rattle.sctp_streams.proofs.TableIsMap.{Entries, Slots, behind_both, is_same}

-- FORWARD TSN.

passed_places : (tsn i : ℕ) (p : Slots)
    → entries_of i (map (option_map (stream_passed tsn)) p) ≡ passed_each tsn (entries_of i p)
passed_places tsn i [] = refl
passed_places tsn i (None ∷ p) = passed_places tsn (i + 1) p
passed_places tsn i (Some s ∷ p) = ap (λ (z : Entries). (i, stream_passed tsn s) ∷ z) (passed_places tsn (i + 1) p)

passed_both : (tsn : ℕ) (xs ys : Entries) → passed_each tsn xs ++ passed_each tsn ys ≡ passed_each tsn (xs ++ ys)
passed_both tsn [] ys = refl
passed_both tsn (x ∷ xs) ys = ap (λ (z : Entries). (x.0, stream_passed tsn x.1) ∷ z) (passed_both tsn xs ys)

passed_pages : (tsn i : ℕ) (ps : List Slots)
    → entries_from i (map (map (option_map (stream_passed tsn))) ps) ≡ passed_each tsn (entries_from i ps)
passed_pages tsn i [] = refl
passed_pages tsn i (p ∷ ps) =
    ap (λ (z : Entries). z ++ entries_from (i + 256) (map (map (option_map (stream_passed tsn))) ps)) (passed_places tsn i p)
    ∙ ap (λ (z : Entries). passed_each tsn (entries_of i p) ++ z) (passed_pages tsn (i + 256) ps)
    ∙ passed_both tsn (entries_of i p) (entries_from (i + 256) ps)

pub passed_in_pages : (tsn : ℕ) (ps : List Slots)
    → entries_in (map (map (option_map (stream_passed tsn))) ps) ≡ passed_each tsn (entries_in ps)
passed_in_pages tsn ps = passed_pages tsn 0 ps

small_passed : (tsn : ℕ) (ps : List Slots) → AreSmall ps → AreSmall (map (map (option_map (stream_passed tsn))) ps)
small_passed tsn [] small = tt
small_passed tsn (p ∷ ps) small =
    (rw length-map small.0, small_passed tsn ps small.1)

pub table_passed : (tsn : ℕ) (ps : List Slots) → IsTable ps → IsTable (map (map (option_map (stream_passed tsn))) ps)
table_passed tsn ps table = record {
  small = small_passed tsn ps table.small;
  few = rw length-map table.few;
}

-- The bytes that wait.

abbrev weighed : ℕ → StreamView → ℕ
weighed sum s = min (sum + bytes_waiting s.reassembly) (2 ^ 64 - 1)

sum_both : (sum : ℕ) (xs ys : Entries)
    → fold weighed sum (map (λ e. e.1) (xs ++ ys)) ≡ fold weighed (fold weighed sum (map (λ e. e.1) xs)) (map (λ e. e.1) ys)
sum_both sum [] ys = refl
sum_both sum (x ∷ xs) ys = sum_both (weighed sum x.1) xs ys

sum_places : (sum i : ℕ) (p : Slots) → fold added_waiting sum p ≡ fold weighed sum (map (λ e. e.1) (entries_of i p))
sum_places sum i [] = refl
sum_places sum i (None ∷ p) = sum_places sum (i + 1) p
sum_places sum i (Some s ∷ p) = sum_places (weighed sum s) (i + 1) p

sum_pages : (sum i : ℕ) (ps : List Slots)
    → fold (λ (z : ℕ) (p : Slots). fold added_waiting z p) sum ps ≡ fold weighed sum (map (λ e. e.1) (entries_from i ps))
sum_pages sum i [] = refl
sum_pages sum i (p ∷ ps) =
    sum_pages (fold added_waiting sum p) (i + 256) ps
    ∙ ap (λ (z : ℕ). fold weighed z (map (λ e. e.1) (entries_from (i + 256) ps))) (sum_places sum i p)
    ∙ sym (sum_both sum (entries_of i p) (entries_from (i + 256) ps))

pub sum_in : (ps : List Slots) → fold (λ (z : ℕ) (p : Slots). fold added_waiting z p) 0 ps
    ≡ saturated_bytes (λ (s : StreamView). bytes_waiting s.reassembly) (map (λ e. e.1) (entries_in ps))
sum_in ps = sum_pages 0 0 ps

-- Places and pages one after another, from the first on.

-- those up to a place are those before it, and what it holds
pub taken_places : (i n m : ℕ) (p : Slots) → m ≡ suc n → n < length p
    → entries_of i (take m p) ≡ entries_of i (take n p) ++ entry (i + n) (slot_at p n)
taken_places i n m p is less = ap (λ (z : ℕ). entries_of i (take z p)) is ∙ by i n p less
  where
    first : (i : ℕ) (x : Option StreamView) → entries_of i (x ∷ []) ≡ entry (i + 0) x
    first i None = refl
    first i (Some s) = let same : i ≡ i + 0 = omega arith in ap (λ (z : ℕ). (z, s) ∷ []) same

    behind : (i : ℕ) (x : Option StreamView) (q r : Slots) (e : Entries) → entries_of (i + 1) q ≡ entries_of (i + 1) r ++ e
        → entries_of i (x ∷ q) ≡ entries_of i (x ∷ r) ++ e
    behind i None q r e rest = rest
    behind i (Some s) q r e rest = ap (λ (z : Entries). (i, s) ∷ z) rest

    by : (i n : ℕ) (p : Slots) → n < length p
        → entries_of i (take (suc n) p) ≡ entries_of i (take n p) ++ entry (i + n) (slot_at p n)
    by i n [] less = absurd (omega (arith, less))
    by i zero (x ∷ p) less = first i x
    by i (suc n) (x ∷ p) less =
        let there : i + 1 + n ≡ i + suc n = omega arith in
        behind i x (take (suc n) p) (take n p) (entry (i + suc n) (slot_at p n)) (
        by (i + 1) n p (omega (arith, less))
        ∙ ap (λ (z : ℕ). entries_of (i + 1) (take n p) ++ entry z (slot_at p n)) there)

-- and those up to a page are those before it, and its own
pub taken_pages : (i k m : ℕ) (ps : List Slots) → m ≡ suc k → k < length ps
    → entries_from i (take m ps) ≡ entries_from i (take k ps) ++ entries_of (i + 256 * k) (page_at ps k)
taken_pages i k m ps is less = ap (λ (z : ℕ). entries_from i (take z ps)) is ∙ by i k ps less
  where
    behind_none : (xs : Entries) → xs ++ [] ≡ xs
    behind_none [] = refl
    behind_none (x ∷ xs) = ap (λ (z : Entries). x ∷ z) (behind_none xs)

    by : (i k : ℕ) (ps : List Slots) → k < length ps
        → entries_from i (take (suc k) ps) ≡ entries_from i (take k ps) ++ entries_of (i + 256 * k) (page_at ps k)
    by i k [] less = absurd (omega (arith, less))
    by i zero (p ∷ ps) less =
        let same : i ≡ i + 256 * 0 = omega arith in
        behind_none (entries_of i p) ∙ ap (λ (z : ℕ). entries_of z p) same
    by i (suc k) (p ∷ ps) less =
        let there : i + 256 + 256 * k ≡ i + 256 * suc k = omega arith in
        ap (λ (z : Entries). entries_of i p ++ z) (
        by (i + 256) k ps (omega (arith, less))
        ∙ ap (λ (z : ℕ). entries_from (i + 256) (take k ps) ++ entries_of z (page_at ps k)) there)
        ∙ sym (behind_both (entries_of i p) (entries_from (i + 256) (take k ps))
        (entries_of (i + 256 * suc k) (page_at ps k)))

pub first_place : (i n : ℕ) (p : Slots) → n < length p → is_some (slot_at p n) ≡ true → entries_of i (take n p) ≡ []
    → Some (i + n) ≡ slice_get (keys_of (entries_of i p)) 0
first_place i n [] less some none = absurd (omega (arith, less))
first_place i zero (None ∷ p) less some none = absurd (true≢false (sym some))
first_place i zero (Some s ∷ p) less some none = let same : i + 0 ≡ i = omega arith in ap Some same
first_place i (suc n) (None ∷ p) less some none =
    let there : i + suc n ≡ i + 1 + n = omega arith in
    ap Some there ∙ first_place (i + 1) n p (omega (arith, less)) some none
first_place i (suc n) (Some s ∷ p) less some none = let more = ap length none in absurd (omega (arith, more))

none_of_both : (xs ys : Entries) → xs ++ ys ≡ [] → (xs ≡ []) × (ys ≡ [])
none_of_both [] ys none = (refl, none)
none_of_both (x ∷ xs) ys none = let more = ap length none in absurd (omega (arith, more))

first_of_both : (id : ℕ) (xs ys : Entries) → Some id ≡ slice_get (keys_of xs) 0 → Some id ≡ slice_get (keys_of (xs ++ ys)) 0
first_of_both id [] ys is = absurd (true≢false (ap is_some is))
first_of_both id (x ∷ xs) ys is = is

pub first_page : (i k id : ℕ) (ps : List Slots) → k < length ps → entries_from i (take k ps) ≡ []
    → Some id ≡ slice_get (keys_of (entries_of (i + 256 * k) (page_at ps k))) 0
    → Some id ≡ slice_get (keys_of (entries_from i ps)) 0
first_page i k id [] less none is = absurd (omega (arith, less))
first_page i zero id (p ∷ ps) less none is =
    let same : i + 256 * 0 ≡ i = omega arith in
    first_of_both id (entries_of i p) (entries_from (i + 256) ps)
    (is ∙ ap (λ (z : ℕ). slice_get (keys_of (entries_of z p)) 0) same)
first_page i (suc k) id (p ∷ ps) less none is =
    let both = none_of_both (entries_of i p) (entries_from (i + 256) (take k ps)) none in
    let there : i + 256 * suc k ≡ i + 256 + 256 * k = omega arith in
    first_page (i + 256) k id ps (omega (arith, less)) both.1
    (is ∙ ap (λ (z : ℕ). slice_get (keys_of (entries_of z (page_at ps k))) 0) there)
    ∙ ap (λ (z : Entries). slice_get (keys_of (z ++ entries_from (i + 256) ps)) 0) (sym both.0)

no_entry : (id : ℕ) (x : Option StreamView) → is_some x ≡ false → entry id x ≡ []
no_entry id None none = refl
no_entry id (Some s) none = absurd (true≢false none)

-- past a free place there is still none
pub none_taken : (i n m : ℕ) (p : Slots) → m ≡ suc n → n < length p → is_some (slot_at p n) ≡ false
    → entries_of i (take n p) ≡ [] → entries_of i (take m p) ≡ []
none_taken i n m p is less free none =
    taken_places i n m p is less ∙ ap (λ (z : Entries). z ++ entry (i + n) (slot_at p n)) none ∙ no_entry (i + n) (slot_at p n) free

pub no_first : (es : Entries) → None ≡ slice_get (keys_of es) 0 → es ≡ []
no_first [] none = refl
no_first (e ∷ es) none = absurd (true≢false (ap is_some (sym none)))

-- and up to a page that let its places go, where there was none before it
pub none_before_cleared : (k m : ℕ) (ps : List Slots) → m ≡ suc k → entries_from 0 (take k ps) ≡ []
    → entries_from 0 (take m (slice_set ps k [])) ≡ []
none_before_cleared k m ps is none = ap (λ (z : ℕ). entries_from 0 (take z (slice_set ps k []))) is ∙ by 0 k ps none
  where
    by : (i k : ℕ) (ps : List Slots) → entries_from i (take k ps) ≡ []
        → entries_from i (take (suc k) (slice_set ps k [])) ≡ []
    by i k [] none = refl
    by i zero (p ∷ ps) none = refl
    by i (suc k) (p ∷ ps) none =
        let both = none_of_both (entries_of i p) (entries_from (i + 256) (take k ps)) none in
        ap (λ (z : Entries). z ++ entries_from (i + 256) (take (suc k) (slice_set ps k []))) both.0
        ∙ by (i + 256) k ps both.1

-- the first one is the one that a look-up of its identifier finds
pub first_taken : (es : Entries) (id : ℕ) → Some id ≡ slice_get (keys_of es) 0
    → (option_to_list (lookup (is_at (nat_cmp id)) es) ≡ map (λ e. e.1) (take 1 es))
    × (remove_entry (is_at (nat_cmp id)) es ≡ drop 1 es)
first_taken [] id is = absurd (true≢false (ap is_some is))
first_taken (e ∷ es) id is =
    let same : id ≡ e.0 = ap (λ (o : Option ℕ). unwrap_or o 0) is in rw (same, is_same e.0) (refl, refl)

-- places that were mapped up to one, and now that one, too
pub skipped_more : (tsn n : ℕ) (xs ys : List Slot) (x y : Slot) → length ys ≡ length xs → n < length xs
    → map stream_of ys ≡ map (option_map (stream_passed tsn)) (take n (map stream_of xs)) ++ drop n (map stream_of xs)
    → x ≡ slice_index_or ys n x → stream_of y ≡ option_map (stream_passed tsn) (stream_of x)
    → map stream_of (slice_set ys n y)
    ≡ map (option_map (stream_passed tsn)) (take (n + 1) (map stream_of xs)) ++ drop (n + 1) (map stream_of xs)
skipped_more tsn n xs ys x y long less was is skipped =
    let f = option_map (stream_passed tsn) in
    let within : n < length (map stream_of xs) = rw length-map less in
    map-set stream_of ys n y ∙ ap (λ (z : Option StreamView). slice_set (map stream_of ys) n z) skipped
    ∙ map_over_more f (map stream_of xs) (map stream_of ys) n (stream_of x) within was
    (mapped_item ys n x (omega (arith, less, long)) is)
  where
    mapped_item : (zs : List Slot) (n : ℕ) (x : Slot) → n < length zs → x ≡ slice_index_or zs n x
        → stream_of x ≡ slice_index_or (map stream_of zs) n (stream_of x)
    mapped_item [] n x less is = absurd (omega (arith, less))
    mapped_item (z ∷ zs) zero x less is = ap stream_of is
    mapped_item (z ∷ zs) (suc n) x less is = mapped_item zs n x (omega (arith, less)) is

-- The identifiers of the places up to one, and now of that one, too.

keys_both : (xs ys : Entries) → keys_of (xs ++ ys) ≡ keys_of xs ++ keys_of ys
keys_both [] ys = refl
keys_both (x ∷ xs) ys = ap (λ (z : List ℕ). x.0 ∷ z) (keys_both xs ys)

ids_behind : (xs ys zs : List ℕ) → xs ++ ys ++ zs ≡ xs ++ (ys ++ zs)
ids_behind [] ys zs = refl
ids_behind (x ∷ xs) ys zs = ap (λ (r : List ℕ). x ∷ r) (ids_behind xs ys zs)

pub ids_more : (i n : ℕ) (p : Slots) (start was ids : List ℕ) → n < length p
    → was ≡ start ++ keys_of (entries_of i (take n p)) → ids ≡ was ++ keys_of (entry (i + n) (slot_at p n))
    → ids ≡ start ++ keys_of (entries_of i (take (n + 1) p))
ids_more i n p start was ids less before now =
    now ∙ ap (λ (z : List ℕ). z ++ keys_of (entry (i + n) (slot_at p n))) before
    ∙ ids_behind start (keys_of (entries_of i (take n p))) (keys_of (entry (i + n) (slot_at p n)))
    ∙ ap (λ (z : List ℕ). start ++ z) (sym (keys_both (entries_of i (take n p)) (entry (i + n) (slot_at p n))))
    ∙ ap (λ (z : Entries). start ++ keys_of z) (sym (taken_places i n (n + 1) p (omega arith) less))

pub all_ids_more : (k : ℕ) (ps : List Slots) (p : Slots) (start was ids : List ℕ) → k < length ps → page_at ps k ≡ p
    → was ≡ start ++ keys_of (entries_from 0 (take k ps)) → ids ≡ was ++ keys_of (entries_of (k * 256) p)
    → ids ≡ start ++ keys_of (entries_from 0 (take (k + 1) ps))
all_ids_more k ps p start was ids less page before now =
    let same : k * 256 ≡ 0 + 256 * k = omega arith in
    let own : entries_of (k * 256) p ≡ entries_of (0 + 256 * k) (page_at ps k) =
    ap (λ (z : ℕ). entries_of z p) same ∙ ap (entries_of (0 + 256 * k)) (sym page) in
    now ∙ ap (λ (z : Entries). was ++ keys_of z) own
    ∙ ap (λ (z : List ℕ). z ++ keys_of (entries_of (0 + 256 * k) (page_at ps k))) before
    ∙ ids_behind start (keys_of (entries_from 0 (take k ps))) (keys_of (entries_of (0 + 256 * k) (page_at ps k)))
    ∙ ap (λ (z : List ℕ). start ++ z)
    (sym (keys_both (entries_from 0 (take k ps)) (entries_of (0 + 256 * k) (page_at ps k))))
    ∙ ap (λ (z : Entries). start ++ keys_of z) (sym (taken_pages 0 k (k + 1) ps (omega arith) less))

-- a list that takes the place of one as long
pub whole : {A : Type 0} (xs ys : List A) (n : ℕ) → length xs ≡ length ys → n ≡ length ys
    → take n (xs ++ drop (length xs) ys) ≡ xs
whole {A = A} xs ys n same is =
    ap (λ (z : ℕ). take n (xs ++ drop z ys)) same ∙ ap (λ (z : ℕ). take z (xs ++ drop (length ys) ys)) (is ∙ sym same)
    ∙ ap (λ (z : List A). take (length xs) (xs ++ z)) (none ys) ∙ all xs
  where
    none : (zs : List A) → drop (length zs) zs ≡ []
    none [] = refl
    none (z ∷ zs) = none zs

    all : (zs : List A) → take (length zs) (zs ++ []) ≡ zs
    all [] = refl
    all (z ∷ zs) = ap (λ (r : List A). z ∷ r) (all zs)
