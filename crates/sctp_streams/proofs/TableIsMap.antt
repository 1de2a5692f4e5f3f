-- A table of streams is a map from their identifiers.
use Rattle.std.proofs.Common.{◌≡◌, ℕ, zero, suc, ◌+◌, ◌*◌, ◌/◌, ◌%◌, ◌<◌, ◌≤◌, Bool, true, false, List, [], ◌∷◌, ◌++◌}
use Rattle.std.proofs.Common.{length, length-append, Option, Some, None, IsSome, refl, sym, ap, ◌∙◌, arith, is_some, true≢false, cond, map}
use Rattle.std.proofs.Common.{slice_index_or, slice_set, max}
use Rattle.std.specs.List.{AllByRecursion}
use Rattle.std.specs.List.Sorted.{IsStrictlySortedBy}
use Rattle.std.specs.BTreeMap.{insert_entry, is_at}
use Rattle.std.specs.Map.{keys_of, lookup, remove_entry, set_value}
use Rattle.std.specs.Ordering.{nat_cmp}
use Rattle.std.specs.declared.cmp.Ordering.TheVariants.{Less, Equal, Greater}
use Rattle.std.proofs.lemmas.Bool.Decides.{nat_tests}
use Rattle.sctp_streams.specs.Stream.{StreamView}
use Rattle.sctp_streams.specs.Table.{AreSmall, HasRoom, IsAsBefore, IsTable, entries_from, entries_in}
use Rattle.sctp_streams.specs.Table.{entries_of, entry, holding, page_at}
use Rattle.sctp_streams.specs.Table.{slot_at, stream_in, stream_of, with_slot}
use Rattle.sctp_streams.specs.declared.table.Slot.{Slot}
use Rattle.sctp_streams.specs.declared.table.Slot.TheVariants.{Free, Held}

abbrev pub Slots : Type 0
Slots = List (Option StreamView)

abbrev pub Entries : Type 0
Entries = List (ℕ × StreamView)

-- all identifiers are below this one, or above it
abbrev pub AreBelow : ℕ → Entries → Type 0
AreBelow id es = AllByRecursion (λ (e : ℕ × StreamView). e.0 < id) es

abbrev pub AreAbove : ℕ → Entries → Type 0
AreAbove id es = AllByRecursion (λ (e : ℕ × StreamView). id < e.0) es

all_behind : (P : ℕ × StreamView → Type 0) (xs ys : Entries) → AllByRecursion P xs → AllByRecursion P ys
    → AllByRecursion P (xs ++ ys)
all_behind P [] ys first second = second
all_behind P (x ∷ xs) ys first second = (first.0, all_behind P xs ys first.1 second)

pub behind_both : (xs ys zs : Entries) → xs ++ ys ++ zs ≡ xs ++ (ys ++ zs)
behind_both [] ys zs = refl
behind_both (x ∷ xs) ys zs = ap (λ (r : Entries). x ∷ r) (behind_both xs ys zs)

-- The identifiers of places, and of pages, lie between that of the first one and the end.

above_place : (i b : ℕ) (p : Slots) → b < i → AreAbove b (entries_of i p)
above_place i b [] less = tt
above_place i b (None ∷ p) less = above_place (i + 1) b p (omega (arith, less))
above_place i b (Some s ∷ p) less = (less, above_place (i + 1) b p (omega (arith, less)))

below_end : (i b : ℕ) (p : Slots) → i + length p ≤ b → AreBelow b (entries_of i p)
below_end i b [] less = tt
below_end i b (None ∷ p) less = below_end (i + 1) b p (omega (arith, less))
below_end i b (Some s ∷ p) less = (omega (arith, less), below_end (i + 1) b p (omega (arith, less)))

above_pages : (i b : ℕ) (ps : List Slots) → b < i → AreAbove b (entries_from i ps)
above_pages i b [] less = tt
above_pages i b (p ∷ ps) less =
    all_behind _ (entries_of i p) (entries_from (i + 256) ps) (above_place i b p less)
    (above_pages (i + 256) b ps (omega (arith, less)))

-- The place of an identifier stands between places of lower and of higher ones.

-- among the places of a page
record AroundPlace (i n id : ℕ) (p : Slots) : Type 0 where
  front : Entries
  back : Entries
  was : entries_of i p ≡ front ++ (entry id (slot_at p n) ++ back)
  other : (y : Option StreamView) → n < length p → entries_of i (slice_set p n y) ≡ front ++ (entry id y ++ back)
  below : AreBelow id front
  above : AreAbove id back

in_front : (i : ℕ) (x : Option StreamView) (p : Slots) (f r : Entries) → entries_of (i + 1) p ≡ f ++ r
    → entries_of i (x ∷ p) ≡ entry i x ++ f ++ r
in_front i None p f r is = is
in_front i (Some s) p f r is = ap (λ (z : Entries). (i, s) ∷ z) is

at_first : (i : ℕ) (x : Option StreamView) (p : Slots) → entries_of i (x ∷ p) ≡ entry i x ++ entries_of (i + 1) p
at_first i None p = refl
at_first i (Some s) p = refl

below_with : (i id : ℕ) (x : Option StreamView) (f : Entries) → i < id → AreBelow id f → AreBelow id (entry i x ++ f)
below_with i id None f less below = below
below_with i id (Some s) f less below = (less, below)

around_place : (i n id : ℕ) (p : Slots) → id ≡ i + n → AroundPlace i n id p
around_place i n id [] is = record {
  front = [];
  back = [];
  was = refl;
  other = λ y within. absurd (omega (arith, within));
  below = tt;
  above = tt;
}
around_place i zero id (x ∷ p) is =
    let first : id ≡ i = omega (arith, is) in
    rw first (record {
      front = [];
      back = entries_of (i + 1) p;
      was = at_first i x p;
      other = λ y within. at_first i y p;
      below = tt;
      above = above_place (i + 1) i p (omega arith);
    })
around_place i (suc n) id (x ∷ p) is =
    let r = around_place (i + 1) n id p (omega (arith, is)) in
    record {
      front = entry i x ++ r.front;
      back = r.back;
      was = in_front i x p r.front (entry id (slot_at p n) ++ r.back) r.was;
      other = λ y within.
          in_front i x (slice_set p n y) r.front (entry id y ++ r.back) (r.other y (omega (arith, within)));
      below = below_with i id x r.front (omega (arith, is)) r.below;
      above = r.above;
    }

-- and among those of all pages
record AroundIn (i k n id : ℕ) (ps : List Slots) : Type 0 where
  front : Entries
  back : Entries
  was : entries_from i ps ≡ front ++ (entry id (slot_at (page_at ps k) n) ++ back)
  other : (y : Option StreamView) → k < length ps → n < length (page_at ps k)
      → entries_from i (slice_set ps k (slice_set (page_at ps k) n y)) ≡ front ++ (entry id y ++ back)
  below : AreBelow id front
  above : AreAbove id back

with_rest : (es f m b r : Entries) → es ≡ f ++ (m ++ b) → es ++ r ≡ f ++ (m ++ (b ++ r))
with_rest es f m b r is =
    ap (λ (z : Entries). z ++ r) is ∙ behind_both f (m ++ b) r ∙ ap (λ (z : Entries). f ++ z) (behind_both m b r)

behind_page : (q es f r : Entries) → es ≡ f ++ r → q ++ es ≡ q ++ f ++ r
behind_page q es f r is = ap (λ (z : Entries). q ++ z) is ∙ sym (behind_both q f r)

around_in : (i k n id : ℕ) (ps : List Slots) → AreSmall ps → n < 256 → id ≡ i + 256 * k + n → AroundIn i k n id ps
around_in i k n id [] small place is = record {
  front = [];
  back = [];
  was = refl;
  other = λ y page within. absurd (omega (arith, page));
  below = tt;
  above = tt;
}
around_in i zero n id (p ∷ ps) small place is =
    let r = around_place i n id p (omega (arith, is)) in
    let rest = entries_from (i + 256) ps in
    record {
      front = r.front;
      back = r.back ++ rest;
      was = with_rest (entries_of i p) r.front (entry id (slot_at p n)) r.back rest r.was;
      other = λ y page within.
          with_rest (entries_of i (slice_set p n y)) r.front (entry id y) r.back rest (r.other y within);
      below = r.below;
      above = all_behind _ r.back rest r.above (above_pages (i + 256) id ps (omega (arith, is, place)));
    }
around_in i (suc k) n id (p ∷ ps) small place is =
    let r = around_in (i + 256) k n id ps small.1 place (omega (arith, is)) in
    let q = entries_of i p in
    record {
      front = q ++ r.front;
      back = r.back;
      was = behind_page q (entries_from (i + 256) ps) r.front (entry id (slot_at (page_at ps k) n) ++ r.back) r.was;
      other = λ y page within. behind_page q
          (entries_from (i + 256) (slice_set ps k (slice_set (page_at ps k) n y))) r.front (entry id y ++ r.back)
          (r.other y (omega (arith, page)) within);
      below = all_behind _ q r.front (below_end i id p (omega (arith, small.0, is))) r.below;
      above = r.above;
    }

around : (id : ℕ) (ps : List Slots) → AreSmall ps → AroundIn 0 (id / 256) (id % 256) id ps
around id ps small = around_in 0 (id / 256) (id % 256) id ps small (omega arith) (omega arith)

-- What the calls of a map do where its entries are split so.

pub is_same : (id : ℕ) → nat_cmp id id ≡ Equal
is_same id = grind (arith, nat_tests)

is_past : (id key : ℕ) → key < id → nat_cmp id key ≡ Greater
is_past id key less = grind (arith, nat_tests, less)

is_before : (id key : ℕ) → id < key → nat_cmp id key ≡ Less
is_before id key less = grind (arith, nat_tests, less)

found_above : (id : ℕ) (back : Entries) → AreAbove id back → lookup (is_at (nat_cmp id)) back ≡ None
found_above id [] above = refl
found_above id (e ∷ es) above = rw (is_before id e.0 above.0) (found_above id es above.1)

found_around : (id : ℕ) (front back : Entries) (x : Option StreamView) → AreBelow id front → AreAbove id back
    → lookup (is_at (nat_cmp id)) (front ++ (entry id x ++ back)) ≡ x
found_around id [] back None below above = found_above id back above
found_around id [] back (Some s) below above = rw (is_same id) refl
found_around id (e ∷ es) back x below above = rw (is_past id e.0 below.0) (found_around id es back x below.1 above)

set_around : (id : ℕ) (front back : Entries) (s w : StreamView) → AreBelow id front
    → front ++ (entry id (Some w) ++ back) ≡ set_value (is_at (nat_cmp id)) (front ++ (entry id (Some s) ++ back)) w
set_around id [] back s w below = rw (is_same id) refl
set_around id (e ∷ es) back s w below =
    rw (is_past id e.0 below.0) (ap (λ (z : Entries). e ∷ z) (set_around id es back s w below.1))

insert_above : (id : ℕ) (back : Entries) (w : StreamView) → AreAbove id back
    → (id, w) ∷ back ≡ insert_entry nat_cmp back id w
insert_above id [] w above = refl
insert_above id (e ∷ es) w above = rw (is_before id e.0 above.0) refl

insert_around : (id : ℕ) (front back : Entries) (x : Option StreamView) (w : StreamView) → AreBelow id front
    → AreAbove id back
    → front ++ (entry id (Some w) ++ back) ≡ insert_entry nat_cmp (front ++ (entry id x ++ back)) id w
insert_around id [] back None w below above = insert_above id back w above
insert_around id [] back (Some s) w below above = rw (is_same id) refl
insert_around id (e ∷ es) back x w below above =
    rw (is_past id e.0 below.0) (ap (λ (z : Entries). e ∷ z) (insert_around id es back x w below.1 above))

remove_around : (id : ℕ) (front back : Entries) (s : StreamView) → AreBelow id front
    → front ++ back ≡ remove_entry (is_at (nat_cmp id)) (front ++ (entry id (Some s) ++ back))
remove_around id [] back s below = rw (is_same id) refl
remove_around id (e ∷ es) back s below =
    rw (is_past id e.0 below.0) (ap (λ (z : Entries). e ∷ z) (remove_around id es back s below.1))

length_around : (id : ℕ) (front back : Entries) (x y : Option StreamView)
    → length (front ++ (entry id y ++ back)) + length (entry id x) ≡ length (front ++ (entry id x ++ back)) + length (entry id y)
length_around id [] back None None = refl
length_around id [] back None (Some s) = omega arith
length_around id [] back (Some r) None = omega arith
length_around id [] back (Some r) (Some s) = refl
length_around id (e ∷ es) back x y = let more = length_around id es back x y in omega (arith, more)

-- What is said of a table.

-- a look-up finds what the place of its identifier holds
pub found_in : (id : ℕ) (ps : List Slots) → AreSmall ps → lookup (is_at (nat_cmp id)) (entries_in ps) ≡ stream_in ps id
found_in id ps small =
    let r = around id ps small in
    ap (lookup (is_at (nat_cmp id))) r.was ∙ found_around id r.front r.back (stream_in ps id) r.below r.above

-- another stream under an identifier that has one
pub set_in : (id : ℕ) (ps : List Slots) (s w : StreamView) → AreSmall ps → HasRoom ps id → stream_in ps id ≡ Some s
    → entries_in (with_slot ps id (Some w)) ≡ set_value (is_at (nat_cmp id)) (entries_in ps) w
set_in id ps s w small room is =
    let r = around id ps small in
    let was : entries_in ps ≡ r.front ++ (entry id (Some s) ++ r.back) =
    r.was ∙ ap (λ (x : Option StreamView). r.front ++ (entry id x ++ r.back)) is in
    r.other (Some w) room.page room.place ∙ set_around id r.front r.back s w r.below
    ∙ ap (λ (z : Entries). set_value (is_at (nat_cmp id)) z w) (sym was)

pub insert_in : (id : ℕ) (ps : List Slots) (w : StreamView) → AreSmall ps → HasRoom ps id
    → entries_in (with_slot ps id (Some w)) ≡ insert_entry nat_cmp (entries_in ps) id w
insert_in id ps w small room =
    let r = around id ps small in
    r.other (Some w) room.page room.place
    ∙ insert_around id r.front r.back (stream_in ps id) w r.below r.above
    ∙ ap (λ (z : Entries). insert_entry nat_cmp z id w) (sym r.was)

pub remove_in : (id : ℕ) (ps : List Slots) (s : StreamView) → AreSmall ps → HasRoom ps id → stream_in ps id ≡ Some s
    → entries_in (with_slot ps id None) ≡ remove_entry (is_at (nat_cmp id)) (entries_in ps)
remove_in id ps s small room is =
    let r = around id ps small in
    let was : entries_in ps ≡ r.front ++ (entry id (Some s) ++ r.back) =
    r.was ∙ ap (λ (x : Option StreamView). r.front ++ (entry id x ++ r.back)) is in
    r.other None room.page room.place ∙ remove_around id r.front r.back s r.below
    ∙ ap (remove_entry (is_at (nat_cmp id))) (sym was)

-- how many streams there are with another thing at a place
pub length_in : (id : ℕ) (ps : List Slots) (y : Option StreamView) → AreSmall ps → HasRoom ps id
    → length (entries_in (with_slot ps id y)) + length (entry id (stream_in ps id))
    ≡ length (entries_in ps) + length (entry id y)
length_in id ps y small room =
    let r = around id ps small in
    ap (λ (z : Entries). length z + length (entry id (stream_in ps id))) (r.other y room.page room.place)
    ∙ length_around id r.front r.back (stream_in ps id) y
    ∙ ap (λ (z : Entries). length z + length (entry id y)) (sym r.was)

-- A place that holds a stream is there.

place_there : (p : Slots) (n : ℕ) → IsSome (slot_at p n) → n < length p
place_there [] n some = absurd (true≢false (sym some))
place_there (x ∷ p) zero some = omega arith
place_there (x ∷ p) (suc n) some = let less = place_there p n some in omega (arith, less)

page_there : (ps : List Slots) (k n : ℕ) → IsSome (slot_at (page_at ps k) n) → k < length ps
page_there [] k n some = absurd (true≢false (sym some))
page_there (p ∷ ps) zero n some = omega arith
page_there (p ∷ ps) (suc k) n some = let less = page_there ps k n some in omega (arith, less)

pub has_room : (id : ℕ) (ps : List Slots) → IsSome (stream_in ps id) → HasRoom ps id
has_room id ps some = record {
  page = page_there ps (id / 256) (id % 256) some;
  place = place_there (page_at ps (id / 256)) (id % 256) some;
}

-- a stream that is found is there
pub some_found : (o : Option StreamView) → IsSome o → (s : StreamView) × (o ≡ Some s)
some_found None some = absurd (true≢false (sym some))
some_found (Some s) some = (s, refl)

-- What is at an index.

pub page_is : (ps : List Slots) (k : ℕ) (p : Slots) → k < length ps → p ≡ slice_index_or ps k p → page_at ps k ≡ p
page_is [] k p less is = absurd (omega (arith, less))
page_is (q ∷ ps) zero p less is = sym is
page_is (q ∷ ps) (suc k) p less is = page_is ps k p (omega (arith, less)) is

pub slot_is : (xs : List Slot) (n : ℕ) (x : Slot) → n < length xs → x ≡ slice_index_or xs n x
    → slot_at (map stream_of xs) n ≡ stream_of x
slot_is [] n x less is = absurd (omega (arith, less))
slot_is (y ∷ xs) zero x less is = ap stream_of (sym is)
slot_is (y ∷ xs) (suc n) x less is = slot_is xs n x (omega (arith, less)) is

pub slot_there : (xs : List Slot) (n : ℕ) → IsSome (slot_at (map stream_of xs) n) → n < length xs
slot_there [] n some = absurd (true≢false (sym some))
slot_there (y ∷ xs) zero some = omega arith
slot_there (y ∷ xs) (suc n) some = let less = slot_there xs n some in omega (arith, less)

held : (x : Slot) (w : StreamView) → IsSome (stream_of x) → stream_of (holding x w) ≡ Some w
held Free w some = absurd (true≢false (sym some))
held (Held b) w some = refl

-- another stream in a place that holds one
pub page_lent : (xs : List Slot) (n : ℕ) (x : Slot) → IsSome (slot_at (map stream_of xs) n) → x ≡ slice_index_or xs n x
    → (w : StreamView) → map stream_of (slice_set xs n (holding x w)) ≡ slice_set (map stream_of xs) n (Some w)
page_lent [] n x some is w = absurd (true≢false (sym some))
page_lent (y ∷ xs) zero x some is w =
    ap (λ (z : Option StreamView). z ∷ map stream_of xs) (ap (λ (z : Slot). stream_of (holding z w)) is ∙ held y w some)
page_lent (y ∷ xs) (suc n) x some is w = ap (λ (z : Slots). stream_of y ∷ z) (page_lent xs n x some is w)

-- Pages stay small, and there are no more of them.

pub set_length : {A : Type 0} (xs : List A) (n : ℕ) (x : A) → length (slice_set xs n x) ≡ length xs
set_length [] n x = refl
set_length (y ∷ xs) zero x = refl
set_length (y ∷ xs) (suc n) x = let same = set_length xs n x in omega (arith, same)

small_set : (k n : ℕ) (ps : List Slots) (y : Option StreamView) → AreSmall ps
    → AreSmall (slice_set ps k (slice_set (page_at ps k) n y))
small_set k n [] y small = tt
small_set zero n (p ∷ ps) y small = (rw (set_length p n y) small.0, small.1)
small_set (suc k) n (p ∷ ps) y small = (small.0, small_set k n ps y small.1)

pub table_with : (id : ℕ) (ps : List Slots) (y : Option StreamView) → IsTable ps → IsTable (with_slot ps id y)
table_with id ps y table = record {
  small = small_set (id / 256) (id % 256) ps y table.small;
  few = rw (set_length ps (id / 256) (slice_set (page_at ps (id / 256)) (id % 256) y)) table.few;
}

-- A stream that was lent is the one under its identifier, and another one takes its place.
module _ (id : ℕ) (ps : List Slots) (p : Slots) (table : IsTable ps)
    (some : IsSome (lookup (is_at (nat_cmp id)) (entries_in ps))) where
  some_in : IsSome (stream_in ps id)
  some_in = rw (found_in id ps table.small) at some

  pub lent_room : HasRoom ps id
  lent_room = has_room id ps some_in

  module _ (is : p ≡ slice_index_or ps (id / 256) p) where
    lent_page : page_at ps (id / 256) ≡ p
    lent_page = page_is ps (id / 256) p lent_room.page is

    pub lent_some : IsSome (slot_at p (id % 256))
    lent_some = rw lent_page at some_in

    pub lent_value : lookup (is_at (nat_cmp id)) (entries_in ps) ≡ slot_at p (id % 256)
    lent_value = found_in id ps table.small ∙ ap (λ (q : Slots). slot_at q (id % 256)) lent_page

    same_pages : (w : StreamView)
        → slice_set ps (id / 256) (slice_set p (id % 256) (Some w)) ≡ with_slot ps id (Some w)
    same_pages w = ap (λ (q : Slots). slice_set ps (id / 256) (slice_set q (id % 256) (Some w))) (sym lent_page)

    pub lent_entries : (w : StreamView) → entries_in (slice_set ps (id / 256) (slice_set p (id % 256) (Some w)))
        ≡ set_value (is_at (nat_cmp id)) (entries_in ps) w
    lent_entries w =
        let found = some_found (stream_in ps id) some_in in
        ap entries_in (same_pages w) ∙ set_in id ps found.0 w table.small lent_room found.1

    pub lent_table : (count : ℕ) (w : StreamView) → count ≡ length (entries_in ps)
        → (count ≡ length (entries_in (slice_set ps (id / 256) (slice_set p (id % 256) (Some w)))))
        × IsTable (slice_set ps (id / 256) (slice_set p (id % 256) (Some w)))
    lent_table count w counted =
        let found = some_found (stream_in ps id) some_in in
        let sum = length_in id ps (Some w) table.small lent_room in
        let one : length (entry id (stream_in ps id)) ≡ 1 = ap (λ (o : Option StreamView). length (entry id o)) found.1 in
        rw (same_pages w) (omega (arith, counted, sum, one), table_with id ps (Some w) table)

-- A stream that is taken out.

pub none_removed : (test : ℕ → Bool) (es : Entries) → is_some (lookup test es) ≡ false → es ≡ remove_entry test es
none_removed test [] none = refl
none_removed test (e ∷ es) none = by (test e.0) none (none_removed test es)
  where
    by : (b : Bool) → is_some (cond b (Some e.1) (lookup test es)) ≡ false
        → (is_some (lookup test es) ≡ false → es ≡ remove_entry test es)
        → e ∷ es ≡ cond b es (e ∷ remove_entry test es)
    by true none rest = absurd (true≢false none)
    by false none rest = ap (λ (z : Entries). e ∷ z) (rest none)

module _ (id : ℕ) (ps : List Slots) (table : IsTable ps)
    (some : is_some (lookup (is_at (nat_cmp id)) (entries_in ps)) ≡ true) where
  found_some : (o : Option StreamView) → is_some o ≡ true → (s : StreamView) × (o ≡ Some s)
  found_some None is = absurd (true≢false (sym is))
  found_some (Some s) is = (s, refl)

  found : (s : StreamView) × (stream_in ps id ≡ Some s)
  found = found_some (stream_in ps id) (rw (found_in id ps table.small) at some)

  pub taken_room : HasRoom ps id
  taken_room = has_room id ps (rw found.1 refl)

  pub taken_entries : entries_in (with_slot ps id None) ≡ remove_entry (is_at (nat_cmp id)) (entries_in ps)
  taken_entries = remove_in id ps found.0 table.small taken_room found.1

  pub taken_count : (count : ℕ) → count ≡ length (entries_in ps) → count ≡ length (entries_in (with_slot ps id None)) + 1
  taken_count count counted =
      let sum = length_in id ps None table.small taken_room in
      let one : length (entry id (stream_in ps id)) ≡ 1 = ap (λ (o : Option StreamView). length (entry id o)) found.1 in
      omega (arith, counted, sum, one)

-- There are at most as many streams as identifiers.

most_places : (i : ℕ) (p : Slots) → length (entries_of i p) ≤ length p
most_places i [] = omega arith
most_places i (None ∷ p) = let most = most_places (i + 1) p in omega (arith, most)
most_places i (Some s ∷ p) = let most = most_places (i + 1) p in omega (arith, most)

most_pages : (i : ℕ) (ps : List Slots) → AreSmall ps → length (entries_from i ps) ≤ 256 * length ps
most_pages i [] small = omega arith
most_pages i (p ∷ ps) small =
    let one = most_places i p in
    let more = most_pages (i + 256) ps small.1 in
    let both = length-append (entries_of i p) (entries_from (i + 256) ps) in
    omega (arith, one, more, both, small.0)

pub most_in : (ps : List Slots) → IsTable ps → length (entries_in ps) ≤ 65536
most_in ps table = let most = most_pages 0 ps table.small in omega (arith, most, table.few)

-- Identifiers ascend.

keys_above : (b : ℕ) (es : Entries) → AreAbove b es → AllByRecursion (λ y. nat_cmp b y ≡ Less) (keys_of es)
keys_above b [] above = tt
keys_above b (e ∷ es) above = (is_before b e.0 above.0, keys_above b es above.1)

sorted_places : (i : ℕ) (p : Slots) → IsStrictlySortedBy nat_cmp (keys_of (entries_of i p))
unfolding IsStrictlySortedBy
sorted_places i [] = tt
sorted_places i (None ∷ p) = sorted_places (i + 1) p
sorted_places i (Some s ∷ p) =
    (keys_above i (entries_of (i + 1) p) (above_place (i + 1) i p (omega arith)), sorted_places (i + 1) p)

sorted_both : (a : ℕ) (xs ys : Entries) → AreBelow (a + 1) xs → AreAbove a ys → IsStrictlySortedBy nat_cmp (keys_of xs)
    → IsStrictlySortedBy nat_cmp (keys_of ys) → IsStrictlySortedBy nat_cmp (keys_of (xs ++ ys))
unfolding IsStrictlySortedBy
sorted_both a [] ys below above first second = second
sorted_both a (x ∷ xs) ys below above first second =
    (all xs first.0, sorted_both a xs ys below.1 above first.1 second)
  where
    far : (zs : Entries) → AreAbove a zs → AllByRecursion (λ y. nat_cmp x.0 y ≡ Less) (keys_of zs)
    far [] above = tt
    far (z ∷ zs) above = (is_before x.0 z.0 (omega (arith, below.0, above.0)), far zs above.1)

    all : (zs : Entries) → AllByRecursion (λ y. nat_cmp x.0 y ≡ Less) (keys_of zs)
        → AllByRecursion (λ y. nat_cmp x.0 y ≡ Less) (keys_of (zs ++ ys))
    all [] less = far ys above
    all (z ∷ zs) less = (less.0, all zs less.1)

sorted_pages : (i : ℕ) (ps : List Slots) → AreSmall ps → IsStrictlySortedBy nat_cmp (keys_of (entries_from i ps))
unfolding IsStrictlySortedBy
sorted_pages i [] small = tt
sorted_pages i (p ∷ ps) small =
    sorted_both (i + 255) (entries_of i p) (entries_from (i + 256) ps) (below_end i (i + 255 + 1) p (omega (arith, small.0)))
    (above_pages (i + 256) (i + 255) ps (omega arith)) (sorted_places i p) (sorted_pages (i + 256) ps small.1)

pub sorted_in : (ps : List Slots) → IsTable ps → IsStrictlySortedBy nat_cmp (keys_of (entries_in ps))
sorted_in ps table = sorted_pages 0 ps table.small

-- Places that are added are free.

places_behind : (i : ℕ) (p : Slots) → entries_of i (p ++ None ∷ []) ≡ entries_of i p
places_behind i [] = refl
places_behind i (None ∷ p) = places_behind (i + 1) p
places_behind i (Some s ∷ p) = ap (λ (z : Entries). (i, s) ∷ z) (places_behind (i + 1) p)

pub free_behind : (old p : Slots) → IsAsBefore old p → IsAsBefore old (p ++ None ∷ [])
free_behind old p same i = places_behind i p ∙ same i

pages_behind : (i : ℕ) (ps : List Slots) → entries_from i (ps ++ [] ∷ []) ≡ entries_from i ps
pages_behind i [] = refl
pages_behind i (p ∷ ps) = ap (λ (z : Entries). entries_of i p ++ z) (pages_behind (i + 256) ps)

small_behind : (ps : List Slots) → AreSmall ps → AreSmall (ps ++ [] ∷ [])
small_behind [] small = (omega arith, tt)
small_behind (p ∷ ps) small = (small.0, small_behind ps small.1)

pub page_behind : (ps : List Slots) → IsTable ps → length ps < 256
    → (entries_in (ps ++ [] ∷ []) ≡ entries_in ps) × IsTable (ps ++ [] ∷ [])
page_behind ps table few = (
  pages_behind 0 ps,
  record { small = small_behind ps table.small; few = (let more = length-append ps ([] ∷ []) in omega (arith, more, few)) },
)

-- another page in the place of one with the same streams
same_pages_from : (i k : ℕ) (ps : List Slots) (q : Slots) → IsAsBefore (page_at ps k) q
    → entries_from i (slice_set ps k q) ≡ entries_from i ps
same_pages_from i k [] q same = refl
same_pages_from i zero (p ∷ ps) q same = ap (λ (z : Entries). z ++ entries_from (i + 256) ps) (same i)
same_pages_from i (suc k) (p ∷ ps) q same =
    ap (λ (z : Entries). entries_of i p ++ z) (same_pages_from (i + 256) k ps q same)

small_other : (k : ℕ) (ps : List Slots) (q : Slots) → AreSmall ps → length q ≤ 256 → AreSmall (slice_set ps k q)
small_other k [] q small few = tt
small_other zero (p ∷ ps) q small few = (few, small.1)
small_other (suc k) (p ∷ ps) q small few = (small.0, small_other k ps q small.1 few)

page_small : (k : ℕ) (ps : List Slots) → AreSmall ps → length (page_at ps k) ≤ 256
page_small k [] small = omega arith
page_small zero (p ∷ ps) small = small.0
page_small (suc k) (p ∷ ps) small = page_small k ps small.1

page_of_other : (k : ℕ) (ps : List Slots) (q : Slots) → k < length ps → page_at (slice_set ps k q) k ≡ q
page_of_other k [] q less = absurd (omega (arith, less))
page_of_other zero (p ∷ ps) q less = refl
page_of_other (suc k) (p ∷ ps) q less = page_of_other k ps q (omega (arith, less))

none_elsewhere : (i j : ℕ) (p : Slots) → entries_of i p ≡ [] → entries_of j p ≡ []
none_elsewhere i j [] none = refl
none_elsewhere i j (None ∷ p) none = none_elsewhere (i + 1) (j + 1) p none
none_elsewhere i j (Some s ∷ p) none =
    let more = ap (λ (z : Entries). length z) none in absurd (omega (arith, more))

-- a page without a stream lets its places go
pub cleared : (i k : ℕ) (ps : List Slots) → IsTable ps → entries_of i (page_at ps k) ≡ []
    → (entries_in (slice_set ps k []) ≡ entries_in ps) × IsTable (slice_set ps k [])
cleared i k ps table none = (
  same_pages_from 0 k ps [] (λ j. sym (none_elsewhere i j (page_at ps k) none)),
  record {
    small = small_other k ps [] table.small (omega arith);
    few = rw (set_length ps k []) table.few;
  },
)

-- An identifier gets its place in a page that is there.
module _ (id : ℕ) (ps : List Slots) (p q : Slots) (table : IsTable ps) (there : id / 256 < length ps)
    (is : p ≡ slice_index_or ps (id / 256) p) (same : IsAsBefore p q) where
  was_page : page_at ps (id / 256) ≡ p
  was_page = page_is ps (id / 256) p there is

  pub grown_entries : entries_in (slice_set ps (id / 256) q) ≡ entries_in ps
  grown_entries = same_pages_from 0 (id / 256) ps q (rw was_page same)

  pub grown_table : (count : ℕ) → count ≤ 256 → length q ≤ max (length p) count → IsTable (slice_set ps (id / 256) q)
  grown_table count few most =
      let before : length p ≤ 256 = rw (← was_page) (page_small (id / 256) ps table.small) in
      record {
        small = small_other (id / 256) ps q table.small (omega (arith, few, most, before));
        few = rw (set_length ps (id / 256) q) table.few;
      }

  pub grown_room : id % 256 < length q → HasRoom (slice_set ps (id / 256) q) id
  grown_room place = record {
    page = rw (set_length ps (id / 256) q) there;
    place = rw (page_of_other (id / 256) ps q there) place;
  }

-- A stream is put under an identifier that has its place.
module _ (id : ℕ) (old ps : List Slots) (w : StreamView) (was : IsTable old) (table : IsTable ps)
    (same : entries_in ps ≡ entries_in old) (room : HasRoom ps id) where
  pub put_entries : entries_in (with_slot ps id (Some w)) ≡ insert_entry nat_cmp (entries_in old) id w
  put_entries = insert_in id ps w table.small room ∙ ap (λ (z : Entries). insert_entry nat_cmp z id w) same

  pub put_replaces : stream_in ps id ≡ lookup (is_at (nat_cmp id)) (entries_in old)
  put_replaces = sym (found_in id ps table.small) ∙ ap (lookup (is_at (nat_cmp id))) same

  pub put_new : (count : ℕ) → count ≡ length (entries_in old) → None ≡ stream_in ps id
      → count + 1 ≡ length (entries_in (with_slot ps id (Some w)))
  put_new count counted is =
      let sum = length_in id ps (Some w) table.small room in
      let before = ap (λ (z : Entries). length z) same in
      let free : length (entry id (stream_in ps id)) ≡ 0 = ap (λ (o : Option StreamView). length (entry id o)) (sym is) in
      omega (arith, counted, sum, before, free)

  pub put_over : (count : ℕ) (s : StreamView) → count ≡ length (entries_in old) → Some s ≡ stream_in ps id
      → count ≡ length (entries_in (with_slot ps id (Some w)))
  put_over count s counted is =
      let sum = length_in id ps (Some w) table.small room in
      let before = ap (λ (z : Entries). length z) same in
      let taken : length (entry id (stream_in ps id)) ≡ 1 = ap (λ (o : Option StreamView). length (entry id o)) (sym is) in
      omega (arith, counted, sum, before, taken)
