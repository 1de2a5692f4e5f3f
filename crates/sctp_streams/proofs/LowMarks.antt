-- The streams that fall to their low mark are gathered one release after another.
use Rattle.std.proofs.Common.{◌≡◌, refl, sym, ap, ◌∙◌, subst, ⊎_elim, ℕ, ◌-◌, ◌<◌, ◌≤◌, Bool, true, false, cond, eqb}
use Rattle.std.proofs.Common.{if◌then◌else◌, ◌&&◌, nat_le, nat_lt, List, [], ◌∷◌, ◌++◌, length, Option, Some, None}
use Rattle.std.proofs.Common.{is_some, inl, inr}
use Rattle.std.proofs.Common.{arith}
use Rattle.std.proofs.Common.{Ordering, Less, Equal, Greater, is_eq, nat_cmp}
use Rattle.std.specs.Ordering.{match_ordering}
use Rattle.std.specs.BTreeMap.{is_at}
use Rattle.std.specs.BTreeSet.{insert_key}
use Rattle.std.specs.List.{AllByRecursion, filter}
use Rattle.std.specs.List.Sorted.{IsStrictlySortedBy}
use Rattle.std.specs.Map.{keys_of, lookup}
use Rattle.std.proofs.lemmas.Bool.{cases_Bool, eqb-true, eq-eqb, false≢true}
use Rattle.std.proofs.lemmas.Bool.Decides.{nat_tests}
use Rattle.std.proofs.lemmas.Cmp.{eq_by_cmp_equiv, nat_cmp_total}
use Rattle.std.proofs.lemmas.List.Elements.{filter_agree}
use Rattle.std.proofs.lemmas.Map.{lookup-set_value}
use Rattle.std.proofs.lemmas.List.{append-nil, append_assoc}
use Rattle.sctp_streams.specs.LowMarks.{AreGathered, FallenView, Gathers, HasNoMore, IsGathered, ascending}
use Rattle.sctp_streams.specs.LowMarks.{ascending_with}
use Rattle.sctp_streams.specs.LowMarks.{fallen, falls_in, has_fallen, none_fallen}
use Rattle.sctp_streams.specs.Stream.{StreamView, falls_to_low_mark, released_from}
use Rattle.sctp_streams.specs.Streams.{StreamMap, falls_to_low_mark_in}
use Rattle.sctp_streams.specs.Streams.{live_ids, released_in, stream_at, with_stream}

-- Sorted identifiers

-- a key is found exactly where it is the one that is looked for, from either side
pub found_as : (n k : ℕ) → is_eq (nat_cmp n k) ≡ eqb n k
found_as n k = grind (arith, nat_tests)

pub found_of : (n k : ℕ) → is_eq (nat_cmp k n) ≡ eqb n k
found_of n k = grind (arith, nat_tests)

less_below : (i x y : ℕ) → nat_cmp i x ≡ Less → nat_cmp x y ≡ Less → nat_cmp i y ≡ Less
less_below i x y l k = grind (arith, nat_tests, l, k)

all_above : (i x : ℕ) (ks : List ℕ) → nat_cmp i x ≡ Less → AllByRecursion (λ y. nat_cmp x y ≡ Less) ks
    → AllByRecursion (λ y. nat_cmp i y ≡ Less) ks
all_above i x [] l a = a
all_above i x (k ∷ ks) l (b, a) = (less_below i x k l b, all_above i x ks l a)

-- what is below all keys is none of them
absent : (id : ℕ) (es : List (ℕ × StreamView)) → AllByRecursion (λ y. nat_cmp id y ≡ Less) (keys_of es)
    → is_some (lookup (is_at (nat_cmp id)) es) ≡ false
absent id [] a = refl
absent id (e ∷ es) (l, a) = rw l (absent id es a)

-- one more identifier of a list is one more in ascending order
pub ascending_more : (ids more : List ℕ) (id : ℕ)
    → ascending_with ids (more ++ id ∷ []) ≡ insert_key nat_cmp (ascending_with ids more) id
ascending_more ids [] id = refl
ascending_more ids (m ∷ more) id = ascending_more (insert_key nat_cmp ids m) more id

insert_front : (id : ℕ) (xs : List ℕ) → AllByRecursion (λ y. nat_cmp id y ≡ Less) xs
    → insert_key nat_cmp xs id ≡ id ∷ xs
insert_front id [] a = refl
insert_front id (x ∷ xs) (l, a) = rw l refl

pub insert_some : (id : ℕ) (xs : List ℕ) → 0 < length (insert_key nat_cmp xs id)
insert_some id [] = omega arith
insert_some id (x ∷ xs) = by (nat_cmp id x)
  where
    by : (o : Ordering) → 0 < length (match_ordering o (id ∷ x ∷ xs) (x ∷ xs) (x ∷ insert_key nat_cmp xs id))
    by Less = omega arith
    by Equal = omega arith
    by Greater = omega arith

-- where there is an identifier there is one in ascending order
still_some : (ids more : List ℕ) → 0 < length ids → 0 < length (ascending_with ids more)
still_some ids [] l = l
still_some ids (m ∷ more) l = still_some (insert_key nat_cmp ids m) more (insert_some m ids)

pub some_ascending : (ids : List ℕ) → 0 < length ids → 0 < length (ascending ids)
some_ascending [] l = l
some_ascending (id ∷ ids) l = still_some (id ∷ []) ids (omega arith)

kept_above : (test : ℕ → Bool) (id : ℕ) (ks : List ℕ) → AllByRecursion (λ y. nat_cmp id y ≡ Less) ks
    → AllByRecursion (λ y. nat_cmp id y ≡ Less) (filter test ks)
kept_above test id [] a = a
kept_above test id (k ∷ ks) (l, a) = by (test k) (kept_above test id ks a)
  where
    by : (b : Bool) → AllByRecursion (λ y. nat_cmp id y ≡ Less) (filter test ks)
        → AllByRecursion (λ y. nat_cmp id y ≡ Less) (cond b (k ∷ filter test ks) (filter test ks))
    by true more = (l, more)
    by false more = more

-- a test that passes one identifier more than another one adds it at its place
module _ (F G : ℕ → Bool) (id : ℕ) (apart : (i : ℕ) → eqb i id ≡ false → G i ≡ F i) (not_before : F id ≡ false)
    (now : G id ≡ true) where
  above_same : (ks : List ℕ) → AllByRecursion (λ y. nat_cmp id y ≡ Less) ks → filter G ks ≡ filter F ks
  above_same [] a = refl
  above_same (k ∷ ks) (l, a) = rw (apart k (sym (found_of k id) ∙ ap is_eq l), above_same ks a) refl

  added : (es : List (ℕ × StreamView)) → IsStrictlySortedBy nat_cmp (keys_of es)
      → is_some (lookup (is_at (nat_cmp id)) es) ≡ true
      → filter G (keys_of es) ≡ insert_key nat_cmp (filter F (keys_of es)) id
  unfolding IsStrictlySortedBy
  added [] s there = absurd (false≢true there)
  added (x ∷ es) (a, s) there = by (nat_cmp id x.0) refl (λ e. added es s e)
    where
      passes : (b : Bool) → F x.0 ≡ b → nat_cmp id x.0 ≡ Greater
          → filter G (keys_of es) ≡ insert_key nat_cmp (filter F (keys_of es)) id
          → filter G (x.0 ∷ keys_of es) ≡ insert_key nat_cmp (filter F (x.0 ∷ keys_of es)) id
      passes true f o more =
          let g : G x.0 ≡ true = apart x.0 (sym (found_of x.0 id) ∙ ap is_eq o) ∙ f in
          rw (f, g, o) (ap (λ z. x.0 ∷ z) more)
      passes false f o more =
          let g : G x.0 ≡ false = apart x.0 (sym (found_of x.0 id) ∙ ap is_eq o) ∙ f in
          rw (f, g) more

      by : (o : Ordering) → nat_cmp id x.0 ≡ o
          → (is_some (lookup (is_at (nat_cmp id)) es) ≡ true
          → filter G (keys_of es) ≡ insert_key nat_cmp (filter F (keys_of es)) id)
          → filter G (x.0 ∷ keys_of es) ≡ insert_key nat_cmp (filter F (x.0 ∷ keys_of es)) id
      by Less o more =
          absurd (false≢true (sym (absent id es (all_above id x.0 (keys_of es) o a)) ∙ (rw o at there)))
      by Equal o more =
          let same : id ≡ x.0 = eqb-true id x.0 (sym (found_as id x.0) ∙ ap is_eq o) in
          let above : AllByRecursion (λ y. nat_cmp id y ≡ Less) (keys_of es) =
          subst (λ z. AllByRecursion (λ y. nat_cmp z y ≡ Less) (keys_of es)) (sym same) a in
          let f : F x.0 ≡ false = ap F (sym same) ∙ not_before in
          let g : G x.0 ≡ true = ap G (sym same) ∙ now in
          rw (f, g)
          (ap (λ z. z ∷ filter G (keys_of es)) (sym same)
          ∙ ap (λ z. id ∷ z) (above_same (keys_of es) above)
          ∙ sym (insert_front id (filter F (keys_of es)) (kept_above F id (keys_of es) above)))
      by Greater o more = passes (F x.0) refl o (more (rw o at there))

-- One stream

more_released : (o : Option StreamView) (t : StreamView) (bytes : ℕ) → HasNoMore o (Some t)
    → HasNoMore o (Some (released_from t bytes))
more_released None t bytes h = h
more_released (Some s) t bytes (e, l) = (e, omega (arith, l))

-- of the low mark, what was buffered before, what is now, and what is released
no_fall_of : (low before now bytes : ℕ) → now ≤ before → (nat_lt low now && nat_le (now - bytes) low) ≡ false
    → (nat_lt low before && nat_le (now - bytes) low) ≡ (nat_lt low before && nat_le now low)
no_fall_of low before now bytes l e = grind (arith, nat_tests, l, e)

not_fallen_of : (low before now bytes : ℕ) → (nat_lt low now && nat_le (now - bytes) low) ≡ true
    → (nat_lt low before && nat_le now low) ≡ false
not_fallen_of low before now bytes e = grind (arith, nat_tests, e)

fall_of : (low before now bytes : ℕ) → now ≤ before → (nat_lt low now && nat_le (now - bytes) low) ≡ true
    → (nat_lt low before && nat_le (now - bytes) low) ≡ true
fall_of low before now bytes l e = grind (arith, nat_tests, l, e)

no_fall : (o : Option StreamView) (t : StreamView) (bytes : ℕ) → HasNoMore o (Some t)
    → falls_to_low_mark t bytes ≡ false → has_fallen o (Some (released_from t bytes)) ≡ has_fallen o (Some t)
no_fall None t bytes h e = refl
no_fall (Some s) t bytes (low, l) e =
    no_fall_of s.low_mark s.buffered t.buffered bytes l (rw low at e)

not_fallen : (o : Option StreamView) (t : StreamView) (bytes : ℕ) → HasNoMore o (Some t)
    → falls_to_low_mark t bytes ≡ true → has_fallen o (Some t) ≡ false
not_fallen None t bytes h e = refl
not_fallen (Some s) t bytes (low, l) e = not_fallen_of s.low_mark s.buffered t.buffered bytes (rw low at e)

falls : (o : Option StreamView) (t : StreamView) (bytes : ℕ) → HasNoMore o (Some t)
    → falls_to_low_mark t bytes ≡ true → has_fallen o (Some (released_from t bytes)) ≡ true
falls None t bytes h e = absurd h
falls (Some s) t bytes (low, l) e = fall_of s.low_mark s.buffered t.buffered bytes l (rw low at e)

was_there : (o : Option StreamView) (t : StreamView) → HasNoMore o (Some t) → is_some o ≡ true
was_there None t h = absurd h
was_there (Some s) t h = refl

same_now : (o : Option StreamView) → HasNoMore o o
same_now None = tt
same_now (Some s) = (refl, omega arith)

not_yet : (o : Option StreamView) → has_fallen o o ≡ false
not_yet None = refl
not_yet (Some s) = none s.low_mark s.buffered
  where
    none : (low buffered : ℕ) → (nat_lt low buffered && nat_le buffered low) ≡ false
    none low buffered = grind (arith, nat_tests)

-- All streams

-- a live stream is another one now: the others stay
pub at_with : (m : StreamMap) (id n : ℕ) (t s : StreamView) → stream_at m id ≡ Some t
    → stream_at (with_stream m id s) n ≡ cond (eqb n id) (Some s) (stream_at m n)
at_with m id n t s h =
    lookup-set_value (eq_by_cmp_equiv nat_cmp_total) (is_at (nat_cmp id)) ((eq_by_cmp_equiv nat_cmp_total).congr id) n s
    m.by_id (ap is_some h)
    ∙ ap (λ b. cond b (Some s) (stream_at m n)) (found_of n id)

none_passes : (test : ℕ → Bool) → ((i : ℕ) → test i ≡ false) → (ks : List ℕ) → filter test ks ≡ []
none_passes test none [] = refl
none_passes test none (k ∷ ks) = rw (none k) (none_passes test none ks)

-- where nothing was released none has fallen
pub none_fallen_yet : (m : StreamMap) → fallen m m ≡ []
unfolding fallen
none_fallen_yet m =
    none_passes (λ i. has_fallen (stream_at m i) (stream_at m i)) (λ i. not_yet (stream_at m i)) (live_ids m)

pub nothing_gathered : (m : StreamMap) (f : FallenView) → IsStrictlySortedBy nat_cmp (live_ids m) → f ≡ none_fallen
    → IsGathered m m f
nothing_gathered m f ordered e = record {
  sorted = ordered;
  released = λ i. same_now (stream_at m i);
  whole = λ r. ap (λ (z : FallenView). ascending z.ids) e ∙ sym (none_fallen_yet m);
  some = λ r. absurd (false≢true (sym (ap (λ (z : FallenView). z.refused) e) ∙ r));
}

-- A release

-- a stream of which so many bytes were released, whatever else of it changed but its low mark
fallen_as : (o : Option StreamView) (t u : StreamView) (bytes : ℕ) → u.buffered ≡ t.buffered - bytes
    → has_fallen o (Some u) ≡ has_fallen o (Some (released_from t bytes))
fallen_as None t u bytes less = refl
fallen_as (Some s) t u bytes less = ap (λ b. nat_lt s.low_mark s.buffered && nat_le b s.low_mark) less

more_as : (o : Option StreamView) (t u : StreamView) (bytes : ℕ) → u.low_mark ≡ t.low_mark
    → u.buffered ≡ t.buffered - bytes → HasNoMore o (Some (released_from t bytes)) → HasNoMore o (Some u)
more_as None t u bytes low less h = absurd h
more_as (Some s) t u bytes low less (same, l) = (low ∙ same, subst (λ b. b ≤ s.buffered) (sym less) l)

module _ (m : StreamMap) (id bytes : ℕ) (t u : StreamView) (there : stream_at m id ≡ Some t)
    (low : u.low_mark ≡ t.low_mark) (less : u.buffered ≡ t.buffered - bytes) (before : StreamMap)
    (f : FallenView) (h : IsGathered before m f) where
  abbrev now : StreamMap
  now = with_stream m id u

  abbrev had : ℕ → Bool
  had i = has_fallen (stream_at before i) (stream_at m i)

  abbrev has : ℕ → Bool
  has i = has_fallen (stream_at before i) (stream_at now i)

  here : HasNoMore (stream_at before id) (Some t)
  here = subst (λ z. HasNoMore (stream_at before id) z) there (h.released id)

  released_here : (i : ℕ) → HasNoMore (stream_at before i) (stream_at now i)
  released_here i =
      subst (λ z. HasNoMore (stream_at before i) z) (sym (at_with m id i t u there))
      (by (eqb i id) refl)
    where
      by : (b : Bool) → eqb i id ≡ b
          → HasNoMore (stream_at before i) (cond b (Some u) (stream_at m i))
      by true e =
          subst (λ z. HasNoMore (stream_at before z) (Some u)) (sym (eqb-true i id e))
          (more_as (stream_at before id) t u bytes low less (more_released (stream_at before id) t bytes here))
      by false e = h.released i

  has_apart : (i : ℕ) → eqb i id ≡ false → has i ≡ had i
  has_apart i e =
      ap (has_fallen (stream_at before i))
      (at_with m id i t u there
      ∙ ap (λ b. cond b (Some u) (stream_at m i)) e)

  has_here : has id ≡ has_fallen (stream_at before id) (Some u)
  has_here =
      ap (has_fallen (stream_at before id))
      (at_with m id id t u there
      ∙ ap (λ b. cond b (Some u) (stream_at m id)) (eq-eqb id id refl))

  had_here : had id ≡ has_fallen (stream_at before id) (Some t)
  had_here = ap (has_fallen (stream_at before id)) there

  -- the stream does not fall by this release: the same ones have fallen
  stays_gathered : falls_to_low_mark t bytes ≡ false → IsGathered before now f
  unfolding fallen
  stays_gathered e =
      let same : fallen before now ≡ fallen before m = filter_agree has had agree (live_ids before) in
      record {
        sorted = h.sorted;
        released = released_here;
        whole = λ r. h.whole r ∙ sym same;
        some = λ r. subst (λ z. 0 < length z) (sym same) (h.some r);
      }
    where
      agree : (i : ℕ) → has i ≡ had i
      agree i =
          ⊎_elim
          (λ (c : eqb i id ≡ true).
          subst (λ z. has z ≡ had z) (sym (eqb-true i id c))
          (has_here ∙ fallen_as (stream_at before id) t u bytes less ∙ no_fall (stream_at before id) t bytes here e
          ∙ sym had_here))
          (λ (c : eqb i id ≡ false). has_apart i c)
          (cases_Bool (eqb i id))

  -- it falls, and is added
  is_gathered : (g : FallenView) → falls_to_low_mark t bytes ≡ true
      → (g.refused ≡ false → g.ids ≡ f.ids ++ id ∷ [])
      → (g.refused ≡ false → f.refused ≡ false) → IsGathered before now g
  unfolding fallen
  is_gathered g e adds keeps =
      let more : fallen before now ≡ insert_key nat_cmp (fallen before m) id =
      added had has id has_apart (had_here ∙ not_fallen (stream_at before id) t bytes here e)
      (has_here ∙ fallen_as (stream_at before id) t u bytes less ∙ falls (stream_at before id) t bytes here e)
      before.by_id h.sorted
      (was_there (stream_at before id) t here) in
      record {
        sorted = h.sorted;
        released = released_here;
        whole = λ r.
            ap ascending (adds r) ∙ ascending_more [] f.ids id ∙ ap (λ z. insert_key nat_cmp z id) (h.whole (keeps r))
            ∙ sym more;
        some = λ r. subst (λ z. 0 < length z) (sym more) (insert_some id (fallen before m));
      }

pub gathers_nothing : (m : StreamMap) (f : FallenView) → Gathers m f m f
unfolding Gathers
gathers_nothing m f before h = h

module _ (m n k : StreamMap) (f g i : FallenView) where
  pub gathers_both : Gathers m f n g → Gathers n g k i → Gathers m f k i
  unfolding Gathers
  gathers_both x y before h = y before (x before h)

-- what was gathered since the streams were watched
pub gathered_since : (m n : StreamMap) (f g : FallenView) → IsGathered m m f → Gathers m f n g → IsGathered m n g
unfolding Gathers
gathered_since m n f g h x = x m h

-- In the order of the releases

-- nothing more was gathered
pub none_gathered : (f : FallenView) → AreGathered [] f f
none_gathered f = record { whole = λ r. (r, sym (append-nil f.ids)); some = λ r. inl r }

longer : (xs ys : List ℕ) → 0 < length xs → 0 < length (xs ++ ys)
longer [] ys l = absurd (omega (arith, l))
longer (x ∷ xs) ys l = omega arith

last : (xs ys : List ℕ) → 0 < length ys → 0 < length (xs ++ ys)
last [] ys l = l
last (x ∷ xs) ys l = omega arith

-- some streams were, and then others
pub gathered_behind : (xs ys : List ℕ) (f g i : FallenView) → AreGathered xs f g → AreGathered ys g i
    → AreGathered (xs ++ ys) f i
gathered_behind xs ys f g i x y = record {
  whole = λ r.
      let later = y.whole r in
      let first = x.whole later.0 in
      (first.0, later.1 ∙ ap (λ z. z ++ ys) first.1 ∙ append_assoc f.ids xs ys);
  some = λ r. ⊎_elim
      (λ s. ⊎_elim (λ t. inl t) (λ l. inr (longer xs ys l)) (x.some s))
      (λ l. inr (last xs ys l))
      (y.some r);
}

-- a release, and what is gathered of it where its stream falls to its low mark by it
module _ (m : StreamMap) (id generation bytes : ℕ) (f g : FallenView)
    (adds : falls_to_low_mark_in m id generation bytes ≡ true → g.refused ≡ false → g.ids ≡ f.ids ++ id ∷ [])
    (keeps : falls_to_low_mark_in m id generation bytes ≡ true → g.refused ≡ false → f.refused ≡ false)
    (stays : falls_to_low_mark_in m id generation bytes ≡ false → g ≡ f) where
  -- the stream is among those that have fallen
  pub gathers_release : Gathers m f (released_in m id generation bytes) g
  unfolding Gathers
  gathers_release before h = at (stream_at m id) refl
    where
      at : (o : Option StreamView) → stream_at m id ≡ o → IsGathered before (released_in m id generation bytes) g
      at None e = rw e (subst (IsGathered before m) (sym (stays (rw e refl))) h)
      at (Some t) e = of (eqb t.stats.generation generation) refl
        where
          falling : (b : Bool) → falls_to_low_mark t bytes ≡ b → eqb t.stats.generation generation ≡ true
              → IsGathered before (with_stream m id (released_from t bytes)) g
          falling true b c =
              is_gathered m id bytes t (released_from t bytes) e refl refl before f h g b (adds (rw (e, c, b) refl))
              (keeps (rw (e, c, b) refl))
          falling false b c =
              subst (IsGathered before (with_stream m id (released_from t bytes))) (sym (stays (rw (e, c, b) refl)))
              (stays_gathered m id bytes t (released_from t bytes) e refl refl before f h b)

          of : (b : Bool) → eqb t.stats.generation generation ≡ b
              → IsGathered before (released_in m id generation bytes) g
          of true c = rw (e, c) (falling (falls_to_low_mark t bytes) refl c)
          of false c = rw (e, c) (subst (IsGathered before m) (sym (stays (rw (e, c) refl))) h)

  -- and the last of them
  pub release_gathered : AreGathered (falls_in m id generation bytes) f g
  release_gathered = by (falls_to_low_mark_in m id generation bytes) refl
    where
      by : (b : Bool) → falls_to_low_mark_in m id generation bytes ≡ b
          → AreGathered (if b then id ∷ [] else []) f g
      by true e = record { whole = λ r. (keeps e r, adds e r); some = λ r. inr (omega arith) }
      by false e = subst (AreGathered [] f) (sym (stays e)) (none_gathered f)
