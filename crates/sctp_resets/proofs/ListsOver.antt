-- What holds of each item of a list holds of each of what is made of the list.
use Rattle.std.proofs.Common.{◌≡◌, ℕ, zero, suc, ◌<◌, ◌==◌, Bool, true, false, cond, arith}
use Rattle.std.proofs.Common.{List, [], ◌∷◌, ◌++◌, length, map, filter, fold, take, drop, insert}
use Rattle.std.proofs.Common.{Ordering, Less, Equal, Greater, nat_cmp}
use Rattle.std.specs.List.{AllByRecursion}
use Rattle.std.specs.Ordering.{match_ordering}
use Rattle.std.specs.BTreeMap.{insert_entry}
use Rattle.std.specs.BTreeSet.{insert_key}
use Rattle.std.specs.Map.{remove_entry, set_value}
use Rattle.std.proofs.lemmas.Bool.Decides.{nat_tests}

-- a stream is past its span
abbrev pub IsPast : (ℕ → Bool) → ℕ → Type 0
IsPast over id = over id ≡ true

-- what holds of two holds of the one that is chosen
pub of_chosen : {A : Type 0} (P : A → Type 0) (b : Bool) (x y : A) → P x → P y → P (cond b x y)
of_chosen P true x y first second = first
of_chosen P false x y first second = second

-- a test for none says whether there are some
pub some_where : (n : ℕ) → (n == 0) ≡ false → 0 < n
some_where n e = grind (arith, nat_tests, e)

pub not_none_where : (n : ℕ) → 0 < n → (n == 0) ≡ false
not_none_where n some = grind (arith, nat_tests, some)

-- Lists that are joined, and parts of lists.
module _ {X : Type 0} (P : X → Type 0) where
  pub all_appended : (xs ys : List X) → AllByRecursion P xs → AllByRecursion P ys → AllByRecursion P (xs ++ ys)
  all_appended [] ys first second = second
  all_appended (x ∷ xs) ys first second = (first.0, all_appended xs ys first.1 second)

  pub all_filtered : (test : X → Bool) (xs : List X) → AllByRecursion P xs → AllByRecursion P (filter test xs)
  all_filtered test [] each = tt
  all_filtered test (x ∷ xs) each =
      of_chosen (AllByRecursion P) (test x) (x ∷ filter test xs) (filter test xs)
      (each.0, all_filtered test xs each.1) (all_filtered test xs each.1)

  pub all_taken : (n : ℕ) (xs : List X) → AllByRecursion P xs → AllByRecursion P (take n xs)
  all_taken zero xs each = tt
  all_taken (suc n) [] each = tt
  all_taken (suc n) (x ∷ xs) each = (each.0, all_taken n xs each.1)

  pub all_dropped : (n : ℕ) (xs : List X) → AllByRecursion P xs → AllByRecursion P (drop n xs)
  all_dropped zero xs each = each
  all_dropped (suc n) [] each = tt
  all_dropped (suc n) (x ∷ xs) each = all_dropped n xs each.1

  pub all_inserted : (xs : List X) (place : ℕ) (x : X) → AllByRecursion P xs → P x
      → AllByRecursion P (insert xs place x)
  all_inserted xs place x each one =
      all_appended (take place xs) (x ∷ drop place xs) (all_taken place xs each) (one, all_dropped place xs each)

-- What holds of each image of a list's items.
module _ {X Y : Type 0} (P : Y → Type 0) (f : X → Y) where
  pub of_images : (xs : List X) → AllByRecursion P (map f xs) → AllByRecursion (λ x. P (f x)) xs
  of_images [] each = tt
  of_images (x ∷ xs) each = (each.0, of_images xs each.1)

  pub to_images : (xs : List X) → AllByRecursion (λ x. P (f x)) xs → AllByRecursion P (map f xs)
  to_images [] each = tt
  to_images (x ∷ xs) each = (each.0, to_images xs each.1)

-- Sets of numbers, and one number or several put into them.
module _ (P : ℕ → Type 0) where
  pub all_with_key : (ks : List ℕ) (k : ℕ) → AllByRecursion P ks → P k → AllByRecursion P (insert_key nat_cmp ks k)
  all_with_key [] k each one = (one, tt)
  all_with_key (x ∷ xs) k each one = by (nat_cmp k x) (all_with_key xs k each.1 one)
    where
      by : (o : Ordering) → AllByRecursion P (insert_key nat_cmp xs k)
          → AllByRecursion P (match_ordering o (k ∷ x ∷ xs) (x ∷ xs) (x ∷ insert_key nat_cmp xs k))
      by Less others = (one, each)
      by Equal others = each
      by Greater others = (each.0, others)

  pub all_with_keys : (ks added : List ℕ) → AllByRecursion P ks → AllByRecursion P added
      → AllByRecursion P (fold (insert_key nat_cmp) ks added)
  all_with_keys ks [] each others = each
  all_with_keys ks (x ∷ xs) each others =
      all_with_keys (insert_key nat_cmp ks x) xs (all_with_key ks x each others.0) others.1

-- a set that another number is put into has some
pub some_with_key : (ks : List ℕ) (k : ℕ) → 0 < length (insert_key nat_cmp ks k)
some_with_key [] k = omega arith
some_with_key (x ∷ xs) k = by (nat_cmp k x)
  where
    by : (o : Ordering) → 0 < length (match_ordering o (k ∷ x ∷ xs) (x ∷ xs) (x ∷ insert_key nat_cmp xs k))
    by Less = omega arith
    by Equal = omega arith
    by Greater = omega arith

pub some_with_keys : (ks added : List ℕ) → 0 < length ks → 0 < length (fold (insert_key nat_cmp) ks added)
some_with_keys ks [] some = some
some_with_keys ks (x ∷ xs) some = some_with_keys (insert_key nat_cmp ks x) xs (some_with_key ks x)

-- The keys of a map.
module _ {X : Type 0} (P : ℕ → Type 0) where
  abbrev EachKey : List (ℕ × X) → Type 0
  EachKey es = AllByRecursion (λ (e : ℕ × X). P e.0) es

  pub keys_without : (test : ℕ → Bool) (es : List (ℕ × X)) → EachKey es → EachKey (remove_entry test es)
  keys_without test [] each = tt
  keys_without test (e ∷ es) each =
      of_chosen EachKey (test e.0) es (e ∷ remove_entry test es) each.1 (each.0, keys_without test es each.1)

  pub keys_with_value : (test : ℕ → Bool) (es : List (ℕ × X)) (w : X) → EachKey es → EachKey (set_value test es w)
  keys_with_value test [] w each = tt
  keys_with_value test (e ∷ es) w each =
      of_chosen EachKey (test e.0) ((e.0, w) ∷ es) (e ∷ set_value test es w) each
      (each.0, keys_with_value test es w each.1)

  pub keys_with_entry : (es : List (ℕ × X)) (k : ℕ) (w : X) → EachKey es → P k
      → EachKey (insert_entry nat_cmp es k w)
  keys_with_entry [] k w each one = (one, tt)
  keys_with_entry (e ∷ es) k w each one = by (nat_cmp k e.0) (keys_with_entry es k w each.1 one)
    where
      by : (o : Ordering) → EachKey (insert_entry nat_cmp es k w)
          → EachKey (match_ordering o ((k, w) ∷ e ∷ es) ((e.0, w) ∷ es) (e ∷ insert_entry nat_cmp es k w))
      by Less others = (one, each)
      by Equal others = each
      by Greater others = (each.0, others)
