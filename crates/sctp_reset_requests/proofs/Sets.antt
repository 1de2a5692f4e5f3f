-- Sets of identifiers, as lists that ascend.
use Rattle.std.proofs.Common.{◌≡◌, refl, sym, ap, ◌∙◌, ℕ, suc, ◌==◌, Bool, true, false, ◌||◌, not, cond, List, []}
use Rattle.std.proofs.Common.{◌∷◌, fold, length, Ordering, Less, Equal, Greater, is_eq, nat_cmp, arith}
use Rattle.std.specs.Ordering.{match_ordering}
use Rattle.std.specs.BTreeMap.{is_at}
use Rattle.std.specs.BTreeSet.{insert_key}
use Rattle.std.specs.List.{AllByRecursion}
use Rattle.std.specs.List.Sorted.{IsStrictlySortedBy}
use Rattle.std.specs.Set.{remove_key}
use Rattle.std.proofs.lemmas.Bool.Decides.{nat_tests}
use Rattle.sctp_reset_requests.specs.Ids.{has_id, set_of, without}
use Rattle.sctp_reset_requests.specs.Laws.{NamesAreThoseListed}

pub found_same : (n k : ℕ) → is_eq (nat_cmp n k) ≡ true → n ≡ k
found_same n k e = grind (arith, nat_tests, e)

found_back : (n k : ℕ) → is_eq (nat_cmp n k) ≡ is_eq (nat_cmp k n)
found_back n k = grind (arith, nat_tests)

same_found : (n k : ℕ) → nat_cmp n k ≡ Equal → n ≡ k
same_found n k e = found_same n k (ap is_eq e)

above_apart : (n k : ℕ) → nat_cmp n k ≡ Less → is_eq (nat_cmp k n) ≡ false
above_apart n k e = found_back k n ∙ ap is_eq e

-- What an insertion has

swapped : (a b c : Bool) → (b || (a || c)) ≡ (a || (b || c))
swapped true true c = refl
swapped true false c = refl
swapped false true c = refl
swapped false false c = refl

twice : (a c : Bool) → (a || c) ≡ (a || (a || c))
twice true c = refl
twice false c = refl

has_inserted : (id k : ℕ) (ks : List ℕ) → has_id id (insert_key nat_cmp ks k) ≡ (is_eq (nat_cmp id k) || has_id id ks)
has_inserted id k [] = refl
has_inserted id k (x ∷ xs) = by (nat_cmp k x) refl (has_inserted id k xs)
  where
    by : (o : Ordering) → nat_cmp k x ≡ o
        → has_id id (insert_key nat_cmp xs k) ≡ (is_eq (nat_cmp id k) || has_id id xs)
        → has_id id (match_ordering o (k ∷ x ∷ xs) (x ∷ xs) (x ∷ insert_key nat_cmp xs k))
        ≡ (is_eq (nat_cmp id k) || (is_eq (nat_cmp id x) || has_id id xs))
    by Less e more = refl
    by Equal e more =
        twice (is_eq (nat_cmp id x)) (has_id id xs)
        ∙ ap (λ z. is_eq (nat_cmp id z) || (is_eq (nat_cmp id x) || has_id id xs)) (sym (same_found k x e))
    by Greater e more =
        ap (λ b. is_eq (nat_cmp id x) || b) more
        ∙ swapped (is_eq (nat_cmp id k)) (is_eq (nat_cmp id x)) (has_id id xs)

has_inserted_each : (id : ℕ) (ks ids : List ℕ)
    → has_id id (fold (insert_key nat_cmp) ks ids) ≡ (has_id id ids || has_id id ks)
has_inserted_each id ks [] = refl
has_inserted_each id ks (x ∷ xs) =
    has_inserted_each id (insert_key nat_cmp ks x) xs
    ∙ ap (λ b. has_id id xs || b) (has_inserted id x ks)
    ∙ regrouped (has_id id xs) (is_eq (nat_cmp id x)) (has_id id ks)
  where
    regrouped : (a b c : Bool) → (a || (b || c)) ≡ ((b || a) || c)
    regrouped true true c = refl
    regrouped true false c = refl
    regrouped false true c = refl
    regrouped false false c = refl

or_none : (b : Bool) → (b || false) ≡ b
or_none true = refl
or_none false = refl

has_listed : (id : ℕ) (ids : List ℕ) → has_id id (set_of ids) ≡ has_id id ids
has_listed id ids = has_inserted_each id [] ids ∙ or_none (has_id id ids)

-- An empty set

inserted_some : (k : ℕ) (ks : List ℕ) → (length (insert_key nat_cmp ks k) == 0) ≡ false
inserted_some k [] = refl
inserted_some k (x ∷ xs) = by (nat_cmp k x)
  where
    more : (n : ℕ) → (suc n == 0) ≡ false
    more n = grind (arith, nat_tests)

    by : (o : Ordering)
        → (length (match_ordering o (k ∷ x ∷ xs) (x ∷ xs) (x ∷ insert_key nat_cmp xs k)) == 0) ≡ false
    by Less = more (length (x ∷ xs))
    by Equal = more (length xs)
    by Greater = more (length (insert_key nat_cmp xs k))

stays_some : (ks ids : List ℕ) → (length ks == 0) ≡ false → (length (fold (insert_key nat_cmp) ks ids) == 0) ≡ false
stays_some ks [] some = some
stays_some ks (x ∷ xs) some = stays_some (insert_key nat_cmp ks x) xs (inserted_some x ks)

none_where_none : (ids : List ℕ) → (length (set_of ids) == 0) ≡ (length ids == 0)
none_where_none [] = refl
none_where_none (x ∷ xs) =
    stays_some (insert_key nat_cmp [] x) xs (inserted_some x []) ∙ sym (more (length xs))
  where
    more : (n : ℕ) → (suc n == 0) ≡ false
    more n = grind (arith, nat_tests)

pub those_listed : NamesAreThoseListed
those_listed p id =
    ap (λ b. b || has_id id (set_of p.stream_identifiers)) (none_where_none p.stream_identifiers)
    ∙ ap (λ b. (length p.stream_identifiers == 0) || b) (has_listed id p.stream_identifiers)

-- One identifier after another is taken out

-- those above an identifier are others
above_same : (k : ℕ) (rest xs : List ℕ) → AllByRecursion (λ y. nat_cmp k y ≡ Less) xs
    → without xs rest ≡ without xs (k ∷ rest)
above_same k rest [] a = refl
above_same k rest (y ∷ ys) (l, a) = rw (above_apart k y l) (ap (kept y) (above_same k rest ys a))
  where
    kept : ℕ → List ℕ → List ℕ
    kept y ys = cond (not (has_id y rest)) (y ∷ ys) ys

pub without_next : (k : ℕ) (rest ks : List ℕ) → IsStrictlySortedBy nat_cmp ks
    → without (remove_key (is_at (nat_cmp k)) ks) rest ≡ without ks (k ∷ rest)
unfolding IsStrictlySortedBy
without_next k rest [] s = refl
without_next k rest (x ∷ xs) (a, s) = by (is_eq (nat_cmp k x)) refl (without_next k rest xs s)
  where
    by : (b : Bool) → is_eq (nat_cmp k x) ≡ b
        → without (remove_key (is_at (nat_cmp k)) xs) rest ≡ without xs (k ∷ rest)
        → without (cond b xs (x ∷ remove_key (is_at (nat_cmp k)) xs)) rest ≡ without (x ∷ xs) (k ∷ rest)
    by true e more = rw (found_back x k ∙ e) (above_same k rest xs (above (found_same k x e)))
      where
        above : k ≡ x → AllByRecursion (λ y. nat_cmp k y ≡ Less) xs
        above same = rw same a
    by false e more =
        rw (found_back x k ∙ e) (ap (λ ys. cond (not (has_id x rest)) (x ∷ ys) ys) more)

pub without_none : (ks : List ℕ) → without ks [] ≡ ks
without_none [] = refl
without_none (x ∷ xs) = ap (λ ys. x ∷ ys) (without_none xs)
