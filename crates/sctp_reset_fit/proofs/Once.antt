-- Entries of which an identifier has at most one, once one is set, put in or taken out.
use Rattle.std.proofs.Common.{◌≡◌, refl, sym, ap, ◌∙◌, subst, ℕ, ◌+◌, ◌≤◌, Bool, true, false, eqb, cond}
use Rattle.std.proofs.Common.{if◌then◌else◌, List, [], ◌∷◌, Some, None, is_some, arith, ⊎_elim}
use Rattle.std.proofs.Common.{Ordering, Less, Equal, Greater, is_eq, nat_cmp}
use Rattle.std.specs.Ordering.{match_ordering}
use Rattle.std.specs.BTreeMap.{insert_entry, is_at}
use Rattle.std.specs.Map.{keys_of, lookup, remove_entry, set_value}
use Rattle.std.proofs.lemmas.Bool.{cases_Bool, true≢false, eqb-true, eq-eqb}
use Rattle.std.proofs.lemmas.Map.{keys-set_value}
use Rattle.sctp_streams.proofs.LowMarks.{found_as}
use Rattle.sctp_courses.specs.Course.{times}
use Rattle.sctp_reset_fit.specs.Stands.{IsOnce}

-- one of a number, or none
abbrev one_if : Bool → ℕ
one_if b = if b then 1 else 0

pub apart_too : (a b : ℕ) → eqb a b ≡ false → eqb b a ≡ false
apart_too a b f =
    ⊎_elim (λ (s : eqb b a ≡ true). absurd (true≢false (sym (eq-eqb a b (sym (eqb-true b a s))) ∙ f)))
    (λ (s : eqb b a ≡ false). s) (cases_Bool (eqb b a))

same_too : (a b : ℕ) → eqb a b ≡ true → eqb b a ≡ true
same_too a b f = eq-eqb b a (sym (eqb-true a b f))

module _ {V : Type 0} (id : ℕ) where
  -- how often an identifier stands in front of some entries, by whether the first is its
  front_times : (b : Bool) (x : ℕ × V) (es : List (ℕ × V)) → eqb id x.0 ≡ b
      → times id (keys_of (x ∷ es)) ≡ one_if b + times id (keys_of es)
  front_times true x es e = rw (same_too id x.0 e) refl
  front_times false x es e = rw (apart_too id x.0 e) refl

  front_found : (b : Bool) (x : ℕ × V) (es : List (ℕ × V)) → eqb id x.0 ≡ b
      → lookup (is_at (nat_cmp id)) (x ∷ es) ≡ cond b (Some x.1) (lookup (is_at (nat_cmp id)) es)
  front_found b x es e = rw (found_as id x.0, e) refl

  front_removed : (b : Bool) (x : ℕ × V) (es : List (ℕ × V)) → eqb id x.0 ≡ b
      → remove_entry (is_at (nat_cmp id)) (x ∷ es) ≡ cond b es (x ∷ remove_entry (is_at (nat_cmp id)) es)
  front_removed b x es e = rw (found_as id x.0, e) refl

  pub none_found : (es : List (ℕ × V)) → times id (keys_of es) ≡ 0 → lookup (is_at (nat_cmp id)) es ≡ None
  none_found [] e = refl
  none_found (x ∷ es) e = by (eqb id x.0) refl (λ f. none_found es f)
    where
      by : (b : Bool) → eqb id x.0 ≡ b
          → (times id (keys_of es) ≡ 0 → lookup (is_at (nat_cmp id)) es ≡ None)
          → lookup (is_at (nat_cmp id)) (x ∷ es) ≡ None
      by true same rest = absurd (let f = front_times true x es same in omega arith)
      by false other rest =
          front_found false x es other ∙ rest (let f = front_times false x es other in omega arith)

  pub found_none : (es : List (ℕ × V)) → lookup (is_at (nat_cmp id)) es ≡ None → times id (keys_of es) ≡ 0
  found_none [] e = refl
  found_none (x ∷ es) e = by (eqb id x.0) refl (λ f. found_none es f)
    where
      by : (b : Bool) → eqb id x.0 ≡ b
          → (lookup (is_at (nat_cmp id)) es ≡ None → times id (keys_of es) ≡ 0)
          → times id (keys_of (x ∷ es)) ≡ 0
      by true same rest = absurd (true≢false (ap is_some (sym (front_found true x es same) ∙ e)))
      by false other rest =
          let f = front_times false x es other in
          let g = rest (sym (front_found false x es other) ∙ e) in omega arith

  -- what was taken out is not found any more
  pub removed_none : (es : List (ℕ × V)) → IsOnce id es
      → lookup (is_at (nat_cmp id)) (remove_entry (is_at (nat_cmp id)) es) ≡ None
  removed_none [] e = refl
  removed_none (x ∷ es) e = by (eqb id x.0) refl (λ f. removed_none es f)
    where
      by : (b : Bool) → eqb id x.0 ≡ b
          → (IsOnce id es → lookup (is_at (nat_cmp id)) (remove_entry (is_at (nat_cmp id)) es) ≡ None)
          → lookup (is_at (nat_cmp id)) (remove_entry (is_at (nat_cmp id)) (x ∷ es)) ≡ None
      by true same rest =
          ap (lookup (is_at (nat_cmp id))) (front_removed true x es same)
          ∙ none_found es (let f = front_times true x es same in omega arith)
      by false other rest =
          ap (lookup (is_at (nat_cmp id))) (front_removed false x es other)
          ∙ front_found false x (remove_entry (is_at (nat_cmp id)) es) other
          ∙ rest (let f = front_times false x es other in omega arith)

  pub removed_once : (test : ℕ → Bool) (es : List (ℕ × V)) → IsOnce id es → IsOnce id (remove_entry test es)
  removed_once test es once = let l = fewer es in omega arith
    where
      fewer : (xs : List (ℕ × V)) → times id (keys_of (remove_entry test xs)) ≤ times id (keys_of xs)
      fewer [] = omega arith
      fewer (x ∷ xs) = by (test x.0) (fewer xs)
        where
          by : (b : Bool) → times id (keys_of (remove_entry test xs)) ≤ times id (keys_of xs)
              → times id (keys_of (cond b xs (x ∷ remove_entry test xs))) ≤ times id (keys_of (x ∷ xs))
          by true l = omega arith
          by false l = omega arith

  pub set_once : (test : ℕ → Bool) (v : V) (es : List (ℕ × V)) → IsOnce id es → IsOnce id (set_value test es v)
  set_once test v es once = subst (λ ks. times id ks ≤ 1) (sym (keys-set_value test es v)) once

  pub inserted_once : (k : ℕ) (v : V) (es : List (ℕ × V)) → IsOnce id es
      → (id ≡ k → lookup (is_at (nat_cmp id)) es ≡ None) → IsOnce id (insert_entry nat_cmp es k v)
  inserted_once k v es once gone =
      ⊎_elim
      (λ (s : eqb id k ≡ true).
      let none = found_none es (gone (eqb-true id k s)) in let l = more es in
      let o : one_if (eqb k id) ≤ 1 = few (eqb k id) in omega arith)
      (λ (s : eqb id k ≡ false).
      let l = more es in
      let o : one_if (eqb k id) ≡ 0 = ap one_if (apart_too id k s) in omega arith) (cases_Bool (eqb id k))
    where
      few : (b : Bool) → one_if b ≤ 1
      few true = omega arith
      few false = omega arith

      more : (xs : List (ℕ × V))
          → times id (keys_of (insert_entry nat_cmp xs k v)) ≤ one_if (eqb k id) + times id (keys_of xs)
      more [] = omega arith
      more (x ∷ xs) = by (nat_cmp k x.0) (more xs)
        where
          by : (o : Ordering)
              → times id (keys_of (insert_entry nat_cmp xs k v)) ≤ one_if (eqb k id) + times id (keys_of xs)
              → times id (keys_of (match_ordering o ((k, v) ∷ x ∷ xs) ((x.0, v) ∷ xs)
              (x ∷ insert_entry nat_cmp xs k v))) ≤ one_if (eqb k id) + times id (keys_of (x ∷ xs))
          by Less l = omega arith
          by Equal l = omega arith
          by Greater l = omega arith

  -- what was put in where nothing was is found
  pub inserted_there : (v : V) (es : List (ℕ × V)) → lookup (is_at (nat_cmp id)) es ≡ None
      → lookup (is_at (nat_cmp id)) (insert_entry nat_cmp es id v) ≡ Some v
  inserted_there v [] e = rw (found_as id id, eq-eqb id id refl) refl
  inserted_there v (x ∷ es) e = by (eqb id x.0) refl (λ f. inserted_there v es f)
    where
      here : (rest : List (ℕ × V)) → lookup (is_at (nat_cmp id)) ((id, v) ∷ rest) ≡ Some v
      here rest = rw (found_as id id, eq-eqb id id refl) refl

      put : (o : Ordering) → nat_cmp id x.0 ≡ o → eqb id x.0 ≡ false
          → lookup (is_at (nat_cmp id)) (insert_entry nat_cmp es id v) ≡ Some v
          → lookup (is_at (nat_cmp id)) (match_ordering o ((id, v) ∷ x ∷ es) ((x.0, v) ∷ es)
          (x ∷ insert_entry nat_cmp es id v)) ≡ Some v
      put Less is f rest = here (x ∷ es)
      put Equal is f rest = absurd (true≢false (sym (ap is_eq is) ∙ found_as id x.0 ∙ f))
      put Greater is f rest = front_found false x (insert_entry nat_cmp es id v) f ∙ rest

      by : (b : Bool) → eqb id x.0 ≡ b
          → (lookup (is_at (nat_cmp id)) es ≡ None
          → lookup (is_at (nat_cmp id)) (insert_entry nat_cmp es id v) ≡ Some v)
          → lookup (is_at (nat_cmp id)) (insert_entry nat_cmp (x ∷ es) id v) ≡ Some v
      by true f rest = absurd (true≢false (ap is_some (sym (front_found true x es f) ∙ e)))
      by false f rest = put (nat_cmp id x.0) refl f (rest (sym (front_found false x es f) ∙ e))

  -- each other identifier is found as before
  pub inserted_apart : (k : ℕ) (v : V) (es : List (ℕ × V)) → eqb id k ≡ false
      → lookup (is_at (nat_cmp id)) (insert_entry nat_cmp es k v) ≡ lookup (is_at (nat_cmp id)) es
  inserted_apart k v [] apart = front_found false (k, v) [] apart
  inserted_apart k v (x ∷ es) apart = by (nat_cmp k x.0) refl (inserted_apart k v es apart)
    where
      at_once : nat_cmp k x.0 ≡ Equal → eqb id x.0 ≡ false
      at_once e =
          let same : k ≡ x.0 = eqb-true k x.0 (sym (found_as k x.0) ∙ ap is_eq e) in
          subst (λ y. eqb id y ≡ false) same apart

      by : (o : Ordering) → nat_cmp k x.0 ≡ o
          → lookup (is_at (nat_cmp id)) (insert_entry nat_cmp es k v) ≡ lookup (is_at (nat_cmp id)) es
          → lookup (is_at (nat_cmp id)) (match_ordering o ((k, v) ∷ x ∷ es) ((x.0, v) ∷ es)
          (x ∷ insert_entry nat_cmp es k v)) ≡ lookup (is_at (nat_cmp id)) (x ∷ es)
      by Less e rest = front_found false (k, v) (x ∷ es) apart
      by Equal e rest = front_found false (x.0, v) es (at_once e) ∙ sym (front_found false x es (at_once e))
      by Greater e rest = ap (cond (is_eq (nat_cmp id x.0)) (Some x.1)) rest
