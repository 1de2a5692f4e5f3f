-- Maps whose keys ascend, and what keeps them so.
use Rattle.std.proofs.Common.{◌≡◌, refl, subst, ℕ, ◌<◌, arith, Bool, List, [], ◌∷◌, map}
use Rattle.std.proofs.Common.{Ordering, Less, Equal, Greater, nat_cmp}
use Rattle.std.specs.Prelude.{⊤}
use Rattle.std.specs.List.{AllByRecursion}
use Rattle.std.specs.Ordering.{match_ordering}
use Rattle.std.specs.BTreeMap.{insert_entry}
use Rattle.std.specs.Map.{remove_entry, set_value}
use Rattle.std.proofs.lemmas.Cmp.{ranked}
use Rattle.sctp_model.proofs.Lists.{all_weaker}
use Rattle.sctp_resets.proofs.ListsOver.{keys_with_entry, keys_with_value, keys_without, of_chosen}
use Rattle.sctp_sides.specs.Ascending.{IsAscending}

-- Maps of numbers to whatever.
module _ {X : Type 0} where
  -- all keys are above a number
  abbrev pub AreAbove : ℕ → List (ℕ × X) → Type 0
  AreAbove n es = AllByRecursion (λ (e : ℕ × X). n < e.0) es

  -- each key is below all that follow
  abbrev pub Rises : List (ℕ × X) → Type 0
  Rises [] = ⊤
  Rises (e ∷ es) = AreAbove e.0 es × Rises es

  above_more : (n m : ℕ) (es : List (ℕ × X)) → n < m → AreAbove m es → AreAbove n es
  above_more n m es less above =
      all_weaker (λ (e : ℕ × X). m < e.0) (λ (e : ℕ × X). n < e.0) es
      (λ e (more : m < e.0). omega (arith, less, more)) above

  -- each key is less than the next, which is the same
  pub rises_ascending : (es : List (ℕ × X)) → Rises es → IsAscending (map (λ e. e.0) es)
  rises_ascending [] h = tt
  rises_ascending (e ∷ []) h = tt
  rises_ascending (e ∷ f ∷ es) h = (h.0.0, rises_ascending (f ∷ es) h.1)

  pub ascending_rises : (es : List (ℕ × X)) → IsAscending (map (λ e. e.0) es) → Rises es
  ascending_rises [] h = tt
  ascending_rises (e ∷ []) h = (tt, tt)
  ascending_rises (e ∷ f ∷ es) h =
      let on : Rises (f ∷ es) = ascending_rises (f ∷ es) h.1 in
      ((h.0, above_more e.0 f.0 es h.0 on.0), on)

  -- a value is set, an entry is taken out or put in

  pub rises_with_value : (test : ℕ → Bool) (es : List (ℕ × X)) (w : X) → Rises es → Rises (set_value test es w)
  rises_with_value test [] w h = tt
  rises_with_value test (e ∷ es) w h =
      of_chosen Rises (test e.0) ((e.0, w) ∷ es) (e ∷ set_value test es w) h
      (keys_with_value (λ (k : ℕ). e.0 < k) test es w h.0, rises_with_value test es w h.1)

  pub rises_without : (test : ℕ → Bool) (es : List (ℕ × X)) → Rises es → Rises (remove_entry test es)
  rises_without test [] h = tt
  rises_without test (e ∷ es) h =
      of_chosen Rises (test e.0) es (e ∷ remove_entry test es) h.1
      (keys_without (λ (k : ℕ). e.0 < k) test es h.0, rises_without test es h.1)

  pub rises_with_entry : (es : List (ℕ × X)) (k : ℕ) (w : X) → Rises es → Rises (insert_entry nat_cmp es k w)
  rises_with_entry [] k w h = (tt, tt)
  rises_with_entry (e ∷ es) k w h = by (nat_cmp k e.0) refl (rises_with_entry es k w h.1)
    where
      by : (o : Ordering) → o ≡ nat_cmp k e.0 → Rises (insert_entry nat_cmp es k w)
          → Rises (match_ordering o ((k, w) ∷ e ∷ es) ((e.0, w) ∷ es) (e ∷ insert_entry nat_cmp es k w))
      by Less from on = ((ranked k e.0 Less from, above_more k e.0 es (ranked k e.0 Less from) h.0), h)
      by Equal from on = h
      by Greater from on = (keys_with_entry (λ (n : ℕ). e.0 < n) es k w h.0 (ranked k e.0 Greater from), on)

-- What holds of each entry of a map, the key and the value.
module _ {X : Type 0} (P : ℕ × X → Type 0) where
  pub entries_without : (test : ℕ → Bool) (es : List (ℕ × X)) → AllByRecursion P es
      → AllByRecursion P (remove_entry test es)
  entries_without test [] each = tt
  entries_without test (e ∷ es) each =
      of_chosen (AllByRecursion P) (test e.0) es (e ∷ remove_entry test es) each.1
      (each.0, entries_without test es each.1)

  pub entries_with_entry : (es : List (ℕ × X)) (k : ℕ) (w : X) → AllByRecursion P es → P (k, w)
      → AllByRecursion P (insert_entry nat_cmp es k w)
  entries_with_entry [] k w each one = (one, tt)
  entries_with_entry (e ∷ es) k w each one = by (nat_cmp k e.0) refl (entries_with_entry es k w each.1 one)
    where
      by : (o : Ordering) → o ≡ nat_cmp k e.0 → AllByRecursion P (insert_entry nat_cmp es k w)
          → AllByRecursion P (match_ordering o ((k, w) ∷ e ∷ es) ((e.0, w) ∷ es) (e ∷ insert_entry nat_cmp es k w))
      by Less from on = (one, each)
      by Equal from on = (subst (λ (n : ℕ). P (n, w)) (ranked k e.0 Equal from) one, each.1)
      by Greater from on = (each.0, on)
