-- The streams of which DATA waits that is past their newest boundary, as generations end.
use Rattle.std.proofs.Common.{◌≡◌, refl, sym, ap, ◌∙◌, subst, ℕ, ◌-◌, Bool, true, false, ◌==◌, ◌&&◌, ◌||◌, not, cond}
use Rattle.std.proofs.Common.{if◌then◌else◌, List, [], ◌∷◌, ◌++◌, length, Option, Some, None, is_some, arith}
use Rattle.std.proofs.Common.{Ordering, Less, Equal, Greater, is_eq, nat_cmp}
use Rattle.std.specs.Ordering.{match_ordering}
use Rattle.std.specs.BTreeMap.{is_at, insert_entry}
use Rattle.std.specs.BTreeSet.{BTreeSet, UpdatesBy}
use Rattle.std.specs.Map.{lookup}
use Rattle.std.proofs.lemmas.Bool.{false≢true, cond-true, cond-false}
use Rattle.std.proofs.lemmas.Bool.Decides.{nat_tests}
use Rattle.std.proofs.lemmas.Cmp.{eq_by_cmp_equiv, nat_cmp_total}
use Rattle.std.proofs.lemmas.List.{get_or_push, length_push}
use Rattle.std.proofs.lemmas.Map.{lookup-set_value}
use Rattle.std.proofs.lemmas.Option.{slice_get_read}
use Rattle.sctp_serial.specs.Serial.{tsn_lte}
use Rattle.sctp_wire_types.specs.declared.chunk.ChunkPayloadData.{ChunkPayloadData}
use Rattle.sctp_generations.specs.declared.retirement.Retirement.{Retirement}
use Rattle.sctp_generations.specs.declared.retirement.Retirement.TheVariants as retirements
use Rattle.sctp_generations.specs.Deferred.{has_between}
use Rattle.sctp_generations.specs.Generations.{GenerationsView, retired, retired_by, retirement_of, retires}
use Rattle.sctp_generations.specs.Later.{AreWithLater, has_later}
use Rattle.sctp_generations.specs.Retiring.{RetiringMap, boundaries_at, last_of, newest_boundary, retired_at}
use Rattle.sctp_generations.specs.Retiring.{retired_with}

-- Identifiers

same_identifier : (n k : ℕ) → is_eq (nat_cmp n k) ≡ true → n ≡ k
same_identifier n k e = grind (arith, nat_tests, e)

same_as_itself : (n : ℕ) → is_eq (nat_cmp n n) ≡ true
same_as_itself n = grind (arith, nat_tests)

apart_too : (n k : ℕ) → is_eq (nat_cmp n k) ≡ false → is_eq (nat_cmp k n) ≡ false
apart_too n k e = grind (arith, nat_tests, e)

-- DATA between boundaries

-- none is past a boundary that is not there
pub none_without_boundary : (id upto : ℕ) (ds : List ChunkPayloadData) → has_between id None upto ds ≡ false
none_without_boundary id upto [] = refl
none_without_boundary id upto (d ∷ ds) = by (d.stream_identifier == id) (none_without_boundary id upto ds)
  where
    by : (b : Bool) → has_between id None upto ds ≡ false
        → ((b && false && tsn_lte d.tsn upto) || has_between id None upto ds) ≡ false
    by true none = none
    by false none = none

-- none is past a boundary and not past it
none_past_itself : (id boundary : ℕ) (ds : List ChunkPayloadData) → has_between id (Some boundary) boundary ds ≡ false
none_past_itself id boundary [] = refl
none_past_itself id boundary (d ∷ ds) =
    by (d.stream_identifier == id) (tsn_lte d.tsn boundary) (none_past_itself id boundary ds)
  where
    by : (b t : Bool) → has_between id (Some boundary) boundary ds ≡ false
        → ((b && not t && t) || has_between id (Some boundary) boundary ds) ≡ false
    by true true none = none
    by true false none = none
    by false t none = none

-- The newest generation of a stream ends

-- an entry is put into a map
inserted : (q id : ℕ) (v : List ℕ) (es : RetiringMap)
    → lookup (is_at (nat_cmp q)) (insert_entry nat_cmp es id v)
    ≡ cond (is_eq (nat_cmp q id)) (Some v) (lookup (is_at (nat_cmp q)) es)
inserted q id v [] = refl
inserted q id v (e ∷ es) = by (nat_cmp id e.0) refl (inserted q id v es)
  where
    found : Option (List ℕ)
    found = lookup (is_at (nat_cmp q)) es

    by : (o : Ordering) → nat_cmp id e.0 ≡ o
        → lookup (is_at (nat_cmp q)) (insert_entry nat_cmp es id v) ≡ cond (is_eq (nat_cmp q id)) (Some v) found
        → lookup (is_at (nat_cmp q))
        (match_ordering o ((id, v) ∷ e ∷ es) ((e.0, v) ∷ es) (e ∷ insert_entry nat_cmp es id v))
        ≡ cond (is_eq (nat_cmp q id)) (Some v) (cond (is_eq (nat_cmp q e.0)) (Some e.1) found)
    by Less o more = refl
    by Equal o more =
        subst
        (λ z. cond (is_eq (nat_cmp q e.0)) (Some v) found
        ≡ cond (is_eq (nat_cmp q z)) (Some v) (cond (is_eq (nat_cmp q e.0)) (Some e.1) found))
        (sym (same_identifier id e.0 (ap is_eq o))) (once (is_eq (nat_cmp q e.0)))
      where
        once : (b : Bool) → cond b (Some v) found ≡ cond b (Some v) (cond b (Some e.1) found)
        once true = refl
        once false = refl
    by Greater o more =
        ap (cond (is_eq (nat_cmp q e.0)) (Some e.1)) more
        ∙ either (is_eq (nat_cmp q e.0)) (is_eq (nat_cmp q id)) refl refl
      where
        either : (a b : Bool) → is_eq (nat_cmp q e.0) ≡ a → is_eq (nat_cmp q id) ≡ b
            → cond a (Some e.1) (cond b (Some v) found) ≡ cond b (Some v) (cond a (Some e.1) found)
        either true true here there =
            let same : id ≡ e.0 = sym (same_identifier q id there) ∙ same_identifier q e.0 here in
            let both : is_eq (nat_cmp id e.0) ≡ true = ap (λ z. is_eq (nat_cmp z e.0)) same ∙ same_as_itself e.0 in
            absurd (false≢true (sym (ap is_eq o) ∙ both))
        either true false here there = refl
        either false true here there = refl
        either false false here there = refl

-- the last of more boundaries
last_of_more : (bs : List ℕ) (boundary : ℕ) → last_of (Some (bs ++ boundary ∷ [])) ≡ Some boundary
last_of_more bs boundary =
    let more = length_push bs boundary in
    slice_get_read (bs ++ boundary ∷ []) (length (bs ++ boundary ∷ [])) (length (bs ++ boundary ∷ []) - 1) boundary refl
    (omega arith) (sym (get_or_push bs boundary boundary (length (bs ++ boundary ∷ []) - 1) (omega arith)))

module _ (m : RetiringMap) (id boundary : ℕ) where
  -- boundaries are set
  set_at : (q : ℕ) (bs : List ℕ) → boundaries_at m id ≡ Some bs
      → boundaries_at (retired_with m id boundary) q
      ≡ cond (is_eq (nat_cmp id q)) (Some (bs ++ boundary ∷ [])) (boundaries_at m q)
  set_at q bs there =
      ap (λ o. boundaries_at (retired_at o m id boundary) q) there
      ∙ lookup-set_value (eq_by_cmp_equiv nat_cmp_total) (is_at (nat_cmp id))
      ((eq_by_cmp_equiv nat_cmp_total).congr id) q (bs ++ boundary ∷ []) m (ap is_some there)

  -- those of the stream end with the new one
  newest_then : newest_boundary (retired_with m id boundary) id ≡ Some boundary
  newest_then = by (boundaries_at m id) refl
    where
      by : (o : Option (List ℕ)) → boundaries_at m id ≡ o
          → newest_boundary (retired_with m id boundary) id ≡ Some boundary
      by None gone =
          ap (λ o. newest_boundary (retired_at o m id boundary) id) gone
          ∙ ap last_of (inserted id id (boundary ∷ []) m ∙ cond-true _ _ _ (same_as_itself id))
      by (Some bs) there =
          ap last_of (set_at id bs there ∙ cond-true _ _ _ (same_as_itself id)) ∙ last_of_more bs boundary

  -- those of another stay
  others_then : (q : ℕ) → is_eq (nat_cmp id q) ≡ false
      → boundaries_at (retired_with m id boundary) q ≡ boundaries_at m q
  others_then q apart = by (boundaries_at m id) refl
    where
      by : (o : Option (List ℕ)) → boundaries_at m id ≡ o
          → boundaries_at (retired_with m id boundary) q ≡ boundaries_at m q
      by None gone =
          ap (λ o. boundaries_at (retired_at o m id boundary) q) gone
          ∙ inserted q id (boundary ∷ []) m ∙ cond-false _ _ _ (apart_too id q apart)
      by (Some bs) there = set_at q bs there ∙ cond-false _ _ _ apart

-- A generation ended, or none did: no DATA of that stream is past its newest boundary and at or below this one any
-- more, and of the others as much as before.
module _ (g : GenerationsView) (id boundary : ℕ) where
  abbrev counts : GenerationsView → ℕ → Bool
  counts after q = has_later after.retiring boundary after.deferred q

  retires_then : counts (retired_by retirements.Retires g id boundary) id ≡ false
  retires_then =
      ap (λ o. has_between id o boundary g.deferred) (newest_then g.retiring id boundary)
      ∙ none_past_itself id boundary g.deferred

  none_retired : (o : Option (List ℕ)) → boundaries_at g.retiring id ≡ o → is_some o ≡ false → counts g id ≡ false
  none_retired None gone is =
      ap (λ o. has_between id (last_of o) boundary g.deferred) gone ∙ none_without_boundary id boundary g.deferred
  none_retired (Some bs) there is = absurd (false≢true (sym is))

  own_after : (is_drained retiring later : Bool) → retires g id ≡ retiring → counts g id ≡ later
      → counts (retired_by (
      if retiring then (if later then retirements.Retires else retirements.Unchanged)
      else if is_drained then retirements.Ended else retirements.Retires) g id boundary) id ≡ false
  own_after is_drained true true is has = retires_then
  own_after is_drained true false is has = has
  own_after true false later is has = none_retired (boundaries_at g.retiring id) refl is
  own_after false false later is has = retires_then

  others_after : (w : Retirement) (q : ℕ) → is_eq (nat_cmp id q) ≡ false
      → counts (retired_by w g id boundary) q ≡ counts g q
  others_after retirements.Ended q apart = refl
  others_after retirements.Unchanged q apart = refl
  others_after retirements.Retires q apart =
      ap (λ o. has_between q (last_of o) boundary g.deferred) (others_then g.retiring id boundary q apart)

  known_after : (is_drained : Bool) (q : ℕ)
      → counts (retired g id boundary is_drained) q ≡ cond (is_eq (nat_cmp id q)) false (counts g q)
  known_after is_drained q = by (is_eq (nat_cmp id q)) refl
    where
      after : GenerationsView
      after = retired g id boundary is_drained

      by : (b : Bool) → is_eq (nat_cmp id q) ≡ b → counts after q ≡ cond b false (counts g q)
      by true same =
          subst (λ z. counts after z ≡ false) (same_identifier id q same)
          (own_after is_drained (retires g id) (counts g id) refl refl)
      by false apart = others_after (retirement_of g id boundary is_drained) q apart

  -- so a set of the streams that have such DATA stays right without that stream
  pub right_without : (is_drained : Bool) (after : GenerationsView) (ids left : BTreeSet ℕ)
      → AreWithLater g.retiring boundary g.deferred ids → UpdatesBy nat_cmp (nat_cmp id) ids left false
      → after ≡ retired g id boundary is_drained → AreWithLater after.retiring boundary after.deferred left
  right_without is_drained after ids left right updated same q =
      updated.0 q
      ∙ ap (cond (is_eq (nat_cmp id q)) false) (right q)
      ∙ sym (known_after is_drained q)
      ∙ ap (λ (h : GenerationsView). counts h q) (sym same)
