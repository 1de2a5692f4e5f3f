-- What is kept of generations stays of streams past their span.
use Rattle.std.proofs.Common.{◌≡◌, refl, sym, ℕ, ◌==◌, Bool, true, false, ◌&&◌, ◌||◌, not, cond, ap, ◌∙◌}
use Rattle.std.proofs.Common.{List, [], ◌∷◌, ◌++◌, fold, map, filter, Option, Some, None, is_some, is_eq, nat_cmp}
use Rattle.std.proofs.lemmas.Bool.{eqb-true, false≢true}
use Rattle.std.specs.BTreeMap.{is_at}
use Rattle.std.specs.List.{AllByRecursion, list_any}
use Rattle.std.specs.Map.{lookup}
use Rattle.sctp_wire_types.specs.declared.chunk.ChunkPayloadData.{ChunkPayloadData}
use Rattle.sctp_streams.specs.Streams.{stream_at}
use Rattle.sctp_generations.specs.declared.skips.KeptSkip.{KeptSkip}
use Rattle.sctp_generations.specs.declared.retirement.Retirement.{Retirement}
use Rattle.sctp_generations.specs.declared.retirement.Retirement.TheVariants as retirements
use Rattle.sctp_generations.specs.Deferred.{is_above, is_past, place_of}
use Rattle.sctp_generations.specs.Generations.{GenerationsView, after_given_to, after_given_to_all}
use Rattle.sctp_generations.specs.Generations.{after_skips_given_to, discarded, drained, has_newest, has_skips}
use Rattle.sctp_generations.specs.Generations.{new_skip, retired_by, retires, skipped, skips_given_to}
use Rattle.sctp_generations.specs.Generations.{unordered_skipped, with_deferred, with_kept_skip, without_newest_of}
use Rattle.sctp_generations.specs.Retiring.{RetiringMap, behind_first, boundaries_at, first_passed, first_passed_at}
use Rattle.sctp_generations.specs.Retiring.{forgotten, is_single, newest_boundary, passed, readable_boundary}
use Rattle.sctp_generations.specs.Retiring.{retired_at, retired_with}
use Rattle.sctp_generations.specs.Skips.{is_newest_of, is_same, is_skip_of, skip_ids, with_boundary}
use Rattle.sctp_resets.specs.Skips.{Skipping, reaches_its_ssn, skip_tried, skips_applied, skips_applied_of}
use Rattle.sctp_resets.specs.Within.{KeptOver}
use Rattle.sctp_resets.proofs.ListsOver.{IsPast, all_appended, all_filtered, all_inserted, keys_with_entry}
use Rattle.sctp_resets.proofs.ListsOver.{keys_with_value, keys_without, of_chosen, of_images, to_images}
use Rattle.sctp_resets.proofs.StreamsBeside.{same_identifier}

-- The streams that are past their span.
module _ (over : ℕ → Bool) where
  -- a piece of DATA is of such a stream
  abbrev pub DataIsPast : ChunkPayloadData → Type 0
  DataIsPast d = over d.stream_identifier ≡ true

  -- a skip is
  abbrev pub SkipIsPast : KeptSkip → Type 0
  SkipIsPast s = over s.id ≡ true

  -- so each retiring stream is, and each piece of DATA and each skip of lists
  abbrev pub EachRetiring : RetiringMap → Type 0
  EachRetiring m = AllByRecursion (λ (e : ℕ × List ℕ). over e.0 ≡ true) m

  abbrev pub EachDeferred : List ChunkPayloadData → Type 0
  EachDeferred ds = AllByRecursion DataIsPast ds

  abbrev pub EachSkip : List KeptSkip → Type 0
  EachSkip ss = AllByRecursion SkipIsPast ss

  -- what is kept of generations is of such streams
  pub record EachOver (g : GenerationsView) : Type 0 where
    pub retiring : EachRetiring g.retiring
    pub deferred : EachDeferred g.deferred
    pub skips : EachSkip g.skips

  pub each_of_kept : (g : GenerationsView) → KeptOver over g → EachOver g
  each_of_kept g k = record {
    retiring = of_images (IsPast over) (λ (e : ℕ × List ℕ). e.0) g.retiring k.retiring;
    deferred = of_images (IsPast over) (λ (d : ChunkPayloadData). d.stream_identifier) g.deferred k.deferred;
    skips = of_images (IsPast over) (λ (s : KeptSkip). s.id) g.skips k.skipped;
  }

  pub kept_of_each : (g : GenerationsView) → EachOver g → KeptOver over g
  kept_of_each g e = record {
    retiring = to_images (IsPast over) (λ (e : ℕ × List ℕ). e.0) g.retiring e.retiring;
    deferred = to_images (IsPast over) (λ (d : ChunkPayloadData). d.stream_identifier) g.deferred e.deferred;
    skipped = to_images (IsPast over) (λ (s : KeptSkip). s.id) g.skips e.skips;
  }

  -- Some of what was kept stays

  fewer_deferred : (test : ChunkPayloadData → Bool) (g : GenerationsView) → EachOver g
      → EachOver (record g { deferred = filter test g.deferred })
  fewer_deferred test g e = record {
    retiring = e.retiring;
    deferred = all_filtered DataIsPast test g.deferred e.deferred;
    skips = e.skips;
  }

  fewer_skips : (test : KeptSkip → Bool) (g : GenerationsView) → EachOver g
      → EachOver (record g { skips = filter test g.skips })
  fewer_skips test g e = record {
    retiring = e.retiring;
    deferred = e.deferred;
    skips = all_filtered SkipIsPast test g.skips e.skips;
  }

  pub one_more_skip : (g : GenerationsView) (s : KeptSkip) → over s.id ≡ true → EachOver g
      → EachOver (with_kept_skip g s)
  one_more_skip g s one e = record {
    retiring = e.retiring;
    deferred = e.deferred;
    skips = all_appended SkipIsPast g.skips (s ∷ []) e.skips (one, tt);
  }

  pub one_more_deferred : (g : GenerationsView) (d : ChunkPayloadData) → over d.stream_identifier ≡ true → EachOver g
      → EachOver (with_deferred g d)
  one_more_deferred g d one e = record {
    retiring = e.retiring;
    deferred = all_inserted DataIsPast g.deferred (place_of d.tsn g.deferred) d e.deferred one;
    skips = e.skips;
  }

  pub skipped_each : (g : GenerationsView) (id ssn tsn : ℕ) (in_progress : Option ℕ) → over id ≡ true → EachOver g
      → EachOver (skipped g id ssn tsn in_progress)
  skipped_each g id ssn tsn in_progress one e =
      one_more_skip _ (new_skip id ssn tsn) one (fewer_deferred _ g e)

  pub unordered_skipped_each : (g : GenerationsView) (tsn : ℕ) → EachOver g → EachOver (unordered_skipped g tsn)
  unordered_skipped_each g tsn e = fewer_deferred _ g e

  pub given_to_each : (g : GenerationsView) (id : ℕ) (in_progress : Option ℕ) → EachOver g
      → EachOver (after_given_to g id in_progress)
  given_to_each g id in_progress e = fewer_deferred _ g e

  pub all_given_each : (g : GenerationsView) → EachOver g → EachOver (after_given_to_all g)
  all_given_each g e = fewer_deferred _ g e

  pub without_newest_each : (g : GenerationsView) (ids : List ℕ) → EachOver g → EachOver (without_newest_of g ids)
  without_newest_each g ids e = fewer_skips (λ s. not (is_newest_of ids s)) g e

  pub discarded_each : (g : GenerationsView) (id : ℕ) → EachOver g → EachOver (discarded g id)
  discarded_each g id e = record {
    retiring = keys_without (IsPast over) (is_at (nat_cmp id)) g.retiring e.retiring;
    deferred = all_filtered DataIsPast _ g.deferred e.deferred;
    skips = all_filtered SkipIsPast _ g.skips e.skips;
  }

  -- A generation ends

  -- the skips of a generation that ended are of the same streams
  ended_skips_each : (id boundary : ℕ) (ss : List KeptSkip) → EachSkip ss
      → EachSkip (map (with_boundary id boundary) ss)
  ended_skips_each id boundary [] e = tt
  ended_skips_each id boundary (s ∷ ss) e = (
    of_chosen SkipIsPast (is_skip_of id None s)
        (record s { boundary = Some boundary }) s e.0 e.0,
    ended_skips_each id boundary ss e.1,
  )

  retired_with_each : (m : RetiringMap) (id boundary : ℕ) → over id ≡ true → EachRetiring m
      → EachRetiring (retired_with m id boundary)
  retired_with_each m id boundary one e = by (boundaries_at m id)
    where
      by : (o : Option (List ℕ)) → EachRetiring (retired_at o m id boundary)
      by None = keys_with_entry (IsPast over) m id (boundary ∷ []) e one
      by (Some boundaries) =
          keys_with_value (IsPast over) (is_at (nat_cmp id)) m (boundaries ++ boundary ∷ []) e

  pub retired_each_over : (w : Retirement) (g : GenerationsView) (id boundary : ℕ) → over id ≡ true → EachOver g
      → EachOver (retired_by w g id boundary)
  retired_each_over retirements.Ended g id boundary one e = fewer_skips (λ s. not (is_skip_of id None s)) g e
  retired_each_over retirements.Unchanged g id boundary one e = fewer_skips (λ s. not (is_skip_of id None s)) g e
  retired_each_over retirements.Retires g id boundary one e = record {
    retiring = retired_with_each g.retiring id boundary one e.retiring;
    deferred = e.deferred;
    skips = ended_skips_each id boundary g.skips e.skips;
  }

  -- A generation is over

  first_passed_each : (m : RetiringMap) (id : ℕ) → EachRetiring m → EachRetiring (first_passed m id)
  first_passed_each m id e = by (boundaries_at m id)
    where
      by : (o : Option (List ℕ)) → EachRetiring (first_passed_at o m id)
      by None = e
      by (Some boundaries) =
          keys_with_value (IsPast over) (is_at (nat_cmp id)) m (behind_first boundaries) e

  passed_each : (m : RetiringMap) (id : ℕ) → EachRetiring m → EachRetiring (passed m id)
  passed_each m id e =
      of_chosen EachRetiring (is_single (boundaries_at m id)) (forgotten m id) (first_passed m id)
      (keys_without (IsPast over) (is_at (nat_cmp id)) m e) (first_passed_each m id e)

  pub drained_each : (g : GenerationsView) (id waiting : ℕ) → EachOver g → EachOver (drained g id waiting).0
  drained_each g id waiting e =
      of_chosen (λ (d : GenerationsView × Bool). EachOver d.0) (retires g id && (waiting == 0)) _ _
      (record { retiring = passed_each g.retiring id e.retiring; deferred = e.deferred; skips = e.skips }) e

  -- a stream that retires
  pub retires_over : (g : GenerationsView) (id : ℕ) → EachOver g → retires g id ≡ true → over id ≡ true
  retires_over g id e retires = found g.retiring e.retiring retires
    where
      found : (m : RetiringMap) → EachRetiring m → is_some (lookup (is_at (nat_cmp id)) m) ≡ true → over id ≡ true
      found [] each is = absurd (false≢true is)
      found (x ∷ xs) each is = by (is_eq (nat_cmp id x.0)) refl is (found xs each.1)
        where
          by : (b : Bool) → is_eq (nat_cmp id x.0) ≡ b
              → is_some (cond b (Some x.1) (lookup (is_at (nat_cmp id)) xs)) ≡ true
              → (is_some (lookup (is_at (nat_cmp id)) xs) ≡ true → over id ≡ true) → over id ≡ true
          by true same is others = ap over (same_identifier id x.0 same) ∙ each.0
          by false apart is others = others is

  -- where one of a list is of a stream, that one is past its span
  found_over : {X : Type 0} (f : X → ℕ) (more : X → Bool) (id : ℕ) (xs : List X)
      → AllByRecursion (λ (x : X). over (f x) ≡ true) xs → list_any (λ x. (f x == id) && more x) xs ≡ true
      → over id ≡ true
  found_over f more id [] each is = absurd (false≢true is)
  found_over f more id (x ∷ xs) each is = by (f x == id) refl is (found_over f more id xs each.1)
    where
      by : (same : Bool) → (f x == id) ≡ same
          → ((same && more x) || list_any (λ y. (f y == id) && more y) xs) ≡ true
          → (list_any (λ y. (f y == id) && more y) xs ≡ true → over id ≡ true) → over id ≡ true
      by true e is others = ap over (sym (eqb-true (f x) id e)) ∙ each.0
      by false e is others = others is

  -- a stream of which something came for the generation that did not end
  pub newest_over : (g : GenerationsView) (id : ℕ) → EachOver g → has_newest g id ≡ true → over id ≡ true
  newest_over g id e is = by (list_any (is_past id (newest_boundary g.retiring id)) g.deferred) waits is
    where
      waits : list_any (is_past id (newest_boundary g.retiring id)) g.deferred ≡ true → over id ≡ true
      waits =
          found_over (λ (d : ChunkPayloadData). d.stream_identifier)
          (λ (d : ChunkPayloadData). is_above (newest_boundary g.retiring id) d.tsn) id g.deferred e.deferred

      by : (some : Bool) → (some ≡ true → over id ≡ true) → (some || list_any (is_skip_of id None) g.skips) ≡ true
          → over id ≡ true
      by true data_waits is = data_waits refl
      by false data_waits is =
          found_over (λ (s : KeptSkip). s.id) (λ (s : KeptSkip). is_same s.boundary None) id g.skips e.skips is

  -- Skips that were kept are applied

  tried_each : (g : Skipping) (s : KeptSkip) → over s.id ≡ true → EachOver g.0 → EachOver (skip_tried g s).0
  tried_each (g, m, told) s one e =
      of_chosen EachOver (reaches_its_ssn s m) g (with_kept_skip g s) e (one_more_skip g s one e)

  all_tried_each : (ss : List KeptSkip) (g : Skipping) → EachSkip ss → EachOver g.0
      → EachOver (fold skip_tried g ss).0
  all_tried_each [] g each e = e
  all_tried_each (s ∷ ss) g each e = all_tried_each ss (skip_tried g s) each.1 (tried_each g s each.0 e)

  pub applied_of_each : (id : ℕ) (g : Skipping) → EachOver g.0 → EachOver (skips_applied_of g id).0
  applied_of_each id (g, m, told) e =
      of_chosen (λ (s : Skipping). EachOver s.0) (has_skips g && is_some (stream_at m id)) _ (g, m, told)
      (all_tried_each (skips_given_to g id) (after_skips_given_to g id, m, told)
      (all_filtered SkipIsPast (is_skip_of id (readable_boundary g.retiring id)) g.skips e.skips)
      (fewer_skips (λ s. not (is_skip_of id (readable_boundary g.retiring id) s)) g e)) e

  each_applied_each : (ids : List ℕ) (g : Skipping) → EachOver g.0 → EachOver (fold skips_applied_of g ids).0
  each_applied_each [] g e = e
  each_applied_each (id ∷ ids) g e = each_applied_each ids (skips_applied_of g id) (applied_of_each id g e)

  pub applied_each : (g : Skipping) → EachOver g.0 → EachOver (skips_applied g).0
  applied_each (g, m, told) e =
      of_chosen (λ (s : Skipping). EachOver s.0) (has_skips g) _ (g, m, told)
      (each_applied_each (skip_ids g.skips) (g, m, told) e) e
