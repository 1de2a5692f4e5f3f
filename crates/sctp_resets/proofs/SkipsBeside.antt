-- Skips that are kept change only the streams that they are of.
use Rattle.std.proofs.Common.{◌≡◌, refl, ◌∙◌, ℕ, Bool, true, false, ◌&&◌, not, cond}
use Rattle.std.proofs.Common.{List, [], ◌∷◌, ◌++◌, fold, map, is_some, is_eq, nat_cmp}
use Rattle.std.proofs.lemmas.Bool.{or_parts}
use Rattle.sctp_streams.specs.declared.event.Event.{Event}
use Rattle.sctp_streams.specs.Stream.{stream_skipped}
use Rattle.sctp_streams.specs.Streams.{StreamMap, stream_at}
use Rattle.sctp_generations.specs.declared.skips.KeptSkip.{KeptSkip}
use Rattle.sctp_generations.specs.Generations.{after_skips_given_to, has_skips, skips_given_to, with_kept_skip}
use Rattle.sctp_generations.specs.Skips.{is_skip_of, skip_ids}
use Rattle.sctp_generations.specs.Retiring.{readable_boundary}
use Rattle.sctp_reset_requests.specs.Ids.{has_id}
use Rattle.sctp_resets.specs.Concerned.{StayBeside, skipped_ids}
use Rattle.sctp_resets.specs.Resets.{ResetsView, skips_done, skips_done_of}
use Rattle.sctp_resets.specs.Skips.{Skipping, end_of_skip, reaches_its_ssn, skip_tried, skips_applied_of}
use Rattle.sctp_resets.proofs.StreamsBeside.{both_false, changed_apart, filtered_apart}

-- the streams that skips are of
abbrev pub ids_of_skips : List KeptSkip → List ℕ
ids_of_skips ss = map (λ s. s.id) ss

module _ (t : ℕ) where
  -- a skip on another stream leaves this one
  tried_apart : (g : Skipping) (s : KeptSkip) → is_eq (nat_cmp t s.id) ≡ false
      → stream_at (skip_tried g s).1 t ≡ stream_at g.1 t
  tried_apart (g, m, told) s apart = changed_apart t s.id apart (stream_skipped (end_of_skip s m)) m

  all_tried_apart : (ss : List KeptSkip) (g : Skipping) → has_id t (ids_of_skips ss) ≡ false
      → stream_at (fold skip_tried g ss).1 t ≡ stream_at g.1 t
  all_tried_apart [] g e = refl
  all_tried_apart (s ∷ ss) g e =
      let parts = or_parts (is_eq (nat_cmp t s.id)) (has_id t (ids_of_skips ss)) e in
      all_tried_apart ss (skip_tried g s) parts.1 ∙ tried_apart g s parts.0

  -- what is kept of a skip is of its stream
  kept_apart : (g : Skipping) (s : KeptSkip) → is_eq (nat_cmp t s.id) ≡ false
      → has_id t (skipped_ids g.0) ≡ false → has_id t (skipped_ids (skip_tried g s).0) ≡ false
  kept_apart (g, m, told) s apart none = by (reaches_its_ssn s m)
    where
      appended : (ss : List KeptSkip) → has_id t (ids_of_skips ss) ≡ false
          → has_id t (ids_of_skips (ss ++ s ∷ [])) ≡ false
      appended [] e = both_false (is_eq (nat_cmp t s.id)) false apart refl
      appended (k ∷ ss) e =
          let parts = or_parts (is_eq (nat_cmp t k.id)) (has_id t (ids_of_skips ss)) e in
          both_false (is_eq (nat_cmp t k.id)) (has_id t (ids_of_skips (ss ++ s ∷ []))) parts.0 (appended ss parts.1)

      by : (b : Bool) → has_id t (skipped_ids (cond b g (with_kept_skip g s))) ≡ false
      by true = none
      by false = appended g.skips none

  all_kept_apart : (ss : List KeptSkip) (g : Skipping) → has_id t (ids_of_skips ss) ≡ false
      → has_id t (skipped_ids g.0) ≡ false → has_id t (skipped_ids (fold skip_tried g ss).0) ≡ false
  all_kept_apart [] g e none = none
  all_kept_apart (s ∷ ss) g e none =
      let parts = or_parts (is_eq (nat_cmp t s.id)) (has_id t (ids_of_skips ss)) e in
      all_kept_apart ss (skip_tried g s) parts.1 (kept_apart g s parts.0 none)

  -- Where the skips of one stream are applied, a stream of which none of those skips is stays.
  pub applied_apart : (id : ℕ) (g : Skipping) → has_id t (ids_of_skips (skips_given_to g.0 id)) ≡ false
      → stream_at (skips_applied_of g id).1 t ≡ stream_at g.1 t
  applied_apart id (g, m, told) e = by (has_skips g && is_some (stream_at m id))
    where
      by : (b : Bool)
          → stream_at
          (cond b (fold skip_tried (after_skips_given_to g id, m, told) (skips_given_to g id)) (g, m, told)).1 t
          ≡ stream_at m t
      by true = all_tried_apart (skips_given_to g id) (after_skips_given_to g id, m, told) e
      by false = refl

  -- Where no skip is of a stream, the skips of others leave it, and none is of it then.
  applied_beside : (id : ℕ) (g : Skipping) → has_id t (skipped_ids g.0) ≡ false
      → (stream_at (skips_applied_of g id).1 t ≡ stream_at g.1 t)
      × (has_id t (skipped_ids (skips_applied_of g id).0) ≡ false)
  applied_beside id (g, m, told) none =
      (applied_apart id (g, m, told) given, by (has_skips g && is_some (stream_at m id)))
    where
      given : has_id t (ids_of_skips (skips_given_to g id)) ≡ false
      given = filtered_apart t (λ (s : KeptSkip). s.id) (is_skip_of id (readable_boundary g.retiring id)) g.skips none

      by : (b : Bool)
          → has_id t
          (skipped_ids
          (cond b (fold skip_tried (after_skips_given_to g id, m, told) (skips_given_to g id)) (g, m, told)).0) ≡ false
      by true =
          all_kept_apart (skips_given_to g id) (after_skips_given_to g id, m, told) given
          (filtered_apart t (λ (s : KeptSkip). s.id) (λ s. not (is_skip_of id (readable_boundary g.retiring id) s))
          g.skips none)
      by false = none

  each_applied_beside : (ids : List ℕ) (g : Skipping) → has_id t (skipped_ids g.0) ≡ false
      → stream_at (fold skips_applied_of g ids).1 t ≡ stream_at g.1 t
  each_applied_beside [] g none = refl
  each_applied_beside (id ∷ ids) g none =
      let one = applied_beside id g none in
      each_applied_beside ids (skips_applied_of g id) one.1 ∙ one.0

-- the skips that are kept change only the streams that they are of
pub skips_stay : (r : ResetsView) (m : StreamMap) (told : List Event)
    → StayBeside (skipped_ids r.generations) m (skips_done r m told).1
skips_stay r m told t none = by (has_skips r.generations)
  where
    by : (b : Bool)
        → stream_at
        (cond b (fold skips_applied_of (r.generations, m, told) (skip_ids r.generations.skips))
        (r.generations, m, told)).1 t
        ≡ stream_at m t
    by true = each_applied_beside t (skip_ids r.generations.skips) (r.generations, m, told) none
    by false = refl

pub skips_of_stay : (id : ℕ) (r : ResetsView) (m : StreamMap) (told : List Event)
    → StayBeside (skipped_ids r.generations) m (skips_done_of id r m told).1
skips_of_stay id r m told t none = (applied_beside t id (r.generations, m, told) none).0

-- where none is kept nothing changes
pub skips_plainly : (r : ResetsView) (m : StreamMap) (told : List Event) → has_skips r.generations ≡ false
    → skips_done r m told ≡ (r, m, told)
skips_plainly r m told none = rw none refl

pub skips_of_plainly : (id : ℕ) (r : ResetsView) (m : StreamMap) (told : List Event) → has_skips r.generations ≡ false
    → skips_done_of id r m told ≡ (r, m, told)
skips_of_plainly id r m told none = rw none refl
