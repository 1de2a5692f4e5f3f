-- Each offset that was taken in is at one place at most, whatever happens.
use Rattle.std.proofs.Common.{◌≡◌, refl, sym, ◌∙◌, subst, ℕ, ◌+◌, ◌≤◌, Bool, true, false, eqb}
use Rattle.std.proofs.Common.{if◌then◌else◌, List, [], ◌∷◌, ◌++◌, arith, Option, Some, None}
use Rattle.std.proofs.Common.{◌||◌}
use Rattle.std.proofs.lemmas.Bool.{true≢false, or_right, eqb-true}
use Rattle.std.specs.List.{AllByRecursion}
use Rattle.sctp_model.specs.Packets.{mem}
use Rattle.sctp_model.proofs.Lists.{all_weaker, all_mem}
use Rattle.sctp_courses.specs.Course.{Live, Told, held_on, offsets_told, times}
use Rattle.sctp_courses.specs.Events.{closed_to_reads, held_where, with_held}
use Rattle.sctp_courses.specs.Invariants.{AreCounted}
use Rattle.sctp_courses.proofs.Times.{all_among, times-join, times_filtered}

-- how often an offset is anywhere
abbrev pub everywhere : ℕ → List ℕ → List ℕ → List ℕ → List ℕ → ℕ
everywhere o hand deferred held told = times o hand + times o deferred + times o held + times o told

pub counted_moved : {mine taken : List ℕ} (hand deferred held told hand' deferred' held' told' : List ℕ)
    → ((o : ℕ) → everywhere o hand' deferred' held' told' ≤ everywhere o hand deferred held told)
    → AreCounted mine taken hand deferred held told → AreCounted mine taken hand' deferred' held' told'
counted_moved hand deferred held told hand' deferred' held' told' less h = record {
  are_mine = h.are_mine;
  once = λ o. let l = less o in let m = h.once o in omega arith;
}

pub counted_assigned : (o : ℕ) {mine taken hand deferred held told : List ℕ}
    → AreCounted mine taken hand deferred held told → AreCounted (o ∷ mine) taken hand deferred held told
counted_assigned o {mine} {taken} h = record {
  are_mine = all_weaker (λ (p : ℕ). mem p mine ≡ true) (λ (p : ℕ). mem p (o ∷ mine) ≡ true) taken
      (λ p m. or_right _ _ m) h.are_mine;
  once = h.once;
}

-- one offset more that was not taken in before
pub one_more : (o : ℕ) {mine taken hand deferred held told : List ℕ} (hand' deferred' held' told' : List ℕ)
    → mem o mine ≡ true → mem o taken ≡ false
    → ((p : ℕ) → everywhere p hand' deferred' held' told'
    ≤ (if eqb o p then 1 else 0) + everywhere p hand deferred held told)
    → AreCounted mine taken hand deferred held told → AreCounted mine (o ∷ taken) hand' deferred' held' told'
one_more o {mine} {taken} {hand} {deferred} {held} {told} hand' deferred' held' told' here fresh more h = record {
  are_mine = (here, h.are_mine);
  once = λ p. by p (eqb o p) refl (mem p taken) refl (more p) (h.once p);
}
  where
    by : (p : ℕ) (same : Bool) → eqb o p ≡ same → (was : Bool) → mem p taken ≡ was
        → everywhere p hand' deferred' held' told'
        ≤ (if eqb o p then 1 else 0) + everywhere p hand deferred held told
        → everywhere p hand deferred held told ≤ (if mem p taken then 1 else 0)
        → everywhere p hand' deferred' held' told' ≤ (if eqb o p || mem p taken then 1 else 0)
    by p true e true f a b =
        absurd (true≢false (sym f ∙ subst (λ z. mem z taken ≡ false) (eqb-true o p e) fresh))
    by p true e false f a b =
        let a' = subst (λ z. everywhere p hand' deferred' held' told'
        ≤ (if z then 1 else 0) + everywhere p hand deferred held told) e a in
        let b' = subst (λ z. everywhere p hand deferred held told ≤ (if z then 1 else 0)) f b in
        rw e (omega arith)
    by p false e was f a b =
        let a' = subst (λ z. everywhere p hand' deferred' held' told'
        ≤ (if z then 1 else 0) + everywhere p hand deferred held told) e a in
        rw e (omega arith)

pub more_held : (live : Option Live) (o p : ℕ)
    → times p (held_on (with_held live o)) ≤ (if eqb o p then 1 else 0) + times p (held_on live)
more_held None o p = omega arith
more_held (Some l) o p = omega arith

pub fewer_held : (test : ℕ → Bool) (live : Option Live) (o : ℕ)
    → times o (held_on (held_where test live)) ≤ times o (held_on live)
fewer_held test None o = omega arith
fewer_held test (Some l) o = times_filtered test o l.held

pub as_held : (live : Option Live) (o : ℕ) → times o (held_on (closed_to_reads live)) ≤ times o (held_on live)
as_held None o = omega arith
as_held (Some l) o = omega arith

pub times_told : (o : ℕ) (ts : List Told) (t : Told)
    → times o (offsets_told (ts ++ t ∷ [])) ≡ times o (offsets_told ts) + times o t.offsets
times_told o [] t = times-join o t.offsets [] ∙ omega arith
times_told o (u ∷ ts) t =
    let e = times_told o ts t in
    let a = times-join o u.offsets (offsets_told (ts ++ t ∷ [])) in
    let b = times-join o u.offsets (offsets_told ts) in omega arith

-- what is held, deferred or read is of this stream

module _ {mine taken hand deferred held told : List ℕ} (h : AreCounted mine taken hand deferred held told) where
  among_mine : (P : ℕ → Type 0) (os : List ℕ) → ((o : ℕ) → times o os ≤ everywhere o hand deferred held told)
      → AllByRecursion P mine → AllByRecursion P os
  among_mine P os few all =
      all_weaker (λ (o : ℕ). mem o taken ≡ true) P os
      (λ o m. all_mem P mine o all (all_mem (λ (p : ℕ). mem p mine ≡ true) taken o h.are_mine m))
      (all_among os taken (λ o. let a = few o in let b = h.once o in omega arith))

  pub held_mine : (P : ℕ → Type 0) → AllByRecursion P mine → AllByRecursion P held
  held_mine P = among_mine P held (λ o. omega arith)

  pub told_mine : (P : ℕ → Type 0) → AllByRecursion P mine → AllByRecursion P told
  told_mine P = among_mine P told (λ o. omega arith)
