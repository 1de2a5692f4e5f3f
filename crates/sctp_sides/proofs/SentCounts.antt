-- How often the DATA of one offset was given out, beside what is counted of the pieces in flight.
use Rattle.std.proofs.Common.{◌≡◌, refl, sym, ap, ◌∙◌, subst, ◌⊎◌, ⊎_elim, inl, inr, ℕ, zero, suc, ◌<◌, ◌≤◌, ◌+◌, ◌-◌}
use Rattle.std.proofs.Common.{◌^◌, ◌==◌, eqb, if◌then◌else◌, arith, min, Bool, true, false, List, [], ◌∷◌, ◌++◌, drop}
use Rattle.std.proofs.Common.{length, slice_get, slice_set, Some, None}
use Rattle.std.proofs.lemmas.Bool.{cases_Bool, cases_lt, eqb-false, eqb-true, true≢false}
use Rattle.std.proofs.lemmas.List.{length-append, length-drop, length-set}
use Rattle.std.proofs.lemmas.Option.{slice_get_within}
use Rattle.sctp_wire_types.specs.declared.reliability.Policy.{Policy}
use Rattle.sctp_wire_types.specs.declared.reliability.Policy.TheVariants.{Rexmit}
use Rattle.sctp_outbound_queue.specs.Message.{one_sending_more}

-- how often a piece was sent, as it counts, and the policy of its message
abbrev pub Tally : Type 0
Tally = ℕ × Policy

-- A piece was given out t times, as its count says. If its message may be sent again n times, that is n + 1 times at
-- most. Where `under` is true its message is such a one.
pub record IsCounted (under : Bool) (n t : ℕ) (v : Tally) : Type 0 where
  pub count : v.0 ≡ min t (2 ^ 32 - 1)
  pub policy : under ≡ true → v.1 ≡ Rexmit n
  pub kept : v.1 ≡ Rexmit n → t ≤ n + 1

-- The DATA of the offset o was given out t times, where pieces with these tallies are in flight from the offset base
-- on. If it is in flight, its piece counts that. Behind them nothing was given out yet. What was acknowledged
-- cumulatively was given out n + 1 times at most, where `under` is true.
pub record Stands (under : Bool) (n o t base : ℕ) (vs : List Tally) : Type 0 where
  pub passed : o < base → under ≡ true → t ≤ n + 1
  pub flying : (index : ℕ) (v : Tally) → o ≡ base + index → slice_get vs index ≡ Some v → IsCounted under n t v
  pub ahead : base + length vs ≤ o → (t ≡ 0) × (under ≡ false)

-- The offset o is in flight, of a message that may be sent again n times.
pub record IsUnder (n o base : ℕ) (vs : List Tally) : Type 0 where
  pub index : ℕ
  pub piece : Tally
  pub at : o ≡ base + index
  pub there : slice_get vs index ≡ Some piece
  pub policy : piece.1 ≡ Rexmit n

pub nothing_there : {X : Type 0} (x : X) → None ≡ Some x → ⊥
nothing_there x e = cc

pub same_value : {X : Type 0} (x y : X) → Some x ≡ Some y → x ≡ y
same_value x y e = cc

-- Lists

-- what stands in a list with one element more
get_pushed : {X : Type 0} (vs : List X) (w v : X) (i : ℕ) → slice_get (vs ++ w ∷ []) i ≡ Some v
    → (slice_get vs i ≡ Some v) ⊎ ((i ≡ length vs) × (v ≡ w))
get_pushed [] w v zero e = inr (refl, sym (same_value w v e))
get_pushed [] w v (suc i) e = absurd (nothing_there v e)
get_pushed (x ∷ xs) w v zero e = inl e
get_pushed (x ∷ xs) w v (suc i) e =
    ⊎_elim
    (λ (h : slice_get xs i ≡ Some v). inl h)
    (λ (h : (i ≡ length xs) × (v ≡ w)). inr (ap suc h.0, h.1))
    (get_pushed xs w v i e)

-- in a list with one element set
get_set : {X : Type 0} (vs : List X) (w v : X) (i j : ℕ) → slice_get (slice_set vs i w) j ≡ Some v
    → ((j ≡ i) × (v ≡ w)) ⊎ ((j ≡ i → ⊥) × (slice_get vs j ≡ Some v))
get_set [] w v i j e = absurd (nothing_there v e)
get_set (x ∷ xs) w v zero zero e = inl (refl, sym (same_value w v e))
get_set (x ∷ xs) w v zero (suc j) e = inr (λ d. omega (arith, d), e)
get_set (x ∷ xs) w v (suc i) zero e = inr (λ d. omega (arith, d), e)
get_set (x ∷ xs) w v (suc i) (suc j) e =
    ⊎_elim
    (λ (h : (j ≡ i) × (v ≡ w)). inl (ap suc h.0, h.1))
    (λ (h : (j ≡ i → ⊥) × (slice_get xs j ≡ Some v)). inr (λ d. h.0 (omega (arith, d)), h.1))
    (get_set xs w v i j e)

pub get_set_there : {X : Type 0} (vs : List X) (w v : X) (i : ℕ) → slice_get vs i ≡ Some v
    → slice_get (slice_set vs i w) i ≡ Some w
get_set_there [] w v i e = absurd (nothing_there v e)
get_set_there (x ∷ xs) w v zero e = refl
get_set_there (x ∷ xs) w v (suc i) e = get_set_there xs w v i e

-- in the rest of a list
get_dropped : {X : Type 0} (n : ℕ) (vs : List X) (i : ℕ) → slice_get (drop n vs) i ≡ slice_get vs (n + i)
get_dropped zero vs i = let same : 0 + i ≡ i = omega arith in rw same refl
get_dropped (suc n) [] i = refl
get_dropped (suc n) (x ∷ xs) i =
    let same : suc n + i ≡ suc (n + i) = omega arith in
    rw same (get_dropped n xs i)

-- something stands there, or that is past the end
is_there : {X : Type 0} (vs : List X) (i : ℕ) → ((v : X) × (slice_get vs i ≡ Some v)) ⊎ (length vs ≤ i)
is_there [] i = inr (omega arith)
is_there (x ∷ xs) zero = inl (x, refl)
is_there (x ∷ xs) (suc i) =
    ⊎_elim
    (λ (h : (v : _) × (slice_get xs i ≡ Some v)). inl h)
    (λ (h : length xs ≤ i). inr (omega (arith, h)))
    (is_there xs i)

-- Where the offset stands

pub stand_as : {under : Bool} {n o s t base : ℕ} {vs ws : List Tally} → t ≡ s → ws ≡ vs
    → Stands under n o s base vs → Stands under n o t base ws
stand_as e f h = rw (e, f) h

-- nothing is in flight
pub none_stand : (n o base : ℕ) → Stands false n o 0 base []
none_stand n o base = record {
  passed = λ p u. absurd (true≢false (sym u));
  flying = λ index v e there. absurd (nothing_there v there);
  ahead = λ p. (refl, refl);
}

-- how often an act that gives out the offset k gives out o
abbrev pub is_given_at : ℕ → ℕ → ℕ
is_given_at o k = if k == o then 1 else 0

-- it was given out no more often than that, wherever it stands
pub stands_kept : (n o t base : ℕ) (vs : List Tally) → Stands true n o t base vs → t ≤ n + 1
stands_kept n o t base vs h = by_place (cases_lt o base)
  where
    flown : ((v : Tally) × (slice_get vs (o - base) ≡ Some v)) ⊎ (length vs ≤ o - base) → base ≤ o → t ≤ n + 1
    flown (inl (v, there)) p =
        let counted = h.flying (o - base) v (omega (arith, p)) there in
        counted.kept (counted.policy refl)
    flown (inr beyond) p = absurd (true≢false (h.ahead (omega (arith, beyond, p))).1)

    by_place : (o < base) ⊎ (base ≤ o) → t ≤ n + 1
    by_place (inl p) = h.passed p refl
    by_place (inr p) = flown (is_there vs (o - base)) p

-- one sending more counts as one, up to the greatest count
one_more_counts : (count t : ℕ) → count ≡ min t (2 ^ 32 - 1) → one_sending_more count ≡ min (1 + t) (2 ^ 32 - 1)
one_more_counts count t e = omega (arith, e)

one_more_kept : (count n t : ℕ) → count ≡ min t (2 ^ 32 - 1) → n < 2 ^ 32 - 1 → count ≤ n → 1 + t ≤ n + 1
one_more_kept count n t e small few = omega (arith, e, small, few)

-- what each act makes of where the offset stands
module _ (under : Bool) (n o t base : ℕ) where
  -- The first pieces are acknowledged.
  pub dropped_stand : (count : ℕ) (vs : List Tally) → Stands under n o t base vs
      → Stands under n o t (base + count) (drop count vs)
  dropped_stand count vs h = record {
    passed = λ p u. stands_kept n o t base vs (subst (λ (c : Bool). Stands c n o t base vs) u h);
    flying = λ index v e there.
        h.flying (count + index) v (omega (arith, e)) (sym (get_dropped count vs index) ∙ there);
    ahead = λ p. let l = length-drop count vs in h.ahead (omega (arith, l, p));
  }

  -- what never goes out takes the next offset
  pub unsent_stand : (vs : List Tally) (p : Policy) → Stands under n o t base vs
      → Stands under n o t base (vs ++ (0, p) ∷ [])
  unsent_stand vs p h = record {
    passed = h.passed;
    flying = λ index v e there. pushed index v e (get_pushed vs (0, p) v index there);
    ahead = λ q. let l = length-append vs ((0, p) ∷ []) in h.ahead (omega (arith, l, q));
  }
    where
      pushed : (index : ℕ) (v : Tally) → o ≡ base + index
          → (slice_get vs index ≡ Some v) ⊎ ((index ≡ length vs) × (v ≡ (0, p))) → IsCounted under n t v
      pushed index v e (inl there) = h.flying index v e there
      pushed index v e (inr (i, is)) =
          let before = h.ahead (omega (arith, e, i)) in
          let none = before.0 in
          let count : v.0 ≡ 0 = ap (λ (x : Tally). x.0) is in
          record {
            count = omega (arith, count, none);
            policy = λ u. absurd (true≢false (sym u ∙ before.1));
            kept = λ f. omega (arith, none);
          }

  -- a piece goes out for the first time, and takes the next offset
  pub sent_stand : (vs : List Tally) (p : Policy) → Stands under n o t base vs
      → Stands under n o (is_given_at o (base + length vs) + t) base (vs ++ (1, p) ∷ [])
  sent_stand vs p h =
      ⊎_elim
      (λ (c : eqb (base + length vs) o ≡ true).
      let at = eqb-true (base + length vs) o c in
      stand_as (ap (λ (b : Bool). (if b then 1 else 0) + t) c) refl (that at (h.ahead (omega (arith, at)))))
      (λ (c : eqb (base + length vs) o ≡ false).
      stand_as (ap (λ (b : Bool). (if b then 1 else 0) + t) c ∙ omega arith) refl
      (other (eqb-false (base + length vs) o c)))
      (cases_Bool (eqb (base + length vs) o))
    where
      l : length (vs ++ (1, p) ∷ []) ≡ length vs + 1
      l = length-append vs ((1, p) ∷ [])

      that : base + length vs ≡ o → (t ≡ 0) × (under ≡ false) → Stands under n o (1 + t) base (vs ++ (1, p) ∷ [])
      that at (none, early) = record {
        passed = λ q u. absurd (omega (arith, at, q));
        flying = λ index v e there. pushed index v e (get_pushed vs (1, p) v index there);
        ahead = λ q. absurd (omega (arith, at, l, q));
      }
        where
          pushed : (index : ℕ) (v : Tally) → o ≡ base + index
              → (slice_get vs index ≡ Some v) ⊎ ((index ≡ length vs) × (v ≡ (1, p))) → IsCounted under n (1 + t) v
          pushed index v e (inl there) =
              let within = slice_get_within vs index v there in
              absurd (omega (arith, at, e, within))
          pushed index v e (inr (i, is)) =
              let count : v.0 ≡ 1 = ap (λ (x : Tally). x.0) is in
              record {
                count = omega (arith, count, none);
                policy = λ u. absurd (true≢false (sym u ∙ early));
                kept = λ f. omega (arith, none);
              }

      other : (base + length vs ≡ o → ⊥) → Stands under n o t base (vs ++ (1, p) ∷ [])
      other away = record {
        passed = h.passed;
        flying = λ index v e there. pushed index v e (get_pushed vs (1, p) v index there);
        ahead = λ q. h.ahead (omega (arith, l, q));
      }
        where
          pushed : (index : ℕ) (v : Tally) → o ≡ base + index
              → (slice_get vs index ≡ Some v) ⊎ ((index ≡ length vs) × (v ≡ (1, p))) → IsCounted under n t v
          pushed index v e (inl there) = h.flying index v e there
          pushed index v e (inr (i, is)) = absurd (away (omega (arith, e, i)))

  -- a piece in flight goes out again, and was not sent too often before
  pub again_stand : (index : ℕ) (v : Tally) (vs : List Tally) → n < 2 ^ 32 - 1
      → slice_get vs index ≡ Some v → (v.1 ≡ Rexmit n → v.0 ≤ n) → Stands under n o t base vs
      → Stands under n o (is_given_at o (base + index) + t) base (slice_set vs index (one_sending_more v.0, v.1))
  again_stand index v vs small held spared h =
      ⊎_elim
      (λ (c : eqb (base + index) o ≡ true).
      stand_as (ap (λ (b : Bool). (if b then 1 else 0) + t) c) refl (that (eqb-true (base + index) o c)))
      (λ (c : eqb (base + index) o ≡ false).
      stand_as (ap (λ (b : Bool). (if b then 1 else 0) + t) c ∙ omega arith) refl
      (other (eqb-false (base + index) o c)))
      (cases_Bool (eqb (base + index) o))
    where
      w : Tally
      w = (one_sending_more v.0, v.1)

      within : index < length vs
      within = slice_get_within vs index v held

      l : length (slice_set vs index w) ≡ length vs
      l = length-set vs index w

      that : base + index ≡ o → Stands under n o (1 + t) base (slice_set vs index w)
      that at = record {
        passed = λ q u. absurd (omega (arith, at, q));
        flying = λ j x e there. put j x e (get_set vs w x index j there);
        ahead = λ q. absurd (omega (arith, at, l, within, q));
      }
        where
          put : (j : ℕ) (x : Tally) → o ≡ base + j
              → ((j ≡ index) × (x ≡ w)) ⊎ ((j ≡ index → ⊥) × (slice_get vs j ≡ Some x)) → IsCounted under n (1 + t) x
          put j x e (inl (i, is)) =
              let before = h.flying index v (sym at) held in
              subst (λ (z : Tally). IsCounted under n (1 + t) z) (sym is) (record {
                count = one_more_counts v.0 t before.count;
                policy = before.policy;
                kept = λ f. one_more_kept v.0 n t before.count small (spared f);
              })
          put j x e (inr (away, there)) = absurd (away (omega (arith, at, e)))

      other : (base + index ≡ o → ⊥) → Stands under n o t base (slice_set vs index w)
      other away = record {
        passed = h.passed;
        flying = λ j x e there. put j x e (get_set vs w x index j there);
        ahead = λ q. h.ahead (omega (arith, l, q));
      }
        where
          put : (j : ℕ) (x : Tally) → o ≡ base + j
              → ((j ≡ index) × (x ≡ w)) ⊎ ((j ≡ index → ⊥) × (slice_get vs j ≡ Some x)) → IsCounted under n t x
          put j x e (inl (i, is)) = absurd (away (omega (arith, e, i)))
          put j x e (inr (apart, there)) = h.flying j x e there

-- an offset that is in flight, of a message that may be sent again n times
pub turned_stand : (n o t base : ℕ) (vs : List Tally) → IsUnder n o base vs → Stands false n o t base vs
    → Stands true n o t base vs
turned_stand n o t base vs m h =
    let at = m.at in
    let within = slice_get_within vs m.index m.piece m.there in
    record {
      passed = λ q u. absurd (omega (arith, at, q));
      flying = λ j v e there.
          let same : m.index ≡ j = omega (arith, at, e) in
          let is : m.piece ≡ v =
          same_value m.piece v (sym m.there ∙ ap (slice_get vs) same ∙ there) in
          let before = h.flying j v e there in
          record {
            count = before.count;
            policy = λ u. ap (λ (z : Tally). z.1) (sym is) ∙ m.policy;
            kept = before.kept;
          };
      ahead = λ q. absurd (omega (arith, at, within, q));
    }
