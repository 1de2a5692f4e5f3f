-- A run that is a whole message, as the model finds it among the pieces of unordered messages.
use Rattle.std.proofs.Common.{ℕ, zero, suc, ◌+◌, ◌<◌, ◌≤◌, ◌≡◌, ◌⊎◌, Bool, true, false, cond, not, eqb, ◌&&◌, ◌||◌}
use Rattle.std.proofs.Common.{List, [], ◌∷◌, ◌++◌, map, Some, None, refl, sym, ap, ◌∙◌, subst, inl, inr, ⊎_elim, arith}
use Rattle.std.specs.List.{AllByRecursion}
use Rattle.std.proofs.lemmas.Bool.{cases_Bool, eqb-true, eq-eqb, ne_eqb, or_cases, and_parts, false_from_ne_true}
use Rattle.std.proofs.lemmas.Bool.{true≢false, false≢true, cond-true, cond-false}
use Rattle.sctp_model.specs.Messages.{Plan, place_at, is_last}
use Rattle.sctp_model.specs.Packets.{Data, mem, data_at}
use Rattle.sctp_model.specs.Reassembly.{Run, at, top, with_first, run_on, run_from, run_with, run_of, first_complete}
use Rattle.sctp_model.specs.Reassembly.{or_else}
use Rattle.sctp_model.specs.Safe.{AreRising}
use Rattle.sctp_model.specs.Invariants.{IsPlanned}
use Rattle.sctp_model.proofs.CompleteRuns.{at_top}
use Rattle.sctp_model.proofs.Lists.{all_back, all_both, all_join, all_mem, all_weaker}
use Rattle.sctp_reassembly.specs.Stands.{IsLoose, leads, led, runs_of}
use Rattle.sctp_reassembly.proofs.MessageRuns.{is_rest, longer, run_at, run_none}
use Rattle.sctp_reassembly.proofs.OffsetRuns.{leads_to}
use Rattle.sctp_reassembly.proofs.WholeMessages.{IsThere, all_there}

-- from its first offset on the run is found where its last offset is the last of its message
abbrev pub IsFound : Plan → ℕ → List Data → List ℕ → Type 0
IsFound p fuel held [] = ⊥
IsFound p fuel held (o ∷ r) =
    (at o held ≡ Some (data_at p o))
    × (run_from fuel o held ≡ cond (is_rest p (o ∷ r)) (Some (map (data_at p) (o ∷ r))) None)

-- what is held from the offset o on are these
abbrev pub AreHeldFrom : Plan → List Data → ℕ → List ℕ → Type 0
AreHeldFrom p held o os = (x : ℕ) → o ≤ x → at x held ≡ cond (mem x os) (Some (data_at p x)) None

-- the first of the runs begins with the first offset
pub led_first : (p : Plan) (o : ℕ) (rs : List (List ℕ))
    → (r : List ℕ) × (ks : List (List ℕ)) × (led p o rs ≡ (o ∷ r) ∷ ks)
led_first p o [] = ([], [], refl)
led_first p o (r ∷ rs) =
    ⊎_elim (λ (b : leads p o r ≡ true). (r, rs, rw b refl)) (λ (b : leads p o r ≡ false). ([], r ∷ rs, rw b refl))
    (cases_Bool (leads p o r))

not_below : (o x : ℕ) (os : List ℕ) → AreRising (o ∷ os) → x ≤ o → mem x os ≡ false
not_below o x os r l =
    false_from_ne_true (mem x os) (λ (m : mem x os ≡ true). let g =
    all_mem (λ (j : ℕ). o < j) os x r.0 m in omega arith)

held_later : (p : Plan) (held : List Data) (o x : ℕ) (xs : List ℕ) → AreRising (o ∷ x ∷ xs)
    → AreHeldFrom p held o (o ∷ x ∷ xs) → AreHeldFrom p held x (x ∷ xs)
held_later p held o x xs r a y l =
    let less = r.0.0 in
    a y (omega arith) ∙ ap (λ z. cond (z || mem y (x ∷ xs)) (Some (data_at p y)) None)
    (ne_eqb o y (λ (e : o ≡ y). omega arith))

-- the first run
first_found : (p : Plan) (fuel : ℕ) (held : List Data) (o : ℕ) (os : List ℕ) → AreRising (o ∷ os)
    → AreHeldFrom p held o (o ∷ os) → top held ≤ o + fuel
    → (r : List ℕ) × (ks : List (List ℕ)) × (runs_of p (o ∷ os) ≡ (o ∷ r) ∷ ks) × IsFound p fuel held (o ∷ r)
first_found p zero held o os r a f =
    absurd (let l = at_top o held (data_at p o) (a o (omega arith) ∙ rw (eq-eqb o o refl) refl) in omega arith)
first_found p (suc m) held o [] r a f = (
  [],
  [],
  refl,
  (
    here,
    ap (λ z. run_on z (run_from m (suc o) held)) here
        ∙ ⊎_elim
        (λ (l : is_last p (place_at p o) ≡ true). rw l refl)
        (λ (l : is_last p (place_at p o) ≡ false).
        rw (
          l,
          run_none m (suc o) held
              (a (suc o) (omega arith) ∙ rw (ne_eqb o (suc o) (λ (e : o ≡ suc o). omega arith)) refl),
        ) refl)
        (cases_Bool (is_last p (place_at p o))),
  ),
)
  where
    here : at o held ≡ Some (data_at p o)
    here = a o (omega arith) ∙ rw (eq-eqb o o refl) refl
first_found p (suc m) held o (x ∷ xs) r a f =
    go (first_found p m held x xs r.1 (held_later p held o x xs r a) (let l = r.0.0 in omega arith))
  where
    here : at o held ≡ Some (data_at p o)
    here = a o (omega arith) ∙ rw (eq-eqb o o refl) refl

    go : (s : List ℕ) × (ks : List (List ℕ)) × (runs_of p (x ∷ xs) ≡ (x ∷ s) ∷ ks) × IsFound p m held (x ∷ s)
        → (s : List ℕ) × (ks : List (List ℕ)) × (runs_of p (o ∷ x ∷ xs) ≡ (o ∷ s) ∷ ks) × IsFound p (suc m) held (o ∷ s)
    go (s, ks, e, u) = ⊎_elim
        (λ (l : is_last p (place_at p o) ≡ true). (
          [],
          (x ∷ s) ∷ ks,
          ap (led p o) e ∙ ap (λ z. cond (eqb x (suc o) && not z) ((o ∷ x ∷ s) ∷ ks) ((o ∷ []) ∷ (x ∷ s) ∷ ks)) l
              ∙ no_end (eqb x (suc o)),
          (here, ap (λ z. run_on z (run_from m (suc o) held)) here ∙ rw l refl),
        ))
        (λ (l : is_last p (place_at p o) ≡ false). ⊎_elim
        (λ (b : eqb x (suc o) ≡ true). (
          x ∷ s,
          ks,
          ap (led p o) e ∙ rw (b, l) refl,
          (
            here,
            ap (λ z. run_on z (run_from m (suc o) held)) here
                ∙ cond-false (is_last p (place_at p o)) (Some (data_at p o ∷ []))
                (with_first (data_at p o) (run_from m (suc o) held)) l
                ∙ ap (λ z. with_first (data_at p o) (run_from m z held)) (sym (eqb-true x (suc o) b))
                ∙ ap (with_first (data_at p o)) u.1
                ∙ longer (is_rest p (x ∷ s)) (data_at p o) (map (data_at p) (x ∷ s))
                ∙ ap (λ z. cond (z && is_rest p (x ∷ s)) (Some (map (data_at p) (o ∷ x ∷ s))) None) (sym b),
          ),
        ))
        (λ (b : eqb x (suc o) ≡ false). (
          [],
          (x ∷ s) ∷ ks,
          ap (led p o) e ∙ rw b refl,
          (
            here,
            ap (λ z. run_on z (run_from m (suc o) held)) here
                ∙ cond-false (is_last p (place_at p o)) (Some (data_at p o ∷ []))
                (with_first (data_at p o) (run_from m (suc o) held)) l
                ∙ ap (with_first (data_at p o)) (run_none m (suc o) held (missing b))
                ∙ ap (λ z. cond z (Some (map (data_at p) (o ∷ []))) None) (sym l),
          ),
        ))
        (cases_Bool (eqb x (suc o))))
        (cases_Bool (is_last p (place_at p o)))
      where
        no_end : (b : Bool) → cond (b && false) ((o ∷ x ∷ s) ∷ ks) ((o ∷ []) ∷ (x ∷ s) ∷ ks) ≡ (o ∷ []) ∷ (x ∷ s) ∷ ks
        no_end true = refl
        no_end false = refl

        missing : eqb x (suc o) ≡ false → at (suc o) held ≡ None
        missing b =
            let less = r.0.0 in
            let out : mem (suc o) xs ≡ false = not_below x (suc o) xs r.1 (omega arith) in
            a (suc o) (omega arith) ∙ rw (ne_eqb o (suc o) (λ (e : o ≡ suc o). omega arith), b, out) refl

led_rest : (P : List ℕ → Type 0) (p : Plan) (o : ℕ) (rs : List (List ℕ)) (k : List ℕ) (ks : List (List ℕ))
    → led p o rs ≡ k ∷ ks → AllByRecursion P rs → AllByRecursion P ks
led_rest P p o [] k ks e a = subst (AllByRecursion P) (let y : [] ≡ ks = cc in y) tt
led_rest P p o (r ∷ rs) k ks e a =
    ⊎_elim
    (λ (b : leads p o r ≡ true). let i : (o ∷ r) ∷ rs ≡ k ∷ ks = rw b at e in
    subst (AllByRecursion P) (let y : rs ≡ ks = cc in y) a.1)
    (λ (b : leads p o r ≡ false). let i : (o ∷ []) ∷ r ∷ rs ≡ k ∷ ks = rw b at e in
    subst (AllByRecursion P) (let y : r ∷ rs ≡ ks = cc in y) a)
    (cases_Bool (leads p o r))

first_and : (p : Plan) (fuel : ℕ) (held : List Data) (o : ℕ) (os : List ℕ) → AreRising (o ∷ os)
    → AreHeldFrom p held o (o ∷ os) → top held ≤ fuel
    → AllByRecursion (IsFound p fuel held) (runs_of p os) → AllByRecursion (IsFound p fuel held) (runs_of p (o ∷ os))
first_and p fuel held o os r a t rest =
    let f = first_found p fuel held o os r a (omega arith) in
    subst (AllByRecursion (IsFound p fuel held)) (sym f.2)
    (f.3, led_rest (IsFound p fuel held) p o (runs_of p os) (o ∷ f.0) f.1 f.2 rest)

-- each run
pub all_found : (p : Plan) (fuel : ℕ) (held : List Data) (o : ℕ) (os : List ℕ) → AreRising (o ∷ os)
    → AreHeldFrom p held o (o ∷ os) → top held ≤ fuel
    → AllByRecursion (IsFound p fuel held) (runs_of p (o ∷ os))
all_found p fuel held o [] r a t = first_and p fuel held o [] r a t tt
all_found p fuel held o (x ∷ xs) r a t =
    first_and p fuel held o (x ∷ xs) r a t (all_found p fuel held x xs r.1 (held_later p held o x xs r a) t)

module _ {p : Plan} {over : ℕ → Bool} (s x : ℕ) (h : IsPlanned p over) (z : (place_at p x).piece ≡ 0) where
  -- a piece that begins a message begins a run
  pub begins_run : (P : List ℕ → Type 0) (os : List ℕ) → AllByRecursion (IsLoose p s) os → mem x os ≡ true
      → AllByRecursion P (runs_of p os) → (r : List ℕ) × P (x ∷ r)
  begins_run P [] a m all = absurd (false≢true m)
  begins_run P (o ∷ os) a m all =
      ⊎_elim
      (λ (e : eqb o x ≡ true).
      let f = led_first p o (runs_of p os) in
      let t = subst (AllByRecursion P) f.2 all in
      (f.0, subst (λ y. P (y ∷ f.0)) (eqb-true o x e) t.0))
      (λ (k : mem x os ≡ true). go (runs_of p os) refl k all (λ Q t. begins_run Q os a.1 k t))
      (or_cases (eqb o x) (mem x os) m)
    where
      no_lead : mem x os ≡ true → (r : List ℕ) → leads p o (x ∷ r) ≡ true → ⊥
      no_lead k r b =
          let t = leads_to p o x r b in
          let first = a.0 in
          let mine = all_mem (IsLoose p s) os x a.1 k in
          let known = mine.at.known in
          let next = t.0 in
          let w = h.after o (omega arith) t.1 first.sent in
          let piece = w.piece in
          let none : (place_at p (suc o)).piece ≡ 0 = ap (λ y. (place_at p y).piece) (sym next) ∙ z in
          omega arith

      go : (rs : List (List ℕ)) → runs_of p os ≡ rs → mem x os ≡ true → AllByRecursion P (led p o rs)
          → ((Q : List ℕ → Type 0) → AllByRecursion Q (runs_of p os) → (r : List ℕ) × Q (x ∷ r))
          → (r : List ℕ) × P (x ∷ r)
      go [] e k b again = again P (subst (AllByRecursion P) (sym e) tt)
      go (y ∷ ys) e k b again = ⊎_elim
          (λ (l : leads p o y ≡ true).
          let c : AllByRecursion P ((o ∷ y) ∷ ys) = rw l at b in
          let i = again (λ (r : List ℕ). (r ≡ y) ⊎ P r) (subst (AllByRecursion (λ (r : List ℕ). (r ≡ y) ⊎ P r)) (sym e)
          (inl refl, all_weaker P (λ (r : List ℕ). (r ≡ y) ⊎ P r) ys (λ r q. inr q) c.1)) in
          ⊎_elim (λ (same : x ∷ i.0 ≡ y). absurd (no_lead k i.0 (ap (leads p o) same ∙ l)))
          (λ (q : P (x ∷ i.0)). (i.0, q)) i.1)
          (λ (l : leads p o y ≡ false).
          let c : AllByRecursion P ((o ∷ []) ∷ y ∷ ys) = rw l at b in
          again P (subst (AllByRecursion P) (sym e) c.1))
          (cases_Bool (leads p o y))

-- The first whole message among those held.

find_none : (held ds : List Data) → AllByRecursion (λ (d : Data). d.first ≡ true → run_of held d ≡ None) ds
    → first_complete held ds ≡ None
find_none held [] a = refl
find_none held (x ∷ xs) a =
    ⊎_elim
    (λ (b : x.first ≡ true).
    cond-true x.first (or_else (run_of held x) (first_complete held xs)) (first_complete held xs) b
    ∙ ap (λ z. or_else z (first_complete held xs)) (a.0 b) ∙ find_none held xs a.1)
    (λ (b : x.first ≡ false).
    cond-false x.first (or_else (run_of held x) (first_complete held xs)) (first_complete held xs) b
    ∙ find_none held xs a.1)
    (cases_Bool x.first)

abbrev IsNoneOr : List Data → Run → Data → Type 0
IsNoneOr held r d = d.first ≡ true → (run_of held d ≡ None) ⊎ (run_of held d ≡ Some r)

find_one : (held ds : List Data) (r : Run) (o : ℕ) (d : Data) → AllByRecursion (IsNoneOr held r) ds → at o ds ≡ Some d
    → d.first ≡ true → run_of held d ≡ Some r
    → first_complete held ds ≡ Some r
find_one held [] r o d a e f g = absurd (cc)
find_one held (x ∷ xs) r o d a e f g =
    let later : eqb x.offset o ≡ false → first_complete held xs ≡ Some r
    = (λ c. find_one held xs r o d a.1 (sym (cond-false (eqb x.offset o) (Some x) (at o xs) c) ∙ e) f g) in
    ⊎_elim
    (λ (b : x.first ≡ true).
    cond-true x.first (or_else (run_of held x) (first_complete held xs)) (first_complete held xs) b
    ∙ ⊎_elim
    (λ (n : run_of held x ≡ None).
    ap (λ z. or_else z (first_complete held xs)) n
    ∙ ⊎_elim
    (λ (c : eqb x.offset o ≡ true). absurd (none_some (sym n ∙ ap (run_of held) (is c) ∙ g)))
    (λ (c : eqb x.offset o ≡ false). later c)
    (cases_Bool (eqb x.offset o)))
    (λ (n : run_of held x ≡ Some r). ap (λ z. or_else z (first_complete held xs)) n)
    (a.0 b))
    (λ (b : x.first ≡ false).
    cond-false x.first (or_else (run_of held x) (first_complete held xs)) (first_complete held xs) b
    ∙ ⊎_elim
    (λ (c : eqb x.offset o ≡ true). absurd (true≢false (sym (ap (λ z. z.first) (is c) ∙ f) ∙ b)))
    (λ (c : eqb x.offset o ≡ false). later c)
    (cases_Bool (eqb x.offset o)))
    (cases_Bool x.first)
  where
    none_some : None ≡ Some r → ⊥
    none_some i = cc

    is : eqb x.offset o ≡ true → x ≡ d
    is c = let y : Some x ≡ Some d = sym (cond-true (eqb x.offset o) (Some x) (at o xs) c) ∙ e in cc

-- the offsets of a run are those of a whole message
abbrev pub is_whole : Plan → List ℕ → Bool
is_whole p [] = false
is_whole p (o ∷ r) = eqb (place_at p o).piece 0 && is_rest p (o ∷ r)

found_so : (p : Plan) (held : List Data) (d : Data) (o : ℕ) (r : List ℕ) (b : Bool) → d ≡ data_at p o
    → run_from (top held) o held ≡ cond b (Some (map (data_at p) (o ∷ r))) None
    → run_of held d ≡ cond b (Some (run_at p o r)) None
found_so p held d o r true e f =
    ap (λ z. run_with z (run_from (top held) z.offset held)) e ∙ ap (run_with (data_at p o)) f
found_so p held d o r false e f =
    ap (λ z. run_with z (run_from (top held) z.offset held)) e ∙ ap (run_with (data_at p o)) f

-- the pieces held, as they are
pub record AreHeld (p : Plan) (s : ℕ) (held : List Data) (os : List ℕ) : Type 0 where
  pub ascends : AreRising os
  pub mine : AllByRecursion (IsLoose p s) os
  pub same : (x : ℕ) → at x held ≡ cond (mem x os) (Some (data_at p x)) None
  pub exact : AllByRecursion (λ (d : Data). d ≡ data_at p d.offset) held

in_offsets : (p : Plan) (held : List Data) (os : List ℕ) (x : ℕ) (d : Data)
    → ((x : ℕ) → at x held ≡ cond (mem x os) (Some (data_at p x)) None) → at x held ≡ Some d
    → mem x os ≡ true
in_offsets p held os x d same e =
    ⊎_elim
    (λ (b : mem x os ≡ true). b)
    (λ (b : mem x os ≡ false).
    absurd (none_some (sym (cond-false (mem x os) (Some (data_at p x)) None b) ∙ sym (same x) ∙ e)))
    (cases_Bool (mem x os))
  where
    none_some : None ≡ Some d → ⊥
    none_some i = cc

runs_found : (p : Plan) (s : ℕ) (held : List Data) (os : List ℕ) → AreHeld p s held os
    → AllByRecursion (IsFound p (top held) held) (runs_of p os)
runs_found p s held [] a = tt
runs_found p s held (o ∷ os) a = all_found p (top held) held o os a.ascends (λ x l. a.same x) (omega arith)

module _ {p : Plan} {over : ℕ → Bool} {s : ℕ} {held : List Data} {os : List ℕ} (h : IsPlanned p over)
    (a : AreHeld p s held os) where
  -- what the model finds, where no run but one may be a whole message
  pub whole_found : (gs hs : List (List ℕ)) (o : ℕ) (r : List ℕ) → runs_of p os ≡ gs ++ (o ∷ r) ∷ hs
      → AllByRecursion (λ (k : List ℕ). is_whole p k ≡ false) gs
      → AllByRecursion (λ (k : List ℕ). is_whole p k ≡ false) hs
      → first_complete held held ≡ cond (is_whole p (o ∷ r)) (Some (run_at p o r)) None
  whole_found gs hs o r e u v = go (is_whole p (o ∷ r)) refl
    where
      found : AllByRecursion (IsFound p (top held) held) (gs ++ (o ∷ r) ∷ hs)
      found = subst (AllByRecursion (IsFound p (top held) held)) e (runs_found p s held os a)

      -- of each piece that begins a message
      first_piece : (P : List ℕ → Type 0) → AllByRecursion P (gs ++ (o ∷ r) ∷ hs) → (d : Data)
          → (d ≡ data_at p d.offset) × IsThere held d.offset → d.first ≡ true
          → (k : List ℕ) × ((P (d.offset ∷ k) × IsFound p (top held) held (d.offset ∷ k))
          × ((place_at p d.offset).piece ≡ 0))
      first_piece P t d i f =
          let zero_there : (place_at p d.offset).piece ≡ 0 = eqb-true _ _ (sym (ap (λ z. z.first) i.0) ∙ f) in
          let b =
          begins_run s d.offset h zero_there (λ (k : List ℕ). P k × IsFound p (top held) held k) os a.mine
          (in_offsets p held os d.offset i.1.0 a.same i.1.1)
          (subst (AllByRecursion (λ (k : List ℕ). P k × IsFound p (top held) held k)) (sym e)
          (all_both P (IsFound p (top held) held) (gs ++ (o ∷ r) ∷ hs) t found)) in
          (b.0, (b.1, zero_there))

      there : AllByRecursion (λ (d : Data). (d ≡ data_at p d.offset) × IsThere held d.offset) held
      there =
          all_both (λ (d : Data). d ≡ data_at p d.offset) (λ (d : Data). IsThere held d.offset) held a.exact
          (all_there held)

      not_whole : (d : Data) (k : List ℕ) → d ≡ data_at p d.offset → is_whole p (d.offset ∷ k) ≡ false
          → IsFound p (top held) held (d.offset ∷ k) → (place_at p d.offset).piece ≡ 0
          → run_of held d ≡ None
      not_whole d k i w f z =
          let out : is_rest p (d.offset ∷ k) ≡ false =
          sym (ap (λ y. y && is_rest p (d.offset ∷ k)) (eq-eqb (place_at p d.offset).piece 0 z)) ∙ w in
          found_so p held d d.offset k (is_rest p (d.offset ∷ k)) i f.1
          ∙ ap (λ y. cond y (Some (run_at p d.offset k)) None) out

      go : (b : Bool) → is_whole p (o ∷ r) ≡ b → first_complete held held ≡ cond b (Some (run_at p o r)) None
      go false w = find_none held held (all_weaker _ _ held (λ d i f.
          let k =
          first_piece (λ (x : List ℕ). is_whole p x ≡ false)
          (all_join (λ (x : List ℕ). is_whole p x ≡ false) gs ((o ∷ r) ∷ hs) u (w, v)) d i f in
          let kk = k.1.0 in
          not_whole d k.0 i.0 kk.0 kk.1 k.1.1) there)
      go true w =
          let mine = all_back (IsFound p (top held) held) gs ((o ∷ r) ∷ hs) found in
          let parts = and_parts (eqb (place_at p o).piece 0) (is_rest p (o ∷ r)) w in
          let one : (d : Data) → d ≡ data_at p o → run_of held d ≡ Some (run_at p o r)
          =
          (λ d i. found_so p held d o r (is_rest p (o ∷ r)) i mine.0.1
          ∙ ap (λ y. cond y (Some (run_at p o r)) None) parts.1) in
          find_one held held (run_at p o r) o (data_at p o) (all_weaker _ _ held (λ d i f.
          let k = first_piece (λ (x : List ℕ). (is_whole p x ≡ false) ⊎ (x ≡ o ∷ r))
          (all_join (λ (x : List ℕ). (is_whole p x ≡ false) ⊎ (x ≡ o ∷ r)) gs ((o ∷ r) ∷ hs)
          (all_weaker _ _ gs (λ x y. inl y) u) (inr refl, all_weaker _ _ hs (λ x y. inl y) v)) d i f in
          let kk = k.1.0 in
          ⊎_elim
          (λ (y : is_whole p (d.offset ∷ k.0) ≡ false). inl (not_whole d k.0 i.0 y kk.1 k.1.1))
          (λ (y : d.offset ∷ k.0 ≡ o ∷ r). inr (one d (i.0 ∙ ap (data_at p) (let z : d.offset ≡ o = cc in z))))
          kk.0) there) mine.0.0 parts.0 (one (data_at p o) refl)
