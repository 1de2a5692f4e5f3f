-- Ascending offsets cut into runs.
use Rattle.std.proofs.Common.{ℕ, suc, ◌<◌, ◌≡◌, Bool, true, false, cond, not, eqb, ◌&&◌, List, [], ◌∷◌, ◌++◌, length}
use Rattle.std.proofs.Common.{flat_map, refl, sym, ap, ◌∙◌, ⊎_elim, arith, append_assoc}
use Rattle.std.specs.Prelude.{⊤}
use Rattle.std.specs.List.{AllByRecursion}
use Rattle.std.proofs.lemmas.Bool.{cases_Bool, and_parts, eqb-true, ne_eqb, not-true}
use Rattle.sctp_model.specs.Messages.{Plan, place_at, is_last}
use Rattle.sctp_reassembly.specs.Stands.{leads, led, runs_of}

-- the run leads on to another one: its last offset does
abbrev pub last_leads : Plan → List ℕ → List ℕ → Bool
last_leads p [] r = false
last_leads p (o ∷ []) r = leads p o r
last_leads p (o ∷ x ∷ xs) r = last_leads p (x ∷ xs) r

abbrev pub join_run : Plan → List ℕ → List (List ℕ) → List (List ℕ)
join_run p z [] = z ∷ []
join_run p z (k ∷ ks) = cond (last_leads p z k) ((z ++ k) ∷ ks) (z ∷ k ∷ ks)

-- runs, and those of later offsets
abbrev pub join_runs : Plan → List (List ℕ) → List (List ℕ) → List (List ℕ)
join_runs p [] hs = hs
join_runs p (z ∷ []) hs = join_run p z hs
join_runs p (z ∷ y ∷ zs) hs = z ∷ join_runs p (y ∷ zs) hs

led_join_run : (p : Plan) (a : ℕ) (z : List ℕ) (hs : List (List ℕ))
    → led p a (join_run p z hs) ≡ join_runs p (led p a (z ∷ [])) hs
led_join_run p a z [] =
    ⊎_elim (λ (b : leads p a z ≡ true). rw b refl) (λ (b : leads p a z ≡ false). rw b refl) (cases_Bool (leads p a z))
led_join_run p a [] (k ∷ ks) = refl
led_join_run p a (x ∷ xs) (k ∷ ks) =
    ⊎_elim
    (λ (b : leads p a (x ∷ xs) ≡ true).
    ⊎_elim
    (λ (c : last_leads p (x ∷ xs) k ≡ true). rw (b, c) (rw b refl))
    (λ (c : last_leads p (x ∷ xs) k ≡ false). rw (b, c) (rw b refl))
    (cases_Bool (last_leads p (x ∷ xs) k)))
    (λ (b : leads p a (x ∷ xs) ≡ false).
    ⊎_elim
    (λ (c : last_leads p (x ∷ xs) k ≡ true). rw (b, c) (rw b refl))
    (λ (c : last_leads p (x ∷ xs) k ≡ false). rw (b, c) (rw b refl))
    (cases_Bool (last_leads p (x ∷ xs) k)))
    (cases_Bool (leads p a (x ∷ xs)))

led_join_runs : (p : Plan) (a : ℕ) (gs hs : List (List ℕ)) → led p a (join_runs p gs hs) ≡ join_runs p (led p a gs) hs
led_join_runs p a [] [] = refl
led_join_runs p a [] (k ∷ ks) = refl
led_join_runs p a (z ∷ []) hs = led_join_run p a z hs
led_join_runs p a (z ∷ y ∷ zs) hs =
    ⊎_elim (λ (b : leads p a z ≡ true). rw b refl) (λ (b : leads p a z ≡ false). rw b refl) (cases_Bool (leads p a z))

pub runs_of_both : (p : Plan) (os qs : List ℕ) → runs_of p (os ++ qs) ≡ join_runs p (runs_of p os) (runs_of p qs)
runs_of_both p [] qs = refl
runs_of_both p (o ∷ os) qs = ap (led p o) (runs_of_both p os qs) ∙ led_join_runs p o (runs_of p os) (runs_of p qs)

pub join_last : (p : Plan) (zs : List (List ℕ)) (z : List ℕ) (hs : List (List ℕ))
    → join_runs p (zs ++ z ∷ []) hs ≡ zs ++ join_run p z hs
join_last p [] z hs = refl
join_last p (x ∷ []) z hs = refl
join_last p (x ∷ y ∷ ys) z hs = ap (λ t. x ∷ t) (join_last p (y ∷ ys) z hs)

-- What each run is.

-- each offset is followed by the next one, of the same message
abbrev pub IsChain : Plan → List ℕ → Type 0
IsChain p [] = ⊤
IsChain p (o ∷ []) = ⊤
IsChain p (o ∷ x ∷ xs) = (x ≡ suc o) × (is_last p (place_at p o) ≡ false) × IsChain p (x ∷ xs)

pub leads_to : (p : Plan) (o x : ℕ) (xs : List ℕ) → leads p o (x ∷ xs) ≡ true
    → (x ≡ suc o) × (is_last p (place_at p o) ≡ false)
leads_to p o x xs b =
    let t = and_parts (eqb x (suc o)) (not (is_last p (place_at p o))) b in
    (eqb-true x (suc o) t.0, not-true (is_last p (place_at p o)) t.1)

led_chain : (p : Plan) (o : ℕ) (r : List ℕ) → leads p o r ≡ true → IsChain p r → IsChain p (o ∷ r)
led_chain p o [] b a = tt
led_chain p o (x ∷ xs) b a = let t = leads_to p o x xs b in (t.0, t.1, a)

-- what holds of each run by itself
pub all_led : (P : List ℕ → Type 0) (p : Plan) (o : ℕ) (rs : List (List ℕ)) → P (o ∷ [])
    → ((r : List ℕ) → leads p o r ≡ true → P r → P (o ∷ r))
    → AllByRecursion P rs → AllByRecursion P (led p o rs)
all_led P p o [] one more a = (one, tt)
all_led P p o (r ∷ rs) one more a =
    ⊎_elim (λ (b : leads p o r ≡ true). rw b (more r b a.0, a.1)) (λ (b : leads p o r ≡ false). rw b (one, a))
    (cases_Bool (leads p o r))

pub chains : (p : Plan) (os : List ℕ) → AllByRecursion (IsChain p) (runs_of p os)
chains p [] = tt
chains p (o ∷ os) = all_led (IsChain p) p o (runs_of p os) tt (λ r b a. led_chain p o r b a) (chains p os)

pub some_in : (p : Plan) (os : List ℕ) → AllByRecursion (λ (r : List ℕ). 0 < length r) (runs_of p os)
some_in p [] = tt
some_in p (o ∷ os) =
    all_led (λ (r : List ℕ). 0 < length r) p o (runs_of p os) (let e : 0 < length (o ∷ []) = omega arith in e)
    (λ r b a. let e : 0 < length (o ∷ r) = omega arith in e) (some_in p os)

pub all_in : (P : ℕ → Type 0) (p : Plan) (os : List ℕ) → AllByRecursion P os
    → AllByRecursion (AllByRecursion P) (runs_of p os)
all_in P p [] a = tt
all_in P p (o ∷ os) a = all_led (AllByRecursion P) p o (runs_of p os) (a.0, tt) (λ r b x. (a.0, x)) (all_in P p os a.1)

-- The offsets of some runs.

abbrev pub joined : List (List ℕ) → List ℕ
joined rs = flat_map (λ (r : List ℕ). r) rs

pub joined_append : (rs qs : List (List ℕ)) → joined (rs ++ qs) ≡ joined rs ++ joined qs
joined_append [] qs = refl
joined_append (r ∷ rs) qs = ap (λ z. r ++ z) (joined_append rs qs) ∙ sym (append_assoc r (joined rs) (joined qs))

joined_led : (p : Plan) (o : ℕ) (rs : List (List ℕ)) → joined (led p o rs) ≡ o ∷ joined rs
joined_led p o [] = refl
joined_led p o (r ∷ rs) =
    ⊎_elim (λ (b : leads p o r ≡ true). rw b refl) (λ (b : leads p o r ≡ false). rw b refl) (cases_Bool (leads p o r))

pub joined_runs : (p : Plan) (os : List ℕ) → joined (runs_of p os) ≡ os
joined_runs p [] = refl
joined_runs p (o ∷ os) = joined_led p o (runs_of p os) ∙ ap (λ z. o ∷ z) (joined_runs p os)

-- the runs of the offsets of some of the runs are these
pub runs_parts : (p : Plan) (os : List ℕ) (gs hs : List (List ℕ)) → runs_of p os ≡ gs ++ hs
    → (runs_of p (joined gs) ≡ gs) × (runs_of p (joined hs) ≡ hs)
runs_parts p os [] hs e = (refl, ap (λ z. runs_of p (joined z)) (sym e) ∙ ap (runs_of p) (joined_runs p os) ∙ e)
runs_parts p [] (g ∷ gs) hs e = absurd (cc)
runs_parts p (o ∷ os) (g ∷ gs) hs e = go (runs_of p os) refl e (λ xs f. runs_parts p os xs hs f)
  where
    alone : (xs : List (List ℕ)) (r : List ℕ) (rs : List (List ℕ)) → leads p o r ≡ false → r ∷ rs ≡ xs ++ hs
        → led p o xs ≡ (o ∷ []) ∷ xs
    alone [] r rs b f = refl
    alone (x ∷ xs) r rs b f =
        let i : r ≡ x = cc in ap (λ z. cond z ((o ∷ x) ∷ xs) ((o ∷ []) ∷ x ∷ xs)) (sym (ap (leads p o) i) ∙ b)

    go : (rs : List (List ℕ)) → runs_of p os ≡ rs → led p o rs ≡ g ∷ (gs ++ hs)
        → ((xs : List (List ℕ)) → runs_of p os ≡ xs ++ hs → (runs_of p (joined xs) ≡ xs) × (runs_of p (joined hs) ≡ hs))
        → (runs_of p (joined (g ∷ gs)) ≡ g ∷ gs) × (runs_of p (joined hs) ≡ hs)
    go [] f i again = nothing gs hs (let y : [] ≡ gs ++ hs = cc in y) (let y : o ∷ [] ≡ g = cc in y)
      where
        nothing : (xs ys : List (List ℕ)) → [] ≡ xs ++ ys → o ∷ [] ≡ g
            → (runs_of p (joined (g ∷ xs)) ≡ g ∷ xs) × (runs_of p (joined ys) ≡ ys)
        nothing [] [] u v = rw (sym v) (refl, refl)
        nothing [] (y ∷ ys) u v = absurd (cc)
        nothing (x ∷ xs) ys u v = absurd (cc)
    go (r ∷ rs) f i again = ⊎_elim
        (λ (b : leads p o r ≡ true).
        let k : (o ∷ r) ∷ rs ≡ g ∷ (gs ++ hs) = rw b at i in
        let first : o ∷ r ≡ g = cc in
        let rest : rs ≡ gs ++ hs = cc in
        let t = again (r ∷ gs) (f ∙ ap (λ z. r ∷ z) rest) in (
          ap (λ z. runs_of p (z ++ joined gs)) (sym first) ∙ ap (led p o) t.0
              ∙ ap (λ z. cond z ((o ∷ r) ∷ gs) ((o ∷ []) ∷ r ∷ gs)) b ∙ ap (λ z. z ∷ gs) first,
          t.1,
        ))
        (λ (b : leads p o r ≡ false).
        let k : (o ∷ []) ∷ r ∷ rs ≡ g ∷ (gs ++ hs) = rw b at i in
        let first : o ∷ [] ≡ g = cc in
        let rest : r ∷ rs ≡ gs ++ hs = cc in
        let t = again gs (f ∙ rest) in (
          ap (λ z. runs_of p (z ++ joined gs)) (sym first) ∙ ap (led p o) t.0 ∙ alone gs r rs b rest
              ∙ ap (λ z. z ∷ gs) first,
          t.1,
        ))
        (cases_Bool (leads p o r))

-- with an offset between them that isn't there, no run goes from the ones to the others
pub runs_apart : (p : Plan) (n : ℕ) (os qs : List ℕ) → AllByRecursion (λ (x : ℕ). x < n) os
    → AllByRecursion (λ (x : ℕ). n < x) qs
    → runs_of p (os ++ qs) ≡ runs_of p os ++ runs_of p qs
runs_apart p n [] qs a b = refl
runs_apart p n (o ∷ os) qs a b =
    ap (led p o) (runs_apart p n os qs a.1 b) ∙ go (runs_of p os) (runs_of p qs) (all_in (λ (x : ℕ). n < x) p qs b)
  where
    no_lead : (r : List ℕ) → AllByRecursion (λ (x : ℕ). n < x) r → leads p o r ≡ false
    no_lead [] c = refl
    no_lead (x ∷ xs) c =
        let l = a.0 in
        let m = c.0 in
        ap (λ z. z && not (is_last p (place_at p o))) (ne_eqb x (suc o) (λ (e : x ≡ suc o). omega arith))

    go : (rs ks : List (List ℕ)) → AllByRecursion (AllByRecursion (λ (x : ℕ). n < x)) ks
        → led p o (rs ++ ks) ≡ led p o rs ++ ks
    go [] [] c = refl
    go [] (k ∷ ks) c = rw (no_lead k c.0) refl
    go (r ∷ rs) ks c =
        ⊎_elim (λ (e : leads p o r ≡ true). rw e refl) (λ (e : leads p o r ≡ false). rw e refl)
        (cases_Bool (leads p o r))
