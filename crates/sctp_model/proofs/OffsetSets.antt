-- Lists, sets of offsets and numbers.
use Rattle.std.proofs.Common.{ℕ, zero, suc, ◌+◌, ◌<◌, ◌≤◌, ◌≡◌, ◌⊎◌, Bool, true, false, eqb, ltb, List, [], ◌∷◌, sym}
use Rattle.std.proofs.Common.{◌∙◌, subst, inl, inr, ⊎_elim, arith}
use Rattle.std.specs.Prelude.{filter}
use Rattle.std.proofs.lemmas.Bool.{cases_Bool, cases_lt, cases_eq, or_cases, or_left, or_right, eqb-true, ltb-true}
use Rattle.std.proofs.lemmas.Bool.{lt-ltb, le-leb, true≢false, false≢true, false_from_ne_true}
use Rattle.sctp_model.specs.Packets.{mem, names}
use Rattle.sctp_model.specs.Machine.{Receiver, climb, past_all, reach, sack_of}

-- Sets of offsets

pub mem_past : (o : ℕ) (xs : List ℕ) → mem o xs ≡ true → o < past_all xs
mem_past o [] m = absurd (false≢true m)
mem_past o (x ∷ xs) m =
    ⊎_elim (λ (e : eqb x o ≡ true). omega (arith, eqb-true x o e))
    (λ (r : mem o xs ≡ true). omega (arith, mem_past o xs r)) (or_cases (eqb x o) (mem o xs) m)

-- the climb stops at the first offset that isn't a member, since it has fuel enough
pub climb_from : (xs : List ℕ) (n p : ℕ) → p ≤ climb xs n p
climb_from xs zero p = omega arith
climb_from xs (suc n) p =
    ⊎_elim (λ (b : mem p xs ≡ true). rw b (omega (arith, climb_from xs n (suc p))))
    (λ (b : mem p xs ≡ false). rw b (omega arith)) (cases_Bool (mem p xs))

pub climb_in : (xs : List ℕ) (n p o : ℕ) → p ≤ o → o < climb xs n p → mem o xs ≡ true
climb_in xs zero p o a b = absurd (omega arith)
climb_in xs (suc n) p o a b =
    ⊎_elim
    (λ (m : mem p xs ≡ true).
    let b' = rw m at b in
    ⊎_elim (λ (e : p ≡ o). rw (← e) m) (λ (ne : p ≡ o → ⊥). climb_in xs n (suc p) o (omega (arith, ne)) b')
    (cases_eq p o))
    (λ (m : mem p xs ≡ false). let b' = rw m at b in absurd (omega arith))
    (cases_Bool (mem p xs))

climb_stops : (xs : List ℕ) (n p : ℕ) → past_all xs ≤ p + n → mem (climb xs n p) xs ≡ false
climb_stops xs zero p h = false_from_ne_true _ (λ (m : mem p xs ≡ true). omega (arith, mem_past p xs m))
climb_stops xs (suc n) p h =
    ⊎_elim (λ (b : mem p xs ≡ true). rw b (climb_stops xs n (suc p) (omega arith))) (λ (b : mem p xs ≡ false). rw b b)
    (cases_Bool (mem p xs))

pub reach_from : (r : Receiver) → r.passed ≤ reach r
reach_from r = climb_from r.taken (past_all r.taken) r.passed

pub reach_below : (r : Receiver) (o : ℕ) → o < reach r → (mem o r.taken ≡ true) ⊎ (o < r.passed)
reach_below r o h =
    ⊎_elim (λ (l : o < r.passed). inr l)
    (λ (g : r.passed ≤ o). inl (climb_in r.taken (past_all r.taken) r.passed o g h)) (cases_lt o r.passed)

pub reach_stops : (r : Receiver) → mem (reach r) r.taken ≡ false
reach_stops r = climb_stops r.taken (past_all r.taken) r.passed (omega arith)

-- a receiver that took in or passed over all that another did has its reach at least there
pub reach_grows : (r t : Receiver) → ((o : ℕ) → mem o r.taken ≡ true → mem o t.taken ≡ true) → r.passed ≤ t.passed
    → reach r ≤ reach t
reach_grows r t more far =
    ⊎_elim
    (λ (l : reach t < reach r).
    ⊎_elim
    (λ (m : mem (reach t) r.taken ≡ true). absurd (true≢false (sym (more _ m) ∙ reach_stops t)))
    (λ (b : reach t < r.passed). absurd (let f = reach_from t in omega arith))
    (reach_below r (reach t) l))
    (λ (g : reach r ≤ reach t). g)
    (cases_lt (reach t) (reach r))

pub mem-filter : (p : ℕ → Bool) (o : ℕ) (xs : List ℕ) → p o ≡ true → mem o xs ≡ true → mem o (filter p xs) ≡ true
mem-filter p o [] h m = m
mem-filter p o (x ∷ xs) h m =
    ⊎_elim
    (λ (e : eqb x o ≡ true). rw (subst (λ (y : ℕ). p y ≡ true) (sym (eqb-true x o e)) h) (or_left _ _ e))
    (λ (r : mem o xs ≡ true).
    ⊎_elim
    (λ (b : p x ≡ true). rw b (or_right _ _ (mem-filter p o xs h r)))
    (λ (b : p x ≡ false). rw b (mem-filter p o xs h r))
    (cases_Bool (p x)))
    (or_cases (eqb x o) (mem o xs) m)

pub mem_from_filter : (p : ℕ → Bool) (o : ℕ) (xs : List ℕ) → mem o (filter p xs) ≡ true → mem o xs ≡ true
mem_from_filter p o [] m = m
mem_from_filter p o (x ∷ xs) m =
    ⊎_elim
    (λ (b : p x ≡ true).
    ⊎_elim (λ (e : eqb x o ≡ true). or_left _ _ e)
    (λ (r : mem o (filter p xs) ≡ true). or_right _ _ (mem_from_filter p o xs r))
    (or_cases (eqb x o) (mem o (filter p xs)) (rw b at m)))
    (λ (b : p x ≡ false). or_right _ _ (mem_from_filter p o xs (rw b at m)))
    (cases_Bool (p x))

pub sack_named : (r : Receiver) (o : ℕ) → names (sack_of r) o ≡ true → (o < reach r) ⊎ (mem o r.taken ≡ true)
sack_named r o h =
    ⊎_elim (λ (l : ltb o (reach r) ≡ true). inl (ltb-true _ _ l))
    (λ (m : mem o (sack_of r).above ≡ true). inr (mem_from_filter _ o r.taken m)) (or_cases _ _ h)

pub sack_names : (r : Receiver) (o : ℕ) → (o < reach r) ⊎ (mem o r.taken ≡ true) → names (sack_of r) o ≡ true
sack_names r o (inl l) = or_left _ _ (lt-ltb _ _ l)
sack_names r o (inr m) =
    ⊎_elim (λ (l : o < reach r). or_left _ _ (lt-ltb _ _ l))
    (λ (g : reach r ≤ o). or_right _ _ (mem-filter _ o r.taken (le-leb _ _ g) m)) (cases_lt o (reach r))
