-- The TSNs held past the receiver's last TSN in order, as a set of numbers, and what they are of the offsets that came.
use Rattle.std.proofs.Common.{ℕ, suc, ◌+◌, ◌-◌, ◌%◌, ◌^◌, ◌<◌, ◌≤◌, ◌≡◌, Bool, true, false, not, eqb, ltb}
use Rattle.std.proofs.Common.{◌&&◌, List, [], ◌∷◌, length, refl, sym, ap, ◌∙◌, subst, ⊎_elim, arith}
use Rattle.std.specs.List.{AllByRecursion, list_any}
use Rattle.std.specs.List.Sorted.{IsStrictlySortedBy}
use Rattle.std.specs.Ordering.{match_ordering, nat_cmp}
use Rattle.std.specs.declared.cmp.Ordering.TheVariants.{Less}
use Rattle.std.specs.BTreeMap.{is_at}
use Rattle.std.specs.BTreeSet.{insert_key}
use Rattle.std.specs.Cmp.{both_ways}
use Rattle.std.specs.Set.{remove_key}
use Rattle.std.proofs.lemmas.Bool.{and_from, and_left, and_right, cases_Bool, cases_eq, cases_lt, cond_both, eq-eqb}
use Rattle.std.proofs.lemmas.Bool.{eqb-true, eqb-false, false≢true, le-leb, le-ltb, lt-leb, lt-ltb, ltb-false, ltb-true}
use Rattle.std.proofs.lemmas.Bool.{ne_eqb, or_cases, or_left, or_right}
use Rattle.std.proofs.lemmas.Cmp.{ranked}
use Rattle.sctp_serial.specs.Serial.{tsn_past, tsn}
use Rattle.sctp_received.specs.Received.{has_offset, is_held, is_held_at}
use Rattle.sctp_model.specs.Packets.{mem}
use Rattle.sctp_model.proofs.Lists.{all_mem, all_weaker}
use Rattle.sctp_fit.specs.HeldSet.{BlocksNameWhatCame, HoldsPast, IsPast, NewTsnsDidNotCome, NothingIsHeldAtFirst}
use Rattle.sctp_fit.specs.HeldSet.{peer_last_tsn_of}
use Rattle.sctp_fit.specs.Incoming.{Receiving, offset_of, reach_of}

-- Sets of numbers, as lists that ascend

-- a key is found where it is equal
at_is : (t x : ℕ) → is_at (nat_cmp t) x ≡ eqb x t
at_is t x = ⊎_elim
    (λ (b : ltb t x ≡ true). rw b (sym (ne_eqb x t (λ (e : x ≡ t). let l = ltb-true t x b in omega arith))))
    (λ (b : ltb t x ≡ false). rw b (⊎_elim
    (λ (e : x ≡ t). rw (eq-eqb t x (sym e)) (sym (eq-eqb x t e)))
    (λ (ne : x ≡ t → ⊥). rw (ne_eqb t x (λ (e : t ≡ x). ne (sym e))) (sym (ne_eqb x t ne)))
    (cases_eq x t)))
    (cases_Bool (ltb t x))

-- a TSN is held where it is a member
pub held_is : (t : ℕ) (ks : List ℕ) → is_held t ks ≡ mem t ks
held_is t [] = refl
held_is t (x ∷ xs) = rw (at_is t x, held_is t xs) refl

-- by the place that one number has against another
module _ (P : List ℕ → Type 0) (k x : ℕ) (a b c : List ℕ) where
  by_order : (k < x → P a) → (k ≡ x → P b) → (x < k → P c) → P (match_ordering (nat_cmp k x) a b c)
  by_order less same more = ⊎_elim
      (λ (t : ltb k x ≡ true). rw t (less (ltb-true k x t)))
      (λ (t : ltb k x ≡ false). rw t (⊎_elim
      (λ (u : eqb k x ≡ true). rw u (same (eqb-true k x u)))
      (λ (u : eqb k x ≡ false).
      rw u (more (let g = ltb-false k x t in let ne = eqb-false k x u in omega (arith, ne))))
      (cases_Bool (eqb k x))))
      (cases_Bool (ltb k x))

less_from : (k x : ℕ) → k < x → nat_cmp k x ≡ Less
less_from k x l = rw (lt-ltb k x l) refl

less_is : (k x : ℕ) → nat_cmp k x ≡ Less → k < x
less_is k x e = ranked k x Less (sym e)

module _ (k : ℕ) where
  -- a number that is put in is a member, and so is each that was
  pub insert_here : (xs : List ℕ) → mem k (insert_key nat_cmp xs k) ≡ true
  insert_here [] = or_left _ _ (eq-eqb k k refl)
  insert_here (x ∷ xs) =
      by_order (λ zs. mem k zs ≡ true) k x (k ∷ x ∷ xs) (x ∷ xs) (x ∷ insert_key nat_cmp xs k)
      (λ l. or_left (eqb k k) _ (eq-eqb k k refl)) (λ e. or_left (eqb x k) _ (eq-eqb x k (sym e)))
      (λ l. or_right (eqb x k) _ (insert_here xs))

  pub insert_keeps : (y : ℕ) (xs : List ℕ) → mem y xs ≡ true → mem y (insert_key nat_cmp xs k) ≡ true
  insert_keeps y [] m = absurd (false≢true m)
  insert_keeps y (x ∷ xs) m =
      by_order (λ zs. mem y zs ≡ true) k x (k ∷ x ∷ xs) (x ∷ xs) (x ∷ insert_key nat_cmp xs k)
      (λ l. or_right (eqb k y) _ m) (λ e. m)
      (λ l. ⊎_elim
      (λ (e : eqb x y ≡ true). or_left (eqb x y) _ e)
      (λ (r : mem y xs ≡ true). or_right (eqb x y) _ (insert_keeps y xs r))
      (or_cases (eqb x y) (mem y xs) m))

  pub insert_all : (P : ℕ → Type 0) (xs : List ℕ) → P k → AllByRecursion P xs
      → AllByRecursion P (insert_key nat_cmp xs k)
  insert_all P [] h a = (h, tt)
  insert_all P (x ∷ xs) h a =
      by_order (AllByRecursion P) k x (k ∷ x ∷ xs) (x ∷ xs) (x ∷ insert_key nat_cmp xs k)
      (λ l. (h, a)) (λ e. a) (λ l. (a.0, insert_all P xs h a.1))

  -- the list still ascends
  pub insert_ascends : (xs : List ℕ) → IsStrictlySortedBy nat_cmp xs
      → IsStrictlySortedBy nat_cmp (insert_key nat_cmp xs k)
  unfolding IsStrictlySortedBy
  insert_ascends [] s = (tt, tt)
  insert_ascends (x ∷ xs) s =
      by_order (IsStrictlySortedBy nat_cmp) k x (k ∷ x ∷ xs) (x ∷ xs) (x ∷ insert_key nat_cmp xs k)
      (λ l. (
        (
          less_from k x l,
          all_weaker (λ y. nat_cmp x y ≡ Less) (λ y. nat_cmp k y ≡ Less) xs
              (λ y b. less_from k y (let u = less_is x y b in omega arith)) s.0,
        ),
        s,
      ))
      (λ e. s)
      (λ l. (insert_all (λ y. nat_cmp x y ≡ Less) xs (less_from x k l) s.0, insert_ascends xs s.1))

module _ (t : ℕ) where
  -- the list without a number
  abbrev pub without : List ℕ → List ℕ
  without xs = remove_key (is_at (nat_cmp t)) xs

  pub without_keeps : (y : ℕ) (xs : List ℕ) → (y ≡ t → ⊥) → mem y xs ≡ true → mem y (without xs) ≡ true
  without_keeps y [] ne m = absurd (false≢true m)
  without_keeps y (x ∷ xs) ne m =
      cond_both (is_at (nat_cmp t) x) xs (x ∷ without xs) (λ zs. mem y zs ≡ true)
      (λ b. ⊎_elim
      (λ (e : eqb x y ≡ true).
      absurd (ne (sym (eqb-true x y e) ∙ eqb-true x t (sym (at_is t x) ∙ b))))
      (λ (r : mem y xs ≡ true). r)
      (or_cases (eqb x y) (mem y xs) m))
      (λ b. ⊎_elim
      (λ (e : eqb x y ≡ true). or_left (eqb x y) _ e)
      (λ (r : mem y xs ≡ true). or_right (eqb x y) _ (without_keeps y xs ne r))
      (or_cases (eqb x y) (mem y xs) m))

  pub without_all : (P : ℕ → Type 0) (xs : List ℕ) → AllByRecursion P xs → AllByRecursion P (without xs)
  without_all P [] a = tt
  without_all P (x ∷ xs) a =
      cond_both (is_at (nat_cmp t) x) xs (x ∷ without xs) (AllByRecursion P) (λ b. a.1)
      (λ b. (a.0, without_all P xs a.1))

  pub without_ascends : (xs : List ℕ) → IsStrictlySortedBy nat_cmp xs → IsStrictlySortedBy nat_cmp (without xs)
  unfolding IsStrictlySortedBy
  without_ascends [] s = tt
  without_ascends (x ∷ xs) s =
      cond_both (is_at (nat_cmp t) x) xs (x ∷ without xs) (IsStrictlySortedBy nat_cmp) (λ b. s.1)
      (λ b. (without_all (λ y. nat_cmp x y ≡ Less) xs s.0, without_ascends xs s.1))

  -- each number is there once, so it is there no more
  pub without_all_apart : (xs : List ℕ) → IsStrictlySortedBy nat_cmp xs → AllByRecursion (λ y. y ≡ t → ⊥) (without xs)
  unfolding IsStrictlySortedBy
  without_all_apart [] s = tt
  without_all_apart (x ∷ xs) s =
      cond_both (is_at (nat_cmp t) x) xs (x ∷ without xs) (AllByRecursion (λ y. y ≡ t → ⊥))
      (λ b. all_weaker (λ y. nat_cmp x y ≡ Less) (λ y. y ≡ t → ⊥) xs
      (λ y l (e : y ≡ t). let u = less_is x y l in let v = eqb-true x t (sym (at_is t x) ∙ b) in omega arith) s.0)
      (λ b. (λ (e : x ≡ t). false≢true (sym b ∙ at_is t x ∙ eq-eqb x t e), without_all_apart xs s.1))

  pub without_shorter : (xs : List ℕ) → mem t xs ≡ true → suc (length (without xs)) ≡ length xs
  without_shorter [] m = absurd (false≢true m)
  without_shorter (x ∷ xs) m =
      cond_both (is_at (nat_cmp t) x) xs (x ∷ without xs) (λ zs. suc (length zs) ≡ suc (length xs)) (λ b. refl)
      (λ b. ⊎_elim
      (λ (e : eqb x t ≡ true). absurd (false≢true (sym b ∙ at_is t x ∙ e)))
      (λ (r : mem t xs ≡ true). ap suc (without_shorter xs r))
      (or_cases (eqb x t) (mem t xs) m))

-- a test that a member passes, and one that none passes but those of which something holds
pub any_in : (f : ℕ → Bool) (x : ℕ) (xs : List ℕ) → mem x xs ≡ true → f x ≡ true → list_any f xs ≡ true
any_in f x [] m h = absurd (false≢true m)
any_in f x (y ∷ ys) m h = ⊎_elim
    (λ (e : eqb y x ≡ true). or_left (f y) (list_any f ys) (ap f (eqb-true y x e) ∙ h))
    (λ (r : mem x ys ≡ true). or_right (f y) (list_any f ys) (any_in f x ys r h))
    (or_cases (eqb y x) (mem x ys) m)

pub any_from : (f : ℕ → Bool) (P : ℕ → Type 0) (C : Type 0) (xs : List ℕ) → AllByRecursion P xs
    → ((x : ℕ) → P x → f x ≡ true → C) → list_any f xs ≡ true → C
any_from f P C [] a c h = absurd (false≢true h)
any_from f P C (x ∷ xs) a c h = ⊎_elim
    (λ (e : f x ≡ true). c x a.0 e) (λ (r : list_any f xs ≡ true). any_from f P C xs a.1 c r)
    (or_cases (f x) (list_any f xs) h)

-- TSNs and offsets

-- the TSN before that of the offset r
abbrev pub before : ℕ → ℕ → ℕ
before i r = (tsn i r + 2 ^ 32 - 1) % 2 ^ 32

-- the TSN that spells an offset at or past r is that offset's
pub spells : (i r t : ℕ) → t < 2 ^ 32 → tsn i (r + tsn_past (tsn i r) t) ≡ t
spells i r t l = omega arith

-- offsets less than 65,535 past r have TSNs of their own
module _ (i r x y : ℕ) (a : r ≤ x) (b : x < r + 65535) (c : r ≤ y) (d : y < r + 65535) where
  pub same_offset : tsn i x ≡ tsn i y → x ≡ y
  same_offset e = omega arith

-- how far a TSN lies past the last TSN in order
pub past_before : (i r x : ℕ) → r ≤ x → x < r + 65535 → tsn_past (before i r) (tsn i x) + r ≡ suc x
past_before i r x a b = omega arith

past_last_tsn : (i r t : ℕ) → t < 2 ^ 32 → tsn_past (before i r) t ≡ (tsn_past (tsn i r) t + 1) % 2 ^ 32
past_last_tsn i r t l = omega arith

-- a TSN is 1 to 65,535 past the last TSN in order where its offset is less than 65,535 past the reach
near_last_tsn : (i r t : ℕ) → t < 2 ^ 32
    → has_offset (tsn_past (before i r) t) ≡ ltb (r + tsn_past (tsn i r) t) (r + 65535)
near_last_tsn i r t l = ap has_offset (past_last_tsn i r t l) ∙ near (tsn_past (tsn i r) t) (omega arith)
  where
    near : (d : ℕ) → d < 2 ^ 32 → has_offset ((d + 1) % 2 ^ 32) ≡ ltb (r + d) (r + 65535)
    near d b = ⊎_elim
        (λ (c : d < 65535).
        and_from _ _ (lt-ltb 0 ((d + 1) % 2 ^ 32) (omega arith)) (le-leb ((d + 1) % 2 ^ 32) 65535 (omega arith))
        ∙ sym (lt-ltb (r + d) (r + 65535) (omega arith)))
        (λ (c : 65535 ≤ d). ⊎_elim
        (λ (e : d + 1 ≡ 2 ^ 32).
        and_left _ _ (le-ltb 0 ((d + 1) % 2 ^ 32) (omega arith)) ∙ sym (le-ltb (r + d) (r + 65535) (omega arith)))
        (λ (ne : d + 1 ≡ 2 ^ 32 → ⊥).
        let f : (d + 1) % 2 ^ 32 ≡ d + 1 = omega (arith, ne) in
        and_right _ _ (lt-leb ((d + 1) % 2 ^ 32) 65535 (omega arith))
        ∙ sym (le-ltb (r + d) (r + 65535) (omega arith)))
        (cases_eq (d + 1) (2 ^ 32)))
        (cases_lt d 65535)

-- What is held

and_same : (b x y : Bool) → (b ≡ true → x ≡ y) → (b && x) ≡ (b && y)
and_same true x y e = e refl
and_same false x y e = refl

-- a TSN less than 65,535 past the reach is held where its offset came
held_came : (a : Receiving) (held : List ℕ) (t : ℕ) → t < 2 ^ 32 → HoldsPast a held
    → offset_of a t < reach_of a + 65535 → is_held t held ≡ mem (offset_of a t) a.taken
held_came a held t small h near = both_ways (is_held t held) (mem (offset_of a t) a.taken)
    (λ e. came (all_mem (IsPast a) held t h.only (sym (held_is t held) ∙ e)))
    (λ m. subst (λ z. is_held z held ≡ true) (spells a.peer (reach_of a) t small)
    (h.all (offset_of a t) m (omega arith)))
  where
    came : IsPast a t → mem (offset_of a t) a.taken ≡ true
    came p =
        let from = p.past in
        subst (λ z. mem z a.taken ≡ true)
        (same_offset a.peer (reach_of a) p.offset (offset_of a t) (omega arith) p.near (omega arith) near
        (sym p.is ∙ sym (spells a.peer (reach_of a) t small))) p.came

pub new_tsns_did_not_come : NewTsnsDidNotCome
new_tsns_did_not_come a held t small h =
    ap (λ z. z && not (is_held t held)) (near_last_tsn a.peer (reach_of a) t small)
    ∙ and_same (ltb (offset_of a t) (reach_of a + 65535)) (not (is_held t held)) (not (mem (offset_of a t) a.taken))
    (λ b. ap not (held_came a held t small h (ltb-true _ _ b)))

pub blocks_name_what_came : BlocksNameWhatCame
blocks_name_what_came a held blocks h exact o from below =
    exact o from below
    ∙ both_ways (is_held_at (peer_last_tsn_of a) o held) (mem (reach_of a + o - 1) a.taken)
    (any_from (λ t. eqb (tsn_past (peer_last_tsn_of a) t) o) (IsPast a)
    (mem (reach_of a + o - 1) a.taken ≡ true) held h.only
    there)
    (λ m. any_in (λ t. eqb (tsn_past (peer_last_tsn_of a) t) o) (tsn a.peer (reach_of a + o - 1)) held
    (sym (held_is (tsn a.peer (reach_of a + o - 1)) held) ∙ h.all (reach_of a + o - 1) m (omega arith))
    (eq-eqb _ _ (let e = past_before a.peer (reach_of a) (reach_of a + o - 1) (omega arith) (omega arith) in
    omega arith)))
  where
    there : (t : ℕ) → IsPast a t → eqb (tsn_past (peer_last_tsn_of a) t) o ≡ true
        → mem (reach_of a + o - 1) a.taken ≡ true
    there t p e =
        let f = p.past in
        let d = past_before a.peer (reach_of a) p.offset (omega arith) p.near in
        let u : tsn_past (peer_last_tsn_of a) (tsn a.peer p.offset) ≡ o =
        ap (tsn_past (peer_last_tsn_of a)) (sym p.is) ∙ eqb-true _ _ e in
        subst (λ z. mem z a.taken ≡ true) (last p.offset (reach_of a) _ d u) p.came
      where
        last : (x r d : ℕ) → d + r ≡ suc x → d ≡ o → x ≡ r + o - 1
        last x r d b c = omega arith

pub nothing_is_held_at_first : NothingIsHeldAtFirst
unfolding IsStrictlySortedBy
nothing_is_held_at_first a none = record {
  all = λ o m. absurd (false≢true (sym (ap (mem o) none) ∙ m));
  only = tt;
  below = λ o m. absurd (false≢true (sym (ap (mem o) none) ∙ m));
  once = tt;
}
