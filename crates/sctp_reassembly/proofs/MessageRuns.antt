-- The pieces held of one message, and the run that the model finds of them.
use Rattle.std.proofs.Common.{ℕ, zero, suc, ◌+◌, ◌<◌, ◌≤◌, ◌≡◌, Bool, true, false, cond, eqb, ◌&&◌, List, [], ◌∷◌}
use Rattle.std.proofs.Common.{length, map, Option, Some, None, refl, sym, ap, ◌∙◌, subst, ⊎_elim, arith}
use Rattle.std.specs.List.{AllByRecursion}
use Rattle.std.proofs.lemmas.Bool.{cases_Bool, eqb-true, ne_eqb, or_cases, false_from_ne_true, false≢true, cond-false}
use Rattle.sctp_model.specs.Messages.{Plan, place_at, is_last}
use Rattle.sctp_model.specs.Packets.{Data, mem, data_at}
use Rattle.sctp_model.specs.Reassembly.{Run, at, top, with_first, run_on, run_from}
use Rattle.sctp_model.specs.Safe.{AreRising}
use Rattle.sctp_model.specs.Invariants.{IsPlanned, IsHeld}
use Rattle.sctp_model.proofs.Lists.{all_mem}
use Rattle.sctp_model.proofs.CompleteRuns.{at_found, at_top}
use Rattle.sctp_reassembly.specs.Stands.{IsOf}
use Rattle.sctp_reassembly.proofs.PieceChains.{not_last, one_message}

-- the offsets follow one another, and the last one is the last of its message
abbrev pub is_rest : Plan → List ℕ → Bool
is_rest p [] = false
is_rest p (o ∷ []) = is_last p (place_at p o)
is_rest p (o ∷ x ∷ xs) = eqb x (suc o) && is_rest p (x ∷ xs)

-- the run of the piece at an offset and of those behind it
abbrev pub run_at : Plan → ℕ → List ℕ → Run
run_at p o rest = record { head = data_at p o; pieces = map (data_at p) (o ∷ rest) }

pub run_none : (m o : ℕ) (held : List Data) → at o held ≡ None → run_from m o held ≡ None
run_none zero o held e = refl
run_none (suc m) o held e = rw e refl

-- the offsets are what is held of the ordered message with this number from the first of them on
pub record AreAllOf (p : Plan) (s number : ℕ) (held : List Data) (o : ℕ) (rest : List ℕ) : Type 0 where
  pub rising : AreRising (o ∷ rest)
  pub mine : AllByRecursion (IsOf p s number) (o ∷ rest)
  pub there : AllByRecursion (λ (x : ℕ). at x held ≡ Some (data_at p x)) (o ∷ rest)
  pub all : (x : ℕ) (d : Data) → at x held ≡ Some d → o ≤ x → (place_at p x).ssn ≡ number → mem x (o ∷ rest) ≡ true

all_of_rest : {p : Plan} {s number : ℕ} {held : List Data} {o : ℕ} (x : ℕ) (xs : List ℕ)
    → AreAllOf p s number held o (x ∷ xs) → AreAllOf p s number held x xs
all_of_rest {o = o} x xs a = record {
  rising = a.rising.1;
  mine = a.mine.1;
  there = a.there.1;
  all = λ y d e l n.
      let less = a.rising.0.0 in
      ⊎_elim
      (λ (t : eqb o y ≡ true). absurd (let i = eqb-true o y t in omega arith))
      (λ (m : mem y (x ∷ xs) ≡ true). m)
      (or_cases (eqb o y) (mem y (x ∷ xs)) (a.all y d e (omega arith) n));
}

module _ {p : Plan} {over : ℕ → Bool} (taken : List ℕ) {s : ℕ} (low : ℕ) {number : ℕ} {held : List Data}
    (h : IsPlanned p over) (ah : AllByRecursion (IsHeld p taken s true low) held) where
  -- a piece that isn't the last is followed by none that is held, where the next offset isn't among them
  next_missing : (o : ℕ) (rest : List ℕ) → AreAllOf p s number held o rest → is_last p (place_at p o) ≡ false
      → mem (suc o) (o ∷ rest) ≡ false → at (suc o) held ≡ None
  next_missing o rest a last out = go (at (suc o) held) refl
    where
      go : (x : Option Data) → at (suc o) held ≡ x → x ≡ None
      go None e = refl
      go (Some d) e =
          let f = at_found (IsHeld p taken s true low) (suc o) held d e ah in
          let known : suc o < length p.places = subst (λ z. z < length p.places) f.1 f.0.at.known in
          let first = a.mine.0 in
          let w = h.after o known last first.sent in
          absurd (false≢true (sym out ∙ a.all (suc o) d e (omega arith) (w.ssn ∙ first.is)))

first_missing : (o : ℕ) → mem (suc o) (o ∷ []) ≡ false
first_missing o = rw (ne_eqb o (suc o) (λ (e : o ≡ suc o). omega arith)) refl

later_missing : (o x : ℕ) (xs : List ℕ) → AreRising (o ∷ x ∷ xs) → eqb x (suc o) ≡ false
    → mem (suc o) (o ∷ x ∷ xs) ≡ false
later_missing o x xs r b =
    let l = r.0.0 in
    rw (ne_eqb o (suc o) (λ (e : o ≡ suc o). omega arith), b)
    (false_from_ne_true (mem (suc o) xs) (λ (m : mem (suc o) xs ≡ true). let g =
    all_mem (λ (j : ℕ). x < j) xs (suc o) r.1.0 m in omega arith))

pub longer : (b : Bool) (d : Data) (ds : List Data) → with_first d (cond b (Some ds) None) ≡ cond b (Some (d ∷ ds)) None
longer true d ds = refl
longer false d ds = refl

module _ {p : Plan} {over : ℕ → Bool} (taken : List ℕ) {s : ℕ} (low : ℕ) {number : ℕ} {held : List Data}
    (h : IsPlanned p over) (v : over s ≡ false) (ah : AllByRecursion (IsHeld p taken s true low) held) where
  -- the model finds these pieces as one run where they follow one another to the end, and else none
  pub run_is : (fuel o : ℕ) (rest : List ℕ) → AreAllOf p s number held o rest → top held ≤ o + fuel
      → run_from fuel o held ≡ cond (is_rest p (o ∷ rest)) (Some (map (data_at p) (o ∷ rest))) None
  run_is zero o rest a f =
      absurd (let l = at_top o held (data_at p o) a.there.0 in omega arith)
  run_is (suc m) o [] a f =
      ap (λ z. run_on z (run_from m (suc o) held)) a.there.0
      ∙ ⊎_elim
      (λ (l : is_last p (place_at p o) ≡ true). rw l refl)
      (λ (l : is_last p (place_at p o) ≡ false).
      rw (l, run_none m (suc o) held (next_missing taken low h ah o [] a l (first_missing o))) refl)
      (cases_Bool (is_last p (place_at p o)))
  run_is (suc m) o (x ∷ xs) a f =
      let first = a.mine.0 in
      let second = a.mine.1.0 in
      let less = a.rising.0.0 in
      let last : is_last p (place_at p o) ≡ false =
      not_last h o x less second.at.known (first.at.stream ∙ sym second.at.stream)
      (one_message h v first.at second.at (first.is ∙ sym second.is)) in
      ap (λ z. run_on z (run_from m (suc o) held)) a.there.0
      ∙ cond-false (is_last p (place_at p o)) (Some (data_at p o ∷ []))
      (with_first (data_at p o) (run_from m (suc o) held)) last
      ∙ ⊎_elim
      (λ (b : eqb x (suc o) ≡ true).
      let e = eqb-true x (suc o) b in
      ap (λ z. with_first (data_at p o) (run_from m z held)) (sym e)
      ∙ ap (with_first (data_at p o))
      (run_is m x xs (all_of_rest x xs a) (omega arith))
      ∙ longer (is_rest p (x ∷ xs)) (data_at p o) (map (data_at p) (x ∷ xs)) ∙ rw b refl)
      (λ (b : eqb x (suc o) ≡ false).
      ap (with_first (data_at p o)) (run_none m (suc o) held
      (next_missing taken low h ah o (x ∷ xs) a last (later_missing o x xs a.rising b)))
      ∙ rw b refl)
      (cases_Bool (eqb x (suc o)))
