-- What waits to be read on a stream is no more than what was accepted and not read: each message that was read is
-- another one, and none of them is an ordered one behind the last ordered one read.
use Rattle.std.proofs.Common.{◌≡◌, refl, sym, ap, ◌∙◌, subst, ⊎_elim, ℕ, ◌+◌, ◌<◌, ◌≤◌, arith, Bool, true, false, not}
use Rattle.std.proofs.Common.{eqb, ltb}
use Rattle.std.proofs.Common.{◌||◌, List, [], ◌∷◌, ◌++◌, length}
use Rattle.std.specs.Prelude.{filter, map}
use Rattle.std.specs.List.{AllByRecursion}
use Rattle.std.proofs.lemmas.Bool.{cases_Bool, cond-false, cond-true, le-ltb, lt-ltb, or_parts}
use Rattle.std.proofs.lemmas.List.{length-map}
use Rattle.std.proofs.Math.Bool.{or-true}
use Rattle.sctp_model.specs.Messages.{Plan}
use Rattle.sctp_model.specs.Packets.{mem}
use Rattle.sctp_model.specs.Reassembly.{Got}
use Rattle.sctp_model.specs.Machine.{Direction, live}
use Rattle.sctp_model.specs.Invariants.{Invariant, IsGot, numbers_of}
use Rattle.sctp_model.specs.Safe.{AreDistinct, is_ordered, number_of, read_end, unread}
use Rattle.sctp_model.proofs.Lists.{all_front}
use Rattle.sctp_fit.proofs.CountsBelow.{count_of}
use Rattle.sctp_pair.proofs.NumbersCounted.{PassesBelow, distinct_counted, ordered_apart}

-- a number that stands for no value of a list stands for none of its front, and what is distinct is so in front
none_in_front : (f : Got → ℕ) (gs more : List Got) (i : ℕ) → mem i (map f (gs ++ more)) ≡ false
    → mem i (map f gs) ≡ false
none_in_front f [] more i m = refl
none_in_front f (g ∷ gs) more i m =
    let parts = or_parts (eqb (f g) i) (mem i (map f (gs ++ more))) m in
    ap (λ (z : Bool). z || mem i (map f gs)) parts.0 ∙ none_in_front f gs more i parts.1

distinct_in_front : (f : Got → ℕ) (gs more : List Got) → AreDistinct (map f (gs ++ more)) → AreDistinct (map f gs)
distinct_in_front f [] more d = tt
distinct_in_front f (g ∷ gs) more d = (none_in_front f gs more (f g) d.0, distinct_in_front f gs more d.1)

module _ (p : Plan) (taken : List ℕ) (s e : ℕ) where
  -- message i is no ordered one from number e on
  abbrev is_passed : ℕ → Bool
  is_passed i = not (is_ordered p s i) || ltb i e

  passed_below : (i : ℕ) → i < e → is_passed i ≡ true
  passed_below i l = ap (λ (z : Bool). not (is_ordered p s i) || z) (lt-ltb i e l) ∙ or-true (not (is_ordered p s i))

  passed_unordered : (i : ℕ) → is_ordered p s i ≡ false → is_passed i ≡ true
  passed_unordered i u = ap (λ (z : Bool). not z || ltb i e) u

  not_passed : (i : ℕ) → e ≤ i → is_ordered p s i ≡ true → is_passed i ≡ false
  not_passed i l o = ap (λ (z : Bool). not z || ltb i e) o ∙ le-ltb i e l

  -- of what was read the ordered messages have numbers below e
  AreBelow : List Got → Type 0
  AreBelow gs = AllByRecursion (λ (i : ℕ). i < e) (numbers_of p (filter (λ (g : Got). g.ordered) gs))

  below_ordered : (g : Got) (gs : List Got) → AreBelow (g ∷ gs) → g.ordered ≡ true
      → (number_of p g < e) × AreBelow gs
  unfolding AreBelow
  below_ordered g gs b o =
      subst (λ (z : List Got). AllByRecursion (λ (i : ℕ). i < e) (numbers_of p z))
      (cond-true g.ordered (g ∷ filter (λ (x : Got). x.ordered) gs) (filter (λ (x : Got). x.ordered) gs) o) b

  below_unordered : (g : Got) (gs : List Got) → AreBelow (g ∷ gs) → g.ordered ≡ false → AreBelow gs
  unfolding AreBelow
  below_unordered g gs b o =
      subst (λ (z : List Got). AllByRecursion (λ (i : ℕ). i < e) (numbers_of p z))
      (cond-false g.ordered (g ∷ filter (λ (x : Got). x.ordered) gs) (filter (λ (x : Got). x.ordered) gs) o) b

  -- each number of what was read is one that was accepted, and passes
  numbers_pass : (gs : List Got) → AllByRecursion (IsGot p taken s) gs → AreBelow gs
      → AllByRecursion (PassesBelow is_passed (length (p.accepted s))) (numbers_of p gs)
  numbers_pass [] a b = tt
  numbers_pass (g ∷ gs) a b =
      let t = (a.0).tells in
      ⊎_elim
      (λ (o : g.ordered ≡ true).
      let parts = below_ordered g gs b o in (
        record { below = t.whole.accepted; pass = passed_below (number_of p g) parts.0 },
        numbers_pass gs a.1 parts.1,
      ))
      (λ (o : g.ordered ≡ false). (
        record { below = t.whole.accepted; pass = passed_unordered (number_of p g) (sym t.ordered ∙ o) },
        numbers_pass gs a.1 (below_unordered g gs b o),
      ))
      (cases_Bool g.ordered)

  reads_counted : (gs more : List Got) → AllByRecursion (IsGot p taken s) (gs ++ more)
      → AreDistinct (numbers_of p (gs ++ more)) → AreBelow gs
      → length gs ≤ count_of is_passed (length (p.accepted s))
  reads_counted gs more a once b =
      let all =
      distinct_counted is_passed (length (p.accepted s)) (numbers_of p gs)
      (distinct_in_front (number_of p) gs more once)
      (numbers_pass gs (all_front (IsGot p taken s) gs more a) b) in
      let same = length-map gs (number_of p) in
      omega (arith, all, same)

-- Of a stream within its span: what waits to be read, and what was read, are together no more than what was accepted.
pub waiting_counted : (w : Direction) (s : ℕ) → Invariant w → w.over s ≡ false
    → unread w.sender.plan s (w.reads s) + length (w.reads s) ≤ length (w.sender.plan.accepted s)
unfolding AreBelow
waiting_counted w s invariant span =
    let p : Plan = w.sender.plan in
    let e : ℕ = read_end p 0 (w.reads s) in
    let stream = invariant.streams s span in
    let read =
    reads_counted p w.receiver.taken s e (w.reads s) (live (w.receiver.queues s)).complete stream.got stream.once
    stream.below in
    let apart =
    ordered_apart (p.accepted s) e (is_passed p w.receiver.taken s e)
    (λ i l b o. not_passed p w.receiver.taken s e i b o) in
    omega (arith, read, apart)
