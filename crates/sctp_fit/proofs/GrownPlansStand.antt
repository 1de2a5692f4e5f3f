-- A reassembly stands for the same queue when the plan grows, since what is held was assigned before; and where nothing
-- was assigned nothing is held, whatever the initial TSN.
use Rattle.std.proofs.Common.{ℕ, suc, ◌<◌, ◌≡◌, true, false, cond, not, eqb, ◌&&◌, List, [], ◌∷◌, length, Some}
use Rattle.std.proofs.Common.{None, refl, sym, ap, ◌∙◌, subst, ⊎_elim, arith}
use Rattle.std.specs.List.{AllByRecursion}
use Rattle.std.proofs.lemmas.Bool.{cases_Bool, cond-true, cond-false, cond_both}
use Rattle.sctp_wire_types.specs.declared.chunk.ChunkPayloadData.{ChunkPayloadData}
use Rattle.sctp_receive_queues.specs.Reassembly.{Group, Reassembly}
use Rattle.sctp_model.specs.Messages.{Place, Plan}
use Rattle.sctp_model.specs.Packets.{Data, data_at, mem}
use Rattle.sctp_model.specs.Reassembly.{Queue, at}
use Rattle.sctp_model.proofs.Lists.{all_both, all_join, all_mem, all_weaker}
use Rattle.sctp_model.proofs.PlansGrow.{IsExtended, at_kept, data_kept, last_kept}
use Rattle.sctp_reassembly.specs.Stands.{AreGroups, AreRuns, AreWaiting, CarriesData, CarryDataOf, HeldMessage, IsGroup}
use Rattle.sctp_reassembly.specs.Stands.{IsLoose, IsOf, StandsFor, leads, led, offsets_in, runs_of}
use Rattle.sctp_reassembly.proofs.WholeMessages.{IsThere, all_there}

-- The plan grows

-- the offset was assigned
abbrev pub IsKnown : Plan → ℕ → Type 0
IsKnown p o = o < length p.places

module _ (p q : Plan) (e : IsExtended p q) where
  -- the DATA of an assigned offset stays, so what carried it does
  carries_kept : (initial : ℕ) (c : ChunkPayloadData) (o : ℕ) → IsKnown p o → CarriesData initial c (data_at p o)
      → CarriesData initial c (data_at q o)
  carries_kept initial c o l h = subst (CarriesData initial c) (sym (data_kept p q e o l)) h

  carry_kept : (initial : ℕ) (cs : List ChunkPayloadData) (os : List ℕ) → AllByRecursion (IsKnown p) os
      → CarryDataOf initial p cs os → CarryDataOf initial q cs os
  carry_kept initial [] [] k h = tt
  carry_kept initial [] (o ∷ os) k h = absurd h
  carry_kept initial (c ∷ cs) [] k h = absurd h
  carry_kept initial (c ∷ cs) (o ∷ os) k h =
      (carries_kept initial c o k.0 h.0, carry_kept initial cs os k.1 h.1)

  of_kept : (s number o : ℕ) → IsOf p s number o → IsOf q s number o
  of_kept s number o h = record {
    at = at_kept p q e s o true h.at;
    sent = ap (λ (z : Place). z.marker) (e.places o h.at.known) ∙ h.sent;
    is = ap (λ (z : Place). z.ssn) (e.places o h.at.known) ∙ h.is;
  }

  group_kept : (initial s : ℕ) (g : Group) (h : HeldMessage) → IsGroup initial p s g h → IsGroup initial q s g h
  group_kept initial s g h i = record {
    ssn = i.ssn;
    pieces =
        carry_kept initial g.pieces h.offsets
        (all_weaker (IsOf p s h.number) (IsKnown p) h.offsets (λ o m. m.at.known) i.mine) i.pieces;
    some = i.some;
    rising = i.rising;
    mine = all_weaker (IsOf p s h.number) (IsOf q s h.number) h.offsets (of_kept s h.number) i.mine;
  }

  groups_kept : (initial s : ℕ) (gs : List Group) (hs : List HeldMessage) → AreGroups initial p s gs hs
      → AreGroups initial q s gs hs
  groups_kept initial s [] [] a = tt
  groups_kept initial s [] (h ∷ hs) a = absurd a
  groups_kept initial s (g ∷ gs) [] a = absurd a
  groups_kept initial s (g ∷ gs) (h ∷ hs) a = (group_kept initial s g h a.0, groups_kept initial s gs hs a.1)

  -- what is held at an offset is held there of the longer plan
  same_kept : (held : List Data) (os : List ℕ) → AllByRecursion (IsKnown p) os
      → ((o : ℕ) → at o held ≡ cond (mem o os) (Some (data_at p o)) None)
      → (o : ℕ) → at o held ≡ cond (mem o os) (Some (data_at q o)) None
  same_kept held os k same o = ⊎_elim
      (λ (m : mem o os ≡ true).
      same o ∙ cond-true (mem o os) (Some (data_at p o)) None m
      ∙ ap (λ (d : Data). Some d) (sym (data_kept p q e o (all_mem (IsKnown p) os o k m)))
      ∙ sym (cond-true (mem o os) (Some (data_at q o)) None m))
      (λ (m : mem o os ≡ false).
      same o ∙ cond-false (mem o os) (Some (data_at p o)) None m
      ∙ sym (cond-false (mem o os) (Some (data_at q o)) None m))
      (cases_Bool (mem o os))

  -- the last piece of a message stays that, so offsets are cut into the same runs
  leads_kept : (o : ℕ) (xs : List ℕ) → IsKnown p o → leads q o xs ≡ leads p o xs
  leads_kept o [] l = refl
  leads_kept o (x ∷ xs) l = ap (λ z. eqb x (suc o) && not z) (last_kept p q e o l)

  led_kept : (o : ℕ) (rs : List (List ℕ)) → IsKnown p o → led q o rs ≡ led p o rs
  led_kept o [] l = refl
  led_kept o (r ∷ rs) l = ap (λ z. cond z ((o ∷ r) ∷ rs) ((o ∷ []) ∷ r ∷ rs)) (leads_kept o r l)

  runs_kept : (os : List ℕ) → AllByRecursion (IsKnown p) os → runs_of q os ≡ runs_of p os
  runs_kept [] k = refl
  runs_kept (o ∷ os) k = led_kept o (runs_of q os) k.0 ∙ ap (led p o) (runs_kept os k.1)

  all_runs_kept : (initial : ℕ) (cs : List (List ChunkPayloadData)) (rs : List (List ℕ))
      → AllByRecursion (AllByRecursion (IsKnown p)) rs
      → AreRuns initial p cs rs → AreRuns initial q cs rs
  all_runs_kept initial [] [] k a = tt
  all_runs_kept initial [] (r ∷ rs) k a = absurd a
  all_runs_kept initial (c ∷ cs) [] k a = absurd a
  all_runs_kept initial (c ∷ cs) (r ∷ rs) k a =
      (carry_kept initial c r k.0 a.0, all_runs_kept initial cs rs k.1 a.1)

  -- each piece held is found at its offset, so that was assigned
  found_known : (held : List Data) (os : List ℕ) → AllByRecursion (IsKnown p) os
      → ((o : ℕ) → at o held ≡ cond (mem o os) (Some (data_at p o)) None)
      → (o : ℕ) → IsThere held o → IsKnown p o
  found_known held os k same o there = ⊎_elim
      (λ (m : mem o os ≡ true). all_mem (IsKnown p) os o k m)
      (λ (m : mem o os ≡ false). absurd (none_some there.0
      (sym (cond-false (mem o os) (Some (data_at p o)) None m) ∙ sym (same o) ∙ there.1)))
      (cases_Bool (mem o os))
    where
      none_some : (d : Data) → None ≡ Some d → ⊥
      none_some d i = cc

-- the offsets of runs are those that were cut
all_led : (P : ℕ → Type 0) (p : Plan) (o : ℕ) (rs : List (List ℕ)) → P o → AllByRecursion (AllByRecursion P) rs
    → AllByRecursion (AllByRecursion P) (led p o rs)
all_led P p o [] h a = ((h, tt), tt)
all_led P p o (r ∷ rs) h a =
    cond_both (leads p o r) ((o ∷ r) ∷ rs) ((o ∷ []) ∷ r ∷ rs) (AllByRecursion (AllByRecursion P))
    (λ b. ((h, a.0), a.1)) (λ b. ((h, tt), a))

all_runs : (P : ℕ → Type 0) (p : Plan) (os : List ℕ) → AllByRecursion P os
    → AllByRecursion (AllByRecursion P) (runs_of p os)
all_runs P p [] a = tt
all_runs P p (o ∷ os) a = all_led P p o (runs_of p os) a.0 (all_runs P p os a.1)

loose_known : (p : Plan) (s : ℕ) (os : List ℕ) → AllByRecursion (IsLoose p s) os → AllByRecursion (IsKnown p) os
loose_known p s os a = all_weaker (IsLoose p s) (IsKnown p) os (λ o h. h.at.known) a

waiting_kept : (p q : Plan) (e : IsExtended p q) (initial s : ℕ) (cs : List (List ChunkPayloadData))
    (held : List Data) → AreWaiting initial p s cs held → AreWaiting initial q s cs held
waiting_kept p q e initial s cs held w = record {
  offsets = w.offsets;
  runs =
      subst (AreRuns initial q cs) (sym (runs_kept p q e w.offsets known))
      (all_runs_kept p q e initial cs (runs_of p w.offsets) (all_runs (IsKnown p) p w.offsets known) w.runs);
  ascends = w.ascends;
  mine = all_weaker (IsLoose p s) (IsLoose q s) w.offsets (λ o h. record {
    at = at_kept p q e s o false h.at;
    sent = ap (λ (z : Place). z.marker) (e.places o h.at.known) ∙ h.sent;
  }) w.mine;
  same = same_kept p q e held w.offsets known w.same;
  exact =
      all_weaker (λ (d : Data). (d ≡ data_at p d.offset) × IsThere held d.offset)
      (λ (d : Data). d ≡ data_at q d.offset) held
      (λ d h. h.0 ∙ sym (data_kept p q e d.offset (found_known p q e held w.offsets known w.same d.offset h.1)))
      (all_both (λ (d : Data). d ≡ data_at p d.offset) (λ (d : Data). IsThere held d.offset) held w.exact
      (all_there held));
  incomplete = w.incomplete;
}
  where
    known : AllByRecursion (IsKnown p) w.offsets
    known = loose_known p s w.offsets w.mine

-- the offsets of all groups were assigned
groups_known : (initial : ℕ) (p : Plan) (s : ℕ) (gs : List Group) (hs : List HeldMessage) → AreGroups initial p s gs hs
    → AllByRecursion (IsKnown p) (offsets_in hs)
groups_known initial p s [] [] a = tt
groups_known initial p s [] (h ∷ hs) a = absurd a
groups_known initial p s (g ∷ gs) [] a = tt
groups_known initial p s (g ∷ gs) (h ∷ hs) a =
    all_join (IsKnown p) h.offsets (offsets_in hs)
    (all_weaker (IsOf p s h.number) (IsKnown p) h.offsets (λ o m. m.at.known) (a.0).mine)
    (groups_known initial p s gs hs a.1)

-- A reassembly that stands for a queue stands for it when more is accepted or gets an offset.
pub stands_kept : (p q : Plan) (e : IsExtended p q) (initial s : ℕ) (r : Reassembly) (u : Queue)
    → StandsFor initial p s r u → StandsFor initial q s r u
stands_kept p q e initial s r u h = record {
  held = h.held;
  groups = groups_kept p q e initial s r.ordered h.held h.groups;
  ascends = h.ascends;
  same =
      same_kept p q e u.ordered (offsets_in h.held) (groups_known initial p s r.ordered h.held h.groups) h.same;
  next = h.next;
  waiting = waiting_kept p q e initial s r.unordered u.unordered h.waiting;
  complete = h.complete;
}

-- Nothing was assigned

module _ (initial t : ℕ) (p : Plan) (s : ℕ) (none : length p.places ≡ 0) where
  -- no group is held, since it would have an offset
  groups_anew : (gs : List Group) (hs : List HeldMessage) → AreGroups initial p s gs hs → AreGroups t p s gs hs
  groups_anew [] [] a = tt
  groups_anew [] (h ∷ hs) a = absurd a
  groups_anew (g ∷ gs) [] a = absurd a
  groups_anew (g ∷ gs) (h ∷ hs) a = absurd (no_first h.offsets (a.0).some (a.0).mine)
    where
      no_first : (os : List ℕ) → 0 < length os → AllByRecursion (IsOf p s h.number) os → ⊥
      no_first [] some m = omega arith
      no_first (o ∷ os) some m = let l = (m.0).at.known in omega arith

  -- nor a piece of an unordered message
  runs_anew : (cs : List (List ChunkPayloadData)) (os : List ℕ) → AllByRecursion (IsLoose p s) os
      → AreRuns initial p cs (runs_of p os) → AreRuns t p cs (runs_of p os)
  runs_anew [] [] m a = tt
  runs_anew (c ∷ cs) [] m a = absurd a
  runs_anew cs (o ∷ os) m a = absurd (let l = (m.0).at.known in omega arith)

-- Where no offset was assigned, a reassembly stands for the same queue under any initial TSN.
pub stands_anew : (initial t : ℕ) (p : Plan) (s : ℕ) (r : Reassembly) (u : Queue) → length p.places ≡ 0
    → StandsFor initial p s r u → StandsFor t p s r u
stands_anew initial t p s r u none h = record {
  held = h.held;
  groups = groups_anew initial t p s none r.ordered h.held h.groups;
  ascends = h.ascends;
  same = h.same;
  next = h.next;
  waiting = record {
    offsets = h.waiting.offsets;
    runs =
        runs_anew initial t p s none r.unordered h.waiting.offsets h.waiting.mine h.waiting.runs;
    ascends = h.waiting.ascends;
    mine = h.waiting.mine;
    same = h.waiting.same;
    exact = h.waiting.exact;
    incomplete = h.waiting.incomplete;
  };
  complete = h.complete;
}
