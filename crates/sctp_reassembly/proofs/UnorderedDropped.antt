-- A drop of pieces of unordered messages drops the same on both sides.
use Rattle.std.proofs.Common.{ℕ, suc, ◌^◌, ◌<◌, ◌≤◌, ◌≡◌, Bool, true, false, cond, not, eqb, ltb, leb, ◌&&◌, ◌||◌, List}
use Rattle.std.proofs.Common.{[], ◌∷◌, length, map, filter, Some, None, refl, sym, ap, ◌∙◌, subst, ⊎_elim, arith}
use Rattle.std.specs.List.{AllByRecursion}
use Rattle.std.proofs.lemmas.Bool.{cases_Bool, cases_lt, eqb-true, eq-eqb, ne_eqb, leb-true, le-leb, lt-leb, lt-ltb}
use Rattle.std.proofs.lemmas.Bool.{le-ltb}
use Rattle.sctp_serial.specs.Serial.{tsn_lt, tsn_lte, tsn}
use Rattle.sctp_wire_types.specs.declared.chunk.ChunkPayloadData.{ChunkPayloadData}
use Rattle.sctp_receive_queues.specs.Reassembly.{above, trimmed, Reassembly, unordered_skipped}
use Rattle.sctp_model.specs.Messages.{Plan, place_at}
use Rattle.sctp_model.specs.Packets.{Data, mem, data_at}
use Rattle.sctp_model.specs.Safe.{AreRising}
use Rattle.sctp_model.specs.Invariants.{IsPlanned}
use Rattle.sctp_model.specs.Reassembly.{drop_unordered, Queue}
use Rattle.sctp_model.proofs.Lists.{all_both, all_filter, all_map, all_weaker}
use Rattle.sctp_reassembly.specs.Laws.{UnorderedDropsStand}
use Rattle.sctp_reassembly.specs.Stands.{AreRuns, CarryDataOf, IsLoose, leads, led, runs_of, StandsFor}
use Rattle.sctp_reassembly.proofs.UnorderedEnters.{AreSmall, IsIncomplete}
use Rattle.sctp_reassembly.proofs.UnorderedFound.{is_whole}
use Rattle.sctp_reassembly.proofs.MessageRuns.{is_rest}
use Rattle.sctp_reassembly.proofs.HeldMessages.{and_none, nested}
use Rattle.sctp_reassembly.proofs.OffsetRuns.{IsChain, all_in, chains, some_in}
use Rattle.sctp_reassembly.proofs.TsnOrder.{tsns_go_as_offsets, tsn_same}
use Rattle.sctp_reassembly.proofs.UnorderedArrives.{at_kept, not_whole}
use Rattle.sctp_reassembly.proofs.WholeMessages.{complete_is}

-- the offset lies past o
abbrev past : ℕ → ℕ → Bool
past o x = leb (suc o) x

abbrev left_in : ℕ → List ℕ → List ℕ
left_in o r = filter (past o) r

abbrev is_some_run : List ℕ → Bool
is_some_run r = not (eqb (length r) 0)

-- the runs past o
abbrev kept : ℕ → List (List ℕ) → List (List ℕ)
kept o gs = filter is_some_run (map (left_in o) gs)

not_up_to : (x o : ℕ) → not (eqb x o || ltb x o) ≡ past o x
not_up_to x o =
    ⊎_elim
    (λ (l : o < x). rw (ne_eqb x o (λ (e : x ≡ o). omega arith), le-ltb x o (omega arith))
    (sym (le-leb (suc o) x (omega arith))))
    (λ (g : x ≤ o). ⊎_elim
    (λ (l : x < o). ap (λ z. not (eqb x o || z)) (lt-ltb x o l) ∙ all_of (eqb x o)
    ∙ sym (lt-leb (suc o) x (omega arith)))
    (λ (k : o ≤ x). ap (λ z. not (z || ltb x o)) (eq-eqb x o (omega arith)) ∙ sym (lt-leb (suc o) x (omega arith)))
    (cases_lt x o))
    (cases_lt o x)
  where
    all_of : (b : Bool) → not (b || true) ≡ false
    all_of true = refl
    all_of false = refl

said_above : (initial : ℕ) (p : Plan) (o : ℕ) (cs : List ChunkPayloadData) (r : List ℕ) → o < 2 ^ 31
    → CarryDataOf initial p cs r → AreSmall r
    → CarryDataOf initial p (above (tsn initial o) cs) (left_in o r)
said_above initial p o [] [] l a s = tt
said_above initial p o [] (x ∷ xs) l a s = absurd a
said_above initial p o (d ∷ ds) [] l a s = absurd a
said_above initial p o (d ∷ ds) (x ∷ xs) l a s =
    let test : not (tsn_lte d.tsn (tsn initial o)) ≡ past o x
    = ap (λ z. not (tsn_lte z (tsn initial o))) a.0.tsn
    ∙ ap (λ z. not (z || tsn_lt (tsn initial x) (tsn initial o))) (tsn_same initial x o s.0 l)
    ∙ ap (λ z. not (eqb x o || z)) (tsns_go_as_offsets initial x o s.0 l) ∙ not_up_to x o in
    let more = said_above initial p o ds xs l a.1 s.1 in
    ⊎_elim (λ (b : past o x ≡ true). rw (test ∙ b, b) (a.0, more)) (λ (b : past o x ≡ false). rw (test ∙ b, b) more)
    (cases_Bool (past o x))

said_length : (initial : ℕ) (p : Plan) (cs : List ChunkPayloadData) (r : List ℕ) → CarryDataOf initial p cs r
    → length cs ≡ length r
said_length initial p [] [] a = refl
said_length initial p [] (x ∷ xs) a = absurd a
said_length initial p (d ∷ ds) [] a = absurd a
said_length initial p (d ∷ ds) (x ∷ xs) a = ap suc (said_length initial p ds xs a.1)

runs_kept : (initial : ℕ) (p : Plan) (o : ℕ) (cs : List (List ChunkPayloadData)) (gs : List (List ℕ)) → o < 2 ^ 31
    → AreRuns initial p cs gs → AllByRecursion AreSmall gs
    → AreRuns initial p (trimmed (tsn initial o) cs) (kept o gs)
runs_kept initial p o [] [] l a s = tt
runs_kept initial p o [] (g ∷ gs) l a s = absurd a
runs_kept initial p o (c ∷ cs) [] l a s = absurd a
runs_kept initial p o (c ∷ cs) (g ∷ gs) l a s =
    let one = said_above initial p o c g l a.0 s.0 in
    let more = runs_kept initial p o cs gs l a.1 s.1 in
    let same : not (eqb (length (above (tsn initial o) c)) 0) ≡ is_some_run (left_in o g) =
    ap (λ z. not (eqb z 0)) (said_length initial p (above (tsn initial o) c) (left_in o g) one) in
    ⊎_elim
    (λ (b : is_some_run (left_in o g) ≡ true). rw (same ∙ b, b) (one, more))
    (λ (b : is_some_run (left_in o g) ≡ false). rw (same ∙ b, b) more)
    (cases_Bool (is_some_run (left_in o g)))

filter_all : {X : Type 0} (f : X → Bool) (xs : List X) → AllByRecursion (λ x. f x ≡ true) xs → filter f xs ≡ xs
filter_all f [] a = refl
filter_all f (x ∷ xs) a = rw a.0 (ap (λ z. x ∷ z) (filter_all f xs a.1))

kept_all : (o : ℕ) (gs : List (List ℕ)) → AllByRecursion (AllByRecursion (λ (x : ℕ). past o x ≡ true)) gs
    → AllByRecursion (λ (g : List ℕ). 0 < length g) gs → kept o gs ≡ gs
kept_all o [] a n = refl
kept_all o (g ∷ gs) a n =
    let one = filter_all (past o) g a.0 in
    let some : is_some_run (left_in o g) ≡ true =
    ap is_some_run one ∙ ap not (ne_eqb (length g) 0 (λ (e : length g ≡ 0). let k = n.0 in omega arith)) in
    rw some (ap (λ z. z ∷ kept o gs) one ∙ ap (λ z. g ∷ z) (kept_all o gs a.1 n.1))

-- an offset that isn't past o, in front
kept_behind : (p : Plan) (o x : ℕ) (gs : List (List ℕ)) → past o x ≡ false → kept o (led p x gs) ≡ kept o gs
kept_behind p o x [] b = rw b refl
kept_behind p o x (g ∷ gs) b =
    ⊎_elim
    (λ (l : leads p x g ≡ true). rw (l, b) refl)
    (λ (l : leads p x g ≡ false). rw (l, b) refl)
    (cases_Bool (leads p x g))

-- the runs of those past o are what is kept of the runs
runs_past : (p : Plan) (o : ℕ) (os : List ℕ) → AreRising os → runs_of p (left_in o os) ≡ kept o (runs_of p os)
runs_past p o [] r = refl
runs_past p o (x ∷ xs) r =
    ⊎_elim
    (λ (b : past o x ≡ true).
    let l = leb-true (suc o) x b in
    let all : AllByRecursion (λ (y : ℕ). past o y ≡ true) (x ∷ xs) =
    (b, all_weaker _ _ xs (λ y (k : x < y). le-leb (suc o) y (omega arith)) r.0) in
    ap (runs_of p) (filter_all (past o) (x ∷ xs) all)
    ∙ sym (kept_all o (runs_of p (x ∷ xs)) (all_in (λ (y : ℕ). past o y ≡ true) p (x ∷ xs) all) (some_in p (x ∷ xs))))
    (λ (b : past o x ≡ false). ap (runs_of p) (left_out b) ∙ runs_past p o xs r.1
    ∙ sym (kept_behind p o x (runs_of p xs) b))
    (cases_Bool (past o x))
  where
    left_out : past o x ≡ false → left_in o (x ∷ xs) ≡ left_in o xs
    left_out b = rw b refl

-- What is left of a run isn't a whole message where the run isn't.

chain_past : (p : Plan) (o x : ℕ) (xs : List ℕ) → IsChain p (x ∷ xs) → past o x ≡ true
    → AllByRecursion (λ (y : ℕ). past o y ≡ true) (x ∷ xs)
chain_past p o x [] k b = (b, tt)
chain_past p o x (y ∷ ys) k b =
    (b, chain_past p o y ys k.2 (let l = leb-true (suc o) x b in let e = k.0 in le-leb (suc o) y (omega arith)))

module _ {p : Plan} {over : ℕ → Bool} (s o : ℕ) (h : IsPlanned p over) where
  part_of : (r : List ℕ) → IsChain p r → AllByRecursion (IsLoose p s) r → is_whole p r ≡ false
      → is_whole p (left_in o r) ≡ false
  part_of [] k a w = refl
  part_of (x ∷ []) k a w =
      ⊎_elim (λ (b : past o x ≡ true). rw b w) (λ (b : past o x ≡ false). rw b refl) (cases_Bool (past o x))
  part_of (x ∷ y ∷ ys) k a w =
      ⊎_elim
      (λ (b : past o x ≡ true). ap (is_whole p) (filter_all (past o) (x ∷ y ∷ ys) (chain_past p o x (y ∷ ys) k b)) ∙ w)
      (λ (b : past o x ≡ false).
      let f = h.after x (subst (λ z. z < length p.places) k.0 a.1.0.at.known) k.1 a.0.sent in
      let next = f.piece in
      let piece : (place_at p y).piece ≡ suc (place_at p x).piece = ap (λ z. (place_at p z).piece) k.0 ∙ next in
      let out : is_whole p (y ∷ ys) ≡ false =
      ap (λ z. z && is_rest p (y ∷ ys))
      (ne_eqb (place_at p y).piece 0 (λ (e : (place_at p y).piece ≡ 0). omega arith)) in
      ap (is_whole p) (left_out b) ∙ part_of (y ∷ ys) k.2 a.1 out)
      (cases_Bool (past o x))
    where
      left_out : past o x ≡ false → left_in o (x ∷ y ∷ ys) ≡ left_in o (y ∷ ys)
      left_out b = rw b refl

incomplete_from : (initial : ℕ) (p : Plan) (cs : List (List ChunkPayloadData)) (gs : List (List ℕ))
    → AreRuns initial p cs gs → AllByRecursion AreSmall gs
    → AllByRecursion (λ (g : List ℕ). is_whole p g ≡ false) gs → AllByRecursion IsIncomplete cs
incomplete_from initial p [] gs a s w = tt
incomplete_from initial p (c ∷ cs) [] a s w = absurd a
incomplete_from initial p (c ∷ cs) (g ∷ gs) a s w = (one c g a.0 s.0 w.0, incomplete_from initial p cs gs a.1 s.1 w.1)
  where
    one : (c : List ChunkPayloadData) (g : List ℕ) → CarryDataOf initial p c g → AreSmall g → is_whole p g ≡ false
        → IsIncomplete c
    one [] [] a s w = refl
    one (d ∷ ds) [] a s w = absurd a
    one c (x ∷ xs) a s w = complete_is initial p c x xs a s ∙ w

rising_left : (f : ℕ → Bool) (os : List ℕ) → AreRising os → AreRising (filter f os)
rising_left f [] r = tt
rising_left f (x ∷ xs) r =
    ⊎_elim
    (λ (b : f x ≡ true). rw b (all_filter (λ (y : ℕ). x < y) f xs r.0, rising_left f xs r.1))
    (λ (b : f x ≡ false). rw b (rising_left f xs r.1))
    (cases_Bool (f x))

mem_left_in : (f : ℕ → Bool) (x : ℕ) (os : List ℕ) → mem x (filter f os) ≡ (f x && mem x os)
mem_left_in f x [] = sym (and_none (f x))
mem_left_in f x (y ∷ ys) =
    let more = mem_left_in f x ys in
    ⊎_elim
    (λ (e : eqb y x ≡ true).
    let same : f y ≡ f x = ap f (eqb-true y x e) in
    ⊎_elim
    (λ (b : f y ≡ true). rw (b, e, sym same ∙ b) refl)
    (λ (b : f y ≡ false). rw (b, e) (more ∙ rw (sym same ∙ b) refl))
    (cases_Bool (f y)))
    (λ (e : eqb y x ≡ false). ⊎_elim
    (λ (b : f y ≡ true). rw (b, e) more)
    (λ (b : f y ≡ false). rw (b, e) more)
    (cases_Bool (f y)))
    (cases_Bool (eqb y x))

module _ (initial : ℕ) (p : Plan) (over : ℕ → Bool) (s o : ℕ) (r : Reassembly) (q : Queue)
    (h : IsPlanned p over) (small : length p.places < 2 ^ 31) (l : o < 2 ^ 31) where
  drops_stand : StandsFor initial p s r q
      → StandsFor initial p s (unordered_skipped r (tsn initial o)) (drop_unordered (suc o) q)
  drops_stand st =
      let w = st.waiting in
      let little = all_weaker _ _ w.offsets
      (λ x m. let k = m.at.known in let y : x < 2 ^ 31 = omega arith in y) w.mine in
      let all_little = all_in (λ (x : ℕ). x < 2 ^ 31) p w.offsets little in
      let offsets = left_in o w.offsets in
      let is = runs_past p o w.offsets w.ascends in
      let runs : AreRuns initial p (trimmed (tsn initial o) r.unordered) (runs_of p (left_in o w.offsets))
      =
      subst (AreRuns initial p (trimmed (tsn initial o) r.unordered)) (sym is)
      (runs_kept initial p o r.unordered (runs_of p w.offsets) l w.runs all_little) in
      let parts : AllByRecursion (λ (g : List ℕ). is_whole p (left_in o g) ≡ false) (runs_of p w.offsets)
      = all_weaker _ _ (runs_of p w.offsets) (λ g x. part_of s o h g x.0.0 x.0.1 x.1)
      (all_both _ _ (runs_of p w.offsets)
      (all_both _ _ (runs_of p w.offsets) (chains p w.offsets) (all_in (IsLoose p s) p w.offsets w.mine))
      (not_whole initial p r.unordered (runs_of p w.offsets) w.runs all_little w.incomplete)) in
      record {
        held = st.held;
        groups = st.groups;
        ascends = st.ascends;
        same = st.same;
        next = st.next;
        waiting = record {
          offsets = left_in o w.offsets;
          runs = runs;
          ascends = rising_left (past o) w.offsets w.ascends;
          mine = all_filter (IsLoose p s) (past o) w.offsets w.mine;
          same = λ x.
              at_kept (past o) x q.unordered ∙ ap (λ z. cond (past o x) z None) (w.same x)
              ∙ nested (past o x) (mem x w.offsets) (data_at p x)
              ∙ ap (λ z. cond z (Some (data_at p x)) None) (sym (mem_left_in (past o) x w.offsets));
          exact = all_filter (λ (d : Data). d ≡ data_at p d.offset) (λ (d : Data). past o d.offset) q.unordered w.exact;
          incomplete =
              incomplete_from initial p (trimmed (tsn initial o) r.unordered) (runs_of p (left_in o w.offsets)) runs
              (all_in (λ (x : ℕ). x < 2 ^ 31) p (left_in o w.offsets)
              (all_filter (λ (x : ℕ). x < 2 ^ 31) (past o) w.offsets little))
              (subst (AllByRecursion (λ (g : List ℕ). is_whole p g ≡ false)) (sym is)
              (all_filter (λ (g : List ℕ). is_whole p g ≡ false) is_some_run (map (left_in o) (runs_of p w.offsets))
              (all_map (λ (g : List ℕ). is_whole p g ≡ false) (left_in o) (runs_of p w.offsets) parts)));
        };
        complete = st.complete;
      }

pub unordered_drops_stand : UnorderedDropsStand
unordered_drops_stand = drops_stand
