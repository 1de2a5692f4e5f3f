-- A piece of an unordered message that came, as both sides take it.
use Rattle.std.proofs.Common.{ℕ, ◌^◌, ◌<◌, ◌≡◌, Bool, true, false, cond, not, eqb, ltb, ◌&&◌, ◌||◌, List, [], ◌∷◌, ◌++◌}
use Rattle.std.proofs.Common.{length, map, filter, is_some, Some, None, refl, sym, ap, ◌∙◌, subst, ⊎_elim, arith}
use Rattle.std.proofs.Common.{append_assoc}
use Rattle.std.specs.List.{AllByRecursion}
use Rattle.std.proofs.lemmas.Bool.{cases_Bool, eqb-true, eqb-false, ne_eqb, ltb-true, ltb-false, or_parts, cond-true}
use Rattle.std.proofs.lemmas.Bool.{cond-false, false_from_ne_true}
use Rattle.sctp_serial.specs.Serial.{ssn_lt}
use Rattle.sctp_wire_types.specs.declared.chunk.ChunkPayloadData.{ChunkPayloadData}
use Rattle.sctp_receive_queues.specs.Messages.{message_of}
use Rattle.sctp_receive_queues.specs.Pieces.{is_complete}
use Rattle.sctp_receive_queues.specs.Reassembly.{Reassembly, finished, index_for_tsn, pushed, refusal, refusal_between}
use Rattle.sctp_receive_queues.specs.Reassembly.{refusal_of_ordered, refusal_of_unordered, run_at as the_run_at}
use Rattle.sctp_receive_queues.specs.Reassembly.{run_before, unordered_put, with_ordered, with_put}
use Rattle.sctp_receive_queues.specs.Reassembly.{with_unordered as view_with}
use Rattle.sctp_model.specs.Messages.{Plan}
use Rattle.sctp_model.specs.Packets.{Data, mem, data_at}
use Rattle.sctp_model.specs.Reassembly.{Queue, at, got_of, push, push_ordered, push_unordered, settle, with_unordered}
use Rattle.sctp_model.specs.Safe.{AreRising, letter_read}
use Rattle.sctp_model.specs.Invariants.{IsPlanned}
use Rattle.sctp_model.proofs.Lists.{all_back, all_filter, all_front, all_join, all_mem, all_weaker, map-join, mem-join}
use Rattle.sctp_reassembly.specs.Laws.{UnorderedPiecesStand}
use Rattle.sctp_reassembly.specs.Stands.{AreRuns, CarryDataOf, IsForBytesAlone, IsLoose, StandsFor, letter_received}
use Rattle.sctp_reassembly.specs.Stands.{runs_of, CarriesData}
use Rattle.sctp_reassembly.proofs.UnorderedEnters.{AreSmall, IsEntered, IsIncomplete, entered, finished_is, all_past}
use Rattle.sctp_reassembly.proofs.UnorderedEnters.{not_past, place_between, runs_join, runs_split}
use Rattle.sctp_reassembly.proofs.UnorderedFits.{beside, fits_between}
use Rattle.sctp_reassembly.proofs.UnorderedFound.{AreHeld, is_whole, whole_found}
use Rattle.sctp_reassembly.proofs.MessageRuns.{run_at}
use Rattle.sctp_reassembly.proofs.HeldMessages.{nested}
use Rattle.sctp_reassembly.proofs.PiecePlace.{swap_or}
use Rattle.sctp_reassembly.proofs.OffsetRuns.{all_in, chains, joined, joined_append, joined_runs, runs_apart}
use Rattle.sctp_reassembly.proofs.OffsetRuns.{runs_of_both}
use Rattle.sctp_reassembly.proofs.OffsetRuns.{runs_parts, some_in}
use Rattle.sctp_reassembly.proofs.WholeMessages.{complete_is, letter_is}

-- ascending offsets, parted by one that isn't among them
record IsParted (os : List ℕ) (o : ℕ) : Type 0 where
  pub below : List ℕ
  pub above : List ℕ
  pub is : os ≡ below ++ above
  pub less : AllByRecursion (λ (x : ℕ). x < o) below
  pub more : AllByRecursion (λ (x : ℕ). o < x) above

parted : (os : List ℕ) (o : ℕ) → AreRising os → mem o os ≡ false → IsParted os o
parted [] o r m = record { below = []; above = []; is = refl; less = tt; more = tt }
parted (x ∷ xs) o r m =
    let parts = or_parts (eqb x o) (mem o xs) m in
    let t = parted xs o r.1 parts.1 in
    ⊎_elim
    (λ (b : ltb x o ≡ true). record {
      below = x ∷ t.below;
      above = t.above;
      is = ap (λ z. x ∷ z) t.is;
      less = (ltb-true x o b, t.less);
      more = t.more;
    })
    (λ (b : ltb x o ≡ false).
    let ne = eqb-false x o parts.0 in
    let g = ltb-false x o b in
    let l : o < x = omega (arith, ne) in
    record {
      below = [];
      above = x ∷ xs;
      is = refl;
      less = tt;
      more = (l, all_weaker _ _ xs (λ j (k : x < j). omega arith) r.0);
    })
    (cases_Bool (ltb x o))

-- with the one between them they ascend
rising_between : (os qs : List ℕ) (o : ℕ) → AreRising (os ++ qs) → AllByRecursion (λ (x : ℕ). x < o) os
    → AllByRecursion (λ (x : ℕ). o < x) qs → AreRising (os ++ o ∷ qs)
rising_between [] qs o r a b = (b, r)
rising_between (x ∷ xs) qs o r a b = (
  all_join (λ (j : ℕ). x < j) xs (o ∷ qs) (all_front (λ (j : ℕ). x < j) xs qs r.0)
      (a.0, all_back (λ (j : ℕ). x < j) xs qs r.0),
  rising_between xs qs o r.1 a.1 b,
)

all_between : (P : ℕ → Type 0) (os qs : List ℕ) (o : ℕ) → AllByRecursion P (os ++ qs) → P o
    → AllByRecursion P (os ++ o ∷ qs)
all_between P os qs o a h = all_join P os (o ∷ qs) (all_front P os qs a) (h, all_back P os qs a)

mem_between : (os qs : List ℕ) (o x : ℕ) → mem x (os ++ o ∷ qs) ≡ (eqb o x || mem x (os ++ qs))
mem_between [] qs o x = refl
mem_between (y ∷ ys) qs o x =
    ap (λ z. eqb y x || z) (mem_between ys qs o x) ∙ swap_or (eqb y x) (eqb o x) (mem x (ys ++ qs))

-- Without a run.

rising_seam : (xs ys : List ℕ) (n : ℕ) → AreRising (xs ++ n ∷ ys)
    → AllByRecursion (λ (x : ℕ). x < n) xs × AllByRecursion (λ (y : ℕ). n < y) ys
rising_seam [] ys n r = (tt, r.0)
rising_seam (x ∷ xs) ys n r =
    let t = rising_seam xs ys n r.1 in (((all_back (λ (j : ℕ). x < j) xs (n ∷ ys) r.0).0, t.0), t.1)

rising_back : (ms ys : List ℕ) → AreRising (ms ++ ys) → AreRising ys
rising_back [] ys r = r
rising_back (m ∷ ms) ys r = rising_back ms ys r.1

rising_without : (xs ms ys : List ℕ) → AreRising (xs ++ (ms ++ ys)) → AreRising (xs ++ ys)
rising_without [] ms ys r = rising_back ms ys r
rising_without (x ∷ xs) ms ys r = (
  all_join (λ (j : ℕ). x < j) xs ys (all_front (λ (j : ℕ). x < j) xs (ms ++ ys) r.0)
      (all_back (λ (j : ℕ). x < j) ms ys (all_back (λ (j : ℕ). x < j) xs (ms ++ ys) r.0)),
  rising_without xs ms ys r.1,
)

all_without : (P : ℕ → Type 0) (xs ms ys : List ℕ) → AllByRecursion P (xs ++ (ms ++ ys)) → AllByRecursion P (xs ++ ys)
all_without P xs ms ys a =
    all_join P xs ys (all_front P xs (ms ++ ys) a) (all_back P ms ys (all_back P xs (ms ++ ys) a))

once_back : (ms ys : List ℕ) (x : ℕ) → AreRising (ms ++ ys) → mem x ms ≡ true → mem x ys ≡ false
once_back [] ys x r m = absurd (let e : false ≡ true = m in cc)
once_back (k ∷ ks) ys x r m =
    ⊎_elim
    (λ (e : eqb k x ≡ true).
    let i = eqb-true k x e in
    false_from_ne_true (mem x ys) (λ (t : mem x ys ≡ true). let l =
    all_mem (λ (j : ℕ). k < j) ys x (all_back (λ (j : ℕ). k < j) ks ys r.0) t in omega arith))
    (λ (e : eqb k x ≡ false). once_back ks ys x r.1 (sym (ap (λ z. z || mem x ks) e) ∙ m))
    (cases_Bool (eqb k x))

once : (xs ms ys : List ℕ) (x : ℕ) → AreRising (xs ++ (ms ++ ys)) → mem x ms ≡ true → mem x (xs ++ ys) ≡ false
once [] ms ys x r m = once_back ms ys x r m
once (k ∷ ks) ms ys x r m =
    let l =
    all_mem (λ (j : ℕ). k < j) ms x (all_front (λ (j : ℕ). k < j) ms ys (all_back (λ (j : ℕ). k < j) ks (ms ++ ys) r.0))
    m in
    rw (ne_eqb k x (λ (e : k ≡ x). omega arith)) (once ks ms ys x r.1 m)

mem_without : (xs ms ys : List ℕ) (x : ℕ) → AreRising (xs ++ (ms ++ ys))
    → (not (mem x ms) && mem x (xs ++ (ms ++ ys))) ≡ mem x (xs ++ ys)
mem_without xs ms ys x r =
    ⊎_elim
    (λ (m : mem x ms ≡ true). rw m (sym (once xs ms ys x r m)))
    (λ (m : mem x ms ≡ false). rw m (mem-join x xs (ms ++ ys)
    ∙ ap (λ z. mem x xs || z) (mem-join x ms ys ∙ ap (λ z. z || mem x ys) m) ∙ sym (mem-join x xs ys)))
    (cases_Bool (mem x ms))

parts_are : (p : Plan) (os : List ℕ) (gs hs : List (List ℕ)) (r : List ℕ) → runs_of p os ≡ gs ++ r ∷ hs
    → os ≡ joined gs ++ (r ++ joined hs)
parts_are p os gs hs r e = sym (joined_runs p os) ∙ ap joined_of e ∙ joined_append gs (r ∷ hs)
  where
    joined_of : List (List ℕ) → List ℕ
    joined_of z = joined z

-- the others are the runs of their offsets
left_runs : (p : Plan) (os : List ℕ) (gs hs : List (List ℕ)) (o : ℕ) (r : List ℕ) → AreRising os
    → runs_of p os ≡ gs ++ (o ∷ r) ∷ hs
    → runs_of p (joined gs ++ joined hs) ≡ gs ++ hs
left_runs p os gs hs o r ascends e =
    let a = runs_parts p os gs ((o ∷ r) ∷ hs) e in
    let b = runs_parts p os (gs ++ (o ∷ r) ∷ []) hs (e ∙ sym (append_assoc gs ((o ∷ r) ∷ []) hs)) in
    let t = rising_seam (joined gs) (r ++ joined hs) o (subst AreRising (parts_are p os gs hs (o ∷ r) e) ascends) in
    runs_apart p o (joined gs) (joined hs) t.0 (all_back (λ (y : ℕ). o < y) r (joined hs) t.1)
    ∙ ap (λ z. z ++ runs_of p (joined hs)) a.0 ∙ ap (λ z. gs ++ z) b.1

-- what a filter by offsets leaves at an offset
pub at_kept : (f : ℕ → Bool) (o : ℕ) (held : List Data)
    → at o (filter (λ (d : Data). f d.offset) held) ≡ cond (f o) (at o held) None
at_kept f o [] = none_either (f o)
  where
    none_either : (b : Bool) → at o [] ≡ cond b (at o []) None
    none_either true = refl
    none_either false = refl
at_kept f o (x ∷ xs) =
    ⊎_elim
    (λ (b : eqb x.offset o ≡ true).
    let same : f x.offset ≡ f o = ap f (eqb-true x.offset o b) in
    ⊎_elim
    (λ (t : f x.offset ≡ true). rw (t, b, sym same ∙ t) refl)
    (λ (t : f x.offset ≡ false). rw (t, sym same ∙ t) (at_kept f o xs ∙ ap (λ z. cond z (at o xs) None) (sym same ∙ t)))
    (cases_Bool (f x.offset)))
    (λ (b : eqb x.offset o ≡ false).
    ⊎_elim
    (λ (t : f x.offset ≡ true). rw (t, b) (at_kept f o xs))
    (λ (t : f x.offset ≡ false). rw (t, b) (at_kept f o xs))
    (cases_Bool (f x.offset)))
    (cases_Bool (eqb x.offset o))

at_pieces : (p : Plan) (o : ℕ) (os : List ℕ) → is_some (at o (map (data_at p) os)) ≡ mem o os
at_pieces p o [] = refl
at_pieces p o (x ∷ xs) =
    ⊎_elim (λ (b : eqb x o ≡ true). rw b refl) (λ (b : eqb x o ≡ false). rw b (at_pieces p o xs)) (cases_Bool (eqb x o))

-- a run of chunks that isn't a whole message isn't one of offsets
pub not_whole : (initial : ℕ) (p : Plan) (cs : List (List ChunkPayloadData)) (gs : List (List ℕ))
    → AreRuns initial p cs gs → AllByRecursion AreSmall gs
    → AllByRecursion IsIncomplete cs → AllByRecursion (λ (k : List ℕ). is_whole p k ≡ false) gs
not_whole initial p [] [] a s u = tt
not_whole initial p [] (g ∷ gs) a s u = absurd a
not_whole initial p (c ∷ cs) [] a s u = absurd a
not_whole initial p (c ∷ cs) (g ∷ gs) a s u = (one g a.0 s.0, not_whole initial p cs gs a.1 s.1 u.1)
  where
    one : (g : List ℕ) → CarryDataOf initial p c g → AreSmall g → is_whole p g ≡ false
    one [] a s = refl
    one (o ∷ r) a s = sym (complete_is initial p c o r a s) ∙ u.0

module _ {initial : ℕ} {p : Plan} {over : ℕ → Bool} {s : ℕ} (o : ℕ) {r : Reassembly} {q : Queue}
    {c : ChunkPayloadData} {chunks : List (List ChunkPayloadData)} {index : ℕ} {os : List ℕ}
    (h : IsPlanned p over) (st : StandsFor initial p s r q) (held : AreHeld p s (data_at p o ∷ q.unordered) os)
    (t : IsEntered initial p c chunks index (runs_of p os)) where
  decided : AllByRecursion IsIncomplete t.front × AllByRecursion IsIncomplete t.back
      → is_complete t.run ≡ is_whole p (t.first ∷ t.rest) → (b : Bool) → is_whole p (t.first ∷ t.rest) ≡ b
      → StandsFor initial p s
      (with_put r (cond b (t.front ++ t.back, r.complete ++ message_of t.run ∷ []) (
        t.front ++ t.run ∷ t.back,
        r.complete,
      ))) (settle (with_unordered q (data_at p o)) (cond b (Some (run_at p t.first t.rest)) None))
  decided u full false e = record {
    held = st.held;
    groups = st.groups;
    ascends = st.ascends;
    same = st.same;
    next = st.next;
    waiting = record {
      offsets = os;
      runs = subst (AreRuns initial p (t.front ++ t.run ∷ t.back)) (sym t.is)
          (runs_join initial p t.front (t.run ∷ t.back) t.earlier ((t.first ∷ t.rest) ∷ t.later) t.fronts
          (t.said, t.backs));
      ascends = held.ascends;
      mine = held.mine;
      same = held.same;
      exact = held.exact;
      incomplete = all_join IsIncomplete t.front (t.run ∷ t.back) u.0 (full ∙ e, u.1);
    };
    complete = st.complete;
  }
  decided u full true e =
      let gone = t.first ∷ t.rest in
      let keeps : ℕ → Bool = λ (x : ℕ). not (is_some (at x (map (data_at p) gone))) in
      let is = parts_are p os t.earlier t.later gone t.is in
      let rising = subst AreRising is held.ascends in
      let left = joined t.earlier ++ joined t.later in
      record {
        held = st.held;
        groups = st.groups;
        ascends = st.ascends;
        same = st.same;
        next = st.next;
        waiting = record {
          offsets = joined t.earlier ++ joined t.later;
          runs =
              subst (AreRuns initial p (t.front ++ t.back))
              (sym (left_runs p os t.earlier t.later t.first t.rest held.ascends t.is))
              (runs_join initial p t.front t.back t.earlier t.later t.fronts t.backs);
          ascends = rising_without (joined t.earlier) gone (joined t.later) rising;
          mine =
              all_without (IsLoose p s) (joined t.earlier) gone (joined t.later)
              (subst (AllByRecursion (IsLoose p s)) is held.mine);
          same = λ x.
              at_kept (λ (y : ℕ). not (is_some (at y (map (data_at p) (t.first ∷ t.rest))))) x
              (data_at p o ∷ q.unordered)
              ∙ ap (λ z. cond (not (is_some (at x (map (data_at p) (t.first ∷ t.rest))))) z None) (held.same x)
              ∙ ap (λ z. cond (not z) (cond (mem x os) (Some (data_at p x)) None) None)
              (at_pieces p x (t.first ∷ t.rest))
              ∙ nested (not (mem x (t.first ∷ t.rest))) (mem x os) (data_at p x)
              ∙ ap (λ z. cond (not (mem x (t.first ∷ t.rest)) && mem x z) (Some (data_at p x)) None) is
              ∙ ap (λ z. cond z (Some (data_at p x)) None)
              (mem_without (joined t.earlier) (t.first ∷ t.rest) (joined t.later) x rising);
          exact =
              all_filter (λ (d : Data). d ≡ data_at p d.offset) (λ (d : Data).
              not (is_some (at d.offset (map (data_at p) (t.first ∷ t.rest)))))
              (data_at p o ∷ q.unordered) held.exact;
          incomplete = all_join IsIncomplete t.front t.back u.0 u.1;
        };
        complete = map-join letter_received r.complete (message_of t.run ∷ [])
            ∙ ap (λ z. z ++ letter_received (message_of t.run) ∷ []) st.complete
            ∙ ap (λ z. map letter_read q.complete ++ z ∷ []) (letter_is initial p t.run t.first t.rest t.said)
            ∙ sym (map-join letter_read q.complete (got_of (run_at p t.first t.rest) ∷ []));
      }

  -- both sides with the piece, where it makes its message whole (or not)
  entered_so : AreSmall os → AllByRecursion IsIncomplete chunks
      → StandsFor initial p s
      (with_put r (finished (view_with chunks index c).0 (view_with chunks index c).1 r.complete))
      (push_unordered q (data_at p o))
  entered_so small incomplete =
      let d = data_at p o in
      let u = t.only incomplete in
      let all_small = subst (AllByRecursion AreSmall) t.is (all_in (λ (x : ℕ). x < 2 ^ 31) p os small) in
      let small_front = all_front AreSmall t.earlier ((t.first ∷ t.rest) ∷ t.later) all_small in
      let small_back = all_back AreSmall t.earlier ((t.first ∷ t.rest) ∷ t.later) all_small in
      let whole = is_whole p (t.first ∷ t.rest) in
      let view : with_put r (finished (view_with chunks index c).0 (view_with chunks index c).1 r.complete)
      ≡ with_put r (cond whole (t.front ++ t.back, r.complete ++ message_of t.run ∷ [])
      (t.front ++ t.run ∷ t.back, r.complete))
      = ap (λ z. with_put r (finished z.0 z.1 r.complete)) t.put
      ∙ ap (with_put r) (finished_is t.front t.back t.run r.complete
      ∙ ap (λ z. cond z (t.front ++ t.back, r.complete ++ message_of t.run ∷ [])
      (t.front ++ t.run ∷ t.back, r.complete))
      (complete_is initial p t.run t.first t.rest t.said small_back.0)) in
      let model : push_unordered q d ≡ settle (with_unordered q d) (cond whole (Some (run_at p t.first t.rest)) None)
      =
      ap (settle (with_unordered q d))
      (whole_found h held t.earlier t.later t.first t.rest t.is
      (not_whole initial p t.front t.earlier t.fronts small_front u.0)
      (not_whole initial p t.back t.later t.backs small_back.1 u.1)) in
      subst (λ z. StandsFor initial p s z (push_unordered q d)) (sym view)
      (subst
      (λ z.
      StandsFor initial p s
      (with_put r (cond whole (t.front ++ t.back, r.complete ++ message_of t.run ∷ [])
      (t.front ++ t.run ∷ t.back, r.complete))) z) (sym model)
      (decided u (complete_is initial p t.run t.first t.rest t.said small_back.0) whole refl))

module _ {initial : ℕ} {p : Plan} {over : ℕ → Bool} {s o : ℕ} (limit : ℕ) {r : Reassembly} {q : Queue}
    {c : ChunkPayloadData} (h : IsPlanned p over) (small : length p.places < 2 ^ 31)
    (st : StandsFor initial p s r q) (i : CarriesData initial c (data_at p o)) (loose : IsLoose p s o) where
  pub loose_piece_stands : at o q.unordered ≡ None
      → StandsFor initial p s (pushed r c).0 (push q (data_at p o)) × IsForBytesAlone (refusal r c limit)
  loose_piece_stands new =
      let d = data_at p o in
      let w = st.waiting in
      let known = loose.at.known in
      let little : o < 2 ^ 31 = omega arith in
      let out : c.unordered ≡ true = i.ordered ∙ ap not loose.at.kind in
      let fresh : mem o w.offsets ≡ false =
      false_from_ne_true _ (λ (m : mem o w.offsets ≡ true).
      none_some (sym new ∙ w.same o ∙ cond-true (mem o w.offsets) (Some d) None m)) in
      let k = parted w.offsets o w.ascends fresh in
      let rising = subst AreRising k.is w.ascends in
      let mine = subst (AllByRecursion (IsLoose p s)) k.is w.mine in
      let mine_below = all_front (IsLoose p s) k.below k.above mine in
      let mine_above = all_back (IsLoose p s) k.below k.above mine in
      let low_below = smalls small k.below mine_below in
      let low_above = smalls small k.above mine_above in
      let small_below = all_in (λ (x : ℕ). x < 2 ^ 31) p k.below low_below in
      let small_above = all_in (λ (x : ℕ). x < 2 ^ 31) p k.above low_above in
      let is_less = all_in (λ (x : ℕ). x < o) p k.below k.less in
      let is_more = all_in (λ (x : ℕ). o < x) p k.above k.more in
      let two = runs_split initial p r.unordered (runs_of p k.below) (runs_of p k.above)
      (subst (AreRuns initial p r.unordered) (ap (runs_of p) k.is ∙ runs_apart p o k.below k.above k.less k.more)
      w.runs) in
      let xs = two.0 in
      let ys = two.1 in
      let index : index_for_tsn c.tsn r.unordered ≡ length xs
      =
      ap (index_for_tsn c.tsn) two.2 ∙ place_between c.tsn xs ys
      (not_past p o i little xs (runs_of p k.below) two.3 is_less)
      (all_past p o i little ys (runs_of p k.above) two.4 (some_in p k.above) is_more small_above) in
      let put =
      entered p o i little xs ys (runs_of p k.below) (runs_of p k.above) two.3 two.4 small_below small_above in
      let os = k.below ++ o ∷ k.above in
      let held : AreHeld p s (d ∷ q.unordered) os = record {
        ascends = rising_between k.below k.above o rising k.less k.more;
        mine = all_between (IsLoose p s) k.below k.above o mine loose;
        same =
            λ x. with_it x (mem x w.offsets) (w.same x) ∙ ap (λ z. cond z (Some (data_at p x)) None)
            (ap (λ z. eqb o x || mem x z) k.is ∙ sym (mem_between k.below k.above o x));
        exact = (refl, w.exact);
      } in
      let both =
      entered_so o h st held
      (subst (IsEntered initial p c (xs ++ ys) (length xs)) (sym (runs_of_both p k.below (o ∷ k.above))) put)
      (smalls small os held.mine)
      (subst (AllByRecursion IsIncomplete) two.2 w.incomplete) in
      let view : pushed r c
      ≡ (
        with_put r (finished (view_with (xs ++ ys) (length xs) c).0 (view_with (xs ++ ys) (length xs) c).1 r.complete),
        true,
      )
      = cond-true c.unordered (with_put r (unordered_put r.unordered r.complete c), true)
      (cond (ssn_lt c.stream_sequence_number r.next_ssn) (r, false)
      (record r { ordered = with_ordered r.ordered c }, true)) out
      ∙ ap (λ z. (with_put r (finished (view_with r.unordered z c).0 (view_with r.unordered z c).1 r.complete), true))
      index
      ∙ ap (λ z. (with_put r (finished (view_with z (length xs) c).0 (view_with z (length xs) c).1 r.complete), true))
      two.2 in
      let model : push q d ≡ push_unordered q d =
      cond-false d.ordered (push_ordered q d) (push_unordered q d) loose.at.kind in
      let reason : refusal r c limit ≡ refusal_between (run_before (xs ++ ys) (length xs)) c
      (the_run_at (xs ++ ys) (length xs)) limit
      =
      cond-true c.unordered (refusal_of_unordered r.unordered c limit)
      (cond (ssn_lt c.stream_sequence_number r.next_ssn) None (refusal_of_ordered r.ordered c limit)) out
      ∙ ap (λ z. refusal_between (run_before r.unordered z) c (the_run_at r.unordered z) limit) index
      ∙ ap (λ z. refusal_between (run_before z (length xs)) c (the_run_at z (length xs)) limit) two.2 in (
        subst (λ z. StandsFor initial p s (pushed r c).0 z) (sym model)
            (subst (λ z. StandsFor initial p s z.0 (push_unordered q d)) (sym view) both),
        subst IsForBytesAlone (sym reason) (fits_between h i little loose limit xs ys (runs_of p k.below)
            (runs_of p k.above) two.3 two.4
            (beside p s (λ (x : ℕ). x < o) (runs_of p k.below) (chains p k.below)
            (all_in (IsLoose p s) p k.below mine_below) small_below is_less)
            (beside p s (λ (x : ℕ). o < x) (runs_of p k.above) (chains p k.above)
            (all_in (IsLoose p s) p k.above mine_above) small_above is_more)),
      )
    where
      none_some : None ≡ Some (data_at p o) → ⊥
      none_some e = cc

      smalls : length p.places < 2 ^ 31 → (os : List ℕ) → AllByRecursion (IsLoose p s) os → AreSmall os
      smalls small os a = all_weaker _ _ os (λ x m. let l = m.at.known in omega arith) a

      with_it : (x : ℕ) (b : Bool) → at x q.unordered ≡ cond b (Some (data_at p x)) None
          → at x (data_at p o ∷ q.unordered) ≡ cond (eqb o x || b) (Some (data_at p x)) None
      with_it x b e = ⊎_elim
          (λ (t : eqb o x ≡ true). rw t (ap (λ z. Some (data_at p z)) (eqb-true o x t)))
          (λ (t : eqb o x ≡ false). rw t e)
          (cases_Bool (eqb o x))

pub unordered_pieces_stand : UnorderedPiecesStand
unordered_pieces_stand initial p over s o limit r q c = loose_piece_stands limit
