-- A skip that is bounded by a TSN.
use Rattle.std.proofs.Common.{ℕ, suc, ◌+◌, ◌-◌, ◌%◌, ◌^◌, ◌<◌, ◌≤◌, ◌≡◌, ◌⊎◌, Bool, true, false, cond, not, eqb, ltb}
use Rattle.std.proofs.Common.{leb, ◌&&◌, ◌||◌, List, [], ◌∷◌, length, filter, is_some, Option, Some, None, refl, sym}
use Rattle.std.proofs.Common.{ap, ◌∙◌, subst, inl, inr, ⊎_elim, arith}
use Rattle.std.specs.List.{AllByRecursion}
use Rattle.std.proofs.lemmas.Bool.{cases_Bool, and_from, and_parts, eqb-true, eq-eqb, ne_eqb, leb-true, leb-false}
use Rattle.std.proofs.lemmas.Bool.{ltb-true, lt-ltb, le-ltb, or_cases, or_left, or_right, true≢false}
use Rattle.std.proofs.lemmas.Bool.{false_from_ne_true}
use Rattle.sctp_serial.specs.Serial.{ssn_lte, tsn_lt, ssn_lt, ssn_past, tsn}
use Rattle.sctp_wire_types.specs.declared.chunk.ChunkPayloadData.{ChunkPayloadData}
use Rattle.sctp_receive_queues.specs.Pieces.{is_later, last_of}
use Rattle.sctp_receive_queues.specs.Reassembly.{Group, Reassembly, bounded, skipped}
use Rattle.sctp_model.specs.Messages.{Plan, place_at}
use Rattle.sctp_model.specs.Packets.{Data, mem, data_at}
use Rattle.sctp_model.specs.Reassembly.{Queue, at, least, message_in, skip}
use Rattle.sctp_model.specs.Safe.{AreRising}
use Rattle.sctp_model.specs.Invariants.{IsHeld, IsPlanned}
use Rattle.sctp_model.proofs.NextOrdered.{least_is, least_none, ssn_is}
use Rattle.sctp_model.proofs.CompleteRuns.{at_filter, at_found}
use Rattle.sctp_model.proofs.Lists.{all_both, all_filter, all_mem, all_passed, all_weaker, mem_cases, mem_left, mem_one}
use Rattle.sctp_model.proofs.Lists.{mem_right}
use Rattle.sctp_model.proofs.NumberWindows.{before_is, same_from, up_to_is}
use Rattle.sctp_reassembly.specs.Laws.{BoundedSkipsSpare, BoundedSkipsStand}
use Rattle.sctp_reassembly.specs.Stands.{HeldMessage, IsOf, CarryDataOf, IsGroup, AreGroups, offsets_in, numbers_in}
use Rattle.sctp_reassembly.specs.Stands.{StandsFor}
use Rattle.sctp_reassembly.specs.Stands.{IsInWindow, IsSpared, bounded_at, held_past, just_before}
use Rattle.sctp_reassembly.proofs.UnorderedFits.{end_is, end_of}
use Rattle.sctp_reassembly.proofs.HeldMessages.{and_none, at_filtered, in_from, later_number, number_in, there_from}
use Rattle.sctp_reassembly.proofs.ReadsAlike.{least_among, near_too}
use Rattle.sctp_reassembly.proofs.SkipsAlike.{ordered_skips_stand}
use Rattle.sctp_reassembly.proofs.TsnOrder.{tsns_go_as_offsets}
use Rattle.sctp_reassembly.proofs.WholeMessages.{IsNearBy, IsThere, all_there}

-- The last piece of a group.

end_in : (x : ℕ) (xs : List ℕ) → mem (end_of x xs) (x ∷ xs) ≡ true
end_in x [] = mem_one x
end_in x (y ∷ ys) = or_right (eqb x (end_of y ys)) (mem (end_of y ys) (y ∷ ys)) (end_in y ys)

end_greatest : (x : ℕ) (xs : List ℕ) (y : ℕ) → AreRising (x ∷ xs) → mem y (x ∷ xs) ≡ true → y ≤ end_of x xs
end_greatest x [] y r m =
    ⊎_elim (λ (e : eqb x y ≡ true). let i = eqb-true x y e in omega arith)
    (λ (n : false ≡ true). absurd (true≢false (sym n))) (or_cases (eqb x y) false m)
end_greatest x (z ∷ zs) y r m =
    ⊎_elim
    (λ (e : eqb x y ≡ true).
    let i = eqb-true x y e in
    let l = r.0.0 in
    let g = end_greatest z zs z r.1 (or_left (eqb z z) (mem z zs) (eq-eqb z z refl)) in
    omega arith)
    (λ (n : mem y (z ∷ zs) ≡ true). end_greatest z zs y r.1 n)
    (or_cases (eqb x y) (mem y (z ∷ zs)) m)

record HasEnd (initial o : ℕ) (g : Group) (h : HeldMessage) : Type 0 where
  pub offset : ℕ
  pub among : mem offset h.offsets ≡ true
  pub greatest : (y : ℕ) → mem y h.offsets ≡ true → y ≤ offset
  pub test : is_later (tsn initial o) (last_of g.pieces) ≡ ltb o offset

module _ {initial : ℕ} {p : Plan} {s : ℕ} {g : Group} {h : HeldMessage} (o : ℕ) (small : length p.places < 2 ^ 31)
    (l : o < 2 ^ 31) (i : IsGroup initial p s g h) where
  has_end : HasEnd initial o g h
  has_end = go g.pieces h.offsets refl refl i.pieces i.some i.rising i.mine
    where
      go : (cs : List ChunkPayloadData) (os : List ℕ) → g.pieces ≡ cs → h.offsets ≡ os → CarryDataOf initial p cs os
          → 0 < length os → AreRising os
          → AllByRecursion (IsOf p s h.number) os → HasEnd initial o g h
      go cs [] e f a n r m = absurd (omega arith)
      go [] (x ∷ xs) e f a n r m = absurd a
      go (d ∷ ds) (x ∷ xs) e f a n r m =
          let t = end_is initial p d ds x xs a in
          let z : ℕ = end_of x xs in
          let known = (all_mem (IsOf p s h.number) (x ∷ xs) (end_of x xs) m (end_in x xs)).at.known in
          record {
            offset = end_of x xs;
            among = subst (λ y. mem (end_of x xs) y ≡ true) (sym f) (end_in x xs);
            greatest = λ y k. end_greatest x xs y r (subst (λ w. mem y w ≡ true) f k);
            test =
                ap (λ y. is_later (tsn initial o) (last_of y)) e ∙ ap (is_later (tsn initial o)) t.1
                ∙ ap (tsn_lt (tsn initial o)) t.2.tsn
                ∙ tsns_go_as_offsets initial o (end_of x xs) l (omega arith);
          }

-- The first message up to m that has a piece past the offset.

abbrev up_to : Plan → ℕ → ℕ → Bool
up_to p m x = ssn_lte ((place_at p x).ssn % 65536) m

record IsFirst (p : Plan) (m o : ℕ) (hs : List HeldMessage) (bound : ℕ) : Type 0 where
  pub offset : ℕ
  pub among : mem offset (offsets_in hs) ≡ true
  pub past : o < offset
  pub is : bound ≡ ((place_at p offset).ssn % 65536 + 65535) % 65536
  pub until : up_to p m offset ≡ true
  pub first : (x : ℕ) → mem x (offsets_in hs) ≡ true → o < x → up_to p m x ≡ true
      → (place_at p offset).ssn ≤ (place_at p x).ssn

record IsNowhere (p : Plan) (m o : ℕ) (hs : List HeldMessage) (bound : ℕ) : Type 0 where
  pub is : bound ≡ m
  pub none : (x : ℕ) → mem x (offsets_in hs) ≡ true → o < x → up_to p m x ≡ false

-- The same of what the model holds.

abbrev is_past : ℕ → ℕ → Data → Bool
is_past m o d = ssn_lte d.ssn m && ltb o d.offset

filter_none : (f : Data → Bool) (held : List Data) → AllByRecursion (λ (d : Data). f d ≡ false) held
    → filter f held ≡ []
filter_none f [] a = refl
filter_none f (d ∷ ds) a = rw a.0 (filter_none f ds a.1)

-- where none of a message up to m lies past the offset, the bound is m
none_past : (p : Plan) (m o : ℕ) (q : Queue) → AllByRecursion (λ (d : Data). d ≡ data_at p d.offset) q.ordered
    → ((x : ℕ) (d : Data) → at x q.ordered ≡ Some d → o < x → up_to p m x ≡ false) → bounded_at q m o ≡ m
none_past p m o q exact none =
    ap (λ z. just_before m (least z))
    (filter_none (is_past m o) q.ordered (all_weaker _ _ q.ordered (λ d i. out d i.0 i.1.0 i.1.1)
    (all_both (λ (d : Data). d ≡ data_at p d.offset) (λ (d : Data). IsThere q.ordered d.offset) q.ordered exact
    (all_there q.ordered))))
  where
    out : (d : Data) → d ≡ data_at p d.offset → (e : Data) → at d.offset q.ordered ≡ Some e → is_past m o d ≡ false
    out d i e f =
        ⊎_elim
        (λ (b : ltb o d.offset ≡ true).
        ap (λ z. z && ltb o d.offset) (ap (λ z. ssn_lte z.ssn m) i ∙ none d.offset e f (ltb-true o d.offset b)))
        (λ (b : ltb o d.offset ≡ false). ap (λ z. ssn_lte d.ssn m && z) b ∙ and_none (ssn_lte d.ssn m))
        (cases_Bool (ltb o d.offset))

-- the least number of those past the offset, without wrap
record IsLeastPast (p : Plan) (low m o c : ℕ) (q : Queue) : Type 0 where
  pub offset : ℕ
  pub piece : at offset q.ordered ≡ Some (data_at p offset)
  pub past : o < offset
  pub until : up_to p m offset ≡ true
  pub is : c ≡ (place_at p offset).ssn % 65536
  pub above : low ≤ (place_at p offset).ssn
  pub near : (place_at p offset).ssn < low + 32767
  pub first : (x : ℕ) → at x q.ordered ≡ Some (data_at p x) → o < x → up_to p m x ≡ true
      → (place_at p offset).ssn ≤ (place_at p x).ssn

module _ {p : Plan} {came : List ℕ} {s low cursor : ℕ} {q : Queue} (w : IsInWindow p came s low cursor q) where
  least_past : (m o c : ℕ) → least (held_past q m o) ≡ Some c → IsLeastPast p low m o c q
  least_past m o c e =
      let f = is_past m o in
      let held = all_filter (IsHeld p came s true low) (is_past m o) q.ordered w.held in
      let near = all_filter (IsNearBy p low) (is_past m o) q.ordered w.near in
      let l =
      least_is p came s low (held_past q m o) c
      (all_both _ _ (held_past q m o) held (all_weaker _ _ (held_past q m o) (near_too p low) near)) e in
      let t =
      least_among (λ (d : Data). ((IsHeld p came s true low d × IsNearBy p low d) × (is_past m o d ≡ true))
      × IsThere q.ordered d.offset) (held_past q m o) c
      (all_both _ _ (held_past q m o) (all_both _ _ (held_past q m o) (all_both _ _ (held_past q m o) held near)
      (all_passed (is_past m o) q.ordered))
      (all_filter (λ (d : Data). IsThere q.ordered d.offset) (is_past m o) q.ordered (all_there q.ordered))) e in
      let d = t.0 in
      let hd = t.1.0.0.0 in
      let nd = t.1.0.0.1 in
      let passed = and_parts (ssn_lte d.ssn m) (ltb o d.offset) t.1.0.1 in
      let there = t.1.1 in
      let ha = hd.above in
      let la = l.above in
      let ln = l.near in
      let same : (place_at p d.offset).ssn ≡ l.number =
      same_from _ _ (omega arith) (omega arith) (sym (ssn_is p came s low true d hd) ∙ t.2 ∙ l.is) in
      record {
        offset = d.offset;
        piece = there.1 ∙ ap Some ((at_found (IsHeld p came s true low) d.offset q.ordered there.0 there.1 w.held).0.is
            ∙ ap (data_at p) (at_found (IsHeld p came s true low) d.offset q.ordered there.0 there.1 w.held).1);
        past = ltb-true o d.offset passed.1;
        until = sym (ap (λ z. ssn_lte z.ssn m) hd.is) ∙ passed.0;
        is = sym t.2 ∙ ssn_is p came s low true d hd;
        above = hd.above;
        near = nd;
        first = λ x g k u.
            let among =
            at_filter (is_past m o) x q.ordered (data_at p x) g (and_from (up_to p m x) (ltb o x) u (lt-ltb o x k)) in
            let b =
            (at_found (λ (y : Data). l.number ≤ (place_at p y.offset).ssn) x (held_past q m o) (data_at p x) among
            l.below).0 in
            omega (arith, same, b);
      }

-- there is a least one where there is one
some_least : (m o : ℕ) (q : Queue) (x : ℕ) (d : Data) → at x q.ordered ≡ Some d → is_past m o d ≡ true
    → least (held_past q m o) ≡ None → ⊥
some_least m o q x d e f n =
    none_some (sym (ap (at x) (least_none (held_past q m o) n)) ∙ at_filter (is_past m o) x q.ordered d e f)
  where
    none_some : None ≡ Some d → ⊥
    none_some i = cc

module _ (initial : ℕ) (p : Plan) (over : ℕ → Bool) (came : List ℕ) (s low cursor m o : ℕ) (r : Reassembly)
    (q : Queue) (h : IsPlanned p over) (v : over s ≡ false) (small : length p.places < 2 ^ 31) (l : o < 2 ^ 31)
    (w : IsInWindow p came s low cursor q) where
  bounded_first : (gs : List Group) (hs : List HeldMessage) → AreGroups initial p s gs hs → AreRising (numbers_in hs)
      → IsNowhere p m o hs (bounded gs m (tsn initial o)) ⊎ IsFirst p m o hs (bounded gs m (tsn initial o))
  bounded_first [] [] a r =
      inl (record { is = refl; none = λ x k. absurd (let e : false ≡ true = k in true≢false (sym e)) })
  bounded_first [] (h ∷ hs) a r = absurd a
  bounded_first (g ∷ gs) [] a r = absurd a
  bounded_first (g ∷ gs) (h ∷ hs) a r =
      let i = a.0 in
      let z = has_end o small l i in
      let test : (ssn_lte g.ssn m && is_later (tsn initial o) (last_of g.pieces))
      ≡ (ssn_lte (h.number % 65536) m && ltb o z.offset)
      =
      ap (λ y. ssn_lte y m && is_later (tsn initial o) (last_of g.pieces)) i.ssn
      ∙ ap (λ y. ssn_lte (h.number % 65536) m && y) z.test in
      let number : (x : ℕ) → mem x h.offsets ≡ true → (place_at p x).ssn ≡ h.number =
      (λ x k. (all_mem (IsOf p s h.number) h.offsets x i.mine k).is) in
      let later : (x : ℕ) → mem x (offsets_in hs) ≡ true → h.number < (place_at p x).ssn =
      (λ x k. later_number p h hs x r (number_in initial p s gs hs x a.1 k)) in
      let chosen : ℕ = (g.ssn + 2 ^ 16 - 1) % 2 ^ 16 in
      ⊎_elim
      (λ (b : (ssn_lte (h.number % 65536) m && ltb o z.offset) ≡ true).
      let parts = and_parts (ssn_lte (h.number % 65536) m) (ltb o z.offset) b in
      let n = number z.offset z.among in
      inr (record {
        offset = z.offset;
        among = mem_left z.offset h.offsets (offsets_in hs) z.among;
        past = ltb-true o z.offset parts.1;
        is = ap (λ y. cond y ((g.ssn + 2 ^ 16 - 1) % 2 ^ 16) (bounded gs m (tsn initial o))) (test ∙ b)
            ∙ ap (λ y. (y + 2 ^ 16 - 1) % 2 ^ 16) (i.ssn ∙ ap (λ y. y % 65536) (sym n))
            ∙ one_before ((place_at p z.offset).ssn % 65536);
        until = ap (λ y. ssn_lte (y % 65536) m) n ∙ parts.0;
        first = λ x k f u. ⊎_elim
            (λ (here : mem x h.offsets ≡ true). let e = number x here in omega (arith, n))
            (λ (there : mem x (offsets_in hs) ≡ true). let e = later x there in omega (arith, n))
            (mem_cases x h.offsets (offsets_in hs) k);
      }))
      (λ (b : (ssn_lte (h.number % 65536) m && ltb o z.offset) ≡ false).
      let same : bounded (g ∷ gs) m (tsn initial o) ≡ bounded gs m (tsn initial o)
      = ap (λ y. cond y ((g.ssn + 2 ^ 16 - 1) % 2 ^ 16) (bounded gs m (tsn initial o))) (test ∙ b) in
      let out : (x : ℕ) → mem x h.offsets ≡ true → o < x → up_to p m x ≡ false
      = (λ x k f. false_from_ne_true (up_to p m x) (λ (u : up_to p m x ≡ true).
      let e = number x k in
      let top = z.greatest x k in
      true≢false
      (sym (and_from (ssn_lte (h.number % 65536) m) (ltb o z.offset) (ap (λ y. ssn_lte (y % 65536) m) (sym e) ∙ u)
      (lt-ltb o z.offset (omega (arith, f, top)))) ∙ b))) in
      ⊎_elim
      (λ (t : IsNowhere p m o hs (bounded gs m (tsn initial o))). inl (record {
        is = same ∙ t.is;
        none = λ x k f. ⊎_elim
            (λ (here : mem x h.offsets ≡ true). out x here f)
            (λ (there : mem x (offsets_in hs) ≡ true). t.none x there f)
            (mem_cases x h.offsets (offsets_in hs) k);
      }))
      (λ (t : IsFirst p m o hs (bounded gs m (tsn initial o))). inr (record {
        offset = t.offset;
        among = mem_right t.offset h.offsets (offsets_in hs) t.among;
        past = t.past;
        is = same ∙ t.is;
        until = t.until;
        first = λ x k f u. ⊎_elim
            (λ (here : mem x h.offsets ≡ true). absurd (true≢false (sym u ∙ out x here f)))
            (λ (there : mem x (offsets_in hs) ≡ true). t.first x there f u)
            (mem_cases x h.offsets (offsets_in hs) k);
      }))
      (bounded_first gs hs a.1 r.1))
      (cases_Bool (ssn_lte (h.number % 65536) m && ltb o z.offset))
    where
      one_before : (c : ℕ) → (c + 2 ^ 16 - 1) % 2 ^ 16 ≡ (c + 65535) % 65536
      one_before c = omega arith

  same_bound : StandsFor initial p s r q → bounded r.ordered m (tsn initial o) ≡ bounded_at q m o
  same_bound st =
      ⊎_elim
      (λ (t : IsNowhere p m o st.held (bounded r.ordered m (tsn initial o))).
      t.is
      ∙ sym (none_past p m o q (all_weaker _ _ q.ordered (λ d i. i.is) w.held)
      (λ x d e k. t.none x (in_from p q.ordered st.held st.same x d e) k)))
      (λ (t : IsFirst p m o st.held (bounded r.ordered m (tsn initial o))). go t (least (held_past q m o)) refl)
      (bounded_first r.ordered st.held st.groups st.ascends)
    where
      there : (x : ℕ) → mem x (offsets_in st.held) ≡ true → at x q.ordered ≡ Some (data_at p x)
      there x k = there_from p q.ordered st.held st.same x k

      go : IsFirst p m o st.held (bounded r.ordered m (tsn initial o)) → (c : Option ℕ) → least (held_past q m o) ≡ c
          → bounded r.ordered m (tsn initial o) ≡ just_before m c
      go t None e = absurd (some_least m o q t.offset (data_at p t.offset) (there t.offset t.among)
          (and_from (up_to p m t.offset) (ltb o t.offset) t.until (lt-ltb o t.offset t.past)) e)
      go t (Some c) e =
          let b = least_past w m o c e in
          let one = b.first t.offset (there t.offset t.among) t.past t.until in
          let two =
          t.first b.offset (in_from p q.ordered st.held st.same b.offset (data_at p b.offset) b.piece) b.past b.until in
          let same : (place_at p t.offset).ssn ≡ (place_at p b.offset).ssn = omega arith in
          t.is ∙ ap (λ z. (z + 65535) % 65536) (ap (λ z. z % 65536) same ∙ sym b.is)

  bounded_stands : StandsFor initial p s r q
      → (bounded r.ordered m (tsn initial o) ≡ bounded_at q m o)
      × StandsFor initial p s (skipped r (bounded r.ordered m (tsn initial o))) (skip q (bounded_at q m o))
  bounded_stands st =
      let e = same_bound st in (
        e,
        subst (λ z. StandsFor initial p s (skipped r z) (skip q (bounded_at q m o))) (sym e)
            (ordered_skips_stand initial p over came s low cursor (bounded_at q m o) r q h v small w st),
      )

pub bounded_skips_stand : BoundedSkipsStand
bounded_skips_stand = bounded_stands

-- What such a skip leaves.

-- the number behind the bound isn't past that of a message with a piece past the offset
record IsBound (p : Plan) (o b : ℕ) (q : Queue) : Type 0 where
  pub next : ℕ
  pub is : b ≡ (next + 65535) % 65536
  pub until : (y : ℕ) (e : Data) → at y q.ordered ≡ Some e → o < y
      → (next ≤ (place_at p y).ssn) × ((place_at p y).ssn < next + 32767)

-- a number from the next one on isn't up to the bound
not_up_to : (k next : ℕ) → next ≤ k → k < next + 32767 → ssn_lte (k % 65536) ((next + 65535) % 65536) ≡ false
not_up_to k next l u =
    let e : ssn_past (k % 65536) ((next + 65535) % 65536) ≡ 65535 + next - k = omega arith in
    let b : ssn_lt (k % 65536) ((next + 65535) % 65536) ≡ false
    =
    ap (λ z. ltb 0 z && ltb z 32768) e ∙ ap (λ z. ltb 0 (65535 + next - k) && z)
    (le-ltb (65535 + next - k) 32768 (omega arith)) ∙ and_none (ltb 0 (65535 + next - k)) in
    ap (λ z. z || ssn_lt (k % 65536) ((next + 65535) % 65536))
    (ne_eqb (k % 65536) ((next + 65535) % 65536) (λ (i : k % 65536 ≡ (next + 65535) % 65536). omega arith)) ∙ b

module _ (p : Plan) (came : List ℕ) (s low cursor n o : ℕ) (q : Queue) (w : IsInWindow p came s low cursor q)
    (l : n < low + 32768) where
  bound_is : AllByRecursion (λ (d : Data). (place_at p d.offset).ssn < n + 32768) q.ordered
      → IsBound p o (bounded_at q (n % 65536) o) q
  bound_is a = go (least (held_past q (n % 65536) o)) refl
    where
      piece : (y : ℕ) (e : Data) → at y q.ordered ≡ Some e → e ≡ data_at p y
      piece y e f = let t = at_found (IsHeld p came s true low) y q.ordered e f w.held in t.0.is ∙ ap (data_at p) t.1

      -- what is held lies near the number
      near : (y : ℕ) (e : Data) → at y q.ordered ≡ Some e
          → ((low ≤ (place_at p y).ssn) × ((place_at p y).ssn < low + 32767))
          × (((place_at p y).ssn < n + 32768) × (n < (place_at p y).ssn + 32768))
      near y e f =
          let t = at_found (IsHeld p came s true low) y q.ordered e f w.held in
          let u = at_found (IsNearBy p low) y q.ordered e f w.near in
          let x = at_found (λ (d : Data). (place_at p d.offset).ssn < n + 32768) y q.ordered e f a in
          let above : low ≤ (place_at p y).ssn = subst (λ z. low ≤ (place_at p z).ssn) t.1 t.0.above in
          let below : (place_at p y).ssn < low + 32767 = subst (λ z. (place_at p z).ssn < low + 32767) u.1 u.0 in
          let far : (place_at p y).ssn < n + 32768 = subst (λ z. (place_at p z).ssn < n + 32768) x.1 x.0 in
          ((above, below), (far, omega arith))

      tested : (y : ℕ) (e : Data) → at y q.ordered ≡ Some e → up_to p (n % 65536) y ≡ leb (place_at p y).ssn n
      tested y e f = let t = near y e f in up_to_is (place_at p y).ssn n t.1.0 t.1.1

      go : (c : Option ℕ) → least (held_past q (n % 65536) o) ≡ c → IsBound p o (just_before (n % 65536) c) q
      go None f = record {
        next = suc n;
        is = omega arith;
        until = λ y e g k.
            let t = near y e g in
            let t0 = t.1.0 in
            let out : leb (place_at p y).ssn n ≡ false =
            sym (tested y e g) ∙ false_from_ne_true (up_to p (n % 65536) y) (λ (u : up_to p (n % 65536) y ≡ true).
            some_least (n % 65536) o q y (data_at p y) (g ∙ ap Some (piece y e g))
            (and_from (up_to p (n % 65536) y) (ltb o y) u (lt-ltb o y k)) f) in
            let far = leb-false (place_at p y).ssn n out in
            (omega arith, omega arith);
      }
      go (Some c) f =
          let b = least_past w (n % 65536) o c f in
          let above = b.above in
          let small : (place_at p b.offset).ssn ≤ n =
          leb-true (place_at p b.offset).ssn n (sym (tested b.offset (data_at p b.offset) b.piece) ∙ b.until) in
          record {
            next = (place_at p b.offset).ssn;
            is = ap (λ z. (z + 65535) % 65536) b.is ∙ wrapped (place_at p b.offset).ssn;
            until = λ y e g k.
                let t = near y e g in
                let t0 = t.0.1 in
                ⊎_elim
                (λ (u : up_to p (n % 65536) y ≡ true).
                let x = b.first y (g ∙ ap Some (piece y e g)) k u in
                (x, omega (arith, t0, above)))
                (λ (u : up_to p (n % 65536) y ≡ false).
                let far = leb-false (place_at p y).ssn n (sym (tested y e g) ∙ u) in
                (omega (arith, far, small), omega (arith, t0, above)))
                (cases_Bool (up_to p (n % 65536) y));
          }
        where
          wrapped : (x : ℕ) → (x % 65536 + 65535) % 65536 ≡ (x + 65535) % 65536
          wrapped x = omega arith

  spared : (b : ℕ) → IsBound p o b q → IsSpared p o b q
  spared b t = record {
    pieces = λ x y d e f g k n.
        let u = t.until y e g k in
        let u0 = u.0 in
        let u1 = u.1 in
        let out : ssn_lte ((place_at p x).ssn % 65536) b ≡ false
        =
        ap (ssn_lte ((place_at p x).ssn % 65536)) t.is
        ∙ not_up_to (place_at p x).ssn t.next (omega (arith, n, u0)) (omega (arith, n, u1)) in
        at_filtered p (λ (z : Data). not (ssn_lte z.ssn b) || is_some (message_in q.ordered z.ssn)) x q.ordered
        (all_weaker _ _ q.ordered (λ z i. i.is) w.held)
        ∙ ap (λ z. cond (not z || is_some (message_in q.ordered ((place_at p x).ssn % 65536))) (at x q.ordered) None)
        out
        ∙ f;
    cursor = λ y e g k f.
        let u = t.until y e g k in
        let u0 = u.0 in
        let u1 = u.1 in
        let i = at_found (IsHeld p came s true low) y q.ordered e g w.held in
        let number : e.ssn ≡ (place_at p y).ssn % 65536 =
        ssn_is p came s low true e i.0 ∙ ap (λ z. (place_at p z).ssn % 65536) i.1 in
        ⊎_elim
        (λ (z : ssn_lte q.cursor b ≡ true).
        ap (λ v. ssn_lt e.ssn (cond v ((b + 1) % 65536) q.cursor)) z
        ∙ ap (λ v. ssn_lt e.ssn ((v + 1) % 65536)) t.is
        ∙ ap (ssn_lt e.ssn) (one_on t.next)
        ∙ ap (λ v. ssn_lt v (t.next % 65536)) number
        ∙ before_is (place_at p y).ssn t.next (omega arith) (omega arith)
        ∙ le-ltb (place_at p y).ssn t.next u0)
        (λ (z : ssn_lte q.cursor b ≡ false). ap (λ v. ssn_lt e.ssn (cond v ((b + 1) % 65536) q.cursor)) z ∙ f)
        (cases_Bool (ssn_lte q.cursor b));
  }
    where
      one_on : (x : ℕ) → ((x + 65535) % 65536 + 1) % 65536 ≡ x % 65536
      one_on x = omega arith

  bounded_spares : AllByRecursion (λ (d : Data). (place_at p d.offset).ssn < n + 32768) q.ordered
      → IsSpared p o (bounded_at q (n % 65536) o) q
      × (((x : ℕ) (d : Data) → at x q.ordered ≡ Some d → o < x → ssn_lte d.ssn (n % 65536) ≡ false) → bounded_at q (n %
      65536) o ≡ n % 65536)
  bounded_spares a = (
    spared (bounded_at q (n % 65536) o) (bound_is a),
    λ none. none_past p (n % 65536) o q (all_weaker _ _ q.ordered (λ d i. i.is) w.held) (λ x d e k.
        let t = at_found (IsHeld p came s true low) x q.ordered d e w.held in
        sym (ap (λ z. ssn_lte z.ssn (n % 65536)) (t.0.is ∙ ap (data_at p) t.1)) ∙ none x d e k),
  )

pub bounded_skips_spare : BoundedSkipsSpare
bounded_skips_spare = bounded_spares
