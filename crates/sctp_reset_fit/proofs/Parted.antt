-- What waits is parted by a boundary as its offsets are.
use Rattle.std.proofs.Common.{◌≡◌, refl, sym, ap, ◌∙◌, subst, ℕ, ◌+◌, ◌<◌, ◌^◌, Bool, true, false, eqb, not, cond}
use Rattle.std.proofs.Common.{if◌then◌else◌, List, [], ◌∷◌, filter, map, length, slice_get, Option, Some, None}
use Rattle.std.proofs.Common.{is_some, arith, ⊎_elim, ◌⊎◌, inl, inr, nat_cmp, nat_lt, nat_le}
use Rattle.std.specs.List.{AllByRecursion}
use Rattle.std.specs.BTreeMap.{is_at}
use Rattle.std.specs.Map.{set_value}
use Rattle.std.proofs.lemmas.Bool.{true≢false, eqb-true, eq-eqb, cond-true, ne_eqb}
use Rattle.std.proofs.lemmas.Map.{lookup-set_value}
use Rattle.std.proofs.lemmas.Cmp.{eq_by_cmp_equiv, nat_cmp_total}
use Rattle.sctp_wire_types.specs.declared.chunk.ChunkPayloadData.{ChunkPayloadData}
use Rattle.sctp_serial.specs.Serial.{tsn_lte}
use Rattle.sctp_streams.proofs.LowMarks.{found_as}
use Rattle.sctp_generations.specs.Deferred.{is_of, is_up_to}
use Rattle.sctp_generations.specs.Retiring.{RetiringMap, boundaries_at, behind_first, first_passed, forgotten}
use Rattle.sctp_generations.specs.Retiring.{is_single}
use Rattle.sctp_generations.specs.Retiring.{passed, readable_boundary, first_of, first_passed_at}
use Rattle.std.proofs.lemmas.Bool.Decides.{nat_tests}
use Rattle.sctp_generations.specs.Generations.{first_boundary}
use Rattle.sctp_reset_requests.specs.Peer.{boundary_for}
use Rattle.sctp_reset_requests.specs.Request.{PeerRequestView, names}
use Rattle.sctp_courses.specs.Course.{Course, boundary_at, times}
use Rattle.sctp_courses.specs.Events.{is_behind, is_of_next}
use Rattle.sctp_courses.proofs.Times.{times_parted, times_passed}
use Rattle.sctp_reset_fit.specs.Stands.{IsNear, IsOnce, MarksAs, WaitsAs, last_below, offset_of, offsets_of}
use Rattle.sctp_reset_fit.proofs.Numbers.{lte_below}
use Rattle.sctp_reset_fit.proofs.Once.{removed_none, removed_once, set_once}

-- of what passes a test a number is there as often, or not at all
pub times_chosen : (test : ℕ → Bool) (o : ℕ) (xs : List ℕ)
    → times o (filter test xs) ≡ (if test o then times o xs else 0)
times_chosen test o xs = by (test o) refl
  where
    by : (b : Bool) → test o ≡ b → times o (filter test xs) ≡ (if test o then times o xs else 0)
    by true e =
        let p = times_parted test o xs in
        let n = times_passed (λ x. not (test x)) o xs (ap not e) in rw e (omega arith)
    by false e = rw e (times_passed test o xs e)

-- so it is of the offsets of some pieces, where these pass as their offsets do
pub offsets_chosen : (initial id : ℕ) (choose : ChunkPayloadData → Bool) (test : ℕ → Bool) (ds : List ChunkPayloadData)
    → AllByRecursion (λ (d : ChunkPayloadData). is_of id d ≡ true → choose d ≡ test (offset_of initial d.tsn)) ds
    → (o : ℕ)
    → times o (offsets_of initial id (filter choose ds)) ≡ (if test o then times o (offsets_of initial id ds) else 0)
offsets_chosen initial id choose test [] h o = by (test o)
  where
    by : (b : Bool) → times o [] ≡ (if b then times o [] else 0)
    by true = refl
    by false = refl
offsets_chosen initial id choose test (d ∷ ds) h o =
    by (is_of id d) refl (choose d) refl (offsets_chosen initial id choose test ds h.1 o)
  where
    at : ℕ
    at = offset_of initial d.tsn

    rest : List ℕ
    rest = offsets_of initial id ds

    one : (same : Bool) → eqb at o ≡ same → (b : Bool) → test at ≡ b → (n : ℕ)
        → n ≡ (if test o then times o rest else 0)
        → (if eqb at o then 1 else 0) + n ≡ (if test o then times o (at ∷ rest) else 0) ⊎ (b ≡ false)
    one same e false f n g = inr refl
    one true e true f n g =
        let there : test o ≡ true = ap test (sym (eqb-true at o e)) ∙ f in
        let g' : n ≡ (if true then times o rest else 0) = subst (λ b. n ≡ (if b then times o rest else 0)) there g in
        inl (rw (there, e) (omega arith))
    one false e true f n g = inl (by_test (test o) refl)
      where
        by_test : (b : Bool) → test o ≡ b
            → (if eqb at o then 1 else 0) + n ≡ (if test o then times o (at ∷ rest) else 0)
        by_test true t =
            let g' : n ≡ (if true then times o rest else 0) =
            subst (λ b. n ≡ (if b then times o rest else 0)) t g in rw (t, e) (omega arith)
        by_test false t =
            let g' : n ≡ (if false then times o rest else 0) =
            subst (λ b. n ≡ (if b then times o rest else 0)) t g in rw (t, e) (omega arith)

    by : (mine : Bool) → is_of id d ≡ mine → (chosen : Bool) → choose d ≡ chosen
        → times o (offsets_of initial id (filter choose ds)) ≡ (if test o then times o rest else 0)
        → times o (offsets_of initial id (filter choose (d ∷ ds)))
        ≡ (if test o then times o (offsets_of initial id (d ∷ ds)) else 0)
    by false e true f g = rw (f, e) g
    by false e false f g = rw (f, e) g
    by true e true f g =
        rw (f, e) (⊎_elim (λ z. z) (λ (z : true ≡ false). absurd (true≢false z))
        (one (eqb at o) refl true (sym (h.0 e) ∙ f) (times o (offsets_of initial id (filter choose ds))) g))
    by true e false f g =
        rw (f, e) (left (eqb at o) refl (test o) refl)
      where
        left : (same : Bool) → eqb at o ≡ same → (b : Bool) → test o ≡ b
            → times o (offsets_of initial id (filter choose ds)) ≡ (if test o then times o (at ∷ rest) else 0)
        left true s b t =
            let gone : test o ≡ false = ap test (sym (eqb-true at o s)) ∙ sym (h.0 e) ∙ f in
            let g' : times o (offsets_of initial id (filter choose ds)) ≡ 0 =
            subst (λ b. times o (offsets_of initial id (filter choose ds)) ≡ (if b then times o rest else 0)) gone g in
            rw gone g'
        left false s true t =
            let g' : times o (offsets_of initial id (filter choose ds)) ≡ times o rest =
            subst (λ b. times o (offsets_of initial id (filter choose ds)) ≡ (if b then times o rest else 0)) t g in
            rw (t, s) (omega arith)
        left false s false t =
            let g' : times o (offsets_of initial id (filter choose ds)) ≡ 0 =
            subst (λ b. times o (offsets_of initial id (filter choose ds)) ≡ (if b then times o rest else 0)) t g in
            rw t g'

-- The first boundary of a stream is passed

-- what is kept of the boundaries behind the first is the marks behind the first
pub passed_marks : (initial id mark : ℕ) (marks : List ℕ) (m : RetiringMap) → IsOnce id m
    → MarksAs initial (boundaries_at m id) (mark ∷ marks) → MarksAs initial (boundaries_at (passed m id) id) marks
passed_marks initial id mark marks m once h = by (boundaries_at m id) refl marks h
  where
    by : (o : Option (List ℕ)) → boundaries_at m id ≡ o → (rest : List ℕ) → MarksAs initial o (mark ∷ rest)
        → MarksAs initial (boundaries_at (passed m id) id) rest
    by None is rest e = absurd (never e)
      where
        never : mark ∷ rest ≡ [] → ⊥
        never f = cc
    by (Some bs) is [] e =
        subst (λ (o : Option (List ℕ)). MarksAs initial o [])
        (sym (ap (λ n. boundaries_at n id) gone ∙ removed_none id m once)) refl
      where
        single : is_single (boundaries_at m id) ≡ true
        single = ap is_single is ∙ ap (λ (xs : List ℕ). eqb (length xs) 1) e.0

        gone : passed m id ≡ forgotten m id
        gone = rw single refl
    by (Some bs) is (next ∷ rest) e =
        subst (λ (o : Option (List ℕ)). MarksAs initial o (next ∷ rest))
        (sym (ap (λ n. boundaries_at n id) goes_on
        ∙ lookup-set_value (eq_by_cmp_equiv nat_cmp_total) (is_at (nat_cmp id))
        ((eq_by_cmp_equiv nat_cmp_total).congr id)
        id (behind_first bs) m (ap is_some is)
        ∙ cond-true _ (Some (behind_first bs)) (boundaries_at m id) (found_as id id ∙ eq-eqb id id refl)))
        (left, omega arith)
      where
        more : is_single (boundaries_at m id) ≡ false
        more = ap is_single is ∙ ap (λ (xs : List ℕ). eqb (length xs) 1) e.0 ∙ several
          where
            several : eqb (length (map (last_below initial) (mark ∷ next ∷ rest))) 1 ≡ false
            several = ne_eqb _ _ (λ (f : length (map (last_below initial) (mark ∷ next ∷ rest)) ≡ 1). omega arith)

        goes_on : passed m id ≡ set_value (is_at (nat_cmp id)) m (behind_first bs)
        goes_on = rw (more, is) refl

        left : behind_first bs ≡ map (last_below initial) (next ∷ rest)
        left = ap behind_first e.0 ∙ rest_of
          where
            rest_of : behind_first (map (last_below initial) (mark ∷ next ∷ rest)) ≡ map (last_below initial)
                (next ∷ rest)
            rest_of = rw (ne_eqb (length (map (last_below initial) (mark ∷ next ∷ rest))) 1 (λ f. omega arith)) refl

pub passed_once : (id : ℕ) (m : RetiringMap) → IsOnce id m → IsOnce id (passed m id)
passed_once id m once = by (is_single (boundaries_at m id)) (boundaries_at m id)
  where
    by : (b : Bool) (o : Option (List ℕ)) → IsOnce id (cond b (forgotten m id) (first_passed m id))
    by true o = removed_once id (is_at (nat_cmp id)) m once
    by false o = more (boundaries_at m id)
      where
        more : (x : Option (List ℕ)) → IsOnce id (first_passed_at x m id)
        more None = once
        more (Some bs) = set_once id (is_at (nat_cmp id)) (behind_first bs) m once

-- What is of the generation that is read next

-- the boundary of the generation that is read is that of the first mark
pub readable_as : (initial id : ℕ) (m : RetiringMap) (marks : List ℕ) → MarksAs initial (boundaries_at m id) marks
    → readable_boundary m id ≡ slice_get (map (last_below initial) marks) 0
readable_as initial id m marks h = by (boundaries_at m id) h
  where
    by : (o : Option (List ℕ)) → MarksAs initial o marks → first_of o ≡ slice_get (map (last_below initial) marks) 0
    by None e = rw e refl
    by (Some bs) e = ap (λ (xs : List ℕ). slice_get xs 0) e.0

not_le : (a b : ℕ) → nat_lt a b ≡ not (nat_le b a)
not_le a b = grind (arith, nat_tests)

-- what stands near the initial TSN is up to the boundary of the request that waits where it is not behind that
pub up_to_as : (initial id : ℕ) (in_progress : Option PeerRequestView) (c : Course) → WaitsAs initial id in_progress c
    → boundary_at c.asked c.performed < 2 ^ 31 → (t : ℕ) → IsNear initial t
    → is_up_to (boundary_for in_progress id) t ≡ not (is_behind c.asked c.performed c.waits (offset_of initial t))
up_to_as initial id None c e near t at = rw e refl
up_to_as initial id (Some q) c e near t at = named (names q id) refl
  where
    o : ℕ
    o = offset_of initial t

    named : (b : Bool) → names q id ≡ b
        → is_up_to (cond b (Some q.last_tsn) None) t ≡ not (is_behind c.asked c.performed c.waits o)
    named true n =
        rw (e.0, sym e.2 ∙ n)
        (ap (λ z. tsn_lte t z) e.1 ∙ ap (λ z. tsn_lte z (last_below initial (boundary_at c.asked c.performed))) at.is
        ∙ lte_below initial o (boundary_at c.asked c.performed) at.near near
        ∙ not_le o (boundary_at c.asked c.performed))
    named false n = rw (e.0, sym e.2 ∙ n) refl

pub of_next_as : (initial id : ℕ) (marks : List ℕ) (m : RetiringMap) (in_progress : Option PeerRequestView) (c : Course)
    → MarksAs initial (boundaries_at m id) marks → AllByRecursion (λ (b : ℕ). b < 2 ^ 31) marks
    → WaitsAs initial id in_progress c → boundary_at c.asked c.performed < 2 ^ 31 → (t : ℕ) → IsNear initial t
    → is_up_to (first_boundary (readable_boundary m id) (boundary_for in_progress id)) t
    ≡ is_of_next marks c (offset_of initial t)
of_next_as initial id (mark ∷ marks) m in_progress c h small waits near t at =
    rw (readable_as initial id m (mark ∷ marks) h)
    (ap (λ z. tsn_lte z (last_below initial mark)) at.is ∙ lte_below initial (offset_of initial t) mark at.near small.0)
of_next_as initial id [] m in_progress c h small waits near t at =
    rw (readable_as initial id m [] h) (up_to_as initial id in_progress c waits near t at)
