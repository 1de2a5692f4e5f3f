-- The last TSN in order moves over the TSNs held that follow it, as the reach climbs over the offsets that came.
use Rattle.std.proofs.Common.{ℕ, zero, suc, ◌+◌, ◌<◌, ◌≤◌, ◌≡◌, Bool, true, false, List, ◌∷◌, length, None}
use Rattle.std.proofs.Common.{refl, sym, ap, ◌∙◌, subst, ⊎_elim, arith, eqb, ltb, not, ◌||◌, ◌-◌, ◌%◌, ◌^◌}
use Rattle.std.specs.List.{AllByRecursion}
use Rattle.std.specs.List.Sorted.{IsStrictlySortedBy}
use Rattle.std.specs.Ordering.{nat_cmp}
use Rattle.std.specs.BTreeSet.{insert_key}
use Rattle.std.proofs.lemmas.Bool.{and_from, and_parts, and_right, cases_eq, cases_lt, cond_both, cond-true, eq-eqb}
use Rattle.std.proofs.lemmas.Bool.{eqb-true, false_from_ne_true, le-ltb, lt-ltb, ltb-true, ne_eqb, not-true, or_cases}
use Rattle.std.proofs.lemmas.Bool.{or_left, or_right, true≢false}
use Rattle.std.proofs.lemmas.List.{nil_from_length}
use Rattle.std.proofs.lemmas.List.Kept.{IsStrictlySortedBy-filter}
use Rattle.sctp_received.specs.Received.{advanced, is_held, is_new, with_tsn}
use Rattle.sctp_model.specs.Packets.{mem}
use Rattle.sctp_serial.specs.Serial.{tsn, tsn_after, tsn_lt, tsn_lte, tsn_past}
use Rattle.sctp_model.specs.Machine.{climb, past_all}
use Rattle.sctp_model.proofs.Lists.{all_both, all_filter, all_mem, all_passed, all_weaker}
use Rattle.sctp_model.proofs.OffsetSets.{climb_from, climb_in, mem-filter, reach_stops}
use Rattle.sctp_fit.specs.HeldSet.{HoldsPast, IsPast, TheSetFollows, TheSetIsPassedOver, TsnsAheadAreNotBehind}
use Rattle.sctp_fit.specs.HeldSet.{past_tsn, peer_last_tsn_of, with_all_to, with_offset}
use Rattle.sctp_fit.specs.Incoming.{Receiving, offset_of, reach_of}
use Rattle.sctp_fit.proofs.HeldTsns.{before, held_is, insert_all, insert_ascends, insert_here, insert_keeps}
use Rattle.sctp_fit.proofs.HeldTsns.{new_tsns_did_not_come, same_offset, spells, without, without_all}
use Rattle.sctp_fit.proofs.HeldTsns.{without_all_apart, without_ascends, without_keeps, without_shorter}

-- the climb stops at the first offset that didn't come
stops : (taken : List ℕ) (passed : ℕ) → mem (climb taken (past_all taken) passed) taken ≡ false
stops taken passed =
    reach_stops (record { taken = taken; passed = passed; queues = λ s. None; is_open = true })

-- the climb ends at r where all up to r came and r did not
climbs_to : (taken : List ℕ) (passed r : ℕ) → passed ≤ r
    → ((o : ℕ) → passed ≤ o → o < r → mem o taken ≡ true) → mem r taken ≡ false
    → r ≡ climb taken (past_all taken) passed
climbs_to taken passed r from below end = ⊎_elim
    (λ (l : climb taken (past_all taken) passed < r). absurd (true≢false
    (sym (below (climb taken (past_all taken) passed) (climb_from taken (past_all taken) passed) l)
    ∙ stops taken passed)))
    (λ (g : r ≤ climb taken (past_all taken) passed). ⊎_elim
    (λ (l : r < climb taken (past_all taken) passed).
    absurd (true≢false (sym (climb_in taken (past_all taken) passed r from l) ∙ end)))
    (λ (k : climb taken (past_all taken) passed ≤ r). omega arith)
    (cases_lt r (climb taken (past_all taken) passed)))
    (cases_lt (climb taken (past_all taken) passed) r)

module _ (i : ℕ) (taken : List ℕ) where
  -- t is the TSN of an offset from r on that came
  record IsFrom (r t : ℕ) : Type 0 where
    offset : ℕ
    came : mem offset taken ≡ true
    from : r ≤ offset
    is : t ≡ tsn i offset

  -- The TSNs are those of all offsets from r on that came.
  record HoldsFrom (r : ℕ) (held : List ℕ) : Type 0 where
    all : (o : ℕ) → mem o taken ≡ true → r ≤ o → mem (tsn i o) held ≡ true
    only : AllByRecursion (IsFrom r) held
    below : (o : ℕ) → mem o taken ≡ true → o < r + 65535
    once : IsStrictlySortedBy nat_cmp held

  -- where the TSN of r is held, r came
  here : (r : ℕ) (held : List ℕ) → HoldsFrom r held → mem (tsn i r) held ≡ true → mem r taken ≡ true
  here r held h m =
      let f = all_mem (IsFrom r) held (tsn i r) h.only m in
      subst (λ z. mem z taken ≡ true)
      (same_offset i r f.offset r f.from (h.below f.offset f.came) (omega arith) (omega arith) (sym f.is)) f.came

  -- it is held no more, and what is left is what lies past it
  past_here : (r : ℕ) (held : List ℕ) → HoldsFrom r held → HoldsFrom (suc r) (without (tsn i r) held)
  past_here r held h = record {
    all = λ o m l.
        without_keeps (tsn i r) (tsn i o) held
        (λ (e : tsn i o ≡ tsn i r).
        let same = same_offset i r o r (omega arith) (h.below o m) (omega arith) (omega arith) e in omega arith)
        (h.all o m (omega arith));
    only =
        all_weaker (λ t. (t ≡ tsn i r → ⊥) × IsFrom r t) (IsFrom (suc r)) (without (tsn i r) held)
        (λ t b. later t b.0 b.1)
        (all_both (λ t. t ≡ tsn i r → ⊥) (IsFrom r) (without (tsn i r) held) (without_all_apart (tsn i r) held h.once)
        (without_all (tsn i r) (IsFrom r) held h.only));
    below = λ o m. let l = h.below o m in omega arith;
    once = without_ascends (tsn i r) held h.once;
  }
    where
      later : (t : ℕ) → (t ≡ tsn i r → ⊥) → IsFrom r t → IsFrom (suc r) t
      later t ne f = record {
        offset = f.offset;
        came = f.came;
        from =
            let g = f.from in
            let apart : f.offset ≡ r → ⊥ = λ (e : f.offset ≡ r). ne (f.is ∙ ap (tsn i) e) in
            omega (arith, apart);
        is = f.is;
      }

  module _ (passed : ℕ) where
    -- where the last TSN in order stops, the reach does, and the TSNs are those past it
    record IsReached (last_tsn : ℕ) (held : List ℕ) : Type 0 where
      reach : ℕ
      moved : last_tsn ≡ before i reach
      holds : HoldsFrom reach held
      is : reach ≡ climb taken (past_all taken) passed

    reached : (r : ℕ) (held : List ℕ) → passed ≤ r → ((o : ℕ) → passed ≤ o → o < r → mem o taken ≡ true)
        → HoldsFrom r held → mem (tsn i r) held ≡ false → IsReached (before i r) held
    reached r held from below h end = record {
      reach = r;
      moved = refl;
      holds = h;
      is = climbs_to taken passed r from below
          (false_from_ne_true _ (λ (m : mem r taken ≡ true). true≢false (sym (h.all r m (omega arith)) ∙ end)));
    }

    advances : (n r : ℕ) (held : List ℕ) → length held ≤ n → passed ≤ r
        → ((o : ℕ) → passed ≤ o → o < r → mem o taken ≡ true) → HoldsFrom r held
        → IsReached (advanced n (before i r) held).0 (advanced n (before i r) held).1
    advances zero r held short from below h =
        reached r held from below h (ap (mem (tsn i r)) (nil_from_length held (omega arith)))
    advances (suc n) r held short from below h =
        cond_both (is_held (tsn_after (before i r)) held)
        (advanced n (tsn_after (before i r)) (without (tsn_after (before i r)) held)) (before i r, held)
        (λ z. IsReached z.0 z.1)
        (λ b.
        let m : mem (tsn i r) held ≡ true = sym (ap (λ z. mem z held) after) ∙ sym (held_is _ held) ∙ b in
        let shorter = without_shorter (tsn i r) held m in
        subst (λ z. IsReached (advanced n z (without z held)).0 (advanced n z (without z held)).1) (sym after)
        (subst (λ z. IsReached (advanced n z (without (tsn i r) held)).0 (advanced n z (without (tsn i r) held)).1)
        next
        (advances n (suc r) (without (tsn i r) held) (omega arith) (omega arith)
        (λ o f l. ⊎_elim
        (λ (c : o < r). below o f c)
        (λ (c : r ≤ o). subst (λ z. mem z taken ≡ true)
        (let e : r ≡ o = omega arith in e) (here r held h m))
        (cases_lt o r))
        (past_here r held h))))
        (λ b. reached r held from below h
        (sym (ap (λ z. mem z held) after) ∙ sym (held_is (tsn_after (before i r)) held) ∙ b))
      where
        after : tsn_after (before i r) ≡ tsn i r
        after = omega arith

        next : before i (suc r) ≡ tsn i r
        next = omega arith

-- What is reached

-- so what an association has then is what its receiver does
settled : (b : Receiving) (last_tsn : ℕ) (held : List ℕ) → IsReached b.peer b.taken b.passed last_tsn held
    → (last_tsn ≡ peer_last_tsn_of b) × HoldsPast b held
settled b last_tsn held f = (
  f.moved ∙ ap (before b.peer) f.is,
  record {
    all = λ x m l. held_is (tsn b.peer x) held ∙ g.all x m l;
    only = all_weaker (IsFrom b.peer b.taken (reach_of b)) (IsPast b) held past g.only;
    below = g.below;
    once = g.once;
  },
)
  where
    g : HoldsFrom b.peer b.taken (reach_of b) held
    g = subst (λ z. HoldsFrom b.peer b.taken z held) f.is f.holds

    past : (x : ℕ) → IsFrom b.peer b.taken (reach_of b) x → IsPast b x
    past x q = record {
      offset = q.offset;
      came = q.came;
      past =
          let l = q.from in
          let apart : q.offset ≡ reach_of b → ⊥ =
          λ (e : q.offset ≡ reach_of b).
          true≢false (sym q.came ∙ ap (λ z. mem z b.taken) e ∙ stops b.taken b.passed) in
          omega (arith, apart);
      near = g.below q.offset q.came;
      is = q.is;
    }

-- A new TSN

mem_first : (o : ℕ) (xs : List ℕ) → mem o (o ∷ xs) ≡ true
mem_first o xs = or_left (eqb o o) (mem o xs) (eq-eqb o o refl)

pub the_set_follows : TheSetFollows
the_set_follows a held t n small h new short =
    settled (with_offset a o) (advanced n (peer_last_tsn_of a) (with_tsn held t (peer_last_tsn_of a)).0).0
    (advanced n (peer_last_tsn_of a) (with_tsn held t (peer_last_tsn_of a)).0).1 f
  where
    o : ℕ
    o = offset_of a t

    p : (offset_of a t < reach_of a + 65535) × (mem (offset_of a t) a.taken ≡ false)
    p = let c = and_parts _ _ (sym (new_tsns_did_not_come a held t small h) ∙ new) in
        (ltb-true _ _ c.0, not-true _ c.1)

    put_in : (with_tsn held t (peer_last_tsn_of a)).0 ≡ insert_key nat_cmp held t
    put_in = ap (λ (z : List ℕ × Bool). z.0)
        (cond-true (is_new held t (peer_last_tsn_of a)) (insert_key nat_cmp held t, true) (held, false) new)

    spelt : tsn a.peer o ≡ t
    spelt = spells a.peer (reach_of a) t small

    start : HoldsFrom a.peer (o ∷ a.taken) (reach_of a) (insert_key nat_cmp held t)
    start = record {
      all = λ x m l. ⊎_elim
          (λ (e : eqb o x ≡ true).
          subst (λ z. mem z (insert_key nat_cmp held t) ≡ true) (sym spelt ∙ ap (tsn a.peer) (eqb-true o x e))
          (insert_here t held))
          (λ (r : mem x a.taken ≡ true).
          insert_keeps t (tsn a.peer x) held (sym (held_is (tsn a.peer x) held) ∙ h.all x r l))
          (or_cases (eqb o x) (mem x a.taken) m);
      only =
          insert_all t (IsFrom a.peer (o ∷ a.taken) (reach_of a)) held
          (record { offset = o; came = mem_first o a.taken; from = omega arith; is = sym spelt })
          (all_weaker (IsPast a) (IsFrom a.peer (o ∷ a.taken) (reach_of a)) held (λ x q. record {
            offset = q.offset;
            came = or_right (eqb o q.offset) _ q.came;
            from = let l = q.past in omega arith;
            is = q.is;
          }) h.only);
      below = λ x m. ⊎_elim
          (λ (e : eqb o x ≡ true). subst (λ z. z < reach_of a + 65535) (eqb-true o x e) p.0)
          (λ (r : mem x a.taken ≡ true). h.below x r)
          (or_cases (eqb o x) (mem x a.taken) m);
      once = insert_ascends t held h.once;
    }

    f : IsReached a.peer (o ∷ a.taken) a.passed
        (advanced n (peer_last_tsn_of a) (with_tsn held t (peer_last_tsn_of a)).0).0
        (advanced n (peer_last_tsn_of a) (with_tsn held t (peer_last_tsn_of a)).0).1
    f = subst (λ z. IsReached a.peer (o ∷ a.taken) a.passed (advanced n (peer_last_tsn_of a) z).0
        (advanced n (peer_last_tsn_of a) z).1) (sym put_in)
        (advances a.peer (o ∷ a.taken) a.passed n (reach_of a) (insert_key nat_cmp held t)
        (subst (λ z. length z ≤ n) put_in short) (climb_from a.taken (past_all a.taken) a.passed)
        (λ x l u. or_right (eqb o x) _ (climb_in a.taken (past_all a.taken) a.passed x l u)) start)

-- A FORWARD TSN

or_none : (b c : Bool) → b ≡ false → c ≡ false → (b || c) ≡ false
or_none b c e f = rw (e, f) refl

-- a TSN is behind another one unless it is less than half the range past the one that follows that: d past it
behind_where : (t u d : ℕ) → d < 2 ^ 32 → t < 2 ^ 32 → u < 2 ^ 32 → tsn_past t u ≡ (2 ^ 32 - 1 - d) % 2 ^ 32
    → not (tsn_lte t u) ≡ ltb d (2 ^ 31)
behind_where t u d a b c e = ⊎_elim
    (λ (l : d < 2 ^ 31).
    ap not (or_none (eqb t u) (tsn_lt t u)
    (ne_eqb t u (λ (f : t ≡ u). omega (arith, a, b, c, e, l)))
    (and_right (ltb 0 (tsn_past t u)) (ltb (tsn_past t u) (2 ^ 31))
    (le-ltb (tsn_past t u) (2 ^ 31) (omega (arith, a, e, l)))))
    ∙ sym (lt-ltb d (2 ^ 31) l))
    (λ (g : 2 ^ 31 ≤ d).
    ap not (⊎_elim
    (λ (f : t ≡ u). or_left (eqb t u) _ (eq-eqb t u f))
    (λ (ne : t ≡ u → ⊥).
    or_right (eqb t u) _
    (and_from (ltb 0 (tsn_past t u)) (ltb (tsn_past t u) (2 ^ 31))
    (lt-ltb 0 (tsn_past t u) (omega (arith, a, b, c, e, g, ne)))
    (lt-ltb (tsn_past t u) (2 ^ 31) (omega (arith, a, e, g)))))
    (cases_eq t u))
    ∙ sym (le-ltb d (2 ^ 31) g))
    (cases_lt d (2 ^ 31))

-- of two TSNs of offsets that are not far apart the one of the later offset is past the other
past_where : (i at o x : ℕ) → at ≤ x → x < at + 65535 → at ≤ o → o < at + 2 ^ 31
    → not (tsn_lte (tsn i x) (tsn i o)) ≡ ltb o x
past_where i at o x a b c d =
    behind_where (tsn i x) (tsn i o) far (omega arith) (omega arith) (omega arith) (omega arith)
    ∙ ⊎_elim
    (λ (l : o < x). lt-ltb far (2 ^ 31) (omega arith) ∙ sym (lt-ltb o x l))
    (λ (g : x ≤ o). le-ltb far (2 ^ 31) (omega arith) ∙ sym (le-ltb o x g))
    (cases_lt o x)
  where
    far : ℕ
    far = (x + 2 ^ 32 - o - 1) % 2 ^ 32

pub tsns_ahead_are_not_behind : TsnsAheadAreNotBehind
tsns_ahead_are_not_behind a t small =
    behind_where t (before a.peer (reach_of a)) (tsn_past (tsn a.peer (reach_of a)) t) (omega arith) small
    (omega arith) (far a.peer (reach_of a) t small)
    ∙ further (reach_of a) (tsn_past (tsn a.peer (reach_of a)) t)
  where
    far : (i r t : ℕ) → t < 2 ^ 32
        → tsn_past t (before i r) ≡ (2 ^ 32 - 1 - tsn_past (tsn i r) t) % 2 ^ 32
    far i r t l = omega arith

    further : (r d : ℕ) → ltb d (2 ^ 31) ≡ ltb (r + d) (r + 2 ^ 31)
    further r d = ⊎_elim
        (λ (l : d < 2 ^ 31). lt-ltb d (2 ^ 31) l ∙ sym (lt-ltb (r + d) (r + 2 ^ 31) (omega arith)))
        (λ (g : 2 ^ 31 ≤ d). le-ltb d (2 ^ 31) g ∙ sym (le-ltb (r + d) (r + 2 ^ 31) (omega arith)))
        (cases_lt d (2 ^ 31))

pub the_set_is_passed_over : TheSetIsPassedOver
the_set_is_passed_over a held t n small h ahead short =
    settled (with_all_to a o) (advanced n t (past_tsn t held)).0 (advanced n t (past_tsn t held)).1
    (subst
    (λ z. IsReached a.peer a.taken (suc o) (advanced n z (past_tsn t held)).0 (advanced n z (past_tsn t held)).1) last
    (advances a.peer a.taken (suc o) n (suc o) (past_tsn t held) short (omega arith)
    (λ x from below. absurd (omega arith)) start))
  where
    o : ℕ
    o = offset_of a t

    spelt : tsn a.peer o ≡ t
    spelt = spells a.peer (reach_of a) t small

    last : before a.peer (suc o) ≡ t
    last = before_next a.peer o ∙ spelt
      where
        before_next : (i x : ℕ) → before i (suc x) ≡ tsn i x
        before_next i x = omega arith

    -- what is past the TSN is past the offset
    is_past : (x : ℕ) → reach_of a ≤ x → x < reach_of a + 65535 → not (tsn_lte (tsn a.peer x) t) ≡ ltb o x
    is_past x from near =
        ap (λ z. not (tsn_lte (tsn a.peer x) z)) (sym spelt)
        ∙ past_where a.peer (reach_of a) o x from near (omega arith) ahead

    start : HoldsFrom a.peer a.taken (suc o) (past_tsn t held)
    start = record {
      all = λ x m l.
          mem-filter (λ s. not (tsn_lte s t)) (tsn a.peer x) held
          (is_past x (omega arith) (h.below x m) ∙ lt-ltb o x (omega arith))
          (sym (held_is (tsn a.peer x) held) ∙ h.all x m (omega arith));
      only =
          all_weaker (λ s. (not (tsn_lte s t) ≡ true) × IsPast a s) (IsFrom a.peer a.taken (suc o)) (past_tsn t held)
          (λ s b. later s b.0 b.1)
          (all_both (λ s. not (tsn_lte s t) ≡ true) (IsPast a) (past_tsn t held)
          (all_passed (λ s. not (tsn_lte s t)) held)
          (all_filter (IsPast a) (λ s. not (tsn_lte s t)) held h.only));
      below = λ x m. let l = h.below x m in omega arith;
      once = IsStrictlySortedBy-filter nat_cmp (λ s. not (tsn_lte s t)) held h.once;
    }
      where
        later : (s : ℕ) → not (tsn_lte s t) ≡ true → IsPast a s → IsFrom a.peer a.taken (suc o) s
        later s b q = record {
          offset = q.offset;
          came = q.came;
          from =
              ltb-true o q.offset
              (sym (is_past q.offset (let l = q.past in omega arith) q.near)
              ∙ ap (λ z. not (tsn_lte z t)) (sym q.is) ∙ b);
          is = q.is;
        }
