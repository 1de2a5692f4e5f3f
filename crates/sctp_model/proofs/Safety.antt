-- What is promised of a stream, read off from what holds of it.
use Rattle.std.proofs.Common.{ℕ, zero, suc, ◌<◌, ◌≤◌, ◌≡◌, Bool, true, false, not, cond, eqb, ◌||◌, ◌&&◌, List, [], ◌∷◌}
use Rattle.std.proofs.Common.{◌++◌, length, Option, None, refl, sym, ap, ◌∙◌, subst, ⊎_elim, arith, append-nil}
use Rattle.std.specs.Prelude.{filter}
use Rattle.std.specs.List.{AllByRecursion}
use Rattle.std.proofs.lemmas.Bool.{cases_Bool, cases_lt, cases_eq, and_parts, or_cases, eqb-true, true≢false}
use Rattle.std.proofs.lemmas.Bool.{false_from_ne_true, cond-true, cond-false}
use Rattle.sctp_model.specs.Messages.{Place, Plan, place_at, bytes_at, bytes_below, rank}
use Rattle.sctp_model.specs.Packets.{mem}
use Rattle.sctp_model.specs.Reassembly.{Queue, Got, Drained, next, next_from, next_ordered, drain, waiting}
use Rattle.sctp_model.specs.Machine.{live}
use Rattle.sctp_model.specs.Safe.{IsWhole, Names, AreInOrder, AreAll, AreDistinct, AreRising, IsToBeHad, IsPrefix}
use Rattle.sctp_model.specs.Safe.{IsKeptOrdered, IsKeptReliable, is_ordered, number_of, read_end, read_ssn, unread}
use Rattle.sctp_model.specs.Invariants.{IsPlanned, IsFull, IsGot, IsStream, NoneGone, numbers_of, gone_at}
use Rattle.sctp_model.specs.Laws.{TheInvariantIsEnough}
use Rattle.sctp_model.proofs.Lists.{all_mem, all_map, all_front}
use Rattle.sctp_model.proofs.OrderedRanks.{rank_rises, rank_found}
use Rattle.sctp_model.proofs.OffsetSets.{reach_from}
use Rattle.sctp_model.proofs.ReleasedBytes.{released_none}
use Rattle.sctp_model.proofs.AllWasRead.{IsDrained, drained, none_due}

names_of : (p : Plan) (taken : List ℕ) (s : ℕ) (gs : List Got) → AllByRecursion (IsGot p taken s) gs
    → Names p taken s gs (numbers_of p gs)
names_of p taken s [] a = tt
names_of p taken s (g ∷ gs) a = ((a.0).tells, names_of p taken s gs a.1)

-- the flag that a read carries is its message's
ordered_numbers : (p : Plan) (taken : List ℕ) (s : ℕ) (gs : List Got) → AllByRecursion (IsGot p taken s) gs
    → filter (is_ordered p s) (numbers_of p gs) ≡ numbers_of p (filter (λ (g : Got). g.ordered) gs)
ordered_numbers p taken s [] a = refl
ordered_numbers p taken s (g ∷ gs) a =
    let t = (a.0).tells in
    let r = ordered_numbers p taken s gs a.1 in
    ⊎_elim
    (λ (b : g.ordered ≡ true).
    cond-true (is_ordered p s (number_of p g)) (number_of p g ∷ filter (is_ordered p s) (numbers_of p gs))
    (filter (is_ordered p s) (numbers_of p gs)) (sym t.ordered ∙ b)
    ∙ ap (λ z. number_of p g ∷ z) r
    ∙ ap (numbers_of p)
    (sym (cond-true g.ordered (g ∷ filter (λ (x : Got). x.ordered) gs) (filter (λ (x : Got). x.ordered) gs) b)))
    (λ (b : g.ordered ≡ false).
    cond-false (is_ordered p s (number_of p g)) (number_of p g ∷ filter (is_ordered p s) (numbers_of p gs))
    (filter (is_ordered p s) (numbers_of p gs)) (sym t.ordered ∙ b)
    ∙ r
    ∙ ap (numbers_of p)
    (sym (cond-false g.ordered (g ∷ filter (λ (x : Got). x.ordered) gs) (filter (λ (x : Got). x.ordered) gs) b)))
    (cases_Bool g.ordered)

distinct_front : (xs ys : List ℕ) → AreDistinct (xs ++ ys) → AreDistinct xs
distinct_front [] ys d = tt
distinct_front (x ∷ xs) ys d = (none xs d.0, distinct_front xs ys d.1)
  where
    none : (zs : List ℕ) → mem x (zs ++ ys) ≡ false → mem x zs ≡ false
    none [] e = refl
    none (z ∷ zs) e = ⊎_elim
        (λ (b : eqb z x ≡ true). absurd (true≢false (sym (ap (λ w. w || mem x (zs ++ ys)) b) ∙ e)))
        (λ (b : eqb z x ≡ false). ap (λ w. w || mem x zs) b ∙ none zs (sym (ap (λ w. w || mem x (zs ++ ys)) b) ∙ e))
        (cases_Bool (eqb z x))

numbers-join : (p : Plan) (xs ys : List Got) → numbers_of p (xs ++ ys) ≡ numbers_of p xs ++ numbers_of p ys
numbers-join p [] ys = refl
numbers-join p (x ∷ xs) ys = ap (λ z. number_of p x ∷ z) (numbers-join p xs ys)

whole_of : (p : Plan) (taken : List ℕ) (s i : ℕ) (gots : List Got) → AllByRecursion (IsGot p taken s) gots
    → mem i (numbers_of p gots) ≡ true → IsWhole p taken s i
whole_of p taken s i gots a m =
    all_mem (IsWhole p taken s) (numbers_of p gots) i (all_map (IsWhole p taken s) (number_of p) gots (wholes gots a)) m
  where
    wholes : (gs : List Got) → AllByRecursion (IsGot p taken s) gs
        → AllByRecursion (λ (g : Got). IsWhole p taken s (number_of p g)) gs
    wholes [] b = tt
    wholes (g ∷ gs) b = ((b.0).tells.whole, wholes gs b.1)

module _ (p : Plan) (taken : List ℕ) (s end : ℕ) where
  -- of what was read, the ordered messages have numbers below the last one's
  ordered_below : (i : ℕ) (gs : List Got) → AllByRecursion (IsGot p taken s) gs
      → AllByRecursion (λ (j : ℕ). j < end) (numbers_of p (filter (λ (g : Got). g.ordered) gs))
      → is_ordered p s i ≡ true
      → mem i (numbers_of p gs) ≡ true → i < end
  ordered_below i gs a b o m = all_mem (λ (j : ℕ). j < end) _ i b
      (subst (λ z. mem i z ≡ true) (ordered_numbers p taken s gs a) (mem_kept (numbers_of p gs) m))
    where
      mem_kept : (xs : List ℕ) → mem i xs ≡ true → mem i (filter (is_ordered p s) xs) ≡ true
      mem_kept [] m = m
      mem_kept (x ∷ xs) m = ⊎_elim
          (λ (e : eqb x i ≡ true). subst (λ z. mem i z ≡ true)
          (sym (cond-true (is_ordered p s x) (x ∷ filter (is_ordered p s) xs) (filter (is_ordered p s) xs)
          (ap (is_ordered p s) (eqb-true x i e) ∙ o)))
          (ap (λ w. w || mem i (filter (is_ordered p s) xs)) e))
          (λ (r : mem i xs ≡ true). ⊎_elim
          (λ (k : is_ordered p s x ≡ true). subst (λ z. mem i z ≡ true)
          (sym (cond-true (is_ordered p s x) (x ∷ filter (is_ordered p s) xs) (filter (is_ordered p s) xs) k))
          (or_right_true (eqb x i) _ (mem_kept xs r)))
          (λ (k : is_ordered p s x ≡ false). subst (λ z. mem i z ≡ true)
          (sym (cond-false (is_ordered p s x) (x ∷ filter (is_ordered p s) xs) (filter (is_ordered p s) xs) k))
          (mem_kept xs r))
          (cases_Bool (is_ordered p s x)))
          (or_cases _ _ m)
        where
          or_right_true : (a b : Bool) → b ≡ true → (a || b) ≡ true
          or_right_true true b e = refl
          or_right_true false b e = e

empty_complete : (q : Queue) → next q ≡ None → q.complete ≡ []
empty_complete q e = go q.complete refl e
  where
    go : (c : List Got) → q.complete ≡ c → next_from q c ≡ None → q.complete ≡ []
    go [] n f = n
    go (g ∷ gs) n f = absurd (cc)

in_order : (p : Plan) (taken : List ℕ) (s : ℕ) (q : Queue) (gots : List Got)
    → AllByRecursion (IsGot p taken s) (gots ++ q.complete) → AreDistinct (numbers_of p (gots ++ q.complete))
    → AreRising (numbers_of p (filter (λ (g : Got). g.ordered) gots)) → AreInOrder p taken s gots (numbers_of p gots)
in_order p taken s q gots got once rising =
    let a = all_front (IsGot p taken s) gots q.complete got in
    record {
      named = names_of p taken s gots a;
      once =
          distinct_front (numbers_of p gots) (numbers_of p q.complete)
          (subst AreDistinct (numbers-join p gots q.complete) once);
      rising = subst AreRising (sym (ordered_numbers p taken s gots a)) rising;
    }

module _ (p : Plan) (gone : ℕ → ℕ → Bool) (current : Option Place) (next_number ssn : ℕ) (taken : List ℕ)
    (passed skipped s : ℕ) (q : Queue) (gots : List Got) where
  -- what holds of the stream, by its queue and what was read of it
  abbrev IsStreamDrained : Queue → List Got → Type 0
  IsStreamDrained = IsStream p gone current next_number ssn taken passed skipped s

  drained_all : {over : ℕ → Bool} → IsPlanned p over → over s ≡ false → NoneGone gone s → unread p s gots < 32768
      → IsStreamDrained q gots → next q ≡ None
      → AreAll p taken s gots (numbers_of p gots)
  drained_all hp v none near w e = record {
    in_order = in_order p taken s q gots w.got w.once w.rising;
    sound = λ i m. record {
      whole = whole_of p taken s i gots got m;
      before =
          λ o j l k. read_whole j
          (f.read j (let b = ordered_below p taken s (read_end p 0 gots) i gots got w.below o m in omega arith) k);
    };
    complete = λ i t. ⊎_elim
        (λ (o : is_ordered p s i ≡ true). ordered i t o)
        (λ (o : is_ordered p s i ≡ false). subst (λ z. mem i (numbers_of p z) ≡ true)
        (ap (λ z. gots ++ z) empty ∙ append-nil gots) (w.unordered.all none i t.whole o))
        (cases_Bool (is_ordered p s i));
  }
    where
      got : AllByRecursion (IsGot p taken s) gots
      got = all_front (IsGot p taken s) gots q.complete w.got

      empty : q.complete ≡ []
      empty = empty_complete q e

      f : IsFull p taken s next_number ssn w.ordered.cursor (read_ssn p 0 gots) (read_end p 0 gots) q gots
      f = w.ordered.full none

      read_whole : (j : ℕ) → mem j (numbers_of p gots) ≡ true → IsWhole p taken s j
      read_whole j m = whole_of p taken s j gots got m

      due : next_ordered q ≡ None
      due = sym (ap (next_from q) empty) ∙ e

      ordered : (i : ℕ) → IsToBeHad p taken s i → is_ordered p s i ≡ true → mem i (numbers_of p gots) ≡ true
      ordered i t o = ⊎_elim
          (λ (l : i < read_end p 0 gots). f.read i l o)
          (λ (l : read_end p 0 gots ≤ i). absurd (
          let r = rank_rises (p.accepted s) (read_end p 0 gots) i l in
          let b = f.level in
          let tw = t.whole in
          ⊎_elim
          (λ (same : rank (p.accepted s) i ≡ read_ssn p 0 gots).
          none_due hp v none near w.ordered due o same t.whole)
          (λ (apart : rank (p.accepted s) i ≡ read_ssn p 0 gots → ⊥).
          let j =
          rank_found (p.accepted s) i (read_ssn p 0 gots) (let a = tw.accepted in omega arith) (omega (arith, apart)) in
          none_due hp v none near w.ordered due j.2 j.3 (t.before o j.0 j.1 j.2))
          (cases_eq (rank (p.accepted s) i) (read_ssn p 0 gots))))
          (cases_lt i (read_end p 0 gots))

  drained_prefix : {over : ℕ → Bool} → IsPlanned p over → over s ≡ false → NoneGone gone s → unread p s gots < 32768
      → next_number ≤ length (p.accepted s) → IsKeptOrdered p s
      → IsStreamDrained q gots → next q ≡ None
      → IsPrefix p taken s (read_end p 0 gots)
  drained_prefix hp v none near within kept w e =
      record {
        within = let a = w.ordered.until in omega arith;
        whole = λ i l. whole_of p taken s i gots (all_front (IsGot p taken s) gots q.complete w.got)
            (f.read i l (kept i (let a = w.ordered.until in omega arith)));
        longest =
            λ t. none_due hp v none near w.ordered
            (sym (ap (next_from q) (empty_complete q e)) ∙ e) (kept _ t.accepted) (sym f.level) t;
      }
    where
      f : IsFull p taken s next_number ssn w.ordered.cursor (read_ssn p 0 gots) (read_end p 0 gots) q gots
      f = w.ordered.full none

bytes_fewer : (p : Plan) (a b : ℕ → Bool) (s n : ℕ)
    → ((o : ℕ) → o < n → (place_at p o).stream ≡ s → a o ≡ true → b o ≡ true)
    → bytes_below p a s n ≤ bytes_below p b s n
bytes_fewer p a b s zero h = omega arith
bytes_fewer p a b s (suc o) h =
    let r = bytes_fewer p a b s o (λ x l. h x (omega arith)) in
    let part : cond (eqb (place_at p o).stream s) (cond (a o) (bytes_at p (place_at p o)) 0) 0
    ≤ cond (eqb (place_at p o).stream s) (cond (b o) (bytes_at p (place_at p o)) 0) 0
    = ⊎_elim
    (λ (e : eqb (place_at p o).stream s ≡ true). ⊎_elim
    (λ (x : a o ≡ true). rw (e, x, h o (omega arith) (eqb-true _ _ e) x) (omega arith))
    (λ (x : a o ≡ false). rw (e, x) (omega arith))
    (cases_Bool (a o)))
    (λ (e : eqb (place_at p o).stream s ≡ false). rw e (omega arith))
    (cases_Bool (eqb (place_at p o).stream s)) in
    omega arith

pub the_invariant_is_enough : TheInvariantIsEnough
the_invariant_is_enough w l h s v = record {
  read = (
    numbers_of p (w.reads s),
    in_order p taken s q (w.reads s) stream.got stream.once stream.rising,
  );
  prefix = λ ko kr is_open.
      let d = end_of in
      (read_end p 0 all, prefix_of ko kr, (d.stream.ordered.full (none kr)).letters ko);
  front = λ ko kr is_closed.
      let d = end_of in
      (read_end p 0 all, read_end p 0 (w.reads s), prefix_of ko kr, d.on, (stream.ordered.full (none kr)).letters ko);
  released = λ kr.
      let a = h.released s in
      let b = released_none p gone s (none kr) in
      let c =
      bytes_fewer p (λ o. w.sender.acknowledged o && not (gone_at p gone o)) (λ o. mem o taken) s (length p.places)
      (λ o lo st t. ⊎_elim
      (λ (m : mem o taken ≡ true). m)
      (λ (f : o < passed). ⊎_elim
      (λ (m : mem o taken ≡ true). m)
      (λ (g : gone_at p gone o ≡ true).
      absurd (true≢false (sym g ∙ ap (λ z. gone z (place_at p o).message) st ∙ none kr (place_at p o).message)))
      (h.accounted o (let f' = reach_from w.receiver in omega arith)))
      (h.acknowledged o (and_parts (w.sender.acknowledged o) (not (gone_at p gone o)) t).0)) in
      omega arith;
  all = λ kr is_open. (
    numbers_of p all,
    drained_all p gone current (w.sender.next s) (w.sender.ssn s) taken passed skipped s end.rest all h.planned v
        (none kr) end_of.near end_of.stream end_of.none,
  );
}
  where
    p : Plan
    p = w.sender.plan

    gone : ℕ → ℕ → Bool
    gone = w.sender.gone

    current : Option Place
    current = w.sender.current

    taken : List ℕ
    taken = w.receiver.taken

    passed : ℕ
    passed = w.receiver.passed

    skipped : ℕ
    skipped = w.skipped s

    q : Queue
    q = live (w.receiver.queues s)

    stream : IsStream p gone current (w.sender.next s) (w.sender.ssn s) taken passed skipped s q (w.reads s)
    stream = h.streams s v

    end : Drained
    end = drain (waiting q) q

    all : List Got
    all = w.reads s ++ end.gots

    end_of : IsDrained p gone current (w.sender.next s) (w.sender.ssn s) taken passed skipped s (w.reads s) end
    end_of =
        drained h.planned v h.sending (λ o m. (h.taken o m).0) (waiting q) q
        (w.reads s) (l.unread s v) (omega arith) stream

    none : IsKeptReliable p s → NoneGone gone s
    none kr i = false_from_ne_true _ (λ (g : gone s i ≡ true).
        let u = h.sending.given_up s i g in
        true≢false (sym (kr i u.0) ∙ u.1))

    prefix_of : IsKeptOrdered p s → IsKeptReliable p s → IsPrefix p taken s (read_end p 0 all)
    prefix_of ko kr =
        drained_prefix p gone current (w.sender.next s) (w.sender.ssn s) taken passed skipped s end.rest all
        h.planned v (none kr) end_of.near
        (h.sending.within s) ko end_of.stream end_of.none
