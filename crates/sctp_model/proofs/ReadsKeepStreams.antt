-- A read, of an unordered message or of an ordered one, keeps all that holds of its stream.
use Rattle.std.proofs.Common.{ℕ, suc, ◌<◌, ◌≤◌, ◌≡◌, Bool, true, false, eqb, ◌||◌, List, [], ◌∷◌, ◌++◌, length, map}
use Rattle.std.proofs.Common.{Option, Some, refl, sym, ap, ◌∙◌, subst, inl, inr, ⊎_elim, arith, append_assoc}
use Rattle.std.proofs.Common.{append-nil}
use Rattle.std.specs.Prelude.{filter}
use Rattle.std.specs.List.{AllByRecursion}
use Rattle.std.proofs.lemmas.Bool.{cases_Bool, or_cases, or_left, or_right, eqb-true, ne_eqb, true≢false}
use Rattle.std.proofs.lemmas.Bool.{false_from_ne_true, cond-true, cond-false}
use Rattle.sctp_model.specs.Messages.{Place, Plan, place_at}
use Rattle.sctp_model.specs.Packets.{Data, mem, data_at}
use Rattle.sctp_model.specs.Reassembly.{Queue, Taken, Got, at, next, next_from}
use Rattle.sctp_model.specs.Safe.{AreDistinct, AreRising, IsKeptOrdered, letter_read, is_ordered, number_of, ssn_of}
use Rattle.sctp_model.specs.Safe.{read_end, read_ssn, unread}
use Rattle.sctp_model.specs.Invariants.{IsPlanned, IsSending, IsHeld, IsOrdered, IsGot, IsStream, numbers_of, IsFresh}
use Rattle.sctp_model.proofs.Lists.{all_push, all_back, all_weaker, all_both, all_mem, map-join, filter-join, mem_left}
use Rattle.sctp_model.proofs.Lists.{mem_none, distinct_insert, rising_push}
use Rattle.sctp_model.proofs.NextOrdered.{IsDue, window, window_next, near_all, due_is}
use Rattle.sctp_model.proofs.OrderedHalves.{ordered_kept}
use Rattle.sctp_model.proofs.ReadsOfStreams.{read_end_push, read_ssn_push, run_got, ordered_read}

-- of the numbers read, those of ordered messages are among the ordered ones
pub mem_ordered : (p : Plan) (taken : List ℕ) (s i : ℕ) (gs : List Got) → AllByRecursion (IsGot p taken s) gs
    → is_ordered p s i ≡ true
    → mem i (numbers_of p gs) ≡ true → mem i (numbers_of p (filter (λ (g : Got). g.ordered) gs)) ≡ true
mem_ordered p taken s i [] a o m = m
mem_ordered p taken s i (g ∷ gs) a o m =
    ⊎_elim
    (λ (e : eqb (number_of p g) i ≡ true).
    let t = (a.0).tells in
    let k : g.ordered ≡ true = t.ordered ∙ ap (is_ordered p s) (eqb-true _ _ e) ∙ o in
    subst (λ z. mem i (numbers_of p z) ≡ true)
    (sym (cond-true g.ordered (g ∷ filter (λ (x : Got). x.ordered) gs) (filter (λ (x : Got). x.ordered) gs) k))
    (or_left _ _ e))
    (λ (r : mem i (numbers_of p gs) ≡ true).
    let u = mem_ordered p taken s i gs a.1 o r in
    ⊎_elim
    (λ (k : g.ordered ≡ true). subst (λ z. mem i (numbers_of p z) ≡ true)
    (sym (cond-true g.ordered (g ∷ filter (λ (x : Got). x.ordered) gs) (filter (λ (x : Got). x.ordered) gs) k))
    (or_right _ _ u))
    (λ (k : g.ordered ≡ false). subst (λ z. mem i (numbers_of p z) ≡ true)
    (sym (cond-false g.ordered (g ∷ filter (λ (x : Got). x.ordered) gs) (filter (λ (x : Got). x.ordered) gs) k)) u)
    (cases_Bool g.ordered))
    (or_cases _ _ m)

filter_push_no : (gs : List Got) (g : Got) → g.ordered ≡ false
    → filter (λ (x : Got). x.ordered) (gs ++ g ∷ []) ≡ filter (λ (x : Got). x.ordered) gs
filter_push_no gs g k =
    filter-join (λ (x : Got). x.ordered) gs (g ∷ [])
    ∙ ap (λ z. filter (λ (x : Got). x.ordered) gs ++ z) (cond-false g.ordered (g ∷ []) [] k)
    ∙ append-nil (filter (λ (x : Got). x.ordered) gs)

filter_push_yes : (gs : List Got) (g : Got) → g.ordered ≡ true
    → filter (λ (x : Got). x.ordered) (gs ++ g ∷ []) ≡ filter (λ (x : Got). x.ordered) gs ++ g ∷ []
filter_push_yes gs g k =
    filter-join (λ (x : Got). x.ordered) gs (g ∷ [])
    ∙ ap (λ z. filter (λ (x : Got). x.ordered) gs ++ z) (cond-true g.ordered (g ∷ []) [] k)

module _ (p : Plan) (gone : ℕ → ℕ → Bool) (current : Option Place) (next ssn : ℕ) (taken : List ℕ)
    (passed skipped s : ℕ) where
  -- what holds of the stream, by its queue and what was read of it
  abbrev IsStreamHere : Queue → List Got → Type 0
  IsStreamHere = IsStream p gone current next ssn taken passed skipped s

  -- what holds of its ordered half
  abbrev IsOrderedHere : ℕ → ℕ → Queue → List Got → Type 0
  IsOrderedHere = IsOrdered p gone current next ssn taken passed skipped s

  -- the ordered half speaks of the queue's cursor and ordered pieces alone, and of which ordered messages were read
  pub ordered_same : (low end : ℕ) (q : Queue) (gs reads reads' : List Got)
      → ((i : ℕ) → mem i (map (number_of p) reads) ≡ true → mem i (map (number_of p) reads') ≡ true)
      → (IsKeptOrdered p s → map letter_read reads' ≡ map letter_read reads)
      → IsOrderedHere low end q reads
      → IsOrderedHere low end (record q { complete = gs }) reads'
  ordered_same low end q gs reads reads' more letters h =
      ordered_kept refl h.held (λ y m. m) (omega arith) (λ y a m f. f m) more letters h

  -- a complete unordered message is read
  read_complete : (q : Queue) (reads : List Got) (g : Got) (gs : List Got) → q.complete ≡ g ∷ gs
      → IsStreamHere q reads
      → IsStreamHere (record q { complete = gs }) (reads ++ g ∷ [])
  read_complete q reads g gs e w = record {
    got = subst (AllByRecursion (IsGot p taken s)) same w.got;
    once = subst (λ z. AreDistinct (numbers_of p z)) same w.once;
    rising = subst (λ z. AreRising (numbers_of p z)) (sym (filter_push_no reads g unordered)) w.rising;
    below =
        subst (λ z. AllByRecursion (λ (i : ℕ). i < read_end p 0 (reads ++ g ∷ [])) (numbers_of p z))
        (sym (filter_push_no reads g unordered))
        (subst (λ z. AllByRecursion (λ (i : ℕ). i < z) (numbers_of p (filter (λ (x : Got). x.ordered) reads)))
        (sym ends) w.below);
    complete = parts.1;
    ordered =
        subst (λ z. IsOrderedHere (read_ssn p 0 (reads ++ g ∷ [])) z q'
        (reads ++ g ∷ [])) (sym ends)
        (subst (λ z. IsOrderedHere z (read_end p 0 reads) q' (reads ++ g ∷ []))
        (sym ssns)
        (ordered_same (read_ssn p 0 reads) (read_end p 0 reads) q gs reads (reads ++ g ∷ [])
        (λ i m. subst (λ z. mem i z ≡ true) (sym (map-join (number_of p) reads (g ∷ []))) (mem_left i _ _ m))
        (λ kept. absurd (
        let t = here.tells in
        let wh = t.whole in
        true≢false (sym (kept (number_of p g) wh.accepted) ∙ sym t.ordered ∙ unordered)))
        w.ordered));
    unordered =
        let u = w.unordered in
        record {
          held = u.held;
          fresh = subst (λ z. AllByRecursion (IsFresh p z) q.unordered) same u.fresh;
          all = λ none i wh k. subst (λ z. mem i (numbers_of p z) ≡ true) same (u.all none i wh k);
          kept = λ none o a m. ⊎_elim
              (λ (l : at o q.unordered ≡ Some (data_at p o)). inl l)
              (λ (r : mem (place_at p o).message (numbers_of p (reads ++ q.complete)) ≡ true).
              inr (subst (λ z. mem (place_at p o).message (numbers_of p z) ≡ true) same r))
              (u.kept none o a m);
        };
  }
    where
      q' : Queue
      q' = record q { complete = gs }

      same : reads ++ q.complete ≡ (reads ++ g ∷ []) ++ gs
      same = ap (λ z. reads ++ z) e ∙ sym (append_assoc reads (g ∷ []) gs)

      parts : (g.ordered ≡ false) × AllByRecursion (λ (x : Got). x.ordered ≡ false) gs
      parts = subst (AllByRecursion (λ (x : Got). x.ordered ≡ false)) e w.complete

      unordered : g.ordered ≡ false
      unordered = parts.0

      here : IsGot p taken s g
      here =
          (all_back (IsGot p taken s) reads (g ∷ gs)
          (subst (λ z. AllByRecursion (IsGot p taken s) (reads ++ z)) e w.got)).0

      ends : read_end p 0 (reads ++ g ∷ []) ≡ read_end p 0 reads
      ends = read_end_push p 0 reads g ∙ cond-false g.ordered (suc (number_of p g)) (read_end p 0 reads) unordered

      ssns : read_ssn p 0 (reads ++ g ∷ []) ≡ read_ssn p 0 reads
      ssns = read_ssn_push p 0 reads g ∙ cond-false g.ordered (suc (ssn_of p g)) (read_ssn p 0 reads) unordered

module _ {p : Plan} {over : ℕ → Bool} {current : Option Place} {next' ssn : ℕ → ℕ} {begun gone : ℕ → ℕ → Bool}
    {taken : List ℕ} {passed skipped s : ℕ} {q : Queue} {reads : List Got} (t : Taken) (hp : IsPlanned p over)
    (v : over s ≡ false) (g : IsSending p current next' ssn begun gone over)
    (below : (o : ℕ) → mem o taken ≡ true → o < length p.places) (near : unread p s reads < 32768)
    (w : IsStream p gone current (next' s) (ssn s) taken passed skipped s q reads) where
  -- the ordered message that is due is read
  read_due : q.complete ≡ [] → (d : IsDue p taken s (read_ssn p 0 reads) (w.ordered).cursor q t)
      → IsStream p gone current (next' s) (ssn s) taken passed skipped s t.rest (reads ++ t.got ∷ [])
  read_due none d = record {
    got = subst (AllByRecursion (IsGot p taken s)) (sym longer) (all_push (IsGot p taken s) reads t.got old here);
    once =
        subst (λ z. AreDistinct (numbers_of p z)) (sym longer)
        (subst AreDistinct (sym (map-join (number_of p) reads (t.got ∷ [])))
        (distinct_insert (numbers_of p reads) [] (number_of p t.got)
        (subst (λ z. AreDistinct z) (sym (append-nil (numbers_of p reads)))
        (subst (λ z. AreDistinct (numbers_of p z)) shorter w.once))
        (subst (λ z. mem (number_of p t.got) z ≡ false) (sym (append-nil (numbers_of p reads))) new)));
    rising = subst (λ z. AreRising (numbers_of p z)) (sym (filter_push_yes reads t.got kind))
        (subst AreRising (sym (map-join (number_of p) (filter (λ (x : Got). x.ordered) reads) (t.got ∷ [])))
        (rising_push _ _ w.rising (all_weaker _ _ _ (λ i l. omega (arith, last)) w.below)));
    below =
        subst (λ z. AllByRecursion (λ (i : ℕ). i < read_end p 0 (reads ++ t.got ∷ [])) (numbers_of p z))
        (sym (filter_push_yes reads t.got kind))
        (subst (AllByRecursion (λ (i : ℕ). i < read_end p 0 (reads ++ t.got ∷ [])))
        (sym (map-join (number_of p) (filter (λ (x : Got). x.ordered) reads) (t.got ∷ [])))
        (all_push _ _ _ (all_weaker _ _ _ (λ i (l : i < read_end p 0 reads). omega (arith, last, ends)) w.below)
        (omega (arith, ends))));
    complete = subst (AllByRecursion (λ (x : Got). x.ordered ≡ false)) (sym empty) tt;
    ordered =
        subst (λ z. IsOrdered p gone current (next' s) (ssn s) taken passed skipped s
        (read_ssn p 0 (reads ++ t.got ∷ []))
        z t.rest (reads ++ t.got ∷ []))
        (ap suc (sym number) ∙ sym ends)
        (subst (λ z. IsOrdered p gone current (next' s) (ssn s) taken passed skipped s z (suc (place_at p x).message)
        t.rest (reads ++ t.got ∷ []))
        (ap suc (sym d.ssn ∙ ap (λ z. (place_at p z).ssn) (sym from)) ∙ sym ssns)
        (ordered_read hp v g below near w.ordered d here number));
    unordered =
        let u = w.unordered in
        record {
          held = subst (AllByRecursion (IsHeld p taken s false 0)) (sym pieces) u.held;
          fresh = subst (λ z. AllByRecursion (IsFresh p ((reads ++ t.got ∷ []) ++ t.rest.complete)) z) (sym pieces)
              (subst (λ z. AllByRecursion (IsFresh p z) q.unordered) (sym longer)
              (all_weaker _ _ _ still
              (all_both (IsFresh p (reads ++ q.complete)) (IsHeld p taken s false 0) q.unordered u.fresh u.held)));
          all = λ n i wh k. more i (u.all n i wh k);
          kept = λ n o a m. ⊎_elim
              (λ (l : at o q.unordered ≡ Some (data_at p o)).
              inl (subst (λ z. at o z ≡ Some (data_at p o)) (sym pieces) l))
              (λ (r : mem (place_at p o).message (numbers_of p (reads ++ q.complete)) ≡ true). inr (more _ r))
              (u.kept n o a m);
        };
  }
    where
      x : ℕ
      x = d.run.head.offset

      from : t.got.from ≡ x
      from = ap (λ z. z.from) d.got

      number : number_of p t.got ≡ (place_at p x).message
      number = ap (λ z. (place_at p z).message) from

      here : IsGot p taken s t.got
      here =
          subst (IsGot p taken s) (sym d.got)
          (run_got hp d.found.head d.found.first d.found.run)

      kind : t.got.ordered ≡ true
      kind = ap (λ z. z.ordered) d.got ∙ ap (λ z. z.ordered) d.found.head.is ∙ d.found.head.at.kind

      empty : t.rest.complete ≡ []
      empty = ap (λ z. z.complete) d.rest ∙ none

      pieces : t.rest.unordered ≡ q.unordered
      pieces = ap (λ z. z.unordered) d.rest

      shorter : reads ++ q.complete ≡ reads
      shorter = ap (λ z. reads ++ z) none ∙ append-nil reads

      longer : (reads ++ t.got ∷ []) ++ t.rest.complete ≡ reads ++ t.got ∷ []
      longer = ap (λ z. (reads ++ t.got ∷ []) ++ z) empty ∙ append-nil (reads ++ t.got ∷ [])

      old : AllByRecursion (IsGot p taken s) reads
      old = subst (AllByRecursion (IsGot p taken s)) shorter w.got

      ends : read_end p 0 (reads ++ t.got ∷ []) ≡ suc (number_of p t.got)
      ends = read_end_push p 0 reads t.got ∙ cond-true t.got.ordered (suc (number_of p t.got)) (read_end p 0 reads) kind

      ssns : read_ssn p 0 (reads ++ t.got ∷ []) ≡ suc (ssn_of p t.got)
      ssns = read_ssn_push p 0 reads t.got ∙ cond-true t.got.ordered (suc (ssn_of p t.got)) (read_ssn p 0 reads) kind

      last : read_end p 0 reads ≤ number_of p t.got
      last = subst (λ z. read_end p 0 reads ≤ z) (sym number) (w.ordered.later x d.found.head.at d.found.head.above)

      flag : is_ordered p s (number_of p t.got) ≡ true
      flag = sym here.tells.ordered ∙ kind

      new : mem (number_of p t.got) (numbers_of p reads) ≡ false
      new = false_from_ne_true _ (λ (m : mem (number_of p t.got) (numbers_of p reads) ≡ true).
          let l : number_of p t.got < read_end p 0 reads =
          all_mem _ _ _ w.below (mem_ordered p taken s (number_of p t.got) reads old flag m) in
          omega (arith, last))

      more : (i : ℕ) → mem i (numbers_of p (reads ++ q.complete)) ≡ true
          → mem i (numbers_of p ((reads ++ t.got ∷ []) ++ t.rest.complete)) ≡ true
      more i m =
          subst (λ z. mem i (numbers_of p z) ≡ true) (sym longer)
          (subst (λ z. mem i z ≡ true) (sym (map-join (number_of p) reads (t.got ∷ [])))
          (mem_left i (numbers_of p reads) _ (subst (λ z. mem i (numbers_of p z) ≡ true) shorter m)))

      still : (e : Data) → IsFresh p (reads ++ q.complete) e × IsHeld p taken s false 0 e
          → IsFresh p (reads ++ t.got ∷ []) e
      still e f =
          let hd = f.1 in
          let a = hd.at in
          let apart : number_of p t.got ≡ (place_at p e.offset).message → ⊥ =
          (λ (i : number_of p t.got ≡ (place_at p e.offset).message).
          true≢false (sym flag ∙ ap (is_ordered p s) i
          ∙ ap (λ z. is_ordered p z (place_at p e.offset).message) (sym a.stream) ∙ a.kind)) in
          subst (λ z. mem (place_at p e.offset).message z ≡ false) (sym (map-join (number_of p) reads (t.got ∷ [])))
          (mem_none _ (numbers_of p reads) (number_of p t.got ∷ [])
          (subst (λ z. mem (place_at p e.offset).message (numbers_of p z) ≡ false) shorter f.0)
          (cond_false _ (ne_eqb _ _ apart)))
        where
          cond_false : (b : Bool) → b ≡ false → (b || false) ≡ false
          cond_false b e = ap (λ z. z || false) e

  pub stream_read : next q ≡ Some t
      → IsStream p gone current (next' s) (ssn s) taken passed skipped s t.rest (reads ++ t.got ∷ [])
  stream_read e =
      go q.complete refl e
    where
      h : IsOrdered p gone current (next' s) (ssn s) taken passed skipped s (read_ssn p 0 reads)
          (read_end p 0 reads) q reads
      h = w.ordered

      go : (c : List Got) → q.complete ≡ c → next_from q c ≡ Some t
          → IsStream p gone current (next' s) (ssn s) taken passed skipped s t.rest (reads ++ t.got ∷ [])
      go [] n f = read_due n
          (due_is taken s (read_ssn p 0 reads) h.cursor q t hp
          (near_all taken (read_ssn p 0 reads) (read_end p 0 reads) hp q.ordered h.held h.link near) h.held
          (λ o a l. window (read_ssn p 0 reads) (read_end p 0 reads) hp o a (h.link o a l) near)
          h.is h.above (let a =
          window_next p s (read_ssn p 0 reads) (read_end p 0 reads) (next' s) (ssn s) h.gap near in
          let b = h.begun in
          omega arith) f)
      go (x ∷ xs) n f =
          let i : record { got = x; rest = record q { complete = xs } } ≡ t = cc in
          subst (λ z. IsStream p gone current (next' s) (ssn s) taken passed skipped s z.rest (reads ++ z.got ∷ [])) i
          (read_complete p gone current (next' s) (ssn s) taken passed skipped s q reads x xs n w)

  -- the number past the last ordered message read never falls
  pub read_on : next q ≡ Some t → read_end p 0 reads ≤ read_end p 0 (reads ++ t.got ∷ [])
  read_on e = go q.complete refl e
    where
      h : IsOrdered p gone current (next' s) (ssn s) taken passed skipped s (read_ssn p 0 reads)
          (read_end p 0 reads) q reads
      h = w.ordered

      go : (c : List Got) → q.complete ≡ c → next_from q c ≡ Some t
          → read_end p 0 reads ≤ read_end p 0 (reads ++ t.got ∷ [])
      go [] n f =
          let d = due_is taken s (read_ssn p 0 reads) h.cursor q t hp
          (near_all taken (read_ssn p 0 reads) (read_end p 0 reads) hp q.ordered h.held h.link near) h.held
          (λ o a l. window (read_ssn p 0 reads) (read_end p 0 reads) hp o a (h.link o a l) near)
          h.is h.above (let a =
          window_next p s (read_ssn p 0 reads) (read_end p 0 reads) (next' s) (ssn s) h.gap near in
          let b = h.begun in
          omega arith) f in
          let kind : t.got.ordered ≡ true =
          ap (λ z. z.ordered) d.got ∙ ap (λ z. z.ordered) d.found.head.is ∙ d.found.head.at.kind in
          let number : number_of p t.got ≡ (place_at p d.run.head.offset).message =
          ap (λ z. (place_at p z.from).message) d.got in
          let ends : read_end p 0 (reads ++ t.got ∷ []) ≡ suc (number_of p t.got)
          = read_end_push p 0 reads t.got
          ∙ cond-true t.got.ordered (suc (number_of p t.got)) (read_end p 0 reads) kind in
          let later = h.later d.run.head.offset d.found.head.at d.found.head.above in
          omega arith
      go (x ∷ xs) n f =
          let i : record { got = x; rest = record q { complete = xs } } ≡ t = cc in
          let parts : (x.ordered ≡ false) × AllByRecursion (λ (y : Got). y.ordered ≡ false) xs =
          subst (AllByRecursion (λ (y : Got). y.ordered ≡ false)) n w.complete in
          let kind : t.got.ordered ≡ false = sym (ap (λ z. z.got.ordered) i) ∙ parts.0 in
          let ends : read_end p 0 (reads ++ t.got ∷ []) ≡ read_end p 0 reads
          =
          read_end_push p 0 reads t.got
          ∙ cond-false t.got.ordered (suc (number_of p t.got)) (read_end p 0 reads) kind in
          omega arith
