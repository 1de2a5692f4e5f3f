-- An unordered piece that is taken in keeps what holds of its stream: its message becomes ready as soon as it is whole,
-- once.
use Rattle.std.proofs.Common.{ℕ, ◌*◌, ◌<◌, ◌≤◌, ◌≡◌, ◌⊎◌, Bool, true, false, not, eqb, ◌||◌, List, [], ◌∷◌, ◌++◌}
use Rattle.std.proofs.Common.{length, Option, Some, None, refl, sym, ap, ◌∙◌, subst, inl, inr, ⊎_elim, arith}
use Rattle.std.proofs.Common.{append_assoc, append-nil}
use Rattle.std.specs.Prelude.{is_some}
use Rattle.std.specs.List.{AllByRecursion}
use Rattle.std.proofs.lemmas.Bool.{cases_Bool, cases_eq, or_left, eqb-true, eq-eqb, ne_eqb, true≢false}
use Rattle.std.proofs.lemmas.Bool.{false_from_ne_true, cond-true, cond-false, not_from_false, not-true}
use Rattle.sctp_model.specs.Messages.{Place, Plan, IsAt, place_at, message_at}
use Rattle.sctp_model.specs.Packets.{Data, mem, data_at}
use Rattle.sctp_model.specs.Reassembly.{Queue, Run, Got, at, top, run_with, run_of, got_of, first_complete, or_else}
use Rattle.sctp_model.specs.Reassembly.{settle, with_unordered, push_unordered}
use Rattle.sctp_model.specs.Safe.{IsTaken, IsWhole, AreDistinct, is_ordered, number_of, read_end, read_ssn}
use Rattle.sctp_model.specs.Invariants.{IsPlanned, IsPiece, IsHeld, IsOrdered, IsUnordered, IsGot, IsStream, NoneGone}
use Rattle.sctp_model.specs.Invariants.{numbers_of, IsFresh}
use Rattle.sctp_model.proofs.Lists.{all_weaker, all_both, all_filter, all_passed, all_push, all_mem, all_map, map-join}
use Rattle.sctp_model.proofs.Lists.{mem_left, mem_right, mem_one, mem_none, distinct_insert}
use Rattle.sctp_model.proofs.CompleteRuns.{IsRunOf, HasPiece, at_found, at_filter, run_found}
use Rattle.sctp_model.proofs.NextOrdered.{run_of_is, first_is}
use Rattle.sctp_model.proofs.ReadsOfStreams.{run_got, whole_taken}
use Rattle.sctp_model.proofs.StreamsTakeData.{whole_less, got_more, held_more, ordered_aside}

complete_found : (P : Data → Type 0) (held ds : List Data) (r : Run) → first_complete held ds ≡ Some r
    → AllByRecursion P ds
    → (d : Data) × P d × (d.first ≡ true) × (run_of held d ≡ Some r)
complete_found P held [] r e a = absurd (cc)
complete_found P held (x ∷ xs) r e a =
    ⊎_elim
    (λ (b : x.first ≡ true). here (run_of held x) refl b
    (sym (cond-true x.first (or_else (run_of held x) (first_complete held xs)) (first_complete held xs) b) ∙ e)
    (λ f. complete_found P held xs r f a.1))
    (λ (b : x.first ≡ false). complete_found P held xs r
    (sym (cond-false x.first (or_else (run_of held x) (first_complete held xs)) (first_complete held xs) b) ∙ e) a.1)
    (cases_Bool x.first)
  where
    here : (o : Option Run) → run_of held x ≡ o → x.first ≡ true → or_else o (first_complete held xs) ≡ Some r
        → (first_complete held xs ≡ Some r → (d : Data) × P d × (d.first ≡ true) × (run_of held d ≡ Some r))
        → (d : Data) × P d × (d.first ≡ true) × (run_of held d ≡ Some r)
    here None f b g next = next g
    here (Some y) f b g next = (x, a.0, b, f ∙ g)

complete_finds : (held ds : List Data) (o : ℕ) (d : Data) (r : Run) → at o ds ≡ Some d → d.first ≡ true
    → run_of held d ≡ Some r
    → first_complete held ds ≡ None → ⊥
complete_finds held [] o d r e f g n = cc
complete_finds held (x ∷ xs) o d r e f g n =
    ⊎_elim
    (λ (b : eqb x.offset o ≡ true).
    let i : x ≡ d = (let y : Some x ≡ Some d = sym (cond-true (eqb x.offset o) (Some x) (at o xs) b) ∙ e in cc) in
    let k : first_complete held (x ∷ xs) ≡ Some r
    =
    cond-true x.first (or_else (run_of held x) (first_complete held xs)) (first_complete held xs)
    (ap (λ z. z.first) i ∙ f)
    ∙ ap (λ z. or_else z (first_complete held xs)) (ap (run_of held) i ∙ g) in
    clash (sym k ∙ n))
    (λ (b : eqb x.offset o ≡ false).
    let u = complete_finds held xs o d r (sym (cond-false (eqb x.offset o) (Some x) (at o xs) b) ∙ e) f g in
    ⊎_elim
    (λ (c : x.first ≡ true).
    u (none_right (run_of held x)
    (sym (cond-true x.first (or_else (run_of held x) (first_complete held xs)) (first_complete held xs) c) ∙ n)))
    (λ (c : x.first ≡ false).
    u (sym (cond-false x.first (or_else (run_of held x) (first_complete held xs)) (first_complete held xs) c) ∙ n))
    (cases_Bool x.first))
    (cases_Bool (eqb x.offset o))
  where
    clash : Some r ≡ None → ⊥
    clash h = cc

    none_right : (y : Option Run) → or_else y (first_complete held xs) ≡ None → first_complete held xs ≡ None
    none_right None h = h
    none_right (Some z) h = absurd (cc)

module _ {p : Plan} {over : ℕ → Bool} (taken : List ℕ) (s : ℕ) (gots : List Got) (hp : IsPlanned p over) where
  -- what was given is whole, so a new piece isn't of it
  fresh_piece : (x : ℕ) → x < length p.places → (place_at p x).stream ≡ s → mem x taken ≡ false
      → AllByRecursion (IsGot p taken s) gots → mem (place_at p x).message (numbers_of p gots) ≡ false
  fresh_piece x known st new a =
      false_from_ne_true _ (λ (m : mem (place_at p x).message (numbers_of p gots) ≡ true).
      true≢false (sym (whole_taken p over taken s x hp known st
      (all_mem (IsWhole p taken s) (numbers_of p gots) _
      (all_map (IsWhole p taken s) (number_of p) gots (wholes gots a)) m)) ∙ new))
    where
      wholes : (gs : List Got) → AllByRecursion (IsGot p taken s) gs
          → AllByRecursion (λ (g : Got). IsWhole p taken s (number_of p g)) gs
      wholes [] b = tt
      wholes (g ∷ gs) b = ((b.0).tells.whole, wholes gs b.1)

module _ (p : Plan) (over : ℕ → Bool) (gone : ℕ → ℕ → Bool) (taken : List ℕ) (s : ℕ) (q : Queue)
    (gots : List Got) (d : Data)
    (hp : IsPlanned p over) (piece : IsPiece p d) (a : IsAt p s false d.offset) (new : mem d.offset taken ≡ false)
    (got : AllByRecursion (IsGot p taken s) gots) (u : IsUnordered p gone taken s q gots) where
  now : List ℕ
  now = d.offset ∷ taken

  held_now : AllByRecursion (IsHeld p (d.offset ∷ taken) s false 0) (d ∷ q.unordered)
  held_now = (
    record {
      is = piece.is;
      at = a;
      sent = piece.sent;
      taken_in = or_left _ _ (eq-eqb d.offset d.offset refl);
      above = omega arith;
    },
    all_weaker _ _ _ (λ e. held_more p taken d.offset s 0 false e) u.held,
  )

  fresh_now : AllByRecursion (IsFresh p gots) (d ∷ q.unordered)
  fresh_now = (fresh_piece taken s gots hp d.offset a.known a.stream new got, u.fresh)

  -- another message was whole before
  whole_then : (i : ℕ) → (i ≡ (place_at p d.offset).message → ⊥) → IsWhole p (d.offset ∷ taken) s i
      → IsWhole p taken s i
  whole_then i apart w =
      whole_less p taken d.offset s i (λ k t e. apart (sym t.message ∙ ap (λ z. (place_at p z).message) (sym e))) w

  -- what was taken in is held now, or its message was given
  kept_now : NoneGone gone s → (o : ℕ) → IsAt p s false o → mem o (d.offset ∷ taken) ≡ true
      → (at o (d ∷ q.unordered) ≡ Some (data_at p o)) ⊎ (mem (place_at p o).message (numbers_of p gots) ≡ true)
  kept_now none o b m = ⊎_elim
      (λ (e : eqb d.offset o ≡ true). inl (cond-true (eqb d.offset o) (Some d) (at o q.unordered) e
      ∙ ap Some (piece.is ∙ ap (data_at p) (eqb-true _ _ e))))
      (λ (e : eqb d.offset o ≡ false). ⊎_elim
      (λ (l : at o q.unordered ≡ Some (data_at p o)).
      inl (cond-false (eqb d.offset o) (Some d) (at o q.unordered) e ∙ l))
      (λ (l : mem (place_at p o).message (numbers_of p gots) ≡ true). inr l)
      (u.kept none o b (sym (ap (λ z. z || mem o taken) e) ∙ m)))
      (cases_Bool (eqb d.offset o))

  -- a message that is whole now and wasn't given is found complete
  found_now : NoneGone gone s → (i : ℕ) → IsWhole p (d.offset ∷ taken) s i → is_ordered p s i ≡ false
      → mem i (numbers_of p gots) ≡ false
      → first_complete (d ∷ q.unordered) (d ∷ q.unordered) ≡ None → ⊥
  found_now none i w k out n =
      let first = w.pieces 0 (let f = hp.filled s i w.accepted in omega arith) in
      let h = has 0 first in
      let r =
      run_found (d ∷ q.unordered) s hp (top (d ∷ q.unordered)) first.offset first.known first.stream
      (omega arith) (held_at 0 first)
      (λ j b l. subst (λ z. HasPiece p (d ∷ q.unordered) s z j) (sym first.message)
      (has j (w.pieces j (subst (λ z. p.size * j < length (message_at p s z).bytes) first.message
      (subst (λ z. p.size * j < length (message_at p z (place_at p first.offset).message).bytes) first.stream l))))) in
      complete_finds (d ∷ q.unordered) (d ∷ q.unordered) first.offset (data_at p first.offset)
      (record { head = data_at p first.offset; pieces = r.0 })
      (held_at 0 first) (eq-eqb _ _ first.piece) (ap (run_with (data_at p first.offset)) r.1) n
    where
      at_piece : (j : ℕ) → (t : IsTaken p (d.offset ∷ taken) s i j) → IsAt p s false t.offset
      at_piece j t = record {
        known = t.known;
        stream = t.stream;
        kind =
            ap (λ z. (message_at p z (place_at p t.offset).message).ordered) t.stream
            ∙ ap (is_ordered p s) t.message ∙ k;
      }

      held_at : (j : ℕ) → (t : IsTaken p (d.offset ∷ taken) s i j)
          → at t.offset (d ∷ q.unordered) ≡ Some (data_at p t.offset)
      held_at j t = ⊎_elim
          (λ (l : at t.offset (d ∷ q.unordered) ≡ Some (data_at p t.offset)). l)
          (λ (l : mem (place_at p t.offset).message (numbers_of p gots) ≡ true).
          absurd (true≢false (sym (subst (λ z. mem z (numbers_of p gots) ≡ true) t.message l) ∙ out)))
          (kept_now none t.offset (at_piece j t) t.taken_in)

      has : (j : ℕ) → IsTaken p (d.offset ∷ taken) s i j → HasPiece p (d ∷ q.unordered) s i j
      has j t = record {
        offset = t.offset;
        known = t.known;
        stream = t.stream;
        message = t.message;
        piece = t.piece;
        is_held = held_at j t;
      }

  unsettled : first_complete (d ∷ q.unordered) (d ∷ q.unordered) ≡ None
      → IsUnordered p gone (d.offset ∷ taken) s (with_unordered q d) gots
  unsettled n = record {
    held = held_now;
    fresh = fresh_now;
    all = λ none i w k. ⊎_elim
        (λ (m : mem i (numbers_of p gots) ≡ true). m)
        (λ (out : mem i (numbers_of p gots) ≡ false). absurd (found_now none i w k out n))
        (cases_Bool (mem i (numbers_of p gots)));
    kept = kept_now;
  }

  module _ (r : Run) (e : first_complete (d ∷ q.unordered) (d ∷ q.unordered) ≡ Some r) where
    found : (x : Data) × (IsHeld p (d.offset ∷ taken) s false 0 x × IsFresh p gots x) × (x.first ≡ true)
        × (run_of (d ∷ q.unordered) x ≡ Some r)
    found =
        complete_found (λ x. IsHeld p (d.offset ∷ taken) s false 0 x × IsFresh p gots x) (d ∷ q.unordered)
        (d ∷ q.unordered) r e
        (all_both (IsHeld p (d.offset ∷ taken) s false 0) (IsFresh p gots) (d ∷ q.unordered) held_now fresh_now)

    run : (r.head ≡ found.0) × IsRunOf p (d.offset ∷ taken) s (found.0).offset r.pieces
    run = run_of_is false 0 (d ∷ q.unordered) hp held_now found.0 r found.3

    settled_got : IsGot p (d.offset ∷ taken) s (got_of r) × ((got_of r).ordered ≡ false)
        × (mem (number_of p (got_of r)) (numbers_of p gots) ≡ false)
    settled_got =
        let f = found.1 in
        let hd : IsHeld p (d.offset ∷ taken) s false 0 r.head =
        subst (IsHeld p (d.offset ∷ taken) s false 0) (sym run.0) f.0 in
        let first : (place_at p r.head.offset).piece ≡ 0
        =
        subst (λ z. (place_at p z.offset).piece ≡ 0) (sym run.0)
        (first_is p (d.offset ∷ taken) s 0 false found.0 f.0 found.2) in (
          run_got hp hd first
              (subst (λ z. IsRunOf p (d.offset ∷ taken) s z.offset r.pieces) (sym run.0) run.1),
          ap (λ z. z.ordered) hd.is ∙ hd.at.kind,
          subst (λ z. mem (place_at p z.offset).message (numbers_of p gots) ≡ false) (sym run.0) f.1,
        )

    run_here : IsRunOf p (d.offset ∷ taken) s r.head.offset r.pieces
    run_here = subst (λ z. IsRunOf p (d.offset ∷ taken) s z.offset r.pieces) (sym run.0) run.1

    numbers_now : numbers_of p (gots ++ got_of r ∷ []) ≡ numbers_of p gots ++ number_of p (got_of r) ∷ []
    numbers_now = map-join (number_of p) gots (got_of r ∷ [])

    left_in : (i : ℕ) → mem i (numbers_of p gots) ≡ true → mem i (numbers_of p (gots ++ got_of r ∷ [])) ≡ true
    left_in i m = subst (λ z. mem i z ≡ true) (sym numbers_now) (mem_left i _ _ m)

    last_in : (i : ℕ) → i ≡ number_of p (got_of r) → mem i (numbers_of p (gots ++ got_of r ∷ [])) ≡ true
    last_in i m =
        subst (λ z. mem i z ≡ true) (sym numbers_now)
        (mem_right i (numbers_of p gots) _ (subst (λ z. mem i (z ∷ []) ≡ true) m (mem_one i)))

    still_fresh : (x : Data)
        → (IsHeld p (d.offset ∷ taken) s false 0 x × IsFresh p gots x) × (not (is_some (at x.offset r.pieces)) ≡ true)
        → IsFresh p (gots ++ got_of r ∷ []) x
    still_fresh x f =
        let g = f.0 in
        let h = g.0 in
        let b = h.at in
        let apart : number_of p (got_of r) ≡ (place_at p x.offset).message → ⊥ =
        (λ (m : number_of p (got_of r) ≡ (place_at p x.offset).message).
        true≢false
        (sym (run_here.all x.offset b.known b.stream (sym m)
        (subst (λ z. z ≤ (place_at p x.offset).piece) (sym first_piece) (omega arith))) ∙ not-true _ f.1)) in
        subst (λ z. mem (place_at p x.offset).message z ≡ false) (sym numbers_now)
        (mem_none _ (numbers_of p gots) (number_of p (got_of r) ∷ []) g.1 (ap (λ z. z || false) (ne_eqb _ _ apart)))
      where
        first_piece : (place_at p r.head.offset).piece ≡ 0
        first_piece =
            subst (λ z. (place_at p z.offset).piece ≡ 0) (sym run.0)
            (first_is p (d.offset ∷ taken) s 0 false found.0 (found.1).0 found.2)

    settled : IsUnordered p gone (d.offset ∷ taken) s (settle (with_unordered q d) (Some r)) (gots ++ got_of r ∷ [])
    settled = record {
      held =
          all_filter (IsHeld p (d.offset ∷ taken) s false 0) (λ (x : Data). not (is_some (at x.offset r.pieces)))
          (d ∷ q.unordered) held_now;
      fresh = all_weaker _ _ _ still_fresh
          (all_both (λ x. IsHeld p (d.offset ∷ taken) s false 0 x × IsFresh p gots x)
          (λ (x : Data). not (is_some (at x.offset r.pieces)) ≡ true) _
          (all_filter (λ x. IsHeld p (d.offset ∷ taken) s false 0 x × IsFresh p gots x)
          (λ (x : Data). not (is_some (at x.offset r.pieces))) (d ∷ q.unordered)
          (all_both (IsHeld p (d.offset ∷ taken) s false 0) (IsFresh p gots) (d ∷ q.unordered) held_now fresh_now))
          (all_passed (λ (x : Data). not (is_some (at x.offset r.pieces))) (d ∷ q.unordered)));
      all = λ none i w k. ⊎_elim
          (λ (same : i ≡ number_of p (got_of r)). last_in i same)
          (λ (other : i ≡ number_of p (got_of r) → ⊥). ⊎_elim
          (λ (this : i ≡ (place_at p d.offset).message). absurd (
          let g = settled_got in
          let gg = g.0 in
          let t = gg.tells in
          true≢false
          (sym (u.all none (number_of p (got_of r))
          (whole_then (number_of p (got_of r)) (λ m. other (this ∙ sym m)) t.whole) (sym t.ordered ∙ g.1)) ∙ g.2)))
          (λ (elsewhere : i ≡ (place_at p d.offset).message → ⊥). left_in i (u.all none i (whole_then i elsewhere w) k))
          (cases_eq i (place_at p d.offset).message))
          (cases_eq i (number_of p (got_of r)));
      kept = λ none o b m. ⊎_elim
          (λ (same : (place_at p o).message ≡ number_of p (got_of r)). inr (last_in _ same))
          (λ (other : (place_at p o).message ≡ number_of p (got_of r) → ⊥). ⊎_elim
          (λ (l : at o (d ∷ q.unordered) ≡ Some (data_at p o)).
          inl (at_filter (λ (x : Data). not (is_some (at x.offset r.pieces))) o (d ∷ q.unordered) (data_at p o) l
          (not_from_false _ (absent o other (at o r.pieces) refl))))
          (λ (l : mem (place_at p o).message (numbers_of p gots) ≡ true). inr (left_in _ l))
          (kept_now none o b m))
          (cases_eq (place_at p o).message (number_of p (got_of r)));
    }
      where
        absent : (o : ℕ) → ((place_at p o).message ≡ number_of p (got_of r) → ⊥) → (x : Option Data) → at o r.pieces ≡ x
            → is_some x ≡ false
        absent o other None f = refl
        absent o other (Some x) f = absurd (
            let m =
            at_found (λ (y : Data). (place_at p y.offset).message ≡ (place_at p r.head.offset).message) o r.pieces x f
            run_here.mine in
            other (ap (λ z. (place_at p z).message) (sym m.1) ∙ m.0))

module _ (p : Plan) (over : ℕ → Bool) (gone : ℕ → ℕ → Bool) (current : Option Place) (next ssn : ℕ)
    (taken : List ℕ) (passed skipped s : ℕ) (q : Queue) (reads : List Got) (d : Data) where
  -- what holds of the stream where these offsets were taken in
  abbrev IsStreamOf : List ℕ → Queue → List Got → Type 0
  IsStreamOf came = IsStream p gone current next ssn came passed skipped s

  pub stream_settled : IsPlanned p over → IsPiece p d → IsAt p s false d.offset → mem d.offset taken ≡ false
      → IsStreamOf taken q reads
      → IsStreamOf (d.offset ∷ taken) (push_unordered q d) reads
  stream_settled hp piece a new w =
      go (first_complete (d ∷ q.unordered) (d ∷ q.unordered)) refl
    where
      ordered : (q' : Queue) → q'.cursor ≡ q.cursor → q'.ordered ≡ q.ordered
          → IsOrdered p gone current next ssn (d.offset ∷ taken) passed skipped s (read_ssn p 0 reads)
          (read_end p 0 reads) q' reads
      ordered q' c o =
          ordered_aside p gone current next ssn taken passed skipped s (read_ssn p 0 reads) (read_end p 0 reads)
          q q' reads c o (λ b. true≢false (sym b.kind ∙ a.kind)) w.ordered

      go : (r : Option Run) → first_complete (d ∷ q.unordered) (d ∷ q.unordered) ≡ r
          → IsStreamOf (d.offset ∷ taken) (settle (with_unordered q d) r) reads
      go None e = record {
        got = all_weaker _ _ _ (λ g. got_more p taken d.offset s g) w.got;
        once = w.once;
        rising = w.rising;
        below = w.below;
        complete = w.complete;
        ordered = ordered (with_unordered q d) refl refl;
        unordered = unsettled p over gone taken s q (reads ++ q.complete) d hp piece a new w.got w.unordered e;
      }
      go (Some r) e =
          let g = settled_got p over gone taken s q (reads ++ q.complete) d hp piece a new w.got w.unordered r e in
          let same : (reads ++ q.complete) ++ got_of r ∷ [] ≡ reads ++ (q.complete ++ got_of r ∷ []) =
          append_assoc reads q.complete (got_of r ∷ []) in
          record {
            got = subst (AllByRecursion (IsGot p (d.offset ∷ taken) s)) same
                (all_push (IsGot p (d.offset ∷ taken) s) (reads ++ q.complete) (got_of r)
                (all_weaker _ _ _ (λ x. got_more p taken d.offset s x) w.got) g.0);
            once =
                subst (λ z. AreDistinct (numbers_of p z)) same
                (subst AreDistinct (sym (map-join (number_of p) (reads ++ q.complete) (got_of r ∷ [])))
                (distinct_insert (numbers_of p (reads ++ q.complete)) [] (number_of p (got_of r))
                (subst AreDistinct (sym (append-nil (numbers_of p (reads ++ q.complete)))) w.once)
                (subst (λ z. mem (number_of p (got_of r)) z ≡ false)
                (sym (append-nil (numbers_of p (reads ++ q.complete)))) g.2)));
            rising = w.rising;
            below = w.below;
            complete = all_push (λ (x : Got). x.ordered ≡ false) q.complete (got_of r) w.complete g.1;
            ordered = ordered (settle (with_unordered q d) (Some r)) refl refl;
            unordered = subst (IsUnordered p gone (d.offset ∷ taken) s (settle (with_unordered q d) (Some r))) same
                (settled p over gone taken s q (reads ++ q.complete) d hp piece a new w.got w.unordered r e);
          }
