-- A piece gets the next offset, and a message is abandoned: this keeps the invariant.
use Rattle.std.proofs.Common.{ℕ, suc, ◌+◌, ◌<◌, ◌≤◌, ◌≡◌, ◌⊎◌, Bool, true, false, not, eqb, List, [], ◌∷◌, ◌++◌, length}
use Rattle.std.proofs.Common.{Option, Some, None, refl, sym, ap, ◌∙◌, subst, inl, inr, ⊎_elim, arith}
use Rattle.std.specs.List.{AllByRecursion}
use Rattle.std.proofs.lemmas.Bool.{cases_Bool, cases_eq, and_parts, or_cases, eqb-true, ltb-true, true≢false}
use Rattle.std.proofs.lemmas.Bool.{false≢true, cond-true, cond-false, not-true}
use Rattle.sctp_model.specs.Messages.{Place, Plan, IsAt, place_at, message_at, message_of, is_last, is_reliable, rank}
use Rattle.sctp_model.specs.Packets.{Data, data_at}
use Rattle.sctp_model.specs.Machine.{Direction, put, put_2, is_unsent, is_due, can_begin, first_place, following}
use Rattle.sctp_model.specs.Machine.{left_after, with_place, sent, counted, next_data, begin, marked, unacknowledged}
use Rattle.sctp_model.specs.Safe.{read_end, read_ssn}
use Rattle.sctp_model.specs.Invariants.{Invariant, Follows, IsEarlier, IsGoing, IsSending, IsAscending, IsPiece}
use Rattle.sctp_model.specs.Invariants.{gone_at, released_bytes}
use Rattle.sctp_model.proofs.Lists.{all_weaker, all_push}
use Rattle.sctp_model.proofs.OrderedRanks.{rank_yes}
use Rattle.sctp_model.proofs.PlansGrow.{IsExtended, at_put, off_put, place_extended, piece_kept}
use Rattle.sctp_model.proofs.AscendingNumbers.{ascending_placed, counted_more, counted_past}
use Rattle.sctp_model.proofs.OffsetPlaces.{IsNext, planned_next, length_placed, place_new, placed_cases}
use Rattle.sctp_model.proofs.NextOffset.{next_first, next_following, sending_placed}
use Rattle.sctp_model.proofs.SenderEvents.{grow_keeps, freed_same, freed_now, gone_more, gone_cases}
use Rattle.sctp_model.proofs.ReleasedBytes.{gone_now, released_given}

-- what is left after a piece

left_some : (p : Plan) (y z : Place) → left_after p y ≡ Some z → (is_last p y ≡ false) × (z ≡ following y)
left_some p y z e = ⊎_elim
    (λ (b : is_last p y ≡ true). absurd (none_some (sym (cond-true (is_last p y) None (Some (following y)) b) ∙ e)))
    (λ (b : is_last p y ≡ false). (b, some_some (sym e ∙ cond-false (is_last p y) None (Some (following y)) b)))
    (cases_Bool (is_last p y))
  where
    none_some : None ≡ Some z → ⊥
    none_some h = cc

    some_some : Some z ≡ Some (following y) → z ≡ following y
    some_some h = cc

left_none : (p : Plan) (y : Place) → left_after p y ≡ None → is_last p y ≡ true
left_none p y e = ⊎_elim
    (λ (b : is_last p y ≡ true). b)
    (λ (b : is_last p y ≡ false). absurd (some_none (sym (cond-false (is_last p y) None (Some (following y)) b) ∙ e)))
    (cases_Bool (is_last p y))
  where
    some_none : Some (following y) ≡ None → ⊥
    some_none h = cc

-- the message goes on after y
going_after : (p : Plan) (gone : ℕ → ℕ → Bool) (y z : Place) → y.marker ≡ false → gone y.stream y.message ≡ false
    → left_after p y ≡ Some z → IsGoing (with_place p y) gone z
going_after p gone y z sent stays e =
    let l = left_some p y z e in
    subst (IsGoing (with_place p y) gone) (sym l.1) record {
      last = length p.places;
      is = length_placed p y;
      follows =
          subst (λ x. Follows x (following y)) (sym (place_new p y (length p.places) refl))
          record { stream = refl; message = refl; ssn = refl; piece = refl };
      sent = ap (λ x. x.marker) (place_new p y (length p.places) refl) ∙ sent;
      more = subst (λ x. is_last p x ≡ false) (sym (place_new p y (length p.places) refl)) l.0;
      stays = stays;
      plain = sent;
    }

-- a new offset is y's
new_is : (p : Plan) (y : Place) (s o : ℕ) → length p.places ≤ o → IsAt (with_place p y) s true o
    → (length p.places ≡ o) × (place_at (with_place p y) o ≡ y) × (y.stream ≡ s) × ((message_of p y).ordered ≡ true)
new_is p y s o l a =
    let n = length_placed p y in
    let k = a.known in
    let e : length p.places ≡ o = omega arith in
    let i = place_new p y o e in
    (e, i, sym (ap (λ z. z.stream) i) ∙ a.stream, sym (ap (λ z. (message_of p z).ordered) i) ∙ a.kind)

-- the DATA of a new offset
new_piece : (p : Plan) (y : Place) → y.marker ≡ false
    → IsPiece (with_place p y) (data_at (with_place p y) (length p.places))
new_piece p y sent = record {
  known = let n = length_placed p y in omega arith;
  is = refl;
  sent = ap (λ z. z.marker) (place_new p y (length p.places) refl) ∙ sent;
}

module _ (p : Plan) (gone gone' : ℕ → ℕ → Bool) (y : Place) where
  tails_placed : IsExtended p (with_place p y) → ((t i : ℕ) → gone t i ≡ true → gone' t i ≡ true)
      → ((o : ℕ) → o < length p.places → (place_at p o).marker ≡ true → gone_at p gone o ≡ true)
      → (y.marker ≡ true → gone' y.stream y.message ≡ true) → (o : ℕ) → o < length (with_place p y).places
      → (place_at (with_place p y) o).marker ≡ true → gone_at (with_place p y) gone' o ≡ true
  tails_placed e more old new o l m = ⊎_elim
      (λ (a : o < length p.places). subst (λ z. gone' z.stream z.message ≡ true) (sym (e.places o a))
      (more _ _ (old o a (sym (ap (λ z. z.marker) (e.places o a)) ∙ m))))
      (λ (a : length p.places ≡ o). subst (λ z. gone' z.stream z.message ≡ true) (sym (place_new p y o a))
      (new (sym (ap (λ z. z.marker) (place_new p y o a)) ∙ m)))
      (placed_cases p y o l)

earlier_placed : (p : Plan) (y : Place) (s next ssn : ℕ) (x : Place) (o : ℕ) → IsEarlier p s next ssn x o
    → IsEarlier (with_place p y) s next ssn x o
earlier_placed p y s next ssn x o e = record {
  below = e.below;
  near = let a = e.near in let n = length_placed p y in omega arith;
  rank = e.rank;
}

-- A message begins.

module _ (w : Direction) (s i number : ℕ) (numbered : (message_at w.sender.plan s i).ordered ≡ true
    → number ≡ w.sender.ssn s) (can : can_begin w.sender s i ≡ true) (none : w.sender.current ≡ None)
    (h : Invariant w) where
  unsent : (i < length (w.sender.plan.accepted s)) × (w.sender.begun s i ≡ false) × (w.sender.gone s i ≡ false)
  unsent =
      let a = and_parts _ _ can in
      let b = and_parts _ _ a.0 in
      let c = and_parts _ _ b.1 in
      (ltb-true _ _ b.0, not-true _ c.0, not-true _ c.1)

  due : (message_at w.sender.plan s i).ordered ≡ true → i ≡ w.sender.next s
  due o = ⊎_elim
      (λ (a : not (message_at w.sender.plan s i).ordered ≡ true). absurd (true≢false (sym o ∙ not-true _ a)))
      (λ (a : eqb i (w.sender.next s) ≡ true). eqb-true _ _ a)
      (or_cases _ _ (and_parts (is_unsent w.sender s i) (is_due w.sender s i) can).1)

  next_place : IsNext w.sender.plan w.over (first_place s i number)
  next_place =
      next_first
      (first_place s i number)
      h.planned h.sending none refl numbered unsent.0 unsent.1 due

  longer : IsExtended w.sender.plan (with_place w.sender.plan (first_place s i number))
  longer = place_extended w.sender.plan (first_place s i number) h.planned.known

  begun_cases : (t j : ℕ) → w.sender.begun t j ≡ true → put_2 w.sender.begun s i t j ≡ true
  begun_cases t j b = gone_more w.sender.begun s i t j b

  datas_now : AllByRecursion (IsPiece (with_place w.sender.plan (first_place s i number)))
      (w.datas ++ next_data w.sender (first_place s i number) ∷ [])
  datas_now =
      all_push _ w.datas _ (all_weaker _ _ _
      (λ d. piece_kept w.sender.plan (with_place w.sender.plan (first_place s i number)) longer d) h.datas)
      (new_piece w.sender.plan (first_place s i number) refl)

  tails_now : (o : ℕ) → o < length (with_place w.sender.plan (first_place s i number)).places
      → (place_at (with_place w.sender.plan (first_place s i number)) o).marker ≡ true
      → gone_at (with_place w.sender.plan (first_place s i number)) w.sender.gone o ≡ true
  tails_now =
      tails_placed w.sender.plan w.sender.gone w.sender.gone (first_place s i number) longer (λ t j g. g) h.tails
      (λ e. absurd (false≢true e))

  later_now : (t : ℕ) → w.over t ≡ false → (o : ℕ) → length w.sender.plan.places ≤ o
      → IsAt (with_place w.sender.plan (first_place s i number)) t true o
      → (x : ℕ) → IsAt w.sender.plan t true x → gone_at w.sender.plan w.sender.gone x ≡ true
      → (place_at w.sender.plan x).ssn < (place_at (with_place w.sender.plan (first_place s i number)) o).ssn
  later_now t v o l a x ax g =
      let n = new_is w.sender.plan (first_place s i number) t o l a in
      subst (λ z. (place_at w.sender.plan x).ssn < z.ssn) (sym n.1)
      (let b = (h.sending.earlier t v x ax).below in let u = numbered n.3 in let c = ap w.sender.ssn n.2 in omega arith)

  going_now : (z : Place) → left_after w.sender.plan (first_place s i number) ≡ Some z
      → IsGoing (with_place w.sender.plan (first_place s i number)) w.sender.gone z
  going_now z e = going_after w.sender.plan w.sender.gone (first_place s i number) z refl unsent.2 e

  begin_ordered : (message_at w.sender.plan s i).ordered ≡ true
      → Invariant (record w {
        sender = counted (sent w.sender (first_place s i number)) s i true;
        datas = w.datas ++ next_data w.sender (first_place s i number) ∷ [];
      })
  begin_ordered kind =
      grow_keeps w (with_place w.sender.plan (first_place s i number))
      (left_after w.sender.plan (first_place s i number))
      (put w.sender.next s (suc i)) (put w.sender.ssn s (suc (w.sender.ssn s))) (put_2 w.sender.begun s i) w.sender.gone
      w.sender.released
      (w.datas ++ next_data w.sender (first_place s i number) ∷ []) h longer (λ t j g. g)
      (planned_next w.sender.plan w.over (first_place s i number) h.planned next_place)
      (sending_placed (first_place s i number)
      (left_after w.sender.plan (first_place s i number)) (put w.sender.next s (suc i))
      (put w.sender.ssn s (suc (w.sender.ssn s))) (put_2 w.sender.begun s i) h.planned h.sending
      (λ t. put_cases t (λ a b. a ≤ length (w.sender.plan.accepted t))
      (λ e. let u = ap (λ z. length (w.sender.plan.accepted z)) e in omega (arith, unsent.0))
      (λ ne. h.sending.within t))
      begun_cases (gone_now w.sender.begun s i)
      (λ t. put_cases t (λ a b. w.sender.next t ≤ a)
      (λ e. let d = due kind in let u = ap w.sender.next e in omega arith) (λ ne. omega arith))
      (λ k. put_cases s (λ a b. i < a) (λ e. omega arith) (λ ne. absurd (ne refl)))
      (λ t v o a.
      let x = h.sending.earlier t v o a in
      put_cases t (λ a b. IsEarlier (with_place w.sender.plan (first_place s i number)) t a b
      (place_at w.sender.plan o) o)
      (λ e. step t e o x)
      (λ ne. earlier_placed w.sender.plan (first_place s i number) t (w.sender.next t) (w.sender.ssn t)
      (place_at w.sender.plan o) o x))
      (λ v k.
      put_cases s (λ a b. IsEarlier (with_place w.sender.plan (first_place s i number)) s a b (first_place s i number)
      (length w.sender.plan.places))
      (λ e. record {
        below = let u = numbered kind in omega arith;
        near = let n = length_placed w.sender.plan (first_place s i number) in omega arith;
        rank = let r = ranked in let u = numbered kind in omega arith;
      })
      (λ ne. absurd (ne refl)))
      going_now (λ e. inl (left_none w.sender.plan (first_place s i number) e)))
      (ascending_placed (first_place s i number)
      (left_after w.sender.plan (first_place s i number))
      (put w.sender.ssn s (suc (w.sender.ssn s))) h.planned.known h.ascending
      (counted_more w.sender.ssn s)
      (λ k. counted_past w.sender.ssn s number (numbered kind))
      (λ k o from a. let b = h.ascending.below s o from a in let u = numbered kind in omega arith)
      (λ z e k. subst (λ x. x.ssn < put w.sender.ssn s (suc (w.sender.ssn s)) x.stream)
      (sym (left_some w.sender.plan (first_place s i number) z e).1)
      (counted_past w.sender.ssn s number (numbered kind))))
      datas_now tails_now later_now (freed_same w (with_place w.sender.plan (first_place s i number)) h longer)
      (λ t v st o l a.
      let n = new_is w.sender.plan (first_place s i number) t o l a in
      let e = n.2 in
      let q = st.ordered in
      let en = ap w.sender.next (sym e) in
      let es = ap w.sender.ssn e in
      let d = due kind in
      let u = numbered kind in
      record {
        ahead = subst (λ z. q.cursor ≤ z.ssn) (sym n.1) (let b = q.begun in omega arith);
        later =
            subst (λ z. read_end w.sender.plan 0 (w.reads t) ≤ z.message) (sym n.1) (let b = q.until in omega arith);
        link =
            subst (λ z. z.ssn + rank (w.sender.plan.accepted t) (read_end w.sender.plan 0 (w.reads t))
            ≤ read_ssn w.sender.plan 0 (w.reads t) + rank (w.sender.plan.accepted t) z.message) (sym n.1)
            (let b = q.gap in
            let u : rank (w.sender.plan.accepted t) i ≡ rank (w.sender.plan.accepted t) (w.sender.next t) =
            ap (rank (w.sender.plan.accepted t)) (omega arith) in omega arith);
        exact = λ no. subst (λ z. z.ssn ≡ rank (w.sender.plan.accepted t) z.message) (sym n.1)
            (u ∙ es ∙ (q.full no).level_next ∙ ap (rank (w.sender.plan.accepted t)) (omega arith));
      })
      (λ t v st.
      let q = st.ordered in
      record {
        going = λ z c sz k.
            let l = left_some w.sender.plan (first_place s i number) z c in
            let e : s ≡ t = sym (ap (λ x. x.stream) l.1) ∙ sz in
            let u = ap w.sender.ssn e in
            let v' = ap (λ x. x.ssn) l.1 in
            let k' = numbered kind in
            let b = q.begun in
            omega arith;
        begun =
            put_cases t (λ a b. q.cursor ≤ b) (λ e. let b = q.begun in let u = ap w.sender.ssn e in omega arith)
            (λ ne. q.begun);
        until =
            put_cases t (λ a b. read_end w.sender.plan 0 (w.reads t) ≤ a)
            (λ e. let b = q.until in let u = ap w.sender.next e in let d = due kind in omega arith) (λ ne. q.until);
        gap =
            put_cases t (λ a b. b + rank (w.sender.plan.accepted t) (read_end w.sender.plan 0 (w.reads t))
            ≤ read_ssn w.sender.plan 0 (w.reads t) + rank (w.sender.plan.accepted t) a)
            (λ e.
            let b = q.gap in
            let u = ap w.sender.ssn e in
            let r = ranked_at t e in
            omega arith)
            (λ ne. q.gap);
        level = λ no. put_cases t (λ a b. b ≡ rank (w.sender.plan.accepted t) a)
            (λ e. ap suc (ap w.sender.ssn (sym e) ∙ (q.full no).level_next) ∙ sym (ranked_at t e))
            (λ ne. (q.full no).level_next);
      })
    where
      ranked : rank (w.sender.plan.accepted s) (suc i) ≡ suc (rank (w.sender.plan.accepted s) i)
      ranked = rank_yes (w.sender.plan.accepted s) i unsent.0 kind

      ranked_at : (t : ℕ) → t ≡ s
          → rank (w.sender.plan.accepted t) (suc i) ≡ suc (rank (w.sender.plan.accepted t) (w.sender.next t))
      ranked_at t e =
          subst (λ z. rank (w.sender.plan.accepted z) (suc i) ≡ suc (rank (w.sender.plan.accepted z) (w.sender.next z)))
          (sym e)
          (ranked ∙ ap (λ z. suc (rank (w.sender.plan.accepted s) z)) (due kind))

      put_cases : (t : ℕ) (P : ℕ → ℕ → Type 0) → (t ≡ s → P (suc i) (suc (w.sender.ssn s)))
          → ((t ≡ s → ⊥) → P (w.sender.next t) (w.sender.ssn t))
          → P (put w.sender.next s (suc i) t) (put w.sender.ssn s (suc (w.sender.ssn s)) t)
      put_cases t P a b = ⊎_elim
          (λ (e : t ≡ s). subst (λ z. P z (put w.sender.ssn s (suc (w.sender.ssn s)) t))
          (sym (at_put w.sender.next s t (suc i) e))
          (subst (λ z. P (suc i) z) (sym (at_put w.sender.ssn s t (suc (w.sender.ssn s)) e)) (a e)))
          (λ (ne : t ≡ s → ⊥). subst (λ z. P z (put w.sender.ssn s (suc (w.sender.ssn s)) t))
          (sym (off_put w.sender.next s t (suc i) ne))
          (subst (λ z. P (w.sender.next t) z) (sym (off_put w.sender.ssn s t (suc (w.sender.ssn s)) ne)) (b ne)))
          (cases_eq t s)

      step : (t : ℕ) → t ≡ s → (o : ℕ)
          → IsEarlier w.sender.plan t (w.sender.next t) (w.sender.ssn t) (place_at w.sender.plan o) o
          → IsEarlier (with_place w.sender.plan (first_place s i number)) t (suc i) (suc (w.sender.ssn s))
          (place_at w.sender.plan o) o
      step t e o x =
          let d = due kind in
          let u = ap w.sender.next e in
          let u' = ap w.sender.ssn e in
          record {
            below = let b = x.below in omega arith;
            near = let b = x.near in let n = length_placed w.sender.plan (first_place s i number) in omega arith;
            rank = let b = x.rank in let r = ranked_at t e in omega arith;
          }

  begin_unordered : (message_at w.sender.plan s i).ordered ≡ false
      → Invariant (record w {
        sender = counted (sent w.sender (first_place s i number)) s i false;
        datas = w.datas ++ next_data w.sender (first_place s i number) ∷ [];
      })
  begin_unordered kind =
      grow_keeps w (with_place w.sender.plan (first_place s i number))
      (left_after w.sender.plan (first_place s i number))
      w.sender.next w.sender.ssn (put_2 w.sender.begun s i) w.sender.gone w.sender.released
      (w.datas ++ next_data w.sender (first_place s i number) ∷ []) h longer (λ t j g. g)
      (planned_next w.sender.plan w.over (first_place s i number) h.planned next_place)
      (sending_placed (first_place s i number)
      (left_after w.sender.plan (first_place s i number)) w.sender.next w.sender.ssn
      (put_2 w.sender.begun s i) h.planned h.sending
      h.sending.within begun_cases (gone_now w.sender.begun s i)
      (λ t. omega arith) (λ k. absurd (true≢false (sym k ∙ kind)))
      (λ t v o a. earlier_placed w.sender.plan (first_place s i number) t (w.sender.next t) (w.sender.ssn t)
      (place_at w.sender.plan o) o (h.sending.earlier t v o a))
      (λ v k. absurd (true≢false (sym k ∙ kind)))
      going_now (λ e. inl (left_none w.sender.plan (first_place s i number) e)))
      (ascending_placed (first_place s i number)
      (left_after w.sender.plan (first_place s i number)) w.sender.ssn h.planned.known h.ascending (λ t. omega arith)
      (λ k. absurd (true≢false (sym k ∙ kind)))
      (λ k o from a. absurd (true≢false (sym k ∙ kind)))
      (λ z e k.
      absurd
      (true≢false (sym k ∙ ap (λ x. (message_of w.sender.plan x).ordered)
      (left_some w.sender.plan (first_place s i number) z e).1 ∙ kind))))
      datas_now tails_now later_now (freed_same w (with_place w.sender.plan (first_place s i number)) h longer)
      (λ t v st o l a. absurd (true≢false (sym (new_is w.sender.plan (first_place s i number) t o l a).3 ∙ kind)))
      (λ t v st.
      let q = st.ordered in
      record {
        going = λ z c sz k. absurd (
            let l = left_some w.sender.plan (first_place s i number) z c in
            true≢false (sym k ∙ ap (λ x. (message_of w.sender.plan x).ordered) l.1 ∙ kind));
        begun = q.begun;
        until = q.until;
        gap = q.gap;
        level = λ no. (q.full no).level_next;
      })

  begin_either : (b : Bool) → (message_at w.sender.plan s i).ordered ≡ b
      → Invariant (record w {
        sender = counted (sent w.sender (first_place s i number)) s i b;
        datas = w.datas ++ next_data w.sender (first_place s i number) ∷ [];
      })
  begin_either true e = begin_ordered e
  begin_either false e = begin_unordered e

  pub keeps_begin : Invariant (begin w s i number)
  keeps_begin = begin_either (message_at w.sender.plan s i).ordered refl

-- The message goes on, with its next piece or with the marker of its tail.

module _ (w : Direction) (c y : Place) (current' : Option Place) (gone' : ℕ → ℕ → Bool) (rl : ℕ → ℕ)
    (ds : List Data) (is : w.sender.current ≡ Some c) (es : y.stream ≡ c.stream) (em : y.message ≡ c.message)
    (ep : y.piece ≡ c.piece) (en : y.ssn ≡ c.ssn) where
  going_keeps : ((t i : ℕ) → w.sender.gone t i ≡ true → gone' t i ≡ true)
      → (y.marker ≡ true → gone' y.stream y.message ≡ true)
      → ((s : ℕ) → rl s ≡ released_bytes (with_place w.sender.plan y) w.sender.acknowledged gone' s)
      → AllByRecursion (IsPiece (with_place w.sender.plan y)) ds
      → IsSending (with_place w.sender.plan y) current' w.sender.next w.sender.ssn w.sender.begun gone' w.over
      → ((z : Place) → current' ≡ Some z → (z.stream ≡ c.stream) × (z.message ≡ c.message) × (z.ssn ≡ c.ssn))
      → Invariant w
      → Invariant
      (record w {
        sender = record w.sender {
          plan = with_place w.sender.plan y;
          current = current';
          gone = gone';
          released = rl;
        };
        datas = ds;
      })
  going_keeps more tail freed datas sending next h =
      grow_keeps w (with_place p y) current' w.sender.next w.sender.ssn w.sender.begun gone' rl ds h longer more
      (planned_next p w.over y h.planned (next_following p w.over y g.last h.planned g.is follows g.sent g.more))
      sending
      ascending
      datas
      (tails_placed p w.sender.gone gone' y longer more h.tails tail)
      (λ t v o l a x ax given.
      let n = new_is p y t o l a in
      let m = last_at t n.2 n.3 in
      let mk = g.is in
      let xk = ax.known in
      let pair = h.planned.pairs t v x g.last (omega arith) ax m in
      let le = pair.ssn in
      let ws = follows.ssn in
      let apart : (place_at p x).ssn ≡ (place_at p g.last).ssn → ⊥ =
      (λ (e : (place_at p x).ssn ≡ (place_at p g.last).ssn).
      true≢false (sym given ∙ ap (λ z. w.sender.gone z (place_at p x).message) (ax.stream ∙ sym n.2 ∙ es)
      ∙ ap (w.sender.gone c.stream) (pair.together e ∙ sym g.follows.message) ∙ g.stays)) in
      subst (λ z. (place_at p x).ssn < z.ssn) (sym n.1) (omega (arith, apart)))
      freed
      (λ t v st o l a.
      let n = new_is p y t o l a in
      let m = last_at t n.2 n.3 in
      let q = st.ordered in
      let ahead : q.cursor ≤ c.ssn = q.going c is (sym es ∙ n.2) (sym (ap (λ z. z.ordered) same) ∙ n.3) in
      let above = q.above in
      let ws = follows.ssn in
      let wm = follows.message in
      let low : read_ssn p 0 (w.reads t) ≤ (place_at p g.last).ssn = omega arith in
      record {
        ahead = subst (λ z. q.cursor ≤ z.ssn) (sym n.1) (omega arith);
        later = subst (λ z. read_end p 0 (w.reads t) ≤ z.message) (sym n.1)
            (let b = q.later g.last m low in omega arith);
        link =
            subst (λ z. z.ssn + rank (p.accepted t) (read_end p 0 (w.reads t))
            ≤ read_ssn p 0 (w.reads t) + rank (p.accepted t) z.message) (sym n.1)
            (let b = q.link g.last m low in let u = ap (rank (p.accepted t)) wm in omega arith);
        exact = λ no. subst (λ z. z.ssn ≡ rank (p.accepted t) z.message) (sym n.1)
            (ws ∙ (q.full no).exact g.last m ∙ ap (rank (p.accepted t)) (sym wm));
      })
      (λ t v st.
      let q = st.ordered in
      record {
        going = λ z e sz k.
            let x = next z e in
            let ord : (message_of p c).ordered ≡ true =
            ap (λ u. (message_at p u c.message).ordered) (sym x.0)
            ∙ ap (λ u. (message_at p z.stream u).ordered) (sym x.1) ∙ k in
            let b = q.going c is (sym x.0 ∙ sz) ord in
            let u = x.2 in
            omega arith;
        begun = q.begun;
        until = q.until;
        gap = q.gap;
        level = λ no. (q.full no).level_next;
      })
    where
      p : Plan
      p = w.sender.plan

      g : IsGoing w.sender.plan w.sender.gone c
      g = h.sending.going c is

      follows : Follows (place_at w.sender.plan g.last) y
      follows = record {
        stream = es ∙ g.follows.stream;
        message = em ∙ g.follows.message;
        ssn = en ∙ g.follows.ssn;
        piece = ep ∙ g.follows.piece;
      }

      longer : IsExtended w.sender.plan (with_place w.sender.plan y)
      longer = place_extended w.sender.plan y h.planned.known

      same : message_of w.sender.plan y ≡ message_of w.sender.plan c
      same = ap (λ z. message_at w.sender.plan z y.message) es ∙ ap (message_at w.sender.plan c.stream) em

      last_at : (t : ℕ) → y.stream ≡ t → (message_of w.sender.plan y).ordered ≡ true → IsAt w.sender.plan t true g.last
      last_at t e k = record {
        known = let n = g.is in omega arith;
        stream = sym follows.stream ∙ e;
        kind = ap (λ z. (message_at w.sender.plan z (place_at w.sender.plan g.last).message).ordered)
            (sym follows.stream)
            ∙ ap (λ z. (message_at w.sender.plan y.stream z).ordered) (sym follows.message) ∙ k;
      }

      ascending : IsAscending (with_place w.sender.plan y) current' w.sender.ssn w.sender.reach
      ascending =
          ascending_placed y current' w.sender.ssn
          h.planned.known h.ascending (λ s. omega arith)
          (λ k.
          let b = h.ascending.going c is (sym (ap (λ z. z.ordered) same) ∙ k) in
          let u = ap w.sender.ssn es in
          omega arith)
          (λ k o from a.
          let m = last_at y.stream refl k in
          let b = h.ascending.ascends y.stream o g.last from (let n = g.is in let l = a.known in omega arith) a m in
          let u = follows.ssn in
          omega arith)
          (λ z e k.
          let x = next z e in
          let b = h.ascending.going c is
          (ap (λ u. (message_at w.sender.plan u c.message).ordered) (sym x.0)
          ∙ ap (λ u. (message_at w.sender.plan z.stream u).ordered) (sym x.1) ∙ k) in
          let u = ap w.sender.ssn x.0 in
          let v = x.2 in
          omega arith)

module _ (w : Direction) (c y : Place) (current' : Option Place) where
  -- the sender after the next place of the message that goes on
  sending_following : w.sender.current ≡ Some c → y.stream ≡ c.stream → y.message ≡ c.message → y.ssn ≡ c.ssn
      → Invariant w → ((z : Place) → current' ≡ Some z → IsGoing (with_place w.sender.plan y) w.sender.gone z)
      → (current' ≡ None → (is_last w.sender.plan y ≡ true) ⊎ (y.marker ≡ true))
      → IsSending (with_place w.sender.plan y) current' w.sender.next w.sender.ssn w.sender.begun w.sender.gone w.over
  sending_following is es em en h going closed =
      sending_placed y current' w.sender.next w.sender.ssn
      w.sender.begun h.planned h.sending
      h.sending.within (λ t i b. b)
      (let f = g.follows in
      subst (λ z. w.sender.begun z y.message ≡ true) (sym (es ∙ f.stream))
      (subst (λ z. w.sender.begun (place_at p g.last).stream z ≡ true) (sym (em ∙ f.message))
      (h.sending.counted g.last (let n = g.is in omega arith))))
      (λ t. omega arith)
      (λ k. let f = g.follows in
      let b = h.sending.numbers y.stream g.last (last_at k) in
      let mm : y.message ≡ (place_at p g.last).message = em ∙ f.message in
      omega arith)
      (λ t v o a. earlier_placed p y t (w.sender.next t) (w.sender.ssn t) (place_at p o) o (h.sending.earlier t v o a))
      (λ v k.
      let f = g.follows in
      let n = g.is in
      let x = h.sending.earlier y.stream v g.last (last_at k) in
      let ss : y.ssn ≡ (place_at p g.last).ssn = en ∙ f.ssn in
      let mm : y.message ≡ (place_at p g.last).message = em ∙ f.message in
      record {
        below = let b = x.below in omega arith;
        near = let b = x.near in let q = length_placed p y in omega arith;
        rank = let b = x.rank in let u = ap (rank (p.accepted y.stream)) mm in omega arith;
      })
      going closed
    where
      p : Plan
      p = w.sender.plan

      g : IsGoing w.sender.plan w.sender.gone c
      g = h.sending.going c is

      last_at : (message_of w.sender.plan y).ordered ≡ true → IsAt w.sender.plan y.stream true g.last
      last_at k =
          let f = g.follows in
          record {
            known = let n = g.is in omega arith;
            stream = sym f.stream ∙ sym es;
            kind =
                ap (λ z. (message_at w.sender.plan z (place_at w.sender.plan g.last).message).ordered)
                (sym f.stream ∙ sym es)
                ∙ ap (λ z. (message_at w.sender.plan y.stream z).ordered) (sym f.message ∙ sym em) ∙ k;
          }

pub keeps_go_on : (w : Direction) (c : Place) → w.sender.current ≡ Some c → Invariant w
    → Invariant (record w { sender = sent w.sender c; datas = w.datas ++ next_data w.sender c ∷ [] })
keeps_go_on w c is h =
    going_keeps w c c (left_after w.sender.plan c) w.sender.gone w.sender.released
    (w.datas ++ next_data w.sender c ∷ []) is refl refl refl refl
    (λ t i g. g)
    (λ m. absurd (true≢false (sym m ∙ (h.sending.going c is).plain)))
    (freed_same w (with_place w.sender.plan c) h (place_extended w.sender.plan c h.planned.known))
    (all_push _ w.datas _
    (all_weaker _ _ _ (λ d. piece_kept w.sender.plan (with_place w.sender.plan c)
    (place_extended w.sender.plan c h.planned.known) d) h.datas)
    (new_piece w.sender.plan c (h.sending.going c is).plain))
    (sending_following w c c (left_after w.sender.plan c) is refl refl refl h
    (λ z e. going_after w.sender.plan w.sender.gone c z (h.sending.going c is).plain (h.sending.going c is).stays e)
    (λ e. inl (left_none w.sender.plan c e)))
    (λ z e.
    let l = left_some w.sender.plan c z e in
    (ap (λ x. x.stream) l.1, ap (λ x. x.message) l.1, ap (λ x. x.ssn) l.1))
    h

-- A message is abandoned.

-- what is released when the message going on is abandoned
pub marked_frees : (w : Direction) (s i : ℕ) (c : Place) → w.sender.current ≡ Some c → c.stream ≡ s → c.message ≡ i
    → i < length (w.sender.plan.accepted s) → Invariant w
    → w.sender.released s + unacknowledged (marked w.sender c) s i
    ≡ released_bytes (with_place w.sender.plan (record c { marker = true })) w.sender.acknowledged
    (put_2 w.sender.gone s i) s
marked_frees w s i c is es ei known h =
    released_given w.sender.acknowledged w.sender.gone s i (w.sender.released s)
    (planned_next w.sender.plan w.over y h.planned
    (next_following w.sender.plan w.over y g.last h.planned g.is f g.sent g.more))
    (ap (λ z. w.sender.gone z i) (sym es) ∙ ap (w.sender.gone c.stream) (sym ei) ∙ g.stays)
    known
    (freed_same w r h (place_extended w.sender.plan y h.planned.known) s)
  where
    y : Place
    y = record c { marker = true }

    r : Plan
    r = with_place w.sender.plan (record c { marker = true })

    g : IsGoing w.sender.plan w.sender.gone c
    g = h.sending.going c is

    f : Follows (place_at w.sender.plan g.last) (record c { marker = true })
    f = record { stream = g.follows.stream; message = g.follows.message; ssn = g.follows.ssn; piece = g.follows.piece }

module _ (w : Direction) (s i n : ℕ) (c : Place) where
  pub keeps_marked : w.sender.current ≡ Some c → c.stream ≡ s → c.message ≡ i → i < length (w.sender.plan.accepted s)
      → is_reliable (message_at w.sender.plan s i).policy ≡ false
      → n ≡ released_bytes (with_place w.sender.plan (record c { marker = true })) w.sender.acknowledged
      (put_2 w.sender.gone s i) s
      → Invariant w
      → Invariant
      (record w {
        sender = record (marked w.sender c) {
          gone = put_2 w.sender.gone s i;
          released = put w.sender.released
              s n;
        };
      })
  keeps_marked is es ei known unreliable freed h =
      going_keeps w c (record c { marker = true }) None (put_2 w.sender.gone s i) (put w.sender.released s n) w.datas is
      refl refl refl refl
      (gone_more w.sender.gone s i)
      (λ m. subst (λ z. put_2 w.sender.gone s i z c.message ≡ true) (sym es)
      (subst (λ z. put_2 w.sender.gone s i s z ≡ true) (sym ei) (gone_now w.sender.gone s i)))
      (freed_now w (with_place w.sender.plan (record c { marker = true })) s i n h
      (place_extended w.sender.plan (record c { marker = true }) h.planned.known) freed)
      (all_weaker _ _ _ (λ d. piece_kept w.sender.plan (with_place w.sender.plan (record c { marker = true }))
      (place_extended w.sender.plan (record c { marker = true }) h.planned.known) d) h.datas)
      (let g =
      sending_following w c (record c { marker = true }) None is refl refl refl h (λ z e. absurd (none_some z e))
      (λ e. inr refl) in
      record {
        within = g.within;
        counted = g.counted;
        numbers = g.numbers;
        earlier = g.earlier;
        going = λ z e. absurd (none_some z e);
        closed = g.closed;
        given_up = λ t j b. ⊎_elim
            (λ (here : (t ≡ s) × (j ≡ i)). (
              subst (λ z. z < length (w.sender.plan.accepted t)) (sym here.1)
                  (subst (λ z. i < length (w.sender.plan.accepted z)) (sym here.0) known),
              ap (λ z. is_reliable (message_at w.sender.plan t z).policy) here.1
                  ∙ ap (λ z. is_reliable (message_at w.sender.plan z i).policy) here.0 ∙ unreliable,
            ))
            (λ (there : w.sender.gone t j ≡ true). g.given_up t j there)
            (gone_cases w.sender.gone s i t j b);
      })
      (λ z e. absurd (none_some z e))
      h
    where
      none_some : (z : Place) → None ≡ Some z → ⊥
      none_some z e = cc
