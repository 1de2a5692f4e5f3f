-- A read answers the same on both sides, and one stands for the other afterwards.
use Rattle.std.proofs.Common.{ℕ, ◌+◌, ◌%◌, ◌<◌, ◌≤◌, ◌≡◌, Bool, true, false, cond, not, eqb, List, [], ◌∷◌, filter}
use Rattle.std.proofs.Common.{Option, Some, None, refl, sym, ap, ◌∙◌, subst, ⊎_elim, arith}
use Rattle.std.specs.List.{AllByRecursion}
use Rattle.std.proofs.lemmas.Bool.{cases_Bool, eqb-true, eq-eqb, ne_eqb, cond-true, cond-false, false_from_ne_true}
use Rattle.sctp_receive_queues.specs.Reassembly.{Group, Reassembly, after_read}
use Rattle.sctp_model.specs.Messages.{Plan, place_at}
use Rattle.sctp_model.specs.Packets.{Data, mem, data_at}
use Rattle.sctp_serial.specs.Serial.{ssn_lt}
use Rattle.sctp_model.specs.Reassembly.{Queue, at, earlier, least, without}
use Rattle.sctp_model.specs.Safe.{AreRising}
use Rattle.sctp_model.specs.Invariants.{IsHeld}
use Rattle.sctp_model.proofs.Lists.{all_weaker, all_both, all_mem, mem-join}
use Rattle.sctp_model.proofs.NumberWindows.{same_from}
use Rattle.sctp_model.proofs.CompleteRuns.{at_found}
use Rattle.sctp_model.proofs.NextOrdered.{IsNear, least_is, least_none, ssn_is}
use Rattle.sctp_reassembly.specs.Stands.{HeldMessage, IsOf, offsets_in, numbers_in, StandsFor, IsInWindow}
use Rattle.sctp_reassembly.proofs.HeldMessages.{IsAlone, at_filtered, number_in, BeginsWith}
use Rattle.sctp_reassembly.proofs.WholeMessages.{IsThere, IsNearBy, all_there}

-- the least number is that of a piece held
pub least_among : (P : Data → Type 0) (held : List Data) (c : ℕ) → AllByRecursion P held → least held ≡ Some c
    → (d : Data) × P d × (d.ssn ≡ c)
least_among P [] c a e = absurd (cc)
least_among P (d ∷ ds) c a e =
    go (least ds) (λ x f. least_among P ds x a.1 f) refl (let x : earlier d.ssn (least ds) ≡ c = cc in x)
  where
    go : (l : Option ℕ) → ((x : ℕ) → least ds ≡ Some x → (d : Data) × P d × (d.ssn ≡ x)) → least ds ≡ l
        → earlier d.ssn l ≡ c → (d : Data) × P d × (d.ssn ≡ c)
    go None i f g = (d, a.0, g)
    go (Some x) i f g =
        ⊎_elim
        (λ (b : ssn_lt x d.ssn ≡ true). let r = i x f in
        (r.0, r.1, r.2 ∙ sym (cond-true (ssn_lt x d.ssn) x d.ssn b) ∙ g))
        (λ (b : ssn_lt x d.ssn ≡ false). (d, a.0, sym (cond-false (ssn_lt x d.ssn) x d.ssn b) ∙ g))
        (cases_Bool (ssn_lt x d.ssn))

pub near_too : (p : Plan) (low : ℕ) (d : Data) → IsNearBy p low d → IsNear p low d
unfolding IsNear
near_too p low d n = n

module _ {p : Plan} {came : List ℕ} {s low cursor : ℕ} {q : Queue} (w : IsInWindow p came s low cursor q) where
  -- a piece held lies in the window
  pub in_window : (o : ℕ) → at o q.ordered ≡ Some (data_at p o)
      → (low ≤ (place_at p o).ssn) × ((place_at p o).ssn < low + 32767)
  in_window o e =
      let a = (at_found (IsHeld p came s true low) o q.ordered (data_at p o) e w.held).0 in
      (a.above, (at_found (IsNearBy p low) o q.ordered (data_at p o) e w.near).0)

  -- the model's least number is that of the first message held
  pub least_first : (h : HeldMessage) → IsAlone p s q.ordered h
      → ((o : ℕ) (d : Data) → at o q.ordered ≡ Some d → h.number ≤ (place_at p o).ssn)
      → least q.ordered ≡ Some (h.number % 65536)
  least_first h a below = go (least q.ordered) refl
    where
      o : ℕ
      o = a.first

      here : at a.first q.ordered ≡ Some (data_at p a.first)
      here = a.all.from.there.0

      number : (place_at p a.first).ssn ≡ h.number
      number = a.all.from.mine.0.is

      none_some : (x : Data) → None ≡ Some x → ⊥
      none_some x i = cc

      go : (x : Option ℕ) → least q.ordered ≡ x → x ≡ Some (h.number % 65536)
      go None e = absurd (none_some (data_at p a.first) (sym (ap (at a.first) (least_none q.ordered e)) ∙ here))
      go (Some c) e =
          let l =
          least_is p came s low q.ordered c
          (all_both _ _ q.ordered w.held (all_weaker _ _ q.ordered (near_too p low) w.near)) e in
          let m =
          least_among (λ (d : Data). (IsHeld p came s true low d × IsNearBy p low d) × IsThere q.ordered d.offset)
          q.ordered c (all_both _ _ q.ordered (all_both _ _ q.ordered w.held w.near) (all_there q.ordered)) e in
          let hd = m.1.0.0 in
          let hn = m.1.0.1 in
          let ab = hd.above in
          let la = l.above in
          let ln = l.near in
          let same : (place_at p m.0.offset).ssn ≡ l.number =
          same_from _ _ (omega arith) (omega arith) (sym (ssn_is p came s low true m.0 hd) ∙ m.2 ∙ l.is) in
          let one = below m.0.offset m.1.1.0 m.1.1.1 in
          let two =
          (at_found (λ (d : Data). l.number ≤ (place_at p d.offset).ssn) a.first q.ordered (data_at p a.first) here
          l.below).0 in
          let all : l.number ≡ h.number = omega (arith, number) in
          ap Some (l.is ∙ ap (λ z. z % 65536) all)

the_cursor : (a b c : ℕ) → b ≡ c → after_read a b ≡ cond (eqb a c) ((a + 1) % 65536) c
the_cursor a b c e =
    ap (after_read a) e
    ∙ ⊎_elim
    (λ (t : eqb a c ≡ true). rw t (ap (λ z. (z + 1) % 65536) (sym (eqb-true a c t))))
    (λ (t : eqb a c ≡ false). rw t refl)
    (cases_Bool (eqb a c))

module _ {initial : ℕ} {p : Plan} {came : List ℕ} {s low cursor : ℕ} {q : Queue} {g : Group} {gs : List Group}
    {h : HeldMessage} {hs : List HeldMessage} (w : IsInWindow p came s low cursor q)
    (begin : BeginsWith initial p s q.ordered g gs h hs) where
  -- the queue without the first message
  rest_same : ((o : ℕ) → at o q.ordered ≡ cond (mem o (offsets_in (h ∷ hs))) (Some (data_at p o)) None) → (o : ℕ)
      → at o (filter (λ (d : Data). not (eqb d.ssn (h.number % 65536))) q.ordered)
      ≡ cond (mem o (offsets_in hs)) (Some (data_at p o)) None
  rest_same same o =
      at_filtered p (λ (d : Data). not (eqb d.ssn (h.number % 65536))) o q.ordered
      (all_weaker _ _ q.ordered (λ d x. x.is) w.held)
      ∙ ap (λ z. cond (not (eqb ((place_at p o).ssn % 65536) (h.number % 65536))) z None)
      (same o ∙ ap (λ z. cond z (Some (data_at p o)) None) (mem-join o h.offsets (offsets_in hs)))
      ∙ ⊎_elim
      (λ (b : mem o h.offsets ≡ true).
      let n = all_mem (IsOf p s h.number) h.offsets o begin.groups.0.mine b in
      let is = n.is in
      let out : mem o (offsets_in hs) ≡ false = false_from_ne_true _ (λ (m : mem o (offsets_in hs) ≡ true).
      let l =
      all_mem (λ (j : ℕ). h.number < j) (numbers_in hs) (place_at p o).ssn begin.rising
      (number_in initial p s gs hs o begin.groups.1 m) in
      omega arith) in
      rw (eq-eqb ((place_at p o).ssn % 65536) (h.number % 65536) (ap (λ z. z % 65536) is), out) refl)
      (λ (b : mem o h.offsets ≡ false). rw b (⊎_elim
      (λ (m : mem o (offsets_in hs) ≡ true).
      let l =
      all_mem (λ (j : ℕ). h.number < j) (numbers_in hs) (place_at p o).ssn begin.rising
      (number_in initial p s gs hs o begin.groups.1 m) in
      let here : at o q.ordered ≡ Some (data_at p o) =
      same o ∙ cond-true _ (Some (data_at p o)) None (mem-join o h.offsets (offsets_in hs) ∙ rw (b, m) refl) in
      let mine = in_window w o here in
      let first = in_window w begin.alone.first begin.alone.all.from.there.0 in
      let is = begin.alone.all.from.mine.0.is in
      rw (
        ne_eqb ((place_at p o).ssn % 65536) (h.number % 65536)
            (λ (e : (place_at p o).ssn % 65536 ≡ h.number % 65536). omega (arith, e)),
        m,
      ) refl)
      (λ (m : mem o (offsets_in hs) ≡ false). rw m
      (neither (not (eqb ((place_at p o).ssn % 65536) (h.number % 65536)))))
      (cases_Bool (mem o (offsets_in hs)))))
      (cases_Bool (mem o h.offsets))
    where
      nothing : Option Data
      nothing = None

      neither : (b : Bool) → cond b (at o []) (at o []) ≡ at o []
      neither true = refl
      neither false = refl

  -- the first ordered message is taken out on both sides
  pub stands_after : (r : Reassembly) (st : StandsFor initial p s r q) → st.held ≡ h ∷ hs
      → StandsFor initial p s (record r { next_ssn = after_read g.ssn r.next_ssn; ordered = gs })
      (without q (h.number % 65536))
  stands_after r st e = record {
    held = hs;
    groups = begin.groups.1;
    ascends = (subst (λ z. AreRisingIn z) e st.ascends).1;
    same =
        rest_same
        (λ o. subst (λ z. at o q.ordered ≡ cond (mem o (offsets_in z)) (Some (data_at p o)) None) e (st.same o));
    next = ap (λ z. after_read z r.next_ssn) begin.groups.0.ssn
        ∙ the_cursor (h.number % 65536) r.next_ssn q.cursor st.next;
    waiting = st.waiting;
    complete = st.complete;
  }
    where
      AreRisingIn : List HeldMessage → Type 0
      AreRisingIn z = AreRising (numbers_in z)
