-- What is ready is the same on both sides.
use Rattle.std.proofs.Common.{ℕ, zero, suc, ◌+◌, ◌%◌, ◌^◌, ◌<◌, ◌≤◌, ◌≡◌, Bool, true, false, not, eqb, List, [], ◌∷◌}
use Rattle.std.proofs.Common.{length, map, Option, Some, None, refl, sym, ap, ◌∙◌, subst, ⊎_elim, arith}
use Rattle.std.proofs.lemmas.Bool.{cases_Bool, cond-true, cond-false}
use Rattle.sctp_receive_queues.specs.Messages.{ReceivedMessage}
use Rattle.sctp_receive_queues.specs.Reassembly.{Reassembly, messages_held, ready_on, ready_within, taken}
use Rattle.sctp_receive_queues.specs.Reassembly.{ready as view_ready}
use Rattle.sctp_receive_queues.proofs.ReadyMessages.{TakesOne, takes_one}
use Rattle.sctp_model.specs.Messages.{Plan}
use Rattle.sctp_model.specs.Packets.{Data}
use Rattle.sctp_serial.specs.Serial.{ssn_lt}
use Rattle.sctp_model.specs.Reassembly.{Got, Queue, Run, Taken, drain, drain_on, got_of, least, message_in, next}
use Rattle.sctp_model.specs.Reassembly.{next_from, next_of, taken_out, waiting, without, ready}
use Rattle.sctp_model.specs.Safe.{letter_read}
use Rattle.sctp_model.specs.Invariants.{IsHeld, IsPlanned}
use Rattle.sctp_model.proofs.AllWasRead.{read_shrinks}
use Rattle.sctp_model.proofs.NextOrdered.{least_is}
use Rattle.sctp_model.proofs.Lists.{all_both, all_filter, all_weaker}
use Rattle.sctp_model.proofs.NumberWindows.{next_is}
use Rattle.sctp_reassembly.specs.Laws.{TheSameIsReady}
use Rattle.sctp_reassembly.specs.Stands.{IsAnsweredAlike, IsInWindow, StandsFor, letter_received}
use Rattle.sctp_reassembly.proofs.ReadAnswers.{answered}
use Rattle.sctp_reassembly.proofs.ReadsAlike.{near_too}
use Rattle.sctp_reassembly.proofs.WholeMessages.{IsNearBy}

-- The window after a read: the same one, with a cursor that may be one on.

abbrev HasWindow : Plan → List ℕ → ℕ → ℕ → Queue → Type 0
HasWindow p came s low q = (k : ℕ) × IsInWindow p came s low k q

module _ {p : Plan} {came : List ℕ} {s low cursor : ℕ} {q : Queue} (w : IsInWindow p came s low cursor q) where
  window_without : (c : ℕ) → least q.ordered ≡ Some c → (k : ℕ) × IsInWindow p came s low k (without q c)
  window_without c e =
      let l =
      least_is p came s low q.ordered c
      (all_both _ _ q.ordered w.held (all_weaker _ _ q.ordered (near_too p low) w.near))
      e in
      let la = l.above in
      let ln = l.near in
      let held = all_filter (IsHeld p came s true low) (λ (d : Data). not (eqb d.ssn c)) q.ordered w.held in
      let near = all_filter (IsNearBy p low) (λ (d : Data). not (eqb d.ssn c)) q.ordered w.near in
      ⊎_elim
      (λ (b : eqb c q.cursor ≡ true). (
        suc l.number,
        record {
          held = held;
          near = near;
          is =
              cond-true (eqb c q.cursor) ((c + 1) % 65536) q.cursor b ∙ ap (λ z. (z + 1) % 65536) l.is
              ∙ next_is l.number;
          above = omega arith;
          until = omega arith;
        },
      ))
      (λ (b : eqb c q.cursor ≡ false). (
        cursor,
        record {
          held = held;
          near = near;
          is = cond-false (eqb c q.cursor) ((c + 1) % 65536) q.cursor b ∙ w.is;
          above = w.above;
          until = w.until;
        },
      ))
      (cases_Bool (eqb c q.cursor))

  window_read : (t : Taken) → next q ≡ Some t → HasWindow p came s low t.rest
  window_read t e = go q.complete e
    where
      taken_so : (c : ℕ) (x : Option Run) → least q.ordered ≡ Some c → taken_out q c x ≡ Some t
          → HasWindow p came s low t.rest
      taken_so c None l f = absurd (cc)
      taken_so c (Some r) l f =
          let i : record { got = got_of r; rest = without q c } ≡ t = cc in
          subst (λ z. HasWindow p came s low z.rest) i (window_without c l)

      due : (c : Option ℕ) → least q.ordered ≡ c → next_of q c ≡ Some t → HasWindow p came s low t.rest
      due None l f = absurd (cc)
      due (Some c) l f = ⊎_elim
          (λ (b : ssn_lt q.cursor c ≡ true). absurd (let n : None ≡ Some t =
          sym (cond-true (ssn_lt q.cursor c) None (taken_out q c (message_in q.ordered c)) b) ∙ f in cc))
          (λ (b : ssn_lt q.cursor c ≡ false). taken_so c (message_in q.ordered c) l
          (sym (cond-false (ssn_lt q.cursor c) None (taken_out q c (message_in q.ordered c)) b) ∙ f))
          (cases_Bool (ssn_lt q.cursor c))

      go : (c : List Got) → next_from q c ≡ Some t → HasWindow p came s low t.rest
      go [] f = due (least q.ordered) refl f
      go (g ∷ gs) f =
          let i : record { got = g; rest = record q { complete = gs } } ≡ t = cc in
          subst (λ z. HasWindow p came s low z.rest) i
          (cursor, record { held = w.held; near = w.near; is = w.is; above = w.above; until = w.until })

-- one after another, so many reads on each side as are enough there

nothing_more : (n m : ℕ) (r : Reassembly) (q : Queue) → taken r ≡ (r, None) → next q ≡ None
    → map letter_received (ready_within n r) ≡ map letter_read (drain m q).gots
nothing_more zero zero r q e f = refl
nothing_more zero (suc m) r q e f = rw f refl
nothing_more (suc n) zero r q e f = rw e refl
nothing_more (suc n) (suc m) r q e f = rw (e, f) refl

module _ {initial : ℕ} {p : Plan} {over : ℕ → Bool} {came : List ℕ} {s low : ℕ} (h : IsPlanned p over)
    (v : over s ≡ false) (small : length p.places < 2 ^ 31) where
  ready_alike : {cursor : ℕ} (n m : ℕ) (r : Reassembly) (q : Queue) → IsInWindow p came s low cursor q
      → StandsFor initial p s r q → messages_held r ≤ n → waiting q ≤ m
      → map letter_received (ready_within n r) ≡ map letter_read (drain m q).gots
  ready_alike zero m r q w st ln lm =
      none_held (taken r) (next q) refl refl (takes_one r)
      (answered h v small w st)
    where
      none_held : (x : Reassembly × Option ReceivedMessage) (y : Option Taken) → taken r ≡ x → next q ≡ y → TakesOne r x
          → IsAnsweredAlike initial p s q x y
          → [] ≡ map letter_read (drain m q).gots
      none_held (r', None) None e f t a = nothing_more zero m r q (e ∙ ap (λ (z : Reassembly). (z, None)) t) f
      none_held (r', None) (Some y) e f t a = absurd a
      none_held (r', Some x) y e f t a = absurd (omega arith)
  ready_alike (suc n) zero r q w st ln lm =
      none_held (taken r) (next q) refl refl (takes_one r)
      (answered h v small w st)
    where
      none_held : (x : Reassembly × Option ReceivedMessage) (y : Option Taken) → taken r ≡ x → next q ≡ y → TakesOne r x
          → IsAnsweredAlike initial p s q x y
          → map letter_received (ready_within (suc n) r) ≡ []
      none_held (r', None) None e f t a = nothing_more (suc n) zero r q (e ∙ ap (λ (z : Reassembly). (z, None)) t) f
      none_held (r', None) (Some y) e f t a = absurd a
      none_held (r', Some x) None e f t a = absurd a
      none_held (r', Some x) (Some y) e f t a = absurd (let l = read_shrinks q y f in omega arith)
  ready_alike (suc n) (suc m) r q w st ln lm =
      go (taken r) (next q) refl refl (takes_one r)
      (answered h v small w st)
      (λ k. ready_alike {cursor = k} n m)
    where
      go : (x : Reassembly × Option ReceivedMessage) (y : Option Taken) → taken r ≡ x → next q ≡ y → TakesOne r x
          → IsAnsweredAlike initial p s q x y
          → ((k : ℕ) (r' : Reassembly) (q' : Queue) → IsInWindow p came s low k q' → StandsFor initial p s r' q'
          → messages_held r' ≤ n → waiting q' ≤ m
          → map letter_received (ready_within n r') ≡ map letter_read (drain m q').gots)
          → map letter_received (ready_on x (ready_within n)) ≡ map letter_read (drain_on q y (drain m)).gots
      go (r', None) None e f t a i = refl
      go (r', None) (Some y) e f t a i = absurd a
      go (r', Some x) None e f t a i = absurd a
      go (r', Some x) (Some y) e f t a i =
          let z = window_read w y f in
          let more = i z.0 r' y.rest z.1 a.1 (omega arith) (let l = read_shrinks q y f in omega arith) in
          ap (λ b. b ∷ map letter_received (ready_within n r')) a.0 ∙ ap (λ b. letter_read y.got ∷ b) more

module _ (initial : ℕ) (p : Plan) (over : ℕ → Bool) (came : List ℕ) (s low cursor : ℕ) (r : Reassembly)
    (q : Queue) (h : IsPlanned p over) (v : over s ≡ false) (small : length p.places < 2 ^ 31)
    (w : IsInWindow p came s low cursor q) where
  same_is_ready : StandsFor initial p s r q → map letter_received (view_ready r) ≡ map letter_read (ready q)
  same_is_ready st =
      ready_alike h v small (messages_held r) (waiting q) r q w st (omega arith) (omega arith)

pub the_same_is_ready : TheSameIsReady
the_same_is_ready = same_is_ready
