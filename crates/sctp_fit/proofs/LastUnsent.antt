-- What is unsent when a message is accepted: it is the last one.
use Rattle.std.proofs.Common.{ℕ, suc, ◌<◌, ◌≤◌, ◌≡◌, Bool, true, false, cond, List, [], ◌∷◌, ◌++◌, Option, Some, None}
use Rattle.std.proofs.Common.{refl, sym, ap, ◌∙◌, subst, ⊎_elim, arith}
use Rattle.std.proofs.lemmas.Bool.{cases_Bool, cases_eq, cond-false}
use Rattle.sctp_outbound_queue.specs.declared.message.Attributes.{Attributes}
use Rattle.sctp_outbound_queue.specs.Waiting.{Waiting}
use Rattle.sctp_model.specs.Messages.{Place, Plan}
use Rattle.sctp_model.specs.Machine.{put}
use Rattle.sctp_model.proofs.PlansGrow.{at_put, off_put}
use Rattle.sctp_fit.specs.Outgoing.{AreUnsent, AreWaiting, IsWaiting, Names, number_at, numbers_after}
use Rattle.sctp_fit.specs.Outgoing.{numbers_past}

-- the next numbers behind one message more
pub numbers_push : (numbers : ℕ → ℕ) (xs : List Waiting) (x : Waiting) → x.begun ≡ false
    → numbers_after numbers (xs ++ x ∷ []) ≡ numbers_past (numbers_after numbers xs) x.message
numbers_push numbers [] x e = cond-false x.begun numbers (numbers_past numbers x.message) e
numbers_push numbers (y ∷ ys) x e = numbers_push (cond y.begun numbers (numbers_past numbers y.message)) ys x e

-- a message leaves the next numbers of other streams
pub past_others : (numbers : ℕ → ℕ) (a : Attributes) (s : ℕ) → (s ≡ a.stream_identifier → ⊥)
    → numbers_past numbers a s ≡ numbers s
past_others numbers a s ne = ⊎_elim
    (λ (b : a.unordered ≡ true). rw b refl)
    (λ (b : a.unordered ≡ false).
    rw b (off_put numbers a.stream_identifier s (suc (numbers a.stream_identifier)) ne))
    (cases_Bool a.unordered)

-- Message `last` of stream s, behind all others of it, is unsent now, and each other one as it was.
pub record IsOneMore (unsent now : ℕ → ℕ → Bool) (s last : ℕ) : Type 0 where
  pub below : (i : ℕ) → unsent s i ≡ true → i < last
  pub one : now s last ≡ true
  pub others : (t i : ℕ) → (t ≡ s → i ≡ last → ⊥) → now t i ≡ unsent t i

-- what stands before a message that was unsent is as it was
same_before : {unsent now : ℕ → ℕ → Bool} {s last : ℕ} (t i j : ℕ) → IsOneMore unsent now s last
    → unsent t i ≡ true → j ≤ i → now t j ≡ unsent t j
same_before {unsent} t i j more is l =
    more.others t j (λ e f. let b = more.below i (subst (λ z. unsent z i ≡ true) e is) in omega arith)

-- That message waits as x.
module _ {n : Names} {p : Plan} {unsent now : ℕ → ℕ → Bool} {last : ℕ} (x : Waiting) (fresh : x.begun ≡ false)
    (more : IsOneMore unsent now x.message.stream_identifier last) where
  -- it is unsent behind all that is unsent
  unsent_push : (from numbers : ℕ → ℕ) (xs : List Waiting) → from x.message.stream_identifier ≤ last
      → IsWaiting n p last (number_at (numbers_after numbers xs) x.message) 0 x → AreUnsent n p unsent from numbers xs
      → AreUnsent n p now from numbers (xs ++ x ∷ [])
  unsent_push from numbers [] l h all = (
    last,
    record {
      waits = h;
      begun = fresh;
      is = more.one;
      past = l;
      next = λ j past before. more.others x.message.stream_identifier j (λ e f. omega arith)
          ∙ all x.message.stream_identifier j past;
    },
    rest,
  )
    where
      rest : (s i : ℕ) → put from x.message.stream_identifier (suc last) s ≤ i → now s i ≡ false
      rest s i past = ⊎_elim
          (λ (e : s ≡ x.message.stream_identifier).
          let a = at_put from x.message.stream_identifier s (suc last) e in
          let b = ap from e in
          more.others s i (λ d f. omega arith) ∙ all s i (omega arith))
          (λ (ne : s ≡ x.message.stream_identifier → ⊥).
          let a = off_put from x.message.stream_identifier s (suc last) ne in
          more.others s i (λ d f. ne d) ∙ all s i (omega arith))
          (cases_eq s x.message.stream_identifier)
  unsent_push from numbers (y ∷ ys) l h (i, u, us) = (
    i,
    record {
      waits = u.waits;
      begun = u.begun;
      is =
          same_before y.message.stream_identifier i i more u.is (omega arith) ∙ u.is;
      past = u.past;
      next = λ j past before.
          same_before y.message.stream_identifier i j more u.is (omega arith) ∙ u.next j past before;
    },
    unsent_push (put from y.message.stream_identifier (suc i)) (numbers_past numbers y.message) ys further
        (subst (λ (b : Bool).
        IsWaiting n p last
        (number_at (numbers_after (cond b numbers (numbers_past numbers y.message)) ys) x.message) 0 x) u.begun h)
        us,
  )
    where
      further : put from y.message.stream_identifier (suc i) x.message.stream_identifier ≤ last
      further = ⊎_elim
          (λ (e : x.message.stream_identifier ≡ y.message.stream_identifier).
          let a = at_put from y.message.stream_identifier x.message.stream_identifier (suc i) e in
          let b = more.below i (subst (λ z. unsent z i ≡ true) (sym e) u.is) in
          omega arith)
          (λ (ne : x.message.stream_identifier ≡ y.message.stream_identifier → ⊥).
          let a = off_put from y.message.stream_identifier x.message.stream_identifier (suc i) ne in
          omega arith)
          (cases_eq x.message.stream_identifier y.message.stream_identifier)

  -- It waits behind all that waits.
  pub waiting_push : (numbers : ℕ → ℕ) (current : Option Place) (xs : List Waiting)
      → IsWaiting n p last (number_at (numbers_after numbers xs) x.message) 0 x
      → AreWaiting n p unsent numbers current xs → AreWaiting n p now numbers current (xs ++ x ∷ [])
  waiting_push numbers None xs h all = unsent_push (λ s. 0) numbers xs (omega arith) h all
  waiting_push numbers (Some y) [] h all = absurd all
  waiting_push numbers (Some y) (z ∷ zs) h (g, all) = (
    g,
    unsent_push (λ s. 0) numbers zs (omega arith)
        (subst (λ (b : Bool).
        IsWaiting n p last
        (number_at (numbers_after (cond b numbers (numbers_past numbers z.message)) zs) x.message) 0 x) g.begun h)
        all,
  )
