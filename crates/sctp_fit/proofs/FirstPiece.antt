-- The events by which a piece goes out: a message goes on or begins, and before an ordered one begins, the direction
-- passes over those before it that don't wait.
use Rattle.std.proofs.Common.{ℕ, zero, suc, ◌+◌, ◌<◌, ◌≤◌, ◌≡◌, Bool, true, false, not, eqb, ◌&&◌, ◌||◌, List, [], ◌∷◌}
use Rattle.std.proofs.Common.{◌++◌, length, Some, None, refl, sym, ap, ◌∙◌, ⊎_elim, if◌then◌else◌, arith}
use Rattle.std.specs.List.{AllByRecursion}
use Rattle.std.proofs.lemmas.Bool.{and_from, and_parts, cases_Bool, cases_eq, cases_lt, cond-false, cond-true, eq-eqb}
use Rattle.std.proofs.lemmas.Bool.{eqb-true, false_from_ne_true, lt-ltb, not-true, or_left, or_right}
use Rattle.std.proofs.lemmas.Bool.{true_from_ne_false, true≢false}
use Rattle.sctp_model.specs.Messages.{Place, message_at}
use Rattle.sctp_model.specs.Machine.{Direction, Event, Sender, begin, begin_if, counted, first_place, go_on, happens}
use Rattle.sctp_model.specs.Machine.{has_message, is_unsent, next_data, number_for, put, put_2, run, sent}
use Rattle.sctp_model.proofs.PlansGrow.{at_put, off_put}
use Rattle.sctp_fit.specs.Outgoing.{CountsBegun}
use Rattle.sctp_fit.specs.Sendings.{SendsNext}
use Rattle.sctp_fit.proofs.UnsentKept.{AreUnsentAlike}

-- Messages that are begun

pub off_put_2 : (f : ℕ → ℕ → Bool) (s i t j : ℕ) → (t ≡ s → j ≡ i → ⊥) → put_2 f s i t j ≡ f t j
off_put_2 f s i t j ne =
    cond-false (eqb t s && eqb j i) true (f t j) (false_from_ne_true _ (λ (b : (eqb t s && eqb j i) ≡ true).
    let c = and_parts (eqb t s) (eqb j i) b in ne (eqb-true t s c.0) (eqb-true j i c.1)))

pub at_put_2 : (f : ℕ → ℕ → Bool) (s i t j : ℕ) → t ≡ s → j ≡ i → put_2 f s i t j ≡ true
at_put_2 f s i t j a b =
    cond-true (eqb t s && eqb j i) true (f t j) (and_from (eqb t s) (eqb j i) (eq-eqb t s a) (eq-eqb j i b))

-- A message that was begun and isn't gone is no longer unsent, and each other one is as it was.
module _ (x : Sender) (s i : ℕ) where
  -- which messages are unsent once message i of stream s was begun
  abbrev pub unsent_then : ℕ → ℕ → Bool
  unsent_then t j = has_message x.plan t j && (not (put_2 x.begun s i t j) && not (x.gone t j))

  unsent_aside : (t j : ℕ) → (t ≡ s → j ≡ i → ⊥) → unsent_then t j ≡ is_unsent x t j
  unsent_aside t j ne =
      ap (λ b. has_message x.plan t j && (not b && not (x.gone t j))) (off_put_2 x.begun s i t j ne)

  unsent_here : (t j : ℕ) → t ≡ s → j ≡ i → unsent_then t j ≡ false
  unsent_here t j a b =
      false_from_ne_true _ (λ (c : unsent_then t j ≡ true).
      let d = (and_parts (has_message x.plan t j) (not (put_2 x.begun s i t j) && not (x.gone t j)) c).1 in
      let e = (and_parts (not (put_2 x.begun s i t j)) (not (x.gone t j)) d).0 in
      true≢false (sym (at_put_2 x.begun s i t j a b) ∙ not-true _ e))

  -- where none before it is unsent, from there on the same are, but for it
  pub alike_begun : ((j : ℕ) → j < i → is_unsent x s j ≡ false)
      → AreUnsentAlike (is_unsent x) unsent_then (put (λ t. 0) s (suc i)) (λ t. 0)
  alike_begun none = record { lower = λ t. omega arith; below = below; same = same }
    where
      below : (t j : ℕ) → 0 ≤ j → j < put (λ u. 0) s (suc i) t → unsent_then t j ≡ false
      below t j z l = ⊎_elim
          (λ (e : t ≡ s). let c = at_put (λ u. 0) s t (suc i) e in ⊎_elim
          (λ (b : j < i). unsent_aside t j (λ v k. omega arith) ∙ ap (λ u. is_unsent x u j) e ∙ none j b)
          (λ (b : i ≤ j). unsent_here t j e (omega arith))
          (cases_lt j i))
          (λ (ne : t ≡ s → ⊥). let c = off_put (λ u. 0) s t (suc i) ne in absurd (omega arith))
          (cases_eq t s)

      same : (t j : ℕ) → put (λ u. 0) s (suc i) t ≤ j → unsent_then t j ≡ is_unsent x t j
      same t j l =
          unsent_aside t j (λ (e : t ≡ s). λ (k : j ≡ i). let c = at_put (λ u. 0) s t (suc i) e in omega arith)

-- Messages that are passed over

-- the direction, with its search for the next ordered messages so far
abbrev pub with_next : Direction → (ℕ → ℕ) → Direction
with_next w next = record w { sender = (let v = w.sender in record v { next = next }) }

-- message j of stream s may be passed over
abbrev pub is_passable : Sender → ℕ → ℕ → Bool
is_passable x s j = has_message x.plan s j && (not (message_at x.plan s j).ordered || x.gone s j)

-- an ordered message that isn't unsent, from the next one on, is gone
pub passable : (x : Sender) (s j : ℕ) → CountsBegun x → j < length (x.plan.accepted s) → is_unsent x s j ≡ false
    → x.next s ≤ j → is_passable x s j ≡ true
passable x s j h l none past =
    and_from _ _ has (⊎_elim
    (λ (g : x.gone s j ≡ true). or_right (not (message_at x.plan s j).ordered) (x.gone s j) g)
    (λ (g : x.gone s j ≡ false). or_left (not (message_at x.plan s j).ordered) (x.gone s j)
    (ap not (false_from_ne_true _ (λ (o : (message_at x.plan s j).ordered ≡ true).
    let b = h.below s j (begun g) o in omega arith))))
    (cases_Bool (x.gone s j)))
  where
    has : has_message x.plan s j ≡ true
    has = lt-ltb _ _ l

    begun : x.gone s j ≡ false → x.begun s j ≡ true
    begun g =
        true_from_ne_false _ (λ (b : x.begun s j ≡ false).
        true≢false (sym (and_from _ _ has (and_from _ _ (ap not b) (ap not g))) ∙ none))

happens_pass_over : (w : Direction) (s : ℕ) (next : ℕ → ℕ) → is_passable w.sender s (next s) ≡ true
    → happens (with_next w next) (Event.PassOver s) ≡ with_next w (put next s (suc (next s)))
unfolding happens
happens_pass_over w s next h =
    cond-true (is_passable w.sender s (next s)) (with_next w (put next s (suc (next s)))) (with_next w next) h

-- Events that pass over messages of a stream, and then one that sends.
pub record PassesTo (w : Direction) (next : ℕ → ℕ) (last : Event) : Type 0 where
  pub events : List Event
  pub after : ℕ → ℕ
  pub sends : AllByRecursion SendsNext events
  pub leads : run events (with_next w next) ≡ happens (with_next w after) last

module _ (w : Direction) (s i : ℕ) (last : Event) (k : SendsNext last) where
  -- the messages of stream s before number i are passed over
  pub passes : (n : ℕ) (next : ℕ → ℕ) → next s + n ≡ i
      → ((j : ℕ) → next s ≤ j → j < i → is_passable w.sender s j ≡ true)
      → (r : PassesTo w next last) × (r.after s ≡ i)
  passes zero next e pass = (
    record { events = last ∷ []; after = next; sends = (k, tt); leads = refl },
    (let l : next s ≡ i = omega (arith, e) in l),
  )
  passes (suc n) next e pass =
      let one = at_put next s s (suc (next s)) refl in
      let r =
      passes n (put next s (suc (next s))) (omega arith) (λ j l b. pass j (omega arith) b) in (
        record {
          events = Event.PassOver s ∷ (r.0).events;
          after = (r.0).after;
          sends = (tt, (r.0).sends);
          leads =
              ap (run (r.0).events) (happens_pass_over w s next (pass (next s) (omega arith) (omega arith)))
              ∙ (r.0).leads;
        },
        r.1,
      )

-- A piece goes out

-- by stream the number of the next ordered message, its sequence number, and which messages are begun
pub record Counters : Type 0 where
  pub next : ℕ → ℕ
  pub ssn : ℕ → ℕ
  pub begun : ℕ → ℕ → Bool

abbrev pub counters_of : Sender → Counters
counters_of x = record { next = x.next; ssn = x.ssn; begun = x.begun }

-- the direction once the piece of the place y went out, with these counters
abbrev pub with_piece : Direction → Place → Counters → Direction
with_piece w y c = record w {
  sender = (let v = sent w.sender y in record v { next = c.next; ssn = c.ssn; begun = c.begun });
  datas = w.datas ++ next_data w.sender y ∷ [];
}

-- message i of stream s begins; `any` is its number if it is unordered
module _ (w : Direction) (s i any : ℕ) (next : ℕ → ℕ) (c : w.sender.current ≡ None)
    (is : is_unsent w.sender s i ≡ true) where
  pub happens_begin : (unordered : Bool) → unordered ≡ not (message_at w.sender.plan s i).ordered
      → (unordered ≡ false → next s ≡ i)
      → (after : ℕ → ℕ) × (happens (with_next w next) (Event.Begin s i any)
      ≡ with_piece w (first_place s i (if unordered then any else w.sender.ssn s)) (record {
        next = after;
        ssn = if unordered then w.sender.ssn else put w.sender.ssn s (suc (w.sender.ssn s));
        begun = put_2 w.sender.begun s i;
      }))
  unfolding happens
  happens_begin true u due =
      let o : (message_at w.sender.plan s i).ordered ≡ false =
      false_from_ne_true _ (λ (b : (message_at w.sender.plan s i).ordered ≡ true). true≢false (u ∙ ap not b)) in (
        next,
        ap (begin_if (with_next w next) s i any) c
            ∙ cond-true _ (begin (with_next w next) s i (number_for w.sender s i any)) (with_next w next)
            (and_from _ _ is (or_left (not (message_at w.sender.plan s i).ordered) (eqb i (next s)) (ap not o)))
            ∙ ap (begin (with_next w next) s i) (cond-false _ (w.sender.ssn s) any o)
            ∙ ap
            (λ (b : Bool). record w {
              sender = counted (sent (with_next w next).sender (first_place s i any)) s i b;
              datas = w.datas ++ next_data w.sender (first_place s i any) ∷ [];
            }) o,
      )
  happens_begin false u due =
      let o : (message_at w.sender.plan s i).ordered ≡ true =
      true_from_ne_false _ (λ (b : (message_at w.sender.plan s i).ordered ≡ false).
      true≢false (sym (u ∙ ap not b))) in (
        put next s (suc i),
        ap (begin_if (with_next w next) s i any) c
            ∙ cond-true _ (begin (with_next w next) s i (number_for w.sender s i any)) (with_next w next)
            (and_from _ _ is
            (or_right (not (message_at w.sender.plan s i).ordered) (eqb i (next s))
            (eq-eqb i (next s) (sym (due refl)))))
            ∙ ap (begin (with_next w next) s i) (cond-true _ (w.sender.ssn s) any o)
            ∙ ap
            (λ (b : Bool). record w {
              sender = counted (sent (with_next w next).sender (first_place s i (w.sender.ssn s))) s i b;
              datas = w.datas ++ next_data w.sender (first_place s i (w.sender.ssn s)) ∷ [];
            }) o,
      )

pub happens_go_on : (w : Direction) (y : Place) → w.sender.current ≡ Some y
    → happens w Event.GoOn ≡ with_piece w y (counters_of w.sender)
unfolding happens
happens_go_on w y c = ap (go_on w) c
