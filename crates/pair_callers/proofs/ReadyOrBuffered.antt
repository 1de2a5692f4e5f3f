-- What waits to be read is what came, and what did not come is still buffered.
use Rattle.std.proofs.Common.{◌≡◌, refl, sym, ap, ◌∙◌, subst, ℕ, zero, suc, ◌≤◌, arith, true, false, List, []}
use Rattle.std.proofs.Common.{◌∷◌, ◌++◌, length, map, take}
use Rattle.std.specs.Prelude.{IfSome, Ok}
use Rattle.std.proofs.Common.{⊎_elim}
use Rattle.std.proofs.lemmas.Bool.{cases_Bool}
use Rattle.std.proofs.lemmas.List.{map-append}
use Rattle.sctp_model.specs.Messages.{Message}
use Rattle.sctp_model.specs.Machine.{Direction, live}
use Rattle.sctp_model.specs.Reassembly.{Got, ready}
use Rattle.sctp_model.specs.Safe.{IsPrefix, IsSafe, Letter, letter_read, letter_written, letters_written}
use Rattle.sctp_model.specs.Safe.{read_or_ready}
use Rattle.sctp_assoc.specs.Calls.{buffered_of}
use Rattle.sctp_assoc.specs.Shown.{Shown}
use Rattle.sctp_assoc.specs.declared.call.Reply.{Reply}
use Rattle.sctp_assoc.specs.declared.call.Reply.TheVariants as replies
use Rattle.sctp_assoc.proofs.Replied.{buffers_same}
use Rattle.sctp_steps.specs.declared.step.Side2.{Side2}
use Rattle.sctp_steps.specs.declared.step.Side2.TheVariants as sides
use Rattle.sctp_steps.specs.declared.step.Step.{Step}
use Rattle.sctp_steps.specs.declared.step.Step.TheVariants as steps
use Rattle.sctp_steps.specs.Ends.{Ends, end_of}
use Rattle.sctp_assoc.specs.Replies.{Buffers}
use Rattle.sctp_steps.specs.Steps.{Steps}
use Rattle.sctp_steps.specs.Seen.{IsOpen}
use Rattle.sctp_pair.specs.World.{IsPromised}
use Rattle.pair_callers.specs.BetweenWorlds.{GoesOnWithin, from_side, to_side}
use Rattle.pair_callers.specs.Reading.{letters_read}
use Rattle.pair_callers.specs.Buffering.{IsAllThatCame, IsAllToBeHad, IsFrontOfWhatCame, IsKept, IsReliable}
use Rattle.pair_callers.specs.Buffering.{KeepsWhatDidNotCome, amount_in, letters_ready}
use Rattle.pair_callers.proofs.StepsByDirection.{Leads, at_its_side, goes_on_within, promised_from, promised_to}
use Rattle.pair_callers.proofs.ReadMessages.{tell_all}

-- What is ready at an open side

-- read, and then ready, in a reader's words
letters_then : (sender a : Shown) (w : Direction) (s : ℕ) → IsPromised sender a w → IsOpen a → w.over s ≡ false
    → map letter_read (read_or_ready w s) ≡ letters_read w s ++ letters_ready a s
letters_then sender a w s h o span =
    map-append letter_read (w.reads s) (ready (live (w.receiver.queues s)))
    ∙ ap (λ (xs : List Letter). letters_read w s ++ xs) (h.ready_is o s span)

all_that_came : (sender a : Shown) (w : Direction) (s : ℕ) → IsPromised sender a w → IsOpen a → IsKept w s
    → IsAllThatCame a w s
all_that_came sender a w s h o k =
    let x = (h.safe s k.kept.span).prefix k.ordered k.kept.reliable (h.opens o) in
    record {
      count = x.0;
      front = record { within = x.1.within; whole = x.1.whole; longest = x.1.longest };
      letters = sym (letters_then sender a w s h o k.kept.span) ∙ x.2;
    }

all_to_be_had : (sender a : Shown) (w : Direction) (s : ℕ) → IsPromised sender a w → IsOpen a → IsReliable w s
    → IsAllToBeHad a w s
all_to_be_had sender a w s h o k =
    let x = (h.safe s k.span).all k.reliable (h.opens o) in
    record {
      numbers = x.0;
      letters = sym (letters_then sender a w s h o k.span) ∙ tell_all w.sender.plan w.receiver.taken s
          (read_or_ready w s) x.0 x.1.in_order.named;
      sound = x.1.sound;
      complete = x.1.complete;
    }

pub ready_on : (step : Step) (r : Reply) (p q : Ends) → Leads step r p q → (side : Side2) (s : ℕ)
    → IsOpen (end_of side q)
    → GoesOnWithin p q (λ w v. IsKept (to_side side v) s → IsAllThatCame (end_of side q) (to_side side v) s)
ready_on step r p q leads side s o =
    goes_on_within step r p q (λ w v. IsKept (to_side side v) s → IsAllThatCame (end_of side q) (to_side side v) s)
    (λ w v before after h safe k. subst (λ (e : Ends). IsAllThatCame (end_of side e) (to_side side v) s) after
    (all_that_came _ (end_of side v.ends) (to_side side v) s (promised_to side v safe)
    (subst (λ (e : Ends). IsOpen (end_of side e)) (sym after) o) k)) leads

pub mixed_on : (step : Step) (r : Reply) (p q : Ends) → Leads step r p q → (side : Side2) (s : ℕ)
    → IsOpen (end_of side q)
    → GoesOnWithin p q (λ w v. IsReliable (to_side side v) s → IsAllToBeHad (end_of side q) (to_side side v) s)
mixed_on step r p q leads side s o =
    goes_on_within step r p q (λ w v. IsReliable (to_side side v) s → IsAllToBeHad (end_of side q) (to_side side v) s)
    (λ w v before after h safe k. subst (λ (e : Ends). IsAllToBeHad (end_of side e) (to_side side v) s) after
    (all_to_be_had _ (end_of side v.ends) (to_side side v) s (promised_to side v safe)
    (subst (λ (e : Ends). IsOpen (end_of side e)) (sym after) o) k)) leads

-- What was read, at an open side or not

is_front : (xs ys : List Letter) (count : ℕ) (ms : List Message) → xs ++ ys ≡ map letter_written (take count ms)
    → (length xs ≤ count) × (xs ≡ map letter_written (take (length xs) ms))
is_front [] ys count ms e = (omega arith, refl)
is_front (x ∷ xs) ys zero ms e = absurd (cc)
is_front (x ∷ xs) ys (suc count) [] e = absurd (cc)
is_front (x ∷ xs) ys (suc count) (m ∷ ms) e =
    let head : x ≡ letter_written m = cc in
    let tail : xs ++ ys ≡ map letter_written (take count ms) = cc in
    let rest = is_front xs ys count ms tail in
    (omega (arith, rest.0), cc)

front_of_open : (w : Direction) (s count : ℕ) → IsPrefix w.sender.plan w.receiver.taken s count
    → map letter_read (read_or_ready w s) ≡ letters_written w.sender.plan s count → IsFrontOfWhatCame w s
front_of_open w s count x e =
    let rest : List Got = ready (live (w.receiver.queues s)) in
    let f = is_front (letters_read w s) (map letter_read rest) count (w.sender.plan.accepted s)
    (sym (map-append letter_read (w.reads s) rest) ∙ e) in
    record { count = length (letters_read w s); whole = λ i lt. x.whole i (omega (arith, f.0, lt)); letters = f.1 }

pub front_of : (w : Direction) (s : ℕ) → IsSafe w s → IsKept w s → IsFrontOfWhatCame w s
front_of w s safe k =
    ⊎_elim
    (λ (o : w.receiver.is_open ≡ true). let x = safe.prefix k.ordered k.kept.reliable o in front_of_open w s x.0 x.1
    x.2)
    (λ (o : w.receiver.is_open ≡ false).
    let x = safe.front k.ordered k.kept.reliable o in
    record { count = x.1; whole = λ i lt. x.2.whole i (let le = x.3 in omega (arith, le, lt)); letters = x.4 })
    (cases_Bool w.receiver.is_open)

pub front_on : (step : Step) (r : Reply) (p q : Ends) → Leads step r p q → (side : Side2) (s : ℕ)
    → GoesOnWithin p q (λ w v. IsKept (to_side side v) s → IsFrontOfWhatCame (to_side side v) s)
front_on step r p q leads side s =
    goes_on_within step r p q (λ w v. IsKept (to_side side v) s → IsFrontOfWhatCame (to_side side v) s)
    (λ w v before after h safe k. front_of (to_side side v) s ((promised_to side v safe).safe s k.kept.span) k) leads

-- What is buffered

-- a question changes nothing
pub asked_same : (side : Side2) (id : ℕ) (r : Reply) (p q : Ends) → Steps (steps.BufferedAmount side id) p r q → q ≡ p
asked_same sides.A id r p q h =
    h.1 ∙ ap (λ (a : Shown). let x : Ends = record p { a = a } in x) (buffers_same p.a id r q.a h.0)
asked_same sides.B id r p q h =
    h.1 ∙ ap (λ (b : Shown). let x : Ends = record p { b = b } in x) (buffers_same p.b id r q.b h.0)

pub amount_told : (side : Side2) (id : ℕ) (r : Reply) (p q : Ends) → Steps (steps.BufferedAmount side id) p r q
    → IfSome (amount_in r) (λ n. buffered_of (end_of side p) id ≡ Ok n)
amount_told side id (replies.BufferedAmount n) p q h =
    (at_its_side side p (λ (x y : Shown). Buffers x id (replies.BufferedAmount n) y) q h).0
amount_told side id _ p q h = tt

keeps : (a receiver : Shown) (w : Direction) (s n : ℕ) → IsPromised a receiver w → IsOpen a → IsReliable w s
    → buffered_of a s ≡ Ok n → KeepsWhatDidNotCome n w s
keeps a receiver w s n h o k e =
    let whole = h.released_is o s n k.span e in
    let bound = (h.safe s k.span).released k.reliable in
    omega (arith, whole, bound)

pub kept_on : (side : Side2) (id : ℕ) (r : Reply) (p q : Ends) → Steps (steps.BufferedAmount side id) p r q
    → Leads (steps.BufferedAmount side id) r p q
    → IfSome (amount_in r) (λ n. IsOpen (end_of side q) → GoesOnWithin p q (λ w v. IsReliable (from_side side v) id
    → KeepsWhatDidNotCome n (from_side side v) id))
kept_on side id (replies.BufferedAmount n) p q exact leads = λ o.
    goes_on_within (steps.BufferedAmount side id) (replies.BufferedAmount n) p q
    (λ w v. IsReliable (from_side side v) id → KeepsWhatDidNotCome n (from_side side v) id)
    (λ w v before after h safe k. keeps (end_of side v.ends) _ (from_side side v) id n (promised_from side v safe)
    (subst (λ (e : Ends). IsOpen (end_of side e)) (sym after) o) k
    (subst (λ (e : Ends). buffered_of (end_of side e) id ≡ Ok n) (sym (after ∙ asked_same side id
    (replies.BufferedAmount n) p q exact))
    (amount_told side id (replies.BufferedAmount n) p q exact))) leads
kept_on side id _ p q exact leads = tt
