-- How begun messages are counted is kept by every event.
use Rattle.std.proofs.Common.{ℕ, suc, ◌<◌, ◌≤◌, ◌≡◌, ◌⊎◌, Bool, true, false, not, cond, eqb, ltb, ◌&&◌, List}
use Rattle.std.proofs.Common.{[], ◌∷◌, ◌++◌, length, get_or, Option, Some, None, refl, sym, ap, ◌∙◌, subst, inl, inr}
use Rattle.std.proofs.Common.{⊎_elim, arith}
use Rattle.std.specs.Prelude.{slice_get}
use Rattle.std.proofs.lemmas.Bool.{and_parts, cases_eq, cases_lt, cond_both, eqb-true, eq-eqb}
use Rattle.std.proofs.lemmas.Bool.{lt-ltb, ltb-true, not-true, or_cases, true≢false}
use Rattle.sctp_model.specs.Messages.{Message, Place, Plan, as_kept, message_at, no_message}
use Rattle.sctp_model.specs.Packets.{Data, Forward, Sack, data_at}
use Rattle.sctp_model.specs.Reassembly.{Queue, Taken, next}
use Rattle.sctp_model.specs.Machine as machine
use Rattle.sctp_model.specs.Machine.{Direction, Event, Sender, acknowledged_by, begin, begin_if, can_abandon, can_begin}
use Rattle.sctp_model.specs.Machine.{can_drop, can_pass_over, can_resend, can_restart, counted, data_comes, dropped}
use Rattle.sctp_model.specs.Machine.{first_place, forward_comes, go_on, gone_front, happens, has_message, is_new}
use Rattle.sctp_model.specs.Machine.{is_of, is_unsent, left, marked, number_for, passed_over, passes, put, put_2, read}
use Rattle.sctp_model.specs.Machine.{sack_comes, sent, tail_marked, took, was_read, with_message, written}
use Rattle.sctp_model.specs.Invariants.{Invariant}
use Rattle.sctp_model.proofs.PlansGrow.{IsExtended, at_put, message_extended, off_put}
use Rattle.sctp_model.proofs.SenderEvents.{gone_cases, gone_more}
use Rattle.sctp_fit.specs.Growth.{EventsKeepTheCount}
use Rattle.sctp_fit.specs.Outgoing.{CountsBegun}

-- `CountsBegun` of the parts that it speaks of; what is accepted below the next number was begun or given up.
record BegunIsCounted (accepted : ℕ → List Message) (next : ℕ → ℕ) (begun gone : ℕ → ℕ → Bool) : Type 0 where
  known : (s i : ℕ) → begun s i ≡ true → i < length (accepted s)
  below : (s i : ℕ) → begun s i ≡ true → (get_or (accepted s) i no_message).ordered ≡ true → i < next s
  behind : (s i : ℕ) → i < next s → i < length (accepted s) → (get_or (accepted s) i no_message).ordered ≡ true
      → (begun s i ≡ true) ⊎ (gone s i ≡ true)

-- three tests of which the first holds and the whole fails
tests_fail : (a b c : Bool) → a ≡ true → (a && (not b && not c)) ≡ false → (b ≡ true) ⊎ (c ≡ true)
tests_fail true true c e f = inl refl
tests_fail true false true e f = inr refl
tests_fail true false false e f = absurd (true≢false f)
tests_fail false b c e f = absurd (true≢false (sym e))

tests_refused : (a b c : Bool) → (a ≡ true → (b ≡ true) ⊎ (c ≡ true)) → (a && (not b && not c)) ≡ false
tests_refused true true c h = refl
tests_refused true false true h = refl
tests_refused true false false h =
    absurd (⊎_elim (λ (e : false ≡ true). true≢false (sym e)) (λ (e : false ≡ true). true≢false (sym e)) (h refl))
tests_refused false b c h = refl

counts_of : (x : Sender) → CountsBegun x → BegunIsCounted x.plan.accepted x.next x.begun x.gone
counts_of x h = record {
  known = h.accepted;
  below = h.below;
  behind = λ s i l k o.
      tests_fail (has_message x.plan s i) (x.begun s i) (x.gone s i) (lt-ltb i (length (x.plan.accepted s)) k)
      (h.behind s i l o);
}

counts_begun : (x : Sender) → BegunIsCounted x.plan.accepted x.next x.begun x.gone → CountsBegun x
counts_begun x h = record {
  accepted = h.known;
  below = h.below;
  behind = λ s i l o.
      tests_refused (has_message x.plan s i) (x.begun s i) (x.gone s i)
      (λ (k : has_message x.plan s i ≡ true). h.behind s i l (ltb-true i (length (x.plan.accepted s)) k) o);
}

-- more is given up
counts_gone : (accepted : ℕ → List Message) (next : ℕ → ℕ) (begun gone gone' : ℕ → ℕ → Bool)
    → ((s i : ℕ) → gone s i ≡ true → gone' s i ≡ true) → BegunIsCounted accepted next begun gone
    → BegunIsCounted accepted next begun gone'
counts_gone accepted next begun gone gone' more h = record {
  known = h.known;
  below = h.below;
  behind = λ s i l k o. ⊎_elim (λ (b : begun s i ≡ true). inl b) (λ (g : gone s i ≡ true). inr (more s i g))
      (h.behind s i l k o);
}

-- more is accepted, and the next number is not past what was
counts_written : (p q : Plan) (e : IsExtended p q) (next : ℕ → ℕ) (begun gone : ℕ → ℕ → Bool)
    → ((s : ℕ) → next s ≤ length (p.accepted s)) → BegunIsCounted p.accepted next begun gone
    → BegunIsCounted q.accepted next begun gone
counts_written p q e next begun gone within h = record {
  known = λ s i b. let k = h.known s i b in let l = e.longer s in omega arith;
  below = λ s i b o.
      h.below s i b (sym (ap (λ (m : Message). m.ordered) (e.messages s i (h.known s i b))) ∙ o);
  behind = λ s i l k o.
      let w = within s in
      let a : i < length (p.accepted s) = omega arith in
      h.behind s i l a (sym (ap (λ (m : Message). m.ordered) (e.messages s i a)) ∙ o);
}

-- The next number of a stream moves by one.
next_cases : (next : ℕ → ℕ) (s t i : ℕ) → i < put next s (suc (next s)) t → (i < next t) ⊎ ((t ≡ s) × (i ≡ next s))
next_cases next s t i l = ⊎_elim
    (λ (e : t ≡ s).
    let k : i < suc (next s) = subst (λ z. i < z) (at_put next s t (suc (next s)) e) l in
    ⊎_elim
    (λ (a : i < next s). inl (subst (λ z. i < next z) (sym e) a))
    (λ (a : next s ≤ i). inr (e, omega arith))
    (cases_lt i (next s)))
    (λ (ne : t ≡ s → ⊥). inl (subst (λ z. i < z) (off_put next s t (suc (next s)) ne) l))
    (cases_eq t s)

next_more : (next : ℕ → ℕ) (s t i : ℕ) → i < next t → i < put next s (suc (next s)) t
next_more next s t i l = ⊎_elim
    (λ (e : t ≡ s).
    subst (λ z. i < z) (sym (at_put next s t (suc (next s)) e))
    (let k : i < next s = subst (λ z. i < next z) e l in omega arith))
    (λ (ne : t ≡ s → ⊥). subst (λ z. i < z) (sym (off_put next s t (suc (next s)) ne)) l)
    (cases_eq t s)

-- the message at the next number is unordered, or was given up
counts_passed : (accepted : ℕ → List Message) (next : ℕ → ℕ) (begun gone : ℕ → ℕ → Bool) (s : ℕ)
    → ((get_or (accepted s) (next s) no_message).ordered ≡ true → gone s (next s) ≡ true)
    → BegunIsCounted accepted next begun gone
    → BegunIsCounted accepted (put next s (suc (next s))) begun gone
counts_passed accepted next begun gone s there h = record {
  known = h.known;
  below = λ t i b o. next_more next s t i (h.below t i b o);
  behind = λ t i l k o. ⊎_elim
      (λ (a : i < next t). h.behind t i a k o)
      (λ (a : (t ≡ s) × (i ≡ next s)).
      inr (subst (λ z. gone z i ≡ true) (sym a.0) (subst (λ z. gone s z ≡ true) (sym a.1)
      (there (subst (λ z. (get_or (accepted s) z no_message).ordered ≡ true) a.1
      (subst (λ z. (get_or (accepted z) i no_message).ordered ≡ true) a.0 o))))))
      (next_cases next s t i l);
}

-- Message i of stream s begins: where it is ordered, it is the next one, and the next number moves past it.
module _ (accepted : ℕ → List Message) (next : ℕ → ℕ) (begun gone : ℕ → ℕ → Bool) (s i : ℕ)
    (accepts : i < length (accepted s)) (h : BegunIsCounted accepted next begun gone) where
  -- what is begun then was accepted
  known_then : (t j : ℕ) → put_2 begun s i t j ≡ true → j < length (accepted t)
  known_then t j b = ⊎_elim
      (λ (a : (t ≡ s) × (j ≡ i)). subst (λ z. j < length (accepted z)) (sym a.0)
      (subst (λ z. z < length (accepted s)) (sym a.1) accepts))
      (λ (a : begun t j ≡ true). h.known t j a)
      (gone_cases begun s i t j b)

  counts_unordered : (get_or (accepted s) i no_message).ordered ≡ false
      → BegunIsCounted accepted next (put_2 begun s i) gone
  counts_unordered unordered = record {
    known = known_then;
    below = λ t j b o. ⊎_elim
        (λ (a : (t ≡ s) × (j ≡ i)).
        absurd (true≢false (sym o ∙ ap (λ z. (get_or (accepted z) j no_message).ordered) a.0
        ∙ ap (λ z. (get_or (accepted s) z no_message).ordered) a.1 ∙ unordered)))
        (λ (a : begun t j ≡ true). h.below t j a o)
        (gone_cases begun s i t j b);
    behind = λ t j l k o. ⊎_elim
        (λ (a : begun t j ≡ true). inl (gone_more begun s i t j a)) (λ (a : gone t j ≡ true). inr a)
        (h.behind t j l k o);
  }

  counts_ordered : i ≡ next s → BegunIsCounted accepted (put next s (suc i)) (put_2 begun s i) gone
  counts_ordered is =
      subst (λ z. BegunIsCounted accepted (put next s (suc z)) (put_2 begun s i) gone) (sym is) (record {
        known = known_then;
        below = λ t j b o. ⊎_elim
            (λ (a : (t ≡ s) × (j ≡ i)).
            subst (λ z. j < z) (sym (at_put next s t (suc (next s)) a.0)) (let k = a.1 in omega arith))
            (λ (a : begun t j ≡ true). next_more next s t j (h.below t j a o))
            (gone_cases begun s i t j b);
        behind = λ t j l k o. ⊎_elim
            (λ (a : j < next t). ⊎_elim
            (λ (b : begun t j ≡ true). inl (gone_more begun s i t j b)) (λ (g : gone t j ≡ true). inr g)
            (h.behind t j a k o))
            (λ (a : (t ≡ s) × (j ≡ next s)). inl (here t j a.0 (a.1 ∙ sym is)))
            (next_cases next s t j l);
      })
    where
      here : (t j : ℕ) → t ≡ s → j ≡ i → put_2 begun s i t j ≡ true
      here t j a b = rw (eq-eqb t s a, eq-eqb j i b) refl

-- Events at the sender

count_write : (w : Direction) (s : ℕ) (m : Message) → Invariant w → CountsBegun w.sender
    → CountsBegun (written w.sender s (as_kept m))
count_write w s m inv h =
    counts_begun (written w.sender s (as_kept m))
    (counts_written w.sender.plan (with_message w.sender.plan s (as_kept m))
    (message_extended w.sender.plan s (as_kept m) inv.planned.known) w.sender.next w.sender.begun w.sender.gone
    inv.sending.within (counts_of w.sender h))

count_pass_over : (x : Sender) (s : ℕ) → can_pass_over x s ≡ true → CountsBegun x → CountsBegun (passed_over x s)
count_pass_over x s can h =
    counts_begun (passed_over x s)
    (counts_passed x.plan.accepted x.next x.begun x.gone s (λ o. ⊎_elim
    (λ (b : not (message_at x.plan s (x.next s)).ordered ≡ true). absurd (true≢false (sym o ∙ not-true _ b)))
    (λ (g : x.gone s (x.next s) ≡ true). g)
    (or_cases _ _ (and_parts (has_message x.plan s (x.next s)) _ can).1)) (counts_of x h))

count_begin : (x : Sender) (s i number : ℕ) → can_begin x s i ≡ true → CountsBegun x
    → (b : Bool) → (message_at x.plan s i).ordered ≡ b
    → CountsBegun (counted (sent x (first_place s i number)) s i b)
count_begin x s i number can h true o =
    counts_begun (counted (sent x (first_place s i number)) s i true)
    (counts_ordered x.plan.accepted x.next x.begun x.gone s i accepts (counts_of x h) due)
  where
    accepts : i < length (x.plan.accepted s)
    accepts = ltb-true _ _ (and_parts (has_message x.plan s i) _ (and_parts (is_unsent x s i) _ can).0).0

    due : i ≡ x.next s
    due = ⊎_elim
        (λ (b : not (message_at x.plan s i).ordered ≡ true). absurd (true≢false (sym o ∙ not-true _ b)))
        (λ (b : eqb i (x.next s) ≡ true). eqb-true _ _ b)
        (or_cases _ _ (and_parts (is_unsent x s i) _ can).1)
count_begin x s i number can h false o =
    counts_begun (counted (sent x (first_place s i number)) s i false)
    (counts_unordered x.plan.accepted x.next x.begun x.gone s i accepts (counts_of x h) o)
  where
    accepts : i < length (x.plan.accepted s)
    accepts = ltb-true _ _ (and_parts (has_message x.plan s i) _ (and_parts (is_unsent x s i) _ can).0).0

count_drop : (x : Sender) (s i : ℕ) → CountsBegun x → CountsBegun (dropped x s i)
count_drop x s i h =
    counts_begun (dropped x s i)
    (counts_gone x.plan.accepted x.next x.begun x.gone (put_2 x.gone s i) (gone_more x.gone s i) (counts_of x h))

count_up : (x : Sender) (s i : ℕ) → CountsBegun x → CountsBegun (left x s i)
count_up x s i h =
    counts_begun (left x s i)
    (counts_gone x.plan.accepted x.next x.begun x.gone (put_2 x.gone s i) (gone_more x.gone s i) (counts_of x h))

-- a message that is abandoned is given up, and where its tail was marked, nothing else of this changed
count_left : (x : Sender) (s i : ℕ) (c : Option Place) → CountsBegun x → CountsBegun (left (tail_marked x s i c) s i)
count_left x s i None h = count_up x s i h
count_left x s i (Some y) h =
    cond_both (is_of y s i) (marked x y) x (λ (z : Sender). CountsBegun (left z s i))
    (λ b. counts_begun (left (marked x y) s i)
    (counts_gone x.plan.accepted x.next x.begun x.gone (put_2 x.gone s i) (gone_more x.gone s i) (counts_of x h)))
    (λ b. count_up x s i h)

begin_counts : (w : Direction) (s i any : ℕ) (c : Option Place) → CountsBegun w.sender
    → CountsBegun (begin_if w s i any c).sender
begin_counts w s i any None h =
    cond_both (can_begin w.sender s i) (begin w s i (number_for w.sender s i any)) w
    (λ (v : Direction). CountsBegun v.sender)
    (λ b. count_begin w.sender s i (number_for w.sender s i any) b h (message_at w.sender.plan s i).ordered refl)
    (λ b. h)
begin_counts w s i any (Some y) h = h

go_on_counts : (w : Direction) (c : Option Place) → CountsBegun w.sender → CountsBegun (go_on w c).sender
go_on_counts w None h = h
go_on_counts w (Some y) h = counts_begun (sent w.sender y) (counts_of w.sender h)

sack_counts : (w : Direction) (k : Option Sack) → CountsBegun w.sender → CountsBegun (sack_comes w k).sender
sack_counts w None h = h
sack_counts w (Some k) h =
    cond_both (ltb k.reach w.sender.reach) w (record w { sender = acknowledged_by w.sender k })
    (λ (v : Direction). CountsBegun v.sender)
    (λ b. h) (λ b. counts_begun (acknowledged_by w.sender k) (counts_of w.sender h))

-- Events at the receiver leave the sender.

data_counts : (w : Direction) (d : Option Data) → CountsBegun w.sender → CountsBegun (data_comes w d).sender
data_counts w None h = h
data_counts w (Some d) h =
    cond_both (w.receiver.is_open && is_new w.receiver d.offset) (record w { receiver = took w.receiver d }) w
    (λ (v : Direction). CountsBegun v.sender) (λ b. h) (λ b. h)

forward_counts : (w : Direction) (f : Option Forward) → CountsBegun w.sender → CountsBegun (forward_comes w f).sender
forward_counts w None h = h
forward_counts w (Some f) h =
    cond_both (w.receiver.is_open && ltb (machine.reach w.receiver) f.reach) (passes w f) w
    (λ (v : Direction). CountsBegun v.sender) (λ b. h) (λ b. h)

read_counts : (w : Direction) (s : ℕ) (q : Option Queue) → CountsBegun w.sender → CountsBegun (read w s q).sender
read_counts w s None h = h
read_counts w s (Some q) h =
    cond_both w.receiver.is_open (was_read w s (next q)) w (λ (v : Direction). CountsBegun v.sender)
    (λ b. given (next q)) (λ b. h)
  where
    given : (t : Option Taken) → CountsBegun (was_read w s t).sender
    given None = h
    given (Some t) = h

-- a change in place of which nothing may happen
either : (b : Bool) (v w : Direction) → (b ≡ true → CountsBegun v.sender) → CountsBegun w.sender
    → CountsBegun (cond b v w).sender
either b v w f h = cond_both b v w (λ (u : Direction). CountsBegun u.sender) f (λ c. h)

-- Each event keeps the count.
pub events_keep_the_count : EventsKeepTheCount
unfolding happens
events_keep_the_count w (Event.Write s m) inv h =
    cond_both (machine.is_empty m) w (record w { sender = written w.sender s (as_kept m) })
    (λ (v : Direction). CountsBegun v.sender) (λ b. h) (λ b. count_write w s m inv h)
events_keep_the_count w (Event.PassOver s) inv h =
    either (can_pass_over w.sender s) (record w { sender = passed_over w.sender s }) w
    (λ b. count_pass_over w.sender s b h) h
events_keep_the_count w (Event.Drop s i) inv h =
    either (can_drop w.sender s i) (record w { sender = dropped w.sender s i }) w (λ b. count_drop w.sender s i h) h
events_keep_the_count w (Event.Begin s i any) inv h = begin_counts w s i any w.sender.current h
events_keep_the_count w Event.GoOn inv h = go_on_counts w w.sender.current h
events_keep_the_count w (Event.Resend o) inv h =
    either (can_resend w.sender.plan o) (record w { datas = w.datas ++ data_at w.sender.plan o ∷ [] }) w (λ b. h) h
events_keep_the_count w (Event.Abandon s i) inv h =
    either (can_abandon w.sender s i) (record w { sender = machine.abandoned w.sender s i }) w
    (λ b. count_left w.sender s i w.sender.current h) h
events_keep_the_count w (Event.SackComes k) inv h = sack_counts w (slice_get w.sacks k) h
events_keep_the_count w Event.ForwardMade inv h =
    either (ltb 0 (length (gone_front w.sender)))
    (record w { forwards = w.forwards ++ machine.forward_of w.sender w.over ∷ [] }) w (λ b. h) h
events_keep_the_count w (Event.DataComes k) inv h = data_counts w (slice_get w.datas k) h
events_keep_the_count w Event.SackMade inv h = h
events_keep_the_count w (Event.ForwardComes k) inv h = forward_counts w (slice_get w.forwards k) h
events_keep_the_count w (Event.Open s) inv h = h
events_keep_the_count w (Event.Read s) inv h = read_counts w s (w.receiver.queues s) h
events_keep_the_count w Event.Close inv h = h
events_keep_the_count w (Event.End s) inv h = h
events_keep_the_count w (Event.Restart s) inv h =
    either (can_restart w s) (record w { sender = record w.sender { ssn = put w.sender.ssn s 0 } }) w
    (λ b. counts_begun (record w.sender { ssn = put w.sender.ssn s 0 }) (counts_of w.sender h)) h
events_keep_the_count w (Event.Replace s q) inv h =
    either (w.over s) (record w { receiver = record w.receiver { queues = put w.receiver.queues s q } }) w (λ b. h) h
