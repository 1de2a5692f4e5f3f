-- The sender's events by their cases: what holds before one of them and after what it does where it can happen, holds
-- after it.
use Rattle.std.proofs.Common.{ℕ, ◌≤◌, ◌≡◌, Bool, true, false, ltb, length, [], ◌∷◌, ◌++◌, Option, Some, None, refl}
use Rattle.std.specs.Prelude.{slice_get}
use Rattle.std.proofs.lemmas.Bool.{cond_both, ltb-false}
use Rattle.sctp_model.specs.Messages.{Message, Place, as_kept, message_at}
use Rattle.sctp_model.specs.Packets.{Sack, data_at}
use Rattle.sctp_model.specs.Machine.{Direction, Event, abandoned, acknowledged_by, begin, begin_if, can_abandon}
use Rattle.sctp_model.specs.Machine.{can_begin, can_drop, can_pass_over, can_resend, counted, dropped, first_place}
use Rattle.sctp_model.specs.Machine.{forward_of, go_on, gone_front, happens, is_empty, is_of, left, marked, next_data}
use Rattle.sctp_model.specs.Machine.{number_for, passed_over, put_2, sack_comes, sent, tail_marked, written}

-- a message is written; a write of no bytes does nothing
pub write_cases : (P : Direction → Type 0) (w : Direction) (s : ℕ) (m : Message) → P w
    → P (record w { sender = written w.sender s (as_kept m) })
    → P (happens w (Event.Write s m))
unfolding happens
write_cases P w s m h f = cond_both (is_empty m) w (record w { sender = written w.sender s (as_kept m) }) P
    (λ b. h) (λ b. f)

-- a stream's next ordered message is looked for one number further
pub pass_over_cases : (P : Direction → Type 0) (w : Direction) (s : ℕ) → P w
    → (can_pass_over w.sender s ≡ true → P (record w { sender = passed_over w.sender s }))
    → P (happens w (Event.PassOver s))
unfolding happens
pass_over_cases P w s h f =
    cond_both (can_pass_over w.sender s) (record w { sender = passed_over w.sender s }) w P f (λ b. h)

-- a message is dropped unsent
pub drop_cases : (P : Direction → Type 0) (w : Direction) (s i : ℕ) → P w
    → (can_drop w.sender s i ≡ true → P (record w { sender = dropped w.sender s i }))
    → P (happens w (Event.Drop s i))
unfolding happens
drop_cases P w s i h f =
    cond_both (can_drop w.sender s i) (record w { sender = dropped w.sender s i }) w P f (λ b. h)

-- after a message's first piece: what is counted of its stream rests on whether it is ordered
abbrev pub with_begun : Direction → ℕ → ℕ → ℕ → (ℕ → ℕ) → (ℕ → ℕ) → Direction
with_begun w s i number next ssn = record w {
  sender = (let x = sent w.sender (first_place s i number) in
      record x { begun = put_2 w.sender.begun s i; next = next; ssn = ssn });
  datas = w.datas ++ next_data w.sender (first_place s i number) ∷ [];
}

-- a message's first piece gets the next offset
pub begin_cases : (P : Direction → Type 0) (w : Direction) (s i any : ℕ) → P w
    → ((number : ℕ) (next ssn : ℕ → ℕ) → P (with_begun w s i number next ssn))
    → P (happens w (Event.Begin s i any))
unfolding happens
begin_cases P w s i any h f = by_current w.sender.current
  where
    by_order : (number : ℕ) (b : Bool)
        → P (record w {
          sender = counted (sent w.sender (first_place s i number)) s i b;
          datas = w.datas ++ next_data w.sender (first_place s i number) ∷ [];
        })
    by_order number true = f number _ _
    by_order number false = f number w.sender.next w.sender.ssn

    by_current : (c : Option Place) → P (begin_if w s i any c)
    by_current None = cond_both (can_begin w.sender s i) (begin w s i (number_for w.sender s i any)) w P
        (λ b. by_order (number_for w.sender s i any) (message_at w.sender.plan s i).ordered) (λ b. h)
    by_current (Some y) = h

-- so does the next piece of the message that was begun
pub go_on_cases : (P : Direction → Type 0) (w : Direction) → P w
    → ((y : Place) → w.sender.current ≡ Some y
    → P (record w { sender = sent w.sender y; datas = w.datas ++ next_data w.sender y ∷ [] }))
    → P (happens w Event.GoOn)
unfolding happens
go_on_cases P w h f = by_current w.sender.current refl
  where
    by_current : (c : Option Place) → w.sender.current ≡ c → P (go_on w c)
    by_current None e = h
    by_current (Some y) e = f y e

-- a piece goes out again
pub resend_cases : (P : Direction → Type 0) (w : Direction) (o : ℕ) → P w
    → P (record w { datas = w.datas ++ data_at w.sender.plan o ∷ [] })
    → P (happens w (Event.Resend o))
unfolding happens
resend_cases P w o h f =
    cond_both (can_resend w.sender.plan o) (record w { datas = w.datas ++ data_at w.sender.plan o ∷ [] }) w P
    (λ b. f) (λ b. h)

-- a message is abandoned, of which nothing waits, or the rest of which gets one offset
pub abandon_cases : (P : Direction → Type 0) (w : Direction) (s i : ℕ) → P w
    → P (record w { sender = left w.sender s i })
    → ((y : Place) → P (record w { sender = left (marked w.sender y) s i }))
    → P (happens w (Event.Abandon s i))
unfolding happens
abandon_cases P w s i h f g =
    cond_both (can_abandon w.sender s i) (record w { sender = abandoned w.sender s i }) w P
    (λ b. by_current w.sender.current) (λ b. h)
  where
    by_current : (c : Option Place) → P (record w { sender = left (tail_marked w.sender s i c) s i })
    by_current None = f
    by_current (Some y) =
        cond_both (is_of y s i) (marked w.sender y) w.sender (λ z. P (record w { sender = left z s i }))
        (λ b. g y) (λ b. f)

-- a FORWARD TSN is made, where an abandoned message stands on the acknowledged reach
pub forward_made_cases : (P : Direction → Type 0) (w : Direction) → P w
    → P (record w { forwards = w.forwards ++ forward_of w.sender w.over ∷ [] })
    → P (happens w Event.ForwardMade)
unfolding happens
forward_made_cases P w h f =
    cond_both (ltb 0 (length (gone_front w.sender)))
    (record w { forwards = w.forwards ++ forward_of w.sender w.over ∷ [] }) w P (λ b. f) (λ b. h)

-- a SACK comes; one whose reach lies below the acknowledged one does nothing
pub sack_cases : (P : Direction → Type 0) (w : Direction) (k : ℕ) → P w
    → ((x : Sack) → slice_get w.sacks k ≡ Some x → w.sender.reach ≤ x.reach
    → P (record w { sender = acknowledged_by w.sender x }))
    → P (happens w (Event.SackComes k))
unfolding happens
sack_cases P w k h f = by_sack (slice_get w.sacks k) refl
  where
    by_sack : (x : Option Sack) → slice_get w.sacks k ≡ x → P (sack_comes w x)
    by_sack None e = h
    by_sack (Some x) e =
        cond_both (ltb x.reach w.sender.reach) w (record w { sender = acknowledged_by w.sender x }) P (λ b. h)
        (λ b. f x e (ltb-false _ _ b))
