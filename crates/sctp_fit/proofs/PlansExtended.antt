-- After an event at the sender the plan holds all that it held, and the receiver and the spans are as they were.
use Rattle.std.proofs.Common.{ℕ, ◌≡◌, Bool, true, false, ltb, List, [], ◌∷◌, ◌++◌, length, Option, Some, None, refl}
use Rattle.std.specs.Prelude.{slice_get}
use Rattle.std.proofs.lemmas.Bool.{cond_both}
use Rattle.sctp_model.specs.Messages.{Message, Place, as_kept, message_at}
use Rattle.sctp_model.specs.Packets.{Data, Forward, Sack, data_at}
use Rattle.sctp_model.specs.Machine.{Direction, Event, Sender, acknowledged_by, begin, begin_if, can_abandon}
use Rattle.sctp_model.specs.Machine.{can_begin, can_drop, can_pass_over, can_resend, counted, dropped, passed_over}
use Rattle.sctp_model.specs.Machine.{first_place, forward_of, gone_front, go_on, happens, is_of}
use Rattle.sctp_model.specs.Machine.{left, marked, next_data, number_for, sack_comes, sent, tail_marked, written}
use Rattle.sctp_model.specs.Invariants.{Invariant}
use Rattle.sctp_model.proofs.PlansGrow.{IsExtended, message_extended, place_extended}
use Rattle.sctp_model.proofs.SenderEvents.{same_plan}
use Rattle.sctp_fit.specs.Growth.{IsAtSender}

-- From w to v more was accepted or assigned at most, and the receiver and the spans stayed.
pub record IsGrownAlone (w v : Direction) : Type 0 where
  pub receiver : v.receiver ≡ w.receiver
  pub over : v.over ≡ w.over
  pub plan : IsExtended w.sender.plan v.sender.plan

module _ (w : Direction) (inv : Invariant w) where
  -- the sender changes, and what was given out
  grown : (x : Sender) (datas : List Data) (forwards : List Forward) → IsExtended w.sender.plan x.plan
      → IsGrownAlone w (record w { sender = x; datas = datas; forwards = forwards })
  grown x datas forwards e = record { receiver = refl; over = refl; plan = e }

  same : IsExtended w.sender.plan w.sender.plan
  same = same_plan w.sender.plan inv.planned.known

  unchanged : IsGrownAlone w w
  unchanged = grown w.sender w.datas w.forwards same

  grown_write : (s : ℕ) (m : Message) → IsGrownAlone w (happens w (Event.Write s m))
  unfolding happens
  grown_write s m = cond_both _ w (record w { sender = written w.sender s (as_kept m) }) (IsGrownAlone w)
      (λ b. unchanged)
      (λ b. grown (written w.sender s (as_kept m)) w.datas w.forwards
      (message_extended w.sender.plan s (as_kept m) inv.planned.known))

  grown_pass_over : (s : ℕ) → IsGrownAlone w (happens w (Event.PassOver s))
  unfolding happens
  grown_pass_over s =
      cond_both (can_pass_over w.sender s) (record w { sender = passed_over w.sender s }) w (IsGrownAlone w)
      (λ b. grown (passed_over w.sender s) w.datas w.forwards same) (λ b. unchanged)

  grown_drop : (s i : ℕ) → IsGrownAlone w (happens w (Event.Drop s i))
  unfolding happens
  grown_drop s i =
      cond_both (can_drop w.sender s i) (record w { sender = dropped w.sender s i }) w (IsGrownAlone w)
      (λ b. grown (dropped w.sender s i) w.datas w.forwards same) (λ b. unchanged)

  grown_counted : (s i number : ℕ) (b : Bool) (datas : List Data)
      → IsGrownAlone w
      (record w { sender = counted (sent w.sender (first_place s i number)) s i b; datas = datas })
  grown_counted s i number true datas =
      grown (counted (sent w.sender (first_place s i number)) s i true) datas w.forwards
      (place_extended w.sender.plan (first_place s i number) inv.planned.known)
  grown_counted s i number false datas =
      grown (counted (sent w.sender (first_place s i number)) s i false) datas w.forwards
      (place_extended w.sender.plan (first_place s i number) inv.planned.known)

  grown_begin : (s i any : ℕ) → IsGrownAlone w (happens w (Event.Begin s i any))
  unfolding happens
  grown_begin s i any = by_current w.sender.current
    where
      number : ℕ
      number = number_for w.sender s i any

      by_current : (c : Option Place) → IsGrownAlone w (begin_if w s i any c)
      by_current None = cond_both (can_begin w.sender s i) (begin w s i number) w (IsGrownAlone w)
          (λ b. grown_counted s i number (message_at w.sender.plan s i).ordered
          (w.datas ++ next_data w.sender (first_place s i number) ∷ []))
          (λ b. unchanged)
      by_current (Some y) = unchanged

  grown_go_on : IsGrownAlone w (happens w Event.GoOn)
  unfolding happens
  grown_go_on = by_current w.sender.current
    where
      by_current : (c : Option Place) → IsGrownAlone w (go_on w c)
      by_current None = unchanged
      by_current (Some y) = grown (sent w.sender y) (w.datas ++ next_data w.sender y ∷ []) w.forwards
          (place_extended w.sender.plan y inv.planned.known)

  grown_resend : (o : ℕ) → IsGrownAlone w (happens w (Event.Resend o))
  unfolding happens
  grown_resend o =
      cond_both (can_resend w.sender.plan o) (record w { datas = w.datas ++ data_at w.sender.plan o ∷ [] }) w
      (IsGrownAlone w)
      (λ b. grown w.sender (w.datas ++ data_at w.sender.plan o ∷ []) w.forwards same) (λ b. unchanged)

  -- a tail that is abandoned gets one offset at most
  grown_tail : (s i : ℕ) (c : Option Place) → IsExtended w.sender.plan (tail_marked w.sender s i c).plan
  grown_tail s i None = same
  grown_tail s i (Some y) =
      cond_both (is_of y s i) (marked w.sender y) w.sender (λ (x : Sender). IsExtended w.sender.plan x.plan)
      (λ b. place_extended w.sender.plan (record y { marker = true }) inv.planned.known) (λ b. same)

  grown_abandon : (s i : ℕ) → IsGrownAlone w (happens w (Event.Abandon s i))
  unfolding happens
  grown_abandon s i = cond_both (can_abandon w.sender s i) _ w (IsGrownAlone w)
      (λ b. grown (left (tail_marked w.sender s i w.sender.current) s i) w.datas w.forwards
      (grown_tail s i w.sender.current))
      (λ b. unchanged)

  grown_sack_comes : (k : ℕ) → IsGrownAlone w (happens w (Event.SackComes k))
  unfolding happens
  grown_sack_comes k = by_sack (slice_get w.sacks k)
    where
      by_sack : (x : Option Sack) → IsGrownAlone w (sack_comes w x)
      by_sack None = unchanged
      by_sack (Some x) =
          cond_both (ltb x.reach w.sender.reach) w (record w { sender = acknowledged_by w.sender x }) (IsGrownAlone w)
          (λ b. unchanged)
          (λ b. grown (acknowledged_by w.sender x) w.datas w.forwards same)

  grown_forward_made : IsGrownAlone w (happens w Event.ForwardMade)
  unfolding happens
  grown_forward_made =
      cond_both (ltb 0 (length (gone_front w.sender)))
      (record w { forwards = w.forwards ++ forward_of w.sender w.over ∷ [] }) w (IsGrownAlone w)
      (λ b. grown w.sender w.datas (w.forwards ++ forward_of w.sender w.over ∷ []) same) (λ b. unchanged)

-- Each event at the sender.
pub grown_by : (w : Direction) (e : Event) → IsAtSender e → Invariant w → IsGrownAlone w (happens w e)
grown_by w (Event.Write s m) at inv = grown_write w inv s m
grown_by w (Event.PassOver s) at inv = grown_pass_over w inv s
grown_by w (Event.Drop s i) at inv = grown_drop w inv s i
grown_by w (Event.Begin s i any) at inv = grown_begin w inv s i any
grown_by w Event.GoOn at inv = grown_go_on w inv
grown_by w (Event.Resend o) at inv = grown_resend w inv o
grown_by w (Event.Abandon s i) at inv = grown_abandon w inv s i
grown_by w (Event.SackComes k) at inv = grown_sack_comes w inv k
grown_by w Event.ForwardMade at inv = grown_forward_made w inv
grown_by w (Event.DataComes k) at inv = absurd at
grown_by w Event.SackMade at inv = absurd at
grown_by w (Event.ForwardComes k) at inv = absurd at
grown_by w (Event.Open s) at inv = absurd at
grown_by w (Event.Read s) at inv = absurd at
grown_by w Event.Close at inv = absurd at
grown_by w (Event.End s) at inv = absurd at
grown_by w (Event.Restart s) at inv = absurd at
grown_by w (Event.Replace s q) at inv = absurd at
