-- Whatever happens in a direction, its plan grows: what was accepted and what was assigned stands in it as it stood.
use Rattle.std.proofs.Common.{◌≡◌, refl, sym, ap, ◌∙◌, subst, ⊎_elim, arith, ℕ, ◌≤◌, ◌<◌, ◌++◌, ltb, Bool, true, false}
use Rattle.std.proofs.Common.{List, [], ◌∷◌, length, get_or, Option, Some, None}
use Rattle.std.specs.Prelude.{slice_get}
use Rattle.std.proofs.lemmas.Bool.{cases_eq, cond_both}
use Rattle.std.proofs.lemmas.List.{get_or_append_left, length_push}
use Rattle.sctp_model.specs.Messages.{Message, Place, Plan, as_kept, message_at, no_message, no_place}
use Rattle.sctp_model.specs.Packets.{Sack, data_at}
use Rattle.sctp_model.specs.Machine.{Direction, Event, Sender, acknowledged_by, begin, begin_if, can_abandon}
use Rattle.sctp_model.specs.Machine.{can_begin, can_drop, can_pass_over, can_resend, can_restart, counted, dropped}
use Rattle.sctp_model.specs.Machine.{first_place, forward_of, gone_front, go_on, happens, is_of, marked}
use Rattle.sctp_model.specs.Machine.{number_for, passed_over, put, run, sack_comes, sent, tail_marked}
use Rattle.sctp_model.specs.Machine.{with_message, with_place, written}
use Rattle.sctp_model.proofs.PlansGrow.{at_put, off_put}
use Rattle.sctp_directions.specs.Events.{IsOfReceiving}
use Rattle.sctp_directions.proofs.Proved.{receivers_events_are_received}
use Rattle.sctp_plans.specs.Plans.{IsGrown}

pub same_plan : (p : Plan) → IsGrown p p
same_plan p = record {
  size = refl;
  assigned = omega arith;
  places = λ o known. refl;
  accepted = λ s. omega arith;
  messages = λ s i known. refl;
}

pub grown_on : (p q r : Plan) → IsGrown p q → IsGrown q r → IsGrown p r
grown_on p q r g h = record {
  size = h.size ∙ g.size;
  assigned = (let a = g.assigned in let b = h.assigned in omega arith);
  places = λ o known. h.places o (let a = g.assigned in omega (arith, known)) ∙ g.places o known;
  accepted = λ s. (let a = g.accepted s in let b = h.accepted s in omega arith);
  messages = λ s i known. h.messages s i (let a = g.accepted s in omega (arith, known)) ∙ g.messages s i known;
}

-- one place more, and one message more

place_grown : (p : Plan) (y : Place) → IsGrown p (with_place p y)
place_grown p y = record {
  size = refl;
  assigned = omega (arith, length_push p.places y);
  places = λ o known. get_or_append_left p.places (y ∷ []) no_place o known;
  accepted = λ s. omega arith;
  messages = λ s i known. refl;
}

message_grown : (p : Plan) (s : ℕ) (m : Message) → IsGrown p (with_message p s m)
message_grown p s m = record {
  size = refl;
  assigned = omega arith;
  places = λ o known. refl;
  accepted = longer;
  messages = messages;
}
  where
    longer : (t : ℕ) → length (p.accepted t) ≤ length ((with_message p s m).accepted t)
    longer t = ⊎_elim
        (λ (e : t ≡ s). rw (at_put p.accepted s t (p.accepted s ++ m ∷ []) e)
        (omega (arith, length_push (p.accepted s) m, ap (λ z. length (p.accepted z)) e)))
        (λ (ne : t ≡ s → ⊥). rw (off_put p.accepted s t (p.accepted s ++ m ∷ []) ne) (omega arith))
        (cases_eq t s)

    messages : (t i : ℕ) → i < length (p.accepted t) → message_at (with_message p s m) t i ≡ message_at p t i
    messages t i l = ⊎_elim
        (λ (e : t ≡ s). rw (at_put p.accepted s t (p.accepted s ++ m ∷ []) e)
        (get_or_append_left (p.accepted s) (m ∷ []) no_message i (subst (λ z. i < length (p.accepted z)) e l)
        ∙ ap (λ z. get_or (p.accepted z) i no_message) (sym e)))
        (λ (ne : t ≡ s → ⊥). rw (off_put p.accepted s t (p.accepted s ++ m ∷ []) ne) refl)
        (cases_eq t s)

-- The events

-- the plan of the one direction grew to that of the other
abbrev Grew : Direction → Direction → Type 0
Grew w v = IsGrown w.sender.plan v.sender.plan

module _ (w : Direction) where
  stays : Grew w w
  stays = same_plan w.sender.plan

  grew_write : (s : ℕ) (m : Message) → Grew w (happens w (Event.Write s m))
  unfolding happens
  grew_write s m = cond_both _ w (record w { sender = written w.sender s (as_kept m) }) (Grew w) (λ b. stays)
      (λ b. message_grown w.sender.plan s (as_kept m))

  grew_pass_over : (s : ℕ) → Grew w (happens w (Event.PassOver s))
  unfolding happens
  grew_pass_over s =
      cond_both (can_pass_over w.sender s) (record w { sender = passed_over w.sender s }) w (Grew w) (λ b. stays)
      (λ b. stays)

  grew_drop : (s i : ℕ) → Grew w (happens w (Event.Drop s i))
  unfolding happens
  grew_drop s i =
      cond_both (can_drop w.sender s i) (record w { sender = dropped w.sender s i }) w (Grew w) (λ b. stays)
      (λ b. stays)

  grew_counted : (s i number : ℕ) (b : Bool)
      → IsGrown w.sender.plan (counted (sent w.sender (first_place s i number)) s i b).plan
  grew_counted s i number true = place_grown w.sender.plan (first_place s i number)
  grew_counted s i number false = place_grown w.sender.plan (first_place s i number)

  grew_begin : (s i any : ℕ) → Grew w (happens w (Event.Begin s i any))
  unfolding happens
  grew_begin s i any = by_current w.sender.current
    where
      number : ℕ
      number = number_for w.sender s i any

      by_current : (c : Option Place) → Grew w (begin_if w s i any c)
      by_current None = cond_both (can_begin w.sender s i) (begin w s i number) w (Grew w)
          (λ b. grew_counted s i number (message_at w.sender.plan s i).ordered) (λ b. stays)
      by_current (Some y) = stays

  grew_go_on : Grew w (happens w Event.GoOn)
  unfolding happens
  grew_go_on = by_current w.sender.current
    where
      by_current : (c : Option Place) → Grew w (go_on w c)
      by_current None = stays
      by_current (Some y) = place_grown w.sender.plan y

  grew_resend : (o : ℕ) → Grew w (happens w (Event.Resend o))
  unfolding happens
  grew_resend o =
      cond_both (can_resend w.sender.plan o) (record w { datas = w.datas ++ data_at w.sender.plan o ∷ [] }) w (Grew w)
      (λ b. stays) (λ b. stays)

  -- a tail that is abandoned gets one offset at most
  grew_tail : (s i : ℕ) (c : Option Place) → IsGrown w.sender.plan (tail_marked w.sender s i c).plan
  grew_tail s i None = stays
  grew_tail s i (Some y) =
      cond_both (is_of y s i) (marked w.sender y) w.sender (λ (x : Sender). IsGrown w.sender.plan x.plan)
      (λ b. place_grown w.sender.plan (record y { marker = true })) (λ b. stays)

  grew_abandon : (s i : ℕ) → Grew w (happens w (Event.Abandon s i))
  unfolding happens
  grew_abandon s i = cond_both (can_abandon w.sender s i) _ w (Grew w)
      (λ b. grew_tail s i w.sender.current) (λ b. stays)

  grew_sack_comes : (k : ℕ) → Grew w (happens w (Event.SackComes k))
  unfolding happens
  grew_sack_comes k = by_sack (slice_get w.sacks k)
    where
      by_sack : (x : Option Sack) → Grew w (sack_comes w x)
      by_sack None = stays
      by_sack (Some x) =
          cond_both (ltb x.reach w.sender.reach) w (record w { sender = acknowledged_by w.sender x }) (Grew w)
          (λ b. stays) (λ b. stays)

  grew_forward_made : Grew w (happens w Event.ForwardMade)
  unfolding happens
  grew_forward_made =
      cond_both (ltb 0 (length (gone_front w.sender)))
      (record w { forwards = w.forwards ++ forward_of w.sender w.over ∷ [] }) w (Grew w) (λ b. stays) (λ b. stays)

  -- an event at the receiver leaves the sender as it is
  grew_received : (e : Event) → IsOfReceiving e → Grew w (happens w e)
  grew_received e at =
      subst (λ (x : Sender). IsGrown w.sender.plan x.plan) (sym (receivers_events_are_received w e at).sender) stays

  grew_end : (s : ℕ) → Grew w (happens w (Event.End s))
  unfolding happens
  grew_end s = stays

  grew_restart : (s : ℕ) → Grew w (happens w (Event.Restart s))
  unfolding happens
  grew_restart s =
      cond_both (can_restart w s)
      (record w { sender = (let x = w.sender in record x { ssn = put x.ssn s 0 }) }) w (Grew w) (λ b. stays)
      (λ b. stays)

  grew_by : (e : Event) → Grew w (happens w e)
  unfolding happens
  grew_by (Event.Write s m) = grew_write s m
  grew_by (Event.PassOver s) = grew_pass_over s
  grew_by (Event.Drop s i) = grew_drop s i
  grew_by (Event.Begin s i any) = grew_begin s i any
  grew_by Event.GoOn = grew_go_on
  grew_by (Event.Resend o) = grew_resend o
  grew_by (Event.Abandon s i) = grew_abandon s i
  grew_by (Event.SackComes k) = grew_sack_comes k
  grew_by Event.ForwardMade = grew_forward_made
  grew_by (Event.DataComes k) = grew_received (Event.DataComes k) tt
  grew_by Event.SackMade = grew_received Event.SackMade tt
  grew_by (Event.ForwardComes k) = grew_received (Event.ForwardComes k) tt
  grew_by (Event.Open s) = grew_received (Event.Open s) tt
  grew_by (Event.Read s) = grew_received (Event.Read s) tt
  grew_by Event.Close = grew_received Event.Close tt
  grew_by (Event.End s) = grew_end s
  grew_by (Event.Restart s) = grew_restart s
  grew_by (Event.Replace s q) = cond_both (w.over s) _ w (Grew w) (λ b. stays) (λ b. stays)

grew_along : (es : List Event) (w : Direction) → Grew w (run es w)
grew_along [] w = same_plan w.sender.plan
grew_along (e ∷ es) w =
    grown_on w.sender.plan (happens w e).sender.plan (run es (happens w e)).sender.plan (grew_by w e)
    (grew_along es (happens w e))

-- where a direction went on to another by events, its plan grew
pub plan_grew : (es : List Event) (w v : Direction) → v ≡ run es w → IsGrown w.sender.plan v.sender.plan
plan_grew es w v is = subst (λ (z : Direction). IsGrown w.sender.plan z.sender.plan) (sym is) (grew_along es w)
