-- What was written waits or is in flight, and a poll loses none of it but what is dropped, its lifetime being over.
use Rattle.std.proofs.Common.{◌≡◌, refl, sym, ap, ◌∙◌, subst, ◌⊎◌, ⊎_elim, inl, inr, ℕ, zero, suc, ◌-◌, Bool, true}
use Rattle.std.proofs.Common.{false}
use Rattle.std.proofs.Common.{◌||◌, ◌&&◌, not, eqb, if◌then◌else◌, List, [], ◌∷◌, ◌++◌, length, map, nat_lt, slice_get}
use Rattle.std.proofs.Common.{Option, Some, None, is_some}
use Rattle.std.specs.List.{list_any}
use Rattle.std.specs.Prelude.{◌==◌}
use Rattle.std.proofs.lemmas.Bool.{and_parts, cases_Bool, cond-false, cond-true, eq-eqb, eqb-true, false≢true, not-true}
use Rattle.std.proofs.lemmas.Bool.{or_cases, or_left, or_right}
use Rattle.std.proofs.lemmas.List.Folds.{list_any-append}
use Rattle.sctp_wire_types.specs.declared.ids.PayloadProtocolIdentifier.{PayloadProtocolIdentifier}
use Rattle.sctp_wire_types.specs.declared.reliability.Policy.{Policy}
use Rattle.sctp_wire_types.specs.declared.reliability.Policy.TheVariants.{Reliable, Rexmit, Timed}
use Rattle.sctp_outbound_queue.specs.declared.message.Attributes.{Attributes}
use Rattle.sctp_outbound_queue.specs.declared.message.InFlight.{InFlight}
use Rattle.sctp_outbound_queue.specs.declared.message.Retransmission.{Retransmission}
use Rattle.sctp_outbound_queue.specs.declared.message.Retransmission.TheVariants as causes
use Rattle.sctp_outbound_queue.specs.Expiry.{after_tail_expiry_of, is_expired_tail, without_expired}
use Rattle.sctp_outbound_queue.specs.Message.{accepted, counted_again, deadline_under, flagged, is_expired}
use Rattle.sctp_outbound_queue.specs.Message.{is_expired_unsent, is_of, is_past, marker_of, moved_down, picks}
use Rattle.sctp_outbound_queue.specs.Message.{room_taken}
use Rattle.sctp_outbound_queue.specs.Message.{sent_once, sent_started, share_ssns, started, waiting_started}
use Rattle.sctp_outbound_queue.specs.Outbound.{Outbound, abandoned_from, left_behind, pieces_waiting, sent_from}
use Rattle.sctp_outbound_queue.specs.Outbound.{tail_dropped, tail_dropped_from}
use Rattle.sctp_outbound_queue.specs.Waiting.{Waiting}
use Rattle.sctp_outbound.specs.declared.sender.Sender.{Sender}
use Rattle.sctp_outbound.specs.Abandonment.{abandoned_of, first_dropped, tail_given_up, with_started}
use Rattle.sctp_outbound.specs.Sender.{after_marked, after_missing, both_windows, can_send_next, fast_room}
use Rattle.sctp_outbound.specs.Sender.{first_counted}
use Rattle.sctp_outbound.specs.Sender.{resends_alone, resent_pieces, sent_new, sent_one, sent_within, with_in_flight}
use Rattle.sctp_outbound.proofs.SenderSteps.{pieces_full, pieces_sent, pieces_skip}
use Rattle.sctp_streams.specs.Stream.{StreamView}
use Rattle.sctp_streams.specs.Streams.{StreamMap, stream_at}
use Rattle.sctp_directions.specs.Acts.{message_of, type_on}
use Rattle.sctp_assoc.specs.Calls.{exchanges_data, written_at}
use Rattle.sctp_sides.specs.Laws.{IsDroppedAt, PollsKeepWhatIsHeld, WritesAreHeld, is_held}
use Rattle.sctp_assoc.specs.Gather.{both_of, data_polled, fast_polled, late_dropped, polled}
use Rattle.sctp_assoc.specs.Shown.{Shown, uses_forward_tsn}
use Rattle.sctp_assoc.proofs.PolledData.{one_queue}
use Rattle.sctp_sides.proofs.GivingUpKeeps.{KeptByGivingUp, drops_poll_before}
use Rattle.sctp_sides.proofs.PollsLeave.{polled_sender, silent_sender}

abbrev waits : ℕ → List Waiting → Bool
waits number ms = list_any (λ (m : Waiting). m.message.message_id == number) ms

-- Writes.

written_held : (o : Option StreamView) (a : Shown) (id : ℕ) (named : Option PayloadProtocolIdentifier) (bytes : List ℕ)
    → is_some o ≡ true
    → is_held (written_at o a id named bytes).sender.queue a.sender.queue.next_message_id ≡ true
written_held None a id named bytes some = absurd (false≢true some)
written_held (Some s) a id named bytes some =
    let kind = type_on s named in
    let number = a.sender.queue.next_message_id in
    let size = a.sender.max_payload_size in
    let this : (number == number) ≡ true = eq-eqb number number refl in
    let last : waits number (a.sender.queue.pending ++ accepted number (message_of s kind size id bytes) ∷ []) ≡ true =
    list_any-append (λ (m : Waiting). m.message.message_id == number) a.sender.queue.pending
    (accepted number (message_of s kind size id bytes) ∷ [])
    ∙ or_right (waits number a.sender.queue.pending) _ (or_left (number == number) false this) in
    or_left _ _ last

pub writes_are_held : WritesAreHeld
writes_are_held a id named bytes live = written_held (stream_at a.streams id) a id named bytes live

-- A piece goes out for the first time.

left_waits : (m : Waiting) (ms : List Waiting) (number : ℕ) → waits number ms ≡ true
    → waits number (left_behind m ms) ≡ true
left_waits m ms number e = ⊎_elim
    (λ (last : (length m.rest == 0) ≡ true). rw last e)
    (λ (more : (length m.rest == 0) ≡ false). rw more (or_right (m.message.message_id == number) (waits number ms) e))
    (cases_Bool (length m.rest == 0))

goes_over : (this others left flown : Bool) → (others ≡ true → left ≡ true) → ((this || others) || flown) ≡ true
    → (left || (flown || (this || false))) ≡ true
goes_over true others true flown keep e = refl
goes_over true others false true keep e = refl
goes_over true others false false keep e = refl
goes_over false true left flown keep e = or_left left _ (keep refl)
goes_over false false true flown keep e = refl
goes_over false false false true keep e = refl
goes_over false false false false keep e = absurd (false≢true e)

next_held : (ms : List Waiting) (q : Outbound) (now number : ℕ) → q.pending ≡ ms
    → (waits number ms || list_any (is_of number) q.in_flight) ≡ true
    → is_held (sent_from ms q now) number ≡ true
next_held [] q now number e held =
    subst (λ (z : List Waiting). (waits number z || list_any (is_of number) q.in_flight) ≡ true) (sym e) held
next_held (m ∷ ms) q now number e held =
    rw (list_any-append (is_of number) q.in_flight (sent_once now m ∷ []))
    (goes_over (m.message.message_id == number) (waits number ms) (waits number (left_behind m ms))
    (list_any (is_of number) q.in_flight)
    (left_waits m ms number) held)

one_held : (s : Sender) (now number : ℕ) → is_held s.queue number ≡ true
    → is_held (sent_one s.queue.pending s now).0.queue number ≡ true
one_held s now number held =
    ap (λ (q : Outbound). is_held q number) (one_queue s.queue.pending s now refl)
    ∙ next_held s.queue.pending s.queue now number refl held

within_held : (n : ℕ) (s : Sender) (now number : ℕ) → is_held s.queue number ≡ true
    → is_held (sent_within n s now).0.queue number ≡ true
within_held zero s now number held = held
within_held (suc n) s now number held = ⊎_elim
    (λ (fits : can_send_next s ≡ true).
    rw fits (within_held n (sent_one s.queue.pending s now).0 now number
    (one_held s now number held)))
    (λ (full : can_send_next s ≡ false). rw full held)
    (cases_Bool (can_send_next s))

new_held_if : (c : Bool) (s : Sender) (now number : ℕ) → is_held s.queue number ≡ true
    → is_held (if c then sent_one s.queue.pending s now else
    sent_within (pieces_waiting s.queue.pending) s now).0.queue number ≡ true
new_held_if true s now number held = one_held s now number held
new_held_if false s now number held = within_held (pieces_waiting s.queue.pending) s now number held

-- Pieces go out again.

of_again : (by : Retransmission) (p : InFlight) (number : ℕ) → is_of number (counted_again by p) ≡ is_of number p
of_again causes.Timer p number = refl
of_again causes.Fast p number = refl

pieces_same : (by : Retransmission) (ps : List InFlight) (room number : ℕ)
    → list_any (is_of number) (resent_pieces by room ps) ≡ list_any (is_of number) ps
pieces_same by [] room number = refl
pieces_same by (p ∷ ps) room number = ⊎_elim
    (λ (marked : picks by p ≡ true). ⊎_elim
    (λ (full : nat_lt room (room_taken by p) ≡ true).
    ap (list_any (is_of number)) (pieces_full by p ps room marked full))
    (λ (fits : nat_lt room (room_taken by p) ≡ false).
    ap (list_any (is_of number)) (pieces_sent by p ps room marked fits)
    ∙ ap (λ (b : Bool). b || list_any (is_of number) (resent_pieces by (room - room_taken by p) ps))
    (of_again by p number)
    ∙ ap (λ (b : Bool). is_of number p || b) (pieces_same by ps (room - room_taken by p) number))
    (cases_Bool (nat_lt room (room_taken by p))))
    (λ (unmarked : picks by p ≡ false).
    ap (list_any (is_of number)) (pieces_skip by p ps room unmarked)
    ∙ ap (λ (b : Bool). is_of number p || b) (pieces_same by ps room number))
    (cases_Bool (picks by p))

first_same : (ps : List InFlight) (number : ℕ) → list_any (is_of number) (first_counted ps) ≡ list_any (is_of number) ps
first_same [] number = refl
first_same (p ∷ ps) number = refl

resent_same : (c : Bool) (s : Sender) (number : ℕ)
    → is_held
    (with_in_flight s (if c then first_counted s.queue.in_flight else
    resent_pieces causes.Timer (both_windows s) s.queue.in_flight)).queue number ≡ is_held s.queue number
resent_same true s number = ap (λ (b : Bool). waits number s.queue.pending || b) (first_same s.queue.in_flight number)
resent_same false s number =
    ap (λ (b : Bool). waits number s.queue.pending || b)
    (pieces_same causes.Timer s.queue.in_flight (both_windows s) number)

missing_same : (c : Bool) (s : Sender) (number : ℕ)
    → is_held
    (with_in_flight s (if c then resent_pieces causes.Fast (fast_room s) s.queue.in_flight else
    s.queue.in_flight)).queue number ≡ is_held s.queue number
missing_same true s number =
    ap (λ (b : Bool). waits number s.queue.pending || b)
    (pieces_same causes.Fast s.queue.in_flight (fast_room s) number)
missing_same false s number = refl

marked_same : (s : Sender) (number : ℕ) → is_held (after_marked s).queue number ≡ is_held s.queue number
marked_same s number = resent_same (resends_alone s) s number

missing_held : (s : Sender) (number : ℕ) → is_held (after_missing s).queue number ≡ is_held s.queue number
missing_held s number = missing_same s.is_fast_due s number

new_held : (s : Sender) (now number : ℕ) → is_held s.queue number ≡ true
    → is_held (sent_new s now).0.queue number ≡ true
new_held s now number held =
    new_held_if (eqb (length s.queue.in_flight) 0 && not (can_send_next s)) s now number held

-- Messages that are given up.

-- An ordered or unordered message of this number waits of which nothing was sent, and whose lifetime is over at a
-- moment, where that runs from this moment on at the latest.
record WaitsLate (now number : ℕ) (ms : List Waiting) : Type 0 where
  index : ℕ
  message : Waiting
  there : slice_get ms index ≡ Some message
  named : message.message.message_id ≡ number
  unsent : message.begun ≡ false
  late : is_expired now (started now message.message) ≡ true

later_late : (now number : ℕ) (m : Waiting) (ms : List Waiting) → WaitsLate now number ms
    → WaitsLate now number (m ∷ ms)
later_late now number m ms w = record {
  index = suc w.index;
  message = w.message;
  there = w.there;
  named = w.named;
  unsent = w.unsent;
  late = w.late;
}

-- a time that runs is not begun again
deadline_twice : (policy : Policy) (now : ℕ) (deadline : Option ℕ)
    → deadline_under policy now (deadline_under policy now deadline) ≡ deadline_under policy now deadline
deadline_twice Reliable now deadline = refl
deadline_twice (Rexmit n) now deadline = refl
deadline_twice (Timed ms) now None = refl
deadline_twice (Timed ms) now (Some deadline) = refl

-- a change of messages that leaves what is looked at
record LeavesMessage (now : ℕ) (change : Waiting → Waiting) (m : Waiting) : Type 0 where
  named : (change m).message.message_id ≡ m.message.message_id
  begun : (change m).begun ≡ m.begun
  late : is_expired now (started now (change m).message) ≡ is_expired now (started now m.message)

mapped_late : (now number : ℕ) (change : Waiting → Waiting) → ((m : Waiting) → LeavesMessage now change m)
    → (ms : List Waiting) → WaitsLate now number (map change ms) → WaitsLate now number ms
mapped_late now number change leaves ms w = found ms w.index w.there
  where
    here : (m : Waiting) (xs : List Waiting) (i : ℕ) → slice_get xs i ≡ Some m → Some (change m) ≡ Some w.message
        → WaitsLate now number xs
    here m xs i at e =
        let same : change m ≡ w.message = cc in
        let l = leaves m in
        record {
          index = i;
          message = m;
          there = at;
          named = sym l.named ∙ ap (λ (z : Waiting). z.message.message_id) same ∙ w.named;
          unsent = sym l.begun ∙ ap (λ (z : Waiting). z.begun) same ∙ w.unsent;
          late = sym l.late ∙ ap (λ (z : Waiting). is_expired now (started now z.message)) same ∙ w.late;
        }

    found : (xs : List Waiting) (i : ℕ) → slice_get (map change xs) i ≡ Some w.message → WaitsLate now number xs
    found [] i e = absurd cc
    found (m ∷ xs) zero e = here m (m ∷ xs) 0 refl e
    found (m ∷ xs) (suc i) e = later_late now number m xs (found xs i e)

starts_leave : (now : ℕ) (m : Waiting) → LeavesMessage now (waiting_started now) m
starts_leave now m = record {
  named = refl;
  begun = refl;
  late = ap (λ (d : Option ℕ). is_past m.message.policy d now)
      (deadline_twice m.message.policy now m.message.deadline);
}

moves_leave_if : (now : ℕ) (dropped : Attributes) (c : Bool) (m : Waiting) → share_ssns dropped m.message ≡ c
    → LeavesMessage now (moved_down dropped) m
moves_leave_if now dropped true m e = record { named = rw e refl; begun = rw e refl; late = rw e refl }
moves_leave_if now dropped false m e = record { named = rw e refl; begun = rw e refl; late = rw e refl }

moves_leave : (now : ℕ) (dropped : Attributes) (m : Waiting) → LeavesMessage now (moved_down dropped) m
moves_leave now dropped m = moves_leave_if now dropped (share_ssns dropped m.message) m refl

-- what is dropped of those that wait was late, and so were those that are late then

without_late : (now number : ℕ) (ms : List Waiting) → WaitsLate now number (without_expired now ms)
    → WaitsLate now number ms
without_late now number [] w = w
without_late now number (m ∷ ms) w = ⊎_elim
    (λ (gone : is_expired_unsent now m ≡ true).
    later_late now number m ms (mapped_late now number (moved_down m.message) (moves_leave now m.message) ms
    (subst (WaitsLate now number) (cond-true (is_expired_unsent now m) (map (moved_down m.message) ms)
    (m ∷ without_expired now ms) gone) w)))
    (λ (kept : is_expired_unsent now m ≡ false).
    behind m ms (subst (WaitsLate now number) (cond-false (is_expired_unsent now m) (map (moved_down m.message) ms)
    (m ∷ without_expired now ms) kept) w) (without_late now number ms))
    (cases_Bool (is_expired_unsent now m))
  where
    behind : (m : Waiting) (ms : List Waiting) → WaitsLate now number (m ∷ without_expired now ms)
        → (WaitsLate now number (without_expired now ms) → WaitsLate now number ms) → WaitsLate now number (m ∷ ms)
    behind m ms w rest = at w.index w.there
      where
        at : (i : ℕ) → slice_get (m ∷ without_expired now ms) i ≡ Some w.message → WaitsLate now number (m ∷ ms)
        at zero e = record {
          index = 0;
          message = w.message;
          there = e;
          named = w.named;
          unsent = w.unsent;
          late = w.late;
        }
        at (suc i) e = later_late now number m ms (rest (record {
          index = i;
          message = w.message;
          there = e;
          named = w.named;
          unsent = w.unsent;
          late = w.late;
        }))

-- Each step of a poll holds what was held, or a late message was dropped.

expired_started : (policy : Policy) (deadline : Option ℕ) (now : ℕ) → is_past policy deadline now ≡ true
    → is_past policy (deadline_under policy now deadline) now ≡ true
expired_started Reliable deadline now e = absurd (false≢true e)
expired_started (Rexmit n) deadline now e = absurd (false≢true e)
expired_started (Timed ms) None now e = absurd (false≢true e)
expired_started (Timed ms) (Some deadline) now e = e

waits_mapped : (change : Waiting → Waiting) (number : ℕ)
    → ((m : Waiting) → (change m).message.message_id ≡ m.message.message_id) → (ms : List Waiting)
    → waits number (map change ms) ≡ waits number ms
waits_mapped change number same [] = refl
waits_mapped change number same (m ∷ ms) =
    ap (λ (id : ℕ). (id == number) || waits number (map change ms)) (same m)
    ∙ ap (λ (b : Bool). (m.message.message_id == number) || b) (waits_mapped change number same ms)

flies_mapped : (change : InFlight → InFlight) (number : ℕ)
    → ((p : InFlight) → (change p).message.message_id ≡ p.message.message_id) → (ps : List InFlight)
    → list_any (is_of number) (map change ps) ≡ list_any (is_of number) ps
flies_mapped change number same [] = refl
flies_mapped change number same (p ∷ ps) =
    ap (λ (id : ℕ). (id == number) || list_any (is_of number) (map change ps)) (same p)
    ∙ ap (λ (b : Bool). is_of number p || b) (flies_mapped change number same ps)

flagged_same : (id : ℕ) (p : InFlight) → (flagged id p).message.message_id ≡ p.message.message_id
flagged_same id p = ⊎_elim
    (λ (e : is_of id p ≡ true). rw e refl)
    (λ (e : is_of id p ≡ false). rw e refl)
    (cases_Bool (is_of id p))

moved_same : (dropped : Attributes) (m : Waiting) → (moved_down dropped m).message.message_id ≡ m.message.message_id
moved_same dropped m = (moves_leave 0 dropped m).named

-- the rest of the first message that waits goes, and a marker of the message is in flight
tail_goes_over : (this others flown : Bool) → ((this || others) || flown) ≡ true
    → (others || (flown || (this || false))) ≡ true
tail_goes_over true true flown e = refl
tail_goes_over true false true e = refl
tail_goes_over true false false e = refl
tail_goes_over false true flown e = refl
tail_goes_over false false true e = refl
tail_goes_over false false false e = absurd (false≢true e)

tail_held_if : (c : Bool) (m : Waiting) (ms : List Waiting) (q : Outbound) (id number : ℕ) → q.pending ≡ m ∷ ms
    → (m.message.message_id == id) ≡ c → is_held q number ≡ true
    → is_held (tail_dropped_from (m ∷ ms) q id).0 number ≡ true
tail_held_if true m ms q id number waiting e held =
    let all : (waits number (m ∷ ms) || list_any (is_of number) q.in_flight) ≡ true =
    subst (λ (z : List Waiting). (waits number z || list_any (is_of number) q.in_flight) ≡ true) waiting held in
    rw (e, list_any-append (is_of number) q.in_flight (marker_of m.message ∷ []))
    (tail_goes_over (m.message.message_id == number) (waits number ms) (list_any (is_of number) q.in_flight) all)
tail_held_if false m ms q id number waiting e held = rw e held

tail_held : (ms : List Waiting) (q : Outbound) (id number : ℕ) → q.pending ≡ ms → is_held q number ≡ true
    → is_held (tail_dropped_from ms q id).0 number ≡ true
tail_held [] q id number waiting held = held
tail_held (m ∷ ms) q id number waiting held =
    tail_held_if (m.message.message_id == id) m ms q id number waiting refl held

abandoned_held : (o : Option InFlight) (q : Outbound) (number : ℕ) → is_held q number ≡ true
    → is_held (abandoned_from o q).0 number ≡ true
abandoned_held None q number held = held
abandoned_held (Some p) q number held =
    let id = p.message.message_id in
    let t = (tail_dropped q id).0 in
    ap (λ (b : Bool). waits number t.pending || b) (flies_mapped (flagged id) number (flagged_same id) t.in_flight)
    ∙ tail_held q.pending q id number refl held

late_tail_held_if : (c : Bool) (m : Waiting) (ms : List Waiting) (q : Outbound) (now number : ℕ)
    → is_expired_tail now m q.in_flight ≡ c → is_held q number ≡ true
    → is_held (after_tail_expiry_of (m ∷ ms) q now).0 number ≡ true
late_tail_held_if true m ms q now number e held =
    rw e (tail_held q.pending q m.message.message_id number refl held)
late_tail_held_if false m ms q now number e held = rw e held

late_tail_held : (ms : List Waiting) (q : Outbound) (now number : ℕ) → is_held q number ≡ true
    → is_held (after_tail_expiry_of ms q now).0 number ≡ true
late_tail_held [] q now number held = held
late_tail_held (m ∷ ms) q now number held =
    late_tail_held_if (is_expired_tail now m q.in_flight) m ms q now number refl held

-- a late message of this number is dropped, or what was held is
drop_held : (ms : List Waiting) (now number : ℕ) → waits number ms ≡ true
    → (waits number (without_expired now ms) ≡ true) ⊎ WaitsLate now number ms
drop_held [] now number e = absurd (false≢true e)
drop_held (m ∷ ms) now number e = ⊎_elim
    (λ (gone : is_expired_unsent now m ≡ true). ⊎_elim
    (λ (this : (m.message.message_id == number) ≡ true).
    let parts = and_parts (not m.begun) (is_expired now m.message) gone in
    inr (record {
      index = 0;
      message = m;
      there = refl;
      named = eqb-true m.message.message_id number this;
      unsent = not-true m.begun parts.0;
      late = expired_started m.message.policy m.message.deadline now parts.1;
    }))
    (λ (other : (m.message.message_id == number) ≡ false).
    inl (ap (waits number) (cond-true (is_expired_unsent now m) (map (moved_down m.message) ms)
    (m ∷ without_expired now ms) gone)
    ∙ waits_mapped (moved_down m.message) number (moved_same m.message) ms
    ∙ or_other (m.message.message_id == number) (waits number ms) e other))
    (cases_Bool (m.message.message_id == number)))
    (λ (kept : is_expired_unsent now m ≡ false).
    kept_on m ms kept e (λ f. drop_held ms now number f))
    (cases_Bool (is_expired_unsent now m))
  where
    or_other : (a b : Bool) → (a || b) ≡ true → a ≡ false → b ≡ true
    or_other true b e f = absurd (false≢true (sym f))
    or_other false b e f = e

    kept_on : (m : Waiting) (ms : List Waiting) → is_expired_unsent now m ≡ false
        → ((m.message.message_id == number) || waits number ms) ≡ true
        → (waits number ms ≡ true
        → (waits number (without_expired now ms) ≡ true) ⊎ WaitsLate now number ms)
        → (waits number (without_expired now (m ∷ ms)) ≡ true) ⊎ WaitsLate now number (m ∷ ms)
    kept_on m ms kept e rest =
        let is = cond-false (is_expired_unsent now m) (map (moved_down m.message) ms) (m ∷ without_expired now ms) kept
        in
        ⊎_elim
        (λ (this : (m.message.message_id == number) ≡ true).
        inl (ap (waits number) is
        ∙ or_left (m.message.message_id == number) (waits number (without_expired now ms)) this))
        (λ (other : (m.message.message_id == number) ≡ false). ⊎_elim
        (λ (on : waits number (without_expired now ms) ≡ true).
        inl (ap (waits number) is
        ∙ or_right (m.message.message_id == number) (waits number (without_expired now ms)) on))
        (λ (w : WaitsLate now number ms). inr (later_late now number m ms w))
        (rest (or_other (m.message.message_id == number) (waits number ms) e other)))
        (cases_Bool (m.message.message_id == number))

-- what is left of those that wait was late before

module _ (now number : ℕ) where
  tail_late : (c : Bool) (m : Waiting) (ms : List Waiting) (q : Outbound) (id : ℕ) → q.pending ≡ m ∷ ms
      → (m.message.message_id == id) ≡ c → WaitsLate now number (tail_dropped_from (m ∷ ms) q id).0.pending
      → WaitsLate now number q.pending
  tail_late true m ms q id waiting e w =
      let is : (tail_dropped_from (m ∷ ms) q id).0.pending ≡ ms = rw e refl in
      subst (WaitsLate now number) (sym waiting) (later_late now number m ms (subst (WaitsLate now number) is w))
  tail_late false m ms q id waiting e w =
      let is : (tail_dropped_from (m ∷ ms) q id).0.pending ≡ q.pending = rw e refl in
      subst (WaitsLate now number) is w

  tails_late : (ms : List Waiting) (q : Outbound) (id : ℕ) → q.pending ≡ ms
      → WaitsLate now number (tail_dropped_from ms q id).0.pending → WaitsLate now number q.pending
  tails_late [] q id waiting w = w
  tails_late (m ∷ ms) q id waiting w =
      tail_late (m.message.message_id == id) m ms q id waiting refl w

  abandoned_late : (o : Option InFlight) (q : Outbound)
      → WaitsLate now number (abandoned_from o q).0.pending → WaitsLate now number q.pending
  abandoned_late None q w = w
  abandoned_late (Some p) q w = tails_late q.pending q p.message.message_id refl w

  late_tails_late_if : (c : Bool) (m : Waiting) (ms : List Waiting) (q : Outbound) (at : ℕ)
      → is_expired_tail at m q.in_flight ≡ c → WaitsLate now number (after_tail_expiry_of (m ∷ ms) q at).0.pending
      → WaitsLate now number q.pending
  late_tails_late_if true m ms q at e w =
      let is : (after_tail_expiry_of (m ∷ ms) q at).0.pending ≡ (tail_dropped q m.message.message_id).0.pending =
      rw e refl in
      tails_late q.pending q m.message.message_id refl (subst (WaitsLate now number) is w)
  late_tails_late_if false m ms q at e w =
      let is : (after_tail_expiry_of (m ∷ ms) q at).0.pending ≡ q.pending = rw e refl in
      subst (WaitsLate now number) is w

  late_tails_late : (ms : List Waiting) (q : Outbound) (at : ℕ)
      → WaitsLate now number (after_tail_expiry_of ms q at).0.pending → WaitsLate now number q.pending
  late_tails_late [] q at w = w
  late_tails_late (m ∷ ms) q at w =
      late_tails_late_if (is_expired_tail at m q.in_flight) m ms q at refl w

-- A message of this number is held, or was late among these; and what is late now was late among these.
record HoldsOrDropped (now number : ℕ) (ms : List Waiting) (x : Sender × StreamMap) : Type 0 where
  held : (is_held x.0.queue number ≡ true) ⊎ WaitsLate now number ms
  late : WaitsLate now number x.0.queue.pending → WaitsLate now number ms

module _ (now number : ℕ) (ms : List Waiting) where
  held_on : (x y : Sender × StreamMap) → (is_held x.0.queue number ≡ true → is_held y.0.queue number ≡ true)
      → (WaitsLate now number y.0.queue.pending → WaitsLate now number x.0.queue.pending)
      → HoldsOrDropped now number ms x → HoldsOrDropped now number ms y
  held_on x y keeps before h = record {
    held = ⊎_elim
        (λ (e : is_held x.0.queue number ≡ true). inl (keeps e)) (λ (w : WaitsLate now number ms). inr w) h.held;
    late = λ w. h.late (before w);
  }

  started_on : (x : Sender × StreamMap) → HoldsOrDropped now number ms x
      → HoldsOrDropped now number ms (with_started now x.0, x.1)
  started_on x h =
      held_on x (with_started now x.0, x.1)
      (λ e. ap (λ (b : Bool). b || list_any (is_of number) (map (sent_started now) x.0.queue.in_flight))
      (waits_mapped (waiting_started now) number (λ m. refl) x.0.queue.pending)
      ∙ ap (λ (b : Bool). waits number x.0.queue.pending || b)
      (flies_mapped (sent_started now) number (λ p. refl) x.0.queue.in_flight) ∙ e)
      (mapped_late now number (waiting_started now) (starts_leave now) x.0.queue.pending) h

  abandoned_on : (index : ℕ) (x : Sender × StreamMap) → HoldsOrDropped now number ms x
      → HoldsOrDropped now number ms (abandoned_of index x)
  unfolding abandoned_of
  abandoned_on index (s, m) h =
      held_on (s, m) (abandoned_of index (s, m))
      (abandoned_held (slice_get s.queue.in_flight index) s.queue number)
      (abandoned_late now number (slice_get s.queue.in_flight index) s.queue) h

  tail_on : (at : ℕ) (x : Sender × StreamMap) → HoldsOrDropped now number ms x
      → HoldsOrDropped now number ms (tail_given_up at x)
  unfolding tail_given_up
  tail_on at (s, m) h =
      held_on (s, m) (tail_given_up at (s, m)) (late_tail_held s.queue.pending s.queue at number)
      (late_tails_late now number s.queue.pending s.queue at) h

  dropped_on : (x : Sender × StreamMap) → HoldsOrDropped now number ms x
      → HoldsOrDropped now number ms (first_dropped now x)
  unfolding first_dropped
  dropped_on (s, m) h = record {
    held = ⊎_elim
        (λ (e : is_held s.queue number ≡ true). ⊎_elim
        (λ (waiting : waits number s.queue.pending ≡ true). ⊎_elim
        (λ (on : waits number (without_expired now s.queue.pending) ≡ true).
        inl (or_left (waits number (without_expired now s.queue.pending)) (list_any (is_of number) s.queue.in_flight)
        on))
        (λ (w : WaitsLate now number s.queue.pending). inr (h.late w))
        (drop_held s.queue.pending now number waiting))
        (λ (flown : list_any (is_of number) s.queue.in_flight ≡ true).
        inl (or_right (waits number (without_expired now s.queue.pending)) (list_any (is_of number) s.queue.in_flight)
        flown))
        (or_cases (waits number s.queue.pending) (list_any (is_of number) s.queue.in_flight) e))
        (λ (w : WaitsLate now number ms). inr w) h.held;
    late = λ w. h.late (without_late now number s.queue.pending w);
  }

-- where FORWARD TSN isn't in use nothing is given up
abbrev HoldsAfter : Bool → ℕ → ℕ → List Waiting → Sender × StreamMap → Type 0
HoldsAfter true now number ms x = HoldsOrDropped now number ms x
HoldsAfter false now number ms x = is_held x.0.queue number ≡ true

giving_up_holds : (uses : Bool) (now number : ℕ) (ms : List Waiting) → uses ≡ true
    → KeptByGivingUp (HoldsAfter uses now number ms) now
giving_up_holds false now number ms e = absurd (false≢true e)
giving_up_holds true now number ms e = record {
  started = started_on now number ms;
  abandoned = abandoned_on now number ms;
  tail = tail_on now number ms now;
  dropped = dropped_on now number ms;
}

same_step : (uses : Bool) (now number : ℕ) (ms : List Waiting) (x : Sender × StreamMap) (s : Sender)
    → (is_held s.queue number ≡ is_held x.0.queue number) → s.queue.pending ≡ x.0.queue.pending
    → HoldsAfter uses now number ms x → HoldsAfter uses now number ms (s, x.1)
same_step true now number ms x s held pending h =
    held_on now number ms x (s, x.1) (λ e. held ∙ e) (λ w. subst (WaitsLate now number) pending w) h
same_step false now number ms x s held pending h = held ∙ h

-- A poll.

-- before new DATA goes out
before_new : (a : Shown) (now number : ℕ) → is_held a.sender.queue number ≡ true
    → HoldsAfter (uses_forward_tsn a) now number a.sender.queue.pending (both_of a)
    → HoldsAfter (uses_forward_tsn a) now number a.sender.queue.pending (both_of (late_dropped (fast_polled a now) now))
before_new a now number held =
    drops_poll_before (HoldsAfter (uses_forward_tsn a) now number a.sender.queue.pending) now a
    (giving_up_holds (uses_forward_tsn a) now number a.sender.queue.pending)
    (λ x h. same_step (uses_forward_tsn a) now number a.sender.queue.pending x (after_marked x.0)
    (marked_same x.0 number) refl h)
    (λ x h. same_step (uses_forward_tsn a) now number a.sender.queue.pending x (after_missing x.0)
    (missing_held x.0 number) refl h)

held_at_first : (uses : Bool) (s : Sender) (m : StreamMap) (now number : ℕ) → is_held s.queue number ≡ true
    → HoldsAfter uses now number s.queue.pending (s, m)
held_at_first true s m now number held = record { held = inl held; late = λ w. w }
held_at_first false s m now number held = held

dropped_at : (a : Shown) (now number : ℕ) → uses_forward_tsn a ≡ true
    → WaitsLate now number a.sender.queue.pending → IsDroppedAt a now number
dropped_at a now number uses w = record {
  used = uses;
  index = w.index;
  message = w.message;
  there = w.there;
  named = w.named;
  unsent = w.unsent;
  late = w.late;
}

held_or : (uses : Bool) (a : Shown) (now number : ℕ) (x : Sender × StreamMap) → uses_forward_tsn a ≡ uses
    → HoldsAfter uses now number a.sender.queue.pending x
    → (is_held x.0.queue number ≡ true) ⊎ IsDroppedAt a now number
held_or true a now number x e h = ⊎_elim
    (λ (held : is_held x.0.queue number ≡ true). inl held)
    (λ (w : WaitsLate now number a.sender.queue.pending). inr (dropped_at a now number e w)) h.held
held_or false a now number x e h = inl h

data_held : (a : Shown) (now number : ℕ) → is_held a.sender.queue number ≡ true
    → (is_held (data_polled a now).0.sender.queue number ≡ true) ⊎ IsDroppedAt a now number
unfolding data_polled
data_held a now number held =
    let d : Shown = late_dropped (fast_polled a now) now in
    ⊎_elim
    (λ (e : is_held d.sender.queue number ≡ true). inl (new_held d.sender now number e))
    (λ (r : IsDroppedAt a now number). inr r)
    (held_or (uses_forward_tsn a) a now number (both_of d) refl (before_new a now number held
    (held_at_first (uses_forward_tsn a) a.sender a.streams now number held)))

polls_held_if : (c : Bool) (a : Shown) (now number : ℕ) → exchanges_data a.state ≡ c
    → is_held a.sender.queue number ≡ true
    → (is_held (polled a now).0.sender.queue number ≡ true) ⊎ IsDroppedAt a now number
polls_held_if true a now number e held =
    subst (λ (s : Sender). (is_held s.queue number ≡ true) ⊎ IsDroppedAt a now number)
    (sym (polled_sender a now e)) (data_held a now number held)
polls_held_if false a now number e held =
    inl (ap (λ (s : Sender). is_held s.queue number) (silent_sender a now e) ∙ held)

pub polls_keep_what_is_held : PollsKeepWhatIsHeld
polls_keep_what_is_held a now number held = polls_held_if (exchanges_data a.state) a now number refl held
