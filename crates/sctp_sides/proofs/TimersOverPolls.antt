-- Polls for packets keep the timers where they should run. T3-rtx is restarted where DATA is sent for the first time,
-- and where a message is given up whose time is over.
use Rattle.std.proofs.Common.{◌≡◌, refl, sym, ap, ◌∙◌, subst, ◌⊎◌, ⊎_elim, inl, inr, ℕ, zero, suc, ◌<◌, ◌-◌, ◌==◌}
use Rattle.std.proofs.Common.{arith, Bool, true, false, eqb, ltb, ◌&&◌, not, if◌then◌else◌, List, [], ◌∷◌, ◌++◌, length}
use Rattle.std.proofs.Common.{map, slice_get, Option, Some, None, is_some}
use Rattle.std.specs.List.{position}
use Rattle.std.proofs.lemmas.Bool.{cond-true, eq-eqb, false≢true, le-ltb, lt-ltb, or_cases, or_parts, true≢false}
use Rattle.std.proofs.lemmas.List.{length-append, length-map, nil_from_length}
use Rattle.sctp_wire_types.specs.declared.chunk.ChunkPayloadData.{ChunkPayloadData}
use Rattle.sctp_parts.specs.declared.state.AckState.{AckState}
use Rattle.sctp_parts.specs.declared.state.AckState.TheVariants as acks
use Rattle.sctp_parts.specs.declared.state.AssociationState.{AssociationState}
use Rattle.sctp_parts.specs.declared.timer.Timer.TheVariants as names
use Rattle.sctp_parts.specs.Timers.{Timers, restarted_if_stale}
use Rattle.sctp_streams.specs.Streams.{StreamMap}
use Rattle.sctp_sides.specs.OneSide.{is_delayed}
use Rattle.sctp_outbound_queue.specs.declared.message.InFlight.{InFlight}
use Rattle.sctp_outbound_queue.specs.declared.message.Retransmission.{Retransmission}
use Rattle.sctp_outbound_queue.specs.declared.message.Retransmission.TheVariants as causes
use Rattle.sctp_outbound_queue.specs.Expiry.{after_tail_expiry_of, is_expired_tail}
use Rattle.sctp_outbound_queue.specs.Message.{counted_again, flagged, is_expired_piece, marker_of, message_bytes, picks}
use Rattle.sctp_outbound_queue.specs.Message.{room_taken, sent_once, sent_started}
use Rattle.sctp_outbound_queue.specs.Outbound.{Outbound, abandoned_from, pieces_waiting, sent_from}
use Rattle.sctp_outbound_queue.specs.Outbound.{tail_dropped, tail_dropped_from}
use Rattle.sctp_outbound_queue.specs.Waiting.{Waiting}
use Rattle.sctp_outbound.specs.declared.abandonment.Reason.TheVariants as reasons
use Rattle.sctp_outbound.specs.declared.sender.Sender.{Sender}
use Rattle.sctp_outbound.specs.Abandonment.{abandoned_of, dropped_by, dropped_first, expired_by, expires, first_dropped}
use Rattle.sctp_outbound.specs.Abandonment.{given_up_before, given_up_first, has_late_tail, late_given_up}
use Rattle.sctp_outbound.specs.Abandonment.{next_given_up, tail_given_up, with_started}
use Rattle.sctp_outbound.specs.Sender.{after_marked, after_missing, both_windows, can_send_next, fast_room}
use Rattle.sctp_outbound.specs.Sender.{first_counted, resends_alone, resent_pieces, sent_new, sent_one}
use Rattle.sctp_outbound.specs.Sender.{sent_probing, sent_within}
use Rattle.sctp_streams.specs.declared.event.AssociationError.TheVariants as ends
use Rattle.sctp_assoc.specs.Calls.{exchanges_data, is_beginning}
use Rattle.sctp_assoc.specs.Gather.{ack_polled, after_fast, after_marks, both_of, control_polled, data_after}
use Rattle.sctp_assoc.specs.Gather.{data_polled, fell_in_poll, is_due, late_abandoned, late_dropped, open_polled}
use Rattle.sctp_assoc.specs.Gather.{polled, with_both}
use Rattle.sctp_assoc.specs.Gather.{with_low_told, with_sent_data, with_t3}
use Rattle.sctp_assoc.specs.Resets.{with_reconfig_run}
use Rattle.sctp_assoc.specs.Shown.{Shown, uses_forward_tsn}
use Rattle.sctp_assoc.proofs.GivenApart.{ChangesControl, with_own_control}
use Rattle.sctp_sides.proofs.EndedPolls.{by_poll_end, complete_given}
use Rattle.sctp_sides.proofs.PollsLeave.{acknowledged_is, after_requests, control_leaves, polled_from, silent_is}
use Rattle.sctp_sides.proofs.ResetsBeside.{run_changes}
use Rattle.sctp_sides.proofs.TimersOverChunks.{IsSound, closed_rests}
use Rattle.sctp_sides.proofs.TimersRun.{ticks_beside}
use Rattle.sctp_sides.proofs.GivingUpKeeps.{KeptByGivingUp, all_kept, late_kept}
use Rattle.sctp_sides.proofs.GivingUpKeeps.{spent_kept}
use Rattle.sctp_sides.proofs.TimersRun.{FitsTimers, Ticks, ack_kept, continued_ticks, exchanging_begins_no_more}
use Rattle.sctp_sides.proofs.TimersRun.{fits_restarted}
use Rattle.sctp_sides.proofs.TimersRun.{nothing_is_not_something, restarted, restarted_keeps_ack, ticks_by, time_by}

-- Sending DATA for the first time

-- Nothing was sent, or there is something in flight and DATA to give.
abbrev Grows : Sender → Sender × List ChunkPayloadData → Type 0
Grows s x =
    ((x.0.queue.in_flight ≡ s.queue.in_flight) × (length x.1 ≡ 0))
    ⊎ ((0 < length x.0.queue.in_flight) × (0 < length x.1))

flown_from : (m : Waiting) (ms : List Waiting) (q : Outbound) (now : ℕ)
    → 0 < length (sent_from (m ∷ ms) q now).in_flight
flown_from m ms q now = omega (arith, length-append q.in_flight (sent_once now m ∷ []))

one_grows : (ms : List Waiting) (s : Sender) (now : ℕ) → s.queue.pending ≡ ms → Grows s (sent_one ms s now)
unfolding sent_one
one_grows [] s now e = inl (refl, refl)
one_grows (m ∷ ms) s now e = inr (
  subst (λ (z : List Waiting). 0 < length (sent_from z s.queue now).in_flight) (sym e) (flown_from m ms s.queue now),
  omega arith,
)

grows_on : (s : Sender) (one rest : Sender × List ChunkPayloadData) → Grows s one → Grows one.0 rest
    → Grows s (rest.0, one.1 ++ rest.1)
grows_on s one rest (inl (e, n)) (inl (f, k)) =
    let both = length-append one.1 rest.1 in inl (f ∙ e, omega (arith, n, k, both))
grows_on s one rest (inl (e, n)) (inr (f, k)) =
    let both = length-append one.1 rest.1 in inr (f, omega (arith, n, k, both))
grows_on s one rest (inr (e, n)) (inl (f, k)) =
    let both = length-append one.1 rest.1 in
    inr (subst (λ (z : List InFlight). 0 < length z) (sym f) e, omega (arith, n, k, both))
grows_on s one rest (inr (e, n)) (inr (f, k)) =
    let both = length-append one.1 rest.1 in inr (f, omega (arith, n, k, both))

grows_if : (c : Bool) (s : Sender) (x y : Sender × List ChunkPayloadData) → Grows s x → Grows s y
    → Grows s (if c then x else y)
grows_if true s x y h k = h
grows_if false s x y h k = k

within_grows : (n : ℕ) (s : Sender) (now : ℕ) → Grows s (sent_within n s now)
within_grows zero s now = inl (refl, refl)
within_grows (suc n) s now =
    let one = sent_one s.queue.pending s now in
    let rest = sent_within n one.0 now in
    grows_if (can_send_next s) s (rest.0, one.1 ++ rest.1) (s, [])
    (grows_on s one rest (one_grows s.queue.pending s now refl) (within_grows n one.0 now)) (inl (refl, refl))

probing_grows : (s : Sender) (now : ℕ) → Grows s (sent_probing s now)
probing_grows s now =
    grows_if (eqb (length s.queue.in_flight) 0 && not (can_send_next s)) s (sent_one s.queue.pending s now)
    (sent_within (pieces_waiting s.queue.pending) s now) (one_grows s.queue.pending s now refl)
    (within_grows (pieces_waiting s.queue.pending) s now)

new_grows : (s : Sender) (now : ℕ) → Grows s (sent_new s now)
new_grows s now = probing_grows s now

-- Sending DATA again

length_if : (c : Bool) (x y : List InFlight) (n : ℕ) → length x ≡ n → length y ≡ n → length (if c then x else y) ≡ n
length_if true x y n e f = e
length_if false x y n e f = f

resent_length : (by : Retransmission) (ps : List InFlight) (room : ℕ) → length (resent_pieces by room ps) ≡ length ps
resent_length by [] room = refl
resent_length by (p ∷ ps) room =
    length_if (not (picks by p)) (p ∷ resent_pieces by room ps) _ (length (p ∷ ps)) (ap suc (resent_length by ps room))
    (length_if (ltb room (room_taken by p)) (p ∷ ps)
    (counted_again by p ∷ resent_pieces by (room - room_taken by p) ps) (length (p ∷ ps)) refl
    (ap suc (resent_length by ps (room - room_taken by p))))

first_length : (ps : List InFlight) → length (first_counted ps) ≡ length ps
first_length [] = refl
first_length (p ∷ ps) = refl

pub marked_keeps_as_many : (s : Sender) → length (after_marked s).queue.in_flight ≡ length s.queue.in_flight
marked_keeps_as_many s =
    length_if (resends_alone s) (first_counted s.queue.in_flight)
    (resent_pieces causes.Timer (both_windows s) s.queue.in_flight) (length s.queue.in_flight)
    (first_length s.queue.in_flight) (resent_length causes.Timer s.queue.in_flight (both_windows s))

pub missing_keeps_as_many : (s : Sender) → length (after_missing s).queue.in_flight ≡ length s.queue.in_flight
missing_keeps_as_many s =
    length_if s.is_fast_due (resent_pieces causes.Fast (fast_room s) s.queue.in_flight) s.queue.in_flight
    (length s.queue.in_flight) (resent_length causes.Fast s.queue.in_flight (fast_room s)) refl

-- Giving messages up

-- something is in flight
abbrev FliesSome : Sender × StreamMap → Type 0
FliesSome x = 0 < length x.0.queue.in_flight

-- With nothing in flight before, nothing is afterwards, and with something, something is.
record IsAlike (f g : List InFlight) : Type 0 where
  none : f ≡ [] → g ≡ []
  some : 0 < length f → 0 < length g

as_many : (f g : List InFlight) → length g ≡ length f → IsAlike f g
as_many f g e = record {
  none = λ n. nil_from_length g (e ∙ ap (λ (xs : List InFlight). length xs) n);
  some = λ l. omega (arith, e, l);
}

alike_on : (f g k : List InFlight) → IsAlike f g → IsAlike g k → IsAlike f k
alike_on f g k m n = record { none = λ e. n.none (m.none e); some = λ l. n.some (m.some l) }

-- pieces of which there is one are some
some_from : (f : List InFlight) → (f ≡ [] → ⊥) → 0 < length f
some_from [] h = absurd (h refl)
some_from (p ∷ ps) h = omega arith

none_from : (f : List InFlight) → (0 < length f → ⊥) → f ≡ []
none_from [] h = refl
none_from (p ∷ ps) h = absurd (h (omega arith))

some_and_more : (c : Bool) (p q : Outbound) (n k : ℕ) → 0 < length p.in_flight → 0 < length q.in_flight
    → 0 < length (if◌then◌else◌ {A = Outbound × ℕ} c (p, n) (q, k)).0.in_flight
some_and_more true p q n k l m = l
some_and_more false p q n k l m = m

more_fly : (ps : List InFlight) (p : InFlight) → 0 < length (ps ++ p ∷ [])
more_fly [] p = omega arith
more_fly (q ∷ qs) p = omega arith

tail_some : (ms : List Waiting) (q : Outbound) (id : ℕ) → 0 < length q.in_flight
    → 0 < length (tail_dropped_from ms q id).0.in_flight
tail_some [] q id l = l
tail_some (m ∷ ms) q id l =
    some_and_more (m.message.message_id == id) _ q _ _ (more_fly q.in_flight (marker_of m.message)) l

abandoned_some : (o : Option InFlight) (q : Outbound) → 0 < length q.in_flight
    → 0 < length (abandoned_from o q).0.in_flight
abandoned_some None q l = l
abandoned_some (Some p) q l =
    let id = p.message.message_id in
    let more = tail_some q.pending q id l in
    subst (λ (n : ℕ). 0 < n) (sym (length-map (tail_dropped q id).0.in_flight (flagged id))) more

after_tail_some : (c : Bool) (m : Waiting) (ms : List Waiting) (q : Outbound) (now : ℕ) → 0 < length q.in_flight
    → is_expired_tail now m q.in_flight ≡ c → 0 < length (after_tail_expiry_of (m ∷ ms) q now).0.in_flight
after_tail_some true m ms q now l e = rw e (tail_some q.pending q m.message.message_id l)
after_tail_some false m ms q now l e = rw e l

late_tail_some : (ms : List Waiting) (q : Outbound) (now : ℕ) → 0 < length q.in_flight
    → 0 < length (after_tail_expiry_of ms q now).0.in_flight
late_tail_some [] q now l = l
late_tail_some (m ∷ ms) q now l = after_tail_some (is_expired_tail now m q.in_flight) m ms q now l refl

some_started : (now : ℕ) (x : Sender × StreamMap) → FliesSome x → FliesSome (with_started now x.0, x.1)
some_started now x l =
    subst (λ (n : ℕ). 0 < n) (sym (length-map x.0.queue.in_flight (sent_started now))) l

some_abandoned : (index : ℕ) (x : Sender × StreamMap) → FliesSome x → FliesSome (abandoned_of index x)
unfolding abandoned_of
some_abandoned index (s, m) l = abandoned_some (slice_get s.queue.in_flight index) s.queue l

some_tail : (now : ℕ) (x : Sender × StreamMap) → FliesSome x → FliesSome (tail_given_up now x)
unfolding tail_given_up
some_tail now (s, m) l = late_tail_some s.queue.pending s.queue now l

some_dropped : (now : ℕ) (x : Sender × StreamMap) → FliesSome x → FliesSome (first_dropped now x)
unfolding first_dropped
some_dropped now (s, m) l = l

giving_up_keeps_some : (now : ℕ) → KeptByGivingUp FliesSome now
giving_up_keeps_some now = record {
  started = some_started now;
  abandoned = some_abandoned;
  tail = some_tail now;
  dropped = some_dropped now;
}

spent_alike : (uses : Bool) (by : Retransmission) (x : Sender × StreamMap)
    → IsAlike x.0.queue.in_flight (given_up_before uses by x).0.queue.in_flight
spent_alike false by x = as_many x.0.queue.in_flight x.0.queue.in_flight refl
spent_alike true by x = record {
  none = λ e. ap (λ (ps : List InFlight). (given_up_first (length ps) (reasons.Spent by) x).0.queue.in_flight) e ∙ e;
  some = λ l. spent_kept FliesSome 0 true (λ used. giving_up_keeps_some 0) by x l;
}

drop_flown : (now : ℕ) (x : Sender × StreamMap) → (first_dropped now x).0.queue.in_flight ≡ x.0.queue.in_flight
unfolding first_dropped
drop_flown now (s, m) = refl

dropped_flown : (now n : ℕ) (x : Sender × StreamMap)
    → (dropped_first n now x).0.queue.in_flight ≡ x.0.queue.in_flight
dropped_flown now zero x = refl
dropped_flown now (suc n) x = dropped_flown now n (first_dropped now x) ∙ drop_flown now x

drops_alike : (uses : Bool) (now : ℕ) (x : Sender × StreamMap)
    → IsAlike x.0.queue.in_flight (dropped_by uses now x).0.queue.in_flight
drops_alike false now x = as_many x.0.queue.in_flight x.0.queue.in_flight refl
drops_alike true now x =
    as_many x.0.queue.in_flight (dropped_first (length x.0.queue.pending) now x).0.queue.in_flight
    (ap (λ (ps : List InFlight). length ps) (dropped_flown now (length x.0.queue.pending) x))

-- where no tail is late, none is given up
no_tail_if : (c : Bool) (m : Waiting) (ms : List Waiting) (q : Outbound) (now : ℕ)
    → is_expired_tail now m q.in_flight ≡ c → is_some (after_tail_expiry_of (m ∷ ms) q now).1 ≡ false
    → (after_tail_expiry_of (m ∷ ms) q now).0 ≡ q
no_tail_if true m ms q now e none = absurd (true≢false (rw e at none))
no_tail_if false m ms q now e none = rw e refl

no_tail : (ms : List Waiting) (q : Outbound) (now : ℕ) → is_some (after_tail_expiry_of ms q now).1 ≡ false
    → (after_tail_expiry_of ms q now).0 ≡ q
no_tail [] q now none = refl
no_tail (m ∷ ms) q now none = no_tail_if (is_expired_tail now m q.in_flight) m ms q now refl none

tail_flown : (now : ℕ) (x : Sender × StreamMap) → has_late_tail now x.0 ≡ false
    → (tail_given_up now x).0.queue.in_flight ≡ x.0.queue.in_flight
unfolding tail_given_up
tail_flown now (s, m) none = ap (λ (q : Outbound). q.in_flight) (no_tail s.queue.pending s.queue now none)

late_alike : (uses : Bool) (now : ℕ) (x : Sender × StreamMap) → expires uses now x ≡ false
    → IsAlike x.0.queue.in_flight (expired_by uses now x).0.queue.in_flight
late_alike false now x none = as_many x.0.queue.in_flight x.0.queue.in_flight refl
late_alike true now x none =
    let b : Sender × StreamMap = (with_started now x.0, x.1) in
    let parts =
    or_parts (is_some (next_given_up (reasons.Expired now) b.0)) (has_late_tail now (late_given_up now x).0) none in
    record {
      none = λ e.
          let empty : b.0.queue.in_flight ≡ [] = ap (λ (ps : List InFlight). map (sent_started now) ps) e in
          tail_flown now (late_given_up now x) parts.1
          ∙ ap (λ (ps : List InFlight). (given_up_first (length ps) (reasons.Expired now) b).0.queue.in_flight) empty
          ∙ empty;
      some = λ l. late_kept FliesSome now true (λ used. giving_up_keeps_some now) x l;
    }

-- where a message is given up, something is in flight

found_some : (test : InFlight → Bool) (ps : List InFlight) → is_some (position test ps) ≡ true → 0 < length ps
found_some test [] e = absurd (false≢true e)
found_some test (p ∷ ps) e = omega arith

tail_marked_if : (c : Bool) (m : Waiting) (ms : List Waiting) (q : Outbound) (now : ℕ) → q.pending ≡ m ∷ ms
    → is_expired_tail now m q.in_flight ≡ c → is_some (after_tail_expiry_of (m ∷ ms) q now).1 ≡ true
    → 0 < length (after_tail_expiry_of (m ∷ ms) q now).0.in_flight
tail_marked_if true m ms q now waits e some =
    let id = m.message.message_id in
    let is : tail_dropped q id ≡ (
      record q { pending = ms; in_flight = q.in_flight ++ marker_of m.message ∷ [] },
      message_bytes m,
    ) =
    ap (λ (z : List Waiting). tail_dropped_from z q id) waits
    ∙ cond-true (id == id) (
      record q { pending = ms; in_flight = q.in_flight ++ marker_of m.message ∷ [] },
      message_bytes m,
    ) (q, 0) (eq-eqb id id refl) in
    rw e (subst (λ (z : Outbound × ℕ). 0 < length z.0.in_flight) (sym is) (more_fly q.in_flight (marker_of m.message)))
tail_marked_if false m ms q now waits e some = absurd (false≢true (rw e at some))

tail_marked : (ms : List Waiting) (q : Outbound) (now : ℕ) → q.pending ≡ ms
    → is_some (after_tail_expiry_of ms q now).1 ≡ true → 0 < length (after_tail_expiry_of ms q now).0.in_flight
tail_marked [] q now waits some = absurd (false≢true some)
tail_marked (m ∷ ms) q now waits some =
    tail_marked_if (is_expired_tail now m q.in_flight) m ms q now waits refl some

tail_flies : (now : ℕ) (x : Sender × StreamMap) → has_late_tail now x.0 ≡ true → FliesSome (tail_given_up now x)
unfolding tail_given_up
tail_flies now (s, m) some = tail_marked s.queue.pending s.queue now refl some

late_some : (uses : Bool) (now : ℕ) (x : Sender × StreamMap) → expires uses now x ≡ true
    → FliesSome (expired_by uses now x)
late_some false now x some = absurd (false≢true some)
late_some true now x some =
    let b : Sender × StreamMap = (with_started now x.0, x.1) in
    ⊎_elim
    (λ (e : is_some (next_given_up (reasons.Expired now) b.0) ≡ true).
    some_tail now (late_given_up now x)
    (all_kept FliesSome now (giving_up_keeps_some now) (length b.0.queue.in_flight) (reasons.Expired now) b
    (found_some (is_expired_piece now) b.0.queue.in_flight e)))
    (λ (e : has_late_tail now (late_given_up now x).0 ≡ true). tail_flies now (late_given_up now x) e)
    (or_cases (is_some (next_given_up (reasons.Expired now) b.0)) (has_late_tail now (late_given_up now x).0) some)

-- A poll

fits_alike : (s : AssociationState) (f g : List InFlight) (t : Timers) → IsAlike f g → FitsTimers s f t
    → FitsTimers s g t
fits_alike s f g t e h = record {
  flies = record {
    timed = λ x p. h.flies.timed x (some_from f (λ (n : f ≡ []). nothing_is_not_something g p (e.none n)));
    none = λ z. h.flies.none (none_from f (λ (l : 0 < length f). nothing_is_not_something g (e.some l) z));
  };
  inits = h.inits;
  cookies = h.cookies;
  unsent = λ b. e.none (h.unsent b);
}

ticks_alike : (a b : Shown) → b.failed ≡ a.failed → b.lost ≡ a.lost → b.state ≡ a.state → b.timers ≡ a.timers
    → b.receiver.ack_state ≡ a.receiver.ack_state
    → IsAlike a.sender.queue.in_flight b.sender.queue.in_flight → Ticks a → Ticks b
ticks_alike a b failed lost state timers acks e h =
    let c : Shown = record a { sender = b.sender } in
    ticks_by c b (time_by c b failed lost state refl timers acks) (record {
      working = h.working;
      not_lost = h.not_lost;
      fits = fits_alike a.state a.sender.queue.in_flight b.sender.queue.in_flight a.timers e h.fits;
      acks = h.acks;
    })

-- T3-rtx runs from now on where this is so, and else nothing is in flight that was not
run_ticks : (any : Bool) (a : Shown) (now : ℕ) (x : Sender × StreamMap) → is_beginning a.state ≡ false
    → (any ≡ true → 0 < length x.0.queue.in_flight)
    → (any ≡ false → IsAlike a.sender.queue.in_flight x.0.queue.in_flight) → Ticks a
    → Ticks (with_t3 any now (with_both x a))
run_ticks false a now x b some alike h =
    ticks_alike a (with_t3 false now (with_both x a)) refl refl refl refl refl (alike refl) h
run_ticks true a now x b some alike h = record {
  working = h.working;
  not_lost = h.not_lost;
  fits = fits_restarted a.state a.sender.queue.in_flight x.0.queue.in_flight a.timers _ b
      (restarted now a.estimate.rto a.timers) (some refl) h.fits;
  acks = ack_kept (restarted_if_stale names.T3RTX now a.estimate.rto a.timers) a.timers a.receiver.ack_state
      (restarted_keeps_ack now a.estimate.rto a.timers) h.acks;
}

late_ticks : (a : Shown) (now : ℕ) → is_beginning a.state ≡ false → Ticks a → Ticks (late_abandoned a now)
late_ticks a now b h =
    let uses = uses_forward_tsn a in
    run_ticks (expires uses now (both_of a)) a now (expired_by uses now (both_of a)) b
    (late_some uses now (both_of a)) (late_alike uses now (both_of a)) h

marks_tick : (a : Shown) → Ticks a → Ticks (after_marks a)
marks_tick a h =
    let x = given_up_before (uses_forward_tsn a) causes.Timer (both_of a) in
    ticks_alike a (after_marks a) refl refl refl refl refl
    (alike_on a.sender.queue.in_flight x.0.queue.in_flight (after_marked x.0).queue.in_flight
    (spent_alike (uses_forward_tsn a) causes.Timer (both_of a))
    (as_many x.0.queue.in_flight (after_marked x.0).queue.in_flight (marked_keeps_as_many x.0))) h

fast_ticks : (a : Shown) → Ticks a → Ticks (after_fast a)
fast_ticks a h =
    let x = given_up_before (uses_forward_tsn a) causes.Fast (both_of a) in
    ticks_alike a (after_fast a) refl refl refl refl refl
    (alike_on a.sender.queue.in_flight x.0.queue.in_flight (after_missing x.0).queue.in_flight
    (spent_alike (uses_forward_tsn a) causes.Fast (both_of a))
    (as_many x.0.queue.in_flight (after_missing x.0).queue.in_flight (missing_keeps_as_many x.0))) h

drops_tick : (a : Shown) (now : ℕ) → Ticks a → Ticks (late_dropped a now)
drops_tick a now h =
    ticks_alike a (late_dropped a now) refl refl refl refl refl
    (drops_alike (uses_forward_tsn a) now (both_of a)) h

sent_some : (s : Sender) (x : Sender × List ChunkPayloadData) → Grows s x → ltb 0 (length x.1) ≡ true
    → 0 < length x.0.queue.in_flight
sent_some s x (inl (e, n)) some = absurd (false≢true (sym (le-ltb 0 (length x.1) (omega (arith, n))) ∙ some))
sent_some s x (inr (l, n)) some = l

sent_alike : (s : Sender) (x : Sender × List ChunkPayloadData) → Grows s x → ltb 0 (length x.1) ≡ false
    → IsAlike s.queue.in_flight x.0.queue.in_flight
sent_alike s x (inl (e, n)) none =
    as_many s.queue.in_flight x.0.queue.in_flight (ap (λ (ps : List InFlight). length ps) e)
sent_alike s x (inr (l, n)) none = absurd (true≢false (sym (lt-ltb 0 (length x.1) n) ∙ none))

sent_ticks : (a : Shown) (now : ℕ) → is_beginning a.state ≡ false → Ticks a
    → Ticks (with_sent_data a now (sent_new a.sender now))
sent_ticks a now b h =
    let x = sent_new a.sender now in
    let grows = new_grows a.sender now in
    run_ticks (ltb 0 (length x.1)) a now (x.0, a.streams) b (sent_some a.sender x grows) (sent_alike a.sender x grows) h

data_ticks : (a : Shown) (now : ℕ) → exchanges_data a.state ≡ true → Ticks a → Ticks (data_polled a now).0
unfolding data_polled
data_ticks a now e h =
    let b = exchanging_begins_no_more a.state e in
    let late : Shown = late_abandoned a now in
    let marks : Shown = after_marks late in
    let fast : Shown = after_fast marks in
    let drops : Shown = late_dropped fast now in
    let sent : Shown = with_sent_data drops now (sent_new drops.sender now) in
    ticks_by sent (with_low_told (fell_in_poll a now) sent) (time_by sent _ refl refl refl refl refl refl)
    (sent_ticks drops now b (drops_tick fast now (fast_ticks marks (marks_tick late (late_ticks a now b h)))))

due_is_not_delayed : (s : AckState) → is_due s ≡ true → is_delayed s ≡ false
due_is_not_delayed acks.Idle e = refl
due_is_not_delayed acks.Immediate e = refl
due_is_not_delayed acks.Delay e = absurd (false≢true e)

ack_ticks : (due : Bool) (a : Shown) → is_due a.receiver.ack_state ≡ due → Ticks a → Ticks (ack_polled a).0
unfolding ack_polled
ack_ticks true a e h = rw e (record {
  working = h.working;
  not_lost = h.not_lost;
  fits = h.fits;
  acks = h.acks ∙ due_is_not_delayed a.receiver.ack_state e;
})
ack_ticks false a e h = rw e h

after_ticks : (b : Shown) → Ticks b → Ticks (after_requests b)
after_ticks b h =
    let c : Shown = record b { receiver = (ack_polled b).0.receiver } in
    ticks_by c (after_requests b) (time_by c (after_requests b) refl refl refl refl refl refl)
    (subst (λ (z : Shown). Ticks z) (acknowledged_is b) (ack_ticks (is_due b.receiver.ack_state) b refl h))

-- requests of this side leave it
control_ticks : (a b : Shown) → ChangesControl a b → Ticks a → Ticks b
control_ticks a b e h =
    let c : Shown = with_own_control a b.resets.own b.control in
    subst (λ (z : Shown). Ticks z) (sym e) (ticks_by a c (time_by a c refl refl refl refl refl refl) h)

front_ticks_if : (exchanges : Bool) (a : Shown) (now : ℕ) → exchanges_data a.state ≡ exchanges → Ticks a
    → Ticks (open_polled a now).0
front_ticks_if true a now e h =
    let p = polled_from a now e in
    let b = after_requests p.asked in
    subst (λ (z : Shown). Ticks z) (sym p.there)
    (ticks_beside b (with_reconfig_run b now) (run_changes b now)
    (after_ticks p.asked (control_ticks (data_after a now).0 p.asked p.requests
    (continued_ticks (data_polled a now).0 (data_ticks a now e h)))))
front_ticks_if false a now e h =
    let b = (control_polled a).0 in
    subst (λ (z : Shown). Ticks z) (sym (silent_is a now e))
    (ticks_beside b (with_reconfig_run b now) (run_changes b now) (control_ticks a b (control_leaves a) h))

front_ticks : (a : Shown) (now : ℕ) → Ticks a → Ticks (open_polled a now).0
front_ticks a now h = front_ticks_if (exchanges_data a.state) a now refl h

-- it works on, or the end of the poll closed it
pub polls_sound : (a : Shown) (now : ℕ) → Ticks a → IsSound (polled a now).0
polls_sound a now h =
    let m : Shown = (open_polled a now).0 in
    let front = front_ticks a now h in
    by_poll_end IsSound a now
    (λ e due timer.
    inl (record { working = front.working; not_lost = front.not_lost; fits = front.fits; acks = front.acks }))
    (λ e open_still. inr (closed_rests (complete_given m) ends.AssociationClosed))
