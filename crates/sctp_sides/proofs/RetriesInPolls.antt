-- A poll gives no piece out again that was sent as often as its policy allows, where FORWARD TSN is in use.
use Rattle.std.proofs.Common.{◌≡◌, refl, sym, ap, ◌∙◌, subst, ⊎_elim, ℕ, ◌+◌, ◌-◌, Bool, true, false, not}
use Rattle.std.proofs.Common.{if◌then◌else◌, List, [], ◌∷◌, ◌++◌, length, nat_lt, slice_get, slice_set, Option, Some}
use Rattle.std.proofs.Common.{None, is_some}
use Rattle.std.proofs.lemmas.Bool.{cases_Bool, false≢true}
use Rattle.std.proofs.lemmas.List.{append_assoc}
use Rattle.std.specs.List.{AllByRecursion}
use Rattle.sctp_serial.specs.Serial.{tsn}
use Rattle.sctp_wire_types.specs.declared.chunk.ChunkPayloadData.{ChunkPayloadData}
use Rattle.sctp_outbound_queue.specs.declared.message.InFlight.{InFlight}
use Rattle.sctp_outbound_queue.specs.declared.message.Retransmission.{Retransmission}
use Rattle.sctp_outbound_queue.specs.declared.message.Retransmission.TheVariants as causes
use Rattle.sctp_outbound_queue.specs.Message.{counted_again, picks, room_taken}
use Rattle.sctp_outbound_queue.specs.Outbound.{Outbound, changed_from}
use Rattle.sctp_streams.specs.Streams.{StreamMap}
use Rattle.sctp_outbound.specs.declared.abandonment.Reason.TheVariants as reasons
use Rattle.sctp_outbound.specs.declared.sender.Sender.{Sender}
use Rattle.sctp_outbound.specs.Abandonment.{first_spent, given_up_before, is_spent, spent_index}
use Rattle.sctp_outbound.specs.Sender.{alone_length_of, asks_again, both_windows, fast_room, resend_window}
use Rattle.sctp_outbound.specs.Sender.{resends_alone}
use Rattle.sctp_outbound.proofs.NoneLeft.{none_is_left}
use Rattle.sctp_outbound.proofs.Spared.{alone_marked, due_index, marked_index, some_is_none}
use Rattle.sctp_outbound.proofs.Unlimited.{index_on, index_skip, index_spent}
use Rattle.sctp_directions.specs.Acts.{Act, CanAll, History, Parts, all_data_given, can_go_again, chunk_said}
use Rattle.sctp_directions.specs.Acts.{data_given, done, done_all}
use Rattle.sctp_assoc.specs.Calls.{exchanges_data}
use Rattle.sctp_assoc.specs.Gather.{both_of, fast_polled, fast_sent, is_due, late_abandoned, late_dropped, marks_polled}
use Rattle.sctp_assoc.specs.Gather.{marks_sent, open_polled, spent_abandoned}
use Rattle.sctp_assoc.specs.Happened.{acts_of_ack, acts_of_data_poll, acts_of_ending, acts_of_exchange}
use Rattle.sctp_assoc.specs.Happened.{acts_of_fast_poll, acts_of_forwarding}
use Rattle.sctp_assoc.specs.Happened.{acts_of_late, acts_of_marks, acts_of_marks_poll, acts_of_missing, acts_of_new}
use Rattle.sctp_assoc.specs.Happened.{acts_of_new_poll, acts_of_poll, acts_of_resending, acts_of_spent, acts_of_unsent}
use Rattle.sctp_assoc.specs.Happened.{first_again, forwards_of_poll}
use Rattle.sctp_assoc.specs.Shutdown.{completes_shutdown}
use Rattle.sctp_assoc.specs.Leads.{Binds, parts}
use Rattle.sctp_assoc.specs.Shown.{Shown, uses_forward_tsn}
use Rattle.sctp_assoc.proofs.Giving.{Gives, gives_on}
use Rattle.sctp_assoc.proofs.MarksOutstanding.{AreMarkedRight}
use Rattle.sctp_assoc.proofs.PolledData.{acts_full, acts_sent, acts_skip, get_behind, one_longer, set_behind}
use Rattle.sctp_assoc.proofs.PolledSteps.{drops_gives, fast, late, late_right, marks, marks_right, spent_gives}
use Rattle.sctp_sides.specs.SideLaws.{GivesNew}
use Rattle.sctp_sides.proofs.ActsOfChunks.{new_gives}
use Rattle.sctp_sides.proofs.TimesGiven.{AllSpare, is_spared}

-- one list of acts behind another
pub spare_join : (xs ys : List Act) (p : Parts) → AllSpare xs p → AllSpare ys (done_all xs p) → AllSpare (xs ++ ys) p
spare_join [] ys p first more = more
spare_join (x ∷ xs) ys p (one, rest) more = (one, spare_join xs ys (done x p) rest more)

-- Acts that give no DATA out

nothing_behind : {X : Type 0} (xs ys : List X) → xs ++ ys ≡ [] → ys ≡ []
nothing_behind [] ys e = e
nothing_behind (x ∷ xs) ys e = absurd (cc)

said_if : (at_once : Bool) (x : Option InFlight) (t : ℕ) (more : List ChunkPayloadData) → can_go_again x ≡ true
    → chunk_said at_once x t ++ more ≡ [] → ⊥
said_if at_once None t more can e = false≢true can
said_if at_once (Some x) t more can e = cc

silent_spare : (xs : List Act) (p : Parts) → CanAll xs p → all_data_given xs p ≡ [] → AllSpare xs p
silent_spare [] p can none = tt
silent_spare (Act.SentAgain at_once by index ∷ xs) p (can, cans) none =
    absurd (said_if at_once (slice_get p.queue.in_flight index) (tsn p.history.own (p.history.base + index))
    (all_data_given xs (done (Act.SentAgain at_once by index) p)) can none)
silent_spare (act ∷ xs) p (can, cans) none =
    (tt, silent_spare xs (done act p) cans (nothing_behind (data_given act p) (all_data_given xs (done act p)) none))

-- What goes out for the first time

new_spare : (xs : List Act) (p : Parts) → AllByRecursion GivesNew xs → AllSpare xs p
new_spare [] p all = tt
new_spare (Act.Sent at_once now ∷ xs) p (one, more) = (tt, new_spare xs (done (Act.Sent at_once now) p) more)
new_spare (act ∷ xs) p (one, more) = absurd one

-- What goes out again

changed_in : (o : Option InFlight) (x : InFlight) (by : Retransmission) (q : Outbound) (index : ℕ) → o ≡ Some x
    → (changed_from (counted_again by) o q index).in_flight ≡ slice_set q.in_flight index (counted_again by x)
changed_in o x by q index e = rw e refl

-- a pass that reaches no spent piece sends none again, from any piece on
resending_spare : (at_once : Bool) (by : Retransmission) (ps xs : List InFlight) (i room : ℕ) (p : Parts)
    → p.queue.in_flight ≡ xs ++ ps → spent_index by i room ps ≡ None
    → AllSpare (acts_of_resending at_once by (length xs) room ps) p
resending_spare at_once by [] xs i room p e none = tt
resending_spare at_once by (x ∷ ps) xs i room p e none =
    ⊎_elim
    (λ (picked : picks by x ≡ true). ⊎_elim
    (λ (spent : is_spent x ≡ true).
    absurd (some_is_none i (sym (index_spent by i room x ps picked spent) ∙ none)))
    (λ (spared : is_spent x ≡ false). ⊎_elim
    (λ (full : nat_lt room (room_taken by x) ≡ true).
    subst (λ (acts : List Act). AllSpare acts p) (sym (acts_full at_once by x ps (length xs) room picked full)) tt)
    (λ (fits : nat_lt room (room_taken by x) ≡ false).
    let c : InFlight = counted_again by x in
    let left : ℕ = room - room_taken by x in
    let q : Parts = done (Act.SentAgain at_once by (length xs)) p in
    let held : slice_get p.queue.in_flight (length xs) ≡ Some x =
    ap (λ (z : List InFlight). slice_get z (length xs)) e ∙ get_behind xs ps x in
    let counted : q.queue.in_flight ≡ (xs ++ c ∷ []) ++ ps =
    changed_in (slice_get p.queue.in_flight (length xs)) x by p.queue (length xs) held
    ∙ ap (λ (z : List InFlight). slice_set z (length xs) c) e ∙ set_behind xs ps x c
    ∙ sym (append_assoc xs (c ∷ []) ps) in
    let rest =
    resending_spare at_once by ps (xs ++ c ∷ []) (i + 1) left q counted
    (sym (index_on by i room x ps picked spared fits) ∙ none) in
    subst (λ (acts : List Act). AllSpare acts p) (sym (acts_sent at_once by x ps (length xs) room picked fits)) (
      ap is_spared held ∙ ap not spared,
      subst (λ (l : ℕ). AllSpare (acts_of_resending at_once by l left ps) q) (one_longer xs c) rest,
    ))
    (cases_Bool (nat_lt room (room_taken by x))))
    (cases_Bool (is_spent x)))
    (λ (skipped : picks by x ≡ false).
    let rest =
    resending_spare at_once by ps (xs ++ x ∷ []) (i + 1) room p (e ∙ sym (append_assoc xs (x ∷ []) ps))
    (sym (index_skip by i room x ps skipped) ∙ none) in
    subst (λ (acts : List Act). AllSpare acts p) (sym (acts_skip at_once by x ps (length xs) room skipped))
    (subst (λ (l : ℕ). AllSpare (acts_of_resending at_once by l room ps) p) (one_longer xs x) rest))
    (cases_Bool (picks by x))

-- nor is a first piece spent that goes alone
first_spare : (at_once : Bool) (ps : List InFlight) (window room : ℕ) (p : Parts) → p.queue.in_flight ≡ ps
    → is_some (alone_length_of window (slice_get ps 0)) ≡ true → spent_index causes.Timer 0 room ps ≡ None
    → AllSpare (first_again at_once ps) p
first_spare at_once [] window room p e alone none = tt
first_spare at_once (x ∷ ps) window room p e alone none =
    ⊎_elim
    (λ (spent : is_spent x ≡ true).
    absurd (some_is_none 0 (sym (index_spent causes.Timer 0 room x ps (alone_marked window x alone) spent) ∙ none)))
    (λ (spared : is_spent x ≡ false).
    (ap (λ (z : List InFlight). is_spared (slice_get z 0)) e ∙ ap not spared, tt))
    (cases_Bool (is_spent x))

marks_spare_if : (alone : Bool) (s : Sender) (p : Parts) → resends_alone s ≡ alone
    → p.queue.in_flight ≡ s.queue.in_flight → spent_index causes.Timer 0 (both_windows s) s.queue.in_flight ≡ None
    → AllSpare (if alone then first_again (asks_again s) s.queue.in_flight else
    acts_of_resending (asks_again s) causes.Timer 0 (both_windows s) s.queue.in_flight) p
marks_spare_if true s p alone e none =
    first_spare (asks_again s) s.queue.in_flight (resend_window s) (both_windows s) p e alone none
marks_spare_if false s p alone e none =
    resending_spare (asks_again s) causes.Timer s.queue.in_flight [] 0 (both_windows s) p e none

marks_spare : (s : Sender) (p : Parts) → p.queue.in_flight ≡ s.queue.in_flight → first_spent causes.Timer s ≡ None
    → AllSpare (acts_of_marks s) p
marks_spare s p e none = marks_spare_if (resends_alone s) s p refl e (marked_index s none)

missing_spare_if : (due : Bool) (s : Sender) (p : Parts) → s.is_fast_due ≡ due
    → p.queue.in_flight ≡ s.queue.in_flight → first_spent causes.Fast s ≡ None
    → AllSpare (if due then acts_of_resending (asks_again s) causes.Fast 0 (fast_room s) s.queue.in_flight else []) p
missing_spare_if true s p due e none =
    resending_spare (asks_again s) causes.Fast s.queue.in_flight [] 0 (fast_room s) p e (due_index causes.Fast s due none)
missing_spare_if false s p due e none = tt

missing_spare : (s : Sender) (p : Parts) → p.queue.in_flight ≡ s.queue.in_flight → first_spent causes.Fast s ≡ None
    → AllSpare (acts_of_missing s) p
missing_spare s p e none = missing_spare_if s.is_fast_due s p refl e none

-- once what is spent was given up, none of it is left
none_is_spent : (uses : Bool) (k : Retransmission) (all : Sender × StreamMap) → uses ≡ true
    → first_spent k (given_up_before uses k all).0 ≡ None
none_is_spent true k (s, m) e = none_is_left (reasons.Spent k) s m
none_is_spent false k all e = absurd (false≢true e)

-- What a poll does at its end

ack_spares : (due : Bool) (p : Parts) → AllSpare (if due then Act.Reported ∷ [] else []) p
ack_spares true p = (tt, tt)
ack_spares false p = tt

forwarding_spares : (gives : Bool) (p : Parts) → AllSpare (acts_of_forwarding gives) p
forwarding_spares true p = (tt, tt)
forwarding_spares false p = tt

-- A poll of an association that stands on a history, where FORWARD TSN is in use.
module _ (a : Shown) (now : ℕ) (h : History) (tied : a.sender.queue.first_tsn ≡ tsn h.own h.base)
    (right : AreMarkedRight a.sender.queue.in_flight) (uses : uses_forward_tsn a ≡ true) where
  late_spares : AllSpare (acts_of_late a now) (parts a h)
  late_spares =
      let g = late a now h tied right in
      silent_spare (acts_of_late a now) (parts a h) g.can g.said

  marks_spares : AllSpare (acts_of_marks_poll (late_abandoned a now)) (parts (late_abandoned a now) h)
  marks_spares =
      let c : Shown = late_abandoned a now in
      let b : Shown = spent_abandoned causes.Timer c in
      let up : Gives (acts_of_spent causes.Timer c) (parts c h) (parts b h) [] =
      spent_gives (uses_forward_tsn a) causes.Timer (both_of c) h (late_right a now h tied right) in
      spare_join (acts_of_spent causes.Timer c) (acts_of_marks b.sender) (parts c h)
      (silent_spare (acts_of_spent causes.Timer c) (parts c h) up.can up.said)
      (subst (AllSpare (acts_of_marks b.sender)) up.there
      (marks_spare b.sender (parts b h) refl (none_is_spent (uses_forward_tsn a) causes.Timer (both_of c) uses)))

  fast_spares : AllSpare (acts_of_fast_poll (marks_polled a now)) (parts (marks_polled a now) h)
  fast_spares =
      let c : Shown = marks_polled a now in
      let b : Shown = spent_abandoned causes.Fast c in
      let up : Gives (acts_of_spent causes.Fast c) (parts c h) (parts b h) [] =
      spent_gives (uses_forward_tsn a) causes.Fast (both_of c) h (marks_right a now h tied right) in
      spare_join (acts_of_spent causes.Fast c) (acts_of_missing b.sender) (parts c h)
      (silent_spare (acts_of_spent causes.Fast c) (parts c h) up.can up.said)
      (subst (AllSpare (acts_of_missing b.sender)) up.there
      (missing_spare b.sender (parts b h) refl (none_is_spent (uses_forward_tsn a) causes.Fast (both_of c) uses)))

  new_spares : AllSpare (acts_of_new_poll (fast_polled a now) now) (parts (fast_polled a now) h)
  new_spares =
      let c : Shown = fast_polled a now in
      let s : Sender = (late_dropped c now).sender in
      let drops = drops_gives (uses_forward_tsn a) now (both_of c) h in
      spare_join (acts_of_unsent c now) (acts_of_new s now) (parts c h)
      (silent_spare (acts_of_unsent c now) (parts c h) drops.can drops.said)
      (new_spare (acts_of_new s now) (done_all (acts_of_unsent c now) (parts c h)) (new_gives s now))

  -- the acts of a poll up to those that send what the timer marked, and up to those that send what is missing
  to_marks : Gives (acts_of_late a now ++ acts_of_marks_poll (late_abandoned a now)) (parts a h)
      (parts (marks_polled a now) h) ([] ++ marks_sent (late_abandoned a now))
  to_marks =
      gives_on (acts_of_late a now) (acts_of_marks_poll (late_abandoned a now)) (parts a h)
      (parts (late_abandoned a now) h) (parts (marks_polled a now) h) [] (marks_sent (late_abandoned a now))
      (late a now h tied right) (marks a now h tied right)

  to_fast : Gives (acts_of_late a now ++ acts_of_marks_poll (late_abandoned a now)
      ++ acts_of_fast_poll (marks_polled a now)) (parts a h) (parts (fast_polled a now) h)
      (([] ++ marks_sent (late_abandoned a now)) ++ fast_sent (marks_polled a now))
  to_fast =
      gives_on (acts_of_late a now ++ acts_of_marks_poll (late_abandoned a now))
      (acts_of_fast_poll (marks_polled a now)) (parts a h) (parts (marks_polled a now) h)
      (parts (fast_polled a now) h) ([] ++ marks_sent (late_abandoned a now)) (fast_sent (marks_polled a now)) to_marks
      (fast a now h tied right)

  data_poll_spares : AllSpare (acts_of_data_poll a now) (parts a h)
  data_poll_spares =
      let first = acts_of_late a now in
      let second = acts_of_marks_poll (late_abandoned a now) in
      let third = acts_of_fast_poll (marks_polled a now) in
      let fourth = acts_of_new_poll (fast_polled a now) now in
      spare_join (first ++ second ++ third) fourth (parts a h)
      (spare_join (first ++ second) third (parts a h)
      (spare_join first second (parts a h) late_spares
      (subst (AllSpare second) (late a now h tied right).there marks_spares))
      (subst (AllSpare third) to_marks.there fast_spares))
      (subst (AllSpare fourth) to_fast.there new_spares)

  exchange_spares_where : AllSpare (acts_of_data_poll a now ++ acts_of_ack a
      ++ acts_of_forwarding (forwards_of_poll a now)) (parts a h)
  exchange_spares_where =
      let data_acts = acts_of_data_poll a now in
      spare_join (data_acts ++ acts_of_ack a) (acts_of_forwarding (forwards_of_poll a now)) (parts a h)
      (spare_join data_acts (acts_of_ack a) (parts a h) data_poll_spares
      (ack_spares (is_due a.receiver.ack_state) (done_all data_acts (parts a h))))
      (forwarding_spares (forwards_of_poll a now) (done_all (data_acts ++ acts_of_ack a) (parts a h)))

spare_if : (c : Bool) (xs : List Act) (p : Parts) → (c ≡ true → AllSpare xs p) → AllSpare (if c then xs else []) p
spare_if true xs p all = all refl
spare_if false xs p all = tt

-- While no DATA is exchanged it gives none out.
exchange_spares : (a : Shown) (now : ℕ) (h : History) → Binds a h
    → (exchanges_data a.state ≡ true → uses_forward_tsn a ≡ true) → AllSpare (acts_of_exchange a now) (parts a h)
exchange_spares a now h binds uses =
    spare_if (exchanges_data a.state)
    (acts_of_data_poll a now ++ acts_of_ack a ++ acts_of_forwarding (forwards_of_poll a now)) (parts a h)
    (λ e. exchange_spares_where a now h binds.first binds.marked (uses e))

-- The end of a poll gives none out.
pub polls_spare : (a : Shown) (now : ℕ) (h : History) → Binds a h
    → (exchanges_data a.state ≡ true → uses_forward_tsn a ≡ true) → AllSpare (acts_of_poll a now) (parts a h)
polls_spare a now h binds uses =
    let front = acts_of_exchange a now in
    let b : Shown = (open_polled a now).0 in
    spare_join front (acts_of_ending b) (parts a h) (exchange_spares a now h binds uses)
    (spare_if (completes_shutdown b) (Act.Ended ∷ []) (done_all front (parts a h)) (λ e. (tt, tt)))
