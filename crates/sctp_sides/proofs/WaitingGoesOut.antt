-- What waits goes out with the next poll where nothing is in flight.
use Rattle.std.proofs.Common.{◌≡◌, refl, sym, ap, ◌∙◌, subst, ℕ, zero, suc, ◌<◌, ◌≤◌, ◌+◌, ◌%◌, ◌^◌, arith}
use Rattle.std.proofs.Common.{Bool, true, false, not, ◌&&◌, if◌then◌else◌, List, [], ◌∷◌, ◌++◌, length, map, nat_lt}
use Rattle.std.proofs.Common.{slice_get, Option, Some, None, Ok}
use Rattle.std.specs.List.{AllByRecursion, filter, list_any}
use Rattle.std.proofs.lemmas.Bool.{cond-false, cond-true, lt-ltb}
use Rattle.std.proofs.lemmas.List.{append_assoc}
use Rattle.std.proofs.lemmas.List.Sums.{sum_by-cons}
use Rattle.sctp_wire_types.specs.declared.chunk.ChunkPayloadData.{ChunkPayloadData}
use Rattle.sctp_wire_types.specs.declared.packet.CommonHeader.{CommonHeader}
use Rattle.sctp_wire.specs.declared.packet.Packet.{Packet}
use Rattle.sctp_wire.specs.DataPackets.{all_of, data_fits, datagrams_of, data_packet}
use Rattle.sctp_wire.specs.Packets.{packet_fits, spelling, written}
use Rattle.sctp_serial.specs.Serial.{tsn}
use Rattle.sctp_outbound_queue.specs.declared.message.InFlight.{InFlight}
use Rattle.sctp_outbound_queue.specs.declared.message.Retransmission.{Retransmission}
use Rattle.sctp_outbound_queue.specs.declared.message.Retransmission.TheVariants as causes
use Rattle.sctp_outbound_queue.specs.declared.queue.Released.{Released}
use Rattle.sctp_outbound_queue.specs.Expiry.{after_tail_expiry_of, is_expired_tail, without_expired}
use Rattle.sctp_outbound_queue.specs.Message.{is_expired, is_expired_unsent, is_of, moved_down, piece_count}
use Rattle.sctp_outbound_queue.specs.Message.{sent_started, started, waiting_started}
use Rattle.sctp_outbound_queue.specs.Outbound.{Outbound, next_tsn_of, pieces_waiting, released, tail_dropped, tsn_at}
use Rattle.sctp_outbound_queue.specs.Waiting.{Waiting}
use Rattle.sctp_streams.specs.Streams.{StreamMap}
use Rattle.sctp_inbound.specs.Handshake.{header_of}
use Rattle.sctp_outbound.specs.declared.abandonment.Reason.{Reason}
use Rattle.sctp_outbound.specs.declared.abandonment.Reason.TheVariants as reasons
use Rattle.sctp_outbound.specs.declared.sender.Sender.{Sender}
use Rattle.sctp_outbound.specs.Abandonment.{all_given_up, dropped_by, dropped_first, expired_by, first_dropped}
use Rattle.sctp_outbound.specs.Abandonment.{given_up_before, given_up_first, late_given_up, tail_given_up}
use Rattle.sctp_outbound.specs.Abandonment.{with_started}
use Rattle.sctp_outbound.specs.Sender.{after_marked, after_missing, both_windows, can_send_next, fast_room, first_chunk}
use Rattle.sctp_outbound.specs.Sender.{asks_again, asks_at_once, first_counted, marked_by, missing_by, next_chunk_of, resends_alone}
use Rattle.sctp_outbound.specs.Sender.{resent_chunks, resent_pieces, sent_new, sent_one, sent_within}
use Rattle.sctp_directions.specs.Acts.{Act, Parts, all_data_given, done_all}
use Rattle.sctp_assoc.specs.Leads.{parts}
use Rattle.sctp_assoc.specs.Happened.{acts_of_ack, acts_of_data_poll, acts_of_ending, acts_of_exchange}
use Rattle.sctp_assoc.specs.Happened.{acts_of_forwarding, forwards_of_poll}
use Rattle.sctp_assoc.specs.Calls.{exchanges_data}
use Rattle.sctp_sides.specs.Laws.{IsNextWithNothingInFlight, IsNotLate, PollsBeginWithWhatWaits, WhatWaitsIsGiven}
use Rattle.sctp_sides.specs.Laws.{WhatWaitsIsPolled}
use Rattle.sctp_assoc.specs.Gather.{both_of, control_polled, data_polled, exchange_polled, fast_polled, fast_sent}
use Rattle.sctp_assoc.specs.Gather.{late_abandoned, late_dropped, marks_polled, marks_sent, new_sent, open_polled}
use Rattle.sctp_assoc.specs.Gather.{shutdown_polled, spent_abandoned}
use Rattle.sctp_assoc.specs.Shown.{Shown, uses_forward_tsn}
use Rattle.sctp_assoc.proofs.ActsKeepOffsets.{given_append}
use Rattle.sctp_assoc.proofs.PolledSteps.{data_of_poll, data_poll_carries, data_poll_gives}
use Rattle.sctp_sides.proofs.BundlesFilled.{IsFilled, polled_bundles_are_filled}
use Rattle.sctp_sides.proofs.GivingUpKeeps.{as_both}
use Rattle.sctp_sides.proofs.EndedPolls.{polled_gives_last}
use Rattle.sctp_sides.proofs.PollsLeave.{control_leaves, exchange_said, front_gives}
use Rattle.sctp_assoc.proofs.GivenApart.{with_own_control}

-- lists that begin with something go on beginning with it
first_before : {X : Type 0} (xs ys : List X) (x : X) → slice_get xs 0 ≡ Some x → slice_get (xs ++ ys) 0 ≡ Some x
first_before [] ys x e = absurd (cc)
first_before (z ∷ zs) ys x e = e

-- Of a sender.

-- nothing is in flight, and these messages wait
abbrev standing : Sender → Waiting → List Waiting → Sender
standing s m ms = record s { queue = (let q = s.queue in record q { pending = m ∷ ms; in_flight = [] }) }

stands : (s : Sender) (m : Waiting) (ms : List Waiting) → s.queue.pending ≡ m ∷ ms → s.queue.in_flight ≡ []
    → s ≡ standing s m ms
stands s m ms e f =
    ap (λ (z : List _). record s { queue = (let q = s.queue in record q { pending = z }) }) e
    ∙ ap (λ (z : List _). record s { queue = (let q = s.queue in record q { pending = m ∷ ms; in_flight = z }) }) f

one_first : (m : Waiting) (ms : List Waiting) (s : Sender) (now : ℕ)
    → slice_get (sent_one (m ∷ ms) s now).1 0 ≡ Some (next_chunk_of (asks_at_once s) m (next_tsn_of s.queue))
unfolding sent_one
one_first m ms s now = refl

some_wait : (m : Waiting) (ms : List Waiting) → pieces_waiting (m ∷ ms) ≡ suc (length m.rest + pieces_waiting ms)
some_wait m ms = let all = sum_by-cons piece_count m ms in omega (arith, all)

within_first : (n : ℕ) (m : Waiting) (ms : List Waiting) (s : Sender) (now : ℕ) → s.queue.pending ≡ m ∷ ms
    → can_send_next s ≡ true
    → slice_get (sent_within (suc n) s now).1 0 ≡ Some (next_chunk_of (asks_at_once s) m (next_tsn_of s.queue))
within_first n m ms s now e fits =
    let one = sent_one s.queue.pending s now in
    rw fits (first_before one.1 (sent_within n one.0 now).1 _
    (ap (λ (z : List Waiting). slice_get (sent_one z s now).1 0) e ∙ one_first m ms s now))

new_first_if : (c : Bool) (s : Sender) (m : Waiting) (ms : List Waiting) (now : ℕ) → can_send_next (standing s m ms) ≡ c
    → slice_get (if not c then sent_one (m ∷ ms) (standing s m ms) now else
    sent_within (pieces_waiting (m ∷ ms)) (standing s m ms) now).1 0
    ≡ Some (next_chunk_of (asks_at_once s) m (next_tsn_of (standing s m ms).queue))
new_first_if false s m ms now e = one_first m ms (standing s m ms) now
new_first_if true s m ms now e = rw (some_wait m ms) (within_first _ m ms (standing s m ms) now refl e)

none_anyway : {A : Type 0} (c : Bool) → ◌≡◌ {A = List A} (if c then [] else []) []
none_anyway true = refl
none_anyway false = refl

new_first : (s : Sender) (m : Waiting) (ms : List Waiting) (now : ℕ) → s.queue.pending ≡ m ∷ ms
    → s.queue.in_flight ≡ []
    → slice_get (sent_new s now).1 0 ≡ Some (next_chunk_of (asks_at_once s) m (next_tsn_of s.queue))
new_first s m ms now e f =
    subst (λ (z : Sender). slice_get (sent_new z now).1 0
    ≡ Some (next_chunk_of (asks_at_once z) m (next_tsn_of z.queue)))
    (sym (stands s m ms e f)) (new_first_if (can_send_next (standing s m ms)) s m ms now refl)

-- Messages are given up, and this one is not.

-- This message is the first of those that wait, nothing is in flight of which this would be the first TSN, and new DATA
-- asks for its SACK at once, or not.
record Begins (m : Waiting) (first : ℕ) (at_once : Bool) (x : Sender × StreamMap) : Type 0 where
  others : List Waiting
  waits : x.0.queue.pending ≡ m ∷ others
  flown : x.0.queue.in_flight ≡ []
  at : x.0.queue.first_tsn ≡ first
  asks : asks_at_once x.0 ≡ at_once

none_late : (a b c : Bool) → b ≡ false → (a && b && c) ≡ false
none_late true b c e = rw e refl
none_late false b c e = refl

none_unsent : (a b : Bool) → b ≡ false → (a && b) ≡ false
none_unsent true b e = e
none_unsent false b e = refl

module _ (m : Waiting) (first : ℕ) (at_once : Bool) (now : ℕ) (kept : is_expired now m.message ≡ false) where
  giving_up_begins : (why : Reason) (x : Sender × StreamMap) → Begins m first at_once x → Begins m first at_once (all_given_up why x)
  giving_up_begins why x b =
      subst (λ (ps : List InFlight). Begins m first at_once (given_up_first (length ps) why x)) (sym b.flown) b

  no_tail : (ms : List Waiting) (q : Outbound) (others : List Waiting) → ms ≡ m ∷ others
      → after_tail_expiry_of ms q now ≡ (q, None)
  no_tail ms q others e =
      ap (λ (z : List Waiting). after_tail_expiry_of z q now) e
      ∙ cond-false (is_expired_tail now m q.in_flight)
      ((tail_dropped q m.message.message_id).0, Some (released m.message (tail_dropped q m.message.message_id).1))
      (q, None)
      (none_late m.begun (is_expired now m.message) (not (list_any (is_of m.message.message_id) q.in_flight)) kept)

  tail_begins : (x : Sender × StreamMap) → Begins m first at_once x → Begins m first at_once (tail_given_up now x)
  unfolding tail_given_up
  tail_begins (s, n) b =
      let same = ap (λ (z : Outbound × Option Released). z.0) (no_tail s.queue.pending s.queue b.others b.waits) in
      record {
        others = b.others;
        waits = ap (λ (q : Outbound). q.pending) same ∙ b.waits;
        flown = ap (λ (q : Outbound). q.in_flight) same ∙ b.flown;
        at = ap (λ (q : Outbound). q.first_tsn) same ∙ b.at;
        asks = b.asks;
      }

  dropped_begins : (x : Sender × StreamMap) → Begins m first at_once x → Begins m first at_once (first_dropped now x)
  unfolding first_dropped
  dropped_begins (s, n) b = record {
    others = without_expired now b.others;
    waits =
        ap (λ (z : List Waiting). without_expired now z) b.waits
        ∙ cond-false (is_expired_unsent now m) (map (moved_down m.message) b.others)
        (m ∷ without_expired now b.others)
        (none_unsent (not m.begun) (is_expired now m.message) kept);
    flown = b.flown;
    at = b.at;
    asks = b.asks;
  }

  first_drops_begin : (n : ℕ) (x : Sender × StreamMap) → Begins m first at_once x → Begins m first at_once (dropped_first n now x)
  first_drops_begin zero x b = b
  first_drops_begin (suc n) x b = first_drops_begin n (first_dropped now x) (dropped_begins x b)

-- a message as it waits once times run, where FORWARD TSN is in use
abbrev kept_as : Bool → ℕ → Waiting → Waiting
kept_as true now m = waiting_started now m
kept_as false now m = m

same_chunk : (uses at_once : Bool) (now : ℕ) (m : Waiting) (t : ℕ)
    → next_chunk_of at_once (kept_as uses now m) t ≡ next_chunk_of at_once m t
same_chunk true at_once now m t = refl
same_chunk false at_once now m t = refl

started_begins : (m : Waiting) (first : ℕ) (at_once : Bool) (now : ℕ) (x : Sender × StreamMap) → Begins m first at_once x
    → Begins (waiting_started now m) first at_once (with_started now x.0, x.1)
started_begins m first at_once now x b = record {
  others = map (waiting_started now) b.others;
  waits = ap (λ (z : List Waiting). map (waiting_started now) z) b.waits;
  flown = ap (λ (z : List InFlight). map (sent_started now) z) b.flown;
  at = b.at;
  asks = b.asks;
}

late_begins : (uses : Bool) (m : Waiting) (first : ℕ) (at_once : Bool) (now : ℕ) (x : Sender × StreamMap)
    → (uses ≡ true → is_expired now (started now m.message) ≡ false) → Begins m first at_once x
    → Begins (kept_as uses now m) first at_once (expired_by uses now x)
late_begins false m first at_once now x kept b = b
late_begins true m first at_once now x kept b =
    let n : Waiting = waiting_started now m in
    tail_begins n first at_once now (kept refl) (late_given_up now x)
    (giving_up_begins n first at_once now (kept refl) (reasons.Expired now) (with_started now x.0, x.1)
    (started_begins m first at_once now x b))

spent_begins : (uses : Bool) (m : Waiting) (first : ℕ) (at_once : Bool) (now : ℕ) (by : Retransmission) (x : Sender × StreamMap)
    → Begins (kept_as uses now m) first at_once x → Begins (kept_as uses now m) first at_once (given_up_before uses by x)
spent_begins false m first at_once now by x b = b
spent_begins true m first at_once now by x b =
    let n : Waiting = waiting_started now m in
    subst (λ (ps : List InFlight). Begins n first at_once (given_up_first (length ps) (reasons.Spent by) x)) (sym b.flown) b

drops_begin : (uses : Bool) (m : Waiting) (first : ℕ) (at_once : Bool) (now : ℕ) (x : Sender × StreamMap)
    → (uses ≡ true → is_expired now (started now m.message) ≡ false)
    → Begins (kept_as uses now m) first at_once x → Begins (kept_as uses now m) first at_once (dropped_by uses now x)
drops_begin false m first at_once now x kept b = b
drops_begin true m first at_once now x kept b =
    first_drops_begin (waiting_started now m) first at_once now (kept refl) (length x.0.queue.pending) x b

-- What goes again is nothing.

marked_none : (s : Sender) → s.queue.in_flight ≡ []
    → (marked_by s ≡ []) × ((after_marked s).queue.in_flight ≡ [])
marked_none s e = (
  ap (λ (ps : List InFlight). if resends_alone s then first_chunk (asks_again s) s.queue.first_tsn ps else
      resent_chunks (asks_again s) causes.Timer s.queue.first_tsn 0 (both_windows s) ps) e
      ∙ none_anyway (resends_alone s),
  ap (λ (ps : List InFlight). if resends_alone s then first_counted ps else
      resent_pieces causes.Timer (both_windows s) ps) e
      ∙ none_anyway (resends_alone s),
)

missing_none : (s : Sender) → s.queue.in_flight ≡ []
    → (missing_by s ≡ []) × ((after_missing s).queue.in_flight ≡ [])
missing_none s e = (
  ap (λ (ps : List InFlight). if s.is_fast_due then
      resent_chunks (asks_again s) causes.Fast s.queue.first_tsn 0 (fast_room s) ps else []) e
      ∙ none_anyway s.is_fast_due,
  ap (λ (ps : List InFlight). if s.is_fast_due then resent_pieces causes.Fast (fast_room s) ps else ps) e
      ∙ none_anyway s.is_fast_due,
)

-- Of an association.

module _ (a : Shown) (now : ℕ) (m : Waiting) (next : IsNextWithNothingInFlight a m) (kept : IsNotLate a now m) where
  abbrev first : ℕ
  first = a.sender.queue.first_tsn

  abbrev at_once : Bool
  at_once = asks_at_once a.sender

  abbrev held : Waiting
  held = kept_as (uses_forward_tsn a) now m

  late_is : Begins held first at_once (both_of (late_abandoned a now))
  late_is =
      as_both (Begins held first at_once) (expired_by (uses_forward_tsn a) now (both_of a))
      (late_begins (uses_forward_tsn a) m first at_once now (both_of a) kept
      (record { others = next.others; waits = next.waits; flown = next.flown; at = refl; asks = refl }))

  marks_spent : Begins held first at_once (both_of (spent_abandoned causes.Timer (late_abandoned a now)))
  marks_spent =
      as_both (Begins held first at_once) (given_up_before (uses_forward_tsn a) causes.Timer (both_of (late_abandoned a now)))
      (spent_begins (uses_forward_tsn a) m first at_once now causes.Timer (both_of (late_abandoned a now)) late_is)

  marks_none : (marks_sent (late_abandoned a now) ≡ []) × ((marks_polled a now).sender.queue.in_flight ≡ [])
  marks_none = marked_none (spent_abandoned causes.Timer (late_abandoned a now)).sender marks_spent.flown

  marks_are : Begins held first at_once (both_of (marks_polled a now))
  marks_are = record {
    others = marks_spent.others;
    waits = marks_spent.waits;
    flown = marks_none.1;
    at = marks_spent.at;
    asks = marks_spent.asks;
  }

  fast_spent : Begins held first at_once (both_of (spent_abandoned causes.Fast (marks_polled a now)))
  fast_spent =
      as_both (Begins held first at_once) (given_up_before (uses_forward_tsn a) causes.Fast (both_of (marks_polled a now)))
      (spent_begins (uses_forward_tsn a) m first at_once now causes.Fast (both_of (marks_polled a now)) marks_are)

  fast_none : (fast_sent (marks_polled a now) ≡ []) × ((fast_polled a now).sender.queue.in_flight ≡ [])
  fast_none = missing_none (spent_abandoned causes.Fast (marks_polled a now)).sender fast_spent.flown

  fast_is : Begins held first at_once (both_of (fast_polled a now))
  fast_is = record {
    others = fast_spent.others;
    waits = fast_spent.waits;
    flown = fast_none.1;
    at = fast_spent.at;
    asks = fast_spent.asks;
  }

  drops_are : Begins held first at_once (both_of (late_dropped (fast_polled a now) now))
  drops_are =
      as_both (Begins held first at_once) (dropped_by (uses_forward_tsn a) now (both_of (fast_polled a now)))
      (drops_begin (uses_forward_tsn a) m first at_once now (both_of (fast_polled a now)) kept fast_is)

  next_is : next_tsn_of (late_dropped (fast_polled a now) now).sender.queue ≡ next_tsn_of a.sender.queue
  next_is =
      ap (λ (ps : List InFlight). tsn_at (late_dropped (fast_polled a now) now).sender.queue.first_tsn (length ps))
      drops_are.flown
      ∙ ap (λ (t : ℕ). tsn_at t 0) drops_are.at
      ∙ ap (λ (ps : List InFlight). tsn_at a.sender.queue.first_tsn (length ps)) (sym next.flown)

  data_begins : slice_get (data_of_poll a now) 0 ≡ Some (next_chunk_of at_once m (next_tsn_of a.sender.queue))
  data_begins =
      ap (λ (cs : List ChunkPayloadData). slice_get (cs ++ fast_sent (marks_polled a now)
      ++ new_sent (fast_polled a now) now) 0) marks_none.0
      ∙ ap (λ (cs : List ChunkPayloadData). slice_get (cs ++ new_sent (fast_polled a now) now) 0) fast_none.0
      ∙ new_first (late_dropped (fast_polled a now) now).sender held drops_are.others now drops_are.waits
      drops_are.flown
      ∙ ap (λ (asks : Bool). Some (next_chunk_of asks held
      (next_tsn_of (late_dropped (fast_polled a now) now).sender.queue))) drops_are.asks
      ∙ ap (λ (t : ℕ). Some (next_chunk_of at_once held t)) next_is
      ∙ ap (λ (c : ChunkPayloadData). Some c)
      (same_chunk (uses_forward_tsn a) at_once now m (next_tsn_of a.sender.queue))

pub short_enough : (n : ℕ) → n < 65532 → (nat_lt n 65532 && true) ≡ true
short_enough n e = rw (lt-ltb n 65532 e) refl

fits_alone : (c : ChunkPayloadData) → length c.user_data ≤ 65519 → data_fits c ≡ true
fits_alone c short = lt-ltb _ 65532 (omega (arith, short))

-- what stands first in a list and is kept stands first in what is kept
kept_first : (xs : List ChunkPayloadData) (c : ChunkPayloadData) → data_fits c ≡ true → slice_get xs 0 ≡ Some c
    → slice_get (filter data_fits xs) 0 ≡ Some c
kept_first [] c fits e = absurd (cc)
kept_first (d ∷ ds) c fits e =
    let same : d ≡ c = cc in
    rw (same, fits) refl

pub what_waits_is_polled : WhatWaitsIsPolled
what_waits_is_polled a now m next kept short =
    ap (λ (z : List ChunkPayloadData). slice_get z 0) (data_poll_carries a now)
    ∙ kept_first (data_of_poll a now) (next_chunk_of (asks_at_once a.sender) m (next_tsn_of a.sender.queue))
    (fits_alone (next_chunk_of (asks_at_once a.sender) m (next_tsn_of a.sender.queue)) short) (data_begins a now m next kept)

first_due : (q : Outbound) (own base : ℕ) → q.first_tsn ≡ tsn own base → q.in_flight ≡ [] → next_tsn_of q ≡ tsn own base
first_due q own base e f =
    ap (λ (z : ℕ). (z + length q.in_flight) % 2 ^ 32) e
    ∙ ap (λ (z : List InFlight). (tsn own base + length z) % 2 ^ 32) f ∙ omega arith

pub what_waits_is_given : WhatWaitsIsGiven
what_waits_is_given a h now m exchanges binds next kept =
    let gives = data_poll_gives a now h binds.first binds.marked in
    let forward = acts_of_forwarding (forwards_of_poll a now) in
    let first : slice_get (all_data_given (acts_of_data_poll a now) (parts a h)) 0
    ≡ Some (next_chunk_of (asks_at_once a.sender) m (next_tsn_of a.sender.queue)) =
    ap (λ (z : List ChunkPayloadData). slice_get z 0) gives.said ∙ data_begins a now m next kept in
    let due : next_tsn_of a.sender.queue ≡ tsn h.own h.base =
    first_due a.sender.queue h.own h.base binds.first next.flown in
    let p : Parts = parts a h in
    let both = acts_of_data_poll a now ++ acts_of_ack a in
    let exchange = acts_of_exchange a now in
    let ending = acts_of_ending (open_polled a now).0 in
    let given : slice_get (all_data_given exchange p) 0 ≡ Some (next_chunk_of (asks_at_once a.sender) m (tsn h.own h.base)) =
    ap (λ (xs : List Act). slice_get (all_data_given xs p) 0)
    (cond-true (exchanges_data a.state) (acts_of_data_poll a now ++ acts_of_ack a ++ forward) [] exchanges)
    ∙ ap (λ (z : List ChunkPayloadData). slice_get z 0) (given_append both forward p
    ∙ ap (λ (z : List ChunkPayloadData). z ++ all_data_given forward (done_all both p))
    (given_append (acts_of_data_poll a now) (acts_of_ack a) p))
    ∙ first_before _ _ _ (first_before _ _ _ (first ∙ ap (λ (t : ℕ). Some (next_chunk_of (asks_at_once a.sender) m t)) due)) in
    ap (λ (z : List ChunkPayloadData). slice_get z 0) (given_append exchange ending p)
    ∙ first_before (all_data_given exchange p) (all_data_given ending (done_all exchange p)) _ given

pub fits_written : (p : Packet) → packet_fits p ≡ true → written p ≡ Ok (spelling p)
unfolding written
fits_written p fits = rw fits refl

-- No packet of DATA is empty, so the first one begins with the first DATA.

first_bundle : (header : CommonHeader) (bundles : List (List ChunkPayloadData)) (c : ChunkPayloadData)
    → AllByRecursion IsFilled bundles → slice_get (all_of bundles) 0 ≡ Some c
    → (rest : List ChunkPayloadData)
    × (slice_get (datagrams_of header bundles) 0 ≡ Some (spelling (data_packet header (c ∷ rest))))
first_bundle header [] c filled e = absurd (cc)
first_bundle header ([] ∷ bs) c (filled, more) e = absurd (omega (arith, filled))
first_bundle header ((d ∷ ds) ∷ bs) c filled e =
    let same : d ≡ c = cc in (ds, ap (λ (z : ChunkPayloadData). Some (spelling (data_packet header (z ∷ ds)))) same)

-- what stands in front of a poll's packets of DATA waited
exchange_begins : (a : Shown) (now : ℕ) (m : Waiting) → exchanges_data a.state ≡ true → IsNextWithNothingInFlight a m
    → IsNotLate a now m → length m.user_data ≤ 65519
    → (rest : List ChunkPayloadData)
    × (slice_get (exchange_polled a now).1 0 ≡ Some
    (spelling (data_packet (header_of a.handshake) (next_chunk_of (asks_at_once a.sender) m (next_tsn_of a.sender.queue) ∷ rest))))
exchange_begins a now m exchanges next kept short =
    let first =
    first_bundle (header_of a.handshake) (data_polled a now).1 (next_chunk_of (asks_at_once a.sender) m (next_tsn_of a.sender.queue))
    (polled_bundles_are_filled a now) (what_waits_is_polled a now m next kept short) in (
      first.0,
      ap (λ (z : List (List ℕ)). slice_get z 0) (exchange_said a now exchanges)
          ∙ first_before _ _ _ (first_before _ _ _ (first_before _ _ _ first.1)),
    )

behind : {X : Type 0} (xs ys : List X) → slice_get (xs ++ ys) (length xs) ≡ slice_get ys 0
behind [] ys = refl
behind (x ∷ xs) ys = behind xs ys

pub polls_begin_with_what_waits : PollsBeginWithWhatWaits
polls_begin_with_what_waits a now m exchanges next kept short =
    let b = (control_polled a).0 in
    let c : Shown = with_own_control a b.resets.own b.control in
    let waits : IsNextWithNothingInFlight c
    m = record { others = next.others; waits = next.waits; flown = next.flown } in
    let first = exchange_begins c now m exchanges waits kept short in
    let control = (control_polled a).1 in
    let exchange = (exchange_polled b now).1 in
    let ending = (shutdown_polled (open_polled a now).0 now).1 in
    let begins = ap (λ (z : Shown). slice_get (exchange_polled z now).1 0) (control_leaves a) ∙ first.1 in (
      first.0,
      ap (λ (z : List (List ℕ)). slice_get z (length control))
          (polled_gives_last a now ∙ ap (λ (z : List (List ℕ)). z ++ ending) (front_gives a now)
          ∙ append_assoc control exchange ending)
          ∙ behind control (exchange ++ ending)
          ∙ first_before exchange ending _ begins,
    )
