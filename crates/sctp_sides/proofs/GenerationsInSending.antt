-- What a side does for its sending, bytes that are released, messages that are given up or dropped, leaves the
-- generations of its streams.
use Rattle.std.proofs.Common.{◌≡◌, refl, ◌∙◌, ℕ, zero, suc, ◌+◌, Bool, true, false, if◌then◌else◌, List, [], ◌∷◌, ◌++◌}
use Rattle.std.proofs.Common.{map, slice_get, length, Option, Some, None}
use Rattle.sctp_wire_types.specs.declared.chunk.GapAckBlock.{GapAckBlock}
use Rattle.sctp_parts.specs.Estimate.{Estimate}
use Rattle.sctp_received.specs.Received.{is_named}
use Rattle.sctp_streams.specs.declared.event.Event.{Event}
use Rattle.sctp_streams.specs.LowMarks.{low_event}
use Rattle.sctp_streams.specs.Stream.{StreamView, released_from, with_ssn_given_back}
use Rattle.sctp_streams.specs.Streams.{StreamMap, changed_stream, given_back_in, is_generation, released_in, stream_at}
use Rattle.sctp_outbound_queue.specs.declared.message.InFlight.{InFlight}
use Rattle.sctp_outbound_queue.specs.declared.message.Retransmission.{Retransmission}
use Rattle.sctp_outbound_queue.specs.declared.message.Retransmission.TheVariants as causes
use Rattle.sctp_outbound_queue.specs.declared.queue.Released.{Released}
use Rattle.sctp_outbound_queue.specs.Expiry.{after_expiry, after_tail_expiry}
use Rattle.sctp_outbound_queue.specs.Outbound.{abandoned_at}
use Rattle.sctp_outbound.specs.declared.abandonment.Reason.{Reason}
use Rattle.sctp_outbound.specs.declared.abandonment.Reason.TheVariants as reasons
use Rattle.sctp_outbound.specs.declared.sender.Sender.{Sender}
use Rattle.sctp_outbound.specs.Abandonment.{abandoned_if, abandoned_of, all_given_up, dropped_by}
use Rattle.sctp_outbound.specs.Abandonment.{dropped_first, expired_by, first_dropped, given_back_of, given_up_before}
use Rattle.sctp_outbound.specs.Abandonment.{given_up_first, late_given_up, next_given_up, released_at, tail_given_up}
use Rattle.sctp_outbound.specs.Abandonment.{with_started}
use Rattle.sctp_outbound.specs.GapAcks.{released_among, with_blocks}
use Rattle.sctp_outbound.specs.Sacks.{before_acknowledging, sack_taken}
use Rattle.sctp_outbound.specs.Sender.{acknowledged, after_first, streams_after, tsns_up_to}
use Rattle.sctp_assoc.specs.Gather.{after_fast, after_marks, after_new, both_of, data_polled, fell_in_poll}
use Rattle.sctp_assoc.specs.Gather.{late_abandoned, late_dropped, new_polled, spent_abandoned}
use Rattle.sctp_assoc.specs.Shown.{Shown, uses_forward_tsn}
use Rattle.sctp_sides.specs.Generations.{finals}
use Rattle.sctp_sides.proofs.GenerationsKept.{HaveSameGenerations, changed_same, same_itself, same_on, same_tally}
use Rattle.sctp_sides.proofs.GenerationsKept.{silent_told, tally}

-- Bytes that are released

if_same : (c : Bool) (m n : StreamMap) → HaveSameGenerations m n → HaveSameGenerations m (if c then n else m)
if_same true m n h = h
if_same false m n h = same_itself m

released_same : (m : StreamMap) (id generation bytes : ℕ) → HaveSameGenerations m (released_in m id generation bytes)
released_same m id generation bytes =
    let f : StreamView → StreamView = λ s. released_from s bytes in
    if_same (is_generation (stream_at m id) generation) m (changed_stream f m id) (changed_same f (λ s. refl) m id)

-- a message that is given back leaves the generation of its stream
given_back_generation : (unordered : Bool) (bytes : ℕ) (s : StreamView)
    → (released_from (if unordered then s else with_ssn_given_back s) bytes).stats.generation ≡ s.stats.generation
given_back_generation true bytes s = refl
given_back_generation false bytes s = refl

given_back_same : (m : StreamMap) (id generation : ℕ) (unordered : Bool) (bytes : ℕ)
    → HaveSameGenerations m (given_back_in m id generation unordered bytes)
given_back_same m id generation unordered bytes =
    let f : StreamView → StreamView =
    λ s. released_from (if unordered then s else with_ssn_given_back s) bytes in
    if_same (is_generation (stream_at m id) generation) m (changed_stream f m id)
    (changed_same f (given_back_generation unordered bytes) m id)

-- A SACK

after_same : (o : Option InFlight) (m : StreamMap) → HaveSameGenerations m (streams_after o m)
after_same None m = same_itself m
after_same (Some p) m = released_same m p.message.stream_identifier p.message.generation _

first_same : (now : ℕ) (x : Sender × Estimate × StreamMap) → HaveSameGenerations x.2 (after_first now x).2
unfolding after_first
first_same now (s, e, m) = after_same (slice_get s.queue.in_flight 0) m

acknowledged_same : (n now : ℕ) (x : Sender × Estimate × StreamMap) → HaveSameGenerations x.2 (acknowledged n now x).2
acknowledged_same zero now x = same_itself x.2
acknowledged_same (suc n) now x =
    same_on x.2 (after_first now x).2 (acknowledged n now (after_first now x)).2 (first_same now x)
    (acknowledged_same n now (after_first now x))

named_same : (named : Bool) (p : InFlight) (m : StreamMap)
    → HaveSameGenerations m (if named then streams_after (Some p) m else m)
named_same true p m = after_same (Some p) m
named_same false p m = same_itself m

among_same : (named : ℕ → Bool) (j : ℕ) (ps : List InFlight) (m : StreamMap)
    → HaveSameGenerations m (released_among named j ps m)
among_same named j [] m = same_itself m
among_same named j (p ∷ ps) m =
    let n : StreamMap = if named j then streams_after (Some p) m else m in
    same_on m n (released_among named (suc j) ps n) (named_same (named j) p m) (among_same named (suc j) ps n)

blocks_same : (now : ℕ) (blocks : List GapAckBlock) (x : Sender × Estimate × StreamMap)
    → HaveSameGenerations x.2 (with_blocks now blocks x).2
blocks_same now blocks (s, e, m) = among_same (λ j. is_named (j + 1) blocks) 0 s.queue.in_flight m

pub sack_same : (cumulative_tsn_ack : ℕ) (blocks : List GapAckBlock) (window now : ℕ) (s : Sender) (e : Estimate)
    (m : StreamMap) → HaveSameGenerations m (sack_taken cumulative_tsn_ack blocks window now s e m).2
sack_same cumulative_tsn_ack blocks window now s e m =
    let n : ℕ = tsns_up_to s cumulative_tsn_ack in
    let x : Sender × Estimate × StreamMap = (before_acknowledging n window s, e, m) in
    same_on m (acknowledged n now x).2 (with_blocks now blocks (acknowledged n now x)).2 (acknowledged_same n now x)
    (blocks_same now blocks (acknowledged n now x))

-- Messages that are given up

released_at_same : (o : Option Released) (m : StreamMap) → HaveSameGenerations m (released_at o m)
released_at_same None m = same_itself m
released_at_same (Some r) m = released_same m r.message.stream_identifier r.message.generation r.bytes

abandoned_same : (index : ℕ) (x : Sender × StreamMap) → HaveSameGenerations x.1 (abandoned_of index x).1
unfolding abandoned_of
abandoned_same index (s, m) = released_at_same (abandoned_at s.queue index).1 m

abandoned_if_same : (o : Option ℕ) (x : Sender × StreamMap) → HaveSameGenerations x.1 (abandoned_if o x).1
abandoned_if_same None x = same_itself x.1
abandoned_if_same (Some index) x = abandoned_same index x

given_up_first_same : (n : ℕ) (why : Reason) (x : Sender × StreamMap)
    → HaveSameGenerations x.1 (given_up_first n why x).1
given_up_first_same zero why x = same_itself x.1
given_up_first_same (suc n) why x =
    let y : Sender × StreamMap = abandoned_if (next_given_up why x.0) x in
    same_on x.1 y.1 (given_up_first n why y).1 (abandoned_if_same (next_given_up why x.0) x)
    (given_up_first_same n why y)

given_up_same : (why : Reason) (x : Sender × StreamMap) → HaveSameGenerations x.1 (all_given_up why x).1
given_up_same why x = given_up_first_same (length x.0.queue.in_flight) why x

before_same : (forward : Bool) (by : Retransmission) (x : Sender × StreamMap)
    → HaveSameGenerations x.1 (given_up_before forward by x).1
before_same true by x = given_up_same (reasons.Spent by) x
before_same false by x = same_itself x.1

tail_same : (now : ℕ) (x : Sender × StreamMap) → HaveSameGenerations x.1 (tail_given_up now x).1
unfolding tail_given_up
tail_same now (s, m) = released_at_same (after_tail_expiry now s.queue).1 m

expired_same : (forward : Bool) (now : ℕ) (x : Sender × StreamMap)
    → HaveSameGenerations x.1 (expired_by forward now x).1
expired_same true now x =
    same_on x.1 (late_given_up now x).1 (tail_given_up now (late_given_up now x)).1
    (given_up_same (reasons.Expired now) (with_started now x.0, x.1)) (tail_same now (late_given_up now x))
expired_same false now x = same_itself x.1

-- Messages that are dropped

given_back_of_same : (o : Option Released) (m : StreamMap) → HaveSameGenerations m (given_back_of o m)
given_back_of_same None m = same_itself m
given_back_of_same (Some r) m =
    given_back_same m r.message.stream_identifier r.message.generation r.message.unordered r.bytes

first_dropped_same : (now : ℕ) (x : Sender × StreamMap) → HaveSameGenerations x.1 (first_dropped now x).1
unfolding first_dropped
first_dropped_same now (s, m) = given_back_of_same (after_expiry now s.queue).1 m

dropped_first_same : (n now : ℕ) (x : Sender × StreamMap) → HaveSameGenerations x.1 (dropped_first n now x).1
dropped_first_same zero now x = same_itself x.1
dropped_first_same (suc n) now x =
    same_on x.1 (first_dropped now x).1 (dropped_first n now (first_dropped now x)).1 (first_dropped_same now x)
    (dropped_first_same n now (first_dropped now x))

dropped_same : (forward : Bool) (now : ℕ) (x : Sender × StreamMap)
    → HaveSameGenerations x.1 (dropped_by forward now x).1
dropped_same true now x = dropped_first_same (length x.0.queue.pending) now x
dropped_same false now x = same_itself x.1

-- A poll of DATA

late_same : (a : Shown) (now : ℕ) → HaveSameGenerations a.streams (late_abandoned a now).streams
late_same a now = expired_same (uses_forward_tsn a) now (both_of a)

spent_same : (by : Retransmission) (a : Shown) → HaveSameGenerations a.streams (spent_abandoned by a).streams
spent_same by a = before_same (uses_forward_tsn a) by (both_of a)

new_same : (a : Shown) (now : ℕ) → HaveSameGenerations a.streams (late_dropped a now).streams
new_same a now = dropped_same (uses_forward_tsn a) now (both_of a)

polled_same : (a : Shown) (now : ℕ) → HaveSameGenerations a.streams (new_polled a now).streams
polled_same a now =
    let b : Shown = late_abandoned a now in
    let c : Shown = after_marks b in
    let d : Shown = after_fast c in
    same_on a.streams b.streams (after_new d now).streams (late_same a now)
    (same_on b.streams c.streams (after_new d now).streams (spent_same causes.Timer b)
    (same_on c.streams d.streams (after_new d now).streams (spent_same causes.Fast c) (new_same d now)))

-- no low mark that is reached tells of last counters
low_marks_tell_none : (ids : List ℕ) → finals (map low_event ids) ≡ []
low_marks_tell_none [] = refl
low_marks_tell_none (id ∷ ids) = low_marks_tell_none ids

module _ (g : ℕ) where
  pub low_told : (m : StreamMap) (queued : List Event) (ids : List ℕ)
      → tally g m (queued ++ map low_event ids) ≡ tally g m queued
  low_told m queued ids = silent_told g m queued (map low_event ids) (low_marks_tell_none ids)

  pub data_keeps : (a : Shown) (now : ℕ)
      → tally g (data_polled a now).0.streams (data_polled a now).0.events ≡ tally g a.streams a.events
  unfolding data_polled
  data_keeps a now =
      low_told (new_polled a now).streams a.events (fell_in_poll a now)
      ∙ same_tally g a.streams (new_polled a now).streams a.events (polled_same a now)
