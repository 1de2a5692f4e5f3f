-- Messages that are given up (RFC 3758 section 3.5), over the sender and the streams at which their bytes are released.
use Rattle.std.specs.Prelude.{ℕ, zero, suc, Bool, false, List, [], ◌∷◌, ◌+◌, ◌-◌, ◌&&◌, ◌||◌, not, nat_lt}
use Rattle.std.specs.Prelude.{if◌then◌else◌, length, is_some, position, Option, Some, None}
use Rattle.sctp_wire_types.specs.declared.reliability.Policy.{Policy}
use Rattle.sctp_wire_types.specs.declared.reliability.Policy.TheVariants.{Reliable, Rexmit, Timed}
use Rattle.sctp_outbound_queue.specs.declared.message.InFlight.{InFlight}
use Rattle.sctp_outbound_queue.specs.declared.message.Retransmission.{Retransmission}
use Rattle.sctp_outbound_queue.specs.declared.message.Retransmission.TheVariants as causes
use Rattle.sctp_outbound_queue.specs.declared.queue.Released.{Released}
use Rattle.sctp_outbound_queue.specs.Message.{picks, room_taken, is_expired_piece}
use Rattle.sctp_outbound_queue.specs.Outbound.{Outbound, abandoned_at, abandoned_in_front_of, marked_of}
use Rattle.sctp_outbound_queue.specs.Expiry.{after_expiry, after_tail_expiry, all_started}
use Rattle.sctp_streams.specs.Streams.{StreamMap, given_back_in, released_in}
use Rattle.sctp_outbound.specs.declared.abandonment.Reason.{Reason}
use Rattle.sctp_outbound.specs.declared.abandonment.Reason.TheVariants as reasons
use Rattle.sctp_outbound.specs.declared.abandonment.Reached.{Reached}
use Rattle.sctp_outbound.specs.declared.abandonment.Reached.TheVariants as reached
use Rattle.sctp_outbound.specs.declared.sender.Sender.{Sender}
use Rattle.sctp_outbound.specs.Sender.{asks_again, both_windows, fast_room, resent_chunks}

-- the bytes of a message that was given up are released at its stream
abbrev pub released_at : Option Released → StreamMap → StreamMap
released_at None m = m
released_at (Some r) m = released_in m r.message.stream_identifier r.message.generation r.bytes

-- the queue after an abandonment, and the streams
abbrev pub released_with : Outbound × Option Released → StreamMap → Outbound × StreamMap
released_with (q, r) m = (q, released_at r m)

-- FORWARD TSN is due where more pieces than so many are abandoned in front of all others in flight
abbrev pub asked_past : ℕ → Sender → Sender
asked_past before s = record s {
  is_forward_due = s.is_forward_due || nat_lt before (abandoned_in_front_of s.queue.in_flight);
}

-- the sender with the queue after an abandonment: FORWARD TSN is due where that moved the advanced peer ack point
abbrev pub with_abandoned : Outbound → Sender → Sender
with_abandoned q s = asked_past (abandoned_in_front_of s.queue.in_flight) (record s { queue = q })

-- sender and streams once the message of the piece at an index in flight is abandoned whole, and its bytes are released
unfoldable pub abandoned_of : ℕ → Sender × StreamMap → Sender × StreamMap
abandoned_of index (s, m) =
    (with_abandoned (abandoned_at s.queue index).0 s, released_at (abandoned_at s.queue index).1 m)

-- a policy allows no further sending after so many
abbrev pub allows_no_more : Policy → ℕ → Bool
allows_no_more Reliable count = false
allows_no_more (Rexmit n) count = nat_lt n count
allows_no_more (Timed ms) count = false

-- a piece was sent as often as its policy allows (RFC 7496 section 3.1)
abbrev pub is_spent : InFlight → Bool
is_spent p = allows_no_more p.message.policy p.sent_count

-- what a pass that sends again for a reason, with so many bytes of room left, comes to at a piece
abbrev pub reached_at : Retransmission → ℕ → InFlight → Reached
reached_at k room p =
    if not (picks k p) then reached.On room else
    if is_spent p then reached.Spent else
    if nat_lt room (room_taken k p) then reached.Full else reached.On (room - room_taken k p)

abbrev pub spent_from : Reached → ℕ → (ℕ → Option ℕ) → Option ℕ
spent_from (reached.On room) index others = others room
spent_from reached.Spent index others = Some index
spent_from reached.Full index others = None

-- the first index at which the pass comes to a spent piece that it would send again. It is asked before the room, so
-- the piece at which the pass stops counts too
abbrev pub spent_index : Retransmission → ℕ → ℕ → List InFlight → Option ℕ
spent_index k index room [] = None
spent_index k index room (p ∷ ps) =
    spent_from (reached_at k room p) index (λ left. spent_index k (index + 1) left ps)

-- the room of a pass at its start: that of marked DATA, or that of one packet. A first piece that goes alone may be
-- longer than that
abbrev pub pass_room : Retransmission → Sender → ℕ
pass_room causes.Timer s = both_windows s
pass_room causes.Fast s = fast_room s

-- a pass is made: a piece is marked, or fast retransmission is due
abbrev pub is_pass_due : Retransmission → Sender → Bool
is_pass_due causes.Timer s = nat_lt 0 (marked_of s.queue.in_flight)
is_pass_due causes.Fast s = s.is_fast_due

-- the index of that piece
abbrev pub first_spent : Retransmission → Sender → Option ℕ
first_spent k s = if is_pass_due k s then spent_index k 0 (pass_room k s) s.queue.in_flight else None

-- so often a pass looks at most: once for each piece that it would send again, and once more
abbrev pub pass_looks : Retransmission → Sender → ℕ
pass_looks k s =
    length (resent_chunks (asks_again s) k s.queue.first_tsn 0 (pass_room k s) s.queue.in_flight) + 1

-- so often one look at what is given up next does
abbrev pub looks_for : Reason → Sender → ℕ
looks_for (reasons.Expired now) s = 0
looks_for (reasons.Spent k) s = pass_looks k s

-- the index of the piece in flight whose message is given up next for a reason
abbrev pub next_given_up : Reason → Sender → Option ℕ
next_given_up (reasons.Expired now) s = position (is_expired_piece now) s.queue.in_flight
next_given_up (reasons.Spent k) s = first_spent k s

abbrev pub abandoned_if : Option ℕ → Sender × StreamMap → Sender × StreamMap
abandoned_if None all = all
abandoned_if (Some index) all = abandoned_of index all

-- the first n messages that are given up for a reason are abandoned, one after another
abbrev pub given_up_first : ℕ → Reason → Sender × StreamMap → Sender × StreamMap
given_up_first zero why all = all
given_up_first (suc n) why all = given_up_first n why (abandoned_if (next_given_up why all.0) all)

-- all of them are: as many as pieces are in flight at most
abbrev pub all_given_up : Reason → Sender × StreamMap → Sender × StreamMap
all_given_up why all = given_up_first (length all.0.queue.in_flight) why all

-- where FORWARD TSN is in use, what a pass would send again too often is abandoned before it
abbrev pub given_up_before : Bool → Retransmission → Sender × StreamMap → Sender × StreamMap
given_up_before forward k all = if forward then all_given_up (reasons.Spent k) all else all

abbrev pub gives_up_before : Bool → Retransmission → Sender → Bool
gives_up_before forward k s = forward && is_some (next_given_up (reasons.Spent k) s)

-- an expired message of which a part was sent, and none of that part is in flight, has unsent pieces
abbrev pub has_late_tail : ℕ → Sender → Bool
has_late_tail now s = is_some (after_tail_expiry now s.queue).1

-- these are abandoned
unfoldable pub tail_given_up : ℕ → Sender × StreamMap → Sender × StreamMap
tail_given_up now (s, m) =
    (with_abandoned (after_tail_expiry now s.queue).0 s, released_at (after_tail_expiry now s.queue).1 m)

-- the time of each message that has one runs
abbrev pub with_started : ℕ → Sender → Sender
with_started now s = record s { queue = all_started now s.queue }

-- what is expired in flight is abandoned, in the order of TSNs
abbrev pub late_given_up : ℕ → Sender × StreamMap → Sender × StreamMap
late_given_up now all = all_given_up (reasons.Expired now) (with_started now all.0, all.1)

-- where FORWARD TSN is in use, the time of each message runs, and those that are expired and begun are abandoned
abbrev pub expired_by : Bool → ℕ → Sender × StreamMap → Sender × StreamMap
expired_by forward now all = if forward then tail_given_up now (late_given_up now all) else all

-- some are
abbrev pub expires : Bool → ℕ → Sender × StreamMap → Bool
expires forward now all =
    forward
    && (is_some (next_given_up (reasons.Expired now) (with_started now all.0))
    || has_late_tail now (late_given_up now all).0)

-- Messages that are dropped before any of them was sent

-- the bytes of a dropped message are released at its stream, and the number of an ordered one is given back there
abbrev pub given_back_of : Option Released → StreamMap → StreamMap
given_back_of None m = m
given_back_of (Some r) m =
    given_back_in m r.message.stream_identifier r.message.generation r.message.unordered r.bytes

-- the first expired message of which nothing was sent is dropped
unfoldable pub first_dropped : ℕ → Sender × StreamMap → Sender × StreamMap
first_dropped now (s, m) =
    (record s { queue = (after_expiry now s.queue).0 }, given_back_of (after_expiry now s.queue).1 m)

-- so many of them are, one after another
abbrev pub dropped_first : ℕ → ℕ → Sender × StreamMap → Sender × StreamMap
dropped_first zero now all = all
dropped_first (suc n) now all = dropped_first n now (first_dropped now all)

-- all of them are: as many as messages wait at most
abbrev pub all_dropped : ℕ → Sender × StreamMap → Sender × StreamMap
all_dropped now all = dropped_first (length all.0.queue.pending) now all

-- where FORWARD TSN is in use, the expired messages of which nothing was sent are dropped
abbrev pub dropped_by : Bool → ℕ → Sender × StreamMap → Sender × StreamMap
dropped_by forward now all = if forward then all_dropped now all else all
