-- Messages, cut into pieces, and pieces in flight (RFC 4960 section 6.9).
use Rattle.std.specs.Prelude.{ℕ, Bool, true, false, not, [], ◌+◌, ◌-◌, ◌*◌, ◌/◌, ◌%◌, ◌^◌, ◌==◌, ◌&&◌, if◌then◌else◌}
use Rattle.std.specs.Prelude.{List, length, slice_set, drop, min, sum_by, nat_le, nat_lt, slice_index_or, Option}
use Rattle.std.specs.Prelude.{Some, None}
use Rattle.sctp_outbound_queue.specs.declared.message.Attributes.{Attributes}
use Rattle.sctp_outbound_queue.specs.declared.message.InFlight.{InFlight}
use Rattle.sctp_outbound_queue.specs.declared.message.Among.{Among}
use Rattle.sctp_outbound_queue.specs.declared.message.Among.TheVariants as amongs
use Rattle.sctp_outbound_queue.specs.declared.message.Reports.{Reports}
use Rattle.sctp_outbound_queue.specs.declared.message.Retransmission.{Retransmission}
use Rattle.sctp_outbound_queue.specs.declared.message.Retransmission.TheVariants as causes
use Rattle.sctp_wire_types.specs.declared.reliability.Policy.{Policy}
use Rattle.sctp_wire_types.specs.declared.reliability.Policy.TheVariants.{Reliable, Rexmit, Timed}
use Rattle.sctp_outbound_queue.specs.Waiting.{Waiting}

-- the bytes of a message that still wait to be sent
abbrev pub message_bytes : Waiting → ℕ
message_bytes m = length m.user_data + sum_by length m.rest

-- the pieces of a message that still wait to be sent
abbrev pub piece_count : Waiting → ℕ
piece_count m = length m.rest + 1

-- a message as it is accepted: it has its identifier, no deadline runs, and nothing of it was sent
abbrev pub accepted : ℕ → Waiting → Waiting
accepted id m = record m {
  message = (let a = m.message in record a { message_id = id; deadline = None });
  begun = false;
}

-- the next piece of a message as it is in flight, sent for the first time
abbrev pub sent_once : ℕ → Waiting → InFlight
sent_once now m = record {
  message = m.message;
  beginning_fragment = not m.begun;
  ending_fragment = length m.rest == 0;
  user_data = m.user_data;
  sent_count = 1;
  since = now;
  retransmit = false;
  acked = false;
  abandoned = false;
  misses = 0;
  resent = false;
}

-- a message once its next piece was sent and more are left
abbrev pub without_piece : Waiting → Waiting
without_piece m = record m {
  begun = true;
  user_data = slice_index_or m.rest 0 [];
  rest = drop 1 m.rest;
}

-- what stands in flight for the unsent pieces of an abandoned message: no bytes, and never sent
abbrev pub marker_of : Attributes → InFlight
marker_of a = record {
  message = a;
  beginning_fragment = false;
  ending_fragment = true;
  user_data = [];
  sent_count = 0;
  since = 0;
  retransmit = false;
  acked = false;
  abandoned = true;
  misses = 0;
  resent = false;
}

-- neither acknowledged nor abandoned
abbrev pub is_outstanding : InFlight → Bool
is_outstanding p = not p.acked && not p.abandoned

abbrev pub outstanding_bytes : InFlight → ℕ
outstanding_bytes p = if is_outstanding p then length p.user_data else 0

-- its bytes where it flies: it is outstanding, and the retransmission timer did not mark it (RFC 4960 section 6.2.1,
-- rule C)
abbrev pub flying_bytes : InFlight → ℕ
flying_bytes p = if p.retransmit then 0 else outstanding_bytes p

abbrev pub is_of : ℕ → InFlight → Bool
is_of id p = p.message.message_id == id

abbrev pub is_of_stream : ℕ → InFlight → Bool
is_of_stream id p = p.message.stream_identifier == id

abbrev pub is_waiting_of_stream : ℕ → Waiting → Bool
is_waiting_of_stream id m = m.message.stream_identifier == id

-- the outstanding bytes of a piece, if it is of this message
abbrev pub outstanding_bytes_of : ℕ → InFlight → ℕ
outstanding_bytes_of id p = if is_of id p then outstanding_bytes p else 0

-- a gap ack block named the piece (RFC 4960 section 6.2.1)
abbrev pub acked : InFlight → InFlight
acked p = record p { acked = true; retransmit = false }

-- a gap ack block named the piece, and it is not marked to be sent again: where one names it once more, nothing changes
abbrev pub was_acknowledged : InFlight → Bool
was_acknowledged p = p.acked && not p.retransmit

-- the retransmission timer expired (RFC 4960 section 6.3.3, rule E3)
abbrev pub marked_again : InFlight → InFlight
marked_again p = if is_outstanding p then record p { retransmit = true } else p

abbrev pub one_sending_more : ℕ → ℕ
one_sending_more count = min (count + 1) (2 ^ 32 - 1)

-- a piece is sent again for this reason: it is marked by the timer, or enough SACKs reported it missing since it was
-- sent at last (RFC 4960 sections 6.3.3 and 7.2.4)
abbrev pub picks : Retransmission → InFlight → Bool
picks causes.Timer p = p.retransmit
picks causes.Fast p = is_outstanding p && not p.resent && nat_le 3 p.misses

-- the length of a DATA chunk with so many bytes, header and padding included, at most the greatest multiple of 4 of 64
-- bits (RFC 4960 section 3.3.1)
abbrev pub data_length : ℕ → ℕ
data_length length = min (length + 19) (2 ^ 64 - 1) / 4 * 4

-- the room that a piece takes up: its payload of the windows, or its whole chunk of the one packet of a fast
-- retransmission
abbrev pub room_taken : Retransmission → InFlight → ℕ
room_taken causes.Timer p = length p.user_data
room_taken causes.Fast p = data_length (length p.user_data)

-- a piece was sent again; fast retransmission leaves the mark of the timer
abbrev pub counted_again : Retransmission → InFlight → InFlight
counted_again causes.Timer p =
    record p { retransmit = false; resent = true; sent_count = one_sending_more p.sent_count }
counted_again causes.Fast p = record p { resent = true; sent_count = one_sending_more p.sent_count }

-- the piece is one that reports count for
abbrev pub is_among : Among → InFlight → Bool
is_among amongs.Outstanding p = is_outstanding p
is_among amongs.NotResent p = is_outstanding p && not p.retransmit && not p.resent
is_among amongs.Flying p = is_outstanding p && not p.retransmit

-- how many reports of it count so far: where reports count for what was sent again, none from before that
abbrev pub misses_before : Among → InFlight → ℕ
misses_before amongs.Outstanding p = p.misses
misses_before amongs.NotResent p = p.misses
misses_before amongs.Flying p = if p.resent then 0 else p.misses

abbrev pub one_report_more : ℕ → ℕ
one_report_more count = min (count + 1) (2 ^ 8 - 1)

-- how many do once one more does: 3, once they are enough
abbrev pub misses_after : Reports → InFlight → ℕ
misses_after r p =
    if nat_lt (one_report_more (misses_before r.among p)) r.enough then one_report_more (misses_before r.among p)
    else 3

-- reports go on to tell nothing of its last sending
abbrev pub stays_resent : Among → InFlight → Bool
stays_resent amongs.Outstanding p = p.resent
stays_resent amongs.NotResent p = p.resent
stays_resent amongs.Flying p = false

-- a report counts for a piece for which not enough did yet
abbrev pub is_reported : Reports → InFlight → Bool
is_reported r p = is_among r.among p && nat_lt (misses_before r.among p) 3

-- a SACK reported a piece missing (RFC 4960 section 7.2.4)
abbrev pub reported_missing : Reports → InFlight → InFlight
reported_missing r p =
    if is_reported r p then record p { misses = misses_after r p; resent = stays_resent r.among p } else p

-- that was the last report that it takes to send it again, which is the third one unless fewer are enough
abbrev pub is_last_report : Reports → InFlight → Bool
is_last_report r p = is_reported r p && nat_le 3 (misses_after r p)

-- a piece of an abandoned message (RFC 3758 section 3.5)
abbrev pub flagged : ℕ → InFlight → InFlight
flagged id p = if is_of id p then record p { abandoned = true; retransmit = false } else p

-- so many ms after a moment, at most the greatest moment
abbrev pub later_by : ℕ → ℕ → ℕ
later_by ms now = min (now + min (ms * 1000000) (2 ^ 64 - 1)) (2 ^ 64 - 1)

abbrev pub deadline_under : Policy → ℕ → Option ℕ → Option ℕ
deadline_under Reliable now deadline = deadline
deadline_under (Rexmit n) now deadline = deadline
deadline_under (Timed ms) now (Some deadline) = Some deadline
deadline_under (Timed ms) now None = Some (later_by ms now)

-- a message whose time, if it has one, runs from now on where it does not run yet
abbrev pub started : ℕ → Attributes → Attributes
started now a = record a { deadline = deadline_under a.policy now a.deadline }

abbrev pub waiting_started : ℕ → Waiting → Waiting
waiting_started now m = record m { message = started now m.message }

-- messages of which one is started
abbrev pub with_start : ℕ → Option Waiting → ℕ → List Waiting → List Waiting
with_start now None index messages = messages
with_start now (Some m) index messages = slice_set messages index (waiting_started now m)

abbrev pub sent_started : ℕ → InFlight → InFlight
sent_started now p = record p { message = started now p.message }

-- a deadline is at or past the next one, if there is a next one
abbrev pub is_from : Option ℕ → ℕ → Bool
is_from None deadline = false
is_from (Some next) deadline = nat_le next deadline

-- the next deadline is over
abbrev pub is_due : Option ℕ → ℕ → Bool
is_due None now = false
is_due (Some next) now = nat_le next now

abbrev pub keeps_time : Bool → Option ℕ → Policy → Option ℕ → Bool
keeps_time run next Reliable deadline = true
keeps_time run next (Rexmit n) deadline = true
keeps_time run next (Timed ms) None = not run
keeps_time run next (Timed ms) (Some deadline) = is_from next deadline

-- where a message has a lifetime, it runs if that of all messages does, and ends at or past the next deadline
abbrev pub is_timely : Bool → Option ℕ → Attributes → Bool
is_timely run next a = keeps_time run next a.policy a.deadline

-- so it is with the message of a piece; an abandoned one has no deadline to wait for
abbrev pub is_timely_piece : Bool → Option ℕ → InFlight → Bool
is_timely_piece run next p = is_timely run (if p.abandoned then Some 0 else next) p.message

abbrev pub is_timed : Policy → Bool
is_timed Reliable = false
is_timed (Rexmit n) = false
is_timed (Timed ms) = true

abbrev pub sooner_of : Option ℕ → ℕ → ℕ
sooner_of None deadline = deadline
sooner_of (Some next) deadline = min next deadline

-- the sooner of two deadlines, of which either may be none
abbrev pub soonest : Option ℕ → Option ℕ → Option ℕ
soonest next None = next
soonest next (Some deadline) = Some (sooner_of next deadline)

abbrev pub sooner_under : Policy → Option ℕ → Option ℕ → Option ℕ
sooner_under Reliable deadline next = next
sooner_under (Rexmit n) deadline next = next
sooner_under (Timed ms) None next = next
sooner_under (Timed ms) (Some deadline) next = Some (sooner_of next deadline)

-- the next deadline, where that of one message more counts
abbrev pub sooner : Option ℕ → Attributes → Option ℕ
sooner next a = sooner_under a.policy a.deadline next

abbrev pub sooner_piece : Option ℕ → InFlight → Option ℕ
sooner_piece next p = if p.abandoned then next else sooner next p.message

abbrev pub is_past : Policy → Option ℕ → ℕ → Bool
is_past Reliable deadline now = false
is_past (Rexmit n) deadline now = false
is_past (Timed ms) None now = false
is_past (Timed ms) (Some deadline) now = nat_le deadline now

-- the lifetime is limited, and it is at or past its deadline
abbrev pub is_expired : ℕ → Attributes → Bool
is_expired now a = is_past a.policy a.deadline now

-- an expired piece of a message that is not abandoned yet
abbrev pub is_expired_piece : ℕ → InFlight → Bool
is_expired_piece now p = not p.abandoned && is_expired now p.message

-- an expired message of which nothing was sent
abbrev pub is_expired_unsent : ℕ → Waiting → Bool
is_expired_unsent now m = not m.begun && is_expired now m.message

-- what a look at a message that waits finds: the next deadline, where that of the message counts too, unless the
-- message is to be dropped
abbrev pub looked_at : ℕ → Option ℕ → Waiting → Option (Option ℕ)
looked_at now next m = if is_expired_unsent now m then None else Some (sooner next m.message)

-- the two are ordered messages of one generation of a stream
abbrev pub share_ssns : Attributes → Attributes → Bool
share_ssns a b =
    not a.unordered && not b.unordered && a.stream_identifier == b.stream_identifier && a.generation == b.generation

-- a later message, once the one before it gave its SSN back
abbrev pub moved_down : Attributes → Waiting → Waiting
moved_down dropped m =
    if share_ssns dropped m.message then record m {
      message =
          (let a = m.message in
          record a { stream_sequence_number = (a.stream_sequence_number + 2 ^ 16 - 1) % 2 ^ 16 });
    }
    else m
