-- What waits to be sent and what is in flight (RFC 4960 section 6.1).
use Rattle.std.specs.Prelude.{◌≡◌, ℕ, Bool, List, [], ◌∷◌, ◌++◌, ◌+◌, ◌-◌, ◌<◌, ◌≤◌, ◌%◌, ◌^◌, ◌==◌, ◌||◌}
use Rattle.std.specs.Prelude.{if◌then◌else◌}
use Rattle.std.specs.Prelude.{drop, length, map, position, sum_by, slice_get, slice_set, take, Option, Some, None}
use Rattle.std.specs.Prelude.{is_some, not}
use Rattle.std.specs.Prelude.{false}
use Rattle.std.specs.List.{count_by, list_any, position_or_len, prefix_len}
use Rattle.sctp_serial.specs.Serial.{tsn_past}
use Rattle.sctp_outbound_queue.specs.declared.message.InFlight.{InFlight}
use Rattle.sctp_outbound_queue.specs.declared.message.Attributes.{Attributes}
use Rattle.sctp_outbound_queue.specs.declared.message.Reports.{Reports}
use Rattle.sctp_outbound_queue.specs.declared.message.Retransmission.TheVariants as causes
use Rattle.sctp_outbound_queue.specs.declared.queue.Released.{Released}
use Rattle.sctp_outbound_queue.specs.Waiting.{Waiting}
use Rattle.sctp_outbound_queue.specs.Message.{message_bytes, piece_count, accepted, sent_once, without_piece, marker_of}
use Rattle.sctp_outbound_queue.specs.Message.{is_last_report, is_of_stream, is_outstanding, is_waiting_of_stream}
use Rattle.sctp_outbound_queue.specs.Message.{flying_bytes, outstanding_bytes, picks, was_acknowledged}
use Rattle.sctp_outbound_queue.specs.Message.{outstanding_bytes_of, acked, marked_again, flagged, reported_missing}
use Rattle.sctp_outbound_queue.specs.declared.clocks.Clocks.{Clocks}
use Rattle.sctp_outbound_queue.specs.Clocks.{AreTimely}

pub record Outbound : Type 0 where
  -- the messages that wait to be sent, in the order in which they were accepted; of the first one a part may be sent
  pub pending : List Waiting
  -- what was sent and is not acknowledged cumulatively; the first one has the TSN first_tsn, and so on by one
  pub in_flight : List InFlight
  pub first_tsn : ℕ
  -- the identifier that the next message gets
  pub next_message_id : ℕ

-- the bytes that wait to be sent
abbrev pub waiting_of : List Waiting → ℕ
waiting_of messages = sum_by message_bytes messages

-- the bytes in flight that are neither acknowledged nor abandoned
abbrev pub outstanding_of : List InFlight → ℕ
outstanding_of pieces = sum_by outstanding_bytes pieces

-- the bytes that fly: those that are outstanding and not marked to be sent again
abbrev pub flying_of : List InFlight → ℕ
flying_of pieces = sum_by flying_bytes pieces

-- those of one message that are outstanding
abbrev pub outstanding_of_message : ℕ → List InFlight → ℕ
outstanding_of_message id pieces = sum_by (outstanding_bytes_of id) pieces

-- how many pieces in flight are marked to be sent again since the retransmission timer expired (RFC 4960 section 6.3.3,
-- rule E3)
abbrev pub marked_of : List InFlight → ℕ
marked_of pieces = count_by (λ p. p.retransmit) pieces

-- the index of the first outstanding piece, or how many pieces there are
abbrev pub first_outstanding_of : List InFlight → ℕ
first_outstanding_of pieces = position_or_len is_outstanding pieces

-- from an index on, and below another one, the first at which no piece stands that was acknowledged
abbrev pub past_acknowledged : ℕ → ℕ → List InFlight → ℕ
past_acknowledged from to pieces = from + prefix_len was_acknowledged (take (to - from) (drop from pieces))

abbrev pub is_outstanding_piece : Option InFlight → Bool
is_outstanding_piece None = false
is_outstanding_piece (Some p) = is_outstanding p

-- what is kept as the queue changes: the bytes that wait and the outstanding bytes, which together are below the
-- greatest number of 64 bits, how many pieces in flight are marked to be sent again, an index before which no piece
-- in flight is outstanding, and what is known of the times of messages
abbrev pub AreKept : List Waiting → List InFlight → ℕ → ℕ → ℕ → ℕ → Clocks → Type 0
AreKept pending in_flight waiting outstanding marked settled clocks =
    (waiting ≡ waiting_of pending) × (outstanding ≡ outstanding_of in_flight) × (waiting + outstanding < 2 ^ 64 - 1)
    × (marked ≡ marked_of in_flight) × (settled ≤ first_outstanding_of in_flight) × AreTimely clocks pending in_flight

abbrev pub empty_outbound : ℕ → Outbound
empty_outbound tsn = record { pending = []; in_flight = []; first_tsn = tsn; next_message_id = 0 }

-- the TSN that is so many past the first one
abbrev pub tsn_at : ℕ → ℕ → ℕ
tsn_at first index = (first + index) % 2 ^ 32

-- the TSN that the next piece gets
abbrev pub next_tsn_of : Outbound → ℕ
next_tsn_of q = tsn_at q.first_tsn (length q.in_flight)

abbrev pub piece_at : Outbound → ℕ → Option InFlight
piece_at q tsn = slice_get q.in_flight (tsn_past q.first_tsn tsn)

-- the number of pieces that wait
abbrev pub pieces_waiting : List Waiting → ℕ
pieces_waiting messages = sum_by piece_count messages

-- a message was accepted
abbrev pub with_message : Outbound → Waiting → Outbound
with_message q m = record q {
  pending = q.pending ++ accepted q.next_message_id m ∷ [];
  next_message_id = q.next_message_id + 1;
}

-- what waits once the first message's next piece was sent
abbrev pub left_behind : Waiting → List Waiting → List Waiting
left_behind m ms = if length m.rest == 0 then ms else without_piece m ∷ ms

abbrev pub after_piece : List Waiting → List Waiting
after_piece [] = []
after_piece (m ∷ ms) = left_behind m ms

abbrev pub sent_from : List Waiting → Outbound → ℕ → Outbound
sent_from [] q now = q
sent_from (m ∷ ms) q now = record q {
  pending = left_behind m ms;
  in_flight = q.in_flight ++ sent_once now m ∷ [];
}

-- the next piece of the first message is in flight
abbrev pub sent_next : Outbound → ℕ → Outbound
sent_next q now = sent_from q.pending q now

abbrev pub without_first_of : List InFlight → Outbound → Outbound
without_first_of [] q = q
without_first_of (p ∷ ps) q = record q { in_flight = ps; first_tsn = tsn_at q.first_tsn 1 }

-- the first piece in flight is acknowledged cumulatively
abbrev pub without_first : Outbound → Outbound
without_first q = without_first_of q.in_flight q

abbrev pub changed_from : (InFlight → InFlight) → Option InFlight → Outbound → ℕ → Outbound
changed_from change None q index = q
changed_from change (Some p) q index = record q { in_flight = slice_set q.in_flight index (change p) }

-- the piece at an index, if there is one, was changed
abbrev pub changed_at : (InFlight → InFlight) → Outbound → ℕ → Outbound
changed_at change q index = changed_from change (slice_get q.in_flight index) q index

abbrev pub bytes_of_piece : Option InFlight → ℕ
bytes_of_piece None = 0
bytes_of_piece (Some p) = outstanding_bytes p

-- a TSN was acknowledged by a gap ack block; the bytes that are outstanding no more
abbrev pub acked_at : Outbound → ℕ → Outbound × ℕ
acked_at q tsn = (changed_at acked q (tsn_past q.first_tsn tsn), bytes_of_piece (piece_at q tsn))

-- all that is outstanding is to be sent again
abbrev pub all_marked : Outbound → Outbound
all_marked q = record q { in_flight = map marked_again q.in_flight }

-- a SACK reported pieces in flight missing (RFC 4960 section 7.2.4)
abbrev pub with_missing : Reports → Outbound → Outbound
with_missing r q = record q {
  in_flight = map (reported_missing r) (take r.count q.in_flight) ++ drop r.count q.in_flight;
}

-- that was the last report of a piece, if it is there, that it takes to send it again
abbrev pub is_last_report_of : Reports → Option InFlight → Bool
is_last_report_of r None = false
is_last_report_of r (Some p) = is_last_report r p

-- pieces of which one was reported missing
abbrev pub with_report : Reports → Option InFlight → ℕ → List InFlight → List InFlight
with_report r None index pieces = pieces
with_report r (Some p) index pieces = slice_set pieces index (reported_missing r p)

-- a piece is to be sent again by fast retransmission
abbrev pub any_missing : Outbound → Bool
any_missing q = is_some (position (picks causes.Fast) q.in_flight)

-- a piece of this stream waits or is not acknowledged cumulatively
abbrev pub has_stream : Outbound → ℕ → Bool
has_stream q id =
    list_any (is_waiting_of_stream id) q.pending || list_any (is_of_stream id) q.in_flight

-- how many pieces in flight stand before the first one that is not abandoned
abbrev pub abandoned_in_front_of : List InFlight → ℕ
abandoned_in_front_of pieces = position_or_len (λ p. not p.abandoned) pieces

abbrev pub tail_dropped_from : List Waiting → Outbound → ℕ → Outbound × ℕ
tail_dropped_from [] q id = (q, 0)
tail_dropped_from (m ∷ ms) q id =
    if m.message.message_id == id then
    (record q { pending = ms; in_flight = q.in_flight ++ marker_of m.message ∷ [] }, message_bytes m)
    else (q, 0)

-- if the first message that waits is this one: its unsent pieces are dropped, and a marker takes the next TSN; the
-- bytes dropped
abbrev pub tail_dropped : Outbound → ℕ → Outbound × ℕ
tail_dropped q id = tail_dropped_from q.pending q id

-- every piece of a message in flight is abandoned, an acknowledged one too
abbrev pub all_flagged : ℕ → Outbound → Outbound
all_flagged id q = record q { in_flight = map (flagged id) q.in_flight }

abbrev pub released : Attributes → ℕ → Released
released a bytes = record { message = a; bytes = bytes }

abbrev pub abandoned_from : Option InFlight → Outbound → Outbound × Option Released
abandoned_from None q = (q, None)
abandoned_from (Some p) q = (
  all_flagged p.message.message_id (tail_dropped q p.message.message_id).0,
  Some (released p.message (
      outstanding_of_message p.message.message_id q.in_flight + (tail_dropped q p.message.message_id).1
      )),
)

-- the message of the piece at an index in flight is abandoned whole; its bytes that were outstanding or waited are
-- released (RFC 3758 section 3.5)
abbrev pub abandoned_at : Outbound → ℕ → Outbound × Option Released
abandoned_at q index = abandoned_from (slice_get q.in_flight index) q

abbrev pub is_abandoned_piece : Option InFlight → Bool
is_abandoned_piece None = false
is_abandoned_piece (Some p) = p.abandoned
