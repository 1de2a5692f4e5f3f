-- The streams that fall to their low mark while messages are given up, in the order in which they fall (RFC 3758
-- section 3.5: their bytes are released).
use Rattle.std.specs.Prelude.{ℕ, zero, suc, Bool, List, [], ◌++◌, length, if◌then◌else◌, Option, Some, None}
use Rattle.sctp_outbound_queue.specs.declared.message.Retransmission.{Retransmission}
use Rattle.sctp_outbound_queue.specs.declared.queue.Released.{Released}
use Rattle.sctp_outbound_queue.specs.Outbound.{abandoned_at}
use Rattle.sctp_outbound_queue.specs.Expiry.{after_expiry, after_tail_expiry}
use Rattle.sctp_streams.specs.LowMarks.{falls_in}
use Rattle.sctp_streams.specs.Streams.{StreamMap}
use Rattle.sctp_outbound.specs.declared.abandonment.Reason.{Reason}
use Rattle.sctp_outbound.specs.declared.abandonment.Reason.TheVariants as reasons
use Rattle.sctp_outbound.specs.declared.sender.Sender.{Sender}
use Rattle.sctp_outbound.specs.Abandonment.{abandoned_if, first_dropped, late_given_up, next_given_up, with_started}

-- the stream at which bytes are released, where that takes it to its low mark
abbrev pub falls_at : Option Released → StreamMap → List ℕ
falls_at None m = []
falls_at (Some r) m = falls_in m r.message.stream_identifier r.message.generation r.bytes

-- that of the message of a piece at an index in flight, once it is abandoned
abbrev pub fell_at : Option ℕ → Sender × StreamMap → List ℕ
fell_at None all = []
fell_at (Some index) all = falls_at (abandoned_at all.0.queue index).1 all.1

-- those of the first n messages that are given up for a reason
abbrev pub fell_first : ℕ → Reason → Sender × StreamMap → List ℕ
fell_first zero why all = []
fell_first (suc n) why all =
    fell_at (next_given_up why all.0) all ++ fell_first n why (abandoned_if (next_given_up why all.0) all)

-- those of all of them
abbrev pub fell_giving_up : Reason → Sender × StreamMap → List ℕ
fell_giving_up why all = fell_first (length all.0.queue.in_flight) why all

-- those of what a pass would send again too often, where FORWARD TSN is in use
abbrev pub fell_before : Bool → Retransmission → Sender × StreamMap → List ℕ
fell_before forward k all = if forward then fell_giving_up (reasons.Spent k) all else []

-- that of an expired message of which a part was sent, and none of that part is in flight
abbrev pub fell_with_tail : ℕ → Sender × StreamMap → List ℕ
fell_with_tail now all = falls_at (after_tail_expiry now all.0.queue).1 all.1

-- those of the messages that are expired and begun, where FORWARD TSN is in use
abbrev pub fell_expired : Bool → ℕ → Sender × StreamMap → List ℕ
fell_expired forward now all =
    if forward then
    fell_giving_up (reasons.Expired now) (with_started now all.0, all.1) ++ fell_with_tail now (late_given_up now all)
    else []

-- that of the first expired message of which nothing was sent
abbrev pub fell_dropping : ℕ → Sender × StreamMap → List ℕ
fell_dropping now all = falls_at (after_expiry now all.0.queue).1 all.1

-- those of the first n of them
abbrev pub fell_dropped_first : ℕ → ℕ → Sender × StreamMap → List ℕ
fell_dropped_first zero now all = []
fell_dropped_first (suc n) now all = fell_dropping now all ++ fell_dropped_first n now (first_dropped now all)

-- those of all of them
abbrev pub fell_dropped_all : ℕ → Sender × StreamMap → List ℕ
fell_dropped_all now all = fell_dropped_first (length all.0.queue.pending) now all

-- those of all of them, where FORWARD TSN is in use
abbrev pub fell_dropped : Bool → ℕ → Sender × StreamMap → List ℕ
fell_dropped forward now all = if forward then fell_dropped_all now all else []
