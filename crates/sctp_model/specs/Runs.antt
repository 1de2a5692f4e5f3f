-- Small runs that compute, so that a reader sees the machine at work.
use Rattle.std.specs.Prelude.{ℕ, ◌≡◌, Bool, true, false, List, [], ◌∷◌, length, map, None}
use Rattle.sctp_model.specs.Messages.{Message, Policy}
use Rattle.sctp_model.specs.Packets.{Data}
use Rattle.sctp_model.specs.Reassembly.{Queue, push, ready}
use Rattle.sctp_model.specs.Machine.{Direction, Event, fresh, live, run}
use Rattle.sctp_model.specs.Safe.{letter_read, Letter}

abbrev pub text : Bool → Policy → List ℕ → Message
text ordered policy bytes = record { payload_type = 51; bytes = bytes; ordered = ordered; policy = policy }

abbrev pub said : List ℕ → Letter
said bytes = record { payload_type = 51; bytes = bytes }

abbrev pub letters_of : Direction → ℕ → List Letter
letters_of w s = map letter_read (w.reads s)

abbrev pub cursor_of : Direction → ℕ → ℕ
cursor_of w s = (live (w.receiver.queues s)).cursor

-- how many pieces of unordered messages are held
abbrev pub held_of : Direction → ℕ → ℕ
held_of w s = length (live (w.receiver.queues s)).unordered

-- Three bytes in pieces of two: the second piece comes first, and twice, and a read in between gives nothing.
abbrev pub out_of_order : List Event
out_of_order =
    Event.Write 0 (text true Policy.Reliable (1 ∷ 2 ∷ 3 ∷ [])) ∷ Event.Begin 0 0 0 ∷ Event.GoOn
    ∷ Event.DataComes 1 ∷ Event.DataComes 1 ∷ Event.Read 0 ∷ Event.DataComes 0 ∷ Event.DataComes 0 ∷ Event.Read 0
    ∷ Event.Read 0 ∷ []

abbrev pub PiecesOutOfOrder : Type 0
PiecesOutOfOrder = letters_of (run out_of_order (fresh 2)) 0 ≡ said (1 ∷ 2 ∷ 3 ∷ []) ∷ []

-- The first message is abandoned after its first piece, its tail gets an offset, and a FORWARD TSN skips it; the second
-- is read.
abbrev pub first_abandoned : List Event
first_abandoned =
    Event.Write 0 (text true (Policy.Rexmit 0) (1 ∷ 2 ∷ 3 ∷ [])) ∷ Event.Write 0 (text true Policy.Reliable (4 ∷ []))
    ∷ Event.Open 0 ∷ Event.Begin 0 0 0 ∷ Event.Abandon 0 0 ∷ Event.Begin 0 1 0 ∷ Event.DataComes 1 ∷ Event.Read 0
    ∷ Event.ForwardMade ∷ Event.ForwardComes 0 ∷ Event.Read 0 ∷ []

abbrev pub FirstAbandonedAndSkipped : Type 0
FirstAbandonedAndSkipped = letters_of (run first_abandoned (fresh 2)) 0 ≡ said (4 ∷ []) ∷ []

-- That FORWARD TSN comes again after the read, and so does all DATA: nothing more is read.
abbrev pub late_again : List Event
late_again = Event.ForwardComes 0 ∷ Event.DataComes 0 ∷ Event.DataComes 1 ∷ Event.Read 0 ∷ []

abbrev pub LateForwardChangesNothing : Type 0
LateForwardChangesNothing = letters_of (run late_again (run first_abandoned (fresh 2))) 0 ≡ said (4 ∷ []) ∷ []

-- An unordered message is read though an ordered one before it is missing, whatever sequence number its DATA carries.
abbrev pub unordered_first : List Event
unordered_first =
    Event.Write 0 (text true Policy.Reliable (1 ∷ [])) ∷ Event.Write 0 (text false Policy.Reliable (2 ∷ 3 ∷ 4 ∷ []))
    ∷ Event.Begin 0 0 0 ∷ Event.Begin 0 1 9 ∷ Event.GoOn ∷ Event.DataComes 2 ∷ Event.DataComes 1 ∷ Event.Read 0
    ∷ Event.Read 0 ∷ []

abbrev pub UnorderedIsReadFirst : Type 0
UnorderedIsReadFirst = letters_of (run unordered_first (fresh 2)) 0 ≡ said (2 ∷ 3 ∷ 4 ∷ []) ∷ []

-- The sequence number 0 follows 65535.
abbrev pub whole_piece : ℕ → ℕ → List ℕ → Data
whole_piece offset ssn bytes = record {
  offset = offset;
  stream = 0;
  ssn = ssn;
  ordered = true;
  first = true;
  last = true;
  payload_type = 51;
  bytes = bytes;
}

abbrev pub at_the_end : Queue
at_the_end = record { cursor = 65535; ordered = []; unordered = []; complete = [] }

abbrev pub SequenceNumbersWrap : Type 0
SequenceNumbersWrap =
    map letter_read (ready (push (push at_the_end (whole_piece 9 0 (2 ∷ []))) (whole_piece 8 65535 (1 ∷ []))))
    ≡ said (1 ∷ []) ∷ said (2 ∷ []) ∷ []

-- Stream 0's first two messages are read. Its first one is abandoned all the same, since no SACK came, and so is stream
-- 1's, which is lost: the FORWARD TSN lies above the reach, and skips stream 0 only up to the number 0. It is taken,
-- the cursor stays at 2, and stream 1, of which nothing came, is not skipped,
abbrev pub late_number : List Event
late_number =
    Event.Write 0 (text true (Policy.Rexmit 0) (1 ∷ [])) ∷ Event.Write 0 (text true Policy.Reliable (2 ∷ []))
    ∷ Event.Write 0 (text true Policy.Reliable (3 ∷ [])) ∷ Event.Write 1 (text true (Policy.Rexmit 0) (4 ∷ []))
    ∷ Event.Begin 0 0 0 ∷ Event.Begin 1 0 0 ∷ Event.Begin 0 1 0 ∷ Event.DataComes 0 ∷ Event.Read 0 ∷ Event.DataComes 2
    ∷ Event.Read 0
    ∷ Event.Abandon 0 0 ∷ Event.Abandon 1 0 ∷ Event.ForwardMade ∷ Event.ForwardComes 0 ∷ []

-- and the third message is read.
abbrev pub third_message : List Event
third_message = Event.Begin 0 2 0 ∷ Event.DataComes 3 ∷ Event.Read 0 ∷ []

abbrev pub LateNumberLeavesTheCursor : Type 0
LateNumberLeavesTheCursor =
    ((run late_number (fresh 2)).receiver.passed ≡ 2) × (cursor_of (run late_number (fresh 2)) 0 ≡ 2)
    × ((run late_number (fresh 2)).skipped 0 ≡ 1) × ((run late_number (fresh 2)).skipped 1 ≡ 0)
    × (letters_of (run third_message (run late_number (fresh 2))) 0
    ≡ said (1 ∷ []) ∷ said (2 ∷ []) ∷ said (3 ∷ []) ∷ [])

-- Of four bytes in three pieces the first and the last piece come, and two SACKs are made. The later one releases three
-- bytes,
abbrev pub later_sack : List Event
later_sack =
    Event.Write 0 (text true Policy.Reliable (1 ∷ 2 ∷ 3 ∷ [])) ∷ Event.Write 0 (text true Policy.Reliable (4 ∷ []))
    ∷ Event.Begin 0 0 0 ∷ Event.GoOn ∷ Event.Begin 0 1 0 ∷ Event.DataComes 0 ∷ Event.SackMade ∷ Event.DataComes 2
    ∷ Event.SackMade
    ∷ Event.SackComes 1 ∷ []

-- it and the earlier one, late, release nothing more,
abbrev pub both_sacks_again : List Event
both_sacks_again = Event.SackComes 1 ∷ Event.SackComes 0 ∷ []

-- and once the middle piece came the fourth byte is released, and a SACK from before that leaves the reach where it is.
abbrev pub last_sack : List Event
last_sack = Event.DataComes 1 ∷ Event.SackMade ∷ Event.SackComes 2 ∷ Event.SackComes 0 ∷ []

abbrev pub SacksReleaseOnce : Type 0
SacksReleaseOnce =
    ((run later_sack (fresh 2)).sender.released 0 ≡ 3)
    × ((run both_sacks_again (run later_sack (fresh 2))).sender.released 0 ≡ 3)
    × ((run last_sack (run both_sacks_again (run later_sack (fresh 2)))).sender.released 0 ≡ 4)
    × ((run last_sack (run both_sacks_again (run later_sack (fresh 2)))).sender.reach ≡ 3)

-- The first piece of an unordered message is held; the message is abandoned, and its FORWARD TSN drops that piece.
abbrev pub unordered_held : List Event
unordered_held =
    Event.Write 0 (text false (Policy.Rexmit 0) (1 ∷ 2 ∷ 3 ∷ [])) ∷ Event.Begin 0 0 0 ∷ Event.DataComes 0 ∷ []

abbrev pub unordered_abandoned : List Event
unordered_abandoned =
    Event.Abandon 0 0 ∷ Event.ForwardMade ∷ Event.ForwardComes 0 ∷ Event.DataComes 0 ∷ Event.Read 0 ∷ []

abbrev pub UnorderedIsDropped : Type 0
UnorderedIsDropped =
    (held_of (run unordered_held (fresh 2)) 0 ≡ 1)
    × (held_of (run unordered_abandoned (run unordered_held (fresh 2))) 0 ≡ 0)
    × (letters_of (run unordered_abandoned (run unordered_held (fresh 2))) 0 ≡ [])

-- A piece lost on stream 0 does not hold up stream 1,
abbrev pub one_lost : List Event
one_lost =
    Event.Write 0 (text true Policy.Reliable (1 ∷ [])) ∷ Event.Write 1 (text true Policy.Reliable (2 ∷ []))
    ∷ Event.Begin 0 0 0 ∷ Event.Begin 1 0 0
    ∷ Event.DataComes 1 ∷ Event.Read 0 ∷ Event.Read 1 ∷ []

-- and is read once it was sent again.
abbrev pub sent_again : List Event
sent_again = Event.Resend 0 ∷ Event.DataComes 2 ∷ Event.Read 0 ∷ []

abbrev pub StreamsDoNotWait : Type 0
StreamsDoNotWait =
    (letters_of (run one_lost (fresh 2)) 0 ≡ []) × (letters_of (run one_lost (fresh 2)) 1 ≡ said (2 ∷ []) ∷ [])
    × (letters_of (run sent_again (run one_lost (fresh 2))) 0 ≡ said (1 ∷ []) ∷ [])

-- A message dropped before anything of it was sent takes no sequence number, and its byte is released.
abbrev pub dropped_unsent : List Event
dropped_unsent =
    Event.Write 0 (text true (Policy.Timed 5) (1 ∷ [])) ∷ Event.Write 0 (text true Policy.Reliable (2 ∷ []))
    ∷ Event.Drop 0 0 ∷ Event.PassOver 0
    ∷ Event.Begin 0 1 0 ∷ Event.DataComes 0 ∷ Event.Read 0 ∷ []

abbrev pub DroppedUnsent : Type 0
DroppedUnsent =
    (letters_of (run dropped_unsent (fresh 2)) 0 ≡ said (2 ∷ []) ∷ [])
    × ((run dropped_unsent (fresh 2)).sender.released 0 ≡ 1)
    × (cursor_of (run dropped_unsent (fresh 2)) 0 ≡ 1)

-- Once the receiver is closed nothing is read.
abbrev pub closed : List Event
closed =
    Event.Write 0 (text true Policy.Reliable (1 ∷ [])) ∷ Event.Begin 0 0 0 ∷ Event.DataComes 0 ∷ Event.Close
    ∷ Event.Read 0 ∷ []

abbrev pub ClosedReadsNothing : Type 0
ClosedReadsNothing = letters_of (run closed (fresh 2)) 0 ≡ []

-- Stream 0's first message is read. Before its span is over its sequence numbers can't begin again, nor can its queue
-- be replaced.
abbrev pub too_early : List Event
too_early =
    Event.Write 0 (text true Policy.Reliable (1 ∷ [])) ∷ Event.Begin 0 0 0 ∷ Event.DataComes 0 ∷ Event.Read 0
    ∷ Event.Restart 0 ∷ Event.Replace 0 None
    ∷ []

-- Then the span ends. As long as the message isn't acknowledged the numbers can't begin again either.
abbrev pub not_acknowledged : List Event
not_acknowledged = Event.End 0 ∷ Event.Restart 0 ∷ []

-- It is acknowledged, the numbers begin again, and the receiver retires the stream;
abbrev pub span_over : List Event
span_over = Event.SackMade ∷ Event.SackComes 0 ∷ Event.Restart 0 ∷ Event.Replace 0 None ∷ []

abbrev pub retired : Direction
retired = run span_over (run not_acknowledged (run too_early (fresh 2)))

-- its application opens it anew, and the second message comes with the number 0 and is read.
abbrev pub opened_anew : List Event
opened_anew =
    Event.Open 0 ∷ Event.Write 0 (text true Policy.Reliable (2 ∷ [])) ∷ Event.Begin 0 1 0 ∷ Event.DataComes 1
    ∷ Event.Read 0 ∷ []

abbrev pub StreamBeginsAnew : Type 0
StreamBeginsAnew =
    ((run too_early (fresh 2)).sender.ssn 0 ≡ 1) × (cursor_of (run too_early (fresh 2)) 0 ≡ 1)
    × ((run not_acknowledged (run too_early (fresh 2))).over 0 ≡ true)
    × ((run not_acknowledged (run too_early (fresh 2))).sender.ssn 0 ≡ 1)
    × (retired.sender.ssn 0 ≡ 0) × (retired.receiver.queues 0 ≡ None)
    × (letters_of (run opened_anew retired) 0 ≡ said (1 ∷ []) ∷ said (2 ∷ []) ∷ [])
    × (cursor_of (run opened_anew retired) 0 ≡ 1)
