-- What gap ack blocks acknowledge of what is in flight (RFC 4960 sections 3.3.4 and 6.2.1).
use Rattle.std.specs.Prelude.{ℕ, zero, suc, ◌+◌, ◌-◌, ◌/◌, ◌==◌, ◌&&◌, Bool, List, [], ◌∷◌, ◌++◌, length, min}
use Rattle.std.specs.Prelude.{if◌then◌else◌, nat_le, slice_get, Option, Some, None}
use Rattle.sctp_wire_types.specs.declared.chunk.GapAckBlock.{GapAckBlock}
use Rattle.sctp_outbound_queue.specs.declared.message.InFlight.{InFlight}
use Rattle.sctp_outbound_queue.specs.Message.{acked, is_outstanding}
use Rattle.sctp_outbound_queue.specs.Outbound.{next_tsn_of}
use Rattle.sctp_streams.specs.Streams.{StreamMap}
use Rattle.sctp_received.specs.Received.{is_named}
use Rattle.sctp_parts.specs.Estimate.{Estimate, measured}
use Rattle.sctp_outbound.specs.declared.sender.Sender.{Sender}
use Rattle.sctp_outbound.specs.Sender.{streams_after}

-- these pieces, numbered from j on, once those whose numbers a SACK names are acknowledged
abbrev pub acked_among : (ℕ → Bool) → ℕ → List InFlight → List InFlight
acked_among named j [] = []
acked_among named j (x ∷ xs) = (if named j then acked x else x) ∷ acked_among named (suc j) xs

-- the streams once the outstanding bytes of those that it names were released
abbrev pub released_among : (ℕ → Bool) → ℕ → List InFlight → StreamMap → StreamMap
released_among named j [] m = m
released_among named j (x ∷ xs) m = released_among named (suc j) xs (if named j then streams_after (Some x) m else m)

-- the block names the piece in flight of this number, counted from 0: its TSN is one more past the cumulative TSN ack
abbrev pub is_named_by : GapAckBlock → ℕ → Bool
is_named_by b j = nat_le b.start (j + 1) && nat_le (j + 1) b.end

-- The round trips that blocks measure (RFC 4960 section 6.3.1)

-- how long ago a piece was sent, in ms, where it is outstanding and was sent once
abbrev pub trip_of : ℕ → Option InFlight → List ℕ
trip_of now None = []
trip_of now (Some p) = if is_outstanding p && (p.sent_count == 1) then (now - p.since) / 1000000 ∷ [] else []

-- what the pieces at so many places from one on measure, which are acknowledged one after another
abbrev pub trips_from : ℕ → ℕ → ℕ → List InFlight → List ℕ
trips_from now i zero xs = []
trips_from now i (suc n) xs =
    trip_of now (slice_get xs i) ++ trips_from now (i + 1) n (acked_among (λ j. j == i) 0 xs)

-- what the pieces measure that a block names, in the order of their TSNs
abbrev pub block_trips : ℕ → GapAckBlock → List InFlight → List ℕ
block_trips now b xs = trips_from now (b.start - 1) (min b.end (length xs) - (b.start - 1)) xs

-- what the pieces measure that these blocks name, in the order in which they are named; one that is named twice does so
-- once
abbrev pub round_trips : ℕ → List GapAckBlock → List InFlight → List ℕ
round_trips now [] xs = []
round_trips now (b ∷ bs) xs = block_trips now b xs ++ round_trips now bs (acked_among (is_named_by b) 0 xs)

-- the TSN from which on round trips are measured, and the estimate, once these were: times are measured then from the
-- next TSN on
abbrev pub timed : ℕ → List ℕ → ℕ × Estimate → ℕ × Estimate
timed next [] x = x
timed next (trip ∷ trips) x = timed next trips (next, measured trip x.1)

-- the sender with these pieces in flight, which measures round trips from this TSN on
abbrev pub with_measure : Sender → List InFlight → ℕ → Sender
with_measure s pieces first = record s {
  queue = (let q = s.queue in record q { in_flight = pieces });
  min_tsn2measure_rtt = first;
}

-- the TSN from which on round trips are measured, and the estimate, once these blocks were taken in
abbrev pub blocks_timed : ℕ → List GapAckBlock → Sender → Estimate → ℕ × Estimate
blocks_timed now blocks s e =
    timed (next_tsn_of s.queue) (round_trips now blocks s.queue.in_flight) (s.min_tsn2measure_rtt, e)

-- sender, estimate and streams behind a SACK's cumulative TSN ack once its blocks were taken in
abbrev pub with_blocks : ℕ → List GapAckBlock → Sender × Estimate × StreamMap → Sender × Estimate × StreamMap
with_blocks now blocks (s, e, m) = (
  with_measure s (acked_among (λ j. is_named (j + 1) blocks) 0 s.queue.in_flight) (blocks_timed now blocks s e).0,
  (blocks_timed now blocks s e).1,
  released_among (λ j. is_named (j + 1) blocks) 0 s.queue.in_flight m,
)
