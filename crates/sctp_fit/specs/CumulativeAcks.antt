-- The laws of a SACK's cumulative TSN ack: to acknowledge the first pieces in flight one at a time, and then what gap
-- ack blocks name of those behind them, is to acknowledge all of them at once (RFC 4960 section 6.2.1).
use Rattle.std.specs.Prelude.{◌≡◌, ℕ, zero, suc, ◌+◌, ◌-◌, ◌^◌, ◌<◌, ◌≤◌, Bool, ◌||◌, List, length, nat_lt, slice_get}
use Rattle.sctp_wire_types.specs.declared.chunk.GapAckBlock.{GapAckBlock}
use Rattle.sctp_received.specs.Received.{is_named}
use Rattle.sctp_outbound_queue.specs.Outbound.{without_first}
use Rattle.sctp_outbound.specs.Sender.{streams_after}
use Rattle.sctp_fit.specs.Outgoing.{Sending}
use Rattle.sctp_outbound.specs.GapAcks.{acked_among, released_among}
use Rattle.sctp_fit.specs.Acknowledgements.{acknowledged}

-- the first piece in flight is acknowledged cumulatively, and its outstanding bytes are released
abbrev pub first_acknowledged : Sending → Sending
first_acknowledged a = record a {
  queue = without_first a.queue;
  streams = streams_after (slice_get a.queue.in_flight 0) a.streams;
  base = a.base + 1;
}

-- the first n are acknowledged in this way, one after another
abbrev pub first_pieces_acknowledged : ℕ → Sending → Sending
first_pieces_acknowledged zero a = a
first_pieces_acknowledged (suc n) a = first_pieces_acknowledged n (first_acknowledged a)

-- A cumulative TSN ack acknowledges the first n pieces in flight at once, where the association takes them one at a
-- time.
abbrev pub CumulativeAcksTakeTheFirstPieces : Type 0
CumulativeAcksTakeTheFirstPieces = (a : Sending) (n : ℕ) → n ≤ length a.queue.in_flight → a.queue.first_tsn < 2 ^ 32
    → first_pieces_acknowledged n a ≡ acknowledged n (λ j. nat_lt j n) a

-- of the pieces in flight, numbered from 0, those that are named are acknowledged, and none of them goes
abbrev pub with_named : (ℕ → Bool) → Sending → Sending
with_named named a = record a {
  queue = (let q = a.queue in record q { in_flight = acked_among named 0 q.in_flight });
  streams = released_among named 0 a.queue.in_flight a.streams;
}

-- A cumulative TSN ack and its gap ack blocks acknowledge at once the first n pieces in flight and those that the
-- blocks name. The association takes the first n one at a time, and then of those that are left the named ones.
-- Blocks count from the cumulative TSN ack, so the first piece that is left is their 1 (RFC 4960 section 3.3.4).
abbrev pub SacksTakeWhatTheyName : Type 0
SacksTakeWhatTheyName = (a : Sending) (n : ℕ) (blocks : List GapAckBlock) → n ≤ length a.queue.in_flight
    → a.queue.first_tsn < 2 ^ 32
    → acknowledged n (λ j. nat_lt j n || is_named (j + 1 - n) blocks) a
    ≡ with_named (λ j. is_named (j + 1) blocks) (first_pieces_acknowledged n a)
