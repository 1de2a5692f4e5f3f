-- The laws of acknowledgements: what a SACK acknowledges at an association, by its cumulative TSN ack and by its gap
-- ack blocks, it acknowledges at the direction's sender, and the same bytes are released (RFC 4960 section 6.2.1).
use Rattle.std.specs.Prelude.{◌≡◌, ℕ, ◌+◌, ◌<◌, ◌≤◌, Bool, false, length, drop, slice_get, Some}
use Rattle.sctp_outbound_queue.specs.Outbound.{tsn_at}
use Rattle.sctp_streams.specs.Stream.{StreamView}
use Rattle.sctp_streams.specs.Streams.{stream_at}
use Rattle.sctp_outbound.specs.GapAcks.{acked_among, released_among}
use Rattle.sctp_model.specs.Messages.{accepted_bytes}
use Rattle.sctp_model.specs.Packets.{Sack, names}
use Rattle.sctp_model.specs.Machine.{Direction, Event, happens}
use Rattle.sctp_model.specs.Invariants.{Invariant}
use Rattle.sctp_fit.specs.Outgoing.{FitsOutgoing, Sending}

-- A SACK acknowledged the first n pieces in flight, and of the pieces in flight, numbered from 0, those that it names.
abbrev pub acknowledged : ℕ → (ℕ → Bool) → Sending → Sending
acknowledged n named a = record a {
  queue = (let q = a.queue in record q {
    in_flight = drop n (acked_among named 0 q.in_flight);
    first_tsn = tsn_at q.first_tsn n;
  });
  streams = released_among named 0 a.queue.in_flight a.streams;
  base = a.base + n;
}

-- What a SACK acknowledges at the association, it acknowledges at the direction's sender.
abbrev pub AcknowledgementsAreAlike : Type 0
AcknowledgementsAreAlike = (a : Sending) (n k : ℕ) (named : ℕ → Bool) (x : Sack) (w : Direction)
    → slice_get w.sacks k ≡ Some x → x.reach ≡ w.sender.reach + n → n ≤ length a.queue.in_flight
    → ((j : ℕ) → j < length a.queue.in_flight → names x (w.sender.reach + j) ≡ named j)
    → Invariant w → FitsOutgoing a w
    → FitsOutgoing (acknowledged n named a) (happens w (Event.SackComes k))

-- What is released of a live stream within its span is what was accepted and is not buffered.
abbrev pub WhatIsReleasedIsNotBuffered : Type 0
WhatIsReleasedIsNotBuffered = (a : Sending) (id : ℕ) (t : StreamView) (w : Direction) → stream_at a.streams id ≡ Some t
    → w.over id ≡ false → FitsOutgoing a w
    → t.buffered + w.sender.released id ≡ accepted_bytes w.sender.plan id

-- An association fits no two directions that differ in how far the acknowledgements reach or how many offsets are
-- assigned.
abbrev pub SendersArePinned : Type 0
SendersArePinned = (a : Sending) (w : Direction) → FitsOutgoing a w
    → (w.sender.reach ≡ a.base) × (length w.sender.plan.places ≡ a.base + length a.queue.in_flight)
