-- The laws of spans that end: from then on nothing is said of the stream, and it may become anything.
use Rattle.std.specs.Prelude.{◌≡◌, ℕ, false, ◌==◌}
use Rattle.sctp_streams.specs.Streams.{StreamMap, stream_at}
use Rattle.sctp_model.specs.Machine.{Direction, Event, happens}
use Rattle.sctp_fit.specs.Outgoing.{FitsOutgoing, Sending}
use Rattle.sctp_fit.specs.Incoming.{FitsIncoming, Receiving}

-- The span of a stream ends at the sender of a direction, and that stream alone becomes anything.
abbrev pub SpansEnd : Type 0
SpansEnd = (a : Sending) (w : Direction) (s : ℕ) (m : StreamMap)
    → ((t : ℕ) → (t == s) ≡ false → stream_at m t ≡ stream_at a.streams t) → FitsOutgoing a w
    → FitsOutgoing (record a { streams = m }) (happens w (Event.End s))

-- So it does at the receiver.
abbrev pub SpansEndWhereItComes : Type 0
SpansEndWhereItComes = (a : Receiving) (w : Direction) (s : ℕ) (m : StreamMap)
    → ((t : ℕ) → (t == s) ≡ false → stream_at m t ≡ stream_at a.streams t) → FitsIncoming a w
    → FitsIncoming (record a { streams = m }) (happens w (Event.End s))

-- What is past its span may become anything, at the sender of a direction
abbrev pub StreamsPastTheirSpanChange : Type 0
StreamsPastTheirSpanChange = (a : Sending) (w : Direction) (m : StreamMap)
    → ((t : ℕ) → w.over t ≡ false → stream_at m t ≡ stream_at a.streams t) → FitsOutgoing a w
    → FitsOutgoing (record a { streams = m }) w

-- and at the receiver.
abbrev pub StreamsPastTheirSpanChangeWhereItComes : Type 0
StreamsPastTheirSpanChangeWhereItComes = (a : Receiving) (w : Direction) (m : StreamMap)
    → ((t : ℕ) → w.over t ≡ false → stream_at m t ≡ stream_at a.streams t) → FitsIncoming a w
    → FitsIncoming (record a { streams = m }) w
