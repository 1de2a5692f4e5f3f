-- The laws of what events leave as it was: one at either end leaves what the association has at the other, and begun
-- messages stay counted as they are.
use Rattle.std.specs.Prelude.{◌≡◌, ℕ, [], ⊤}
use Rattle.sctp_streams.specs.Streams.{StreamMap}
use Rattle.sctp_model.specs.Machine.{Direction, Event, fresh, happens}
use Rattle.sctp_model.specs.Invariants.{Invariant}
use Rattle.sctp_fit.specs.Outgoing.{CountsBegun, FitsOutgoing, Sending}
use Rattle.sctp_fit.specs.Incoming.{FitsIncoming, Receiving}

-- all events at the sender of a direction, but for the end of a stream's span and what may follow that
abbrev pub IsAtSender : Event → Type 0
IsAtSender (Event.Write s m) = ⊤
IsAtSender (Event.PassOver s) = ⊤
IsAtSender (Event.Drop s i) = ⊤
IsAtSender (Event.Begin s i any) = ⊤
IsAtSender Event.GoOn = ⊤
IsAtSender (Event.Resend o) = ⊤
IsAtSender (Event.Abandon s i) = ⊤
IsAtSender (Event.SackComes k) = ⊤
IsAtSender Event.ForwardMade = ⊤
IsAtSender e = ⊥

-- events at its receiver
abbrev pub IsAtReceiver : Event → Type 0
IsAtReceiver (Event.DataComes k) = ⊤
IsAtReceiver Event.SackMade = ⊤
IsAtReceiver (Event.ForwardComes k) = ⊤
IsAtReceiver (Event.Open s) = ⊤
IsAtReceiver (Event.Read s) = ⊤
IsAtReceiver Event.Close = ⊤
IsAtReceiver e = ⊥

-- An event at the sender leaves what the association holds for its readers: DATA that came stays the DATA of its offset
-- when more is accepted or assigned.
abbrev pub SendersEventsLeaveWhatComes : Type 0
SendersEventsLeaveWhatComes = (a : Receiving) (w : Direction) (e : Event) → IsAtSender e → Invariant w
    → FitsIncoming a w → FitsIncoming a (happens w e)

-- An event at the receiver leaves what the association sends.
abbrev pub ReceiversEventsLeaveWhatIsSent : Type 0
ReceiversEventsLeaveWhatIsSent = (a : Sending) (w : Direction) (e : Event) → IsAtReceiver e
    → FitsOutgoing a w → FitsOutgoing a (happens w e)

-- Begun messages stay counted as they are, whatever event happens.
abbrev pub EventsKeepTheCount : Type 0
EventsKeepTheCount = (w : Direction) (e : Event) → Invariant w → CountsBegun w.sender → CountsBegun (happens w e).sender

-- Where no offset was assigned in the direction that comes, the peer's initial TSN may become known: the direction
-- knows nothing of it.
abbrev pub InitialTsnsAreNoEvents : Type 0
InitialTsnsAreNoEvents = (a : Receiving) (t : ℕ) (w : Direction) → w.sender.plan.places ≡ [] → Invariant w
    → FitsIncoming a w → FitsIncoming (record a { peer = t }) w

-- An association without a live stream, to which nothing came, fits a direction in which nothing happened, as its
-- receiver.
abbrev pub FreshOnesReceiveNothing : Type 0
FreshOnesReceiveNothing = (peer size : ℕ) (m : StreamMap) → m.by_id ≡ []
    → FitsIncoming (record { streams = m; peer = peer; taken = []; passed = 0 }) (fresh size)
