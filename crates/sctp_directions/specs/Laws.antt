-- The laws of an association between its directions: what writes, pieces that go again, acknowledgements, messages that
-- are abandoned or dropped, DATA, FORWARD TSN and reports are as events of the model, and what acts and events leave as
-- it was.
use Rattle.std.specs.Prelude.{◌≡◌, ◌⊎◌, ℕ, ◌+◌, ◌*◌, ◌<◌, ◌≤◌, ◌%◌, ◌^◌, true, false, List, [], ◌∷◌, ◌++◌}
use Rattle.std.specs.Prelude.{Bool, if◌then◌else◌, length, slice_get, suc, ◌==◌, Option, Some}
use Rattle.std.specs.List.{AllByRecursion}
use Rattle.sctp_serial.specs.Serial.{tsn}
use Rattle.sctp_wire_types.specs.declared.chunk.ChunkForwardTsn.{ChunkForwardTsn}
use Rattle.sctp_wire_types.specs.declared.chunk.ChunkPayloadData.{ChunkPayloadData}
use Rattle.sctp_wire_types.specs.declared.chunk.ChunkSelectiveAck.{ChunkSelectiveAck}
use Rattle.sctp_wire_types.specs.declared.ids.PayloadProtocolIdentifier.{PayloadProtocolIdentifier}
use Rattle.sctp_streams.specs.declared.setting.Setting.{Setting}
use Rattle.sctp_streams.specs.Stream.{StreamView}
use Rattle.sctp_streams.specs.Streams.{StreamMap, stream_at}
use Rattle.sctp_outbound_queue.specs.declared.message.Reports.{Reports}
use Rattle.sctp_outbound_queue.specs.declared.message.Retransmission.{Retransmission}
use Rattle.sctp_outbound_queue.specs.Outbound.{abandoned_in_front_of}
use Rattle.sctp_outbound.specs.declared.sender.Sender.{Sender}
use Rattle.sctp_outbound.specs.Forward.{forward_of}
use Rattle.sctp_model.specs.Packets.{Data, Forward, Sack, mem}
use Rattle.sctp_model.specs.Machine.{Direction, Event, fresh, gone_front, happens}
use Rattle.sctp_model.specs.Invariants.{Invariant}
use Rattle.sctp_model.specs.Safe.{IsWithin}
use Rattle.sctp_fit.specs.FewPieces.{HasAccepted, all_pieces, pieces_in}
use Rattle.sctp_fit.specs.Forwards.{IsForwardSaid}
use Rattle.sctp_fit.specs.Incoming.{FitsIncoming, IsSaid, tsn_before}
use Rattle.sctp_fit.specs.Outgoing.{CountsBegun, FitsOutgoing}
use Rattle.sctp_fit.specs.Sendings.{IsGiven}
use Rattle.sctp_fit.specs.Writes.{message_on}
use Rattle.sctp_directions.specs.Acts.{Act, Can, EndsSpanOf, HasReadOpen, IsKeptInOrder, IsOfItsOwn, IsOfWhatComes}
use Rattle.sctp_directions.specs.Acts.{IsNotPeerKnown, Parts}
use Rattle.sctp_directions.specs.Acts.{SetsReliability, data_given, done, done_all, offset_in, reach_in, receiving}
use Rattle.sctp_directions.specs.Acts.{sending, type_on}
use Rattle.sctp_directions.specs.Events.{AcceptsAMessage, Assigns, Brings, BringsForward, GivesAMessage}
use Rattle.sctp_directions.specs.Events.{IsForwardWithin, IsOfReceiving, IsOfSending, IsReceived}
use Rattle.sctp_directions.specs.Events.{IsSentOn, KeepsWithin, MakesAForward}
use Rattle.sctp_directions.specs.Reports.{SaysWhatWasTaken}
use Rattle.sctp_directions.specs.Said.{IsForwardMade, IsMade}

-- Its own DATA

-- A write, of any number of pieces, on a live stream is accepted by the direction as that message: under the payload
-- type that it names or else the stream's, with the stream's order and reliability of that moment.
abbrev pub ItsWritesAreAccepted : Type 0
ItsWritesAreAccepted = (p : Parts) (id : ℕ) (named : Option PayloadProtocolIdentifier) (bytes : List ℕ) (t : StreamView)
    (w : Direction)
    → stream_at p.streams id ≡ Some t → 0 < length bytes → Invariant w → CountsBegun w.sender
    → FitsOutgoing (sending p) w
    → FitsOutgoing (sending (done (Act.Wrote id named bytes) p))
    (happens w (Event.Write id (message_on t (type_on t named) bytes)))

-- Of what an application sets on a stream the direction knows nothing.
abbrev pub SettingsAreNoEvents : Type 0
SettingsAreNoEvents = (p : Parts) (id : ℕ) (setting : Setting) (w : Direction) → FitsOutgoing (sending p) w
    → FitsOutgoing (sending (done (Act.Adjusted id setting) p)) w

-- A piece that goes out again is that of its offset, and is DATA of the direction.
abbrev pub ItsPiecesAreGiven : Type 0
ItsPiecesAreGiven = (p : Parts) (at_once : Bool) (by : Retransmission) (index : ℕ) (w : Direction)
    → Can (Act.SentAgain at_once by index) p → Invariant w → FitsOutgoing (sending p) w
    → FitsOutgoing (sending (done (Act.SentAgain at_once by index) p)) (happens w (Event.Resend (w.sender.reach + index)))
    × AllByRecursion (IsGiven p.history.own (happens w (Event.Resend (w.sender.reach + index))))
    (data_given (Act.SentAgain at_once by index) p)

-- Of a mark for sending again the direction knows nothing.
abbrev pub ItsMarksAreNoEvents : Type 0
ItsMarksAreNoEvents = (p : Parts) (w : Direction) → FitsOutgoing (sending p) w
    → FitsOutgoing (sending (done Act.Marked p)) w

-- What a SACK acknowledges at the association, by its cumulative TSN ack and by its gap ack blocks, it acknowledges at
-- the direction's sender, whatever it reports missing.
abbrev pub ItsAcknowledgementsAreAlike : Type 0
ItsAcknowledgementsAreAlike = (p : Parts) (n k : ℕ) (missing : Reports) (c : ChunkSelectiveAck) (x : Sack)
    (w : Direction)
    → slice_get w.sacks k ≡ Some x → SaysWhatWasTaken p.history.own x.reach x.above c → x.reach ≡ w.sender.reach + n
    → n ≤ length p.queue.in_flight → Invariant w → FitsOutgoing (sending p) w
    → FitsOutgoing (sending (done (Act.Acknowledged n c.gap_ack_blocks missing) p)) (happens w (Event.SackComes k))

-- A SACK that was made, and that acknowledges so many pieces at the association, acknowledges so many offsets.
abbrev pub SacksMeanTheSame : Type 0
SacksMeanTheSame = (p : Parts) (n t k : ℕ) (x : Sack) (w : Direction) → slice_get w.sacks k ≡ Some x
    → t ≡ tsn_before (tsn p.history.own x.reach)
    → t % 2 ^ 32 ≡ tsn_before (tsn p.history.own (p.history.base + n)) → n ≤ length p.queue.in_flight → IsWithin w
    → Invariant w → FitsOutgoing (sending p) w → x.reach ≡ w.sender.reach + n

-- The message of a piece in flight, which isn't reliable, is abandoned: the direction abandons it too.
abbrev pub ItsAbandonmentsAreAlike : Type 0
ItsAbandonmentsAreAlike = (p : Parts) (index : ℕ) (w : Direction) → Can (Act.Abandoned index) p → Invariant w
    → CountsBegun w.sender → FitsOutgoing (sending p) w
    → (s : ℕ) × (i : ℕ) × FitsOutgoing (sending (done (Act.Abandoned index) p)) (happens w (Event.Abandon s i))

-- So it is with one of which a part waits and nothing is in flight.
abbrev pub ItsTailsAreAbandonedAlike : Type 0
ItsTailsAreAbandonedAlike = (p : Parts) (w : Direction) → Can Act.TailAbandoned p → Invariant w → CountsBegun w.sender
    → FitsOutgoing (sending p) w
    → (s : ℕ) × (i : ℕ) × FitsOutgoing (sending (done Act.TailAbandoned p)) (happens w (Event.Abandon s i))

-- A message of which nothing was sent, and that isn't reliable, is dropped: the direction drops it too.
abbrev pub ItsDropsAreAlike : Type 0
ItsDropsAreAlike = (p : Parts) (k : ℕ) (w : Direction) → Can (Act.Dropped k) p → Invariant w → CountsBegun w.sender
    → FitsOutgoing (sending p) w
    → (s : ℕ) × (i : ℕ) × FitsOutgoing (sending (done (Act.Dropped k) p)) (happens w (Event.Drop s i))

-- the spans of these streams end in a direction, one after another
abbrev pub spans_ended : List ℕ → Direction → Direction
spans_ended [] w = w
spans_ended (id ∷ ids) w = spans_ended ids (happens w (Event.End id))

-- The spans of streams end: so they do at the direction's sender, whatever becomes of the streams.
abbrev pub ItsSpansEnd : Type 0
ItsSpansEnd = (p : Parts) (ids : List ℕ) (m : StreamMap) (w : Direction) → Can (Act.SpansEnded ids m) p
    → FitsOutgoing (sending p) w
    → FitsOutgoing (sending (done (Act.SpansEnded ids m) p)) (spans_ended ids w)

-- Of the time that a message has the direction knows nothing.
abbrev pub ItsStartsAreNoEvents : Type 0
ItsStartsAreNoEvents = (p : Parts) (now : ℕ) (w : Direction) → FitsOutgoing (sending p) w
    → FitsOutgoing (sending (done (Act.Started now) p)) w

-- Where abandoned pieces stand in front of all others in flight, the direction makes a FORWARD TSN, and the chunk that
-- an association's sender makes is that one.
abbrev pub ItsForwardsSayTheSame : Type 0
ItsForwardsSayTheSame = (p : Parts) (s : Sender) (w : Direction) → Can Act.Forwarded p → s.queue ≡ p.queue
    → p.queue.first_tsn ≡ tsn p.history.own p.history.base → FitsOutgoing (sending p) w
    → FitsOutgoing (sending (done Act.Forwarded p)) (happens w Event.ForwardMade)
    × IsForwardMade p.history.own (happens w Event.ForwardMade) (forward_of s)

-- What comes to it

-- New DATA that is taken in, in whatever order, stands on the offset that its TSN spells, and comes to the direction's
-- receiver.
abbrev pub WhatItTakesInComes : Type 0
WhatItTakesInComes = (p : Parts) (piece : ChunkPayloadData) (k : ℕ) (d : Data) (t : StreamView) (w : Direction)
    → Can (Act.Took piece) p
    → slice_get w.datas k ≡ Some d → IsSaid w.over p.history.peer piece d
    → stream_at p.streams piece.stream_identifier ≡ Some t → w.over piece.stream_identifier ≡ false
    → IsWithin w → Invariant w → FitsIncoming (receiving p) w
    → (d.offset ≡ offset_in p.history piece.tsn)
    × FitsIncoming (receiving (done (Act.Took piece) p)) (happens w (Event.DataComes k))

-- So it does where its stream is past its span, whatever the DATA says and whether or not the stream is live,
abbrev pub WhatItTakesInPastItsSpanComes : Type 0
WhatItTakesInPastItsSpanComes = (p : Parts) (piece : ChunkPayloadData) (k : ℕ) (d : Data) (w : Direction)
    → Can (Act.Took piece) p
    → slice_get w.datas k ≡ Some d → IsSaid w.over p.history.peer piece d
    → w.over piece.stream_identifier ≡ true
    → IsWithin w → Invariant w → FitsIncoming (receiving p) w
    → (d.offset ≡ offset_in p.history piece.tsn)
    × FitsIncoming (receiving (done (Act.Took piece) p)) (happens w (Event.DataComes k))

-- and where it is kept apart from such a stream.
abbrev pub WhatItDefersComes : Type 0
WhatItDefersComes = (p : Parts) (piece : ChunkPayloadData) (k : ℕ) (d : Data) (w : Direction)
    → Can (Act.Deferred piece) p
    → slice_get w.datas k ≡ Some d → IsSaid w.over p.history.peer piece d
    → w.over piece.stream_identifier ≡ true
    → IsWithin w → Invariant w → FitsIncoming (receiving p) w
    → (d.offset ≡ offset_in p.history piece.tsn)
    × FitsIncoming (receiving (done (Act.Deferred piece) p)) (happens w (Event.DataComes k))

-- The spans of streams end: so they do at the direction's receiver, whatever becomes of the streams.
abbrev pub SpansOfWhatComesEnd : Type 0
SpansOfWhatComesEnd = (p : Parts) (ids : List ℕ) (m : StreamMap) (w : Direction) → Can (Act.SpansEnded ids m) p
    → FitsIncoming (receiving p) w
    → FitsIncoming (receiving (done (Act.SpansEnded ids m) p)) (spans_ended ids w)

-- A FORWARD TSN that lies ahead passes over all up to the offset that its new cumulative TSN spells, and comes to the
-- direction's receiver.
abbrev pub ForwardsItTakesCome : Type 0
ForwardsItTakesCome = (p : Parts) (c : ChunkForwardTsn) (k : ℕ) (f : Forward) (w : Direction)
    → Can (Act.PassedOver c.new_cumulative_tsn c.streams) p
    → slice_get w.forwards k ≡ Some f → IsForwardSaid w.over p.history.peer c f
    → IsWithin w → Invariant w → FitsIncoming (receiving p) w
    → (f.reach ≡ suc (offset_in p.history c.new_cumulative_tsn))
    × FitsIncoming (receiving (done (Act.PassedOver c.new_cumulative_tsn c.streams) p))
    (happens w (Event.ForwardComes k))

-- A report makes a SACK, and any chunk that says what came to the association is that one: its cumulative TSN ack and
-- its set are the receiver's.
abbrev pub ReportsSayWhatWasTaken : Type 0
ReportsSayWhatWasTaken = (p : Parts) (w : Direction) → FitsIncoming (receiving p) w
    → FitsIncoming (receiving p) (happens w Event.SackMade)
    × ((c : ChunkSelectiveAck) → SaysWhatWasTaken p.history.peer (reach_in p.history) p.history.taken c
    → IsMade p.history.peer (happens w Event.SackMade) c)

-- Where no offset was assigned in the direction that comes, the peer's initial TSN may become known: the direction
-- knows nothing of it.
abbrev pub PeerKnownIsNoEvent : Type 0
PeerKnownIsNoEvent = (p : Parts) (t : ℕ) (w : Direction) → w.sender.plan.places ≡ [] → Invariant w
    → FitsIncoming (receiving p) w → FitsIncoming (receiving (done (Act.PeerKnown t) p)) w

-- Both

-- Acts of its own leave it as a receiver, and acts of what comes leave it as a sender; none of them changes the initial
-- TSNs.
abbrev pub OwnActsLeaveWhatComes : Type 0
OwnActsLeaveWhatComes = (act : Act) (p : Parts) (w : Direction) → IsOfItsOwn act → FitsIncoming (receiving p) w
    → FitsIncoming (receiving (done act p)) w

abbrev pub WhatComesLeavesItsOwn : Type 0
WhatComesLeavesItsOwn = (act : Act) (p : Parts) (w : Direction) → IsOfWhatComes act → FitsOutgoing (sending p) w
    → FitsOutgoing (sending (done act p)) w

abbrev pub ActsKeepTheInitialTsns : Type 0
ActsKeepTheInitialTsns = (acts : List Act) (p : Parts) → AllByRecursion IsNotPeerKnown acts
    → ((done_all acts p).history.own ≡ p.history.own) × ((done_all acts p).history.peer ≡ p.history.peer)

-- Only an act that sets a stream's order or reliability has the stream send other messages than ordered, reliable ones.
abbrev pub OnlySettingsLoosen : Type 0
OnlySettingsLoosen = (act : Act) (p : Parts) (s : ℕ) → (SetsReliability act s → ⊥) → IsKeptInOrder p.streams s
    → IsKeptInOrder (done act p).streams s

-- A stream that can be read stays so until its span ends.
abbrev pub OnlyEndsCloseReads : Type 0
OnlyEndsCloseReads = (act : Act) (p : Parts) (s : ℕ) → Can act p → (EndsSpanOf act s → ⊥) → HasReadOpen p.streams s
    → HasReadOpen (done act p).streams s

-- The events

-- An event of the sender leaves the receiver's side and all DATA and FORWARD TSNs that were given out, and never moves
-- the acknowledged reach back.
abbrev pub SendersEventsAreSent : Type 0
SendersEventsAreSent =
    (w : Direction) (e : Event) → IsOfSending e
    → IsSentOn w (happens w e) × (w.sender.reach ≤ (happens w e).sender.reach)

-- A write alone accepts, behind what was accepted before; the beginning of a message, its further pieces and the rest
-- of an abandoned one alone are assigned offsets, and of an abandoned one that is a single offset.
abbrev pub OnlyWritesAccept : Type 0
OnlyWritesAccept =
    (w : Direction) (e : Event) → IsOfSending e → (AcceptsAMessage e → ⊥)
    → (happens w e).sender.plan.accepted ≡ w.sender.plan.accepted

abbrev pub WritesAreAcceptedLast : Type 0
WritesAreAcceptedLast = (w : Direction) (s u : ℕ) (t : StreamView) (kind : PayloadProtocolIdentifier) (bytes : List ℕ)
    → 0 < length bytes
    → (happens w (Event.Write s (message_on t kind bytes))).sender.plan.accepted u
    ≡ w.sender.plan.accepted u ++ (if s == u then message_on t kind bytes ∷ [] else [])

abbrev pub OnlyBeginningsAssign : Type 0
OnlyBeginningsAssign =
    (w : Direction) (e : Event) → IsOfSending e → (Assigns e → ⊥)
    → (happens w e).sender.plan.places ≡ w.sender.plan.places

abbrev pub AbandonmentsAssignOneOffset : Type 0
AbandonmentsAssignOneOffset =
    (w : Direction) (s i : ℕ)
    → length (happens w (Event.Abandon s i)).sender.plan.places ≤ suc (length w.sender.plan.places)

abbrev pub OnlyForwardMadeGivesForwards : Type 0
OnlyForwardMadeGivesForwards =
    (w : Direction) (e : Event) → IsOfSending e → (MakesAForward e → ⊥) → (happens w e).forwards ≡ w.forwards

-- What holds before an event of the sender holds after it, whether or not the limits do, where a FORWARD TSN that is
-- made passes over few offsets. Those are as many as there are abandoned pieces in front of all others in flight.
abbrev pub SendersEventsKeepTheInvariant : Type 0
SendersEventsKeepTheInvariant =
    (w : Direction) (e : Event) → IsOfSending e → IsForwardWithin w e → Invariant w → Invariant (happens w e)

abbrev pub ForwardsPassOverTheFront : Type 0
ForwardsPassOverTheFront = (p : Parts) (w : Direction) → FitsOutgoing (sending p) w
    → length (gone_front w.sender) ≡ abandoned_in_front_of p.queue.in_flight

-- An event of the receiver leaves the sender's side; it takes in what it brings alone, passes over what a FORWARD TSN
-- that it brings alone does, and only a read gives a message.
abbrev pub ReceiversEventsAreReceived : Type 0
ReceiversEventsAreReceived = (w : Direction) (e : Event) → IsOfReceiving e → IsReceived w (happens w e)

abbrev pub OnlyWhatIsBroughtIsTakenIn : Type 0
OnlyWhatIsBroughtIsTakenIn = (w : Direction) (e : Event) (o : ℕ) → IsOfReceiving e
    → mem o (happens w e).receiver.taken ≡ true
    → (mem o w.receiver.taken ≡ true) ⊎ Brings w e o

abbrev pub OnlyForwardsPassOver : Type 0
OnlyForwardsPassOver = (w : Direction) (e : Event) → IsOfReceiving e
    → ((happens w e).receiver.passed ≡ w.receiver.passed) ⊎ BringsForward w e (happens w e).receiver.passed

abbrev pub OnlyReadsGiveMessages : Type 0
OnlyReadsGiveMessages =
    (w : Direction) (e : Event) (s : ℕ) → IsOfReceiving e → (GivesAMessage e → ⊥) → (happens w e).reads s ≡ w.reads s

abbrev pub ClosedReceiversAreNotOpen : Type 0
ClosedReceiversAreNotOpen = (w : Direction) → (happens w Event.Close).receiver.is_open ≡ false

-- A direction stays within the limits where a message is dropped, a SACK, a FORWARD TSN or DATA comes, a SACK or a
-- FORWARD TSN is made, a stream is opened, the receiver closes or the span of a stream ends.
abbrev pub EventsKeepTheLimits : Type 0
EventsKeepTheLimits = (w : Direction) (e : Event) → KeepsWithin e → IsWithin w → IsWithin (happens w e)

-- The limits

-- A message has the pieces whose first byte lies within it, as `IsWhole` counts them; one that fits a payload has one
-- piece.
abbrev pub PiecesAreCounted : Type 0
PiecesAreCounted =
    (size bytes k : ℕ) → 0 < size
    → (k < pieces_in size bytes → size * k < bytes) × (size * k < bytes → k < pieces_in size bytes)

abbrev pub ShortMessagesAreOnePiece : Type 0
ShortMessagesAreOnePiece = (size bytes : ℕ) → 0 < bytes → bytes ≤ size → pieces_in size bytes ≡ 1

-- A direction in which nothing happened has no piece, and one in which the messages of one stream have at most k pieces
-- more, and the others are as they were, has at most k more.
abbrev pub NothingIsAcceptedAtFirst : Type 0
NothingIsAcceptedAtFirst = (size : ℕ) → HasAccepted 0 (fresh size)

abbrev pub AcceptedMessagesAreCounted : Type 0
AcceptedMessagesAreCounted = (n k id : ℕ) (w v : Direction) → v.sender.plan.size ≡ w.sender.plan.size
    → ((s : ℕ) → (s ≡ id → ⊥) → v.sender.plan.accepted s ≡ w.sender.plan.accepted s)
    → all_pieces w.sender.plan.size (v.sender.plan.accepted id)
    ≤ all_pieces w.sender.plan.size (w.sender.plan.accepted id) + k
    → HasAccepted n w → HasAccepted (n + k) v

-- A direction in which nothing happened is within the limits.
abbrev pub FreshDirectionsAreWithin : Type 0
FreshDirectionsAreWithin = (size : ℕ) → IsWithin (fresh size)
