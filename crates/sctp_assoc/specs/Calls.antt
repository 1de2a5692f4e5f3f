-- What the calls of an application do to an association.
use Rattle.std.specs.Prelude.{◌≡◌, ◌⊎◌, ℕ, Bool, true, false, List, [], ◌∷◌, ◌++◌, ◌&&◌, ◌||◌, ◌==◌}
use Rattle.std.specs.Prelude.{◌*◌, if◌then◌else◌, length, min, not, slice_get}
use Rattle.std.specs.Prelude.{drop, nat_le, nat_lt, is_some, Option, Some, None, Result, Ok, Err}
use Rattle.sctp_wire_types.specs.Config.{is_rfc}
use Rattle.sctp_wire_types.specs.declared.error.Error.{Error}
use Rattle.sctp_wire_types.specs.declared.error.Error.TheVariants as errors
use Rattle.sctp_wire_types.specs.declared.event.StreamEvent.{StreamEvent}
use Rattle.sctp_wire_types.specs.declared.event.StreamEvent.TheVariants.{BufferedAmountHigh}
use Rattle.sctp_wire_types.specs.declared.event.StreamEvent.TheVariants as stream_events
use Rattle.sctp_wire_types.specs.declared.ids.PayloadProtocolIdentifier.{PayloadProtocolIdentifier}
use Rattle.sctp_parts.specs.declared.state.AssociationState.{AssociationState}
use Rattle.sctp_parts.specs.declared.state.AssociationState.TheVariants as states
use Rattle.sctp_parts.specs.declared.timer.Timer.TheVariants as names
use Rattle.sctp_parts.specs.State.{is_closing}
use Rattle.sctp_parts.specs.Timers.{least_moment, after_expiry, expiry_of, with_moment, started, with_stopped}
use Rattle.sctp_parts.specs.Stats.{one_more}
use Rattle.sctp_streams.specs.declared.event.AssociationError.TheVariants as reasons
use Rattle.sctp_streams.specs.declared.event.Event.{Event}
use Rattle.sctp_streams.specs.declared.event.Event.TheVariants.{HandshakeFailed}
use Rattle.sctp_streams.specs.declared.event.Event.TheVariants as events
use Rattle.sctp_streams.specs.declared.setting.Setting.{Setting}
use Rattle.sctp_outbound_queue.specs.Outbound.{with_message}
use Rattle.sctp_outbound.specs.Forward.{forward_asked}
use Rattle.sctp_outbound_queue.specs.Waiting.{Waiting}
use Rattle.sctp_receive_queues.specs.Messages.{ReceivedMessage}
use Rattle.sctp_receive_queues.specs.Reassembly.{ready}
use Rattle.sctp_streams.specs.Stream.{StreamView, accepted_by, is_read_half_open, is_write_half_open, reaches_high_mark}
use Rattle.sctp_streams.specs.Stream.{with_halves, with_setting, without_read_half, without_unread}
use Rattle.sctp_streams.specs.Streams.{StreamMap, changed_stream, generation_left, made, read_in, stream_at}
use Rattle.sctp_inbound.specs.Receiver.{acknowledged_at_once, credit_of}
use Rattle.sctp_directions.specs.Acts.{message_of, type_on}
use Rattle.sctp_resets.specs.Channels.{channels}
use Rattle.sctp_resets.specs.Resets.{ResetsView, event_told, is_blocked, is_retiring, read_out, stopped_reading}
use Rattle.sctp_resets.specs.Resets.{waiting_for}
use Rattle.sctp_assoc.specs.Closing.{is_exhausted, relieved}
use Rattle.sctp_assoc.specs.Probes.{timed_out_sender}
use Rattle.sctp_assoc.specs.Resets.{with_beside, with_resetting}
use Rattle.sctp_assoc.specs.Shown.{HasFailed, Shown, all_waiting, answers_of, uses_forward_tsn}

-- a call with a Result is refused on a failed association before anything else
abbrev pub usable : Shown → Result (Unit {0}) Error
usable a = if a.failed then Err errors.ErrAssociationFailed else Ok tt

abbrev pub is_established : AssociationState → Bool
is_established states.Closed = false
is_established states.CookieWait = false
is_established states.CookieEchoed = false
is_established states.Established = true
is_established states.ShutdownAckSent = false
is_established states.ShutdownPending = false
is_established states.ShutdownReceived = false
is_established states.ShutdownSent = false

-- DATA of this side may wait or be unacknowledged: new DATA is sent then, and SACKs are read (RFC 4960 section 9.2)
abbrev pub sends_data : AssociationState → Bool
sends_data states.Closed = false
sends_data states.CookieWait = false
sends_data states.CookieEchoed = false
sends_data states.Established = true
sends_data states.ShutdownAckSent = false
sends_data states.ShutdownPending = true
sends_data states.ShutdownReceived = true
sends_data states.ShutdownSent = false

-- DATA may come: what came is acknowledged then, and what is in flight goes again
abbrev pub exchanges_data : AssociationState → Bool
exchanges_data states.Closed = false
exchanges_data states.CookieWait = false
exchanges_data states.CookieEchoed = false
exchanges_data states.Established = true
exchanges_data states.ShutdownAckSent = false
exchanges_data states.ShutdownPending = true
exchanges_data states.ShutdownReceived = true
exchanges_data states.ShutdownSent = true

-- Closed, CookieWait or CookieEchoed: an INIT is answered then
abbrev pub is_beginning : AssociationState → Bool
is_beginning states.Closed = true
is_beginning states.CookieWait = true
is_beginning states.CookieEchoed = true
is_beginning states.Established = false
is_beginning states.ShutdownAckSent = false
is_beginning states.ShutdownPending = false
is_beginning states.ShutdownReceived = false
is_beginning states.ShutdownSent = false

abbrev pub is_cookie_wait : AssociationState → Bool
is_cookie_wait states.Closed = false
is_cookie_wait states.CookieWait = true
is_cookie_wait states.CookieEchoed = false
is_cookie_wait states.Established = false
is_cookie_wait states.ShutdownAckSent = false
is_cookie_wait states.ShutdownPending = false
is_cookie_wait states.ShutdownReceived = false
is_cookie_wait states.ShutdownSent = false

abbrev pub is_cookie_echoed : AssociationState → Bool
is_cookie_echoed states.Closed = false
is_cookie_echoed states.CookieWait = false
is_cookie_echoed states.CookieEchoed = true
is_cookie_echoed states.Established = false
is_cookie_echoed states.ShutdownAckSent = false
is_cookie_echoed states.ShutdownPending = false
is_cookie_echoed states.ShutdownReceived = false
is_cookie_echoed states.ShutdownSent = false

-- the retransmission timer expired: all that is in flight is to be sent again (RFC 4960 section 6.3.3), and FORWARD TSN
-- is due where what is abandoned stands in front of it (RFC 3758 section 3.5); the congestion window falls, unless it
-- was a probe
abbrev pub retransmits : Shown → ℕ → Shown
retransmits a now = record a {
  counts = (let c = a.counts in record c { t3timeouts = one_more c.t3timeouts });
  sender = forward_asked (uses_forward_tsn a) (timed_out_sender a);
  timers = started names.T3RTX now a.estimate.rto a.timers;
}

abbrev pub t3_expired : Shown → ℕ → Shown
t3_expired a now = record a { timers = with_moment names.T3RTX None (after_expiry names.T3RTX now a.timers) }

-- the retransmission timer as it is at a moment; past its limit of retries it is disarmed and nothing else happens
abbrev pub after_t3 : Shown → ℕ → Shown
after_t3 a now =
    if (expiry_of names.T3RTX now a.timers).expired then
    (if (expiry_of names.T3RTX now a.timers).failed then t3_expired a now else retransmits (t3_expired a now) now)
    else a

-- the delay of an acknowledgement as it is at a moment (RFC 4960 section 6.2)
abbrev pub after_ack_delay : Shown → ℕ → Shown
after_ack_delay a now =
    if (expiry_of names.Ack now a.timers).expired then record a {
      timers = with_moment names.Ack None (after_expiry names.Ack now a.timers);
      counts = (let c = a.counts in record c { ack_timeouts = one_more c.ack_timeouts });
      receiver = acknowledged_at_once a.receiver;
    }
    else a

-- a new generation of a stream was made for the application
abbrev pub opened : Shown → ℕ → PayloadProtocolIdentifier → Shown
opened a id kind = record a { streams = made a.streams id a.sender.queue.next_message_id kind }

-- the call is refused exactly with this refusal, if there is one
abbrev pub Refuses : {T : Type 0} → Result T Error → Option Error → Type 0
Refuses (Ok answer) refusal = refusal ≡ None
Refuses (Err e) refusal = refusal ≡ Some e

-- the same of a call that is also refused where memory is
abbrev pub RefusesOrLacksMemory : {T : Type 0} → Result T Error → Option Error → Type 0
RefusesOrLacksMemory (Ok answer) refusal = refusal ≡ None
RefusesOrLacksMemory (Err e) None = e ≡ errors.ErrNoMemory
RefusesOrLacksMemory (Err e) (Some refusal) = e ≡ refusal

-- why a stream is not opened, want of memory aside
abbrev pub open_refusal : Shown → ℕ → Option Error
open_refusal a id =
    if a.failed then Some errors.ErrAssociationFailed else
    if is_some (stream_at a.streams id) then Some errors.ErrStreamAlreadyExist else
    if is_blocked a.resets id then Some errors.ErrStreamResetPending else
    if generation_left a.streams then None else Some errors.ErrStreamCreateFailed

-- why no stream is lent
abbrev pub stream_refusal : Shown → ℕ → Option Error
stream_refusal a id =
    if a.failed then Some errors.ErrAssociationFailed else
    if is_some (stream_at a.streams id) then None else Some errors.ErrStreamNotExisted

-- why a read is refused
abbrev pub read_refusal_at : Option StreamView → Option Error
read_refusal_at None = Some errors.ErrStreamClosed
read_refusal_at (Some s) = if is_read_half_open s.halves then None else Some errors.ErrStreamClosed

abbrev pub read_refusal : Shown → ℕ → Option Error
read_refusal a id =
    if a.failed then Some errors.ErrAssociationFailed else read_refusal_at (stream_at a.streams id)

-- behind a read that left these streams, the generations of the stream that ended and of which no byte waits are over
abbrev pub drained_behind : Shown → ℕ → StreamMap → Shown
drained_behind a id streams =
    with_resetting a
    (read_out a.sender.queue.next_message_id a.receiver.max_receive_message_size id a.resets
    (channels streams a.events a.to_accept))

-- The application reads, and the receive window opens.

-- the bytes that may still come
abbrev pub credit_in : Shown → ℕ
credit_in a = credit_of a.receiver (all_waiting a)

-- twice the credit at which a window is open: two packets, or half of the receive buffer where that is less
abbrev pub twice_open : Shown → ℕ
twice_open a = min (4 * a.sender.mtu) a.receiver.buffer_size

-- By the rules of the RFCs a window that opens is told at once, since the peer may wait for that alone (RFC 4960
-- section 6.2 lets a receiver do so): twice the credit was less than `twice_open` says before, and no longer is, and
-- DATA may still come.
unfoldable pub tells_window : ℕ → Shown → Bool
tells_window before a =
    is_rfc a.profile && nat_lt (2 * before) (twice_open a) && nat_le (twice_open a) (2 * credit_in a)
    && exchanges_data a.state

-- a window is told by an acknowledgement that goes out with the next poll
abbrev pub told_if : Bool → Shown → Shown
told_if true a = record a { receiver = acknowledged_at_once a.receiver; timers = with_stopped names.Ack a.timers }
told_if false a = a

-- What is left by a read that gave a message, or by a stop: a receive buffer that is exhausted closes, and a window
-- that opened is told. This was the credit before the call.
abbrev pub eased : ℕ → Shown → Shown
eased before a = told_if (tells_window before (relieved a)) (relieved a)

-- so it is where the read gave a message; else nothing changes
abbrev pub eased_if : Bool → ℕ → Shown → Shown
eased_if gave before a = if gave then eased before a else a

abbrev pub after_read : Shown → ℕ → StreamMap × Option ReceivedMessage → Shown × Option ReceivedMessage
after_read a id (streams, None) = (drained_behind a id streams, None)
after_read a id (streams, Some message) = (eased (credit_in a) (drained_behind a id streams), Some message)

-- what a read leaves and gives; one that gives a message may leave a buffer that is exhausted, and that closes, or open
-- the window
abbrev pub read_from_stream : Shown → ℕ → Shown × Option ReceivedMessage
read_from_stream a id = after_read a id (read_in a.streams id)

-- a read that gives a message leaves the receive buffer exhausted
abbrev pub read_exhausts : Shown → ℕ → Bool
read_exhausts a id =
    is_some (read_in a.streams id).1 && is_exhausted (drained_behind a id (read_in a.streams id).0)

-- a read may take memory: it closes, or ends a generation of the stream
abbrev pub read_takes_memory : Shown → ℕ → Bool
read_takes_memory a id = read_exhausts a id || is_retiring a.resets id

abbrev pub ready_of : Option StreamView → List ReceivedMessage
ready_of None = []
ready_of (Some s) = ready s.reassembly

-- the messages that reads on a stream give, one after another
abbrev pub ready_messages : Shown → ℕ → List ReceivedMessage
ready_messages a id = ready_of (stream_at a.streams id)

abbrev pub size_refusal : Shown → ℕ → Option Error
size_refusal a size =
    if size == 0 then Some errors.ErrEmptyMessage else
    if nat_lt a.max_send_message_size size then Some errors.ErrOutboundPacketTooLarge else None

abbrev pub state_refusal : Shown → ℕ → ℕ → Option Error
state_refusal a id size =
    if not (is_established a.state) then Some errors.ErrPayloadDataStateNotExist else
    if is_blocked a.resets id then Some errors.ErrStreamResetPending else size_refusal a size

abbrev pub write_refusal_at : Shown → Option StreamView → ℕ → ℕ → Option Error
write_refusal_at a None id size = Some errors.ErrStreamClosed
write_refusal_at a (Some s) id size =
    if is_write_half_open s.halves then state_refusal a id size else Some errors.ErrStreamClosed

-- why a write of this size is refused, want of memory aside
abbrev pub write_refusal : Shown → ℕ → ℕ → Option Error
write_refusal a id size =
    if a.failed then Some errors.ErrAssociationFailed else write_refusal_at a (stream_at a.streams id) id size

-- a call that has two reasons to be refused is refused for the first one, as one of a stream by its identifier is
-- refused as the call that lends the stream
abbrev pub first_refusal : Option Error → Option Error → Option Error
first_refusal None own = own
first_refusal (Some e) own = Some e

abbrev pub refusal_to_write : Shown → ℕ → ℕ → Option Error
refusal_to_write a id size = first_refusal (stream_refusal a id) (write_refusal a id size)

abbrev pub refusal_to_read : Shown → ℕ → Option Error
refusal_to_read a id = first_refusal (stream_refusal a id) (read_refusal a id)

-- a write that takes a stream's buffered amount from below its high mark to it or above is told
abbrev pub high_told : StreamView → ℕ → ℕ → List Event
high_told s id size = if reaches_high_mark s size then events.Stream (BufferedAmountHigh id) ∷ [] else []

-- a message is queued, and it is told where a stream's buffered amount reaches its high mark
abbrev pub with_queued : Shown → ℕ → Waiting → Bool → Shown
with_queued a id message high = record a {
  sender = (let t = a.sender in record t { queue = with_message t.queue message });
  events = a.events ++ (if high then events.Stream (BufferedAmountHigh id) ∷ [] else []);
}

abbrev pub written_under : PayloadProtocolIdentifier → StreamView → Shown → ℕ → List ℕ → Shown
written_under kind s a id bytes = record a {
  streams = changed_stream (λ t. accepted_by t kind (length bytes)) a.streams id;
  sender =
      (let t = a.sender in record t { queue = with_message t.queue (message_of s kind t.max_payload_size id bytes) });
  events = a.events ++ high_told s id (length bytes);
}

abbrev pub written_at : Option StreamView → Shown → ℕ → Option PayloadProtocolIdentifier → List ℕ → Shown
written_at None a id named bytes = a
written_at (Some s) a id named bytes = written_under (type_on s named) s a id bytes

-- a message was accepted on a live stream, under the payload type that is named, or else the stream's
abbrev pub written : Shown → ℕ → Option PayloadProtocolIdentifier → List ℕ → Shown
written a id named bytes = written_at (stream_at a.streams id) a id named bytes

-- the first of some buffers that has bytes; no byte where none has
abbrev pub first_filled : List (List ℕ) → List ℕ
first_filled [] = []
first_filled ([] ∷ buffers) = first_filled buffers
first_filled ((b ∷ bytes) ∷ buffers) = b ∷ bytes

-- the buffers with the first one that has bytes left empty
abbrev pub without_first_filled : List (List ℕ) → List (List ℕ)
without_first_filled [] = []
without_first_filled ([] ∷ buffers) = [] ∷ without_first_filled buffers
without_first_filled ((b ∷ bytes) ∷ buffers) = [] ∷ buffers

-- why a stream is not set and not asked: it is gone
abbrev pub gone_refusal : Shown → ℕ → Option Error
gone_refusal a id =
    if a.failed then Some errors.ErrAssociationFailed else
    if is_some (stream_at a.streams id) then None else Some errors.ErrStreamClosed

-- the application set this on a live stream
abbrev pub adjusted : Shown → ℕ → Setting → Shown
adjusted a id setting = record a { streams = changed_stream (λ s. with_setting s setting) a.streams id }

abbrev pub value_at : {T : Type 0} → (StreamView → T) → Option StreamView → Result T Error
value_at of None = Err errors.ErrStreamClosed
value_at of (Some s) = Ok (of s)

-- what a question about a live stream answers
abbrev pub value_of : {T : Type 0} → (StreamView → T) → Shown → ℕ → Result T Error
value_of of a id = if a.failed then Err errors.ErrAssociationFailed else value_at of (stream_at a.streams id)

-- the bytes that a stream accepted and did not release
abbrev pub buffered_of : Shown → ℕ → Result ℕ Error
buffered_of a id = value_of (λ s. s.buffered) a id

abbrev pub holds_at : (StreamView → Bool) → Option StreamView → Bool
holds_at of None = false
holds_at of (Some s) = of s

-- this is so of a live stream; not where it is gone
abbrev pub holds_of : (StreamView → Bool) → Shown → ℕ → Bool
holds_of of a id = holds_at of (stream_at a.streams id)

-- its write half is open, and no reset of it is open
abbrev pub is_writable : Shown → ℕ → Bool
is_writable a id = holds_of (λ s. is_write_half_open s.halves) a id && not (is_blocked a.resets id)

abbrev pub accepted_from : List ℕ → Shown → Shown × Option ℕ
accepted_from [] a = (a, None)
accepted_from (id ∷ ids) a = (record a { to_accept = ids }, Some id)

-- the oldest stream that the peer opened and that was not accepted yet is accepted; a failed association has none
abbrev pub accepted_stream : Shown → Shown × Option ℕ
accepted_stream a = if a.failed then (a, None) else accepted_from a.to_accept a

-- writes take messages of up to so many bytes from now on; to a failed association that is nothing
abbrev pub with_max_send_message_size : Shown → ℕ → Shown
with_max_send_message_size a size = if a.failed then a else record a { max_send_message_size = size }

-- the moment at which the next timer expires
abbrev pub deadline_of : Shown → Option ℕ
deadline_of a = least_moment a.timers

-- a shutdown has begun and the association is not closed yet
abbrev pub has_begun_closing : Shown → Bool
has_begun_closing a = is_closing a.state

-- what a handshake that failed is told by
abbrev pub fault_told : Option Error → Option Event
fault_told None = None
fault_told (Some fault) = Some (HandshakeFailed (reasons.HandshakeFailed fault))

-- that it failed is told once
abbrev pub fault_polled : Shown → Shown × Option Event
fault_polled a = (record a { handshake_fault = None }, fault_told a.handshake_fault)

abbrev pub is_stream_event_at_once : StreamEvent → Bool
is_stream_event_at_once (stream_events.Opened id) = true
is_stream_event_at_once (stream_events.Readable id) = true
is_stream_event_at_once (stream_events.Writable id) = false
is_stream_event_at_once (stream_events.Finished id) = false
is_stream_event_at_once (stream_events.ResetComplete id) = false
is_stream_event_at_once (stream_events.ResetFailed id reason) = false
is_stream_event_at_once (stream_events.Stopped id code) = false
is_stream_event_at_once (stream_events.BufferedAmountLow id) = false
is_stream_event_at_once (stream_events.BufferedAmountHigh id) = false
is_stream_event_at_once stream_events.Available = true

abbrev pub is_event_at_once : Option Event → Bool
is_event_at_once None = false
is_event_at_once (Some events.Connected) = true
is_event_at_once (Some (events.HandshakeFailed reason)) = true
is_event_at_once (Some (events.AssociationLost reason)) = true
is_event_at_once (Some (events.Stream e)) = is_stream_event_at_once e
is_event_at_once (Some (events.DataChannelStatsFinal stats)) = true
is_event_at_once (Some events.DatagramReceived) = true

-- the oldest event is of a kind that never waits, and that it is told says nothing of a reset
abbrev pub is_first_at_once : List Event → Bool
is_first_at_once es = is_event_at_once (slice_get es 0)

abbrev pub event_from : ResetsView × List Event × Option Event → Shown → Shown × Option Event
event_from (r, left, None) a =
    (record a { resets = r; events = left; handshake_fault = None }, fault_told a.handshake_fault)
event_from (r, left, Some e) a = (record a { resets = r; events = left }, Some e)

-- what is left after a poll for events, and what it gives: the oldest event that does not wait for its stream, and with
-- none left that the handshake failed, once
abbrev pub event_polled : Shown → Shown × Option Event
event_polled a = event_from (event_told a.resets a.events) a

-- why a call that a failed association alone refuses is refused
abbrev pub failed_refusal : Shown → Option Error
failed_refusal a = if a.failed then Some errors.ErrAssociationFailed else None

-- a read was refused by a rule, and nothing changed; or it left the receive buffer exhausted, and memory was refused
-- for the close: the association failed
abbrev pub RefusesRead : Shown → ℕ → Error → Shown → Type 0
RefusesRead a id error b =
    ((read_refusal a id ≡ Some error) × (b ≡ a))
    ⊎ ((read_refusal a id ≡ None) × (read_takes_memory a id ≡ true) × (error ≡ errors.ErrNoMemory)
    × HasFailed (answers_of a) b)

-- what is left after a read that was carried out gives the other messages one after another, unless the read closed, or
-- the stream's generation ended and is read to its end
abbrev pub LeavesTheOthers : Shown → ℕ → Shown → Type 0
LeavesTheOthers a id b = (read_takes_memory a id ≡ true) ⊎ (ready_messages b id ≡ drop 1 (ready_messages a id))

-- The application stops a stream.

-- why a stream is not stopped
abbrev pub stop_refusal_at : Shown → ℕ → Option StreamView → Option Error
stop_refusal_at a id None = Some errors.ErrStreamClosed
stop_refusal_at a id (Some s) =
    if is_read_half_open s.halves && not (is_retiring a.resets id) && not (is_established a.state) then
    Some errors.ErrResetPacketInStateNotExist
    else None

abbrev pub stop_refusal : Shown → ℕ → Option Error
stop_refusal a id =
    if a.failed then Some errors.ErrAssociationFailed else stop_refusal_at a id (stream_at a.streams id)

abbrev pub without_read_half_of : Shown → ℕ → Shown
without_read_half_of a id =
    record a { streams = changed_stream (λ s. with_halves s (without_read_half s.halves)) a.streams id }

-- what waits to be read of a stream is dropped, where it is to be
abbrev pub unread_dropped : Bool → StreamMap → ℕ → StreamMap
unread_dropped drops m id = if drops then changed_stream without_unread m id else m

-- The read half closes. A stream whose generation ended is read no more, and by the rules of the RFCs it is to be reset
-- where something came behind that end. Another one is to be reset (RFC 6525 section 5.1), and by the rules of the RFCs
-- what waits of it is dropped, since it can never be delivered. The port keeps that until the stream ends.
abbrev pub stopped_open : Shown → ℕ → Shown
stopped_open a id =
    (let b = without_read_half_of a id in
    if is_retiring a.resets id then with_beside b (stopped_reading id b.resets b.streams b.events) else
    record b { streams = unread_dropped (is_rfc b.profile) b.streams id; resets = waiting_for b.resets id })

-- so it is where the read half is open; else nothing changes
abbrev pub stopped : Shown → ℕ → Shown
stopped a id =
    if holds_of (λ s. is_read_half_open s.halves) a id then eased (credit_in a) (stopped_open a id) else a

-- it may leave the association failed where the read half is open
abbrev pub stop_takes_memory : Shown → ℕ → Bool
stop_takes_memory a id = holds_of (λ s. is_read_half_open s.halves) a id

-- a stop was refused by a rule, and nothing changed; or memory was refused in its middle: the association failed
abbrev pub RefusesStop : Shown → ℕ → Error → Shown → Type 0
RefusesStop a id error b =
    ((stop_refusal a id ≡ Some error) × (b ≡ a))
    ⊎ ((stop_refusal a id ≡ None) × (stop_takes_memory a id ≡ true) × (error ≡ errors.ErrNoMemory)
    × HasFailed (answers_of a) b)
