-- What waits to go out stays beside streams whatever call is carried out that brings no packet, from the association on
-- that two tokens join.
use Rattle.std.proofs.Common.{◌≡◌, refl, ℕ, Bool, true, false, List, [], ◌∷◌, Option, Some, None}
use Rattle.std.proofs.Common.{if◌then◌else◌, is_some}
use Rattle.sctp_resets.specs.Resets.{ResetsView, event_told, given_up, is_retiring, read_out}
use Rattle.sctp_resets.specs.Resets.{stopped_reading, waiting_for}
use Rattle.sctp_assoc.specs.Resets.{with_beside, after_reconfig_timer, asks_again, gives_up}
use Rattle.sctp_assoc.specs.Resets.{reconfig_expired}
use Rattle.sctp_assoc.specs.Shown.{Shown}
use Rattle.sctp_streams.specs.Streams.{StreamMap, stream_at, read_in}
use Rattle.sctp_assoc.specs.Closing.{is_exhausted, exhausted, is_closed_state, relieved}
use Rattle.sctp_streams.specs.declared.event.Event.{Event}
use Rattle.sctp_wire_types.specs.Config.{is_rfc}
use Rattle.sctp_wire_types.specs.declared.chunk.Chunk.TheVariants as chunks
use Rattle.sctp_wire_types.specs.declared.error.Error.TheVariants as errors
use Rattle.sctp_wire_types.specs.declared.ids.PayloadProtocolIdentifier.{PayloadProtocolIdentifier}
use Rattle.sctp_parts.specs.declared.timer.Timer.TheVariants as names
use Rattle.sctp_parts.specs.Timers.{expiry_of, with_stopped}
use Rattle.sctp_receive_queues.specs.Messages.{ReceivedMessage}
use Rattle.sctp_streams.specs.declared.event.AssociationError.TheVariants as reasons
use Rattle.sctp_streams.specs.Stream.{StreamView, is_read_half_open}
use Rattle.sctp_inbound.specs.declared.handshake.Offer.{Offer}
use Rattle.sctp_inbound.specs.Greeting.{init_of}
use Rattle.sctp_inbound.specs.Handshake.{header_of}
use Rattle.sctp_resets.specs.Channels.{channels}
use Rattle.sctp_assoc.specs.Calls.{accepted_from, after_ack_delay, after_read, after_t3, drained_behind, event_from}
use Rattle.sctp_assoc.specs.Calls.{holds_of, retransmits, stopped_open, t3_expired, without_read_half_of, written_at}
use Rattle.sctp_assoc.specs.Calls.{adjusted, credit_in, eased, stopped, tells_window, told_if, unread_dropped}
use Rattle.sctp_assoc.specs.Control.{untagged}
use Rattle.sctp_assoc.specs.Handshake.{after_t1_cookie, after_t1_init, cookie_queued, init_queued, sends_cookie}
use Rattle.sctp_assoc.specs.Handshake.{sends_init, t1_cookie_expired, t1_init_expired}
use Rattle.sctp_assoc.specs.Shutdown.{after_t2_shutdown}
use Rattle.sctp_streams.specs.declared.setting.Setting.TheVariants as settings
use Rattle.sctp_assoc.specs.Timeouts.{after_timeouts}
use Rattle.sctp_sides.specs.OneSide.{Call, carried_out, with_told}
use Rattle.std.specs.declared.net.ip_addr.IpAddr.{IpAddr}
use Rattle.std.specs.declared.net.socket_addr.SocketAddr.{SocketAddr}
use Rattle.sctp_wire_types.specs.declared.chunk.ChunkInit.{ChunkInit}
use Rattle.sctp_wire_types.specs.Config.{Settings}
use Rattle.sctp_assoc.specs.Created.{joined}
use Rattle.sctp_course_sides.specs.Spelled.{WaitsBeside}
use Rattle.sctp_course_sides.proofs.BesideInChunks.{Keeps, beside_keeps, closed_keeps, exhausted_keeps, queued_keeps}
use Rattle.sctp_course_sides.proofs.BesideInChunks.{queued_under_keeps, resetting_keeps}
use Rattle.sctp_course_sides.proofs.BesideInPolls.{poll_stays_beside}
use Rattle.sctp_course_sides.proofs.TruthInCalls.{BringsNoPacket}

-- Reads and stops

relieved_keeps_if : (e : Bool) (a : Shown) → Keeps a (if e then exhausted a else a)
relieved_keeps_if true a h = exhausted_keeps a h
relieved_keeps_if false a h = h

relieved_keeps : (a : Shown) → Keeps a (relieved a)
relieved_keeps a = relieved_keeps_if (is_exhausted a) a

-- a window that opened may be told
eased_keeps_if : (tells : Bool) (a : Shown) → Keeps a (told_if tells a)
eased_keeps_if true a h = h
eased_keeps_if false a h = h

eased_keeps : (before : ℕ) (a : Shown) → Keeps a (eased before a)
eased_keeps before a h = eased_keeps_if (tells_window before (relieved a)) (relieved a) (relieved_keeps a h)

-- Calls of the application

written_keeps : (o : Option StreamView) (a : Shown) (id : ℕ) (named : Option PayloadProtocolIdentifier)
    (bytes : List ℕ) → Keeps a (written_at o a id named bytes)
written_keeps None a id named bytes h = h
written_keeps (Some s) a id named bytes h = h

limit_keeps : (failed : Bool) (a : Shown) (size : ℕ)
    → Keeps a (if failed then a else record a { max_send_message_size = size })
limit_keeps true a size h = h
limit_keeps false a size h = h

accepting_keeps : (ids : List ℕ) (a : Shown) → Keeps a (accepted_from ids a).0
accepting_keeps [] a h = h
accepting_keeps (id ∷ ids) a h = h

accept_keeps : (failed : Bool) (a : Shown) → Keeps a (if failed then (a, None) else accepted_from a.to_accept a).0
accept_keeps true a h = h
accept_keeps false a h = accepting_keeps a.to_accept a h

telling_keeps : (x : ResetsView × List Event × Option Event) (a : Shown)
    → Keeps a (with_told (event_from x a)).0
telling_keeps (r, left, None) a h = h
telling_keeps (r, left, Some event) a h = h

drained_keeps : (a : Shown) (id : ℕ) (streams : StreamMap) → Keeps a (drained_behind a id streams)
drained_keeps a id streams =
    let first = a.sender.queue.next_message_id in
    let limit = a.receiver.max_receive_message_size in
    let k = channels streams a.events a.to_accept in
    resetting_keeps a (read_out first limit id a.resets k)

read_keeps : (a : Shown) (id : ℕ) (x : StreamMap × Option ReceivedMessage) → Keeps a (after_read a id x).0
read_keeps a id (streams, None) h = drained_keeps a id streams h
read_keeps a id (streams, Some message) h =
    eased_keeps (credit_in a) (drained_behind a id streams) (drained_keeps a id streams h)

stopped_open_keeps : (retires : Bool) (a : Shown) (id : ℕ)
    → Keeps a
    (let b = without_read_half_of a id in
    if retires then with_beside b (stopped_reading id b.resets b.streams b.events) else
    record b { streams = unread_dropped (is_rfc b.profile) b.streams id; resets = waiting_for b.resets id })
stopped_open_keeps true a id h =
    let b : Shown = without_read_half_of a id in
    beside_keeps b (stopped_reading id b.resets b.streams b.events) h
stopped_open_keeps false a id h = h

stop_keeps : (reads : Bool) (before : ℕ) (a : Shown) (id : ℕ)
    → Keeps a (if reads then eased before (stopped_open a id) else a)
stop_keeps true before a id h =
    eased_keeps before (stopped_open a id) (stopped_open_keeps (is_retiring a.resets id) a id h)
stop_keeps false before a id h = h

stopped_keeps : (a : Shown) (id : ℕ) → Keeps a (stopped a id)
stopped_keeps a id = stop_keeps (holds_of (λ s. is_read_half_open s.halves) a id) (credit_in a) a id

-- Timers

offered_keeps : (o : Option Offer) (a : Shown) → Keeps a (init_queued o a)
offered_keeps None a h = h
offered_keeps (Some offer) a h =
    queued_under_keeps (untagged (header_of a.handshake)) a (chunks.Init (init_of a.handshake offer)) tt h

offer_keeps : (a : Shown) (now : ℕ) → Keeps a (sends_init a now)
unfolding sends_init
offer_keeps a now h =
    offered_keeps a.handshake.offer a h

cookie_keeps : (o : Option (List ℕ)) (a : Shown) → Keeps a (cookie_queued o a)
cookie_keeps None a h = h
cookie_keeps (Some cookie) a h = queued_keeps a _ tt h

echo_keeps : (a : Shown) (now : ℕ) → Keeps a (sends_cookie a now)
unfolding sends_cookie
echo_keeps a now h =
    cookie_keeps a.handshake.echo a h

t1_init_keeps : (expired failure : Bool) (a : Shown) (now : ℕ)
    → Keeps a
    (if expired then
    (if failure then (let b = t1_init_expired a now in record b { handshake_fault = Some errors.ErrHandshakeInitAck })
    else sends_init (t1_init_expired a now) now) else a)
t1_init_keeps false failure a now h = h
t1_init_keeps true true a now h = h
t1_init_keeps true false a now h =
    offer_keeps (t1_init_expired a now) now h

t1_cookie_keeps : (expired failure : Bool) (a : Shown) (now : ℕ)
    → Keeps a
    (if expired then
    (if failure then (let b =
    t1_cookie_expired a now in record b { handshake_fault = Some errors.ErrHandshakeCookieEcho }) else
    sends_cookie (t1_cookie_expired a now) now) else a)
t1_cookie_keeps false failure a now h = h
t1_cookie_keeps true true a now h = h
t1_cookie_keeps true false a now h =
    echo_keeps (t1_cookie_expired a now) now h

t3_keeps : (expired failure : Bool) (a : Shown) (now : ℕ)
    → Keeps a (if expired then (if failure then t3_expired a now else retransmits (t3_expired a now) now) else a)
t3_keeps false failure a now h = h
t3_keeps true true a now h = h
t3_keeps true false a now h = h

going_on_keeps : (active : Bool) (a : Shown) (now : ℕ)
    → Keeps a (if active then asks_again a now else record a { timers = with_stopped names.Reconfig a.timers })
going_on_keeps true a now h = h
going_on_keeps false a now h = h

gives_up_keeps : (a : Shown) (now : ℕ) → Keeps a (gives_up a now)
gives_up_keeps a now h =
    let b : Shown = with_beside a (given_up a.resets a.streams a.events) in
    going_on_keeps (is_some b.resets.own.active) b now (beside_keeps a (given_up a.resets a.streams a.events) h)

reconfig_keeps : (expired failure : Bool) (a : Shown) (now : ℕ)
    → Keeps a
    (if expired then
    (if failure then gives_up (reconfig_expired a now) now else asks_again (reconfig_expired a now) now)
    else a)
reconfig_keeps false failure a now h = h
reconfig_keeps true true a now h =
    gives_up_keeps (reconfig_expired a now) now h
reconfig_keeps true false a now h =
    h

ack_delay_keeps : (expired : Bool) (a : Shown) (now : ℕ) → (expiry_of names.Ack now a.timers).expired ≡ expired
    → Keeps a (after_ack_delay a now)
ack_delay_keeps false a now e = rw e (λ h. h)
ack_delay_keeps true a now e = rw e (λ h. h)

timeouts_keep : (a : Shown) (now : ℕ) → Keeps a (after_timeouts a now)
timeouts_keep a now h =
    let b : Shown = after_t1_init a now in
    let e : Shown = after_t1_cookie b now in
    let f : Shown = after_t2_shutdown e now in
    let g : Shown = after_t3 f now in
    let k : Shown = after_reconfig_timer g now in
    ack_delay_keeps (expiry_of names.Ack now k.timers).expired k now refl
    (reconfig_keeps (expiry_of names.Reconfig now g.timers).expired (expiry_of names.Reconfig now g.timers).failed g
    now
    (t3_keeps (expiry_of names.T3RTX now f.timers).expired (expiry_of names.T3RTX now f.timers).failed f now
    (t1_cookie_keeps (expiry_of names.T1Cookie now b.timers).expired (expiry_of names.T1Cookie now b.timers).failed b
    now
    (t1_init_keeps (expiry_of names.T1Init now a.timers).expired (expiry_of names.T1Init now a.timers).failed a now
    h))))

-- Each call that brings no packet

pub call_stays_beside : (call : Call) (a : Shown) → BringsNoPacket call → WaitsBeside a
    → WaitsBeside (carried_out call a).0
call_stays_beside (Call.OpenStream id kind) a none = λ h. h
call_stays_beside (Call.Write id named bytes) a none = written_keeps (stream_at a.streams id) a id named bytes
call_stays_beside (Call.Set id setting) a none = λ h. h
call_stays_beside Call.AcceptStream a none = accept_keeps a.failed a
call_stays_beside (Call.SetMaxSendMessageSize size) a none = limit_keeps a.failed a size
call_stays_beside Call.Shutdown a none = λ h. h
call_stays_beside Call.PollEndpointEvent a none = λ h. h
call_stays_beside Call.Close a none = closed_keeps (is_closed_state a.state) a reasons.AssociationClosed
call_stays_beside (Call.Read id) a none = read_keeps a id (read_in a.streams id)
call_stays_beside Call.Poll a none =
    telling_keeps (event_told a.resets a.events) a
call_stays_beside (Call.PollTransmit now) a none = poll_stays_beside a now
call_stays_beside (Call.HandleTimeout now) a none = timeouts_keep a now
call_stays_beside (Call.HandleEvent packet now) a none = absurd none
call_stays_beside (Call.Stop id) a none = stopped_keeps a id
call_stays_beside (Call.CloseStream id) a none =
    let b : Shown = adjusted a id settings.WriteHalfClosed in
    λ h. stopped_keeps b id h

-- What two tokens join is so.
pub joined_stays_beside : (config : Settings) (size : ℕ) (remote_addr : SocketAddr) (local_ip : Option IpAddr)
    (own peer : ChunkInit) → WaitsBeside (joined config size remote_addr local_ip own peer)
joined_stays_beside config size remote_addr local_ip own peer = tt
