-- The handshake, step by state and chunk, and the chunks beside it that are answered at once (RFC 4960 sections 5.1,
-- 5.2 and 8.3).
use Rattle.std.specs.Prelude.{ℕ, Bool, true, false, ◌==◌, ◌&&◌, ◌||◌, List, [], ◌∷◌, ◌++◌, if◌then◌else◌, Option}
use Rattle.std.specs.Prelude.{Some, None}
use Rattle.sctp_wire_types.specs.Config.{is_rfc}
use Rattle.sctp_wire_types.specs.declared.chunk.Chunk.TheVariants as chunks
use Rattle.sctp_wire_types.specs.declared.chunk.ChunkHeartbeat.{ChunkHeartbeat}
use Rattle.sctp_wire_types.specs.declared.chunk.ChunkInit.{ChunkInit}
use Rattle.sctp_wire_types.specs.declared.error.Error.TheVariants as errors
use Rattle.sctp_wire_types.specs.declared.packet.CommonHeader.{CommonHeader}
use Rattle.sctp_parts.specs.declared.state.AssociationState.TheVariants as states
use Rattle.sctp_parts.specs.declared.timer.Timer.TheVariants as names
use Rattle.sctp_parts.specs.State.{is_closing}
use Rattle.sctp_parts.specs.Timers.{after_expiry, expiry_of, started, with_moment, with_stopped}
use Rattle.sctp_streams.specs.declared.event.Event.TheVariants.{Connected}
use Rattle.sctp_inbound.specs.declared.handshake.Handshake.{Handshake}
use Rattle.sctp_inbound.specs.declared.handshake.Offer.{Offer}
use Rattle.sctp_inbound.specs.declared.receiver.AckTrigger.{AckTrigger}
use Rattle.sctp_inbound.specs.Handshake.{comes_back, established, has_issued, header_of, learned_by_init}
use Rattle.sctp_inbound.specs.Handshake.{learned_by_init_ack}
use Rattle.sctp_inbound.specs.Greeting.{first_cookie, heartbeat_ack_of, information_of, init_ack_of, init_of}
use Rattle.sctp_inbound.specs.Receiver.{receiver_from}
use Rattle.sctp_outbound.specs.Sender.{with_first_window}
use Rattle.sctp_resets.specs.Resets.{met_peer}
use Rattle.sctp_assoc.specs.declared.inbound.Flow.{Flow}
use Rattle.sctp_assoc.specs.declared.inbound.Flow.TheVariants as flows
use Rattle.sctp_assoc.specs.Control.{queued, queued_under, untagged}
use Rattle.sctp_assoc.specs.Calls.{is_beginning, is_cookie_echoed, is_cookie_wait, is_established}
use Rattle.sctp_assoc.specs.Shown.{Shown}
use Rattle.sctp_assoc.specs.Shutdown.{shutdown_again}

-- the peer's initial TSN and its receive window are known
abbrev pub learns_peer : Shown → ℕ → ℕ → Shown
learns_peer a initial_tsn window = record a {
  receiver = receiver_from a.receiver initial_tsn;
  sender = with_first_window a.sender window;
  resets = met_peer a.resets initial_tsn;
}

-- INIT

abbrev pub is_tsn : Option ℕ → ℕ → Bool
is_tsn None n = false
is_tsn (Some m) n = m == n

-- an INIT says the tag and the initial TSN that are known of the peer
abbrev pub is_known_peer : Handshake → ChunkInit → Bool
is_known_peer h init = h.peer_verification_tag == init.initiate_tag && is_tsn h.peer_initial_tsn init.initial_tsn

-- by the rules of the RFCs such an INIT is a copy, or the peer's answer crossed it: what came of the peer, and its
-- window, stay as they are (RFC 4960 sections 5.2.1 and 5.2.2)
abbrev pub keeps_peer : Shown → ChunkInit → Bool
keeps_peer a init = is_rfc a.profile && is_known_peer a.handshake init

abbrev pub learned_unless : Bool → Shown → ChunkInit → Shown
learned_unless true a init = a
learned_unless false a init = learns_peer a init.initial_tsn init.advertised_receiver_window_credit

abbrev pub learned : Shown → CommonHeader → ChunkInit → Shown
learned a header init =
    learned_unless (keeps_peer a init) (record a { handshake = learned_by_init a.handshake header init }) init

-- INIT ACK goes out, with this side's cookie and its whole receive buffer
abbrev pub answered : Shown → Shown
answered a = queued a (chunks.InitAck (init_ack_of a.handshake a.receiver.buffer_size))

-- an INIT that comes before the association is established is answered; later it is a fault
unfoldable pub on_init : Shown → CommonHeader → ChunkInit → AckTrigger → Shown × Flow
on_init a header init trigger =
    if is_beginning a.state then (answered (learned a header init), flows.Next trigger) else
    (a, flows.Fault errors.ErrHandleInitState)

-- COOKIE ECHO

abbrev pub cookie_queued : Option (List ℕ) → Shown → Shown
cookie_queued None a = a
cookie_queued (Some cookie) a = queued a (chunks.CookieEcho cookie)

-- the peer's cookie goes back to it, and the timer of that runs
unfoldable pub sends_cookie : Shown → ℕ → Shown
sends_cookie a now =
    (let b = cookie_queued a.handshake.echo a in
    record b { timers = started names.T1Cookie now b.estimate.rto b.timers })

-- a cookie came, and is echoed
abbrev pub with_echo : Shown → List ℕ → ℕ → Shown
with_echo a cookie now =
    sends_cookie
    (record a { handshake = (let h = a.handshake in record h { echo = Some cookie }); state = states.CookieEchoed }) now

-- INIT ACK

abbrev pub learned_back : Shown → CommonHeader → ChunkInit → Shown
learned_back a header init =
    (let b =
    learns_peer (record a { handshake = learned_by_init_ack a.handshake header init }) init.initial_tsn
    init.advertised_receiver_window_credit in
    record b { timers = with_stopped names.T1Init b.timers })

abbrev pub echoed : Option (List ℕ) → Shown → AckTrigger → ℕ → Shown × Flow
echoed None a trigger now = (a, flows.Fault errors.ErrInitAckNoCookie)
echoed (Some cookie) a trigger now = (with_echo a cookie now, flows.Next trigger)

-- an INIT ACK counts in CookieWait alone: its cookie is echoed, and without one it is a fault; with other ports than
-- those of this side's INIT nothing but its tag and its numbers of streams count
unfoldable pub on_init_ack : Shown → CommonHeader → ChunkInit → AckTrigger → ℕ → Shown × Flow
on_init_ack a header init trigger now =
    if is_cookie_wait a.state then
    (if comes_back a.handshake header then echoed (first_cookie init.params) (learned_back a header init) trigger now
    else (record a { handshake = learned_by_init_ack a.handshake header init }, flows.Next trigger))
    else (a, flows.Next trigger)

-- the association is established, and no timer sends anything of the handshake again
abbrev pub connected : Shown → Shown
connected a = record a {
  timers = with_stopped names.T1Cookie (with_stopped names.T1Init a.timers);
  handshake = established a.handshake;
  state = states.Established;
  events = a.events ++ Connected ∷ [];
}

abbrev pub acknowledged_cookie : Shown → Shown
acknowledged_cookie a = queued a chunks.CookieAck

-- a COOKIE ECHO that comes again is acknowledged again where the association is established, and by the rules of the
-- RFCs also in a shutdown (RFC 4960 section 5.2.4, D)
abbrev pub acknowledges_again : Shown → Bool
acknowledges_again a = is_established a.state || (is_rfc a.profile && is_closing a.state)

-- a COOKIE ECHO with the cookie that this side gave out establishes the association, and is acknowledged. Where it is
-- acknowledged again, SHUTDOWN or SHUTDOWN ACK goes out again beside it if that waits for its answer: in CookieEchoed
-- the peer took none
unfoldable pub on_cookie_echo : Shown → List ℕ → AckTrigger → Shown × Flow
on_cookie_echo a cookie trigger =
    if has_issued a.handshake cookie then
    (if is_beginning a.state then (acknowledged_cookie (connected a), flows.Next trigger) else
    if acknowledges_again a then (acknowledged_cookie (shutdown_again a), flows.Next trigger) else
    (a, flows.Next trigger))
    else (a, flows.Next trigger)

-- a COOKIE ACK counts in CookieEchoed alone
unfoldable pub on_cookie_ack : Shown → AckTrigger → Shown × Flow
on_cookie_ack a trigger =
    if is_cookie_echoed a.state then (connected a, flows.Next trigger) else (a, flows.Next trigger)

-- HEARTBEAT

abbrev pub information_returned : Option (List ℕ) → Shown → Shown
information_returned None a = a
information_returned (Some information) a = queued a (chunks.HeartbeatAck (heartbeat_ack_of information))

-- the information with which a HEARTBEAT begins goes back
unfoldable pub on_heartbeat : Shown → ChunkHeartbeat → AckTrigger → Shown × Flow
on_heartbeat a heartbeat trigger = (information_returned (information_of heartbeat.params) a, flows.Next trigger)

-- the timers of the handshake

-- whatever this side knows of the peer, a packet with INIT has the verification tag 0 (RFC 4960 section 8.5.1)
abbrev pub init_queued : Option Offer → Shown → Shown
init_queued None a = a
init_queued (Some offer) a =
    queued_under (untagged (header_of a.handshake)) a (chunks.Init (init_of a.handshake offer))

-- INIT goes out, and the timer of that runs
unfoldable pub sends_init : Shown → ℕ → Shown
sends_init a now =
    (let b = init_queued a.handshake.offer a in record b { timers = started names.T1Init now b.estimate.rto b.timers })

abbrev pub t1_init_expired : Shown → ℕ → Shown
t1_init_expired a now = record a { timers = with_moment names.T1Init None (after_expiry names.T1Init now a.timers) }

abbrev pub t1_cookie_expired : Shown → ℕ → Shown
t1_cookie_expired a now =
    record a { timers = with_moment names.T1Cookie None (after_expiry names.T1Cookie now a.timers) }

-- INIT goes out again where it was not answered in time; past its limit of retries the handshake has failed
abbrev pub after_t1_init : Shown → ℕ → Shown
after_t1_init a now =
    if (expiry_of names.T1Init now a.timers).expired then
    (if (expiry_of names.T1Init now a.timers).failed then
    (let b = t1_init_expired a now in record b { handshake_fault = Some errors.ErrHandshakeInitAck })
    else sends_init (t1_init_expired a now) now)
    else a

-- COOKIE ECHO goes out again where it was not answered in time; past its limit of retries the handshake has failed
abbrev pub after_t1_cookie : Shown → ℕ → Shown
after_t1_cookie a now =
    if (expiry_of names.T1Cookie now a.timers).expired then
    (if (expiry_of names.T1Cookie now a.timers).failed then
    (let b = t1_cookie_expired a now in record b { handshake_fault = Some errors.ErrHandshakeCookieEcho })
    else sends_cookie (t1_cookie_expired a now) now)
    else a
