-- What holds of one side after every list of calls: a loss is told once, timers run where they should, and a shutdown
-- waits for all DATA.
use Rattle.std.specs.Prelude.{◌≡◌, ◌⊎◌, ◌<◌, ℕ, ◌+◌, ◌≤◌, Bool, true, false, List, [], if◌then◌else◌, length, Option}
use Rattle.std.specs.Prelude.{None, is_some}
use Rattle.std.specs.declared.net.ip_addr.IpAddr.{IpAddr}
use Rattle.std.specs.declared.net.socket_addr.SocketAddr.{SocketAddr}
use Rattle.sctp_wire_types.specs.declared.chunk.ChunkInit.{ChunkInit}
use Rattle.sctp_wire_types.specs.Config.{Settings}
use Rattle.sctp_parts.specs.declared.state.AssociationState.{AssociationState}
use Rattle.sctp_parts.specs.declared.state.AssociationState.TheVariants as states
use Rattle.sctp_parts.specs.declared.timer.Timer.{Timer}
use Rattle.sctp_parts.specs.declared.timer.Timer.TheVariants as names
use Rattle.sctp_parts.specs.Timers.{Timers, least_moment, limit_of, passes, timer_at}
use Rattle.sctp_streams.specs.declared.event.AssociationError.{AssociationError}
use Rattle.sctp_streams.specs.declared.event.Event.{Event}
use Rattle.sctp_wire_types.specs.declared.config.ServerConfig.{ServerConfig}
use Rattle.sctp_assoc.specs.Calls.{is_beginning, is_cookie_echoed, is_cookie_wait, sends_data}
use Rattle.sctp_assoc.specs.Closing.{closed_by, is_closed_state}
use Rattle.sctp_assoc.specs.Created.{created, joined}
use Rattle.sctp_assoc.specs.Gather.{polled}
use Rattle.sctp_assoc.specs.Shutdown.{all_acknowledged, awaits_answer}
use Rattle.sctp_assoc.specs.Timeouts.{after_timeouts}
use Rattle.sctp_sides.specs.Laws.{losses}
use Rattle.sctp_sides.specs.OneSide.{Call, FailsFrom, IsFresh, IsRun, is_armed, is_delayed}
use Rattle.sctp_assoc.specs.Shown.{Shown}

-- Beginning

-- Both constructors leave a fresh association.
abbrev pub CreatedSidesAreFresh : Type 0
CreatedSidesAreFresh = (of_server : Option ServerConfig) (config : Settings) (size tag initial_tsn : ℕ)
    (cookie : List ℕ) (remote_addr : SocketAddr) (local_ip : Option IpAddr) (now : ℕ)
    → IsFresh (created of_server config size tag initial_tsn cookie remote_addr local_ip now)

abbrev pub JoinedSidesAreFresh : Type 0
JoinedSidesAreFresh = (config : Settings) (size : ℕ) (remote_addr : SocketAddr) (local_ip : Option IpAddr)
    (own peer : ChunkInit)
    → IsFresh (joined config size remote_addr local_ip own peer)

-- this holds of the events that each list of calls told, and of the association that it left of a fresh one
abbrev pub AfterEveryRun : (List Event → Shown → Type 0) → Type 0
AfterEveryRun Holds = (calls : List Call) (told : List Event) (a b : Shown) → IsFresh a → IsRun calls told a b
    → Holds told b

-- this holds of the association
abbrev pub OfEachSide : (Shown → Type 0) → Type 0
OfEachSide Holds = AfterEveryRun (λ told b. Holds b)

-- Losing

-- one where the association was lost, else none
abbrev pub loss_count : Bool → ℕ
loss_count lost = if lost then 1 else 0

-- The losses that were told, and those that wait to be told, are one where the association was lost, else none. In one
-- that failed what waits is not told any more.
pub record TellsOneLoss (told : List Event) (b : Shown) : Type 0 where
  pub told_at_most : losses told ≤ loss_count b.lost
  pub in_all : b.failed ≡ false → losses told + losses b.events ≡ loss_count b.lost

-- No association tells of more than one loss. One that works told of one, or has one waiting to be told, exactly where
-- it was lost.
abbrev pub LossesAreToldOnce : Type 0
LossesAreToldOnce = AfterEveryRun TellsOneLoss

-- Timers

-- the retries of a timer passed their limit (RFC 4960 section 8.1)
abbrev pub has_given_up : Timer → Timers → Bool
has_given_up timer t = passes (timer_at timer t).retries (limit_of timer t)

-- a shutdown began that waits for DATA of this side to be acknowledged
abbrev pub is_waiting_for_data : AssociationState → Bool
is_waiting_for_data states.ShutdownPending = true
is_waiting_for_data states.ShutdownReceived = true
is_waiting_for_data state = false

-- it runs, or its retries passed their limit
abbrev pub IsTimed : Timer → Timers → Type 0
IsTimed timer t = (is_armed timer t ≡ true) ⊎ (has_given_up timer t ≡ true)

-- At a side that did not fail, in Established and in a shutdown until SHUTDOWN or SHUTDOWN ACK is due, the
-- retransmission timer runs as long as DATA is in flight, unless its retries passed their limit (RFC 4960 section
-- 6.3.2, rules R1 and R3). What goes out again when it expires stands in the equations of timeouts and polls.
abbrev pub OutstandingDataIsTimed : Type 0
OutstandingDataIsTimed = OfEachSide (λ b. b.failed ≡ false → sends_data b.state ≡ true
    → 0 < length b.sender.queue.in_flight → IsTimed names.T3RTX b.timers)

-- With nothing in flight it does not run, in any state (RFC 4960 section 6.3.2, rule R2).
abbrev pub NothingInFlightIsNotTimed : Type 0
NothingInFlightIsNotTimed = OfEachSide (λ b. b.sender.queue.in_flight ≡ [] → is_armed names.T3RTX b.timers ≡ false)

-- At a side that did not fail INIT and COOKIE ECHO are timed while they wait for their answer, unless the retries
-- passed their limit (RFC 4960 section 5.1).
abbrev pub SentInitsAreTimed : Type 0
SentInitsAreTimed = OfEachSide (λ b. b.failed ≡ false → is_cookie_wait b.state ≡ true → IsTimed names.T1Init b.timers)

abbrev pub EchoedCookiesAreTimed : Type 0
EchoedCookiesAreTimed = OfEachSide (λ b. b.failed ≡ false → is_cookie_echoed b.state ≡ true
    → IsTimed names.T1Cookie b.timers)

-- The timer of INIT runs in CookieWait alone, and that of COOKIE ECHO in CookieEchoed alone (RFC 4960 section 5.1).
abbrev pub InitsAreTimedInCookieWaitAlone : Type 0
InitsAreTimedInCookieWaitAlone = OfEachSide (λ b. is_armed names.T1Init b.timers ≡ true → is_cookie_wait b.state ≡ true)

abbrev pub CookiesAreTimedInCookieEchoedAlone : Type 0
CookiesAreTimedInCookieEchoedAlone = OfEachSide (λ b. is_armed names.T1Cookie b.timers ≡ true
    → is_cookie_echoed b.state ≡ true)

-- neither timer of the handshake runs
abbrev pub IsHandshakeUntimed : Timers → Type 0
IsHandshakeUntimed t = (is_armed names.T1Init t ≡ false) × (is_armed names.T1Cookie t ≡ false)

-- So from Established on no timer sends anything of the handshake again.
abbrev pub NoHandshakeTimerRunsOnceEstablished : Type 0
NoHandshakeTimerRunsOnceEstablished = OfEachSide (λ b. is_beginning b.state ≡ false → IsHandshakeUntimed b.timers)

-- The timer of acknowledgements runs where one is delayed, and there alone (RFC 4960 section 6.2). At which moment it
-- expires stands in the equation of a packet's end.
abbrev pub DelayedSacksAreTimed : Type 0
DelayedSacksAreTimed = OfEachSide (λ b. b.failed ≡ false → b.lost ≡ false
    → is_armed names.Ack b.timers ≡ is_delayed b.receiver.ack_state)

-- The timer of the answer to SHUTDOWN or SHUTDOWN ACK runs where one of them waits for its answer alone (RFC 4960
-- section 9.2).
abbrev pub ShutdownsAreTimedInTheirStatesAlone : Type 0
ShutdownsAreTimedInTheirStatesAlone =
    OfEachSide (λ b. is_armed names.T2Shutdown b.timers ≡ true → awaits_answer b.state ≡ true)

-- A shutdown waits for all DATA, and no longer (RFC 4960 section 9.2): SHUTDOWN and SHUTDOWN ACK go out only once
-- nothing that was accepted waits or is in flight, and a side of which that is so no longer waits before them.
abbrev pub ShutdownsFollowAllData : Type 0
ShutdownsFollowAllData = OfEachSide (λ b. b.failed ≡ false → awaits_answer b.state ≡ true → all_acknowledged b ≡ true)

abbrev pub ShutdownsGoOnBehindData : Type 0
ShutdownsGoOnBehindData = OfEachSide (λ b. b.failed ≡ false → is_waiting_for_data b.state ≡ true
    → all_acknowledged b ≡ false)

-- A request to reset streams that was sent and is not answered is timed (RFC 6525 section 5.1.1): behind a poll its
-- timer runs.
abbrev pub PollsTimeRequests : Type 0
PollsTimeRequests = (a : Shown) (now : ℕ) → is_some (polled a now).0.resets.own.active ≡ true
    → is_armed names.Reconfig (polled a now).0.timers ≡ true

-- Timeouts leave it running as long as the request is not answered. Past its limit of retries the request is given up;
-- by the rules of the RFCs it goes on all the same.
abbrev pub TimeoutsLeaveRequestsTimed : Type 0
TimeoutsLeaveRequestsTimed = (a : Shown) (now : ℕ) → is_armed names.Reconfig a.timers ≡ true
    → is_some (after_timeouts a now).resets.own.active ≡ true
    → is_armed names.Reconfig (after_timeouts a now).timers ≡ true

-- Ending

-- it waits for no moment
abbrev pub WaitsForNothing : Shown → Type 0
WaitsForNothing a = least_moment a.timers ≡ None

-- A failure stops each timer, and so does a loss.
abbrev pub FailuresStopTheTimers : Type 0
FailuresStopTheTimers = (a b : Shown) → FailsFrom a b → WaitsForNothing b

abbrev pub LossesStopTheTimers : Type 0
LossesStopTheTimers = (a : Shown) (reason : AssociationError) → is_closed_state a.state ≡ false
    → WaitsForNothing (closed_by a reason)

-- From then on no timer runs: a side that failed or was lost waits for no moment, whatever is called.
abbrev pub FailedSidesWaitForNothing : Type 0
FailedSidesWaitForNothing = OfEachSide (λ b. b.failed ≡ true → WaitsForNothing b)

abbrev pub LostSidesWaitForNothing : Type 0
LostSidesWaitForNothing = OfEachSide (λ b. b.lost ≡ true → (is_closed_state b.state ≡ true) × WaitsForNothing b)
