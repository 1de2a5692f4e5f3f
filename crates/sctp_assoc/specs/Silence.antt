-- A peer that says nothing any more, as the timers show it that wait for it.
use Rattle.std.specs.Prelude.{ℕ, Bool, true, false, ◌&&◌, if◌then◌else◌}
use Rattle.sctp_parts.specs.declared.state.AssociationState.{AssociationState}
use Rattle.sctp_parts.specs.declared.state.AssociationState.TheVariants as states
use Rattle.sctp_parts.specs.declared.timer.Timer.TheVariants as names
use Rattle.sctp_parts.specs.Timers.{expiry_of}
use Rattle.sctp_assoc.specs.Shown.{Shown}

-- the retransmission timer expires for good: its retries pass their limit, and DATA in flight does not go out again
-- (RFC 4960 sections 6.3.3 and 8.1)
unfoldable pub falls_silent : Shown → ℕ → Bool
falls_silent a now = (expiry_of names.T3RTX now a.timers).failed

-- SHUTDOWN ACK waits for its answer
abbrev pub awaits_completion : AssociationState → Bool
awaits_completion states.ShutdownAckSent = true
awaits_completion state = false

-- how often the timer of the answer to SHUTDOWN ACK expired in a row (RFC 4960 section 9.2), where it expires now, too;
-- 0 where it does not
unfoldable pub unanswered_shutdown_acks : Shown → ℕ → ℕ
unanswered_shutdown_acks a now =
    if awaits_completion a.state && (expiry_of names.T2Shutdown now a.timers).expired then
    (expiry_of names.T2Shutdown now a.timers).retries
    else 0
