-- The timers of an association as they are at a moment, in the order in which they are looked at.
use Rattle.std.specs.Prelude.{ℕ, Bool, ◌&&◌, ◌||◌, is_some, not}
use Rattle.sctp_parts.specs.declared.timer.Timer.TheVariants as names
use Rattle.sctp_parts.specs.Timers.{expiry_of}
use Rattle.sctp_reset_requests.specs.Own.{is_given_up_anew}
use Rattle.sctp_assoc.specs.Calls.{after_ack_delay, after_t3}
use Rattle.sctp_assoc.specs.Handshake.{after_t1_cookie, after_t1_init}
use Rattle.sctp_assoc.specs.Resets.{after_reconfig_timer}
use Rattle.sctp_assoc.specs.Shown.{Shown}
use Rattle.sctp_assoc.specs.Shutdown.{after_t2_shutdown}

-- the timers of the handshake (RFC 4960 section 5.1)
abbrev pub after_handshake_timers : Shown → ℕ → Shown
after_handshake_timers a now = after_t1_cookie (after_t1_init a now) now

-- behind those, the timer of the answer to SHUTDOWN or SHUTDOWN ACK (RFC 4960 section 9.2)
abbrev pub after_shutdown_timer : Shown → ℕ → Shown
after_shutdown_timer a now = after_t2_shutdown (after_handshake_timers a now) now

-- and behind that the retransmission timer
abbrev pub after_sending_timers : Shown → ℕ → Shown
after_sending_timers a now = after_t3 (after_shutdown_timer a now) now

abbrev pub after_timeouts : Shown → ℕ → Shown
after_timeouts a now = after_ack_delay (after_reconfig_timer (after_sending_timers a now) now) now

-- requests to reset streams are told as failed: their timer expired past its limit, by the rules of the RFCs for the
-- first time
abbrev pub gives_requests_up : Shown → ℕ → Bool
gives_requests_up a now =
    is_given_up_anew a.resets.own
    && ((expiry_of names.Reconfig now a.timers).expired && (expiry_of names.Reconfig now a.timers).failed)

-- INIT is to go out again: its timer expired within its limit (RFC 4960 section 5.1)
abbrev pub offers_again : Shown → ℕ → Bool
offers_again a now =
    is_some a.handshake.offer
    && ((expiry_of names.T1Init now a.timers).expired && not (expiry_of names.T1Init now a.timers).failed)

-- COOKIE ECHO is to go out again: its timer expired within its limit
abbrev pub echoes_again : Shown → ℕ → Bool
echoes_again a now =
    is_some a.handshake.echo
    && ((expiry_of names.T1Cookie now a.timers).expired && not (expiry_of names.T1Cookie now a.timers).failed)

-- INIT or COOKIE ECHO is to go out again; the timer of INIT is looked at first
abbrev pub handshake_goes_out_again : Shown → ℕ → Bool
handshake_goes_out_again a now = offers_again a now || echoes_again (after_t1_init a now) now

-- that takes memory, and so does telling that requests failed
abbrev pub timeouts_take_memory : Shown → ℕ → Bool
timeouts_take_memory a now =
    handshake_goes_out_again a now || gives_requests_up (after_sending_timers a now) now
