-- An association whose peer is silent for good.
use Rattle.std.specs.Prelude.{ℕ, Bool, ◌&&◌, ◌||◌, if◌then◌else◌, not, Option}
use Rattle.sctp_wire_types.specs.Config.{is_rfc}
use Rattle.sctp_parts.specs.Timers.{passes}
use Rattle.sctp_streams.specs.declared.event.AssociationError.TheVariants as reasons
use Rattle.sctp_assoc.specs.Closing.{closed_by, is_closed_state}
use Rattle.sctp_assoc.specs.Shown.{Shown}
use Rattle.sctp_assoc.specs.Silence.{falls_silent, unanswered_shutdown_acks}
use Rattle.sctp_assoc.specs.Timeouts.{after_timeouts, timeouts_take_memory}

-- what was sent for the last time was not answered: DATA, or a SHUTDOWN ACK past this limit
abbrev pub hears_nothing : Shown → Option ℕ → ℕ → Bool
hears_nothing a limit now = falls_silent a now || passes (unanswered_shutdown_acks a now) limit

-- By the rules of the RFCs an open association ends then (RFC 4960 sections 8.1 and 9.2).
unfoldable pub gives_up : Shown → Option ℕ → ℕ → Bool
gives_up a limit now = is_rfc a.profile && not (is_closed_state a.state) && hears_nothing a limit now

-- it closes, or else does what its timers ask for
abbrev pub timed_out : Shown → Option ℕ → ℕ → Shown
timed_out a limit now = if gives_up a limit now then closed_by a reasons.AssociationClosed else after_timeouts a now

-- to close takes memory, and so do some timers
abbrev pub timing_out_takes_memory : Shown → Option ℕ → ℕ → Bool
timing_out_takes_memory a limit now = gives_up a limit now || timeouts_take_memory a now
