-- The end of a request of this side (RFC 6525 section 5.2.7, RFC 8831 section 6.7).
use Rattle.std.specs.Prelude.{ℕ, Bool, true, false, ◌&&◌, ◌||◌, not, if◌then◌else◌, fold}
use Rattle.std.specs.Prelude.{List, [], ◌∷◌, ◌++◌, Option, Some, None, is_some, Result, Ok, Err}
use Rattle.sctp_wire_types.specs.declared.event.StreamEvent.TheVariants.{ResetComplete, ResetFailed}
use Rattle.sctp_wire_types.specs.declared.event.StreamResetError.{StreamResetError}
use Rattle.sctp_wire_types.specs.declared.event.StreamResetError.TheVariants as reasons
use Rattle.sctp_streams.specs.declared.event.Event.{Event}
use Rattle.sctp_streams.specs.declared.event.Event.TheVariants as events
use Rattle.sctp_streams.specs.Stream.{StreamView, is_read_half_open, with_restarted_ssn}
use Rattle.sctp_streams.specs.Streams.{StreamMap, changed_stream, stream_at, without_stream}
use Rattle.sctp_reset_requests.specs.Debts.{DebtsView, failed_at, is_owed, settled}
use Rattle.sctp_resets.specs.Channels.{final_told}

pub record Answering : Type 0 where
  pub debts : DebtsView
  pub streams : StreamMap
  pub events : List Event

abbrev pub answering : DebtsView → StreamMap → List Event → Answering
answering d m told = record { debts = d; streams = m; events = told }

abbrev pub read_half_closed_at : Option StreamView → Bool
read_half_closed_at None = false
read_half_closed_at (Some s) = not (is_read_half_open s.halves)

-- the stream is live and its read half is closed
abbrev pub is_read_half_closed : StreamMap → ℕ → Bool
is_read_half_closed m id = read_half_closed_at (stream_at m id)

-- the stream ends where it is to and its read half is closed; else its SSNs begin at 0 again
abbrev pub ended_or_restarted : Bool → Answering → ℕ → Answering
ended_or_restarted ends a id =
    if ends && is_read_half_closed a.streams id then
    record a { streams = without_stream a.streams id; events = final_told a.streams id a.events }
    else record a { streams = changed_stream with_restarted_ssn a.streams id }

abbrev pub complete_told : Bool → Answering → ℕ → Answering
complete_told owed a id =
    if owed then record a { events = a.events ++ events.Stream (ResetComplete id) ∷ [] } else a

-- By the rules of the port the end of a reset that was owed ends the stream, too. By those of the RFCs it ends none:
-- the one that is live may be of a generation that came behind.
abbrev pub completed_with : Bool → DebtsView × Bool → Answering → ℕ → Answering
completed_with by_rfcs (d, owed) a id =
    complete_told owed (ended_or_restarted (owed && not by_rfcs) (record a { debts = d }) id) id

-- the reset of a stream succeeded: that is told where it was owed
abbrev pub completed_one : Bool → Answering → ℕ → Answering
completed_one by_rfcs a id = completed_with by_rfcs (settled a.debts id) a id

-- the reset of a stream failed, which is told
abbrev pub failed_one : StreamResetError → DebtsView × List Event → ℕ → DebtsView × List Event
failed_one reason (d, told) id = (failed_at d id, told ++ events.Stream (ResetFailed id reason) ∷ [])

abbrev pub failed_each : StreamResetError → List ℕ → DebtsView × List Event → DebtsView × List Event
failed_each reason ids t = fold (failed_one reason) t ids

abbrev pub with_told : Answering → DebtsView × List Event → Answering
with_told a (d, told) = record a { debts = d; events = told }

-- a request for these streams ended so
abbrev pub request_ended : Bool → Result (Unit {0}) StreamResetError → List ℕ → Answering → Answering
request_ended by_rfcs (Ok done) ids a = fold (completed_one by_rfcs) a ids
request_ended by_rfcs (Err reason) ids a = with_told a (failed_each reason ids (a.debts, a.events))

-- A request is given up and goes on: that is told of a stream that is live or of which the end of a reset is owed.
abbrev pub failure_told : DebtsView → StreamMap → List Event → ℕ → List Event
failure_told d m told id =
    if is_some (stream_at m id) || is_owed d id then
    told ++ events.Stream (ResetFailed id reasons.Failed) ∷ []
    else told

abbrev pub failures_told : DebtsView → StreamMap → List ℕ → List Event → List Event
failures_told d m ids told = fold (failure_told d m) told ids
