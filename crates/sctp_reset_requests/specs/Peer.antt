-- The peer's requests to reset its outgoing streams, by their numbers (RFC 6525 sections 5.2.1 and 5.2.2).
use Rattle.std.specs.Prelude.{ℕ, Bool, true, false, ◌==◌, ◌+◌, ◌-◌, ◌%◌, ◌^◌, if◌then◌else◌}
use Rattle.std.specs.Prelude.{Option, Some, None, is_some}
use Rattle.sctp_serial.specs.Serial.{tsn_after, tsn_lte}
use Rattle.sctp_wire_types.specs.declared.param.ParamReconfigResponse.{ParamReconfigResponse}
use Rattle.sctp_wire_types.specs.declared.param.ReconfigResult.{ReconfigResult}
use Rattle.sctp_wire_types.specs.declared.param.ReconfigResult.TheVariants as results
use Rattle.sctp_reset_requests.specs.Request.{PeerRequestView, is_due, is_behind, names}
use Rattle.sctp_reset_requests.specs.declared.answer.Standing.{Standing}
use Rattle.sctp_reset_requests.specs.declared.answer.Standing.TheVariants as standings
use Rattle.sctp_reset_requests.specs.declared.answer.Arrival.{Arrival}
use Rattle.sctp_reset_requests.specs.declared.answer.Arrival.TheVariants as arrivals

pub record PeerView : Type 0 where
  -- the number of the last request that was completed, before the first one the peer's initial TSN less 1; None: the
  -- peer's numbers are not known yet
  pub last_completed : Option ℕ
  -- the request that waits for what was sent before it
  pub in_progress : Option PeerRequestView

abbrev pub no_peer_request : PeerView
no_peer_request = record { last_completed = None; in_progress = None }

-- the number before another one
abbrev pub number_before : ℕ → ℕ
number_before number = (number + 2 ^ 32 - 1) % 2 ^ 32

-- the peer's first request will have its initial TSN as its number (RFC 6525 section 4.1)
abbrev pub met : PeerView → ℕ → PeerView
met p initial_tsn = record p { last_completed = Some (number_before initial_tsn) }

abbrev pub is_current : Option PeerRequestView → ℕ → Bool
is_current None number = false
is_current (Some r) number = r.number == number

abbrev pub is_completed : Option ℕ → ℕ → Bool
is_completed None number = false
is_completed (Some last) number = tsn_lte number last

abbrev pub is_next : Option ℕ → ℕ → Bool
is_next None number = true
is_next (Some last) number = number == tsn_after last

-- how a request with this number stands to those before it
abbrev pub standing_of : PeerView → ℕ → Standing
standing_of p number =
    if is_current p.in_progress number then standings.InProgress else
    if is_completed p.last_completed number then standings.Completed else
    if is_some p.in_progress then standings.AnotherInProgress else
    if is_next p.last_completed number then standings.Next else standings.OutOfOrder

-- a request is the last one that was completed
abbrev pub completed : PeerRequestView → PeerView
completed r = record { last_completed = Some r.number; in_progress = None }

abbrev pub is_one_due : Option PeerRequestView → ℕ → Bool
is_one_due None cumulative_tsn = false
is_one_due (Some r) cumulative_tsn = is_due r cumulative_tsn

-- the request in progress is performed once all that was sent before it came
abbrev pub advanced_with : Option PeerRequestView → PeerView → ℕ → PeerView × Option PeerRequestView
advanced_with None p cumulative_tsn = (p, None)
advanced_with (Some r) p cumulative_tsn = if is_due r cumulative_tsn then (completed r, Some r) else (p, None)

abbrev pub advanced : PeerView → ℕ → PeerView × Option PeerRequestView
advanced p cumulative_tsn = advanced_with p.in_progress p cumulative_tsn

abbrev pub taken_up : PeerView × Option PeerRequestView → PeerView × Arrival
taken_up (p, None) = (p, arrivals.Answered results.InProgress)
taken_up (p, Some r) = (p, arrivals.Performed r)

-- what a request that came leads to, by its standing: only the next one is taken up, and only one in progress or taken
-- up can be performed
abbrev pub arrived_as : Standing → PeerView → PeerRequestView → ℕ → PeerView × Arrival
arrived_as standings.Completed p r cumulative_tsn = (p, arrivals.Answered results.SuccessPerformed)
arrived_as standings.AnotherInProgress p r cumulative_tsn =
    (p, arrivals.Answered results.ErrorRequestAlreadyInProgress)
arrived_as standings.OutOfOrder p r cumulative_tsn = (p, arrivals.Answered results.ErrorBadSequenceNumber)
arrived_as standings.InProgress p r cumulative_tsn = taken_up (advanced p cumulative_tsn)
arrived_as standings.Next p r cumulative_tsn =
    taken_up (advanced (record p { in_progress = Some r }) cumulative_tsn)

-- what a request that came leads to; of one that is in progress the first arrival decides what it names
abbrev pub arrived : PeerView → PeerRequestView → ℕ → PeerView × Arrival
arrived p r cumulative_tsn = arrived_as (standing_of p r.number) p r cumulative_tsn

-- what is answered
abbrev pub result_of : Arrival → ReconfigResult
result_of (arrivals.Answered result) = result
result_of (arrivals.Performed r) = results.SuccessPerformed

abbrev pub response_to : ℕ → ReconfigResult → ParamReconfigResponse
response_to number result = record { reconfig_response_sequence_number = number; result = result }

abbrev pub is_behind_one : Option PeerRequestView → ℕ → ℕ → Bool
is_behind_one None id tsn = false
is_behind_one (Some r) id tsn = is_behind r id tsn

-- DATA belongs behind the request in progress
abbrev pub is_deferred : PeerView → ℕ → ℕ → Bool
is_deferred p id tsn = is_behind_one p.in_progress id tsn

abbrev pub boundary_for : Option PeerRequestView → ℕ → Option ℕ
boundary_for None id = None
boundary_for (Some r) id = if names r id then Some r.last_tsn else None

-- up to which TSN DATA of a stream belongs before the request in progress, if that names it
abbrev pub boundary_of : PeerView → ℕ → Option ℕ
boundary_of p id = boundary_for p.in_progress id

-- an association that is closed has no request in progress; the numbers stay
abbrev pub peer_closed : PeerView → PeerView
peer_closed p = record p { in_progress = None }
