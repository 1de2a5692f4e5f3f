-- What a performed request of the peer does to the streams that it names (RFC 6525 section 5.2.2).
use Rattle.std.specs.Prelude.{ℕ, Bool, true, false, ◌==◌, ◌||◌, not, if◌then◌else◌, fold, filter}
use Rattle.std.specs.Prelude.{List, [], ◌∷◌, ◌++◌, Option, Some, None, is_some}
use Rattle.sctp_wire_types.specs.Config.{is_rfc}
use Rattle.sctp_wire_types.specs.declared.event.StreamEvent.TheVariants.{Finished, ResetComplete}
use Rattle.sctp_receive_queues.specs.Reassembly.{bytes_waiting}
use Rattle.sctp_streams.specs.declared.event.Event.{Event}
use Rattle.sctp_streams.specs.declared.event.Event.TheVariants as events
use Rattle.sctp_streams.specs.Stream.{StreamView, is_read_half_open}
use Rattle.sctp_streams.specs.Streams.{StreamMap, live_ids, stream_at, without_stream}
use Rattle.sctp_generations.specs.declared.retirement.Retirement.{Retirement}
use Rattle.sctp_generations.specs.declared.retirement.Retirement.TheVariants as retirements
use Rattle.sctp_generations.specs.Generations.{GenerationsView, retired, retirement_of}
use Rattle.sctp_reset_requests.specs.Debts.{DebtsView, is_owed, owing, paid}
use Rattle.sctp_reset_requests.specs.Own.{OwnView, ends_here, to_reset}
use Rattle.sctp_reset_requests.specs.Request.{PeerRequestView, names_all}
use Rattle.sctp_resets.specs.Channels.{final_told}

pub record Performing : Type 0 where
  pub generations : GenerationsView
  pub debts : DebtsView
  pub streams : StreamMap
  pub events : List Event

abbrev pub performing : GenerationsView → DebtsView → StreamMap → List Event → Performing
performing g d m told = record { generations = g; debts = d; streams = m; events = told }

abbrev pub is_drained_at : Option StreamView → Bool
is_drained_at None = true
is_drained_at (Some s) = not (is_read_half_open s.halves) || (bytes_waiting s.reassembly == 0)

-- nothing more can be read on a stream: its read half is closed, or no byte waits
abbrev pub is_drained : StreamMap → ℕ → Bool
is_drained m id = is_drained_at (stream_at m id)

-- Finished is told of a stream, and the end of its reset is owed
abbrev pub finished : Performing → ℕ → Performing
finished p id =
    record p { debts = owing p.debts id; events = p.events ++ events.Stream (Finished id) ∷ [] }

-- the last counters of a stream are told, and it is live no more
abbrev pub stream_ended : Performing → ℕ → Performing
stream_ended p id =
    record p { streams = without_stream p.streams id; events = final_told p.streams id p.events }

abbrev pub retired_as : Retirement → Performing → ℕ → Performing × Bool
retired_as retirements.Ended p id = (finished (stream_ended p id) id, true)
retired_as retirements.Retires p id = (finished p id, true)
retired_as retirements.Unchanged p id = (p, false)

-- The newest generation of a live stream ends with a boundary; whether one ended. The stream itself ends where nothing
-- more can be read, and else is read on.
unfoldable pub retired_one : ℕ → Performing → ℕ → Performing × Bool
retired_one boundary p id =
    retired_as (retirement_of p.generations id boundary (is_drained p.streams id))
    (record p { generations = retired p.generations id boundary (is_drained p.streams id) }) id

-- the live streams that a request names, ascending
abbrev pub named_live : StreamMap → PeerRequestView → List ℕ
named_live m r =
    if names_all r then live_ids m else filter (λ id. is_some (stream_at m id)) r.ids

abbrev pub with_retired : Performing × Bool → List ℕ → ℕ → Performing × List ℕ
with_retired (p, true) ids id = (p, ids ++ id ∷ [])
with_retired (p, false) ids id = (p, ids)

abbrev pub retired_next : ℕ → Performing × List ℕ → ℕ → Performing × List ℕ
retired_next boundary (p, ids) id = with_retired (retired_one boundary p id) ids id

-- the newest generations of the live streams that a request names end, identifiers ascending; those of which one ended
abbrev pub retired_each : PeerRequestView → Performing → Performing × List ℕ
retired_each r p = fold (retired_next r.last_tsn) (p, []) (named_live p.streams r)

-- The streams that a request resets by the rules of the RFCs: those that it names, live or not, and where it is for all
-- the live ones. By the rules of the port none is noted.
abbrev pub named_in : OwnView → StreamMap → PeerRequestView → List ℕ
named_in o m r = if is_rfc o.profile then (if names_all r then live_ids m else r.ids) else []

abbrev pub paid_told : DebtsView × Bool → List Event → ℕ → DebtsView × List Event
paid_told (d, true) told id = (d, told ++ events.Stream (ResetComplete id) ∷ [])
paid_told (d, false) told id = (d, told)

-- the request ends a reset of the stream that this side began: the end is told where it is owed
abbrev pub end_told : OwnView → DebtsView × List Event → ℕ → DebtsView × List Event
end_told o (d, told) id = if ends_here o id then paid_told (paid d id, is_owed d id) told id else (d, told)

abbrev pub each_end_told : OwnView → List ℕ → DebtsView × List Event → DebtsView × List Event
each_end_told o named t = fold (end_told o) t named

abbrev pub with_ends : DebtsView × List Event → Performing → Performing
with_ends (d, told) p = record p { debts = d; events = told }

abbrev pub ends_told : OwnView → List ℕ → Performing → Performing
ends_told o named p = with_ends (each_end_told o named (p.debts, p.events)) p

-- of the streams that a request names, the ends that it brings are told; those that this side resets in answer
abbrev pub answered_in : OwnView → List ℕ → Performing × List ℕ → Performing × List ℕ
answered_in o named (p, retired) = (ends_told o named p, to_reset o named retired)
