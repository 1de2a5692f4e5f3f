-- Skips of FORWARD TSN that were kept, applied to the streams that they are of (RFC 3758 section 3.6).
use Rattle.std.specs.Prelude.{ℕ, Bool, ◌==◌, ◌&&◌, List, [], ◌∷◌, ◌++◌, if◌then◌else◌, fold, is_some}
use Rattle.sctp_wire_types.specs.declared.event.StreamEvent.TheVariants.{Readable}
use Rattle.sctp_streams.specs.declared.event.Event.{Event}
use Rattle.sctp_streams.specs.declared.event.Event.TheVariants as events
use Rattle.sctp_streams.specs.Stream.{stream_skipped}
use Rattle.sctp_streams.specs.Streams.{StreamMap, becomes_ready_in, bound_of_skip_in, changed_stream, stream_at}
use Rattle.sctp_generations.specs.declared.skips.KeptSkip.{KeptSkip}
use Rattle.sctp_generations.specs.Generations.{GenerationsView, after_skips_given_to, has_skips, skips_given_to}
use Rattle.sctp_generations.specs.Generations.{with_kept_skip}
use Rattle.sctp_generations.specs.Skips.{skip_ids}

-- how far a skip goes: as far as its SSN, but over no message of which a piece came above its TSN
abbrev pub end_of_skip : KeptSkip → StreamMap → ℕ
end_of_skip s m = bound_of_skip_in m s.id s.ssn s.tsn

abbrev pub reaches_its_ssn : KeptSkip → StreamMap → Bool
reaches_its_ssn s m = end_of_skip s m == s.ssn

-- Readable is told where a skip makes a message ready and none was
abbrev pub readable_told : Bool → ℕ → List Event
readable_told ready id = if ready then events.Stream (Readable id) ∷ [] else []

-- the messages that a skip goes over are skipped on its stream, if that is live
abbrev pub skip_applied : KeptSkip → StreamMap → List Event → StreamMap × List Event
skip_applied s m told = (
  changed_stream (stream_skipped (end_of_skip s m)) m s.id,
  told ++ readable_told (becomes_ready_in m s.id (end_of_skip s m)) s.id,
)

-- what is kept of generations, the live streams, and the events
abbrev pub Skipping : Type 0
Skipping = GenerationsView × StreamMap × List Event

-- a skip is applied, and kept again where it did not reach its SSN
abbrev pub skip_tried : Skipping → KeptSkip → Skipping
skip_tried (g, m, told) s =
    (if reaches_its_ssn s m then g else with_kept_skip g s, (skip_applied s m told).0, (skip_applied s m told).1)

-- the skips of the readable generation of a stream are applied in the order of their arrival, where the stream is live
abbrev pub skips_applied_of : Skipping → ℕ → Skipping
skips_applied_of (g, m, told) id =
    if has_skips g && is_some (stream_at m id) then
    fold skip_tried (after_skips_given_to g id, m, told) (skips_given_to g id)
    else (g, m, told)

-- so are those of all live streams, identifiers ascending
abbrev pub skips_applied : Skipping → Skipping
skips_applied (g, m, told) =
    if has_skips g then fold skips_applied_of (g, m, told) (skip_ids g.skips) else (g, m, told)
