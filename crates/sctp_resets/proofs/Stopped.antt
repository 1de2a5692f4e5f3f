-- What a stop leaves of a stream that retires, from its parts.
use Rattle.std.proofs.Common.{◌≡◌, refl, ℕ, Bool, List, filter, not}
use Rattle.sctp_streams.specs.declared.event.Event.{Event}
use Rattle.sctp_streams.specs.Events.{is_told_of}
use Rattle.sctp_streams.specs.Stream.{without_unread}
use Rattle.sctp_streams.specs.Streams.{StreamMap, changed_stream}
use Rattle.sctp_generations.specs.Generations.{GenerationsView, discarded, has_newest}
use Rattle.sctp_resets.specs.Resets.{ResetsView, dropped, stopped_reading, with_generations}

pub stopped_so : (more : Bool) (id : ℕ) (r : ResetsView) (g : GenerationsView) (m n : StreamMap)
    (told left : List Event) → more ≡ has_newest r.generations id → g ≡ discarded r.generations id
    → n ≡ changed_stream without_unread m id → left ≡ filter (λ e. not (is_told_of id e)) told
    → dropped more (with_generations r g) id n left ≡ stopped_reading id r m told
stopped_so more id r g m n told left newest generations streams events =
    rw (newest, generations, streams, events) refl
