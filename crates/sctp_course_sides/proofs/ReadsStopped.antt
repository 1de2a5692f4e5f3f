-- What a stop of a stream that retires leaves of the resets of a side: the generations of the stream are dropped, and
-- the stream may be to be reset.
use Rattle.std.proofs.Common.{ℕ, Bool, true, false, if◌then◌else◌, not, List, filter}
use Rattle.sctp_wire_types.specs.Config.{is_rfc}
use Rattle.sctp_streams.specs.declared.event.Event.{Event}
use Rattle.sctp_streams.specs.Events.{is_told_of}
use Rattle.sctp_streams.specs.Stream.{without_unread}
use Rattle.sctp_streams.specs.Streams.{StreamMap, changed_stream}
use Rattle.sctp_generations.specs.Generations as generations
use Rattle.sctp_generations.specs.Generations.{has_newest}
use Rattle.sctp_resets.specs.Resets.{Beside, ResetsView, ended_unless, is_blocked, reset_or_ended, stopped_reading}
use Rattle.sctp_resets.specs.Resets.{waiting_for, with_generations}

-- What holds of the resets in both ways in which they may be left.
module _ (P : ResetsView → Type 0) (id : ℕ) where
  reset_or_ended_has : (more : Bool) (r : ResetsView) (m : StreamMap) (told : List Event) → P r → P (waiting_for r id)
      → P (reset_or_ended more r id m told).0
  reset_or_ended_has true r m told left waits = waits
  reset_or_ended_has false r m told left waits = left

  ended_unless_has : (blocked : Bool) (r : ResetsView) (m : StreamMap) (told : List Event) → P r
      → P (ended_unless blocked r id m told).0
  ended_unless_has true r m told left = left
  ended_unless_has false r m told left = left

  dropped_has : (by_rfcs more blocked : Bool) (r : ResetsView) (m : StreamMap) (told : List Event) → P r
      → P (waiting_for r id)
      → P (if◌then◌else◌ {A = Beside} by_rfcs (reset_or_ended more r id m told) (ended_unless blocked r id m told)).0
  dropped_has true more blocked r m told left waits = reset_or_ended_has more r m told left waits
  dropped_has false more blocked r m told left waits = ended_unless_has blocked r m told left

  pub stopped_has : (r : ResetsView) (m : StreamMap) (told : List Event)
      → P (with_generations r (generations.discarded r.generations id))
      → P (waiting_for (with_generations r (generations.discarded r.generations id)) id)
      → P (stopped_reading id r m told).0
  stopped_has r m told left waits =
      let s : ResetsView = with_generations r (generations.discarded r.generations id) in
      dropped_has (is_rfc s.own.profile) (has_newest r.generations id) (is_blocked s id) s
      (changed_stream without_unread m id) (filter (λ e. not (is_told_of id e)) told) left waits
