-- What two steps leave of requests to reset streams: no more is read of a stream that retires, and the active request
-- is given up.
use Rattle.std.proofs.Common.{ℕ, Bool, true, false, not, if◌then◌else◌, List, Option, Some, None}
use Rattle.std.specs.List.{filter}
use Rattle.sctp_wire_types.specs.Config.{is_rfc}
use Rattle.sctp_streams.specs.declared.event.Event.{Event}
use Rattle.sctp_streams.specs.Events.{is_told_of}
use Rattle.sctp_streams.specs.Stream.{without_unread}
use Rattle.sctp_streams.specs.Streams.{StreamMap, changed_stream}
use Rattle.sctp_generations.specs.Generations.{discarded, has_newest}
use Rattle.sctp_reset_requests.specs.declared.own_request.OwnRequest.{OwnRequest}
use Rattle.sctp_reset_requests.specs.Own.{OwnView, ended, marked_given_up}
use Rattle.sctp_reset_requests.specs.Peer.{PeerView}
use Rattle.sctp_resets.specs.Resets.{Beside, ResetsView, ended_unless, given_up, given_up_for_now, given_up_where}
use Rattle.sctp_resets.specs.Resets.{is_blocked, reset_or_ended, stopped_reading, waiting_for, with_generations}

-- A stop

-- nothing is kept of the stream
abbrev pub unread : ResetsView → ℕ → ResetsView
unread r id = with_generations r (discarded r.generations id)

-- what holds of the resets then, and where the stream waits to be reset, too, holds behind the stop
module _ (P : ResetsView → Type 0) where
  dropped_leaves : (by_rfcs more blocked : Bool) (r : ResetsView) (id : ℕ) (m : StreamMap) (told : List Event) → P r
      → P (waiting_for r id)
      → P (if by_rfcs then reset_or_ended more r id m told else ended_unless blocked r id m told).0
  dropped_leaves true true blocked r id m told stays waits = waits
  dropped_leaves true false blocked r id m told stays waits = stays
  dropped_leaves false more true r id m told stays waits = stays
  dropped_leaves false more false r id m told stays waits = stays

  pub stopped_reading_leaves : (id : ℕ) (r : ResetsView) (m : StreamMap) (told : List Event) → P (unread r id)
      → P (waiting_for (unread r id) id) → P (stopped_reading id r m told).0
  stopped_reading_leaves id r m told stays waits =
      let s : ResetsView = unread r id in
      dropped_leaves (is_rfc r.own.profile) (has_newest r.generations id) (is_blocked s id) s id
      (changed_stream without_unread m id) (filter (λ (e : Event). not (is_told_of id e)) told) stays waits

-- The active request is given up

abbrev given_up_by : Bool → OwnView × Option OwnRequest → ResetsView → StreamMap → List Event → Beside
given_up_by by_rfcs x r m told = if by_rfcs then given_up_for_now r m told else given_up_where x r m told

-- what holds of the requests of both sides where it is marked and stays, and where it is over, holds then
module _ (P : OwnView → PeerView → Type 0) (r : ResetsView) (m : StreamMap) (told : List Event) where
  given_up_leaves_by : (by_rfcs : Bool) (x : OwnView × Option OwnRequest) → P (marked_given_up r.own) r.peer
      → P x.0 r.peer
      → P (given_up_by by_rfcs x r m told).0.own (given_up_by by_rfcs x r m told).0.peer
  given_up_leaves_by true x marked over = marked
  given_up_leaves_by false (o, None) marked over = over
  given_up_leaves_by false (o, Some q) marked over = over

  pub given_up_leaves : P (marked_given_up r.own) r.peer → P (ended r.own).0 r.peer
      → P (given_up r m told).0.own (given_up r m told).0.peer
  given_up_leaves marked over = given_up_leaves_by (is_rfc r.own.profile) (ended r.own) marked over
