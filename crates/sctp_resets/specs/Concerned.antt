-- Which streams a reset may change. All others stay as they are.
use Rattle.std.specs.Prelude.{◌≡◌, ℕ, false, map, List, [], ◌∷◌, ◌++◌, Option, Some, None}
use Rattle.sctp_wire_types.specs.declared.param.ParamOutgoingResetRequest.{ParamOutgoingResetRequest}
use Rattle.sctp_streams.specs.Streams.{StreamMap, stream_at}
use Rattle.sctp_generations.specs.Generations.{GenerationsView}
use Rattle.sctp_reset_requests.specs.declared.own_request.SentRequest.{SentRequest}
use Rattle.sctp_reset_requests.specs.Ids.{has_id}
use Rattle.sctp_reset_requests.specs.Request.{PeerRequestView, request_of}
use Rattle.sctp_resets.specs.Performing.{named_live}
use Rattle.sctp_resets.specs.Resets.{ResetsView}

-- the streams of which a generation ended and is still read
abbrev pub retiring_ids : GenerationsView → List ℕ
retiring_ids g = map (λ e. e.0) g.retiring

-- those of which DATA is kept for a generation that is not read yet
abbrev pub deferred_ids : GenerationsView → List ℕ
deferred_ids g = map (λ d. d.stream_identifier) g.deferred

-- and those of which a skip is
abbrev pub skipped_ids : GenerationsView → List ℕ
skipped_ids g = map (λ s. s.id) g.skips

-- the live streams that a request of the peer names, if there is one
abbrev pub named_in_progress : StreamMap → Option PeerRequestView → List ℕ
named_in_progress m None = []
named_in_progress m (Some q) = named_live m q

-- the streams that the peer resets: its request in progress names them, or something of them is kept
abbrev pub in_reset : ResetsView → StreamMap → List ℕ
in_reset r m =
    named_in_progress m r.peer.in_progress
    ++ (retiring_ids r.generations ++ (deferred_ids r.generations ++ skipped_ids r.generations))

abbrev pub sent_ids : Option SentRequest → List ℕ
sent_ids None = []
sent_ids (Some s) = s.request.ids

-- the streams of this side's active request
abbrev pub active_ids : ResetsView → List ℕ
active_ids r = sent_ids r.own.active

-- the streams that a request of the peer may change: those of the active request, which it may confirm, those that it
-- names, and those that were in a reset before
abbrev pub ids_of_request : ParamOutgoingResetRequest → ResetsView → StreamMap → List ℕ
ids_of_request p r m = active_ids r ++ (named_live m (request_of p) ++ in_reset r m)

-- all streams but these are in n what they are in m
abbrev pub StayBeside : List ℕ → StreamMap → StreamMap → Type 0
StayBeside ids m n = (t : ℕ) → has_id t ids ≡ false → stream_at n t ≡ stream_at m t
