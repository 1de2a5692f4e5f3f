-- Every stream that resets concern is one of these: of streams past their span (RFC 6525 section 5).
use Rattle.std.specs.Prelude.{◌≡◌, ◌<◌, ℕ, Bool, true, false, List, length, Option, Some, None}
use Rattle.std.specs.List.{AllByRecursion}
use Rattle.sctp_wire_types.specs.declared.param.ParamOutgoingResetRequest.{ParamOutgoingResetRequest}
use Rattle.sctp_generations.specs.Generations.{GenerationsView}
use Rattle.sctp_reset_requests.specs.declared.own_request.OwnRequest.{OwnRequest}
use Rattle.sctp_reset_requests.specs.declared.own_request.SentRequest.{SentRequest}
use Rattle.sctp_reset_requests.specs.Own.{OwnView}
use Rattle.sctp_reset_requests.specs.Request.{PeerRequestView}
use Rattle.sctp_resets.specs.Concerned.{deferred_ids, retiring_ids, skipped_ids}
use Rattle.sctp_resets.specs.Resets.{ResetsView}

-- these streams are past their span
abbrev pub AreOver : (ℕ → Bool) → List ℕ → Type 0
AreOver over ids = AllByRecursion (λ (id : ℕ). over id ≡ true) ids

-- A request names some streams, and these are past their span. (One that names none would be for all.)
pub record NamesOver (over : ℕ → Bool) (ids : List ℕ) : Type 0 where
  pub some : 0 < length ids
  pub each : AreOver over ids

-- a request of this side does not name all, and so
pub record AsksOver (over : ℕ → Bool) (r : OwnRequest) : Type 0 where
  pub not_all : r.names_all ≡ false
  pub names : NamesOver over r.ids

abbrev pub SentOver : (ℕ → Bool) → Option SentRequest → Type 0
SentOver over None = Unit {0}
SentOver over (Some s) = AsksOver over s.request

-- of this side's requests
pub record OwnOver (over : ℕ → Bool) (o : OwnView) : Type 0 where
  pub waiting : AreOver over o.waiting
  pub queued : AllByRecursion (AsksOver over) o.queued
  pub active : SentOver over o.active

-- of the one of the peer that waits
abbrev pub InProgressOver : (ℕ → Bool) → Option PeerRequestView → Type 0
InProgressOver over None = Unit {0}
InProgressOver over (Some q) = NamesOver over q.ids

-- of what is kept of generations
pub record KeptOver (over : ℕ → Bool) (g : GenerationsView) : Type 0 where
  pub retiring : AreOver over (retiring_ids g)
  pub deferred : AreOver over (deferred_ids g)
  pub skipped : AreOver over (skipped_ids g)

pub record ResetsOver (over : ℕ → Bool) (r : ResetsView) : Type 0 where
  pub own : OwnOver over r.own
  pub in_progress : InProgressOver over r.peer.in_progress
  pub kept : KeptOver over r.generations

-- a request as it goes over the wire
abbrev pub ParamOver : (ℕ → Bool) → ParamOutgoingResetRequest → Type 0
ParamOver over p = NamesOver over p.stream_identifiers

abbrev pub ParamOverIf : (ℕ → Bool) → Option ParamOutgoingResetRequest → Type 0
ParamOverIf over None = Unit {0}
ParamOverIf over (Some p) = ParamOver over p
