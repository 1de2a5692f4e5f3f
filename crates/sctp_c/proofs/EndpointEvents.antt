-- An association tells its endpoint one thing alone.
use Rattle.std.proofs.Common.{◌≡◌, refl}
use Rattle.sctp_parts.specs.declared.shared.EndpointEvent.{EndpointEvent}
use Rattle.sctp_parts.specs.declared.shared.EndpointEventInner.{EndpointEventInner}
use Rattle.sctp_parts.specs.declared.shared.EndpointEventInner.TheVariants as inners
use Rattle.sctp_parts.specs.Shared.{drained_event}

drained_inside : (inner : EndpointEventInner)
    → (let event : EndpointEvent = record { inner = inner } in event) ≡ drained_event
drained_inside inners.Drained = refl

pub drained_alone : (event : EndpointEvent) → event ≡ drained_event
drained_alone event = drained_inside event.inner
