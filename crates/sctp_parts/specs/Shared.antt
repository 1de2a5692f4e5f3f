use Rattle.sctp_parts.specs.declared.shared.EndpointEvent.{EndpointEvent}
use Rattle.sctp_parts.specs.declared.shared.EndpointEventInner.TheVariants.{Drained}

-- the event by which an association says that it will queue no more events for its endpoint
abbrev pub drained_event : EndpointEvent
drained_event = record { inner = Drained }
