-- The laws of one direction, each by its name, from any direction on: what crates that build on this one cite of its
-- proofs.
pub use Rattle.sctp_model.proofs.Safety.{the_invariant_is_enough}
pub use Rattle.sctp_model.proofs.EventsKeepInvariant.{each_event_keeps_the_invariant, fresh_holds}
