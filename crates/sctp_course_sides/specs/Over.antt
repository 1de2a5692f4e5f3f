-- Sides that were lost: they exchange nothing of a stream any more.
use Rattle.std.specs.Prelude.{◌≡◌, ⊤, true}
use Rattle.std.specs.List.{AllByRecursion}
use Rattle.sctp_wire_types.specs.declared.chunk.Chunk.{Chunk}
use Rattle.sctp_wire_types.specs.declared.chunk.Chunk.TheVariants as chunks
use Rattle.sctp_parts.specs.Timers.{IsNoneArmed}
use Rattle.sctp_assoc.specs.declared.control.Control.{Control}
use Rattle.sctp_assoc.specs.declared.control.Control.TheVariants as controls
use Rattle.sctp_assoc.specs.Closing.{is_closed_state}
use Rattle.sctp_assoc.specs.Gather.{WaitPlainly}
use Rattle.sctp_assoc.specs.Shown.{Shown}
use Rattle.sctp_sides.specs.NoReset.{HasNoReset}
use Rattle.sctp_sides.specs.SideLaws.{HoldsNothing}

-- A chunk says nothing of DATA, of requests to reset streams or of a handshake: it ends an association, or tells of an
-- error.
abbrev pub SaysNothing : Chunk → Type 0
SaysNothing (chunks.Abort abort) = ⊤
SaysNothing (chunks.Error error) = ⊤
SaysNothing (chunks.Shutdown cumulative_tsn_ack) = ⊤
SaysNothing chunks.ShutdownAck = ⊤
SaysNothing chunks.ShutdownComplete = ⊤
SaysNothing chunk = ⊥

-- so does what waits to go out
abbrev pub ControlSaysNothing : Control → Type 0
ControlSaysNothing (controls.Packet packet) = SaysNothing packet.chunk
ControlSaysNothing controls.OwnRequest = ⊥

-- Of a side that was lost nothing is left: it is closed, no stream holds anything that came, no reset of a stream is
-- under way, what waits to go out says nothing, and no timer runs.
pub record IsOver (a : Shown) : Type 0 where
  pub lost : a.lost ≡ true
  pub closed : is_closed_state a.state ≡ true
  pub nothing : HoldsNothing a
  pub no_reset : HasNoReset a
  pub says : AllByRecursion ControlSaysNothing a.control
  pub plain : WaitPlainly a
  pub stopped : IsNoneArmed a.timers
