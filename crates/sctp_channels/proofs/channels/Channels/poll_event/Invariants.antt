use Rattle.std.proofs.Common.{◌≡◌}
use Rattle.channel_table.specs.Tables.{Keeps}
use Rattle.sctp_channels.specs.Turning.{Turning}
use Rattle.sctp_channels.proofs.channels.Channels.poll_event.Given as goal

abbrev pub invariant-loop-silent : goal.invariant-loop-silent
invariant-loop-silent l = record {
  keeps : Keeps l.fn.self.table l.self.table;
  role : l.self.role ≡ l.fn.self.role;
  turned : Turning l._silent l.fn.self l.fn.driver l.self l.driver;
}
