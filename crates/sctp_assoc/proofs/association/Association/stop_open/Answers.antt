use Rattle.std.proofs.Common.{refl, ◌∙◌, sym}
use Rattle.sctp_resets.specs.Resets.{Beside}
use Rattle.sctp_assoc.proofs.RetiringStopped.{stopped_on}
use Rattle.sctp_assoc.proofs.association.Association.stop_open.Goals as goal

pub returns-then-is_retiring : goal.returns-then-is_retiring
returns-then-is_retiring c =
    let left : Beside = (c.stop_reading.new.self, c.stop_reading.new.streams, c.stop_reading.new.events) in
    record {
      exact =
          stopped_on c.stop_reading.result _ c.args.self.now _ c.args.id c.close_read_half.new.self left
          c.self.view_is refl c.close_read_half.ensures (sym c.is_retiring.ensures ∙ c.if-is_retiring.true)
          c.stop_reading.ensures;
    }
