use Rattle.std.proofs.Common.{◌≡◌, ◌-◌, ◌≤◌, ◌++◌, map, take, drop}
use Rattle.std.specs.List.{list_any}
use Rattle.sctp_outbound_queue.specs.Message.{is_last_report, reported_missing}
use Rattle.sctp_outbound_queue.specs.PieceSets.{AreStanding}
use Rattle.sctp_outbound_queue.proofs.walks.report_missing.Given as goal

abbrev pub invariant-pieces : goal.invariant-pieces
invariant-pieces l = record {
  counted : l.pieces.items
      ≡ map (reported_missing l.fn.reports) (take l.index l.fn.pieces.items) ++ drop l.index l.fn.pieces.items;
  last : l.any_last ≡ list_any (is_last_report l.fn.reports) (take l.index l.fn.pieces.items);
  sets : AreStanding l.sets l.pieces.items;
  within : l.index ≤ l.end;
}

abbrev pub decreases-pieces : goal.decreases-pieces
decreases-pieces l = l.end - l.index
