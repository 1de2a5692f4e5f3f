use Rattle.std.proofs.Common.{◌≡◌, ◌+◌, ◌-◌, ◌^◌, ◌<◌, ◌≤◌, ◌++◌, map, min, take, drop}
use Rattle.sctp_outbound_queue.specs.Message.{flagged}
use Rattle.sctp_outbound_queue.specs.Outbound.{flying_of, marked_of, outstanding_of_message}
use Rattle.sctp_outbound_queue.specs.PieceSets.{AreStanding}
use Rattle.sctp_outbound_queue.proofs.walks.flag_from.Given as goal

abbrev pub invariant-loop-index : goal.invariant-loop-index
invariant-loop-index l = record {
  behind : l.first ≤ l.index;
  flagged : l.pieces.items
      ≡ map (flagged l.message_id) (take l.index l.fn.pieces.items) ++ drop l.index l.fn.pieces.items;
  sets : AreStanding l.sets l.pieces.items;
  bytes : min (l.lost.bytes + outstanding_of_message l.message_id l.pieces.items) (2 ^ 64 - 1)
      ≡ min (outstanding_of_message l.message_id l.fn.pieces.items) (2 ^ 64 - 1);
  most : l.lost.bytes < 2 ^ 64;
  flying : l.lost.flying + flying_of l.pieces.items ≡ flying_of l.fn.pieces.items;
  marks : l.lost.marks + marked_of l.pieces.items ≡ marked_of l.fn.pieces.items;
}
