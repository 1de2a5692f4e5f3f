use Rattle.std.proofs.Common.{◌≡◌, fold}
use Rattle.sctp_resets.specs.Channels.{channels, delivered}
use Rattle.sctp_resets.proofs.channels.deliver_each.Given as goal

abbrev pub invariant-loop-piece : goal.invariant-loop-piece
invariant-loop-piece l =
    fold (delivered l.first_message_id l.limit) (channels l.streams l.events l.to_accept.items) l.piece-iterator.rest.items
    ≡ fold (delivered l.first_message_id l.limit) (channels l.fn.streams l.fn.events l.fn.to_accept.items) l.fn.pieces.items
