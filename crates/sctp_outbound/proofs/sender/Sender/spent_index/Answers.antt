use Rattle.std.proofs.Common.{rules, arith, ◌≡◌, ◌∙◌, Some, slice_get, sym}
use Rattle.sctp_outbound.specs.Abandonment.{pass_room}
use Rattle.sctp_outbound.specs.Sender.{asks_again}
use Rattle.sctp_outbound.specs.declared.abandonment.Reached.TheVariants as reached
use Rattle.sctp_outbound.proofs.GivenUp.{pass_step}
use Rattle.sctp_outbound.proofs.Passes.{walks_from, walks_on}
use Rattle.sctp_outbound.proofs.sender.Sender.spent_index.Goals as goal

pub pieces-init : goal.pieces-init
pieces-init c =
    rw c.pass_room-left.ensures
    (walks_from (asks_again c.args.self.now) c.args.by c.args.self.now.queue.in_flight c.args.self.now.queue.first_tsn
    (pass_room c.args.by c.args.self.now) c.next_picked-index.result c.args.looks.now c.next_picked-index.new.looks
    c.next_picked-index.ensures.index c.next_picked-index.ensures.looks)

pub returns-in-Spent-clause-index : goal.returns-in-Spent-clause-index
returns-in-Spent-clause-index c =
    let here : slice_get c.args.self.now.queue.in_flight c.pieces.index ≡ Some c.in-Some.piece.now = search rules in
    sym (pass_step c.args.by c.pieces.index c.pieces.left c.args.self.now.queue.in_flight c.in-Some.piece.now
    reached.Spent here (sym c.in-Spent.is ∙ c.reach.ensures))
    ∙ c.pieces.invariant.index

pub returns-in-Full-clause-index : goal.returns-in-Full-clause-index
returns-in-Full-clause-index c =
    let here : slice_get c.args.self.now.queue.in_flight c.pieces.index ≡ Some c.in-Some.piece.now = search rules in
    sym (pass_step c.args.by c.pieces.index c.pieces.left c.args.self.now.queue.in_flight c.in-Some.piece.now
    reached.Full here (sym c.in-Full.is ∙ c.reach.ensures))
    ∙ c.pieces.invariant.index

pub pieces-preserved : goal.pieces-preserved
pieces-preserved c =
    let here : slice_get c.args.self.now.queue.in_flight c.pieces.index ≡ Some c.in-Some.piece.now = search rules in
    walks_on c.in-Some.piece.now c.next_picked-index-in-pieces.result c.in-On.room
    c.next_picked-index-in-pieces.new.looks c.pieces.invariant here
    (omega (arith, c.pieces-test.true, c.inflight_len-count.ensures))
    (sym (sym c.in-On.is ∙ c.reach.ensures)) c.next_picked-index-in-pieces.ensures.index
    c.next_picked-index-in-pieces.ensures.looks
