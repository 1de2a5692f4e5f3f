use Rattle.std.proofs.Common.{rules, ◌≡◌, ◌∙◌, Some, None, slice_get, arith}
use Rattle.sctp_streams.proofs.LowMarks.{gathers_nothing}
use Rattle.sctp_outbound.proofs.GapAcks.{acknowledges_one, acknowledges_past}
use Rattle.sctp_outbound.proofs.sender.Sender.acknowledge_at.Goals as goal

pub returns-in-Some-clause-pieces : goal.returns-in-Some-clause-pieces
returns-in-Some-clause-pieces c =
    let here : slice_get c.args.self.now.queue.in_flight c.args.index ≡ Some c.in-Some.piece.now = search rules in
    (acknowledges_one c.args.self.now c.args.streams.now c.args.index c.measure.new.first c.in-Some.piece.now here
    (omega arith) c.requires (omega arith) c.mark_as_acked.ensures).pieces

pub returns-in-Some-clause-released : goal.returns-in-Some-clause-released
returns-in-Some-clause-released c =
    let here : slice_get c.args.self.now.queue.in_flight c.args.index ≡ Some c.in-Some.piece.now = search rules in
    c.release.ensures.released
    ∙ (acknowledges_one c.args.self.now c.args.streams.now c.args.index c.measure.new.first c.in-Some.piece.now here
    (omega arith) c.requires (omega arith) c.mark_as_acked.ensures).released

pub returns-clause-pieces : goal.returns-clause-pieces
returns-clause-pieces c =
    let none : slice_get c.args.self.now.queue.in_flight c.args.index ≡ None = search rules in
    (acknowledges_past c.args.self.now c.args.streams.now c.args.index none).pieces

pub returns-clause-released : goal.returns-clause-released
returns-clause-released c =
    let none : slice_get c.args.self.now.queue.in_flight c.args.index ≡ None = search rules in
    (acknowledges_past c.args.self.now c.args.streams.now c.args.index none).released

pub returns-clause-gathers : goal.returns-clause-gathers
returns-clause-gathers c = gathers_nothing c.args.streams.now c.args.fallen.now

pub returns-in-Some-clause-newest : goal.returns-in-Some-clause-newest
returns-in-Some-clause-newest c =
    let here : slice_get c.args.self.now.queue.in_flight c.args.index ≡ Some c.in-Some.piece.now = search rules in
    c.place_if_new-newest.ensures
    ∙ (acknowledges_one c.args.self.now c.args.streams.now c.args.index c.measure.new.first c.in-Some.piece.now here
    (omega arith) c.requires (omega arith) c.mark_as_acked.ensures).newest

pub returns-clause-newest : goal.returns-clause-newest
returns-clause-newest c =
    let none : slice_get c.args.self.now.queue.in_flight c.args.index ≡ None = search rules in
    (acknowledges_past c.args.self.now c.args.streams.now c.args.index none).newest
