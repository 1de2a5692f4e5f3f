use Rattle.std.proofs.Common.{length, slice_set, ◌∙◌, ap, arith}
use Rattle.sctp_ranges.specs.Stored.{Stored}
use Rattle.sctp_ranges.proofs.Rows.{length_closed, set_in_front, set_behind}
use Rattle.sctp_ranges.proofs.row.Row.set.Goals.{then-index-self, else-index-self}
use Rattle.sctp_ranges.proofs.row.Row.set.Goals as goal

pub returns : goal.returns
returns c =
    let inside = c.self.inside in
    let list = ap (λ (s : Stored). s.list) c.self.view_is in
    let room = ap (λ (s : Stored). s.room) c.self.view_is in
    let long = length_closed inside.front inside.gap inside.runs.items c.self.invariant.0 in
    let len = ap length list in
    elim c.if-index-self.branch [
      | then-index-self w ↦ rw w.self-inside-is (λ i. record {
        list = (
            set_in_front inside.front inside.gap inside.runs.items c.args.index c.args.run w.if-index-self.true c.self.invariant.0
            ∙ ap (λ xs. slice_set xs c.args.index c.args.run) list
            ) i;
        room = room i;
      })
      | else-index-self w ↦ rw w.self-inside-is (λ i. record {
        list = (
            set_behind inside.front inside.gap inside.runs.items c.args.index c.args.run
            (omega (arith, w.if-index-self.false)) (omega (arith, c.requires, len, long, c.self.invariant.0))
            ∙ ap (λ xs. slice_set xs c.args.index c.args.run) list
            ) i;
        room = room i;
      })
    ]
