use Rattle.std.proofs.Common.{length, take, drop, ◌++◌, ◌∙◌, ap, arith}
use Rattle.sctp_ranges.specs.Stored.{Stored}
use Rattle.sctp_ranges.proofs.Rows.{length_closed, removed}
use Rattle.sctp_ranges.proofs.row.Row.remove_between.Goals as goal

pub returns : goal.returns
returns c =
    let inside = c.self.inside in
    let list = ap (λ (s : Stored). s.list) c.self.view_is in
    let room = ap (λ (s : Stored). s.room) c.self.view_is in
    let long = length_closed inside.front inside.gap inside.runs.items c.self.invariant.0 in
    let len = ap length list in
    let nearest = c.min-nearest.result in
    let gone =
    removed nearest inside.gap c.move_gap.new.runs.items c.args.start c.args.end
    (omega (arith, c.max.ensures, c.min-nearest.ensures, c.requires.start))
    (omega (arith, c.max.ensures, c.min-nearest.ensures, c.requires.start))
    (omega (arith, c.requires.end, len, long, c.self.invariant.0, c.move_gap.ensures.len)) in
    let same = c.move_gap.ensures.same ∙ list in
    λ i. record {
      list = (gone ∙ ap (λ xs. take c.args.start xs ++ drop c.args.end xs) same) i;
      room = (c.move_gap.ensures.capacity ∙ room) i;
    }
