use Rattle.std.proofs.Common.{◌≡◌, ◌+◌, ◌-◌, ◌<◌, length, insert, vec_capacity, ◌∙◌, ap, sym, arith}
use Rattle.sctp_ranges.specs.Stored.{Stored, closed}
use Rattle.sctp_ranges.proofs.Rows.{length_closed, inserted, opened}
use Rattle.sctp_ranges.proofs.row.Row.insert.Goals.{then-self-eq0, else-self-eq0}
use Rattle.sctp_ranges.proofs.row.Row.insert.Goals as goal

pub returns : goal.returns
returns c =
    let inside = c.self.inside in
    let list = ap (λ (s : Stored). s.list) c.self.view_is in
    let room = ap (λ (s : Stored). s.room) c.self.view_is in
    let long = length_closed inside.front inside.gap inside.runs.items c.self.invariant.0 in
    let len = ap length list in
    let now = c.if-self-eq0.self-inside in
    let ready : (closed now.front now.gap now.runs.items ≡ c.args.self.now.list) × (0 < now.gap)
    × (length now.runs.items ≡ length c.args.self.now.list + now.gap) × (vec_capacity now.runs ≡ c.args.self.now.room) =
    elim c.if-self-eq0.branch [
      | then-self-eq0 w ↦
          let before = w.len-len.ensures ∙ inside.runs.ok.0 in
          let after = w.len.ensures ∙ w.open_gap.new.runs.ok.0 in
          let wider = w.open_gap.ensures.more (omega (arith, c.requires.room, len, long, room, w.if-self-eq0.true)) in
          rw w.self-inside-is (
            (λ i. closed (before i) (after i - before i) w.open_gap.new.runs.items)
                ∙ opened inside.front inside.runs.items w.open_gap.new.runs.items w.open_gap.ensures.front
                ∙ ap (λ n. closed inside.front n inside.runs.items) (sym w.if-self-eq0.true) ∙ list,
            omega (arith, wider, before, after),
            omega (arith, wider, before, after, len, long, w.if-self-eq0.true),
            w.open_gap.ensures.capacity ∙ room,
          )
      | else-self-eq0 w ↦ rw w.self-inside-is (list, omega (arith, w.if-self-eq0.false), omega (arith, len, long, c.self.invariant.0), room)
    ] in
    let put =
    inserted c.args.index now.gap c.move_gap.new.runs.items c.args.run ready.1
    (omega (arith, c.requires.index, ready.2, c.move_gap.ensures.len)) in
    λ i. record {
      list = (put ∙ ap (λ xs. insert xs c.args.index c.args.run) (c.move_gap.ensures.same ∙ ready.0)) i;
      room = (c.move_gap.ensures.capacity ∙ ready.3) i;
    }
