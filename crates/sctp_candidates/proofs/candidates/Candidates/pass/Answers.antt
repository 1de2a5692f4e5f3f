use Rattle.std.proofs.Common.{◌≡◌, ◌+◌, ◌<◌, false, ◌∙◌, ap, arith}
use Rattle.sctp_ranges.specs.Runs.{is_in}
use Rattle.sctp_candidates.specs.Candidates.{Members, is_member}
use Rattle.sctp_candidates.proofs.Members.{within_rest}
use Rattle.sctp_candidates.proofs.candidates.Candidates.pass.Goals as goal

pub invariant_of-self-2 : goal.invariant_of-self-2
invariant_of-self-2 c =
    let inside = c.self-2.inside in
    let first : inside.begun ≡ inside.begun + 0 = omega arith in
    let off : is_in inside.begun inside.row.list ≡ false =
    ap (λ n. is_in n inside.row.list) first ∙ ap (is_member 0) c.self-2.view_is ∙ c.remove.ensures.removed 0 in
    let places = ap (λ (s : Members). s.places) c.self-2.view_is in
    let some : inside.begun < inside.end = omega (arith, c.requires, c.remove.ensures.places, places) in (
      c.self-2.invariant.0,
      within_rest inside.begun inside.end inside.row.list c.self-2.invariant.1 off,
      omega (arith, some),
      c.self-2.invariant.3,
      omega (arith, c.self-2.invariant.4),
      c.self-2.invariant.5,
    )
