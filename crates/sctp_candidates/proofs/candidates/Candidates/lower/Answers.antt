use Rattle.std.proofs.Common.{◌≡◌, ◌+◌, ◌-◌, ◌∙◌, ap, sym, subst, arith}
use Rattle.sctp_ranges.specs.Runs.{AreApart, is_in}
use Rattle.sctp_ranges.proofs.Parts.{apart_from}
use Rattle.sctp_candidates.specs.Candidates.{is_member}
use Rattle.sctp_candidates.proofs.LessNumbers.{begin_within, lowered_apart, lowered_in, lowered_within}
use Rattle.sctp_candidates.proofs.candidates.Candidates.lower.Goals as goal

pub lower_all-requires : goal.lower_all-requires
lower_all-requires c =
    begin_within c.self.inside.begun c.self.inside.end 0 c.self.inside.row.list
    c.self.invariant.0 c.self.invariant.1

pub invariant_of-self : goal.invariant_of-self
invariant_of-self c =
    let inside = c.self.inside in
    let from =
    begin_within inside.begun inside.end 0 inside.row.list c.self.invariant.0 c.self.invariant.1 in
    let apart = lowered_apart inside.begun 0 inside.row.list c.self.invariant.0 from in
    let list = c.lower_all.ensures.list in (
      subst (AreApart 0) (sym list) (apart_from 0 (0 - inside.begun) _ (omega arith) apart),
      λ n is.
          lowered_within inside.begun inside.end inside.row.list from c.self.invariant.1 n (
          sym (ap (is_in n) list) ∙ is
          ),
      omega arith,
      omega (arith, c.self.invariant.3),
      omega (arith, c.self.invariant.4, c.lower_all.ensures.room),
      omega (arith, c.self.invariant.5),
    )

pub returns-clause-same : goal.returns-clause-same
returns-clause-same c =
    let inside = c.self.inside in
    let from =
    begin_within inside.begun inside.end 0 inside.row.list c.self.invariant.0 c.self.invariant.1 in
    λ i.
    let same : 0 + i ≡ i = omega arith in
    ap (is_in (0 + i)) c.lower_all.ensures.list ∙ ap (λ n. is_in n _) same ∙
    lowered_in inside.begun i inside.row.list from ∙ ap (is_member i) c.self.view_is
