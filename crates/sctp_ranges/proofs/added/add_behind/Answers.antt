use Rattle.std.proofs.Common.{◌∙◌, ap, subst, sym, refl}
use Rattle.sctp_ranges.specs.Stored.{Stored}
use Rattle.sctp_ranges.specs.Runs.{IsClear}
use Rattle.sctp_ranges.proofs.Additions.{added_behind, added_between}
use Rattle.sctp_ranges.proofs.added.add_behind.Goals as goal

pub returns-in-Some-clause-added : goal.returns-in-Some-clause-added
returns-in-Some-clause-added c =
    added_between c.args.offset c.args.place.index c.args.before c.in-Some.next c.args.row.now.list c.set.new.self.list
    c.remove_between.new.self.list c.requires.apart c.requires.index c.requires.before
    (sym c.requires.run ∙ c.in-Some.ensures.next.0) c.requires.touch c.in-Some.ensures.next.1
    (ap (λ (s : Stored). s.list) c.set.ensures) (ap (λ (s : Stored). s.list) c.remove_between.ensures)

pub returns-in-None-clause-added : goal.returns-in-None-clause-added
returns-in-None-clause-added c =
    added_behind c.args.offset c.args.place.index c.args.before c.args.row.now.list c.set-in-None.new.self.list
    c.requires.apart c.requires.index c.requires.before c.requires.touch c.ranges.offset.fits
    (subst (IsClear c.args.offset) c.requires.run (c.in-None.ensures.clear refl))
    (ap (λ (s : Stored). s.list) c.set-in-None.ensures)
