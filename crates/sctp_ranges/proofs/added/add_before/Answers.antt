use Rattle.std.proofs.Common.{◌∙◌, ap, subst, sym, refl}
use Rattle.sctp_ranges.specs.Stored.{Stored}
use Rattle.sctp_ranges.specs.Runs.{IsClear}
use Rattle.sctp_ranges.proofs.Additions.{added_before, added_alone}
use Rattle.sctp_ranges.proofs.added.add_before.Goals as goal

pub returns-in-Some-clause-added : goal.returns-in-Some-clause-added
returns-in-Some-clause-added c =
    added_before c.args.offset c.args.place.index c.in-Some.next c.args.row.now.list c.set.new.self.list
    c.requires.apart (sym c.requires.run ∙ c.in-Some.ensures.next.0) c.requires.begins c.in-Some.ensures.next.1
    (ap (λ (s : Stored). s.list) c.set.ensures)

pub returns-in-None-clause-added : goal.returns-in-None-clause-added
returns-in-None-clause-added c =
    added_alone c.args.offset c.args.place.index c.args.row.now.list c.insert.new.self.list c.requires.apart
    c.requires.index c.requires.begins c.ranges.offset.fits
    (subst (IsClear c.args.offset) c.requires.run (c.in-None.ensures.clear refl))
    (ap (λ (s : Stored). s.list) c.insert.ensures)
