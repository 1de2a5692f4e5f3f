use Rattle.std.proofs.Common.{◌∙◌}
use Rattle.sctp_received.proofs.Pushed.{place_told}
use Rattle.sctp_received.proofs.ranges.Ranges.contains.Goals as goal

pub returns-clause-held : goal.returns-clause-held
returns-clause-held c =
    c.is_begun.ensures ∙
    place_told c.args.self.now c.args.tsn c.offset-offset.result c.locate-place.result.run c.offset-offset.ensures
    c.locate-place.ensures.base c.ranges.tsn.fits c.locate-place.ensures.apart c.locate-place.ensures.run
