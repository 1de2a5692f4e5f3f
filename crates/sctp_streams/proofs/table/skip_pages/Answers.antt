use Rattle.std.proofs.Common.{arith, map}
use Rattle.std.proofs.lemmas.List.Edits.{map_over_more}
use Rattle.std.specs.Option.{option_map}
use Rattle.sctp_streams.specs.Stream.{stream_passed}
use Rattle.sctp_streams.proofs.table.skip_pages.Goals as goal

pub loop-page-preserved : goal.loop-page-preserved
loop-page-preserved c =
    rw (c.skip_unordered.ensures, ← c.page-item.is)
    (map_over_more (map (option_map (stream_passed c.args.tsn))) c.args.pages.now c.loop-page.pages c.loop-page.page-index
    c.page-item.result (omega arith) c.loop-page.invariant c.page-item.is)
