use Rattle.std.proofs.Common.{◌≡◌, ◌++◌, map, take, drop}
use Rattle.std.specs.Option.{option_map}
use Rattle.sctp_streams.specs.Stream.{stream_passed}
use Rattle.sctp_streams.proofs.table.skip_pages.Given as goal

abbrev pub invariant-loop-page : goal.invariant-loop-page
invariant-loop-page l =
    l.pages ≡ map (map (option_map (stream_passed l.tsn))) (take l.page-index l.fn.pages) ++ drop l.page-index l.fn.pages
