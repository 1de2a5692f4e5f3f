use Rattle.std.proofs.Common.{◌≡◌, ◌++◌, map, length}
use Rattle.sctp_streams.specs.Streams.{last_stats, without_streams}
use Rattle.sctp_streams.specs.declared.event.Event.TheVariants.{DataChannelStatsFinal}
use Rattle.sctp_assoc.proofs.effects.end_streams.Given as goal

abbrev pub invariant-ending : goal.invariant-ending
invariant-ending l = record {
  left : without_streams l.streams ≡ without_streams l.fn.streams;
  told : l.events ++ map DataChannelStatsFinal (last_stats l.streams)
      ≡ l.fn.events ++ map DataChannelStatsFinal (last_stats l.fn.streams);
}

abbrev pub decreases-ending : goal.decreases-ending
decreases-ending l = length l.streams.by_id
