-- What an association counted, and what is known of its path, as C gets it.
use Rattle.sctp_parts.specs.Stats.{Counts}
use Rattle.sctp_driver.specs.declared.paths.Path.{Path}
use Rattle.sctp_c.specs.declared.path.PathValues.{PathValues}
use Rattle.sctp_c.specs.declared.stats.Totals.{Totals}

abbrev pub totals_of : Counts → Totals
totals_of c = record {
  data_chunks = c.datas;
  sacks = c.sacks;
  retransmission_timeouts = c.t3timeouts;
  ack_timeouts = c.ack_timeouts;
  fast_retransmissions = c.fast_retrans;
}

abbrev pub path_values : Path → PathValues
path_values p = record {
  mtu = p.mtu;
  congestion_window = p.congestion_window;
  slow_start_threshold = p.slow_start_threshold;
  peer_window = p.peer_window;
  bytes_in_flight = p.bytes_in_flight;
  smoothed_round_trip_ms = p.smoothed_round_trip_ms;
}
