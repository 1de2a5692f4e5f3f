-- What a driver tells of the path to the peer.
use Rattle.std.specs.Prelude.{◌-◌, ◌^◌, min}
use Rattle.sctp_outbound_queue.specs.Outbound.{outstanding_of}
use Rattle.sctp_outbound.specs.Sender.{window_left}
use Rattle.sctp_assoc.specs.Shown.{Shown}
use Rattle.sctp_driver.specs.declared.paths.Path.{Path}

abbrev pub path_of : Shown → Path
path_of a = record {
  mtu = a.sender.mtu;
  congestion_window = a.sender.congestion.cwnd;
  slow_start_threshold = a.sender.congestion.ssthresh;
  peer_window = window_left a.sender;
  bytes_in_flight = outstanding_of a.sender.queue.in_flight;
  smoothed_round_trip_ms = min a.estimate.srtt (2 ^ 64 - 1);
}
