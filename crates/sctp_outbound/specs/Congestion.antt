-- The congestion window (RFC 4960 section 7.2). Each sum stays at the greatest number of 32 bits.
use Rattle.std.specs.Prelude.{ℕ, ◌+◌, ◌-◌, ◌*◌, ◌/◌, ◌^◌, ◌&&◌, not, Bool, if◌then◌else◌, min, max, nat_le, nat_lt}
use Rattle.sctp_outbound.specs.declared.congestion.CongestionWindow.{CongestionWindow}

-- the greatest number of 32 bits, where the sum is more
abbrev pub sum_of : ℕ → ℕ → ℕ
sum_of m n = min (m + n) (2 ^ 32 - 1)

-- the window before anything was sent (section 7.2.1); slow start ends at the peer's window
abbrev pub first_congestion : ℕ → ℕ → CongestionWindow
first_congestion mtu window = record {
  cwnd = min (4 * mtu) (max (2 * mtu) 4380);
  ssthresh = window;
  partial_bytes_acked = 0;
}

-- slow start: the window grows by the bytes that came, and by one packet at most (section 7.2.1)
abbrev pub slowly_started : ℕ → ℕ → CongestionWindow → CongestionWindow
slowly_started acked mtu c = record c { cwnd = sum_of c.cwnd (min acked mtu) }

abbrev pub with_more_acked : ℕ → CongestionWindow → CongestionWindow
with_more_acked acked c =
    record c { partial_bytes_acked = sum_of c.partial_bytes_acked (min acked (2 ^ 32 - 1)) }

abbrev pub with_packet_more : ℕ → CongestionWindow → CongestionWindow
with_packet_more mtu c = record c {
  cwnd = sum_of c.cwnd mtu;
  partial_bytes_acked = c.partial_bytes_acked - c.cwnd;
}

-- congestion avoidance: what comes is counted, and once a whole window came while DATA waits the window grows by a
-- packet (section 7.2.2)
abbrev pub avoided : ℕ → Bool → ℕ → CongestionWindow → CongestionWindow
avoided acked waits mtu c =
    if nat_le (with_more_acked acked c).cwnd (with_more_acked acked c).partial_bytes_acked && waits
    then with_packet_more mtu (with_more_acked acked c)
    else with_more_acked acked c

-- the window once a SACK moved the cumulative TSN ack point, with so many outstanding bytes less
abbrev pub grown : ℕ → Bool → Bool → ℕ → CongestionWindow → CongestionWindow
grown acked waits recovers mtu c =
    if nat_lt c.ssthresh c.cwnd then avoided acked waits mtu c else
    if waits && not recovers then slowly_started acked mtu c else c

-- the least slow start threshold after a loss: four packets
abbrev pub least_threshold : ℕ → ℕ
least_threshold mtu = min (mtu * 4) (2 ^ 32 - 1)

-- the retransmission timer expired: half of the window is the threshold, and the window falls to one packet (section
-- 7.2.3)
abbrev pub timed_out : ℕ → CongestionWindow → CongestionWindow
timed_out mtu c = record c {
  cwnd = mtu;
  ssthresh = max (c.cwnd / 2) (least_threshold mtu);
}

-- a loss was found: half of the window is the threshold, and the window falls to it (section 7.2.3)
abbrev pub halved : ℕ → CongestionWindow → CongestionWindow
halved mtu c = record c {
  cwnd = max (c.cwnd / 2) (least_threshold mtu);
  ssthresh = max (c.cwnd / 2) (least_threshold mtu);
  partial_bytes_acked = 0;
}
