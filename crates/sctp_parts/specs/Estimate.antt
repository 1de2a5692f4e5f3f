use Rattle.std.specs.Prelude.{ℕ, ◌+◌, ◌-◌, ◌*◌, ◌/◌, ◌^◌, ◌==◌, min, max, Bool, false, if◌then◌else◌}

-- the estimate of the retransmission timeout, times in ms: the smoothed round-trip time, four times its variation with
-- 16 fractional bits, the timeout, whether it is kept as it is, and the initial, least and greatest timeout
pub record Estimate : Type 0 where
  pub srtt : ℕ
  pub four_rttvar : ℕ
  pub rto : ℕ
  pub no_update : Bool
  pub initial : ℕ
  pub least : ℕ
  pub greatest : ℕ

-- the estimate before the first measurement
abbrev pub initial_estimate : ℕ → ℕ → ℕ → Estimate
initial_estimate initial least greatest = record {
  srtt = 0;
  four_rttvar = 0;
  rto = initial;
  no_update = false;
  initial = initial;
  least = least;
  greatest = greatest;
}

-- how far two numbers are apart
abbrev pub distance : ℕ → ℕ → ℕ
distance a b = (a - b) + (b - a)

-- 4 * RTTVAR with 16 fractional bits after a measurement (RFC 4960 section 6.3.1, rules C2 and C3): half of the first
-- one, then three quarters of the old one and a quarter of the distance to the old smoothed time
unfoldable pub next_four_rttvar : ℕ → ℕ → ℕ → ℕ
next_four_rttvar srtt four_rttvar rtt =
    if srtt == 0 then 2 * rtt * 65536 else (6 * four_rttvar + 8 * distance srtt rtt * 65536) / 8

-- the smoothed time after a measurement: the first one, then seven eighths of the old one and an eighth of the new one
unfoldable pub next_srtt : ℕ → ℕ → ℕ
next_srtt srtt rtt = if srtt == 0 then rtt else (7 * srtt + rtt) / 8

-- the timeout (rules C2, C6 and C7)
unfoldable pub rto_of : ℕ → ℕ → ℕ → ℕ → ℕ
rto_of srtt four_rttvar least greatest = min (max (srtt + four_rttvar / 65536) least) greatest

-- the estimate after a measurement
abbrev pub measured : ℕ → Estimate → Estimate
measured rtt e =
    let srtt = next_srtt e.srtt rtt in
    let four_rttvar = min (next_four_rttvar e.srtt e.four_rttvar rtt) (2 ^ 64 - 1) in
    if e.no_update then e else
    record e { srtt = srtt; four_rttvar = four_rttvar; rto = rto_of srtt four_rttvar e.least e.greatest }

-- the estimate that has forgotten its measurements
abbrev pub forgotten : Estimate → Estimate
forgotten e = if e.no_update then e else record e { srtt = 0; four_rttvar = 0; rto = e.initial }
