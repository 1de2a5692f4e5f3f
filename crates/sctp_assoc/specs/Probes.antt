-- What is sent into a window that the peer closed (RFC 4960 section 6.1, rule A).
use Rattle.std.specs.Prelude.{ℕ, Bool, true, false, ◌&&◌, ◌==◌, length, not}
use Rattle.sctp_wire_types.specs.Config.{is_rfc}
use Rattle.sctp_wire_types.specs.declared.config.Profile.{Profile}
use Rattle.sctp_parts.specs.declared.timer.Timer.TheVariants as names
use Rattle.sctp_parts.specs.Timers.{without_retries}
use Rattle.sctp_outbound_queue.specs.Outbound.{all_marked}
use Rattle.sctp_outbound.specs.declared.congestion.CongestionWindow.{CongestionWindow}
use Rattle.sctp_outbound.specs.declared.sender.Sender.{Sender}
use Rattle.sctp_outbound.specs.Congestion.{timed_out}
use Rattle.sctp_outbound.specs.Sender.{after_t3_timeout, probe_marked}
use Rattle.sctp_assoc.specs.Shown.{Shown}

-- By the rules of the RFCs a piece that is in flight alone is a probe while the peer's window, as its last SACK told
-- it, is closed: a peer without room drops it, so that it is not acknowledged tells nothing of the network.
unfoldable pub is_probing : Profile → Sender → Bool
is_probing profile s = is_rfc profile && s.advertised_window == 0 && length s.queue.in_flight == 1

-- The congestion window once T3-rtx expired: it stays where that was for a probe, and falls to one packet else (RFC
-- 4960 section 7.2.3).
abbrev pub congestion_behind : Bool → Sender → CongestionWindow
congestion_behind true s = s.congestion
congestion_behind false s = timed_out s.mtu s.congestion

-- a probe leaves the sender as it was, and else it is as T3-rtx leaves it
abbrev pub sender_behind : Bool → Sender → Sender
sender_behind true s = s
sender_behind false s = after_t3_timeout s

-- all that is outstanding is to be sent again (RFC 4960 section 6.3.3), which may be a probe
abbrev pub timed_out_by : Bool → Sender → Sender
timed_out_by probing s = record s {
  queue = all_marked s.queue;
  congestion = congestion_behind probing s;
  recovery_exit = (sender_behind probing s).recovery_exit;
  is_fast_due = (sender_behind probing s).is_fast_due;
  is_after_timeout = (sender_behind probing s).is_after_timeout;
  burst_room = (sender_behind probing s).burst_room;
  fresh_tsn = (sender_behind probing s).fresh_tsn;
  is_round_over = (sender_behind probing s).is_round_over;
}

abbrev pub timed_out_sender : Shown → Sender
timed_out_sender a = timed_out_by (is_probing a.profile a.sender) a.sender

-- By the rules of the RFCs a SACK with a window of 0 answers probes: that they are not acknowledged is no failure (RFC
-- 4960 section 6.1, rule A).
unfoldable pub answers_probes : Profile → ℕ → Bool
answers_probes profile window = is_rfc profile && window == 0

-- a SACK with this window opens the one that was probed
unfoldable pub opens_window : Bool → ℕ → Bool
opens_window probing window = probing && not (window == 0)

-- the retries of T3-rtx are forgotten
abbrev pub forgiven_if : Bool → Shown → Shown
forgiven_if true a = record a { timers = without_retries names.T3RTX a.timers }
forgiven_if false a = a

-- what is outstanding is to be sent again
abbrev pub marked_if : Bool → Shown → Shown
marked_if true a = record a { sender = probe_marked a.sender }
marked_if false a = a

-- What a SACK with this window does about probes, where what was in flight before it was one or not: it answers them,
-- or opens the window, and the probe that waits for that goes again.
unfoldable pub probes_answered : Bool → ℕ → Shown → Shown
probes_answered probing window a =
    marked_if (opens_window probing window) (forgiven_if (answers_probes a.profile window) a)
