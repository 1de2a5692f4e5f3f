-- What a SACK does that is taken (RFC 4960 sections 6.2.1 and 7.2).
use Rattle.std.specs.Prelude.{ℕ, ◌+◌, ◌-◌, ◌^◌, ◌&&◌, ◌||◌, not, Bool, List, Option, drop, length, if◌then◌else◌}
use Rattle.std.specs.Prelude.{fold, is_some, max, min, nat_lt, position}
use Rattle.sctp_serial.specs.Serial.{tsn_past}
use Rattle.sctp_wire_types.specs.Config.{is_rfc}
use Rattle.sctp_wire_types.specs.declared.chunk.GapAckBlock.{GapAckBlock}
use Rattle.sctp_parts.specs.Estimate.{Estimate}
use Rattle.sctp_streams.specs.Streams.{StreamMap}
use Rattle.sctp_received.specs.Received.{is_named}
use Rattle.sctp_outbound_queue.specs.Message.{is_outstanding}
use Rattle.sctp_outbound_queue.specs.declared.message.Reports.{Reports}
use Rattle.sctp_outbound_queue.specs.Outbound.{marked_of, next_tsn_of, outstanding_of}
use Rattle.sctp_outbound.specs.declared.congestion.CongestionWindow.{CongestionWindow}
use Rattle.sctp_outbound.specs.declared.growth.Brought.{Brought}
use Rattle.sctp_outbound.specs.declared.progress.Progress.{Progress}
use Rattle.sctp_outbound.specs.declared.recovery.Heard.{Heard}
use Rattle.sctp_outbound.specs.declared.sender.Sender.{Sender}
use Rattle.sctp_outbound.specs.Congestion.{grown}
use Rattle.sctp_outbound.specs.GapAcks.{acked_among, with_blocks}
use Rattle.sctp_outbound.specs.Recovery.{misses_counted, past_recovery, recovers, reports_by}
use Rattle.sctp_outbound.specs.Progress.{acknowledges_at, any_new_up_to, last_new}
use Rattle.sctp_outbound.specs.Sender.{acknowledged, burst_of, tsns_up_to, with_in_flight, with_window}

-- what a SACK acknowledges that was not acknowledged before
abbrev pub progress_of : Sender → ℕ → List GapAckBlock → Progress
progress_of s cumulative_tsn_ack blocks =
    let count = tsns_up_to s cumulative_tsn_ack in
    let pieces = s.queue.in_flight in record {
      any_new = any_new_up_to count pieces || is_some (last_new (λ j. is_named (j + 1) blocks) 0 (drop count pieces));
      earliest = acknowledges_at count blocks (position is_outstanding pieces);
    }

-- what a SACK brings to a sender
abbrev pub brought_by : Sender → ℕ → List GapAckBlock → Brought
brought_by s cumulative_tsn_ack blocks = record {
  moved = nat_lt 0 (tsns_up_to s cumulative_tsn_ack);
  any_new = (progress_of s cumulative_tsn_ack blocks).any_new;
  any_marked = nat_lt 0 (marked_of s.queue.in_flight);
  before = outstanding_of s.queue.in_flight;
}

-- the bytes that it acknowledged
abbrev pub acked_of : Brought → Sender → ℕ
acked_of b s = b.before - outstanding_of s.queue.in_flight

-- DATA waits to be sent, by the rules of the RFCs also what was marked to be sent again
abbrev pub has_more : Brought → Sender → Bool
has_more b s = nat_lt 0 (length s.queue.pending) || (is_rfc s.profile && b.any_marked)

-- the congestion window grows where the cumulative TSN ack point moved, by the bytes that are outstanding no more
abbrev pub congestion_grown : Brought → Sender → CongestionWindow
congestion_grown b s =
    if b.moved then grown (acked_of b s) (has_more b s) (recovers s) s.mtu s.congestion else s.congestion

-- New DATA may take up four packets beyond what was acknowledged since a poll.
abbrev pub burst_filled : Brought → Sender → ℕ
burst_filled b s = min (max s.burst_room (burst_of s.mtu) + acked_of b s) (2 ^ 64 - 1)

-- what a SACK lets go: the congestion window grows, and with it what new DATA may take up
abbrev pub with_growth : Brought → Sender → Sender
with_growth b s = record s {
  congestion = congestion_grown b s;
  is_after_timeout = s.is_after_timeout && not b.any_new;
  burst_room = burst_filled b s;
}

abbrev pub grown_by : Brought → Sender × Estimate × StreamMap → Sender × Estimate × StreamMap
grown_by b x = (with_growth b x.0, x.1, x.2)

-- the last index of those that its cumulative TSN ack leaves in flight that a SACK newly acknowledges by its blocks
abbrev pub newest_of : Sender → ℕ → List GapAckBlock → Option ℕ
newest_of s cumulative_tsn_ack blocks =
    last_new (λ j. is_named (j + 1) blocks) 0 (drop (tsns_up_to s cumulative_tsn_ack) s.queue.in_flight)

-- How many in flight, of the last ones, were first sent after whatever went again, and once a round trip is over since,
-- a round trip after it.
abbrev pub fresh_of : Sender → ℕ
fresh_of s = tsn_past s.fresh_tsn (next_tsn_of s.queue)

-- of those behind its cumulative TSN ack, the first so many hold all that the blocks of a SACK name
abbrev pub reach_of : List GapAckBlock → ℕ
reach_of blocks = fold (λ n b. max n b.end) 0 blocks

-- what a SACK tells of what is missing
abbrev pub heard_by : Sender → ℕ → List GapAckBlock → Heard
heard_by s cumulative_tsn_ack blocks = record {
  moved = nat_lt 0 (tsns_up_to s cumulative_tsn_ack);
  newest = newest_of s cumulative_tsn_ack blocks;
  fresh = fresh_of s;
  is_round_over = s.is_round_over;
  reach = reach_of blocks;
}

-- what it reports missing of those that its cumulative TSN ack leaves in flight
abbrev pub reports_of : Sender → ℕ → List GapAckBlock → Reports
reports_of s cumulative_tsn_ack blocks =
    let n = tsns_up_to s cumulative_tsn_ack in
    reports_by (heard_by s cumulative_tsn_ack blocks)
    (with_in_flight (past_recovery n s) (acked_among (λ j. is_named (j + 1) blocks) 0 (drop n s.queue.in_flight)))

abbrev pub reported_by : Heard → Sender × Estimate × StreamMap → Sender × Estimate × StreamMap
reported_by h x = (misses_counted h x.0, x.1, x.2)

-- before its cumulative TSN ack acknowledges: the window is the SACK's, and its cumulative TSN ack may end the recovery
-- of a loss
abbrev pub before_acknowledging : ℕ → ℕ → Sender → Sender
before_acknowledging n window s = past_recovery n (with_window s window)

-- sender, estimate and streams once the pieces up to its cumulative TSN ack and those that its gap ack blocks name are
-- acknowledged
abbrev pub all_acknowledged : ℕ → List GapAckBlock → ℕ → ℕ → Sender → Estimate → StreamMap
    → Sender × Estimate × StreamMap
all_acknowledged n blocks window now s e m =
    with_blocks now blocks (acknowledged n now (before_acknowledging n window s, e, m))

-- sender, estimate and streams once a SACK was taken: the pieces up to its cumulative TSN ack and those that its gap
-- ack blocks name are acknowledged, its window is the peer's, the congestion window grows, and what it reports missing
-- is counted
abbrev pub sack_taken : ℕ → List GapAckBlock → ℕ → ℕ → Sender → Estimate → StreamMap → Sender × Estimate × StreamMap
sack_taken cumulative_tsn_ack blocks window now s e m =
    let n = tsns_up_to s cumulative_tsn_ack in
    reported_by (heard_by s cumulative_tsn_ack blocks)
    (grown_by (brought_by s cumulative_tsn_ack blocks) (all_acknowledged n blocks window now s e m))
