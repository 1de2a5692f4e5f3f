-- The sender of DATA (RFC 4960 sections 6 and 7).
use Rattle.std.specs.Prelude.{ℕ, is_some, zero, suc, not, nat_lt, ◌++◌, slice_set, Bool, true, false, List, []}
use Rattle.std.specs.Prelude.{◌∷◌, ◌+◌, ◌-◌, ◌*◌, ◌/◌, ◌%◌, ◌^◌, ◌==◌, ◌&&◌, ◌||◌, if◌then◌else◌, find, length}
use Rattle.std.specs.Prelude.{max, min, nat_le, slice_get, Option, Some, None}
use Rattle.sctp_serial.specs.Serial.{tsn_past, tsn_gt, tsn_gte}
use Rattle.sctp_wire_types.specs.Config.{is_rfc}
use Rattle.sctp_wire_types.specs.declared.config.Profile.{Profile}
use Rattle.sctp_wire_types.specs.declared.chunk.ChunkPayloadData.{ChunkPayloadData}
use Rattle.sctp_wire_types.specs.declared.chunk.GapAckBlock.{GapAckBlock}
use Rattle.sctp_parts.specs.declared.timer.Timer.TheVariants as names
use Rattle.sctp_parts.specs.Timers.{Timers, with_moment, without_retries, restarted_if_stale, with_stopped}
use Rattle.sctp_parts.specs.Estimate.{Estimate, measured}
use Rattle.sctp_outbound_queue.specs.declared.message.Attributes.{Attributes}
use Rattle.sctp_outbound_queue.specs.declared.message.InFlight.{InFlight}
use Rattle.sctp_outbound_queue.specs.Waiting.{Waiting}
use Rattle.sctp_outbound_queue.specs.Message.{is_outstanding, outstanding_bytes, counted_again, data_length, picks}
use Rattle.sctp_outbound_queue.specs.Message.{room_taken}
use Rattle.sctp_outbound_queue.specs.declared.message.Retransmission.{Retransmission}
use Rattle.sctp_outbound_queue.specs.declared.message.Retransmission.TheVariants as causes
use Rattle.sctp_outbound_queue.specs.Outbound.{empty_outbound, flying_of, tsn_at, next_tsn_of, outstanding_of}
use Rattle.sctp_outbound_queue.specs.Outbound.{without_first}
use Rattle.sctp_outbound_queue.specs.Outbound.{all_marked, marked_of, pieces_waiting, sent_next}
use Rattle.sctp_streams.specs.Streams.{StreamMap, released_in}
use Rattle.sctp_outbound.specs.Congestion.{first_congestion, timed_out}
use Rattle.sctp_outbound.specs.BlockOffsets.{name_unsent}
use Rattle.sctp_outbound.specs.declared.sender.Sender.{Sender}
use Rattle.sctp_outbound.specs.declared.progress.Progress.{Progress}
use Rattle.sctp_outbound.specs.declared.sender.Attempt.{Attempt}
use Rattle.sctp_outbound.specs.declared.sender.Attempt.TheVariants as attempts
use Rattle.sctp_outbound.specs.declared.sender.SackOutcome.{SackOutcome}
use Rattle.sctp_outbound.specs.declared.sender.SackOutcome.TheVariants as outcomes

-- the room of four packets behind their common headers: so much new DATA goes at most beyond what a SACK newly
-- acknowledged (Max.Burst, RFC 4960 section 6.1, rule D)
abbrev pub burst_of : ℕ → ℕ
burst_of mtu = 4 * (mtu - 12)

abbrev pub fresh_sender : Profile → ℕ → ℕ → ℕ → Sender
fresh_sender profile size tsn window = record {
  queue = empty_outbound tsn;
  mtu = size + 28;
  max_payload_size = size;
  congestion = first_congestion (size + 28) window;
  advertised_window = window;
  min_tsn2measure_rtt = tsn;
  recovery_exit = None;
  is_fast_due = false;
  is_forward_due = false;
  profile = profile;
  is_after_timeout = false;
  burst_room = burst_of (size + 28);
  fresh_tsn = tsn;
  is_round_over = false;
}

-- the peer's receive window less the bytes in flight
abbrev pub window_left : Sender → ℕ
window_left s = s.advertised_window - outstanding_of s.queue.in_flight

abbrev pub is_to_resend : Option InFlight → Bool
is_to_resend None = false
is_to_resend (Some p) = p.retransmit

-- this TSN is in flight and marked to be sent again
abbrev pub marks : Sender → ℕ → Bool
marks s tsn = is_to_resend (slice_get s.queue.in_flight (tsn_past s.queue.first_tsn tsn))

-- the TSN before the first one in flight
abbrev pub cumulative_tsn_ack_point_of : Sender → ℕ
cumulative_tsn_ack_point_of s = (s.queue.first_tsn + 2 ^ 32 - 1) % 2 ^ 32

-- how many TSNs a cumulative TSN ack acknowledges
abbrev pub tsns_up_to : Sender → ℕ → ℕ
tsns_up_to s cumulative_tsn_ack = tsn_past (cumulative_tsn_ack_point_of s) cumulative_tsn_ack

-- a piece gives a measurement: it is outstanding, was sent once, and its TSN is not below the one from which on times
-- are measured
abbrev pub is_measured : Sender → ℕ → InFlight → Bool
is_measured s tsn p = is_outstanding p && (p.sent_count == 1) && tsn_gte tsn s.min_tsn2measure_rtt

abbrev pub sender_after : Option InFlight → Sender → Sender
sender_after None s = s
sender_after (Some p) s = record s {
  queue = without_first s.queue;
  min_tsn2measure_rtt = (if is_measured s s.queue.first_tsn p then next_tsn_of s.queue else s.min_tsn2measure_rtt);
}

-- the sender once its first piece in flight is acknowledged
abbrev pub sender_after_first : Sender → Sender
sender_after_first s = sender_after (slice_get s.queue.in_flight 0) s

abbrev pub estimate_after : Option InFlight → Sender → ℕ → Estimate → Estimate
estimate_after None s now e = e
estimate_after (Some p) s now e =
    if is_measured s s.queue.first_tsn p then measured ((now - p.since) / 1000000) e else e

-- the estimate once the first piece in flight is acknowledged (RFC 4960 section 6.3.1)
abbrev pub estimate_after_first : Sender → ℕ → Estimate → Estimate
estimate_after_first s now e = estimate_after (slice_get s.queue.in_flight 0) s now e

abbrev pub streams_after : Option InFlight → StreamMap → StreamMap
streams_after None m = m
streams_after (Some p) m =
    released_in m p.message.stream_identifier p.message.generation (outstanding_bytes p)

-- the streams once the first piece in flight is acknowledged
abbrev pub streams_after_first : Sender → StreamMap → StreamMap
streams_after_first s m = streams_after (slice_get s.queue.in_flight 0) m

-- sender, estimate and streams once the first piece in flight is acknowledged
unfoldable pub after_first : ℕ → Sender × Estimate × StreamMap → Sender × Estimate × StreamMap
after_first now (s, e, m) = (sender_after_first s, estimate_after_first s now e, streams_after_first s m)

-- sender, estimate and streams once the first n pieces in flight are acknowledged, in the order of their TSNs
abbrev pub acknowledged : ℕ → ℕ → Sender × Estimate × StreamMap → Sender × Estimate × StreamMap
acknowledged zero now all = all
acknowledged (suc n) now all = acknowledged n now (after_first now all)

-- the gap ack blocks behind this cumulative TSN ack name a TSN that is not in flight
abbrev pub names_unsent : Sender → ℕ → List GapAckBlock → Bool
names_unsent s cumulative_tsn_ack blocks =
    name_unsent (tsns_up_to s cumulative_tsn_ack) (length s.queue.in_flight) blocks

-- what a SACK with this cumulative TSN ack and these gap ack blocks is to the sender (RFC 4960 section 6.2.1): its
-- cumulative TSN ack is behind the one before it or beyond what is in flight, or its blocks name what is not in flight,
-- or it is taken
abbrev pub sack_outcome : Sender → ℕ → List GapAckBlock → SackOutcome
sack_outcome s cumulative_tsn_ack blocks =
    if tsn_gt (cumulative_tsn_ack_point_of s) cumulative_tsn_ack then outcomes.Older else
    if nat_lt (length s.queue.in_flight) (tsns_up_to s cumulative_tsn_ack) then outcomes.NotInFlight else
    if names_unsent s cumulative_tsn_ack blocks then outcomes.NamesTheUnsent else outcomes.Taken

-- the window that a peer offers first is also where slow start ends
abbrev pub with_first_window : Sender → ℕ → Sender
with_first_window s window = record s {
  advertised_window = window;
  congestion = (let c = s.congestion in record c { ssthresh = window });
}

abbrev pub with_window : Sender → ℕ → Sender
with_window s window = record s { advertised_window = window }

-- T3-rtx expired: all that is outstanding is to be sent again, and the congestion window falls to one packet (RFC 4960
-- sections 6.3.3 and 7.2.3). By the rules of the RFCs that ends the recovery of a loss, and one piece goes until a SACK
-- acknowledges something new.
abbrev pub expired_by : Bool → Sender → Sender
expired_by rfc s = record s {
  queue = all_marked s.queue;
  congestion = timed_out s.mtu s.congestion;
  recovery_exit = (if rfc then None else s.recovery_exit);
  is_fast_due = (if rfc then false else s.is_fast_due);
  is_after_timeout = (if rfc then true else s.is_after_timeout);
  burst_room = (if rfc then burst_of s.mtu else s.burst_room);
  fresh_tsn = next_tsn_of s.queue;
  is_round_over = false;
}

abbrev pub after_t3_timeout : Sender → Sender
after_t3_timeout s = expired_by (is_rfc s.profile) s

-- a probe of a closed window, which is all that is in flight, is to go again
abbrev pub probe_marked : Sender → Sender
probe_marked s = record s {
  queue = all_marked s.queue;
  is_after_timeout = false;
  fresh_tsn = next_tsn_of s.queue;
  is_round_over = false;
}

-- T3-rtx, without retries where a TSN was acknowledged for the first time
abbrev pub t3_forgiven : Bool → Timers → Timers
t3_forgiven any_new t = if any_new then without_retries names.T3RTX t else t

-- T3-rtx, disarmed where the first outstanding TSN was acknowledged
abbrev pub t3_disarmed : Bool → Timers → Timers
t3_disarmed earliest t = if earliest then with_moment names.T3RTX None t else t

abbrev pub t3_cleared : Progress → Timers → Timers
t3_cleared p t = t3_disarmed p.earliest (t3_forgiven p.any_new t)

-- T3-rtx after a SACK (RFC 4960 section 6.3.2): with pieces left in flight it runs, from now on where the first
-- outstanding one was acknowledged; with none left it is stopped
abbrev pub t3_after_sack : Progress → ℕ → ℕ → ℕ → Timers → Timers
t3_after_sack p left now rto t =
    if nat_lt 0 left then restarted_if_stale names.T3RTX now rto (t3_cleared p t) else with_stopped names.T3RTX t

-- a piece of a message, as DATA (RFC 4960 section 3.3.1), which may ask for its SACK at once (RFC 7053)
abbrev pub data_of : Attributes → Bool → Bool → Bool → List ℕ → ℕ → ChunkPayloadData
data_of a begins ends at_once bytes tsn = record {
  unordered = a.unordered;
  beginning_fragment = begins;
  ending_fragment = ends;
  immediate_sack = at_once;
  tsn = tsn;
  stream_identifier = a.stream_identifier;
  stream_sequence_number = a.stream_sequence_number;
  payload_type = a.payload_type;
  user_data = bytes;
}

-- a piece in flight
abbrev pub chunk_of : Bool → InFlight → ℕ → ChunkPayloadData
chunk_of at_once p tsn = data_of p.message p.beginning_fragment p.ending_fragment at_once p.user_data tsn

-- the next piece of a message that waits
abbrev pub next_chunk_of : Bool → Waiting → ℕ → ChunkPayloadData
next_chunk_of at_once m tsn = data_of m.message (not m.begun) (length m.rest == 0) at_once m.user_data tsn

-- By the rules of the RFCs new DATA asks for its SACK at once where the congestion window is below three packets: its
-- sender waits for that SACK, which its receiver would hold back for a second packet (RFC 7053).
abbrev pub asks_at_once : Sender → Bool
asks_at_once s = is_rfc s.profile && nat_lt s.congestion.cwnd (3 * s.mtu)

-- and what goes again does so always: much may wait for that SACK, and nothing may follow that would bring it sooner
abbrev pub asks_again : Sender → Bool
asks_again s = is_rfc s.profile

abbrev pub with_in_flight : Sender → List InFlight → Sender
with_in_flight s pieces = record s { queue = (let q = s.queue in record q { in_flight = pieces }) }

-- the DATA that is sent again for a reason: the pieces that it picks, in the order of their TSNs, as long as they fit
-- together into so many bytes (RFC 4960 sections 6.3.3, rule E3, and 7.2.4)
abbrev pub resent_chunks : Bool → Retransmission → ℕ → ℕ → ℕ → List InFlight → List ChunkPayloadData
resent_chunks at_once k first index room [] = []
resent_chunks at_once k first index room (p ∷ ps) =
    if not (picks k p) then resent_chunks at_once k first (index + 1) room ps else
    if nat_lt room (room_taken k p) then [] else
    chunk_of at_once p (tsn_at first index) ∷
    resent_chunks at_once k first (index + 1) (room - room_taken k p) ps

-- the pieces in flight after that: those that were sent again count one sending more
abbrev pub resent_pieces : Retransmission → ℕ → List InFlight → List InFlight
resent_pieces k room [] = []
resent_pieces k room (p ∷ ps) =
    if not (picks k p) then p ∷ resent_pieces k room ps else
    if nat_lt room (room_taken k p) then p ∷ ps else
    counted_again k p ∷ resent_pieces k (room - room_taken k p) ps

-- the number of marked pieces tells that no piece is left to be sent again for this reason; for fast retransmission
-- no number is kept
abbrev pub none_left : Retransmission → Sender → Bool
none_left causes.Timer s = marked_of s.queue.in_flight == 0
none_left causes.Fast s = false

-- the sender once the piece at an index may have gone again, and what became of it
abbrev pub tried_again : Retransmission → Option InFlight → Sender → ℕ → ℕ → Sender × Attempt
tried_again k None s index room = (s, attempts.Full)
tried_again k (Some p) s index room =
    if not (picks k p) then (s, attempts.Passed) else
    if nat_lt room (room_taken k p) then (s, attempts.Full) else (
      with_in_flight s (slice_set s.queue.in_flight index (counted_again k p)),
      attempts.Sent (room - room_taken k p),
    )

abbrev pub chunks_tried : Retransmission → Option InFlight → Sender → ℕ → ℕ → List ChunkPayloadData
chunks_tried k None s index room = []
chunks_tried k (Some p) s index room =
    if picks k p && not (nat_lt room (room_taken k p)) then
    chunk_of (asks_again s) p (tsn_at s.queue.first_tsn index) ∷ []
    else []

-- this piece is picked and fits into so many bytes
abbrev pub goes_again : Retransmission → Option InFlight → ℕ → Bool
goes_again k None room = false
goes_again k (Some p) room = picks k p && not (nat_lt room (room_taken k p))

abbrev pub alone_length_of : ℕ → Option InFlight → Option ℕ
alone_length_of window None = None
alone_length_of window (Some p) =
    if p.retransmit && nat_lt window (length p.user_data) then Some (length p.user_data) else None

-- the peer's window for a first piece that is sent again: by the rules of the RFCs what is marked takes up none of it
-- (RFC 4960 section 6.2.1, rule C)
abbrev pub resend_window : Sender → ℕ
resend_window s = if is_rfc s.profile then s.advertised_window else window_left s

-- the length of the first piece in flight, where it is marked and the peer's window is too small for it
abbrev pub alone_length : Sender → Option ℕ
alone_length s = alone_length_of (resend_window s) (slice_get s.queue.in_flight 0)

-- the first piece in flight goes alone
abbrev pub resends_alone : Sender → Bool
resends_alone s = is_some (alone_length s)

abbrev pub first_chunk : Bool → ℕ → List InFlight → List ChunkPayloadData
first_chunk at_once first [] = []
first_chunk at_once first (p ∷ ps) = chunk_of at_once p (tsn_at first 0) ∷ []

abbrev pub first_counted : List InFlight → List InFlight
first_counted [] = []
first_counted (p ∷ ps) = counted_again causes.Timer p ∷ ps

abbrev pub length_of : Option InFlight → ℕ
length_of None = 0
length_of (Some p) = length p.user_data

-- the first marked piece, where nothing flies
abbrev pub first_room : Sender → ℕ
first_room s =
    if flying_of s.queue.in_flight == 0 then length_of (find (picks causes.Timer) s.queue.in_flight) else 0

-- By the rules of the RFCs: after T3-rtx expired the first marked piece alone; and once a SACK acknowledged something
-- new what both windows have room for beside what flies (RFC 4960 sections 6.2.1, rule C, 6.3.3, rule E3, and 7.2.3).
abbrev pub room_by_rfcs : Sender → ℕ
room_by_rfcs s =
    if s.is_after_timeout then first_room s else
    min s.congestion.cwnd s.advertised_window - flying_of s.queue.in_flight

-- the bytes of payload that marked DATA may take up: by the rules of the port the lesser of the congestion window and
-- what is left of the peer's window, whatever earlier polls sent again
abbrev pub both_windows : Sender → ℕ
both_windows s = if is_rfc s.profile then room_by_rfcs s else min s.congestion.cwnd (window_left s)

-- the DATA that the timer marked and that goes again: as many bytes of payload as there is room for, or the first piece
-- alone where the peer's window is too small for it (RFC 4960 section 6.1, rule A)
abbrev pub marked_by : Sender → List ChunkPayloadData
marked_by s =
    if resends_alone s then first_chunk (asks_again s) s.queue.first_tsn s.queue.in_flight else
    resent_chunks (asks_again s) causes.Timer s.queue.first_tsn 0 (both_windows s) s.queue.in_flight

abbrev pub after_marked : Sender → Sender
after_marked s =
    with_in_flight s (
    if resends_alone s then first_counted s.queue.in_flight else
    resent_pieces causes.Timer (both_windows s) s.queue.in_flight
    )

abbrev pub room_of : Option InFlight → ℕ
room_of None = 0
room_of (Some p) = room_taken causes.Fast p

-- the room of the one packet of a fast retransmission behind its common header; a piece that is longer goes alone
abbrev pub fast_room : Sender → ℕ
fast_room s = max (s.mtu - 12) (room_of (find (picks causes.Fast) s.queue.in_flight))

-- the DATA of one packet that was reported missing often enough, where that is due; it goes whatever the windows are
-- (RFC 4960 section 7.2.4)
abbrev pub missing_by : Sender → List ChunkPayloadData
missing_by s =
    if s.is_fast_due then resent_chunks (asks_again s) causes.Fast s.queue.first_tsn 0 (fast_room s) s.queue.in_flight
    else []

abbrev pub missing_counted : Sender → List InFlight
missing_counted s =
    if s.is_fast_due then resent_pieces causes.Fast (fast_room s) s.queue.in_flight else s.queue.in_flight

abbrev pub after_missing : Sender → Sender
after_missing s = (let t = with_in_flight s (missing_counted s) in record t { is_fast_due = false })

-- the DATA that a poll sends again: what the timer marked, and then what is missing
abbrev pub resent_by : Sender → List ChunkPayloadData
resent_by s = marked_by s ++ missing_by (after_marked s)

abbrev pub after_resending : Sender → Sender
after_resending s = after_missing (after_marked s)

-- DATA is sent again
abbrev pub resends : Sender → Bool
resends s = nat_lt 0 (length (resent_by s))

-- nothing that T3-rtx had go again is still to be answered
abbrev pub is_past_timeout : Sender → Bool
is_past_timeout s = not s.is_after_timeout || flying_of s.queue.in_flight == 0

-- New DATA goes behind what is sent again: while a piece is marked none does, nor while one flies that T3-rtx had go
-- again; and no more goes than Max.Burst allows (RFC 4960 section 6.1, rules C and D).
abbrev pub allows_new : Sender → Waiting → Bool
allows_new s m =
    is_past_timeout s && marked_of s.queue.in_flight == 0
    && nat_le (data_length (length m.user_data)) s.burst_room

abbrev pub fits_windows : Sender → Option Waiting → Bool
fits_windows s None = false
fits_windows s (Some m) =
    (nat_le (min (outstanding_of s.queue.in_flight + length m.user_data) (2 ^ 64 - 1)) s.congestion.cwnd
    && nat_le (length m.user_data) (window_left s))
    && (not (is_rfc s.profile) || allows_new s m)

-- the next piece that waits is within the congestion window and the peer's window (RFC 4960 section 6.1), and by the
-- rules of the RFCs nothing stands in front of it
abbrev pub can_send_next : Sender → Bool
can_send_next s = fits_windows s (slice_get s.queue.pending 0)

-- the first of the pieces that wait goes out, under the next TSN
unfoldable pub sent_one : List Waiting → Sender → ℕ → Sender × List ChunkPayloadData
sent_one [] s now = (s, [])
sent_one (m ∷ ms) s now = (
  record s {
    queue = sent_next s.queue now;
    burst_room = s.burst_room - data_length (length m.user_data);
  },
  next_chunk_of (asks_at_once s) m (next_tsn_of s.queue) ∷ [],
)

-- of the first n pieces that wait those go out, in the order in which they were accepted, that both windows have room
-- for
abbrev pub sent_within : ℕ → Sender → ℕ → Sender × List ChunkPayloadData
sent_within zero s now = (s, [])
sent_within (suc n) s now =
    if can_send_next s then
    (let one = sent_one s.queue.pending s now in
    let rest = sent_within n one.0 now in (rest.0, one.1 ++ rest.1))
    else (s, [])

-- within both windows, or, with nothing in flight, one piece that probes them (RFC 4960 section 6.1, rules A and B)
abbrev pub sent_probing : Sender → ℕ → Sender × List ChunkPayloadData
sent_probing s now =
    if length s.queue.in_flight == 0 && not (can_send_next s) then sent_one s.queue.pending s now else
    sent_within (pieces_waiting s.queue.pending) s now

-- what a SACK allowed beyond four packets and a poll did not use is gone
abbrev pub with_burst_kept : Sender → Sender
with_burst_kept s = record s { burst_room = min s.burst_room (burst_of s.mtu) }

-- the DATA that a poll sends for the first time
abbrev pub sent_new : Sender → ℕ → Sender × List ChunkPayloadData
sent_new s now = (with_burst_kept (sent_probing s now).0, (sent_probing s now).1)

-- DATA is sent for the first time
abbrev pub sends_new : Sender → ℕ → Bool
sends_new s now = nat_lt 0 (length (sent_new s now).1)

-- a poll gives DATA: some is sent again, or for the first time
abbrev pub gives_data : Sender → ℕ → Bool
gives_data s now = resends s || sends_new (after_resending s) now
