-- What came from the peer and when it is acknowledged (RFC 4960 section 6.2).
use Rattle.std.specs.Prelude.{ℕ, Bool, true, false, List, [], ◌+◌, ◌-◌, ◌%◌, ◌^◌, ◌&&◌, ◌||◌, if◌then◌else◌, nat_lt}
use Rattle.sctp_wire_types.specs.declared.chunk.ChunkSelectiveAck.{ChunkSelectiveAck}
use Rattle.sctp_parts.specs.declared.state.AckState.{AckState}
use Rattle.sctp_parts.specs.declared.state.AckState.TheVariants as states
use Rattle.sctp_parts.specs.declared.timer.Timer.TheVariants as names
use Rattle.sctp_parts.specs.Timers.{Timers, started, with_stopped}
use Rattle.sctp_received.specs.Received.{gap_ack_blocks, is_new}
use Rattle.sctp_inbound.specs.Held.{has_gap, held_after, held_past, is_admitted}
use Rattle.sctp_serial.specs.Serial.{tsn_lte}
use Rattle.sctp_inbound.specs.declared.receiver.Receiver.{Receiver}
use Rattle.sctp_inbound.specs.declared.receiver.AckTrigger.{AckTrigger}
use Rattle.sctp_inbound.specs.declared.receiver.AckTrigger.TheVariants as triggers

-- nothing came; this many bytes may wait for their reader, and a message may be so long
abbrev pub fresh_receiver : ℕ → ℕ → ℕ → Receiver
fresh_receiver size limit peer_last_tsn = record {
  peer_last_tsn = peer_last_tsn;
  held = [];
  ack_state = states.Idle;
  buffer_size = size;
  max_receive_message_size = limit;
}

-- the peer's initial TSN is known, and nothing came from there on
abbrev pub receiver_from : Receiver → ℕ → Receiver
receiver_from r initial_tsn = record r { peer_last_tsn = (initial_tsn + 2 ^ 32 - 1) % 2 ^ 32; held = [] }

-- DATA with this TSN, a number of 32 bits, did not come yet
abbrev pub is_new_to : Receiver → ℕ → Bool
is_new_to r tsn = nat_lt tsn (2 ^ 32) && is_new r.held tsn r.peer_last_tsn

abbrev pub moved_to : Receiver → ℕ × List ℕ → Receiver
moved_to r moved = record r { peer_last_tsn = moved.0; held = moved.1 }

-- the last TSN in order, and what is held past it
abbrev pub past_of : Receiver → ℕ × List ℕ
past_of r = (r.peer_last_tsn, r.held)

-- a new TSN came: it is held, and the last TSN in order moves over all that follow it one after another
abbrev pub taken_to : Receiver → ℕ → Receiver
taken_to r tsn = moved_to r (held_after r.held r.peer_last_tsn tsn)

-- a TSN is at or behind the last one that came or was skipped (RFC 1982)
abbrev pub is_behind : Receiver → ℕ → Bool
is_behind r tsn = tsn_lte tsn r.peer_last_tsn

-- a FORWARD TSN passed over all up to a TSN (RFC 3758 section 3.6)
abbrev pub passed_to : Receiver → ℕ → Receiver
passed_to r tsn = moved_to r (held_past r.held tsn)

abbrev pub is_immediate : AckTrigger → Bool
is_immediate triggers.None = false
is_immediate triggers.Delayed = false
is_immediate triggers.Immediate = true

-- an acknowledgement waits already
abbrev pub is_waiting : AckState → Bool
is_waiting states.Idle = false
is_waiting states.Immediate = true
is_waiting states.Delay = true

-- a packet is acknowledged at once where a chunk of it asks so, there is a gap, or a packet before it waits for its
-- acknowledgement
abbrev pub asked : Receiver → AckTrigger → Bool → AckTrigger
asked r trigger immediate =
    if (immediate || has_gap r.held) || is_immediate trigger || is_waiting r.ack_state then triggers.Immediate else
    triggers.Delayed

abbrev pub ended_packet : Receiver → AckTrigger → Receiver
ended_packet r triggers.None = r
ended_packet r triggers.Delayed = record r { ack_state = states.Delay }
ended_packet r triggers.Immediate = record r { ack_state = states.Immediate }

-- a delayed acknowledgement is due after 200 ms, an immediate one with the next packets
abbrev pub ended_packet_timers : Timers → AckTrigger → ℕ → Timers
ended_packet_timers t triggers.None now = t
ended_packet_timers t triggers.Delayed now = started names.Ack now 200 t
ended_packet_timers t triggers.Immediate now = with_stopped names.Ack t

abbrev pub acknowledged_at_once : Receiver → Receiver
acknowledged_at_once r = record r { ack_state = states.Immediate }

-- the bytes that may still come while some wait
abbrev pub credit_of : Receiver → ℕ → ℕ
credit_of r waiting = r.buffer_size - waiting

-- DATA is taken in while bytes may come, and without that where it fills a gap below a TSN that is held
abbrev pub admits : Receiver → ℕ → ℕ → Bool
admits r tsn waiting = is_admitted r.held r.peer_last_tsn tsn (credit_of r waiting)

abbrev pub acknowledged : Receiver → Receiver
acknowledged r = record r { ack_state = states.Idle }

-- the acknowledgement that says what came up to the last TSN in order and past it (RFC 4960 section 3.3.4)
abbrev pub sack_of : Receiver → ℕ → ChunkSelectiveAck
sack_of r waiting = record {
  cumulative_tsn_ack = r.peer_last_tsn;
  advertised_receiver_window_credit = credit_of r waiting;
  gap_ack_blocks = gap_ack_blocks r.peer_last_tsn r.held;
  duplicate_tsn = [];
}
