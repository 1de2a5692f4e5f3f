-- Reports that TSNs are missing, and the recovery of a loss (RFC 4960 section 7.2.4).
use Rattle.std.specs.Prelude.{ℕ, ◌-◌, ◌&&◌, ◌||◌, ◌==◌, not, Bool, false, length, if◌then◌else◌, is_some, nat_le}
use Rattle.std.specs.Prelude.{nat_lt, take, Option, Some, None}
use Rattle.std.specs.List.{list_any}
use Rattle.sctp_serial.specs.Serial.{tsn_past}
use Rattle.sctp_wire_types.specs.Config.{is_rfc}
use Rattle.sctp_outbound_queue.specs.declared.message.Among.{Among}
use Rattle.sctp_outbound_queue.specs.declared.message.Among.TheVariants as amongs
use Rattle.sctp_outbound_queue.specs.declared.message.Reports.{Reports}
use Rattle.sctp_outbound_queue.specs.Message.{is_last_report}
use Rattle.sctp_outbound_queue.specs.Outbound.{Outbound, any_missing, marked_of, next_tsn_of, outstanding_of, tsn_at}
use Rattle.sctp_outbound_queue.specs.Outbound.{with_missing}
use Rattle.sctp_outbound.specs.declared.recovery.Heard.{Heard}
use Rattle.sctp_outbound.specs.declared.sender.Sender.{Sender}
use Rattle.sctp_outbound.specs.Congestion.{halved}

-- a loss is recovered from
abbrev pub recovers : Sender → Bool
recovers s = is_some s.recovery_exit

abbrev pub is_left : Option ℕ → ℕ → ℕ → Bool
is_left None first count = false
is_left (Some exit) first count = nat_lt (tsn_past first exit) count

-- Before the first n in flight are acknowledged cumulatively: a loss is recovered from once the TSN at which that ends
-- is one of those.
abbrev pub past_recovery : ℕ → Sender → Sender
past_recovery n s =
    record s { recovery_exit = (if is_left s.recovery_exit s.queue.first_tsn n then None else s.recovery_exit) }

-- those in flight in front of the last one that a SACK newly acknowledges by its blocks
abbrev pub in_front_of : Option ℕ → ℕ
in_front_of None = 0
in_front_of (Some last) = last

-- How many of the first in flight a SACK reports missing: those in front of the highest TSN that it newly acknowledges.
-- While a loss is recovered from, and it moved the cumulative TSN ack point, it is all up to the last that it names (RFC
-- 4960 section 7.2.4); by the rules of the port it is all in flight then, and none where the point stays.
abbrev pub missing_of : Heard → Sender → ℕ
missing_of h s =
    if not (recovers s) then in_front_of h.newest else
    if is_rfc s.profile then (if h.moved then h.reach else in_front_of h.newest) else
    if h.moved then length s.queue.in_flight else 0

abbrev pub is_among_last : Option ℕ → ℕ → ℕ → Bool
is_among_last None fresh count = false
is_among_last (Some last) fresh count = nat_le (count - last) fresh

-- A SACK newly acknowledges what was first sent after whatever went again: a round trip is over since then.
abbrev pub ends_round : Heard → Sender → Bool
ends_round h s = is_among_last h.newest h.fresh (length s.queue.in_flight)

-- A SACK newly acknowledges what was first sent a round trip after whatever went again. What was only overtaken has
-- come by then.
abbrev pub acknowledges_fresh : Heard → Sender → Bool
acknowledges_fresh h s = h.is_round_over && ends_round h s

-- Which of them it counts for. By the rules of the RFCs these fly; and it tells of one that was sent again only where it
-- newly acknowledges what was first sent a round trip later.
abbrev pub among_of : Heard → Sender → Among
among_of h s =
    if not (is_rfc s.profile) then amongs.Outstanding else
    if acknowledges_fresh h s then amongs.Flying else amongs.NotResent

-- no report can come any more: nothing waits, the last in flight is acknowledged, and what is outstanding is no more
-- than a packet holds (RFC 5827)
abbrev pub is_short : Heard → Sender → Bool
is_short h s =
    not (nat_lt 0 (length s.queue.pending))
    && (nat_le (length s.queue.in_flight) h.reach && nat_le (outstanding_of s.queue.in_flight) s.max_payload_size)

-- how many reports have a piece go again: three, and by the rules of the RFCs one where no more can come
abbrev pub enough_of : Heard → Sender → ℕ
enough_of h s = if is_rfc s.profile && is_short h s then 1 else 3

-- what a SACK reports missing
abbrev pub reports_by : Heard → Sender → Reports
reports_by h s = record { count = missing_of h s; among = among_of h s; enough = enough_of h s }

-- Fast retransmission goes on as long as pieces are to go again by it, and none that T3-rtx marked is. While a loss is
-- recovered from, it does with a SACK that moves the cumulative TSN ack point, or that newly acknowledges what was first
-- sent a round trip after whatever went again.
abbrev pub goes_on : Heard → Sender → Outbound → Bool
goes_on h s q =
    (h.moved || not (recovers s) || acknowledges_fresh h s) && (marked_of q.in_flight == 0 && any_missing q)

-- a piece is to go again: by the rules of the port, where it is reported often enough by this SACK
abbrev pub is_lost : Heard → Sender → Bool
is_lost h s =
    let r = reports_by h s in
    if is_rfc s.profile then goes_on h s (with_missing r s.queue) else
    list_any (is_last_report r) (take r.count s.queue.in_flight)

-- that is a loss to recover from, unless one is recovered from
abbrev pub finds_loss : Heard → Sender → Bool
finds_loss h s = is_lost h s && not (recovers s)

-- fast retransmission is due; by the rules of the port, while a loss is recovered from, where the cumulative TSN ack
-- point moved
abbrev pub is_made_due : Heard → Sender → Bool
is_made_due h s =
    if is_rfc s.profile then is_lost h s else
    if recovers s then h.moved else is_lost h s

-- The TSN that ends the recovery of a loss: the highest that is outstanding (RFC 4960 section 7.2.4). By the rules of
-- the port it is the highest that the SACK newly acknowledged.
abbrev pub exit_of : Reports → Sender → ℕ
exit_of r s =
    if is_rfc s.profile then tsn_at s.queue.first_tsn (length s.queue.in_flight - 1) else
    tsn_at s.queue.first_tsn r.count

-- a SACK that reports nothing missing, where nothing that is missing is to go again
abbrev pub tells_nothing : Heard → Sender → Bool
tells_nothing h s = not (is_some h.newest) && not (recovers s) && not (any_missing s.queue)

-- What is sent next for the first time is sent after what is due to go again now, or, where a round trip is over, a
-- round trip after what went again at last.
abbrev pub with_round : Bool → Bool → ℕ → Sender → Sender
with_round due ends next s = record s {
  fresh_tsn = (if due || (ends && not s.is_round_over) then next else s.fresh_tsn);
  is_round_over = not due && (s.is_round_over || ends);
}

-- What a SACK reports missing was counted. Where that finds a loss the congestion window falls.
abbrev pub misses_counted : Heard → Sender → Sender
misses_counted h s =
    let r = reports_by h s in with_round (is_made_due h s) (ends_round h s) (next_tsn_of s.queue) (record s {
      queue = with_missing r s.queue;
      congestion = (if finds_loss h s then halved s.mtu s.congestion else s.congestion);
      recovery_exit = (if finds_loss h s then Some (exit_of r s) else s.recovery_exit);
      is_fast_due = s.is_fast_due || is_made_due h s;
    })
