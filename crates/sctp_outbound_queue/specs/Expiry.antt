-- Messages whose time is over (RFC 3758 section 3.5).
use Rattle.std.specs.Prelude.{ℕ, Bool, List, [], ◌∷◌, ◌&&◌, not, if◌then◌else◌, map, find, position, Option, Some, None}
use Rattle.std.specs.Option.{option_map}
use Rattle.std.specs.List.{list_any}
use Rattle.sctp_outbound_queue.specs.declared.message.InFlight.{InFlight}
use Rattle.sctp_outbound_queue.specs.declared.queue.Released.{Released}
use Rattle.sctp_outbound_queue.specs.Waiting.{Waiting}
use Rattle.sctp_outbound_queue.specs.Message.{message_bytes, is_of, waiting_started, sent_started, is_expired}
use Rattle.sctp_outbound_queue.specs.Message.{is_expired_unsent, moved_down}
use Rattle.sctp_outbound_queue.specs.Outbound.{Outbound, tsn_at, tail_dropped, released}

-- the time of each message that has one runs
abbrev pub all_started : ℕ → Outbound → Outbound
all_started now q = record q {
  pending = map (waiting_started now) q.pending;
  in_flight = map (sent_started now) q.in_flight;
}

-- the TSN of the first piece in flight that passes
abbrev pub first_tsn_that : (InFlight → Bool) → Outbound → Option ℕ
first_tsn_that test q = option_map (tsn_at q.first_tsn) (position test q.in_flight)

-- the messages that wait without the first expired one of which nothing was sent, whose SSN goes to the next one
abbrev pub without_expired : ℕ → List Waiting → List Waiting
without_expired now [] = []
without_expired now (m ∷ ms) =
    if is_expired_unsent now m then map (moved_down m.message) ms else m ∷ without_expired now ms

-- that message, and its bytes
abbrev pub expired_in : ℕ → List Waiting → Option Released
expired_in now ms = option_map (λ m. released m.message (message_bytes m)) (find (is_expired_unsent now) ms)

abbrev pub after_expiry : ℕ → Outbound → Outbound × Option Released
after_expiry now q = (record q { pending = without_expired now q.pending }, expired_in now q.pending)

-- an expired message of which a part was sent, and none of that part is in flight
abbrev pub is_expired_tail : ℕ → Waiting → List InFlight → Bool
is_expired_tail now m pieces =
    m.begun && is_expired now m.message && not (list_any (is_of m.message.message_id) pieces)

abbrev pub after_tail_expiry_of : List Waiting → Outbound → ℕ → Outbound × Option Released
after_tail_expiry_of [] q now = (q, None)
after_tail_expiry_of (m ∷ ms) q now =
    if is_expired_tail now m q.in_flight then
    ((tail_dropped q m.message.message_id).0, Some (released m.message (tail_dropped q m.message.message_id).1))
    else (q, None)

-- the unsent pieces of such a message are abandoned
abbrev pub after_tail_expiry : ℕ → Outbound → Outbound × Option Released
after_tail_expiry now q = after_tail_expiry_of q.pending q now
