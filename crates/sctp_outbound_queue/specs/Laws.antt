-- What holds of the queue's calls together.
use Rattle.std.specs.Prelude.{◌≡◌, ℕ, ◌+◌, ◌<◌, List, Bool, true, not, ◌||◌, slice_get, Option, Some, None}
use Rattle.std.specs.List.{list_all}
use Rattle.sctp_outbound_queue.specs.declared.queue.Released.{Released}
use Rattle.sctp_outbound_queue.specs.Message.{is_of}
use Rattle.sctp_outbound_queue.specs.Outbound.{Outbound, waiting_of, outstanding_of, sent_next, without_first}
use Rattle.sctp_outbound_queue.specs.Outbound.{bytes_of_piece, acked_at, abandoned_at}
use Rattle.sctp_outbound_queue.specs.Cut.{IsCut, first_piece, other_pieces}
use Rattle.sctp_outbound_queue.specs.Expiry.{after_expiry, after_tail_expiry}

-- the bytes that wait or are outstanding
abbrev pub bytes_in : Outbound → ℕ
bytes_in q = waiting_of q.pending + outstanding_of q.in_flight

abbrev pub released_bytes : Option Released → ℕ
released_bytes None = 0
released_bytes (Some r) = r.bytes

-- what a call says it released is what waits or is outstanding no more
abbrev pub IsReleased : Outbound → Outbound × Option Released → Type 0
IsReleased q after = bytes_in after.0 + released_bytes after.1 ≡ bytes_in q

-- an acknowledgement answers what is outstanding no more
abbrev pub AcknowledgesBytes : Type 0
AcknowledgesBytes = (q : Outbound) (tsn : ℕ) → bytes_in (acked_at q tsn).0 + (acked_at q tsn).1 ≡ bytes_in q

-- sending moves bytes from those that wait to those that are outstanding
abbrev pub SendsBytes : Type 0
SendsBytes = (q : Outbound) (now : ℕ) → bytes_in (sent_next q now) ≡ bytes_in q

-- a cumulative acknowledgement takes the outstanding bytes of a piece
abbrev pub PopsBytes : Type 0
PopsBytes = (q : Outbound) → bytes_in (without_first q) + bytes_of_piece (slice_get q.in_flight 0) ≡ bytes_in q

abbrev pub AbandonsBytes : Type 0
AbandonsBytes = (q : Outbound) (index : ℕ) → IsReleased q (abandoned_at q index)

abbrev pub ExpiresBytes : Type 0
ExpiresBytes = (q : Outbound) (now : ℕ) → IsReleased q (after_expiry now q)

abbrev pub ExpiresTailBytes : Type 0
ExpiresTailBytes = (q : Outbound) (now : ℕ) → IsReleased q (after_tail_expiry now q)

-- once a message is abandoned, no piece of it in flight is not (RFC 3758 section 3.5)
abbrev pub is_whole : ℕ → Outbound → Bool
is_whole id q = list_all (λ p. not (is_of id p) || p.abandoned) q.in_flight

abbrev pub AbandonsWhole : Type 0
AbandonsWhole =
    (q r : Outbound) (index : ℕ) (a : Released) → abandoned_at q index ≡ (r, Some a)
    → is_whole a.message.message_id r ≡ true

-- the pieces of a message are its bytes, in their order (RFC 4960 section 6.9)
abbrev pub PiecesAreCut : Type 0
PiecesAreCut =
    (size : ℕ) (bytes : List ℕ) → 0 < size → IsCut size bytes (first_piece size bytes) (other_pieces size bytes)
