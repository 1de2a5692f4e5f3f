-- What a side holds of a message that it wrote, once it polled for packets.
use Rattle.std.specs.Prelude.{◌≡◌, ◌⊎◌, ℕ, true}
use Rattle.sctp_assoc.specs.Shown.{Shown}
use Rattle.sctp_sides.specs.Laws.{IsDroppedAt, is_held}

-- of the message of this number something waits or is in flight in b, or a poll of a at this moment dropped it: its
-- lifetime was over before any of it was sent (RFC 3758 section 3.5)
abbrev pub IsHeldOrDropped : Shown → ℕ → Shown → ℕ → Type 0
IsHeldOrDropped a now b number = (is_held b.sender.queue number ≡ true) ⊎ IsDroppedAt a now number
