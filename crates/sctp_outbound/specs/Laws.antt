-- What holds of the messages that a sender gives up.
use Rattle.std.specs.Prelude.{◌≡◌, ◌⊎◌, ⊤, ℕ, Bool, false, List, [], ◌∷◌, None}
use Rattle.std.specs.List.{AllByRecursion}
use Rattle.sctp_wire_types.specs.declared.reliability.Policy.TheVariants.{Reliable}
use Rattle.sctp_outbound_queue.specs.declared.message.Attributes.{Attributes}
use Rattle.sctp_outbound_queue.specs.declared.message.InFlight.{InFlight}
use Rattle.sctp_outbound_queue.specs.declared.message.Retransmission.{Retransmission}
use Rattle.sctp_outbound_queue.specs.declared.message.Retransmission.TheVariants as causes
use Rattle.sctp_outbound_queue.specs.Message.{counted_again}
use Rattle.sctp_outbound_queue.specs.Outbound.{Outbound}
use Rattle.sctp_outbound_queue.specs.Waiting.{Waiting}
use Rattle.sctp_streams.specs.Streams.{StreamMap}
use Rattle.sctp_outbound.specs.declared.abandonment.Reason.{Reason}
use Rattle.sctp_outbound.specs.declared.sender.Sender.{Sender}
use Rattle.sctp_outbound.specs.Sender.{after_marked, after_missing}
use Rattle.sctp_outbound.specs.Abandonment.{all_given_up, dropped_by, next_given_up}
use Rattle.sctp_outbound.specs.Abandonment.{expired_by, expires, first_spent, given_up_before, gives_up_before}
use Rattle.sctp_outbound.specs.Abandonment.{is_spent}

-- a message is reliable
abbrev pub IsUnlimited : Attributes → Type 0
IsUnlimited a = a.policy ≡ Reliable

-- so is each that waits or is in flight
abbrev pub HasNoLimit : Outbound → Type 0
HasNoLimit q =
    AllByRecursion (λ (m : Waiting). IsUnlimited m.message) q.pending
    × AllByRecursion (λ (p : InFlight). IsUnlimited p.message) q.in_flight

-- Where no message has a limit nothing is given up, and nothing changes.
abbrev pub UnlimitedStay : Type 0
UnlimitedStay = (s : Sender) (m : StreamMap) → HasNoLimit s.queue
    → ((forward : Bool) (k : Retransmission) → (given_up_before forward k (s, m) ≡ (s, m))
    × (gives_up_before forward k s ≡ false))
    × ((forward : Bool) (now : ℕ) → (expired_by forward now (s, m) ≡ (s, m)) × (expires forward now (s, m) ≡ false)
    × (dropped_by forward now (s, m) ≡ (s, m)))

-- each piece is as it was, or it counts one sending more and was not spent
abbrev pub IsSparing : Retransmission → List InFlight → List InFlight → Type 0
IsSparing k [] [] = ⊤
IsSparing k [] (q ∷ qs) = ⊥
IsSparing k (p ∷ ps) [] = ⊥
IsSparing k (p ∷ ps) (q ∷ qs) = ((q ≡ p) ⊎ ((q ≡ counted_again k p) × (is_spent p ≡ false))) × IsSparing k ps qs

-- Where a pass reaches no spent piece, none of what it sends again is spent: a piece of a message with a number of
-- retransmissions goes again at most so many times.
abbrev pub SpentAreSpared : Type 0
SpentAreSpared = (s : Sender)
    → (first_spent causes.Timer s ≡ None → IsSparing causes.Timer s.queue.in_flight (after_marked s).queue.in_flight)
    × (first_spent causes.Fast s ≡ None → IsSparing causes.Fast s.queue.in_flight (after_missing s).queue.in_flight)

-- Once all that is given up for a reason is abandoned, nothing more is given up for it: no expired piece in flight
-- stays that is not abandoned, and no pass reaches a spent one.
abbrev pub NoneIsLeft : Type 0
NoneIsLeft =
    (why : Reason) (s : Sender) (m : StreamMap) → next_given_up why (all_given_up why (s, m)).0 ≡ None
