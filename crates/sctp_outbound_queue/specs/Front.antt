-- What is known of the pieces in flight from the first one on, and in which order message identifiers stand.
use Rattle.std.specs.Prelude.{ℕ, Bool, false, if◌then◌else◌, List, [], ◌∷◌, ◌++◌, ◌≤◌, map, slice_set}
use Rattle.std.specs.Prelude.{Option, Some, None}
use Rattle.std.specs.List.{position_or_len}
use Rattle.sctp_outbound_queue.specs.declared.front.Front.{Front}
use Rattle.sctp_outbound_queue.specs.declared.message.InFlight.{InFlight}
use Rattle.sctp_outbound_queue.specs.Waiting.{Waiting}
use Rattle.sctp_outbound_queue.specs.Message.{flagged, is_expired_piece}
use Rattle.sctp_outbound_queue.specs.Outbound.{abandoned_in_front_of}

-- the first so many pieces are abandoned; and none of the first so many is, at a moment, of an expired message and not
-- abandoned
abbrev pub IsFront : Front → List InFlight → Type 0
IsFront f pieces =
    (f.abandoned ≤ abandoned_in_front_of pieces) × (f.passed ≤ position_or_len (is_expired_piece f.passed_at) pieces)

-- times began to run, unless each ran already
abbrev pub started_front : Bool → Front → Front
started_front run f = if run then f else record f { passed = 0 }

-- there is one, and it passes
abbrev pub holds_at : {X : Type 0} → (X → Bool) → Option X → Bool
holds_at test None = false
holds_at test (Some x) = test x

-- pieces of which the one at an index is abandoned, if it is one of this message
abbrev pub flagged_at : ℕ → Option InFlight → ℕ → List InFlight → List InFlight
flagged_at id None index pieces = pieces
flagged_at id (Some p) index pieces = slice_set pieces index (flagged id p)

-- from a number on none is less than the one before it
abbrev pub NeverFall : ℕ → List ℕ → Type 0
NeverFall least [] = Unit {0}
NeverFall least (n ∷ ns) = (least ≤ n) × NeverFall n ns

-- the identifiers of the messages of pieces in flight
abbrev pub piece_ids : List InFlight → List ℕ
piece_ids pieces = map (λ p. p.message.message_id) pieces

-- those of messages that wait
abbrev pub waiting_ids : List Waiting → List ℕ
waiting_ids messages = map (λ m. m.message.message_id) messages

-- messages go out in the order in which they were accepted: no identifier is less than one before it, of what is in
-- flight and then of what waits, and none is greater than the next one
abbrev pub AreInOrder : List InFlight → List Waiting → ℕ → Type 0
AreInOrder in_flight pending next = NeverFall 0 (piece_ids in_flight ++ (waiting_ids pending ++ next ∷ []))
