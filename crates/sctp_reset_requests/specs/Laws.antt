-- What holds of requests over all that can happen to them.
use Rattle.std.specs.Prelude.{◌≡◌, ℕ, true, false, ◌+◌, ◌<◌, ◌≤◌, ◌^◌, ◌==◌, ◌||◌, ⊤, List, [], ◌∷◌, ◌++◌, length, Option}
use Rattle.std.specs.Prelude.{Some, None, is_some}
use Rattle.sctp_serial.specs.Serial.{tsn}
use Rattle.sctp_wire_types.specs.declared.param.ReconfigResult.TheVariants as results
use Rattle.sctp_outbound_queue.specs.Outbound.{Outbound, has_stream}
use Rattle.sctp_wire_types.specs.declared.param.ParamOutgoingResetRequest.{ParamOutgoingResetRequest}
use Rattle.sctp_reset_requests.specs.Ids.{has_id}
use Rattle.sctp_reset_requests.specs.Request.{PeerRequestView, names, request_of}
use Rattle.sctp_reset_requests.specs.Peer.{PeerView, advanced, arrived, is_current, number_before}
use Rattle.sctp_reset_requests.specs.Own.{OwnView, asked, resets, sent_first}
use Rattle.sctp_reset_requests.specs.declared.answer.Arrival.TheVariants as arrivals
use Rattle.sctp_reset_requests.specs.declared.own_request.OwnRequest.{OwnRequest}

-- a request of the peer is for the streams that it lists, and for all where it lists none (RFC 6525 section 4.1)
abbrev pub NamesAreThoseListed : Type 0
NamesAreThoseListed =
    (p : ParamOutgoingResetRequest) (id : ℕ)
    → names (request_of p) id ≡ ((length p.stream_identifiers == 0) || has_id id p.stream_identifiers)

-- What happens to the peer's requests: one comes, or the last TSN in order moves, to this one.
pub data PeerEvent : Type 0 where
  Comes : PeerRequestView → ℕ → PeerEvent
  Moves : ℕ → PeerEvent

abbrev pub after : PeerView → PeerEvent → PeerView
after p (Comes r cumulative_tsn) = (arrived p r cumulative_tsn).0
after p (Moves cumulative_tsn) = (advanced p cumulative_tsn).0

abbrev pub after_all : PeerView → List PeerEvent → PeerView
after_all p [] = p
after_all p (e ∷ es) = after_all (after p e) es

abbrev pub HasNumber : Option PeerRequestView → ℕ → Type 0
HasNumber None number = ⊤
HasNumber (Some r) number = r.number ≡ number

-- the first n requests of the peer are completed, and one in progress is the next; its numbers begin with the first one
pub record IsCompletedUpTo (first n : ℕ) (p : PeerView) : Type 0 where
  pub last : p.last_completed ≡ Some (number_before (tsn first n))
  pub current : HasNumber p.in_progress (tsn first n)

-- whatever comes, requests that are completed stay so
abbrev pub CompletedStayCompleted : Type 0
CompletedStayCompleted =
    (first n : ℕ) (p : PeerView) (es : List PeerEvent) → IsCompletedUpTo first n p
    → (m : ℕ) × (n ≤ m) × (m ≤ n + length es) × IsCompletedUpTo first m (after_all p es)

-- a repeat of a completed request, within half the range of numbers, is answered as performed and resets nothing
abbrev pub CompletedAreKnown : Type 0
CompletedAreKnown =
    (first n k : ℕ) (p : PeerView) (r : PeerRequestView) (cumulative_tsn : ℕ) → IsCompletedUpTo first n p → k < n
    → n < k + 2 ^ 31 → r.number ≡ tsn first k
    → arrived p r cumulative_tsn ≡ (p, arrivals.Answered results.SuccessPerformed)

-- a request was queued whose response number is that of the peer's last completed request, and so none of the peer's
-- that is in progress
abbrev pub NamesTheCompleted : PeerView → OwnView → OwnView → Type 0
NamesTheCompleted p before after =
    (r : OwnRequest) × (after.queued ≡ before.queued ++ r ∷ []) × (p.last_completed ≡ Some r.response_number)
    × (is_current p.in_progress r.response_number ≡ false)

-- What this side asks for on its own ends no request of the peer that is in progress (RFC 6525 section 5.1.2): its
-- response number names the last one that was completed.
abbrev pub AskedEndsNone : Type 0
AskedEndsNone =
    (first n : ℕ) (o : OwnView) (q : Outbound) (p : PeerView) → IsCompletedUpTo first n p → (asked o q p).1 ≡ true
    → NamesTheCompleted p o (asked o q p).0

-- while a request is active none goes out for the first time
abbrev pub OneIsActive : Type 0
OneIsActive = (o : OwnView) (q : Outbound) → is_some o.active ≡ true → sent_first o q ≡ (o, None)

-- nor is one made
abbrev pub OneIsOpen : Type 0
OneIsOpen = (o : OwnView) (q : Outbound) (p : PeerView) → is_some o.active ≡ true → asked o q p ≡ (o, false)

-- a request does not go out for the first time while DATA of a stream that it resets waits or is unacknowledged
abbrev pub DataHoldsBack : Type 0
DataHoldsBack =
    (o : OwnView) (q : Outbound) (r : OwnRequest) (rs : List OwnRequest) (id : ℕ) → o.queued ≡ r ∷ rs
    → resets id r ≡ true → has_stream q id ≡ true → sent_first o q ≡ (o, None)
