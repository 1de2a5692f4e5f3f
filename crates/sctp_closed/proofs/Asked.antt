-- The requests to reset streams that a poll for packets asks for name none but the streams that resets concern.
use Rattle.std.proofs.Common.{◌≡◌, ℕ, Bool, true, false, ◌==◌, ◌||◌, if◌then◌else◌, length, [], Option, Some, None}
use Rattle.std.specs.List.{AllByRecursion}
use Rattle.std.proofs.lemmas.Bool.{true≢false}
use Rattle.sctp_wire_types.specs.declared.param.ParamOutgoingResetRequest.{ParamOutgoingResetRequest}
use Rattle.sctp_reset_requests.specs.Ids.{has_id}
use Rattle.sctp_reset_requests.specs.Own.{OwnView, asked, repeated, sent_first}
use Rattle.sctp_resets.specs.Resets.{with_asked, with_own}
use Rattle.sctp_resets.specs.Within.{OwnOver, ParamOver, ParamOverIf}
use Rattle.sctp_resets.proofs.ListsOver.{all_appended, not_none_where}
use Rattle.sctp_resets.proofs.OwnOver.{has_over, own_asked_over, repeated_over, sent_first_over}
use Rattle.sctp_assoc.specs.Calls.{is_established}
use Rattle.sctp_assoc.specs.Gather.{data_after, data_polled, first_listed, listed, repeat_polled, request_made}
use Rattle.sctp_assoc.specs.Gather.{requests_of, with_request_again, with_request_asked}
use Rattle.sctp_assoc.specs.Shown.{Shown}
use Rattle.sctp_assoc.proofs.RequestsGiven.{requests_sent}
use Rattle.sctp_closed.specs.Closed.{AsksOnly}

module _ (over : ℕ → Bool) where
  -- a request that names some of these alone asks for no other
  pub asks_only : (request : ParamOutgoingResetRequest) → ParamOver over request → AsksOnly over request
  asks_only request n id named =
      by (length request.stream_identifiers == 0) (not_none_where (length request.stream_identifiers) n.some) named
    where
      by : (none : Bool) → none ≡ false → (none || has_id id request.stream_identifiers) ≡ true → over id ≡ true
      by true e is = absurd (true≢false e)
      by false e is = has_over over id request.stream_identifiers n.each is

  pub listed_over : (request : Option ParamOutgoingResetRequest) → ParamOverIf over request
      → AllByRecursion (ParamOver over) (listed request)
  listed_over None one = tt
  listed_over (Some request) one = (one, tt)

  -- what each step leaves of the requests of this side

  repeat_over : (a : Shown) (own : OwnView) (request : Option ParamOutgoingResetRequest) → OwnOver over own
      → OwnOver over (with_request_again a (with_own a.resets (own, request))).0.resets.own
  repeat_over a own None w = w
  repeat_over a own (Some request) w = w

  made_over : (a : Shown) (own : OwnView) (made : Bool) → OwnOver over own
      → OwnOver over (with_request_asked a (with_asked a.resets (own, made))).resets.own
  made_over a own true w = w
  made_over a own false w = w

  first_over : (none : Bool) (a : Shown) → OwnOver over a.resets.own
      → AllByRecursion (ParamOver over) (first_listed none a)
  first_over true a w = tt
  first_over false a w =
      listed_over (sent_first a.resets.own a.sender.queue).1 (sent_first_over over a.resets.own a.sender.queue w).1

  -- the active request again, and the oldest that was never sent
  requests_over : (a : Shown) → OwnOver over a.resets.own → AllByRecursion (ParamOver over) (requests_of a)
  requests_over a w =
      let again = repeated a.resets.own in
      let went = repeated_over over a.resets.own w in
      let b = (repeat_polled a).0 in
      let made = asked b.resets.own b.sender.queue b.resets.peer in
      let c = request_made b in
      let stays : OwnOver over b.resets.own = repeat_over a again.0 again.1 went.0 in
      let stands : OwnOver over c.resets.own =
      made_over b made.0 made.1 (own_asked_over over b.resets.own b.sender.queue b.resets.peer stays) in
      all_appended (ParamOver over) (listed again.1) (first_listed (length c.control == 0) c)
      (listed_over again.1 went.1) (first_over (length c.control == 0) c stands)

  pub established_over : (established : Bool) (a : Shown) → OwnOver over a.resets.own
      → AllByRecursion (ParamOver over) (if established then requests_of a else [])
  established_over true a w = requests_over a w
  established_over false a w = tt

  -- DATA leaves the requests of this side
  pub behind_data : (a : Shown) (now : ℕ) → OwnOver over a.resets.own → OwnOver over (data_after a now).0.resets.own
  unfolding data_polled
  behind_data a now w = w

  -- so those that go out behind DATA
  pub sent_behind_data_over : (a : Shown) (now : ℕ) → OwnOver over a.resets.own
      → AllByRecursion (ParamOver over) (requests_sent (data_after a now).0)
  sent_behind_data_over a now w =
      established_over (is_established (data_after a now).0.state) (data_after a now).0 (behind_data a now w)
