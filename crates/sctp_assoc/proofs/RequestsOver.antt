-- The requests to reset streams that a poll gives are of streams past their span where all that this side asks for is,
-- and what this side asks for stays so.
use Rattle.std.proofs.Common.{ℕ, Bool, true, false, ◌==◌, if◌then◌else◌, fold, length, List, [], ◌∷◌}
use Rattle.std.proofs.Common.{Option, Some, None}
use Rattle.std.specs.List.{AllByRecursion}
use Rattle.sctp_wire_types.specs.declared.param.ParamOutgoingResetRequest.{ParamOutgoingResetRequest}
use Rattle.sctp_reset_requests.specs.Own.{OwnView, asked, repeated, sent_first}
use Rattle.sctp_resets.specs.Resets.{with_asked, with_own}
use Rattle.sctp_resets.specs.Within.{OwnOver, ParamOver, ParamOverIf}
use Rattle.sctp_resets.proofs.ListsOver.{all_appended}
use Rattle.sctp_resets.proofs.OwnOver.{own_asked_over, repeated_over, sent_first_over}
use Rattle.sctp_assoc.specs.declared.control.Control.{Control}
use Rattle.sctp_assoc.specs.declared.control.Control.TheVariants as controls
use Rattle.sctp_assoc.specs.Gather.{control_polled, data_polled, first_listed, listed, repeat_polled, request_made}
use Rattle.sctp_assoc.specs.Gather.{requests_of, with_control_given, with_request_again, with_request_asked}
use Rattle.sctp_assoc.specs.Gather.{with_request_placed, without_control}
use Rattle.sctp_assoc.specs.Shown.{Shown}

-- The streams that are past their span.
module _ (over : ℕ → Bool) where
  listed_over : (request : Option ParamOutgoingResetRequest) → ParamOverIf over request
      → AllByRecursion (ParamOver over) (listed request)
  listed_over None one = tt
  listed_over (Some request) one = (one, tt)

  -- what a step leaves of the requests of this side
  repeat_over : (a : Shown) (own : OwnView) (request : Option ParamOutgoingResetRequest) → OwnOver over own
      → OwnOver over (with_request_again a (with_own a.resets (own, request))).0.resets.own
  repeat_over a own None w = w
  repeat_over a own (Some request) w = w

  made_over : (a : Shown) (own : OwnView) (made : Bool) → OwnOver over own
      → OwnOver over (with_request_asked a (with_asked a.resets (own, made))).resets.own
  made_over a own true w = w
  made_over a own false w = w

  placed_over : (a : Shown) (packets : List (List ℕ)) (own : OwnView) (request : Option ParamOutgoingResetRequest)
      → OwnOver over own → OwnOver over (with_request_placed (a, packets)
      (with_own a.resets (own, request))).0.resets.own
  placed_over a packets own None w = w
  placed_over a packets own (Some request) w = w

  -- the oldest that was never sent
  first_over : (none : Bool) (a : Shown) → OwnOver over a.resets.own
      → AllByRecursion (ParamOver over) (first_listed none a)
  first_over true a w = tt
  first_over false a w =
      listed_over (sent_first a.resets.own a.sender.queue).1 (sent_first_over over a.resets.own a.sender.queue w).1

  -- behind DATA
  requests_over : (a : Shown) → OwnOver over a.resets.own → AllByRecursion (ParamOver over) (requests_of a)
  requests_over a w =
      let again = repeated a.resets.own in
      let went = repeated_over over a.resets.own w in
      let b = (repeat_polled a).0 in
      let made = asked b.resets.own b.sender.queue b.resets.peer in
      let c = request_made b in
      let stays : OwnOver over b.resets.own = repeat_over a again.0 again.1 went.0 in
      let stands : OwnOver over c.resets.own =
      made_over b made.0 made.1 (own_asked_over over b.resets.own b.sender.queue b.resets.peer stays) in
      all_appended (ParamOver over) (listed again.1) (first_listed (length c.control == 0) c)
      (listed_over again.1 went.1) (first_over (length c.control == 0) c stands)

  data_over : (a : Shown) (now : ℕ) → OwnOver over a.resets.own → OwnOver over (data_polled a now).0.resets.own
  unfolding data_polled
  data_over a now w = w

  -- so in a poll of an association with these requests
  pub requested_over : (c : Bool) (b : Shown) (now : ℕ) → OwnOver over b.resets.own
      → AllByRecursion (ParamOver over) (if c then requests_of (data_polled b now).0 else [])
  requested_over true b now w = requests_over (data_polled b now).0 (data_over b now w)
  requested_over false b now w = tt

  -- what waits in front of DATA
  pub given_over : (x : Shown × List (List ℕ)) (c : Control) → OwnOver over x.0.resets.own
      → OwnOver over (with_control_given x c).0.resets.own
  given_over (b, packets) (controls.Packet c) w = w
  given_over (b, packets) controls.OwnRequest w =
      let sent = sent_first b.resets.own b.sender.queue in
      placed_over b packets sent.0 sent.1 (sent_first_over over b.resets.own b.sender.queue w).0

  all_given_over : (cs : List Control) (x : Shown × List (List ℕ)) → OwnOver over x.0.resets.own
      → OwnOver over (fold with_control_given x cs).0.resets.own
  all_given_over [] x w = w
  all_given_over (c ∷ cs) x w = all_given_over cs (with_control_given x c) (given_over x c w)

  pub control_over : (a : Shown) → OwnOver over a.resets.own → OwnOver over (control_polled a).0.resets.own
  control_over a w = all_given_over a.control (without_control a, []) w
