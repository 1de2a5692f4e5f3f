-- What a poll for packets gives out of the peer's requests is true of the course of a stream of its peer: the packets
-- that waited, the requests that go out from their places among these, and those behind DATA.
use Rattle.std.proofs.Common.{ℕ, Bool, true, false, List, [], ◌∷◌, Option, Some, None, length, ◌==◌, fold}
use Rattle.std.specs.List.{AllByRecursion}
use Rattle.sctp_wire_types.specs.declared.chunk.Chunk.{Chunk}
use Rattle.sctp_wire_types.specs.declared.param.Param.TheVariants as params
use Rattle.sctp_reset_requests.specs.Own.{OwnView, repeated, sent_first}
use Rattle.sctp_courses.specs.Course.{Course}
use Rattle.sctp_assoc.specs.declared.control.Control.{Control}
use Rattle.sctp_assoc.specs.declared.control.Control.TheVariants as controls
use Rattle.sctp_assoc.specs.Shown.{Shown}
use Rattle.sctp_course_sides.specs.Answers.{ChunkIsTrue, ControlIsTrue, IsOfPerformed}
use Rattle.sctp_wire_types.specs.declared.param.ParamOutgoingResetRequest.{ParamOutgoingResetRequest}
use Rattle.std.specs.Prelude.{⊤}
use Rattle.sctp_wire_types.specs.declared.packet.CommonHeader.{CommonHeader}
use Rattle.sctp_inbound.specs.Handshake.{header_of}
use Rattle.sctp_assoc.specs.Gather.{control_polled, data_after, data_polled, repeat_polled, request_made}
use Rattle.sctp_assoc.specs.Gather.{with_control_given, with_request_placed, without_control, listed, packet_bytes}
use Rattle.sctp_assoc.specs.Gather.{request_packet, first_listed, requests_of}
use Rattle.sctp_resets.specs.Resets.{with_own}
use Rattle.sctp_resets.proofs.ListsOver.{all_appended}
use Rattle.sctp_assoc.specs.Resets.{reconfig_of}
use Rattle.sctp_course_sides.proofs.TruthOfRequests.{SaysTruly, sent_first_truly, repeated_truly}
use Rattle.sctp_course_sides.proofs.TruthInPolls.{SpeaksTruly, given_speaks, emptied_speaks, control_speaks}
use Rattle.sctp_course_sides.proofs.TruthInPolls.{again_speaks, made_speaks, data_polled_speaks, data_speaks}

-- What was performed:
module _ (initial : ℕ) (c : Course) where
  -- the response number of a request that goes out is that of one that was performed
  abbrev pub RequestIsTrue : ParamOutgoingResetRequest → Type 0
  RequestIsTrue request = IsOfPerformed initial c request.reconfig_response_sequence_number

  listed_truly : (param : Option ParamOutgoingResetRequest) → SaysTruly (IsOfPerformed initial c) param
      → AllByRecursion RequestIsTrue (listed param)
  listed_truly None t = tt
  listed_truly (Some param) t = (t, tt)

  -- What goes out before DATA

  -- the request that goes out from a place among what waits, if one does
  abbrev pub PlaceIsTrue : Shown → Control → Type 0
  PlaceIsTrue a (controls.Packet packet) = ChunkIsTrue initial c packet.chunk
  PlaceIsTrue a controls.OwnRequest =
      AllByRecursion RequestIsTrue (listed (sent_first a.resets.own a.sender.queue).1)

  -- all of this, as it is given, one behind another
  abbrev pub PlacesAreTrue : List Control → Shown × List (List ℕ) → Type 0
  PlacesAreTrue [] x = ⊤
  PlacesAreTrue (k ∷ ks) x = PlaceIsTrue x.0 k × PlacesAreTrue ks (with_control_given x k)

  place_is_true : (a : Shown) (k : Control) → ControlIsTrue initial c k → SpeaksTruly initial c a → PlaceIsTrue a k
  place_is_true a (controls.Packet packet) t h = t
  place_is_true a controls.OwnRequest t h =
      listed_truly (sent_first a.resets.own a.sender.queue).1
      (sent_first_truly (IsOfPerformed initial c) a.resets.own a.sender.queue h.truth.own).1

  places_are_true : (ks : List Control) (x : Shown × List (List ℕ)) → AllByRecursion (ControlIsTrue initial c) ks
      → SpeaksTruly initial c x.0 → PlacesAreTrue ks x
  places_are_true [] x each h = tt
  places_are_true (k ∷ ks) x each h =
      (place_is_true x.0 k each.0 h, places_are_true ks (with_control_given x k) each.1 (given_speaks initial c x k h))

  pub control_is_true : (a : Shown) → SpeaksTruly initial c a → PlacesAreTrue a.control (without_control a, [])
  control_is_true a h =
      places_are_true a.control (without_control a, []) h.truth.control (emptied_speaks initial c a h)

  -- What is so of all that is spelled of chunks of which that is true, whatever their header:
  module _ (P : List ℕ → Type 0)
      (spells : (header : CommonHeader) (chunk : Chunk) → ChunkIsTrue initial c chunk
      → AllByRecursion P (packet_bytes header chunk)) where
    placed_said : (a : Shown) (packets : List (List ℕ)) (x : OwnView × Option ParamOutgoingResetRequest)
        → SaysTruly (IsOfPerformed initial c) x.1 → AllByRecursion P packets
        → AllByRecursion P (with_request_placed (a, packets) (with_own a.resets x)).1
    placed_said a packets (o, None) t said = said
    placed_said a packets (o, Some request) t said =
        all_appended P packets (request_packet a request) said
        (spells (header_of a.handshake) (reconfig_of (params.OutgoingResetRequest request)) (t, tt))

    one_said : (x : Shown × List (List ℕ)) (k : Control) → ControlIsTrue initial c k → SpeaksTruly initial c x.0
        → AllByRecursion P x.1 → AllByRecursion P (with_control_given x k).1
    one_said (a, packets) (controls.Packet packet) t h said =
        all_appended P packets (packet_bytes packet.header packet.chunk) said (spells packet.header packet.chunk t)
    one_said (a, packets) controls.OwnRequest t h said =
        placed_said a packets (sent_first a.resets.own a.sender.queue)
        (sent_first_truly (IsOfPerformed initial c) a.resets.own a.sender.queue h.truth.own).1 said

    all_said : (ks : List Control) (x : Shown × List (List ℕ)) → AllByRecursion (ControlIsTrue initial c) ks
        → SpeaksTruly initial c x.0 → AllByRecursion P x.1 → AllByRecursion P (fold with_control_given x ks).1
    all_said [] x each h said = said
    all_said (k ∷ ks) x each h said =
        all_said ks (with_control_given x k) each.1 (given_speaks initial c x k h) (one_said x k each.0 h said)

    pub control_said_truly : (a : Shown) → SpeaksTruly initial c a → AllByRecursion P (control_polled a).1
    control_said_truly a h =
        all_said a.control (without_control a, []) h.truth.control (emptied_speaks initial c a h) tt

  -- Requests behind DATA

  first_listed_truly : (none : Bool) (a : Shown) → SpeaksTruly initial c a
      → AllByRecursion RequestIsTrue (first_listed none a)
  first_listed_truly true a h = tt
  first_listed_truly false a h =
      listed_truly (sent_first a.resets.own a.sender.queue).1
      (sent_first_truly (IsOfPerformed initial c) a.resets.own a.sender.queue h.truth.own).1

  pub requests_are_true : (a : Shown) → SpeaksTruly initial c a → AllByRecursion RequestIsTrue (requests_of a)
  requests_are_true a h =
      let b : Shown = request_made (repeat_polled a).0 in
      all_appended RequestIsTrue (listed (repeated a.resets.own).1) (first_listed (length b.control == 0) b)
      (listed_truly (repeated a.resets.own).1 (repeated_truly (IsOfPerformed initial c) a.resets.own h.truth.own).1)
      (first_listed_truly (length b.control == 0) b
      (made_speaks initial c (repeat_polled a).0 (again_speaks initial c a h)))

  -- those that go out in a poll, behind what waited and DATA
  pub polled_requests_are_true : (a : Shown) (now : ℕ) → SpeaksTruly initial c a
      → AllByRecursion RequestIsTrue (requests_of (data_polled (control_polled a).0 now).0)
  polled_requests_are_true a now h =
      let b : Shown = (control_polled a).0 in
      requests_are_true (data_polled b now).0 (data_polled_speaks initial c b now (control_speaks initial c a h))

  pub requests_behind_data_are_true : (a : Shown) (now : ℕ) → SpeaksTruly initial c a
      → AllByRecursion RequestIsTrue (requests_of (data_after (control_polled a).0 now).0)
  requests_behind_data_are_true a now h =
      let b : Shown = (control_polled a).0 in
      requests_are_true (data_after b now).0 (data_speaks initial c b now (control_speaks initial c a h))
