-- What a poll gives comes of the course that it leads on, and is honest of the peer's: by what each of its datagrams
-- spells.
use Rattle.std.proofs.Common.{sym, subst, inl, inr, ℕ, ◌<◌, ◌%◌, ◌^◌, arith, Bool, true, false}
use Rattle.std.proofs.Common.{if◌then◌else◌, map, List, [], ◌∷◌, Option, Some, None}
use Rattle.std.specs.List.{AllByRecursion}
use Rattle.std.proofs.lemmas.List.{length-map}
use Rattle.sctp_wire_types.specs.declared.chunk.Chunk.{Chunk}
use Rattle.sctp_wire_types.specs.declared.chunk.Chunk.TheVariants as chunks
use Rattle.sctp_wire_types.specs.declared.chunk.ChunkForwardTsn.{ChunkForwardTsn}
use Rattle.sctp_wire_types.specs.declared.param.Param.{Param}
use Rattle.sctp_wire_types.specs.declared.param.Param.TheVariants as params
use Rattle.sctp_wire_types.specs.declared.param.ParamOutgoingResetRequest.{ParamOutgoingResetRequest}
use Rattle.sctp_wire.specs.declared.packet.Packet.{Packet}
use Rattle.sctp_model.proofs.Lists.{all_get, all_join, all_weaker}
use Rattle.sctp_courses.specs.Course.{Course}
use Rattle.sctp_directions.specs.Acts.{Act, History, all_data_given}
use Rattle.sctp_assoc.specs.declared.control.Control.{Control}
use Rattle.sctp_assoc.specs.declared.control.Control.TheVariants as controls
use Rattle.sctp_assoc.specs.Calls.{exchanges_data, is_established}
use Rattle.sctp_assoc.specs.Gather.{WaitPlainly, control_polled, data_after, polled, requests_of, with_control_given}
use Rattle.sctp_assoc.specs.Gather.{without_control}
use Rattle.sctp_assoc.specs.Happened.{IsOfShutdown, PollsOn, acts_of_poll, forwards_of_poll}
use Rattle.sctp_assoc.specs.Leads.{Binds, parts}
use Rattle.sctp_assoc.specs.Replies.{packet_in}
use Rattle.sctp_assoc.specs.Shown.{Shown}
use Rattle.sctp_sides.specs.SideLaws.{IsExchanged, IsWaitingToGo, OfEachChunk}
use Rattle.sctp_course_sides.specs.Answers.{ChunkIsTrue, ControlIsTrue, IsOfPerformed}
use Rattle.sctp_course_sides.specs.Follows.{ChunkComes, IsAskedIn, IsOfCourse, IsSentUpTo, ParamComes, ParamComesIf}
use Rattle.sctp_course_sides.specs.Honest.{BringsHonest, ChunkNames, IsHonest, ParamNames, ParamNamesIf, RequestNames}
use Rattle.sctp_course_sides.specs.Sends.{AreIdentifiers}
use Rattle.sctp_course_sides.specs.Spelled.{ControlIsBeside, GivesChunk, IsAskedBy, IsBesideStreams, IsNoRequest}
use Rattle.sctp_course_sides.specs.Spelled.{IsNoRequestIf, IsOfAsked, WaitsBeside, carried, control_requests}
use Rattle.sctp_course_sides.specs.Spelled.{requests_behind, requests_in}
use Rattle.sctp_course_sides.proofs.CarriedRequests.{carried_asked, carried_performed}
use Rattle.sctp_course_sides.proofs.PollSpells.{poll_spells}
use Rattle.sctp_course_sides.proofs.SenderPolls.{PollSends}
use Rattle.sctp_course_sides.proofs.TruthInPolls.{SpeaksTruly}
use Rattle.sctp_course_sides.proofs.TruthSaid.{PlacesAreTrue, RequestIsTrue, control_is_true}
use Rattle.sctp_course_sides.proofs.TruthSaid.{requests_behind_data_are_true}

-- what is so of all requests that a poll gives is so of one that it asks
asked_is : (P : ParamOutgoingResetRequest → Type 0) (a : Shown) (now : ℕ) (request : ParamOutgoingResetRequest)
    → AllByRecursion P (control_requests a) → AllByRecursion P (requests_behind a now) → IsAskedBy a now request
    → P request
asked_is P a now request front behind (inl (k, there)) = all_get P (control_requests a) k request there front
asked_is P a now request front behind (inr (k, there)) = all_get P (requests_behind a now) k request there behind

-- What comes of the course

packet_comes : (initial id : ℕ) (c : Course) (Is : Chunk → Type 0)
    → ((chunk : Chunk) → Is chunk → ChunkComes initial id c chunk) → (packet : Option Packet) → OfEachChunk Is packet
    → OfEachChunk (ChunkComes initial id c) packet
packet_comes initial id c Is f None of_each = tt
packet_comes initial id c Is f (Some packet) of_each =
    all_weaker Is (ChunkComes initial id c) packet.chunks f of_each

module _ (initial id : ℕ) (c : Course) where
  no_request_comes : (param : Param) → IsNoRequest param → ParamComes initial id c param
  no_request_comes (params.OutgoingResetRequest request) e = absurd e
  no_request_comes (params.ReconfigResponse response) e = tt
  no_request_comes (params.HeartbeatInfo value) e = tt
  no_request_comes (params.StateCookie value) e = tt
  no_request_comes (params.SupportedExtensions value) e = tt
  no_request_comes (params.Other kind value) e = tt

  no_request_comes_if : (param : Option Param) → IsNoRequestIf param → ParamComesIf initial id c param
  no_request_comes_if None e = tt
  no_request_comes_if (Some param) e = no_request_comes param e

  beside_comes : (chunk : Chunk) → IsBesideStreams chunk → ChunkComes initial id c chunk
  beside_comes (chunks.Data piece) e = absurd e
  beside_comes (chunks.SelectiveAck sack) e = tt
  beside_comes (chunks.Init init) e = tt
  beside_comes (chunks.InitAck init) e = tt
  beside_comes (chunks.Heartbeat heartbeat) e = tt
  beside_comes (chunks.HeartbeatAck heartbeat) e = tt
  beside_comes (chunks.Abort abort) e = tt
  beside_comes (chunks.Shutdown last) e = tt
  beside_comes chunks.ShutdownAck e = tt
  beside_comes (chunks.Error error) e = tt
  beside_comes (chunks.CookieEcho cookie) e = tt
  beside_comes chunks.CookieAck e = tt
  beside_comes chunks.ShutdownComplete e = tt
  beside_comes (chunks.Reconfig reconfig) e =
      (no_request_comes reconfig.first e.0, no_request_comes_if reconfig.second e.1)
  beside_comes (chunks.ForwardTsn forward) e = absurd e
  beside_comes (chunks.IForwardTsn forward) e = absurd e
  beside_comes (chunks.Other kind flags value) e = tt

shutdown_is_beside : (chunk : Chunk) → IsOfShutdown chunk → IsBesideStreams chunk
shutdown_is_beside (chunks.Shutdown last) e = tt
shutdown_is_beside chunks.ShutdownAck e = tt
shutdown_is_beside chunks.ShutdownComplete e = tt
shutdown_is_beside chunk e = absurd e

waiting_is_beside : (a : Shown) (chunk : Chunk) → WaitsBeside a → IsWaitingToGo a chunk → IsBesideStreams chunk
waiting_is_beside a chunk beside (k, c, there, same) =
    subst IsBesideStreams same (all_get ControlIsBeside a.control k (controls.Packet c) there beside)

module _ (initial id now : ℕ) (a : Shown) (h : History) (c : Course) (s : PollSends initial id now a h c) where
  exchanged_comes : (chunk : Chunk)
      → IsExchanged (acts_of_poll a now) (forwards_of_poll a now) a (polled a now).0 h chunk
      → ChunkComes initial id s.after chunk
  exchanged_comes (chunks.Data piece) (k, there) =
      all_get (IsOfCourse initial id s.after) (all_data_given (acts_of_poll a now) (parts a h)) k piece there s.data_is
  exchanged_comes (chunks.SelectiveAck sack) e = tt
  exchanged_comes (chunks.ForwardTsn forward) (gives, same) =
      subst (λ (x : ChunkForwardTsn). IsSentUpTo initial s.after x.new_cumulative_tsn) (sym same) (s.forward_is gives)
  exchanged_comes chunk e = absurd e

  asked_comes : (chunk : Chunk) → IsOfAsked a now chunk → ChunkComes initial id s.after chunk
  asked_comes chunk (request, asks, same) =
      let there : IsAskedIn initial id s.after request =
      asked_is (IsAskedIn initial id s.after) a now request s.first_asked s.then_asked asks in
      let named : RequestNames request = asked_is RequestNames a now request s.first_named s.then_named asks in
      subst (ChunkComes initial id s.after) (sym same) (carried_asked initial id s.after request named.1 there, tt)

  given_comes : WaitsBeside a → (chunk : Chunk) → GivesChunk a now h (polled a now).0 chunk
      → ChunkComes initial id s.after chunk
  given_comes beside chunk (inl waits) =
      beside_comes initial id s.after chunk (waiting_is_beside a chunk beside waits)
  given_comes beside chunk (inr (inl (exchanges, is))) = exchanged_comes chunk is
  given_comes beside chunk (inr (inr (inl asked))) = asked_comes chunk asked
  given_comes beside chunk (inr (inr (inr ends))) =
      beside_comes initial id s.after chunk (shutdown_is_beside chunk ends)

  -- What a poll gives is of the course that it leads on.
  pub poll_comes : Binds a h → WaitPlainly a → WaitsBeside a
      → PollsOn (acts_of_poll a now) (forwards_of_poll a now) a (polled a now).0 (polled a now).1
      → AllByRecursion (λ (bytes : List ℕ). OfEachChunk (ChunkComes initial id s.after) (packet_in bytes))
      (polled a now).1
  poll_comes binds plain beside on =
      let Is : Chunk → Type 0 = GivesChunk a now h (polled a now).0 in
      all_weaker (λ (bytes : List ℕ). OfEachChunk Is (packet_in bytes))
      (λ (bytes : List ℕ). OfEachChunk (ChunkComes initial id s.after) (packet_in bytes)) (polled a now).1
      (λ bytes spelled. packet_comes initial id s.after Is (given_comes beside) (packet_in bytes) spelled)
      (poll_spells a (polled a now).0 now h binds plain on)

-- What is honest of the peer's course

no_request_names : (param : Param) → IsNoRequest param → ParamNames param
no_request_names (params.OutgoingResetRequest request) e = absurd e
no_request_names (params.ReconfigResponse response) e = tt
no_request_names (params.HeartbeatInfo value) e = tt
no_request_names (params.StateCookie value) e = tt
no_request_names (params.SupportedExtensions value) e = tt
no_request_names (params.Other kind value) e = tt

no_request_names_if : (param : Option Param) → IsNoRequestIf param → ParamNamesIf param
no_request_names_if None e = tt
no_request_names_if (Some param) e = no_request_names param e

beside_names : (chunk : Chunk) → IsBesideStreams chunk → ChunkNames chunk
beside_names (chunks.Data piece) e = tt
beside_names (chunks.SelectiveAck sack) e = tt
beside_names (chunks.Init init) e = tt
beside_names (chunks.InitAck init) e = tt
beside_names (chunks.Heartbeat heartbeat) e = tt
beside_names (chunks.HeartbeatAck heartbeat) e = tt
beside_names (chunks.Abort abort) e = tt
beside_names (chunks.Shutdown last) e = tt
beside_names chunks.ShutdownAck e = tt
beside_names (chunks.Error error) e = tt
beside_names (chunks.CookieEcho cookie) e = tt
beside_names chunks.CookieAck e = tt
beside_names chunks.ShutdownComplete e = tt
beside_names (chunks.Reconfig reconfig) e =
    (no_request_names reconfig.first e.0, no_request_names_if reconfig.second e.1)
beside_names (chunks.ForwardTsn forward) e = tt
beside_names (chunks.IForwardTsn forward) e = tt
beside_names (chunks.Other kind flags value) e = tt

-- identifiers are carried in 16 bits
remainder_small : (n : ℕ) → n % 2 ^ 16 < 2 ^ 16
remainder_small n = omega arith

remainders_small : (ids : List ℕ) → AreIdentifiers (map (λ (id : ℕ). id % 2 ^ 16) ids)
remainders_small [] = tt
remainders_small (id ∷ ids) = (remainder_small id, remainders_small ids)

carried_names : (request : ParamOutgoingResetRequest) → RequestNames request → RequestNames (carried request)
carried_names request named = (
  subst (λ (n : ℕ). 0 < n) (sym (length-map request.stream_identifiers (λ (id : ℕ). id % 2 ^ 16))) named.0,
  remainders_small request.stream_identifiers,
)

packet_is_honest : (initial : ℕ) (c : Course) (Is : Chunk → Type 0)
    → ((chunk : Chunk) → Is chunk → IsHonest initial c chunk) → (packet : Option Packet) → OfEachChunk Is packet
    → BringsHonest initial c packet
packet_is_honest initial c Is f None of_each = tt
packet_is_honest initial c Is f (Some packet) of_each =
    all_weaker Is (IsHonest initial c) packet.chunks f of_each

each_if : {X : Type 0} (P : X → Type 0) (b : Bool) (xs : List X) → AllByRecursion P xs
    → AllByRecursion P (if b then xs else [])
each_if P true xs each = each
each_if P false xs each = tt

module _ (peer : ℕ) (coming : Course) where
  shutdown_is_honest : (chunk : Chunk) → IsOfShutdown chunk → IsHonest peer coming chunk
  shutdown_is_honest (chunks.Shutdown last) e = (tt, tt)
  shutdown_is_honest chunks.ShutdownAck e = (tt, tt)
  shutdown_is_honest chunks.ShutdownComplete e = (tt, tt)
  shutdown_is_honest chunk e = absurd e

  exchanged_is_honest : (acts : List Act) (forwards : Bool) (a b : Shown) (h : History) (chunk : Chunk)
      → IsExchanged acts forwards a b h chunk → IsHonest peer coming chunk
  exchanged_is_honest acts forwards a b h (chunks.Data piece) e = (tt, tt)
  exchanged_is_honest acts forwards a b h (chunks.SelectiveAck sack) e = (tt, tt)
  exchanged_is_honest acts forwards a b h (chunks.ForwardTsn forward) e = (tt, tt)
  exchanged_is_honest acts forwards a b h chunk e = absurd e

  -- requests that go out from their places
  places_say : (ks : List Control) (x : Shown × List (List ℕ)) → PlacesAreTrue peer coming ks x
      → AllByRecursion (RequestIsTrue peer coming) (requests_in ks x)
  places_say [] x t = tt
  places_say (controls.Packet packet ∷ ks) x t = places_say ks (with_control_given x (controls.Packet packet)) t.1
  places_say (controls.OwnRequest ∷ ks) x t =
      all_join (RequestIsTrue peer coming) _ (requests_in ks (with_control_given x controls.OwnRequest)) t.0
      (places_say ks (with_control_given x controls.OwnRequest) t.1)

  module _ (a : Shown) (now : ℕ) (h : History) (speaks : SpeaksTruly peer coming a) where
    front_is_true : AllByRecursion (RequestIsTrue peer coming) (control_requests a)
    front_is_true = places_say a.control (without_control a, []) (control_is_true peer coming a speaks)

    behind_is_true : AllByRecursion (RequestIsTrue peer coming) (requests_behind a now)
    behind_is_true =
        let b = (data_after (control_polled a).0 now).0 in
        each_if (RequestIsTrue peer coming) (exchanges_data a.state)
        (if is_established b.state then requests_of b else [])
        (each_if (RequestIsTrue peer coming) (is_established b.state) (requests_of b)
        (requests_behind_data_are_true peer coming a now speaks))

    waiting_is_honest : WaitsBeside a → (chunk : Chunk) → IsWaitingToGo a chunk → IsHonest peer coming chunk
    waiting_is_honest beside chunk (k, p, there, same) = (
      subst (ChunkIsTrue peer coming) same
          (all_get (ControlIsTrue peer coming) a.control k (controls.Packet p) there speaks.truth.control),
      beside_names chunk (waiting_is_beside a chunk beside (k, p, there, same)),
    )

    module _ (named_front : AllByRecursion RequestNames (control_requests a))
        (named_behind : AllByRecursion RequestNames (requests_behind a now))
      where
        asked_is_honest : (chunk : Chunk) → IsOfAsked a now chunk → IsHonest peer coming chunk
        asked_is_honest chunk (request, asks, same) =
            let true_of : IsOfPerformed peer coming request.reconfig_response_sequence_number =
            asked_is (RequestIsTrue peer coming) a now request front_is_true behind_is_true asks in
            let named : RequestNames request = asked_is RequestNames a now request named_front named_behind asks in
            subst (IsHonest peer coming) (sym same) (
              (carried_performed peer coming request.reconfig_response_sequence_number true_of, tt),
              (carried_names request named, tt),
            )

        given_is_honest : WaitsBeside a → (b : Shown) (chunk : Chunk) → GivesChunk a now h b chunk
            → IsHonest peer coming chunk
        given_is_honest beside b chunk (inl waits) = waiting_is_honest beside chunk waits
        given_is_honest beside b chunk (inr (inl (exchanges, is))) =
            exchanged_is_honest (acts_of_poll a now) (forwards_of_poll a now) a b h chunk is
        given_is_honest beside b chunk (inr (inr (inl asked))) = asked_is_honest chunk asked
        given_is_honest beside b chunk (inr (inr (inr ends))) = shutdown_is_honest chunk ends

        given_honestly : Binds a h → WaitPlainly a → WaitsBeside a
            → PollsOn (acts_of_poll a now) (forwards_of_poll a now) a (polled a now).0 (polled a now).1
            → AllByRecursion (λ (bytes : List ℕ). BringsHonest peer coming (packet_in bytes)) (polled a now).1
        given_honestly binds plain beside on =
            let b : Shown = (polled a now).0 in
            let Is : Chunk → Type 0 = GivesChunk a now h b in
            all_weaker (λ (bytes : List ℕ). OfEachChunk Is (packet_in bytes))
            (λ (bytes : List ℕ). BringsHonest peer coming (packet_in bytes)) (polled a now).1
            (λ bytes spelled. packet_is_honest peer coming Is (given_is_honest beside b) (packet_in bytes) spelled)
            (poll_spells a b now h binds plain on)

-- What a poll gives says what is true of the peer's course, and its requests list their streams.
pub poll_is_honest : (initial id peer now : ℕ) (a : Shown) (h : History) (c coming : Course)
    → SpeaksTruly peer coming a → PollSends initial id now a h c → Binds a h → WaitPlainly a → WaitsBeside a
    → PollsOn (acts_of_poll a now) (forwards_of_poll a now) a (polled a now).0 (polled a now).1
    → AllByRecursion (λ (bytes : List ℕ). BringsHonest peer coming (packet_in bytes)) (polled a now).1
poll_is_honest initial id peer now a h c coming speaks s binds plain beside on =
    given_honestly peer coming a now h speaks s.first_named s.then_named binds plain beside on
