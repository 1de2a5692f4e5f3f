-- What a side gives out, as it is read: requests to reset streams name none but these streams.
use Rattle.std.proofs.Common.{◌≡◌, sym, ap, ◌∙◌, subst, ◌⊎◌, inl, inr, ℕ, ◌<◌, ◌%◌, ◌^◌, arith, Bool, true, false}
use Rattle.std.proofs.Common.{if◌then◌else◌, fold, length, map, take, drop, List, [], ◌∷◌, Option, Some, None}
use Rattle.std.specs.List.{AllByRecursion}
use Rattle.std.proofs.lemmas.Bool.{true≢false}
use Rattle.std.proofs.lemmas.List.{take-append-drop}
use Rattle.sctp_wire_types.specs.declared.chunk.Chunk.{Chunk}
use Rattle.sctp_wire_types.specs.declared.chunk.Chunk.TheVariants as chunks
use Rattle.sctp_wire_types.specs.declared.chunk.ChunkReconfig.{ChunkReconfig}
use Rattle.sctp_wire_types.specs.declared.param.Param.{Param}
use Rattle.sctp_wire_types.specs.declared.param.Param.TheVariants as params
use Rattle.sctp_wire_types.specs.declared.param.ParamOutgoingResetRequest.{ParamOutgoingResetRequest}
use Rattle.sctp_wire.specs.declared.packet.Packet.{Packet}
use Rattle.sctp_model.proofs.Lists.{all_front, all_get, all_join, all_weaker}
use Rattle.sctp_reset_requests.specs.Own.{OwnView, sent_first}
use Rattle.sctp_resets.specs.Resets.{with_own}
use Rattle.sctp_resets.specs.Within.{OwnOver, ParamOver}
use Rattle.sctp_resets.proofs.ListsOver.{all_appended, to_images}
use Rattle.sctp_resets.proofs.OwnOver.{sent_first_over}
use Rattle.sctp_directions.specs.Acts.{History}
use Rattle.sctp_assoc.specs.declared.control.Control.{Control}
use Rattle.sctp_assoc.specs.declared.control.Control.TheVariants as controls
use Rattle.sctp_assoc.specs.declared.call.Reply.{Reply}
use Rattle.sctp_assoc.specs.declared.call.Reply.TheVariants as replies
use Rattle.sctp_assoc.specs.Calls.{exchanges_data, is_established}
use Rattle.sctp_assoc.specs.Gather.{WaitPlainly, control_polled, data_after, polled, requests_of, with_control_given}
use Rattle.sctp_assoc.specs.Gather.{with_request_placed, without_control}
use Rattle.sctp_assoc.specs.Happened.{IsOfShutdown, PollsOn, acts_of_poll, forwards_of_poll}
use Rattle.sctp_assoc.specs.Leads.{Binds}
use Rattle.sctp_assoc.specs.Replies.{GivesOut, packet_in}
use Rattle.sctp_assoc.specs.Shown.{Shown}
use Rattle.sctp_sides.specs.PastSpan.{ParamIsPast, ParamIsPastIf, ResetsPastIfAny, ResetsPastOnly, WaitsPast}
use Rattle.sctp_sides.specs.SideLaws.{IsExchanged, OfEachChunk}
use Rattle.sctp_course_sides.specs.Over.{IsOver, SaysNothing}
use Rattle.sctp_course_sides.specs.Spelled.{GivesChunk, IsAskedBy, carried, control_requests, request_in}
use Rattle.sctp_course_sides.specs.Spelled.{requests_behind, requests_in}
use Rattle.sctp_course_sides.proofs.OverSides.{over_says}
use Rattle.sctp_course_sides.proofs.PollSpells.{poll_spells}
use Rattle.sctp_closed.proofs.Asked.{behind_data, established_over, listed_over}
use Rattle.sctp_closed.proofs.InChunks.{ChunkIsOver, ParamIsOver, ParamIsOverIf}
use Rattle.sctp_closed.proofs.InPackets.{PacketIsOver}

-- a datagram, as it is read, names none but these streams in its requests
abbrev pub DatagramIsOver : (ℕ → Bool) → List ℕ → Type 0
DatagramIsOver over bytes = PacketIsOver over (packet_in bytes)

-- What is known of a side that polls: it failed, it was lost and nothing of it is left, or it stands on a history, and
-- what waits is read as what it is.
abbrev pub IsReady : Shown → Type 0
IsReady a = (a.failed ≡ true) ⊎ (IsOver a ⊎ ((h : History) × Binds a h × WaitPlainly a))

-- as many of a list as of what they are mapped to
some_image : (f : ℕ → ℕ) (ids : List ℕ) → 0 < length ids → 0 < length (map f ids)
some_image f [] some = some
some_image f (id ∷ ids) some = omega arith

-- The streams, which have identifiers of 16 bits.
module _ (over : ℕ → Bool) (small : (id : ℕ) → over id ≡ true → id < 2 ^ 16) where
  -- Requests of this side

  same_number : (id : ℕ) → id < 2 ^ 16 → id % 2 ^ 16 ≡ id
  same_number id l = omega arith

  carried_id : (id : ℕ) → over id ≡ true → over (id % 2 ^ 16) ≡ true
  carried_id id one = ap over (same_number id (small id one)) ∙ one

  -- as they are carried
  carried_over : (request : ParamOutgoingResetRequest) → ParamOver over request → ParamOver over (carried request)
  carried_over request n = record {
    some = some_image (λ (id : ℕ). id % 2 ^ 16) request.stream_identifiers n.some;
    each =
        to_images (λ (id : ℕ). over id ≡ true) (λ (id : ℕ). id % 2 ^ 16) request.stream_identifiers
        (all_weaker (λ (id : ℕ). over id ≡ true) (λ (id : ℕ). over (id % 2 ^ 16) ≡ true) request.stream_identifiers
        carried_id n.each);
  }

  placed_over : (b : Shown) (packets : List (List ℕ)) (own : OwnView) (request : Option ParamOutgoingResetRequest)
      → OwnOver over own
      → OwnOver over (with_request_placed (b, packets) (with_own b.resets (own, request))).0.resets.own
  placed_over b packets own None w = w
  placed_over b packets own (Some request) w = w

  given_over : (x : Shown × List (List ℕ)) (c : Control) → OwnOver over x.0.resets.own
      → OwnOver over (with_control_given x c).0.resets.own
  given_over (b, packets) (controls.Packet c) w = w
  given_over (b, packets) controls.OwnRequest w =
      let sent = sent_first b.resets.own b.sender.queue in
      placed_over b packets sent.0 sent.1 (sent_first_over over b.resets.own b.sender.queue w).0

  one_asked : (x : Shown × List (List ℕ)) (c : Control) → OwnOver over x.0.resets.own
      → AllByRecursion (ParamOver over) (request_in x.0 c)
  one_asked (b, packets) (controls.Packet c) w = tt
  one_asked (b, packets) controls.OwnRequest w =
      listed_over over (sent_first b.resets.own b.sender.queue).1
      (sent_first_over over b.resets.own b.sender.queue w).1

  -- what waits gives requests, one behind another, and leaves others
  all_asked : (cs : List Control) (x : Shown × List (List ℕ)) → OwnOver over x.0.resets.own
      → AllByRecursion (ParamOver over) (requests_in cs x)
  all_asked [] x w = tt
  all_asked (c ∷ cs) x w =
      all_appended (ParamOver over) (request_in x.0 c) (requests_in cs (with_control_given x c)) (one_asked x c w)
      (all_asked cs (with_control_given x c) (given_over x c w))

  all_left : (cs : List Control) (x : Shown × List (List ℕ)) → OwnOver over x.0.resets.own
      → OwnOver over (fold with_control_given x cs).0.resets.own
  all_left [] x w = w
  all_left (c ∷ cs) x w = all_left cs (with_control_given x c) (given_over x c w)

  behind_over_if : (exchanges established : Bool) (b : Shown) → OwnOver over b.resets.own
      → AllByRecursion (ParamOver over)
      (if exchanges then (if established then requests_of b else []) else [])
  behind_over_if true established b w = established_over over established b w
  behind_over_if false established b w = tt

  behind_over : (a : Shown) (now : ℕ) → OwnOver over a.resets.own
      → AllByRecursion (ParamOver over) (requests_behind a now)
  behind_over a now w =
      let b : Shown = (data_after (control_polled a).0 now).0 in
      behind_over_if (exchanges_data a.state) (is_established b.state) b
      (behind_data over (control_polled a).0 now (all_left a.control (without_control a, []) w))

  asked_over : (a : Shown) (now : ℕ) → OwnOver over a.resets.own → (request : ParamOutgoingResetRequest)
      → IsAskedBy a now request → ParamOver over request
  asked_over a now w request (inl (k, there)) =
      all_get (ParamOver over) (control_requests a) k request there (all_asked a.control (without_control a, []) w)
  asked_over a now w request (inr (k, there)) =
      all_get (ParamOver over) (requests_behind a now) k request there (behind_over a now w)

  -- Chunks

  param_as_read : (param : Param) → ParamIsPast over param → ParamIsOver over param
  param_as_read (params.OutgoingResetRequest request) past = past
  param_as_read (params.ReconfigResponse response) past = tt
  param_as_read (params.HeartbeatInfo information) past = tt
  param_as_read (params.StateCookie cookie) past = tt
  param_as_read (params.SupportedExtensions kinds) past = tt
  param_as_read (params.Other kind value) past = tt

  param_as_read_if : (param : Option Param) → ParamIsPastIf over param → ParamIsOverIf over param
  param_as_read_if None past = tt
  param_as_read_if (Some param) past = param_as_read param past

  chunk_as_read : (c : Chunk) → ResetsPastIfAny over c → ChunkIsOver over c
  chunk_as_read (chunks.Reconfig x) past = (param_as_read x.first past.0, param_as_read_if x.second past.1)
  chunk_as_read (chunks.Data x) past = tt
  chunk_as_read (chunks.Init x) past = tt
  chunk_as_read (chunks.InitAck x) past = tt
  chunk_as_read (chunks.SelectiveAck x) past = tt
  chunk_as_read (chunks.Heartbeat x) past = tt
  chunk_as_read (chunks.HeartbeatAck x) past = tt
  chunk_as_read (chunks.Abort x) past = tt
  chunk_as_read (chunks.Shutdown x) past = tt
  chunk_as_read chunks.ShutdownAck past = tt
  chunk_as_read (chunks.Error x) past = tt
  chunk_as_read (chunks.CookieEcho x) past = tt
  chunk_as_read chunks.CookieAck past = tt
  chunk_as_read chunks.ShutdownComplete past = tt
  chunk_as_read (chunks.ForwardTsn x) past = tt
  chunk_as_read (chunks.IForwardTsn x) past = tt
  chunk_as_read (chunks.Other kind flags value) past = tt

  -- a chunk that is no RE-CONFIG
  module _ (P : Chunk → Type 0) (none : (x : ChunkReconfig) → P (chunks.Reconfig x) → ⊥) where
    no_reconfig_over : (c : Chunk) → P c → ChunkIsOver over c
    no_reconfig_over (chunks.Reconfig x) h = absurd (none x h)
    no_reconfig_over (chunks.Data x) h = tt
    no_reconfig_over (chunks.Init x) h = tt
    no_reconfig_over (chunks.InitAck x) h = tt
    no_reconfig_over (chunks.SelectiveAck x) h = tt
    no_reconfig_over (chunks.Heartbeat x) h = tt
    no_reconfig_over (chunks.HeartbeatAck x) h = tt
    no_reconfig_over (chunks.Abort x) h = tt
    no_reconfig_over (chunks.Shutdown x) h = tt
    no_reconfig_over chunks.ShutdownAck h = tt
    no_reconfig_over (chunks.Error x) h = tt
    no_reconfig_over (chunks.CookieEcho x) h = tt
    no_reconfig_over chunks.CookieAck h = tt
    no_reconfig_over chunks.ShutdownComplete h = tt
    no_reconfig_over (chunks.ForwardTsn x) h = tt
    no_reconfig_over (chunks.IForwardTsn x) h = tt
    no_reconfig_over (chunks.Other kind flags value) h = tt

  chunk_given : (a b : Shown) (now : ℕ) (h : History) → ResetsPastOnly over a → (c : Chunk) → GivesChunk a now h b c
      → ChunkIsOver over c
  chunk_given a b now h past c (inl (k, packet, there, same)) =
      subst (ChunkIsOver over) same
      (chunk_as_read packet.chunk (all_get (WaitsPast over) a.control k (controls.Packet packet) there past.control))
  chunk_given a b now h past c (inr (inl (exchanges, given))) =
      no_reconfig_over (IsExchanged (acts_of_poll a now) (forwards_of_poll a now) a b h) (λ x is. is) c given
  chunk_given a b now h past c (inr (inr (inl (request, asked, same)))) =
      subst (ChunkIsOver over) (sym same)
      (carried_over request (asked_over a now past.resets.own request asked), tt)
  chunk_given a b now h past c (inr (inr (inr ends))) = no_reconfig_over IsOfShutdown (λ x is. is) c ends

  -- Datagrams

  packet_given : (Is : Chunk → Type 0) → ((c : Chunk) → Is c → ChunkIsOver over c) → (packet : Option Packet)
      → OfEachChunk Is packet → PacketIsOver over packet
  packet_given Is each None all = tt
  packet_given Is each (Some packet) all = all_weaker Is (ChunkIsOver over) packet.chunks each all

  datagrams_given : (Is : Chunk → Type 0) → ((c : Chunk) → Is c → ChunkIsOver over c) → (packets : List (List ℕ))
      → AllByRecursion (λ (bytes : List ℕ). OfEachChunk Is (packet_in bytes)) packets
      → AllByRecursion (DatagramIsOver over) packets
  datagrams_given Is each packets all =
      all_weaker (λ (bytes : List ℕ). OfEachChunk Is (packet_in bytes)) (DatagramIsOver over) packets
      (λ bytes one. packet_given Is each (packet_in bytes) one) all

  poll_given : (a b : Shown) (now : ℕ) → a.failed ≡ false → IsReady a → ResetsPastOnly over a
      → PollsOn (acts_of_poll a now) (forwards_of_poll a now) a b (polled a now).1
      → AllByRecursion (DatagramIsOver over) (polled a now).1
  poll_given a b now works (inl failed) past on = absurd (true≢false (sym failed ∙ works))
  poll_given a b now works (inr (inl lost)) past on =
      datagrams_given SaysNothing (λ c says. no_reconfig_over SaysNothing (λ x is. is) c says) (polled a now).1
      (over_says a b now lost on)
  poll_given a b now works (inr (inr (h, binds, plain))) past on =
      datagrams_given (GivesChunk a now h b) (λ c given. chunk_given a b now h past c given) (polled a now).1
      (poll_spells a b now h binds plain on)

  -- what was given out until then
  pub gives_over : (a b : Shown) (packets more : List (List ℕ)) (now : ℕ) (r : Reply) → GivesOut a packets now r b more
      → IsReady a → (a.failed ≡ false → ResetsPastOnly over a) → AllByRecursion (DatagramIsOver over) packets
      → AllByRecursion (DatagramIsOver over) more
  gives_over a b packets more now replies.NothingSent h ready past each =
      subst (AllByRecursion (DatagramIsOver over)) (sym h.3) each
  gives_over a b packets more now (replies.Sent first count) h ready past each =
      subst (AllByRecursion (DatagramIsOver over)) (sym h.6)
      (all_join (DatagramIsOver over) packets (polled a now).1 each
      (poll_given a b now h.0 ready (past h.0) h.5))
  gives_over a b packets more now (replies.Refused n) (inl had) ready past each =
      subst (AllByRecursion (DatagramIsOver over)) (sym had.1) each
  gives_over a b packets more now (replies.Refused n) (inr (inl fails)) ready past each =
      subst (AllByRecursion (DatagramIsOver over)) (sym fails.2) each
  gives_over a b packets more now (replies.Refused n) (inr (inr loses)) ready past each =
      let kept : ℕ = loses.4.0 in
      let all : List (List ℕ) = (polled a now).1 in
      subst (AllByRecursion (DatagramIsOver over)) (sym loses.4.2)
      (all_join (DatagramIsOver over) packets (take kept all) each
      (all_front (DatagramIsOver over) (take kept all) (drop kept all)
      (subst (AllByRecursion (DatagramIsOver over)) (sym (take-append-drop kept all))
      (poll_given a b now loses.0 ready (past loses.0) loses.3))))
  gives_over a b packets more now r h ready past each = absurd h
