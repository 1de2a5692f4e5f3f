-- Each datagram of a poll for packets is the spelling of a chunk that asks to reset none but the streams that resets
-- concern, or is not read as one RE-CONFIG alone.
use Rattle.std.proofs.Common.{◌≡◌, sym, ap, ◌∙◌, subst, ⊎_elim, inl, inr, ℕ, Bool, true, false, not, fold}
use Rattle.std.proofs.Common.{if◌then◌else◌, List, [], ◌∷◌, ◌++◌, Option, Some, None, Result, Ok}
use Rattle.std.specs.Prelude.{⊤}
use Rattle.std.specs.List.{AllByRecursion}
use Rattle.std.proofs.lemmas.Bool.{cases_Bool, cond-false}
use Rattle.sctp_wire_types.specs.declared.chunk.Chunk.{Chunk}
use Rattle.sctp_wire_types.specs.declared.chunk.Chunk.TheVariants as chunks
use Rattle.sctp_wire_types.specs.declared.error.Fault.{Fault}
use Rattle.sctp_wire_types.specs.declared.packet.CommonHeader.{CommonHeader}
use Rattle.sctp_wire_types.specs.declared.param.Param.{Param}
use Rattle.sctp_wire_types.specs.declared.param.Param.TheVariants as params
use Rattle.sctp_wire_types.specs.declared.param.ParamOutgoingResetRequest.{ParamOutgoingResetRequest}
use Rattle.sctp_wire.specs.DataPackets.{datagrams_of}
use Rattle.sctp_parts.specs.State.{is_closing}
use Rattle.sctp_inbound.specs.Handshake.{header_of}
use Rattle.sctp_outbound.specs.Forward.{forward_of, gives_forward}
use Rattle.sctp_model.proofs.Lists.{all_join, all_weaker}
use Rattle.sctp_outbound_queue.specs.Outbound.{Outbound}
use Rattle.sctp_reset_requests.specs.Own.{OwnView, sent_first}
use Rattle.sctp_resets.specs.Resets.{with_own}
use Rattle.sctp_resets.specs.Within.{OwnOver, ParamOver, ParamOverIf}
use Rattle.sctp_resets.proofs.OwnOver.{sent_first_over}
use Rattle.sctp_assoc.specs.declared.control.Control.{Control}
use Rattle.sctp_assoc.specs.declared.control.Control.TheVariants as controls
use Rattle.sctp_assoc.specs.Calls.{exchanges_data}
use Rattle.sctp_assoc.specs.Gather.{ack_after, control_polled, data_after, data_polled, exchange_polled, forward_after}
use Rattle.sctp_assoc.specs.Gather.{forward_chunk, is_due, open_polled, packet_bytes, polled, request_packet}
use Rattle.sctp_assoc.specs.Gather.{requests_after, sack_packet, shutdown_packet, shutdown_polled, with_complete_given}
use Rattle.sctp_assoc.specs.Gather.{with_control_given, with_request_placed, without_control}
use Rattle.sctp_assoc.specs.Happened.{acks_given, requests_given}
use Rattle.sctp_assoc.specs.Resets.{reconfig_of}
use Rattle.sctp_assoc.specs.Shown.{Shown}
use Rattle.sctp_assoc.specs.Shutdown.{shutdown_ack_sent, shutdown_sent}
use Rattle.sctp_assoc.proofs.RequestsGiven.{requests_sent}
use Rattle.sctp_sides.specs.PastSpan.{ParamIsPast, ParamIsPastIf, ResetsPastIfAny, ResetsPastOnly, WaitsPast}
use Rattle.sctp_sides.proofs.EndedPolls.{polled_gives_last}
use Rattle.sctp_sides.proofs.PollsLeave.{exchange_said, front_gives}
use Rattle.sctp_course_sides.proofs.PollRequests.{IsNoReset, chunks_of_packet, no_complete, no_data, no_forward}
use Rattle.sctp_course_sides.proofs.PollRequests.{no_sack, no_shutdown, no_shutdown_ack, packet_said}
use Rattle.sctp_closed.specs.Closed.{AsksOnly, ChunkAsksOnly, IsReadAsNoReset, ParamAsksOnly, ParamAsksOnlyIf}
use Rattle.sctp_closed.specs.Closed.{ResetsOnly}
use Rattle.sctp_closed.proofs.Asked.{asks_only, sent_behind_data_over}

abbrev chunks_read : List Chunk → Result (List Chunk) Fault
chunks_read cs = Ok cs

-- what is not read so is not read as a packet of one RE-CONFIG
read_as_none : (bytes : List ℕ) → IsNoReset bytes → IsReadAsNoReset bytes
read_as_none bytes none packet reconfig read are =
    none reconfig (chunks_of_packet bytes packet read ∙ ap (λ (cs : List Chunk). chunks_read cs) are)

-- what waits asks for no other
abbrev pub ControlAsksOnly : (ℕ → Bool) → Control → Type 0
ControlAsksOnly over (controls.Packet packet) = ChunkAsksOnly over packet.chunk
ControlAsksOnly over controls.OwnRequest = ⊤

-- Resets concern these streams alone
module _ (over : ℕ → Bool) where
  param_asks : (param : Param) → ParamIsPast over param → ParamAsksOnly over param
  param_asks (params.OutgoingResetRequest request) past = asks_only over request past
  param_asks (params.ReconfigResponse response) past = tt
  param_asks (params.HeartbeatInfo information) past = tt
  param_asks (params.StateCookie cookie) past = tt
  param_asks (params.SupportedExtensions kinds) past = tt
  param_asks (params.Other kind value) past = tt

  param_asks_if : (param : Option Param) → ParamIsPastIf over param → ParamAsksOnlyIf over param
  param_asks_if None past = tt
  param_asks_if (Some param) past = param_asks param past

  chunk_asks : (c : Chunk) → ResetsPastIfAny over c → ChunkAsksOnly over c
  chunk_asks (chunks.Reconfig x) past = (param_asks x.first past.0, param_asks_if x.second past.1)
  chunk_asks (chunks.Data x) past = tt
  chunk_asks (chunks.Init x) past = tt
  chunk_asks (chunks.InitAck x) past = tt
  chunk_asks (chunks.SelectiveAck x) past = tt
  chunk_asks (chunks.Heartbeat x) past = tt
  chunk_asks (chunks.HeartbeatAck x) past = tt
  chunk_asks (chunks.Abort x) past = tt
  chunk_asks (chunks.Shutdown x) past = tt
  chunk_asks chunks.ShutdownAck past = tt
  chunk_asks (chunks.Error x) past = tt
  chunk_asks (chunks.CookieEcho x) past = tt
  chunk_asks chunks.CookieAck past = tt
  chunk_asks chunks.ShutdownComplete past = tt
  chunk_asks (chunks.ForwardTsn x) past = tt
  chunk_asks (chunks.IForwardTsn x) past = tt
  chunk_asks (chunks.Other kind flags value) past = tt

  pub waits_asks : (c : Control) → WaitsPast over c → ControlAsksOnly over c
  waits_asks (controls.Packet packet) past = chunk_asks packet.chunk past
  waits_asks controls.OwnRequest past = tt

-- where each stream is one of these, each chunk asks for no other
module _ (over : ℕ → Bool) (each : (id : ℕ) → over id ≡ true) where
  param_any : (param : Param) → ParamAsksOnly over param
  param_any (params.OutgoingResetRequest request) = λ id named. each id
  param_any (params.ReconfigResponse response) = tt
  param_any (params.HeartbeatInfo information) = tt
  param_any (params.StateCookie cookie) = tt
  param_any (params.SupportedExtensions kinds) = tt
  param_any (params.Other kind value) = tt

  param_any_if : (param : Option Param) → ParamAsksOnlyIf over param
  param_any_if None = tt
  param_any_if (Some param) = param_any param

  chunk_any : (c : Chunk) → ChunkAsksOnly over c
  chunk_any (chunks.Reconfig x) = (param_any x.first, param_any_if x.second)
  chunk_any (chunks.Data x) = tt
  chunk_any (chunks.Init x) = tt
  chunk_any (chunks.InitAck x) = tt
  chunk_any (chunks.SelectiveAck x) = tt
  chunk_any (chunks.Heartbeat x) = tt
  chunk_any (chunks.HeartbeatAck x) = tt
  chunk_any (chunks.Abort x) = tt
  chunk_any (chunks.Shutdown x) = tt
  chunk_any chunks.ShutdownAck = tt
  chunk_any (chunks.Error x) = tt
  chunk_any (chunks.CookieEcho x) = tt
  chunk_any chunks.CookieAck = tt
  chunk_any chunks.ShutdownComplete = tt
  chunk_any (chunks.ForwardTsn x) = tt
  chunk_any (chunks.IForwardTsn x) = tt
  chunk_any (chunks.Other kind flags value) = tt

  pub control_any : (cs : List Control) → AllByRecursion (ControlAsksOnly over) cs
  control_any [] = tt
  control_any (controls.Packet packet ∷ cs) = (chunk_any packet.chunk, control_any cs)
  control_any (controls.OwnRequest ∷ cs) = (tt, control_any cs)

-- the request that goes out, if one does
abbrev pub AsksIf : (ParamOutgoingResetRequest → Type 0) → Option ParamOutgoingResetRequest → Type 0
AsksIf Asks None = ⊤
AsksIf Asks (Some request) = Asks request

-- What is so of the requests of this side is kept as one goes out, and gives what is so of that and of those that go
-- out behind DATA, which ask for no other stream.
pub record IsAskedOnly (over : ℕ → Bool) (Holds : OwnView → Type 0) (Asks : ParamOutgoingResetRequest → Type 0)
    : Type 0 where
  pub sends : (o : OwnView) (q : Outbound) → Holds o → Holds (sent_first o q).0 × AsksIf Asks (sent_first o q).1
  pub behind : (a : Shown) (now : ℕ) → Holds a.resets.own
      → AllByRecursion Asks (requests_sent (data_after a now).0)
  pub only : (request : ParamOutgoingResetRequest) → Asks request → AsksOnly over request

module _ (over : ℕ → Bool) (Holds : OwnView → Type 0) (Asks : ParamOutgoingResetRequest → Type 0)
    (asked : IsAskedOnly over Holds Asks) where
  others_reset_only : (packets : List (List ℕ)) → AllByRecursion IsNoReset packets
      → AllByRecursion (ResetsOnly over) packets
  others_reset_only packets none =
      all_weaker IsNoReset (ResetsOnly over) packets (λ bytes no. inr (read_as_none bytes no)) none

  -- a chunk that asks for no other reset
  spelled_only : (header : CommonHeader) (chunk : Chunk) → ChunkAsksOnly over chunk
      → AllByRecursion (ResetsOnly over) (packet_bytes header chunk)
  spelled_only header chunk only =
      packet_said (ResetsOnly over) header chunk (λ bytes e. inl (header, chunk, e, only))

  request_only : (header : CommonHeader) (request : ParamOutgoingResetRequest) → Asks request
      → AllByRecursion (ResetsOnly over) (packet_bytes header (reconfig_of (params.OutgoingResetRequest request)))
  request_only header request past =
      spelled_only header (reconfig_of (params.OutgoingResetRequest request)) (asked.only request past, tt)

  -- In front of DATA

  placed_only : (b : Shown) (packets : List (List ℕ)) (x : OwnView × Option ParamOutgoingResetRequest)
      → AsksIf Asks x.1 → AllByRecursion (ResetsOnly over) packets
      → AllByRecursion (ResetsOnly over) (with_request_placed (b, packets) (with_own b.resets x)).1
  placed_only b packets (own, None) one each = each
  placed_only b packets (own, Some request) one each =
      all_join (ResetsOnly over) packets (request_packet b request) each
      (request_only (header_of b.handshake) request one)

  -- it leaves what is so of the requests of this side
  placed_own : (b : Shown) (packets : List (List ℕ)) (own : OwnView) (request : Option ParamOutgoingResetRequest)
      → Holds own → Holds (with_request_placed (b, packets) (with_own b.resets (own, request))).0.resets.own
  placed_own b packets own None w = w
  placed_own b packets own (Some request) w = w

  -- what this side asks for stays so, and what is given asks for no other
  record GivesOnly (x : Shown × List (List ℕ)) : Type 0 where
    kept : Holds x.0.resets.own
    given : AllByRecursion (ResetsOnly over) x.1

  one_only : (x : Shown × List (List ℕ)) (c : Control) → ControlAsksOnly over c → GivesOnly x
      → GivesOnly (with_control_given x c)
  one_only (b, packets) (controls.Packet c) waits h = record {
    kept = h.kept;
    given =
        all_join (ResetsOnly over) packets (packet_bytes c.header c.chunk) h.given
        (spelled_only c.header c.chunk waits);
  }
  one_only (b, packets) controls.OwnRequest waits h =
      let sent = sent_first b.resets.own b.sender.queue in
      let goes = asked.sends b.resets.own b.sender.queue h.kept in
      record {
        kept = placed_own b packets sent.0 sent.1 goes.0;
        given = placed_only b packets sent goes.1 h.given;
      }

  all_only : (cs : List Control) (x : Shown × List (List ℕ)) → AllByRecursion (ControlAsksOnly over) cs → GivesOnly x
      → GivesOnly (fold with_control_given x cs)
  all_only [] x wait h = h
  all_only (c ∷ cs) x wait h = all_only cs (with_control_given x c) wait.1 (one_only x c wait.0 h)

  control_only : (a : Shown) → Holds a.resets.own → AllByRecursion (ControlAsksOnly over) a.control
      → GivesOnly (control_polled a)
  control_only a own wait =
      let none : GivesOnly (without_control a, []) = record { kept = own; given = tt } in
      all_only a.control (without_control a, []) wait none

  -- While DATA is exchanged

  requests_only : (header : CommonHeader) (requests : List ParamOutgoingResetRequest)
      → AllByRecursion Asks requests
      → AllByRecursion (ResetsOnly over) (requests_given header requests)
  requests_only header [] each = tt
  requests_only header (request ∷ requests) each =
      all_join (ResetsOnly over) (packet_bytes header (reconfig_of (params.OutgoingResetRequest request)))
      (requests_given header requests) (request_only header request each.0) (requests_only header requests each.1)

  acks_only : (due : Bool) (b : Shown) → AllByRecursion (ResetsOnly over) (if due then sack_packet b else [])
  acks_only true b = others_reset_only (sack_packet b) (no_sack (header_of b.handshake) _)
  acks_only false b = tt

  forward_only : (forwards : Bool) (header : CommonHeader) (b : Shown)
      → AllByRecursion (ResetsOnly over) (if forwards then packet_bytes header (forward_chunk b) else [])
  forward_only true header b =
      others_reset_only (packet_bytes header (forward_chunk b)) (no_forward header (forward_of b.sender))
  forward_only false header b = tt

  module _ (b : Shown) (now : ℕ) (own : Holds b.resets.own) where
    exchanged_only : exchanges_data b.state ≡ true → AllByRecursion (ResetsOnly over) (exchange_polled b now).1
    exchanged_only e =
        let header = header_of b.handshake in
        let pieces = datagrams_of header (data_polled b now).1 in
        let requests = requests_given header (requests_sent (data_after b now).0) in
        let left : Shown = (data_polled b now).0 in
        let forward : List (List ℕ) =
        if gives_forward left.sender then packet_bytes header (forward_chunk left) else [] in
        subst (AllByRecursion (ResetsOnly over)) (sym (exchange_said b now e))
        (all_join (ResetsOnly over) (pieces ++ requests ++ acks_given b) forward
        (all_join (ResetsOnly over) (pieces ++ requests) (acks_given b)
        (all_join (ResetsOnly over) pieces requests
        (others_reset_only pieces (no_data header (data_polled b now).1))
        (requests_only header (requests_sent (data_after b now).0) (asked.behind b now own)))
        (acks_only (is_due b.receiver.ack_state) b))
        (forward_only (gives_forward left.sender) header left))

    silent_only : exchanges_data b.state ≡ false → AllByRecursion (ResetsOnly over) (exchange_polled b now).1
    unfolding exchange_polled
    silent_only e =
        subst (λ (x : Shown × List (List ℕ)). AllByRecursion (ResetsOnly over) x.1)
        (sym (cond-false (exchanges_data b.state)
        (forward_after (ack_after (requests_after (data_after b now)))) (b, []) e)) tt

    exchange_only : AllByRecursion (ResetsOnly over) (exchange_polled b now).1
    exchange_only = ⊎_elim exchanged_only silent_only (cases_Bool (exchanges_data b.state))

  -- and at the end

  end_only_if : (closing shutdown ack complete : Bool) (m : Shown) (now : ℕ)
      → AllByRecursion (ResetsOnly over)
      (if not closing then (m, []) else
      if shutdown then (shutdown_sent m now, shutdown_packet m (chunks.Shutdown m.receiver.peer_last_tsn)) else
      if ack then (shutdown_ack_sent m now, shutdown_packet m chunks.ShutdownAck) else
      if complete then with_complete_given m else (m, [])).1
  end_only_if false shutdown ack complete m now = tt
  end_only_if true true ack complete m now =
      others_reset_only (shutdown_packet m (chunks.Shutdown m.receiver.peer_last_tsn))
      (no_shutdown (header_of m.handshake) m.receiver.peer_last_tsn)
  end_only_if true false true complete m now =
      others_reset_only (shutdown_packet m chunks.ShutdownAck) (no_shutdown_ack (header_of m.handshake))
  end_only_if true false false true m now =
      others_reset_only (shutdown_packet m chunks.ShutdownComplete) (no_complete (header_of m.handshake))
  end_only_if true false false false m now = tt

  end_only : (m : Shown) (now : ℕ) → AllByRecursion (ResetsOnly over) (shutdown_polled m now).1
  unfolding shutdown_polled
  end_only m now =
      let due = m.shutdown_due in
      end_only_if (is_closing m.state) due.shutdown due.shutdown_ack due.shutdown_complete m now

  pub polled_only : (a : Shown) (now : ℕ) → Holds a.resets.own → AllByRecursion (ControlAsksOnly over) a.control
      → AllByRecursion (ResetsOnly over) (polled a now).1
  polled_only a now own wait =
      let b : Shown = (control_polled a).0 in
      let m : Shown = (open_polled a now).0 in
      let control = control_only a own wait in
      subst (AllByRecursion (ResetsOnly over)) (sym (polled_gives_last a now))
      (all_join (ResetsOnly over) (open_polled a now).1 (shutdown_polled m now).1
      (subst (AllByRecursion (ResetsOnly over)) (sym (front_gives a now))
      (all_join (ResetsOnly over) (control_polled a).1 (exchange_polled b now).1 control.given
      (exchange_only b now control.kept)))
      (end_only m now))

-- Where resets concern these streams alone, and where each stream is one of them

past_asks_only : (over : ℕ → Bool) → IsAskedOnly over (OwnOver over) (ParamOver over)
past_asks_only over = record {
  sends = λ o q w. (let sent = sent_first_over over o q w in (sent.0, as_asked (sent_first o q).1 sent.1));
  behind = λ a now w. sent_behind_data_over over a now w;
  only = λ request past. asks_only over request past;
}
  where
    as_asked : (request : Option ParamOutgoingResetRequest) → ParamOverIf over request
        → AsksIf (ParamOver over) request
    as_asked None one = tt
    as_asked (Some request) one = one

pub past_polls_reset_only : (over : ℕ → Bool) (a : Shown) (now : ℕ) → ResetsPastOnly over a
    → AllByRecursion (ResetsOnly over) (polled a now).1
past_polls_reset_only over a now past =
    polled_only over (OwnOver over) (ParamOver over) (past_asks_only over) a now past.resets.own
    (all_weaker (WaitsPast over) (ControlAsksOnly over) a.control (waits_asks over) past.control)

-- nothing is asked of the requests of this side, and of those that go out
abbrev AnyOwn : OwnView → Type 0
AnyOwn o = ⊤

abbrev AnyRequest : ParamOutgoingResetRequest → Type 0
AnyRequest request = ⊤

any_requests : (requests : List ParamOutgoingResetRequest) → AllByRecursion AnyRequest requests
any_requests [] = tt
any_requests (request ∷ requests) = (tt, any_requests requests)

any_request_if : (request : Option ParamOutgoingResetRequest) → AsksIf AnyRequest request
any_request_if None = tt
any_request_if (Some request) = tt

pub any_polls_reset_only : (over : ℕ → Bool) → ((id : ℕ) → over id ≡ true) → (a : Shown) (now : ℕ)
    → AllByRecursion (ResetsOnly over) (polled a now).1
any_polls_reset_only over each a now =
    let any : IsAskedOnly over AnyOwn AnyRequest = record {
      sends = λ o q w. (tt, any_request_if (sent_first o q).1);
      behind = λ b at w. any_requests (requests_sent (data_after b at).0);
      only = λ request asks id named. each id;
    } in
    polled_only over AnyOwn AnyRequest any a now tt (control_any over each a.control)
