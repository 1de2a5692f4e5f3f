-- Of calls that hand over no request of the peer for all streams, each stops, and hands over requests that name, none
-- but the streams that the calls close; else they close each stream.
use Rattle.std.proofs.Common.{◌≡◌, refl, ◌∙◌, ℕ, ◌==◌, ◌||◌, Bool, true, false, List, [], ◌∷◌, length, Option, Some}
use Rattle.std.proofs.Common.{None, is_eq, nat_cmp}
use Rattle.std.specs.List.{AllByRecursion, list_any}
use Rattle.std.proofs.lemmas.Bool.{eq-eqb, false≢true, or_parts}
use Rattle.sctp_wire_types.specs.declared.chunk.Chunk.{Chunk}
use Rattle.sctp_wire_types.specs.declared.chunk.Chunk.TheVariants as chunks
use Rattle.sctp_wire_types.specs.declared.param.Param.{Param}
use Rattle.sctp_wire_types.specs.declared.param.Param.TheVariants as params
use Rattle.sctp_wire_types.specs.declared.param.ParamOutgoingResetRequest.{ParamOutgoingResetRequest}
use Rattle.sctp_wire.specs.declared.packet.Packet.{Packet}
use Rattle.sctp_streams.proofs.LowMarks.{found_as}
use Rattle.sctp_reset_requests.specs.Ids.{has_id}
use Rattle.sctp_resets.specs.Within.{AreOver, ParamOver}
use Rattle.sctp_resets.proofs.ListsOver.{some_where}
use Rattle.sctp_sides.specs.OneSide.{Call}
use Rattle.sctp_closed.specs.Closed.{application_closes, chunk_names, is_closed_by, names_stream, packet_names}
use Rattle.sctp_closed.specs.Closed.{param_names, param_names_if, peer_closes}
use Rattle.sctp_closed.proofs.InChunks.{ChunkIsOver, ParamIsOver, ParamIsOverIf}
use Rattle.sctp_closed.proofs.InPackets.{PacketIsOver}
use Rattle.sctp_closed.proofs.OverCalls.{CallIsOver}

-- Tests

left_of : (a b : Bool) → a ≡ true → (a || b) ≡ true
left_of true b e = refl
left_of false b e = absurd (false≢true e)

right_of : (a b : Bool) → b ≡ true → (a || b) ≡ true
right_of true b e = refl
right_of false b e = e

either_more : (a b c d : Bool) → (a ≡ true → c ≡ true) → (b ≡ true → d ≡ true) → (a || b) ≡ true → (c || d) ≡ true
either_more true b c d first second e = left_of c d (first refl)
either_more false b c d first second e = right_of c d (second e)

some_more : {X : Type 0} (f g : X → Bool) → ((x : X) → f x ≡ true → g x ≡ true) → (xs : List X)
    → list_any f xs ≡ true → list_any g xs ≡ true
some_more f g more [] e = absurd (false≢true e)
some_more f g more (x ∷ xs) e =
    either_more (f x) (list_any f xs) (g x) (list_any g xs) (more x) (some_more f g more xs) e

-- Requests for all streams

abbrev lists_none : ParamOutgoingResetRequest → Bool
lists_none request = length request.stream_identifiers == 0

abbrev param_is_for_all : Param → Bool
param_is_for_all (params.OutgoingResetRequest request) = lists_none request
param_is_for_all param = false

abbrev param_is_for_all_if : Option Param → Bool
param_is_for_all_if None = false
param_is_for_all_if (Some param) = param_is_for_all param

abbrev chunk_is_for_all : Chunk → Bool
chunk_is_for_all (chunks.Reconfig reconfig) = param_is_for_all reconfig.first || param_is_for_all_if reconfig.second
chunk_is_for_all chunk = false

abbrev packet_is_for_all : Option Packet → Bool
packet_is_for_all None = false
packet_is_for_all (Some packet) = list_any chunk_is_for_all packet.chunks

abbrev call_is_for_all : Call → Bool
call_is_for_all (Call.HandleEvent packet now) = packet_is_for_all packet
call_is_for_all call = false

-- one of these calls hands over one
abbrev pub some_is_for_all : List Call → Bool
some_is_for_all calls = list_any call_is_for_all calls

-- a call closes a stream, or hands over that the peer closed it
abbrev closes_one : ℕ → Call → Bool
closes_one id call = application_closes id call || peer_closes id call

-- it names each stream
module _ (id : ℕ) where
  param_for_all : (param : Param) → param_is_for_all param ≡ true → param_names id param ≡ true
  param_for_all (params.OutgoingResetRequest request) e =
      left_of (lists_none request) (has_id id request.stream_identifiers) e
  param_for_all (params.ReconfigResponse response) e = absurd (false≢true e)
  param_for_all (params.HeartbeatInfo information) e = absurd (false≢true e)
  param_for_all (params.StateCookie cookie) e = absurd (false≢true e)
  param_for_all (params.SupportedExtensions kinds) e = absurd (false≢true e)
  param_for_all (params.Other kind value) e = absurd (false≢true e)

  param_for_all_if : (param : Option Param) → param_is_for_all_if param ≡ true → param_names_if id param ≡ true
  param_for_all_if None e = absurd (false≢true e)
  param_for_all_if (Some param) e = param_for_all param e

  chunk_for_all : (c : Chunk) → chunk_is_for_all c ≡ true → chunk_names id c ≡ true
  chunk_for_all (chunks.Reconfig x) e =
      either_more (param_is_for_all x.first) (param_is_for_all_if x.second) (param_names id x.first)
      (param_names_if id x.second) (param_for_all x.first) (param_for_all_if x.second) e
  chunk_for_all (chunks.Data x) e = absurd (false≢true e)
  chunk_for_all (chunks.Init x) e = absurd (false≢true e)
  chunk_for_all (chunks.InitAck x) e = absurd (false≢true e)
  chunk_for_all (chunks.SelectiveAck x) e = absurd (false≢true e)
  chunk_for_all (chunks.Heartbeat x) e = absurd (false≢true e)
  chunk_for_all (chunks.HeartbeatAck x) e = absurd (false≢true e)
  chunk_for_all (chunks.Abort x) e = absurd (false≢true e)
  chunk_for_all (chunks.Shutdown x) e = absurd (false≢true e)
  chunk_for_all chunks.ShutdownAck e = absurd (false≢true e)
  chunk_for_all (chunks.Error x) e = absurd (false≢true e)
  chunk_for_all (chunks.CookieEcho x) e = absurd (false≢true e)
  chunk_for_all chunks.CookieAck e = absurd (false≢true e)
  chunk_for_all chunks.ShutdownComplete e = absurd (false≢true e)
  chunk_for_all (chunks.ForwardTsn x) e = absurd (false≢true e)
  chunk_for_all (chunks.IForwardTsn x) e = absurd (false≢true e)
  chunk_for_all (chunks.Other kind flags value) e = absurd (false≢true e)

  packet_for_all : (packet : Option Packet) → packet_is_for_all packet ≡ true → packet_names id packet ≡ true
  packet_for_all None e = absurd (false≢true e)
  packet_for_all (Some packet) e = some_more chunk_is_for_all (chunk_names id) chunk_for_all packet.chunks e

  call_for_all : (call : Call) → call_is_for_all call ≡ true → closes_one id call ≡ true
  call_for_all (Call.HandleEvent packet now) e = packet_for_all packet e
  call_for_all (Call.OpenStream k kind) e = absurd (false≢true e)
  call_for_all (Call.Write k named bytes) e = absurd (false≢true e)
  call_for_all (Call.Set k setting) e = absurd (false≢true e)
  call_for_all Call.AcceptStream e = absurd (false≢true e)
  call_for_all (Call.SetMaxSendMessageSize size) e = absurd (false≢true e)
  call_for_all Call.Shutdown e = absurd (false≢true e)
  call_for_all Call.Close e = absurd (false≢true e)
  call_for_all (Call.Read k) e = absurd (false≢true e)
  call_for_all Call.Poll e = absurd (false≢true e)
  call_for_all Call.PollEndpointEvent e = absurd (false≢true e)
  call_for_all (Call.PollTransmit now) e = absurd (false≢true e)
  call_for_all (Call.HandleTimeout now) e = absurd (false≢true e)
  call_for_all (Call.Stop k) e = absurd (false≢true e)
  call_for_all (Call.CloseStream k) e = absurd (false≢true e)

  -- so the calls close each stream
  pub all_are_closed : (calls : List Call) → some_is_for_all calls ≡ true → is_closed_by calls id ≡ true
  all_are_closed calls e = some_more call_is_for_all (closes_one id) call_for_all calls e

-- Where none is for all, each names none but closed streams.
module _ (over : ℕ → Bool) where
  first_named : (x : ℕ) (xs : List ℕ) → has_id x (x ∷ xs) ≡ true
  first_named x xs = left_of (is_eq (nat_cmp x x)) (has_id x xs) (found_as x x ∙ eq-eqb x x refl)

  each_is_over : (ids : List ℕ) → ((id : ℕ) → has_id id ids ≡ true → over id ≡ true) → AreOver over ids
  each_is_over [] named = tt
  each_is_over (x ∷ xs) named = (
    named x (first_named x xs),
    each_is_over xs (λ id e. named id (right_of (is_eq (nat_cmp id x)) (has_id id xs) e)),
  )

  request_is_over : (request : ParamOutgoingResetRequest) → lists_none request ≡ false
      → ((id : ℕ) → names_stream id request ≡ true → over id ≡ true) → ParamOver over request
  request_is_over request none named = record {
    some = some_where (length request.stream_identifiers) none;
    each =
        each_is_over request.stream_identifiers
        (λ id e. named id (right_of (lists_none request) (has_id id request.stream_identifiers) e));
  }

  param_is_over : (param : Param) → param_is_for_all param ≡ false
      → ((id : ℕ) → param_names id param ≡ true → over id ≡ true) → ParamIsOver over param
  param_is_over (params.OutgoingResetRequest request) none named = request_is_over request none named
  param_is_over (params.ReconfigResponse response) none named = tt
  param_is_over (params.HeartbeatInfo information) none named = tt
  param_is_over (params.StateCookie cookie) none named = tt
  param_is_over (params.SupportedExtensions kinds) none named = tt
  param_is_over (params.Other kind value) none named = tt

  param_is_over_if : (param : Option Param) → param_is_for_all_if param ≡ false
      → ((id : ℕ) → param_names_if id param ≡ true → over id ≡ true) → ParamIsOverIf over param
  param_is_over_if None none named = tt
  param_is_over_if (Some param) none named = param_is_over param none named

  chunk_is_over : (c : Chunk) → chunk_is_for_all c ≡ false → ((id : ℕ) → chunk_names id c ≡ true → over id ≡ true)
      → ChunkIsOver over c
  chunk_is_over (chunks.Reconfig x) none named =
      let parts = or_parts (param_is_for_all x.first) (param_is_for_all_if x.second) none in (
        param_is_over x.first parts.0
            (λ id e. named id (left_of (param_names id x.first) (param_names_if id x.second) e)),
        param_is_over_if x.second parts.1
            (λ id e. named id (right_of (param_names id x.first) (param_names_if id x.second) e)),
      )
  chunk_is_over (chunks.Data x) none named = tt
  chunk_is_over (chunks.Init x) none named = tt
  chunk_is_over (chunks.InitAck x) none named = tt
  chunk_is_over (chunks.SelectiveAck x) none named = tt
  chunk_is_over (chunks.Heartbeat x) none named = tt
  chunk_is_over (chunks.HeartbeatAck x) none named = tt
  chunk_is_over (chunks.Abort x) none named = tt
  chunk_is_over (chunks.Shutdown x) none named = tt
  chunk_is_over chunks.ShutdownAck none named = tt
  chunk_is_over (chunks.Error x) none named = tt
  chunk_is_over (chunks.CookieEcho x) none named = tt
  chunk_is_over chunks.CookieAck none named = tt
  chunk_is_over chunks.ShutdownComplete none named = tt
  chunk_is_over (chunks.ForwardTsn x) none named = tt
  chunk_is_over (chunks.IForwardTsn x) none named = tt
  chunk_is_over (chunks.Other kind flags value) none named = tt

  chunks_are_over : (cs : List Chunk) → list_any chunk_is_for_all cs ≡ false
      → ((id : ℕ) → list_any (chunk_names id) cs ≡ true → over id ≡ true) → AllByRecursion (ChunkIsOver over) cs
  chunks_are_over [] none named = tt
  chunks_are_over (c ∷ cs) none named =
      let parts = or_parts (chunk_is_for_all c) (list_any chunk_is_for_all cs) none in (
        chunk_is_over c parts.0 (λ id e. named id (left_of (chunk_names id c) (list_any (chunk_names id) cs) e)),
        chunks_are_over cs parts.1
            (λ id e. named id (right_of (chunk_names id c) (list_any (chunk_names id) cs) e)),
      )

  packet_is_over : (packet : Option Packet) → packet_is_for_all packet ≡ false
      → ((id : ℕ) → packet_names id packet ≡ true → over id ≡ true) → PacketIsOver over packet
  packet_is_over None none named = tt
  packet_is_over (Some packet) none named = chunks_are_over packet.chunks none named

  call_is_over : (call : Call) → call_is_for_all call ≡ false
      → ((id : ℕ) → closes_one id call ≡ true → over id ≡ true) → CallIsOver over call
  call_is_over (Call.Stop k) none closed = closed k (left_of (k == k) false (eq-eqb k k refl))
  call_is_over (Call.CloseStream k) none closed = closed k (left_of (k == k) false (eq-eqb k k refl))
  call_is_over (Call.HandleEvent packet now) none closed = packet_is_over packet none closed
  call_is_over (Call.OpenStream k kind) none closed = tt
  call_is_over (Call.Write k named bytes) none closed = tt
  call_is_over (Call.Set k setting) none closed = tt
  call_is_over Call.AcceptStream none closed = tt
  call_is_over (Call.SetMaxSendMessageSize size) none closed = tt
  call_is_over Call.Shutdown none closed = tt
  call_is_over Call.Close none closed = tt
  call_is_over (Call.Read k) none closed = tt
  call_is_over Call.Poll none closed = tt
  call_is_over Call.PollEndpointEvent none closed = tt
  call_is_over (Call.PollTransmit now) none closed = tt
  call_is_over (Call.HandleTimeout now) none closed = tt

  pub calls_are_over : (calls : List Call) → some_is_for_all calls ≡ false
      → ((id : ℕ) → is_closed_by calls id ≡ true → over id ≡ true) → AllByRecursion (CallIsOver over) calls
  calls_are_over [] none closed = tt
  calls_are_over (call ∷ calls) none closed =
      let parts = or_parts (call_is_for_all call) (list_any call_is_for_all calls) none in (
        call_is_over call parts.0
            (λ id e. closed id (left_of (closes_one id call) (list_any (closes_one id) calls) e)),
        calls_are_over calls parts.1
            (λ id e. closed id (right_of (closes_one id call) (list_any (closes_one id) calls) e)),
      )
