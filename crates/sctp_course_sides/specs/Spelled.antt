-- What the datagrams of a poll spell, chunk by chunk.
use Rattle.std.specs.Prelude.{◌≡◌, ◌⊎◌, ◌%◌, ◌^◌, ℕ, true, if◌then◌else◌, List, [], ◌∷◌, ◌++◌, map, slice_get}
use Rattle.std.specs.Prelude.{⊤, Option, Some, None}
use Rattle.std.specs.List.{AllByRecursion}
use Rattle.sctp_wire_types.specs.declared.chunk.Chunk.{Chunk}
use Rattle.sctp_wire_types.specs.declared.chunk.Chunk.TheVariants as chunks
use Rattle.sctp_wire_types.specs.declared.param.Param.{Param}
use Rattle.sctp_wire_types.specs.declared.param.Param.TheVariants as params
use Rattle.sctp_wire_types.specs.declared.param.ParamOutgoingResetRequest.{ParamOutgoingResetRequest}
use Rattle.sctp_reset_requests.specs.Own.{sent_first}
use Rattle.sctp_directions.specs.Acts.{History}
use Rattle.sctp_assoc.specs.declared.control.Control.{Control}
use Rattle.sctp_assoc.specs.declared.control.Control.TheVariants as controls
use Rattle.sctp_assoc.specs.Calls.{exchanges_data, is_established}
use Rattle.sctp_assoc.specs.Gather.{control_polled, data_after, listed, requests_of, with_control_given}
use Rattle.sctp_assoc.specs.Gather.{without_control}
use Rattle.sctp_assoc.specs.Happened.{IsOfShutdown, acts_of_poll, forwards_of_poll}
use Rattle.sctp_assoc.specs.Resets.{reconfig_of}
use Rattle.sctp_assoc.specs.Shown.{Shown}
use Rattle.sctp_sides.specs.SideLaws.{IsExchanged, IsWaitingToGo}

-- The requests of a poll before its DATA: those that go out from their places among what waits, one behind another.

abbrev pub request_in : Shown → Control → List ParamOutgoingResetRequest
request_in a (controls.Packet c) = []
request_in a controls.OwnRequest = listed (sent_first a.resets.own a.sender.queue).1

abbrev pub requests_in : List Control → Shown × List (List ℕ) → List ParamOutgoingResetRequest
requests_in [] x = []
requests_in (c ∷ cs) x = request_in x.0 c ++ requests_in cs (with_control_given x c)

abbrev pub control_requests : Shown → List ParamOutgoingResetRequest
control_requests a = requests_in a.control (without_control a, [])

-- those behind its DATA, in Established alone
abbrev pub requests_behind : Shown → ℕ → List ParamOutgoingResetRequest
requests_behind a now =
    (let b = (data_after (control_polled a).0 now).0 in
    if exchanges_data a.state then (if is_established b.state then requests_of b else []) else [])

-- A poll gives a request out: before its DATA, or behind it.
abbrev pub IsAskedBy : Shown → ℕ → ParamOutgoingResetRequest → Type 0
IsAskedBy a now request =
    ((k : ℕ) × (slice_get (control_requests a) k ≡ Some request))
    ⊎ ((k : ℕ) × (slice_get (requests_behind a now) k ≡ Some request))

-- a request as its fields carry it: numbers of 32 bits, and identifiers of 16 (RFC 6525 section 4.1)
abbrev pub carried : ParamOutgoingResetRequest → ParamOutgoingResetRequest
carried p = record {
  reconfig_request_sequence_number = p.reconfig_request_sequence_number % 2 ^ 32;
  reconfig_response_sequence_number = p.reconfig_response_sequence_number % 2 ^ 32;
  sender_last_tsn = p.sender_last_tsn % 2 ^ 32;
  stream_identifiers = map (λ id. id % 2 ^ 16) p.stream_identifiers;
}

-- the chunk of such a request
abbrev pub IsOfAsked : Shown → ℕ → Chunk → Type 0
IsOfAsked a now chunk =
    (request : ParamOutgoingResetRequest) × IsAskedBy a now request
    × (chunk ≡ reconfig_of (params.OutgoingResetRequest (carried request)))

-- Chunks that say nothing of what their side sends on streams: neither DATA nor FORWARD TSN, and no request to reset
-- streams.

abbrev pub IsNoRequest : Param → Type 0
IsNoRequest (params.OutgoingResetRequest request) = ⊥
IsNoRequest param = ⊤

abbrev pub IsNoRequestIf : Option Param → Type 0
IsNoRequestIf None = ⊤
IsNoRequestIf (Some param) = IsNoRequest param

abbrev pub IsBesideStreams : Chunk → Type 0
IsBesideStreams (chunks.Data piece) = ⊥
IsBesideStreams (chunks.ForwardTsn forward) = ⊥
IsBesideStreams (chunks.IForwardTsn forward) = ⊥
IsBesideStreams (chunks.Reconfig reconfig) = IsNoRequest reconfig.first × IsNoRequestIf reconfig.second
IsBesideStreams chunk = ⊤

abbrev pub ControlIsBeside : Control → Type 0
ControlIsBeside (controls.Packet packet) = IsBesideStreams packet.chunk
ControlIsBeside controls.OwnRequest = ⊤

-- all packets that wait to go out are of such chunks
abbrev pub WaitsBeside : Shown → Type 0
WaitsBeside a = AllByRecursion ControlIsBeside a.control

-- A chunk that a poll gives, which left b: one that waited to go out in a packet of its own; while DATA is exchanged
-- DATA of its acts, a SACK that says what came, or the FORWARD TSN of what is in flight then; a request of this side
-- to reset streams; or a chunk of a shutdown.
abbrev pub GivesChunk : Shown → ℕ → History → Shown → Chunk → Type 0
GivesChunk a now h b chunk =
    IsWaitingToGo a chunk
    ⊎ (((exchanges_data a.state ≡ true) × IsExchanged (acts_of_poll a now) (forwards_of_poll a now) a b h chunk)
    ⊎ (IsOfAsked a now chunk ⊎ IsOfShutdown chunk))
