-- Associations whose resets concern streams past their span alone (RFC 6525 section 5), and calls after which they
-- still do.
use Rattle.std.specs.Prelude.{◌≡◌, ℕ, Bool, true, false, List, Option, Some, None, ⊤}
use Rattle.std.specs.List.{AllByRecursion}
use Rattle.sctp_wire_types.specs.declared.chunk.Chunk.{Chunk}
use Rattle.sctp_wire_types.specs.declared.chunk.Chunk.TheVariants as chunks
use Rattle.sctp_wire_types.specs.declared.ids.PayloadProtocolIdentifier.{PayloadProtocolIdentifier}
use Rattle.sctp_wire_types.specs.declared.packet.CommonHeader.{CommonHeader}
use Rattle.sctp_wire_types.specs.declared.param.Param.{Param}
use Rattle.sctp_wire_types.specs.declared.param.Param.TheVariants as params
use Rattle.sctp_wire_types.specs.declared.param.ParamOutgoingResetRequest.{ParamOutgoingResetRequest}
use Rattle.sctp_streams.specs.declared.event.AssociationError.{AssociationError}
use Rattle.sctp_streams.specs.declared.setting.Setting.{Setting}
use Rattle.sctp_inbound.specs.declared.receiver.AckTrigger.{AckTrigger}
use Rattle.sctp_resets.specs.Within.{AreOver, ParamOver, ResetsOver}
use Rattle.sctp_directions.specs.Acts.{Act}
use Rattle.sctp_assoc.specs.declared.control.Control.{Control}
use Rattle.sctp_assoc.specs.declared.control.Control.TheVariants as controls
use Rattle.sctp_assoc.specs.Calls.{accepted_stream, adjusted, event_polled, opened, read_from_stream, stopped}
use Rattle.sctp_assoc.specs.Calls.{with_max_send_message_size, written}
use Rattle.sctp_assoc.specs.Chunks.{ended, on_chunk}
use Rattle.sctp_assoc.specs.Closing.{closed_by, exhausted, is_closed_state}
use Rattle.sctp_assoc.specs.Gather.{polled}
use Rattle.sctp_assoc.specs.Resets.{reconfig_of}
use Rattle.sctp_assoc.specs.Shown.{Shown}
use Rattle.sctp_assoc.specs.Shutdown.{endpoint_event_polled, shutdown_begun}
use Rattle.sctp_assoc.specs.Timeouts.{after_timeouts}
use Rattle.sctp_sides.specs.NoReset.{HasNoReset}

-- a parameter of RE-CONFIG is a response, or a request to reset streams that are past their span (RFC 6525 section 4)
abbrev pub ParamIsPast : (ℕ → Bool) → Param → Type 0
ParamIsPast over (params.OutgoingResetRequest request) = ParamOver over request
ParamIsPast over (params.ReconfigResponse response) = ⊤
ParamIsPast over param = ⊥

abbrev pub ParamIsPastIf : (ℕ → Bool) → Option Param → Type 0
ParamIsPastIf over None = ⊤
ParamIsPastIf over (Some param) = ParamIsPast over param

-- a chunk is a RE-CONFIG of such parameters
abbrev pub ResetsPast : (ℕ → Bool) → Chunk → Type 0
ResetsPast over (chunks.Reconfig reconfig) = ParamIsPast over reconfig.first × ParamIsPastIf over reconfig.second
ResetsPast over chunk = ⊥

-- it is such a one if it is a RE-CONFIG
abbrev pub ResetsPastIfAny : (ℕ → Bool) → Chunk → Type 0
ResetsPastIfAny over (chunks.Reconfig reconfig) = ResetsPast over (chunks.Reconfig reconfig)
ResetsPastIfAny over chunk = ⊤

-- it is a request of this side to reset streams past their span
abbrev pub AsksPast : (ℕ → Bool) → Chunk → Type 0
AsksPast over chunk =
    (request : ParamOutgoingResetRequest) × (chunk ≡ reconfig_of (params.OutgoingResetRequest request))
    × ParamOver over request

-- what waits to go out
abbrev pub WaitsPast : (ℕ → Bool) → Control → Type 0
WaitsPast over (controls.Packet packet) = ResetsPastIfAny over packet.chunk
WaitsPast over controls.OwnRequest = ⊤

-- Every stream that resets of an association concern, and that what waits to go out names, is past its span.
pub record ResetsPastOnly (over : ℕ → Bool) (a : Shown) : Type 0 where
  pub resets : ResetsOver over a.resets
  pub control : AllByRecursion (WaitsPast over) a.control

-- the span of a stream that is over ends once more
abbrev pub EndsPast : (ℕ → Bool) → Act → Type 0
EndsPast over (Act.SpansEnded ids m) = AreOver over ids
EndsPast over act = ⊥

-- Where more streams are past their span, those that resets concern still are.
abbrev pub MoreArePast : Type 0
MoreArePast = (over more : ℕ → Bool) (a : Shown) → ((s : ℕ) → over s ≡ true → more s ≡ true) → ResetsPastOnly over a
    → ResetsPastOnly more a

abbrev pub MoreIsAskedPast : Type 0
MoreIsAskedPast = (over more : ℕ → Bool) (chunk : Chunk) → ((s : ℕ) → over s ≡ true → more s ≡ true)
    → ResetsPast over chunk → ResetsPast more chunk

-- Where no reset is under way none concerns a stream.
abbrev pub NoResetIsPastOnly : Type 0
NoResetIsPastOnly = (over : ℕ → Bool) (a : Shown) → HasNoReset a → ResetsPastOnly over a

-- A call that leads from one association to another has resets concern no more streams than are past their span.
abbrev pub ResetsNoMore : Shown → Shown → Type 0
ResetsNoMore a b = (over : ℕ → Bool) → ResetsPastOnly over a → ResetsPastOnly over b

-- So do the calls of the application; one that stops a stream does where that is past its span.
abbrev pub OpenedStreamsResetNoMore : Type 0
OpenedStreamsResetNoMore = (a : Shown) (id : ℕ) (kind : PayloadProtocolIdentifier) → ResetsNoMore a (opened a id kind)

abbrev pub WritesResetNoMore : Type 0
WritesResetNoMore = (a : Shown) (id : ℕ) (named : Option PayloadProtocolIdentifier) (bytes : List ℕ)
    → ResetsNoMore a (written a id named bytes)

abbrev pub SettingsResetNoMore : Type 0
SettingsResetNoMore = (a : Shown) (id : ℕ) (setting : Setting) → ResetsNoMore a (adjusted a id setting)

abbrev pub LimitsResetNoMore : Type 0
LimitsResetNoMore = (a : Shown) (size : ℕ) → ResetsNoMore a (with_max_send_message_size a size)

abbrev pub AcceptedStreamsResetNoMore : Type 0
AcceptedStreamsResetNoMore = (a : Shown) → ResetsNoMore a (accepted_stream a).0

abbrev pub ReadsResetNoMore : Type 0
ReadsResetNoMore = (a : Shown) (id : ℕ) → ResetsNoMore a (read_from_stream a id).0

abbrev pub ToldEventsResetNoMore : Type 0
ToldEventsResetNoMore = (a : Shown) → ResetsNoMore a (event_polled a).0

abbrev pub ShutdownsResetNoMore : Type 0
ShutdownsResetNoMore = (a : Shown) → ResetsNoMore a (shutdown_begun a)

abbrev pub EndpointEventsResetNoMore : Type 0
EndpointEventsResetNoMore = (a : Shown) → ResetsNoMore a (endpoint_event_polled a).0

abbrev pub ClosesResetNoMore : Type 0
ClosesResetNoMore = (a : Shown) (reason : AssociationError) → ResetsNoMore a (closed_by a reason)

abbrev pub ExhaustionResetsNoMore : Type 0
ExhaustionResetsNoMore = (a : Shown) → ResetsNoMore a (exhausted a)

abbrev pub StopsResetThatStream : Type 0
StopsResetThatStream = (over : ℕ → Bool) (a : Shown) (id : ℕ) → over id ≡ true → ResetsPastOnly over a
    → ResetsPastOnly over (stopped a id)

-- So do timers and polls,
abbrev pub TimersResetNoMore : Type 0
TimersResetNoMore = (a : Shown) (now : ℕ) → ResetsNoMore a (after_timeouts a now)

abbrev pub PollsResetNoMore : Type 0
PollsResetNoMore = (a : Shown) (now : ℕ) → ResetsNoMore a (polled a now).0

-- a chunk, if it is no RE-CONFIG that names another stream, and the end of a packet.
abbrev pub ChunksResetNoMore : Type 0
ChunksResetNoMore = (over : ℕ → Bool) (a : Shown) (header : CommonHeader) (chunk : Chunk) (trigger : AckTrigger)
    (now : ℕ) → ResetsPastIfAny over chunk → ResetsPastOnly over a
    → ResetsPastOnly over (on_chunk a header chunk trigger now).0

abbrev pub PacketEndsResetNoMore : Type 0
PacketEndsResetNoMore = (a : Shown) (trigger : AckTrigger) (now : ℕ) → ResetsNoMore a (ended a trigger now)

-- A close leaves no reset under way, whether it is the application's, that of a fault or that of an exhausted receive
-- buffer.
abbrev pub ClosesEndResets : Type 0
ClosesEndResets = (a : Shown) (reason : AssociationError) → is_closed_state a.state ≡ false
    → HasNoReset (closed_by a reason)

abbrev pub ExhaustionEndsResets : Type 0
ExhaustionEndsResets = (a : Shown) → is_closed_state a.state ≡ false → HasNoReset (exhausted a)
