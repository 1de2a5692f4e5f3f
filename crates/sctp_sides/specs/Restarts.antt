-- Where the stream sequence numbers of live streams begin again: as a request of this side ends in success (RFC 6525
-- sections 5.1.2 and 5.2.7). Nothing of such a stream is outstanding then, so that no DATA under an old number is in
-- flight beside DATA under a new one (RFC 4960 section 6.6). A stream that is made anew begins at 0, too; no write is
-- accepted on it until it is not blocked.
use Rattle.std.specs.Prelude.{◌≡◌, ◌≢◌, ◌⊎◌, ℕ, Bool, true, false, List, Option, Some, None, Ok}
use Rattle.std.specs.declared.net.ip_addr.IpAddr.{IpAddr}
use Rattle.std.specs.declared.net.socket_addr.SocketAddr.{SocketAddr}
use Rattle.sctp_wire_types.specs.declared.chunk.Chunk.{Chunk}
use Rattle.sctp_wire_types.specs.declared.chunk.ChunkInit.{ChunkInit}
use Rattle.sctp_wire_types.specs.declared.config.ServerConfig.{ServerConfig}
use Rattle.sctp_wire_types.specs.declared.packet.CommonHeader.{CommonHeader}
use Rattle.sctp_wire_types.specs.declared.param.Param.{Param}
use Rattle.sctp_wire_types.specs.declared.param.ParamOutgoingResetRequest.{ParamOutgoingResetRequest}
use Rattle.sctp_wire_types.specs.declared.param.ParamReconfigResponse.{ParamReconfigResponse}
use Rattle.sctp_wire_types.specs.Config.{Settings}
use Rattle.sctp_outbound_queue.specs.Outbound.{has_stream}
use Rattle.sctp_streams.specs.Streams.{stream_at}
use Rattle.sctp_inbound.specs.declared.receiver.AckTrigger.{AckTrigger}
use Rattle.sctp_reset_requests.specs.declared.own_request.SentRequest.{SentRequest}
use Rattle.sctp_reset_requests.specs.Own.{outcome_of, resets}
use Rattle.sctp_resets.specs.Resets.{is_blocked}
use Rattle.sctp_directions.specs.Acts.{Act, History}
use Rattle.sctp_assoc.specs.Calls.{write_refusal}
use Rattle.sctp_assoc.specs.Chunks.{on_chunk}
use Rattle.sctp_assoc.specs.Created.{created, joined}
use Rattle.sctp_assoc.specs.Leads.{Binds}
use Rattle.sctp_assoc.specs.Resets.{after_param, on_response}
use Rattle.sctp_assoc.specs.Shown.{Shown}
use Rattle.sctp_sides.specs.Lifetimes.{DoInOrder}
use Rattle.sctp_sides.specs.OneSide.{Call}
use Rattle.sctp_sides.specs.Repeats.{confirmed}

-- the request that was sent and is not answered, if there is one, resets a stream
abbrev pub is_reset_by : Option SentRequest → ℕ → Bool
is_reset_by None id = false
is_reset_by (Some s) id = resets id s.request

-- a stream is being reset by this side: its active request resets it
abbrev pub is_being_reset : Shown → ℕ → Bool
is_being_reset a id = is_reset_by a.resets.own.active id

-- No DATA of the streams that are being reset waits or is in flight.
abbrev pub ActiveIsQuiet : Shown → Type 0
ActiveIsQuiet a = (id : ℕ) → is_being_reset a id ≡ true → has_stream a.sender.queue id ≡ false

-- Both constructors leave it so: no request was sent yet.
abbrev pub CreatedSidesAreQuiet : Type 0
CreatedSidesAreQuiet = (of_server : Option ServerConfig) (config : Settings) (size tag initial_tsn : ℕ)
    (cookie : List ℕ) (remote_addr : SocketAddr) (local_ip : Option IpAddr) (now : ℕ)
    → ActiveIsQuiet (created of_server config size tag initial_tsn cookie remote_addr local_ip now)

abbrev pub JoinedSidesAreQuiet : Type 0
JoinedSidesAreQuiet = (config : Settings) (size : ℕ) (remote_addr : SocketAddr) (local_ip : Option IpAddr)
    (own peer : ChunkInit)
    → ActiveIsQuiet (joined config size remote_addr local_ip own peer)

-- A write that nothing refuses is on a stream that is not blocked: it waits for no reset, the peer reset its half if
-- this side was first, the end of none is owed, its last one did not fail, and no generation of it that ended is still
-- read. So it is not being reset.
abbrev pub WritesWaitForResets : Type 0
WritesWaitForResets = (a : Shown) (id size : ℕ) → write_refusal a id size ≡ None
    → (is_blocked a.resets id ≡ false) × (is_being_reset a id ≡ false)

-- What became of the streams of a side: each stream is as it was, or it was being reset, and no DATA of it waits or is
-- in flight, neither before nor after. (Streams that end with the request are among those.)
abbrev pub RestartsQuietStreams : Shown → Shown → Type 0
RestartsQuietStreams a b = (id : ℕ) → (stream_at b.streams id ≡ stream_at a.streams id)
    ⊎ ((is_being_reset a id ≡ true) × (has_stream a.sender.queue id ≡ false) × (has_stream b.sender.queue id ≡ false))

-- Where a response does not say that the request was performed (or that there was nothing to do, which is success,
-- too), no stream changes.
abbrev pub UnperformedRequestsRestartNothing : Type 0
UnperformedRequestsRestartNothing = (a : Shown) (response : ParamReconfigResponse)
    → outcome_of response.result ≢ Some (Ok tt) → (on_response a response).streams ≡ a.streams

-- No DATA of the streams that are being reset waits or is in flight. What ends the active request in success restarts
-- the numbers of quiet streams alone; by the equations of the chunks, a response and a confirming request alone end it
-- so.
pub record RestartsQuietly (a : Shown) : Type 0 where
  pub active : ActiveIsQuiet a
  -- a response of the peer (RFC 6525 section 5.2.7)
  pub responses : (response : ParamReconfigResponse) → RestartsQuietStreams a (on_response a response)
  -- a request of the peer, by the request of this side that it confirms (RFC 6525 section 5.2.2); what it then performs
  -- is not judged here
  pub confirmations : (request : ParamOutgoingResetRequest) → RestartsQuietStreams a (confirmed a request)

-- Over every list of calls of an association in which the active request is quiet, it stays so, unless the association
-- fails.
abbrev pub CallsRestartQuietly : Type 0
CallsRestartQuietly = (calls : List Call) (a b : Shown) (h k : History) (acts : List Act)
    → ActiveIsQuiet a → Binds a h → DoInOrder calls a h acts b k → b.failed ≡ false → RestartsQuietly b

-- Each chunk leaves it so; that the association still stands on a history then is `ChunksLeadOn`.
abbrev pub ChunksRestartQuietly : Type 0
ChunksRestartQuietly = (header : CommonHeader) (chunk : Chunk) (a : Shown) (h : History) (trigger : AckTrigger)
    (now : ℕ) → ActiveIsQuiet a → Binds a h → RestartsQuietly (on_chunk a header chunk trigger now).0

-- Each parameter of a RE-CONFIG leaves it so.
abbrev pub ParametersRestartQuietly : Type 0
ParametersRestartQuietly = (param : Param) (a : Shown) → ActiveIsQuiet a → RestartsQuietly (after_param param a).0
