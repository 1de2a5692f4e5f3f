-- How often DATA goes out, and until when (RFC 3758 section 3.5, RFC 7496 section 3.1): what holds of one side whatever
-- its peer does.
use Rattle.std.specs.Prelude.{◌≡◌, ◌⊎◌, ◌<◌, ◌≤◌, ℕ, ◌+◌, ◌-◌, ◌^◌, ◌==◌, Bool, true, false, List, [], ◌∷◌, ◌++◌}
use Rattle.std.specs.Prelude.{length, slice_get, if◌then◌else◌, Option, Some, None, ⊤}
use Rattle.std.specs.Option.{option_map}
use Rattle.std.specs.declared.net.ip_addr.IpAddr.{IpAddr}
use Rattle.std.specs.declared.net.socket_addr.SocketAddr.{SocketAddr}
use Rattle.sctp_wire_types.specs.declared.chunk.ChunkInit.{ChunkInit}
use Rattle.sctp_wire_types.specs.declared.config.ServerConfig.{ServerConfig}
use Rattle.sctp_wire_types.specs.Config.{Settings}
use Rattle.sctp_wire_types.specs.declared.reliability.Policy.TheVariants.{Rexmit}
use Rattle.sctp_outbound_queue.specs.declared.message.Attributes.{Attributes}
use Rattle.sctp_outbound_queue.specs.declared.message.InFlight.{InFlight}
use Rattle.sctp_outbound_queue.specs.Message.{is_expired}
use Rattle.sctp_outbound_queue.specs.Outbound.{Outbound}
use Rattle.sctp_outbound_queue.specs.Waiting.{Waiting}
use Rattle.sctp_streams.specs.declared.event.Event.{Event}
use Rattle.sctp_directions.specs.Acts.{Act, History, Parts, done, done_all}
use Rattle.sctp_assoc.specs.Created.{created, joined}
use Rattle.sctp_assoc.specs.Happened.{acts_of_close, acts_of_close_stream, acts_of_packet, acts_of_poll, acts_of_read}
use Rattle.sctp_assoc.specs.Happened.{acts_of_stop, acts_of_timeouts}
use Rattle.sctp_assoc.specs.Leads.{Binds, Leads, parts}
use Rattle.sctp_assoc.specs.Shown.{Shown, uses_forward_tsn}
use Rattle.sctp_sides.specs.OneSide.{Call, FailsInside, IsCarriedOut, IsFresh, IsUnchanged}

-- What an act gives out

-- the message of which an act gives out DATA, if it gives some
abbrev pub message_given : Act → Outbound → Option Attributes
message_given (Act.Sent at_once now) q = option_map (λ (m : Waiting). m.message) (slice_get q.pending 0)
message_given (Act.SentAgain at_once by index) q = option_map (λ (p : InFlight). p.message) (slice_get q.in_flight index)
message_given act q = None

-- the offset of that DATA
abbrev pub offset_given : Act → Parts → Option ℕ
offset_given (Act.Sent at_once now) p = Some (p.history.base + length p.queue.in_flight)
offset_given (Act.SentAgain at_once by index) p = Some (p.history.base + index)
offset_given act p = None

-- Calls

-- what a call that is carried out does to the directions
abbrev pub acts_of_call : Call → Shown → List Act
acts_of_call (Call.OpenStream id kind) a = Act.Opened id a.sender.queue.next_message_id kind ∷ []
acts_of_call (Call.Write id named bytes) a = Act.Wrote id named bytes ∷ []
acts_of_call (Call.Set id setting) a = Act.Adjusted id setting ∷ []
acts_of_call Call.Close a = acts_of_close a
acts_of_call (Call.Read id) a = acts_of_read a id
acts_of_call (Call.PollTransmit now) a = acts_of_poll a now
acts_of_call (Call.HandleTimeout now) a = acts_of_timeouts a now
acts_of_call (Call.HandleEvent packet now) a = acts_of_packet a packet now
acts_of_call (Call.Stop id) a = acts_of_stop a id
acts_of_call (Call.CloseStream id) a = acts_of_close_stream a id
acts_of_call call a = []

-- A call led from an association with a history by these acts to another one, and another history; one that is not
-- carried out, or fails for want of memory, does none.
pub record Does (call : Call) (a : Shown) (h : History) (acts : List Act) (b : Shown) (k : History) : Type 0 where
  pub told : List Event
  pub does : (IsCarriedOut call told a b × (acts ≡ acts_of_call call a) × Leads acts a h b k)
      ⊎ ((IsUnchanged told a b ⊎ FailsInside call told a b) × (acts ≡ []) × (k ≡ h))

-- these calls did, one after another
abbrev pub DoInOrder : List Call → Shown → History → List Act → Shown → History → Type 0
DoInOrder [] a h acts b k = (acts ≡ []) × (b ≡ a) × (k ≡ h)
DoInOrder (call ∷ calls) a h acts b k =
    (c : Shown) × (l : History) × (first : List Act) × (later : List Act) × (acts ≡ first ++ later)
    × Does call a h first c l × DoInOrder calls c l later b k

-- Deadlines

-- a message has a lifetime, and is at or past its deadline
abbrev pub is_late : ℕ → Option Attributes → Bool
is_late now None = false
is_late now (Some m) = is_expired now m

-- none of these acts, one after another, gives out DATA of a message that is at or past its deadline
abbrev pub GiveNothingLate : ℕ → List Act → Parts → Type 0
GiveNothingLate now [] p = ⊤
GiveNothingLate now (act ∷ acts) p =
    (is_late now (message_given act p.queue) ≡ false) × GiveNothingLate now acts (done act p)

-- nothing waits, and nothing is in flight
abbrev pub HasNothingToSend : Shown → Type 0
HasNothingToSend a = (a.sender.queue.pending ≡ []) × (a.sender.queue.in_flight ≡ [])

-- Over every list of calls of an association that begins with nothing to send, and whatever the peer sends, a poll
-- gives out no DATA of a message at or past its deadline where FORWARD TSN is in use. A deadline runs from the first
-- poll of DATA behind the write on.
abbrev pub NothingLateGoesOut : Type 0
NothingLateGoesOut = (calls : List Call) (a b : Shown) (h k : History) (acts : List Act) (now : ℕ)
    → HasNothingToSend a → Binds a h → DoInOrder calls a h acts b k → b.failed ≡ false
    → uses_forward_tsn b ≡ true → GiveNothingLate now (acts_of_poll b now) (parts b k)

-- Both constructors leave an association that has nothing to send.
abbrev pub CreatedSidesHaveNothingToSend : Type 0
CreatedSidesHaveNothingToSend = (of_server : Option ServerConfig) (config : Settings) (size tag initial_tsn : ℕ)
    (cookie : List ℕ) (remote_addr : SocketAddr) (local_ip : Option IpAddr) (now : ℕ)
    → HasNothingToSend (created of_server config size tag initial_tsn cookie remote_addr local_ip now)

abbrev pub JoinedSidesHaveNothingToSend : Type 0
JoinedSidesHaveNothingToSend = (config : Settings) (size : ℕ) (remote_addr : SocketAddr) (local_ip : Option IpAddr)
    (own peer : ChunkInit)
    → HasNothingToSend (joined config size remote_addr local_ip own peer)

-- Retries

abbrev pub is_that : ℕ → Option ℕ → Bool
is_that o None = false
is_that o (Some n) = n == o

-- how often these acts, one after another, give out the DATA of an offset
abbrev pub times_given : ℕ → List Act → Parts → ℕ
times_given o [] p = 0
times_given o (act ∷ acts) p = (if is_that o (offset_given act p) then 1 else 0) + times_given o acts (done act p)

-- An act gives out the DATA of this offset, of a message that may be sent again so many times.
pub record GivesUnder (n o : ℕ) (act : Act) (p : Parts) : Type 0 where
  pub at : offset_given act p ≡ Some o
  pub message : Attributes
  pub of : message_given act p.queue ≡ Some message
  pub policy : message.policy ≡ Rexmit n

-- Over every list of calls, and whatever the peer sends, the DATA of one offset whose message may be sent again n times
-- is given out at most n + 1 times, where FORWARD TSN is in use. (Nothing is sent before that is known.) It is said of
-- an association that has not failed. One that failed gives nothing out, so it holds up to the call that failed.
abbrev pub RetriesAreKept : Type 0
RetriesAreKept = (calls : List Call) (a b : Shown) (h k : History) (acts before after : List Act) (act : Act) (o n : ℕ)
    → IsFresh a → Binds a h → DoInOrder calls a h acts b k → b.failed ≡ false → uses_forward_tsn b ≡ true
    → n < 2 ^ 32 - 1 → acts ≡ before ++ act ∷ after → GivesUnder n o act (done_all before (parts a h))
    → times_given o acts (parts a h) ≤ n + 1
