-- What one side of a pair does: it is a run of one association, to which come the datagrams that the other side gave
-- out. By that each law of one side over a run is one of each side of a pair.
use Rattle.std.specs.Prelude.{◌≡◌, ℕ, true, false, if◌then◌else◌, List, [], ◌∷◌, ◌++◌, map, slice_get, Option, Some}
use Rattle.std.specs.Prelude.{None}
use Rattle.std.specs.declared.net.socket_addr.SocketAddr.{SocketAddr}
use Rattle.sctp_directions.specs.Acts.{History}
use Rattle.sctp_assoc.specs.declared.call.Call.{Call}
use Rattle.sctp_assoc.specs.declared.call.Call.TheVariants as calls
use Rattle.sctp_assoc.specs.declared.call.Reply.{Reply}
use Rattle.sctp_assoc.specs.declared.call.Reply.TheVariants as replies
use Rattle.sctp_assoc.specs.Abstract.{RunsOn, StandsOn, abstract}
use Rattle.sctp_assoc.specs.Leads.{Binds, parts}
use Rattle.sctp_assoc.specs.Shown.{uses_forward_tsn}
use Rattle.sctp_sides.specs.Lifetimes.{HasNothingToSend}
use Rattle.sctp_sides.specs.OneSide.{IsFresh}
use Rattle.sctp_sides.specs.Runs.{ComesToAPoll, KeepRetries, PollsInTime, RanByActs}
use Rattle.sctp_steps.specs.declared.step.Side2.{Side2}
use Rattle.sctp_steps.specs.declared.step.Step.{Step}
use Rattle.sctp_steps.specs.declared.step.Step.TheVariants as steps
use Rattle.sctp_steps.specs.Ends.{Ends, end_of, packets_of}
use Rattle.sctp_pair.specs.Fits.{Fits}
use Rattle.sctp_steps.specs.Steps.{Runs}
use Rattle.sctp_steps.specs.Seen.{is_side, other_side}
use Rattle.sctp_pair.specs.World.{World}

-- The calls of a step

-- a packet comes from this address, where there is one; a delivery that found none is no call
abbrev pub delivery : SocketAddr → Option (List ℕ) → ℕ → Reply → List Call
delivery remote found now replies.NoSuchPacket = []
delivery remote None now reply = []
delivery remote (Some datagram) now reply = calls.HandleDatagram datagram remote now ∷ []

-- The side of a step, and the call that it makes there, if it makes one. What it delivers is among these packets, and
-- they come from this address, of which an association takes no note.
abbrev pub call_made : SocketAddr → List (List ℕ) → Step → Reply → Side2 × List Call
call_made remote packets (steps.OpenStream side id kind) reply = (side, calls.OpenStream id kind ∷ [])
call_made remote packets (steps.Stream side id) reply = (side, calls.Stream id ∷ [])
call_made remote packets (steps.AcceptStream side) reply = (side, calls.AcceptStream ∷ [])
call_made remote packets (steps.StreamIds side) reply = (side, calls.StreamIds ∷ [])
call_made remote packets (steps.SetMaxSendMessageSize side size) reply = (side, calls.SetMaxSendMessageSize size ∷ [])
call_made remote packets (steps.Write side id bytes) reply = (side, calls.Write id bytes ∷ [])
call_made remote packets (steps.WriteWithPpi side id bytes kind) reply = (side, calls.WriteWithPpi id bytes kind ∷ [])
call_made remote packets (steps.WriteSctp side id bytes kind) reply = (side, calls.WriteSctp id bytes kind ∷ [])
call_made remote packets (steps.WriteChunk side id bytes) reply = (side, calls.WriteChunk id bytes ∷ [])
call_made remote packets (steps.WriteChunks side id chunks) reply = (side, calls.WriteChunks id chunks ∷ [])
call_made remote packets (steps.Read side id) reply = (side, calls.Read id ∷ [])
call_made remote packets (steps.ReadSctp side id) reply = (side, calls.ReadSctp id ∷ [])
call_made remote packets (steps.Finish side id) reply = (side, calls.Finish id ∷ [])
call_made remote packets (steps.Stop side id) reply = (side, calls.Stop id ∷ [])
call_made remote packets (steps.CloseStream side id) reply = (side, calls.CloseStream id ∷ [])
call_made remote packets (steps.SetReliabilityParams side id unordered kind value) reply =
    (side, calls.SetReliabilityParams id unordered kind value ∷ [])
call_made remote packets (steps.SetDefaultPayloadType side id kind) reply =
    (side, calls.SetDefaultPayloadType id kind ∷ [])
call_made remote packets (steps.SetBufferedAmountLowThreshold side id bytes) reply =
    (side, calls.SetBufferedAmountLowThreshold id bytes ∷ [])
call_made remote packets (steps.SetBufferedAmountHighThreshold side id bytes) reply =
    (side, calls.SetBufferedAmountHighThreshold id bytes ∷ [])
call_made remote packets (steps.StreamStats side id) reply = (side, calls.StreamStats id ∷ [])
call_made remote packets (steps.IsReadable side id) reply = (side, calls.IsReadable id ∷ [])
call_made remote packets (steps.IsWritable side id) reply = (side, calls.IsWritable id ∷ [])
call_made remote packets (steps.StreamIdentifier side id) reply = (side, calls.StreamIdentifier id ∷ [])
call_made remote packets (steps.GetDefaultPayloadType side id) reply = (side, calls.GetDefaultPayloadType id ∷ [])
call_made remote packets (steps.BufferedAmountLowThreshold side id) reply =
    (side, calls.BufferedAmountLowThreshold id ∷ [])
call_made remote packets (steps.BufferedAmountHighThreshold side id) reply =
    (side, calls.BufferedAmountHighThreshold id ∷ [])
call_made remote packets (steps.Shutdown side) reply = (side, calls.Shutdown ∷ [])
call_made remote packets (steps.Close side) reply = (side, calls.Close ∷ [])
call_made remote packets (steps.BufferedAmount side id) reply = (side, calls.BufferedAmount id ∷ [])
call_made remote packets (steps.Poll side) reply = (side, calls.Poll ∷ [])
call_made remote packets (steps.PollEndpointEvent side) reply = (side, calls.PollEndpointEvent ∷ [])
call_made remote packets (steps.PollTimeout side) reply = (side, calls.PollTimeout ∷ [])
call_made remote packets (steps.PollTransmit side now) reply = (side, calls.PollTransmit now ∷ [])
call_made remote packets (steps.HandleTimeout side now) reply = (side, calls.HandleTimeout now ∷ [])
call_made remote packets (steps.Deliver side number now) reply =
    (side, delivery remote (slice_get packets number) now reply)
call_made remote packets (steps.IsHandshaking side) reply = (side, calls.IsHandshaking ∷ [])
call_made remote packets (steps.IsClosed side) reply = (side, calls.IsClosed ∷ [])
call_made remote packets (steps.IsClosing side) reply = (side, calls.IsClosing ∷ [])
call_made remote packets (steps.IsDrained side) reply = (side, calls.IsDrained ∷ [])
call_made remote packets (steps.IsFailed side) reply = (side, calls.IsFailed ∷ [])
call_made remote packets (steps.Rtt side) reply = (side, calls.Rtt ∷ [])
call_made remote packets (steps.Stats side) reply = (side, calls.Stats ∷ [])
call_made remote packets (steps.Side side) reply = (side, calls.Side ∷ [])
call_made remote packets (steps.RemoteAddr side) reply = (side, calls.RemoteAddr ∷ [])
call_made remote packets (steps.LocalIp side) reply = (side, calls.LocalIp ∷ [])

-- of these, the calls of side x
abbrev pub calls_of : Side2 → Side2 × List Call → List Call
calls_of x made = if is_side made.0 x then made.1 else []

abbrev pub calls_at : Side2 → SocketAddr → List (List ℕ) → Step → Reply → List Call
calls_at x remote packets step reply = calls_of x (call_made remote packets step reply)

-- each of them is answered so
abbrev pub answered : Reply → List Call → List Reply
answered reply made = map (λ (call : Call). reply) made

-- Rows of steps with their replies

-- the calls that they make at side x
abbrev pub calls_in : Side2 → SocketAddr → List (List ℕ) → List Step → List Reply → List Call
calls_in x remote packets (s ∷ ss) (r ∷ rs) = calls_at x remote packets s r ++ calls_in x remote packets ss rs
calls_in x remote packets [] rs = []
calls_in x remote packets (s ∷ ss) [] = []

-- and the replies to these
abbrev pub replies_in : Side2 → SocketAddr → List (List ℕ) → List Step → List Reply → List Reply
replies_in x remote packets (s ∷ ss) (r ∷ rs) =
    answered r (calls_at x remote packets s r) ++ replies_in x remote packets ss rs
replies_in x remote packets [] rs = []
replies_in x remote packets (s ∷ ss) [] = []

-- The calls of side x, and the replies to them, where the steps with these replies led to q: what was delivered is
-- among the packets that the other side gave out until then.
abbrev pub calls_until : Side2 → SocketAddr → List Step → List Reply → Ends → List Call
calls_until x remote ss rs q = calls_in x remote (packets_of (other_side x) q) ss rs

abbrev pub replies_until : Side2 → SocketAddr → List Step → List Reply → Ends → List Reply
replies_until x remote ss rs q = replies_in x remote (packets_of (other_side x) q) ss rs

-- What steps of a pair do at one side is a run of its calls, by the contract of one association, and gives out the
-- packets of that side.
abbrev pub SidesRunByTheirCalls : Type 0
SidesRunByTheirCalls = (x : Side2) (remote : SocketAddr) (ss : List Step) (rs : List Reply) (p q : Ends)
    → Runs ss rs p q
    → RunsOn (calls_until x remote ss rs q) (end_of x p) (packets_of x p) (replies_until x remote ss rs q) (end_of x q)
    (packets_of x q)

-- Retries and deadlines

-- A side as a constructor leaves it, of a pair that fits a world, stands on what is past.
abbrev pub FreshSidesStand : Type 0
FreshSidesStand =
    (x : Side2) (p : Ends) (w : World) → Fits p w → IsFresh (end_of x p) → (h : History) × Binds (end_of x p) h

-- A side that begins so keeps retries, where it has not failed at the end and FORWARD TSN is in use: whatever the other
-- side does, and whichever packets come.
abbrev pub SidesKeepRetries : Type 0
SidesKeepRetries = (x : Side2) (remote : SocketAddr) (ss : List Step) (rs : List Reply) (p q : Ends) (h : History)
    → Runs ss rs p q → StandsOn (end_of x p) h → (end_of x q).failed ≡ false → IsFresh (end_of x p)
    → uses_forward_tsn (end_of x q) ≡ true
    → (ran : RanByActs (calls_until x remote ss rs q) (replies_until x remote ss rs q) (end_of x p) (end_of x q)
    (packets_of x p) (packets_of x q) h)
    × KeepRetries ran.done.acts (parts (end_of x p) h)

-- No poll of a side that begins with nothing to send gives out DATA late.
abbrev pub SidesSendNothingLate : Type 0
SidesSendNothingLate = (x : Side2) (remote : SocketAddr) (ss : List Step) (rs : List Reply) (p q : Ends) (h : History)
    → (before after : List Call) (now : ℕ) → Runs ss rs p q
    → calls_until x remote ss rs q ≡ before ++ calls.PollTransmit now ∷ after → StandsOn (end_of x p) h
    → HasNothingToSend (end_of x p)
    → (k : History)
    × (comes : ComesToAPoll before now after (abstract (end_of x p) h) (packets_of x p)
    (replies_until x remote ss rs q) (abstract (end_of x q) k) (packets_of x q))
    × PollsInTime now comes.at
