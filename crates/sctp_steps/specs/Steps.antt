-- What a step of a pair does and replies.
use Rattle.std.specs.Prelude.{◌≡◌, ℕ, not, List, [], ◌∷◌, slice_get, Option, Some, None}
use Rattle.sctp_wire_types.specs.declared.ids.PayloadProtocolIdentifier.{PayloadProtocolIdentifier}
use Rattle.sctp_streams.specs.declared.setting.Setting.TheVariants as settings
use Rattle.sctp_streams.specs.Stream.{is_read_half_open, params_of}
use Rattle.sctp_assoc.specs.declared.call.Reply.{Reply}
use Rattle.sctp_assoc.specs.declared.call.Reply.TheVariants as replies
use Rattle.sctp_assoc.specs.Calls.{deadline_of, first_filled, has_begun_closing, is_writable}
use Rattle.sctp_assoc.specs.Closing.{is_closed_state}
use Rattle.sctp_assoc.specs.Replies.{AcceptsStream, Buffers, ClosesOne, ClosesStream, Expires, Finds, GivesOut}
use Rattle.sctp_assoc.specs.Replies.{Limits, Lists, Measures, OnlyAnswers, Opens, PollsEndpointEvent, PollsEvent}
use Rattle.sctp_assoc.specs.Replies.{Reads, Sets}
use Rattle.sctp_assoc.specs.Replies.{ShowsOrRefuses, ShutsDown, Stops, TakesIn, Writes, WritesFirst}
use Rattle.sctp_assoc.specs.Shown.{Shown}
use Rattle.sctp_steps.specs.declared.step.Side2.{Side2}
use Rattle.sctp_steps.specs.declared.step.Side2.TheVariants as sides
use Rattle.sctp_steps.specs.declared.step.Step.{Step}
use Rattle.sctp_steps.specs.declared.step.Step.TheVariants as steps
use Rattle.sctp_steps.specs.Ends.{Ends}

-- of the packets that the other side gave out, this one comes, if there is one
abbrev pub Delivers : Shown → Option (List ℕ) → ℕ → Reply → Shown → Type 0
Delivers a None now replies.NoSuchPacket b = b ≡ a
Delivers a None now _ b = ⊥
Delivers a (Some bytes) now reply b = TakesIn a bytes now reply b

-- Steps of a pair: p is what it was, q what it is then.

-- one side's association changes so, and nothing else
abbrev pub AtSide : Side2 → Ends → (Shown → Shown → Type 0) → Ends → Type 0
AtSide sides.A p Changes q = Changes p.a q.a × (q ≡ record p { a = q.a })
AtSide sides.B p Changes q = Changes p.b q.b × (q ≡ record p { b = q.b })

-- one side polls for packets
abbrev pub SendsAt : Side2 → Ends → ℕ → Reply → Ends → Type 0
SendsAt sides.A p now r q =
    GivesOut p.a p.packets_a now r q.a q.packets_a × (q ≡ record p { a = q.a; packets_a = q.packets_a })
SendsAt sides.B p now r q =
    GivesOut p.b p.packets_b now r q.b q.packets_b × (q ≡ record p { b = q.b; packets_b = q.packets_b })

-- a packet of the other side comes to a side
abbrev pub ComesTo : Side2 → Ends → ℕ → ℕ → Reply → Ends → Type 0
ComesTo sides.A p number now r q = Delivers p.a (slice_get p.packets_b number) now r q.a × (q ≡ record p { a = q.a })
ComesTo sides.B p number now r q = Delivers p.b (slice_get p.packets_a number) now r q.b × (q ≡ record p { b = q.b })

-- what a step does to a pair and replies
abbrev pub Steps : Step → Ends → Reply → Ends → Type 0
Steps (steps.OpenStream side id kind) p r q = AtSide side p (λ a b. Opens a id kind r b) q
Steps (steps.Stream side id) p r q = AtSide side p (λ a b. Finds a id r b) q
Steps (steps.AcceptStream side) p r q = AtSide side p (λ a b. AcceptsStream a r b) q
Steps (steps.SetMaxSendMessageSize side size) p r q = AtSide side p (λ a b. Limits a size r b) q
Steps (steps.StreamIds side) p r q = AtSide side p (λ a b. Lists a r b) q
Steps (steps.Shutdown side) p r q = AtSide side p (λ a b. ShutsDown a r b) q
Steps (steps.Close side) p r q = AtSide side p (λ a b. ClosesOne a r b) q
Steps (steps.Write side id bytes) p r q = AtSide side p (λ a b. Writes a id None bytes r b) q
Steps (steps.WriteWithPpi side id bytes kind) p r q = AtSide side p (λ a b. Writes a id (Some kind) bytes r b) q
Steps (steps.WriteSctp side id bytes kind) p r q = AtSide side p (λ a b. Writes a id (Some kind) bytes r b) q
Steps (steps.WriteChunk side id bytes) p r q = AtSide side p (λ a b. Writes a id None bytes r b) q
Steps (steps.WriteChunks side id chunks) p r q = AtSide side p (λ a b. WritesFirst a id chunks.items r b) q
Steps (steps.Read side id) p r q = AtSide side p (λ a b. Reads a id r b) q
Steps (steps.ReadSctp side id) p r q = AtSide side p (λ a b. Reads a id r b) q
Steps (steps.Finish side id) p r q = AtSide side p (λ a b. Sets a id settings.WriteHalfClosed r b) q
Steps (steps.Stop side id) p r q = AtSide side p (λ a b. Stops a id r b) q
Steps (steps.CloseStream side id) p r q = AtSide side p (λ a b. ClosesStream a id r b) q
Steps (steps.SetReliabilityParams side id unordered kind value) p r q =
    AtSide side p (λ a b. Sets a id (settings.Reliability (params_of unordered kind value)) r b) q
Steps (steps.SetDefaultPayloadType side id kind) p r q =
    AtSide side p (λ a b. Sets a id (settings.DefaultPayloadType kind) r b) q
Steps (steps.SetBufferedAmountLowThreshold side id bytes) p r q =
    AtSide side p (λ a b. Sets a id (settings.LowMark bytes) r b) q
Steps (steps.SetBufferedAmountHighThreshold side id bytes) p r q =
    AtSide side p (λ a b. Sets a id (settings.HighMark bytes) r b) q
Steps (steps.StreamStats side id) p r q =
    AtSide side p (λ a b. ShowsOrRefuses a id (λ s. replies.StreamStats s.stats) r b) q
Steps (steps.IsReadable side id) p r q =
    AtSide side p (λ a b. ShowsOrRefuses a id (λ s. replies.State (is_read_half_open s.halves)) r b) q
Steps (steps.IsWritable side id) p r q =
    AtSide side p (λ a b. ShowsOrRefuses a id (λ s. replies.State (is_writable a id)) r b) q
Steps (steps.StreamIdentifier side id) p r q =
    AtSide side p (λ a b. ShowsOrRefuses a id (λ s. replies.StreamIdentifier id) r b) q
Steps (steps.GetDefaultPayloadType side id) p r q =
    AtSide side p (λ a b. ShowsOrRefuses a id (λ s. replies.PayloadType s.default_payload_type) r b) q
Steps (steps.BufferedAmountLowThreshold side id) p r q =
    AtSide side p (λ a b. ShowsOrRefuses a id (λ s. replies.Threshold s.low_mark) r b) q
Steps (steps.BufferedAmountHighThreshold side id) p r q =
    AtSide side p (λ a b. ShowsOrRefuses a id (λ s. replies.Threshold s.high_mark) r b) q
Steps (steps.BufferedAmount side id) p r q = AtSide side p (λ a b. Buffers a id r b) q
Steps (steps.Poll side) p r q = AtSide side p (λ a b. PollsEvent a r b) q
Steps (steps.PollEndpointEvent side) p r q = AtSide side p (λ a b. PollsEndpointEvent a r b) q
Steps (steps.PollTimeout side) p r q = AtSide side p (λ a b. OnlyAnswers a (replies.Timeout (deadline_of a)) r b) q
Steps (steps.PollTransmit side now) p r q = SendsAt side p now r q
Steps (steps.HandleTimeout side now) p r q = AtSide side p (λ a b. Expires a now r b) q
Steps (steps.Deliver side number now) p r q = ComesTo side p number now r q
Steps (steps.IsHandshaking side) p r q =
    AtSide side p (λ a b. OnlyAnswers a (replies.State (not a.handshake.completed)) r b) q
Steps (steps.IsClosed side) p r q = AtSide side p (λ a b. OnlyAnswers a (replies.State (is_closed_state a.state)) r b) q
Steps (steps.IsClosing side) p r q = AtSide side p (λ a b. OnlyAnswers a (replies.State (has_begun_closing a)) r b) q
Steps (steps.IsDrained side) p r q = AtSide side p (λ a b. OnlyAnswers a (replies.State a.lost) r b) q
Steps (steps.IsFailed side) p r q = AtSide side p (λ a b. OnlyAnswers a (replies.State a.failed) r b) q
Steps (steps.Rtt side) p r q = AtSide side p (λ a b. Measures a r b) q
Steps (steps.Stats side) p r q = AtSide side p (λ a b. OnlyAnswers a (replies.Stats a.counts) r b) q
Steps (steps.Side side) p r q = AtSide side p (λ a b. OnlyAnswers a (replies.Side a.side) r b) q
Steps (steps.RemoteAddr side) p r q = AtSide side p (λ a b. OnlyAnswers a (replies.RemoteAddr a.remote_addr) r b) q
Steps (steps.LocalIp side) p r q = AtSide side p (λ a b. OnlyAnswers a (replies.LocalIp a.local_ip) r b) q

-- What steps write and read.

-- A message that a step asks a side to write on a stream, under the payload type that is named, or else the stream's.
pub record Writing : Type 0 where
  pub side : Side2
  pub id : ℕ
  pub named : Option PayloadProtocolIdentifier
  pub bytes : List ℕ

abbrev pub writing_of : Step → Option Writing
writing_of (steps.Write side id bytes) = Some (record { side = side; id = id; named = None; bytes = bytes })
writing_of (steps.WriteWithPpi side id bytes kind) =
    Some (record { side = side; id = id; named = Some kind; bytes = bytes })
writing_of (steps.WriteSctp side id bytes kind) =
    Some (record { side = side; id = id; named = Some kind; bytes = bytes })
writing_of (steps.WriteChunk side id bytes) = Some (record { side = side; id = id; named = None; bytes = bytes })
writing_of (steps.WriteChunks side id chunks) =
    Some (record { side = side; id = id; named = None; bytes = first_filled chunks.items })
writing_of step = None

-- the side and the stream on which a step asks for the next message
abbrev pub reading_of : Step → Option (Side2 × ℕ)
reading_of (steps.Read side id) = Some (side, id)
reading_of (steps.ReadSctp side id) = Some (side, id)
reading_of step = None

-- the steps, with these replies, lead from p to q
abbrev pub Runs : List Step → List Reply → Ends → Ends → Type 0
Runs [] [] p q = q ≡ p
Runs (s ∷ ss) (r ∷ rs) p q = (u : Ends) × Steps s p r u × Runs ss rs u q
Runs [] (r ∷ rs) p q = ⊥
Runs (s ∷ ss) [] p q = ⊥
