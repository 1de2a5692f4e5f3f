-- Both directions between two associations that face each other, and all that ever happened in them.
use Rattle.std.specs.Prelude.{◌≡◌, ◌≤◌, ℕ, Bool, true, false, ◌&&◌, ◌||◌, ◌++◌, ◌+◌, ◌==◌, ◌⊎◌, if◌then◌else◌, List, []}
use Rattle.std.specs.Prelude.{◌∷◌}
use Rattle.std.specs.Prelude.{map, slice_get, Option, Some, None, Ok}
use Rattle.sctp_wire_types.specs.declared.chunk.Chunk.TheVariants as chunks
use Rattle.sctp_wire_types.specs.declared.chunk.ChunkForwardTsn.{ChunkForwardTsn}
use Rattle.sctp_wire_types.specs.declared.chunk.ChunkIForwardTsn.{ChunkIForwardTsn}
use Rattle.sctp_wire_types.specs.declared.chunk.ChunkPayloadData.{ChunkPayloadData}
use Rattle.sctp_wire_types.specs.declared.ids.PayloadProtocolIdentifier.{PayloadProtocolIdentifier}
use Rattle.sctp_wire.specs.declared.packet.Packet.{Packet}
use Rattle.sctp_receive_queues.specs.Messages.{ReceivedMessage}
use Rattle.sctp_streams.specs.Stream.{StreamView}
use Rattle.sctp_streams.specs.Streams.{stream_at}
use Rattle.sctp_model.specs.Messages as model
use Rattle.sctp_model.specs.Messages.{accepted_bytes, is_reliable, message_at}
use Rattle.sctp_model.specs.Packets.{mem}
use Rattle.sctp_serial.specs.Serial.{tsn}
use Rattle.sctp_model.specs.Reassembly as queue
use Rattle.sctp_model.specs.Machine.{Direction, Event, can_restart, fresh, is_unsent, live, run}
use Rattle.sctp_model.specs.Safe.{IsSafe, IsWithin, letter_read}
use Rattle.sctp_fit.specs.Incoming.{tsn_before}
use Rattle.sctp_assoc.specs.Calls.{buffered_of, ready_messages}
use Rattle.sctp_assoc.specs.Closing.{is_closed_state}
use Rattle.sctp_assoc.specs.Shown.{Shown}
use Rattle.sctp_reset_requests.specs.Ids.{has_id}
use Rattle.sctp_sides.specs.Restarts.{is_being_reset}
use Rattle.sctp_reassembly.specs.Stands.{IsReadAs, letter_received}
use Rattle.sctp_wire_types.specs.declared.reliability.ReliabilityType.{ReliabilityType}
use Rattle.sctp_wire_types.specs.declared.reliability.ReliabilityType.TheVariants as types
use Rattle.sctp_fit.specs.Writes.{message_on}
use Rattle.std.specs.List.{AllByRecursion}
use Rattle.sctp_directions.specs.Acts.{type_on}
use Rattle.sctp_assoc.specs.declared.call.Reply.{Reply}
use Rattle.sctp_assoc.specs.declared.call.Reply.TheVariants as replies
use Rattle.sctp_steps.specs.declared.step.Side2.{Side2}
use Rattle.sctp_steps.specs.declared.step.Side2.TheVariants as sides
use Rattle.sctp_steps.specs.declared.step.Step.{Step}
use Rattle.sctp_steps.specs.declared.step.Step.TheVariants as steps
use Rattle.sctp_steps.specs.Ends.{Ends, end_of, packets_of}
use Rattle.sctp_assoc.specs.Replies.{packet_in}
use Rattle.sctp_steps.specs.Seen.{EndsReset, IsOpen, is_side, message_read, other_side}
use Rattle.sctp_steps.specs.Steps.{Steps, Writing, writing_of}

-- Both associations with every packet that they gave out, their initial TSNs, and the two directions: what was accepted
-- on each stream and on which offsets it stands, what was given out, what was taken in, and what was read. A stream is
-- loose at a side that set it, at some time, to send other messages than ordered, reliable ones.
pub record World : Type 0 where
  pub ends : Ends
  pub initial_a : ℕ
  pub initial_b : ℕ
  pub ab : Direction
  pub ba : Direction
  pub loose_a : ℕ → Bool
  pub loose_b : ℕ → Bool

-- no stream is
abbrev pub none_loose : ℕ → Bool
none_loose s = false

-- nothing happened yet
abbrev pub empty_world : Ends → ℕ → ℕ → ℕ → ℕ → World
empty_world ends initial_a initial_b size_a size_b =
    record {
      ends = ends;
      initial_a = initial_a;
      initial_b = initial_b;
      ab = fresh size_a;
      ba = fresh size_b;
      loose_a = none_loose;
      loose_b = none_loose;
    }

-- other than ordered and reliable
abbrev pub is_loose : Bool → ReliabilityType → Bool
is_loose unordered types.Reliable = unordered
is_loose unordered types.Rexmit = true
is_loose unordered types.Timed = true

-- this step, with its reply, sets stream s to send other messages from side x on than ordered, reliable ones
abbrev pub loosens : Step → Reply → Side2 → ℕ → Bool
loosens (steps.SetReliabilityParams side id unordered kind value) replies.Done x s =
    is_side side x && ((id == s) && is_loose unordered kind)
loosens step reply x s = false

abbrev pub loose_of : Side2 → World → ℕ → Bool
loose_of sides.A w = w.loose_a
loose_of sides.B w = w.loose_b

-- the streams that are loose at side x after the step
abbrev pub loose_after : Step → Reply → Side2 → World → ℕ → Bool
loose_after step reply x w s = loose_of x w s || loosens step reply x s

-- an ordered, reliable message
pub record IsOrderedAndReliable (m : model.Message) : Type 0 where
  pub ordered : m.ordered ≡ true
  pub reliable : m.policy ≡ model.Policy.Reliable

-- a message as a live stream accepts it, under the payload type that is named, or else the stream's, and with the
-- stream's order and reliability of that moment
abbrev pub messages_on : Option StreamView → Option PayloadProtocolIdentifier → List ℕ → List model.Message
messages_on None named bytes = []
messages_on (Some t) named bytes = message_on t (type_on t named) bytes ∷ []

abbrev pub accepted_of : Option Writing → Reply → Side2 → ℕ → World → List model.Message
accepted_of (Some x) (replies.Wrote count) side s w =
    if is_side x.side side && (x.id == s) then messages_on (stream_at (end_of side w.ends).streams x.id) x.named x.bytes
    else []
accepted_of writing reply side s w = []

-- what a step's write adds to what was accepted at side x on stream s
abbrev pub accepted_at : Step → Reply → Side2 → ℕ → World → List model.Message
accepted_at step reply x s w = accepted_of (writing_of step) reply x s w

abbrev pub packet_of_bytes : Option (List ℕ) → Option Packet
packet_of_bytes None = None
packet_of_bytes (Some bytes) = packet_in bytes

-- the packet that a step hands to side x, as what it spells; one that is refused is not handed over
abbrev pub packet_brought : Step → Reply → Side2 → World → Option Packet
packet_brought (steps.Deliver side number now) replies.Done x w =
    if is_side side x then packet_of_bytes (slice_get (packets_of (other_side x) w.ends) number) else None
packet_brought step reply x w = None

-- the packet has DATA with this TSN
abbrev pub HasData : Option Packet → ℕ → Type 0
HasData None t = ⊥
HasData (Some packet) t =
    (k : ℕ) × (c : ChunkPayloadData) × (slice_get packet.chunks k ≡ Some (chunks.Data c)) × (c.tsn ≡ t)

-- The packet has a FORWARD TSN with this new cumulative TSN (RFC 3758 section 3.2), or an I-FORWARD-TSN (RFC 8260
-- section 2.3.1).
abbrev pub HasForward : Option Packet → ℕ → Type 0
HasForward None t = ⊥
HasForward (Some packet) t =
    ((k : ℕ) × (c : ChunkForwardTsn) × (slice_get packet.chunks k ≡ Some (chunks.ForwardTsn c))
    × (c.new_cumulative_tsn ≡ t))
    ⊎ ((k : ℕ) × (c : ChunkIForwardTsn) × (slice_get packet.chunks k ≡ Some (chunks.IForwardTsn c))
    × (c.new_cumulative_tsn ≡ t))

-- A step with this reply may end the span of stream s: a stop of the stream, or a close of both its halves, at either
-- end. What resets and retires a stream follows one of these (a loss is no such end: it closes the receiver).
abbrev pub ends_span : Step → Reply → ℕ → Bool
ends_span (steps.Stop side id) replies.Done s = id == s
ends_span (steps.CloseStream side id) replies.Done s = id == s
ends_span step reply s = false

abbrev pub EndsSpan : Step → Reply → ℕ → Type 0
EndsSpan step reply s = ends_span step reply s ≡ true

-- The machine's sequence numbers of stream s began again at the sender. The stream is past its span, and nothing of it
-- is outstanding: each of its offsets lies below the acknowledged reach, no message of it goes on, and none that was
-- accepted waits unsent.
pub record HasRestarted (w : Direction) (s : ℕ) : Type 0 where
  pub quiet : can_restart w s ≡ true
  -- each message that was accepted was begun, or was given up
  pub none_waits : (i : ℕ) → is_unsent w.sender s i ≡ false
  pub anew : w.sender.ssn s ≡ 0

-- What a step does to the direction from one side to the other, of this initial TSN: its write is accepted, what its
-- read answers is read, and nothing is taken in but DATA of the packet that it delivers. Whatever else it does are
-- events of the model; the acknowledged reach never moves back, and a sender that isn't open afterwards assigned no
-- offset. What a step may leave out of the promise is bounded, too: whose span ends, what is passed over or given up,
-- and who stops receiving.
pub record IsDirectionStep (step : Step) (reply : Reply) (sender receiver : Side2) (w : World) (q : Ends) (initial : ℕ)
    (before after : Direction) : Type 0 where
  pub events : List Event
  pub happened : after ≡ run events before
  pub accepted : (s : ℕ)
      → after.sender.plan.accepted s ≡ before.sender.plan.accepted s ++ accepted_at step reply sender s w
  -- on a stream within its span that is not loose it is ordered and reliable
  pub in_order : (s : ℕ) → before.over s ≡ false → loose_of sender w s ≡ false
      → AllByRecursion IsOrderedAndReliable (accepted_at step reply sender s w)
  -- On each stream what was read grows by the message that the step's read answers, and by nothing else. Within the
  -- stream's span it is the one that the model's own queue gives next. Past it that queue may become anything first
  -- (`Event.Replace`), and so nothing more is said of the message.
  pub read : (s : ℕ) → IsReadAs (message_read step reply receiver s) (before.reads s) (after.reads s)
  pub taken : (o : ℕ) → mem o after.receiver.taken ≡ true
      → (mem o before.receiver.taken ≡ true) ⊎ HasData (packet_brought step reply receiver w) (tsn initial o)
  pub reach_on : before.sender.reach ≤ after.sender.reach
  pub no_more : IsOpen (end_of sender q) ⊎ (after.sender.plan.places ≡ before.sender.plan.places)
  -- the payload size, by which messages are cut, stays
  pub size : after.sender.plan.size ≡ before.sender.plan.size
  -- a stream's span ends only where the step stops or closes the stream, at either end (RFC 6525 section 5), and does
  -- not begin again
  pub span : (s : ℕ) → after.over s ≡ true → (before.over s ≡ true) ⊎ EndsSpan step reply s
  pub span_over : (s : ℕ) → before.over s ≡ true → after.over s ≡ true
  -- what the receiver passed over moves only to the new cumulative TSN of a FORWARD TSN in the packet that the step
  -- delivers (RFC 3758 section 3.6); `passed` is one past the greatest offset passed over
  pub passed : (after.receiver.passed ≡ before.receiver.passed)
      ⊎ HasForward (packet_brought step reply receiver w) (tsn_before (tsn initial after.receiver.passed))
  -- no reliable message is given up (RFC 3758 section 3.5)
  pub given_up : (s i : ℕ) → after.sender.gone s i ≡ true
      → (before.sender.gone s i ≡ true) ⊎ (is_reliable (message_at after.sender.plan s i).policy ≡ false)
  -- the receiver of a side that is neither closed nor failed after the step does not close, and a closed one does not
  -- open again
  pub closes : (after.receiver.is_open ≡ true) ⊎ ((before.receiver.is_open ≡ false) ⊎ (IsOpen (end_of receiver q) → ⊥))
  pub stays_closed : before.receiver.is_open ≡ false → after.receiver.is_open ≡ false
  -- where a request of the sender to reset a stream ended in success, the stream's sequence numbers began again
  pub restarted : (s : ℕ) → EndsReset (end_of sender w.ends) (end_of sender q) s → HasRestarted after s

-- A step with its reply, from one world to the next.
pub record IsWorldStep (step : Step) (w : World) (reply : Reply) (v : World) : Type 0 where
  pub ends_step : Steps step w.ends reply v.ends
  pub same_a : v.initial_a ≡ w.initial_a
  pub same_b : v.initial_b ≡ w.initial_b
  -- a stream is loose from the step on that sets it so, and by no other step
  pub loose_a_is : (s : ℕ) → v.loose_a s ≡ loose_after step reply sides.A w s
  pub loose_b_is : (s : ℕ) → v.loose_b s ≡ loose_after step reply sides.B w s
  pub ab_step : IsDirectionStep step reply sides.A sides.B w v.ends w.initial_a w.ab v.ab
  pub ba_step : IsDirectionStep step reply sides.B sides.A w v.ends w.initial_b w.ba v.ba

-- the numbers that wrap are far from meeting themselves, in both directions
abbrev pub IsWithinLimits : World → Type 0
IsWithinLimits w = IsWithin w.ab × IsWithin w.ba

-- What is promised of the direction w from one association to the other: each stream within its span is safe, and what
-- safety speaks of are the associations' own values: the receiver is open where it is neither closed nor failed. Of a
-- stream within its span: where the receiver is neither, what is ready is what reads would answer one after another;
-- where the sender is neither, what is released is what was accepted and is not buffered. Past its span a stream may
-- have begun anew at either end, while the direction's messages and offsets count on; its sequence numbers may begin
-- again. A span ends by such a step alone (`IsDirectionStep.span`), and none is over in the empty world.
pub record IsPromised (sender receiver : Shown) (w : Direction) : Type 0 where
  pub safe : (s : ℕ) → w.over s ≡ false → IsSafe w s
  pub opens : IsOpen receiver → w.receiver.is_open ≡ true
  pub ready_is : IsOpen receiver → (s : ℕ) → w.over s ≡ false
      → map letter_read (queue.ready (live (w.receiver.queues s))) ≡ map letter_received (ready_messages receiver s)
  pub released_is : IsOpen sender → (s n : ℕ) → w.over s ≡ false → buffered_of sender s ≡ Ok n
      → n + w.sender.released s ≡ accepted_bytes w.sender.plan s

pub record IsSafeWorld (w : World) : Type 0 where
  pub ab_safe : IsPromised w.ends.a w.ends.b w.ab
  pub ba_safe : IsPromised w.ends.b w.ends.a w.ba
