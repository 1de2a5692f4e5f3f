-- A run of the contract of one association, as a list of calls of one side: by that each law of one side over every
-- list of calls is one of whoever carries out calls by that contract.
use Rattle.std.specs.Prelude.{◌≡◌, ◌≤◌, ◌<◌, ℕ, ◌+◌, ◌-◌, ◌^◌, true, false, List, [], ◌∷◌, ◌++◌, Some, None}
use Rattle.std.specs.List.{AllByRecursion, flat_map}
use Rattle.sctp_wire_types.specs.declared.chunk.ChunkPayloadData.{ChunkPayloadData}
use Rattle.sctp_streams.specs.declared.event.Event.{Event}
use Rattle.sctp_streams.specs.declared.setting.Setting.TheVariants as settings
use Rattle.sctp_streams.specs.Stream.{params_of}
use Rattle.sctp_directions.specs.Acts.{Act, History, Parts, done_all}
use Rattle.sctp_assoc.specs.declared.call.Call.{Call}
use Rattle.sctp_assoc.specs.declared.call.Call.TheVariants as calls
use Rattle.sctp_assoc.specs.declared.call.Reply.{Reply}
use Rattle.sctp_assoc.specs.declared.call.Reply.TheVariants as replies
use Rattle.sctp_assoc.specs.Abstract.{AbstractAssociation, IsRun, RunsOn, StandsOn, abstract}
use Rattle.sctp_assoc.specs.Calls.{first_filled}
use Rattle.sctp_assoc.specs.Closing.{is_closed_state}
use Rattle.sctp_assoc.specs.Happened.{acts_of_poll}
use Rattle.sctp_assoc.specs.Leads.{Binds, parts}
use Rattle.sctp_assoc.specs.Replies.{packet_in}
use Rattle.sctp_assoc.specs.Shown.{Shown, uses_forward_tsn}
use Rattle.sctp_sides.specs.Brought.{CallBringsOnly, IsAmong, SideHoldsOnly}
use Rattle.sctp_sides.specs.Generations.{HasNoGeneration, finals, times}
use Rattle.sctp_sides.specs.Lifetimes.{DoInOrder, GiveNothingLate, GivesUnder, HasNothingToSend, times_given}
use Rattle.sctp_sides.specs.OneSide as side
use Rattle.sctp_sides.specs.OneSide.{IsFresh, told_by}
use Rattle.sctp_sides.specs.Witnesses.{TellsOneLoss, WaitsForNothing}

-- the call of one side that a call is; a question, which changes nothing and tells no event, is none
abbrev pub side_calls_of : Call → List side.Call
side_calls_of (calls.OpenStream id kind) = side.Call.OpenStream id kind ∷ []
side_calls_of (calls.Write id bytes) = side.Call.Write id None bytes ∷ []
side_calls_of (calls.WriteWithPpi id bytes kind) = side.Call.Write id (Some kind) bytes ∷ []
side_calls_of (calls.WriteSctp id bytes kind) = side.Call.Write id (Some kind) bytes ∷ []
side_calls_of (calls.WriteChunk id bytes) = side.Call.Write id None bytes ∷ []
side_calls_of (calls.WriteChunks id buffers) = side.Call.Write id None (first_filled buffers.items) ∷ []
side_calls_of (calls.Finish id) = side.Call.Set id settings.WriteHalfClosed ∷ []
side_calls_of (calls.SetReliabilityParams id unordered kind value) =
    side.Call.Set id (settings.Reliability (params_of unordered kind value)) ∷ []
side_calls_of (calls.SetDefaultPayloadType id kind) = side.Call.Set id (settings.DefaultPayloadType kind) ∷ []
side_calls_of (calls.SetBufferedAmountLowThreshold id bytes) = side.Call.Set id (settings.LowMark bytes) ∷ []
side_calls_of (calls.SetBufferedAmountHighThreshold id bytes) = side.Call.Set id (settings.HighMark bytes) ∷ []
side_calls_of calls.AcceptStream = side.Call.AcceptStream ∷ []
side_calls_of (calls.SetMaxSendMessageSize size) = side.Call.SetMaxSendMessageSize size ∷ []
side_calls_of calls.Shutdown = side.Call.Shutdown ∷ []
side_calls_of calls.Close = side.Call.Close ∷ []
side_calls_of (calls.Read id) = side.Call.Read id ∷ []
side_calls_of (calls.ReadSctp id) = side.Call.Read id ∷ []
side_calls_of calls.Poll = side.Call.Poll ∷ []
side_calls_of calls.PollEndpointEvent = side.Call.PollEndpointEvent ∷ []
side_calls_of (calls.PollTransmit now) = side.Call.PollTransmit now ∷ []
side_calls_of (calls.HandleTimeout now) = side.Call.HandleTimeout now ∷ []
side_calls_of (calls.HandleDatagram datagram remote now) = side.Call.HandleEvent (packet_in datagram) now ∷ []
side_calls_of (calls.Stop id) = side.Call.Stop id ∷ []
side_calls_of (calls.CloseStream id) = side.Call.CloseStream id ∷ []
side_calls_of call = []

-- the event that a reply tells, if it tells one
abbrev pub told_in : Reply → List Event
told_in (replies.Event event) = told_by event
told_in reply = []

-- Without its questions, a run from a past on which the association stands is a list of calls of one side, from the
-- same association to the same, and tells the same events.
abbrev pub RunsAreListsOfCalls : Type 0
RunsAreListsOfCalls = (made : List Call) (answers : List Reply) (a b : Shown) (packets more : List (List ℕ))
    (h : History) → RunsOn made a packets answers b more → StandsOn a h
    → side.IsRun (flat_map side_calls_of made) (flat_map told_in answers) a b

-- this holds of the events that the replies of each run told, and of the association that it left, where the run began
-- with one of which that is so
abbrev pub OverEachRun : (Shown → Type 0) → (List Event → Shown → Type 0) → Type 0
OverEachRun Begins Holds = (made : List Call) (answers : List Reply) (a b : Shown) (packets more : List (List ℕ))
    (h : History) → RunsOn made a packets answers b more → StandsOn a h → Begins a
    → Holds (flat_map told_in answers) b

-- A run of a fresh association tells of at most one loss.
abbrev pub RunsTellOneLoss : Type 0
RunsTellOneLoss = OverEachRun IsFresh TellsOneLoss

-- Where it was lost, it is closed at the end and no timer runs.
abbrev pub LostRunsEndClosed : Type 0
LostRunsEndClosed =
    OverEachRun IsFresh (λ told b. b.lost ≡ true → (is_closed_state b.state ≡ true) × WaitsForNothing b)

-- A run that begins with no stream tells the last counters of a stream at most once.
abbrev pub RunsTellFinalsOnce : Type 0
RunsTellFinalsOnce = OverEachRun HasNoGeneration (λ told b. (g : ℕ) → times g (finals told) ≤ 1)

-- What the association holds after a list of calls is made of DATA among these, where all that it held before and all
-- that the calls bring is. Of one that failed nothing is read.
abbrev pub ListsHoldWhatCame : Type 0
ListsHoldWhatCame = (came : List ChunkPayloadData) (made : List side.Call) (told : List Event) (a b : Shown)
    → side.IsRun made told a b → AllByRecursion (λ (call : side.Call). CallBringsOnly (IsAmong came) call) made
    → (a.failed ≡ false → SideHoldsOnly (IsAmong came) a) → b.failed ≡ false → SideHoldsOnly (IsAmong came) b

-- Acts

-- These calls did acts, in order, from one association with its past to another, which stands on what is past then.
pub record DoneByActs (made : List side.Call) (s t : AbstractAssociation) : Type 0 where
  pub acts : List Act
  pub in_order : DoInOrder made s.shown s.past acts t.shown t.past
  pub stands : Binds t.shown t.past

-- A run leads from what is past to what is past then by the acts of its calls.
pub record RanByActs (made : List Call) (answers : List Reply) (a b : Shown) (packets more : List (List ℕ))
    (h : History) : Type 0 where
  pub past : History
  pub run : IsRun made (abstract a h) packets answers (abstract b past) more
  pub done : DoneByActs (flat_map side_calls_of made) (abstract a h) (abstract b past)

-- The calls of a run, at whose end the association has not failed, do acts in order.
abbrev pub RunsDoTheirActs : Type 0
RunsDoTheirActs = (made : List Call) (answers : List Reply) (a b : Shown) (packets more : List (List ℕ)) (h : History)
    → RunsOn made a packets answers b more → StandsOn a h → b.failed ≡ false
    → RanByActs made answers a b packets more h

-- These acts, one after another, give out the DATA of one offset, whose message may be sent again n times, at most n +
-- 1 times.
abbrev pub KeepRetries : List Act → Parts → Type 0
KeepRetries acts p = (before after : List Act) (act : Act) (o n : ℕ) → n < 2 ^ 32 - 1 → acts ≡ before ++ act ∷ after
    → GivesUnder n o act (done_all before p) → times_given o acts p ≤ n + 1

-- A run of a fresh association, at whose end it has not failed and FORWARD TSN is in use, keeps retries (RFC 7496
-- section 3.1).
abbrev pub RunsKeepRetries : Type 0
RunsKeepRetries = (made : List Call) (answers : List Reply) (a b : Shown) (packets more : List (List ℕ)) (h : History)
    → RunsOn made a packets answers b more → StandsOn a h → b.failed ≡ false → IsFresh a → uses_forward_tsn b ≡ true
    → (ran : RanByActs made answers a b packets more h) × KeepRetries ran.done.acts (parts a h)

-- A run comes to a poll for packets at this moment: the calls in front of it are a run, and so is the poll with those
-- behind it.
pub record ComesToAPoll (before : List Call) (now : ℕ) (after : List Call) (s : AbstractAssociation)
    (packets : List (List ℕ)) (answers : List Reply) (t : AbstractAssociation) (more : List (List ℕ)) : Type 0 where
  pub at : AbstractAssociation
  pub given : List (List ℕ)
  pub first : List Reply
  pub later : List Reply
  pub in_order : answers ≡ first ++ later
  pub front : IsRun before s packets first at given
  pub rest : IsRun (calls.PollTransmit now ∷ after) at given later t more

-- It gives out no DATA of a message at or past its deadline, where the association has not failed before and FORWARD
-- TSN is in use.
abbrev pub PollsInTime : ℕ → AbstractAssociation → Type 0
PollsInTime now s = s.shown.failed ≡ false → uses_forward_tsn s.shown ≡ true
    → GiveNothingLate now (acts_of_poll s.shown now) (parts s.shown s.past)

-- No poll of a run that begins with nothing to send gives out DATA late (RFC 3758 section 3.5).
abbrev pub RunsSendNothingLate : Type 0
RunsSendNothingLate = (before after : List Call) (now : ℕ) (answers : List Reply) (a b : Shown)
    (packets more : List (List ℕ)) (h : History)
    → RunsOn (before ++ calls.PollTransmit now ∷ after) a packets answers b more → StandsOn a h → HasNothingToSend a
    → (k : History) × (comes : ComesToAPoll before now after (abstract a h) packets answers (abstract b k) more)
    × PollsInTime now comes.at
