-- What is told of a stream across its resets.
use Rattle.std.specs.Prelude.{◌≡◌, ◌<◌, ◌≤◌, ◌+◌, ⊤, ℕ, true, false, List, [], Some, None}
use Rattle.std.specs.List.{AllByRecursion}
use Rattle.sctp_receive_queues.specs.Messages.{ReceivedMessage}
use Rattle.sctp_reset_requests.specs.declared.own_request.SentRequest.{SentRequest}
use Rattle.sctp_courses.specs.Course.{Course, boundary_at, is_named, offsets_told, times}
use Rattle.sctp_courses.specs.Events.{is_to_be_reset}
use Rattle.sctp_courses.specs.Laws.{IsDivided}
use Rattle.sctp_reset_fit.specs.Held.{IsMadeOn}
use Rattle.sctp_assoc.specs.declared.call.Reply.{Reply}
use Rattle.sctp_assoc.specs.declared.call.Reply.TheVariants as replies
use Rattle.sctp_steps.specs.declared.step.Side2.TheVariants as sides
use Rattle.sctp_steps.specs.declared.step.Step.{Step}
use Rattle.sctp_steps.specs.Ends.{Ends}
use Rattle.sctp_steps.specs.Seen.{EndsReset, message_read}
use Rattle.sctp_steps.specs.Steps.{Runs}
use Rattle.sctp_boundaries.specs.Between.{AreFew, Courses, IsGivenOut, StandBetween}
use Rattle.sctp_boundaries.specs.Laws.{GoesTo, GrowsAsSeen, IsDividedBy, KeepAlong, NamesIdentifiers, StandsFresh}
use Rattle.sctp_boundaries.specs.Laws.{fresh_courses, polls_side}
use Rattle.sctp_closed_between.specs.Between.{AreOfClosed}
use Rattle.sctp_pair.specs.Across.{AreReadAlong, PollsAreFew, WereWritten}
use Rattle.sctp_pair.specs.Callers.{AcceptFew}

-- A message is made of all DATA of one message that is in these packets, and nothing of it was read before.
pub record IsAnew (packets : List (List ℕ)) (initial id : ℕ) (message : ReceivedMessage) (c : Course) : Type 0 where
  pub offsets : List ℕ
  pub made : IsMadeOn (IsGivenOut packets) initial id message offsets
  pub anew : (o : ℕ) → times o (offsets_told c.told) + times o offsets ≤ 1

-- a read of B answers such a message, if one, of a pair that stands between the courses of the stream
abbrev pub ReadsAnew : ℕ → Ends → Reply → Type 0
ReadsAnew id p (replies.Read (Some message)) = (own_a own_b : ℕ) (w : Courses) → StandBetween own_a own_b id p w
    → IsAnew p.packets_a own_a id message w.ab
ReadsAnew id p reply = ⊤

-- What was read of a course is divided by each performed request that names the stream.
abbrev pub IsParted : Course → Type 0
IsParted c = (k : ℕ) → k < c.performed → is_named c.asked k ≡ true
    → AllByRecursion (IsDivided (boundary_at c.asked k) (c.past k)) c.told

-- Of a pair that stood between courses a step led these on to v, whose senders sent no more than can be seen of them.
-- What was read is divided, what was read of the other direction stays, a request that ended in success was performed
-- and divides what was read from then on, and the pair stands between the courses still.
pub record IsPartedBy (own_a own_b id : ℕ) (step : Step) (p : Ends) (reply : Reply) (q : Ends) (w v : Courses)
    : Type 0 where
  pub ab_goes : GoesTo w.ab v.ab
  pub ba_goes : GoesTo w.ba v.ba
  pub ab_grows : GrowsAsSeen (polls_side sides.A step) p.a q.a w.ab v.ab
  pub ba_grows : GrowsAsSeen (polls_side sides.B step) p.b q.b w.ba v.ba
  pub ab_parted : IsParted v.ab
  pub ba_parted : IsParted v.ba
  pub ab_stays : message_read step reply sides.B id ≡ None → v.ab.told ≡ w.ab.told
  pub ba_stays : message_read step reply sides.A id ≡ None → v.ba.told ≡ w.ba.told
  pub ab_performed : AreFew v → EndsReset p.a q.a id → is_to_be_reset v.ab ≡ false
  pub ba_performed : AreFew v → EndsReset p.b q.b id → is_to_be_reset v.ba ≡ false
  pub ab_ended : AreFew v → (s : SentRequest) → p.a.resets.own.active ≡ Some s → EndsReset p.a q.a id
      → IsDividedBy own_a s v.ab
  pub ba_ended : AreFew v → (s : SentRequest) → p.b.resets.own.active ≡ Some s → EndsReset p.b q.b id
      → IsDividedBy own_b s v.ba
  pub ab_stays_divided : (s : SentRequest) → IsDividedBy own_a s w.ab → IsDividedBy own_a s v.ab
  pub ba_stays_divided : (s : SentRequest) → IsDividedBy own_b s w.ba → IsDividedBy own_b s v.ba
  pub stands : AreFew v → StandBetween own_a own_b id q v

abbrev pub PartsOnceMore : Step → Ends → Reply → Ends → Type 0
PartsOnceMore step p reply q = (own_a own_b id : ℕ) (w : Courses) → NamesIdentifiers step
    → StandBetween own_a own_b id p w → (v : Courses) × IsPartedBy own_a own_b id step p reply q w v

-- All steps of a pair that two tokens joined, or of a client and a server, which gave out nothing before them and has
-- this payload size at both sides. Whichever the stream, the boundaries of its resets are kept along them. Where each
-- side accepts few pieces in all, what was read on the stream after each of them was written by the other side, whole,
-- and none was read twice, as long as few requests and offsets were sent.
pub record AcrossFromNew (size own_a own_b : ℕ) (ss : List Step) (rs : List Reply) : Type 0 where
  pub begin : Ends
  pub fresh : StandsFresh own_a own_b begin
  pub silent : (begin.packets_a ≡ []) × (begin.packets_b ≡ [])
  pub end : Ends
  pub led : Runs ss rs begin end
  pub keep : (id : ℕ) → AllByRecursion NamesIdentifiers ss
      → KeepAlong own_a own_b id ss rs begin fresh_courses end
  pub read : (id : ℕ) → AllByRecursion NamesIdentifiers ss → AcceptFew size size ss rs
      → AreReadAlong (record { size_a = size; size_b = size; initial_a = own_a; initial_b = own_b }) id [] [] ss rs
      begin fresh_courses end

-- By the steps and their replies alone: where each stop and each close of a stream names an identifier of 16 bits, each
-- side accepts fewer than 16,384 pieces in all, of at most so many bytes each, and is asked fewer than 2^31 times for
-- packets to send, what was read on any stream was written by the other side, whole, and none was read twice.
abbrev pub WrittenFromNew : ℕ → List Step → List Reply → Type 0
WrittenFromNew size ss rs = AllByRecursion NamesIdentifiers ss → AcceptFew size size ss rs → PollsAreFew ss → (id : ℕ)
    → WereWritten id ss rs

-- By the same premises each end of a stream that a reply tells of is of a stream that a step closed before, at either
-- side.
abbrev pub EndedFromNew : ℕ → List Step → List Reply → Type 0
EndedFromNew size ss rs = AllByRecursion NamesIdentifiers ss → AcceptFew size size ss rs → PollsAreFew ss
    → AreOfClosed [] ss rs
