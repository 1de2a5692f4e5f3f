-- What a caller of a pair can tell of a stream across its resets (RFC 6525) by steps and their replies alone: what was
-- read was written, also where the stream was stopped or closed in between.
use Rattle.std.specs.Prelude.{◌≡◌, ◌<◌, ◌+◌, ◌^◌, ℕ, if◌then◌else◌, List, [], ◌∷◌, ◌++◌}
use Rattle.std.specs.List.{AllByRecursion}
use Rattle.sctp_wire_types.specs.Ids.{number_of}
use Rattle.sctp_receive_queues.specs.Messages.{ReceivedMessage}
use Rattle.sctp_model.specs.Messages.{Plan, message_at}
use Rattle.sctp_model.specs.Safe.{AreDistinct}
use Rattle.sctp_reset_fit.specs.Pieces.{IsMadeOf}
use Rattle.sctp_plans.specs.Plans.{IsAccepted}
use Rattle.sctp_assoc.specs.declared.call.Reply.{Reply}
use Rattle.sctp_steps.specs.declared.step.Side2.{Side2}
use Rattle.sctp_steps.specs.declared.step.Side2.TheVariants as sides
use Rattle.sctp_steps.specs.declared.step.Step.{Step}
use Rattle.sctp_steps.specs.Ends.{Ends}
use Rattle.sctp_steps.specs.Seen.{other_side}
use Rattle.sctp_steps.specs.Steps.{Steps}
use Rattle.sctp_boundaries.specs.Between.{AreFew, Courses, IsGivenOut}
use Rattle.sctp_boundaries.specs.Laws.{LeadsBoth, NamesIdentifiers, StandsFresh, fresh_courses, polls_side}
use Rattle.sctp_closed_between.specs.Between.{AreOfClosed, BeginsUnclosed}
use Rattle.sctp_pair.specs.Callers.{AreAt, CameBy, Made, StaysFew, messages_read, messages_written, tally_of}
use Rattle.sctp_pair.specs.World.{World}
use Rattle.sctp_pair.specs.Fits.{Fits}

-- What was given out was accepted

-- A message of stream id that is made of these packets' DATA was accepted there, whole and under its payload type.
abbrev pub WasAccepted : List (List ℕ) → ℕ → Plan → Type 0
WasAccepted packets initial p = (id : ℕ) (m : ReceivedMessage) → (made : IsMadeOf (IsGivenOut packets) id m)
    → (a : IsAccepted initial id p m made.pieces)
    × (number_of m.payload_type ≡ (message_at p id a.number).payload_type)

-- In each world that a pair fits, whatever is made of DATA that a side gave out is a message that this side accepted,
-- on streams past their span, too.
abbrev pub WhatWasGivenOutWasAccepted : Type 0
WhatWasGivenOutWasAccepted = (p : Ends) (w : World) → Fits p w
    → WasAccepted p.packets_a w.initial_a w.ab.sender.plan × WasAccepted p.packets_b w.initial_b w.ba.sender.plan

-- What was read was written

-- Each message that either side read on stream id was written by the other side, whole, and is read at most once,
-- whether the stream was reset in between or not.
abbrev pub WereWritten : ℕ → List Step → List Reply → Type 0
WereWritten id ss rs = (x : Side2)
    → (indexes : List ℕ) × AreDistinct indexes
    × AreAt (messages_read ss rs (other_side x) id) indexes (messages_written ss rs x id)

-- how often these steps ask side x for packets to send
abbrev pub polls_in : Side2 → List Step → ℕ
polls_in x [] = 0
polls_in x (step ∷ steps) = (if polls_side x step then 1 else 0) + polls_in x steps

-- So few that the requests of each side, of which a poll sends one at most for the first time, are told apart by their
-- numbers (RFC 6525 section 4.1): with a poll each millisecond that lasts for 24 days.
pub record PollsAreFew (ss : List Step) : Type 0 where
  pub of_a : polls_in sides.A ss < 2 ^ 31
  pub of_b : polls_in sides.B ss < 2 ^ 31

-- Behind the steps that are done, with their answers, these lead on a pair that stands between courses of stream id.
-- The boundaries of its resets are kept along them; and as long as few requests and offsets were sent in either
-- direction, what was read on the stream so far was written.
abbrev pub AreReadAlong : Made → ℕ → List Step → List Reply → List Step → List Reply → Ends → Courses → Ends → Type 0
AreReadAlong m id done answers [] [] p c q = q ≡ p
AreReadAlong m id done answers (s ∷ ss) (r ∷ rs) p c q =
    (u : Ends) × Steps s p r u × (l : LeadsBoth m.initial_a m.initial_b id s p r u c)
    × (AreFew l.after → WereWritten id (done ++ s ∷ []) (answers ++ r ∷ [])
    × AreReadAlong m id (done ++ s ∷ []) (answers ++ r ∷ []) ss rs u l.after q)
AreReadAlong m id done answers [] (r ∷ rs) p c q = ⊥
AreReadAlong m id done answers (s ∷ ss) [] p c q = ⊥

-- These are all steps of a pair since it was new, with their replies, and it is p now. When it was new it stood between
-- fresh courses of every stream; and each stop and each close of a stream names an identifier of 16 bits.
pub record CameFresh (m : Made) (ss : List Step) (rs : List Reply) (p : Ends) : Type 0 where
  pub came : CameBy m ss rs p
  pub fresh : StandsFresh m.initial_a m.initial_b came.begin
  pub named : AllByRecursion NamesIdentifiers ss

-- These are all steps of a pair since it was new and stood so, with their replies, and it is p now. Whichever the
-- stream, what was read on it was written: after each of these steps as long as few requests and offsets were sent; and
-- after all of them, whatever was sent, where few of them ask for packets to send.
pub record ReadSinceNew (m : Made) (begin : Ends) (ss : List Step) (rs : List Reply) (p : Ends) : Type 0 where
  pub fresh : CameFresh m ss rs p
  pub same : fresh.came.begin ≡ begin
  pub along : (id : ℕ) → AreReadAlong m id [] [] ss rs begin fresh_courses p
  pub written : PollsAreFew ss → (id : ℕ) → WereWritten id ss rs

-- Whatever steps led to p, these follow them as its next ones and lead to q, where few pieces stay unacknowledged in
-- them and few messages unread; and so it reads on.
abbrev pub ReadsOn : List Step → List Reply → Ends → Ends → Type 0
ReadsOn more answers p q =
    (m : Made) (ss : List Step) (rs : List Reply) → (c : CameFresh m ss rs p)
    → StaysFew m (tally_of m ss rs) more answers p → AllByRecursion NamesIdentifiers more
    → ReadSinceNew m c.came.begin (ss ++ more) (rs ++ answers) q

-- What ends was closed

-- Whatever steps led to p since the pair was new and nothing of it was closed, these follow them as its next ones and
-- lead to q, where few pieces stay unacknowledged in them and few messages unread. Each end of a stream that any reply
-- since then tells of is of a stream that a step closed before, at either side, where few of all steps ask for packets
-- to send.
abbrev pub EndsOn : List Step → List Reply → Ends → Ends → Type 0
EndsOn more answers p q =
    (m : Made) (ss : List Step) (rs : List Reply) → (c : CameFresh m ss rs p) → BeginsUnclosed c.came.begin
    → StaysFew m (tally_of m ss rs) more answers p → AllByRecursion NamesIdentifiers more → PollsAreFew (ss ++ more)
    → AreOfClosed [] (ss ++ more) (rs ++ answers)
