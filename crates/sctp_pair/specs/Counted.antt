-- Steps of a pair at which few pieces wait to be acknowledged and few messages to be read: who makes the steps counts
-- its own writes and reads, looks at the pair, and needs no other premise.
use Rattle.std.specs.Prelude.{◌≡◌, ℕ, ◌<◌, ◌≤◌, ◌+◌, ◌-◌, ◌^◌, ◌&&◌, ◌==◌, false, if◌then◌else◌, is_some, List, [], ◌∷◌}
use Rattle.std.specs.Prelude.{length, Option, Some}
use Rattle.sctp_serial.specs.Serial.{tsn_past}
use Rattle.sctp_fit.specs.FewPieces.{HasAccepted, pieces_in}
use Rattle.sctp_assoc.specs.Shown.{Shown}
use Rattle.sctp_assoc.specs.declared.call.Reply.{Reply}
use Rattle.sctp_assoc.specs.declared.call.Reply.TheVariants as replies
use Rattle.sctp_steps.specs.declared.step.Side2.{Side2}
use Rattle.sctp_steps.specs.declared.step.Side2.TheVariants as sides
use Rattle.sctp_steps.specs.declared.step.Step.{Step}
use Rattle.sctp_steps.specs.Ends.{Ends}
use Rattle.sctp_steps.specs.Steps.{Writing, writing_of}
use Rattle.sctp_steps.specs.Seen.{is_side, message_read}
use Rattle.sctp_pair.specs.World.{IsSafeWorld, IsWorldStep, World}
use Rattle.sctp_pair.specs.Fits.{Fits}

-- What a step and its reply tell

abbrev pub pieces_accepted : ℕ → Side2 → Option Writing → Reply → ℕ
pieces_accepted size x (Some writing) (replies.Wrote count) =
    if is_side writing.side x then pieces_in size (length writing.bytes) else 0
pieces_accepted size x writing reply = 0

-- the pieces, of at most `size` bytes each, of the message that this side accepted by the step, if that is such a write
abbrev pub pieces_of : ℕ → Side2 → Step → Reply → ℕ
pieces_of size x step reply = pieces_accepted size x (writing_of step) reply

abbrev pub one_accepted : Option Writing → Reply → Side2 → ℕ → ℕ
one_accepted (Some writing) (replies.Wrote count) x s = if is_side writing.side x && (writing.id == s) then 1 else 0
one_accepted writing reply x s = 0

-- 1 where this side accepted a message on stream s by the step, else 0
abbrev pub one_written : Step → Reply → Side2 → ℕ → ℕ
one_written step reply x s = one_accepted (writing_of step) reply x s

-- 1 where this side read a message on stream s by the step, else 0
abbrev pub one_read : Step → Reply → Side2 → ℕ → ℕ
one_read step reply x s = if is_some (message_read step reply x s) then 1 else 0

-- A count kept over steps

-- The pieces of the messages that A and B accepted so far; and by stream, how many messages A accepted that B did not
-- read so far, and how many B accepted that A did not read.
pub record Tally : Type 0 where
  pub pieces_a : ℕ
  pub pieces_b : ℕ
  pub unread_a : ℕ → ℕ
  pub unread_b : ℕ → ℕ

-- nothing was accepted
abbrev pub nothing_tallied : Tally
nothing_tallied = record { pieces_a = 0; pieces_b = 0; unread_a = λ s. 0; unread_b = λ s. 0 }

-- the tally after a step with this reply, where A puts at most size_a bytes of a message into a piece, B at most size_b
abbrev pub tallied : ℕ → ℕ → Step → Reply → Tally → Tally
tallied size_a size_b step reply t = record {
  pieces_a = t.pieces_a + pieces_of size_a sides.A step reply;
  pieces_b = t.pieces_b + pieces_of size_b sides.B step reply;
  unread_a = λ s. t.unread_a s + one_written step reply sides.A s - one_read step reply sides.B s;
  unread_b = λ s. t.unread_b s + one_written step reply sides.B s - one_read step reply sides.A s;
}

-- What may be counted

-- neither failed nor lost
pub record IsPresent (a : Shown) : Type 0 where
  pub working : a.failed ≡ false
  pub kept : a.lost ≡ false

-- How many TSNs of this side, of which `initial` is the first, the peer acknowledged cumulatively, as the association
-- shows it: those in front of the first one in flight, or of the next one where none is.
abbrev pub acknowledged_of : ℕ → Shown → ℕ
acknowledged_of initial a = tsn_past initial a.sender.queue.first_tsn

-- A side accepted fewer than 2^31 pieces in all. Fewer than 16,384 of them were not acknowledged, as it shows, when the
-- call began (one that had failed or was lost sends no new piece, and that is not asked of it). And on each stream
-- fewer than 32,768 of its messages wait to be read.
pub record IsFew (pieces : ℕ) (unread : ℕ → ℕ) (initial : ℕ) (a : Shown) : Type 0 where
  pub all : pieces < 2 ^ 31
  pub flight : IsPresent a → pieces < acknowledged_of initial a + 16384
  pub waiting : (s : ℕ) → unread s < 32768

-- So it is of both sides. `begin` is the pair as it was when the call began: the call of `step`, or of `run` with all
-- of its steps.
pub record AreFew (t : Tally) (initial_a initial_b : ℕ) (begin : Ends) : Type 0 where
  pub of_a : IsFew t.pieces_a t.unread_a initial_a begin.a
  pub of_b : IsFew t.pieces_b t.unread_b initial_b begin.b

-- A pair fits a world that the tally counts: the messages that were accepted have at most so many pieces, and on each
-- stream, also past its span, no more of them were accepted than were read and are counted as unread, together.
pub record FitsCounted (t : Tally) (p : Ends) (w : World) : Type 0 where
  pub fits : Fits p w
  pub of_a : HasAccepted t.pieces_a w.ab
  pub of_b : HasAccepted t.pieces_b w.ba
  pub unread_a : (s : ℕ) → length (w.ab.sender.plan.accepted s) ≤ length (w.ab.reads s) + t.unread_a s
  pub unread_b : (s : ℕ) → length (w.ba.sender.plan.accepted s) ≤ length (w.ba.reads s) + t.unread_b s

-- The tally after a step from this world. The payload sizes are those that the pair was made with, and stay
-- (`IsDirectionStep.size`).
abbrev pub tallied_in : World → Step → Reply → Tally → Tally
tallied_in w step reply t = tallied w.ab.sender.plan.size w.ba.sender.plan.size step reply t

-- One step leads to a next world. Where the tally after it is of few, counted from how the pair was before the step,
-- that world is safe, and the pair fits it with this tally.
abbrev pub LeadsCounted : Step → Reply → World → Tally → Ends → Type 0
LeadsCounted step reply w t q =
    (v : World) × IsWorldStep step w reply v
    × (AreFew (tallied_in w step reply t) w.initial_a w.initial_b w.ends
    → IsSafeWorld v × FitsCounted (tallied_in w step reply t) q v)

-- The steps with these replies lead from world to world, from w on. As long as the tally after each is of few, counted
-- from how the pair was when the run began, each world is safe, and the pair fits it.
abbrev pub RunsCounted : List Step → List Reply → World → Tally → Ends → Ends → Type 0
RunsCounted [] [] w t begin q = FitsCounted t q w
RunsCounted (s ∷ ss) (r ∷ rs) w t begin q =
    (v : World) × IsWorldStep s w r v
    × (AreFew (tallied_in w s r t) w.initial_a w.initial_b begin
    → IsSafeWorld v × FitsCounted (tallied_in w s r t) v.ends v
    × RunsCounted ss rs v (tallied_in w s r t) begin q)
RunsCounted [] (r ∷ rs) w t begin q = ⊥
RunsCounted (s ∷ ss) [] w t begin q = ⊥
