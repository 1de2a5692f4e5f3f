-- Which worlds a pair may stand in, and the promise of its steps.
use Rattle.std.specs.Prelude.{◌≡◌, ℕ, Bool, true, false, ◌⊎◌, List, [], ◌∷◌, is_some, ⊤}
use Rattle.std.specs.List.{AllByRecursion}
use Rattle.sctp_wire_types.specs.declared.chunk.Chunk.{Chunk}
use Rattle.sctp_wire_types.specs.declared.chunk.Chunk.TheVariants as chunks
use Rattle.sctp_model.specs.Machine.{Direction}
use Rattle.sctp_assoc.specs.Leads.{Binds, parts}
use Rattle.sctp_directions.specs.Acts.{HasReadOpen, History, IsKeptInOrder}
use Rattle.sctp_assoc.specs.Calls.{is_established}
use Rattle.sctp_assoc.specs.Closing.{is_closed_state}
use Rattle.sctp_sides.specs.Ending.{IsInOrderOrLost}
use Rattle.sctp_sides.specs.Meeting.{Greets, HasCome, IsDoneAmongClients, IsTruthful, MayHear, Stage, stage_of}
use Rattle.sctp_sides.specs.NoReset.{HasNoReset}
use Rattle.sctp_sides.specs.PastSpan.{ResetsPast, ResetsPastOnly}
use Rattle.sctp_sides.specs.Restarts.{ActiveIsQuiet}
use Rattle.sctp_sides.specs.SideLaws.{HoldsNothing, OfEachChunk}
use Rattle.sctp_assoc.specs.Shown.{Shown}
use Rattle.sctp_directions.specs.Said.{Says}
use Rattle.sctp_directions.specs.Between.{FitsBetween, IsSound}
use Rattle.sctp_assoc.specs.declared.call.Reply.{Reply}
use Rattle.sctp_steps.specs.declared.step.Step.{Step}
use Rattle.sctp_steps.specs.Ends.{Ends}
use Rattle.sctp_assoc.specs.Replies.{packet_in}
use Rattle.sctp_plans.specs.Plans.{IsAcceptedPiece}
use Rattle.sctp_pair.specs.World.{IsSafeWorld, IsWithinLimits, IsWorldStep, World}

-- An association that was neither lost nor failed (a server that listens, in state Closed, is one, too) stands between
-- its own direction and the one that comes to it; own and peer are their initial TSNs. What it knows of the peer's is
-- true. The loose streams are those that a step set to send other messages than ordered, reliable ones. Its resets
-- concern streams past their span alone (RFC 6525 section 5).
pub record StandsOpen (loose : ℕ → Bool) (own peer : ℕ) (a : Shown) (out coming : Direction) : Type 0 where
  pub past : History
  pub own_is : past.own ≡ own
  pub peer_is : is_some a.handshake.peer_initial_tsn ≡ true → past.peer ≡ peer
  pub binds : Binds a past
  pub working : a.failed ≡ false
  pub come : HasCome a
  pub present : a.lost ≡ false
  pub truthful : IsTruthful own a
  pub size : out.sender.plan.size ≡ a.sender.max_payload_size
  pub between : FitsBetween (parts a past) out coming
  -- a stream within its span sends ordered, reliable messages as long as no step sets it otherwise
  pub in_order : (s : ℕ) → out.over s ≡ false → loose s ≡ false → IsKeptInOrder a.streams s
  -- and it can be read
  pub reads_open : (s : ℕ) → coming.over s ≡ false → HasReadOpen a.streams s
  pub resets : ResetsPastOnly coming.over a

-- A closed one is lost and receives nothing more, the streams that were opened since then are empty, and what waits to
-- go out is truthful; no reset of a stream is under way.
pub record StandsClosed (own : ℕ) (a : Shown) (coming : Direction) : Type 0 where
  pub closed : is_closed_state a.state ≡ true
  pub unestablished : is_established a.state ≡ false
  pub lost : a.lost ≡ true
  pub stopped : coming.receiver.is_open ≡ false
  pub nothing_left : HoldsNothing a
  pub truthful : IsTruthful own a
  pub no_reset : HasNoReset a

-- One that failed does nothing more.
pub record StandsFailed (a : Shown) (coming : Direction) : Type 0 where
  pub failed : a.failed ≡ true
  pub stopped : coming.receiver.is_open ≡ false

abbrev pub Stands : (ℕ → Bool) → ℕ → ℕ → Shown → Direction → Direction → Type 0
Stands loose own peer a out coming =
    StandsOpen loose own peer a out coming ⊎ (StandsClosed own a coming ⊎ StandsFailed a coming)

-- an association that did not fail is in this stage of its handshake; a failed one may be in any stage
-- of which its packets say what is so
abbrev pub IsAt : Shown → Stage → Type 0
IsAt a s = a.failed ≡ false → stage_of a ≡ s

-- The stages of two sides agree: where both are clients, both are established or were; and where one is, or was, its
-- DATA may come to the other.
pub record StagesAgree (s t : Stage) : Type 0 where
  pub one : IsDoneAmongClients s t
  pub other : IsDoneAmongClients t s
  pub hears : t.completed ≡ true → MayHear s
  pub heard : s.completed ≡ true → MayHear t

-- a side that was never established has assigned no offset
abbrev pub IsSilent : Stage → Direction → Type 0
IsSilent s w = s.completed ≡ false → w.sender.plan.places ≡ []

-- DATA is a piece of a message that the sender of its direction accepted, also past the stream's span
abbrev pub IsPieceIfData : ℕ → Direction → Chunk → Type 0
IsPieceIfData own out (chunks.Data piece) = IsAcceptedPiece own out.sender.plan piece
IsPieceIfData own out chunk = ⊤

-- a chunk that a side in this stage gives out: DATA or FORWARD TSN of its own direction, a SACK for the one that comes
-- to it, its handshake's, an ABORT, an ERROR, a shutdown's, or a RE-CONFIG that resets streams past their span or
-- responds to one
abbrev pub IsSaidBy : ℕ → ℕ → Stage → Direction → Direction → Chunk → Type 0
IsSaidBy own peer s out coming chunk =
    (Says own peer out coming chunk × IsPieceIfData own out chunk) ⊎ (Greets own s chunk ⊎ ResetsPast out.over chunk)

-- each datagram that a side gave out, if it spells a packet, is of such chunks
abbrev pub AreSaid : ℕ → ℕ → Stage → Direction → Direction → List (List ℕ) → Type 0
AreSaid own peer s out coming packets =
    AllByRecursion (λ (bytes : List ℕ). OfEachChunk (IsSaidBy own peer s out coming) (packet_in bytes)) packets

-- the shutdown of an association that did not fail goes on in order, as that there is nothing left to send while it
-- waits for an answer, or it was lost (RFC 4960 section 9.2)
abbrev pub EndsInOrder : Shown → Type 0
EndsInOrder a = a.failed ≡ false → IsInOrderOrLost a

-- an association that did not fail has no DATA waiting or in flight of the streams that its active request resets
-- (RFC 6525 section 5.1.2)
abbrev pub ResetsQuietly : Shown → Type 0
ResetsQuietly a = a.failed ≡ false → ActiveIsQuiet a

-- A pair stands in a world: both directions are sound, the same streams are past their span in both, and both sides
-- stand between them.
pub record StandsIn (p : Ends) (w : World) : Type 0 where
  pub is : p ≡ w.ends
  pub sound_ab : IsSound w.ab
  pub sound_ba : IsSound w.ba
  pub spans : (s : ℕ) → w.ab.over s ≡ w.ba.over s
  pub side_a : Stands w.loose_a w.initial_a w.initial_b w.ends.a w.ab w.ba
  pub side_b : Stands w.loose_b w.initial_b w.initial_a w.ends.b w.ba w.ab
  pub stage_a : Stage
  pub stage_b : Stage
  pub at_a : IsAt w.ends.a stage_a
  pub at_b : IsAt w.ends.b stage_b
  pub meets : StagesAgree stage_a stage_b
  pub silent_a : IsSilent stage_a w.ab
  pub silent_b : IsSilent stage_b w.ba
  pub said_a : AreSaid w.initial_a w.initial_b stage_a w.ab w.ba w.ends.packets_a
  pub said_b : AreSaid w.initial_b w.initial_a stage_b w.ba w.ab w.ends.packets_b
  pub ends_a : EndsInOrder w.ends.a
  pub ends_b : EndsInOrder w.ends.b
  pub quiet_a : ResetsQuietly w.ends.a
  pub quiet_b : ResetsQuietly w.ends.b

-- It fits the world where that is within the limits, too.
pub record Fits (p : Ends) (w : World) : Type 0 where
  pub within : IsWithinLimits w
  pub stand : StandsIn p w

-- One step leads to a next world, in which the pair stands then; where that is within the limits, it is safe.
abbrev pub LeadsSafely : Step → Reply → World → Ends → Type 0
LeadsSafely step reply w q =
    (v : World) × IsWorldStep step w reply v × StandsIn q v × (IsWithinLimits v → IsSafeWorld v)

-- The steps with these replies lead from world to world, from w on, and the pair stands in each. As long as each so far
-- is within the limits, it is safe too, and so it goes on; in the last one the pair fits.
abbrev pub RunsSafely : List Step → List Reply → World → Ends → Type 0
RunsSafely [] [] w q = Fits q w
RunsSafely (s ∷ ss) (r ∷ rs) w q =
    (v : World) × IsWorldStep s w r v × StandsIn v.ends v × (IsWithinLimits v → IsSafeWorld v × RunsSafely ss rs v q)
RunsSafely [] (r ∷ rs) w q = ⊥
RunsSafely (s ∷ ss) [] w q = ⊥
