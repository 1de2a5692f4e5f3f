-- The order of a shutdown at one side (RFC 4960 section 9.2).
use Rattle.std.specs.Prelude.{◌≡◌, ◌⊎◌, ◌||◌, ℕ, Bool, true, false, length, None, ⊤}
use Rattle.sctp_parts.specs.declared.state.AssociationState.{AssociationState}
use Rattle.sctp_parts.specs.declared.state.AssociationState.TheVariants as states
use Rattle.sctp_parts.specs.declared.timer.Timer.TheVariants as names
use Rattle.sctp_assoc.specs.declared.shutdown.ShutdownDue.{ShutdownDue}
use Rattle.sctp_assoc.specs.Calls.{write_refusal}
use Rattle.sctp_assoc.specs.Gather.{open_polled}
use Rattle.sctp_assoc.specs.Shown.{Shown}
use Rattle.sctp_assoc.specs.Shutdown.{all_acknowledged, awaits_answer, completes_shutdown, shutdown_refusal}
use Rattle.sctp_sides.specs.OneSide.{Call, carried_out, is_armed}
use Rattle.sctp_sides.specs.Witnesses.{is_waiting_for_data}

-- a chunk of a shutdown is due
abbrev pub is_any_due : ShutdownDue → Bool
is_any_due due = due.shutdown || due.shutdown_ack || due.shutdown_complete

-- a chunk of a shutdown is due, or the timer of the answer runs
abbrev pub IsDueOrTimed : ShutdownDue → Bool → Type 0
IsDueOrTimed due timed = (is_any_due due ≡ true) ⊎ (timed ≡ true)

-- Whether all DATA of a side is acknowledged, its state, which chunks of a shutdown are due, and whether the timer of
-- the answer runs: while SHUTDOWN or SHUTDOWN ACK waits for its answer all DATA is acknowledged, while it waits for
-- DATA some is not, and chunks of a shutdown are due, and the timer runs, where an answer is awaited alone, and
-- SHUTDOWN ACK is due in ShutdownAckSent alone (SHUTDOWN may be due there too, where SHUTDOWN of the peer came before
-- it went out, and SHUTDOWN COMPLETE in both states). Where an answer is awaited one of them is due or the timer runs,
-- so that a shutdown does not stop for good.
pub record AreInOrder (acknowledged : Bool) (state : AssociationState) (due : ShutdownDue) (timed : Bool)
    : Type 0 where
  pub behind_data : awaits_answer state ≡ true → acknowledged ≡ true
  pub before_data : is_waiting_for_data state ≡ true → acknowledged ≡ false
  pub asked : is_any_due due ≡ true → awaits_answer state ≡ true
  pub agreed : due.shutdown_ack ≡ true → state ≡ states.ShutdownAckSent
  pub answered : timed ≡ true → awaits_answer state ≡ true
  pub lives : awaits_answer state ≡ true → IsDueOrTimed due timed

-- Of an association that is so.
pub record IsInOrder (a : Shown) : Type 0 where
  pub order : AreInOrder (all_acknowledged a) a.state a.shutdown_due (is_armed names.T2Shutdown a.timers)

-- its shutdown goes on in order, or it was lost
abbrev pub IsInOrderOrLost : Shown → Type 0
IsInOrderOrLost a = IsInOrder a ⊎ (a.lost ≡ true)

-- a write and a shutdown are made where they are not refused; what is said here of any other call holds wherever it is
-- made
abbrev pub IsMade : Call → Shown → Type 0
IsMade (Call.Write id named bytes) a = write_refusal a id (length bytes) ≡ None
IsMade Call.Shutdown a = shutdown_refusal a ≡ None
IsMade call a = ⊤

-- Each call that is carried out leaves it so.
abbrev pub ShutdownsStayInOrder : Type 0
ShutdownsStayInOrder = (call : Call) (a : Shown) → IsMade call a → (carried_out call a).0.failed ≡ false
    → IsInOrderOrLost a → IsInOrderOrLost (carried_out call a).0

-- A poll gives SHUTDOWN COMPLETE where that was due before it alone: if it gives up the last DATA, SHUTDOWN or SHUTDOWN
-- ACK goes out first.
abbrev pub PollsCompleteWhatIsDue : Type 0
PollsCompleteWhatIsDue = (a : Shown) (now : ℕ) → completes_shutdown (open_polled a now).0 ≡ true
    → a.shutdown_due.shutdown_complete ≡ true
