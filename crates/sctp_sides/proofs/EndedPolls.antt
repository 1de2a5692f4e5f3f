-- What the end of a poll for packets leaves of its front. A chunk of a shutdown goes out last, where one is due:
-- SHUTDOWN and SHUTDOWN ACK change which of these chunks are due, and the timer of the answer; SHUTDOWN COMPLETE
-- closes.
use Rattle.std.proofs.Common.{◌≡◌, refl, sym, subst, ℕ, Bool, true, false, ◌&&◌, not, if◌then◌else◌, List, [], ◌++◌}
use Rattle.std.proofs.lemmas.Bool.{cond-false, false≢true}
use Rattle.sctp_wire_types.specs.declared.chunk.Chunk.TheVariants as chunks
use Rattle.sctp_parts.specs.declared.state.AssociationState.{AssociationState}
use Rattle.sctp_parts.specs.declared.state.AssociationState.TheVariants as states
use Rattle.sctp_parts.specs.State.{is_closing}
use Rattle.sctp_parts.specs.Timers.{TimerState}
use Rattle.sctp_streams.specs.declared.event.AssociationError.TheVariants as reasons
use Rattle.sctp_assoc.specs.declared.shutdown.ShutdownDue.{ShutdownDue}
use Rattle.sctp_assoc.specs.Closing.{closed_by, closed_open, is_closed_state}
use Rattle.sctp_assoc.specs.Gather.{open_polled, polled, shutdown_packet, shutdown_polled, with_complete_given}
use Rattle.sctp_assoc.specs.Shown.{Shown}
use Rattle.sctp_assoc.specs.Shutdown.{all_acknowledged, completes_shutdown, shutdown_ack_sent, shutdown_continued}
use Rattle.sctp_assoc.specs.Shutdown.{shutdown_sent, state_behind_data}
use Rattle.sctp_assoc.proofs.PartsOfPolls.{both_first, both_second}

-- States

pub closing_is_open : (state : AssociationState) → is_closing state ≡ true → is_closed_state state ≡ false
closing_is_open states.Closed e = absurd (false≢true e)
closing_is_open states.CookieWait e = refl
closing_is_open states.CookieEchoed e = refl
closing_is_open states.Established e = refl
closing_is_open states.ShutdownAckSent e = refl
closing_is_open states.ShutdownPending e = refl
closing_is_open states.ShutdownReceived e = refl
closing_is_open states.ShutdownSent e = refl

behind_data_closed : (state : AssociationState) → is_closed_state (state_behind_data state) ≡ is_closed_state state
behind_data_closed states.Closed = refl
behind_data_closed states.CookieWait = refl
behind_data_closed states.CookieEchoed = refl
behind_data_closed states.Established = refl
behind_data_closed states.ShutdownAckSent = refl
behind_data_closed states.ShutdownPending = refl
behind_data_closed states.ShutdownReceived = refl
behind_data_closed states.ShutdownSent = refl

closed_if : (acknowledged : Bool) (state : AssociationState)
    → is_closed_state (if acknowledged then state_behind_data state else state) ≡ is_closed_state state
closed_if true state = behind_data_closed state
closed_if false state = refl

-- where a shutdown goes on behind DATA it is closed if it was
pub continued_closed : (a : Shown) → is_closed_state (shutdown_continued a).state ≡ is_closed_state a.state
continued_closed a = closed_if (all_acknowledged a) a.state

-- The end of a poll

-- these chunks of a shutdown are due, and this is the timer of the answer
abbrev pub with_answer_timed : Shown → ShutdownDue → TimerState → Shown
with_answer_timed m due timer = record m {
  shutdown_due = due;
  timers = (let t = m.timers in record t { t2_shutdown = timer });
}

-- SHUTDOWN COMPLETE is due no more
abbrev pub complete_given : Shown → Shown
complete_given m = record m { shutdown_due = (let due = m.shutdown_due in record due { shutdown_complete = false }) }

-- closed by that
abbrev pub ended_shutdown : Shown → Shown
ended_shutdown m = closed_open (complete_given m) reasons.AssociationClosed

pub ended_is_closed : (m : Shown) → is_closed_state m.state ≡ false
    → closed_by (complete_given m) reasons.AssociationClosed ≡ ended_shutdown m
ended_is_closed m e = cond-false (is_closed_state m.state) (complete_given m) (ended_shutdown m) e

module _ (closing shutdown shutdown_ack complete : Bool) where
  abbrev given_if : Shown → ℕ → Shown × List (List ℕ)
  given_if m now =
      if not closing then (m, []) else
      if shutdown then (shutdown_sent m now, shutdown_packet m (chunks.Shutdown m.receiver.peer_last_tsn)) else
      if shutdown_ack then (shutdown_ack_sent m now, shutdown_packet m chunks.ShutdownAck) else
      if complete then with_complete_given m else (m, [])

  abbrev completes_if : Bool
  completes_if = closing && not shutdown && not shutdown_ack && complete

-- What holds where only the due chunks and the timer of the answer changed, and where SHUTDOWN COMPLETE closed, holds
-- behind a poll's end.
module _ (P : Shown → Type 0) (m : Shown) (now : ℕ) where
  by_end_if : (closing shutdown shutdown_ack complete : Bool) → is_closing m.state ≡ closing
      → (completes_if closing shutdown shutdown_ack complete ≡ false
      → (due : ShutdownDue) (timer : TimerState) → P (with_answer_timed m due timer))
      → (completes_if closing shutdown shutdown_ack complete ≡ true → is_closed_state m.state ≡ false
      → P (ended_shutdown m))
      → P (given_if closing shutdown shutdown_ack complete m now).0
  by_end_if false shutdown shutdown_ack complete e on over = on refl m.shutdown_due m.timers.t2_shutdown
  by_end_if true true shutdown_ack complete e on over =
      on refl (shutdown_sent m now).shutdown_due (shutdown_sent m now).timers.t2_shutdown
  by_end_if true false true complete e on over =
      on refl (shutdown_ack_sent m now).shutdown_due (shutdown_ack_sent m now).timers.t2_shutdown
  by_end_if true false false true e on over =
      let open_still = closing_is_open m.state e in
      subst P (sym (ended_is_closed m open_still)) (over refl open_still)
  by_end_if true false false false e on over = on refl m.shutdown_due m.timers.t2_shutdown

  pub by_end : (completes_shutdown m ≡ false → (due : ShutdownDue) (timer : TimerState)
      → P (with_answer_timed m due timer))
      → (completes_shutdown m ≡ true → is_closed_state m.state ≡ false → P (ended_shutdown m))
      → P (shutdown_polled m now).0
  unfolding shutdown_polled
  by_end on over =
      let due = m.shutdown_due in
      by_end_if (is_closing m.state) due.shutdown due.shutdown_ack due.shutdown_complete refl on over

-- where no shutdown goes on the end does nothing
pub quiet_end : (m : Shown) (now : ℕ) → is_closing m.state ≡ false → shutdown_polled m now ≡ (m, [])
unfolding shutdown_polled
quiet_end m now e = rw e refl

-- A whole poll: its front, and its end.
pub polled_ends : (a : Shown) (now : ℕ) → (polled a now).0 ≡ (shutdown_polled (open_polled a now).0 now).0
polled_ends a now = both_first (open_polled a now).1 (shutdown_polled (open_polled a now).0 now)

pub polled_gives_last : (a : Shown) (now : ℕ)
    → (polled a now).1 ≡ (open_polled a now).1 ++ (shutdown_polled (open_polled a now).0 now).1
polled_gives_last a now = both_second (open_polled a now).1 (shutdown_polled (open_polled a now).0 now)

module _ (P : Shown → Type 0) (a : Shown) (now : ℕ) where
  pub by_poll_end : (completes_shutdown (open_polled a now).0 ≡ false → (due : ShutdownDue) (timer : TimerState)
      → P (with_answer_timed (open_polled a now).0 due timer))
      → (completes_shutdown (open_polled a now).0 ≡ true → is_closed_state (open_polled a now).0.state ≡ false
      → P (ended_shutdown (open_polled a now).0))
      → P (polled a now).0
  by_poll_end on over = subst P (sym (polled_ends a now)) (by_end P (open_polled a now).0 now on over)

-- the end leaves what is sent, and the handshake
pub ended_sender : (a : Shown) (now : ℕ) → (polled a now).0.sender ≡ (open_polled a now).0.sender
ended_sender a now =
    by_poll_end (λ (z : Shown). z.sender ≡ (open_polled a now).0.sender) a now (λ e due timer. refl)
    (λ e open_still. refl)

pub ended_handshake : (a : Shown) (now : ℕ) → (polled a now).0.handshake ≡ (open_polled a now).0.handshake
ended_handshake a now =
    by_poll_end (λ (z : Shown). z.handshake ≡ (open_polled a now).0.handshake) a now (λ e due timer. refl)
    (λ e open_still. refl)
