-- Which datagram goes out (RFC 4960 section 6.10 says what is in one).
use Rattle.std.specs.Prelude.{◌≡◌, ◌<◌, ◌≤◌, ℕ, List, [], ◌∷◌, ◌++◌, drop, length}
use Rattle.sctp_assoc.specs.Gather.{polled}
use Rattle.sctp_assoc.specs.Shown.{Shown}
use Rattle.sctp_driver.specs.declared.sending.PollAnswer.{PollAnswer}
use Rattle.sctp_driver.specs.declared.sending.PollAnswer.TheVariants as answers
use Rattle.sctp_driver.specs.Driving.{Driving}

abbrev pub with_polled : Driving → Shown × List (List ℕ) → Driving
with_polled d (a, packets) = record d { association = a; waiting = packets }

abbrev pub asked_for : List (List ℕ) → Driving → ℕ → Driving
asked_for [] d now = with_polled d (polled d.association now)
asked_for (w ∷ ws) d now = d

-- where no datagram waits, the association is asked for those that are due at the moment
abbrev pub asked : Driving → ℕ → Driving
asked d now = asked_for d.waiting d now

-- Of the datagrams that wait the first one goes out: it stands at the front of the buffer, and the others wait on. It
-- waits on too where the buffer is shorter. With none nothing changes.
abbrev pub Takes : List (List ℕ) → List ℕ → PollAnswer → List (List ℕ) → List ℕ → Type 0
Takes [] buffer answers.Nothing left filled = (left ≡ []) × (filled ≡ buffer)
Takes [] buffer answer left filled = ⊥
Takes (w ∷ ws) buffer (answers.Datagram n) left filled =
    (n ≡ length w) × (n ≤ length buffer) × (left ≡ ws) × (filled ≡ w ++ drop n buffer)
Takes (w ∷ ws) buffer (answers.NoRoom n) left filled =
    (n ≡ length w) × (length buffer < n) × (left ≡ w ∷ ws) × (filled ≡ buffer)
Takes (w ∷ ws) buffer answers.Nothing left filled = ⊥

-- the same of a driver, in which nothing but what waits changes
abbrev pub Sends : Driving → List ℕ → PollAnswer → Driving → List ℕ → Type 0
Sends d buffer answer e filled =
    Takes d.waiting buffer answer e.waiting filled × (e ≡ record d { waiting = e.waiting })
