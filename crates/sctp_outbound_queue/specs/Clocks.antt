-- What is known of the times of messages.
use Rattle.std.specs.Prelude.{◌≡◌, ℕ, Bool, List, ◌+◌, ◌-◌, ◌^◌, ◌≤◌, ◌==◌, ◌&&◌, if◌then◌else◌, length, min, nat_le}
use Rattle.std.specs.Prelude.{nat_lt, not, take, [], ◌∷◌, drop, true, false, Option, Some, None}
use Rattle.std.specs.List.{AllByRecursion, position_or_len}
use Rattle.sctp_outbound_queue.specs.declared.clocks.Clocks.{Clocks}
use Rattle.sctp_outbound_queue.specs.declared.clocks.Look.{Look}
use Rattle.sctp_outbound_queue.specs.declared.message.Attributes.{Attributes}
use Rattle.sctp_outbound_queue.specs.declared.message.InFlight.{InFlight}
use Rattle.sctp_outbound_queue.specs.declared.stretches.Stretch.{Stretch}
use Rattle.sctp_outbound_queue.specs.Stretches.{shortened_at, total}
use Rattle.sctp_outbound_queue.specs.Waiting.{Waiting}
use Rattle.sctp_outbound_queue.specs.Message.{is_expired_unsent, is_timed, is_timely, is_timely_piece, sooner}

-- the times of all run
abbrev pub started_with : ℕ → Option ℕ → Option ℕ → List Stretch → Clocks
started_with waiting next_waiting next_sent stretches = record {
  running = waiting;
  sent_run = true;
  next_waiting = next_waiting;
  next_sent = next_sent;
  passed = 0;
  passed_at = 0;
  passed_next = None;
  stretches = stretches;
}

-- a message was put behind so many others; one without a lifetime needs not be started
abbrev pub accepted_by : Bool → ℕ → Clocks → Clocks
accepted_by timed others c =
    if c.running == others && not timed then record c { running = min (others + 1) (2 ^ 64 - 1) } else c

abbrev pub left_by : Clocks → Clocks
left_by c = record c { running = c.running - 1; stretches = shortened_at 0 c.stretches }

-- a piece of the first message that waits is in flight; where it was its last one, the message waits no more
abbrev pub sent_by : Attributes → Bool → Clocks → Clocks
sent_by a last c = record c {
  running = if last then c.running - 1 else c.running;
  sent_run = if c.running == 0 && is_timed a.policy then false else c.sent_run;
  next_sent = sooner c.next_sent a;
  passed = 0;
  stretches = if last then shortened_at 0 c.stretches else c.stretches;
}

-- the message to which a look came was dropped
abbrev pub dropped_by : Look → ℕ → Clocks → Clocks
dropped_by look now c = record c {
  running = if nat_lt look.index c.running then c.running - 1 else c.running;
  passed = look.index;
  passed_at = now;
  passed_next = look.next;
  stretches = shortened_at look.index c.stretches;
}

-- how far a look at this moment may begin
abbrev pub passed_by : ℕ → Clocks → Look
passed_by now c =
    if nat_le now c.passed_at then record { index = c.passed; next = c.passed_next } else
    record { index = 0; next = None }

-- the time of a message runs, where it has one
abbrev pub runs : Attributes → Bool
runs a = is_timely true (Some 0) a

-- no deadline of a message that waits lies before this one
abbrev pub AllFrom : Option ℕ → List Waiting → Type 0
AllFrom next pending = AllByRecursion (λ (m : Waiting). is_timely false next m.message ≡ true) pending

abbrev pub AllRun : List Waiting → Type 0
AllRun pending = AllByRecursion (λ (m : Waiting). runs m.message ≡ true) pending

-- no deadline of the messages of a stretch lies before its moment
abbrev pub Cover : List Stretch → List Waiting → Type 0
Cover [] pending = Unit {0}
Cover (s ∷ ss) pending =
    (s.len ≤ length pending) × AllFrom (Some s.next) (take s.len pending) × Cover ss (drop s.len pending)

-- what is known of the messages that wait
abbrev pub AreWaitingTimely : Clocks → List Waiting → Type 0
AreWaitingTimely c pending =
    AllFrom c.next_waiting pending × AllRun (take c.running pending) × (c.running ≤ length pending)
    × (c.passed ≤ position_or_len (is_expired_unsent c.passed_at) pending)
    × AllFrom c.passed_next (take c.passed pending)
    × Cover c.stretches pending × (total c.stretches ≤ c.running) × AllFrom None (drop (total c.stretches) pending)

-- what is known of the pieces in flight
abbrev pub AreSentTimely : Clocks → List InFlight → Type 0
AreSentTimely c in_flight =
    AllByRecursion (λ (p : InFlight). is_timely_piece c.sent_run c.next_sent p ≡ true) in_flight

-- where times run nothing waits to be started, and no deadline lies before the next one
abbrev pub AreTimely : Clocks → List Waiting → List InFlight → Type 0
AreTimely c pending in_flight = AreWaitingTimely c pending × AreSentTimely c in_flight
