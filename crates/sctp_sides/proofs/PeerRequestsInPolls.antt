-- The front of a poll for packets leaves the peer's requests, whether the association was lost, and whether its
-- handshake is over.
use Rattle.std.proofs.Common.{◌≡◌, refl, sym, subst, ℕ, Bool, true, false, if◌then◌else◌, List}
use Rattle.sctp_parts.specs.declared.state.AssociationState.{AssociationState}
use Rattle.sctp_parts.specs.declared.state.AssociationState.TheVariants as states
use Rattle.sctp_parts.specs.declared.timer.Timer.TheVariants as names
use Rattle.sctp_parts.specs.Timers.{started}
use Rattle.sctp_reset_requests.specs.Own.{OwnView}
use Rattle.sctp_assoc.specs.declared.control.Control.{Control}
use Rattle.sctp_assoc.specs.Calls.{exchanges_data, is_beginning}
use Rattle.sctp_assoc.specs.Gather.{control_polled, data_after, data_polled, open_polled}
use Rattle.sctp_assoc.specs.Resets.{with_reconfig_run}
use Rattle.sctp_assoc.specs.Shown.{Shown}
use Rattle.sctp_assoc.specs.Shutdown.{all_acknowledged, shutdown_continued, state_behind_data}
use Rattle.sctp_assoc.proofs.GivenApart.{with_own_control}
use Rattle.sctp_sides.proofs.PollsLeave.{PolledFrom, after_requests, control_leaves, polled_from, silent_is}

-- Whether its handshake is over, whether it was lost, and the peer's requests are as they were.
pub record KeepsPeer (a b : Shown) : Type 0 where
  pub begun : is_beginning b.state ≡ is_beginning a.state
  pub lost : b.lost ≡ a.lost
  pub peer : b.resets.peer ≡ a.resets.peer

behind_data : (state : AssociationState) → is_beginning (state_behind_data state) ≡ is_beginning state
behind_data states.Closed = refl
behind_data states.CookieWait = refl
behind_data states.CookieEchoed = refl
behind_data states.Established = refl
behind_data states.ShutdownAckSent = refl
behind_data states.ShutdownPending = refl
behind_data states.ShutdownReceived = refl
behind_data states.ShutdownSent = refl

behind_if : (acknowledged : Bool) (state : AssociationState)
    → is_beginning (if acknowledged then state_behind_data state else state) ≡ is_beginning state
behind_if true state = behind_data state
behind_if false state = refl

-- a shutdown that goes on leaves all of that
continued_keeps : (a : Shown) → KeepsPeer a (shutdown_continued a)
continued_keeps a = record { begun = behind_if (all_acknowledged a) a.state; lost = refl; peer = refl }

data_keeps : (a : Shown) (now : ℕ) → KeepsPeer a (data_after a now).0
unfolding data_polled
data_keeps a now =
    let k = continued_keeps (data_polled a now).0 in record { begun = k.begun; lost = k.lost; peer = k.peer }

own_control_keeps : (a b : Shown) (own : OwnView) (control : List Control) → KeepsPeer a b
    → KeepsPeer a (with_own_control b own control)
own_control_keeps a b own control k = record { begun = k.begun; lost = k.lost; peer = k.peer }

run_if : (runs : Bool) (a b : Shown) (now : ℕ) → KeepsPeer a b
    → KeepsPeer a (if runs then record b { timers = started names.Reconfig now b.estimate.rto b.timers } else b)
run_if true a b now k = record { begun = k.begun; lost = k.lost; peer = k.peer }
run_if false a b now k = k

run_keeps : (a b : Shown) (now : ℕ) → KeepsPeer a b → KeepsPeer a (with_reconfig_run b now)
run_keeps a b now k = run_if _ a b now k

exchange_keeps : (a : Shown) (now : ℕ) → PolledFrom a now → KeepsPeer a (open_polled a now).0
exchange_keeps a now p =
    let asked : KeepsPeer a p.asked =
    subst (KeepsPeer a) (sym p.requests)
    (own_control_keeps a (data_after a now).0 p.asked.resets.own p.asked.control (data_keeps a now)) in
    subst (KeepsPeer a) (sym p.there)
    (run_keeps a (after_requests p.asked) now
    (record { begun = asked.begun; lost = asked.lost; peer = asked.peer }))

silence_keeps : (a : Shown) (now : ℕ) → exchanges_data a.state ≡ false → KeepsPeer a (open_polled a now).0
silence_keeps a now e =
    let b : Shown = (control_polled a).0 in
    subst (KeepsPeer a) (sym (silent_is a now e))
    (run_keeps a b now
    (subst (KeepsPeer a) (sym (control_leaves a))
    (own_control_keeps a a b.resets.own b.control (record { begun = refl; lost = refl; peer = refl }))))

front_keeps_if : (exchanges : Bool) (a : Shown) (now : ℕ) → exchanges_data a.state ≡ exchanges
    → KeepsPeer a (open_polled a now).0
front_keeps_if true a now e = exchange_keeps a now (polled_from a now e)
front_keeps_if false a now e = silence_keeps a now e

pub front_keeps : (a : Shown) (now : ℕ) → KeepsPeer a (open_polled a now).0
front_keeps a now = front_keeps_if (exchanges_data a.state) a now refl
