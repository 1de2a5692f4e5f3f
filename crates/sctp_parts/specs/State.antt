use Rattle.std.specs.Prelude.{◌≡◌, ℕ, ◌<◌, ◌==◌, Bool, true, false, if◌then◌else◌, List, codes}
use Rattle.sctp_parts.specs.declared.state.AssociationState.{AssociationState}
use Rattle.sctp_parts.specs.declared.state.AssociationState.TheVariants as state
use Rattle.sctp_parts.specs.declared.state.AckMode.{AckMode}
use Rattle.sctp_parts.specs.declared.state.AckMode.TheVariants as mode
use Rattle.sctp_parts.specs.declared.state.AckState.{AckState}
use Rattle.sctp_parts.specs.declared.state.AckState.TheVariants as ack

-- the number that stands for a state
abbrev pub code_of : AssociationState → ℕ
code_of state.Closed = 0
code_of state.CookieWait = 1
code_of state.CookieEchoed = 2
code_of state.Established = 3
code_of state.ShutdownAckSent = 4
code_of state.ShutdownPending = 5
code_of state.ShutdownReceived = 6
code_of state.ShutdownSent = 7

-- the state with a code; Closed where the number is no code
abbrev pub state_of_code : ℕ → AssociationState
state_of_code code =
    if code == 1 then state.CookieWait else
    if code == 2 then state.CookieEchoed else
    if code == 3 then state.Established else
    if code == 4 then state.ShutdownAckSent else
    if code == 5 then state.ShutdownPending else
    if code == 6 then state.ShutdownReceived else
    if code == 7 then state.ShutdownSent else state.Closed

-- a number gives this state: the one with that code, and Closed where the number is no code
pub record HasCode (code : ℕ) (s : AssociationState) : Type 0 where
  pub given : s ≡ state_of_code code
  pub kept : code < 8 → code_of s ≡ code

-- a shutdown has begun and is not over (RFC 4960 section 9.2)
abbrev pub is_closing : AssociationState → Bool
is_closing state.ShutdownAckSent = true
is_closing state.ShutdownPending = true
is_closing state.ShutdownReceived = true
is_closing state.ShutdownSent = true
is_closing _ = false

abbrev pub state_name : AssociationState → List ℕ
state_name state.Closed = codes "Closed"
state_name state.CookieWait = codes "CookieWait"
state_name state.CookieEchoed = codes "CookieEchoed"
state_name state.Established = codes "Established"
state_name state.ShutdownAckSent = codes "ShutdownAckSent"
state_name state.ShutdownPending = codes "ShutdownPending"
state_name state.ShutdownReceived = codes "ShutdownReceived"
state_name state.ShutdownSent = codes "ShutdownSent"

abbrev pub ack_mode_name : AckMode → List ℕ
ack_mode_name mode.Normal = codes "Normal"
ack_mode_name mode.NoDelay = codes "NoDelay"
ack_mode_name mode.AlwaysDelay = codes "AlwaysDelay"

abbrev pub ack_state_name : AckState → List ℕ
ack_state_name ack.Idle = codes "Idle"
ack_state_name ack.Immediate = codes "Immediate"
ack_state_name ack.Delay = codes "Delay"
