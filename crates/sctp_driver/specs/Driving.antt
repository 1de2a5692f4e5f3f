-- A driver as its contracts see it.
use Rattle.std.specs.Prelude.{◌≡◌, ℕ, ◌==◌, ◌||◌, if◌then◌else◌, List, [], Option, Some, None}
use Rattle.std.specs.Option.{unwrap_or}
use Rattle.sctp_wire_types.specs.declared.config.Profile.TheVariants as profiles
use Rattle.sctp_wire_types.specs.declared.error.Error.{Error}
use Rattle.sctp_wire_types.specs.declared.error.Error.TheVariants as errors
use Rattle.sctp_wire_types.specs.declared.ids.PayloadProtocolIdentifier.{PayloadProtocolIdentifier}
use Rattle.sctp_wire_types.specs.Config.{Settings}
use Rattle.sctp_assoc.specs.Shown.{HasFailed, Shown, answers_of}

-- a message that was taken out of the association and not read yet: its stream, its payload type (RFC 4960 section
-- 10.1) and its bytes
pub record KeptMessage : Type 0 where
  pub stream : ℕ
  pub payload_type : PayloadProtocolIdentifier
  pub bytes : List ℕ

pub record Driving : Type 0 where
  pub association : Shown
  -- this side's verification tag
  pub own_tag : ℕ
  -- how often SHUTDOWN, or SHUTDOWN ACK, goes out again before the association ends; None is no limit
  pub shutdown_limit : Option ℕ
  -- the datagrams that wait to go out, oldest first
  pub waiting : List (List ℕ)
  -- the messages that wait for a buffer that is long enough, oldest first; of each stream at most the next one
  pub kept : List KeptMessage

-- the configuration of a driver's association: where no profile is named it is that of the RFCs
abbrev pub by_rfcs : Settings → Settings
by_rfcs config = record config { profile = Some (unwrap_or config.profile profiles.Rfc) }

-- a retransmission timeout of 0 is refused, as a timer that runs for no time is due again as soon as it expired; with a
-- least one of 0 it would be 0 once a round trip of 0 ms was measured
abbrev pub timeout_refusal : Settings → Option Error
timeout_refusal config =
    if (config.rto_initial_ms == 0) || (config.rto_min_ms == 0) || (config.rto_max_ms == 0) then
    Some errors.ErrBadTimeout
    else None

-- nothing but the association changed
abbrev pub with_association : Driving → Shown → Driving
with_association d a = record d { association = a }

-- a driver before its first call: nothing waits at it
abbrev pub begun_with : Shown → ℕ → Option ℕ → Driving
begun_with a tag limit = record { association = a; own_tag = tag; shutdown_limit = limit; waiting = []; kept = [] }

-- the association found no memory in the middle of the call and failed, and nothing else changed
abbrev pub RunsOutOfMemory : Driving → Driving → Type 0
RunsOutOfMemory d e = (e ≡ with_association d e.association) × HasFailed (answers_of d.association) e.association
