-- The channels of one side by their identifiers, ascending.
use Rattle.std.specs.Prelude.{◌≡◌, ◌<◌, ◌%◌, ◌==◌, ◌||◌, ℕ, nat_lt, if◌then◌else◌, Bool, true, false, List, is_some}
use Rattle.std.specs.Prelude.{Option, Some, None, Result, Ok, Err}
use Rattle.std.specs.BTreeMap.{is_at}
use Rattle.std.specs.Map.{lookup, set_value}
use Rattle.std.specs.Ordering.{nat_cmp}
use Rattle.channel_table.specs.declared.channel.Stage.{Stage}
use Rattle.channel_table.specs.declared.channel.Stage.TheVariants as stages
use Rattle.channel_table.specs.declared.channel.ShortMessage.{ShortMessage}
use Rattle.channel_table.specs.declared.error.ChannelError.{ChannelError}
use Rattle.channel_table.specs.declared.error.ChannelError.TheVariants as faults
use Rattle.channel_table.specs.declared.kind.Role.{Role}
use Rattle.channel_table.specs.Channels.{ChannelView, is_ready, with_first, with_stage, without_first}
use Rattle.channel_table.specs.Kinds.{own_parity}

-- the channel of an identifier
abbrev pub channel_at : List (ℕ × ChannelView) → ℕ → Option ChannelView
channel_at t id = lookup (is_at (nat_cmp id)) t

abbrev pub is_taken : List (ℕ × ChannelView) → ℕ → Bool
is_taken t id = is_some (channel_at t id)

-- the channels of all other identifiers stay
abbrev pub KeepsOthers : ℕ → List (ℕ × ChannelView) → List (ℕ × ChannelView) → Type 0
KeepsOthers id t u = (other : ℕ) → is_at (nat_cmp id) other ≡ false → channel_at u other ≡ channel_at t other

abbrev pub changed_at : Option ChannelView → (ChannelView → ChannelView) → List (ℕ × ChannelView) → ℕ
    → List (ℕ × ChannelView)
changed_at None change t id = t
changed_at (Some c) change t id = set_value (is_at (nat_cmp id)) t (change c)

-- the channel of an identifier, if there is one, changes so
abbrev pub changed : (ChannelView → ChannelView) → List (ℕ × ChannelView) → ℕ → List (ℕ × ChannelView)
changed change t id = changed_at (channel_at t id) change t id

abbrev pub at_stage : List (ℕ × ChannelView) → ℕ → Stage → List (ℕ × ChannelView)
at_stage t id stage = changed (with_stage stage) t id

abbrev pub keeping_first : List (ℕ × ChannelView) → ℕ → ShortMessage → List (ℕ × ChannelView)
keeping_first t id m = changed (with_first m) t id

abbrev pub without_kept : List (ℕ × ChannelView) → ℕ → List (ℕ × ChannelView)
without_kept t id = changed without_first t id

abbrev pub stage_in : Option ChannelView → Option Stage
stage_in None = None
stage_in (Some c) = Some c.stage

-- how far the channel of an identifier came
abbrev pub stage_at : List (ℕ × ChannelView) → ℕ → Option Stage
stage_at t id = stage_in (channel_at t id)

abbrev pub first_in : Option ChannelView → Option ShortMessage
first_in None = None
first_in (Some c) = c.first

-- the message of an identifier's channel that came in place of the ACK
abbrev pub first_at : List (ℕ × ChannelView) → ℕ → Option ShortMessage
first_at t id = first_in (channel_at t id)

abbrev pub is_ready_in : Option ChannelView → Bool
is_ready_in None = false
is_ready_in (Some c) = is_ready c

-- the channel that is at hand, if one is, is open, and no message of it is kept
abbrev pub IsAtHand : Option ℕ → List (ℕ × ChannelView) → Type 0
IsAtHand None t = Unit {0}
IsAtHand (Some id) t = is_ready_in (channel_at t id) ≡ true

-- a channel is not open yet, and may be
abbrev pub may_open : Option Stage → Bool
may_open None = false
may_open (Some stages.Waiting) = true
may_open (Some stages.Begun) = true
may_open (Some stages.Announcing) = true
may_open (Some stages.Open) = false
may_open (Some stages.Closing) = false

-- a channel is gone or ends
abbrev pub has_ended : Option Stage → Bool
has_ended None = true
has_ended (Some stages.Waiting) = false
has_ended (Some stages.Begun) = false
has_ended (Some stages.Announcing) = false
has_ended (Some stages.Open) = false
has_ended (Some stages.Closing) = true

-- a channel stays what it is, and goes on to end where it does
abbrev pub KeepsOne : Option ChannelView → Option ChannelView → Type 0
KeepsOne None now = Unit {0}
KeepsOne (Some c) None = ⊥
KeepsOne (Some c) (Some e) =
    (e.open_message ≡ c.open_message) × (e.negotiated ≡ c.negotiated)
    × (c.stage ≡ stages.Closing → e.stage ≡ stages.Closing)

-- so does each channel
abbrev pub Keeps : List (ℕ × ChannelView) → List (ℕ × ChannelView) → Type 0
Keeps t u = (id : ℕ) → KeepsOne (channel_at t id) (channel_at u id)

abbrev pub KeepsOneOrEnds : Option ChannelView → Option ChannelView → Type 0
KeepsOneOrEnds None now = Unit {0}
KeepsOneOrEnds (Some c) None = Unit {0}
KeepsOneOrEnds (Some c) (Some e) = KeepsOne (Some c) (Some e)

-- so does each channel that is still there
abbrev pub KeepsOrEnds : List (ℕ × ChannelView) → List (ℕ × ChannelView) → Type 0
KeepsOrEnds t u = (id : ℕ) → KeepsOneOrEnds (channel_at t id) (channel_at u id)

-- each identifier of this parity that is less than the limit has a channel
abbrev pub AreTakenBelow : List (ℕ × ChannelView) → ℕ → ℕ → Type 0
AreTakenBelow t parity limit = (other : ℕ) → other < limit → other % 2 ≡ parity → is_taken t other ≡ true

-- the least identifier of this parity below a number of streams that no channel has, or none is left; 65535 is none, as
-- there are never more streams (RFC 8832 section 6)
abbrev pub IsLeastFreeOf : List (ℕ × ChannelView) → ℕ → ℕ → Option ℕ → Type 0
IsLeastFreeOf t parity streams None = AreTakenBelow t parity streams
IsLeastFreeOf t parity streams (Some id) =
    (id % 2 ≡ parity) × (id < streams) × (is_taken t id ≡ false) × AreTakenBelow t parity id

abbrev pub IsLeastFree : List (ℕ × ChannelView) → Role → ℕ → Option ℕ → Type 0
IsLeastFree t role streams free = IsLeastFreeOf t (own_parity role) streams free

abbrev pub ChoosesOwn : List (ℕ × ChannelView) → Role → ℕ → Result ℕ ChannelError → Type 0
ChoosesOwn t role streams (Ok id) = IsLeastFree t role streams (Some id)
ChoosesOwn t role streams (Err e) = IsLeastFree t role streams None × (e ≡ faults.NoIdentifierLeft)

-- why a negotiated identifier is refused, if so: it has a channel or is 65535, or there are not so many streams
abbrev pub negotiated_refusal : List (ℕ × ChannelView) → ℕ → ℕ → Option ChannelError
negotiated_refusal t streams id =
    if (id == 65535) || is_taken t id then Some faults.IdentifierTaken else
    if nat_lt id streams then None else Some faults.IdentifierPastStreams

abbrev pub TakesNegotiated : List (ℕ × ChannelView) → ℕ → ℕ → Result ℕ ChannelError → Type 0
TakesNegotiated t streams id (Ok chosen) = (chosen ≡ id) × (negotiated_refusal t streams id ≡ None)
TakesNegotiated t streams id (Err e) = negotiated_refusal t streams id ≡ Some e

-- the identifier of a new channel, of so many streams
abbrev pub Chooses : List (ℕ × ChannelView) → Role → ℕ → Option ℕ → Result ℕ ChannelError → Type 0
Chooses t role streams None r = ChoosesOwn t role streams r
Chooses t role streams (Some id) r = TakesNegotiated t streams id r
