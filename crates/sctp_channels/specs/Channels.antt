-- The channels of one side as contracts see them.
use Rattle.std.specs.Prelude.{◌≡◌, ℕ, List, [], Bool, true, false, Result, Ok, Err}
use Rattle.sctp_wire_types.specs.declared.error.Error.{Error}
use Rattle.sctp_streams.specs.declared.setting.Setting.TheVariants as settings
use Rattle.sctp_assoc.specs.Calls.{Refuses, adjusted, stream_refusal}
use Rattle.sctp_driver.specs.Driving.{Driving, with_association}
use Rattle.channel_table.specs.declared.error.ChannelError.{ChannelError}
use Rattle.channel_table.specs.declared.error.ChannelError.TheVariants as faults
use Rattle.channel_table.specs.Tables.{is_taken}
use Rattle.channel_table.specs.declared.kind.Role.{Role}
use Rattle.channel_table.specs.Channels.{ChannelView}

-- The channels of a side: its role, its channels by their identifiers, those that wait for the association, oldest
-- first, and the streams to look at, next first.
pub record ChannelsView : Type 0 where
  pub role : Role
  pub table : List (ℕ × ChannelView)
  pub waiting : List ℕ
  pub due : List ℕ

abbrev pub no_channels : Role → ChannelsView
no_channels role = record { role = role; table = []; waiting = []; due = [] }

abbrev pub with_table : ChannelsView → List (ℕ × ChannelView) → ChannelsView
with_table c t = record c { table = t }

-- the answer of a driver, as a channel's
abbrev pub of_driver : {T : Type 0} → Result T Error → Result T ChannelError
of_driver (Ok answer) = Ok answer
of_driver (Err error) = Err (faults.Beneath error)

abbrev pub AsksWhere : Bool → Result ℕ Error → Result ℕ ChannelError → Type 0
AsksWhere true answer r = r ≡ of_driver answer
AsksWhere false answer r = r ≡ Err faults.NoChannel

-- what a question about a channel answers: what that about its stream does, where there is such a channel
abbrev pub Asks : ChannelsView → ℕ → Result ℕ Error → Result ℕ ChannelError → Type 0
Asks c id answer r = AsksWhere (is_taken c.table id) answer r

abbrev pub SetsLowMarkWhere : Bool → ℕ → ℕ → Driving → Result (Unit {0}) ChannelError → Driving → Type 0
SetsLowMarkWhere false id bytes d r e = (r ≡ Err faults.NoChannel) × (e ≡ d)
SetsLowMarkWhere true id bytes d (Ok answer) e =
    e ≡ with_association d (adjusted d.association id (settings.LowMark bytes))
SetsLowMarkWhere true id bytes d (Err (faults.Beneath error)) e =
    Refuses {T = Unit {0}} (Err error) (stream_refusal d.association id) × (e ≡ d)
SetsLowMarkWhere true id bytes d (Err _) e = ⊥

-- the low threshold of a channel is set, where there is such a channel and it has a stream
abbrev pub SetsLowMark : ChannelsView → ℕ → ℕ → Driving → Result (Unit {0}) ChannelError → Driving → Type 0
SetsLowMark c id bytes d r e = SetsLowMarkWhere (is_taken c.table id) id bytes d r e
