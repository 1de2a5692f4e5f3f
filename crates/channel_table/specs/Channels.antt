-- One channel.
use Rattle.std.specs.Prelude.{ℕ, ◌&&◌, Bool, true, false, List, Option, Some, None, is_none}
use Rattle.dcep_messages.specs.declared.persistence.Persistence.{Persistence}
use Rattle.dcep_messages.specs.declared.persistence.Persistence.TheVariants as persistences
use Rattle.channel_table.specs.declared.channel.Stage.{Stage}
use Rattle.channel_table.specs.declared.channel.Stage.TheVariants as stages
use Rattle.channel_table.specs.declared.channel.ChannelState.{ChannelState}
use Rattle.channel_table.specs.declared.channel.ChannelState.TheVariants as states
use Rattle.channel_table.specs.declared.channel.ShortMessage.{ShortMessage}

-- A channel: its OPEN, whether it was negotiated, how far it came, and the message of one byte that came in place of
-- the ACK and was not received yet.
pub record ChannelView : Type 0 where
  pub open_message : List ℕ
  pub negotiated : Bool
  pub stage : Stage
  pub first : Option ShortMessage

-- a channel of this side before its OPEN is written
abbrev pub opened : List ℕ → Bool → ChannelView
opened message negotiated = record {
  open_message = message;
  negotiated = negotiated;
  stage = stages.Waiting;
  first = None;
}

-- the channel of the peer's OPEN before its ACK is written
abbrev pub announced : List ℕ → ChannelView
announced message = record {
  open_message = message;
  negotiated = false;
  stage = stages.Announcing;
  first = None;
}

abbrev pub with_stage : Stage → ChannelView → ChannelView
with_stage stage c = record c { stage = stage }

abbrev pub with_first : ShortMessage → ChannelView → ChannelView
with_first m c = record c { first = Some m }

abbrev pub without_first : ChannelView → ChannelView
without_first c = record c { first = None }

-- as the W3C names it
abbrev pub state_of : Stage → ChannelState
state_of stages.Waiting = states.Connecting
state_of stages.Begun = states.Connecting
state_of stages.Announcing = states.Connecting
state_of stages.Open = states.Open
state_of stages.Closing = states.Closing

-- the OPEN was written, or came and was acknowledged, and the channel does not end
abbrev pub may_send : Stage → Bool
may_send stages.Waiting = false
may_send stages.Begun = true
may_send stages.Announcing = false
may_send stages.Open = true
may_send stages.Closing = false

abbrev pub is_open : Stage → Bool
is_open stages.Waiting = false
is_open stages.Begun = false
is_open stages.Announcing = false
is_open stages.Open = true
is_open stages.Closing = false

-- a channel is open, and no message of it is kept
abbrev pub is_ready : ChannelView → Bool
is_ready c = is_open c.stage && is_none c.first

abbrev pub retransmits_of : Persistence → Option ℕ
retransmits_of persistences.Reliable = None
retransmits_of (persistences.Retransmits n) = Some n
retransmits_of (persistences.LifeTime ms) = None

abbrev pub life_time_of : Persistence → Option ℕ
life_time_of persistences.Reliable = None
life_time_of (persistences.Retransmits n) = None
life_time_of (persistences.LifeTime ms) = Some ms
