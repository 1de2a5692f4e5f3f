-- Events of a driver, and what they say of channels.
use Rattle.std.specs.Prelude.{◌≡◌, ◌≢◌, ℕ, if◌then◌else◌, List, [], ◌∷◌, ◌++◌, Option, Some, None, Bool, true, false}
use Rattle.std.specs.BTreeMap.{is_at}
use Rattle.std.specs.Map.{remove_entry}
use Rattle.std.specs.Ordering.{nat_cmp}
use Rattle.sctp_wire_types.specs.declared.event.StreamEvent.{StreamEvent}
use Rattle.sctp_wire_types.specs.declared.event.StreamEvent.TheVariants as stream_events
use Rattle.sctp_streams.specs.declared.event.Event.{Event}
use Rattle.sctp_streams.specs.declared.event.Event.TheVariants as events
use Rattle.sctp_assoc.specs.Calls.{event_polled}
use Rattle.sctp_assoc.specs.Shown.{Shown}
use Rattle.sctp_driver.specs.Driving.{Driving}
use Rattle.channel_table.specs.declared.channel.Stage.{Stage}
use Rattle.channel_table.specs.declared.channel.Stage.TheVariants as stages
use Rattle.channel_table.specs.Channels.{ChannelView}
use Rattle.channel_table.specs.Tables.{Keeps, KeepsOrEnds, at_stage, is_taken, stage_at}
use Rattle.sctp_channels.specs.declared.event.ChannelEvent.{ChannelEvent}
use Rattle.sctp_channels.specs.declared.event.ChannelEvent.TheVariants as told
use Rattle.sctp_channels.specs.declared.polling.Turn.{Turn}
use Rattle.sctp_channels.specs.declared.polling.Turn.TheVariants as turns
use Rattle.sctp_channels.specs.Channels.{ChannelsView}
use Rattle.sctp_channels.specs.Looking.{AcksBy, IsNoBeginning, IsTold}

-- this is told where there is such a channel, and then the channels are so
abbrev pub told_if_there : List (ℕ × ChannelView) → ℕ → ChannelEvent → List (ℕ × ChannelView)
    → List (ℕ × ChannelView) × Option ChannelEvent
told_if_there t id event u = if is_taken t id then (u, Some event) else (t, None)

-- What an event of a stream says of its channel. The peer ended its half: the channel ends. Both halves ended: it is
-- gone. This side's reset failed: it is told as ended, and its identifier is not free.
abbrev pub stream_event_met : List (ℕ × ChannelView) → StreamEvent → List (ℕ × ChannelView) × Option ChannelEvent
stream_event_met t (stream_events.Finished id) = (at_stage t id stages.Closing, None)
stream_event_met t (stream_events.ResetComplete id) =
    told_if_there t id (told.Closed id) (remove_entry (is_at (nat_cmp id)) t)
stream_event_met t (stream_events.ResetFailed id reason) =
    told_if_there t id (told.Closed id) (at_stage t id stages.Closing)
stream_event_met t (stream_events.BufferedAmountLow id) = told_if_there t id (told.BufferedLow id) t
stream_event_met t _ = (t, None)

-- what an event says of channels, but for those of which more is to be done: `Opened` and `Readable`
abbrev pub event_met : List (ℕ × ChannelView) → Event → List (ℕ × ChannelView) × Option ChannelEvent
event_met t events.Connected = (t, Some told.Connected)
event_met t (events.HandshakeFailed reason) = ([], Some (told.HandshakeFailed reason))
event_met t (events.AssociationLost reason) = ([], Some (told.Lost reason))
event_met t (events.Stream event) = stream_event_met t event
event_met t _ = (t, None)

-- what is told, if anything, is so, and each channel stays what it is, or is gone where that is told
abbrev pub Meets : List (ℕ × ChannelView) → Option ChannelEvent → List (ℕ × ChannelView) → Type 0
Meets t None u = Keeps t u
Meets t (Some event) u = KeepsOrEnds t u × IsTold event u

-- the same of a turn
abbrev pub Turns : List (ℕ × ChannelView) → Turn → List (ℕ × ChannelView) → Type 0
Turns t turns.Silent u = Keeps t u
Turns t turns.Idle u = u ≡ t
Turns t (turns.Tells event) u = KeepsOrEnds t u × IsTold event u

-- where a turn tells that a channel of these is announced, it was acknowledged so
abbrev pub AcksTurn : Driving → List (ℕ × ChannelView) → Turn → Driving → Type 0
AcksTurn d t (turns.Tells event) e = AcksBy event d t e
AcksTurn d t _ e = Unit {0}

-- a turn does not tell that a channel is announced
abbrev pub TellsNoBeginning : Turn → Type 0
TellsNoBeginning (turns.Tells event) = IsNoBeginning event
TellsNoBeginning _ = Unit {0}

abbrev pub is_early_at : Option Stage → Bool
is_early_at None = true
is_early_at (Some stages.Waiting) = true
is_early_at (Some _) = false

-- before the association is established no channel begins, neither of this side nor of the peer
abbrev pub is_early : Bool → List (ℕ × ChannelView) → ℕ → Bool
is_early true t id = false
is_early false t id = is_early_at (stage_at t id)

-- A channel that this tells as closed, and that is gone: its stream is to be looked at next. What the peer sent on it
-- after it had ended its half, perhaps another OPEN, was not looked at while the channel was still there.
abbrev pub LooksAgain : ChannelEvent → ChannelsView → Type 0
LooksAgain event c = (id : ℕ) → event ≡ told.Closed id → stage_at c.table id ≡ None → c.due ≡ id ∷ []

-- the same of a turn
abbrev pub TurnsAgain : Turn → ChannelsView → Type 0
TurnsAgain turn c = (id : ℕ) → turn ≡ turns.Tells (told.Closed id) → stage_at c.table id ≡ None → c.due ≡ id ∷ []

-- a channel that is told as closed, and is gone, ended by this event: both halves of its stream ended
abbrev pub EndsAs : Event → Option ChannelEvent → List (ℕ × ChannelView) → Type 0
EndsAs event o u = (id : ℕ) → o ≡ Some (told.Closed id) → stage_at u id ≡ None
    → event ≡ events.Stream (stream_events.ResetComplete id)

-- the same of a turn
abbrev pub EndsBy : Event → Turn → List (ℕ × ChannelView) → Type 0
EndsBy event turn u = (id : ℕ) → turn ≡ turns.Tells (told.Closed id) → stage_at u id ≡ None
    → event ≡ events.Stream (stream_events.ResetComplete id)

-- a channel that is told as closed is still there
abbrev pub EndsNone : Option ChannelEvent → List (ℕ × ChannelView) → Type 0
EndsNone o u = (id : ℕ) → o ≡ Some (told.Closed id) → stage_at u id ≢ None

-- a stream is to be looked at behind the others, unless what came on it is told already
abbrev pub DueUnlessTold : ℕ → Turn → List ℕ → List ℕ → Type 0
DueUnlessTold id turns.Silent due after = after ≡ due ++ id ∷ []
DueUnlessTold id turns.Idle due after = ⊥
DueUnlessTold id (turns.Tells event) due after = after ≡ due

abbrev pub DueAfterStream : StreamEvent → Turn → List ℕ → List ℕ → Type 0
DueAfterStream (stream_events.Readable id) turn due after = DueUnlessTold id turn due after
DueAfterStream (stream_events.ResetComplete id) turn due after = after ≡ due ++ id ∷ []
DueAfterStream _ turn due after = after ≡ due

-- Which streams are to be looked at after an event: those that were; behind them one on which something came, and one
-- of which both halves ended; and the channels that waited for the association, once it is established.
abbrev pub DueAfter : Event → Turn → List ℕ → List ℕ → List ℕ → Type 0
DueAfter events.Connected turn waiting due after = after ≡ waiting
DueAfter (events.Stream event) turn waiting due after = DueAfterStream event turn due after
DueAfter _ turn waiting due after = after ≡ due

-- no event waits at a driver
abbrev pub IsIdle : Driving → Type 0
IsIdle d = (a : Shown) × (event_polled a ≡ (d.association, None))
