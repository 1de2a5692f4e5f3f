-- What a poll for events does to the channels and to the driver.
use Rattle.std.specs.Prelude.{◌≡◌, ◌⊎◌, ℕ, zero, suc, ◌^◌, ◌-◌, Bool, true, false, List, [], ◌∷◌, ◌++◌, drop}
use Rattle.std.specs.Prelude.{slice_get, Option, Some, None, Result, Ok, Err}
use Rattle.sctp_wire_types.specs.declared.error.Error.{Error}
use Rattle.sctp_wire_types.specs.declared.error.Error.TheVariants as errors
use Rattle.sctp_wire_types.specs.declared.event.StreamEvent.{StreamEvent}
use Rattle.sctp_wire_types.specs.declared.event.StreamEvent.TheVariants as stream_events
use Rattle.sctp_streams.specs.declared.event.Event.{Event}
use Rattle.sctp_streams.specs.declared.event.Event.TheVariants as events
use Rattle.sctp_assoc.specs.Calls.{accepted_stream, event_polled}
use Rattle.sctp_assoc.specs.Shown.{Shown}
use Rattle.sctp_driver.specs.Driving.{Driving, with_association}
use Rattle.channel_table.specs.declared.error.ChannelError.{ChannelError}
use Rattle.channel_table.specs.declared.error.ChannelError.TheVariants as faults
use Rattle.channel_table.specs.Channels.{ChannelView}
use Rattle.sctp_channels.specs.declared.event.ChannelEvent.{ChannelEvent}
use Rattle.sctp_channels.specs.declared.event.ChannelEvent.TheVariants as told
use Rattle.sctp_channels.specs.declared.looking.Looked.TheVariants as looks
use Rattle.sctp_channels.specs.declared.polling.Turn.{Turn}
use Rattle.sctp_channels.specs.declared.polling.Turn.TheVariants as turns
use Rattle.sctp_channels.specs.Channels.{ChannelsView}
use Rattle.sctp_channels.specs.Opening.{established}
use Rattle.sctp_channels.specs.Polling.{event_met, is_early}
use Rattle.sctp_channels.specs.Steps.{LooksAt}

-- the stream that is to be looked at next waits until the association is established; or memory is refused for that
unfoldable pub Postpones : ℕ → ChannelsView → Result Turn Error → ChannelsView → Type 0
Postpones id c (Ok turn) f =
    (turn ≡ turns.Silent) × (f.table ≡ c.table) × (f.waiting ≡ c.waiting ++ id ∷ []) × (f.due ≡ drop 1 c.due)
Postpones id c (Err error) f = f ≡ c

abbrev pub LooksOnce : ℕ → ChannelsView → Driving → Result Turn Error → ChannelsView → Driving → Type 0
LooksOnce id c d (Ok turns.Silent) f e =
    (LooksAt id c.table d (Ok looks.Again) f.table e × (f.due ≡ c.due))
    ⊎ (LooksAt id c.table d (Ok looks.Done) f.table e × (f.due ≡ drop 1 c.due))
LooksOnce id c d (Ok turns.Idle) f e = ⊥
LooksOnce id c d (Ok (turns.Tells event)) f e =
    (LooksAt id c.table d (Ok (looks.Tells event)) f.table e × (f.due ≡ c.due))
    ⊎ (LooksAt id c.table d (Ok (looks.Ends event)) f.table e × (f.due ≡ drop 1 c.due))
LooksOnce id c d (Err error) f e = LooksAt id c.table d (Err error) f.table e × (f.due ≡ c.due)

abbrev pub LooksWhere : Bool → ℕ → ChannelsView → Driving → Result Turn Error → ChannelsView → Driving → Type 0
LooksWhere true id c d r f e = Postpones id c r f × (e ≡ d)
LooksWhere false id c d r f e = LooksOnce id c d r f e × (f.waiting ≡ c.waiting)

-- The stream that is to be looked at next is looked at, and then it is not to be any more, or once more; or it is left
-- until the association is established.
unfoldable pub LooksNext : ℕ → ChannelsView → Driving → Result Turn Error → ChannelsView → Driving → Type 0
LooksNext id c d r f e = LooksWhere (is_early (established d) c.table id) id c d r f e

-- a message of this stream came, of a channel whose messages are told without a look
abbrev pub IsMessage : ChannelEvent → Event → Type 0
IsMessage (told.Message id) event = event ≡ events.Stream (stream_events.Readable id)
IsMessage _ event = ⊥

-- An event is met: what it says of the channels is told, if anything; of a stream on which something came it may be
-- told that a message of its channel is there.
unfoldable pub MeetsEvent : Event → List (ℕ × ChannelView) → Turn → List (ℕ × ChannelView) → Type 0
MeetsEvent event t turns.Silent u = event_met t event ≡ (u, None)
MeetsEvent event t turns.Idle u = ⊥
MeetsEvent event t (turns.Tells what) u = (event_met t event ≡ (u, Some what)) ⊎ (IsMessage what event × (u ≡ t))

abbrev pub is_stream_opened : StreamEvent → Bool
is_stream_opened (stream_events.Opened id) = true
is_stream_opened _ = false

-- the peer opened a stream
abbrev pub is_opened : Event → Bool
is_opened (events.Stream event) = is_stream_opened event
is_opened _ = false

-- a stream that the peer opened is accepted
unfoldable pub accepted_where : Bool → Driving → Driving
accepted_where true d = with_association d (accepted_stream d.association).0
accepted_where false d = d

abbrev pub due_unless_told : ℕ → Turn → List ℕ
due_unless_told id turns.Silent = id ∷ []
due_unless_told id turns.Idle = []
due_unless_told id (turns.Tells event) = []

abbrev pub due_by_stream : StreamEvent → Turn → List ℕ
due_by_stream (stream_events.Readable id) turn = due_unless_told id turn
due_by_stream (stream_events.ResetComplete id) turn = id ∷ []
due_by_stream _ turn = []

-- the streams that are to be looked at after an event, where none was before
abbrev pub due_by : Event → Turn → List ℕ → List ℕ
due_by events.Connected turn waiting = waiting
due_by (events.Stream event) turn waiting = due_by_stream event turn
due_by _ turn waiting = []

-- the channels that wait for the association after an event
abbrev pub waiting_by : Event → List ℕ → List ℕ
waiting_by events.Connected waiting = []
waiting_by _ waiting = waiting

abbrev pub TakesWhere : Shown × Option Event → ChannelsView → Driving → Turn → ChannelsView → Driving → Type 0
TakesWhere (a, None) c d turn f e =
    (turn ≡ turns.Idle) × (f.table ≡ c.table) × (f.waiting ≡ c.waiting) × (f.due ≡ []) × (e ≡ with_association d a)
TakesWhere (a, Some event) c d turn f e =
    MeetsEvent event c.table turn f.table × (f.waiting ≡ waiting_by event c.waiting)
    × (f.due ≡ due_by event turn c.waiting) × (e ≡ accepted_where (is_opened event) (with_association d a))

-- an event of the driver is taken, if one waits; or that is refused, and nothing changes
unfoldable pub TakesEvent : ChannelsView → Driving → Result Turn Error → ChannelsView → Driving → Type 0
TakesEvent c d (Ok turn) f e = TakesWhere (event_polled d.association) c d turn f e
TakesEvent c d (Err error) f e =
    (f.table ≡ c.table) × (f.waiting ≡ c.waiting) × (f.due ≡ []) × (e ≡ d)

abbrev pub TurnsAt : Option ℕ → ChannelsView → Driving → Result Turn Error → ChannelsView → Driving → Type 0
TurnsAt None c d r f e = TakesEvent c d r f e
TurnsAt (Some id) c d r f e = LooksNext id c d r f e

-- A turn: the stream that is to be looked at next is, or, where none is, an event of the driver is taken.
unfoldable pub TakesTurn : ChannelsView → Driving → Result Turn Error → ChannelsView → Driving → Type 0
TakesTurn c d r f e = TurnsAt (slice_get c.due 0) c d r f e

-- so many turns that tell nothing
unfoldable pub Turning : ℕ → ChannelsView → Driving → ChannelsView → Driving → Type 0
Turning zero c d f e = (f ≡ c) × (e ≡ d)
Turning (suc count) c d f e =
    (v : ChannelsView) × (x : Driving) × Turning count c d v x × TakesTurn v x (Ok turns.Silent) f e

-- the poll ends without an event after so many turns, more than any memory holds events
abbrev pub GivesUpPolling : ℕ → Error → Type 0
GivesUpPolling count error = (count ≡ 2 ^ 64 - 1) × (error ≡ errors.ErrNoMemory)

-- the last turn told what is told, or found nothing to do, or failed
abbrev pub EndsPoll : ℕ → Result (Option ChannelEvent) ChannelError → ChannelsView → Driving → ChannelsView → Driving
    → Type 0
EndsPoll count (Ok (Some event)) v x f e = TakesTurn v x (Ok (turns.Tells event)) f e
EndsPoll count (Ok None) v x f e = TakesTurn v x (Ok turns.Idle) f e
EndsPoll count (Err (faults.Beneath error)) v x f e =
    TakesTurn v x (Err error) f e ⊎ (GivesUpPolling count error × (f ≡ v) × (e ≡ x))
EndsPoll count (Err _) v x f e = ⊥

-- A poll for events is turns that tell nothing, and then one that ends it.
unfoldable pub PollsBy : Result (Option ChannelEvent) ChannelError → ChannelsView → Driving → ChannelsView → Driving
    → Type 0
PollsBy r c d f e =
    (count : ℕ) × (v : ChannelsView) × (x : Driving) × Turning count c d v x × EndsPoll count r v x f e
