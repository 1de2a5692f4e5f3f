-- A look or a turn that tells no channel as announced has none to acknowledge.
use Rattle.std.proofs.Common.{ℕ, List, Result, Ok, Err, IfOk}
use Rattle.sctp_wire_types.specs.declared.error.Error.{Error}
use Rattle.sctp_driver.specs.Driving.{Driving}
use Rattle.channel_table.specs.Channels.{ChannelView}
use Rattle.sctp_channels.specs.declared.event.ChannelEvent.{ChannelEvent}
use Rattle.sctp_channels.specs.declared.event.ChannelEvent.TheVariants as told
use Rattle.sctp_channels.specs.declared.looking.Looked.{Looked}
use Rattle.sctp_channels.specs.declared.looking.Looked.TheVariants as looks
use Rattle.sctp_channels.specs.declared.polling.Turn.{Turn}
use Rattle.sctp_channels.specs.declared.polling.Turn.TheVariants as turns
use Rattle.sctp_channels.specs.Looking.{Acks, AcksBy, AnnouncesNone, IsNoBeginning}
use Rattle.sctp_channels.specs.Polling.{AcksTurn, TellsNoBeginning}

acks_no_event : (event : ChannelEvent) (d : Driving) (t : List (ℕ × ChannelView)) (e : Driving)
    → IsNoBeginning event → AcksBy event d t e
acks_no_event told.Connected d t e none = tt
acks_no_event (told.Announced id) d t e none = absurd none
acks_no_event (told.Opened id) d t e none = tt
acks_no_event (told.Message id) d t e none = tt
acks_no_event (told.BufferedLow id) d t e none = tt
acks_no_event (told.Closed id) d t e none = tt
acks_no_event (told.Failed id) d t e none = tt
acks_no_event (told.Lost reason) d t e none = tt
acks_no_event (told.HandshakeFailed reason) d t e none = tt

pub acks_none : (turn : Turn) (d : Driving) (t : List (ℕ × ChannelView)) (e : Driving)
    → TellsNoBeginning turn → AcksTurn d t turn e
acks_none turns.Silent d t e none = tt
acks_none turns.Idle d t e none = tt
acks_none (turns.Tells event) d t e none = acks_no_event event d t e none

acks_look : (looked : Looked) (d : Driving) (t : List (ℕ × ChannelView)) (e : Driving)
    → AnnouncesNone looked → Acks d t looked e
acks_look looks.Done d t e none = tt
acks_look looks.Again d t e none = tt
acks_look (looks.Tells event) d t e none = acks_no_event event d t e none
acks_look (looks.Ends event) d t e none = acks_no_event event d t e none

pub acks_unannounced : (r : Result Looked Error) (d : Driving) (t : List (ℕ × ChannelView)) (e : Driving)
    → IfOk r (λ looked. AnnouncesNone looked) → IfOk r (λ looked. Acks d t looked e)
acks_unannounced (Ok looked) d t e none = acks_look looked d t e none
acks_unannounced (Err error) d t e none = none
