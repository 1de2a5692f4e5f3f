-- Which events are told without a look at what is kept of resets.
use Rattle.std.proofs.Common.{◌≡◌, refl, ap, ◌∙◌, true, List, [], ◌∷◌, ◌++◌, arith}
use Rattle.std.proofs.Common.{eqb, length, drop, slice_get, Option, Some, None}
use Rattle.std.specs.Prelude.{option_to_list}
use Rattle.std.proofs.lemmas.Bool.{eqb-true, false≢true}
use Rattle.sctp_wire_types.specs.declared.event.StreamEvent.{StreamEvent}
use Rattle.sctp_wire_types.specs.declared.event.StreamEvent.TheVariants as stream_events
use Rattle.sctp_streams.specs.declared.event.Event.{Event}
use Rattle.sctp_streams.specs.declared.event.Event.TheVariants as events
use Rattle.sctp_resets.specs.Resets.{event_told}
use Rattle.sctp_assoc.specs.Calls.{event_from, event_polled, fault_polled, fault_told, is_event_at_once}
use Rattle.sctp_assoc.specs.Calls.{is_first_at_once}
use Rattle.sctp_assoc.specs.Calls.{is_stream_event_at_once}
use Rattle.sctp_assoc.specs.Shown.{Shown}

stream_event_told : (e : StreamEvent) (rest : List Event) (a : Shown) → is_stream_event_at_once e ≡ true
    → event_from (event_told a.resets (events.Stream e ∷ rest)) a ≡ (record a { events = rest }, Some (events.Stream e))
stream_event_told (stream_events.Opened id) rest a once = refl
stream_event_told (stream_events.Readable id) rest a once = refl
stream_event_told (stream_events.Writable id) rest a once = absurd (false≢true once)
stream_event_told (stream_events.Finished id) rest a once = absurd (false≢true once)
stream_event_told (stream_events.ResetComplete id) rest a once = absurd (false≢true once)
stream_event_told (stream_events.ResetFailed id reason) rest a once = absurd (false≢true once)
stream_event_told (stream_events.Stopped id code) rest a once = absurd (false≢true once)
stream_event_told (stream_events.BufferedAmountLow id) rest a once = absurd (false≢true once)
stream_event_told (stream_events.BufferedAmountHigh id) rest a once = absurd (false≢true once)
stream_event_told stream_events.Available rest a once = refl

event_told_at_once : (e : Event) (rest : List Event) (a : Shown) → is_event_at_once (Some e) ≡ true
    → event_from (event_told a.resets (e ∷ rest)) a ≡ (record a { events = rest }, Some e)
event_told_at_once events.Connected rest a once = refl
event_told_at_once (events.HandshakeFailed reason) rest a once = refl
event_told_at_once (events.AssociationLost reason) rest a once = refl
event_told_at_once (events.Stream e) rest a once = stream_event_told e rest a once
event_told_at_once (events.DataChannelStatsFinal stats) rest a once = refl
event_told_at_once events.DatagramReceived rest a once = refl

first_of_some : (es left : List Event) (told : Option Event) (a : Shown) → is_first_at_once es ≡ true
    → told ≡ slice_get es 0 → es ≡ option_to_list told ++ left
    → event_from (event_told a.resets es) a ≡ (record a { events = left }, told)
first_of_some [] left told a once given rest = absurd (false≢true once)
first_of_some (e ∷ es) left None a once given rest = absurd (cc)
first_of_some (e ∷ es) left (Some f) a once given rest =
    event_told_at_once e es a once
    ∙ ap (λ (all : List Event). (record a { events = drop 1 all }, slice_get all 0)) rest

-- where the oldest event waits for nothing it is the one that is told
pub first_is_told : (a : Shown) (left : List Event) (told : Option Event) → is_first_at_once a.events ≡ true
    → told ≡ slice_get a.events 0 → a.events ≡ option_to_list told ++ left
    → event_polled a ≡ (record a { events = left }, told)
first_is_told a left told once given rest = first_of_some a.events left told a once given rest

none_of : (es : List Event) (a : Shown) → eqb (length es) 0 ≡ true
    → event_from (event_told a.resets es) a
    ≡ (record a { events = es; handshake_fault = None }, fault_told a.handshake_fault)
none_of [] a none = refl
none_of (e ∷ es) a none = absurd (omega (arith, eqb-true (length (e ∷ es)) 0 none))

-- where no event waits, that the handshake failed is told
pub none_is_told : (a b : Shown) (told : Option Event) → eqb (length a.events) 0 ≡ true
    → fault_polled a ≡ (b, told) → event_polled a ≡ (b, told)
none_is_told a b told none e = none_of a.events a none ∙ e
