-- An application's close closes an open association once, and no write, setting or accepted stream does.
use Rattle.std.proofs.Common.{◌≡◌, refl, ◌∙◌, arith, ℕ, ◌+◌, Bool, true, false, if◌then◌else◌, List, [], ◌∷◌}
use Rattle.std.proofs.Common.{◌++◌, length, Option, Some, None}
use Rattle.std.proofs.lemmas.List.Sums.{sum_by-append, sum_by-cons}
use Rattle.sctp_wire_types.specs.declared.event.StreamEvent.TheVariants.{BufferedAmountHigh}
use Rattle.sctp_wire_types.specs.declared.ids.PayloadProtocolIdentifier.{PayloadProtocolIdentifier}
use Rattle.sctp_streams.specs.declared.event.Event.{Event}
use Rattle.sctp_streams.specs.declared.event.Event.TheVariants as events
use Rattle.sctp_streams.specs.Stream.{StreamView, reaches_high_mark}
use Rattle.sctp_streams.specs.Streams.{stream_at}
use Rattle.sctp_assoc.specs.Calls.{accepted_from, high_told, written_at}
use Rattle.sctp_assoc.specs.Closing.{is_closed_state}
use Rattle.sctp_assoc.specs.Shown.{Shown}
use Rattle.sctp_sides.specs.Laws.{AcceptedStreamsDoNotClose, ClosesClose, SettingsDoNotClose, TellsNothing}
use Rattle.sctp_sides.specs.Laws.{DoesNotClose}
use Rattle.sctp_sides.specs.Laws.{LimitsDoNotClose, WritesDoNotClose, loss_of, losses}
use Rattle.sctp_sides.proofs.ClosingPackets.{fault_closes, stays}

-- The event of a high mark is no loss.
high_is_no_loss : (reached : Bool) (id : ℕ)
    → losses (if reached then events.Stream (BufferedAmountHigh id) ∷ [] else []) ≡ 0
high_is_no_loss true id = sum_by-cons loss_of (events.Stream (BufferedAmountHigh id)) [] ∙ omega arith
high_is_no_loss false id = refl

none_more : (queued more : List Event) → losses more ≡ 0 → losses (queued ++ more) ≡ losses queued
none_more queued more none =
    let all : losses (queued ++ more) ≡ losses queued + losses more = sum_by-append loss_of queued more in
    omega (arith, all, none)

written_unclosed : (o : Option StreamView) (a : Shown) (id : ℕ) (named : Option PayloadProtocolIdentifier)
    (bytes : List ℕ) → DoesNotClose a (written_at o a id named bytes)
written_unclosed None a id named bytes = record { state = refl; lost = refl; told = refl }
written_unclosed (Some s) a id named bytes = record {
  state = refl;
  lost = refl;
  told =
      none_more a.events (high_told s id (length bytes)) (high_is_no_loss (reaches_high_mark s (length bytes)) id);
}

pub writes_do_not_close : WritesDoNotClose
writes_do_not_close a id named bytes = written_unclosed (stream_at a.streams id) a id named bytes

pub settings_do_not_close : SettingsDoNotClose
settings_do_not_close a id setting = record { state = refl; lost = refl; events = refl }

limit_open_if : (failed : Bool) (a : Shown) (size : ℕ)
    → TellsNothing a (if failed then a else record a { max_send_message_size = size })
limit_open_if true a size = record { state = refl; lost = refl; events = refl }
limit_open_if false a size = record { state = refl; lost = refl; events = refl }

pub limits_do_not_close : LimitsDoNotClose
limits_do_not_close a size = limit_open_if a.failed a size

accepted_open : (ids : List ℕ) (a : Shown) → TellsNothing a (accepted_from ids a).0
accepted_open [] a = record { state = refl; lost = refl; events = refl }
accepted_open (id ∷ ids) a = record { state = refl; lost = refl; events = refl }

accepted_open_if : (failed : Bool) (a : Shown)
    → TellsNothing a (if failed then (a, None) else accepted_from a.to_accept a).0
accepted_open_if true a = record { state = refl; lost = refl; events = refl }
accepted_open_if false a = accepted_open a.to_accept a

pub accepted_streams_do_not_close : AcceptedStreamsDoNotClose
accepted_streams_do_not_close a = accepted_open_if a.failed a

pub closes_close : ClosesClose
closes_close a reason = fault_closes (is_closed_state a.state) a a reason refl (stays a a refl refl refl)
