-- What is so of the live streams, where each change of streams keeps it, stays so over the calls of an application.
use Rattle.std.proofs.Common.{◌≡◌, refl, ℕ, Bool, true, false, if◌then◌else◌, List, [], ◌∷◌, length, Option, Some, None}
use Rattle.sctp_wire_types.specs.Config.{is_rfc}
use Rattle.sctp_wire_types.specs.declared.ids.PayloadProtocolIdentifier.{PayloadProtocolIdentifier}
use Rattle.sctp_receive_queues.specs.Messages.{ReceivedMessage}
use Rattle.sctp_streams.specs.declared.event.Event.{Event}
use Rattle.sctp_streams.specs.declared.setting.Setting.{Setting}
use Rattle.sctp_streams.specs.declared.setting.Setting.TheVariants as settings
use Rattle.sctp_streams.specs.Stream.{StreamView, accepted_by, is_read_half_open, with_halves, with_setting}
use Rattle.sctp_streams.specs.Stream.{without_read_half, without_unread}
use Rattle.sctp_streams.specs.Streams.{StreamMap, read_in, stream_at}
use Rattle.sctp_directions.specs.Acts.{type_on}
use Rattle.sctp_resets.specs.Channels.{channels}
use Rattle.sctp_resets.specs.Resets.{ResetsView, event_told, is_retiring, read_out, stopped_reading, waiting_for}
use Rattle.sctp_assoc.specs.Calls.{accepted_from, accepted_stream, adjusted, after_read, credit_in, drained_behind}
use Rattle.sctp_assoc.specs.Calls.{eased, event_from}
use Rattle.sctp_assoc.specs.Calls.{event_polled, holds_of, opened, read_from_stream, stopped, stopped_open}
use Rattle.sctp_assoc.specs.Calls.{unread_dropped, with_max_send_message_size, without_read_half_of, written}
use Rattle.sctp_assoc.specs.Calls.{written_at, written_under}
use Rattle.sctp_assoc.specs.Resets.{with_beside}
use Rattle.sctp_assoc.specs.Shown.{Shown}
use Rattle.sctp_assoc.proofs.StopsLeadOn.{dropped_or_not}
use Rattle.sctp_sides.proofs.AscendingInResets.{read_out_holds, stopped_reading_holds}
use Rattle.sctp_sides.proofs.AscendingSteps.{IsKept, Keeps, beside_kept, eased_kept, name_of, read_in_kept}
use Rattle.sctp_sides.proofs.AscendingSteps.{resetting_holds, same_kept, stays_kept, streams_kept, then_kept}

-- What is so of the live streams.
module _ (P : StreamMap → Type 0) (law : IsKept P) where
  -- Streams, writes, settings and limits

  pub opened_kept : (a : Shown) (id : ℕ) (kind : PayloadProtocolIdentifier) → Keeps P a (opened a id kind)
  opened_kept a id kind =
      streams_kept P a (opened a id kind)
      (λ h. law.make a.streams id a.sender.queue.next_message_id kind h)

  written_kept_at : (o : Option StreamView) (a : Shown) (id : ℕ) (named : Option PayloadProtocolIdentifier)
      (bytes : List ℕ) → Keeps P a (written_at o a id named bytes)
  written_kept_at None a id named bytes = stays_kept P a
  written_kept_at (Some s) a id named bytes =
      streams_kept P a (written_under (type_on s named) s a id bytes)
      (λ h. law.change (λ t. accepted_by t (type_on s named) (length bytes)) (λ t. refl) a.streams id h)

  pub written_kept : (a : Shown) (id : ℕ) (named : Option PayloadProtocolIdentifier) (bytes : List ℕ)
      → Keeps P a (written a id named bytes)
  written_kept a id named bytes = written_kept_at (stream_at a.streams id) a id named bytes

  -- no setting changes the name of a stream
  set_name : (setting : Setting) (s : StreamView) → name_of (with_setting s setting) ≡ name_of s
  set_name (settings.DefaultPayloadType kind) s = refl
  set_name (settings.Reliability params) s = refl
  set_name (settings.LowMark bytes) s = refl
  set_name (settings.HighMark bytes) s = refl
  set_name settings.WriteHalfClosed s = refl

  pub adjusted_kept : (a : Shown) (id : ℕ) (setting : Setting) → Keeps P a (adjusted a id setting)
  adjusted_kept a id setting =
      streams_kept P a (adjusted a id setting)
      (λ h. law.change (λ s. with_setting s setting) (set_name setting) a.streams id h)

  accepted_kept_from : (ids : List ℕ) (a : Shown) → Keeps P a (accepted_from ids a).0
  accepted_kept_from [] a = stays_kept P a
  accepted_kept_from (id ∷ ids) a = same_kept P a _ refl

  accepted_kept_if : (failed : Bool) (a : Shown)
      → Keeps P a (if failed then (a, None) else accepted_from a.to_accept a).0
  accepted_kept_if true a = stays_kept P a
  accepted_kept_if false a = accepted_kept_from a.to_accept a

  pub accepted_kept : (a : Shown) → Keeps P a (accepted_stream a).0
  accepted_kept a = accepted_kept_if a.failed a

  limited_kept_if : (failed : Bool) (a : Shown) (size : ℕ)
      → Keeps P a (if failed then a else record a { max_send_message_size = size })
  limited_kept_if true a size = stays_kept P a
  limited_kept_if false a size = same_kept P a _ refl

  pub limited_kept : (a : Shown) (size : ℕ) → Keeps P a (with_max_send_message_size a size)
  limited_kept a size = limited_kept_if a.failed a size

  -- Events

  told_kept_from : (x : ResetsView × List Event × Option Event) (a : Shown) → Keeps P a (event_from x a).0
  told_kept_from (r, left, None) a = same_kept P a _ refl
  told_kept_from (r, left, Some e) a = same_kept P a _ refl

  pub event_told_kept : (a : Shown) → Keeps P a (event_polled a).0
  event_told_kept a = told_kept_from (event_told a.resets a.events) a

  -- Reads

  drained_holds : (a : Shown) (id : ℕ) (streams : StreamMap) → P streams
      → P (drained_behind a id streams).streams
  drained_holds a id streams h =
      let first = a.sender.queue.next_message_id in
      let limit = a.receiver.max_receive_message_size in
      let c = channels streams a.events a.to_accept in
      resetting_holds P a (read_out first limit id a.resets c) (read_out_holds P law first limit id a.resets c h)

  read_holds_if : (x : StreamMap × Option ReceivedMessage) (a : Shown) (id : ℕ) → P x.0
      → P (after_read a id x).0.streams
  read_holds_if (streams, None) a id h = drained_holds a id streams h
  read_holds_if (streams, Some message) a id h =
      (eased_kept P law (credit_in a) (drained_behind a id streams)).holds (drained_holds a id streams h)

  pub read_kept : (a : Shown) (id : ℕ) → Keeps P a (read_from_stream a id).0
  read_kept a id = record {
    holds = λ h. read_holds_if (read_in a.streams id) a id (read_in_kept P law a.streams id h);
  }

  -- Stops

  half_kept : (a : Shown) (id : ℕ) → Keeps P a (without_read_half_of a id)
  half_kept a id =
      streams_kept P a (without_read_half_of a id)
      (λ h. law.change (λ s. with_halves s (without_read_half s.halves)) (λ s. refl) a.streams id h)

  stopped_kept_if : (retires : Bool) (b : Shown) (id : ℕ)
      → Keeps P b
      (if retires then with_beside b (stopped_reading id b.resets b.streams b.events) else
      record b { streams = unread_dropped (is_rfc b.profile) b.streams id; resets = waiting_for b.resets id })
  stopped_kept_if true b id =
      beside_kept P b (stopped_reading id b.resets b.streams b.events)
      (stopped_reading_holds P law id b.resets b.streams b.events)
  stopped_kept_if false b id = record {
    holds = λ h.
        dropped_or_not P (is_rfc b.profile) b.streams id h (law.change without_unread (λ s. refl) b.streams id h);
  }

  stopped_open_kept : (a : Shown) (id : ℕ) → Keeps P a (stopped_open a id)
  stopped_open_kept a id =
      then_kept P (half_kept a id) (stopped_kept_if (is_retiring a.resets id) (without_read_half_of a id) id)

  stop_kept_if : (reads : Bool) (before : ℕ) (a : Shown) (id : ℕ)
      → Keeps P a (if reads then eased before (stopped_open a id) else a)
  stop_kept_if true before a id =
      then_kept P (stopped_open_kept a id) (eased_kept P law before (stopped_open a id))
  stop_kept_if false before a id = stays_kept P a

  pub stopped_kept : (a : Shown) (id : ℕ) → Keeps P a (stopped a id)
  stopped_kept a id = stop_kept_if (holds_of (λ s. is_read_half_open s.halves) a id) (credit_in a) a id
