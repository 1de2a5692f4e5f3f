-- What the calls of an application leave to be read is what was held before.
use Rattle.std.proofs.Common.{refl, ℕ, Bool, true, false, if◌then◌else◌, List, [], ◌∷◌, length, Option, Some, None}
use Rattle.sctp_wire_types.specs.Config.{is_rfc}
use Rattle.sctp_wire_types.specs.declared.chunk.ChunkPayloadData.{ChunkPayloadData}
use Rattle.sctp_wire_types.specs.declared.ids.PayloadProtocolIdentifier.{PayloadProtocolIdentifier}
use Rattle.sctp_receive_queues.specs.Messages.{ReceivedMessage}
use Rattle.sctp_streams.specs.declared.event.Event.{Event}
use Rattle.sctp_streams.specs.declared.setting.Setting.{Setting}
use Rattle.sctp_streams.specs.declared.setting.Setting.TheVariants as settings
use Rattle.sctp_streams.specs.Stream.{StreamView, accepted_by, is_read_half_open, with_halves, with_setting}
use Rattle.sctp_streams.specs.Stream.{without_read_half, without_unread}
use Rattle.sctp_streams.specs.Streams.{StreamMap, read_in, stream_at}
use Rattle.sctp_directions.specs.Acts.{type_on}
use Rattle.sctp_resets.specs.Channels.{channels}
use Rattle.sctp_resets.specs.Resets.{ResetsView, event_told, is_retiring, read_out, stopped_reading, waiting_for}
use Rattle.sctp_assoc.specs.Calls.{accepted_from, accepted_stream, adjusted, after_read, credit_in, drained_behind}
use Rattle.sctp_assoc.specs.Calls.{eased, event_from}
use Rattle.sctp_assoc.specs.Calls.{event_polled, holds_of, opened, read_from_stream, stopped, stopped_open}
use Rattle.sctp_assoc.specs.Calls.{unread_dropped, with_max_send_message_size, without_read_half_of, written}
use Rattle.sctp_assoc.specs.Calls.{written_at, written_under}
use Rattle.sctp_assoc.specs.Resets.{with_beside}
use Rattle.sctp_assoc.specs.Shown.{Shown}
use Rattle.sctp_assoc.proofs.StopsLeadOn.{dropped_or_not}
use Rattle.sctp_sides.specs.Brought.{SideHoldsOnly}
use Rattle.sctp_reset_fit.specs.Pieces.{HoldsOnly, IsMadeOfWhereThere}
use Rattle.sctp_reset_fit.proofs.HeldPieces.{empty_holds}
use Rattle.sctp_sides.specs.Held.{IsHeldOnly, StreamsHoldOnly}
use Rattle.sctp_sides.proofs.HeldInResets.{event_told_holds, read_out_holds, stopped_reading_holds}
use Rattle.sctp_sides.proofs.HeldSteps.{KeepsHeld, beside_held, eased_held, resetting_holds, same_held, stays_held}
use Rattle.sctp_sides.proofs.HeldSteps.{streams_held, then_held}
use Rattle.sctp_sides.proofs.HeldStreams.{changed_holds, made_holds, read_in_holds}

-- The DATA of which something is so.
module _ (P : ChunkPayloadData → Type 0) where
  -- Streams, writes, settings and limits

  pub opened_held : (a : Shown) (id : ℕ) (kind : PayloadProtocolIdentifier) → KeepsHeld P a (opened a id kind)
  opened_held a id kind =
      streams_held P a (opened a id kind)
      (λ h. made_holds P a.streams id a.sender.queue.next_message_id kind h.streams) refl

  written_held_at : (o : Option StreamView) (a : Shown) (id : ℕ) (named : Option PayloadProtocolIdentifier)
      (bytes : List ℕ) → KeepsHeld P a (written_at o a id named bytes)
  written_held_at None a id named bytes = stays_held P a
  written_held_at (Some s) a id named bytes =
      streams_held P a (written_under (type_on s named) s a id bytes)
      (λ h. changed_holds P (λ t. accepted_by t (type_on s named) (length bytes)) (λ k t held. held) a.streams id
      h.streams)
      refl

  pub written_held : (a : Shown) (id : ℕ) (named : Option PayloadProtocolIdentifier) (bytes : List ℕ)
      → KeepsHeld P a (written a id named bytes)
  written_held a id named bytes = written_held_at (stream_at a.streams id) a id named bytes

  -- no setting changes what waits to be read of a stream
  set_holds : (setting : Setting) (id : ℕ) (s : StreamView) → HoldsOnly P id s.reassembly
      → HoldsOnly P id (with_setting s setting).reassembly
  set_holds (settings.DefaultPayloadType kind) id s h = h
  set_holds (settings.Reliability params) id s h = h
  set_holds (settings.LowMark bytes) id s h = h
  set_holds (settings.HighMark bytes) id s h = h
  set_holds settings.WriteHalfClosed id s h = h

  pub adjusted_held : (a : Shown) (id : ℕ) (setting : Setting) → KeepsHeld P a (adjusted a id setting)
  adjusted_held a id setting =
      streams_held P a (adjusted a id setting)
      (λ h. changed_holds P (λ s. with_setting s setting) (set_holds setting) a.streams id h.streams) refl

  accepted_held_from : (ids : List ℕ) (a : Shown) → KeepsHeld P a (accepted_from ids a).0
  accepted_held_from [] a = stays_held P a
  accepted_held_from (id ∷ ids) a = same_held P a _ refl refl

  accepted_held_if : (failed : Bool) (a : Shown)
      → KeepsHeld P a (if failed then (a, None) else accepted_from a.to_accept a).0
  accepted_held_if true a = stays_held P a
  accepted_held_if false a = accepted_held_from a.to_accept a

  pub accepted_held : (a : Shown) → KeepsHeld P a (accepted_stream a).0
  accepted_held a = accepted_held_if a.failed a

  limited_held_if : (failed : Bool) (a : Shown) (size : ℕ)
      → KeepsHeld P a (if failed then a else record a { max_send_message_size = size })
  limited_held_if true a size = stays_held P a
  limited_held_if false a size = same_held P a _ refl refl

  pub limited_held : (a : Shown) (size : ℕ) → KeepsHeld P a (with_max_send_message_size a size)
  limited_held a size = limited_held_if a.failed a size

  -- Events

  told_held_from : (x : ResetsView × List Event × Option Event) (a : Shown)
      → (SideHoldsOnly P a → IsHeldOnly P x.0 a.streams) → KeepsHeld P a (event_from x a).0
  told_held_from (r, left, None) a still = record { holds = still }
  told_held_from (r, left, Some e) a still = record { holds = still }

  pub event_told_held : (a : Shown) → KeepsHeld P a (event_polled a).0
  event_told_held a =
      told_held_from (event_told a.resets a.events) a (event_told_holds P a.resets a.streams a.events)

  -- Reads

  drained_holds : (a : Shown) (id : ℕ) (streams : StreamMap) → IsHeldOnly P a.resets streams
      → SideHoldsOnly P (drained_behind a id streams)
  drained_holds a id streams h =
      let first = a.sender.queue.next_message_id in
      let limit = a.receiver.max_receive_message_size in
      let c = channels streams a.events a.to_accept in
      resetting_holds P a (read_out first limit id a.resets c) (read_out_holds P first limit id a.resets c h)

  read_holds_if : (x : StreamMap × Option ReceivedMessage) (a : Shown) (id : ℕ) → IsHeldOnly P a.resets x.0
      → SideHoldsOnly P (after_read a id x).0
  read_holds_if (streams, None) a id h = drained_holds a id streams h
  read_holds_if (streams, Some message) a id h =
      (eased_held P (credit_in a) (drained_behind a id streams)).holds (drained_holds a id streams h)

  pub read_held : (a : Shown) (id : ℕ) → KeepsHeld P a (read_from_stream a id).0
  read_held a id = record {
    holds = λ h.
        read_holds_if (read_in a.streams id) a id
        (record { streams = (read_in_holds P a.streams id h.streams).0; kept = h.kept });
  }

  read_gives_if : (x : StreamMap × Option ReceivedMessage) (a : Shown) (id : ℕ) → IsMadeOfWhereThere P id x.1
      → IsMadeOfWhereThere P id (after_read a id x).1
  read_gives_if (streams, None) a id made = made
  read_gives_if (streams, Some message) a id made = made

  -- a message that is read was held
  pub read_gives : (a : Shown) (id : ℕ) → SideHoldsOnly P a → IsMadeOfWhereThere P id (read_from_stream a id).1
  read_gives a id h = read_gives_if (read_in a.streams id) a id (read_in_holds P a.streams id h.streams).1

  -- Stops

  half_held : (a : Shown) (id : ℕ) → KeepsHeld P a (without_read_half_of a id)
  half_held a id =
      streams_held P a (without_read_half_of a id)
      (λ h. changed_holds P (λ s. with_halves s (without_read_half s.halves)) (λ k s held. held) a.streams id h.streams)
      refl

  stopped_held_if : (retires : Bool) (b : Shown) (id : ℕ)
      → KeepsHeld P b
      (if retires then with_beside b (stopped_reading id b.resets b.streams b.events) else
      record b { streams = unread_dropped (is_rfc b.profile) b.streams id; resets = waiting_for b.resets id })
  stopped_held_if true b id =
      beside_held P b (stopped_reading id b.resets b.streams b.events)
      (stopped_reading_holds P id b.resets b.streams b.events)
  stopped_held_if false b id = record {
    holds = λ h. record {
      streams =
          dropped_or_not (StreamsHoldOnly P) (is_rfc b.profile) b.streams id h.streams
          (changed_holds P without_unread (λ k s held. empty_holds P k) b.streams id h.streams);
      kept = h.kept;
    };
  }

  stopped_open_held : (a : Shown) (id : ℕ) → KeepsHeld P a (stopped_open a id)
  stopped_open_held a id =
      then_held P (half_held a id) (stopped_held_if (is_retiring a.resets id) (without_read_half_of a id) id)

  stop_held_if : (reads : Bool) (before : ℕ) (a : Shown) (id : ℕ)
      → KeepsHeld P a (if reads then eased before (stopped_open a id) else a)
  stop_held_if true before a id = then_held P (stopped_open_held a id) (eased_held P before (stopped_open a id))
  stop_held_if false before a id = stays_held P a

  pub stopped_held : (a : Shown) (id : ℕ) → KeepsHeld P a (stopped a id)
  stopped_held a id = stop_held_if (holds_of (λ s. is_read_half_open s.halves) a id) (credit_in a) a id
