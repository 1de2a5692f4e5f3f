-- The calls of an application carry what each of the rules carries.
use Rattle.std.proofs.Common.{◌≡◌, refl, ℕ, Bool, true, false, if◌then◌else◌, not, List, [], ◌∷◌, length, filter}
use Rattle.std.proofs.Common.{remove, slice_get, Option, Some, None}
use Rattle.sctp_wire_types.specs.Config.{is_rfc}
use Rattle.sctp_wire_types.specs.declared.chunk.ChunkPayloadData.{ChunkPayloadData}
use Rattle.sctp_wire_types.specs.declared.ids.PayloadProtocolIdentifier.{PayloadProtocolIdentifier}
use Rattle.sctp_receive_queues.specs.Messages.{ReceivedMessage}
use Rattle.sctp_streams.specs.declared.event.Event.{Event}
use Rattle.sctp_streams.specs.declared.halves.RecvSendState.{RecvSendState}
use Rattle.sctp_streams.specs.declared.halves.RecvSendState.TheVariants as halves
use Rattle.sctp_streams.specs.declared.setting.Setting.{Setting}
use Rattle.sctp_streams.specs.declared.setting.Setting.TheVariants as settings
use Rattle.sctp_streams.specs.Events.{is_told_of}
use Rattle.sctp_streams.specs.Stream.{StreamView, accepted_by, is_read_half_open, with_setting}
use Rattle.sctp_streams.specs.Stream.{without_unread, without_write_half}
use Rattle.sctp_streams.specs.Streams.{StreamMap, changed_stream, read_in, stream_at}
use Rattle.sctp_generations.specs.Generations.{GenerationsView, discarded, has_newest}
use Rattle.sctp_reset_requests.specs.Peer.{PeerView}
use Rattle.sctp_resets.specs.Channels.{channels}
use Rattle.sctp_resets.specs.Resets.{Beside, ResetsView, dropped, ended_unless, event_told, event_told_at, is_blocked}
use Rattle.sctp_resets.specs.Resets.{is_retiring, read_out, reset_or_ended, stopped_reading, waiting_for, with_event}
use Rattle.sctp_resets.specs.Resets.{with_generations}
use Rattle.sctp_resets.specs.Telling.{next_told}
use Rattle.sctp_resets.proofs.ListsOver.{of_chosen}
use Rattle.sctp_reset_fit.specs.Laws.{Passes}
use Rattle.sctp_reset_fit.specs.Pieces.{HoldsOnly}
use Rattle.sctp_directions.specs.Acts.{type_on}
use Rattle.sctp_assoc.specs.Calls.{accepted_from, accepted_stream, adjusted, after_read, credit_in, drained_behind}
use Rattle.sctp_assoc.specs.Calls.{eased, event_from, event_polled, holds_of, opened, read_from_stream, stopped}
use Rattle.sctp_assoc.specs.Calls.{stopped_open, unread_dropped}
use Rattle.sctp_assoc.specs.Calls.{with_max_send_message_size, without_read_half_of, written, written_at, written_under}
use Rattle.sctp_assoc.specs.Resets.{with_beside}
use Rattle.sctp_assoc.specs.Shown.{Shown}
use Rattle.sctp_assoc.proofs.StopsLeadOn.{dropped_or_not}
use Rattle.sctp_ended.proofs.Carried.{Carries, IsCarried, IsMild, SideIs, beside_is, eased_carries, emptied_is_mild}
use Rattle.sctp_ended.proofs.Carried.{half_closed, half_closed_is_mild, nothing_carries, resetting_is, same_carries}
use Rattle.sctp_ended.proofs.Carried.{streams_carry, then_carries}

-- What is done to one stream

-- a write half that closes leaves the read half
opens_still : (h : RecvSendState) → is_read_half_open (without_write_half h) ≡ true → is_read_half_open h ≡ true
opens_still halves.Closed e = e
opens_still halves.Readable e = e
opens_still halves.Writable e = e
opens_still halves.ReadWritable e = e

-- no setting opens a read half, or changes the number of a stream or what waits to be read of it

set_number : (setting : Setting) (s : StreamView) → (with_setting s setting).stats.generation ≡ s.stats.generation
set_number (settings.DefaultPayloadType kind) s = refl
set_number (settings.Reliability params) s = refl
set_number (settings.LowMark bytes) s = refl
set_number (settings.HighMark bytes) s = refl
set_number settings.WriteHalfClosed s = refl

set_opens : (setting : Setting) (s : StreamView) → is_read_half_open (with_setting s setting).halves ≡ true
    → is_read_half_open s.halves ≡ true
set_opens (settings.DefaultPayloadType kind) s e = e
set_opens (settings.Reliability params) s e = e
set_opens (settings.LowMark bytes) s e = e
set_opens (settings.HighMark bytes) s e = e
set_opens settings.WriteHalfClosed s e = opens_still s.halves e

set_holds : (setting : Setting) (test : ChunkPayloadData → Bool) (id : ℕ) (s : StreamView)
    → HoldsOnly (Passes test) id s.reassembly → HoldsOnly (Passes test) id (with_setting s setting).reassembly
set_holds (settings.DefaultPayloadType kind) test id s h = h
set_holds (settings.Reliability params) test id s h = h
set_holds (settings.LowMark bytes) test id s h = h
set_holds (settings.HighMark bytes) test id s h = h
set_holds settings.WriteHalfClosed test id s h = h

pub set_is_mild : (setting : Setting) → IsMild (λ s. with_setting s setting)
set_is_mild setting =
    record { number = set_number setting; opens = set_opens setting; holds = set_holds setting }

accepted_is_mild : (kind : PayloadProtocolIdentifier) (bytes : ℕ) → IsMild (λ s. accepted_by s kind bytes)
accepted_is_mild kind bytes = record { number = λ s. refl; opens = λ s e. e; holds = λ test id s h. h }

module _ {Open : GenerationsView → PeerView → Type 0} {T : GenerationsView → PeerView → StreamMap → Type 0}
    (rules : IsCarried Open T) where
  -- Streams, writes, settings and limits

  -- a stream is opened where none was live
  pub opened_carries : (a : Shown) (id : ℕ) (kind : PayloadProtocolIdentifier) → stream_at a.streams id ≡ None
      → Carries T a (opened a id kind)
  opened_carries a id kind none =
      streams_carry a (opened a id kind)
      (λ h. rules.streams.makes a.resets.generations a.resets.peer a.streams id a.sender.queue.next_message_id kind none
      h) refl refl

  written_carries_at : (o : Option StreamView) (a : Shown) (id : ℕ) (named : Option PayloadProtocolIdentifier)
      (bytes : List ℕ) → Carries T a (written_at o a id named bytes)
  written_carries_at None a id named bytes = nothing_carries a
  written_carries_at (Some s) a id named bytes =
      streams_carry a (written_under (type_on s named) s a id bytes)
      (λ h. rules.streams.changes a.resets.generations a.resets.peer a.streams
      (λ t. accepted_by t (type_on s named) (length bytes)) id (accepted_is_mild (type_on s named) (length bytes)) h)
      refl refl

  pub written_carries : (a : Shown) (id : ℕ) (named : Option PayloadProtocolIdentifier) (bytes : List ℕ)
      → Carries T a (written a id named bytes)
  written_carries a id named bytes = written_carries_at (stream_at a.streams id) a id named bytes

  pub adjusted_carries : (a : Shown) (id : ℕ) (setting : Setting) → Carries T a (adjusted a id setting)
  adjusted_carries a id setting =
      streams_carry a (adjusted a id setting)
      (λ h. rules.streams.changes a.resets.generations a.resets.peer a.streams (λ s. with_setting s setting) id
      (set_is_mild setting) h) refl refl

  accepted_carries_from : (ids : List ℕ) (a : Shown) → Carries T a (accepted_from ids a).0
  accepted_carries_from [] a = nothing_carries a
  accepted_carries_from (id ∷ ids) a = same_carries a _ refl refl refl

  accepted_carries_if : (failed : Bool) (a : Shown)
      → Carries T a (if failed then (a, None) else accepted_from a.to_accept a).0
  accepted_carries_if true a = nothing_carries a
  accepted_carries_if false a = accepted_carries_from a.to_accept a

  pub accepted_carries : (a : Shown) → Carries T a (accepted_stream a).0
  accepted_carries a = accepted_carries_if a.failed a

  limited_carries_if : (failed : Bool) (a : Shown) (size : ℕ)
      → Carries T a (if failed then a else record a { max_send_message_size = size })
  limited_carries_if true a size = nothing_carries a
  limited_carries_if false a size = same_carries a _ refl refl refl

  pub limited_carries : (a : Shown) (size : ℕ) → Carries T a (with_max_send_message_size a size)
  limited_carries a size = limited_carries_if a.failed a size

  -- Events

  -- it is so of resets beside these streams
  abbrev ResetsAre : ResetsView → StreamMap → Type 0
  ResetsAre r m = T r.generations r.peer m

  told_carries : (r : ResetsView) (m : StreamMap) (told : List Event) → ResetsAre r m
      → ResetsAre (event_told r told).0 m
  told_carries r m told h = by (next_told r.generations r.debts told)
    where
      given : (o : Option Event) (rest : List Event) → ResetsAre (with_event o r rest).0 m
      given None rest = h
      given (Some e) rest = h

      by : (o : Option ℕ) → ResetsAre (event_told_at o r told).0 m
      by None = h
      by (Some index) = given (slice_get told index) (remove told index)

  told_carries_from : (x : ResetsView × List Event × Option Event) (a : Shown) → (SideIs T a → ResetsAre x.0 a.streams)
      → Carries T a (event_from x a).0
  told_carries_from (r, left, None) a still = record { carries = still }
  told_carries_from (r, left, Some e) a still = record { carries = still }

  pub event_told_carries : (a : Shown) → Carries T a (event_polled a).0
  event_told_carries a =
      told_carries_from (event_told a.resets a.events) a (told_carries a.resets a.streams a.events)

  -- Reads

  drained_carries : (a : Shown) (id : ℕ) (streams : StreamMap) → ResetsAre a.resets streams
      → SideIs T (drained_behind a id streams)
  drained_carries a id streams h =
      let first = a.sender.queue.next_message_id in
      let limit = a.receiver.max_receive_message_size in
      let c = channels streams a.events a.to_accept in
      resetting_is T a (read_out first limit id a.resets c) (rules.reads_out first limit id a.resets c h)

  read_carries_if : (x : StreamMap × Option ReceivedMessage) (a : Shown) (id : ℕ) → ResetsAre a.resets x.0
      → SideIs T (after_read a id x).0
  read_carries_if (streams, None) a id h = drained_carries a id streams h
  read_carries_if (streams, Some message) a id h =
      (eased_carries rules (credit_in a) (drained_behind a id streams)).carries (drained_carries a id streams h)

  pub read_carries : (a : Shown) (id : ℕ) → Carries T a (read_from_stream a id).0
  read_carries a id = record {
    carries = λ h.
        read_carries_if (read_in a.streams id) a id
        (rules.streams.reads a.resets.generations a.resets.peer a.streams id h);
  }

  -- Stops: the read half closes, and what waits of the stream is dropped, where it retires or the profile has it so

  abbrev AreBeside : Beside → Type 0
  AreBeside x = ResetsAre x.0 x.1

  -- of a stream that retires more came, or not; or a reset of it is open in the other direction, or not
  reset_or_ended_carries : (more : Bool) (r : ResetsView) (id : ℕ) (m : StreamMap) (told : List Event) → ResetsAre r m
      → AreBeside (reset_or_ended more r id m told)
  reset_or_ended_carries true r id m told h = h
  reset_or_ended_carries false r id m told h = rules.streams.ends r.generations r.peer m id h

  ended_unless_carries : (blocked : Bool) (r : ResetsView) (id : ℕ) (m : StreamMap) (told : List Event) → ResetsAre r m
      → AreBeside (ended_unless blocked r id m told)
  ended_unless_carries true r id m told h = h
  ended_unless_carries false r id m told h = rules.streams.ends r.generations r.peer m id h

  dropped_carries : (more : Bool) (r : ResetsView) (id : ℕ) (m : StreamMap) (told : List Event) → ResetsAre r m
      → AreBeside (dropped more r id m told)
  dropped_carries more r id m told h =
      of_chosen AreBeside (is_rfc r.own.profile) (reset_or_ended more r id m told)
      (ended_unless (is_blocked r id) r id m told) (reset_or_ended_carries more r id m told h)
      (ended_unless_carries (is_blocked r id) r id m told h)

  stopped_reading_carries : (id : ℕ) (r : ResetsView) (m : StreamMap) (told : List Event)
      → T (discarded r.generations id) r.peer (changed_stream without_unread m id)
      → AreBeside (stopped_reading id r m told)
  stopped_reading_carries id r m told h =
      dropped_carries (has_newest r.generations id) (with_generations r (discarded r.generations id)) id
      (changed_stream without_unread m id) (filter (λ e. not (is_told_of id e)) told) h

  stopped_carries_if : (retiring : Bool) (a : Shown) (id : ℕ)
      → Carries T a
      (let b = without_read_half_of a id in
      if retiring then with_beside b (stopped_reading id b.resets b.streams b.events) else
      record b { streams = unread_dropped (is_rfc b.profile) b.streams id; resets = waiting_for b.resets id })
  stopped_carries_if true a id = record {
    carries = λ h.
        (let b : Shown = without_read_half_of a id in
        beside_is T b (stopped_reading id b.resets b.streams b.events)
        (stopped_reading_carries id b.resets b.streams b.events
        (rules.stops a.resets.generations a.resets.peer a.streams id h)));
  }
  stopped_carries_if false a id = record {
    carries = λ h.
        (let g = a.resets.generations in
        let p = a.resets.peer in
        let b : Shown = without_read_half_of a id in
        let half : T g p b.streams = rules.streams.changes g p a.streams half_closed id half_closed_is_mild h in
        dropped_or_not (T g p) (is_rfc a.profile) b.streams id half
        (rules.streams.changes g p b.streams without_unread id emptied_is_mild half));
  }

  stopped_open_carries : (a : Shown) (id : ℕ) → Carries T a (stopped_open a id)
  stopped_open_carries a id = stopped_carries_if (is_retiring a.resets id) a id

  stop_carries_if : (reads : Bool) (before : ℕ) (a : Shown) (id : ℕ)
      → Carries T a (if reads then eased before (stopped_open a id) else a)
  stop_carries_if true before a id =
      then_carries (stopped_open_carries a id) (eased_carries rules before (stopped_open a id))
  stop_carries_if false before a id = nothing_carries a

  pub stopped_carries : (a : Shown) (id : ℕ) → Carries T a (stopped a id)
  stopped_carries a id = stop_carries_if (holds_of (λ s. is_read_half_open s.halves) a id) (credit_in a) a id
