-- What the rules keep stays so where DATA comes, whose stream is found or made, and where a request of the peer that
-- waited for it is performed.
use Rattle.std.proofs.Common.{◌≡◌, refl, sym, ℕ, Bool, true, false, if◌then◌else◌, List, [], ◌∷◌, ◌++◌, Option, Some}
use Rattle.std.proofs.Common.{None, is_some}
use Rattle.std.proofs.lemmas.Bool.{false≢true}
use Rattle.sctp_wire_types.specs.declared.chunk.ChunkPayloadData.{ChunkPayloadData}
use Rattle.sctp_wire_types.specs.declared.error.Error.{Error}
use Rattle.sctp_wire_types.specs.declared.event.StreamEvent.TheVariants.{Opened, Readable}
use Rattle.sctp_wire_types.specs.declared.ids.PayloadProtocolIdentifier.TheVariants as kinds
use Rattle.sctp_streams.specs.declared.event.Event.{Event}
use Rattle.sctp_streams.specs.declared.event.Event.TheVariants.{DatagramReceived}
use Rattle.sctp_streams.specs.declared.event.Event.TheVariants as events
use Rattle.sctp_streams.specs.Stream.{StreamView}
use Rattle.sctp_streams.specs.Streams.{StreamMap, generation_left, is_readable_in, made, pushed_in, refusal_in}
use Rattle.sctp_streams.specs.Streams.{stream_at}
use Rattle.sctp_inbound.specs.declared.receiver.AckTrigger.{AckTrigger}
use Rattle.sctp_inbound.specs.Receiver.{admits, is_new_to, taken_to}
use Rattle.sctp_resets.specs.declared.performing.Settled.{Settled}
use Rattle.sctp_resets.specs.Resets as resets
use Rattle.sctp_resets.specs.Resets.{Resetting, is_hidden, refusal_of, skips_done, skips_done_of}
use Rattle.sctp_resets.proofs.KeptOver.{hidden_is_over, settled_over, skips_done_of_over, skips_done_over}
use Rattle.sctp_assoc.specs.Chunks.{asks, asks_or_faults, counted_data, deferred_unless, deferred_where_admitted}
use Rattle.sctp_assoc.specs.Chunks.{goes_unread, left_or_handed_over, left_unread, on_counted_data, on_data}
use Rattle.sctp_assoc.specs.Chunks.{on_new_data, stream_found, taken_in, taken_unless, taken_where_admitted, then_skips}
use Rattle.sctp_assoc.specs.Chunks.{told, with_message, with_new_stream}
use Rattle.sctp_assoc.specs.Closing.{is_exhausted}
use Rattle.sctp_assoc.specs.Resets.{asking_if, channels_of, settled, settled_with, skips_applied, skips_applied_of}
use Rattle.sctp_assoc.specs.Resets.{with_answer, with_resetting}
use Rattle.sctp_assoc.specs.Shown.{Shown, all_waiting}
use Rattle.sctp_sides.proofs.ChunksPast.{deferred_where_admitted_keeps as deferred_past}
use Rattle.sctp_sides.proofs.PeerRequestsInChunks.{flow_same}
use Rattle.sctp_closed.proofs.InDelivery.{skips_done_holds, skips_done_of_holds}
use Rattle.sctp_closed.proofs.InResets.{settled_holds}
use Rattle.sctp_closed.proofs.Rules.{IsUnended, Keeps, SideIs, same_side, stays, still_keeps, then_keeps}
use Rattle.sctp_closed.proofs.Steps.{asking_if_keeps, beside_keeps, resetting_keeps, responding_keeps}

-- a stream that is not live is none
none_of : (o : Option StreamView) → is_some o ≡ false → o ≡ None
none_of None e = refl
none_of (Some s) e = absurd (false≢true (sym e))

module _ (over : ℕ → Bool) (P : Bool → StreamMap → List Event → Type 0) (law : IsUnended over P) where
  -- Skips that were kept are applied

  skips_applied_of_keep : (id : ℕ) (a : Shown) → Keeps over P a (skips_applied_of id a)
  skips_applied_of_keep id a =
      beside_keeps over P a (skips_done_of id a.resets a.streams a.events)
      (λ r. skips_done_of_over over id a.resets a.streams a.events r)
      (λ r h. skips_done_of_holds over P law a.lost id a.resets a.streams a.events h)

  skips_applied_keep : (a : Shown) → Keeps over P a (skips_applied a)
  skips_applied_keep a =
      beside_keeps over P a (skips_done a.resets a.streams a.events)
      (λ r. skips_done_over over a.resets a.streams a.events r)
      (λ r h. skips_done_holds over P law a.lost a.resets a.streams a.events h)

  -- A request of the peer that waited is performed

  answer_keeps : (answer : Option Settled) (a : Shown) → Keeps over P a (with_answer answer a)
  answer_keeps None a = stays over P a
  answer_keeps (Some q) a =
      then_keeps over P (asking_if_keeps over P q.asks a) (responding_keeps over P (asking_if q.asks a) q.number _)

  settled_with_keeps : (a : Shown) (x : Resetting × Option Settled) → Keeps over P a (with_resetting a x.0)
      → Keeps over P a (settled_with a x)
  settled_with_keeps a (s, answer) first = then_keeps over P first (answer_keeps answer (with_resetting a s))

  pub settling_keeps : (a : Shown) → Keeps over P a (settled a)
  unfolding settled
  settling_keeps a =
      let last = a.receiver.peer_last_tsn in
      let first = a.sender.queue.next_message_id in
      let limit = a.receiver.max_receive_message_size in
      let x : Resetting × Option Settled = resets.settled last first limit a.resets (channels_of a) in
      then_keeps over P
      (settled_with_keeps a x
      (resetting_keeps over P a x.0 (λ r. settled_over over last first limit a.resets (channels_of a) r)
      (λ r h. settled_holds over P law a.lost last first limit a.resets (channels_of a) r h)))
      (skips_applied_keep (settled_with a x))

  -- DATA

  found_keeps_if : (there left : Bool) (a : Shown) (id : ℕ) → is_some (stream_at a.streams id) ≡ there
      → generation_left a.streams ≡ left → Keeps over P a (stream_found a id).0
  unfolding stream_found
  found_keeps_if true left a id e f = rw e (stays over P a)
  found_keeps_if false true a id e f =
      rw (e, f)
      (still_keeps over P a (with_new_stream a id) refl
      (λ h. law.says a.lost (made a.streams id a.sender.queue.next_message_id kinds.Unknown) a.events
      (events.Stream (Opened id) ∷ []) (tt, tt)
      (law.makes a.lost a.streams a.events id a.sender.queue.next_message_id kinds.Unknown
      (none_of (stream_at a.streams id) e) h)))
  found_keeps_if false false a id e f = rw (e, f) (stays over P a)

  pub stream_found_keeps : (a : Shown) (id : ℕ) → Keeps over P a (stream_found a id).0
  stream_found_keeps a id =
      found_keeps_if (is_some (stream_at a.streams id)) (generation_left a.streams) a id refl refl

  received_holds : (a : Shown) → SideIs P a → P a.lost a.streams (a.events ++ DatagramReceived ∷ [])
  received_holds a h = law.says a.lost a.streams a.events (DatagramReceived ∷ []) (tt, tt) h

  told_keeps : (readable kept : Bool) (a : Shown) (id : ℕ) → is_readable_in a.streams id ≡ readable
      → Keeps over P a (told a id kept)
  told_keeps true true a id e =
      rw e
      (still_keeps over P a _ refl
      (λ h. law.says a.lost a.streams (a.events ++ DatagramReceived ∷ []) (events.Stream (Readable id) ∷ []) (tt, tt)
      (received_holds a h)))
  told_keeps false true a id e = rw e (still_keeps over P a _ refl (λ h. received_holds a h))
  told_keeps readable false a id e = still_keeps over P a _ refl (λ h. received_holds a h)

  message_keeps : (a : Shown) (piece : ChunkPayloadData) (x : StreamMap × Bool)
      → (SideIs P a → P a.lost x.0 a.events) → Keeps over P a (with_message a piece x)
  message_keeps a piece (streams, kept) still =
      let b : Shown = record a { streams = streams; receiver = taken_to a.receiver piece.tsn } in
      then_keeps over P (still_keeps over P a b refl still)
      (told_keeps (is_readable_in streams piece.stream_identifier) kept b piece.stream_identifier refl)

  taken_unless_keeps : (refusal : Option Error) (a : Shown) (piece : ChunkPayloadData)
      → Keeps over P a (taken_unless refusal a piece).0
  taken_unless_keeps (Some fault) a piece = stays over P a
  taken_unless_keeps None a piece =
      message_keeps a piece (pushed_in a.streams piece.stream_identifier piece)
      (λ h. law.pushes a.lost a.streams a.events piece.stream_identifier piece h)

  -- what nobody reads is left, and other DATA goes to its stream
  leaving_keeps : (left : Bool) (a : Shown) (piece : ChunkPayloadData)
      → Keeps over P a (left_or_handed_over left a piece).0
  leaving_keeps true a piece = still_keeps over P a (left_unread a piece) refl (λ h. received_holds a h)
  leaving_keeps false a piece =
      taken_unless_keeps (refusal_in a.streams piece.stream_identifier piece a.receiver.max_receive_message_size) a
      piece

  taken_in_keeps : (a : Shown) (piece : ChunkPayloadData) → Keeps over P a (taken_in a piece).0
  unfolding taken_in
  taken_in_keeps a piece = leaving_keeps (goes_unread a piece) a piece

  then_skips_keep : (x : Shown × Option Error) (id : ℕ) → Keeps over P x.0 (then_skips x id).0
  then_skips_keep (a, None) id = skips_applied_of_keep id a
  then_skips_keep (a, Some fault) id = stays over P a

  admitted_keeps : (credit : Bool) (a : Shown) (piece : ChunkPayloadData)
      → Keeps over P a (if credit then then_skips (taken_in a piece) piece.stream_identifier else (a, None)).0
  admitted_keeps true a piece =
      then_keeps over P (taken_in_keeps a piece) (then_skips_keep (taken_in a piece) piece.stream_identifier)
  admitted_keeps false a piece = stays over P a

  taken_where_admitted_keeps : (a : Shown) (piece : ChunkPayloadData) → Keeps over P a (taken_where_admitted a piece).0
  taken_where_admitted_keeps a piece = admitted_keeps (admits a.receiver piece.tsn (all_waiting a)) a piece

  -- one of a generation that is not read yet waits apart

  deferred_unless_still : (refusal : Option Error) (a : Shown) (piece : ChunkPayloadData) → SideIs P a
      → SideIs P (deferred_unless refusal a piece).0
  deferred_unless_still (Some fault) a piece h = h
  deferred_unless_still None a piece h = h

  deferred_still_if : (credit : Bool) (a : Shown) (piece : ChunkPayloadData)
      → admits a.receiver piece.tsn (all_waiting a) ≡ credit → SideIs P a
      → SideIs P (deferred_where_admitted a piece).0
  unfolding deferred_where_admitted
  deferred_still_if true a piece e h =
      rw e (deferred_unless_still (refusal_of a.resets piece a.receiver.max_receive_message_size) a piece h)
  deferred_still_if false a piece e h = rw e h

  deferred_keeps : (a : Shown) (piece : ChunkPayloadData)
      → is_hidden a.resets piece.stream_identifier piece.tsn ≡ true
      → Keeps over P a (deferred_where_admitted a piece).0
  deferred_keeps a piece later = record {
    resets =
        (deferred_past over a piece
        (λ r. hidden_is_over over a.resets piece.stream_identifier piece.tsn r later)).resets;
    keeps = λ r h. deferred_still_if (admits a.receiver piece.tsn (all_waiting a)) a piece refl h;
  }

  asks_keeps : (a : Shown) (immediate : Bool) (trigger : AckTrigger) → Keeps over P a (asks a immediate trigger).0
  asks_keeps a immediate trigger = same_side over P a _ (flow_same (is_exhausted a) a _ _)

  settled_asks_keeps : (a : Shown) (immediate : Bool) (trigger : AckTrigger)
      → Keeps over P a (asks (settled a) immediate trigger).0
  settled_asks_keeps a immediate trigger =
      then_keeps over P (settling_keeps a) (asks_keeps (settled a) immediate trigger)

  asks_or_faults_keeps : (x : Shown × Option Error) (immediate : Bool) (trigger : AckTrigger)
      → Keeps over P x.0 (asks_or_faults x immediate trigger).0
  asks_or_faults_keeps (a, None) immediate trigger = settled_asks_keeps a immediate trigger
  asks_or_faults_keeps (a, Some fault) immediate trigger = stays over P a

  new_data_keeps : (x : Shown × Bool) (piece : ChunkPayloadData) (trigger : AckTrigger)
      → Keeps over P x.0 (on_new_data x piece trigger).0
  new_data_keeps (a, false) piece trigger = stays over P a
  new_data_keeps (a, true) piece trigger =
      then_keeps over P (taken_where_admitted_keeps a piece)
      (asks_or_faults_keeps (taken_where_admitted a piece) piece.immediate_sack trigger)

  data_keeps_if : (next hidden : Bool) (a : Shown) (piece : ChunkPayloadData) (trigger : AckTrigger)
      → is_new_to a.receiver piece.tsn ≡ next → is_hidden a.resets piece.stream_identifier piece.tsn ≡ hidden
      → Keeps over P a (on_counted_data a piece trigger).0
  data_keeps_if false hidden a piece trigger e f = rw e (settled_asks_keeps a piece.immediate_sack trigger)
  data_keeps_if true true a piece trigger e f =
      rw (e, f)
      (then_keeps over P (deferred_keeps a piece f)
      (asks_or_faults_keeps (deferred_where_admitted a piece) piece.immediate_sack trigger))
  data_keeps_if true false a piece trigger e f =
      rw (e, f)
      (then_keeps over P (stream_found_keeps a piece.stream_identifier)
      (new_data_keeps (stream_found a piece.stream_identifier) piece trigger))

  pub on_data_keeps : (a : Shown) (piece : ChunkPayloadData) (trigger : AckTrigger)
      → Keeps over P a (on_data a piece trigger).0
  unfolding on_data
  on_data_keeps a piece trigger =
      let b : Shown = counted_data a in
      then_keeps over P (still_keeps over P a b refl (λ h. h))
      (data_keeps_if (is_new_to b.receiver piece.tsn) (is_hidden b.resets piece.stream_identifier piece.tsn) b piece
      trigger refl refl)
