-- DATA that comes carries what each of the rules carries: new DATA of the generation that is read, that of one that is
-- not read yet, and a request of the peer that waited for it and is performed.
use Rattle.std.proofs.Common.{◌≡◌, refl, sym, subst, ℕ, Bool, true, false, if◌then◌else◌, Option, Some, None}
use Rattle.std.proofs.Common.{is_some}
use Rattle.std.proofs.lemmas.Bool.{false≢true}
use Rattle.sctp_wire_types.specs.declared.chunk.ChunkPayloadData.{ChunkPayloadData}
use Rattle.sctp_wire_types.specs.declared.error.Error.{Error}
use Rattle.sctp_wire_types.specs.declared.ids.PayloadProtocolIdentifier.TheVariants as kinds
use Rattle.sctp_streams.specs.Stream.{StreamView}
use Rattle.sctp_streams.specs.Streams.{StreamMap, generation_left, is_readable_in, pushed_in, refusal_in, stream_at}
use Rattle.sctp_generations.specs.Generations.{GenerationsView}
use Rattle.sctp_inbound.specs.declared.receiver.AckTrigger.{AckTrigger}
use Rattle.sctp_inbound.specs.Receiver.{admits, is_new_to, taken_to}
use Rattle.sctp_reset_requests.specs.Peer.{PeerView}
use Rattle.sctp_resets.specs.declared.performing.Settled.{Settled}
use Rattle.sctp_resets.specs.Resets as resets
use Rattle.sctp_resets.specs.Resets.{ResetsView, Resetting, is_hidden, refusal_of, skips_done, skips_done_of}
use Rattle.sctp_assoc.specs.Chunks.{asks, asks_or_faults, counted_data, deferred_unless, deferred_where_admitted}
use Rattle.sctp_assoc.specs.Chunks.{goes_unread, left_or_handed_over, left_unread}
use Rattle.sctp_assoc.specs.Chunks.{on_counted_data, on_data, on_new_data, stream_found, taken_in, taken_unless}
use Rattle.sctp_assoc.specs.Chunks.{taken_where_admitted, then_skips, told, with_message, with_new_stream}
use Rattle.sctp_assoc.specs.Closing.{is_exhausted}
use Rattle.sctp_assoc.specs.Resets.{asking_if, channels_of, settled, settled_with, skips_applied, skips_applied_of}
use Rattle.sctp_assoc.specs.Resets.{with_answer, with_resetting}
use Rattle.sctp_assoc.specs.Shown.{Shown, all_waiting}
use Rattle.sctp_sides.proofs.PeerRequestsInChunks.{flow_same}
use Rattle.sctp_ended.proofs.Carried.{Carries, IsCarried, SideIs, asking_if_carries, beside_carries, nothing_carries}
use Rattle.sctp_ended.proofs.Carried.{resetting_carries, responding_carries, same_carries, same_side_carries}
use Rattle.sctp_ended.proofs.Carried.{streams_carry, then_carries}
use Rattle.sctp_ended.proofs.CarriedInResets.{settled_carries, skips_done_carry, skips_done_of_carry}

module _ {Open : GenerationsView → PeerView → Type 0} {T : GenerationsView → PeerView → StreamMap → Type 0}
    (rules : IsCarried Open T) where
  -- Skips that were kept are applied

  skips_applied_of_carry : (id : ℕ) (a : Shown) → Carries T a (skips_applied_of id a)
  skips_applied_of_carry id a =
      beside_carries a (skips_done_of id a.resets a.streams a.events)
      (skips_done_of_carry rules.streams id a.resets a.streams a.events)

  skips_applied_carry : (a : Shown) → Carries T a (skips_applied a)
  skips_applied_carry a =
      beside_carries a (skips_done a.resets a.streams a.events)
      (skips_done_carry rules.streams a.resets a.streams a.events)

  -- A request of the peer that waited is performed

  answer_carries : (answer : Option Settled) (a : Shown) → Carries T a (with_answer answer a)
  answer_carries None a = nothing_carries a
  answer_carries (Some q) a =
      then_carries (asking_if_carries q.asks a) (responding_carries (asking_if q.asks a) q.number _)

  settled_with_carries : (a : Shown) (x : Resetting × Option Settled) → Carries T a (with_resetting a x.0)
      → Carries T a (settled_with a x)
  settled_with_carries a (s, answer) first = then_carries first (answer_carries answer (with_resetting a s))

  pub settling_carries : (a : Shown) → Carries T a (settled a)
  unfolding settled
  settling_carries a =
      let last = a.receiver.peer_last_tsn in
      let first = a.sender.queue.next_message_id in
      let limit = a.receiver.max_receive_message_size in
      let x : Resetting × Option Settled = resets.settled last first limit a.resets (channels_of a) in
      then_carries
      (settled_with_carries a x
      (resetting_carries a x.0 (settled_carries rules last first limit a.resets (channels_of a))))
      (skips_applied_carry (settled_with a x))

  -- DATA

  -- a stream that is not live is none
  none_of : (o : Option StreamView) → is_some o ≡ false → o ≡ None
  none_of None e = refl
  none_of (Some s) e = absurd (false≢true (sym e))

  found_carries_if : (there left : Bool) (a : Shown) (id : ℕ) → is_some (stream_at a.streams id) ≡ there
      → generation_left a.streams ≡ left → Carries T a (stream_found a id).0
  unfolding stream_found
  found_carries_if true left a id e f = rw e (nothing_carries a)
  found_carries_if false true a id e f =
      rw (e, f)
      (streams_carry a (with_new_stream a id)
      (λ h. rules.streams.makes a.resets.generations a.resets.peer a.streams id a.sender.queue.next_message_id
      kinds.Unknown (none_of (stream_at a.streams id) e) h) refl refl)
  found_carries_if false false a id e f = rw (e, f) (nothing_carries a)

  pub stream_found_carries : (a : Shown) (id : ℕ) → Carries T a (stream_found a id).0
  stream_found_carries a id =
      found_carries_if (is_some (stream_at a.streams id)) (generation_left a.streams) a id refl refl

  found_resets_if : (there left : Bool) (a : Shown) (id : ℕ) → is_some (stream_at a.streams id) ≡ there
      → generation_left a.streams ≡ left → (stream_found a id).0.resets ≡ a.resets
  unfolding stream_found
  found_resets_if true left a id e f = rw e refl
  found_resets_if false true a id e f = rw (e, f) refl
  found_resets_if false false a id e f = rw (e, f) refl

  -- a stream that is made leaves what is kept of resets
  found_resets : (a : Shown) (id : ℕ) → (stream_found a id).0.resets ≡ a.resets
  found_resets a id = found_resets_if (is_some (stream_at a.streams id)) (generation_left a.streams) a id refl refl

  told_carries : (readable kept : Bool) (a : Shown) (id : ℕ) → is_readable_in a.streams id ≡ readable
      → Carries T a (told a id kept)
  told_carries true true a id e = rw e (same_carries a _ refl refl refl)
  told_carries false true a id e = rw e (same_carries a _ refl refl refl)
  told_carries readable false a id e = same_carries a _ refl refl refl

  message_carries : (a : Shown) (piece : ChunkPayloadData) (x : StreamMap × Bool)
      → (SideIs T a → T a.resets.generations a.resets.peer x.0) → Carries T a (with_message a piece x)
  message_carries a piece (streams, kept) still =
      let b : Shown = record a { streams = streams; receiver = taken_to a.receiver piece.tsn } in
      then_carries (streams_carry a b still refl refl)
      (told_carries (is_readable_in streams piece.stream_identifier) kept b piece.stream_identifier refl)

  -- a piece is of the generation of its stream that is read
  abbrev IsReadNow : ResetsView → ChunkPayloadData → Type 0
  IsReadNow r piece = is_hidden r piece.stream_identifier piece.tsn ≡ false

  taken_unless_carries : (refusal : Option Error) (a : Shown) (piece : ChunkPayloadData)
      → refusal_in a.streams piece.stream_identifier piece a.receiver.max_receive_message_size ≡ refusal
      → IsReadNow a.resets piece → Carries T a (taken_unless refusal a piece).0
  taken_unless_carries (Some fault) a piece e now = nothing_carries a
  taken_unless_carries None a piece e now =
      message_carries a piece (pushed_in a.streams piece.stream_identifier piece)
      (λ h. rules.pushes a.resets.generations a.resets.peer a.streams piece a.receiver.max_receive_message_size now e h)

  -- what nobody reads is left, and other DATA goes to its stream
  leaving_carries : (left : Bool) (a : Shown) (piece : ChunkPayloadData) → IsReadNow a.resets piece
      → Carries T a (left_or_handed_over left a piece).0
  leaving_carries true a piece now = same_carries a (left_unread a piece) refl refl refl
  leaving_carries false a piece now =
      taken_unless_carries (refusal_in a.streams piece.stream_identifier piece a.receiver.max_receive_message_size) a
      piece refl now

  taken_in_carries : (a : Shown) (piece : ChunkPayloadData) → IsReadNow a.resets piece
      → Carries T a (taken_in a piece).0
  unfolding taken_in
  taken_in_carries a piece now = leaving_carries (goes_unread a piece) a piece now

  then_skips_carry : (x : Shown × Option Error) (id : ℕ) → Carries T x.0 (then_skips x id).0
  then_skips_carry (a, None) id = skips_applied_of_carry id a
  then_skips_carry (a, Some fault) id = nothing_carries a

  admitted_carries : (credit : Bool) (a : Shown) (piece : ChunkPayloadData) → IsReadNow a.resets piece
      → Carries T a (if credit then then_skips (taken_in a piece) piece.stream_identifier else (a, None)).0
  admitted_carries true a piece now =
      then_carries (taken_in_carries a piece now) (then_skips_carry (taken_in a piece) piece.stream_identifier)
  admitted_carries false a piece now = nothing_carries a

  taken_where_admitted_carries : (a : Shown) (piece : ChunkPayloadData) → IsReadNow a.resets piece
      → Carries T a (taken_where_admitted a piece).0
  taken_where_admitted_carries a piece now =
      admitted_carries (admits a.receiver piece.tsn (all_waiting a)) a piece now

  -- one of a generation that is not read yet waits apart

  deferred_unless_carries : (refusal : Option Error) (a : Shown) (piece : ChunkPayloadData)
      → is_hidden a.resets piece.stream_identifier piece.tsn ≡ true
      → Carries T a (deferred_unless refusal a piece).0
  deferred_unless_carries (Some fault) a piece later = nothing_carries a
  deferred_unless_carries None a piece later =
      record { carries = λ h. rules.defers a.resets.generations a.resets.peer a.streams piece later h }

  deferred_carries_if : (credit : Bool) (a : Shown) (piece : ChunkPayloadData)
      → admits a.receiver piece.tsn (all_waiting a) ≡ credit
      → is_hidden a.resets piece.stream_identifier piece.tsn ≡ true
      → Carries T a (deferred_where_admitted a piece).0
  unfolding deferred_where_admitted
  deferred_carries_if true a piece e later =
      rw e (deferred_unless_carries (refusal_of a.resets piece a.receiver.max_receive_message_size) a piece later)
  deferred_carries_if false a piece e later = rw e (nothing_carries a)

  deferred_where_admitted_carries : (a : Shown) (piece : ChunkPayloadData)
      → is_hidden a.resets piece.stream_identifier piece.tsn ≡ true
      → Carries T a (deferred_where_admitted a piece).0
  deferred_where_admitted_carries a piece later =
      deferred_carries_if (admits a.receiver piece.tsn (all_waiting a)) a piece refl later

  asks_carries : (a : Shown) (immediate : Bool) (trigger : AckTrigger) → Carries T a (asks a immediate trigger).0
  asks_carries a immediate trigger = same_side_carries a _ (flow_same (is_exhausted a) a _ _)

  settled_asks_carries : (a : Shown) (immediate : Bool) (trigger : AckTrigger)
      → Carries T a (asks (settled a) immediate trigger).0
  settled_asks_carries a immediate trigger =
      then_carries (settling_carries a) (asks_carries (settled a) immediate trigger)

  asks_or_faults_carries : (x : Shown × Option Error) (immediate : Bool) (trigger : AckTrigger)
      → Carries T x.0 (asks_or_faults x immediate trigger).0
  asks_or_faults_carries (a, None) immediate trigger = settled_asks_carries a immediate trigger
  asks_or_faults_carries (a, Some fault) immediate trigger = nothing_carries a

  new_data_carries : (x : Shown × Bool) (piece : ChunkPayloadData) (trigger : AckTrigger) → IsReadNow x.0.resets piece
      → Carries T x.0 (on_new_data x piece trigger).0
  new_data_carries (a, false) piece trigger now = nothing_carries a
  new_data_carries (a, true) piece trigger now =
      then_carries (taken_where_admitted_carries a piece now)
      (asks_or_faults_carries (taken_where_admitted a piece) piece.immediate_sack trigger)

  data_carries_if : (next hidden : Bool) (a : Shown) (piece : ChunkPayloadData) (trigger : AckTrigger)
      → is_new_to a.receiver piece.tsn ≡ next → is_hidden a.resets piece.stream_identifier piece.tsn ≡ hidden
      → Carries T a (on_counted_data a piece trigger).0
  data_carries_if false hidden a piece trigger e f =
      rw e (settled_asks_carries a piece.immediate_sack trigger)
  data_carries_if true true a piece trigger e f =
      rw (e, f)
      (then_carries (deferred_where_admitted_carries a piece f)
      (asks_or_faults_carries (deferred_where_admitted a piece) piece.immediate_sack trigger))
  data_carries_if true false a piece trigger e f =
      rw (e, f)
      (then_carries (stream_found_carries a piece.stream_identifier)
      (new_data_carries (stream_found a piece.stream_identifier) piece trigger
      (subst (λ (r : ResetsView). IsReadNow r piece) (sym (found_resets a piece.stream_identifier)) f)))

  pub on_data_carries : (a : Shown) (piece : ChunkPayloadData) (trigger : AckTrigger)
      → Carries T a (on_data a piece trigger).0
  unfolding on_data
  on_data_carries a piece trigger =
      let b : Shown = counted_data a in
      then_carries (same_carries a b refl refl refl)
      (data_carries_if (is_new_to b.receiver piece.tsn) (is_hidden b.resets piece.stream_identifier piece.tsn) b piece
      trigger refl refl)
