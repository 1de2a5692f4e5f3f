-- Where memory may lack: what takes some takes it by what stands in chunk and state.
use Rattle.std.proofs.Common.{◌≡◌, ◌≢◌, refl, sym, ap, ◌∙◌, subst, ℕ, ◌+◌, Bool, true, false, not, ◌||◌, ◌&&◌}
use Rattle.std.proofs.Common.{if◌then◌else◌, is_some, nat_lt, length, List, [], ◌∷◌, suc, Option, Some, None}
use Rattle.std.proofs.Common.{arith, ◌<◌, ◌==◌, ⊎_elim}
use Rattle.std.proofs.lemmas.Bool.{and_from, false≢true, lt-ltb, ne_eqb, or_cases, or_left, or_parts}
use Rattle.std.proofs.lemmas.Bool.{or_right, true≢false}
use Rattle.sctp_wire_types.specs.declared.chunk.Chunk.{Chunk}
use Rattle.sctp_wire_types.specs.declared.chunk.ChunkPayloadData.{ChunkPayloadData}
use Rattle.sctp_wire_types.specs.declared.error.Error.{Error}
use Rattle.sctp_wire_types.specs.declared.error.Error.TheVariants as errors
use Rattle.sctp_wire_types.specs.declared.packet.CommonHeader.{CommonHeader}
use Rattle.sctp_serial.specs.Serial.{ssn_lt}
use Rattle.sctp_receive_queues.specs.Pieces.{bytes_of, contradicts, covers, refusal_of}
use Rattle.sctp_receive_queues.specs.Reassembly.{is_torn_after, is_torn_before, joins_after, joins_before, part}
use Rattle.sctp_receive_queues.specs.Reassembly.{pieces_at, index_for_tsn, index_of_ssn, refusal_between}
use Rattle.sctp_receive_queues.specs.Reassembly.{refusal_of_ordered, refusal_of_unordered, run_at, run_before}
use Rattle.sctp_streams.specs.Stream.{StreamView}
use Rattle.sctp_streams.specs.Streams.{StreamMap, generation_left, refusal_at}
use Rattle.sctp_streams.specs.Streams.{refusal_in, stream_at}
use Rattle.sctp_inbound.specs.declared.receiver.AckTrigger.{AckTrigger}
use Rattle.sctp_inbound.specs.declared.receiver.Receiver.{Receiver}
use Rattle.sctp_inbound.specs.Receiver.{admits, is_new_to}
use Rattle.sctp_generations.specs.Deferred.{is_above}
use Rattle.sctp_generations.specs.Generations.{has_retiring, has_skips}
use Rattle.sctp_generations.specs.Retiring.{RetiringMap, is_retiring}
use Rattle.sctp_reset_requests.specs.Peer.{PeerView, boundary_for, is_one_due}
use Rattle.sctp_reset_requests.specs.Request.{PeerRequestView}
use Rattle.sctp_resets.specs.Resets.{ResetsView, is_hidden}
use Rattle.sctp_outbound.specs.declared.sender.Sender.{Sender}
use Rattle.sctp_inbound.specs.Handshake.{header_of}
use Rattle.sctp_wire.specs.DataPackets.{DataWritten, datagrams_of, nothing_written, with_all}
use Rattle.sctp_outbound.specs.Abandonment.{expires}
use Rattle.sctp_outbound.specs.Forward.{gives_forward}
use Rattle.sctp_wire_types.specs.declared.chunk.SkippedStream.{SkippedStream}
use Rattle.sctp_assoc.specs.declared.inbound.Flow.{Flow}
use Rattle.sctp_assoc.specs.declared.inbound.Flow.TheVariants as flows
use Rattle.sctp_assoc.specs.Calls.{is_established}
use Rattle.sctp_assoc.specs.Chunks.{counted_data, goes_unread, on_chunk, refusal_unless_left, stream_found}
use Rattle.sctp_assoc.specs.Memory.{chunk_takes_memory, chunks_take_memory, data_takes_memory, keeps_message}
use Rattle.sctp_assoc.specs.Memory.{is_taken_in, makes_stream, new_data_takes_memory, resets_take_memory}
use Rattle.sctp_assoc.specs.Memory.{takes_memory_after, taking_takes_memory}
use Rattle.sctp_assoc.specs.Resets.{settling_takes_memory}
use Rattle.sctp_assoc.specs.Gather.{ack_polled, both_of, bundled, data_bundled, data_gives, data_polled, exchange_gives}
use Rattle.sctp_assoc.specs.Gather.{fast_gives, fast_polled, fast_sent, fell_in_poll, is_due, late_abandoned}
use Rattle.sctp_assoc.specs.Gather.{marks_give, marks_polled, marks_sent, new_gives, new_sent, requests_give}
use Rattle.sctp_assoc.specs.Gather.{data_after, requests_polled}
use Rattle.sctp_assoc.specs.Shown.{Shown, all_waiting, uses_forward_tsn}
use Rattle.sctp_assoc.specs.Skipping.{skip_takes_memory, some_takes_memory, with_skip}
use Rattle.sctp_assoc.proofs.ContinuedShutdown.{continued_is_established}
use Rattle.sctp_assoc.proofs.PartsOfPolls.{ack_sender, requests_leave}
use Rattle.sctp_assoc.proofs.PolledSteps.{data_poll_state, data_poll_stays}
use Rattle.sctp_assoc.proofs.SacksTell.{positive}
use Rattle.sctp_assoc.proofs.StreamsFound.{stream_receiver, stream_resets}
use Rattle.sctp_assoc.proofs.TakingSettles.{SettlesNoMore}

-- DATA

abbrev is_for_memory : Option Error → Bool
is_for_memory (Some errors.ErrNoMemory) = true
is_for_memory (Some error) = false
is_for_memory None = false

kind_names : (torn long : Bool)
    → is_for_memory (if torn then Some errors.ErrContradictoryPieces else
    if long then Some errors.ErrInboundMessageTooLarge else None) ≡ false
kind_names true long = refl
kind_names false true = refl
kind_names false false = refl

refusal_names : (unordered old : Bool) (x y : Option Error) → is_for_memory x ≡ false → is_for_memory y ≡ false
    → is_for_memory (if unordered then x else if old then None else y) ≡ false
refusal_names true old x y e f = e
refusal_names false true x y e f = refl
refusal_names false false x y e f = f

pieces_names : (pieces : List ChunkPayloadData) (piece : ChunkPayloadData) (limit : ℕ)
    → is_for_memory (refusal_of pieces piece limit) ≡ false
pieces_names pieces piece limit =
    kind_names (contradicts pieces piece) (nat_lt limit (bytes_of pieces + length piece.user_data))

between_names : (before : List ChunkPayloadData) (piece : ChunkPayloadData) (after : List ChunkPayloadData) (limit : ℕ)
    → is_for_memory (refusal_between before piece after limit) ≡ false
between_names before piece after limit =
    kind_names (covers before piece.tsn || is_torn_before before piece || is_torn_after after piece)
    (nat_lt limit (bytes_of (part (joins_before before piece) before) + length piece.user_data
    + bytes_of (part (joins_after after piece) after)))

refused_at_names : (o : Option StreamView) (piece : ChunkPayloadData) (limit : ℕ)
    → is_for_memory (refusal_at o piece limit) ≡ false
refused_at_names None piece limit = refl
refused_at_names (Some stream) piece limit =
    let q = stream.reassembly in
    let index = index_for_tsn piece.tsn q.unordered in
    refusal_names piece.unordered (ssn_lt piece.stream_sequence_number q.next_ssn)
    (refusal_of_unordered q.unordered piece limit) (refusal_of_ordered q.ordered piece limit)
    (between_names (run_before q.unordered index) piece (run_at q.unordered index) limit)
    (pieces_names (pieces_at (index_of_ssn piece.stream_sequence_number q.ordered) q.ordered) piece limit)

-- a stream refuses no piece for want of memory
pub not_for_memory : (m : StreamMap) (id : ℕ) (piece : ChunkPayloadData) (limit : ℕ)
    → refusal_in m id piece limit ≢ Some errors.ErrNoMemory
not_for_memory m id piece limit e =
    false≢true (sym (refused_at_names (stream_at m id) piece limit) ∙ ap is_for_memory e)

-- a stream that is found or made leaves the receiver as it was
pub found_receiver : (a b : Shown) (id : ℕ) → stream_found a id ≡ (b, true) → b.receiver ≡ a.receiver
found_receiver a b id e =
    sym (ap (λ (z : Shown × Bool). z.0.receiver) e)
    ∙ stream_receiver (is_some (stream_at a.streams id)) (generation_left a.streams) a id refl refl

module _ (a b : Shown) (piece : ChunkPayloadData) (found : stream_found a piece.stream_identifier ≡ (b, true))
    (takes : is_taken_in b piece ≡ true) where
  found_takes : (there left : Bool) → is_some (stream_at a.streams piece.stream_identifier) ≡ there
      → generation_left a.streams ≡ left
      → (makes_stream a piece.stream_identifier || keeps_message a piece) ≡ true
  unfolding stream_found
  found_takes true left e f =
      let step : stream_found a piece.stream_identifier ≡ (a, true) = rw e refl in
      let same : a ≡ b = ap (λ (z : Shown × Bool). z.0) (sym step ∙ found) in
      let here : is_taken_in a piece ≡ true = subst (λ (z : Shown). is_taken_in z piece ≡ true) (sym same) takes in
      rw (e, here) refl
  found_takes false true e f = rw (e, f) refl
  found_takes false false e f =
      let step : stream_found a piece.stream_identifier ≡ (a, false) = rw (e, f) refl in
      absurd (false≢true (ap (λ (z : Shown × Bool). z.1) (sym step ∙ found)))

-- a stream that is found or made leaves the resets as they were
pub found_resets : (a b : Shown) (id : ℕ) → stream_found a id ≡ (b, true) → b.resets ≡ a.resets
found_resets a b id e =
    sym (ap (λ (z : Shown × Bool). z.0.resets) e)
    ∙ stream_resets (is_some (stream_at a.streams id)) (generation_left a.streams) a id refl refl

-- where a skip is kept, DATA may take memory
skips_take : (a : Shown) (piece : ChunkPayloadData) → has_skips a.resets.generations ≡ true
    → data_takes_memory a piece ≡ true
skips_take a piece some = or_right (new_data_takes_memory a piece) (resets_take_memory a) (or_right _ _ some)

-- that DATA was counted is nothing for why it is refused
counted_refusal : (unread : Bool) (a : Shown) (piece : ChunkPayloadData)
    → refusal_unless_left unread (counted_data a) piece ≡ refusal_unless_left unread a piece
counted_refusal true a piece = refl
counted_refusal false a piece = refl

-- new DATA that comes to a stream that was found and takes memory there
pub taking_takes : (a b : Shown) (piece : ChunkPayloadData)
    → is_new_to a.receiver piece.tsn ≡ true
    → stream_found (counted_data a) piece.stream_identifier ≡ (b, true)
    → taking_takes_memory b piece ≡ true
    → data_takes_memory a piece ≡ true
taking_takes a b piece next found takes =
    let there = is_some (stream_at a.streams piece.stream_identifier) in
    let left = generation_left a.streams in
    ⊎_elim (λ (here : is_taken_in b piece ≡ true).
    let kept : (makes_stream a piece.stream_identifier || keeps_message a piece) ≡ true =
    subst (λ (refusal : Option Error). (makes_stream a piece.stream_identifier
    || (there && (admits a.receiver piece.tsn (all_waiting a) && not (is_some refusal)))) ≡ true)
    (counted_refusal (goes_unread a piece) a piece)
    (found_takes (counted_data a) b piece found here there left refl refl) in
    or_left (new_data_takes_memory a piece) (resets_take_memory a) (and_from _ _ next kept))
    (λ (some : has_skips b.resets.generations ≡ true).
    skips_take a piece
    (subst (λ (z : ResetsView). has_skips z.generations ≡ true)
    (found_resets (counted_data a) b piece.stream_identifier found) some))
    (or_cases _ _ takes)

-- DATA of a generation that is not read yet: a generation ended, or a request is in progress
hidden_takes_at : (retiring : RetiringMap) (request : Option PeerRequestView) (skips : Bool) (id tsn : ℕ)
    → (is_retiring retiring id || is_above (boundary_for request id) tsn) ≡ true
    → (not (length retiring == 0) || is_some request || skips) ≡ true
hidden_takes_at [] None skips id tsn hidden = absurd (false≢true hidden)
hidden_takes_at [] (Some request) skips id tsn hidden = refl
hidden_takes_at (r ∷ retiring) request skips id tsn hidden =
    let some : (length (r ∷ retiring) == 0) ≡ false =
    ne_eqb (suc (length retiring)) 0 (λ (e : suc (length retiring) ≡ 0). omega arith) in
    rw some refl

pub hidden_takes : (a : Shown) (piece : ChunkPayloadData)
    → is_hidden a.resets piece.stream_identifier piece.tsn ≡ true → data_takes_memory a piece ≡ true
hidden_takes a piece hidden =
    let g = a.resets.generations in
    or_right (new_data_takes_memory a piece) (resets_take_memory a)
    (hidden_takes_at g.retiring a.resets.peer.in_progress (has_skips g) piece.stream_identifier piece.tsn hidden)

due_takes_at : (request : Option PeerRequestView) (retiring skips : Bool) (tsn : ℕ)
    → (is_one_due request tsn || skips) ≡ true → (retiring || is_some request || skips) ≡ true
due_takes_at None true true tsn takes = refl
due_takes_at None false true tsn takes = refl
due_takes_at None retiring false tsn takes = absurd (false≢true takes)
due_takes_at (Some request) true skips tsn takes = refl
due_takes_at (Some request) false skips tsn takes = refl

-- what is done once DATA came takes memory where a request of the peer is in progress, or a skip is kept
pub settling_takes : (a b : Shown) (piece : ChunkPayloadData)
    → SettlesNoMore a b → settling_takes_memory b ≡ true → data_takes_memory a piece ≡ true
settling_takes a b piece no_more takes =
    let g = a.resets.generations in
    let tsn = b.receiver.peer_last_tsn in
    let due : (is_one_due a.resets.peer.in_progress tsn || has_skips g) ≡ true =
    ⊎_elim (λ (now : is_one_due b.resets.peer.in_progress tsn ≡ true).
    or_left _ _ (subst (λ (p : PeerView). is_one_due p.in_progress tsn ≡ true) no_more.peer now))
    (λ (some : has_skips b.resets.generations ≡ true).
    or_right (is_one_due a.resets.peer.in_progress tsn) _ (no_more.fewer some))
    (or_cases _ _ takes) in
    or_right (new_data_takes_memory a piece) (resets_take_memory a)
    (due_takes_at a.resets.peer.in_progress (has_retiring g) (has_skips g) tsn due)

-- the chunks of a packet

module _ (header : CommonHeader) (c : Chunk) (cs : List Chunk) (a : Shown) (trigger : AckTrigger) (now : ℕ) where
  pub first_takes : chunk_takes_memory a header c now ≡ true
      → chunks_take_memory header (c ∷ cs) a trigger now ≡ true
  first_takes takes =
      or_left (chunk_takes_memory a header c now) (takes_memory_after (on_chunk a header c trigger now)
      (λ b next. chunks_take_memory header cs b next now)) takes

  pub later_takes : (b : Shown) (next : AckTrigger)
      → on_chunk a header c trigger now ≡ (b, flows.Next next) → chunks_take_memory header cs b next now ≡ true
      → chunks_take_memory header (c ∷ cs) a trigger now ≡ true
  later_takes b next e takes =
      or_right (chunk_takes_memory a header c now)
      (takes_memory_after (on_chunk a header c trigger now) (λ b next. chunks_take_memory header cs b next now))
      (rw e takes)

  pub flow_takes : (b : Shown) (flow : Flow) → on_chunk a header c trigger now ≡ (b, flow)
      → takes_memory_after (b, flow) (λ b next. chunks_take_memory header cs b next now) ≡ true
      → chunks_take_memory header (c ∷ cs) a trigger now ≡ true
  flow_takes b flow e takes =
      or_right (chunk_takes_memory a header c now)
      (takes_memory_after (on_chunk a header c trigger now) (λ b next. chunks_take_memory header cs b next now))
      (rw e takes)

-- polling

pub none_longer : {X : Type 0} (xs : List X) → nat_lt 0 (length xs) ≡ false → xs ≡ []
none_longer [] e = refl
none_longer (x ∷ xs) e = absurd (true≢false (sym (lt-ltb 0 (suc (length xs)) (omega arith)) ∙ e))

-- what a poll of DATA may lack memory for
module _ (a : Shown) (now : ℕ) where
  pub late_gives : expires (uses_forward_tsn a) now (both_of a) ≡ true → data_gives a now ≡ true
  late_gives e = or_left _ _ (or_left _ _ (or_left _ _ (or_left _ _ e)))

  pub marks_are_given : marks_give (late_abandoned a now) ≡ true → data_gives a now ≡ true
  marks_are_given e = or_left _ _ (or_left _ _ (or_left _ _ (or_right _ _ e)))

  pub fast_is_given : fast_gives (marks_polled a now) ≡ true → data_gives a now ≡ true
  fast_is_given e = or_left _ _ (or_left _ _ (or_right _ _ e))

  pub new_is_given : new_gives (fast_polled a now) now ≡ true → data_gives a now ≡ true
  new_is_given e = or_left _ _ (or_right _ _ e)

  pub low_is_told : 0 < length (fell_in_poll a now) → data_gives a now ≡ true
  low_is_told l = or_right _ _ (positive _ l)

  -- a packet that is being written at the end carries new DATA
  pub last_is_given : (w : DataWritten)
      → w ≡ with_all (bundled (bundled (nothing_written (header_of a.handshake) (late_abandoned a now).sender.mtu)
      (marks_sent (late_abandoned a now))) (fast_sent (marks_polled a now))) (new_sent (fast_polled a now) now)
      → nat_lt 0 (length w.current) ≡ true → data_gives a now ≡ true
  last_is_given w e some = new_is_given (last_if (nat_lt 0 (length (new_sent (fast_polled a now) now))) refl)
    where
      last_if : (c : Bool) → nat_lt 0 (length (new_sent (fast_polled a now) now)) ≡ c → c ≡ true
      last_if true f = refl
      last_if false f =
          let none : new_sent (fast_polled a now) now ≡ [] = none_longer _ f in
          let empty : length w.current ≡ 0 = rw (e, none) refl in
          absurd (false≢true (rw empty at some))

  -- with no DATA given there is no packet of it
  no_packets : data_gives a now ≡ false → (data_bundled a now).done ≡ []
  no_packets e =
      let told = or_parts _ _ e in
      let new = or_parts _ _ told.0 in
      let fast = or_parts _ _ new.0 in
      let marks = or_parts _ _ fast.0 in
      let again : marks_sent (late_abandoned a now) ≡ [] = none_longer _ (or_parts _ _ marks.1).1 in
      let missing : fast_sent (marks_polled a now) ≡ [] = none_longer _ (or_parts _ _ fast.1).1 in
      let first : new_sent (fast_polled a now) now ≡ [] = none_longer _ new.1 in
      rw (again, missing, first) refl

  gives_if : (c : Bool) → data_gives a now ≡ c
      → nat_lt 0 (length (datagrams_of (header_of a.handshake) (data_bundled a now).done)) ≡ true → c ≡ true
  gives_if true e some = refl
  gives_if false e some = absurd (false≢true (rw (no_packets e) at some))

  -- DATA that a poll gives is given
  pub packets_are_given : nat_lt 0 (length (datagrams_of (header_of a.handshake) (data_polled a now).1)) ≡ true
      → exchange_gives a now ≡ true
  unfolding data_polled
  packets_are_given some = or_left _ _ (or_left _ _ (or_left _ _ (gives_if (data_gives a now) refl some)))

  pub data_is_given : data_gives a now ≡ true → exchange_gives a now ≡ true
  data_is_given e = or_left _ _ (or_left _ _ (or_left _ _ e))

  -- streams that are to be reset
  pub requests_are_given : (is_established (data_after a now).0.state && requests_give (data_after a now).0) ≡ true
      → exchange_gives a now ≡ true
  requests_are_given e =
      let b = (data_polled a now).0 in
      let same : is_established (data_after a now).0.state ≡ is_established a.state =
      continued_is_established b ∙ ap is_established (data_poll_state a now) in
      or_left _ _ (or_left _ _ (or_right _ _
      (subst (λ (established : Bool). (established && requests_give b) ≡ true) same e)))

  -- an acknowledgement that is due behind the DATA and the requests was due before them
  pub ack_is_given : is_due (requests_polled (data_after a now).0).0.receiver.ack_state ≡ true
      → exchange_gives a now ≡ true
  ack_is_given due =
      or_left _ _ (or_right _ _
      (subst (λ (z : Receiver). is_due z.ack_state ≡ true)
      ((requests_leave (data_after a now).0).receiver ∙ (data_poll_stays a now).receiver) due))

  -- FORWARD TSN that is due behind the acknowledgement was due before it
  pub forward_is_given : gives_forward (ack_polled (requests_polled (data_after a now).0).0).0.sender ≡ true
      → exchange_gives a now ≡ true
  forward_is_given due =
      or_right _ _ (subst (λ (z : Sender). gives_forward z ≡ true)
      ((ack_sender (requests_polled (data_after a now).0).0).0 ∙ (requests_leave (data_after a now).0).sender) due)

-- FORWARD TSN that comes

-- the skips of a FORWARD TSN with this new cumulative TSN
module _ (tsn : ℕ) (es : List SkippedStream) (e : SkippedStream) (a : Shown) where
  pub first_skip_takes : skip_takes_memory e.stream_identifier e.stream_sequence_number a ≡ true
      → some_takes_memory tsn (e ∷ es) a ≡ true
  first_skip_takes told = or_left _ _ told

  pub later_skip_takes : some_takes_memory tsn es (with_skip tsn e.stream_identifier e.stream_sequence_number a) ≡ true
      → some_takes_memory tsn (e ∷ es) a ≡ true
  later_skip_takes told = or_right _ _ told
