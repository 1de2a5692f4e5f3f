-- What the datagrams of a poll spell, chunk by chunk. By its contract each is read as a chunk of its acts, one that
-- waited, one of a shutdown, or as some request to reset streams; and by its definition each that is read as a request
-- was written of one that this side asks for.
use Rattle.std.proofs.Common.{◌≡◌, refl, sym, ap, ◌∙◌, subst, ◌⊎◌, inl, inr, ⊎_elim, ℕ, zero, suc, Bool, true, false}
use Rattle.std.proofs.Common.{if◌then◌else◌, not, fold, slice_get}
use Rattle.std.proofs.Common.{List, [], ◌∷◌, ◌++◌, Option, Some, None, Result, Ok, Err, is_ok}
use Rattle.std.specs.Prelude.{flat_map}
use Rattle.std.specs.List.{AllByRecursion}
use Rattle.std.proofs.lemmas.Bool.{cases_Bool, cond-false, cond-true}
use Rattle.sctp_wire_types.specs.declared.chunk.Chunk.{Chunk}
use Rattle.sctp_wire_types.specs.declared.chunk.Chunk.TheVariants as chunks
use Rattle.sctp_wire_types.specs.declared.chunk.ChunkPayloadData.{ChunkPayloadData}
use Rattle.sctp_wire_types.specs.declared.chunk.ChunkReconfig.{ChunkReconfig}
use Rattle.sctp_wire_types.specs.declared.error.Fault.{Fault}
use Rattle.sctp_wire_types.specs.declared.packet.CommonHeader.{CommonHeader}
use Rattle.sctp_wire_types.specs.declared.param.ParamOutgoingResetRequest.{ParamOutgoingResetRequest}
use Rattle.sctp_wire.specs.declared.packet.Packet.{Packet}
use Rattle.sctp_wire.specs.DataPackets.{all_of, data_fits, data_packet, datagrams_of}
use Rattle.sctp_wire.specs.Packets.{checked, packet_at, spelling}
use Rattle.sctp_parts.specs.State.{is_closing}
use Rattle.sctp_inbound.specs.Handshake.{header_of}
use Rattle.sctp_outbound.specs.Forward.{forward_of, gives_forward}
use Rattle.sctp_reset_requests.specs.Own.{OwnView, sent_first}
use Rattle.sctp_resets.specs.Resets.{with_own}
use Rattle.sctp_model.proofs.Lists.{all_back, all_both, all_filter, all_front, all_get, all_join, all_map, all_weaker}
use Rattle.sctp_directions.specs.Acts.{History, all_data_given}
use Rattle.sctp_assoc.specs.declared.control.Control.{Control}
use Rattle.sctp_assoc.specs.declared.control.Control.TheVariants as controls
use Rattle.sctp_assoc.specs.declared.control.ControlPacket.{ControlPacket}
use Rattle.sctp_assoc.specs.Calls.{exchanges_data}
use Rattle.sctp_assoc.specs.Gather.{AckIsReadAgain, AreControlReadAgain, AreReadAgain}
use Rattle.sctp_assoc.specs.Gather.{ControlReadAgain, IsPlainControl, IsReadAgain, IsRequestReadAgain, WaitPlainly}
use Rattle.sctp_assoc.specs.Gather.{ack_after, control_polled, data_after, data_polled, exchange_polled, forward_after}
use Rattle.sctp_assoc.specs.Gather.{forward_chunk, is_due, listed, open_polled, packet_bytes, polled, request_packet}
use Rattle.sctp_assoc.specs.Gather.{requests_after, sack_chunk, sack_packet, shutdown_packet, shutdown_polled}
use Rattle.sctp_assoc.specs.Gather.{single_chunk_packet, with_complete_given, with_control_given, with_request_placed}
use Rattle.sctp_assoc.specs.Gather.{without_control}
use Rattle.sctp_assoc.specs.Happened.{IsOfControl, IsOfShutdown, Polls, PollsOn, acks_given, acts_of_poll}
use Rattle.sctp_assoc.specs.Happened.{exchange_given, forwards_of_poll, requests_given}
use Rattle.sctp_assoc.specs.Inbound.{taken_packet}
use Rattle.sctp_assoc.specs.Leads.{Binds, parts}
use Rattle.sctp_assoc.specs.Replies.{packet_in}
use Rattle.sctp_assoc.specs.Shown.{Shown}
use Rattle.sctp_assoc.specs.Shutdown.{shutdown_ack_sent, shutdown_sent}
use Rattle.sctp_assoc.proofs.RequestsGiven.{requests_sent}
use Rattle.sctp_sides.specs.SideLaws.{OfEachChunk}
use Rattle.sctp_sides.proofs.DueSacks.{sacks_say_what_was_taken}
use Rattle.sctp_sides.proofs.EndedPolls.{polled_gives_last}
use Rattle.sctp_sides.proofs.PollsLeave.{control_leaves, exchange_said, front_gives}
use Rattle.sctp_course_sides.specs.Spelled.{GivesChunk, IsAskedBy, control_requests, request_in, requests_behind}
use Rattle.sctp_course_sides.specs.Spelled.{requests_in}
use Rattle.sctp_course_sides.proofs.PollRequests.{IsNoReset, chunks_of_packet, no_complete, no_data, no_forward}
use Rattle.sctp_course_sides.proofs.PollRequests.{no_sack}
use Rattle.sctp_course_sides.proofs.PollRequests.{no_shutdown, no_shutdown_ack, packet_said, request_chunk}
use Rattle.sctp_course_sides.proofs.PollRequests.{request_said}

-- each of a list stands in it
pub each_there : {X : Type 0} (xs : List X) → AllByRecursion (λ (x : X). (k : ℕ) × (slice_get xs k ≡ Some x)) xs
each_there [] = tt
each_there {X} (x ∷ xs) = (
  (0, refl),
  all_weaker (λ (y : X). (k : ℕ) × (slice_get xs k ≡ Some y)) (λ (y : X). (k : ℕ) × (slice_get (x ∷ xs) k ≡ Some y)) xs
      (λ y there. (suc there.0, there.1)) (each_there xs),
)

-- By its definition: what each datagram of a poll was written of

-- a packet that waited
abbrev IsOfWaiting : Shown → List ℕ → Type 0
IsOfWaiting a bytes =
    (k : ℕ) × (c : ControlPacket) × (slice_get a.control k ≡ Some (controls.Packet c))
    × (packet_bytes c.header c.chunk ≡ bytes ∷ [])

-- a request of this side
abbrev IsOfRequest : Shown → ℕ → List ℕ → Type 0
IsOfRequest a now bytes =
    (request : ParamOutgoingResetRequest) × IsAskedBy a now request × (header : CommonHeader)
    × (packet_bytes header (request_chunk request) ≡ bytes ∷ [])

-- one of these, or a packet of another kind
abbrev IsMade : Shown → ℕ → List ℕ → Type 0
IsMade a now bytes = IsOfWaiting a bytes ⊎ (IsOfRequest a now bytes ⊎ IsNoReset bytes)

module _ (a : Shown) (now : ℕ) where
  abbrev AreMade : List (List ℕ) → Type 0
  AreMade packets = AllByRecursion (IsMade a now) packets

  others_made : (packets : List (List ℕ)) → AllByRecursion IsNoReset packets → AllByRecursion (IsMade a now) packets
  others_made packets none = all_weaker IsNoReset (IsMade a now) packets (λ bytes no. inr (inr no)) none

  -- In front of DATA

  request_made : (header : CommonHeader) (request : ParamOutgoingResetRequest) → IsAskedBy a now request
      → AllByRecursion (IsMade a now) (packet_bytes header (request_chunk request))
  request_made header request asked =
      packet_said (IsMade a now) header (request_chunk request)
      (λ bytes e. inr (inl (request, asked, header, e)))

  placed_made : (b : Shown) (packets : List (List ℕ)) (x : OwnView × Option ParamOutgoingResetRequest)
      → AllByRecursion (IsAskedBy a now) (listed x.1) → AllByRecursion (IsMade a now) packets
      → AllByRecursion (IsMade a now) (with_request_placed (b, packets) (with_own b.resets x)).1
  placed_made b packets (own, None) each made = made
  placed_made b packets (own, Some request) each made =
      all_join (IsMade a now) packets (request_packet b request) made
      (request_made (header_of b.handshake) request each.0)

  one_made : (x : Shown × List (List ℕ)) (c : Control) → (k : ℕ) × (slice_get a.control k ≡ Some c)
      → AllByRecursion (IsAskedBy a now) (request_in x.0 c) → AllByRecursion (IsMade a now) x.1
      → AllByRecursion (IsMade a now) (with_control_given x c).1
  one_made (b, packets) (controls.Packet c) waited each made =
      all_join (IsMade a now) packets (packet_bytes c.header c.chunk) made
      (packet_said (IsMade a now) c.header c.chunk (λ bytes e. inl (waited.0, c, waited.1, e)))
  one_made (b, packets) controls.OwnRequest waited each made =
      placed_made b packets (sent_first b.resets.own b.sender.queue) each made

  all_made : (cs : List Control) (x : Shown × List (List ℕ))
      → ((k : ℕ) (c : Control) → slice_get cs k ≡ Some c → (j : ℕ) × (slice_get a.control j ≡ Some c))
      → AllByRecursion (IsAskedBy a now) (requests_in cs x) → AllByRecursion (IsMade a now) x.1
      → AllByRecursion (IsMade a now) (fold with_control_given x cs).1
  all_made [] x waited each made = made
  all_made (c ∷ cs) x waited each made =
      let y = with_control_given x c in
      all_made cs y (λ k d e. waited (suc k) d e)
      (all_back (IsAskedBy a now) (request_in x.0 c) (requests_in cs y) each)
      (one_made x c (waited zero c refl) (all_front (IsAskedBy a now) (request_in x.0 c) (requests_in cs y) each) made)

  control_made : AllByRecursion (IsMade a now) (control_polled a).1
  control_made =
      all_made a.control (without_control a, []) (λ k c e. (k, e))
      (all_weaker (λ (r : ParamOutgoingResetRequest). (k : ℕ) × (slice_get (control_requests a) k ≡ Some r))
      (IsAskedBy a now) (control_requests a) (λ request there. inl there) (each_there (control_requests a))) tt

  -- While DATA is exchanged

  requests_made : (header : CommonHeader) (requests : List ParamOutgoingResetRequest)
      → AllByRecursion (IsAskedBy a now) requests → AllByRecursion (IsMade a now) (requests_given header requests)
  requests_made header [] each = tt
  requests_made header (request ∷ requests) each =
      all_join (IsMade a now) (packet_bytes header (request_chunk request)) (requests_given header requests)
      (request_made header request each.0) (requests_made header requests each.1)

  acks_made : (due : Bool) (b : Shown) → AllByRecursion (IsMade a now) (if due then sack_packet b else [])
  acks_made true b = others_made (sack_packet b) (no_sack (header_of b.handshake) _)
  acks_made false b = tt

  forward_made : (forwards : Bool) (header : CommonHeader) (b : Shown)
      → AllByRecursion (IsMade a now) (if forwards then packet_bytes header (forward_chunk b) else [])
  forward_made true header b =
      others_made (packet_bytes header (forward_chunk b)) (no_forward header (forward_of b.sender))
  forward_made false header b = tt

  all_asked : AllByRecursion (IsAskedBy a now) (requests_behind a now)
  all_asked =
      all_weaker (λ (r : ParamOutgoingResetRequest). (k : ℕ) × (slice_get (requests_behind a now) k ≡ Some r))
      (IsAskedBy a now) (requests_behind a now) (λ request there. inr there) (each_there (requests_behind a now))

  abbrev behind : Shown
  behind = (control_polled a).0

  exchanged_made : exchanges_data behind.state ≡ true
      → AllByRecursion (IsMade a now) (exchange_polled behind now).1
  exchanged_made e =
      let header = header_of behind.handshake in
      let x = (data_after behind now).0 in
      let pieces = datagrams_of header (data_polled behind now).1 in
      let requests = requests_given header (requests_sent x) in
      let left : Shown = (data_polled behind now).0 in
      let forward : List (List ℕ) =
      if gives_forward left.sender then packet_bytes header (forward_chunk left) else [] in
      let here : exchanges_data a.state ≡ true =
      sym (ap (λ (z : Shown). exchanges_data z.state) (control_leaves a)) ∙ e in
      let asked : AllByRecursion (IsAskedBy a now) (requests_sent x) =
      subst (AllByRecursion (IsAskedBy a now)) (cond-true (exchanges_data a.state) (requests_sent x) [] here)
      all_asked in
      subst (AllByRecursion (IsMade a now)) (sym (exchange_said behind now e))
      (all_join (IsMade a now) (pieces ++ requests ++ acks_given behind) forward
      (all_join (IsMade a now) (pieces ++ requests) (acks_given behind)
      (all_join (IsMade a now) pieces requests
      (others_made pieces (no_data header (data_polled behind now).1))
      (requests_made header (requests_sent x) asked))
      (acks_made (is_due behind.receiver.ack_state) behind))
      (forward_made (gives_forward left.sender) header left))

  silent_made : exchanges_data behind.state ≡ false → AllByRecursion (IsMade a now) (exchange_polled behind now).1
  unfolding exchange_polled
  silent_made e =
      subst (λ (x : Shown × List (List ℕ)). AllByRecursion (IsMade a now) x.1)
      (sym (cond-false (exchanges_data behind.state)
      (forward_after (ack_after (requests_after (data_after behind now)))) (behind, []) e)) tt

  exchange_made : AllByRecursion (IsMade a now) (exchange_polled behind now).1
  exchange_made = ⊎_elim exchanged_made silent_made (cases_Bool (exchanges_data behind.state))

  -- and at its end

  end_made_if : (closing shutdown ack complete : Bool) (m : Shown) → AllByRecursion (IsMade a now)
      (if not closing then (m, []) else
      if shutdown then (shutdown_sent m now, shutdown_packet m (chunks.Shutdown m.receiver.peer_last_tsn)) else
      if ack then (shutdown_ack_sent m now, shutdown_packet m chunks.ShutdownAck) else
      if complete then with_complete_given m else (m, [])).1
  end_made_if false shutdown ack complete m = tt
  end_made_if true true ack complete m =
      others_made (shutdown_packet m (chunks.Shutdown m.receiver.peer_last_tsn))
      (no_shutdown (header_of m.handshake) m.receiver.peer_last_tsn)
  end_made_if true false true complete m =
      others_made (shutdown_packet m chunks.ShutdownAck) (no_shutdown_ack (header_of m.handshake))
  end_made_if true false false true m =
      others_made (shutdown_packet m chunks.ShutdownComplete) (no_complete (header_of m.handshake))
  end_made_if true false false false m = tt

  end_made : (m : Shown) → AllByRecursion (IsMade a now) (shutdown_polled m now).1
  unfolding shutdown_polled
  end_made m =
      let due = m.shutdown_due in
      end_made_if (is_closing m.state) due.shutdown due.shutdown_ack due.shutdown_complete m

  polled_made : AllByRecursion (IsMade a now) (polled a now).1
  polled_made =
      let m = (open_polled a now).0 in
      subst (AllByRecursion (IsMade a now)) (sym (polled_gives_last a now))
      (all_join (IsMade a now) (open_polled a now).1 (shutdown_polled m now).1
      (subst (AllByRecursion (IsMade a now)) (sym (front_gives a now))
      (all_join (IsMade a now) (control_polled a).1 (exchange_polled behind now).1 control_made exchange_made))
      (end_made m))

-- By its contract: as what each is read

-- as some request to reset streams, alone
abbrev IsReadAsRequest : List ℕ → Type 0
IsReadAsRequest bytes =
    (header : CommonHeader) × (c : ChunkReconfig)
    × (packet_at bytes ≡ Ok (single_chunk_packet header (chunks.Reconfig c)))

-- each chunk that it spells is so, or it is read as that
abbrev Reads : (Chunk → Type 0) → List ℕ → Type 0
Reads Is bytes = OfEachChunk Is (packet_in bytes) ⊎ IsReadAsRequest bytes

taken_says : (c : Bool) (Is : Chunk → Type 0) (packet : Packet) → AllByRecursion Is packet.chunks
    → OfEachChunk Is (if c then Some packet else None)
taken_says true Is packet all = all
taken_says false Is packet all = tt

read_says : (Is : Chunk → Type 0) (bytes : List ℕ) (packet : Packet) → packet_at bytes ≡ Ok packet
    → AllByRecursion Is packet.chunks → OfEachChunk Is (packet_in bytes)
read_says Is bytes packet read all =
    subst (λ (z : Result Packet Fault). OfEachChunk Is (taken_packet z)) (sym read)
    (taken_says (is_ok (checked packet)) Is packet all)

module _ (Is : Chunk → Type 0) where
  one_reads : (header : CommonHeader) (chunk : Chunk) → IsReadAgain header chunk → Is chunk
      → AllByRecursion (Reads Is) (packet_bytes header chunk)
  one_reads header chunk again is =
      packet_said (Reads Is) header chunk
      (λ bytes e. inl (read_says Is bytes (single_chunk_packet header chunk) (again bytes e) (is, tt)))

  requests_read : (header : CommonHeader) (requests : List ParamOutgoingResetRequest)
      → AllByRecursion (IsRequestReadAgain header) requests
      → AllByRecursion (Reads Is) (requests_given header requests)
  requests_read header [] again = tt
  requests_read header (request ∷ requests) (one, more) =
      all_join (Reads Is) (packet_bytes header (request_chunk request)) (requests_given header requests)
      (packet_said (Reads Is) header (request_chunk request) (λ bytes e. inr (header, _, one bytes e)))
      (requests_read header requests more)

  data_read : (header : CommonHeader) (bundles : List (List ChunkPayloadData)) → AreReadAgain header bundles
      → AllByRecursion (λ (c : ChunkPayloadData). Is (chunks.Data c)) (all_of bundles)
      → AllByRecursion (Reads Is) (datagrams_of header bundles)
  data_read header [] again all = tt
  data_read header (cs ∷ bundles) (one, more) all =
      let IsData : ChunkPayloadData → Type 0 = λ (c : ChunkPayloadData). Is (chunks.Data c) in (
        inl (read_says Is (spelling (data_packet header cs)) (data_packet header cs) one
            (all_map Is (λ (c : ChunkPayloadData). chunks.Data c) cs (all_front IsData cs (all_of bundles) all))),
        data_read header bundles more (all_back IsData cs (all_of bundles) all),
      )

  acks_read : (due : Bool) (a : Shown) → is_due a.receiver.ack_state ≡ due → AckIsReadAgain a
      → (is_due a.receiver.ack_state ≡ true → Is (sack_chunk a))
      → AllByRecursion (Reads Is) (if due then sack_packet a else [])
  acks_read false a e again is = tt
  acks_read true a e again is = one_reads (header_of a.handshake) (sack_chunk a) (again e) (is e)

  forward_reads : (forwards : Bool) (header : CommonHeader) (b : Shown)
      → (forwards ≡ true → IsReadAgain header (forward_chunk b)) → (forwards ≡ true → Is (forward_chunk b))
      → AllByRecursion (Reads Is) (if forwards then packet_bytes header (forward_chunk b) else [])
  forward_reads false header b again is = tt
  forward_reads true header b again is = one_reads header (forward_chunk b) (again refl) (is refl)

  ending_reads : (a : Shown) (ending : List Chunk) → AllByRecursion (IsReadAgain (header_of a.handshake)) ending
      → AllByRecursion Is ending → AllByRecursion (Reads Is) (flat_map (shutdown_packet a) ending)
  ending_reads a [] again all = tt
  ending_reads a (chunk ∷ ending) (one, more) (is, rest) =
      all_join (Reads Is) (packet_bytes (header_of a.handshake) chunk) (flat_map (shutdown_packet a) ending)
      (one_reads (header_of a.handshake) chunk one is) (ending_reads a ending more rest)

  exchange_if : (exchanges : Bool) (packets : List (List ℕ))
      → (exchanges ≡ true → AllByRecursion (Reads Is) packets)
      → AllByRecursion (Reads Is) (if exchanges then packets else [])
  exchange_if true packets reads = reads refl
  exchange_if false packets reads = tt

-- Of a poll of an association that stands on a history.
module _ (a b : Shown) (now : ℕ) (h : History) (plain : WaitPlainly a) (again : AreControlReadAgain a.control) where
  abbrev Is : Chunk → Type 0
  Is = GivesChunk a now h b

  waiting_says : (bytes : List ℕ) → IsOfWaiting a bytes → OfEachChunk Is (packet_in bytes)
  waiting_says bytes (k, c, there, spelled) =
      let is_plain = all_get IsPlainControl a.control k (controls.Packet c) there plain in
      let read = all_get ControlReadAgain a.control k (controls.Packet c) there again is_plain in
      read_says Is bytes (single_chunk_packet c.header c.chunk) (read bytes spelled) (inl (k, c, there, refl), tt)

  control_reads : (bytes : List ℕ) → IsOfControl a bytes → Reads Is bytes
  control_reads bytes (inl waiting) = inl (waiting_says bytes waiting)
  control_reads bytes (inr (request, read, asked)) = inr (header_of a.handshake, _, read)

  -- a request of this side is read as it is carried
  request_read_as : (bytes : List ℕ) (read : Result Packet Fault) → packet_at bytes ≡ read → IsOfRequest a now bytes
      → OfEachChunk Is (taken_packet read)
  request_read_as bytes (Ok packet) e (request, asked, header, spelled) =
      taken_says (is_ok (checked packet)) Is packet
      (subst (AllByRecursion Is) (sym (request_said header request bytes packet spelled e))
      (inr (inr (inl (request, asked, refl))), tt))
  request_read_as bytes (Err fault) e made = tt

  each_says : (bytes : List ℕ) → Reads Is bytes → IsMade a now bytes → OfEachChunk Is (packet_in bytes)
  each_says bytes (inl says) made = says
  each_says bytes (inr read) (inl waiting) = waiting_says bytes waiting
  each_says bytes (inr read) (inr (inl request)) = request_read_as bytes (packet_at bytes) refl request
  each_says bytes (inr (header, c, read)) (inr (inr none)) =
      absurd (none c (chunks_of_packet bytes (single_chunk_packet header (chunks.Reconfig c)) read))

  polled_reads : (packets : List (List ℕ)) → Binds a h → AllByRecursion (IsOfControl a) (control_polled a).1
      → Polls (acts_of_poll a now) (forwards_of_poll a now) a h b packets → AllByRecursion (Reads Is) packets
  polled_reads packets binds control polls =
      let header = header_of a.handshake in
      let acts = acts_of_poll a now in
      let forwards = forwards_of_poll a now in
      let pieces = datagrams_of header polls.bundles in
      let requests = requests_given header polls.requests in
      let forward : List (List ℕ) = if forwards then packet_bytes header (forward_chunk b) else [] in
      let exchanged : exchanges_data a.state ≡ true
      → AllByRecursion (Reads Is) (pieces ++ requests ++ acks_given a ++ forward) =
      λ exchanges.
      let IsData : ChunkPayloadData → Type 0 = λ (c : ChunkPayloadData). Is (chunks.Data c) in
      let given =
      all_weaker (λ (c : ChunkPayloadData). (k : ℕ) × (slice_get (all_data_given acts (parts a h)) k ≡ Some c)) IsData
      (all_data_given acts (parts a h)) (λ c there. inr (inl (exchanges, there)))
      (each_there (all_data_given acts (parts a h))) in
      let data_is : AllByRecursion IsData (all_of polls.bundles) =
      subst (AllByRecursion IsData) (sym polls.joined)
      (all_filter IsData data_fits (all_data_given acts (parts a h)) given) in
      all_join (Reads Is) (pieces ++ requests ++ acks_given a) forward
      (all_join (Reads Is) (pieces ++ requests) (acks_given a)
      (all_join (Reads Is) pieces requests
      (data_read Is header polls.bundles (polls.data_again exchanges) data_is)
      (requests_read Is header polls.requests polls.requests_again))
      (acks_read Is (is_due a.receiver.ack_state) a refl (polls.ack_again exchanges)
      (λ due. inr (inl (exchanges, (due, sacks_say_what_was_taken a h binds))))))
      (forward_reads Is forwards header b polls.forward_again (λ due. inr (inl (exchanges, (due, refl))))) in
      let given = exchange_given a polls.bundles polls.requests forwards b in
      let ended : AllByRecursion Is polls.ending =
      all_weaker IsOfShutdown Is polls.ending (λ chunk ends. inr (inr (inr ends))) polls.ending_is in
      subst (AllByRecursion (Reads Is)) (sym polls.said)
      (all_join (Reads Is) ((control_polled a).1 ++ given) (flat_map (shutdown_packet a) polls.ending)
      (all_join (Reads Is) (control_polled a).1 given
      (all_weaker (IsOfControl a) (Reads Is) (control_polled a).1 control_reads control)
      (exchange_if Is (exchanges_data a.state) (pieces ++ requests ++ acks_given a ++ forward) exchanged))
      (ending_reads Is a polls.ending polls.ending_again ended))

-- Each chunk that the datagrams of a poll spell is one that the poll gives.
pub poll_spells : (a b : Shown) (now : ℕ) (h : History) → Binds a h → WaitPlainly a
    → PollsOn (acts_of_poll a now) (forwards_of_poll a now) a b (polled a now).1
    → AllByRecursion (λ (bytes : List ℕ). OfEachChunk (GivesChunk a now h b) (packet_in bytes)) (polled a now).1
poll_spells a b now h binds plain on =
    let Is : Chunk → Type 0 = GivesChunk a now h b in
    let packets = (polled a now).1 in
    all_weaker (λ (bytes : List ℕ). Reads Is bytes × IsMade a now bytes)
    (λ (bytes : List ℕ). OfEachChunk Is (packet_in bytes)) packets
    (λ bytes both. each_says a b now h plain on.control_again bytes both.0 both.1)
    (all_both (Reads Is) (IsMade a now) packets
    (polled_reads a b now h plain on.control_again packets binds on.control_said (on.from h binds)) (polled_made a now))
