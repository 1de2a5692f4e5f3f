-- The packets of a poll say what its acts give out.
use Rattle.std.proofs.Common.{◌≡◌, refl, sym, ap, ◌∙◌, inl, inr, subst, ℕ, suc, Bool, true, false, if◌then◌else◌, List}
use Rattle.std.specs.Prelude.{⊤}
use Rattle.std.proofs.Common.{arith, [], ◌∷◌, ◌++◌, Option, Some, None, Result, Ok, Err, is_ok}
use Rattle.std.specs.Prelude.{flat_map, slice_get}
use Rattle.std.specs.List.{AllByRecursion}
use Rattle.std.proofs.lemmas.Bool.{cond-false, false≢true}
use Rattle.std.proofs.lemmas.List.{append-nil}
use Rattle.sctp_wire_types.specs.declared.chunk.Chunk.{Chunk}
use Rattle.sctp_wire_types.specs.declared.chunk.Chunk.TheVariants as chunks
use Rattle.sctp_wire_types.specs.declared.chunk.ChunkPayloadData.{ChunkPayloadData}
use Rattle.sctp_wire_types.specs.declared.error.Fault.{Fault}
use Rattle.sctp_wire_types.specs.declared.param.Param.TheVariants as params
use Rattle.sctp_wire_types.specs.declared.packet.CommonHeader.{CommonHeader}
use Rattle.sctp_wire.specs.DataPackets.{IsReadBack, all_of, data_fits, datagrams_of, data_packet}
use Rattle.sctp_wire_types.specs.declared.param.ParamOutgoingResetRequest.{ParamOutgoingResetRequest}
use Rattle.sctp_wire.specs.Packets.{checked, packet_at, spelling, written}
use Rattle.sctp_inbound.specs.Handshake.{header_of}
use Rattle.sctp_resets.specs.Within.{NamesOver, OwnOver, ParamOver}
use Rattle.sctp_model.proofs.Lists.{all_back, all_filter, all_front, all_get, all_join, all_map}
use Rattle.sctp_model.proofs.Lists.{all_weaker}
use Rattle.sctp_directions.specs.Acts.{Act, History, all_data_given}
use Rattle.sctp_assoc.specs.Leads.{parts}
use Rattle.sctp_assoc.specs.Calls.{exchanges_data}
use Rattle.sctp_assoc.specs.Happened.{IsOfControl, IsOfShutdown, IsRequestReadAgain, acks_given, exchange_given}
use Rattle.sctp_assoc.specs.Happened.{requests_given}
use Rattle.sctp_assoc.specs.Inbound.{taken_packet}
use Rattle.sctp_assoc.specs.declared.control.Control.{Control}
use Rattle.sctp_assoc.specs.declared.control.Control.TheVariants as controls
use Rattle.sctp_assoc.specs.Gather.{AckIsReadAgain, AreControlReadAgain, AreReadAgain, ControlReadAgain}
use Rattle.sctp_assoc.specs.Gather.{IsPlainControl, IsReadAgain, ack_after, after_both, control_polled, data_after}
use Rattle.sctp_assoc.specs.Gather.{exchange_after, exchange_polled, forward_after, forward_chunk, is_due}
use Rattle.sctp_assoc.specs.Gather.{open_polled, reconfig_run_after, requests_after, shutdown_after, shutdown_packet}
use Rattle.sctp_assoc.specs.Resets.{reconfig_of, with_reconfig_run}
use Rattle.sctp_assoc.specs.Gather.{packet_bytes, single_chunk_packet, sack_chunk, sack_packet, spelled}
use Rattle.sctp_assoc.specs.Gather.{WaitPlainly, without_control}
use Rattle.sctp_sides.specs.NoReset.{HasNoReset, IsNoReconfig, IsOfNoReset, control_packets, packets_of_control}
use Rattle.sctp_sides.specs.SideLaws.{IsExchanged, IsGivenBy, IsWaitingToGo, NoResetGoesOut, OfEachChunk}
use Rattle.sctp_sides.specs.SideLaws.{PollsOutsideAnExchangeGiveWhatWaits, PollsSayTheirActs, WhatWaitsGoesOutAsItIs}
use Rattle.sctp_sides.specs.PastSpan.{AsksPast}
use Rattle.sctp_assoc.specs.Shown.{Shown}
use Rattle.sctp_sides.proofs.WithoutResets.{no_request_is_timed, what_waits_goes_out}
use Rattle.sctp_sides.proofs.DueSacks.{sacks_say_what_was_taken}
use Rattle.sctp_sides.proofs.EndedPolls.{quiet_end}

-- each chunk that a datagram spells is so
abbrev AreOf : (Chunk → Type 0) → List (List ℕ) → Type 0
AreOf Is packets = AllByRecursion (λ (bytes : List ℕ). OfEachChunk Is (taken_packet (packet_at bytes))) packets

-- A packet of one chunk says what its chunk says.

taken_says : (c : Bool) (Is : Chunk → Type 0) (header : CommonHeader) (chunk : Chunk) → Is chunk
    → OfEachChunk Is (if c then Some (single_chunk_packet header chunk) else None)
taken_says true Is header chunk s = (s, tt)
taken_says false Is header chunk s = tt

spelled_says : (r : Result (List ℕ) Fault) (Is : Chunk → Type 0) (header : CommonHeader) (chunk : Chunk)
    → ((bytes : List ℕ) → spelled r ≡ bytes ∷ [] → packet_at bytes ≡ Ok (single_chunk_packet header chunk)) → Is chunk
    → AreOf Is (spelled r)
spelled_says (Ok bytes) Is header chunk again s = (
  subst (λ z. OfEachChunk Is (taken_packet z)) (sym (again bytes refl))
      (taken_says (is_ok (checked (single_chunk_packet header chunk))) Is header chunk s),
  tt,
)
spelled_says (Err fault) Is header chunk again s = tt

one_says : (Is : Chunk → Type 0) (header : CommonHeader) (chunk : Chunk) → IsReadAgain header chunk → Is chunk
    → AreOf Is (packet_bytes header chunk)
unfolding packet_bytes
one_says Is header chunk again s = spelled_says (written (single_chunk_packet header chunk)) Is header chunk again s

-- A packet of DATA says what its chunks say.

bundle_checked : (c : Bool) (Is : Chunk → Type 0) (header : CommonHeader) (cs : List ChunkPayloadData)
    → AllByRecursion (λ (c : ChunkPayloadData). Is (chunks.Data c)) cs
    → OfEachChunk Is (if c then Some (data_packet header cs) else None)
bundle_checked true Is header cs all = all_map Is (λ c. chunks.Data c) cs all
bundle_checked false Is header cs all = tt

bundle_says : (Is : Chunk → Type 0) (header : CommonHeader) (cs : List ChunkPayloadData) → IsReadBack header cs
    → AllByRecursion (λ (c : ChunkPayloadData). Is (chunks.Data c)) cs
    → OfEachChunk Is (taken_packet (packet_at (spelling (data_packet header cs))))
bundle_says Is header cs again all =
    subst (λ z. OfEachChunk Is (taken_packet z)) (sym again)
    (bundle_checked (is_ok (checked (data_packet header cs))) Is header cs all)

data_says : (Is : Chunk → Type 0) (header : CommonHeader) (bundles : List (List ChunkPayloadData))
    → AreReadAgain header bundles
    → AllByRecursion (λ (c : ChunkPayloadData). Is (chunks.Data c)) (all_of bundles)
    → AreOf Is (datagrams_of header bundles)
data_says Is header [] again all = tt
data_says Is header (cs ∷ bs) (again, more) all =
    let IsData : ChunkPayloadData → Type 0 = λ (c : ChunkPayloadData). Is (chunks.Data c) in (
      bundle_says Is header cs again (all_front IsData cs (all_of bs) all),
      data_says Is header bs more (all_back IsData cs (all_of bs) all),
    )

ack_says : (due : Bool) (Is : Chunk → Type 0) (a : Shown) → is_due a.receiver.ack_state ≡ due → AckIsReadAgain a
    → (is_due a.receiver.ack_state ≡ true → Is (sack_chunk a)) → AreOf Is (if due then sack_packet a else [])
ack_says false Is a e again s = tt
ack_says true Is a e again s = one_says Is (header_of a.handshake) (sack_chunk a) (again e) (s e)

forward_says : (forwards : Bool) (Is : Chunk → Type 0) (header : CommonHeader) (b : Shown)
    → (forwards ≡ true → IsReadAgain header (forward_chunk b)) → (forwards ≡ true → Is (forward_chunk b))
    → AreOf Is (if forwards then packet_bytes header (forward_chunk b) else [])
forward_says false Is header b again s = tt
forward_says true Is header b again s = one_says Is header (forward_chunk b) (again refl) (s refl)

-- each of a list stands in it
each_there : {X : Type 0} (xs : List X) → AllByRecursion (λ (x : X). (k : ℕ) × (slice_get xs k ≡ Some x)) xs
each_there [] = tt
each_there {X} (x ∷ xs) = (
  (0, refl),
  all_weaker (λ (y : X). (k : ℕ) × (slice_get xs k ≡ Some y)) (λ (y : X). (k : ℕ) × (slice_get (x ∷ xs) k ≡ Some y)) xs
      (λ y there. (suc there.0, there.1)) (each_there xs),
)

-- of what waits to go out each packet has such a chunk
abbrev WaitsSo : (Chunk → Type 0) → Control → Type 0
WaitsSo Is (controls.Packet c) = Is c.chunk
WaitsSo Is controls.OwnRequest = ⊤

control_says : (Is : Chunk → Type 0) (c : Control) → ControlReadAgain c → IsPlainControl c → WaitsSo Is c
    → AreOf Is (packets_of_control c)
control_says Is (controls.Packet c) again plain one = one_says Is c.header c.chunk (again plain) one
control_says Is controls.OwnRequest again plain one = tt

waiting_say : (Is : Chunk → Type 0) (cs : List Control) → AreControlReadAgain cs → AllByRecursion IsPlainControl cs
    → AllByRecursion (WaitsSo Is) cs → AreOf Is (control_packets cs)
waiting_say Is [] again plain all = tt
waiting_say Is (c ∷ cs) (again, more) (plain, others) (one, rest) =
    all_join (λ (bytes : List ℕ). OfEachChunk Is (taken_packet (packet_at bytes))) (packets_of_control c)
    (control_packets cs) (control_says Is c again plain one) (waiting_say Is cs more others rest)

-- what waits is so where each chunk that waits is
module _ (a : Shown) (Is : Chunk → Type 0) (so : (chunk : Chunk) → IsWaitingToGo a chunk → Is chunk) where
  waits_so : (c : Control) → (k : ℕ) × (slice_get a.control k ≡ Some c) → WaitsSo Is c
  waits_so (controls.Packet c) there = so c.chunk (there.0, c, there.1, refl)
  waits_so controls.OwnRequest there = tt

  all_wait_so : AllByRecursion (WaitsSo Is) a.control
  all_wait_so =
      all_weaker (λ (c : Control). (k : ℕ) × (slice_get a.control k ≡ Some c)) (WaitsSo Is) a.control
      (λ c there. waits_so c there) (each_there a.control)

-- each request to reset streams goes out in a packet of its own
abbrev AsksSo : (Chunk → Type 0) → ParamOutgoingResetRequest → Type 0
AsksSo Is request = Is (reconfig_of (params.OutgoingResetRequest request))

requests_say : (Is : Chunk → Type 0) (header : CommonHeader) (requests : List ParamOutgoingResetRequest)
    → AllByRecursion (IsRequestReadAgain header) requests → AllByRecursion (AsksSo Is) requests
    → AreOf Is (requests_given header requests)
requests_say Is header [] again all = tt
requests_say Is header (request ∷ requests) (one, more) (is, rest) =
    let chunk : Chunk = reconfig_of (params.OutgoingResetRequest request) in
    all_join (λ (bytes : List ℕ). OfEachChunk Is (taken_packet (packet_at bytes))) (packet_bytes header chunk)
    (requests_given header requests) (one_says Is header chunk one is) (requests_say Is header requests more rest)

-- what goes out before any DATA is of chunks that waited, and of requests of this side
module _ (over : ℕ → Bool) (a : Shown) (Is : Chunk → Type 0) (waits : (chunk : Chunk) → IsWaitingToGo a chunk
    → Is chunk)
    (asks : (chunk : Chunk) → AsksPast over chunk → Is chunk) where
  of_control_says : OwnOver over a.resets.own → WaitPlainly a → AreControlReadAgain a.control → (bytes : List ℕ)
      → IsOfControl a bytes → OfEachChunk Is (taken_packet (packet_at bytes))
  of_control_says past plain again bytes (inl (k, c, there, spelled)) =
      let is_plain = all_get IsPlainControl a.control k (controls.Packet c) there plain in
      let read = all_get ControlReadAgain a.control k (controls.Packet c) there again is_plain in
      (subst (AreOf Is) spelled (one_says Is c.header c.chunk read (waits c.chunk (k, c, there, refl)))).0
  of_control_says past plain again bytes (inr (request, read, asked)) =
      let chunk : Chunk = reconfig_of (params.OutgoingResetRequest request) in
      let packet = single_chunk_packet (header_of a.handshake) chunk in
      subst (λ z. OfEachChunk Is (taken_packet z)) (sym read)
      (taken_says (is_ok (checked packet)) Is (header_of a.handshake) chunk
      (asks chunk (request, refl, asked over past)))

  control_said_says : OwnOver over a.resets.own → WaitPlainly a → AreControlReadAgain a.control
      → (packets : List (List ℕ)) → AllByRecursion (IsOfControl a) packets → AreOf Is packets
  control_said_says past plain again packets all =
      all_weaker (IsOfControl a) (λ (bytes : List ℕ). OfEachChunk Is (taken_packet (packet_at bytes))) packets
      (of_control_says past plain again) all

  all_ask_so : (requests : List ParamOutgoingResetRequest) → AllByRecursion (ParamOver over) requests
      → AllByRecursion (AsksSo Is) requests
  all_ask_so requests all =
      all_weaker (ParamOver over) (AsksSo Is) requests
      (λ request past. asks (reconfig_of (params.OutgoingResetRequest request)) (request, refl, past)) all

-- what goes out while DATA is exchanged alone
given_if : (exchanges : Bool) (Is : Chunk → Type 0) (packets : List (List ℕ))
    → (exchanges ≡ true → AreOf Is packets) → AreOf Is (if exchanges then packets else [])
given_if true Is packets says = says refl
given_if false Is packets says = tt

-- the chunk of a shutdown that goes out last, in a packet of its own
ending_says : (Is : Chunk → Type 0) (a : Shown) (ending : List Chunk)
    → AllByRecursion (IsReadAgain (header_of a.handshake)) ending → AllByRecursion Is ending
    → AreOf Is (flat_map (shutdown_packet a) ending)
ending_says Is a [] again all = tt
ending_says Is a (chunk ∷ ending) (one, more) (is, rest) =
    all_join (λ (bytes : List ℕ). OfEachChunk Is (taken_packet (packet_at bytes)))
    (packet_bytes (header_of a.handshake) chunk) (flat_map (shutdown_packet a) ending)
    (one_says Is (header_of a.handshake) chunk one is) (ending_says Is a ending more rest)

pub polls_say_their_acts : PollsSayTheirActs
polls_say_their_acts over acts forwards a b h packets =
    λ past plain again control binds polls.
    let Is : Chunk → Type 0 = IsGivenBy over acts forwards a b h in
    let Of : List ℕ → Type 0 = λ (bytes : List ℕ). OfEachChunk Is (taken_packet (packet_at bytes)) in
    let header = header_of a.handshake in
    let pieces = datagrams_of header polls.bundles in
    let requests = requests_given header polls.requests in
    let forward : List (List ℕ) = if forwards then packet_bytes header (forward_chunk b) else [] in
    let waits : (chunk : Chunk) → IsWaitingToGo a chunk → Is chunk = λ chunk there. inl there in
    let asks : (chunk : Chunk) → AsksPast over chunk → Is chunk = λ chunk asked. inr (inr (inl asked)) in
    let asked : AreOf Is requests =
    requests_say Is header polls.requests polls.requests_again
    (all_ask_so over a Is waits asks polls.requests (polls.asked over past.own)) in
    let exchanged : exchanges_data a.state ≡ true → AreOf Is (pieces ++ requests ++ acks_given a ++ forward) =
    λ exchanges.
    let IsData : ChunkPayloadData → Type 0 = λ (c : ChunkPayloadData). Is (chunks.Data c) in
    let given =
    all_weaker (λ (c : ChunkPayloadData). (k : ℕ) × (slice_get (all_data_given acts (parts a h)) k ≡ Some c)) IsData
    (all_data_given acts (parts a h)) (λ c there. inr (inl (exchanges, there)))
    (each_there (all_data_given acts (parts a h))) in
    let carried : AllByRecursion IsData (all_of polls.bundles) =
    subst (AllByRecursion IsData) (sym polls.joined)
    (all_filter IsData data_fits (all_data_given acts (parts a h)) given) in
    all_join Of (pieces ++ requests ++ acks_given a) forward
    (all_join Of (pieces ++ requests) (acks_given a)
    (all_join Of pieces requests (data_says Is header polls.bundles (polls.data_again exchanges) carried) asked)
    (ack_says (is_due a.receiver.ack_state) Is a refl (polls.ack_again exchanges)
    (λ due. inr (inl (exchanges, (due, sacks_say_what_was_taken a h binds))))))
    (forward_says forwards Is header b polls.forward_again (λ due. inr (inl (exchanges, (due, refl))))) in
    let given = exchange_given a polls.bundles polls.requests forwards b in
    let ended : AllByRecursion Is polls.ending =
    all_weaker IsOfShutdown Is polls.ending (λ chunk ends. inr (inr (inr ends))) polls.ending_is in
    subst (AreOf Is) (sym polls.said)
    (all_join Of ((control_polled a).1 ++ given) (flat_map (shutdown_packet a) polls.ending)
    (all_join Of (control_polled a).1 given
    (control_said_says over a Is waits asks past.own plain again (control_polled a).1 control)
    (given_if (exchanges_data a.state) Is (pieces ++ requests ++ acks_given a ++ forward) exchanged))
    (ending_says Is a polls.ending polls.ending_again ended))

exchange_nothing : (a : Shown) (now : ℕ) → exchanges_data a.state ≡ false → exchange_polled a now ≡ (a, [])
unfolding exchange_polled
exchange_nothing a now e =
    cond-false (exchanges_data a.state) (forward_after (ack_after (requests_after (data_after a now)))) (a, []) e

pub polls_outside_an_exchange_give_what_waits : PollsOutsideAnExchangeGiveWhatWaits
polls_outside_an_exchange_give_what_waits a now none e quiet =
    let b : Shown = without_control a in
    let waiting = control_packets a.control in
    let front : open_polled a now ≡ (b, waiting) =
    ap (λ (x : Shown × List (List ℕ)). reconfig_run_after (exchange_after x now) now) (what_waits_goes_out a none)
    ∙ ap (λ (x : Shown × List (List ℕ)). reconfig_run_after (after_both waiting x) now) (exchange_nothing b now e)
    ∙ ap (λ (z : List (List ℕ)). (with_reconfig_run b now, z)) (append-nil waiting)
    ∙ ap (λ (z : Shown). (z, waiting)) (no_request_is_timed b now none.active) in
    ap (λ (x : Shown × List (List ℕ)). shutdown_after x now) front
    ∙ ap (after_both waiting) (quiet_end b now quiet)
    ∙ ap (λ (z : List (List ℕ)). (b, z)) (append-nil waiting)

pub what_waits_goes_out_as_it_is : WhatWaitsGoesOutAsItIs
what_waits_goes_out_as_it_is a plain again =
    waiting_say (IsWaitingToGo a) a.control again plain (all_wait_so a (IsWaitingToGo a) (λ chunk there. there))

-- no reset goes out where none is under way

waiting_no_reset : (a : Shown) (chunk : Chunk) → HasNoReset a → IsWaitingToGo a chunk → IsNoReconfig chunk
waiting_no_reset a chunk none (k, c, there, same) =
    subst IsNoReconfig same (all_get IsOfNoReset a.control k (controls.Packet c) there none.control)

exchanged_no_reset : (acts : List Act) (forwards : Bool) (a b : Shown) (h : History) (chunk : Chunk)
    → IsExchanged acts forwards a b h chunk → IsNoReconfig chunk
exchanged_no_reset acts forwards a b h (chunks.Data x) g = tt
exchanged_no_reset acts forwards a b h (chunks.SelectiveAck x) g = tt
exchanged_no_reset acts forwards a b h (chunks.ForwardTsn x) g = tt
exchanged_no_reset acts forwards a b h (chunks.Init x) g = tt
exchanged_no_reset acts forwards a b h (chunks.InitAck x) g = tt
exchanged_no_reset acts forwards a b h (chunks.Heartbeat x) g = tt
exchanged_no_reset acts forwards a b h (chunks.HeartbeatAck x) g = tt
exchanged_no_reset acts forwards a b h (chunks.Abort x) g = tt
exchanged_no_reset acts forwards a b h (chunks.Shutdown x) g = tt
exchanged_no_reset acts forwards a b h chunks.ShutdownAck g = tt
exchanged_no_reset acts forwards a b h (chunks.Error x) g = tt
exchanged_no_reset acts forwards a b h (chunks.CookieEcho x) g = tt
exchanged_no_reset acts forwards a b h chunks.CookieAck g = tt
exchanged_no_reset acts forwards a b h chunks.ShutdownComplete g = tt
exchanged_no_reset acts forwards a b h (chunks.Reconfig x) g = absurd g
exchanged_no_reset acts forwards a b h (chunks.IForwardTsn x) g = tt
exchanged_no_reset acts forwards a b h (chunks.Other kind flags value) g = tt

-- nor is a chunk of a shutdown of one
ending_no_reset : (chunk : Chunk) → IsOfShutdown chunk → IsNoReconfig chunk
ending_no_reset (chunks.Reconfig x) ends = absurd ends
ending_no_reset chunk ends = tt

-- where no stream is past its span no request can be of such streams alone, as each names some
none_is_named : (ids : List ℕ) → NamesOver (λ (s : ℕ). false) ids → ⊥
none_is_named [] names = absurd (omega (arith, names.some))
none_is_named (id ∷ ids) names = false≢true names.each.0

pub no_reset_goes_out : NoResetGoesOut
no_reset_goes_out acts forwards a b h chunk none (inl waits) = waiting_no_reset a chunk none waits
no_reset_goes_out acts forwards a b h chunk none (inr (inl given)) =
    exchanged_no_reset acts forwards a b h chunk given.1
no_reset_goes_out acts forwards a b h chunk none (inr (inr (inl (request, same, past)))) =
    absurd (none_is_named request.stream_identifiers past)
no_reset_goes_out acts forwards a b h chunk none (inr (inr (inr ends))) = ending_no_reset chunk ends
