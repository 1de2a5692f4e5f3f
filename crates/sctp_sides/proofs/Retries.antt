-- A piece of a message that may be sent again n times is given out at most n + 1 times, over every list of calls.
use Rattle.std.proofs.Common.{◌≡◌, refl, sym, ap, ◌∙◌, subst, ◌⊎◌, ⊎_elim, inl, inr, ℕ, ◌+◌, ◌≤◌, Bool, true, false}
use Rattle.std.proofs.Common.{◌<◌, ◌-◌, ◌^◌, if◌then◌else◌, not, is_some, List, [], ◌∷◌, ◌++◌, Option, Some, None}
use Rattle.std.proofs.Common.{Result, Ok, Err}
use Rattle.std.proofs.lemmas.Bool.{false≢true}
use Rattle.std.specs.Prelude.{⊤}
use Rattle.std.specs.List.{AllByRecursion}
use Rattle.sctp_wire_types.specs.declared.chunk.Chunk.{Chunk}
use Rattle.sctp_wire_types.specs.declared.chunk.Chunk.TheVariants as chunks
use Rattle.sctp_wire_types.specs.declared.chunk.ChunkPayloadData.{ChunkPayloadData}
use Rattle.sctp_wire_types.specs.declared.chunk.SkippedStream.{SkippedStream}
use Rattle.sctp_wire_types.specs.declared.packet.CommonHeader.{CommonHeader}
use Rattle.sctp_wire_types.specs.Checks.{checked_chunk}
use Rattle.sctp_wire.specs.declared.packet.Packet.{Packet}
use Rattle.sctp_streams.specs.declared.event.Event.{Event}
use Rattle.sctp_streams.specs.declared.setting.Setting.TheVariants as settings
use Rattle.sctp_streams.specs.Stream.{is_read_half_open}
use Rattle.sctp_inbound.specs.declared.receiver.AckTrigger.{AckTrigger}
use Rattle.sctp_inbound.specs.declared.receiver.AckTrigger.TheVariants as triggers
use Rattle.sctp_model.proofs.Lists.{all_join}
use Rattle.sctp_directions.specs.Acts.{Act, CanAll, History, Parts, done, done_all}
use Rattle.sctp_assoc.specs.declared.inbound.Flow.{Flow}
use Rattle.sctp_assoc.specs.declared.inbound.Flow.TheVariants as flows
use Rattle.sctp_assoc.specs.Calls.{adjusted, exchanges_data, holds_of, read_exhausts, sends_data, stopped_open}
use Rattle.sctp_assoc.specs.Chunks.{on_chunk}
use Rattle.sctp_assoc.specs.Closing.{is_closed_state, is_exhausted}
use Rattle.sctp_assoc.specs.Happened.{acts_after, acts_of_chunk, acts_of_chunks, acts_of_close, acts_of_close_stream}
use Rattle.sctp_assoc.specs.Happened.{acts_of_packet, acts_of_packet_of, acts_of_read, acts_of_stop, acts_of_timeouts}
use Rattle.sctp_assoc.specs.Leads.{Binds, Leads, parts}
use Rattle.sctp_assoc.specs.Shown.{Shown, uses_forward_tsn}
use Rattle.sctp_assoc.proofs.ActsKeepOffsets.{can_append}
use Rattle.sctp_sides.specs.Lifetimes.{DoInOrder, GivesUnder, RetriesAreKept, acts_of_call, times_given}
use Rattle.sctp_sides.specs.OneSide.{Call, FailsInside, IsCarriedOut, IsFresh, IsUnchanged, carried_out}
use Rattle.sctp_wire_types.specs.declared.chunk.GapAckBlock.{GapAckBlock}
use Rattle.sctp_wire_types.specs.declared.error.Error.{Error}
use Rattle.sctp_wire_types.specs.declared.param.Param.{Param}
use Rattle.sctp_wire_types.specs.declared.param.Param.TheVariants as params
use Rattle.sctp_streams.specs.Streams.{StreamMap, generation_left, read_in, refusal_in, stream_at}
use Rattle.sctp_inbound.specs.Handshake.{comes_back}
use Rattle.sctp_inbound.specs.Receiver.{admits, is_new_to}
use Rattle.sctp_outbound_queue.specs.declared.message.Reports.{Reports}
use Rattle.sctp_outbound.specs.declared.sender.SackOutcome.{SackOutcome}
use Rattle.sctp_outbound.specs.declared.sender.SackOutcome.TheVariants as outcomes
use Rattle.sctp_outbound.specs.Sender.{sack_outcome}
use Rattle.sctp_generations.specs.Generations.{has_retiring, has_skips}
use Rattle.sctp_resets.specs.Concerned.{in_reset, retiring_ids, skipped_ids}
use Rattle.sctp_resets.specs.Resets.{is_hidden, is_retiring, refusal_of}
use Rattle.sctp_assoc.specs.Calls.{drained_behind, is_beginning, is_cookie_wait}
use Rattle.sctp_assoc.specs.Chunks.{counted_data, deferred_where_admitted, goes_unread, stream_found, taken_in}
use Rattle.sctp_assoc.specs.Chunks.{taken_where_admitted}
use Rattle.sctp_assoc.specs.Happened.{acts_if_left, acts_of_checked, acts_of_data, acts_of_deferring, acts_of_finding}
use Rattle.sctp_assoc.specs.Happened.{acts_of_forward, acts_of_found, acts_of_hidden, acts_of_kind, acts_of_outcome}
use Rattle.sctp_assoc.specs.Happened.{acts_of_skips_behind, acts_of_stream, acts_of_taking}
use Rattle.sctp_assoc.specs.Handshake.{keeps_peer}
use Rattle.sctp_assoc.specs.Happened.{acts_of_taking_where_admitted, acts_unless_faulty, acts_unless_refused}
use Rattle.sctp_assoc.specs.Probes.{is_probing, opens_window}
use Rattle.sctp_assoc.specs.ResetActs.{acts_of_draining, acts_of_keeping, acts_of_param, acts_of_second}
use Rattle.sctp_assoc.specs.ResetActs.{acts_of_settling, spans_end_if}
use Rattle.sctp_assoc.specs.Resets.{after_param, settled, settling_takes_memory, skips_applied_of}
use Rattle.sctp_assoc.specs.Shown.{all_waiting}
use Rattle.sctp_assoc.specs.Skipping.{skips_of, with_passed, with_skips}
use Rattle.sctp_assoc.proofs.HandshakeFacts.{known_all}
use Rattle.sctp_assoc.proofs.StreamsFound.{finding_opens}
use Rattle.sctp_sides.proofs.ActsOfChunks.{timeouts_mark_at_most}
use Rattle.sctp_sides.proofs.ForwardKinds.{acts_are_one_of}
use Rattle.sctp_sides.proofs.ForwardTsnSettled.{IsSettled, carried_settles}
use Rattle.sctp_sides.proofs.NothingElseTaken.{marks_are}
use Rattle.sctp_sides.proofs.TimersRun.{exchanging_begins_no_more}
use Rattle.sctp_sides.proofs.RetriesInPolls.{polls_spare, spare_join}
use Rattle.sctp_sides.proofs.SentCounts.{none_stand, stand_as}
use Rattle.sctp_sides.proofs.TimersOverRuns.{Works, accepted_works}
use Rattle.sctp_sides.proofs.TimesGiven.{AllSpare, StandsIn, spared_offsets_are_kept, tallies}

-- Acts of calls that give nothing out again

abbrev GivesNoneAgain : Act → Type 0
GivesNoneAgain (Act.SentAgain at_once by index) = ⊥
GivesNoneAgain act = ⊤

none_again_spare : (xs : List Act) (p : Parts) → AllByRecursion GivesNoneAgain xs → AllSpare xs p
none_again_spare [] p all = tt
none_again_spare (Act.SentAgain at_once by index ∷ xs) p (one, more) = absurd one
none_again_spare (act ∷ xs) p (one, more) = (tt, none_again_spare xs (done act p) more)

-- these acts give nothing out again
abbrev GiveNoneAgain : List Act → Type 0
GiveNoneAgain xs = AllByRecursion GivesNoneAgain xs

none_if : (c : Bool) (xs : List Act) → GiveNoneAgain xs → GiveNoneAgain (if c then [] else xs)
none_if true xs h = tt
none_if false xs h = h

some_if : (c : Bool) (xs : List Act) → GiveNoneAgain xs → GiveNoneAgain (if c then xs else [])
some_if true xs h = h
some_if false xs h = tt

close_acts : (a : Shown) → GiveNoneAgain (acts_of_close a)
close_acts a = none_if (is_closed_state a.state) (Act.Ended ∷ []) (tt, tt)

either_if : (c : Bool) (xs ys : List Act) → GiveNoneAgain xs → GiveNoneAgain ys
    → GiveNoneAgain (if c then xs else ys)
either_if true xs ys h k = h
either_if false xs ys h k = k

-- both, one after the other
join_acts : (xs ys : List Act) → GiveNoneAgain xs → GiveNoneAgain ys → GiveNoneAgain (xs ++ ys)
join_acts xs ys h k = all_join GivesNoneAgain xs ys h k

spans_acts : (c : Bool) (ids : List ℕ) (m : StreamMap) → GiveNoneAgain (spans_end_if c ids m)
spans_acts true ids m = (tt, tt)
spans_acts false ids m = tt

settling_acts : (a : Shown) → GiveNoneAgain (acts_of_settling a)
settling_acts a = spans_acts (settling_takes_memory a) (in_reset a.resets a.streams) (settled a).streams

read_acts : (a : Shown) (id : ℕ) → GiveNoneAgain (acts_of_read a id)
read_acts a id = (
  tt,
  join_acts (acts_of_draining a id (read_in a.streams id).0) (if read_exhausts a id then acts_of_close a else [])
      (spans_acts (is_retiring a.resets id) (id ∷ []) (drained_behind a id (read_in a.streams id).0).streams)
      (some_if (read_exhausts a id) (acts_of_close a) (close_acts a)),
)

stop_acts : (a : Shown) (id : ℕ) → GiveNoneAgain (acts_of_stop a id)
stop_acts a id =
    let b : Shown = stopped_open a id in
    some_if (holds_of (λ s. is_read_half_open s.halves) a id) _
    (tt, some_if (is_exhausted b) (acts_of_close b) (close_acts b))

unrefused_acts : (o : Option Error) (act : Act) → GivesNoneAgain act → GiveNoneAgain (acts_unless_refused o act)
unrefused_acts None act h = (h, tt)
unrefused_acts (Some error) act h = tt

skips_acts : (x : Shown × Option Error) (id : ℕ) → GiveNoneAgain (acts_of_skips_behind x id)
skips_acts (b, None) id =
    spans_acts (has_skips b.resets.generations) (skipped_ids b.resets.generations) (skips_applied_of id b).streams
skips_acts (b, Some error) id = tt

unfaulty_acts : (x : Shown × Option Error) → GiveNoneAgain (acts_unless_faulty x)
unfaulty_acts (b, None) = settling_acts b
unfaulty_acts (b, Some error) = tt

left_acts : (left : Bool) (b : Shown) (piece : ChunkPayloadData) → GiveNoneAgain (acts_if_left left b piece)
left_acts true b piece = (tt, tt)
left_acts false b piece =
    unrefused_acts (refusal_in b.streams piece.stream_identifier piece b.receiver.max_receive_message_size)
    (Act.Took piece) tt

taking_acts : (b : Shown) (piece : ChunkPayloadData) → GiveNoneAgain (acts_of_taking_where_admitted b piece)
taking_acts b piece =
    some_if (admits b.receiver piece.tsn (all_waiting b)) _
    (join_acts (acts_of_taking b piece) (acts_of_skips_behind (taken_in b piece) piece.stream_identifier)
    (left_acts (goes_unread b piece) b piece) (skips_acts (taken_in b piece) piece.stream_identifier))

found_acts : (x : Shown × Bool) (piece : ChunkPayloadData) → GiveNoneAgain (acts_of_found x piece)
found_acts (b, false) piece = tt
found_acts (b, true) piece =
    join_acts (acts_of_taking_where_admitted b piece) (acts_unless_faulty (taken_where_admitted b piece))
    (taking_acts b piece) (unfaulty_acts (taken_where_admitted b piece))

stream_acts : (a : Shown) (id : ℕ) → GiveNoneAgain (acts_of_stream a id)
stream_acts a id =
    none_if (is_some (stream_at a.streams id)) _ (some_if (generation_left a.streams) (Act.Opened id _ _ ∷ []) (tt, tt))

hidden_acts : (b : Shown) (piece : ChunkPayloadData) → GiveNoneAgain (acts_of_hidden b piece)
hidden_acts b piece =
    join_acts (acts_of_deferring b piece) (acts_unless_faulty (deferred_where_admitted b piece))
    (some_if (admits b.receiver piece.tsn (all_waiting b)) _
    (unrefused_acts (refusal_of b.resets piece b.receiver.max_receive_message_size) (Act.Deferred piece) tt))
    (unfaulty_acts (deferred_where_admitted b piece))

data_acts : (a : Shown) (piece : ChunkPayloadData) → GiveNoneAgain (acts_of_data a piece)
data_acts a piece =
    let b : Shown = counted_data a in
    let id = piece.stream_identifier in
    either_if (not (is_new_to b.receiver piece.tsn)) (acts_of_settling b) _ (settling_acts b)
    (either_if (is_hidden b.resets id piece.tsn) (acts_of_hidden b piece) _ (hidden_acts b piece)
    (join_acts (acts_of_stream b id) (acts_of_found (stream_found b id) piece) (stream_acts b id)
    (found_acts (stream_found b id) piece)))

outcome_acts : (o : SackOutcome) (n : ℕ) (missing : Reports) (blocks : List GapAckBlock) (opens : Bool)
    → GiveNoneAgain (acts_of_outcome o n blocks missing opens)
outcome_acts outcomes.Older n missing blocks opens = tt
outcome_acts outcomes.NotInFlight n missing blocks opens = tt
outcome_acts outcomes.NamesTheUnsent n missing blocks opens = tt
outcome_acts outcomes.Taken n missing blocks opens = (tt, marks_are GivesNoneAgain tt opens)

forward_acts : (a : Shown) (tsn : ℕ) (skips : List SkippedStream) → GiveNoneAgain (acts_of_forward a tsn skips)
forward_acts a tsn skips =
    acts_are_one_of tsn skips (λ b xs. GiveNoneAgain xs) (λ b e. tt) (λ b e f. tt)
    (λ b e f. (
      tt,
      join_acts (acts_of_keeping tsn skips b) (acts_of_settling (with_passed (with_skips tsn skips b) tsn))
          (spans_acts (has_retiring b.resets.generations) (retiring_ids b.resets.generations)
          (with_passed (with_skips tsn skips b) tsn).streams)
          (settling_acts (with_passed (with_skips tsn skips b) tsn)),
    ))
    (λ b xs h. join_acts (acts_of_finding tsn skips b) xs (finding_opens GivesNoneAgain (λ id first. tt) tsn skips b) h)
    a

param_acts : (a : Shown) (param : Param) → GiveNoneAgain (acts_of_param a param)
param_acts a (params.OutgoingResetRequest request) = (tt, tt)
param_acts a (params.ReconfigResponse response) = (tt, tt)
param_acts a param = tt

second_acts : (x : Shown × Bool) (o : Option Param) → GiveNoneAgain (acts_of_second x o)
second_acts (b, true) (Some param) = param_acts b param
second_acts (b, true) None = tt
second_acts (b, false) param = tt

kind_acts : (a : Shown) (header : CommonHeader) (c : Chunk) → GiveNoneAgain (acts_of_kind a header c)
kind_acts a header (chunks.Data piece) = data_acts a piece
kind_acts a header (chunks.SelectiveAck sack) =
    some_if (sends_data a.state) _
    (outcome_acts (sack_outcome a.sender sack.cumulative_tsn_ack sack.gap_ack_blocks) _ _ sack.gap_ack_blocks
    (opens_window (is_probing a.profile a.sender) sack.advertised_receiver_window_credit))
kind_acts a header (chunks.Init init) =
    some_if (is_beginning a.state) _ (known_all GivesNoneAgain (keeps_peer a init) init.initial_tsn tt)
kind_acts a header (chunks.InitAck init) =
    some_if (is_cookie_wait a.state) _
    (some_if (comes_back a.handshake header) (Act.PeerKnown init.initial_tsn ∷ []) (tt, tt))
kind_acts a header (chunks.ForwardTsn forward) =
    forward_acts a forward.new_cumulative_tsn forward.streams
kind_acts a header (chunks.IForwardTsn forward) =
    forward_acts a forward.new_cumulative_tsn (skips_of forward.entries)
kind_acts a header (chunks.Reconfig reconfig) =
    join_acts (acts_of_param a reconfig.first) (acts_of_second (after_param reconfig.first a) reconfig.second)
    (param_acts a reconfig.first) (second_acts (after_param reconfig.first a) reconfig.second)
kind_acts a header c = tt

checked_acts : (r : Result (Unit {0}) Error) (a : Shown) (header : CommonHeader) (c : Chunk)
    → GiveNoneAgain (acts_of_checked r a header c)
checked_acts (Err fault) a header c = tt
checked_acts (Ok done) a header c = kind_acts a header c

chunk_acts : (a : Shown) (header : CommonHeader) (c : Chunk) → GiveNoneAgain (acts_of_chunk a header c)
chunk_acts a header c = checked_acts (checked_chunk c) a header c

after_acts : (x : Shown × Flow) (more : Shown → AckTrigger → List Act)
    → ((b : Shown) (trigger : AckTrigger) → GiveNoneAgain (more b trigger)) → GiveNoneAgain (acts_after x more)
after_acts (b, flows.Next trigger) more h = h b trigger
after_acts (b, flows.Fault fault) more h = close_acts b
after_acts (b, flows.Closed) more h = close_acts b
after_acts (b, flows.Exhausted) more h = close_acts b

chunks_acts : (header : CommonHeader) (cs : List Chunk) (a : Shown) (trigger : AckTrigger) (now : ℕ)
    → GiveNoneAgain (acts_of_chunks header cs a trigger now)
chunks_acts header [] a trigger now = tt
chunks_acts header (c ∷ cs) a trigger now =
    all_join GivesNoneAgain (acts_of_chunk a header c)
    (acts_after (on_chunk a header c trigger now) (λ b next. acts_of_chunks header cs b next now))
    (chunk_acts a header c)
    (after_acts (on_chunk a header c trigger now) (λ b next. acts_of_chunks header cs b next now)
    (λ b next. chunks_acts header cs b next now))

packet_of_acts : (a : Shown) (packet : Option Packet) (now : ℕ) → GiveNoneAgain (acts_of_packet_of a packet now)
packet_of_acts a None now = tt
packet_of_acts a (Some packet) now = chunks_acts packet.common_header packet.chunks a triggers.None now

packet_acts : (a : Shown) (packet : Option Packet) (now : ℕ) → GiveNoneAgain (acts_of_packet a packet now)
packet_acts a packet now = none_if a.lost (acts_of_packet_of a packet now) (packet_of_acts a packet now)

timeouts_acts : (a : Shown) (now : ℕ) → GiveNoneAgain (acts_of_timeouts a now)
timeouts_acts a now =
    ⊎_elim (λ (e : acts_of_timeouts a now ≡ []). rw e tt)
    (λ (e : acts_of_timeouts a now ≡ Act.Marked ∷ []). rw e (tt, tt)) (timeouts_mark_at_most a now)

-- no call gives a piece out again that was sent as often as its policy allows
call_spares : (call : Call) (a : Shown) (h : History) → Binds a h
    → (exchanges_data a.state ≡ true → uses_forward_tsn a ≡ true) → AllSpare (acts_of_call call a) (parts a h)
call_spares (Call.OpenStream id kind) a h binds uses = (tt, tt)
call_spares (Call.Write id named bytes) a h binds uses = (tt, tt)
call_spares (Call.Set id setting) a h binds uses = (tt, tt)
call_spares Call.AcceptStream a h binds uses = tt
call_spares (Call.SetMaxSendMessageSize size) a h binds uses = tt
call_spares Call.Shutdown a h binds uses = tt
call_spares Call.Close a h binds uses = none_again_spare (acts_of_close a) (parts a h) (close_acts a)
call_spares (Call.Read id) a h binds uses = none_again_spare (acts_of_read a id) (parts a h) (read_acts a id)
call_spares Call.Poll a h binds uses = tt
call_spares Call.PollEndpointEvent a h binds uses = tt
call_spares (Call.PollTransmit now) a h binds uses = polls_spare a now h binds uses
call_spares (Call.HandleTimeout now) a h binds uses =
    none_again_spare (acts_of_timeouts a now) (parts a h) (timeouts_acts a now)
call_spares (Call.HandleEvent packet now) a h binds uses =
    none_again_spare (acts_of_packet a packet now) (parts a h) (packet_acts a packet now)
call_spares (Call.Stop id) a h binds uses = none_again_spare (acts_of_stop a id) (parts a h) (stop_acts a id)
call_spares (Call.CloseStream id) a h binds uses =
    none_again_spare (acts_of_close_stream a id) (parts a h) (tt, stop_acts (adjusted a id settings.WriteHalfClosed) id)

-- One call

-- a call was carried out by these acts, or changed nothing, or failed inside
abbrev DoesSo : Call → List Event → Shown → History → List Act → Shown → History → Type 0
DoesSo call told a h xs c l =
    (IsCarriedOut call told a c × (xs ≡ acts_of_call call a) × Leads xs a h c l)
    ⊎ ((IsUnchanged told a c ⊎ FailsInside call told a c) × (xs ≡ []) × (l ≡ h))

-- where that has not failed, the call led there by acts that give nothing out again too often
record LedOn (xs : List Act) (a : Shown) (h : History) (c : Shown) (l : History) : Type 0 where
  can : CanAll xs (parts a h)
  spares : AllSpare xs (parts a h)
  there : parts c l ≡ done_all xs (parts a h)
  binds : Binds c l

carried_is : (call : Call) (told : List Event) (a c : Shown) → IsCarriedOut call told a c → (carried_out call a).0 ≡ c
carried_is call told a c k = ap (λ (x : Shown × List Event). x.0) k.there

-- what has not failed did not fail before
carried_worked : (call : Call) (told : List Event) (a c : Shown) → IsCarriedOut call told a c → Works call a
    → c.failed ≡ false → a.failed ≡ false
carried_worked call told a c k (inl e) works = e
carried_worked call told a c k (inr (event, same)) works =
    ap (λ (x : Shown × List Event). x.0.failed) (sym same) ∙ ap (λ (b : Shown). b.failed) (carried_is call told a c k)
    ∙ works

module _ (call : Call) (told : List Event) (a c : Shown) (h l : History) (xs : List Act) where
  does_worked : DoesSo call told a h xs c l → c.failed ≡ false → a.failed ≡ false
  does_worked (inl (k, is, leads)) works =
      carried_worked call told a c k (accepted_works call a k.accepted) works
  does_worked (inr (inl k, none, same)) works = ap (λ (b : Shown). b.failed) (sym k.same) ∙ works
  does_worked (inr (inr k, none, same)) works = k.working

  -- whether FORWARD TSN is in use stays once it is settled
  does_settles : (used : Bool) → DoesSo call told a h xs c l → c.failed ≡ false → IsSettled used a → IsSettled used c
  does_settles used (inl (k, is, leads)) works s =
      subst (IsSettled used) (carried_is call told a c k) (carried_settles call used a s)
  does_settles used (inr (inl k, none, same)) works s = subst (IsSettled used) (sym k.same) s
  does_settles used (inr (inr k, none, same)) works s =
      absurd (false≢true (sym works ∙ k.failed.marked))

  led_nowhere : xs ≡ [] → c ≡ a → l ≡ h → Binds a h → LedOn xs a h c l
  led_nowhere e f g binds = rw (e, f, g) (record { can = tt; spares = tt; there = refl; binds = binds })

  does_lead : DoesSo call told a h xs c l → c.failed ≡ false → Binds a h
      → (exchanges_data a.state ≡ true → uses_forward_tsn a ≡ true) → LedOn xs a h c l
  does_lead (inl (k, is, leads)) works binds uses = record {
    can = leads.can;
    spares = subst (λ (ys : List Act). AllSpare ys (parts a h)) (sym is) (call_spares call a h binds uses);
    there = leads.there;
    binds = leads.binds;
  }
  does_lead (inr (inl k, none, same)) works binds uses = led_nowhere none k.same same binds
  does_lead (inr (inr k, none, same)) works binds uses =
      absurd (false≢true (sym works ∙ k.failed.marked))

-- Calls, one after another

module _ (b : Shown) (k : History) (works : b.failed ≡ false) where
  order_worked : (calls : List Call) (a : Shown) (h : History) (acts : List Act) → DoInOrder calls a h acts b k
      → a.failed ≡ false
  order_worked [] a h acts run = ap (λ (c : Shown). c.failed) (sym run.1) ∙ works
  order_worked (call ∷ calls) a h acts (c, l, first, later, e, d, rest) =
      does_worked call d.told a c h l first d.does (order_worked calls c l later rest)

  order_settles : (used : Bool) (calls : List Call) (a : Shown) (h : History) (acts : List Act)
      → DoInOrder calls a h acts b k → IsSettled used a → IsSettled used b
  order_settles used [] a h acts run s = subst (IsSettled used) (sym run.1) s
  order_settles used (call ∷ calls) a h acts (c, l, first, later, e, d, rest) s =
      order_settles used calls c l later rest
      (does_settles call d.told a c h l first used d.does (order_worked calls c l later rest) s)

module _ (b : Shown) (k : History) (works : b.failed ≡ false) (uses : uses_forward_tsn b ≡ true) where
  -- where FORWARD TSN is in use in the end, it was so whenever DATA was exchanged
  uses_before : (calls : List Call) (a : Shown) (h : History) (acts : List Act) → DoInOrder calls a h acts b k
      → exchanges_data a.state ≡ true → uses_forward_tsn a ≡ true
  uses_before calls a h acts run exchanges =
      let s =
      order_settles b k works (uses_forward_tsn a) calls a h acts run
      (record { over = inl (exchanging_begins_no_more a.state exchanges); uses = refl }) in
      sym s.uses ∙ uses

  order_spares : (calls : List Call) (a : Shown) (h : History) (acts : List Act) → DoInOrder calls a h acts b k
      → Binds a h
      → CanAll acts (parts a h) × AllSpare acts (parts a h)
  order_spares [] a h acts run binds =
      subst (λ (xs : List Act). CanAll xs (parts a h) × AllSpare xs (parts a h)) (sym run.0) (tt, tt)
  order_spares (call ∷ calls) a h acts (c, l, first, later, e, d, rest) binds =
      let one =
      does_lead call d.told a c h l first d.does (order_worked b k works calls c l later rest) binds
      (uses_before (call ∷ calls) a h acts (c, l, first, later, e, d, rest)) in
      let more = order_spares calls c l later rest one.binds in
      subst (λ (xs : List Act). CanAll xs (parts a h) × AllSpare xs (parts a h)) (sym e) (
        can_append first later (parts a h) one.can (subst (CanAll later) one.there more.0),
        spare_join first later (parts a h) one.spares (subst (AllSpare later) one.there more.1),
      )

-- nothing is in flight at first
fresh_stands : (n o : ℕ) (a : Shown) (h : History) → IsFresh a → StandsIn false n o 0 (parts a h)
fresh_stands n o a h fresh = stand_as refl (ap tallies fresh.unsent) (none_stand n o h.base)

module _ (calls : List Call) (a b : Shown) (h k : History) (acts before after : List Act) (act : Act) (o n : ℕ)
    (fresh : IsFresh a) (binds : Binds a h) (run : DoInOrder calls a h acts b k) (works : b.failed ≡ false)
    (uses : uses_forward_tsn b ≡ true) (small : n < 2 ^ 32 - 1) (e : acts ≡ before ++ act ∷ after)
    (under : GivesUnder n o act (done_all before (parts a h)))
  where
    times_are_few : times_given o acts (parts a h) ≤ n + 1
    times_are_few =
        let p : Parts = parts a h in
        let all = order_spares b k works uses calls a h acts run binds in
        let both : CanAll (before ++ act ∷ after) p × AllSpare (before ++ act ∷ after) p =
        subst (λ (xs : List Act). CanAll xs p × AllSpare xs p) e all in
        subst (λ (xs : List Act). times_given o xs p ≤ n + 1) (sym e)
        (spared_offsets_are_kept n o before after act p small both.0 both.1 (fresh_stands n o a h fresh) under)

pub retries_are_kept : RetriesAreKept
retries_are_kept = times_are_few
