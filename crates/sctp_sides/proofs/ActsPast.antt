-- Of which acts DATA, RE-CONFIG and FORWARD TSNs are made where resets concern streams past their span alone: behind
-- what they do otherwise they only end spans that were over before.
use Rattle.std.proofs.Common.{◌≡◌, refl, sym, ap, ◌∙◌, subst, ◌⊎◌, ⊎_elim, inl, inr, ℕ, Bool, true, false, eqb, not}
use Rattle.std.proofs.Common.{if◌then◌else◌, List, [], ◌∷◌, ◌++◌, Option, Some, None, is_some, Result, Ok, Err}
use Rattle.std.specs.List.{AllByRecursion}
use Rattle.std.proofs.lemmas.List.{append_assoc}
use Rattle.std.proofs.lemmas.Bool.{cond-true, eq-eqb}
use Rattle.sctp_wire_types.specs.declared.chunk.Chunk.TheVariants as chunks
use Rattle.sctp_wire_types.specs.declared.chunk.ChunkForwardTsn.{ChunkForwardTsn}
use Rattle.sctp_wire_types.specs.declared.chunk.ChunkIForwardTsn.{ChunkIForwardTsn}
use Rattle.sctp_wire_types.specs.declared.chunk.ChunkPayloadData.{ChunkPayloadData}
use Rattle.sctp_wire_types.specs.declared.chunk.ChunkReconfig.{ChunkReconfig}
use Rattle.sctp_wire_types.specs.declared.chunk.SkippedStream.{SkippedStream}
use Rattle.sctp_wire_types.specs.declared.error.Error.{Error}
use Rattle.sctp_wire_types.specs.declared.ids.PayloadProtocolIdentifier.TheVariants as kinds
use Rattle.sctp_wire_types.specs.declared.packet.CommonHeader.{CommonHeader}
use Rattle.sctp_wire_types.specs.declared.param.Param.{Param}
use Rattle.sctp_wire_types.specs.declared.param.Param.TheVariants as params
use Rattle.sctp_wire_types.specs.declared.param.ParamOutgoingResetRequest.{ParamOutgoingResetRequest}
use Rattle.sctp_wire_types.specs.declared.param.ParamReconfigResponse.{ParamReconfigResponse}
use Rattle.sctp_wire_types.specs.Checks.{checked_chunk}
use Rattle.sctp_model.proofs.Lists.{all_join}
use Rattle.sctp_streams.specs.Stream.{StreamView, fresh_stream}
use Rattle.sctp_streams.specs.Streams.{StreamMap, generation_left, is_readable_in, pushed_in, refusal_in, stream_at}
use Rattle.sctp_generations.specs.Generations.{has_retiring, has_skips}
use Rattle.sctp_inbound.specs.Receiver.{admits, is_new_to, taken_to}
use Rattle.sctp_resets.specs.Concerned.{in_reset, retiring_ids, skipped_ids}
use Rattle.sctp_resets.specs.Resets.{Beside, Resetting, handled, is_hidden, is_retiring, refusal_of, responded}
use Rattle.sctp_resets.specs.Resets.{skips_done_of}
use Rattle.sctp_resets.specs.Within.{AreOver, ParamOver, ResetsOver}
use Rattle.sctp_resets.specs.declared.answers.TimerChange.{TimerChange}
use Rattle.sctp_resets.specs.declared.performing.Handled.{Handled}
use Rattle.sctp_resets.proofs.KeptOver.{active_over, concerned_over, deferred_over, handled_over, hidden_is_over}
use Rattle.sctp_resets.proofs.KeptOver.{request_ids_over, responded_over, retiring_is_over, skip_over}
use Rattle.sctp_resets.proofs.KeptOver.{skips_done_of_over, unordered_over}
use Rattle.sctp_directions.specs.Acts.{Act, HasReadOpen}
use Rattle.sctp_assoc.specs.Chunks.{counted_data, deferred_unless, deferred_where_admitted, goes_unread}
use Rattle.sctp_assoc.specs.Chunks.{left_or_handed_over, taken_in, taken_unless, then_skips, told, with_message}
use Rattle.sctp_assoc.specs.Finding.{found_for, stream_found, with_new_stream}
use Rattle.sctp_assoc.specs.Happened.{acts_if_left, acts_of_checked, acts_of_finding, acts_of_forward}
use Rattle.sctp_assoc.specs.Happened.{acts_of_found, acts_of_hidden, acts_of_passing}
use Rattle.sctp_assoc.specs.Happened.{acts_of_skips_behind, acts_of_stream, acts_of_taking, acts_unless_faulty}
use Rattle.sctp_assoc.specs.Happened.{acts_unless_refused}
use Rattle.sctp_assoc.specs.ResetActs.{acts_of_keeping, acts_of_kept_skips, acts_of_param, acts_of_second}
use Rattle.sctp_assoc.specs.ResetActs.{acts_of_settling, spans_end_if}
use Rattle.sctp_assoc.specs.Resets.{after_param, asking_if, channels_of, handled_with, on_request, on_response}
use Rattle.sctp_assoc.specs.Resets.{responded_with, settled, settling_takes_memory, skips_applied_of, stopped_if}
use Rattle.sctp_assoc.specs.Resets.{with_beside, with_resetting}
use Rattle.sctp_assoc.specs.Shown.{Shown, all_waiting, uses_forward_tsn}
use Rattle.sctp_assoc.specs.Skipping.{is_ahead, skips_of, with_passed, with_skip, with_skips}
use Rattle.sctp_fit.proofs.StreamsThere.{at_made}
use Rattle.sctp_assoc.proofs.StreamsFound.{finding_opens, found_for_is}
use Rattle.sctp_assoc.proofs.UnreadData.{acts_where_read, made_is_read, unread_is_over}
use Rattle.sctp_sides.specs.PastSpan.{EndsPast, ParamIsPast, ParamIsPastIf, ResetsPast}
use Rattle.sctp_sides.specs.SideLaws.{DataOpensOrTakes, DefersOnly, ForwardsPassOver, IForwardsPassOver}
use Rattle.sctp_sides.specs.SideLaws.{IsOpened, IsPassingOver, IsTaking, ReconfigsEndPast, WithEndsBehind}
use Rattle.sctp_sides.proofs.ForwardKinds.{with_use}

-- The streams that are past their span.
module _ (over : ℕ → Bool) where
  -- every stream that resets of an association concern is
  abbrev IsOver : Shown → Type 0
  IsOver a = ResetsOver over a.resets

  abbrev EndPast : List Act → Type 0
  EndPast acts = AllByRecursion (EndsPast over) acts

  -- Ends of spans

  end_if : (c : Bool) (ids : List ℕ) (m : StreamMap) → AreOver over ids → EndPast (spans_end_if c ids m)
  end_if true ids m each = (each, tt)
  end_if false ids m each = tt

  settling_ends : (a : Shown) → IsOver a → EndPast (acts_of_settling a)
  settling_ends a h =
      end_if (settling_takes_memory a) (in_reset a.resets a.streams) (settled a).streams
      (concerned_over over a.resets a.streams h)

  kept_skips_end : (id : ℕ) (a : Shown) → IsOver a → EndPast (acts_of_kept_skips id a)
  kept_skips_end id a h =
      end_if (has_skips a.resets.generations) (skipped_ids a.resets.generations) (skips_applied_of id a).streams
      h.kept.skipped

  keeping_ends : (tsn : ℕ) (skips : List SkippedStream) (a : Shown) → IsOver a → EndPast (acts_of_keeping tsn skips a)
  keeping_ends tsn skips a h =
      end_if (has_retiring a.resets.generations) (retiring_ids a.resets.generations)
      (with_passed (with_skips tsn skips a) tsn).streams h.kept.retiring

  skips_behind_end : (x : Shown × Option Error) (id : ℕ) → IsOver x.0 → EndPast (acts_of_skips_behind x id)
  skips_behind_end (a, None) id h = kept_skips_end id a h
  skips_behind_end (a, Some fault) id h = tt

  unless_faulty_end : (x : Shown × Option Error) → IsOver x.0 → EndPast (acts_unless_faulty x)
  unless_faulty_end (a, None) h = settling_ends a h
  unless_faulty_end (a, Some fault) h = tt

  -- nothing was done
  none_behind : (P : List Act → Type 0) → P [] → WithEndsBehind over P []
  none_behind P none = record { front = []; front_are = none; behind = []; behind_are = tt; are = refl }

  -- nothing was done but such ends
  ends_alone : (P : List Act → Type 0) (acts : List Act) → P [] → EndPast acts → WithEndsBehind over P acts
  ends_alone P acts none each = record { front = []; front_are = none; behind = acts; behind_are = each; are = refl }

  -- more acts go in front of what was done
  with_front : (P Q : List Act → Type 0) (before acts : List Act)
      → ((front : List Act) → P front → Q (before ++ front)) → WithEndsBehind over P acts
      → WithEndsBehind over Q (before ++ acts)
  with_front P Q before acts step w = record {
    front = before ++ w.front;
    front_are = step w.front w.front_are;
    behind = w.behind;
    behind_are = w.behind_are;
    are = ap (λ (z : List Act). before ++ z) w.are ∙ sym (append_assoc before w.front w.behind);
  }

  -- DATA that is taken in leaves resets as they were, and skips that are applied begin none

  told_is_over : (readable kept : Bool) (a : Shown) (id : ℕ) → is_readable_in a.streams id ≡ readable → IsOver a
      → IsOver (told a id kept)
  told_is_over true true a id e h = rw e h
  told_is_over false true a id e h = rw e h
  told_is_over readable false a id e h = h

  message_is_over : (a : Shown) (piece : ChunkPayloadData) (x : StreamMap × Bool) → IsOver a
      → IsOver (with_message a piece x)
  message_is_over a piece (streams, kept) h =
      told_is_over (is_readable_in streams piece.stream_identifier) kept
      (record a { streams = streams; receiver = taken_to a.receiver piece.tsn }) piece.stream_identifier refl h

  taken_unless_is_over : (refusal : Option Error) (a : Shown) (piece : ChunkPayloadData) → IsOver a
      → IsOver (taken_unless refusal a piece).0
  taken_unless_is_over (Some fault) a piece h = h
  taken_unless_is_over None a piece h =
      message_is_over a piece (pushed_in a.streams piece.stream_identifier piece) h

  left_is_over : (left : Bool) (a : Shown) (piece : ChunkPayloadData) → IsOver a
      → IsOver (left_or_handed_over left a piece).0
  left_is_over true a piece h = h
  left_is_over false a piece h =
      taken_unless_is_over
      (refusal_in a.streams piece.stream_identifier piece a.receiver.max_receive_message_size) a piece h

  taken_is_over : (a : Shown) (piece : ChunkPayloadData) → IsOver a → IsOver (taken_in a piece).0
  unfolding taken_in
  taken_is_over a piece h = left_is_over (goes_unread a piece) a piece h

  beside_is_over : (a : Shown) (x : Beside) → ResetsOver over x.0 → IsOver (with_beside a x)
  beside_is_over a (r, m, queued) h = h

  then_skips_is_over : (x : Shown × Option Error) (id : ℕ) → IsOver x.0 → IsOver (then_skips x id).0
  then_skips_is_over (a, None) id h =
      beside_is_over a (skips_done_of id a.resets a.streams a.events)
      (skips_done_of_over over id a.resets a.streams a.events h)
  then_skips_is_over (a, Some fault) id h = h

  -- DATA that comes to its stream

  -- it goes to its stream, or is refused or not admitted
  abbrev TakesOrNot : ChunkPayloadData → List Act → Type 0
  TakesOrNot piece acts = (acts ≡ []) ⊎ (acts ≡ Act.Took piece ∷ [])

  -- or nobody reads that stream, which is past its span
  abbrev TakesOrLeaves : ChunkPayloadData → List Act → Type 0
  TakesOrLeaves piece acts = TakesOrNot piece acts ⊎ DefersOnly over piece acts

  takes_or_not : (refusal : Option Error) (piece : ChunkPayloadData)
      → TakesOrNot piece (acts_unless_refused refusal (Act.Took piece))
  takes_or_not None piece = inr refl
  takes_or_not (Some fault) piece = inl refl

  takes_or_leaves : (left : Bool) (a : Shown) (piece : ChunkPayloadData)
      → (left ≡ true → over piece.stream_identifier ≡ true) → TakesOrLeaves piece (acts_if_left left a piece)
  takes_or_leaves true a piece past = inr (record { past = past refl; are = refl })
  takes_or_leaves false a piece past =
      inl (takes_or_not (refusal_in a.streams piece.stream_identifier piece a.receiver.max_receive_message_size) piece)

  -- what is read goes to its stream
  read_takes : (a : Shown) (piece : ChunkPayloadData) → goes_unread a piece ≡ false
      → TakesOrNot piece (acts_of_taking a piece)
  read_takes a piece read =
      subst (TakesOrNot piece) (sym (acts_where_read a piece read))
      (takes_or_not (refusal_in a.streams piece.stream_identifier piece a.receiver.max_receive_message_size) piece)

  found_if : (P : List Act → Type 0) (credit : Bool) (a : Shown) (piece : ChunkPayloadData) → P []
      → P (acts_of_taking a piece) → IsOver a
      → WithEndsBehind over P
      ((if credit then
      acts_of_taking a piece ++ acts_of_skips_behind (taken_in a piece) piece.stream_identifier else [])
      ++ acts_unless_faulty (if credit then then_skips (taken_in a piece) piece.stream_identifier else (a, None)))
  found_if P true a piece none taking h =
      let id = piece.stream_identifier in
      let x : Shown × Option Error = taken_in a piece in
      let h_taken : IsOver (taken_in a piece).0 = taken_is_over a piece h in
      record {
        front = acts_of_taking a piece;
        front_are = taking;
        behind = acts_of_skips_behind x id ++ acts_unless_faulty (then_skips x id);
        behind_are =
            all_join (EndsPast over) (acts_of_skips_behind x id) (acts_unless_faulty (then_skips x id))
            (skips_behind_end x id h_taken) (unless_faulty_end (then_skips x id) (then_skips_is_over x id h_taken));
        are =
            append_assoc (acts_of_taking a piece) (acts_of_skips_behind x id) (acts_unless_faulty (then_skips x id));
      }
  found_if P false a piece none taking h = ends_alone P (acts_of_settling a) none (settling_ends a h)

  found_acts : (P : List Act → Type 0) (a : Shown) (piece : ChunkPayloadData) → P [] → P (acts_of_taking a piece)
      → IsOver a → WithEndsBehind over P (acts_of_found (a, true) piece)
  found_acts P a piece none taking h = found_if P (admits a.receiver piece.tsn (all_waiting a)) a piece none taking h

  -- all streams can be read that are within their span
  abbrev AreReadWithin : Shown → Type 0
  AreReadWithin a = (s : ℕ) → over s ≡ false → HasReadOpen a.streams s

  stream_acts : (o : Option StreamView) (left : Bool) (a : Shown) (piece : ChunkPayloadData) → IsOver a
      → AreReadWithin a
      → stream_at a.streams piece.stream_identifier ≡ o → generation_left a.streams ≡ left
      → WithEndsBehind over (IsTaking over a piece) (acts_of_stream a piece.stream_identifier
      ++ acts_of_found (stream_found (counted_data a) piece.stream_identifier) piece)
  unfolding stream_found
  stream_acts (Some t) left a piece h reads e f =
      let there : is_some (stream_at a.streams piece.stream_identifier) ≡ true = ap is_some e in
      let taking : TakesOrLeaves piece (acts_of_taking (counted_data a) piece) =
      takes_or_leaves (goes_unread a piece) (counted_data a) piece
      (λ (unread : goes_unread a piece ≡ true). unread_is_over over a piece reads unread) in
      rw there (with_front (TakesOrLeaves piece) (IsTaking over a piece) []
      (acts_of_found (counted_data a, true) piece)
      (λ (front : List Act). ⊎_elim
      (λ (takes : TakesOrNot piece front). ⊎_elim (λ (n : front ≡ []). inl n)
      (λ (n : front ≡ Act.Took piece ∷ []). inr (inr (inr (inl (record { stream = t; live = e; are = n }))))) takes)
      (λ (leaves : DefersOnly over piece front). inr (inr (inr (inr leaves)))))
      (found_acts (TakesOrLeaves piece) (counted_data a) piece (inl (inl refl)) taking h))
  stream_acts None false a piece h reads e f =
      let there : is_some (stream_at a.streams piece.stream_identifier) ≡ false = ap is_some e in
      rw (there, f) (none_behind (IsTaking over a piece) (inl refl))
  stream_acts None true a piece h reads e f =
      let there : is_some (stream_at a.streams piece.stream_identifier) ≡ false = ap is_some e in
      let id = piece.stream_identifier in
      let b : Shown = with_new_stream (counted_data a) id in
      let number = a.sender.queue.next_message_id in
      let act = Act.Opened id number kinds.Unknown in
      let made_at = at_made a.streams id number id kinds.Unknown e ∙ cond-true (eqb id id) _ _ (eq-eqb id id refl) in
      let read : goes_unread b piece ≡ false = made_is_read a.profile a.streams id number kinds.Unknown e in
      rw (there, f) (with_front (TakesOrNot piece) (IsTaking over a piece) (act ∷ []) (acts_of_found (b, true) piece)
      (λ (front : List Act). ⊎_elim
      (λ (n : front ≡ []).
      inr (inl (record { first = number; kind = kinds.Unknown; none = e; are = ap (λ z. act ∷ z) n })))
      (λ (n : front ≡ Act.Took piece ∷ []). inr (inr (inl (record {
        first = number;
        kind = kinds.Unknown;
        stream = fresh_stream id a.streams.next_generation number kinds.Unknown;
        none = e;
        live = made_at;
        are = ap (λ z. act ∷ z) n;
      })))))
      (found_acts (TakesOrNot piece) b piece (inl refl) (read_takes b piece read) h))

  -- DATA of a generation that is not read yet

  hidden_if : (credit : Bool) (refusal : Option Error) (a b : Shown) (piece : ChunkPayloadData)
      → over piece.stream_identifier ≡ true → IsOver b
      → WithEndsBehind over (IsTaking over a piece)
      ((if credit then acts_unless_refused refusal (Act.Deferred piece) else [])
      ++ acts_unless_faulty (if credit then deferred_unless refusal b piece else (b, None)))
  hidden_if true None a b piece past h =
      let c : Shown = (deferred_unless None b piece).0 in
      record {
        front = Act.Deferred piece ∷ [];
        front_are = inr (inr (inr (inr (record { past = past; are = refl }))));
        behind = acts_of_settling c;
        behind_are = settling_ends c (deferred_over over b.resets piece past h);
        are = refl;
      }
  hidden_if true (Some fault) a b piece past h =
      none_behind (IsTaking over a piece) (inl refl)
  hidden_if false refusal a b piece past h =
      ends_alone (IsTaking over a piece) (acts_of_settling b) (inl refl) (settling_ends b h)

  hidden_acts : (a b : Shown) (piece : ChunkPayloadData) → over piece.stream_identifier ≡ true → IsOver b
      → WithEndsBehind over (IsTaking over a piece) (acts_of_hidden b piece)
  unfolding deferred_where_admitted
  hidden_acts a b piece past h =
      hidden_if (admits b.receiver piece.tsn (all_waiting b))
      (refusal_of b.resets piece b.receiver.max_receive_message_size) a b piece past h

  -- DATA

  next_acts : (next hidden : Bool) (a : Shown) (piece : ChunkPayloadData) → IsOver a → AreReadWithin a
      → is_hidden a.resets piece.stream_identifier piece.tsn ≡ hidden
      → WithEndsBehind over (IsTaking over a piece) (if not next then acts_of_settling (counted_data a) else
      if hidden then acts_of_hidden (counted_data a) piece else
      acts_of_stream a piece.stream_identifier
      ++ acts_of_found (stream_found (counted_data a) piece.stream_identifier) piece)
  next_acts false hidden a piece h reads e =
      ends_alone (IsTaking over a piece) (acts_of_settling (counted_data a)) (inl refl)
      (settling_ends (counted_data a) h)
  next_acts true true a piece h reads e =
      hidden_acts a (counted_data a) piece (hidden_is_over over a.resets piece.stream_identifier piece.tsn h e) h
  next_acts true false a piece h reads e =
      stream_acts (stream_at a.streams piece.stream_identifier) (generation_left a.streams) a piece h reads refl refl

  checked_acts : (r : Result (Unit {0}) Error) (a : Shown) (header : CommonHeader) (piece : ChunkPayloadData)
      → IsOver a → AreReadWithin a
      → WithEndsBehind over (IsTaking over a piece) (acts_of_checked r a header (chunks.Data piece))
  checked_acts (Err fault) a header piece h reads =
      none_behind (IsTaking over a piece) (inl refl)
  checked_acts (Ok done) a header piece h reads =
      next_acts (is_new_to a.receiver piece.tsn) (is_hidden a.resets piece.stream_identifier piece.tsn) a piece h reads
      refl

  -- RE-CONFIG

  resetting_is_over : (a : Shown) (s : Resetting) → ResetsOver over s.0 → IsOver (with_resetting a s)
  resetting_is_over a (r, c) h = h

  stopped_is_over : (confirms : Bool) (a : Shown) → IsOver a → IsOver (stopped_if confirms a)
  stopped_is_over true a h = h
  stopped_is_over false a h = h

  asking_is_over : (asks : Bool) (a : Shown) → IsOver a → IsOver (asking_if asks a)
  asking_is_over true a h = h
  asking_is_over false a h = h

  handled_with_is_over : (a : Shown) (number : ℕ) (x : Resetting × Handled) → ResetsOver over x.0.0
      → IsOver (handled_with a number x)
  handled_with_is_over a number (s, answers) h =
      asking_is_over answers.asks (stopped_if answers.confirms (with_resetting a s))
      (stopped_is_over answers.confirms (with_resetting a s) (resetting_is_over a s h))

  request_is_over : (a : Shown) (request : ParamOutgoingResetRequest) → IsOver a → ParamOver over request
      → IsOver (on_request a request)
  unfolding on_request
  request_is_over a request h past =
      let last = a.receiver.peer_last_tsn in
      let number = a.sender.queue.next_message_id in
      let limit = a.receiver.max_receive_message_size in
      handled_with_is_over a request.reconfig_request_sequence_number
      (handled request last number limit a.resets (channels_of a))
      (handled_over over request last number limit a.resets (channels_of a) h past)

  responded_with_is_over : (a : Shown) (x : Beside × TimerChange) → ResetsOver over x.0.0
      → IsOver (responded_with a x)
  responded_with_is_over a ((r, m, queued), change) h = h

  response_is_over : (a : Shown) (response : ParamReconfigResponse) → IsOver a → IsOver (on_response a response)
  unfolding on_response
  response_is_over a response h =
      responded_with_is_over a (responded response a.resets a.streams a.events)
      (responded_over over response a.resets a.streams a.events h)

  param_is_over : (param : Param) (a : Shown) → IsOver a → ParamIsPast over param → IsOver (after_param param a).0
  param_is_over (params.OutgoingResetRequest request) a h past = request_is_over a request h past
  param_is_over (params.ReconfigResponse response) a h past = response_is_over a response h
  param_is_over param a h past = h

  param_ends : (param : Param) (a : Shown) → IsOver a → ParamIsPast over param → EndPast (acts_of_param a param)
  param_ends (params.OutgoingResetRequest request) a h past =
      (request_ids_over over request a.resets a.streams h past, tt)
  param_ends (params.ReconfigResponse response) a h past = (active_over over a.resets h, tt)
  param_ends param a h past = tt

  second_ends : (x : Shown × Bool) (second : Option Param) → IsOver x.0 → ParamIsPastIf over second
      → EndPast (acts_of_second x second)
  second_ends (a, true) (Some param) h past = param_ends param a h past
  second_ends (a, true) None h past = tt
  second_ends (a, false) second h past = tt

  checked_reconfig : (r : Result (Unit {0}) Error) (a : Shown) (header : CommonHeader) (reconfig : ChunkReconfig)
      → IsOver a → ResetsPast over (chunks.Reconfig reconfig)
      → EndPast (acts_of_checked r a header (chunks.Reconfig reconfig))
  checked_reconfig (Err fault) a header reconfig h past = tt
  checked_reconfig (Ok done) a header reconfig h past =
      let x : Shown × Bool = after_param reconfig.first a in
      all_join (EndsPast over) (acts_of_param a reconfig.first) (acts_of_second x reconfig.second)
      (param_ends reconfig.first a h past.0)
      (second_ends x reconfig.second (param_is_over reconfig.first a h past.0) past.1)

  -- FORWARD TSN

  skip_is_over_if : (retires : Bool) (tsn id ssn : ℕ) (a : Shown) → is_retiring a.resets id ≡ retires → IsOver a
      → IsOver (with_skip tsn id ssn a)
  unfolding with_skip
  skip_is_over_if true tsn id ssn a e h =
      rw e (skip_over over a.resets id ssn tsn (retiring_is_over over a.resets id h e) h)
  skip_is_over_if false tsn id ssn a e h = rw e h

  skips_are_over : (tsn : ℕ) (skips : List SkippedStream) (a : Shown) → IsOver a → IsOver (with_skips tsn skips a)
  skips_are_over tsn [] a h = h
  skips_are_over tsn (e ∷ es) a h =
      skips_are_over tsn es (with_skip tsn e.stream_identifier e.stream_sequence_number a)
      (skip_is_over_if (is_retiring a.resets e.stream_identifier) tsn e.stream_identifier e.stream_sequence_number a
      refl h)

  -- the streams on which it skips are found or made before, which leaves resets as they were
  all_found_is_over : (tsn : ℕ) (skips : List SkippedStream) (a : Shown) → IsOver a → IsOver (found_for tsn skips a)
  all_found_is_over tsn skips a h =
      subst (ResetsOver over) (sym (ap (λ (z : Shown). z.resets) (found_for_is tsn skips a))) h

  -- what it says is passed over, and no stream is opened before
  abbrev PassesAlone : ℕ → List SkippedStream → List Act → Type 0
  PassesAlone tsn skips acts = acts ≡ Act.PassedOver tsn skips ∷ []

  passing_acts : (a : Shown) (tsn : ℕ) (skips : List SkippedStream) → IsOver a
      → WithEndsBehind over (PassesAlone tsn skips) (acts_of_passing a tsn skips)
  passing_acts a tsn skips h =
      let b : Shown = with_skips tsn skips a in
      let c : Shown = with_passed b tsn in
      record {
        front = Act.PassedOver tsn skips ∷ [];
        front_are = refl;
        behind = acts_of_keeping tsn skips a ++ acts_of_settling c;
        behind_are =
            all_join (EndsPast over) (acts_of_keeping tsn skips a) (acts_of_settling c) (keeping_ends tsn skips a h)
            (settling_ends c (unordered_over over b.resets tsn (skips_are_over tsn skips a h)));
        are = refl;
      }

  acts_by_use : (uses ahead : Bool) (a : Shown) (tsn : ℕ) (skips : List SkippedStream) → is_ahead a tsn ≡ ahead
      → IsOver (with_use uses a)
      → WithEndsBehind over (IsPassingOver tsn skips) (acts_of_forward (with_use uses a) tsn skips)
  acts_by_use false ahead a tsn skips e h = none_behind (IsPassingOver tsn skips) (inl refl)
  acts_by_use true false a tsn skips e h = rw e (none_behind (IsPassingOver tsn skips) (inl refl))
  acts_by_use true true a tsn skips e h =
      let used : Shown = with_use true a in
      let b : Shown = found_for tsn skips used in
      let before : List Act = acts_of_finding tsn skips used in
      rw e (with_front (PassesAlone tsn skips) (IsPassingOver tsn skips) before (acts_of_passing b tsn skips)
      (λ (front : List Act) (e : front ≡ Act.PassedOver tsn skips ∷ []). inr (record {
        opened = before;
        opened_are = finding_opens IsOpened (λ id first. tt) tsn skips used;
        are = ap (λ (z : List Act). before ++ z) e;
      }))
      (passing_acts b tsn skips (all_found_is_over tsn skips used h)))

  forward_acts : (a : Shown) (tsn : ℕ) (skips : List SkippedStream) → IsOver a
      → WithEndsBehind over (IsPassingOver tsn skips) (acts_of_forward a tsn skips)
  forward_acts a tsn skips h = acts_by_use (uses_forward_tsn a) (is_ahead a tsn) a tsn skips refl h

  checked_forward : (r : Result (Unit {0}) Error) (a : Shown) (header : CommonHeader) (x : ChunkForwardTsn) → IsOver a
      → WithEndsBehind over (IsPassingOver x.new_cumulative_tsn x.streams)
      (acts_of_checked r a header (chunks.ForwardTsn x))
  checked_forward (Err fault) a header x h =
      none_behind (IsPassingOver x.new_cumulative_tsn x.streams) (inl refl)
  checked_forward (Ok done) a header x h = forward_acts a x.new_cumulative_tsn x.streams h

  checked_i_forward : (r : Result (Unit {0}) Error) (a : Shown) (header : CommonHeader) (x : ChunkIForwardTsn)
      → IsOver a
      → WithEndsBehind over (IsPassingOver x.new_cumulative_tsn (skips_of x.entries))
      (acts_of_checked r a header (chunks.IForwardTsn x))
  checked_i_forward (Err fault) a header x h =
      none_behind (IsPassingOver x.new_cumulative_tsn (skips_of x.entries)) (inl refl)
  checked_i_forward (Ok done) a header x h = forward_acts a x.new_cumulative_tsn (skips_of x.entries) h

pub data_opens_or_takes : DataOpensOrTakes
data_opens_or_takes over a header piece h reads =
    checked_acts over (checked_chunk (chunks.Data piece)) a header piece h reads

pub reconfigs_end_past : ReconfigsEndPast
reconfigs_end_past over a header reconfig h past =
    checked_reconfig over (checked_chunk (chunks.Reconfig reconfig)) a header reconfig h past

pub forwards_pass_over : ForwardsPassOver
forwards_pass_over over a header x h = checked_forward over (checked_chunk (chunks.ForwardTsn x)) a header x h

pub i_forwards_pass_over : IForwardsPassOver
i_forwards_pass_over over a header x h = checked_i_forward over (checked_chunk (chunks.IForwardTsn x)) a header x h
