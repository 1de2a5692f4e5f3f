-- Nothing but DATA that may be is taken in or kept apart.
use Rattle.std.proofs.Common.{◌≡◌, refl, sym, ap, ◌∙◌, subst, ◌⊎◌, ⊎_elim, inl, inr, ℕ, zero, suc, Bool, true, false}
use Rattle.std.proofs.Common.{if◌then◌else◌, List, [], ◌∷◌, ◌++◌, Option, Some, None, is_some, Result, Ok, Err}
use Rattle.std.specs.Prelude.{slice_get, ⊤}
use Rattle.std.specs.List.{AllByRecursion}
use Rattle.std.proofs.lemmas.Bool.{false≢true}
use Rattle.sctp_wire_types.specs.declared.chunk.Chunk.{Chunk}
use Rattle.sctp_wire_types.specs.declared.chunk.Chunk.TheVariants as chunks
use Rattle.sctp_wire_types.specs.declared.chunk.ChunkPayloadData.{ChunkPayloadData}
use Rattle.sctp_wire_types.specs.declared.chunk.ChunkReconfig.{ChunkReconfig}
use Rattle.sctp_wire_types.specs.declared.chunk.GapAckBlock.{GapAckBlock}
use Rattle.sctp_wire_types.specs.declared.error.Error.{Error}
use Rattle.sctp_wire_types.specs.declared.packet.CommonHeader.{CommonHeader}
use Rattle.sctp_wire_types.specs.declared.param.Param.{Param}
use Rattle.sctp_wire_types.specs.declared.param.Param.TheVariants as params
use Rattle.sctp_wire_types.specs.Checks.{checked_chunk}
use Rattle.sctp_wire_types.specs.declared.ids.PayloadProtocolIdentifier.TheVariants as kinds
use Rattle.sctp_streams.specs.Streams.{generation_left, stream_at}
use Rattle.sctp_inbound.specs.Handshake.{comes_back}
use Rattle.sctp_outbound_queue.specs.declared.message.Reports.{Reports}
use Rattle.sctp_outbound.specs.declared.sender.SackOutcome.{SackOutcome}
use Rattle.sctp_outbound.specs.declared.sender.SackOutcome.TheVariants as outcomes
use Rattle.sctp_generations.specs.Generations.{has_retiring}
use Rattle.sctp_resets.specs.Concerned.{retiring_ids}
use Rattle.sctp_directions.specs.Acts.{Act, History}
use Rattle.sctp_model.proofs.Lists.{all_get, all_join, all_weaker}
use Rattle.sctp_assoc.specs.Calls.{is_beginning, is_cookie_wait, sends_data}
use Rattle.sctp_assoc.specs.Chunks.{goes_unread}
use Rattle.sctp_assoc.specs.Happened.{acts_of_checked, acts_of_chunk, acts_of_data, acts_of_finding, acts_of_forward}
use Rattle.sctp_assoc.specs.Happened.{acts_of_kind, acts_of_outcome, marks_if}
use Rattle.sctp_assoc.specs.Handshake.{keeps_peer}
use Rattle.sctp_assoc.specs.Leads.{Binds}
use Rattle.sctp_assoc.specs.Probes.{is_probing, opens_window}
use Rattle.sctp_assoc.specs.ResetActs.{acts_of_keeping, acts_of_param, acts_of_reconfig, acts_of_second}
use Rattle.sctp_assoc.specs.ResetActs.{acts_of_settling}
use Rattle.sctp_assoc.specs.Resets.{after_param}
use Rattle.sctp_assoc.specs.Shown.{Shown}
use Rattle.sctp_assoc.specs.Skipping.{skips_of, with_passed, with_skips}
use Rattle.sctp_assoc.proofs.HandshakeFacts.{known_all}
use Rattle.sctp_assoc.proofs.StreamsFound.{finding_opens}
use Rattle.sctp_sides.specs.Intake.{IsEndOfSpans, NothingElseIsKeptApart, NothingElseIsTakenIn, WasToBeKeptApart}
use Rattle.sctp_sides.specs.Intake.{WasToBeLeft, WasToBeTakenIn, is_for_later, later_refusal_of, refusal_of}
use Rattle.sctp_wire_types.specs.declared.chunk.SkippedStream.{SkippedStream}
use Rattle.sctp_sides.proofs.DataIntake.{PassesLater, PassesTests, data_acts, decided_acts, first_acts, has_room}
use Rattle.sctp_sides.proofs.DataIntake.{is_found, is_new, kept_acts, passes_may, passes_may_later, settling_ends_spans}
use Rattle.sctp_sides.proofs.DataIntake.{spans_end}
use Rattle.sctp_sides.proofs.ForwardKinds.{acts_are_one_of}

-- Nothing else is taken in

-- what an act took in, or kept apart
abbrev taken_by : ChunkPayloadData → Option Act → ChunkPayloadData
taken_by other (Some (Act.Took piece)) = piece
taken_by other (Some (Act.Deferred piece)) = piece
taken_by other act = other

-- an act that takes no DATA in
abbrev pub IsNoIntake : Act → Type 0
IsNoIntake (Act.Took piece) = ⊥
IsNoIntake (Act.Deferred piece) = ⊥
IsNoIntake act = ⊤

ends_take_nothing : (act : Act) → IsEndOfSpans act → IsNoIntake act
ends_take_nothing (Act.SpansEnded ids m) e = tt
ends_take_nothing act e = absurd e

ends_are_no_intake : (acts : List Act) → AllByRecursion IsEndOfSpans acts → AllByRecursion IsNoIntake acts
ends_are_no_intake acts e = all_weaker IsEndOfSpans IsNoIntake acts ends_take_nothing e

abbrev IsNoIntakeAt : Option Act → Type 0
IsNoIntakeAt None = ⊤
IsNoIntakeAt (Some act) = IsNoIntake act

-- which act stands there, of several of which one alone takes DATA in
abbrev is_took : Option Act → Bool
is_took (Some (Act.Took piece)) = true
is_took act = false

abbrev is_deferred : Option Act → Bool
is_deferred (Some (Act.Deferred piece)) = true
is_deferred act = false

-- DATA is taken in by one of the first acts, where the others end spans
module _ (x : Act) (takes : IsNoIntake x → ⊥) where
  found_first : (first others : List Act) (index : ℕ) → AllByRecursion IsNoIntake others
      → slice_get (first ++ others) index ≡ Some x → (k : ℕ) × (slice_get first k ≡ Some x)
  found_first [] others index none e = absurd (takes (all_get IsNoIntake others index x e none))
  found_first (y ∷ ys) others zero none e = (0, e)
  found_first (y ∷ ys) others (suc index) none e =
      let more = found_first ys others index none e in (suc more.0, more.1)

  none_found : (acts : List Act) (index : ℕ) → AllByRecursion IsNoIntake acts → slice_get acts index ≡ Some x → ⊥
  none_found acts index none e = takes (all_get IsNoIntake acts index x e none)

-- the tests that were passed where this DATA was taken in
record PassedAll (there fits : Bool) (o : Option Error) (piece came : ChunkPayloadData) : Type 0 where
  found : there ≡ true
  room : fits ≡ true
  unrefused : o ≡ None
  same : came ≡ piece

nothing_at : (x : Act) → None ≡ Some x → ⊥
nothing_at x e = false≢true (ap is_some e)

passed_all : (found room left : Bool) (o : Option Error) (piece came : ChunkPayloadData) (index : ℕ)
    → slice_get (decided_acts found room left o piece) index ≡ Some (Act.Took came)
    → PassedAll found room o piece came × (left ≡ false)
passed_all false room left o piece came index e = absurd (nothing_at (Act.Took came) e)
passed_all true false left o piece came index e = absurd (nothing_at (Act.Took came) e)
passed_all true true true o piece came zero e = absurd (false≢true (ap is_took e))
passed_all true true true o piece came (suc index) e = absurd (nothing_at (Act.Took came) e)
passed_all true true false (Some error) piece came index e = absurd (nothing_at (Act.Took came) e)
passed_all true true false None piece came zero e =
    (record { found = refl; room = refl; unrefused = refl; same = sym (ap (taken_by piece) e) }, refl)
passed_all true true false None piece came (suc index) e = absurd (nothing_at (Act.Took came) e)

-- the tests that were passed where this DATA was left unread
record LeftUnread (there fits left : Bool) (piece came : ChunkPayloadData) : Type 0 where
  found : there ≡ true
  room : fits ≡ true
  unread : left ≡ true
  same : came ≡ piece

left_unread : (found room left : Bool) (o : Option Error) (piece came : ChunkPayloadData) (index : ℕ)
    → slice_get (decided_acts found room left o piece) index ≡ Some (Act.Deferred came)
    → LeftUnread found room left piece came
left_unread false room left o piece came index e = absurd (nothing_at (Act.Deferred came) e)
left_unread true false left o piece came index e = absurd (nothing_at (Act.Deferred came) e)
left_unread true true true o piece came zero e =
    record { found = refl; room = refl; unread = refl; same = sym (ap (taken_by piece) e) }
left_unread true true true o piece came (suc index) e = absurd (nothing_at (Act.Deferred came) e)
left_unread true true false (Some error) piece came index e = absurd (nothing_at (Act.Deferred came) e)
left_unread true true false None piece came zero e = absurd (false≢true (ap is_deferred e))
left_unread true true false None piece came (suc index) e = absurd (nothing_at (Act.Deferred came) e)

kept_all : (room : Bool) (o : Option Error) (piece came : ChunkPayloadData) (index : ℕ)
    → slice_get (kept_acts room o piece) index ≡ Some (Act.Deferred came)
    → PassedAll true room o piece came
kept_all false o piece came index e = absurd (nothing_at (Act.Deferred came) e)
kept_all true (Some error) piece came index e = absurd (nothing_at (Act.Deferred came) e)
kept_all true None piece came zero e =
    record { found = refl; room = refl; unrefused = refl; same = sym (ap (taken_by piece) e) }
kept_all true None piece came (suc index) e = absurd (nothing_at (Act.Deferred came) e)

-- none of these takes DATA in by its stream
not_kept : (room : Bool) (o : Option Error) (piece came : ChunkPayloadData) (index : ℕ)
    → slice_get (kept_acts room o piece) index ≡ Some (Act.Took came) → ⊥
not_kept false o piece came index e = nothing_at (Act.Took came) e
not_kept true (Some error) piece came index e = nothing_at (Act.Took came) e
not_kept true None piece came zero e = false≢true (ap is_took e)
not_kept true None piece came (suc index) e = nothing_at (Act.Took came) e

-- the stream is made first
behind_opened : (there left : Bool) (id first : ℕ) (acts : List Act) (index : ℕ) (x : Act) → (IsNoIntake x → ⊥)
    → slice_get ((if there then [] else if left then Act.Opened id first kinds.Unknown ∷ [] else []) ++ acts) index
    ≡ Some x
    → (k : ℕ) × (slice_get acts k ≡ Some x)
behind_opened true left id first acts index x takes e = (index, e)
behind_opened false false id first acts index x takes e = (index, e)
behind_opened false true id first acts zero x takes e =
    absurd (takes (subst (λ (o : Option Act). IsNoIntakeAt o) e tt))
behind_opened false true id first acts (suc index) x takes e = (index, e)

took_takes : (piece : ChunkPayloadData) → IsNoIntake (Act.Took piece) → ⊥
took_takes piece n = n

deferred_takes : (piece : ChunkPayloadData) → IsNoIntake (Act.Deferred piece) → ⊥
deferred_takes piece n = n

module _ (a : Shown) (piece came : ChunkPayloadData) (index : ℕ) where
  -- DATA was taken in by its stream where it passed the tests
  passed_data : (next later : Bool) → is_new a piece ≡ next → is_for_later a piece ≡ later
      → slice_get (first_acts next later a piece) index ≡ Some (Act.Took came)
      → PassesTests a piece × (refusal_of a piece ≡ None) × (came ≡ piece) × (goes_unread a piece ≡ false)
  passed_data false later n l e = absurd (nothing_at (Act.Took came) e)
  passed_data true true n l e =
      absurd (not_kept (has_room a piece) (later_refusal_of a piece) piece came index e)
  passed_data true false n l e =
      let behind = behind_opened (is_some (stream_at a.streams piece.stream_identifier)) (generation_left a.streams)
      piece.stream_identifier a.sender.queue.next_message_id
      (decided_acts (is_found a piece) (has_room a piece) (goes_unread a piece) (refusal_of a piece) piece) index
      (Act.Took came) (took_takes came) e in
      let passed =
      passed_all (is_found a piece) (has_room a piece) (goes_unread a piece) (refusal_of a piece) piece came behind.0
      behind.1 in
      let p = passed.0 in
      (record { new = n; read_now = l; found = p.found; room = p.room }, p.unrefused, p.same, passed.1)

  -- and it did not go to its stream where it passed those of DATA that is kept apart, or nobody reads its stream
  kept_data : (next later : Bool) → is_new a piece ≡ next → is_for_later a piece ≡ later
      → slice_get (first_acts next later a piece) index ≡ Some (Act.Deferred came)
      → (PassesLater a piece × (later_refusal_of a piece ≡ None) × (came ≡ piece))
      ⊎ (PassesTests a piece × (goes_unread a piece ≡ true) × (came ≡ piece))
  kept_data false later n l e = absurd (nothing_at (Act.Deferred came) e)
  kept_data true true n l e =
      let p = kept_all (has_room a piece) (later_refusal_of a piece) piece came index e in
      inl (record { new = n; read_later = l; room = p.room }, p.unrefused, p.same)
  kept_data true false n l e =
      let behind = behind_opened (is_some (stream_at a.streams piece.stream_identifier)) (generation_left a.streams)
      piece.stream_identifier a.sender.queue.next_message_id
      (decided_acts (is_found a piece) (has_room a piece) (goes_unread a piece) (refusal_of a piece) piece) index
      (Act.Deferred came) (deferred_takes came) e in
      let p =
      left_unread (is_found a piece) (has_room a piece) (goes_unread a piece) (refusal_of a piece) piece came behind.0
      behind.1 in
      inr (record { new = n; read_now = l; found = p.found; room = p.room }, p.unread, p.same)

data_was : (a : Shown) (h : History) (piece came : ChunkPayloadData) (index : ℕ) → Binds a h
    → slice_get (acts_of_data a piece) index ≡ Some (Act.Took came) → WasToBeTakenIn a h (chunks.Data piece) came
data_was a h piece came index binds e =
    let acts = data_acts a piece in
    let first = first_acts (is_new a piece) (is_for_later a piece) a piece in
    let there = found_first (Act.Took came) (took_takes came) first acts.others index
    (ends_are_no_intake acts.others acts.ends)
    (ap (λ (zs : List Act). slice_get zs index) (sym acts.are) ∙ e) in
    let p = passed_data a piece came there.0 (is_new a piece) (is_for_later a piece) refl refl there.1 in
    subst (λ (z : ChunkPayloadData). WasToBeTakenIn a h (chunks.Data piece) z) (sym p.2)
    (record { data_itself = refl; may = passes_may a h piece binds p.0; read = p.3; unrefused = p.1 })

data_was_kept : (a : Shown) (h : History) (piece came : ChunkPayloadData) (index : ℕ) → Binds a h
    → slice_get (acts_of_data a piece) index ≡ Some (Act.Deferred came)
    → WasToBeKeptApart a h (chunks.Data piece) came ⊎ WasToBeLeft a h (chunks.Data piece) came
data_was_kept a h piece came index binds e =
    let acts = data_acts a piece in
    let first = first_acts (is_new a piece) (is_for_later a piece) a piece in
    let there = found_first (Act.Deferred came) (deferred_takes came) first acts.others index
    (ends_are_no_intake acts.others acts.ends)
    (ap (λ (zs : List Act). slice_get zs index) (sym acts.are) ∙ e) in
    ⊎_elim
    (λ (p : PassesLater a piece × (later_refusal_of a piece ≡ None) × (came ≡ piece)).
    inl (subst (λ (z : ChunkPayloadData). WasToBeKeptApart a h (chunks.Data piece) z) (sym p.2)
    (record { data_itself = refl; may = passes_may_later a h piece binds p.0; unrefused = p.1 })))
    (λ (p : PassesTests a piece × (goes_unread a piece ≡ true) × (came ≡ piece)).
    inr (subst (λ (z : ChunkPayloadData). WasToBeLeft a h (chunks.Data piece) z) (sym p.2)
    (record { data_itself = refl; may = passes_may a h piece binds p.0; unread = p.1 })))
    (kept_data a piece came there.0 (is_new a piece) (is_for_later a piece) refl refl there.1)

-- Other chunks

all_if : (c : Bool) (xs ys : List Act) → AllByRecursion IsNoIntake xs → AllByRecursion IsNoIntake ys
    → AllByRecursion IsNoIntake (if c then xs else ys)
all_if true xs ys m n = m
all_if false xs ys m n = n

-- where a SACK marks what is outstanding, that act is of a kind to which marking belongs
pub marks_are : (Is : Act → Type 0) → Is Act.Marked → (opens : Bool) → AllByRecursion Is (marks_if opens)
marks_are Is marked true = (marked, tt)
marks_are Is marked false = tt

outcomes_take_nothing : (outcome : SackOutcome) (n : ℕ) (blocks : List GapAckBlock) (missing : Reports) (opens : Bool)
    → AllByRecursion IsNoIntake (acts_of_outcome outcome n blocks missing opens)
outcomes_take_nothing outcomes.Older n blocks missing opens = tt
outcomes_take_nothing outcomes.NotInFlight n blocks missing opens = tt
outcomes_take_nothing outcomes.NamesTheUnsent n blocks missing opens = tt
outcomes_take_nothing outcomes.Taken n blocks missing opens = (tt, marks_are IsNoIntake tt opens)

-- what a FORWARD TSN does that is ahead
ahead_takes_nothing : (a : Shown) (tsn : ℕ) (skips : List SkippedStream)
    → AllByRecursion IsNoIntake
    (acts_of_keeping tsn skips a ++ acts_of_settling (with_passed (with_skips tsn skips a) tsn))
ahead_takes_nothing a tsn skips =
    let b : Shown = with_passed (with_skips tsn skips a) tsn in
    all_join IsNoIntake (acts_of_keeping tsn skips a) (acts_of_settling b)
    (ends_are_no_intake (acts_of_keeping tsn skips a)
    (spans_end (has_retiring a.resets.generations) (retiring_ids a.resets.generations) b.streams))
    (ends_are_no_intake (acts_of_settling b) (settling_ends_spans b))

-- the streams that it opens before take nothing in either
forwards_take_nothing : (a : Shown) (tsn : ℕ) (skips : List SkippedStream)
    → AllByRecursion IsNoIntake (acts_of_forward a tsn skips)
forwards_take_nothing a tsn skips =
    acts_are_one_of tsn skips (λ b acts. AllByRecursion IsNoIntake acts) (λ b e. tt) (λ b e f. tt)
    (λ b e f. (tt, ahead_takes_nothing b tsn skips))
    (λ b acts all. all_join IsNoIntake (acts_of_finding tsn skips b) acts
    (finding_opens IsNoIntake (λ id first. tt) tsn skips b) all) a

pub params_end_spans : (a : Shown) (param : Param) → AllByRecursion IsEndOfSpans (acts_of_param a param)
params_end_spans a (params.OutgoingResetRequest request) = (tt, tt)
params_end_spans a (params.ReconfigResponse response) = (tt, tt)
params_end_spans a param = tt

seconds_end_spans : (x : Shown × Bool) (param : Option Param) → AllByRecursion IsEndOfSpans (acts_of_second x param)
seconds_end_spans (a, true) (Some param) = params_end_spans a param
seconds_end_spans (a, true) None = tt
seconds_end_spans (a, false) param = tt

pub reconfigs_end_spans : (a : Shown) (reconfig : ChunkReconfig)
    → AllByRecursion IsEndOfSpans (acts_of_reconfig a reconfig)
reconfigs_end_spans a reconfig =
    all_join IsEndOfSpans (acts_of_param a reconfig.first)
    (acts_of_second (after_param reconfig.first a) reconfig.second) (params_end_spans a reconfig.first)
    (seconds_end_spans (after_param reconfig.first a) reconfig.second)

-- any chunk but DATA
abbrev IsNoData : Chunk → Type 0
IsNoData (chunks.Data piece) = ⊥
IsNoData chunk = ⊤

kinds_take_nothing : (a : Shown) (header : CommonHeader) (chunk : Chunk) → IsNoData chunk
    → AllByRecursion IsNoIntake (acts_of_kind a header chunk)
kinds_take_nothing a header (chunks.Data piece) n = absurd n
kinds_take_nothing a header (chunks.SelectiveAck sack) n =
    all_if (sends_data a.state) _ []
    (outcomes_take_nothing _ _ sack.gap_ack_blocks _
    (opens_window (is_probing a.profile a.sender) sack.advertised_receiver_window_credit)) tt
kinds_take_nothing a header (chunks.Init init) n =
    all_if (is_beginning a.state) _ [] (known_all IsNoIntake (keeps_peer a init) init.initial_tsn tt) tt
kinds_take_nothing a header (chunks.InitAck init) n =
    all_if (is_cookie_wait a.state) _ [] (all_if (comes_back a.handshake header) _ [] (tt, tt) tt) tt
kinds_take_nothing a header (chunks.ForwardTsn x) n =
    forwards_take_nothing a x.new_cumulative_tsn x.streams
kinds_take_nothing a header (chunks.IForwardTsn x) n =
    forwards_take_nothing a x.new_cumulative_tsn (skips_of x.entries)
kinds_take_nothing a header (chunks.Reconfig reconfig) n =
    ends_are_no_intake (acts_of_reconfig a reconfig) (reconfigs_end_spans a reconfig)
kinds_take_nothing a header chunk n = tt

checked_take_nothing : (r : Result (Unit {0}) Error) (a : Shown) (header : CommonHeader) (chunk : Chunk)
    → IsNoData chunk → AllByRecursion IsNoIntake (acts_of_checked r a header chunk)
checked_take_nothing (Err fault) a header chunk n = tt
checked_take_nothing (Ok _) a header chunk n = kinds_take_nothing a header chunk n

pub nothing_else_is_taken_in : NothingElseIsTakenIn
nothing_else_is_taken_in a h header (chunks.Data piece) index came binds e = data_was a h piece came index binds e
nothing_else_is_taken_in a h header chunk index came binds e =
    absurd (none_found (Act.Took came) (took_takes came) (acts_of_chunk a header chunk) index
    (checked_take_nothing (checked_chunk chunk) a header chunk tt) e)

pub nothing_else_is_kept_apart : NothingElseIsKeptApart
nothing_else_is_kept_apart a h header (chunks.Data piece) index came binds e =
    data_was_kept a h piece came index binds e
nothing_else_is_kept_apart a h header chunk index came binds e =
    absurd (none_found (Act.Deferred came) (deferred_takes came) (acts_of_chunk a header chunk) index
    (checked_take_nothing (checked_chunk chunk) a header chunk tt) e)
