-- DATA is taken in exactly where it may be, and its stream does not refuse it.
use Rattle.std.proofs.Common.{◌≡◌, refl, sym, ap, ◌∙◌, subst, ◌⊎◌, ⊎_elim, inl, inr, ℕ, ◌<◌, ◌≤◌, ◌+◌, ◌-◌}
use Rattle.std.proofs.Common.{◌^◌, min, arith, Bool, true, false, eqb, ltb, ◌||◌, if◌then◌else◌, List}
use Rattle.std.proofs.Common.{[], ◌∷◌, ◌++◌, map, fold, Option, Some, None, is_some, Ordering, Less, Equal, Greater}
use Rattle.std.proofs.Common.{nat_cmp, is_eq, not}
use Rattle.std.specs.List.{AllByRecursion}
use Rattle.std.proofs.lemmas.List.{append_assoc}
use Rattle.std.specs.BTreeMap.{is_at, insert_entry}
use Rattle.std.specs.Map.{lookup}
use Rattle.std.specs.Ordering.{match_ordering}
use Rattle.std.proofs.lemmas.Bool.{cond-true, eq-eqb, false≢true, lt-ltb, ltb-true}
use Rattle.std.proofs.lemmas.Bool.{or_cases, or_left, or_right, true≢false}
use Rattle.sctp_wire_types.specs.declared.chunk.ChunkPayloadData.{ChunkPayloadData}
use Rattle.sctp_wire_types.specs.declared.error.Error.{Error}
use Rattle.sctp_wire_types.specs.declared.ids.PayloadProtocolIdentifier.TheVariants as kinds
use Rattle.sctp_receive_queues.specs.Pieces.{bytes_of}
use Rattle.sctp_receive_queues.specs.Reassembly.{refusal}
use Rattle.sctp_receive_queues.specs.Reassembly as reassembly
use Rattle.sctp_streams.specs.Stream.{StreamView, fresh_stream}
use Rattle.sctp_streams.specs.Streams.{StreamMap, bytes_waiting, generation_left, made, refusal_at, refusal_in}
use Rattle.sctp_streams.specs.Streams.{stream_at}
use Rattle.sctp_inbound.specs.declared.receiver.AckTrigger.{AckTrigger}
use Rattle.sctp_inbound.specs.Held.{is_passed}
use Rattle.sctp_inbound.specs.Receiver.{admits, asked, credit_of, is_new_to}
use Rattle.sctp_generations.specs.Generations.{has_skips}
use Rattle.sctp_resets.specs.Concerned.{in_reset, skipped_ids}
use Rattle.sctp_assoc.specs.declared.inbound.Flow.{Flow}
use Rattle.sctp_assoc.specs.declared.inbound.Flow.TheVariants as flows
use Rattle.sctp_directions.specs.Acts.{Act, History, IsNewTsn}
use Rattle.sctp_model.proofs.Lists.{all_join}
use Rattle.sctp_assoc.specs.Chunks.{asks, asks_or_faults, counted_data, deferred, deferred_unless}
use Rattle.sctp_assoc.specs.Chunks.{deferred_where_admitted, goes_unread, intake_refusal, left_or_handed_over, on_chunk}
use Rattle.sctp_assoc.specs.Chunks.{on_data, on_new_data, refusal_unless_left, stream_found, taken_in}
use Rattle.sctp_assoc.specs.Chunks.{taken_unless, taken_where_admitted, then_skips, with_new_stream}
use Rattle.sctp_assoc.specs.Closing.{is_exhausted}
use Rattle.sctp_assoc.specs.Happened.{acts_if_left, acts_of_data, acts_of_found}
use Rattle.sctp_assoc.specs.Happened.{acts_of_hidden, acts_of_skips_behind}
use Rattle.sctp_assoc.specs.Happened.{acts_of_stream, acts_of_taking, acts_unless_faulty, acts_unless_refused}
use Rattle.sctp_assoc.specs.Leads.{Binds}
use Rattle.sctp_assoc.specs.ResetActs.{acts_of_settling, spans_end_if}
use Rattle.sctp_assoc.specs.Resets.{settled, settling_takes_memory, skips_applied_of}
use Rattle.sctp_assoc.specs.Shown.{Shown, all_waiting}
use Rattle.sctp_assoc.proofs.DataCame.{from_new_tsn, new_tsn}
use Rattle.sctp_assoc.proofs.UnreadData.{absent_is_read, left_is_live, made_is_read, refusal_where_read}
use Rattle.sctp_fit.proofs.StreamsThere.{at_made}
use Rattle.sctp_sides.specs.Intake.{DataIsTakenIn, FillsAGap, HasRoomFor, IsEndOfSpans, LaterDataIsKeptApart}
use Rattle.sctp_sides.specs.Intake.{MayKeepApart, MayTakeIn, UnreadDataIsLeft}
use Rattle.sctp_sides.specs.Intake.{held_by, is_for_later, later_refusal_of, misfit_of}
use Rattle.sctp_sides.specs.Intake.{receive_limit, refusal_of, unless_unread}
use Rattle.sctp_sides.specs.SideLaws.{OpensAndTakes, TakesOnly}
use Rattle.sctp_sides.proofs.GapsFilled.{came_passed, passed_came}

-- A stream that is made holds nothing: as many bytes wait as before.

abbrev added : ℕ → StreamView → ℕ
added sum s = min (sum + reassembly.bytes_waiting s.reassembly) (2 ^ 64 - 1)

abbrev waiting_from : ℕ → List (ℕ × StreamView) → ℕ
waiting_from sum es =
    fold (λ (n : ℕ) (s : StreamView). min (n + reassembly.bytes_waiting s.reassembly) (2 ^ 64 - 1)) sum
    (map (λ (e : ℕ × StreamView). e.1) es)

least_of : (sum more : ℕ) → more ≡ 0 → sum ≤ 2 ^ 64 - 1 → min (sum + more) (2 ^ 64 - 1) ≡ sum
least_of sum more none within = omega (arith, none, within)

within_limit : (n : ℕ) → min n (2 ^ 64 - 1) ≤ 2 ^ 64 - 1
within_limit n = omega arith

module _ (e : ℕ × StreamView) (es rest : List (ℕ × StreamView)) (id sum : ℕ) (s : StreamView) where
  beside_step : (o : Ordering) → is_eq o ≡ false → reassembly.bytes_waiting s.reassembly ≡ 0
      → sum ≤ 2 ^ 64 - 1 → waiting_from (added sum e.1) rest ≡ waiting_from (added sum e.1) es
      → waiting_from sum (match_ordering o ((id, s) ∷ e ∷ es) ((e.0, s) ∷ es) (e ∷ rest)) ≡ waiting_from sum (e ∷ es)
  beside_step Less apart none within hyp =
      ap (λ (n : ℕ). waiting_from n (e ∷ es)) (least_of sum (reassembly.bytes_waiting s.reassembly) none within)
  beside_step Equal apart none within hyp = absurd (true≢false apart)
  beside_step Greater apart none within hyp = hyp

not_first : (b : Bool) (x : StreamView) (o : Option StreamView) → (if b then Some x else o) ≡ None
    → (b ≡ false) × (o ≡ None)
not_first true x o h = absurd (true≢false (ap is_some h))
not_first false x o h = (refl, h)

waiting_beside : (es : List (ℕ × StreamView)) (id sum : ℕ) (s : StreamView) → lookup (is_at (nat_cmp id)) es ≡ None
    → reassembly.bytes_waiting s.reassembly ≡ 0
    → sum ≤ 2 ^ 64 - 1 → waiting_from sum (insert_entry nat_cmp es id s) ≡ waiting_from sum es
waiting_beside [] id sum s free none within = least_of sum (reassembly.bytes_waiting s.reassembly) none within
waiting_beside (e ∷ es) id sum s free none within =
    let first = not_first (is_eq (nat_cmp id e.0)) e.1 (lookup (is_at (nat_cmp id)) es) free in
    beside_step e es (insert_entry nat_cmp es id s) id sum s (nat_cmp id e.0) first.0 none within
    (waiting_beside es id (added sum e.1) s first.1 none (within_limit (sum + reassembly.bytes_waiting e.1.reassembly)))

made_waits : (m : StreamMap) (id first : ℕ) → stream_at m id ≡ None
    → bytes_waiting (made m id first kinds.Unknown) ≡ bytes_waiting m
made_waits m id first free =
    waiting_beside m.by_id id 0 (fresh_stream id m.next_generation first kinds.Unknown) free refl (omega arith)

-- The stream of new DATA.

-- there is room for a TSN
abbrev pub has_room : Shown → ChunkPayloadData → Bool
has_room a piece = admits a.receiver piece.tsn (all_waiting a)

-- its stream was found or made: then it has room, is read and holds what it did
pub record Found (a : Shown) (piece : ChunkPayloadData) (x : Shown × Bool) : Type 0 where
  pub found : x.1 ≡ (is_some (stream_at a.streams piece.stream_identifier) || generation_left a.streams)
  pub room : has_room x.0 piece ≡ has_room a piece
  pub unread : x.1 ≡ true → goes_unread x.0 piece ≡ goes_unread a piece
  pub refused : x.1 ≡ true → intake_refusal x.0 piece ≡ refusal_of a piece

-- what a stream refuses that holds what it did
refused_as_held : (left : Bool) (a b : Shown) (piece : ChunkPayloadData)
    → refusal_in b.streams piece.stream_identifier piece (receive_limit b) ≡ misfit_of a piece
    → refusal_unless_left left b piece ≡ unless_unread left (misfit_of a piece)
refused_as_held true a b piece e = refl
refused_as_held false a b piece e = e

found_if : (o : Option StreamView) (left : Bool) (a : Shown) (piece : ChunkPayloadData)
    → stream_at a.streams piece.stream_identifier ≡ o → generation_left a.streams ≡ left
    → Found a piece (stream_found (counted_data a) piece.stream_identifier)
unfolding stream_found
found_if (Some t) left a piece e f =
    let there : is_some (stream_at a.streams piece.stream_identifier) ≡ true = ap is_some e in
    let same : refusal_in a.streams piece.stream_identifier piece (receive_limit a) ≡ misfit_of a piece = rw e refl in
    rw there (record {
      found = rw there refl;
      room = refl;
      unread = λ b. refl;
      refused = λ b. refused_as_held (goes_unread a piece) a (counted_data a) piece same;
    })
found_if None false a piece e f =
    let there : is_some (stream_at a.streams piece.stream_identifier) ≡ false = ap is_some e in
    rw (there, f) (record {
      found = rw (there, f) refl;
      room = refl;
      unread = λ b. absurd (false≢true b);
      refused = λ b. absurd (false≢true b);
    })
found_if None true a piece e f =
    let there : is_some (stream_at a.streams piece.stream_identifier) ≡ false = ap is_some e in
    let id = piece.stream_identifier in
    let number = a.sender.queue.next_message_id in
    let made_at : stream_at (made a.streams piece.stream_identifier a.sender.queue.next_message_id kinds.Unknown)
    piece.stream_identifier
    ≡ Some (fresh_stream piece.stream_identifier a.streams.next_generation a.sender.queue.next_message_id
    kinds.Unknown) =
    at_made a.streams id number id kinds.Unknown e ∙ cond-true (eqb id id) _ _ (eq-eqb id id refl) in
    let made_one : Shown = with_new_stream (counted_data a) piece.stream_identifier in
    let read_before : goes_unread a piece ≡ false = absent_is_read a.profile a.streams id e in
    let read_now : goes_unread made_one piece ≡ false = made_is_read a.profile a.streams id number kinds.Unknown e in
    let same : refusal_in made_one.streams piece.stream_identifier piece (receive_limit a) ≡ misfit_of a piece =
    ap (λ (o : Option StreamView). refusal_at o piece (receive_limit a)) made_at
    ∙ sym (ap (λ (o : Option StreamView). refusal (held_by o) piece (receive_limit a)) e) in
    rw (there, f) (record {
      found = rw (there, f) refl;
      room =
          ap (λ (n : ℕ). admits a.receiver piece.tsn (min (n + bytes_of a.resets.generations.deferred) (2 ^ 64 - 1)))
          (made_waits a.streams piece.stream_identifier a.sender.queue.next_message_id e);
      unread = λ b. read_now ∙ sym read_before;
      refused =
          λ b. refusal_where_read made_one piece read_now ∙ same
          ∙ sym (ap (λ (left : Bool). unless_unread left (misfit_of a piece)) read_before);
    })

pub stream_is_found : (a : Shown) (piece : ChunkPayloadData)
    → Found a piece (stream_found (counted_data a) piece.stream_identifier)
stream_is_found a piece = found_if _ _ a piece refl refl

-- What DATA is a fault by.

abbrev pub is_found : Shown → ChunkPayloadData → Bool
is_found a piece = is_some (stream_at a.streams piece.stream_identifier) || generation_left a.streams

abbrev pub is_new : Shown → ChunkPayloadData → Bool
is_new a piece = is_new_to a.receiver piece.tsn

-- the fault of a flow
abbrev pub fault_of : Flow → Option Error
fault_of (flows.Next trigger) = None
fault_of (flows.Fault error) = Some error
fault_of flows.Closed = None
fault_of flows.Exhausted = None

-- a flow tells of an exhausted receive buffer
abbrev pub exhausts_of : Flow → Bool
exhausts_of (flows.Next trigger) = false
exhausts_of (flows.Fault error) = false
exhausts_of flows.Closed = false
exhausts_of flows.Exhausted = true

flow_if : (e : Bool) (a : Shown) (t : AckTrigger)
    → (fault_of (if◌then◌else◌ {A = Shown × Flow} e (a, flows.Exhausted) (a, flows.Next t)).1 ≡ None)
    × (exhausts_of (if◌then◌else◌ {A = Shown × Flow} e (a, flows.Exhausted) (a, flows.Next t)).1 ≡ e)
flow_if true a t = (refl, refl)
flow_if false a t = (refl, refl)

-- DATA that asks is no fault, and tells whether the receive buffer is exhausted
pub asks_flow : (a : Shown) (immediate : Bool) (trigger : AckTrigger)
    → (fault_of (asks a immediate trigger).1 ≡ None) × (exhausts_of (asks a immediate trigger).1 ≡ is_exhausted a)
asks_flow a immediate trigger = flow_if (is_exhausted a) a (asked a.receiver trigger immediate)

-- DATA that was taken in, kept apart or left is a fault where it was refused
pub behind_flow : (x : Shown × Option Error) (immediate : Bool) (trigger : AckTrigger)
    → fault_of (asks_or_faults x immediate trigger).1 ≡ x.1
behind_flow (b, None) immediate trigger = (asks_flow (settled b) immediate trigger).0
behind_flow (b, Some fault) immediate trigger = refl

skips_refuse : (x : Shown × Option Error) (id : ℕ) → (then_skips x id).1 ≡ x.1
skips_refuse (b, None) id = refl
skips_refuse (b, Some fault) id = refl

taking_refuses : (o : Option Error) (x : Shown) (piece : ChunkPayloadData) → (taken_unless o x piece).1 ≡ o
taking_refuses None x piece = refl
taking_refuses (Some error) x piece = refl

deferring_refuses : (o : Option Error) (x : Shown) (piece : ChunkPayloadData) → (deferred_unless o x piece).1 ≡ o
deferring_refuses None x piece = refl
deferring_refuses (Some error) x piece = refl

refuses_if : (room : Bool) (x : Shown) (y : Shown × Option Error) (o : Option Error) → y.1 ≡ o
    → (if◌then◌else◌ {A = Shown × Option Error} room y (x, None)).1 ≡ (if room then o else None)
refuses_if true x y o e = e
refuses_if false x y o e = refl

left_refuses : (left : Bool) (x : Shown) (piece : ChunkPayloadData)
    → (left_or_handed_over left x piece).1 ≡ refusal_unless_left left x piece
left_refuses true x piece = refl
left_refuses false x piece =
    taking_refuses (refusal_in x.streams piece.stream_identifier piece x.receiver.max_receive_message_size) x piece

taken_refuses : (x : Shown) (piece : ChunkPayloadData) → (taken_in x piece).1 ≡ intake_refusal x piece
unfolding taken_in
taken_refuses x piece = left_refuses (goes_unread x piece) x piece

admitted_refuses : (x : Shown) (piece : ChunkPayloadData)
    → (taken_where_admitted x piece).1 ≡ (if has_room x piece then intake_refusal x piece else None)
admitted_refuses x piece =
    refuses_if (has_room x piece) x (then_skips (taken_in x piece) piece.stream_identifier) _
    (skips_refuse (taken_in x piece) piece.stream_identifier ∙ taken_refuses x piece)

deferred_refuses : (x : Shown) (piece : ChunkPayloadData)
    → (deferred_where_admitted x piece).1 ≡ (if has_room x piece then later_refusal_of x piece else None)
unfolding deferred_where_admitted
deferred_refuses x piece =
    refuses_if (has_room x piece) x (deferred x piece) (later_refusal_of x piece)
    (deferring_refuses (later_refusal_of x piece) x piece)

abbrev decided : Bool → Bool → Option Error → Option Error
decided found room o = if found then (if room then o else None) else None

found_flow : (a : Shown) (x : Shown × Bool) (piece : ChunkPayloadData) (trigger : AckTrigger) → Found a piece x
    → fault_of (on_new_data x piece trigger).1 ≡ decided (is_found a piece) (has_room a piece) (refusal_of a piece)
found_flow a (x, false) piece trigger f = ap (λ (b : Bool). decided b (has_room a piece) (refusal_of a piece)) f.found
found_flow a (x, true) piece trigger f =
    behind_flow (taken_where_admitted x piece) piece.immediate_sack trigger
    ∙ admitted_refuses x piece
    ∙ ap (λ (b : Bool). decided true b (intake_refusal x piece)) f.room
    ∙ ap (λ (o : Option Error). decided true (has_room a piece) o) (f.refused refl)
    ∙ ap (λ (b : Bool). decided b (has_room a piece) (refusal_of a piece)) f.found

-- what DATA is a fault by, where it is new, of a later generation, its stream is found and there is room
abbrev pub fault_if : Bool → Bool → Shown → ChunkPayloadData → Option Error
fault_if next later a piece =
    if not next then None else
    if later then (if has_room a piece then later_refusal_of a piece else None) else
    decided (is_found a piece) (has_room a piece) (refusal_of a piece)

data_flow_if : (next later : Bool) (a : Shown) (piece : ChunkPayloadData) (trigger : AckTrigger)
    → is_new a piece ≡ next → is_for_later a piece ≡ later
    → fault_of (on_data a piece trigger).1 ≡ fault_if next later a piece
unfolding on_data
data_flow_if true true a piece trigger e f =
    rw (e, f) (behind_flow (deferred_where_admitted (counted_data a) piece) piece.immediate_sack trigger
    ∙ deferred_refuses (counted_data a) piece)
data_flow_if true false a piece trigger e f =
    rw (e, f)
    (found_flow a (stream_found (counted_data a) piece.stream_identifier) piece trigger (stream_is_found a piece))
data_flow_if false later a piece trigger e f =
    rw e (asks_flow (settled (counted_data a)) piece.immediate_sack trigger).0

pub data_flow : (a : Shown) (piece : ChunkPayloadData) (trigger : AckTrigger)
    → fault_of (on_data a piece trigger).1 ≡ fault_if (is_new a piece) (is_for_later a piece) a piece
data_flow a piece trigger = data_flow_if (is_new a piece) (is_for_later a piece) a piece trigger refl refl

-- What it is taken in by.

pub spans_end : (c : Bool) (ids : List ℕ) (m : StreamMap) → AllByRecursion IsEndOfSpans (spans_end_if c ids m)
spans_end true ids m = (tt, tt)
spans_end false ids m = tt

pub settling_ends_spans : (a : Shown) → AllByRecursion IsEndOfSpans (acts_of_settling a)
settling_ends_spans a = spans_end (settling_takes_memory a) (in_reset a.resets a.streams) (settled a).streams

skips_end_spans : (x : Shown × Option Error) (id : ℕ) → AllByRecursion IsEndOfSpans (acts_of_skips_behind x id)
skips_end_spans (b, None) id =
    spans_end (has_skips b.resets.generations) (skipped_ids b.resets.generations) (skips_applied_of id b).streams
skips_end_spans (b, Some fault) id = tt

rest_ends_spans : (x : Shown × Option Error) → AllByRecursion IsEndOfSpans (acts_unless_faulty x)
rest_ends_spans (b, None) = settling_ends_spans b
rest_ends_spans (b, Some fault) = tt

-- these acts, and then ends of spans
pub record Then (first acts : List Act) : Type 0 where
  pub others : List Act
  pub ends : AllByRecursion IsEndOfSpans others
  pub are : acts ≡ first ++ others

then_by : (first other acts : List Act) → first ≡ other → Then first acts → Then other acts
then_by first other acts e t = subst (λ (z : List Act). Then z acts) e t

then_if : (room : Bool) (first more rest : List Act) → AllByRecursion IsEndOfSpans more
    → AllByRecursion IsEndOfSpans rest
    → Then (if room then first else []) ((if room then first ++ more else []) ++ rest)
then_if true first more rest e f =
    record { others = more ++ rest; ends = all_join IsEndOfSpans more rest e f; are = append_assoc first more rest }
then_if false first more rest e f = record { others = rest; ends = f; are = refl }

-- where there is room for it, by whether nobody reads its stream any more, and else by why that refuses it
abbrev pub admitted_acts : Bool → Option Error → ChunkPayloadData → List Act
admitted_acts true o piece = Act.Deferred piece ∷ []
admitted_acts false o piece = acts_unless_refused o (Act.Took piece)

abbrev pub decided_acts : Bool → Bool → Bool → Option Error → ChunkPayloadData → List Act
decided_acts found room left o piece = if found then (if room then admitted_acts left o piece else []) else []

taking_is : (left : Bool) (x : Shown) (piece : ChunkPayloadData)
    → acts_if_left left x piece ≡ admitted_acts left (refusal_unless_left left x piece) piece
taking_is true x piece = refl
taking_is false x piece = refl

found_acts : (a : Shown) (x : Shown × Bool) (piece : ChunkPayloadData) → Found a piece x
    → Then (decided_acts (is_found a piece) (has_room a piece) (goes_unread a piece) (refusal_of a piece) piece)
    (acts_of_found x piece)
found_acts a (x, false) piece f =
    then_by [] _ []
    (ap (λ (b : Bool). decided_acts b (has_room a piece) (goes_unread a piece) (refusal_of a piece) piece) f.found)
    (record { others = []; ends = tt; are = refl })
found_acts a (x, true) piece f =
    let here : Option Error = intake_refusal x piece in
    let unread : Bool = goes_unread x piece in
    let acts = acts_of_found (x, true) piece in
    then_by (if has_room x piece then acts_of_taking x piece else [])
    (decided_acts (is_found a piece) (has_room a piece) (goes_unread a piece) (refusal_of a piece) piece) acts
    (ap (λ (z : List Act). if has_room x piece then z else []) (taking_is (goes_unread x piece) x piece)
    ∙ ap (λ (b : Bool). decided_acts true b unread here piece) f.room
    ∙ ap (λ (b : Bool). decided_acts true (has_room a piece) b here piece) (f.unread refl)
    ∙ ap (λ (o : Option Error). decided_acts true (has_room a piece) (goes_unread a piece) o piece) (f.refused refl)
    ∙ ap (λ (b : Bool). decided_acts b (has_room a piece) (goes_unread a piece) (refusal_of a piece) piece) f.found)
    (then_if (has_room x piece) (acts_of_taking x piece)
    (acts_of_skips_behind (taken_in x piece) piece.stream_identifier)
    (acts_unless_faulty (taken_where_admitted x piece))
    (skips_end_spans (taken_in x piece) piece.stream_identifier)
    (rest_ends_spans (taken_where_admitted x piece)))

then_behind : (before first acts : List Act) → Then first acts → Then (before ++ first) (before ++ acts)
then_behind before first acts t = record {
  others = t.others;
  ends = t.ends;
  are = ap (λ (z : List Act). before ++ z) t.are ∙ sym (append_assoc before first t.others);
}

abbrev pub kept_acts : Bool → Option Error → ChunkPayloadData → List Act
kept_acts room o piece = if room then acts_unless_refused o (Act.Deferred piece) else []

hidden_acts : (a : Shown) (piece : ChunkPayloadData)
    → Then (kept_acts (has_room a piece) (later_refusal_of a piece) piece) (acts_of_hidden a piece)
hidden_acts a piece = record {
  others = acts_unless_faulty (deferred_where_admitted a piece);
  ends = rest_ends_spans (deferred_where_admitted a piece);
  are = refl;
}

-- what DATA does first, where it is new or not, and of a later generation or not
abbrev pub first_acts : Bool → Bool → Shown → ChunkPayloadData → List Act
first_acts next later a piece =
    if not next then [] else
    if later then kept_acts (has_room a piece) (later_refusal_of a piece) piece else
    acts_of_stream a piece.stream_identifier
    ++ decided_acts (is_found a piece) (has_room a piece) (goes_unread a piece) (refusal_of a piece) piece

data_acts_if : (next later : Bool) (a : Shown) (piece : ChunkPayloadData) → is_new a piece ≡ next
    → is_for_later a piece ≡ later → Then (first_acts next later a piece) (acts_of_data a piece)
data_acts_if true true a piece e f = rw (e, f) (hidden_acts (counted_data a) piece)
data_acts_if true false a piece e f =
    rw (e, f) (then_behind (acts_of_stream a piece.stream_identifier) _ _
    (found_acts a (stream_found (counted_data a) piece.stream_identifier) piece (stream_is_found a piece)))
data_acts_if false later a piece e f =
    rw e (record {
      others = acts_of_settling (counted_data a);
      ends = settling_ends_spans (counted_data a);
      are = refl;
    })

pub data_acts : (a : Shown) (piece : ChunkPayloadData)
    → Then (first_acts (is_new a piece) (is_for_later a piece) a piece) (acts_of_data a piece)
data_acts a piece = data_acts_if (is_new a piece) (is_for_later a piece) a piece refl refl

-- What may be taken in, as the tests that a side makes.

pub record PassesTests (a : Shown) (piece : ChunkPayloadData) : Type 0 where
  pub new : is_new a piece ≡ true
  pub read_now : is_for_later a piece ≡ false
  pub found : is_found a piece ≡ true
  pub room : has_room a piece ≡ true

-- What may be kept apart, likewise.
pub record PassesLater (a : Shown) (piece : ChunkPayloadData) : Type 0 where
  pub new : is_new a piece ≡ true
  pub read_later : is_for_later a piece ≡ true
  pub room : has_room a piece ≡ true

room_left : (size waiting : ℕ) → waiting < size → 0 < size - waiting
room_left size waiting l = omega (arith, l)

left_room : (size waiting : ℕ) → 0 < size - waiting → waiting < size
left_room size waiting l = omega (arith, l)

stream_found_as : (there left : Bool) → (there ≡ true) ⊎ (left ≡ true) → (there || left) ≡ true
stream_found_as there left h =
    ⊎_elim (λ (e : there ≡ true). or_left there left e) (λ (e : left ≡ true). or_right there left e) h

-- An association on its history, and new DATA.
module _ (a : Shown) (h : History) (piece : ChunkPayloadData) (binds : Binds a h) where
  tested_new : IsNewTsn h piece.tsn → is_new a piece ≡ true
  tested_new new = from_new_tsn h a.streams a.receiver piece.tsn binds.peer_last_tsn binds.held new

  new_from_test : is_new a piece ≡ true → IsNewTsn h piece.tsn
  new_from_test e = new_tsn h a.streams a.receiver piece.tsn binds.peer_last_tsn binds.held e

  tested_room : IsNewTsn h piece.tsn → HasRoomFor a h piece.tsn → has_room a piece ≡ true
  tested_room new room =
      let waiting = all_waiting a in
      let r = a.receiver in
      ⊎_elim
      (λ (l : waiting < r.buffer_size).
      or_left (ltb 0 (credit_of r waiting)) (is_passed r.held r.peer_last_tsn piece.tsn)
      (lt-ltb 0 (r.buffer_size - waiting) (room_left r.buffer_size waiting l)))
      (λ (g : FillsAGap h piece.tsn).
      or_right (ltb 0 (credit_of r waiting)) (is_passed r.held r.peer_last_tsn piece.tsn)
      (ap (λ p. is_passed r.held p piece.tsn) binds.peer_last_tsn
      ∙ came_passed h a.streams r.held piece.tsn binds.held new g))
      room

  room_from_test : IsNewTsn h piece.tsn → has_room a piece ≡ true → HasRoomFor a h piece.tsn
  room_from_test new e =
      let waiting = all_waiting a in
      let r = a.receiver in
      ⊎_elim
      (λ (l : ltb 0 (credit_of r waiting) ≡ true).
      inl (left_room r.buffer_size waiting (ltb-true 0 (r.buffer_size - waiting) l)))
      (λ (g : is_passed r.held r.peer_last_tsn piece.tsn ≡ true).
      inr (passed_came h a.streams r.held piece.tsn binds.held new
      (ap (λ q. is_passed r.held q piece.tsn) (sym binds.peer_last_tsn) ∙ g)))
      (or_cases (ltb 0 (credit_of r waiting)) (is_passed r.held r.peer_last_tsn piece.tsn) e)

pub may_passes : (a : Shown) (h : History) (piece : ChunkPayloadData) → Binds a h → MayTakeIn a h piece
    → PassesTests a piece
may_passes a h piece binds may = record {
  new = tested_new a h piece binds may.new;
  read_now = may.read_now;
  found =
      stream_found_as (is_some (stream_at a.streams piece.stream_identifier)) (generation_left a.streams) may.stream;
  room = tested_room a h piece binds may.new may.room;
}

pub passes_may : (a : Shown) (h : History) (piece : ChunkPayloadData) → Binds a h → PassesTests a piece
    → MayTakeIn a h piece
passes_may a h piece binds p =
    let new = new_from_test a h piece binds p.new in
    record {
      new = new;
      read_now = p.read_now;
      stream = or_cases (is_some (stream_at a.streams piece.stream_identifier)) (generation_left a.streams) p.found;
      room = room_from_test a h piece binds new p.room;
    }

pub may_pass_later : (a : Shown) (h : History) (piece : ChunkPayloadData) → Binds a h → MayKeepApart a h piece
    → PassesLater a piece
may_pass_later a h piece binds may = record {
  new = tested_new a h piece binds may.new;
  read_later = may.read_later;
  room = tested_room a h piece binds may.new may.room;
}

pub passes_may_later : (a : Shown) (h : History) (piece : ChunkPayloadData) → Binds a h → PassesLater a piece
    → MayKeepApart a h piece
passes_may_later a h piece binds p =
    let new = new_from_test a h piece binds p.new in
    record { new = new; read_later = p.read_later; room = room_from_test a h piece binds new p.room }

-- Taken in

pub refused_data : (a : Shown) (piece : ChunkPayloadData) (trigger : AckTrigger) → PassesTests a piece
    → fault_of (on_data a piece trigger).1 ≡ refusal_of a piece
refused_data a piece trigger p = data_flow a piece trigger ∙ rw (p.new, p.read_now, p.found, p.room) refl

pub refused_later : (a : Shown) (piece : ChunkPayloadData) (trigger : AckTrigger) → PassesLater a piece
    → fault_of (on_data a piece trigger).1 ≡ later_refusal_of a piece
refused_later a piece trigger p = data_flow a piece trigger ∙ rw (p.new, p.read_later, p.room) refl

-- It passed the tests, and its stream refused it; or it passed those of DATA that is kept apart, and what waits of its
-- generation refused it.
abbrev pub WasRefused : Shown → ChunkPayloadData → Error → Type 0
WasRefused a piece error =
    (PassesTests a piece × (refusal_of a piece ≡ Some error))
    ⊎ (PassesLater a piece × (later_refusal_of a piece ≡ Some error))

refused_if : (found room : Bool) (o : Option Error) (error : Error) → decided found room o ≡ Some error
    → (found ≡ true) × (room ≡ true) × (o ≡ Some error)
refused_if false room o error e = absurd (false≢true (ap is_some e))
refused_if true false o error e = absurd (false≢true (ap is_some e))
refused_if true true o error e = (refl, refl, e)

refused_as : (next later : Bool) (a : Shown) (piece : ChunkPayloadData) (error : Error) → is_new a piece ≡ next
    → is_for_later a piece ≡ later → fault_if next later a piece ≡ Some error → WasRefused a piece error
refused_as false later a piece error n l e = absurd (false≢true (ap is_some e))
refused_as true true a piece error n l e =
    let r = refused_if true (has_room a piece) (later_refusal_of a piece) error e in
    inr (record { new = n; read_later = l; room = r.1 }, r.2)
refused_as true false a piece error n l e =
    let r = refused_if (is_found a piece) (has_room a piece) (refusal_of a piece) error e in
    inl (record { new = n; read_now = l; found = r.0; room = r.1 }, r.2)

pub data_passed : (a : Shown) (piece : ChunkPayloadData) (trigger : AckTrigger) (error : Error)
    → fault_of (on_data a piece trigger).1 ≡ Some error → WasRefused a piece error
data_passed a piece trigger error e =
    refused_as (is_new a piece) (is_for_later a piece) a piece error refl refl (sym (data_flow a piece trigger) ∙ e)

abbrev error_or : Error → Option Error → Error
error_or other None = other
error_or other (Some error) = error

pub fault_from : (f : Flow) (error : Error) → fault_of f ≡ Some error → f ≡ flows.Fault error
fault_from (flows.Next trigger) error e = absurd (false≢true (ap is_some e))
fault_from (flows.Fault other) error e = ap (λ (o : Option Error). flows.Fault (error_or other o)) e
fault_from flows.Closed error e = absurd (false≢true (ap is_some e))
fault_from flows.Exhausted error e = absurd (false≢true (ap is_some e))

-- what is taken in makes its stream, or is of a live one
taken_if : (o : Option StreamView) (left : Bool) (a : Shown) (piece : ChunkPayloadData)
    → stream_at a.streams piece.stream_identifier ≡ o → generation_left a.streams ≡ left
    → is_found a piece ≡ true
    → (first : List Act) → first ≡ acts_of_stream a piece.stream_identifier ++ Act.Took piece ∷ []
    → OpensAndTakes a piece first ⊎ TakesOnly a piece first
taken_if (Some t) left a piece e f found first are =
    let there : is_some (stream_at a.streams piece.stream_identifier) ≡ true = ap is_some e in
    inr (record { stream = t; live = e; are = are ∙ rw there refl })
taken_if None true a piece e f found first are =
    let there : is_some (stream_at a.streams piece.stream_identifier) ≡ false = ap is_some e in
    let id = piece.stream_identifier in
    let number = a.sender.queue.next_message_id in
    let made_at = at_made a.streams id number id kinds.Unknown e ∙ cond-true (eqb id id) _ _ (eq-eqb id id refl) in
    inl (record {
      first = number;
      kind = kinds.Unknown;
      stream = fresh_stream id a.streams.next_generation number kinds.Unknown;
      none = e;
      live = made_at;
      are = are ∙ rw (there, f) refl;
    })
taken_if None false a piece e f found first are =
    let there : is_some (stream_at a.streams piece.stream_identifier) ≡ false = ap is_some e in
    let no : false ≡ true = rw (there, f) at found in
    absurd (false≢true no)

-- what DATA does first, by the tests that it passes
tested_acts : (next later : Bool) (a : Shown) (piece : ChunkPayloadData) → next ≡ true → later ≡ false
    → first_acts next later a piece
    ≡ acts_of_stream a piece.stream_identifier
    ++ decided_acts (is_found a piece) (has_room a piece) (goes_unread a piece) (refusal_of a piece) piece
tested_acts next later a piece n l = rw (n, l) refl

taken_acts : (found room left : Bool) (o : Option Error) (piece : ChunkPayloadData) → found ≡ true → room ≡ true
    → left ≡ false → o ≡ None → decided_acts found room left o piece ≡ Act.Took piece ∷ []
taken_acts found room left o piece f r l n = rw (f, r, l, n) refl

left_acts : (found room left : Bool) (o : Option Error) (piece : ChunkPayloadData) → found ≡ true → room ≡ true
    → left ≡ true → decided_acts found room left o piece ≡ Act.Deferred piece ∷ []
left_acts found room left o piece f r l = rw (f, r, l) refl

live_makes_nothing : (a : Shown) (id : ℕ) → is_some (stream_at a.streams id) ≡ true → acts_of_stream a id ≡ []
live_makes_nothing a id there = rw there refl

pub data_is_taken_in : DataIsTakenIn
unfolding on_chunk
data_is_taken_in a h header piece binds may read =
    let p = may_passes a h piece binds may in
    let acts = data_acts a piece in
    record {
      taken = λ none.
          let first = first_acts (is_new a piece) (is_for_later a piece) a piece in
          let are : first ≡ acts_of_stream a piece.stream_identifier ++ Act.Took piece ∷ [] =
          tested_acts (is_new a piece) (is_for_later a piece) a piece p.new p.read_now
          ∙ ap (λ (z : List Act). acts_of_stream a piece.stream_identifier ++ z)
          (taken_acts (is_found a piece) (has_room a piece) (goes_unread a piece) (refusal_of a piece) piece p.found
          p.room read none) in
          record {
            first = first;
            taking = taken_if _ _ a piece refl refl p.found first are;
            others = acts.others;
            ends = acts.ends;
            are = acts.are;
          };
      refused =
          λ trigger now error e. fault_from (on_data a piece _).1 error (refused_data a piece _ p ∙ e);
    }

pub unread_data_is_left : UnreadDataIsLeft
unfolding on_chunk
unread_data_is_left a h header piece binds may unread =
    let p = may_passes a h piece binds may in
    let acts = data_acts a piece in
    let live : is_some (stream_at a.streams piece.stream_identifier) ≡ true =
    left_is_live a.profile a.streams piece.stream_identifier unread in
    let first : first_acts (is_new a piece) (is_for_later a piece) a piece ≡ Act.Deferred piece ∷ [] =
    tested_acts (is_new a piece) (is_for_later a piece) a piece p.new p.read_now
    ∙ ap (λ (z : List Act). acts_of_stream a piece.stream_identifier ++ z)
    (left_acts (is_found a piece) (has_room a piece) (goes_unread a piece) (refusal_of a piece) piece p.found p.room
    unread)
    ∙ ap (λ (z : List Act). z ++ Act.Deferred piece ∷ []) (live_makes_nothing a piece.stream_identifier live) in
    let none : refusal_of a piece ≡ None = ap (λ (left : Bool). unless_unread left (misfit_of a piece)) unread in
    record {
      left = record {
        others = acts.others;
        ends = acts.ends;
        are = acts.are ∙ ap (λ (z : List Act). z ++ acts.others) first;
      };
      no_fault =
          λ trigger now error e. false≢true
          (ap is_some (sym none ∙ sym (refused_data a piece _ p) ∙ ap fault_of e));
    }

pub later_data_is_kept_apart : LaterDataIsKeptApart
unfolding on_chunk
later_data_is_kept_apart a h header piece binds may =
    let p = may_pass_later a h piece binds may in
    let acts = data_acts a piece in
    record {
      kept = λ none.
          let first : first_acts (is_new a piece) (is_for_later a piece) a piece ≡ Act.Deferred piece ∷ [] =
          rw (p.new, p.read_later, p.room, none) refl in
          record {
            others = acts.others;
            ends = acts.ends;
            are = acts.are ∙ ap (λ (z : List Act). z ++ acts.others) first;
          };
      refused =
          λ trigger now error e. fault_from (on_data a piece _).1 error (refused_later a piece _ p ∙ e);
    }
