-- When a receive buffer is exhausted, by what came and what can be read, and which DATA tells of it.
use Rattle.std.proofs.Common.{◌≡◌, ⊎_elim, refl, sym, ap, ◌∙◌, subst, ℕ, ◌<◌, ◌≤◌, ◌-◌, arith}
use Rattle.std.proofs.Common.{Bool, true, false, eqb, ltb, not, ◌&&◌, ◌||◌, if◌then◌else◌, List, [], ◌∷◌, length}
use Rattle.std.proofs.Common.{slice_get, is_some, Option, Some, None}
use Rattle.std.specs.List.{AllByRecursion, list_any}
use Rattle.std.proofs.lemmas.Bool.{and_from, and_parts, cases_Bool, eq-eqb, eqb-true, false≢true, lt-ltb, ltb-false}
use Rattle.std.proofs.lemmas.Bool.{ltb-true, or_cases, or_left, or_right, true≢false}
use Rattle.sctp_serial.specs.Serial.{tsn}
use Rattle.sctp_wire_types.specs.declared.chunk.ChunkPayloadData.{ChunkPayloadData}
use Rattle.sctp_wire_types.specs.declared.error.Error.{Error}
use Rattle.sctp_wire_types.specs.declared.packet.CommonHeader.{CommonHeader}
use Rattle.sctp_model.specs.Packets.{mem}
use Rattle.sctp_received.specs.Received.{is_held}
use Rattle.sctp_receive_queues.specs.Messages.{ReceivedMessage, message_of}
use Rattle.sctp_receive_queues.specs.Reassembly.{Group, Reassembly, after_read, is_due, is_ready, read_from}
use Rattle.sctp_receive_queues.specs.Reassembly.{read_ordered, ready, taken}
use Rattle.sctp_receive_queues.proofs.ReadyMessages.{reads_give_what_is_ready}
use Rattle.sctp_streams.specs.Stream.{StreamView, gives_messages, is_read_half_open}
use Rattle.sctp_streams.specs.Streams.{generation_left, live_streams, pushed_in, refusal_in}
use Rattle.sctp_streams.specs.Streams.{some_gives_messages, stream_at}
use Rattle.sctp_inbound.specs.declared.receiver.AckTrigger.{AckTrigger}
use Rattle.sctp_inbound.specs.Held.{has_gap}
use Rattle.sctp_inbound.specs.declared.receiver.Receiver.{Receiver}
use Rattle.sctp_inbound.specs.Receiver.{credit_of, taken_to}
use Rattle.sctp_fit.specs.HeldSet.{IsPast}
use Rattle.sctp_fit.specs.Incoming.{Receiving, reach_of}
use Rattle.sctp_directions.specs.Acts.{History, reach_in}
use Rattle.sctp_assoc.specs.Leads.{Binds, parts}
use Rattle.sctp_assoc.specs.declared.inbound.Flow.{Flow}
use Rattle.sctp_assoc.specs.declared.inbound.Flow.TheVariants as flows
use Rattle.sctp_wire_types.specs.declared.chunk.Chunk.TheVariants as chunks
use Rattle.sctp_inbound.specs.declared.receiver.AckTrigger.TheVariants as triggers
use Rattle.sctp_inbound.specs.Receiver.{asked}
use Rattle.sctp_assoc.specs.Chunks.{asks, asks_or_faults, counted_data, deferred, deferred_unless}
use Rattle.sctp_assoc.specs.Chunks.{deferred_where_admitted, on_chunk, on_data, on_new_data, taken_in}
use Rattle.sctp_assoc.specs.Chunks.{goes_unread, left_or_handed_over, taken_unless, taken_where_admitted, then_skips}
use Rattle.sctp_assoc.specs.Chunks.{told, urged}
use Rattle.sctp_assoc.specs.Closing.{is_exhausted}
use Rattle.sctp_assoc.specs.Finding.{stream_found}
use Rattle.sctp_assoc.specs.Resets.{settled}
use Rattle.sctp_assoc.specs.Shown.{Shown, all_waiting}
use Rattle.sctp_sides.specs.Causes.{IsFullForGood, IsUnreadable, LeavesNothingToRead, kept_apart, kept_behind}
use Rattle.sctp_sides.specs.Intake.{is_for_later, later_refusal_of, receive_limit, refusal_of}
use Rattle.sctp_assoc.specs.Happened.{acts_of_chunk}
use Rattle.sctp_assoc.specs.Leads.{Leads}
use Rattle.sctp_assoc.proofs.DataCame.{from_new_tsn, new_tsn}
use Rattle.sctp_assoc.proofs.DataLeadsOn.{data_leads}
use Rattle.sctp_sides.proofs.DataIntake.{Found, PassesLater, PassesTests, data_passed, exhausts_of, fault_of, has_room}
use Rattle.sctp_sides.proofs.DataIntake.{is_found, is_new, may_pass_later, may_passes, passes_may, passes_may_later}
use Rattle.sctp_sides.proofs.DataIntake.{refused_data, refused_later, stream_is_found}
use Rattle.sctp_sides.proofs.ResetsBeside.{settling_changes, skips_of_change}

-- A stream gives a message exactly where one is ready.

some_if : (c : Bool) (q r : Reassembly) (m : ReceivedMessage)
    → is_some (if◌then◌else◌ {A = Reassembly × Option ReceivedMessage} c (r, Some m) (q, None)).1 ≡ c
some_if true q r m = refl
some_if false q r m = refl

ordered_gives : (gs : List Group) (q : Reassembly)
    → is_some (read_ordered q gs).1 ≡ is_due q.next_ssn (slice_get gs 0)
ordered_gives [] q = refl
ordered_gives (g ∷ gs) q =
    some_if (is_due q.next_ssn (Some g)) q
    (record q { next_ssn = after_read g.ssn q.next_ssn; ordered = gs }) (message_of g.pieces)

not_none : (c : Bool) → (c ≡ true → false ≡ true) → not c ≡ true
not_none true h = absurd (false≢true (h refl))
not_none false h = refl

complete_gives : (ms : List ReceivedMessage) (q : Reassembly)
    → is_some (read_from q ms).1 ≡ (not (eqb (length ms) 0) || is_due q.next_ssn (slice_get q.ordered 0))
complete_gives [] q = ordered_gives q.ordered q
complete_gives (m ∷ ms) q =
    sym (or_left (not (eqb (length (m ∷ ms)) 0)) (is_due q.next_ssn (slice_get q.ordered 0))
    (not_none (eqb (length (m ∷ ms)) 0)
    (λ (z : eqb (length (m ∷ ms)) 0 ≡ true). absurd (omega (arith, eqb-true (length (m ∷ ms)) 0 z)))))

taken_gives : (q : Reassembly) → is_some (taken q).1 ≡ is_ready q
taken_gives q = complete_gives q.complete q

reads_none : (q : Reassembly) → is_ready q ≡ false → ready q ≡ []
reads_none q f = none_first (ready q) (ap is_some (sym (reads_give_what_is_ready q).0) ∙ taken_gives q ∙ f)
  where
    none_first : (ms : List ReceivedMessage) → is_some (slice_get ms 0) ≡ false → ms ≡ []
    none_first [] e = refl
    none_first (m ∷ ms) e = absurd (true≢false e)

none_ready : (q : Reassembly) → ready q ≡ [] → is_ready q ≡ false
none_ready q e =
    sym (taken_gives q)
    ∙ ap is_some ((reads_give_what_is_ready q).0 ∙ ap (λ (ms : List ReceivedMessage). slice_get ms 0) e)

and_second : (x y : Bool) → x ≡ true → (x && y) ≡ false → y ≡ false
and_second true y h e = e
and_second false y h e = absurd (false≢true h)

and_false : (x y : Bool) → (x ≡ true → y ≡ false) → (x && y) ≡ false
and_false true y h = h refl
and_false false y h = refl

or_false : (x y : Bool) → (x || y) ≡ false → (x ≡ false) × (y ≡ false)
or_false true y e = absurd (true≢false e)
or_false false y e = (refl, e)

none_or : (x y : Bool) → x ≡ false → y ≡ false → (x || y) ≡ false
none_or true y e f = absurd (true≢false e)
none_or false y e f = f

all_unreadable : (ts : List StreamView) → list_any gives_messages ts ≡ false → AllByRecursion IsUnreadable ts
all_unreadable [] e = tt
all_unreadable (t ∷ ts) e =
    let both = or_false (gives_messages t) (list_any gives_messages ts) e in (
      λ opened. reads_none t.reassembly
          (and_second (is_read_half_open t.halves) (is_ready t.reassembly) opened both.0),
      all_unreadable ts both.1,
    )

none_gives : (ts : List StreamView) → AllByRecursion IsUnreadable ts → list_any gives_messages ts ≡ false
none_gives [] all = refl
none_gives (t ∷ ts) (none, all) =
    none_or (gives_messages t) (list_any gives_messages ts)
    (and_false (is_read_half_open t.halves) (is_ready t.reassembly)
    (λ (opened : is_read_half_open t.halves ≡ true). none_ready t.reassembly (none opened)))
    (none_gives ts all)

-- Nothing is held past a gap exactly where nothing came past one.

nothing_held : (held : List ℕ) → has_gap held ≡ false → held ≡ []
nothing_held [] e = refl
nothing_held (t ∷ ts) e =
    let n : not (eqb (length (t ∷ ts)) 0) ≡ true =
    not_none (eqb (length (t ∷ ts)) 0)
    (λ (z : eqb (length (t ∷ ts)) 0 ≡ true). absurd (omega (arith, eqb-true (length (t ∷ ts)) 0 z))) in
    absurd (true≢false (sym n ∙ e))

gapless_below : (b : Shown) (k : History) → Binds b k → has_gap b.receiver.held ≡ false
    → (o : ℕ) → mem o k.taken ≡ true → o < reach_in k
gapless_below b k binds none o came = ⊎_elim
    (λ (l : ltb o (reach_in k) ≡ true). ltb-true o (reach_in k) l)
    (λ (g : ltb o (reach_in k) ≡ false).
    let there : is_held (tsn k.peer o) b.receiver.held ≡ true =
    binds.held.all o came (ltb-false o (reach_in k) g) in
    absurd (false≢true (sym (ap (is_held (tsn k.peer o)) (nothing_held b.receiver.held none)) ∙ there)))
    (cases_Bool (ltb o (reach_in k)))

gap_of_past : (a : Receiving) (held : List ℕ) → AllByRecursion (IsPast a) held
    → ((o : ℕ) → mem o a.taken ≡ true → o < reach_of a) → has_gap held ≡ false
gap_of_past a [] all below = refl
gap_of_past a (t ∷ ts) (past, all) below = absurd (omega (arith, past.past, below past.offset past.came))

-- The test that a side makes is what is said of its buffer.

no_credit : (size waiting : ℕ) → size - waiting ≡ 0 → size ≤ waiting
no_credit size waiting e = omega (arith, e)

credit_gone : (size waiting : ℕ) → size ≤ waiting → size - waiting ≡ 0
credit_gone size waiting l = omega (arith, l)

not_true : (c : Bool) → not c ≡ true → c ≡ false
not_true true e = absurd (false≢true e)
not_true false e = refl

pub exhausted_is_full : (b : Shown) (k : History) → Binds b k → is_exhausted b ≡ true
    → IsFullForGood b.receiver.buffer_size (kept_apart b) (parts b k)
exhausted_is_full b k binds e =
    let waiting = all_waiting b in
    let credit = eqb (credit_of b.receiver waiting) 0 in
    let gapless = not (has_gap b.receiver.held) in
    let last = and_parts ((credit && gapless) && ltb 0 waiting) (not (some_gives_messages b.streams)) e in
    let third = and_parts (credit && gapless) (ltb 0 waiting) last.0 in
    let two = and_parts credit gapless third.0 in
    record {
      full =
          no_credit b.receiver.buffer_size waiting (eqb-true (credit_of b.receiver waiting) 0 two.0);
      some = ltb-true 0 waiting third.1;
      no_gap = gapless_below b k binds (not_true (has_gap b.receiver.held) two.1);
      unreadable =
          all_unreadable (live_streams b.streams) (not_true (some_gives_messages b.streams) last.1);
    }

pub full_is_exhausted : (b : Shown) (k : History) → Binds b k
    → IsFullForGood b.receiver.buffer_size (kept_apart b) (parts b k) → is_exhausted b ≡ true
full_is_exhausted b k binds f =
    let waiting = all_waiting b in
    let credit = eqb (credit_of b.receiver waiting) 0 in
    let gapless = not (has_gap b.receiver.held) in
    let none = ap not (gap_of_past _ b.receiver.held binds.held.only f.no_gap) in
    let spent = eq-eqb (credit_of b.receiver waiting) 0 (credit_gone b.receiver.buffer_size waiting f.full) in
    and_from ((credit && gapless) && ltb 0 waiting) (not (some_gives_messages b.streams))
    (and_from (credit && gapless) (ltb 0 waiting) (and_from credit gapless spent none) (lt-ltb 0 waiting f.some))
    (ap not (none_gives (live_streams b.streams) f.unreadable))

-- Resets leave the receiver.

pub settled_receiver : (a : Shown) → (settled a).receiver ≡ a.receiver
settled_receiver a = ap (λ (z : Shown). z.receiver) (settling_changes a)

-- What asks to be acknowledged changes nothing.
keeps_if : (e : Bool) (a : Shown) (f g : Flow) → (if◌then◌else◌ {A = Shown × Flow} e (a, f) (a, g)).0 ≡ a
keeps_if true a f g = refl
keeps_if false a f g = refl

asks_keeps : (a : Shown) (immediate : Bool) (trigger : AckTrigger) → (asks a immediate trigger).0 ≡ a
asks_keeps a immediate trigger =
    keeps_if (is_exhausted a) a flows.Exhausted (flows.Next (asked a.receiver trigger immediate))

-- DATA leaves the size of the buffer.

abbrev size_of : Shown → ℕ
size_of a = a.receiver.buffer_size

pick_receiver : (c : Bool) (x y : Shown) (r : Receiver) → x.receiver ≡ r → y.receiver ≡ r
    → (if◌then◌else◌ {A = Shown} c x y).receiver ≡ r
pick_receiver true x y r e f = e
pick_receiver false x y r e f = f

told_receiver : (a : Shown) (id : ℕ) (kept : Bool) → (told a id kept).receiver ≡ a.receiver
told_receiver a id kept = pick_receiver _ _ _ a.receiver refl refl

taken_size : (o : Option Error) (x : Shown) (piece : ChunkPayloadData)
    → size_of (taken_unless o x piece).0 ≡ size_of x
taken_size (Some error) x piece = refl
taken_size None x piece =
    let put = pushed_in x.streams piece.stream_identifier piece in
    ap (λ (r : Receiver). r.buffer_size)
    (told_receiver (record x { streams = put.0; receiver = taken_to x.receiver piece.tsn }) piece.stream_identifier
    put.1)

skips_size : (y : Shown × Option Error) (id : ℕ) → size_of (then_skips y id).0 ≡ size_of y.0
skips_size (b, None) id =
    ap size_of (skips_of_change id b)
skips_size (b, Some fault) id = refl

admitted_size : (room : Bool) (x : Shown) (y : Shown × Option Error) → size_of y.0 ≡ size_of x
    → size_of (if◌then◌else◌ {A = Shown × Option Error} room y (x, None)).0 ≡ size_of x
admitted_size true x y e = e
admitted_size false x y e = refl

behind_size : (y : Shown × Option Error) (immediate : Bool) (trigger : AckTrigger)
    → size_of (asks_or_faults y immediate trigger).0 ≡ size_of y.0
behind_size (b, None) immediate trigger =
    ap size_of (asks_keeps (settled b) immediate trigger) ∙ ap (λ (r : Receiver). r.buffer_size) (settled_receiver b)
behind_size (b, Some fault) immediate trigger = refl

left_size : (left : Bool) (x : Shown) (piece : ChunkPayloadData)
    → size_of (left_or_handed_over left x piece).0 ≡ size_of x
left_size true x piece = refl
left_size false x piece =
    taken_size (refusal_in x.streams piece.stream_identifier piece (receive_limit x)) x piece

new_size : (x : Shown × Bool) (piece : ChunkPayloadData) (trigger : AckTrigger)
    → size_of (on_new_data x piece trigger).0 ≡ size_of x.0
unfolding taken_in
new_size (x, false) piece trigger = refl
new_size (x, true) piece trigger =
    behind_size (taken_where_admitted x piece) piece.immediate_sack trigger
    ∙ admitted_size (has_room x piece) x (then_skips (taken_in x piece) piece.stream_identifier)
    (skips_size (taken_in x piece) piece.stream_identifier
    ∙ left_size (goes_unread x piece) x piece)

deferring_size : (o : Option Error) (x : Shown) (piece : ChunkPayloadData)
    → size_of (deferred_unless o x piece).0 ≡ size_of x
deferring_size (Some error) x piece = refl
deferring_size None x piece = refl

deferred_size : (x : Shown) (piece : ChunkPayloadData) → size_of (deferred_where_admitted x piece).0 ≡ size_of x
unfolding deferred_where_admitted
deferred_size x piece =
    admitted_size (has_room x piece) x (deferred x piece) (deferring_size (later_refusal_of x piece) x piece)

found_size : (there left : Bool) (a : Shown) (id : ℕ) → is_some (stream_at a.streams id) ≡ there
    → generation_left a.streams ≡ left
    → size_of (stream_found a id).0 ≡ size_of a
unfolding stream_found
found_size true left a id e f = rw e refl
found_size false true a id e f = rw (e, f) refl
found_size false false a id e f = rw (e, f) refl

data_size : (next later : Bool) (a : Shown) (piece : ChunkPayloadData) (trigger : AckTrigger) → is_new a piece ≡ next
    → is_for_later a piece ≡ later → size_of (on_data a piece trigger).0 ≡ size_of a
unfolding on_data
data_size true true a piece trigger e f =
    rw (e, f) (behind_size (deferred_where_admitted (counted_data a) piece) piece.immediate_sack trigger
    ∙ deferred_size (counted_data a) piece)
data_size true false a piece trigger e f =
    rw (e, f) (new_size (stream_found (counted_data a) piece.stream_identifier) piece trigger
    ∙ found_size _ _ (counted_data a) piece.stream_identifier refl refl)
data_size false later a piece trigger e f =
    rw e (behind_size (counted_data a, None) piece.immediate_sack trigger)

-- What DATA leaves is the same whatever asked before.

behind_same : (y : Shown × Option Error) (immediate : Bool) (s t : AckTrigger)
    → (asks_or_faults y immediate s).0 ≡ (asks_or_faults y immediate t).0
behind_same (b, None) immediate s t = asks_keeps (settled b) immediate s ∙ sym (asks_keeps (settled b) immediate t)
behind_same (b, Some fault) immediate s t = refl

new_same : (x : Shown × Bool) (piece : ChunkPayloadData) (s t : AckTrigger)
    → (on_new_data x piece s).0 ≡ (on_new_data x piece t).0
new_same (x, false) piece s t = refl
new_same (x, true) piece s t = behind_same (taken_where_admitted x piece) piece.immediate_sack s t

data_same : (next later : Bool) (a : Shown) (piece : ChunkPayloadData) (s t : AckTrigger) → is_new a piece ≡ next
    → is_for_later a piece ≡ later → (on_data a piece s).0 ≡ (on_data a piece t).0
unfolding on_data
data_same true true a piece s t e f =
    rw (e, f) (behind_same (deferred_where_admitted (counted_data a) piece) piece.immediate_sack s t)
data_same true false a piece s t e f =
    rw (e, f) (new_same (stream_found (counted_data a) piece.stream_identifier) piece s t)
data_same false later a piece s t e f = rw e (behind_same (counted_data a, None) piece.immediate_sack s t)

kept_same : (a : Shown) (header : CommonHeader) (piece : ChunkPayloadData) (trigger : AckTrigger)
    → kept_apart (on_data a piece trigger).0 ≡ kept_behind a header (chunks.Data piece)
unfolding on_chunk
kept_same a header piece trigger =
    ap kept_apart (data_same (is_new a piece) (is_for_later a piece) a piece trigger (urged a piece triggers.None) refl refl)

-- DATA tells of it where it asks to be acknowledged: it is no fault, and its stream is there or can be made, or it is
-- of a generation that is not read yet.

-- not new, or of a generation that is not read yet, or of a stream that is there or can be made
abbrev goes_somewhere : Shown → ChunkPayloadData → Bool
goes_somewhere a piece = not (is_new a piece) || (is_for_later a piece || is_found a piece)

abbrev is_no_fault : Flow → Bool
is_no_fault f = not (is_some (fault_of f))

-- a flow tells of an exhausted receive buffer where it is no fault and leaves one
abbrev TellsTruly : Shown × Flow → Type 0
TellsTruly x = exhausts_of x.1 ≡ (is_no_fault x.1 && is_exhausted x.0)

truly_if : (e : Bool) (a : Shown) (t : AckTrigger) → is_exhausted a ≡ e
    → TellsTruly (if◌then◌else◌ {A = Shown × Flow} e (a, flows.Exhausted) (a, flows.Next t))
truly_if true a t e = sym e
truly_if false a t e = sym e

behind_truly : (y : Shown × Option Error) (immediate : Bool) (trigger : AckTrigger)
    → TellsTruly (asks_or_faults y immediate trigger)
behind_truly (b, None) immediate trigger =
    let c : Shown = settled b in truly_if (is_exhausted c) c (asked c.receiver trigger immediate) refl
behind_truly (b, Some fault) immediate trigger = refl

found_truly : (a : Shown) (x : Shown × Bool) (piece : ChunkPayloadData) (trigger : AckTrigger) → Found a piece x
    → exhausts_of (on_new_data x piece trigger).1
    ≡ (is_found a piece && (is_no_fault (on_new_data x piece trigger).1
    && is_exhausted (on_new_data x piece trigger).0))
found_truly a (x, false) piece trigger f = ap (λ (c : Bool). c && is_exhausted x) f.found
found_truly a (x, true) piece trigger f =
    let y = on_new_data (x, true) piece trigger in
    behind_truly (taken_where_admitted x piece) piece.immediate_sack trigger
    ∙ ap (λ (c : Bool). c && (is_no_fault y.1 && is_exhausted y.0)) f.found

data_truly : (next later : Bool) (a : Shown) (piece : ChunkPayloadData) (trigger : AckTrigger)
    → is_new a piece ≡ next → is_for_later a piece ≡ later
    → exhausts_of (on_data a piece trigger).1
    ≡ ((not next || (later || is_found a piece))
    && (is_no_fault (on_data a piece trigger).1 && is_exhausted (on_data a piece trigger).0))
unfolding on_data
data_truly true true a piece trigger e f =
    rw (e, f) (behind_truly (deferred_where_admitted (counted_data a) piece) piece.immediate_sack trigger)
data_truly true false a piece trigger e f =
    rw (e, f)
    (found_truly a (stream_found (counted_data a) piece.stream_identifier) piece trigger (stream_is_found a piece))
data_truly false later a piece trigger e f =
    rw e (behind_truly (counted_data a, None) piece.immediate_sack trigger)

pub flow_is : (f : Flow) → exhausts_of f ≡ true → f ≡ flows.Exhausted
flow_is (flows.Next trigger) e = absurd (false≢true e)
flow_is (flows.Fault error) e = absurd (false≢true e)
flow_is flows.Closed e = absurd (false≢true e)
flow_is flows.Exhausted e = refl

somewhere_found : (next later found : Bool) → next ≡ true → later ≡ false → (not next || (later || found)) ≡ true
    → found ≡ true
somewhere_found true false found n l e = e
somewhere_found true true found n l e = absurd (true≢false l)
somewhere_found false later found n l e = absurd (false≢true n)

found_somewhere : (next later found : Bool) → (next ≡ true → later ≡ false → found ≡ true)
    → (not next || (later || found)) ≡ true
found_somewhere true false found f = f refl refl
found_somewhere true true found f = refl
found_somewhere false later found f = refl

no_fault_is : (f : Flow) (o : Option Error) → fault_of f ≡ o → is_no_fault f ≡ true → o ≡ None
no_fault_is f None e n = refl
no_fault_is f (Some error) e n = absurd (false≢true (sym (ap (λ (x : Option Error). not (is_some x)) e) ∙ n))

none_is_no_fault : (o : Option Error) (f : Flow) → fault_of f ≡ o → ((error : Error) → fault_of f ≡ Some error → ⊥)
    → is_no_fault f ≡ true
none_is_no_fault None f e none = ap (λ (x : Option Error). not (is_some x)) e
none_is_no_fault (Some error) f e none = absurd (none error e)

module _ (a : Shown) (h : History) (header : CommonHeader) (piece : ChunkPayloadData) (trigger : AckTrigger)
    (binds : Binds a h) where
  data_leads_on : (k : History) × Leads (acts_of_chunk a header (chunks.Data piece)) a h (on_data a piece trigger).0 k
  unfolding on_chunk
  data_leads_on = data_leads a piece trigger h binds

  pub exhausting_data_leaves_nothing : exhausts_of (on_data a piece trigger).1 ≡ true
      → LeavesNothingToRead a h header piece
  exhausting_data_leaves_nothing e =
      let b : Shown = (on_data a piece trigger).0 in
      let flow : Flow = (on_data a piece trigger).1 in
      let both =
      and_parts (goes_somewhere a piece) (is_no_fault flow && is_exhausted b)
      (sym (data_truly (is_new a piece) (is_for_later a piece) a piece trigger refl refl) ∙ e) in
      let left = and_parts (is_no_fault flow) (is_exhausted b) both.1 in
      let on = data_leads_on in
      let full = exhausted_is_full b on.0 on.1.binds left.1 in
      record {
        stream = λ new now.
            or_cases (is_some (stream_at a.streams piece.stream_identifier)) (generation_left a.streams)
            (somewhere_found (is_new a piece) (is_for_later a piece) (is_found a piece)
            (from_new_tsn h a.streams a.receiver piece.tsn binds.peer_last_tsn binds.held new) now both.0);
        fits = λ may.
            no_fault_is flow (refusal_of a piece)
            (refused_data a piece trigger (may_passes a h piece binds may)) left.0;
        later_fits = λ may.
            no_fault_is flow (later_refusal_of a piece)
            (refused_later a piece trigger (may_pass_later a h piece binds may)) left.0;
        full =
            subst (IsFullForGood a.receiver.buffer_size (kept_behind a header (chunks.Data piece))) on.1.there
            (subst (λ (n : ℕ). IsFullForGood a.receiver.buffer_size n (parts b on.0))
            (kept_same a header piece trigger)
            (subst (λ (n : ℕ). IsFullForGood n (kept_apart b) (parts b on.0))
            (data_size (is_new a piece) (is_for_later a piece) a piece trigger refl refl) full));
      }

  unrefused : LeavesNothingToRead a h header piece → (error : Error)
      → fault_of (on_data a piece trigger).1 ≡ Some error → ⊥
  unrefused c error e = ⊎_elim
      (λ (r : PassesTests a piece × (refusal_of a piece ≡ Some error)).
      false≢true (ap is_some (sym (c.fits (passes_may a h piece binds r.0)) ∙ r.1)))
      (λ (r : PassesLater a piece × (later_refusal_of a piece ≡ Some error)).
      false≢true (ap is_some (sym (c.later_fits (passes_may_later a h piece binds r.0)) ∙ r.1)))
      (data_passed a piece trigger error e)

  pub nothing_left_exhausts : LeavesNothingToRead a h header piece → exhausts_of (on_data a piece trigger).1 ≡ true
  nothing_left_exhausts c =
      let b : Shown = (on_data a piece trigger).0 in
      let flow : Flow = (on_data a piece trigger).1 in
      let on = data_leads_on in
      let full : IsFullForGood b.receiver.buffer_size (kept_apart b) (parts b on.0) =
      subst (λ (n : ℕ). IsFullForGood n (kept_apart b) (parts b on.0))
      (sym (data_size (is_new a piece) (is_for_later a piece) a piece trigger refl refl))
      (subst (λ (n : ℕ). IsFullForGood a.receiver.buffer_size n (parts b on.0))
      (sym (kept_same a header piece trigger))
      (subst (IsFullForGood a.receiver.buffer_size (kept_behind a header (chunks.Data piece))) (sym on.1.there)
      c.full)) in
      let somewhere : goes_somewhere a piece ≡ true =
      found_somewhere (is_new a piece) (is_for_later a piece) (is_found a piece)
      (λ (n : is_new a piece ≡ true) (l : is_for_later a piece ≡ false).
      ⊎_elim
      (λ there. or_left (is_some (stream_at a.streams piece.stream_identifier)) (generation_left a.streams) there)
      (λ left. or_right (is_some (stream_at a.streams piece.stream_identifier)) (generation_left a.streams) left)
      (c.stream (new_tsn h a.streams a.receiver piece.tsn binds.peer_last_tsn binds.held n) l)) in
      data_truly (is_new a piece) (is_for_later a piece) a piece trigger refl refl
      ∙ and_from (goes_somewhere a piece) (is_no_fault flow && is_exhausted b) somewhere
      (and_from (is_no_fault flow) (is_exhausted b) (none_is_no_fault (fault_of flow) flow refl (unrefused c))
      (full_is_exhausted b on.0 on.1.binds full))
