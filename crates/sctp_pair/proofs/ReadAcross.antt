-- Messages that were read stand at indexes of their own among those that were written, whether their stream was reset
-- in between or not.
use Rattle.std.proofs.Common.{◌≡◌, refl, sym, ap, ◌∙◌, subst, ⊎_elim, ℕ, ◌<◌, ◌≤◌, ◌+◌, arith, Bool, true, false, eqb}
use Rattle.std.proofs.Common.{List, [], ◌∷◌, ◌++◌, length, map, Option, Some, None}
use Rattle.std.specs.Prelude.{◌||◌}
use Rattle.std.specs.List.{AllByRecursion}
use Rattle.std.proofs.lemmas.Bool.{cases_Bool, eq-eqb, eqb-true, false≢true}
use Rattle.std.proofs.lemmas.List.{append-nil, map-append}
use Rattle.sctp_serial.specs.Serial.{tsn}
use Rattle.sctp_wire_types.specs.Ids.{number_of}
use Rattle.sctp_wire_types.specs.declared.chunk.ChunkPayloadData.{ChunkPayloadData}
use Rattle.sctp_receive_queues.specs.Messages.{ReceivedMessage, bytes_left}
use Rattle.sctp_receive_queues.specs.Pieces.{is_complete}
use Rattle.sctp_model.specs.Messages.{Message, Place, Plan, message_at, place_at}
use Rattle.sctp_model.specs.Packets.{mem}
use Rattle.sctp_model.specs.Safe.{AreDistinct}
use Rattle.sctp_model.proofs.Lists.{all_push, all_weaker}
use Rattle.sctp_courses.specs.Course.{Told, offsets_told, times}
use Rattle.sctp_courses.proofs.Counts.{times_told}
use Rattle.sctp_courses.proofs.Times.{times-join}
use Rattle.sctp_reset_fit.specs.Stands.{offset_of}
use Rattle.sctp_plans.specs.Plans.{IsAccepted, IsGrown, StandsIn}
use Rattle.sctp_plans.proofs.Proved.{tsn_counted}
use Rattle.sctp_assoc.specs.Shown.{Shown}
use Rattle.sctp_course_sides.specs.Turns.{Grows}
use Rattle.sctp_boundaries.specs.Between.{IsGivenOut}
use Rattle.sctp_pair.specs.Across.{WasAccepted}
use Rattle.sctp_pair.specs.Callers.{AreAt, IsAsWritten, WrittenMessage, messages_of}
use Rattle.sctp_pair.proofs.WrittenIndexes.{AreTold, named_of, told_index, told_join}

-- A message that was read, what its course tells of it, and the number under which it was accepted.
pub record Entry : Type 0 where
  pub message : ReceivedMessage
  pub told : Told
  pub number : ℕ

-- It is the one that was accepted under this number, and one of the offsets that are told is assigned to that one.
record IsEntry (initial id : ℕ) (p : Plan) (e : Entry) : Type 0 where
  known : e.number < length (p.accepted id)
  bytes : bytes_left e.message ≡ (message_at p id e.number).bytes
  payload_type : number_of e.message.payload_type ≡ (message_at p id e.number).payload_type
  offset : ℕ
  assigned : offset < length p.places
  stream : (place_at p offset).stream ≡ id
  message : (place_at p offset).message ≡ e.number
  counted : 1 ≤ times (offset_of initial (tsn initial offset)) e.told.offsets

abbrev messages_in : List Entry → List ReceivedMessage
messages_in es = map (λ (e : Entry). e.message) es

abbrev told_in : List Entry → List Told
told_in es = map (λ (e : Entry). e.told) es

abbrev numbers_in : List Entry → List ℕ
numbers_in es = map (λ (e : Entry). e.number) es

-- So were all of these messages, each under a number of its own; and what was accepted on the stream are these writes.
pub record ReadNow (initial id : ℕ) (p : Plan) (told : List Told) (ms : List ReceivedMessage) (ws : List WrittenMessage)
    : Type 0 where
  entries : List Entry
  messages : messages_in entries ≡ ms
  tolds : told_in entries ≡ told
  each : AllByRecursion (IsEntry initial id p) entries
  apart : AreDistinct (numbers_in entries)
  written : AreTold (p.accepted id) ws

pub read_nothing : (initial id : ℕ) (p : Plan) (told : List Told) → p.accepted id ≡ [] → [] ≡ told
    → ReadNow initial id p told [] []
read_nothing initial id p told none untold = record {
  entries = [];
  messages = refl;
  tolds = untold;
  each = tt;
  apart = tt;
  written = subst (λ (ms : List Message). AreTold ms []) (sym none) tt;
}

-- an entry stays one while the plan grows
entry_stays : (initial id : ℕ) (p q : Plan) → IsGrown p q → (e : Entry) → IsEntry initial id p e
    → IsEntry initial id q e
entry_stays initial id p q g e k =
    let same = g.places k.offset k.assigned in
    record {
      known = (let before = k.known in let more = g.accepted id in omega arith);
      bytes = k.bytes ∙ sym (ap (λ (m : Message). m.bytes) (g.messages id e.number k.known));
      payload_type =
          k.payload_type ∙ sym (ap (λ (m : Message). m.payload_type) (g.messages id e.number k.known));
      offset = k.offset;
      assigned = (let before = k.assigned in let more = g.assigned in omega arith);
      stream = ap (λ (y : Place). y.stream) same ∙ k.stream;
      message = ap (λ (y : Place). y.message) same ∙ k.message;
      counted = k.counted;
    }

-- Numbers of their own

not_in_front : (x n : ℕ) (ns : List ℕ) → (x ≡ n → ⊥) → mem n ns ≡ false → mem n (x ∷ ns) ≡ false
not_in_front x n ns other none =
    ⊎_elim
    (λ (same : eqb x n ≡ true). absurd (other (eqb-true x n same)))
    (λ (apart : eqb x n ≡ false). ap (λ (b : Bool). b || mem n ns) apart ∙ none)
    (cases_Bool (eqb x n))

in_neither : (a b : Bool) → (a || b) ≡ false → (a ≡ false) × (b ≡ false)
in_neither true b e = absurd (false≢true (sym e))
in_neither false b e = (refl, e)

not_behind : (i n : ℕ) (ns : List ℕ) → mem i ns ≡ false → (n ≡ i → ⊥) → mem i (ns ++ n ∷ []) ≡ false
not_behind i n [] none other = not_in_front n i [] other refl
not_behind i n (x ∷ ns) none other =
    let apart = in_neither (eqb x i) (mem i ns) none in
    ap (λ (b : Bool). b || mem i (ns ++ n ∷ [])) apart.0 ∙ not_behind i n ns apart.1 other

itself : (n : ℕ) (ns : List ℕ) → mem n (n ∷ ns) ≡ false → ⊥
itself n ns none =
    let apart = in_neither (eqb n n) (mem n ns) none in false≢true (sym apart.0 ∙ eq-eqb n n refl)

distinct_more : (n : ℕ) (ns : List ℕ) → AreDistinct ns → mem n ns ≡ false → AreDistinct (ns ++ n ∷ [])
distinct_more n [] d none = (refl, tt)
distinct_more n (x ∷ ns) (first, rest) none =
    let apart = in_neither (eqb x n) (mem n ns) none in (
      not_behind x n ns first (λ (same : n ≡ x). itself n ns
          (subst (λ (z : ℕ). mem n (z ∷ ns) ≡ false) (sym same) none)),
      distinct_more n ns rest apart.1,
    )

once_alone : (a b : ℕ) → 1 ≤ a → 1 ≤ b → a + b ≤ 1 → ⊥
once_alone a b one other few = omega arith

behind_alone : (a b c n : ℕ) → n ≡ a + b → n + c ≤ 1 → b + c ≤ 1
behind_alone a b c n e few = omega arith

first_alone : (a b c n : ℕ) → n ≡ a + b → n + c ≤ 1 → a + c ≤ 1
first_alone a b c n e few = omega arith

-- A message was read that was accepted under a number, and on each place of which an offset is told that was told of no
-- message before.
module _ (initial id : ℕ) (p : Plan) (number : ℕ) (offsets : List ℕ)
    (all : (o : ℕ) → o < length p.places → (place_at p o).stream ≡ id → (place_at p o).message ≡ number
    → 1 ≤ times (offset_of initial (tsn initial o)) offsets) where
  number_is_new : (es : List Entry) → AllByRecursion (IsEntry initial id p) es
      → ((o : ℕ) → times o (offsets_told (told_in es)) + times o offsets ≤ 1) → mem number (numbers_in es) ≡ false
  number_is_new [] each once = refl
  number_is_new (e ∷ es) (k, ks) once =
      not_in_front e.number number (numbers_in es)
      (λ (same : e.number ≡ number).
      let o : ℕ = offset_of initial (tsn initial k.offset) in
      once_alone (times o e.told.offsets) (times o offsets) k.counted
      (all k.offset k.assigned k.stream (k.message ∙ same))
      (first_alone (times o e.told.offsets) (times o (offsets_told (told_in es))) (times o offsets)
      (times o (offsets_told (told_in (e ∷ es)))) (times-join o e.told.offsets (offsets_told (told_in es))) (once o)))
      (number_is_new es ks
      (λ o. behind_alone (times o e.told.offsets) (times o (offsets_told (told_in es))) (times o offsets)
      (times o (offsets_told (told_in (e ∷ es)))) (times-join o e.told.offsets (offsets_told (told_in es))) (once o)))

-- One step of a direction

-- pieces of a message are there, and the first of them stands on a place of it
first_stands : (initial id : ℕ) (p : Plan) (number : ℕ) (pieces : List ChunkPayloadData) → is_complete pieces ≡ true
    → AllByRecursion (λ (c : ChunkPayloadData). StandsIn initial id p number c) pieces
    → (o : ℕ) × (o < length p.places) × ((place_at p o).stream ≡ id) × ((place_at p o).message ≡ number)
first_stands initial id p number [] complete mine = absurd (false≢true complete)
first_stands initial id p number (c ∷ cs) complete (s, more) = (s.offset, s.known, s.stream, s.message)

-- The plan grows from p to q by what was accepted, which is as the steps tell it; and what was given out before was
-- accepted in p.
module _ (initial id : ℕ) (p q : Plan) (grown : IsGrown p q) (more : List Message) (others : List WrittenMessage)
    (accepted : q.accepted id ≡ p.accepted id ++ more) (as_told : AreTold more others) (packets : List (List ℕ))
    (given : WasAccepted packets initial p) where
  written_on : (ws : List WrittenMessage) → AreTold (p.accepted id) ws → AreTold (q.accepted id) (ws ++ others)
  written_on ws before =
      subst (λ (ms : List Message). AreTold ms (ws ++ others)) (sym accepted)
      (told_join (p.accepted id) ws more others before as_told)

  entries_stay : (es : List Entry) → AllByRecursion (IsEntry initial id p) es
      → AllByRecursion (IsEntry initial id q) es
  entries_stay es each =
      all_weaker (IsEntry initial id p) (IsEntry initial id q) es (entry_stays initial id p q grown) each

  pub read_on : (m : Option ReceivedMessage) (a : Shown) (before after : List Told) (ms : List ReceivedMessage)
      (ws : List WrittenMessage) → Grows (IsGivenOut packets) initial id m a before after
      → ((o : ℕ) → times o (offsets_told after) ≤ 1) → ReadNow initial id p before ms ws
      → ReadNow initial id q after (ms ++ messages_of m) (ws ++ others)
  read_on None a before after ms ws same once r = record {
    entries = r.entries;
    messages = r.messages ∙ sym (append-nil ms);
    tolds = r.tolds ∙ sym same;
    each = entries_stay r.entries r.each;
    apart = r.apart;
    written = written_on ws r.written;
  }
  read_on (Some m) a before after ms ws g once r =
      let made = g.made.made in
      let was = given id m made in
      let is : IsAccepted initial id p m made.pieces = was.0 in
      let t : Told = record { generation = g.stream.stats.generation; offsets = g.offsets } in
      let e : Entry = record { message = m; told = t; number = is.number } in
      let all : (o : ℕ) → o < length p.places → (place_at p o).stream ≡ id → (place_at p o).message ≡ is.number
      → 1 ≤ times (offset_of initial (tsn initial o)) g.offsets =
      λ o known stream message.
      subst (λ (os : List ℕ). 1 ≤ times (offset_of initial (tsn initial o)) os) (sym g.made.offsets)
      (tsn_counted initial (tsn initial o) made.pieces (is.all o known stream message)) in
      let first = first_stands initial id p is.number made.pieces made.complete is.mine in
      let here : IsEntry initial id p e = record {
        known = is.known;
        bytes = is.bytes;
        payload_type = was.1;
        offset = first.0;
        assigned = first.1;
        stream = first.2;
        message = first.3;
        counted = all first.0 first.1 first.2 first.3;
      } in
      let alone : (o : ℕ) → times o (offsets_told (told_in r.entries)) + times o g.offsets ≤ 1 =
      λ o.
      subst (λ (ts : List Told). times o (offsets_told ts) + times o g.offsets ≤ 1) (sym r.tolds)
      (subst (λ (n : ℕ). n ≤ 1) (times_told o before t)
      (subst (λ (ts : List Told). times o (offsets_told ts) ≤ 1) g.is (once o))) in
      record {
        entries = r.entries ++ e ∷ [];
        messages =
            map-append (λ (z : Entry). z.message) r.entries (e ∷ [])
            ∙ ap (λ (z : List ReceivedMessage). z ++ m ∷ []) r.messages;
        tolds =
            map-append (λ (z : Entry). z.told) r.entries (e ∷ []) ∙ ap (λ (z : List Told). z ++ t ∷ []) r.tolds
            ∙ sym g.is;
        each = entries_stay (r.entries ++ e ∷ []) (all_push (IsEntry initial id p) r.entries e r.each here);
        apart =
            subst AreDistinct (sym (map-append (λ (z : Entry). z.number) r.entries (e ∷ [])))
            (distinct_more is.number (numbers_in r.entries) r.apart
            (number_is_new initial id p is.number g.offsets all r.entries r.each alone));
        written = written_on ws r.written;
      }

-- What was read so far

entries_at : (initial id : ℕ) (p : Plan) (es : List Entry) (ws : List WrittenMessage)
    → AllByRecursion (IsEntry initial id p) es → AreTold (p.accepted id) ws
    → AreAt (messages_in es) (numbers_in es) ws
entries_at initial id p [] ws each told = tt
entries_at initial id p (e ∷ es) ws (k, ks) told =
    let at = told_index (p.accepted id) ws e.number told k.known in
    let same : IsAsWritten e.message at.0 = record {
      bytes = k.bytes ∙ at.2.bytes;
      payload_type = named_of at.0.named e.message.payload_type _ k.payload_type at.2.payload_type;
    } in
    ((at.0, at.1, same), entries_at initial id p es ws ks told)

pub written_at_indexes : (initial id : ℕ) (p : Plan) (told : List Told) (ms : List ReceivedMessage)
    (ws : List WrittenMessage) → ReadNow initial id p told ms ws
    → (indexes : List ℕ) × AreDistinct indexes × AreAt ms indexes ws
written_at_indexes initial id p told ms ws r = (
  numbers_in r.entries,
  r.apart,
  subst (λ (z : List ReceivedMessage). AreAt z (numbers_in r.entries) ws) r.messages
      (entries_at initial id p r.entries ws r.each r.written),
)
