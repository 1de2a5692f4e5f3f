-- What the marks of events say of Finished.
use Rattle.std.proofs.Common.{◌≡◌, refl, sym, ap, ◌∙◌, subst, ⊎_elim, ℕ, zero, suc, ◌+◌, ◌<◌, ◌≤◌, ◌==◌, nat_lt}
use Rattle.std.proofs.Common.{Bool, true, false, ◌&&◌, not, cond, List, [], ◌∷◌, ◌++◌, length, take, slice_get}
use Rattle.std.proofs.Common.{slice_set, Option, Some, None, append_assoc, arith}
use Rattle.std.proofs.lemmas.Bool.{cases_eq, cases_lt, le-ltb, lt-ltb, ne_eqb}
use Rattle.std.proofs.lemmas.Bool.Decides.{nat_tests}
use Rattle.std.proofs.lemmas.List.{append-nil, length_push, take-append-le, take_all}
use Rattle.std.proofs.lemmas.List.Sums.{sum_by_push}
use Rattle.sctp_wire_types.specs.declared.event.StreamEvent.TheVariants as told
use Rattle.sctp_streams.specs.declared.event.Event.{Event}
use Rattle.sctp_streams.specs.declared.event.Event.TheVariants as events
use Rattle.sctp_generations.specs.Generations.{GenerationsView}
use Rattle.sctp_generations.specs.Retiring.{count_at}
use Rattle.sctp_resets.specs.declared.marks.Mark.{Mark}
use Rattle.sctp_resets.specs.declared.marks.Mark.TheVariants as marks
use Rattle.sctp_resets.specs.Marks.{AreMarked, Says, again, finished_marked_at, marked, marked_from, remainder_of}
use Rattle.sctp_resets.specs.Marks.{tells_finished}
use Rattle.sctp_resets.specs.Telling.{finished_in, has_unready, is_finished_of}

and_false : (b : Bool) → (b && false) ≡ false
and_false true = refl
and_false false = refl

plus_nothing : (n : ℕ) → n + 0 ≡ n
plus_nothing n = omega arith

nothing_plus : (n : ℕ) → 0 + n ≡ n
nothing_plus n = omega arith

-- Finished among the first events, where one event more stands behind all
one_more : (id first : ℕ) (es : List Event) (e : Event)
    → finished_in id (take first (es ++ e ∷ []))
    ≡ finished_in id (take first es) + cond (nat_lt (length es) first && is_finished_of id e) 1 0
one_more id first es e =
    ⊎_elim (
    λ (past : length es < first).
    let longer = length_push es e in
    let all : take first (es ++ e ∷ []) ≡ es ++ e ∷ [] = take_all first (es ++ e ∷ []) (omega (arith, past, longer)) in
    let before : take first es ≡ es = take_all first es (omega (arith, past)) in
    rw (all, before, lt-ltb (length es) first past) (sum_by_push (λ x. cond (is_finished_of id x) 1 0) es e)
    ) (
    λ (within : first ≤ length es).
    rw (take-append-le first es (e ∷ []) within, le-ltb (length es) first within)
    (sym (plus_nothing (finished_in id (take first es))))
    ) (cases_lt (length es) first)

tells_last : (id : ℕ) (es : List Event) (e : Event)
    → tells_finished id (slice_get (es ++ e ∷ []) (length es)) ≡ is_finished_of id e
tells_last id [] e = refl
tells_last id (x ∷ es) e = tells_last id es e

tells_same : (id : ℕ) (es : List Event) (e : Event) (index : ℕ) → is_finished_of id e ≡ false
    → tells_finished id (slice_get (es ++ e ∷ []) index) ≡ tells_finished id (slice_get es index)
tells_same id [] e zero other = other
tells_same id [] e (suc index) other = refl
tells_same id (x ∷ es) e zero other = refl
tells_same id (x ∷ es) e (suc index) other = tells_same id es e index other

-- behind an event that is not Finished of the stream its mark says the same
stays_said : (o : Option Mark) (id : ℕ) (es : List Event) (e : Event) → is_finished_of id e ≡ false → Says o id es
    → Says o id (es ++ e ∷ [])
stays_said None id es e other said = tt
stays_said (Some marks.Nowhere) id es e other said =
    λ first. one_more id first es e ∙ rw (said first, other, and_false (nat_lt (length es) first)) refl
stays_said (Some (marks.Once index)) id es e other said =
    λ first.
    one_more id first es e
    ∙ rw (other, and_false (nat_lt (length es) first), tells_same id es e index other)
    (plus_nothing (finished_in id (take first es)) ∙ said first)
stays_said (Some marks.Often) id es e other said = tt

-- behind any event the mark that has one more says of it
again_said : (m : Mark) (id : ℕ) (es : List Event) (e : Event) → Says (Some m) id es
    → Says (Some (again m (length es))) id (es ++ e ∷ [])
again_said marks.Nowhere id es e said =
    λ first.
    one_more id first es e
    ∙ rw (said first, tells_last id es e)
    (nothing_plus (cond (nat_lt (length es) first && is_finished_of id e) 1 0))
again_said (marks.Once index) id es e said = tt
again_said marks.Often id es e said = tt

set_same : (ms : List Mark) (i : ℕ) (m n : Mark) → slice_get ms i ≡ Some m → slice_get (slice_set ms i n) i ≡ Some n
set_same [] i m n at = cc
set_same (x ∷ ms) zero m n at = refl
set_same (x ∷ ms) (suc i) m n at = set_same ms i m n at

set_apart : (ms : List Mark) (i j : ℕ) (n : Mark) → (i ≡ j → ⊥) → slice_get (slice_set ms i n) j ≡ slice_get ms j
set_apart [] i j n apart = refl
set_apart (x ∷ ms) zero zero n apart = absurd (apart refl)
set_apart (x ∷ ms) zero (suc j) n apart = refl
set_apart (x ∷ ms) (suc i) zero n apart = refl
set_apart (x ∷ ms) (suc i) (suc j) n apart = set_apart ms i j n (λ (e : i ≡ j). apart (ap suc e))

module _ (ms : List Mark) (es : List Event) (are : AreMarked ms es) where
  -- an event that is Finished of no stream leaves the marks
  nothing_said : (e : Event) → ((id : ℕ) → is_finished_of id e ≡ false) → AreMarked ms (es ++ e ∷ [])
  nothing_said e never id = stays_said (slice_get ms (remainder_of id)) id es e (never id) (are id)

  module _ (i id : ℕ) where
    abbrev with_finished : List Event
    with_finished = es ++ events.Stream (told.Finished i) ∷ []

    abbrev SaysBehind : Option Mark → Type 0
    SaysBehind o = Says (slice_get (finished_marked_at o ms (remainder_of i) (length es)) (remainder_of id)) id with_finished

    same_said : (o : Option Mark) → slice_get ms (remainder_of i) ≡ o → remainder_of i ≡ remainder_of id → SaysBehind o
    same_said None at same = subst (λ (o : Option Mark). Says o id with_finished) (sym at ∙ ap (slice_get ms) same) tt
    same_said (Some m) at same =
        subst (λ (o : Option Mark). Says o id with_finished)
        (sym (set_same ms (remainder_of i) m (again m (length es)) at)
        ∙ ap (slice_get (slice_set ms (remainder_of i) (again m (length es)))) same)
        (again_said m id es (events.Stream (told.Finished i))
        (subst (λ (o : Option Mark). Says o id es) (ap (slice_get ms) (sym same) ∙ at) (are id)))

    others_said : (o : Option Mark) → (remainder_of i ≡ remainder_of id → ⊥) → SaysBehind o
    others_said o apart = by o
      where
        left : Says (slice_get ms (remainder_of id)) id with_finished
        left =
            stays_said (slice_get ms (remainder_of id)) id es (events.Stream (told.Finished i))
            (ne_eqb i id (λ (e : i ≡ id). apart (ap (λ (x : ℕ). remainder_of x) e))) (are id)

        by : (o : Option Mark) → SaysBehind o
        by None = left
        by (Some m) =
            subst (λ (o : Option Mark). Says o id with_finished)
            (sym (set_apart ms (remainder_of i) (remainder_of id) (again m (length es)) apart)) left

    finished_said : SaysBehind (slice_get ms (remainder_of i))
    finished_said =
        ⊎_elim (same_said (slice_get ms (remainder_of i)) refl) (others_said (slice_get ms (remainder_of i)))
        (cases_eq (remainder_of i) (remainder_of id))

  -- the marks with one event more are those of the events with it
  one_marked : (e : Event) → AreMarked (marked (length es) e ms) (es ++ e ∷ [])
  unfolding marked
  one_marked events.Connected = nothing_said events.Connected (λ id. refl)
  one_marked (events.HandshakeFailed reason) = nothing_said (events.HandshakeFailed reason) (λ id. refl)
  one_marked (events.AssociationLost reason) = nothing_said (events.AssociationLost reason) (λ id. refl)
  one_marked (events.Stream (told.Opened i)) = nothing_said (events.Stream (told.Opened i)) (λ id. refl)
  one_marked (events.Stream (told.Readable i)) = nothing_said (events.Stream (told.Readable i)) (λ id. refl)
  one_marked (events.Stream (told.Writable i)) = nothing_said (events.Stream (told.Writable i)) (λ id. refl)
  one_marked (events.Stream (told.Finished i)) = λ id. finished_said i id
  one_marked (events.Stream (told.ResetComplete i)) = nothing_said (events.Stream (told.ResetComplete i)) (λ id. refl)
  one_marked (events.Stream (told.ResetFailed i reason)) =
      nothing_said (events.Stream (told.ResetFailed i reason)) (λ id. refl)
  one_marked (events.Stream (told.Stopped i code)) = nothing_said (events.Stream (told.Stopped i code)) (λ id. refl)
  one_marked (events.Stream (told.BufferedAmountLow i)) =
      nothing_said (events.Stream (told.BufferedAmountLow i)) (λ id. refl)
  one_marked (events.Stream (told.BufferedAmountHigh i)) =
      nothing_said (events.Stream (told.BufferedAmountHigh i)) (λ id. refl)
  one_marked (events.Stream told.Available) = nothing_said (events.Stream told.Available) (λ id. refl)
  one_marked (events.DataChannelStatsFinal stats) = nothing_said (events.DataChannelStatsFinal stats) (λ id. refl)
  one_marked events.DatagramReceived = nothing_said events.DatagramReceived (λ id. refl)

marked_behind : (ms : List Mark) (before es : List Event) → AreMarked ms before
    → AreMarked (marked_from (length before) ms es) (before ++ es)
marked_behind ms before [] are = subst (AreMarked ms) (sym (append-nil before)) are
marked_behind ms before (e ∷ es) are =
    let with_one = marked (length before) e ms in
    let rest = marked_behind with_one (before ++ e ∷ []) es (one_marked ms before are e) in
    subst (λ (index : ℕ). AreMarked (marked_from index with_one es) (before ++ e ∷ es)) (length_push before e)
    (subst (AreMarked (marked_from (length (before ++ e ∷ [])) with_one es)) (append_assoc before (e ∷ []) es) rest)

none_finished : (id first : ℕ) → finished_in id (take first []) ≡ 0
none_finished id first = ap (finished_in id) (take_all first [] (omega arith))

-- where no event stands every mark says what is so
nothing_marked : (ms : List Mark) → AreMarked ms []
nothing_marked ms id = by (slice_get ms (remainder_of id))
  where
    by : (o : Option Mark) → Says o id []
    by None = tt
    by (Some marks.Nowhere) = none_finished id
    by (Some (marks.Once index)) = λ first. none_finished id first ∙ rw (and_false (nat_lt index first)) refl
    by (Some marks.Often) = tt

-- what is noted going over all events is what they are
pub all_marked : (ms : List Mark) (es : List Event) → AreMarked (marked_from 0 ms es) es
all_marked ms es = marked_behind ms [] es (nothing_marked ms)

-- without marks nothing is said
pub none_is_marked : (es : List Event) → AreMarked [] es
none_is_marked es id = tt

-- What the marks say of what is not ready

none_unready : (retires more : Bool) → (retires && false && more) ≡ false
none_unready true more = refl
none_unready false more = refl

once_unready : (unready among all : ℕ) (b c : Bool) → (unready == 0) ≡ false → among ≡ cond b 1 0 → all ≡ cond c 1 0
    → (not (unready == 0) && nat_lt 0 among && nat_lt all (among + unready)) ≡ b
once_unready unready among all true true some e f = rw (some, e, f) (lt-ltb 1 (1 + unready) (grind (arith, nat_tests, some)))
once_unready unready among all true false some e f = rw (some, e, f) (lt-ltb 0 (1 + unready) (omega arith))
once_unready unready among all false c some e f = rw e (none_unready (not (unready == 0)) (nat_lt all (0 + unready)))

module _ (g : GenerationsView) (ms : List Mark) (es : List Event) (first id : ℕ) (are : AreMarked ms es) where
  pub nowhere_unready : slice_get ms (remainder_of id) ≡ Some marks.Nowhere → has_unready g es first id ≡ false
  nowhere_unready at =
      let said = subst (λ (o : Option Mark). Says o id es) at (are id) in
      rw (said first) (none_unready (not (count_at g.retiring id == 0)) (nat_lt (finished_in id es) (0 + count_at g.retiring id)))

  pub once_unready_at : (index : ℕ) → slice_get ms (remainder_of id) ≡ Some (marks.Once index)
      → (count_at g.retiring id == 0) ≡ false
      → has_unready g es first id ≡ (nat_lt index first && tells_finished id (slice_get es index))
  once_unready_at index at some =
      let said = subst (λ (o : Option Mark). Says o id es) at (are id) in
      let whole : take (length es) es ≡ es = take_all (length es) es (omega arith) in
      once_unready (count_at g.retiring id) (finished_in id (take first es)) (finished_in id es)
      (nat_lt index first && tells_finished id (slice_get es index))
      (nat_lt index (length es) && tells_finished id (slice_get es index)) some (said first)
      (sym (ap (finished_in id) whole) ∙ said (length es))
