-- Which of the oldest events wait: what is told next stands behind them, and what leaves them waiting.
use Rattle.std.proofs.Common.{◌≡◌, refl, sym, ap, ◌∙◌, subst, ℕ, zero, suc, ◌+◌, ◌<◌, ◌≤◌, ◌==◌, nat_lt}
use Rattle.std.proofs.Common.{Bool, true, false, ◌&&◌, not, cond, true≢false, List, [], ◌∷◌, ◌++◌, length}
use Rattle.std.proofs.Common.{take, drop, map, remove, append_assoc, slice_get, Option, Some, None, is_some, is_eq}
use Rattle.std.proofs.Common.{nat_cmp, Result, Ok, Err, arith}
use Rattle.std.specs.Prelude.{OnErr, OnOk}
use Rattle.std.specs.BTreeMap.{is_at}
use Rattle.std.specs.Map.{remove_entry}
use Rattle.std.specs.Option.{unwrap_or}
use Rattle.std.proofs.lemmas.Bool.{and_parts, false≢true, not-true}
use Rattle.std.proofs.lemmas.Bool.Decides.{nat_tests}
use Rattle.std.proofs.lemmas.List.{append-nil, length_push, take-append-le, take-take}
use Rattle.std.proofs.lemmas.List.Sums.{sum_by-append, sum_by-take-drop, sum_by-take-le, sum_by_push}
use Rattle.sctp_wire_types.specs.declared.event.StreamEvent.{StreamEvent}
use Rattle.sctp_wire_types.specs.declared.event.StreamEvent.TheVariants as told
use Rattle.sctp_streams.specs.declared.event.Event.{Event}
use Rattle.sctp_streams.specs.declared.event.Event.TheVariants as events
use Rattle.sctp_streams.specs.LowMarks.{low_event}
use Rattle.sctp_generations.specs.Generations.{GenerationsView}
use Rattle.sctp_generations.specs.Retiring.{RetiringMap, count_at}
use Rattle.sctp_reset_requests.specs.declared.debts.Debt.{Debt}
use Rattle.sctp_reset_requests.specs.Debts.{DebtsView, awaits_end, changed, changed_from, entry_at, is_nothing}
use Rattle.sctp_reset_requests.specs.Debts.{nothing_open, one_end_given, one_given, put_from, written_from}
use Rattle.sctp_resets.specs.Telling.{FrontWaits, debts_said, debts_told, finished_in, finished_says, has_unready}
use Rattle.sctp_resets.specs.Telling.{is_not_finished, is_end_held, is_finished_of, is_held, is_told_held, next_told}
use Rattle.sctp_resets.specs.Telling.{retiring_alone, says_no_finished, told_from}
use Rattle.sctp_resets.proofs.StreamsBeside.{removed_apart, same_identifier, set_apart}

-- Lists

there_first : {X : Type 0} (xs : List X) (n : ℕ) (x : X) → slice_get xs n ≡ Some x → drop n xs ≡ x ∷ drop (suc n) xs
there_first [] n x at = absurd (false≢true (ap is_some at))
there_first (y ∷ xs) zero x at = ap (λ z. unwrap_or z x ∷ xs) at
there_first (y ∷ xs) (suc n) x at = there_first xs n x at

none_there : {X : Type 0} (xs : List X) (n : ℕ) → slice_get xs n ≡ None → drop n xs ≡ []
none_there [] zero at = refl
none_there [] (suc n) at = refl
none_there (y ∷ xs) zero at = absurd (true≢false (ap is_some at))
none_there (y ∷ xs) (suc n) at = none_there xs n at

front_there : {X : Type 0} (xs ys : List X) (n : ℕ) → n < length xs → slice_get (xs ++ ys) n ≡ slice_get xs n
front_there [] ys n within = absurd (omega (arith, within))
front_there (x ∷ xs) ys zero within = refl
front_there (x ∷ xs) ys (suc n) within = front_there xs ys n (omega (arith, within))

drop_one : {X : Type 0} (xs : List X) (n : ℕ) → drop (suc n) xs ≡ drop 1 (drop n xs)
drop_one xs zero = refl
drop_one [] (suc n) = refl
drop_one (x ∷ xs) (suc n) = drop_one xs n

left_there : {X : Type 0} (xs : List X) (i n : ℕ) → n < i → slice_get (remove xs i) n ≡ slice_get xs n
left_there [] zero n less = absurd (omega (arith, less))
left_there [] (suc i) n less = refl
left_there (x ∷ xs) zero n less = absurd (omega (arith, less))
left_there (x ∷ xs) (suc i) zero less = refl
left_there (x ∷ xs) (suc i) (suc n) less = left_there xs i n (omega (arith, less))

left_front : {X : Type 0} (xs : List X) (i n : ℕ) → n ≤ i → take n (remove xs i) ≡ take n xs
left_front xs i zero less = refl
left_front [] zero (suc n) less = absurd (omega (arith, less))
left_front [] (suc i) (suc n) less = refl
left_front (x ∷ xs) zero (suc n) less = absurd (omega (arith, less))
left_front (x ∷ xs) (suc i) (suc n) less = ap (λ z. x ∷ z) (left_front xs i n (omega (arith, less)))

left_count : {X : Type 0} (xs : List X) (i : ℕ) → i < length xs → i ≤ length (remove xs i)
left_count [] i within = absurd (omega (arith, within))
left_count (x ∷ xs) zero within = omega arith
left_count (x ∷ xs) (suc i) within = omega (arith, left_count xs i (omega (arith, within)))

there_within : {X : Type 0} (xs : List X) (n : ℕ) (x : X) → slice_get xs n ≡ Some x → n < length xs
there_within [] n x at = absurd (false≢true (ap is_some at))
there_within (y ∷ xs) zero x at = omega arith
there_within (y ∷ xs) (suc n) x at = omega (arith, there_within xs n x at)

-- Finished among events

finished_fewer : (id : ℕ) (es : List Event) (i : ℕ) → finished_in id (remove es i) ≤ finished_in id es
finished_fewer id es i =
    let one : Event → ℕ = λ e. cond (is_finished_of id e) 1 0 in
    let left : finished_in id (remove es i) ≡ finished_in id (take i es) + finished_in id (drop (suc i) es) =
    sum_by-append one (take i es) (drop (suc i) es) in
    let all : finished_in id (take i es) + finished_in id (drop i es) ≡ finished_in id es = sum_by-take-drop one es i in
    let behind : finished_in id (take 1 (drop i es)) + finished_in id (drop (suc i) es) ≡ finished_in id (drop i es) =
    ap (λ (xs : List Event). finished_in id (take 1 (drop i es)) + finished_in id xs)
    (let same : drop (suc i) es ≡ drop 1 (drop i es) = drop_one es i in same)
    ∙ sum_by-take-drop one (drop i es) 1 in
    omega (arith, left, all, behind)

finished_front : (id m n : ℕ) (es : List Event) → m ≤ n → finished_in id (take m es) ≤ finished_in id (take n es)
finished_front id m n es less =
    subst (λ (xs : List Event). finished_in id xs ≤ finished_in id (take n es)) (take-take m n es less)
    (sum_by-take-le (λ e. cond (is_finished_of id e) 1 0) (take n es) m)

-- What holds events back

both_true : (a b : Bool) → a ≡ true → b ≡ true → (a && b) ≡ true
both_true a b e f = rw (e, f) refl

-- where more Finished stand among the first events, or fewer among all, one that is not ready still stands among them
unready_more : (count among more all fewer : ℕ) → among ≤ more → fewer ≤ all
    → (not (count == 0) && nat_lt 0 among && nat_lt all (among + count)) ≡ true
    → (not (count == 0) && nat_lt 0 more && nat_lt fewer (more + count)) ≡ true
unready_more count among more all fewer e f h = grind (arith, nat_tests, e, f, h)

unready_behind : (g : GenerationsView) (es : List Event) (m n id : ℕ) → m ≤ n → has_unready g es m id ≡ true
    → has_unready g es n id ≡ true
unready_behind g es m n id less =
    unready_more (count_at g.retiring id) (finished_in id (take m es)) (finished_in id (take n es)) (finished_in id es)
    (finished_in id es) (finished_front id m n es less) (omega arith)

-- an event that waits does so too where each Finished holds its stream back that did, and no end is awaited that was
-- not
module _ (g h : GenerationsView) (d k : DebtsView) (es fs : List Event) (m n : ℕ)
    (unready : (id : ℕ) → has_unready g es m id ≡ true → has_unready h fs n id ≡ true)
    (awaits : (id : ℕ) → has_unready g es m id ≡ true → awaits_end d id ≡ false → awaits_end k id ≡ false) where
  end_held_on : (id : ℕ) → is_end_held g d es m id ≡ true → is_end_held h k fs n id ≡ true
  end_held_on id held =
      let parts = and_parts (not (awaits_end d id)) (has_unready g es m id) held in
      both_true (not (awaits_end k id)) (has_unready h fs n id)
      (ap not (awaits id parts.1 (not-true (awaits_end d id) parts.0))) (unready id parts.1)

  told_held_on : (e : StreamEvent) → is_told_held g d es m e ≡ true → is_told_held h k fs n e ≡ true
  told_held_on (told.Opened i) held = absurd (false≢true held)
  told_held_on (told.Readable i) held = absurd (false≢true held)
  told_held_on (told.Writable i) held = unready i held
  told_held_on (told.Finished i) held = unready i held
  told_held_on (told.ResetComplete i) held = end_held_on i held
  told_held_on (told.ResetFailed i reason) held = end_held_on i held
  told_held_on (told.Stopped i code) held = unready i held
  told_held_on (told.BufferedAmountLow i) held = unready i held
  told_held_on (told.BufferedAmountHigh i) held = unready i held
  told_held_on told.Available held = absurd (false≢true held)

  held_on : (e : Event) → is_held g d es m e ≡ true → is_held h k fs n e ≡ true
  held_on events.Connected held = absurd (false≢true held)
  held_on (events.HandshakeFailed reason) held = absurd (false≢true held)
  held_on (events.AssociationLost reason) held = absurd (false≢true held)
  held_on (events.Stream e) held = told_held_on e held
  held_on (events.DataChannelStatsFinal stats) held = absurd (false≢true held)
  held_on events.DatagramReceived held = absurd (false≢true held)

-- What is owed of another stream

module _ (d : DebtsView) (id other : ℕ) (apart : is_eq (nat_cmp id other) ≡ false) where
  entry_put : (entry : Option Debt) (t : Debt) → entry_at (put_from entry d other t) id ≡ entry_at d id
  entry_put entry t = by (is_nothing t)
    where
      by : (b : Bool) → entry_at (cond b (record d { by_id = remove_entry (is_at (nat_cmp other)) d.by_id })
          (written_from entry d other t)) id ≡ entry_at d id
      by true = removed_apart id other apart d.by_id
      by false = written entry
        where
          written : (o : Option Debt) → entry_at (written_from o d other t) id ≡ entry_at d id
          written None = refl
          written (Some before) = set_apart id other apart t d.by_id

  entry_changed : (change : Debt → Debt) → entry_at (changed d other change) id ≡ entry_at d id
  entry_changed change = by (entry_at d other)
    where
      by : (o : Option Debt) → entry_at (changed_from o d other change) id ≡ entry_at d id
      by None = refl
      by (Some t) = entry_put (Some t) (change t)

  awaits_changed : (change : Debt → Debt) → awaits_end (changed d other change) id ≡ awaits_end d id
  awaits_changed change = ap (λ (o : Option Debt). nat_lt 0 (unwrap_or o nothing_open).told) (entry_changed change)

-- What is told next

module _ (g : GenerationsView) (d : DebtsView) (es : List Event) where
  -- behind events that wait the others are gone through
  past_held : (xs : List Event) (at n past : ℕ) → past ≡ at + n → n ≤ length xs
      → ((i k : ℕ) (e : Event) → i < n → k ≡ at + i + 1 → slice_get xs i ≡ Some e → is_held g d es k e ≡ true)
      → told_from g d es past (drop n xs) ≡ told_from g d es at xs
  past_held xs at zero past same within held =
      ap (λ (k : ℕ). told_from g d es k xs) (let e : past ≡ at = omega (arith, same) in e)
  past_held [] at (suc n) past same within held = absurd (omega (arith, within))
  past_held (x ∷ xs) at (suc n) past same within held =
      rw (held 0 (at + 1) x (omega arith) (omega arith) refl)
      (past_held xs (at + 1) n past (omega (arith, same)) (omega (arith, within))
      (λ i k e less is there. held (suc i) k e (omega (arith, less)) (omega (arith, is)) there))

  module _ (n : ℕ) (waits : FrontWaits g.retiring d es n) where
    waits_there : (i : ℕ) (e : Event) → i < n → slice_get es i ≡ Some e → is_held g d es (i + 1) e ≡ true
    waits_there i e less there =
        held_on (retiring_alone g.retiring) g d d es es (i + 1) (i + 1) (λ id unready. unready)
        (λ id unready none. none) e (waits.held i e less there)

    pub gone_on_behind : told_from g d es n (drop n es) ≡ next_told g d es
    gone_on_behind =
        past_held es 0 n n (omega arith) waits.within
        (λ i k e less is there.
        subst (λ (z : ℕ). is_held g d es z e ≡ true) (let same : i + 1 ≡ k = omega (arith, is) in same)
        (waits_there i e less there))

    pub first_behind_is_told : (e : Event) → slice_get es n ≡ Some e → is_held g d es (n + 1) e ≡ false
        → next_told g d es ≡ Some n
    first_behind_is_told e at free = sym gone_on_behind ∙ rw (there_first es n e at, free) refl

    pub nothing_is_told : slice_get es n ≡ None → next_told g d es ≡ None
    nothing_is_told at = sym gone_on_behind ∙ rw (none_there es n at) refl

  -- of events from an index on, this one is told, and all in front of it wait
  record IsTold (xs : List Event) (at index : ℕ) : Type 0 where
    past : ℕ
    is : index ≡ at + past
    event : Event
    there : slice_get xs past ≡ Some event
    free : is_held g d es (index + 1) event ≡ false
    before : (i k : ℕ) (e : Event) → i < past → k ≡ at + i + 1 → slice_get xs i ≡ Some e → is_held g d es k e ≡ true

  -- the first of them waits, and of the others these do
  module _ (x : Event) (xs : List Event) (at : ℕ) (held : is_held g d es (at + 1) x ≡ true) (n : ℕ)
      (others : (i k : ℕ) (e : Event) → i < n → k ≡ at + 1 + i + 1 → slice_get xs i ≡ Some e
      → is_held g d es k e ≡ true)
    where
      held_with_first : (i k : ℕ) (e : Event) → i < suc n → k ≡ at + i + 1 → slice_get (x ∷ xs) i ≡ Some e
          → is_held g d es k e ≡ true
      held_with_first zero k e less is there =
          subst (λ (z : ℕ). is_held g d es z e ≡ true) (let same : at + 1 ≡ k = omega (arith, is) in same)
          (subst (λ (y : Event). is_held g d es (at + 1) y ≡ true)
          (ap (λ (o : Option Event). unwrap_or o x) there) held)
      held_with_first (suc i) k e less is there = others i k e (omega (arith, less)) (omega (arith, is)) there

  told_is : (xs : List Event) (at index : ℕ) → told_from g d es at xs ≡ Some index → IsTold xs at index
  told_is [] at index e = absurd (false≢true (ap is_some e))
  told_is (x ∷ xs) at index e = by (is_held g d es (at + 1) x) refl e (told_is xs (at + 1) index)
    where
      by : (b : Bool) → is_held g d es (at + 1) x ≡ b
          → cond b (told_from g d es (at + 1) xs) (Some at) ≡ Some index
          → (told_from g d es (at + 1) xs ≡ Some index → IsTold xs (at + 1) index) → IsTold (x ∷ xs) at index
      by true held e others =
          let rest = others e in
          record {
            past = suc rest.past;
            is = omega (arith, rest.is);
            event = rest.event;
            there = rest.there;
            free = rest.free;
            before = held_with_first x xs at held rest.past rest.before;
          }
      by false free e others =
          let same : at ≡ index = ap (λ (o : Option ℕ). unwrap_or o at) e in
          record {
            past = 0;
            is = omega (arith, same);
            event = x;
            there = refl;
            free = subst (λ (z : ℕ). is_held g d es (z + 1) x ≡ false) same free;
            before = λ i k e less is there. absurd (omega (arith, less));
          }

  none_told : (xs : List Event) (at : ℕ) → told_from g d es at xs ≡ None
      → (i k : ℕ) (e : Event) → i < length xs → k ≡ at + i + 1 → slice_get xs i ≡ Some e → is_held g d es k e ≡ true
  none_told [] at none = λ i k e less is there. absurd (omega (arith, less))
  none_told (x ∷ xs) at none = by (is_held g d es (at + 1) x) refl none (none_told xs (at + 1))
    where
      by : (b : Bool) → is_held g d es (at + 1) x ≡ b → cond b (told_from g d es (at + 1) xs) (Some at) ≡ None
          → (told_from g d es (at + 1) xs ≡ None → (i k : ℕ) (e : Event) → i < length xs → k ≡ at + 1 + i + 1
          → slice_get xs i ≡ Some e → is_held g d es k e ≡ true)
          → (i k : ℕ) (e : Event) → i < length (x ∷ xs) → k ≡ at + i + 1 → slice_get (x ∷ xs) i ≡ Some e
          → is_held g d es k e ≡ true
      by true held none others = held_with_first x xs at held (length xs) (others none)
      by false free none others = absurd (true≢false (ap is_some none))

  -- where none is told all events wait
  pub all_wait : next_told g d es ≡ None → FrontWaits g.retiring d es (length es)
  all_wait none = record {
    within = omega arith;
    held = λ i e less there.
        held_on g (retiring_alone g.retiring) d d es es (i + 1) (i + 1) (λ id unready. unready)
        (λ id unready none. none) e (none_told es 0 none i (i + 1) e less (omega arith) there);
  }

-- What is told is taken out

module _ (g : GenerationsView) (d : DebtsView) (es : List Event) (at : ℕ) where
  -- an end that waits in front of the event that is told is not awaited by that
  module _ (m : ℕ) (less : m ≤ at + 1) where
    module _ (change : Debt → Debt) (told_id : ℕ)
        (apart : has_unready g es m told_id ≡ true → awaits_end d told_id ≡ false → ⊥) where
      waits_for_others : (id : ℕ) → has_unready g es m id ≡ true → awaits_end d id ≡ false
          → awaits_end (changed d told_id change) id ≡ false
      waits_for_others id unready none = by (is_eq (nat_cmp id told_id)) refl
        where
          by : (b : Bool) → is_eq (nat_cmp id told_id) ≡ b → awaits_end (changed d told_id change) id ≡ false
          by true e =
              let same : id ≡ told_id = same_identifier id told_id e in
              absurd (apart (subst (λ (z : ℕ). has_unready g es m z ≡ true) same unready)
              (subst (λ (z : ℕ). awaits_end d z ≡ false) same none))
          by false e = awaits_changed d id told_id e change ∙ none

    unready_there : (id : ℕ) → has_unready g es m id ≡ true → has_unready g es (at + 1) id ≡ false → ⊥
    unready_there id unready ready = true≢false (sym (unready_behind g es m (at + 1) id less unready) ∙ ready)

    end_there : (id : ℕ) → is_end_held g d es (at + 1) id ≡ false → has_unready g es m id ≡ true
        → awaits_end d id ≡ false → ⊥
    end_there id free unready none =
        true≢false
        (sym (both_true (not (awaits_end d id)) (has_unready g es (at + 1) id) (ap not none)
        (unready_behind g es m (at + 1) id less unready)) ∙ free)

    abbrev AwaitsNoMore : DebtsView → Type 0
    AwaitsNoMore k = (id : ℕ) → has_unready g es m id ≡ true → awaits_end d id ≡ false → awaits_end k id ≡ false

    said_awaits_no_more : (e : StreamEvent) → is_told_held g d es (at + 1) e ≡ false → AwaitsNoMore (debts_said e d)
    said_awaits_no_more (told.Opened i) free = λ id unready none. none
    said_awaits_no_more (told.Readable i) free = λ id unready none. none
    said_awaits_no_more (told.Writable i) free = λ id unready none. none
    said_awaits_no_more (told.Finished i) free =
        waits_for_others one_given i (λ unready none. unready_there i unready free)
    said_awaits_no_more (told.ResetComplete i) free = waits_for_others one_end_given i (end_there i free)
    said_awaits_no_more (told.ResetFailed i reason) free = waits_for_others one_end_given i (end_there i free)
    said_awaits_no_more (told.Stopped i code) free = λ id unready none. none
    said_awaits_no_more (told.BufferedAmountLow i) free = λ id unready none. none
    said_awaits_no_more (told.BufferedAmountHigh i) free = λ id unready none. none
    said_awaits_no_more told.Available free = λ id unready none. none

    awaits_no_more : (e : Event) → is_held g d es (at + 1) e ≡ false → AwaitsNoMore (debts_told e d)
    awaits_no_more events.Connected free = λ id unready none. none
    awaits_no_more (events.HandshakeFailed reason) free = λ id unready none. none
    awaits_no_more (events.AssociationLost reason) free = λ id unready none. none
    awaits_no_more (events.Stream e) free = said_awaits_no_more e free
    awaits_no_more (events.DataChannelStatsFinal stats) free = λ id unready none. none
    awaits_no_more events.DatagramReceived free = λ id unready none. none

  unready_left : (n id : ℕ) → n ≤ at → has_unready g es n id ≡ true → has_unready g (remove es at) n id ≡ true
  unready_left n id less =
      unready_more (count_at g.retiring id) (finished_in id (take n es)) (finished_in id (take n (remove es at)))
      (finished_in id es) (finished_in id (remove es at))
      (let same : finished_in id (take n (remove es at)) ≡ finished_in id (take n es) =
      ap (finished_in id) (left_front es at n less) in omega (arith, same))
      (finished_fewer id es at)

  -- where the event that is told is taken out, those in front of it go on waiting
  pub others_go_on_waiting : (e : Event) → next_told g d es ≡ Some at → slice_get es at ≡ Some e
      → FrontWaits g.retiring (debts_told e d) (remove es at) at
  others_go_on_waiting e next there =
      let found = told_is g d es es 0 at next in
      let index : found.past ≡ at = omega (arith, found.is) in
      let same : found.event ≡ e =
      ap (λ (o : Option Event). unwrap_or o e)
      (sym found.there ∙ ap (slice_get es) index ∙ there) in
      let free : is_held g d es (at + 1) e ≡ false =
      subst (λ (y : Event). is_held g d es (at + 1) y ≡ false) same found.free in
      record {
        within = left_count es at (there_within es at e there);
        held = λ i y less left.
            held_on g (retiring_alone g.retiring) d (debts_told e d) es (remove es at) (i + 1) (i + 1)
            (λ id. unready_left (i + 1) id (omega (arith, less)))
            (awaits_no_more (i + 1) (omega (arith, less)) e free) y
            (found.before i (i + 1) y (omega (arith, less, index)) (omega arith)
            (sym (left_there es at i less) ∙ left));
      }

  -- there is an event where one is told
  pub none_missing : {A : Type 0} (queue : List Event) → queue ≡ es → next_told g d queue ≡ Some at
      → slice_get es at ≡ None → A
  none_missing queue same next none =
      let found = told_is g d es es 0 at (ap (next_told g d) (sym same) ∙ next) in
      let index : found.past ≡ at = omega (arith, found.is) in
      absurd (true≢false (ap is_some (sym found.there ∙ ap (slice_get es) index ∙ none)))

  pub left_waiting : (e : Event) (queue rest : List Event) (k : DebtsView) → queue ≡ es → next_told g d queue ≡ Some at
      → slice_get es at ≡ Some e → rest ≡ remove es at → k ≡ debts_told e d → FrontWaits g.retiring k rest at
  left_waiting e queue rest k same next there left noted =
      subst (λ (xs : List Event). FrontWaits g.retiring k xs at) (sym left)
      (subst (λ (x : DebtsView). FrontWaits g.retiring x (remove es at) at) (sym noted)
      (others_go_on_waiting e (ap (next_told g d) (sym same) ∙ next) there))

-- What leaves events waiting

-- that none waits is always so
pub none_waits : (m : RetiringMap) (d : DebtsView) (es : List Event) → FrontWaits m d es 0
none_waits m d es = record { within = omega arith; held = λ i e less there. absurd (omega (arith, less)) }

finished_apart : (id : ℕ) (e : Event) → is_not_finished e ≡ true → is_finished_of id e ≡ false
finished_apart id events.Connected none = refl
finished_apart id (events.HandshakeFailed reason) none = refl
finished_apart id (events.AssociationLost reason) none = refl
finished_apart id (events.Stream e) none = said e none
  where
    said : (e : StreamEvent) → says_no_finished e ≡ true → finished_says id e ≡ false
    said (told.Opened i) none = refl
    said (told.Readable i) none = refl
    said (told.Writable i) none = refl
    said (told.Finished i) none = absurd (false≢true none)
    said (told.ResetComplete i) none = refl
    said (told.ResetFailed i reason) none = refl
    said (told.Stopped i code) none = refl
    said (told.BufferedAmountLow i) none = refl
    said (told.BufferedAmountHigh i) none = refl
    said told.Available none = refl
finished_apart id (events.DataChannelStatsFinal stats) none = refl
finished_apart id events.DatagramReceived none = refl

module _ (m : RetiringMap) (d : DebtsView) (es : List Event) (n : ℕ) where
  -- behind them comes an event for which none waits
  pub waits_before_one : (e : Event) → FrontWaits m d es n → is_not_finished e ≡ true
      → FrontWaits m d (es ++ e ∷ []) n
  waits_before_one e waits none = record {
    within = omega (arith, waits.within, length_push es e);
    held = λ i y less there.
        let before : i < length es = omega (arith, less, waits.within) in
        held_on (retiring_alone m) (retiring_alone m) d d es (es ++ e ∷ []) (i + 1) (i + 1)
        (λ id.
        unready_more (count_at m id) (finished_in id (take (i + 1) es)) (finished_in id (take (i + 1) (es ++ e ∷ [])))
        (finished_in id es) (finished_in id (es ++ e ∷ []))
        (let same : finished_in id (take (i + 1) (es ++ e ∷ [])) ≡ finished_in id (take (i + 1) es) =
        ap (finished_in id) (take-append-le (i + 1) es (e ∷ []) (omega (arith, before))) in omega (arith, same))
        (let pushed : finished_in id (es ++ e ∷ []) ≡ finished_in id es + cond (is_finished_of id e) 1 0 =
        sum_by_push (λ x. cond (is_finished_of id x) 1 0) es e in
        let none_more : finished_in id (es ++ e ∷ []) ≡ finished_in id es + 0 =
        subst (λ (b : Bool). finished_in id (es ++ e ∷ []) ≡ finished_in id es + cond b 1 0)
        (finished_apart id e none) pushed in
        omega (arith, none_more)))
        (λ id unready none. none) y
        (waits.held i y less (sym (front_there es (e ∷ []) i before) ∙ there));
  }

-- behind them come events that tell of low marks
pub waits_before_low : (ids : List ℕ) (m : RetiringMap) (d : DebtsView) (es : List Event) (n : ℕ) → FrontWaits m d es n
    → FrontWaits m d (es ++ map low_event ids) n
waits_before_low [] m d es n waits = subst (λ (xs : List Event). FrontWaits m d xs n) (sym (append-nil es)) waits
waits_before_low (id ∷ ids) m d es n waits =
    subst (λ (xs : List Event). FrontWaits m d xs n) (append_assoc es (low_event id ∷ []) (map low_event ids))
    (waits_before_low ids m d (es ++ low_event id ∷ []) n (waits_before_one m d es n (low_event id) waits refl))

-- they go on waiting where an event for which none waits was put behind them, or was not for want of memory
pub waits_before_push : {E : Type 0} (m : RetiringMap) (d : DebtsView) (es : List Event) (n : ℕ) (e : Event)
    (fs : List Event) (pushed : Result (Unit {0}) E) → OnOk pushed (fs ≡ es ++ e ∷ []) → OnErr pushed (fs ≡ es)
    → FrontWaits m d es n → is_not_finished e ≡ true → FrontWaits m d fs n
waits_before_push m d es n e fs (Ok done) ok err waits none =
    subst (λ (xs : List Event). FrontWaits m d xs n) (sym ok) (waits_before_one m d es n e waits none)
waits_before_push m d es n e fs (Err error) ok err waits none =
    subst (λ (xs : List Event). FrontWaits m d xs n) (sym err) waits

-- so many go on waiting where low marks were told of behind them
pub waits_before_told : (ids : List ℕ) (m : RetiringMap) (d : DebtsView) (es : List Event) (n : ℕ) (fs : List Event)
    (k : ℕ) → fs ≡ es ++ map low_event ids → k ≡ n → FrontWaits m d es n → FrontWaits m d fs k
waits_before_told ids m d es n fs k told same waits =
    subst (λ (xs : List Event). FrontWaits m d xs k) (sym told)
    (subst (λ (z : ℕ). FrontWaits m d (es ++ map low_event ids) z) (sym same) (waits_before_low ids m d es n waits))
