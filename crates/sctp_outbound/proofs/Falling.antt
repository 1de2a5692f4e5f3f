-- The streams that fall to their low mark while messages are given up are gathered in order.
use Rattle.std.proofs.Common.{◌≡◌, ℕ, zero, suc, ◌+◌, ◌-◌, ◌<◌, ◌≤◌, Bool, true, false, is_some, List, [], ◌++◌}
use Rattle.std.proofs.Common.{Option, Some, None, refl, ap, sym, ◌∙◌, subst, arith}
use Rattle.std.proofs.lemmas.Bool.{true≢false}
use Rattle.std.proofs.lemmas.List.{append-nil, append_assoc}
use Rattle.sctp_outbound_queue.specs.declared.queue.Released.{Released}
use Rattle.sctp_outbound_queue.specs.Expiry.{after_expiry}
use Rattle.sctp_streams.specs.LowMarks.{AreGathered, FallenView}
use Rattle.sctp_streams.specs.Streams.{StreamMap}
use Rattle.sctp_streams.proofs.LowMarks.{gathered_behind, none_gathered}
use Rattle.sctp_outbound.specs.declared.abandonment.Reason.{Reason}
use Rattle.sctp_outbound.specs.declared.abandonment.Reason.TheVariants as reasons
use Rattle.sctp_outbound.specs.declared.sender.Sender.{Sender}
use Rattle.sctp_outbound.specs.Abandonment.{abandoned_if, all_given_up, first_dropped, late_given_up, next_given_up}
use Rattle.sctp_outbound.specs.Abandonment.{with_started}
use Rattle.sctp_outbound.specs.Falling.{falls_at, fell_at, fell_dropped_first, fell_dropping, fell_expired, fell_first}
use Rattle.sctp_outbound.specs.Falling.{fell_giving_up, fell_with_tail}
use Rattle.sctp_outbound.proofs.Dropped.{none_dropped}

-- Of all these streams some were gathered, and the rest is left.
pub record FallsOn (all rest : List ℕ) (f g : FallenView) : Type 0 where
  pub ids : List ℕ
  pub gathered : AreGathered ids f g
  pub left : all ≡ ids ++ rest

pub falls_from : {all rest : List ℕ} (f : FallenView) → rest ≡ all → FallsOn all rest f f
falls_from f e = record { ids = []; gathered = none_gathered f; left = sym e }

-- more are gathered
pub falls_more : {all some rest now : List ℕ} {f g h : FallenView} → now ≡ some ++ rest → FallsOn all now f g
    → AreGathered some g h → FallsOn all rest f h
falls_more {some = some} {rest = rest} {f = f} {g = g} {h = h} e w more = record {
  ids = w.ids ++ some;
  gathered = gathered_behind w.ids some f g h w.gathered more;
  left = w.left ∙ ap (λ z. w.ids ++ z) e ∙ sym (append_assoc w.ids some rest);
}

-- none is left
pub falls_whole : {all rest : List ℕ} {f g : FallenView} → rest ≡ [] → FallsOn all rest f g → AreGathered all f g
falls_whole {f = f} {g = g} e w =
    subst (λ z. AreGathered z f g) (sym (w.left ∙ ap (λ z. w.ids ++ z) e ∙ append-nil w.ids)) w.gathered

-- `fell k all` are the streams that fall in k steps from `all` on. Of the n steps from `before` on, i are done.
module _ (fell : ℕ → Sender × StreamMap → List ℕ) (n : ℕ) (before : Sender × StreamMap) (f : FallenView) where
  falls_at_first : FallsOn (fell n before) (fell (n - 0) before) f f
  falls_at_first =
      let whole : n - 0 ≡ n = omega arith in
      falls_from f (ap (λ k. fell k before) whole)

  -- one more step
  falls_further : (i : ℕ) (now next : Sender × StreamMap) {some : List ℕ} {g h : FallenView} → i < n
      → fell (suc (n - (i + 1))) now ≡ some ++ fell (n - (i + 1)) next
      → FallsOn (fell n before) (fell (n - i) now) f g → AreGathered some g h
      → FallsOn (fell n before) (fell (n - (i + 1)) next) f h
  falls_further i now next below step w more =
      let one : n - i ≡ suc (n - (i + 1)) = omega (arith, below) in
      falls_more (ap (λ k. fell k now) one ∙ step) w more

  -- in the steps that are left just some fall
  falls_early : (i : ℕ) (now : Sender × StreamMap) {m : ℕ} {some : List ℕ} {g h : FallenView} → n ≡ m
      → fell (n - i) now ≡ some ++ [] → FallsOn (fell n before) (fell (n - i) now) f g → AreGathered some g h
      → AreGathered (fell m before) f h
  falls_early i now {h = h} count step w more =
      subst (λ k. AreGathered (fell k before) f h) count (falls_whole refl (falls_more step w more))

  -- no step is left
  falls_late : (i : ℕ) (now : Sender × StreamMap) {m : ℕ} {g : FallenView} → n ≡ m → n ≤ i → fell 0 now ≡ []
      → FallsOn (fell n before) (fell (n - i) now) f g → AreGathered (fell m before) f g
  falls_late i now {g = g} count past none w =
      let over : n - i ≡ 0 = omega (arith, past) in
      subst (λ k. AreGathered (fell k before) f g) count (falls_whole (ap (λ k. fell k now) over ∙ none) w)

-- Messages that are given up for a reason

none_of : (o : Option ℕ) → is_some o ≡ false → o ≡ None
none_of None e = refl
none_of (Some index) e = absurd (true≢false e)

none_first : (why : Reason) (n : ℕ) (all : Sender × StreamMap) → next_given_up why all.0 ≡ None
    → fell_first n why all ≡ []
none_first why zero all none = refl
none_first why (suc n) all none = rw none (none_first why n all none)

module _ (why : Reason) (n : ℕ) (before : Sender × StreamMap) (f : FallenView) where
  pub first_from : FallsOn (fell_first n why before) (fell_first (n - 0) why before) f f
  first_from = falls_at_first (λ k all. fell_first k why all) n before f

  pub first_more : (i : ℕ) (now next : Sender × StreamMap) {g h : FallenView} → i < n
      → abandoned_if (next_given_up why now.0) now ≡ next
      → FallsOn (fell_first n why before) (fell_first (n - i) why now) f g
      → AreGathered (fell_at (next_given_up why now.0) now) g h
      → FallsOn (fell_first n why before) (fell_first (n - (i + 1)) why next) f h
  first_more i now next below is =
      falls_further (λ k all. fell_first k why all) n before f i now next below
      (ap (λ z. fell_at (next_given_up why now.0) now ++ fell_first (n - (i + 1)) why z) is)

  -- where none is given up any more, all are gathered
  pub first_early : (i : ℕ) (now : Sender × StreamMap) {m : ℕ} {g h : FallenView} → n ≡ m
      → is_some (next_given_up why now.0) ≡ false
      → FallsOn (fell_first n why before) (fell_first (n - i) why now) f g
      → AreGathered (fell_at (next_given_up why now.0) now) g h → AreGathered (fell_first m why before) f h
  first_early i now count e =
      let none = none_of (next_given_up why now.0) e in
      falls_early (λ k all. fell_first k why all) n before f i now count
      (none_first why (n - i) now none ∙ ap (λ o. fell_at o now ++ []) (sym none))

  pub first_late : (i : ℕ) (now : Sender × StreamMap) {m : ℕ} {g : FallenView} → n ≡ m → n ≤ i
      → FallsOn (fell_first n why before) (fell_first (n - i) why now) f g → AreGathered (fell_first m why before) f g
  first_late i now count past = falls_late (λ k all. fell_first k why all) n before f i now count past refl

-- What is expired and begun

pub expired_none : (forward : Bool) (now : ℕ) (all : Sender × StreamMap) (f : FallenView) → forward ≡ false
    → AreGathered (fell_expired forward now all) f f
expired_none forward now all f e = rw e (none_gathered f)

-- what is expired in flight, and then a tail
pub expired_all : (now : ℕ) (s : Sender) (m : StreamMap) {forward : Bool} {b t : Sender} {n : StreamMap}
    {f g h : FallenView} → forward ≡ true
    → b ≡ with_started now s → all_given_up (reasons.Expired now) (b, m) ≡ (t, n)
    → AreGathered (fell_giving_up (reasons.Expired now) (b, m)) f g → AreGathered (fell_with_tail now (t, n)) g h
    → AreGathered (fell_expired forward now (s, m)) f h
expired_all now s m {f = f} {g = g} {h = h} uses started exact x y =
    rw uses
    (gathered_behind (fell_giving_up (reasons.Expired now) (with_started now s, m))
    (fell_with_tail now (late_given_up now (s, m))) f g h
    (subst (λ (z : Sender). AreGathered (fell_giving_up (reasons.Expired now) (z, m)) f g) started x)
    (subst (λ (z : Sender × StreamMap). AreGathered (fell_with_tail now z) g h)
    (sym exact ∙ ap (λ (z : Sender). all_given_up (reasons.Expired now) (z, m)) started) y))

-- Messages that are dropped

nothing_released : (o : Option Released) (m : StreamMap) → is_some o ≡ false → falls_at o m ≡ []
nothing_released None m e = refl
nothing_released (Some r) m e = absurd (true≢false e)

none_dropping : (now n : ℕ) (all : Sender × StreamMap) → is_some (after_expiry now all.0.queue).1 ≡ false
    → fell_dropped_first n now all ≡ []
none_dropping now zero all none = refl
none_dropping now (suc n) all none =
    ap (λ z. z ++ fell_dropped_first n now (first_dropped now all))
    (nothing_released (after_expiry now all.0.queue).1 all.1 none)
    ∙ ap (fell_dropped_first n now) (none_dropped now all none)
    ∙ none_dropping now n all none

module _ (now n : ℕ) (before : Sender × StreamMap) (f : FallenView) where
  pub drops_from : FallsOn (fell_dropped_first n now before) (fell_dropped_first (n - 0) now before) f f
  drops_from = falls_at_first (λ k all. fell_dropped_first k now all) n before f

  pub drops_more : (i : ℕ) (all next : Sender × StreamMap) {g h : FallenView} → i < n → first_dropped now all ≡ next
      → FallsOn (fell_dropped_first n now before) (fell_dropped_first (n - i) now all) f g
      → AreGathered (fell_dropping now all) g h
      → FallsOn (fell_dropped_first n now before) (fell_dropped_first (n - (i + 1)) now next) f h
  drops_more i all next below is =
      falls_further (λ k all. fell_dropped_first k now all) n before f i all next below
      (ap (λ z. fell_dropping now all ++ fell_dropped_first (n - (i + 1)) now z) is)

  -- where none is dropped any more, all are gathered
  pub drops_early : (i : ℕ) (all : Sender × StreamMap) {m : ℕ} {g h : FallenView} → n ≡ m
      → is_some (after_expiry now all.0.queue).1 ≡ false
      → FallsOn (fell_dropped_first n now before) (fell_dropped_first (n - i) now all) f g
      → AreGathered (fell_dropping now all) g h → AreGathered (fell_dropped_first m now before) f h
  drops_early i all count none =
      falls_early (λ k all. fell_dropped_first k now all) n before f i all count
      (none_dropping now (n - i) all none
      ∙ ap (λ z. z ++ []) (sym (nothing_released (after_expiry now all.0.queue).1 all.1 none)))

  pub drops_late : (i : ℕ) (all : Sender × StreamMap) {m : ℕ} {g : FallenView} → n ≡ m → n ≤ i
      → FallsOn (fell_dropped_first n now before) (fell_dropped_first (n - i) now all) f g
      → AreGathered (fell_dropped_first m now before) f g
  drops_late i all count past = falls_late (λ k all. fell_dropped_first k now all) n before f i all count past refl
