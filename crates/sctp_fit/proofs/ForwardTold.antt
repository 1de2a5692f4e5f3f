-- The pairs of a FORWARD TSN are gathered by stream, identifiers ascending, so that the last ordered piece of a stream
-- is the one of which they tell.
use Rattle.std.proofs.Common.{◌≡◌, refl, sym, ap, ◌∙◌, subst, ⊎_elim, ℕ, ◌<◌, ◌≤◌, arith, Bool, true, false, not, cond}
use Rattle.std.proofs.Common.{eqb, ◌&&◌, List, [], ◌∷◌, Option, Some, None, map, fold, nat_cmp, Ordering, Less, Equal}
use Rattle.std.proofs.Common.{Greater}
use Rattle.std.specs.Prelude.{⊤}
use Rattle.std.specs.List.{AllByRecursion}
use Rattle.std.specs.Option.{option_to_list}
use Rattle.std.specs.Ordering.{MatchOrdering, match_ordering}
use Rattle.std.specs.BTreeMap.{insert_entry}
use Rattle.std.proofs.lemmas.Bool.{cases_Bool, cases_eq, cond-false, eq-eqb, ne_eqb}
use Rattle.std.proofs.lemmas.Cmp.{ranked}
use Rattle.sctp_outbound_queue.specs.declared.message.InFlight.{InFlight}
use Rattle.sctp_outbound.specs.Forward.{skipped_stream, skipped_with}
use Rattle.sctp_fit.specs.Forwards.{PairsTellTheLast, last_ordered, numbers_told}

-- what pairs of numbers by stream tell
abbrev told : ℕ → List (ℕ × ℕ) → List ℕ
told s es = numbers_told s (map skipped_stream es)

-- all streams of these pairs have a greater identifier
abbrev ArePast : ℕ → List (ℕ × ℕ) → Type 0
ArePast k es = AllByRecursion (λ (e : ℕ × ℕ). k < e.0) es

-- the streams' identifiers ascend
abbrev Ascend : List (ℕ × ℕ) → Type 0
Ascend [] = ⊤
Ascend (e ∷ es) = ArePast e.0 es × Ascend es

past_less : (j k : ℕ) (es : List (ℕ × ℕ)) → j ≤ k → ArePast k es → ArePast j es
past_less j k [] l h = tt
past_less j k (e ∷ es) l (h, hs) = (omega (arith, h), past_less j k es l hs)

-- nothing is told of a stream before all of them
none_told : (s k : ℕ) (es : List (ℕ × ℕ)) → s ≤ k → ArePast k es → told s es ≡ []
none_told s k [] l h = refl
none_told s k (e ∷ es) l (h, hs) =
    cond-false (eqb e.0 s) (e.1 ∷ told s es) (told s es) (ne_eqb e.0 s (λ (b : e.0 ≡ s). omega (arith, h)))
    ∙ none_told s k es l hs

module _ (k v : ℕ) where
  past_with : (j : ℕ) (es : List (ℕ × ℕ)) → j < k → ArePast j es → ArePast j (insert_entry nat_cmp es k v)
  past_with j [] l h = (l, tt)
  past_with j (e ∷ es) l (h, hs) = go (nat_cmp k e.0) (past_with j es l hs)
    where
      go : (o : Ordering) → ArePast j (insert_entry nat_cmp es k v)
          → ArePast j (match_ordering o ((k, v) ∷ e ∷ es) ((e.0, v) ∷ es) (e ∷ insert_entry nat_cmp es k v))
      go Less r = (l, (h, hs))
      go Equal r = (h, hs)
      go Greater r = (h, r)

  -- they ascend with one more
  ascend_with : (es : List (ℕ × ℕ)) → Ascend es → Ascend (insert_entry nat_cmp es k v)
  ascend_with [] h = (tt, tt)
  ascend_with (e ∷ es) (h, hs) = go (nat_cmp k e.0) (ranked k e.0 (nat_cmp k e.0) refl) (ascend_with es hs)
    where
      go : (o : Ordering) → MatchOrdering o (k < e.0) (k ≡ e.0) (e.0 < k) → Ascend (insert_entry nat_cmp es k v)
          → Ascend (match_ordering o ((k, v) ∷ e ∷ es) ((e.0, v) ∷ es) (e ∷ insert_entry nat_cmp es k v))
      go Less l r = ((l, past_less k e.0 es (omega (arith, l)) h), (h, hs))
      go Equal l r = (h, hs)
      go Greater l r = (past_with e.0 es l h, r)

  module _ (s : ℕ) where
    -- the new number before all others
    told_first : (es : List (ℕ × ℕ)) → ArePast k es
        → cond (eqb k s) (v ∷ told s es) (told s es) ≡ cond (eqb k s) (v ∷ []) (told s es)
    told_first es h = ⊎_elim
        (λ (a : k ≡ s).
        ap (λ z. cond (eqb k s) (v ∷ z) (told s es)) (none_told s k es (omega (arith, a)) h))
        (λ (ne : k ≡ s → ⊥). rw (ne_eqb k s ne) refl)
        (cases_eq k s)

    -- in the place of the one that stood there
    told_instead : (w : ℕ) (es : List (ℕ × ℕ)) → ArePast k es
        → cond (eqb k s) (v ∷ told s es) (told s es)
        ≡ cond (eqb k s) (v ∷ []) (cond (eqb k s) (w ∷ told s es) (told s es))
    told_instead w es h = ⊎_elim
        (λ (a : k ≡ s).
        ap (λ z. cond (eqb k s) (v ∷ z) (told s es)) (none_told s k es (omega (arith, a)) h)
        ∙ (rw (eq-eqb k s a) refl))
        (λ (ne : k ≡ s → ⊥). rw (ne_eqb k s ne) refl)
        (cases_eq k s)

    -- behind another stream's
    told_behind : (j w : ℕ) (more es : List (ℕ × ℕ)) → j < k → told s more ≡ cond (eqb k s) (v ∷ []) (told s es)
        → cond (eqb j s) (w ∷ told s more) (told s more)
        ≡ cond (eqb k s) (v ∷ []) (cond (eqb j s) (w ∷ told s es) (told s es))
    told_behind j w more es l h = ⊎_elim
        (λ (a : k ≡ s).
        (rw (ne_eqb j s (λ (b : j ≡ s). omega (arith, l, a))) refl)
        ∙ h ∙ (rw (eq-eqb k s a) refl))
        (λ (ne : k ≡ s → ⊥).
        ap (λ z. cond (eqb j s) (w ∷ z) z) (h ∙ cond-false (eqb k s) (v ∷ []) (told s es) (ne_eqb k s ne))
        ∙ sym (cond-false (eqb k s) (v ∷ []) (cond (eqb j s) (w ∷ told s es) (told s es)) (ne_eqb k s ne)))
        (cases_eq k s)

    -- a number more is told of its stream in the place of what was told, and of each other the same
    told_with : (es : List (ℕ × ℕ)) → Ascend es
        → told s (insert_entry nat_cmp es k v) ≡ cond (eqb k s) (v ∷ []) (told s es)
    told_with [] h = refl
    told_with (e ∷ es) (h, hs) = go (nat_cmp k e.0) (ranked k e.0 (nat_cmp k e.0) refl) (told_with es hs)
      where
        go : (o : Ordering) → MatchOrdering o (k < e.0) (k ≡ e.0) (e.0 < k)
            → told s (insert_entry nat_cmp es k v) ≡ cond (eqb k s) (v ∷ []) (told s es)
            → told s (match_ordering o ((k, v) ∷ e ∷ es) ((e.0, v) ∷ es) (e ∷ insert_entry nat_cmp es k v))
            ≡ cond (eqb k s) (v ∷ []) (told s (e ∷ es))
        go Less l r = told_first (e ∷ es) (l, past_less k e.0 es (omega (arith, l)) h)
        go Equal l r =
            subst
            (λ z. cond (eqb z s) (v ∷ told s es) (told s es)
            ≡ cond (eqb k s) (v ∷ []) (cond (eqb z s) (e.1 ∷ told s es) (told s es)))
            l (told_instead e.1 es (subst (λ z. ArePast z es) (sym l) h))
        go Greater l r = told_behind e.0 e.1 (insert_entry nat_cmp es k v) es l r

-- the number that is found, if there is one, as the pairs tell it
found_now : (s k v : ℕ) (ordered : Bool) (numbers : List ℕ) (found : Option ℕ) → numbers ≡ option_to_list found
    → cond ordered (cond (eqb k s) (v ∷ []) numbers) numbers
    ≡ option_to_list (cond (eqb k s && ordered) (Some v) found)
found_now s k v true numbers found h = ⊎_elim
    (λ (b : eqb k s ≡ true). rw b refl)
    (λ (b : eqb k s ≡ false). rw b h)
    (cases_Bool (eqb k s))
found_now s k v false numbers found h = ⊎_elim
    (λ (b : eqb k s ≡ true). rw b h)
    (λ (b : eqb k s ≡ false). rw b h)
    (cases_Bool (eqb k s))

-- one piece after another
told_over : (s : ℕ) (pieces : List InFlight) (es : List (ℕ × ℕ)) (found : Option ℕ) → Ascend es
    → told s es ≡ option_to_list found
    → told s (fold (λ numbers (p : InFlight). skipped_with numbers p.message) es pieces)
    ≡ option_to_list (last_ordered s pieces found)
told_over s [] es found up h = h
told_over s (x ∷ xs) es found up h =
    by_order (λ fs seen fs_up same. told_over s xs fs seen fs_up same) x.message.unordered refl
  where
    next : Option ℕ
    next =
        cond (eqb x.message.stream_identifier s && not x.message.unordered)
        (Some x.message.stream_sequence_number) found

    more : List (ℕ × ℕ)
    more = insert_entry nat_cmp es x.message.stream_identifier x.message.stream_sequence_number

    by_order : ((fs : List (ℕ × ℕ)) (seen : Option ℕ) → Ascend fs → told s fs ≡ option_to_list seen
        → told s (fold (λ numbers (p : InFlight). skipped_with numbers p.message) fs xs)
        ≡ option_to_list (last_ordered s xs seen))
        → (u : Bool) → x.message.unordered ≡ u
        → told s (fold (λ numbers (p : InFlight). skipped_with numbers p.message) (skipped_with es x.message) xs)
        ≡ option_to_list (last_ordered s xs next)
    by_order rest true e =
        ap
        (λ z. told s (fold (λ numbers (p : InFlight). skipped_with numbers p.message) (cond z es more) xs)) e
        ∙ rest es next up
        (found_now s x.message.stream_identifier x.message.stream_sequence_number false (told s es) found h
        ∙ ap
        (λ z. option_to_list
        (cond (eqb x.message.stream_identifier s && not z) (Some x.message.stream_sequence_number) found)) (sym e))
    by_order rest false e =
        ap
        (λ z. told s (fold (λ numbers (p : InFlight). skipped_with numbers p.message) (cond z es more) xs)) e
        ∙ rest more next
        (ascend_with x.message.stream_identifier x.message.stream_sequence_number es up)
        (told_with x.message.stream_identifier x.message.stream_sequence_number s es up
        ∙ found_now s x.message.stream_identifier x.message.stream_sequence_number true (told s es) found h
        ∙ ap
        (λ z. option_to_list
        (cond (eqb x.message.stream_identifier s && not z) (Some x.message.stream_sequence_number) found)) (sym e))

pub pairs_tell_the_last : PairsTellTheLast
pairs_tell_the_last s pieces = told_over s pieces [] None tt refl
