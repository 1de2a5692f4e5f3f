-- A new TSN that is put among those held can be taken out again; and whether one of them is farther past the last TSN
-- in order than a TSN is told by the farthest.
use Rattle.std.proofs.Common.{◌≡◌, ℕ, suc, ◌<◌, ◌+◌, ◌%◌, ◌^◌, ◌-◌, Bool, true, false, ltb, ◌||◌, not}
use Rattle.std.proofs.Common.{List, [], ◌∷◌, length, Option, Some, None, fold, refl, sym, ap, ◌∙◌, arith, if◌then◌else◌}
use Rattle.std.specs.Ordering.{is_eq, match_ordering, nat_cmp}
use Rattle.std.specs.declared.cmp.Ordering.{Ordering}
use Rattle.std.specs.declared.cmp.Ordering.TheVariants.{Less, Equal, Greater}
use Rattle.std.specs.BTreeMap.{is_at}
use Rattle.std.specs.BTreeSet.{insert_key}
use Rattle.std.specs.Set.{remove_key}
use Rattle.std.proofs.lemmas.Bool.{and_parts, eq-eqb, false≢true, le-ltb, not-true, or_parts}
use Rattle.std.proofs.lemmas.Bool.Decides.{nat_tests}
use Rattle.std.proofs.Math.Bool.{or-false, or_assoc}
use Rattle.sctp_serial.specs.Serial.{tsn_past, tsn_after}
use Rattle.sctp_received.specs.Received.{advanced, is_held, is_new, last_received, later_of}
use Rattle.sctp_inbound.specs.Held.{held_after, is_passed}

-- a key is at its own place
at_self : (k : ℕ) → is_at (nat_cmp k) k ≡ true
at_self k = rw (le-ltb k k (omega arith), eq-eqb k k refl) refl

-- by the place that a key has against one that it is not
placed : (P : List ℕ → Type 0) (o : Ordering) (a b c : List ℕ) → is_eq o ≡ false → P a → P c
    → P (match_ordering o a b c)
placed P Less a b c apart before after = before
placed P Equal a b c apart before after = absurd (false≢true (sym apart))
placed P Greater a b c apart before after = after

-- A key among those held: it is there, taking it out leaves what was, and it is one more.
IsPutIn : ℕ → List ℕ → List ℕ → Type 0
IsPutIn k xs zs =
    (is_held k zs ≡ true) × (remove_key (is_at (nat_cmp k)) zs ≡ xs) × (length zs ≡ suc (length xs))

put_in : (k : ℕ) (xs : List ℕ) → is_held k xs ≡ false → IsPutIn k xs (insert_key nat_cmp xs k)
unfolding IsPutIn
put_in k [] h = rw (at_self k) (refl, refl, refl)
put_in k (x ∷ xs) h =
    let apart = or_parts (is_at (nat_cmp k) x) (is_held k xs) h in
    let more = put_in k xs apart.1 in
    placed (IsPutIn k (x ∷ xs)) (nat_cmp k x) (k ∷ x ∷ xs) (x ∷ xs) (x ∷ insert_key nat_cmp xs k) apart.0
    (rw (at_self k) (refl, refl, refl))
    (rw apart.0 (more.0, ap (λ zs. x ∷ zs) more.1, ap suc more.2))

-- a TSN that is new is not held
fresh : (held : List ℕ) (tsn peer_last_tsn : ℕ) → is_new held tsn peer_last_tsn ≡ true → is_held tsn held ≡ false
fresh held tsn peer_last_tsn new = not-true _ (and_parts _ (not (is_held tsn held)) new).1

-- the TSN after the last TSN in order is not put in: the last TSN in order moves to it and on from there
pub next_moves : (held : List ℕ) (peer_last_tsn tsn : ℕ) → tsn ≡ tsn_after peer_last_tsn
    → is_new held tsn peer_last_tsn ≡ true
    → held_after held peer_last_tsn tsn ≡ advanced (length held) tsn held
unfolding IsPutIn
next_moves held peer_last_tsn tsn next new =
    let put = put_in tsn held (fresh held tsn peer_last_tsn new) in
    rw (new, put.2, sym next, put.0, put.1) refl

-- a TSN is less far past the last TSN in order than one that may be there
is_below : ℕ → ℕ → Option ℕ → Bool
is_below peer_last_tsn tsn None = false
is_below peer_last_tsn tsn (Some last) = ltb (tsn_past peer_last_tsn tsn) (tsn_past peer_last_tsn last)

-- a number is below the greater one of two where it is below one of them
below_greater : (x m n : ℕ) → ltb x (if ltb m n then n else m) ≡ (ltb x m || ltb x n)
below_greater x m n = grind (arith, nat_tests)

below_later : (peer_last_tsn tsn l t : ℕ)
    → ltb (tsn_past peer_last_tsn tsn) (tsn_past peer_last_tsn (later_of peer_last_tsn (Some l) t))
    ≡ (ltb (tsn_past peer_last_tsn tsn) (tsn_past peer_last_tsn l)
    || ltb (tsn_past peer_last_tsn tsn) (tsn_past peer_last_tsn t))
below_later peer_last_tsn tsn l t =
    ap (ltb (tsn_past peer_last_tsn tsn))
    (lifted (ltb (tsn_past peer_last_tsn l) (tsn_past peer_last_tsn t)) (tsn_past peer_last_tsn) t l)
    ∙ below_greater (tsn_past peer_last_tsn tsn) (tsn_past peer_last_tsn l) (tsn_past peer_last_tsn t)
  where
    lifted : (b : Bool) (f : ℕ → ℕ) (x y : ℕ) → f (if b then x else y) ≡ (if b then f x else f y)
    lifted true f x y = refl
    lifted false f x y = refl

below_found : (peer_last_tsn tsn l : ℕ) (ts : List ℕ)
    → is_below peer_last_tsn tsn (fold (λ last t. Some (later_of peer_last_tsn last t)) (Some l) ts)
    ≡ (ltb (tsn_past peer_last_tsn tsn) (tsn_past peer_last_tsn l) || is_passed ts peer_last_tsn tsn)
unfolding is_below
below_found peer_last_tsn tsn l [] = sym (or-false (ltb (tsn_past peer_last_tsn tsn) (tsn_past peer_last_tsn l)))
below_found peer_last_tsn tsn l (t ∷ ts) =
    below_found peer_last_tsn tsn (later_of peer_last_tsn (Some l) t) ts
    ∙ ap (λ b. b || is_passed ts peer_last_tsn tsn) (below_later peer_last_tsn tsn l t)
    ∙ or_assoc (ltb (tsn_past peer_last_tsn tsn) (tsn_past peer_last_tsn l))
    (ltb (tsn_past peer_last_tsn tsn) (tsn_past peer_last_tsn t))
    (is_passed ts peer_last_tsn tsn)

-- a TSN that is held is farther past the last TSN in order where the farthest one is
pub passed_by_last : (peer_last_tsn tsn last : ℕ) (held : List ℕ) → last_received peer_last_tsn held ≡ Some last
    → ltb (tsn_past peer_last_tsn tsn) (tsn_past peer_last_tsn last) ≡ is_passed held peer_last_tsn tsn
unfolding is_below
passed_by_last peer_last_tsn tsn last [] e = absurd (cc)
passed_by_last peer_last_tsn tsn last (t ∷ ts) e = sym (ap (is_below peer_last_tsn tsn) e)
    ∙ below_found peer_last_tsn tsn t ts

-- what `wrapping_sub` answers is how far a TSN is past the last TSN in order
pub wrapped_past : (peer_last_tsn tsn : ℕ) → peer_last_tsn < 2 ^ 32
    → (tsn + (2 ^ 32 - peer_last_tsn)) % 2 ^ 32 ≡ tsn_past peer_last_tsn tsn
wrapped_past peer_last_tsn tsn small = omega arith
