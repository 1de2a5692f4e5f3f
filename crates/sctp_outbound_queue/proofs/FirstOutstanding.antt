-- The first outstanding piece in flight: no change makes a piece outstanding that was not, so it never moves to the
-- front, but where the first piece leaves.
use Rattle.std.proofs.Common.{◌≡◌, ℕ, zero, suc, ◌+◌, ◌-◌, ◌<◌, ◌≤◌, Bool, true, false, ◌&&◌, not}
use Rattle.std.proofs.Common.{List, [], ◌∷◌, ◌++◌, Option, Some, None, length, map, take, drop, slice_get, refl, ap}
use Rattle.std.proofs.Common.{sym, ◌∙◌, arith, ⊎_elim}
use Rattle.std.proofs.lemmas.Bool.{cases_Bool}
use Rattle.std.proofs.lemmas.List.Sums.{prefix_len-le-length}
use Rattle.std.specs.Prelude.{get_or, slice_set}
use Rattle.sctp_outbound_queue.specs.declared.message.InFlight.{InFlight}
use Rattle.sctp_outbound_queue.specs.declared.message.Reports.{Reports}
use Rattle.sctp_outbound_queue.specs.declared.message.Retransmission.{Retransmission}
use Rattle.sctp_outbound_queue.specs.declared.message.Retransmission.TheVariants as causes
use Rattle.sctp_outbound_queue.specs.Message.{acked, counted_again, flagged, is_of, is_outstanding}
use Rattle.sctp_outbound_queue.specs.Message.{is_reported, marked_again, reported_missing, sent_started}
use Rattle.sctp_outbound_queue.specs.Outbound.{first_outstanding_of, is_outstanding_piece}

-- a change that makes no piece outstanding
abbrev pub Settles : (InFlight → InFlight) → Type 0
Settles f = (x : InFlight) → is_outstanding x ≡ false → is_outstanding (f x) ≡ false

-- one piece in front of others
not_sooner : (x y : InFlight) (xs ys : List InFlight) → (is_outstanding x ≡ false → is_outstanding y ≡ false)
    → first_outstanding_of xs ≤ first_outstanding_of ys → first_outstanding_of (x ∷ xs) ≤ first_outstanding_of (y ∷ ys)
not_sooner x y xs ys keeps le =
    ⊎_elim (λ (a : is_outstanding x ≡ true). rw a (omega arith))
    (λ (a : is_outstanding x ≡ false). rw (a, keeps a) (omega (arith, le)))
    (cases_Bool (is_outstanding x))

pub after_change : (f : InFlight → InFlight) → Settles f → (xs : List InFlight)
    → first_outstanding_of xs ≤ first_outstanding_of (map f xs)
after_change f settles [] = omega arith
after_change f settles (x ∷ xs) = not_sooner x (f x) xs (map f xs) (settles x) (after_change f settles xs)

pub after_reports : (f : InFlight → InFlight) → Settles f → (n : ℕ) (xs : List InFlight)
    → first_outstanding_of xs ≤ first_outstanding_of (map f (take n xs) ++ drop n xs)
after_reports f settles zero xs = omega arith
after_reports f settles (suc n) [] = omega arith
after_reports f settles (suc n) (x ∷ xs) =
    not_sooner x (f x) xs (map f (take n xs) ++ drop n xs) (settles x) (after_reports f settles n xs)

pub after_change_at : (f : InFlight → InFlight) → Settles f → (xs : List InFlight) (i : ℕ) (x : InFlight)
    → slice_get xs i ≡ Some x → first_outstanding_of xs ≤ first_outstanding_of (slice_set xs i (f x))
after_change_at f settles [] i x e = absurd (cc)
after_change_at f settles (y ∷ ys) zero x e =
    let same : y ≡ x = cc in
    rw (← same) (not_sooner y (f y) ys ys (settles y) (omega arith))
after_change_at f settles (y ∷ ys) (suc i) x e =
    not_sooner y y ys (slice_set ys i (f x)) (λ a. a) (after_change_at f settles ys i x e)

pub after_more : (xs : List InFlight) (y : InFlight) → first_outstanding_of xs ≤ first_outstanding_of (xs ++ y ∷ [])
after_more [] y = omega arith
after_more (x ∷ xs) y = not_sooner x x xs (xs ++ y ∷ []) (λ a. a) (after_more xs y)

pub without_front : (x : InFlight) (xs : List InFlight) → first_outstanding_of (x ∷ xs) ≤ first_outstanding_of xs + 1
without_front x xs =
    ⊎_elim (λ (a : is_outstanding x ≡ true). rw a (omega arith))
    (λ (a : is_outstanding x ≡ false). rw a (omega arith)) (cases_Bool (is_outstanding x))

-- a walk over what is not outstanding

pub item_there : (xs : List InFlight) (i : ℕ) (x : InFlight) → i < length xs → x ≡ get_or xs i x
    → slice_get xs i ≡ Some x
item_there [] i x lt e = absurd (omega (arith, lt))
item_there (y ∷ ys) zero x lt e = ap (λ z. Some z) (sym e)
item_there (y ∷ ys) (suc i) x lt e = item_there ys i x (omega (arith, lt)) e

pub no_gap : (xs : List InFlight) (i : ℕ) → i < length xs → slice_get xs i ≡ None → ⊥
no_gap [] i lt e = absurd (omega (arith, lt))
no_gap (x ∷ xs) zero lt e = cc
no_gap (x ∷ xs) (suc i) lt e = no_gap xs i (omega (arith, lt)) e

pub none_past : (xs : List InFlight) (i : ℕ) → (i < length xs → false ≡ true) → slice_get xs i ≡ None
none_past [] i out = refl
none_past (x ∷ xs) zero out = let e = out (omega arith) in absurd (cc)
none_past (x ∷ xs) (suc i) out = none_past xs i (λ l. out (omega (arith, l)))

pub passed : (xs : List InFlight) (i : ℕ) (x : InFlight) → slice_get xs i ≡ Some x → is_outstanding x ≡ false
    → i ≤ first_outstanding_of xs → suc i ≤ first_outstanding_of xs
passed [] i x e a le = absurd (cc)
passed (y ∷ ys) zero x e a le =
    let same : y ≡ x = cc in
    let here : is_outstanding y ≡ false = rw same a in
    rw here (omega arith)
passed (y ∷ ys) (suc i) x e a le =
    ⊎_elim (λ (t : is_outstanding y ≡ true). let none = rw t at le in absurd (omega (arith, none)))
    (λ (f : is_outstanding y ≡ false).
    let behind = rw f at le in
    let more = passed ys i x e a (omega (arith, behind)) in
    rw f (omega (arith, more)))
    (cases_Bool (is_outstanding y))

pub found : (xs : List InFlight) (i : ℕ) (x : InFlight) → slice_get xs i ≡ Some x → is_outstanding x ≡ true
    → first_outstanding_of xs ≤ i
found [] i x e a = absurd (cc)
found (y ∷ ys) zero x e a =
    let same : y ≡ x = cc in
    let here : is_outstanding y ≡ true = rw same a in
    rw here (omega arith)
found (y ∷ ys) (suc i) x e a =
    let more = found ys i x e a in
    ⊎_elim (λ (t : is_outstanding y ≡ true). rw t (omega arith))
    (λ (f : is_outstanding y ≡ false). rw f (omega (arith, more)))
    (cases_Bool (is_outstanding y))

-- the changes

pub acknowledged : Settles acked
acknowledged x e = refl

pub marked : Settles marked_again
marked x e = rw (e, e)

pub reported : (r : Reports) → Settles (reported_missing r)
reported r x e =
    ⊎_elim (λ (t : is_reported r x ≡ true). rw t e) (λ (f : is_reported r x ≡ false). rw f e)
    (cases_Bool (is_reported r x))

and_none : (b : Bool) → (b && false) ≡ false
and_none true = refl
and_none false = refl

pub abandoned : (id : ℕ) → Settles (flagged id)
abandoned id x e = ⊎_elim (λ (t : is_of id x ≡ true). rw t (and_none (not x.acked)))
    (λ (f : is_of id x ≡ false). rw f e)
    (cases_Bool (is_of id x))

pub resent : (by : Retransmission) → Settles (counted_again by)
resent causes.Timer x e = e
resent causes.Fast x e = e

pub started_too : (now : ℕ) → Settles (sent_started now)
started_too now x e = e

-- an index before which nothing is outstanding stays one

pub resent_there : (by : Retransmission) (xs : List InFlight) (i s : ℕ) (x : InFlight) → slice_get xs i ≡ Some x
    → s ≤ first_outstanding_of xs → s ≤ first_outstanding_of (slice_set xs i (counted_again by x))
resent_there by xs i s x e le =
    let later = after_change_at (counted_again by) (resent by) xs i x e in
    omega (arith, later, le)

pub more_there : (xs : List InFlight) (y : InFlight) (s : ℕ) → s ≤ first_outstanding_of xs
    → s ≤ first_outstanding_of (xs ++ y ∷ [])
more_there xs y s le =
    let later = after_more xs y in
    omega (arith, later, le)

pub popped_there : (xs : List InFlight) (x : InFlight) (s : ℕ) → slice_get xs 0 ≡ Some x → s ≤ first_outstanding_of xs
    → s - 1 ≤ first_outstanding_of (drop 1 xs)
popped_there [] x s e le = absurd (cc)
popped_there (y ∷ ys) x s e le =
    let later = without_front y ys in
    omega (arith, later, le)

-- the walk finds the first outstanding piece, or goes over all

pub found_there : (xs : List InFlight) (i : ℕ) {b : Bool} → i ≤ first_outstanding_of xs
    → b ≡ is_outstanding_piece (slice_get xs i) → b ≡ true → i ≡ first_outstanding_of xs
found_there xs i {b} le is here = at (slice_get xs i) refl (sym is ∙ here) where
  at : (p : Option InFlight) → slice_get xs i ≡ p → is_outstanding_piece p ≡ true → i ≡ first_outstanding_of xs
  at None e t = absurd (cc)
  at (Some x) e t = let before = found xs i x e t in omega (arith, before, le)

pub passed_there : (xs : List InFlight) (i : ℕ) {b : Bool} → i < length xs → i ≤ first_outstanding_of xs
    → b ≡ is_outstanding_piece (slice_get xs i) → b ≡ false → i + 1 ≤ first_outstanding_of xs
passed_there xs i {b} lt le is here = at (slice_get xs i) refl (sym is ∙ here) where
  at : (p : Option InFlight) → slice_get xs i ≡ p → is_outstanding_piece p ≡ false → i + 1 ≤ first_outstanding_of xs
  at None e t = absurd (no_gap xs i lt e)
  at (Some x) e t = let more = passed xs i x e t le in omega (arith, more)

pub all_passed : (xs : List InFlight) (i : ℕ) {n : ℕ} → i ≤ first_outstanding_of xs → length xs ≤ i → n ≡ length xs
    → n ≡ first_outstanding_of xs
all_passed xs i le all is =
    let within = prefix_len-le-length (λ (x : InFlight). not (is_outstanding x)) xs in
    omega (arith, le, all, is, within)
