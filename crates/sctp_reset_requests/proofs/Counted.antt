-- How often the requests that are not answered name a stream, as they come and go.
use Rattle.std.proofs.Common.{◌≡◌, refl, sym, ap, ◌∙◌, ℕ, ◌+◌, Bool, true, false, ◌||◌, cond, nat_lt}
use Rattle.std.proofs.Common.{nat_cmp, List, [], ◌∷◌, ◌++◌, Option, Some, None, arith}
use Rattle.std.specs.BTreeMap.{is_at}
use Rattle.std.specs.List.{count_by, list_any, sum_by}
use Rattle.std.proofs.lemmas.Bool.Decides.{nat_tests}
use Rattle.std.proofs.lemmas.List.Sums.{sum_by-cons, sum_by_push}
use Rattle.sctp_serial.specs.Serial.{tsn_after}
use Rattle.sctp_reset_requests.specs.Ids.{has_id}
use Rattle.sctp_reset_requests.specs.Named.{NamedView, count_at, is_named, is_twice}
use Rattle.sctp_reset_requests.specs.Own.{AreCounted, AreKept, AreNumbered, open_with, resets}
use Rattle.sctp_reset_requests.specs.Own.{are_to_reset_twice, times_named}
use Rattle.sctp_reset_requests.specs.declared.own_request.OwnRequest.{OwnRequest}
use Rattle.sctp_reset_requests.specs.declared.own_request.SentRequest.{SentRequest}

-- A stream that is named is found

positive_sum : (a b : ℕ) → nat_lt 0 (a + b) ≡ (nat_lt 0 a || nat_lt 0 b)
positive_sum a b = grind (arith, nat_tests)

positive_one : (b : Bool) → nat_lt 0 (cond b 1 0) ≡ b
positive_one true = refl
positive_one false = refl

either_either : (a b c d : Bool) → ((a || b) || (c || d)) ≡ ((a || c) || (b || d))
either_either true b c d = refl
either_either false true true d = refl
either_either false true false d = refl
either_either false false c d = refl

module _ {X : Type 0} where
  -- a sum is positive where one of its terms is
  positive_where_one : (f : X → ℕ) (xs : List X) → nat_lt 0 (sum_by f xs) ≡ list_any (λ x. nat_lt 0 (f x)) xs
  positive_where_one f [] = refl
  positive_where_one f (x ∷ xs) =
      ap (nat_lt 0) (sum_by-cons f x xs) ∙ positive_sum (f x) (sum_by f xs)
      ∙ ap (λ b. nat_lt 0 (f x) || b) (positive_where_one f xs)

  any_as : (p q : X → Bool) → ((x : X) → p x ≡ q x) → (xs : List X) → list_any p xs ≡ list_any q xs
  any_as p q same [] = refl
  any_as p q same (x ∷ xs) = rw (same x, any_as p q same xs) refl

  any_either : (p q : X → Bool) (xs : List X) → (list_any p xs || list_any q xs) ≡ list_any (λ x. p x || q x) xs
  any_either p q [] = refl
  any_either p q (x ∷ xs) =
      either_either (p x) (list_any p xs) (q x) (list_any q xs)
      ∙ ap (λ b. (p x || q x) || b) (any_either p q xs)

  counts_where_one : (p : X → Bool) (xs : List X) → nat_lt 0 (count_by p xs) ≡ list_any p xs
  counts_where_one p xs =
      positive_where_one (λ x. cond (p x) 1 0) xs
      ∙ any_as (λ x. nat_lt 0 (cond (p x) 1 0)) p (λ x. positive_one (p x)) xs

names_where_one : (id : ℕ) (rs : List OwnRequest)
    → nat_lt 0 (times_named id rs) ≡ list_any (λ (r : OwnRequest). has_id id r.ids) rs
names_where_one id rs =
    positive_where_one (λ (r : OwnRequest). count_by (is_at (nat_cmp id)) r.ids) rs
    ∙ any_as (λ (r : OwnRequest). nat_lt 0 (count_by (is_at (nat_cmp id)) r.ids))
    (λ (r : OwnRequest). has_id id r.ids) (λ r. counts_where_one (is_at (nat_cmp id)) r.ids) rs

-- the counts find a stream where a request resets it
pub named_exactly : (n : NamedView) (rs : List OwnRequest) (id : ℕ) → AreCounted n rs
    → is_named n id ≡ list_any (resets id) rs
named_exactly n rs id (counts, all) =
    rw (all, counts id)
    (rw (counts_where_one (λ (r : OwnRequest). r.names_all) rs, names_where_one id rs)
    (any_either (λ (r : OwnRequest). r.names_all) (λ (r : OwnRequest). has_id id r.ids) rs))

-- Requests come and go

abbrev ids_counted : ℕ → OwnRequest → ℕ
ids_counted id r = count_by (is_at (nat_cmp id)) r.ids

abbrev one_for_all : OwnRequest → ℕ
one_for_all r = cond r.names_all 1 0

counted_more : (n m : NamedView) (rs : List OwnRequest) (r : OwnRequest) → AreCounted n rs
    → ((id : ℕ) → count_at m id ≡ count_at n id + ids_counted id r) → m.all ≡ n.all + one_for_all r
    → AreCounted m (rs ++ r ∷ [])
counted_more n m rs r (counts, all) more one = (
  λ id. more id ∙ ap (λ z. z + ids_counted id r) (counts id) ∙ sym (sum_by_push (ids_counted id) rs r),
  one ∙ ap (λ z. z + one_for_all r) all ∙ sym (sum_by_push one_for_all rs r),
)

-- Numbers

abbrev same_end : (active : Option SentRequest) (queued : List OwnRequest) (r : OwnRequest)
    → open_with active (queued ++ r ∷ []) ≡ open_with active queued ++ r ∷ []
same_end None queued r = refl
same_end (Some s) queued r = refl

numbered_more : (rs : List OwnRequest) (r : OwnRequest) (next : ℕ) → AreNumbered rs next → r.number ≡ next
    → AreNumbered (rs ++ r ∷ []) (tsn_after next)
numbered_more [] r next h e = ap tsn_after e
numbered_more (a ∷ []) r next h e = (h ∙ sym e, ap tsn_after e)
numbered_more (a ∷ b ∷ rs) r next (h, more) e = (h, numbered_more (b ∷ rs) r next more e)

-- a request more is kept
module _ (n m : NamedView) (queued : List OwnRequest) (active : Option SentRequest) (next : ℕ)
    (k : AreKept n queued active next) (r : OwnRequest) where
  pub kept_more : r.number ≡ next
      → ((id : ℕ) → count_at m id ≡ count_at n id + count_by (is_at (nat_cmp id)) r.ids)
      → m.all ≡ n.all + cond r.names_all 1 0 → AreKept m (queued ++ r ∷ []) active (tsn_after next)
  kept_more number counts all = record {
    counted =
        rw (same_end active queued r) (counted_more n m (open_with active queued) r k.counted counts all);
    fits = k.fits;
    numbered = rw (same_end active queued r) (numbered_more (open_with active queued) r next k.numbered number);
  }

-- the counts tell where two of the requests reset a stream
pub counted_twice : (n : NamedView) (rs : List OwnRequest) (id : ℕ) → AreCounted n rs
    → is_twice n.all (count_at n id) ≡ are_to_reset_twice rs id
counted_twice n rs id (counts, all) = rw (all, counts id) refl
