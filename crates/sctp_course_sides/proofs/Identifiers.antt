-- Identifiers stay of 16 bits in sets of them, and in what is taken of these.
use Rattle.std.proofs.Common.{ℕ, zero, suc, ◌<◌, ◌^◌, List, [], ◌∷◌, fold, filter, not, take}
use Rattle.std.proofs.Common.{nat_cmp, Ordering, Less, Equal, Greater}
use Rattle.std.specs.BTreeSet.{insert_key}
use Rattle.std.specs.Ordering.{match_ordering}
use Rattle.sctp_wire.specs.Numbers.{IsU16}
use Rattle.sctp_outbound_queue.specs.Outbound.{Outbound, has_stream}
use Rattle.sctp_reset_requests.specs.Ids.{has_id, set_of, without}
use Rattle.sctp_reset_requests.specs.Own.{OwnView, most_ids, quiet_ids}
use Rattle.sctp_model.proofs.Lists.{all_filter}
use Rattle.sctp_course_sides.specs.Sends.{AreIdentifiers}

pub inserted_small : (k : ℕ) (ks : List ℕ) → k < 2 ^ 16 → AreIdentifiers ks → AreIdentifiers (insert_key nat_cmp ks k)
inserted_small k [] l s = (l, tt)
inserted_small k (x ∷ xs) l (s, ss) = by (nat_cmp k x) (inserted_small k xs l ss)
  where
    by : (o : Ordering) → AreIdentifiers (insert_key nat_cmp xs k)
        → AreIdentifiers (match_ordering o (k ∷ x ∷ xs) (x ∷ xs) (x ∷ insert_key nat_cmp xs k))
    by Less more = (l, (s, ss))
    by Equal more = (s, ss)
    by Greater more = (s, more)

all_inserted : (ks ids : List ℕ) → AreIdentifiers ks → AreIdentifiers ids
    → AreIdentifiers (fold (insert_key nat_cmp) ks ids)
all_inserted ks [] s t = s
all_inserted ks (x ∷ xs) s (t, ts) = all_inserted (insert_key nat_cmp ks x) xs (inserted_small x ks t s) ts

pub set_small : (ids : List ℕ) → AreIdentifiers ids → AreIdentifiers (set_of ids)
set_small ids s = all_inserted [] ids tt s

pub without_small : (set ids : List ℕ) → AreIdentifiers set → AreIdentifiers (without set ids)
without_small set ids s = all_filter IsU16 (λ (k : ℕ). not (has_id k ids)) set s

taken_small : (n : ℕ) (ks : List ℕ) → AreIdentifiers ks → AreIdentifiers (take n ks)
taken_small zero ks s = tt
taken_small (suc n) [] s = tt
taken_small (suc n) (k ∷ ks) (s, ss) = (s, taken_small n ks ss)

pub quiet_small : (o : OwnView) (q : Outbound) → AreIdentifiers o.waiting → AreIdentifiers (quiet_ids o q)
quiet_small o q s =
    taken_small most_ids (filter (λ (k : ℕ). not (has_stream q k)) o.waiting)
    (all_filter IsU16 (λ (k : ℕ). not (has_stream q k)) o.waiting s)
