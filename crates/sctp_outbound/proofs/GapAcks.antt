-- What is acknowledged and released piece by piece is what all blocks name (RFC 4960 section 6.2.1).
use Rattle.std.proofs.Common.{◌≡◌, ℕ, zero, suc, ◌+◌, ◌-◌, ◌%◌, ◌^◌, ◌<◌, ◌≤◌, Bool, true, false, ◌&&◌, ◌||◌, cond, eqb}
use Rattle.std.proofs.Common.{leb, ltb, min, not, Option, List, [], ◌∷◌, Some, None, length, take, drop, ◌++◌, set}
use Rattle.std.proofs.Common.{get_or, slice_get, refl, ap, sym, subst, ◌∙◌, arith}
use Rattle.std.proofs.lemmas.Bool.{eq-eqb, ne_eqb}
use Rattle.std.proofs.lemmas.Bool.Decides.{nat_tests}
use Rattle.std.proofs.Math.ListN.{drop_of_length-le}
use Rattle.std.proofs.lemmas.List.{drop_more, take_all}
use Rattle.std.proofs.lemmas.List.Folds.{list_any_more}
use Rattle.sctp_serial.specs.Serial.{tsn_past}
use Rattle.sctp_wire_types.specs.declared.chunk.GapAckBlock.{GapAckBlock}
use Rattle.sctp_outbound_queue.specs.declared.message.InFlight.{InFlight}
use Rattle.sctp_outbound_queue.specs.Message.{acked}
use Rattle.sctp_outbound_queue.specs.Outbound.{Outbound, acked_at, changed_from}
use Rattle.sctp_received.specs.Received.{is_named}
use Rattle.sctp_streams.specs.Streams.{StreamMap}
use Rattle.sctp_parts.specs.Estimate.{Estimate, measured}
use Rattle.sctp_outbound.specs.declared.sender.Sender.{Sender}
use Rattle.sctp_outbound.specs.Sender.{streams_after}
use Rattle.sctp_outbound.specs.GapAcks.{acked_among, block_trips, is_named_by, released_among, round_trips, timed}
use Rattle.sctp_outbound.specs.GapAcks.{trip_of, trips_from}
use Rattle.sctp_outbound.specs.Progress.{greatest_of, if_new, last_new}
use Rattle.sctp_outbound.specs.GapAcks.{blocks_timed, with_blocks, with_measure}
use Rattle.sctp_outbound.proofs.SenderSteps.{none_past}
use Rattle.sctp_outbound.proofs.StreamReleases.{acked_releases_nothing, releases_commute}

-- Which pieces are named

-- none of these is named, and nothing changes
pub none_acked : (named : ℕ → Bool) (k : ℕ) (xs : List InFlight)
    → ((j : ℕ) → k ≤ j → j < k + length xs → named j ≡ false) → acked_among named k xs ≡ xs
none_acked named k [] h = refl
none_acked named k (x ∷ xs) h =
    rw (h k (omega arith) (omega arith))
    (ap (λ z. x ∷ z) (none_acked named (suc k) xs (λ j l u. h j (omega arith) (omega arith))))

pub none_released : (named : ℕ → Bool) (k : ℕ) (xs : List InFlight) (m : StreamMap)
    → ((j : ℕ) → k ≤ j → j < k + length xs → named j ≡ false) → released_among named k xs m ≡ m
none_released named k [] m h = refl
none_released named k (x ∷ xs) m h =
    rw (h k (omega arith) (omega arith))
    (none_released named (suc k) xs m (λ j l u. h j (omega arith) (omega arith)))

-- the same of these are named
same_acked : (a b : ℕ → Bool) (k : ℕ) (xs : List InFlight)
    → ((j : ℕ) → k ≤ j → j < k + length xs → a j ≡ b j) → acked_among a k xs ≡ acked_among b k xs
same_acked a b k [] h = refl
same_acked a b k (x ∷ xs) h =
    rw (h k (omega arith) (omega arith))
    (ap (λ z. cond (b k) (acked x) x ∷ z) (same_acked a b (suc k) xs (λ j l u. h j (omega arith) (omega arith))))

same_released : (a b : ℕ → Bool) (k : ℕ) (xs : List InFlight) (m : StreamMap)
    → ((j : ℕ) → k ≤ j → j < k + length xs → a j ≡ b j) → released_among a k xs m ≡ released_among b k xs m
same_released a b k [] m h = refl
same_released a b k (x ∷ xs) m h =
    rw (h k (omega arith) (omega arith))
    (same_released a b (suc k) xs (cond (b k) (streams_after (Some x) m) m)
    (λ j l u. h j (omega arith) (omega arith)))

-- one of them is
one_acked : (t i k : ℕ) (xs : List InFlight) (p : InFlight) → t ≡ k + i → slice_get xs i ≡ Some p
    → acked_among (λ j. eqb j t) k xs ≡ set xs i (acked p)
one_acked t i k [] p e here = absurd (cc)
one_acked t zero k (x ∷ xs) p e here =
    let same : x ≡ p = cc in
    let this : eqb k t ≡ true = eq-eqb k t (omega arith) in
    rw (this, same, none_acked (λ j. eqb j t) (suc k) xs (λ j l u. ne_eqb j t (λ (f : j ≡ t). omega arith)))
one_acked t (suc i) k (x ∷ xs) p e here =
    let other : eqb k t ≡ false = ne_eqb k t (λ (f : k ≡ t). omega arith) in
    rw (other, one_acked t i (suc k) xs p (omega arith) here)

one_released : (t i k : ℕ) (xs : List InFlight) (m : StreamMap) (p : InFlight) → t ≡ k + i → slice_get xs i ≡ Some p
    → released_among (λ j. eqb j t) k xs m ≡ streams_after (Some p) m
one_released t i k [] m p e here = absurd (cc)
one_released t zero k (x ∷ xs) m p e here =
    let same : x ≡ p = cc in
    let this : eqb k t ≡ true = eq-eqb k t (omega arith) in
    rw (this, same)
    (none_released (λ j. eqb j t) (suc k) xs (streams_after (Some p) m)
    (λ j l u. ne_eqb j t (λ (f : j ≡ t). omega arith)))
one_released t (suc i) k (x ∷ xs) m p e here =
    let other : eqb k t ≡ false = ne_eqb k t (λ (f : k ≡ t). omega arith) in
    rw other (one_released t i (suc k) xs m p (omega arith) here)

-- Some are named, and then others

piece_again : (a b : Bool) (x : InFlight)
    → cond b (acked (cond a (acked x) x)) (cond a (acked x) x) ≡ cond (a || b) (acked x) x
piece_again true true x = refl
piece_again true false x = refl
piece_again false true x = refl
piece_again false false x = refl

-- those that either names are acknowledged
acked_again : (a b : ℕ → Bool) (k : ℕ) (xs : List InFlight)
    → acked_among b k (acked_among a k xs) ≡ acked_among (λ j. a j || b j) k xs
acked_again a b k [] = refl
acked_again a b k (x ∷ xs) = rw (piece_again (a k) (b k) x, acked_again a b (suc k) xs)

-- it is all the same whether a piece's bytes are released before those of others or after
released_later : (named : ℕ → Bool) (x : InFlight) (k : ℕ) (xs : List InFlight) (m : StreamMap)
    → streams_after (Some x) (released_among named k xs m) ≡ released_among named k xs (streams_after (Some x) m)
released_later named x k [] m = refl
released_later named x k (y ∷ ys) m =
    released_later named x (suc k) ys (cond (named k) (streams_after (Some y) m) m)
    ∙ ap (released_among named (suc k) ys) (one_or_none (named k))
  where
    one_or_none : (b : Bool)
        → streams_after (Some x) (cond b (streams_after (Some y) m) m)
        ≡ cond b (streams_after (Some y) (streams_after (Some x) m)) (streams_after (Some x) m)
    one_or_none true = releases_commute x y m
    one_or_none false = refl

-- a piece that is named twice is released once
released_once : (named : ℕ → Bool) (a b : Bool) (x : InFlight) (k : ℕ) (xs : List InFlight) (m : StreamMap)
    → cond b
    (streams_after (Some (cond a (acked x) x)) (released_among named k xs (cond a (streams_after (Some x) m) m)))
    (released_among named k xs (cond a (streams_after (Some x) m) m))
    ≡ released_among named k xs (cond (a || b) (streams_after (Some x) m) m)
released_once named true true x k xs m =
    acked_releases_nothing x (released_among named k xs (streams_after (Some x) m))
released_once named true false x k xs m = refl
released_once named false true x k xs m = released_later named x k xs m
released_once named false false x k xs m = refl

-- the bytes of those that either names are released
released_again : (a b : ℕ → Bool) (k : ℕ) (xs : List InFlight) (m : StreamMap)
    → released_among b k (acked_among a k xs) (released_among a k xs m) ≡ released_among (λ j. a j || b j) k xs m
released_again a b k [] m = refl
released_again a b k (x ∷ xs) m =
    ap (released_among b (suc k) (acked_among a (suc k) xs)) (released_once a (a k) (b k) x (suc k) xs m)
    ∙ released_again a b (suc k) xs (cond (a k || b k) (streams_after (Some x) m) m)

-- Which of them is the last that is new

pub greatest_none : (a : Option ℕ) → greatest_of a None ≡ a
greatest_none None = refl
greatest_none (Some i) = refl

greatest_pairs : (a b p q : Option ℕ)
    → greatest_of (greatest_of a b) (greatest_of p q) ≡ greatest_of (greatest_of a p) (greatest_of b q)
greatest_pairs None None p q = refl
greatest_pairs None (Some b) None None = refl
greatest_pairs None (Some b) None (Some q) = refl
greatest_pairs None (Some b) (Some p) None = ap Some (omega arith)
greatest_pairs None (Some b) (Some p) (Some q) = ap Some (omega arith)
greatest_pairs (Some a) None None None = refl
greatest_pairs (Some a) None None (Some q) = refl
greatest_pairs (Some a) None (Some p) None = refl
greatest_pairs (Some a) None (Some p) (Some q) = ap Some (omega arith)
greatest_pairs (Some a) (Some b) None None = refl
greatest_pairs (Some a) (Some b) None (Some q) = ap Some (omega arith)
greatest_pairs (Some a) (Some b) (Some p) None = ap Some (omega arith)
greatest_pairs (Some a) (Some b) (Some p) (Some q) = ap Some (omega arith)

none_new : (named : ℕ → Bool) (k : ℕ) (xs : List InFlight)
    → ((j : ℕ) → k ≤ j → j < k + length xs → named j ≡ false) → last_new named k xs ≡ None
none_new named k [] h = refl
none_new named k (x ∷ xs) h =
    rw (h k (omega arith) (omega arith), none_new named (suc k) xs (λ j l u. h j (omega arith) (omega arith))) refl

same_new : (a b : ℕ → Bool) (k : ℕ) (xs : List InFlight)
    → ((j : ℕ) → k ≤ j → j < k + length xs → a j ≡ b j) → last_new a k xs ≡ last_new b k xs
same_new a b k [] h = refl
same_new a b k (x ∷ xs) h =
    rw (h k (omega arith) (omega arith))
    (ap (λ z. greatest_of z (if_new (b k) k x))
    (same_new a b (suc k) xs (λ j l u. h j (omega arith) (omega arith))))

one_new : (t i k : ℕ) (xs : List InFlight) (p : InFlight) → t ≡ k + i → slice_get xs i ≡ Some p
    → last_new (λ j. eqb j t) k xs ≡ if_new true t p
one_new t i k [] p e here = absurd (cc)
one_new t zero k (x ∷ xs) p e here =
    let same : x ≡ p = cc in
    let this : eqb k t ≡ true = eq-eqb k t (omega arith) in
    let number : k ≡ t = omega (arith, e) in
    ap (λ b. greatest_of (last_new (λ j. eqb j t) (suc k) xs) (if_new b k x)) this
    ∙ ap (λ z. greatest_of z (if_new true k x))
    (none_new (λ j. eqb j t) (suc k) xs (λ j l u. ne_eqb j t (λ (f : j ≡ t). omega arith)))
    ∙ ap (λ n. if_new true n x) number
    ∙ ap (if_new true t) same
one_new t (suc i) k (x ∷ xs) p e here =
    let other : eqb k t ≡ false = ne_eqb k t (λ (f : k ≡ t). omega arith) in
    ap (λ b. greatest_of (last_new (λ j. eqb j t) (suc k) xs) (if_new b k x)) other
    ∙ greatest_none (last_new (λ j. eqb j t) (suc k) xs)
    ∙ one_new t i (suc k) xs p (omega arith) here

-- a piece that is named twice is new once
new_once : (a b : Bool) (k : ℕ) (x : InFlight)
    → if_new (a || b) k x ≡ greatest_of (if_new a k x) (if_new b k (cond a (acked x) x))
new_once true true k x = sym (greatest_none (if_new true k x))
new_once true false k x = sym (greatest_none (if_new true k x))
new_once false b k x = refl

new_again : (a b : ℕ → Bool) (k : ℕ) (xs : List InFlight)
    → last_new (λ j. a j || b j) k xs ≡ greatest_of (last_new a k xs) (last_new b k (acked_among a k xs))
new_again a b k [] = refl
new_again a b k (x ∷ xs) =
    ap (λ z. greatest_of z (if_new (a k || b k) k x)) (new_again a b (suc k) xs)
    ∙ ap (greatest_of (greatest_of (last_new a (suc k) xs) (last_new b (suc k) (acked_among a (suc k) xs))))
    (new_once (a k) (b k) k x)
    ∙ greatest_pairs (last_new a (suc k) xs) (last_new b (suc k) (acked_among a (suc k) xs)) (if_new (a k) k x)
    (if_new (b k) k (cond (a k) (acked x) x))

-- The sender and the streams

-- of the pieces in flight those are acknowledged, and their bytes released, whose numbers are named
pub record AcknowledgesNamed (named : ℕ → Bool) (s s2 : Sender) (m m2 : StreamMap) (last : Option ℕ) : Type 0 where
  pub pieces : s2 ≡ with_measure s (acked_among named 0 s.queue.in_flight) s2.min_tsn2measure_rtt
  pub released : m2 ≡ released_among named 0 s.queue.in_flight m
  pub newest : last ≡ last_new named 0 s.queue.in_flight

pub both_of : (a b : Bool) → (a && not b) ≡ true → (a ≡ true) × (b ≡ false)
both_of true true e = absurd (cc)
both_of true false e = (refl, refl)
both_of false b e = absurd (cc)

same_set : (xs : List InFlight) (i : ℕ) (p : InFlight) → slice_get xs i ≡ Some p → set xs i p ≡ xs
same_set [] i p here = absurd (cc)
same_set (x ∷ xs) zero p here = let same : x ≡ p = cc in rw same refl
same_set (x ∷ xs) (suc i) p here = ap (λ z. x ∷ z) (same_set xs i p here)

acked_already : (p : InFlight) → p.acked ≡ true → p.retransmit ≡ false → acked p ≡ p
acked_already p e f =
    ap (λ a. record p { acked = a; retransmit = false }) (sym e)
    ∙ ap (λ r. record p { acked = p.acked; retransmit = r }) (sym f)

-- of a piece that was acknowledged before nothing changes
pub acked_before : (xs : List InFlight) (t : ℕ) (p : InFlight) → slice_get xs t ≡ Some p
    → (p.acked && not p.retransmit) ≡ true → acked_among (λ j. eqb j t) 0 xs ≡ xs
acked_before xs t p here was =
    let both = both_of p.acked p.retransmit was in
    one_acked t t 0 xs p (omega arith) here ∙ ap (set xs t) (acked_already p both.0 both.1) ∙ same_set xs t p here

pub acknowledges_again : (s : Sender) (m : StreamMap) (t : ℕ) (p : InFlight)
    → slice_get s.queue.in_flight t ≡ Some p → (p.acked && not p.retransmit) ≡ true
    → AcknowledgesNamed (λ j. eqb j t) s s m m None
acknowledges_again s m t p here was =
    let both = both_of p.acked p.retransmit was in
    let e = both.0 in
    let f = both.1 in
    let own = acked_already p e f in
    let pieces : acked_among (λ j. eqb j t) 0 s.queue.in_flight ≡ s.queue.in_flight =
    acked_before s.queue.in_flight t p here was in
    let streams : streams_after (Some p) m ≡ m =
    ap (λ q. streams_after (Some q) m) (sym own) ∙ acked_releases_nothing p m in
    record {
      pieces = rw pieces refl;
      released = sym (one_released t t 0 s.queue.in_flight m p (omega arith) here ∙ streams);
      newest = sym (one_new t t 0 s.queue.in_flight p (omega arith) here ∙ rw e refl);
    }

-- where none in flight is named, nothing changes
pub acknowledges_none : (named : ℕ → Bool) (s : Sender) (m : StreamMap)
    → ((j : ℕ) → j < length s.queue.in_flight → named j ≡ false) → AcknowledgesNamed named s s m m None
acknowledges_none named s m h = record {
  pieces =
      ap (λ z. with_measure s z s.min_tsn2measure_rtt)
      (sym (none_acked named 0 s.queue.in_flight (λ j l u. h j (omega arith))));
  released = sym (none_released named 0 s.queue.in_flight m (λ j l u. h j (omega arith)));
  newest = sym (none_new named 0 s.queue.in_flight (λ j l u. h j (omega arith)));
}

-- the same in flight are named
pub acknowledges_same : {a : ℕ → Bool} {s s2 : Sender} {m m2 : StreamMap} {last : Option ℕ} (named : ℕ → Bool)
    → AcknowledgesNamed a s s2 m m2 last → ((j : ℕ) → j < length s.queue.in_flight → a j ≡ named j)
    → AcknowledgesNamed named s s2 m m2 last
acknowledges_same {a = a} {s = s} {s2 = s2} {m = m} named all h = record {
  pieces =
      all.pieces
      ∙ ap (λ z. with_measure s z s2.min_tsn2measure_rtt)
      (same_acked a named 0 s.queue.in_flight (λ j l u. h j (omega arith)));
  released = all.released ∙ same_released a named 0 s.queue.in_flight m (λ j l u. h j (omega arith));
  newest = all.newest ∙ same_new a named 0 s.queue.in_flight (λ j l u. h j (omega arith));
}

-- some are named, and then others
pub acknowledges_both : {a b : ℕ → Bool} {s s2 s3 : Sender} {m m2 m3 : StreamMap} {k l : Option ℕ}
    (named : ℕ → Bool)
    → AcknowledgesNamed a s s2 m m2 k → AcknowledgesNamed b s2 s3 m2 m3 l
    → ((j : ℕ) → j < length s.queue.in_flight → (a j || b j) ≡ named j)
    → AcknowledgesNamed named s s3 m m3 (greatest_of k l)
acknowledges_both {a = a} {b = b} {s = s} {s3 = s3} {m = m} {m2 = m2} {k = k} {l = l} named first second h =
    let xs = s.queue.in_flight in
    acknowledges_same named
    (record {
      pieces =
          second.pieces
          ∙ ap (λ (z : Sender). with_measure z (acked_among b 0 z.queue.in_flight) s3.min_tsn2measure_rtt) first.pieces
          ∙ ap (λ z. with_measure s z s3.min_tsn2measure_rtt) (acked_again a b 0 xs);
      released =
          second.released
          ∙ ap (λ (z : Sender). released_among b 0 z.queue.in_flight m2) first.pieces
          ∙ ap (released_among b 0 (acked_among a 0 xs)) first.released
          ∙ released_again a b 0 xs m;
      newest =
          ap (greatest_of k) second.newest
          ∙ ap (λ (z : Sender). greatest_of k (last_new b 0 z.queue.in_flight)) first.pieces
          ∙ ap (λ z. greatest_of z (last_new b 0 (acked_among a 0 xs))) first.newest
          ∙ sym (new_again a b 0 xs);
    })
    h

-- The piece at an index
module _ (s : Sender) (m : StreamMap) (i : ℕ) where
  -- it is marked, and its bytes are released
  pub acknowledges_one : {q : Outbound} {bytes tsn : ℕ} (first : ℕ) (p : InFlight)
      → slice_get s.queue.in_flight i ≡ Some p
      → s.queue.first_tsn < 2 ^ 32 → i < 65536 → tsn ≡ (s.queue.first_tsn + i) % 2 ^ 32
      → acked_at s.queue tsn ≡ (q, bytes)
      → AcknowledgesNamed (λ j. eqb j i) s (record s { queue = q; min_tsn2measure_rtt = first }) m
      (streams_after (Some p) m)
      (if_new true i p)
  acknowledges_one {tsn = tsn} first p here small near e marked =
      let place : tsn_past s.queue.first_tsn tsn ≡ i = omega arith in
      let there : slice_get s.queue.in_flight (tsn_past s.queue.first_tsn tsn) ≡ Some p =
      ap (slice_get s.queue.in_flight) place ∙ here in
      record {
        pieces =
            ap (λ (z : Outbound × ℕ). record s { queue = z.0; min_tsn2measure_rtt = first }) (sym marked)
            ∙ ap (λ o. record s {
              queue = changed_from acked o s.queue (tsn_past s.queue.first_tsn tsn);
              min_tsn2measure_rtt = first;
            }) there
            ∙ ap (λ k. with_measure s (set s.queue.in_flight k (acked p)) first) place
            ∙ ap (λ z. with_measure s z first) (sym (one_acked i i 0 s.queue.in_flight p (omega arith) here));
        released = sym (one_released i i 0 s.queue.in_flight m p (omega arith) here);
        newest = sym (one_new i i 0 s.queue.in_flight p (omega arith) here);
      }

  -- no piece is there
  pub acknowledges_past : slice_get s.queue.in_flight i ≡ None → AcknowledgesNamed (λ j. eqb j i) s s m m None
  acknowledges_past none =
      let past = none_past s.queue.in_flight i none in
      acknowledges_none (λ j. eqb j i) s m (λ j l. ne_eqb j i (λ (f : j ≡ i). omega arith))

-- and where their round trips were measured besides, that is all that the blocks do
pub all_taken : {s s2 : Sender} {m m2 : StreamMap} {last : Option ℕ} (now : ℕ) (blocks : List GapAckBlock)
    (e e2 : Estimate) → AcknowledgesNamed (λ j. is_named (j + 1) blocks) s s2 m m2 last
    → (s2.min_tsn2measure_rtt, e2) ≡ blocks_timed now blocks s e
    → with_blocks now blocks (s, e, m) ≡ (s2, e2, m2)
all_taken {s = s} {s2 = s2} {m = m} now blocks e e2 all measured =
    ap (λ (z : ℕ × Estimate). (
      with_measure s (acked_among (λ j. is_named (j + 1) blocks) 0 s.queue.in_flight) z.0,
      z.1,
      released_among (λ j. is_named (j + 1) blocks) 0 s.queue.in_flight m,
    )) (sym measured)
    ∙ ap (λ (z : Sender). (z, e2, released_among (λ j. is_named (j + 1) blocks) 0 s.queue.in_flight m)) (sym all.pieces)
    ∙ ap (λ (z : StreamMap). (s2, e2, z)) (sym all.released)

-- The places of a block

-- those from the first one on that were gone over, of so many
abbrev pub passed : ℕ → ℕ → ℕ → ℕ → Bool
passed first count i j = leb first j && (ltb j i && ltb j count)

module _ (first count : ℕ) where
  pub passed_none : (j : ℕ) → passed first count first j ≡ false
  passed_none j = grind (arith, nat_tests)

  pub passed_more : (i j : ℕ) → first ≤ i → i < count
      → (passed first count i j || eqb j i) ≡ passed first count (i + 1) j
  passed_more i j l u = grind (arith, nat_tests)

  -- all of them are those that the block names of what is in flight
  pub passed_all : (b : GapAckBlock) (i n j : ℕ) → first ≡ b.start - 1 → count ≡ min b.end n → count ≤ i → j < n
      → passed first count i j ≡ is_named_by b j
  passed_all b i n j f c l u = grind (arith, nat_tests, f, c, l, u)

-- What they measure

abbrev pub no_block : GapAckBlock
no_block = record { start = 0; end = 0 }

pub timed_both : (next : ℕ) (a b : List ℕ) (x : ℕ × Estimate) → timed next (a ++ b) x ≡ timed next b (timed next a x)
timed_both next [] b x = refl
timed_both next (t ∷ a) b x = timed_both next a b (next, measured t x.1)

-- what the piece at one place measures, and then those behind it
pub trips_step : (next now i n : ℕ) (xs : List InFlight) (x : ℕ × Estimate) → i < n
    → timed next (trips_from now i (n - i) xs) x
    ≡ timed next (trips_from now (i + 1) (n - (i + 1)) (acked_among (λ j. eqb j i) 0 xs))
    (timed next (trip_of now (slice_get xs i)) x)
trips_step next now i n xs x l =
    let more : n - i ≡ suc (n - (i + 1)) = omega (arith, l) in
    ap (λ k. timed next (trips_from now i k xs) x) more
    ∙ timed_both next (trip_of now (slice_get xs i))
    (trips_from now (i + 1) (n - (i + 1)) (acked_among (λ j. eqb j i) 0 xs)) x

pub trips_done : (next now i n : ℕ) (xs : List InFlight) (x : ℕ × Estimate) → n ≤ i
    → timed next (trips_from now i (n - i) xs) x ≡ x
trips_done next now i n xs x l =
    let none : n - i ≡ 0 = omega (arith, l) in ap (λ k. timed next (trips_from now i k xs) x) none

-- what one block measures, and then those behind it
pub blocks_step : (next now i : ℕ) (blocks items : List GapAckBlock) (xs : List InFlight) (x : ℕ × Estimate)
    → items ≡ blocks → i < length items
    → timed next (round_trips now (drop i blocks) xs) x
    ≡ timed next (round_trips now (drop (i + 1) blocks) (acked_among (is_named_by (get_or items i no_block)) 0 xs))
    (timed next (block_trips now (get_or items i no_block) xs) x)
blocks_step next now i blocks items xs x e l =
    ap (λ z. timed next (round_trips now (drop i z) xs) x) (sym e)
    ∙ ap (λ z. timed next (round_trips now z xs) x) (drop_more items i no_block l)
    ∙ timed_both next (block_trips now (get_or items i no_block) xs)
    (round_trips now (drop (i + 1) items) (acked_among (is_named_by (get_or items i no_block)) 0 xs)) x
    ∙ ap (λ z. timed next (round_trips now (drop (i + 1) z) (acked_among (is_named_by (get_or items i no_block)) 0 xs))
    (timed next (block_trips now (get_or items i no_block) xs) x)) e

pub blocks_done : (next now i : ℕ) (blocks items : List GapAckBlock) (xs : List InFlight) (x : ℕ × Estimate)
    → items ≡ blocks → length items ≤ i → timed next (round_trips now (drop i blocks) xs) x ≡ x
blocks_done next now i blocks items xs x e l =
    ap (λ z. timed next (round_trips now (drop i z) xs) x) (sym e)
    ∙ ap (λ z. timed next (round_trips now z xs) x) (drop_of_length-le items l)

-- All blocks

-- what one more block names is named besides
pub named_more : (blocks items : List GapAckBlock) (i j : ℕ) → items ≡ blocks → i < length items
    → (is_named (j + 1) (take i blocks) || is_named_by (get_or items i no_block) j)
    ≡ is_named (j + 1) (take (i + 1) blocks)
named_more blocks items i j e l =
    let within : i < length blocks = subst (λ (z : List GapAckBlock). i < length z) e l in
    ap (λ (z : List GapAckBlock). is_named (j + 1) (take i blocks) || is_named_by (get_or z i no_block) j) e
    ∙ sym (list_any_more (λ b. is_named_by b j) blocks i no_block within)

pub named_all : (blocks items : List GapAckBlock) (i j : ℕ) → items ≡ blocks → length items ≤ i
    → is_named (j + 1) (take i blocks) ≡ is_named (j + 1) blocks
named_all blocks items i j e l =
    ap (is_named (j + 1))
    (take_all i blocks (subst (λ (z : List GapAckBlock). length z ≤ i) e l))
