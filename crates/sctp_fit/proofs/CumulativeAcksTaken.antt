-- The first pieces in flight, acknowledged one at a time, are those that are acknowledged at once.
use Rattle.std.proofs.Common.{ℕ, zero, suc, ◌+◌, ◌^◌, ◌<◌, ◌≤◌, ◌≡◌, Bool, true, false, List, [], ◌∷◌, length, Some}
use Rattle.std.proofs.Common.{sym, ap, ◌∙◌, arith, ltb, drop}
use Rattle.std.proofs.lemmas.Bool.{false_from_ne_true, lt-ltb, ltb-true}
use Rattle.sctp_outbound_queue.specs.declared.message.InFlight.{InFlight}
use Rattle.sctp_outbound_queue.specs.Outbound.{Outbound, tsn_at}
use Rattle.sctp_outbound_queue.specs.Waiting.{Waiting}
use Rattle.sctp_outbound.specs.GapAcks.{acked_among, released_among}
use Rattle.sctp_outbound.specs.Sender.{streams_after}
use Rattle.sctp_outbound.proofs.GapAcks.{none_acked, none_released}
use Rattle.sctp_streams.specs.Streams.{StreamMap}
use Rattle.sctp_fit.specs.Outgoing.{Sending}
use Rattle.sctp_fit.specs.CumulativeAcks.{CumulativeAcksTakeTheFirstPieces, first_pieces_acknowledged}

-- the streams once the outstanding bytes of the first n of these were released
abbrev pub released_first : ℕ → List InFlight → StreamMap → StreamMap
released_first zero xs m = m
released_first (suc n) [] m = m
released_first (suc n) (x ∷ xs) m = released_first n xs (streams_after (Some x) m)

module _ (named : ℕ → Bool) where
  -- behind the first n, which go, all stay as they are
  acked_behind : (n k : ℕ) (xs : List InFlight) → n ≤ length xs → ((j : ℕ) → k + n ≤ j → named j ≡ false)
      → drop n (acked_among named k xs) ≡ drop n xs
  acked_behind zero k xs l h = none_acked named k xs (λ j u v. h j (omega arith))
  acked_behind (suc n) k [] l h = absurd (omega arith)
  acked_behind (suc n) k (x ∷ xs) l h = acked_behind n (suc k) xs (omega arith) (λ j u. h j (omega arith))

  -- the bytes of the first n are released, and no others
  released_those : (n k : ℕ) (xs : List InFlight) (m : StreamMap) → n ≤ length xs
      → ((j : ℕ) → k ≤ j → j < k + n → named j ≡ true) → ((j : ℕ) → k + n ≤ j → named j ≡ false)
      → released_among named k xs m ≡ released_first n xs m
  released_those zero k xs m l t h = none_released named k xs m (λ j u v. h j (omega arith))
  released_those (suc n) k [] m l t h = absurd (omega arith)
  released_those (suc n) k (x ∷ xs) m l t h =
      rw (t k (omega arith) (omega arith))
      (released_those n (suc k) xs (streams_after (Some x) m) (omega arith)
      (λ j u v. t j (omega arith) (omega arith)) (λ j u. h j (omega arith)))

module _ (pending : List Waiting) (next size : ℕ) where
  -- what the sender has, with these pieces in flight
  abbrev pub with_flight : List InFlight → ℕ → StreamMap → ℕ → Sending
  with_flight xs first m base = record {
    queue = record { pending = pending; in_flight = xs; first_tsn = first; next_message_id = next };
    streams = m;
    base = base;
    size = size;
  }

  -- one at a time the first n go, and their bytes are released
  pub one_at_a_time : (n : ℕ) (xs : List InFlight) (first : ℕ) (m : StreamMap) (base : ℕ) → n ≤ length xs
      → first < 2 ^ 32
      → first_pieces_acknowledged n (with_flight xs first m base)
      ≡ with_flight (drop n xs) (tsn_at first n) (released_first n xs m) (base + n)
  one_at_a_time zero xs first m base l small =
      let e : first ≡ tsn_at first 0 = omega arith in
      let b : base ≡ base + 0 = omega arith in
      ap (λ z. with_flight xs z m base) e ∙ ap (λ z. with_flight xs (tsn_at first 0) m z) b
  one_at_a_time (suc n) [] first m base l small = absurd (omega arith)
  one_at_a_time (suc n) (x ∷ xs) first m base l small =
      let e : tsn_at (tsn_at first 1) n ≡ tsn_at first (suc n) = omega arith in
      let b : base + 1 + n ≡ base + suc n = omega arith in
      one_at_a_time n xs (tsn_at first 1) (streams_after (Some x) m) (base + 1) (omega arith) (omega arith)
      ∙ ap (λ z. with_flight (drop n xs) z (released_first n xs (streams_after (Some x) m)) (base + 1 + n)) e
      ∙ ap (λ z. with_flight (drop n xs) (tsn_at first (suc n)) (released_first n xs (streams_after (Some x) m)) z) b

pub cumulative_acks_take_the_first_pieces : CumulativeAcksTakeTheFirstPieces
cumulative_acks_take_the_first_pieces a n l small =
    one_at_a_time q.pending q.next_message_id a.size n q.in_flight q.first_tsn a.streams a.base l small
    ∙ ap (λ z. with_flight q.pending q.next_message_id a.size z (tsn_at q.first_tsn n)
    (released_first n q.in_flight a.streams) (a.base + n))
    (sym (acked_behind (λ j. ltb j n) n 0 q.in_flight l outside))
    ∙ ap (λ z. with_flight q.pending q.next_message_id a.size (drop n (acked_among (λ j. ltb j n) 0 q.in_flight))
    (tsn_at q.first_tsn n) z (a.base + n))
    (sym (released_those (λ j. ltb j n) n 0 q.in_flight a.streams l
    (λ j u v. lt-ltb j n (omega arith)) outside))
  where
    q : Outbound
    q = a.queue

    outside : (j : ℕ) → 0 + n ≤ j → ltb j n ≡ false
    outside j u = false_from_ne_true (ltb j n) (λ (e : ltb j n ≡ true). let v = ltb-true j n e in omega arith)
