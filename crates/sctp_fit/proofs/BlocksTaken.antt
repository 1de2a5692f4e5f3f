-- The first pieces in flight, acknowledged one at a time, and then those that gap ack blocks name of the pieces behind
-- them, are those that a cumulative TSN ack and its blocks acknowledge at once.
use Rattle.std.proofs.Common.{ℕ, zero, suc, ◌+◌, ◌-◌, ◌<◌, ◌≤◌, ◌≡◌, Bool, true, ◌||◌, List, [], ◌∷◌, length}
use Rattle.std.proofs.Common.{Some, cond, refl, sym, ap, ◌∙◌, arith, ltb, drop}
use Rattle.std.proofs.lemmas.Bool.{le-ltb, lt-ltb}
use Rattle.sctp_wire_types.specs.declared.chunk.GapAckBlock.{GapAckBlock}
use Rattle.sctp_received.specs.Received.{is_named}
use Rattle.sctp_outbound_queue.specs.declared.message.InFlight.{InFlight}
use Rattle.sctp_outbound_queue.specs.Message.{acked}
use Rattle.sctp_outbound_queue.specs.Outbound.{Outbound, tsn_at}
use Rattle.sctp_outbound.specs.Sender.{streams_after}
use Rattle.sctp_streams.specs.Streams.{StreamMap}
use Rattle.sctp_outbound.specs.GapAcks.{acked_among, released_among}
use Rattle.sctp_fit.specs.CumulativeAcks.{SacksTakeWhatTheyName, with_named}
use Rattle.sctp_fit.proofs.CumulativeAcksTaken.{one_at_a_time, released_first, with_flight}

module _ (named said : ℕ → Bool) where
  -- one set names from k on what another names from i on
  abbrev IsSameFrom : ℕ → ℕ → Type 0
  IsSameFrom k i = (j : ℕ) → named (k + j) ≡ said (i + j)

  at_once : (k i : ℕ) → IsSameFrom k i → named k ≡ said i
  at_once k i same =
      ap named (let e : k ≡ k + 0 = omega arith in e) ∙ same 0 ∙ ap said (let e : i + 0 ≡ i = omega arith in e)

  same_behind : (k i : ℕ) → IsSameFrom k i → IsSameFrom (suc k) (suc i)
  same_behind k i same j =
      ap named (let e : suc k + j ≡ k + suc j = omega arith in e) ∙ same (suc j)
      ∙ ap said (let e : i + suc j ≡ suc i + j = omega arith in e)

  -- then they acknowledge the same pieces and release the same bytes
  same_acked : (xs : List InFlight) (k i : ℕ) → IsSameFrom k i → acked_among named k xs ≡ acked_among said i xs
  same_acked [] k i same = refl
  same_acked (x ∷ xs) k i same =
      ap (λ b. cond b (acked x) x ∷ acked_among named (suc k) xs) (at_once k i same)
      ∙ ap (λ z. cond (said i) (acked x) x ∷ z) (same_acked xs (suc k) (suc i) (same_behind k i same))

  same_released : (xs : List InFlight) (k i : ℕ) (m : StreamMap) → IsSameFrom k i
      → released_among named k xs m ≡ released_among said i xs m
  same_released [] k i m same = refl
  same_released (x ∷ xs) k i m same =
      ap (λ b. released_among named (suc k) xs (cond b (streams_after (Some x) m) m)) (at_once k i same)
      ∙ same_released xs (suc k) (suc i) (cond (said i) (streams_after (Some x) m) m) (same_behind k i same)

  -- behind the first n, which go, the named ones are acknowledged
  acked_behind : (n k i : ℕ) (xs : List InFlight) → n ≤ length xs → IsSameFrom (k + n) i
      → drop n (acked_among named k xs) ≡ acked_among said i (drop n xs)
  acked_behind zero k i xs l same =
      same_acked xs k i (λ j. ap named (let e : k + j ≡ k + 0 + j = omega arith in e) ∙ same j)
  acked_behind (suc n) k i [] l same = absurd (omega arith)
  acked_behind (suc n) k i (x ∷ xs) l same =
      acked_behind n (suc k) i xs (omega arith)
      (λ j. ap named (let e : suc k + n + j ≡ k + suc n + j = omega arith in e) ∙ same j)

  -- the bytes of the first n are released, and then those of the named ones behind them
  released_behind : (n k i : ℕ) (xs : List InFlight) (m : StreamMap) → n ≤ length xs
      → ((j : ℕ) → k ≤ j → j < k + n → named j ≡ true) → IsSameFrom (k + n) i
      → released_among named k xs m ≡ released_among said i (drop n xs) (released_first n xs m)
  released_behind zero k i xs m l all same =
      same_released xs k i m (λ j. ap named (let e : k + j ≡ k + 0 + j = omega arith in e) ∙ same j)
  released_behind (suc n) k i [] m l all same = absurd (omega arith)
  released_behind (suc n) k i (x ∷ xs) m l all same =
      ap (λ b. released_among named (suc k) xs (cond b (streams_after (Some x) m) m))
      (all k (omega arith) (omega arith))
      ∙ released_behind n (suc k) i xs (streams_after (Some x) m) (omega arith)
      (λ j u v. all j (omega arith) (omega arith))
      (λ j. ap named (let e : suc k + n + j ≡ k + suc n + j = omega arith in e) ∙ same j)

-- what a cumulative TSN ack and its blocks acknowledge at once
abbrev named_from : ℕ → List GapAckBlock → ℕ → Bool
named_from n blocks j = ltb j n || is_named (j + 1 - n) blocks

-- of the pieces behind the first n it is what the blocks name
behind_the_first : (n : ℕ) (blocks : List GapAckBlock) (j : ℕ) → named_from n blocks (n + j) ≡ is_named (j + 1) blocks
behind_the_first n blocks j =
    ap (λ b. b || is_named (n + j + 1 - n) blocks) (le-ltb (n + j) n (omega arith))
    ∙ ap (λ z. is_named z blocks) (let e : n + j + 1 - n ≡ j + 1 = omega arith in e)

-- A cumulative TSN ack and its blocks acknowledge at once what is taken one piece at a time, and then by the blocks.
pub sacks_take_what_they_name : SacksTakeWhatTheyName
sacks_take_what_they_name a n blocks l small =
    ap (λ z. with_flight q.pending q.next_message_id a.size z (tsn_at q.first_tsn n)
    (released_among named 0 q.in_flight a.streams) (a.base + n))
    (acked_behind named said n 0 0 q.in_flight l same)
    ∙ ap (λ z. with_flight q.pending q.next_message_id a.size (acked_among said 0 (drop n q.in_flight))
    (tsn_at q.first_tsn n) z (a.base + n))
    (released_behind named said n 0 0 q.in_flight a.streams l
    (λ j u v. ap (λ b. b || is_named (j + 1 - n) blocks) (lt-ltb j n (omega arith))) same)
    ∙ ap (with_named said)
    (sym (one_at_a_time q.pending q.next_message_id a.size n q.in_flight q.first_tsn a.streams a.base l small))
  where
    q : Outbound
    q = a.queue

    named : ℕ → Bool
    named = named_from n blocks

    said : ℕ → Bool
    said j = is_named (j + 1) blocks

    same : (j : ℕ) → named (0 + n + j) ≡ said (0 + j)
    same j =
        ap named (let e : 0 + n + j ≡ n + j = omega arith in e) ∙ behind_the_first n blocks j
        ∙ ap said (let e : j ≡ 0 + j = omega arith in e)
