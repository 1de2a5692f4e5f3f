-- Which of the first pieces in flight are acknowledged for the first time.
use Rattle.std.proofs.Common.{◌≡◌, ℕ, zero, suc, ◌+◌, ◌-◌, ◌<◌, ◌≤◌, Bool, true, false, ◌||◌, List, [], ◌∷◌, drop}
use Rattle.std.proofs.Common.{position, is_some, Option, slice_get, refl, ap, sym, ◌∙◌, arith}
use Rattle.std.proofs.lemmas.List.{drop-drop}
use Rattle.sctp_outbound_queue.specs.declared.message.InFlight.{InFlight}
use Rattle.sctp_wire_types.specs.declared.chunk.GapAckBlock.{GapAckBlock}
use Rattle.sctp_received.specs.Received.{is_named}
use Rattle.sctp_outbound_queue.specs.Message.{is_outstanding}
use Rattle.sctp_parts.specs.Estimate.{Estimate}
use Rattle.sctp_streams.specs.Streams.{StreamMap}
use Rattle.sctp_outbound.specs.declared.sender.Sender.{Sender}
use Rattle.sctp_outbound.specs.Sender.{acknowledged, after_first, sender_after_first, tsns_up_to}
use Rattle.sctp_outbound.specs.Sacks.{newest_of, progress_of}
use Rattle.sctp_outbound.specs.Progress.{acknowledges_at, any_new_up_to, is_new_piece, last_new}

or_again : (a b c : Bool) → ((a || b) || c) ≡ (a || (b || c))
or_again true b c = refl
or_again false b c = refl

none_new_of_none : (n : ℕ) → any_new_up_to n [] ≡ false
none_new_of_none zero = refl
none_new_of_none (suc n) = refl

-- the first one, and then the others
new_first : (n : ℕ) (s : Sender) (xs : List InFlight) → s.queue.in_flight ≡ xs
    → any_new_up_to (suc n) s.queue.in_flight
    ≡ (is_new_piece (slice_get s.queue.in_flight 0) || any_new_up_to n (sender_after_first s).queue.in_flight)
new_first n s [] e = rw e (sym (none_new_of_none n))
new_first n s (x ∷ xs) e = rw e refl

pub new_more : (a : Bool) (n i : ℕ) (s : Sender) → i < n
    → ((a || is_new_piece (slice_get s.queue.in_flight 0))
    || any_new_up_to (n - (i + 1)) (sender_after_first s).queue.in_flight)
    ≡ (a || any_new_up_to (n - i) s.queue.in_flight)
new_more a n i s l =
    let more : suc (n - (i + 1)) ≡ n - i = omega (arith, l) in
    or_again a _ _
    ∙ ap (λ z. a || z) (sym (new_first (n - (i + 1)) s s.queue.in_flight refl)
    ∙ ap (λ k. any_new_up_to k s.queue.in_flight) more)

pub new_done : (a : Bool) (n i : ℕ) (xs : List InFlight) → n ≤ i → (a || any_new_up_to (n - i) xs) ≡ a
new_done a n i xs l =
    let none : n - i ≡ 0 = omega (arith, l) in ap (λ k. a || any_new_up_to k xs) none ∙ or_false a
  where
    or_false : (a : Bool) → (a || false) ≡ a
    or_false true = refl
    or_false false = refl

first_dropped : (s : Sender) (xs : List InFlight) → s.queue.in_flight ≡ xs
    → (sender_after_first s).queue.in_flight ≡ drop 1 xs
first_dropped s [] e = rw e refl
first_dropped s (x ∷ xs) e = rw e refl

-- the first n in flight are acknowledged, and those behind them are left
pub left_behind : (n now : ℕ) (s : Sender) (e : Estimate) (m : StreamMap)
    → (acknowledged n now (s, e, m)).0.queue.in_flight ≡ drop n s.queue.in_flight
unfolding after_first
left_behind zero now s e m = refl
left_behind (suc n) now s e m =
    left_behind n now (sender_after_first s) _ _
    ∙ ap (drop n) (first_dropped s s.queue.in_flight refl)
    ∙ drop-drop n 1 s.queue.in_flight
    ∙ ap (λ k. drop k s.queue.in_flight) (more n)
  where
    more : (n : ℕ) → 1 + n ≡ suc n
    more n = omega arith

-- what the parts of a SACK acknowledge together, where so many pieces are up to its cumulative TSN ack
module _ (s : Sender) (cumulative_tsn_ack : ℕ) (blocks : List GapAckBlock) {n : ℕ}
    (count : n ≡ tsns_up_to s cumulative_tsn_ack) where
  -- the last index that its blocks newly acknowledge, of those that are left in flight
  pub newest_is : {last : Option ℕ} {left : List InFlight} → last ≡ last_new (λ j. is_named (j + 1) blocks) 0 left
      → left ≡ drop n s.queue.in_flight → last ≡ newest_of s cumulative_tsn_ack blocks
  newest_is last behind =
      last
      ∙ ap (last_new (λ j. is_named (j + 1) blocks) 0)
      (behind ∙ ap (λ (k : ℕ). drop k s.queue.in_flight) count)

  pub progress_is : {any earliest : Bool} {last : Option ℕ} → any ≡ any_new_up_to n s.queue.in_flight
      → last ≡ newest_of s cumulative_tsn_ack blocks
      → earliest ≡ acknowledges_at n blocks (position is_outstanding s.queue.in_flight)
      → record { any_new = any || is_some last; earliest = earliest } ≡ progress_of s cumulative_tsn_ack blocks
  progress_is {earliest = earliest} {last = last} first newest names =
      let up_to = tsns_up_to s cumulative_tsn_ack in
      ap (λ z. record { any_new = z || is_some last; earliest = earliest })
      (first ∙ ap (λ k. any_new_up_to k s.queue.in_flight) count)
      ∙ ap (λ z. record {
        any_new = any_new_up_to up_to s.queue.in_flight || is_some z;
        earliest = earliest;
      }) newest
      ∙ ap (λ z. record {
        any_new = any_new_up_to up_to s.queue.in_flight || is_some (newest_of s cumulative_tsn_ack blocks);
        earliest = z;
      }) (names ∙ ap (λ k. acknowledges_at k blocks (position is_outstanding s.queue.in_flight)) count)
