-- A FORWARD TSN that is ahead came: on the history its new cumulative TSN lies ahead, and the receiver's last TSN in
-- order and what it holds follow it.
use Rattle.std.proofs.Common.{◌≡◌, refl, subst, ⊎_elim, ℕ, ◌+◌, ◌-◌, ◌%◌, ◌^◌, ◌<◌, ◌≤◌, ◌==◌, ◌&&◌}
use Rattle.std.proofs.Common.{arith}
use Rattle.std.proofs.Common.{true, false, nat_lt, not}
use Rattle.std.proofs.lemmas.Bool.{and_cases, and_parts, eqb-false, ltb-false, ltb-true, not-true, or_parts}
use Rattle.sctp_serial.specs.Serial.{tsn, tsn_lt, tsn_lte, tsn_past}
use Rattle.sctp_streams.specs.Streams.{StreamMap}
use Rattle.sctp_inbound.specs.declared.receiver.Receiver.{Receiver}
use Rattle.sctp_inbound.specs.Held.{held_past}
use Rattle.sctp_inbound.specs.Receiver.{is_behind, passed_to}
use Rattle.sctp_fit.specs.HeldSet.{HoldsPast, peer_last_tsn_of, with_all_to}
use Rattle.sctp_fit.specs.Incoming.{tsn_before}
use Rattle.sctp_fit.proofs.ReachClimbs.{the_set_is_passed_over}
use Rattle.sctp_directions.specs.Acts.{History, IsAhead, offset_in, reach_in, with_passed}
use Rattle.sctp_assoc.proofs.WhatCame.{came_on, same_held}

-- a TSN that is not behind the one before a reach is less than half the range past the reach
near_of : (first t : ℕ) → first < 2 ^ 32 → t < 2 ^ 32 → tsn_lte t (tsn_before first) ≡ false
    → tsn_past first t < 2 ^ 31
near_of first t small_first small e =
    let parts = or_parts (t == tsn_before first) (tsn_lt t (tsn_before first)) e in
    let other = eqb-false t (tsn_before first) parts.0 in
    ⊎_elim
    (λ (none : nat_lt 0 (tsn_past t (tsn_before first)) ≡ false).
    absurd (other (at_once first t small_first small (ltb-false 0 (tsn_past t (tsn_before first)) none))))
    (λ (far : nat_lt (tsn_past t (tsn_before first)) (2 ^ 31) ≡ false).
    half_past first t small_first small (ltb-false (tsn_past t (tsn_before first)) (2 ^ 31) far))
    (and_cases (nat_lt 0 (tsn_past t (tsn_before first))) (nat_lt (tsn_past t (tsn_before first)) (2 ^ 31)) parts.1)
  where
    at_once : (first t : ℕ) → first < 2 ^ 32 → t < 2 ^ 32
        → ((first + 2 ^ 32 - 1) % 2 ^ 32 + 2 ^ 32 - t) % 2 ^ 32 ≤ 0 → t ≡ (first + 2 ^ 32 - 1) % 2 ^ 32
    at_once first t a b c = omega (arith, a, b, c)

    half_past : (first t : ℕ) → first < 2 ^ 32 → t < 2 ^ 32
        → 2 ^ 31 ≤ ((first + 2 ^ 32 - 1) % 2 ^ 32 + 2 ^ 32 - t) % 2 ^ 32 → (t + 2 ^ 32 - first) % 2 ^ 32 < 2 ^ 31
    half_past first t a b c = omega (arith, a, b, c)

-- A receiver that stands on a history, beside these streams, and a TSN that is ahead of it.
module _ (h : History) (m : StreamMap) (r : Receiver) (t : ℕ)
    (peer_last_tsn : r.peer_last_tsn ≡ peer_last_tsn_of (came_on h m))
    (held : HoldsPast (came_on h m) r.held)
    (e : (nat_lt t (2 ^ 32) && not (is_behind r t)) ≡ true) where
  pub lies_ahead : IsAhead h t
  lies_ahead =
      let p = and_parts (nat_lt t (2 ^ 32)) (not (is_behind r t)) e in
      let small = ltb-true t (2 ^ 32) p.0 in
      let ahead : tsn_lte t (peer_last_tsn_of (came_on h m)) ≡ false =
      subst (λ z. tsn_lte t z ≡ false) peer_last_tsn (not-true (is_behind r t) p.1) in
      let near = near_of (tsn h.peer (reach_in h)) t (tsn_small h.peer (reach_in h)) small ahead in
      record { small = small; near = more (reach_in h) (tsn_past (tsn h.peer (reach_in h)) t) near }
    where
      tsn_small : (own base : ℕ) → tsn own base < 2 ^ 32
      tsn_small own base = omega arith

      more : (n d : ℕ) → d < 2 ^ 31 → n + d < n + 2 ^ 31
      more n d l = omega (arith, l)

  passed : ((held_past r.held t).0 ≡ peer_last_tsn_of (with_all_to (came_on h m) (offset_in h t)))
      × HoldsPast (with_all_to (came_on h m) (offset_in h t)) (held_past r.held t).1
  passed =
      let a = lies_ahead in
      the_set_is_passed_over (came_on h m) r.held t _ a.small held a.near (omega arith)

  -- the last TSN in order is that TSN, or the last of those held that follow it
  pub last_tsn_passes : (n : StreamMap)
      → (passed_to r t).peer_last_tsn ≡ peer_last_tsn_of (came_on (with_passed h (offset_in h t)) n)
  last_tsn_passes n = passed.0

  -- and what is held is what lies past that
  pub held_passes : (n : StreamMap) → HoldsPast (came_on (with_passed h (offset_in h t)) n) (passed_to r t).held
  held_passes n =
      same_held (with_passed h (offset_in h t)) (with_passed h (offset_in h t)) m n
      (record { peer = refl; taken = refl; passed = refl }) passed.1
