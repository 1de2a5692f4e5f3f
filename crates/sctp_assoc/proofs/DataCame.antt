-- New DATA came: its TSN is new on the history, and the receiver's last TSN in order and what it holds follow it.
use Rattle.std.proofs.Common.{◌≡◌, refl, sym, ap, ◌∙◌, subst, ℕ, ◌+◌, ◌^◌, arith, true, nat_lt, not}
use Rattle.std.proofs.lemmas.Bool.{and_from, and_parts, lt-ltb, ltb-true, not-true}
use Rattle.sctp_received.specs.Received.{is_new}
use Rattle.sctp_streams.specs.Streams.{StreamMap}
use Rattle.sctp_inbound.specs.declared.receiver.Receiver.{Receiver}
use Rattle.sctp_inbound.specs.Held.{held_after}
use Rattle.sctp_inbound.specs.Receiver.{is_new_to, taken_to}
use Rattle.sctp_model.specs.Packets.{mem}
use Rattle.sctp_fit.specs.HeldSet.{HoldsPast, peer_last_tsn_of, with_offset}
use Rattle.sctp_fit.proofs.HeldTsns.{new_tsns_did_not_come}
use Rattle.sctp_fit.proofs.ReachClimbs.{the_set_follows}
use Rattle.sctp_directions.specs.Acts.{History, IsNewTsn, offset_in, reach_in, with_taken}
use Rattle.sctp_assoc.proofs.WhatCame.{came_on, same_held}

-- A receiver that stands on a history, beside these streams, and a TSN.
module _ (h : History) (m : StreamMap) (r : Receiver) (t : ℕ)
    (peer_last_tsn : r.peer_last_tsn ≡ peer_last_tsn_of (came_on h m))
    (held : HoldsPast (came_on h m) r.held) where
  pub new_tsn : is_new_to r t ≡ true → IsNewTsn h t
  new_tsn e =
      let p = and_parts (nat_lt t (2 ^ 32)) (is_new r.held t r.peer_last_tsn) e in
      let small = ltb-true t (2 ^ 32) p.0 in
      let q =
      and_parts (nat_lt (offset_in h t) (reach_in h + 65535)) (not (mem (offset_in h t) h.taken))
      (sym (new_tsns_did_not_come (came_on h m) r.held t small held) ∙ ap (is_new r.held t) (sym peer_last_tsn)
      ∙ p.1) in
      record {
        small = small;
        near = ltb-true (offset_in h t) (reach_in h + 65535) q.0;
        missing = not-true (mem (offset_in h t) h.taken) q.1;
      }

  pub from_new_tsn : IsNewTsn h t → is_new_to r t ≡ true
  from_new_tsn n =
      and_from (nat_lt t (2 ^ 32)) (is_new r.held t r.peer_last_tsn) (lt-ltb t (2 ^ 32) n.small)
      (ap (is_new r.held t) peer_last_tsn ∙ new_tsns_did_not_come (came_on h m) r.held t n.small held
      ∙ and_from (nat_lt (offset_in h t) (reach_in h + 65535)) (not (mem (offset_in h t) h.taken))
      (lt-ltb (offset_in h t) (reach_in h + 65535) n.near) (ap not n.missing))

  follows : is_new_to r t ≡ true
      → ((held_after r.held (peer_last_tsn_of (came_on h m)) t).0
      ≡ peer_last_tsn_of (with_offset (came_on h m) (offset_in h t)))
      × HoldsPast (with_offset (came_on h m) (offset_in h t)) (held_after r.held (peer_last_tsn_of (came_on h m)) t).1
  follows e =
      let p = and_parts (nat_lt t (2 ^ 32)) (is_new r.held t r.peer_last_tsn) e in
      the_set_follows (came_on h m) r.held t _ (ltb-true t (2 ^ 32) p.0) held
      (ap (is_new r.held t) (sym peer_last_tsn) ∙ p.1)
      (omega arith)

  -- the last TSN in order moves with the reach
  pub last_tsn_follows : is_new_to r t ≡ true → (n : StreamMap)
      → (taken_to r t).peer_last_tsn ≡ peer_last_tsn_of (came_on (with_taken h (offset_in h t)) n)
  last_tsn_follows e n = ap (λ p. (held_after r.held p t).0) peer_last_tsn ∙ (follows e).0

  -- and what is held is what lies past that
  pub held_follows : is_new_to r t ≡ true → (n : StreamMap)
      → HoldsPast (came_on (with_taken h (offset_in h t)) n) (taken_to r t).held
  held_follows e n =
      same_held (with_taken h (offset_in h t)) (with_taken h (offset_in h t)) m n
      (record { peer = refl; taken = refl; passed = refl })
      (subst (λ p. HoldsPast (with_offset (came_on h m) (offset_in h t)) (held_after r.held p t).1) (sym peer_last_tsn)
      (follows e).1)
