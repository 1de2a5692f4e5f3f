-- A TSN that is held is farther past the last TSN in order than a new one exactly where an offset past the new one's
-- came.
use Rattle.std.proofs.Common.{◌≡◌, sym, ◌∙◌, subst, ℕ, suc, ◌<◌, ◌≤◌, ◌+◌, arith, true, ltb}
use Rattle.std.proofs.Common.{List}
use Rattle.std.proofs.lemmas.Bool.{lt-ltb, ltb-true}
use Rattle.sctp_serial.specs.Serial.{tsn, tsn_past}
use Rattle.sctp_streams.specs.Streams.{StreamMap}
use Rattle.sctp_inbound.specs.Held.{is_passed}
use Rattle.sctp_fit.specs.HeldSet.{HoldsPast, IsPast, peer_last_tsn_of}
use Rattle.sctp_fit.proofs.HeldTsns.{any_from, any_in, before, held_is, past_before, spells}
use Rattle.sctp_directions.specs.Acts.{History, IsNewTsn, offset_in, reach_in}
use Rattle.sctp_assoc.proofs.WhatCame.{came_on}
use Rattle.sctp_sides.specs.Intake.{FillsAGap}

-- distances past the last TSN in order go as offsets do
farther : (x y r o q : ℕ) → x + r ≡ suc o → y + r ≡ suc q → x < y → o < q
farther x y r o q a b l = omega arith

farther_past : (x y r o q : ℕ) → x + r ≡ suc o → y + r ≡ suc q → o < q → x < y
farther_past x y r o q a b l = omega arith

at_least : (r d o : ℕ) → r + d < o → r ≤ o
at_least r d o l = omega arith

from_reach : (r d : ℕ) → r ≤ r + d
from_reach r d = omega arith

below_next : (r o : ℕ) → r < o → r ≤ o
below_next r o l = omega arith

-- What is held on a history, and a new TSN.
module _ (h : History) (m : StreamMap) (held : List ℕ) (t : ℕ) (holds : HoldsPast (came_on h m) held)
    (new : IsNewTsn h t) where
  here : tsn_past (before h.peer (reach_in h)) t + reach_in h ≡ suc (offset_in h t)
  here =
      subst (λ z. tsn_past (before h.peer (reach_in h)) z + reach_in h ≡ suc (offset_in h t))
      (spells h.peer (reach_in h) t new.small)
      (past_before h.peer (reach_in h) (offset_in h t) (from_reach (reach_in h) (tsn_past (tsn h.peer (reach_in h)) t))
      new.near)

  pub passed_came : is_passed held (peer_last_tsn_of (came_on h m)) t ≡ true → FillsAGap h t
  passed_came =
      any_from (λ u. ltb (tsn_past (before h.peer (reach_in h)) t) (tsn_past (before h.peer (reach_in h)) u))
      (IsPast (came_on h m)) (FillsAGap h t) held holds.only there
    where
      there : (u : ℕ) → IsPast (came_on h m) u
          → ltb (tsn_past (before h.peer (reach_in h)) t) (tsn_past (before h.peer (reach_in h)) u) ≡ true
          → FillsAGap h t
      there u p e = record {
        offset = p.offset;
        came = p.came;
        past =
            farther (tsn_past (before h.peer (reach_in h)) t)
            (tsn_past (before h.peer (reach_in h)) (tsn h.peer p.offset)) (reach_in h) (offset_in h t) p.offset here
            (past_before h.peer (reach_in h) p.offset (below_next (reach_in h) p.offset p.past) p.near)
            (subst
            (λ z. tsn_past (before h.peer (reach_in h)) t < tsn_past (before h.peer (reach_in h)) z) p.is
            (ltb-true _ _ e));
      }

  pub came_passed : FillsAGap h t → is_passed held (peer_last_tsn_of (came_on h m)) t ≡ true
  came_passed g =
      let from : reach_in h ≤ g.offset =
      at_least (reach_in h) (tsn_past (tsn h.peer (reach_in h)) t) g.offset g.past in
      any_in (λ u. ltb (tsn_past (before h.peer (reach_in h)) t) (tsn_past (before h.peer (reach_in h)) u))
      (tsn h.peer g.offset) held
      (sym (held_is (tsn h.peer g.offset) held) ∙ holds.all g.offset g.came from)
      (lt-ltb _ _ (farther_past (tsn_past (before h.peer (reach_in h)) t)
      (tsn_past (before h.peer (reach_in h)) (tsn h.peer g.offset)) (reach_in h) (offset_in h t) g.offset here
      (past_before h.peer (reach_in h) g.offset from (holds.below g.offset g.came)) g.past))
