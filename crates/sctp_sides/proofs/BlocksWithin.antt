-- The gap ack blocks of a SACK name no offset past 65,535.
use Rattle.std.proofs.Common.{◌≡◌, refl, ⊎_elim, ℕ, ◌<◌, ◌+◌, arith, Bool, true, false, eqb, leb, ◌&&◌, List, [], ◌∷◌}
use Rattle.std.proofs.Common.{◌++◌}
use Rattle.std.specs.List.{AllByRecursion}
use Rattle.std.proofs.lemmas.Bool.{and_parts, cases_Bool}
use Rattle.std.proofs.lemmas.Bool.Decides.{nat_tests}
use Rattle.sctp_wire_types.specs.declared.chunk.GapAckBlock.{GapAckBlock}
use Rattle.sctp_serial.specs.Serial.{tsn_past}
use Rattle.sctp_received.specs.Received.{block, gap_ack_blocks, has_offset, is_greater, is_named, offsets_in}
use Rattle.sctp_received.specs.Received.{runs_from}
use Rattle.sctp_received.specs.Received.{runs_of}

AreBelow : ℕ → List ℕ → Type 0
AreBelow x os = AllByRecursion (λ o. o < x) os

past_end : (start end x : ℕ) → end < x → (leb start x && leb x end) ≡ false
past_end start end x l = grind (arith, nat_tests, l)

unnamed_from : (x : ℕ) (b : GapAckBlock) (os : List ℕ) → b.end < x → AreBelow x os
    → is_named x (runs_from b os) ≡ false
unfolding AreBelow
unnamed_from x b [] l a = rw (past_end b.start b.end x l) refl
unnamed_from x b (o ∷ os) l a = ⊎_elim
    (λ (e : eqb (b.end + 1) o ≡ true). rw e (unnamed_from x (block b.start o) os a.0 a.1))
    (λ (e : eqb (b.end + 1) o ≡ false).
    rw (e, past_end b.start b.end x l) (unnamed_from x (block o o) os a.0 a.1))
    (cases_Bool (eqb (b.end + 1) o))

unnamed : (x : ℕ) (os : List ℕ) → AreBelow x os → is_named x (runs_of os) ≡ false
unfolding AreBelow
unnamed x [] a = refl
unnamed x (o ∷ os) a = unnamed_from x (block o o) os a.0 a.1

offset_below : (d x : ℕ) → 65535 < x → has_offset d ≡ true → d < x
offset_below d x l e = grind (arith, nat_tests, l, e)

offsets_below : (g : Bool) (cumulative_tsn x : ℕ) (ts : List ℕ) → 65535 < x
    → AreBelow x (offsets_in g cumulative_tsn ts)
unfolding AreBelow
offsets_below g cumulative_tsn x [] l = tt
offsets_below g cumulative_tsn x (t ∷ ts) l = ⊎_elim
    (λ (e : (is_greater g cumulative_tsn t && has_offset (tsn_past cumulative_tsn t)) ≡ true).
    rw e (
      offset_below (tsn_past cumulative_tsn t) x l
          (and_parts (is_greater g cumulative_tsn t) (has_offset (tsn_past cumulative_tsn t)) e).1,
      offsets_below g cumulative_tsn x ts l,
    ))
    (λ (e : (is_greater g cumulative_tsn t && has_offset (tsn_past cumulative_tsn t)) ≡ false).
    rw e (offsets_below g cumulative_tsn x ts l))
    (cases_Bool (is_greater g cumulative_tsn t && has_offset (tsn_past cumulative_tsn t)))

both_below : (x : ℕ) (os ps : List ℕ) → AreBelow x os → AreBelow x ps → AreBelow x (os ++ ps)
unfolding AreBelow
both_below x [] ps a b = b
both_below x (o ∷ os) ps a b = (a.0, both_below x os ps a.1 b)

pub nothing_named : (cumulative_tsn : ℕ) (held : List ℕ) (x : ℕ) → 65535 < x
    → is_named x (gap_ack_blocks cumulative_tsn held) ≡ false
nothing_named cumulative_tsn held x l =
    unnamed x (offsets_in true cumulative_tsn held ++ offsets_in false cumulative_tsn held)
    (both_below x (offsets_in true cumulative_tsn held) (offsets_in false cumulative_tsn held)
    (offsets_below true cumulative_tsn x held l)
    (offsets_below false cumulative_tsn x held l))
