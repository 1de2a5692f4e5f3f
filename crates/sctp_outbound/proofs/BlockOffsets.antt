-- The first or the last offset of a block is one whose TSN is not in flight, exactly where any of it is.
use Rattle.std.proofs.Common.{◌≡◌, ◌↔◌, refl, ⊎_elim, ℕ, ◌+◌, arith, Bool, true, false, ◌&&◌, ◌||◌, not, leb, ltb}
use Rattle.std.proofs.Common.{List, [], ◌∷◌}
use Rattle.std.proofs.lemmas.Bool.{and_parts, cases_Bool, false≢true}
use Rattle.std.proofs.lemmas.Bool.Decides.{nat_tests}
use Rattle.sctp_wire_types.specs.declared.chunk.GapAckBlock.{GapAckBlock}
use Rattle.sctp_received.specs.Received.{is_named}
use Rattle.sctp_outbound.specs.BlockOffsets.{NameUnsent, is_in_flight_at, is_unsent_in, name_unsent}

abbrev named_by : ℕ → GapAckBlock → Bool
named_by o b = leb b.start o && leb o b.end

last_named : (start end : ℕ) → leb start end ≡ true → (leb start end && leb end end) ≡ true
last_named start end e = grind (arith, nat_tests)

first_named : (start end : ℕ) → leb start end ≡ true → (leb start start && leb start end) ≡ true
first_named start end e = grind (arith, nat_tests)

last_unsent : (n count end : ℕ) → ltb count (n + end) ≡ true → is_in_flight_at n count end ≡ false
last_unsent n count end e = grind (arith, nat_tests)

first_unsent : (n count start : ℕ) → ltb 0 (n + start) ≡ false → is_in_flight_at n count start ≡ false
first_unsent n count start e = rw e refl

or_true : (a b : Bool) → (a || not b) ≡ true → a ≡ false → b ≡ false
or_true a true e f = absurd (cc)
or_true a false e f = refl

or_last : (a b : Bool) → b ≡ true → (a || b) ≡ true
or_last true b e = refl
or_last false b e = e

one_found : (n count o start end : ℕ) → (leb start o && leb o end) ≡ true → is_in_flight_at n count o ≡ false
    → (leb start end && (ltb count (n + end) || not (ltb 0 (n + start)))) ≡ true
one_found n count o start end e f = grind (arith, nat_tests)

-- So many of those in flight, of `count` in all, are up to the SACK's cumulative TSN ack.
module _ (n count : ℕ) where
  -- a block's first or last offset
  one_names : (b : GapAckBlock) (bs : List GapAckBlock) → is_unsent_in n count b ≡ true → NameUnsent n count (b ∷ bs)
  one_names b bs e =
      let both =
      and_parts (leb b.start b.end) (ltb count (n + b.end) || not (ltb 0 (n + b.start))) e in
      ⊎_elim
      (λ (far : ltb count (n + b.end) ≡ true). record {
        offset = b.end;
        named = rw (last_named b.start b.end both.0) refl;
        unsent = last_unsent n count b.end far;
      })
      (λ (near : ltb count (n + b.end) ≡ false). record {
        offset = b.start;
        named = rw (first_named b.start b.end both.0) refl;
        unsent = first_unsent n count b.start (or_true _ _ both.1 near);
      })
      (cases_Bool (ltb count (n + b.end)))

  -- one more block names what the others do
  more_names : (b : GapAckBlock) (bs : List GapAckBlock) → NameUnsent n count bs → NameUnsent n count (b ∷ bs)
  more_names b bs m =
      record { offset = m.offset; named = or_last (named_by m.offset b) _ m.named; unsent = m.unsent }

  names_if : (found : Bool) (b : GapAckBlock) (bs : List GapAckBlock) → is_unsent_in n count b ≡ found
      → name_unsent n count (b ∷ bs) ≡ true → (name_unsent n count bs ≡ true → NameUnsent n count bs)
      → NameUnsent n count (b ∷ bs)
  names_if true b bs e all rest = one_names b bs e
  names_if false b bs e all rest = more_names b bs (rest (rw e at all))

  names_some : (bs : List GapAckBlock) → name_unsent n count bs ≡ true → NameUnsent n count bs
  names_some [] e = absurd (false≢true e)
  names_some (b ∷ bs) e = names_if (is_unsent_in n count b) b bs refl e (names_some bs)

  -- an offset of one block
  found_if : (here : Bool) (o : ℕ) (b : GapAckBlock) (bs : List GapAckBlock) → named_by o b ≡ here
      → is_named o (b ∷ bs) ≡ true → is_in_flight_at n count o ≡ false
      → (is_named o bs ≡ true → name_unsent n count bs ≡ true) → name_unsent n count (b ∷ bs) ≡ true
  found_if true o b bs e all out rest = rw (one_found n count o b.start b.end e out) refl
  found_if false o b bs e all out rest =
      or_last (is_unsent_in n count b) (name_unsent n count bs) (rest (rw e at all))

  some_found : (o : ℕ) (bs : List GapAckBlock) → is_named o bs ≡ true → is_in_flight_at n count o ≡ false
      → name_unsent n count bs ≡ true
  some_found o [] e out = absurd (false≢true e)
  some_found o (b ∷ bs) e out = found_if (named_by o b) o b bs refl e out (λ more. some_found o bs more out)

  pub names_sets : (bs : List GapAckBlock) → (name_unsent n count bs ≡ true) ↔ NameUnsent n count bs
  names_sets bs = (names_some bs, λ m. some_found m.offset bs m.named m.unsent)
