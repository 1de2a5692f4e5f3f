-- The skips of a FORWARD TSN, one after another: which of them takes memory.
use Rattle.std.proofs.Common.{◌≡◌, refl, sym, ap, ◌∙◌, subst, ℕ, suc, ◌+◌, ◌<◌, arith, true, false, List, ◌∷◌}
use Rattle.std.proofs.Common.{drop, get_or, length}
use Rattle.std.proofs.Math.Seq.{drop-cons}
use Rattle.sctp_wire_types.specs.declared.chunk.IForwardTsnEntry.{IForwardTsnEntry}
use Rattle.sctp_wire_types.specs.declared.chunk.SkippedStream.{SkippedStream}
use Rattle.sctp_assoc.specs.Shown.{Shown}
use Rattle.sctp_assoc.specs.Skipping.{skip_of, skip_takes_memory, skips_of, some_takes_memory, with_skip}
use Rattle.sctp_assoc.specs.Skipping.{with_skips}
use Rattle.sctp_assoc.proofs.MemoryTaken.{first_skip_takes, later_skip_takes}

one_on : (i : ℕ) → suc i ≡ i + 1
one_on i = omega arith

-- the skips from an index on are the one there and those behind it
pub skips_from : (xs : List SkippedStream) (i : ℕ) (d : SkippedStream) → i < length xs
    → drop i xs ≡ get_or xs i d ∷ drop (i + 1) xs
skips_from xs i d below =
    drop-cons xs i d below ∙ ap (λ k. get_or xs i d ∷ drop k xs) (one_on i)

-- by a FORWARD TSN with this new cumulative TSN
module _ (tsn : ℕ) (xs : List SkippedStream) (i : ℕ) (d : SkippedStream) (a : Shown) (below : i < length xs) where
  pub skip_told : skip_takes_memory (get_or xs i d).stream_identifier (get_or xs i d).stream_sequence_number a ≡ true
      → some_takes_memory tsn (drop i xs) a ≡ true
  skip_told told =
      subst (λ z. some_takes_memory tsn z a ≡ true) (sym (skips_from xs i d below))
      (first_skip_takes tsn (drop (i + 1) xs) (get_or xs i d) a told)

  pub skip_more : (b : Shown)
      → b ≡ with_skip tsn (get_or xs i d).stream_identifier (get_or xs i d).stream_sequence_number a
      → (with_skips tsn (drop i xs) a ≡ with_skips tsn (drop (i + 1) xs) b)
      × (some_takes_memory tsn (drop (i + 1) xs) b ≡ true → some_takes_memory tsn (drop i xs) a ≡ true)
  skip_more b is = (
    ap (λ z. with_skips tsn z a) (skips_from xs i d below) ∙ ap (with_skips tsn (drop (i + 1) xs)) (sym is),
    λ told. subst (λ z. some_takes_memory tsn z a ≡ true) (sym (skips_from xs i d below))
        (later_skip_takes tsn (drop (i + 1) xs) (get_or xs i d) a
        (subst (λ z. some_takes_memory tsn (drop (i + 1) xs) z ≡ true) is told)),
  )

pub entries_from : (es : List IForwardTsnEntry) (i : ℕ) (d : IForwardTsnEntry) → i < length es
    → (get_or es i d).unordered ≡ false → skips_of (drop i es) ≡ skip_of (get_or es i d) ∷ skips_of (drop (i + 1) es)
entries_from es i d below ordered =
    ap skips_of (drop-cons es i d below ∙ ap (λ k. get_or es i d ∷ drop k es) (one_on i)) ∙ rw ordered refl

-- an ordered entry of an I-FORWARD-TSN
pub entry_told : (tsn : ℕ) (es : List IForwardTsnEntry) (i : ℕ) (d : IForwardTsnEntry) (a : Shown) → i < length es
    → (get_or es i d).unordered ≡ false
    → skip_takes_memory (skip_of (get_or es i d)).stream_identifier
    (skip_of (get_or es i d)).stream_sequence_number a ≡ true
    → some_takes_memory tsn (skips_of (drop i es)) a ≡ true
entry_told tsn es i d a below ordered told =
    subst (λ z. some_takes_memory tsn z a ≡ true) (sym (entries_from es i d below ordered))
    (first_skip_takes tsn (skips_of (drop (i + 1) es)) (skip_of (get_or es i d)) a told)

-- it leads to those behind it
pub entry_more : (tsn : ℕ) (es : List IForwardTsnEntry) (i : ℕ) (d : IForwardTsnEntry) (a : Shown) → i < length es
    → (get_or es i d).unordered ≡ false → (b : Shown)
    → b ≡ with_skip tsn (skip_of (get_or es i d)).stream_identifier
    (skip_of (get_or es i d)).stream_sequence_number a
    → (with_skips tsn (skips_of (drop i es)) a ≡ with_skips tsn (skips_of (drop (i + 1) es)) b)
    × (some_takes_memory tsn (skips_of (drop (i + 1) es)) b ≡ true
    → some_takes_memory tsn (skips_of (drop i es)) a ≡ true)
entry_more tsn es i d a below ordered b is =
    let from = entries_from es i d below ordered in (
      ap (λ z. with_skips tsn z a) from ∙ ap (with_skips tsn (skips_of (drop (i + 1) es))) (sym is),
      λ told. subst (λ z. some_takes_memory tsn z a ≡ true) (sym from)
          (later_skip_takes tsn (skips_of (drop (i + 1) es)) (skip_of (get_or es i d)) a
          (subst (λ z. some_takes_memory tsn (skips_of (drop (i + 1) es)) z ≡ true) is told)),
    )

-- an unordered one is passed over
pub entry_passed : (es : List IForwardTsnEntry) (i : ℕ) (d : IForwardTsnEntry) → i < length es
    → (get_or es i d).unordered ≡ true → skips_of (drop i es) ≡ skips_of (drop (i + 1) es)
entry_passed es i d below unordered =
    ap skips_of (drop-cons es i d below ∙ ap (λ k. get_or es i d ∷ drop k es) (one_on i)) ∙ rw unordered refl
