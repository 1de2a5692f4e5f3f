-- The streams on which a FORWARD TSN skips, one after another: which of them are made, and so take memory.
use Rattle.std.proofs.Common.{◌≡◌, sym, ap, ◌∙◌, subst, ℕ, ◌+◌, ◌<◌, ◌&&◌, true, false, List, ◌∷◌}
use Rattle.std.proofs.Common.{drop, get_or, length}
use Rattle.std.proofs.lemmas.Bool.{or_left, or_right}
use Rattle.sctp_wire_types.specs.declared.chunk.IForwardTsnEntry.{IForwardTsnEntry}
use Rattle.sctp_wire_types.specs.declared.chunk.SkippedStream.{SkippedStream}
use Rattle.sctp_assoc.specs.Finding.{finding_takes_memory, found_at, found_for, makes_for, makes_stream}
use Rattle.sctp_assoc.specs.Shown.{Shown}
use Rattle.sctp_assoc.specs.Skipping.{skip_of, skips_of}
use Rattle.sctp_assoc.proofs.SkipsTold.{entries_from, skips_from}

-- the first of some, and those behind it
module _ (tsn : ℕ) (es : List SkippedStream) (e : SkippedStream) (a : Shown) where
  first_find_takes : (makes_for tsn e.stream_identifier a && makes_stream a e.stream_identifier) ≡ true
      → finding_takes_memory tsn (e ∷ es) a ≡ true
  first_find_takes told = or_left _ _ told

  later_find_takes : finding_takes_memory tsn es (found_at tsn e.stream_identifier a) ≡ true
      → finding_takes_memory tsn (e ∷ es) a ≡ true
  later_find_takes told = or_right _ _ told

module _ (tsn : ℕ) (xs : List SkippedStream) (i : ℕ) (d : SkippedStream) (a : Shown) (below : i < length xs) where
  pub find_told :
      (makes_for tsn (get_or xs i d).stream_identifier a && makes_stream a (get_or xs i d).stream_identifier) ≡ true
      → finding_takes_memory tsn (drop i xs) a ≡ true
  find_told told =
      subst (λ z. finding_takes_memory tsn z a ≡ true) (sym (skips_from xs i d below))
      (first_find_takes tsn (drop (i + 1) xs) (get_or xs i d) a told)

  pub find_more : (b : Shown) → b ≡ found_at tsn (get_or xs i d).stream_identifier a
      → (found_for tsn (drop i xs) a ≡ found_for tsn (drop (i + 1) xs) b)
      × (finding_takes_memory tsn (drop (i + 1) xs) b ≡ true → finding_takes_memory tsn (drop i xs) a ≡ true)
  find_more b is = (
    ap (λ z. found_for tsn z a) (skips_from xs i d below) ∙ ap (found_for tsn (drop (i + 1) xs)) (sym is),
    λ told. subst (λ z. finding_takes_memory tsn z a ≡ true) (sym (skips_from xs i d below))
        (later_find_takes tsn (drop (i + 1) xs) (get_or xs i d) a
        (subst (λ z. finding_takes_memory tsn (drop (i + 1) xs) z ≡ true) is told)),
  )

-- an ordered entry of an I-FORWARD-TSN
module _ (tsn : ℕ) (es : List IForwardTsnEntry) (i : ℕ) (d : IForwardTsnEntry) (a : Shown) (below : i < length es)
    (ordered : (get_or es i d).unordered ≡ false) where
  pub entry_find_told :
      (makes_for tsn (get_or es i d).stream_identifier a && makes_stream a (get_or es i d).stream_identifier) ≡ true
      → finding_takes_memory tsn (skips_of (drop i es)) a ≡ true
  entry_find_told told =
      subst (λ z. finding_takes_memory tsn z a ≡ true) (sym (entries_from es i d below ordered))
      (first_find_takes tsn (skips_of (drop (i + 1) es)) (skip_of (get_or es i d)) a told)

  pub entry_find_more : (b : Shown) → b ≡ found_at tsn (get_or es i d).stream_identifier a
      → (found_for tsn (skips_of (drop i es)) a ≡ found_for tsn (skips_of (drop (i + 1) es)) b)
      × (finding_takes_memory tsn (skips_of (drop (i + 1) es)) b ≡ true
      → finding_takes_memory tsn (skips_of (drop i es)) a ≡ true)
  entry_find_more b is =
      let from = entries_from es i d below ordered in (
        ap (λ z. found_for tsn z a) from ∙ ap (found_for tsn (skips_of (drop (i + 1) es))) (sym is),
        λ told. subst (λ z. finding_takes_memory tsn z a ≡ true) (sym from)
            (later_find_takes tsn (skips_of (drop (i + 1) es)) (skip_of (get_or es i d)) a
            (subst (λ z. finding_takes_memory tsn (skips_of (drop (i + 1) es)) z ≡ true) is told)),
      )
