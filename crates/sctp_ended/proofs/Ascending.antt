-- Where the identifiers of the live streams ascend, each stands once.
use Rattle.std.proofs.Common.{◌≡◌, refl, sym, subst, ℕ, ◌≤◌, arith, Bool, true, false, eqb, List, [], ◌∷◌}
use Rattle.std.specs.Map.{keys_of}
use Rattle.std.proofs.lemmas.Bool.{eqb-true}
use Rattle.sctp_courses.specs.Course as course
use Rattle.sctp_streams.specs.Stream.{StreamView}
use Rattle.sctp_streams.specs.Streams.{StreamMap, no_stream}
use Rattle.sctp_reset_fit.specs.Stands.{IsOnce}
use Rattle.sctp_sides.specs.Ascending.{StreamsAscend}
use Rattle.sctp_sides.proofs.AscendingLists.{AreAbove, Rises, ascending_rises}

once_above : (id : ℕ) (es : List (ℕ × StreamView)) → AreAbove id es → course.times id (keys_of es) ≡ 0
once_above id [] above = refl
once_above id (e ∷ es) above = by (eqb e.0 id) refl (once_above id es above.1)
  where
    by : (b : Bool) → eqb e.0 id ≡ b → course.times id (keys_of es) ≡ 0 → course.times id (keys_of (e ∷ es)) ≡ 0
    by true same rest = absurd (let k = eqb-true e.0 id same in let l = above.0 in omega arith)
    by false other rest = rw other (omega (arith, rest))

once_rising : (id : ℕ) (es : List (ℕ × StreamView)) → Rises es → IsOnce id es
once_rising id [] rises = omega arith
once_rising id (e ∷ es) rises = by (eqb e.0 id) refl (once_rising id es rises.1)
  where
    by : (b : Bool) → eqb e.0 id ≡ b → IsOnce id es → IsOnce id (e ∷ es)
    by true same rest =
        let none : course.times id (keys_of es) ≡ 0 =
        once_above id es (subst (λ (k : ℕ). AreAbove k es) (eqb-true e.0 id same) rises.0) in
        rw same (omega (arith, none))
    by false other rest = rw other (omega (arith, rest))

pub once_ascending : (id : ℕ) (m : StreamMap) → StreamsAscend m → IsOnce id m.by_id
once_ascending id m h = once_rising id m.by_id (ascending_rises m.by_id h.ascending)

pub no_streams_ascend : (m : StreamMap) → m ≡ no_stream → StreamsAscend m
no_streams_ascend m e = subst StreamsAscend (sym e) (record { ascending = tt; named = tt })
