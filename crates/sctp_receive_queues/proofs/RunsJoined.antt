-- Runs by their indexes.
use Rattle.std.proofs.Common.{◌≡◌, ◌≢◌, ℕ, suc, ◌-◌, ◌<◌, List, [], ◌∷◌, ◌++◌, get_or, set, refl, sym, ◌∙◌, arith}
use Rattle.std.specs.List.{remove}
use Rattle.std.proofs.lemmas.List.{set-set, set_comm, set-get_or, get_or-set_other, take-set-le, drop-set-lt}
use Rattle.std.proofs.lemmas.Option.{unwrap_or-slice_get}
use Rattle.sctp_wire_types.specs.declared.chunk.ChunkPayloadData.{ChunkPayloadData}
use Rattle.sctp_receive_queues.specs.Reassembly.{run_at}

pub run_get : (runs : List (List ChunkPayloadData)) (k : ℕ) → run_at runs k ≡ get_or runs k []
run_get runs k = unwrap_or-slice_get runs k []

remove_set : {X : Type 0} (xs : List X) (k : ℕ) (x : X) → remove (set xs k x) k ≡ remove xs k
remove_set xs k x = rw (take-set-le k xs k x (omega arith), drop-set-lt (suc k) xs k x (omega arith)) refl

run_beside : (runs : List (List ChunkPayloadData)) (k j : ℕ) (r : List ChunkPayloadData) → j ≢ k
    → run_at (set runs k r) j ≡ run_at runs j
run_beside runs k j r other =
    run_get (set runs k r) j ∙ get_or-set_other runs k j r [] other ∙ sym (run_get runs j)

-- the run at an index was taken out, and the run in front of it took over a piece and that run
pub run_joined_at : (runs : List (List ChunkPayloadData)) (k : ℕ) (p : ChunkPayloadData) → 0 < k
    → remove (set (set runs k []) (k - 1) (run_at (set runs k []) (k - 1) ++ p ∷ run_at runs k)) k
    ≡ remove (set runs (k - 1) (run_at runs (k - 1) ++ p ∷ run_at runs k)) k
run_joined_at runs k p first =
    rw (
      run_beside runs k (k - 1) [] (λ e. omega (arith, first, e)),
      set_comm runs k (k - 1) [] (run_at runs (k - 1) ++ p ∷ run_at runs k) (λ e. omega (arith, first, e)),
    )
    (remove_set (set runs (k - 1) (run_at runs (k - 1) ++ p ∷ run_at runs k)) k [])

-- the run at an index was taken out and put back
pub run_restored_at : (runs : List (List ChunkPayloadData)) (k : ℕ) → set (set runs k []) k (run_at runs k) ≡ runs
run_restored_at runs k = set-set runs k [] (run_at runs k) ∙ rw (run_get runs k) (set-get_or runs k [])
