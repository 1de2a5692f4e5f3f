-- A walk over the bytes of chunks finds the end that these chunks bring.
use Rattle.std.proofs.Common.{◌≡◌, refl, sym, ap, ◌∙◌, subst, ℕ, ◌<◌, ◌≤◌, ◌/◌, ◌%◌, ◌==◌, Bool, true, false}
use Rattle.std.proofs.Common.{cond, List, []}
use Rattle.std.proofs.Common.{◌∷◌, ◌≢◌, length, Result, Ok, Err, IfOk, is_ok, arith, ⊎_elim, ne_eqb}
use Rattle.std.proofs.lemmas.Bool.{cases_lt}
use Rattle.std.specs.Prelude.{IsOkAnd}
use Rattle.std.proofs.lemmas.Bool.Decides.{nat_tests}
use Rattle.sctp_wire_types.specs.declared.error.Fault.{Fault}
use Rattle.sctp_wire_types.specs.declared.chunk.Chunk.{Chunk}
use Rattle.sctp_wire_types.specs.declared.chunk.Chunk.TheVariants as chunks
use Rattle.sctp_wire_types.specs.declared.chunk.ErrorCause.{ErrorCause}
use Rattle.sctp_wire_types.specs.declared.param.Param.{Param}
use Rattle.sctp_wire.specs.Chunks.{chunk_of, chunks_at, cumulative_tsn_ack_of}
use Rattle.sctp_wire.specs.ForwardTsn.{forward_tsn_of, i_forward_tsn_of}
use Rattle.sctp_wire.specs.Init.{init_of}
use Rattle.sctp_wire.specs.PayloadData.{payload_data_of}
use Rattle.sctp_wire.specs.Reconfig.{reconfig_of}
use Rattle.sctp_wire.specs.SelectiveAck.{selective_ack_of}
use Rattle.sctp_wire.specs.Frames.{frame_at, framed, items_at}
use Rattle.sctp_wire.specs.Params.{cause_of, causes_at, params_at}
use Rattle.sctp_wire.specs.Results.{◌>>=◌}
use Rattle.sctp_wire.proofs.FrameLoop.{items_end, items_fault, items_step}
use Rattle.sctp_watch.specs.declared.ends.Cause.{Cause}
use Rattle.sctp_watch.specs.declared.ends.End.{End}
use Rattle.sctp_watch.specs.declared.ends.End.TheVariants as ends
use Rattle.sctp_watch.specs.Ends.{cause_with, end_among, first_cause}

fault_in : {A : Type 0} (read : Result A Fault) → is_ok read ≡ false → (fault : Fault) × (read ≡ Err fault)
fault_in (Ok x) none = absurd cc
fault_in (Err fault) none = (fault, refl)

-- ---- the first cause

behind_first : (cause : Cause) (code : ℕ) (value : List ℕ) (others : Result (List ErrorCause) Fault)
    → cause ≡ cause_with code value
    → IfOk (others >>= λ items. Ok (record { code = code; value = value } ∷ items)) (λ read. cause ≡ first_cause read)
behind_first cause code value (Ok items) is = is
behind_first cause code value (Err fault) is = tt

pub cause_found : (bytes value next : List ℕ) (code : ℕ) (cause : Cause) → 4 ≤ length bytes
    → frame_at bytes ≡ Ok (framed code value, next) → cause ≡ cause_with code value
    → IfOk (causes_at bytes) (λ read. cause ≡ first_cause read)
cause_found bytes value next code cause least frame is =
    subst (λ (r : Result (List ErrorCause) Fault). IfOk r (λ read. cause ≡ first_cause read))
    (sym (items_step cause_of 4 bytes (framed code value) next least frame))
    (behind_first cause code value (items_at cause_of 4 next) is)

pub none_found : (bytes : List ℕ) (cause : Cause) → is_ok (frame_at bytes) ≡ false → cause ≡ cause_with 0 []
    → IfOk (causes_at bytes) (λ read. cause ≡ first_cause read)
none_found bytes cause none is =
    ⊎_elim
    (λ (short : length bytes < 4).
    subst (λ (r : Result (List ErrorCause) Fault). IfOk r (λ read. cause ≡ first_cause read))
    (sym (items_end cause_of 4 bytes short)) is)
    (λ (least : 4 ≤ length bytes).
    let f = fault_in (frame_at bytes) none in
    subst (λ (r : Result (List ErrorCause) Fault). IfOk r (λ read. cause ≡ first_cause read))
    (sym (items_fault cause_of 4 bytes f.0 least f.1)) tt)
    (cases_lt (length bytes) 4)

-- ---- the chunks

-- of all chunks, if they can be read, those that are left bring the end
abbrev pub Left : Result (List Chunk) Fault → End → Result (List Chunk) Fault → Type 0
Left all otherwise left =
    IfOk all (λ cs. IsOkAnd left (λ ds. end_among otherwise ds ≡ end_among ends.Fault cs))

pub at_first : (all : Result (List Chunk) Fault) → Left all ends.Fault all
at_first (Ok cs) = refl
at_first (Err fault) = tt

-- what a chunk that was read is
abbrev Turns : End → End → Chunk → Type 0
Turns otherwise next c = (cs : List Chunk) → end_among otherwise (c ∷ cs) ≡ end_among next cs

past : (c : Result Chunk Fault) (left : Result (List Chunk) Fault) (otherwise next end : End)
    → IfOk c (Turns otherwise next)
    → IsOkAnd (c >>= λ item. left >>= λ items. Ok (item ∷ items)) (λ ds. end_among otherwise ds ≡ end)
    → IsOkAnd left (λ ds. end_among next ds ≡ end)
past (Ok c) (Ok ds) otherwise next end turns holds = sym (turns ds) ∙ holds
past (Ok c) (Err fault) otherwise next end turns holds = absurd holds
past (Err fault) left otherwise next end turns holds = absurd holds

-- of a chunk that is read, if it can be
record Read (P : Chunk → Type 0) (read : Result Chunk Fault) : Type 0 where
  holds : IfOk read P

module _ (P : Chunk → Type 0) where
  by_kind : (b : Bool) (x y : Result Chunk Fault) → Read P x → Read P y → Read P (cond b x y)
  by_kind true x y here there = here
  by_kind false x y here there = there

  by_other_kind : (b : Bool) (x y : Result Chunk Fault) → b ≡ false → Read P y → Read P (cond b x y)
  by_other_kind true x y other there = absurd cc
  by_other_kind false x y other there = there

  of_read : {A : Type 0} (read : Result A Fault) (of : A → Chunk) → ((x : A) → P (of x))
      → Read P (read >>= λ x. Ok (of x))
  of_read (Ok x) of each = record { holds = each x }
  of_read (Err fault) of each = record { holds = tt }

  itself : (c : Chunk) → P c → Read P (Ok c)
  itself c here = record { holds = here }

-- the first frame of what is left
module _ (rest value behind : List ℕ) (head : ℕ) (some : 1 ≤ length rest)
    (frame : frame_at rest ≡ Ok (framed head value, behind))
  where
    step_of : chunks_at rest
        ≡ (chunk_of (framed head value) >>= λ item. chunks_at behind >>= λ items. Ok (item ∷ items))
    step_of = items_step chunk_of 1 rest (framed head value) behind some frame

    pub goes_past : (all : Result (List Chunk) Fault) (otherwise next : End)
        → IfOk (chunk_of (framed head value)) (Turns otherwise next) → Left all otherwise (chunks_at rest)
        → Left all next (chunks_at behind)
    goes_past (Ok cs) otherwise next turns holds =
        past (chunk_of (framed head value)) (chunks_at behind) otherwise next (end_among ends.Fault cs) turns
        (subst (λ (r : Result (List Chunk) Fault).
        IsOkAnd r (λ ds. end_among otherwise ds ≡ end_among ends.Fault cs)) step_of holds)
    goes_past (Err fault) otherwise next turns holds = tt

    abort_is : head / 256 ≡ 6 → chunk_of (framed head value)
        ≡ (causes_at value >>= λ causes. Ok (chunks.Abort (record { error_causes = causes })))
    unfolding chunk_of
    abort_is kind = rw kind refl

    pub ends_past : head / 256 ≡ 14 → (otherwise : End)
        → IfOk (chunk_of (framed head value)) (Turns otherwise ends.ShutDown)
    unfolding chunk_of
    ends_past kind otherwise = rw kind (λ cs. refl)

    other_read : head / 256 ≢ 6 → head / 256 ≢ 14 → (otherwise : End)
        → Read (Turns otherwise otherwise) (chunk_of (framed head value))
    unfolding chunk_of
    other_read no_abort no_complete otherwise =
        let P : Chunk → Type 0 = Turns otherwise otherwise in
        by_kind P (head / 256 == 0) _ _ (of_read P (payload_data_of (head % 256) value) chunks.Data (λ x cs. refl)) (
        by_kind P (head / 256 == 1) _ _ (of_read P (init_of value) chunks.Init (λ x cs. refl)) (
        by_kind P (head / 256 == 2) _ _ (of_read P (init_of value) chunks.InitAck (λ x cs. refl)) (
        by_kind P (head / 256 == 3) _ _ (of_read P (selective_ack_of value) chunks.SelectiveAck (λ x cs. refl)) (
        by_kind P (head / 256 == 4) _ _ (of_read P (params_at value)
        (λ (ps : List Param). chunks.Heartbeat (record { params = ps })) (λ x cs. refl)) (
        by_kind P (head / 256 == 5) _ _ (of_read P (params_at value)
        (λ (ps : List Param). chunks.HeartbeatAck (record { params = ps })) (λ x cs. refl)) (
        by_other_kind P (head / 256 == 6)
        (causes_at value >>= λ causes. Ok (chunks.Abort (record { error_causes = causes }))) _
        (ne_eqb _ _ no_abort) (
        by_kind P (head / 256 == 7) _ _ (of_read P (cumulative_tsn_ack_of value) chunks.Shutdown (λ x cs. refl)) (
        by_kind P (head / 256 == 8) _ _ (itself P chunks.ShutdownAck (λ cs. refl)) (
        by_kind P (head / 256 == 9) _ _ (of_read P (causes_at value)
        (λ (causes : List ErrorCause). chunks.Error (record { error_causes = causes })) (λ x cs. refl)) (
        by_kind P (head / 256 == 10) _ _ (itself P (chunks.CookieEcho value) (λ cs. refl)) (
        by_kind P (head / 256 == 11) _ _ (itself P chunks.CookieAck (λ cs. refl)) (
        by_other_kind P (head / 256 == 14) (Ok chunks.ShutdownComplete) _
        (ne_eqb _ _ no_complete) (
        by_kind P (head / 256 == 130) _ _ (of_read P (reconfig_of value) chunks.Reconfig (λ x cs. refl)) (
        by_kind P (head / 256 == 192) _ _ (of_read P (forward_tsn_of value) chunks.ForwardTsn (λ x cs. refl)) (
        by_kind P (head / 256 == 194) _ _ (of_read P (i_forward_tsn_of value) chunks.IForwardTsn (λ x cs. refl)) (
        itself P (chunks.Other (head / 256) (head % 256) value) (λ cs. refl)))))))))))))))))

    pub other_past : head / 256 ≢ 6 → head / 256 ≢ 14 → (otherwise : End)
        → IfOk (chunk_of (framed head value)) (Turns otherwise otherwise)
    other_past no_abort no_complete otherwise = (other_read no_abort no_complete otherwise).holds

    found : (causes : Result (List ErrorCause) Fault) (left : Result (List Chunk) Fault) (otherwise end : End)
        (cause : Cause) → IfOk causes (λ read. cause ≡ first_cause read)
        → IsOkAnd ((causes >>= λ causes. Ok (chunks.Abort (record { error_causes = causes })))
        >>= λ item. left >>= λ items. Ok (item ∷ items)) (λ ds. end_among otherwise ds ≡ end)
        → ends.AbortCame cause ≡ end
    found (Ok read) (Ok items) otherwise end cause is holds = ap ends.AbortCame is ∙ holds
    found (Ok read) (Err fault) otherwise end cause is holds = absurd holds
    found (Err fault) left otherwise end cause is holds = absurd holds

    pub abort_found : (all : Result (List Chunk) Fault) (otherwise : End) (cause : Cause) → head / 256 ≡ 6
        → IfOk (causes_at value) (λ read. cause ≡ first_cause read) → Left all otherwise (chunks_at rest)
        → IfOk all (λ read. ends.AbortCame cause ≡ end_among ends.Fault read)
    abort_found (Ok cs) otherwise cause kind is holds =
        found (causes_at value) (chunks_at behind) otherwise (end_among ends.Fault cs) cause is
        (subst (λ (r : Result (List Chunk) Fault).
        IsOkAnd r (λ ds. end_among otherwise ds ≡ end_among ends.Fault cs))
        (step_of ∙ ap (λ (c : Result Chunk Fault). c >>= λ item. chunks_at behind >>= λ items. Ok (item ∷ items))
        (abort_is kind)) holds)
    abort_found (Err fault) otherwise cause kind is holds = tt

-- chunks that cannot be read bring nothing
pub stops : (rest : List ℕ) (all : Result (List Chunk) Fault) (otherwise : End) → 1 ≤ length rest
    → is_ok (frame_at rest) ≡ false → Left all otherwise (chunks_at rest)
    → IfOk all (λ read. otherwise ≡ end_among ends.Fault read)
stops rest (Ok cs) otherwise some none holds =
    let f = fault_in (frame_at rest) none in
    absurd (subst (λ (r : Result (List Chunk) Fault).
    IsOkAnd r (λ ds. end_among otherwise ds ≡ end_among ends.Fault cs))
    (items_fault chunk_of 1 rest f.0 some f.1) holds)
stops rest (Err fault) otherwise some none holds = tt

pub at_last : (rest : List ℕ) (all : Result (List Chunk) Fault) (otherwise : End) → length rest < 1
    → Left all otherwise (chunks_at rest) → IfOk all (λ read. otherwise ≡ end_among ends.Fault read)
at_last rest (Ok cs) otherwise none holds =
    subst (λ (r : Result (List Chunk) Fault).
    IsOkAnd r (λ ds. end_among otherwise ds ≡ end_among ends.Fault cs))
    (items_end chunk_of 1 rest none) holds
at_last rest (Err fault) otherwise none holds = tt
