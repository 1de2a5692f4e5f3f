-- Parameters and causes that are spelled are read again.
use Rattle.std.proofs.Common.{◌≡◌, ℕ, ◌-◌, ◌/◌, ◌^◌, ◌<◌, ◌≤◌, Bool, true, false, not, ◌||◌}
use Rattle.std.proofs.Common.{eqb, ltb, List, [], ◌∷◌, length, drop, Ok, refl, sym}
use Rattle.std.proofs.Common.{ap, ◌∙◌, arith}
use Rattle.std.specs.List.{flat_map, list_all, AllByRecursion}
use Rattle.std.proofs.lemmas.Bool.{le-ltb, not-true, or_parts, and_parts}
use Rattle.std.proofs.lemmas.List.{append-nil}
use Rattle.std.proofs.lemmas.Nat.{from_be_bytes-to_be_bytes_2, from_be_bytes-to_be_bytes_4}
use Rattle.sctp_wire_types.specs.declared.chunk.ErrorCause.{ErrorCause}
use Rattle.sctp_wire_types.specs.declared.param.Param.{Param}
use Rattle.sctp_wire_types.specs.declared.param.Param.TheVariants as params
use Rattle.sctp_wire_types.specs.declared.param.ParamOutgoingResetRequest.{ParamOutgoingResetRequest}
use Rattle.sctp_wire_types.specs.declared.param.ParamReconfigResponse.{ParamReconfigResponse}
use Rattle.sctp_wire_types.specs.declared.param.ReconfigResult.{ReconfigResult}
use Rattle.sctp_wire_types.specs.declared.param.ReconfigResult.TheVariants as results
use Rattle.sctp_wire.specs.Results.{◌>>=◌}
use Rattle.sctp_wire.specs.Numbers.{u16_at, u32_at, IsU16}
use Rattle.sctp_wire.specs.Frames.{entries_at, joined}
use Rattle.sctp_wire.specs.Params.{result_of, number_of_result, reset_request_of, identifier_bytes, reset_request_value}
use Rattle.sctp_wire.specs.Params.{IsResetRequest, reset_response_of, reset_response_value, IsResetResponse, param_of}
use Rattle.sctp_wire.specs.Params.{param_frame, param_fits, IsParam, param_is_plain, params_at, cause_of, cause_frame}
use Rattle.sctp_wire.specs.Params.{cause_fits, IsCause, causes_at}
use Rattle.sctp_wire.proofs.ListsWritten.{flat_length}
use Rattle.sctp_wire.proofs.FramesAgain.{IsAgain, entries_again, joined_again}

abbrev identifier_at : List ℕ → ℕ
identifier_at entry = u16_at entry 0

reset_request_made : (bytes : List ℕ) (p : ParamOutgoingResetRequest) → 12 ≤ length bytes
    → u32_at bytes 0 ≡ p.reconfig_request_sequence_number → u32_at bytes 4 ≡ p.reconfig_response_sequence_number
    → u32_at bytes 8 ≡ p.sender_last_tsn
    → entries_at identifier_at 2 ((length bytes - 12) / 2) (drop 12 bytes) ≡ p.stream_identifiers
    → reset_request_of bytes ≡ Ok p
unfolding reset_request_of
reset_request_made bytes p long e0 e4 e8 ids =
    let t : ltb (length bytes) 12 ≡ false = le-ltb _ _ long in rw (t, e0, e4, e8, ids) refl

pub reset_request_again : (p : ParamOutgoingResetRequest) → IsResetRequest p
    → reset_request_of (reset_request_value p) ≡ Ok p
reset_request_again p h =
    let ids : List ℕ = p.stream_identifiers in
    let n : (length (reset_request_value p) - 12) / 2 ≡ length p.stream_identifiers =
    omega (arith, flat_length identifier_bytes 2 (λ x. refl) p.stream_identifiers) in
    let read : entries_at identifier_at 2 ((length (reset_request_value p) - 12) / 2)
    (flat_map identifier_bytes p.stream_identifiers) ≡ p.stream_identifiers =
    ap (λ (k : ℕ). entries_at identifier_at 2 k (flat_map identifier_bytes p.stream_identifiers)) n
    ∙ ap (λ (bs : List ℕ). entries_at identifier_at 2 (length p.stream_identifiers) bs)
    (sym (append-nil (flat_map identifier_bytes p.stream_identifiers)))
    ∙ entries_again IsU16 identifier_at identifier_bytes 2 (λ x rest lt. from_be_bytes-to_be_bytes_2 x lt) (λ x. refl)
    p.stream_identifiers [] h.3 in
    reset_request_made (reset_request_value p) p (omega arith)
    (from_be_bytes-to_be_bytes_4 p.reconfig_request_sequence_number h.0)
    (from_be_bytes-to_be_bytes_4 p.reconfig_response_sequence_number h.1)
    (from_be_bytes-to_be_bytes_4 p.sender_last_tsn h.2) read

result_below : (r : ReconfigResult) → number_of_result r < 2 ^ 32
result_below results.SuccessNop = omega arith
result_below results.SuccessPerformed = omega arith
result_below results.Denied = omega arith
result_below results.ErrorWrongSsn = omega arith
result_below results.ErrorRequestAlreadyInProgress = omega arith
result_below results.ErrorBadSequenceNumber = omega arith
result_below results.InProgress = omega arith
result_below results.Unknown = omega arith

result_again : (r : ReconfigResult) → result_of (number_of_result r) ≡ r
result_again results.SuccessNop = refl
result_again results.SuccessPerformed = refl
result_again results.Denied = refl
result_again results.ErrorWrongSsn = refl
result_again results.ErrorRequestAlreadyInProgress = refl
result_again results.ErrorBadSequenceNumber = refl
result_again results.InProgress = refl
result_again results.Unknown = refl

reset_response_made : (bytes : List ℕ) (p : ParamReconfigResponse) → 8 ≤ length bytes
    → u32_at bytes 0 ≡ p.reconfig_response_sequence_number → result_of (u32_at bytes 4) ≡ p.result
    → reset_response_of bytes ≡ Ok p
unfolding reset_response_of
reset_response_made bytes p long e0 e4 = let t : ltb (length bytes) 8 ≡ false = le-ltb _ _ long in rw (t, e0, e4) refl

pub reset_response_again : (p : ParamReconfigResponse) → IsResetResponse p
    → reset_response_of (reset_response_value p) ≡ Ok p
reset_response_again p h =
    reset_response_made (reset_response_value p) p (omega arith)
    (from_be_bytes-to_be_bytes_4 p.reconfig_response_sequence_number h)
    (ap result_of (from_be_bytes-to_be_bytes_4 (number_of_result p.result) (result_below p.result))
    ∙ result_again p.result)

none_of_five : (a b c d e : Bool) → not (a || b || c || d || e) ≡ true
    → (a ≡ false) × (b ≡ false) × (c ≡ false) × (d ≡ false) × (e ≡ false)
none_of_five a b c d e h =
    let p4 = or_parts (a || b || c || d) e (not-true (a || b || c || d || e) h) in
    let p3 = or_parts (a || b || c) d p4.0 in
    let p2 = or_parts (a || b) c p3.0 in
    let p1 = or_parts a b p2.0 in
    (p1.0, p1.1, p2.1, p3.1, p4.1)

other_param : (kind : ℕ) (value : List ℕ)
    → not (eqb kind 1 || eqb kind 7 || eqb kind 13 || eqb kind 16 || eqb kind 0x8008) ≡ true
    → param_of (record { head = kind; value = value }) ≡ Ok (params.Other kind value)
unfolding param_of
other_param kind value plain =
    let p = none_of_five (eqb kind 1) (eqb kind 7) (eqb kind 13) (eqb kind 16) (eqb kind 0x8008) plain in
    rw (p.0, p.1, p.2, p.3, p.4) refl

pub param_again : (p : Param) → IsParam p → param_is_plain p ≡ true → param_of (param_frame p) ≡ Ok p
unfolding param_of
param_again (params.HeartbeatInfo info) h plain = refl
param_again (params.StateCookie cookie) h plain = refl
param_again (params.OutgoingResetRequest request) h plain =
    ap (λ r. r >>= λ request. Ok (params.OutgoingResetRequest request)) (reset_request_again request h)
param_again (params.ReconfigResponse response) h plain =
    ap (λ r. r >>= λ response. Ok (params.ReconfigResponse response)) (reset_response_again response h)
param_again (params.SupportedExtensions types) h plain = refl
param_again (params.Other kind value) h plain = other_param kind value plain

pub param_head : (p : Param) → IsParam p → (param_frame p).head < 2 ^ 16
param_head (params.HeartbeatInfo info) h = omega arith
param_head (params.StateCookie cookie) h = omega arith
param_head (params.OutgoingResetRequest request) h = omega arith
param_head (params.ReconfigResponse response) h = omega arith
param_head (params.SupportedExtensions types) h = omega arith
param_head (params.Other kind value) h = h

pub param_is_again : (p : Param) → IsParam p → param_fits p ≡ true → param_is_plain p ≡ true
    → IsAgain param_of param_frame p
param_is_again p h fits plain = record { fits = fits; head = param_head p h; read = param_again p h plain }

pub params_are_again : (ps : List Param) → AllByRecursion IsParam ps → list_all param_fits ps ≡ true
    → list_all param_is_plain ps ≡ true → AllByRecursion (IsAgain param_of param_frame) ps
params_are_again [] h fits plain = tt
params_are_again (p ∷ ps) h fits plain =
    let f = and_parts _ _ fits in
    let q = and_parts _ _ plain in
    (param_is_again p h.0 f.0 q.0, params_are_again ps h.1 f.1 q.1)

pub params_again : (ps : List Param) → AllByRecursion IsParam ps → list_all param_fits ps ≡ true
    → list_all param_is_plain ps ≡ true → params_at (joined param_frame ps) ≡ Ok ps
params_again ps h fits plain = joined_again param_of param_frame ps (params_are_again ps h fits plain)

causes_are_again : (cs : List ErrorCause) → AllByRecursion IsCause cs → list_all cause_fits cs ≡ true
    → AllByRecursion (IsAgain cause_of cause_frame) cs
causes_are_again [] h fits = tt
causes_are_again (c ∷ cs) h fits =
    let f = and_parts _ _ fits in
    (record { fits = f.0; head = h.0; read = refl }, causes_are_again cs h.1 f.1)

pub causes_again : (cs : List ErrorCause) → AllByRecursion IsCause cs → list_all cause_fits cs ≡ true
    → causes_at (joined cause_frame cs) ≡ Ok cs
causes_again cs h fits = joined_again cause_of cause_frame cs (causes_are_again cs h fits)
