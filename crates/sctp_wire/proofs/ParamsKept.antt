-- Parameters and causes that are read are in range, stand for themselves and fit.
use Rattle.std.proofs.Common.{◌≡◌, ℕ, ◌-◌, ◌*◌, ◌/◌, ◌^◌, ◌<◌, ◌≤◌, Bool, true, false, not, ◌||◌}
use Rattle.std.proofs.Common.{eqb, ltb, List, [], ◌∷◌, length, drop, Ok, refl}
use Rattle.std.proofs.Common.{subst, arith}
use Rattle.std.specs.List.{flat_map, list_all, AllByRecursion}
use Rattle.std.proofs.lemmas.Bool.{ltb-false, lt-ltb, and_from}
use Rattle.sctp_wire_types.specs.declared.chunk.ErrorCause.{ErrorCause}
use Rattle.sctp_wire_types.specs.declared.param.Param.{Param}
use Rattle.sctp_wire_types.specs.declared.param.Param.TheVariants as params
use Rattle.sctp_wire_types.specs.declared.param.ParamOutgoingResetRequest.{ParamOutgoingResetRequest}
use Rattle.sctp_wire_types.specs.declared.param.ParamReconfigResponse.{ParamReconfigResponse}
use Rattle.sctp_wire.specs.declared.frame.Frame.{Frame}
use Rattle.sctp_wire.specs.Numbers.{u16_at, u32_at, IsU16}
use Rattle.sctp_wire.specs.Frames.{entries_at, joined}
use Rattle.sctp_wire.specs.Params.{result_of, reset_request_of, identifier_bytes, reset_request_value, IsResetRequest}
use Rattle.sctp_wire.specs.Params.{reset_response_of, reset_response_value, IsResetResponse, param_of, param_frame}
use Rattle.sctp_wire.specs.Params.{param_fits, IsParam, param_is_plain, params_at, cause_of, cause_frame, cause_fits}
use Rattle.sctp_wire.specs.Params.{IsCause, causes_at}
use Rattle.sctp_wire.proofs.FrameLoop.{ok_is}
use Rattle.sctp_wire.proofs.ListsWritten.{flat_length}
use Rattle.sctp_wire.proofs.FramesKept.{AreBytes, AreBytes-drop, u16_below, u32_below, bind_ok, choose, entries_kept}
use Rattle.sctp_wire.proofs.FramesKept.{entries_count, items_kept}

abbrev identifier_at : List ℕ → ℕ
identifier_at entry = u16_at entry 0

abbrev RequestKept : ℕ → ParamOutgoingResetRequest → Type 0
RequestKept len p = IsResetRequest p × (length (reset_request_value p) ≤ len)

request_kept : (value : List ℕ) (p : ParamOutgoingResetRequest) → AreBytes value → reset_request_of value ≡ Ok p
    → RequestKept (length value) p
unfolding reset_request_of
request_kept value p h e =
    choose (ltb (length value) 12) _ _ _ e (λ t k. absurd cc)
    (λ t k.
    let n : ℕ = (length value - 12) / 2 in
    let ids : List ℕ = entries_at identifier_at 2 ((length value - 12) / 2) (drop 12 value) in
    let long : 12 ≤ length value = ltb-false _ _ t in
    let count : length (entries_at identifier_at 2 ((length value - 12) / 2) (drop 12 value))
    ≡ (length value - 12) / 2 = entries_count identifier_at 2 ((length value - 12) / 2) (drop 12 value) in
    let wide : length (flat_map identifier_bytes (entries_at identifier_at 2 ((length value - 12) / 2) (drop 12 value)))
    ≡ 2 * length (entries_at identifier_at 2 ((length value - 12) / 2) (drop 12 value)) =
    flat_length identifier_bytes 2 (λ x. refl) (entries_at identifier_at 2 ((length value - 12) / 2) (drop 12 value)) in
    let kept : RequestKept (length value) (record {
      reconfig_request_sequence_number = u32_at value 0;
      reconfig_response_sequence_number = u32_at value 4;
      sender_last_tsn = u32_at value 8;
      stream_identifiers = entries_at identifier_at 2 ((length value - 12) / 2) (drop 12 value);
    }) = (
      (
        u32_below value 0 h,
        u32_below value 4 h,
        u32_below value 8 h,
        entries_kept IsU16 identifier_at 2 (λ bytes fits. u16_below bytes 0 fits) ((length value - 12) / 2)
            (drop 12 value) (AreBytes-drop 12 value h),
      ),
      omega arith,
    ) in
    subst (RequestKept (length value)) (ok_is _ p k) kept)

abbrev ResponseKept : ℕ → ParamReconfigResponse → Type 0
ResponseKept len p = IsResetResponse p × (length (reset_response_value p) ≤ len)

response_kept : (value : List ℕ) (p : ParamReconfigResponse) → AreBytes value → reset_response_of value ≡ Ok p
    → ResponseKept (length value) p
unfolding reset_response_of
response_kept value p h e =
    choose (ltb (length value) 8) _ _ _ e (λ t k. absurd cc)
    (λ t k.
    let long : 8 ≤ length value = ltb-false _ _ t in
    let kept :
    ResponseKept (length value)
    (record { reconfig_response_sequence_number = u32_at value 0; result = result_of (u32_at value 4) }) =
    (u32_below value 0 h, omega arith) in
    subst (ResponseKept (length value)) (ok_is _ p k) kept)

-- ---- parameters

abbrev pub IsWhole : Param → Type 0
IsWhole p = IsParam p × (param_is_plain p ≡ true) × (param_fits p ≡ true)

abbrev ParamKept : ℕ → Param → Type 0
ParamKept len p = IsWhole p × (length (param_frame p).value ≤ len)

pub fits_below : (a b : ℕ) → a ≤ b → b < 65532 → ltb a 65532 ≡ true
fits_below a b le lt = lt-ltb a 65532 (omega arith)

module _ (a b c d e : Bool) where
  not_any_of_five : a ≡ false → b ≡ false → c ≡ false → d ≡ false → e ≡ false → not (a || b || c || d || e) ≡ true
  not_any_of_five p q r s t = rw (p, q, r, s, t) refl

pub param_kept : (f : Frame) (p : Param) → param_of f ≡ Ok p → f.head < 2 ^ 16 → length f.value < 65532
    → AreBytes f.value → ParamKept (length f.value) p
unfolding param_of
param_kept f p e head short h =
    choose (eqb f.head 1) _ _ _ e (λ t k. subst (ParamKept (length f.value)) (ok_is (params.HeartbeatInfo f.value) p k)
    ((tt, refl, lt-ltb _ _ short), omega arith)) (λ n1 e1.
    choose (eqb f.head 7) _ _ _ e1 (λ t k. subst (ParamKept (length f.value)) (ok_is (params.StateCookie f.value) p k)
    ((tt, refl, lt-ltb _ _ short), omega arith)) (λ n2 e2.
    choose (eqb f.head 13) _ _ _ e2 (λ t k.
    let a = bind_ok (reset_request_of f.value) (λ request. Ok (params.OutgoingResetRequest request)) p k in
    let r = request_kept f.value a.0 h a.1 in
    subst (ParamKept (length f.value)) (ok_is (params.OutgoingResetRequest a.0) p a.2)
    ((r.0, refl, fits_below _ _ r.1 short), r.1)) (λ n3 e3.
    choose (eqb f.head 16) _ _ _ e3 (λ t k.
    let a = bind_ok (reset_response_of f.value) (λ response. Ok (params.ReconfigResponse response)) p k in
    let r = response_kept f.value a.0 h a.1 in
    subst (ParamKept (length f.value)) (ok_is (params.ReconfigResponse a.0) p a.2)
    ((r.0, refl, fits_below _ _ r.1 short), r.1)) (λ n4 e4.
    choose (eqb f.head 0x8008) _ _ _ e4 (λ t k. subst (ParamKept (length f.value))
    (ok_is (params.SupportedExtensions f.value) p k) ((tt, refl, lt-ltb _ _ short), omega arith)) (λ n5 e5.
    subst (ParamKept (length f.value)) (ok_is (params.Other f.head f.value) p e5) (
      (
        head,
        not_any_of_five (eqb f.head 1) (eqb f.head 7) (eqb f.head 13) (eqb f.head 16) (eqb f.head 0x8008)
            n1 n2 n3 n4 n5,
        lt-ltb _ _ short,
      ),
      omega arith,
    ))))))

pub record AreWhole (ps : List Param) : Type 0 where
  pub ranges : AllByRecursion IsParam ps
  pub plain : list_all param_is_plain ps ≡ true
  pub fits : list_all param_fits ps ≡ true

pub all_whole_params : (ps : List Param) → AllByRecursion IsWhole ps → AreWhole ps
all_whole_params [] h = record { ranges = tt; plain = refl; fits = refl }
all_whole_params (p ∷ ps) h =
    let others = all_whole_params ps h.1 in
    record {
      ranges = (h.0.0, others.ranges);
      plain = and_from _ _ h.0.1 others.plain;
      fits = and_from _ _ h.0.2 others.fits;
    }

pub params_kept : (bytes : List ℕ) (ps : List Param) → AreBytes bytes → params_at bytes ≡ Ok ps
    → AreWhole ps × (length (joined param_frame ps) ≤ length bytes)
params_kept bytes ps h e =
    let kept =
    items_kept IsWhole param_of param_frame 4 param_kept
    bytes ps h e in
    (all_whole_params ps kept.0, kept.1)

-- ---- causes

abbrev CauseFits : ErrorCause → Type 0
CauseFits c = IsCause c × (cause_fits c ≡ true)

abbrev CauseKept : ℕ → ErrorCause → Type 0
CauseKept len c = CauseFits c × (length (cause_frame c).value ≤ len)

cause_kept : (f : Frame) (c : ErrorCause) → cause_of f ≡ Ok c → f.head < 2 ^ 16 → length f.value < 65532
    → AreBytes f.value → CauseKept (length f.value) c
cause_kept f c e head short h =
    let kept : CauseKept (length f.value) (record { code = f.head; value = f.value }) =
    ((head, lt-ltb _ _ short), omega arith) in
    subst (CauseKept (length f.value)) (ok_is _ c e) kept

pub record AreCauses (cs : List ErrorCause) : Type 0 where
  pub ranges : AllByRecursion IsCause cs
  pub fits : list_all cause_fits cs ≡ true

all_causes : (cs : List ErrorCause) → AllByRecursion CauseFits cs → AreCauses cs
all_causes [] h = record { ranges = tt; fits = refl }
all_causes (c ∷ cs) h =
    let others = all_causes cs h.1 in record { ranges = (h.0.0, others.ranges); fits = and_from _ _ h.0.1 others.fits }

pub causes_kept : (bytes : List ℕ) (cs : List ErrorCause) → AreBytes bytes → causes_at bytes ≡ Ok cs
    → AreCauses cs × (length (joined cause_frame cs) ≤ length bytes)
causes_kept bytes cs h e =
    let kept =
    items_kept CauseFits cause_of cause_frame 4 cause_kept
    bytes cs h e in
    (all_causes cs kept.0, kept.1)
