-- A chunk is a fault, or ends a shutdown, exactly where it has one of the causes that are named; a packet closes an
-- association only by such a cause.
use Rattle.std.proofs.Common.{◌≡◌, ◌≢◌, ◌⊎◌, ⊎_elim, refl, sym, ap, ◌∙◌, inl, inr, ℕ, ◌<◌, ◌≤◌, ◌+◌, ◌-◌, ◌%◌, ◌^◌}
use Rattle.std.proofs.Common.{arith, Bool, ◌&&◌}
use Rattle.std.proofs.Common.{true, false, eqb, leb, ltb, if◌then◌else◌, List, length, Option, Some, None, is_some}
use Rattle.std.proofs.Common.{Result, Ok, Err, is_ok, subst}
use Rattle.std.proofs.lemmas.Bool.{and_from, and_parts, eq-eqb, eqb-true, false≢true, le-leb, le-ltb, leb-true, lt-ltb}
use Rattle.std.proofs.lemmas.Bool.{ltb-false, ltb-true}
use Rattle.sctp_wire_types.specs.Checks.{checked_chunk}
use Rattle.sctp_serial.specs.Serial.{tsn_gt, tsn_past, tsn}
use Rattle.sctp_wire_types.specs.declared.chunk.Chunk.{Chunk}
use Rattle.sctp_wire_types.specs.declared.chunk.Chunk.TheVariants as chunks
use Rattle.sctp_wire_types.specs.declared.chunk.ChunkHeartbeat.{ChunkHeartbeat}
use Rattle.sctp_wire_types.specs.declared.chunk.ChunkInit.{ChunkInit}
use Rattle.sctp_wire_types.specs.declared.chunk.ChunkPayloadData.{ChunkPayloadData}
use Rattle.sctp_wire_types.specs.declared.error.Error.{Error}
use Rattle.sctp_wire_types.specs.declared.error.Error.TheVariants as errors
use Rattle.sctp_wire_types.specs.Config.{is_rfc}
use Rattle.sctp_wire_types.specs.declared.packet.CommonHeader.{CommonHeader}
use Rattle.sctp_parts.specs.declared.state.AssociationState.{AssociationState}
use Rattle.sctp_parts.specs.declared.state.AssociationState.TheVariants as states
use Rattle.sctp_inbound.specs.declared.receiver.AckTrigger.{AckTrigger}
use Rattle.sctp_inbound.specs.Greeting.{first_cookie}
use Rattle.sctp_inbound.specs.Handshake.{comes_back, has_issued}
use Rattle.sctp_outbound.specs.declared.sender.SackOutcome.{SackOutcome}
use Rattle.sctp_outbound.specs.declared.sender.SackOutcome.TheVariants as outcomes
use Rattle.sctp_outbound.specs.BlockOffsets.{is_in_flight_at}
use Rattle.sctp_outbound.specs.Sender.{cumulative_tsn_ack_point_of, names_unsent, tsns_up_to, sack_outcome}
use Rattle.sctp_outbound.proofs.BlockOffsets.{names_sets}
use Rattle.sctp_wire_types.specs.declared.chunk.GapAckBlock.{GapAckBlock}
use Rattle.sctp_wire_types.specs.declared.chunk.ChunkSelectiveAck.{ChunkSelectiveAck}
use Rattle.sctp_assoc.specs.Leads.{Binds}
use Rattle.sctp_directions.specs.Acts.{History}
use Rattle.sctp_fit.specs.Incoming.{tsn_before}
use Rattle.sctp_assoc.specs.Calls.{is_beginning, is_cookie_echoed, is_cookie_wait, sends_data}
use Rattle.sctp_sides.specs.Causes.{AcknowledgesTheUnsent, BringsNoCookie, EndsThePacket, FaultsAreCauses}
use Rattle.sctp_sides.specs.Causes.{FitsNoMessage, IsCause}
use Rattle.sctp_sides.specs.Causes.{IsBeyondTheSent, IsCauseOfItsKind, IsPastTheHandshake, NamesNoPiece}
use Rattle.sctp_assoc.specs.Chunks.{checked_first, dispatched, on_chunk, on_counted_sack, on_data, on_sack}
use Rattle.sctp_assoc.specs.Chunks.{is_skippable, passed_over}
use Rattle.sctp_assoc.specs.Handshake.{acknowledges_again, echoed, on_cookie_ack, on_cookie_echo, on_heartbeat}
use Rattle.sctp_assoc.specs.Handshake.{on_init, on_init_ack}
use Rattle.sctp_assoc.specs.Shown.{Shown}
use Rattle.sctp_sides.proofs.ActsOfChunks.{acked_at, acked_back}
use Rattle.sctp_sides.proofs.DataIntake.{PassesLater, PassesTests, data_passed, exhausts_of, fault_from, fault_of}
use Rattle.sctp_sides.proofs.DataIntake.{may_pass_later, may_passes, passes_may, passes_may_later, refused_data}
use Rattle.sctp_sides.proofs.DataIntake.{refused_later}
use Rattle.sctp_sides.specs.Intake.{later_refusal_of, refusal_of}
use Rattle.sctp_wire_types.specs.declared.chunk.ChunkReconfig.{ChunkReconfig}
use Rattle.sctp_wire_types.specs.declared.param.Param.{Param}
use Rattle.sctp_wire_types.specs.declared.param.Param.TheVariants as params
use Rattle.sctp_assoc.specs.declared.inbound.Flow.{Flow}
use Rattle.sctp_assoc.specs.declared.inbound.Flow.TheVariants as flows
use Rattle.sctp_assoc.specs.Resets.{after_param, behind_first, behind_params, on_reconfig}
use Rattle.sctp_sides.specs.Causes.{FitsNoLaterMessage, HasOtherParameter, is_of_reset, is_second_of_reset}
use Rattle.sctp_sides.proofs.ExhaustedBuffers.{exhausting_data_leaves_nothing, flow_is, nothing_left_exhausts}
use Rattle.sctp_sides.specs.Causes.{LeavesNothingToRead}
use Rattle.sctp_assoc.specs.Shutdown.{on_shutdown_complete}
use Rattle.sctp_sides.proofs.ShutdownEnds.{EndsShutdown, complete_flow, complete_spares, ends_of, kind_ends}
use Rattle.sctp_assoc.specs.Skipping.{on_forward, skips_of}
use Rattle.sctp_sides.proofs.ForwardCauses.{exhausting_forwards_leave_nothing, forward_flow}
use Rattle.sctp_sides.proofs.ForwardCauses.{passing_to_nothing_exhausts}

-- States by their tests

waiting_state : (s : AssociationState) → is_cookie_wait s ≡ true → s ≡ states.CookieWait
waiting_state states.Closed e = absurd (false≢true e)
waiting_state states.CookieWait e = refl
waiting_state states.CookieEchoed e = absurd (false≢true e)
waiting_state states.Established e = absurd (false≢true e)
waiting_state states.ShutdownAckSent e = absurd (false≢true e)
waiting_state states.ShutdownPending e = absurd (false≢true e)
waiting_state states.ShutdownReceived e = absurd (false≢true e)
waiting_state states.ShutdownSent e = absurd (false≢true e)

past_handshake : (s : AssociationState) → is_beginning s ≡ false → IsPastTheHandshake s
past_handshake s f = record {
  not_closed = λ e. false≢true (sym f ∙ ap is_beginning e);
  not_waiting = λ e. false≢true (sym f ∙ ap is_beginning e);
  not_echoed = λ e. false≢true (sym f ∙ ap is_beginning e);
}

handshake_past : (s : AssociationState) → IsPastTheHandshake s → is_beginning s ≡ false
handshake_past states.Closed p = absurd (p.not_closed refl)
handshake_past states.CookieWait p = absurd (p.not_waiting refl)
handshake_past states.CookieEchoed p = absurd (p.not_echoed refl)
handshake_past states.Established p = refl
handshake_past states.ShutdownAckSent p = refl
handshake_past states.ShutdownPending p = refl
handshake_past states.ShutdownReceived p = refl
handshake_past states.ShutdownSent p = refl

-- no fault
pub never : (o : Option Error) (error : Error) → o ≡ None → o ≡ Some error → ⊥
never o error n e = false≢true (ap is_some (sym n ∙ e))

-- DATA

data_cause : (a : Shown) (h : History) (piece : ChunkPayloadData) (trigger : AckTrigger) (error : Error) → Binds a h
    → fault_of (on_data a piece trigger).1 ≡ Some error → FitsNoMessage a h piece ⊎ FitsNoLaterMessage a h piece
data_cause a h piece trigger error binds e = ⊎_elim
    (λ (p : PassesTests a piece × (refusal_of a piece ≡ Some error)).
    inl (record { may = passes_may a h piece binds p.0; error = error; refused = p.1 }))
    (λ (p : PassesLater a piece × (later_refusal_of a piece ≡ Some error)).
    inr (record { may = passes_may_later a h piece binds p.0; error = error; refused = p.1 }))
    (data_passed a piece trigger error e)

cause_data : (a : Shown) (h : History) (piece : ChunkPayloadData) (trigger : AckTrigger) → Binds a h
    → FitsNoMessage a h piece → EndsThePacket (on_data a piece trigger)
cause_data a h piece trigger binds c = inl (
  c.error,
  fault_from (on_data a piece trigger).1 c.error
      (refused_data a piece trigger (may_passes a h piece binds c.may) ∙ c.refused),
)

cause_later : (a : Shown) (h : History) (piece : ChunkPayloadData) (trigger : AckTrigger) → Binds a h
    → FitsNoLaterMessage a h piece → EndsThePacket (on_data a piece trigger)
cause_later a h piece trigger binds c = inl (
  c.error,
  fault_from (on_data a piece trigger).1 c.error
      (refused_later a piece trigger (may_pass_later a h piece binds c.may) ∙ c.refused),
)

first_two : {A B C : Type 0} → A ⊎ B → A ⊎ (B ⊎ C)
first_two (inl x) = inl x
first_two (inr y) = inr (inl y)

-- RE-CONFIG

abbrev reconfig_fault : Bool → Bool → Option Error
reconfig_fault first second =
    if first then (if second then None else Some errors.ErrParameterType) else Some errors.ErrParameterType

param_is : (param : Param) (a : Shown) → (after_param param a).1 ≡ is_of_reset param
param_is (params.OutgoingResetRequest request) a = refl
param_is (params.ReconfigResponse response) a = refl
param_is param a = refl

-- it is a fault so, and tells of no exhausted receive buffer
abbrev IsFaultBy : Flow → Option Error → Type 0
IsFaultBy f o = (fault_of f ≡ o) × (exhausts_of f ≡ false)

params_flow : (x : Shown × Bool) (trigger : AckTrigger)
    → IsFaultBy (behind_params x trigger).1 (reconfig_fault true x.1)
params_flow (b, true) trigger = (refl, refl)
params_flow (b, false) trigger = (refl, refl)

first_flow : (x : Shown × Bool) (second : Option Param) (trigger : AckTrigger)
    → IsFaultBy (behind_first x second trigger).1 (reconfig_fault x.1 (is_second_of_reset second))
first_flow (b, true) None trigger = (refl, refl)
first_flow (b, true) (Some param) trigger =
    let p = params_flow (after_param param b) trigger in
    (p.0 ∙ ap (reconfig_fault true) (param_is param b), p.1)
first_flow (b, false) second trigger = (refl, refl)

pub reconfig_flow : (a : Shown) (x : ChunkReconfig) (trigger : AckTrigger)
    → IsFaultBy (on_reconfig a x trigger).1 (reconfig_fault (is_of_reset x.first) (is_second_of_reset x.second))
unfolding on_reconfig
reconfig_flow a x trigger =
    let p = first_flow (after_param x.first a) x.second trigger in
    (p.0 ∙ ap (λ (c : Bool). reconfig_fault c (is_second_of_reset x.second)) (param_is x.first a), p.1)

other_if : (first second : Bool) (error : Error) → reconfig_fault first second ≡ Some error
    → (first ≡ false) ⊎ (second ≡ false)
other_if true true error e = absurd (never None error refl e)
other_if true false error e = inr refl
other_if false second error e = inl refl

other_faults : (first second : Bool) → (first ≡ false) ⊎ (second ≡ false)
    → reconfig_fault first second ≡ Some errors.ErrParameterType
other_faults first second (inl e) = rw e refl
other_faults true second (inr e) = rw e refl
other_faults false second (inr e) = refl

reconfig_cause : (a : Shown) (x : ChunkReconfig) (trigger : AckTrigger) (error : Error)
    → fault_of (on_reconfig a x trigger).1 ≡ Some error → HasOtherParameter x
reconfig_cause a x trigger error e =
    other_if (is_of_reset x.first) (is_second_of_reset x.second) error (sym (reconfig_flow a x trigger).0 ∙ e)

cause_reconfig : (a : Shown) (x : ChunkReconfig) (trigger : AckTrigger) → HasOtherParameter x
    → EndsThePacket (on_reconfig a x trigger)
cause_reconfig a x trigger c = inl (
  errors.ErrParameterType,
  fault_from (on_reconfig a x trigger).1 errors.ErrParameterType
      ((reconfig_flow a x trigger).0 ∙ other_faults (is_of_reset x.first) (is_second_of_reset x.second) c),
)

-- SACK

abbrev outcome_fault : SackOutcome → Option Error
outcome_fault outcomes.Older = None
outcome_fault outcomes.NotInFlight = Some errors.ErrInflightQueueTsnPop
outcome_fault outcomes.NamesTheUnsent = Some errors.ErrTsnRequestNotExist
outcome_fault outcomes.Taken = None

outcome_flow : (o : SackOutcome) (b : Shown) (cumulative_tsn_ack : ℕ) (blocks : List GapAckBlock) (window : ℕ)
    (trigger : AckTrigger) (now : ℕ)
    → fault_of (on_counted_sack o b cumulative_tsn_ack blocks window trigger now).1 ≡ outcome_fault o
outcome_flow outcomes.Older b cumulative_tsn_ack blocks window trigger now = refl
outcome_flow outcomes.NotInFlight b cumulative_tsn_ack blocks window trigger now = refl
outcome_flow outcomes.NamesTheUnsent b cumulative_tsn_ack blocks window trigger now = refl
outcome_flow outcomes.Taken b cumulative_tsn_ack blocks window trigger now = refl

sack_flow : (sends : Bool) (a : Shown) (cumulative_tsn_ack : ℕ) (blocks : List GapAckBlock) (window : ℕ)
    (trigger : AckTrigger) (now : ℕ)
    → sends_data a.state ≡ sends
    → fault_of (on_sack a cumulative_tsn_ack blocks window trigger now).1
    ≡ (if sends then outcome_fault (sack_outcome a.sender cumulative_tsn_ack blocks) else None)
unfolding on_sack
sack_flow true a cumulative_tsn_ack blocks window trigger now e =
    rw e (outcome_flow (sack_outcome a.sender cumulative_tsn_ack blocks) _ cumulative_tsn_ack blocks window trigger now)
sack_flow false a cumulative_tsn_ack blocks window trigger now e = rw e refl

abbrev sack_fault : Bool → Bool → Bool → Bool → Option Error
sack_fault established older beyond unsent =
    if established then outcome_fault (if older then outcomes.Older else if beyond then outcomes.NotInFlight else
    if unsent then outcomes.NamesTheUnsent else outcomes.Taken) else None

-- the SACK's cumulative TSN ack is beyond what is in flight, or its blocks name what is not in flight
pub record IsBeyond (established older beyond unsent : Bool) : Type 0 where
  pub counts : established ≡ true
  pub ahead : older ≡ false
  pub which : (beyond ≡ true) ⊎ ((beyond ≡ false) × (unsent ≡ true))

beyond_if : (established older beyond unsent : Bool) (error : Error)
    → sack_fault established older beyond unsent ≡ Some error → IsBeyond established older beyond unsent
beyond_if false older beyond unsent error e = absurd (never None error refl e)
beyond_if true true beyond unsent error e = absurd (never None error refl e)
beyond_if true false true unsent error e = record { counts = refl; ahead = refl; which = inl refl }
beyond_if true false false true error e = record { counts = refl; ahead = refl; which = inr (refl, refl) }
beyond_if true false false false error e = absurd (never None error refl e)

-- how far a cumulative TSN ack is past the one acknowledged, where it stands before this offset
past_is : (own base n t : ℕ) → t % 2 ^ 32 ≡ tsn_before (tsn own (base + n))
    → tsn_past (tsn_before (tsn own base)) t ≤ n
past_is own base n t e = omega (arith, e)

past_exactly : (own base n t : ℕ) → n < 2 ^ 32 → t % 2 ^ 32 ≡ tsn_before (tsn own (base + n))
    → tsn_past (tsn_before (tsn own base)) t ≡ n
past_exactly own base n t near e = omega (arith, e)

past_small : (acked t : ℕ) → tsn_past acked t < 2 ^ 32
past_small acked t = omega arith

module _ (acked own base flown t : ℕ) (at : acked ≡ tsn_before (tsn own base)) where
  never_sent : ltb flown (tsn_past acked t) ≡ true → (n : ℕ) → n ≤ flown → t % 2 ^ 32 ≢ tsn_before (tsn own (base + n))
  never_sent beyond n within e =
      let far : flown < tsn_past acked t = ltb-true flown (tsn_past acked t) beyond in
      let near : tsn_past (tsn_before (tsn own base)) t ≤ n = past_is own base n t e in
      let same : tsn_past acked t ≡ tsn_past (tsn_before (tsn own base)) t = ap (λ (z : ℕ). tsn_past z t) at in
      absurd (beyond_both (tsn_past acked t) (tsn_past (tsn_before (tsn own base)) t) n flown far near same within)
    where
      beyond_both : (p q n f : ℕ) → f < p → q ≤ n → p ≡ q → n ≤ f → ⊥
      beyond_both p q n f far near same within = omega (arith, far, near, same, within)

  -- a cumulative TSN ack that is not past all that is in flight stands behind so many
  acked_stands : t % 2 ^ 32 ≡ tsn_before (tsn own (base + tsn_past acked t))
  acked_stands = acked_back own base t ∙ ap (λ (z : ℕ). tsn_before (tsn own (base + tsn_past z t))) (sym at)

  -- and a cumulative TSN ack behind so many is that far past the acknowledged one
  past_at : (n : ℕ) → n < 2 ^ 32 → t % 2 ^ 32 ≡ tsn_before (tsn own (base + n)) → tsn_past acked t ≡ n
  past_at n near e = ap (λ (z : ℕ). tsn_past z t) at ∙ past_exactly own base n t near e

sent_if : (beyond : Bool) (acked own base flown t : ℕ) → ltb flown (tsn_past acked t) ≡ beyond
    → acked ≡ tsn_before (tsn own base)
    → ((n : ℕ) → n ≤ flown → t % 2 ^ 32 ≢ tsn_before (tsn own (base + n))) → beyond ≡ true
sent_if true acked own base flown t e at unsent = refl
sent_if false acked own base flown t e at unsent =
    absurd (unsent (tsn_past acked t) (ltb-false flown (tsn_past acked t) e) (acked_stands acked own base flown t at))

-- an offset at which nothing in flight stands
no_piece : (n flown o : ℕ) → is_in_flight_at n flown o ≡ false → (index : ℕ) → index < flown → n + o ≢ index + 1
no_piece n flown o e index l f =
    false≢true (sym e ∙ rw (lt-ltb 0 (n + o) (omega (arith, f)), le-leb (n + o) flown (omega (arith, f, l))) refl)

no_piece_if : (found : Bool) (n flown o : ℕ) → is_in_flight_at n flown o ≡ found
    → ((index : ℕ) → index < flown → n + o ≢ index + 1) → found ≡ false
no_piece_if false n flown o e none = refl
no_piece_if true n flown o e none =
    let both = and_parts (ltb 0 (n + o)) (leb (n + o) flown) e in
    let some : 0 < n + o = ltb-true 0 (n + o) both.0 in
    let within : n + o ≤ flown = leb-true (n + o) flown both.1 in
    absurd (none (n + o - 1) (omega (arith, some, within)) (omega (arith, some)))

sack_cause : (a : Shown) (h : History) (sack : ChunkSelectiveAck) (window : ℕ) (trigger : AckTrigger) (now : ℕ)
    (error : Error) → Binds a h
    → fault_of (on_sack a sack.cumulative_tsn_ack sack.gap_ack_blocks window trigger now).1 ≡ Some error
    → AcknowledgesTheUnsent a h sack
sack_cause a h sack window trigger now error binds e =
    let cumulative_tsn_ack = sack.cumulative_tsn_ack in
    let blocks = sack.gap_ack_blocks in
    let flown = length a.sender.queue.in_flight in
    let n = tsns_up_to a.sender cumulative_tsn_ack in
    let at = acked_at a h binds in
    let b =
    beyond_if (sends_data a.state) (tsn_gt (cumulative_tsn_ack_point_of a.sender) cumulative_tsn_ack) (ltb flown n)
    (names_unsent a.sender cumulative_tsn_ack blocks) error
    (sym (sack_flow (sends_data a.state) a cumulative_tsn_ack blocks window trigger now refl) ∙ e) in
    record {
      counts = b.counts;
      not_behind = sym (ap (λ (z : ℕ). tsn_gt z sack.cumulative_tsn_ack) (acked_at a h binds)) ∙ b.ahead;
      unsent = ⊎_elim
          (λ (beyond : ltb (length a.sender.queue.in_flight) (tsns_up_to a.sender sack.cumulative_tsn_ack) ≡ true).
          inl (never_sent (cumulative_tsn_ack_point_of a.sender) h.own h.base flown cumulative_tsn_ack at beyond))
          (λ (other : (ltb (length a.sender.queue.in_flight) (tsns_up_to a.sender sack.cumulative_tsn_ack) ≡ false)
          × (names_unsent a.sender sack.cumulative_tsn_ack sack.gap_ack_blocks ≡ true)).
          let some = (names_sets n flown blocks).0 other.1 in
          inr (record {
            count = n;
            within = ltb-false flown n other.0;
            near = past_small (cumulative_tsn_ack_point_of a.sender) cumulative_tsn_ack;
            at = acked_stands (cumulative_tsn_ack_point_of a.sender) h.own h.base flown cumulative_tsn_ack at;
            offset = some.offset;
            named = some.named;
            unsent = no_piece n flown some.offset some.unsent;
          }))
          b.which;
    }

beyond_faults : (established older beyond unsent : Bool) → established ≡ true → older ≡ false → beyond ≡ true
    → sack_fault established older beyond unsent ≡ Some errors.ErrInflightQueueTsnPop
beyond_faults established older beyond unsent e f g = rw (e, f, g) refl

unsent_faults : (established older beyond unsent : Bool) → established ≡ true → older ≡ false → beyond ≡ false
    → unsent ≡ true
    → sack_fault established older beyond unsent ≡ Some errors.ErrTsnRequestNotExist
unsent_faults established older beyond unsent e f g u = rw (e, f, g, u) refl

-- blocks that name an offset at which no piece in flight stands name what is not in flight
names_faults : (a : Shown) (h : History) (sack : ChunkSelectiveAck) → Binds a h → NamesNoPiece a h sack
    → (ltb (length a.sender.queue.in_flight) (tsns_up_to a.sender sack.cumulative_tsn_ack) ≡ false)
    × (names_unsent a.sender sack.cumulative_tsn_ack sack.gap_ack_blocks ≡ true)
names_faults a h sack binds c =
    let flown = length a.sender.queue.in_flight in
    let past : tsns_up_to a.sender sack.cumulative_tsn_ack ≡ c.count =
    past_at (cumulative_tsn_ack_point_of a.sender) h.own h.base (length a.sender.queue.in_flight)
    sack.cumulative_tsn_ack (acked_at a h binds) c.count c.near c.at in
    rw past (
      le-ltb flown c.count c.within,
      (names_sets c.count flown sack.gap_ack_blocks).1 (record {
        offset = c.offset;
        named = c.named;
        unsent = no_piece_if (is_in_flight_at c.count flown c.offset) c.count flown c.offset refl c.unsent;
      }),
    )

cause_sack : (a : Shown) (h : History) (sack : ChunkSelectiveAck) (window : ℕ) (trigger : AckTrigger) (now : ℕ)
    → Binds a h → AcknowledgesTheUnsent a h sack
    → EndsThePacket (on_sack a sack.cumulative_tsn_ack sack.gap_ack_blocks window trigger now)
cause_sack a h sack window trigger now binds c =
    let cumulative_tsn_ack = sack.cumulative_tsn_ack in
    let blocks = sack.gap_ack_blocks in
    let flown = length a.sender.queue.in_flight in
    let flow = sack_flow (sends_data a.state) a cumulative_tsn_ack blocks window trigger now refl in
    let ahead = ap (λ (z : ℕ). tsn_gt z sack.cumulative_tsn_ack) (acked_at a h binds) ∙ c.not_behind in
    ⊎_elim
    (λ (beyond : IsBeyondTheSent a h sack.cumulative_tsn_ack). inl (
      errors.ErrInflightQueueTsnPop,
      fault_from (on_sack a sack.cumulative_tsn_ack sack.gap_ack_blocks window trigger now).1
          errors.ErrInflightQueueTsnPop
          (flow ∙ beyond_faults (sends_data a.state)
          (tsn_gt (cumulative_tsn_ack_point_of a.sender) cumulative_tsn_ack)
          (ltb flown (tsns_up_to a.sender cumulative_tsn_ack))
          (names_unsent a.sender cumulative_tsn_ack blocks) c.counts ahead
          (sent_if _ (cumulative_tsn_ack_point_of a.sender) h.own h.base flown cumulative_tsn_ack refl
          (acked_at a h binds) beyond)),
    ))
    (λ (names : NamesNoPiece a h sack). inl (
      errors.ErrTsnRequestNotExist,
      fault_from (on_sack a sack.cumulative_tsn_ack sack.gap_ack_blocks window trigger now).1
          errors.ErrTsnRequestNotExist
          (flow ∙ unsent_faults (sends_data a.state)
          (tsn_gt (cumulative_tsn_ack_point_of a.sender) cumulative_tsn_ack)
          (ltb flown (tsns_up_to a.sender cumulative_tsn_ack))
          (names_unsent a.sender cumulative_tsn_ack blocks) c.counts ahead
          (names_faults a h sack binds names).0 (names_faults a h sack binds names).1),
    ))
    c.unsent

-- INIT and INIT ACK

init_flow : (beginning : Bool) (a : Shown) (header : CommonHeader) (init : ChunkInit) (trigger : AckTrigger)
    → is_beginning a.state ≡ beginning
    → fault_of (on_init a header init trigger).1 ≡ (if beginning then None else Some errors.ErrHandleInitState)
unfolding on_init
init_flow true a header init trigger e = rw e refl
init_flow false a header init trigger e = rw e refl

init_if : (beginning : Bool) (error : Error)
    → (if beginning then None else Some errors.ErrHandleInitState) ≡ Some error → beginning ≡ false
init_if true error e = absurd (never None error refl e)
init_if false error e = refl

abbrev cookie_fault : Option (List ℕ) → Option Error
cookie_fault None = Some errors.ErrInitAckNoCookie
cookie_fault (Some cookie) = None

echoed_flow : (o : Option (List ℕ)) (b : Shown) (trigger : AckTrigger) (now : ℕ)
    → fault_of (echoed o b trigger now).1 ≡ cookie_fault o
echoed_flow None b trigger now = refl
echoed_flow (Some cookie) b trigger now = refl

init_ack_flow : (waits back : Bool) (a : Shown) (header : CommonHeader) (init : ChunkInit)
    (trigger : AckTrigger) (now : ℕ)
    → is_cookie_wait a.state ≡ waits
    → comes_back a.handshake header ≡ back
    → fault_of (on_init_ack a header init trigger now).1
    ≡ (if waits then (if back then cookie_fault (first_cookie init.params) else None) else None)
unfolding on_init_ack
init_ack_flow true true a header init trigger now e f = rw (e, f) (echoed_flow (first_cookie init.params) _ trigger now)
init_ack_flow true false a header init trigger now e f = rw (e, f) refl
init_ack_flow false back a header init trigger now e f = rw e refl

-- no cookie came back
pub record IsLacking (waits back : Bool) (o : Option (List ℕ)) : Type 0 where
  pub waiting : waits ≡ true
  pub returned : back ≡ true
  pub none : o ≡ None

lacking_if : (waits back : Bool) (o : Option (List ℕ)) (error : Error)
    → (if waits then (if back then cookie_fault o else None) else None) ≡ Some error → IsLacking waits back o
lacking_if false back o error e = absurd (never None error refl e)
lacking_if true false o error e = absurd (never None error refl e)
lacking_if true true (Some cookie) error e = absurd (never None error refl e)
lacking_if true true None error e = record { waiting = refl; returned = refl; none = refl }

lacking_faults : (waits back : Bool) (o : Option (List ℕ)) → waits ≡ true → back ≡ true → o ≡ None
    → (if waits then (if back then cookie_fault o else None) else None) ≡ Some errors.ErrInitAckNoCookie
lacking_faults waits back o e f g = rw (e, f, g) refl

init_ack_cause : (a : Shown) (header : CommonHeader) (init : ChunkInit) (trigger : AckTrigger) (now : ℕ) (error : Error)
    → fault_of (on_init_ack a header init trigger now).1 ≡ Some error
    → BringsNoCookie a header init
init_ack_cause a header init trigger now error e =
    let l =
    lacking_if (is_cookie_wait a.state) (comes_back a.handshake header) (first_cookie init.params) error
    (sym (init_ack_flow _ _ a header init trigger now refl refl) ∙ e) in
    let ports =
    and_parts (eqb header.destination_port a.handshake.source_port)
    (eqb header.source_port a.handshake.destination_port) l.returned in
    record {
      waits = waiting_state a.state l.waiting;
      source = eqb-true header.source_port a.handshake.destination_port ports.1;
      destination = eqb-true header.destination_port a.handshake.source_port ports.0;
      no_cookie = l.none;
    }

cause_init_ack : (a : Shown) (header : CommonHeader) (init : ChunkInit) (trigger : AckTrigger) (now : ℕ)
    → BringsNoCookie a header init → EndsThePacket (on_init_ack a header init trigger now)
cause_init_ack a header init trigger now c =
    let back : comes_back a.handshake header ≡ true =
    and_from (eqb header.destination_port a.handshake.source_port) (eqb header.source_port a.handshake.destination_port)
    (eq-eqb header.destination_port a.handshake.source_port c.destination)
    (eq-eqb header.source_port a.handshake.destination_port c.source) in inl (
      errors.ErrInitAckNoCookie,
      fault_from (on_init_ack a header init trigger now).1 errors.ErrInitAckNoCookie
          (init_ack_flow _ _ a header init trigger now refl refl
          ∙ lacking_faults (is_cookie_wait a.state) (comes_back a.handshake header) (first_cookie init.params)
          (ap is_cookie_wait c.waits) back c.no_cookie),
    )

-- The chunks that are never faults

pub echo_flow : (issued beginning again : Bool) (a : Shown) (cookie : List ℕ) (trigger : AckTrigger)
    → has_issued a.handshake cookie ≡ issued
    → is_beginning a.state ≡ beginning → acknowledges_again a ≡ again
    → fault_of (on_cookie_echo a cookie trigger).1 ≡ None
unfolding on_cookie_echo
echo_flow false beginning again a cookie trigger e f g = rw e refl
echo_flow true true again a cookie trigger e f g = rw (e, f) refl
echo_flow true false true a cookie trigger e f g = rw (e, f, g) refl
echo_flow true false false a cookie trigger e f g = rw (e, f, g) refl

pub cookie_ack_flow : (echoes : Bool) (a : Shown) (trigger : AckTrigger) → is_cookie_echoed a.state ≡ echoes
    → fault_of (on_cookie_ack a trigger).1 ≡ None
unfolding on_cookie_ack
cookie_ack_flow true a trigger e = rw e refl
cookie_ack_flow false a trigger e = rw e refl

pub heartbeat_flow : (a : Shown) (heartbeat : ChunkHeartbeat) (trigger : AckTrigger)
    → fault_of (on_heartbeat a heartbeat trigger).1 ≡ None
unfolding on_heartbeat
heartbeat_flow a heartbeat trigger = refl

-- Only DATA and FORWARD TSN tell of an exhausted receive buffer.

outcome_spares : (o : SackOutcome) (b : Shown) (cumulative_tsn_ack : ℕ) (blocks : List GapAckBlock) (window : ℕ)
    (trigger : AckTrigger) (now : ℕ)
    → exhausts_of (on_counted_sack o b cumulative_tsn_ack blocks window trigger now).1 ≡ false
outcome_spares outcomes.Older b cumulative_tsn_ack blocks window trigger now = refl
outcome_spares outcomes.NotInFlight b cumulative_tsn_ack blocks window trigger now = refl
outcome_spares outcomes.NamesTheUnsent b cumulative_tsn_ack blocks window trigger now = refl
outcome_spares outcomes.Taken b cumulative_tsn_ack blocks window trigger now = refl

pub sack_spares : (sends : Bool) (a : Shown) (cumulative_tsn_ack : ℕ) (blocks : List GapAckBlock) (window : ℕ)
    (trigger : AckTrigger) (now : ℕ) → sends_data a.state ≡ sends
    → exhausts_of (on_sack a cumulative_tsn_ack blocks window trigger now).1 ≡ false
unfolding on_sack
sack_spares true a cumulative_tsn_ack blocks window trigger now e =
    rw e (outcome_spares (sack_outcome a.sender cumulative_tsn_ack blocks) _ cumulative_tsn_ack blocks window trigger
    now)
sack_spares false a cumulative_tsn_ack blocks window trigger now e = rw e refl

pub init_spares : (beginning : Bool) (a : Shown) (header : CommonHeader) (init : ChunkInit) (trigger : AckTrigger)
    → is_beginning a.state ≡ beginning → exhausts_of (on_init a header init trigger).1 ≡ false
unfolding on_init
init_spares true a header init trigger e = rw e refl
init_spares false a header init trigger e = rw e refl

echoed_spares : (o : Option (List ℕ)) (b : Shown) (trigger : AckTrigger) (now : ℕ)
    → exhausts_of (echoed o b trigger now).1 ≡ false
echoed_spares None b trigger now = refl
echoed_spares (Some cookie) b trigger now = refl

pub init_ack_spares : (waits back : Bool) (a : Shown) (header : CommonHeader) (init : ChunkInit)
    (trigger : AckTrigger) (now : ℕ) → is_cookie_wait a.state ≡ waits → comes_back a.handshake header ≡ back
    → exhausts_of (on_init_ack a header init trigger now).1 ≡ false
unfolding on_init_ack
init_ack_spares true true a header init trigger now e f =
    rw (e, f) (echoed_spares (first_cookie init.params) _ trigger now)
init_ack_spares true false a header init trigger now e f = rw (e, f) refl
init_ack_spares false back a header init trigger now e f = rw e refl

pub echo_spares : (issued beginning again : Bool) (a : Shown) (cookie : List ℕ) (trigger : AckTrigger)
    → has_issued a.handshake cookie ≡ issued
    → is_beginning a.state ≡ beginning → acknowledges_again a ≡ again
    → exhausts_of (on_cookie_echo a cookie trigger).1 ≡ false
unfolding on_cookie_echo
echo_spares false beginning again a cookie trigger e f g = rw e refl
echo_spares true true again a cookie trigger e f g = rw (e, f) refl
echo_spares true false true a cookie trigger e f g = rw (e, f, g) refl
echo_spares true false false a cookie trigger e f g = rw (e, f, g) refl

pub cookie_ack_spares : (echoes : Bool) (a : Shown) (trigger : AckTrigger) → is_cookie_echoed a.state ≡ echoes
    → exhausts_of (on_cookie_ack a trigger).1 ≡ false
unfolding on_cookie_ack
cookie_ack_spares true a trigger e = rw e refl
cookie_ack_spares false a trigger e = rw e refl

pub heartbeat_spares : (a : Shown) (heartbeat : ChunkHeartbeat) (trigger : AckTrigger)
    → exhausts_of (on_heartbeat a heartbeat trigger).1 ≡ false
unfolding on_heartbeat
heartbeat_spares a heartbeat trigger = refl

passed_spares : (passes : Bool) (fault : Error) (trigger : AckTrigger)
    → exhausts_of (passed_over passes fault trigger) ≡ false
passed_spares true fault trigger = refl
passed_spares false fault trigger = refl

-- DATA and FORWARD TSN that do leave nothing to read
pub kind_exhausts : (header : CommonHeader) (c : Chunk) (a : Shown) (h : History) (trigger : AckTrigger) (now : ℕ)
    → Binds a h → exhausts_of (dispatched a header c trigger now).1 ≡ true → IsCauseOfItsKind a h header c
unfolding on_chunk
kind_exhausts header (chunks.Data piece) a h trigger now binds e =
    inr (inr (exhausting_data_leaves_nothing a h header piece _ binds e))
kind_exhausts header (chunks.SelectiveAck sack) a h trigger now binds e =
    absurd (false≢true (sym (sack_spares _ a sack.cumulative_tsn_ack sack.gap_ack_blocks
    sack.advertised_receiver_window_credit trigger now refl) ∙ e))
kind_exhausts header (chunks.Init x) a h trigger now binds e =
    absurd (false≢true (sym (init_spares _ a header x trigger refl) ∙ e))
kind_exhausts header (chunks.InitAck x) a h trigger now binds e =
    absurd (false≢true (sym (init_ack_spares _ _ a header x trigger now refl refl) ∙ e))
kind_exhausts header (chunks.CookieEcho x) a h trigger now binds e =
    absurd (false≢true (sym (echo_spares _ _ _ a x trigger refl refl refl) ∙ e))
kind_exhausts header chunks.CookieAck a h trigger now binds e =
    absurd (false≢true (sym (cookie_ack_spares _ a trigger refl) ∙ e))
kind_exhausts header (chunks.Heartbeat x) a h trigger now binds e =
    absurd (false≢true (sym (heartbeat_spares a x trigger) ∙ e))
kind_exhausts header (chunks.ForwardTsn x) a h trigger now binds e =
    exhausting_forwards_leave_nothing a h header (chunks.ForwardTsn x) x.new_cumulative_tsn x.streams trigger now
    (λ asked at. refl) binds e
kind_exhausts header (chunks.IForwardTsn x) a h trigger now binds e =
    exhausting_forwards_leave_nothing a h header (chunks.IForwardTsn x) x.new_cumulative_tsn (skips_of x.entries)
    trigger now (λ asked at. refl) binds e
kind_exhausts header (chunks.Reconfig x) a h trigger now binds e =
    absurd (false≢true (sym (reconfig_flow a x trigger).1 ∙ e))
kind_exhausts header (chunks.Shutdown x) a h trigger now binds e = absurd (false≢true e)
kind_exhausts header chunks.ShutdownAck a h trigger now binds e = absurd (false≢true e)
kind_exhausts header chunks.ShutdownComplete a h trigger now binds e =
    absurd (false≢true (sym (complete_spares a.state trigger) ∙ e))
kind_exhausts header (chunks.Error x) a h trigger now binds e =
    absurd (false≢true (sym (passed_spares (is_rfc a.profile) errors.ErrAbortChunk trigger) ∙ e))
kind_exhausts header (chunks.HeartbeatAck x) a h trigger now binds e =
    absurd (false≢true (sym (passed_spares (is_rfc a.profile) errors.ErrChunkTypeUnhandled trigger) ∙ e))
kind_exhausts header (chunks.Other kind flags value) a h trigger now binds e =
    absurd (false≢true (sym (passed_spares (is_skippable kind && is_rfc a.profile) errors.ErrChunkTypeUnhandled trigger)
    ∙ e))
kind_exhausts header (chunks.Abort x) a h trigger now binds e = tt

nothing_to_read_exhausts : (a : Shown) (h : History) (header : CommonHeader) (piece : ChunkPayloadData)
    (trigger : AckTrigger) → Binds a h → LeavesNothingToRead a h header piece → EndsThePacket (on_data a piece trigger)
nothing_to_read_exhausts a h header piece trigger binds c =
    inr (inr (flow_is (on_data a piece trigger).1 (nothing_left_exhausts a h header piece trigger binds c)))

-- what may be passed over is a fault by the port's rules alone
passed_cause : (passes : Bool) (fault error : Error) (trigger : AckTrigger)
    → fault_of (passed_over passes fault trigger) ≡ Some error → passes ≡ false
passed_cause true fault error trigger e = absurd (never None error refl e)
passed_cause false fault error trigger e = refl

cause_passed : (passes : Bool) (fault : Error) (trigger : AckTrigger) → passes ≡ false
    → passed_over passes fault trigger ≡ flows.Fault fault
cause_passed passes fault trigger e = ap (λ (p : Bool). passed_over p fault trigger) e

-- Any chunk

kind_cause : (header : CommonHeader) (c : Chunk) (a : Shown) (h : History) (trigger : AckTrigger) (now : ℕ)
    (error : Error)
    → Binds a h
    → fault_of (dispatched a header c trigger now).1 ≡ Some error → IsCauseOfItsKind a h header c
unfolding on_chunk
kind_cause header (chunks.Data piece) a h trigger now error binds e =
    first_two (data_cause a h piece _ error binds e)
kind_cause header (chunks.SelectiveAck sack) a h trigger now error binds e =
    sack_cause a h sack sack.advertised_receiver_window_credit trigger now error binds e
kind_cause header (chunks.Init x) a h trigger now error binds e =
    past_handshake a.state
    (init_if (is_beginning a.state) error (sym (init_flow (is_beginning a.state) a header x trigger refl) ∙ e))
kind_cause header (chunks.InitAck x) a h trigger now error binds e = init_ack_cause a header x trigger now error e
kind_cause header (chunks.CookieEcho x) a h trigger now error binds e =
    absurd (never _ error (echo_flow _ _ _ a x trigger refl refl refl) e)
kind_cause header chunks.CookieAck a h trigger now error binds e =
    absurd (never _ error (cookie_ack_flow _ a trigger refl) e)
kind_cause header (chunks.Heartbeat x) a h trigger now error binds e =
    absurd (never _ error (heartbeat_flow a x trigger) e)
kind_cause header (chunks.ForwardTsn x) a h trigger now error binds e =
    absurd (never _ error (forward_flow a x.new_cumulative_tsn x.streams trigger now) e)
kind_cause header (chunks.IForwardTsn x) a h trigger now error binds e =
    absurd (never _ error (forward_flow a x.new_cumulative_tsn (skips_of x.entries) trigger now) e)
kind_cause header (chunks.Reconfig x) a h trigger now error binds e = reconfig_cause a x trigger error e
kind_cause header (chunks.Shutdown x) a h trigger now error binds e = absurd (never None error refl e)
kind_cause header chunks.ShutdownAck a h trigger now error binds e = absurd (never None error refl e)
kind_cause header chunks.ShutdownComplete a h trigger now error binds e =
    absurd (never _ error (complete_flow a.state trigger) e)
kind_cause header (chunks.Error x) a h trigger now error binds e =
    passed_cause (is_rfc a.profile) errors.ErrAbortChunk error trigger e
kind_cause header (chunks.HeartbeatAck x) a h trigger now error binds e =
    passed_cause (is_rfc a.profile) errors.ErrChunkTypeUnhandled error trigger e
kind_cause header (chunks.Other kind flags value) a h trigger now error binds e =
    passed_cause (is_skippable kind && is_rfc a.profile) errors.ErrChunkTypeUnhandled error trigger e
kind_cause header (chunks.Abort x) a h trigger now error binds e = tt

-- a SHUTDOWN COMPLETE that ends a shutdown answers SHUTDOWN ACK
ends_cause : (c : Chunk) (a : Shown) (h : History) (header : CommonHeader) → EndsShutdown c a
    → IsCauseOfItsKind a h header c
ends_cause c a h header e = subst (IsCauseOfItsKind a h header) (sym e.complete) e.awaited

cause_kind : (header : CommonHeader) (c : Chunk) (a : Shown) (h : History) (trigger : AckTrigger) (now : ℕ) → Binds a h
    → IsCauseOfItsKind a h header c
    → EndsThePacket (dispatched a header c trigger now)
unfolding on_chunk
cause_kind header (chunks.Data piece) a h trigger now binds cause =
    ⊎_elim (cause_data a h piece _ binds)
    (⊎_elim (cause_later a h piece _ binds) (nothing_to_read_exhausts a h header piece _ binds)) cause
cause_kind header (chunks.SelectiveAck sack) a h trigger now binds cause =
    cause_sack a h sack sack.advertised_receiver_window_credit trigger now binds cause
cause_kind header (chunks.Init x) a h trigger now binds cause = inl (
  errors.ErrHandleInitState,
  fault_from (on_init a header x trigger).1 errors.ErrHandleInitState
      (init_flow false a header x trigger (handshake_past a.state cause)),
)
cause_kind header (chunks.InitAck x) a h trigger now binds cause = cause_init_ack a header x trigger now cause
cause_kind header (chunks.CookieEcho x) a h trigger now binds cause = absurd cause
cause_kind header chunks.CookieAck a h trigger now binds cause = absurd cause
cause_kind header (chunks.Heartbeat x) a h trigger now binds cause = absurd cause
cause_kind header (chunks.ForwardTsn x) a h trigger now binds cause =
    inr (inr (flow_is (on_forward a x.new_cumulative_tsn x.streams trigger now).1
    (passing_to_nothing_exhausts a h header (chunks.ForwardTsn x) x.new_cumulative_tsn x.streams trigger now
    (λ asked at. refl) binds cause)))
cause_kind header (chunks.IForwardTsn x) a h trigger now binds cause =
    inr (inr (flow_is (on_forward a x.new_cumulative_tsn (skips_of x.entries) trigger now).1
    (passing_to_nothing_exhausts a h header (chunks.IForwardTsn x) x.new_cumulative_tsn (skips_of x.entries) trigger now
    (λ asked at. refl) binds cause)))
cause_kind header (chunks.Reconfig x) a h trigger now binds cause = cause_reconfig a x trigger cause
cause_kind header (chunks.Shutdown x) a h trigger now binds cause = absurd cause
cause_kind header chunks.ShutdownAck a h trigger now binds cause = absurd cause
cause_kind header chunks.ShutdownComplete a h trigger now binds cause =
    inr (inl (ap (λ (s : AssociationState). on_shutdown_complete s trigger) cause))
cause_kind header (chunks.Abort x) a h trigger now binds cause = inl (errors.ErrAbortChunk, refl)
cause_kind header (chunks.Error x) a h trigger now binds cause =
    inl (errors.ErrAbortChunk, cause_passed (is_rfc a.profile) errors.ErrAbortChunk trigger cause)
cause_kind header (chunks.HeartbeatAck x) a h trigger now binds cause =
    inl (errors.ErrChunkTypeUnhandled, cause_passed (is_rfc a.profile) errors.ErrChunkTypeUnhandled trigger cause)
cause_kind header (chunks.Other kind flags value) a h trigger now binds cause = inl (
  errors.ErrChunkTypeUnhandled,
  cause_passed (is_skippable kind && is_rfc a.profile) errors.ErrChunkTypeUnhandled trigger cause,
)

-- of a chunk that its own check refuses, or accepts
module _ (header : CommonHeader) (c : Chunk) (a : Shown) (h : History) (trigger : AckTrigger) (now : ℕ)
    (binds : Binds a h)
  where
    fault_cause : (r : Result (Unit {0}) Error) → checked_chunk c ≡ r
        → EndsThePacket (checked_first r a header c trigger now) → IsCause a h header c
    fault_cause (Err error) e f = inl (error, e)
    fault_cause (Ok done) e (inl (error, f)) =
        inr (kind_cause header c a h trigger now error binds (ap fault_of f))
    fault_cause (Ok done) e (inr (inl f)) =
        inr (ends_cause c a h header (kind_ends header c a trigger now (ap ends_of f)))
    fault_cause (Ok done) e (inr (inr f)) =
        inr (kind_exhausts header c a h trigger now binds (ap exhausts_of f))

    cause_fault : (r : Result (Unit {0}) Error) → checked_chunk c ≡ r
        → IsCause a h header c → EndsThePacket (checked_first r a header c trigger now)
    cause_fault (Err error) e cause = inl (error, refl)
    cause_fault (Ok done) e (inl (error, f)) = absurd (false≢true (ap is_ok (sym f ∙ e)))
    cause_fault (Ok done) e (inr kind) = cause_kind header c a h trigger now binds kind

pub faults_are_causes : FaultsAreCauses
unfolding on_chunk
faults_are_causes a h header c trigger now binds = (
  fault_cause header c a h trigger now binds (checked_chunk c) refl,
  cause_fault header c a h trigger now binds (checked_chunk c) refl,
)
