-- A side that meets its peer: what follows from that no reset is under way and nothing was sent, and what a call leaves
-- of it.
use Rattle.std.proofs.Common.{◌≡◌, refl, sym, ap, ◌∙◌, subst, subst₂, ◌⊎◌, ⊎_elim, inl, inr, ℕ, ◌<◌, ◌≤◌, ◌^◌, arith}
use Rattle.std.proofs.Common.{true, false, is_some, List, [], ◌∷◌, length, Option, Some, None}
use Rattle.std.specs.List.{AllByRecursion}
use Rattle.std.proofs.lemmas.Bool.{eq-eqb, true≢false}
use Rattle.sctp_wire_types.specs.declared.chunk.Chunk.{Chunk}
use Rattle.sctp_wire_types.specs.declared.chunk.Chunk.TheVariants as chunks
use Rattle.sctp_wire_types.specs.declared.chunk.ChunkPayloadData.{ChunkPayloadData}
use Rattle.sctp_streams.specs.declared.event.AssociationError.TheVariants as reasons
use Rattle.sctp_streams.specs.declared.setting.Setting.TheVariants as settings
use Rattle.sctp_inbound.specs.declared.handshake.Handshake.{Handshake}
use Rattle.sctp_model.specs.Packets.{mem}
use Rattle.sctp_model.proofs.Lists.{all_both, all_get, all_weaker}
use Rattle.sctp_reset_requests.specs.declared.own_request.OwnRequest.{OwnRequest}
use Rattle.sctp_reset_requests.specs.declared.own_request.SentRequest.{SentRequest}
use Rattle.sctp_reset_requests.specs.Own.{open_with}
use Rattle.sctp_resets.specs.Resets.{met_peer}
use Rattle.sctp_courses.specs.Course.{Course, Request}
use Rattle.sctp_reset_fit.specs.Keeping.{GoesOn}
use Rattle.sctp_reset_fit.proofs.Weaker.{beside_weaker}
use Rattle.sctp_directions.specs.Acts.{History, reach_in}
use Rattle.sctp_assoc.specs.declared.control.Control.{Control}
use Rattle.sctp_assoc.specs.declared.control.Control.TheVariants as controls
use Rattle.sctp_assoc.specs.Calls.{adjusted, event_polled, is_established, stopped}
use Rattle.sctp_assoc.specs.Shown.{Shown}
use Rattle.sctp_assoc.proofs.Stopping.{stop_refusal_stays}
use Rattle.sctp_sides.specs.Meeting.{Greets, IsTruthful, SaysWhatIsSo, Stage, WaitsTruthfully, stage_of}
use Rattle.sctp_sides.specs.NoReset.{HasNoReset, IsNoReconfig, IsOfNoReset}
use Rattle.sctp_sides.specs.OneSide.{Call, call_refusal, carried_out}
use Rattle.sctp_sides.specs.SideLaws.{IsWaitingToGo}
use Rattle.sctp_sides.proofs.Proved.{accepted_streams_begin_no_reset, closes_begin_no_reset}
use Rattle.sctp_sides.proofs.Proved.{endpoint_events_begin_no_reset, limits_begin_no_reset}
use Rattle.sctp_sides.proofs.Proved.{opened_streams_begin_no_reset, polls_begin_no_reset, reads_begin_no_reset}
use Rattle.sctp_sides.proofs.Proved.{settings_begin_no_reset, shutdowns_begin_no_reset, stops_are_in_established}
use Rattle.sctp_sides.proofs.Proved.{timers_begin_no_reset, told_events_begin_no_reset, writes_begin_no_reset}
use Rattle.sctp_course_sides.specs.Answers.{AnswersTruly, ChunkIsTrue, ControlIsTrue, IsOfPerformed}
use Rattle.sctp_course_sides.specs.Follows.{AwaitsIts, Follows, IsUntouched}
use Rattle.sctp_course_sides.specs.Meets.{FollowsOrAwaits}
use Rattle.sctp_course_sides.specs.Spelled.{ControlIsBeside, IsBesideStreams, WaitsBeside}
use Rattle.sctp_course_sides.proofs.FollowsWeaker.{follows_weaker}
use Rattle.sctp_course_sides.proofs.Greetings.{met_stands}
use Rattle.sctp_course_sides.proofs.OverSides.{told_left}
use Rattle.sctp_course_sides.proofs.Reaching.{within_assigned}
use Rattle.sctp_course_sides.proofs.ReceiverCalls.{await_on, follow_on}
use Rattle.sctp_course_sides.proofs.ReceiverPolls.{KeepsOn}
use Rattle.sctp_course_sides.proofs.TruthInCalls.{BringsNoPacket}

-- Where no reset is under way

chunk_is_true : (initial : ℕ) (c : Course) (k : Chunk) → IsNoReconfig k → ChunkIsTrue initial c k
chunk_is_true initial c (chunks.Reconfig reconfig) free = absurd free
chunk_is_true initial c k free = tt

control_is_true : (initial : ℕ) (c : Course) (x : Control) → IsOfNoReset x → ControlIsTrue initial c x
control_is_true initial c (controls.Packet p) free = chunk_is_true initial c p.chunk free
control_is_true initial c controls.OwnRequest free = tt

-- nothing was answered
pub no_reset_answers : (initial : ℕ) (a : Shown) (c : Course) → HasNoReset a → AnswersTruly initial a c
no_reset_answers initial a c none = record {
  own =
      subst₂
      (λ (active : Option SentRequest) (queued : List OwnRequest).
      AllByRecursion (λ (r : OwnRequest). IsOfPerformed initial c r.response_number) (open_with active queued))
      (sym none.active) (sym none.queued) tt;
  control = all_weaker IsOfNoReset (ControlIsTrue initial c) a.control (control_is_true initial c) none.control;
}

chunk_is_beside : (own : ℕ) (s : Stage) (k : Chunk) → IsNoReconfig k → SaysWhatIsSo own s k → IsBesideStreams k
chunk_is_beside own s (chunks.Data piece) free says = absurd says
chunk_is_beside own s (chunks.ForwardTsn forward) free says = absurd says
chunk_is_beside own s (chunks.IForwardTsn forward) free says = absurd says
chunk_is_beside own s (chunks.Reconfig reconfig) free says = absurd free
chunk_is_beside own s k free says = tt

control_is_beside : (own : ℕ) (s : Stage) (x : Control) → IsOfNoReset x × WaitsTruthfully own s x → ControlIsBeside x
control_is_beside own s (controls.Packet p) both = chunk_is_beside own s p.chunk both.0 both.1
control_is_beside own s controls.OwnRequest both = tt

-- what waits says nothing of streams
pub no_reset_beside : (own : ℕ) (a : Shown) → HasNoReset a → IsTruthful own a → WaitsBeside a
no_reset_beside own a none truthful =
    all_weaker (λ (x : Control). IsOfNoReset x × WaitsTruthfully own (stage_of a) x) ControlIsBeside a.control
    (control_is_beside own (stage_of a))
    (all_both IsOfNoReset (WaitsTruthfully own (stage_of a)) a.control none.control truthful.says)

chunk_greets : (own : ℕ) (s : Stage) (k : Chunk) → IsNoReconfig k → SaysWhatIsSo own s k → Greets own s k
chunk_greets own s (chunks.Reconfig reconfig) free says = absurd free
chunk_greets own s k free says = says

-- it is of the handshake
pub waiting_greets : (own : ℕ) (a : Shown) → HasNoReset a → IsTruthful own a → (chunk : Chunk) → IsWaitingToGo a chunk
    → Greets own (stage_of a) chunk
waiting_greets own a none truthful chunk (k, c, there, same) =
    subst (Greets own (stage_of a)) same
    (chunk_greets own (stage_of a) c.chunk (all_get IsOfNoReset a.control k (controls.Packet c) there none.control)
    (all_get (WaitsTruthfully own (stage_of a)) a.control k (controls.Packet c) there truthful.says))

-- Each call begins none where the side is not established.

stop_begins_none : (a : Shown) (id : ℕ) → call_refusal (Call.Stop id) a ≡ None → is_established a.state ≡ false
    → HasNoReset a → HasNoReset (stopped a id)
stop_begins_none a id e early none = ⊎_elim
    (λ (same : stopped a id ≡ a). subst HasNoReset (sym same) none)
    (λ (established : is_established a.state ≡ true). absurd (true≢false (sym established ∙ early)))
    (stops_are_in_established a id none e)

pub early_call_begins_none : (call : Call) (a : Shown) → BringsNoPacket call → call_refusal call a ≡ None
    → is_established a.state ≡ false → HasNoReset a → HasNoReset (carried_out call a).0
early_call_begins_none (Call.OpenStream id kind) a apart e early none = opened_streams_begin_no_reset a id kind none
early_call_begins_none (Call.Write id named bytes) a apart e early none = writes_begin_no_reset a id named bytes none
early_call_begins_none (Call.Set id setting) a apart e early none = settings_begin_no_reset a id setting none
early_call_begins_none Call.AcceptStream a apart e early none = accepted_streams_begin_no_reset a none
early_call_begins_none (Call.SetMaxSendMessageSize size) a apart e early none = limits_begin_no_reset a size none
early_call_begins_none Call.Shutdown a apart e early none = shutdowns_begin_no_reset a none
early_call_begins_none Call.Close a apart e early none = closes_begin_no_reset a reasons.AssociationClosed none
early_call_begins_none (Call.Read id) a apart e early none = reads_begin_no_reset a id none
early_call_begins_none Call.Poll a apart e early none =
    subst HasNoReset (sym (told_left (event_polled a))) (told_events_begin_no_reset a none)
early_call_begins_none Call.PollEndpointEvent a apart e early none = endpoint_events_begin_no_reset a none
early_call_begins_none (Call.PollTransmit now) a apart e early none = polls_begin_no_reset a now none
early_call_begins_none (Call.HandleTimeout now) a apart e early none = timers_begin_no_reset a now none
early_call_begins_none (Call.HandleEvent packet now) a apart e early none = absurd apart
early_call_begins_none (Call.Stop id) a apart e early none = stop_begins_none a id e early none
early_call_begins_none (Call.CloseStream id) a apart e early none =
    stop_begins_none (adjusted a id settings.WriteHalfClosed) id (stop_refusal_stays a id ∙ e) early
    (settings_begin_no_reset a id settings.WriteHalfClosed none)

-- Where nothing was sent

none_below : {n : ℕ} → n < 0 → ⊥
none_below l = omega arith

nothing_up_to : (n m : ℕ) → n ≤ m → m ≡ 0 → n ≡ 0
nothing_up_to n m l e = omega arith

no_requests : (performed : ℕ) (asked : List Request) → performed ≤ length asked → asked ≡ [] → performed ≡ 0
no_requests performed [] l none = omega (arith, l)
no_requests performed (q ∷ qs) l none = absurd (cc)

first_in : (x : ℕ) (xs : List ℕ) → mem x (x ∷ xs) ≡ true
first_in x xs = rw (eq-eqb x x refl) refl

none_of : (os : List ℕ) (assigned : ℕ) → assigned ≡ 0 → ((o : ℕ) → mem o os ≡ true → o < assigned) → os ≡ []
none_of [] assigned e below = refl
none_of (o ∷ os) assigned e below = absurd (none_below (subst (λ (n : ℕ). o < n) e (below o (first_in o os))))

module _ (P : ChunkPayloadData → Type 0) (initial id : ℕ) where
  -- a course that a side follows, and in which nothing was sent, is untouched
  silent_untouched : (a : Shown) (h : History) (c : Course) → Follows P initial id a h c → c.asked ≡ []
      → c.assigned ≡ 0 → IsUntouched c
  silent_untouched a h c f asked assigned = record {
    asked = asked;
    assigned = assigned;
    performed = no_requests c.performed c.asked f.stands.kept.asks.known asked;
    point = f.reached.point ∙ nothing_up_to (reach_in h) c.assigned (within_assigned P initial id a h c f) assigned;
    taken = none_of c.taken c.assigned assigned (λ o m. f.reached.assigned o (f.reached.taken o m));
  }

  -- one that a side follows or awaits, too
  pub receives_untouched : (b : Shown) (c : Course) → FollowsOrAwaits P initial id b c → c.asked ≡ []
      → c.assigned ≡ 0 → IsUntouched c
  receives_untouched b c (inr awaits) asked assigned = awaits.1.untouched
  receives_untouched b c (inl (known, h, f)) asked assigned = silent_untouched b h c f asked assigned

  -- what keeps to the course, and leaves the handshake
  pub receives_on : (a b : Shown) (c : Course) → KeepsOn P initial id a b → b.handshake ≡ a.handshake
      → FollowsOrAwaits P initial id a c
      → (d : Course) × GoesOn c d × (d.told ≡ c.told) × FollowsOrAwaits P initial id b d
  receives_on a b c keeps same (inl (known, h, f)) =
      let on = follow_on P initial id a b h c keeps f in
      (on.0, on.1, on.2, inl (ap (λ (x : Handshake). is_some x.peer_initial_tsn) same ∙ known, on.3.0, on.3.1))
  receives_on a b c keeps same (inr (unknown, w)) =
      let on = await_on P initial id a b c keeps w in
      (on.0, on.1, on.2, inr (ap (λ (x : Handshake). is_some x.peer_initial_tsn) same ∙ unknown, on.3))

-- what is so of pieces, and what follows from it
awaits_weaker : (P Q : ChunkPayloadData → Type 0) (weaker : (x : ChunkPayloadData) → P x → Q x) (initial id : ℕ)
    (a : Shown) (c : Course) → initial < 2 ^ 32 → AwaitsIts P initial id a c → AwaitsIts Q initial id a c
awaits_weaker P Q weaker initial id a c small w =
    let met = met_stands P initial id initial a c refl small w.untouched record {
      kept = w.kept;
      stands = w.stands;
      read_on = w.read_on;
    } in
    record {
      kept = w.kept;
      stands = (beside_weaker P Q weaker initial id (met_peer a.resets initial) a.streams c met).stands;
      read_on = w.read_on;
      unknown = w.unknown;
      untouched = w.untouched;
    }

pub receives_weaker : (P Q : ChunkPayloadData → Type 0) (weaker : (x : ChunkPayloadData) → P x → Q x) (initial id : ℕ)
    (a : Shown) (c : Course) → initial < 2 ^ 32 → FollowsOrAwaits P initial id a c → FollowsOrAwaits Q initial id a c
receives_weaker P Q weaker initial id a c small (inl (known, h, f)) =
    inl (known, h, follows_weaker P Q weaker initial id a h c f)
receives_weaker P Q weaker initial id a c small (inr (unknown, w)) =
    inr (unknown, awaits_weaker P Q weaker initial id a c small w)
