-- A packet closes an association exactly where one of its chunks is reached and is a cause.
use Rattle.std.proofs.Common.{◌≡◌, ◌≢◌, refl, sym, ap, ◌∙◌, subst, ℕ, zero, suc, Bool, true, false, ◌&&◌, not, List, []}
use Rattle.std.proofs.Common.{◌∷◌, Option, Some, None, Result, Ok, Err}
use Rattle.std.specs.Prelude.{slice_get}
use Rattle.std.proofs.lemmas.Bool.{false≢true}
use Rattle.sctp_wire_types.specs.Checks.{checked_chunk}
use Rattle.sctp_wire_types.specs.declared.chunk.Chunk.{Chunk}
use Rattle.sctp_wire_types.specs.declared.chunk.Chunk.TheVariants as chunks
use Rattle.sctp_wire_types.specs.declared.chunk.ChunkInit.{ChunkInit}
use Rattle.sctp_wire_types.specs.declared.error.Error.{Error}
use Rattle.sctp_wire_types.specs.declared.packet.CommonHeader.{CommonHeader}
use Rattle.sctp_parts.specs.declared.state.AssociationState.{AssociationState}
use Rattle.sctp_parts.specs.declared.state.AssociationState.TheVariants as states
use Rattle.sctp_inbound.specs.declared.receiver.AckTrigger.{AckTrigger}
use Rattle.sctp_inbound.specs.declared.receiver.AckTrigger.TheVariants as triggers
use Rattle.sctp_inbound.specs.Greeting.{first_cookie}
use Rattle.sctp_inbound.specs.Handshake.{comes_back, learned_by_init}
use Rattle.sctp_assoc.specs.declared.inbound.Flow.{Flow}
use Rattle.sctp_assoc.specs.declared.inbound.Flow.TheVariants as flows
use Rattle.sctp_assoc.specs.Leads.{Binds}
use Rattle.sctp_directions.specs.Acts.{History}
use Rattle.sctp_assoc.specs.Calls.{is_beginning, is_cookie_wait, sends_data}
use Rattle.sctp_assoc.specs.Closing.{is_closed_state}
use Rattle.sctp_sides.specs.Causes.{CausesClose, ClosingPacketsHaveCauses, IsCause, Reaches}
use Rattle.sctp_assoc.specs.Chunks.{checked_first, counted_sack, dispatched, on_chunk, on_counted_sack, on_sack}
use Rattle.sctp_assoc.specs.Handshake.{echoed, keeps_peer, learned_unless, on_init, on_init_ack}
use Rattle.sctp_sides.specs.Laws.{faults_or, is_faulted, is_faulted_packet}
use Rattle.sctp_assoc.specs.Shown.{Shown}
use Rattle.sctp_assoc.proofs.CallsLeadOn.{chunk_leads}
use Rattle.sctp_sides.proofs.FaultCauses.{cookie_ack_flow, echo_flow, faults_are_causes, heartbeat_flow, never}
use Rattle.sctp_sides.proofs.DataIntake.{exhausts_of, fault_of}
use Rattle.sctp_sides.proofs.FaultCauses.{cookie_ack_spares, echo_spares, heartbeat_spares, init_ack_spares}
use Rattle.sctp_sides.proofs.FaultCauses.{init_spares, sack_spares}
use Rattle.sctp_sides.proofs.ShutdownEnds.{ends_of, kind_ends}
use Rattle.sctp_wire_types.specs.declared.chunk.GapAckBlock.{GapAckBlock}
use Rattle.sctp_outbound.specs.declared.sender.SackOutcome.{SackOutcome}
use Rattle.sctp_outbound.specs.declared.sender.SackOutcome.TheVariants as outcomes
use Rattle.sctp_outbound.specs.Sender.{sack_outcome}
use Rattle.std.proofs.Common.{⊎_elim, inl, inr}
use Rattle.sctp_assoc.specs.Skipping.{skips_of}
use Rattle.sctp_sides.proofs.ClosingPackets.{forward_goes_on, on_data_goes_on, reconfig_goes_on}

open_state : (s : AssociationState) → s ≢ states.Closed → is_closed_state s ≡ false
open_state states.Closed n = absurd (n refl)
open_state states.CookieWait n = refl
open_state states.CookieEchoed n = refl
open_state states.Established n = refl
open_state states.ShutdownAckSent n = refl
open_state states.ShutdownPending n = refl
open_state states.ShutdownReceived n = refl
open_state states.ShutdownSent n = refl

learned_state : (keeps : Bool) (b : Shown) (init : ChunkInit) → (learned_unless keeps b init).state ≡ b.state
learned_state true b init = refl
learned_state false b init = refl

-- a fault leaves the state
fault_leaves_init : (beginning : Bool) (a : Shown) (header : CommonHeader) (init : ChunkInit) (trigger : AckTrigger)
    (error : Error) → is_beginning a.state ≡ beginning
    → fault_of (on_init a header init trigger).1 ≡ Some error → (on_init a header init trigger).0.state ≡ a.state
unfolding on_init
fault_leaves_init true a header init trigger error e f =
    rw e (learned_state (keeps_peer a init)
    (record a { handshake = learned_by_init a.handshake header init }) init)
fault_leaves_init false a header init trigger error e f = rw e refl

fault_leaves_echo : (o : Option (List ℕ)) (b : Shown) (trigger : AckTrigger) (now : ℕ) (error : Error)
    → fault_of (echoed o b trigger now).1 ≡ Some error → (echoed o b trigger now).0.state ≡ b.state
fault_leaves_echo None b trigger now error f = refl
fault_leaves_echo (Some cookie) b trigger now error f = absurd (never None error refl f)

module _ (a : Shown) (header : CommonHeader) (init : ChunkInit) (trigger : AckTrigger) (now : ℕ) (error : Error) where
  fault_leaves_init_ack : (waits back : Bool) → is_cookie_wait a.state ≡ waits
      → comes_back a.handshake header ≡ back → fault_of (on_init_ack a header init trigger now).1 ≡ Some error
      → (on_init_ack a header init trigger now).0.state ≡ a.state
  unfolding on_init_ack
  fault_leaves_init_ack true true e g f =
      let fault = rw (e, g) at f in
      rw (e, g) (fault_leaves_echo (first_cookie init.params) _ trigger now error fault)
  fault_leaves_init_ack true false e g f = rw (e, g) refl
  fault_leaves_init_ack false back e g f = rw e refl

fault_leaves_outcome : (o : SackOutcome) (b : Shown) (cumulative_tsn_ack : ℕ) (blocks : List GapAckBlock) (window : ℕ)
    (trigger : AckTrigger) (now : ℕ) (error : Error)
    → fault_of (on_counted_sack o b cumulative_tsn_ack blocks window trigger now).1 ≡ Some error
    → (on_counted_sack o b cumulative_tsn_ack blocks window trigger now).0.state ≡ b.state
fault_leaves_outcome outcomes.Older b cumulative_tsn_ack blocks window trigger now error f = refl
fault_leaves_outcome outcomes.NotInFlight b cumulative_tsn_ack blocks window trigger now error f = refl
fault_leaves_outcome outcomes.NamesTheUnsent b cumulative_tsn_ack blocks window trigger now error f = refl
fault_leaves_outcome outcomes.Taken b cumulative_tsn_ack blocks window trigger now error f =
    absurd (never None error refl f)

fault_leaves_sack : (sends : Bool) (a : Shown) (cumulative_tsn_ack : ℕ) (blocks : List GapAckBlock) (window : ℕ)
    (trigger : AckTrigger) (now : ℕ) (error : Error) → sends_data a.state ≡ sends
    → fault_of (on_sack a cumulative_tsn_ack blocks window trigger now).1 ≡ Some error
    → (on_sack a cumulative_tsn_ack blocks window trigger now).0.state ≡ a.state
unfolding on_sack
fault_leaves_sack true a cumulative_tsn_ack blocks window trigger now error e f =
    let fault = rw e at f in
    rw e (fault_leaves_outcome (sack_outcome a.sender cumulative_tsn_ack blocks) (counted_sack a) cumulative_tsn_ack
    blocks window trigger now error fault)
fault_leaves_sack false a cumulative_tsn_ack blocks window trigger now error e f = rw e refl

fault_leaves_kind : (header : CommonHeader) (c : Chunk) (a : Shown) (trigger : AckTrigger) (now : ℕ) (error : Error)
    → fault_of (dispatched a header c trigger now).1 ≡ Some error
    → (dispatched a header c trigger now).0.state ≡ a.state
unfolding on_chunk
fault_leaves_kind header (chunks.Data piece) a trigger now error f =
    (on_data_goes_on a piece _).state
fault_leaves_kind header (chunks.SelectiveAck sack) a trigger now error f =
    fault_leaves_sack (sends_data a.state) a sack.cumulative_tsn_ack sack.gap_ack_blocks
    sack.advertised_receiver_window_credit trigger now error refl f
fault_leaves_kind header (chunks.Init x) a trigger now error f =
    fault_leaves_init (is_beginning a.state) a header x trigger error refl f
fault_leaves_kind header (chunks.InitAck x) a trigger now error f =
    fault_leaves_init_ack a header x trigger now error (is_cookie_wait a.state) (comes_back a.handshake header)
    refl refl f
fault_leaves_kind header (chunks.CookieEcho x) a trigger now error f =
    absurd (never _ error (echo_flow _ _ _ a x trigger refl refl refl) f)
fault_leaves_kind header chunks.CookieAck a trigger now error f =
    absurd (never _ error (cookie_ack_flow _ a trigger refl) f)
fault_leaves_kind header (chunks.Heartbeat x) a trigger now error f =
    absurd (never _ error (heartbeat_flow a x trigger) f)
fault_leaves_kind header (chunks.ForwardTsn x) a trigger now error f =
    (forward_goes_on a x.new_cumulative_tsn x.streams trigger now).state
fault_leaves_kind header (chunks.IForwardTsn x) a trigger now error f =
    (forward_goes_on a x.new_cumulative_tsn (skips_of x.entries) trigger now).state
fault_leaves_kind header (chunks.Reconfig x) a trigger now error f =
    (reconfig_goes_on a x trigger).state
fault_leaves_kind header (chunks.Shutdown x) a trigger now error f = absurd (never None error refl f)
fault_leaves_kind header c a trigger now error f = refl

fault_leaves_checked : (r : Result (Unit {0}) Error) (header : CommonHeader) (c : Chunk) (a : Shown)
    (trigger : AckTrigger) (now : ℕ) (error : Error)
    → fault_of (checked_first r a header c trigger now).1 ≡ Some error
    → (checked_first r a header c trigger now).0.state ≡ a.state
fault_leaves_checked (Err fault) header c a trigger now error f = refl
fault_leaves_checked (Ok done) header c a trigger now error f = fault_leaves_kind header c a trigger now error f

fault_leaves_state : (header : CommonHeader) (c : Chunk) (a : Shown) (trigger : AckTrigger) (now : ℕ) (error : Error)
    → fault_of (on_chunk a header c trigger now).1 ≡ Some error
    → (on_chunk a header c trigger now).0.state ≡ a.state
unfolding on_chunk
fault_leaves_state header c a trigger now error f =
    fault_leaves_checked (checked_chunk c) header c a trigger now error f

-- so does an exhausted receive buffer, of which DATA and FORWARD TSN alone tell
exhaustion_leaves_kind : (header : CommonHeader) (c : Chunk) (a : Shown) (trigger : AckTrigger) (now : ℕ)
    → exhausts_of (dispatched a header c trigger now).1 ≡ true
    → (dispatched a header c trigger now).0.state ≡ a.state
unfolding on_chunk
exhaustion_leaves_kind header (chunks.Data piece) a trigger now e =
    (on_data_goes_on a piece _).state
exhaustion_leaves_kind header (chunks.SelectiveAck sack) a trigger now e =
    absurd (false≢true (sym (sack_spares _ a sack.cumulative_tsn_ack sack.gap_ack_blocks
    sack.advertised_receiver_window_credit trigger now refl) ∙ e))
exhaustion_leaves_kind header (chunks.Init x) a trigger now e =
    absurd (false≢true (sym (init_spares _ a header x trigger refl) ∙ e))
exhaustion_leaves_kind header (chunks.InitAck x) a trigger now e =
    absurd (false≢true (sym (init_ack_spares _ _ a header x trigger now refl refl) ∙ e))
exhaustion_leaves_kind header (chunks.CookieEcho x) a trigger now e =
    absurd (false≢true (sym (echo_spares _ _ _ a x trigger refl refl refl) ∙ e))
exhaustion_leaves_kind header chunks.CookieAck a trigger now e =
    absurd (false≢true (sym (cookie_ack_spares _ a trigger refl) ∙ e))
exhaustion_leaves_kind header (chunks.Heartbeat x) a trigger now e =
    absurd (false≢true (sym (heartbeat_spares a x trigger) ∙ e))
exhaustion_leaves_kind header (chunks.ForwardTsn x) a trigger now e =
    (forward_goes_on a x.new_cumulative_tsn x.streams trigger now).state
exhaustion_leaves_kind header (chunks.IForwardTsn x) a trigger now e =
    (forward_goes_on a x.new_cumulative_tsn (skips_of x.entries) trigger now).state
exhaustion_leaves_kind header (chunks.Reconfig x) a trigger now e =
    (reconfig_goes_on a x trigger).state
exhaustion_leaves_kind header (chunks.Shutdown x) a trigger now e = absurd (false≢true e)
exhaustion_leaves_kind header c a trigger now e = refl

exhaustion_leaves_checked : (r : Result (Unit {0}) Error) (header : CommonHeader) (c : Chunk) (a : Shown)
    (trigger : AckTrigger) (now : ℕ) → exhausts_of (checked_first r a header c trigger now).1 ≡ true
    → (checked_first r a header c trigger now).0.state ≡ a.state
exhaustion_leaves_checked (Err fault) header c a trigger now e = refl
exhaustion_leaves_checked (Ok done) header c a trigger now e = exhaustion_leaves_kind header c a trigger now e

exhaustion_leaves_state : (header : CommonHeader) (c : Chunk) (a : Shown) (trigger : AckTrigger) (now : ℕ)
    → exhausts_of (on_chunk a header c trigger now).1 ≡ true
    → (on_chunk a header c trigger now).0.state ≡ a.state
unfolding on_chunk
exhaustion_leaves_state header c a trigger now e =
    exhaustion_leaves_checked (checked_chunk c) header c a trigger now e

-- so does the end of a shutdown
ending_leaves_kind : (header : CommonHeader) (c : Chunk) (a : Shown) (trigger : AckTrigger) (now : ℕ)
    → c ≡ chunks.ShutdownComplete → (dispatched a header c trigger now).0.state ≡ a.state
ending_leaves_kind header c a trigger now e =
    subst (λ (z : Chunk). (dispatched a header z trigger now).0.state ≡ a.state) (sym e) refl

ending_leaves_checked : (r : Result (Unit {0}) Error) (header : CommonHeader) (c : Chunk) (a : Shown)
    (trigger : AckTrigger) (now : ℕ) → ends_of (checked_first r a header c trigger now).1 ≡ true
    → (checked_first r a header c trigger now).0.state ≡ a.state
ending_leaves_checked (Err fault) header c a trigger now e = refl
ending_leaves_checked (Ok done) header c a trigger now e =
    ending_leaves_kind header c a trigger now (kind_ends header c a trigger now e).complete

ending_leaves_state : (header : CommonHeader) (c : Chunk) (a : Shown) (trigger : AckTrigger) (now : ℕ)
    → ends_of (on_chunk a header c trigger now).1 ≡ true
    → (on_chunk a header c trigger now).0.state ≡ a.state
unfolding on_chunk
ending_leaves_state header c a trigger now e = ending_leaves_checked (checked_chunk c) header c a trigger now e

-- One of these chunks is reached while the association is open, and is a cause.
record CauseAmong (header : CommonHeader) (cs : List Chunk) (a : Shown) (trigger : AckTrigger) (now : ℕ) : Type 0 where
  index : ℕ
  chunk : Chunk
  reached : Shown
  there : slice_get cs index ≡ Some chunk
  reaches : Reaches header cs a trigger now index reached
  still_open : reached.state ≢ states.Closed
  stands : History
  binds : Binds reached stands
  is_cause : (h : History) → Binds reached h → IsCause reached h header chunk

-- The first of these chunks is a cause, or leads to the others.
module _ (header : CommonHeader) (c : Chunk) (cs : List Chunk) (a : Shown) (trigger : AckTrigger) (now : ℕ) where
  first_is : (b : Shown) (h : History) → Binds a h → b.state ≡ a.state → not (is_closed_state b.state) ≡ true
      → ((k : History) → Binds a k → IsCause a k header c) → CauseAmong header (c ∷ cs) a trigger now
  first_is b h binds same n is_one = record {
    index = 0;
    chunk = c;
    reached = a;
    there = refl;
    reaches = refl;
    still_open =
        λ closed. false≢true (sym (ap (λ (s : AssociationState). not (is_closed_state s)) (same ∙ closed)) ∙ n);
    stands = h;
    binds = binds;
    is_cause = is_one;
  }

  cause_here : (b : Shown) (h : History) (error : Error) → Binds a h
      → on_chunk a header c trigger now ≡ (b, flows.Fault error) → not (is_closed_state b.state) ≡ true
      → CauseAmong header (c ∷ cs) a trigger now
  cause_here b h error binds e n =
      let fault : (on_chunk a header c trigger now).1 ≡ flows.Fault error = ap (λ (x : Shown × Flow). x.1) e in
      let same : b.state ≡ a.state =
      sym (ap (λ (x : Shown × Flow). x.0.state) e)
      ∙ fault_leaves_state header c a trigger now error (ap fault_of fault) in
      first_is b h binds same n (λ k stands. (faults_are_causes a k header c trigger now stands).0 (inl (error, fault)))

  exhaustion_here : (b : Shown) (h : History) → Binds a h
      → on_chunk a header c trigger now ≡ (b, flows.Exhausted) → not (is_closed_state b.state) ≡ true
      → CauseAmong header (c ∷ cs) a trigger now
  exhaustion_here b h binds e n =
      let exhausted : (on_chunk a header c trigger now).1 ≡ flows.Exhausted = ap (λ (x : Shown × Flow). x.1) e in
      let same : b.state ≡ a.state =
      sym (ap (λ (x : Shown × Flow). x.0.state) e)
      ∙ exhaustion_leaves_state header c a trigger now (ap exhausts_of exhausted) in
      first_is b h binds same n
      (λ k stands. (faults_are_causes a k header c trigger now stands).0 (inr (inr exhausted)))

  ending_here : (b : Shown) (h : History) → Binds a h
      → on_chunk a header c trigger now ≡ (b, flows.Closed) → not (is_closed_state b.state) ≡ true
      → CauseAmong header (c ∷ cs) a trigger now
  ending_here b h binds e n =
      let ended : (on_chunk a header c trigger now).1 ≡ flows.Closed = ap (λ (x : Shown × Flow). x.1) e in
      let same : b.state ≡ a.state =
      sym (ap (λ (x : Shown × Flow). x.0.state) e)
      ∙ ending_leaves_state header c a trigger now (ap ends_of ended) in
      first_is b h binds same n (λ k stands. (faults_are_causes a k header c trigger now stands).0 (inr (inl ended)))

  cause_on : (b : Shown) (next : AckTrigger) → on_chunk a header c trigger now ≡ (b, flows.Next next)
      → CauseAmong header cs b next now → CauseAmong header (c ∷ cs) a trigger now
  cause_on b next e m = record {
    index = suc m.index;
    chunk = m.chunk;
    reached = m.reached;
    there = m.there;
    reaches = (b, next, e, m.reaches);
    still_open = m.still_open;
    stands = m.stands;
    binds = m.binds;
    is_cause = m.is_cause;
  }

  cause_step : (x : Shown × Flow) (h k : History) → Binds a h → on_chunk a header c trigger now ≡ x → Binds x.0 k
      → faults_or x (λ b next. is_faulted header cs b next now) ≡ true
      → ((b : Shown) (next : AckTrigger) → Binds b k → is_faulted header cs b next now ≡ true
      → CauseAmong header cs b next now) → CauseAmong header (c ∷ cs) a trigger now
  cause_step (b, flows.Next next) h k binds e stands f more = cause_on b next e (more b next stands f)
  cause_step (b, flows.Fault error) h k binds e stands f more = cause_here b h error binds e f
  cause_step (b, flows.Closed) h k binds e stands f more = ending_here b h binds e f
  cause_step (b, flows.Exhausted) h k binds e stands f more = exhaustion_here b h binds e f

module _ (header : CommonHeader) (now : ℕ) where
  cause_among : (cs : List Chunk) (a : Shown) (h : History) (trigger : AckTrigger)
      → Binds a h → is_faulted header cs a trigger now ≡ true
      → CauseAmong header cs a trigger now
  cause_among [] a h trigger binds f = absurd (false≢true f)
  cause_among (c ∷ cs) a h trigger binds f =
      let next = chunk_leads header c a trigger now h binds in
      cause_step header c cs a trigger now (on_chunk a header c trigger now) h next.0 binds refl next.1.binds f
      (λ b wished stands g.
      cause_among cs b next.0 wished stands g)

closes_by : (lost faulted : Bool) → (not lost && faulted) ≡ true → faulted ≡ true
closes_by true faulted e = absurd (false≢true e)
closes_by false faulted e = e

pub closing_packets_have_causes : ClosingPacketsHaveCauses
closing_packets_have_causes a h packet now binds e =
    let f = closes_by a.lost (is_faulted_packet a (Some packet) now) e in
    let m = cause_among packet.common_header now packet.chunks a h triggers.None binds f in
    record {
      index = m.index;
      chunk = m.chunk;
      reached = m.reached;
      is_reached = record { there = m.there; reaches = m.reaches; still_open = m.still_open };
      stands = m.stands;
      binds = m.binds;
      is_cause = m.is_cause;
    }

fault_counts : (x : Shown × Flow) (more : Shown → AckTrigger → Bool) (error : Error) → fault_of x.1 ≡ Some error
    → is_closed_state x.0.state ≡ false → faults_or x more ≡ true
fault_counts (b, flows.Next trigger) more error e f = absurd (never None error refl e)
fault_counts (b, flows.Fault fault) more error e f = rw f refl
fault_counts (b, flows.Closed) more error e f = absurd (never None error refl e)
fault_counts (b, flows.Exhausted) more error e f = absurd (never None error refl e)

exhaustion_counts : (x : Shown × Flow) (more : Shown → AckTrigger → Bool) → exhausts_of x.1 ≡ true
    → is_closed_state x.0.state ≡ false → faults_or x more ≡ true
exhaustion_counts (b, flows.Next trigger) more e f = absurd (false≢true e)
exhaustion_counts (b, flows.Fault fault) more e f = absurd (false≢true e)
exhaustion_counts (b, flows.Closed) more e f = absurd (false≢true e)
exhaustion_counts (b, flows.Exhausted) more e f = rw f refl

ending_counts : (x : Shown × Flow) (more : Shown → AckTrigger → Bool) → ends_of x.1 ≡ true
    → is_closed_state x.0.state ≡ false → faults_or x more ≡ true
ending_counts (b, flows.Next trigger) more e f = absurd (false≢true e)
ending_counts (b, flows.Fault fault) more e f = absurd (false≢true e)
ending_counts (b, flows.Closed) more e f = rw f refl
ending_counts (b, flows.Exhausted) more e f = absurd (false≢true e)

abbrev chunk_or : Chunk → Option Chunk → Chunk
chunk_or other None = other
chunk_or other (Some chunk) = chunk

module _ (header : CommonHeader) (chunk : Chunk) (reached : Shown) (h : History) (now : ℕ)
    (opened : reached.state ≢ states.Closed) (binds : Binds reached h) (cause : IsCause reached h header chunk) where
  caused : (cs : List Chunk) (index : ℕ) (a : Shown) (trigger : AckTrigger) → slice_get cs index ≡ Some chunk
      → Reaches header cs a trigger now index reached → is_faulted header cs a trigger now ≡ true
  caused [] index a trigger there reaches = absurd reaches
  caused (c ∷ cs) zero a trigger there reaches =
      let here : chunk ≡ c = sym (ap (chunk_or c) there) in
      let stands : Binds a h = subst (λ (z : Shown). Binds z h) reaches binds in
      let is_cause : IsCause a h header c =
      subst (λ (z : Shown). IsCause z h header c) reaches
      (subst (λ (z : Chunk). IsCause reached h header z) here cause) in
      let was_open : is_closed_state a.state ≡ false =
      ap is_closed_state (sym (ap (λ (z : Shown). z.state) reaches)) ∙ open_state reached.state opened in
      ⊎_elim
      (λ (fault : (error : Error) × ((on_chunk a header c trigger now).1 ≡ flows.Fault error)).
      fault_counts (on_chunk a header c trigger now) (λ b next. is_faulted header cs b next now) fault.0
      (ap fault_of fault.1)
      (ap is_closed_state (fault_leaves_state header c a trigger now fault.0 (ap fault_of fault.1)) ∙ was_open))
      (⊎_elim
      (λ (ended : (on_chunk a header c trigger now).1 ≡ flows.Closed).
      ending_counts (on_chunk a header c trigger now) (λ b next. is_faulted header cs b next now) (ap ends_of ended)
      (ap is_closed_state (ending_leaves_state header c a trigger now (ap ends_of ended)) ∙ was_open))
      (λ (exhausted : (on_chunk a header c trigger now).1 ≡ flows.Exhausted).
      exhaustion_counts (on_chunk a header c trigger now) (λ b next. is_faulted header cs b next now)
      (ap exhausts_of exhausted)
      (ap is_closed_state (exhaustion_leaves_state header c a trigger now (ap exhausts_of exhausted)) ∙ was_open)))
      ((faults_are_causes a h header c trigger now stands).1 is_cause)
  caused (c ∷ cs) (suc index) a trigger there (b, next, e, reaches) =
      ap (λ (x : Shown × Flow). faults_or x (λ d wished. is_faulted header cs d wished now)) e
      ∙ caused cs index b next there reaches

closes_unless : (lost faulted : Bool) → lost ≡ false → faulted ≡ true → (not lost && faulted) ≡ true
closes_unless lost faulted e f = rw (e, f) refl

pub causes_close : CausesClose
causes_close a packet now index chunk reached h =
    λ present r binds cause.
    let faulted = caused packet.common_header chunk reached h now r.still_open binds cause in
    closes_unless a.lost (is_faulted_packet a (Some packet) now) present
    (faulted packet.chunks index a triggers.None r.there r.reaches)
