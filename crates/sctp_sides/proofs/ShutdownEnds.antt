-- SHUTDOWN COMPLETE alone ends a shutdown, in ShutdownAckSent, and is no fault.
use Rattle.std.proofs.Common.{◌≡◌, refl, sym, ◌∙◌, ℕ, Bool, true, false, ◌&&◌, if◌then◌else◌, List, Option, Some}
use Rattle.std.proofs.Common.{None}
use Rattle.std.proofs.lemmas.Bool.{false≢true}
use Rattle.sctp_wire_types.specs.declared.chunk.Chunk.{Chunk}
use Rattle.sctp_wire_types.specs.declared.chunk.Chunk.TheVariants as chunks
use Rattle.sctp_wire_types.specs.declared.chunk.ChunkHeartbeat.{ChunkHeartbeat}
use Rattle.sctp_wire_types.specs.declared.chunk.ChunkInit.{ChunkInit}
use Rattle.sctp_wire_types.specs.declared.chunk.ChunkPayloadData.{ChunkPayloadData}
use Rattle.sctp_wire_types.specs.declared.chunk.ChunkReconfig.{ChunkReconfig}
use Rattle.sctp_wire_types.specs.declared.chunk.GapAckBlock.{GapAckBlock}
use Rattle.sctp_wire_types.specs.declared.chunk.SkippedStream.{SkippedStream}
use Rattle.sctp_wire_types.specs.declared.error.Error.{Error}
use Rattle.sctp_wire_types.specs.declared.error.Error.TheVariants as errors
use Rattle.sctp_wire_types.specs.Config.{is_rfc}
use Rattle.sctp_wire_types.specs.declared.packet.CommonHeader.{CommonHeader}
use Rattle.sctp_wire_types.specs.declared.param.Param.{Param}
use Rattle.sctp_parts.specs.declared.state.AssociationState.{AssociationState}
use Rattle.sctp_parts.specs.declared.state.AssociationState.TheVariants as states
use Rattle.sctp_inbound.specs.declared.receiver.AckTrigger.{AckTrigger}
use Rattle.sctp_inbound.specs.Greeting.{first_cookie}
use Rattle.sctp_inbound.specs.Handshake.{comes_back, has_issued}
use Rattle.sctp_inbound.specs.Receiver.{asked, is_new_to}
use Rattle.sctp_outbound.specs.declared.sender.SackOutcome.{SackOutcome}
use Rattle.sctp_outbound.specs.declared.sender.SackOutcome.TheVariants as outcomes
use Rattle.sctp_outbound.specs.Sender.{sack_outcome}
use Rattle.sctp_resets.specs.Resets.{is_hidden}
use Rattle.sctp_assoc.specs.declared.inbound.Flow.{Flow}
use Rattle.sctp_assoc.specs.declared.inbound.Flow.TheVariants as flows
use Rattle.sctp_assoc.specs.Calls.{is_beginning, is_cookie_echoed, is_cookie_wait, sends_data}
use Rattle.sctp_assoc.specs.Chunks.{asks, asks_or_faults, deferred_where_admitted, dispatched, on_counted_data}
use Rattle.sctp_assoc.specs.Chunks.{is_skippable, on_counted_sack, passed_over}
use Rattle.sctp_assoc.specs.Chunks.{on_data, on_new_data, on_sack, stream_found, taken_where_admitted}
use Rattle.sctp_assoc.specs.Closing.{is_exhausted}
use Rattle.sctp_assoc.specs.Handshake.{acknowledges_again, echoed, on_cookie_ack, on_cookie_echo, on_heartbeat}
use Rattle.sctp_assoc.specs.Handshake.{on_init, on_init_ack}
use Rattle.sctp_assoc.specs.Resets.{after_param, behind_first, behind_params, on_reconfig, settled}
use Rattle.sctp_assoc.specs.Shown.{Shown}
use Rattle.sctp_assoc.specs.Shutdown.{on_shutdown_complete}
use Rattle.sctp_assoc.specs.Skipping.{on_forward, skips_of, with_passed, with_skips}
use Rattle.sctp_sides.proofs.DataIntake.{exhausts_of, fault_of}
use Rattle.sctp_sides.proofs.ForwardKinds.{forward_is_one_of}

-- a flow ends a shutdown
abbrev pub ends_of : Flow → Bool
ends_of (flows.Next trigger) = false
ends_of (flows.Fault error) = false
ends_of flows.Closed = true
ends_of flows.Exhausted = false

pub ends_from : (f : Flow) → ends_of f ≡ true → f ≡ flows.Closed
ends_from (flows.Next trigger) e = absurd (false≢true e)
ends_from (flows.Fault error) e = absurd (false≢true e)
ends_from flows.Closed e = refl
ends_from flows.Exhausted e = absurd (false≢true e)

-- SHUTDOWN COMPLETE

pub complete_ends : (s : AssociationState) (trigger : AckTrigger) → ends_of (on_shutdown_complete s trigger) ≡ true
    → s ≡ states.ShutdownAckSent
complete_ends states.Closed trigger e = absurd (false≢true e)
complete_ends states.CookieWait trigger e = absurd (false≢true e)
complete_ends states.CookieEchoed trigger e = absurd (false≢true e)
complete_ends states.Established trigger e = absurd (false≢true e)
complete_ends states.ShutdownAckSent trigger e = refl
complete_ends states.ShutdownPending trigger e = absurd (false≢true e)
complete_ends states.ShutdownReceived trigger e = absurd (false≢true e)
complete_ends states.ShutdownSent trigger e = absurd (false≢true e)

pub complete_flow : (s : AssociationState) (trigger : AckTrigger) → fault_of (on_shutdown_complete s trigger) ≡ None
complete_flow states.Closed trigger = refl
complete_flow states.CookieWait trigger = refl
complete_flow states.CookieEchoed trigger = refl
complete_flow states.Established trigger = refl
complete_flow states.ShutdownAckSent trigger = refl
complete_flow states.ShutdownPending trigger = refl
complete_flow states.ShutdownReceived trigger = refl
complete_flow states.ShutdownSent trigger = refl

pub complete_spares : (s : AssociationState) (trigger : AckTrigger)
    → exhausts_of (on_shutdown_complete s trigger) ≡ false
complete_spares states.Closed trigger = refl
complete_spares states.CookieWait trigger = refl
complete_spares states.CookieEchoed trigger = refl
complete_spares states.Established trigger = refl
complete_spares states.ShutdownAckSent trigger = refl
complete_spares states.ShutdownPending trigger = refl
complete_spares states.ShutdownReceived trigger = refl
complete_spares states.ShutdownSent trigger = refl

-- DATA

asks_if_ends_none : (e : Bool) (a : Shown) (t : AckTrigger)
    → ends_of (if◌then◌else◌ {A = Shown × Flow} e (a, flows.Exhausted) (a, flows.Next t)).1 ≡ false
asks_if_ends_none true a t = refl
asks_if_ends_none false a t = refl

asks_ends_none : (a : Shown) (immediate : Bool) (trigger : AckTrigger)
    → ends_of (asks a immediate trigger).1 ≡ false
asks_ends_none a immediate trigger =
    asks_if_ends_none (is_exhausted a) a (asked a.receiver trigger immediate)

behind_ends_none : (x : Shown × Option Error) (immediate : Bool) (trigger : AckTrigger)
    → ends_of (asks_or_faults x immediate trigger).1 ≡ false
behind_ends_none (b, None) immediate trigger = asks_ends_none (settled b) immediate trigger
behind_ends_none (b, Some fault) immediate trigger = refl

new_data_ends_none : (x : Shown × Bool) (piece : ChunkPayloadData) (trigger : AckTrigger)
    → ends_of (on_new_data x piece trigger).1 ≡ false
new_data_ends_none (b, false) piece trigger = refl
new_data_ends_none (b, true) piece trigger =
    behind_ends_none (taken_where_admitted b piece) piece.immediate_sack trigger

counted_data_ends_none : (new hidden : Bool) (b : Shown) (piece : ChunkPayloadData) (trigger : AckTrigger)
    → is_new_to b.receiver piece.tsn ≡ new → is_hidden b.resets piece.stream_identifier piece.tsn ≡ hidden
    → ends_of (on_counted_data b piece trigger).1 ≡ false
counted_data_ends_none false hidden b piece trigger e f =
    rw e (asks_ends_none (settled b) piece.immediate_sack trigger)
counted_data_ends_none true true b piece trigger e f =
    rw (e, f) (behind_ends_none (deferred_where_admitted b piece) piece.immediate_sack trigger)
counted_data_ends_none true false b piece trigger e f =
    rw (e, f) (new_data_ends_none (stream_found b piece.stream_identifier) piece trigger)

pub data_ends_none : (a : Shown) (piece : ChunkPayloadData) (trigger : AckTrigger)
    → ends_of (on_data a piece trigger).1 ≡ false
unfolding on_data
data_ends_none a piece trigger = counted_data_ends_none _ _ _ piece trigger refl refl

-- SACK

outcome_ends_none : (o : SackOutcome) (b : Shown) (cumulative_tsn_ack : ℕ) (blocks : List GapAckBlock) (window : ℕ)
    (trigger : AckTrigger) (now : ℕ)
    → ends_of (on_counted_sack o b cumulative_tsn_ack blocks window trigger now).1 ≡ false
outcome_ends_none outcomes.Older b cumulative_tsn_ack blocks window trigger now = refl
outcome_ends_none outcomes.NotInFlight b cumulative_tsn_ack blocks window trigger now = refl
outcome_ends_none outcomes.NamesTheUnsent b cumulative_tsn_ack blocks window trigger now = refl
outcome_ends_none outcomes.Taken b cumulative_tsn_ack blocks window trigger now = refl

pub sack_ends_none : (sends : Bool) (a : Shown) (cumulative_tsn_ack : ℕ) (blocks : List GapAckBlock) (window : ℕ)
    (trigger : AckTrigger) (now : ℕ) → sends_data a.state ≡ sends
    → ends_of (on_sack a cumulative_tsn_ack blocks window trigger now).1 ≡ false
unfolding on_sack
sack_ends_none true a cumulative_tsn_ack blocks window trigger now e =
    rw e (outcome_ends_none (sack_outcome a.sender cumulative_tsn_ack blocks) _ cumulative_tsn_ack blocks window trigger
    now)
sack_ends_none false a cumulative_tsn_ack blocks window trigger now e = rw e refl

-- FORWARD TSN

pub forward_ends_none : (a : Shown) (t : ℕ) (es : List SkippedStream) (trigger : AckTrigger) (now : ℕ)
    → ends_of (on_forward a t es trigger now).1 ≡ false
forward_ends_none a t es trigger now =
    forward_is_one_of t es (λ b x. ends_of x.1 ≡ false) trigger now (λ b e. refl) (λ b e f. refl)
    (λ b e f. let c : Shown = settled (with_passed (with_skips t es b) t) in
    asks_if_ends_none (is_exhausted c) c (asked c.receiver trigger false))
    (λ b x e. e) a

-- RE-CONFIG

params_end_none : (x : Shown × Bool) (trigger : AckTrigger) → ends_of (behind_params x trigger).1 ≡ false
params_end_none (b, true) trigger = refl
params_end_none (b, false) trigger = refl

first_ends_none : (x : Shown × Bool) (second : Option Param) (trigger : AckTrigger)
    → ends_of (behind_first x second trigger).1 ≡ false
first_ends_none (b, true) None trigger = refl
first_ends_none (b, true) (Some param) trigger = params_end_none (after_param param b) trigger
first_ends_none (b, false) second trigger = refl

pub reconfig_ends_none : (a : Shown) (x : ChunkReconfig) (trigger : AckTrigger)
    → ends_of (on_reconfig a x trigger).1 ≡ false
unfolding on_reconfig
reconfig_ends_none a x trigger = first_ends_none (after_param x.first a) x.second trigger

-- The handshake

pub init_ends_none : (beginning : Bool) (a : Shown) (header : CommonHeader) (init : ChunkInit) (trigger : AckTrigger)
    → is_beginning a.state ≡ beginning → ends_of (on_init a header init trigger).1 ≡ false
unfolding on_init
init_ends_none true a header init trigger e = rw e refl
init_ends_none false a header init trigger e = rw e refl

echoed_ends_none : (o : Option (List ℕ)) (b : Shown) (trigger : AckTrigger) (now : ℕ)
    → ends_of (echoed o b trigger now).1 ≡ false
echoed_ends_none None b trigger now = refl
echoed_ends_none (Some cookie) b trigger now = refl

pub init_ack_ends_none : (waits back : Bool) (a : Shown) (header : CommonHeader) (init : ChunkInit)
    (trigger : AckTrigger) (now : ℕ) → is_cookie_wait a.state ≡ waits → comes_back a.handshake header ≡ back
    → ends_of (on_init_ack a header init trigger now).1 ≡ false
unfolding on_init_ack
init_ack_ends_none true true a header init trigger now e f =
    rw (e, f) (echoed_ends_none (first_cookie init.params) _ trigger now)
init_ack_ends_none true false a header init trigger now e f = rw (e, f) refl
init_ack_ends_none false back a header init trigger now e f = rw e refl

pub echo_ends_none : (issued beginning again : Bool) (a : Shown) (cookie : List ℕ) (trigger : AckTrigger)
    → has_issued a.handshake cookie ≡ issued
    → is_beginning a.state ≡ beginning → acknowledges_again a ≡ again
    → ends_of (on_cookie_echo a cookie trigger).1 ≡ false
unfolding on_cookie_echo
echo_ends_none false beginning again a cookie trigger e f g = rw e refl
echo_ends_none true true again a cookie trigger e f g = rw (e, f) refl
echo_ends_none true false true a cookie trigger e f g = rw (e, f, g) refl
echo_ends_none true false false a cookie trigger e f g = rw (e, f, g) refl

pub cookie_ack_ends_none : (echoes : Bool) (a : Shown) (trigger : AckTrigger) → is_cookie_echoed a.state ≡ echoes
    → ends_of (on_cookie_ack a trigger).1 ≡ false
unfolding on_cookie_ack
cookie_ack_ends_none true a trigger e = rw e refl
cookie_ack_ends_none false a trigger e = rw e refl

pub heartbeat_ends_none : (a : Shown) (heartbeat : ChunkHeartbeat) (trigger : AckTrigger)
    → ends_of (on_heartbeat a heartbeat trigger).1 ≡ false
unfolding on_heartbeat
heartbeat_ends_none a heartbeat trigger = refl

-- Any chunk

-- it is a SHUTDOWN COMPLETE that answers SHUTDOWN ACK
pub record EndsShutdown (c : Chunk) (a : Shown) : Type 0 where
  pub complete : c ≡ chunks.ShutdownComplete
  pub awaited : a.state ≡ states.ShutdownAckSent

passed_ends_none : (passes : Bool) (fault : Error) (trigger : AckTrigger)
    → ends_of (passed_over passes fault trigger) ≡ false
passed_ends_none true fault trigger = refl
passed_ends_none false fault trigger = refl

pub kind_ends : (header : CommonHeader) (c : Chunk) (a : Shown) (trigger : AckTrigger) (now : ℕ)
    → ends_of (dispatched a header c trigger now).1 ≡ true → EndsShutdown c a
kind_ends header (chunks.Data piece) a trigger now e =
    absurd (false≢true (sym (data_ends_none a piece _) ∙ e))
kind_ends header (chunks.SelectiveAck sack) a trigger now e =
    absurd (false≢true (sym (sack_ends_none _ a sack.cumulative_tsn_ack sack.gap_ack_blocks
    sack.advertised_receiver_window_credit trigger now refl) ∙ e))
kind_ends header (chunks.Init x) a trigger now e =
    absurd (false≢true (sym (init_ends_none _ a header x trigger refl) ∙ e))
kind_ends header (chunks.InitAck x) a trigger now e =
    absurd (false≢true (sym (init_ack_ends_none _ _ a header x trigger now refl refl) ∙ e))
kind_ends header (chunks.CookieEcho x) a trigger now e =
    absurd (false≢true (sym (echo_ends_none _ _ _ a x trigger refl refl refl) ∙ e))
kind_ends header chunks.CookieAck a trigger now e =
    absurd (false≢true (sym (cookie_ack_ends_none _ a trigger refl) ∙ e))
kind_ends header (chunks.Heartbeat x) a trigger now e =
    absurd (false≢true (sym (heartbeat_ends_none a x trigger) ∙ e))
kind_ends header (chunks.ForwardTsn x) a trigger now e =
    absurd (false≢true (sym (forward_ends_none a x.new_cumulative_tsn x.streams trigger now) ∙ e))
kind_ends header (chunks.IForwardTsn x) a trigger now e =
    absurd (false≢true (sym (forward_ends_none a x.new_cumulative_tsn (skips_of x.entries) trigger now) ∙ e))
kind_ends header (chunks.Reconfig x) a trigger now e =
    absurd (false≢true (sym (reconfig_ends_none a x trigger) ∙ e))
kind_ends header (chunks.Shutdown x) a trigger now e = absurd (false≢true e)
kind_ends header chunks.ShutdownAck a trigger now e = absurd (false≢true e)
kind_ends header chunks.ShutdownComplete a trigger now e =
    record { complete = refl; awaited = complete_ends a.state trigger e }
kind_ends header (chunks.Error x) a trigger now e =
    absurd (false≢true (sym (passed_ends_none (is_rfc a.profile) errors.ErrAbortChunk trigger) ∙ e))
kind_ends header (chunks.HeartbeatAck x) a trigger now e =
    absurd (false≢true (sym (passed_ends_none (is_rfc a.profile) errors.ErrChunkTypeUnhandled trigger) ∙ e))
kind_ends header (chunks.Other kind flags value) a trigger now e =
    absurd (false≢true (sym (passed_ends_none (is_skippable kind && is_rfc a.profile) errors.ErrChunkTypeUnhandled
    trigger) ∙ e))
kind_ends header (chunks.Abort x) a trigger now e = absurd (false≢true e)
