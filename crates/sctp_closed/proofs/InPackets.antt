-- Resets go on to concern some streams alone, and what the rules keep stays so, over a packet whose requests to reset
-- streams name these alone. What else a RE-CONFIG of the peer has is not asked.
use Rattle.std.proofs.Common.{ℕ, Bool, true, false, if◌then◌else◌, List, Option, Some, None, Result, Ok, Err}
use Rattle.std.specs.Prelude.{⊤}
use Rattle.std.specs.List.{AllByRecursion}
use Rattle.sctp_wire_types.specs.declared.chunk.Chunk.{Chunk}
use Rattle.sctp_wire_types.specs.declared.chunk.Chunk.TheVariants as chunks
use Rattle.sctp_wire_types.specs.declared.chunk.ChunkReconfig.{ChunkReconfig}
use Rattle.sctp_wire_types.specs.declared.error.Error.{Error}
use Rattle.sctp_wire_types.specs.declared.packet.CommonHeader.{CommonHeader}
use Rattle.sctp_wire_types.specs.declared.param.Param.{Param}
use Rattle.sctp_wire_types.specs.declared.param.Param.TheVariants as params
use Rattle.sctp_wire_types.specs.Checks.{checked_chunk}
use Rattle.sctp_wire.specs.declared.packet.Packet.{Packet}
use Rattle.sctp_streams.specs.declared.event.AssociationError.TheVariants as reasons
use Rattle.sctp_streams.specs.declared.event.Event.{Event}
use Rattle.sctp_streams.specs.Streams.{StreamMap}
use Rattle.sctp_inbound.specs.declared.receiver.AckTrigger.{AckTrigger}
use Rattle.sctp_inbound.specs.declared.receiver.AckTrigger.TheVariants as triggers
use Rattle.sctp_assoc.specs.Chunks.{after_packet, after_packet_of, checked_first, ended, on_chunk}
use Rattle.sctp_assoc.specs.Closing.{closed_by, exhausted}
use Rattle.sctp_assoc.specs.Resets.{after_param, behind_first, behind_params, on_reconfig}
use Rattle.sctp_assoc.specs.Shown.{Shown}
use Rattle.sctp_sides.specs.PastSpan.{ResetsPastOnly}
use Rattle.sctp_sides.proofs.ChunksPast.{KeepsPast, chunks_reset_no_more, on_request_keeps, on_response_keeps}
use Rattle.sctp_sides.proofs.PacketsByChunks.{chunks_carry}
use Rattle.sctp_sides.proofs.ResetsNoMore.{closes_reset_no_more, exhaustion_resets_no_more, packet_ends_reset_no_more}
use Rattle.sctp_closed.proofs.InChunks.{ChunkIsOver, ParamIsOver, ParamIsOverIf, chunk_keeps}
use Rattle.sctp_closed.proofs.Rules.{IsUnended, SideIs}
use Rattle.sctp_closed.proofs.Steps.{closed_keeps, exhausted_keeps}

-- Resets concern these streams alone, and what the rules keep is so.
pub record IsOnly (over : ℕ → Bool) (P : Bool → StreamMap → List Event → Type 0) (a : Shown) : Type 0 where
  pub past : ResetsPastOnly over a
  pub side : SideIs P a

-- so each request of a packet names these alone
abbrev pub PacketIsOver : (ℕ → Bool) → Option Packet → Type 0
PacketIsOver over None = ⊤
PacketIsOver over (Some packet) = AllByRecursion (ChunkIsOver over) packet.chunks

-- RE-CONFIG, whatever parameters it has
module _ (over : ℕ → Bool) where
  past_stays : (a : Shown) → KeepsPast over a a
  past_stays a = record { resets = λ r. r; control = λ w. w }

  past_then : {a b c : Shown} → KeepsPast over a b → KeepsPast over b c → KeepsPast over a c
  past_then first second = record {
    resets = λ r. second.resets (first.resets r);
    control = λ w. second.control (first.control w);
  }

  param_past : (param : Param) (a : Shown) → ParamIsOver over param → KeepsPast over a (after_param param a).0
  param_past (params.OutgoingResetRequest request) a past = on_request_keeps over a request past
  param_past (params.ReconfigResponse response) a past = on_response_keeps over a response
  param_past (params.HeartbeatInfo information) a past = past_stays a
  param_past (params.StateCookie cookie) a past = past_stays a
  param_past (params.SupportedExtensions kinds) a past = past_stays a
  param_past (params.Other kind value) a past = past_stays a

  behind_params_past : (x : Shown × Bool) (trigger : AckTrigger) → KeepsPast over x.0 (behind_params x trigger).0
  behind_params_past (a, true) trigger = past_stays a
  behind_params_past (a, false) trigger = past_stays a

  behind_first_past : (x : Shown × Bool) (second : Option Param) (trigger : AckTrigger) → ParamIsOverIf over second
      → KeepsPast over x.0 (behind_first x second trigger).0
  behind_first_past (a, true) None trigger past = past_stays a
  behind_first_past (a, true) (Some second) trigger past =
      past_then (param_past second a past) (behind_params_past (after_param second a) trigger)
  behind_first_past (a, false) second trigger past = past_stays a

  reconfig_past : (a : Shown) (reconfig : ChunkReconfig) (trigger : AckTrigger)
      → ChunkIsOver over (chunks.Reconfig reconfig) → KeepsPast over a (on_reconfig a reconfig trigger).0
  unfolding on_reconfig
  reconfig_past a reconfig trigger past =
      past_then (param_past reconfig.first a past.0)
      (behind_first_past (after_param reconfig.first a) reconfig.second trigger past.1)

  checked_past : (r : Result (Unit {0}) Error) (a : Shown) (header : CommonHeader) (reconfig : ChunkReconfig)
      (trigger : AckTrigger) (now : ℕ) → ChunkIsOver over (chunks.Reconfig reconfig)
      → KeepsPast over a (checked_first r a header (chunks.Reconfig reconfig) trigger now).0
  checked_past (Err fault) a header reconfig trigger now past = past_stays a
  checked_past (Ok done) a header reconfig trigger now past = reconfig_past a reconfig trigger past

  any_reconfig_past : (a : Shown) (header : CommonHeader) (reconfig : ChunkReconfig) (trigger : AckTrigger) (now : ℕ)
      → ChunkIsOver over (chunks.Reconfig reconfig)
      → KeepsPast over a (on_chunk a header (chunks.Reconfig reconfig) trigger now).0
  unfolding on_chunk
  any_reconfig_past a header reconfig trigger now past =
      checked_past (checked_chunk (chunks.Reconfig reconfig)) a header reconfig trigger now past

  by_reconfig : (a b : Shown) → KeepsPast over a b → ResetsPastOnly over a → ResetsPastOnly over b
  by_reconfig a b kept only = record { resets = kept.resets only.resets; control = kept.control only.control }

  chunk_past : (a : Shown) (header : CommonHeader) (c : Chunk) (trigger : AckTrigger) (now : ℕ) → ChunkIsOver over c
      → ResetsPastOnly over a → ResetsPastOnly over (on_chunk a header c trigger now).0
  chunk_past a header (chunks.Reconfig x) trigger now past only =
      by_reconfig a (on_chunk a header (chunks.Reconfig x) trigger now).0
      (any_reconfig_past a header x trigger now past) only
  chunk_past a header (chunks.Data x) trigger now past only =
      chunks_reset_no_more over a header (chunks.Data x) trigger now tt only
  chunk_past a header (chunks.Init x) trigger now past only =
      chunks_reset_no_more over a header (chunks.Init x) trigger now tt only
  chunk_past a header (chunks.InitAck x) trigger now past only =
      chunks_reset_no_more over a header (chunks.InitAck x) trigger now tt only
  chunk_past a header (chunks.SelectiveAck x) trigger now past only =
      chunks_reset_no_more over a header (chunks.SelectiveAck x) trigger now tt only
  chunk_past a header (chunks.Heartbeat x) trigger now past only =
      chunks_reset_no_more over a header (chunks.Heartbeat x) trigger now tt only
  chunk_past a header (chunks.HeartbeatAck x) trigger now past only =
      chunks_reset_no_more over a header (chunks.HeartbeatAck x) trigger now tt only
  chunk_past a header (chunks.Abort x) trigger now past only =
      chunks_reset_no_more over a header (chunks.Abort x) trigger now tt only
  chunk_past a header (chunks.Shutdown x) trigger now past only =
      chunks_reset_no_more over a header (chunks.Shutdown x) trigger now tt only
  chunk_past a header chunks.ShutdownAck trigger now past only =
      chunks_reset_no_more over a header chunks.ShutdownAck trigger now tt only
  chunk_past a header (chunks.Error x) trigger now past only =
      chunks_reset_no_more over a header (chunks.Error x) trigger now tt only
  chunk_past a header (chunks.CookieEcho x) trigger now past only =
      chunks_reset_no_more over a header (chunks.CookieEcho x) trigger now tt only
  chunk_past a header chunks.CookieAck trigger now past only =
      chunks_reset_no_more over a header chunks.CookieAck trigger now tt only
  chunk_past a header chunks.ShutdownComplete trigger now past only =
      chunks_reset_no_more over a header chunks.ShutdownComplete trigger now tt only
  chunk_past a header (chunks.ForwardTsn x) trigger now past only =
      chunks_reset_no_more over a header (chunks.ForwardTsn x) trigger now tt only
  chunk_past a header (chunks.IForwardTsn x) trigger now past only =
      chunks_reset_no_more over a header (chunks.IForwardTsn x) trigger now tt only
  chunk_past a header (chunks.Other kind flags value) trigger now past only =
      chunks_reset_no_more over a header (chunks.Other kind flags value) trigger now tt only

-- Packets
module _ (over : ℕ → Bool) (P : Bool → StreamMap → List Event → Type 0) (law : IsUnended over P) where
  chunk_only : (header : CommonHeader) (c : Chunk) (a : Shown) (trigger : AckTrigger) (now : ℕ) → ChunkIsOver over c
      → IsOnly over P a → IsOnly over P (on_chunk a header c trigger now).0
  chunk_only header c a trigger now said h = record {
    past = chunk_past over a header c trigger now said h.past;
    side = (chunk_keeps over P law a header c trigger now said).keeps h.past.resets h.side;
  }

  ended_only : (a : Shown) (trigger : AckTrigger) (now : ℕ) → IsOnly over P a → IsOnly over P (ended a trigger now)
  ended_only a trigger now h =
      record { past = packet_ends_reset_no_more a trigger now over h.past; side = h.side }

  closed_only : (a : Shown) → IsOnly over P a → IsOnly over P (closed_by a reasons.AssociationClosed)
  closed_only a h = record {
    past = closes_reset_no_more a reasons.AssociationClosed over h.past;
    side = (closed_keeps over P law a reasons.AssociationClosed).keeps h.past.resets h.side;
  }

  exhausted_only : (a : Shown) → IsOnly over P a → IsOnly over P (exhausted a)
  exhausted_only a h = record {
    past = exhaustion_resets_no_more a over h.past;
    side = (exhausted_keeps over P law a).keeps h.past.resets h.side;
  }

  packet_of_only : (packet : Option Packet) (a : Shown) (now : ℕ) → PacketIsOver over packet → IsOnly over P a
      → IsOnly over P (after_packet_of a packet now)
  packet_of_only None a now said h = h
  packet_of_only (Some packet) a now said h =
      chunks_carry (IsOnly over P) (IsOnly over P) (ChunkIsOver over) chunk_only ended_only closed_only exhausted_only
      packet.common_header packet.chunks a triggers.None now said h

  packet_only_unless : (lost : Bool) (packet : Option Packet) (a : Shown) (now : ℕ) → PacketIsOver over packet
      → IsOnly over P a → IsOnly over P (if lost then a else after_packet_of a packet now)
  packet_only_unless true packet a now said h = h
  packet_only_unless false packet a now said h = packet_of_only packet a now said h

  pub packet_only : (a : Shown) (packet : Option Packet) (now : ℕ) → PacketIsOver over packet → IsOnly over P a
      → IsOnly over P (after_packet a packet now)
  packet_only a packet now said h = packet_only_unless a.lost packet a now said h
