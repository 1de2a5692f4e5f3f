-- What each chunk carries on of a packet whose RE-CONFIGs name streams past their span alone, the packet does, and
-- nothing in it has resets concern another stream.
use Rattle.std.proofs.Common.{◌≡◌, sym, subst, ℕ, Bool, false, Some}
use Rattle.std.specs.List.{AllByRecursion}
use Rattle.std.proofs.lemmas.Bool.{cond-false}
use Rattle.sctp_wire_types.specs.declared.chunk.Chunk.{Chunk}
use Rattle.sctp_wire_types.specs.declared.packet.CommonHeader.{CommonHeader}
use Rattle.sctp_wire.specs.declared.packet.Packet.{Packet}
use Rattle.sctp_streams.specs.declared.event.AssociationError.TheVariants as reasons
use Rattle.sctp_inbound.specs.declared.receiver.AckTrigger.TheVariants as triggers
use Rattle.sctp_assoc.specs.Closing.{closed_by, exhausted, is_closed_state}
use Rattle.sctp_assoc.specs.Chunks.{after_packet, after_packet_of, ended, on_chunk}
use Rattle.sctp_assoc.specs.Shown.{Shown}
use Rattle.sctp_sides.specs.NoReset.{HasNoReset}
use Rattle.sctp_sides.specs.PastSpan.{ResetsPastIfAny, ResetsPastOnly}
use Rattle.sctp_sides.specs.SideLaws.{Closes, EndsPacket, Exhausts, TakesChunk}
use Rattle.sctp_sides.proofs.ChunksPast.{chunks_reset_no_more}
use Rattle.sctp_sides.proofs.PacketLaws.{chunks_lead_on, exhaustion_closes, faults_close, packets_end}
use Rattle.sctp_sides.proofs.PacketsByChunks.{chunks_carry}
use Rattle.sctp_sides.proofs.ResetsNoMore.{closes_end_resets, closes_reset_no_more, exhaustion_ends_resets}
use Rattle.sctp_sides.proofs.ResetsNoMore.{exhaustion_resets_no_more, packet_ends_reset_no_more}

-- P holds before each chunk, and Q once the packet is over, at its end or where a fault, the end of a shutdown or an
-- exhausted receive buffer closes. Resets concern streams past their span alone behind each step if they do before it,
-- and a close leaves none under way.
module _ (over : ℕ → Bool) (P Q : Shown → Type 0) (Said : Chunk → Type 0)
    (past : (c : Chunk) → Said c → ResetsPastIfAny over c)
    (takes : (header : CommonHeader) (c : Chunk) (a b : Shown) → Said c → TakesChunk header c a b
    → (ResetsPastOnly over a → ResetsPastOnly over b) → P a → P b)
    (ends : (a b : Shown) → EndsPacket a b → (ResetsPastOnly over a → ResetsPastOnly over b) → P a → Q b)
    (closes : (a b : Shown) → Closes a b → (ResetsPastOnly over a → ResetsPastOnly over b)
    → (is_closed_state a.state ≡ false → HasNoReset b) → P a → Q b)
    (exhausts : (a b : Shown) → Exhausts a b → (ResetsPastOnly over a → ResetsPastOnly over b)
    → (is_closed_state a.state ≡ false → HasNoReset b) → P a → Q b) where
  pub past_packets_carry : (packet : Packet) (a : Shown) (now : ℕ) → a.lost ≡ false
      → AllByRecursion Said packet.chunks → P a → Q (after_packet a (Some packet) now)
  past_packets_carry packet a now present said h =
      subst Q (sym (cond-false a.lost a (after_packet_of a (Some packet) now) present))
      (chunks_carry P Q Said
      (λ header c b trigger at s p.
      takes header c b (on_chunk b header c trigger at).0 s (chunks_lead_on header c b trigger at)
      (chunks_reset_no_more over b header c trigger at (past c s)) p)
      (λ b trigger at p.
      ends b (ended b trigger at) (packets_end b trigger at) (packet_ends_reset_no_more b trigger at over) p)
      (λ b p.
      closes b (closed_by b reasons.AssociationClosed) (faults_close b reasons.AssociationClosed)
      (closes_reset_no_more b reasons.AssociationClosed over) (closes_end_resets b reasons.AssociationClosed) p)
      (λ b p.
      exhausts b (exhausted b) (exhaustion_closes b) (exhaustion_resets_no_more b over) (exhaustion_ends_resets b) p)
      packet.common_header packet.chunks a triggers.None now said h)
